use Rattle.std.proofs.Common.{ℕ, List, sym, subst}
use Rattle.std.specs.Cmp.Lexicographic.{same_text}
use Rattle.script_runner.specs.Commands.{bytes_of}
use Rattle.script_runner.specs.Mkfs.{HasVolumeAsked, HasVolumeOf, IsOldOrAsked}
use Rattle.volume_mkfs.specs.Made.{CrashLeaves}
use Rattle.volume_mkfs.proofs.Written.{crash_same}
use Rattle.script_runner.proofs.MadeLemmas.{old_asked}
use Rattle.script_runner.proofs.CommandLemmas.{if_told_weaker, is_mkfs, out_of_range}
use Rattle.script_runner.proofs.command.execute.Goals as goal

pub returns-in_default-clause-crash : goal.returns-in_default-clause-crash
returns-in_default-clause-crash g c =
    let words = bytes_of c.args.words.now in
    crash_same (IsOldOrAsked words) (g.D.Disk.told c.args.disk.now) (old_asked words)

pub returns-in_default-2-clause-crash : goal.returns-in_default-2-clause-crash
returns-in_default-2-clause-crash g c =
    let words = bytes_of c.args.words.now in
    crash_same (IsOldOrAsked words) (g.D.Disk.told c.args.disk.now) (old_asked words)

pub returns-in_default-3-clause-crash : goal.returns-in_default-3-clause-crash
returns-in_default-3-clause-crash g c =
    let words = bytes_of c.args.words.now in
    crash_same (IsOldOrAsked words) (g.D.Disk.told c.args.disk.now) (old_asked words)

pub returns-in-len4-clause-usage : goal.returns-in-len4-clause-usage
returns-in-len4-clause-usage g c =
    let mkfs = is_mkfs c.args.words.now c.command-item.result c.fsid-item.result c.blocks-item.result c.subs-item.result c.as_str.result.now c.as_str-in-len4.result.now c.as_str-in-len4-2.result.now c.as_str-in-len4-3.result.now
    c.in-len4.len_at_least c.in-len4.len_below c.command-item.is c.fsid-item.is c.blocks-item.is c.subs-item.is c.as_str.ensures.value c.as_str-in-len4.ensures.value c.as_str-in-len4-2.ensures.value c.as_str-in-len4-3.ensures.value (same_text _ _ c.if-eq.ensures) in
    (λ is _. c.make.ensures.command.0 is, λ none. absurd (none (_, _, _, mkfs)))

pub returns-in-len4-clause-range : goal.returns-in-len4-clause-range
returns-in-len4-clause-range g c =
    let mkfs = is_mkfs c.args.words.now c.command-item.result c.fsid-item.result c.blocks-item.result c.subs-item.result c.as_str.result.now c.as_str-in-len4.result.now c.as_str-in-len4-2.result.now c.as_str-in-len4-3.result.now
    c.in-len4.len_at_least c.in-len4.len_below c.command-item.is c.fsid-item.is c.blocks-item.is c.subs-item.is c.as_str.ensures.value c.as_str-in-len4.ensures.value c.as_str-in-len4-2.ensures.value c.as_str-in-len4-3.ensures.value (same_text _ _ c.if-eq.ensures) in (
      λ is. record { fsid = c.as_str-in-len4.result.now; blocks = c.as_str-in-len4-2.result.now; subs = c.as_str-in-len4-3.result.now; is_mkfs = mkfs; out_of_range = c.make.ensures.range.0 is },
      λ out. c.make.ensures.range.1 (out_of_range _ _ c.as_str-in-len4.result.now c.as_str-in-len4-2.result.now c.as_str-in-len4-3.result.now mkfs out),
    )

pub returns-in-len4-clause-made : goal.returns-in-len4-clause-made
returns-in-len4-clause-made g c = λ is.
    let mkfs = is_mkfs c.args.words.now c.command-item.result c.fsid-item.result c.blocks-item.result c.subs-item.result c.as_str.result.now c.as_str-in-len4.result.now c.as_str-in-len4-2.result.now c.as_str-in-len4-3.result.now
    c.in-len4.len_at_least c.in-len4.len_below c.command-item.is c.fsid-item.is c.blocks-item.is c.subs-item.is c.as_str.ensures.value c.as_str-in-len4.ensures.value c.as_str-in-len4-2.ensures.value c.as_str-in-len4-3.ensures.value (same_text _ _ c.if-eq.ensures) in
    if_told_weaker (g.D.Disk.seen c.make.new.disk) (HasVolumeOf c.as_str-in-len4.result.now c.as_str-in-len4-2.result.now c.as_str-in-len4-3.result.now) _
    (λ image has. subst (λ (words : List (List ℕ)). HasVolumeAsked words image) (sym mkfs) has) (c.make.ensures.made is)

pub returns-in-len4-clause-crash : goal.returns-in-len4-clause-crash
returns-in-len4-clause-crash g c =
    let mkfs = is_mkfs c.args.words.now c.command-item.result c.fsid-item.result c.blocks-item.result c.subs-item.result c.as_str.result.now c.as_str-in-len4.result.now c.as_str-in-len4-2.result.now c.as_str-in-len4-3.result.now
    c.in-len4.len_at_least c.in-len4.len_below c.command-item.is c.fsid-item.is c.blocks-item.is c.subs-item.is c.as_str.ensures.value c.as_str-in-len4.ensures.value c.as_str-in-len4-2.ensures.value c.as_str-in-len4-3.ensures.value (same_text _ _ c.if-eq.ensures) in
    subst (λ (words : List (List ℕ)). CrashLeaves (g.D.Disk.told c.args.disk.now) (g.D.Disk.told c.make.new.disk) (IsOldOrAsked words)) (sym mkfs) c.make.ensures.crash
