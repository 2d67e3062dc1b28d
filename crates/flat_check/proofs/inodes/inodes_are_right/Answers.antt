use Rattle.std.proofs.Common.{◌≡◌, ◌<◌, ◌≤◌, ℕ, List, length, get_or, refl, sym, ap, ◌∙◌, arith}
use Rattle.std.proofs.lemmas.Bool.{true≢false}
use Rattle.std.proofs.lemmas.List.Elements.{at_read}
use Rattle.flat_model.specs.Records.{InodeRecord}
use Rattle.flat_sub.specs.View.{sub_view}
use Rattle.flat_check.specs.Parts.{IsRightInode}
use Rattle.flat_check.proofs.Views.{all_more}
use Rattle.flat_check.proofs.Entries.{EntryHolds, EntryFails, each_entry_holds, one_entry_fails}
use Rattle.flat_check.proofs.inodes.inodes_are_right.Goals as goal

pub returns-then-not-is_right : goal.returns-then-not-is_right
returns-then-not-is_right c =
    let entries = c.args.sub.now.inodes.items in
    let Right : ℕ → InodeRecord → Type 0 = IsRightInode (sub_view c.args.sub.now).sub.names in
    let i = c.loop-entry.entry-index in
    let entry : ℕ × InodeRecord = c.entry-item.result in
    let below : i < length entries = omega (arith, c.loop-entry-test.true, ap length c.deref-entry-items.ensures.value) in
    let is : entry ≡ get_or entries i entry = c.entry-item.is ∙ ap (λ (l : List (ℕ × InodeRecord)). get_or l i entry) c.deref-entry-items.ensures.value in
    let wrong : EntryFails Right entry = λ right. true≢false (sym (c.is_right.ensures.1 right) ∙ c.if-not-is_right.true) in (
      λ yes. absurd (true≢false (sym yes)),
      λ each. absurd (one_entry_fails Right entries i c.requires.inodes_rise below (at_read entries (EntryFails Right) i entry below is wrong) each),
    )

pub loop-entry-preserved : goal.loop-entry-preserved
loop-entry-preserved c =
    let entries = c.args.sub.now.inodes.items in
    let Right : ℕ → InodeRecord → Type 0 = IsRightInode (sub_view c.args.sub.now).sub.names in
    let i = c.loop-entry.entry-index in
    let entry : ℕ × InodeRecord = c.entry-item.result in
    let below : i < length entries = omega (arith, c.loop-entry-test.true, ap length c.deref-entry-items.ensures.value) in
    let is : entry ≡ get_or entries i entry = c.entry-item.is ∙ ap (λ (l : List (ℕ × InodeRecord)). get_or l i entry) c.deref-entry-items.ensures.value in
    all_more (EntryHolds Right) entries i entry below is (c.is_right.ensures.0 c.if-not-is_right.false) c.loop-entry.invariant

pub returns : goal.returns
returns c =
    let entries = c.args.sub.now.inodes.items in
    let Right : ℕ → InodeRecord → Type 0 = IsRightInode (sub_view c.args.sub.now).sub.names in
    let past : length entries ≤ c.loop-entry.entry-index = omega (arith, c.loop-entry-test.false, ap length c.deref-entry-items.ensures.value) in (
      λ _. each_entry_holds Right entries (λ k d low high. c.loop-entry.invariant k d low (omega (arith, high, past))),
      λ _. refl,
    )
