use Rattle.std.proofs.Common.{◌∙◌, ◌+◌, ℕ, List, ◌∷◌, length, sym, subst, arith, length-append}
use Rattle.std.proofs.lemmas.Bool.{false≢true}
use Rattle.std.proofs.lemmas.Slice.Eq.{bytes_eq-Decides}
use Rattle.blk_base.specs.Entries.{EntryValue, entry_bytes}
use Rattle.item_dir.specs.Entry.{entry_view}
use Rattle.name_items.specs.Places.{IsEntryNamed}
use Rattle.name_items.proofs.Seen.{IsLeft, left_here, left_more}
use Rattle.name_items.proofs.place.entry_place.Goals as goal

pub returns-then-eq : goal.returns-then-eq
returns-then-eq c =
    let name : List ℕ = c.args.name.now in
    let e : EntryValue = entry_view c.in-Some.entry in
    let left : IsLeft entry_bytes (IsEntryNamed name) c.args.entries (e ∷ c.next.new.self) c.loop-entry.at = subst (λ (l : List EntryValue). IsLeft entry_bytes (IsEntryNamed name) c.args.entries l c.loop-entry.at) c.in-Some.ensures.steps c.loop-entry.invariant.0 in
    left_here entry_bytes (IsEntryNamed name) c.args.entries c.next.new.self e c.loop-entry.at (c.loop-entry.at + 30 + length e.name + length e.value) left ((bytes_eq-Decides e.name name).0 (sym c.if-eq.ensures)) (omega (arith, length-append e.name e.value))

pub loop-entry-preserved : goal.loop-entry-preserved
loop-entry-preserved c =
    let name : List ℕ = c.args.name.now in
    let e : EntryValue = entry_view c.in-Some.entry in
    let left : IsLeft entry_bytes (IsEntryNamed name) c.args.entries (e ∷ c.next.new.self) c.loop-entry.at = subst (λ (l : List EntryValue). IsLeft entry_bytes (IsEntryNamed name) c.args.entries l c.loop-entry.at) c.in-Some.ensures.steps c.loop-entry.invariant.0 in
    (left_more entry_bytes (IsEntryNamed name) c.args.entries c.next.new.self e c.loop-entry.at (c.loop-entry.at + 30 + length e.name + length e.value) left (λ same. false≢true (c.if-eq.ensures ∙ (bytes_eq-Decides e.name name).1 same)) (omega (arith, length-append e.name e.value)), tt, tt)
