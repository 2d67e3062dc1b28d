-- The entry at the front is the first name that is left.
use Rattle.std.proofs.Common.{◌≡◌, None, sym, ap, ◌∙◌, length, arith}
use Rattle.blk_base.specs.Entries.{entry_from}
use Rattle.item_laws.specs.Readers.{entry_from-shortening}
use Rattle.item_laws.specs.Walk.{read_off, unwrap-none}
use Rattle.item_dir.specs.Entries.{entries_in}
use Rattle.item_dir.specs.Entry.{first_entry_view}
use Rattle.item_dir.proofs.entries.EntriesIterator.next.Goals as goal

pub returns-in_err-entry-clause-steps : goal.returns-in_err-entry-clause-steps
unfolding entries_in
returns-in_err-entry-clause-steps c =
    let none : entry_from c.self.inside.rest.now ≡ None = sym c.first_entry.ensures ∙ ap first_entry_view c.in_err-entry.was in
    let empty = sym c.self.view_is ∙ unwrap-none entry_from entry_from-shortening c.self.inside.rest.now none c.self.invariant in
    rw c.from_residual.ensures (empty, empty)

pub invariant_of-self : goal.invariant_of-self
invariant_of-self c = (read_off entry_from entry_from-shortening _ _ _ (sym c.first_entry.ensures ∙ ap first_entry_view c.in_ok-entry.was)).whole ∙ c.self.invariant

pub returns-clause-steps : goal.returns-clause-steps
unfolding entries_in
returns-clause-steps c = sym c.self.view_is ∙ (read_off entry_from entry_from-shortening _ _ _ (sym c.first_entry.ensures ∙ ap first_entry_view c.in_ok-entry.was)).entries c.self.invariant

pub returns-clause-goes : goal.returns-clause-goes
unfolding entries_in
returns-clause-goes c =
    let first = sym c.self.view_is ∙ (read_off entry_from entry_from-shortening _ _ _ (sym c.first_entry.ensures ∙ ap first_entry_view c.in_ok-entry.was)).entries c.self.invariant in
    let fewer = ap length first in
    record { on = λ _. (tt, tt, omega arith); keeps = tt; rests = λ _. tt }
