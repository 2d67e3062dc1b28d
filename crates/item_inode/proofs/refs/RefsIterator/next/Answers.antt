-- The entry at the front is the first name that is left.
use Rattle.std.proofs.Common.{◌≡◌, None, sym, ap, ◌∙◌, length, arith}
use Rattle.blk_base.specs.Entries.{ref_from}
use Rattle.item_laws.specs.Readers.{ref_from-shortening}
use Rattle.item_laws.specs.Walk.{read_off, unwrap-none}
use Rattle.item_inode.specs.Names.{refs_in, first_ref_view}
use Rattle.item_inode.proofs.refs.RefsIterator.next.Goals as goal

pub returns-in_err-index-clause-steps : goal.returns-in_err-index-clause-steps
unfolding refs_in
returns-in_err-index-clause-steps c =
    let none : ref_from c.self.inside.rest.now ≡ None = sym c.first_ref.ensures ∙ ap first_ref_view c.in_err-index.was in
    let empty = sym c.self.view_is ∙ unwrap-none ref_from ref_from-shortening c.self.inside.rest.now none c.self.invariant in
    rw c.from_residual.ensures (empty, empty)

pub invariant_of-self : goal.invariant_of-self
invariant_of-self c = (read_off ref_from ref_from-shortening _ _ _ (sym c.first_ref.ensures ∙ ap first_ref_view c.in_ok-index.was)).whole ∙ c.self.invariant

pub returns-clause-steps : goal.returns-clause-steps
unfolding refs_in
returns-clause-steps c = sym c.self.view_is ∙ (read_off ref_from ref_from-shortening _ _ _ (sym c.first_ref.ensures ∙ ap first_ref_view c.in_ok-index.was)).entries c.self.invariant

pub returns-clause-goes : goal.returns-clause-goes
unfolding refs_in
returns-clause-goes c =
    let first = sym c.self.view_is ∙ (read_off ref_from ref_from-shortening _ _ _ (sym c.first_ref.ensures ∙ ap first_ref_view c.in_ok-index.was)).entries c.self.invariant in
    let fewer = ap length first in
    record { on = λ _. (tt, tt, omega arith); keeps = tt; rests = λ _. tt }
