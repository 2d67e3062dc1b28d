-- The entry at the front is the first name that is left.
use Rattle.std.proofs.Common.{◌≡◌, None, sym, ap, ◌∙◌, length, arith}
use Rattle.blk_base.specs.Entries.{extref_from}
use Rattle.item_laws.specs.Readers.{extref_from-shortening}
use Rattle.item_laws.specs.Walk.{read_off, unwrap-none}
use Rattle.item_inode.specs.Names.{extrefs_in, first_extref_view}
use Rattle.item_inode.proofs.extrefs.ExtRefsIterator.next.Goals as goal

pub returns-in_err-parent-clause-steps : goal.returns-in_err-parent-clause-steps
unfolding extrefs_in
returns-in_err-parent-clause-steps c =
    let none : extref_from c.self.inside.rest.now ≡ None = sym c.first_extref.ensures ∙ ap first_extref_view c.in_err-parent.was in
    let empty = sym c.self.view_is ∙ unwrap-none extref_from extref_from-shortening c.self.inside.rest.now none c.self.invariant in
    rw c.from_residual.ensures (empty, empty)

pub invariant_of-self : goal.invariant_of-self
invariant_of-self c = (read_off extref_from extref_from-shortening _ _ _ (sym c.first_extref.ensures ∙ ap first_extref_view c.in_ok-parent.was)).whole ∙ c.self.invariant

pub returns-clause-steps : goal.returns-clause-steps
unfolding extrefs_in
returns-clause-steps c = sym c.self.view_is ∙ (read_off extref_from extref_from-shortening _ _ _ (sym c.first_extref.ensures ∙ ap first_extref_view c.in_ok-parent.was)).entries c.self.invariant

pub returns-clause-goes : goal.returns-clause-goes
unfolding extrefs_in
returns-clause-goes c =
    let first = sym c.self.view_is ∙ (read_off extref_from extref_from-shortening _ _ _ (sym c.first_extref.ensures ∙ ap first_extref_view c.in_ok-parent.was)).entries c.self.invariant in
    let fewer = ap length first in
    record { on = λ _. (tt, tt, omega arith); keeps = tt; rests = λ _. tt }
