use Rattle.std.proofs.Common.{ap, arith, inl, inr, ◌≡◌, ◌+◌, false}
use Rattle.std.specs.Prelude.{vec_len, vec_capacity}
use Rattle.block_table.specs.Slot.{BlockSlot, is_free}
use Rattle.block_table.specs.Table.{Table, state_at}
use Rattle.block_table.proofs.Kept.{IsTable-kept_at, IsTable-reserved}
use Rattle.block_table.proofs.table.BlockTable.reuse.Goals as goal

pub invariant_of-self : goal.invariant_of-self
invariant_of-self c =
    let less : vec_len c.pop.new.self + 1 ≡ vec_len c.self.inside.spare = c.in-Some.ensures.len in
    let same_room : vec_capacity c.pop.new.self ≡ vec_capacity c.self.inside.spare = c.pop.ensures.capacity in
    let taken : is_free (state_at c.args.self.now c.args.at) ≡ false = elim c.requires.written [ inl sealed ↦ ap is_free sealed | inr live ↦ ap is_free live ] in
    let fewer = IsTable-reserved c.self.invariant (vec_len c.pop.new.self) (vec_capacity c.pop.new.self) (omega (arith, c.self.invariant.fits, less, same_room)) (omega (arith, c.self.invariant.spare_small, less)) in
    IsTable-kept_at fewer c.args.self.now c.args.at (ap (λ (table : Table). table.slots) c.self.view_is) c.number_of.result c.number_of.ensures c.empty.result taken (ap (λ (slot : BlockSlot). is_free slot.state) c.empty.ensures)
