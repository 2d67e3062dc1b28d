use Rattle.std.proofs.Common.{ap, sym, subst, ◌≡◌, ◌+◌, List}
use Rattle.std.specs.Prelude.{vec_len, vec_capacity}
use Rattle.block_table.specs.Slot.{BlockSlot, is_free}
use Rattle.block_table.specs.Table.{IsFirstFree, KnowsFree}
use Rattle.block_table.proofs.Kept.{IsTable-known, IsTable-taken}
use Rattle.block_table.proofs.table.BlockTable.take.Goals as goal

pub invariant_of-self : goal.invariant_of-self
invariant_of-self c =
    let less : vec_len c.self.inside.spare ≡ vec_len c.pop.new.self + 1 = sym c.in-Some.ensures.len in
    let first : IsFirstFree c.self.inside.slots.items 0 c.find_free-number.result = subst (λ (slots : List BlockSlot). IsFirstFree slots 0 c.find_free-number.result) c.deref.ensures.value c.find_free-number.ensures.first in
    let knows : KnowsFree c.self.inside.slots.items c.find_free-number.result c.find_free-number.new.groups.items = subst (λ (slots : List BlockSlot). KnowsFree slots c.find_free-number.result c.find_free-number.new.groups.items) c.deref.ensures.value c.find_free-number.ensures.knows in
    IsTable-taken (IsTable-known c.self.invariant c.find_free-number.result c.find_free-number.new.groups.items knows) c.find_free-number.result c.dirty.result first.inside (vec_len c.pop.new.self) (vec_capacity c.pop.new.self) less c.pop.ensures.capacity first.free (ap (λ (slot : BlockSlot). is_free slot.state) c.dirty.ensures)
