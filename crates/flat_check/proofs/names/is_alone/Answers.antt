use Rattle.std.proofs.Common.{arith}
use Rattle.std.proofs.lemmas.Bool.{leb-true, le-leb}
use Rattle.flat_check.proofs.Views.{slot_count, index_count}
use Rattle.flat_check.proofs.names.is_alone.Goals as goal

pub returns-then-count_in_slot-le1 : goal.returns-then-count_in_slot-le1
returns-then-count_in_slot-le1 c near =
    let slot = slot_count c.args.name.now c.args.sub.now.names.items c.args.sub.now.near.items c.requires.marked in
    let index = index_count c.args.name.now c.args.sub.now.names.items c.args.sub.now.near.items c.requires.marked in (
      λ test. let few = leb-true c.count_at_index.result 1 test in record { slot = omega (arith, slot, c.count_in_slot.ensures, c.if-count_in_slot-le1.true); index = omega (arith, index, c.count_at_index.ensures, few) },
      λ alone. let few = alone.index in le-leb c.count_at_index.result 1 (omega (arith, index, c.count_at_index.ensures, few)),
    )

pub returns-else-count_in_slot-le1 : goal.returns-else-count_in_slot-le1
returns-else-count_in_slot-le1 c near =
    let slot = slot_count c.args.name.now c.args.sub.now.names.items c.args.sub.now.near.items c.requires.marked in (
      λ test. let few = leb-true c.count_in_slot.result 1 test in absurd (omega (arith, few, c.if-count_in_slot-le1.false)),
      λ alone. let few = alone.slot in le-leb c.count_in_slot.result 1 (omega (arith, slot, c.count_in_slot.ensures, few)),
    )
