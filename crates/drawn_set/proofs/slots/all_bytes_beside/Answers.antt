use Rattle.std.proofs.Common.{◌+◌, ◌≤◌, sum_by, take, get_or, arith}
use Rattle.std.proofs.lemmas.List.Sums.{sum_by_more_le_part}
use Rattle.drawn_set.specs.Slots.{bytes_beside, entry_bytes}
use Rattle.drawn_set.proofs.Crowded.{beside_le}
use Rattle.drawn_set.proofs.slots.all_bytes_beside.Goals as goal

pub overflow_add-bytes : goal.overflow_add-bytes
overflow_add-bytes g c =
    let sub = g.V.NameView.sub c.args.current.now in
    let other = c.other-item.result in
    let part : sum_by (bytes_beside sub) (take c.loop-other.other-index c.args.others.now) + entry_bytes (get_or c.args.others.now c.loop-other.other-index other) ≤ sum_by entry_bytes c.args.others.now =
    sum_by_more_le_part (bytes_beside sub) entry_bytes c.args.others.now c.loop-other.other-index other c.loop-other-test.true (beside_le sub) in
    let part' : sum_by (bytes_beside sub) (take c.loop-other.other-index c.args.others.now) + entry_bytes other ≤ sum_by entry_bytes c.args.others.now = rw (← c.other-item.is) at part in
    let small = beside_le sub other in
    omega (arith, c.bytes_beside-bytes.ensures, c.loop-other.invariant, c.requires, small, part')
