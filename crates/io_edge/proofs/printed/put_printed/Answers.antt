use Rattle.std.proofs.Common.{◌≤◌, length, ap, subst, List, ℕ, take_all, arith}
use Rattle.std.specs.List.{flat_map}
use Rattle.io_edge.specs.Edge.{Takes}
use Rattle.io_edge.proofs.Sinks.{TakesFront-at, on_err}
use Rattle.io_edge.specs.Printed.{printed_byte, printed}
use Rattle.io_edge.proofs.printed.put_printed.Goals as goal

pub returns-in_err-put_byte-clause-front : goal.returns-in_err-put_byte-clause-front
unfolding printed
returns-in_err-put_byte-clause-front g c =
    on_err c.from_residual.result _
    (TakesFront-at printed_byte c.args.bytes.now c.loop-place.place 0 _ _ _ _ (omega (arith, c.len-place-end.ensures.value)) (ap printed_byte c.byte.ensures) c.loop-place.invariant.sent c.in_err-put_byte.ensures.front)

pub returns-clause-whole : goal.returns-clause-whole
unfolding printed
returns-clause-whole g c =
    let past : length c.args.bytes.now ≤ c.loop-place.place = omega (arith, c.len-place-end.ensures.value) in
    subst (λ (bytes : List ℕ). Takes (g.K.Sink.taken c.args.to.now) (flat_map printed_byte bytes) (g.K.Sink.taken c.loop-place.to)) (take_all c.loop-place.place c.args.bytes.now past) c.loop-place.invariant.sent
