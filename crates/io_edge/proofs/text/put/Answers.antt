use Rattle.std.proofs.Common.{arith}
use Rattle.std.proofs.lemmas.List.{take_rest}
use Rattle.io_edge.proofs.Sinks.{Takes-goes_on, TakesFront-goes_on, on_err}
use Rattle.io_edge.proofs.text.put.Goals as goal

pub returns-in_err-taken-clause-front : goal.returns-in_err-taken-clause-front
returns-in_err-taken-clause-front g c =
    on_err c.from_residual.result _ (TakesFront-goes_on _ _ _ c.args.text.now c.loop-taken.taken c.loop-taken.invariant.sent (rw take_rest at c.in_err-taken.ensures.front))

pub loop-taken-preserved : goal.loop-taken-preserved
loop-taken-preserved g c = record {
  within = omega (arith, c.in_ok-taken.ensures.fits);
  sent = Takes-goes_on _ _ _ c.args.text.now c.loop-taken.taken c.in_ok-taken.field-0 c.loop-taken.invariant.sent (rw take_rest at c.in_ok-taken.ensures.taken);
  counted = omega arith;
}
