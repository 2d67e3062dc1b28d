use Rattle.std.proofs.Common.{arith, refl}
use Rattle.std.proofs.lemmas.Grind.{common_steps}
use Rattle.script_text.proofs.PartLemmas.{parts_go_on, parts_end}
use Rattle.script_text.proofs.parts.parts.Goals as goal

pub loop-end-preserved : goal.loop-end-preserved
loop-end-preserved c = record {
  end_is = c.end_of-end-in-loop-end.ensures;
  short = grind (arith, common_steps);
  all = rw c.in_ok-push.ensures.items (parts_go_on c.loop-end.parts.items _ c.args.at c.loop-end.end c.loop-end.rest.now _ c.loop-end.invariant.end_is c.loop-end-test.true refl c.loop-end.invariant.all);
}

pub returns : goal.returns
returns c = rw c.in_ok-push-2.ensures.items (parts_end c.loop-end.parts.items c.loop-end.rest c.args.at _ (omega arith) c.loop-end.invariant.all)
