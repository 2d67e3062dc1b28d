use Rattle.std.proofs.Common.{arith, sym, inl, inr}
use Rattle.std.proofs.lemmas.Bool.{cases_eq}
use Rattle.blk_base.specs.Leaf.{apart_before}
use Rattle.foreign_format.proofs.Below.{fails_at, all_more}
use Rattle.foreign_format.proofs.block.all_apart.Goals as goal

pub returns-then-not-is_apart_above : goal.returns-then-not-is_apart_above
returns-then-not-is_apart_above c = sym (fails_at (apart_before c.args.bytes.now) c.args.count c.loop-i.i (omega arith) cc)

pub loop-i-preserved : goal.loop-i-preserved
loop-i-preserved c = record {
  apart = all_more (apart_before c.args.bytes.now) c.loop-i.i c.loop-i.invariant.apart cc;
  above = λ j within. elim (cases_eq j c.loop-i.i) [ inl e ↦ rw e (omega arith) | inr other ↦ omega (arith, c.loop-i.invariant.above j) ];
}
