use Rattle.std.proofs.Common.{sym, arith}
use Rattle.script_text.proofs.PartLemmas.{first_place, no_place}
use Rattle.script_text.proofs.parts.end_of.Goals as goal

pub returns-then-byte-at : goal.returns-then-byte-at
returns-then-byte-at c = sym (first_place c.args.bytes.now c.args.at c.loop-place.place (omega arith) c.loop-place.invariant (omega arith))

pub returns : goal.returns
returns c = sym (no_place c.args.bytes.now c.args.at (λ k lt. c.loop-place.invariant k (omega arith)))
