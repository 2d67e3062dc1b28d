use Rattle.std.proofs.Common.{inl, inr, arith}
use Rattle.script_runner.proofs.WordLemmas.{number_is_above, number_is_read}
use Rattle.script_runner.proofs.words.number.Goals as goal
use Rattle.script_runner.proofs.words.number.Goals.{in_default, in_default-2}

-- src/words.rt:24:13
pub returns-then-value-from-clause-none : goal.returns-then-value-from-clause-none
returns-then-value-from-clause-none c = λ _ value is.
    number_is_above c.args.word.now c.args.most c.loop-digit.value c.loop-digit.digit-index value (omega arith) c.loop-digit.invariant.spells (omega arith) is

-- src/words.rt:8:1
pub returns-clause-number : goal.returns-clause-number
returns-clause-number c =
    number_is_read c.args.word.now c.loop-digit.digit-index c.loop-digit.value c.loop-digit-test.false
    (elim c.if-word-lt2.branch [ in_default w ↦ omega arith | in_default-2 w ↦ omega arith ])
    (elim c.if-word-lt2.branch [
      | in_default w ↦ inl (omega arith)
      | in_default-2 w ↦ inr (omega (arith, c.loop-digit.invariant.digits 0 (omega arith)))
    ])
    c.loop-digit.invariant.digits c.loop-digit.invariant.spells
