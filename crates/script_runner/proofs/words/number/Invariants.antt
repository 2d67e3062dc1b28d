use Rattle.std.proofs.Common.{◌≡◌, ◌≤◌, ◌<◌, ℕ, drop, slice_index}
use Rattle.script_runner.specs.Words.{IsDigit, number_behind}
use Rattle.script_runner.proofs.words.number.Given as goal

abbrev pub invariant-loop-digit : goal.invariant-loop-digit
invariant-loop-digit l = record {
  digits : (k : ℕ) → k < l.digit-index → IsDigit (slice_index l.word k);
  spells : number_behind l.value (drop l.digit-index l.word) ≡ number_behind 0 l.word;
  small : l.value ≤ l.most;
}
