use Rattle.std.proofs.Common.{◌≡◌, drop}
use Rattle.script_text.specs.Words.{number_behind, number_of}
use Rattle.script_text.proofs.number.number.Given as goal

abbrev pub invariant-loop-digit : goal.invariant-loop-digit
invariant-loop-digit l = number_behind l.value (drop l.digit-index l.word) ≡ number_of l.word
