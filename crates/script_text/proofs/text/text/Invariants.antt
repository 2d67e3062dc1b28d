use Rattle.std.proofs.Common.{◌≡◌, drop}
use Rattle.script_text.specs.declared.text.Spot.TheVariants.{Between}
use Rattle.script_text.specs.Words.{text_from}
use Rattle.script_text.proofs.WordLemmas.{with_front}
use Rattle.script_text.proofs.text.text.Given as goal

abbrev pub invariant-loop-byte : goal.invariant-loop-byte
invariant-loop-byte l = with_front l.text.items (text_from l.spot (drop l.byte-index l.word)) ≡ text_from Between l.word
