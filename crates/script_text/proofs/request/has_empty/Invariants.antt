use Rattle.std.proofs.Common.{◌≡◌, drop}
use Rattle.std.specs.List.{list_any}
use Rattle.script_text.specs.Parts.{bytes_of}
use Rattle.script_text.specs.Script.{is_empty_word}
use Rattle.script_text.proofs.request.has_empty.Given as goal

abbrev pub invariant-loop-word : goal.invariant-loop-word
invariant-loop-word l = list_any is_empty_word (drop l.word-index (bytes_of l.words)) ≡ list_any is_empty_word (bytes_of l.words)
