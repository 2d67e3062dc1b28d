use Rattle.std.proofs.Common.{◌∙◌, sym}
use Rattle.script_text.proofs.PartLemmas.{empty_found, empty_behind}
use Rattle.script_text.proofs.request.has_empty.Goals as goal

pub returns-then-is_empty : goal.returns-then-is_empty
returns-then-is_empty c = sym (empty_found c.args.words.now c.loop-word.word-index _ c.loop-word-test.true (sym c.is_empty.ensures ∙ c.if-is_empty.true)) ∙ c.loop-word.invariant

pub loop-word-preserved : goal.loop-word-preserved
loop-word-preserved c = sym (empty_behind c.args.words.now c.loop-word.word-index _ c.loop-word-test.true (sym c.is_empty.ensures ∙ c.if-is_empty.false)) ∙ c.loop-word.invariant
