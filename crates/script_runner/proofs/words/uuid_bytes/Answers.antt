use Rattle.std.proofs.Common.{sym, true≢false}
use Rattle.script_runner.proofs.UuidLemmas.{text_from_parsed, parsed_from_text}
use Rattle.script_runner.proofs.words.uuid_bytes.Goals as goal

pub returns-in-Ok-clause-text : goal.returns-in-Ok-clause-text
returns-in-Ok-clause-text c = text_from_parsed c.args.word.now c.in-Ok.uuid c.if-word-ne36.false (sym c.in-Ok.ensures.bytes)

pub returns-in-Err-clause-none : goal.returns-in-Err-clause-none
returns-in-Err-clause-none c = λ _ text. absurd (true≢false (sym (c.in-Err.ensures.ok.1 (_, parsed_from_text c.args.word.now text))))
