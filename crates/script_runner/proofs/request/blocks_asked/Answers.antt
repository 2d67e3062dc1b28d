use Rattle.std.specs.Cmp.Lexicographic.{same_text}
use Rattle.script_runner.proofs.CommandLemmas.{asks_for_blocks, if_some_weaker}
use Rattle.script_runner.proofs.request.blocks_asked.Goals as goal

pub returns-in-len4-clause-some : goal.returns-in-len4-clause-some
returns-in-len4-clause-some c =
    if_some_weaker c.block_number.result _ _
    (λ count. asks_for_blocks c.args.words.now c.command-item.result c.blocks-item.result c.as_str.result.now c.as_bytes.result.now count c.in-len4.len_at_least c.in-len4.len_below c.command-item.is c.blocks-item.is c.as_str.ensures.value c.as_bytes.ensures.value (same_text _ _ c.if-eq.ensures))
    c.block_number.ensures.some
