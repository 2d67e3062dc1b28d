use Rattle.foreign_read.proofs.Words.{is_word, one_word}
use Rattle.foreign_read.proofs.command.is_foreign.Goals as goal

pub returns-in-len1 : goal.returns-in-len1
returns-in-len1 c =
    let words = one_word c.args.words.now c.word-item.result c.as_str.result.now c.in-len1.len_at_least c.in-len1.len_below c.word-item.is c.as_str.ensures.value in
    is_word _ c.as_str.result.now _ c.eq.result words c.eq.ensures
