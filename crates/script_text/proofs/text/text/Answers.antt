use Rattle.std.proofs.Common.{sym}
use Rattle.script_text.proofs.WordLemmas.{text_escapes, text_is_cut, text_is_whole}
use Rattle.script_text.proofs.text.text.Goals as goal

pub returns-in_default : goal.returns-in_default
returns-in_default c = text_escapes c.args.word.now c.loop-byte.text.items c.loop-byte.spot c.loop-byte.byte-index c.loop-byte-test.true (sym c.in_default.ensures) c.loop-byte.invariant

pub returns-in-Between : goal.returns-in-Between
returns-in-Between c = text_is_whole c.args.word.now c.loop-byte.text.items c.loop-byte.spot c.loop-byte.byte-index c.loop-byte-test.false c.in-Between.is c.loop-byte.invariant

pub returns-in_default-spot : goal.returns-in_default-spot
returns-in_default-spot c = text_is_cut c.args.word.now c.loop-byte.text.items c.loop-byte.spot c.loop-byte.byte-index c.loop-byte-test.false c.in_default-spot.not-Between c.loop-byte.invariant
