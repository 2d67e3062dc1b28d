use Rattle.std.proofs.Common.{◌∙◌, sym, arith}
use Rattle.script_text.proofs.LineLemmas.{is_some_byte, is_no_byte, script_goes_on, script_skips, script_stops, script_ends, line_is_in_range, lines_begin}
use Rattle.script_text.proofs.script.parse.Goals as goal

pub loop-rest-init : goal.loop-rest-init
loop-rest-init c = record { few = omega arith; all = rw c.new-lines.ensures.items (lines_begin c.args.bytes.now) }

pub loop-rest-preserved-in-Continue-1 : goal.loop-rest-preserved-in-Continue-1
loop-rest-preserved-in-Continue-1 c =
    let read = rw c.in-Ok-Some.field-0-is at c.in-Ok-Some.ensures in
    record {
      few = line_is_in_range _ _ _ read;
      all = rw c.in_ok-push-in-Ok-Some.ensures.items (sym (script_goes_on c.loop-rest.lines.items _ c.loop-rest.rest.now _ _ _ (is_some_byte _ (sym c.is_empty.ensures ∙ c.loop-rest-test.true)) c.cut.ensures.front c.cut.ensures.back read) ∙ c.loop-rest.invariant.all);
    }

pub loop-rest-preserved : goal.loop-rest-preserved
loop-rest-preserved c =
    let read = rw c.in-Ok-None.field-0-is at c.in-Ok-None.ensures in
    record {
      few = line_is_in_range _ _ _ read;
      all = sym (script_skips c.loop-rest.lines.items _ c.loop-rest.rest.now _ _ (is_some_byte _ (sym c.is_empty.ensures ∙ c.loop-rest-test.true)) c.cut.ensures.front c.cut.ensures.back read) ∙ c.loop-rest.invariant.all;
    }

pub returns-in-Err : goal.returns-in-Err
returns-in-Err c =
    rw c.at.ensures (script_stops c.in-Err.fault c.loop-rest.lines.items _ c.loop-rest.rest.now _ _ (is_some_byte _ (sym c.is_empty.ensures ∙ c.loop-rest-test.true)) c.cut.ensures.front c.in-Err.ensures c.loop-rest.invariant.all)

pub returns : goal.returns
returns c = sym c.loop-rest.invariant.all ∙ script_ends c.loop-rest.lines.items _ c.loop-rest.rest.now (is_no_byte _ (sym c.is_empty.ensures ∙ c.loop-rest-test.false))
