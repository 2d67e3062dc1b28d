use Rattle.std.proofs.Common.{◌∙◌, sym, arith}
use Rattle.std.proofs.lemmas.Grind.{common_steps}
use Rattle.std.proofs.lemmas.Result.{err_from_is_err_and}
use Rattle.script_text.proofs.LineLemmas.{names_go_on, names_stop, names_end}
use Rattle.script_text.proofs.path.all_names.Goals as goal

pub returns-in_err-name-clause-names : goal.returns-in_err-name-clause-names
returns-in_err-name-clause-names c =
    let p = err_from_is_err_and c.from_residual.result c.from_residual.ensures.1 in
    rw (p.1, p.2) (names_stop c.in_err-name.field-0.0 c.loop-piece.names.items c.args.pieces.now c.loop-piece.piece-index _ _ c.loop-piece-test.true c.in_err-name.ensures c.loop-piece.invariant.all)

pub loop-piece-preserved : goal.loop-piece-preserved
loop-piece-preserved c = record {
  count = grind (arith, common_steps);
  all = rw c.in_ok-push.ensures.items (sym (names_go_on c.loop-piece.names.items c.args.pieces.now c.loop-piece.piece-index _ c.in_ok-name.field-0 c.loop-piece-test.true c.in_ok-name.ensures) ∙ c.loop-piece.invariant.all);
}

pub returns-clause-names : goal.returns-clause-names
returns-clause-names c = sym c.loop-piece.invariant.all ∙ names_end c.loop-piece.names.items c.args.pieces.now c.loop-piece.piece-index c.loop-piece-test.false
