use Rattle.std.proofs.Common.{ℕ, List, [], ◌∷◌, ◌++◌, take, subst, sym, ap, ◌∙◌}
use Rattle.std.proofs.lemmas.List.{take_more}
use Rattle.flat_model.specs.Walk.{walk}
use Rattle.flat_sub.specs.Ends.{IsEnd}
use Rattle.flat_sub.specs.View.{sub_view}
use Rattle.flat_sub.proofs.Walks.{walk_more}
use Rattle.flat_sub.proofs.sub.FlatSub.walk.Goals as goal

pub loop-name-preserved : goal.loop-name-preserved
loop-name-preserved c =
    let sub = (sub_view c.args.self.now).sub in
    let names : List (List ℕ) = c.names-names.result.now in
    let i = c.loop-name.name-index in
    let last : List ℕ = c.as_bytes.result.now in
    let here = take_more names i c.name-item.result c.loop-name-test.true ∙ ap (λ x. take i names ++ x ∷ []) (sym c.name-item.is ∙ sym c.as_bytes.ensures.value) in
    let longer = ap (walk sub) here ∙ walk_more sub (take i names) last in
    subst (λ w. IsEnd sub.names w c.next-end.result) (sym longer) (c.next-end.ensures (walk sub (take i names)) c.loop-name.invariant)
