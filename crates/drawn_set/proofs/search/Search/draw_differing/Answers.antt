use Rattle.std.proofs.Common.{◌≡◌, true, ℕ, List, get_or, sym, ap, ◌∙◌, subst, Contains}
use Rattle.std.proofs.lemmas.Bool.{true≢false}
use Rattle.std.proofs.lemmas.List.{take_all}
use Rattle.logged_volume.specs.Agreement.{do_names_differ}
use Rattle.drawn_set.specs.declared.search.Search.{Search}
use Rattle.drawn_set.specs.Search.{DrawsEach, Grows}
use Rattle.drawn_set.proofs.Searches.{draws_like, draws_more, draws_none, grows_none, grows_on}
use Rattle.drawn_set.proofs.search.Search.draw_differing.Goals as goal
use Rattle.drawn_set.proofs.search.Search.draw_differing.Goals.{then-branch+in_ok-draw, else-branch}

pub loop-ino-preserved : goal.loop-ino-preserved
loop-ino-preserved g c =
    let current = g.A.NameView.sub c.args.current.now in
    let logged = g.B.NameView.sub c.args.recovered.now in
    let inos = c.args.inos.now in
    let at = c.loop-ino.ino-index in
    let differ = λ (ino : ℕ). do_names_differ current logged ino ≡ true in
    let start = c.args.self.now in
    let old = c.loop-ino.self in
    let new = c.if-branch.self in
    let step : Grows old new × DrawsEach current logged (λ i. (i ≡ get_or inos at 0) × differ i) old new = elim c.if-branch.branch [
      | then-branch+in_ok-draw w ↦ subst (λ (s : Search). Grows old s × DrawsEach current logged (λ i. (i ≡ get_or inos at 0) × differ i) old s) (sym w.self-is) (
        w.in_ok-draw.ensures.grows,
        draws_like current logged (λ i. i ≡ get_or inos at 0) (λ i. (i ≡ get_or inos at 0) × differ i) old w.draw.new.self (λ i p. p.0)
            (λ i same. (same, subst (λ (j : ℕ). do_names_differ current logged j ≡ true) (sym same) (sym c.in_ok-do_differ.ensures ∙ w.if-branch.true))) w.in_ok-draw.ensures.draws,
      )
      | else-branch w ↦ subst (λ (s : Search). Grows old s × DrawsEach current logged (λ i. (i ≡ get_or inos at 0) × differ i) old s) (sym w.self-is)
          (grows_none old, draws_none current logged (λ i. (i ≡ get_or inos at 0) × differ i) old (λ i p. true≢false (sym p.1 ∙ ap (do_names_differ current logged) p.0 ∙ sym c.in_ok-do_differ.ensures ∙ w.if-branch.false)))
    ] in
    record { grows = grows_on start old new c.loop-ino.invariant.grows step.0; draws = draws_more current logged inos at differ start old new c.loop-ino-test.true step.0 c.loop-ino.invariant.draws step.1 }

pub returns-clause-draws : goal.returns-clause-draws
returns-clause-draws g c =
    let current = g.A.NameView.sub c.args.current.now in
    let logged = g.B.NameView.sub c.args.recovered.now in
    subst (λ (xs : List ℕ). DrawsEach current logged (λ i. Contains xs i × (do_names_differ current logged i ≡ true)) c.args.self.now c.loop-ino.self)
    (take_all c.loop-ino.ino-index c.args.inos.now c.loop-ino-test.false) c.loop-ino.invariant.draws
