use Rattle.std.proofs.Common.{◌≡◌, ℕ, List, get_or, subst, Contains}
use Rattle.std.proofs.lemmas.List.{take_all}
use Rattle.drawn_set.specs.Search.{DrawsEach}
use Rattle.drawn_set.proofs.Searches.{draws_like, draws_more, grows_on}
use Rattle.drawn_set.proofs.search.Search.draw_all.Goals as goal

pub loop-ino-preserved : goal.loop-ino-preserved
loop-ino-preserved g c =
    let current = g.A.NameView.sub c.args.current.now in
    let logged = g.B.NameView.sub c.args.recovered.now in
    let inos = c.args.inos.now in
    let at = c.loop-ino.ino-index in
    let grows = c.in_ok-draw.ensures.grows in
    let step = draws_like current logged (λ i. i ≡ get_or inos at 0) (λ i. (i ≡ get_or inos at 0) × Unit {0}) c.loop-ino.self c.draw.new.self (λ i p. p.0) (λ i same. (same, tt)) c.in_ok-draw.ensures.draws in
    record {
      grows = grows_on c.args.self.now c.loop-ino.self c.draw.new.self c.loop-ino.invariant.grows grows;
      draws = draws_more current logged inos at (λ _. Unit {0}) c.args.self.now c.loop-ino.self c.draw.new.self c.loop-ino-test.true grows c.loop-ino.invariant.draws step;
    }

pub returns-clause-draws : goal.returns-clause-draws
returns-clause-draws g c =
    let current = g.A.NameView.sub c.args.current.now in
    let logged = g.B.NameView.sub c.args.recovered.now in
    draws_like current logged (λ i. Contains c.args.inos.now i × Unit {0}) (Contains c.args.inos.now) c.args.self.now c.loop-ino.self (λ i c. (c, tt)) (λ i p. p.0)
    (subst (λ (xs : List ℕ). DrawsEach current logged (λ i. Contains xs i × Unit {0}) c.args.self.now c.loop-ino.self)
    (take_all c.loop-ino.ino-index c.args.inos.now c.loop-ino-test.false) c.loop-ino.invariant.draws)
