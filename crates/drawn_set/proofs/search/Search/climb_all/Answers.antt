use Rattle.std.proofs.Common.{◌+◌, ℕ, List, drop, get_or, subst}
use Rattle.std.proofs.lemmas.List.Elements.{Contains-get_or}
use Rattle.std.proofs.Math.ListN.{drop_of_length-le}
use Rattle.drawn_set.specs.Search.{IsSearch}
use Rattle.drawn_set.proofs.Searches.{drops_more, grows_on}
use Rattle.drawn_set.proofs.search.Search.climb_all.Goals as goal

pub loop-dir-preserved : goal.loop-dir-preserved
loop-dir-preserved g c =
    let current = g.A.NameView.sub c.args.current.now in
    let logged = g.B.NameView.sub c.args.recovered.now in
    let dirs = c.args.dirs.now in
    let at = c.loop-dir.dir-index in
    record {
      grows = grows_on c.args.self.now c.loop-dir.self c.climb.new.self c.loop-dir.invariant.grows c.in_ok-climb.ensures.grows;
      search = λ is_good good search. c.in_ok-climb.ensures.climbs is_good (drop (at + 1) dirs) (good (get_or dirs at 0) (Contains-get_or dirs at 0 c.loop-dir-test.true))
          (subst (λ (pending : List ℕ). IsSearch current logged is_good pending c.loop-dir.self) (drops_more dirs at c.loop-dir-test.true) (c.loop-dir.invariant.search is_good good search));
    }

pub returns-clause-climbs : goal.returns-clause-climbs
returns-clause-climbs g c is_good good search =
    let current = g.A.NameView.sub c.args.current.now in
    let logged = g.B.NameView.sub c.args.recovered.now in
    subst (λ (pending : List ℕ). IsSearch current logged is_good pending c.loop-dir.self) (drop_of_length-le c.args.dirs.now c.loop-dir-test.false) (c.loop-dir.invariant.search is_good good search)
