use Rattle.std.proofs.Common.{◌≡◌, None, subst}
use Rattle.drawn_set.specs.Search.{Visits}
use Rattle.drawn_set.proofs.Parents.{parent_is_dir}
use Rattle.drawn_set.proofs.Searches.{from_above, grows_on}
use Rattle.drawn_set.proofs.search.Search.climb.Goals as goal

pub loop-parent-preserved : goal.loop-parent-preserved
loop-parent-preserved g c =
    let current = g.A.NameView.sub c.args.current.now in
    let logged = g.B.NameView.sub c.args.recovered.now in
    let visits = subst (λ n. Visits current logged c.loop-parent.at n c.loop-parent.self c.visit.new.self) c.in-Some.is c.in_ok-parent.ensures.visits in
    record {
      dir = parent_is_dir current c.requires.coherent c.loop-parent.at c.in-Some.parent visits.goes_on.0;
      from = from_above current.names c.args.dir c.loop-parent.at c.in-Some.parent c.loop-parent.invariant.from visits.goes_on.0;
      grows = grows_on c.args.self.now c.loop-parent.self c.visit.new.self c.loop-parent.invariant.grows c.in_ok-parent.ensures.grows;
      search = λ is_good pending good search. visits.search is_good pending (good c.loop-parent.at c.loop-parent.invariant.from) (c.loop-parent.invariant.search is_good pending good search);
    }

pub returns-clause-grows : goal.returns-clause-grows
returns-clause-grows g c = grows_on c.args.self.now c.loop-parent.self c.visit.new.self c.loop-parent.invariant.grows c.in_ok-parent.ensures.grows

pub returns-clause-climbs : goal.returns-clause-climbs
returns-clause-climbs g c is_good pending good search =
    let current = g.A.NameView.sub c.args.current.now in
    let logged = g.B.NameView.sub c.args.recovered.now in
    let none : c.in_ok-parent.field-0 ≡ None = c.in_default.is in
    let visits = subst (λ n. Visits current logged c.loop-parent.at n c.loop-parent.self c.visit.new.self) none c.in_ok-parent.ensures.visits in
    visits.search is_good pending (good c.loop-parent.at c.loop-parent.invariant.from) (c.loop-parent.invariant.search is_good pending good search)
