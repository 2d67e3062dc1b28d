use Rattle.std.proofs.Common.{sym, ◌∙◌, subst}
use Rattle.std.proofs.lemmas.Result.{IfOk-weaker}
use Rattle.drawn_set.specs.Names.{AreInodesInEither}
use Rattle.drawn_set.specs.Search.{DrawsDiffering, Grows}
use Rattle.drawn_set.proofs.Searches.{draws_first, draws_target, grows_on, ok_both}
use Rattle.drawn_set.proofs.search.Search.draw_first.Goals as goal

pub returns-then-not-is_dir-clause-draws : goal.returns-then-not-is_dir-clause-draws
returns-then-not-is_dir-clause-draws g c =
    draws_target (g.A.NameView.sub c.args.current.now) (g.B.NameView.sub c.args.recovered.now) c.args.target c.args.self.now c.draw.new.self (sym c.is_dir.ensures ∙ c.if-not-is_dir.true) c.in_ok-draw.ensures.draws

pub returns-clause-grows : goal.returns-clause-grows
returns-clause-grows g c =
    IfOk-weaker c.draw_differing.result _ _ (λ _ grows. grows_on c.args.self.now c.draw.new.self c.draw_differing.new.self c.in_ok-draw.ensures.grows grows) c.draw_differing.ensures.grows

pub returns-clause-draws : goal.returns-clause-draws
returns-clause-draws g c =
    let current = g.A.NameView.sub c.args.current.now in
    let logged = g.B.NameView.sub c.args.recovered.now in
    let are = subst (AreInodesInEither current.names logged.names c.args.target) (sym c.deref.ensures.value) c.in_ok-inos.ensures in
    ok_both c.draw_differing.result
    (λ (grows : Grows c.draw.new.self c.draw_differing.new.self) (draws : DrawsDiffering current logged c.deref.result.now c.draw.new.self c.draw_differing.new.self).
    draws_first current logged c.args.target c.deref.result.now c.args.self.now c.draw.new.self c.draw_differing.new.self (sym c.is_dir.ensures ∙ c.if-not-is_dir.false) are grows c.in_ok-draw.ensures.draws draws)
    c.draw_differing.ensures.grows c.draw_differing.ensures.draws
