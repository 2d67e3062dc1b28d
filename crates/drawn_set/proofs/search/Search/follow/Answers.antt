use Rattle.std.proofs.Common.{sym, ◌∙◌, subst}
use Rattle.flat_model.specs.declared.view.NameAt.{NameAt}
use Rattle.std.proofs.Common.{List}
use Rattle.std.proofs.lemmas.List.{take_all}
use Rattle.std.proofs.lemmas.Bool.{true≢false}
use Rattle.drawn_set.specs.Search.{DrawsEach}
use Rattle.drawn_set.specs.Slots.{AreInSlotOf}
use Rattle.drawn_set.proofs.Following.{IsInSlotAmong, follows_member, follows_more, follows_none}
use Rattle.drawn_set.proofs.Searches.{draws_none, grows_none, grows_on}
use Rattle.drawn_set.proofs.search.Search.follow.Goals as goal

pub returns-then-not-has-clause-draws : goal.returns-then-not-has-clause-draws
returns-then-not-has-clause-draws g c = draws_none (g.A.NameView.sub c.args.current.now) (g.B.NameView.sub c.args.recovered.now) _ c.args.self.now (λ ino w. true≢false (sym w.0 ∙ sym c.has.ensures ∙ c.if-not-has.true))

pub loop-name-init : goal.loop-name-init
loop-name-init g c = record { grows = grows_none c.args.self.now; draws = follows_none (g.A.NameView.sub c.args.current.now) (g.B.NameView.sub c.args.recovered.now) c.args.self.now }

pub loop-name-preserved : goal.loop-name-preserved
loop-name-preserved g c =
    let current = g.A.NameView.sub c.args.current.now in
    let logged = g.B.NameView.sub c.args.recovered.now in
    record {
      grows = grows_on c.args.self.now c.loop-name.self c.draw_all.new.self c.loop-name.invariant.grows c.in_ok-draw_all.ensures.grows;
      draws = follows_more current logged c.deref-name-items.result.now c.loop-name.name-index c.name-item.result c.deref.result.now c.args.self.now c.loop-name.self c.draw_all.new.self c.loop-name-test.true c.name-item.is
          (subst (AreInSlotOf current logged c.name-item.result) (sym c.deref.ensures.value) c.in_ok-inos.ensures) c.in_ok-draw_all.ensures.grows c.loop-name.invariant.draws c.in_ok-draw_all.ensures.draws;
    }

pub returns-clause-grows : goal.returns-clause-grows
returns-clause-grows g c = c.loop-name.invariant.grows

pub returns-clause-draws : goal.returns-clause-draws
returns-clause-draws g c =
    let current = g.A.NameView.sub c.args.current.now in
    let logged = g.B.NameView.sub c.args.recovered.now in
    let whole = take_all c.loop-name.name-index c.deref-name-items.result.now c.loop-name-test.false ∙ c.deref-name-items.ensures.value in
    follows_member current logged c.args.member c.in_ok-names.names.items c.args.self.now c.loop-name.self (sym c.has.ensures ∙ c.if-not-has.false) c.in_ok-names.ensures
    (subst (λ (names : List NameAt). DrawsEach current logged (IsInSlotAmong current logged names) c.args.self.now c.loop-name.self) whole c.loop-name.invariant.draws)
