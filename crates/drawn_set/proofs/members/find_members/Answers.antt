use Rattle.std.proofs.Common.{◌≡◌, refl, sym, ◌∙◌}
use Rattle.std.proofs.lemmas.List.{nil_from_length}
use Rattle.std.proofs.lemmas.List.Elements.{same_from_all_zip}
use Rattle.drawn_set.specs.declared.search.Search.{Search}
use Rattle.drawn_set.proofs.Least.{all_is, followed_first, followed_less, followed_more, plain_is}
use Rattle.drawn_set.proofs.members.find_members.Goals as goal

pub loop-member-init : goal.loop-member-init
loop-member-init g c =
    followed_first (g.A.NameView.sub c.args.current.now) (g.B.NameView.sub c.args.recovered.now) c.args.target c.new-search.result c.draw_first.new.self c.new-search.ensures c.in_ok-draw_first.ensures.grows c.in_ok-draw_first.ensures.draws

pub loop-member-preserved : goal.loop-member-preserved
loop-member-preserved g c =
    followed_more (g.A.NameView.sub c.args.current.now) (g.B.NameView.sub c.args.recovered.now) c.args.target c.loop-member.search (record c.loop-member.search { fresh = c.pop.new.self }) c.follow.new.self c.in-Some.member refl refl c.in-Some.ensures.items
    c.loop-member.invariant c.in_ok-follow.ensures.grows c.in_ok-follow.ensures.draws

pub loop-member-smaller : goal.loop-member-smaller
loop-member-smaller g c =
    let current = g.A.NameView.sub c.args.current.now in
    let logged = g.B.NameView.sub c.args.recovered.now in
    let middle : Search = record c.loop-member.search { fresh = c.pop.new.self } in
    let after = followed_more current logged c.args.target c.loop-member.search middle c.follow.new.self c.in-Some.member refl refl c.in-Some.ensures.items c.loop-member.invariant c.in_ok-follow.ensures.grows c.in_ok-follow.ensures.draws in
    followed_less current logged c.args.target c.loop-member.search middle c.follow.new.self c.in-Some.member refl c.in-Some.ensures.items c.in_ok-follow.ensures.grows c.loop-member.invariant after

pub returns-clause-plain : goal.returns-clause-plain
returns-clause-plain g c =
    let same : c.in_ok-plain.plain.keys ≡ c.draw_first.new.self.members.keys = same_from_all_zip _ c.draw_first.new.self.members.keys c.in_ok-plain.plain.keys c.in_ok-plain.ensures.cases (λ x y e. e) in
    same ∙ plain_is (g.A.NameView.sub c.args.current.now) (g.B.NameView.sub c.args.recovered.now) c.args.target c.new-search.result c.draw_first.new.self c.new-search.ensures c.in_ok-draw_first.ensures.draws

pub returns-clause-all : goal.returns-clause-all
returns-clause-all g c =
    all_is (g.A.NameView.sub c.args.current.now) (g.B.NameView.sub c.args.recovered.now) c.args.target c.loop-member.search c.loop-member.invariant (nil_from_length c.loop-member.search.fresh.items (sym c.loop-member.search.fresh.ok.0 ∙ c.in_default.ensures.cases.0))
