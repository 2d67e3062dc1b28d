use Rattle.std.proofs.Common.{ap, not, ◌∙◌}
use Rattle.drawn_set.specs.Names.{are_alike}
use Rattle.drawn_set.proofs.Given.{differ_is}
use Rattle.drawn_set.proofs.names.do_differ.Goals as goal

pub returns : goal.returns
returns g c = ap not (c.are_alike.ensures ∙ ap (λ ns. are_alike ns c.deref-2.result.now) c.deref.ensures.value ∙ ap (λ ns. are_alike c.in_ok-here.here.items ns) c.deref-2.ensures.value)
    ∙ differ_is (g.A.NameView.sub c.args.current.now) (g.B.NameView.sub c.args.recovered.now) c.args.ino c.in_ok-here.here.items c.in_ok-there.there.items c.in_ok-here.ensures c.in_ok-there.ensures
