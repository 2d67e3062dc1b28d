use Rattle.std.proofs.Common.{◌≡◌, ◌∙◌, ap, sym, length, arith}
use Rattle.std.specs.FinMap.{len}
use Rattle.flat_sub.specs.View.{sub_view}
use Rattle.flat_volume.proofs.Each.{len_rising}
use Rattle.flat_volume.proofs.volume.FlatVolume.subs.Goals as goal

pub returns : goal.returns
returns c =
    let count : len c.args.self.now ≡ length c.self.inside.subs.items = ap len (sym c.self.view_is) ∙ len_rising sub_view c.self.inside.subs.items c.self.invariant.numbers_rise in
    omega (arith, count)
