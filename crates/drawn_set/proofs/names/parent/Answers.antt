use Rattle.std.proofs.Common.{vec_len}
use Rattle.drawn_set.proofs.Parents.{last_is_parent}
use Rattle.drawn_set.proofs.names.parent.Goals as goal

pub returns : goal.returns
returns g c =
    last_is_parent (g.V.NameView.sub c.args.view.now) c.requires.coherent c.args.dir c.in_ok-dirs.dirs.items c.pop.new.self.items (vec_len c.in_ok-dirs.dirs) c.pop.result c.in_ok-dirs.dirs.ok.0 c.requires.dir c.in_ok-dirs.ensures c.pop.ensures.items c.pop.ensures.variant
