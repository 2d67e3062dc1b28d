use Rattle.std.proofs.Common.{sym, subst}
use Rattle.std.proofs.lemmas.Result.{IfOk-weaker}
use Rattle.drawn_set.specs.Names.{AreInodesIn}
use Rattle.drawn_set.proofs.Given.{are_inodes}
use Rattle.drawn_set.proofs.names.inodes_in.Goals as goal

pub returns : goal.returns
returns g c =
    let names = (g.V.NameView.sub c.args.view.now).names in
    let are = are_inodes names c.args.dir c.in_ok-names.names.items c.in_ok-names.ensures in
    IfOk-weaker c.inodes.result _ _ (λ inos is. subst (AreInodesIn names c.args.dir) (sym is) are) (rw c.deref.ensures.value at c.inodes.ensures)
