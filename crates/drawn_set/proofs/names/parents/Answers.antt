use Rattle.std.proofs.Common.{sym, subst}
use Rattle.std.proofs.lemmas.Result.{IfOk-weaker}
use Rattle.drawn_set.specs.Names.{AreParents}
use Rattle.drawn_set.proofs.Given.{are_parents}
use Rattle.drawn_set.proofs.names.parents.Goals as goal

pub returns : goal.returns
returns g c =
    let names = (g.V.NameView.sub c.args.view.now).names in
    let are = are_parents names c.args.ino c.in_ok-names.names.items c.in_ok-names.ensures in
    IfOk-weaker c.directories.result _ _ (λ dirs is. subst (AreParents names c.args.ino) (sym is) are) (rw c.deref.ensures.value at c.directories.ensures)
