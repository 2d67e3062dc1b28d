use Rattle.std.proofs.Common.{List, ℕ, sym, subst, []}
use Rattle.std.proofs.lemmas.Result.{IfOk-weaker}
use Rattle.drawn_set.specs.Names.{AddsAll, AreInodesInEither}
use Rattle.drawn_set.proofs.Sets.{either_is}
use Rattle.drawn_set.proofs.names.inodes_in_either.Goals as goal

pub returns : goal.returns
returns g c =
    let names = (g.A.NameView.sub c.args.current.now).names in
    let others = (g.B.NameView.sub c.args.recovered.now).names in
    let here = c.in_ok-here.here.items in
    let there = c.in_ok-there.there.items in
    let first = c.add_all.new.set.keys in
    let second = c.add_all-2.new.set.keys in
    let adds : AddsAll here [] first = subst (λ (old : List ℕ). AddsAll here old first) c.new-inos.ensures.empty (rw c.deref.ensures.value at c.in_ok-add_all.ensures) in
    let adds' : AddsAll there first second = rw c.deref-2.ensures.value at c.in_ok-add_all-2.ensures in
    let are = either_is names others c.args.dir here there first second c.in_ok-here.ensures c.in_ok-there.ensures adds adds' in
    IfOk-weaker c.list_of.result _ _ (λ inos is. subst (AreInodesInEither names others c.args.dir) (sym is) are) c.list_of.ensures
