use Rattle.std.proofs.Common.{◌≡◌, sym, ap, subst, ◌∙◌}
use Rattle.std.specs.Result.{IfOk}
use Rattle.std.specs.FinMap.{get}
use Rattle.flat_model.specs.Operations.{attributes_there}
use Rattle.flat_sub.proofs.Inodes.{no_attribute, record_here, record_nowhere}
use Rattle.flat_sub.proofs.sub.FlatSub.attribute_at.Goals as goal

pub returns-in-Some : goal.returns-in-Some
returns-in-Some c =
    let here = record_here c.args.self.now.inodes.items c.args.ino c.in-Some.at c.index-entry.result.now c.in-Some.ensures c.index-entry.ensures in
    subst (λ r. IfOk c.attribute.result (λ value. value ≡ get (attributes_there r) c.args.name.now)) (sym here) c.attribute.ensures

pub returns-in-None : goal.returns-in-None
returns-in-None c =
    let nowhere = record_nowhere c.args.self.now.inodes.items c.args.ino c.in-None.ensures in
    sym (ap (λ r. get (attributes_there r) c.args.name.now) nowhere ∙ no_attribute c.args.name.now)
