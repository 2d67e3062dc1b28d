use Rattle.std.proofs.Common.{sym, ap, ◌∙◌}
use Rattle.std.specs.Option.{is_some}
use Rattle.std.specs.FinMap.{get}
use Rattle.flat_model.specs.Operations.{attributes_there}
use Rattle.flat_sub.proofs.Inodes.{no_attribute, record_here, record_nowhere}
use Rattle.flat_sub.proofs.sub.FlatSub.has_attribute.Goals as goal

pub returns-in-Some : goal.returns-in-Some
returns-in-Some c =
    let here = record_here c.args.self.now.inodes.items c.args.ino c.in-Some.at c.index-entry.result.now c.in-Some.ensures c.index-entry.ensures in
    c.has_attribute.ensures ∙ ap (λ r. is_some (get (attributes_there r) c.args.name.now)) (sym here)

pub returns-in-None : goal.returns-in-None
returns-in-None c =
    let nowhere = record_nowhere c.args.self.now.inodes.items c.args.ino c.in-None.ensures in
    sym (ap (λ r. is_some (get (attributes_there r) c.args.name.now)) nowhere ∙ ap is_some (no_attribute c.args.name.now))
