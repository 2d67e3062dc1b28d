use Rattle.std.proofs.Common.{◌≡◌, Ok, ◌∙◌}
use Rattle.item_laws.specs.ExtRefs.{extrefs_to}
use Rattle.name_walk.proofs.item.extrefs_in.Goals as goal

pub returns-in-Ok : goal.returns-in-Ok
returns-in-Ok c = λ found is. let e : Ok c.in-Ok.refs ≡ Ok found = c.in-Ok.ensures ∙ extrefs_to c.args.bytes.now found is in cc

pub returns-in-Err : goal.returns-in-Err
returns-in-Err c = λ found is. let e = c.in-Err.ensures ∙ extrefs_to c.args.bytes.now found is in absurd cc
