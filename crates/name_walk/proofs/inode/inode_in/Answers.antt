use Rattle.std.proofs.Common.{◌≡◌, Ok, ◌∙◌}
use Rattle.format_laws.specs.Items.{inode_of-Ok}
use Rattle.item_inode.specs.Inode.{inode_view}
use Rattle.name_walk.proofs.inode.inode_in.Goals as goal

pub returns-in-Ok : goal.returns-in-Ok
returns-in-Ok c = λ value is. let e : Ok (inode_view c.in-Ok.item) ≡ Ok value = c.in-Ok.ensures ∙ inode_of-Ok c.args.bytes.now value is in cc

pub returns-in-Err : goal.returns-in-Err
returns-in-Err c = λ value is. let e = c.in-Err.ensures ∙ inode_of-Ok c.args.bytes.now value is in absurd cc
