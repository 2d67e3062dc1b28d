use Rattle.std.proofs.Common.{ap, ◌∙◌}
use Rattle.format_laws.specs.Items.{inode_of-Ok}
use Rattle.recovered_view.proofs.Inodes.{read_mode}
use Rattle.recovered_view.proofs.logged.mode_in.Goals as goal

pub returns-in-Ok : goal.returns-in-Ok
returns-in-Ok c = λ value is. ap read_mode (c.in-Ok.ensures ∙ inode_of-Ok c.args.bytes.now value is)

pub returns-in-Err : goal.returns-in-Err
returns-in-Err c = λ value is. ap read_mode (c.in-Err.ensures ∙ inode_of-Ok c.args.bytes.now value is)
