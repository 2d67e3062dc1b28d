use Rattle.std.proofs.Common.{ap, sym, ◌∙◌}
use Rattle.flat_model.specs.Volume.{is_dir_there}
use Rattle.current_view.specs.View.{seen}
use Rattle.recovered_view.specs.Log.{log_said}
use Rattle.recovered_view.proofs.Led.{record_there}
use Rattle.recovered_view.proofs.has.is_dir_after.Goals as goal

pub returns-then-has_inode : goal.returns-then-has_inode
returns-then-has_inode c =
    c.is_dir_record.ensures
    ∙ sym (ap is_dir_there (record_there (seen c.args.table.now c.args.committed.now) (log_said c.args.table.now c.args.log) c.args.ino (sym c.has_inode.ensures ∙ c.if-has_inode.true)))
