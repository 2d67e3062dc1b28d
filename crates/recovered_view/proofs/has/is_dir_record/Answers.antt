use Rattle.std.proofs.Common.{sym, ◌∙◌}
use Rattle.current_view.specs.View.{seen}
use Rattle.recovered_view.proofs.Dirs.{told_dir, untold_dir}
use Rattle.recovered_view.proofs.has.is_dir_record.Goals as goal

pub returns-in-Some : goal.returns-in-Some
returns-in-Some c = told_dir c.args.table.now (seen c.args.table.now c.args.committed.now) c.args.log c.args.ino c.in-Some.mode c.requires.accepted (sym c.in-Some.is ∙ c.mode_of.ensures)

pub returns-in-None : goal.returns-in-None
returns-in-None c =
    c.is_dir.ensures (seen c.args.table.now c.args.committed.now) c.requires.committed
    ∙ untold_dir c.args.table.now (seen c.args.table.now c.args.committed.now) c.args.log c.args.ino (sym c.in-None.is ∙ c.mode_of.ensures)
