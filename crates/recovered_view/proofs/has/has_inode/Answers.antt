use Rattle.std.proofs.Common.{sym, ◌∙◌}
use Rattle.std.proofs.lemmas.Bool.{eq-eqb}
use Rattle.current_view.specs.View.{seen}
use Rattle.recovered_view.specs.Log.{log_said}
use Rattle.recovered_view.proofs.Led.{named_there, root_there}
use Rattle.recovered_view.proofs.has.has_inode.Goals as goal

pub returns-then-ino-eq-FIRST_FREE : goal.returns-then-ino-eq-FIRST_FREE
returns-then-ino-eq-FIRST_FREE c =
    eq-eqb c.args.ino 256 c.if-ino-eq-FIRST_FREE.true
    ∙ sym (root_there (seen c.args.table.now c.args.committed.now) (log_said c.args.table.now c.args.log) c.requires.committed.coherent c.args.ino c.if-ino-eq-FIRST_FREE.true)

pub returns-else-ino-eq-FIRST_FREE : goal.returns-else-ino-eq-FIRST_FREE
returns-else-ino-eq-FIRST_FREE c =
    c.has_name.ensures
    ∙ named_there (seen c.args.table.now c.args.committed.now) (log_said c.args.table.now c.args.log) c.requires.committed.coherent c.requires.accepted c.args.ino c.if-ino-eq-FIRST_FREE.false
