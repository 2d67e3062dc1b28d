use Rattle.std.proofs.Common.{sym, ap, ◌∙◌}
use Rattle.std.proofs.lemmas.Bool.{ne_eqb}
use Rattle.item_inode.specs.Inode.{inode_view}
use Rattle.flat_model.specs.Volume.{is_dir_there}
use Rattle.name_walk.proofs.Counting.{entries_said, no_entries_said, no_entries}
use Rattle.name_walk.proofs.inode.has_entries.Goals as goal

pub returns-then-item-eq-DIR_MODE : goal.returns-then-item-eq-DIR_MODE
returns-then-item-eq-DIR_MODE c = λ sub given. entries_said sub given.coherent c.args.ino (inode_view c.in-Some.item) (c.in-Some.ensures sub given) c.if-item-eq-DIR_MODE.true

pub returns-else-item-eq-DIR_MODE : goal.returns-else-item-eq-DIR_MODE
returns-else-item-eq-DIR_MODE c = λ sub given.
    ne_eqb c.in-Some.item.mode 16877 c.if-item-eq-DIR_MODE.false ∙ sym (no_entries_said sub given.coherent c.args.ino (inode_view c.in-Some.item) (c.in-Some.ensures sub given) c.if-item-eq-DIR_MODE.false)

pub returns-in-None : goal.returns-in-None
returns-in-None c = λ sub given. sym (no_entries sub given.coherent c.args.ino (ap is_dir_there (c.in-None.ensures sub given)))
