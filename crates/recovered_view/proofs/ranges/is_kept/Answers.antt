use Rattle.std.proofs.Common.{◌≡◌, true, sym, subst, Option}
use Rattle.block_table.specs.declared.tree.Tree.{Tree}
use Rattle.recovered_view.specs.Kept.{is_kept, name_of_parts}
use Rattle.recovered_view.specs.Log.{log_said}
use Rattle.recovered_view.proofs.Inodes.{all_kept}
use Rattle.recovered_view.proofs.ranges.is_kept.Goals as goal

pub returns-in-None : goal.returns-in-None
returns-in-None c = subst (λ (log : Option Tree). true ≡ is_kept (log_said c.args.table.now log) (name_of_parts c.args.dir c.args.index c.args.name.now c.args.ino)) (sym c.in-None.is) (all_kept (name_of_parts c.args.dir c.args.index c.args.name.now c.args.ino))
