use Rattle.std.proofs.Common.{suc, take, drop, sym, subst, ◌∙◌, arith, List}
use Rattle.std.proofs.lemmas.Result.{err_from_is_err_and}
use Rattle.blk_base.specs.declared.key.Want.{Want}
use Rattle.disk_model.specs.Disk.{IfTold, known}
use Rattle.disk_model.proofs.CrashLaws.{known_same}
use Rattle.tree_mount.specs.Trees.{AreLoaded, AreWalked}
use Rattle.tree_mount.proofs.Lists.{cut_here, one_more}
use Rattle.tree_mount.proofs.Loading.{loaded_more}
use Rattle.tree_mount.proofs.Walking.{told_part_fails, told_walked_more}
use Rattle.tree_mount.proofs.trees.load_trees.Goals as goal

pub returns-in_err-load_tree-clause-fault : goal.returns-in_err-load_tree-clause-fault
returns-in_err-load_tree-clause-fault g c =
    let p = err_from_is_err_and c.from_residual.result c.from_residual.ensures.1 in
    rw (p.1, p.2) (told_part_fails (known (g.D.Disk.seen c.args.disk.now) (g.D.Disk.lost c.args.disk.now)) _ c.args.table.now c.loop-want.table (take c.loop-want.want-index c.args.wants.now) _ (drop (suc c.loop-want.want-index) c.args.wants.now) c.args.wants.now c.in_err-load_tree.field-0.0
    (known_same _ _ _ _ c.loop-want.invariant.seen c.loop-want.invariant.lost) c.loop-want.invariant.loaded c.loop-want.invariant.walked c.in_err-load_tree.ensures.fault (cut_here c.args.wants.now c.loop-want.want-index _ c.loop-want-test.true))

pub loop-want-preserved : goal.loop-want-preserved
loop-want-preserved g c = record {
  loaded = subst (AreLoaded c.args.table.now c.load_tree.new.table) (sym (one_more c.args.wants.now c.loop-want.want-index _ c.loop-want-test.true))
      (loaded_more c.args.table.now c.loop-want.table c.load_tree.new.table (take c.loop-want.want-index c.args.wants.now) _ c.loop-want.invariant.loaded c.in_ok-load_tree.ensures.loaded);
  walked = subst (λ (ws : List Want). IfTold (known (g.D.Disk.seen c.args.disk.now) (g.D.Disk.lost c.args.disk.now)) (λ image. AreWalked image c.args.table.now c.load_tree.new.table ws)) (sym (one_more c.args.wants.now c.loop-want.want-index _ c.loop-want-test.true))
      (told_walked_more (known (g.D.Disk.seen c.args.disk.now) (g.D.Disk.lost c.args.disk.now)) _ c.args.table.now c.loop-want.table c.load_tree.new.table (take c.loop-want.want-index c.args.wants.now) _ (known_same _ _ _ _ c.loop-want.invariant.seen c.loop-want.invariant.lost)
      c.loop-want.invariant.loaded c.in_ok-load_tree.ensures.loaded c.loop-want.invariant.walked c.in_ok-load_tree.ensures.walked);
  size = c.load_tree.ensures.size ∙ c.loop-want.invariant.size;
  seen = c.load_tree.ensures.seen ∙ c.loop-want.invariant.seen;
  lost = c.load_tree.ensures.lost ∙ c.loop-want.invariant.lost;
  told = c.load_tree.ensures.told ∙ c.loop-want.invariant.told;
  counted = let one = c.loop-want.invariant.counted in let two = c.load_tree.ensures.counted in omega arith;
}
