use Rattle.std.proofs.Common.{◌≡◌, ◌+◌, List, drop, length, refl, sym, ap, ◌∙◌, arith}
use Rattle.blk_base.specs.declared.key.Want.{Want}
use Rattle.volume_format.specs.Views.{super_view}
use Rattle.tree_mount.specs.Roots.{with_items}
use Rattle.tree_mount.proofs.RootItems.{held_at, item_fails, item_passes}
use Rattle.tree_mount.proofs.roots.add_leaf.Goals as goal

pub returns-in-Err-clause-fault : goal.returns-in-Err-clause-fault
returns-in-Err-clause-fault c =
    let long : length c.loop-place.wants.items ≡ c.len.result = omega (arith, c.loop-place.wants.ok.0) in (
      c.loop-place.invariant ∙ item_fails (super_view c.args.superblock.now) c.loop-place.wants.items c.in-Err.why c.args.leaf.now c.loop-place.place (c.item_at.result.0, c.item_at.result.1.now) c.item_at.ensures (c.in-Err.ensures c.loop-place.wants.items long),
      refl,
      (c.item_at.result.1.now, held_at c.args.leaf.now c.loop-place.place (c.item_at.result.0, c.item_at.result.1.now) c.item_at.ensures),
    )

pub loop-place-preserved : goal.loop-place-preserved
loop-place-preserved c =
    let long : length c.loop-place.wants.items ≡ c.len.result = omega (arith, c.loop-place.wants.ok.0) in
    c.loop-place.invariant ∙ item_passes (super_view c.args.superblock.now) c.loop-place.wants.items c.in-Ok.want c.args.leaf.now c.loop-place.place (c.item_at.result.0, c.item_at.result.1.now) c.item_at.ensures (c.in-Ok.ensures c.loop-place.wants.items long)
    ∙ ap (λ (ws : List Want). with_items (super_view c.args.superblock.now) ws (drop (c.loop-place.place + 1) c.args.leaf.now)) (sym c.in_ok-add_want-in-Ok.ensures)
