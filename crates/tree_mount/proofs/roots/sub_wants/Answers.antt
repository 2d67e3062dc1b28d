use Rattle.std.proofs.Common.{◌≡◌, ◌≢◌, ◌≤◌, ◌==◌, ℕ, false, true, List, Ok, length, refl, sym, ap, subst, ◌∙◌, arith}
use Rattle.std.specs.Prelude.{vec_len}
use Rattle.std.proofs.lemmas.Bool.{eqb-false, eqb-true}
use Rattle.std.proofs.lemmas.Result.{err_from_is_err_and}
use Rattle.blk_base.specs.declared.key.Want.{Want}
use Rattle.tree_range.specs.Shape.{items_below, tree_items}
use Rattle.volume_format.specs.Views.{super_view}
use Rattle.tree_mount.specs.Roots.{IsOtherBelow, with_items}
use Rattle.tree_mount.proofs.RootItems.{roots_fail, roots_none, roots_read}
use Rattle.tree_mount.proofs.roots.sub_wants.Goals as goal

pub returns-in_err-add_below-clause-fault : goal.returns-in_err-add_below-clause-fault
returns-in_err-add_below-clause-fault c =
    let p = err_from_is_err_and c.from_residual.result c.from_residual.ensures.1 in
    let h = subst (λ (ws : List Want). IsOtherBelow (with_items (super_view c.args.superblock.now) ws (items_below c.args.root.now.level c.args.table.now c.args.root.now.root.0)) c.args.table.now c.args.root.now.level c.args.root.now.root.0 c.in_err-add_below.field-0.0) c.new-wants.ensures.items c.in_err-add_below.ensures.fault in
    rw (p.1, p.2) (roots_fail (super_view c.args.superblock.now) c.args.table.now c.args.root.now.level c.args.root.now.root.0 c.in_err-add_below.field-0.0 h)

pub returns-then-is_empty-clause-fault : goal.returns-then-is_empty-clause-fault
returns-then-is_empty-clause-fault c =
    let read : with_items (super_view c.args.superblock.now) Rattle.std.proofs.Common.[] (tree_items c.args.table.now c.args.root.now) ≡ Ok c.add_below.new.wants.items = ap (λ (ws : List Want). with_items (super_view c.args.superblock.now) ws (tree_items c.args.table.now c.args.root.now)) (sym c.new-wants.ensures.items) ∙ c.in_ok-add_below.ensures.ok in
    let none : vec_len c.add_below.new.wants ≡ 0 = eqb-true _ _ (sym c.is_empty.ensures ∙ c.if-is_empty.true) in
    let long : length c.add_below.new.wants.items ≡ 0 = omega (arith, c.add_below.new.wants.ok.0, none) in
    (roots_none (super_view c.args.superblock.now) (tree_items c.args.table.now c.args.root.now) c.add_below.new.wants.items read long, refl, refl)

pub returns-clause-ok : goal.returns-clause-ok
returns-clause-ok c =
    let read : with_items (super_view c.args.superblock.now) Rattle.std.proofs.Common.[] (tree_items c.args.table.now c.args.root.now) ≡ Ok c.add_below.new.wants.items = ap (λ (ws : List Want). with_items (super_view c.args.superblock.now) ws (tree_items c.args.table.now c.args.root.now)) (sym c.new-wants.ensures.items) ∙ c.in_ok-add_below.ensures.ok in
    let some : vec_len c.add_below.new.wants ≢ 0 = eqb-false _ _ (sym c.is_empty.ensures ∙ c.if-is_empty.false) in
    let long : 1 ≤ length c.add_below.new.wants.items = omega (arith, c.add_below.new.wants.ok.0, some) in
    roots_read (super_view c.args.superblock.now) (tree_items c.args.table.now c.args.root.now) c.add_below.new.wants.items read long
