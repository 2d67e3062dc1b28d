-- Subtrees whose blocks stay as they were.
use Rattle.std.proofs.Common.{◌≡◌, ◌≤◌, ℕ, zero, suc, true, false, List, length, ap, ◌∙◌, Some, arith}
use Rattle.std.specs.Prelude.{All, slice_index_or}
use Rattle.std.specs.List.{flat_map, sum_by}
use Rattle.std.proofs.lemmas.List.Elements.{All-weaker}
use Rattle.blk_base.specs.declared.key.Want.{Want}
use Rattle.blk_base.specs.Leaf.{Pointer}
use Rattle.block_table.specs.Table.{Table}
use Rattle.blk_base.specs.Trees.{first_key}
use Rattle.block_table.specs.TreeIn.{block_at}
use Rattle.tree_range.specs.Shape.{IsSubtree, items_below, node_pointers, reach_below}
use Rattle.tree_range.proofs.Law.{Child}
use Rattle.tree_range.proofs.Local.{IsAlikeBelow, alike_below}
use Rattle.tree_frame.proofs.Counting.{counted_alike}
use Rattle.tree_frame.proofs.Reading.{all_parts, flat_map_same}
use Rattle.tree_frame.specs.Frame.{leaves_below}
use Rattle.cow_tree.specs.Below.{want_at}
use Rattle.cow_tree.proofs.Lists.{sum_same}
use Rattle.cow_tree.proofs.Sealed.{Sealed}
use Rattle.tree_frame.proofs.Sealed.{sealed_alike}

-- a subtree that is no root is one where it is
pub as_root : (level : ℕ) (table : Table) (at : ℕ) → IsSubtree level table false at → IsSubtree level table true at
as_root zero table at h = (h.0, h.1, omega arith)
as_root (suc level) table at h = (h.0, h.1, (let least : 30 ≤ length (node_pointers table at) = h.2 in omega arith), h.3)

-- children whose blocks stay as they were
pub record AreAlikeBelow (level : ℕ) (old new : Table) (pointers : List Pointer) : Type 0 where
  pub items : flat_map (λ pointer. items_below level new pointer.at) pointers ≡ flat_map (λ pointer. items_below level old pointer.at) pointers
  pub reach : flat_map (λ pointer. reach_below level new pointer.at) pointers ≡ flat_map (λ pointer. reach_below level old pointer.at) pointers
  pub leaves : sum_by (λ pointer. leaves_below level new pointer.at) pointers ≡ sum_by (λ pointer. leaves_below level old pointer.at) pointers
  pub children : All (Child level old) pointers → All (Child level new) pointers
  pub firsts : All (λ pointer. first_key (items_below level old pointer.at) ≡ Some pointer.key) pointers → All (λ pointer. first_key (items_below level new pointer.at) ≡ Some pointer.key) pointers
  pub sealed : (want : Want) → All (Sealed level old want) pointers → All (Sealed level new want) pointers

pub alike_list : (level : ℕ) (old new : Table) (pointers : List Pointer) → All (λ place. block_at new place ≡ block_at old place) (flat_map (λ pointer. reach_below level old pointer.at) pointers) → AreAlikeBelow level old new pointers
alike_list level old new pointers h =
    let P : ℕ → Type 0 = λ (place : ℕ). block_at new place ≡ block_at old place in
    let g : Pointer → List ℕ = λ (pointer : Pointer). reach_below level old pointer.at in
    let parts : All (λ (pointer : Pointer). All P (g pointer)) pointers = all_parts P g pointers h in
    let each : All (λ (pointer : Pointer). IsAlikeBelow level old new pointer.at) pointers = All-weaker (λ (pointer : Pointer). All P (g pointer)) (λ (pointer : Pointer). IsAlikeBelow level old new pointer.at) (λ pointer k. alike_below level old new pointer.at k) pointers parts in
    record {
      items = flat_map_same (λ (pointer : Pointer). items_below level new pointer.at) (λ (pointer : Pointer). items_below level old pointer.at) pointers (All-weaker (λ (pointer : Pointer). IsAlikeBelow level old new pointer.at) (λ (pointer : Pointer). items_below level new pointer.at ≡ items_below level old pointer.at) (λ pointer k. k.items) pointers each);
      reach = flat_map_same (λ (pointer : Pointer). reach_below level new pointer.at) (λ (pointer : Pointer). reach_below level old pointer.at) pointers (All-weaker (λ (pointer : Pointer). IsAlikeBelow level old new pointer.at) (λ (pointer : Pointer). reach_below level new pointer.at ≡ reach_below level old pointer.at) (λ pointer k. k.reach) pointers each);
      leaves = sum_same (λ (pointer : Pointer). leaves_below level new pointer.at) (λ (pointer : Pointer). leaves_below level old pointer.at) pointers (All-weaker (λ (pointer : Pointer). All P (g pointer)) (λ (pointer : Pointer). leaves_below level new pointer.at ≡ leaves_below level old pointer.at) (λ pointer k. (counted_alike level old new pointer.at k).leaves) pointers parts);
      children = λ was i d inside.
          let one = each i d inside in
          let k = was i d inside in
          (one.shape false k.0, ap first_key one.items ∙ k.1);
      firsts = λ was i d inside. let one = each i d inside in ap first_key one.items ∙ was i d inside;
      sealed = λ want was i d inside.
          let p = slice_index_or pointers i d in
          sealed_alike level old new (want_at want p.at p.generation) (parts i d inside) (was i d inside);
    }
