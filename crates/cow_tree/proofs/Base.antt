-- A leaf in whose place leaves stand that have the item.
use Rattle.std.proofs.Common.{◌≡◌, ◌≤◌, ℕ, Bool, true, false, List, [], ◌∷◌, length, ap, ◌∙◌, sym, subst, Some, arith}
use Rattle.std.specs.Prelude.{All, slice_index_or}
use Rattle.std.specs.List.{flat_map}
use Rattle.std.proofs.lemmas.List.Elements.{All-weaker}
use Rattle.blk_base.specs.declared.key.Key.{Key}
use Rattle.blk_base.specs.Leaf.{Item, Pointer}
use Rattle.block_table.specs.Table.{Table}
use Rattle.blk_base.specs.Trees.{first_key, least_items}
use Rattle.block_table.specs.TreeIn.{IsTaken, block_at}
use Rattle.tree_range.specs.Between.{data_under}
use Rattle.tree_range.specs.Part.{times_in}
use Rattle.tree_range.specs.Shape.{IsSubtree, leaf_items}
use Rattle.tree_range.proofs.Bodies.{leaf_items_are}
use Rattle.tree_range.proofs.Cuts.{All-unmap}
use Rattle.tree_frame.proofs.Reading.{flat_map_same}
use Rattle.tree_blocks.specs.Steps.{IsLeafAt, leaf_at}
use Rattle.tree_blocks.proofs.Listing.{leaf_from_ok, leaf_to_ok}
use Rattle.tree_frame.specs.Frame.{with_item}
use Rattle.cow_tree.specs.Change.{IsChange}
use Rattle.cow_tree.specs.Below.{IsWritten}
use Rattle.cow_tree.specs.Pieces.{ats_of}
use Rattle.cow_tree.specs.Spread.{IsLeafPiece, IsLeafSpread}
use Rattle.cow_tree.proofs.Changes.{taken_after}
use Rattle.cow_tree.proofs.Lists.{all_from, all_to, ats_single, sum_ones}
use Rattle.std.proofs.lemmas.List.Elements.{All-cons, All-nil}

pub shown_items : (table : Table) (at : ℕ) → IsLeafAt table at → leaf_items table at ≡ leaf_at table at
shown_items table at body = leaf_items_are table at (leaf_at table at) body

one_at_least : (items : List Item) (key : Key) → first_key items ≡ Some key → 1 ≤ length items
one_at_least [] key h = absurd cc
one_at_least (x ∷ xs) key h = omega arith

least_of : (is_root : Bool) (n : ℕ) → 1 ≤ n → least_items is_root ≤ n
least_of true n h = omega arith
least_of false n h = h

module _ (old new : Table) (at : ℕ) (key : Key) (bytes : List ℕ) (pieces : List Pointer) (some : 1 ≤ length pieces) (most : length pieces ≤ 3) (was : IsSubtree 0 old true at) (h : IsLeafSpread old new at (with_item key bytes (leaf_at old at)) pieces 3) (fits : (stood : List ℕ) → data_under key (leaf_at old at) ≡ Some stood → length bytes ≤ length stood → length pieces ≡ 1) where
  items_were : leaf_items old at ≡ leaf_at old at
  items_were = shown_items old at (leaf_from_ok (block_at old at).bytes was.1)

  items_are : flat_map (λ (p : Pointer). leaf_items new p.at) pieces ≡ with_item key bytes (leaf_items old at)
  items_are = flat_map_same (λ (p : Pointer). leaf_items new p.at) (λ (p : Pointer). leaf_at new p.at) pieces (All-weaker (IsLeafPiece new) (λ (p : Pointer). leaf_items new p.at ≡ leaf_at new p.at) (λ p k. shown_items new p.at k.leaf.body) pieces h.each) ∙ h.items_are ∙ ap (with_item key bytes) (sym items_were)

  firsts : All (λ (p : Pointer). first_key (leaf_items new p.at) ≡ Some p.key) pieces
  firsts = All-weaker (IsLeafPiece new) (λ (p : Pointer). first_key (leaf_items new p.at) ≡ Some p.key) (λ p k. ap first_key (shown_items new p.at k.leaf.body) ∙ k.key) pieces h.each

  was_taken : (x : ℕ) → 1 ≤ times_in x (at ∷ []) → IsTaken old x
  was_taken x there = all_to (IsTaken old) (at ∷ []) x (All-cons (IsTaken old) at [] was.0 (All-nil (IsTaken old))) there

  taken : All (λ (p : Pointer). IsTaken new p.at) pieces
  taken = All-unmap (IsTaken new) (λ (p : Pointer). p.at) pieces (all_from (IsTaken new) (ats_of pieces) (λ x there. taken_after old new (λ y. times_in y (at ∷ [])) (λ y. times_in y (ats_of pieces)) 3 h.changes was_taken x there))

  shapes : (is_root : Bool) → All (λ (p : Pointer). IsSubtree 0 new is_root p.at) pieces
  shapes is_root = λ i d inside.
      let p = slice_index_or pieces i d in
      (taken i d inside, leaf_to_ok (block_at new p.at).bytes (h.each i d inside).leaf.body, least_of is_root (length (leaf_items new p.at)) (one_at_least (leaf_items new p.at) p.key (firsts i d inside)))

  pub leaf_written : IsWritten 0 old new at key bytes pieces
  leaf_written = record {
    some = some;
    most = most;
    items_are = items_are;
    firsts = firsts;
    one = λ is_root k single. shapes is_root;
    more = λ several. shapes false;
    changes = subst (λ (l : List ℕ). IsChange old new (at ∷ []) l 3) (sym (ats_single pieces)) h.changes;
    sealed = λ want was s i d inside. λ written. absurd (written (h.each i d inside).leaf.dirty);
    leaves = omega (arith, sum_ones pieces);
    same_leaves = λ stood is short. let single = fits stood (ap (data_under key) (sym items_were) ∙ is) short in (single, omega (arith, sum_ones pieces, single));
    whole = λ below e short. absurd (omega (arith, e));
  }
