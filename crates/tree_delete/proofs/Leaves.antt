-- An item is taken out of a leaf.
use Rattle.std.proofs.Common.{◌≡◌, ◌≢◌, ◌≤◌, ◌<◌, ◌+◌, ℕ, true, false, List, [], ◌∷◌, length, slice_get, ap, ◌∙◌, sym, subst, Some, IsSome, arith}
use Rattle.std.specs.Prelude.{remove}
use Rattle.std.proofs.lemmas.List.{length-map}
use Rattle.std.proofs.lemmas.List.Edits.{length-remove}
use Rattle.std.proofs.lemmas.Option.{slice_get_within}
use Rattle.blk_base.specs.declared.key.Key.{Key}
use Rattle.blk_base.specs.Leaf.{Item}
use Rattle.block_table.specs.declared.state.SlotState.TheVariants.{Dirty}
use Rattle.block_table.specs.Table.{Table, free_blocks}
use Rattle.blk_base.specs.Trees.{ItemsRise}
use Rattle.block_table.specs.TreeIn.{block_at}
use Rattle.leaf_view.specs.Search.{IsPlace, keys_of}
use Rattle.tree_range.specs.Shape.{IsSubtree, leaf_items}
use Rattle.tree_range.specs.Between.{data_under}
use Rattle.tree_blocks.specs.Lists.{IsLeafBlock, leaf_list}
use Rattle.tree_blocks.specs.Steps.{HasNewBytes, IsDirtyLeaf, IsLeafAt, IsSameBut, leaf_at}
use Rattle.tree_blocks.proofs.Listing.{leaf_from_ok, leaf_to_ok}
use Rattle.tree_frame.specs.Frame.{IsEdit, TakesAtMost, without_item}
use Rattle.tree_frame.proofs.EditLaws.{edits_join}
use Rattle.tree_frame.proofs.StepLaws.{new_bytes_are_an_edit}
use Rattle.tree_delete.proofs.Ahead.{takes_one}
use Rattle.tree_delete.proofs.Blocks.{IsOwned, leaf_same}
use Rattle.tree_delete.proofs.Items.{present_found, without_at}
use Rattle.tree_delete.proofs.Pairs.{dirty_used, same_allowed}

abbrev item_key : Item → Key
item_key item = item.0

-- a leaf of a subtree
pub leaf_body : (table : Table) (at : ℕ) → IsSubtree 0 table true at → IsLeafAt table at
leaf_body table at h = leaf_from_ok (block_at table at).bytes h.1

-- a leaf and a copy of it
pub record IsLeafCopy (old mid : Table) (at copy : ℕ) : Type 0 where
  pub own : IsOwned old mid at copy
  pub dirty : (block_at mid copy).state ≡ Dirty
  pub bytes : (block_at mid copy).bytes ≡ (block_at old at).bytes
  pub shape : IsSubtree 0 old true at

module _ (old mid : Table) (at copy : ℕ) (key : Key) (h : IsLeafCopy old mid at copy) where
  pub copy_same : leaf_at mid copy ≡ leaf_items old at
  copy_same = ap leaf_list h.bytes ∙ sym (leaf_same old at)

  pub copy_leaf : IsLeafAt mid copy
  copy_leaf = subst (λ (b : List ℕ). IsLeafBlock b) (sym h.bytes) (leaf_body old at h.shape)

  pub copy_dirty : IsDirtyLeaf mid copy
  copy_dirty = record { dirty = h.dirty; body = copy_leaf }

  pub copy_absent : (place : ℕ) → IsSome (data_under key (leaf_items old at)) → IsPlace (keys_of (leaf_at mid copy)) key place → ⊥
  copy_absent place some there = present_found (leaf_items old at) key place some (subst (λ (l : List Item). IsPlace (keys_of l) key place) copy_same there)

  pub copy_found : (place : ℕ) → slice_get (keys_of (leaf_at mid copy)) place ≡ Some key → place < length (leaf_at mid copy)
  copy_found place found = omega (arith, slice_get_within (keys_of (leaf_at mid copy)) place key found, length-map (leaf_at mid copy) item_key)

  module _ (new : Table) (place : ℕ) (found : slice_get (keys_of (leaf_at mid copy)) place ≡ Some key) (rises : ItemsRise (leaf_items old at)) (items : leaf_at new copy ≡ remove (leaf_at mid copy) place) (leaf : IsDirtyLeaf new copy) (kept : HasNewBytes mid new copy) (others : IsSameBut mid new (copy ∷ [])) (spare : new.spare ≡ mid.spare) (free : free_blocks new ≡ free_blocks mid) where
    left : leaf_items new copy ≡ remove (leaf_items old at) place
    left = leaf_same new copy ∙ items ∙ ap (λ (l : List Item). remove l place) copy_same

    found_old : slice_get (keys_of (leaf_items old at)) place ≡ Some key
    found_old = ap (λ (l : List Item). slice_get (keys_of l) place) (sym copy_same) ∙ found

    pub removed_items : leaf_items new copy ≡ without_item key (leaf_items old at)
    removed_items = left ∙ without_at (leaf_items old at) key place rises found_old

    pub removed_count : length (leaf_items new copy) + 1 ≡ length (leaf_items old at)
    removed_count =
        let inside : place < length (leaf_items old at) = omega (arith, copy_found place found, ap (λ (l : List Item). length l) copy_same) in
        ap (λ (l : List Item). length l + 1) left ∙ length-remove (leaf_items old at) place inside

    pub removed_shape : IsSubtree 0 new true copy
    removed_shape =
        let allowed = same_allowed mid new copy others.size (h.own.allowed (same_allowed old mid at h.own.edit.size h.shape.0.allowed)) in
        (record { allowed = allowed; taken = dirty_used new copy leaf.dirty }, leaf_to_ok (block_at new copy).bytes leaf.body, omega arith)

    pub removed_edit : IsEdit old new (at ∷ []) (copy ∷ [])
    removed_edit = edits_join old mid new (at ∷ []) (copy ∷ []) (copy ∷ []) h.own.edit (new_bytes_are_an_edit mid new copy h.dirty kept others)

    pub removed_blocks : TakesAtMost old new 1
    removed_blocks =
        let own = takes_one old mid (block_at old at).state h.own.blocks in
        record { spare = omega (arith, own.spare, spare); free = omega (arith, own.free, free) }

-- ---- a leaf that isn't the root

present_some : (items : List Item) (key : Key) → IsSome (data_under key items) → 1 ≤ length items
present_some [] key some = absurd cc
present_some (x ∷ items) key some = omega arith

pub not_only : (new : Table) (items : List Item) (at : ℕ) (key : Key) → IsSome (data_under key items) → length items ≢ 1 → IsSubtree 0 new true at → length (leaf_items new at) + 1 ≡ length items → IsSubtree 0 new false at
not_only new items at key some many shape count =
    let one = present_some items key some in
    (shape.0, shape.1, omega (arith, one, many, count))
