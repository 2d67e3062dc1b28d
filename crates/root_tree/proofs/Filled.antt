-- A leaf that is filled with root items, one behind the other.
use Rattle.std.proofs.Common.{◌≡◌, ◌∙◌, ◌≤◌, ◌<◌, ◌+◌, ◌*◌, ℕ, zero, suc, List, [], ◌∷◌, ◌++◌, length, take, drop, Some, refl, sym, ap, subst, arith}
use Rattle.std.specs.Prelude.{All, insert, slice_get, slice_index_or}
use Rattle.std.proofs.lemmas.List.{drop_all, length-map, map-append, take_all}
use Rattle.std.proofs.lemmas.List.Elements.{All-map, All-nil}
use Rattle.blk_base.specs.declared.key.Key.{Key}
use Rattle.blk_base.specs.Items.{RootValue, root_bytes}
use Rattle.blk_base.specs.Keys.{KeyBelow}
use Rattle.blk_base.specs.Leaf.{Item, data_of, room_of}
use Rattle.blk_base.specs.Trees.{ItemsRise}
use Rattle.block_table.specs.Slot.{BlockSlot, dirty_slot}
use Rattle.block_table.specs.Table.{Table, free_blocks}
use Rattle.block_table.specs.TreeIn.{block_at}
use Rattle.leaf_view.specs.Search.{IsPlace, keys_of}
use Rattle.tree_range.specs.Between.{AreBelow}
use Rattle.tree_range.proofs.Cuts.{cut_at, length_cut}
use Rattle.tree_range.proofs.Rise.{rise_before}
use Rattle.tree_blocks.specs.Steps.{HasNewBytes, IsDirtyLeaf, IsSameBut, IsTakenAt, leaf_at}
use Rattle.volume_format.specs.declared.root_item.RootItem.{RootItem}
use Rattle.volume_format.specs.Views.{root_view}
use Rattle.root_tree.specs.Roots.{root_entries, root_entry}

-- a key that is above all others belongs at the end
last_place : (items : List Item) (key : Key) (place : ℕ) → length items ≡ place → AreBelow key items → IsPlace (keys_of items) key place
last_place items key place long below =
    let size : length (keys_of items) ≡ place = length-map items (λ (item : Item). item.0) ∙ long in
    subst (λ (n : ℕ). IsPlace (keys_of items) key n) size record {
      within = omega arith;
      below = subst (All (λ (k : Key). KeyBelow k key)) (sym (take_all (length (keys_of items)) (keys_of items) (omega arith))) (All-map (λ (k : Key). KeyBelow k key) (λ (item : Item). item.0) items below);
      above = subst (All (λ (k : Key). KeyBelow key k)) (sym (drop_all (length (keys_of items)) (keys_of items) (omega arith))) (All-nil (λ (k : Key). KeyBelow key k));
    }

length_root : (v : RootValue) → length (root_bytes v) ≡ 439
unfolding root_bytes
length_root v = refl

insert_end : (xs : List Item) (x : Item) → insert xs (length xs) x ≡ xs ++ x ∷ []
insert_end [] x = refl
insert_end (y ∷ ys) x = ap (λ (l : List Item). y ∷ l) (insert_end ys x)

data_of_entries : (roots : List (Key × RootItem)) → data_of (root_entries roots) ≡ 439 * length roots
data_of_entries [] = omega arith
data_of_entries (root ∷ roots) =
    let one = length_root (root_view root.1) in
    let rest = data_of_entries roots in
    omega (arith, one, rest)

take_more : {X : Type 0} (xs : List X) (place : ℕ) (x : X) → slice_get xs place ≡ Some x → take (place + 1) xs ≡ take place xs ++ x ∷ []
take_more {X} xs place x there = ap (λ (n : ℕ). take n xs) one ∙ take_suc xs place x there
  where
    one : place + 1 ≡ suc place
    one = omega arith

    take_suc : (xs : List X) (place : ℕ) (x : X) → slice_get xs place ≡ Some x → take (suc place) xs ≡ take place xs ++ x ∷ []
    take_suc [] place x h = absurd cc
    take_suc (y ∷ ys) zero x h = let same : y ≡ x = cc in ap (λ z. z ∷ []) same
    take_suc (y ∷ ys) (suc place) x h = ap (λ l. y ∷ l) (take_suc ys place x h)

module _ (roots : List (Key × RootItem)) (place : ℕ) (root : Key × RootItem) (there : slice_get roots place ≡ Some root) where
  front : List (Key × RootItem)
  front = take place roots

  length_entries : length (root_entries (take place roots)) ≡ place
  length_entries = length-map (take place roots) root_entry ∙ length_cut roots place root there

  more_is : take (place + 1) roots ≡ take place roots ++ root ∷ []
  more_is = take_more roots place root there

  cut : root_entries roots ≡ root_entries (take place roots) ++ root_entry root ∷ root_entries (drop (suc place) roots)
  cut =
      ap root_entries (cut_at roots place root there) ∙ map-append root_entry (take place roots) (root ∷ drop (suc place) roots)

  -- its key belongs at the end
  pub place_at_end : (items : List Item) → items ≡ root_entries (take place roots) → ItemsRise (root_entries roots) → IsPlace (keys_of items) root.0 place
  place_at_end items are rise =
      let below : AreBelow root.0 (root_entries (take place roots)) = rise_before (root_entries (take place roots)) (root_entry root) (root_entries (drop (suc place) roots)) (subst ItemsRise cut rise) in
      subst (λ (l : List Item). IsPlace (keys_of l) root.0 place) (sym are) (last_place (root_entries (take place roots)) root.0 place length_entries below)

  -- there is room for it
  pub room_at_end : (items : List Item) (bytes : List ℕ) → items ≡ root_entries (take place roots) → place < 8 → bytes ≡ root_bytes (root_view root.1) → 25 + length bytes ≤ room_of items
  room_at_end items bytes are few is =
      let long : length items ≡ place = ap length are ∙ length_entries in
      let full : data_of items ≡ 439 * length (take place roots) = ap data_of are ∙ data_of_entries (take place roots) in
      let count : length (take place roots) ≡ place = length_cut roots place root there in
      let size : length bytes ≡ 439 = ap length is ∙ length_root (root_view root.1) in
      omega (arith, long, full, count, size, few)

  -- with it the leaf has one more
  pub entries_more : (items : List Item) (bytes : List ℕ) → items ≡ root_entries (take place roots) → bytes ≡ root_bytes (root_view root.1) → insert items place (root.0, bytes) ≡ root_entries (take (place + 1) roots)
  entries_more items bytes are is =
      let end : insert items place (root_entry root) ≡ root_entries (take place roots) ++ root_entry root ∷ [] = ap (λ (l : List Item). insert l place (root_entry root)) are ∙ ap (λ (n : ℕ). insert (root_entries (take place roots)) n (root_entry root)) (sym length_entries) ∙ insert_end (root_entries (take place roots)) (root_entry root) in
      ap (λ (l : List ℕ). insert items place (root.0, l)) is ∙ end ∙ sym (map-append root_entry (take place roots) (root ∷ [])) ∙ ap root_entries (sym more_is)

-- the root at a place
pub root_at : (roots : List (Key × RootItem)) (place : ℕ) (d : Key × RootItem) → place < length roots → slice_get roots place ≡ Some (slice_index_or roots place d)
root_at [] place d less = absurd (omega (arith, less))
root_at (root ∷ roots) zero d less = refl
root_at (root ∷ roots) (suc place) d less = root_at roots place d (omega (arith, less))

-- what stands so far in a leaf that was taken
pub record IsFilling (old now : Table) (at : ℕ) (items : List Item) : Type 0 where
  pub leaf : IsDirtyLeaf now at
  pub listed : leaf_at now at ≡ items
  pub slot : block_at now at ≡ dirty_slot (block_at now at).bytes
  pub same : IsSameBut old now (at ∷ [])
  pub spare : now.spare ≡ old.spare
  pub free : free_blocks now ≡ free_blocks old

pub filling_none : (before old : Table) (at : ℕ) → IsTakenAt before old at → IsDirtyLeaf old at → leaf_at old at ≡ [] → IsFilling old old at []
filling_none before old at taken leaf none = record {
  leaf = leaf;
  listed = none;
  slot = taken.dirty;
  same = record { size = refl; lists = refl; others = λ x apart. refl };
  spare = refl;
  free = refl;
}

pub filling_more : (old now next : Table) (at : ℕ) (items more : List Item) → IsFilling old now at items → IsDirtyLeaf next at → leaf_at next at ≡ more → HasNewBytes now next at → IsSameBut now next (at ∷ []) → next.spare ≡ now.spare → free_blocks next ≡ free_blocks now → IsFilling old next at more
filling_more old now next at items more before leaf listed kept same spare free = record {
  leaf = leaf;
  listed = listed;
  slot = kept ∙ ap (λ (slot : BlockSlot). record slot { bytes = (block_at next at).bytes }) before.slot;
  same = record {
    size = same.size ∙ before.same.size;
    lists = same.lists ∙ before.same.lists;
    others = λ x apart. same.others x apart ∙ before.same.others x apart;
  };
  spare = spare ∙ before.spare;
  free = free ∙ before.free;
}

-- the leaf was taken, and is filled
pub filled_taken : (before old now : Table) (at : ℕ) (items : List Item) → IsTakenAt before old at → IsFilling old now at items → IsTakenAt before now at
filled_taken before old now at items taken filled = record { allowed = taken.allowed; was_free = taken.was_free; dirty = filled.slot }

pub filled_same : (before old now : Table) (at : ℕ) (items : List Item) → IsSameBut before old (at ∷ []) → IsFilling old now at items → IsSameBut before now (at ∷ [])
filled_same before old now at items same filled = record {
  size = filled.same.size ∙ same.size;
  lists = filled.same.lists ∙ same.lists;
  others = λ x apart. filled.same.others x apart ∙ same.others x apart;
}
