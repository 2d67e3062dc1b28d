-- A Dirty leaf that is filled with root items, one behind the other.
use Rattle.std.proofs.Common.{◌≡◌, ◌∙◌, ◌≤◌, ◌<◌, ◌+◌, ◌*◌, ℕ, zero, suc, List, [], ◌∷◌, ◌++◌, length, take, drop, Some, refl, sym, ap, subst, arith}
use Rattle.std.specs.Prelude.{All, insert, slice_get, slice_index_or}
use Rattle.std.proofs.lemmas.List.{drop_all, length-map, map-append, take_all}
use Rattle.std.proofs.lemmas.List.Elements.{All-map, All-nil}
use Rattle.blk_base.specs.declared.key.Addr.{Addr}
use Rattle.blk_base.specs.declared.key.Key.{Key}
use Rattle.blk_base.specs.declared.key.SubId.{SubId}
use Rattle.blk_base.specs.Items.{RootValue, root_bytes}
use Rattle.blk_base.specs.Keys.{KeyBelow}
use Rattle.blk_base.specs.Leaf.{Item, data_of, room_of}
use Rattle.blk_base.specs.Trees.{ItemsRise}
use Rattle.block_table.specs.declared.state.SlotState.TheVariants.{Dirty}
use Rattle.block_table.specs.Slot.{BlockSlot}
use Rattle.block_table.specs.Table.{Table, slot_at, state_at}
use Rattle.block_table.specs.TreeIn.{block_at}
use Rattle.leaf_view.specs.Search.{IsPlace, keys_of}
use Rattle.tree_range.specs.Between.{AreBelow}
use Rattle.tree_range.proofs.Cuts.{cut_at, length_cut}
use Rattle.tree_range.proofs.Rise.{rise_before}
use Rattle.tree_blocks.proofs.Put.{rebytes, written_bytes, written_free, written_others, written_slot}
use Rattle.volume_format.specs.declared.root_item.RootItem.{RootItem}
use Rattle.volume_format.specs.Views.{root_view}
use Rattle.log_root.specs.Built.{IsRewritten}
use Rattle.log_root.specs.Entries.{log_entries, log_entry, log_key}

-- a key that is above all others belongs at the end
last_place : (items : List Item) (key : Key) (place : ℕ) → length items ≡ place → AreBelow key items → IsPlace (keys_of items) key place
last_place items key place long below =
    let size : length (keys_of items) ≡ place = length-map items (λ (item : Item). item.0) ∙ long in
    subst (λ (n : ℕ). IsPlace (keys_of items) key n) size record {
      within = omega arith;
      below = subst (All (λ (k : Key). KeyBelow k key)) (sym (take_all (length (keys_of items)) (keys_of items) (omega arith))) (All-map (λ (k : Key). KeyBelow k key) (λ (item : Item). item.0) items below);
      above = subst (All (λ (k : Key). KeyBelow key k)) (sym (drop_all (length (keys_of items)) (keys_of items) (omega arith))) (All-nil (λ (k : Key). KeyBelow key k));
    }

length_root : (v : RootValue) → length (root_bytes v) ≡ 439
unfolding root_bytes
length_root v = refl

insert_end : (xs : List Item) (x : Item) → insert xs (length xs) x ≡ xs ++ x ∷ []
insert_end [] x = refl
insert_end (y ∷ ys) x = ap (λ (l : List Item). y ∷ l) (insert_end ys x)

data_of_entries : (roots : List (SubId × RootItem)) → data_of (log_entries roots) ≡ 439 * length roots
data_of_entries [] = omega arith
data_of_entries (root ∷ roots) =
    let one = length_root (root_view root.1) in
    let rest = data_of_entries roots in
    omega (arith, one, rest)

take_more : {X : Type 0} (xs : List X) (place : ℕ) (x : X) → slice_get xs place ≡ Some x → take (place + 1) xs ≡ take place xs ++ x ∷ []
take_more {X} xs place x there = ap (λ (n : ℕ). take n xs) one ∙ take_suc xs place x there
  where
    one : place + 1 ≡ suc place
    one = omega arith

    take_suc : (xs : List X) (place : ℕ) (x : X) → slice_get xs place ≡ Some x → take (suc place) xs ≡ take place xs ++ x ∷ []
    take_suc [] place x h = absurd cc
    take_suc (y ∷ ys) zero x h = let same : y ≡ x = cc in ap (λ z. z ∷ []) same
    take_suc (y ∷ ys) (suc place) x h = ap (λ l. y ∷ l) (take_suc ys place x h)

module _ (roots : List (SubId × RootItem)) (place : ℕ) (root : SubId × RootItem) (there : slice_get roots place ≡ Some root) where
  front : List (SubId × RootItem)
  front = take place roots

  length_entries : length (log_entries (take place roots)) ≡ place
  length_entries = length-map (take place roots) log_entry ∙ length_cut roots place root there

  more_is : take (place + 1) roots ≡ take place roots ++ root ∷ []
  more_is = take_more roots place root there

  cut : log_entries roots ≡ log_entries (take place roots) ++ log_entry root ∷ log_entries (drop (suc place) roots)
  cut =
      ap log_entries (cut_at roots place root there) ∙ map-append log_entry (take place roots) (root ∷ drop (suc place) roots)

  -- its key belongs at the end
  pub place_at_end : (items : List Item) → items ≡ log_entries (take place roots) → ItemsRise (log_entries roots) → IsPlace (keys_of items) (log_key root.0.0) place
  place_at_end items are rise =
      let below : AreBelow (log_key root.0.0) (log_entries (take place roots)) = rise_before (log_entries (take place roots)) (log_entry root) (log_entries (drop (suc place) roots)) (subst ItemsRise cut rise) in
      subst (λ (l : List Item). IsPlace (keys_of l) (log_key root.0.0) place) (sym are) (last_place (log_entries (take place roots)) (log_key root.0.0) place length_entries below)

  -- there is room for it
  pub room_at_end : (items : List Item) (bytes : List ℕ) → items ≡ log_entries (take place roots) → place < 8 → bytes ≡ root_bytes (root_view root.1) → 25 + length bytes ≤ room_of items
  room_at_end items bytes are few is =
      let long : length items ≡ place = ap length are ∙ length_entries in
      let full : data_of items ≡ 439 * length (take place roots) = ap data_of are ∙ data_of_entries (take place roots) in
      let count : length (take place roots) ≡ place = length_cut roots place root there in
      let size : length bytes ≡ 439 = ap length is ∙ length_root (root_view root.1) in
      omega (arith, long, full, count, size, few)

  -- with it the leaf has one more
  pub entries_more : (items : List Item) (bytes : List ℕ) → items ≡ log_entries (take place roots) → bytes ≡ root_bytes (root_view root.1) → insert items place (log_key root.0.0, bytes) ≡ log_entries (take (place + 1) roots)
  entries_more items bytes are is =
      let end : insert items place (log_entry root) ≡ log_entries (take place roots) ++ log_entry root ∷ [] = ap (λ (l : List Item). insert l place (log_entry root)) are ∙ ap (λ (n : ℕ). insert (log_entries (take place roots)) n (log_entry root)) (sym length_entries) ∙ insert_end (log_entries (take place roots)) (log_entry root) in
      ap (λ (l : List ℕ). insert items place (log_key root.0.0, l)) is ∙ end ∙ sym (map-append log_entry (take place roots) (root ∷ [])) ∙ ap log_entries (sym more_is)

-- the root at a place
pub root_at : (roots : List (SubId × RootItem)) (place : ℕ) (d : SubId × RootItem) → place < length roots → slice_get roots place ≡ Some (slice_index_or roots place d)
root_at [] place d less = absurd (omega (arith, less))
root_at (root ∷ roots) zero d less = refl
root_at (root ∷ roots) (suc place) d less = root_at roots place d (omega (arith, less))

-- ---- a block is written once and again

pub rewritten_once : (table : Table) (at : Addr) (bytes : List ℕ) → state_at table at ≡ Dirty → IsRewritten table (rebytes table at bytes) at.0
rewritten_once table at bytes dirty = record {
  kept = written_slot table at bytes dirty ∙ ap (λ (l : List ℕ). record (slot_at table at) { bytes = l }) (sym (written_bytes table at bytes dirty));
  same = written_others table at bytes dirty;
  spare = refl;
  free = written_free table at bytes dirty;
}

pub rewritten_twice : (old mid new : Table) (at : ℕ) → IsRewritten old mid at → IsRewritten mid new at → IsRewritten old new at
rewritten_twice old mid new at one two = record {
  kept = two.kept ∙ ap (λ (slot : BlockSlot). record slot { bytes = (block_at new at).bytes }) one.kept;
  same = record {
    size = two.same.size ∙ one.same.size;
    lists = two.same.lists ∙ one.same.lists;
    others = λ x apart. two.same.others x apart ∙ one.same.others x apart;
  };
  spare = two.spare ∙ one.spare;
  free = two.free ∙ one.free;
}
