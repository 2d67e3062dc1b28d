-- Leaves edited: what stands in place of one.
use Rattle.std.proofs.Common.{◌≡◌, ◌≢◌, ◌≤◌, ◌+◌, ◌*◌, ℕ, zero, suc, List, [], ◌∷◌, ◌++◌, length, take, drop, refl, ap, ◌∙◌, sym, subst, arith, append_assoc, inl, inr}
use Rattle.std.specs.Prelude.{Some, insert, remove, slice_get}
use Rattle.std.proofs.Math.Seq.{take-append_seam, drop-append_seam}
use Rattle.std.proofs.lemmas.Bool.{cases_eq}
use Rattle.std.proofs.lemmas.List.{append-nil}
use Rattle.std.proofs.lemmas.List.Elements.{All-nil, All-cons}
use Rattle.blk_base.specs.declared.key.Key.{Key}
use Rattle.blk_base.specs.Keys.{KeyBelow}
use Rattle.blk_base.specs.Leaf.{Item, data_of, room_of}
use Rattle.block_table.specs.declared.state.SlotState.TheVariants.{Free, Dirty}
use Rattle.block_table.specs.Slot.{BlockSlot}
use Rattle.block_table.specs.Table.{Table}
use Rattle.blk_base.specs.Trees.{ItemsRise, first_key}
use Rattle.block_table.specs.TreeIn.{block_at}
use Rattle.leaf_view.specs.Search.{IsPlace, contents_of, keys_of}
use Rattle.tree_range.specs.Part.{times_in}
use Rattle.tree_range.specs.Between.{data_under}
use Rattle.tree_range.proofs.Under.{none_below, under_here, under_past}
use Rattle.tree_blocks.specs.declared.child.Child.{Child}
use Rattle.tree_blocks.specs.Lists.{IsLeafBlock, leaf_list, pointer_to}
use Rattle.tree_blocks.specs.Steps.{IsDirtyLeaf, leaf_at}
use Rattle.cow_tree.specs.Change.{IsChange}
use Rattle.cow_tree.specs.Spread.{IsLeafPiece, IsLeafSpread}
use Rattle.cow_tree.proofs.Changes.{beside, join_lists, more}
use Rattle.cow_tree.proofs.Steps.{elsewhere, here}
use Rattle.cow_tree.proofs.Items.{IsFoundAt, above_place, below_place, cut_place, found_at, found_lower, found_upper, lower, room_without, upper}
use Rattle.cow_tree.proofs.Pointers.{insert_cut, length_front}

-- ---- a block beside an edit

pub beside_one : (old new : Table) (b a b' a' : List ℕ) (y m : ℕ) → IsChange old new b a m → times_in y b ≡ 0 → (block_at old y).state ≢ Free → ((x : ℕ) → times_in x b' ≡ times_in x b + times_in x (y ∷ [])) → ((x : ℕ) → times_in x a' ≡ times_in x a + times_in x (y ∷ []))
    → IsChange old new b' a' m
beside_one old new b a b' a' y m h none taken e f =
    more old new (λ x. times_in x b) (λ x. times_in x a) (λ x. times_in x (y ∷ [])) (λ x. times_in x b') (λ x. times_in x a') m h
    (λ x there. elim (cases_eq y x) [
      | inl same ↦ (subst (λ (z : ℕ). times_in z b ≡ 0) same none, subst (λ (z : ℕ). (block_at old z).state ≢ Free) same taken)
      | inr other ↦ absurd (omega (arith, elsewhere y x other))
    ])
    (λ x. elim (cases_eq y x) [ inl same ↦ omega (arith, here y x same) | inr other ↦ omega (arith, elsewhere y x other) ])
    e f

pub dirty_taken : (table : Table) (at : ℕ) → (block_at table at).state ≡ Dirty → (block_at table at).state ≢ Free
dirty_taken table at dirty free = let wrong : Dirty ≡ Free = sym dirty ∙ free in cc

-- a Dirty block isn't one that is Free
pub dirty_apart : (table : Table) (at other : ℕ) → (block_at table at).state ≡ Dirty → (block_at table other).state ≡ Free → at ≢ other
dirty_apart table at other dirty free e = dirty_taken table at dirty (subst (λ (y : ℕ). (block_at table y).state ≡ Free) (sym e) free)

-- ---- a leaf that stays as it was

pub leaf_same : (old new : Table) (at : ℕ) → block_at new at ≡ block_at old at → leaf_at new at ≡ leaf_at old at
leaf_same old new at same = ap (λ (slot : BlockSlot). leaf_list slot.bytes) same

pub leaf_kept : (old new : Table) (at : ℕ) → block_at new at ≡ block_at old at → IsDirtyLeaf old at → IsDirtyLeaf new at
leaf_kept old new at same h = record {
  dirty = ap (λ (slot : BlockSlot). slot.state) same ∙ h.dirty;
  body = subst (λ (slot : BlockSlot). IsLeafBlock slot.bytes) (sym same) h.body;
}

-- ---- places

pub place_nothing : (items : List Item) (key : Key) → items ≡ [] → IsPlace (keys_of items) key 0
place_nothing items key e = subst (λ (l : List Item). IsPlace (keys_of l) key 0) (sym e) (cut_place [] [] key 0 refl (All-nil (λ (item : Item). KeyBelow item.0 key)) (All-nil (λ (item : Item). KeyBelow key item.0)))

pub place_last : (items : List Item) (key : Key) (place : ℕ) → IsPlace (keys_of items) key place → place ≤ length items → IsPlace (keys_of (take place items)) key place
place_last items key place h within =
    subst (λ (l : List Item). IsPlace (keys_of l) key place) (append-nil (take place items)) (cut_place (take place items) [] key place (length_front place items within) (below_place items key place h) (All-nil (λ (item : Item). KeyBelow key item.0)))

pub place_first : (items : List Item) (key : Key) (place : ℕ) → IsPlace (keys_of items) key place → IsPlace (keys_of (drop place items)) key 0
place_first items key place h = cut_place [] (drop place items) key 0 refl (All-nil (λ (item : Item). KeyBelow item.0 key)) (above_place items key place h)

-- an item at the end of the front
pub insert_last : (items : List Item) (place : ℕ) (x : Item) → place ≤ length items → insert (take place items) place x ++ drop place items ≡ insert items place x
insert_last items place x within =
    let there : insert (take place items ++ []) place x ≡ take place items ++ x ∷ [] = insert_cut (take place items) [] x place (length_front place items within) in
    ap (λ (l : List Item). l ++ drop place items) (subst (λ (l : List Item). insert l place x ≡ take place items ++ x ∷ []) (append-nil (take place items)) there) ∙ append_assoc (take place items) (x ∷ []) (drop place items)

pub insert_behind : (items : List Item) (place : ℕ) (x : Item) → place ≡ length items → insert items place x ≡ items ++ x ∷ []
insert_behind items place x at = subst (λ (l : List Item). insert l place x ≡ items ++ x ∷ []) (append-nil items) (insert_cut items [] x place (sym at))

pub insert_front : (items : List Item) (place : ℕ) (x : Item) → place ≡ 0 → insert items place x ≡ x ∷ items
insert_front items place x at = ap (λ (n : ℕ). insert items n x) at

-- ---- the pieces

pub one_spread : (old new : Table) (at x : ℕ) (a : Child) (items : List Item) (most : ℕ) → a.at.0 ≡ x → leaf_at new x ≡ items → IsLeafPiece new (pointer_to a) → IsChange old new (at ∷ []) (x ∷ []) most
    → IsLeafSpread old new at items (pointer_to a ∷ []) most
one_spread old new at x a items most p is piece changes = record {
  items_are = append-nil (leaf_at new a.at.0) ∙ ap (leaf_at new) p ∙ is;
  each = All-cons (IsLeafPiece new) (pointer_to a) [] piece (All-nil (IsLeafPiece new));
  changes = subst (λ (n : ℕ). IsChange old new (at ∷ []) (n ∷ []) most) (sym p) changes;
}

pub two_spread : (old new : Table) (at x y : ℕ) (a b : Child) (items : List Item) (most : ℕ) → a.at.0 ≡ x → b.at.0 ≡ y → leaf_at new x ++ leaf_at new y ≡ items → IsLeafPiece new (pointer_to a) → IsLeafPiece new (pointer_to b) → IsChange old new (at ∷ []) (x ∷ y ∷ []) most
    → IsLeafSpread old new at items (pointer_to a ∷ pointer_to b ∷ []) most
two_spread old new at x y a b items most p q is piece other changes = record {
  items_are = ap (λ (l : List Item). leaf_at new a.at.0 ++ l) (append-nil (leaf_at new b.at.0)) ∙ ap (λ (n : ℕ). leaf_at new n ++ leaf_at new b.at.0) p ∙ ap (λ (n : ℕ). leaf_at new x ++ leaf_at new n) q ∙ is;
  each = All-cons (IsLeafPiece new) (pointer_to a) (pointer_to b ∷ []) piece (All-cons (IsLeafPiece new) (pointer_to b) [] other (All-nil (IsLeafPiece new)));
  changes = subst (λ (n : ℕ). IsChange old new (at ∷ []) (n ∷ b.at.0 ∷ []) most) (sym p) (subst (λ (n : ℕ). IsChange old new (at ∷ []) (x ∷ n ∷ []) most) (sym q) changes);
}

pub three_spread : (old new : Table) (at x y z : ℕ) (a b c : Child) (items : List Item) (most : ℕ) → a.at.0 ≡ x → b.at.0 ≡ y → c.at.0 ≡ z → leaf_at new x ++ (leaf_at new y ++ leaf_at new z) ≡ items → IsLeafPiece new (pointer_to a) → IsLeafPiece new (pointer_to b) → IsLeafPiece new (pointer_to c)
    → IsChange old new (at ∷ []) (x ∷ y ∷ z ∷ []) most → IsLeafSpread old new at items (pointer_to a ∷ pointer_to b ∷ pointer_to c ∷ []) most
three_spread old new at x y z a b c items most p q r is piece other third changes = record {
  items_are = ap (λ (l : List Item). leaf_at new a.at.0 ++ (leaf_at new b.at.0 ++ l)) (append-nil (leaf_at new c.at.0)) ∙ ap (λ (n : ℕ). leaf_at new n ++ (leaf_at new b.at.0 ++ leaf_at new c.at.0)) p ∙ ap (λ (n : ℕ). leaf_at new x ++ (leaf_at new n ++ leaf_at new c.at.0)) q ∙ ap (λ (n : ℕ). leaf_at new x ++ (leaf_at new y ++ leaf_at new n)) r ∙ is;
  each = All-cons (IsLeafPiece new) (pointer_to a) (pointer_to b ∷ pointer_to c ∷ []) piece (All-cons (IsLeafPiece new) (pointer_to b) (pointer_to c ∷ []) other (All-cons (IsLeafPiece new) (pointer_to c) [] third (All-nil (IsLeafPiece new))));
  changes = subst (λ (n : ℕ). IsChange old new (at ∷ []) (n ∷ b.at.0 ∷ c.at.0 ∷ []) most) (sym p) (subst (λ (n : ℕ). IsChange old new (at ∷ []) (x ∷ n ∷ c.at.0 ∷ []) most) (sym q) (subst (λ (n : ℕ). IsChange old new (at ∷ []) (x ∷ y ∷ n ∷ []) most) (sym r) changes));
}

-- ---- answers of the functions on leaves

pub first_from : (items : List Item) (key : Key) → slice_get (keys_of items) 0 ≡ Some key → first_key items ≡ Some key
first_from [] key h = absurd cc
first_from (x ∷ xs) key h = h

pub room_nothing : (items : List Item) (n : ℕ) → items ≡ [] → n ≤ 3995 → n ≤ room_of items
room_nothing items n e h = subst (λ (l : List Item). n ≤ room_of l) (sym e) h

pub some_of : (items others : List Item) (x : Item) → items ≡ x ∷ others → 1 ≤ length items
some_of items others x e = omega (arith, ap length e)

-- an item alone stands in front of a leaf, or behind it
module _ (old new : Table) (at lone : ℕ) (leaf : IsDirtyLeaf old at) (changes : IsChange old new [] (lone ∷ []) 1) where
  pub kept_block : block_at new at ≡ block_at old at
  kept_block = beside old new (λ x. 0) (λ x. times_in x (lone ∷ [])) 1 at changes refl (dirty_taken old at leaf.dirty)

  pub front_changes : IsChange old new (at ∷ []) (lone ∷ at ∷ []) 1
  front_changes = beside_one old new [] (lone ∷ []) (at ∷ []) (lone ∷ at ∷ []) at 1 changes refl (dirty_taken old at leaf.dirty) (λ x. omega arith) (λ x. omega arith)

  pub back_changes : IsChange old new (at ∷ []) (at ∷ lone ∷ []) 1
  back_changes = beside_one old new [] (lone ∷ []) (at ∷ []) (at ∷ lone ∷ []) at 1 changes refl (dirty_taken old at leaf.dirty) (λ x. omega arith) (λ x. omega arith)

-- an item beside the halves of a split leaf, or in one of them
module _ (old mid new : Table) (at right : ℕ) (s : IsChange old mid (at ∷ []) (at ∷ right ∷ []) 1) (apart : at ≢ right) (left_leaf : IsDirtyLeaf mid at) (right_leaf : IsDirtyLeaf mid right) where
  pub written_left : IsChange mid new (at ∷ []) (at ∷ []) 0 → IsChange old new (at ∷ []) (at ∷ right ∷ []) 1
  written_left h = join_lists old mid new (at ∷ []) (at ∷ right ∷ []) (at ∷ right ∷ []) 1 0 s (beside_one mid new (at ∷ []) (at ∷ []) (at ∷ right ∷ []) (at ∷ right ∷ []) right 0 h (elsewhere at right apart) (dirty_taken mid right right_leaf.dirty) (λ x. omega arith) (λ x. omega arith))

  pub written_right : IsChange mid new (right ∷ []) (right ∷ []) 0 → IsChange old new (at ∷ []) (at ∷ right ∷ []) 1
  written_right h = join_lists old mid new (at ∷ []) (at ∷ right ∷ []) (at ∷ right ∷ []) 1 0 s (beside_one mid new (right ∷ []) (right ∷ []) (at ∷ right ∷ []) (at ∷ right ∷ []) at 0 h (elsewhere right at (λ e. apart (sym e))) (dirty_taken mid at left_leaf.dirty) (λ x. omega arith) (λ x. omega arith))

  pub written_between : (lone : ℕ) → IsChange mid new [] (lone ∷ []) 1 → IsChange old new (at ∷ []) (at ∷ lone ∷ right ∷ []) 2
  written_between lone h =
      let one : IsChange mid new (at ∷ []) (at ∷ lone ∷ []) 1 = back_changes mid new at lone left_leaf h in
      join_lists old mid new (at ∷ []) (at ∷ right ∷ []) (at ∷ lone ∷ right ∷ []) 1 1 s (beside_one mid new (at ∷ []) (at ∷ lone ∷ []) (at ∷ right ∷ []) (at ∷ lone ∷ right ∷ []) right 1 one (elsewhere at right apart) (dirty_taken mid right right_leaf.dirty) (λ x. omega arith) (λ x. omega arith))

  pub right_same : IsChange mid new (at ∷ []) (at ∷ []) 0 → block_at new right ≡ block_at mid right
  right_same h = beside mid new (λ x. times_in x (at ∷ [])) (λ x. times_in x (at ∷ [])) 0 right h (elsewhere at right apart) (dirty_taken mid right right_leaf.dirty)

  pub left_same : IsChange mid new (right ∷ []) (right ∷ []) 0 → block_at new at ≡ block_at mid at
  left_same h = beside mid new (λ x. times_in x (right ∷ [])) (λ x. times_in x (right ∷ [])) 0 at h (elsewhere right at (λ e. apart (sym e))) (dirty_taken mid at left_leaf.dirty)

-- ---- an item taken out

pub take_cut : {A : Type 0} (l r : List A) (n : ℕ) → length l ≡ n → take n (l ++ r) ≡ l
take_cut l r n long = subst (λ (m : ℕ). take m (l ++ r) ≡ l) long (take-append_seam l r)

pub drop_cut : {A : Type 0} (l r : List A) (n : ℕ) → length l ≡ n → drop n (l ++ r) ≡ r
drop_cut l r n long = subst (λ (m : ℕ). drop m (l ++ r) ≡ r) long (drop-append_seam l r)

content_at : (items : List Item) (place : ℕ) (x : Item) (bytes : List ℕ) → slice_get items place ≡ Some x → slice_get (contents_of items) place ≡ Some bytes → x.1 ≡ bytes
content_at [] place x bytes h k = absurd cc
content_at (y ∷ ys) zero x bytes h k = let same : y ≡ x = cc in let content : Some y.1 ≡ Some bytes = k in ap (λ (item : Item). item.1) (sym same) ∙ cc
content_at (y ∷ ys) (suc place) x bytes h k = content_at ys place x bytes h k

-- what a leaf is without the item of a key
module _ (items left : List Item) (key : Key) (place : ℕ) (bytes : List ℕ) (rise : ItemsRise items) (found : slice_get (keys_of items) place ≡ Some key) (content : slice_get (contents_of items) place ≡ Some bytes) (is : left ≡ remove items place) where
  there : IsFoundAt items key place
  there = found_at items key place rise found

  pub without_place : IsPlace (keys_of left) key place
  without_place = subst (λ (l : List Item). IsPlace (keys_of l) key place) (sym is) (cut_place (take place items) (drop (suc place) items) key place there.long there.below there.above)

  pub without_front : take place left ≡ lower key items
  without_front = ap (take place) is ∙ take_cut (take place items) (drop (suc place) items) place there.long ∙ sym (found_lower items key place there)

  pub without_back : drop place left ≡ upper key items
  without_back = ap (drop place) is ∙ drop_cut (take place items) (drop (suc place) items) place there.long ∙ sym (found_upper items key place there)

  bytes_are : there.item.1 ≡ bytes
  bytes_are = content_at items place there.item bytes there.there content

  pub without_room : 25 * length items + data_of items ≤ 3995 → room_of items + (25 + length bytes) ≡ room_of left
  without_room fits =
      let shown : 25 * length (take place items ++ there.item ∷ drop (suc place) items) + data_of (take place items ++ there.item ∷ drop (suc place) items) ≤ 3995 = subst (λ (l : List Item). 25 * length l + data_of l ≤ 3995) there.cut fits in
      let without = room_without (take place items) there.item (drop (suc place) items) shown in
      ap (λ (b : List ℕ). room_of items + (25 + length b)) (sym bytes_are) ∙ ap (λ (l : List Item). room_of l + (25 + length there.item.1)) there.cut ∙ sym without ∙ ap room_of (sym is)

  pub without_data : (was : List ℕ) → data_under key items ≡ Some was → was ≡ bytes
  without_data was under =
      let rest = drop (suc place) items in
      let past : data_under key items ≡ data_under key (there.item ∷ rest) = ap (data_under key) there.cut ∙ under_past key (take place items) (there.item ∷ rest) (none_below key (take place items) there.below) in
      let here : data_under key (there.item ∷ rest) ≡ Some there.item.1 = subst (λ (k : Key). data_under k (there.item ∷ rest) ≡ Some there.item.1) there.key_is (under_here there.item rest) in
      let both : Some was ≡ Some there.item.1 = sym under ∙ past ∙ here in
      let same : was ≡ there.item.1 = cc in same ∙ bytes_are
