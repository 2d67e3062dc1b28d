-- How many nodes are still ahead of an edit.
use Rattle.std.proofs.Common.{◌≡◌, ◌≢◌, ◌≤◌, ◌+◌, ◌&&◌, ℕ, zero, suc, Bool, true, false, cond, List, [], ◌∷◌, length, refl, ap, ◌∙◌, sym, subst, Some, IsSome, arith, inl, inr}
use Rattle.std.specs.Prelude.{if◌then◌else◌}
use Rattle.std.proofs.Math.Bool.{and-true}
use Rattle.std.proofs.lemmas.Bool.{cases_Bool, lt-ltb}
use Rattle.std.proofs.lemmas.List.Elements.{All-head, All-tail}
use Rattle.std.proofs.lemmas.List.Sums.{sum_by-cons}
use Rattle.blk_base.specs.declared.key.Key.{Key}
use Rattle.blk_base.specs.Keys.{key_below}
use Rattle.blk_base.specs.Leaf.{Item, Pointer}
use Rattle.block_table.specs.declared.state.SlotState.{SlotState}
use Rattle.block_table.specs.declared.state.SlotState.TheVariants.{Free, Dirty, Sealed, Live, LetGo}
use Rattle.block_table.specs.Slot.{BlockSlot}
use Rattle.block_table.specs.Table.{Table}
use Rattle.block_table.specs.TreeIn.{block_at}
use Rattle.tree_range.specs.Shape.{AreAlike, items_below, node_pointers, reach_below}
use Rattle.tree_range.specs.Between.{data_under, has_key, items_between}
use Rattle.tree_range.proofs.Local.{alike_below, node_pointers_alike}
use Rattle.tree_range.proofs.Rise.{All-left, All-right}
use Rattle.tree_range.proofs.Under.{has_key_means}
use Rattle.tree_frame.specs.Frame.{TakesAtMost}
use Rattle.tree_delete.specs.Ahead.{IsBetween, copies_of, has_between, is_clean, nodes_ahead, row_ahead}
use Rattle.tree_delete.specs.Rows.{HasItemBelow, row_reach}

-- ---- an item of the range

between_behind : (first last : Key) (x : Item) (xs : List Item) → length (items_between first last xs) ≤ length (items_between first last (x ∷ xs))
between_behind first last x xs = elim (cases_Bool (key_below x.0 first)) [
  | inl gone ↦ rw gone (omega arith)
  | inr kept ↦ elim (cases_Bool (key_below last x.0)) [ inl gone ↦ rw kept (rw gone (omega arith)) | inr there ↦ rw kept (rw there (omega arith)) ]
]

some_between : (first last key : Key) (items : List Item) → IsBetween first last key → IsSome (data_under key items) → 1 ≤ length (items_between first last items)
some_between first last key [] between some = absurd cc
some_between first last key (x ∷ xs) between some = elim (cases_Bool (has_key key x)) [
  | inl same ↦
      let key_is : key ≡ x.0 = sym (has_key_means key x same) in
      let from : key_below x.0 first ≡ false = subst (λ (k : Key). key_below k first ≡ false) key_is between.from in
      let to : key_below last x.0 ≡ false = subst (λ (k : Key). key_below last k ≡ false) key_is between.to in
      rw from (rw to (omega arith))
  | inr other ↦
      let behind : IsSome (data_under key xs) = subst (λ (b : Bool). IsSome (if b then Some x.1 else data_under key xs)) other some in
      omega (arith, some_between first last key xs between behind, between_behind first last x xs)
]

pub has_one_between : (first last key : Key) (items : List Item) → IsBetween first last key → IsSome (data_under key items) → has_between first last items ≡ true
has_one_between first last key items between some =
    let one = some_between first last key items between some in
    lt-ltb 0 (length (items_between first last items)) (omega (arith, one))

-- ---- a node itself

-- a node with the item below it is one of those that are ahead, unless it is Dirty
pub node_ahead : (first last key : Key) (level : ℕ) (table : Table) (at : ℕ) → HasItemBelow level table at key → IsBetween first last key → nodes_ahead first last (suc level) table at ≡ copies_of (block_at table at).state + row_ahead first last level table (node_pointers table at)
node_ahead first last key level table at h between =
    let clean = is_clean (block_at table at).state in
    let row = row_ahead first last level table (node_pointers table at) in
    let items = items_below (suc level) table at in
    ap (λ (b : Bool). cond (clean && b) 1 0 + row) (has_one_between first last key items between h.present) ∙ ap (λ (b : Bool). cond b 1 0 + row) (and-true clean)

pub dirty_ahead : (first last : Key) (level : ℕ) (table : Table) (at : ℕ) → (block_at table at).state ≡ Dirty → nodes_ahead first last (suc level) table at ≡ row_ahead first last level table (node_pointers table at)
dirty_ahead first last level table at dirty =
    let has = has_between first last (items_below (suc level) table at) in
    let own : ℕ = cond (is_clean (block_at table at).state && has) 1 0 in
    let none : own ≡ 0 = ap (λ (state : SlotState). cond (is_clean state && has) 1 0) dirty in
    omega (arith, none)

pub below_ahead : (first last : Key) (level : ℕ) (table : Table) (at : ℕ) → row_ahead first last level table (node_pointers table at) ≤ nodes_ahead first last (suc level) table at
below_ahead first last level table at = omega arith

-- ---- two tables that are alike

rows_same : (first last : Key) (level : ℕ) (old new : Table) → ((at : ℕ) → AreAlike old new (reach_below level old at) → nodes_ahead first last level new at ≡ nodes_ahead first last level old at) → (pointers : List Pointer) → AreAlike old new (row_reach level old pointers) → row_ahead first last level new pointers ≡ row_ahead first last level old pointers
rows_same first last level old new same [] h = refl
rows_same first last level old new same (p ∷ pointers) h =
    let P : ℕ → Type 0 = λ (place : ℕ). block_at new place ≡ block_at old place in
    let near = reach_below level old p.at in
    let far = row_reach level old pointers in
    let f : Pointer → ℕ = λ (pointer : Pointer). nodes_ahead first last level new pointer.at in
    let g : Pointer → ℕ = λ (pointer : Pointer). nodes_ahead first last level old pointer.at in
    omega (arith, sum_by-cons f p pointers, sum_by-cons g p pointers, same p.at (All-left P near far h), rows_same first last level old new same pointers (All-right P near far h))

pub ahead_alike : (first last : Key) (level : ℕ) (old new : Table) (at : ℕ) → AreAlike old new (reach_below level old at) → nodes_ahead first last level new at ≡ nodes_ahead first last level old at
ahead_alike first last zero old new at h = refl
ahead_alike first last (suc level) old new at h =
    let P : ℕ → Type 0 = λ (place : ℕ). block_at new place ≡ block_at old place in
    let pointers = node_pointers old at in
    let far = row_reach level old pointers in
    let here = All-head P at far h in
    let items = (alike_below (suc level) old new at h).items in
    let own : SlotState → List Item → ℕ = λ state list. cond (is_clean state && has_between first last list) 1 0 in
    let row = row_ahead first last level new (node_pointers new at) in
    let same : row ≡ row_ahead first last level old pointers = ap (row_ahead first last level new) (node_pointers_alike old new at here) ∙ rows_same first last level old new (λ place k. ahead_alike first last level old new place k) pointers (All-tail P at far h) in
    ap (λ (slot : BlockSlot). own slot.state (items_below (suc level) new at) + row) here
    ∙ ap (λ (list : List Item). own (block_at old at).state list + row) items
    ∙ ap (λ (n : ℕ). own (block_at old at).state (items_below (suc level) old at) + n) same

pub row_ahead_alike : (first last : Key) (level : ℕ) (old new : Table) (pointers : List Pointer) → AreAlike old new (row_reach level old pointers) → row_ahead first last level new pointers ≡ row_ahead first last level old pointers
row_ahead_alike first last level old new pointers h = rows_same first last level old new (λ at k. ahead_alike first last level old new at k) pointers h

-- ---- numbers

-- leaves are never ahead
pub leaves_ahead : (first last : Key) (table : Table) (pointers : List Pointer) → row_ahead first last 0 table pointers ≡ 0
leaves_ahead first last table [] = refl
leaves_ahead first last table (p ∷ pointers) = omega (arith, sum_by-cons (λ (pointer : Pointer). nodes_ahead first last 0 table pointer.at) p pointers, leaves_ahead first last table pointers)

pub copies_few : (state : SlotState) → copies_of state ≤ 1
copies_few Free = omega arith
copies_few Dirty = omega arith
copies_few Sealed = omega arith
copies_few Live = omega arith
copies_few LetGo = omega arith

pub copies_one : (state : SlotState) → state ≢ Dirty → copies_of state ≡ 1
copies_one Free other = refl
copies_one Dirty other = absurd (other refl)
copies_one Sealed other = refl
copies_one Live other = refl
copies_one LetGo other = refl

pub takes_one : (old new : Table) (state : SlotState) → TakesAtMost old new (copies_of state) → TakesAtMost old new 1
takes_one old new state h = let few = copies_few state in record { spare = omega (arith, h.spare, few); free = omega (arith, h.free, few) }
