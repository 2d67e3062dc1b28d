-- How many bytes the data of a list's first items have, as the list is edited.
use Rattle.std.proofs.Common.{◌≡◌, ◌≤◌, ◌<◌, ◌+◌, ℕ, suc, zero, List, [], ◌∷◌, ◌++◌, length, take, get_or, refl, ap, arith, ◌∙◌, add-one}
use Rattle.std.specs.Prelude.{insert, remove}
use Rattle.blk_base.specs.Leaf.{Item, data_of}
use Rattle.leaf_edit.specs.Packed.{data_before}

pub data_before_none : (items : List Item) → data_before items 0 ≡ 0
unfolding data_before
data_before_none items = refl

before_suc : (items : List Item) (i : ℕ) (d : Item) → i < length items → data_before items (suc i) ≡ data_before items i + length (get_or items i d).1
unfolding data_before
before_suc [] i d within = absurd (omega arith)
before_suc (item ∷ items) zero d within = omega arith
before_suc (item ∷ items) (suc i) d within = omega (arith, before_suc items i d (omega arith))

pub data_before_more : (items : List Item) (i : ℕ) (d : Item) → i < length items → data_before items (i + 1) ≡ data_before items i + length (get_or items i d).1
data_before_more items i d within = ap (data_before items) (add-one i) ∙ before_suc items i d within

pub data_before_le : (items : List Item) (i : ℕ) → data_before items i ≤ data_of items
unfolding data_before
data_before_le [] zero = omega arith
data_before_le [] (suc i) = omega arith
data_before_le (item ∷ items) zero = omega arith
data_before_le (item ∷ items) (suc i) = omega (arith, data_before_le items i)

pub data_before_rises : (items : List Item) (i j : ℕ) → i ≤ j → data_before items i ≤ data_before items j
unfolding data_before
data_before_rises [] zero j within = omega arith
data_before_rises [] (suc i) j within = omega arith
data_before_rises (item ∷ items) zero j within = omega arith
data_before_rises (item ∷ items) (suc i) zero within = absurd (omega arith)
data_before_rises (item ∷ items) (suc i) (suc j) within = omega (arith, data_before_rises items i j (omega arith))

pub data_before_all : (items : List Item) (n : ℕ) → length items ≤ n → data_before items n ≡ data_of items
unfolding data_before
data_before_all [] zero within = refl
data_before_all [] (suc n) within = refl
data_before_all (item ∷ items) zero within = absurd (omega arith)
data_before_all (item ∷ items) (suc n) within = ap (λ m. length item.1 + m) (data_before_all items n (omega arith))

-- an item put in at a place
pub data_before-insert_below : (items : List Item) (at : ℕ) (item : Item) (i : ℕ) → i ≤ at → at ≤ length items → data_before (insert items at item) i ≡ data_before items i
unfolding data_before
data_before-insert_below items at item zero within inside = refl
data_before-insert_below items zero item (suc i) within inside = absurd (omega arith)
data_before-insert_below [] (suc at) item (suc i) within inside = absurd (omega arith)
data_before-insert_below (first ∷ items) (suc at) item (suc i) within inside = ap (λ m. length first.1 + m) (data_before-insert_below items at item i (omega arith) (omega arith))

insert_above_suc : (items : List Item) (at : ℕ) (item : Item) (i : ℕ) → at ≤ i → at ≤ length items → data_before (insert items at item) (suc i) ≡ data_before items i + length item.1
unfolding data_before
insert_above_suc items zero item i within inside = omega arith
insert_above_suc items (suc at) item zero within inside = absurd (omega arith)
insert_above_suc [] (suc at) item (suc i) within inside = absurd (omega arith)
insert_above_suc (first ∷ items) (suc at) item (suc i) within inside = omega (arith, insert_above_suc items at item i (omega arith) (omega arith))

pub data_before-insert_above : (items : List Item) (at : ℕ) (item : Item) (i : ℕ) → at ≤ i → at ≤ length items → data_before (insert items at item) (i + 1) ≡ data_before items i + length item.1
data_before-insert_above items at item i within inside = ap (data_before (insert items at item)) (add-one i) ∙ insert_above_suc items at item i within inside

pub data_of-insert : (items : List Item) (at : ℕ) (item : Item) → at ≤ length items → data_of (insert items at item) ≡ data_of items + length item.1
data_of-insert items zero item inside = omega arith
data_of-insert [] (suc at) item inside = absurd (omega arith)
data_of-insert (first ∷ items) (suc at) item inside = omega (arith, data_of-insert items at item (omega arith))

-- an item taken out of a place
pub data_before-remove_below : (items : List Item) (at i : ℕ) → i ≤ at → at < length items → data_before (remove items at) i ≡ data_before items i
unfolding data_before
data_before-remove_below items at zero within inside = refl
data_before-remove_below [] at (suc i) within inside = absurd (omega arith)
data_before-remove_below (first ∷ items) zero (suc i) within inside = absurd (omega arith)
data_before-remove_below (first ∷ items) (suc at) (suc i) within inside = ap (λ m. length first.1 + m) (data_before-remove_below items at i (omega arith) (omega arith))

remove_above_suc : (items : List Item) (at i : ℕ) (d : Item) → at ≤ i → at < length items → data_before items (suc i) ≡ data_before (remove items at) i + length (get_or items at d).1
unfolding data_before
remove_above_suc [] at i d within inside = absurd (omega arith)
remove_above_suc (first ∷ items) zero i d within inside = omega arith
remove_above_suc (first ∷ items) (suc at) zero d within inside = absurd (omega arith)
remove_above_suc (first ∷ items) (suc at) (suc i) d within inside = omega (arith, remove_above_suc items at i d (omega arith) (omega arith))

pub data_before-remove_above : (items : List Item) (at i : ℕ) (d : Item) → at ≤ i → at < length items → data_before items (i + 1) ≡ data_before (remove items at) i + length (get_or items at d).1
data_before-remove_above items at i d within inside = ap (data_before items) (add-one i) ∙ remove_above_suc items at i d within inside

pub data_of-remove : (items : List Item) (at : ℕ) (d : Item) → at < length items → data_of items ≡ data_of (remove items at) + length (get_or items at d).1
data_of-remove [] at d inside = absurd (omega arith)
data_of-remove (first ∷ items) zero d inside = omega arith
data_of-remove (first ∷ items) (suc at) d inside = omega (arith, data_of-remove items at d (omega arith))

-- one list behind another, and a front of a list
pub data_of-append : (xs ys : List Item) → data_of (xs ++ ys) ≡ data_of xs + data_of ys
data_of-append [] ys = omega arith
data_of-append (x ∷ xs) ys = omega (arith, data_of-append xs ys)

pub data_before-is : (items : List Item) (i : ℕ) → data_before items i ≡ data_of (take i items)
unfolding data_before
data_before-is items i = refl
