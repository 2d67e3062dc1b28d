-- The checks of a leaf's body are the relation between a block and its list of items.
use Rattle.std.proofs.Common.{◌≡◌, ◌≤◌, ◌<◌, ◌*◌, ℕ, Bool, true, false, ◌||◌, not, leb, eqb, List, map, length, refl, ap, arith, ◌∙◌, sym, inl, inr, Some, Result, Ok, Err, if◌then◌else◌, slice_get, nat_lt}
use Rattle.std.proofs.lemmas.Bool.{cases_eq, cases_lt, and_parts, and_from, leb-true, le-leb, le-ltb, ltb-false, or_cases, eqb-true, eq-eqb, or_left, or_right}
use Rattle.std.proofs.lemmas.Option.{slice_get-get_or, same_Some}
use Rattle.std.proofs.lemmas.List.{same_lists}
use Rattle.std.proofs.lemmas.List.FromFn.{length-map-range_with_len, get_or-map-range_with_len}
use Rattle.std.specs.List.{list_all}
use Rattle.blk_base.specs.declared.fault.BlockFault.{BlockFault}
use Rattle.blk_base.specs.declared.fault.BlockFault.TheVariants.{Count, Order, Bounds, Overlap}
use Rattle.blk_base.specs.Keys.{keys_rise}
use Rattle.blk_base.specs.Leaf.{Item, IsLeafBody, HasByte, leaf_body_of, count_of, below, item_key, item_of, item_offset, item_size, item_end, in_bounds, are_apart, apart_before}
use Rattle.leaf_view.specs.Listed.{items_in}
use Rattle.leaf_view.proofs.Below.{all_below, each_below}
use Rattle.leaf_view.proofs.Rising.{rising_next, rising_from}

-- the checks, each by its test
pub record PassesChecks (bytes : List ℕ) : Type 0 where
  pub count : count_of bytes ≤ 159
  pub order : keys_rise (map (item_key bytes) (below (count_of bytes))) ≡ true
  pub bounds : list_all (in_bounds bytes) (below (count_of bytes)) ≡ true
  pub overlap : list_all (apart_before bytes) (below (count_of bytes)) ≡ true

chain : {A : Type 0} → (a b c d : Bool) (value : A) → Result A BlockFault
chain a b c d value = if a then Err Count else if not b then Err Order else if not c then Err Bounds else if not d then Err Overlap else Ok value

chain_ok : {A : Type 0} (a b c d : Bool) (value given : A) → chain a b c d value ≡ Ok given → (a ≡ false) × (b ≡ true) × (c ≡ true) × (d ≡ true) × (given ≡ value)
unfolding chain
chain_ok true b c d value given h = absurd cc
chain_ok false false c d value given h = absurd cc
chain_ok false true false d value given h = absurd cc
chain_ok false true true false value given h = absurd cc
chain_ok false true true true value given h = (refl, refl, refl, refl, cc)

-- a body that passes has the items by its headers
pub body_passes : (bytes : List ℕ) (items : List Item) → leaf_body_of bytes ≡ Ok items → PassesChecks bytes × (items ≡ items_in bytes)
unfolding leaf_body_of chain
body_passes bytes items h =
    let parts = chain_ok (nat_lt 159 (count_of bytes)) (keys_rise (map (item_key bytes) (below (count_of bytes)))) (list_all (in_bounds bytes) (below (count_of bytes))) (list_all (apart_before bytes) (below (count_of bytes))) (items_in bytes) items h in
    (record { count = ltb-false 159 (count_of bytes) parts.0; order = parts.1; bounds = parts.2; overlap = parts.3 }, parts.4)

-- the other way
pub body_of_checks : (bytes : List ℕ) → PassesChecks bytes → leaf_body_of bytes ≡ Ok (items_in bytes)
unfolding leaf_body_of
body_of_checks bytes h = rw (le-ltb 159 (count_of bytes) h.count, h.order, h.bounds, h.overlap) refl

-- the i-th item by its header
pub items_in_at : (bytes : List ℕ) (i : ℕ) → i < count_of bytes → slice_get (items_in bytes) i ≡ Some (item_of bytes i)
items_in_at bytes i within =
    let long = length-map-range_with_len (item_of bytes) 0 (count_of bytes) in
    slice_get-get_or (items_in bytes) i (item_of bytes i) (omega arith)
    ∙ ap (λ item. Some item) (get_or-map-range_with_len (item_of bytes) 0 (count_of bytes) i i (item_of bytes i) within (omega arith))

pub length_items_in : (bytes : List ℕ) → length (items_in bytes) ≡ count_of bytes
length_items_in bytes = length-map-range_with_len (item_of bytes) 0 (count_of bytes)

-- two items that are apart by the test share no byte
no_shared : (bytes : List ℕ) (i j at : ℕ) → are_apart bytes j i ≡ true → HasByte bytes i at → HasByte bytes j at → ⊥
no_shared bytes i j at apart one other =
    elim (or_cases _ (leb (item_end bytes i) (item_offset bytes j)) apart) [
      | inl first ↦ elim (or_cases _ (leb (item_end bytes j) (item_offset bytes i)) first) [
        | inl sizes ↦ elim (or_cases (eqb (item_size bytes j) 0) (eqb (item_size bytes i) 0) sizes) [
          | inl e ↦ omega (arith, eqb-true (item_size bytes j) 0 e)
          | inr e ↦ omega (arith, eqb-true (item_size bytes i) 0 e)
        ]
        | inr e ↦ omega (arith, leb-true (item_end bytes j) (item_offset bytes i) e)
      ]
      | inr e ↦ omega (arith, leb-true (item_end bytes i) (item_offset bytes j) e)
    ]

-- two items that share no byte are apart by the test
apart_by : (bytes : List ℕ) (i j : ℕ) → ((at : ℕ) → HasByte bytes i at → HasByte bytes j at → ⊥) → are_apart bytes j i ≡ true
apart_by bytes i j none =
    elim (cases_eq (item_size bytes j) 0) [
      | inl e ↦ or_left _ (leb (item_end bytes i) (item_offset bytes j)) (or_left _ (leb (item_end bytes j) (item_offset bytes i)) (or_left (eqb (item_size bytes j) 0) (eqb (item_size bytes i) 0) (eq-eqb _ _ e)))
      | inr second ↦ elim (cases_eq (item_size bytes i) 0) [
        | inl e ↦ or_left _ (leb (item_end bytes i) (item_offset bytes j)) (or_left _ (leb (item_end bytes j) (item_offset bytes i)) (or_right (eqb (item_size bytes j) 0) (eqb (item_size bytes i) 0) (eq-eqb _ _ e)))
        | inr first ↦ elim (cases_lt (item_offset bytes j) (item_end bytes i)) [
          | inr below ↦ or_right _ (leb (item_end bytes i) (item_offset bytes j)) (le-leb _ _ below)
          | inl into ↦ elim (cases_lt (item_offset bytes i) (item_end bytes j)) [
            | inr below ↦ or_left _ (leb (item_end bytes i) (item_offset bytes j)) (or_right (eqb (item_size bytes j) 0 || eqb (item_size bytes i) 0) (leb (item_end bytes j) (item_offset bytes i)) (le-leb _ _ below))
            | inl onto ↦ elim (cases_lt (item_offset bytes i) (item_offset bytes j)) [
              | inl lower ↦ absurd (none (item_offset bytes j) (record { from = omega arith; below = into }) (record { from = omega arith; below = omega arith }))
              | inr upper ↦ absurd (none (item_offset bytes i) (record { from = omega arith; below = omega arith }) (record { from = upper; below = onto }))
            ]
          ]
        ]
      ]
    ]

-- what passes the checks is a leaf's body with the items by its headers
listed : (bytes : List ℕ) → PassesChecks bytes → IsLeafBody bytes (items_in bytes)
listed bytes h =
    let long = length_items_in bytes in record {
      count = sym long;
      most = rw long h.count;
      each = λ i within. items_in_at bytes i (rw (sym long) within);
      order = λ i within. rising_next (item_key bytes) 0 (count_of bytes) h.order i (omega arith) (omega arith);
      behind_headers = λ i within.
          let parts = and_parts (leb (25 * count_of bytes) (item_offset bytes i)) (leb (item_end bytes i) 3995) (each_below (in_bounds bytes) (count_of bytes) h.bounds i (omega arith)) in
          let low = leb-true (25 * count_of bytes) (item_offset bytes i) parts.0 in
          omega arith;
      inside = λ i within.
          let parts = and_parts (leb (25 * count_of bytes) (item_offset bytes i)) (leb (item_end bytes i) 3995) (each_below (in_bounds bytes) (count_of bytes) h.bounds i (omega arith)) in
          leb-true (item_end bytes i) 3995 parts.1;
      apart = λ i j at lower within one other.
          no_shared bytes i j at (each_below (are_apart bytes j) j (each_below (apart_before bytes) (count_of bytes) h.overlap j (omega arith)) i lower) one other;
    }

-- a leaf's body passes the checks
passes : (bytes : List ℕ) (items : List Item) → IsLeafBody bytes items → PassesChecks bytes
passes bytes items h = record {
  count = let n = h.count in let m = h.most in omega arith;
  order = rising_from (item_key bytes) 0 (count_of bytes) (λ i _ within. h.order i (let n = h.count in omega arith));
  bounds = all_below (in_bounds bytes) (count_of bytes) (λ i within.
      let inside : i < length items = omega (arith, h.count) in
      and_from _ _ (le-leb (25 * count_of bytes) (item_offset bytes i) (omega (arith, h.count, h.behind_headers i inside))) (le-leb (item_end bytes i) 3995 (h.inside i inside)));
  overlap = all_below (apart_before bytes) (count_of bytes) (λ j within.
      all_below (are_apart bytes j) j (λ i lower. apart_by bytes i j (λ at one other. h.apart i j at lower (omega (arith, h.count)) one other)));
}

-- and its items are those by its headers
same_items : (bytes : List ℕ) (items : List Item) → IsLeafBody bytes items → items_in bytes ≡ items
same_items bytes items h =
    let long = length_items_in bytes in
    same_lists (items_in bytes) items (long ∙ h.count) (λ k d within.
    let inside : k < length items = omega (arith, h.count) in
    let listed_there = slice_get-get_or (items_in bytes) k d within in
    let there = slice_get-get_or items k d inside in
    same_Some _ _ (sym listed_there ∙ items_in_at bytes k (omega arith) ∙ sym (h.each k inside) ∙ there))

-- the checks pass, with a list of items, exactly where the block's body is a leaf with them
pub leaf_body_means : (bytes : List ℕ) (items : List Item) → leaf_body_of bytes ≡ Ok items → IsLeafBody bytes items
leaf_body_means bytes items h = let both = body_passes bytes items h in rw both.1 (listed bytes both.0)

pub leaf_body_from : (bytes : List ℕ) (items : List Item) → IsLeafBody bytes items → leaf_body_of bytes ≡ Ok items
leaf_body_from bytes items h = body_of_checks bytes (passes bytes items h) ∙ ap (λ list. Ok list) (same_items bytes items h)

-- where a body is a leaf's, its items are those by its headers
pub leaf_body_listed : (bytes : List ℕ) (items : List Item) → leaf_body_of bytes ≡ Ok items → items ≡ items_in bytes
leaf_body_listed bytes items h = (body_passes bytes items h).1
