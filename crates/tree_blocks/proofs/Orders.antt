-- Keys of a leaf and of a node rise; when those of two lists together do.
use Rattle.std.proofs.Common.{◌≡◌, ◌+◌, ◌∙◌, ◌++◌, ◌∷◌, ℕ, zero, suc, List, [], length, map, Bool, true, false, refl, ap, sym, arith, Some, slice_get}
use Rattle.std.proofs.lemmas.Bool.{and_parts}
use Rattle.std.specs.Prelude.{◌&&◌}
use Rattle.std.specs.List.{range_with_len}
use Rattle.blk_base.specs.declared.key.Key.{Key}
use Rattle.blk_base.specs.Keys.{key_at, key_below, keys_rise}
use Rattle.blk_base.specs.Leaf.{Item, Pointer, count_of, pointer_at, pointer_of}
use Rattle.leaf_view.specs.Search.{keys_of, pointer_keys}
use Rattle.leaf_view.proofs.LeafLaws.{leaf_body_listed}
use Rattle.leaf_view.proofs.NodeLaws.{node_body_listed, body_passes}
use Rattle.leaf_edit.proofs.Packing.{ok_rise}
use Rattle.leaf_edit.specs.Rises.{rise_tail}
use Rattle.tree_blocks.specs.Lists.{leaf_list, node_list, IsLeafBlock, IsNodeBlock}
use Rattle.tree_blocks.proofs.Listing.{leaf_to_ok}

pub leaf_rise : (bytes : List ℕ) → IsLeafBlock bytes → keys_rise (keys_of (leaf_list bytes)) ≡ true
leaf_rise bytes h =
    ap (λ items. keys_rise (keys_of items)) (leaf_body_listed bytes (leaf_list bytes) h) ∙ ok_rise bytes (leaf_to_ok bytes h)

keys_by_places : (bytes : List ℕ) (a n : ℕ) → pointer_keys (map (pointer_of bytes) (range_with_len a n)) ≡ map (λ i. key_at bytes (pointer_at i)) (range_with_len a n)
keys_by_places bytes a zero = refl
keys_by_places bytes a (suc n) = ap (λ keys. key_at bytes (pointer_at a) ∷ keys) (keys_by_places bytes (a + 1) n)

pub node_rise : (bytes : List ℕ) → IsNodeBlock bytes → keys_rise (pointer_keys (node_list bytes)) ≡ true
node_rise bytes h =
    ap (λ pointers. keys_rise (pointer_keys pointers)) (node_body_listed bytes (node_list bytes) h) ∙ (ap keys_rise (keys_by_places bytes 0 (count_of bytes)) ∙ (body_passes bytes (node_list bytes) h).0.order)

-- ---- one list behind another

pub keys_of-append : (items others : List Item) → keys_of (items ++ others) ≡ keys_of items ++ keys_of others
keys_of-append [] others = refl
keys_of-append (x ∷ items) others = ap (λ keys. x.0 ∷ keys) (keys_of-append items others)

pub pointer_keys-append : (pointers others : List Pointer) → pointer_keys (pointers ++ others) ≡ pointer_keys pointers ++ pointer_keys others
pointer_keys-append [] others = refl
pointer_keys-append (x ∷ pointers) others = ap (λ keys. x.key ∷ keys) (pointer_keys-append pointers others)

pub rise_left_empty : (xs ys : List Key) → length xs ≡ 0 → keys_rise ys ≡ true → true ≡ keys_rise (xs ++ ys)
rise_left_empty [] ys none h = sym h
rise_left_empty (x ∷ xs) ys none h = absurd (omega (arith, none))

append_none : (xs ys : List Key) → length ys ≡ 0 → xs ++ ys ≡ xs
append_none [] [] none = refl
append_none [] (y ∷ ys) none = absurd (omega (arith, none))
append_none (x ∷ xs) ys none = ap (λ keys. x ∷ keys) (append_none xs ys none)

pub rise_right_empty : (xs ys : List Key) → length ys ≡ 0 → keys_rise xs ≡ true → true ≡ keys_rise (xs ++ ys)
rise_right_empty xs ys none h = sym (ap keys_rise (append_none xs ys none) ∙ h)

and_true : (b : Bool) → b ≡ (b && true)
and_true true = refl
and_true false = refl

-- the keys of both rise where the last of the first list is below the first of the second one
pub rise_meets : (xs ys : List Key) (n : ℕ) (last first : Key) → n + 1 ≡ length xs → slice_get xs n ≡ Some last → slice_get ys 0 ≡ Some first → keys_rise xs ≡ true → keys_rise ys ≡ true → key_below last first ≡ keys_rise (xs ++ ys)
rise_meets [] ys n last first len at_end at_front h k = absurd (omega (arith, len))
rise_meets (a ∷ xs) [] n last first len at_end at_front h k = absurd (cc)
rise_meets (a ∷ []) (y ∷ ys) zero last first len at_end at_front h k =
    let x : a ≡ last = cc in
    let f : y ≡ first = cc in
    rw (k, x, f) (and_true (key_below last first))
rise_meets (a ∷ []) (y ∷ ys) (suc n) last first len at_end at_front h k = absurd (omega (arith, len))
rise_meets (a ∷ b ∷ xs) (y ∷ ys) zero last first len at_end at_front h k = absurd (omega (arith, len))
rise_meets (a ∷ b ∷ xs) (y ∷ ys) (suc n) last first len at_end at_front h k =
    let below : key_below a b ≡ true = (and_parts (key_below a b) (keys_rise (b ∷ xs)) h).0 in
    let rest : key_below last first ≡ keys_rise ((b ∷ xs) ++ (y ∷ ys)) = rise_meets (b ∷ xs) (y ∷ ys) n last first (omega (arith, len)) at_end at_front (rise_tail a (b ∷ xs) h) k in
    rw below rest
