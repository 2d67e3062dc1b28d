-- The checks of a node's body are the relation between a block and its list of pointers.
use Rattle.std.proofs.Common.{◌≡◌, ◌<◌, ◌+◌, ◌*◌, ℕ, Bool, true, false, ◌||◌, not, eqb, ltb, List, map, length, refl, ap, arith, ◌∙◌, sym, Some, Result, Ok, Err, if◌then◌else◌, slice_get, nat_lt, option_map}
use Rattle.std.proofs.lemmas.Bool.{le-ltb, ltb-false, or_parts, or_from, eqb-false, ne_eqb}
use Rattle.std.proofs.lemmas.Option.{slice_get-get_or, same_Some, slice_get-map}
use Rattle.std.proofs.lemmas.List.{same_lists}
use Rattle.std.proofs.lemmas.List.FromFn.{length-map-range_with_len, get_or-map-range_with_len}
use Rattle.std.specs.Prelude.{◌==◌}
use Rattle.blk_base.specs.declared.fault.BlockFault.{BlockFault}
use Rattle.blk_base.specs.declared.fault.BlockFault.TheVariants.{Count, Order}
use Rattle.blk_base.specs.Keys.{key_at, keys_rise}
use Rattle.blk_base.specs.Leaf.{Pointer, IsNodeBody, node_body_of, count_of, below, pointer_at, pointer_of}
use Rattle.leaf_view.specs.Listed.{pointers_in}
use Rattle.leaf_view.specs.Search.{pointer_keys, children_of}
use Rattle.leaf_view.proofs.Rising.{rising_next, rising_from}

-- the checks, each by its test
pub record PassesChecks (bytes : List ℕ) : Type 0 where
  pub count : ((count_of bytes == 0) || nat_lt 121 (count_of bytes)) ≡ false
  pub order : keys_rise (map (λ i. key_at bytes (pointer_at i)) (below (count_of bytes))) ≡ true

chain : {A : Type 0} → (a b : Bool) (value : A) → Result A BlockFault
chain a b value = if a then Err Count else if not b then Err Order else Ok value

chain_ok : {A : Type 0} (a b : Bool) (value given : A) → chain a b value ≡ Ok given → (a ≡ false) × (b ≡ true) × (given ≡ value)
unfolding chain
chain_ok true b value given h = absurd cc
chain_ok false false value given h = absurd cc
chain_ok false true value given h = (refl, refl, cc)

-- a body that passes has the pointers by their places
pub body_passes : (bytes : List ℕ) (pointers : List Pointer) → node_body_of bytes ≡ Ok pointers → PassesChecks bytes × (pointers ≡ pointers_in bytes)
unfolding node_body_of chain
body_passes bytes pointers h =
    let parts = chain_ok ((count_of bytes == 0) || nat_lt 121 (count_of bytes)) (keys_rise (map (λ i. key_at bytes (pointer_at i)) (below (count_of bytes)))) (pointers_in bytes) pointers h in
    (record { count = parts.0; order = parts.1 }, parts.2)

-- the other way
pub body_of_checks : (bytes : List ℕ) → PassesChecks bytes → node_body_of bytes ≡ Ok (pointers_in bytes)
unfolding node_body_of
body_of_checks bytes h = rw (h.count, h.order) refl

-- the i-th pointer by its place
pub pointers_in_at : (bytes : List ℕ) (i : ℕ) → i < count_of bytes → slice_get (pointers_in bytes) i ≡ Some (pointer_of bytes i)
pointers_in_at bytes i within =
    let long = length-map-range_with_len (pointer_of bytes) 0 (count_of bytes) in
    slice_get-get_or (pointers_in bytes) i (pointer_of bytes i) (omega arith)
    ∙ ap (λ pointer. Some pointer) (get_or-map-range_with_len (pointer_of bytes) 0 (count_of bytes) i i (pointer_of bytes i) within (omega arith))

pub length_pointers_in : (bytes : List ℕ) → length (pointers_in bytes) ≡ count_of bytes
length_pointers_in bytes = length-map-range_with_len (pointer_of bytes) 0 (count_of bytes)

-- what passes the checks is a node's body with the pointers by their places
listed : (bytes : List ℕ) → PassesChecks bytes → IsNodeBody bytes (pointers_in bytes)
listed bytes h =
    let long = length_pointers_in bytes in
    let counts = or_parts (eqb (count_of bytes) 0) (ltb 121 (count_of bytes)) h.count in
    let some = eqb-false (count_of bytes) 0 counts.0 in
    let most = ltb-false 121 (count_of bytes) counts.1 in record {
      count = sym long;
      least = omega arith;
      most = omega arith;
      each = λ i within. pointers_in_at bytes i (rw (sym long) within);
      order = λ i within. rising_next (λ k. key_at bytes (pointer_at k)) 0 (count_of bytes) h.order i (omega arith) (omega arith);
    }

-- a node's body passes the checks
passes : (bytes : List ℕ) (pointers : List Pointer) → IsNodeBody bytes pointers → PassesChecks bytes
passes bytes pointers h = record {
  count = or_from (eqb (count_of bytes) 0) (ltb 121 (count_of bytes)) (ne_eqb (count_of bytes) 0 (λ e. omega (arith, h.count, h.least))) (le-ltb 121 (count_of bytes) (omega (arith, h.count, h.most)));
  order = rising_from (λ k. key_at bytes (pointer_at k)) 0 (count_of bytes) (λ i _ within. h.order i (omega (arith, h.count)));
}

-- and its pointers are those by their places
same_pointers : (bytes : List ℕ) (pointers : List Pointer) → IsNodeBody bytes pointers → pointers_in bytes ≡ pointers
same_pointers bytes pointers h =
    let long = length_pointers_in bytes in
    same_lists (pointers_in bytes) pointers (long ∙ h.count) (λ k d within.
    let inside : k < length pointers = omega (arith, h.count) in
    let listed_there = slice_get-get_or (pointers_in bytes) k d within in
    let there = slice_get-get_or pointers k d inside in
    same_Some _ _ (sym listed_there ∙ pointers_in_at bytes k (omega arith) ∙ sym (h.each k inside) ∙ there))

-- the checks pass, with a list of pointers, exactly where the block's body is a node with them
pub node_body_means : (bytes : List ℕ) (pointers : List Pointer) → node_body_of bytes ≡ Ok pointers → IsNodeBody bytes pointers
node_body_means bytes pointers h = let both = body_passes bytes pointers h in rw both.1 (listed bytes both.0)

pub node_body_from : (bytes : List ℕ) (pointers : List Pointer) → IsNodeBody bytes pointers → node_body_of bytes ≡ Ok pointers
node_body_from bytes pointers h = body_of_checks bytes (passes bytes pointers h) ∙ ap (λ list. Ok list) (same_pointers bytes pointers h)

-- where a body is a node's, its pointers are those by their places
pub node_body_listed : (bytes : List ℕ) (pointers : List Pointer) → node_body_of bytes ≡ Ok pointers → pointers ≡ pointers_in bytes
node_body_listed bytes pointers h = (body_passes bytes pointers h).1

-- what a view knows of its block
pub body_of_view : (bytes : List ℕ) (pointers : List Pointer) → node_body_of bytes ≡ Ok (pointers_in bytes) → pointers_in bytes ≡ pointers → IsNodeBody bytes pointers
body_of_view bytes pointers passes is = node_body_means bytes pointers (passes ∙ ap (λ list. Ok list) is)

pub key_in : (bytes : List ℕ) (pointers : List Pointer) (i : ℕ) → IsNodeBody bytes pointers → i < length pointers → slice_get (pointer_keys pointers) i ≡ Some (key_at bytes (pointer_at i))
key_in bytes pointers i h within = slice_get-map (λ pointer. pointer.key) pointers i ∙ ap (option_map (λ pointer. pointer.key)) (h.each i within)

pub child_in : (bytes : List ℕ) (pointers : List Pointer) (i : ℕ) → IsNodeBody bytes pointers → i < length pointers → slice_get (children_of pointers) i ≡ Some ((pointer_of bytes i).at, (pointer_of bytes i).generation)
child_in bytes pointers i h within = slice_get-map (λ pointer. (pointer.at, pointer.generation)) pointers i ∙ ap (option_map (λ pointer. (pointer.at, pointer.generation))) (h.each i within)

pub rising : (bytes : List ℕ) (pointers : List Pointer) (n : ℕ) → IsNodeBody bytes pointers → n ≡ length pointers → keys_rise (map (λ i. key_at bytes (101 + 33 * i)) (below n)) ≡ true
rising bytes pointers n h long = rising_from (λ k. key_at bytes (pointer_at k)) 0 n (λ i _ within. h.order i (omega arith))
