-- A leaf and a node are read exactly where the block is one, and it is one of one list.
use Rattle.std.proofs.Common.{◌≡◌, ◌≤◌, ◌<◌, ◌+◌, inl, inr, ℕ, true, false, ◌||◌, nat_lt, nat_le, ◌==◌, List, map, max, Result, Ok, sym, ap, ◌∙◌, arith}
use Rattle.std.proofs.lemmas.Bool.{and_parts, and_from, or_parts, or_from, or_cases, eqb-true, eqb-false, ltb-false, leb-true, leb-false, le-ltb, le-leb, eq-eqb, ne_eqb, true_from_ne_false}
use Rattle.std.proofs.lemmas.Slice.Eq.{bytes_eq-Decides}
use Rattle.blk_base.specs.declared.fault.BlockFault.{BlockFault}
use Rattle.blk_base.specs.declared.key.Want.{Want}
use Rattle.blk_base.specs.Keys.{key_at}
use Rattle.blk_base.specs.Leaf.{HeaderFits, after_header, count_of, Item, item_key, item_of, item_offset, item_size, HasByte, IsLeafBody, IsLeaf, below, in_bounds, are_apart, apart_before, leaf_body_of, leaf_of, Pointer, pointer_at, pointer_of, IsNodeBody, IsNode, node_body_of, node_of}
use Rattle.format_laws.specs.Checks.{passed, passes, found_none, finds_none, same_ok}
use Rattle.format_laws.specs.Places.{each_below, all_below, rises_below, below_rises, length_below, slice_get_below, below_is}

-- ---- the header

pub HeaderFits-from_read : {A : Type 0} (want : Want) (bytes : List ℕ) (body : Result A BlockFault) (a : A) → after_header want bytes body ≡ Ok a → HeaderFits want bytes × (body ≡ Ok a)
HeaderFits-from_read want bytes body a h =
    let sum = passed _ _ _ _ h in
    let fsid = passed _ _ _ _ sum.1 in
    let address = passed _ _ _ _ fsid.1 in
    let generation = passed _ _ _ _ address.1 in
    let owner = passed _ _ _ _ generation.1 in
    let level = passed _ _ _ _ owner.1 in (
      record {
        sum = eqb-true _ _ sum.0;
        fsid = (bytes_eq-Decides _ _).0 fsid.0;
        address = eqb-true _ _ address.0;
        generation = eqb-true _ _ generation.0;
        owner = eqb-true _ _ owner.0;
        level = eqb-true _ _ level.0;
      },
      level.1,
    )

pub after_header-body : {A : Type 0} (want : Want) (bytes : List ℕ) (body : Result A BlockFault) → HeaderFits want bytes → after_header want bytes body ≡ body
after_header-body want bytes body h =
    passes _ _ _ (eq-eqb _ _ h.sum) ∙ passes _ _ _ ((bytes_eq-Decides _ _).1 h.fsid) ∙ passes _ _ _ (eq-eqb _ _ h.address)
    ∙ passes _ _ _ (eq-eqb _ _ h.generation) ∙ passes _ _ _ (eq-eqb _ _ h.owner) ∙ passes _ _ _ (eq-eqb _ _ h.level)

-- ---- leaves

-- two ranges that the test finds apart have no place in common
no_common : (a m b n at : ℕ) → ((m == 0) || (n == 0) || nat_le (a + m) b || nat_le (b + n) a) ≡ true → a ≤ at → at < a + m → b ≤ at → at < b + n → ⊥
no_common a m b n at h a_from a_below b_from b_below = elim (or_cases ((m == 0) || (n == 0) || nat_le (a + m) b) (nat_le (b + n) a) h) [
  | inl first ↦ elim (or_cases ((m == 0) || (n == 0)) (nat_le (a + m) b) first) [
    | inl second ↦ elim (or_cases (m == 0) (n == 0) second) [
      | inl no_m ↦ let e = eqb-true m 0 no_m in omega arith
      | inr no_n ↦ let e = eqb-true n 0 no_n in omega arith
    ]
    | inr before ↦ let e = leb-true (a + m) b before in omega arith
  ]
  | inr behind ↦ let e = leb-true (b + n) a behind in omega arith
]

-- data of two items that the test finds apart share no byte
pub apart-from_test : (bytes : List ℕ) (i j : ℕ) → are_apart bytes i j ≡ true → (at : ℕ) → HasByte bytes i at → HasByte bytes j at → ⊥
apart-from_test bytes i j h at a b =
    no_common (item_offset bytes i) (item_size bytes i) (item_offset bytes j) (item_size bytes j) at h a.from a.below b.from b.below

-- the later beginning of two ranges that meet is in both
meet : (a m b n : ℕ) → (m ≡ 0 → ⊥) → (n ≡ 0 → ⊥) → b < a + m → a < b + n → (at : ℕ) × (a ≤ at) × (at < a + m) × (b ≤ at) × (at < b + n)
meet a m b n h g l k = (max a b, omega arith, omega arith, omega arith, omega arith)

pub are_apart-true : (bytes : List ℕ) (i j : ℕ) → ((at : ℕ) → HasByte bytes i at → HasByte bytes j at → ⊥) → are_apart bytes i j ≡ true
are_apart-true bytes i j h =
    true_from_ne_false _
    (λ f.
    let a = or_parts _ _ f in
    let b = or_parts _ _ a.0 in
    let c = or_parts _ _ b.0 in
    let m = meet (item_offset bytes i) (item_size bytes i) (item_offset bytes j) (item_size bytes j) (eqb-false _ _ c.0) (eqb-false _ _ c.1) (leb-false _ _ b.1) (leb-false _ _ a.1) in
    h m.0 (record { from = m.1; below = m.2 }) (record { from = m.3; below = m.4 }))

pub IsLeafBody-from_read : (bytes : List ℕ) (items : List Item) → leaf_body_of bytes ≡ Ok items → IsLeafBody bytes items
unfolding leaf_body_of
IsLeafBody-from_read bytes items h =
    let n = count_of bytes in
    let count = found_none _ _ _ _ h in
    let order = passed _ _ _ _ count.1 in
    let bounds = passed _ _ _ _ order.1 in
    let apart = passed _ _ _ _ bounds.1 in
    let long = length_below (item_of bytes) n in
    let s : IsLeafBody bytes (map (item_of bytes) (below n)) = record {
      count = sym long;
      most = rw long (ltb-false _ _ count.0);
      each = λ i l. slice_get_below (item_of bytes) n i (rw long at l);
      order = λ i l. rises_below (item_key bytes) n order.0 i (rw long at l);
      behind_headers = λ i l. rw long (leb-true _ _ (and_parts _ _ (each_below (in_bounds bytes) n bounds.0 i (rw long at l))).0);
      inside = λ i l. leb-true _ _ (and_parts _ _ (each_below (in_bounds bytes) n bounds.0 i (rw long at l))).1;
      apart = λ i j at l g a b. apart-from_test bytes j i (each_below (are_apart bytes j) j (each_below (apart_before bytes) n apart.0 j (rw long at g)) i l) at b a;
    } in
    rw (same_ok apart.1) at s

pub leaf_body_of-Ok : (bytes : List ℕ) (items : List Item) → IsLeafBody bytes items → leaf_body_of bytes ≡ Ok items
unfolding leaf_body_of
leaf_body_of-Ok bytes items s =
    let n = count_of bytes in
    let count : nat_lt 159 n ≡ false = le-ltb _ _ (rw s.count s.most) in
    let order = below_rises (item_key bytes) n (λ i l. s.order i (rw s.count at l)) in
    let bounds =
    all_below (in_bounds bytes) n
    (λ i l. let g = rw s.count at l in and_from _ _ (le-leb _ _ (rw s.count (s.behind_headers i g))) (le-leb _ _ (s.inside i g))) in
    let apart =
    all_below (apart_before bytes) n
    (λ j l. all_below (are_apart bytes j) j (λ i g. are_apart-true bytes j i (λ at a b. s.apart i j at g (rw s.count at l) b a))) in
    let value = below_is (item_of bytes) n items (sym s.count) (λ i l. s.each i (rw s.count at l)) in
    finds_none _ _ _ count ∙ passes _ _ _ order ∙ passes _ _ _ bounds ∙ passes _ _ _ apart ∙ ap Ok value

pub IsLeafBody-same : (bytes : List ℕ) (a b : List Item) → IsLeafBody bytes a → IsLeafBody bytes b → a ≡ b
IsLeafBody-same bytes a b s t = same_ok (sym (leaf_body_of-Ok bytes a s) ∙ leaf_body_of-Ok bytes b t)

pub IsLeaf-from_read : (want : Want) (bytes : List ℕ) (items : List Item) → leaf_of want bytes ≡ Ok items → IsLeaf want bytes items
IsLeaf-from_read want bytes items h =
    let parts = HeaderFits-from_read want bytes (leaf_body_of bytes) items h in
    record { header = parts.0; body = IsLeafBody-from_read bytes items parts.1 }

pub leaf_of-Ok : (want : Want) (bytes : List ℕ) (items : List Item) → IsLeaf want bytes items → leaf_of want bytes ≡ Ok items
leaf_of-Ok want bytes items s = after_header-body want bytes (leaf_body_of bytes) s.header ∙ leaf_body_of-Ok bytes items s.body

-- ---- nodes

pub IsNodeBody-from_read : (bytes : List ℕ) (pointers : List Pointer) → node_body_of bytes ≡ Ok pointers → IsNodeBody bytes pointers
unfolding node_body_of
IsNodeBody-from_read bytes pointers h =
    let n = count_of bytes in
    let count = found_none _ _ _ _ h in
    let ends = or_parts _ _ count.0 in
    let some : n ≡ 0 → ⊥ = eqb-false n 0 ends.0 in
    let least : 1 ≤ n = omega arith in
    let order = passed _ _ _ _ count.1 in
    let long = length_below (pointer_of bytes) n in
    let s : IsNodeBody bytes (map (pointer_of bytes) (below n)) = record {
      count = sym long;
      least = rw long least;
      most = rw long (ltb-false _ _ ends.1);
      each = λ i l. slice_get_below (pointer_of bytes) n i (rw long at l);
      order = λ i l. rises_below (λ k. key_at bytes (pointer_at k)) n order.0 i (rw long at l);
    } in
    rw (same_ok order.1) at s

pub node_body_of-Ok : (bytes : List ℕ) (pointers : List Pointer) → IsNodeBody bytes pointers → node_body_of bytes ≡ Ok pointers
unfolding node_body_of
node_body_of-Ok bytes pointers s =
    let n = count_of bytes in
    let e = s.count in
    let least = s.least in
    let count : ((n == 0) || nat_lt 121 n) ≡ false = or_from _ _ (ne_eqb _ _ (λ (z : n ≡ 0). omega arith)) (le-ltb _ _ (rw e s.most)) in
    let order = below_rises (λ k. key_at bytes (pointer_at k)) n (λ i l. s.order i (rw e at l)) in
    let value = below_is (pointer_of bytes) n pointers (sym e) (λ i l. s.each i (rw e at l)) in
    finds_none _ _ _ count ∙ passes _ _ _ order ∙ ap Ok value

pub IsNodeBody-same : (bytes : List ℕ) (a b : List Pointer) → IsNodeBody bytes a → IsNodeBody bytes b → a ≡ b
IsNodeBody-same bytes a b s t = same_ok (sym (node_body_of-Ok bytes a s) ∙ node_body_of-Ok bytes b t)

pub IsNode-from_read : (want : Want) (bytes : List ℕ) (pointers : List Pointer) → node_of want bytes ≡ Ok pointers → IsNode want bytes pointers
IsNode-from_read want bytes pointers h =
    let parts = HeaderFits-from_read want bytes (node_body_of bytes) pointers h in
    record { header = parts.0; body = IsNodeBody-from_read bytes pointers parts.1 }

pub node_of-Ok : (want : Want) (bytes : List ℕ) (pointers : List Pointer) → IsNode want bytes pointers → node_of want bytes ≡ Ok pointers
node_of-Ok want bytes pointers s = after_header-body want bytes (node_body_of bytes) s.header ∙ node_body_of-Ok bytes pointers s.body
