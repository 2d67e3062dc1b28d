-- Pointers as a block holds them: what a write leaves of them, and reads back.
use Rattle.std.proofs.Common.{◌≡◌, ◌≤◌, ◌<◌, ◌+◌, ◌^◌, ℕ, suc, zero, List, [], ◌∷◌, ◌++◌, length, take, drop, get_or, map, true, refl, ap, arith, ◌∙◌, sym, subst, Some, Ok, IsOk, Result, Err, append_assoc}
use Rattle.std.proofs.lemmas.List.{same_lists}
use Rattle.std.proofs.lemmas.List.FromFn.{get_or-map-range_with_len}
use Rattle.std.proofs.lemmas.Option.{slice_get-get_or, get_or_from_slice_get}
use Rattle.std.specs.List.{range_with_len}
use Rattle.blk_base.specs.declared.key.Key.{Key}
use Rattle.blk_base.specs.declared.fault.BlockFault.{BlockFault}
use Rattle.blk_base.specs.Bytes.{bytes_at, with_bytes, number_bytes}
use Rattle.blk_base.specs.Keys.{KeyBelow, KeyFits, key_at, keys_rise}
use Rattle.blk_base.specs.Leaf.{Pointer, IsNodeBody, node_body_of, count_of, pointer_at, pointer_of}
use Rattle.leaf_view.specs.Listed.{pointers_in}
use Rattle.leaf_view.specs.Search.{pointer_keys}
use Rattle.leaf_view.proofs.NodeLaws.{node_body_from, node_body_means, node_body_listed, length_pointers_in, body_passes}
use Rattle.leaf_edit.specs.Images.{key_image}
use Rattle.leaf_edit.specs.Fronts.{key_part, key_reads_back, number_reads_back, behind, length-key_image}
use Rattle.leaf_edit.specs.Parts.{part_within, part_in_front, part_in_back, field_part, drop-with_bytes_here}
use Rattle.leaf_edit.specs.Rises.{rise_head, rise_tail}
use Rattle.node_edit.specs.Pointers.{HasPointers, pointer_image}

make : Key → ℕ → ℕ → Pointer
make k a g = record { key = k; at = a; generation = g }

pub same_pointer : (p q : Pointer) → p.key ≡ q.key → p.at ≡ q.at → p.generation ≡ q.generation → p ≡ q
unfolding make
same_pointer p q k a g = ap (λ x. make x p.at p.generation) k ∙ ap (λ x. make q.key x p.generation) a ∙ ap (λ x. make q.key q.at x) g

pub pointer_part : (xs ys : List ℕ) (i j : ℕ) → bytes_at 33 xs (pointer_at i) ≡ bytes_at 33 ys (pointer_at j) → pointer_of xs i ≡ pointer_of ys j
pointer_part xs ys i j same =
    let at_zero : (n : ℕ) → n + 0 ≡ n = λ n. omega arith in
    let a = pointer_at i in
    let b = pointer_at j in
    let key : bytes_at 17 xs a ≡ bytes_at 17 ys b = rw (at_zero a, at_zero b) at (part_within xs ys a b 33 0 17 same (omega arith)) in
    same_pointer (pointer_of xs i) (pointer_of ys j) (key_part xs ys a b key) (field_part 8 xs ys (a + 17) (b + 17) (part_within xs ys a b 33 17 8 same (omega arith))) (field_part 8 xs ys (a + 25) (b + 25) (part_within xs ys a b 33 25 8 same (omega arith)))

pub pointer_in_front : (xs ys : List ℕ) (n i : ℕ) → take n xs ≡ take n ys → pointer_at (i + 1) ≤ n → pointer_of xs i ≡ pointer_of ys i
pointer_in_front xs ys n i same within = pointer_part xs ys i i (part_in_front xs ys n (pointer_at i) 33 same (omega arith))

pub pointer_in_back : (xs ys : List ℕ) (n i : ℕ) → drop n xs ≡ drop n ys → n ≤ pointer_at i → pointer_of xs i ≡ pointer_of ys i
pointer_in_back xs ys n i same within = pointer_part xs ys i i (part_in_back xs ys n (pointer_at i) 33 same within)

pub length-pointer_image : (pointer : Pointer) → length (pointer_image pointer) ≡ 33
unfolding pointer_image key_image
length-pointer_image pointer = refl

pub record PointerFits (pointer : Pointer) : Type 0 where
  pub key : KeyFits pointer.key
  pub at : pointer.at < 2 ^ 64
  pub generation : pointer.generation < 2 ^ 64

-- a pointer that is written reads back
pub pointer_reads_back : (bytes : List ℕ) (i : ℕ) (pointer : Pointer) → PointerFits pointer → pointer_at i ≤ length bytes → pointer_of (with_bytes bytes (pointer_at i) (pointer_image pointer)) i ≡ pointer
unfolding pointer_image
pointer_reads_back bytes i pointer fits within =
    let new = with_bytes bytes (pointer_at i) (pointer_image pointer) in
    let rest = drop (pointer_at i + length (pointer_image pointer)) bytes in
    let last = number_bytes 8 pointer.generation ++ rest in
    let whole : drop (pointer_at i) new ≡ key_image pointer.key ++ (number_bytes 8 pointer.at ++ last) =
    drop-with_bytes_here bytes (pointer_at i) (pointer_image pointer) within
    ∙ append_assoc (key_image pointer.key ++ number_bytes 8 pointer.at) (number_bytes 8 pointer.generation) rest
    ∙ append_assoc (key_image pointer.key) (number_bytes 8 pointer.at) last in
    let after_key : drop (pointer_at i + 17) new ≡ number_bytes 8 pointer.at ++ last = behind new (pointer_at i) (pointer_at i + 17) (key_image pointer.key) (number_bytes 8 pointer.at ++ last) whole (ap (λ n. pointer_at i + n) (length-key_image pointer.key)) in
    let after_at : drop (pointer_at i + 25) new ≡ last = behind new (pointer_at i + 17) (pointer_at i + 25) (number_bytes 8 pointer.at) last after_key (omega arith) in
    same_pointer (pointer_of new i) pointer (key_reads_back new (pointer_at i) pointer.key (number_bytes 8 pointer.at ++ last) fits.key whole)
    (number_reads_back 8 new (pointer_at i + 17) pointer.at last after_key (let f = fits.at in omega arith)) (number_reads_back 8 new (pointer_at i + 25) pointer.generation rest after_at (let f = fits.generation in omega arith))

-- the pointers by their places are those of the list
pub has_listed : (bytes : List ℕ) (pointers : List Pointer) → HasPointers bytes pointers → pointers_in bytes ≡ pointers
has_listed bytes pointers h =
    let long = length_pointers_in bytes in
    same_lists (pointers_in bytes) pointers (long ∙ h.count) (λ k d within.
    get_or-map-range_with_len (pointer_of bytes) 0 (count_of bytes) k k d (omega (arith, long)) (omega arith) ∙ h.each k d (omega (arith, long, h.count)))

pub has_itself : (bytes : List ℕ) (pointers : List Pointer) → HasPointers bytes pointers → HasPointers bytes (pointers_in bytes)
has_itself bytes pointers h = rw (has_listed bytes pointers h) h

rise_at : (pointers : List Pointer) (i : ℕ) (d : Pointer) → keys_rise (pointer_keys pointers) ≡ true → suc i < length pointers → KeyBelow (get_or pointers i d).key (get_or pointers (suc i) d).key
rise_at [] i d h within = absurd (omega arith)
rise_at (a ∷ []) i d h within = absurd (omega arith)
rise_at (a ∷ b ∷ pointers) zero d h within = rise_head a.key b.key (pointer_keys pointers) h
rise_at (a ∷ b ∷ pointers) (suc i) d h within = rise_at (b ∷ pointers) i d (rise_tail a.key (pointer_keys (b ∷ pointers)) h) (omega arith)

below_both : (a b x y : Key) → a ≡ x → b ≡ y → KeyBelow a b → KeyBelow x y
below_both a b x y p q h = subst (λ (k : Key). KeyBelow x k) q (subst (λ (k : Key). KeyBelow k b) p h)

-- with a pointer, it is a node's body
pub has_body : (bytes : List ℕ) (pointers : List Pointer) → HasPointers bytes pointers → 1 ≤ length pointers → IsNodeBody bytes pointers
has_body bytes pointers h some = record {
  count = h.count;
  least = some;
  most = h.most;
  each = λ i within. slice_get-get_or pointers i (pointer_of bytes i) within ∙ ap (λ p. Some p) (sym (h.each i (pointer_of bytes i) within));
  order = λ i within.
      let d = pointer_of bytes i in
      let one : (get_or pointers i d).key ≡ key_at bytes (pointer_at i) = sym (ap (λ p. p.key) (h.each i d (omega arith))) in
      let two : (get_or pointers (i + 1) d).key ≡ key_at bytes (pointer_at (i + 1)) = sym (ap (λ p. p.key) (h.each (i + 1) d within)) in
      let next : suc i ≡ i + 1 = omega arith in
      below_both _ _ _ _ one (ap (λ n. (get_or pointers n d).key) next ∙ two) (rise_at pointers i d h.rise (omega arith));
}

pub has_passes : (bytes : List ℕ) (pointers : List Pointer) → HasPointers bytes pointers → 1 ≤ length pointers → node_body_of bytes ≡ Ok pointers
has_passes bytes pointers h some = node_body_from bytes pointers (has_body bytes pointers h some)

-- and a node's body has its pointers
given : (bytes : List ℕ) (r : Result (List Pointer) BlockFault) → node_body_of bytes ≡ r → IsOk r → node_body_of bytes ≡ Ok (pointers_in bytes)
given bytes (Ok pointers) is ok = is ∙ ap (λ list. Ok list) (node_body_listed bytes pointers is)
given bytes (Err fault) is ok = cc

pub ok_listed : (bytes : List ℕ) → IsOk (node_body_of bytes) → node_body_of bytes ≡ Ok (pointers_in bytes)
ok_listed bytes ok = given bytes (node_body_of bytes) refl ok

keys_by_places : (bytes : List ℕ) (a n : ℕ) → pointer_keys (map (pointer_of bytes) (range_with_len a n)) ≡ map (λ i. key_at bytes (pointer_at i)) (range_with_len a n)
keys_by_places bytes a zero = refl
keys_by_places bytes a (suc n) = ap (λ keys. key_at bytes (pointer_at a) ∷ keys) (keys_by_places bytes (a + 1) n)

pub ok_has : (bytes : List ℕ) → length bytes ≡ 4096 → IsOk (node_body_of bytes) → HasPointers bytes (pointers_in bytes)
ok_has bytes long ok =
    let is = ok_listed bytes ok in
    let body = node_body_means bytes (pointers_in bytes) is in record {
      size = long;
      count = body.count;
      most = body.most;
      rise = ap keys_rise (keys_by_places bytes 0 (count_of bytes)) ∙ (body_passes bytes (pointers_in bytes) is).0.order;
      each = λ i d within. sym (get_or_from_slice_get (pointers_in bytes) i (pointer_of bytes i) d (body.each i within));
    }
