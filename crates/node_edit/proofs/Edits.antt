-- Edits of a list of pointers in the bytes of a block, step by step.
use Rattle.std.proofs.Common.{◌≡◌, ◌≤◌, ◌<◌, ◌+◌, ◌-◌, ◌*◌, ◌^◌, ℕ, suc, zero, List, [], ◌∷◌, ◌++◌, length, take, drop, get_or, true, refl, ap, arith, ◌∙◌, sym, inl, inr, length-append, length-drop}
use Rattle.std.specs.Prelude.{insert, remove}
use Rattle.std.proofs.lemmas.Bool.{cases_order, cases_lt, cases_eq}
use Rattle.std.proofs.lemmas.List.{length-take-le, get_or-take, get_or-drop, get_or_append_left, get_or-append_right, take-map}
use Rattle.std.proofs.lemmas.List.Edits.{length-insert, get_or-insert_below, get_or-insert_at, get_or-insert_above, length-remove, get_or-remove_below, get_or-remove_above}
use Rattle.blk_base.specs.declared.key.Key.{Key}
use Rattle.blk_base.specs.Bytes.{field, bytes_at, with_bytes, number_bytes}
use Rattle.blk_base.specs.Keys.{key_at, keys_rise}
use Rattle.blk_base.specs.Leaf.{Pointer, count_of, pointer_at, pointer_of}
use Rattle.leaf_view.specs.KeyOrder.{KeyBelow_trans}
use Rattle.leaf_view.specs.Search.{pointer_keys}
use Rattle.leaf_edit.specs.Fronts.{number_reads_back, key_part}
use Rattle.leaf_edit.specs.Parts.{part_within, part_in_front, field_part, take-with_bytes, drop-with_bytes, drop-with_bytes_here, part-with_bytes, length-with_bytes}
use Rattle.leaf_edit.specs.Rises.{rise_head, rise_tail, rise_cons, rise-take}
use Rattle.node_edit.specs.Pointers.{HasPointers, pointer_image, with_child}
use Rattle.node_edit.proofs.Parts.{PointerFits, pointer_part, pointer_in_front, pointer_in_back, pointer_reads_back, length-pointer_image, same_pointer}

-- what a write of the count leaves
pub counted : (b0 b1 : List ℕ) (n : ℕ) → length b0 ≡ 4096 → b1 ≡ with_bytes b0 96 (number_bytes 4 n) → n < 256 ^ 4 → count_of b1 ≡ n
counted b0 b1 n long made small =
    let whole : drop 96 b1 ≡ number_bytes 4 n ++ drop (96 + 4) b0 = ap (drop 96) made ∙ drop-with_bytes_here b0 96 (number_bytes 4 n) (omega arith) in
    number_reads_back 4 b1 96 n (drop (96 + 4) b0) whole small

pub long_counted : (b0 b1 : List ℕ) (n : ℕ) → length b0 ≡ 4096 → b1 ≡ with_bytes b0 96 (number_bytes 4 n) → length b1 ≡ 4096
long_counted b0 b1 n long made = rw made (length-with_bytes b0 96 (number_bytes 4 n) (omega arith) ∙ long)

pub pointer_counted : (b0 b1 : List ℕ) (n i : ℕ) → length b0 ≡ 4096 → b1 ≡ with_bytes b0 96 (number_bytes 4 n) → pointer_of b1 i ≡ pointer_of b0 i
pointer_counted b0 b1 n i long made = pointer_in_back b1 b0 100 i (ap (drop 100) made ∙ drop-with_bytes b0 96 (number_bytes 4 n) 100 (omega arith) (omega arith)) (omega arith)

pub cleared : (b0 b1 : List ℕ) → length b0 ≡ 4096 → b1 ≡ with_bytes b0 96 (number_bytes 4 0) → HasPointers b1 []
cleared b0 b1 long made = record {
  size = long_counted b0 b1 0 long made;
  count = counted b0 b1 0 long made (omega arith);
  most = omega arith;
  rise = refl;
  each = λ i d within. absurd (omega arith);
}

pub cut : (b0 b1 : List ℕ) (pointers : List Pointer) (at : ℕ) → HasPointers b0 pointers → at ≤ length pointers → b1 ≡ with_bytes b0 96 (number_bytes 4 at) → HasPointers b1 (take at pointers)
cut b0 b1 pointers at h within made =
    let long = h.size in
    let most = h.most in
    let shorter = length-take-le at pointers within in record {
      size = long_counted b0 b1 at long made;
      count = counted b0 b1 at long made (omega arith) ∙ sym shorter;
      most = omega arith;
      rise = rw (sym (take-map (λ p. p.key) at pointers)) (rise-take (pointer_keys pointers) at h.rise);
      each = λ i d inside. pointer_counted b0 b1 at i long made ∙ h.each i d (omega arith) ∙ sym (get_or-take at pointers i d (omega arith));
    }

-- a pointer put in
pub inserted : (b0 b1 b2 b3 : List ℕ) (pointers : List Pointer) (at count : ℕ) (pointer : Pointer) → HasPointers b0 pointers → count ≡ length pointers → at ≤ length pointers → length pointers < 121 → PointerFits pointer
    → keys_rise (pointer_keys (insert pointers at pointer)) ≡ true
    → b1 ≡ with_bytes b0 (pointer_at (at + 1)) (bytes_at (pointer_at count - pointer_at at) b0 (pointer_at at))
    → b2 ≡ with_bytes b1 (pointer_at at) (pointer_image pointer) → b3 ≡ with_bytes b2 96 (number_bytes 4 (count + 1)) → HasPointers b3 (insert pointers at pointer)
inserted b0 b1 b2 b3 pointers at count pointer h is within room fits order w1 w2 w3 =
    let long = h.size in
    let moved = bytes_at (pointer_at count - pointer_at at) b0 (pointer_at at) in
    let long_moved : length moved ≡ 33 * (count - at) = length-take-le (pointer_at count - pointer_at at) (drop (pointer_at at) b0) (omega (arith, length-drop (pointer_at at) b0)) ∙ omega arith in
    let long1 : length b1 ≡ 4096 = rw w1 (length-with_bytes b0 (pointer_at (at + 1)) moved (omega (arith, long_moved)) ∙ long) in
    let image = length-pointer_image pointer in
    let long2 : length b2 ≡ 4096 = rw w2 (length-with_bytes b1 (pointer_at at) (pointer_image pointer) (omega (arith, image)) ∙ long1) in
    let longer = length-insert pointers at pointer within in record {
      size = long_counted b2 b3 (count + 1) long2 w3;
      count = counted b2 b3 (count + 1) long2 w3 (omega arith) ∙ omega arith;
      most = omega arith;
      rise = order;
      each = λ i d inside.
          pointer_counted b2 b3 (count + 1) i long2 w3
          ∙ elim (cases_order i at) [
            | inl e ↦ rw (e, get_or-insert_at pointers at pointer d within, w2) (pointer_reads_back b1 at pointer fits (omega arith))
            | inr other ↦ elim other [
              | inl lower ↦
                  rw (get_or-insert_below pointers at pointer d i lower within, w2)
                  (pointer_in_front (with_bytes b1 (pointer_at at) (pointer_image pointer)) b1 (pointer_at at) i (take-with_bytes b1 (pointer_at at) (pointer_image pointer) (pointer_at at) (omega arith) (omega arith)) (omega arith)
                  ∙ pointer_in_front b1 b0 (pointer_at (at + 1)) i (ap (take (pointer_at (at + 1))) w1 ∙ take-with_bytes b0 (pointer_at (at + 1)) moved (pointer_at (at + 1)) (omega arith) (omega arith)) (omega arith)
                  ∙ h.each i d (omega arith))
              | inr upper ↦
                  let j = i - 1 in
                  let next : i ≡ j + 1 = omega arith in
                  let behind_image : pointer_of b2 (j + 1) ≡ pointer_of b1 (j + 1) =
                  pointer_in_back b2 b1 (pointer_at (at + 1)) (j + 1) (ap (drop (pointer_at (at + 1))) w2 ∙ drop-with_bytes b1 (pointer_at at) (pointer_image pointer) (pointer_at (at + 1)) (omega (arith, image)) (omega arith)) (omega arith) in
                  let same : bytes_at (33 * (count - at)) b1 (pointer_at (at + 1)) ≡ bytes_at (33 * (count - at)) b0 (pointer_at at) =
                  ap (λ b. bytes_at (33 * (count - at)) b (pointer_at (at + 1))) w1 ∙ ap (λ n. bytes_at n (with_bytes b0 (pointer_at (at + 1)) moved) (pointer_at (at + 1))) (sym long_moved)
                  ∙ part-with_bytes b0 (pointer_at (at + 1)) moved (omega arith) ∙ ap (λ n. bytes_at n b0 (pointer_at at)) (omega arith) in
                  let here : pointer_at (at + 1) + 33 * (j - at) ≡ pointer_at (j + 1) = omega arith in
                  let there : pointer_at at + 33 * (j - at) ≡ pointer_at j = omega arith in
                  let shifted : pointer_of b1 (j + 1) ≡ pointer_of b0 j =
                  pointer_part b1 b0 (j + 1) j (ap (λ a. bytes_at 33 b1 a) (sym here) ∙ part_within b1 b0 (pointer_at (at + 1)) (pointer_at at) (33 * (count - at)) (33 * (j - at)) 33 same (omega arith) ∙ ap (λ a. bytes_at 33 b0 a) there) in
                  rw (next, get_or-insert_above pointers at pointer d j (omega arith) within) (behind_image ∙ shifted ∙ h.each j d (omega arith))
            ]
          ];
    }

-- without a key the others rise
rise_skip : (a b : Key) (keys : List Key) → keys_rise (a ∷ b ∷ keys) ≡ true → keys_rise (a ∷ keys) ≡ true
rise_skip a b [] h = refl
rise_skip a b (c ∷ keys) h =
    let rest = rise_tail a (b ∷ c ∷ keys) h in
    rise_cons a c keys (KeyBelow_trans a b c (rise_head a b (c ∷ keys) h) (rise_head b c keys rest)) (rise_tail b (c ∷ keys) rest)

rise-remove : (pointers : List Pointer) (at : ℕ) → keys_rise (pointer_keys pointers) ≡ true → keys_rise (pointer_keys (remove pointers at)) ≡ true
rise-remove [] zero h = refl
rise-remove [] (suc at) h = refl
rise-remove (a ∷ pointers) zero h = rise_tail a.key (pointer_keys pointers) h
rise-remove (a ∷ []) (suc zero) h = refl
rise-remove (a ∷ []) (suc (suc at)) h = refl
rise-remove (a ∷ b ∷ pointers) (suc zero) h = rise_skip a.key b.key (pointer_keys pointers) h
rise-remove (a ∷ b ∷ pointers) (suc (suc at)) h = rise_cons a.key b.key (pointer_keys (remove pointers at)) (rise_head a.key b.key (pointer_keys pointers) h) (rise-remove (b ∷ pointers) (suc at) (rise_tail a.key (pointer_keys (b ∷ pointers)) h))

-- a pointer taken out
pub removed : (b0 b1 b2 : List ℕ) (pointers : List Pointer) (at count : ℕ) → HasPointers b0 pointers → count ≡ length pointers → at < length pointers
    → b1 ≡ with_bytes b0 (pointer_at at) (bytes_at (pointer_at count - pointer_at (at + 1)) b0 (pointer_at (at + 1)))
    → b2 ≡ with_bytes b1 96 (number_bytes 4 (count - 1)) → HasPointers b2 (remove pointers at)
removed b0 b1 b2 pointers at count h is within w1 w2 =
    let long = h.size in
    let most = h.most in
    let moved = bytes_at (pointer_at count - pointer_at (at + 1)) b0 (pointer_at (at + 1)) in
    let long_moved : length moved ≡ 33 * (count - (at + 1)) = length-take-le (pointer_at count - pointer_at (at + 1)) (drop (pointer_at (at + 1)) b0) (omega (arith, length-drop (pointer_at (at + 1)) b0)) ∙ omega arith in
    let long1 : length b1 ≡ 4096 = rw w1 (length-with_bytes b0 (pointer_at at) moved (omega (arith, long_moved)) ∙ long) in
    let shorter = length-remove pointers at within in record {
      size = long_counted b1 b2 (count - 1) long1 w2;
      count = counted b1 b2 (count - 1) long1 w2 (omega arith) ∙ omega arith;
      most = omega arith;
      rise = rise-remove pointers at h.rise;
      each = λ i d inside.
          pointer_counted b1 b2 (count - 1) i long1 w2
          ∙ elim (cases_lt i at) [
            | inl lower ↦
                rw (get_or-remove_below pointers at d i lower within)
                (pointer_in_front b1 b0 (pointer_at at) i (ap (take (pointer_at at)) w1 ∙ take-with_bytes b0 (pointer_at at) moved (pointer_at at) (omega arith) (omega arith)) (omega arith) ∙ h.each i d (omega arith))
            | inr upper ↦
                let same : bytes_at (33 * (count - (at + 1))) b1 (pointer_at at) ≡ bytes_at (33 * (count - (at + 1))) b0 (pointer_at (at + 1)) =
                ap (λ b. bytes_at (33 * (count - (at + 1))) b (pointer_at at)) w1 ∙ ap (λ n. bytes_at n (with_bytes b0 (pointer_at at) moved) (pointer_at at)) (sym long_moved)
                ∙ part-with_bytes b0 (pointer_at at) moved (omega arith) ∙ ap (λ n. bytes_at n b0 (pointer_at (at + 1))) (omega arith) in
                let here : pointer_at at + 33 * (i - at) ≡ pointer_at i = omega arith in
                let there : pointer_at (at + 1) + 33 * (i - at) ≡ pointer_at (i + 1) = omega arith in
                let shifted : pointer_of b1 i ≡ pointer_of b0 (i + 1) =
                pointer_part b1 b0 i (i + 1) (ap (λ a. bytes_at 33 b1 a) (sym here) ∙ part_within b1 b0 (pointer_at at) (pointer_at (at + 1)) (33 * (count - (at + 1))) (33 * (i - at)) 33 same (omega arith) ∙ ap (λ a. bytes_at 33 b0 a) there) in
                rw (get_or-remove_above pointers at d i upper within) (shifted ∙ h.each (i + 1) d (omega arith))
          ];
    }

-- pointers appended from another list
pub appended : (b0 source b1 b2 : List ℕ) (pointers others : List Pointer) (from count end : ℕ) → HasPointers b0 pointers → HasPointers source others → count ≡ length pointers → end ≡ length others → from ≤ length others
    → length pointers + (length others - from) ≤ 121 → keys_rise (pointer_keys (pointers ++ drop from others)) ≡ true
    → b1 ≡ with_bytes b0 (pointer_at count) (bytes_at (pointer_at end - pointer_at from) source (pointer_at from))
    → b2 ≡ with_bytes b1 96 (number_bytes 4 (count + (end - from))) → HasPointers b2 (pointers ++ drop from others)
appended b0 source b1 b2 pointers others from count end h g is ends within room order w1 w2 =
    let long = h.size in
    let long_source = g.size in
    let most = g.most in
    let copied = bytes_at (pointer_at end - pointer_at from) source (pointer_at from) in
    let long_copied : length copied ≡ 33 * (end - from) = length-take-le (pointer_at end - pointer_at from) (drop (pointer_at from) source) (omega (arith, length-drop (pointer_at from) source)) ∙ omega arith in
    let long1 : length b1 ≡ 4096 = rw w1 (length-with_bytes b0 (pointer_at count) copied (omega (arith, long_copied)) ∙ long) in
    let all = length-append pointers (drop from others) in
    let rest = length-drop from others in record {
      size = long_counted b1 b2 (count + (end - from)) long1 w2;
      count = counted b1 b2 (count + (end - from)) long1 w2 (omega arith) ∙ omega arith;
      most = omega arith;
      rise = order;
      each = λ i d inside.
          pointer_counted b1 b2 (count + (end - from)) i long1 w2
          ∙ elim (cases_lt i (length pointers)) [
            | inl lower ↦
                rw (get_or_append_left pointers (drop from others) d i lower)
                (pointer_in_front b1 b0 (pointer_at count) i (ap (take (pointer_at count)) w1 ∙ take-with_bytes b0 (pointer_at count) copied (pointer_at count) (omega arith) (omega arith)) (omega arith) ∙ h.each i d lower)
            | inr upper ↦
                let j = i - length pointers in
                let same : bytes_at (33 * (end - from)) b1 (pointer_at count) ≡ bytes_at (33 * (end - from)) source (pointer_at from) =
                ap (λ b. bytes_at (33 * (end - from)) b (pointer_at count)) w1 ∙ ap (λ n. bytes_at n (with_bytes b0 (pointer_at count) copied) (pointer_at count)) (sym long_copied)
                ∙ part-with_bytes b0 (pointer_at count) copied (omega arith) ∙ ap (λ n. bytes_at n source (pointer_at from)) (omega arith) in
                let here : pointer_at count + 33 * j ≡ pointer_at i = omega arith in
                let there : pointer_at from + 33 * j ≡ pointer_at (from + j) = omega arith in
                let shifted : pointer_of b1 i ≡ pointer_of source (from + j) =
                pointer_part b1 source i (from + j) (ap (λ a. bytes_at 33 b1 a) (sym here) ∙ part_within b1 source (pointer_at count) (pointer_at from) (33 * (end - from)) (33 * j) 33 same (omega arith) ∙ ap (λ a. bytes_at 33 source a) there) in
                rw (get_or-append_right pointers (drop from others) (length pointers) i d refl upper, get_or-drop from others j d) (shifted ∙ g.each (from + j) d (omega arith))
          ];
    }

-- another child
pub length-with_child : (pointers : List Pointer) (i a g : ℕ) → length (with_child pointers i a g) ≡ length pointers
length-with_child [] i a g = refl
length-with_child (p ∷ pointers) zero a g = refl
length-with_child (p ∷ pointers) (suc i) a g = ap suc (length-with_child pointers i a g)

keys-with_child : (pointers : List Pointer) (i a g : ℕ) → pointer_keys (with_child pointers i a g) ≡ pointer_keys pointers
keys-with_child [] i a g = refl
keys-with_child (p ∷ pointers) zero a g = refl
keys-with_child (p ∷ pointers) (suc i) a g = ap (λ keys. p.key ∷ keys) (keys-with_child pointers i a g)

child_here : (pointers : List Pointer) (i a g : ℕ) (d : Pointer) → i < length pointers → get_or (with_child pointers i a g) i d ≡ record (get_or pointers i d) { at = a; generation = g }
child_here [] i a g d within = absurd (omega arith)
child_here (p ∷ pointers) zero a g d within = refl
child_here (p ∷ pointers) (suc i) a g d within = child_here pointers i a g d (omega arith)

child_other : (pointers : List Pointer) (i j a g : ℕ) (d : Pointer) → (j ≡ i → ⊥) → get_or (with_child pointers i a g) j d ≡ get_or pointers j d
child_other [] i j a g d other = refl
child_other (p ∷ pointers) zero zero a g d other = absurd (other refl)
child_other (p ∷ pointers) zero (suc j) a g d other = refl
child_other (p ∷ pointers) (suc i) zero a g d other = refl
child_other (p ∷ pointers) (suc i) (suc j) a g d other = child_other pointers i j a g d (λ e. other (ap suc e))

pub child_put : (b0 b1 b2 : List ℕ) (pointers : List Pointer) (at a g : ℕ) → HasPointers b0 pointers → at < length pointers → a < 2 ^ 64 → g < 2 ^ 64
    → b1 ≡ with_bytes b0 (pointer_at at + 17) (number_bytes 8 a) → b2 ≡ with_bytes b1 (pointer_at at + 25) (number_bytes 8 g) → HasPointers b2 (with_child pointers at a g)
child_put b0 b1 b2 pointers at a g h within small_a small_g w1 w2 =
    let long = h.size in
    let most = h.most in
    let long1 : length b1 ≡ 4096 = rw w1 (length-with_bytes b0 (pointer_at at + 17) (number_bytes 8 a) (omega arith) ∙ long) in
    let long2 : length b2 ≡ 4096 = rw w2 (length-with_bytes b1 (pointer_at at + 25) (number_bytes 8 g) (omega arith) ∙ long1) in
    let front : take (pointer_at at + 17) b2 ≡ take (pointer_at at + 17) b0 =
    ap (take (pointer_at at + 17)) w2 ∙ take-with_bytes b1 (pointer_at at + 25) (number_bytes 8 g) (pointer_at at + 17) (omega arith) (omega arith)
    ∙ ap (take (pointer_at at + 17)) w1 ∙ take-with_bytes b0 (pointer_at at + 17) (number_bytes 8 a) (pointer_at at + 17) (omega arith) (omega arith) in
    let back : drop (pointer_at (at + 1)) b2 ≡ drop (pointer_at (at + 1)) b0 =
    ap (drop (pointer_at (at + 1))) w2 ∙ drop-with_bytes b1 (pointer_at at + 25) (number_bytes 8 g) (pointer_at (at + 1)) (omega arith) (omega arith)
    ∙ ap (drop (pointer_at (at + 1))) w1 ∙ drop-with_bytes b0 (pointer_at at + 17) (number_bytes 8 a) (pointer_at (at + 1)) (omega arith) (omega arith) in
    let read1 : field 8 b1 (pointer_at at + 17) ≡ a =
    number_reads_back 8 b1 (pointer_at at + 17) a (drop (pointer_at at + 17 + 8) b0) (ap (drop (pointer_at at + 17)) w1 ∙ drop-with_bytes_here b0 (pointer_at at + 17) (number_bytes 8 a) (omega arith)) (omega arith) in
    let kept : field 8 b2 (pointer_at at + 17) ≡ field 8 b1 (pointer_at at + 17) =
    field_part 8 b2 b1 (pointer_at at + 17) (pointer_at at + 17) (part_in_front b2 b1 (pointer_at at + 25) (pointer_at at + 17) 8 (ap (take (pointer_at at + 25)) w2 ∙ take-with_bytes b1 (pointer_at at + 25) (number_bytes 8 g) (pointer_at at + 25) (omega arith) (omega arith)) (omega arith)) in
    let read2 : field 8 b2 (pointer_at at + 25) ≡ g =
    number_reads_back 8 b2 (pointer_at at + 25) g (drop (pointer_at at + 25 + 8) b1) (ap (drop (pointer_at at + 25)) w2 ∙ drop-with_bytes_here b1 (pointer_at at + 25) (number_bytes 8 g) (omega arith)) (omega arith) in
    let same_long = length-with_child pointers at a g in record {
      size = long2;
      count = field_part 4 b2 b0 96 96 (part_in_front b2 b0 (pointer_at at + 17) 96 4 front (omega arith)) ∙ h.count ∙ sym same_long;
      most = omega arith;
      rise = rw (keys-with_child pointers at a g) h.rise;
      each = λ i d inside. elim (cases_eq i at) [
        | inl e ↦
            let key : key_at b2 (pointer_at at) ≡ (get_or pointers at d).key = key_part b2 b0 (pointer_at at) (pointer_at at) (part_in_front b2 b0 (pointer_at at + 17) (pointer_at at) 17 front (omega arith)) ∙ ap (λ p. p.key) (h.each at d within) in
            rw (e, child_here pointers at a g d within) (same_pointer (pointer_of b2 at) (record (get_or pointers at d) { at = a; generation = g }) key (kept ∙ read1) read2)
        | inr other ↦
            rw (child_other pointers at i a g d other) (elim (cases_lt i at) [
              | inl lower ↦ pointer_in_front b2 b0 (pointer_at at + 17) i front (omega arith) ∙ h.each i d (omega arith)
              | inr upper ↦ pointer_in_back b2 b0 (pointer_at (at + 1)) i back (omega arith) ∙ h.each i d (omega arith)
            ])
      ];
    }
