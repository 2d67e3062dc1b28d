-- The child of a node under which a key belongs.
use Rattle.std.proofs.Common.{◌≡◌, ◌≤◌, ◌<◌, ◌+◌, ◌-◌, ℕ, zero, suc, List, [], ◌∷◌, length, map, take, drop, slice_get, refl, ap, ◌∙◌, sym, subst, Option, Some, inl, inr, arith}
use Rattle.std.specs.Prelude.{All}
use Rattle.std.proofs.lemmas.List.{take-map, drop-map, length-map}
use Rattle.std.proofs.lemmas.List.Elements.{All-tail}
use Rattle.std.proofs.lemmas.Option.{same_Some}
use Rattle.blk_base.specs.declared.key.Key.{Key}
use Rattle.blk_base.specs.Keys.{KeyBelow}
use Rattle.blk_base.specs.Leaf.{Pointer}
use Rattle.leaf_view.specs.Search.{IsPlace, children_of, pointer_keys}
use Rattle.tree_range.specs.Path.{IsChild, IsChildPlace, key_behind}
use Rattle.tree_range.proofs.Cuts.{mapped_at, at_within, cut_at, length_cut, take_last, All-unmap, at_cut, drop_cut, length_at}

abbrev pub key_of : Pointer → Key
key_of pointer = pointer.key

-- the child whose first key is the key
pub place_found : (pointers : List Pointer) (key : Key) (place : ℕ) → slice_get (pointer_keys pointers) place ≡ Some key → IsChildPlace pointers key place
place_found pointers key place h =
    let there = mapped_at key_of pointers place key h in
    record {
      lefts = take place pointers;
      pointer = there.element;
      rights = drop (suc place) pointers;
      split = cut_at pointers place there.element there.at_place;
      long = length_cut pointers place there.element there.at_place;
      low = inr (inl there.value_is);
      high = inl there.value_is;
    }

-- the child in front of the place where the key belongs, or the first one
pub place_absent : (pointers : List Pointer) (key : Key) (place : ℕ) → 1 ≤ length pointers → IsPlace (pointer_keys pointers) key place → IsChildPlace pointers key (place - 1)
place_absent [] key place least h = absurd (omega arith)
place_absent (p ∷ ps) key zero least h = record {
  lefts = [];
  pointer = p;
  rights = ps;
  split = refl;
  long = refl;
  low = inl refl;
  high = inr (All-unmap (λ (k : Key). KeyBelow key k) key_of ps (All-tail (λ (k : Key). KeyBelow key k) p.key (map key_of ps) h.above));
}
place_absent (p ∷ ps) key (suc place) least h =
    let pointers = p ∷ ps in
    let inside : place < length pointers = omega (arith, h.within, length-map pointers key_of) in
    let there = at_within pointers place inside in
    let below : All (λ (q : Pointer). KeyBelow q.key key) (take (suc place) pointers) = All-unmap (λ (k : Key). KeyBelow k key) key_of (take (suc place) pointers) (subst (λ (l : List Key). All (λ (k : Key). KeyBelow k key) l) (take-map key_of (suc place) pointers) h.below) in
    let above : All (λ (q : Pointer). KeyBelow key q.key) (drop (suc place) pointers) = All-unmap (λ (k : Key). KeyBelow key k) key_of (drop (suc place) pointers) (subst (λ (l : List Key). All (λ (k : Key). KeyBelow key k) l) (drop-map key_of (suc place) pointers) h.above) in
    let made : IsChildPlace pointers key place = record {
      lefts = take place pointers;
      pointer = there.0;
      rights = drop (suc place) pointers;
      split = cut_at pointers place there.0 there.1;
      long = length_cut pointers place there.0 there.1;
      low = inr (inr (take_last (λ (q : Pointer). KeyBelow q.key key) pointers place there.0 there.1 below));
      high = inr above;
    } in
    let same : place ≡ suc place - 1 = omega arith in
    subst (λ (n : ℕ). IsChildPlace pointers key n) same made

pub child_inside : (pointers : List Pointer) (key : Key) (place : ℕ) → IsChildPlace pointers key place → place < length pointers
child_inside pointers key place h =
    let long = ap (λ (l : List Pointer). length l) h.split in
    omega (arith, long, h.long, length_at h.lefts h.pointer h.rights)

-- the first key of the child at a place
pub key_behind_at : (pointers : List Pointer) (place : ℕ) (key : Key) (next : Option Key) → slice_get (pointer_keys pointers) place ≡ Some key → Some key ≡ key_behind (drop place pointers) next
key_behind_at [] place key next h = absurd cc
key_behind_at (p ∷ ps) zero key next h = sym h
key_behind_at (p ∷ ps) (suc place) key next h = key_behind_at ps place key next h

pub key_behind_past : (pointers : List Pointer) (place : ℕ) (next : Option Key) → length pointers ≤ place → next ≡ key_behind (drop place pointers) next
key_behind_past [] zero next h = refl
key_behind_past [] (suc place) next h = refl
key_behind_past (p ∷ ps) zero next h = absurd (omega arith)
key_behind_past (p ∷ ps) (suc place) next h = key_behind_past ps place next (omega arith)

abbrev pub child_of : Pointer → ℕ × ℕ
child_of pointer = (pointer.at, pointer.generation)

pub first_of : (a b x y : ℕ) → ◌≡◌ {A = Option (ℕ × ℕ)} (Some (a, b)) (Some (x, y)) → x ≡ a
first_of a b x y h = let same = same_Some (a, b) (x, y) h in sym (ap (λ (pair : ℕ × ℕ). pair.0) same)

pub is_child : (pointers : List Pointer) (key : Key) (next : Option Key) (place at generation : ℕ) (behind : Option Key) → IsChildPlace pointers key place → slice_get (children_of pointers) place ≡ Some (at, generation) → behind ≡ key_behind (drop (place + 1) pointers) next
    → IsChild pointers key next at behind
is_child pointers key next place at generation behind h child after = record {
  place = place;
  is_place = h;
  at_is =
      let there : slice_get (children_of pointers) place ≡ Some (child_of h.pointer) =
      subst (λ (n : ℕ). slice_get (children_of pointers) n ≡ Some (child_of h.pointer)) h.long (subst (λ (l : List Pointer). slice_get (children_of l) (length h.lefts) ≡ Some (child_of h.pointer)) (sym h.split) (at_cut child_of h.lefts h.pointer h.rights)) in
      first_of h.pointer.at h.pointer.generation at generation (sym there ∙ child);
  behind_is =
      let one : place + 1 ≡ suc (length h.lefts) = omega (arith, h.long) in
      let rights : drop (place + 1) pointers ≡ h.rights = ap (λ (n : ℕ). drop n pointers) one ∙ ap (λ (l : List Pointer). drop (suc (length h.lefts)) l) h.split ∙ drop_cut h.lefts h.pointer h.rights in
      after ∙ ap (λ (l : List Pointer). key_behind l next) rights;
}
