-- The bytes of the names of a hash, and what stands in the slot of a name.
use Rattle.std.proofs.Common.{◌≡◌, ◌≤◌, ◌+◌, ℕ, Bool, true, false, not, cond, ◌&&◌, ◌||◌, List, [], ◌∷◌, map, filter, sum_by, Contains, Option, Some, None, refl, sym, ap, subst, ◌∙◌, arith, inl, inr}
use Rattle.std.specs.Prelude.{nat_eq, nat_lt, bytes_eq, find, option_map}
use Rattle.std.specs.List.{list_any}
use Rattle.std.specs.List.Sorted.{IsPermutation}
use Rattle.std.proofs.lemmas.Bool.{and_parts, and_from, or_cases, or_left, or_right, eqb-true, eq-eqb, le-ltb}
use Rattle.std.proofs.lemmas.List.Sums.{sum_by-cons}
use Rattle.std.proofs.lemmas.List.Sorted.{sum_by-IsPermutation}
use Rattle.blk_base.specs.declared.key.Ino.{Ino}
use Rattle.blk_base.specs.Crc.{name_hash_of}
use Rattle.flat_model.specs.declared.view.NameAt.{NameAt}
use Rattle.flat_model.specs.Lengths.{most_item_bytes, dir_item_length, entry_length}
use Rattle.flat_model.specs.Names.{FlatName, leads_to, is_in_slot, is_hashed_in, hashed_of, name_in_slot}
use Rattle.flat_model.specs.Unmarked.{unmarked}
use Rattle.flat_model.specs.Volume.{Subvolume}
use Rattle.flat_model.specs.Coherent.{IsCoherent}
use Rattle.flat_model.proofs.Lists.{contains_filter, filter_contains, filter_swaps}
use Rattle.flat_model.proofs.Ways.{bytes_eq_same, same_bytes_eq}
use Rattle.logged_volume.specs.Drawn.{names_beside, is_crowded_hash, is_one_slot}
use Rattle.logged_volume.proofs.Members.{any_from, any_gives}
use Rattle.drawn_set.specs.Slots.{AreInSlotOf, bytes_beside, does_share, entry_bytes, is_in_slot_of, marked}
use Rattle.drawn_set.proofs.Given.{in_map, map_in, given_from, given_is}

-- ---- a slot that is free

module _ {X : Type 0} (p : X → Bool) where
  find_none : (xs : List X) → find p xs ≡ None → list_any p xs ≡ false
  find_none [] e = refl
  find_none (x ∷ xs) e =
      elim (p x) as (λ b. cond b (Some x) (find p xs) ≡ None → (b || list_any p xs) ≡ false) [
        | true ↦ λ f. absurd cc
        | false ↦ λ f. find_none xs f
      ] e

  find_some : (xs : List X) (x : X) → find p xs ≡ Some x → list_any p xs ≡ true
  find_some [] x e = absurd cc
  find_some (y ∷ ys) x e =
      elim (p y) as (λ b. cond b (Some y) (find p ys) ≡ Some x → (b || list_any p ys) ≡ true) [
        | true ↦ λ _. refl
        | false ↦ λ f. find_some ys x f
      ] e

module _ (current : Subvolume) (name : NameAt) where
  free_from : (found : Option FlatName) → name_in_slot current.names name.dir.0 name.name ≡ found → None ≡ option_map (λ (entry : FlatName). entry.ino) found → bytes_beside current name ≡ entry_bytes name
  free_from None e same = ap (λ b. cond b 0 (entry_bytes name)) (find_none (is_in_slot name.dir.0 name.name) current.names e)
  free_from (Some entry) e same = absurd cc

  taken_from : (ino : ℕ) (found : Option FlatName) → name_in_slot current.names name.dir.0 name.name ≡ found → Some ino ≡ option_map (λ (entry : FlatName). entry.ino) found → bytes_beside current name ≡ 0
  taken_from ino None e same = absurd cc
  taken_from ino (Some entry) e same = ap (λ b. cond b 0 (entry_bytes name)) (find_some (is_in_slot name.dir.0 name.name) current.names entry e)

  pub free_slot : (found : Option Ino) → option_map (λ (i : Ino). i.0) found ≡ option_map (λ (entry : FlatName). entry.ino) (name_in_slot current.names name.dir.0 name.name) → found ≡ None → bytes_beside current name ≡ entry_bytes name
  free_slot found same none = free_from _ refl (subst (λ (o : Option Ino). option_map (λ (i : Ino). i.0) o ≡ option_map (λ (entry : FlatName). entry.ino) (name_in_slot current.names name.dir.0 name.name)) none same)

  pub taken_slot : (found : Option Ino) (ino : Ino) → option_map (λ (i : Ino). i.0) found ≡ option_map (λ (entry : FlatName). entry.ino) (name_in_slot current.names name.dir.0 name.name) → found ≡ Some ino → bytes_beside current name ≡ 0
  taken_slot found ino same some = taken_from ino.0 _ refl (subst (λ (o : Option Ino). option_map (λ (i : Ino). i.0) o ≡ option_map (λ (entry : FlatName). entry.ino) (name_in_slot current.names name.dir.0 name.name)) some same)

pub beside_le : (current : Subvolume) (name : NameAt) → bytes_beside current name ≤ entry_bytes name
beside_le current name = elim (list_any (is_in_slot name.dir.0 name.name) current.names) as (λ b. cond b 0 (entry_bytes name) ≤ entry_bytes name) [ true ↦ omega arith | false ↦ omega arith ]

-- ---- a crowded hash

sum_mapped : (f : NameAt → ℕ) (xs : List FlatName) → sum_by f (map unmarked xs) ≡ sum_by (λ n. f (unmarked n)) xs
sum_mapped f [] = refl
sum_mapped f (x ∷ xs) = sum_by-cons f (unmarked x) (map unmarked xs) ∙ ap (λ n. f (unmarked x) + n) (sum_mapped f xs) ∙ sym (sum_by-cons (λ n. f (unmarked n)) x xs)

pub sum_given : (names : List FlatName) (dir hash : ℕ) (given : List NameAt) → IsPermutation (map unmarked (hashed_of names dir hash)) given → sum_by entry_bytes given ≡ dir_item_length names dir hash
unfolding dir_item_length
sum_given names dir hash given same = sum_by-IsPermutation entry_bytes (map unmarked (hashed_of names dir hash)) given same ∙ sum_mapped entry_bytes (hashed_of names dir hash)

sum_passing : {X : Type 0} (f : X → ℕ) (t : X → Bool) (xs : List X) → sum_by f (filter (λ x. not (t x)) xs) ≡ sum_by (λ x. cond (t x) 0 (f x)) xs
sum_passing f t [] = refl
sum_passing f t (x ∷ xs) =
    let rest = sum_passing f t xs in
    elim (t x) as (λ b. sum_by f (cond (not b) (x ∷ filter (λ y. not (t y)) xs) (filter (λ y. not (t y)) xs)) ≡ cond b 0 (f x) + sum_by (λ y. cond (t y) 0 (f y)) xs) [
      | true ↦ rest ∙ (omega arith)
      | false ↦ sum_by-cons f x (filter (λ y. not (t y)) xs) ∙ ap (λ n. f x + n) rest
    ] ∙ sym (sum_by-cons (λ y. cond (t y) 0 (f y)) x xs)

-- the bytes of the names of a hash in R whose slots F leaves free
pub sum_beside : (current logged : Subvolume) (dir hash : ℕ) (given : List NameAt) → IsPermutation (map unmarked (hashed_of logged.names dir hash)) given
    → sum_by (bytes_beside current) given ≡ dir_item_length (names_beside current logged) dir hash
unfolding dir_item_length
sum_beside current logged dir hash given same =
    let taken = λ (n : FlatName). list_any (is_in_slot n.dir n.bytes) current.names in
    sum_by-IsPermutation (bytes_beside current) (map unmarked (hashed_of logged.names dir hash)) given same
    ∙ sum_mapped (bytes_beside current) (hashed_of logged.names dir hash)
    ∙ sym (sum_passing entry_length taken (hashed_of logged.names dir hash))
    ∙ ap (sum_by entry_length) (filter_swaps (λ n. not (taken n)) (is_hashed_in dir hash) logged.names)

pub crowded_none : (current logged : Subvolume) (dir hash : ℕ) (beside : ℕ) → IsCoherent current → beside ≡ dir_item_length (names_beside current logged) dir hash → beside ≡ 0 → false ≡ is_crowded_hash current logged dir hash
unfolding is_crowded_hash
crowded_none current logged dir hash beside coherent is none =
    let fits = coherent.items_fit.entries dir hash in
    sym (le-ltb most_item_bytes _ (omega (arith, fits, is, none)))

pub crowded_is : (current logged : Subvolume) (dir hash here beside : ℕ) → here ≡ dir_item_length current.names dir hash → beside ≡ dir_item_length (names_beside current logged) dir hash → nat_lt most_item_bytes (here + beside) ≡ is_crowded_hash current logged dir hash
unfolding is_crowded_hash
crowded_is current logged dir hash here beside is_here is_beside = ap (λ n. nat_lt most_item_bytes (n + beside)) is_here ∙ ap (λ n. nat_lt most_item_bytes (dir_item_length current.names dir hash + n)) is_beside

-- ---- what shares a slot

module _ (current logged : Subvolume) (name : NameAt) (crowded : Bool) (is : crowded ≡ is_crowded_hash current logged name.dir.0 (name_hash_of name.name)) (others : List NameAt)
    (same : IsPermutation (map unmarked (hashed_of logged.names name.dir.0 (name_hash_of name.name))) others) where
  asked : List FlatName
  asked = hashed_of logged.names name.dir.0 (name_hash_of name.name)

  shares_is_slot : (ino : ℕ) → Contains (map (λ (other : NameAt). other.ino.0) (filter (does_share name crowded) others)) ino → is_in_slot_of current logged name ino ≡ true
  shares_is_slot ino c =
      let at = in_map (λ (other : NameAt). other.ino.0) (filter (does_share name crowded) others) ino c in
      let shares = filter_contains (does_share name crowded) others at.0 at.1 in
      let found = given_is (hashed_of logged.names name.dir.0 (name_hash_of name.name)) others same at.0 shares.0 in
      let hashed = filter_contains (is_hashed_in name.dir.0 (name_hash_of name.name)) logged.names found.0 found.1 in
      let parts = and_parts (nat_eq found.0.dir name.dir.0) (nat_eq (name_hash_of found.0.bytes) (name_hash_of name.name)) hashed.1 in
      let share : does_share name crowded (unmarked found.0) ≡ true = subst (λ (a : NameAt). does_share name crowded a ≡ true) (sym found.2) shares.1 in
      any_from (λ other. leads_to ino other && is_one_slot current logged (marked name) other) logged.names found.0 hashed.0
      (and_from _ _ (eq-eqb found.0.ino ino (ap (λ (a : NameAt). a.ino.0) found.2 ∙ at.2))
      (and_from _ _ (eq-eqb name.dir.0 found.0.dir (sym (eqb-true found.0.dir name.dir.0 parts.0)))
      (elim (or_cases crowded (bytes_eq found.0.bytes name.name) share) [
        | inl crowd ↦ or_right (bytes_eq name.name found.0.bytes) _ (and_from _ _ (eq-eqb (name_hash_of name.name) (name_hash_of found.0.bytes) (sym (eqb-true _ _ parts.1))) (sym is ∙ crowd))
        | inr bytes ↦ or_left (bytes_eq name.name found.0.bytes) _ (bytes_eq_same name.name found.0.bytes (sym (same_bytes_eq found.0.bytes name.name bytes)))
      ])))

  slot_is_shares : (ino : ℕ) → is_in_slot_of current logged name ino ≡ true → Contains (map (λ (other : NameAt). other.ino.0) (filter (does_share name crowded) others)) ino
  slot_is_shares ino t =
      let found = any_gives (λ other. leads_to ino other && is_one_slot current logged (marked name) other) logged.names t in
      let other = found.0 in
      let lead = and_parts (leads_to ino other) (is_one_slot current logged (marked name) other) found.2 in
      let hash = nat_eq (name_hash_of name.name) (name_hash_of other.bytes) && is_crowded_hash current logged name.dir.0 (name_hash_of name.name) in
      let slot = and_parts (nat_eq name.dir.0 other.dir) (bytes_eq name.name other.bytes || hash) lead.1 in
      let dir = sym (eqb-true name.dir.0 other.dir slot.0) in
      let how : (name_hash_of other.bytes ≡ name_hash_of name.name) × (does_share name crowded (unmarked other) ≡ true) =
      elim (or_cases (bytes_eq name.name other.bytes) hash slot.1) [
        | inl bytes ↦ let one = sym (same_bytes_eq name.name other.bytes bytes) in (ap name_hash_of one, or_right crowded _ (bytes_eq_same other.bytes name.name one))
        | inr both ↦ let parts = and_parts (nat_eq (name_hash_of name.name) (name_hash_of other.bytes)) (is_crowded_hash current logged name.dir.0 (name_hash_of name.name)) both in
            (sym (eqb-true _ _ parts.0), or_left crowded (bytes_eq other.bytes name.name) (is ∙ parts.1))
      ] in
      subst (λ i. Contains (map (λ (other : NameAt). other.ino.0) (filter (does_share name crowded) others)) i) (eqb-true other.ino ino lead.0)
      (map_in (λ (other : NameAt). other.ino.0) (filter (does_share name crowded) others) (unmarked other)
      (contains_filter (does_share name crowded) others (unmarked other) how.1
      (given_from (hashed_of logged.names name.dir.0 (name_hash_of name.name)) others same other
      (contains_filter (is_hashed_in name.dir.0 (name_hash_of name.name)) logged.names other (and_from _ _ (eq-eqb other.dir name.dir.0 dir) (eq-eqb _ _ how.0)) found.1))))

  pub are_in_slot : AreInSlotOf current logged name (map (λ (other : NameAt). other.ino.0) (filter (does_share name crowded) others))
  are_in_slot ino = (shares_is_slot ino, slot_is_shares ino)
