-- One name more among the slots.
use Rattle.std.proofs.Common.{◌≡◌, ◌<◌, ◌+◌, ◌⊎◌, ◌++◌, ℕ, zero, suc, Bool, true, false, cond, List, [], ◌∷◌, length, take, get_or, slice_get, Contains, Option, Some, None, refl, sym, ap, subst, ◌∙◌, arith, inl, inr}
use Rattle.std.proofs.lemmas.Bool.{and_from, and_parts, eqb-true, eq-eqb}
use Rattle.std.proofs.lemmas.List.Elements.{Contains-append_left, Contains-append_right, Contains-append_cases}
use Rattle.std.proofs.lemmas.Slice.Eq.{bytes_eq-Decides}
use Rattle.std.specs.Option.{is_none}
use Rattle.std.specs.Prelude.{IsSome}
use Rattle.blk_base.specs.Leaf.{Item}
use Rattle.blk_base.specs.declared.key.Ino.{Ino}
use Rattle.flat_model.specs.Names.{FlatName}
use Rattle.flat_model.specs.Volume.{Subvolume}
use Rattle.image_faults.specs.Faulty.{IsRightRef}
use Rattle.volume_image.proofs.Lists.{in_cons, in_nothing}
use Rattle.volume_image.proofs.Reaches.{head_in}
use Rattle.std.proofs.lemmas.List.{map-append, take_more}
use Rattle.coherent_names.specs.Names.{flat_names, flat_of}
use Rattle.coherent_names.specs.declared.name.Name.{Name}
use Rattle.coherent_slots.specs.declared.slots.Slots.{Slots}
use Rattle.coherent_slots.specs.Slots.{AreSlots, AreTwice, HasBadName, Wrong, Twice, HasGoodNames, IsAdded, Put, Left, IsInSlot, IsLeastBad, IsLowered, index_at, is_slot}

-- ---- lists that are one longer

behind : {X : Type 0} (xs : List X) (x : X) → Contains (xs ++ x ∷ []) x
behind xs x = Contains-append_right xs (x ∷ []) x (head_in x [])

in_longer : {X : Type 0} (xs : List X) (x y : X) → Contains (xs ++ x ∷ []) y → Contains xs y ⊎ (x ≡ y)
in_longer xs x y c = elim (Contains-append_cases xs (x ∷ []) y c) [
  | inl before ↦ inl before
  | inr last ↦ elim (in_cons x y [] last) [ inl here ↦ inr here | inr none ↦ absurd (in_nothing y none) ]
]

get_longer : {X : Type 0} (xs : List X) (x : X) (k : ℕ) (y : X) → slice_get xs k ≡ Some y → slice_get (xs ++ x ∷ []) k ≡ Some y
get_longer [] x k y e = absurd cc
get_longer (z ∷ xs) x zero y e = e
get_longer (z ∷ xs) x (suc k) y e = get_longer xs x k y e

get_last : {X : Type 0} (xs : List X) (x : X) → slice_get (xs ++ x ∷ []) (length xs) ≡ Some x
get_last [] x = refl
get_last (z ∷ xs) x = get_last xs x

-- what is at a place is of the shorter list, or the last
pub data IsPlace {X : Type 0} (xs : List X) (x : X) (k : ℕ) (y : X) : Type 0 where
  Before : (below : k < length xs) (there : slice_get xs k ≡ Some y) → IsPlace xs x k y
  Last : (at : k ≡ length xs) (same : x ≡ y) → IsPlace xs x k y

place : {X : Type 0} (xs : List X) (x : X) (k : ℕ) (y : X) → slice_get (xs ++ x ∷ []) k ≡ Some y → IsPlace xs x k y
place [] x zero y e = Last refl cc
place [] x (suc k) y e = absurd cc
place (z ∷ xs) x zero y e = Before (omega arith) e
place (z ∷ xs) x (suc k) y e = go (place xs x k y e)
  where
    go : IsPlace xs x k y → IsPlace (z ∷ xs) x (suc k) y
    go (Before below there) = Before (omega arith) there
    go (Last at same) = Last (ap suc at) same

get_of : {X : Type 0} (xs : List X) (x : X) → Contains xs x → (k : ℕ) × (k < length xs) × (slice_get xs k ≡ Some x)
get_of {X = X} xs x c = (c.0, c.1, at xs c.0 c.1 c.2)
  where
    at : (xs : List X) (k : ℕ) → k < length xs → get_or xs k x ≡ x → slice_get xs k ≡ Some x
    at [] k below is = absurd (omega arith)
    at (y ∷ xs) zero below is = ap Some is
    at (y ∷ xs) (suc k) below is = at xs k (omega arith) is

clash : {A : Type 0} → true ≡ false → A
clash e = absurd cc

-- one name more of those that were lent
pub taken : (names : List Name) (i : ℕ) (d : Name) → i < length names → flat_names (take (i + 1) names) ≡ flat_names (take i names) ++ flat_of (get_or names i d) ∷ []
taken names i d below = ap flat_names (take_more names i d below) ∙ map-append flat_of (take i names) (get_or names i d ∷ [])

-- ---- slots

module _ (items : List Item) (sub : Subvolume) where
  pub begin_slots : (slots : Slots) → ((dir : ℕ) (bytes : List ℕ) → index_at slots dir bytes ≡ None) → AreSlots items sub [] slots
  begin_slots slots none = record {
    sound = λ dir index bytes e. absurd (let no : None ≡ Some index = sym (none dir bytes) ∙ e in cc);
    complete = λ name c right. absurd (in_nothing name c);
  }

  more_in : (names : List FlatName) (name : FlatName) (dir index : ℕ) (bytes : List ℕ) → IsInSlot items sub names dir index bytes → IsInSlot items sub (names ++ name ∷ []) dir index bytes
  more_in names name dir index bytes found = record { name = found.name; there = Contains-append_left names (name ∷ []) found.name found.there; right = found.right; dir_is = found.dir_is; bytes_is = found.bytes_is; index_is = found.index_is }

  pub more_slots : (names : List FlatName) (name : FlatName) (old new : Slots) (alone : Bool) → AreSlots items sub names old → IsAdded items sub old new name alone → AreSlots items sub (names ++ name ∷ []) new
  more_slots names name old new alone are (Left wrong was same) = record {
    sound = λ dir index bytes e. more_in names name dir index bytes (are.sound dir index bytes (sym (same dir bytes) ∙ e));
    complete = λ other c right. go other right (in_longer names name other c);
  }
    where
      go : (other : FlatName) → IsRightRef items sub other → Contains names other ⊎ (name ≡ other) → IsSome (index_at new other.dir other.bytes)
      go other right (inl before) = subst (λ (o : Option ℕ). IsSome o) (sym (same other.dir other.bytes)) (are.complete other before right)
      go other right (inr last) = absurd (wrong (subst (IsRightRef items sub) (sym last) right))
  more_slots names name old new alone are (Put right was put) = record {
    sound = λ dir index bytes e. sound dir index bytes (is_slot name dir bytes) refl e;
    complete = λ other c ok. go other ok (in_longer names name other c) (is_slot name other.dir other.bytes) refl;
  }
    where
      sound : (dir index : ℕ) (bytes : List ℕ) (b : Bool) → is_slot name dir bytes ≡ b → index_at new dir bytes ≡ Some index → IsInSlot items sub (names ++ name ∷ []) dir index bytes
      sound dir index bytes true e h =
          let p = and_parts _ _ e in
          let now : Some name.index ≡ Some index = sym (put dir bytes ∙ ap (λ (b : Bool). cond b (Some name.index) (index_at old dir bytes)) e) ∙ h in
          record { name = name; there = behind names name; right = right; dir_is = eqb-true name.dir dir p.0; bytes_is = (bytes_eq-Decides name.bytes bytes).0 p.1; index_is = cc }
      sound dir index bytes false e h =
          more_in names name dir index bytes (are.sound dir index bytes (sym (put dir bytes ∙ ap (λ (b : Bool). cond b (Some name.index) (index_at old dir bytes)) e) ∙ h))

      go : (other : FlatName) → IsRightRef items sub other → Contains names other ⊎ (name ≡ other) → (b : Bool) → is_slot name other.dir other.bytes ≡ b → IsSome (index_at new other.dir other.bytes)
      go other ok at true e = subst (λ (o : Option ℕ). IsSome o) (sym (put other.dir other.bytes ∙ ap (λ (b : Bool). cond b (Some name.index) (index_at old other.dir other.bytes)) e)) refl
      go other ok (inl before) false e = subst (λ (o : Option ℕ). IsSome o) (sym (put other.dir other.bytes ∙ ap (λ (b : Bool). cond b (Some name.index) (index_at old other.dir other.bytes)) e)) (are.complete other before ok)
      go other ok (inr last) false e =
          clash (sym (and_from _ _ (eq-eqb name.dir other.dir (ap (λ (n : FlatName). n.dir) last)) ((bytes_eq-Decides name.bytes other.bytes).1 (ap (λ (n : FlatName). n.bytes) last))) ∙ e)

  -- ---- the least inode with a bad name

  pub begin_least : IsLeastBad items sub [] None
  begin_least = record {
    bad = λ found e. absurd cc;
    good = λ ino below. record { right = λ name c is. absurd (in_nothing name c); once = λ j k one two is twice. none k two twice.second };
  }
    where
      none : (k : ℕ) (two : FlatName) → slice_get {X = FlatName} [] k ≡ Some two → ⊥
      none k two e = cc

  longer : (names : List FlatName) (name : FlatName) (j k : ℕ) (one two : FlatName) → AreTwice items sub names j k one two → AreTwice items sub (names ++ name ∷ []) j k one two
  longer names name j k one two t =
      record { before = t.before; first = get_longer names name j one t.first; second = get_longer names name k two t.second; right = t.right; right_too = t.right_too; dir = t.dir; bytes = t.bytes }

  still_bad : (names : List FlatName) (name : FlatName) (ino : ℕ) → HasBadName items sub names ino → HasBadName items sub (names ++ name ∷ []) ino
  still_bad names name ino (Wrong other there is wrong) = Wrong other (Contains-append_left names (name ∷ []) other there) is wrong
  still_bad names name ino (Twice j k one two is twice) = Twice j k one two is (longer names name j k one two twice)

  -- the parts of what stands in the longer list twice
  data IsTwice (names : List FlatName) (name : FlatName) (j k : ℕ) (one two : FlatName) : Type 0 where
    Both : (twice : AreTwice items sub names j k one two) → IsTwice names name j k one two
    Now : (there : Contains names one) (same : name ≡ two) → IsTwice names name j k one two

  got : (names : List FlatName) (k : ℕ) (one : FlatName) → slice_get names k ≡ Some one → Contains names one
  got [] k one e = absurd cc
  got (x ∷ names) zero one e = let same : x ≡ one = cc in subst (Contains (x ∷ names)) same (head_in x names)
  got (x ∷ names) (suc k) one e = Rattle.volume_image.proofs.Reaches.tail_in x one names (got names k one e)

  twice_of : (names : List FlatName) (name : FlatName) (j k : ℕ) (one two : FlatName) → AreTwice items sub (names ++ name ∷ []) j k one two → IsTwice names name j k one two
  twice_of names name j k one two t = go (place names name j one t.first) (place names name k two t.second)
    where
      go : IsPlace names name j one → IsPlace names name k two → IsTwice names name j k one two
      go (Before low there) (Before below also) = Both (record { before = t.before; first = there; second = also; right = t.right; right_too = t.right_too; dir = t.dir; bytes = t.bytes })
      go (Before low there) (Last at same) = Now (got names j one there) same
      go (Last at same) (Before below also) = let before = t.before in absurd (omega arith)
      go (Last at same) (Last at' same') = let before = t.before in absurd (omega arith)

  -- an inode below the new one has no name more
  no_more : (names : List FlatName) (name : FlatName) (ino : ℕ) → HasGoodNames items sub names ino → ino < name.ino → HasGoodNames items sub (names ++ name ∷ []) ino
  no_more names name ino good below = record {
    right = λ other c is. go other is (in_longer names name other c);
    once = λ j k one two is t. twice j k one two is (twice_of names name j k one two t);
  }
    where
      go : (other : FlatName) → other.ino ≡ ino → Contains names other ⊎ (name ≡ other) → IsRightRef items sub other
      go other is (inl before) = good.right other before is
      go other is (inr last) = let same = ap (λ (n : FlatName). n.ino) last in absurd (omega arith)

      twice : (j k : ℕ) (one two : FlatName) → two.ino ≡ ino → IsTwice names name j k one two → ⊥
      twice j k one two is (Both t) = good.once j k one two is t
      twice j k one two is (Now there same) = let also = ap (λ (n : FlatName). n.ino) same in omega arith

  -- a right name that is alone in its slot
  one_more : (names : List FlatName) (name : FlatName) (old : Slots) (ino : ℕ) → AreSlots items sub names old → IsRightRef items sub name → index_at old name.dir name.bytes ≡ None → HasGoodNames items sub names ino
      → HasGoodNames items sub (names ++ name ∷ []) ino
  one_more names name old ino are right none good = record {
    right = λ other c is. go other is (in_longer names name other c);
    once = λ j k one two is t. twice j k one two is t (twice_of names name j k one two t);
  }
    where
      go : (other : FlatName) → other.ino ≡ ino → Contains names other ⊎ (name ≡ other) → IsRightRef items sub other
      go other is (inl before) = good.right other before is
      go other is (inr last) = subst (IsRightRef items sub) last right

      empty : (o : Option ℕ) → o ≡ None → IsSome o → ⊥
      empty None e h = absurd cc
      empty (Some x) e h = absurd cc

      twice : (j k : ℕ) (one two : FlatName) → two.ino ≡ ino → AreTwice items sub (names ++ name ∷ []) j k one two → IsTwice names name j k one two → ⊥
      twice j k one two is t (Both u) = good.once j k one two is u
      twice j k one two is t (Now there same) =
          empty (index_at old name.dir name.bytes) none
          (subst (λ (d : ℕ). IsSome (index_at old d name.bytes)) (t.dir ∙ ap (λ (n : FlatName). n.dir) (sym same))
          (subst (λ (b : List ℕ). IsSome (index_at old one.dir b)) (t.bytes ∙ ap (λ (n : FlatName). n.bytes) (sym same)) (are.complete one there t.right)))

  was_none : (o : Option ℕ) → true ≡ is_none o → o ≡ None
  was_none None e = refl
  was_none (Some x) e = clash e

  was_some : (o : Option ℕ) → false ≡ is_none o → (x : ℕ) × (o ≡ Some x)
  was_some None e = clash (sym e)
  was_some (Some x) e = (x, refl)

  -- the new name is bad
  now_bad : (names : List FlatName) (name : FlatName) (old new : Slots) → AreSlots items sub names old → IsAdded items sub old new name false → HasBadName items sub (names ++ name ∷ []) name.ino
  now_bad names name old new are (Left wrong was same) = Wrong name (behind names name) refl wrong
  now_bad names name old new are (Put right was put) =
      let some = was_some (index_at old name.dir name.bytes) was in
      let other = are.sound name.dir some.0 name.bytes some.1 in
      let at = get_of names other.name other.there in
      Twice at.0 (length names) other.name name refl
      (record { before = at.1; first = get_longer names name at.0 other.name at.2; second = get_last names name; right = other.right; right_too = right; dir = other.dir_is; bytes = other.bytes_is })

  pub more_least : (names : List FlatName) (name : FlatName) (old new : Slots) (least next : Option Ino) (ino : Ino) (alone : Bool) → ino.0 ≡ name.ino → AreSlots items sub names old → IsAdded items sub old new name alone
      → (alone ≡ true → next ≡ least) → (alone ≡ false → IsLowered least ino next) → IsLeastBad items sub names least → IsLeastBad items sub (names ++ name ∷ []) next
  more_least names name old new least next ino true is are (Left wrong was same) kept lowered l = clash was
  more_least names name old new least next ino true is are (Put right was put) kept lowered l = record {
    bad = λ found e. still_bad names name found.0 (l.bad found (sym (kept refl) ∙ e));
    good = λ number below. one_more names name old number are right (was_none (index_at old name.dir name.bytes) was) (l.good number (λ found e. below found (kept refl ∙ e)));
  }
  more_least names name old new least next ino false is are added kept lowered l = record {
    bad = λ found e. elim (lowered refl).0 [
      | inl same ↦ still_bad names name found.0 (l.bad found (sym same ∙ e))
      | inr new_one ↦ subst (HasBadName items sub (names ++ name ∷ [])) (sym is ∙ ap (λ (i : Ino). i.0) (one_ino ino found (sym new_one ∙ e))) (now_bad names name old new are added)
    ];
    good = λ number below. let low = (lowered refl).1 number below in no_more names name number (l.good number low.0) (subst (λ (n : ℕ). number < n) is low.1);
  }
    where
      one_ino : (a b : Ino) → Some a ≡ Some b → a ≡ b
      one_ino a b e = cc
