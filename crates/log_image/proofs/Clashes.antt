-- The test of a directory's names says that they are apart.
use Rattle.std.proofs.Common.{◌≡◌, ◌≤◌, ◌||◌, ℕ, Bool, true, false, not, List, [], ◌∷◌, Contains, nat_eq, nat_lt, bytes_eq, filter, sum_by, refl, sym, ap, subst, ◌∙◌, arith, inl, inr}
use Rattle.std.specs.List.{list_any}
use Rattle.std.proofs.lemmas.Bool.{and_parts, and_from, or_cases, or_left, or_right, or_parts, eqb-true, eq-eqb, ltb-true, ltb-false, not-true, not-false, false_from_ne_true}
use Rattle.blk_base.specs.Crc.{name_hash_of}
use Rattle.flat_model.specs.Names.{FlatName, is_same_name, stands_in, is_hashed_in}
use Rattle.flat_model.specs.Lengths.{most_item_bytes, entry_length, dir_item_length}
use Rattle.flat_model.proofs.Lists.{contains_filter, filter_contains, filter_empties}
use Rattle.flat_model.proofs.NameSets.{is_same_name_true, is_same_name_itself}
use Rattle.flat_model.proofs.Ways.{same_bytes_eq, bytes_eq_same}
use Rattle.logged_volume.specs.FlatLog.{AreDistinct}
use Rattle.logged_volume.specs.Accepted.{AreApart}
use Rattle.logged_volume.proofs.Members.{any_gives, none_from, none_gives}
use Rattle.log_image.specs.LogRules.{is_twice, do_meet, do_clash}

-- ---- a name that stands twice

twice_gives : (names : List FlatName) → is_twice names ≡ false → AreDistinct names
twice_gives [] h = tt
twice_gives (name ∷ names) h =
    let parts = or_parts (list_any (is_same_name name) names) (is_twice names) h in
    ((λ c. let none = none_gives (is_same_name name) names parts.0 name c in let itself = is_same_name_itself name in absurd cc), twice_gives names parts.1)

twice_from : (names : List FlatName) → AreDistinct names → is_twice names ≡ false
twice_from [] distinct = refl
twice_from (name ∷ names) distinct = rw (none, twice_from names distinct.1) refl
  where
    none : list_any (is_same_name name) names ≡ false
    none = none_from (is_same_name name) names (λ other c. false_from_ne_true (is_same_name name other) (λ h. distinct.0 (subst (λ (n : FlatName). Contains names n) (sym (is_same_name_true name other h)) c)))

-- ---- names that meet

meet_gives : (one two : FlatName) → do_meet one two ≡ false → (nat_eq one.index two.index || bytes_eq one.bytes two.bytes) ≡ true → one ≡ two
meet_gives one two h met =
    is_same_name_true one two (not-false (is_same_name one two) (false_from_ne_true (not (is_same_name one two)) (λ apart. let both = and_from (not (is_same_name one two)) _ apart met in absurd cc)))

meet_from : (one two : FlatName) → ((nat_eq one.index two.index || bytes_eq one.bytes two.bytes) ≡ true → one ≡ two) → do_meet one two ≡ false
meet_from one two same = false_from_ne_true (do_meet one two) (λ h.
    let parts = and_parts (not (is_same_name one two)) (nat_eq one.index two.index || bytes_eq one.bytes two.bytes) h in
    let itself : is_same_name one two ≡ true = subst (λ (n : FlatName). is_same_name one n ≡ true) (same parts.1) (is_same_name_itself one) in
    let other = not-true (is_same_name one two) parts.0 in
    absurd cc)

-- ---- items of names

no_length : (names : List FlatName) (dir hash : ℕ) → ((name : FlatName) → Contains names name → is_hashed_in dir hash name ≡ false) → dir_item_length names dir hash ≡ 0
unfolding dir_item_length
no_length names dir hash none = ap (sum_by entry_length) (filter_empties (is_hashed_in dir hash) names none)

module _ (said left : List FlatName) where
  abbrev stands : ℕ → List FlatName
  stands dir = filter (stands_in dir) left

  abbrev too_long : ℕ → FlatName → Bool
  too_long dir name = nat_lt most_item_bytes (dir_item_length left dir (name_hash_of name.bytes))

  standing : (dir : ℕ) (name : FlatName) → Contains left name → name.dir ≡ dir → Contains (stands dir) name
  standing dir name c is = contains_filter (stands_in dir) left name (eq-eqb name.dir dir is) c

  standing_gives : (dir : ℕ) (name : FlatName) → Contains (stands dir) name → Contains left name × (name.dir ≡ dir)
  standing_gives dir name c = let found = filter_contains (stands_in dir) left name c in (found.0, eqb-true name.dir dir found.1)

  module _ (none : (dir : ℕ) → do_clash said left dir ≡ false) where
    clash_once : (dir : ℕ) → is_twice (filter (stands_in dir) said) ≡ false
    clash_once dir = (or_parts (is_twice (filter (stands_in dir) said)) _ (none dir)).0

    clash_meets : (dir : ℕ) → list_any (λ one. list_any (do_meet one) (stands dir)) (stands dir) ≡ false
    clash_meets dir =
        (or_parts (list_any (λ one. list_any (do_meet one) (stands dir)) (stands dir)) (list_any (too_long dir) (stands dir))
        (or_parts (is_twice (filter (stands_in dir) said)) (list_any (λ one. list_any (do_meet one) (stands dir)) (stands dir) || list_any (too_long dir) (stands dir)) (none dir)).1).0

    clash_lengths : (dir : ℕ) → list_any (too_long dir) (stands dir) ≡ false
    clash_lengths dir =
        (or_parts (list_any (λ one. list_any (do_meet one) (stands dir)) (stands dir)) (list_any (too_long dir) (stands dir))
        (or_parts (is_twice (filter (stands_in dir) said)) (list_any (λ one. list_any (do_meet one) (stands dir)) (stands dir) || list_any (too_long dir) (stands dir)) (none dir)).1).1

    pub said_once : (dir : ℕ) → AreDistinct (filter (stands_in dir) said)
    said_once dir = twice_gives _ (clash_once dir)

    apart_of : (one two : FlatName) → Contains left one → Contains left two → one.dir ≡ two.dir → (nat_eq one.index two.index || bytes_eq one.bytes two.bytes) ≡ true → one ≡ two
    apart_of one two a b dir met =
        meet_gives one two (none_gives (do_meet one) (stands two.dir)
        (none_gives (λ other. list_any (do_meet other) (stands two.dir)) (stands two.dir) (clash_meets two.dir) one (standing two.dir one a dir)) two (standing two.dir two b refl)) met

    fits_of : (dir hash : ℕ) → dir_item_length left dir hash ≤ most_item_bytes
    fits_of dir hash = go (list_any (is_hashed_in dir hash) left) refl
      where
        go : (found : Bool) → list_any (is_hashed_in dir hash) left ≡ found → dir_item_length left dir hash ≤ most_item_bytes
        go true h =
            let name = any_gives (is_hashed_in dir hash) left h in
            let parts = and_parts (nat_eq name.0.dir dir) (nat_eq (name_hash_of name.0.bytes) hash) name.2 in
            let short = none_gives (too_long dir) (stands dir) (clash_lengths dir) name.0 (standing dir name.0 name.1 (eqb-true name.0.dir dir parts.0)) in
            subst (λ (h : ℕ). dir_item_length left dir h ≤ most_item_bytes) (eqb-true (name_hash_of name.0.bytes) hash parts.1)
            (ltb-false most_item_bytes (dir_item_length left dir (name_hash_of name.0.bytes)) short)
        go false h = let empty = no_length left dir hash (λ name c. none_gives (is_hashed_in dir hash) left h name c) in omega arith

    pub names_apart : AreApart left
    names_apart = record {
      indexes = λ one two a b dir index. apart_of one two a b dir (or_left (nat_eq one.index two.index) (bytes_eq one.bytes two.bytes) (eq-eqb one.index two.index index));
      bytes = λ one two a b dir bytes. apart_of one two a b dir (or_right (nat_eq one.index two.index) (bytes_eq one.bytes two.bytes) (bytes_eq_same one.bytes two.bytes bytes));
      entries = fits_of;
    }

  pub clash_from : ((dir : ℕ) → AreDistinct (filter (stands_in dir) said)) → AreApart left → (dir : ℕ) → do_clash said left dir ≡ false
  clash_from once apart dir = rw (twice_from _ (once dir), meets, lengths) refl
    where
      meets : list_any (λ one. list_any (do_meet one) (stands dir)) (stands dir) ≡ false
      meets = none_from (λ one. list_any (do_meet one) (stands dir)) (stands dir) (λ one a. none_from (do_meet one) (stands dir) (λ two b.
          let first = standing_gives dir one a in
          let second = standing_gives dir two b in
          meet_from one two (λ met. elim (or_cases (nat_eq one.index two.index) (bytes_eq one.bytes two.bytes) met) [
            | inl index ↦ apart.indexes one two first.0 second.0 (first.1 ∙ sym second.1) (eqb-true one.index two.index index)
            | inr bytes ↦ apart.bytes one two first.0 second.0 (first.1 ∙ sym second.1) (same_bytes_eq one.bytes two.bytes bytes)
          ])))

      lengths : list_any (too_long dir) (stands dir) ≡ false
      lengths = none_from (too_long dir) (stands dir) (λ name c. not_above most_item_bytes (dir_item_length left dir (name_hash_of name.bytes)) (apart.entries dir (name_hash_of name.bytes)))
        where
          not_above : (a b : ℕ) → b ≤ a → nat_lt a b ≡ false
          not_above a b most = false_from_ne_true (nat_lt a b) (λ h. let below = ltb-true a b h in omega arith)
