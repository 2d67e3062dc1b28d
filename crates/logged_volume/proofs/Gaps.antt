-- Facts on the intervals between numbers.
use Rattle.std.proofs.Common.{◌≡◌, ℕ, ◌+◌, ◌<◌, ◌≤◌, true, ◌&&◌, List, [], ◌∷◌, map, sym, ap, subst, arith, inl, inr}
use Rattle.std.specs.Bool.{nat_le, nat_lt}
use Rattle.std.specs.List.{Contains, list_all}
use Rattle.std.proofs.lemmas.Bool.{and_parts, and_from, cases_order, le-leb, lt-ltb, ltb-true}
use Rattle.flat_model.proofs.Lists.{contains_head, contains_tail, contains_none, contains_cases, contains_filter, filter_contains}
use Rattle.logged_volume.specs.Numbers.{is_number_set, number_set, gaps, is_met, gaps_with}
use Rattle.logged_volume.proofs.Members.{any_from, all_gives, number_set_has, number_set_gives, is_set_number_set}

pub map_has : {X Y : Type 0} (f : X → Y) (xs : List X) (x : X) → Contains xs x → Contains (map f xs) (f x)
map_has f [] x c = absurd (contains_none x c)
map_has f (y ∷ xs) x c =
    elim (contains_cases y xs x c) [
      | inl same ↦ subst (λ z. Contains (map f (y ∷ xs)) (f z)) same (contains_head (f y) (map f xs))
      | inr h ↦ contains_tail (f y) (map f xs) (f x) (map_has f xs x h)
    ]

pub map_gives : {X Y : Type 0} (f : X → Y) (xs : List X) (y : Y) → Contains (map f xs) y → (x : X) × Contains xs x × (f x ≡ y)
map_gives f [] y c = absurd (contains_none y c)
map_gives f (x ∷ xs) y c =
    elim (contains_cases (f x) (map f xs) y c) [
      | inl same ↦ (x, contains_head x xs, same)
      | inr h ↦ let rest = map_gives f xs y h in (rest.0, contains_tail x xs rest.0 rest.1, rest.2)
    ]

-- a number that isn't one of these lies between them
in_a_gap : (numbers : List ℕ) (low high n : ℕ) → low ≤ n → n < high → (Contains numbers n → ⊥) → (gap : ℕ × ℕ) × Contains (gaps low numbers high) gap × (gap.0 ≤ n) × (n < gap.1)
in_a_gap [] low high n from below absent = ((low, high), contains_head (low, high) [], from, below)
in_a_gap (number ∷ numbers) low high n from below absent =
    elim (cases_order n number) [
      | inl same ↦ absurd (absent (subst (Contains (number ∷ numbers)) (sym same) (contains_head number numbers)))
      | inr (inl before) ↦ ((low, number), contains_head (low, number) (gaps (number + 1) numbers high), from, before)
      | inr (inr after) ↦
          let rest = in_a_gap numbers (number + 1) high n (omega arith) below (λ c. absent (contains_tail number numbers n c)) in
          (rest.0, contains_tail (low, number) (gaps (number + 1) numbers high) rest.0 rest.1, rest.2, rest.3)
    ]

gap_from : (numbers : List ℕ) (low high : ℕ) (gap : ℕ × ℕ) → is_number_set numbers ≡ true → list_all (nat_le low) numbers ≡ true → Contains (gaps low numbers high) gap → low ≤ gap.0
gap_from [] low high gap set above c = elim (contains_cases (low, high) [] gap c) [ inl same ↦ omega (arith, ap (λ (g : ℕ × ℕ). g.0) same) | inr none ↦ absurd (contains_none gap none) ]
gap_from (number ∷ numbers) low high gap set above c =
    let parts = and_parts (list_all (nat_lt number) numbers) (is_number_set numbers) set in
    let head = and_parts (nat_le low number) (list_all (nat_le low) numbers) above in
    elim (contains_cases (low, number) (gaps (number + 1) numbers high) gap c) [
      | inl same ↦ omega (arith, ap (λ (g : ℕ × ℕ). g.0) same)
      | inr h ↦ omega (arith, Rattle.std.proofs.lemmas.Bool.leb-true low number head.0, gap_from numbers (number + 1) high gap parts.1 (raised numbers number parts.0) h)
    ]
  where
    raised : (numbers : List ℕ) (number : ℕ) → list_all (nat_lt number) numbers ≡ true → list_all (nat_le (number + 1)) numbers ≡ true
    raised numbers number above = Rattle.logged_volume.proofs.Members.all_from (nat_le (number + 1)) numbers (λ x c. le-leb (number + 1) x (omega (arith, ltb-true number x (all_gives (nat_lt number) numbers above x c))))

-- and none of them lies within one of the intervals
gap_lacks : (numbers : List ℕ) (low high n : ℕ) (gap : ℕ × ℕ) → is_number_set numbers ≡ true → Contains (gaps low numbers high) gap → gap.0 ≤ n → n < gap.1 → Contains numbers n → ⊥
gap_lacks [] low high n gap set c from below d = contains_none n d
gap_lacks (number ∷ numbers) low high n gap set c from below d =
    let parts = and_parts (list_all (nat_lt number) numbers) (is_number_set numbers) set in
    let above = λ (m : ℕ) (e : Contains numbers m). ltb-true number m (all_gives (nat_lt number) numbers parts.0 m e) in
    elim (contains_cases (low, number) (gaps (number + 1) numbers high) gap c) [
      | inl same ↦
          let high_is : number ≡ gap.1 = ap (λ (g : ℕ × ℕ). g.1) same in
          elim (contains_cases number numbers n d) [ inl here ↦ omega (arith, high_is, here) | inr later ↦ let m = above n later in omega (arith, high_is, m) ]
      | inr h ↦
          let low_is = gap_from numbers (number + 1) high gap parts.1 (Rattle.logged_volume.proofs.Members.all_from (nat_le (number + 1)) numbers (λ x e. le-leb (number + 1) x (let m = above x e in omega (arith, m)))) h in
          elim (contains_cases number numbers n d) [ inl here ↦ omega (arith, low_is, here) | inr later ↦ gap_lacks numbers (number + 1) high n gap parts.1 h from below later ]
    ]

module _ (without others : List ℕ) (high : ℕ) where
  -- one of the others that isn't among the first lies in an interval
  pub gaps_with_has : (n : ℕ) → n < high → (Contains without n → ⊥) → Contains others n → (gap : ℕ × ℕ) × Contains (gaps_with without others high) gap × (gap.0 ≤ n) × (n < gap.1)
  gaps_with_has n below absent c =
      let found = in_a_gap (number_set without) 0 high n (omega arith) below (λ d. absent (number_set_gives without n d)) in
      let from = found.2 in
      let to = found.3 in
      (found.0, contains_filter (is_met others) (gaps 0 (number_set without) high) found.0 (any_from (λ number. nat_le found.0.0 number && nat_lt number found.0.1) others n c (and_from _ _ (le-leb found.0.0 n from) (lt-ltb n found.0.1 to))) found.1, from, to)

  pub gaps_with_lacks : (n : ℕ) (gap : ℕ × ℕ) → Contains (gaps_with without others high) gap → gap.0 ≤ n → n < gap.1 → Contains without n → ⊥
  gaps_with_lacks n gap c from below d =
      gap_lacks (number_set without) 0 high n gap (is_set_number_set without) (filter_contains (is_met others) (gaps 0 (number_set without) high) gap c).0 from below (number_set_has without n d)
