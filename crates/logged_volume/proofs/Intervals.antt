-- The intervals between numbers are maximal, and the stranded directory is the least.
use Rattle.std.proofs.Common.{◌≡◌, ℕ, ◌+◌, ◌≤◌, Bool, true, false, cond, ◌&&◌, List, [], ◌∷◌, Some, None, refl, sym, ap, subst, arith, inl, inr, ◌⊎◌}
use Rattle.std.specs.Bool.{nat_le, nat_lt}
use Rattle.std.specs.List.{Contains, filter, list_all}
use Rattle.std.proofs.lemmas.Bool.{and_parts, leb-true, ltb-true}
use Rattle.flat_model.specs.Volume.{Subvolume}
use Rattle.flat_model.proofs.Lists.{contains_head, contains_tail, contains_none, contains_cases, contains_filter, filter_contains}
use Rattle.flat_model.proofs.Maps.{some_same, some_none}
use Rattle.logged_volume.specs.Numbers.{is_number_set, number_set, gaps, is_met, gaps_with, IsMaximal}
use Rattle.logged_volume.specs.Drawn.{members_of, is_data_form, drawn_set, is_stranding, first_of, stranded_of, IsStranded}
use Rattle.logged_volume.proofs.Members.{any_gives, all_gives, in_from, in_gives, number_set_gives, is_set_filter}
use Rattle.logged_volume.proofs.Gaps.{gaps_with_lacks}
use Rattle.logged_volume.proofs.LeastSets.{least_set_is_least}

gap_ends : (numbers : List ℕ) (low high : ℕ) (gap : ℕ × ℕ) → Contains (gaps low numbers high) gap → ((gap.0 ≡ low) ⊎ ((n : ℕ) × Contains numbers n × (n + 1 ≡ gap.0))) × ((gap.1 ≡ high) ⊎ Contains numbers gap.1)
gap_ends [] low high gap c = elim (contains_cases (low, high) [] gap c) [
  | inl same ↦ (inl (ap (λ (g : ℕ × ℕ). g.0) (sym same)), inl (ap (λ (g : ℕ × ℕ). g.1) (sym same)))
  | inr none ↦ absurd (contains_none gap none)
]
gap_ends (number ∷ numbers) low high gap c = elim (contains_cases (low, number) (gaps (number + 1) numbers high) gap c) [
  | inl same ↦ (inl (ap (λ (g : ℕ × ℕ). g.0) (sym same)), inr (subst (Contains (number ∷ numbers)) (ap (λ (g : ℕ × ℕ). g.1) same) (contains_head number numbers)))
  | inr h ↦
      let rest = gap_ends numbers (number + 1) high gap h in (
        (elim rest.0 [
          | inl first ↦ inr (number, contains_head number numbers, sym first)
          | inr before ↦ inr (before.0, contains_tail number numbers before.0 before.1, before.2)
        ]),
        (elim rest.1 [ inl last ↦ inl last | inr after ↦ inr (contains_tail number numbers gap.1 after) ]),
      )
]

pub gaps_are_maximal : (without others : List ℕ) (high : ℕ) (gap : ℕ × ℕ) → Contains (gaps_with without others high) gap → IsMaximal without others high gap
gaps_are_maximal without others high gap c =
    let found = filter_contains (is_met others) (gaps 0 (number_set without) high) gap c in
    let ends = gap_ends (number_set without) 0 high gap found.0 in
    let met = any_gives (λ number. nat_le gap.0 number && nat_lt number gap.1) others found.1 in
    let parts = and_parts _ _ met.2 in
    record {
      lacks = λ n from below. gaps_with_lacks without others high n gap c from below;
      meets = (met.0, met.1, leb-true gap.0 met.0 parts.0, ltb-true met.0 gap.1 parts.1);
      begins = elim ends.0 [ inl first ↦ inl first | inr before ↦ inr (before.0, number_set_gives without before.0 before.1, before.2) ];
      ends = elim ends.1 [ inl last ↦ inl last | inr after ↦ inr (number_set_gives without gap.1 after) ];
    }

-- ---- the stranded directory

first_is_least : (numbers : List ℕ) (first : ℕ) → is_number_set numbers ≡ true → first_of numbers ≡ Some first → Contains numbers first × ((n : ℕ) → Contains numbers n → first ≤ n)
first_is_least [] first s e = absurd (some_none first (sym e))
first_is_least (number ∷ numbers) first s e =
    let same = some_same number first e in
    let above = (and_parts (list_all (nat_lt number) numbers) (is_number_set numbers) s).0 in (
      subst (Contains (number ∷ numbers)) same (contains_head number numbers),
      λ n c. elim (contains_cases number numbers n c) [
        | inl here ↦ omega (arith, same, here)
        | inr later ↦ let below = ltb-true number n (all_gives (nat_lt number) numbers above n later) in omega (arith, same, below)
      ],
    )

members_set : (current logged : Subvolume) (target : ℕ) (datasync : Bool) → is_number_set (members_of current logged target datasync) ≡ true
members_set current logged target datasync =
    elim (is_data_form logged target datasync) as (λ b. is_number_set (cond b (target ∷ []) (drawn_set current logged target)) ≡ true) [
      | true ↦ refl
      | false ↦ (least_set_is_least current logged target true).in_order
    ]

pub stranded_is_least : (current logged : Subvolume) (target : ℕ) (datasync : Bool) (dir : ℕ) → stranded_of current logged target datasync ≡ Some dir → IsStranded current logged (members_of current logged target datasync) dir × ((other : ℕ) → IsStranded current logged (members_of current logged target datasync) other → dir ≤ other)
stranded_is_least current logged target datasync dir e =
    let members = members_of current logged target datasync in
    let set = is_set_filter (is_stranding current logged members) members (members_set current logged target datasync) in
    let first = first_is_least (filter (is_stranding current logged members) members) dir set e in
    let found = filter_contains (is_stranding current logged members) members dir first.0 in (
      (in_from members dir found.0, found.1),
      λ other stranded. first.1 other (contains_filter (is_stranding current logged members) members other stranded.1 (in_gives members other stranded.0)),
    )

pub none_is_stranded : (current logged : Subvolume) (target : ℕ) (datasync : Bool) (dir : ℕ) → stranded_of current logged target datasync ≡ None → IsStranded current logged (members_of current logged target datasync) dir → ⊥
none_is_stranded current logged target datasync dir e stranded =
    let members = members_of current logged target datasync in
    let stranding = filter (is_stranding current logged members) members in
    lacks_first stranding e dir (contains_filter (is_stranding current logged members) members dir stranded.1 (in_gives members dir stranded.0))
  where
    lacks_first : (numbers : List ℕ) → first_of numbers ≡ None → (n : ℕ) → Contains numbers n → ⊥
    lacks_first [] e n c = contains_none n c
    lacks_first (number ∷ numbers) e n c = some_none number e
