-- The items of a log with a range of one place put in: what covers what then.
use Rattle.std.proofs.Common.{◌≡◌, ◌≤◌, ◌<◌, ◌^◌, ◌&&◌, ◌⊎◌, ◌∙◌, ℕ, Bool, true, false, not, cond, List, [], ◌∷◌, ◌++◌, Contains, Option, Some, None, nat_eq, nat_le, find, refl, sym, ap, subst, inl, inr, arith}
use Rattle.std.proofs.lemmas.Bool.{and_from, and_parts, cases_Bool, eqb-true, eq-eqb, le-leb, leb-true, true≢false}
use Rattle.blk_base.specs.Items.{range_of}
use Rattle.blk_base.specs.Leaf.{Item}
use Rattle.blk_base.specs.Trees.{ItemsRise}
use Rattle.cow_tree.proofs.Items.{lower, upper}
use Rattle.logged_volume.specs.FlatLog.{LogRange, is_covered}
use Rattle.logged_volume.proofs.Members.{any_from, any_gives}
use Rattle.log_image.specs.LogItems.{ranges_in, ranges_in_item, read_or}
use Rattle.log_image.proofs.Sayings.{in_flat_map}
use Rattle.tree_range.specs.Between.{data_under}
use Rattle.tree_range.proofs.Found.{contains_under}
use Rattle.volume_image.proofs.Lists.{in_cons, in_nothing}
use Rattle.volume_image.proofs.Members.{flat_map_in}
use Rattle.volume_image.proofs.Reaches.{head_in, tail_in}
use Rattle.dir_ranges.specs.declared.place.Place.{Place}
use Rattle.dir_ranges.specs.Gone.{is_uncovered, range_at, with_place, with_places}
use Rattle.dir_ranges.specs.Ranges.{AreForward, range_key, with_range}
use Rattle.dir_ranges.proofs.Middle.{both_sides, in_middle, middle_has, middle_keeps}
use Rattle.dir_ranges.proofs.OneRange.{item_of, says_range}

-- ---- covers

-- the range has the place in it
pub record Covers (range : LogRange) (place : Place) : Type 0 where
  pub dir : range.dir ≡ place.dir
  pub low : range.first ≤ place.index
  pub high : place.index ≤ range.last

abbrev covers : Place → LogRange → Bool
covers place range = nat_eq range.dir place.dir && (nat_le range.first place.index && nat_le place.index range.last)

pub covered_gives : (ranges : List LogRange) (place : Place) → is_covered ranges place.dir place.index ≡ true → (range : LogRange) × Contains ranges range × Covers range place
covered_gives ranges place is =
    let found = any_gives (covers place) ranges is in
    let parts = and_parts (nat_eq found.0.dir place.dir) (nat_le found.0.first place.index && nat_le place.index found.0.last) found.2 in
    let ends = and_parts (nat_le found.0.first place.index) (nat_le place.index found.0.last) parts.1 in
    (found.0, found.1, record { dir = eqb-true found.0.dir place.dir parts.0; low = leb-true found.0.first place.index ends.0; high = leb-true place.index found.0.last ends.1 })

pub covered_from : (ranges : List LogRange) (range : LogRange) (place : Place) → Contains ranges range → Covers range place → is_covered ranges place.dir place.index ≡ true
covered_from ranges range place c is =
    any_from (covers place) ranges range c
    (and_from (nat_eq range.dir place.dir) (nat_le range.first place.index && nat_le place.index range.last) (eq-eqb range.dir place.dir is.dir)
    (and_from (nat_le range.first place.index) (nat_le place.index range.last) (le-leb range.first place.index is.low) (le-leb place.index range.last is.high)))

-- where nothing is lost, what was covered still is
pub stays_covered : (old new : List LogRange) (place : Place) → ((range : LogRange) → Contains old range → Contains new range) → is_uncovered old place ≡ false → is_uncovered new place ≡ false
stays_covered old new place keeps is =
    let found = covered_gives old place (not_false (is_covered old place.dir place.index) is) in
    ap not (covered_from new found.0 place (keeps found.0 found.1) found.2)
  where
    not_false : (b : Bool) → not b ≡ false → b ≡ true
    not_false true e = refl
    not_false false e = sym e

pub covers_itself : (place : Place) → Covers (range_at place) place
covers_itself place = record { dir = refl; low = omega arith; high = omega arith }

-- a place in the range of another one is that place
pub same_range : (one two : Place) → Covers (range_at one) two → range_at one ≡ range_at two
same_range one two is =
    let index : one.index ≡ two.index = omega (arith, is.low, is.high) in
    λ k. record { dir = is.dir k; first = index k; last = index k }

-- ---- the range put in

-- an uncovered place has no range at its own index, where ranges go forward
pub no_range_there : (items : List Item) (place : Place) → AreForward (ranges_in items) → is_uncovered (ranges_in items) place ≡ true → data_under (range_key (range_at place)) items ≡ None
no_range_there items place forward uncovered = go (data_under (range_key (range_at place)) items) refl
  where
    go : (o : Option (List ℕ)) → data_under (range_key (range_at place)) items ≡ o → data_under (range_key (range_at place)) items ≡ None
    go None e = e
    go (Some bytes) e =
        let range : LogRange = record { dir = place.dir; first = place.index; last = read_or 0 (range_of bytes) } in
        let there : Contains (ranges_in items) range = flat_map_in ranges_in_item items (range_key (range_at place), bytes) range (contains_under items (range_key (range_at place)) bytes e) (head_in range []) in
        let covered : is_covered (ranges_in items) place.dir place.index ≡ true = covered_from (ranges_in items) range place there (record { dir = refl; low = omega arith; high = forward range there }) in
        absurd (true≢false (sym uncovered ∙ ap not covered))

-- the ranges of the items are those that were there, and the new one
pub record HasRange (range : LogRange) (items new : List Item) : Type 0 where
  pub gives : (other : LogRange) → Contains (ranges_in new) other → (range ≡ other) ⊎ Contains (ranges_in items) other
  pub keeps : (other : LogRange) → Contains (ranges_in items) other → Contains (ranges_in new) other
  pub has : Contains (ranges_in new) range

pub has_range : (range : LogRange) (items : List Item) → range.last < 2 ^ 64 → ItemsRise items → data_under (range_key range) items ≡ None → HasRange range items (with_range range items)
has_range range items fits rise absent = record {
  gives = λ other c.
      let item = in_flat_map ranges_in_item (with_range range items) other c in
      elim (in_middle new front rest item.0 item.1) [
        | inl same ↦ inl (single other (subst (λ (l : List LogRange). Contains l other) (ap ranges_in_item (sym same) ∙ says_range range fits) item.2))
        | inr there ↦ inr (flat_map_in ranges_in_item items item.0 other (subst (λ (l : List Item). Contains l item.0) sides there) item.2)
      ];
  keeps = λ other c.
      let item = in_flat_map ranges_in_item items other c in
      flat_map_in ranges_in_item (with_range range items) item.0 other (middle_keeps new front rest item.0 (subst (λ (l : List Item). Contains l item.0) (sym sides) item.1)) item.2;
  has = flat_map_in ranges_in_item (with_range range items) new range (middle_has new front rest) (subst (λ (l : List LogRange). Contains l range) (sym (says_range range fits)) (head_in range []));
}
  where
    new : Item
    new = item_of range

    front : List Item
    front = lower (range_key range) items

    rest : List Item
    rest = upper (range_key range) items

    sides : front ++ rest ≡ items
    sides = both_sides (range_key range) items rise absent

    single : (other : LogRange) → Contains (range ∷ []) other → range ≡ other
    single other c = elim (in_cons range other [] c) [ inl same ↦ same | inr none ↦ absurd (in_nothing other none) ]

-- ---- places, one after the other

pub none_to_come : (places : List Place) (items : List Item) → ((place : Place) → Contains places place → is_uncovered (ranges_in items) place ≡ false) → with_places places items ≡ items
none_to_come [] items covered = refl
none_to_come (place ∷ places) items covered =
    ap (λ (b : Bool). with_places places (cond b (with_range (range_at place) items) items)) (covered place (head_in place places))
    ∙ none_to_come places items (λ other c. covered other (tail_in place other places c))

pub places_append : (one two : List Place) (items : List Item) → with_places (one ++ two) items ≡ with_places two (with_places one items)
places_append [] two items = refl
places_append (place ∷ one) two items = places_append one two (with_place place items)

-- the first uncovered place may come before all
pub first_comes : (places : List Place) (items : List Item) (place : Place) → find (is_uncovered (ranges_in items)) places ≡ Some place → HasRange (range_at place) items (with_range (range_at place) items)
    → with_places places (with_range (range_at place) items) ≡ with_places places items
first_comes [] items place found is = absurd cc
first_comes (x ∷ xs) items place found is = elim (cases_Bool (is_uncovered (ranges_in items) x)) [
  | inl here ↦
      let first : Some x ≡ Some place = sym (ap (λ (b : Bool). cond b (Some x) (find (is_uncovered (ranges_in items)) xs)) here) ∙ found in
      let same : x ≡ place = cc in
      let covered : is_uncovered (ranges_in new) x ≡ false = ap not (covered_from (ranges_in new) (range_at place) x is.has (subst (λ (p : Place). Covers (range_at place) p) (sym same) (covers_itself place))) in
      ap (λ (b : Bool). with_places xs (cond b (with_range (range_at x) new) new)) covered
      ∙ sym (ap (λ (b : Bool). with_places xs (cond b (with_range (range_at x) items) items)) here ∙ ap (λ (p : Place). with_places xs (with_range (range_at p) items)) same)
  | inr past ↦
      let covered : is_uncovered (ranges_in new) x ≡ false = stays_covered (ranges_in items) (ranges_in new) x is.keeps past in
      ap (λ (b : Bool). with_places xs (cond b (with_range (range_at x) new) new)) covered
      ∙ first_comes xs items place (sym (ap (λ (b : Bool). cond b (Some x) (find (is_uncovered (ranges_in items)) xs)) past) ∙ found) is
      ∙ sym (ap (λ (b : Bool). with_places xs (cond b (with_range (range_at x) items) items)) past)
]
  where
    new : List Item
    new = with_range (range_at place) items
