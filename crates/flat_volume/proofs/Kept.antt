-- What holds of a volume's subvolumes, after an edit of one and in a bare volume.
use Rattle.std.proofs.Common.{◌≡◌, ℕ, zero, suc, ◌<◌, ◌≤◌, ◌+◌, true, ◌&&◌, List, [], ◌∷◌, map, set, length, get_or, Some, refl, sym, ap, subst, ◌∙◌, arith}
use Rattle.std.specs.Ordering.{nat_cmp, is_lt}
use Rattle.std.specs.declared.cmp.Ordering.TheVariants.{Less}
use Rattle.std.specs.Cmp.{nat_cmp_is}
use Rattle.std.specs.List.{position, range_with_len}
use Rattle.std.specs.Bool.{◌==◌}
use Rattle.std.specs.FinMap.{is_sorted}
use Rattle.std.specs.FinMap.Entries.{below_all}
use Rattle.std.proofs.lemmas.Bool.{and_from}
use Rattle.std.proofs.lemmas.List.Elements.{All-set}
use Rattle.flat_sub.specs.declared.sub.FlatSub.{FlatSub}
use Rattle.flat_sub.specs.View.{IsWellKept}
use Rattle.flat_volume.specs.View.{AreWellKept}
use Rattle.flat_record.proofs.Tables.{position_below}
use Rattle.flat_volume.proofs.Bare.{seen, listed, bare_entry}

-- whether the numbers rise depends on the numbers alone
below_set : {X : Type 0} (k : ℕ) (es : List (ℕ × X)) (i : ℕ) (lent : ℕ × X) (new : X) → lent ≡ get_or es i lent → below_all nat_cmp k (set es i (lent.0, new)) ≡ below_all nat_cmp k es
below_set k [] i lent new is = refl
below_set k (e ∷ es) zero lent new is = ap (λ (x : ℕ). is_lt (nat_cmp k x) && below_all nat_cmp k es) (ap (λ p. p.0) is)
below_set k (e ∷ es) (suc i) lent new is = ap (λ b. is_lt (nat_cmp k e.0) && b) (below_set k es i lent new is)

pub rising_set : {X : Type 0} (es : List (ℕ × X)) (i : ℕ) (lent : ℕ × X) (new : X) → lent ≡ get_or es i lent → is_sorted nat_cmp (set es i (lent.0, new)) ≡ is_sorted nat_cmp es
rising_set [] i lent new is = refl
rising_set (e ∷ es) zero lent new is = ap (λ (x : ℕ). below_all nat_cmp x es && is_sorted nat_cmp es) (ap (λ p. p.0) is)
rising_set (e ∷ es) (suc i) lent new is = λ j. below_set e.0 es i lent new is j && rising_set es i lent new is j

length_set : {X : Type 0} (es : List X) (i : ℕ) (x : X) → length (set es i x) ≡ length es
length_set [] i x = refl
length_set (e ∷ es) zero x = refl
length_set (e ∷ es) (suc i) x = ap suc (length_set es i x)

-- another subvolume in place of one
pub kept_set : (subs : List (ℕ × FlatSub)) (i key : ℕ) (lent : ℕ × FlatSub) (new : FlatSub) → position (λ (e : ℕ × FlatSub). e.0 == key) subs ≡ Some i → lent ≡ get_or subs i lent → (IsWellKept lent.1 → IsWellKept new) → AreWellKept subs → AreWellKept (set subs i (lent.0, new))
kept_set subs i key lent new at is keeps kept = record {
  each = All-set (λ (e : ℕ × FlatSub). IsWellKept e.1) subs i (lent.0, new) (keeps (subst (λ (e : ℕ × FlatSub). IsWellKept e.1) (sym is) (kept.each i lent (position_below _ subs i at)))) kept.each;
  numbers_rise = rising_set subs i lent new is ∙ kept.numbers_rise;
  few = omega (arith, kept.few, length_set subs i (lent.0, new));
}

-- the subvolumes of a bare volume rise by their numbers
below_seen : (k : ℕ) (made : List (ℕ × FlatSub)) → below_all nat_cmp k (seen made) ≡ below_all nat_cmp k made
below_seen k [] = refl
below_seen k (e ∷ made) = ap (λ b. is_lt (nat_cmp k e.0) && b) (below_seen k made)

pub rising_seen : (made : List (ℕ × FlatSub)) → is_sorted nat_cmp (seen made) ≡ is_sorted nat_cmp made
rising_seen [] = refl
rising_seen (e ∷ made) = λ j. below_seen e.0 made j && rising_seen made j

below_range : (k a n : ℕ) → k < a → below_all nat_cmp k (map bare_entry (range_with_len a n)) ≡ true
below_range k a zero low = refl
below_range k a (suc n) low = and_from _ _ (ap is_lt (sym (nat_cmp_is k a Less low))) (below_range k (a + 1) n (omega (arith, low)))

rising_range : (a n : ℕ) → is_sorted nat_cmp (map bare_entry (range_with_len a n)) ≡ true
rising_range a zero = refl
rising_range a (suc n) = and_from _ _ (below_range a (a + 1) n (omega arith)) (rising_range (a + 1) n)

rising_listed : (count : ℕ) → is_sorted nat_cmp (listed count) ≡ true
rising_listed zero = refl
rising_listed (suc count) = and_from _ _ (below_range 5 256 count (omega arith)) (rising_range 256 count)

pub length_seen : (made : List (ℕ × FlatSub)) → length (seen made) ≡ length made
length_seen [] = refl
length_seen (e ∷ made) = ap suc (length_seen made)

length_range : (a n : ℕ) → length (map bare_entry (range_with_len a n)) ≡ n
length_range a zero = refl
length_range a (suc n) = ap suc (length_range (a + 1) n)

length_listed : (count : ℕ) → length (listed count) ≡ count
length_listed zero = refl
length_listed (suc count) = ap suc (length_range 256 count)

pub bare_kept : (made : List (ℕ × FlatSub)) (count : ℕ) → seen made ≡ listed count → Rattle.std.specs.List.All (λ (e : ℕ × FlatSub). IsWellKept e.1) made → count ≤ 16 → AreWellKept made
bare_kept made count is each low = record {
  each = each;
  numbers_rise = sym (rising_seen made) ∙ ap (is_sorted nat_cmp) is ∙ rising_listed count;
  few = omega (arith, sym (length_seen made) ∙ ap length is ∙ length_listed count, low);
}
