-- Facts on the bytes that names take in an item.
use Rattle.std.proofs.Common.{◌≡◌, ℕ, ◌+◌, ◌<◌, min, Bool, true, false, cond, not, List, [], ◌∷◌, drop, refl, sym, ap, ◌∙◌, arith, inl, inr}
use Rattle.std.specs.Bool.{nat_le, nat_lt}
use Rattle.std.specs.List.{filter, sum_by}
use Rattle.std.proofs.lemmas.Bool.{cases_lt, le-leb, lt-leb, leb-false, leb-true, lt-ltb, le-ltb}
use Rattle.std.proofs.lemmas.List.Sums.{sum_by-cons}
use Rattle.flat_sub.specs.declared.list.Item.TheVariants as items
use Rattle.flat_model.specs.Names.{FlatName}
use Rattle.flat_model.specs.Lengths.{ref_length, extref_length, entry_length, ref_item_length, extref_item_length, dir_item_length}
use Rattle.flat_sub.specs.Lists.{share_of}

sum_kept : (f : FlatName → ℕ) (p : FlatName → Bool) (names : List FlatName) → sum_by f (filter p names) ≡ sum_by (λ (n : FlatName). cond (p n) (f n) 0) names
sum_kept f p [] = refl
sum_kept f p (n ∷ names) =
    let rest = sum_kept f p names in
    let others : List FlatName = filter p names in
    let sums : ℕ = sum_by (λ (n : FlatName). cond (p n) (f n) 0) names in
    let here : sum_by f (cond (p n) (n ∷ others) others) ≡ cond (p n) (f n) 0 + sums = elim (p n) as (λ b. sum_by f (cond b (n ∷ others) others) ≡ cond b (f n) 0 + sums) [ true ↦ omega (arith, rest, sum_by-cons f n others) | false ↦ omega (arith, rest) ] in
    here ∙ sym (sum_by-cons (λ (n : FlatName). cond (p n) (f n) 0) n names)

pub ref_share : (names : List FlatName) (ino dir : ℕ) → ref_item_length names ino dir ≡ sum_by (share_of (items.Ref ino dir)) names
unfolding ref_item_length
ref_share names ino dir = sum_kept ref_length _ names

pub extref_share : (names : List FlatName) (ino hash : ℕ) → extref_item_length names ino hash ≡ sum_by (share_of (items.Extref ino hash)) names
unfolding extref_item_length
extref_share names ino hash = sum_kept extref_length _ names

pub entry_share : (names : List FlatName) (dir hash : ℕ) → dir_item_length names dir hash ≡ sum_by (share_of (items.Entry dir hash)) names
unfolding dir_item_length
entry_share names dir hash = sum_kept entry_length _ names

-- a sum that stops at the greatest number, one more addend on
pub sum_step : (f : FlatName → ℕ) (sum top : ℕ) (all : List FlatName) (at : ℕ) (name : FlatName) (rest : List FlatName) (whole : ℕ) → drop at all ≡ name ∷ rest → min (sum + sum_by f (drop at all)) top ≡ whole → min (min (sum + f name) top + sum_by f rest) top ≡ whole
sum_step f sum top all at name rest whole is before =
    let here = ap (sum_by f) is in
    let cons = sum_by-cons f name rest in
    omega (arith, here, cons, before)

-- a test of a sum that stopped at the greatest number
pub test_sum : (sum top whole most : ℕ) → min sum top ≡ min whole top → most < top → nat_le sum most ≡ nat_le whole most
test_sum sum top whole most is below =
    elim (cases_lt most whole) [
      | inl above ↦ lt-leb sum most (omega (arith, is, below, above)) ∙ sym (lt-leb whole most above)
      | inr within ↦ le-leb sum most (omega (arith, is, below, within)) ∙ sym (le-leb whole most within)
    ]

pub exceeds : (a b : ℕ) → nat_le a b ≡ false → nat_lt b a ≡ true
exceeds a b e = lt-ltb b a (leb-false a b e)

pub fits_in : (a b : ℕ) → nat_le a b ≡ true → nat_lt b a ≡ false
fits_in a b e = le-ltb b a (leb-true a b e)

pub not_within : (a b : ℕ) → not (nat_le a b) ≡ nat_lt b a
not_within a b =
    elim (nat_le a b) as (λ t. nat_le a b ≡ t → not t ≡ nat_lt b a) [ true ↦ λ e. sym (fits_in a b e) | false ↦ λ e. sym (exceeds a b e) ] refl
