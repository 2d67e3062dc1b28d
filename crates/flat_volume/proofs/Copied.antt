-- A volume's subvolumes, copied one behind the other.
use Rattle.std.proofs.Common.{◌≡◌, ℕ, suc, ◌+◌, ◌<◌, ◌≤◌, List, [], ◌∷◌, ◌++◌, length, get_or, take, sym, ap, ◌∙◌, arith, take_all}
use Rattle.std.specs.List.{All}
use Rattle.std.specs.Ordering.{nat_cmp}
use Rattle.std.specs.FinMap.{is_sorted}
use Rattle.std.proofs.Math.Seq.{take-suc}
use Rattle.flat_model.specs.Volume.{RunSub}
use Rattle.flat_sub.specs.declared.sub.FlatSub.{FlatSub}
use Rattle.flat_sub.specs.View.{sub_view, IsWellKept}
use Rattle.flat_volume.specs.View.{AreWellKept}
use Rattle.flat_volume.proofs.Bare.{seen, seen_push}
use Rattle.flat_volume.proofs.Kept.{rising_seen, length_seen}

after : (n : ℕ) → suc n ≡ n + 1
after n = omega arith

-- one subvolume more
pub copied_more : (all made : List (ℕ × FlatSub)) (n : ℕ) (entry : ℕ × FlatSub) (copy : FlatSub) → n < length all → entry ≡ get_or all n entry → sub_view copy ≡ sub_view entry.1
    → seen made ≡ seen (take n all) → seen (made ++ (entry.0, copy) ∷ []) ≡ seen (take (n + 1) all)
copied_more all made n entry copy within is view before =
    seen_push made (entry.0, copy)
    ∙ (λ i. before i ++ (entry.0, view i) ∷ [])
    ∙ sym (seen_push (take n all) entry)
    ∙ ap (λ (last : ℕ × FlatSub). seen (take n all ++ last ∷ [])) is
    ∙ ap seen (sym (take-suc all n entry within))
    ∙ ap (λ (k : ℕ). seen (take k all)) (after n)

pub copied_all : (all made : List (ℕ × FlatSub)) (n : ℕ) → length all ≤ n → seen made ≡ seen (take n all) → seen made ≡ seen all
copied_all all made n past before = before ∙ ap seen (take_all n all past)

pub copied_kept : (all made : List (ℕ × FlatSub)) → AreWellKept all → seen made ≡ seen all → All (λ (e : ℕ × FlatSub). IsWellKept e.1) made → AreWellKept made
copied_kept all made kept same each = record {
  each = each;
  numbers_rise = sym (rising_seen made) ∙ ap (is_sorted nat_cmp) same ∙ rising_seen all ∙ kept.numbers_rise;
  few = omega (arith, kept.few, sym (length_seen made) ∙ ap (length {A = ℕ × RunSub}) same ∙ length_seen all);
}
