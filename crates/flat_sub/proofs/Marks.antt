-- The greatest indexes of directories, once an index more has been counted.
use Rattle.std.proofs.Common.{◌≡◌, ℕ, ◌≤◌, max, Bool, true, false, cond, [], Some, ap, sym, subst, ◌∙◌, arith}
use Rattle.std.specs.Ordering.{nat_cmp, eq_by_cmp}
use Rattle.std.specs.Option.{unwrap_or}
use Rattle.std.specs.Cmp.{nat_cmp_total}
use Rattle.std.specs.FinMap.{FinMap, get, insert, from_entries, get-insert, get-empty}
use Rattle.flat_sub.specs.declared.sub.FlatSub.{FlatSub}
use Rattle.flat_sub.specs.View.{IsWellKept}

-- the greatest index that a directory has had, 1 where it has had none
abbrev pub last_in : FinMap nat_cmp ℕ → ℕ → ℕ
last_in indexes dir = unwrap_or (get indexes dir) 1

-- no directory has had an index above the greatest of all, and 1 stands for none
pub record AreMarked (indexes : FinMap nat_cmp ℕ) (last : ℕ) : Type 0 where
  pub covered : (dir : ℕ) → last_in indexes dir ≤ last
  pub least : 1 ≤ last
  pub each_least : (dir : ℕ) → 1 ≤ last_in indexes dir

-- one index more
pub marked_more : (old new : FinMap nat_cmp ℕ) (dir index last greatest after : ℕ) → AreMarked old last → new ≡ insert old dir greatest → greatest ≡ max (last_in old dir) index → after ≡ max last index → AreMarked new after
marked_more old new dir index last greatest after before new_is greatest_is after_is = record {
  covered = λ d. both d (λ k. k ≤ after) (omega (arith, greatest_is, after_is, before.covered dir)) (omega (arith, after_is, before.covered d));
  least = omega (arith, after_is, before.least);
  each_least = λ d. both d (λ k. 1 ≤ k) (omega (arith, greatest_is, before.each_least dir)) (before.each_least d);
}
  where
    there : (d : ℕ) → last_in new d ≡ unwrap_or (cond (eq_by_cmp nat_cmp d dir) (Some greatest) (get old d)) 1
    there d = ap (λ m. last_in m d) new_is ∙ ap (λ o. unwrap_or o 1) (get-insert nat_cmp_total old dir greatest d)

    split : (b : Bool) (d : ℕ) (P : ℕ → Type 0) → P greatest → P (last_in old d) → P (unwrap_or (cond b (Some greatest) (get old d)) 1)
    split true d P here other = here
    split false d P here other = other

    both : (d : ℕ) (P : ℕ → Type 0) → P greatest → P (last_in old d) → P (last_in new d)
    both d P here other = subst P (sym (there d)) (split (eq_by_cmp nat_cmp d dir) d P here other)

-- no index at all
pub marked_none : (d : ℕ) → last_in (from_entries []) d ≡ 1
marked_none d = ap (λ o. unwrap_or o 1) (get-empty nat_cmp d)

pub marked_of : (sub : FlatSub) → IsWellKept sub → AreMarked (from_entries sub.dir_indexes.items) sub.last_index
marked_of sub kept = record { covered = kept.covered; least = kept.least; each_least = kept.each_least }
