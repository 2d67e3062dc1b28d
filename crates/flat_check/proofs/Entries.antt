-- What holds of each entry of a list in rising order holds of what its map has.
use Rattle.std.proofs.Common.{◌≡◌, ℕ, zero, suc, ◌<◌, true, false, cond, List, [], ◌∷◌, length, get_or, Some, refl, sym, ap, subst, ◌∙◌, arith}
use Rattle.std.specs.Ordering.{nat_cmp, eq_by_cmp, is_lt}
use Rattle.std.specs.Cmp.{nat_cmp_total, tied_itself, unsigned_tied}
use Rattle.std.specs.List.{AllWithin, HoldsAt}
use Rattle.std.specs.FinMap.{get, from_entries, get-from_entries}
use Rattle.std.specs.FinMap.Entries.{find, below_all, is_sorted}
use Rattle.std.proofs.lemmas.Bool.{true≢false, and_parts, eqb-true, eq-eqb, ne_eqb}
use Rattle.flat_model.proofs.Maps.{some_same, some_none}

module _ {X : Type 0} where
  below_apart : (ino : ℕ) (entries : List (ℕ × X)) (k : ℕ) (d : ℕ × X) → below_all nat_cmp ino entries ≡ true → k < length entries → eq_by_cmp nat_cmp (get_or entries k d).0 ino ≡ false
  below_apart ino [] k d below within = absurd (omega arith)
  below_apart ino (entry ∷ entries) zero d below within =
      let less = (and_parts _ _ below).0 in
      unsigned_tied entry.0 ino ∙ ne_eqb entry.0 ino (λ same. true≢false (sym less ∙ ap (λ n. is_lt (nat_cmp ino n)) same ∙ ap is_lt (tied_itself nat_cmp_total ino)))
  below_apart ino (entry ∷ entries) (suc k) d below within = below_apart ino entries k d (and_parts _ _ below).1 (omega arith)

  found_at : (entries : List (ℕ × X)) (k : ℕ) (d : ℕ × X) → is_sorted nat_cmp entries ≡ true → k < length entries → find nat_cmp (get_or entries k d).0 entries ≡ Some (get_or entries k d).1
  found_at [] k d rise within = absurd (omega arith)
  found_at (entry ∷ entries) zero d rise within =
      ap (λ b. cond b (Some entry.1) (find nat_cmp entry.0 entries)) (unsigned_tied entry.0 entry.0 ∙ eq-eqb entry.0 entry.0 refl)
  found_at (entry ∷ entries) (suc k) d rise within =
      let parts = and_parts _ _ rise in
      ap (λ b. cond b (Some entry.1) (find nat_cmp (get_or entries k d).0 entries)) (below_apart entry.0 entries k d parts.0 (omega arith)) ∙ found_at entries k d parts.1 (omega arith)

module _ {X : Type 0} (P : ℕ → X → Type 0) where
  abbrev pub EntryHolds : ℕ × X → Type 0
  EntryHolds entry = P entry.0 entry.1

  abbrev pub EntryFails : ℕ × X → Type 0
  EntryFails entry = P entry.0 entry.1 → ⊥

  holds_where_found : (entries : List (ℕ × X)) (ino : ℕ) (x : X) → AllWithin EntryHolds entries 0 (length entries) → find nat_cmp ino entries ≡ Some x → P ino x
  holds_where_found [] ino x all is = absurd (some_none x (sym is))
  holds_where_found (entry ∷ entries) ino x all is =
      elim (eq_by_cmp nat_cmp ino entry.0) as (λ b. eq_by_cmp nat_cmp ino entry.0 ≡ b → cond b (Some entry.1) (find nat_cmp ino entries) ≡ Some x → P ino x) [
        | true ↦ λ tied same.
            let here : P entry.0 entry.1 = all 0 entry (omega arith) (omega arith) in
            subst (λ k. P k x) (sym (eqb-true ino entry.0 (sym (unsigned_tied ino entry.0) ∙ tied))) (subst (P entry.0) (some_same entry.1 x same) here)
        | false ↦ λ apart later. holds_where_found entries ino x (λ k d low high. all (suc k) d (omega arith) (omega arith)) later
      ] refl is

  pub each_entry_holds : (entries : List (ℕ × X)) → AllWithin EntryHolds entries 0 (length entries) → (ino : ℕ) (x : X) → get (from_entries {R = nat_cmp} entries) ino ≡ Some x → P ino x
  each_entry_holds entries all ino x is = holds_where_found entries ino x all (sym (get-from_entries nat_cmp_total entries ino) ∙ is)

  pub one_entry_fails : (entries : List (ℕ × X)) (k : ℕ) → is_sorted nat_cmp entries ≡ true → k < length entries → HoldsAt EntryFails entries k → ((ino : ℕ) (x : X) → get (from_entries {R = nat_cmp} entries) ino ≡ Some x → P ino x) → ⊥
  one_entry_fails [] k rise within fails each = omega arith
  one_entry_fails (entry ∷ entries) k rise within fails each =
      let at : ℕ × X = get_or (entry ∷ entries) k entry in
      fails entry (each at.0 at.1 (get-from_entries nat_cmp_total (entry ∷ entries) at.0 ∙ found_at (entry ∷ entries) k entry rise within))
