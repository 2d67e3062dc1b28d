-- A map with each value changed.
use Rattle.std.proofs.Common.{◌≡◌, ℕ, true, false, cond, List, [], ◌∷◌, map, Option, Some, None, refl, sym, ap, ◌∙◌}
use Rattle.std.specs.Option.{option_map}
use Rattle.std.specs.Ordering.{nat_cmp, eq_by_cmp}
use Rattle.std.specs.Cmp.{nat_cmp_total}
use Rattle.std.specs.FinMap.{FinMap, get, entries, get-from_entries, get-entries, nat_cmp-IsAntisymmetric}
use Rattle.std.specs.FinMap.Entries.{find}
use Rattle.flat_model.proofs.Maps.{some_same, some_none}
use Rattle.commit_history.specs.State.{changed}

is_key : (q k : ℕ) → eq_by_cmp nat_cmp q k ≡ true → q ≡ k
is_key q k e = nat_cmp-IsAntisymmetric q k ((Rattle.std.specs.Cmp.Equal-is (nat_cmp q k)).0 e)

module _ {A B : Type 0} where
  find_changed : (change : ℕ → A → B) (es : List (ℕ × A)) (q : ℕ) → find nat_cmp q (map (λ (e : ℕ × A). (e.0, change e.0 e.1)) es) ≡ option_map (change q) (find nat_cmp q es)
  find_changed change [] q = refl
  find_changed change (e ∷ es) q =
      elim (eq_by_cmp nat_cmp q e.0) as (λ b. eq_by_cmp nat_cmp q e.0 ≡ b → cond b (Some (change e.0 e.1)) (find nat_cmp q (map (λ (e : ℕ × A). (e.0, change e.0 e.1)) es)) ≡ option_map (change q) (cond b (Some e.1) (find nat_cmp q es))) [
        | true ↦ λ same. ap (λ k. Some (change k e.1)) (sym (is_key q e.0 same))
        | false ↦ λ other. find_changed change es q
      ] refl

  -- what a changed map has at a key
  pub get_changed : (change : ℕ → A → B) (values : FinMap nat_cmp A) (q : ℕ) → get (changed change values) q ≡ option_map (change q) (get values q)
  get_changed change values q = get-from_entries nat_cmp_total _ q ∙ find_changed change (entries values) q ∙ ap (option_map (change q)) (sym (get-entries values q))

  -- what is there in a changed map was made of what was there before
  pub changed_there : (change : ℕ → A → B) (values : FinMap nat_cmp A) (q : ℕ) (new : B) → get (changed change values) q ≡ Some new → (old : A) × (get values q ≡ Some old) × (new ≡ change q old)
  changed_there change values q new there = made (get values q) (sym (get_changed change values q) ∙ there)
    where
      made : (o : Option A) → option_map (change q) o ≡ Some new → (old : A) × (o ≡ Some old) × (new ≡ change q old)
      made None e = absurd (some_none new (sym e))
      made (Some old) e = (old, refl, some_same new (change q old) (sym e))

  -- what is there before is there afterwards, changed
  pub changed_stays : (change : ℕ → A → B) (values : FinMap nat_cmp A) (q : ℕ) (old : A) → get values q ≡ Some old → get (changed change values) q ≡ Some (change q old)
  changed_stays change values q old there = get_changed change values q ∙ ap (option_map (change q)) there
