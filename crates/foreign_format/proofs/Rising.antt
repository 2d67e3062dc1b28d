-- Keys that rise, one after another.
use Rattle.std.proofs.Common.{◌≡◌, ◌+◌, ℕ, suc, zero, Bool, ◌&&◌, map, refl, ap, ◌∙◌, sym}
use Rattle.std.specs.List.{list_all, range_with_len}
use Rattle.blk_base.specs.declared.key.Key.{Key}
use Rattle.blk_base.specs.Keys.{key_below, keys_rise}

-- the keys at the places from a on rise where each is above the one before it
pub keys_rise-map : (f : ℕ → Key) (g : ℕ → Bool) → ((i : ℕ) → g (i + 1) ≡ key_below (f i) (f (i + 1))) → (a n : ℕ)
    → keys_rise (map f (range_with_len a (suc n))) ≡ list_all g (range_with_len (a + 1) n)
keys_rise-map f g same a zero = refl
keys_rise-map f g same a (suc n) = ap (λ b. b && keys_rise (map f (range_with_len (a + 1) (suc n)))) (sym (same a)) ∙ ap (λ b. g (a + 1) && b) (keys_rise-map f g same (a + 1) n)
