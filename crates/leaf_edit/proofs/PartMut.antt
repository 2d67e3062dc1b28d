use Rattle.std.proofs.Common.{◌≡◌, ◌≤◌, ◌+◌, ℕ, List, ◌++◌, length, take, drop, ap}
use Rattle.std.proofs.lemmas.List.{take_at}
use Rattle.leaf_edit.specs.Written.{with_part}

pub with_part_is : {A : Type 0} (xs : List A) (start size : ℕ) (ws : List A) → start + size ≤ length xs → length ws ≡ size
    → with_part xs start size ws ≡ take start xs ++ (ws ++ drop size (drop start xs))
unfolding with_part
with_part_is xs start size ws within long =
    ap (λ m. take start xs ++ (m ++ drop size (drop start xs))) (take_at ws (drop (start + length ws) xs) size long)
