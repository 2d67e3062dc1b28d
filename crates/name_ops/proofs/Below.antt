-- What is left of two paths where one of them ends.
use Rattle.std.proofs.Common.{◌≡◌, ℕ, ◌<◌, ◌≤◌, ◌-◌, List, [], ◌∷◌, length, nat_lt, arith}
use Rattle.std.proofs.lemmas.Bool.{le-ltb, lt-ltb}
use Rattle.flat_model.specs.Walk.{is_below}

pub below_end : (upper lower : List (List ℕ)) (a b at : ℕ) → length upper ≡ a - at → length lower ≡ b - at → at ≤ a → at ≤ b → (at < a → at < b → ⊥) → nat_lt a b ≡ is_below upper lower
below_end [] [] a b at long short within below ends = le-ltb a b (omega (arith, long, short))
below_end [] (name ∷ lower) a b at long short within below ends = lt-ltb a b (omega (arith, long, short))
below_end (one ∷ upper) [] a b at long short within below ends = le-ltb a b (omega (arith, long, short))
below_end (one ∷ upper) (name ∷ lower) a b at long short within below ends = absurd (ends (omega (arith, long)) (omega (arith, short)))
