-- The first element that passes a test.
use Rattle.std.proofs.Common.{◌≡◌, Bool, true, List, Contains, Option, Some, None, refl, sym, ap, ◌∙◌}
use Rattle.std.proofs.lemmas.Bool.{true≢false}
use Rattle.std.specs.List.{find}
use Rattle.flat_model.proofs.Ways.{find_some, find_none}

-- what passes stands first where nothing else does
pub find_one : {X : Type 0} (p : X → Bool) (xs : List X) (x : X) → Contains xs x → p x ≡ true → ((y : X) → Contains xs y → p y ≡ true → y ≡ x) → find p xs ≡ Some x
find_one {X} p xs x c h one = go (find p xs) refl
  where
    go : (o : Option X) → find p xs ≡ o → find p xs ≡ Some x
    go None is = absurd (true≢false (sym h ∙ find_none p xs is x c))
    go (Some y) is = let found = find_some p xs y is in is ∙ ap Some (one y found.0 found.1)

-- where nothing passes there is none
pub find_nothing : {X : Type 0} (p : X → Bool) (xs : List X) → ((y : X) → Contains xs y → p y ≡ true → ⊥) → find p xs ≡ None
find_nothing {X} p xs never = go (find p xs) refl
  where
    go : (o : Option X) → find p xs ≡ o → find p xs ≡ None
    go None is = is
    go (Some y) is = let found = find_some p xs y is in absurd (never y found.0 found.1)
