-- Tests joined by and, or and not, where the whole is false; and filters over names that such tests leave out.
use Rattle.std.proofs.Common.{◌≡◌, Bool, true, false, ◌&&◌, ◌||◌, List, [], ◌∷◌, refl}
use Rattle.std.specs.Prelude.{All}
use Rattle.std.specs.List.{list_any}
use Rattle.std.proofs.lemmas.List.Elements.{All-cons, All-nil}

pub or_left : (a b : Bool) → (a || b) ≡ false → a ≡ false
or_left true b h = cc
or_left false b h = refl

pub or_right : (a b : Bool) → (a || b) ≡ false → b ≡ false
or_right true b h = cc
or_right false b h = h

pub and_right : (a b : Bool) → a ≡ true → (a && b) ≡ false → b ≡ false
and_right true b is h = h
and_right false b is h = cc

pub and_left : (a b : Bool) → b ≡ true → (a && b) ≡ false → a ≡ false
and_left true b is h = cc
and_left false b is h = refl

-- none of the elements passes the test
pub none_passes : {X : Type 0} (p : X → Bool) (xs : List X) → list_any p xs ≡ false → All (λ x. p x ≡ false) xs
none_passes p [] h = All-nil (λ x. p x ≡ false)
none_passes p (x ∷ xs) h = All-cons (λ y. p y ≡ false) x xs (or_left (p x) (list_any p xs) h) (none_passes p xs (or_right (p x) (list_any p xs) h))
