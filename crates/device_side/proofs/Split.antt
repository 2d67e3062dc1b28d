-- The blocks of parts, in front of a part, of it, and behind it.
use Rattle.std.proofs.Common.{◌≡◌, ◌<◌, ◌+◌, ◌++◌, ◌∷◌, [], ℕ, List, drop, length, take, Some, slice_get, sym, ap, ◌∙◌, append-nil}
use Rattle.std.specs.List.{flat_map}
use Rattle.std.proofs.lemmas.Grind.{flat_map-append}
use Rattle.std.proofs.lemmas.List.{take-append-drop, take_more}
use Rattle.std.proofs.lemmas.Option.{get_or_from_slice_get, slice_get_within}

-- a list joined of one for each element, cut at one of them
pub record IsSplit {X A : Type 0} (f : X → List A) (xs : List X) (place : ℕ) (x : X) : Type 0 where
  pub more : flat_map f (take (place + 1) xs) ≡ flat_map f (take place xs) ++ f x
  pub whole : flat_map f xs ≡ (flat_map f (take place xs) ++ f x) ++ flat_map f (drop (place + 1) xs)

pub split_at : {X A : Type 0} (f : X → List A) (xs : List X) (place : ℕ) (x : X) → slice_get xs place ≡ Some x → IsSplit f xs place x
split_at {X} {A} f xs place x is =
    let within : place < length xs = slice_get_within xs place x is in
    let next : take (place + 1) xs ≡ take place xs ++ x ∷ [] = take_more xs place x within ∙ ap (λ (y : X). take place xs ++ y ∷ []) (get_or_from_slice_get xs place x x is) in
    let more : flat_map f (take (place + 1) xs) ≡ flat_map f (take place xs) ++ f x =
    ap (flat_map f) next ∙ flat_map-append f (take place xs) (x ∷ []) ∙ ap (λ (l : List A). flat_map f (take place xs) ++ l) (append-nil (f x)) in
    record {
      more = more;
      whole = ap (flat_map f) (sym (take-append-drop (place + 1) xs)) ∙ flat_map-append f (take (place + 1) xs) (drop (place + 1) xs)
          ∙ ap (λ (l : List A). l ++ flat_map f (drop (place + 1) xs)) more;
    }
