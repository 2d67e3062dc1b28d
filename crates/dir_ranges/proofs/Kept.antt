-- What is left of a list without the elements of a kind.
use Rattle.std.proofs.Common.{◌≡◌, ◌++◌, ◌∙◌, Bool, true, false, not, cond, List, [], ◌∷◌, Option, Some, filter, flat_map, find, refl, sym, ap, ap₂}
use Rattle.std.proofs.lemmas.List.Elements.{filter-append}
use Rattle.flat_model.proofs.Lists.{filter_keeps, filter_swaps}
use Rattle.volume_image.proofs.Members.{in_filter}

-- what the elements that aren't of a kind say is what is left without what those of it say
pub flat_map_kept : {X Y : Type 0} (f : X → List Y) (p : X → Bool) (q : Y → Bool) (xs : List X) → ((x : X) → filter q (f x) ≡ cond (p x) [] (f x))
    → filter q (flat_map f xs) ≡ flat_map f (filter (λ x. not (p x)) xs)
flat_map_kept f p q [] each = refl
flat_map_kept {X} {Y} f p q (x ∷ xs) each =
    filter-append q (f x) (flat_map f xs) ∙ ap₂ (λ (a b : List Y). a ++ b) (each x) (flat_map_kept f p q xs each) ∙ last (p x)
  where
    last : (b : Bool) → cond b [] (f x) ++ flat_map f (filter (λ y. not (p y)) xs) ≡ flat_map f (cond (not b) (x ∷ filter (λ y. not (p y)) xs) (filter (λ y. not (p y)) xs))
    last true = refl
    last false = refl

-- where those of the kind say nothing, all is said by the others
pub flat_map_others : {X Y : Type 0} (f : X → List Y) (p : X → Bool) (xs : List X) → ((x : X) → p x ≡ true → f x ≡ []) → flat_map f (filter (λ x. not (p x)) xs) ≡ flat_map f xs
flat_map_others f p [] silent = refl
flat_map_others {X} {Y} f p (x ∷ xs) silent = go (flat_map_others f p xs silent) (p x) refl
  where
    go : flat_map f (filter (λ y. not (p y)) xs) ≡ flat_map f xs → (b : Bool) → p x ≡ b → flat_map f (cond (not b) (x ∷ filter (λ y. not (p y)) xs) (filter (λ y. not (p y)) xs)) ≡ f x ++ flat_map f xs
    go rest true e = rest ∙ sym (ap (λ (ys : List Y). ys ++ flat_map f xs) (silent x e))
    go rest false e = ap (λ (ys : List Y). f x ++ ys) rest

-- what is found among the elements that aren't of a kind
pub find_kept : {X : Type 0} (r p : X → Bool) (xs : List X) → ((x : X) → r x ≡ true → p x ≡ false) → find r (filter (λ x. not (p x)) xs) ≡ find r xs
find_kept r p [] apart = refl
find_kept {X} r p (x ∷ xs) apart = go (find_kept r p xs apart) (p x) refl (r x) refl
  where
    go : find r (filter (λ y. not (p y)) xs) ≡ find r xs → (b : Bool) → p x ≡ b → (c : Bool) → r x ≡ c → find r (cond (not b) (x ∷ filter (λ y. not (p y)) xs) (filter (λ y. not (p y)) xs)) ≡ cond c (Some x) (find r xs)
    go rest true eb true ec = let wrong : true ≡ false = sym eb ∙ apart x ec in absurd cc
    go rest true eb false ec = rest
    go rest false eb c ec = ap (λ (o : Bool). cond o (Some x) (find r (filter (λ y. not (p y)) xs))) ec ∙ ap (λ (o : Option X). cond c (Some x) o) rest

pub filter_kept : {X : Type 0} (r p : X → Bool) (xs : List X) → ((x : X) → r x ≡ true → p x ≡ false) → filter r (filter (λ x. not (p x)) xs) ≡ filter r xs
filter_kept {X} r p xs apart =
    filter_swaps r (λ x. not (p x)) xs
    ∙ filter_keeps (λ x. not (p x)) (filter r xs) (λ y c. ap not (apart y (in_filter r xs y c).1))
