-- Lists cut at a place, and lists joined of one list for each element.
use Rattle.std.proofs.Common.{◌≡◌, ◌≤◌, ◌+◌, ℕ, zero, suc, List, [], ◌∷◌, ◌++◌, length, map, take, drop, slice_get, refl, ap, ◌∙◌, sym, subst, Some, arith}
use Rattle.std.specs.Prelude.{All}
use Rattle.std.specs.List.{flat_map}
use Rattle.std.proofs.lemmas.List.{append-nil}
use Rattle.std.proofs.lemmas.List.Concat.{flat_map-append}
use Rattle.std.proofs.lemmas.List.Elements.{All-head, All-tail}

-- the element at a place, what is in front of it and what is behind
pub record IsCut {X : Type 0} (xs : List X) (place : ℕ) (x : X) : Type 0 where
  pub whole : xs ≡ take place xs ++ x ∷ drop (place + 1) xs
  pub more : take (place + 1) xs ≡ take place xs ++ x ∷ []
  pub behind : drop place xs ≡ x ∷ drop (place + 1) xs

cut_suc : {X : Type 0} (xs : List X) (place : ℕ) (x : X) → slice_get xs place ≡ Some x → (take (suc place) xs ≡ take place xs ++ x ∷ []) × (drop place xs ≡ x ∷ drop (suc place) xs)
cut_suc [] place x h = absurd cc
cut_suc (y ∷ ys) zero x h = let same : y ≡ x = cc in (ap (λ z. z ∷ []) same, ap (λ z. z ∷ ys) same)
cut_suc (y ∷ ys) (suc place) x h =
    let rest = cut_suc ys place x h in
    (ap (λ l. y ∷ l) rest.0, rest.1)

pub take_and_drop : {X : Type 0} (xs : List X) (place : ℕ) → xs ≡ take place xs ++ drop place xs
take_and_drop [] zero = refl
take_and_drop [] (suc place) = refl
take_and_drop (x ∷ xs) zero = refl
take_and_drop (x ∷ xs) (suc place) = ap (λ l. x ∷ l) (take_and_drop xs place)

pub cut_at : {X : Type 0} (xs : List X) (place : ℕ) (x : X) → slice_get xs place ≡ Some x → IsCut xs place x
cut_at {X} xs place x h =
    let one : suc place ≡ place + 1 = omega arith in
    let parts = cut_suc xs place x h in
    let behind : drop place xs ≡ x ∷ drop (place + 1) xs = parts.1 ∙ ap (λ (n : ℕ). x ∷ drop n xs) one in
    record {
      whole = take_and_drop xs place ∙ ap (λ (l : List X). take place xs ++ l) behind;
      more = ap (λ (n : ℕ). take n xs) (sym one) ∙ parts.0;
      behind = behind;
    }

pub take_whole : {X : Type 0} (xs : List X) (place : ℕ) → length xs ≤ place → take place xs ≡ xs
take_whole [] zero h = refl
take_whole [] (suc place) h = refl
take_whole (x ∷ xs) zero h = absurd (omega arith)
take_whole (x ∷ xs) (suc place) h = ap (λ l. x ∷ l) (take_whole xs place (omega arith))

pub drop_whole : {X : Type 0} (xs : List X) (place : ℕ) → length xs ≤ place → drop place xs ≡ []
drop_whole [] zero h = refl
drop_whole [] (suc place) h = refl
drop_whole (x ∷ xs) zero h = absurd (omega arith)
drop_whole (x ∷ xs) (suc place) h = drop_whole xs place (omega arith)

-- of an element that is there holds what holds of all
pub all_at : {X : Type 0} (P : X → Type 0) (xs : List X) (place : ℕ) (x : X) → slice_get xs place ≡ Some x → All P xs → P x
all_at P [] place x h all = absurd cc
all_at P (y ∷ ys) zero x h all = let same : y ≡ x = cc in subst P same (All-head P y ys all)
all_at P (y ∷ ys) (suc place) x h all = all_at P ys place x h (All-tail P y ys all)

pub map_same : {X Y : Type 0} (f g : X → Y) (xs : List X) → All (λ x. f x ≡ g x) xs → map f xs ≡ map g xs
map_same f g [] h = refl
map_same f g (x ∷ xs) h =
    ap (λ y. y ∷ map f xs) (All-head (λ z. f z ≡ g z) x xs h) ∙ ap (λ l. g x ∷ l) (map_same f g xs (All-tail (λ z. f z ≡ g z) x xs h))

pub map_append : {X Y : Type 0} (f : X → Y) (xs ys : List X) → map f (xs ++ ys) ≡ map f xs ++ map f ys
map_append f [] ys = refl
map_append f (x ∷ xs) ys = ap (λ l. f x ∷ l) (map_append f xs ys)

-- the list joined of the elements in front of a place, and of one element more
pub joined_more : {X A : Type 0} (g : X → List A) (xs : List X) (place : ℕ) (x : X) → IsCut xs place x → flat_map g (take (place + 1) xs) ≡ flat_map g (take place xs) ++ g x
joined_more {X} {A} g xs place x cut =
    ap (flat_map g) cut.more ∙ flat_map-append g (take place xs) (x ∷ []) ∙ ap (λ (l : List A). flat_map g (take place xs) ++ l) (append-nil (g x))

pub joined_whole : {X A : Type 0} (g : X → List A) (xs : List X) (place : ℕ) (x : X) → IsCut xs place x → flat_map g xs ≡ flat_map g (take place xs) ++ (g x ++ flat_map g (drop (place + 1) xs))
joined_whole g xs place x cut = ap (flat_map g) cut.whole ∙ flat_map-append g (take place xs) (x ∷ drop (place + 1) xs)

pub joined_map : {X A : Type 0} (g h : X → List A) (f : X → X) (xs : List X) → All (λ x. g (f x) ≡ h x) xs → flat_map g (map f xs) ≡ flat_map h xs
joined_map g h f [] all = refl
joined_map g h f (x ∷ xs) all =
    ap (λ l. l ++ flat_map g (map f xs)) (All-head (λ y. g (f y) ≡ h y) x xs all) ∙ ap (λ l. h x ++ l) (joined_map g h f xs (All-tail (λ y. g (f y) ≡ h y) x xs all))
