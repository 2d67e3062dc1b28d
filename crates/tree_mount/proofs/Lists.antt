-- Elements of lists, and what is told.
use Rattle.std.proofs.Common.{◌≡◌, ◌≤◌, ◌<◌, ◌+◌, ◌++◌, ℕ, suc, List, [], ◌∷◌, length, take, drop, slice_get, Contains, Some, Result, Ok, Err, IfErr, sym, subst, inl, inr}
use Rattle.std.specs.Prelude.{All, slice_index_or}
use Rattle.std.specs.List.{AllByRecursion}
use Rattle.std.proofs.lemmas.List.Elements.{All-from_recursion, Contains-append_cases, Contains-get_or}
use Rattle.std.proofs.lemmas.Option.{slice_get-get_or}
use Rattle.tree_range.proofs.Cuts.{cut_at}
use Rattle.tree_check.proofs.Places.{to_end, to_here}
use Rattle.volume_image.proofs.Lists.{in_cons, in_nothing}
use Rattle.volume_image.proofs.Reaches.{head_in, tail_in}

-- what holds of each element that a list has
in_each : {X : Type 0} (P : X → Type 0) (xs : List X) → ((x : X) → Contains xs x → P x) → AllByRecursion P xs
in_each P [] h = tt
in_each P (x ∷ xs) h = (h x (head_in x xs), in_each P xs (λ y c. h y (tail_in x y xs c)))

pub all_of : {X : Type 0} (P : X → Type 0) (xs : List X) → ((x : X) → Contains xs x → P x) → All P xs
all_of P xs h = All-from_recursion P xs (in_each P xs h)

pub each_joined : {X : Type 0} (P : X → Type 0) (xs ys : List X) → ((x : X) → Contains xs x → P x) → ((x : X) → Contains ys x → P x) → (x : X) → Contains (xs ++ ys) x → P x
each_joined P xs ys one two x c = elim (Contains-append_cases xs ys x c) [ inl here ↦ one x here | inr there ↦ two x there ]

pub each_alone : {X : Type 0} (P : X → Type 0) (x : X) → P x → (y : X) → Contains (x ∷ []) y → P y
each_alone P x p y c = elim (in_cons x y [] c) [ inl here ↦ subst P here p | inr none ↦ absurd (in_nothing y none) ]

-- the element at a place of a list
pub placed : {X : Type 0} (xs : List X) (place : ℕ) (d : X) → place < length xs → slice_get xs place ≡ Some (slice_index_or xs place d)
placed xs place d inside = slice_get-get_or xs place d inside

pub one_more : {X : Type 0} (xs : List X) (place : ℕ) (d : X) → place < length xs → take (place + 1) xs ≡ take place xs ++ slice_index_or xs place d ∷ []
one_more xs place d inside = to_here xs place (slice_index_or xs place d) (placed xs place d inside)

pub cut_here : {X : Type 0} (xs : List X) (place : ℕ) (d : X) → place < length xs → xs ≡ take place xs ++ ((slice_index_or xs place d ∷ []) ++ drop (suc place) xs)
cut_here xs place d inside = cut_at xs place (slice_index_or xs place d) (placed xs place d inside)

pub all_there : {X : Type 0} (xs : List X) (place : ℕ) → length xs ≤ place → take place xs ≡ xs
all_there xs place past = to_end xs place past

-- one more of the elements in front of a place
pub each_more : {X : Type 0} (P : X → Type 0) (xs : List X) (place : ℕ) (d : X) → place < length xs → ((x : X) → Contains (take place xs) x → P x) → P (slice_index_or xs place d) → (x : X) → Contains (take (place + 1) xs) x → P x
each_more P xs place d inside before here x c = each_joined P (take place xs) (slice_index_or xs place d ∷ []) before (each_alone P (slice_index_or xs place d) here) x (subst (λ (l : List _). Contains l x) (one_more xs place d inside) c)

pub each_whole : {X : Type 0} (P : X → Type 0) (xs : List X) (place : ℕ) → length xs ≤ place → ((x : X) → Contains (take place xs) x → P x) → (x : X) → Contains xs x → P x
each_whole P xs place past each x c = each x (subst (λ (l : List _). Contains l x) (sym (all_there xs place past)) c)

pub if_err : {T E : Type 0} (P Q : E → Type 0) (r : Result T E) → ((e : E) → P e → Q e) → IfErr r P → IfErr r Q
if_err P Q (Ok x) f h = tt
if_err P Q (Err e) f h = f e h

-- what holds of each element holds of the one at a place
pub at_place : {X : Type 0} (P : X → Type 0) (xs : List X) (place : ℕ) (d : X) → place < length xs → ((x : X) → Contains xs x → P x) → P (slice_index_or xs place d)
at_place P xs place d inside each = each (slice_index_or xs place d) (Contains-get_or xs place d inside)
