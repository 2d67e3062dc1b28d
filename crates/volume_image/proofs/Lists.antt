-- Lists: what stands in them, and maps with nothing in them.
use Rattle.std.proofs.Common.{◌≡◌, ◌<◌, ◌⊎◌, ℕ, zero, suc, List, [], ◌∷◌, length, get_or, Contains, All, ◌++◌, Ordering, refl, sym, ◌∙◌, inl, inr, arith, le_of_suc-le-suc}
use Rattle.std.proofs.lemmas.List.Elements.{All-nil, All-cons, All-head, All-tail}
use Rattle.std.specs.FinMap.{entries, empty, len-entries, len-empty}

-- nothing stands in the empty list
pub in_nothing : {X : Type 0} (x : X) → Contains [] x → ⊥
in_nothing x c = let h = c.1 in omega arith

-- what stands in a list is its head or stands in its tail
pub in_cons : {X : Type 0} (x y : X) (xs : List X) → Contains (x ∷ xs) y → (x ≡ y) ⊎ Contains xs y
in_cons {X} x y xs c = go c.0 c.1 c.2
  where
    go : (k : ℕ) → k < length (x ∷ xs) → get_or (x ∷ xs) k y ≡ y → (x ≡ y) ⊎ Contains xs y
    go zero below is = inl is
    go (suc k) below is = inr (k, le_of_suc-le-suc below, is)

-- a list of no length is empty
pub no_length : {X : Type 0} (xs : List X) → length xs ≡ 0 → xs ≡ []
no_length [] e = refl
no_length (x ∷ xs) e = absurd (omega arith)

-- the empty map has no entries
pub entries_empty : {K X : Type 0} (R : K → K → Ordering) → entries (empty {X = X} {R = R}) ≡ []
entries_empty {X = X} R = no_length _ (sym (len-entries empty) ∙ len-empty R X)

-- what holds of all of a joined list holds of all of each part
pub all_parts : {X : Type 0} (P : X → Type 0) (xs ys : List X) → All P (xs ++ ys) → All P xs × All P ys
all_parts P [] ys h = (All-nil P, h)
all_parts P (x ∷ xs) ys h =
    let rest = all_parts P xs ys (All-tail P x (xs ++ ys) h) in
    (All-cons P x xs (All-head P x (xs ++ ys) h) rest.0, rest.1)
