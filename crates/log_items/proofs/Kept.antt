-- What is left of the items of a log without those that say something of an inode, and the flat log that they are then.
use Rattle.std.proofs.Common.{◌≡◌, ◌++◌, ◌∙◌, Bool, true, false, not, cond, List, [], ◌∷◌, Contains, Option, Some, None, filter, flat_map, find, refl, sym, ap, ap₂}
use Rattle.std.proofs.lemmas.List.Elements.{filter-append}
use Rattle.flat_model.specs.Names.{FlatName, name_set, add_name, is_name_set}
use Rattle.flat_model.proofs.Lists.{filter_keeps, filter_swaps}
use Rattle.flat_model.proofs.NameSets.{filter_add_name, filter_add_other, is_name_set_add}
use Rattle.volume_image.proofs.Members.{in_filter}
use Rattle.volume_image.proofs.Reaches.{head_in, tail_in}

-- ---- lists

-- what the elements that aren't of a kind say is what is left without what those of it say
pub flat_map_kept : {X Y : Type 0} (f : X → List Y) (p : X → Bool) (q : Y → Bool) (xs : List X)
    → ((x : X) → Contains xs x → filter q (f x) ≡ cond (p x) [] (f x))
    → filter q (flat_map f xs) ≡ flat_map f (filter (λ x. not (p x)) xs)
flat_map_kept f p q [] each = refl
flat_map_kept {X} {Y} f p q (x ∷ xs) each =
    let rest : filter q (flat_map f xs) ≡ flat_map f (filter (λ y. not (p y)) xs) = flat_map_kept f p q xs (λ y c. each y (tail_in x y xs c)) in
    filter-append q (f x) (flat_map f xs) ∙ ap₂ (λ (a b : List Y). a ++ b) (each x (head_in x xs)) rest ∙ last (p x)
  where
    last : (b : Bool) → cond b [] (f x) ++ flat_map f (filter (λ y. not (p y)) xs) ≡ flat_map f (cond (not b) (x ∷ filter (λ y. not (p y)) xs) (filter (λ y. not (p y)) xs))
    last true = refl
    last false = refl

-- what is found among the elements that aren't of a kind
pub find_kept : {X : Type 0} (r p : X → Bool) (xs : List X) → ((x : X) → r x ≡ true → p x ≡ false) → find r (filter (λ x. not (p x)) xs) ≡ find r xs
find_kept r p [] apart = refl
find_kept {X} r p (x ∷ xs) apart = go (find_kept r p xs apart) (p x) refl (r x) refl
  where
    go : find r (filter (λ y. not (p y)) xs) ≡ find r xs → (b : Bool) → p x ≡ b → (c : Bool) → r x ≡ c → find r (cond (not b) (x ∷ filter (λ y. not (p y)) xs) (filter (λ y. not (p y)) xs)) ≡ cond c (Some x) (find r xs)
    go rest true eb true ec = let wrong : true ≡ false = sym eb ∙ apart x ec in absurd cc
    go rest true eb false ec = rest
    go rest false eb c ec = ap (λ (o : Bool). cond o (Some x) (find r (filter (λ y. not (p y)) xs))) ec ∙ ap (λ (o : Option X). cond c (Some x) o) rest

pub find_gone : {X : Type 0} (r p : X → Bool) (xs : List X) → ((x : X) → r x ≡ true → p x ≡ true) → find r (filter (λ x. not (p x)) xs) ≡ None
find_gone r p [] own = refl
find_gone {X} r p (x ∷ xs) own = go (find_gone r p xs own) (p x) refl (r x) refl
  where
    go : find r (filter (λ y. not (p y)) xs) ≡ None → (b : Bool) → p x ≡ b → (c : Bool) → r x ≡ c → find r (cond (not b) (x ∷ filter (λ y. not (p y)) xs) (filter (λ y. not (p y)) xs)) ≡ None
    go rest true eb c ec = rest
    go rest false eb true ec = let wrong : false ≡ true = sym eb ∙ own x ec in absurd cc
    go rest false eb false ec = ap (λ (o : Bool). cond o (Some x) (find r (filter (λ y. not (p y)) xs))) ec ∙ rest

pub filter_kept : {X : Type 0} (r p : X → Bool) (xs : List X) → ((x : X) → r x ≡ true → p x ≡ false) → filter r (filter (λ x. not (p x)) xs) ≡ filter r xs
filter_kept {X} r p xs apart =
    filter_swaps r (λ x. not (p x)) xs
    ∙ filter_keeps (λ x. not (p x)) (filter r xs) (λ y c. ap not (apart y (in_filter r xs y c).1))

-- ---- sets of names

pub name_set_set : (names : List FlatName) → is_name_set (name_set names) ≡ true
name_set_set [] = refl
name_set_set (name ∷ names) = is_name_set_add name (name_set names) (name_set_set names)

pub filter_name_set : (p : FlatName → Bool) (names : List FlatName) → filter p (name_set names) ≡ name_set (filter p names)
filter_name_set p [] = refl
filter_name_set p (name ∷ names) = go (filter_name_set p names) (p name) refl
  where
    go : filter p (name_set names) ≡ name_set (filter p names) → (b : Bool) → p name ≡ b → filter p (add_name name (name_set names)) ≡ name_set (cond b (name ∷ filter p names) (filter p names))
    go rest true e = filter_add_name p name (name_set names) (name_set_set names) e ∙ ap (add_name name) rest
    go rest false e = filter_add_other p name (name_set names) e ∙ rest
