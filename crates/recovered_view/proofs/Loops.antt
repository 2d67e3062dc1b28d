-- One element more of a list that is looked through.
use Rattle.std.proofs.Common.{◌≡◌, ℕ, Bool, true, false, cond, ◌||◌, List, [], ◌∷◌, ◌++◌, Option, Some, None, refl, sym, ap, ◌∙◌}
use Rattle.std.specs.List.{find, flat_map, list_any}
use Rattle.std.specs.Option.{is_some, option_map}
use Rattle.std.proofs.lemmas.Bool.{true≢false}

pub any_step : {X : Type 0} (p : X → Bool) (left rest : List X) (x : X) (whole : Bool) → list_any p left ≡ whole → left ≡ x ∷ rest → p x ≡ false → list_any p rest ≡ whole
any_step p left rest x whole is step misses = sym (ap (λ b. b || list_any p rest) misses) ∙ sym (ap (list_any p) step) ∙ is

pub any_found : {X : Type 0} (p : X → Bool) (left rest : List X) (x : X) (whole : Bool) → list_any p left ≡ whole → left ≡ x ∷ rest → p x ≡ true → true ≡ whole
any_found p left rest x whole is step holds = sym (ap (λ b. b || list_any p rest) holds) ∙ sym (ap (list_any p) step) ∙ is

pub any_none : {X : Type 0} (p : X → Bool) (left : List X) (whole : Bool) → list_any p left ≡ whole → left ≡ [] → false ≡ whole
any_none p left whole is none = sym (ap (list_any p) none) ∙ is

find_head : {X : Type 0} (p : X → Bool) (x : X) (xs : List X) → find p (x ∷ xs) ≡ cond (p x) (Some x) (find p xs)
find_head p x xs = refl

pub find_step : {X : Type 0} (p : X → Bool) (left rest : List X) (x : X) (whole : Option X) → find p left ≡ whole → left ≡ x ∷ rest → p x ≡ false → find p rest ≡ whole
find_step p left rest x whole is step misses = sym (find_head p x rest ∙ ap (λ b. cond b (Some x) (find p rest)) misses) ∙ sym (ap (find p) step) ∙ is

pub find_found : {X : Type 0} (p : X → Bool) (left rest : List X) (x : X) (whole : Option X) → find p left ≡ whole → left ≡ x ∷ rest → p x ≡ true → Some x ≡ whole
find_found p left rest x whole is step holds = sym (find_head p x rest ∙ ap (λ b. cond b (Some x) (find p rest)) holds) ∙ sym (ap (find p) step) ∙ is

pub find_both : {X : Type 0} (p : X → Bool) (xs ys : List X) → find p (xs ++ ys) ≡ elim (find p xs) [ None ↦ find p ys | Some x ↦ Some x ]
find_both p [] ys = refl
find_both p (x ∷ xs) ys = go (p x) (find_both p xs ys)
  where
    go : (b : Bool) → find p (xs ++ ys) ≡ elim (find p xs) [ None ↦ find p ys | Some y ↦ Some y ] → cond b (Some x) (find p (xs ++ ys)) ≡ elim (cond b (Some x) (find p xs)) [ None ↦ find p ys | Some y ↦ Some y ]
    go true e = refl
    go false e = e

-- one item's list more: what is found in it is found, and where nothing is, the lists that are left tell
pub item_found : {X Y : Type 0} (g : Y → ℕ) (f : X → List Y) (p : Y → Bool) (left rest : List X) (x : X) (whole : Option Y) (r : Option ℕ) → find p (flat_map f left) ≡ whole → left ≡ x ∷ rest → r ≡ option_map g (find p (f x)) → is_some r ≡ true
    → r ≡ option_map g whole
item_found {X} {Y} g f p left rest x whole r is step found some = go (find p (f x)) refl
  where
    now : elim (find p (f x)) [ None ↦ find p (flat_map f rest) | Some y ↦ Some y ] ≡ whole
    now = sym (find_both p (f x) (flat_map f rest)) ∙ sym (ap (λ (xs : List X). find p (flat_map f xs)) step) ∙ is

    go : (o : Option Y) → find p (f x) ≡ o → r ≡ option_map g whole
    go None e = absurd (true≢false (sym some ∙ ap is_some found ∙ ap (λ (o : Option Y). is_some (option_map g o)) e))
    go (Some y) e = found ∙ ap (option_map g) (e ∙ sym (ap (λ (o : Option Y). elim o [ None ↦ find p (flat_map f rest) | Some z ↦ Some z ]) e) ∙ now)

pub item_missed : {X Y : Type 0} (g : Y → ℕ) (f : X → List Y) (p : Y → Bool) (left rest : List X) (x : X) (whole : Option Y) (r : Option ℕ) → find p (flat_map f left) ≡ whole → left ≡ x ∷ rest → r ≡ option_map g (find p (f x)) → is_some r ≡ false
    → find p (flat_map f rest) ≡ whole
item_missed {X} {Y} g f p left rest x whole r is step found none = go (find p (f x)) refl
  where
    now : elim (find p (f x)) [ None ↦ find p (flat_map f rest) | Some y ↦ Some y ] ≡ whole
    now = sym (find_both p (f x) (flat_map f rest)) ∙ sym (ap (λ (xs : List X). find p (flat_map f xs)) step) ∙ is

    go : (o : Option Y) → find p (f x) ≡ o → find p (flat_map f rest) ≡ whole
    go None e = sym (ap (λ (o : Option Y). elim o [ None ↦ find p (flat_map f rest) | Some z ↦ Some z ]) e) ∙ now
    go (Some y) e = absurd (true≢false (sym (ap (λ (o : Option Y). is_some (option_map g o)) e) ∙ sym (ap is_some found) ∙ none))
