-- What a sink has taken, piece behind piece.
use Rattle.std.proofs.Common.{◌≡◌, ◌<◌, ◌+◌, ◌++◌, ℕ, suc, List, length, take, drop, slice_index_or, Option, Some, None, Result, Ok, Err, OnOk, OnErr, length-append, take_all, append_assoc, drop-cons, sym, ◌∙◌, ap, subst, arith}
use Rattle.std.specs.List.{flat_map}
use Rattle.std.proofs.lemmas.Grind.{flat_map-append}
use Rattle.std.proofs.lemmas.List.{take-append-drop, take-append-le}
use Rattle.std.proofs.Math.Seq.{take-append-add, take-add}
use Rattle.io_edge.specs.Edge.{Takes, TakesFront}

pub Takes-joins : (old mid new : Option (List ℕ)) (xs ys : List ℕ) → Takes old xs mid → Takes mid ys new → Takes old (xs ++ ys) new
Takes-joins None None None xs ys first second = tt
Takes-joins None None (Some new) xs ys first second = second
Takes-joins None (Some mid) new xs ys first second = absurd first
Takes-joins (Some old) None new xs ys first second = absurd first
Takes-joins (Some old) (Some mid) None xs ys first second = second
Takes-joins (Some old) (Some mid) (Some new) xs ys first second = second ∙ ap (λ (taken : List ℕ). taken ++ ys) first ∙ append_assoc old xs ys

pub TakesFront-behind : (old mid new : Option (List ℕ)) (xs ys : List ℕ) → Takes old xs mid → TakesFront mid ys new → TakesFront old (xs ++ ys) new
TakesFront-behind None None None xs ys first second = tt
TakesFront-behind None None (Some new) xs ys first second = second
TakesFront-behind None (Some mid) new xs ys first second = absurd first
TakesFront-behind (Some old) None new xs ys first second = absurd first
TakesFront-behind (Some old) (Some mid) None xs ys first second = second
TakesFront-behind (Some old) (Some mid) (Some new) xs ys first (n, within, is) = (
  length xs + n,
  omega (arith, within, length-append xs ys),
  is ∙ ap (λ (taken : List ℕ). taken ++ take n ys) first ∙ append_assoc old xs (take n ys) ∙ ap (λ (taken : List ℕ). old ++ taken) (sym (take-append-add xs ys n)),
)

pub TakesFront-more : (old new : Option (List ℕ)) (xs ys : List ℕ) → TakesFront old xs new → TakesFront old (xs ++ ys) new
TakesFront-more None None xs ys front = tt
TakesFront-more None (Some new) xs ys front = front
TakesFront-more (Some old) None xs ys front = front
TakesFront-more (Some old) (Some new) xs ys (n, within, is) =
    (n, omega (arith, within, length-append xs ys), is ∙ ap (λ (taken : List ℕ). old ++ taken) (sym (take-append-le n xs ys within)))

-- all of the text is a front of it
pub Takes-front : (old new : Option (List ℕ)) (xs : List ℕ) → Takes old xs new → TakesFront old xs new
Takes-front None None xs takes = tt
Takes-front None (Some new) xs takes = takes
Takes-front (Some old) None xs takes = takes
Takes-front (Some old) (Some new) xs takes = (length xs, omega arith, takes ∙ ap (λ (taken : List ℕ). old ++ taken) (sym (take_all (length xs) xs (omega arith))))

-- one piece more of a text
pub Takes-goes_on : (old mid new : Option (List ℕ)) (text : List ℕ) (taken more : ℕ) → Takes old (take taken text) mid → Takes mid (take more (drop taken text)) new → Takes old (take (taken + more) text) new
Takes-goes_on old mid new text taken more first second =
    subst (λ (bytes : List ℕ). Takes old bytes new) (sym (take-add taken more text)) (Takes-joins old mid new (take taken text) (take more (drop taken text)) first second)

-- a front of what was left
pub TakesFront-goes_on : (old mid new : Option (List ℕ)) (text : List ℕ) (taken : ℕ) → Takes old (take taken text) mid → TakesFront mid (drop taken text) new → TakesFront old text new
TakesFront-goes_on old mid new text taken first second =
    subst (λ (bytes : List ℕ). TakesFront old bytes new) (take-append-drop taken text) (TakesFront-behind old mid new (take taken text) (drop taken text) first second)

-- what holds anyway holds at an error
pub on_err : {T E : Type 0} (result : Result T E) (P : Type 0) → P → OnErr result P
on_err (Ok value) P holds = tt
on_err (Err error) P holds = holds

-- texts one behind the other, up to the one at a place, that one, and those behind it
flat_map-at : {X : Type 0} (f : X → List ℕ) (xs : List X) (place : ℕ) (default : X) → place < length xs
    → (flat_map f (take place xs) ++ f (slice_index_or xs place default)) ++ flat_map f (drop (suc place) xs) ≡ flat_map f xs
flat_map-at f xs place default within =
    let rest : flat_map f (drop place xs) ≡ f (slice_index_or xs place default) ++ flat_map f (drop (suc place) xs) = ap (flat_map f) (drop-cons xs place default within) in
    append_assoc (flat_map f (take place xs)) (f (slice_index_or xs place default)) (flat_map f (drop (suc place) xs))
    ∙ ap (λ (more : List ℕ). flat_map f (take place xs) ++ more) (sym rest)
    ∙ sym (flat_map-append f (take place xs) (drop place xs)) ∙ ap (flat_map f) (take-append-drop place xs)

-- a front of the text at a place, behind those before it
pub TakesFront-at : {X : Type 0} (f : X → List ℕ) (xs : List X) (place : ℕ) (default : X) (old mid new : Option (List ℕ)) (text : List ℕ) → place < length xs → text ≡ f (slice_index_or xs place default)
    → Takes old (flat_map f (take place xs)) mid → TakesFront mid text new → TakesFront old (flat_map f xs) new
TakesFront-at f xs place default old mid new text within is first second =
    let here : TakesFront mid (f (slice_index_or xs place default)) new = subst (λ (bytes : List ℕ). TakesFront mid bytes new) is second in
    subst (λ (bytes : List ℕ). TakesFront old bytes new) (flat_map-at f xs place default within)
    (TakesFront-more old new (flat_map f (take place xs) ++ f (slice_index_or xs place default)) (flat_map f (drop (suc place) xs)) (TakesFront-behind old mid new (flat_map f (take place xs)) (f (slice_index_or xs place default)) first here))

-- ---- a text behind one that was taken, by the answer of its write

pub OnOk-behind : {T E : Type 0} (result : Result T E) (old mid new : Option (List ℕ)) (xs ys : List ℕ) → Takes old xs mid → OnOk result (Takes mid ys new) → OnOk result (Takes old (xs ++ ys) new)
OnOk-behind (Ok value) old mid new xs ys first second = Takes-joins old mid new xs ys first second
OnOk-behind (Err error) old mid new xs ys first second = tt

pub OnErr-behind : {T E : Type 0} (result : Result T E) (old mid new : Option (List ℕ)) (xs ys : List ℕ) → Takes old xs mid → OnErr result (TakesFront mid ys new) → OnErr result (TakesFront old (xs ++ ys) new)
OnErr-behind (Ok value) old mid new xs ys first second = tt
OnErr-behind (Err error) old mid new xs ys first second = TakesFront-behind old mid new xs ys first second
