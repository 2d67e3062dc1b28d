-- Ordered sets of numbers as they are kept, and as sets of numbers are seen.
use Rattle.std.proofs.Common.{◌≡◌, ◌≤◌, ◌<◌, ◌+◌, ◌++◌, ◌⊎◌, ℕ, Bool, true, false, not, cond, ◌||◌, List, [], ◌∷◌, filter, length, take, get_or, take, get_or, ◌++◌, Contains, Less, Equal, Greater, refl, sym, ap, subst, ◌∙◌, arith, inl, inr}
use Rattle.std.specs.BTreeSet.{BTreeSet, contains, insert_key}
use Rattle.std.specs.Cmp.{unsigned_tied}
use Rattle.std.specs.List.{list_any}
use Rattle.std.specs.Ordering.{nat_cmp, match_ordering, is_eq}
use Rattle.std.specs.Prelude.{nat_eq, nat_lt}
use Rattle.std.proofs.lemmas.Bool.{true≢false, false_from_ne_true, or_cases, or_left, or_right}
use Rattle.std.proofs.lemmas.List.{take_more}
use Rattle.std.proofs.lemmas.List.Elements.{Contains-append_left, Contains-push, Contains-push_cases}
use Rattle.flat_model.specs.Names.{FlatName}
use Rattle.flat_model.proofs.Lists.{contains_none, contains_cases}
use Rattle.logged_volume.specs.Numbers.{add_number, is_in, is_number_set}
use Rattle.logged_volume.proofs.Counts.{filter_le, length_within, set_distinct}
use Rattle.logged_volume.specs.Drawn.{is_parent}
use Rattle.logged_volume.proofs.Members.{add_number_cases, add_number_has, add_number_keeps, in_from, in_gives}
use Rattle.drawn_set.specs.Names.{AddsAll, AreInodesIn, AreInodesInEither}

match_cond : {X : Type 0} (a b : Bool) (x y z : X) → match_ordering (cond a Less (cond b Equal Greater)) x y z ≡ cond a x (cond b y z)
match_cond true b x y z = refl
match_cond false true x y z = refl
match_cond false false x y z = refl

pub insert_is_add : (k : ℕ) (xs : List ℕ) → insert_key nat_cmp xs k ≡ add_number k xs
insert_is_add k [] = refl
insert_is_add k (x ∷ xs) =
    match_cond (nat_lt k x) (nat_eq k x) (k ∷ x ∷ xs) (x ∷ xs) (x ∷ insert_key nat_cmp xs k)
    ∙ ap (λ ys. cond (nat_lt k x) (k ∷ x ∷ xs) (cond (nat_eq k x) (x ∷ xs) (x ∷ ys))) (insert_is_add k xs)

any_tied : (q : ℕ) (xs : List ℕ) → list_any (λ k. is_eq (nat_cmp q k)) xs ≡ list_any (nat_eq q) xs
any_tied q [] = refl
any_tied q (x ∷ xs) = ap (λ b. b || list_any (λ k. is_eq (nat_cmp q k)) xs) (unsigned_tied q x) ∙ ap (λ b. nat_eq q x || b) (any_tied q xs)

pub contains_is_in : (set : BTreeSet ℕ) (q : ℕ) → contains nat_cmp set q ≡ is_in set.keys q
contains_is_in set q = any_tied q set.keys

-- ---- what is not in a set

pub not_in : (xs : List ℕ) (i : ℕ) → is_in xs i ≡ false → Contains xs i → ⊥
not_in xs i f c = true≢false (sym (in_from xs i c) ∙ f)

pub in_cases : (xs : List ℕ) (i : ℕ) → Contains xs i ⊎ (Contains xs i → ⊥)
in_cases xs i = elim (is_in xs i) as (λ b. is_in xs i ≡ b → Contains xs i ⊎ (Contains xs i → ⊥)) [ true ↦ λ t. inl (in_gives xs i t) | false ↦ λ f. inr (not_in xs i f) ] refl

-- a filter that lets less pass, and one element of the list no more, is shorter
filter_lt : (p q : ℕ → Bool) (xs : List ℕ) (y : ℕ) → ((x : ℕ) → q x ≡ true → p x ≡ true) → Contains xs y → p y ≡ true → q y ≡ false → length (filter q xs) < length (filter p xs)
filter_lt p q [] y less c t f = absurd (contains_none y c)
filter_lt p q (x ∷ xs) y less c t f =
    let all = filter_le q p xs (λ z d. less z) in
    elim (contains_cases x xs y c) [
      | inl same ↦ subst (λ b. length (cond b (x ∷ filter q xs) (filter q xs)) < length (cond (p x) (x ∷ filter p xs) (filter p xs))) (sym (ap q same ∙ f))
          (subst (λ b. length (filter q xs) < length (cond b (x ∷ filter p xs) (filter p xs))) (sym (ap p same ∙ t)) (omega (arith, all)))
      | inr later ↦
          let rest = filter_lt p q xs y less later t f in
          elim (q x) as (λ a. q x ≡ a → length (cond a (x ∷ filter q xs) (filter q xs)) < length (cond (p x) (x ∷ filter p xs) (filter p xs))) [
            | true ↦ λ u. subst (λ b. length (x ∷ filter q xs) < length (cond b (x ∷ filter p xs) (filter p xs))) (sym (less x u)) (omega (arith, rest))
            | false ↦ λ _. elim (p x) as (λ b. length (filter q xs) < length (cond b (x ∷ filter p xs) (filter p xs))) [ true ↦ omega (arith, rest) | false ↦ rest ]
          ] refl
    ]

-- fewer numbers of a list are missing once one of them was added
pub fewer_missing : (all set more : List ℕ) (i : ℕ) → Contains all i → (Contains set i → ⊥) → more ≡ add_number i set → length (filter (λ x. not (is_in more x)) all) < length (filter (λ x. not (is_in set x)) all)
fewer_missing all set more i c missing is = filter_lt (λ x. not (is_in set x)) (λ x. not (is_in more x)) all i
    (λ x t. ap not (false_from_ne_true (is_in set x) (λ h. not_in more x (not_true (is_in more x) t) (subst (λ s. Contains s x) (sym is) (add_number_keeps i set x (in_gives set x h))))))
    c
    (ap not (false_from_ne_true (is_in set i) (λ h. missing (in_gives set i h))))
    (ap not (in_from more i (subst (λ s. Contains s i) (sym is) (add_number_has i set))))
  where
    not_true : (b : Bool) → not b ≡ true → b ≡ false
    not_true true e = sym e
    not_true false e = refl

-- a set of numbers within another has at most as many
pub set_within : (xs ys : List ℕ) → is_number_set xs ≡ true → ((i : ℕ) → Contains xs i → Contains ys i) → length xs ≤ length ys
set_within xs ys set within = length_within xs ys (set_distinct xs set) within

-- ---- numbers added one by one

pub adds_none : (old : List ℕ) → AddsAll [] old old
adds_none old number = (λ c. inl c, λ c. elim c [ inl there ↦ there | inr none ↦ absurd (contains_none number none) ])

pub adds_more : (numbers old middle new : List ℕ) (k : ℕ) → k < length numbers → AddsAll (take k numbers) old middle → new ≡ add_number (get_or numbers k 0) middle → AddsAll (take (k + 1) numbers) old new
adds_more numbers old middle new k below adds is number = (
  λ c. elim (add_number_cases (get_or numbers k 0) middle number (subst (λ s. Contains s number) is c)) [
    | inl same ↦ inr (subst (λ ns. Contains ns number) (sym (take_more numbers k 0 below)) (subst (Contains (take k numbers ++ get_or numbers k 0 ∷ [])) same (Contains-push (take k numbers) (get_or numbers k 0))))
    | inr there ↦ elim ((adds number).0 there) [
      | inl before ↦ inl before
      | inr taken ↦ inr (subst (λ ns. Contains ns number) (sym (take_more numbers k 0 below)) (Contains-append_left (take k numbers) (get_or numbers k 0 ∷ []) number taken))
    ]
  ],
  λ c. subst (λ s. Contains s number) (sym is) (elim c [
    | inl before ↦ add_number_keeps (get_or numbers k 0) middle number ((adds number).1 (inl before))
    | inr taken ↦ elim (Contains-push_cases (take k numbers) (get_or numbers k 0) number (subst (λ ns. Contains ns number) (take_more numbers k 0 below) taken)) [
      | inl earlier ↦ add_number_keeps (get_or numbers k 0) middle number ((adds number).1 (inr earlier))
      | inr same ↦ subst (Contains (add_number (get_or numbers k 0) middle)) same (add_number_has (get_or numbers k 0) middle)
    ]
  ]),
)

pub either_is : (names others : List FlatName) (dir : ℕ) (here there first second : List ℕ) → AreInodesIn names dir here → AreInodesIn others dir there → AddsAll here [] first → AddsAll there first second → AreInodesInEither names others dir second
either_is names others dir here there first second are_here are_there adds adds' ino = (
  λ c. elim ((adds' ino).0 c) [
    | inl before ↦ elim ((adds ino).0 before) [ inl none ↦ absurd (contains_none ino none) | inr near ↦ or_left (is_parent names ino dir) (is_parent others ino dir) ((are_here ino).0 near) ]
    | inr far ↦ or_right (is_parent names ino dir) (is_parent others ino dir) ((are_there ino).0 far)
  ],
  λ t. elim (or_cases (is_parent names ino dir) (is_parent others ino dir) t) [
    | inl near ↦ (adds' ino).1 (inl ((adds ino).1 (inr ((are_here ino).1 near))))
    | inr far ↦ (adds' ino).1 (inr ((are_there ino).1 far))
  ],
)
