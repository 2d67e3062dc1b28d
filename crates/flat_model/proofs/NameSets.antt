-- Facts on sets of names: what is in them, that they stay sets, and what a filter or a sum makes of an edit.
use Rattle.std.proofs.Common.{◌≡◌, ◌≢◌, ℕ, ◌+◌, Bool, true, false, cond, not, List, [], ◌∷◌, length, refl, sym, ap, subst, ◌∙◌, arith, inl, inr, ◌⊎◌}
use Rattle.std.specs.declared.cmp.Ordering.{Ordering}
use Rattle.std.specs.declared.cmp.Ordering.TheVariants.{Less, Equal, Greater}
use Rattle.std.specs.Ordering.{is_lt, is_eq, nat_cmp, bool_cmp, ordering_then, match_ordering}
use Rattle.std.specs.Cmp.{tied_itself, IsTotalOrder}
use Rattle.std.specs.Cmp.Lexicographic.{slice_cmp}
use Rattle.std.specs.FinMap.{nat_cmp-IsAntisymmetric, slice_cmp-IsAntisymmetric}
use Rattle.std.specs.List.{Contains, filter, sum_by, list_all}
use Rattle.std.proofs.lemmas.Bool.{true≢false, and_parts, and_from, not-true, not_from_false}
use Rattle.std.proofs.lemmas.List.Sums.{sum_by-cons}
use Rattle.flat_model.specs.Names.{FlatName, name_cmp, name_cmp_total, is_below_all, is_name_set, is_same_name, add_name, remove_name}
use Rattle.flat_model.proofs.Lists.{contains_head, contains_tail, contains_none, contains_cases, contains_filter, filter_contains, filter_keeps, filter_swaps}

then_equal : (r s : Ordering) → ordering_then r s ≡ Equal → (r ≡ Equal) × (s ≡ Equal)
then_equal Less s e = absurd (true≢false (sym (ap is_eq e)))
then_equal Equal s e = (refl, e)
then_equal Greater s e = absurd (true≢false (sym (ap is_eq e)))

same_bool : (a b : Bool) → bool_cmp a b ≡ Equal → a ≡ b
same_bool false false e = refl
same_bool false true e = absurd (true≢false (sym (ap is_eq e)))
same_bool true false e = absurd (true≢false (sym (ap is_eq e)))
same_bool true true e = refl

-- only equal names tie
pub name_cmp_antisymmetric : (a b : FlatName) → name_cmp a b ≡ Equal → a ≡ b
unfolding name_cmp
name_cmp_antisymmetric a b e =
    let dir = then_equal (nat_cmp a.dir b.dir) _ e in
    let index = then_equal (nat_cmp a.index b.index) _ dir.1 in
    let bytes = then_equal (slice_cmp nat_cmp a.bytes b.bytes) _ index.1 in
    let ino = then_equal (nat_cmp a.ino b.ino) _ bytes.1 in
    let same_dir = nat_cmp-IsAntisymmetric a.dir b.dir dir.0 in
    let same_index = nat_cmp-IsAntisymmetric a.index b.index index.0 in
    let same_bytes = slice_cmp-IsAntisymmetric nat_cmp-IsAntisymmetric a.bytes b.bytes bytes.0 in
    let same_ino = nat_cmp-IsAntisymmetric a.ino b.ino ino.0 in
    let same_near = same_bool a.near b.near ino.1 in
    λ i. record { dir = same_dir i; index = same_index i; bytes = same_bytes i; ino = same_ino i; near = same_near i }

pub name_cmp_itself : (a : FlatName) → name_cmp a a ≡ Equal
name_cmp_itself a = tied_itself name_cmp_total a

pub is_same_name_itself : (a : FlatName) → is_same_name a a ≡ true
is_same_name_itself a = ap is_eq (name_cmp_itself a)

eq_case : (r : Ordering) → is_eq r ≡ true → r ≡ Equal
eq_case Less e = absurd (true≢false (sym e))
eq_case Equal e = refl
eq_case Greater e = absurd (true≢false (sym e))

lt_case : (r : Ordering) → is_lt r ≡ true → r ≡ Less
lt_case Less e = refl
lt_case Equal e = absurd (true≢false (sym e))
lt_case Greater e = absurd (true≢false (sym e))

pub is_same_name_true : (a b : FlatName) → is_same_name a b ≡ true → a ≡ b
is_same_name_true a b e = name_cmp_antisymmetric a b (eq_case _ e)

pub is_same_name_false : (a b : FlatName) → a ≢ b → is_same_name a b ≡ false
is_same_name_false a b apart =
    elim (is_same_name a b) as (λ r. is_same_name a b ≡ r → r ≡ false) [ true ↦ λ e. absurd (apart (is_same_name_true a b e)) | false ↦ λ e. refl ] refl

less_apart : (a b : FlatName) → name_cmp a b ≡ Less → a ≢ b
less_apart a b less same = true≢false (ap is_lt (sym less ∙ ap (name_cmp a) (sym same) ∙ name_cmp_itself a))

-- ---- order

pub below_all_gives : (name : FlatName) (names : List FlatName) → is_below_all name names ≡ true → (other : FlatName) → Contains names other → name_cmp name other ≡ Less
below_all_gives name [] below other c = absurd (contains_none other c)
below_all_gives name (first ∷ names) below other c =
    let parts = and_parts _ _ below in
    elim (contains_cases first names other c) [
      | inl e ↦ ap (name_cmp name) (sym e) ∙ lt_case _ parts.0
      | inr h ↦ below_all_gives name names parts.1 other h
    ]

pub below_all_from : (name : FlatName) (names : List FlatName) → ((other : FlatName) → Contains names other → name_cmp name other ≡ Less) → is_below_all name names ≡ true
below_all_from name [] each = refl
below_all_from name (first ∷ names) each =
    and_from _ _ (ap is_lt (each first (contains_head first names))) (below_all_from name names (λ other c. each other (contains_tail first names other c)))

-- the first name of a set is below each later one
pub set_head_below : (name : FlatName) (names : List FlatName) → is_name_set (name ∷ names) ≡ true → (other : FlatName) → Contains names other → name_cmp name other ≡ Less
set_head_below name names set other c = below_all_gives name names (and_parts _ _ set).0 other c

pub set_tail : (name : FlatName) (names : List FlatName) → is_name_set (name ∷ names) ≡ true → is_name_set names ≡ true
set_tail name names set = (and_parts _ _ set).1

pub set_head_once : (name : FlatName) (names : List FlatName) → is_name_set (name ∷ names) ≡ true → Contains names name → ⊥
set_head_once name names set c = less_apart name name (set_head_below name names set name c) refl

-- ---- what is in a set after an edit

pub add_name_cases : (name : FlatName) (names : List FlatName) (q : FlatName) → Contains (add_name name names) q → (name ≡ q) ⊎ Contains names q
add_name_cases name [] q c = contains_cases name [] q c
add_name_cases name (other ∷ names) q c =
    elim (name_cmp name other) as (λ o. Contains (match_ordering o (name ∷ other ∷ names) (other ∷ names) (other ∷ add_name name names)) q → (name ≡ q) ⊎ Contains (other ∷ names) q) [
      | Less ↦ λ d. contains_cases name (other ∷ names) q d
      | Equal ↦ λ d. inr d
      | Greater ↦ λ d. elim (contains_cases other _ q d) [
        | inl e ↦ inr (subst (λ z. Contains (other ∷ names) z) e (contains_head other names))
        | inr h ↦ elim (add_name_cases name names q h) [ inl e ↦ inl e | inr r ↦ inr (contains_tail other names q r) ]
      ]
    ] c

pub add_name_has : (name : FlatName) (names : List FlatName) → Contains (add_name name names) name
add_name_has name [] = contains_head name []
add_name_has name (other ∷ names) =
    elim (name_cmp name other) as (λ o. name_cmp name other ≡ o → Contains (match_ordering o (name ∷ other ∷ names) (other ∷ names) (other ∷ add_name name names)) name) [
      | Less ↦ λ e. contains_head name (other ∷ names)
      | Equal ↦ λ e. subst (λ z. Contains (other ∷ names) z) (sym (name_cmp_antisymmetric name other e)) (contains_head other names)
      | Greater ↦ λ e. contains_tail other (add_name name names) name (add_name_has name names)
    ] refl

pub add_name_keeps : (name : FlatName) (names : List FlatName) (q : FlatName) → Contains names q → Contains (add_name name names) q
add_name_keeps name [] q c = absurd (contains_none q c)
add_name_keeps name (other ∷ names) q c =
    elim (name_cmp name other) as (λ o. Contains (match_ordering o (name ∷ other ∷ names) (other ∷ names) (other ∷ add_name name names)) q) [
      | Less ↦ contains_tail name (other ∷ names) q c
      | Equal ↦ c
      | Greater ↦ elim (contains_cases other names q c) [
        | inl e ↦ subst (λ z. Contains (other ∷ add_name name names) z) e (contains_head other (add_name name names))
        | inr h ↦ contains_tail other (add_name name names) q (add_name_keeps name names q h)
      ]
    ]

pub remove_name_gives : (name : FlatName) (names : List FlatName) (q : FlatName) → Contains (remove_name name names) q → Contains names q × (name ≢ q)
remove_name_gives name names q c =
    let parts = filter_contains (λ other. not (is_same_name name other)) names q c in
    (parts.0, λ e. true≢false (sym (subst (λ z. is_same_name name z ≡ true) e (is_same_name_itself name)) ∙ not-true _ parts.1))

pub remove_name_keeps : (name : FlatName) (names : List FlatName) (q : FlatName) → Contains names q → name ≢ q → Contains (remove_name name names) q
remove_name_keeps name names q c apart = contains_filter (λ other. not (is_same_name name other)) names q (not_from_false _ (is_same_name_false name q apart)) c

-- ---- edits of a set are sets

pub is_name_set_add : (name : FlatName) (names : List FlatName) → is_name_set names ≡ true → is_name_set (add_name name names) ≡ true
is_name_set_add name [] set = refl
is_name_set_add name (other ∷ names) set =
    elim (name_cmp name other) as (λ o. name_cmp name other ≡ o → is_name_set (match_ordering o (name ∷ other ∷ names) (other ∷ names) (other ∷ add_name name names)) ≡ true) [
      | Less ↦ λ e. and_from _ _ (below_all_from name (other ∷ names) (λ q c. elim (contains_cases other names q c) [
        | inl same ↦ ap (name_cmp name) (sym same) ∙ e
        | inr h ↦ name_cmp_total.trans name other q e (set_head_below other names set q h)
      ])) set
      | Equal ↦ λ e. set
      | Greater ↦ λ e. and_from _ _ (below_all_from other (add_name name names) (λ q c. elim (add_name_cases name names q c) [
        | inl same ↦ ap (name_cmp other) (sym same) ∙ (name_cmp_total.antisymm other name ∙ ap Rattle.std.specs.Ordering.ordering_reverse e)
        | inr h ↦ set_head_below other names set q h
      ])) (is_name_set_add name names (set_tail other names set))
    ] refl

pub is_name_set_filter : (p : FlatName → Bool) (names : List FlatName) → is_name_set names ≡ true → is_name_set (filter p names) ≡ true
is_name_set_filter p [] set = refl
is_name_set_filter p (name ∷ names) set =
    let rest = is_name_set_filter p names (set_tail name names set) in
    elim (p name) as (λ b. is_name_set (cond b (name ∷ filter p names) (filter p names)) ≡ true) [
      | true ↦ and_from _ _ (below_all_from name (filter p names) (λ q c. set_head_below name names set q (filter_contains p names q c).0)) rest
      | false ↦ rest
    ]

pub is_name_set_remove : (name : FlatName) (names : List FlatName) → is_name_set names ≡ true → is_name_set (remove_name name names) ≡ true
is_name_set_remove name names set = is_name_set_filter (λ other. not (is_same_name name other)) names set

-- two sets with the same names are one list
pub same_name_set : (xs ys : List FlatName) → is_name_set xs ≡ true → is_name_set ys ≡ true → ((q : FlatName) → Contains xs q → Contains ys q) → ((q : FlatName) → Contains ys q → Contains xs q) → xs ≡ ys
same_name_set [] [] xs_set ys_set there back = refl
same_name_set [] (y ∷ ys) xs_set ys_set there back = absurd (contains_none y (back y (contains_head y ys)))
same_name_set (x ∷ xs) [] xs_set ys_set there back = absurd (contains_none x (there x (contains_head x xs)))
same_name_set (x ∷ xs) (y ∷ ys) xs_set ys_set there back =
    let same : x ≡ y = elim (contains_cases y ys x (there x (contains_head x xs))) [
      | inl e ↦ sym e
      | inr x_later ↦ elim (contains_cases x xs y (back y (contains_head y ys))) [
        | inl e ↦ e
        | inr y_later ↦ absurd (less_apart x x (name_cmp_total.trans x y x (set_head_below x xs xs_set y y_later) (set_head_below y ys ys_set x x_later)) refl)
      ]
    ] in
    let rest = same_name_set xs ys (set_tail x xs xs_set) (set_tail y ys ys_set)
    (λ q c. elim (contains_cases y ys q (there q (contains_tail x xs q c))) [
      | inl e ↦ absurd (set_head_once x xs xs_set (subst (λ z. Contains xs z) (sym e ∙ sym same) c))
      | inr h ↦ h
    ])
    (λ q c. elim (contains_cases x xs q (back q (contains_tail y ys q c))) [
      | inl e ↦ absurd (set_head_once y ys ys_set (subst (λ z. Contains ys z) (sym e ∙ same) c))
      | inr h ↦ h
    ]) in
    λ i. same i ∷ rest i

-- ---- filters and sums over an edit

-- the names that pass a test, after one that passes was added
pub filter_add_name : (p : FlatName → Bool) (name : FlatName) (names : List FlatName) → is_name_set names ≡ true → p name ≡ true → filter p (add_name name names) ≡ add_name name (filter p names)
filter_add_name p name names set passes =
    same_name_set _ _ (is_name_set_filter p (add_name name names) (is_name_set_add name names set)) (is_name_set_add name (filter p names) (is_name_set_filter p names set))
    (λ q c. let parts = filter_contains p (add_name name names) q c in elim (add_name_cases name names q parts.0) [
      | inl e ↦ subst (λ z. Contains (add_name name (filter p names)) z) e (add_name_has name (filter p names))
      | inr h ↦ add_name_keeps name (filter p names) q (contains_filter p names q parts.1 h)
    ])
    (λ q c. elim (add_name_cases name (filter p names) q c) [
      | inl e ↦ subst (λ z. Contains (filter p (add_name name names)) z) e (contains_filter p (add_name name names) name passes (add_name_has name names))
      | inr h ↦ let parts = filter_contains p names q h in contains_filter p (add_name name names) q parts.1 (add_name_keeps name names q parts.0)
    ])

-- and after one that doesn't
pub filter_add_other : (p : FlatName → Bool) (name : FlatName) (names : List FlatName) → p name ≡ false → filter p (add_name name names) ≡ filter p names
filter_add_other p name [] fails = ap (λ b. cond b (name ∷ []) []) fails
filter_add_other p name (other ∷ names) fails =
    elim (name_cmp name other) as (λ o. filter p (match_ordering o (name ∷ other ∷ names) (other ∷ names) (other ∷ add_name name names)) ≡ filter p (other ∷ names)) [
      | Less ↦ ap (λ b. cond b (name ∷ filter p (other ∷ names)) (filter p (other ∷ names))) fails
      | Equal ↦ refl
      | Greater ↦ ap (λ ys. cond (p other) (other ∷ ys) ys) (filter_add_other p name names fails)
    ]

pub filter_remove_name : (p : FlatName → Bool) (name : FlatName) (names : List FlatName) → filter p (remove_name name names) ≡ remove_name name (filter p names)
filter_remove_name p name names = filter_swaps p (λ other. not (is_same_name name other)) names

-- to remove a name that isn't there changes nothing
pub remove_name_absent : (name : FlatName) (names : List FlatName) → (Contains names name → ⊥) → remove_name name names ≡ names
remove_name_absent name names absent =
    filter_keeps (λ other. not (is_same_name name other)) names (λ q c. not_from_false _ (is_same_name_false name q (λ e. absent (subst (λ z. Contains names z) (sym e) c))))

pub filter_remove_other : (p : FlatName → Bool) (name : FlatName) (names : List FlatName) → p name ≡ false → filter p (remove_name name names) ≡ filter p names
filter_remove_other p name names fails =
    filter_remove_name p name names ∙ remove_name_absent name _ (λ c. true≢false (sym (filter_contains p names name c).1 ∙ fails))

pub sum_by_add_name : (f : FlatName → ℕ) (name : FlatName) (names : List FlatName) → (Contains names name → ⊥) → sum_by f (add_name name names) ≡ f name + sum_by f names
sum_by_add_name f name [] absent = sum_by-cons f name []
sum_by_add_name f name (other ∷ names) absent =
    elim (name_cmp name other) as (λ o. name_cmp name other ≡ o → sum_by f (match_ordering o (name ∷ other ∷ names) (other ∷ names) (other ∷ add_name name names)) ≡ f name + sum_by f (other ∷ names)) [
      | Less ↦ λ e. sum_by-cons f name (other ∷ names)
      | Equal ↦ λ e. absurd (absent (subst (λ z. Contains (other ∷ names) z) (sym (name_cmp_antisymmetric name other e)) (contains_head other names)))
      | Greater ↦ λ e. let rest = sum_by_add_name f name names (λ c. absent (contains_tail other names name c)) in
          omega (arith, sum_by-cons f other (add_name name names), sum_by-cons f other names, rest)
    ] refl

pub sum_by_remove_name : (f : FlatName → ℕ) (name : FlatName) (names : List FlatName) → is_name_set names ≡ true → Contains names name → f name + sum_by f (remove_name name names) ≡ sum_by f names
sum_by_remove_name f name [] set c = absurd (contains_none name c)
sum_by_remove_name f name (other ∷ names) set c =
    elim (is_same_name name other) as (λ b. is_same_name name other ≡ b → f name + sum_by f (cond (not b) (other ∷ remove_name name names) (remove_name name names)) ≡ sum_by f (other ∷ names)) [
      | true ↦ λ e. let same = is_same_name_true name other e in
          let left = remove_name_absent name names (λ h. set_head_once other names set (subst (λ z. Contains names z) same h)) in
          ap (λ ys. f name + sum_by f ys) left ∙ ap (λ z. f z + sum_by f names) same ∙ sym (sum_by-cons f other names)
      | false ↦ λ e. elim (contains_cases other names name c) [
        | inl same ↦ absurd (true≢false (sym (is_same_name_itself name) ∙ ap (is_same_name name) (sym same) ∙ e))
        | inr h ↦ let rest = sum_by_remove_name f name names (set_tail other names set) h in
            omega (arith, sum_by-cons f other (remove_name name names), sum_by-cons f other names, rest)
      ]
    ] refl

length_is_sum : {X : Type 0} (xs : List X) → length xs ≡ sum_by (λ x. 1) xs
length_is_sum [] = refl
length_is_sum (x ∷ xs) = omega (arith, length_is_sum xs, sum_by-cons (λ x. 1) x xs)

pub length_add_name : (name : FlatName) (names : List FlatName) → (Contains names name → ⊥) → length (add_name name names) ≡ 1 + length names
length_add_name name names absent = length_is_sum _ ∙ sum_by_add_name (λ n. 1) name names absent ∙ ap (λ n. 1 + n) (sym (length_is_sum names))

pub length_remove_name : (name : FlatName) (names : List FlatName) → is_name_set names ≡ true → Contains names name → 1 + length (remove_name name names) ≡ length names
length_remove_name name names set c = ap (λ n. 1 + n) (length_is_sum _) ∙ sum_by_remove_name (λ n. 1) name names set c ∙ sym (length_is_sum names)
