-- Lists of lists, and addresses that stand in them.
use Rattle.std.proofs.Common.{◌≡◌, ◌≤◌, ◌+◌, ℕ, List, [], ◌∷◌, ◌++◌, length, refl, ap, ◌∙◌, sym, arith}
use Rattle.std.specs.Prelude.{All, Contains, slice_index_or}
use Rattle.std.specs.List.{flat_map, sum_by}
use Rattle.std.proofs.lemmas.List.{append-nil}
use Rattle.std.proofs.lemmas.List.Concat.{flat_map-append}
use Rattle.std.proofs.lemmas.List.Elements.{All-cons, All-contains, All-head, All-nil, All-tail, Contains-get_or}
use Rattle.std.proofs.lemmas.List.Sums.{sum_by-append, sum_by-cons}
use Rattle.std.proofs.lemmas.Option.{slice_get-get_or}
use Rattle.std.specs.Prelude.{Some}
use Rattle.blk_base.specs.Leaf.{Pointer}
use Rattle.tree_range.specs.Part.{times_in}
use Rattle.tree_range.proofs.Times.{contained_by_times, times_append, times_contained}
use Rattle.cow_tree.specs.Pieces.{ats_of}

-- ---- addresses that stand in a list

pub contained_times : (xs : List ℕ) (at : ℕ) → Contains xs at → 1 ≤ times_in at xs
contained_times xs at h = times_contained at xs h.0 h.1 (slice_get-get_or xs h.0 at h.1 ∙ ap (λ (n : ℕ). Some n) h.2)

-- what holds of each address that stands in a list
pub all_from : (P : ℕ → Type 0) (xs : List ℕ) → ((at : ℕ) → 1 ≤ times_in at xs → P at) → All P xs
all_from P xs h = λ k d inside. h (slice_index_or xs k d) (contained_times xs (slice_index_or xs k d) (Contains-get_or xs k d inside))

pub all_to : (P : ℕ → Type 0) (xs : List ℕ) (at : ℕ) → All P xs → 1 ≤ times_in at xs → P at
all_to P xs at h there = All-contains P xs at h (contained_by_times at xs there)

-- ---- lists of lists

pub flat_flat : {X Y A : Type 0} (f : Y → List A) (g : X → List Y) (xs : List X) → flat_map (λ x. flat_map f (g x)) xs ≡ flat_map f (flat_map g xs)
flat_flat f g [] = refl
flat_flat f g (x ∷ xs) = ap (λ l. flat_map f (g x) ++ l) (flat_flat f g xs) ∙ sym (flat_map-append f (g x) (flat_map g xs))

pub sum_flat : {X Y : Type 0} (f : Y → ℕ) (g : X → List Y) (xs : List X) → sum_by (λ x. sum_by f (g x)) xs ≡ sum_by f (flat_map g xs)
sum_flat f g [] = refl
sum_flat f g (x ∷ xs) = sum_by-cons (λ y. sum_by f (g y)) x xs ∙ ap (λ n. sum_by f (g x) + n) (sum_flat f g xs) ∙ sym (sum_by-append f (g x) (flat_map g xs))

pub sum_same : {X : Type 0} (f g : X → ℕ) (xs : List X) → All (λ x. f x ≡ g x) xs → sum_by f xs ≡ sum_by g xs
sum_same f g [] h = refl
sum_same f g (x ∷ xs) h = sum_by-cons f x xs ∙ ap (λ n. n + sum_by f xs) (All-head (λ y. f y ≡ g y) x xs h) ∙ ap (λ n. g x + n) (sum_same f g xs (All-tail (λ y. f y ≡ g y) x xs h)) ∙ sym (sum_by-cons g x xs)

pub sum_ones : {X : Type 0} (xs : List X) → sum_by (λ x. 1) xs ≡ length xs
sum_ones [] = refl
sum_ones (x ∷ xs) = sum_by-cons (λ y. 1) x xs ∙ omega (arith, sum_ones xs)

pub sum_cut : {X : Type 0} (f : X → ℕ) (l m r : List X) → sum_by f (l ++ (m ++ r)) ≡ sum_by f l + (sum_by f m + sum_by f r)
sum_cut f l m r = sum_by-append f l (m ++ r) ∙ ap (λ n. sum_by f l + n) (sum_by-append f m r)

pub flat_cut : {X A : Type 0} (f : X → List A) (l m r : List X) → flat_map f (l ++ (m ++ r)) ≡ flat_map f l ++ (flat_map f m ++ flat_map f r)
flat_cut f l m r = flat_map-append f l (m ++ r) ∙ ap (λ xs. flat_map f l ++ xs) (flat_map-append f m r)

-- the addresses of nodes, each in front of what stands below it
pub times_nodes : (g : Pointer → List ℕ) (at : ℕ) (nodes : List Pointer) → times_in at (flat_map (λ node. node.at ∷ g node) nodes) ≡ times_in at (ats_of nodes) + times_in at (flat_map g nodes)
times_nodes g at [] = omega arith
times_nodes g at (n ∷ ns) =
    omega (arith, times_append at (n.at ∷ g n) (flat_map (λ node. node.at ∷ g node) ns), times_nodes g at ns, times_append at (g n) (flat_map g ns))

pub ats_single : (nodes : List Pointer) → flat_map (λ node. node.at ∷ []) nodes ≡ ats_of nodes
ats_single [] = refl
ats_single (n ∷ ns) = ap (λ (l : List ℕ). n.at ∷ l) (ats_single ns)

pub times_cut : (at : ℕ) (l m r : List ℕ) → times_in at (l ++ (m ++ r)) ≡ times_in at l + (times_in at m + times_in at r)
times_cut at l m r = omega (arith, times_append at l (m ++ r), times_append at m r)

-- where one list of lists is all there is, it is as long as all
pub only_one : {X A : Type 0} (g : X → List A) (xs : List X) → length xs ≡ 1 → All (λ x. length (g x) ≡ length (flat_map g xs)) xs
only_one g [] h = absurd (omega (arith, h))
only_one g (x ∷ []) h = All-cons (λ y. length (g y) ≡ length (flat_map g (x ∷ []))) x [] (ap length (sym (append-nil (g x)))) (All-nil (λ y. length (g y) ≡ length (flat_map g (x ∷ []))))
only_one g (x ∷ y ∷ ys) h = absurd (omega (arith, h))
