-- Names that are the same but for their indexes: what is counted of them is the same.
use Rattle.std.proofs.Common.{◌≡◌, ℕ, ◌≤◌, ◌+◌, Bool, true, false, cond, not, ◌&&◌, ◌||◌, List, [], ◌∷◌, length, refl, sym, ap, subst, ◌∙◌, arith, inl, inr}
use Rattle.std.specs.Bool.{nat_eq, nat_lt, nat_le}
use Rattle.std.specs.List.{Contains, filter, sum_by}
use Rattle.std.proofs.lemmas.Bool.{true≢false, cases_eq}
use Rattle.std.proofs.lemmas.List.Sums.{sum_by-cons}
use Rattle.blk_base.specs.Crc.{name_hash_of, extref_hash_of}
use Rattle.flat_model.specs.Names.{FlatName, is_name_set, is_same_name, is_hashed_in, add_name, remove_name, leads_to, links_of}
use Rattle.flat_model.specs.Lengths.{most_item_bytes, ref_length, extref_length, entry_length, ref_item_length, extref_item_length, dir_item_length}
use Rattle.flat_model.specs.Operations.{is_crowded}
use Rattle.flat_model.proofs.Lists.{contains_head, contains_tail, contains_none, contains_cases}
use Rattle.flat_model.proofs.NameSets.{is_same_name_itself, is_same_name_true, sum_by_add_name, sum_by_remove_name}
use Rattle.flat_laws.specs.Alike.{unindexed}

-- each count that pays no heed to indexes is one
abbrev pub SameSums : List FlatName → List FlatName → Type 0
SameSums ns ms = (f : FlatName → ℕ) → sum_by (λ n. f (unindexed n)) ns ≡ sum_by (λ n. f (unindexed n)) ms

sum_filter : (g : FlatName → ℕ) (p : FlatName → Bool) (ns : List FlatName) → sum_by g (filter p ns) ≡ sum_by (λ n. cond (p n) (g n) 0) ns
sum_filter g p [] = refl
sum_filter g p (n ∷ ns) =
    let h : FlatName → ℕ = λ m. cond (p m) (g m) 0 in
    let rest : sum_by g (filter p ns) ≡ sum_by h ns = sum_filter g p ns in
    let whole : sum_by h (n ∷ ns) ≡ h n + sum_by h ns = sum_by-cons h n ns in
    elim (p n) as (λ b. p n ≡ b → sum_by g (cond b (n ∷ filter p ns) (filter p ns)) ≡ sum_by h (n ∷ ns)) [
      | true ↦ λ t. let here : h n ≡ g n = ap (λ b. cond b (g n) 0) t in omega (arith, sum_by-cons g n (filter p ns), rest, whole, here)
      | false ↦ λ f. let here : h n ≡ 0 = ap (λ b. cond b (g n) 0) f in omega (arith, rest, whole, here)
    ] refl

length_sum : (ns : List FlatName) → length ns ≡ sum_by (λ n. 1) ns
length_sum [] = refl
length_sum (n ∷ ns) = let rest = length_sum ns in omega (arith, rest, sum_by-cons (λ (m : FlatName). 1) n ns)

pub filter_like : (ns ms : List FlatName) → SameSums ns ms → (g : FlatName → ℕ) (p : FlatName → Bool) → sum_by (λ n. g (unindexed n)) (filter (λ n. p (unindexed n)) ns) ≡ sum_by (λ n. g (unindexed n)) (filter (λ n. p (unindexed n)) ms)
filter_like ns ms same g p =
    sum_filter (λ n. g (unindexed n)) (λ n. p (unindexed n)) ns ∙ same (λ n. cond (p n) (g n) 0) ∙ sym (sum_filter (λ n. g (unindexed n)) (λ n. p (unindexed n)) ms)

pub count_like : (ns ms : List FlatName) → SameSums ns ms → (p : FlatName → Bool) → length (filter (λ n. p (unindexed n)) ns) ≡ length (filter (λ n. p (unindexed n)) ms)
count_like ns ms same p = length_sum (filter (λ n. p (unindexed n)) ns) ∙ filter_like ns ms same (λ n. 1) p ∙ sym (length_sum (filter (λ n. p (unindexed n)) ms))

pub links_like : (ns ms : List FlatName) → SameSums ns ms → (ino : ℕ) → links_of ns ino ≡ links_of ms ino
links_like ns ms same ino = count_like ns ms same (leads_to ino)

-- ---- members

sum_has : (g : FlatName → ℕ) (ns : List FlatName) (q : FlatName) → Contains ns q → g q ≤ sum_by g ns
sum_has g [] q c = absurd (contains_none q c)
sum_has g (n ∷ ns) q c =
    let whole = sum_by-cons g n ns in
    elim (contains_cases n ns q c) [
      | inl same ↦ let here = ap g same in omega (arith, whole, here)
      | inr later ↦ let rest = sum_has g ns q later in omega (arith, whole, rest)
    ]

sum_finds : (p : FlatName → Bool) (ns : List FlatName) → 1 ≤ sum_by (λ n. cond (p n) 1 0) ns → (q : FlatName) × Contains ns q × (p q ≡ true)
sum_finds p [] some = absurd (omega (arith, some))
sum_finds p (n ∷ ns) some =
    let g : FlatName → ℕ = λ m. cond (p m) 1 0 in
    let whole : sum_by g (n ∷ ns) ≡ g n + sum_by g ns = sum_by-cons g n ns in
    elim (p n) as (λ b. p n ≡ b → (q : FlatName) × Contains (n ∷ ns) q × (p q ≡ true)) [
      | true ↦ λ t. (n, contains_head n ns, t)
      | false ↦ λ f.
          let here : g n ≡ 0 = ap (λ b. cond b 1 0) f in
          let rest = sum_finds p ns (omega (arith, some, whole, here)) in
          (rest.0, contains_tail n ns rest.0 rest.1, rest.2)
    ] refl

pub member_like : (ns ms : List FlatName) → SameSums ns ms → (q : FlatName) → Contains ns q → (r : FlatName) × Contains ms r × (unindexed q ≡ unindexed r)
member_like ns ms same q c =
    let is_q : FlatName → Bool = is_same_name (unindexed q) in
    let one : ℕ = 1 in
    let here : cond (is_q (unindexed q)) one 0 ≡ one = ap (λ b. cond b one 0) (is_same_name_itself (unindexed q)) in
    let count : sum_by (λ n. cond (is_q (unindexed n)) 1 0) ns ≡ sum_by (λ n. cond (is_q (unindexed n)) 1 0) ms = same (λ n. cond (is_q n) 1 0) in
    let has = sum_has (λ n. cond (is_q (unindexed n)) 1 0) ns q c in
    let found = sum_finds (λ n. is_q (unindexed n)) ms (omega (arith, has, here, count)) in
    (found.0, found.1, is_same_name_true (unindexed q) (unindexed found.0) found.2)

-- ---- names come and go

pub add_like : (ns ms : List FlatName) (n m : FlatName) → SameSums ns ms → unindexed n ≡ unindexed m → (Contains ns n → ⊥) → (Contains ms m → ⊥) → SameSums (add_name n ns) (add_name m ms)
add_like ns ms n m same is absent absent' f =
    sum_by_add_name (λ q. f (unindexed q)) n ns absent ∙ (λ i. f (is i) + same f i) ∙ sym (sum_by_add_name (λ q. f (unindexed q)) m ms absent')

pub remove_like : (ns ms : List FlatName) (n m : FlatName) → SameSums ns ms → unindexed n ≡ unindexed m → is_name_set ns ≡ true → is_name_set ms ≡ true → Contains ns n → Contains ms m → SameSums (remove_name n ns) (remove_name m ms)
remove_like ns ms n m same is set set' c c' f =
    let g : FlatName → ℕ = λ q. f (unindexed q) in
    let one : g n + sum_by g (remove_name n ns) ≡ sum_by g ns = sum_by_remove_name g n ns set c in
    let two : g m + sum_by g (remove_name m ms) ≡ sum_by g ms = sum_by_remove_name g m ms set' c' in
    let all : sum_by g ns ≡ sum_by g ms = same f in
    let both : g n ≡ g m = ap f is in
    omega (arith, one, two, all, both)

-- ---- items

pub ref_like : (ns ms : List FlatName) → SameSums ns ms → (ino dir : ℕ) → ref_item_length ns ino dir ≡ ref_item_length ms ino dir
unfolding ref_item_length
ref_like ns ms same ino dir = filter_like ns ms same ref_length (λ name. name.near && (nat_eq name.ino ino && nat_eq name.dir dir))

crowd_like : (ns ms : List FlatName) → SameSums ns ms → (n : FlatName) → is_crowded ns n ≡ is_crowded ms n
unfolding dir_item_length extref_item_length
crowd_like ns ms same n =
    let entries = filter_like ns ms same entry_length (is_hashed_in n.dir (name_hash_of n.bytes)) in
    let extrefs = filter_like ns ms same extref_length (λ name. not name.near && (nat_eq name.ino n.ino && nat_eq (extref_hash_of name.dir name.bytes) (extref_hash_of n.dir n.bytes))) in
    λ i. nat_lt most_item_bytes (entries i) || (not n.near && nat_lt most_item_bytes (extrefs i))

pub crowded_like : (ns ms : List FlatName) (n m : FlatName) → SameSums ns ms → unindexed n ≡ unindexed m → is_crowded ns n ≡ is_crowded ms m
crowded_like ns ms n m same is = crowd_like ns ms same (unindexed n) ∙ ap (is_crowded ms) is
