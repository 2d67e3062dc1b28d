-- The numbers of bare subvolumes, and what a bare volume has under each as its run begins.
use Rattle.std.proofs.Common.{◌≡◌, ◌<◌, ◌+◌, ℕ, zero, suc, List, [], ◌∷◌, ◌++◌, map, Some, None, Ordering, Less, Equal, Greater, cond, is_eq, nat_eq, refl, sym, ap, ◌∙◌, arith, add-one, inl, inr}
use Rattle.std.specs.Prelude.{Contains}
use Rattle.std.specs.Ordering.{nat_cmp}
use Rattle.std.specs.Cmp.{nat_cmp_is, nat_cmp_total}
use Rattle.std.specs.List.{AllByRecursion, fold, range_with_len}
use Rattle.std.specs.List.Sorted.{IsStrictlyIncreasing, IsStrictlySortedBy}
use Rattle.std.specs.Option.{option_map}
use Rattle.std.specs.FinMap.{FinMap, empty, entries, entries-insert, find, get, get-from_entries, keys, len, len-empty, len-entries, nat_cmp-IsAntisymmetric}
use Rattle.std.specs.FinMap.Entries.{put}
use Rattle.std.proofs.lemmas.Bool.{ne_eqb}
use Rattle.std.proofs.lemmas.List.FromFn.{map-range_with_len_more}
use Rattle.std.proofs.lemmas.Map.Keys.{IsStrictlyIncreasing-from_sorted}
use Rattle.blk_base.proofs.Members.{in_cons, in_head, in_nothing, in_tail}
use Rattle.flat_model.specs.Records.{InodeRecord, new_dir}
use Rattle.flat_model.specs.Volume.{RunNumbers, RunSub, Subvolume, bare_numbers, bare_subvolume, bare_volume, mounted, note_ino, numbers_at_mount, subvolume_ids}
use Rattle.flat_model.proofs.Histories.{get_mounted, map_there}
use Rattle.flat_model.proofs.Maps.{no_length}
use Rattle.bare_state.specs.Bare.{bare_run}

-- ---- the numbers rise, and each is the next one

less_is : (k a : ℕ) → k < a → nat_cmp k a ≡ Less
less_is k a below = sym (nat_cmp_is k a Less below)

range_above : (k a n : ℕ) → k < a → AllByRecursion (λ y. nat_cmp k y ≡ Less) (range_with_len a n)
range_above k a zero below = tt
range_above k a (suc n) below = (less_is k a below, range_above k (a + 1) n (omega arith))

range_sorted : (a n : ℕ) → IsStrictlySortedBy nat_cmp (range_with_len a n)
unfolding IsStrictlySortedBy
range_sorted a zero = tt
range_sorted a (suc n) = (range_above a (a + 1) n (omega arith), range_sorted (a + 1) n)

ids_sorted : (n : ℕ) → IsStrictlySortedBy nat_cmp (subvolume_ids n)
unfolding IsStrictlySortedBy
ids_sorted zero = tt
ids_sorted (suc n) = (range_above 5 256 n (omega arith), range_sorted 256 n)

pub ids_rise : (n : ℕ) → IsStrictlyIncreasing (subvolume_ids n)
ids_rise n = IsStrictlyIncreasing-from_sorted (subvolume_ids n) (ids_sorted n)

range_more : (a n : ℕ) → range_with_len a (n + 1) ≡ range_with_len a n ++ (a + n) ∷ []
range_more a n =
    sym (same (range_with_len a (n + 1))) ∙ map-range_with_len_more (λ (k : ℕ). k) a n (a + n) refl ∙ ap (λ (xs : List ℕ). xs ++ (a + n) ∷ []) (same (range_with_len a n))
  where
    same : (xs : List ℕ) → map (λ (k : ℕ). k) xs ≡ xs
    same [] = refl
    same (x ∷ xs) = ap (λ (rest : List ℕ). x ∷ rest) (same xs)

ids_more : (count id : ℕ) → id ≡ 256 + count → subvolume_ids (suc count + 1) ≡ subvolume_ids (suc count) ++ id ∷ []
ids_more count id is =
    ap subvolume_ids (add-one (suc count)) ∙ ap (λ (xs : List ℕ). 5 ∷ xs) (ap (range_with_len 256) (sym (add-one count)) ∙ range_more 256 count ∙ ap (λ (k : ℕ). range_with_len 256 count ++ k ∷ []) (sym is))

pub ids_push : (count id : ℕ) → id ≡ cond (nat_eq count 0) 5 (255 + count) → subvolume_ids (count + 1) ≡ subvolume_ids count ++ id ∷ []
ids_push zero id is = ap (λ (k : ℕ). k ∷ []) (sym is)
ids_push (suc count) id is =
    let plain : id ≡ 255 + suc count = is ∙ ap (λ b. cond b 5 (255 + suc count)) (ne_eqb (suc count) 0 (λ e. omega (arith, e))) in
    ids_more count id (omega (arith, plain))

-- ---- what stands under them

abbrev pair : ℕ → ℕ × Subvolume
pair id = (id, bare_subvolume)

found_at : (ids : List ℕ) (q : ℕ) → Contains ids q → find nat_cmp q (map pair ids) ≡ Some bare_subvolume
found_at [] q there = absurd (in_nothing q there)
found_at (id ∷ ids) q there = elim (in_cons id q ids there) [
  | inl same ↦ ap (λ (r : Ordering). cond (is_eq r) (Some bare_subvolume) (find nat_cmp q (map pair ids))) (sym (nat_cmp_is q id Equal (sym same)))
  | inr rest ↦ later (nat_cmp q id) (found_at ids q rest)
]
  where
    later : (r : Ordering) → find nat_cmp q (map pair ids) ≡ Some bare_subvolume → cond (is_eq r) (Some bare_subvolume) (find nat_cmp q (map pair ids)) ≡ Some bare_subvolume
    later Less e = e
    later Equal e = refl
    later Greater e = e

found_in : (ids : List ℕ) (q : ℕ) (sub : Subvolume) → find nat_cmp q (map pair ids) ≡ Some sub → Contains ids q
found_in [] q sub e = absurd (none sub e)
  where
    none : (sub : Subvolume) → None ≡ Some sub → ⊥
    none sub e = cc
found_in (id ∷ ids) q sub e = go (found_in ids q sub) (nat_cmp q id) refl e
  where
    go : (find nat_cmp q (map pair ids) ≡ Some sub → Contains ids q) → (r : Ordering) → nat_cmp q id ≡ r → cond (is_eq r) (Some bare_subvolume) (find nat_cmp q (map pair ids)) ≡ Some sub → Contains (id ∷ ids) q
    go later Less is e = in_tail id q ids (later e)
    go later Equal is e = in_head id q ids (sym (nat_cmp-IsAntisymmetric q id is))
    go later Greater is e = in_tail id q ids (later e)

no_entries : (m : FinMap nat_cmp InodeRecord) → m ≡ empty → entries m ≡ []
no_entries m e = no_length (entries m) (sym (len-entries m) ∙ ap len e ∙ len-empty _ _)

bare_keys : keys (bare_subvolume.inodes) ≡ 256 ∷ []
bare_keys =
    ap (map (λ (e : ℕ × InodeRecord). e.0)) (entries-insert nat_cmp_total empty 256 new_dir ∙ ap (put nat_cmp 256 new_dir) (no_entries empty refl))

bare_numbers_at_mount : numbers_at_mount bare_subvolume ≡ bare_numbers
unfolding numbers_at_mount
bare_numbers_at_mount = ap (fold note_ino bare_numbers) bare_keys

-- under each of the numbers stands a bare subvolume
pub bare_there : (count id : ℕ) → Contains (subvolume_ids count) id → get (mounted (bare_volume count)) id ≡ Some bare_run
bare_there count id there =
    get_mounted (bare_volume count) id
    ∙ ap (option_map (λ (sub : Subvolume). record { sub = sub; numbers = numbers_at_mount sub })) (get-from_entries nat_cmp_total (map pair (subvolume_ids count)) id ∙ found_at (subvolume_ids count) id there)
    ∙ ap (λ (numbers : RunNumbers). Some (record { sub = bare_subvolume; numbers = numbers })) bare_numbers_at_mount

-- and nothing under another
pub bare_only : (count id : ℕ) (sub : RunSub) → get (mounted (bare_volume count)) id ≡ Some sub → Contains (subvolume_ids count) id
bare_only count id sub there =
    let found = map_there (λ (s : Subvolume). record { sub = s; numbers = numbers_at_mount s }) (get (bare_volume count) id) sub (sym (get_mounted (bare_volume count) id) ∙ there) in
    found_in (subvolume_ids count) id found.0 (sym (get-from_entries nat_cmp_total (map pair (subvolume_ids count)) id) ∙ found.1)
