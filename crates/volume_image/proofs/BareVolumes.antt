-- An image whose root tree has root items of leaves with the bare items stands for the bare volume of so many subvolumes.
use Rattle.std.proofs.Common.{◌≡◌, ◌<◌, ◌≤◌, ◌+◌, ◌^◌, ◌&&◌, ◌++◌, ℕ, zero, suc, Bool, true, false, T, List, [], ◌∷◌, length, map, All, Ok, Some, None, Ordering, Less, Equal, Greater, nat_cmp, is_eq, is_lt, cond, refl, sym, ap, subst, ◌∙◌, arith, lt-ltb}
use Rattle.std.proofs.lemmas.List.Elements.{All-nil, All-cons, All-head, All-tail}
use Rattle.std.proofs.lemmas.List.{length-map}
use Rattle.std.specs.List.{range_with_len}
use Rattle.std.specs.Cmp.{nat_cmp_total}
use Rattle.std.specs.FinMap.{entries, from_entries, find, put, is_sorted, get-from_entries, entries-insert}
use Rattle.std.specs.FinMap.Entries.{below_all, by_order}
use Rattle.blk_base.specs.Address.{IsAllowed}
use Rattle.blk_base.specs.Leaf.{leaf_of}
use Rattle.blk_base.specs.Superblock.{SuperValue, IsSuper}
use Rattle.format_laws.specs.Items.{IsRoot-from_read, root_reads_back}
use Rattle.format_laws.specs.Blocks.{IsLeaf-from_read}
use Rattle.flat_model.specs.Volume.{Subvolume, bare_subvolume, bare_volume, subvolume_ids}
use Rattle.flat_model.specs.Coherent.{IsCoherent, IsCoherentVolume}
use Rattle.volume_image.specs.Tree.{Image, IsTree, NoneTwice, block_of}
use Rattle.volume_image.specs.Stands.{super_block, root_want, sub_want, data_of, AreRootItems, IsSubvolumeAt, AreSubvolumesAt, StandsBy}
use Rattle.volume_image.specs.Bare.{bare_items, bare_root, bare_roots_items, AreBareLeaves}
use Rattle.volume_image.proofs.Lists.{entries_empty}
use Rattle.volume_image.proofs.Rising.{less_from_test}
use Rattle.volume_image.proofs.BareSubvolume.{bare_subvolume_is_coherent}
use Rattle.volume_image.proofs.BareItems.{bare_items_are}
use Rattle.volume_image.proofs.BareVolume.{leaf_tree}

-- ---- the entries of a bare volume

-- a subvolume of each number
abbrev bare_entries : List ℕ → List (ℕ × Subvolume)
bare_entries ids = map (λ id. (id, bare_subvolume)) ids

both_true : (a b : Bool) → T (a && b) → T a × T b
both_true true b t = (tt, t)
both_true false b t = absurd t

true_test : (b : Bool) → T b → b ≡ true
true_test true t = refl
true_test false t = absurd t

both_hold : (a b : Bool) → a ≡ true → T b → T (a && b)
both_hold true b e t = t
both_hold false b e t = absurd cc

put_front : (k : ℕ) (v : Subvolume) (es : List (ℕ × Subvolume)) → T (below_all nat_cmp k es) → put nat_cmp k v es ≡ (k, v) ∷ es
put_front k v [] below = refl
put_front k v (e ∷ es) below =
    let less = less_from_test (nat_cmp k e.0) (true_test _ (both_true (is_lt (nat_cmp k e.0)) (below_all nat_cmp k es) below).0) in
    ap (λ (r : Ordering). by_order r ((k, v) ∷ e ∷ es) ((e.0, v) ∷ es) (e ∷ put nat_cmp k v es)) less

sorted_entries : (es : List (ℕ × Subvolume)) → T (is_sorted nat_cmp es) → entries (from_entries {R = nat_cmp} es) ≡ es
sorted_entries [] sorted = entries_empty nat_cmp
sorted_entries (e ∷ es) sorted =
    let parts = both_true (below_all nat_cmp e.0 es) (is_sorted nat_cmp es) sorted in
    entries-insert nat_cmp_total (from_entries es) e.0 e.1 ∙ ap (put nat_cmp e.0 e.1) (sorted_entries es parts.1) ∙ put_front e.0 e.1 es parts.0

less_test : (a b : ℕ) → a < b → is_lt (nat_cmp a b) ≡ true
less_test a b below = rw (lt-ltb a b below) refl

below_range : (k a n : ℕ) → k < a → T (below_all nat_cmp k (bare_entries (range_with_len a n)))
below_range k a zero below = tt
below_range k a (suc n) below = both_hold (is_lt (nat_cmp k a)) (below_all nat_cmp k (bare_entries (range_with_len (a + 1) n))) (less_test k a below) (below_range k (a + 1) n (omega arith))

range_sorted : (a n : ℕ) → T (is_sorted nat_cmp (bare_entries (range_with_len a n)))
range_sorted a zero = tt
range_sorted a (suc n) =
    both_hold (below_all nat_cmp a (bare_entries (range_with_len (a + 1) n))) (is_sorted nat_cmp (bare_entries (range_with_len (a + 1) n))) (true_test _ (below_range a (a + 1) n (omega arith))) (range_sorted (a + 1) n)

ids_sorted : (n : ℕ) → T (is_sorted nat_cmp (bare_entries (subvolume_ids n)))
ids_sorted zero = tt
ids_sorted (suc n) = both_hold (below_all nat_cmp 5 (bare_entries (range_with_len 256 n))) (is_sorted nat_cmp (bare_entries (range_with_len 256 n))) (true_test _ (below_range 5 256 n (omega arith))) (range_sorted 256 n)

pub bare_volume_entries : (n : ℕ) → entries (bare_volume n) ≡ map (λ id. (id, bare_subvolume)) (subvolume_ids n)
bare_volume_entries n = sorted_entries (bare_entries (subvolume_ids n)) (ids_sorted n)

ids_back : (ids : List ℕ) → map (λ (entry : ℕ × Subvolume). entry.0) (bare_entries ids) ≡ ids
ids_back [] = refl
ids_back (id ∷ ids) = ap (λ (rest : List ℕ). id ∷ rest) (ids_back ids)

found_bare : (ids : List ℕ) (q : ℕ) (sub : Subvolume) → find nat_cmp q (bare_entries ids) ≡ Some sub → bare_subvolume ≡ sub
found_bare [] q sub e = absurd (none sub e)
  where
    none : (sub : Subvolume) → None ≡ Some sub → ⊥
    none sub e = cc
found_bare (id ∷ ids) q sub e = go (found_bare ids q sub) (nat_cmp q id) e
  where
    go : (find nat_cmp q (bare_entries ids) ≡ Some sub → bare_subvolume ≡ sub) → (r : Ordering) → cond (is_eq r) (Some bare_subvolume) (find nat_cmp q (bare_entries ids)) ≡ Some sub → bare_subvolume ≡ sub
    go later Less e = later e
    go later Equal e = cc
    go later Greater e = later e

pub bare_volumes_are_coherent : (n : ℕ) → IsCoherentVolume (bare_volume n)
bare_volumes_are_coherent n id sub there =
    subst IsCoherent (found_bare (subvolume_ids n) id sub (sym (get-from_entries nat_cmp_total (bare_entries (subvolume_ids n)) id) ∙ there)) bare_subvolume_is_coherent

-- ---- the trees

bare_root_items_are : (generation blocks : ℕ) (ids addresses : List ℕ) → generation < 2 ^ 64 → blocks ≤ 65536 → All (IsAllowed blocks) addresses → length ids ≡ length addresses
    → AreRootItems (bare_roots_items generation ids addresses) ids (map (bare_root generation) addresses)
bare_root_items_are generation blocks [] [] fits most allowed same = tt
bare_root_items_are generation blocks [] (at ∷ addresses) fits most allowed same = absurd (omega arith)
bare_root_items_are generation blocks (id ∷ ids) [] fits most allowed same = absurd (omega arith)
bare_root_items_are generation blocks (id ∷ ids) (at ∷ addresses) fits most allowed same =
    let first = All-head (IsAllowed blocks) at addresses allowed in
    let inside = first.inside in (
      refl,
      IsRoot-from_read _ _ (root_reads_back (bare_root generation at) (record { generation = fits; at = omega arith; level = omega arith })),
      bare_root_items_are generation blocks ids addresses fits most (All-tail (IsAllowed blocks) at addresses allowed) (omega arith),
    )

leaves_allowed : (image : Image) (super : SuperValue) (ids addresses : List ℕ) → AreBareLeaves image super ids addresses → All (IsAllowed super.blocks) addresses × (length ids ≡ length addresses)
leaves_allowed image super [] [] leaves = (All-nil (IsAllowed super.blocks), refl)
leaves_allowed image super [] (at ∷ addresses) leaves = absurd leaves
leaves_allowed image super (id ∷ ids) [] leaves = absurd leaves
leaves_allowed image super (id ∷ ids) (at ∷ addresses) leaves =
    let rest = leaves_allowed image super ids addresses leaves.2 in
    (All-cons (IsAllowed super.blocks) at addresses leaves.0 rest.0, ap suc rest.1)

bare_sub_is_at : (image : Image) (super : SuperValue) (id at : ℕ) → super.generation < 2 ^ 64 → IsAllowed super.blocks at
    → leaf_of (sub_want super id (bare_root super.generation at)) (block_of image at) ≡ Ok (bare_items super.generation)
    → IsSubvolumeAt image super id (bare_root super.generation at) bare_subvolume (at ∷ [])
bare_sub_is_at image super id at fits allowed leaf = record {
  items = bare_items super.generation;
  tree_reach = at ∷ [];
  tree = leaf_tree image super.blocks (sub_want super id (bare_root super.generation at)) (bare_items super.generation) refl allowed (IsLeaf-from_read _ _ _ leaf) (refl, tt);
  same = bare_items_are (data_of image) super.generation fits;
  allowed = All-nil _;
  reached = refl;
}

bare_subs_are_at : (image : Image) (super : SuperValue) (ids addresses : List ℕ) → super.generation < 2 ^ 64 → AreBareLeaves image super ids addresses
    → AreSubvolumesAt image super (map (bare_root super.generation) addresses) (map (λ id. (id, bare_subvolume)) ids) addresses
bare_subs_are_at image super [] [] fits leaves = refl
bare_subs_are_at image super [] (at ∷ addresses) fits leaves = absurd leaves
bare_subs_are_at image super (id ∷ ids) [] fits leaves = absurd leaves
bare_subs_are_at image super (id ∷ ids) (at ∷ addresses) fits leaves =
    (at ∷ [], addresses, bare_sub_is_at image super id at fits leaves.0 leaves.1, bare_subs_are_at image super ids addresses fits leaves.2, refl)

pub bare_volumes_stand_lem : (image : Image) (super : SuperValue) (root_reach addresses : List ℕ) → IsSuper (super_block image) (length image) super → super.log_root ≡ 0 → super.generation < 2 ^ 64
    → 1 ≤ length addresses → length addresses ≤ 16
    → IsTree image super.blocks (root_want super) (bare_roots_items super.generation (subvolume_ids (length addresses)) addresses) root_reach
    → AreBareLeaves image super (subvolume_ids (length addresses)) addresses
    → NoneTwice (root_reach ++ addresses) → length (root_reach ++ addresses) + 198 ≤ super.blocks
    → StandsBy image (bare_volume (length addresses)) (root_reach ++ addresses)
bare_volumes_stand_lem image super root_reach addresses is_super no_log fits least most tree leaves once room =
    let many : length (map (bare_root super.generation) addresses) ≡ length addresses = length-map addresses (bare_root super.generation) in
    let ids = subvolume_ids (length addresses) in
    let sizes = leaves_allowed image super ids addresses leaves in
    let listed = bare_volume_entries (length addresses) in
    record {
      super = super;
      spelled = is_super;
      committed = record {
        items = bare_roots_items super.generation (subvolume_ids (length addresses)) addresses;
        roots = map (bare_root super.generation) addresses;
        root_reach = root_reach;
        sub_reach = addresses;
        root_tree = tree;
        least = omega arith;
        most = omega arith;
        root_items = subst (λ (n : ℕ). AreRootItems (bare_roots_items super.generation (subvolume_ids (length addresses)) addresses) (subvolume_ids n) (map (bare_root super.generation) addresses)) (sym many)
            (bare_root_items_are super.generation super.blocks (subvolume_ids (length addresses)) addresses fits is_super.greatest sizes.0 sizes.1);
        ids = ap (map (λ (entry : ℕ × Subvolume). entry.0)) listed ∙ ids_back (subvolume_ids (length addresses)) ∙ ap subvolume_ids (sym many);
        subvolumes = subst (λ (subs : List (ℕ × Subvolume)). AreSubvolumesAt image super (map (bare_root super.generation) addresses) subs addresses) (sym listed)
            (bare_subs_are_at image super (subvolume_ids (length addresses)) addresses fits leaves);
        reached = refl;
        once = once;
        coherent = bare_volumes_are_coherent (length addresses);
      };
      no_log = no_log;
      room = omega arith;
    }
