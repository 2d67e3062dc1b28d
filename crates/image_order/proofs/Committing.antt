-- An image without a first fault stands for the volume that is found, and an image that stands for a volume has none.
use Rattle.std.proofs.Common.{◌≡◌, ◌≤◌, ◌<◌, ◌+◌, ◌-◌, ◌/◌, ◌++◌, ◌&&◌, ℕ, Bool, true, false, T, cond, List, [], ◌∷◌, length, map, flat_map, Contains, All, IsPermutation, Option, Some, None, Result, Ok, Err, nat_cmp, Ordering, is_lt, refl, sym, ap, subst, ◌∙◌, arith, inl, inr, append-nil, append_assoc, le-ltb, ltb-false}
use Rattle.std.proofs.lemmas.Option.{slice_get-get_or}
use Rattle.std.proofs.lemmas.List.Elements.{All-contains}
use Rattle.std.proofs.lemmas.List.Sorted.{IsPermutation-refl, IsPermutation-trans, IsPermutation-append_left, IsPermutation-append_right, IsPermutation-append_comm, length_permutation}
use Rattle.std.specs.Cmp.{nat_cmp_total}
use Rattle.std.specs.FinMap.{entries, entries_sorted, from_entries, put, is_sorted, entries-insert, nat_cmp-IsAntisymmetric}
use Rattle.std.specs.FinMap.Entries.{below_all, by_order}
use Rattle.blk_base.specs.declared.key.Key.{Key}
use Rattle.blk_base.specs.Address.{IsAllowed}
use Rattle.blk_base.specs.Bytes.{IsImage}
use Rattle.blk_base.specs.Leaf.{Item}
use Rattle.blk_base.specs.Items.{RootValue}
use Rattle.blk_base.specs.Superblock.{SuperValue, IsSuper}
use Rattle.format_laws.specs.Superblock.{IsSuper-from_read}
use Rattle.flat_model.specs.Volume.{Subvolume, Volume, bare_subvolume, bare_volume, subvolume_ids}
use Rattle.flat_model.specs.Coherent.{IsCoherent}
use Rattle.volume_image.specs.Tree.{Image, Walked, IsTree, NoneTwice}
use Rattle.volume_image.specs.Roots.{root_want, sub_want, roots_of}
use Rattle.volume_image.specs.Subvolume.{AreItemsOf, data_addresses}
use Rattle.volume_image.specs.Stands.{super_block, data_of, free_of, mount_need, AreSubvolumesAt, IsCommitted, Stands}
use Rattle.volume_image.proofs.Lists.{in_nothing, in_cons, entries_empty}
use Rattle.volume_image.proofs.Reaches.{head_in, tail_in}
use Rattle.volume_image.proofs.Rising.{less_from_test}
use Rattle.volume_image.proofs.Members.{in_map, get_in, in_get}
use Rattle.volume_image.proofs.Walk.{walked_alone}
use Rattle.volume_image.proofs.RootItems.{roots_are_read, length-subvolume_ids}
use Rattle.volume_image.proofs.BareVolumes.{bare_volume_entries}
use Rattle.image_faults.specs.Said.{said_sub}
use Rattle.image_faults.specs.Faulty.{AreReadable, HasData, StandOnce}
use Rattle.image_faults.specs.Lists.{once_permuted, gives_map}
use Rattle.image_faults.specs.Lowest.{first_faulty}
use Rattle.image_faults.proofs.Firsts.{none_is_faulty}
use Rattle.image_faults.proofs.FromLines.{are_items, are_coherent}
use Rattle.image_order.specs.FirstFault.{ImageFault, BadSuper, BadTree, roots_fault, FoundTree, FoundTrees, first_item_fault, as_item_fault, first_bad_item, all_data, incoherent, first_incoherent, Found, volume_in, committed_of, standing_of}
use Rattle.image_order.proofs.Steps.{bind_ok, fault_ok, unless_ok, first_none, none_first, not_found}
use Rattle.image_order.proofs.Items.{have_none_faultless, have_none_apart}
use Rattle.image_order.proofs.Bytes.{tree_fits}
use Rattle.image_order.proofs.Reached.{AreFound, FindsTrees, trees_found, ReachesData, data_found}

-- ---- reaches in another order

to_once : (xs : List ℕ) → NoneTwice xs → StandOnce xs
to_once [] n = tt
to_once (x ∷ xs) n = (n.0, to_once xs n.1)

from_once : (xs : List ℕ) → StandOnce xs → NoneTwice xs
from_once [] n = tt
from_once (x ∷ xs) n = (n.0, from_once xs n.1)

pub none_twice_permuted : (xs ys : List ℕ) → NoneTwice xs → IsPermutation ys xs → NoneTwice ys
none_twice_permuted xs ys n p = from_once ys (once_permuted xs ys (to_once xs n) p)

-- trees and their data one behind the other, or all trees and then all data
pub swap_data : (near here far there rest : List ℕ) → IsPermutation rest (far ++ there) → IsPermutation ((near ++ here) ++ rest) ((near ++ far) ++ (here ++ there))
swap_data near here far there rest p =
    let one = IsPermutation-append_right (near ++ here) rest (far ++ there) p in
    let shape : (near ++ here) ++ (far ++ there) ≡ near ++ ((here ++ far) ++ there) = append_assoc near here (far ++ there) ∙ ap (λ xs. near ++ xs) (sym (append_assoc here far there)) in
    let two = IsPermutation-append_right near ((here ++ far) ++ there) ((far ++ here) ++ there) (IsPermutation-append_left there (here ++ far) (far ++ here) (IsPermutation-append_comm here far)) in
    let last : near ++ ((far ++ here) ++ there) ≡ (near ++ far) ++ (here ++ there) = ap (λ xs. near ++ xs) (append_assoc far here there) ∙ sym (append_assoc near far (here ++ there)) in
    IsPermutation-trans ((near ++ here) ++ rest) ((near ++ here) ++ (far ++ there)) ((near ++ far) ++ (here ++ there)) one
    (subst (λ (xs : List ℕ). IsPermutation xs ((near ++ far) ++ (here ++ there))) (sym shape) (subst (λ (xs : List ℕ). IsPermutation (near ++ ((here ++ far) ++ there)) xs) last two))

-- ---- the volume of trees

abbrev pub entry_of : Image → FoundTree → ℕ × Subvolume
entry_of image tree = (tree.id, said_sub tree.items (data_of image))

both_true : (a b : Bool) → T (a && b) → T a × T b
both_true true b t = (tt, t)
both_true false b t = absurd t

both_hold : (a b : Bool) → T a → T b → T (a && b)
both_hold true b e t = t
both_hold false b e t = absurd e

true_test : (b : Bool) → T b → b ≡ true
true_test true t = refl
true_test false t = absurd t

put_front : (k : ℕ) (v : Subvolume) (es : List (ℕ × Subvolume)) → T (below_all nat_cmp k es) → put nat_cmp k v es ≡ (k, v) ∷ es
put_front k v [] below = refl
put_front k v (e ∷ es) below =
    let less = less_from_test (nat_cmp k e.0) (true_test _ (both_true (is_lt (nat_cmp k e.0)) (below_all nat_cmp k es) below).0) in
    ap (λ (r : Ordering). by_order r ((k, v) ∷ e ∷ es) ((e.0, v) ∷ es) (e ∷ put nat_cmp k v es)) less

sorted_entries : (es : List (ℕ × Subvolume)) → T (is_sorted nat_cmp es) → entries (from_entries {R = nat_cmp} es) ≡ es
sorted_entries [] sorted = entries_empty nat_cmp
sorted_entries (e ∷ es) sorted =
    let parts = both_true (below_all nat_cmp e.0 es) (is_sorted nat_cmp es) sorted in
    entries-insert nat_cmp_total (from_entries es) e.0 e.1 ∙ ap (put nat_cmp e.0 e.1) (sorted_entries es parts.1) ∙ put_front e.0 e.1 es parts.0

-- whether entries are in order depends on their keys alone
below_by : (k : ℕ) (ids : List ℕ) (es : List (ℕ × Subvolume)) → map (λ (e : ℕ × Subvolume). e.0) es ≡ ids → T (below_all nat_cmp k (map (λ id. (id, bare_subvolume)) ids)) → T (below_all nat_cmp k es)
below_by k ids [] same below = tt
below_by k [] (e ∷ es) same below = absurd cc
below_by k (id ∷ ids) (e ∷ es) same below =
    let first : e.0 ≡ id = cc in
    let others : map (λ (x : ℕ × Subvolume). x.0) es ≡ ids = cc in
    let parts = both_true (is_lt (nat_cmp k id)) (below_all nat_cmp k (map (λ (n : ℕ). (n, bare_subvolume)) ids)) below in
    both_hold (is_lt (nat_cmp k e.0)) (below_all nat_cmp k es) (subst (λ (n : ℕ). T (is_lt (nat_cmp k n))) (sym first) parts.0) (below_by k ids es others parts.1)

sorted_by : (ids : List ℕ) (es : List (ℕ × Subvolume)) → map (λ (e : ℕ × Subvolume). e.0) es ≡ ids → T (is_sorted nat_cmp (map (λ id. (id, bare_subvolume)) ids)) → T (is_sorted nat_cmp es)
sorted_by ids [] same sorted = tt
sorted_by [] (e ∷ es) same sorted = absurd cc
sorted_by (id ∷ ids) (e ∷ es) same sorted =
    let first : e.0 ≡ id = cc in
    let others : map (λ (x : ℕ × Subvolume). x.0) es ≡ ids = cc in
    let parts = both_true (below_all nat_cmp id (map (λ (n : ℕ). (n, bare_subvolume)) ids)) (is_sorted nat_cmp (map (λ (n : ℕ). (n, bare_subvolume)) ids)) sorted in
    both_hold (below_all nat_cmp e.0 es) (is_sorted nat_cmp es) (below_by e.0 ids es others (subst (λ (n : ℕ). T (below_all nat_cmp n (map (λ (m : ℕ). (m, bare_subvolume)) ids))) (sym first) parts.0)) (sorted_by ids es others parts.1)

ids_sorted : (n : ℕ) → T (is_sorted nat_cmp (map (λ id. (id, bare_subvolume)) (subvolume_ids n)))
ids_sorted n = subst (λ (es : List (ℕ × Subvolume)). T (is_sorted nat_cmp es)) (bare_volume_entries n) (entries_sorted (bare_volume n))

-- the map of a map's entries
pub again : (volume : Volume) → from_entries {R = nat_cmp} (entries volume) ≡ volume
again volume = gives_map nat_cmp_total nat_cmp-IsAntisymmetric (entries volume) volume (λ id sub c. in_get nat_cmp_total nat_cmp-IsAntisymmetric volume id sub c) (λ id sub h. get_in nat_cmp_total nat_cmp-IsAntisymmetric volume id sub h)

found_ids : (image : Image) (super : SuperValue) (ids : List ℕ) (roots : List RootValue) (trees : List FoundTree) (reach : List ℕ) → AreFound image super ids roots trees reach
    → map (λ (e : ℕ × Subvolume). e.0) (map (entry_of image) trees) ≡ ids
found_ids image super [] [] [] reach are = refl
found_ids image super [] [] (tree ∷ trees) reach are = absurd are
found_ids image super [] (root ∷ roots) [] reach are = absurd are
found_ids image super [] (root ∷ roots) (tree ∷ trees) reach are = absurd are
found_ids image super (id ∷ ids) [] [] reach are = absurd are
found_ids image super (id ∷ ids) [] (tree ∷ trees) reach are = absurd are
found_ids image super (id ∷ ids) (root ∷ roots) [] reach are = absurd are
found_ids image super (id ∷ ids) (root ∷ roots) (tree ∷ trees) reach (near, far, is_id, is_want, is_tree, others, is_reach) = λ i. is_id i ∷ found_ids image super ids roots trees far others i

-- ---- a tree without a fault

pub record IsGood (image : Image) (super : SuperValue) (tree : FoundTree) : Type 0 where
  pub same : AreItemsOf tree.items (data_of image) (said_sub tree.items (data_of image))
  pub coherent : IsCoherent (said_sub tree.items (data_of image))
  pub allowed : All (IsAllowed super.blocks) (data_addresses tree.items)

none_bad : (image : Image) (trees : List FoundTree) → first_bad_item image trees ≡ None → (tree : FoundTree) → Contains trees tree → first_item_fault None tree.items ≡ None
none_bad image [] e tree c = absurd (in_nothing tree c)
none_bad image (first ∷ trees) e tree c =
    let parts = first_none _ _ e in
    elim (in_cons first tree trees c) [
      | inl here ↦ subst (λ (t : FoundTree). first_item_fault None t.items ≡ None) here (no_item (first_item_fault None first.items) parts.0)
      | inr there ↦ none_bad image trees parts.1 tree there
    ]
  where
    no_item : (o : Option (Key × Rattle.blk_base.specs.declared.fault.ItemFault.ItemFault)) → as_item_fault image first.want o ≡ None → o ≡ None
    no_item None e = refl
    no_item (Some fault) e = absurd cc

pub bad_none : (image : Image) (trees : List FoundTree) → ((tree : FoundTree) → Contains trees tree → first_item_fault None tree.items ≡ None) → first_bad_item image trees ≡ None
bad_none image [] each = refl
bad_none image (tree ∷ trees) each = none_first _ _ (ap (as_item_fault image tree.want) (each tree (head_in tree trees))) (bad_none image trees (λ other c. each other (tail_in tree other trees c)))

none_incoherent : (image : Image) (trees : List FoundTree) → first_incoherent image trees ≡ None → (tree : FoundTree) → Contains trees tree → first_faulty tree.items (data_of image) ≡ None
none_incoherent image [] e tree c = absurd (in_nothing tree c)
none_incoherent image (first ∷ trees) e tree c =
    let parts = first_none _ _ e in
    elim (in_cons first tree trees c) [
      | inl here ↦ subst (λ (t : FoundTree). first_faulty t.items (data_of image) ≡ None) here (no_inode (first_faulty first.items (data_of image)) parts.0)
      | inr there ↦ none_incoherent image trees parts.1 tree there
    ]
  where
    no_inode : (o : Option ℕ) → incoherent first.id o ≡ None → o ≡ None
    no_inode None e = refl
    no_inode (Some ino) e = absurd cc

pub incoherent_none : (image : Image) (trees : List FoundTree) → ((tree : FoundTree) → Contains trees tree → first_faulty tree.items (data_of image) ≡ None) → first_incoherent image trees ≡ None
incoherent_none image [] each = refl
incoherent_none image (tree ∷ trees) each = none_first _ _ (ap (incoherent tree.id) (each tree (head_in tree trees))) (incoherent_none image trees (λ other c. each other (tail_in tree other trees c)))

-- data at allowed addresses are there
data_held : (image : Image) (blocks : ℕ) (items : List Item) → blocks ≤ length image → All (IsAllowed blocks) (data_addresses items) → HasData items (data_of image)
data_held image blocks items on_disk allowed at c =
    let inside = (All-contains (IsAllowed blocks) (data_addresses items) at allowed c).inside in
    (Rattle.std.proofs.Common.get_or image (at / 4096) [], slice_get-get_or image (at / 4096) [] (omega arith))

-- a found tree that passes the checks
good_tree : (image : Image) (super : SuperValue) (tree : FoundTree) (want : Rattle.blk_base.specs.declared.key.Want.Want) (reach : List ℕ) → IsImage image → super.blocks ≤ length image → IsTree image super.blocks want tree.items reach
    → first_item_fault None tree.items ≡ None → All (IsAllowed super.blocks) (data_addresses tree.items) → first_faulty tree.items (data_of image) ≡ None → IsGood image super tree
good_tree image super tree want reach are on_disk is_tree none allowed whole =
    let fits = tree_fits image super.blocks want tree.items reach are is_tree in
    let readable : AreReadable tree.items = record {
      rise = is_tree.order;
      bytes = λ key bytes c. (fits (key, bytes) c).bytes;
      short = λ key bytes c. (fits (key, bytes) c).short;
      faultless = have_none_faultless tree.items none;
      apart = have_none_apart tree.items is_tree.order none;
    } in
    let held = data_held image super.blocks tree.items on_disk allowed in
    let right = none_is_faulty tree.items (data_of image) whole in
    record { same = are_items tree.items (data_of image) readable held right; coherent = are_coherent tree.items (data_of image) readable held right; allowed = allowed }

-- ---- from the image to what it commits to

-- the subvolumes of good trees
pub record HasSubvolumes (image : Image) (super : SuperValue) (roots : List RootValue) (trees : List FoundTree) (reach : List ℕ) : Type 0 where
  pub sub_reach : List ℕ
  pub subvolumes : AreSubvolumesAt image super roots (map (entry_of image) trees) sub_reach
  pub same : IsPermutation sub_reach (reach ++ all_data trees)

subvolumes_of : (image : Image) (super : SuperValue) (ids : List ℕ) (roots : List RootValue) (trees : List FoundTree) (reach : List ℕ) → AreFound image super ids roots trees reach → ((tree : FoundTree) → Contains trees tree → IsGood image super tree)
    → HasSubvolumes image super roots trees reach
subvolumes_of image super [] [] [] reach are good = record { sub_reach = []; subvolumes = refl; same = subst (λ (xs : List ℕ). IsPermutation [] (xs ++ [])) (sym are) (IsPermutation-refl []) }
subvolumes_of image super [] [] (tree ∷ trees) reach are good = absurd are
subvolumes_of image super [] (root ∷ roots) [] reach are good = absurd are
subvolumes_of image super [] (root ∷ roots) (tree ∷ trees) reach are good = absurd are
subvolumes_of image super (id ∷ ids) [] [] reach are good = absurd are
subvolumes_of image super (id ∷ ids) [] (tree ∷ trees) reach are good = absurd are
subvolumes_of image super (id ∷ ids) (root ∷ roots) [] reach are good = absurd are
subvolumes_of image super (id ∷ ids) (root ∷ roots) (tree ∷ trees) reach (near, far, is_id, is_want, is_tree, others, is_reach) good =
    let rest = subvolumes_of image super ids roots trees far others (λ other c. good other (tail_in tree other trees c)) in
    let is = good tree (head_in tree trees) in
    record {
      sub_reach = (near ++ data_addresses tree.items) ++ rest.sub_reach;
      subvolumes = (
        near ++ data_addresses tree.items,
        rest.sub_reach,
        record {
          items = tree.items;
          tree_reach = near;
          tree = subst (λ (n : ℕ). IsTree image super.blocks (sub_want super n root) tree.items near) (sym is_id) is_tree;
          same = is.same;
          allowed = is.allowed;
          reached = refl;
        },
        rest.subvolumes,
        refl,
      );
      same = subst (λ (xs : List ℕ). IsPermutation ((near ++ data_addresses tree.items) ++ rest.sub_reach) (xs ++ (data_addresses tree.items ++ all_data trees))) (sym is_reach)
          (swap_data near (data_addresses tree.items) far (all_data trees) rest.sub_reach rest.same);
    }

all_part : {X Y : Type 0} (P : Y → Type 0) (f : X → List Y) (xs : List X) → All P (flat_map f xs) → (x : X) → Contains xs x → All P (f x)
all_part P f [] all x c = absurd (in_nothing x c)
all_part P f (y ∷ xs) all x c =
    let parts = Rattle.volume_image.proofs.Lists.all_parts P (f y) (flat_map f xs) all in
    elim (in_cons y x xs c) [ inl here ↦ subst (λ z. All P (f z)) here parts.0 | inr there ↦ all_part P f xs parts.1 x there ]

-- each found tree is a tree
each_tree : (image : Image) (super : SuperValue) (ids : List ℕ) (roots : List RootValue) (trees : List FoundTree) (reach : List ℕ) → AreFound image super ids roots trees reach → (tree : FoundTree) → Contains trees tree
    → (want : Rattle.blk_base.specs.declared.key.Want.Want) × (near : List ℕ) × IsTree image super.blocks want tree.items near
each_tree image super [] [] [] reach are tree c = absurd (in_nothing tree c)
each_tree image super [] [] (first ∷ trees) reach are tree c = absurd are
each_tree image super [] (root ∷ roots) [] reach are tree c = absurd are
each_tree image super [] (root ∷ roots) (first ∷ trees) reach are tree c = absurd are
each_tree image super (id ∷ ids) [] [] reach are tree c = absurd are
each_tree image super (id ∷ ids) [] (first ∷ trees) reach are tree c = absurd are
each_tree image super (id ∷ ids) (root ∷ roots) [] reach are tree c = absurd are
each_tree image super (id ∷ ids) (root ∷ roots) (first ∷ trees) reach (near, far, is_id, is_want, is_tree, others, is_reach) tree c = elim (in_cons first tree trees c) [
  | inl here ↦ (sub_want super id root, near, subst (λ (t : FoundTree). IsTree image super.blocks (sub_want super id root) t.items near) here is_tree)
  | inr there ↦ each_tree image super ids roots trees far others tree there
]

-- what was committed, with a reach that is as long as what was reached
pub record Commits (image : Image) (found : Found) : Type 0 where
  pub reach : List ℕ
  pub spelled : IsSuper (super_block image) (length image) found.super
  pub committed : IsCommitted image found.super (volume_in image found) reach
  pub long : length reach ≡ length found.reached

pub commits : (image : Image) (found : Found) → IsImage image → committed_of image ≡ Ok found → Commits image found
unfolding committed_of
commits image found are e =
    let s = bind_ok _ _ found e in
    let super = s.0 in
    let is_super = IsSuper-from_read (super_block image) (length image) super (fault_ok BadSuper _ super s.1) in
    let w = bind_ok _ _ found s.2 in
    let walked = w.0 in
    let root_tree = (walked_alone image super.blocks (root_want super) walked).0 (fault_ok BadTree _ walked w.1) in
    let r = bind_ok _ _ found w.2 in
    let roots = r.0 in
    let read = (roots_are_read walked.items roots).0 (fault_ok (roots_fault image super) _ roots r.1) in
    let t = bind_ok _ _ found r.2 in
    let trees = t.0 in
    let finds = trees_found image super (subvolume_ids (length roots)) roots walked.reached trees (length-subvolume_ids (length roots)) t.1 in
    let items = unless_ok _ _ found t.2 in
    let d = bind_ok _ _ found items.1 in
    let data_reach = data_found super.blocks (all_data trees.trees) trees.reached d.0 d.1 in
    let whole = unless_ok _ _ found d.2 in
    let same : record { super = super; trees = trees.trees; reached = d.0 } ≡ found = ok_same _ found whole.1 in
    subst (λ (f : Found). Commits image f) same (made super is_super walked root_tree roots read trees finds items.0 d.0 data_reach whole.0)
  where
    ok_same : {A : Type 0} (x y : A) → ◌≡◌ {A = Result A ImageFault} (Ok x) (Ok y) → x ≡ y
    ok_same x y e = cc

    made : (super : SuperValue) → IsSuper (super_block image) (length image) super → (walked : Walked) → IsTree image super.blocks (root_want super) walked.items walked.reached → (roots : List RootValue)
        → (1 ≤ length roots) × (length roots ≤ 16) × Rattle.volume_image.specs.Roots.AreRootItems walked.items (subvolume_ids (length roots)) roots → (trees : FoundTrees) → FindsTrees image super (subvolume_ids (length roots)) roots walked.reached trees
        → first_bad_item image trees.trees ≡ None → (out : List ℕ) → ReachesData super.blocks (all_data trees.trees) trees.reached out → first_incoherent image trees.trees ≡ None
        → Commits image (record { super = super; trees = trees.trees; reached = out })
    made super is_super walked root_tree roots read trees finds bad out data_reach whole =
        let good : (tree : FoundTree) → Contains trees.trees tree → IsGood image super tree =
        λ tree c.
        let is = each_tree image super (subvolume_ids (length roots)) roots trees.trees finds.reach finds.found tree c in
        good_tree image super tree is.0 is.1 are is_super.on_disk is.2 (none_bad image trees.trees bad tree c) (all_part (IsAllowed super.blocks) (λ (t : FoundTree). data_addresses t.items) trees.trees data_reach.allowed tree c) (none_incoherent image trees.trees whole tree c) in
        let subs = subvolumes_of image super (subvolume_ids (length roots)) roots trees.trees finds.reach finds.found good in
        let ids = found_ids image super (subvolume_ids (length roots)) roots trees.trees finds.reach finds.found in
        let listed = sorted_entries (map (entry_of image) trees.trees) (sorted_by (subvolume_ids (length roots)) (map (entry_of image) trees.trees) ids (ids_sorted (length roots))) in
        let joined : trees.reached ++ all_data trees.trees ≡ walked.reached ++ (finds.reach ++ all_data trees.trees) = ap (λ xs. xs ++ all_data trees.trees) finds.reached ∙ append_assoc walked.reached finds.reach (all_data trees.trees) in
        let total : out ≡ walked.reached ++ (finds.reach ++ all_data trees.trees) = data_reach.reached ∙ joined in
        let perm = IsPermutation-append_right walked.reached subs.sub_reach (finds.reach ++ all_data trees.trees) subs.same in
        let once = subst NoneTwice joined (data_reach.once (subst NoneTwice (sym finds.reached) (finds.once root_tree.once))) in
        let size = length_permutation (walked.reached ++ subs.sub_reach) (walked.reached ++ (finds.reach ++ all_data trees.trees)) perm in
        record {
          reach = walked.reached ++ subs.sub_reach;
          spelled = is_super;
          committed = record {
            items = walked.items;
            roots = roots;
            root_reach = walked.reached;
            sub_reach = subs.sub_reach;
            root_tree = root_tree;
            least = read.0;
            most = read.1;
            root_items = read.2;
            ids = ap (map (λ (e : ℕ × Subvolume). e.0)) listed ∙ ids;
            subvolumes = subst (λ (es : List (ℕ × Subvolume)). AreSubvolumesAt image super roots es subs.sub_reach) (sym listed) subs.subvolumes;
            reached = refl;
            once = none_twice_permuted (walked.reached ++ (finds.reach ++ all_data trees.trees)) (walked.reached ++ subs.sub_reach) once perm;
            coherent = λ id sub there.
                let has = subst (λ (es : List (ℕ × Subvolume)). Contains es (id, sub)) listed (get_in nat_cmp_total nat_cmp-IsAntisymmetric (from_entries (map (entry_of image) trees.trees)) id sub there) in
                let tree = in_map (entry_of image) trees.trees (id, sub) has in
                subst IsCoherent (ap (λ (e : ℕ × Subvolume). e.1) tree.2) (good tree.0 tree.1).coherent;
          };
          long = sym size ∙ ap length (sym total);
        }

pub stands : (image : Image) (found : Found) → IsImage image → standing_of image ≡ Ok found → found.super.log_root ≡ 0 → Stands image (volume_in image found)
unfolding standing_of
stands image found are e no_log =
    let c = bind_ok _ _ found e in
    let room = not_found _ _ _ found c.2 in
    let same : c.0 ≡ found = ok_same c.0 found room.1 in
    let is = commits image found are (c.1 ∙ ap Ok same) in
    let enough = ltb-false (free_of c.0.super.blocks (length c.0.reached)) mount_need room.0 in
    let fits : mount_need ≤ free_of found.super.blocks (length is.reach) =
    subst (λ (n : ℕ). mount_need ≤ free_of found.super.blocks n) (sym is.long) (subst (λ (f : Found). mount_need ≤ free_of f.super.blocks (length f.reached)) same enough) in
    record { reach = is.reach; by_reach = record { super = found.super; spelled = is.spelled; committed = is.committed; no_log = no_log; room = fits } }
  where
    ok_same : {A : Type 0} (x y : A) → ◌≡◌ {A = Result A ImageFault} (Ok x) (Ok y) → x ≡ y
    ok_same x y e = cc
