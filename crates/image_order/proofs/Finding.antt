-- An image that stands for a volume has no first fault, and that volume is found.
use Rattle.std.proofs.Common.{◌≡◌, ◌≤◌, ◌++◌, ℕ, List, [], ◌∷◌, length, map, Contains, All, IsPermutation, None, Ok, nat_cmp, refl, sym, ap, subst, ◌∙◌, inl, inr, append_assoc, le-ltb}
use Rattle.std.proofs.lemmas.List.Elements.{All-nil, All-append}
use Rattle.std.proofs.lemmas.List.Sorted.{IsPermutation-refl, IsPermutation-sym, IsPermutation-append_right, length_permutation}
use Rattle.std.specs.Cmp.{nat_cmp_total}
use Rattle.std.specs.FinMap.{entries, from_entries, nat_cmp-IsAntisymmetric}
use Rattle.blk_base.specs.Address.{IsAllowed}
use Rattle.blk_base.specs.Leaf.{Item}
use Rattle.blk_base.specs.Items.{RootValue}
use Rattle.blk_base.specs.Superblock.{SuperValue, IsSuper}
use Rattle.format_laws.specs.Superblock.{super_of-Ok}
use Rattle.item_laws.proofs.FaultLaws.{item_faultless}
use Rattle.flat_model.specs.Volume.{Subvolume, Volume, subvolume_ids}
use Rattle.flat_model.specs.Coherent.{IsCoherent}
use Rattle.volume_image.specs.Tree.{Image, Walked, IsTree, NoneTwice}
use Rattle.volume_image.specs.Roots.{root_want, sub_want}
use Rattle.volume_image.specs.Subvolume.{AreItemsOf, data_addresses}
use Rattle.volume_image.specs.Stands.{super_block, data_of, free_of, mount_need, AreSubvolumesAt, IsCommitted, Stands}
use Rattle.volume_image.proofs.Lists.{in_nothing, in_cons}
use Rattle.volume_image.proofs.Reaches.{head_in, tail_in, none_twice_parts}
use Rattle.volume_image.proofs.Members.{in_get}
use Rattle.volume_image.proofs.Walk.{walked_alone}
use Rattle.volume_image.proofs.RootItems.{roots_are_read}
use Rattle.volume_image.proofs.OwnKeys.{asked_is_spelled}
use Rattle.image_faults.specs.Lowest.{first_faulty}
use Rattle.image_faults.proofs.Firsts.{none_is_first}
use Rattle.image_faults.proofs.OfLines.{is_said, no_fault_of}
use Rattle.image_order.specs.FirstFault.{BadSuper, BadTree, roots_fault, FoundTree, FoundTrees, first_item_fault, all_data, Found, volume_in, committed_of, with_room, standing_of}
use Rattle.image_order.proofs.Steps.{ok_bind, ok_fault, ok_unless, finds_none}
use Rattle.image_order.proofs.Items.{items_have_none}
use Rattle.image_order.proofs.Reached.{AreFound, found_trees, found_data}
use Rattle.image_order.proofs.Committing.{entry_of, none_twice_permuted, swap_data, again, bad_none, incoherent_none}

-- a tree whose items and inodes have no fault
pub record IsReady (image : Image) (tree : FoundTree) : Type 0 where
  pub items : first_item_fault None tree.items ≡ None
  pub inodes : first_faulty tree.items (data_of image) ≡ None

-- the trees of subvolumes
pub record GivesTrees (image : Image) (super : SuperValue) (roots : List RootValue) (subs : List (ℕ × Subvolume)) (sub_reach : List ℕ) : Type 0 where
  pub trees : List FoundTree
  pub reach : List ℕ
  pub found : AreFound image super (map (λ (e : ℕ × Subvolume). e.0) subs) roots trees reach
  pub same : IsPermutation sub_reach (reach ++ all_data trees)
  pub entries : map (entry_of image) trees ≡ subs
  pub ready : (tree : FoundTree) → Contains trees tree → IsReady image tree
  pub allowed : All (IsAllowed super.blocks) (all_data trees)

ready_items : (image : Image) (items : List Item) (sub : Subvolume) → Rattle.volume_image.specs.Tree.ItemsRise items → AreItemsOf items (data_of image) sub → first_item_fault None items ≡ None
ready_items image items sub rise are = items_have_none items rise (λ key bytes c. item_faultless key bytes (asked_is_spelled sub (data_of image) key bytes (are.only key bytes c))) are.apart

gives_trees : (image : Image) (super : SuperValue) (roots : List RootValue) (subs : List (ℕ × Subvolume)) (reach : List ℕ) → AreSubvolumesAt image super roots subs reach → ((e : ℕ × Subvolume) → Contains subs e → IsCoherent e.1)
    → GivesTrees image super roots subs reach
gives_trees image super [] [] reach are whole = record {
  trees = [];
  reach = [];
  found = refl;
  same = subst (λ (xs : List ℕ). IsPermutation xs []) (sym are) (IsPermutation-refl []);
  entries = refl;
  ready = λ tree c. absurd (in_nothing tree c);
  allowed = All-nil (IsAllowed super.blocks);
}
gives_trees image super [] (sub ∷ subs) reach are whole = absurd are
gives_trees image super (root ∷ roots) [] reach are whole = absurd are
gives_trees image super (root ∷ roots) (sub ∷ subs) reach (near, far, is, others, is_reach) whole =
    let rest = gives_trees image super roots subs far others (λ e c. whole e (tail_in sub e subs c)) in
    let coherent = whole sub (head_in sub subs) in
    let tree : FoundTree = record { id = sub.0; want = sub_want super sub.0 root; items = is.items } in
    let said = is_said is.items (data_of image) sub.1 is.tree.order is.same coherent in
    let mine : IsReady image tree = record {
      items = ready_items image is.items sub.1 is.tree.order is.same;
      inodes = none_is_first is.items (data_of image) (no_fault_of is.items (data_of image) sub.1 is.tree.order is.same coherent);
    } in
    let shape : (is.tree_reach ++ data_addresses is.items) ++ far ≡ reach = ap (λ xs. xs ++ far) (sym is.reached) ∙ sym is_reach in
    record {
      trees = tree ∷ rest.trees;
      reach = is.tree_reach ++ rest.reach;
      found = (is.tree_reach, rest.reach, refl, refl, is.tree, rest.found, refl);
      same = subst (λ (xs : List ℕ). IsPermutation xs ((is.tree_reach ++ rest.reach) ++ (data_addresses is.items ++ all_data rest.trees))) shape (swap_data is.tree_reach (data_addresses is.items) rest.reach (all_data rest.trees) far rest.same);
      entries = λ i. (sub.0, said i) ∷ rest.entries i;
      ready = λ other c. elim (in_cons tree other rest.trees c) [ inl here ↦ subst (IsReady image) here mine | inr there ↦ rest.ready other there ];
      allowed = All-append (IsAllowed super.blocks) (data_addresses is.items) (all_data rest.trees) is.allowed rest.allowed;
    }

-- what was found of what is committed
pub record Finds (image : Image) (super : SuperValue) (volume : Volume) (reach : List ℕ) : Type 0 where
  pub found : Found
  pub is : committed_of image ≡ Ok found
  pub super_is : found.super ≡ super
  pub volume_is : volume_in image found ≡ volume
  pub long : length found.reached ≡ length reach

pub finds : (image : Image) (super : SuperValue) (volume : Volume) (reach : List ℕ) → IsSuper (super_block image) (length image) super → IsCommitted image super volume reach → Finds image super volume reach
unfolding committed_of
finds image super volume reach is_super is =
    let gives = gives_trees image super is.roots (entries volume) is.sub_reach is.subvolumes (λ e c. is.coherent e.0 e.1 (in_get nat_cmp_total nat_cmp-IsAntisymmetric volume e.0 e.1 c)) in
    let found_at : AreFound image super (subvolume_ids (length is.roots)) is.roots gives.trees gives.reach = subst (λ (ids : List ℕ). AreFound image super ids is.roots gives.trees gives.reach) is.ids gives.found in
    let perm = IsPermutation-append_right is.root_reach is.sub_reach (gives.reach ++ all_data gives.trees) gives.same in
    let all : NoneTwice (is.root_reach ++ (gives.reach ++ all_data gives.trees)) =
    none_twice_permuted (is.root_reach ++ is.sub_reach) (is.root_reach ++ (gives.reach ++ all_data gives.trees)) (subst NoneTwice is.reached is.once) (IsPermutation-sym (is.root_reach ++ is.sub_reach) (is.root_reach ++ (gives.reach ++ all_data gives.trees)) perm) in
    let joined : is.root_reach ++ (gives.reach ++ all_data gives.trees) ≡ (is.root_reach ++ gives.reach) ++ all_data gives.trees = sym (append_assoc is.root_reach gives.reach (all_data gives.trees)) in
    let once = subst NoneTwice joined all in
    let walked : Walked = record { items = is.items; reached = is.root_reach } in
    let trees : FoundTrees = record { trees = gives.trees; reached = is.root_reach ++ gives.reach } in
    let found : Found = record { super = super; trees = gives.trees; reached = (is.root_reach ++ gives.reach) ++ all_data gives.trees } in
    record {
      found = found;
      is = ok_bind _ _ super found (ok_fault BadSuper _ super (super_of-Ok (super_block image) (length image) super is_super))
          (ok_bind _ _ walked found (ok_fault BadTree _ walked ((walked_alone image super.blocks (root_want super) walked).1 is.root_tree))
          (ok_bind _ _ is.roots found (ok_fault (roots_fault image super) _ is.roots ((roots_are_read is.items is.roots).1 (is.least, is.most, is.root_items)))
          (ok_bind _ _ trees found (found_trees image super (subvolume_ids (length is.roots)) is.roots gives.trees is.root_reach gives.reach found_at (none_twice_parts (is.root_reach ++ gives.reach) (all_data gives.trees) once).0)
          (ok_unless _ _ found (bad_none image gives.trees (λ tree c. (gives.ready tree c).items))
          (ok_bind _ _ ((is.root_reach ++ gives.reach) ++ all_data gives.trees) found (found_data super.blocks (all_data gives.trees) (is.root_reach ++ gives.reach) gives.allowed once)
          (ok_unless _ _ found (incoherent_none image gives.trees (λ tree c. (gives.ready tree c).inodes)) refl))))));
      super_is = refl;
      volume_is = ap (from_entries {R = nat_cmp}) gives.entries ∙ again volume;
      long = sym (ap length joined) ∙ length_permutation (is.root_reach ++ is.sub_reach) (is.root_reach ++ (gives.reach ++ all_data gives.trees)) perm ∙ ap length (sym is.reached);
    }

pub is_found : (image : Image) (volume : Volume) → Stands image volume → (found : Found) × (standing_of image ≡ Ok found) × (found.super.log_root ≡ 0) × (volume_in image found ≡ volume)
unfolding standing_of
is_found image volume stands =
    let by = stands.by_reach in
    let is = finds image by.super volume stands.reach by.spelled by.committed in
    let room : mount_need ≤ free_of is.found.super.blocks (length is.found.reached) =
    subst (λ (n : ℕ). mount_need ≤ free_of is.found.super.blocks n) (sym is.long) (subst (λ (s : SuperValue). mount_need ≤ free_of s.blocks (length stands.reach)) (sym is.super_is) by.room) in (
      is.found,
      ok_bind _ with_room is.found is.found is.is (finds_none _ _ _ (le-ltb (free_of is.found.super.blocks (length is.found.reached)) mount_need room)),
      ap (λ (s : SuperValue). s.log_root) is.super_is ∙ by.no_log,
      is.volume_is,
    )
