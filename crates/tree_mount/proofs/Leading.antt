-- What a disk tells of the order of an image's faults while a volume is read.
use Rattle.std.proofs.Common.{◌≡◌, ◌++◌, ℕ, false, List, [], ◌∷◌, length, map, Contains, Option, Some, None, Result, Ok, Err, sym, ap, subst, ◌∙◌}
use Rattle.blk_base.specs.declared.fault.ItemFault.{ItemFault}
use Rattle.blk_base.specs.declared.key.Key.{Key}
use Rattle.blk_base.specs.declared.key.Want.{Want}
use Rattle.blk_base.specs.Items.{RootValue}
use Rattle.blk_base.specs.Leaf.{Item}
use Rattle.blk_base.specs.Superblock.{SuperValue}
use Rattle.block_table.specs.Table.{Table, empty_table}
use Rattle.disk_model.specs.Disk.{IfTold}
use Rattle.fault_laws.proofs.Named.{leaf_named}
use Rattle.flat_model.specs.Volume.{subvolume_ids}
use Rattle.image_order.specs.FirstFault.{BadItem, BadSuper, BadTree, Found, FoundTree, FoundTrees, ImageFault, ◌>>=◌, all_data, checked, committed_of, data_after, first_bad_item, first_given, first_incoherent, first_of, incoherent, or_fault, roots_fault, standing_of, trees_of, unless, with_room, with_tree}
use Rattle.image_order.specs.FirstFault as faults
use Rattle.tree_check.specs.Items.{AreBytes, items_answer}
use Rattle.tree_load.specs.Loaded.{AreTaken, HasBytes, tree_wanted}
use Rattle.tree_load.proofs.Tables.{taken_more}
use Rattle.tree_load.proofs.Taken.{none_taken}
use Rattle.block_table.specs.declared.tree.Tree.{Tree}
use Rattle.tree_range.specs.Shape.{IsTree, tree_items, tree_reach}
use Rattle.volume_image.specs.declared.fault.LoadFault.{LoadFault}
use Rattle.volume_image.specs.Roots.{NoRoot, OtherPair, RootsFault, root_want, roots_of}
use Rattle.volume_image.specs.Tree.{Image, IsTree as IsTreeOn, Walked, tree_of}
use Rattle.volume_image.proofs.Reaches.{head_in}
use Rattle.tree_mount.specs.declared.fault.MountFault.{MountFault}
use Rattle.tree_mount.specs.declared.fault.MountFault.TheVariants as mounts
use Rattle.tree_mount.specs.Faults.{HasSuper, IsFirst, IsToldFault}
use Rattle.tree_mount.specs.Mounted.{LeadsToTrees}
use Rattle.tree_mount.specs.Roots.{AreRootsRead, IsRootsFault}
use Rattle.tree_mount.specs.Trees.{AreLoaded, AreWalked, HasWalksFault, IsWalksFault, found_tree, items_of, reach_of, walks_of, wants_reach}
use Rattle.tree_mount.proofs.Loading.{IsKept, kept_by, reach_alone}
use Rattle.tree_mount.proofs.Order.{after_root, after_roots, after_super, first_fault, standing_by}
use Rattle.tree_mount.proofs.Walking.{by_wants, walked_more}

-- ---- the root tree

pub all_slots : (blocks : ℕ) → length (empty_table blocks).slots ≡ blocks
all_slots blocks = Rattle.std.proofs.lemmas.List.length-replicate blocks Rattle.block_table.specs.Slot.free_slot

abbrev items_first : List FoundTree → List Item
items_first [] = []
items_first (tree ∷ trees) = tree.items

-- what a walk over one tree alone met, or its fault
alone_fails : (image : Image) (blocks : ℕ) (want : Want) (fault : ImageFault) (r : Result Walked ImageFault)
    → (r >>= (λ walked. walks_of image blocks [] walked.reached >>= (λ rest. Ok (with_tree (record { id = want.owner; want = want; items = walked.items }) rest)))) ≡ Err fault → r ≡ Err fault
alone_fails image blocks want fault (Ok walked) h = absurd cc
alone_fails image blocks want fault (Err other) h = let same : other ≡ fault = cc in ap Err same

alone_reads : (image : Image) (blocks : ℕ) (want : Want) (tree : FoundTree) (reached : List ℕ) (r : Result Walked LoadFault)
    → (or_fault BadTree r >>= (λ walked. walks_of image blocks [] walked.reached >>= (λ rest. Ok (with_tree (record { id = want.owner; want = want; items = walked.items }) rest)))) ≡ Ok (record { trees = tree ∷ []; reached = reached })
    → r ≡ Ok (record { items = tree.items; reached = reached })
alone_reads image blocks want tree reached (Err fault) h = absurd cc
alone_reads image blocks want tree reached (Ok walked) h =
    let same : record { trees = record { id = want.owner; want = want; items = walked.items } ∷ []; reached = walked.reached } ≡ record { trees = tree ∷ []; reached = reached } = found_same _ _ h in
    (λ i. Ok (record { items = items_first ((ap (λ (f : FoundTrees). f.trees) same) i); reached = (ap (λ (f : FoundTrees). f.reached) same) i }))
  where
    found_same : (x y : FoundTrees) → ◌≡◌ {A = Result FoundTrees ImageFault} (Ok x) (Ok y) → x ≡ y
    found_same x y e = cc

module _ (image : Image) (super : SuperValue) (has : HasSuper image super) (no_log : super.log_root ≡ 0) where
  root_fails : (fault : LoadFault) → IsWalksFault image (empty_table super.blocks) (root_want super ∷ []) (mounts.Load fault) → IsFirst image (BadTree fault)
  root_fails fault h =
      let walks : walks_of image super.blocks (root_want super ∷ []) [] ≡ Err (BadTree fault) = ap (λ (n : ℕ). walks_of image n (root_want super ∷ []) []) (sym (all_slots super.blocks)) ∙ h [] (none_taken super.blocks) in
      first_fault image super (BadTree fault) has no_log
      (ap (λ (r : Result Walked ImageFault). r >>= after_root image super) (alone_fails image super.blocks (root_want super) (BadTree fault) (or_fault BadTree (tree_of image super.blocks (root_want super) [])) walks))

  module _ (mid : Table) (loaded : AreLoaded (empty_table super.blocks) mid (root_want super ∷ [])) (walked : AreWalked image (empty_table super.blocks) mid (root_want super ∷ [])) where
    abbrev root : Walked
    root = record { items = items_of mid (root_want super); reached = wants_reach mid (root_want super ∷ []) }

    root_read : tree_of image super.blocks (root_want super) [] ≡ Ok root
    root_read =
        alone_reads image super.blocks (root_want super) (found_tree mid (root_want super)) (wants_reach mid (root_want super ∷ [])) (tree_of image super.blocks (root_want super) [])
        (ap (λ (n : ℕ). walks_of image n (root_want super ∷ []) []) (sym (all_slots super.blocks)) ∙ walked.walked [] (none_taken super.blocks))

    by_root : after_super image super ≡ after_root image super root
    by_root = ap (λ (r : Result Walked LoadFault). or_fault BadTree r >>= after_root image super) root_read

    root_taken : AreTaken mid (wants_reach mid (root_want super ∷ []))
    root_taken = taken_more (empty_table super.blocks) mid [] (wants_reach mid (root_want super ∷ [])) loaded.load (none_taken super.blocks)

    on_image : IsTreeOn image super.blocks (root_want super) (items_of mid (root_want super)) (reach_of mid (root_want super))
    on_image = subst (λ (n : ℕ). IsTreeOn image n (root_want super) (items_of mid (root_want super)) (reach_of mid (root_want super))) (all_slots super.blocks) (walked.trees (root_want super) (head_in (root_want super) []))

    root_bytes : HasBytes image mid (reach_of mid (root_want super))
    root_bytes = subst (HasBytes image mid) (reach_alone mid (root_want super)) walked.bytes

    roots_fail : (fault : RootsFault) → roots_of (items_of mid (root_want super)) ≡ Err fault → IsFirst image (roots_fault image super fault)
    roots_fail fault e =
        first_fault image super (roots_fault image super fault) has no_log (by_root ∙ ap (λ (r : Result (List RootValue) RootsFault). or_fault (roots_fault image super) r >>= after_roots image super root) e)

    item_fails : (at : ℕ) (key : Key) (why : ItemFault) (bytes : List ℕ) → roots_of (items_of mid (root_want super)) ≡ Err (OtherPair key why)
        → Contains (Rattle.tree_check.specs.Items.leaves_below (root_want super).level mid (root_want super).at.0) at → Contains (Rattle.tree_range.specs.Shape.leaf_items mid at) (key, bytes) → IsFirst image (BadItem at key why)
    item_fails at key why bytes e leaf held =
        subst (λ (n : ℕ). IsFirst image (BadItem n key why))
        (leaf_named image super.blocks (root_want super) mid on_image root_bytes (loaded.each (root_want super) (head_in (root_want super) [])) at (key, bytes) leaf held)
        (roots_fail (OtherPair key why) e)

    module _ (wants : List Want) (read : AreRootsRead super (items_of mid (root_want super)) wants) where
      by_roots : after_super image super ≡ (walks_of image super.blocks wants (wants_reach mid (root_want super ∷ [])) >>= checked image super)
      by_roots =
          by_root ∙ ap (λ (r : Result (List RootValue) RootsFault). or_fault (roots_fault image super) r >>= after_roots image super root) read.read
          ∙ ap (λ (r : Result FoundTrees ImageFault). r >>= checked image super) (by_wants image super (subvolume_ids (length read.roots)) read.roots (wants_reach mid (root_want super ∷ [])) ∙ ap (λ (ws : List Want). walks_of image super.blocks ws (wants_reach mid (root_want super ∷ []))) (sym read.wants_are))

      mid_slots : length mid.slots ≡ super.blocks
      mid_slots = loaded.load.size ∙ all_slots super.blocks

      trees_fail : (fault : LoadFault) → IsWalksFault image mid wants (mounts.Load fault) → IsFirst image (BadTree fault)
      trees_fail fault h =
          first_fault image super (BadTree fault) has no_log
          (by_roots ∙ ap (λ (r : Result FoundTrees ImageFault). r >>= checked image super) (ap (λ (n : ℕ). walks_of image n wants (wants_reach mid (root_want super ∷ []))) (sym mid_slots) ∙ h (wants_reach mid (root_want super ∷ [])) root_taken))

      module _ (new : Table) (later : AreLoaded mid new wants) (more : AreWalked image mid new wants) where
        all_walked : AreWalked image (empty_table super.blocks) new (root_want super ∷ wants)
        all_walked = walked_more image (empty_table super.blocks) mid new (root_want super ∷ []) wants loaded later walked more

        root_kept : IsKept mid new (root_want super)
        root_kept = kept_by false mid new (root_want super) (wants_reach new wants) later.load (loaded.each (root_want super) (head_in (root_want super) []))

        reached_is : wants_reach mid (root_want super ∷ []) ++ wants_reach new wants ≡ wants_reach new (root_want super ∷ wants)
        reached_is = ap (λ (l : List ℕ). l ++ wants_reach new wants) (reach_alone mid (root_want super) ∙ sym root_kept.reach)

        leads : LeadsToTrees image super new wants
        leads = record {
          spelled = has;
          no_log = no_log;
          bytes = all_walked.bytes;
          read = subst (λ (l : List Item). AreRootsRead super l wants) (sym root_kept.items) read;
          trees = λ want c. subst (λ (n : ℕ). IsTreeOn image n want (items_of new want) (reach_of new want)) (all_slots super.blocks) (all_walked.trees want c);
          rest =
              standing_by image super has
              ∙ ap (λ (r : Result Found ImageFault). r >>= with_room)
              (by_roots ∙ ap (λ (r : Result FoundTrees ImageFault). r >>= checked image super)
              (ap (λ (n : ℕ). walks_of image n wants (wants_reach mid (root_want super ∷ []))) (sym mid_slots) ∙ more.walked (wants_reach mid (root_want super ∷ [])) root_taken
              ∙ ap (λ (l : List ℕ). Ok (record { trees = map (found_tree new) wants; reached = l })) reached_is));
        }

-- ---- where the disk tells its image

pub told_root_fails : (seen : Option Image) (super : SuperValue) (table : Table) (want : Want) (fault : MountFault) → table ≡ empty_table super.blocks → want ≡ root_want super → IfTold seen (λ image. HasSuper image super) → super.log_root ≡ 0
    → IfTold seen (λ image. HasWalksFault image table (want ∷ []) fault) → IsToldFault seen fault
told_root_fails seen super table want fault empty is has no_log h =
    go seen fault has (subst (λ (w : Want). IfTold seen (λ image. HasWalksFault image (empty_table super.blocks) (w ∷ []) fault)) is (subst (λ (t : Table). IfTold seen (λ image. HasWalksFault image t (want ∷ []) fault)) empty h))
  where
    go : (s : Option Image) (f : MountFault) → IfTold s (λ image. HasSuper image super) → IfTold s (λ image. HasWalksFault image (empty_table super.blocks) (root_want super ∷ []) f) → IsToldFault s f
    go None (mounts.Super f) a h = tt
    go None mounts.Log a h = tt
    go None (mounts.Load f) a h = tt
    go None (mounts.Item at key why) a h = tt
    go None (mounts.Incoherent id ino) a h = tt
    go None (mounts.NoRoom free need) a h = tt
    go None mounts.Disk a h = tt
    go None mounts.OutOfMemory a h = tt
    go (Some image) (mounts.Load f) a h = root_fails image super a no_log f h.is
    go (Some image) mounts.Disk a h = tt
    go (Some image) mounts.OutOfMemory a h = tt
    go (Some image) (mounts.Super f) a h = absurd h.is
    go (Some image) mounts.Log a h = absurd h.is
    go (Some image) (mounts.Item at key why) a h = absurd h.is
    go (Some image) (mounts.Incoherent id ino) a h = absurd h.is
    go (Some image) (mounts.NoRoom free need) a h = absurd h.is

pub told_roots_fail : (seen : Option Image) (super : SuperValue) (mid : Table) (fault : MountFault) → IfTold seen (λ image. HasSuper image super) → super.log_root ≡ 0 → AreLoaded (empty_table super.blocks) mid (root_want super ∷ [])
    → IfTold seen (λ image. AreWalked image (empty_table super.blocks) mid (root_want super ∷ [])) → IsRootsFault mid (root_want super).level (root_want super).at.0 fault → IsToldFault seen fault
told_roots_fail None super mid (mounts.Item at key why) has no_log loaded walked h = tt
told_roots_fail None super mid (mounts.Incoherent id ino) has no_log loaded walked h = tt
told_roots_fail seen super mid mounts.OutOfMemory has no_log loaded walked h = tt
told_roots_fail seen super mid mounts.Disk has no_log loaded walked h = tt
told_roots_fail seen super mid mounts.Log has no_log loaded walked h = absurd h
told_roots_fail seen super mid (mounts.Super f) has no_log loaded walked h = absurd h
told_roots_fail seen super mid (mounts.Load f) has no_log loaded walked h = absurd h
told_roots_fail seen super mid (mounts.NoRoom free need) has no_log loaded walked h = absurd h
told_roots_fail (Some image) super mid (mounts.Item at key why) has no_log loaded walked h = item_fails image super has no_log mid loaded walked at.0 key why h.1.bytes h.0 h.1.leaf h.1.held
told_roots_fail (Some image) super mid (mounts.Incoherent id ino) has no_log loaded walked h =
    subst (λ (n : ℕ). IsFirst image (faults.Incoherent id.0 n)) (sym h.2) (subst (λ (n : ℕ). IsFirst image (faults.Incoherent n 256)) (sym h.1) (roots_fail image super has no_log mid loaded walked NoRoot h.0))

pub told_trees_fail : (seen told : Option Image) (super : SuperValue) (mid : Table) (wants : List Want) (fault : MountFault) → told ≡ seen → IfTold seen (λ image. HasSuper image super) → super.log_root ≡ 0 → AreLoaded (empty_table super.blocks) mid (root_want super ∷ [])
    → IfTold seen (λ image. AreWalked image (empty_table super.blocks) mid (root_want super ∷ [])) → AreRootsRead super (items_of mid (root_want super)) wants → IfTold told (λ image. HasWalksFault image mid wants fault) → IsToldFault seen fault
told_trees_fail seen told super mid wants fault same has no_log loaded walked read h = go seen fault has walked (subst (λ (s : Option Image). IfTold s (λ image. HasWalksFault image mid wants fault)) same h)
  where
    go : (s : Option Image) (f : MountFault) → IfTold s (λ image. HasSuper image super) → IfTold s (λ image. AreWalked image (empty_table super.blocks) mid (root_want super ∷ [])) → IfTold s (λ image. HasWalksFault image mid wants f) → IsToldFault s f
    go None (mounts.Super f) a b h = tt
    go None mounts.Log a b h = tt
    go None (mounts.Load f) a b h = tt
    go None (mounts.Item at key why) a b h = tt
    go None (mounts.Incoherent id ino) a b h = tt
    go None (mounts.NoRoom free need) a b h = tt
    go None mounts.Disk a b h = tt
    go None mounts.OutOfMemory a b h = tt
    go (Some image) (mounts.Load f) a b h = trees_fail image super a no_log mid loaded b wants read f h.is
    go (Some image) mounts.Disk a b h = tt
    go (Some image) mounts.OutOfMemory a b h = tt
    go (Some image) (mounts.Super f) a b h = absurd h.is
    go (Some image) mounts.Log a b h = absurd h.is
    go (Some image) (mounts.Item at key why) a b h = absurd h.is
    go (Some image) (mounts.Incoherent id ino) a b h = absurd h.is
    go (Some image) (mounts.NoRoom free need) a b h = absurd h.is

pub told_leads : (seen told : Option Image) (super : SuperValue) (mid new : Table) (wants : List Want) → told ≡ seen → IfTold seen (λ image. HasSuper image super) → super.log_root ≡ 0 → AreLoaded (empty_table super.blocks) mid (root_want super ∷ [])
    → IfTold seen (λ image. AreWalked image (empty_table super.blocks) mid (root_want super ∷ [])) → AreRootsRead super (items_of mid (root_want super)) wants → AreLoaded mid new wants → IfTold told (λ image. AreWalked image mid new wants)
    → IfTold seen (λ image. LeadsToTrees image super new wants)
told_leads seen told super mid new wants same has no_log loaded walked read later more = go seen has walked (subst (λ (s : Option Image). IfTold s (λ image. AreWalked image mid new wants)) same more)
  where
    go : (s : Option Image) → IfTold s (λ image. HasSuper image super) → IfTold s (λ image. AreWalked image (empty_table super.blocks) mid (root_want super ∷ [])) → IfTold s (λ image. AreWalked image mid new wants) → IfTold s (λ image. LeadsToTrees image super new wants)
    go None a b h = tt
    go (Some image) a b h = leads image super a no_log mid loaded b wants read new later h

-- ---- as the calls say it

pub loaded_by : (super : SuperValue) (old mid : Table) (want : Want) → old ≡ empty_table super.blocks → want ≡ root_want super → AreLoaded old mid (want ∷ []) → AreLoaded (empty_table super.blocks) mid (root_want super ∷ [])
loaded_by super old mid want empty is loaded = subst (λ (w : Want). AreLoaded (empty_table super.blocks) mid (w ∷ [])) is (subst (λ (t : Table). AreLoaded t mid (want ∷ [])) empty loaded)

pub walked_by : (seen : Option Image) (super : SuperValue) (old mid : Table) (want : Want) → old ≡ empty_table super.blocks → want ≡ root_want super → IfTold seen (λ image. AreWalked image old mid (want ∷ [])) → IfTold seen (λ image. AreWalked image (empty_table super.blocks) mid (root_want super ∷ []))
walked_by seen super old mid want empty is walked = subst (λ (w : Want). IfTold seen (λ image. AreWalked image (empty_table super.blocks) mid (w ∷ []))) is (subst (λ (t : Table). IfTold seen (λ image. AreWalked image t mid (want ∷ []))) empty walked)

pub read_by : (super : SuperValue) (mid : Table) (want : Want) (tree : Tree) (wants : List Want) → want ≡ root_want super → tree ≡ tree_wanted want → AreRootsRead super (tree_items mid tree) wants → AreRootsRead super (items_of mid (root_want super)) wants
read_by super mid want tree wants is tree_is read = subst (λ (w : Want). AreRootsRead super (items_of mid w) wants) is (subst (λ (t : Tree). AreRootsRead super (tree_items mid t) wants) tree_is read)

pub unread_by : (super : SuperValue) (mid : Table) (want : Want) (tree : Tree) (fault : MountFault) → want ≡ root_want super → tree ≡ tree_wanted want → IsRootsFault mid tree.level tree.root.0 fault → IsRootsFault mid (root_want super).level (root_want super).at.0 fault
unread_by super mid want tree fault is tree_is h = subst (λ (w : Want). IsRootsFault mid w.level w.at.0 fault) is (subst (λ (t : Tree). IsRootsFault mid t.level t.root.0 fault) tree_is h)

-- the root tree's items stay while the trees of subvolumes are loaded behind it
pub read_later : (super : SuperValue) (mid new : Table) (wants : List Want) → AreLoaded (empty_table super.blocks) mid (root_want super ∷ []) → AreLoaded mid new wants → AreRootsRead super (items_of mid (root_want super)) wants
    → AreRootsRead super (items_of new (root_want super)) wants
read_later super mid new wants loaded later read =
    let kept = kept_by false mid new (root_want super) (wants_reach new wants) later.load (loaded.each (root_want super) (head_in (root_want super) [])) in
    subst (λ (l : List Item). AreRootsRead super l wants) (sym kept.items) read
