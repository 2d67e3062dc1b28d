-- What a disk tells of the checks of the trees that were loaded.
use Rattle.std.proofs.Common.{◌≡◌, ◌≢◌, ◌≤◌, ◌<◌, ◌+◌, ◌/◌, ◌++◌, ℕ, zero, suc, true, false, nat_lt, List, [], ◌∷◌, length, map, Contains, Option, Some, None, Result, Ok, Err, IfErr, OnOk, cond, refl, sym, ap, subst, ◌∙◌, arith, le-ltb}
use Rattle.std.proofs.lemmas.Bool.{lt-ltb}
use Rattle.std.proofs.lemmas.List.Elements.{All-contains, Contains-append_left, Contains-append_right}
use Rattle.std.proofs.lemmas.Option.{slice_get-get_or}
use Rattle.blk_base.specs.declared.key.Want.{Want}
use Rattle.blk_base.specs.Address.{IsAllowed}
use Rattle.blk_base.specs.Bytes.{IsImage}
use Rattle.blk_base.specs.Leaf.{Item}
use Rattle.blk_base.specs.Superblock.{SuperValue}
use Rattle.block_table.specs.Table.{Table, empty_table}
use Rattle.block_table.specs.TreeIn.{IsTaken}
use Rattle.disk_model.specs.Disk.{IfTold}
use Rattle.fault_laws.specs.Told.{image_fault}
use Rattle.fault_laws.proofs.Agreeing.{faulty_same}
use Rattle.fault_laws.proofs.Named.{item_fault_is_first}
use Rattle.format_laws.specs.Superblock.{IsSuper-from_read}
use Rattle.image_faults.specs.Lowest.{first_faulty}
use Rattle.image_order.specs.FirstFault.{BadItem, BadTree, Found, FoundTree, FoundTrees, ImageFault, ◌>>=◌, all_data, checked, data_after, first_bad_item, first_given, first_incoherent, first_of, incoherent, standing_of, unless, with_room}
use Rattle.image_order.specs.FirstFault as faults
use Rattle.image_order.proofs.Bytes.{tree_fits}
use Rattle.image_order.proofs.Reached.{data_found}
use Rattle.table_volume.specs.Gives.{data_in}
use Rattle.table_volume.proofs.Giving.{data_at}
use Rattle.tree_check.specs.Items.{AreBytes, items_answer}
use Rattle.tree_load.specs.Loaded.{AreTaken, HasBytes, IsLoad, tree_wanted}
use Rattle.tree_load.proofs.Tables.{live_not_free, live_state, taken_more}
use Rattle.tree_load.proofs.Taken.{none_taken}
use Rattle.tree_range.specs.Shape.{IsTree}
use Rattle.volume_image.specs.Roots.{root_want}
use Rattle.volume_image.specs.Stands.{data_of, free_of, mount_need, super_block}
use Rattle.volume_image.specs.Subvolume.{data_addresses}
use Rattle.volume_image.specs.Tree.{Image, IsTree as IsTreeOn}
use Rattle.volume_image.proofs.Members.{flat_map_in}
use Rattle.volume_image.proofs.Reaches.{head_in, tail_in}
use Rattle.tree_mount.specs.declared.fault.MountFault.{MountFault}
use Rattle.tree_mount.specs.declared.fault.MountFault.TheVariants as mounts
use Rattle.tree_mount.specs.Checks.{AreItemsRight, AreReachable, IsInodeFault, IsItemsFault, IsReadFault, inode_fault, items_fault}
use Rattle.tree_mount.specs.Faults.{IsFirst, IsToldFault}
use Rattle.tree_mount.specs.Mounted.{LeadsToTrees, LeadsToVolume, found_whole}
use Rattle.tree_mount.specs.Trees.{AreLoaded, found_tree, items_of, reach_of, wants_data, wants_reach}
use Rattle.tree_mount.proofs.Leading.{all_slots}
use Rattle.tree_mount.proofs.Order.{by_rest}
use Rattle.tree_mount.proofs.Loading.{IsKept, data_kept, found_kept, kept_by, reach_kept}

-- the data of the trees that were found
pub data_is : (table : Table) (wants : List Want) → all_data (map (found_tree table) wants) ≡ wants_data table wants
data_is table [] = refl
data_is table (want ∷ wants) = ap (λ (l : List ℕ). data_addresses (items_of table want) ++ l) (data_is table wants)

-- ---- items

module _ (image : Image) (blocks : ℕ) (is_image : IsImage image) (table : Table) where
  items_named : (wants : List Want) → ((want : Want) → Contains wants want → IsTreeOn image blocks want (items_of table want) (reach_of table want)) → ((want : Want) → Contains wants want → HasBytes image table (reach_of table want))
      → ((want : Want) → Contains wants want → IsTree table (tree_wanted want)) → first_bad_item image (map (found_tree table) wants) ≡ items_fault table wants
  items_named [] on has is = refl
  items_named (want ∷ wants) on has is =
      let here = on want (head_in want wants) in
      let bytes : AreBytes (items_of table want) = λ key b c. (tree_fits image blocks want (items_of table want) (reach_of table want) is_image here (key, b) c).bytes in
      let one = item_fault_is_first image blocks want.owner want table here (has want (head_in want wants)) (is want (head_in want wants)) bytes in
      let rest = items_named wants (λ other c. on other (tail_in want other wants c)) (λ other c. has other (tail_in want other wants c)) (λ other c. is other (tail_in want other wants c)) in
      (λ i. first_of (sym one i) (rest i))

  -- no tree has a fault
  items_none : (wants : List Want) → ((want : Want) → Contains wants want → items_answer table (tree_wanted want) ≡ Ok tt) → items_fault table wants ≡ None
  items_none [] right = refl
  items_none (want ∷ wants) right =
      ap (λ (r : Result (Unit {0}) Rattle.tree_check.specs.declared.fault.TreeFault.TreeFault). first_of (image_fault want.owner r) (items_fault table wants)) (right want (head_in want wants))
      ∙ items_none wants (λ other c. right other (tail_in want other wants c))

-- ---- inodes

module _ (image : Image) (table : Table) where
  inodes_named : (wants : List Want) → ((want : Want) → Contains wants want → (at : ℕ) → Contains (data_addresses (items_of table want)) at → data_in table at ≡ data_of image at) → first_incoherent image (map (found_tree table) wants) ≡ inode_fault table wants
  inodes_named [] same = refl
  inodes_named (want ∷ wants) same =
      let one = faulty_same (items_of table want) (data_in table) (data_of image) (same want (head_in want wants)) in
      let rest = inodes_named wants (λ other c. same other (tail_in want other wants c)) in
      (λ i. first_of (incoherent want.owner (sym one i)) (rest i))

pub inodes_none : (table : Table) (wants : List Want) → ((want : Want) → Contains wants want → first_faulty (items_of table want) (data_in table) ≡ None) → inode_fault table wants ≡ None
inodes_none table [] right = refl
inodes_none table (want ∷ wants) right =
    ap (λ (o : Option ℕ). first_of (incoherent want.owner o) (inode_fault table wants)) (right want (head_in want wants)) ∙ inodes_none table wants (λ other c. right other (tail_in want other wants c))

-- ---- where the checks stand in the order of the image's faults

module _ (image : Image) (is_image : IsImage image) (super : SuperValue) (table : Table) (wants : List Want) (loaded : AreLoaded (empty_table super.blocks) table (root_want super ∷ wants)) (leads : LeadsToTrees image super table wants) where
  abbrev found : FoundTrees
  found = record { trees = map (found_tree table) wants; reached = wants_reach table (root_want super ∷ wants) }

  each_bytes : (want : Want) → Contains wants want → HasBytes image table (reach_of table want)
  each_bytes want c at d = leads.bytes at (flat_map_in (reach_of table) (root_want super ∷ wants) want at (tail_in (root_want super) want wants c) d)

  bad_is : first_bad_item image (map (found_tree table) wants) ≡ items_fault table wants
  bad_is = items_named image super.blocks is_image table wants (λ want c. leads.trees want (tail_in (root_want super) want wants c)) each_bytes (λ want c. loaded.each want (tail_in (root_want super) want wants c))

  fails_by : (fault : ImageFault) → checked image super found ≡ Err fault → IsFirst image fault
  fails_by fault is = by_rest image super fault leads.spelled leads.no_log (leads.rest ∙ ap (λ (r : Result Found ImageFault). r >>= with_room) is)

  abbrev behind_items : Result Found ImageFault
  behind_items = data_after super.blocks (all_data found.trees) found.reached >>= (λ reached. unless (first_incoherent image found.trees) (Ok (record { super = super; trees = found.trees; reached = reached })))

  item_fails : (fault : ImageFault) → items_fault table wants ≡ Some fault → IsFirst image fault
  item_fails fault is = fails_by fault (ap (λ (o : Option ImageFault). unless o behind_items) (bad_is ∙ is))

  module _ (right : (want : Want) → Contains wants want → AreItemsRight table want) where
    none_bad : first_bad_item image (map (found_tree table) wants) ≡ None
    none_bad = bad_is ∙ items_none image super.blocks is_image table wants (λ want c. (right want c).answer)

    behind : checked image super found ≡ behind_items
    behind = ap (λ (o : Option ImageFault). unless o behind_items) none_bad

    all_taken : AreTaken table (wants_reach table (root_want super ∷ wants))
    all_taken = taken_more (empty_table super.blocks) table [] (wants_reach table (root_want super ∷ wants)) loaded.load (none_taken super.blocks)

    slots_are : length table.slots ≡ super.blocks
    slots_are = loaded.load.size ∙ all_slots super.blocks

    reads : data_after super.blocks (all_data found.trees) found.reached ≡ data_after (length table.slots) (wants_data table wants) (wants_reach table (root_want super ∷ wants))
    reads = (λ i. data_after (sym slots_are i) (data_is table wants i) (wants_reach table (root_want super ∷ wants)))

    data_fails : (fault : Rattle.volume_image.specs.declared.fault.LoadFault.LoadFault) → IsReadFault table (wants_data table wants) (mounts.Load fault) → IsFirst image (BadTree fault)
    data_fails fault h =
        fails_by (BadTree fault)
        (behind ∙ ap (λ (r : Result (List ℕ) ImageFault). r >>= (λ reached. unless (first_incoherent image found.trees) (Ok (record { super = super; trees = found.trees; reached = reached }))))
        (reads ∙ h (wants_reach table (root_want super ∷ wants)) all_taken))

    module _ (new : Table) (load : IsLoad true table new (wants_data table wants)) (reachable : AreReachable table (wants_data table wants)) (has : HasBytes image new (wants_data table wants)) where
      kept : (want : Want) → Contains wants want → IsKept table new want
      kept want c = kept_by true table new want (wants_data table wants) load (loaded.each want (tail_in (root_want super) want wants c))

      root_kept : IsKept table new (root_want super)
      root_kept = kept_by true table new (root_want super) (wants_data table wants) load (loaded.each (root_want super) (head_in (root_want super) wants))

      all_kept : (want : Want) → Contains (root_want super ∷ wants) want → IsKept table new want
      all_kept want c = kept_by true table new want (wants_data table wants) load (loaded.each want c)

      data_same : wants_data new wants ≡ wants_data table wants
      data_same = data_kept table new wants kept

      reach_same : wants_reach new (root_want super ∷ wants) ≡ wants_reach table (root_want super ∷ wants)
      reach_same = reach_kept table new (root_want super ∷ wants) all_kept

      trees_same : map (found_tree new) wants ≡ map (found_tree table) wants
      trees_same = found_kept table new wants kept

      allowed : (at : ℕ) → Contains (wants_data table wants) at → IsAllowed super.blocks at
      allowed at c =
          subst (λ (n : ℕ). IsAllowed n at) slots_are
          (All-contains (IsAllowed (length table.slots)) (wants_data table wants) at (data_found (length table.slots) (wants_data table wants) (wants_reach table (root_want super ∷ wants)) (wants_reach table (root_want super ∷ wants) ++ wants_data table wants) (reachable (wants_reach table (root_want super ∷ wants)) all_taken)).allowed c)

      -- the image has what the table has at each of these addresses
      same_data : (at : ℕ) → Contains (wants_data table wants) at → data_in new at ≡ data_of image at
      same_data at c =
          let ok = allowed at c in
          let on_disk = (IsSuper-from_read (super_block image) (length image) super leads.spelled).on_disk in
          let inside : at / 4096 < length image = let within = ok.inside in omega arith in
          let taken : IsTaken new at = record { allowed = subst (λ (n : ℕ). IsAllowed n at) (sym (load.size ∙ slots_are)) ok; taken = live_not_free new at (live_state new at (load.live at c)) } in
          data_at new at taken ∙ ap (λ (b : List ℕ). Some b) (sym (has at c)) ∙ sym (slice_get-get_or image (at / 4096) [] inside)

      each_same : (want : Want) → Contains wants want → (at : ℕ) → Contains (data_addresses (items_of new want)) at → data_in new at ≡ data_of image at
      each_same want c at d =
          same_data at (flat_map_in (λ (w : Want). data_addresses (items_of table w)) wants want at c (subst (λ (l : List Item). Contains (data_addresses l) at) (kept want c).items d))

      inode_is : first_incoherent image found.trees ≡ inode_fault new wants
      inode_is = ap (first_incoherent image) (sym trees_same) ∙ inodes_named image new wants each_same

      abbrev last : List ℕ → Result Found ImageFault
      last reached = unless (first_incoherent image found.trees) (Ok (record { super = super; trees = found.trees; reached = reached }))

      behind_data : checked image super found ≡ last (wants_reach table (root_want super ∷ wants) ++ wants_data table wants)
      behind_data = behind ∙ ap (λ (r : Result (List ℕ) ImageFault). r >>= last) (reads ∙ reachable (wants_reach table (root_want super ∷ wants)) all_taken)

      inode_fails : (fault : ImageFault) → inode_fault new wants ≡ Some fault → IsFirst image fault
      inode_fails fault is =
          fails_by fault (behind_data ∙ ap (λ (o : Option ImageFault). unless o (Ok (record { super = super; trees = found.trees; reached = wants_reach table (root_want super ∷ wants) ++ wants_data table wants }))) (inode_is ∙ is))

      all_bytes : HasBytes image new (wants_reach new (root_want super ∷ wants) ++ wants_data new wants)
      all_bytes at c = elim (Rattle.std.proofs.lemmas.List.Elements.Contains-append_cases (wants_reach new (root_want super ∷ wants)) (wants_data new wants) at c) [
        | Rattle.std.proofs.Common.inl tree ↦
            let before = subst (λ (l : List ℕ). Contains l at) reach_same tree in
            let fresh : Contains (wants_data table wants) at → ⊥ = λ d. (all_taken at).0 before (load.fresh at d) in
            leads.bytes at before ∙ ap (λ (slot : Rattle.block_table.specs.Slot.BlockSlot). slot.bytes) (sym (load.others at fresh))
        | Rattle.std.proofs.Common.inr datum ↦ has at (subst (λ (l : List ℕ). Contains l at) data_same datum)
      ]

      leads_on : inode_fault new wants ≡ None → LeadsToVolume image super new wants
      leads_on none = record {
        spelled = leads.spelled;
        no_log = leads.no_log;
        bytes = all_bytes;
        read = subst (λ (l : List Item). Rattle.tree_mount.specs.Roots.AreRootsRead super l wants) (sym root_kept.items) leads.read;
        trees = λ want c.
            let was = all_kept want c in
            subst (λ (l : List Item). IsTreeOn image super.blocks want l (reach_of new want)) (sym was.items) (subst (IsTreeOn image super.blocks want (items_of table want)) (sym was.reach) (leads.trees want c));
        rest =
            leads.rest
            ∙ ap (λ (r : Result Found ImageFault). r >>= with_room)
            (behind_data ∙ ap (λ (o : Option ImageFault). unless o (Ok (record { super = super; trees = found.trees; reached = wants_reach table (root_want super ∷ wants) ++ wants_data table wants }))) (inode_is ∙ none))
            ∙ (λ i. with_room (record { super = super; trees = sym trees_same i; reached = sym reach_same i ++ sym data_same i }));
      }

-- ---- where the disk tells its image

pub told_items_fail : (seen : Option Image) (super : SuperValue) (table : Table) (wants : List Want) (fault : MountFault) → IfTold seen IsImage → AreLoaded (empty_table super.blocks) table (root_want super ∷ wants) → IfTold seen (λ image. LeadsToTrees image super table wants)
    → IsItemsFault table wants fault → IsToldFault seen fault
told_items_fail None super table wants (mounts.Item at key why) is loaded leads h = tt
told_items_fail (Some image) super table wants (mounts.Item at key why) is loaded leads h = item_fails image is super table wants loaded leads (BadItem at.0 key why) h
told_items_fail seen super table wants (mounts.Super f) is loaded leads h = absurd h
told_items_fail seen super table wants mounts.Log is loaded leads h = absurd h
told_items_fail seen super table wants (mounts.Load f) is loaded leads h = absurd h
told_items_fail seen super table wants (mounts.Incoherent id ino) is loaded leads h = absurd h
told_items_fail seen super table wants (mounts.NoRoom free need) is loaded leads h = absurd h
told_items_fail seen super table wants mounts.Disk is loaded leads h = absurd h
told_items_fail seen super table wants mounts.OutOfMemory is loaded leads h = absurd h

pub told_data_fail : (seen : Option Image) (super : SuperValue) (table : Table) (wants : List Want) (fault : MountFault) → IfTold seen IsImage → AreLoaded (empty_table super.blocks) table (root_want super ∷ wants) → IfTold seen (λ image. LeadsToTrees image super table wants)
    → ((want : Want) → Contains wants want → AreItemsRight table want) → IsReadFault table (wants_data table wants) fault → IsToldFault seen fault
told_data_fail None super table wants (mounts.Load f) is loaded leads right h = tt
told_data_fail (Some image) super table wants (mounts.Load f) is loaded leads right h = data_fails image is super table wants loaded leads right f h
told_data_fail seen super table wants mounts.Disk is loaded leads right h = tt
told_data_fail seen super table wants mounts.OutOfMemory is loaded leads right h = tt
told_data_fail seen super table wants (mounts.Super f) is loaded leads right h = absurd h
told_data_fail seen super table wants mounts.Log is loaded leads right h = absurd h
told_data_fail seen super table wants (mounts.Item at key why) is loaded leads right h = absurd h
told_data_fail seen super table wants (mounts.Incoherent id ino) is loaded leads right h = absurd h
told_data_fail seen super table wants (mounts.NoRoom free need) is loaded leads right h = absurd h

module _ (super : SuperValue) (table new : Table) (wants : List Want) (loaded : AreLoaded (empty_table super.blocks) table (root_want super ∷ wants)) (right : (want : Want) → Contains wants want → AreItemsRight table want)
    (load : IsLoad true table new (wants_data table wants)) (reachable : AreReachable table (wants_data table wants)) where
  pub told_inodes_fail : (seen : Option Image) (fault : MountFault) → IfTold seen IsImage → IfTold seen (λ image. LeadsToTrees image super table wants) → IfTold seen (λ image. HasBytes image new (wants_data table wants)) → IsInodeFault new wants fault → IsToldFault seen fault
  told_inodes_fail None (mounts.Incoherent id ino) is leads has h = tt
  told_inodes_fail (Some image) (mounts.Incoherent id ino) is leads has h = inode_fails image is super table wants loaded leads right new load reachable has (faults.Incoherent id.0 ino.0) h
  told_inodes_fail seen mounts.OutOfMemory is leads has h = tt
  told_inodes_fail seen (mounts.Super f) is leads has h = absurd h
  told_inodes_fail seen mounts.Log is leads has h = absurd h
  told_inodes_fail seen (mounts.Load f) is leads has h = absurd h
  told_inodes_fail seen (mounts.Item at key why) is leads has h = absurd h
  told_inodes_fail seen (mounts.NoRoom free need) is leads has h = absurd h
  told_inodes_fail seen mounts.Disk is leads has h = absurd h

  pub told_leads_on : (seen : Option Image) → IfTold seen IsImage → IfTold seen (λ image. LeadsToTrees image super table wants) → IfTold seen (λ image. HasBytes image new (wants_data table wants))
      → ((want : Want) → Contains wants want → first_faulty (items_of new want) (data_in new) ≡ None) → IfTold seen (λ image. LeadsToVolume image super new wants)
  told_leads_on None is leads has whole = tt
  told_leads_on (Some image) is leads has whole = leads_on image is super table wants loaded leads right new load reachable has (inodes_none new wants whole)

-- ---- room

room_fails : (image : Image) (super : SuperValue) (table : Table) (wants : List Want) → LeadsToVolume image super table wants → free_of super.blocks (length (wants_reach table (root_want super ∷ wants) ++ wants_data table wants)) < mount_need
    → IsFirst image (faults.NoRoom (free_of super.blocks (length (wants_reach table (root_want super ∷ wants) ++ wants_data table wants))) mount_need)
room_fails image super table wants leads few =
    let free = free_of super.blocks (length (wants_reach table (root_want super ∷ wants) ++ wants_data table wants)) in
    by_rest image super (faults.NoRoom free mount_need) leads.spelled leads.no_log
    (leads.rest ∙ ap (λ b. cond b (Err (faults.NoRoom free mount_need)) (Ok (found_whole super table wants))) (lt-ltb free mount_need few))

pub told_room_fails : (seen : Option Image) (super : SuperValue) (table : Table) (wants : List Want) (used : ℕ) (fault : MountFault) → IfTold seen (λ image. LeadsToVolume image super table wants) → used ≡ length (wants_reach table (root_want super ∷ wants) ++ wants_data table wants)
    → free_of super.blocks used < mount_need → fault ≡ mounts.NoRoom (free_of super.blocks used) mount_need → IsToldFault seen fault
told_room_fails seen super table wants used fault leads same few is = subst (IsToldFault seen) (sym is) (go seen leads)
  where
    go : (s : Option Image) → IfTold s (λ image. LeadsToVolume image super table wants) → IsToldFault s (mounts.NoRoom (free_of super.blocks used) mount_need)
    go None l = tt
    go (Some image) l =
        let all : free_of super.blocks (length (wants_reach table (root_want super ∷ wants) ++ wants_data table wants)) < mount_need = subst (λ (n : ℕ). free_of super.blocks n < mount_need) same few in
        subst (λ (n : ℕ). IsFirst image (faults.NoRoom (free_of super.blocks n) mount_need)) (sym same) (room_fails image super table wants l all)
