-- What an image stands for whose volume was mounted.
use Rattle.std.proofs.Common.{◌≡◌, ◌≤◌, ◌<◌, ◌/◌, ◌++◌, ℕ, cond, List, [], ◌∷◌, length, map, Contains, Some, Result, Ok, Err, nat_cmp, refl, sym, ap, subst, ◌∙◌, arith, le-ltb}
use Rattle.std.specs.FinMap.{entries, from_entries}
use Rattle.std.proofs.lemmas.Option.{slice_get-get_or}
use Rattle.std.proofs.lemmas.List.Sorted.{Contains-permutation}
use Rattle.blk_base.specs.declared.key.Want.{Want}
use Rattle.blk_base.specs.Bytes.{IsImage}
use Rattle.blk_base.specs.Items.{RootValue}
use Rattle.blk_base.specs.Superblock.{SuperValue}
use Rattle.block_table.specs.Table.{Table, empty_table}
use Rattle.block_table.specs.TreeIn.{IsTaken}
use Rattle.fault_laws.proofs.Agreeing.{subs_same}
use Rattle.flat_model.specs.Volume.{Subvolume, Volume, mounted, subvolume_ids}
use Rattle.format_laws.specs.Superblock.{IsSuper-from_read, super_of-Ok}
use Rattle.image_faults.specs.Said.{said_sub}
use Rattle.image_order.specs.FirstFault.{Found, FoundTree, standing_of, volume_in, with_room}
use Rattle.image_order.specs.FirstFault as faults
use Rattle.image_order.proofs.Committing.{stands}
use Rattle.table_volume.specs.Gives.{data_in}
use Rattle.table_volume.specs.Running.{GiveVolume}
use Rattle.table_volume.proofs.Giving.{data_at}
use Rattle.tree_load.specs.Loaded.{HasBytes, tree_wanted}
use Rattle.tree_load.proofs.Tables.{live_not_free}
use Rattle.tree_range.specs.Shape.{tree_reach}
use Rattle.volume_format.specs.Views.{super_view}
use Rattle.volume_image.specs.Roots.{root_want, roots_of, sub_want}
use Rattle.volume_image.specs.Stands.{AreSubvolumesAt, Stands, StandsBy, data_of, free_of, mount_need, super_block}
use Rattle.volume_image.specs.Subvolume.{data_addresses}
use Rattle.volume_image.specs.Tree.{Image, IsTree as IsTreeOn}
use Rattle.volume_image.proofs.Members.{flat_map_in}
use Rattle.volume_image.proofs.Reaches.{head_in, tail_in}
use Rattle.volume_image.proofs.RootItems.{roots_are_read}
use Rattle.volume_image.proofs.Trees.{tree_is_one_lem}
use Rattle.volume_seal.specs.Sealed.{states_reach}
use Rattle.tree_mount.specs.declared.mounted.Mounted.{Mounted}
use Rattle.tree_mount.specs.Mounted.{AreWhole, IsMountedAs, LeadsToVolume, found_whole, mount_reach}
use Rattle.tree_mount.specs.Trees.{AreLoaded, found_tree, items_of, reach_of, sub_wants, wants_data, wants_reach}
use Rattle.tree_mount.proofs.Given.{all, all_allowed, each_reach, entry_in, live, moved, size, subs_reach, volume_by}
use Rattle.tree_mount.proofs.Order.{one_super}
use Rattle.std.proofs.lemmas.List.Elements.{Contains-append_right}

-- the reach of the subvolumes of an image
reach_same : (image : Image) (super : SuperValue) (table : Table) (roots : List RootValue) (subs : List (ℕ × Subvolume)) (reach : List ℕ) → AreSubvolumesAt image super roots subs reach
    → ((want : Want) → Contains (sub_wants super (map (λ (e : ℕ × Subvolume). e.0) subs) roots) want → IsTreeOn image super.blocks want (items_of table want) (reach_of table want)) → reach ≡ subs_reach table (sub_wants super (map (λ (e : ℕ × Subvolume). e.0) subs) roots)
reach_same image super table [] [] reach are trees = are
reach_same image super table [] (sub ∷ subs) reach are trees = absurd are
reach_same image super table (root ∷ roots) [] reach are trees = absurd are
reach_same image super table (root ∷ roots) (sub ∷ subs) reach (near, far, is, others, is_reach) trees =
    let want : Want = sub_want super sub.0 root in
    let ids : List ℕ = map (λ (e : ℕ × Subvolume). e.0) subs in
    let rest = reach_same image super table roots subs far others (λ other c. trees other (tail_in want other (sub_wants super ids roots) c)) in
    let one = tree_is_one_lem image super.blocks want is.items (items_of table want) is.tree_reach (reach_of table want) is.tree (trees want (head_in want (sub_wants super ids roots))) in
    is_reach ∙ (λ i. (is.reached ∙ (λ j. one.1 j ++ data_addresses (one.0 j))) i ++ rest i)

-- ---- the mounted volume

module _ (image : Image) (is_image : IsImage image) (super : SuperValue) (mid new : Table) (wants : List Want) (loaded : AreLoaded (empty_table super.blocks) mid (root_want super ∷ wants)) (whole : AreWhole mid new wants) (leads : LeadsToVolume image super new wants)
    (room : mount_need ≤ free_of super.blocks (length (all super mid new wants loaded whole))) where
  standing : standing_of image ≡ Ok (found_whole super new wants)
  standing =
      leads.rest ∙ ap (λ b. cond b (Err (faults.NoRoom (free_of super.blocks (length (all super mid new wants loaded whole))) mount_need)) (Ok (found_whole super new wants))) (le-ltb (free_of super.blocks (length (all super mid new wants loaded whole))) mount_need room)

  same_data : (want : Want) → Contains wants want → (at : ℕ) → Contains (data_addresses (items_of new want)) at → data_in new at ≡ data_of image at
  same_data want c at d =
      let here : Contains (all super mid new wants loaded whole) at = Contains-append_right (wants_reach new (root_want super ∷ wants)) (wants_data new wants) at (flat_map_in (λ (w : Want). data_addresses (items_of new w)) wants want at c d) in
      let ok = all_allowed super mid new wants loaded whole at here in
      let on_disk = (IsSuper-from_read (super_block image) (length image) super leads.spelled).on_disk in
      let slots = size super mid new wants loaded whole in
      let inside : at / 4096 < length image = let within = ok.inside in omega arith in
      let taken : IsTaken new at = record { allowed = ok; taken = live_not_free new at (live super mid new wants loaded whole at here) } in
      data_at new at taken ∙ ap (λ (b : List ℕ). Some b) (sym (leads.bytes at here)) ∙ sym (slice_get-get_or image (at / 4096) [] inside)

  entries_same : (ws : List Want) → ((want : Want) → Contains ws want → (at : ℕ) → Contains (data_addresses (items_of new want)) at → data_in new at ≡ data_of image at)
      → map (entry_in new) ws ≡ map (λ (tree : FoundTree). (tree.id, said_sub tree.items (data_of image))) (map (found_tree new) ws)
  entries_same [] same = refl
  entries_same (want ∷ ws) same =
      let one = subs_same (items_of new want) (data_in new) (data_of image) (same want (head_in want ws)) in
      (λ i. (want.owner, one i) ∷ entries_same ws (λ other c. same other (tail_in want other ws c)) i)

  pub volume_is : volume_by new wants ≡ volume_in image (found_whole super new wants)
  volume_is = ap (from_entries {R = nat_cmp}) (entries_same wants same_data)

  stood : Stands image (volume_in image (found_whole super new wants))
  stood = stands image (found_whole super new wants) is_image standing leads.no_log

  super_is : stood.by_reach.super ≡ super
  super_is = one_super image stood.by_reach.super super (super_of-Ok (super_block image) (length image) stood.by_reach.super stood.by_reach.spelled) leads.spelled

  reach_by : (other : SuperValue) → other ≡ super → (by : Rattle.volume_image.specs.Stands.IsCommitted image other (volume_in image (found_whole super new wants)) stood.reach) → stood.reach ≡ each_reach super mid new wants loaded whole
  reach_by other same by =
      go (subst (λ (s : SuperValue). Rattle.volume_image.specs.Stands.IsCommitted image s (volume_in image (found_whole super new wants)) stood.reach) same by)
    where
      go : Rattle.volume_image.specs.Stands.IsCommitted image super (volume_in image (found_whole super new wants)) stood.reach → stood.reach ≡ each_reach super mid new wants loaded whole
      go is =
          let root = tree_is_one_lem image super.blocks (root_want super) is.items (items_of new (root_want super)) is.root_reach (reach_of new (root_want super)) is.root_tree (leads.trees (root_want super) (head_in (root_want super) wants)) in
          let read : roots_of (items_of new (root_want super)) ≡ Ok is.roots = ap roots_of (sym root.0) ∙ (roots_are_read is.items is.roots).1 (is.least, is.most, is.root_items) in
          let roots : is.roots ≡ leads.read.roots = ok_same is.roots leads.read.roots (sym read ∙ leads.read.read) in
          let are : sub_wants super (map (λ (e : ℕ × Subvolume). e.0) (entries (volume_in image (found_whole super new wants)))) is.roots ≡ wants =
          ap (λ (ids : List ℕ). sub_wants super ids is.roots) is.ids ∙ ap (λ (rs : List RootValue). sub_wants super (subvolume_ids (length rs)) rs) roots ∙ sym leads.read.wants_are in
          let subs = reach_same image super new is.roots (entries (volume_in image (found_whole super new wants))) is.sub_reach is.subvolumes (λ want c. leads.trees want (tail_in (root_want super) want wants (subst (λ (l : List Want). Contains l want) are c))) in
          is.reached ∙ (λ i. root.1 i ++ (subs ∙ ap (subs_reach new) are) i)
        where
          ok_same : {E : Type 0} (x y : List RootValue) → ◌≡◌ {A = Result (List RootValue) E} (Ok x) (Ok y) → x ≡ y
          ok_same x y e = cc

  pub stands_by : StandsBy image (volume_in image (found_whole super new wants)) (each_reach super mid new wants loaded whole)
  stands_by = subst (StandsBy image (volume_in image (found_whole super new wants))) (reach_by stood.by_reach.super super_is stood.by_reach.committed) stood.by_reach

  pub as_mounted : (m : Mounted) → m.table ≡ new → super_view m.superblock ≡ super → m.root ≡ tree_wanted (root_want super) → states_reach new m.states.items ≡ subs_reach new wants → GiveVolume new m.states.items (mounted (volume_by new wants)) → IsMountedAs image m
  as_mounted m table_is view root_is reach_is gives =
      let reach : mount_reach m ≡ each_reach super mid new wants loaded whole = (λ i. tree_reach (table_is i) (root_is i) ++ states_reach (table_is i) m.states.items) ∙ ap (λ (l : List ℕ). reach_of new (root_want super) ++ l) reach_is in
      let bytes : HasBytes image new (each_reach super mid new wants loaded whole) = λ at c. leads.bytes at (Contains-permutation (each_reach super mid new wants loaded whole) (all super mid new wants loaded whole) at (moved super mid new wants loaded whole) c) in
      record {
        found = found_whole super new wants;
        standing = standing;
        superblock = sym view;
        no_log = leads.no_log;
        gives = subst (λ (t : Table). GiveVolume t m.states.items (mounted (volume_in image (found_whole super new wants)))) (sym table_is) (subst (λ (v : Volume). GiveVolume new m.states.items (mounted v)) volume_is gives);
        bytes = subst (λ (t : Table). HasBytes image t (mount_reach m)) (sym table_is) (subst (HasBytes image new) (sym reach) bytes);
        stands = subst (StandsBy image (volume_in image (found_whole super new wants))) (sym reach) stands_by;
      }
