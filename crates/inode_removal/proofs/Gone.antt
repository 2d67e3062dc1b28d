-- A subvolume without an inode, behind the edit that lets its data blocks go and takes its items out.
use Rattle.std.proofs.Common.{◌≡◌, ◌≢◌, ◌⊎◌, ◌∙◌, ◌<◌, ◌≤◌, ◌+◌, ◌*◌, ◌||◌, ◌&&◌, ◌++◌, ℕ, Bool, true, false, not, List, [], ◌∷◌, Contains, Option, Some, None, filter, length, nat_eq, refl, sym, ap, subst, inl, inr, arith}
use Rattle.std.specs.Prelude.{All}
use Rattle.std.specs.FinMap.{get, remove}
use Rattle.std.proofs.lemmas.Bool.{and_parts, cases_Bool, cases_eq, eq-eqb, eqb-true, false_from_ne_true, or_parts, true≢false}
use Rattle.std.proofs.lemmas.List.Elements.{All-append, All-contains}
use Rattle.blk_base.specs.declared.key.Key.{Key}
use Rattle.blk_base.specs.Keys.{KeyBelow, extent_data, inode_item, key_below, xattr_item}
use Rattle.blk_base.specs.Leaf.{Item}
use Rattle.blk_base.specs.Trees.{NoneTwice}
use Rattle.block_table.specs.declared.state.SlotState.TheVariants.{LetGo}
use Rattle.block_table.specs.declared.tree.SubState.{SubState}
use Rattle.block_table.specs.declared.tree.Tree.{Tree}
use Rattle.block_table.specs.Slot.{BlockSlot}
use Rattle.block_table.specs.Table.{Table, free_blocks}
use Rattle.block_table.specs.TreeIn.{IsSealedTree, IsTaken, block_at}
use Rattle.leaf_view.specs.KeyOrder.{KeyBelow_from, KeyBelow_parts}
use Rattle.leaf_view.proofs.Rising.{key_below_from, key_below_means}
use Rattle.tree_range.specs.Between.{data_under, has_key, items_between}
use Rattle.tree_range.specs.Shape.{AreAlike, IsTree, tree_items, tree_reach}
use Rattle.tree_range.proofs.Local.{tree_alike}
use Rattle.tree_range.proofs.Rise.{All-left, All-right}
use Rattle.tree_range.proofs.Under.{has_key_means}
use Rattle.tree_frame.specs.Frame.{AreCurrent, IsEdit, TakesAtMost}
use Rattle.tree_frame.proofs.Among.{alike_right, edit_among, once_among}
use Rattle.tree_frame.proofs.EditLaws.{edits_join}
use Rattle.tree_delete.proofs.Seals.{sealed_alike}
use Rattle.tree_delete_range.specs.Outside.{items_outside}
use Rattle.cow_tree.proofs.Items.{rise_filter}
use Rattle.flat_model.specs.Needs.{blocks_and_items_there}
use Rattle.flat_model.specs.Records.{FileInode, InodeRecord}
use Rattle.flat_model.specs.Volume.{Subvolume}
use Rattle.flat_model.proofs.Maps.{get_remove_same, some_none}
use Rattle.volume_image.specs.Subvolume.{AreItemsOf, Data, IsAsked, data_addresses, item_addresses, make_key}
use Rattle.volume_image.proofs.Lists.{in_cons, in_nothing}
use Rattle.volume_image.proofs.Members.{filter_in, flat_map_in, in_filter}
use Rattle.table_volume.specs.Edited.{IsSubEdit, KeepsClean}
use Rattle.table_volume.proofs.SubEdits.{alike_keeps_clean, clean_joined, tree_keeps_clean}
use Rattle.table_volume.specs.Gives.{GivesSubvolume, bytes_there, data_in, sub_reach, tree_data}
use Rattle.table_volume.specs.Keyed.{AsksAttributes, AsksExtRefs, AsksHashed, AsksIndexed, AsksInode, AsksRefs, AsksTarget, DoesAsk, HoldsExtents, HoldsKey, does_inode_count, is_touched}
use Rattle.table_volume.proofs.Changes.{inode_removed}
use Rattle.table_volume.proofs.Changing.{change_holds}
use Rattle.table_volume.proofs.Items.{fewer_bear, under_kept, under_out}
use Rattle.table_volume.proofs.Keyed.{found_under, keys_hold}
use Rattle.data_release.specs.LetGo.{AreLeft, behind, files, in_front}
use Rattle.data_release.proofs.Left.{stay_current, stay_taken}
use Rattle.data_release.proofs.Ranges.{outside_of}
use Rattle.inode_removal.specs.Removal.{MayRemoveInode, most_taken}
use Rattle.inode_removal.proofs.Few.{AreOf, few_items}
use Rattle.inode_removal.proofs.OwnItems.{kind_of_item, small_offset}

-- ---- the range of an inode's keys

abbrev pub first_of : ℕ → Key
first_of ino = make_key ino 0 0

abbrev pub last_of : ℕ → Key
last_of ino = make_key ino 255 18446744073709551615

pub in_order : (ino : ℕ) → KeyBelow (first_of ino) (last_of ino)
in_order ino = KeyBelow_from (first_of ino) (last_of ino) (inr (refl, inl (omega arith)))

-- whether an item's key is out of the range
abbrev is_out : ℕ → Item → Bool
is_out ino item = key_below item.0 (first_of ino) || key_below (last_of ino) item.0

apart_out : (ino : ℕ) (item : Item) → item.0.objectid ≢ ino → is_out ino item ≡ true
apart_out ino item other = go (key_below item.0 (first_of ino)) refl
  where
    go : (b : Bool) → key_below item.0 (first_of ino) ≡ b → (b || key_below (last_of ino) item.0) ≡ true
    go true is = refl
    go false is = key_below_from (last_of ino) item.0 (KeyBelow_from (last_of ino) item.0 (inl above))
      where
        above : ino < item.0.objectid
        above = elim (Rattle.std.proofs.lemmas.Bool.cases_order item.0.objectid ino) [
          | inl same ↦ absurd (other same)
          | inr more ↦ elim more [
            | inl low ↦ absurd (true≢false (sym (key_below_from item.0 (first_of ino) (KeyBelow_from item.0 (first_of ino) (inl low))) ∙ is))
            | inr high ↦ high
          ]
        ]

inside_out : (ino : ℕ) (item : Item) → item.0.objectid ≡ ino → 0 < item.0.kind → item.0.kind < 255 → is_out ino item ≡ false
inside_out ino item is some few =
    let front : key_below item.0 (first_of ino) ≡ false = false_from_ne_true (key_below item.0 (first_of ino)) (λ h. let parts = KeyBelow_parts item.0 (first_of ino) (key_below_means item.0 (first_of ino) h) in grind (arith, parts, is, some)) in
    let back : key_below (last_of ino) item.0 ≡ false = false_from_ne_true (key_below (last_of ino) item.0) (λ h. let parts = KeyBelow_parts (last_of ino) item.0 (key_below_means (last_of ino) item.0 h) in grind (arith, parts, is, few)) in
    rw (front, back) refl

-- what is in the range is of the inode
of_inode : (ino : ℕ) (items : List Item) (item : Item) → Contains (items_between (first_of ino) (last_of ino) items) item → Contains items item × (item.0.objectid ≡ ino)
of_inode ino items item c =
    let up = in_filter (λ (x : Item). not (key_below (last_of ino) x.0)) (filter (λ (x : Item). not (key_below x.0 (first_of ino))) items) item c in
    let from = in_filter (λ (x : Item). not (key_below x.0 (first_of ino))) items item up.0 in (
      from.0,
      elim (cases_eq item.0.objectid ino) [
        | inl same ↦ same
        | inr other ↦ absurd (both (key_below item.0 (first_of ino)) (key_below (last_of ino) item.0) from.1 up.1 (apart_out ino item other))
      ],
    )
  where
    both : (a b : Bool) → not a ≡ true → not b ≡ true → (a || b) ≡ true → ⊥
    both true b p q r = true≢false (sym p)
    both false true p q r = true≢false (sym q)
    both false false p q r = true≢false (sym r)

-- ---- the keys that tell of the inode's record

kinds_of : (ino : ℕ) (key : Key) → is_touched [] (ino ∷ []) key ≡ true → (key.objectid ≡ ino) × ((key.kind ≡ inode_item) ⊎ ((key.kind ≡ xattr_item) ⊎ (key.kind ≡ extent_data)))
kinds_of ino key there =
    let one : does_inode_count ino key ≡ true = left_of (does_inode_count ino key) there in
    let parts = and_parts _ _ one in
    (eqb-true key.objectid ino parts.0, kinds (nat_eq key.kind inode_item) (nat_eq key.kind xattr_item) (nat_eq key.kind extent_data) refl refl refl parts.1)
  where
    left_of : (b : Bool) → (b || false) ≡ true → b ≡ true
    left_of true e = refl
    left_of false e = e

    kinds : (a b c : Bool) → nat_eq key.kind inode_item ≡ a → nat_eq key.kind xattr_item ≡ b → nat_eq key.kind extent_data ≡ c → (a || b || c) ≡ true → (key.kind ≡ inode_item) ⊎ ((key.kind ≡ xattr_item) ⊎ (key.kind ≡ extent_data))
    kinds true b c p q r e = inl (eqb-true key.kind inode_item p)
    kinds false true c p q r e = inr (inl (eqb-true key.kind xattr_item q))
    kinds false false true p q r e = inr (inr (eqb-true key.kind extent_data r))
    kinds false false false p q r e = absurd (true≢false (sym e))

tells_of : (ino : ℕ) (key : Key) → key.objectid ≡ ino → (key.kind ≡ inode_item) ⊎ ((key.kind ≡ xattr_item) ⊎ (key.kind ≡ extent_data)) → is_touched [] (ino ∷ []) key ≡ true
tells_of ino key is (inl kind) = rw (eq-eqb key.objectid ino is, kind) refl
tells_of ino key is (inr (inl kind)) = rw (eq-eqb key.objectid ino is, kind) refl
tells_of ino key is (inr (inr kind)) = rw (eq-eqb key.objectid ino is, kind) refl

-- ---- the whole edit

-- what taking a range of items out leaves
pub record IsCut (old new : Table) (before after : Tree) (ino : ℕ) : Type 0 where
  pub tree : IsTree new after
  pub items : tree_items new after ≡ items_outside (first_of ino) (last_of ino) (tree_items old before)
  pub owner : after.owner ≡ before.owner
  pub edit : IsEdit old new (tree_reach old before) (tree_reach new after)
  pub current : AreCurrent new (tree_reach new after)
  pub blocks : TakesAtMost old new (2 * length (items_between (first_of ino) (last_of ino) (tree_items old before)) + 34)
  pub sealed : (fsid : List ℕ) (was : ℕ) → IsSealedTree old before fsid was → (now : ℕ) × IsSealedTree new after fsid now

-- the data blocks that are left
abbrev pub rest_of : Table → Tree → ℕ → List ℕ
rest_of old before ino = files (in_front (first_of ino) (tree_items old before)) ++ files (behind (last_of ino) (tree_items old before))

module _ (old mid : Table) (before : Tree) (sub : Subvolume) (ino : ℕ) (gives : GivesSubvolume old before sub) (may : MayRemoveInode sub ino)
    (left : AreLeft old mid (tree_reach old before ++ tree_data old before) (tree_reach old before ++ rest_of old before ino)) where
  tree_same : AreAlike old mid (tree_reach old before)
  tree_same =
      All-left (λ (at : ℕ). block_at mid at ≡ block_at old at) (tree_reach old before) (rest_of old before ino) left.alike

  rest_same : AreAlike old mid (rest_of old before ino)
  rest_same =
      All-right (λ (at : ℕ). block_at mid at ≡ block_at old at) (tree_reach old before) (rest_of old before ino) left.alike

  items_mid : tree_items mid before ≡ tree_items old before
  items_mid = (tree_alike old mid before tree_same).0

  reach_mid : tree_reach mid before ≡ tree_reach old before
  reach_mid = (tree_alike old mid before tree_same).1

  pub tree_mid : IsTree mid before
  tree_mid = (tree_alike old mid before tree_same).2 gives.tree_in

  pub current_mid : AreCurrent mid (tree_reach mid before)
  current_mid =
      subst (λ (l : List ℕ). AreCurrent mid l) (sym reach_mid) (All-left (λ (at : ℕ). (block_at mid at).state ≢ LetGo) (tree_reach old before) (rest_of old before ino) left.current)

  -- how many items go
  are_of : AreOf sub (data_in old) ino (items_between (first_of ino) (last_of ino) (tree_items mid before))
  are_of =
      subst (λ (items : List Item). AreOf sub (data_in old) ino (items_between (first_of ino) (last_of ino) items)) (sym items_mid) (record {
        rise = rise_filter (λ (x : Item). not (key_below (last_of ino) x.0)) (filter (λ (x : Item). not (key_below x.0 (first_of ino))) (tree_items old before))
            (rise_filter (λ (x : Item). not (key_below x.0 (first_of ino))) (tree_items old before) gives.tree_in.order);
        each = λ key bytes c. let found = of_inode ino (tree_items old before) (key, bytes) c in (found.1, gives.items.only key bytes found.0);
      })

  few : length (items_between (first_of ino) (last_of ino) (tree_items mid before)) ≤ 1 + blocks_and_items_there (get sub.inodes ino)
  few = few_items sub (data_in old) ino (items_between (first_of ino) (last_of ino) (tree_items mid before)) are_of may

  pub room_spare : most_taken sub ino ≤ old.spare → 2 * length (items_between (first_of ino) (last_of ino) (tree_items mid before)) + 34 ≤ mid.spare
  room_spare enough = let most = few in let same = left.takes.spare in omega (arith, most, same, enough)

  pub room_free : most_taken sub ino ≤ free_blocks old → 2 * length (items_between (first_of ino) (last_of ino) (tree_items mid before)) + 34 ≤ free_blocks mid
  room_free enough = let most = few in let same = left.takes.free in omega (arith, most, same, enough)

  module _ (new : Table) (after : Tree) (cut : IsCut mid new before after ino) where
    once_mid : NoneTwice ([] ++ (tree_reach mid before ++ rest_of old before ino))
    once_mid = subst (λ (l : List ℕ). NoneTwice (l ++ rest_of old before ino)) (sym reach_mid) left.once

    taken_mid : All (IsTaken mid) ([] ++ (tree_reach mid before ++ rest_of old before ino))
    taken_mid = subst (λ (l : List ℕ). All (IsTaken mid) (l ++ rest_of old before ino)) (sym reach_mid) left.taken

    rest_kept : AreAlike mid new (rest_of old before ino)
    rest_kept =
        alike_right mid new [] (tree_reach mid before) (tree_reach new after) (rest_of old before ino) cut.edit once_mid taken_mid

    items_now : tree_items new after ≡ items_outside (first_of ino) (last_of ino) (tree_items old before)
    items_now = cut.items ∙ ap (items_outside (first_of ino) (last_of ino)) items_mid

    data_now : tree_data new after ≡ rest_of old before ino
    data_now =
        ap (λ (items : List Item). data_addresses items) items_now ∙ outside_of (first_of ino) (last_of ino) (in_order ino) (tree_items old before) gives.tree_in.order

    reach_now : tree_reach new after ++ rest_of old before ino ≡ sub_reach new after
    reach_now = ap (λ (l : List ℕ). tree_reach new after ++ l) (sym data_now)

    whole_edit : IsEdit old new (sub_reach old before) (sub_reach new after)
    whole_edit =
        subst (λ (l : List ℕ). IsEdit old new (sub_reach old before) l) reach_now
        (edits_join old mid new (sub_reach old before) (tree_reach old before ++ rest_of old before ino) (tree_reach new after ++ rest_of old before ino) left.edit
        (subst (λ (l : List ℕ). IsEdit mid new (l ++ rest_of old before ino) (tree_reach new after ++ rest_of old before ino)) reach_mid
        (edit_among mid new [] (tree_reach mid before) (tree_reach new after) (rest_of old before ino) cut.edit once_mid taken_mid)))

    whole_current : AreCurrent new (sub_reach new after)
    whole_current =
        subst (λ (l : List ℕ). AreCurrent new l) reach_now (All-append (λ (at : ℕ). (block_at new at).state ≢ LetGo) (tree_reach new after) (rest_of old before ino) cut.current
        (stay_current mid new (rest_of old before ino) rest_kept (All-right (λ (at : ℕ). (block_at mid at).state ≢ LetGo) (tree_reach old before) (rest_of old before ino) left.current)))

    whole_takes : TakesAtMost old new (most_taken sub ino)
    whole_takes =
        let most = few in
        record { spare = omega (arith, most, left.takes.spare, cut.blocks.spare); free = omega (arith, most, left.takes.free, cut.blocks.free) }

    -- ---- the items

    member : (item : Item) → Contains (tree_items new after) item → Contains (tree_items old before) item × (is_out ino item ≡ true)
    member item c =
        in_filter (is_out ino) (tree_items old before) item (subst (λ (l : List Item). Contains l item) items_now c)

    held : (key : Key) → HoldsKey sub (data_in old) key (data_under key (tree_items old before))
    held key = keys_hold (tree_items old before) (data_in old) sub gives.tree_in.order gives.items key

    under_now : (key : Key) → data_under key (tree_items new after) ≡ data_under key (filter (is_out ino) (tree_items old before))
    under_now key = ap (λ (l : List Item). data_under key l) items_now

    by_key : (key : Key) (b : Bool) → is_out ino (key, []) ≡ b → (item : Item) → has_key key item ≡ true → is_out ino item ≡ b
    by_key key b is item has = subst (λ (k : Key). is_out ino (k, []) ≡ b) (sym (has_key_means key item has)) is

    -- a key that tells nothing of the inode
    stays : (key : Key) → is_touched [] (ino ∷ []) key ≡ false → data_under key (tree_items new after) ≡ data_under key (tree_items old before)
    stays key out = under_now key ∙ go (is_out ino (key, [])) refl
      where
        nothing : key.objectid ≡ ino → (there : Option (List ℕ)) → HoldsKey sub (data_in old) key there → None ≡ there
        nothing is None holds = refl
        nothing is (Some bytes) holds =
            absurd (true≢false (sym (tells_of ino key is (kind_of_item sub (data_in old) ino may key bytes is (holds.only bytes refl))) ∙ out))

        go : (b : Bool) → is_out ino (key, []) ≡ b → data_under key (filter (is_out ino) (tree_items old before)) ≡ data_under key (tree_items old before)
        go true is = under_kept key (is_out ino) (tree_items old before) (by_key key true is)
        go false is =
            under_out key (is_out ino) (tree_items old before) (by_key key false is) ∙ elim (cases_eq key.objectid ino) [
              | inl same ↦ nothing same (data_under key (tree_items old before)) (held key)
              | inr other ↦ absurd (true≢false (sym (apart_out ino (key, []) other) ∙ is))
            ]

    -- a key that tells of it
    gone : (key : Key) → is_touched [] (ino ∷ []) key ≡ true → data_under key (tree_items new after) ≡ None
    gone key there =
        let of = kinds_of ino key there in
        let out = inside_out ino (key, []) of.0 (some of.1) (few_kinds of.1) in
        under_now key ∙ under_out key (is_out ino) (tree_items old before) (by_key key false out)
      where
        some : (key.kind ≡ inode_item) ⊎ ((key.kind ≡ xattr_item) ⊎ (key.kind ≡ extent_data)) → 0 < key.kind
        some (inl kind) = omega (arith, kind)
        some (inr (inl kind)) = omega (arith, kind)
        some (inr (inr kind)) = omega (arith, kind)

        few_kinds : (key.kind ≡ inode_item) ⊎ ((key.kind ≡ xattr_item) ⊎ (key.kind ≡ extent_data)) → key.kind < 255
        few_kinds (inl kind) = omega (arith, kind)
        few_kinds (inr (inl kind)) = omega (arith, kind)
        few_kinds (inr (inr kind)) = omega (arith, kind)

    abbrev without : Subvolume
    without = record { inodes = remove sub.inodes ino; names = sub.names }

    no_inode : get without.inodes ino ≡ None
    no_inode = get_remove_same sub.inodes ino

    asks_nothing : (key : Key) → key.objectid ≡ ino → (key.kind ≡ inode_item) ⊎ ((key.kind ≡ xattr_item) ⊎ (key.kind ≡ extent_data)) → DoesAsk without key → ⊥
    asks_nothing key is kind (AsksInode inode k zero there) =
        some_none inode (sym there ∙ ap (get without.inodes) is ∙ no_inode)
    asks_nothing key is kind (AsksRefs k some) = grind (arith, k, kind)
    asks_nothing key is kind (AsksExtRefs k some) = grind (arith, k, kind)
    asks_nothing key is kind (AsksAttributes k some) = some (none (get without.inodes key.objectid) (ap (get without.inodes) is ∙ no_inode))
      where
        none : (o : Option InodeRecord) → o ≡ None
            → Rattle.std.proofs.Common.map Rattle.volume_image.specs.Subvolume.attribute_entry (filter (λ attribute. nat_eq (Rattle.blk_base.specs.Crc.name_hash_of attribute.0) key.offset) (Rattle.volume_image.specs.Subvolume.attributes_there o)) ≡ []
        none o e = rw e refl
    asks_nothing key is kind (AsksHashed k some) = grind (arith, k, kind)
    asks_nothing key is kind (AsksIndexed k some) = grind (arith, k, kind)
    asks_nothing key is kind (AsksTarget link k zero there) =
        some_none _ (sym there ∙ ap (get without.inodes) is ∙ no_inode)

    touched : (key : Key) → is_touched [] (ino ∷ []) key ≡ true → HoldsKey without (data_in new) key (data_under key (tree_items new after))
    touched key there =
        subst (λ (o : Option (List ℕ)). HoldsKey without (data_in new) key o) (sym (gone key there)) (record {
          only = λ bytes e. absurd cc;
          all = λ asks. let of = kinds_of ino key there in absurd (asks_nothing key of.0 of.1 asks);
        })

    extents : (i : ℕ) → Contains (ino ∷ []) i → HoldsExtents without (tree_items new after) i
    extents i c = elim (in_cons ino i [] c) [
      | inl same ↦ subst (λ (i : ℕ). HoldsExtents without (tree_items new after) i) same (record {
        covered = λ file number block there has. absurd (some_none (FileInode file) (sym there ∙ no_inode));
        apart = λ one two first second a b less.
            absurd (some_none first (sym (found_under (tree_items new after) (make_key ino extent_data one) first cut.tree.order a) ∙ gone (make_key ino extent_data one) (tells_of ino (make_key ino extent_data one) refl (inr (inr refl)))));
      })
      | inr none ↦ absurd (in_nothing i none)
    ]

    -- the data blocks of the other inodes stay
    data_stays : (key : Key) (bytes : List ℕ) → is_touched [] (ino ∷ []) key ≡ false → key.kind ≡ extent_data → Contains (tree_items old before) (key, bytes) → (at : ℕ) → Contains (item_addresses (key, bytes)) at → data_in old at ≡ data_in new at
    data_stays key bytes out kind there at c =
        let other : key.objectid ≢ ino = λ same. true≢false (sym (tells_of ino key same (inr (inr kind))) ∙ out) in
        let kept : Contains (items_outside (first_of ino) (last_of ino) (tree_items old before)) (key, bytes) = filter_in (is_out ino) (tree_items old before) (key, bytes) there (apart_out ino (key, bytes) other) in
        let among : Contains (rest_of old before ino) at = subst (λ (l : List ℕ). Contains l at) (outside_of (first_of ino) (last_of ino) (in_order ino) (tree_items old before) gives.tree_in.order)
        (flat_map_in item_addresses (items_outside (first_of ino) (last_of ino) (tree_items old before)) (key, bytes) at kept c) in
        let one = All-contains (λ (a : ℕ). block_at mid a ≡ block_at old a) (rest_of old before ino) at rest_same among in
        let two = All-contains (λ (a : ℕ). block_at new a ≡ block_at mid a) (rest_of old before ino) at rest_kept among in
        ap (λ (slot : BlockSlot). bytes_there slot) (sym (two ∙ one))

    are_items : AreItemsOf (tree_items new after) (data_in new) without
    are_items =
        change_holds (tree_items old before) (tree_items new after) (data_in old) (data_in new) sub without [] (ino ∷ []) gives.tree_in.order cut.tree.order gives.items
        (inode_removed sub ino may.unnamed) stays data_stays touched extents

    pub gives_now : GivesSubvolume new after without
    gives_now = record {
      tree_in = cut.tree;
      items = are_items;
      data_taken = subst (λ (l : List ℕ). All (IsTaken new) l) (sym data_now) (stay_taken mid new cut.edit.size (rest_of old before ino) rest_kept (All-right (IsTaken mid) (tree_reach old before) (rest_of old before ino) left.taken));
      once = subst NoneTwice reach_now (once_among mid new [] (tree_reach mid before) (tree_reach new after) (rest_of old before ino) cut.edit once_mid taken_mid cut.tree.once);
    }

    pub sub_edit : (state : SubState) → state.tree ≡ before → IsSubEdit old new state (record state { tree = after }) (most_taken sub ino)
    sub_edit state is = record {
      edit = subst (λ (t : Tree). IsEdit old new (sub_reach old t) (sub_reach new after)) (sym is) whole_edit;
      current = whole_current;
      kept = subst (λ (t : Tree). KeepsClean old new t after) (sym is) (clean_joined old mid new before before after (alike_keeps_clean old mid before tree_same) (tree_keeps_clean mid new before after cut.edit));
      sealed = λ fsid was h. cut.sealed fsid was (sealed_alike before.level old mid (record { fsid = fsid; at = before.root; generation = was; owner = before.owner; level = before.level }) tree_same (subst (λ (t : Tree). IsSealedTree old t fsid was) is h));
      owner = cut.owner ∙ ap (λ (t : Tree). t.owner) (sym is);
      running = refl;
      bear = fewer_bear state.running (tree_items old state.tree) (tree_items new after) (λ item c. subst (λ (t : Tree). Contains (tree_items old t) item) (sym is) (member item c).0);
      taken = whole_takes;
    }

-- what letting the data blocks go asks for
pub offsets_small : (table : Table) (tree : Tree) (sub : Subvolume) (ino : ℕ) → GivesSubvolume table tree sub → MayRemoveInode sub ino → (key : Key) (bytes : List ℕ) → Contains (tree_items table tree) (key, bytes) → key.offset + 1 < 18446744073709551616
offsets_small table tree sub ino gives may key bytes c =
    small_offset sub (data_in table) ino may key bytes (gives.items.only key bytes c)
