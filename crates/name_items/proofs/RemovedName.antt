-- The edits that take a name out make the subvolume without it.
use Rattle.std.proofs.Common.{◌≡◌, ◌≢◌, ◌⊎◌, ◌∙◌, ◌-◌, ◌*◌, ◌++◌, ℕ, Bool, true, false, List, [], ◌∷◌, length, take, drop, Option, Some, None, IsSome, refl, sym, ap, subst, inl, inr, arith}
use Rattle.std.specs.Prelude.{Contains}
use Rattle.std.specs.List.{flat_map}
use Rattle.std.specs.Option.{unwrap_or}
use Rattle.std.proofs.lemmas.List.Elements.{Contains-append_cases, Contains-append_left, Contains-append_right}
use Rattle.blk_base.specs.declared.key.Key.{Key}
use Rattle.blk_base.specs.Crc.{extref_hash_of, name_hash_of}
use Rattle.blk_base.specs.Entries.{EntryValue, ExtRefValue, IsEntries, IsExtRefs, IsRefs, RefValue, entry_bytes, extref_bytes, ref_bytes}
use Rattle.blk_base.specs.Items.{InodeValue, IsInode, dir_mode, inode_bytes}
use Rattle.blk_base.specs.Keys.{dir_item, inode_extref, inode_item, inode_ref}
use Rattle.block_table.specs.declared.tree.Tree.{Tree}
use Rattle.block_table.specs.Table.{Table}
use Rattle.tree_range.specs.Between.{data_under}
use Rattle.tree_range.specs.Shape.{tree_items, tree_reach}
use Rattle.tree_frame.specs.Frame.{AreCurrent}
use Rattle.flat_model.specs.Names.{FlatName}
use Rattle.flat_model.specs.Records.{DirInode}
use Rattle.flat_model.specs.Volume.{Subvolume}
use Rattle.flat_model.proofs.Maps.{some_none}
use Rattle.volume_image.proofs.Reaches.{tail_in}
use Rattle.volume_image.specs.Subvolume.{hashed_asked, make_key, mode_of}
use Rattle.table_volume.specs.Edited.{HadEntry}
use Rattle.table_volume.specs.Gives.{GivesSubvolume, data_in}
use Rattle.table_volume.specs.Keyed.{HoldsKey}
use Rattle.table_volume.proofs.Changes.{name_removed}
use Rattle.table_volume.proofs.Keyed.{keys_hold}
use Rattle.item_edit.specs.ItemEdit.{BearsUnder, HasInode, IsItemEdit, bytes_under, item_bytes}
use Rattle.name_items.specs.Names.{MayRemoveName, hashed_key, indexed_key, ref_key}
use Rattle.name_items.specs.Edits.{LinksInode, NameEdits, with_links, with_size}
use Rattle.name_items.specs.Places.{CutsEntry, CutsRef, HasRef, IsEntryNamed, IsFarNamed, IsRefNamed}
use Rattle.name_items.proofs.AskedLists.{without_name}
use Rattle.name_items.proofs.Found.{HasItem, has_item, one_inode}
use Rattle.name_items.proofs.Inodes.{links_shrink, names_shrink, others_removed}
use Rattle.name_items.proofs.NameEdit.{IsNaming, had_entries, nlink_links}
use Rattle.name_items.proofs.Removing.{far_found, far_refs, far_removed, far_was, hashed_found, hashed_removed, hashed_spelled, hashed_was, index_there, indexed_removed, less_apart, less_held, near_found, near_refs, near_removed, near_was}
use Rattle.name_items.proofs.Steps.{entries_bear, not_ref, ref_bears, ref_is_far, ref_is_near, ref_kinds}
use Rattle.name_items.proofs.UnderKeys.{EntriesBefore, is_entries}

-- bytes of an item are those that it was made of, and some
item_bytes_are : (bytes is : List ℕ) → item_bytes bytes ≡ Some is → (bytes ≡ is) × (bytes ≢ [])
item_bytes_are [] is e = absurd cc
item_bytes_are (b ∷ bs) is e = let same : b ∷ bs ≡ is = cc in (same, λ none. absurd cc)

-- ---- what is there at the start

module _ (table : Table) (tree : Tree) (s : Subvolume) (name : FlatName) (gives : GivesSubvolume table tree s) (may : MayRemoveName s name) where
  holds : (key : Key) → HoldsKey s (data_in table) key (data_under key (tree_items table tree))
  holds key = keys_hold (tree_items table tree) (data_in table) s gives.tree_in.order gives.items key

  pub has_ref : HasRef (tree_items table tree) name
  has_ref = record {
    near = λ near.
        let key : Key = make_key name.ino inode_ref name.dir in
        subst (λ (k : Key). (found : List RefValue) × IsRefs k (bytes_under k (tree_items table tree)) found × (entry : RefValue) × Contains found entry × IsRefNamed name.bytes entry) (sym (ref_is_near name near))
        (near_found s (data_in table) name may near (data_under key (tree_items table tree)) (holds key));
    far = λ far.
        let key : Key = make_key name.ino inode_extref (extref_hash_of name.dir name.bytes) in
        subst (λ (k : Key). (found : List ExtRefValue) × IsExtRefs (bytes_under k (tree_items table tree)) found × (entry : ExtRefValue) × Contains found entry × IsFarNamed name.dir name.bytes entry) (sym (ref_is_far name far))
        (far_found s (data_in table) name may far (data_under key (tree_items table tree)) (holds key));
  }

  pub has_hashed : (found : List EntryValue) × IsEntries dir_item (bytes_under (hashed_key name) (tree_items table tree)) found × (entry : EntryValue) × Contains found entry × IsEntryNamed name.bytes entry
  has_hashed =
      hashed_found s (data_in table) name may (data_under (hashed_key name) (tree_items table tree)) (holds (hashed_key name))

  pub has_indexed : IsSome (data_under (indexed_key name) (tree_items table tree))
  has_indexed = index_there s (data_in table) name may (data_under (indexed_key name) (tree_items table tree)) (holds (indexed_key name))

-- ---- the whole

-- all that is known where a name is taken out
pub record IsRemoving (old new : Table) (before after : Tree) (name : FlatName) (s : Subvolume) (dir inode : InodeValue) (running : ℕ) : Type 0 where
  pub gives : GivesSubvolume old before s
  pub may : MayRemoveName s name
  pub current : AreCurrent old (tree_reach old before)
  pub dir_has : HasInode (tree_items old before) name.dir dir
  pub inode_has : HasInode (tree_items old before) name.ino inode
  pub t1 : Table
  pub t2 : Table
  pub t3 : Table
  pub t4 : Table
  pub r1 : Tree
  pub r2 : Tree
  pub r3 : Tree
  pub r4 : Tree
  pub linked : CutsRef old t1 before r1 name
  pub hashed : (found : List EntryValue) → IsEntries dir_item (bytes_under (hashed_key name) (tree_items t1 r1)) found → CutsEntry entry_bytes (IsEntryNamed name.bytes) found t1 t2 r1 r2 (hashed_key name)
  pub indexed : IsItemEdit t2 t3 r2 r3 (indexed_key name) None
  pub sized : IsItemEdit t3 t4 r3 r4 (make_key name.dir inode_item 0) (Some (inode_bytes (with_size dir (dir.size - 2 * length name.bytes) running)))
  pub counted : LinksInode t4 new r4 after name.ino inode (with_links inode (inode.nlink - 1) running)
  pub dir_again : IsInode (inode_bytes (with_size dir (dir.size - 2 * length name.bytes) running)) (with_size dir (dir.size - 2 * length name.bytes) running)
  pub inode_again : (inode.mode ≡ dir_mode → ⊥) → IsInode (inode_bytes (with_links inode (inode.nlink - 1) running)) (with_links inode (inode.nlink - 1) running)

-- what is left of the item of the name's inode
record RefLeft (old mid : Table) (before between : Tree) (name : FlatName) (next : Subvolume) : Type 0 where
  bytes : List ℕ
  edit : IsItemEdit old mid before between (ref_key name) (item_bytes bytes)
  held : HoldsKey next (data_in old) (ref_key name) (item_bytes bytes)

module _ (old new : Table) (before after : Tree) (name : FlatName) (s : Subvolume) (dir inode : InodeValue) (running : ℕ) (h : IsRemoving old new before after name s dir inode running) where
  held_at : (key : Key) → HoldsKey s (data_in old) key (data_under key (tree_items old before))
  held_at key = keys_hold (tree_items old before) (data_in old) s h.gives.tree_in.order h.gives.items key

  ref_left_by : (b : Bool) → name.near ≡ b → RefLeft old h.t1 before h.r1 name (without_name s name)
  ref_left_by true near =
      let key : Key = make_key name.ino inode_ref name.dir in
      let there : Option (List ℕ) = data_under key (tree_items old before) in
      let was = near_was s (data_in old) name h.may near there (held_at key) in
      let refs = near_refs s (data_in old) name h.may near there (held_at key) in
      let same : ref_key name ≡ key = ref_is_near name near in
      let cut : CutsEntry ref_bytes (IsRefNamed name.bytes) was.found old h.t1 before h.r1 (ref_key name) = h.linked.near was.found near (subst (λ (k : Key). IsRefs k (bytes_under k (tree_items old before)) was.found) (sym same) refs) in
      let bytes : List ℕ = take cut.from (bytes_under (ref_key name) (tree_items old before)) ++ drop cut.to (bytes_under (ref_key name) (tree_items old before)) in
      record {
        bytes = bytes;
        edit = cut.edit;
        held = subst (λ (k : Key). HoldsKey (without_name s name) (data_in old) k (item_bytes (take cut.from (bytes_under k (tree_items old before)) ++ drop cut.to (bytes_under k (tree_items old before))))) (sym same) (near_removed s (data_in old) name h.may near there (held_at key) cut.from cut.to cut.place);
      }
  ref_left_by false far =
      let key : Key = make_key name.ino inode_extref (extref_hash_of name.dir name.bytes) in
      let there : Option (List ℕ) = data_under key (tree_items old before) in
      let was = far_was s (data_in old) name h.may far there (held_at key) in
      let refs = far_refs s (data_in old) name h.may far there (held_at key) in
      let same : ref_key name ≡ key = ref_is_far name far in
      let cut : CutsEntry extref_bytes (IsFarNamed name.dir name.bytes) was.found old h.t1 before h.r1 (ref_key name) = h.linked.far was.found far (subst (λ (k : Key). IsExtRefs (bytes_under k (tree_items old before)) was.found) (sym same) refs) in
      let bytes : List ℕ = take cut.from (bytes_under (ref_key name) (tree_items old before)) ++ drop cut.to (bytes_under (ref_key name) (tree_items old before)) in
      record {
        bytes = bytes;
        edit = cut.edit;
        held = subst (λ (k : Key). HoldsKey (without_name s name) (data_in old) k (item_bytes (take cut.from (bytes_under k (tree_items old before)) ++ drop cut.to (bytes_under k (tree_items old before))))) (sym same) (far_removed s (data_in old) name h.may far there (held_at key) cut.from cut.to cut.place);
      }

  ref_left : RefLeft old h.t1 before h.r1 name (without_name s name)
  ref_left = ref_left_by name.near refl

  hashed_same : data_under (hashed_key name) (tree_items h.t1 h.r1) ≡ data_under (hashed_key name) (tree_items old before)
  hashed_same =
      h.linked.others (hashed_key name) (not_ref name (hashed_key name) (λ e. omega (arith, e)) (λ e. omega (arith, e)))

  abbrev listed_was : EntriesBefore dir_item (data_under (hashed_key name) (tree_items old before)) (hashed_asked s name.dir (name_hash_of name.bytes))
  listed_was =
      hashed_was s (data_in old) name h.may (data_under (hashed_key name) (tree_items old before)) (held_at (hashed_key name))

  listed_spelled : IsEntries dir_item (bytes_under (hashed_key name) (tree_items h.t1 h.r1)) listed_was.found
  listed_spelled =
      subst (λ (o : Option (List ℕ)). IsEntries dir_item (unwrap_or o []) listed_was.found) (sym hashed_same) (hashed_spelled s (data_in old) name h.may (data_under (hashed_key name) (tree_items old before)) (held_at (hashed_key name)))

  abbrev listed_cut : CutsEntry entry_bytes (IsEntryNamed name.bytes) listed_was.found h.t1 h.t2 h.r1 h.r2 (hashed_key name)
  listed_cut = h.hashed listed_was.found listed_spelled

  abbrev listed_bytes : List ℕ
  listed_bytes =
      take listed_cut.from (bytes_under (hashed_key name) (tree_items old before)) ++ drop listed_cut.to (bytes_under (hashed_key name) (tree_items old before))

  listed_edit : IsItemEdit h.t1 h.t2 h.r1 h.r2 (hashed_key name) (item_bytes listed_bytes)
  listed_edit =
      subst (λ (o : Option (List ℕ)). IsItemEdit h.t1 h.t2 h.r1 h.r2 (hashed_key name) (item_bytes (take listed_cut.from (unwrap_or o []) ++ drop listed_cut.to (unwrap_or o [])))) hashed_same listed_cut.edit

  -- each entry that is left was there
  left_had : (e : EntryValue) → Contains (listed_cut.place.placed.lefts ++ listed_cut.place.placed.rights) e → HadEntry (tree_items h.t1 h.r1) (hashed_key name) e ⊎ (e.transid ≡ running)
  left_had e c =
      let lefts : List EntryValue = listed_cut.place.placed.lefts in
      let rights : List EntryValue = listed_cut.place.placed.rights in
      let among : Contains (lefts ++ (listed_cut.place.entry ∷ rights)) e = elim (Contains-append_cases lefts rights e c) [
        | inl l ↦ Contains-append_left lefts (listed_cut.place.entry ∷ rights) e l
        | inr r ↦ Contains-append_right lefts (listed_cut.place.entry ∷ rights) e (tail_in listed_cut.place.entry e rights r)
      ] in
      inl (had_entries (tree_items h.t1 h.r1) (hashed_key name) (data_under (hashed_key name) (tree_items old before)) dir_item listed_was.found hashed_same refl listed_was.spelled listed_was.none e (subst (λ (l : List EntryValue). Contains l e) (sym listed_cut.place.placed.parts) among))

  listed_bears : (bytes : List ℕ) → item_bytes listed_bytes ≡ Some bytes → BearsUnder running (tree_items h.t1 h.r1) (hashed_key name) bytes
  listed_bears bytes e =
      let parts = item_bytes_are listed_bytes bytes e in
      let there : Option (List ℕ) = data_under (hashed_key name) (tree_items old before) in
      let lefts : List EntryValue = listed_cut.place.placed.lefts in
      let rights : List EntryValue = listed_cut.place.placed.rights in
      let held = less_held s (data_in old) name h.may there (held_at (hashed_key name)) listed_cut.from listed_cut.to listed_cut.place in
      let apart = less_apart s (data_in old) name h.may there (held_at (hashed_key name)) listed_cut.from listed_cut.to listed_cut.place in
      let some : lefts ++ rights ≢ [] = λ none. parts.1 (held.spelled ∙ ap (flat_map entry_bytes) none) in
      let spelled : IsEntries dir_item listed_bytes (lefts ++ rights) = is_entries dir_item listed_bytes (lefts ++ rights) some held apart (λ no. absurd (omega (arith, no))) in
      entries_bear running dir_item (tree_items h.t1 h.r1) (hashed_key name) bytes (lefts ++ rights) refl (inl refl) (subst (λ (l : List ℕ). IsEntries dir_item l (lefts ++ rights)) parts.0 spelled) left_had

  inode_item_is : HasItem old before s h.gives name.ino h.may.inode
  inode_item_is = has_item old before s h.gives name.ino h.may.inode h.may.inode_there

  dir_item_is : HasItem old before s h.gives name.dir (DirInode h.may.dir)
  dir_item_is = has_item old before s h.gives name.dir (DirInode h.may.dir) h.may.dir_there

  inode_same : inode_item_is.value ≡ inode
  inode_same = one_inode (tree_items old before) name.ino inode_item_is.value inode inode_item_is.has h.inode_has

  dir_same : dir_item_is.value ≡ dir
  dir_same = one_inode (tree_items old before) name.dir dir_item_is.value dir dir_item_is.has h.dir_has

  mode_is : inode.mode ≡ mode_of h.may.inode
  mode_is = ap (λ (v : InodeValue). v.mode) (sym inode_same) ∙ inode_item_is.mode

  edits : NameEdits old new before after name (item_bytes ref_left.bytes) (item_bytes listed_bytes) None dir inode (dir.size - 2 * length name.bytes) (inode.nlink - 1) running
  edits = record {
    t1 = h.t1;
    t2 = h.t2;
    t3 = h.t3;
    t4 = h.t4;
    r1 = h.r1;
    r2 = h.r2;
    r3 = h.r3;
    r4 = h.r4;
    linked = ref_left.edit;
    hashed = listed_edit;
    indexed = h.indexed;
    sized = h.sized;
    counted = h.counted;
  }

  pub ref_bytes_left : List ℕ
  ref_bytes_left = ref_left.bytes

  pub listed_bytes_left : List ℕ
  listed_bytes_left = listed_bytes

  pub removing : IsNaming old new before after name s (without_name s name) dir inode (item_bytes ref_bytes_left) (item_bytes listed_bytes_left) None (dir.size - 2 * length name.bytes) (inode.nlink - 1) running
  unfolding ref_bytes_left listed_bytes_left edits
  removing = record {
    gives = h.gives;
    current = h.current;
    inode_record = h.may.inode;
    inode_there = h.may.inode_there;
    dir_record = h.may.dir;
    dir_there = h.may.dir_there;
    inodes_same = refl;
    changes = name_removed s name;
    dir_has = h.dir_has;
    inode_has = h.inode_has;
    edits = edits;
    ref_bears = λ bytes e. ref_bears running (tree_items old before) (ref_key name) bytes (ref_kinds name name.near refl);
    hashed_bears = listed_bears;
    indexed_bears = λ bytes e. absurd (some_none bytes (sym e));
    dir_again = h.dir_again;
    inode_again = h.inode_again;
    ref_held = ref_left.held;
    hashed_held = hashed_removed s (data_in old) name h.may (data_under (hashed_key name) (tree_items old before)) (held_at (hashed_key name)) listed_cut.from listed_cut.to listed_cut.place;
    indexed_held = indexed_removed s (data_in old) name h.may;
    size_is = omega (arith, ap (λ (v : InodeValue). v.size) (sym dir_same) ∙ dir_item_is.size, names_shrink s name h.may.in_order h.may.there);
    links_is = λ other. omega (arith, ap (λ (v : InodeValue). v.nlink) (sym inode_same) ∙ inode_item_is.nlink ∙ nlink_links s name.ino h.may.inode (λ e. other (mode_is ∙ e)), links_shrink s name h.may.in_order h.may.there);
    others_same = others_removed s name h.may.in_order;
  }
