-- The edits that add a name make the subvolume with it.
use Rattle.std.proofs.Common.{◌≡◌, ◌⊎◌, ◌∙◌, ◌+◌, ◌*◌, ◌<◌, ◌^◌, ◌++◌, ℕ, Bool, true, false, List, [], ◌∷◌, length, Option, Some, refl, sym, ap, subst, inl, inr, arith}
use Rattle.std.specs.Prelude.{Contains}
use Rattle.std.specs.FinMap.{get}
use Rattle.std.specs.Option.{unwrap_or}
use Rattle.std.proofs.lemmas.List.Elements.{Contains-append_cases}
use Rattle.blk_base.specs.declared.key.Key.{Key}
use Rattle.blk_base.specs.Crc.{extref_hash_of, name_hash_of}
use Rattle.blk_base.specs.Entries.{EntryValue, entry_bytes, extref_bytes, ref_bytes}
use Rattle.blk_base.specs.Items.{InodeValue, IsInode, dir_mode, inode_bytes}
use Rattle.blk_base.specs.Keys.{dir_index, dir_item, inode_extref, inode_ref}
use Rattle.block_table.specs.declared.tree.Tree.{Tree}
use Rattle.block_table.specs.Table.{Table}
use Rattle.tree_range.specs.Between.{data_under}
use Rattle.tree_range.specs.Shape.{tree_items, tree_reach}
use Rattle.tree_frame.specs.Frame.{AreCurrent}
use Rattle.flat_model.specs.Names.{FlatName}
use Rattle.flat_model.specs.Records.{DirInode}
use Rattle.flat_model.specs.Volume.{Subvolume}
use Rattle.volume_image.specs.Subvolume.{entry_kind_of, extref_of, hashed_asked, make_key, mode_of, ref_of}
use Rattle.table_volume.specs.Edited.{HadEntry}
use Rattle.table_volume.specs.Gives.{GivesSubvolume, data_in}
use Rattle.table_volume.specs.Keyed.{HoldsKey}
use Rattle.table_volume.proofs.Changes.{name_added}
use Rattle.table_volume.proofs.Keyed.{keys_hold}
use Rattle.item_edit.specs.ItemEdit.{HasInode, IsItemEdit, bytes_under}
use Rattle.item_edit.proofs.Files.{now_other}
use Rattle.name_items.specs.Names.{MayAddName, hashed_key, indexed_key, ref_entry, ref_key}
use Rattle.name_items.specs.Edits.{AddsEntries, NameEdits, kind_of_mode, made_entry, with_links, with_size}
use Rattle.name_items.proofs.Adding.{absent, far_added, hashed_added, hashed_spelled, indexed_added, indexed_spelled, kind_is, near_added}
use Rattle.name_items.proofs.AskedLists.{with_name}
use Rattle.name_items.proofs.Found.{HasItem, has_item, one_inode}
use Rattle.name_items.proofs.Inodes.{links_grow, names_grow, others_added}
use Rattle.name_items.proofs.NameEdit.{IsNaming, bears_some, had_entries, nlink_links, only_one}
use Rattle.name_items.proofs.Steps.{entries_bear, not_ref, ref_bears, ref_is_far, ref_is_near, ref_kinds}
use Rattle.name_items.proofs.UnderKeys.{EntriesBefore, hashed_before}

near_entry : (name : FlatName) → name.near ≡ true → ref_entry name ≡ ref_bytes (ref_of name)
near_entry name near = rw near refl

far_entry : (name : FlatName) → name.near ≡ false → ref_entry name ≡ extref_bytes (extref_of name)
far_entry name far = rw far refl

-- what stands under the key by the hash stays where the name's entry with its inode is edited
pub hashed_kept : (old mid : Table) (before between : Tree) (name : FlatName) (now : Option (List ℕ)) → IsItemEdit old mid before between (ref_key name) now → data_under (hashed_key name) (tree_items mid between) ≡ data_under (hashed_key name) (tree_items old before)
hashed_kept old mid before between name now edit =
    now_other old mid before between (ref_key name) (hashed_key name) now edit (not_ref name (hashed_key name) (λ e. omega (arith, e)) (λ e. omega (arith, e)))

-- the entry behind those of its hash, by what stood there at the start
pub listed_hashed : (old mid new : Table) (before between after : Tree) (name : FlatName) (now : Option (List ℕ)) (entry : List ℕ) → IsItemEdit old mid before between (ref_key name) now → (adds : AddsEntries mid new between after name entry)
    → IsItemEdit mid adds.middle between adds.between (hashed_key name) (Some (bytes_under (hashed_key name) (tree_items old before) ++ entry))
listed_hashed old mid new before between after name now entry edit adds =
    subst (λ (o : Option (List ℕ)). IsItemEdit mid adds.middle between adds.between (hashed_key name) (Some (unwrap_or o [] ++ entry))) (hashed_kept old mid before between name now edit) adds.hashed

-- all that is known where a name is added
pub record IsAdding (old new : Table) (before after : Tree) (name : FlatName) (s : Subvolume) (dir inode : InodeValue) (running : ℕ) : Type 0 where
  pub gives : GivesSubvolume old before s
  pub may : MayAddName s name
  pub current : AreCurrent old (tree_reach old before)
  pub dir_has : HasInode (tree_items old before) name.dir dir
  pub inode_has : HasInode (tree_items old before) name.ino inode
  pub edits : NameEdits old new before after name (Some (bytes_under (ref_key name) (tree_items old before) ++ ref_entry name)) (Some (bytes_under (hashed_key name) (tree_items old before) ++ entry_bytes (made_entry name (kind_of_mode inode.mode) running)))
      (Some (entry_bytes (made_entry name (kind_of_mode inode.mode) running))) dir inode (dir.size + 2 * length name.bytes) (inode.nlink + 1) running
  pub dir_again : IsInode (inode_bytes (with_size dir (dir.size + 2 * length name.bytes) running)) (with_size dir (dir.size + 2 * length name.bytes) running)
  pub inode_again : (inode.mode ≡ dir_mode → ⊥) → IsInode (inode_bytes (with_links inode (inode.nlink + 1) running)) (with_links inode (inode.nlink + 1) running)
  pub fits : running < 2 ^ 64

module _ (old new : Table) (before after : Tree) (name : FlatName) (s : Subvolume) (dir inode : InodeValue) (running : ℕ) (h : IsAdding old new before after name s dir inode running) where
  holds : (key : Key) → HoldsKey s (data_in old) key (data_under key (tree_items old before))
  holds key = keys_hold (tree_items old before) (data_in old) s h.gives.tree_in.order h.gives.items key

  inode_item_is : HasItem old before s h.gives name.ino h.may.inode
  inode_item_is = has_item old before s h.gives name.ino h.may.inode h.may.inode_there

  dir_item_is : HasItem old before s h.gives name.dir (DirInode h.may.dir)
  dir_item_is = has_item old before s h.gives name.dir (DirInode h.may.dir) h.may.dir_there

  inode_same : inode_item_is.value ≡ inode
  inode_same = one_inode (tree_items old before) name.ino inode_item_is.value inode inode_item_is.has h.inode_has

  dir_same : dir_item_is.value ≡ dir
  dir_same = one_inode (tree_items old before) name.dir dir_item_is.value dir dir_item_is.has h.dir_has

  mode_is : inode.mode ≡ mode_of h.may.inode
  mode_is = ap (λ (v : InodeValue). v.mode) (sym inode_same) ∙ inode_item_is.mode

  kind_same : kind_of_mode inode.mode ≡ entry_kind_of (get s.inodes name.ino)
  kind_same = kind_is s name.ino h.may.inode inode.mode h.may.inode_there mode_is

  abbrev entry : EntryValue
  entry = made_entry name (kind_of_mode inode.mode) running

  abbrev hashed_was : EntriesBefore dir_item (data_under (hashed_key name) (tree_items old before)) (hashed_asked s name.dir (name_hash_of name.bytes))
  hashed_was =
      hashed_before s (data_in old) (hashed_key name) (data_under (hashed_key name) (tree_items old before)) (holds (hashed_key name)) refl

  entry_new : (e : EntryValue) → Contains (hashed_was.found ++ (made_entry name (kind_of_mode inode.mode) running ∷ [])) e → HadEntry (tree_items h.edits.t1 h.edits.r1) (hashed_key name) e ⊎ (e.transid ≡ running)
  entry_new e c = elim (Contains-append_cases hashed_was.found (made_entry name (kind_of_mode inode.mode) running ∷ []) e c) [
    | inl was ↦ inl (had_entries (tree_items h.edits.t1 h.edits.r1) (hashed_key name) (data_under (hashed_key name) (tree_items old before)) dir_item hashed_was.found
        (hashed_kept old h.edits.t1 before h.edits.r1 name (Some (bytes_under (ref_key name) (tree_items old before) ++ ref_entry name)) h.edits.linked) refl hashed_was.spelled hashed_was.none e was)
    | inr last ↦ inr (only_one (made_entry name (kind_of_mode inode.mode) running) e last)
  ]

  ref_held_by : (b : Bool) → name.near ≡ b → HoldsKey (with_name s name) (data_in old) (ref_key name) (Some (bytes_under (ref_key name) (tree_items old before) ++ ref_entry name))
  ref_held_by true near =
      subst (λ (k : Key). HoldsKey (with_name s name) (data_in old) k (Some (bytes_under k (tree_items old before) ++ ref_entry name))) (sym (ref_is_near name near))
      (subst (λ (e : List ℕ). HoldsKey (with_name s name) (data_in old) (make_key name.ino inode_ref name.dir) (Some (bytes_under (make_key name.ino inode_ref name.dir) (tree_items old before) ++ e))) (sym (near_entry name near))
      (near_added s (data_in old) name h.may near (data_under (make_key name.ino inode_ref name.dir) (tree_items old before)) (holds (make_key name.ino inode_ref name.dir))))
  ref_held_by false far =
      let key : Key = make_key name.ino inode_extref (extref_hash_of name.dir name.bytes) in
      subst (λ (k : Key). HoldsKey (with_name s name) (data_in old) k (Some (bytes_under k (tree_items old before) ++ ref_entry name))) (sym (ref_is_far name far))
      (subst (λ (e : List ℕ). HoldsKey (with_name s name) (data_in old) key (Some (bytes_under key (tree_items old before) ++ e))) (sym (far_entry name far)) (far_added s (data_in old) name h.may far (data_under key (tree_items old before)) (holds key)))

  pub adding : IsNaming old new before after name s (with_name s name) dir inode (Some (bytes_under (ref_key name) (tree_items old before) ++ ref_entry name)) (Some (bytes_under (hashed_key name) (tree_items old before) ++ entry_bytes (made_entry name (kind_of_mode inode.mode) running)))
      (Some (entry_bytes (made_entry name (kind_of_mode inode.mode) running))) (dir.size + 2 * length name.bytes) (inode.nlink + 1) running
  adding =
      let none : Contains s.names name → ⊥ = absent s (data_in old) name h.may in
      let spelled = hashed_spelled s (data_in old) name h.may (kind_of_mode inode.mode) running kind_same h.fits (data_under (hashed_key name) (tree_items old before)) (holds (hashed_key name)) in
      let hashed_bytes : List ℕ = bytes_under (hashed_key name) (tree_items old before) ++ entry_bytes entry in
      record {
        gives = h.gives;
        current = h.current;
        inode_record = h.may.inode;
        inode_there = h.may.inode_there;
        dir_record = h.may.dir;
        dir_there = h.may.dir_there;
        inodes_same = refl;
        changes = name_added s name;
        dir_has = h.dir_has;
        inode_has = h.inode_has;
        edits = h.edits;
        ref_bears = bears_some running (tree_items old before) (ref_key name) (bytes_under (ref_key name) (tree_items old before) ++ ref_entry name) (ref_bears running (tree_items old before) (ref_key name) (bytes_under (ref_key name) (tree_items old before) ++ ref_entry name) (ref_kinds name name.near refl));
        hashed_bears = bears_some running (tree_items h.edits.t1 h.edits.r1) (hashed_key name) hashed_bytes (entries_bear running dir_item (tree_items h.edits.t1 h.edits.r1) (hashed_key name) hashed_bytes (hashed_was.found ++ (entry ∷ [])) refl (inl refl) spelled entry_new);
        indexed_bears = bears_some running (tree_items h.edits.t2 h.edits.r2) (indexed_key name) (entry_bytes entry) (entries_bear running dir_index (tree_items h.edits.t2 h.edits.r2) (indexed_key name) (entry_bytes entry) (entry ∷ []) refl (inr refl) (indexed_spelled s (data_in old) name h.may (kind_of_mode inode.mode) running kind_same h.fits) (λ x c. inr (only_one entry x c)));
        dir_again = h.dir_again;
        inode_again = h.inode_again;
        ref_held = ref_held_by name.near refl;
        hashed_held = hashed_added s (data_in old) name h.may (kind_of_mode inode.mode) running kind_same h.fits (data_under (hashed_key name) (tree_items old before)) (holds (hashed_key name));
        indexed_held = indexed_added s (data_in old) name h.may (kind_of_mode inode.mode) running kind_same h.fits;
        size_is = omega (arith, ap (λ (v : InodeValue). v.size) (sym dir_same) ∙ dir_item_is.size, names_grow s name h.may.in_order none);
        links_is = λ other. omega (arith, ap (λ (v : InodeValue). v.nlink) (sym inode_same) ∙ inode_item_is.nlink ∙ nlink_links s name.ino h.may.inode (λ e. other (mode_is ∙ e)), links_grow s name h.may.in_order none);
        others_same = others_added s name h.may.in_order;
      }
