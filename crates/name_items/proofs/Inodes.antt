-- The inode items of a name's directory and of its inode, with the name and without it.
use Rattle.std.proofs.Common.{◌≡◌, ◌≢◌, ◌∙◌, ◌+◌, ◌*◌, ℕ, true, List, length, Option, Some, None, refl, sym, ap, subst, arith}
use Rattle.std.specs.Prelude.{Contains, sum_by}
use Rattle.std.specs.FinMap.{get}
use Rattle.std.proofs.lemmas.Bool.{eq-eqb, ne_eqb, true≢false}
use Rattle.blk_base.specs.declared.key.Key.{Key}
use Rattle.blk_base.specs.Items.{InodeValue, IsInode, dir_mode, inode_bytes}
use Rattle.blk_base.specs.Keys.{inode_item}
use Rattle.flat_model.specs.Names.{FlatName, add_name, entries_of, is_name_set, leads_to, links_of, names_of, remove_name, stands_in}
use Rattle.flat_model.specs.Records.{DirInode, DirRecord, FileInode, InodeRecord, LinkInode}
use Rattle.flat_model.specs.Volume.{Subvolume}
use Rattle.flat_model.proofs.Maps.{some_same}
use Rattle.flat_model.proofs.NameSets.{filter_add_name, filter_add_other, filter_remove_name, filter_remove_other, is_name_set_filter, length_add_name, length_remove_name, sum_by_add_name, sum_by_remove_name}
use Rattle.volume_image.specs.Subvolume.{Data, InodeAsked, IsAsked, IsInodeOf, make_key, mode_of}
use Rattle.volume_image.proofs.Asked.{asked_inode}
use Rattle.volume_image.proofs.Members.{filter_in, in_filter}
use Rattle.table_volume.specs.Keyed.{AsksAttributes, AsksExtRefs, AsksHashed, AsksIndexed, AsksInode, AsksRefs, AsksTarget, DoesAsk, HoldsKey}
use Rattle.name_items.specs.Edits.{with_links, with_size}

-- ---- what stands under an inode's key

-- an inode item that is right stands there
pub inode_holds : (sub : Subvolume) (blocks : Data) (key : Key) (inode : InodeRecord) (bytes : List ℕ) → key.kind ≡ inode_item → key.offset ≡ 0 → get sub.inodes key.objectid ≡ Some inode → IsInodeOf sub key.objectid inode bytes → HoldsKey sub blocks key (Some bytes)
inode_holds sub blocks key inode bytes kind offset there is = record {
  only = λ b e. subst (IsAsked sub blocks key) (some_same bytes b e) (InodeAsked inode kind offset there is);
  all = λ asks. refl;
}

offset_asked : (sub : Subvolume) (key : Key) → key.kind ≡ inode_item → DoesAsk sub key → key.offset ≡ 0
offset_asked sub key k (AsksInode _ l zero _) = zero
offset_asked sub key k (AsksRefs l _) = absurd (omega arith)
offset_asked sub key k (AsksExtRefs l _) = absurd (omega arith)
offset_asked sub key k (AsksAttributes l _) = absurd (omega arith)
offset_asked sub key k (AsksHashed l _) = absurd (omega arith)
offset_asked sub key k (AsksIndexed l _) = absurd (omega arith)
offset_asked sub key k (AsksTarget _ l _ _) = absurd (omega arith)

-- under another offset stands nothing
pub elsewhere_holds : (old new : Subvolume) (blocks : Data) (key : Key) (there : Option (List ℕ)) → key.kind ≡ inode_item → key.offset ≢ 0 → HoldsKey old blocks key there → HoldsKey new blocks key there
elsewhere_holds old new blocks key there kind other holds = record {
  only = λ bytes e. absurd (other (asked_inode old blocks key bytes kind (holds.only bytes e)).1);
  all = λ asks. absurd (other (offset_asked new key kind asks));
}

-- what stands under the key of an inode that is there
pub record InodeThere (sub : Subvolume) (ino : ℕ) (inode : InodeRecord) (there : Option (List ℕ)) : Type 0 where
  pub bytes : List ℕ
  pub is : there ≡ Some bytes
  pub right : IsInodeOf sub ino inode bytes

pub inode_before : (sub : Subvolume) (blocks : Data) (ino : ℕ) (inode : InodeRecord) (there : Option (List ℕ)) → HoldsKey sub blocks (make_key ino inode_item 0) there → get sub.inodes ino ≡ Some inode → InodeThere sub ino inode there
inode_before sub blocks ino inode None holds has =
    absurd (true≢false (sym (holds.all (AsksInode inode refl refl has))))
inode_before sub blocks ino inode (Some bytes) holds has =
    let a = asked_inode sub blocks (make_key ino inode_item 0) bytes refl (holds.only bytes refl) in
    let same : a.0 ≡ inode = some_same a.0 inode (sym a.2 ∙ has) in
    record { bytes = bytes; is = refl; right = subst (λ (r : InodeRecord). IsInodeOf sub ino r bytes) same a.3 }

-- ---- which inodes are directories

pub dir_is_one : (sub : Subvolume) (ino : ℕ) (inode : InodeRecord) (bytes : List ℕ) (value : InodeValue) → IsInodeOf sub ino inode bytes → IsInode bytes value → value.mode ≡ mode_of inode
dir_is_one sub ino inode bytes value is spelled =
    ap (λ (v : InodeValue). v.mode) (sym spelled.value ∙ is.spelled.value) ∙ is.mode

-- what another value with the same bytes says
pub value_is_one : (sub : Subvolume) (ino : ℕ) (inode : InodeRecord) (bytes : List ℕ) (value : InodeValue) → (is : IsInodeOf sub ino inode bytes) → IsInode bytes value → is.value ≡ value
value_is_one sub ino inode bytes value is spelled = sym is.spelled.value ∙ spelled.value

-- ---- sums over a directory's names, and numbers of names

module _ (sub : Subvolume) (name : FlatName) (set : is_name_set sub.names ≡ true) where
  own_dir : stands_in name.dir name ≡ true
  own_dir = eq-eqb name.dir name.dir refl

  own_ino : leads_to name.ino name ≡ true
  own_ino = eq-eqb name.ino name.ino refl

  abbrev long : FlatName → ℕ
  long n = length n.bytes

  module _ (absent : Contains sub.names name → ⊥) where
    pub names_grow : sum_by (λ (n : FlatName). length n.bytes) (entries_of (add_name name sub.names) name.dir) ≡ length name.bytes + sum_by (λ (n : FlatName). length n.bytes) (entries_of sub.names name.dir)
    names_grow =
        ap (sum_by (λ (n : FlatName). length n.bytes)) (filter_add_name (stands_in name.dir) name sub.names set own_dir)
        ∙ sum_by_add_name (λ (n : FlatName). length n.bytes) name (entries_of sub.names name.dir) (λ c. absent (in_filter (stands_in name.dir) sub.names name c).0)

    pub links_grow : links_of (add_name name sub.names) name.ino ≡ 1 + links_of sub.names name.ino
    links_grow =
        ap length (filter_add_name (leads_to name.ino) name sub.names set own_ino) ∙ length_add_name name (names_of sub.names name.ino) (λ c. absent (in_filter (leads_to name.ino) sub.names name c).0)

  module _ (there : Contains sub.names name) where
    pub names_shrink : length name.bytes + sum_by (λ (n : FlatName). length n.bytes) (entries_of (remove_name name sub.names) name.dir) ≡ sum_by (λ (n : FlatName). length n.bytes) (entries_of sub.names name.dir)
    names_shrink =
        ap (λ (l : List FlatName). length name.bytes + sum_by (λ (n : FlatName). length n.bytes) l) (filter_remove_name (stands_in name.dir) name sub.names)
        ∙ sum_by_remove_name (λ (n : FlatName). length n.bytes) name (entries_of sub.names name.dir) (is_name_set_filter (stands_in name.dir) sub.names set) (filter_in (stands_in name.dir) sub.names name there own_dir)

    pub links_shrink : 1 + links_of (remove_name name sub.names) name.ino ≡ links_of sub.names name.ino
    links_shrink =
        ap (λ (l : List FlatName). 1 + length l) (filter_remove_name (leads_to name.ino) name sub.names) ∙ length_remove_name name (names_of sub.names name.ino) (is_name_set_filter (leads_to name.ino) sub.names set) (filter_in (leads_to name.ino) sub.names name there own_ino)

  -- another directory has the names that it had
  pub others_added : (dir : ℕ) → name.dir ≢ dir → entries_of (add_name name sub.names) dir ≡ entries_of sub.names dir
  others_added dir other =
      filter_add_other (stands_in dir) name sub.names (ne_eqb name.dir dir other)

  pub others_removed : (dir : ℕ) → name.dir ≢ dir → entries_of (remove_name name sub.names) dir ≡ entries_of sub.names dir
  others_removed dir other =
      filter_remove_other (stands_in dir) name sub.names (ne_eqb name.dir dir other)

-- ---- the items, with more names or fewer

-- a directory's item with the size of its names
pub dir_sized : (old new : Subvolume) (ino : ℕ) (dir : DirRecord) (bytes : List ℕ) (value : InodeValue) (size running : ℕ) → IsInodeOf old ino (DirInode dir) bytes → IsInode bytes value
    → size ≡ 2 * sum_by (λ (n : FlatName). length n.bytes) (entries_of new.names ino) → IsInode (inode_bytes (with_size value size running)) (with_size value size running) → IsInodeOf new ino (DirInode dir) (inode_bytes (with_size value size running))
dir_sized old new ino dir bytes value size running is spelled size_is again =
    let same : is.value ≡ value = value_is_one old ino (DirInode dir) bytes value is spelled in
    record {
      value = with_size value size running;
      spelled = again;
      mode = ap (λ (v : InodeValue). v.mode) (sym same) ∙ is.mode;
      size = size_is;
      nbytes = ap (λ (v : InodeValue). v.nbytes) (sym same) ∙ is.nbytes;
      nlink = ap (λ (v : InodeValue). v.nlink) (sym same) ∙ is.nlink;
    }

-- a file's or symlink's item with the number of its names
pub other_counted : (old new : Subvolume) (ino : ℕ) (inode : InodeRecord) (bytes : List ℕ) (value : InodeValue) (links running : ℕ) → IsInodeOf old ino inode bytes → IsInode bytes value → (value.mode ≡ dir_mode → ⊥)
    → links ≡ links_of new.names ino → IsInode (inode_bytes (with_links value links running)) (with_links value links running) → IsInodeOf new ino inode (inode_bytes (with_links value links running))
other_counted old new ino (FileInode file) bytes value links running is spelled other links_is again =
    let same : is.value ≡ value = value_is_one old ino (FileInode file) bytes value is spelled in
    record {
      value = with_links value links running;
      spelled = again;
      mode = ap (λ (v : InodeValue). v.mode) (sym same) ∙ is.mode;
      size = ap (λ (v : InodeValue). v.size) (sym same) ∙ is.size;
      nbytes = ap (λ (v : InodeValue). v.nbytes) (sym same) ∙ is.nbytes;
      nlink = links_is;
    }
other_counted old new ino (DirInode dir) bytes value links running is spelled other links_is again =
    absurd (other (dir_is_one old ino (DirInode dir) bytes value is spelled))
other_counted old new ino (LinkInode link) bytes value links running is spelled other links_is again =
    let same : is.value ≡ value = value_is_one old ino (LinkInode link) bytes value is spelled in
    record {
      value = with_links value links running;
      spelled = again;
      mode = ap (λ (v : InodeValue). v.mode) (sym same) ∙ is.mode;
      size = ap (λ (v : InodeValue). v.size) (sym same) ∙ is.size;
      nbytes = ap (λ (v : InodeValue). v.nbytes) (sym same) ∙ is.nbytes;
      nlink = links_is;
    }

-- another directory's item stays right
pub dir_stays : (old new : Subvolume) (ino : ℕ) (dir : DirRecord) (bytes : List ℕ) → IsInodeOf old ino (DirInode dir) bytes → entries_of new.names ino ≡ entries_of old.names ino → IsInodeOf new ino (DirInode dir) bytes
dir_stays old new ino dir bytes is same = record {
  value = is.value;
  spelled = is.spelled;
  mode = is.mode;
  size = is.size ∙ ap (λ (l : List FlatName). 2 * sum_by (λ (n : FlatName). length n.bytes) l) (sym same);
  nbytes = is.nbytes;
  nlink = is.nlink;
}
