-- The edits of a name's items and of its inodes' make the subvolume whose names they tell.
use Rattle.std.proofs.Common.{◌≡◌, ◌≢◌, ◌∙◌, ◌*◌, ◌&&◌, ◌||◌, ◌==◌, ℕ, Bool, true, false, not, List, [], ◌∷◌, length, nat_eq, sum_by, Option, Some, None, refl, sym, ap, subst, inl, inr, arith}
use Rattle.std.specs.Prelude.{Contains}
use Rattle.std.specs.FinMap.{get}
use Rattle.std.proofs.lemmas.Bool.{and_parts, cases_eq, eqb-true, true≢false}
use Rattle.blk_base.specs.declared.key.Key.{Key}
use Rattle.blk_base.specs.Crc.{extref_hash_of, name_hash_of}
use Rattle.blk_base.specs.Entries.{EntryValue, IsEntries}
use Rattle.blk_base.specs.Items.{InodeValue, IsInode, dir_mode, inode_bytes}
use Rattle.blk_base.specs.Keys.{dir_index, dir_item, inode_extref, inode_item, inode_ref}
use Rattle.blk_base.specs.Leaf.{Item}
use Rattle.block_table.specs.declared.tree.SubState.{SubState}
use Rattle.block_table.specs.declared.tree.Tree.{Tree}
use Rattle.block_table.specs.Table.{Table}
use Rattle.tree_range.specs.Between.{data_under}
use Rattle.tree_range.specs.Shape.{IsTree, tree_items, tree_reach}
use Rattle.tree_range.proofs.Found.{contains_under}
use Rattle.tree_frame.specs.Frame.{AreCurrent}
use Rattle.flat_model.specs.Names.{FlatName, entries_of, links_of}
use Rattle.flat_model.specs.Records.{DirInode, DirRecord, FileInode, InodeRecord, LinkInode}
use Rattle.flat_model.specs.Volume.{Subvolume}
use Rattle.flat_model.proofs.Maps.{some_same}
use Rattle.volume_image.specs.Subvolume.{AreItemsOf, IsInodeOf, make_key, mode_of, nlink_of}
use Rattle.volume_image.proofs.Lists.{in_cons, in_nothing}
use Rattle.table_volume.specs.Edited.{HadEntry, Makes}
use Rattle.table_volume.specs.Gives.{GivesSubvolume, data_in, sub_reach, tree_data}
use Rattle.table_volume.specs.Keyed.{ChangesOnly, HoldsKey, is_touched}
use Rattle.table_volume.specs.TreeEdit.{IsTreeEdit}
use Rattle.table_volume.proofs.Changing.{change_holds}
use Rattle.table_volume.proofs.Keyed.{keys_hold}
use Rattle.table_volume.proofs.SubEdits.{tree_as_sub, tree_gives, tree_joined, tree_more, tree_nothing}
use Rattle.item_edit.specs.ItemEdit.{BearsUnder, HasInode}
use Rattle.item_edit.proofs.Files.{now_here, now_other, same_files}
use Rattle.name_items.specs.Names.{hashed_key, indexed_key, ref_key}
use Rattle.name_items.specs.Edits.{IsDir, IsOther, LinksInode, NameEdits, with_links, with_size}
use Rattle.name_items.proofs.Inodes.{InodeThere, dir_is_one, dir_sized, dir_stays, elsewhere_holds, inode_before, inode_holds, other_counted}
use Rattle.name_items.proofs.Steps.{inode_bears, key_is, not_ref, or_cases, other_kind, ref_is_far, ref_is_near, ref_kinds, touches_dir, touches_hashed, touches_indexed, touches_inode, touches_ref}

-- ---- the last step: the inode's number of names, unless it is a directory

pub record IsLast (old new : Table) (before after : Tree) (ino running : ℕ) : Type 0 where
  pub edit : IsTreeEdit old new before after running 17
  pub files : tree_data new after ≡ tree_data old before
  pub other : (key : Key) → key ≢ make_key ino inode_item 0 → data_under key (tree_items new after) ≡ data_under key (tree_items old before)

same_table : (old new : Table) (before after : Tree) (ino running : ℕ) → new ≡ old → after ≡ before → IsLast old old before before ino running → IsLast old new before after ino running
same_table old new before after ino running t r h =
    subst (λ (x : Table). IsLast old x before after ino running) (sym t) (subst (λ (y : Tree). IsLast old old before y ino running) (sym r) h)

pub last_step : (old new : Table) (before after : Tree) (ino running : ℕ) (value next : InodeValue) → IsTree old before → AreCurrent old (tree_reach old before) → LinksInode old new before after ino value next
    → ((value.mode ≡ dir_mode → ⊥) → IsInode (inode_bytes next) next) → next.transid ≡ running → IsLast old new before after ino running
last_step old new before after ino running value next tree current (IsDir mode t r) again is =
    same_table old new before after ino running t r (record {
      edit = tree_more old old before before running 0 17 (tree_nothing old before running tree current) (omega arith);
      files = refl;
      other = λ key ne. refl;
    })
last_step old new before after ino running value next tree current (IsOther other edit) again is = record {
  edit = edit.edit running (λ bytes e. subst (λ (b : List ℕ). BearsUnder running (tree_items old before) (make_key ino inode_item 0) b) (some_same (inode_bytes next) bytes e) (inode_bears running (tree_items old before) ino (inode_bytes next) next (again other) is));
  files = same_files old new before after (make_key ino inode_item 0) (Some (inode_bytes next)) tree edit (λ k. omega (arith, k));
  other = λ key ne. now_other old new before after (make_key ino inode_item 0) key (Some (inode_bytes next)) edit ne;
}

-- the premise of an item's edit, where its bytes bear the generation
pub bears_some : (running : ℕ) (items : List Item) (key : Key) (bytes : List ℕ) → BearsUnder running items key bytes → (b : List ℕ) → Some bytes ≡ Some b → BearsUnder running items key b
bears_some running items key bytes bears b e =
    subst (λ (l : List ℕ). BearsUnder running items key l) (some_same bytes b e) bears

-- entries that an item had, as it stands among the items
pub had_entries : (items : List Item) (key : Key) (there : Option (List ℕ)) (kind : ℕ) (found : List EntryValue) → data_under key items ≡ there → key.kind ≡ kind → ((bytes : List ℕ) → there ≡ Some bytes → IsEntries kind bytes found) → (there ≡ None → found ≡ [])
    → (entry : EntryValue) → Contains found entry → HadEntry items key entry
had_entries items key None kind found under is spelled none entry c =
    absurd (in_nothing entry (subst (λ (l : List EntryValue). Contains l entry) (none refl) c))
had_entries items key (Some bytes) kind found under is spelled none entry c = record {
  bytes = bytes;
  found = found;
  there = contains_under items key bytes under;
  spelled = subst (λ (n : ℕ). IsEntries n bytes found) (sym is) (spelled bytes refl);
  has = c;
}

pub only_one : (x y : EntryValue) → Contains (x ∷ []) y → y.transid ≡ x.transid
only_one x y c = elim (in_cons x y [] c) [ inl same ↦ ap (λ (e : EntryValue). e.transid) (sym same) | inr none ↦ absurd (in_nothing y none) ]

-- a record of a directory's mode is one
record DirAt (inode : InodeRecord) : Type 0 where
  dir : DirRecord
  is : inode ≡ DirInode dir

dir_at : (inode : InodeRecord) → mode_of inode ≡ dir_mode → DirAt inode
dir_at (FileInode file) e = absurd (omega (arith, e))
dir_at (DirInode dir) e = record { dir = dir; is = refl }
dir_at (LinkInode link) e = absurd (omega (arith, e))

pub nlink_links : (s : Subvolume) (ino : ℕ) (inode : InodeRecord) → (mode_of inode ≡ dir_mode → ⊥) → nlink_of s ino inode ≡ links_of s.names ino
nlink_links s ino (FileInode file) other = refl
nlink_links s ino (DirInode dir) other = absurd (other refl)
nlink_links s ino (LinkInode link) other = refl

not_true : (b : Bool) → not b ≡ true → b ≡ false
not_true true e = absurd (true≢false (sym e))
not_true false e = refl

-- a key that tells of a name does so in one of five ways
pub name_cases : (name : FlatName) (key : Key) (P : Type 0)
    → (((key.kind == inode_item) && (nat_eq name.ino key.objectid || nat_eq name.dir key.objectid)) ≡ true → P)
    → (((key.kind == inode_ref) && (name.near && (nat_eq name.ino key.objectid && nat_eq name.dir key.offset))) ≡ true → P)
    → (((key.kind == inode_extref) && (not name.near && (nat_eq name.ino key.objectid && nat_eq (extref_hash_of name.dir name.bytes) key.offset))) ≡ true → P)
    → (((key.kind == dir_item) && (nat_eq name.dir key.objectid && nat_eq (name_hash_of name.bytes) key.offset)) ≡ true → P)
    → (((key.kind == dir_index) && (nat_eq name.dir key.objectid && nat_eq name.index key.offset)) ≡ true → P)
    → is_touched (name ∷ []) [] key ≡ true → P
name_cases name key P a b c d e t =
    let va : Bool = (key.kind == inode_item) && (nat_eq name.ino key.objectid || nat_eq name.dir key.objectid) in
    let vb : Bool = (key.kind == inode_ref) && (name.near && (nat_eq name.ino key.objectid && nat_eq name.dir key.offset)) in
    let vc : Bool = (key.kind == inode_extref) && (not name.near && (nat_eq name.ino key.objectid && nat_eq (extref_hash_of name.dir name.bytes) key.offset)) in
    let vd : Bool = (key.kind == dir_item) && (nat_eq name.dir key.objectid && nat_eq (name_hash_of name.bytes) key.offset) in
    let ve : Bool = (key.kind == dir_index) && (nat_eq name.dir key.objectid && nat_eq name.index key.offset) in
    elim (or_cases ((((va || vb) || vc) || vd) || ve || false) false t) [
      | inl h ↦ elim (or_cases ((((va || vb) || vc) || vd) || ve) false h) [
        | inl i ↦ elim (or_cases (((va || vb) || vc) || vd) ve i) [
          | inl j ↦ elim (or_cases ((va || vb) || vc) vd j) [
            | inl k ↦ elim (or_cases (va || vb) vc k) [
              | inl l ↦ elim (or_cases va vb l) [ inl m ↦ a m | inr m ↦ b m ]
              | inr l ↦ c l
            ]
            | inr k ↦ d k
          ]
          | inr j ↦ e j
        ]
        | inr none ↦ absurd (true≢false (sym none))
      ]
      | inr none ↦ absurd (true≢false (sym none))
    ]

-- All that is known where a name's entries and what its inodes count are edited, so that another subvolume is told.
pub record IsNaming (old new : Table) (before after : Tree) (name : FlatName) (s next : Subvolume) (dir inode : InodeValue) (ref hashed indexed : Option (List ℕ)) (size links running : ℕ) : Type 0 where
  pub gives : GivesSubvolume old before s
  pub current : AreCurrent old (tree_reach old before)
  pub inode_record : InodeRecord
  pub inode_there : get s.inodes name.ino ≡ Some inode_record
  pub dir_record : DirRecord
  pub dir_there : get s.inodes name.dir ≡ Some (DirInode dir_record)
  pub inodes_same : next.inodes ≡ s.inodes
  pub changes : ChangesOnly s next (name ∷ []) []
  pub dir_has : HasInode (tree_items old before) name.dir dir
  pub inode_has : HasInode (tree_items old before) name.ino inode
  pub edits : NameEdits old new before after name ref hashed indexed dir inode size links running
  pub ref_bears : (bytes : List ℕ) → ref ≡ Some bytes → BearsUnder running (tree_items old before) (ref_key name) bytes
  pub hashed_bears : (bytes : List ℕ) → hashed ≡ Some bytes → BearsUnder running (tree_items edits.t1 edits.r1) (hashed_key name) bytes
  pub indexed_bears : (bytes : List ℕ) → indexed ≡ Some bytes → BearsUnder running (tree_items edits.t2 edits.r2) (indexed_key name) bytes
  pub dir_again : IsInode (inode_bytes (with_size dir size running)) (with_size dir size running)
  pub inode_again : (inode.mode ≡ dir_mode → ⊥) → IsInode (inode_bytes (with_links inode links running)) (with_links inode links running)
  pub ref_held : HoldsKey next (data_in old) (ref_key name) ref
  pub hashed_held : HoldsKey next (data_in old) (hashed_key name) hashed
  pub indexed_held : HoldsKey next (data_in old) (indexed_key name) indexed
  pub size_is : size ≡ 2 * sum_by (λ (n : FlatName). length n.bytes) (entries_of next.names name.dir)
  pub links_is : (inode.mode ≡ dir_mode → ⊥) → links ≡ links_of next.names name.ino
  pub others_same : (dir : ℕ) → name.dir ≢ dir → entries_of next.names dir ≡ entries_of s.names dir

module _ (old new : Table) (before after : Tree) (name : FlatName) (s next : Subvolume) (dir inode : InodeValue) (ref hashed indexed : Option (List ℕ)) (size links running : ℕ) (h : IsNaming old new before after name s next dir inode ref hashed indexed size links running) where
  holds : (key : Key) → HoldsKey s (data_in old) key (data_under key (tree_items old before))
  holds key = keys_hold (tree_items old before) (data_in old) s h.gives.tree_in.order h.gives.items key

  -- ---- what the items of both inodes were

  dir_there : InodeThere s name.dir (DirInode h.dir_record) (data_under (make_key name.dir inode_item 0) (tree_items old before))
  dir_there =
      inode_before s (data_in old) name.dir (DirInode h.dir_record) (data_under (make_key name.dir inode_item 0) (tree_items old before)) (holds (make_key name.dir inode_item 0)) h.dir_there

  ino_there : InodeThere s name.ino h.inode_record (data_under (make_key name.ino inode_item 0) (tree_items old before))
  ino_there =
      inode_before s (data_in old) name.ino h.inode_record (data_under (make_key name.ino inode_item 0) (tree_items old before)) (holds (make_key name.ino inode_item 0)) h.inode_there

  dir_spelled : IsInode dir_there.bytes dir
  dir_spelled =
      subst (λ (b : List ℕ). IsInode b dir) (some_same h.dir_has.bytes dir_there.bytes (sym h.dir_has.there ∙ dir_there.is)) h.dir_has.spelled

  ino_spelled : IsInode ino_there.bytes inode
  ino_spelled =
      subst (λ (b : List ℕ). IsInode b inode) (some_same h.inode_has.bytes ino_there.bytes (sym h.inode_has.there ∙ ino_there.is)) h.inode_has.spelled

  mode_is : inode.mode ≡ mode_of h.inode_record
  mode_is = dir_is_one s name.ino h.inode_record ino_there.bytes inode ino_there.right ino_spelled

  -- ---- the steps, as edits of the tree

  e1 : IsTreeEdit old h.edits.t1 before h.edits.r1 running 17
  e1 = h.edits.linked.edit running h.ref_bears

  e2 : IsTreeEdit h.edits.t1 h.edits.t2 h.edits.r1 h.edits.r2 running 17
  e2 = h.edits.hashed.edit running h.hashed_bears

  e3 : IsTreeEdit h.edits.t2 h.edits.t3 h.edits.r2 h.edits.r3 running 17
  e3 = h.edits.indexed.edit running h.indexed_bears

  e4 : IsTreeEdit h.edits.t3 h.edits.t4 h.edits.r3 h.edits.r4 running 17
  e4 =
      let value : InodeValue = with_size dir size running in
      h.edits.sized.edit running (bears_some running (tree_items h.edits.t3 h.edits.r3) (make_key name.dir inode_item 0) (inode_bytes value) (inode_bears running (tree_items h.edits.t3 h.edits.r3) name.dir (inode_bytes value) value h.dir_again refl))

  e5 : IsLast h.edits.t4 new h.edits.r4 after name.ino running
  e5 =
      last_step h.edits.t4 new h.edits.r4 after name.ino running inode (with_links inode links running) h.edits.sized.tree h.edits.sized.current h.edits.counted h.inode_again refl

  pub whole_edit : IsTreeEdit old new before after running 85
  whole_edit =
      let two : IsTreeEdit old h.edits.t2 before h.edits.r2 running 34 = tree_joined old h.edits.t1 h.edits.t2 before h.edits.r1 h.edits.r2 running 17 17 e1 e2 in
      let three : IsTreeEdit old h.edits.t3 before h.edits.r3 running 51 = tree_joined old h.edits.t2 h.edits.t3 before h.edits.r2 h.edits.r3 running 34 17 two e3 in
      let four : IsTreeEdit old h.edits.t4 before h.edits.r4 running 68 = tree_joined old h.edits.t3 h.edits.t4 before h.edits.r3 h.edits.r4 running 51 17 three e4 in
      tree_joined old h.edits.t4 new before h.edits.r4 after running 68 17 four e5.edit

  pub whole_files : tree_data new after ≡ tree_data old before
  whole_files =
      e5.files
      ∙ same_files h.edits.t3 h.edits.t4 h.edits.r3 h.edits.r4 (make_key name.dir inode_item 0) (Some (inode_bytes (with_size dir size running))) h.edits.indexed.tree h.edits.sized (λ k. omega (arith, k))
      ∙ same_files h.edits.t2 h.edits.t3 h.edits.r2 h.edits.r3 (indexed_key name) indexed h.edits.hashed.tree h.edits.indexed (λ k. omega (arith, k))
      ∙ same_files h.edits.t1 h.edits.t2 h.edits.r1 h.edits.r2 (hashed_key name) hashed h.edits.linked.tree h.edits.hashed (λ k. omega (arith, k))
      ∙ same_files old h.edits.t1 before h.edits.r1 (ref_key name) ref h.gives.tree_in h.edits.linked (λ k. elim (ref_kinds name name.near refl) [ inl is ↦ omega (arith, sym is ∙ k) | inr is ↦ omega (arith, sym is ∙ k) ])

  -- ---- what stands under each key then

  abbrev now : Key → Option (List ℕ)
  now key = data_under key (tree_items new after)

  abbrev was : Key → Option (List ℕ)
  was key = data_under key (tree_items old before)

  after_ref : (key : Key) → key ≢ ref_key name → data_under key (tree_items h.edits.t1 h.edits.r1) ≡ was key
  after_ref key ne =
      now_other old h.edits.t1 before h.edits.r1 (ref_key name) key ref h.edits.linked ne

  after_hashed : (key : Key) → key ≢ hashed_key name → data_under key (tree_items h.edits.t2 h.edits.r2) ≡ data_under key (tree_items h.edits.t1 h.edits.r1)
  after_hashed key ne =
      now_other h.edits.t1 h.edits.t2 h.edits.r1 h.edits.r2 (hashed_key name) key hashed h.edits.hashed ne

  after_indexed : (key : Key) → key ≢ indexed_key name → data_under key (tree_items h.edits.t3 h.edits.r3) ≡ data_under key (tree_items h.edits.t2 h.edits.r2)
  after_indexed key ne =
      now_other h.edits.t2 h.edits.t3 h.edits.r2 h.edits.r3 (indexed_key name) key indexed h.edits.indexed ne

  after_sized : (key : Key) → key ≢ make_key name.dir inode_item 0 → data_under key (tree_items h.edits.t4 h.edits.r4) ≡ data_under key (tree_items h.edits.t3 h.edits.r3)
  after_sized key ne =
      now_other h.edits.t3 h.edits.t4 h.edits.r3 h.edits.r4 (make_key name.dir inode_item 0) key (Some (inode_bytes (with_size dir size running))) h.edits.sized ne

  -- a key that is none of the inodes' keeps what it had behind the name's entries
  behind : (key : Key) → key.kind ≢ inode_item → now key ≡ data_under key (tree_items h.edits.t3 h.edits.r3)
  behind key kind =
      e5.other key (other_kind key (make_key name.ino inode_item 0) kind) ∙ after_sized key (other_kind key (make_key name.dir inode_item 0) kind)

  ref_not_inode : (ref_key name).kind ≢ inode_item
  ref_not_inode k = elim (ref_kinds name name.near refl) [ inl is ↦ omega (arith, sym is ∙ k) | inr is ↦ omega (arith, sym is ∙ k) ]

  ref_now : now (ref_key name) ≡ ref
  ref_now =
      let other : (n : ℕ) → (n ≡ inode_ref → ⊥) → (n ≡ inode_extref → ⊥) → (ref_key name).kind ≢ n = λ n near far k. elim (ref_kinds name name.near refl) [ inl is ↦ near (sym k ∙ is) | inr is ↦ far (sym k ∙ is) ] in
      behind (ref_key name) ref_not_inode
      ∙ after_indexed (ref_key name) (other_kind (ref_key name) (indexed_key name) (other dir_index (λ e. omega (arith, e)) (λ e. omega (arith, e))))
      ∙ after_hashed (ref_key name) (other_kind (ref_key name) (hashed_key name) (other dir_item (λ e. omega (arith, e)) (λ e. omega (arith, e))))
      ∙ now_here old h.edits.t1 before h.edits.r1 (ref_key name) ref h.edits.linked

  hashed_is : now (hashed_key name) ≡ hashed
  hashed_is =
      behind (hashed_key name) (λ e. omega (arith, e))
      ∙ after_indexed (hashed_key name) (other_kind (hashed_key name) (indexed_key name) (λ e. omega (arith, e)))
      ∙ now_here h.edits.t1 h.edits.t2 h.edits.r1 h.edits.r2 (hashed_key name) hashed h.edits.hashed

  indexed_is : now (indexed_key name) ≡ indexed
  indexed_is =
      behind (indexed_key name) (λ e. omega (arith, e)) ∙ now_here h.edits.t2 h.edits.t3 h.edits.r2 h.edits.r3 (indexed_key name) indexed h.edits.indexed

  -- every other key keeps what it had
  others_are : (key : Key) → key ≢ ref_key name → key ≢ hashed_key name → key ≢ indexed_key name → key ≢ make_key name.dir inode_item 0 → key ≢ make_key name.ino inode_item 0 → now key ≡ was key
  others_are key a b c d e =
      e5.other key e ∙ after_sized key d ∙ after_indexed key c ∙ after_hashed key b ∙ after_ref key a

  -- ---- the inodes' items

  there_next : (ino : ℕ) (inode : InodeRecord) → get s.inodes ino ≡ Some inode → get next.inodes ino ≡ Some inode
  there_next ino inode there = ap (λ m. get m ino) h.inodes_same ∙ there

  -- where the inode is its own directory, or another one, the last step leaves its item
  dir_left : LinksInode h.edits.t4 new h.edits.r4 after name.ino inode (with_links inode links running) → now (make_key name.dir inode_item 0) ≡ data_under (make_key name.dir inode_item 0) (tree_items h.edits.t4 h.edits.r4)
  dir_left (IsDir mode t r) =
      ap (λ (x : Table). data_under (make_key name.dir inode_item 0) (tree_items x after)) t ∙ ap (λ (y : Tree). data_under (make_key name.dir inode_item 0) (tree_items h.edits.t4 y)) r
  dir_left (IsOther other edit) = elim (cases_eq name.dir name.ino) [
    | inl same ↦
        let one : Some (DirInode h.dir_record) ≡ Some h.inode_record = sym h.dir_there ∙ ap (get s.inodes) same ∙ h.inode_there in
        absurd (other (mode_is ∙ ap mode_of (sym (some_same (DirInode h.dir_record) h.inode_record one))))
    | inr differs ↦ e5.other (make_key name.dir inode_item 0) (λ e. differs (ap (λ (k : Key). k.objectid) e))
  ]

  dir_now : now (make_key name.dir inode_item 0) ≡ Some (inode_bytes (with_size dir size running))
  dir_now =
      dir_left h.edits.counted ∙ now_here h.edits.t3 h.edits.t4 h.edits.r3 h.edits.r4 (make_key name.dir inode_item 0) (Some (inode_bytes (with_size dir size running))) h.edits.sized

  dir_holds : HoldsKey next (data_in old) (make_key name.dir inode_item 0) (now (make_key name.dir inode_item 0))
  dir_holds =
      subst (HoldsKey next (data_in old) (make_key name.dir inode_item 0)) (sym dir_now)
      (inode_holds next (data_in old) (make_key name.dir inode_item 0) (DirInode h.dir_record) (inode_bytes (with_size dir size running)) refl refl (there_next name.dir (DirInode h.dir_record) h.dir_there)
      (dir_sized s next name.dir h.dir_record dir_there.bytes dir size running dir_there.right dir_spelled h.size_is h.dir_again))

  ino_holds : LinksInode h.edits.t4 new h.edits.r4 after name.ino inode (with_links inode links running) → HoldsKey next (data_in old) (make_key name.ino inode_item 0) (now (make_key name.ino inode_item 0))
  ino_holds (IsOther other edit) =
      let key : Key = make_key name.ino inode_item 0 in
      let value : InodeValue = with_links inode links running in
      let is : now key ≡ Some (inode_bytes value) = now_here h.edits.t4 new h.edits.r4 after key (Some (inode_bytes value)) edit in
      subst (HoldsKey next (data_in old) key) (sym is)
      (inode_holds next (data_in old) key h.inode_record (inode_bytes value) refl refl (there_next name.ino h.inode_record h.inode_there)
      (other_counted s next name.ino h.inode_record ino_there.bytes inode links running ino_there.right ino_spelled other (h.links_is other) (h.inode_again other)))
  ino_holds (IsDir mode t r) = elim (cases_eq name.ino name.dir) [
    | inl same ↦ subst (λ (n : ℕ). HoldsKey next (data_in old) (make_key n inode_item 0) (now (make_key n inode_item 0))) (sym same) dir_holds
    | inr differs ↦
        let key : Key = make_key name.ino inode_item 0 in
        let is_dir : DirAt h.inode_record = dir_at h.inode_record (sym mode_is ∙ mode) in
        let kept : now key ≡ data_under key (tree_items h.edits.t4 h.edits.r4) = ap (λ (x : Table). data_under key (tree_items x after)) t ∙ ap (λ (y : Tree). data_under key (tree_items h.edits.t4 y)) r in
        let is : now key ≡ Some ino_there.bytes = kept ∙ after_sized key (λ e. differs (ap (λ (k : Key). k.objectid) e)) ∙ after_indexed key (other_kind key (indexed_key name) (λ e. omega (arith, e))) ∙ after_hashed key (other_kind key (hashed_key name) (λ e. omega (arith, e))) ∙ after_ref key (not_ref name key (λ e. omega (arith, e)) (λ e. omega (arith, e))) ∙ ino_there.is in
        let right : IsInodeOf s name.ino (DirInode is_dir.dir) ino_there.bytes = subst (λ (x : InodeRecord). IsInodeOf s name.ino x ino_there.bytes) is_dir.is ino_there.right in
        subst (HoldsKey next (data_in old) key) (sym is)
        (inode_holds next (data_in old) key (DirInode is_dir.dir) ino_there.bytes refl refl (there_next name.ino (DirInode is_dir.dir) (h.inode_there ∙ ap (λ (x : InodeRecord). Some x) is_dir.is))
        (dir_stays s next name.ino is_dir.dir ino_there.bytes right (h.others_same name.ino (λ e. differs (sym e)))))
  ]

  -- ---- the keys that tell of the name

  moved : (key place : Key) → key ≡ place → HoldsKey next (data_in old) place (now place) → HoldsKey next (data_in old) key (now key)
  moved key place same holds_there =
      subst (λ (k : Key). HoldsKey next (data_in old) k (now k)) (sym same) holds_there

  inode_case : (key : Key) → ((key.kind == inode_item) && (nat_eq name.ino key.objectid || nat_eq name.dir key.objectid)) ≡ true → HoldsKey next (data_in old) key (now key)
  inode_case key t =
      let parts = and_parts (key.kind == inode_item) (nat_eq name.ino key.objectid || nat_eq name.dir key.objectid) t in
      let kind : key.kind ≡ inode_item = eqb-true key.kind inode_item parts.0 in
      elim (cases_eq key.offset 0) [
        | inl zero ↦ elim (or_cases (nat_eq name.ino key.objectid) (nat_eq name.dir key.objectid) parts.1) [
          | inl ino ↦ moved key (make_key name.ino inode_item 0) (key_is key name.ino inode_item 0 (eqb-true name.ino key.objectid ino) kind (sym zero)) (ino_holds h.edits.counted)
          | inr dir ↦ moved key (make_key name.dir inode_item 0) (key_is key name.dir inode_item 0 (eqb-true name.dir key.objectid dir) kind (sym zero)) dir_holds
        ]
        | inr other ↦
            let off : (n : ℕ) → key ≢ make_key n inode_item 0 = λ n e. other (ap (λ (k : Key). k.offset) e) in
            let same : now key ≡ was key = others_are key (not_ref name key (λ e. omega (arith, sym kind ∙ e)) (λ e. omega (arith, sym kind ∙ e))) (other_kind key (hashed_key name) (λ e. omega (arith, sym kind ∙ e))) (other_kind key (indexed_key name) (λ e. omega (arith, sym kind ∙ e))) (off name.dir) (off name.ino) in
            subst (HoldsKey next (data_in old) key) (sym same) (elsewhere_holds s next (data_in old) key (was key) kind other (holds key))
      ]

  ref_case : (key : Key) → key ≡ ref_key name → HoldsKey next (data_in old) key (now key)
  ref_case key same =
      moved key (ref_key name) same (subst (HoldsKey next (data_in old) (ref_key name)) (sym ref_now) h.ref_held)

  near_case : (key : Key) → ((key.kind == inode_ref) && (name.near && (nat_eq name.ino key.objectid && nat_eq name.dir key.offset))) ≡ true → HoldsKey next (data_in old) key (now key)
  near_case key t =
      let parts = and_parts (key.kind == inode_ref) (name.near && (nat_eq name.ino key.objectid && nat_eq name.dir key.offset)) t in
      let more = and_parts name.near (nat_eq name.ino key.objectid && nat_eq name.dir key.offset) parts.1 in
      let last = and_parts (nat_eq name.ino key.objectid) (nat_eq name.dir key.offset) more.1 in
      let same : key ≡ make_key name.ino inode_ref name.dir = key_is key name.ino inode_ref name.dir (eqb-true name.ino key.objectid last.0) (eqb-true key.kind inode_ref parts.0) (eqb-true name.dir key.offset last.1) in
      ref_case key (same ∙ sym (ref_is_near name more.0))

  far_case : (key : Key) → ((key.kind == inode_extref) && (not name.near && (nat_eq name.ino key.objectid && nat_eq (extref_hash_of name.dir name.bytes) key.offset))) ≡ true → HoldsKey next (data_in old) key (now key)
  far_case key t =
      let hash : ℕ = extref_hash_of name.dir name.bytes in
      let parts = and_parts (key.kind == inode_extref) (not name.near && (nat_eq name.ino key.objectid && nat_eq hash key.offset)) t in
      let more = and_parts (not name.near) (nat_eq name.ino key.objectid && nat_eq hash key.offset) parts.1 in
      let last = and_parts (nat_eq name.ino key.objectid) (nat_eq hash key.offset) more.1 in
      let same : key ≡ make_key name.ino inode_extref hash = key_is key name.ino inode_extref hash (eqb-true name.ino key.objectid last.0) (eqb-true key.kind inode_extref parts.0) (eqb-true hash key.offset last.1) in
      ref_case key (same ∙ sym (ref_is_far name (not_true name.near more.0)))

  hashed_case : (key : Key) → ((key.kind == dir_item) && (nat_eq name.dir key.objectid && nat_eq (name_hash_of name.bytes) key.offset)) ≡ true → HoldsKey next (data_in old) key (now key)
  hashed_case key t =
      let parts = and_parts (key.kind == dir_item) (nat_eq name.dir key.objectid && nat_eq (name_hash_of name.bytes) key.offset) t in
      let last = and_parts (nat_eq name.dir key.objectid) (nat_eq (name_hash_of name.bytes) key.offset) parts.1 in
      let same : key ≡ hashed_key name = key_is key name.dir dir_item (name_hash_of name.bytes) (eqb-true name.dir key.objectid last.0) (eqb-true key.kind dir_item parts.0) (eqb-true (name_hash_of name.bytes) key.offset last.1) in
      moved key (hashed_key name) same (subst (HoldsKey next (data_in old) (hashed_key name)) (sym hashed_is) h.hashed_held)

  indexed_case : (key : Key) → ((key.kind == dir_index) && (nat_eq name.dir key.objectid && nat_eq name.index key.offset)) ≡ true → HoldsKey next (data_in old) key (now key)
  indexed_case key t =
      let parts = and_parts (key.kind == dir_index) (nat_eq name.dir key.objectid && nat_eq name.index key.offset) t in
      let last = and_parts (nat_eq name.dir key.objectid) (nat_eq name.index key.offset) parts.1 in
      let same : key ≡ indexed_key name = key_is key name.dir dir_index name.index (eqb-true name.dir key.objectid last.0) (eqb-true key.kind dir_index parts.0) (eqb-true name.index key.offset last.1) in
      moved key (indexed_key name) same (subst (HoldsKey next (data_in old) (indexed_key name)) (sym indexed_is) h.indexed_held)

  touched : (key : Key) → is_touched (name ∷ []) [] key ≡ true → HoldsKey next (data_in old) key (now key)
  touched key t = name_cases name key (HoldsKey next (data_in old) key (now key)) (inode_case key) (near_case key) (far_case key) (hashed_case key) (indexed_case key) t

  untouched : (key : Key) → is_touched (name ∷ []) [] key ≡ false → now key ≡ was key
  untouched key out =
      let apart : (place : Key) → is_touched (name ∷ []) [] place ≡ true → key ≢ place = λ place t same. true≢false (sym t ∙ ap (is_touched (name ∷ []) []) (sym same) ∙ out) in
      others_are key (apart (ref_key name) (touches_ref name name.near refl)) (apart (hashed_key name) (touches_hashed name)) (apart (indexed_key name) (touches_indexed name)) (apart (make_key name.dir inode_item 0) (touches_dir name)) (apart (make_key name.ino inode_item 0) (touches_inode name))

  are_items : AreItemsOf (tree_items new after) (data_in old) next
  are_items =
      change_holds (tree_items old before) (tree_items new after) (data_in old) (data_in old) s next (name ∷ []) [] h.gives.tree_in.order whole_edit.tree.order h.gives.items h.changes untouched (λ key bytes out kind there at c. refl) touched (λ ino c. absurd (in_nothing ino c))

  pub gives_next : GivesSubvolume new after next
  gives_next =
      tree_gives old new before after running 85 s next h.gives whole_edit whole_files are_items

-- such an edit of a state's tree makes the other subvolume
pub made_so : (old new : Table) (before after : SubState) (name : FlatName) (s next : Subvolume) (dir inode : InodeValue) (ref hashed indexed : Option (List ℕ)) (size links : ℕ) → IsNaming old new before.tree after.tree name s next dir inode ref hashed indexed size links before.running
    → AreCurrent old (sub_reach old before.tree) → after.running ≡ before.running → Makes old new before after 85 next
made_so old new before after name s next dir inode ref hashed indexed size links h current running = record {
  gives = gives_next old new before.tree after.tree name s next dir inode ref hashed indexed size links before.running h;
  edit = tree_as_sub old new before after s 85 h.gives current (whole_edit old new before.tree after.tree name s next dir inode ref hashed indexed size links before.running h)
      (whole_files old new before.tree after.tree name s next dir inode ref hashed indexed size links before.running h) running;
}
