-- Each item of an inode that isn't faulty is right, and none of its names is bad.
use Rattle.std.proofs.Common.{◌≡◌, ◌≢◌, ◌≤◌, ◌*◌, ◌==◌, ◌&&◌, ℕ, Bool, true, false, cond, not, List, [], ◌∷◌, length, filter, nat_lt, Contains, Option, Some, None, Result, Ok, Err, refl, sym, ap, subst, ◌∙◌, arith, inl, inr}
use Rattle.std.proofs.lemmas.Bool.{and_from, cases_eq, eq-eqb, false_from_ne_true, eqb-true}
use Rattle.std.specs.FinMap.{get, len}
use Rattle.std.specs.List.{list_all}
use Rattle.std.specs.Option.{option_map}
use Rattle.std.specs.Prelude.{IsTrue}
use Rattle.blk_base.specs.declared.fault.ItemFault.{ItemFault}
use Rattle.blk_base.specs.declared.key.Key.{Key}
use Rattle.blk_base.specs.Entries.{EntryValue, RefValue, entries_of, refs_of}
use Rattle.blk_base.specs.Extents.{ExtentValue, Hole, Inline, Regular, extent_of}
use Rattle.blk_base.specs.Items.{InodeValue, inode_of}
use Rattle.blk_base.specs.ItemFaults.{HasItsKey}
use Rattle.blk_base.specs.Keys.{dir_index, dir_item, extent_data, inode_item, inode_ref, xattr_item}
use Rattle.blk_base.specs.Leaf.{Item}
use Rattle.block_table.specs.Table.{Table}
use Rattle.table_volume.specs.Gives.{data_in}
use Rattle.tree_range.specs.Between.{data_under}
use Rattle.format_laws.specs.Items.{inode_of-Ok}
use Rattle.flat_model.specs.Coherent.{IsLinkCount, KeepsBlockLimits, most_links}
use Rattle.flat_model.specs.Contents.{most_file_bytes}
use Rattle.flat_model.specs.Names.{FlatName, leads_to, links_of}
use Rattle.flat_model.specs.Records.{DirInode, FileInode, FileRecord, InodeRecord, LinkInode, attributes_of, kind_of}
use Rattle.flat_model.specs.Volume.{Subvolume, is_dir_at, is_dir_there}
use Rattle.flat_model.specs.declared.view.Kind.{Kind}
use Rattle.flat_model.specs.declared.view.Kind.TheVariants as Kinds
use Rattle.volume_image.specs.Subvolume.{Data, make_key}
use Rattle.volume_image.proofs.Members.{in_filter}
use Rattle.volume_image.proofs.Reaches.{head_in, tail_in}
use Rattle.image_faults.specs.Faulty.{AreReadable, HasData, HasNoFault, IsThere, StandOnce, is_extent_for}
use Rattle.image_faults.specs.Said.{is_own_ref, read_list, said_record, said_sub}
use Rattle.image_faults.proofs.Asking.{own_ref, own_ref_parts}
use Rattle.image_faults.proofs.Entries.{entries_read}
use Rattle.image_faults.proofs.ExtentSums.{blocks_have_bytes}
use Rattle.image_faults.proofs.FromItems.{for_link, record_blocks, record_target}
use Rattle.image_faults.proofs.Readings.{entry_in, inode_said}
use Rattle.inode_lines.specs.Kinds.{said_kind}
use Rattle.inode_lines.proofs.Kinded.{under_in}
use Rattle.coherent_items.specs.Entries.{is_index_number, is_right_hashed, is_right_indexed, is_right_value}
use Rattle.coherent_limits.specs.Limits.{KeepsExtentLimits, size_read, size_under}
use Rattle.coherent_names.specs.Names.{all_names, own_refs}
use Rattle.coherent_numbers.specs.Numbers.{are_dir_links, are_links}
use Rattle.coherent_slots.specs.Slots.{HasBadName}
use Rattle.coherent_sums.specs.Sums.{links_in}
use Rattle.coherent.specs.Passes.{HasExtentSize, HasNumbersOf, HasReadNumbers, IsSurvey, PassesItem, PassesRoot}
use Rattle.coherent.specs.declared.survey.Survey.{Survey}
use Rattle.coherent.proofs.Amounts.{names_are, runs_are, target_is}
use Rattle.coherent.proofs.Directories.{all_pass, hashed_passes, indexed_passes, number_from}
use Rattle.coherent.proofs.Lists.{between_from, clash}
use Rattle.coherent.proofs.Names.{count_is, leads_by, no_bad_name, said_all, spelled}
use Rattle.coherent.proofs.Records.{extent_passes, record_attributes, values_pass}
use Rattle.coherent.proofs.Right.{record_size}

-- ---- how many names

links_from : (ino links : ℕ) → (ino ≡ 256 → links ≡ 0) → (ino ≢ 256 → (1 ≤ links) × (links ≤ most_links)) → are_links ino links ≡ true
links_from ino links none some = elim (cases_eq ino 256) [
  | inl same ↦ ap (λ (b : Bool). cond b (links == 0) (not (nat_lt links 1) && not (nat_lt 65535 links))) (eq-eqb ino 256 same) ∙ eq-eqb links 0 (none same)
  | inr other ↦
      ap (λ (b : Bool). cond b (links == 0) (not (nat_lt links 1) && not (nat_lt 65535 links))) (false_from_ne_true (ino == 256) (λ e. other (eqb-true ino 256 e)))
      ∙ between_from links 1 65535 (some other).0 (some other).1
]

dir_links_from : (ino links : ℕ) → (ino ≡ 256 → links ≡ 0) → (ino ≢ 256 → links ≡ 1) → are_dir_links ino links ≡ true
dir_links_from ino links none one = elim (cases_eq ino 256) [
  | inl same ↦ ap (λ (b : Bool). cond b (links == 0) (links == 1)) (eq-eqb ino 256 same) ∙ eq-eqb links 0 (none same)
  | inr other ↦ ap (λ (b : Bool). cond b (links == 0) (links == 1)) (false_from_ne_true (ino == 256) (λ e. other (eqb-true ino 256 e))) ∙ eq-eqb links 1 (one other)
]

-- a list whose elements are all the same, and stand once, has at most one
alike_once : {X : Type 0} (xs : List X) → ((x y : X) → Contains xs x → Contains xs y → x ≡ y) → StandOnce xs → length xs ≤ 1
alike_once [] alike once = omega arith
alike_once (x ∷ []) alike once = omega arith
alike_once (x ∷ y ∷ xs) alike once =
    let there = head_in y xs in
    absurd (once.0 (subst (Contains (y ∷ xs)) (alike y x (tail_in x y (y ∷ xs) there) (head_in x (y ∷ xs))) there))

some_in : {X : Type 0} (xs : List X) → length xs ≡ 1 → (x : X) × Contains xs x
some_in [] e = absurd (omega arith)
some_in (x ∷ xs) e = (x, head_in x xs)

module _ (items : List Item) (table : Table) (survey : Survey) (ok : AreReadable items) (held : HasData items (data_in table)) (is : IsSurvey items (said_sub items (data_in table)) survey) (ino : ℕ)
    (whole : HasNoFault items (data_in table) ino) where
  abbrev d : Data
  d = data_in table

  abbrev s : Subvolume
  s = said_sub items d

  has_keys : (key : Key) (bytes : List ℕ) → Contains items (key, bytes) → key.objectid ≡ ino → HasItsKey key bytes
  has_keys key bytes there mine = (whole.keys key bytes there mine).content

  links_are : links_in survey.links ino ≡ links_of s.names ino
  links_are = is.links ino ∙ count_is items d ok ino has_keys whole.own.refs_once

  pub good_names : HasBadName items s (all_names items) ino → ⊥
  good_names bad = no_bad_name items d ok ino has_keys whole.own.refs_once whole.refs whole.own.names_once bad

  -- the root directory has no name
  root_links : ino ≡ 256 → links_in survey.links ino ≡ 0
  root_links same = links_are ∙ none (filter (leads_to ino) s.names) (λ name c.
      let kept = in_filter (leads_to ino) s.names name c in
      whole.own.root_has_no_name same name kept.0 (eqb-true name.ino ino kept.1 ∙ same))
    where
      none : (names : List FlatName) → ((name : FlatName) → Contains names name → ⊥) → length names ≡ 0
      none [] empty = refl
      none (name ∷ names) empty = absurd (empty name (head_in name names))

  -- ---- the inode item

  record Known : Type 0 where
    pub bytes : List ℕ
    pub value : InodeValue
    pub there : Contains items (make_key ino inode_item 0, bytes)
    pub read : inode_of bytes ≡ Ok value
    pub said : get s.inodes ino ≡ Some (said_record items d ino value)

  known_by : (bytes : List ℕ) → Contains items (make_key ino inode_item 0, bytes) → Known
  known_by bytes there =
      let inode = (spelled items ok (make_key ino inode_item 0) bytes there).inode refl in
      let read = inode_of-Ok bytes inode.0 inode.1 in
      record { bytes = bytes; value = inode.0; there = there; read = read; said = inode_said items d ino bytes inode.0 ok.rise there read }

  known : IsThere items ino → Known
  known has = let item = whole.inode has in known_by item.0 item.1

  size_is : (k : Known) → size_under (data_under (make_key ino inode_item 0) items) ≡ Some k.value.size
  size_is k = ap size_under (under_in items (make_key ino inode_item 0) k.bytes ok.rise k.there) ∙ ap size_read k.read

  numbers_are : (k : Known) (r : InodeRecord) → said_record items d ino k.value ≡ r → HasNumbersOf items survey (Some (kind_of r)) ino k.value
  numbers_are k (FileInode file) e =
      let there : get s.inodes ino ≡ Some (FileInode file) = k.said ∙ ap Some e in
      let n = whole.numbers k.bytes k.value (FileInode file) k.there k.read there in
      let limits = (whole.own.limits (FileInode file) there).kind in
      record {
        nlink = n.nlink ∙ sym links_are;
        links_are = links_from ino (links_in survey.links ino) root_links (λ other. subst (λ (c : ℕ). (1 ≤ c) × (c ≤ most_links)) (sym links_are) (whole.own.link_count (FileInode file) there other));
        nbytes = runs_are items ino ∙ sym (blocks_have_bytes items d ino ok held) ∙ ap (λ m. 4096 * len m) (sym (record_blocks items d ino k.value file e)) ∙ sym n.nbytes;
        size = subst (λ (c : ℕ). c ≤ most_file_bytes) (sym n.size) limits.size;
      }
  numbers_are k (DirInode dir) e =
      let there : get s.inodes ino ≡ Some (DirInode dir) = k.said ∙ ap Some e in
      let n = whole.numbers k.bytes k.value (DirInode dir) k.there k.read there in
      let up = whole.own.way_up (ap is_dir_there there) in
      record {
        nlink = n.nlink;
        links_are = dir_links_from ino (links_in survey.links ino) root_links (λ other. links_are ∙ whole.own.link_count (DirInode dir) there other);
        nbytes = n.nbytes;
        size = n.size ∙ ap (λ c. 2 * c) (names_are items ino);
        way_up = (is.reached ino).1 (up.0, leads_by s.names (all_names items) (said_all items) ino up.0 up.1);
      }
  numbers_are k (LinkInode link) e =
      let there : get s.inodes ino ≡ Some (LinkInode link) = k.said ∙ ap Some e in
      let n = whole.numbers k.bytes k.value (LinkInode link) k.there k.read there in
      let limits = (whole.own.limits (LinkInode link) there).kind in
      record {
        nlink = n.nlink ∙ sym links_are;
        links_are = links_from ino (links_in survey.links ino) root_links (λ other. subst (λ (c : ℕ). (1 ≤ c) × (c ≤ most_links)) (sym links_are) (whole.own.link_count (LinkInode link) there other));
        nbytes = n.nbytes ∙ sym n.size;
        size = sym (target_is items ino) ∙ ap length (sym (record_target items d ino k.value link e)) ∙ sym n.size;
        some = subst (λ (c : ℕ). 1 ≤ c) (sym n.size) limits.at_least_one;
        most = subst (λ (c : ℕ). c ≤ 1023) (sym n.size) limits.at_most_1023;
      }

  numbers_pass : (bytes : List ℕ) → Contains items (make_key ino inode_item 0, bytes) → HasReadNumbers items survey (said_kind items d ino) ino (inode_of bytes)
  unfolding known_by
  numbers_pass bytes there =
      let k = known_by bytes there in
      subst (λ (r : Result InodeValue ItemFault). HasReadNumbers items survey (said_kind items d ino) ino r) (sym k.read)
      (subst (λ (o : Option Kind). HasNumbersOf items survey o ino k.value) (sym (ap (option_map kind_of) k.said)) (numbers_are k (said_record items d ino k.value) refl))

  -- ---- names, entries and attributes

  own_alone : (dir : ℕ) (bytes : List ℕ) → Contains items (make_key ino inode_ref dir, bytes) → length (own_refs (make_key ino inode_ref dir) (read_list (refs_of (make_key ino inode_ref dir) bytes))) ≤ 1
  own_alone dir bytes there =
      let key = make_key ino inode_ref dir in
      let refs = read_list (refs_of key bytes) in
      let own : (r : RefValue) → Contains (filter (is_own_ref key) refs) r → r ≡ own_ref = λ r c. (own_ref_parts ino dir r (in_filter (is_own_ref key) refs r c).1).2 in
      alike_once (filter (is_own_ref key) refs) (λ x y c e. own x c ∙ sym (own y e)) (Rattle.image_faults.specs.Lists.once_filter (is_own_ref key) refs ((whole.own.refs_once key bytes there refl).near refl))

  hashed_pass : (hash : ℕ) (bytes : List ℕ) → Contains items (make_key ino dir_item hash, bytes) → list_all (is_right_hashed (said_kind items d) survey.slots ino) (read_list (entries_of dir_item bytes)) ≡ true
  hashed_pass hash bytes there =
      let is_dir : IsTrue (is_dir_at s ino) = (whole.keys (make_key ino dir_item hash) bytes there refl).kind in
      all_pass (is_right_hashed (said_kind items d) survey.slots ino) (read_list (entries_of dir_item bytes)) (λ e c. hashed_passes items d survey.slots ok is.slots ino whole hash e is_dir (entry_in items dir_item ino hash bytes e there c))

  indexed_pass : (index : ℕ) (bytes : List ℕ) → Contains items (make_key ino dir_index index, bytes) → (is_index_number index && list_all (is_right_indexed (said_kind items d) survey.slots ino index) (read_list (entries_of dir_index bytes))) ≡ true
  indexed_pass index bytes there =
      let is_dir : IsTrue (is_dir_at s ino) = (whole.keys (make_key ino dir_index index) bytes there refl).kind in
      let found = entries_read items ok.rise (spelled items ok) dir_index ino index bytes (inr (inl refl)) there in
      let some = some_in found.0 (found.1.single refl) in
      let entry = entry_in items dir_index ino index bytes some.0 there (subst (λ (es : List EntryValue). Contains es some.0) (sym found.2) some.1) in
      and_from (is_index_number index) (list_all (is_right_indexed (said_kind items d) survey.slots ino index) (read_list (entries_of dir_index bytes))) (number_from index (whole.own.indexes (index, some.0) entry))
      (all_pass (is_right_indexed (said_kind items d) survey.slots ino index) (read_list (entries_of dir_index bytes)) (λ e c. indexed_passes items d survey.slots ok is.slots ino whole index e is_dir (entry_in items dir_index ino index bytes e there c)))

  attributes_pass : (hash : ℕ) (bytes : List ℕ) → Contains items (make_key ino xattr_item hash, bytes) → list_all is_right_value (read_list (entries_of xattr_item bytes)) ≡ true
  attributes_pass hash bytes there =
      let k = known ((make_key ino xattr_item hash, bytes), there, refl) in
      values_pass items ok ino has_keys (subst Rattle.flat_model.specs.Coherent.KeepAttributeLimits (record_attributes items d ino k.value) (whole.own.limits (said_record items d ino k.value) k.said).attributes) hash bytes there

  -- ---- extents

  extent_for : (offset : ℕ) (bytes : List ℕ) → Contains items (make_key ino extent_data offset, bytes) → (r : InodeRecord) → get s.inodes ino ≡ Some r → is_extent_for (Some r) (extent_of (make_key ino extent_data offset) bytes) ≡ true
  extent_for offset bytes there r said =
      ap (λ (o : Option InodeRecord). is_extent_for o (extent_of (make_key ino extent_data offset) bytes)) (sym said) ∙ (whole.keys (make_key ino extent_data offset) bytes there refl).kind

  no_dir_extent : (dir : Rattle.flat_model.specs.Records.DirRecord) (r : Result ExtentValue ItemFault) → is_extent_for (Some (DirInode dir)) r ≡ true → ⊥
  no_dir_extent dir (Ok (Regular at offset len)) e = clash (sym e)
  no_dir_extent dir (Ok (Inline content)) e = clash (sym e)
  no_dir_extent dir (Ok (Hole len)) e = clash (sym e)
  no_dir_extent dir (Err fault) e = clash (sym e)

  pub extent_size : (offset : ℕ) (bytes : List ℕ) → Contains items (make_key ino extent_data offset, bytes) → (size : ℕ) × (size_under (data_under (make_key ino inode_item 0) items) ≡ Some size) × (size ≤ most_file_bytes)
  extent_size offset bytes there =
      let k = known ((make_key ino extent_data offset, bytes), there, refl) in
      (k.value.size, size_is k, go k (said_record items d ino k.value) refl)
    where
      go : (k : Known) (r : InodeRecord) → said_record items d ino k.value ≡ r → k.value.size ≤ most_file_bytes
      go k (FileInode file) e = (numbers_are k (FileInode file) e).size
      go k (DirInode dir) e = absurd (no_dir_extent dir (extent_of (make_key ino extent_data offset) bytes) (extent_for offset bytes there (DirInode dir) (k.said ∙ ap Some e)))
      go k (LinkInode link) e = let most = (numbers_are k (LinkInode link) e).most in omega arith

  extent_pass : (offset : ℕ) (bytes : List ℕ) → Contains items (make_key ino extent_data offset, bytes) → (size : ℕ) → size_under (data_under (make_key ino inode_item 0) items) ≡ Some size
      → KeepsExtentLimits table (make_key ino extent_data offset) (extent_of (make_key ino extent_data offset) bytes) size
  extent_pass offset bytes there size has =
      let k = known ((make_key ino extent_data offset, bytes), there, refl) in
      let same : k.value.size ≡ size = some_size k.value.size size (sym (size_is k) ∙ has) in
      subst (KeepsExtentLimits table (make_key ino extent_data offset) (extent_of (make_key ino extent_data offset) bytes)) same (go k (said_record items d ino k.value) refl)
    where
      some_size : (a b : ℕ) → Some a ≡ Some b → a ≡ b
      some_size a b e = cc

      go : (k : Known) (r : InodeRecord) → said_record items d ino k.value ≡ r → KeepsExtentLimits table (make_key ino extent_data offset) (extent_of (make_key ino extent_data offset) bytes) k.value.size
      go k (FileInode file) e =
          let there' : get s.inodes ino ≡ Some (FileInode file) = k.said ∙ ap Some e in
          let limits = (whole.own.limits (FileInode file) there').kind in
          let size_same = record_size items d ino k.value file e in
          extent_passes items ok ino table k.value.size (λ number block h. subst (λ (n : ℕ). KeepsBlockLimits n number block) (sym size_same) (limits.blocks number block (ap (λ m. get m number) (record_blocks items d ino k.value file e) ∙ h))) offset bytes there
      go k (DirInode dir) e = absurd (no_dir_extent dir (extent_of (make_key ino extent_data offset) bytes) (extent_for offset bytes there (DirInode dir) (k.said ∙ ap Some e)))
      go k (LinkInode link) e =
          let inline = for_link link (extent_of (make_key ino extent_data offset) bytes) (extent_for offset bytes there (LinkInode link) (k.said ∙ ap Some e)) in
          subst (λ (r : Result ExtentValue ItemFault). KeepsExtentLimits table (make_key ino extent_data offset) r k.value.size) (sym inline.1) tt

-- ---- one item

-- an item of an inode that isn't faulty is right
pub passes : (items : List Item) (table : Table) (survey : Survey) → AreReadable items → HasData items (data_in table) → IsSurvey items (said_sub items (data_in table)) survey
    → (ino kind offset : ℕ) (bytes : List ℕ) → HasNoFault items (data_in table) ino → Contains items (make_key ino kind offset, bytes) → PassesItem items table (data_in table) survey (make_key ino kind offset) bytes
passes items table survey ok held is ino kind offset bytes whole there = record {
  number = whole.number ((make_key ino kind offset, bytes), there, refl);
  inode = whole.inode ((make_key ino kind offset, bytes), there, refl);
  key_is = whole.keys (make_key ino kind offset) bytes there refl;
  content = record {
    numbers = λ k.
        let zero = (whole.keys (make_key ino kind offset) bytes there refl).content.inode k in
        numbers_pass items table survey ok held is ino whole bytes (subst (λ (n : ℕ). Contains items (make_key ino inode_item n, bytes)) zero (here inode_item k));
    own_ref = λ k. subst (λ (n : ℕ). length (own_refs (make_key ino n offset) (read_list (refs_of (make_key ino n offset) bytes))) ≤ 1) (sym k) (own_alone items table survey ok held is ino whole offset bytes (here inode_ref k));
    hashed = λ k. hashed_pass items table survey ok held is ino whole offset bytes (here dir_item k);
    indexed = λ k. indexed_pass items table survey ok held is ino whole offset bytes (here dir_index k);
    values = λ k. attributes_pass items table survey ok held is ino whole offset bytes (here xattr_item k);
    extent = λ k size has fits.
        subst (λ (n : ℕ). KeepsExtentLimits table (make_key ino n offset) (extent_of (make_key ino n offset) bytes) size) (sym k) (extent_pass items table survey ok held is ino whole offset bytes (here extent_data k) size has);
  };
}
  where
    here : (type : ℕ) → kind ≡ type → Contains items (make_key ino type offset, bytes)
    here type k = subst (λ (n : ℕ). Contains items (make_key ino n offset, bytes)) k there

-- the inode of its extent has a size
pub has_size : (items : List Item) (table : Table) (survey : Survey) → AreReadable items → HasData items (data_in table) → IsSurvey items (said_sub items (data_in table)) survey
    → (ino kind offset : ℕ) (bytes : List ℕ) → HasNoFault items (data_in table) ino → Contains items (make_key ino kind offset, bytes) → HasExtentSize items (make_key ino kind offset)
has_size items table survey ok held is ino kind offset bytes whole there k =
    extent_size items table survey ok held is ino whole offset bytes (subst (λ (n : ℕ). Contains items (make_key ino n offset, bytes)) k there)

-- the root directory is right where it isn't faulty
pub root_passes : (items : List Item) (blocks : Data) → HasNoFault items blocks 256 → PassesRoot items (said_kind items blocks)
root_passes items blocks whole = record { kind = go (get (said_sub items blocks).inodes 256) refl (whole.own.root_is_dir refl); own_ref = whole.own_ref refl }
  where
    go : (o : Option InodeRecord) → get (said_sub items blocks).inodes 256 ≡ o → IsTrue (is_dir_there (get (said_sub items blocks).inodes 256)) → option_map kind_of (get (said_sub items blocks).inodes 256) ≡ Some Kinds.Dir
    go None e h = absurd (let no : false ≡ true = sym (ap is_dir_there e) ∙ h in cc)
    go (Some (FileInode file)) e h = absurd (let no : false ≡ true = sym (ap is_dir_there e) ∙ h in cc)
    go (Some (DirInode dir)) e h = ap (option_map kind_of) e
    go (Some (LinkInode link)) e h = absurd (let no : false ≡ true = sym (ap is_dir_there e) ∙ h in cc)
