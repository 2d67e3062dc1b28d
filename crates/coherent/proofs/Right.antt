-- An inode whose names are good and whose items are right isn't faulty.
use Rattle.std.proofs.Common.{◌≡◌, ◌≢◌, ◌≤◌, ◌*◌, ◌==◌, ◌&&◌, ℕ, Bool, true, false, cond, not, List, length, nat_lt, Contains, Option, Some, None, Result, Ok, refl, sym, ap, subst, ◌∙◌, arith}
use Rattle.std.proofs.lemmas.Bool.{and_parts, eq-eqb, eqb-true, false_from_ne_true}
use Rattle.std.proofs.lemmas.List.Sums.{length-filter}
use Rattle.std.specs.FinMap.{get, len}
use Rattle.std.specs.Option.{option_map}
use Rattle.std.specs.Prelude.{IsTrue}
use Rattle.blk_base.specs.declared.fault.ItemFault.{ItemFault}
use Rattle.blk_base.specs.declared.key.Key.{Key}
use Rattle.blk_base.specs.Entries.{entries_of}
use Rattle.blk_base.specs.Items.{InodeValue, dir_mode, file_mode, inode_of}
use Rattle.blk_base.specs.ItemFaults.{HasItsKey}
use Rattle.blk_base.specs.Keys.{dir_index, dir_item, extent_data, inode_item, xattr_item}
use Rattle.blk_base.specs.Leaf.{Item}
use Rattle.block_table.specs.Table.{Table}
use Rattle.table_volume.specs.Gives.{data_in}
use Rattle.tree_range.specs.Between.{data_under}
use Rattle.flat_model.specs.Coherent.{IsLinkCount, KeepsKindLimits, KeepsLimits, LeadsUp, most_links}
use Rattle.flat_model.specs.Contents.{most_file_bytes}
use Rattle.flat_model.specs.Names.{FlatName, leads_to, links_of}
use Rattle.flat_model.specs.Records.{DirInode, FileInode, FileRecord, InodeRecord, LinkInode, attributes_of, kind_of}
use Rattle.flat_model.specs.Volume.{Subvolume, is_dir_at, is_dir_there}
use Rattle.flat_model.specs.declared.view.Kind.{Kind}
use Rattle.flat_model.specs.declared.view.Kind.TheVariants as Kinds
use Rattle.volume_image.specs.Subvolume.{Data, HasKey, make_key}
use Rattle.volume_image.proofs.Members.{filter_in}
use Rattle.image_faults.specs.Faulty.{AreReadable, HasData, HasNoFault, HasRefsOnce, HasRightNumbers, KeepsRules}
use Rattle.image_faults.specs.Said.{PlacedEntry, entries_at, read_list, said_attributes, said_blocks, said_record, said_sub, said_target}
use Rattle.image_faults.proofs.ExtentSums.{blocks_have_bytes}
use Rattle.image_faults.proofs.FromItems.{record_blocks, record_target}
use Rattle.image_faults.proofs.OfLines.{dir_is_there}
use Rattle.image_faults.proofs.Readings.{entry_from, inode_from, inode_said}
use Rattle.inode_lines.specs.Kinds.{said_kind}
use Rattle.inode_lines.proofs.Kinded.{under_in}
use Rattle.coherent_items.specs.Entries.{is_index_number, is_right_hashed, is_right_indexed}
use Rattle.coherent_limits.specs.Limits.{size_read, size_under}
use Rattle.coherent_names.specs.Names.{all_names}
use Rattle.coherent_numbers.specs.Numbers.{HasDirNumbers, HasFileNumbers, are_dir_links, are_links}
use Rattle.coherent_slots.specs.Slots.{HasGoodNames}
use Rattle.coherent_sums.specs.Sums.{links_in}
use Rattle.coherent.specs.Passes.{HasNumbersOf, HasReadNumbers, IsSurvey, PassesItem, PassesRoot}
use Rattle.coherent.specs.declared.survey.Survey.{Survey}
use Rattle.coherent.proofs.Amounts.{names_are, runs_are, target_is}
use Rattle.coherent.proofs.Directories.{hashed_right, index_of, indexed_right, number_to, passes_at}
use Rattle.coherent.proofs.Lists.{between_to}
use Rattle.coherent.proofs.Names.{all_said, count_is, leads_by, names_once, refs_once, said_all}
use Rattle.coherent.proofs.Records.{attributes_keep, blocks_keep, record_attributes, target_bytes_are}

some_same : {X : Type 0} (x y : X) → Some x ≡ Some y → x ≡ y
some_same x y e = cc

-- the size of a file is that of its inode item
pub record_size : (items : List Item) (blocks : Data) (ino : ℕ) (value : InodeValue) (file : FileRecord) → said_record items blocks ino value ≡ FileInode file → value.size ≡ file.size
record_size items blocks ino value file e = go (value.mode == file_mode) (value.mode == dir_mode) e
  where
    go : (b c : Bool) → cond b (FileInode (record { attributes = said_attributes items ino; size = value.size; blocks = said_blocks items blocks ino }))
        (cond c (DirInode (record { attributes = said_attributes items ino })) (LinkInode (record { attributes = said_attributes items ino; target = said_target items ino }))) ≡ FileInode file → value.size ≡ file.size
    go true c e = let same : record { attributes = said_attributes items ino; size = value.size; blocks = said_blocks items blocks ino } ≡ file = cc in ap (λ (f : FileRecord). f.size) same
    go false true e = absurd cc
    go false false e = absurd cc

-- ---- how many names

not_root : (ino : ℕ) → ino ≢ 256 → (ino == 256) ≡ false
not_root ino other = false_from_ne_true (ino == 256) (λ e. other (eqb-true ino 256 e))

links_to : (ino links : ℕ) → ino ≢ 256 → are_links ino links ≡ true → (1 ≤ links) × (links ≤ most_links)
links_to ino links other h =
    between_to links 1 65535 (sym (ap (λ (b : Bool). cond b (links == 0) (not (nat_lt links 1) && not (nat_lt 65535 links))) (not_root ino other)) ∙ h)

dir_links_to : (ino links : ℕ) → ino ≢ 256 → are_dir_links ino links ≡ true → links ≡ 1
dir_links_to ino links other h = eqb-true links 1 (sym (ap (λ (b : Bool). cond b (links == 0) (links == 1)) (not_root ino other)) ∙ h)

root_links : (ino links : ℕ) → ino ≡ 256 → are_dir_links ino links ≡ true → links ≡ 0
root_links ino links same h = eqb-true links 0 (sym (ap (λ (b : Bool). cond b (links == 0) (links == 1)) (eq-eqb ino 256 same)) ∙ h)

module _ (items : List Item) (table : Table) (survey : Survey) (ok : AreReadable items) (held : HasData items (data_in table)) (is : IsSurvey items (said_sub items (data_in table)) survey) (ino : ℕ)
    (good : HasGoodNames items (said_sub items (data_in table)) (all_names items) ino)
    (passes : (key : Key) (bytes : List ℕ) → Contains items (key, bytes) → key.objectid ≡ ino → PassesItem items table (data_in table) survey key bytes)
    (root : ino ≡ 256 → PassesRoot items (said_kind items (data_in table))) where
  abbrev d : Data
  d = data_in table

  abbrev s : Subvolume
  s = said_sub items d

  has_keys : (key : Key) (bytes : List ℕ) → Contains items (key, bytes) → key.objectid ≡ ino → HasItsKey key bytes
  has_keys key bytes there mine = (passes key bytes there mine).key_is.content

  have_once : (key : Key) (bytes : List ℕ) → Contains items (key, bytes) → key.objectid ≡ ino → HasRefsOnce key bytes
  have_once key bytes there mine = refs_once items d ok ino good key bytes there mine (λ kind. (passes key bytes there mine).content.own_ref kind)

  links_are : links_in survey.links ino ≡ links_of s.names ino
  links_are = is.links ino ∙ count_is items d ok ino has_keys have_once

  -- ---- numbers

  numbers_of : (bytes : List ℕ) (value : InodeValue) → Contains items (make_key ino inode_item 0, bytes) → inode_of bytes ≡ Ok value → HasNumbersOf items survey (Some (kind_of (said_record items d ino value))) ino value
  numbers_of bytes value there read =
      subst (λ (k : Option Kind). HasNumbersOf items survey k ino value) (ap (option_map kind_of) (inode_said items d ino bytes value ok.rise there read))
      (subst (λ (r : Result InodeValue ItemFault). HasReadNumbers items survey (said_kind items d ino) ino r) read ((passes (make_key ino inode_item 0) bytes there refl).content.numbers refl))

  -- what is known of the record that an inode item says
  record Known (inode : InodeRecord) : Type 0 where
    pub bytes : List ℕ
    pub value : InodeValue
    pub there : Contains items (make_key ino inode_item 0, bytes)
    pub read : inode_of bytes ≡ Ok value
    pub said : said_record items d ino value ≡ inode
    pub numbers : HasNumbersOf items survey (Some (kind_of inode)) ino value

  known : (inode : InodeRecord) → get s.inodes ino ≡ Some inode → Known inode
  known inode there =
      let item = inode_from items d ino inode there in
      record {
        bytes = item.bytes;
        value = item.value;
        there = item.there;
        read = item.read;
        said = sym item.is;
        numbers = subst (λ (r : InodeRecord). HasNumbersOf items survey (Some (kind_of r)) ino item.value) (sym item.is) (numbers_of item.bytes item.value item.there item.read);
      }

  file_numbers : (file : FileRecord) (value : InodeValue) → said_record items d ino value ≡ FileInode file → HasFileNumbers items (links_in survey.links ino) ino value → HasRightNumbers items s ino (FileInode file) value
  file_numbers file value said n = record {
    nlink = n.nlink ∙ links_are;
    size = record_size items d ino value file said;
    nbytes = sym n.nbytes ∙ runs_are items ino ∙ sym (blocks_have_bytes items d ino ok held) ∙ ap (λ m. 4096 * len m) (sym (record_blocks items d ino value file said));
  }

  right_numbers : (inode : InodeRecord) → Known inode → (value : InodeValue) → said_record items d ino value ≡ inode → HasNumbersOf items survey (Some (kind_of inode)) ino value → HasRightNumbers items s ino inode value
  right_numbers (FileInode file) k value said n = file_numbers file value said n
  right_numbers (DirInode dir) k value said n = record { nlink = n.nlink; size = n.size ∙ ap (λ m. 2 * m) (sym (names_are items ino)); nbytes = n.nbytes }
  right_numbers (LinkInode link) k value said n =
      let size : value.size ≡ length link.target = sym n.size ∙ sym (target_is items ino) ∙ ap length (sym (record_target items d ino value link said)) in
      record { nlink = n.nlink ∙ links_are; size = size; nbytes = n.nbytes ∙ size }

  numbers : (bytes : List ℕ) (value : InodeValue) (inode : InodeRecord) → Contains items (make_key ino inode_item 0, bytes) → inode_of bytes ≡ Ok value → get s.inodes ino ≡ Some inode → HasRightNumbers items s ino inode value
  numbers bytes value inode there read said =
      let same : said_record items d ino value ≡ inode = some_same (said_record items d ino value) inode (sym (inode_said items d ino bytes value ok.rise there read) ∙ said) in
      right_numbers inode (known inode said) value same (subst (λ (r : InodeRecord). HasNumbersOf items survey (Some (kind_of r)) ino value) same (numbers_of bytes value there read))

  link_count : (inode : InodeRecord) → get s.inodes ino ≡ Some inode → ino ≢ 256 → IsLinkCount inode (links_of s.names ino)
  link_count inode there other = go inode (known inode there)
    where
      go : (r : InodeRecord) → Known r → IsLinkCount r (links_of s.names ino)
      go (FileInode file) k = subst (λ (n : ℕ). (1 ≤ n) × (n ≤ most_links)) links_are (links_to ino (links_in survey.links ino) other k.numbers.links_are)
      go (DirInode dir) k = sym links_are ∙ dir_links_to ino (links_in survey.links ino) other k.numbers.links_are
      go (LinkInode link) k = subst (λ (n : ℕ). (1 ≤ n) × (n ≤ most_links)) links_are (links_to ino (links_in survey.links ino) other k.numbers.links_are)

  -- ---- the root directory

  kind_some : (o : Option InodeRecord) → option_map kind_of o ≡ Some Kinds.Dir → (inode : InodeRecord) × (o ≡ Some inode) × (kind_of inode ≡ Kinds.Dir)
  kind_some None e = absurd cc
  kind_some (Some inode) e = (inode, refl, some_same (kind_of inode) Kinds.Dir e)

  root_dir : ino ≡ 256 → (inode : InodeRecord) × (get s.inodes ino ≡ Some inode) × (kind_of inode ≡ Kinds.Dir)
  root_dir same = kind_some (get s.inodes ino) (ap (said_kind items d) same ∙ (root same).kind)

  dir_of_kind : (inode : InodeRecord) → kind_of inode ≡ Kinds.Dir → is_dir_there (Some inode) ≡ true
  dir_of_kind (FileInode file) e = absurd (let no : Kinds.File ≡ Kinds.Dir = e in cc)
  dir_of_kind (DirInode dir) e = refl
  dir_of_kind (LinkInode link) e = absurd (let no : Kinds.Link ≡ Kinds.Dir = e in cc)

  root_is_dir : ino ≡ 256 → IsTrue (is_dir_at s 256)
  root_is_dir same = let dir = root_dir same in ap (λ (n : ℕ). is_dir_at s n) (sym same) ∙ ap is_dir_there dir.1 ∙ dir_of_kind dir.0 dir.2

  root_has_no_name : ino ≡ 256 → (name : FlatName) → Contains s.names name → name.ino ≢ 256
  root_has_no_name same name c e =
      let dir = root_dir same in
      let k = known dir.0 dir.1 in
      let n : HasDirNumbers items (links_in survey.links ino) (Rattle.coherent_ways.specs.Ways.has_reached survey.reached ino) ino k.value =
      subst (λ (x : Kind). HasNumbersOf items survey (Some x) ino k.value) dir.2 k.numbers in
      let none = root_links ino (links_in survey.links ino) same n.links_are in
      let count = is.links ino in
      let long = length-filter (leads_to ino) (all_names items) in
      let member = filter_in (leads_to ino) (all_names items) name (said_all items name c) (eq-eqb name.ino ino (e ∙ sym same)) in
      let low = member.1 in
      omega arith

  has_root : ino ≡ 256 → HasKey items (make_key 256 inode_item 0)
  has_root same = let k = known (root_dir same).0 (root_dir same).1 in (k.bytes, subst (λ (n : ℕ). Contains items (make_key n inode_item 0, k.bytes)) same k.there)

  -- ---- directories

  way_up : IsTrue (is_dir_at s ino) → (way : List FlatName) × LeadsUp s.names ino way
  way_up dir = let some = dir_is_there (get s.inodes ino) dir in go some.0 (subst (λ (o : Option InodeRecord). IsTrue (is_dir_there o)) some.1 dir) (known some.0 some.1)
    where
      go : (r : InodeRecord) → IsTrue (is_dir_there (Some r)) → Known r → (way : List FlatName) × LeadsUp s.names ino way
      go (DirInode dir) h k = let up = (is.reached ino).0 k.numbers.way_up in (up.0, leads_by (all_names items) s.names (all_said items) ino up.0 up.1)
      go (FileInode file) h k = absurd (let no : false ≡ true = h in cc)
      go (LinkInode link) h k = absurd (let no : false ≡ true = h in cc)

  -- the tests of an entry at an index
  index_tests : (p : PlacedEntry) → Contains (entries_at items dir_index ino) p → (is_index_number p.0 ≡ true) × (is_right_indexed (said_kind items d) survey.slots ino p.0 p.1 ≡ true)
  index_tests p c =
      let item = entry_from items dir_index ino p c in
      let parts = and_parts _ _ ((passes (make_key ino dir_index p.0) item.bytes item.there refl).content.indexed refl) in
      (parts.0, passes_at (is_right_indexed (said_kind items d) survey.slots ino p.0) (read_list (entries_of dir_index item.bytes)) p.1 parts.1 item.entry)

  one_index : (one two : PlacedEntry) → Contains (entries_at items dir_index ino) one → Contains (entries_at items dir_index ino) two → one.1.name ≡ two.1.name → one.0 ≡ two.0
  one_index one two c e same =
      some_same one.0 two.0
      (sym (index_of items d survey.slots ok is.slots ino one.0 one.1 (index_tests one c).1) ∙ ap (Rattle.coherent_slots.specs.Slots.index_at survey.slots ino) same ∙ index_of items d survey.slots ok is.slots ino two.0 two.1 (index_tests two e).1)

  hash_test : (hash : ℕ) (entry : Rattle.blk_base.specs.Entries.EntryValue) → Contains (entries_at items dir_item ino) (hash, entry) → is_right_hashed (said_kind items d) survey.slots ino entry ≡ true
  hash_test hash entry c =
      let item = entry_from items dir_item ino (hash, entry) c in
      passes_at (is_right_hashed (said_kind items d) survey.slots ino) (read_list (entries_of dir_item item.bytes)) entry ((passes (make_key ino dir_item hash) item.bytes item.there refl).content.hashed refl) item.entry

  -- ---- limits

  size_is : (bytes : List ℕ) (value : InodeValue) → Contains items (make_key ino inode_item 0, bytes) → inode_of bytes ≡ Ok value → size_under (data_under (make_key ino inode_item 0) items) ≡ Some value.size
  size_is bytes value there read = ap size_under (under_in items (make_key ino inode_item 0) bytes ok.rise there) ∙ ap size_read read

  kind_limits : (r : InodeRecord) → Known r → KeepsKindLimits r
  kind_limits (FileInode file) k =
      let size = record_size items d ino k.value file k.said in
      record {
        size = subst (λ (n : ℕ). n ≤ most_file_bytes) size k.numbers.size;
        blocks = λ number block h. subst (λ (n : ℕ). Rattle.flat_model.specs.Coherent.KeepsBlockLimits n number block) size
            (blocks_keep items ok ino table k.value.size
            (λ offset bytes there. (passes (make_key ino extent_data offset) bytes there refl).content.extent refl k.value.size (size_is k.bytes k.value k.there k.read) k.numbers.size)
            number block (ap (λ m. get m number) (sym (record_blocks items d ino k.value file k.said)) ∙ h));
      }
  kind_limits (DirInode dir) k = tt
  kind_limits (LinkInode link) k =
      let target = record_target items d ino k.value link k.said in
      let size : k.value.size ≡ length link.target = sym k.numbers.size ∙ sym (target_is items ino) ∙ ap length (sym target) in
      record {
        at_least_one = subst (λ (n : ℕ). 1 ≤ n) size k.numbers.some;
        at_most_1023 = subst (λ (n : ℕ). n ≤ 1023) size k.numbers.most;
        are_bytes = subst Rattle.flat_model.specs.Coherent.AreBytes (sym target) (target_bytes_are items ok ino);
      }

  limits : (inode : InodeRecord) → get s.inodes ino ≡ Some inode → KeepsLimits inode
  limits inode there =
      let k = known inode there in
      let said : attributes_of inode ≡ said_attributes items ino = ap attributes_of (sym k.said) ∙ record_attributes items d ino k.value in
      record {
        attributes = subst Rattle.flat_model.specs.Coherent.KeepAttributeLimits (sym said) (attributes_keep items ok ino (λ hash bytes has. (passes (make_key ino xattr_item hash) bytes has refl).content.values refl));
        kind = kind_limits inode k;
      }

  -- ---- all lines

  rules : KeepsRules items s ino
  rules = record {
    root_is_dir = root_is_dir;
    root_has_no_name = root_has_no_name;
    refs_once = have_once;
    names_once = names_once items d ok ino good;
    link_count = link_count;
    slots = one_index;
    indexes = λ entry c. number_to entry.0 (index_tests entry c).0;
    way_up = way_up;
    limits = limits;
  }

  pub faultless : HasNoFault items d ino
  faultless = record {
    number = λ there. subst Rattle.flat_model.specs.Coherent.IsInoNumber there.2 (passes there.0.0 there.0.1 there.1 there.2).number;
    inode = λ there. subst (λ (n : ℕ). HasKey items (make_key n inode_item 0)) there.2 (passes there.0.0 there.0.1 there.1 there.2).inode;
    root = has_root;
    own_ref = λ same. (root same).own_ref;
    keys = λ key bytes there mine. (passes key bytes there mine).key_is;
    numbers = numbers;
    indexed = λ index entry c. indexed_right items d survey.slots ok is.slots ino index entry (index_tests (index, entry) c).1 c;
    hashed = λ hash entry c. hashed_right items d survey.slots ok is.slots ino (λ key bytes there mine. (passes key bytes there mine).key_is) hash entry (hash_test hash entry c) c;
    refs = λ name c mine. good.right name (said_all items name c) mine;
    own = rules;
  }
