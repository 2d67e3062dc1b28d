-- The inodes that the items of a subvolume say are its inodes.
use Rattle.std.proofs.Common.{◌≡◌, ◌≤◌, ◌<◌, ◌+◌, ◌-◌, ◌*◌, ◌/◌, ◌%◌, ◌++◌, ℕ, Bool, true, false, cond, List, [], ◌∷◌, map, flat_map, Contains, Option, Some, Ok, Equal, nat_cmp, refl, sym, ap, subst, ◌∙◌, arith, inl, inr}
use Rattle.std.proofs.lemmas.Bool.{and_parts, eqb-true, eq-eqb}
use Rattle.std.specs.Cmp.{nat_cmp_total}
use Rattle.std.specs.Cmp.Lexicographic.{slice_cmp, nat_list_cmp_total}
use Rattle.std.specs.FinMap.{get, nat_cmp-IsAntisymmetric, slice_cmp-IsAntisymmetric}
use Rattle.blk_base.specs.declared.key.Key.{Key}
use Rattle.blk_base.specs.Crc.{name_hash_of}
use Rattle.blk_base.specs.Keys.{inode_item, xattr_item, extent_data}
use Rattle.blk_base.specs.Leaf.{Item}
use Rattle.blk_base.specs.Items.{InodeValue, file_mode, dir_mode, link_mode}
use Rattle.blk_base.specs.Entries.{EntryValue}
use Rattle.blk_base.specs.Extents.{Inline, Regular, extent_of}
use Rattle.item_laws.specs.ExtentLaws.{extent_to}
use Rattle.format_laws.specs.Items.{inode_of-Ok}
use Rattle.flat_model.specs.Records.{InodeRecord, FileRecord, LinkRecord, FileInode, DirInode, LinkInode, attributes_of}
use Rattle.flat_model.specs.Volume.{Subvolume}
use Rattle.volume_image.specs.Subvolume.{Data, AreItemsOf, IsExtentOf, make_key, attributes_asked, attributes_there, attribute_entry, mode_of, size_of, without_transid, extent_len}
use Rattle.volume_image.specs.Tree.{ItemsRise}
use Rattle.volume_image.proofs.Lists.{in_nothing, in_cons}
use Rattle.volume_image.proofs.Reaches.{head_in, tail_in}
use Rattle.volume_image.proofs.Members.{not_empty, in_map, map_in, get_in, in_get}
use Rattle.volume_image.proofs.Extents.{regular_is_read, extent_len_regular}
use Rattle.volume_image.proofs.Asked.{asked_inode, asked_attributes, asked_extent}
use Rattle.image_faults.specs.Said.{is_item_of, entries_at, attribute_of, said_attributes, said_blocks, said_target, target_in, inline_content, said_record, said_inodes}
use Rattle.image_faults.specs.Lists.{gives_map}
use Rattle.image_faults.proofs.Rising.{head_below, rise_tail, not_below_itself}
use Rattle.image_faults.proofs.Readings.{entry_in, entry_from, file_blocks_list, BlockItem, block_in, block_from, inode_list, inode_listed, list_inode}
use Rattle.image_faults.proofs.Asking.{with_attribute, asked_attribute}
use Rattle.image_faults.proofs.Held.{asked_from, asked_to}

-- the bytes of names have one order
abbrev pub bytes_one : (x y : List ℕ) → slice_cmp nat_cmp x y ≡ Equal → x ≡ y
bytes_one = slice_cmp-IsAntisymmetric nat_cmp-IsAntisymmetric

-- ---- a list that one item alone gives

flat_none : {Y : Type 0} (f : Item → List Y) (items : List Item) → ((item : Item) → Contains items item → f item ≡ []) → flat_map f items ≡ []
flat_none f [] none = refl
flat_none f (item ∷ items) none = ap (λ ys. ys ++ flat_map f items) (none item (head_in item items)) ∙ flat_none f items (λ other c. none other (tail_in item other items c))

append_none : {Y : Type 0} (ys : List Y) → ys ++ [] ≡ ys
append_none [] = refl
append_none (y ∷ ys) = ap (λ zs. y ∷ zs) (append_none ys)

pub flat_one : {Y : Type 0} (f : Item → List Y) (items : List Item) (item : Item) → ItemsRise items → Contains items item → ((other : Item) → Contains items other → (other.0 ≡ item.0 → ⊥) → f other ≡ []) → flat_map f items ≡ f item
flat_one f [] item rise c none = absurd (in_nothing item c)
flat_one f (first ∷ items) item rise c none = elim (in_cons first item items c) [
  | inl here ↦
      ap (λ ys. f first ++ ys) (flat_none f items (λ other d. none other (tail_in first other items d) (λ e. not_below_itself first.0 other.0 (ap (λ (o : Item). o.0) here ∙ sym e) (head_below first items rise other d))))
      ∙ append_none (f first) ∙ ap f here
  | inr there ↦
      ap (λ ys. ys ++ flat_map f items) (none first (head_in first items) (λ e. not_below_itself first.0 item.0 e (head_below first items rise item there)))
      ∙ flat_one f items item (rise_tail first items rise) there (λ other d. none other (tail_in first other items d))
]

-- ---- records by their modes

pub record_of_file : (items : List Item) (blocks : Data) (ino : ℕ) (value : InodeValue) → value.mode ≡ file_mode
    → said_record items blocks ino value ≡ FileInode (record { attributes = said_attributes items ino; size = value.size; blocks = said_blocks items blocks ino })
record_of_file items blocks ino value e = rw e refl

pub record_of_dir : (items : List Item) (blocks : Data) (ino : ℕ) (value : InodeValue) → value.mode ≡ dir_mode → said_record items blocks ino value ≡ DirInode (record { attributes = said_attributes items ino })
record_of_dir items blocks ino value e = rw e refl

pub record_of_link : (items : List Item) (blocks : Data) (ino : ℕ) (value : InodeValue) → value.mode ≡ link_mode
    → said_record items blocks ino value ≡ LinkInode (record { attributes = said_attributes items ino; target = said_target items ino })
record_of_link items blocks ino value e = rw e refl

extent_inside : (number offset len : ℕ) → offset ≤ 4096 * number → 4096 * number < offset + len → offset % 4096 ≡ 0 → len % 4096 ≡ 0 → number - offset / 4096 < len / 4096
extent_inside number offset len from covers aligned whole = omega arith

some_same : {X : Type 0} (x y : X) → Some x ≡ Some y → x ≡ y
some_same x y e = cc

module _ (items : List Item) (blocks : Data) (sub : Subvolume) (rise : ItemsRise items) (are : AreItemsOf items blocks sub) where
  attributes_same : (ino : ℕ) (inode : InodeRecord) → get sub.inodes ino ≡ Some inode → said_attributes items ino ≡ attributes_of inode
  unfolding said_attributes
  attributes_same ino inode there = gives_map nat_list_cmp_total bytes_one (map attribute_of (entries_at items xattr_item ino)) (attributes_of inode) forth back
    where
      forth : (name value : List ℕ) → Contains (map attribute_of (entries_at items xattr_item ino)) (name, value) → get (attributes_of inode) name ≡ Some value
      forth name value c =
          let p = in_map attribute_of (entries_at items xattr_item ino) (name, value) c in
          let item = entry_from items xattr_item ino p.0 p.1 in
          let key = make_key ino xattr_item p.0.0 in
          let has = asked_attributes sub blocks key item.bytes refl (are.only key item.bytes item.there) in
          let pair = with_attribute sub ino p.0.0 (without_transid p.0.1) (asked_from xattr_item item.bytes (attributes_asked sub ino p.0.0) has p.0.1 item.entry) in
          let same : pair.0 ≡ (name, value) = (λ i. (ap (λ (e : EntryValue). e.name) pair.3 i, ap (λ (e : EntryValue). e.value) pair.3 i)) ∙ p.2 in
          in_get nat_list_cmp_total bytes_one (attributes_of inode) name value
          (subst (λ (z : List ℕ × List ℕ). Contains (attributes_there (Some inode)) z) same (subst (λ (o : Option InodeRecord). Contains (attributes_there o) pair.0) there pair.1))

      back : (name value : List ℕ) → get (attributes_of inode) name ≡ Some value → Contains (map attribute_of (entries_at items xattr_item ino)) (name, value)
      back name value h =
          let asked = asked_attribute sub ino (name, value) (subst (λ (o : Option InodeRecord). Contains (attributes_there o) (name, value)) (sym there) (get_in nat_list_cmp_total bytes_one (attributes_of inode) name value h)) in
          let hash = name_hash_of name in
          let item = are.attributes ino hash (not_empty (attribute_entry (name, value)) (attributes_asked sub ino hash) asked) in
          let key = make_key ino xattr_item hash in
          let has = asked_attributes sub blocks key item.0 refl (are.only key item.0 item.1) in
          let found = asked_to xattr_item item.0 (attributes_asked sub ino hash) has (attribute_entry (name, value)) asked in
          let same : ◌≡◌ {A = List ℕ × List ℕ} (found.0.name, found.0.value) (name, value) = (λ i. (ap (λ (e : EntryValue). e.name) found.2 i, ap (λ (e : EntryValue). e.value) found.2 i)) in
          subst (λ (z : List ℕ × List ℕ). Contains (map attribute_of (entries_at items xattr_item ino)) z) same
          (map_in attribute_of (entries_at items xattr_item ino) (hash, found.0) (entry_in items xattr_item ino hash item.0 found.0 item.1 found.1))

  file_extent : (ino : ℕ) (file : FileRecord) → get sub.inodes ino ≡ Some (FileInode file) → (offset : ℕ) (bytes : List ℕ) → Contains items (make_key ino extent_data offset, bytes) → IsExtentOf blocks (FileInode file) (make_key ino extent_data offset) bytes
  file_extent ino file there offset bytes has =
      let key = make_key ino extent_data offset in
      let asked = asked_extent sub blocks key bytes refl (are.only key bytes has) in
      subst (λ (r : InodeRecord). IsExtentOf blocks r key bytes) (some_same asked.0 (FileInode file) (sym asked.1 ∙ there)) asked.2

  link_extent : (ino : ℕ) (link : LinkRecord) → get sub.inodes ino ≡ Some (LinkInode link) → (offset : ℕ) (bytes : List ℕ) → Contains items (make_key ino extent_data offset, bytes) → IsExtentOf blocks (LinkInode link) (make_key ino extent_data offset) bytes
  link_extent ino link there offset bytes has =
      let key = make_key ino extent_data offset in
      let asked = asked_extent sub blocks key bytes refl (are.only key bytes has) in
      subst (λ (r : InodeRecord). IsExtentOf blocks r key bytes) (some_same asked.0 (LinkInode link) (sym asked.1 ∙ there)) asked.2

  blocks_same : (ino : ℕ) (file : FileRecord) → get sub.inodes ino ≡ Some (FileInode file) → said_blocks items blocks ino ≡ file.blocks
  unfolding said_blocks
  blocks_same ino file there = gives_map nat_cmp_total nat_cmp-IsAntisymmetric (file_blocks_list items blocks ino) file.blocks forth back
    where
      in_file : (number : ℕ) (block : List ℕ) (item : BlockItem items blocks ino number block) → IsExtentOf blocks (FileInode file) (make_key ino extent_data item.offset) item.bytes → get file.blocks number ≡ Some block
      in_file number block item (at, len, is, holds) =
          let key = make_key ino extent_data item.offset in
          let read : Ok (Regular at 0 len) ≡ Ok (Regular item.at item.from item.len) = sym (regular_is_read key item.bytes at 0 len is) ∙ item.read in
          let same_at : at ≡ item.at = cc in
          let same_len : len ≡ item.len = cc in
          let below = item.below in
          let held = holds item.i (subst (λ (n : ℕ). item.i < n / 4096) (sym same_len) below) in
          let block_is : held.0 ≡ block = some_same held.0 block (sym held.1 ∙ ap (λ (n : ℕ). blocks (n + 4096 * item.i)) same_at ∙ item.block_is) in
          ap (get file.blocks) item.number_is ∙ held.2 ∙ ap Some block_is

      forth : (number : ℕ) (block : List ℕ) → Contains (file_blocks_list items blocks ino) (number, block) → get file.blocks number ≡ Some block
      forth number block c =
          let item = block_from items blocks ino number block c in
          in_file number block item (file_extent ino file there item.offset item.bytes item.there)

      listed : (number : ℕ) (block : List ℕ) → get file.blocks number ≡ Some block → (offset : ℕ) (bytes : List ℕ) → Contains items (make_key ino extent_data offset, bytes) → offset ≤ 4096 * number
          → 4096 * number < offset + extent_len (make_key ino extent_data offset) bytes → IsExtentOf blocks (FileInode file) (make_key ino extent_data offset) bytes → Contains (file_blocks_list items blocks ino) (number, block)
      listed number block h offset bytes has from to (at, len, is, holds) =
          let key = make_key ino extent_data offset in
          let covers : 4096 * number < offset + len = rw (extent_len_regular key bytes at 0 len is) at to in
          let run = is.9 in
          let aligned = is.10 in
          let i : ℕ = number - offset / 4096 in
          let inside : i < len / 4096 = extent_inside number offset len from covers aligned run.0 in
          let place : offset / 4096 + i ≡ number = omega arith in
          let held = holds i inside in
          let block_is : held.0 ≡ block = some_same held.0 block (sym held.2 ∙ ap (get file.blocks) place ∙ h) in
          subst (λ (n : ℕ). Contains {X = ℕ × List ℕ} (file_blocks_list items blocks ino) (n, block)) place
          (block_in items blocks ino offset bytes at 0 len i block has (regular_is_read key bytes at 0 len is) inside (held.1 ∙ ap Some block_is))

      back : (number : ℕ) (block : List ℕ) → get file.blocks number ≡ Some block → Contains (file_blocks_list items blocks ino) (number, block)
      back number block h =
          let cover = are.file_blocks ino file number block there h in
          listed number block h cover.offset cover.bytes cover.there cover.from cover.to (file_extent ino file there cover.offset cover.bytes cover.there)

  target_same : (ino : ℕ) (link : LinkRecord) → get sub.inodes ino ≡ Some (LinkInode link) → said_target items ino ≡ link.target
  unfolding said_target
  target_same ino link there =
      let item = are.targets ino link there in
      let key = make_key ino extent_data 0 in
      let is = link_extent ino link there 0 item.0 item.1 in
      flat_one (target_in ino) items (key, item.0) rise item.1 none
      ∙ ap (λ (b : Bool). cond b (inline_content (extent_of key item.0)) []) (eq-eqb ino ino refl)
      ∙ ap inline_content (extent_to key item.0 (Inline link.target) is)
    where
      none : (other : Item) → Contains items other → (other.0 ≡ make_key ino extent_data 0 → ⊥) → target_in ino other ≡ []
      none other c differs = go (is_item_of extent_data ino other.0) refl
        where
          go : (b : Bool) → is_item_of extent_data ino other.0 ≡ b → cond b (inline_content (extent_of other.0 other.1)) [] ≡ []
          go true e =
              let parts = and_parts _ _ e in
              let objectid : other.0.objectid ≡ ino = eqb-true other.0.objectid ino parts.1 in
              let kind : other.0.kind ≡ extent_data = eqb-true other.0.kind extent_data parts.0 in
              let key : other.0 ≡ make_key ino extent_data other.0.offset = λ i. record { objectid = objectid i; kind = kind i; offset = other.0.offset } in
              let is = link_extent ino link there other.0.offset other.1 (subst (λ (k : Key). Contains items (k, other.1)) key c) in
              absurd (differs (key ∙ (λ i. record { objectid = ino; kind = extent_data; offset = is.5 i })))
          go false e = refl

  -- what an inode's item says is the inode
  record_same : (ino : ℕ) (inode : InodeRecord) (value : InodeValue) → get sub.inodes ino ≡ Some inode → value.mode ≡ mode_of inode → value.size ≡ size_of sub ino inode → said_record items blocks ino value ≡ inode
  record_same ino (FileInode file) value there mode size =
      record_of_file items blocks ino value mode ∙ (λ i. FileInode (record { attributes = attributes_same ino (FileInode file) there i; size = size i; blocks = blocks_same ino file there i }))
  record_same ino (DirInode dir) value there mode size = record_of_dir items blocks ino value mode ∙ (λ i. DirInode (record { attributes = attributes_same ino (DirInode dir) there i }))
  record_same ino (LinkInode link) value there mode size =
      record_of_link items blocks ino value mode ∙ (λ i. LinkInode (record { attributes = attributes_same ino (LinkInode link) there i; target = target_same ino link there i }))

  pub inodes_are_said : said_inodes items blocks ≡ sub.inodes
  unfolding said_inodes
  inodes_are_said = gives_map nat_cmp_total nat_cmp-IsAntisymmetric (inode_list items blocks) sub.inodes forth back
    where
      forth : (ino : ℕ) (inode : InodeRecord) → Contains (inode_list items blocks) (ino, inode) → get sub.inodes ino ≡ Some inode
      forth ino inode c =
          let item = inode_listed items blocks ino inode c in
          let key = make_key ino inode_item 0 in
          let asked = asked_inode sub blocks key item.bytes refl (are.only key item.bytes item.there) in
          let read : Ok asked.3.value ≡ Ok item.value = sym (inode_of-Ok item.bytes asked.3.value asked.3.spelled) ∙ item.read in
          let value : asked.3.value ≡ item.value = cc in
          let same = record_same ino asked.0 asked.3.value asked.2 asked.3.mode asked.3.size in
          asked.2 ∙ ap Some (sym same ∙ ap (said_record items blocks ino) value ∙ sym item.is)

      back : (ino : ℕ) (inode : InodeRecord) → get sub.inodes ino ≡ Some inode → Contains (inode_list items blocks) (ino, inode)
      back ino inode h =
          let item = are.inodes ino inode h in
          let key = make_key ino inode_item 0 in
          let asked = asked_inode sub blocks key item.0 refl (are.only key item.0 item.1) in
          let same = record_same ino asked.0 asked.3.value asked.2 asked.3.mode asked.3.size ∙ some_same asked.0 inode (sym asked.2 ∙ h) in
          subst (λ (r : InodeRecord). Contains {X = ℕ × InodeRecord} (inode_list items blocks) (ino, r)) same (list_inode items blocks ino item.0 asked.3.value item.1 (inode_of-Ok item.0 asked.3.value asked.3.spelled))
