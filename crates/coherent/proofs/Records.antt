-- What an inode's items say of its record keeps its limits where each item does, and the other way round.
use Rattle.std.proofs.Common.{◌≡◌, ◌≤◌, ◌<◌, ◌+◌, ◌*◌, ◌/◌, ◌⊎◌, ◌==◌, ◌&&◌, ◌++◌, ℕ, Bool, true, false, cond, not, List, [], ◌∷◌, length, map, drop, take, Contains, Some, Result, Ok, Err, refl, sym, ap, subst, ◌∙◌, arith, inl, inr}
use Rattle.std.proofs.lemmas.Bool.{cases_order}
use Rattle.std.proofs.lemmas.List.Elements.{All-contains, All-from_get_or, All-from_recursion, Contains-append_left, Contains-append_right}
use Rattle.std.specs.Cmp.{nat_cmp_total}
use Rattle.std.specs.Cmp.Lexicographic.{nat_list_cmp_total}
use Rattle.std.specs.FinMap.{get, nat_cmp-IsAntisymmetric}
use Rattle.std.specs.List.{AllByRecursion, list_all}
use Rattle.blk_base.specs.declared.fault.ItemFault.{ItemFault}
use Rattle.blk_base.specs.declared.key.Key.{Key}
use Rattle.blk_base.specs.Bytes.{IsBytes, number_bytes}
use Rattle.blk_base.specs.Crc.{name_hash_of}
use Rattle.blk_base.specs.Entries.{EntryValue, entries_of, entry_bytes}
use Rattle.blk_base.specs.Extents.{ExtentValue, Hole, Inline, Regular, extent_of}
use Rattle.blk_base.specs.ItemFaults.{HasItsKey, LeadsNowhere}
use Rattle.blk_base.specs.Items.{InodeValue, dir_mode, file_mode}
use Rattle.blk_base.specs.Keys.{extent_data, key_bytes, xattr_item}
use Rattle.blk_base.specs.Leaf.{Item}
use Rattle.blk_base.specs.Name.{IsName}
use Rattle.block_table.specs.Table.{Table}
use Rattle.table_volume.specs.Gives.{data_in}
use Rattle.item_laws.specs.ExtentLaws.{extent_from}
use Rattle.flat_model.specs.Coherent.{AreBytes, KeepAttributeLimits, KeepsBlockLimits}
use Rattle.flat_model.specs.Records.{DirInode, FileInode, LinkInode, attributes_of}
use Rattle.volume_image.specs.Subvolume.{Data, make_key}
use Rattle.volume_image.proofs.Lists.{in_nothing}
use Rattle.volume_image.proofs.Members.{flat_map_in, in_map, map_in}
use Rattle.volume_image.proofs.Reaches.{head_in, tail_in}
use Rattle.image_faults.specs.Faulty.{AreReadable}
use Rattle.image_faults.specs.Lists.{given, in_flat_map, taken}
use Rattle.image_faults.specs.Said.{attribute_of, entries_at, inline_content, is_item_of, read_list, said_attributes, said_blocks, said_record, said_target, target_in}
use Rattle.image_faults.proofs.Entries.{entries_read}
use Rattle.image_faults.proofs.FromExtents.{behind}
use Rattle.image_faults.proofs.FromNames.{all_at}
use Rattle.image_faults.proofs.OfInodes.{bytes_one}
use Rattle.image_faults.proofs.Readings.{BlockItem, block_from, block_in, entry_from, entry_in, file_blocks_list}
use Rattle.image_faults.proofs.Rising.{key_once}
use Rattle.coherent_items.specs.Entries.{is_right_value}
use Rattle.coherent_limits.specs.Limits.{KeepsExtentLimits}
use Rattle.coherent.proofs.Directories.{all_pass, passes_at}
use Rattle.coherent.proofs.Lists.{some_from, some_to}
use Rattle.coherent.proofs.Names.{entry_one, spelled}

-- ---- bytes

all_in : {X : Type 0} (P : X → Type 0) (xs : List X) → ((x : X) → Contains xs x → P x) → AllByRecursion P xs
all_in P [] h = tt
all_in P (x ∷ xs) h = (h x (head_in x xs), all_in P xs (λ y c. h y (tail_in x y xs c)))

bytes_among : (part whole : List ℕ) → IsBytes whole → ((byte : ℕ) → Contains part byte → Contains whole byte) → AreBytes part
bytes_among part whole are inside =
    All-from_recursion (λ byte. byte < 256) part
    (all_in (λ byte. byte < 256) part (λ byte c. All-contains (λ b. b < 256) whole byte (All-from_get_or (λ b. b < 256) whole 0 (λ i below. are i)) (inside byte c)))

in_dropped : (k : ℕ) (bytes : List ℕ) (byte : ℕ) → Contains (drop k bytes) byte → Contains bytes byte
in_dropped k [] byte c = go k c
  where
    go : (n : ℕ) → Contains (drop n []) byte → Contains [] byte
    go Rattle.std.proofs.Common.zero d = d
    go (Rattle.std.proofs.Common.suc n) d = d
in_dropped Rattle.std.proofs.Common.zero (b ∷ bytes) byte c = c
in_dropped (Rattle.std.proofs.Common.suc k) (b ∷ bytes) byte c = tail_in b byte bytes (in_dropped k bytes byte c)

value_to : (e : EntryValue) → is_right_value e ≡ true → (1 ≤ length e.value) × (length e.value ≤ 1024)
value_to e h = some_to (length e.value) 1024 h

value_from : (e : EntryValue) → 1 ≤ length e.value → length e.value ≤ 1024 → is_right_value e ≡ true
value_from e low high = some_from (length e.value) 1024 low high

-- ---- records

pub record_attributes : (items : List Item) (blocks : Data) (ino : ℕ) (value : InodeValue) → attributes_of (said_record items blocks ino value) ≡ said_attributes items ino
record_attributes items blocks ino value = go (value.mode == file_mode) (value.mode == dir_mode)
  where
    go : (b c : Bool) → attributes_of (cond b (FileInode (record { attributes = said_attributes items ino; size = value.size; blocks = said_blocks items blocks ino }))
        (cond c (DirInode (record { attributes = said_attributes items ino })) (LinkInode (record { attributes = said_attributes items ino; target = said_target items ino })))) ≡ said_attributes items ino
    go true c = refl
    go false true = refl
    go false false = refl

module _ (items : List Item) (ok : AreReadable items) (ino : ℕ) where
  -- ---- attributes ("XATTR_ITEM")

  module _ (values : (hash : ℕ) (bytes : List ℕ) → Contains items (make_key ino xattr_item hash, bytes) → list_all is_right_value (read_list (entries_of xattr_item bytes)) ≡ true) where
    pub attributes_keep : KeepAttributeLimits (said_attributes items ino)
    unfolding said_attributes
    attributes_keep name value h =
        let p = in_map attribute_of (entries_at items xattr_item ino) (name, value) (taken nat_list_cmp_total bytes_one (map attribute_of (entries_at items xattr_item ino)) name value h) in
        let item = entry_from items xattr_item ino p.0 p.1 in
        let key = make_key ino xattr_item p.0.0 in
        let found = entries_read items ok.rise (spelled items ok) xattr_item ino p.0.0 item.bytes (inr (inr refl)) item.there in
        let inside = subst (λ (es : List EntryValue). Contains es p.0.1) found.2 item.entry in
        let sizes = value_to p.0.1 (passes_at is_right_value (read_list (entries_of xattr_item item.bytes)) p.0.1 (values p.0.0 item.bytes item.there) item.entry) in
        keeps p.0.1 (ap (λ (z : List ℕ × List ℕ). z.0) p.2) (ap (λ (z : List ℕ × List ℕ). z.1) p.2) found.0 inside (all_at (λ (e : EntryValue). IsName e.name) found.0 p.0.1 found.1.names inside) item.bytes (ok.bytes key item.bytes item.there) found.1.spelled sizes
      where
        keeps : (e : EntryValue) → e.name ≡ name → e.value ≡ value → (es : List EntryValue) → Contains es e → IsName e.name → (bytes : List ℕ) → IsBytes bytes → bytes ≡ Rattle.std.proofs.Common.flat_map entry_bytes es
            → (1 ≤ length e.value) × (length e.value ≤ 1024) → (IsName name × AreBytes name) × (1 ≤ length value) × (length value ≤ 1024) × AreBytes value
        keeps e name_is value_is es c is bytes are from sizes =
            let parts : (part : List ℕ) → ((byte : ℕ) → Contains part byte → Contains (entry_bytes e) byte) → AreBytes part = λ part inside. bytes_among part bytes are (λ byte d. subst (λ (b : List ℕ). Contains b byte) (sym from) (flat_map_in entry_bytes es e byte c (inside byte d))) in (
              (subst IsName name_is is, subst AreBytes name_is (parts e.name (λ byte d. behind_fields e byte (Contains-append_left e.name e.value byte d)))),
              subst (λ (v : List ℕ). 1 ≤ length v) value_is sizes.0,
              subst (λ (v : List ℕ). length v ≤ 1024) value_is sizes.1,
              subst AreBytes value_is (parts e.value (λ byte d. behind_fields e byte (Contains-append_right e.name e.value byte d))),
            )
          where
            behind_fields : (e : EntryValue) (byte : ℕ) → Contains (e.name ++ e.value) byte → Contains (entry_bytes e) byte
            behind_fields e byte d =
                Contains-append_right (key_bytes e.target) (number_bytes 8 e.transid ++ (number_bytes 2 (length e.value) ++ (number_bytes 2 (length e.name) ++ (number_bytes 1 e.kind ++ (e.name ++ e.value))))) byte
                (Contains-append_right (number_bytes 8 e.transid) (number_bytes 2 (length e.value) ++ (number_bytes 2 (length e.name) ++ (number_bytes 1 e.kind ++ (e.name ++ e.value)))) byte
                (Contains-append_right (number_bytes 2 (length e.value)) (number_bytes 2 (length e.name) ++ (number_bytes 1 e.kind ++ (e.name ++ e.value))) byte
                (Contains-append_right (number_bytes 2 (length e.name)) (number_bytes 1 e.kind ++ (e.name ++ e.value)) byte
                (Contains-append_right (number_bytes 1 e.kind) (e.name ++ e.value) byte d))))

  module _ (keys : (key : Key) (bytes : List ℕ) → Contains items (key, bytes) → key.objectid ≡ ino → HasItsKey key bytes) where
    hash_is : (hash : ℕ) (bytes : List ℕ) (e : EntryValue) → Contains items (make_key ino xattr_item hash, bytes) → Contains (read_list (entries_of xattr_item bytes)) e → name_hash_of e.name ≡ hash
    hash_is hash bytes e there c =
        let found = entries_read items ok.rise (spelled items ok) xattr_item ino hash bytes (inr (inr refl)) there in
        (all_at (λ (x : EntryValue). (name_hash_of x.name ≡ hash) × LeadsNowhere x) found.0 e ((keys (make_key ino xattr_item hash) bytes there refl).attributes refl found.0 found.1) (subst (λ (es : List EntryValue). Contains es e) found.2 c)).0

    -- an attribute that an item says is among those of its inode
    attribute_said : (hash : ℕ) (bytes : List ℕ) (e : EntryValue) → Contains items (make_key ino xattr_item hash, bytes) → Contains (read_list (entries_of xattr_item bytes)) e → get (said_attributes items ino) e.name ≡ Some e.value
    unfolding said_attributes
    attribute_said hash bytes e there c = given nat_list_cmp_total bytes_one (map attribute_of (entries_at items xattr_item ino)) e.name e.value
        (λ w d.
        let p = in_map attribute_of (entries_at items xattr_item ino) (e.name, w) d in
        let item = entry_from items xattr_item ino p.0 p.1 in
        let name : p.0.1.name ≡ e.name = ap (λ (z : List ℕ × List ℕ). z.0) p.2 in
        let place : p.0.0 ≡ hash = sym (hash_is p.0.0 item.bytes p.0.1 item.there item.entry) ∙ ap name_hash_of name ∙ hash_is hash bytes e there c in
        let one = entry_one items ok xattr_item (inr (inr refl)) ino hash p.0.1 e (subst (λ (h : ℕ). Contains (entries_at items xattr_item ino) (h, p.0.1)) place p.1) (entry_in items xattr_item ino hash bytes e there c) name in
        sym (ap (λ (z : List ℕ × List ℕ). z.1) p.2) ∙ ap (λ (x : EntryValue). x.value) one)
        (map_in attribute_of (entries_at items xattr_item ino) (hash, e) (entry_in items xattr_item ino hash bytes e there c))

    pub values_pass : KeepAttributeLimits (said_attributes items ino) → (hash : ℕ) (bytes : List ℕ) → Contains items (make_key ino xattr_item hash, bytes) → list_all is_right_value (read_list (entries_of xattr_item bytes)) ≡ true
    values_pass keeps hash bytes there = all_pass is_right_value (read_list (entries_of xattr_item bytes)) (λ e c. let limits = keeps e.name e.value (attribute_said hash bytes e there c) in value_from e limits.1 limits.2)

  -- ---- blocks of a file ("EXTENT_DATA")

  module _ (table : Table) where
    abbrev d : Data
    d = data_in table

    pub blocks_keep : (size : ℕ) → ((offset : ℕ) (bytes : List ℕ) → Contains items (make_key ino extent_data offset, bytes) → KeepsExtentLimits table (make_key ino extent_data offset) (extent_of (make_key ino extent_data offset) bytes) size)
        → (number : ℕ) (block : List ℕ) → get (said_blocks items d ino) number ≡ Some block → KeepsBlockLimits size number block
    unfolding said_blocks
    blocks_keep size each number block h =
        let item = block_from items d ino number block (taken nat_cmp_total nat_cmp-IsAntisymmetric (file_blocks_list items d ino) number block h) in
        let key = make_key ino extent_data item.offset in
        let run = subst (λ (r : Result ExtentValue ItemFault). KeepsExtentLimits table key r size) item.read (each item.offset item.bytes item.there) in
        subst (λ (n : ℕ). KeepsBlockLimits size n block) (sym item.number_is) (run item.i item.below block item.block_is)

    -- a block of a file is in one extent
    block_once : (number : ℕ) (b c : List ℕ) → BlockItem items d ino number b → BlockItem items d ino number c → b ≡ c
    block_once number b c one two = go (cases_order one.offset two.offset)
      where
        some_same : (x y : List ℕ) → Some x ≡ Some y → x ≡ y
        some_same x y e = cc

        go : (one.offset ≡ two.offset) ⊎ ((one.offset < two.offset) ⊎ (two.offset < one.offset)) → b ≡ c
        go (inl same) =
            let bytes = key_once items (make_key ino extent_data two.offset) one.bytes two.bytes ok.rise (subst (λ (n : ℕ). Contains items (make_key ino extent_data n, one.bytes)) same one.there) two.there in
            let read : Ok (Regular one.at one.from one.len) ≡ Ok (Regular two.at two.from two.len) = sym one.read ∙ (λ i. extent_of (make_key ino extent_data (same i)) (bytes i)) ∙ two.read in
            let at : one.at ≡ two.at = cc in
            let first = one.number_is in
            let second = two.number_is in
            let place : one.i ≡ two.i = omega arith in
            some_same b c (sym one.block_is ∙ (λ i. data_in table (at i + 4096 * place i)) ∙ two.block_is)
        go (inr (inl less)) = absurd (behind items d ok ino number b c one two less)
        go (inr (inr more)) = absurd (behind items d ok ino number c b two one more)

    pub extent_passes : (size : ℕ) → ((number : ℕ) (block : List ℕ) → get (said_blocks items d ino) number ≡ Some block → KeepsBlockLimits size number block) → (offset : ℕ) (bytes : List ℕ)
        → Contains items (make_key ino extent_data offset, bytes) → KeepsExtentLimits table (make_key ino extent_data offset) (extent_of (make_key ino extent_data offset) bytes) size
    unfolding said_blocks
    extent_passes size keeps offset bytes there = go (extent_of key bytes) refl
      where
        key : Key
        key = make_key ino extent_data offset

        go : (r : Result ExtentValue ItemFault) → extent_of key bytes ≡ r → KeepsExtentLimits table key r size
        go (Ok (Regular at from len)) read = λ i below block has.
            let inside = block_in items d ino offset bytes at from len i block there read below has in
            keeps (offset / 4096 + i) block (given nat_cmp_total nat_cmp-IsAntisymmetric (file_blocks_list items d ino) (offset / 4096 + i) block
            (λ w c. block_once (offset / 4096 + i) w block (block_from items d ino (offset / 4096 + i) w c) (block_from items d ino (offset / 4096 + i) block inside)) inside)
        go (Ok (Inline content)) read = tt
        go (Ok (Hole len)) read = tt
        go (Err fault) read = tt

  -- ---- the target of a symlink

  pub target_bytes_are : AreBytes (said_target items ino)
  unfolding said_target
  target_bytes_are = All-from_recursion (λ byte. byte < 256) (said_target items ino) (all_in (λ byte. byte < 256) (said_target items ino) (λ byte c.
      let found = in_flat_map (target_in ino) items byte c in
      go found.0 found.1 byte (is_item_of extent_data ino found.0.0) (extent_of found.0.0 found.0.1) refl found.2))
    where
      go : (item : Item) → Contains items item → (byte : ℕ) → (t : Bool) → (r : Result ExtentValue ItemFault) → extent_of item.0 item.1 ≡ r → Contains (cond t (inline_content r) []) byte → byte < 256
      go item there byte true (Ok (Inline content)) read c =
          let is = extent_from item.0 item.1 (Inline content) read in
          let inside = in_dropped 21 item.1 byte (subst (λ (b : List ℕ). Contains b byte) (sym is.3) c) in
          All-contains (λ b. b < 256) item.1 byte (All-from_get_or (λ b. b < 256) item.1 0 (λ i below. ok.bytes item.0 item.1 there i)) inside
      go item there byte true (Ok (Regular at from len)) read c = absurd (in_nothing byte c)
      go item there byte true (Ok (Hole len)) read c = absurd (in_nothing byte c)
      go item there byte true (Err fault) read c = absurd (in_nothing byte c)
      go item there byte false r read c = absurd (in_nothing byte c)
