-- Items that are lists of entries: names of an inode, entries of a directory, attributes; from any list of bytes.
use Rattle.std.specs.Prelude.{◌≡◌, ◌≢◌, ◌<◌, ◌+◌, ◌^◌, ◌⊎◌, ℕ, suc, zero, Bool, false, ◌&&◌, ◌||◌, not, nat_lt, ◌==◌, List, [], ◌∷◌, ◌++◌, length, drop, slice_get, Option, Some, None, Result, Ok, Err, if◌then◌else◌}
use Rattle.std.specs.Option.{option_and_then, option_map}
use Rattle.std.specs.List.{flat_map, list_all, list_any, AllByRecursion}
use Rattle.std.specs.Str.{bytes_eq}
use Rattle.blk_base.specs.declared.fault.ItemFault.{ItemFault}
use Rattle.blk_base.specs.declared.fault.ItemFault.TheVariants.{Size, NameLen, Cut, Kind, Twice}
use Rattle.blk_base.specs.declared.key.Key.{Key}
use Rattle.blk_base.specs.declared.format.TheConstants.{FIRST_FREE, FILE_ENTRY, DIR_ENTRY, LINK_ENTRY, ATTR_ENTRY}
use Rattle.blk_base.specs.Bytes.{field, bytes_at, number_bytes}
use Rattle.blk_base.specs.Keys.{KeyFits, key_bytes, key_at, dir_index, xattr_item, inode_ref}
use Rattle.blk_base.specs.Name.{IsName, is_name}

-- ---- entries one behind the other

-- The entries of an item, each read from the front: a reader gives an entry and the bytes behind it, or None where the entry passes the end.
-- None where one does. No item has more entries than bytes.
abbrev pub entries_within : {E : Type 0} → (List ℕ → Option (E × List ℕ)) → ℕ → List ℕ → Option (List E)
entries_within {E = E} read n [] = Some []
entries_within {E = E} read zero (b ∷ bytes) = None
entries_within {E = E} read (suc n) (b ∷ bytes) = option_and_then (λ x. option_map (λ entries. x.0 ∷ entries) (entries_within read n x.1)) (read (b ∷ bytes))

unfoldable pub all_entries : {E : Type 0} → (List ℕ → Option (E × List ℕ)) → List ℕ → Option (List E)
all_entries {E = E} read bytes = entries_within read (length bytes) bytes

-- an entry with `fixed` bytes and then `more`, which the fixed bytes count
abbrev pub entry_within : {E : Type 0} → ℕ → (List ℕ → ℕ) → (List ℕ → E) → List ℕ → Option (E × List ℕ)
entry_within {E = E} fixed more value bytes =
    if nat_lt (length bytes) fixed then None else
    if nat_lt (length bytes) (fixed + more bytes) then None else Some (value bytes, drop (fixed + more bytes) bytes)

-- ---- names of an inode in one directory ("INODE_REF": index, name_len, name)

pub record RefValue : Type 0 where
  pub index : ℕ
  pub name : List ℕ

abbrev pub ref_bytes : RefValue → List ℕ
ref_bytes r = number_bytes 8 r.index ++ number_bytes 2 (length r.name) ++ r.name

unfoldable pub ref_from : List ℕ → Option (RefValue × List ℕ)
ref_from bytes = entry_within 10 (λ b. field 2 b 8) (λ b. record { index = field 8 b 0; name = bytes_at (field 2 b 8) b 10 }) bytes

-- the one place of the name `..`: the root directory's item of itself
abbrev pub IsDotsPlace : Key → Type 0
IsDotsPlace key = (key.objectid ≡ FIRST_FREE) × (key.kind ≡ inode_ref) × (key.offset ≡ FIRST_FREE)

abbrev pub is_dots_place : Key → Bool
is_dots_place key = (key.objectid == FIRST_FREE) && (key.kind == inode_ref) && (key.offset == FIRST_FREE)

abbrev pub dots : List ℕ
dots = 46 ∷ 46 ∷ []

abbrev pub IsRefName : Key → List ℕ → Type 0
IsRefName key name = IsName name ⊎ (IsDotsPlace key × (name ≡ dots))

abbrev pub is_ref_name : Key → List ℕ → Bool
is_ref_name key name = is_name name || (is_dots_place key && bytes_eq name dots)

-- the bytes under this key are these names, one entry behind the other
pub record IsRefs (key : Key) (bytes : List ℕ) (refs : List RefValue) : Type 0 where
  pub some : refs ≢ []
  pub spelled : bytes ≡ flat_map ref_bytes refs
  pub indexes : AllByRecursion (λ r. r.index < 2 ^ 64) refs
  pub names : AllByRecursion (λ r. IsRefName key r.name) refs

-- the first fault of entries that were read, or they
abbrev pub with_names : {E : Type 0} → (List ℕ → Bool) → (E → List ℕ) → List ℕ → Option (List E) → Result (List E) ItemFault
with_names {E = E} good name [] entries = Err Size
with_names {E = E} good name (b ∷ bytes) None = Err Cut
with_names {E = E} good name (b ∷ bytes) (Some entries) = if list_all (λ e. good (name e)) entries then Ok entries else Err NameLen

unfoldable pub refs_of : Key → List ℕ → Result (List RefValue) ItemFault
refs_of key bytes = with_names (is_ref_name key) (λ r. r.name) bytes (all_entries ref_from bytes)

-- ---- names of an inode whose hashes meet ("INODE_EXTREF": parent, index, name_len, name)

pub record ExtRefValue : Type 0 where
  pub parent : ℕ
  pub index : ℕ
  pub name : List ℕ

abbrev pub extref_bytes : ExtRefValue → List ℕ
extref_bytes r = number_bytes 8 r.parent ++ number_bytes 8 r.index ++ number_bytes 2 (length r.name) ++ r.name

unfoldable pub extref_from : List ℕ → Option (ExtRefValue × List ℕ)
extref_from bytes = entry_within 18 (λ b. field 2 b 16) (λ b. record { parent = field 8 b 0; index = field 8 b 8; name = bytes_at (field 2 b 16) b 18 }) bytes

pub record IsExtRefs (bytes : List ℕ) (refs : List ExtRefValue) : Type 0 where
  pub some : refs ≢ []
  pub spelled : bytes ≡ flat_map extref_bytes refs
  pub numbers : AllByRecursion (λ r. (r.parent < 2 ^ 64) × (r.index < 2 ^ 64)) refs
  pub names : AllByRecursion (λ r. IsName r.name) refs

unfoldable pub extrefs_of : List ℕ → Result (List ExtRefValue) ItemFault
extrefs_of bytes = with_names is_name (λ r. r.name) bytes (all_entries extref_from bytes)

-- ---- entries of directories and attributes ("DIR_ITEM", "DIR_INDEX", "XATTR_ITEM": location, transid, data_len, name_len, type, name, data)

pub record EntryValue : Type 0 where
  pub target : Key
  pub transid : ℕ
  pub kind : ℕ
  pub name : List ℕ
  pub value : List ℕ

-- types of entries
abbrev pub file_entry : ℕ
file_entry = FILE_ENTRY

abbrev pub dir_entry : ℕ
dir_entry = DIR_ENTRY

abbrev pub link_entry : ℕ
link_entry = LINK_ENTRY

abbrev pub attr_entry : ℕ
attr_entry = ATTR_ENTRY

abbrev pub entry_bytes : EntryValue → List ℕ
entry_bytes e = key_bytes e.target ++ number_bytes 8 e.transid ++ number_bytes 2 (length e.value) ++ number_bytes 2 (length e.name) ++ number_bytes 1 e.kind ++ e.name ++ e.value

unfoldable pub entry_from : List ℕ → Option (EntryValue × List ℕ)
entry_from bytes = entry_within 30 (λ b. field 2 b 27 + field 2 b 25)
    (λ b. record { target = key_at b 0; transid = field 8 b 17; kind = field 1 b 29; name = bytes_at (field 2 b 27) b 30; value = bytes_at (field 2 b 25) b (30 + field 2 b 27) }) bytes

-- the type of an entry in an item of this type: an attribute with its value, or a file, a directory or a symlink without data
abbrev pub IsEntryKind : ℕ → EntryValue → Type 0
IsEntryKind kind e = ((kind ≡ xattr_item) × (e.kind ≡ attr_entry)) ⊎ ((kind ≢ xattr_item) × ((e.kind ≡ file_entry) ⊎ (e.kind ≡ dir_entry) ⊎ (e.kind ≡ link_entry)) × (e.value ≡ []))

abbrev pub is_entry_kind : ℕ → EntryValue → Bool
is_entry_kind kind e = if kind == xattr_item then e.kind == attr_entry else ((e.kind == file_entry) || (e.kind == dir_entry) || (e.kind == link_entry)) && (length e.value == 0)

-- a name that stands twice
abbrev pub has_twice : List EntryValue → Bool
has_twice [] = false
has_twice (e ∷ entries) = list_any (λ other. bytes_eq other.name e.name) entries || has_twice entries

pub record EntryFits (e : EntryValue) : Type 0 where
  pub target : KeyFits e.target
  pub transid : e.transid < 2 ^ 64
  pub value : length e.value < 2 ^ 16

-- the bytes of an item of this type are these entries
pub record IsEntries (kind : ℕ) (bytes : List ℕ) (entries : List EntryValue) : Type 0 where
  pub some : entries ≢ []
  pub spelled : bytes ≡ flat_map entry_bytes entries
  pub fields : AllByRecursion EntryFits entries
  pub names : AllByRecursion (λ e. IsName e.name) entries
  pub kinds : AllByRecursion (IsEntryKind kind) entries
  pub once : (i j : ℕ) (a b : EntryValue) → i < j → slice_get entries i ≡ Some a → slice_get entries j ≡ Some b → a.name ≢ b.name
  pub single : kind ≡ dir_index → length entries ≡ 1

-- what comes after the names: types, then names or entries that stand twice
abbrev pub with_kinds : ℕ → Result (List EntryValue) ItemFault → Result (List EntryValue) ItemFault
with_kinds kind (Err fault) = Err fault
with_kinds kind (Ok entries) =
    if not (list_all (is_entry_kind kind) entries) then Err Kind else
    if has_twice entries || ((kind == dir_index) && nat_lt 1 (length entries)) then Err Twice else Ok entries

unfoldable pub entries_of : ℕ → List ℕ → Result (List EntryValue) ItemFault
entries_of kind bytes = with_kinds kind (with_names is_name (λ e. e.name) bytes (all_entries entry_from bytes))
