-- Whether an inode is faulty, and which is the lowest faulty one: the type of a decision says what it decides.
use Rattle.std.specs.Prelude.{◌≡◌, ◌≢◌, ◌≤◌, ◌<◌, ◌+◌, ◌*◌, ℕ, zero, suc, Bool, true, false, List, [], ◌∷◌, length, Some, Result, Ok, Err, Contains, slice_index, slice_get, ◌^◌}
use Rattle.std.proofs.Common.{refl, sym, ap, subst, arith, inl, inr, Ordering}
use Rattle.std.specs.List.{AllByRecursion, flat_map}
use Rattle.std.specs.Cmp.{IsTotalOrder, nat_cmp_total}
use Rattle.std.specs.Cmp.Lexicographic.{nat_list_cmp_total}
use Rattle.std.specs.FinMap.{FinMap, IsAntisymmetric, get, entries, nat_cmp-IsAntisymmetric, slice_cmp-IsAntisymmetric}
use Rattle.blk_base.specs.declared.format.TheConstants.{FIRST_FREE}
use Rattle.blk_base.specs.declared.key.Key.{Key}
use Rattle.blk_base.specs.declared.fault.ItemFault.{ItemFault}
use Rattle.blk_base.specs.Crc.{name_hash_of, extref_hash_of}
use Rattle.blk_base.specs.Keys.{inode_item, inode_ref, inode_extref, xattr_item, dir_item, dir_index}
use Rattle.blk_base.specs.Leaf.{Item}
use Rattle.blk_base.specs.Name.{IsName}
use Rattle.blk_base.proofs.NameLemmas.{is_name_decides}
use Rattle.blk_base.specs.Items.{InodeValue, inode_of}
use Rattle.blk_base.specs.Entries.{RefValue, ExtRefValue, EntryValue, EntryFits, IsExtRefs, IsEntries, IsEntryKind, refs_of, extrefs_of, entries_of, entry_bytes, extref_bytes, file_entry, dir_entry, link_entry, attr_entry, dots}
use Rattle.blk_base.specs.ItemFaults.{is_subvolume_kind, HasItsKey, LeadsToInode, LeadsNowhere}
use Rattle.item_laws.specs.ExtRefs.{extrefs_to}
use Rattle.item_laws.specs.Directories.{entries_to}
use Rattle.flat_model.specs.Names.{FlatName, links_of}
use Rattle.flat_model.specs.Records.{Attributes, InodeRecord, FileInode, DirInode, LinkInode, attributes_of}
use Rattle.flat_model.specs.Volume.{Subvolume, is_dir_at}
use Rattle.flat_model.specs.Contents.{block_bytes, most_file_bytes}
use Rattle.flat_model.specs.Coherent.{IsIndexNumber, IsLinkCount, IsNameBytes, AreBytes, KeepAttributeLimits, KeepsBlockLimits, KeepsKindLimits, KeepsLimits, greatest_number, most_links}
use Rattle.volume_image.specs.Subvolume.{Data, HasKey, make_key, nlink_of, nbytes_of, entry_kind_of}
use Rattle.volume_image.proofs.Members.{get_in, in_get}
use Rattle.image_faults.specs.Said.{PlacedEntry, read_list, entries_at, said_sub}
use Rattle.image_faults.specs.Faulty.{StandOnce, IsThere, HasOwnRef, is_for_kind, HasRightKey, size_by, HasRightNumbers, IsEntryOf, IsRightIndexed, IsRightHashed, IsRightRef, HasRefsOnce, KeepsRules, IsRightInode, HasNoFault}
use Rattle.image_faults.specs.Decisions.{map_told, both_told, either_told, if_told, not_told, same_number, at_most, is_so, each_below, each_in, one_in, all_told, all_by_place, is_in, same_list, if_some, if_ok}
use Rattle.image_faults.specs.Ways.{way_told}

-- ---- values

three_told : {A B C : Type 0} → Dec A → Dec B → Dec C → Dec (A × B × C)
three_told a b c = map_told (λ p. (p.0, p.1.0, p.1.1)) (λ p. (p.0, (p.1, p.2))) (both_told a (both_told b c))

same_bytes : (x y : List ℕ) → Dec (x ≡ y)
same_bytes = same_list same_number

same_key : (a b : Key) → Dec (a ≡ b)
same_key a b = map_told (λ p i. record { objectid = p.0 i; kind = p.1 i; offset = p.2 i }) (λ e. (ap (λ (k : Key). k.objectid) e, ap (λ (k : Key). k.kind) e, ap (λ (k : Key). k.offset) e))
    (three_told (same_number a.objectid b.objectid) (same_number a.kind b.kind) (same_number a.offset b.offset))

same_ref : (a b : RefValue) → Dec (a ≡ b)
same_ref a b = map_told (λ p i. record { index = p.0 i; name = p.1 i }) (λ e. (ap (λ (r : RefValue). r.index) e, ap (λ (r : RefValue). r.name) e)) (both_told (same_number a.index b.index) (same_bytes a.name b.name))

same_extref : (a b : ExtRefValue) → Dec (a ≡ b)
same_extref a b = map_told (λ p i. record { parent = p.0 i; index = p.1.0 i; name = p.1.1 i }) (λ e. (ap (λ (r : ExtRefValue). r.parent) e, (ap (λ (r : ExtRefValue). r.index) e, ap (λ (r : ExtRefValue). r.name) e)))
    (both_told (same_number a.parent b.parent) (both_told (same_number a.index b.index) (same_bytes a.name b.name)))

same_bool : (a b : Bool) → Dec (a ≡ b)
same_bool true true = yes refl
same_bool false false = yes refl
same_bool true false = no (λ e. cc)
same_bool false true = no (λ e. cc)

pub same_name : (a b : FlatName) → Dec (a ≡ b)
same_name a b = map_told (λ p i. record { dir = p.0 i; index = p.1.0 i; bytes = p.1.1.0 i; ino = p.1.1.1.0 i; near = p.1.1.1.1 i })
    (λ e. (ap (λ (n : FlatName). n.dir) e, (ap (λ (n : FlatName). n.index) e, (ap (λ (n : FlatName). n.bytes) e, (ap (λ (n : FlatName). n.ino) e, ap (λ (n : FlatName). n.near) e)))))
    (both_told (same_number a.dir b.dir) (both_told (same_number a.index b.index) (both_told (same_bytes a.bytes b.bytes) (both_told (same_number a.ino b.ino) (same_bool a.near b.near)))))

once_told : {X : Type 0} → ((x y : X) → Dec (x ≡ y)) → (xs : List X) → Dec (StandOnce xs)
once_told same [] = yes tt
once_told same (x ∷ xs) = both_told (not_told (is_in same xs x)) (once_told same xs)

-- what a map has at each key
module _ {K X : Type 0} {R : K → K → Ordering} (o : IsTotalOrder R) (same : IsAntisymmetric R) where
  each_of : (P : K → X → Type 0) → ((k : K) (v : X) → Dec (P k v)) → (m : FinMap R X) → Dec ((k : K) (v : X) → get m k ≡ Some v → P k v)
  each_of P told m = map_told (λ f k v h. f (k, v) (get_in o same m k v h)) (λ f e c. f e.0 e.1 (in_get o same m e.0 e.1 c)) (each_in (λ (e : K × X). P e.0 e.1) (λ e. told e.0 e.1) (entries m))

-- ---- limits

is_name_told : (bytes : List ℕ) → Dec (IsName bytes)
is_name_told bytes = map_told (is_name_decides bytes).0 (is_name_decides bytes).1 (is_so (Rattle.blk_base.specs.Name.is_name bytes))

bytes_told : (bytes : List ℕ) → Dec (AreBytes bytes)
bytes_told bytes = all_by_place (λ byte. byte < 256) (λ byte. at_most (suc byte) 256) bytes

attribute_limits : (attributes : Attributes) → Dec (KeepAttributeLimits attributes)
attribute_limits attributes = each_of nat_list_cmp_total (slice_cmp-IsAntisymmetric nat_cmp-IsAntisymmetric) (λ name value. IsNameBytes name × (1 ≤ length value) × (length value ≤ 1024) × AreBytes value)
    (λ name value. map_told (λ p. (p.0, p.1.0, p.1.1.0, p.1.1.1)) (λ p. (p.0, (p.1, (p.2, p.3))))
    (both_told (both_told (is_name_told name) (bytes_told name)) (both_told (at_most 1 (length value)) (both_told (at_most (length value) 1024) (bytes_told value))))) attributes

block_limits : (size number : ℕ) (bytes : List ℕ) → Dec (KeepsBlockLimits size number bytes)
block_limits size number bytes = map_told (λ p. record { begins_below_size = p.0; whole = p.1.0; are_bytes = p.1.1.0; zeros_past_size = p.1.1.1 }) (λ r. (r.begins_below_size, (r.whole, (r.are_bytes, r.zeros_past_size))))
    (both_told (at_most (suc (number * block_bytes)) size) (both_told (same_number (length bytes) block_bytes) (both_told (bytes_told bytes)
    (each_below (λ at. size ≤ number * block_bytes + at → slice_index bytes at ≡ 0) (λ at. if_told (at_most size (number * block_bytes + at)) (same_number (slice_index bytes at) 0)) block_bytes))))

kind_limits : (inode : InodeRecord) → Dec (KeepsKindLimits inode)
kind_limits (FileInode file) = map_told (λ p. record { size = p.0; blocks = p.1 }) (λ r. (r.size, r.blocks))
    (both_told (at_most file.size most_file_bytes) (each_of nat_cmp_total nat_cmp-IsAntisymmetric (KeepsBlockLimits file.size) (block_limits file.size) file.blocks))
kind_limits (DirInode dir) = yes tt
kind_limits (LinkInode link) = map_told (λ p. record { at_least_one = p.0; at_most_1023 = p.1.0; are_bytes = p.1.1 }) (λ r. (r.at_least_one, (r.at_most_1023, r.are_bytes)))
    (both_told (at_most 1 (length link.target)) (both_told (at_most (length link.target) 1023) (bytes_told link.target)))

limits_told : (inode : InodeRecord) → Dec (KeepsLimits inode)
limits_told inode = map_told (λ p. record { attributes = p.0; kind = p.1 }) (λ r. (r.attributes, r.kind)) (both_told (attribute_limits (attributes_of inode)) (kind_limits inode))

link_count_told : (inode : InodeRecord) (count : ℕ) → Dec (IsLinkCount inode count)
link_count_told (FileInode file) count = both_told (at_most 1 count) (at_most count most_links)
link_count_told (DirInode dir) count = same_number count 1
link_count_told (LinkInode link) count = both_told (at_most 1 count) (at_most count most_links)

-- ---- keys

leads_told : (e : EntryValue) → Dec (LeadsToInode e)
leads_told e = map_told (λ p. record { kind = p.0; offset = p.1 }) (λ r. (r.kind, r.offset)) (both_told (same_number e.target.kind inode_item) (same_number e.target.offset 0))

nowhere_told : (e : EntryValue) → Dec (LeadsNowhere e)
nowhere_told e = map_told (λ p. record { objectid = p.0; kind = p.1.0; offset = p.1.1 }) (λ r. (r.objectid, (r.kind, r.offset)))
    (both_told (same_number e.target.objectid 0) (both_told (same_number e.target.kind 0) (same_number e.target.offset 0)))

-- whether the bytes are these entries
entry_kind_told : (kind : ℕ) (e : EntryValue) → Dec (IsEntryKind kind e)
entry_kind_told kind e = either_told (both_told (same_number kind xattr_item) (same_number e.kind attr_entry))
    (three_told (not_told (same_number kind xattr_item))
    (map_told (λ s. elim s [ inl a ↦ inl a | inr t ↦ elim t [ inl b ↦ inr (inl b) | inr c ↦ inr (inr c) ] ]) (λ s. elim s [ inl a ↦ inl a | inr t ↦ elim t [ inl b ↦ inr (inl b) | inr c ↦ inr (inr c) ] ])
    (either_told (same_number e.kind file_entry) (either_told (same_number e.kind dir_entry) (same_number e.kind link_entry))))
    (same_bytes e.value []))

entry_fits_told : (e : EntryValue) → Dec (EntryFits e)
entry_fits_told e = map_told (λ p. record { target = record { objectid = p.0.0; kind = p.0.1; offset = p.0.2 }; transid = p.1; value = p.2 }) (λ r. ((r.target.objectid, r.target.kind, r.target.offset), r.transid, r.value))
    (three_told (three_told (at_most (suc e.target.objectid) (2 ^ 64)) (at_most (suc e.target.kind) (2 ^ 8)) (at_most (suc e.target.offset) (2 ^ 64))) (at_most (suc e.transid) (2 ^ 64)) (at_most (suc (length e.value)) (2 ^ 16)))

in_length : {X : Type 0} (xs : List X) (i : ℕ) (x : X) → slice_get xs i ≡ Some x → i < length xs
in_length [] i x e = absurd cc
in_length (y ∷ xs) zero x e = omega arith
in_length (y ∷ xs) (suc i) x e = let rest = in_length xs i x e in omega arith

names_differ : (es : List EntryValue) → Dec ((i j : ℕ) (a b : EntryValue) → i < j → slice_get es i ≡ Some a → slice_get es j ≡ Some b → a.name ≢ b.name)
names_differ es = map_told (λ f i j a b below ga gb. f i (in_length es i a ga) j (in_length es j b gb) below a ga b gb) (λ f i less j less' below a ga b gb. f i j a b below ga gb)
    (each_below (λ i. (j : ℕ) → j < length es → i < j → (a : EntryValue) → slice_get es i ≡ Some a → (b : EntryValue) → slice_get es j ≡ Some b → a.name ≢ b.name)
    (λ i. each_below (λ j. i < j → (a : EntryValue) → slice_get es i ≡ Some a → (b : EntryValue) → slice_get es j ≡ Some b → a.name ≢ b.name)
    (λ j. if_told (at_most (suc i) j) (if_some (λ a. (b : EntryValue) → slice_get es j ≡ Some b → a.name ≢ b.name) (λ a. if_some (λ b. a.name ≢ b.name) (λ b. not_told (same_bytes a.name b.name)) (slice_get es j)) (slice_get es i))) (length es)) (length es))

none_told : {X : Type 0} (xs : List X) → Dec (xs ≢ [])
none_told [] = no (λ h. h refl)
none_told (x ∷ xs) = yes (λ e. cc)

entries_spelled : (kind : ℕ) (bytes : List ℕ) (es : List EntryValue) → Dec (IsEntries kind bytes es)
entries_spelled kind bytes es = map_told (λ p. record { some = p.0.0; spelled = p.0.1; fields = p.0.2; names = p.1.0; kinds = p.1.1; once = p.1.2; single = p.2 }) (λ r. ((r.some, r.spelled, r.fields), (r.names, r.kinds, r.once), r.single))
    (three_told (three_told (none_told es) (same_bytes bytes (flat_map entry_bytes es)) (all_told EntryFits entry_fits_told es))
    (three_told (all_told (λ e. IsName e.name) (λ e. is_name_told e.name) es) (all_told (IsEntryKind kind) (entry_kind_told kind) es) (names_differ es))
    (if_told (same_number kind dir_index) (same_number (length es) 1)))

extrefs_spelled : (bytes : List ℕ) (refs : List ExtRefValue) → Dec (IsExtRefs bytes refs)
extrefs_spelled bytes refs = map_told (λ p. record { some = p.0; spelled = p.1.0; numbers = p.1.1.0; names = p.1.1.1 }) (λ r. (r.some, (r.spelled, (r.numbers, r.names))))
    (both_told (none_told refs) (both_told (same_bytes bytes (flat_map extref_bytes refs))
    (both_told (all_told (λ r. (r.parent < 2 ^ 64) × (r.index < 2 ^ 64)) (λ r. both_told (at_most (suc r.parent) (2 ^ 64)) (at_most (suc r.index) (2 ^ 64))) refs) (all_told (λ r. IsName r.name) (λ r. is_name_told r.name) refs))))

-- of what the bytes are, where they are anything
read_told : {V : Type 0} (Is : List V → Type 0) (P : List V → Type 0) (read : Result (List V) ItemFault) → ((vs : List V) → Is vs → read ≡ Ok vs) → ((vs : List V) → Dec (Is vs)) → ((vs : List V) → Dec (P vs)) → Dec ((vs : List V) → Is vs → P vs)
read_told {V} Is P (Err fault) to is told = yes (λ vs i. absurd (let no : ◌≡◌ {A = Result (List V) ItemFault} (Err fault) (Ok vs) = to vs i in cc))
read_told {V} Is P (Ok found) to is told = go (is found) (told found)
  where
    same : (vs : List V) → Is vs → found ≡ vs
    same vs i = let both : ◌≡◌ {A = Result (List V) ItemFault} (Ok found) (Ok vs) = to vs i in cc

    go : Dec (Is found) → Dec (P found) → Dec ((vs : List V) → Is vs → P vs)
    go (no k) d = yes (λ vs i. absurd (k (subst Is (sym (same vs i)) i)))
    go (yes i) (yes p) = yes (λ vs j. subst P (same vs j) p)
    go (yes i) (no h) = no (λ all. h (all found i))

entries_told : (kind : ℕ) (P : EntryValue → Type 0) → ((e : EntryValue) → Dec (P e)) → (bytes : List ℕ) → Dec ((es : List EntryValue) → IsEntries kind bytes es → AllByRecursion P es)
entries_told kind P told bytes = read_told (IsEntries kind bytes) (AllByRecursion P) (entries_of kind bytes) (entries_to kind bytes) (entries_spelled kind bytes) (all_told P told)

its_key_told : (key : Key) (bytes : List ℕ) → Dec (HasItsKey key bytes)
its_key_told key bytes = map_told (λ p. record { inode = p.0; extrefs = p.1.0; hashed = p.1.1.0; indexed = p.1.1.1.0; attributes = p.1.1.1.1 }) (λ r. (r.inode, (r.extrefs, (r.hashed, (r.indexed, r.attributes)))))
    (both_told (if_told (same_number key.kind inode_item) (same_number key.offset 0))
    (both_told (if_told (same_number key.kind inode_extref)
    (read_told (IsExtRefs bytes) (AllByRecursion (λ ref. extref_hash_of ref.parent ref.name ≡ key.offset)) (extrefs_of bytes) (extrefs_to bytes) (extrefs_spelled bytes) (all_told (λ ref. extref_hash_of ref.parent ref.name ≡ key.offset) (λ ref. same_number (extref_hash_of ref.parent ref.name) key.offset))))
    (both_told (if_told (same_number key.kind dir_item) (entries_told dir_item (λ e. (name_hash_of e.name ≡ key.offset) × LeadsToInode e) (λ e. both_told (same_number (name_hash_of e.name) key.offset) (leads_told e)) bytes))
    (both_told (if_told (same_number key.kind dir_index) (entries_told dir_index LeadsToInode leads_told bytes))
    (if_told (same_number key.kind xattr_item) (entries_told xattr_item (λ e. (name_hash_of e.name ≡ key.offset) × LeadsNowhere e) (λ e. both_told (same_number (name_hash_of e.name) key.offset) (nowhere_told e)) bytes))))))

right_key_told : (sub : Subvolume) (key : Key) (bytes : List ℕ) → Dec (HasRightKey sub key bytes)
right_key_told sub key bytes = map_told (λ p. record { type = p.0; content = p.1; kind = p.2 }) (λ r. (r.type, r.content, r.kind))
    (three_told (is_so (is_subvolume_kind key.kind)) (its_key_told key bytes) (is_so (is_for_kind (get sub.inodes key.objectid) key bytes)))

-- ---- items

-- what holds of each item
each_item : (P : Key → List ℕ → Type 0) → ((key : Key) (bytes : List ℕ) → Dec (P key bytes)) → (items : List Item) → Dec ((key : Key) (bytes : List ℕ) → Contains items (key, bytes) → P key bytes)
each_item P told items = map_told (λ f key bytes c. f (key, bytes) c) (λ f item c. f item.0 item.1 c) (each_in (λ (item : Item). P item.0 item.1) (λ item. told item.0 item.1) items)

-- what holds of the item under a key
each_under : (P : List ℕ → Type 0) → ((bytes : List ℕ) → Dec (P bytes)) → (items : List Item) (key : Key) → Dec ((bytes : List ℕ) → Contains items (key, bytes) → P bytes)
each_under P told items key = map_told (λ f bytes c. f key bytes c refl) (λ f k bytes c same. f bytes (subst (λ (j : Key). Contains items (j, bytes)) same c))
    (each_item (λ k bytes. k ≡ key → P bytes) (λ k bytes. if_told (same_key k key) (told bytes)) items)

-- what holds of the item under a key, where there is one
one_under : (P : List ℕ → Type 0) → ((bytes : List ℕ) → Dec (P bytes)) → (items : List Item) (key : Key) → Dec ((bytes : List ℕ) × Contains items (key, bytes) × P bytes)
one_under P told items key = map_told (λ p. (p.0.1, subst (λ (k : Key). Contains items (k, p.0.1)) p.2.0 p.1, p.2.1)) (λ p. ((key, p.0), p.1, (refl, p.2)))
    (one_in (λ (item : Item). (item.0 ≡ key) × P item.1) (λ item. both_told (same_key item.0 key) (told item.1)) items)

has_key_told : (items : List Item) (key : Key) → Dec (HasKey items key)
has_key_told items key = map_told (λ p. (p.0, p.1)) (λ p. (p.0, p.1, tt)) (one_under (λ bytes. Unit {0}) (λ bytes. yes tt) items key)

is_there_told : (items : List Item) (ino : ℕ) → Dec (IsThere items ino)
is_there_told items ino = one_in (λ (item : Item). item.0.objectid ≡ ino) (λ item. same_number item.0.objectid ino) items

own_ref_told : (items : List Item) → Dec (HasOwnRef items)
own_ref_told items = map_told (λ p. record { bytes = p.0; there = p.1; dots = p.2 }) (λ r. (r.bytes, r.there, r.dots))
    (one_under (λ bytes. Contains (read_list (refs_of (make_key FIRST_FREE inode_ref FIRST_FREE) bytes)) (record { index = 0; name = dots })) (λ bytes. is_in same_ref (read_list (refs_of (make_key FIRST_FREE inode_ref FIRST_FREE) bytes)) (record { index = 0; name = dots })) items (make_key FIRST_FREE inode_ref FIRST_FREE))

refs_once_told : (key : Key) (bytes : List ℕ) → Dec (HasRefsOnce key bytes)
refs_once_told key bytes = map_told (λ p. record { near = p.0; far = p.1 }) (λ r. (r.near, r.far))
    (both_told (if_told (same_number key.kind inode_ref) (once_told same_ref (read_list (refs_of key bytes)))) (if_told (same_number key.kind inode_extref) (once_told same_extref (read_list (extrefs_of bytes)))))

-- ---- entries and refs

entry_of_told : (name : FlatName) (entry : EntryValue) → Dec (IsEntryOf name entry)
entry_of_told name entry = map_told (λ p. record { bytes = p.0; ino = p.1 }) (λ r. (r.bytes, r.ino)) (both_told (same_bytes entry.name name.bytes) (same_number entry.target.objectid name.ino))

-- an entry at a place
entry_told : (P : EntryValue → Type 0) → ((e : EntryValue) → Dec (P e)) → (es : List PlacedEntry) (place : ℕ) → Dec ((e : EntryValue) × Contains es (place, e) × P e)
entry_told P told es place = map_told (λ p. (p.0.1, subst (λ (n : ℕ). Contains {X = PlacedEntry} es (n, p.0.1)) p.2.0 p.1, p.2.1)) (λ p. ((place, p.0), p.1, (refl, p.2)))
    (one_in (λ (p : PlacedEntry). (p.0 ≡ place) × P p.1) (λ p. both_told (same_number p.0 place) (told p.1)) es)

fellow_told : (entry fellow : EntryValue) → Dec ((fellow.name ≡ entry.name) × (fellow.target.objectid ≡ entry.target.objectid))
fellow_told entry fellow = both_told (same_bytes fellow.name entry.name) (same_number fellow.target.objectid entry.target.objectid)

type_told : (sub : Subvolume) (entry : EntryValue) → Dec ((inode : InodeRecord) → get sub.inodes entry.target.objectid ≡ Some inode → entry.kind ≡ entry_kind_of (Some inode))
type_told sub entry = if_some (λ inode. entry.kind ≡ entry_kind_of (Some inode)) (λ inode. same_number entry.kind (entry_kind_of (Some inode))) (get sub.inodes entry.target.objectid)

indexed_told : (items : List Item) (sub : Subvolume) (dir index : ℕ) (entry : EntryValue) → Dec (IsRightIndexed items sub dir index entry)
indexed_told items sub dir index entry = map_told (λ p. record { hashed = p.0; ref = p.1; type = p.2 }) (λ r. (r.hashed, r.ref, r.type)) (three_told
    (map_told (λ p. (p.0, p.1, p.2.0, p.2.1)) (λ p. (p.0, p.1, (p.2, p.3))) (entry_told (λ fellow. (fellow.name ≡ entry.name) × (fellow.target.objectid ≡ entry.target.objectid)) (fellow_told entry) (entries_at items dir_item dir) (name_hash_of entry.name)))
    (map_told (λ p. (p.0, p.1, p.2.0, p.2.1, p.2.2)) (λ p. (p.0, p.1, (p.2, p.3, p.4))) (one_in (λ (name : FlatName). (name.dir ≡ dir) × (name.index ≡ index) × IsEntryOf name entry) (λ name. three_told (same_number name.dir dir) (same_number name.index index) (entry_of_told name entry)) sub.names))
    (type_told sub entry))

hashed_told : (items : List Item) (sub : Subvolume) (dir : ℕ) (entry : EntryValue) → Dec (IsRightHashed items sub dir entry)
hashed_told items sub dir entry = map_told (λ p. record { indexed = p.0; type = p.1 }) (λ r. (r.indexed, r.type)) (both_told
    (map_told (λ p. (p.0.0, p.0.1, p.1, p.2.0, p.2.1)) (λ p. ((p.0, p.1), p.2, (p.3, p.4)))
    (one_in (λ (p : PlacedEntry). (p.1.name ≡ entry.name) × (p.1.target.objectid ≡ entry.target.objectid)) (λ p. fellow_told entry p.1) (entries_at items dir_index dir)))
    (type_told sub entry))

ref_told : (items : List Item) (sub : Subvolume) (name : FlatName) → Dec (IsRightRef items sub name)
ref_told items sub name = map_told (λ p. record { hashed = p.0; indexed = p.1; parent = p.2 }) (λ r. (r.hashed, r.indexed, r.parent)) (three_told
    (entry_told (IsEntryOf name) (entry_of_told name) (entries_at items dir_item name.dir) (name_hash_of name.bytes))
    (entry_told (IsEntryOf name) (entry_of_told name) (entries_at items dir_index name.dir) name.index)
    (is_so (is_dir_at sub name.dir)))

-- ---- an inode

numbers_told : (items : List Item) (sub : Subvolume) (ino : ℕ) (inode : InodeRecord) (value : InodeValue) → Dec (HasRightNumbers items sub ino inode value)
numbers_told items sub ino inode value = map_told (λ p. record { nlink = p.0; size = p.1; nbytes = p.2 }) (λ r. (r.nlink, r.size, r.nbytes))
    (three_told (same_number value.nlink (nlink_of sub ino inode)) (same_number value.size (size_by items ino inode)) (same_number value.nbytes (nbytes_of inode)))

rules_told : (items : List Item) (sub : Subvolume) (ino : ℕ) → Dec (KeepsRules items sub ino)
rules_told items sub ino = map_told
    (λ p. record { root_is_dir = p.0.0; root_has_no_name = p.0.1; refs_once = p.0.2; names_once = p.1.0; link_count = p.1.1; slots = p.1.2; indexes = p.2.0; way_up = p.2.1; limits = p.2.2 })
    (λ r. ((r.root_is_dir, r.root_has_no_name, r.refs_once), (r.names_once, r.link_count, r.slots), (r.indexes, r.way_up, r.limits)))
    (three_told
    (three_told (if_told (same_number ino FIRST_FREE) (is_so (is_dir_at sub FIRST_FREE)))
    (if_told (same_number ino FIRST_FREE) (each_in (λ (name : FlatName). name.ino ≢ FIRST_FREE) (λ name. not_told (same_number name.ino FIRST_FREE)) sub.names))
    (each_item (λ key bytes. key.objectid ≡ ino → HasRefsOnce key bytes) (λ key bytes. if_told (same_number key.objectid ino) (refs_once_told key bytes)) items))
    (three_told
    (map_told (λ f one two c d. f one c two d) (λ f one c two d. f one two c d) (each_in (λ (one : FlatName). (two : FlatName) → Contains sub.names two → one.ino ≡ ino → two.ino ≡ ino → one.dir ≡ two.dir → one.bytes ≡ two.bytes → one ≡ two)
    (λ one. each_in (λ (two : FlatName). one.ino ≡ ino → two.ino ≡ ino → one.dir ≡ two.dir → one.bytes ≡ two.bytes → one ≡ two)
    (λ two. if_told (same_number one.ino ino) (if_told (same_number two.ino ino) (if_told (same_number one.dir two.dir) (if_told (same_bytes one.bytes two.bytes) (same_name one two))))) sub.names) sub.names))
    (if_some (λ inode. ino ≢ FIRST_FREE → IsLinkCount inode (links_of sub.names ino)) (λ inode. if_told (not_told (same_number ino FIRST_FREE)) (link_count_told inode (links_of sub.names ino))) (get sub.inodes ino))
    (map_told (λ f one two c d. f one c two d) (λ f one c two d. f one two c d) (each_in (λ (one : PlacedEntry). (two : PlacedEntry) → Contains (entries_at items dir_index ino) two → one.1.name ≡ two.1.name → one.0 ≡ two.0)
    (λ one. each_in (λ (two : PlacedEntry). one.1.name ≡ two.1.name → one.0 ≡ two.0) (λ two. if_told (same_bytes one.1.name two.1.name) (same_number one.0 two.0)) (entries_at items dir_index ino)) (entries_at items dir_index ino))))
    (three_told (each_in (λ (entry : PlacedEntry). IsIndexNumber entry.0) (λ entry. both_told (at_most 2 entry.0) (at_most entry.0 greatest_number)) (entries_at items dir_index ino))
    (if_told (is_so (is_dir_at sub ino)) (way_told same_name sub.names ino))
    (if_some KeepsLimits limits_told (get sub.inodes ino))))

right_told : (items : List Item) (sub : Subvolume) (ino : ℕ) → Dec (IsRightInode items sub ino)
right_told items sub ino = map_told
    (λ p. record { number = p.0.0; inode = p.0.1; root = p.0.2; own_ref = p.1.0; keys = p.1.1; numbers = p.1.2; indexed = p.2.0; hashed = p.2.1; refs = p.2.2.0; own = p.2.2.1 })
    (λ r. ((r.number, r.inode, r.root), (r.own_ref, r.keys, r.numbers), (r.indexed, r.hashed, (r.refs, r.own))))
    (three_told
    (three_told (if_told (is_there_told items ino) (both_told (at_most 256 ino) (at_most ino greatest_number))) (if_told (is_there_told items ino) (has_key_told items (make_key ino inode_item 0)))
    (if_told (same_number ino FIRST_FREE) (has_key_told items (make_key FIRST_FREE inode_item 0))))
    (three_told (if_told (same_number ino FIRST_FREE) (own_ref_told items))
    (each_item (λ key bytes. key.objectid ≡ ino → HasRightKey sub key bytes) (λ key bytes. if_told (same_number key.objectid ino) (right_key_told sub key bytes)) items)
    (map_told (λ f bytes value inode c read there. f bytes c value read inode there) (λ f bytes c value read inode there. f bytes value inode c read there)
    (each_under (λ bytes. (value : InodeValue) → inode_of bytes ≡ Ok value → (inode : InodeRecord) → get sub.inodes ino ≡ Some inode → HasRightNumbers items sub ino inode value)
    (λ bytes. if_ok (λ value. (inode : InodeRecord) → get sub.inodes ino ≡ Some inode → HasRightNumbers items sub ino inode value) (λ value. if_some (λ inode. HasRightNumbers items sub ino inode value) (λ inode. numbers_told items sub ino inode value) (get sub.inodes ino)) (inode_of bytes)) items (make_key ino inode_item 0))))
    (three_told
    (map_told (λ f index entry c. f (index, entry) c) (λ f p c. f p.0 p.1 c) (each_in (λ (p : PlacedEntry). IsRightIndexed items sub ino p.0 p.1) (λ p. indexed_told items sub ino p.0 p.1) (entries_at items dir_index ino)))
    (map_told (λ f hash entry c. f (hash, entry) c) (λ f p c. f p.0 p.1 c) (each_in (λ (p : PlacedEntry). IsRightHashed items sub ino p.1) (λ p. hashed_told items sub ino p.1) (entries_at items dir_item ino)))
    (both_told (each_in (λ (name : FlatName). name.ino ≡ ino → IsRightRef items sub name) (λ name. if_told (same_number name.ino ino) (ref_told items sub name)) sub.names) (rules_told items sub ino))))

-- Whether the inode isn't faulty.
pub fault_told : (items : List Item) (blocks : Data) (ino : ℕ) → Dec (HasNoFault items blocks ino)
fault_told items blocks ino = right_told items (said_sub items blocks) ino
