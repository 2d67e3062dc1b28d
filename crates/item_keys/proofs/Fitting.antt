-- The tests of entries say what they mean, and the key of an item is right exactly where that of its type is.
use Rattle.std.proofs.Common.{◌≡◌, ◌↔◌, ℕ, Bool, true, List, [], ◌∷◌, Result, Ok, Err, refl, sym, subst, ◌∙◌, arith}
use Rattle.std.specs.Prelude.{IsTrue}
use Rattle.std.specs.List.{AllByRecursion, list_all}
use Rattle.std.proofs.lemmas.Bool.{and_from, and_parts, eq-eqb, eqb-true}
use Rattle.blk_base.specs.declared.fault.ItemFault.{ItemFault}
use Rattle.blk_base.specs.declared.key.Key.{Key}
use Rattle.blk_base.specs.Bytes.{IsBytes}
use Rattle.blk_base.specs.Crc.{extref_hash_of, name_hash_of}
use Rattle.blk_base.specs.Entries.{EntryValue, ExtRefValue, IsEntries, IsExtRefs, entries_of, extrefs_of}
use Rattle.blk_base.specs.ItemFaults.{HasItsKey, LeadsNowhere, LeadsToInode}
use Rattle.blk_base.specs.Keys.{dir_index, dir_item, inode_extref, inode_item, xattr_item}
use Rattle.item_laws.specs.Directories.{entries_from, entries_to}
use Rattle.item_laws.specs.ExtRefs.{extrefs_from, extrefs_to}
use Rattle.item_keys.specs.Fits.{AreAttributesAt, AreEntriesAt, AreExtRefsAt, IsEntryAtIndex, is_attribute_at, is_entry_at, is_extref_at, leads_nowhere, leads_to_inode}

-- ---- lists

all_to : {X : Type 0} (test : X → Bool) (P : X → Type 0) → ((x : X) → test x ≡ true → P x) → (xs : List X) → list_all test xs ≡ true → AllByRecursion P xs
all_to test P means [] h = tt
all_to test P means (x ∷ xs) h = let p = and_parts _ _ h in (means x p.0, all_to test P means xs p.1)

all_from : {X : Type 0} (test : X → Bool) (P : X → Type 0) → ((x : X) → P x → test x ≡ true) → (xs : List X) → AllByRecursion P xs → list_all test xs ≡ true
all_from test P passes [] h = refl
all_from test P passes (x ∷ xs) h = and_from _ _ (passes x h.0) (all_from test P passes xs h.1)

-- ---- one entry

to_inode : (e : EntryValue) → leads_to_inode e ≡ true → LeadsToInode e
to_inode e h = let p = and_parts _ _ h in record { kind = eqb-true e.target.kind inode_item p.0; offset = eqb-true e.target.offset 0 p.1 }

from_inode : (e : EntryValue) → LeadsToInode e → leads_to_inode e ≡ true
from_inode e h = and_from _ _ (eq-eqb e.target.kind inode_item h.kind) (eq-eqb e.target.offset 0 h.offset)

to_nowhere : (e : EntryValue) → leads_nowhere e ≡ true → LeadsNowhere e
to_nowhere e h =
    let p = and_parts _ _ h in
    let q = and_parts _ _ p.0 in
    record { objectid = eqb-true e.target.objectid 0 q.0; kind = eqb-true e.target.kind 0 q.1; offset = eqb-true e.target.offset 0 p.1 }

from_nowhere : (e : EntryValue) → LeadsNowhere e → leads_nowhere e ≡ true
from_nowhere e h = and_from _ _ (and_from _ _ (eq-eqb e.target.objectid 0 h.objectid) (eq-eqb e.target.kind 0 h.kind)) (eq-eqb e.target.offset 0 h.offset)

-- ---- the entries of an item

-- of what the bytes are, if they are anything
read_ok : {X : Type 0} (Is P : List X → Type 0) (read : Result (List X) ItemFault) (found : List X) (answer : Bool) → Ok found ≡ read → Is found → ((xs : List X) → Is xs → read ≡ Ok xs) → (answer ≡ true → P found) → (P found → answer ≡ true)
    → IsTrue answer ↔ ((xs : List X) → Is xs → P xs)
read_ok {X} Is P read found answer is fits reads to from = (λ h xs spelled. subst P (same xs (is ∙ reads xs spelled)) (to h), λ all. from (all found fits))
  where
    same : (xs : List X) → ◌≡◌ {A = Result (List X) ItemFault} (Ok found) (Ok xs) → found ≡ xs
    same xs both = cc

read_err : {X : Type 0} (Is P : List X → Type 0) (read : Result (List X) ItemFault) (fault : ItemFault) → Err fault ≡ read → ((xs : List X) → Is xs → read ≡ Ok xs) → IsTrue true ↔ ((xs : List X) → Is xs → P xs)
read_err {X} Is P read fault is reads = (λ h xs spelled. absurd (let wrong : ◌≡◌ {A = Result (List X) ItemFault} (Err fault) (Ok xs) = is ∙ reads xs spelled in cc), λ all. refl)

pub extrefs_ok : (hash : ℕ) (bytes : List ℕ) (found : List ExtRefValue) (answer : Bool) → IsBytes bytes → Ok found ≡ extrefs_of bytes → answer ≡ list_all (is_extref_at hash) found → IsTrue answer ↔ AreExtRefsAt hash bytes
extrefs_ok hash bytes found answer are is test =
    read_ok (IsExtRefs bytes) (AllByRecursion (λ ref. extref_hash_of ref.parent ref.name ≡ hash)) (extrefs_of bytes) found answer is (extrefs_from bytes found are (sym is)) (extrefs_to bytes)
    (λ h. all_to (is_extref_at hash) (λ ref. extref_hash_of ref.parent ref.name ≡ hash) (λ ref. eqb-true (extref_hash_of ref.parent ref.name) hash) found (sym test ∙ h))
    (λ h. test ∙ all_from (is_extref_at hash) (λ ref. extref_hash_of ref.parent ref.name ≡ hash) (λ ref. eq-eqb (extref_hash_of ref.parent ref.name) hash) found h)

pub extrefs_err : (hash : ℕ) (bytes : List ℕ) (fault : ItemFault) → Err fault ≡ extrefs_of bytes → IsTrue true ↔ AreExtRefsAt hash bytes
extrefs_err hash bytes fault is = read_err (IsExtRefs bytes) (AllByRecursion (λ ref. extref_hash_of ref.parent ref.name ≡ hash)) (extrefs_of bytes) fault is (extrefs_to bytes)

-- the same of entries, by a test of one of them
entries_ok : (kind : ℕ) (test : EntryValue → Bool) (P : EntryValue → Type 0) → ((e : EntryValue) → test e ≡ true → P e) → ((e : EntryValue) → P e → test e ≡ true) → (bytes : List ℕ) (found : List EntryValue) (answer : Bool)
    → IsBytes bytes → Ok found ≡ entries_of kind bytes → answer ≡ list_all test found → IsTrue answer ↔ ((entries : List EntryValue) → IsEntries kind bytes entries → AllByRecursion P entries)
entries_ok kind test P means passes bytes found answer are is says =
    read_ok (IsEntries kind bytes) (AllByRecursion P) (entries_of kind bytes) found answer is (entries_from kind bytes found are (sym is)) (entries_to kind bytes)
    (λ h. all_to test P means found (sym says ∙ h)) (λ h. says ∙ all_from test P passes found h)

pub entries_err : (kind : ℕ) (P : EntryValue → Type 0) (bytes : List ℕ) (fault : ItemFault) → Err fault ≡ entries_of kind bytes → IsTrue true ↔ ((entries : List EntryValue) → IsEntries kind bytes entries → AllByRecursion P entries)
entries_err kind P bytes fault is = read_err (IsEntries kind bytes) (AllByRecursion P) (entries_of kind bytes) fault is (entries_to kind bytes)

pub hashed_ok : (hash : ℕ) (bytes : List ℕ) (found : List EntryValue) (answer : Bool) → IsBytes bytes → Ok found ≡ entries_of dir_item bytes → answer ≡ list_all (is_entry_at hash) found → IsTrue answer ↔ AreEntriesAt hash bytes
hashed_ok hash bytes found answer =
    entries_ok dir_item (is_entry_at hash) (λ e. (name_hash_of e.name ≡ hash) × LeadsToInode e)
    (λ e h. let p = and_parts _ _ h in (eqb-true (name_hash_of e.name) hash p.0, to_inode e p.1)) (λ e p. and_from _ _ (eq-eqb (name_hash_of e.name) hash p.0) (from_inode e p.1)) bytes found answer

pub indexed_ok : (bytes : List ℕ) (found : List EntryValue) (answer : Bool) → IsBytes bytes → Ok found ≡ entries_of dir_index bytes → answer ≡ list_all leads_to_inode found → IsTrue answer ↔ IsEntryAtIndex bytes
indexed_ok bytes found answer = entries_ok dir_index leads_to_inode LeadsToInode to_inode from_inode bytes found answer

pub attributes_ok : (hash : ℕ) (bytes : List ℕ) (found : List EntryValue) (answer : Bool) → IsBytes bytes → Ok found ≡ entries_of xattr_item bytes → answer ≡ list_all (is_attribute_at hash) found → IsTrue answer ↔ AreAttributesAt hash bytes
attributes_ok hash bytes found answer =
    entries_ok xattr_item (is_attribute_at hash) (λ e. (name_hash_of e.name ≡ hash) × LeadsNowhere e)
    (λ e h. let p = and_parts _ _ h in (eqb-true (name_hash_of e.name) hash p.0, to_nowhere e p.1)) (λ e p. and_from _ _ (eq-eqb (name_hash_of e.name) hash p.0) (from_nowhere e p.1)) bytes found answer

-- ---- the key, by its type

pub its_inode : (key : Key) (bytes : List ℕ) → key.kind ≡ inode_item → (key.offset ≡ 0) ↔ HasItsKey key bytes
its_inode key bytes kind = (λ h. record { inode = λ e. h; extrefs = λ e. absurd (omega arith); hashed = λ e. absurd (omega arith); indexed = λ e. absurd (omega arith); attributes = λ e. absurd (omega arith) }, λ right. right.inode kind)

pub its_extrefs : (key : Key) (bytes : List ℕ) → key.kind ≡ inode_extref → AreExtRefsAt key.offset bytes ↔ HasItsKey key bytes
its_extrefs key bytes kind = (λ h. record { inode = λ e. absurd (omega arith); extrefs = λ e. h; hashed = λ e. absurd (omega arith); indexed = λ e. absurd (omega arith); attributes = λ e. absurd (omega arith) }, λ right. right.extrefs kind)

pub its_hashed : (key : Key) (bytes : List ℕ) → key.kind ≡ dir_item → AreEntriesAt key.offset bytes ↔ HasItsKey key bytes
its_hashed key bytes kind = (λ h. record { inode = λ e. absurd (omega arith); extrefs = λ e. absurd (omega arith); hashed = λ e. h; indexed = λ e. absurd (omega arith); attributes = λ e. absurd (omega arith) }, λ right. right.hashed kind)

pub its_indexed : (key : Key) (bytes : List ℕ) → key.kind ≡ dir_index → IsEntryAtIndex bytes ↔ HasItsKey key bytes
its_indexed key bytes kind = (λ h. record { inode = λ e. absurd (omega arith); extrefs = λ e. absurd (omega arith); hashed = λ e. absurd (omega arith); indexed = λ e. h; attributes = λ e. absurd (omega arith) }, λ right. right.indexed kind)

pub its_attributes : (key : Key) (bytes : List ℕ) → key.kind ≡ xattr_item → AreAttributesAt key.offset bytes ↔ HasItsKey key bytes
its_attributes key bytes kind = (λ h. record { inode = λ e. absurd (omega arith); extrefs = λ e. absurd (omega arith); hashed = λ e. absurd (omega arith); indexed = λ e. absurd (omega arith); attributes = λ e. h }, λ right. right.attributes kind)

pub same_as : {A B C : Type 0} → A ↔ B → B ↔ C → A ↔ C
same_as one two = (λ a. two.0 (one.0 a), λ c. one.1 (two.1 c))
