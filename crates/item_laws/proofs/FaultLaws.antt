-- An item has no fault exactly where the grammar of its type spells its bytes.
use Rattle.std.proofs.Common.{if◌then◌else◌, ◌≡◌, ◌≢◌, ◌⊎◌, ◌==◌, ◌||◌, ℕ, Bool, true, false, cond, List, Option, Some, None, Result, Ok, Err, refl, sym, ap, ◌∙◌, inl, inr}
use Rattle.std.proofs.lemmas.Bool.{cases_Bool, or_cases, or_left, or_right, eqb-true, eq-eqb, ne_eqb}
use Rattle.blk_base.specs.declared.fault.ItemFault.{ItemFault}
use Rattle.blk_base.specs.declared.key.Key.{Key}
use Rattle.blk_base.specs.Bytes.{IsBytes}
use Rattle.blk_base.specs.Keys.{inode_item, inode_ref, inode_extref, xattr_item, dir_log_index, dir_item, dir_index, extent_data}
use Rattle.blk_base.specs.Items.{inode_of, range_of}
use Rattle.blk_base.specs.Entries.{refs_of, extrefs_of, entries_of}
use Rattle.blk_base.specs.Extents.{ExtentValue, IsExtent, IsLogExtent, extent_in, extent_of, log_extent_of}
use Rattle.blk_base.specs.ItemFaults.{fault_of, fault_in, is_entries_kind, IsEntriesKind, IsSpelledWith, item_fault, log_item_fault, IsSpelled, IsLogSpelled}
use Rattle.format_laws.specs.Items.{IsInode-from_read, inode_of-Ok, IsRange-from_read, range_of-Ok}
use Rattle.item_laws.specs.Refs.{refs_from, refs_to}
use Rattle.item_laws.specs.ExtRefs.{extrefs_from, extrefs_to}
use Rattle.item_laws.specs.Directories.{entries_from, entries_to}
use Rattle.item_laws.specs.ExtentLaws.{extent_from, extent_to, log_extent_from, log_extent_to}

-- what has no fault was read
read_without_fault : {V : Type 0} (r : Result V ItemFault) → fault_of r ≡ None → (value : V) × (r ≡ Ok value)
read_without_fault (Ok value) h = (value, refl)
read_without_fault (Err fault) h = cc

-- what was read has no fault
no_fault : {V : Type 0} (r : Result V ItemFault) (value : V) → r ≡ Ok value → fault_of r ≡ None
no_fault r value h = ap fault_of h

either : (b : Bool) (one two : Option ItemFault) → (b ≡ true → one ≡ None) → (b ≡ false → two ≡ None) → cond b one two ≡ None
either true one two f g = f refl
either false one two f g = g refl

kind_of_entries : (kind : ℕ) → is_entries_kind kind ≡ true → IsEntriesKind kind
kind_of_entries kind h = elim (or_cases _ _ h) [
  | inl named ↦ elim (or_cases _ _ named) [ inl hashed ↦ inl (eqb-true _ _ hashed) | inr indexed ↦ inr (inl (eqb-true _ _ indexed)) ]
  | inr attribute ↦ inr (inr (eqb-true _ _ attribute))
]

-- which of these an item of this type has
abbrev picked : ℕ → (inode refs extrefs entries extent range : Option ItemFault) → Option ItemFault
picked kind inode refs extrefs entries extent range =
    if kind == inode_item then inode else
    if kind == inode_ref then refs else
    if kind == inode_extref then extrefs else
    if is_entries_kind kind then entries else
    if kind == extent_data then extent else
    if kind == dir_log_index then range else None

pick : (kind wanted : ℕ) (a b c d e f : Option ItemFault) → kind ≡ wanted → picked kind a b c d e f ≡ picked wanted a b c d e f
pick kind wanted a b c d e f h = rw h refl

pick_entries : (kind : ℕ) (a b c d e f : Option ItemFault) → IsEntriesKind kind → picked kind a b c d e f ≡ d
pick_entries kind a b c d e f (inl k) = pick kind dir_item a b c d e f k
pick_entries kind a b c d e f (inr (inl k)) = pick kind dir_index a b c d e f k
pick_entries kind a b c d e f (inr (inr k)) = pick kind xattr_item a b c d e f k

-- the readers of extents, in a log or in the tree of a subvolume, say what this relation says
abbrev Reads : Bool → (Key → List ℕ → ExtentValue → Type 0) → Type 0
Reads holes Says = (key : Key) (bytes : List ℕ) (value : ExtentValue) → (extent_in holes key bytes ≡ Ok value → Says key bytes value) × (Says key bytes value → extent_in holes key bytes ≡ Ok value)

spelled_from : (holes : Bool) (Says : Key → List ℕ → ExtentValue → Type 0) → Reads holes Says → (key : Key) (bytes : List ℕ) → IsBytes bytes → fault_in holes key bytes ≡ None → IsSpelledWith Says key bytes
spelled_from holes Says reads key bytes b h = record {
  inode = λ k. let r = read_without_fault (inode_of bytes) (of_kind inode_item k) in (r.0, IsInode-from_read bytes r.0 r.1);
  refs = λ k. let r = read_without_fault (refs_of key bytes) (of_kind inode_ref k) in (r.0, refs_from key bytes r.0 b r.1);
  extrefs = λ k. let r = read_without_fault (extrefs_of bytes) (of_kind inode_extref k) in (r.0, extrefs_from bytes r.0 b r.1);
  entries = λ k. let r = read_without_fault (entries_of key.kind bytes) (sym (pick_entries key.kind (fault_of (inode_of bytes)) (fault_of (refs_of key bytes)) (fault_of (extrefs_of bytes)) (fault_of (entries_of key.kind bytes)) (fault_of (extent_in holes key bytes)) (fault_of (range_of bytes)) k) ∙ h) in (r.0, entries_from key.kind bytes r.0 b r.1);
  extent = λ k. let r = read_without_fault (extent_in holes key bytes) (of_kind extent_data k) in (r.0, (reads key bytes r.0).0 r.1);
  range = λ k. let r = read_without_fault (range_of bytes) (of_kind dir_log_index k) in (r.0, IsRange-from_read bytes r.0 r.1);
}
  where
    of_kind : (wanted : ℕ) → key.kind ≡ wanted → picked wanted (fault_of (inode_of bytes)) (fault_of (refs_of key bytes)) (fault_of (extrefs_of bytes)) (fault_of (entries_of key.kind bytes)) (fault_of (extent_in holes key bytes)) (fault_of (range_of bytes)) ≡ None
    of_kind wanted k = sym (pick key.kind wanted (fault_of (inode_of bytes)) (fault_of (refs_of key bytes)) (fault_of (extrefs_of bytes)) (fault_of (entries_of key.kind bytes)) (fault_of (extent_in holes key bytes)) (fault_of (range_of bytes)) k) ∙ h

fault_from : (holes : Bool) (Says : Key → List ℕ → ExtentValue → Type 0) → Reads holes Says → (key : Key) (bytes : List ℕ) → IsSpelledWith Says key bytes → fault_in holes key bytes ≡ None
fault_from holes Says reads key bytes s =
    either _ _ _ (λ k. let x = s.inode (eqb-true _ _ k) in no_fault (inode_of bytes) x.0 (inode_of-Ok bytes x.0 x.1)) (λ _.
    either _ _ _ (λ k. let x = s.refs (eqb-true _ _ k) in no_fault (refs_of key bytes) x.0 (refs_to key bytes x.0 x.1)) (λ _.
    either _ _ _ (λ k. let x = s.extrefs (eqb-true _ _ k) in no_fault (extrefs_of bytes) x.0 (extrefs_to bytes x.0 x.1)) (λ _.
    either _ _ _ (λ k. let x = s.entries (kind_of_entries _ k) in no_fault (entries_of key.kind bytes) x.0 (entries_to key.kind bytes x.0 x.1)) (λ _.
    either _ _ _ (λ k. let x = s.extent (eqb-true _ _ k) in no_fault (extent_in holes key bytes) x.0 ((reads key bytes x.0).1 x.1)) (λ _.
    either _ _ _ (λ k. let x = s.range (eqb-true _ _ k) in no_fault (range_of bytes) x.0 (range_of-Ok bytes x.0 x.1)) (λ _. refl))))))

-- ---- in the tree of a subvolume, and in a log

reads_extents : Reads false IsExtent
unfolding extent_of
reads_extents key bytes value = (extent_from key bytes value, extent_to key bytes value)

reads_log_extents : Reads true IsLogExtent
unfolding log_extent_of
reads_log_extents key bytes value = (log_extent_from key bytes value, log_extent_to key bytes value)

pub item_spelled : (key : Key) (bytes : List ℕ) → IsBytes bytes → item_fault key bytes ≡ None → IsSpelled key bytes
unfolding item_fault
item_spelled key bytes b h = spelled_from false IsExtent reads_extents key bytes b h

pub item_faultless : (key : Key) (bytes : List ℕ) → IsSpelled key bytes → item_fault key bytes ≡ None
unfolding item_fault
item_faultless key bytes s = fault_from false IsExtent reads_extents key bytes s

pub log_item_spelled : (key : Key) (bytes : List ℕ) → IsBytes bytes → log_item_fault key bytes ≡ None → IsLogSpelled key bytes
unfolding log_item_fault
log_item_spelled key bytes b h = spelled_from true IsLogExtent reads_log_extents key bytes b h

pub log_item_faultless : (key : Key) (bytes : List ℕ) → IsLogSpelled key bytes → log_item_fault key bytes ≡ None
unfolding log_item_fault
log_item_faultless key bytes s = fault_from true IsLogExtent reads_log_extents key bytes s

-- an item that is no extent is read the same way in both
pub same_faults : (key : Key) (bytes : List ℕ) → key.kind ≢ extent_data → log_item_fault key bytes ≡ item_fault key bytes
unfolding log_item_fault item_fault
same_faults key bytes other = rw (ne_eqb _ _ other) refl
