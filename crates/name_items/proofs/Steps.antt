-- Steps that edits of names have in common: tests joined by or, keys of different types, and what bears a generation.
use Rattle.std.proofs.Common.{◌≡◌, ◌≢◌, ◌⊎◌, ◌∙◌, ◌||◌, ℕ, Bool, true, false, List, [], ◌∷◌, nat_eq, refl, sym, ap, subst, inl, inr, arith}
use Rattle.std.specs.Prelude.{All, Contains}
use Rattle.std.proofs.lemmas.Bool.{eq-eqb}
use Rattle.std.proofs.lemmas.List.Elements.{All-contains_itself, All-weaker}
use Rattle.blk_base.specs.declared.key.Key.{Key}
use Rattle.blk_base.specs.Crc.{extref_hash_of, name_hash_of}
use Rattle.blk_base.specs.Entries.{EntryValue, IsEntries}
use Rattle.blk_base.specs.Items.{InodeValue, IsInode}
use Rattle.blk_base.specs.Keys.{dir_index, dir_item, inode_extref, inode_item, inode_ref}
use Rattle.blk_base.specs.Leaf.{Item}
use Rattle.flat_model.specs.Names.{FlatName}
use Rattle.volume_image.specs.Subvolume.{make_key}
use Rattle.volume_image.proofs.Spellings.{entries_are_one}
use Rattle.table_volume.specs.Edited.{HadEntry}
use Rattle.table_volume.specs.Keyed.{is_touched}
use Rattle.item_edit.specs.ItemEdit.{BearsUnder}
use Rattle.name_items.specs.Names.{hashed_key, indexed_key, ref_key}

pub or_cases : (a b : Bool) → (a || b) ≡ true → (a ≡ true) ⊎ (b ≡ true)
or_cases true b h = inl refl
or_cases false b h = inr h

-- ---- keys

pub key_is : (key : Key) (objectid kind offset : ℕ) → objectid ≡ key.objectid → key.kind ≡ kind → offset ≡ key.offset → key ≡ make_key objectid kind offset
key_is key objectid kind offset o k f =
    λ i. record { objectid = sym o i; kind = k i; offset = sym f i }

pub other_kind : (a b : Key) → a.kind ≢ b.kind → a ≢ b
other_kind a b ne same = ne (ap (λ (k : Key). k.kind) same)

near_key : (name : FlatName) → name.near ≡ true → ref_key name ≡ make_key name.ino inode_ref name.dir
near_key name near = rw near refl

far_key : (name : FlatName) → name.near ≡ false → ref_key name ≡ make_key name.ino inode_extref (extref_hash_of name.dir name.bytes)
far_key name far = rw far refl

-- the type of the key of a name's inode
pub ref_kinds : (name : FlatName) (b : Bool) → name.near ≡ b → ((ref_key name).kind ≡ inode_ref) ⊎ ((ref_key name).kind ≡ inode_extref)
ref_kinds name true near = inl (ap (λ (k : Key). k.kind) (near_key name near))
ref_kinds name false far = inr (ap (λ (k : Key). k.kind) (far_key name far))

pub not_ref : (name : FlatName) (key : Key) → key.kind ≢ inode_ref → key.kind ≢ inode_extref → key ≢ ref_key name
not_ref name key near far same = elim (ref_kinds name name.near refl) [
  | inl is ↦ near (ap (λ (k : Key). k.kind) same ∙ is)
  | inr is ↦ far (ap (λ (k : Key). k.kind) same ∙ is)
]

pub ref_is_near : (name : FlatName) → name.near ≡ true → ref_key name ≡ make_key name.ino inode_ref name.dir
ref_is_near name near = near_key name near

pub ref_is_far : (name : FlatName) → name.near ≡ false → ref_key name ≡ make_key name.ino inode_extref (extref_hash_of name.dir name.bytes)
ref_is_far name far = far_key name far

-- ---- a name's keys tell of it

pub touches_near : (name : FlatName) → name.near ≡ true → is_touched (name ∷ []) [] (make_key name.ino inode_ref name.dir) ≡ true
touches_near name near = rw (near, eq-eqb name.ino name.ino refl, eq-eqb name.dir name.dir refl) refl

pub touches_far : (name : FlatName) → name.near ≡ false → is_touched (name ∷ []) [] (make_key name.ino inode_extref (extref_hash_of name.dir name.bytes)) ≡ true
touches_far name far =
    rw (far, eq-eqb name.ino name.ino refl, eq-eqb (extref_hash_of name.dir name.bytes) (extref_hash_of name.dir name.bytes) refl) refl

pub touches_ref : (name : FlatName) (b : Bool) → name.near ≡ b → is_touched (name ∷ []) [] (ref_key name) ≡ true
touches_ref name true near = ap (is_touched (name ∷ []) []) (near_key name near) ∙ touches_near name near
touches_ref name false far = ap (is_touched (name ∷ []) []) (far_key name far) ∙ touches_far name far

pub touches_hashed : (name : FlatName) → is_touched (name ∷ []) [] (hashed_key name) ≡ true
touches_hashed name = rw (eq-eqb name.dir name.dir refl, eq-eqb (name_hash_of name.bytes) (name_hash_of name.bytes) refl) refl

pub touches_indexed : (name : FlatName) → is_touched (name ∷ []) [] (indexed_key name) ≡ true
touches_indexed name = rw (eq-eqb name.dir name.dir refl, eq-eqb name.index name.index refl) refl

pub touches_inode : (name : FlatName) → is_touched (name ∷ []) [] (make_key name.ino inode_item 0) ≡ true
touches_inode name = rw (eq-eqb name.ino name.ino refl) refl

or_true : (a : Bool) → (a || true) ≡ true
or_true true = refl
or_true false = refl

pub touches_dir : (name : FlatName) → is_touched (name ∷ []) [] (make_key name.dir inode_item 0) ≡ true
touches_dir name = rw (eq-eqb name.dir name.dir refl, or_true (nat_eq name.ino name.dir)) refl

-- ---- what bears a generation

pub ref_bears : (running : ℕ) (items : List Item) (key : Key) (bytes : List ℕ) → (key.kind ≡ inode_ref) ⊎ (key.kind ≡ inode_extref) → BearsUnder running items key bytes
ref_bears running items key bytes kinds = record {
  inode = λ k. absurd (grind (arith, kinds, k));
  entries = λ found k spelled. absurd (grind (arith, kinds, k));
  extent = λ k. absurd (grind (arith, kinds, k));
}

pub inode_bears : (running : ℕ) (items : List Item) (ino : ℕ) (bytes : List ℕ) (value : InodeValue) → IsInode bytes value → value.transid ≡ running → BearsUnder running items (make_key ino inode_item 0) bytes
inode_bears running items ino bytes value spelled is = record {
  inode = λ k. ap (λ (v : InodeValue). v.transid) spelled.value ∙ is;
  entries = λ found k s. absurd (grind (arith, k));
  extent = λ k. absurd (omega (arith, k));
}

-- an item of entries of a directory, each of which was there or is of the transaction
pub entries_bear : (running kind : ℕ) (items : List Item) (key : Key) (bytes : List ℕ) (found : List EntryValue) → key.kind ≡ kind → (kind ≡ dir_item) ⊎ (kind ≡ dir_index) → IsEntries kind bytes found
    → ((entry : EntryValue) → Contains found entry → HadEntry items key entry ⊎ (entry.transid ≡ running)) → BearsUnder running items key bytes
entries_bear running kind items key bytes found is kinds spelled each = record {
  inode = λ k. absurd (grind (arith, kinds, is, k));
  entries = λ others k s.
      let same : found ≡ others = entries_are_one kind bytes found others spelled (subst (λ (n : ℕ). IsEntries n bytes others) is s) in
      subst (λ (l : List EntryValue). All (λ entry. HadEntry items key entry ⊎ (entry.transid ≡ running)) l) same (All-weaker (Contains found) (λ (entry : EntryValue). HadEntry items key entry ⊎ (entry.transid ≡ running)) each found (All-contains_itself found));
  extent = λ k. absurd (grind (arith, kinds, is, k));
}
