-- Entries under a key are those of the item there.
use Rattle.std.proofs.Common.{◌≡◌, ◌↔◌, ℕ, Bool, true, false, List, [], ◌∷◌, Contains, Some, None, sym, ap, subst, ◌∙◌, inl, inr}
use Rattle.std.specs.Prelude.{◌&&◌, ◌||◌, IsTrue}
use Rattle.std.specs.List.{list_any}
use Rattle.std.proofs.lemmas.Bool.{and_from, and_parts, cases_Bool, eq-eqb, eqb-true}
use Rattle.std.proofs.lemmas.Slice.Eq.{bytes_eq-Decides}
use Rattle.blk_base.specs.declared.key.Key.{Key}
use Rattle.blk_base.specs.Crc.{name_hash_of}
use Rattle.blk_base.specs.Entries.{EntryValue, entries_of}
use Rattle.blk_base.specs.Keys.{dir_index, dir_item}
use Rattle.blk_base.specs.Leaf.{Item}
use Rattle.blk_base.specs.Trees.{ItemsRise}
use Rattle.flat_model.specs.Names.{FlatName}
use Rattle.flat_model.specs.Volume.{is_dir_at}
use Rattle.image_faults.specs.Faulty.{IsRightRef}
use Rattle.image_faults.specs.Said.{read_list, said_sub}
use Rattle.image_faults.proofs.Readings.{entry_from, entry_in}
use Rattle.tree_range.specs.Between.{data_under}
use Rattle.tree_range.proofs.Found.{contains_under}
use Rattle.volume_image.specs.Subvolume.{Data, make_key}
use Rattle.volume_image.proofs.Lists.{in_cons, in_nothing}
use Rattle.volume_image.proofs.Reaches.{head_in, tail_in}
use Rattle.inode_lines.specs.Refs.{HasEntry, is_named}
use Rattle.inode_lines.proofs.Kinded.{under_in}

-- ---- among entries

record IsAmong (entries : List EntryValue) (name : List ℕ) (ino : ℕ) : Type 0 where
  entry : EntryValue
  there : Contains entries entry
  name_is : entry.name ≡ name
  ino_is : entry.target.objectid ≡ ino

named_to : (name : List ℕ) (ino : ℕ) (entry : EntryValue) → is_named name ino entry ≡ true → (entry.name ≡ name) × (entry.target.objectid ≡ ino)
named_to name ino entry h = let p = and_parts _ _ h in ((bytes_eq-Decides entry.name name).0 p.0, eqb-true entry.target.objectid ino p.1)

named_from : (name : List ℕ) (ino : ℕ) (entry : EntryValue) → entry.name ≡ name → entry.target.objectid ≡ ino → is_named name ino entry ≡ true
named_from name ino entry same leads = and_from _ _ ((bytes_eq-Decides entry.name name).1 same) (eq-eqb entry.target.objectid ino leads)

found : (name : List ℕ) (ino : ℕ) (entries : List EntryValue) → list_any (is_named name ino) entries ≡ true → IsAmong entries name ino
found name ino [] h = absurd cc
found name ino (entry ∷ entries) h = elim (cases_Bool (is_named name ino entry)) [
  | inl here ↦ (let p = named_to name ino entry here in record { entry = entry; there = head_in entry entries; name_is = p.0; ino_is = p.1 })
  | inr other ↦
      let later = found name ino entries (sym (ap (λ (b : Bool). b || list_any (is_named name ino) entries) other) ∙ h) in
      record { entry = later.entry; there = tail_in entry later.entry entries later.there; name_is = later.name_is; ino_is = later.ino_is }
]

find : (name : List ℕ) (ino : ℕ) (entries : List EntryValue) (wanted : EntryValue) → Contains entries wanted → wanted.name ≡ name → wanted.target.objectid ≡ ino → list_any (is_named name ino) entries ≡ true
find name ino [] wanted c same leads = absurd (in_nothing wanted c)
find name ino (entry ∷ entries) wanted c same leads = elim (cases_Bool (is_named name ino entry)) [
  | inl here ↦ ap (λ (b : Bool). b || list_any (is_named name ino) entries) here
  | inr other ↦ ap (λ (b : Bool). b || list_any (is_named name ino) entries) other ∙ elim (in_cons entry wanted entries c) [
    | inl here ↦ absurd (clash (sym other ∙ subst (λ (e : EntryValue). is_named name ino e ≡ true) (sym here) (named_from name ino wanted same leads)))
    | inr later ↦ find name ino entries wanted later same leads
  ]
]
  where
    clash : false ≡ true → ⊥
    clash h = cc

-- ---- under a key

pub entry_there : (items : List Item) (key : Key) (name bytes : List ℕ) (ino : ℕ) (answer : Bool) → ItemsRise items → Some bytes ≡ data_under key items → answer ≡ list_any (is_named name ino) (read_list (entries_of key.kind bytes)) → IsTrue answer ↔ HasEntry items key name ino
entry_there items key name bytes ino answer rise is says = (
  λ h.
      let e = found name ino (read_list (entries_of key.kind bytes)) (sym says ∙ h) in
      (e.entry, entry_in items key.kind key.objectid key.offset bytes e.entry (contains_under items key bytes (sym is)) e.there, e.name_is, e.ino_is),
  λ has.
      let e = entry_from items key.kind key.objectid (key.offset, has.0) has.1 in
      let also = under_in items key e.bytes rise e.there in
      let same : e.bytes ≡ bytes = same_bytes e.bytes bytes (sym also ∙ sym is) in
      says ∙ find name ino (read_list (entries_of key.kind bytes)) has.0 (subst (λ (b : List ℕ). Contains (read_list (entries_of key.kind b)) has.0) same e.entry) has.2 has.3,
)
  where
    same_bytes : (a b : List ℕ) → Some a ≡ Some b → a ≡ b
    same_bytes a b h = cc

pub entry_absent : (items : List Item) (key : Key) (name : List ℕ) (ino : ℕ) → ItemsRise items → None ≡ data_under key items → IsTrue false ↔ HasEntry items key name ino
entry_absent items key name ino rise is = (
  λ h. absurd cc,
  λ has.
      let e = entry_from items key.kind key.objectid (key.offset, has.0) has.1 in
      absurd (clash e.bytes (is ∙ under_in items key e.bytes rise e.there)),
)
  where
    clash : (a : List ℕ) → None ≡ Some a → ⊥
    clash a h = cc

-- ---- refs

pub ref_is : (items : List Item) (blocks : Data) (name : FlatName) (hashed indexed dir : Bool) → IsTrue hashed ↔ HasEntry items (make_key name.dir dir_item (name_hash_of name.bytes)) name.bytes name.ino
    → IsTrue indexed ↔ HasEntry items (make_key name.dir dir_index name.index) name.bytes name.ino → dir ≡ is_dir_at (said_sub items blocks) name.dir
    → IsTrue (hashed && indexed && dir) ↔ IsRightRef items (said_sub items blocks) name
ref_is items blocks name hashed indexed dir one two three = (
  λ h.
      let p = and_parts _ _ h in
      let q = and_parts _ _ p.0 in
      let a = one.0 q.0 in
      let b = two.0 q.1 in
      record { hashed = (a.0, a.1, record { bytes = a.2; ino = a.3 }); indexed = (b.0, b.1, record { bytes = b.2; ino = b.3 }); parent = sym three ∙ p.1 },
  λ right.
      and_from _ _ (and_from _ _ (one.1 (right.hashed.0, right.hashed.1, right.hashed.2.bytes, right.hashed.2.ino)) (two.1 (right.indexed.0, right.indexed.1, right.indexed.2.bytes, right.indexed.2.ino))) (three ∙ right.parent),
)
