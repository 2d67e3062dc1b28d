-- What stands among what the items say, and in which item.
use Rattle.std.proofs.Common.{◌≡◌, ◌<◌, ◌+◌, ◌*◌, ◌/◌, ◌==◌, ◌&&◌, ◌⊎◌, ℕ, zero, suc, Bool, true, false, not, cond, List, [], ◌∷◌, filter, map, flat_map, Contains, Option, Some, None, Result, Ok, Err, refl, sym, ap, subst, ◌∙◌, arith, inl, inr}
use Rattle.std.proofs.lemmas.Bool.{and_parts, and_from, eqb-true, eq-eqb, not-true, not_from_false}
use Rattle.std.proofs.lemmas.List.Elements.{Contains-append_left, Contains-append_right, Contains-append_cases}
use Rattle.std.specs.Cmp.{nat_cmp_total}
use Rattle.std.specs.FinMap.{get, nat_cmp-IsAntisymmetric}
use Rattle.blk_base.specs.declared.key.Key.{Key}
use Rattle.blk_base.specs.declared.fault.ItemFault.{ItemFault}
use Rattle.blk_base.specs.Keys.{inode_item, inode_ref, inode_extref, extent_data}
use Rattle.blk_base.specs.Leaf.{Item}
use Rattle.blk_base.specs.Items.{InodeValue, inode_of}
use Rattle.blk_base.specs.Entries.{RefValue, ExtRefValue, EntryValue, refs_of, extrefs_of, entries_of}
use Rattle.blk_base.specs.Extents.{ExtentValue, Inline, Regular, Hole, extent_of}
use Rattle.flat_model.specs.Names.{FlatName, is_name_set, name_set}
use Rattle.flat_model.specs.Records.{InodeRecord}
use Rattle.flat_model.proofs.NameSets.{add_name_cases, add_name_has, add_name_keeps, is_name_set_add}
use Rattle.volume_image.specs.Subvolume.{Data, make_key, ref_of, extref_of}
use Rattle.volume_image.specs.Tree.{ItemsRise}
use Rattle.volume_image.proofs.Lists.{in_nothing, in_cons}
use Rattle.volume_image.proofs.Reaches.{head_in}
use Rattle.volume_image.proofs.Members.{in_filter, filter_in, in_map, map_in, flat_map_in}
use Rattle.image_faults.specs.Said.{PlacedEntry, read_list, is_own_ref, near_name, far_name, names_in, said_names, is_item_of, entries_at, block_there, run_blocks, extent_blocks, blocks_in, inline_content, said_target, said_record, record_by, inode_in, said_inodes}
use Rattle.image_faults.specs.Lists.{in_flat_map, taken, given}
use Rattle.image_faults.proofs.Rising.{key_once}

-- ---- sets of names

pub name_set_has : (names : List FlatName) (name : FlatName) → Contains names name → Contains (name_set names) name
name_set_has [] name c = absurd (in_nothing name c)
name_set_has (other ∷ names) name c = elim (in_cons other name names c) [
  | inl here ↦ subst (λ (n : FlatName). Contains (name_set (other ∷ names)) n) here (add_name_has other (name_set names))
  | inr there ↦ add_name_keeps other (name_set names) name (name_set_has names name there)
]

pub name_set_gives : (names : List FlatName) (name : FlatName) → Contains (name_set names) name → Contains names name
name_set_gives [] name c = c
name_set_gives (other ∷ names) name c = elim (add_name_cases other (name_set names) name c) [
  | inl here ↦ subst (λ (n : FlatName). Contains (other ∷ names) n) here (head_in other names)
  | inr there ↦ Rattle.volume_image.proofs.Reaches.tail_in other name names (name_set_gives names name there)
]

name_set_in_order : (names : List FlatName) → is_name_set (name_set names) ≡ true
name_set_in_order [] = refl
name_set_in_order (name ∷ names) = is_name_set_add name (name_set names) (name_set_in_order names)

pub said_in_order : (items : List Item) → is_name_set (said_names items) ≡ true
unfolding said_names
said_in_order items = name_set_in_order (flat_map names_in items)

-- ---- names

-- the item with a near name
pub record NearItem (items : List Item) (name : FlatName) : Type 0 where
  pub bytes : List ℕ
  pub there : Contains items (make_key name.ino inode_ref name.dir, bytes)
  pub ref : Contains (read_list (refs_of (make_key name.ino inode_ref name.dir) bytes)) (ref_of name)
  pub near : name.near ≡ true
  pub other : is_own_ref (make_key name.ino inode_ref name.dir) (ref_of name) ≡ false

-- the item with a far name
pub record FarItem (items : List Item) (name : FlatName) : Type 0 where
  pub hash : ℕ
  pub bytes : List ℕ
  pub there : Contains items (make_key name.ino inode_extref hash, bytes)
  pub ref : Contains (read_list (extrefs_of bytes)) (extref_of name)
  pub far : name.near ≡ false

-- an item under a key of this type
pub as_made : (items : List Item) (key : Key) (bytes : List ℕ) (kind : ℕ) → key.kind ≡ kind → Contains items (key, bytes) → Contains items (make_key key.objectid kind key.offset, bytes)
as_made items key bytes kind k there = subst (λ (n : ℕ). Contains items (make_key key.objectid n key.offset, bytes)) k there

module _ (items : List Item) where
  pub near_said : (ino dir : ℕ) (bytes : List ℕ) (ref : RefValue) → Contains items (make_key ino inode_ref dir, bytes) → Contains (read_list (refs_of (make_key ino inode_ref dir) bytes)) ref
      → is_own_ref (make_key ino inode_ref dir) ref ≡ false → Contains (said_names items) (near_name (make_key ino inode_ref dir) ref)
  unfolding said_names
  near_said ino dir bytes ref there has other =
      let key = make_key ino inode_ref dir in
      name_set_has (flat_map names_in items) (near_name key ref)
      (flat_map_in names_in items (key, bytes) (near_name key ref) there
      (map_in (near_name key) (filter (λ r. not (is_own_ref key r)) (read_list (refs_of key bytes))) ref (filter_in (λ r. not (is_own_ref key r)) (read_list (refs_of key bytes)) ref has (not_from_false _ other))))

  pub far_said : (ino hash : ℕ) (bytes : List ℕ) (ref : ExtRefValue) → Contains items (make_key ino inode_extref hash, bytes) → Contains (read_list (extrefs_of bytes)) ref
      → Contains (said_names items) (far_name (make_key ino inode_extref hash) ref)
  unfolding said_names
  far_said ino hash bytes ref there has =
      let key = make_key ino inode_extref hash in
      name_set_has (flat_map names_in items) (far_name key ref)
      (flat_map_in names_in items (key, bytes) (far_name key ref) there (map_in (far_name key) (read_list (extrefs_of bytes)) ref has))

  near_from : (ino dir : ℕ) (bytes : List ℕ) (name : FlatName) → Contains items (make_key ino inode_ref dir, bytes)
      → Contains (map (near_name (make_key ino inode_ref dir)) (filter (λ ref. not (is_own_ref (make_key ino inode_ref dir) ref)) (read_list (refs_of (make_key ino inode_ref dir) bytes)))) name → NearItem items name
  near_from ino dir bytes name there c =
      let key = make_key ino inode_ref dir in
      let found = in_map (near_name key) (filter (λ ref. not (is_own_ref key ref)) (read_list (refs_of key bytes))) name c in
      let kept = in_filter (λ ref. not (is_own_ref key ref)) (read_list (refs_of key bytes)) found.0 found.1 in
      subst (λ (n : FlatName). NearItem items n) found.2 (record { bytes = bytes; there = there; ref = kept.0; near = refl; other = not-true _ kept.1 })

  far_from : (ino hash : ℕ) (bytes : List ℕ) (name : FlatName) → Contains items (make_key ino inode_extref hash, bytes)
      → Contains (map (far_name (make_key ino inode_extref hash)) (read_list (extrefs_of bytes))) name → FarItem items name
  far_from ino hash bytes name there c =
      let key = make_key ino inode_extref hash in
      let found = in_map (far_name key) (read_list (extrefs_of bytes)) name c in
      subst (λ (n : FlatName). FarItem items n) found.2 (record { hash = hash; bytes = bytes; there = there; ref = found.1; far = refl })

  pub said_from : (name : FlatName) → Contains (said_names items) name → NearItem items name ⊎ FarItem items name
  unfolding said_names
  said_from name c =
      let found = in_flat_map names_in items name (name_set_gives (flat_map names_in items) name c) in
      go found.0.0.objectid found.0.0.kind found.0.0.offset found.0.1 found.1 (found.0.0.kind == inode_ref) refl (found.0.0.kind == inode_extref) refl found.2
    where
      go : (ino kind offset : ℕ) (bytes : List ℕ) → Contains items (make_key ino kind offset, bytes) → (a : Bool) → (kind == inode_ref) ≡ a → (b : Bool) → (kind == inode_extref) ≡ b
          → Contains (cond a (map (near_name (make_key ino kind offset)) (filter (λ ref. not (is_own_ref (make_key ino kind offset) ref)) (read_list (refs_of (make_key ino kind offset) bytes)))) (cond b (map (far_name (make_key ino kind offset)) (read_list (extrefs_of bytes))) [])) name
          → NearItem items name ⊎ FarItem items name
      go ino kind offset bytes there true e b d c =
          let k : kind ≡ inode_ref = eqb-true kind inode_ref e in
          inl (near_from ino offset bytes name (subst (λ (n : ℕ). Contains items (make_key ino n offset, bytes)) k there)
          (subst (λ (n : ℕ). Contains (map (near_name (make_key ino n offset)) (filter (λ ref. not (is_own_ref (make_key ino n offset) ref)) (read_list (refs_of (make_key ino n offset) bytes)))) name) k c))
      go ino kind offset bytes there false e true d c =
          let k : kind ≡ inode_extref = eqb-true kind inode_extref d in
          inr (far_from ino offset bytes name (subst (λ (n : ℕ). Contains items (make_key ino n offset, bytes)) k there) (subst (λ (n : ℕ). Contains (map (far_name (make_key ino n offset)) (read_list (extrefs_of bytes))) name) k c))
      go ino kind offset bytes there false e false d c = absurd (in_nothing name c)

-- ---- what a test of the key lets through

item_test : (kind ino : ℕ) → is_item_of kind ino (make_key ino kind 0) ≡ true
item_test kind ino = and_from _ _ (eq-eqb kind kind refl) (eq-eqb ino ino refl)

module _ {Y : Type 0} (items : List Item) (kind ino : ℕ) (f : Item → List Y) where
  -- what the items of this type and inode give
  abbrev of_items : Item → List Y
  of_items item = cond (is_item_of kind ino item.0) (f item) []

  of_items_in : (offset : ℕ) (bytes : List ℕ) (y : Y) → Contains items (make_key ino kind offset, bytes) → Contains (f (make_key ino kind offset, bytes)) y → Contains (flat_map of_items items) y
  of_items_in offset bytes y there c =
      flat_map_in of_items items (make_key ino kind offset, bytes) y there (subst (λ (b : Bool). Contains (cond b (f (make_key ino kind offset, bytes)) []) y) (sym (item_test kind ino)) c)

  in_of_items : (y : Y) → Contains (flat_map of_items items) y → (offset : ℕ) × (bytes : List ℕ) × Contains items (make_key ino kind offset, bytes) × Contains (f (make_key ino kind offset, bytes)) y
  in_of_items y c =
      let found = in_flat_map of_items items y c in
      go found.0.0.objectid found.0.0.kind found.0.0.offset found.0.1 found.1 (is_item_of kind ino found.0.0) refl found.2
    where
      go : (objectid type offset : ℕ) (bytes : List ℕ) → Contains items (make_key objectid type offset, bytes) → (b : Bool) → is_item_of kind ino (make_key objectid type offset) ≡ b
          → Contains (cond b (f (make_key objectid type offset, bytes)) []) y → (offset : ℕ) × (bytes : List ℕ) × Contains items (make_key ino kind offset, bytes) × Contains (f (make_key ino kind offset, bytes)) y
      go objectid type offset bytes there true e c =
          let parts = and_parts _ _ e in
          let item : ◌≡◌ {A = Item} (make_key objectid type offset, bytes) (make_key ino kind offset, bytes) = λ i. (record { objectid = eqb-true objectid ino parts.1 i; kind = eqb-true type kind parts.0 i; offset = offset }, bytes) in
          (offset, bytes, subst (Contains items) item there, subst (λ (o : Item). Contains (f o) y) item c)
      go objectid type offset bytes there false e c = absurd (in_nothing y c)

-- ---- entries

pub entry_in : (items : List Item) (kind ino offset : ℕ) (bytes : List ℕ) (e : EntryValue) → Contains items (make_key ino kind offset, bytes) → Contains (read_list (entries_of kind bytes)) e → Contains (entries_at items kind ino) (offset, e)
unfolding entries_at
entry_in items kind ino offset bytes e there c =
    of_items_in items kind ino (λ item. map (λ entry. (item.0.offset, entry)) (read_list (entries_of kind item.1))) offset bytes (offset, e) there
    (map_in (λ (entry : EntryValue). (offset, entry)) (read_list (entries_of kind bytes)) e c)

-- the item with an entry
pub record EntryItem (items : List Item) (kind ino offset : ℕ) (e : EntryValue) : Type 0 where
  pub bytes : List ℕ
  pub there : Contains items (make_key ino kind offset, bytes)
  pub entry : Contains (read_list (entries_of kind bytes)) e

pub entry_from : (items : List Item) (kind ino : ℕ) (p : PlacedEntry) → Contains (entries_at items kind ino) p → EntryItem items kind ino p.0 p.1
unfolding entries_at
entry_from items kind ino p c =
    let found = in_of_items items kind ino (λ item. map (λ entry. (item.0.offset, entry)) (read_list (entries_of kind item.1))) p c in
    let e = in_map (λ (entry : EntryValue). (found.0, entry)) (read_list (entries_of kind found.1)) p found.3 in
    subst (λ (q : PlacedEntry). EntryItem items kind ino q.0 q.1) e.2 (record { bytes = found.1; there = found.2; entry = e.1 })

-- ---- blocks

in_run_blocks : (blocks : Data) (count number at i : ℕ) (block : List ℕ) → i < count → blocks (at + 4096 * i) ≡ Some block → Contains (run_blocks blocks number at count) (number + i, block)
in_run_blocks blocks zero number at i block below is = absurd (omega arith)
in_run_blocks blocks (suc count) number at zero block below is =
    let here : blocks at ≡ Some block = ap blocks (let e : at ≡ at + 4096 * 0 = omega arith in e) ∙ is in
    Contains-append_left (block_there number (blocks at)) (run_blocks blocks (number + 1) (at + 4096) count) (number + 0, block)
    (subst (λ (o : Option (List ℕ)). Contains {X = ℕ × List ℕ} (block_there number o) (number + 0, block)) (sym here)
    (subst (λ (n : ℕ). Contains {X = ℕ × List ℕ} ((number, block) ∷ []) (n, block)) (let e : number ≡ number + 0 = omega arith in e) (head_in (number, block) [])))
in_run_blocks blocks (suc count) number at (suc i) block below is =
    Contains-append_right (block_there number (blocks at)) (run_blocks blocks (number + 1) (at + 4096) count) (number + suc i, block)
    (subst (λ (n : ℕ). Contains {X = ℕ × List ℕ} (run_blocks blocks (number + 1) (at + 4096) count) (n, block)) (let e : (number + 1) + i ≡ number + suc i = omega arith in e)
    (in_run_blocks blocks count (number + 1) (at + 4096) i block (omega arith) (ap blocks (let e : (at + 4096) + 4096 * i ≡ at + 4096 * suc i = omega arith in e) ∙ is)))

pub from_run_blocks : (blocks : Data) (count number at : ℕ) (n : ℕ) (block : List ℕ) → Contains (run_blocks blocks number at count) (n, block) → (i : ℕ) × (i < count) × (n ≡ number + i) × (blocks (at + 4096 * i) ≡ Some block)
from_run_blocks blocks zero number at n block c = absurd (in_nothing (n, block) c)
from_run_blocks blocks (suc count) number at n block c = elim (Contains-append_cases (block_there number (blocks at)) (run_blocks blocks (number + 1) (at + 4096) count) (n, block) c) [
  | inl here ↦ first (blocks at) refl here
  | inr there ↦
      let rest = from_run_blocks blocks count (number + 1) (at + 4096) n block there in
      let below = rest.1 in
      let place = rest.2 in
      (suc rest.0, omega arith, omega arith, ap blocks (let e : at + 4096 * suc rest.0 ≡ (at + 4096) + 4096 * rest.0 = omega arith in e) ∙ rest.3)
]
  where
    first : (o : Option (List ℕ)) → blocks at ≡ o → Contains (block_there number o) (n, block) → (i : ℕ) × (i < suc count) × (n ≡ number + i) × (blocks (at + 4096 * i) ≡ Some block)
    first None e d = absurd (in_nothing (n, block) d)
    first (Some b) e d = elim (in_cons (number, b) (n, block) [] d) [
      | inl same ↦
          let place : number ≡ n = ap (λ (z : ℕ × List ℕ). z.0) same in
          (0, omega arith, omega arith, ap blocks (let z : at + 4096 * 0 ≡ at = omega arith in z) ∙ e ∙ ap (λ (z : ℕ × List ℕ). Some z.1) same)
      | inr none ↦ absurd (in_nothing (n, block) none)
    ]

abbrev pub file_blocks_list : List Item → Data → ℕ → List (ℕ × List ℕ)
file_blocks_list items blocks ino = flat_map (blocks_in blocks ino) items

pub block_in : (items : List Item) (blocks : Data) (ino offset : ℕ) (bytes : List ℕ) (at from len i : ℕ) (block : List ℕ) → Contains items (make_key ino extent_data offset, bytes)
    → extent_of (make_key ino extent_data offset) bytes ≡ Ok (Regular at from len) → i < len / 4096 → blocks (at + 4096 * i) ≡ Some block → Contains (file_blocks_list items blocks ino) (offset / 4096 + i, block)
block_in items blocks ino offset bytes at from len i block there read below is =
    of_items_in items extent_data ino (λ item. extent_blocks blocks (item.0.offset / 4096) (extent_of item.0 item.1)) offset bytes (offset / 4096 + i, block) there
    (subst (λ (r : Result ExtentValue ItemFault). Contains (extent_blocks blocks (offset / 4096) r) (offset / 4096 + i, block)) (sym read) (in_run_blocks blocks (len / 4096) (offset / 4096) at i block below is))

-- the extent with a block
pub record BlockItem (items : List Item) (blocks : Data) (ino number : ℕ) (block : List ℕ) : Type 0 where
  pub offset : ℕ
  pub bytes : List ℕ
  pub there : Contains items (make_key ino extent_data offset, bytes)
  pub at : ℕ
  pub from : ℕ
  pub len : ℕ
  pub read : extent_of (make_key ino extent_data offset) bytes ≡ Ok (Regular at from len)
  pub i : ℕ
  pub below : i < len / 4096
  pub number_is : number ≡ offset / 4096 + i
  pub block_is : blocks (at + 4096 * i) ≡ Some block

pub block_from : (items : List Item) (blocks : Data) (ino number : ℕ) (block : List ℕ) → Contains (file_blocks_list items blocks ino) (number, block) → BlockItem items blocks ino number block
block_from items blocks ino number block c =
    let found = in_of_items items extent_data ino (λ item. extent_blocks blocks (item.0.offset / 4096) (extent_of item.0 item.1)) (number, block) c in
    go found.0 found.1 found.2 (extent_of (make_key ino extent_data found.0) found.1) refl found.3
  where
    go : (offset : ℕ) (bytes : List ℕ) → Contains items (make_key ino extent_data offset, bytes) → (r : Result ExtentValue ItemFault) → extent_of (make_key ino extent_data offset) bytes ≡ r
        → Contains (extent_blocks blocks (offset / 4096) r) (number, block) → BlockItem items blocks ino number block
    go offset bytes there (Ok (Regular at from len)) read d =
        let run = from_run_blocks blocks (len / 4096) (offset / 4096) at number block d in
        record { offset = offset; bytes = bytes; there = there; at = at; from = from; len = len; read = read; i = run.0; below = run.1; number_is = run.2; block_is = run.3 }
    go offset bytes there (Ok (Inline content)) read d = absurd (in_nothing (number, block) d)
    go offset bytes there (Ok (Hole len)) read d = absurd (in_nothing (number, block) d)
    go offset bytes there (Err fault) read d = absurd (in_nothing (number, block) d)

-- ---- targets

pub target_from : (items : List Item) (ino byte : ℕ) → Contains (said_target items ino) byte
    → (offset : ℕ) × (bytes : List ℕ) × Contains items (make_key ino extent_data offset, bytes) × (content : List ℕ) × (extent_of (make_key ino extent_data offset) bytes ≡ Ok (Inline content))
unfolding said_target
target_from items ino byte c =
    let found = in_of_items items extent_data ino (λ item. inline_content (extent_of item.0 item.1)) byte c in
    go found.0 found.1 found.2 (extent_of (make_key ino extent_data found.0) found.1) refl found.3
  where
    go : (offset : ℕ) (bytes : List ℕ) → Contains items (make_key ino extent_data offset, bytes) → (r : Result ExtentValue ItemFault) → extent_of (make_key ino extent_data offset) bytes ≡ r → Contains (inline_content r) byte
        → (offset : ℕ) × (bytes : List ℕ) × Contains items (make_key ino extent_data offset, bytes) × (content : List ℕ) × (extent_of (make_key ino extent_data offset) bytes ≡ Ok (Inline content))
    go offset bytes there (Ok (Inline content)) read d = (offset, bytes, there, content, read)
    go offset bytes there (Ok (Regular at from len)) read d = absurd (in_nothing byte d)
    go offset bytes there (Ok (Hole len)) read d = absurd (in_nothing byte d)
    go offset bytes there (Err fault) read d = absurd (in_nothing byte d)

-- ---- inodes

-- the inode item that says a record
pub record InodeItem (items : List Item) (blocks : Data) (ino : ℕ) (inode : InodeRecord) : Type 0 where
  pub bytes : List ℕ
  pub value : InodeValue
  pub there : Contains items (make_key ino inode_item 0, bytes)
  pub read : inode_of bytes ≡ Ok value
  pub is : inode ≡ said_record items blocks ino value

abbrev pub inode_list : List Item → Data → List (ℕ × InodeRecord)
inode_list items blocks = flat_map (inode_in items blocks) items

pub inode_listed : (items : List Item) (blocks : Data) (ino : ℕ) (inode : InodeRecord) → Contains (inode_list items blocks) (ino, inode) → InodeItem items blocks ino inode
inode_listed items blocks ino inode c =
    let found = in_flat_map (inode_in items blocks) items (ino, inode) c in
    go found.0.0.objectid found.0.0.kind found.0.0.offset found.0.1 found.1 ((found.0.0.kind == inode_item) && (found.0.0.offset == 0)) refl (inode_of found.0.1) refl found.2
  where
    go : (objectid kind offset : ℕ) (bytes : List ℕ) → Contains items (make_key objectid kind offset, bytes) → (b : Bool) → ((kind == inode_item) && (offset == 0)) ≡ b → (r : Result InodeValue ItemFault) → inode_of bytes ≡ r
        → Contains (cond b (record_by items blocks objectid r) []) (ino, inode) → InodeItem items blocks ino inode
    go objectid kind offset bytes there true e (Ok value) read c = elim (in_cons (objectid, said_record items blocks objectid value) (ino, inode) [] c) [
      | inl same ↦
          let parts = and_parts _ _ e in
          let number : objectid ≡ ino = ap (λ (z : ℕ × InodeRecord). z.0) same in
          let key : make_key objectid kind offset ≡ make_key ino inode_item 0 = λ i. record { objectid = number i; kind = eqb-true kind inode_item parts.0 i; offset = eqb-true offset 0 parts.1 i } in
          record {
            bytes = bytes;
            value = value;
            there = subst (λ (k : Key). Contains items (k, bytes)) key there;
            read = read;
            is = sym (ap (λ (z : ℕ × InodeRecord). z.1) same) ∙ ap (λ (n : ℕ). said_record items blocks n value) number;
          }
      | inr none ↦ absurd (in_nothing (ino, inode) none)
    ]
    go objectid kind offset bytes there true e (Err fault) read c = absurd (in_nothing (ino, inode) c)
    go objectid kind offset bytes there false e r read c = absurd (in_nothing (ino, inode) c)

pub list_inode : (items : List Item) (blocks : Data) (ino : ℕ) (bytes : List ℕ) (value : InodeValue) → Contains items (make_key ino inode_item 0, bytes) → inode_of bytes ≡ Ok value
    → Contains (inode_list items blocks) (ino, said_record items blocks ino value)
list_inode items blocks ino bytes value there read =
    flat_map_in (inode_in items blocks) items (make_key ino inode_item 0, bytes) (ino, said_record items blocks ino value) there
    (subst (λ (r : Result InodeValue ItemFault). Contains (record_by items blocks ino r) (ino, said_record items blocks ino value)) (sym read) (head_in (ino, said_record items blocks ino value) []))

pub inode_from : (items : List Item) (blocks : Data) (ino : ℕ) (inode : InodeRecord) → get (said_inodes items blocks) ino ≡ Some inode → InodeItem items blocks ino inode
unfolding said_inodes
inode_from items blocks ino inode there = inode_listed items blocks ino inode (taken nat_cmp_total nat_cmp-IsAntisymmetric (inode_list items blocks) ino inode there)

pub inode_said : (items : List Item) (blocks : Data) (ino : ℕ) (bytes : List ℕ) (value : InodeValue) → ItemsRise items → Contains items (make_key ino inode_item 0, bytes) → inode_of bytes ≡ Ok value
    → get (said_inodes items blocks) ino ≡ Some (said_record items blocks ino value)
unfolding said_inodes
inode_said items blocks ino bytes value rise there read =
    given nat_cmp_total nat_cmp-IsAntisymmetric (inode_list items blocks) ino (said_record items blocks ino value)
    (λ w c.
    let item = inode_listed items blocks ino w c in
    let same = key_once items (make_key ino inode_item 0) item.bytes bytes rise item.there there in
    let one : Ok item.value ≡ Ok value = sym item.read ∙ ap inode_of same ∙ read in
    let values : item.value ≡ value = cc in
    item.is ∙ ap (said_record items blocks ino) values)
    (list_inode items blocks ino bytes value there read)
