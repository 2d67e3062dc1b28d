-- Items with their data blocks are those of one coherent subvolume.
use Rattle.std.proofs.Common.{◌≡◌, ◌≢◌, ◌<◌, ◌≤◌, ◌+◌, ◌-◌, ◌*◌, ◌/◌, ◌%◌, ◌&&◌, ◌++◌, ◌⊎◌, ℕ, zero, suc, Bool, true, false, not, cond, List, [], ◌∷◌, length, Contains, Option, Some, None, IsTrue, nat_cmp, nat_eq, filter, map, IsPermutation, refl, sym, ap, subst, ◌∙◌, arith, inl, inr}
use Rattle.std.proofs.lemmas.Bool.{and_parts, and_from, eqb-true, eq-eqb, not-true, not_from_false, cases_order}
use Rattle.std.proofs.lemmas.List.Elements.{Contains-append_right, Contains-append_cases}
use Rattle.std.specs.Cmp.{nat_cmp_total}
use Rattle.std.specs.Cmp.Lexicographic.{slice_cmp, nat_list_cmp_total}
use Rattle.std.specs.FinMap.{get, nat_cmp-IsAntisymmetric, slice_cmp-IsAntisymmetric}
use Rattle.blk_base.specs.Crc.{name_hash_of, extref_hash_of}
use Rattle.blk_base.specs.Keys.{inode_item, inode_ref, inode_extref, xattr_item, dir_index, extent_data}
use Rattle.blk_base.specs.Leaf.{Item}
use Rattle.blk_base.specs.Items.{InodeValue}
use Rattle.blk_base.specs.Entries.{RefValue, ExtRefValue, EntryValue, dots}
use Rattle.flat_model.specs.Names.{FlatName}
use Rattle.flat_model.specs.Records.{FileRecord, LinkRecord, InodeRecord, FileInode, DirInode, LinkInode, attributes_of}
use Rattle.flat_model.specs.Volume.{Subvolume}
use Rattle.flat_model.specs.Coherent.{IsCoherent}
use Rattle.flat_model.proofs.NameSets.{same_name_set}
use Rattle.volume_image.specs.Subvolume.{Data, AreItemsOf, IsInodeOf, HasEntries, IsExtentOf, make_key, mode_of, size_of, own_refs, refs_asked, extrefs_asked, attributes_asked, attributes_there, attribute_entry, indexed_asked, ref_of, extref_of, entry_of, without_transid, extent_len, CoversBlock}
use Rattle.volume_image.proofs.Lists.{in_nothing, in_cons}
use Rattle.volume_image.proofs.Members.{not_empty, in_filter, filter_in, in_map, map_in, same_members, get_in, in_get, one_map}
use Rattle.volume_image.proofs.Spellings.{refs_are_one, extrefs_are_one, entries_are_one, inode_is_one}
use Rattle.volume_image.proofs.Extents.{extent_len_regular}
use Rattle.volume_image.proofs.Asked.{asked_inode, asked_refs, asked_extrefs, asked_attributes, asked_indexed, asked_extent}

-- what is asked of one item by two subvolumes has the same members
pub asked_alike : (kind : ℕ) (bytes : List ℕ) (one two : List EntryValue) (e : EntryValue) → HasEntries kind bytes one → HasEntries kind bytes two → Contains one e → Contains two e
asked_alike kind bytes one two e a b c =
    same_members (map without_transid a.found) one two e a.same
    (subst (λ (found : List EntryValue). IsPermutation (map without_transid found) two) (entries_are_one kind bytes b.found a.found b.spelled a.spelled) b.same) c

-- the bytes of names have one order
abbrev bytes_one : (x y : List ℕ) → slice_cmp nat_cmp x y ≡ Rattle.std.proofs.Common.Equal → x ≡ y
bytes_one = slice_cmp-IsAntisymmetric nat_cmp-IsAntisymmetric

extent_inside : (number offset len : ℕ) → offset ≤ 4096 * number → 4096 * number < offset + len → offset % 4096 ≡ 0 → len % 4096 ≡ 0 → number - offset / 4096 < len / 4096
extent_inside number offset len from covers aligned whole = omega arith

-- two files of which one extent is have the same block in it
file_extent : (blocks : Data) (ino : ℕ) (f g : FileRecord) (number : ℕ) (block : List ℕ) → get f.blocks number ≡ Some block → (offset : ℕ) (bytes : List ℕ) → offset ≤ 4096 * number
    → 4096 * number < offset + extent_len (make_key ino extent_data offset) bytes → IsExtentOf blocks (FileInode f) (make_key ino extent_data offset) bytes → IsExtentOf blocks (FileInode g) (make_key ino extent_data offset) bytes
    → get g.blocks number ≡ Some block
file_extent blocks ino f g number block has offset bytes from to (at, len, is, holds) (at', len', is', holds') =
    let key = make_key ino extent_data offset in
    let covers : 4096 * number < offset + len = rw (extent_len_regular key bytes at 0 len is) at to in
    let run = is.9 in
    let aligned = is.10 in
    let same_at : at' ≡ at = sym is'.3 ∙ is.3 in
    let same_len : len' ≡ len = sym is'.6 ∙ is.6 in
    let i : ℕ = number - offset / 4096 in
    let inside : i < len / 4096 = extent_inside number offset len from covers aligned run.0 in
    let place : offset / 4096 + i ≡ number = omega arith in
    let first = holds i inside in
    let second = holds' i (rw same_len inside) in
    let e1 : Some first.0 ≡ Some block = sym first.2 ∙ ap (get f.blocks) place ∙ has in
    let e2 : Some second.0 ≡ Some first.0 = sym second.1 ∙ ap (λ (x : ℕ). blocks (x + 4096 * i)) same_at ∙ first.1 in
    sym (ap (get g.blocks) place) ∙ second.2 ∙ e2 ∙ e1

module _ (items : List Item) (blocks : Data) (one two : Subvolume) (a : AreItemsOf items blocks one) (b : AreItemsOf items blocks two) where
  -- ---- attributes

  attribute_there : (ino : ℕ) (x y : InodeRecord) → get one.inodes ino ≡ Some x → get two.inodes ino ≡ Some y → (name value : List ℕ) → get (attributes_of x) name ≡ Some value → get (attributes_of y) name ≡ Some value
  attribute_there ino x y there there' name value has =
      let hash = name_hash_of name in
      let asked : Contains (attributes_asked one ino hash) (attribute_entry (name, value)) =
      map_in attribute_entry _ (name, value)
      (filter_in (λ attribute. nat_eq (name_hash_of attribute.0) hash) (attributes_there (get one.inodes ino)) (name, value)
      (subst (λ (r : Option InodeRecord). Contains (attributes_there r) (name, value)) (sym there) (get_in nat_list_cmp_total bytes_one (attributes_of x) name value has))
      (eq-eqb hash hash refl)) in
      let item = a.attributes ino hash (not_empty _ _ asked) in
      let first = asked_attributes one blocks (make_key ino xattr_item hash) item.0 refl (a.only (make_key ino xattr_item hash) item.0 item.1) in
      let second = asked_attributes two blocks (make_key ino xattr_item hash) item.0 refl (b.only (make_key ino xattr_item hash) item.0 item.1) in
      let found = in_map attribute_entry _ (attribute_entry (name, value)) (asked_alike xattr_item item.0 (attributes_asked one ino hash) (attributes_asked two ino hash) (attribute_entry (name, value)) first second asked) in
      let kept = in_filter (λ attribute. nat_eq (name_hash_of attribute.0) hash) (attributes_there (get two.inodes ino)) found.0 found.1 in
      let same : found.0 ≡ (name, value) = (λ i. (ap (λ (e : EntryValue). e.name) found.2 i, ap (λ (e : EntryValue). e.value) found.2 i)) in
      in_get nat_list_cmp_total bytes_one (attributes_of y) name value
      (subst (λ (r : Option InodeRecord). Contains (attributes_there r) (name, value)) there'
      (subst (λ (z : List ℕ × List ℕ). Contains (attributes_there (get two.inodes ino)) z) same kept.0))

  -- ---- blocks and targets

  file_there : (ino : ℕ) (f g : FileRecord) → get one.inodes ino ≡ Some (FileInode f) → get two.inodes ino ≡ Some (FileInode g) → (number : ℕ) (block : List ℕ) → get f.blocks number ≡ Some block → get g.blocks number ≡ Some block
  file_there ino f g there there' number block has =
      let cover = a.file_blocks ino f number block there has in
      let key = make_key ino extent_data cover.offset in
      let first = asked_extent one blocks key cover.bytes refl (a.only key cover.bytes cover.there) in
      let second = asked_extent two blocks key cover.bytes refl (b.only key cover.bytes cover.there) in
      let same : first.0 ≡ FileInode f = let e : Some first.0 ≡ Some (FileInode f) = sym first.1 ∙ there in cc in
      let same' : second.0 ≡ FileInode g = let e : Some second.0 ≡ Some (FileInode g) = sym second.1 ∙ there' in cc in
      file_extent blocks ino f g number block has cover.offset cover.bytes cover.from cover.to
      (subst (λ (r : InodeRecord). IsExtentOf blocks r key cover.bytes) same first.2) (subst (λ (r : InodeRecord). IsExtentOf blocks r key cover.bytes) same' second.2)

  target_there : (ino : ℕ) (l m : LinkRecord) → get one.inodes ino ≡ Some (LinkInode l) → get two.inodes ino ≡ Some (LinkInode m) → l.target ≡ m.target
  target_there ino l m there there' =
      let item = a.targets ino l there in
      let key = make_key ino extent_data 0 in
      let first = asked_extent one blocks key item.0 refl (a.only key item.0 item.1) in
      let second = asked_extent two blocks key item.0 refl (b.only key item.0 item.1) in
      let same : first.0 ≡ LinkInode l = let e : Some first.0 ≡ Some (LinkInode l) = sym first.1 ∙ there in cc in
      let same' : second.0 ≡ LinkInode m = let e : Some second.0 ≡ Some (LinkInode m) = sym second.1 ∙ there' in cc in
      let is = subst (λ (r : InodeRecord). IsExtentOf blocks r key item.0) same first.2 in
      let is' = subst (λ (r : InodeRecord). IsExtentOf blocks r key item.0) same' second.2 in
      sym is.3 ∙ is'.3

  -- an inode of the first is one of the second, of the same mode and size
  inode_there : (ino : ℕ) (x : InodeRecord) → get one.inodes ino ≡ Some x → (y : InodeRecord) × (get two.inodes ino ≡ Some y) × (mode_of x ≡ mode_of y) × (size_of one ino x ≡ size_of two ino y)
  inode_there ino x there =
      let item = a.inodes ino x there in
      let key = make_key ino inode_item 0 in
      let first = asked_inode one blocks key item.0 refl (a.only key item.0 item.1) in
      let second = asked_inode two blocks key item.0 refl (b.only key item.0 item.1) in
      let same : first.0 ≡ x = let e : Some first.0 ≡ Some x = sym first.2 ∙ there in cc in
      let is = subst (λ (r : InodeRecord). IsInodeOf one ino r item.0) same first.3 in
      let is' = second.3 in
      let value = inode_is_one item.0 is.value is'.value is.spelled is'.spelled in
      (second.0, second.2, sym is.mode ∙ ap (λ (v : InodeValue). v.mode) value ∙ is'.mode, sym is.size ∙ ap (λ (v : InodeValue). v.size) value ∙ is'.size)

  -- ---- names

  near_there : (c : IsCoherent one) (d : IsCoherent two) (n : FlatName) → Contains one.names n → n.near ≡ true → (m : FlatName) × Contains two.names m × (m.dir ≡ n.dir) × (m.index ≡ n.index) × (m.near ≡ true)
  near_there c d n has near =
      let asked : Contains (refs_asked one n.ino n.dir) (ref_of n) =
      Contains-append_right (own_refs n.ino n.dir) _ (ref_of n)
      (map_in ref_of _ n (filter_in (λ name. name.near && (nat_eq name.ino n.ino && nat_eq name.dir n.dir)) one.names n has
      (and_from _ _ near (and_from _ _ (eq-eqb n.ino n.ino refl) (eq-eqb n.dir n.dir refl))))) in
      let item = a.refs n.ino n.dir (not_empty _ _ asked) in
      let key = make_key n.ino inode_ref n.dir in
      let first = asked_refs one blocks key item.0 refl (a.only key item.0 item.1) in
      let second = asked_refs two blocks key item.0 refl (b.only key item.0 item.1) in
      let same = refs_are_one key item.0 second.0 first.0 second.1 first.1 in
      let in_two = same_members first.0 (refs_asked one n.ino n.dir) (refs_asked two n.ino n.dir) (ref_of n) first.2 (subst (λ (found : List RefValue). IsPermutation found (refs_asked two n.ino n.dir)) same second.2) asked in
      elim (Contains-append_cases (own_refs n.ino n.dir) _ (ref_of n) in_two) [
        | inl own ↦ absurd (no_own (nat_eq n.ino 256 && nat_eq n.dir 256) own)
        | inr other ↦
            let found = in_map ref_of _ (ref_of n) other in
            let kept = in_filter (λ name. name.near && (nat_eq name.ino n.ino && nat_eq name.dir n.dir)) two.names found.0 found.1 in
            let parts = and_parts _ _ kept.1 in
            let places = and_parts _ _ parts.1 in
            (found.0, kept.0, eqb-true _ _ places.1, ap (λ (r : RefValue). r.index) found.2, parts.0)
      ]
    where
      no_own : (t : Bool) → Contains (cond t (record { index = 0; name = dots } ∷ []) []) (ref_of n) → ⊥
      no_own true own = elim (in_cons _ (ref_of n) [] own) [
        | inl e ↦ let zero_index : ◌≡◌ {A = ℕ} 0 n.index = ap (λ (r : RefValue). r.index) e in let range = c.index_numbers n has in omega arith
        | inr none ↦ in_nothing (ref_of n) none
      ]
      no_own false own = in_nothing (ref_of n) own

  far_there : (n : FlatName) → Contains one.names n → n.near ≡ false → (m : FlatName) × Contains two.names m × (m.dir ≡ n.dir) × (m.index ≡ n.index) × (m.near ≡ false)
  far_there n has far =
      let hash = extref_hash_of n.dir n.bytes in
      let asked : Contains (extrefs_asked one n.ino hash) (extref_of n) =
      map_in extref_of _ n (filter_in (λ name. not name.near && (nat_eq name.ino n.ino && nat_eq (extref_hash_of name.dir name.bytes) hash)) one.names n has
      (and_from _ _ (not_from_false n.near far) (and_from _ _ (eq-eqb n.ino n.ino refl) (eq-eqb hash hash refl)))) in
      let item = a.extrefs n.ino hash (not_empty _ _ asked) in
      let key = make_key n.ino inode_extref hash in
      let first = asked_extrefs one blocks key item.0 refl (a.only key item.0 item.1) in
      let second = asked_extrefs two blocks key item.0 refl (b.only key item.0 item.1) in
      let same = extrefs_are_one item.0 second.0 first.0 second.1 first.1 in
      let in_two = same_members first.0 (extrefs_asked one n.ino hash) (extrefs_asked two n.ino hash) (extref_of n) first.2 (subst (λ (found : List ExtRefValue). IsPermutation found (extrefs_asked two n.ino hash)) same second.2) asked in
      let found = in_map extref_of _ (extref_of n) in_two in
      let kept = in_filter (λ name. not name.near && (nat_eq name.ino n.ino && nat_eq (extref_hash_of name.dir name.bytes) hash)) two.names found.0 found.1 in
      let parts = and_parts _ _ kept.1 in
      (found.0, kept.0, ap (λ (r : ExtRefValue). r.parent) found.2, ap (λ (r : ExtRefValue). r.index) found.2, not-true _ parts.0)

  -- a name of the first is one of the second in all but its mark
  entry_there : (n : FlatName) → Contains one.names n → (m : FlatName) × Contains two.names m × (m.dir ≡ n.dir) × (m.index ≡ n.index) × (m.bytes ≡ n.bytes) × (m.ino ≡ n.ino)
  entry_there n has =
      let asked : Contains (indexed_asked one n.dir n.index) (entry_of one n) =
      map_in (entry_of one) _ n (filter_in (λ name. nat_eq name.dir n.dir && nat_eq name.index n.index) one.names n has (and_from _ _ (eq-eqb n.dir n.dir refl) (eq-eqb n.index n.index refl))) in
      let item = a.indexed n.dir n.index (not_empty _ _ asked) in
      let key = make_key n.dir dir_index n.index in
      let first = asked_indexed one blocks key item.0 refl (a.only key item.0 item.1) in
      let second = asked_indexed two blocks key item.0 refl (b.only key item.0 item.1) in
      let found = in_map (entry_of two) _ (entry_of one n) (asked_alike dir_index item.0 (indexed_asked one n.dir n.index) (indexed_asked two n.dir n.index) (entry_of one n) first second asked) in
      let kept = in_filter (λ name. nat_eq name.dir n.dir && nat_eq name.index n.index) two.names found.0 found.1 in
      let parts = and_parts _ _ kept.1 in
      (found.0, kept.0, eqb-true _ _ parts.0, eqb-true _ _ parts.1, ap (λ (e : EntryValue). e.name) found.2, ap (λ (e : EntryValue). e.target.objectid) found.2)

  name_there : IsCoherent one → IsCoherent two → (n : FlatName) → Contains one.names n → Contains two.names n
  name_there c d n has =
      let entry = entry_there n has in
      let mark = mark_there c d n has entry.0 entry.1 entry.2 entry.3 n.near refl in
      subst (λ (m : FlatName). Contains two.names m) (λ i. record { dir = entry.2 i; index = entry.3 i; bytes = entry.4 i; ino = entry.5 i; near = mark i }) entry.1
    where
      mark_there : IsCoherent one → IsCoherent two → (n : FlatName) → Contains one.names n → (m : FlatName) → Contains two.names m → m.dir ≡ n.dir → m.index ≡ n.index → (mark : Bool) → n.near ≡ mark → m.near ≡ n.near
      mark_there c d n has m in_two dir index true near =
          let other = near_there c d n has near in
          let same = d.no_index_twice m other.0 in_two other.1 (dir ∙ sym other.2) (index ∙ sym other.3) in
          ap (λ (x : FlatName). x.near) same ∙ other.4 ∙ sym near
      mark_there c d n has m in_two dir index false far =
          let other = far_there n has far in
          let same = d.no_index_twice m other.0 in_two other.1 (dir ∙ sym other.2) (index ∙ sym other.3) in
          ap (λ (x : FlatName). x.near) same ∙ other.4 ∙ sym far

-- ---- both ways

module _ (items : List Item) (blocks : Data) (one two : Subvolume) (a : AreItemsOf items blocks one) (b : AreItemsOf items blocks two) where
  same_attributes : (ino : ℕ) (x y : InodeRecord) → get one.inodes ino ≡ Some x → get two.inodes ino ≡ Some y → attributes_of x ≡ attributes_of y
  same_attributes ino x y there there' = one_map nat_list_cmp_total bytes_one (attributes_of x) (attributes_of y) (attribute_there items blocks one two a b ino x y there there') (attribute_there items blocks two one b a ino y x there' there)

  same_inode : (ino : ℕ) (x y : InodeRecord) → get one.inodes ino ≡ Some x → get two.inodes ino ≡ Some y → mode_of x ≡ mode_of y → size_of one ino x ≡ size_of two ino y → x ≡ y
  same_inode ino (FileInode f) (FileInode g) there there' mode size =
      let attributes = same_attributes ino (FileInode f) (FileInode g) there there' in
      let kept = one_map nat_cmp_total nat_cmp-IsAntisymmetric f.blocks g.blocks (file_there items blocks one two a b ino f g there there') (file_there items blocks two one b a ino g f there' there) in
      λ i. FileInode (record { attributes = attributes i; size = size i; blocks = kept i })
  same_inode ino (FileInode f) (DirInode g) there there' mode size = absurd (omega arith)
  same_inode ino (FileInode f) (LinkInode g) there there' mode size = absurd (omega arith)
  same_inode ino (DirInode f) (FileInode g) there there' mode size = absurd (omega arith)
  same_inode ino (DirInode f) (DirInode g) there there' mode size =
      let attributes = same_attributes ino (DirInode f) (DirInode g) there there' in
      λ i. DirInode (record { attributes = attributes i })
  same_inode ino (DirInode f) (LinkInode g) there there' mode size = absurd (omega arith)
  same_inode ino (LinkInode f) (FileInode g) there there' mode size = absurd (omega arith)
  same_inode ino (LinkInode f) (DirInode g) there there' mode size = absurd (omega arith)
  same_inode ino (LinkInode f) (LinkInode g) there there' mode size =
      let attributes = same_attributes ino (LinkInode f) (LinkInode g) there there' in
      let target = target_there items blocks one two a b ino f g there there' in
      λ i. LinkInode (record { attributes = attributes i; target = target i })

  same_there : (ino : ℕ) (x : InodeRecord) → get one.inodes ino ≡ Some x → get two.inodes ino ≡ Some x
  same_there ino x there =
      let other = inode_there items blocks one two a b ino x there in
      other.1 ∙ ap Some (sym (same_inode ino x other.0 there other.1 other.2 other.3))

pub items_have_one_subvolume : (items : List Item) (blocks : Data) (one two : Subvolume) → AreItemsOf items blocks one → AreItemsOf items blocks two → IsCoherent one → IsCoherent two → one ≡ two
items_have_one_subvolume items blocks one two a b c d =
    let inodes = one_map nat_cmp_total nat_cmp-IsAntisymmetric one.inodes two.inodes (same_there items blocks one two a b) (same_there items blocks two one b a) in
    let names = same_name_set one.names two.names c.in_order d.in_order (name_there items blocks one two a b c d) (name_there items blocks two one b a d c) in
    λ i. record { inodes = inodes i; names = names i }

-- ---- which extent has a block of a file

-- no block of a file is in two extents
pub one_extent : (sub : Subvolume) (blocks : Data) (items : List Item) → AreItemsOf items blocks sub → (ino number : ℕ) (one two : CoversBlock items ino number) → one.offset ≡ two.offset
one_extent sub blocks items are ino number one two = go (cases_order one.offset two.offset)
  where
    go : (one.offset ≡ two.offset) ⊎ ((one.offset < two.offset) ⊎ (two.offset < one.offset)) → one.offset ≡ two.offset
    go (inl same) = same
    go (inr (inl below)) = let apart = are.apart ino one.offset two.offset one.bytes two.bytes one.there two.there below in let to = one.to in let from = two.from in absurd (omega arith)
    go (inr (inr above)) = let apart = are.apart ino two.offset one.offset two.bytes one.bytes two.there one.there above in let to = two.to in let from = one.from in absurd (omega arith)

-- where an extent of a file covers a block, the file has it
pub covered_is_kept : (sub : Subvolume) (blocks : Data) (items : List Item) → AreItemsOf items blocks sub → (ino : ℕ) (file : FileRecord) (number : ℕ) → get sub.inodes ino ≡ Some (FileInode file) → CoversBlock items ino number
    → (block : List ℕ) × (get file.blocks number ≡ Some block)
covered_is_kept sub blocks items are ino file number there cover =
    let key = make_key ino extent_data cover.offset in
    let asked = asked_extent sub blocks key cover.bytes refl (are.only key cover.bytes cover.there) in
    let same : asked.0 ≡ FileInode file = let e : Some asked.0 ≡ Some (FileInode file) = sym asked.1 ∙ there in cc in
    kept cover.offset cover.bytes cover.from cover.to (subst (λ (r : InodeRecord). IsExtentOf blocks r key cover.bytes) same asked.2)
  where
    kept : (offset : ℕ) (bytes : List ℕ) → offset ≤ 4096 * number → 4096 * number < offset + extent_len (make_key ino extent_data offset) bytes → IsExtentOf blocks (FileInode file) (make_key ino extent_data offset) bytes
        → (block : List ℕ) × (get file.blocks number ≡ Some block)
    kept offset bytes from to (at, len, is, holds) =
        let key = make_key ino extent_data offset in
        let covers : 4096 * number < offset + len = rw (extent_len_regular key bytes at 0 len is) at to in
        let run = is.9 in
        let aligned = is.10 in
        let i : ℕ = number - offset / 4096 in
        let inside : i < len / 4096 = extent_inside number offset len from covers aligned run.0 in
        let place : offset / 4096 + i ≡ number = omega arith in
        let block = holds i inside in
        (block.0, sym (ap (get file.blocks) place) ∙ block.2)
