-- The items of a subvolume have the lengths that flat volumes count with.
use Rattle.std.proofs.Common.{◌≡◌, ◌≢◌, ◌≤◌, ◌+◌, ◌-◌, ◌&&◌, ◌++◌, ◌⊎◌, ℕ, Bool, true, false, not, cond, List, [], ◌∷◌, length, Contains, Option, Some, None, nat_eq, filter, map, flat_map, sum_by, refl, sym, ap, subst, ◌∙◌, arith, inl, inr, length-append, length-drop}
use Rattle.std.proofs.lemmas.Bool.{eqb-true, ne_eqb, and_parts, cases_eq}
use Rattle.std.proofs.lemmas.List.Sums.{sum_by-cons}
use Rattle.std.proofs.lemmas.List.Sorted.{sum_by-IsPermutation, length_permutation}
use Rattle.std.specs.FinMap.{get, entries}
use Rattle.blk_base.specs.declared.key.Key.{Key}
use Rattle.blk_base.specs.Crc.{name_hash_of, extref_hash_of}
use Rattle.blk_base.specs.Keys.{inode_ref, inode_extref, xattr_item, dir_item, dir_index, extent_data}
use Rattle.blk_base.specs.Leaf.{Item}
use Rattle.blk_base.specs.Entries.{RefValue, ref_bytes, ExtRefValue, extref_bytes, EntryValue, entry_bytes, IsEntryKind, IsEntries, dots}
use Rattle.flat_model.specs.Names.{FlatName}
use Rattle.flat_model.specs.Records.{LinkRecord, InodeRecord, FileInode, DirInode, LinkInode, attributes_of}
use Rattle.flat_model.specs.Lengths.{most_item_bytes, ref_length, extref_length, entry_length, attribute_length, ref_item_length, extref_item_length, dir_item_length, xattr_item_length, link_extent_length}
use Rattle.flat_model.specs.Volume.{Subvolume}
use Rattle.flat_model.specs.Coherent.{IsCoherent}
use Rattle.volume_image.specs.Subvolume.{Data, AreItemsOf, IsAsked, InodeAsked, RefsAsked, ExtRefsAsked, AttributesAsked, HashedAsked, IndexedAsked, ExtentAsked, HasEntries, IsExtentOf, make_key, own_refs, refs_asked, extrefs_asked, attributes_asked, attributes_there, attribute_entry, hashed_asked, ref_of, extref_of, entry_of, without_transid}
use Rattle.volume_image.proofs.Members.{in_filter}
use Rattle.volume_image.proofs.Asked.{asked_refs, asked_extrefs, asked_attributes, asked_hashed, asked_extent}

-- ---- sums

spelled_length : {E : Type 0} (spell : E → List ℕ) (size : E → ℕ) → ((e : E) → length (spell e) ≡ size e) → (xs : List E) → length (flat_map spell xs) ≡ sum_by size xs
spelled_length spell size same [] = refl
spelled_length spell size same (x ∷ xs) =
    let rest = spelled_length spell size same xs in
    let first = same x in
    length-append (spell x) (flat_map spell xs) ∙ (λ i. first i + rest i) ∙ sym (sum_by-cons size x xs)

mapped_sum : {X E : Type 0} (f : X → E) (size : E → ℕ) (count : X → ℕ) → ((x : X) → size (f x) ≡ count x) → (xs : List X) → sum_by size (map f xs) ≡ sum_by count xs
mapped_sum f size count same [] = refl
mapped_sum f size count same (x ∷ xs) =
    let rest = mapped_sum f size count same xs in
    let first = same x in
    sum_by-cons size (f x) (map f xs) ∙ (λ i. first i + rest i) ∙ sym (sum_by-cons count x xs)

-- ---- names

-- the name `..` in its item
abbrev own_ref : RefValue
own_ref = record { index = 0; name = dots }

ref_size : RefValue → ℕ
ref_size r = 10 + length r.name

ref_bytes_size : (r : RefValue) → length (ref_bytes r) ≡ ref_size r
unfolding ref_size
ref_bytes_size r = omega arith

refs_size : (sub : Subvolume) (blocks : Data) (items : List Item) → AreItemsOf items blocks sub → (ino dir : ℕ) (bytes : List ℕ) → Contains items (make_key ino inode_ref dir, bytes) → length bytes ≡ sum_by ref_size (refs_asked sub ino dir)
refs_size sub blocks items are ino dir bytes there =
    let asked = asked_refs sub blocks (make_key ino inode_ref dir) bytes refl (are.only (make_key ino inode_ref dir) bytes there) in
    ap length asked.1.spelled ∙ spelled_length ref_bytes ref_size ref_bytes_size asked.0 ∙ sym (sum_by-IsPermutation ref_size asked.0 (refs_asked sub ino dir) asked.2)

no_own_refs : (ino dir : ℕ) → ino ≢ 256 → own_refs ino dir ≡ []
no_own_refs ino dir other = rw (ne_eqb ino 256 other) refl

pub ref_item_has_length : (sub : Subvolume) (blocks : Data) (items : List Item) → AreItemsOf items blocks sub → (ino dir : ℕ) (bytes : List ℕ) → ino ≢ 256 → Contains items (make_key ino inode_ref dir, bytes)
    → length bytes ≡ ref_item_length sub.names ino dir
unfolding ref_item_length ref_size
ref_item_has_length sub blocks items are ino dir bytes other there =
    let near : List FlatName = filter (λ name. name.near && (nat_eq name.ino ino && nat_eq name.dir dir)) sub.names in
    refs_size sub blocks items are ino dir bytes there ∙ ap (λ (own : List RefValue). sum_by ref_size (own ++ map ref_of near)) (no_own_refs ino dir other) ∙ mapped_sum ref_of ref_size ref_length (λ name. refl) near

-- the root directory has no name but its own
no_root_names : (sub : Subvolume) → IsCoherent sub → (dir : ℕ) → filter (λ name. name.near && (nat_eq name.ino 256 && nat_eq name.dir dir)) sub.names ≡ []
no_root_names sub coherent dir = go (filter (λ name. name.near && (nat_eq name.ino 256 && nat_eq name.dir dir)) sub.names) (λ name c. in_filter (λ name. name.near && (nat_eq name.ino 256 && nat_eq name.dir dir)) sub.names name c)
  where
    go : (names : List FlatName) → ((name : FlatName) → Contains names name → Contains sub.names name × ((name.near && (nat_eq name.ino 256 && nat_eq name.dir dir)) ≡ true)) → names ≡ []
    go [] h = refl
    go (name ∷ names) h =
        let first = h name (0, omega arith, refl) in
        let parts = and_parts _ _ (and_parts _ _ first.1).1 in
        absurd (coherent.root_has_no_name name first.0 (eqb-true name.ino 256 parts.0))

pub own_item_has_length : (sub : Subvolume) (blocks : Data) (items : List Item) → AreItemsOf items blocks sub → IsCoherent sub → (dir : ℕ) (bytes : List ℕ) → Contains items (make_key 256 inode_ref dir, bytes)
    → (dir ≡ 256) × (length bytes ≡ 12)
unfolding ref_size
own_item_has_length sub blocks items are coherent dir bytes there =
    let asked = asked_refs sub blocks (make_key 256 inode_ref dir) bytes refl (are.only (make_key 256 inode_ref dir) bytes there) in
    let alone : refs_asked sub 256 dir ≡ own_refs 256 dir ++ [] = ap (λ (names : List FlatName). own_refs 256 dir ++ map ref_of names) (no_root_names sub coherent dir) in
    let size : length bytes ≡ sum_by ref_size (own_refs 256 dir ++ []) = refs_size sub blocks items are 256 dir bytes there ∙ ap (sum_by ref_size) alone in
    let many : length asked.0 ≡ length (own_refs 256 dir ++ []) = sym (length_permutation asked.0 (refs_asked sub 256 dir) asked.2) ∙ ap length alone in
    go (nat_eq dir 256) refl asked.0 asked.1.some many size
  where
    go : (t : Bool) → nat_eq dir 256 ≡ t → (found : List RefValue) → found ≢ [] → length found ≡ length (cond t (own_ref ∷ []) [] ++ [])
        → length bytes ≡ sum_by ref_size (cond t (own_ref ∷ []) [] ++ []) → (dir ≡ 256) × (length bytes ≡ 12)
    go true is found some many size = (eqb-true dir 256 is, size)
    go false is [] some many size = absurd (some refl)
    go false is (r ∷ found) some many size = absurd (omega arith)

extref_size : ExtRefValue → ℕ
extref_size r = 18 + length r.name

extref_bytes_size : (r : ExtRefValue) → length (extref_bytes r) ≡ extref_size r
unfolding extref_size
extref_bytes_size r = omega arith

pub extref_item_has_length : (sub : Subvolume) (blocks : Data) (items : List Item) → AreItemsOf items blocks sub → (ino hash : ℕ) (bytes : List ℕ) → Contains items (make_key ino inode_extref hash, bytes)
    → length bytes ≡ extref_item_length sub.names ino hash
unfolding extref_item_length extref_size
extref_item_has_length sub blocks items are ino hash bytes there =
    let asked = asked_extrefs sub blocks (make_key ino inode_extref hash) bytes refl (are.only (make_key ino inode_extref hash) bytes there) in
    ap length asked.1.spelled ∙ spelled_length extref_bytes extref_size extref_bytes_size asked.0 ∙ sym (sum_by-IsPermutation extref_size asked.0 (extrefs_asked sub ino hash) asked.2)
    ∙ mapped_sum extref_of extref_size extref_length (λ name. refl) (filter (λ name. not name.near && (nat_eq name.ino ino && nat_eq (extref_hash_of name.dir name.bytes) hash)) sub.names)

-- ---- entries

entry_size : EntryValue → ℕ
entry_size e = 30 + length e.name + length e.value

entry_bytes_size : (e : EntryValue) → length (entry_bytes e) ≡ entry_size e
unfolding entry_size
entry_bytes_size e = let text = length-append e.name e.value in omega arith

-- an item with the entries that are asked for has their lengths
entries_size : (kind : ℕ) (bytes : List ℕ) (asked : List EntryValue) → HasEntries kind bytes asked → length bytes ≡ sum_by entry_size asked
unfolding entry_size
entries_size kind bytes asked has =
    ap length has.spelled.spelled ∙ spelled_length entry_bytes entry_size entry_bytes_size has.found ∙ sym (mapped_sum without_transid entry_size entry_size (λ e. refl) has.found)
    ∙ sym (sum_by-IsPermutation entry_size (map without_transid has.found) asked has.same)

pub dir_item_has_length : (sub : Subvolume) (blocks : Data) (items : List Item) → AreItemsOf items blocks sub → (dir hash : ℕ) (bytes : List ℕ) → Contains items (make_key dir dir_item hash, bytes)
    → length bytes ≡ dir_item_length sub.names dir hash
unfolding dir_item_length entry_size
dir_item_has_length sub blocks items are dir hash bytes there =
    let asked = asked_hashed sub blocks (make_key dir dir_item hash) bytes refl (are.only (make_key dir dir_item hash) bytes there) in
    entries_size dir_item bytes (hashed_asked sub dir hash) asked
    ∙ mapped_sum (entry_of sub) entry_size entry_length (λ name. omega arith) (filter (λ name. nat_eq name.dir dir && nat_eq (name_hash_of name.bytes) hash) sub.names)

pub xattr_item_has_length : (sub : Subvolume) (blocks : Data) (items : List Item) → AreItemsOf items blocks sub → (ino hash : ℕ) (inode : InodeRecord) (bytes : List ℕ) → get sub.inodes ino ≡ Some inode
    → Contains items (make_key ino xattr_item hash, bytes) → length bytes ≡ xattr_item_length (attributes_of inode) hash
unfolding xattr_item_length entry_size
xattr_item_has_length sub blocks items are ino hash inode bytes has there =
    let asked = asked_attributes sub blocks (make_key ino xattr_item hash) bytes refl (are.only (make_key ino xattr_item hash) bytes there) in
    entries_size xattr_item bytes (attributes_asked sub ino hash) asked
    ∙ ap (λ (r : Option InodeRecord). sum_by entry_size (map attribute_entry (filter (λ attribute. nat_eq (name_hash_of attribute.0) hash) (attributes_there r)))) has
    ∙ mapped_sum attribute_entry entry_size attribute_length (λ attribute. refl) (filter (λ attribute. nat_eq (name_hash_of attribute.0) hash) (entries (attributes_of inode)))

-- ---- targets

pub target_item_has_length : (sub : Subvolume) (blocks : Data) (items : List Item) → AreItemsOf items blocks sub → (ino offset : ℕ) (link : LinkRecord) (bytes : List ℕ) → get sub.inodes ino ≡ Some (LinkInode link)
    → Contains items (make_key ino extent_data offset, bytes) → length bytes ≡ link_extent_length link
target_item_has_length sub blocks items are ino offset link bytes has there =
    let asked = asked_extent sub blocks (make_key ino extent_data offset) bytes refl (are.only (make_key ino extent_data offset) bytes there) in
    let same : asked.0 ≡ LinkInode link = let e : Some asked.0 ≡ Some (LinkInode link) = sym asked.1 ∙ has in cc in
    let is = subst (λ (r : InodeRecord). IsExtentOf blocks r (make_key ino extent_data offset) bytes) same asked.2 in
    let long : 22 ≤ length bytes = is.2 in
    let text : length bytes - 21 ≡ length link.target = sym (length-drop 21 bytes) ∙ ap length is.3 in
    omega arith

-- ---- all items

-- a key by its parts
key_parts : (key : Key) (kind : ℕ) → key.kind ≡ kind → key ≡ make_key key.objectid kind key.offset
key_parts key kind is = λ i. record { objectid = key.objectid; kind = is i; offset = key.offset }

small_entry : (kind : ℕ) (bytes : List ℕ) (found : List EntryValue) → kind ≢ xattr_item → IsEntries kind bytes found → length found ≡ 1 → length bytes ≤ 285
unfolding entry_size
small_entry kind bytes [] named is single = absurd (omega arith)
small_entry kind bytes (e ∷ []) named is single =
    let most = is.names.0.most in
    let size : length bytes ≡ sum_by entry_size (e ∷ []) = ap length is.spelled ∙ spelled_length entry_bytes entry_size entry_bytes_size (e ∷ []) in
    fits most (no_value is.kinds.0) size
  where
    no_value : IsEntryKind kind e → e.value ≡ []
    no_value (inl attribute) = absurd (named attribute.0)
    no_value (inr entry) = entry.2

    fits : length e.name ≤ 255 → e.value ≡ [] → length bytes ≡ sum_by entry_size (e ∷ []) → length bytes ≤ 285
    fits most none size = let empty : length e.value ≡ 0 = ap length none in omega arith
small_entry kind bytes (e ∷ f ∷ found) named is single = absurd (omega arith)

attributes_somewhere : (sub : Subvolume) (ino hash : ℕ) (bytes : List ℕ) → HasEntries xattr_item bytes (attributes_asked sub ino hash) → (inode : InodeRecord) × (get sub.inodes ino ≡ Some inode)
attributes_somewhere sub ino hash bytes has = go (get sub.inodes ino) refl has.found has.spelled.some (sym (length_permutation (map without_transid has.found) (attributes_asked sub ino hash) has.same))
  where
    go : (r : Option InodeRecord) → get sub.inodes ino ≡ r → (found : List EntryValue) → found ≢ []
        → length (map without_transid found) ≡ length (map attribute_entry (filter (λ attribute. nat_eq (name_hash_of attribute.0) hash) (attributes_there r))) → (inode : InodeRecord) × (get sub.inodes ino ≡ Some inode)
    go (Some inode) is found some size = (inode, is)
    go None is [] some size = absurd (some refl)
    go None is (e ∷ found) some size = absurd (omega arith)

module _ (sub : Subvolume) (blocks : Data) (items : List Item) (are : AreItemsOf items blocks sub) (coherent : IsCoherent sub) where
  in_parts : (key : Key) (bytes : List ℕ) (kind : ℕ) → key.kind ≡ kind → Contains items (key, bytes) → Contains items (make_key key.objectid kind key.offset, bytes)
  in_parts key bytes kind is there = subst (λ (k : Key). Contains items (k, bytes)) (key_parts key kind is) there

  refs_fit : (ino dir : ℕ) (bytes : List ℕ) → Contains items (make_key ino inode_ref dir, bytes) → (ino ≡ 256) ⊎ (ino ≡ 256 → ⊥) → length bytes ≤ most_item_bytes
  refs_fit ino dir bytes there (inl root) =
      let own = own_item_has_length sub blocks items are coherent dir bytes (subst (λ (n : ℕ). Contains items (make_key n inode_ref dir, bytes)) root there) in
      let size = own.1 in omega arith
  refs_fit ino dir bytes there (inr other) = rw (ref_item_has_length sub blocks items are ino dir bytes other there) (coherent.items_fit.refs ino dir)

  extents_fit : (key : Key) (bytes : List ℕ) (inode : InodeRecord) → Contains items (make_key key.objectid extent_data key.offset, bytes) → get sub.inodes key.objectid ≡ Some inode → IsExtentOf blocks inode key bytes → length bytes ≤ most_item_bytes
  extents_fit key bytes (FileInode file) there has (at, len, is, holds) = let size = is.2 in omega arith
  extents_fit key bytes (DirInode dir) there has is = absurd is
  extents_fit key bytes (LinkInode link) there has is = rw (target_item_has_length sub blocks items are key.objectid key.offset link bytes has there) (coherent.items_fit.targets key.objectid link has)

  asked_fits : (key : Key) (bytes : List ℕ) → Contains items (key, bytes) → IsAsked sub blocks key bytes → length bytes ≤ most_item_bytes
  asked_fits key bytes there (InodeAsked inode k z has is) = let size = is.spelled.size in omega arith
  asked_fits key bytes there (RefsAsked found k is p) = refs_fit key.objectid key.offset bytes (in_parts key bytes inode_ref k there) (cases_eq key.objectid 256)
  asked_fits key bytes there (ExtRefsAsked found k is p) = rw (extref_item_has_length sub blocks items are key.objectid key.offset bytes (in_parts key bytes inode_extref k there)) (coherent.items_fit.extrefs key.objectid key.offset)
  asked_fits key bytes there (AttributesAsked k is) =
      let inode = attributes_somewhere sub key.objectid key.offset bytes is in
      rw (xattr_item_has_length sub blocks items are key.objectid key.offset inode.0 bytes inode.1 (in_parts key bytes xattr_item k there)) (coherent.items_fit.attributes key.objectid inode.0 inode.1 key.offset)
  asked_fits key bytes there (HashedAsked k is) = rw (dir_item_has_length sub blocks items are key.objectid key.offset bytes (in_parts key bytes dir_item k there)) (coherent.items_fit.entries key.objectid key.offset)
  asked_fits key bytes there (IndexedAsked k is) = let size = small_entry dir_index bytes is.found (λ e. absurd (omega arith)) is.spelled (is.spelled.single refl) in omega arith
  asked_fits key bytes there (ExtentAsked inode k has is) = extents_fit key bytes inode (in_parts key bytes extent_data k there) has is

  pub item_fits : (key : Key) (bytes : List ℕ) → Contains items (key, bytes) → length bytes ≤ most_item_bytes
  item_fits key bytes there = asked_fits key bytes there (are.only key bytes there)
