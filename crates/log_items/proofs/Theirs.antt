-- What a subvolume's items say of an inode's attributes and of a symlink's target.
use Rattle.std.proofs.Common.{◌≡◌, ◌∙◌, ◌⊎◌, ℕ, true, List, [], ◌∷◌, Contains, Option, Some, Result, Ok, Err, filter, flat_map, refl, sym, ap, subst, inl, inr}
use Rattle.std.specs.Cmp.Lexicographic.{nat_list_cmp_total}
use Rattle.std.specs.FinMap.{from_entries, get}
use Rattle.std.proofs.lemmas.List.Elements.{All-contains}
use Rattle.blk_base.specs.declared.fault.ItemFault.{ItemFault}
use Rattle.blk_base.specs.declared.key.Key.{Key}
use Rattle.blk_base.specs.Crc.{name_hash_of}
use Rattle.blk_base.specs.Entries.{EntryValue, entries_of}
use Rattle.blk_base.specs.Extents.{ExtentValue, Inline, IsExtent, extent_of}
use Rattle.blk_base.specs.ItemFaults.{is_log_kind}
use Rattle.blk_base.specs.Keys.{KeyBelow, extent_data, xattr_item}
use Rattle.blk_base.specs.Leaf.{Item}
use Rattle.blk_base.specs.Trees.{ItemsRise}
use Rattle.cow_tree.proofs.Items.{rise_filter}
use Rattle.flat_model.specs.Records.{InodeRecord, LinkInode, LinkRecord, attributes_of}
use Rattle.flat_model.specs.Volume.{Subvolume}
use Rattle.image_faults.specs.Lists.{gives_map}
use Rattle.image_faults.specs.Said.{read_list}
use Rattle.image_faults.proofs.Asking.{asked_attribute, with_attribute}
use Rattle.image_faults.proofs.Held.{asked_from, asked_to}
use Rattle.image_faults.proofs.OfInodes.{bytes_one}
use Rattle.item_laws.specs.ExtentLaws.{extent_to, log_extent_to, log_from_extent}
use Rattle.leaf_view.specs.KeyOrder.{KeyBelow_irrefl}
use Rattle.log_image.specs.LogItems.{IsLogItem, extent_in_item, is_at, pairs_in_item, read_or}
use Rattle.log_image.proofs.OneLog.{at_from, at_gives}
use Rattle.log_image.proofs.Sayings.{in_flat_map}
use Rattle.tree_range.proofs.Rise.{rise_head}
use Rattle.volume_image.specs.Subvolume.{AreItemsOf, Data, IsExtentOf, attribute_entry, attributes_asked, attributes_there, item_addresses, make_key, without_transid}
use Rattle.volume_image.proofs.Asked.{asked_attributes, asked_extent}
use Rattle.volume_image.proofs.Lists.{in_cons, in_nothing}
use Rattle.volume_image.proofs.Members.{filter_in, flat_map_in, get_in, in_filter, in_get, in_map, map_in, not_empty}
use Rattle.volume_image.proofs.OwnKeys.{asked_is_spelled, has_its_key}
use Rattle.volume_image.proofs.Reaches.{head_in, tail_in}

-- a list that was read
same_reading : {X : Type 0} (r : Result (List X) ItemFault) → read_or [] r ≡ read_list r
same_reading (Ok xs) = refl
same_reading (Err fault) = refl

-- rising items that have one key are one at most
pub one_of_rising : (l : List Item) (x : Item) → ItemsRise l → Contains l x → ((y : Item) → Contains l y → y.0 ≡ x.0) → l ≡ x ∷ []
one_of_rising [] x rise c same = absurd (in_nothing x c)
one_of_rising (y ∷ []) x rise c same = elim (in_cons y x [] c) [ inl here ↦ ap (λ (z : Item). z ∷ []) here | inr none ↦ absurd (in_nothing x none) ]
one_of_rising (y ∷ z ∷ zs) x rise c same =
    let below : KeyBelow y.0 z.0 = All-contains (λ (item : Item). KeyBelow y.0 item.0) (z ∷ zs) z (rise_head y (z ∷ zs) rise) (head_in z zs) in
    let one = same y (head_in y (z ∷ zs)) ∙ sym (same z (tail_in y z (z ∷ zs) (head_in z zs))) in
    absurd (KeyBelow_irrefl z.0 (subst (λ (k : Key). KeyBelow k z.0) one below))

module _ (ino : ℕ) (current : List Item) (theirs : Data) (sub : Subvolume) (rise : ItemsRise current) (are : AreItemsOf current theirs sub) (inode : InodeRecord) (there : get sub.inodes ino ≡ Some inode) where
  at_key : (kind : ℕ) (item : Item) → Contains (filter (is_at ino kind) current) item → Contains current (make_key ino kind item.0.offset, item.1) × (item.0 ≡ make_key ino kind item.0.offset)
  at_key kind item c =
      let found = in_filter (is_at ino kind) current item c in
      let at = at_gives ino kind item found.1 in
      let key : item.0 ≡ make_key ino kind item.0.offset = λ i. record { objectid = at.0 i; kind = at.1 i; offset = item.0.offset } in
      (subst (λ (k : Key). Contains current (k, item.1)) key found.0, key)

  -- ---- attributes ("XATTR_ITEM")

  abbrev pairs : List (List ℕ × List ℕ)
  pairs = flat_map pairs_in_item (filter (is_at ino xattr_item) current)

  forth : (name value : List ℕ) → Contains pairs (name, value) → get (attributes_of inode) name ≡ Some value
  forth name value c =
      let by = in_flat_map pairs_in_item (filter (is_at ino xattr_item) current) (name, value) c in
      let item : Item = by.0 in
      let e = in_map (λ (e : EntryValue). (e.name, e.value)) (read_or [] (entries_of xattr_item item.1)) (name, value) by.2 in
      let key = make_key ino xattr_item item.0.offset in
      let has = asked_attributes sub theirs key item.1 refl (are.only key item.1 (at_key xattr_item item by.1).0) in
      let inside = subst (λ (l : List EntryValue). Contains l e.0) (same_reading (entries_of xattr_item item.1)) e.1 in
      let pair = with_attribute sub ino item.0.offset (without_transid e.0) (asked_from xattr_item item.1 (attributes_asked sub ino item.0.offset) has e.0 inside) in
      let same : pair.0 ≡ (name, value) = (λ i. (ap (λ (e : EntryValue). e.name) pair.3 i, ap (λ (e : EntryValue). e.value) pair.3 i)) ∙ e.2 in
      in_get nat_list_cmp_total bytes_one (attributes_of inode) name value
      (subst (λ (z : List ℕ × List ℕ). Contains (attributes_there (Some inode)) z) same (subst (λ (o : Option InodeRecord). Contains (attributes_there o) pair.0) there pair.1))

  back : (name value : List ℕ) → get (attributes_of inode) name ≡ Some value → Contains pairs (name, value)
  back name value h =
      let asked = asked_attribute sub ino (name, value) (subst (λ (o : Option InodeRecord). Contains (attributes_there o) (name, value)) (sym there) (get_in nat_list_cmp_total bytes_one (attributes_of inode) name value h)) in
      let hash = name_hash_of name in
      let item = are.attributes ino hash (not_empty (attribute_entry (name, value)) (attributes_asked sub ino hash) asked) in
      let key = make_key ino xattr_item hash in
      let has = asked_attributes sub theirs key item.0 refl (are.only key item.0 item.1) in
      let found = asked_to xattr_item item.0 (attributes_asked sub ino hash) has (attribute_entry (name, value)) asked in
      let inside = subst (λ (l : List EntryValue). Contains l found.0) (sym (same_reading (entries_of xattr_item item.0))) found.1 in
      let same : ◌≡◌ {A = List ℕ × List ℕ} (found.0.name, found.0.value) (name, value) = (λ i. (ap (λ (e : EntryValue). e.name) found.2 i, ap (λ (e : EntryValue). e.value) found.2 i)) in
      let own = filter_in (is_at ino xattr_item) current (key, item.0) item.1 (at_from ino xattr_item (key, item.0) refl refl) in
      subst (λ (z : List ℕ × List ℕ). Contains pairs z) same
      (flat_map_in pairs_in_item (filter (is_at ino xattr_item) current) (key, item.0) (found.0.name, found.0.value) own (map_in (λ (e : EntryValue). (e.name, e.value)) (read_or [] (entries_of xattr_item item.0)) found.0 inside))

  pub their_attributes : from_entries pairs ≡ attributes_of inode
  their_attributes = gives_map nat_list_cmp_total bytes_one pairs (attributes_of inode) forth back

  -- an item that is copied may stand in a log
  copied : (kind : ℕ) → (kind ≡ xattr_item) ⊎ (kind ≡ extent_data) → (key : Key) (bytes : List ℕ) → Contains (filter (is_at ino kind) current) (key, bytes) → IsLogItem key bytes
  copied kind which key bytes c =
      let found = in_filter (is_at ino kind) current (key, bytes) c in
      let asked = are.only key bytes found.0 in
      let k : key.kind ≡ kind = (at_gives ino kind (key, bytes) found.1).1 in
      let spelled = asked_is_spelled sub theirs key bytes asked in
      record {
        kind = log_kind k which;
        spelled = record { inode = spelled.inode; refs = spelled.refs; extrefs = spelled.extrefs; entries = spelled.entries; extent = λ e. let is = spelled.extent e in (is.0, log_from_extent key bytes is.0 is.1); range = spelled.range };
        its_key = has_its_key sub theirs key bytes asked;
      }
    where
      log_kind : key.kind ≡ kind → (kind ≡ xattr_item) ⊎ (kind ≡ extent_data) → is_log_kind key.kind ≡ true
      log_kind k (inl w) = let e = k ∙ w in rw e refl
      log_kind k (inr w) = let e = k ∙ w in rw e refl

  pub attribute_logged : (key : Key) (bytes : List ℕ) → Contains (filter (is_at ino xattr_item) current) (key, bytes) → IsLogItem key bytes
  attribute_logged key bytes c = copied xattr_item (inl refl) key bytes c

  pub extent_logged : (key : Key) (bytes : List ℕ) → Contains (filter (is_at ino extent_data) current) (key, bytes) → IsLogItem key bytes
  extent_logged key bytes c = copied extent_data (inr refl) key bytes c

  -- ---- a symlink's target (inline "EXTENT_DATA")

  module _ (link : LinkRecord) (is : inode ≡ LinkInode link) where
    inline_at : (offset : ℕ) (bytes : List ℕ) → Contains current (make_key ino extent_data offset, bytes) → IsExtent (make_key ino extent_data offset) bytes (Inline link.target)
    inline_at offset bytes c =
        let key = make_key ino extent_data offset in
        let asked = asked_extent sub theirs key bytes refl (are.only key bytes c) in
        subst (λ (r : InodeRecord). IsExtentOf theirs r key bytes) (some_same asked.0 (LinkInode link) (sym asked.1 ∙ there ∙ ap Some is)) asked.2
      where
        some_same : (x y : InodeRecord) → Some x ≡ Some y → x ≡ y
        some_same x y e = cc

    pub link_item : (bytes : List ℕ) × (filter (is_at ino extent_data) current ≡ (make_key ino extent_data 0, bytes) ∷ []) × (extent_in_item (make_key ino extent_data 0, bytes) ≡ (0, Inline link.target)) × (item_addresses (make_key ino extent_data 0, bytes) ≡ [])
    link_item =
        let item = are.targets ino link (there ∙ ap Some is) in
        let key = make_key ino extent_data 0 in
        let own = filter_in (is_at ino extent_data) current (key, item.0) item.1 (at_from ino extent_data (key, item.0) refl refl) in
        let read = log_extent_to key item.0 (Inline link.target) (log_from_extent key item.0 (Inline link.target) (inline_at 0 item.0 item.1)) in (
          item.0,
          one_of_rising (filter (is_at ino extent_data) current) (key, item.0) (rise_filter (is_at ino extent_data) current rise) own one_key,
          ap (λ (r : Result ExtentValue ItemFault). (0, read_or (Inline []) r)) read,
          no_blocks item.0 (extent_to key item.0 (Inline link.target) (inline_at 0 item.0 item.1)),
        )
      where
        no_blocks : (bytes : List ℕ) → extent_of (make_key ino extent_data 0) bytes ≡ Ok (Inline link.target) → item_addresses (make_key ino extent_data 0, bytes) ≡ []
        no_blocks bytes read = rw read refl

        one_key : (y : Item) → Contains (filter (is_at ino extent_data) current) y → y.0 ≡ make_key ino extent_data 0
        one_key y c =
            let at = at_key extent_data y c in
            let inline = inline_at y.0.offset y.1 at.0 in
            at.1 ∙ (λ i. record { objectid = ino; kind = extent_data; offset = inline.5 i })
