-- A change of some names and inodes leaves every item that tells of none of them as the subvolume asks for it.
use Rattle.std.proofs.Common.{◌≡◌, ◌+◌, ◌*◌, ℕ, Bool, true, false, not, ◌&&◌, ◌||◌, List, [], ◌∷◌, ◌++◌, length, map, Option, Some, refl, sym, ap, ◌∙◌, subst, inl, inr}
use Rattle.std.specs.Prelude.{◌==◌, All, Contains, IsSome, filter, nat_eq}
use Rattle.std.specs.List.{list_any, sum_by}
use Rattle.std.specs.List.Sorted.{IsPermutation}
use Rattle.std.specs.FinMap.{get}
use Rattle.std.proofs.lemmas.Bool.{cases_Bool, eq-eqb, ne_eqb, true≢false}
use Rattle.std.proofs.lemmas.List.{append-nil}
use Rattle.std.proofs.lemmas.List.Folds.{list_any_none}
use Rattle.std.proofs.lemmas.List.Elements.{All-contains, All-contains_itself, All-weaker}
use Rattle.blk_base.specs.declared.key.Key.{Key}
use Rattle.blk_base.specs.Crc.{extref_hash_of, name_hash_of}
use Rattle.blk_base.specs.Keys.{dir_index, dir_item, extent_data, inode_extref, inode_item, inode_ref, xattr_item}
use Rattle.blk_base.specs.Leaf.{Item}
use Rattle.blk_base.specs.Trees.{ItemsRise}
use Rattle.blk_base.proofs.Members.{is_in}
use Rattle.flat_model.specs.Names.{FlatName, entries_of, leads_to, links_of, stands_in}
use Rattle.flat_model.specs.Records.{DirInode, FileInode, InodeRecord, LinkInode}
use Rattle.flat_model.specs.Volume.{Subvolume}
use Rattle.tree_range.specs.Between.{data_under}
use Rattle.tree_range.proofs.Found.{contains_under}
use Rattle.volume_image.specs.Subvolume.{AreItemsOf, CoversBlock, Data, IsAsked, InodeAsked, RefsAsked, ExtRefsAsked, AttributesAsked, HashedAsked, IndexedAsked, ExtentAsked, IsExtentOf, IsInodeOf, HasEntries, attribute_entry, attributes_asked, attributes_there, entry_of, extref_of, extrefs_asked, hashed_asked, indexed_asked, item_addresses, make_key, own_refs, ref_of, refs_asked}
use Rattle.volume_image.proofs.Extents.{run_is_reached}
use Rattle.volume_image.proofs.Members.{in_filter}
use Rattle.volume_image.proofs.Reaches.{head_in, tail_in}
use Rattle.table_volume.specs.Keyed.{ChangesOnly, DoesAsk, AsksInode, AsksRefs, AsksExtRefs, AsksAttributes, AsksHashed, AsksIndexed, AsksTarget, HoldsExtents, HoldsKey, does_inode_count, does_name_count, is_touched}
use Rattle.table_volume.proofs.Bits.{and_left, and_right, none_passes, or_left, or_right}
use Rattle.table_volume.proofs.Keyed.{extents_hold, found_under, items_from_keys, keys_hold}

-- ---- what a key that isn't touched says of each changed name and inode

record IsApart (name : FlatName) (key : Key) : Type 0 where
  pub inode : key.kind ≡ inode_item → nat_eq name.ino key.objectid ≡ false
  pub directory : key.kind ≡ inode_item → nat_eq name.dir key.objectid ≡ false
  pub near : key.kind ≡ inode_ref → (name.near && (nat_eq name.ino key.objectid && nat_eq name.dir key.offset)) ≡ false
  pub far : key.kind ≡ inode_extref → (not name.near && (nat_eq name.ino key.objectid && nat_eq (extref_hash_of name.dir name.bytes) key.offset)) ≡ false
  pub hashed : key.kind ≡ dir_item → (nat_eq name.dir key.objectid && nat_eq (name_hash_of name.bytes) key.offset) ≡ false
  pub indexed : key.kind ≡ dir_index → (nat_eq name.dir key.objectid && nat_eq name.index key.offset) ≡ false

-- the five parts of a test, each without its kind
five : (a b c d e : Bool) → (a || b || c || d || e) ≡ false → (a ≡ false) × (b ≡ false) × (c ≡ false) × (d ≡ false) × (e ≡ false)
five a b c d e h =
    let p = or_left (a || b || c || d) e h in
    let q = or_left (a || b || c) d p in
    let r = or_left (a || b) c q in
    (or_left a b r, or_right a b r, or_right (a || b) c q, or_right (a || b || c) d p, or_right (a || b || c || d) e h)

of_kind : (key : Key) (kind : ℕ) (b : Bool) → ((key.kind == kind) && b) ≡ false → key.kind ≡ kind → b ≡ false
of_kind key kind b h is = and_right (key.kind == kind) b (eq-eqb key.kind kind is) h

name_apart : (name : FlatName) (key : Key) → does_name_count name key ≡ false → IsApart name key
name_apart name key h =
    let p = five _ _ _ _ _ h in
    record {
      inode = λ is. or_left (nat_eq name.ino key.objectid) (nat_eq name.dir key.objectid) (of_kind key inode_item _ p.0 is);
      directory = λ is. or_right (nat_eq name.ino key.objectid) (nat_eq name.dir key.objectid) (of_kind key inode_item _ p.0 is);
      near = of_kind key inode_ref _ p.1;
      far = of_kind key inode_extref _ p.2;
      hashed = of_kind key dir_item _ p.3;
      indexed = of_kind key dir_index _ p.4;
    }

-- the inode of such a key is none of the changed ones
inode_apart : (inos : List ℕ) (key : Key) → list_any (λ ino. does_inode_count ino key) inos ≡ false → ((key.kind == inode_item) || (key.kind == xattr_item) || (key.kind == extent_data)) ≡ true → Contains inos key.objectid → ⊥
inode_apart inos key h kind there =
    let one : does_inode_count key.objectid key ≡ false = All-contains (λ (ino : ℕ). does_inode_count ino key ≡ false) inos key.objectid (none_passes (λ (ino : ℕ). does_inode_count ino key) inos h) there in
    let same : nat_eq key.objectid key.objectid ≡ false = and_left (nat_eq key.objectid key.objectid) _ kind one in
    true≢false (sym (eq-eqb key.objectid key.objectid refl) ∙ same)

kind_inode : (key : Key) → key.kind ≡ inode_item → ((key.kind == inode_item) || (key.kind == xattr_item) || (key.kind == extent_data)) ≡ true
kind_inode key is = rw is refl

kind_xattr : (key : Key) → key.kind ≡ xattr_item → ((key.kind == inode_item) || (key.kind == xattr_item) || (key.kind == extent_data)) ≡ true
kind_xattr key is = rw is refl

kind_extent : (key : Key) → key.kind ≡ extent_data → ((key.kind == inode_item) || (key.kind == xattr_item) || (key.kind == extent_data)) ≡ true
kind_extent key is = rw is refl

-- ---- what is asked for under such a key

member : (p : FlatName → Bool) (names : List FlatName) (name : FlatName) → Contains (filter p names) name → Contains names name
member p names name there = (in_filter p names name there).0

map_alike : {X Y : Type 0} (f g : X → Y) (xs : List X) → ((x : X) → Contains xs x → f x ≡ g x) → map f xs ≡ map g xs
map_alike f g [] h = refl
map_alike {X} {Y} f g (x ∷ xs) h =
    ap (λ (y : Y). y ∷ map f xs) (h x (head_in x xs)) ∙ ap (λ (ys : List Y). g x ∷ ys) (map_alike f g xs (λ y there. h y (tail_in x y xs there)))

-- an item is what an inode asks for, where its data stay
extent_stays : (one two : Data) (key : Key) (bytes : List ℕ) (inode : InodeRecord) → key.kind ≡ extent_data → ((at : ℕ) → Contains (item_addresses (key, bytes)) at → one at ≡ two at) → IsExtentOf one inode key bytes → IsExtentOf two inode key bytes
extent_stays one two key bytes (FileInode file) kind same (at, len, is, holds) = (
  at,
  len,
  is,
  λ i below.
      let block = holds i below in
      let among : Contains (item_addresses (key, bytes) ++ []) (at + 4096 * i) = run_is_reached ((key, bytes) ∷ []) key bytes at 0 len i (head_in (key, bytes) []) kind is below in
      (block.0, sym (same (at + 4096 * i) (subst (λ (l : List ℕ). Contains l (at + 4096 * i)) (append-nil (item_addresses (key, bytes))) among)) ∙ block.1, block.2),
)
extent_stays one two key bytes (DirInode dir) kind same is = is
extent_stays one two key bytes (LinkInode link) kind same is = is

module _ (old new : Subvolume) (names : List FlatName) (inos : List ℕ) (changes : ChangesOnly old new names inos) (key : Key) (untouched : is_touched names inos key ≡ false) where
  each_apart : All (λ name. IsApart name key) names
  each_apart =
      All-weaker (λ (name : FlatName). does_name_count name key ≡ false) (λ (name : FlatName). IsApart name key) (λ name h. name_apart name key h) names (none_passes (λ (name : FlatName). does_name_count name key) names (or_left (list_any (λ (name : FlatName). does_name_count name key) names) (list_any (λ (ino : ℕ). does_inode_count ino key) inos) untouched))

  inode_same : ((key.kind == inode_item) || (key.kind == xattr_item) || (key.kind == extent_data)) ≡ true → get new.inodes key.objectid ≡ get old.inodes key.objectid
  inode_same kind =
      changes.inodes_stay key.objectid (inode_apart inos key (or_right (list_any (λ (name : FlatName). does_name_count name key) names) (list_any (λ (ino : ℕ). does_inode_count ino key) inos) untouched) kind)

  apart_by : (p : FlatName → Bool) → ((name : FlatName) → IsApart name key → p name ≡ false) → filter p new.names ≡ filter p old.names
  apart_by p h =
      changes.names_stay p (All-weaker (λ (name : FlatName). IsApart name key) (λ (name : FlatName). p name ≡ false) h names each_apart)

  refs_same : key.kind ≡ inode_ref → refs_asked new key.objectid key.offset ≡ refs_asked old key.objectid key.offset
  refs_same kind =
      ap (λ (l : List FlatName). own_refs key.objectid key.offset ++ map ref_of l) (apart_by (λ name. name.near && (nat_eq name.ino key.objectid && nat_eq name.dir key.offset)) (λ name apart. apart.near kind))

  extrefs_same : key.kind ≡ inode_extref → extrefs_asked new key.objectid key.offset ≡ extrefs_asked old key.objectid key.offset
  extrefs_same kind =
      ap (λ (l : List FlatName). map extref_of l) (apart_by (λ name. not name.near && (nat_eq name.ino key.objectid && nat_eq (extref_hash_of name.dir name.bytes) key.offset)) (λ name apart. apart.far kind))

  attributes_same : key.kind ≡ xattr_item → attributes_asked new key.objectid key.offset ≡ attributes_asked old key.objectid key.offset
  attributes_same kind =
      ap (λ (inode : Option InodeRecord). map attribute_entry (filter (λ attribute. nat_eq (name_hash_of attribute.0) key.offset) (attributes_there inode))) (inode_same (kind_xattr key kind))

  -- the entries of names that both have
  none_by : (p : FlatName → Bool) → ((name : FlatName) → IsApart name key → p name ≡ false) → All (λ name. p name ≡ false) names
  none_by p h =
      All-weaker (λ (name : FlatName). IsApart name key) (λ (name : FlatName). p name ≡ false) h names each_apart

  entries_same : (p : FlatName → Bool) → ((name : FlatName) → IsApart name key → p name ≡ false) → map (entry_of new) (filter p new.names) ≡ map (entry_of old) (filter p old.names)
  entries_same p h =
      let same : filter p new.names ≡ filter p old.names = apart_by p h in
      map_alike (entry_of new) (entry_of old) (filter p new.names) (λ name there.
      let other : Contains names name → ⊥ = λ changed. true≢false (sym (in_filter p new.names name there).1 ∙ All-contains (λ (n : FlatName). p n ≡ false) names name (none_by p h) changed) in
      ap (λ (kind : ℕ). record { target = make_key name.ino inode_item 0; transid = 0; kind = kind; name = name.bytes; value = [] }) (changes.kinds_stay name (member p old.names name (subst (λ (l : List FlatName). Contains l name) same there)) (member p new.names name there) other))
      ∙ ap (λ (l : List FlatName). map (entry_of old) l) same

  hashed_same : key.kind ≡ dir_item → hashed_asked new key.objectid key.offset ≡ hashed_asked old key.objectid key.offset
  hashed_same kind =
      entries_same (λ name. nat_eq name.dir key.objectid && nat_eq (name_hash_of name.bytes) key.offset) (λ name apart. apart.hashed kind)

  indexed_same : key.kind ≡ dir_index → indexed_asked new key.objectid key.offset ≡ indexed_asked old key.objectid key.offset
  indexed_same kind =
      entries_same (λ name. nat_eq name.dir key.objectid && nat_eq name.index key.offset) (λ name apart. apart.indexed kind)

  links_same : key.kind ≡ inode_item → links_of new.names key.objectid ≡ links_of old.names key.objectid
  links_same kind =
      ap (λ (l : List FlatName). length l) (apart_by (leads_to key.objectid) (λ name apart. apart.inode kind))

  entries_in : key.kind ≡ inode_item → entries_of new.names key.objectid ≡ entries_of old.names key.objectid
  entries_in kind = apart_by (stands_in key.objectid) (λ name apart. apart.directory kind)

  inode_asked : (inode : InodeRecord) (bytes : List ℕ) → key.kind ≡ inode_item → IsInodeOf old key.objectid inode bytes → IsInodeOf new key.objectid inode bytes
  inode_asked (FileInode file) bytes kind is = record {
    value = is.value;
    spelled = is.spelled;
    mode = is.mode;
    size = is.size;
    nbytes = is.nbytes;
    nlink = is.nlink ∙ sym (links_same kind);
  }
  inode_asked (DirInode dir) bytes kind is = record {
    value = is.value;
    spelled = is.spelled;
    mode = is.mode;
    size = is.size ∙ ap (λ (l : List FlatName). 2 * sum_by (λ (name : FlatName). length name.bytes) l) (sym (entries_in kind));
    nbytes = is.nbytes;
    nlink = is.nlink;
  }
  inode_asked (LinkInode link) bytes kind is = record {
    value = is.value;
    spelled = is.spelled;
    mode = is.mode;
    size = is.size;
    nbytes = is.nbytes;
    nlink = is.nlink ∙ sym (links_same kind);
  }

  -- an item that was asked for still is, where its data stay
  still_asked : (one two : Data) (bytes : List ℕ) → (key.kind ≡ extent_data → (at : ℕ) → Contains (item_addresses (key, bytes)) at → one at ≡ two at) → IsAsked old one key bytes → IsAsked new two key bytes
  still_asked one two bytes same (InodeAsked inode kind offset there is) =
      InodeAsked inode kind offset (inode_same (kind_inode key kind) ∙ there) (inode_asked inode bytes kind is)
  still_asked one two bytes same (RefsAsked found kind spelled alike) =
      RefsAsked found kind spelled (subst (IsPermutation found) (sym (refs_same kind)) alike)
  still_asked one two bytes same (ExtRefsAsked found kind spelled alike) =
      ExtRefsAsked found kind spelled (subst (IsPermutation found) (sym (extrefs_same kind)) alike)
  still_asked one two bytes same (AttributesAsked kind has) =
      AttributesAsked kind (subst (HasEntries xattr_item bytes) (sym (attributes_same kind)) has)
  still_asked one two bytes same (HashedAsked kind has) =
      HashedAsked kind (subst (HasEntries dir_item bytes) (sym (hashed_same kind)) has)
  still_asked one two bytes same (IndexedAsked kind has) =
      IndexedAsked kind (subst (HasEntries dir_index bytes) (sym (indexed_same kind)) has)
  still_asked one two bytes same (ExtentAsked inode kind there is) =
      ExtentAsked inode kind (inode_same (kind_extent key kind) ∙ there) (extent_stays one two key bytes inode kind (same kind) is)

  -- nothing new is asked for
  nothing_new : DoesAsk new key → DoesAsk old key
  nothing_new (AsksInode inode kind offset there) =
      AsksInode inode kind offset (sym (inode_same (kind_inode key kind)) ∙ there)
  nothing_new (AsksRefs kind some) = AsksRefs kind (λ none. some (refs_same kind ∙ none))
  nothing_new (AsksExtRefs kind some) = AsksExtRefs kind (λ none. some (extrefs_same kind ∙ none))
  nothing_new (AsksAttributes kind some) = AsksAttributes kind (λ none. some (attributes_same kind ∙ none))
  nothing_new (AsksHashed kind some) = AsksHashed kind (λ none. some (hashed_same kind ∙ none))
  nothing_new (AsksIndexed kind some) = AsksIndexed kind (λ none. some (indexed_same kind ∙ none))
  nothing_new (AsksTarget link kind offset there) =
      AsksTarget link kind offset (sym (inode_same (kind_extent key kind)) ∙ there)

-- ---- the whole change

module _ (before after : List Item) (was is : Data) (old new : Subvolume) (names : List FlatName) (inos : List ℕ) (rise : ItemsRise before) (rises : ItemsRise after) (are : AreItemsOf before was old) (changes : ChangesOnly old new names inos) (stays : (key : Key) → is_touched names inos key ≡ false → data_under key after ≡ data_under key before) (data_stay : (key : Key) (bytes : List ℕ) → is_touched names inos key ≡ false → key.kind ≡ extent_data → Contains before (key, bytes) → (at : ℕ) → Contains (item_addresses (key, bytes)) at → was at ≡ is at) (touched : (key : Key) → is_touched names inos key ≡ true → HoldsKey new is key (data_under key after)) (extents : (ino : ℕ) → Contains inos ino → HoldsExtents new after ino) where
  untouched_holds : (key : Key) → is_touched names inos key ≡ false → HoldsKey new is key (data_under key after)
  untouched_holds key out =
      let held : HoldsKey old was key (data_under key before) = keys_hold before was old rise are key in
      record {
        only = λ bytes found.
            let there : data_under key before ≡ Some bytes = sym (stays key out) ∙ found in
            still_asked old new names inos changes key out was is bytes (λ kind. data_stay key bytes out kind (contains_under before key bytes there)) (held.only bytes there);
        all = λ asks. subst (λ (o : Option (List ℕ)). IsSome o) (sym (stays key out)) (held.all (nothing_new old new names inos changes key out asks));
      }

  key_holds : (key : Key) → HoldsKey new is key (data_under key after)
  key_holds key = elim (cases_Bool (is_touched names inos key)) [ inl there ↦ touched key there | inr out ↦ untouched_holds key out ]

  extent_untouched : (ino offset : ℕ) → (Contains inos ino → ⊥) → is_touched names inos (make_key ino extent_data offset) ≡ false
  extent_untouched ino offset out =
      let key : Key = make_key ino extent_data offset in
      let by_name : list_any (λ (name : FlatName). does_name_count name key) names ≡ false = list_any_none (λ (name : FlatName). does_name_count name key) names (λ k d within. refl) in
      let each : All (λ (other : ℕ). does_inode_count other key ≡ false) inos = All-weaker (Contains inos) (λ (other : ℕ). does_inode_count other key ≡ false) (λ other there. ap (λ (b : Bool). b && true) (ne_eqb ino other (λ same. out (subst (λ (n : ℕ). Contains inos n) (sym same) there)))) inos (All-contains_itself inos) in
      rw by_name (list_any_none (λ (other : ℕ). does_inode_count other key) inos each)

  goes : (ino offset : ℕ) (bytes : List ℕ) → (Contains inos ino → ⊥) → Contains before (make_key ino extent_data offset, bytes) → Contains after (make_key ino extent_data offset, bytes)
  goes ino offset bytes out there =
      let key : Key = make_key ino extent_data offset in
      contains_under after key bytes (stays key (extent_untouched ino offset out) ∙ found_under before key bytes rise there)

  comes : (ino offset : ℕ) (bytes : List ℕ) → (Contains inos ino → ⊥) → Contains after (make_key ino extent_data offset, bytes) → Contains before (make_key ino extent_data offset, bytes)
  comes ino offset bytes out there =
      let key : Key = make_key ino extent_data offset in
      contains_under before key bytes (sym (stays key (extent_untouched ino offset out)) ∙ found_under after key bytes rises there)

  extents_stay : (ino : ℕ) → (Contains inos ino → ⊥) → HoldsExtents new after ino
  extents_stay ino out =
      let held : HoldsExtents old before ino = extents_hold before was old are ino in
      record {
        covered = λ file number block there has.
            let cover : CoversBlock before ino number = held.covered file number block (sym (changes.inodes_stay ino out) ∙ there) has in
            record { offset = cover.offset; bytes = cover.bytes; there = goes ino cover.offset cover.bytes out cover.there; from = cover.from; to = cover.to };
        apart = λ one two first second a b less. held.apart one two first second (comes ino one first out a) (comes ino two second out b) less;
      }

  extents_of : (ino : ℕ) → HoldsExtents new after ino
  extents_of ino =
      elim (is_in inos ino) [ inl there ↦ extents ino there | inr out ↦ extents_stay ino out ]

  pub change_holds : AreItemsOf after is new
  change_holds = items_from_keys after is new rises key_holds extents_of
