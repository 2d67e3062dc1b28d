-- An edit of a file's extents and one of its inode item behind it make another file of it.
use Rattle.std.proofs.Common.{◌≡◌, ◌≢◌, ◌⊎◌, ◌≤◌, ◌<◌, ◌+◌, ◌*◌, ◌/◌, ◌&&◌, ◌||◌, ℕ, Bool, true, false, List, [], ◌∷◌, ◌++◌, length, map, Option, Some, None, nat_eq, refl, sym, ap, subst, ◌∙◌, arith, inl, inr}
use Rattle.std.specs.Prelude.{◌==◌, All, Contains, IsSome, filter}
use Rattle.std.specs.FinMap.{entries, get, insert}
use Rattle.std.proofs.lemmas.Bool.{and_parts, cases_eq, eq-eqb, eqb-true, true≢false}
use Rattle.blk_base.specs.declared.key.Key.{Key}
use Rattle.blk_base.specs.Crc.{name_hash_of}
use Rattle.blk_base.specs.Entries.{EntryValue}
use Rattle.blk_base.specs.Extents.{Regular, extent_of}
use Rattle.blk_base.specs.Items.{InodeValue, IsInode, inode_bytes}
use Rattle.blk_base.specs.Keys.{extent_data, inode_item, xattr_item}
use Rattle.blk_base.specs.Leaf.{Item}
use Rattle.blk_base.specs.Trees.{NoneTwice}
use Rattle.block_table.specs.declared.tree.SubState.{SubState}
use Rattle.block_table.specs.declared.tree.Tree.{Tree}
use Rattle.block_table.specs.Table.{Table}
use Rattle.block_table.specs.TreeIn.{IsTaken, block_at}
use Rattle.flat_model.specs.Operations.{with_record}
use Rattle.flat_model.specs.Records.{Attributes, FileInode, FileRecord, InodeRecord, LinkInode, LinkRecord}
use Rattle.flat_model.specs.Volume.{RunSub, Subvolume}
use Rattle.flat_model.proofs.Maps.{get_insert_same, some_same}
use Rattle.tree_range.specs.Between.{data_under}
use Rattle.tree_range.specs.Shape.{AreAlike, tree_items, tree_reach}
use Rattle.tree_range.proofs.Found.{contains_under}
use Rattle.tree_range.proofs.Rise.{All-right}
use Rattle.tree_frame.specs.Frame.{AreCurrent, IsEdit}
use Rattle.tree_frame.proofs.EditLaws.{edits_join}
use Rattle.item_edit.specs.ItemEdit.{BearsUnder, IsItemEdit}
use Rattle.item_edit.proofs.Files.{now_here, now_other, same_files}
use Rattle.item_laws.specs.ExtentLaws.{extent_from}
use Rattle.volume_image.specs.Subvolume.{AreItemsOf, AttributesAsked, ExtentAsked, HasEntries, InodeAsked, IsAsked, IsInodeOf, attribute_entry, attributes_asked, attributes_there, entry_kind_of, extent_len, make_key}
use Rattle.volume_image.proofs.Asked.{asked_attributes, asked_inode}
use Rattle.volume_image.proofs.Extents.{extent_len_regular}
use Rattle.volume_image.proofs.Lists.{in_cons, in_nothing}
use Rattle.table_volume.specs.Edited.{IsSubEdit, Makes}
use Rattle.table_volume.specs.Gives.{data_in, sub_reach, tree_data}
use Rattle.table_volume.specs.Keyed.{AsksAttributes, AsksExtRefs, AsksHashed, AsksIndexed, AsksInode, AsksRefs, AsksTarget, DoesAsk, HoldsExtents, HoldsKey, is_touched}
use Rattle.table_volume.specs.TreeEdit.{IsTreeEdit}
use Rattle.table_volume.proofs.Changes.{record_written}
use Rattle.table_volume.proofs.Changing.{change_holds}
use Rattle.table_volume.proofs.Items.{bear_joined}
use Rattle.table_volume.proofs.Keyed.{found_under, keys_hold}
use Rattle.table_volume.proofs.SubEdits.{clean_joined, tree_keeps_clean}
use Rattle.file_extents.specs.Extents.{HasRun, HoldContents, IsBeside, IsContentEdit, IsRunItem}
use Rattle.file_extents.proofs.Held.{IsHeldWith, data_same, files_alike, held_after, held_with, in_data, run_in_data, same_block, tree_and_files}
use Rattle.file_contents.specs.Given.{GivesFile}
use Rattle.file_contents.specs.Joined.{AreJoined}

-- ---- keys

key_is : (key : Key) (ino kind : ℕ) → key.objectid ≡ ino → key.kind ≡ kind → key ≡ make_key ino kind key.offset
key_is key ino kind o k i = record { objectid = o i; kind = k i; offset = key.offset }

record TellsOf (ino : ℕ) (key : Key) : Type 0 where
  objectid : key.objectid ≡ ino
  kind : (key.kind ≡ inode_item) ⊎ ((key.kind ≡ xattr_item) ⊎ (key.kind ≡ extent_data))

or_nothing : (b : Bool) → (b || false) ≡ true → b ≡ true
or_nothing true h = refl
or_nothing false h = h

either_true : (a b : Bool) → (a || b) ≡ true → (a ≡ true) ⊎ (b ≡ true)
either_true true b h = inl refl
either_true false b h = inr h

tells_of : (ino : ℕ) (key : Key) → is_touched [] (ino ∷ []) key ≡ true → TellsOf ino key
tells_of ino key h =
    let both = and_parts (nat_eq key.objectid ino) ((key.kind == inode_item) || (key.kind == xattr_item) || (key.kind == extent_data)) (or_nothing _ h) in
    record {
      objectid = eqb-true key.objectid ino both.0;
      kind = elim (either_true ((key.kind == inode_item) || (key.kind == xattr_item)) (key.kind == extent_data) both.1) [
        | inl early ↦ elim (either_true (key.kind == inode_item) (key.kind == xattr_item) early) [
          | inl inode ↦ inl (eqb-true key.kind inode_item inode)
          | inr xattr ↦ inr (inl (eqb-true key.kind xattr_item xattr))
        ]
        | inr extent ↦ inr (inr (eqb-true key.kind extent_data extent))
      ];
    }

touched_inode : (ino : ℕ) → is_touched [] (ino ∷ []) (make_key ino inode_item 0) ≡ true
touched_inode ino = rw (eq-eqb ino ino refl) refl

touched_extent : (ino : ℕ) (key : Key) → key.objectid ≡ ino → key.kind ≡ extent_data → is_touched [] (ino ∷ []) key ≡ true
touched_extent ino key o k = ap (is_touched [] (ino ∷ [])) (key_is key ino extent_data o k) ∙ rw (eq-eqb ino ino refl) refl

extent_is_other : (ino offset : ℕ) → make_key ino extent_data offset ≢ make_key ino inode_item 0
extent_is_other ino offset e = let k : ◌≡◌ {A = ℕ} 108 1 = ap (λ (key : Key). key.kind) e in absurd (omega (arith, k))

-- ---- what a subvolume asks for

attributes_ask : (sub : Subvolume) (key : Key) → key.kind ≡ xattr_item → DoesAsk sub key → attributes_asked sub key.objectid key.offset ≢ []
attributes_ask sub key k (AsksInode _ l _ _) = absurd (omega arith)
attributes_ask sub key k (AsksRefs l _) = absurd (omega arith)
attributes_ask sub key k (AsksExtRefs l _) = absurd (omega arith)
attributes_ask sub key k (AsksAttributes l some) = some
attributes_ask sub key k (AsksHashed l _) = absurd (omega arith)
attributes_ask sub key k (AsksIndexed l _) = absurd (omega arith)
attributes_ask sub key k (AsksTarget _ l _ _) = absurd (omega arith)

target_asks : (sub : Subvolume) (key : Key) → key.kind ≡ extent_data → DoesAsk sub key → (link : LinkRecord) × (get sub.inodes key.objectid ≡ Some (LinkInode link))
target_asks sub key k (AsksInode _ l _ _) = absurd (omega arith)
target_asks sub key k (AsksRefs l _) = absurd (omega arith)
target_asks sub key k (AsksExtRefs l _) = absurd (omega arith)
target_asks sub key k (AsksAttributes l _) = absurd (omega arith)
target_asks sub key k (AsksHashed l _) = absurd (omega arith)
target_asks sub key k (AsksIndexed l _) = absurd (omega arith)
target_asks sub key k (AsksTarget link l zero there) = (link, there)

inode_asks : (sub : Subvolume) (key : Key) → key.kind ≡ inode_item → DoesAsk sub key → key.offset ≡ 0
inode_asks sub key k (AsksInode _ l zero _) = zero
inode_asks sub key k (AsksRefs l _) = absurd (omega arith)
inode_asks sub key k (AsksExtRefs l _) = absurd (omega arith)
inode_asks sub key k (AsksAttributes l _) = absurd (omega arith)
inode_asks sub key k (AsksHashed l _) = absurd (omega arith)
inode_asks sub key k (AsksIndexed l _) = absurd (omega arith)
inode_asks sub key k (AsksTarget _ l _ _) = absurd (omega arith)

-- ---- the edits

-- the extents of a file are edited, and then its inode item, so that they are those of another file
pub record IsRewrite (old mid new : Table) (before after : SubState) (middle : Tree) (run : RunSub) (ino most : ℕ) (file next : FileRecord) (value : InodeValue) : Type 0 where
  pub is : GivesFile old before run ino file
  pub content : IsContentEdit old mid before.tree middle before.running ino most
  pub holds : HoldContents (tree_items mid middle) (data_in mid) ino (get next.blocks)
  pub item : IsItemEdit mid new middle after.tree (make_key ino inode_item 0) (Some (inode_bytes value))
  pub spelled : IsInode (inode_bytes value) value
  pub transid : value.transid ≡ before.running
  pub right : IsInodeOf (with_record run.sub ino (FileInode next)) ino (FileInode next) (inode_bytes value)
  pub attributes : next.attributes ≡ file.attributes
  pub running : after.running ≡ before.running

module _ (old mid new : Table) (before after : SubState) (middle : Tree) (run : RunSub) (ino most : ℕ) (file next : FileRecord) (value : InodeValue) (h : IsRewrite old mid new before after middle run ino most file next value) where
  abbrev inode_key : Key
  inode_key = make_key ino inode_item 0

  abbrev was_items : List Item
  was_items = tree_items old before.tree

  abbrev mid_items : List Item
  mid_items = tree_items mid middle

  abbrev now_items : List Item
  now_items = tree_items new after.tree

  abbrev changed : Subvolume
  changed = with_record run.sub ino (FileInode next)

  bears : BearsUnder before.running mid_items inode_key (inode_bytes value)
  bears = record {
    inode = λ kind. ap (λ (v : InodeValue). v.transid) h.spelled.value ∙ h.transid;
    entries = λ found kind spelled. absurd (elim kind [ inl a ↦ omega arith | inr b ↦ elim b [ inl a ↦ omega arith | inr c ↦ omega arith ] ]);
    extent = λ kind. absurd (omega arith);
  }

  tree_edit : IsTreeEdit mid new middle after.tree before.running 17
  tree_edit = h.item.edit before.running (λ bytes is. subst (λ (b : List ℕ). BearsUnder before.running mid_items inode_key b) (some_same (inode_bytes value) bytes is) bears)

  files_now : tree_data new after.tree ≡ tree_data mid middle
  files_now = same_files mid new middle after.tree inode_key (Some (inode_bytes value)) h.content.held.stands h.item (λ e. absurd (omega (arith, e)))

  held_mid : IsHeldWith mid middle (tree_data mid middle)
  held_mid = held_with mid middle h.content.held

  held_new : IsHeldWith new after.tree (tree_data mid middle)
  held_new = held_after mid new middle after.tree before.running 17 (tree_data mid middle) held_mid tree_edit

  reach_now : tree_reach new after.tree ++ tree_data mid middle ≡ sub_reach new after.tree
  reach_now = ap (λ (l : List ℕ). tree_reach new after.tree ++ l) (sym files_now)

  alike : AreAlike mid new (tree_data mid middle)
  alike = files_alike mid new middle after.tree before.running 17 (tree_data mid middle) held_mid tree_edit

  pub sub_edit : IsSubEdit old new before after (most + 17)
  sub_edit = record {
    edit = edits_join old mid new (sub_reach old before.tree) (sub_reach mid middle) (sub_reach new after.tree) h.content.edit
        (subst (λ (l : List ℕ). IsEdit mid new (sub_reach mid middle) l) reach_now (tree_and_files mid new middle after.tree before.running 17 (tree_data mid middle) held_mid tree_edit));
    current = subst (λ (l : List ℕ). AreCurrent new l) reach_now held_new.current;
    kept = clean_joined old mid new before.tree middle after.tree h.content.kept (tree_keeps_clean mid new middle after.tree tree_edit.edit);
    sealed = λ fsid was s. let middle = h.content.sealed fsid was s in tree_edit.sealed fsid middle.0 middle.1;
    owner = tree_edit.owner ∙ h.content.owner;
    running = h.running;
    bear = bear_joined before.running was_items mid_items now_items h.content.bear tree_edit.bear;
    taken = record { spare = omega (arith, h.content.taken.spare, tree_edit.taken.spare); free = omega (arith, h.content.taken.free, tree_edit.taken.free) };
  }

  -- ---- the extents

  under_mid : (key : Key) → key ≢ inode_key → data_under key now_items ≡ data_under key mid_items
  under_mid key other = now_other mid new middle after.tree inode_key key (Some (inode_bytes value)) h.item other

  pub run_stays : (begin at count : ℕ) → HasRun mid_items ino begin at count → HasRun now_items ino begin at count
  run_stays begin at count r = record { bytes = r.bytes; there = under_mid (make_key ino extent_data (4096 * begin)) (extent_is_other ino (4096 * begin)) ∙ r.there; read = r.read }

  pub run_was : (begin at count : ℕ) → HasRun now_items ino begin at count → HasRun mid_items ino begin at count
  run_was begin at count r = record { bytes = r.bytes; there = sym (under_mid (make_key ino extent_data (4096 * begin)) (extent_is_other ino (4096 * begin))) ∙ r.there; read = r.read }

  pub joined_stays : (from to : ℕ) → AreJoined (HasRun mid_items ino) from to → AreJoined (HasRun now_items ino) from to
  joined_stays from to joined b a n b2 a2 n2 r r2 = joined b a n b2 a2 n2 (run_was b a n r) (run_was b2 a2 n2 r2)

  data_stays : (at : ℕ) → Contains (tree_data mid middle) at → data_in new at ≡ data_in mid at
  data_stays at c = data_same mid new at (same_block mid new (tree_data mid middle) at alike c)

  holds_now : HoldContents now_items (data_in new) ino (get next.blocks)
  holds_now = record {
    each = λ offset bytes found.
        let r = h.holds.each offset bytes (sym (under_mid (make_key ino extent_data offset) (extent_is_other ino offset)) ∙ found) in
        record { begin = r.begin; at = r.at; count = r.count; offset_is = r.offset_is; run = run_stays r.begin r.at r.count r.run };
    are = record {
      holds = λ begin at count i r less.
          let old_run = run_was begin at count r in
          let block = h.holds.are.holds begin at count i old_run less in
          (block.0, data_stays (at + 4096 * i) (run_in_data mid_items ino begin at count i old_run less) ∙ block.1, block.2);
      covered = λ number block has.
          let c = h.holds.are.covered number block has in
          record { begin = c.begin; at = c.at; count = c.count; run = run_stays c.begin c.at c.count c.run; from = c.from; to = c.to };
      apart = λ one at count two other more a b less. h.holds.are.apart one at count two other more (run_was one at count a) (run_was two other more b) less;
    };
  }

  -- ---- the items key by key

  there_now : (i : ℕ) → i ≡ ino → get changed.inodes i ≡ Some (FileInode next)
  there_now i same = ap (get changed.inodes) same ∙ get_insert_same run.sub.inodes ino (FileInode next)

  there_was : (i : ℕ) → i ≡ ino → get run.sub.inodes i ≡ Some (FileInode file)
  there_was i same = ap (get run.sub.inodes) same ∙ h.is.there

  was_held : (key : Key) → HoldsKey run.sub (data_in old) key (data_under key was_items)
  was_held key = keys_hold was_items (data_in old) run.sub h.is.gives.gives.tree_in.order h.is.gives.gives.items key

  under_old : (key : Key) → key ≢ inode_key → IsBeside ino key → data_under key now_items ≡ data_under key was_items
  under_old key other beside = under_mid key other ∙ h.content.others key beside

  at_inode : (key : Key) → key.objectid ≡ ino → key.kind ≡ inode_item → HoldsKey changed (data_in new) key (data_under key now_items)
  at_inode key o k = elim (cases_eq key.offset 0) [
    | inl zero ↦
        let same : key ≡ inode_key = key_is key ino inode_item o k ∙ ap (make_key ino inode_item) zero in
        let found : data_under key now_items ≡ Some (inode_bytes value) = ap (λ (x : Key). data_under x now_items) same ∙ now_here mid new middle after.tree inode_key (Some (inode_bytes value)) h.item in
        let right : IsInodeOf changed key.objectid (FileInode next) (inode_bytes value) = subst (λ (i : ℕ). IsInodeOf changed i (FileInode next) (inode_bytes value)) (sym o) h.right in
        record {
          only = λ bytes is.
              subst (λ (b : List ℕ). IsAsked changed (data_in new) key b) (some_same (inode_bytes value) bytes (sym found ∙ is)) (InodeAsked (FileInode next) k zero (there_now key.objectid o) right);
          all = λ asks. ap (λ (x : Option (List ℕ)). Rattle.std.specs.Option.is_some x) found;
        }
    | inr other ↦
        let same = under_old key (λ e. other (ap (λ (x : Key). x.offset) e)) (λ a b. omega (arith, k, b)) in
        record {
          only = λ bytes is. absurd (other (asked_inode run.sub (data_in old) key bytes k ((was_held key).only bytes (sym same ∙ is))).1);
          all = λ asks. absurd (other (inode_asks changed key k asks));
        }
  ]

  attributes_same : (i hash : ℕ) → i ≡ ino → attributes_asked changed i hash ≡ attributes_asked run.sub i hash
  attributes_same i hash same =
      let both : attributes_there (get changed.inodes i) ≡ attributes_there (get run.sub.inodes i) =
      ap attributes_there (there_now i same) ∙ ap (λ (a : Attributes). entries a) h.attributes ∙ sym (ap attributes_there (there_was i same)) in
      ap (λ (l : List (List ℕ × List ℕ)). map attribute_entry (filter (λ attribute. nat_eq (name_hash_of attribute.0) hash) l)) both

  at_attribute : (key : Key) → key.objectid ≡ ino → key.kind ≡ xattr_item → HoldsKey changed (data_in new) key (data_under key now_items)
  at_attribute key o k =
      let same = under_old key (λ e. let w = ap (λ (x : Key). x.kind) e in absurd (omega (arith, k, w))) (λ a b. omega (arith, k, b)) in
      let asked = attributes_same key.objectid key.offset o in
      record {
        only = λ bytes is.
            AttributesAsked k (subst (λ (l : List EntryValue). HasEntries xattr_item bytes l) (sym asked) (asked_attributes run.sub (data_in old) key bytes k ((was_held key).only bytes (sym same ∙ is))));
        all = λ asks. subst (λ (x : Option (List ℕ)). IsSome x) (sym same) ((was_held key).all (AsksAttributes k (λ none. attributes_ask changed key k asks (asked ∙ none))));
      }

  extent_asked : (key : Key) (bytes : List ℕ) → key.objectid ≡ ino → key.kind ≡ extent_data → data_under key now_items ≡ Some bytes → IsAsked changed (data_in new) key bytes
  extent_asked key bytes o k found =
      let is = key_is key ino extent_data o k in
      let r : IsRunItem now_items ino key.offset = holds_now.each key.offset bytes (ap (λ (x : Key). data_under x now_items) (sym is) ∙ found) in
      let where_is : make_key ino extent_data (4096 * r.begin) ≡ key = ap (make_key ino extent_data) (sym r.offset_is) ∙ sym is in
      let same : r.run.bytes ≡ bytes = some_same r.run.bytes bytes (sym r.run.there ∙ ap (λ (x : Key). data_under x now_items) where_is ∙ found) in
      let read : extent_of key bytes ≡ Rattle.std.proofs.Common.Ok (Regular r.at 0 (4096 * r.count)) = (λ i. extent_of (sym where_is i) (sym same i)) ∙ r.run.read in
      ExtentAsked (FileInode next) k (there_now key.objectid o) (
        r.at,
        4096 * r.count,
        extent_from key bytes (Regular r.at 0 (4096 * r.count)) read,
        λ i less.
            let block = holds_now.are.holds r.begin r.at r.count i r.run (omega (arith, less)) in
            (block.0, block.1, ap (λ (n : ℕ). get next.blocks (n + i)) (omega (arith, r.offset_is)) ∙ block.2),
      )

  at_extent : (key : Key) → key.objectid ≡ ino → key.kind ≡ extent_data → HoldsKey changed (data_in new) key (data_under key now_items)
  at_extent key o k = record {
    only = λ bytes found. extent_asked key bytes o k found;
    all = λ asks.
        let link = target_asks changed key k asks in
        absurd (no_link next link.0 (some_same (FileInode next) (LinkInode link.0) (sym (there_now key.objectid o) ∙ link.1)));
  }
    where
      no_link : (f : FileRecord) (l : LinkRecord) → FileInode f ≡ LinkInode l → ⊥
      no_link f l e = cc

  at_touched : (key : Key) → is_touched [] (ino ∷ []) key ≡ true → HoldsKey changed (data_in new) key (data_under key now_items)
  at_touched key there =
      let t = tells_of ino key there in
      elim t.kind [
        | inl k ↦ at_inode key t.objectid k
        | inr more ↦ elim more [ inl k ↦ at_attribute key t.objectid k | inr k ↦ at_extent key t.objectid k ]
      ]

  len_is : (begin at count : ℕ) (r : HasRun now_items ino begin at count) → extent_len (make_key ino extent_data (4096 * begin)) r.bytes ≡ 4096 * count
  len_is begin at count r =
      extent_len_regular (make_key ino extent_data (4096 * begin)) r.bytes at 0 (4096 * count) (extent_from (make_key ino extent_data (4096 * begin)) r.bytes (Regular at 0 (4096 * count)) r.read)

  len_of : (offset : ℕ) (bytes : List ℕ) → data_under (make_key ino extent_data offset) now_items ≡ Some bytes → (r : IsRunItem now_items ino offset) → extent_len (make_key ino extent_data offset) bytes ≡ 4096 * r.count
  len_of offset bytes found r =
      let same : r.run.bytes ≡ bytes = some_same r.run.bytes bytes (sym r.run.there ∙ ap (λ (n : ℕ). data_under (make_key ino extent_data n) now_items) (sym r.offset_is) ∙ found) in
      (λ i. extent_len (make_key ino extent_data (r.offset_is i)) (sym same i)) ∙ len_is r.begin r.at r.count r.run

  extents_now : HoldsExtents changed now_items ino
  extents_now = record {
    covered = λ other number block there has.
        let same : next ≡ other = file_same next other (some_same (FileInode next) (FileInode other) (sym (there_now ino refl) ∙ there)) in
        let c = holds_now.are.covered number block (ap (λ (f : FileRecord). get f.blocks number) same ∙ has) in
        let size = len_is c.begin c.at c.count c.run in
        record {
          offset = 4096 * c.begin;
          bytes = c.run.bytes;
          there = contains_under now_items (make_key ino extent_data (4096 * c.begin)) c.run.bytes c.run.there;
          from = omega (arith, c.from);
          to = omega (arith, c.to, size);
        };
    apart = λ one two first second a b less.
        let found = found_under now_items (make_key ino extent_data one) first tree_edit.tree.order a in
        let other = found_under now_items (make_key ino extent_data two) second tree_edit.tree.order b in
        let r = holds_now.each one first found in
        let s = holds_now.each two second other in
        let size = len_of one first found r in
        let apart = holds_now.are.apart r.begin r.at r.count s.begin s.at s.count r.run s.run (omega (arith, r.offset_is, s.offset_is, less)) in
        omega (arith, size, apart, r.offset_is, s.offset_is);
  }
    where
      file_same : (f g : FileRecord) → FileInode f ≡ FileInode g → f ≡ g
      file_same f g e = ap (λ (r : InodeRecord). file_in r) e
        where
          file_in : InodeRecord → FileRecord
          file_in (FileInode x) = x
          file_in other = f

  -- ---- the whole

  untouched : (key : Key) → is_touched [] (ino ∷ []) key ≡ false → (key ≢ inode_key) × IsBeside ino key
  untouched key out = (
    λ e. true≢false (sym (touched_inode ino) ∙ ap (is_touched [] (ino ∷ [])) (sym e) ∙ out),
    λ o k. true≢false (sym (touched_extent ino key o k) ∙ out),
  )

  items_now : AreItemsOf now_items (data_in new) changed
  items_now =
      change_holds was_items now_items (data_in old) (data_in new) run.sub changed [] (ino ∷ []) h.is.gives.gives.tree_in.order tree_edit.tree.order h.is.gives.gives.items
      (record_written run.sub ino (FileInode next) (λ name c leads. sym (ap entry_kind_of h.is.there)))
      (λ key out. let u = untouched key out in under_old key u.0 u.1)
      (λ key bytes out kind c at in_item.
      let u = untouched key out in
      let found = found_under was_items key bytes h.is.gives.gives.tree_in.order c in
      let first : block_at mid at ≡ block_at old at = h.content.alike key bytes u.1 found at in_item in
      let second : block_at new at ≡ block_at mid at = same_block mid new (tree_data mid middle) at alike (in_data mid_items key bytes at (h.content.others key u.1 ∙ found) in_item) in
      sym (data_same old new at (second ∙ first)))
      at_touched
      (λ i c. elim (in_cons ino i [] c) [
        | inl same ↦ subst (λ (n : ℕ). HoldsExtents changed now_items n) same extents_now
        | inr none ↦ absurd (in_nothing i none)
      ])

  pub rewrite_makes : Makes old new before after (most + 17) (with_record run.sub ino (FileInode next))
  rewrite_makes = record {
    gives = record {
      tree_in = tree_edit.tree;
      items = items_now;
      data_taken = subst (λ (l : List ℕ). All (IsTaken new) l) (sym files_now) (All-right (IsTaken new) (tree_reach new after.tree) (tree_data mid middle) held_new.taken);
      once = subst NoneTwice reach_now held_new.once;
    };
    edit = sub_edit;
  }
