-- The data blocks that items lead to are as many as the files have: each block of a file is one of one item.
use Rattle.std.proofs.Common.{◌≡◌, ◌<◌, ◌≤◌, ◌+◌, ◌-◌, ◌/◌, ℕ, zero, suc, Bool, true, false, cond, List, [], ◌∷◌, length, map, flat_map, Contains, Some, Result, Ok, Err, nat_eq, refl, sym, ap, subst, ◌∙◌, inl, inr, arith}
use Rattle.std.specs.Cmp.{nat_cmp_total}
use Rattle.std.specs.FinMap.{entries, get, keys, len, len-entries, nat_cmp-IsAntisymmetric}
use Rattle.std.proofs.lemmas.Bool.{eqb-true, eqb-false}
use Rattle.std.proofs.lemmas.List.Elements.{All-contains}
use Rattle.blk_base.specs.declared.key.Key.{Key}
use Rattle.blk_base.specs.declared.fault.ItemFault.{ItemFault}
use Rattle.blk_base.specs.Keys.{KeyBelow, extent_data}
use Rattle.blk_base.specs.Leaf.{Item}
use Rattle.blk_base.specs.Trees.{ItemsRise}
use Rattle.blk_base.specs.Extents.{ExtentValue, Inline, Regular, Hole, extent_of}
use Rattle.leaf_view.specs.KeyOrder.{KeyBelow_parts}
use Rattle.item_laws.specs.ExtentLaws.{extent_to}
use Rattle.tree_range.proofs.Rise.{rise_head, rise_tail}
use Rattle.flat_model.specs.Records.{InodeRecord, FileInode, DirInode, LinkInode}
use Rattle.flat_model.specs.Volume.{Subvolume}
use Rattle.logged_volume.specs.FlatLog.{AreDistinct}
use Rattle.logged_volume.proofs.Counts.{keys_distinct, length_within}
use Rattle.volume_image.specs.Subvolume.{AreItemsOf, CoversBlock, Data, IsExtentOf, make_key, extent_len, run_addresses, item_addresses, data_addresses}
use Rattle.volume_image.proofs.Asked.{asked_extent}
use Rattle.volume_image.proofs.Extents.{extent_len_regular}
use Rattle.volume_image.proofs.Lists.{in_nothing, in_cons}
use Rattle.volume_image.proofs.Members.{get_in, in_get, in_map, map_in, flat_map_in}
use Rattle.volume_image.proofs.Reaches.{head_in, tail_in}
use Rattle.commit_room.specs.Items.{inode_blocks}
use Rattle.tree_counts.specs.Laws.{files_blocks}
use Rattle.tree_counts.proofs.Lists.{length_map, length_flat_map, same_sums, in_flat_map, distinct_append}

-- the blocks of an inode from a number on: the inode's number and the block's within the file
abbrev slots : ℕ → ℕ → ℕ → List (ℕ × ℕ)
slots ino number zero = []
slots ino number (suc count) = (ino, number) ∷ slots ino (suc number) count

abbrev item_slots : Item → List (ℕ × ℕ)
item_slots item = cond (nat_eq item.0.kind extent_data) (slots item.0.objectid (item.0.offset / 4096) (extent_len item.0 item.1 / 4096)) []

abbrev inode_slots : ℕ × InodeRecord → List (ℕ × ℕ)
inode_slots (ino, FileInode file) = map (λ (number : ℕ). (ino, number)) (keys file.blocks)
inode_slots (ino, DirInode dir) = []
inode_slots (ino, LinkInode link) = []

-- ---- runs of slots

record IsInRun (ino number count : ℕ) (slot : ℕ × ℕ) : Type 0 where
  pub inode : slot.0 ≡ ino
  pub from : number ≤ slot.1
  pub to : slot.1 < number + count

in_run : (ino number count : ℕ) (slot : ℕ × ℕ) → Contains (slots ino number count) slot → IsInRun ino number count slot
in_run ino number zero slot c = absurd (in_nothing slot c)
in_run ino number (suc count) slot c = elim (in_cons (ino, number) slot (slots ino (suc number) count) c) [
  | inl here ↦ subst (λ (s : ℕ × ℕ). IsInRun ino number (suc count) s) here (record { inode = refl; from = omega arith; to = omega arith })
  | inr there ↦ let rest = in_run ino (suc number) count slot there in record { inode = rest.inode; from = omega (arith, rest.from); to = omega (arith, rest.to) }
]

run_distinct : (ino number count : ℕ) → AreDistinct (slots ino number count)
run_distinct ino number zero = tt
run_distinct ino number (suc count) = (
  (λ c. let within = in_run ino (suc number) count (ino, number) c in let low = within.from in absurd (omega (arith, low))),
  run_distinct ino (suc number) count,
)

run_length : (ino number count : ℕ) → length (slots ino number count) ≡ count
run_length ino number zero = refl
run_length ino number (suc count) = let rest = run_length ino (suc number) count in omega (arith, rest)

addresses_length : (at count : ℕ) → length (run_addresses at count) ≡ count
addresses_length at zero = refl
addresses_length at (suc count) = let rest = addresses_length (at + 4096) count in omega (arith, rest)

-- ---- of an item

same_length : (item : Item) → length (item_addresses item) ≡ length (item_slots item)
same_length item = go (nat_eq item.0.kind extent_data) refl (extent_of item.0 item.1) refl
  where
    go : (b : Bool) → nat_eq item.0.kind extent_data ≡ b → (value : Result ExtentValue ItemFault) → extent_of item.0 item.1 ≡ value → length (item_addresses item) ≡ length (item_slots item)
    go false e value is = rw e refl
    go true e (Ok (Inline content)) is = rw (e, is) refl
    go true e (Ok (Regular at offset len)) is =
        rw (e, is) (addresses_length at (len / 4096) ∙ sym (run_length item.0.objectid (item.0.offset / 4096) (len / 4096)))
    go true e (Ok (Hole len)) is = rw (e, is) refl
    go true e (Err fault) is = rw (e, is) refl

record IsInItem (item : Item) (slot : ℕ × ℕ) : Type 0 where
  pub kind : item.0.kind ≡ extent_data
  pub run : IsInRun item.0.objectid (item.0.offset / 4096) (extent_len item.0 item.1 / 4096) slot

in_item : (item : Item) (slot : ℕ × ℕ) → Contains (item_slots item) slot → IsInItem item slot
in_item item slot c = go (nat_eq item.0.kind extent_data) refl c
  where
    go : (b : Bool) → nat_eq item.0.kind extent_data ≡ b → Contains (cond b (slots item.0.objectid (item.0.offset / 4096) (extent_len item.0 item.1 / 4096)) []) slot → IsInItem item slot
    go true e c = record { kind = eqb-true item.0.kind extent_data e; run = in_run item.0.objectid (item.0.offset / 4096) (extent_len item.0 item.1 / 4096) slot c }
    go false e c = absurd (in_nothing slot c)

item_distinct : (item : Item) → AreDistinct (item_slots item)
item_distinct item = elim (nat_eq item.0.kind extent_data) as (λ b. AreDistinct (cond b (slots item.0.objectid (item.0.offset / 4096) (extent_len item.0 item.1 / 4096)) [])) [
  | true ↦ run_distinct item.0.objectid (item.0.offset / 4096) (extent_len item.0 item.1 / 4096)
  | false ↦ tt
]

-- ---- of all items

-- no block of a file is one of two items
abbrev AreApart : List Item → Type 0
AreApart items = (one two : Item) → Contains items one → Contains items two → KeyBelow one.0 two.0 → (slot : ℕ × ℕ) → Contains (item_slots one) slot → Contains (item_slots two) slot → ⊥

slots_distinct : (items : List Item) → ItemsRise items → AreApart items → AreDistinct (flat_map item_slots items)
slots_distinct [] rise apart = tt
slots_distinct (item ∷ items) rise apart =
    distinct_append (item_slots item) (flat_map item_slots items) (item_distinct item)
    (slots_distinct items (rise_tail item items rise) (λ one two c d below slot in_one in_two. apart one two (tail_in item one items c) (tail_in item two items d) below slot in_one in_two))
    (λ slot c d.
    let other = in_flat_map item_slots items slot d in
    let below = All-contains (λ (other : Item). KeyBelow item.0 other.0) items other.0 (rise_head item items rise) other.1 in
    apart item other.0 (head_in item items) (tail_in item other.0 items other.1) below slot c other.2)

module _ (items : List Item) (blocks : Data) (sub : Subvolume) (are : AreItemsOf items blocks sub) where
  key_is : (key : Key) (ino : ℕ) → ino ≡ key.objectid → key.kind ≡ extent_data → make_key ino extent_data key.offset ≡ key
  key_is key ino o k = λ i. record { objectid = o i; kind = sym k i; offset = key.offset }

  apart_keys : (one two : Key) (first second : List ℕ) → Contains items (one, first) → Contains items (two, second) → one.kind ≡ extent_data → two.kind ≡ extent_data → two.objectid ≡ one.objectid → one.offset < two.offset
      → one.offset + extent_len one first ≤ two.offset
  apart_keys one two first second c d k l same less =
      let here = key_is one two.objectid same k in
      let there = key_is two two.objectid refl l in
      subst (λ (key : Key). one.offset + extent_len key first ≤ two.offset) here
      (are.apart two.objectid one.offset two.offset first second
      (subst (λ (key : Key). Contains items (key, first)) (sym here) c) (subst (λ (key : Key). Contains items (key, second)) (sym there) d) less)

  items_apart : AreApart items
  items_apart one two c d below slot in_one in_two =
      let a = in_item one slot in_one in
      let b = in_item two slot in_two in
      let same : two.0.objectid ≡ one.0.objectid = sym b.run.inode ∙ a.run.inode in
      let kinds : one.0.kind ≡ two.0.kind = a.kind ∙ sym b.kind in
      let parts = KeyBelow_parts one.0 two.0 below in
      let less : one.0.offset < two.0.offset = grind (arith, parts, same, kinds) in
      let gap = apart_keys one.0 two.0 one.1 two.1 c d a.kind b.kind same less in
      let high = a.run.to in
      let low = b.run.from in
      absurd (omega (arith, gap, high, low))

  -- each is a block of a file
  slot_there : (slot : ℕ × ℕ) → Contains (flat_map item_slots items) slot → Contains (flat_map inode_slots (entries sub.inodes)) slot
  slot_there slot c =
      let item = in_flat_map item_slots items slot c in
      let within = in_item item.0 slot item.2 in
      let asked = asked_extent sub blocks item.0.0 item.0.1 within.kind (are.only item.0.0 item.0.1 item.1) in
      go item.0.0 item.0.1 within.run asked.0 asked.1 asked.2
    where
      go : (key : Key) (bytes : List ℕ) → IsInRun key.objectid (key.offset / 4096) (extent_len key bytes / 4096) slot → (inode : InodeRecord) → get sub.inodes key.objectid ≡ Some inode → IsExtentOf blocks inode key bytes
          → Contains (flat_map inode_slots (entries sub.inodes)) slot
      go key bytes run (FileInode file) there says =
          let len_is = extent_len_regular key bytes says.0 0 says.1 says.2 in
          let low = run.from in
          let high = run.to in
          let below : slot.1 - key.offset / 4096 < says.1 / 4096 = omega (arith, low, high, len_is) in
          let block = says.3 (slot.1 - key.offset / 4096) below in
          let number : key.offset / 4096 + (slot.1 - key.offset / 4096) ≡ slot.1 = omega (arith, low) in
          let here : get file.blocks slot.1 ≡ Some block.0 = subst (λ (n : ℕ). get file.blocks n ≡ Some block.0) number block.2 in
          let among = map_in (λ (e : ℕ × List ℕ). e.0) (entries file.blocks) (slot.1, block.0) (get_in nat_cmp_total nat_cmp-IsAntisymmetric file.blocks slot.1 block.0 here) in
          let own = map_in (λ (number : ℕ). (key.objectid, number)) (keys file.blocks) slot.1 among in
          flat_map_in inode_slots (entries sub.inodes) (key.objectid, FileInode file) slot (get_in nat_cmp_total nat_cmp-IsAntisymmetric sub.inodes key.objectid (FileInode file) there)
          (subst (λ (s : ℕ × ℕ). Contains (inode_slots (key.objectid, FileInode file)) s) (λ i. (sym run.inode i, slot.1)) own)
      go key bytes run (DirInode dir) there says = absurd says
      go key bytes run (LinkInode link) there says =
          let read = extent_to key bytes (Inline link.target) says in
          let none : extent_len key bytes ≡ 0 = rw read refl in
          let low = run.from in
          let high = run.to in
          absurd (omega (arith, low, high, none))

inode_length : (ino : ℕ) (inode : InodeRecord) → length (inode_slots (ino, inode)) ≡ inode_blocks inode
inode_length ino (FileInode file) =
    length_map (λ (number : ℕ). (ino, number)) (keys file.blocks) ∙ length_map (λ (e : ℕ × List ℕ). e.0) (entries file.blocks) ∙ sym (len-entries file.blocks)
inode_length ino (DirInode dir) = refl
inode_length ino (LinkInode link) = refl

-- ---- the other way: each block of a file is one of an item's

run_has : (ino number count n : ℕ) → number ≤ n → n < number + count → Contains (slots ino number count) (ino, n)
run_has ino number zero n low high = absurd (omega (arith, low, high))
run_has ino number (suc count) n low high = go (nat_eq n number) refl (λ above. run_has ino (suc number) count n above (omega (arith, high)))
  where
    go : (b : Bool) → nat_eq n number ≡ b → (suc number ≤ n → Contains (slots ino (suc number) count) (ino, n)) → Contains ((ino, number) ∷ slots ino (suc number) count) (ino, n)
    go true e later = subst (λ (k : ℕ). Contains ((ino, number) ∷ slots ino (suc number) count) (ino, k)) (sym (eqb-true n number e)) (head_in (ino, number) (slots ino (suc number) count))
    go false e later = let other = eqb-false n number e in tail_in (ino, number) (ino, n) (slots ino (suc number) count) (later (grind (arith, low, other)))

pairs_distinct : (ino : ℕ) (numbers : List ℕ) → AreDistinct numbers → AreDistinct {X = ℕ × ℕ} (map (λ (number : ℕ). (ino, number)) numbers)
pairs_distinct ino [] distinct = tt
pairs_distinct ino (n ∷ numbers) distinct = (
  (λ c.
      let other = in_map (λ (number : ℕ). (ino, number)) numbers (ino, n) c in
      let same : other.0 ≡ n = ap (λ (slot : ℕ × ℕ). slot.1) other.2 in
      distinct.0 (subst (λ (k : ℕ). Contains numbers k) same other.1)),
  pairs_distinct ino numbers distinct.1,
)

inode_distinct : (ino : ℕ) (inode : InodeRecord) → AreDistinct (inode_slots (ino, inode))
inode_distinct ino (FileInode file) = pairs_distinct ino (keys file.blocks) (keys_distinct file.blocks)
inode_distinct ino (DirInode dir) = tt
inode_distinct ino (LinkInode link) = tt

own_inode : (ino : ℕ) (inode : InodeRecord) (slot : ℕ × ℕ) → Contains (inode_slots (ino, inode)) slot → slot.0 ≡ ino
own_inode ino (FileInode file) slot c = let from = in_map (λ (number : ℕ). (ino, number)) (keys file.blocks) slot c in sym (ap (λ (s : ℕ × ℕ). s.0) from.2)
own_inode ino (DirInode dir) slot c = absurd (in_nothing slot c)
own_inode ino (LinkInode link) slot c = absurd (in_nothing slot c)

files_distinct : (inodes : List (ℕ × InodeRecord)) → AreDistinct (map (λ (entry : ℕ × InodeRecord). entry.0) inodes) → AreDistinct (flat_map inode_slots inodes)
files_distinct [] distinct = tt
files_distinct (entry ∷ inodes) distinct =
    distinct_append (inode_slots entry) (flat_map inode_slots inodes) (inode_distinct entry.0 entry.1) (files_distinct inodes distinct.1)
    (λ slot c d.
    let other = in_flat_map inode_slots inodes slot d in
    let same : other.0.0 ≡ entry.0 = sym (own_inode other.0.0 other.0.1 slot other.2) ∙ own_inode entry.0 entry.1 slot c in
    distinct.0 (subst (λ (ino : ℕ). Contains (map (λ (e : ℕ × InodeRecord). e.0) inodes) ino) same (map_in (λ (e : ℕ × InodeRecord). e.0) inodes other.0 other.1)))

module _ (items : List Item) (blocks : Data) (sub : Subvolume) (are : AreItemsOf items blocks sub) where
  -- an extent item covers whole blocks
  covered : (ino number : ℕ) → CoversBlock items ino number → Contains (flat_map item_slots items) (ino, number)
  covered ino number covers =
      let key = make_key ino extent_data covers.offset in
      let asked = asked_extent sub blocks key covers.bytes refl (are.only key covers.bytes covers.there) in
      flat_map_in item_slots items (key, covers.bytes) (ino, number) covers.there (go asked.0 asked.2)
    where
      go : (inode : InodeRecord) → IsExtentOf blocks inode (make_key ino extent_data covers.offset) covers.bytes → Contains (item_slots (make_key ino extent_data covers.offset, covers.bytes)) (ino, number)
      go (FileInode file) says =
          let len_is = extent_len_regular (make_key ino extent_data covers.offset) covers.bytes says.0 0 says.1 says.2 in
          let run = says.2.9 in
          let whole = says.2.10 in
          let low = covers.from in
          let high = covers.to in
          run_has ino (covers.offset / 4096) (extent_len (make_key ino extent_data covers.offset) covers.bytes / 4096) number
          (omega (arith, low)) (omega (arith, low, high, len_is, run.0, whole))
      go (DirInode dir) says = absurd says
      go (LinkInode link) says =
          let read = extent_to (make_key ino extent_data covers.offset) covers.bytes (Inline link.target) says in
          let none : extent_len (make_key ino extent_data covers.offset) covers.bytes ≡ 0 = rw read refl in
          let low = covers.from in
          let high = covers.to in
          absurd (omega (arith, low, high, none))

  file_covered : (slot : ℕ × ℕ) → Contains (flat_map inode_slots (entries sub.inodes)) slot → Contains (flat_map item_slots items) slot
  file_covered slot c =
      let entry = in_flat_map inode_slots (entries sub.inodes) slot c in
      go entry.0.0 entry.0.1 (in_get nat_cmp_total nat_cmp-IsAntisymmetric sub.inodes entry.0.0 entry.0.1 entry.1) entry.2
    where
      go : (ino : ℕ) (inode : InodeRecord) → get sub.inodes ino ≡ Some inode → Contains (inode_slots (ino, inode)) slot → Contains (flat_map item_slots items) slot
      go ino (FileInode file) there c =
          let number = in_map (λ (number : ℕ). (ino, number)) (keys file.blocks) slot c in
          let block = in_map (λ (e : ℕ × List ℕ). e.0) (entries file.blocks) number.0 number.1 in
          let value = in_get nat_cmp_total nat_cmp-IsAntisymmetric file.blocks block.0.0 block.0.1 block.1 in
          let here : get file.blocks number.0 ≡ Some block.0.1 = subst (λ (n : ℕ). get file.blocks n ≡ Some block.0.1) block.2 value in
          subst (λ (s : ℕ × ℕ). Contains (flat_map item_slots items) s) number.2 (covered ino number.0 (are.file_blocks ino file number.0 block.0.1 there here))
      go ino (DirInode dir) there c = absurd (in_nothing slot c)
      go ino (LinkInode link) there c = absurd (in_nothing slot c)

pub data_counted : (items : List Item) (blocks : Data) (sub : Subvolume) → ItemsRise items → AreItemsOf items blocks sub → length (data_addresses items) ≡ files_blocks sub
data_counted items blocks sub rise are =
    let addresses = length_flat_map item_addresses items ∙ same_sums (λ (item : Item). length (item_addresses item)) (λ (item : Item). length (item_slots item)) items same_length ∙ sym (length_flat_map item_slots items) in
    let within = length_within (flat_map item_slots items) (flat_map inode_slots (entries sub.inodes)) (slots_distinct items rise (items_apart items blocks sub are)) (slot_there items blocks sub are) in
    let back = length_within (flat_map inode_slots (entries sub.inodes)) (flat_map item_slots items) (files_distinct (entries sub.inodes) (keys_distinct sub.inodes)) (file_covered items blocks sub are) in
    let all = length_flat_map inode_slots (entries sub.inodes)
    ∙ same_sums (λ (entry : ℕ × InodeRecord). length (inode_slots entry)) (λ (entry : ℕ × InodeRecord). inode_blocks entry.1) (entries sub.inodes) (λ entry. inode_length entry.0 entry.1) in
    omega (arith, addresses, within, back, all)
