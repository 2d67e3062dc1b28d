-- Items are those of one flat log, by the data that they lead to alone.
use Rattle.std.proofs.Common.{◌≡◌, ◌<◌, ◌+◌, ◌*◌, ◌/◌, ◌++◌, ℕ, zero, suc, true, List, [], ◌∷◌, Contains, Option, Some, None, Result, Ok, Err, nat_cmp, nat_eq, filter, flat_map, cond, refl, sym, ap, ap₂, subst, ◌∙◌, arith}
use Rattle.std.proofs.lemmas.Bool.{and_parts, and_from, eqb-true, eq-eqb}
use Rattle.std.specs.Cmp.{nat_cmp_total}
use Rattle.std.specs.FinMap.{FinMap, get, from_entries, nat_cmp-IsAntisymmetric}
use Rattle.blk_base.specs.declared.fault.ItemFault.{ItemFault}
use Rattle.blk_base.specs.Keys.{extent_data}
use Rattle.blk_base.specs.Leaf.{Item}
use Rattle.blk_base.specs.Items.{InodeValue, file_mode, dir_mode}
use Rattle.blk_base.specs.Extents.{ExtentValue, Inline, Regular, Hole, log_extent_of}
use Rattle.item_laws.specs.ExtentLaws.{log_extent_from}
use Rattle.logged_volume.specs.FlatLog.{FlatLog, WholeInode, WholeFile, WholeDir, WholeLink}
use Rattle.volume_image.specs.Subvolume.{Data, data_addresses}
use Rattle.volume_image.proofs.Members.{in_filter, in_map, one_map}
use Rattle.volume_image.proofs.Reaches.{head_in, tail_in}
use Rattle.volume_image.proofs.Extents.{run_is_reached}
use Rattle.log_image.specs.LogItems.{AreItemsOfLog, read_or, is_at, inode_in, extents_in, extent_in_item, run_blocks, block_there, blocks_of_extent, holes_of_extent, attribute_map, target_in, whole_in, whole_said}

-- an item of this type of this inode
pub at_gives : (ino kind : ℕ) (item : Item) → is_at ino kind item ≡ true → (item.0.objectid ≡ ino) × (item.0.kind ≡ kind)
at_gives ino kind item h = let both = and_parts (nat_eq item.0.objectid ino) (nat_eq item.0.kind kind) h in (eqb-true item.0.objectid ino both.0, eqb-true item.0.kind kind both.1)

pub at_from : (ino kind : ℕ) (item : Item) → item.0.objectid ≡ ino → item.0.kind ≡ kind → is_at ino kind item ≡ true
at_from ino kind item o k = and_from (nat_eq item.0.objectid ino) (nat_eq item.0.kind kind) (eq-eqb item.0.objectid ino o) (eq-eqb item.0.kind kind k)

-- maps that have the same at each number are one
pub same_gets : {X : Type 0} (m n : FinMap nat_cmp X) → ((k : ℕ) → get m k ≡ get n k) → m ≡ n
same_gets m n same = one_map nat_cmp_total nat_cmp-IsAntisymmetric m n (λ k v h. sym (same k) ∙ h) (λ k v h. same k ∙ h)

pub log_is_one : (items : List Item) (blocks : Data) (one two : FlatLog) → AreItemsOfLog items blocks one → AreItemsOfLog items blocks two → one ≡ two
log_is_one items blocks one two a b =
    let whole = same_gets one.whole two.whole (λ k. a.whole k ∙ sym (b.whole k)) in
    let existing = same_gets one.existing two.existing (λ k. a.existing k ∙ sym (b.existing k)) in
    let names : one.names ≡ two.names = a.names ∙ sym b.names in
    let ranges : one.ranges ≡ two.ranges = a.ranges ∙ sym b.ranges in
    let entries : one.entries ≡ two.entries = a.entries ∙ sym b.entries in
    λ i. record { whole = whole i; existing = existing i; names = names i; ranges = ranges i; entries = entries i }

-- ---- by the data that they lead to alone

run_local : (one two : Data) (number at count : ℕ) → ((i : ℕ) → i < count → one (at + 4096 * i) ≡ two (at + 4096 * i)) → run_blocks one number at count ≡ run_blocks two number at count
run_local one two number at zero same = refl
run_local one two number at (suc count) same =
    let here : one at ≡ two at = subst (λ (x : ℕ). one x ≡ two x) (omega arith) (same 0 (omega arith)) in
    let later = run_local one two (number + 1) (at + 4096) count
    (λ i below. subst (λ (x : ℕ). one x ≡ two x) (omega arith) (same (suc i) (omega arith))) in
    ap₂ (λ xs ys. xs ++ ys) (ap (block_there number) here) later

pub flat_map_same : {X Y : Type 0} (f g : X → List Y) (xs : List X) → ((x : X) → Contains xs x → f x ≡ g x) → flat_map f xs ≡ flat_map g xs
flat_map_same f g [] same = refl
flat_map_same f g (x ∷ xs) same = ap₂ (λ ys zs. ys ++ zs) (same x (head_in x xs)) (flat_map_same f g xs (λ y c. same y (tail_in x y xs c)))

module _ (one two : Data) (items : List Item) (same : (at : ℕ) → Contains (data_addresses items) at → one at ≡ two at) where
  extent_local : (item : Item) (value : Result ExtentValue ItemFault) → Contains items item → item.0.kind ≡ extent_data → log_extent_of item.0 item.1 ≡ value
      → blocks_of_extent one (item.0.offset, read_or (Inline []) value) ≡ blocks_of_extent two (item.0.offset, read_or (Inline []) value)
  extent_local item (Ok (Regular at offset len)) there kind is =
      run_local one two (item.0.offset / 4096) at (len / 4096)
      (λ i below. same (at + 4096 * i) (run_is_reached items item.0 item.1 at offset len i there kind (log_extent_from item.0 item.1 (Regular at offset len) is) below))
  extent_local item (Ok (Inline content)) there kind is = refl
  extent_local item (Ok (Hole len)) there kind is = refl
  extent_local item (Err fault) there kind is = refl

  extents_local : (ino : ℕ) → flat_map (blocks_of_extent one) (extents_in items ino) ≡ flat_map (blocks_of_extent two) (extents_in items ino)
  extents_local ino = flat_map_same {X = ℕ × ExtentValue} {Y = ℕ × List ℕ} (blocks_of_extent one) (blocks_of_extent two) (extents_in items ino) each
    where
      each : (extent : ℕ × ExtentValue) → Contains (extents_in items ino) extent → blocks_of_extent one extent ≡ blocks_of_extent two extent
      each extent c =
          let found = in_map extent_in_item (filter (is_at ino extent_data) items) extent c in
          let kept = in_filter (is_at ino extent_data) items found.0 found.1 in
          let kind = (at_gives ino extent_data found.0 kept.1).1 in
          subst (λ (x : ℕ × ExtentValue). blocks_of_extent one x ≡ blocks_of_extent two x) found.2 (extent_local found.0 (log_extent_of found.0.0 found.0.1) kept.0 kind refl)

  whole_local : (ino : ℕ) → whole_in items one ino ≡ whole_in items two ino
  whole_local ino = go (inode_in items ino)
    where
      whole_with : InodeValue → List (ℕ × List ℕ) → Option WholeInode
      whole_with value found =
          cond (nat_eq value.generation 0) None
          (Some (cond (nat_eq value.mode file_mode) (WholeFile (record { attributes = attribute_map items ino; size = value.size; blocks = from_entries found; holes = flat_map holes_of_extent (extents_in items ino) }))
          (cond (nat_eq value.mode dir_mode) (WholeDir (record { attributes = attribute_map items ino })) (WholeLink (record { attributes = attribute_map items ino; target = target_in items ino })))))

      go : (said : Option InodeValue) → whole_said items one ino said ≡ whole_said items two ino said
      go None = refl
      go (Some value) = ap (whole_with value) (extents_local ino)

pub log_is_local : (one two : Data) (items : List Item) (log : FlatLog) → AreItemsOfLog items one log → ((at : ℕ) → Contains (data_addresses items) at → one at ≡ two at) → AreItemsOfLog items two log
log_is_local one two items log are same = record {
  rise = are.rise;
  only = are.only;
  has_inode = are.has_inode;
  extents = are.extents;
  bare = are.bare;
  apart = are.apart;
  blocks_there = λ at c. let block = are.blocks_there at c in (block.0, sym (same at c) ∙ block.1);
  once = are.once;
  whole = λ ino. are.whole ino ∙ whole_local one two items same ino;
  existing = are.existing;
  names = are.names;
  ranges = are.ranges;
  entries = are.entries;
}
