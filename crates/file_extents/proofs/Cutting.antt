-- A run that is cut in two, as an edit of its file's extents.
use Rattle.std.proofs.Common.{◌≡◌, ◌≢◌, ◌+◌, ◌-◌, ◌*◌, ℕ, List, Option, Some, None, Ok, refl, ap, ◌∙◌, arith}
use Rattle.std.specs.Prelude.{Contains}
use Rattle.blk_base.specs.declared.key.Key.{Key}
use Rattle.blk_base.specs.Extents.{Regular, extent_of}
use Rattle.blk_base.specs.Keys.{extent_data}
use Rattle.blk_base.specs.Leaf.{Item}
use Rattle.block_table.specs.declared.tree.Tree.{Tree}
use Rattle.block_table.specs.Table.{Table}
use Rattle.tree_range.specs.Between.{data_under}
use Rattle.tree_range.specs.Part.{times_in}
use Rattle.tree_range.specs.Shape.{tree_items}
use Rattle.tree_frame.specs.Frame.{with_item}
use Rattle.table_volume.specs.Gives.{data_in, tree_data}
use Rattle.table_volume.specs.TreeEdit.{IsTreeEdit}
use Rattle.table_volume.proofs.SubEdits.{tree_joined, tree_keeps_clean}
use Rattle.volume_image.specs.Subvolume.{data_addresses, make_key, run_addresses}
use Rattle.file_extents.specs.Extents.{Contents, HasRun, HoldContents, IsBeside, IsContentEdit, IsHeld, IsOver, NoneOver}
use Rattle.file_extents.proofs.Runs.{AreWritten, cut_holds, cut_none, cut_others}
use Rattle.file_extents.proofs.Items.{are_sole, are_written, each_written, other_key, under_other}
use Rattle.file_extents.proofs.Times.{addresses_there, run_addresses_are, run_split, times_put}
use Rattle.file_extents.proofs.Held.{blocks_stay, data_same, edited, files_alike, held_after, held_with, in_files, run_in_data, same_block, tree_and_files}

-- a key isn't that of an extent of the file
pub beside_other : (ino offset : ℕ) (key : Key) → IsBeside ino key → key ≢ make_key ino extent_data offset
beside_other ino offset key beside e = beside (ap (λ (k : Key). k.objectid) e) (ap (λ (k : Key). k.kind) e)

module _ (old mid new : Table) (before between after : Tree) (running ino number begin at count : ℕ) (one two : List ℕ) (held : IsHeld old before)
    (over : IsOver (HasRun (tree_items old before) ino) number begin at count)
    (edit_one : IsTreeEdit old mid before between running 17) (items_one : tree_items mid between ≡ with_item (make_key ino extent_data (4096 * number)) one (tree_items old before))
    (read_one : extent_of (make_key ino extent_data (4096 * number)) one ≡ Ok (Regular (at + 4096 * (number - begin)) 0 (4096 * (count - (number - begin)))))
    (edit_two : IsTreeEdit mid new between after running 17) (items_two : tree_items new after ≡ with_item (make_key ino extent_data (4096 * begin)) two (tree_items mid between))
    (read_two : extent_of (make_key ino extent_data (4096 * begin)) two ≡ Ok (Regular at 0 (4096 * (number - begin))))
    (known : Contents) (known_holds : HoldContents (tree_items old before) (data_in old) ino known) where
  abbrev R0 : ℕ → ℕ → ℕ → Type 0
  R0 = HasRun (tree_items old before) ino

  abbrev R1 : ℕ → ℕ → ℕ → Type 0
  R1 = HasRun (tree_items mid between) ino

  abbrev R2 : ℕ → ℕ → ℕ → Type 0
  R2 = HasRun (tree_items new after) ino

  first : AreWritten R0 R1 number (at + 4096 * (number - begin)) (count - (number - begin))
  first = are_written (tree_items old before) (tree_items mid between) ino number (at + 4096 * (number - begin)) (count - (number - begin)) one items_one read_one

  second : AreWritten R1 R2 begin at (number - begin)
  second = are_written (tree_items mid between) (tree_items new after) ino begin at (number - begin) two items_two read_two

  whole : IsTreeEdit old new before after running 34
  whole = tree_joined old mid new before between after running 17 17 edit_one edit_two

  none_there : data_under (make_key ino extent_data (4096 * number)) (tree_items old before) ≡ None
  none_there = by (data_under (make_key ino extent_data (4096 * number)) (tree_items old before)) refl
    where
      by : (o : Option (List ℕ)) → data_under (make_key ino extent_data (4096 * number)) (tree_items old before) ≡ o → o ≡ None
      by None h = refl
      by (Some bytes) h =
          let run = known_holds.each (4096 * number) bytes h in
          let same : run.begin ≡ number = omega (arith, run.offset_is) in
          let apart = known_holds.are.apart begin at count run.begin run.at run.count over.run run.run (omega (arith, same, over.before)) in
          absurd (omega (arith, apart, same, over.over))

  -- as often as before
  same : (x : ℕ) → times_in x (tree_data old before) ≡ times_in x (tree_data new after)
  same x =
      let key_one = make_key ino extent_data (4096 * number) in
      let key_two = make_key ino extent_data (4096 * begin) in
      let front = number - begin in
      let p = times_put x key_one one (tree_items old before) held.stands.order in
      let q = times_put x key_two two (tree_items mid between) edit_one.tree.order in
      let e = ap (λ (l : List Item). times_in x (data_addresses l)) items_one in
      let f = ap (λ (l : List Item). times_in x (data_addresses l)) items_two in
      let none = ap (λ (o : Option (List ℕ)). times_in x (addresses_there key_one o)) none_there in
      let was : data_under key_two (tree_items mid between) ≡ Some over.run.bytes = under_other (tree_items old before) (tree_items mid between) ino number (at + 4096 * front) (count - front) one items_one read_one key_two (other_key ino begin number (omega (arith, over.before))) ∙ over.run.there in
      let some = ap (λ (o : Option (List ℕ)). times_in x (addresses_there key_two o)) was in
      let run = ap (times_in x) (run_addresses_are ino begin at count over.run.bytes over.run.read) in
      let a = ap (times_in x) (run_addresses_are ino number (at + 4096 * front) (count - front) one read_one) in
      let b = ap (times_in x) (run_addresses_are ino begin at front two read_two) in
      let split = run_split x at front (count - front) in
      let parts : front + (count - front) ≡ count = omega (arith, over.before, over.over) in
      let parts_in = ap (λ (n : ℕ). times_in x (run_addresses at n)) parts in
      omega (arith, p, q, e, f, none, some, run, a, b, split, parts_in)

  pub cut_edit : IsContentEdit old new before after running ino 34
  cut_edit =
      let with = held_with old before held in
      edited old new before after running ino 34 (tree_data old before) (held_after old new before after running 34 (tree_data old before) with whole) same
      (tree_and_files old new before after running 34 (tree_data old before) with whole) whole.owner (tree_keeps_clean old new before after whole.edit) whole.sealed whole.bear whole.taken
      (λ key beside. under_other (tree_items mid between) (tree_items new after) ino begin at (number - begin) two items_two read_two key (beside_other ino (4096 * begin) key beside)
      ∙ under_other (tree_items old before) (tree_items mid between) ino number (at + 4096 * (number - begin)) (count - (number - begin)) one items_one read_one key (beside_other ino (4096 * number) key beside))
      (λ x was is. same_block old new (tree_data old before) x (files_alike old new before after running 34 (tree_data old before) with whole) was)

  pub cut_contents : (contents : Contents) → HoldContents (tree_items old before) (data_in old) ino contents → HoldContents (tree_items new after) (data_in new) ino contents
  cut_contents contents hold =
      let with = held_with old before held in
      let stay : (x : ℕ) → Contains (tree_data new after) x → data_in new x ≡ data_in old x = λ x c. data_same old new x (same_block old new (tree_data old before) x (files_alike old new before after running 34 (tree_data old before) with whole) (in_files (tree_data old before) (tree_data new after) same x c)) in
      record {
        each = each_written (tree_items mid between) (tree_items new after) ino begin at (number - begin) two items_two read_two
            (each_written (tree_items old before) (tree_items mid between) ino number (at + 4096 * (number - begin)) (count - (number - begin)) one items_one read_one hold.each);
        are = blocks_stay R2 (data_in old) (data_in new) contents (λ b a c i r less. stay (a + 4096 * i) (run_in_data (tree_items new after) ino b a c i r less))
            (cut_holds R0 R1 R2 (data_in old) number begin at count over first second contents (are_sole (tree_items old before) ino) hold.are);
      }

  pub cut_none_over : NoneOver R2 number
  cut_none_over = cut_none R0 R1 R2 (data_in old) number begin at count over first second known (are_sole (tree_items old before) ino) known_holds.are

  pub cut_none_other : (other : ℕ) → NoneOver R0 other → NoneOver R2 other
  cut_none_other other none = cut_others R0 R1 R2 (data_in old) number begin at count over first second other none
