-- An edit of a tree keeps its room.
use Rattle.std.proofs.Common.{◌≡◌, ◌≢◌, ◌≤◌, ◌<◌, ◌+◌, ◌*◌, ◌/◌, ◌%◌, ◌∙◌, ℕ, true, List, [], ◌∷◌, length, refl, ap, sym, subst, inl, inr, arith, zero-add}
use Rattle.std.specs.Prelude.{min, All, slice_index_or}
use Rattle.std.proofs.lemmas.Bool.{eq-eqb}
use Rattle.std.proofs.lemmas.Bool.Decides.{nat_tests}
use Rattle.std.proofs.lemmas.List.Elements.{All-contains, All-weaker}
use Rattle.std.proofs.lemmas.List.Sums.{sum_by-cons}
use Rattle.blk_base.specs.Address.{IsAllowed}
use Rattle.blk_base.specs.Trees.{NoneTwice}
use Rattle.blk_base.proofs.Members.{is_in}
use Rattle.block_table.specs.declared.state.SlotState.{SlotState}
use Rattle.block_table.specs.declared.state.SlotState.TheVariants.{Free, Dirty, Sealed, Live, LetGo}
use Rattle.block_table.specs.declared.tree.Tree.{Tree}
use Rattle.block_table.specs.Slot.{BlockSlot, free_slot, is_free}
use Rattle.block_table.specs.Table.{Table, free_blocks, free_one, is_free_block}
use Rattle.block_table.specs.TreeIn.{IsTaken, block_at}
use Rattle.block_table.proofs.Counts.{free_one-free, free_one-taken}
use Rattle.block_table.proofs.Kept.{taken_state}
use Rattle.tree_range.specs.Shape.{IsTree, tree_items, tree_reach}
use Rattle.tree_frame.specs.Frame.{IsEdit, IsLeft}
use Rattle.tree_frame.proofs.Counting.{few_blocks_in_tree}
use Rattle.tree_frame.proofs.EditLaws.{is_dirty}
use Rattle.tree_frame.proofs.Reading.{reach_taken}
use Rattle.tree_delete.specs.Balance.{AreBalanced}
use Rattle.log_edit.specs.Room.{HasRoomFor, IsTreeEdit, dirty_among, dirty_one, room_needed, room_of_tree, spare_of_tree}
use Rattle.log_edit.proofs.Weights.{IsWhole, all_even, at_none, at_one, from_past, from_zero, part_at}

-- ---- one block

-- the weight of a block by its address
abbrev weight_in : Table → ℕ → ℕ
weight_in table at = dirty_one (block_at table at).state

slot_is : (table : Table) (number : ℕ) → block_at table (number * 4096) ≡ slice_index_or table.slots number free_slot
slot_is table number =
    let aligned : number * 4096 % 4096 ≡ 0 = omega arith in
    let same : number * 4096 / 4096 ≡ number = omega arith in
    let there : block_at table (number * 4096) ≡ slice_index_or table.slots (number * 4096 / 4096) free_slot = rw (eq-eqb (number * 4096 % 4096) 0 aligned) refl in
    subst (λ (n : ℕ). block_at table (number * 4096) ≡ slice_index_or table.slots n free_slot) same there

counted : (number : ℕ) (slot : BlockSlot) → 17 ≤ number → number ≢ 16384 → is_free slot.state ≡ true → is_free_block number slot ≡ true
counted number slot behind no_copy state = grind (arith, nat_tests)

-- a Free block that a volume may use counts one, and any other one none
free_counts : (blocks number : ℕ) (slot : BlockSlot) → IsAllowed blocks (number * 4096) → slot.state ≡ Free → free_one number slot ≡ 1
free_counts blocks number slot allowed free =
    let same : number * 4096 / 4096 ≡ number = omega arith in
    free_one-free number slot (counted number slot (omega (arith, same, allowed.behind_super)) (λ e. allowed.no_copy (same ∙ e)) (ap is_free free))

taken_counts : (number : ℕ) (slot : BlockSlot) → slot.state ≢ Free → free_one number slot ≡ 0
taken_counts number slot taken = free_one-taken number slot (taken_state slot.state taken)

dirty_taken : (state : SlotState) → state ≡ Dirty → state ≢ Free
dirty_taken state dirty free = let wrong : Dirty ≡ Free = sym dirty ∙ free in cc

gone_taken : (state : SlotState) → state ≡ LetGo → state ≢ Free
gone_taken state gone free = let wrong : LetGo ≡ Free = sym gone ∙ free in cc

dirty_weighs : (state : SlotState) → state ≡ Dirty → dirty_one state ≡ 1
dirty_weighs state dirty = ap dirty_one dirty

other_weighs : (state : SlotState) → state ≢ Dirty → dirty_one state ≡ 0
other_weighs Free h = refl
other_weighs Dirty h = absurd (h refl)
other_weighs Sealed h = refl
other_weighs Live h = refl
other_weighs LetGo h = refl

same_counts : (number : ℕ) (old new : BlockSlot) → new.state ≡ old.state → free_one number new ≡ free_one number old
same_counts number old new same = ap (λ (state : SlotState). free_one number (record new { state = state })) same

-- what an edit leaves of a block of the tree: it counts as it weighed
left_counts : (blocks number : ℕ) (old new : BlockSlot) → IsAllowed blocks (number * 4096) → old.state ≢ Free → IsLeft old new → free_one number old + dirty_one old.state ≡ free_one number new
left_counts blocks number old new allowed taken left = elim (is_dirty old.state) [
  | inl dirty ↦ omega (arith, taken_counts number old taken, dirty_weighs old.state dirty, free_counts blocks number new allowed (left.dirty dirty))
  | inr written ↦ omega (arith, taken_counts number old taken, other_weighs old.state written, taken_counts number new (gone_taken new.state (ap (λ (slot : BlockSlot). slot.state) (left.written written))))
]

-- ---- all blocks

module _ (old new : Table) (before after : List ℕ) (edit : IsEdit old new before after) (taken : All (IsTaken old) before) (taken_new : All (IsTaken new) after) (once : NoneTwice before) (once_new : NoneTwice after) where
  whole : All IsWhole before
  whole = All-weaker (IsTaken old) IsWhole (λ at is. is.allowed.aligned) before taken

  whole_new : All IsWhole after
  whole_new = All-weaker (IsTaken new) IsWhole (λ at is. is.allowed.aligned) after taken_new

  inside : All (λ (at : ℕ). at / 4096 < length old.slots) before
  inside = All-weaker (IsTaken old) (λ (at : ℕ). at / 4096 < length old.slots) (λ at is. is.allowed.inside) before taken

  inside_new : All (λ (at : ℕ). at / 4096 < length old.slots) after
  inside_new = All-weaker (IsTaken new) (λ (at : ℕ). at / 4096 < length old.slots) (λ at is. omega (arith, is.allowed.inside, edit.size)) after taken_new

  even_block : (number : ℕ) → free_one number (block_at old (number * 4096)) + part_at (weight_in old) number before ≡ free_one number (block_at new (number * 4096)) + part_at (weight_in new) number after
  even_block number =
      let at = number * 4096 in
      let was = block_at old at in
      let is = block_at new at in
      elim (is_in before at) [
        | inl there ↦ elim (is_in after at) [
          | inl here ↦
              let same = edit.kept at there here in
              omega (arith, same_counts number was is same, ap dirty_one same, at_one (weight_in old) number before whole once there, at_one (weight_in new) number after whole_new once_new here)
          | inr gone ↦
              let block = All-contains (IsTaken old) before at taken there in
              omega (arith, left_counts (length old.slots) number was is block.allowed block.taken (edit.left at there gone), at_one (weight_in old) number before whole once there, at_none (weight_in new) number after whole_new gone)
        ]
        | inr none ↦ elim (is_in after at) [
          | inl here ↦
              let block = All-contains (IsTaken new) after at taken_new here in
              let fresh = edit.fresh at here none in
              omega (arith, free_counts (length new.slots) number was block.allowed fresh.0, taken_counts number is (dirty_taken is.state fresh.1), dirty_weighs is.state fresh.1, at_none (weight_in old) number before whole none, at_one (weight_in new) number after whole_new once_new here)
          | inr gone ↦
              let same : is.state ≡ was.state = elim (edit.others at none gone) [ inl e ↦ ap (λ (slot : BlockSlot). slot.state) e | inr free ↦ free.after ∙ sym free.before ] in
              omega (arith, same_counts number was is same, at_none (weight_in old) number before whole none, at_none (weight_in new) number after whole_new gone)
        ]
      ]

  even_slots : (i : ℕ) → i < length old.slots → free_one (0 + i) (slice_index_or old.slots i free_slot) + part_at (weight_in old) (0 + i) before ≡ free_one (0 + i) (slice_index_or new.slots i free_slot) + part_at (weight_in new) (0 + i) after
  even_slots i within =
      let one = subst (λ (slot : BlockSlot). free_one i slot + part_at (weight_in old) i before ≡ free_one i (block_at new (i * 4096)) + part_at (weight_in new) i after) (slot_is old i) (even_block i) in
      let two = subst (λ (slot : BlockSlot). free_one i (slice_index_or old.slots i free_slot) + part_at (weight_in old) i before ≡ free_one i slot + part_at (weight_in new) i after) (slot_is new i) one in
      subst (λ (n : ℕ). free_one n (slice_index_or old.slots i free_slot) + part_at (weight_in old) n before ≡ free_one n (slice_index_or new.slots i free_slot) + part_at (weight_in new) n after) (sym (zero-add i)) two

  -- as many blocks become Free as are no longer being edited
  pub edit_even : free_blocks old + dirty_among old before ≡ free_blocks new + dirty_among new after
  edit_even =
      let past = subst (λ (n : ℕ). All (λ (at : ℕ). at / 4096 < n) before) (sym (zero-add (length old.slots))) inside in
      let past_new = subst (λ (n : ℕ). All (λ (at : ℕ). at / 4096 < n) after) (sym (zero-add (length old.slots))) inside_new in
      let all = all_even (weight_in old) (weight_in new) before after 0 old.slots new.slots edit.size even_slots (from_past (weight_in old) (0 + length old.slots) before past) (from_past (weight_in new) (0 + length old.slots) after past_new) in
      omega (arith, all, from_zero (weight_in old) before, from_zero (weight_in new) after)

-- ---- trees

tree_taken : (table : Table) (tree : Tree) → IsTree table tree → All (IsTaken table) (tree_reach table tree)
tree_taken table tree h = reach_taken tree.level table true tree.root.0 h.shape

pub keeps_blocks : (old new : Table) (before after : Tree) → IsTreeEdit old new before after → room_of_tree new after ≡ room_of_tree old before
keeps_blocks old new before after h =
    sym (edit_even old new (tree_reach old before) (tree_reach new after) h.edit (tree_taken old before h.was) (tree_taken new after h.is) h.was.once h.is.once)

pub keeps_buffers : (old new : Table) (before after : Tree) → IsTreeEdit old new before after → AreBalanced old new → spare_of_tree new after ≡ spare_of_tree old before
keeps_buffers old new before after h balance = omega (arith, keeps_blocks old new before after h, balance)

-- a list has no more Dirty blocks than it has blocks
dirty_most : (state : SlotState) → dirty_one state ≤ 1
dirty_most Free = omega arith
dirty_most Dirty = omega arith
dirty_most Sealed = omega arith
dirty_most Live = omega arith
dirty_most LetGo = omega arith

few_dirty : (table : Table) (ats : List ℕ) → dirty_among table ats ≤ length ats
few_dirty table [] = omega arith
few_dirty table (at ∷ ats) = omega (arith, sum_by-cons (weight_in table) at ats, dirty_most (block_at table at).state, few_dirty table ats)

tree_dirty : (table : Table) (tree : Tree) → IsTree table tree → dirty_among table (tree_reach table tree) ≤ 2 * length (tree_items table tree) + 1
tree_dirty table tree h = omega (arith, few_dirty table (tree_reach table tree), few_blocks_in_tree tree.level table tree.root.0 h.shape)

pub enough_free : (table : Table) (tree : Tree) → IsTree table tree → HasRoomFor table tree 0 → 17 ≤ free_blocks table
enough_free table tree h room = omega (arith, tree_dirty table tree h, room.blocks)

pub enough_spare : (table : Table) (tree : Tree) → IsTree table tree → HasRoomFor table tree 0 → 17 ≤ table.spare
enough_spare table tree h room = omega (arith, tree_dirty table tree h, room.buffers)

pub by_counts : (table : Table) (tree : Tree) (more : ℕ) → room_needed table tree more ≤ min (free_blocks table) table.spare → HasRoomFor table tree more
by_counts table tree more enough = record { blocks = omega (arith, enough); buffers = omega (arith, enough) }

pub for_fewer : (table : Table) (tree : Tree) (few more : ℕ) → few ≤ more → HasRoomFor table tree more → HasRoomFor table tree few
for_fewer table tree few more le room = record { blocks = omega (arith, room.blocks, le); buffers = omega (arith, room.buffers, le) }

-- the same room for a tree that has grown or shrunk
pub room_moves : (old new : Table) (before after : Tree) (was is : ℕ) → room_of_tree new after ≡ room_of_tree old before → spare_of_tree new after ≡ spare_of_tree old before → length (tree_items new after) + is ≡ length (tree_items old before) + was → HasRoomFor old before was → HasRoomFor new after is
room_moves old new before after was is blocks buffers count room = record { blocks = omega (arith, blocks, count, room.blocks); buffers = omega (arith, buffers, count, room.buffers) }
