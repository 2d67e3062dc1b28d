-- Edits one after another, and edits of a part of a larger tree.
use Rattle.std.proofs.Common.{◌≡◌, ◌≢◌, ◌≤◌, ◌+◌, ℕ, List, ◌++◌, ap, sym, subst, ◌⊎◌, arith, inl, inr}
use Rattle.std.specs.Prelude.{All, Contains}
use Rattle.std.proofs.lemmas.Bool.{cases_lt}
use Rattle.std.proofs.lemmas.List.Elements.{All-contains, Contains-append_cases, Contains-append_left, Contains-append_right}
use Rattle.block_table.specs.declared.state.SlotState.{SlotState}
use Rattle.block_table.specs.declared.state.SlotState.TheVariants.{Free, Dirty, LetGo}
use Rattle.block_table.specs.Slot.{BlockSlot}
use Rattle.block_table.specs.Table.{Table}
use Rattle.blk_base.specs.Trees.{NoneTwice}
use Rattle.block_table.specs.TreeIn.{block_at}
use Rattle.tree_range.specs.Shape.{AreAlike}
use Rattle.tree_range.specs.Part.{times_in}
use Rattle.tree_frame.specs.Frame.{AreCurrent, AreFree, IsEdit, IsLeft, TakesAtMost}
use Rattle.blk_base.proofs.Members.{is_in}
use Rattle.tree_delete.proofs.Lists.{IsShuffle, all_from, contained_by_times, none_twice_from, none_twice_to, parts_apart, shuffle_back, shuffle_contains, times_append}

abbrev state_of : BlockSlot → SlotState
state_of slot = slot.state

none_times : (at : ℕ) (xs : List ℕ) → (Contains xs at → ⊥) → times_in at xs ≤ 0
none_times at xs none = elim (cases_lt (times_in at xs) 1) [ inl few ↦ omega arith | inr some ↦ absurd (none (contained_by_times at xs some)) ]

-- ---- an edit of a part of what a tree reaches

-- blocks of a current tree
pub record IsWhole (table : Table) (reach : List ℕ) : Type 0 where
  pub once : NoneTwice reach
  pub used : All (λ (at : ℕ). (block_at table at).state ≢ Free) reach
  pub current : AreCurrent table reach

pub record IsCarried (old new : Table) (rest reach reach_new : List ℕ) : Type 0 where
  pub edit : IsEdit old new reach reach_new
  pub whole : IsWhole new reach_new
  pub alike : AreAlike old new rest

module _ (old new : Table) (before after rest whole whole_new : List ℕ) (edit : IsEdit old new before after) (once : NoneTwice after) (is : IsWhole old whole) (parts : IsShuffle whole (before ++ rest)) (parts_new : IsShuffle whole_new (after ++ rest)) where
  before_in : (at : ℕ) → Contains before at → Contains whole at
  before_in at h = shuffle_contains (before ++ rest) whole at (shuffle_back whole (before ++ rest) parts) (Contains-append_left before rest at h)

  rest_in : (at : ℕ) → Contains rest at → Contains whole at
  rest_in at h = shuffle_contains (before ++ rest) whole at (shuffle_back whole (before ++ rest) parts) (Contains-append_right before rest at h)

  after_in : (at : ℕ) → Contains after at → Contains whole_new at
  after_in at h = shuffle_contains (after ++ rest) whole_new at (shuffle_back whole_new (after ++ rest) parts_new) (Contains-append_left after rest at h)

  rest_in_new : (at : ℕ) → Contains rest at → Contains whole_new at
  rest_in_new at h = shuffle_contains (after ++ rest) whole_new at (shuffle_back whole_new (after ++ rest) parts_new) (Contains-append_right after rest at h)

  cases_old : (at : ℕ) → Contains whole at → Contains before at ⊎ Contains rest at
  cases_old at h = Contains-append_cases before rest at (shuffle_contains whole (before ++ rest) at parts h)

  cases_new : (at : ℕ) → Contains whole_new at → Contains after at ⊎ Contains rest at
  cases_new at h = Contains-append_cases after rest at (shuffle_contains whole_new (after ++ rest) at parts_new h)

  used_at : (at : ℕ) → Contains whole at → (block_at old at).state ≢ Free
  used_at at h = All-contains (λ (a : ℕ). (block_at old a).state ≢ Free) whole at is.used h

  current_at : (at : ℕ) → Contains whole at → (block_at old at).state ≢ LetGo
  current_at at h = All-contains (λ (a : ℕ). (block_at old a).state ≢ LetGo) whole at is.current h

  not_before : (at : ℕ) → Contains rest at → Contains before at → ⊥
  not_before at h there = parts_apart whole before rest at parts is.once there h

  not_after : (at : ℕ) → Contains rest at → Contains after at → ⊥
  not_after at h there = used_at at (rest_in at h) (edit.fresh at there (not_before at h)).0

  rest_same : (at : ℕ) → Contains rest at → block_at new at ≡ block_at old at
  rest_same at h = elim (edit.others at (not_before at h) (not_after at h)) [ inl same ↦ same | inr free ↦ absurd (used_at at (rest_in at h) free.before) ]

  carried_fresh : (at : ℕ) → Contains whole_new at → (Contains whole at → ⊥) → ((block_at old at).state ≡ Free) × ((block_at new at).state ≡ Dirty)
  carried_fresh at h none = elim (cases_new at h) [
    | inl there ↦ edit.fresh at there (λ was. none (before_in at was))
    | inr there ↦ absurd (none (rest_in at there))
  ]

  carried_left : (at : ℕ) → Contains whole at → (Contains whole_new at → ⊥) → IsLeft (block_at old at) (block_at new at)
  carried_left at h none = elim (cases_old at h) [
    | inl there ↦ edit.left at there (λ then. none (after_in at then))
    | inr there ↦ absurd (none (rest_in_new at there))
  ]

  -- a block of the part before that is in the new tree is in the part after
  still_after : (at : ℕ) → Contains before at → Contains whole_new at → Contains after at
  still_after at there h = elim (cases_new at h) [ inl then ↦ then | inr other ↦ absurd (not_before at other there) ]

  carried_kept : (at : ℕ) → Contains whole at → Contains whole_new at → (block_at new at).state ≡ (block_at old at).state
  carried_kept at h h_new = elim (cases_old at h) [
    | inl there ↦ edit.kept at there (still_after at there h_new)
    | inr there ↦ ap state_of (rest_same at there)
  ]

  carried_whole : (at : ℕ) → Contains whole at → Contains whole_new at → (block_at old at).state ≢ Dirty → block_at new at ≡ block_at old at
  carried_whole at h h_new other = elim (cases_old at h) [
    | inl there ↦ edit.kept_whole at there (still_after at there h_new) other
    | inr there ↦ rest_same at there
  ]

  carried_others : (at : ℕ) → (Contains whole at → ⊥) → (Contains whole_new at → ⊥) → (block_at new at ≡ block_at old at) ⊎ AreFree (block_at old at) (block_at new at)
  carried_others at none none_new = edit.others at (λ h. none (before_in at h)) (λ h. none_new (after_in at h))

  times_new : (at : ℕ) → times_in at whole_new ≤ 1
  times_new at = elim (is_in rest at) [
    | inl there ↦ elim (is_in after at) [
      | inl then ↦ absurd (not_after at there then)
      | inr none ↦ let few : times_in at after ≤ 0 = none_times at after none in omega (arith, parts_new at, times_append at after rest, parts at, times_append at before rest, none_twice_to whole at is.once)
    ]
    | inr none ↦ let few : times_in at rest ≤ 0 = none_times at rest none in omega (arith, parts_new at, times_append at after rest, none_twice_to after at once)
  ]

  state_new : (P : SlotState → Type 0) → P Dirty → ((at : ℕ) → Contains whole at → P (block_at old at).state) → (at : ℕ) → Contains whole_new at → P (block_at new at).state
  state_new P dirty was at h = elim (cases_new at h) [
    | inl then ↦ elim (is_in before at) [
      | inl there ↦ subst P (sym (edit.kept at there then)) (was at (before_in at there))
      | inr none ↦ subst P (sym (edit.fresh at then none).1) dirty
    ]
    | inr there ↦ subst P (sym (ap state_of (rest_same at there))) (was at (rest_in at there))
  ]

  pub carry : IsCarried old new rest whole whole_new
  carry = record {
    edit = record {
      size = edit.size;
      lists = edit.lists;
      fresh = carried_fresh;
      left = carried_left;
      kept = carried_kept;
      kept_whole = carried_whole;
      others = carried_others;
    };
    whole = record {
      once = none_twice_from whole_new times_new;
      used = all_from (λ (at : ℕ). (block_at new at).state ≢ Free) whole_new (state_new (λ (state : SlotState). state ≢ Free) (λ e. absurd cc) used_at);
      current = all_from (λ (at : ℕ). (block_at new at).state ≢ LetGo) whole_new (state_new (λ (state : SlotState). state ≢ LetGo) (λ e. absurd cc) current_at);
    };
    alike = all_from (λ (at : ℕ). block_at new at ≡ block_at old at) rest rest_same;
  }

-- ---- numbers

pub takes_join : (old mid new : Table) (a b : ℕ) → TakesAtMost old mid a → TakesAtMost mid new b → TakesAtMost old new (a + b)
takes_join old mid new a b one two = record { spare = omega (arith, one.spare, two.spare); free = omega (arith, one.free, two.free) }

pub takes_more : (old new : Table) (a b : ℕ) → a ≤ b → TakesAtMost old new a → TakesAtMost old new b
takes_more old new a b le one = record { spare = omega (arith, one.spare); free = omega (arith, one.free) }
