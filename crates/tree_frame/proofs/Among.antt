-- An edit among blocks that it leaves as they are.
use Rattle.std.proofs.Common.{◌≡◌, ◌≢◌, ◌⊎◌, ℕ, List, ◌++◌, ap, inl, inr}
use Rattle.std.specs.Prelude.{◌↔◌, All, Contains}
use Rattle.std.proofs.lemmas.List.Elements.{All-contains, All-contains_itself, All-weaker, Contains-append_cases, Contains-append_left, Contains-append_right}
use Rattle.block_table.specs.declared.state.SlotState.TheVariants.{Free}
use Rattle.block_table.specs.Slot.{BlockSlot}
use Rattle.block_table.specs.Table.{Table}
use Rattle.blk_base.specs.Trees.{NoneTwice}
use Rattle.block_table.specs.TreeIn.{IsTaken, block_at}
use Rattle.tree_range.specs.Shape.{AreAlike}
use Rattle.tree_frame.specs.Frame.{IsEdit}
use Rattle.blk_base.proofs.Members.{once_append, once_apart, once_left, once_right}
use Rattle.tree_frame.proofs.EditLaws.{same_unless_free}

-- these blocks aren't Free, and the edited tree hasn't them
abbrev pub AreApart : Table → List ℕ → List ℕ → Type 0
AreApart old before extra = (at : ℕ) → Contains extra at → (Contains before at → ⊥) × ((block_at old at).state ≢ Free)

-- such a block stays as it was, and the edited tree doesn't get it
pub apart_from_after : (old new : Table) (before after extra : List ℕ) → IsEdit old new before after → AreApart old before extra → (at : ℕ) → Contains extra at → Contains after at → ⊥
apart_from_after old new before after extra edit apart at there here = (apart at there).1 (edit.fresh at here (apart at there).0).0

pub apart_stays : (old new : Table) (before after extra : List ℕ) → IsEdit old new before after → AreApart old before extra → (at : ℕ) → Contains extra at → block_at new at ≡ block_at old at
apart_stays old new before after extra edit apart at there =
    same_unless_free (block_at old at) (block_at new at) (edit.others at (apart at there).0 (apart_from_after old new before after extra edit apart at there)) (apart at there).1

pub apart_alike : (old new : Table) (before after extra : List ℕ) → IsEdit old new before after → AreApart old before extra → AreAlike old new extra
apart_alike old new before after extra edit apart =
    All-weaker (Contains extra) (λ (at : ℕ). block_at new at ≡ block_at old at) (apart_stays old new before after extra edit apart) extra (All-contains_itself extra)

pub an_edit_keeps_more : (old new : Table) (before after extra before' after' : List ℕ) → IsEdit old new before after → AreApart old before extra → ((at : ℕ) → Contains before' at ↔ (Contains before at ⊎ Contains extra at)) → ((at : ℕ) → Contains after' at ↔ (Contains after at ⊎ Contains extra at)) → IsEdit old new before' after'
an_edit_keeps_more old new before after extra before' after' edit apart is_before is_after = record {
  size = edit.size;
  lists = edit.lists;
  fresh = λ at here none. elim ((is_after at).0 here) [
    | inl is ↦ edit.fresh at is (λ there. none ((is_before at).1 (inl there)))
    | inr is ↦ absurd (none ((is_before at).1 (inr is)))
  ];
  left = λ at there none. elim ((is_before at).0 there) [
    | inl is ↦ edit.left at is (λ here. none ((is_after at).1 (inl here)))
    | inr is ↦ absurd (none ((is_after at).1 (inr is)))
  ];
  kept = λ at there here. elim ((is_before at).0 there) [
    | inl was ↦ elim ((is_after at).0 here) [
      | inl is ↦ edit.kept at was is
      | inr is ↦ absurd ((apart at is).0 was)
    ]
    | inr was ↦ ap (λ (slot : BlockSlot). slot.state) (apart_stays old new before after extra edit apart at was)
  ];
  kept_whole = λ at there here written. elim ((is_before at).0 there) [
    | inl was ↦ elim ((is_after at).0 here) [
      | inl is ↦ edit.kept_whole at was is written
      | inr is ↦ absurd ((apart at is).0 was)
    ]
    | inr was ↦ apart_stays old new before after extra edit apart at was
  ];
  others = λ at none gone. edit.others at (λ there. none ((is_before at).1 (inl there))) (λ here. gone ((is_after at).1 (inl here)));
}

-- ---- a part of a list of blocks is edited

around : (lefts middle rights : List ℕ) (at : ℕ) → Contains (lefts ++ (middle ++ rights)) at ↔ (Contains middle at ⊎ Contains (lefts ++ rights) at)
around lefts middle rights at = (
  λ h. elim (Contains-append_cases lefts (middle ++ rights) at h) [
    | inl there ↦ inr (Contains-append_left lefts rights at there)
    | inr there ↦ elim (Contains-append_cases middle rights at there) [
      | inl is ↦ inl is
      | inr is ↦ inr (Contains-append_right lefts rights at is)
    ]
  ],
  λ h. elim h [
    | inl is ↦ Contains-append_right lefts (middle ++ rights) at (Contains-append_left middle rights at is)
    | inr there ↦ elim (Contains-append_cases lefts rights at there) [
      | inl is ↦ Contains-append_left lefts (middle ++ rights) at is
      | inr is ↦ Contains-append_right lefts (middle ++ rights) at (Contains-append_right middle rights at is)
    ]
  ],
)

-- the blocks around a part are apart from it
pub around_apart : (table : Table) (lefts middle rights : List ℕ) → NoneTwice (lefts ++ (middle ++ rights)) → All (IsTaken table) (lefts ++ (middle ++ rights)) → AreApart table middle (lefts ++ rights)
around_apart table lefts middle rights once taken at there = (
  λ is. elim (Contains-append_cases lefts rights at there) [
    | inl left ↦ once_apart lefts (middle ++ rights) once at left (Contains-append_left middle rights at is)
    | inr right ↦ once_apart middle rights (once_right lefts (middle ++ rights) once) at is right
  ],
  (All-contains (IsTaken table) (lefts ++ (middle ++ rights)) at taken ((around lefts middle rights at).1 (inr there))).taken,
)

-- An edit of a part is an edit of the whole, and the blocks around stay as they were: with a node's address as the first of
-- `lefts`, an edit below one of its children; with no `lefts`, an edit of the node's own block.
pub edit_among : (old new : Table) (lefts before after rights : List ℕ) → IsEdit old new before after → NoneTwice (lefts ++ (before ++ rights)) → All (IsTaken old) (lefts ++ (before ++ rights)) → IsEdit old new (lefts ++ (before ++ rights)) (lefts ++ (after ++ rights))
edit_among old new lefts before after rights edit once taken =
    an_edit_keeps_more old new before after (lefts ++ rights) (lefts ++ (before ++ rights)) (lefts ++ (after ++ rights)) edit (around_apart old lefts before rights once taken) (around lefts before rights) (around lefts after rights)

pub once_among : (old new : Table) (lefts before after rights : List ℕ) → IsEdit old new before after → NoneTwice (lefts ++ (before ++ rights)) → All (IsTaken old) (lefts ++ (before ++ rights)) → NoneTwice after → NoneTwice (lefts ++ (after ++ rights))
once_among old new lefts before after rights edit once taken after_once =
    let apart : AreApart old before (lefts ++ rights) = around_apart old lefts before rights once taken in
    let out : (at : ℕ) → Contains (lefts ++ rights) at → Contains after at → ⊥ = apart_from_after old new before after (lefts ++ rights) edit apart in
    let behind : NoneTwice (after ++ rights) = once_append after rights after_once (once_right before rights (once_right lefts (before ++ rights) once)) (λ at here there. out at (Contains-append_right lefts rights at there) here) in
    once_append lefts (after ++ rights) (once_left lefts (before ++ rights) once) behind (λ at there here. elim (Contains-append_cases after rights at here) [
      | inl is ↦ out at (Contains-append_left lefts rights at there) is
      | inr is ↦ once_apart lefts (before ++ rights) once at there (Contains-append_right before rights at is)
    ])

pub alike_left : (old new : Table) (lefts before after rights : List ℕ) → IsEdit old new before after → NoneTwice (lefts ++ (before ++ rights)) → All (IsTaken old) (lefts ++ (before ++ rights)) → AreAlike old new lefts
alike_left old new lefts before after rights edit once taken =
    apart_alike old new before after lefts edit (λ at there. around_apart old lefts before rights once taken at (Contains-append_left lefts rights at there))

pub alike_right : (old new : Table) (lefts before after rights : List ℕ) → IsEdit old new before after → NoneTwice (lefts ++ (before ++ rights)) → All (IsTaken old) (lefts ++ (before ++ rights)) → AreAlike old new rights
alike_right old new lefts before after rights edit once taken =
    apart_alike old new before after rights edit (λ at there. around_apart old lefts before rights once taken at (Contains-append_right lefts rights at there))
