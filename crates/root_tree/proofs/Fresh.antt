-- Edits that only take blocks, one behind the other.
use Rattle.std.proofs.Common.{◌≡◌, ◌≢◌, ◌∙◌, ℕ, List, [], ◌++◌, sym, inl, inr}
use Rattle.std.specs.Prelude.{Contains}
use Rattle.std.proofs.lemmas.List.Elements.{Contains-append_cases, Contains-append_left, Contains-append_right}
use Rattle.blk_base.specs.Trees.{NoneTwice}
use Rattle.blk_base.proofs.Members.{in_nothing, once_append}
use Rattle.block_table.specs.declared.state.SlotState.TheVariants.{Dirty, Free}
use Rattle.block_table.specs.Table.{Table}
use Rattle.block_table.specs.TreeIn.{block_at}
use Rattle.tree_frame.specs.Frame.{IsEdit}
use Rattle.tree_frame.proofs.Among.{an_edit_keeps_more}
use Rattle.tree_frame.proofs.EditLaws.{edits_join}

-- a block that was taken is Dirty
pub fresh_is_dirty : (old mid : Table) (one : List ℕ) (at : ℕ) → IsEdit old mid [] one → Contains one at → (block_at mid at).state ≡ Dirty
fresh_is_dirty old mid one at edit there = (edit.fresh at there (λ none. in_nothing at none)).1

pub fresh_was_free : (old mid : Table) (one : List ℕ) (at : ℕ) → IsEdit old mid [] one → Contains one at → (block_at old at).state ≡ Free
fresh_was_free old mid one at edit there = (edit.fresh at there (λ none. in_nothing at none)).0

-- so it isn't taken again
pub fresh_apart : (old mid new : Table) (one two : List ℕ) (at : ℕ) → IsEdit old mid [] one → IsEdit mid new [] two → Contains one at → Contains two at → ⊥
fresh_apart old mid new one two at first second there here =
    let wrong : Dirty ≡ Free = sym (fresh_is_dirty old mid one at first there) ∙ fresh_was_free mid new two at second here in
    cc

not_free : (old mid : Table) (one : List ℕ) → IsEdit old mid [] one → (at : ℕ) → Contains one at → (block_at mid at).state ≢ Free
not_free old mid one edit at there free =
    let wrong : Dirty ≡ Free = sym (fresh_is_dirty old mid one at edit there) ∙ free in cc

pub fresh_join : (old mid new : Table) (one two : List ℕ) → IsEdit old mid [] one → IsEdit mid new [] two → IsEdit old new [] (one ++ two)
fresh_join old mid new one two first second =
    edits_join old mid new [] one (one ++ two) first
    (an_edit_keeps_more mid new [] two one one (one ++ two) second
    (λ at there. (λ none. in_nothing at none, not_free old mid one first at there))
    (λ at. (λ there. inr there, λ either. elim either [ inl none ↦ absurd (in_nothing at none) | inr there ↦ there ]))
    (λ at. (
      λ there. elim (Contains-append_cases one two at there) [ inl here ↦ inr here | inr here ↦ inl here ],
      λ either. elim either [ inl here ↦ Contains-append_right one two at here | inr here ↦ Contains-append_left one two at here ],
    )))

pub fresh_once : (old mid new : Table) (one two : List ℕ) → IsEdit old mid [] one → IsEdit mid new [] two → NoneTwice one → NoneTwice two → NoneTwice (one ++ two)
fresh_once old mid new one two first second once again =
    once_append one two once again (λ at there here. fresh_apart old mid new one two at first second there here)
