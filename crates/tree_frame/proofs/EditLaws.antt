-- Edits of trees: one behind another, and what they keep.
use Rattle.std.proofs.Common.{◌≡◌, ◌≢◌, ◌⊎◌, ◌∙◌, ℕ, List, refl, sym, ap, subst, inl, inr}
use Rattle.std.specs.Prelude.{◌↔◌, Contains, None}
use Rattle.block_table.specs.declared.state.SlotState.{SlotState}
use Rattle.block_table.specs.declared.state.SlotState.TheVariants.{Free, Dirty, Sealed, Live, LetGo}
use Rattle.block_table.specs.Slot.{BlockSlot}
use Rattle.block_table.specs.Table.{Table}
use Rattle.block_table.specs.TreeIn.{block_at}
use Rattle.tree_frame.specs.Frame.{AreFree, IsEdit, IsLeft}
use Rattle.blk_base.proofs.Members.{is_in}

-- it is Dirty or it isn't
pub is_dirty : (state : SlotState) → (state ≡ Dirty) ⊎ (state ≢ Dirty)
is_dirty Free = inr (λ e. cc)
is_dirty Dirty = inl refl
is_dirty Sealed = inr (λ e. cc)
is_dirty Live = inr (λ e. cc)
is_dirty LetGo = inr (λ e. cc)

-- ---- blocks of which an edit says that they are as they were, or Free before and after

abbrev pub IsSameOrFree : BlockSlot → BlockSlot → Type 0
IsSameOrFree old new = (new ≡ old) ⊎ AreFree old new

pub free_before : (old new : BlockSlot) → IsSameOrFree old new → new.state ≡ Free → old.state ≡ Free
free_before old new h free = elim h [ inl same ↦ ap (λ (slot : BlockSlot). slot.state) (sym same) ∙ free | inr both ↦ both.before ]

pub free_after : (old new : BlockSlot) → IsSameOrFree old new → old.state ≡ Free → new.state ≡ Free
free_after old new h free = elim h [ inl same ↦ ap (λ (slot : BlockSlot). slot.state) same ∙ free | inr both ↦ both.after ]

pub same_unless_free : (old new : BlockSlot) → IsSameOrFree old new → old.state ≢ Free → new ≡ old
same_unless_free old new h taken = elim h [ inl same ↦ same | inr both ↦ absurd (taken both.before) ]

same_then_same : (old mid new : BlockSlot) → IsSameOrFree old mid → IsSameOrFree mid new → IsSameOrFree old new
same_then_same old mid new one two = elim one [
  | inl same ↦ elim two [
    | inl again ↦ inl (again ∙ same)
    | inr both ↦ inr (record { before = ap (λ (slot : BlockSlot). slot.state) (sym same) ∙ both.before; after = both.after })
  ]
  | inr both ↦ inr (record { before = both.before; after = free_after mid new two both.after })
]

-- ---- blocks that are left

-- what was let go and isn't Free is as it was let go
let_go_stays : (old mid new : BlockSlot) → mid ≡ record old { state = LetGo; stood = None } → IsSameOrFree mid new → new ≡ record old { state = LetGo; stood = None }
let_go_stays old mid new gone h =
    let state : mid.state ≡ LetGo = ap (λ (slot : BlockSlot). slot.state) gone in
    same_unless_free mid new h (λ free. let e : LetGo ≡ Free = sym state ∙ free in cc) ∙ gone

left_stays : (old mid new : BlockSlot) → IsLeft old mid → IsSameOrFree mid new → IsLeft old new
left_stays old mid new left h = record {
  dirty = λ dirty. free_after mid new h (left.dirty dirty);
  written = λ written. let_go_stays old mid new (left.written written) h;
}

left_later : (old mid new : BlockSlot) → mid.state ≡ old.state → (old.state ≢ Dirty → mid ≡ old) → IsLeft mid new → IsLeft old new
left_later old mid new state same left = record {
  dirty = λ dirty. left.dirty (state ∙ dirty);
  written = λ written.
      let whole : mid ≡ old = same written in
      subst (λ (slot : BlockSlot). new ≡ record slot { state = LetGo; stood = None }) whole (left.written (λ dirty. written (sym state ∙ dirty)));
}

-- a block that is Free as it is left was Dirty
pub was_dirty : (old mid : BlockSlot) → IsLeft old mid → mid.state ≡ Free → old.state ≡ Dirty
was_dirty old mid left free = elim (is_dirty old.state) [
  | inl dirty ↦ dirty
  | inr written ↦ let e : LetGo ≡ Free = sym (ap (λ (slot : BlockSlot). slot.state) (left.written written)) ∙ free in absurd cc
]

-- ---- one edit behind another

module _ (t0 t1 t2 : Table) (before middle after : List ℕ) (one : IsEdit t0 t1 before middle) (two : IsEdit t1 t2 middle after) (at : ℕ) where
  joined_fresh : Contains after at → (Contains before at → ⊥) → ((block_at t0 at).state ≡ Free) × ((block_at t2 at).state ≡ Dirty)
  joined_fresh here none = elim (is_in middle at) [
    | inl mid ↦ let was = one.fresh at mid none in (was.0, two.kept at mid here ∙ was.1)
    | inr out ↦ let was = two.fresh at here out in (free_before (block_at t0 at) (block_at t1 at) (one.others at none out) was.0, was.1)
  ]

  joined_left : Contains before at → (Contains after at → ⊥) → IsLeft (block_at t0 at) (block_at t2 at)
  joined_left there none = elim (is_in middle at) [
    | inl mid ↦ left_later (block_at t0 at) (block_at t1 at) (block_at t2 at) (one.kept at there mid) (one.kept_whole at there mid) (two.left at mid none)
    | inr out ↦ left_stays (block_at t0 at) (block_at t1 at) (block_at t2 at) (one.left at there out) (two.others at out none)
  ]

  joined_kept : Contains before at → Contains after at → (block_at t2 at).state ≡ (block_at t0 at).state
  joined_kept there here = elim (is_in middle at) [
    | inl mid ↦ two.kept at mid here ∙ one.kept at there mid
    | inr out ↦ let new = two.fresh at here out in new.1 ∙ sym (was_dirty (block_at t0 at) (block_at t1 at) (one.left at there out) new.0)
  ]

  joined_whole : Contains before at → Contains after at → (block_at t0 at).state ≢ Dirty → block_at t2 at ≡ block_at t0 at
  joined_whole there here written = elim (is_in middle at) [
    | inl mid ↦ two.kept_whole at mid here (λ dirty. written (sym (one.kept at there mid) ∙ dirty)) ∙ one.kept_whole at there mid written
    | inr out ↦ absurd (written (was_dirty (block_at t0 at) (block_at t1 at) (one.left at there out) (two.fresh at here out).0))
  ]

  joined_others : (Contains before at → ⊥) → (Contains after at → ⊥) → IsSameOrFree (block_at t0 at) (block_at t2 at)
  joined_others none gone = elim (is_in middle at) [
    | inl mid ↦ let new = one.fresh at mid none in inr (record { before = new.0; after = (two.left at mid gone).dirty new.1 })
    | inr out ↦ same_then_same (block_at t0 at) (block_at t1 at) (block_at t2 at) (one.others at none out) (two.others at out gone)
  ]

pub edits_join : (t0 t1 t2 : Table) (before middle after : List ℕ) → IsEdit t0 t1 before middle → IsEdit t1 t2 middle after → IsEdit t0 t2 before after
edits_join t0 t1 t2 before middle after one two = record {
  size = two.size ∙ one.size;
  lists = two.lists ∙ one.lists;
  fresh = joined_fresh t0 t1 t2 before middle after one two;
  left = joined_left t0 t1 t2 before middle after one two;
  kept = joined_kept t0 t1 t2 before middle after one two;
  kept_whole = joined_whole t0 t1 t2 before middle after one two;
  others = joined_others t0 t1 t2 before middle after one two;
}

pub nothing_is_an_edit : (table : Table) (reach : List ℕ) → IsEdit table table reach reach
nothing_is_an_edit table reach = record {
  size = refl;
  lists = refl;
  fresh = λ at here none. absurd (none here);
  left = λ at there none. absurd (none there);
  kept = λ at there here. refl;
  kept_whole = λ at there here written. refl;
  others = λ at none gone. inl refl;
}

-- ---- the two lists by their members alone

pub edits_by_membership : (old new : Table) (before after before' after' : List ℕ) → ((at : ℕ) → Contains before' at ↔ Contains before at) → ((at : ℕ) → Contains after' at ↔ Contains after at) → IsEdit old new before after → IsEdit old new before' after'
edits_by_membership old new before after before' after' is_before is_after edit = record {
  size = edit.size;
  lists = edit.lists;
  fresh = λ at here none. edit.fresh at ((is_after at).0 here) (λ there. none ((is_before at).1 there));
  left = λ at there none. edit.left at ((is_before at).0 there) (λ here. none ((is_after at).1 here));
  kept = λ at there here. edit.kept at ((is_before at).0 there) ((is_after at).0 here);
  kept_whole = λ at there here. edit.kept_whole at ((is_before at).0 there) ((is_after at).0 here);
  others = λ at none gone. edit.others at (λ there. none ((is_before at).1 there)) (λ here. gone ((is_after at).1 here));
}
