-- The steps of an edit are edits of the one or two blocks that they change.
use Rattle.std.proofs.Common.{◌≡◌, ◌≢◌, ◌+◌, ◌∙◌, ℕ, [], ◌∷◌, sym, ap, subst, inl, inr}
use Rattle.std.specs.Prelude.{None}
use Rattle.blk_base.specs.declared.key.Addr.{Addr}
use Rattle.block_table.specs.declared.state.SlotState.TheVariants.{Free, Dirty, LetGo}
use Rattle.block_table.specs.Slot.{BlockSlot, free_slot}
use Rattle.block_table.specs.Table.{Table, slot_at, state_at, with_slot, with_spare}
use Rattle.block_table.specs.TreeIn.{block_at}
use Rattle.block_table.proofs.Kept.{found, taken_state}
use Rattle.tree_blocks.specs.Steps.{HasNewBytes, IsCopied, IsSameBut, IsTakenAt}
use Rattle.tree_blocks.proofs.Put.{put_slot, put_others}
use Rattle.tree_frame.specs.Frame.{IsEdit, IsLeft}
use Rattle.blk_base.proofs.Members.{in_cons, in_head, in_nothing, in_one}
use Rattle.tree_frame.proofs.EditLaws.{is_dirty}

-- a block that was Free and is Dirty
taken_fresh : (old new : Table) (x at : ℕ) → IsTakenAt old new x → x ≡ at → ((block_at old at).state ≡ Free) × ((block_at new at).state ≡ Dirty)
taken_fresh old new x at taken e =
    (subst (λ (a : ℕ). (block_at old a).state ≡ Free) e taken.was_free, subst (λ (a : ℕ). (block_at new a).state ≡ Dirty) e (ap (λ (slot : BlockSlot). slot.state) taken.dirty))

-- the bytes of a block change, and its state stays
bytes_kept : (old new : Table) (x at : ℕ) → HasNewBytes old new x → x ≡ at → (block_at new at).state ≡ (block_at old at).state
bytes_kept old new x at kept e = subst (λ (a : ℕ). (block_at new a).state ≡ (block_at old a).state) e (ap (λ (slot : BlockSlot). slot.state) kept)

is_not_written : (old : Table) (x at : ℕ) → (block_at old x).state ≡ Dirty → x ≡ at → (block_at old at).state ≢ Dirty → ⊥
is_not_written old x at dirty e written = written (subst (λ (a : ℕ). (block_at old a).state ≡ Dirty) e dirty)

let_go_left : (old new : BlockSlot) → old.state ≢ Dirty → new ≡ record old { state = LetGo; stood = None } → IsLeft old new
let_go_left old new written gone = record { dirty = λ dirty. absurd (written dirty); written = λ _. gone }

freed_left : (old new : BlockSlot) → old.state ≡ Dirty → new ≡ free_slot → IsLeft old new
freed_left old new dirty gone = record { dirty = λ _. ap (λ (slot : BlockSlot). slot.state) gone; written = λ written. absurd (written dirty) }

-- a copy can't stand where its original does
copy_apart : (old new : Table) (at copy : ℕ) → IsCopied old new at copy → copy ≡ at → ⊥
copy_apart old new at copy copied e =
    let gone : (block_at new at).state ≡ LetGo = ap (λ (slot : BlockSlot). slot.state) copied.let_go in
    let dirty : (block_at new at).state ≡ Dirty = (taken_fresh old new copy at copied.taken e).1 in
    let both : LetGo ≡ Dirty = sym gone ∙ dirty in
    cc

-- a block is copied (`own` of a block that isn't Dirty)
pub copied_is_an_edit : (old new : Table) (at copy : ℕ) → IsCopied old new at copy → (block_at old at).state ≢ Dirty → IsEdit old new (at ∷ []) (copy ∷ [])
copied_is_an_edit old new at copy copied written = record {
  size = copied.others.size;
  lists = copied.others.lists;
  fresh = λ x here none. taken_fresh old new copy x copied.taken (in_one copy x here);
  left = λ x there none. subst (λ (a : ℕ). IsLeft (block_at old a) (block_at new a)) (in_one at x there) (let_go_left (block_at old at) (block_at new at) written copied.let_go);
  kept = λ x there here. absurd (copy_apart old new at copy copied (in_one copy x here ∙ sym (in_one at x there)));
  kept_whole = λ x there here _. absurd (copy_apart old new at copy copied (in_one copy x here ∙ sym (in_one at x there)));
  others = λ x none gone. inl (copied.others.others x (λ h. elim (in_cons at x (copy ∷ []) h) [ inl e ↦ none (in_head at x [] e) | inr there ↦ gone there ]));
}

-- the bytes of a Dirty block change
pub new_bytes_are_an_edit : (old new : Table) (at : ℕ) → (block_at old at).state ≡ Dirty → HasNewBytes old new at → IsSameBut old new (at ∷ []) → IsEdit old new (at ∷ []) (at ∷ [])
new_bytes_are_an_edit old new at dirty kept same = record {
  size = same.size;
  lists = same.lists;
  fresh = λ x here none. absurd (none here);
  left = λ x there none. absurd (none there);
  kept = λ x there here. bytes_kept old new at x kept (in_one at x there);
  kept_whole = λ x there here written. absurd (is_not_written old at x dirty (in_one at x there) written);
  others = λ x none gone. inl (same.others x none);
}

-- a Dirty block is split
pub split_is_an_edit : (old new : Table) (at other : ℕ) → (block_at old at).state ≡ Dirty → HasNewBytes old new at → IsTakenAt old new other → IsSameBut old new (at ∷ other ∷ []) → IsEdit old new (at ∷ []) (at ∷ other ∷ [])
split_is_an_edit old new at other dirty kept taken same = record {
  size = same.size;
  lists = same.lists;
  fresh = λ x here none. elim (in_cons at x (other ∷ []) here) [
    | inl e ↦ absurd (none (in_head at x [] e))
    | inr is ↦ taken_fresh old new other x taken (in_one other x is)
  ];
  left = λ x there none. absurd (none (in_head at x (other ∷ []) (in_one at x there)));
  kept = λ x there here. bytes_kept old new at x kept (in_one at x there);
  kept_whole = λ x there here written. absurd (is_not_written old at x dirty (in_one at x there) written);
  others = λ x none gone. inl (same.others x gone);
}

-- a Free block is taken
pub taken_is_an_edit : (old new : Table) (at : ℕ) → IsTakenAt old new at → IsSameBut old new (at ∷ []) → IsEdit old new [] (at ∷ [])
taken_is_an_edit old new at taken same = record {
  size = same.size;
  lists = same.lists;
  fresh = λ x here none. taken_fresh old new at x taken (in_one at x here);
  left = λ x there none. absurd (in_nothing x there);
  kept = λ x there here. absurd (in_nothing x there);
  kept_whole = λ x there here _. absurd (in_nothing x there);
  others = λ x none gone. inl (same.others x gone);
}

-- the two blocks that are joined are two
joined_apart : (old new : Table) (left right : ℕ) → (block_at old left).state ≡ Dirty → HasNewBytes old new left → block_at new right ≡ free_slot → left ≡ right → ⊥
joined_apart old new left right dirty kept gone e =
    let still : (block_at new right).state ≡ Dirty = subst (λ (a : ℕ). (block_at new a).state ≡ Dirty) e (ap (λ (slot : BlockSlot). slot.state) kept ∙ dirty) in
    let free : (block_at new right).state ≡ Free = ap (λ (slot : BlockSlot). slot.state) gone in
    let both : Dirty ≡ Free = sym still ∙ free in
    cc

-- two Dirty blocks are joined
pub join_is_an_edit : (old new : Table) (left right : ℕ) → (block_at old left).state ≡ Dirty → (block_at old right).state ≡ Dirty → HasNewBytes old new left → block_at new right ≡ free_slot → IsSameBut old new (left ∷ right ∷ []) → IsEdit old new (left ∷ right ∷ []) (left ∷ [])
join_is_an_edit old new left right dirty right_dirty kept gone same = record {
  size = same.size;
  lists = same.lists;
  fresh = λ x here none. absurd (none (in_head left x (right ∷ []) (in_one left x here)));
  left = λ x there none. elim (in_cons left x (right ∷ []) there) [
    | inl e ↦ absurd (none (in_head left x [] e))
    | inr is ↦ subst (λ (a : ℕ). IsLeft (block_at old a) (block_at new a)) (in_one right x is) (freed_left (block_at old right) (block_at new right) right_dirty gone)
  ];
  kept = λ x there here. bytes_kept old new left x kept (in_one left x here);
  kept_whole = λ x there here written. absurd (is_not_written old left x dirty (in_one left x here) written);
  others = λ x none _. inl (same.others x none);
}

-- ---- a block is let go

abbrev pub let_go_slot : BlockSlot → BlockSlot
let_go_slot slot = record slot { state = LetGo; stood = None }

-- it is left, and every other block stays
pub let_go_is_an_edit : (old new : Table) (at : Addr) → state_at old at ≢ Free → (state_at old at ≡ Dirty → new ≡ with_spare (with_slot old at free_slot) (old.spare + 1)) → (state_at old at ≢ Dirty → new ≡ with_slot old at (record (slot_at old at) { state = LetGo; stood = None })) → IsEdit old new (at.0 ∷ []) []
let_go_is_an_edit old new at taken dirty_is written_is =
    let place = found old at (taken_state (state_at old at) taken) in
    let both : IsLeft (block_at old at.0) (block_at new at.0) × IsSameBut old new (at.0 ∷ []) = elim (is_dirty (state_at old at)) [
      | inl dirty ↦ (freed_left (block_at old at.0) (block_at new at.0) dirty (put_slot old new at free_slot (old.spare + 1) (dirty_is dirty) place.aligned place.inside), put_others old new at free_slot (old.spare + 1) (dirty_is dirty) place.aligned place.inside)
      | inr written ↦ (let_go_left (block_at old at.0) (block_at new at.0) written (put_slot old new at (let_go_slot (slot_at old at)) old.spare (written_is written) place.aligned place.inside), put_others old new at (let_go_slot (slot_at old at)) old.spare (written_is written) place.aligned place.inside)
    ] in
    record {
      size = both.1.size;
      lists = both.1.lists;
      fresh = λ x here none. absurd (in_nothing x here);
      left = λ x there none. subst (λ (a : ℕ). IsLeft (block_at old a) (block_at new a)) (in_one at.0 x there) both.0;
      kept = λ x there here. absurd (in_nothing x here);
      kept_whole = λ x there here _. absurd (in_nothing x here);
      others = λ x none gone. inl (both.1.others x none);
    }
