-- The steps of `tree_blocks` as edits.
use Rattle.std.proofs.Common.{◌≡◌, ◌≢◌, ◌<◌, ◌+◌, ℕ, zero, suc, List, [], ◌∷◌, length, refl, ap, ◌∙◌, sym, subst, arith, ◌⊎◌, inl, inr}
use Rattle.std.specs.Prelude.{true, false, slice_index_or}
use Rattle.std.proofs.lemmas.Bool.{cases_eq, eq-eqb, ne_eqb}
use Rattle.blk_base.specs.declared.key.Addr.{Addr}
use Rattle.block_table.specs.declared.state.SlotState.TheVariants.{Free, Dirty, LetGo}
use Rattle.block_table.specs.Slot.{BlockSlot}
use Rattle.block_table.specs.Table.{Table, free_blocks}
use Rattle.block_table.specs.TreeIn.{block_at}
use Rattle.tree_range.specs.Part.{times_in}
use Rattle.tree_range.proofs.Times.{times_cons}
use Rattle.tree_blocks.specs.Steps.{HasNewBytes, IsCopied, IsSameBut, IsTakenAt}
use Rattle.tree_blocks.proofs.Put.{same_at}
use Rattle.tree_frame.specs.Frame.{IsLeft}
use Rattle.cow_tree.specs.Change.{IsChange, IsChangeAt}
use Rattle.blk_base.specs.Address.{IsAllowed}
use Rattle.cow_tree.proofs.Changes.{at_most, dirty_or_not}

pub here : (x y : ℕ) → x ≡ y → times_in y (x ∷ []) ≡ 1
here x y e = times_cons y x [] true (eq-eqb x y e)

pub elsewhere : (x y : ℕ) → x ≢ y → times_in y (x ∷ []) ≡ 0
elsewhere x y e = times_cons y x [] false (ne_eqb x y e)

two_at : (x y at k : ℕ) → k < length (x ∷ y ∷ []) → slice_index_or (x ∷ y ∷ []) k at ≡ at → (x ≡ at) ⊎ (y ≡ at)
two_at x y at zero inside is = inl is
two_at x y at (suc zero) inside is = inr is
two_at x y at (suc (suc k)) inside is = absurd (omega (arith, inside))

pub same_but_two : (old new : Table) (x y at : ℕ) → IsSameBut old new (x ∷ y ∷ []) → x ≢ at → y ≢ at → block_at new at ≡ block_at old at
same_but_two old new x y at same p q =
    same.others at (λ h. elim (two_at x y at h.0 h.1 h.2) [ inl e ↦ p e | inr e ↦ q e ])

-- ---- one block

pub at_dirty : (o n : BlockSlot) (b a : ℕ) → b ≡ 1 → a ≡ 1 → o.state ≡ Dirty → n.state ≡ o.state → IsChangeAt o n b a
at_dirty o n b a p q dirty same = record {
  fresh = λ r s. absurd (omega arith);
  left = λ r s. absurd (omega arith);
  kept = λ r s. same;
  kept_whole = λ r s d. absurd (d dirty);
  others = λ r s. absurd (omega arith);
}

pub at_fresh : (o n : BlockSlot) (b a : ℕ) → b ≡ 0 → a ≡ 1 → o.state ≡ Free → n.state ≡ Dirty → IsChangeAt o n b a
at_fresh o n b a p q free dirty = record {
  fresh = λ r s. (free, dirty);
  left = λ r s. absurd (omega arith);
  kept = λ r s. absurd (omega arith);
  kept_whole = λ r s d. absurd (omega arith);
  others = λ r s. absurd (omega arith);
}

pub at_left : (o n : BlockSlot) (b a : ℕ) → b ≡ 1 → a ≡ 0 → IsLeft o n → IsChangeAt o n b a
at_left o n b a p q left = record {
  fresh = λ r s. absurd (omega arith);
  left = λ r s. left;
  kept = λ r s. absurd (omega arith);
  kept_whole = λ r s d. absurd (omega arith);
  others = λ r s. absurd (omega arith);
}

pub at_same : (o n : BlockSlot) (b a : ℕ) → b ≡ a → n ≡ o → IsChangeAt o n b a
at_same o n b a p same = record {
  fresh = λ r s. absurd (omega arith);
  left = λ r s. absurd (omega arith);
  kept = λ r s. ap (λ (slot : BlockSlot). slot.state) same;
  kept_whole = λ r s d. same;
  others = λ r s. inl same;
}

-- ---- steps

-- nothing is changed
pub nothing : (old : Table) (list : List ℕ) → IsChange old old list list 0
nothing old list = record {
  size = refl;
  lists = refl;
  each = λ x. at_same (block_at old x) (block_at old x) (times_in x list) (times_in x list) refl refl;
  once = λ each at. each at;
  allowed = λ x p q. absurd (omega arith);
  spare = omega arith;
  free = omega arith;
  balance = refl;
}

-- a Dirty block has other bytes
pub rewritten : (old new : Table) (at : ℕ) → (block_at old at).state ≡ Dirty → HasNewBytes old new at → IsSameBut old new (at ∷ []) → new.spare ≡ old.spare → free_blocks new ≡ free_blocks old → IsChange old new (at ∷ []) (at ∷ []) 0
rewritten old new at dirty bytes same spare free = record {
  size = same.size;
  lists = same.lists;
  each = λ x. elim (cases_eq at x) [
    | inl e ↦ at_dirty (block_at old x) (block_at new x) (times_in x (at ∷ [])) (times_in x (at ∷ [])) (here at x e) (here at x e) (subst (λ (y : ℕ). (block_at old y).state ≡ Dirty) e dirty) (subst (λ (y : ℕ). (block_at new y).state ≡ (block_at old y).state) e (ap (λ (slot : BlockSlot). slot.state) bytes))
    | inr e ↦ at_same (block_at old x) (block_at new x) (times_in x (at ∷ [])) (times_in x (at ∷ [])) refl (same_at old new at x same e)
  ];
  once = λ each x. each x;
  allowed = λ x p q. absurd (omega arith);
  spare = omega (arith, spare);
  free = omega (arith, free);
  balance = omega (arith, spare, free);
}

-- a Free block is taken
pub taken : (old new : Table) (at : ℕ) → IsTakenAt old new at → IsSameBut old new (at ∷ []) → new.spare + 1 ≡ old.spare → free_blocks new + 1 ≡ free_blocks old → IsChange old new [] (at ∷ []) 1
taken old new at fresh same spare free = record {
  size = same.size;
  lists = same.lists;
  each = λ x. elim (cases_eq at x) [
    | inl e ↦ at_fresh (block_at old x) (block_at new x) 0 (times_in x (at ∷ [])) refl (here at x e) (subst (λ (y : ℕ). (block_at old y).state ≡ Free) e fresh.was_free) (subst (λ (y : ℕ). (block_at new y).state ≡ Dirty) e (ap (λ (slot : BlockSlot). slot.state) fresh.dirty))
    | inr e ↦ at_same (block_at old x) (block_at new x) 0 (times_in x (at ∷ [])) (sym (elsewhere at x e)) (same_at old new at x same e)
  ];
  once = λ each x. elim (cases_eq at x) [ inl e ↦ omega (arith, here at x e) | inr e ↦ omega (arith, elsewhere at x e) ];
  allowed = λ x p q. elim (cases_eq at x) [ inl e ↦ subst (λ (y : ℕ). IsAllowed (length old.slots) y) e fresh.allowed | inr e ↦ absurd (omega (arith, elsewhere at x e)) ];
  spare = omega (arith, spare);
  free = omega (arith, free);
  balance = omega (arith, spare, free);
}

-- a block is copied to one that was Free, and let go
pub copied : (old new : Table) (at copy : ℕ) → (block_at old at).state ≢ Dirty → IsCopied old new at copy → IsChange old new (at ∷ []) (copy ∷ []) 1
copied old new at copy written h =
    let apart : at ≢ copy = λ e.
    let gone : (block_at new at).state ≡ LetGo = ap (λ (slot : BlockSlot). slot.state) h.let_go in
    let dirty : (block_at new at).state ≡ Dirty = subst (λ (y : ℕ). (block_at new y).state ≡ Dirty) (sym e) (ap (λ (slot : BlockSlot). slot.state) h.taken.dirty) in
    let same : LetGo ≡ Dirty = sym gone ∙ dirty in cc in
    record {
      size = h.others.size;
      lists = h.others.lists;
      each = λ x. elim (cases_eq at x) [
        | inl e ↦
            let other : copy ≢ x = λ f. apart (e ∙ sym f) in
            at_left (block_at old x) (block_at new x) (times_in x (at ∷ [])) (times_in x (copy ∷ [])) (here at x e) (elsewhere copy x other) (subst (λ (y : ℕ). IsLeft (block_at old y) (block_at new y)) e (record { dirty = λ d. absurd (written d); written = λ d. h.let_go }))
        | inr e ↦ elim (cases_eq copy x) [
          | inl f ↦ at_fresh (block_at old x) (block_at new x) (times_in x (at ∷ [])) (times_in x (copy ∷ [])) (elsewhere at x e) (here copy x f) (subst (λ (y : ℕ). (block_at old y).state ≡ Free) f h.taken.was_free) (subst (λ (y : ℕ). (block_at new y).state ≡ Dirty) f (ap (λ (slot : BlockSlot). slot.state) h.taken.dirty))
          | inr f ↦ at_same (block_at old x) (block_at new x) (times_in x (at ∷ [])) (times_in x (copy ∷ [])) (elsewhere at x e ∙ sym (elsewhere copy x f)) (same_but_two old new at copy x h.others e f)
        ]
      ];
      once = λ each x. elim (cases_eq copy x) [ inl e ↦ omega (arith, here copy x e) | inr e ↦ omega (arith, elsewhere copy x e) ];
      allowed = λ x p q. elim (cases_eq copy x) [ inl e ↦ subst (λ (y : ℕ). IsAllowed (length old.slots) y) e h.taken.allowed | inr e ↦ absurd (omega (arith, elsewhere copy x e)) ];
      spare = omega (arith, h.spare);
      free = omega (arith, h.free);
      balance = omega (arith, h.spare, h.free);
    }

-- a block is made one that may be edited
pub owned : (old new : Table) (at own : Addr) → ((block_at old at.0).state ≡ Dirty → own ≡ at) → ((block_at old at.0).state ≡ Dirty → new ≡ old) → ((block_at old at.0).state ≢ Dirty → IsCopied old new at.0 own.0) → IsChange old new (at.0 ∷ []) (own.0 ∷ []) 1
owned old new at own same table copy = elim (dirty_or_not (block_at old at.0).state) [
  | inl dirty ↦
      let kept : IsChange old old (at.0 ∷ []) (at.0 ∷ []) 1 = at_most old old (λ x. times_in x (at.0 ∷ [])) (λ x. times_in x (at.0 ∷ [])) 0 1 (omega arith) (nothing old (at.0 ∷ [])) in
      subst (λ (t : Table). IsChange old t (at.0 ∷ []) (own.0 ∷ []) 1) (sym (table dirty)) (subst (λ (a : Addr). IsChange old old (at.0 ∷ []) (a.0 ∷ []) 1) (sym (same dirty)) kept)
  | inr written ↦ copied old new at.0 own.0 written (copy written)
]

-- blocks of a split: one Dirty block keeps its place, and a Free one is taken
pub split : (old new : Table) (at other : ℕ) → (block_at old at).state ≡ Dirty → HasNewBytes old new at → IsTakenAt old new other → IsSameBut old new (at ∷ other ∷ []) → new.spare + 1 ≡ old.spare → free_blocks new + 1 ≡ free_blocks old
    → IsChange old new (at ∷ []) (at ∷ other ∷ []) 1
split old new at other dirty bytes fresh same spare free =
    let apart : at ≢ other = λ e. let free_there : (block_at old at).state ≡ Free = subst (λ (y : ℕ). (block_at old y).state ≡ Free) (sym e) fresh.was_free in let wrong : Dirty ≡ Free = sym dirty ∙ free_there in cc in
    let both : (x : ℕ) → times_in x (at ∷ other ∷ []) ≡ times_in x (at ∷ []) + times_in x (other ∷ []) = λ x. omega arith in
    record {
      size = same.size;
      lists = same.lists;
      each = λ x. elim (cases_eq at x) [
        | inl e ↦
            let not_other : other ≢ x = λ f. apart (e ∙ sym f) in
            at_dirty (block_at old x) (block_at new x) (times_in x (at ∷ [])) (times_in x (at ∷ other ∷ [])) (here at x e) (omega (arith, both x, here at x e, elsewhere other x not_other)) (subst (λ (y : ℕ). (block_at old y).state ≡ Dirty) e dirty) (subst (λ (y : ℕ). (block_at new y).state ≡ (block_at old y).state) e (ap (λ (slot : BlockSlot). slot.state) bytes))
        | inr e ↦ elim (cases_eq other x) [
          | inl f ↦ at_fresh (block_at old x) (block_at new x) (times_in x (at ∷ [])) (times_in x (at ∷ other ∷ [])) (elsewhere at x e) (omega (arith, both x, elsewhere at x e, here other x f)) (subst (λ (y : ℕ). (block_at old y).state ≡ Free) f fresh.was_free) (subst (λ (y : ℕ). (block_at new y).state ≡ Dirty) f (ap (λ (slot : BlockSlot). slot.state) fresh.dirty))
          | inr f ↦ at_same (block_at old x) (block_at new x) (times_in x (at ∷ [])) (times_in x (at ∷ other ∷ [])) (omega (arith, both x, elsewhere other x f)) (same_but_two old new at other x same e f)
        ]
      ];
      once = λ each x. elim (cases_eq at x) [
        | inl e ↦ let not_other : other ≢ x = λ f. apart (e ∙ sym f) in omega (arith, both x, here at x e, elsewhere other x not_other)
        | inr e ↦ elim (cases_eq other x) [ inl f ↦ omega (arith, both x, elsewhere at x e, here other x f) | inr f ↦ omega (arith, both x, elsewhere at x e, elsewhere other x f) ]
      ];
      allowed = λ x p q. elim (cases_eq other x) [ inl f ↦ subst (λ (y : ℕ). IsAllowed (length old.slots) y) f fresh.allowed | inr f ↦ absurd (omega (arith, both x, elsewhere other x f)) ];
      spare = omega (arith, spare);
      free = omega (arith, free);
      balance = omega (arith, spare, free);
    }
