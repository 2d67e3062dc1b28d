-- Edits one after the other, and edits beside blocks that they leave.
use Rattle.std.proofs.Common.{None, ◌≡◌, ◌≢◌, ◌≤◌, ◌+◌, ℕ, List, refl, ap, ◌∙◌, sym, subst, arith, ◌⊎◌, inl, inr}
use Rattle.std.proofs.lemmas.Bool.{cases_lt}
use Rattle.block_table.specs.declared.state.SlotState.{SlotState}
use Rattle.block_table.specs.declared.state.SlotState.TheVariants.{Free, Dirty, Sealed, Live, LetGo}
use Rattle.blk_base.specs.Address.{IsAllowed}
use Rattle.block_table.specs.Slot.{BlockSlot}
use Rattle.block_table.specs.Table.{Table}
use Rattle.block_table.specs.TreeIn.{IsTaken, block_at}
use Rattle.tree_frame.specs.Frame.{AreFree, IsLeft}
use Rattle.tree_range.specs.Part.{times_in}
use Rattle.cow_tree.specs.Change.{IsChange, IsChangeAt, IsChangeBy}

-- a number is 0 or more
pub none_or_some : (n : ℕ) → (n ≡ 0) ⊎ (1 ≤ n)
none_or_some n = elim (cases_lt n 1) [ inl none ↦ inl (omega arith) | inr some ↦ inr some ]

-- a block is Dirty or not
pub dirty_or_not : (state : SlotState) → (state ≡ Dirty) ⊎ (state ≢ Dirty)
dirty_or_not Free = inr (λ e. cc)
dirty_or_not Dirty = inl refl
dirty_or_not Sealed = inr (λ e. cc)
dirty_or_not Live = inr (λ e. cc)
dirty_or_not LetGo = inr (λ e. cc)

-- a block that is let go isn't Free
gone_not_free : (old new : BlockSlot) → new ≡ record old { state = LetGo; stood = None } → new.state ≡ Free → ⊥
gone_not_free old new is free = let e : new.state ≡ LetGo = ap (λ (slot : BlockSlot). slot.state) is in cc

-- ---- one block

both_others : (o m n : BlockSlot) → (m ≡ o) ⊎ AreFree o m → (n ≡ m) ⊎ AreFree m n → (n ≡ o) ⊎ AreFree o n
both_others o m n one two = elim one [
  | inl e ↦ elim two [
    | inl f ↦ inl (f ∙ e)
    | inr f ↦ inr (record { before = ap (λ (slot : BlockSlot). slot.state) (sym e) ∙ f.before; after = f.after })
  ]
  | inr e ↦ elim two [
    | inl f ↦ inr (record { before = e.before; after = ap (λ (slot : BlockSlot). slot.state) f ∙ e.after })
    | inr f ↦ inr (record { before = e.before; after = f.after })
  ]
]

-- what an edit left isn't written by the next one
left_then : (o m n : BlockSlot) → IsLeft o m → (n ≡ m) ⊎ AreFree m n → IsLeft o n
left_then o m n one two = record {
  dirty = λ d. elim two [
    | inl e ↦ ap (λ (slot : BlockSlot). slot.state) e ∙ one.dirty d
    | inr e ↦ e.after
  ];
  written = λ d. elim two [
    | inl e ↦ e ∙ one.written d
    | inr e ↦ absurd (gone_not_free o m (one.written d) e.before)
  ];
}

-- what an edit kept may be left by the next one
kept_then : (o m n : BlockSlot) → m.state ≡ o.state → (o.state ≢ Dirty → m ≡ o) → IsLeft m n → IsLeft o n
kept_then o m n same whole two = record {
  dirty = λ d. two.dirty (same ∙ d);
  written = λ d. let e : m ≡ o = whole d in two.written (λ f. d (sym same ∙ f)) ∙ ap (λ (slot : BlockSlot). record slot { state = LetGo; stood = None }) e;
}

-- a block that an edit let go isn't one that the next takes anew, unless it was Dirty
not_anew : (o m : BlockSlot) → IsLeft o m → m.state ≡ Free → o.state ≡ Dirty
not_anew o m one free = elim (dirty_or_not o.state) [ inl d ↦ d | inr d ↦ absurd (gone_not_free o m (one.written d) free) ]

pub join_at : (o m n : BlockSlot) (b c a : ℕ) → IsChangeAt o m b c → IsChangeAt m n c a → IsChangeAt o n b a
join_at o m n b c a one two = elim (none_or_some c) [
  | inl none ↦ record {
    fresh = λ p q. let f = two.fresh none q in
        elim (one.others p none) [
          | inl e ↦ (ap (λ (slot : BlockSlot). slot.state) (sym e) ∙ f.0, f.1)
          | inr e ↦ (e.before, f.1)
        ];
    left = λ p q. left_then o m n (one.left p none) (two.others none q);
    kept = λ p q. let f = two.fresh none q in f.1 ∙ sym (not_anew o m (one.left p none) f.0);
    kept_whole = λ p q d. let f = two.fresh none q in absurd (d (not_anew o m (one.left p none) f.0));
    others = λ p q. both_others o m n (one.others p none) (two.others none q);
  }
  | inr some ↦ record {
    fresh = λ p q. let f = one.fresh p some in (f.0, two.kept some q ∙ f.1);
    left = λ p q. kept_then o m n (one.kept p some) (one.kept_whole p some) (two.left some q);
    kept = λ p q. two.kept some q ∙ one.kept p some;
    kept_whole = λ p q d. let e = one.kept_whole p some d in two.kept_whole some q (λ f. d (sym (one.kept p some) ∙ f)) ∙ e;
    others = λ p q. let f = one.fresh p some in inr (record { before = f.0; after = (two.left some q).dirty f.1 });
  }
]

-- a block that was beside the edit, and isn't Free
pub beside_at : (o n : BlockSlot) (b a : ℕ) → IsChangeAt o n b a → b ≡ 0 → o.state ≢ Free → (a ≡ 0) × (n ≡ o)
beside_at o n b a h none taken = elim (none_or_some a) [
  | inl e ↦ (e, elim (h.others none e) [ inl same ↦ same | inr free ↦ absurd (taken free.before) ])
  | inr e ↦ absurd (taken (h.fresh none e).0)
]

-- an edit of one block counts by numbers alone
same_numbers : (o n : BlockSlot) (b a b' a' : ℕ) → b' ≡ b → a' ≡ a → IsChangeAt o n b a → IsChangeAt o n b' a'
same_numbers o n b a b' a' e f h = record {
  fresh = λ p q. h.fresh (omega arith) (omega arith);
  left = λ p q. h.left (omega arith) (omega arith);
  kept = λ p q. h.kept (omega arith) (omega arith);
  kept_whole = λ p q. h.kept_whole (omega arith) (omega arith);
  others = λ p q. h.others (omega arith) (omega arith);
}

same_block : (o n : BlockSlot) (b a : ℕ) → 1 ≤ b → 1 ≤ a → n ≡ o → IsChangeAt o n b a
same_block o n b a p q e = record {
  fresh = λ r s. absurd (omega arith);
  left = λ r s. absurd (omega arith);
  kept = λ r s. ap (λ (slot : BlockSlot). slot.state) e;
  kept_whole = λ r s d. e;
  others = λ r s. absurd (omega arith);
}

more_at : (o n : BlockSlot) (b a x b' a' : ℕ) → IsChangeAt o n b a → (1 ≤ x → (b ≡ 0) × (o.state ≢ Free)) → b' ≡ b + x → a' ≡ a + x → IsChangeAt o n b' a'
more_at o n b a x b' a' h extra e f = elim (none_or_some x) [
  | inl none ↦ same_numbers o n b a b' a' (omega arith) (omega arith) h
  | inr some ↦ let k = extra some in same_block o n b' a' (omega arith) (omega arith) (beside_at o n b a h k.0 k.1).1
]

-- ---- all blocks

-- one edit after another
pub join : (one two three : Table) (before middle after : ℕ → ℕ) (m n : ℕ) → IsChangeBy one two before middle m → IsChangeBy two three middle after n → IsChangeBy one three before after (m + n)
join one two three before middle after m n h k = record {
  size = k.size ∙ h.size;
  lists = k.lists ∙ h.lists;
  each = λ at. join_at (block_at one at) (block_at two at) (block_at three at) (before at) (middle at) (after at) (h.each at) (k.each at);
  once = λ each. k.once (h.once each);
  allowed = λ at p q. elim (none_or_some (middle at)) [
    | inl none ↦ subst (λ (n : ℕ). IsAllowed n at) h.size (k.allowed at none q)
    | inr some ↦ h.allowed at p some
  ];
  spare = omega (arith, h.spare, k.spare);
  free = omega (arith, h.free, k.free);
  balance = omega (arith, h.balance, k.balance);
}

-- the same between lists
pub join_lists : (one two three : Table) (before middle after : List ℕ) (m n : ℕ) → IsChange one two before middle m → IsChange two three middle after n → IsChange one three before after (m + n)
join_lists one two three before middle after m n h k = join one two three (λ x. times_in x before) (λ x. times_in x middle) (λ x. times_in x after) m n h k

-- it takes more at most
pub at_most : (old new : Table) (before after : ℕ → ℕ) (m n : ℕ) → m ≤ n → IsChangeBy old new before after m → IsChangeBy old new before after n
at_most old new before after m n le h = record {
  size = h.size;
  lists = h.lists;
  each = h.each;
  once = h.once;
  allowed = h.allowed;
  spare = omega (arith, h.spare);
  free = omega (arith, h.free);
  balance = h.balance;
}

-- a block beside the edit that isn't Free is as it was
pub beside : (old new : Table) (before after : ℕ → ℕ) (m at : ℕ) → IsChangeBy old new before after m → before at ≡ 0 → (block_at old at).state ≢ Free → block_at new at ≡ block_at old at
beside old new before after m at h none taken = (beside_at (block_at old at) (block_at new at) (before at) (after at) (h.each at) none taken).1

-- with other blocks beside it that it leaves as they are
pub more : (old new : Table) (before after extra before' after' : ℕ → ℕ) (m : ℕ) → IsChangeBy old new before after m
    → ((at : ℕ) → 1 ≤ extra at → (before at ≡ 0) × ((block_at old at).state ≢ Free)) → ((at : ℕ) → extra at ≤ 1) → ((at : ℕ) → before' at ≡ before at + extra at) → ((at : ℕ) → after' at ≡ after at + extra at)
    → IsChangeBy old new before' after' m
more old new before after extra before' after' m h apart single e f = record {
  size = h.size;
  lists = h.lists;
  each = λ at. more_at (block_at old at) (block_at new at) (before at) (after at) (extra at) (before' at) (after' at) (h.each at) (apart at) (e at) (f at);
  once = λ each at.
      let some : after at ≤ 1 = h.once (λ x. omega (arith, each x, e x)) at in
      elim (none_or_some (extra at)) [
        | inl none ↦ omega (arith, f at)
        | inr there ↦ let k = apart at there in let none = (beside_at (block_at old at) (block_at new at) (before at) (after at) (h.each at) k.0 k.1).0 in omega (arith, f at, single at)
      ];
  allowed = λ at p q. elim (none_or_some (extra at)) [
    | inl none ↦ h.allowed at (omega (arith, e at)) (omega (arith, f at))
    | inr there ↦ absurd (omega (arith, e at))
  ];
  spare = h.spare;
  free = h.free;
  balance = h.balance;
}

-- where what was reached was taken, what is reached is
pub taken_after : (old new : Table) (before after : ℕ → ℕ) (m : ℕ) → IsChangeBy old new before after m → ((at : ℕ) → 1 ≤ before at → IsTaken old at) → (at : ℕ) → 1 ≤ after at → IsTaken new at
taken_after old new before after m h taken at there = elim (none_or_some (before at)) [
  | inl none ↦
      let fresh = (h.each at).fresh none there in
      record { allowed = subst (λ (n : ℕ). IsAllowed n at) (sym h.size) (h.allowed at none there); taken = λ e. let f : Dirty ≡ Free = sym fresh.1 ∙ e in cc }
  | inr some ↦
      let was = taken at some in
      record { allowed = subst (λ (n : ℕ). IsAllowed n at) (sym h.size) was.allowed; taken = λ e. was.taken (sym ((h.each at).kept some there) ∙ e) }
]

-- where none of what was reached was let go, none of what is reached is
pub current_after : (old new : Table) (before after : ℕ → ℕ) (m : ℕ) → IsChangeBy old new before after m → ((at : ℕ) → 1 ≤ before at → (block_at old at).state ≢ LetGo) → (at : ℕ) → 1 ≤ after at → (block_at new at).state ≢ LetGo
current_after old new before after m h current at there = elim (none_or_some (before at)) [
  | inl none ↦ let fresh = (h.each at).fresh none there in λ e. let f : Dirty ≡ LetGo = sym fresh.1 ∙ e in cc
  | inr some ↦ λ e. current at some (sym ((h.each at).kept some there) ∙ e)
]

pub at_most_lists : (old new : Table) (before after : List ℕ) (m n : ℕ) → m ≤ n → IsChange old new before after m → IsChange old new before after n
at_most_lists old new before after m n le h = at_most old new (λ x. times_in x before) (λ x. times_in x after) m n le h
