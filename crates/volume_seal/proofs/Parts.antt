-- One part of the blocks is sealed behind another.
use Rattle.std.proofs.Common.{◌≡◌, ◌≢◌, ◌∙◌, ◌≤◌, ◌+◌, ℕ, true, List, [], ◌++◌, length, map, refl, sym, ap, subst, arith, inl, inr, append_assoc, length-append}
use Rattle.std.specs.Prelude.{Contains}
use Rattle.std.proofs.lemmas.List.{length-map}
use Rattle.std.proofs.lemmas.List.Elements.{All-contains_itself, All-weaker, Contains-append_cases, Contains-append_left, Contains-append_right}
use Rattle.blk_base.specs.Trees.{AtBlock}
use Rattle.blk_base.proofs.Members.{in_nothing, is_in, once_append}
use Rattle.block_table.specs.declared.state.SlotState.{SlotState}
use Rattle.block_table.specs.declared.state.SlotState.TheVariants.{Dirty, Free, LetGo, Sealed}
use Rattle.block_table.specs.Blocks.{BlockList}
use Rattle.block_table.specs.Slot.{BlockSlot}
use Rattle.block_table.specs.Table.{Table}
use Rattle.block_table.specs.TreeIn.{IsTaken, block_at}
use Rattle.blk_base.specs.Address.{IsAllowed}
use Rattle.tree_range.specs.Shape.{AreAlike}
use Rattle.tree_frame.proofs.EditLaws.{is_dirty}
use Rattle.tree_seal.specs.OnImage.{AreClean}
use Rattle.tree_seal.specs.Sealing.{AreHanded, IsSealedSlot, IsSealing, as_handed}
use Rattle.tree_seal.proofs.Cuts.{map_append}
use Rattle.tree_seal.proofs.Handed.{handed_nothing, handed_same}
use Rattle.volume_seal.specs.Sealed.{IsDataSealed, IsPartSealed}

-- ---- what a seal leaves of one block

-- a block that isn't Dirty stays
pub clean_stays : (old new : Table) (reach : List ℕ) (at : ℕ) → IsSealing old new reach → (block_at old at).state ≢ Dirty → block_at new at ≡ block_at old at
clean_stays old new reach at sealing clean = elim (is_in reach at) [
  | inl there ↦ (sealing.slots at there).written clean
  | inr none ↦ sealing.others at none
]

pub clean_alike : (old new : Table) (reach these : List ℕ) → IsSealing old new reach → AreClean old these → AreAlike old new these
clean_alike old new reach these sealing clean = λ k d within. clean_stays old new reach _ sealing (clean k d within)

-- one that is Dirty afterwards was, and isn't of the part
pub dirty_before : (old new : Table) (reach : List ℕ) (at : ℕ) → IsSealing old new reach → (block_at new at).state ≡ Dirty → (block_at old at).state ≡ Dirty
dirty_before old new reach at sealing dirty = elim (is_dirty (block_at old at).state) [
  | inl was ↦ was
  | inr clean ↦ ap (λ (slot : BlockSlot). slot.state) (sym (clean_stays old new reach at sealing clean)) ∙ dirty
]

pub sealed_now : (old new : Table) (reach : List ℕ) (at : ℕ) → IsSealing old new reach → Contains reach at → (block_at new at).state ≢ Dirty
sealed_now old new reach at sealing there dirty =
    let was : (block_at old at).state ≡ Dirty = dirty_before old new reach at sealing dirty in
    let now : (block_at new at).state ≡ Sealed = ap (λ (slot : BlockSlot). slot.state) ((sealing.slots at there).dirty was) in
    let wrong : Sealed ≡ Dirty = sym now ∙ dirty in
    cc

pub all_sealed : (old new : Table) (reach : List ℕ) → IsSealing old new reach → AreClean new reach
all_sealed old new reach sealing =
    All-weaker (Contains reach) (λ (at : ℕ). (block_at new at).state ≢ Dirty) (λ at there. sealed_now old new reach at sealing there) reach (All-contains_itself reach)

-- a state that is neither Dirty nor Sealed comes to no block
pub state_stays : (old new : Table) (reach : List ℕ) (at : ℕ) (state : SlotState) → IsSealing old new reach → state ≢ Sealed → (block_at new at).state ≡ state → state ≢ Dirty → (block_at old at).state ≡ state
state_stays old new reach at state sealing not_sealed is not_dirty = elim (is_dirty (block_at old at).state) [
  | inl was ↦ elim (is_in reach at) [
    | inl there ↦ absurd (not_sealed (sym is ∙ ap (λ (slot : BlockSlot). slot.state) ((sealing.slots at there).dirty was)))
    | inr none ↦ ap (λ (slot : BlockSlot). slot.state) (sym (sealing.others at none)) ∙ is
  ]
  | inr clean ↦ ap (λ (slot : BlockSlot). slot.state) (sym (clean_stays old new reach at sealing clean)) ∙ is
]

pub still_taken : (old new : Table) (reach : List ℕ) (at : ℕ) → IsSealing old new reach → IsTaken old at → IsTaken new at
still_taken old new reach at sealing taken = record {
  allowed = subst (λ (n : ℕ). IsAllowed n at) (sym sealing.size) taken.allowed;
  taken = λ free. taken.taken (state_stays old new reach at Free sealing (λ e. let wrong : Free ≡ Sealed = e in cc) free (λ e. let wrong : Free ≡ Dirty = e in cc));
}

pub still_current : (old new : Table) (reach : List ℕ) (at : ℕ) → IsSealing old new reach → (block_at old at).state ≢ LetGo → (block_at new at).state ≢ LetGo
still_current old new reach at sealing current gone =
    current (state_stays old new reach at LetGo sealing (λ e. let wrong : LetGo ≡ Sealed = e in cc) gone (λ e. let wrong : LetGo ≡ Dirty = e in cc))

-- ---- one part behind another

pub sealing_none : (table : Table) → IsSealing table table []
sealing_none table = record {
  size = refl;
  spare = refl;
  lists = refl;
  slots = λ at there. absurd (in_nothing at there);
  others = λ at none. refl;
}

module _ (old mid new : Table) (one two : List ℕ) (first : IsSealing old mid one) (second : IsSealing mid new two) where
  slot_joined : (at : ℕ) → Contains (one ++ two) at → IsSealedSlot (block_at old at) (block_at new at)
  slot_joined at there = elim (is_in one at) [
    | inl here ↦ record {
      dirty = λ dirty. clean_stays mid new two at second (sealed_now old mid one at first here) ∙ (first.slots at here).dirty dirty ∙ ap (λ (bytes : List ℕ). record (block_at old at) { state = Sealed; bytes = bytes; out = true }) (ap (λ (slot : BlockSlot). slot.bytes) (sym (clean_stays mid new two at second (sealed_now old mid one at first here))));
      written = λ clean. clean_stays mid new two at second (sealed_now old mid one at first here) ∙ (first.slots at here).written clean;
    }
    | inr none ↦ subst (λ (slot : BlockSlot). IsSealedSlot slot (block_at new at)) (first.others at none) (second.slots at (behind at there none))
  ]
    where
      behind : (at : ℕ) → Contains (one ++ two) at → (Contains one at → ⊥) → Contains two at
      behind at there none = elim (Contains-append_cases one two at there) [ inl here ↦ absurd (none here) | inr here ↦ here ]

  pub sealing_join : IsSealing old new (one ++ two)
  sealing_join = record {
    size = second.size ∙ first.size;
    spare = second.spare ∙ first.spare;
    lists = second.lists ∙ first.lists;
    slots = slot_joined;
    others = λ at none. second.others at (λ there. none (Contains-append_right one two at there)) ∙ first.others at (λ there. none (Contains-append_left one two at there));
  }

  pub handed_join : (before middle after : List AtBlock) → AreHanded old mid one before middle → AreHanded mid new two middle after → AreHanded old new (one ++ two) before after
  handed_join before middle after front back = record {
    order = front.order ++ back.order;
    pairs =
        back.pairs ∙ ap (λ (l : List AtBlock). l ++ map (as_handed new) back.order) (front.pairs ∙ ap (λ (l : List AtBlock). before ++ l) (handed_same mid new front.order (λ at here. clean_stays mid new two at second (sealed_now old mid one at first (front.reached at here)))))
        ∙ append_assoc before (map (as_handed new) front.order) (map (as_handed new) back.order)
        ∙ ap (λ (l : List AtBlock). before ++ l) (sym (map_append (as_handed new) front.order back.order));
    once = once_append front.order back.order front.once back.once (λ at here there. sealed_now old mid one at first (front.reached at here) (back.dirty at there));
    few = omega (arith, front.few, back.few, length-append front.order back.order, length-append one two);
    reached = λ at here. elim (Contains-append_cases front.order back.order at here) [
      | inl is ↦ Contains-append_left one two at (front.reached at is)
      | inr is ↦ Contains-append_right one two at (back.reached at is)
    ];
    dirty = λ at here. elim (Contains-append_cases front.order back.order at here) [
      | inl is ↦ front.dirty at is
      | inr is ↦ dirty_before old mid one at first (back.dirty at is)
    ];
    each = λ at here dirty. elim (is_in one at) [
      | inl is ↦ Contains-append_left front.order back.order at (front.each at is dirty)
      | inr none ↦ Contains-append_right front.order back.order at (back.each at (in_back at here none) (ap (λ (slot : BlockSlot). slot.state) (first.others at none) ∙ dirty))
    ];
  }
    where
      in_back : (at : ℕ) → Contains (one ++ two) at → (Contains one at → ⊥) → Contains two at
      in_back at there none = elim (Contains-append_cases one two at there) [ inl here ↦ absurd (none here) | inr here ↦ here ]

pub part_none : (table : Table) (out : BlockList) → IsPartSealed table table [] out out
part_none table out = record { sealing = sealing_none table; handed = handed_nothing table out.pairs; room = refl }

pub part_join : (old mid new : Table) (one two : List ℕ) (before middle after : BlockList) → IsPartSealed old mid one before middle → IsPartSealed mid new two middle after → IsPartSealed old new (one ++ two) before after
part_join old mid new one two before middle after first second = record {
  sealing = sealing_join old mid new one two first.sealing second.sealing;
  handed = handed_join old mid new one two first.sealing second.sealing before.pairs middle.pairs after.pairs first.handed second.handed;
  room = second.room ∙ first.room;
}

pub data_none : (table : Table) (out : BlockList) → IsDataSealed table table [] out out
data_none table out = record { part = part_none table out; bytes = λ at. refl }

pub data_join : (old mid new : Table) (one two : List ℕ) (before middle after : BlockList) → IsDataSealed old mid one before middle → IsDataSealed mid new two middle after → IsDataSealed old new (one ++ two) before after
data_join old mid new one two before middle after first second = record {
  part = part_join old mid new one two before middle after first.part second.part;
  bytes = λ at. second.bytes at ∙ first.bytes at;
}

-- there is room for what is still to come
pub room_left : (old now : Table) (one : List ℕ) (before out : BlockList) (all more : ℕ) → IsPartSealed old now one before out → length before.pairs + all ≤ length old.slots → length one + more ≤ all → length out.pairs + more ≤ length now.slots
room_left old now one before out all more part room few =
    let size = part.sealing.size in
    let pairs = ap length part.handed.pairs in
    let long = length-append before.pairs (map (as_handed now) part.handed.order) in
    let count = length-map part.handed.order (as_handed now) in
    let fewer = part.handed.few in
    omega (arith, size, pairs, long, count, fewer, room, few)

pub lent_still : (old now : Table) (one : List ℕ) (before out : BlockList) → IsPartSealed old now one before out → before.room ≡ length old.slots → out.room ≡ length now.slots
lent_still old now one before out part lent = part.room ∙ lent ∙ sym part.sealing.size
