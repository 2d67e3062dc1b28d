-- What a seal hands out, part by part.
use Rattle.std.proofs.Common.{◌≡◌, ◌≢◌, ℕ, List, [], ◌∷◌, ◌++◌, length-append, map, ap, ◌∙◌, sym, subst, arith, inl, inr, append_assoc}
use Rattle.std.specs.Prelude.{Contains}
use Rattle.std.proofs.lemmas.List.{append-nil}
use Rattle.std.proofs.lemmas.List.Elements.{All-contains_itself, All-weaker, Contains-append_cases, Contains-append_left, Contains-append_right}
use Rattle.block_table.specs.declared.state.SlotState.TheVariants.{Dirty}
use Rattle.blk_base.specs.Trees.{AtBlock}
use Rattle.block_table.specs.Slot.{BlockSlot}
use Rattle.block_table.specs.Table.{Table}
use Rattle.block_table.specs.TreeIn.{block_at}
use Rattle.blk_base.proofs.Members.{in_head, in_nothing, in_one, in_cons, in_tail, once_append}
use Rattle.tree_seal.specs.Sealing.{AreHanded, as_handed}
use Rattle.tree_seal.proofs.Cuts.{map_append, map_same}

pub handed_nothing : (table : Table) (pairs : List AtBlock) → AreHanded table table [] pairs pairs
handed_nothing table pairs = record {
  order = [];
  pairs = sym (append-nil pairs);
  once = tt;
  few = omega arith;
  reached = λ at h. h;
  dirty = λ at h. absurd (in_nothing at h);
  each = λ at h dirty. h;
}

-- the pairs are the same where the blocks are
pub handed_same : (mid new : Table) (order : List ℕ) → ((at : ℕ) → Contains order at → block_at new at ≡ block_at mid at) → map (as_handed mid) order ≡ map (as_handed new) order
handed_same mid new order same =
    map_same (as_handed mid) (as_handed new) order (All-weaker (Contains order) (λ (at : ℕ). as_handed mid at ≡ as_handed new at) (λ at here. ap (λ (slot : BlockSlot). (record { 0 = at }, slot.bytes)) (sym (same at here))) order (All-contains_itself order))

-- the blocks stay as they are afterwards
pub handed_later : (old mid new : Table) (reach : List ℕ) (before after : List AtBlock) → AreHanded old mid reach before after → ((at : ℕ) → Contains reach at → block_at new at ≡ block_at mid at) → AreHanded old new reach before after
handed_later old mid new reach before after h same = record {
  order = h.order;
  pairs = h.pairs ∙ ap (λ (l : List AtBlock). before ++ l) (handed_same mid new h.order (λ at here. same at (h.reached at here)));
  once = h.once;
  few = h.few;
  reached = h.reached;
  dirty = h.dirty;
  each = h.each;
}

-- other blocks are handed out behind
pub handed_more : (old mid new : Table) (reach more : List ℕ) (before middle after : List AtBlock) → AreHanded old mid reach before middle → AreHanded mid new more middle after
    → ((at : ℕ) → Contains more at → block_at mid at ≡ block_at old at) → ((at : ℕ) → Contains reach at → block_at new at ≡ block_at mid at) → ((at : ℕ) → Contains reach at → Contains more at → ⊥)
    → AreHanded old new (reach ++ more) before after
handed_more old mid new reach more before middle after one two first later apart = record {
  order = one.order ++ two.order;
  pairs =
      two.pairs ∙ ap (λ (l : List AtBlock). l ++ map (as_handed new) two.order) (one.pairs ∙ ap (λ (l : List AtBlock). before ++ l) (handed_same mid new one.order (λ at here. later at (one.reached at here))))
      ∙ append_assoc before (map (as_handed new) one.order) (map (as_handed new) two.order)
      ∙ ap (λ (l : List AtBlock). before ++ l) (sym (map_append (as_handed new) one.order two.order));
  once = once_append one.order two.order one.once two.once (λ at here there. apart at (one.reached at here) (two.reached at there));
  few = omega (arith, one.few, two.few, length-append one.order two.order, length-append reach more);
  reached = λ at here. elim (Contains-append_cases one.order two.order at here) [
    | inl is ↦ Contains-append_left reach more at (one.reached at is)
    | inr is ↦ Contains-append_right reach more at (two.reached at is)
  ];
  dirty = λ at here. elim (Contains-append_cases one.order two.order at here) [
    | inl is ↦ one.dirty at is
    | inr is ↦ ap (λ (slot : BlockSlot). slot.state) (sym (first at (two.reached at is))) ∙ two.dirty at is
  ];
  each = λ at here dirty. elim (Contains-append_cases reach more at here) [
    | inl is ↦ Contains-append_left one.order two.order at (one.each at is dirty)
    | inr is ↦ Contains-append_right one.order two.order at (two.each at is (ap (λ (slot : BlockSlot). slot.state) (first at is) ∙ dirty))
  ];
}

-- other blocks aren't Dirty
pub handed_none : (old new : Table) (reach more : List ℕ) (before after : List AtBlock) → AreHanded old new reach before after → ((at : ℕ) → Contains more at → (block_at old at).state ≢ Dirty) → AreHanded old new (reach ++ more) before after
handed_none old new reach more before after h clean = record {
  order = h.order;
  pairs = h.pairs;
  once = h.once;
  few = omega (arith, h.few, length-append reach more);
  reached = λ at here. Contains-append_left reach more at (h.reached at here);
  dirty = h.dirty;
  each = λ at here dirty. elim (Contains-append_cases reach more at here) [
    | inl is ↦ h.each at is dirty
    | inr is ↦ absurd (clean at is dirty)
  ];
}

-- the node above them is handed out last
pub handed_last : (old mid new : Table) (reach : List ℕ) (node : ℕ) (before middle after : List AtBlock) → AreHanded old mid reach before middle → (Contains reach node → ⊥) → (block_at old node).state ≡ Dirty
    → ((at : ℕ) → Contains reach at → block_at new at ≡ block_at mid at) → after ≡ middle ++ as_handed new node ∷ [] → AreHanded old new (node ∷ reach) before after
handed_last old mid new reach node before middle after h apart dirty later is = record {
  order = h.order ++ node ∷ [];
  pairs =
      is ∙ ap (λ (l : List AtBlock). l ++ as_handed new node ∷ []) (h.pairs ∙ ap (λ (l : List AtBlock). before ++ l) (handed_same mid new h.order (λ at here. later at (h.reached at here))))
      ∙ append_assoc before (map (as_handed new) h.order) (as_handed new node ∷ [])
      ∙ ap (λ (l : List AtBlock). before ++ l) (sym (map_append (as_handed new) h.order (node ∷ [])));
  once = once_append h.order (node ∷ []) h.once ((in_nothing node, tt)) (λ at here there. apart (subst (Contains reach) (sym (in_one node at there)) (h.reached at here)));
  few = omega (arith, h.few, length-append h.order (node ∷ []));
  reached = λ at here. elim (Contains-append_cases h.order (node ∷ []) at here) [
    | inl is ↦ in_tail node at reach (h.reached at is)
    | inr is ↦ in_head node at reach (in_one node at is)
  ];
  dirty = λ at here. elim (Contains-append_cases h.order (node ∷ []) at here) [
    | inl is ↦ h.dirty at is
    | inr is ↦ subst (λ (a : ℕ). (block_at old a).state ≡ Dirty) (in_one node at is) dirty
  ];
  each = λ at here was. elim (in_cons node at reach here) [
    | inl e ↦ Contains-append_right h.order (node ∷ []) at (in_head node at [] e)
    | inr there ↦ Contains-append_left h.order (node ∷ []) at (h.each at there was)
  ];
}
