-- The steps of a seal of a subtree, as its code takes them.
use Rattle.std.proofs.Common.{◌≡◌, ◌≢◌, ◌≤◌, ◌<◌, ◌+◌, ◌-◌, ℕ, zero, suc, false, List, [], ◌∷◌, ◌++◌, length, length-append, map, take, drop, slice_get, refl, ap, ◌∙◌, sym, subst, Option, Some, arith}
use Rattle.std.specs.Prelude.{Contains}
use Rattle.std.specs.List.{flat_map}
use Rattle.std.proofs.lemmas.List.{length-map}
use Rattle.std.proofs.lemmas.Option.{same_Some}
use Rattle.blk_base.specs.declared.key.Addr.{Addr}
use Rattle.blk_base.specs.declared.key.Want.{Want}
use Rattle.blk_base.specs.Leaf.{Pointer, IsNodeBody}
use Rattle.leaf_view.specs.Search.{children_of}
use Rattle.leaf_view.proofs.NodeLaws.{node_body_means}
use Rattle.block_table.specs.declared.state.SlotState.TheVariants.{Dirty}
use Rattle.block_table.specs.Slot.{BlockSlot}
use Rattle.block_table.specs.Table.{Table, state_at}
use Rattle.blk_base.specs.Trees.{AtBlock, NoneTwice, child_want}
use Rattle.block_table.specs.TreeIn.{IsSealedSubtree, block_at}
use Rattle.tree_range.specs.Shape.{AreAlike, IsSubtree, node_pointers, reach_below}
use Rattle.tree_range.proofs.Bodies.{node_body_is}
use Rattle.tree_range.proofs.Law.{Child}
use Rattle.tree_range.proofs.Local.{alike_below}
use Rattle.blk_base.proofs.Members.{in_head}
use Rattle.tree_blocks.specs.Lists.{IsNodeBlock}
use Rattle.tree_blocks.specs.Steps.{IsDirtyNode, IsNodeAt, node_at}
use Rattle.tree_blocks.proofs.Listing.{node_from_ok}
use Rattle.tree_seal.specs.Above.{DirtyIsAbove}
use Rattle.tree_seal.specs.Sealing.{AreHanded, IsSealable, IsSealedBelow, IsSealing, as_handed}
use Rattle.tree_seal.proofs.Above.{Under, above_alike}
use Rattle.tree_seal.proofs.Cuts.{all_at, take_and_drop, take_whole}
use Rattle.tree_seal.proofs.Half.{IsHalfSealed, IsNext, IsSet, alike_by, done_below, half_clean, half_dirty, next_child, next_same, node_at_shown, resealed}
use Rattle.tree_frame.proofs.Sealed.{sealed_alike}
use Rattle.tree_seal.proofs.Whole.{IsLast, IsSealedWhole, leaf_whole, node_whole}

-- ---- levels

pub one_up : (level : ℕ) → (level ≡ 0 → ⊥) → suc (level - 1) ≡ level
one_up zero h = absurd (h refl)
one_up (suc level) h = omega arith

pub able_up : (level : ℕ) (table : Table) (want : Want) → suc (level - 1) ≡ level → IsSealable level table want → IsSealable (suc (level - 1)) table want
able_up level table want e h = subst (λ (n : ℕ). IsSealable n table want) (sym e) h

pub leaf_end : (old new : Table) (want : Want) (before after : List AtBlock) → want.level ≡ 0 → IsSealable want.level old want → IsLast old new want before after → IsSealedWhole want.level old new want before after
leaf_end old new want before after e able last =
    subst (λ (n : ℕ). IsSealedWhole n old new want before after) (sym e) (leaf_whole old new want before after (subst (λ (n : ℕ). IsSealable n old want) e able) last)

-- ---- the node

pub able_node : (level : ℕ) (table : Table) (want : Want) → IsSealable (suc level) table want → IsNodeAt table want.at.0
able_node level table want able = node_from_ok (block_at table want.at.0).bytes able.shape.1

half_length : (level : ℕ) (old new : Table) (want : Want) (before after : List AtBlock) (place : ℕ) → IsHalfSealed level old new want before after place → length (node_at new want.at.0) ≡ length (node_at old want.at.0)
half_length level old new want before after place half =
    let pointers = node_pointers old want.at.0 in
    let f = resealed old want.generation in
    let listed : length (node_at new want.at.0) ≡ length (map f (take place pointers) ++ drop place pointers) = ap (λ (l : List Pointer). length l) (node_at_shown new want.at.0 ∙ half.listed) in
    let whole : length pointers ≡ length (take place pointers ++ drop place pointers) = ap (λ (l : List Pointer). length l) (take_and_drop pointers place) in
    let was : length (node_at old want.at.0) ≡ length pointers = ap (λ (l : List Pointer). length l) (node_at_shown old want.at.0) in
    omega (arith, listed, whole, was, length-append (map f (take place pointers)) (drop place pointers), length-append (take place pointers) (drop place pointers), length-map (take place pointers) f)

pub half_within : (level : ℕ) (old new : Table) (want : Want) (before after : List AtBlock) (place count : ℕ) → IsHalfSealed level old new want before after place → count ≡ length (node_at old want.at.0) → place < count → place < length (node_at new want.at.0)
half_within level old new want before after place count half is within = omega (arith, half_length level old new want before after place half)

-- ---- the child at a place

abbrev child_pair : Pointer → ℕ × ℕ
child_pair pointer = (pointer.at, pointer.generation)

children_at : (front : List Pointer) (pointer : Pointer) (behind : List Pointer) → slice_get (children_of (front ++ pointer ∷ behind)) (length front) ≡ Some (child_pair pointer)
children_at [] pointer behind = refl
children_at (first ∷ front) pointer behind = children_at front pointer behind

pub record IsChildNow (level : ℕ) (old : Table) (want : Want) (place : ℕ) (at : Addr) : Type 0 where
  pub pointer : Pointer
  pub is : slice_get (node_pointers old want.at.0) place ≡ Some pointer
  pub at_is : pointer.at ≡ at.0
  pub next : IsNext level old want.at.0 place pointer
  pub shape : IsSubtree level old false pointer.at
  pub above : DirtyIsAbove level old pointer.at
  pub seals : IsSealedSubtree level old (child_want want pointer level)
  pub itself : Contains (reach_below level old pointer.at) pointer.at

pub reach_itself : (level : ℕ) (table : Table) (at : ℕ) → Contains (reach_below level table at) at
reach_itself zero table at = in_head at at [] refl
reach_itself (suc level) table at = in_head at at (flat_map (λ (pointer : Pointer). reach_below level table pointer.at) (node_pointers table at)) refl

some_at : (pointers : List Pointer) (place : ℕ) → place < length pointers → (pointer : Pointer) × (slice_get pointers place ≡ Some pointer)
some_at [] place h = absurd (omega arith)
some_at (pointer ∷ pointers) zero h = (pointer, refl)
some_at (pointer ∷ pointers) (suc place) h = some_at pointers place (omega arith)

front_long : (f : Pointer → Pointer) (pointers : List Pointer) (place : ℕ) → place < length pointers → length (map f (take place pointers)) ≡ place
front_long f [] place h = absurd (omega arith)
front_long f (pointer ∷ pointers) zero h = refl
front_long f (pointer ∷ pointers) (suc place) h = omega (arith, front_long f pointers place (omega arith))

pub first_same : (a b x y : ℕ) → ◌≡◌ {A = Option (ℕ × ℕ)} (Some (a, b)) (Some (x, y)) → a ≡ x
first_same a b x y h = let same = same_Some (a, b) (x, y) h in ap (λ (pair : ℕ × ℕ). pair.0) same

pub child_now : (level : ℕ) (old new : Table) (want : Want) (before after : List AtBlock) (place count generation : ℕ) (at : Addr) → IsSealable (suc level) old want → IsHalfSealed level old new want before after place
    → count ≡ length (node_at old want.at.0) → place < count → slice_get (children_of (node_at new want.at.0)) place ≡ Some (at.0, generation) → IsChildNow level old want place at
child_now level old new want before after place count generation at able half count_is within child =
    let node = want.at.0 in
    let pointers = node_pointers old node in
    let f = resealed old want.generation in
    let inside : place < length pointers = omega (arith, ap (λ (l : List Pointer). length l) (node_at_shown old node)) in
    let found = some_at pointers place inside in
    let pointer : Pointer = found.0 in
    let is : slice_get pointers place ≡ Some pointer = found.1 in
    let next : IsNext level old node place pointer = next_child level old node place pointer able.once is in
    let front = map f (take place pointers) in
    let listed : node_at new node ≡ front ++ pointer ∷ drop (place + 1) pointers = node_at_shown new node ∙ half.listed ∙ ap (λ (l : List Pointer). front ++ l) next.cut.behind in
    let there : slice_get (children_of (node_at new node)) place ≡ Some (child_pair pointer) = ap (λ (l : List Pointer). slice_get (children_of l) place) listed ∙ ap (λ (n : ℕ). slice_get (children_of (front ++ pointer ∷ drop (place + 1) pointers)) n) (sym (front_long f pointers place inside)) ∙ children_at front pointer (drop (place + 1) pointers) in
    let body : IsNodeBody (block_at old node).bytes pointers = node_body_means (block_at old node).bytes pointers (node_body_is old node able.shape.1) in
    let shaped : Child level old pointer = all_at (Child level old) pointers place pointer is able.shape.3 in
    let under : Under level old node pointer = all_at (Under level old node) pointers place pointer is able.above in
    record {
      pointer = pointer;
      is = is;
      at_is = first_same pointer.at pointer.generation at.0 generation (sym there ∙ child);
      next = next;
      shape = shaped.0;
      above = under.1;
      seals = all_at (λ (p : Pointer). IsSealedSubtree level old (child_want want p level)) pointers place pointer is (able.seals.1 pointers body);
      itself = reach_itself level old pointer.at;
    }

-- what a Dirty block is read with may have any generation
pub any_generation : (level : ℕ) (table : Table) (want : Want) (generation : ℕ) → (block_at table want.at.0).state ≡ Dirty → IsSealedSubtree level table want → IsSealedSubtree level table (record want { generation = generation })
any_generation zero table want generation dirty h = λ written. absurd (written dirty)
any_generation (suc level) table want generation dirty h = (λ written. absurd (written dirty), h.1)

abbrev pub child_of : Want → ℕ → Addr → Want
child_of want level at = record want { at = at; level = level }

pub call_able : (level : ℕ) (old new : Table) (want : Want) (before after : List AtBlock) (place : ℕ) (at : Addr) → IsHalfSealed level old new want before after place → IsChildNow level old want place at → state_at new at ≡ Dirty → IsSealable level new (child_of want level at)
call_able level old new want before after place at half now dirty =
    let pointer = now.pointer in
    let same : (a : ℕ) → Contains (reach_below level old pointer.at) a → block_at new a ≡ block_at old a = next_same level old new want before after place pointer half now.next in
    let alike : AreAlike old new (reach_below level old pointer.at) = alike_by old new (reach_below level old pointer.at) same in
    let below = alike_below level old new pointer.at alike in
    let dirty_there : (block_at new pointer.at).state ≡ Dirty = ap (λ (a : ℕ). (block_at new a).state) now.at_is ∙ dirty in
    let seals : IsSealedSubtree level new (child_want want pointer level) = sealed_alike level old new (child_want want pointer level) alike now.seals in
    let seals' : IsSealedSubtree level new (record (child_want want pointer level) { generation = want.generation }) = any_generation level new (child_want want pointer level) want.generation dirty_there seals in
    record {
      is_root = false;
      shape = subst (IsSubtree level new false) now.at_is (below.shape false now.shape);
      dirty = dirty;
      seals = subst (λ (a : ℕ). IsSealedSubtree level new (record want { at = record { 0 = a }; level = level })) now.at_is seals';
      above = subst (DirtyIsAbove level new) now.at_is (above_alike level old new pointer.at alike now.above);
      once = subst (λ (a : ℕ). NoneTwice (reach_below level new a)) now.at_is (subst NoneTwice (sym below.reach) now.next.once);
    }

-- ---- room

handed_length : (level : ℕ) (old new : Table) (want : Want) (before after : List AtBlock) (place : ℕ) → IsHalfSealed level old new want before after place → length after ≤ length before + length (done_below level old want.at.0 place)
handed_length level old new want before after place half =
    let order = half.handed.order in
    omega (arith, half.handed.few, ap (λ (l : List AtBlock). length l) half.handed.pairs, length-append before (map (as_handed new) order), length-map order (as_handed new))

pub call_room : (level : ℕ) (old new : Table) (want : Want) (before after : List AtBlock) (place : ℕ) (at : Addr) → IsHalfSealed level old new want before after place → IsChildNow level old want place at
    → length before + length (reach_below (suc level) old want.at.0) ≤ length old.slots → length after + length (reach_below level new at.0) ≤ length new.slots
call_room level old new want before after place at half now room =
    let pointer = now.pointer in
    let here = reach_below level old pointer.at in
    let same : (a : ℕ) → Contains here a → block_at new a ≡ block_at old a = next_same level old new want before after place pointer half now.next in
    let reach : reach_below level new pointer.at ≡ here = (alike_below level old new pointer.at (alike_by old new here same)).reach in
    let reach_at : length (reach_below level new at.0) ≡ length here = ap (λ (a : ℕ). length (reach_below level new a)) (sym now.at_is) ∙ ap (λ (l : List ℕ). length l) reach in
    let done = done_below level old want.at.0 place in
    let behind = flat_map (λ (p : Pointer). reach_below level old p.at) (drop (place + 1) (node_pointers old want.at.0)) in
    let whole : length (flat_map (λ (p : Pointer). reach_below level old p.at) (node_pointers old want.at.0)) ≡ length (done ++ (here ++ behind)) = ap (λ (l : List ℕ). length l) now.next.whole in
    omega (arith, half.size, handed_length level old new want before after place half, reach_at, whole, length-append done (here ++ behind), length-append here behind, room)

pub last_room : (level : ℕ) (old new : Table) (want : Want) (before after : List AtBlock) (place count : ℕ) → IsHalfSealed level old new want before after place → count ≡ length (node_at old want.at.0) → count ≤ place
    → length before + length (reach_below (suc level) old want.at.0) ≤ length old.slots → length after < length new.slots
last_room level old new want before after place count half count_is past room =
    let pointers = node_pointers old want.at.0 in
    let beyond : length pointers ≤ place = omega (arith, ap (λ (l : List Pointer). length l) (node_at_shown old want.at.0)) in
    let done : length (done_below level old want.at.0 place) ≡ length (flat_map (λ (p : Pointer). reach_below level old p.at) pointers) = ap (λ (l : List Pointer). length (flat_map (λ (p : Pointer). reach_below level old p.at) l)) (take_whole pointers place beyond) in
    omega (arith, half.size, handed_length level old new want before after place half, done, room)

-- ---- after the call

pub set_node : (level : ℕ) (old new mid : Table) (want : Want) (before middle : List AtBlock) (place : ℕ) (at : Addr) → IsSealable (suc level) old want → IsHalfSealed level old new want before middle place → IsChildNow level old want place at → IsSealing new mid (reach_below level new at.0) → IsDirtyNode mid want.at.0 × (block_at mid want.at.0 ≡ block_at new want.at.0)
set_node level old new mid want before middle place at able half now sealing =
    let pointer = now.pointer in
    let node = want.at.0 in
    let here = reach_below level old pointer.at in
    let same : (a : ℕ) → Contains here a → block_at new a ≡ block_at old a = next_same level old new want before middle place pointer half now.next in
    let reach : reach_below level new at.0 ≡ here = ap (reach_below level new) (sym now.at_is) ∙ (alike_below level old new pointer.at (alike_by old new here same)).reach in
    let is : block_at mid node ≡ block_at new node = sealing.others node (λ there. now.next.node_above (subst (λ (l : List ℕ). Contains l node) reach there)) in
    (record { dirty = ap (λ (slot : BlockSlot). slot.state) is ∙ ap (λ (slot : BlockSlot). slot.state) half.slot ∙ able.dirty; body = subst (λ (slot : BlockSlot). IsNodeBlock slot.bytes) (sym is) half.body }, is)

pub step_dirty : (level : ℕ) (old new mid last : Table) (want : Want) (before middle after : List AtBlock) (place : ℕ) (at : Addr) → IsHalfSealed level old new want before middle place → IsChildNow level old want place at → state_at new at ≡ Dirty
    → IsSealedBelow level new mid (child_of want level at) → IsSealing new mid (reach_below level new at.0) → AreHanded new mid (reach_below level new at.0) middle after → IsSet mid last want.at.0 place at.0 want.generation
    → IsHalfSealed level old last want before after (place + 1)
step_dirty level old new mid last want before middle after place at half now dirty below sealing handed set =
    let p = now.pointer in
    let e : at.0 ≡ p.at = sym now.at_is in
    half_dirty level old new mid last want (child_of want level at) before middle after place p half now.next now.is (ap (λ (a : ℕ). (block_at new a).state) now.at_is ∙ dirty) now.itself (ap (λ (a : ℕ). record want { at = record { 0 = a }; level = level }) e) below
    (subst (λ (a : ℕ). IsSealing new mid (reach_below level new a)) e sealing)
    (subst (λ (a : ℕ). AreHanded new mid (reach_below level new a) middle after) e handed)
    (subst (λ (a : ℕ). IsSet mid last want.at.0 place a want.generation) e set)

pub step_clean : (level : ℕ) (old new : Table) (want : Want) (before after : List AtBlock) (place : ℕ) (at : Addr) → IsHalfSealed level old new want before after place → IsChildNow level old want place at → state_at new at ≢ Dirty → IsHalfSealed level old new want before after (place + 1)
step_clean level old new want before after place at half now clean =
    half_clean level old new want before after place now.pointer half now.next (λ dirty. clean (ap (λ (a : ℕ). (block_at new a).state) (sym now.at_is) ∙ dirty)) now.itself now.above now.seals

pub node_end : (level : ℕ) (old mid new : Table) (want : Want) (before middle after : List AtBlock) (place count : ℕ) → suc (level - 1) ≡ level → IsSealable level old want → IsHalfSealed (level - 1) old mid want before middle place → count ≡ length (node_at old want.at.0) → count ≤ place → IsLast mid new want middle after
    → IsSealedWhole level old new want before after
node_end level old mid new want before middle after place count e able half count_is past last =
    let beyond : length (node_pointers old want.at.0) ≤ place = omega (arith, ap (λ (l : List Pointer). length l) (node_at_shown old want.at.0)) in
    subst (λ (n : ℕ). IsSealedWhole n old new want before after) e (node_whole (level - 1) old mid new want before middle after place (able_up level old want e able) half beyond last)
