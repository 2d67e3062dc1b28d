-- A node of which some children are sealed.
use Rattle.std.proofs.Common.{◌≡◌, ◌≢◌, ◌+◌, ℕ, zero, suc, Bool, true, false, List, [], ◌∷◌, ◌++◌, length, map, take, drop, slice_get, refl, ap, ◌∙◌, sym, subst, Some, arith, inl, inr, append_assoc, if◌then◌else◌}
use Rattle.std.specs.Prelude.{All, Contains, slice_index_or}
use Rattle.tree_frame.proofs.Reading.{all_parts}
use Rattle.std.specs.List.{flat_map}
use Rattle.std.proofs.lemmas.List.Elements.{All-contains, All-contains_itself, All-nil, All-push, All-same, All-weaker, Contains-append_cases, Contains-append_left, Contains-append_right}
use Rattle.blk_base.specs.declared.key.Want.{Want}
use Rattle.blk_base.specs.Leaf.{Pointer}
use Rattle.node_edit.specs.Pointers.{with_child}
use Rattle.block_table.specs.declared.state.SlotState.{SlotState}
use Rattle.block_table.specs.declared.state.SlotState.TheVariants.{Free, Dirty, Sealed, Live, LetGo}
use Rattle.block_table.specs.Slot.{BlockSlot}
use Rattle.block_table.specs.Table.{Table}
use Rattle.blk_base.specs.Trees.{AtBlock, NoneTwice, child_want}
use Rattle.block_table.specs.TreeIn.{IsSealedSubtree, block_at}
use Rattle.tree_range.specs.Shape.{AreAlike, node_pointers, reach_below}
use Rattle.tree_range.proofs.Local.{IsAlikeBelow, alike_below, node_pointers_alike}
use Rattle.blk_base.proofs.Members.{in_nothing, in_one, once_apart, once_left, once_right}
use Rattle.tree_blocks.specs.Lists.{IsNodeBlock, node_list}
use Rattle.tree_blocks.specs.Steps.{HasNewBytes, IsDirtyNode, IsSameBut, node_at}
use Rattle.tree_seal.specs.Above.{DirtyIsAbove}
use Rattle.tree_seal.specs.OnImage.{AreClean}
use Rattle.tree_seal.specs.Sealing.{AreHanded, IsSealedBelow, IsSealedSlot, IsSealing}
use Rattle.tree_seal.proofs.Above.{clean_below}
use Rattle.tree_seal.proofs.Cuts.{IsCut, cut_at, map_append, joined_more, joined_whole}
use Rattle.tree_seal.proofs.Handed.{handed_later, handed_more, handed_none, handed_nothing}
use Rattle.tree_frame.proofs.Sealed.{sealed_alike}

abbrev pub is_dirty : SlotState → Bool
is_dirty Free = false
is_dirty Dirty = true
is_dirty Sealed = false
is_dirty Live = false
is_dirty LetGo = false

not_dirty : (state : SlotState) → state ≢ Dirty → is_dirty state ≡ false
not_dirty Free h = refl
not_dirty Dirty h = absurd (h refl)
not_dirty Sealed h = refl
not_dirty Live h = refl
not_dirty LetGo h = refl

-- the pointer to a child that is sealed where it was Dirty
pub resealed : Table → ℕ → Pointer → Pointer
resealed old generation pointer = record pointer { generation = if is_dirty (block_at old pointer.at).state then generation else pointer.generation }

pub resealed_dirty : (old : Table) (generation : ℕ) (pointer : Pointer) → (block_at old pointer.at).state ≡ Dirty → resealed old generation pointer ≡ record pointer { generation = generation }
unfolding resealed
resealed_dirty old generation pointer dirty =
    ap (λ (b : Bool). record pointer { generation = if b then generation else pointer.generation }) (ap is_dirty dirty)

pub resealed_clean : (old : Table) (generation : ℕ) (pointer : Pointer) → (block_at old pointer.at).state ≢ Dirty → resealed old generation pointer ≡ pointer
unfolding resealed
resealed_clean old generation pointer clean =
    ap (λ (b : Bool). record pointer { generation = if b then generation else pointer.generation }) (not_dirty (block_at old pointer.at).state clean)

pub resealed_at : (old : Table) (generation : ℕ) (pointer : Pointer) → (resealed old generation pointer).at ≡ pointer.at
unfolding resealed
resealed_at old generation pointer = refl

pub resealed_key : (old : Table) (generation : ℕ) (pointer : Pointer) → (resealed old generation pointer).key ≡ pointer.key
unfolding resealed
resealed_key old generation pointer = refl

-- ---- what is sealed below stays so

pub sealed_later : (level : ℕ) (old mid new : Table) (want : Want) → IsSealedBelow level old mid want → AreAlike mid new (reach_below level old want.at.0) → IsSealedBelow level old new want
sealed_later level old mid new want h alike =
    let alike' : AreAlike mid new (reach_below level mid want.at.0) = subst (AreAlike mid new) (sym h.reach) alike in
    let below : IsAlikeBelow level mid new want.at.0 = alike_below level mid new want.at.0 alike' in
    record {
      items = below.items ∙ h.items;
      reach = below.reach ∙ h.reach;
      shape = λ is_root was. below.shape is_root (h.shape is_root was);
      seals = sealed_alike level mid new want alike' h.seals;
    }

pub sealed_before : (level : ℕ) (old mid new : Table) (want : Want) → AreAlike old mid (reach_below level old want.at.0) → IsSealedBelow level mid new want → IsSealedBelow level old new want
sealed_before level old mid new want alike h =
    let below : IsAlikeBelow level old mid want.at.0 = alike_below level old mid want.at.0 alike in
    record {
      items = h.items ∙ below.items;
      reach = h.reach ∙ below.reach;
      shape = λ is_root was. h.shape is_root (below.shape is_root was);
      seals = h.seals;
    }

-- nothing below is Dirty, and nothing is changed
pub sealed_clean : (level : ℕ) (old new : Table) (want : Want) → AreAlike old new (reach_below level old want.at.0) → IsSealedSubtree level old want → IsSealedBelow level old new want
sealed_clean level old new want alike seals =
    let below : IsAlikeBelow level old new want.at.0 = alike_below level old new want.at.0 alike in
    record { items = below.items; reach = below.reach; shape = below.shape; seals = sealed_alike level old new want alike seals }

-- ---- the children of a node one by one

-- the blocks below the children in front of a place
abbrev pub done_below : ℕ → Table → ℕ → ℕ → List ℕ
done_below level old at place = flat_map (λ (pointer : Pointer). reach_below level old pointer.at) (take place (node_pointers old at))

-- A Dirty node, of which the children in front of this place are sealed, and their pointers have the generation; else the
-- table is as it was.
pub record IsHalfSealed (level : ℕ) (old new : Table) (want : Want) (before after : List AtBlock) (place : ℕ) : Type 0 where
  pub size : length new.slots ≡ length old.slots
  pub spare : new.spare ≡ old.spare
  pub lists : new.lists ≡ old.lists
  pub slot : block_at new want.at.0 ≡ record (block_at old want.at.0) { bytes = (block_at new want.at.0).bytes }
  pub body : IsNodeBlock (block_at new want.at.0).bytes
  pub listed : node_pointers new want.at.0 ≡ map (resealed old want.generation) (take place (node_pointers old want.at.0)) ++ drop place (node_pointers old want.at.0)
  pub each : All (λ (pointer : Pointer). IsSealedBelow level old new (child_want want (resealed old want.generation pointer) level)) (take place (node_pointers old want.at.0))
  pub slots : (at : ℕ) → Contains (done_below level old want.at.0 place) at → IsSealedSlot (block_at old at) (block_at new at)
  pub others : (at : ℕ) → (Contains (done_below level old want.at.0 place) at → ⊥) → at ≢ want.at.0 → block_at new at ≡ block_at old at
  pub handed : AreHanded old new (done_below level old want.at.0 place) before after

with_child_at : (front : List Pointer) (pointer : Pointer) (behind : List Pointer) (at generation : ℕ) → with_child (front ++ pointer ∷ behind) (length front) at generation ≡ front ++ (record pointer { at = at; generation = generation }) ∷ behind
with_child_at [] pointer behind at generation = refl
with_child_at (first ∷ front) pointer behind at generation = ap (λ l. first ∷ l) (with_child_at front pointer behind at generation)

-- where a child's blocks are among those below its node
pub record IsNext (level : ℕ) (old : Table) (node place : ℕ) (pointer : Pointer) : Type 0 where
  pub cut : IsCut (node_pointers old node) place pointer
  pub more : done_below level old node (place + 1) ≡ done_below level old node place ++ reach_below level old pointer.at
  pub whole : flat_map (λ (other : Pointer). reach_below level old other.at) (node_pointers old node) ≡ done_below level old node place ++ (reach_below level old pointer.at ++ flat_map (λ (other : Pointer). reach_below level old other.at) (drop (place + 1) (node_pointers old node)))
  pub node_apart : Contains (done_below level old node place) node → ⊥
  pub node_above : Contains (reach_below level old pointer.at) node → ⊥
  pub apart : (at : ℕ) → Contains (done_below level old node place) at → Contains (reach_below level old pointer.at) at → ⊥
  pub once : NoneTwice (reach_below level old pointer.at)

pub next_child : (level : ℕ) (old : Table) (node place : ℕ) (pointer : Pointer) → NoneTwice (reach_below (suc level) old node) → slice_get (node_pointers old node) place ≡ Some pointer → IsNext level old node place pointer
next_child level old node place pointer once is =
    let g : Pointer → List ℕ = λ (other : Pointer). reach_below level old other.at in
    let pointers = node_pointers old node in
    let cut : IsCut pointers place pointer = cut_at pointers place pointer is in
    let done = done_below level old node place in
    let here = reach_below level old pointer.at in
    let behind = flat_map g (drop (place + 1) pointers) in
    let whole : flat_map g pointers ≡ done ++ (here ++ behind) = joined_whole g pointers place pointer cut in
    let none : Contains (done ++ (here ++ behind)) node → ⊥ = λ there. once.0 (subst (λ (l : List ℕ). Contains l node) (sym whole) there) in
    let all_once : NoneTwice (done ++ (here ++ behind)) = subst NoneTwice whole once.1 in
    record {
      cut = cut;
      more = joined_more g pointers place pointer cut;
      whole = whole;
      node_apart = λ there. none (Contains-append_left done (here ++ behind) node there);
      node_above = λ there. none (Contains-append_right done (here ++ behind) node (Contains-append_left here behind node there));
      apart = λ at there is_here. once_apart done (here ++ behind) all_once at there (Contains-append_left here behind at is_here);
      once = once_left here behind (once_right done (here ++ behind) all_once);
    }

pub alike_by : (old new : Table) (reach : List ℕ) → ((at : ℕ) → Contains reach at → block_at new at ≡ block_at old at) → AreAlike old new reach
alike_by old new reach h = All-weaker (Contains reach) (λ (at : ℕ). block_at new at ≡ block_at old at) h reach (All-contains_itself reach)

not_in : (reach : List ℕ) (at node : ℕ) → (Contains reach node → ⊥) → Contains reach at → at ≢ node
not_in reach at node none there e = none (subst (Contains reach) e there)

-- a child that comes next is as it was
pub next_same : (level : ℕ) (old new : Table) (want : Want) (before after : List AtBlock) (place : ℕ) (pointer : Pointer) → IsHalfSealed level old new want before after place → IsNext level old want.at.0 place pointer
    → (at : ℕ) → Contains (reach_below level old pointer.at) at → block_at new at ≡ block_at old at
next_same level old new want before after place pointer half next at there =
    half.others at (λ gone. next.apart at gone there) (not_in (reach_below level old pointer.at) at want.at.0 next.node_above there)

-- no child is sealed yet
pub half_none : (level : ℕ) (table : Table) (want : Want) (pairs : List AtBlock) → IsNodeBlock (block_at table want.at.0).bytes → IsHalfSealed level table table want pairs pairs 0
half_none level table want pairs body = record {
  size = refl;
  spare = refl;
  lists = refl;
  slot = refl;
  body = body;
  listed = take_none (node_pointers table want.at.0);
  each = All-same (λ (pointer : Pointer). IsSealedBelow level table table (child_want want (resealed table want.generation pointer) level)) (take 0 (node_pointers table want.at.0)) [] (take_zero (node_pointers table want.at.0)) (All-nil (λ (pointer : Pointer). IsSealedBelow level table table (child_want want (resealed table want.generation pointer) level)));
  slots = λ at there. absurd (in_nothing at (subst (λ (l : List ℕ). Contains l at) (done_zero (node_pointers table want.at.0)) there));
  others = λ at none apart. refl;
  handed = subst (λ (l : List ℕ). AreHanded table table l pairs pairs) (sym (done_zero (node_pointers table want.at.0))) (handed_nothing table pairs);
}
  where
    take_zero : (pointers : List Pointer) → take 0 pointers ≡ []
    take_zero [] = refl
    take_zero (pointer ∷ pointers) = refl

    take_none : (pointers : List Pointer) → pointers ≡ map (resealed table want.generation) (take 0 pointers) ++ drop 0 pointers
    take_none [] = refl
    take_none (pointer ∷ pointers) = refl

    done_zero : (pointers : List Pointer) → flat_map (λ (pointer : Pointer). reach_below level table pointer.at) (take 0 pointers) ≡ []
    done_zero [] = refl
    done_zero (pointer ∷ pointers) = refl

-- a list with one resealed pointer more
listed_more : (f : Pointer → Pointer) (pointers : List Pointer) (place : ℕ) (pointer changed : Pointer) → IsCut pointers place pointer → f pointer ≡ changed → map f (take place pointers) ++ changed ∷ drop (place + 1) pointers ≡ map f (take (place + 1) pointers) ++ drop (place + 1) pointers
listed_more f pointers place pointer changed cut is =
    let front = map f (take place pointers) in
    let behind = drop (place + 1) pointers in
    let one : map f (take (place + 1) pointers) ≡ front ++ changed ∷ [] = ap (map f) cut.more ∙ map_append f (take place pointers) (pointer ∷ []) ∙ ap (λ (p : Pointer). front ++ p ∷ []) is in
    sym (ap (λ (l : List Pointer). l ++ behind) one ∙ append_assoc front (changed ∷ []) behind)

pub each_more : (P : Pointer → Type 0) (pointers : List Pointer) (place : ℕ) (pointer : Pointer) → IsCut pointers place pointer → All P (take place pointers) → P pointer → All P (take (place + 1) pointers)
each_more P pointers place pointer cut all one = subst (λ (l : List Pointer). All P l) (sym cut.more) (All-push P (take place pointers) pointer all one)

-- a child that isn't Dirty is passed over
pub half_clean : (level : ℕ) (old new : Table) (want : Want) (before after : List AtBlock) (place : ℕ) (pointer : Pointer) → IsHalfSealed level old new want before after place → IsNext level old want.at.0 place pointer
    → (block_at new pointer.at).state ≢ Dirty → Contains (reach_below level old pointer.at) pointer.at → DirtyIsAbove level old pointer.at → IsSealedSubtree level old (child_want want pointer level) → IsHalfSealed level old new want before after (place + 1)
half_clean level old new want before after place pointer half next clean_now itself above seals =
    let node = want.at.0 in
    let pointers = node_pointers old node in
    let f = resealed old want.generation in
    let done = done_below level old node place in
    let here = reach_below level old pointer.at in
    let same : (at : ℕ) → Contains here at → block_at new at ≡ block_at old at = next_same level old new want before after place pointer half next in
    let clean : (block_at old pointer.at).state ≢ Dirty = subst (λ (slot : BlockSlot). slot.state ≢ Dirty) (same pointer.at itself) clean_now in
    let all_clean : AreClean old here = clean_below level old pointer.at above clean in
    let is_clean : (at : ℕ) → Contains here at → (block_at old at).state ≢ Dirty = λ at there. All-contains (λ (a : ℕ). (block_at old a).state ≢ Dirty) here at all_clean there in
    let kept : f pointer ≡ pointer = resealed_clean old want.generation pointer clean in
    let sealed : IsSealedBelow level old new (child_want want pointer level) = sealed_clean level old new (child_want want pointer level) (alike_by old new here same) seals in
    record {
      size = half.size;
      spare = half.spare;
      lists = half.lists;
      slot = half.slot;
      body = half.body;
      listed = half.listed ∙ ap (λ (l : List Pointer). map f (take place pointers) ++ l) next.cut.behind ∙ listed_more f pointers place pointer pointer next.cut kept;
      each = each_more (λ (p : Pointer). IsSealedBelow level old new (child_want want (f p) level)) pointers place pointer next.cut half.each (subst (λ (p : Pointer). IsSealedBelow level old new (child_want want p level)) (sym kept) sealed);
      slots = λ at there. elim (Contains-append_cases done here at (subst (λ (l : List ℕ). Contains l at) next.more there)) [
        | inl is ↦ half.slots at is
        | inr is ↦ record { dirty = λ dirty. absurd (is_clean at is dirty); written = λ written. same at is }
      ];
      others = λ at none apart. half.others at (λ there. none (subst (λ (l : List ℕ). Contains l at) (sym next.more) (Contains-append_left done here at there))) apart;
      handed = subst (λ (l : List ℕ). AreHanded old new l before after) (sym next.more) (handed_none old new done here before after half.handed is_clean);
    }

pub node_at_shown : (table : Table) (at : ℕ) → node_at table at ≡ node_pointers table at
unfolding node_list node_pointers
node_at_shown table at = refl

front_length : (f : Pointer → Pointer) (pointers : List Pointer) (place : ℕ) (pointer : Pointer) → slice_get pointers place ≡ Some pointer → length (map f (take place pointers)) ≡ place
front_length f [] place pointer h = absurd cc
front_length f (p ∷ ps) zero pointer h = refl
front_length f (p ∷ ps) (suc place) pointer h = omega (arith, front_length f ps place pointer h)

child_is : (level : ℕ) (old : Table) (want child : Want) (pointer : Pointer) → (block_at old pointer.at).state ≡ Dirty → child ≡ record want { at = record { 0 = pointer.at }; level = level } → child_want want (resealed old want.generation pointer) level ≡ child
child_is level old want child pointer dirty is = ap (λ (p : Pointer). child_want want p level) (resealed_dirty old want.generation pointer dirty) ∙ sym is

-- the generation is set in the pointer to a child that was sealed
pub record IsSet (mid new : Table) (node place at generation : ℕ) : Type 0 where
  pub pointers : node_at new node ≡ with_child (node_at mid node) place at generation
  pub is_node : IsDirtyNode new node
  pub kept : HasNewBytes mid new node
  pub others : IsSameBut mid new (node ∷ [])
  pub spare : new.spare ≡ mid.spare

-- a Dirty child is sealed, and then its pointer has the generation
pub half_dirty : (level : ℕ) (old new mid last : Table) (want child : Want) (before middle after : List AtBlock) (place : ℕ) (pointer : Pointer) → IsHalfSealed level old new want before middle place → IsNext level old want.at.0 place pointer
    → slice_get (node_pointers old want.at.0) place ≡ Some pointer → (block_at new pointer.at).state ≡ Dirty → Contains (reach_below level old pointer.at) pointer.at → child ≡ record want { at = record { 0 = pointer.at }; level = level }
    → IsSealedBelow level new mid child → IsSealing new mid (reach_below level new pointer.at) → AreHanded new mid (reach_below level new pointer.at) middle after
    → IsSet mid last want.at.0 place pointer.at want.generation → IsHalfSealed level old last want before after (place + 1)
half_dirty level old new mid last want child before middle after place pointer half next is dirty_now itself child_of below sealing' handed' set =
    let node = want.at.0 in
    let pointers = node_pointers old node in
    let f = resealed old want.generation in
    let done = done_below level old node place in
    let here = reach_below level old pointer.at in
    let same : (at : ℕ) → Contains here at → block_at new at ≡ block_at old at = next_same level old new want before middle place pointer half next in
    let alike : AreAlike old new here = alike_by old new here same in
    let reach_is : reach_below level new pointer.at ≡ here = (alike_below level old new pointer.at alike).reach in
    let sealing : IsSealing new mid here = subst (IsSealing new mid) reach_is sealing' in
    let handed : AreHanded new mid here middle after = subst (λ (l : List ℕ). AreHanded new mid l middle after) reach_is handed' in
    let dirty : (block_at old pointer.at).state ≡ Dirty = ap (λ (slot : BlockSlot). slot.state) (sym (same pointer.at itself)) ∙ dirty_now in
    let want_is : child_want want (f pointer) level ≡ child = child_is level old want child pointer dirty child_of in
    let at_is : child.at.0 ≡ pointer.at = ap (λ (w : Want). w.at.0) child_of in
    let unset : (at : ℕ) → at ≢ node → block_at last at ≡ block_at mid at = λ at apart. set.others.others at (λ there. apart (sym (in_one node at there))) in
    let same_done : (at : ℕ) → Contains done at → block_at mid at ≡ block_at new at = λ at there. sealing.others at (next.apart at there) in
    let last_done : (at : ℕ) → Contains done at → block_at last at ≡ block_at new at = λ at there. unset at (not_in done at node next.node_apart there) ∙ same_done at there in
    let last_here : (at : ℕ) → Contains here at → block_at last at ≡ block_at mid at = λ at there. unset at (not_in here at node next.node_above there) in
    let node_mid : block_at mid node ≡ block_at new node = sealing.others node next.node_above in
    let front = map f (take place pointers) in
    let behind = drop (place + 1) pointers in
    let changed : Pointer = record pointer { at = pointer.at; generation = want.generation } in
    let listed_mid : node_at mid node ≡ front ++ pointer ∷ behind = node_at_shown mid node ∙ node_pointers_alike new mid node node_mid ∙ half.listed ∙ ap (λ (l : List Pointer). front ++ l) next.cut.behind in
    let long : length front ≡ place = front_length f pointers place pointer is in
    let listed_last : node_pointers last node ≡ front ++ changed ∷ behind = sym (node_at_shown last node) ∙ set.pointers ∙ ap (λ (l : List Pointer). with_child l place pointer.at want.generation) listed_mid ∙ ap (λ (n : ℕ). with_child (front ++ pointer ∷ behind) n pointer.at want.generation) (sym long) ∙ with_child_at front pointer behind pointer.at want.generation in
    let below_old : IsSealedBelow level old mid child = sealed_before level old new mid child (subst (λ (a : ℕ). AreAlike old new (reach_below level old a)) (sym at_is) alike) below in
    let below_last : IsSealedBelow level old last child = sealed_later level old mid last child below_old (subst (λ (a : ℕ). AreAlike mid last (reach_below level old a)) (sym at_is) (alike_by mid last here last_here)) in
    record {
      size = set.others.size ∙ sealing.size ∙ half.size;
      spare = set.spare ∙ sealing.spare ∙ half.spare;
      lists = set.others.lists ∙ sealing.lists ∙ half.lists;
      slot = set.kept ∙ ap (λ (slot : BlockSlot). record slot { bytes = (block_at last node).bytes }) (node_mid ∙ half.slot);
      body = set.is_node.body;
      listed = listed_last ∙ listed_more f pointers place pointer changed next.cut (resealed_dirty old want.generation pointer dirty);
      each = each_more (λ (p : Pointer). IsSealedBelow level old last (child_want want (f p) level)) pointers place pointer next.cut
          (each_later level old new last want place half.each last_done)
          (subst (IsSealedBelow level old last) (sym want_is) below_last);
      slots = λ at there. elim (Contains-append_cases done here at (subst (λ (l : List ℕ). Contains l at) next.more there)) [
        | inl in_done ↦ subst (IsSealedSlot (block_at old at)) (sym (last_done at in_done)) (half.slots at in_done)
        | inr in_here ↦ subst (λ (slot : BlockSlot). IsSealedSlot slot (block_at last at)) (same at in_here) (subst (IsSealedSlot (block_at new at)) (sym (last_here at in_here)) (sealing.slots at in_here))
      ];
      others = λ at none apart.
          let not_done : Contains done at → ⊥ = λ there. none (subst (λ (l : List ℕ). Contains l at) (sym next.more) (Contains-append_left done here at there)) in
          let not_here : Contains here at → ⊥ = λ there. none (subst (λ (l : List ℕ). Contains l at) (sym next.more) (Contains-append_right done here at there)) in
          unset at apart ∙ sealing.others at not_here ∙ half.others at not_done apart;
      handed = subst (λ (l : List ℕ). AreHanded old last l before after) (sym next.more)
          (handed_later old mid last (done ++ here) before after
          (handed_more old new mid done here before middle after half.handed handed same same_done next.apart)
          (λ at there. elim (Contains-append_cases done here at there) [
            | inl in_done ↦ unset at (not_in done at node next.node_apart in_done)
            | inr in_here ↦ last_here at in_here
          ]));
    }
  where
    each_later : (level : ℕ) (old new last : Table) (want : Want) (place : ℕ) → All (λ (pointer : Pointer). IsSealedBelow level old new (child_want want (resealed old want.generation pointer) level)) (take place (node_pointers old want.at.0))
        → ((at : ℕ) → Contains (done_below level old want.at.0 place) at → block_at last at ≡ block_at new at)
        → All (λ (pointer : Pointer). IsSealedBelow level old last (child_want want (resealed old want.generation pointer) level)) (take place (node_pointers old want.at.0))
    each_later level old new last want place each same =
        let g : Pointer → List ℕ = λ (pointer : Pointer). reach_below level old pointer.at in
        let front = take place (node_pointers old want.at.0) in
        let f = resealed old want.generation in
        let parts : All (λ (pointer : Pointer). AreAlike new last (g pointer)) front = all_parts (λ (at : ℕ). block_at last at ≡ block_at new at) g front (alike_by new last (flat_map g front) same) in
        λ i d within.
        let p = slice_index_or front i d in
        let here : IsSealedBelow level old new (child_want want (f p) level) = each i d within in
        let part : AreAlike new last (g p) = parts i d within in
        sealed_later level old new last (child_want want (f p) level) here (subst (λ (a : ℕ). AreAlike new last (reach_below level old a)) (sym (resealed_at old want.generation p)) part)
