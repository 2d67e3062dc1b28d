-- A block is sealed once all that stands below it is.
use Rattle.std.proofs.Common.{◌≡◌, ◌≢◌, ◌≤◌, ℕ, suc, true, false, List, [], ◌∷◌, ◌++◌, length, map, take, refl, ap, ◌∙◌, sym, subst, Some, Ok, inl, inr}
use Rattle.std.specs.Prelude.{All, Contains, slice_index_or}
use Rattle.std.specs.List.{flat_map}
use Rattle.std.proofs.lemmas.List.{append-nil, length-map}
use Rattle.std.proofs.lemmas.List.Elements.{All-map, All-weaker}
use Rattle.blk_base.specs.declared.key.Want.{Want}
use Rattle.blk_base.specs.Address.{IsAllowed}
use Rattle.blk_base.specs.Leaf.{Item, Pointer, IsLeafBody, IsNodeBody, leaf_body_of, node_body_of}
use Rattle.block_table.specs.declared.state.SlotState.TheVariants.{Free, Sealed}
use Rattle.block_table.specs.Slot.{BlockSlot}
use Rattle.block_table.specs.Table.{Table}
use Rattle.blk_base.specs.Trees.{AtBlock, child_want, first_key, least_items, least_pointers}
use Rattle.block_table.specs.TreeIn.{IsSealedSubtree, IsTaken, block_at}
use Rattle.leaf_view.proofs.LeafLaws.{leaf_body_from, leaf_body_means}
use Rattle.leaf_view.proofs.NodeLaws.{node_body_from, node_body_means}
use Rattle.tree_range.specs.Shape.{AreAlike, IsSubtree, items_below, leaf_items, node_pointers, reach_below}
use Rattle.tree_range.proofs.Bodies.{is_ok, leaf_body_is, leaf_items_are, node_pointers_are}
use Rattle.tree_range.proofs.Law.{Child}
use Rattle.tree_frame.proofs.Reading.{all_parts}
use Rattle.blk_base.proofs.Members.{in_cons, in_head, in_nothing, in_one, in_tail}
use Rattle.tree_blocks.specs.Steps.{IsSameBut, node_at}
use Rattle.tree_seal.specs.Sealing.{AreHanded, IsSealable, IsSealedBelow, IsSealedOne, IsSealedSlot, IsSealing, as_handed}
use Rattle.tree_seal.proofs.Cuts.{drop_whole, joined_map, take_whole}
use Rattle.tree_seal.proofs.Half.{IsHalfSealed, alike_by, done_below, sealed_later, node_at_shown, resealed, resealed_at, resealed_key}
use Rattle.tree_seal.proofs.Handed.{handed_last, handed_nothing}
use Rattle.tree_frame.proofs.Sealed.{pointers_shown}

-- what a seal of a block and all below it makes
pub record IsSealedWhole (level : ℕ) (old new : Table) (want : Want) (before after : List AtBlock) : Type 0 where
  pub below : IsSealedBelow level old new want
  pub sealing : IsSealing old new (reach_below level old want.at.0)
  pub handed : AreHanded old new (reach_below level old want.at.0) before after

-- one block is sealed: the step at the end
pub record IsLast (mid new : Table) (want : Want) (middle after : List AtBlock) : Type 0 where
  pub one : IsSealedOne mid new want
  pub others : IsSameBut mid new (want.at.0 ∷ [])
  pub spare : new.spare ≡ mid.spare
  pub handed : after ≡ middle ++ as_handed new want.at.0 ∷ []

taken_still : (old new : Table) (at : ℕ) → length new.slots ≡ length old.slots → (block_at new at).state ≡ Sealed → IsTaken old at → IsTaken new at
taken_still old new at size sealed h =
    record { allowed = subst (λ (n : ℕ). IsAllowed n at) (sym size) h.allowed; taken = λ free. let e : Sealed ≡ Free = sym sealed ∙ free in cc }

not_node : (reach : List ℕ) (at node : ℕ) → (Contains reach node → ⊥) → Contains reach at → at ≢ node
not_node reach at node none there e = none (subst (Contains reach) e there)

same_apart : (mid new : Table) (node at : ℕ) → IsSameBut mid new (node ∷ []) → at ≢ node → block_at new at ≡ block_at mid at
same_apart mid new node at same apart = same.others at (λ there. apart (sym (in_one node at there)))

-- ---- a leaf

pub leaf_whole : (old new : Table) (want : Want) (before after : List AtBlock) → IsSealable 0 old want → IsLast old new want before after → IsSealedWhole 0 old new want before after
leaf_whole old new want before after able last =
    let at = want.at.0 in
    let was : IsLeafBody (block_at old at).bytes (leaf_items old at) = leaf_body_means (block_at old at).bytes (leaf_items old at) (leaf_body_is old at able.shape.1) in
    let is : leaf_body_of (block_at new at).bytes ≡ Ok (leaf_items old at) = leaf_body_from (block_at new at).bytes (leaf_items old at) (last.one.body.leaf (leaf_items old at) was) in
    let items : leaf_items new at ≡ leaf_items old at = leaf_items_are new at (leaf_items old at) is in
    let sealed : (block_at new at).state ≡ Sealed = ap (λ (slot : BlockSlot). slot.state) last.one.slot in
    record {
      below = record {
        items = items;
        reach = refl;
        shape = λ is_root h. (taken_still old new at last.others.size sealed h.0, is_ok (leaf_body_of (block_at new at).bytes) (leaf_items old at) is, subst (λ (l : List Item). least_items is_root ≤ length l) (sym items) h.2);
        seals = λ written. last.one.header;
      };
      sealing = record {
        size = last.others.size;
        spare = last.spare;
        lists = last.others.lists;
        slots = λ other there. subst (λ (a : ℕ). IsSealedSlot (block_at old a) (block_at new a)) (in_one at other there) (record { dirty = λ dirty. last.one.slot; written = λ written. absurd (written able.dirty) });
        others = last.others.others;
      };
      handed = handed_last old old new [] at before before after (handed_nothing old before) (in_nothing at) able.dirty (λ other there. absurd (in_nothing other there)) last.handed;
    }

-- ---- a node

-- what the node's pointers are, and what is below them
record IsRelisted (level : ℕ) (old new : Table) (want : Want) : Type 0 where
  listed : node_pointers new want.at.0 ≡ map (resealed old want.generation) (node_pointers old want.at.0)
  each : All (λ (pointer : Pointer). IsSealedBelow level old new (child_want want (resealed old want.generation pointer) level)) (node_pointers old want.at.0)

relisted_items : (level : ℕ) (old new : Table) (want : Want) → IsRelisted level old new want → items_below (suc level) new want.at.0 ≡ items_below (suc level) old want.at.0
relisted_items level old new want h =
    let f = resealed old want.generation in
    let now : Pointer → List Item = λ (p : Pointer). items_below level new p.at in
    let was : Pointer → List Item = λ (p : Pointer). items_below level old p.at in
    ap (flat_map now) h.listed
    ∙ joined_map now was f (node_pointers old want.at.0) (All-weaker (λ (p : Pointer). IsSealedBelow level old new (child_want want (f p) level)) (λ (p : Pointer). now (f p) ≡ was p) (λ p k. k.items ∙ ap (items_below level old) (resealed_at old want.generation p)) (node_pointers old want.at.0) h.each)

relisted_reach : (level : ℕ) (old new : Table) (want : Want) → IsRelisted level old new want → reach_below (suc level) new want.at.0 ≡ reach_below (suc level) old want.at.0
relisted_reach level old new want h =
    let f = resealed old want.generation in
    let now : Pointer → List ℕ = λ (p : Pointer). reach_below level new p.at in
    let was : Pointer → List ℕ = λ (p : Pointer). reach_below level old p.at in
    ap (λ (l : List ℕ). want.at.0 ∷ l) (ap (flat_map now) h.listed
    ∙ joined_map now was f (node_pointers old want.at.0) (All-weaker (λ (p : Pointer). IsSealedBelow level old new (child_want want (f p) level)) (λ (p : Pointer). now (f p) ≡ was p) (λ p k. k.reach ∙ ap (reach_below level old) (resealed_at old want.generation p)) (node_pointers old want.at.0) h.each))

relisted_children : (level : ℕ) (old new : Table) (want : Want) → IsRelisted level old new want → All (Child level old) (node_pointers old want.at.0) → All (Child level new) (node_pointers new want.at.0)
relisted_children level old new want h shapes =
    let f = resealed old want.generation in
    let pointers = node_pointers old want.at.0 in
    let each : All (λ (p : Pointer). Child level new (f p)) pointers = λ i d within.
    let p = slice_index_or pointers i d in
    let here : IsSealedBelow level old new (child_want want (f p) level) = h.each i d within in
    let was : Child level old p = shapes i d within in
    let shape : IsSubtree level new false (f p).at = here.shape false (subst (λ (a : ℕ). IsSubtree level old false a) (sym (resealed_at old want.generation p)) was.0) in
    let items : items_below level new (f p).at ≡ items_below level old p.at = here.items ∙ ap (items_below level old) (resealed_at old want.generation p) in
    (shape, ap first_key items ∙ was.1 ∙ ap (λ k. Some k) (sym (resealed_key old want.generation p))) in
    subst (All (Child level new)) (sym h.listed) (All-map (Child level new) f pointers each)

relisted_seals : (level : ℕ) (old new : Table) (want : Want) → IsRelisted level old new want → (pointers : List Pointer) → IsNodeBody (block_at new want.at.0).bytes pointers → All (λ (p : Pointer). IsSealedSubtree level new (child_want want p level)) pointers
relisted_seals level old new want h pointers body =
    let f = resealed old want.generation in
    let S : Pointer → Type 0 = λ (p : Pointer). IsSealedSubtree level new (child_want want p level) in
    let is : node_pointers new want.at.0 ≡ pointers = pointers_shown new want.at.0 pointers body in
    subst (All S) is (subst (All S) (sym h.listed) (All-map S f (node_pointers old want.at.0) (All-weaker (λ (p : Pointer). IsSealedBelow level old new (child_want want (f p) level)) (λ (p : Pointer). S (f p)) (λ p k. k.seals) (node_pointers old want.at.0) h.each)))

-- a node whose children all are sealed, and then it too
pub node_whole : (level : ℕ) (old mid new : Table) (want : Want) (before middle after : List AtBlock) (place : ℕ) → IsSealable (suc level) old want → IsHalfSealed level old mid want before middle place → length (node_pointers old want.at.0) ≤ place → IsLast mid new want middle after
    → IsSealedWhole (suc level) old new want before after
node_whole level old mid new want before middle after place able half past last =
    let at = want.at.0 in
    let pointers = node_pointers old at in
    let f = resealed old want.generation in
    let g : Pointer → List ℕ = λ (p : Pointer). reach_below level old p.at in
    let done = flat_map g pointers in
    let all : take place pointers ≡ pointers = take_whole pointers place past in
    let done_is : done_below level old at place ≡ done = ap (flat_map g) all in
    let listed_mid : node_pointers mid at ≡ map f pointers = half.listed ∙ ap (λ (l : List Pointer). map f (take place pointers) ++ l) (drop_whole pointers place past) ∙ append-nil (map f (take place pointers)) ∙ ap (map f) all in
    let body_new : node_body_of (block_at new at).bytes ≡ Ok (node_at mid at) = node_body_from (block_at new at).bytes (node_at mid at) (last.one.body.node (node_at mid at) (node_body_means (block_at mid at).bytes (node_at mid at) half.body)) in
    let listed : node_pointers new at ≡ map f pointers = node_pointers_are new at (node_at mid at) body_new ∙ node_at_shown mid at ∙ listed_mid in
    let none : Contains done at → ⊥ = able.once.0 in
    let apart : (other : ℕ) → Contains done other → other ≢ at = λ other there. not_node done other at none there in
    let later : (other : ℕ) → Contains done other → block_at new other ≡ block_at mid other = λ other there. same_apart mid new at other last.others (apart other there) in
    let P : Table → Pointer → Type 0 = λ (table : Table) (p : Pointer). IsSealedBelow level old table (child_want want (f p) level) in
    let each_mid : All (P mid) pointers = subst (λ (l : List Pointer). All (P mid) l) all half.each in
    let parts : All (λ (p : Pointer). AreAlike mid new (g p)) pointers = all_parts (λ (other : ℕ). block_at new other ≡ block_at mid other) g pointers (alike_by mid new done later) in
    let each : All (P new) pointers = λ i d within.
    let p = slice_index_or pointers i d in
    let here : IsSealedBelow level old mid (child_want want (f p) level) = each_mid i d within in
    let part : AreAlike mid new (g p) = parts i d within in
    sealed_later level old mid new (child_want want (f p) level) here (subst (λ (a : ℕ). AreAlike mid new (reach_below level old a)) (sym (resealed_at old want.generation p)) part) in
    let relisted : IsRelisted level old new want = record { listed = listed; each = each } in
    let size : length new.slots ≡ length old.slots = last.others.size ∙ half.size in
    let sealed : (block_at new at).state ≡ Sealed = ap (λ (slot : BlockSlot). slot.state) last.one.slot in
    let slot : block_at new at ≡ record (block_at old at) { state = Sealed; bytes = (block_at new at).bytes; out = true } = last.one.slot ∙ ap (λ (slot : BlockSlot). record slot { state = Sealed; bytes = (block_at new at).bytes; out = true }) half.slot in
    record {
      below = record {
        items = relisted_items level old new want relisted;
        reach = relisted_reach level old new want relisted;
        shape = λ is_root h. (
          taken_still old new at size sealed h.0,
          is_ok (node_body_of (block_at new at).bytes) (node_at mid at) body_new,
          subst (λ (n : ℕ). least_pointers is_root ≤ n) (sym (ap (λ (l : List Pointer). length l) listed ∙ length-map pointers f)) h.2,
          relisted_children level old new want relisted h.3,
        );
        seals = (λ written. last.one.header, relisted_seals level old new want relisted);
      };
      sealing = record {
        size = size;
        spare = last.spare ∙ half.spare;
        lists = last.others.lists ∙ half.lists;
        slots = λ other there. elim (in_cons at other done there) [
          | inl is ↦ subst (λ (a : ℕ). IsSealedSlot (block_at old a) (block_at new a)) is (record { dirty = λ dirty. slot; written = λ written. absurd (written able.dirty) })
          | inr below ↦ subst (IsSealedSlot (block_at old other)) (sym (later other below)) (half.slots other (subst (λ (l : List ℕ). Contains l other) (sym done_is) below))
        ];
        others = λ other gone.
            let not_at : other ≢ at = λ e. gone (in_head at other done (sym e)) in
            let not_done : Contains (done_below level old at place) other → ⊥ = λ there. gone (in_tail at other done (subst (λ (l : List ℕ). Contains l other) done_is there)) in
            same_apart mid new at other last.others not_at ∙ half.others other not_done not_at;
      };
      handed = handed_last old mid new done at before middle after (subst (λ (l : List ℕ). AreHanded old mid l before middle) done_is half.handed) none able.dirty later last.handed;
    }
