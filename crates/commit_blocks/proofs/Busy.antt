-- A tree that was edited, or sealed, has no busy block below one that isn't.
use Rattle.std.proofs.Common.{◌≡◌, ◌<◌, ℕ, zero, suc, Bool, true, false, List, [], ◌∷◌, length, refl, ◌∙◌, sym, subst, inl, inr, arith}
use Rattle.std.specs.Prelude.{◌⊎◌, All, Contains, slice_index_or}
use Rattle.std.specs.List.{flat_map}
use Rattle.std.proofs.lemmas.List.Elements.{All-cons, All-contains, All-nil, All-weaker, Contains-append_cases, Contains-append_left, Contains-append_right}
use Rattle.blk_base.specs.declared.key.Want.{Want}
use Rattle.blk_base.specs.Leaf.{Pointer, HeaderFits, IsNodeBody}
use Rattle.block_table.specs.declared.state.SlotState.{SlotState}
use Rattle.block_table.specs.declared.state.SlotState.TheVariants.{Dirty, Free, LetGo, Live, Sealed}
use Rattle.block_table.specs.declared.tree.Tree.{Tree}
use Rattle.block_table.specs.Slot.{BlockSlot}
use Rattle.block_table.specs.Table.{Table}
use Rattle.blk_base.specs.Trees.{child_want}
use Rattle.block_table.specs.TreeIn.{IsSealedBlock, IsSealedSubtree, IsSealedTree, block_at}
use Rattle.leaf_view.proofs.NodeLaws.{node_body_means}
use Rattle.tree_range.specs.Shape.{IsSubtree, IsTree, node_pointers, reach_below, tree_reach}
use Rattle.tree_range.proofs.Bodies.{node_body_is}
use Rattle.tree_range.proofs.Law.{Child}
use Rattle.tree_range.proofs.Local.{node_pointers_alike}
use Rattle.tree_frame.proofs.Reading.{all_joined}
use Rattle.blk_base.proofs.Members.{in_cons, in_head, in_nothing, in_one, in_tail}
use Rattle.tree_seal.specs.OnImage.{root_want}
use Rattle.tree_seal.proofs.Walk.{reach_itself}
use Rattle.commit_blocks.specs.Keeps.{BusyIsAbove, IsBusy}

pub busy_or_not : (state : SlotState) → IsBusy state ⊎ (IsBusy state → ⊥)
busy_or_not Free = inr (λ e. elim e [ inl k ↦ let w : Free ≡ Dirty = k in cc | inr k ↦ let w : Free ≡ Sealed = k in cc ])
busy_or_not Dirty = inl (inl refl)
busy_or_not Sealed = inl (inr refl)
busy_or_not Live = inr (λ e. elim e [ inl k ↦ let w : Live ≡ Dirty = k in cc | inr k ↦ let w : Live ≡ Sealed = k in cc ])
busy_or_not LetGo = inr (λ e. elim e [ inl k ↦ let w : LetGo ≡ Dirty = k in cc | inr k ↦ let w : LetGo ≡ Sealed = k in cc ])

abbrev Under : ℕ → Table → ℕ → Pointer → Type 0
Under level table at pointer = (IsBusy (block_at table pointer.at).state → IsBusy (block_at table at).state) × BusyIsAbove level table pointer.at

abbrev IsIdle : Table → ℕ → Type 0
IsIdle table at = IsBusy (block_at table at).state → ⊥

abbrev AreIdle : Table → List ℕ → Type 0
AreIdle table reach = All (IsIdle table) reach

-- below a block that isn't busy none is
clean_below : (level : ℕ) (table : Table) (at : ℕ) → BusyIsAbove level table at → IsIdle table at → AreIdle table (reach_below level table at)
clean_below zero table at above clean = All-cons (IsIdle table) at [] clean (All-nil (IsIdle table))
clean_below (suc level) table at above clean =
    let g : Pointer → List ℕ = λ (pointer : Pointer). reach_below level table pointer.at in
    All-cons (IsIdle table) at (flat_map g (node_pointers table at)) clean (all_joined (IsIdle table) g (node_pointers table at) (All-weaker (Under level table at) (λ (pointer : Pointer). AreIdle table (g pointer)) (λ pointer k. clean_below level table pointer.at k.1 (λ busy. clean (k.0 busy))) (node_pointers table at) above))

-- ---- lists joined of one list for each pointer

record IsBelow (g : Pointer → List ℕ) (pointers : List Pointer) (at : ℕ) : Type 0 where
  pointer : Pointer
  is : Contains pointers pointer
  below : Contains (g pointer) at

in_joined : (g : Pointer → List ℕ) (pointers : List Pointer) (at : ℕ) → Contains (flat_map g pointers) at → IsBelow g pointers at
in_joined g [] at h = absurd (in_nothing at h)
in_joined g (pointer ∷ pointers) at h = elim (Contains-append_cases (g pointer) (flat_map g pointers) at h) [
  | inl here ↦ record { pointer = pointer; is = (0, omega arith, refl); below = here }
  | inr there ↦
      let rest : IsBelow g pointers at = in_joined g pointers at there in
      record { pointer = rest.pointer; is = (suc rest.is.0, omega (arith, rest.is.1), rest.is.2); below = rest.below }
]

joined_in : (g : Pointer → List ℕ) (pointers : List Pointer) (place : ℕ) (d : Pointer) (at : ℕ) → place < length pointers → Contains (g (slice_index_or pointers place d)) at → Contains (flat_map g pointers) at
joined_in g [] place d at within h = absurd (omega arith)
joined_in g (pointer ∷ pointers) zero d at within h = Contains-append_left (g pointer) (flat_map g pointers) at h
joined_in g (pointer ∷ pointers) (suc place) d at within h = Contains-append_right (g pointer) (flat_map g pointers) at (joined_in g pointers place d at (omega arith) h)

-- ---- a block of a tree, and what is below it

record IsFoundBelow (level : ℕ) (table : Table) (root at : ℕ) : Type 0 where
  height : ℕ
  want : Want
  at_is : want.at.0 ≡ at
  height_is : want.level ≡ height
  above : BusyIsAbove height table at
  seals : IsSealedBlock table want
  inside : (other : ℕ) → Contains (reach_below height table at) other → Contains (reach_below level table root) other

block_seals : (level : ℕ) (table : Table) (want : Want) → IsSealedSubtree level table want → IsSealedBlock table want
block_seals zero table want h = h
block_seals (suc level) table want h = h.0

found_here : (level : ℕ) (table : Table) (want : Want) (at : ℕ) → want.level ≡ level → BusyIsAbove level table want.at.0 → IsSealedSubtree level table want → want.at.0 ≡ at → IsFoundBelow level table want.at.0 at
found_here level table want at e above seals is = record {
  height = level;
  want = want;
  at_is = is;
  height_is = e;
  above = subst (BusyIsAbove level table) is above;
  seals = block_seals level table want seals;
  inside = λ other there. subst (λ (a : ℕ). Contains (reach_below level table a) other) (sym is) there;
}

found_below : (level : ℕ) (table : Table) (is_root : Bool) (want : Want) (at : ℕ) → want.level ≡ level → IsSubtree level table is_root want.at.0 → BusyIsAbove level table want.at.0 → IsSealedSubtree level table want → Contains (reach_below level table want.at.0) at → IsFoundBelow level table want.at.0 at
found_below zero table is_root want at e shape above seals there =
    found_here 0 table want at e above seals (in_one want.at.0 at there)
found_below (suc level) table is_root want at e shape above seals there =
    let root = want.at.0 in
    let pointers = node_pointers table root in
    let g : Pointer → List ℕ = λ (pointer : Pointer). reach_below level table pointer.at in
    elim (in_cons root at (flat_map g pointers) there) [
      | inl is ↦ found_here (suc level) table want at e above seals is
      | inr behind ↦
          let one : IsBelow g pointers at = in_joined g pointers at behind in
          let p : Pointer = one.pointer in
          let body : IsNodeBody (block_at table root).bytes pointers = node_body_means (block_at table root).bytes pointers (node_body_is table root shape.1) in
          let child : Child level table p = All-contains (Child level table) pointers p shape.3 one.is in
          let under : Under level table root p = All-contains (Under level table root) pointers p above one.is in
          let sealed : IsSealedSubtree level table (child_want want p level) = All-contains (λ (q : Pointer). IsSealedSubtree level table (child_want want q level)) pointers p (seals.1 pointers body) one.is in
          let below : IsFoundBelow level table p.at at = found_below level table false (child_want want p level) at refl child.0 under.1 sealed one.below in
          let up : (other : ℕ) → Contains (reach_below level table p.at) other → Contains (reach_below (suc level) table root) other = λ other k. in_tail root other (flat_map g pointers) (joined_in g pointers one.is.0 p other one.is.1 (subst (λ (q : Pointer). Contains (g q) other) (sym one.is.2) k)) in
          record {
            height = below.height;
            want = below.want;
            at_is = below.at_is;
            height_is = below.height_is;
            above = below.above;
            seals = below.seals;
            inside = λ other k. up other (below.inside other k);
          }
    ]

-- ---- the edited tree

-- blocks of a tree that aren't busy were in the tree before, and stand as they stood; and blocks of both keep their states
pub record KeepsBusy (old new : Table) (before after : List ℕ) : Type 0 where
  pub clean : (at : ℕ) → Contains after at → IsIdle new at → Contains before at × (block_at new at ≡ block_at old at)
  pub up : (at : ℕ) → Contains before at → Contains after at → IsBusy (block_at old at).state → IsBusy (block_at new at).state
  pub down : (at : ℕ) → Contains before at → Contains after at → IsBusy (block_at new at).state → IsBusy (block_at old at).state

-- where a block of the edited tree isn't busy, it is one from before, and so are the blocks below it
child_clean : (old new : Table) (before after : List ℕ) (level root_level : ℕ) (root : ℕ) (want : Want) (place : ℕ) (d : Pointer) → KeepsBusy old new before after → ((at : ℕ) → Contains before at → Contains (reach_below root_level old root) at) → ((at : ℕ) → Contains (reach_below root_level old root) at → Contains before at)
    → ((at : ℕ) → Contains (reach_below root_level old root) at → IsFoundBelow root_level old root at)
    → want.level ≡ suc level → IsSealedBlock new want → Contains after want.at.0 → IsIdle new want.at.0
    → place < length (node_pointers new want.at.0) → Contains after (slice_index_or (node_pointers new want.at.0) place d).at → IsIdle new (slice_index_or (node_pointers new want.at.0) place d).at
child_clean old new before after level root_level root want place d edit to from found level_is seals here clean within child_here =
    let at = want.at.0 in
    let child : Pointer = slice_index_or (node_pointers new at) place d in
    let kept = edit.clean at here clean in
    let there : Contains before at = kept.0 in
    let same : block_at new at ≡ block_at old at = kept.1 in
    let was_clean : IsIdle old at = λ busy. clean (edit.up at there here busy) in
    let block : IsFoundBelow root_level old root at = found at (to at there) in
    let header_old : HeaderFits block.want (block_at old at).bytes = subst (λ (a : ℕ). HeaderFits block.want (block_at old a).bytes) block.at_is (block.seals (λ dirty. was_clean (inl (subst (λ (a : ℕ). (block_at old a).state ≡ Dirty) block.at_is dirty)))) in
    let header_new : HeaderFits want (block_at old at).bytes = subst (λ (slot : BlockSlot). HeaderFits want slot.bytes) same (seals (λ dirty. clean (inl dirty))) in
    let height : block.height ≡ suc level = sym block.height_is ∙ sym header_old.level ∙ header_new.level ∙ level_is in
    let below_clean : AreIdle old (reach_below (suc level) old at) = subst (λ (n : ℕ). AreIdle old (reach_below n old at)) height (clean_below block.height old at block.above was_clean) in
    let pointers : node_pointers new at ≡ node_pointers old at = node_pointers_alike old new at same in
    let g : Pointer → List ℕ = λ (pointer : Pointer). reach_below level old pointer.at in
    let in_new : Contains (flat_map g (node_pointers new at)) child.at = joined_in g (node_pointers new at) place d child.at within (reach_itself level old child.at) in
    let in_old : Contains (reach_below (suc level) old at) child.at = in_tail at child.at (flat_map g (node_pointers old at)) (subst (λ (l : List Pointer). Contains (flat_map g l) child.at) pointers in_new) in
    let child_was_clean : IsIdle old child.at = All-contains (IsIdle old) (reach_below (suc level) old at) child.at below_clean in_old in
    let child_there : Contains before child.at = from child.at (block.inside child.at (subst (λ (n : ℕ). Contains (reach_below n old at) child.at) (sym height) in_old)) in
    λ busy. child_was_clean (edit.down child.at child_there child_here busy)

edited_above : (old new : Table) (before after : List ℕ) (root_level root : ℕ) → KeepsBusy old new before after → ((at : ℕ) → Contains before at → Contains (reach_below root_level old root) at) → ((at : ℕ) → Contains (reach_below root_level old root) at → Contains before at)
    → ((at : ℕ) → Contains (reach_below root_level old root) at → IsFoundBelow root_level old root at)
    → (level : ℕ) (is_root : Bool) (want : Want) → want.level ≡ level → IsSubtree level new is_root want.at.0 → IsSealedSubtree level new want → ((at : ℕ) → Contains (reach_below level new want.at.0) at → Contains after at) → BusyIsAbove level new want.at.0
edited_above old new before after root_level root edit to from found zero is_root want level_is shape seals inside = tt
edited_above old new before after root_level root edit to from found (suc level) is_root want level_is shape seals inside =
    let at = want.at.0 in
    let pointers = node_pointers new at in
    let g : Pointer → List ℕ = λ (pointer : Pointer). reach_below level new pointer.at in
    let body : IsNodeBody (block_at new at).bytes pointers = node_body_means (block_at new at).bytes pointers (node_body_is new at shape.1) in
    λ i d within.
    let p : Pointer = slice_index_or pointers i d in
    let up : (other : ℕ) → Contains (reach_below level new p.at) other → Contains after other = λ other k. inside other (in_tail at other (flat_map g pointers) (joined_in g pointers i d other within k)) in
    let child : Child level new p = shape.3 i d within in
    let first : IsBusy (block_at new p.at).state → IsBusy (block_at new at).state = λ dirty. elim (busy_or_not (block_at new at).state) [
      | inl is ↦ is
      | inr clean ↦ absurd (child_clean old new before after level root_level root want i d edit to from found level_is seals.0 (inside at (in_head at at (flat_map g pointers) refl)) clean within (up p.at (reach_itself level new p.at)) dirty)
    ] in
    (first, edited_above old new before after root_level root edit to from found level false (child_want want p level) refl child.0 (seals.1 pointers body i d within) up)

pub kept_busy_above : (old new : Table) (before after : Tree) (fsid : List ℕ) (was is : ℕ) → KeepsBusy old new (tree_reach old before) (tree_reach new after) → IsTree old before → IsTree new after → IsSealedTree old before fsid was → IsSealedTree new after fsid is → BusyIsAbove before.level old before.root.0 → BusyIsAbove after.level new after.root.0
kept_busy_above old new before after fsid was is kept tree_old tree_new seals_old seals_new above =
    edited_above old new (tree_reach old before) (tree_reach new after) before.level before.root.0 kept (λ at k. k) (λ at k. k) (λ at there. found_below before.level old true (root_want before fsid was) at refl tree_old.shape above seals_old there) after.level true (root_want after fsid is) refl tree_new.shape seals_new (λ at k. k)
