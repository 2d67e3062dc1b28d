-- The blocks below a block go, those below the children of a node one child behind the other.
use Rattle.std.proofs.Common.{◌≡◌, ◌≢◌, ◌∙◌, ◌≤◌, ◌<◌, ◌+◌, ◌-◌, ℕ, zero, suc, false, Bool, List, [], ◌∷◌, ◌++◌, length, drop, slice_get, Some, IsOk, refl, sym, ap, subst, arith, add-one, inl, inr, append_assoc}
use Rattle.std.specs.Prelude.{All, Contains}
use Rattle.std.specs.List.{flat_map, sum_by}
use Rattle.std.proofs.lemmas.List.{append-nil, drop_all}
use Rattle.std.proofs.lemmas.List.Elements.{All-cons, All-head, All-nil, All-tail, Contains-append_cases, Contains-append_left, Contains-append_right}
use Rattle.std.proofs.lemmas.List.Sums.{sum_by-append, sum_by-cons}
use Rattle.blk_base.specs.declared.key.Addr.{Addr}
use Rattle.blk_base.specs.Address.{IsAllowed}
use Rattle.blk_base.specs.Leaf.{Pointer, node_body_of}
use Rattle.blk_base.specs.Trees.{NoneTwice}
use Rattle.blk_base.proofs.Members.{in_one, once_apart, once_left, once_right}
use Rattle.leaf_view.specs.Search.{children_of}
use Rattle.block_table.specs.declared.state.SlotState.TheVariants.{Free, LetGo}
use Rattle.block_table.specs.Slot.{BlockSlot, free_slot}
use Rattle.block_table.specs.Table.{Table, state_at, with_slot, with_spare}
use Rattle.block_table.specs.TreeIn.{IsTaken, block_at}
use Rattle.tree_range.specs.Shape.{AreAlike, IsSubtree, node_pointers, reach_below}
use Rattle.tree_range.proofs.Bodies.{node_pointers_are}
use Rattle.tree_range.proofs.Cuts.{IsAt, drop_here, mapped_at}
use Rattle.tree_range.proofs.Law.{Child}
use Rattle.tree_range.proofs.Local.{IsAlikeBelow, alike_below}
use Rattle.tree_range.proofs.Rise.{All-left, All-right}
use Rattle.tree_blocks.specs.Lists.{node_list}
use Rattle.tree_blocks.specs.Steps.{IsNodeAt, node_at}
use Rattle.tree_blocks.proofs.Listing.{node_from_ok}
use Rattle.table_commit.specs.Commit.{AreGone, AreReleased, IsReleased, allowed_in}
use Rattle.table_commit.proofs.Gone.{all_allowed, gone_alike, gone_joined, gone_none, gone_recounted, in_either, released_one, sum_ones, sum_same}

one_up : (level : ℕ) → (level ≡ 0 → ⊥) → suc (level - 1) ≡ level
one_up zero h = absurd (h refl)
one_up (suc level) h = omega arith

-- what holds of all holds of the one at a place
at_place : {X : Type 0} (P : X → Type 0) (xs : List X) (place : ℕ) (x : X) → slice_get xs place ≡ Some x → All P xs → P x
at_place P [] place x h all = absurd cc
at_place P (y ∷ ys) zero x h all = let same : y ≡ x = cc in subst P same (All-head P y ys all)
at_place P (y ∷ ys) (suc place) x h all = at_place P ys place x h (All-tail P y ys all)

-- the blocks below a child are among those below its node
among : {X A : Type 0} (g : X → List A) (xs : List X) (place : ℕ) (x : X) → slice_get xs place ≡ Some x → (a : A) → Contains (g x) a → Contains (flat_map g xs) a
among g [] place x h a there = absurd cc
among {X} {A} g (y ∷ ys) zero x h a there =
    let same : x ≡ y = cc in
    Contains-append_left (g y) (flat_map g ys) a (subst (λ (z : X). Contains (g z) a) same there)
among g (y ∷ ys) (suc place) x h a there = Contains-append_right (g y) (flat_map g ys) a (among g ys place x h a there)

-- ---- a node above children on this level, and a leaf

pub record IsParent (level : ℕ) (table : Table) (at : ℕ) : Type 0 where
  pub is_root : Bool
  pub shape : IsSubtree (suc level) table is_root at
  pub once : NoneTwice (reach_below (suc level) table at)

pub parent : (level : ℕ) (table : Table) (at : ℕ) → (level ≡ 0 → ⊥) → (is_root : Bool) × IsSubtree level table is_root at → NoneTwice (reach_below level table at) → IsParent (level - 1) table at
parent level table at above shape once = record {
  is_root = shape.0;
  shape = subst (λ (n : ℕ). IsSubtree n table shape.0 at) (sym (one_up level above)) shape.1;
  once = subst (λ (n : ℕ). NoneTwice (reach_below n table at)) (sym (one_up level above)) once;
}

-- what is said of all that it reaches
pub parent_reach : (P : List ℕ → Type 0) (level : ℕ) (table : Table) (at : ℕ) → (level ≡ 0 → ⊥) → P (reach_below level table at) → P (reach_below (suc (level - 1)) table at)
parent_reach P level table at above h = subst (λ (n : ℕ). P (reach_below n table at)) (sym (one_up level above)) h

pub reach_parent : (P : List ℕ → Type 0) (level : ℕ) (table : Table) (at : ℕ) → (level ≡ 0 → ⊥) → P (reach_below (suc (level - 1)) table at) → P (reach_below level table at)
reach_parent P level table at above h = subst (λ (n : ℕ). P (reach_below n table at)) (one_up level above) h

pub leaf_reach : (P : List ℕ → Type 0) (level : ℕ) (table : Table) (at : ℕ) → level ≡ 0 → P (reach_below level table at) → P (at ∷ [])
leaf_reach P level table at leaf h = subst (λ (n : ℕ). P (reach_below n table at)) leaf h

pub reach_leaf : (P : List ℕ → Type 0) (level : ℕ) (table : Table) (at : ℕ) → level ≡ 0 → P (at ∷ []) → P (reach_below level table at)
reach_leaf P level table at leaf h = subst (λ (n : ℕ). P (reach_below n table at)) (sym leaf) h

pub leaf_taken : (level : ℕ) (table : Table) (at : ℕ) → level ≡ 0 → (is_root : Bool) × IsSubtree level table is_root at → IsTaken table at
leaf_taken zero table at leaf shape = shape.1.0
leaf_taken (suc level) table at leaf shape = absurd (omega (arith, leaf))

-- the pointers of a node, as the two crates below say them
node_shown : (level : ℕ) (table : Table) (at : ℕ) → IsParent level table at → node_pointers table at ≡ node_at table at
node_shown level table at parent =
    node_pointers_are table at (node_at table at) (node_from_ok (block_at table at).bytes parent.shape.1)

pub node_is : (level : ℕ) (table : Table) (at : ℕ) → IsParent level table at → IsNodeAt table at
node_is level table at parent = node_from_ok (block_at table at).bytes parent.shape.1

-- ---- blocks go behind others, where each becomes so, and gives so many buffers back

module _ (becomes : BlockSlot → BlockSlot → Type 0) (back : BlockSlot → ℕ) where
  abbrev pub given : Table → List ℕ → ℕ
  given table reach = sum_by (λ (at : ℕ). back (block_at table at)) reach

  abbrev pub HaveGone : Table → Table → List ℕ → Type 0
  HaveGone old new reach = AreGone becomes old new reach (given old reach) (given old reach)

  given_later : (old now : Table) (front reach : List ℕ) → HaveGone old now front → ((at : ℕ) → Contains front at → Contains reach at → ⊥) → given now reach ≡ given old reach
  given_later old now front reach gone apart =
      sum_same (λ (at : ℕ). back (block_at now at)) (λ (at : ℕ). back (block_at old at)) reach
      (λ k d within. ap back (gone_alike becomes old now front reach (given old front) (given old front) gone apart k d within))

  gone_behind : (old now next : Table) (front reach : List ℕ) → HaveGone old now front → HaveGone now next reach → NoneTwice (front ++ reach) → HaveGone old next (front ++ reach)
  gone_behind old now next front reach gone more once =
      let apart = once_apart front reach once in
      let same : given now reach ≡ given old reach = given_later old now front reach gone apart in
      let both : given old (front ++ reach) ≡ given old front + given old reach = sum_by-append (λ (at : ℕ). back (block_at old at)) front reach in
      gone_recounted becomes old next (front ++ reach) _ _ (given old (front ++ reach)) (given old (front ++ reach))
      (gone_joined becomes old now next front reach (front ++ reach) (given old front) (given old front) (given now reach) (given now reach) gone more apart (λ at. (
        Contains-append_cases front reach at,
        λ h. elim h [ inl here ↦ Contains-append_left front reach at here | inr here ↦ Contains-append_right front reach at here ],
      )))
      (omega (arith, same, both)) (omega (arith, same, both))

  -- a parent behind all that is below it
  parent_gone : (old now next : Table) (at : ℕ) (below : List ℕ) → HaveGone old now below → HaveGone now next (at ∷ []) → NoneTwice (at ∷ below) → HaveGone old next (at ∷ below)
  parent_gone old now next at below gone more once =
      let apart : (a : ℕ) → Contains below a → Contains (at ∷ []) a → ⊥ = λ a there here. once.0 (subst (Contains below) (sym (in_one at a here)) there) in
      let same : given now (at ∷ []) ≡ given old (at ∷ []) = given_later old now below (at ∷ []) gone apart in
      let f : ℕ → ℕ = λ (a : ℕ). back (block_at old a) in
      let both : given old (at ∷ below) ≡ f at + given old below = sum_by-cons f at below in
      let one : given old (at ∷ []) ≡ f at + given old [] = sum_by-cons f at [] in
      let none : given old [] ≡ 0 = refl in
      gone_recounted becomes old next (at ∷ below) _ _ (given old (at ∷ below)) (given old (at ∷ below))
      (gone_joined becomes old now next below (at ∷ []) (at ∷ below) (given old below) (given old below) (given now (at ∷ [])) (given now (at ∷ [])) gone more apart (in_either at below))
      (omega (arith, same, both, one, none)) (omega (arith, same, both, one, none))

  -- ---- of a list of blocks the rest is still to go

  pub record IsGoneTo (old now : Table) (whole rest : List ℕ) : Type 0 where
    pub front : List ℕ
    pub cut : whole ≡ front ++ rest
    pub gone : HaveGone old now front

  pub gone_to_none : (table : Table) (whole : List ℕ) → IsGoneTo table table whole whole
  gone_to_none table whole = record { front = []; cut = refl; gone = gone_none becomes table }

  gone_to_all : (old now : Table) (whole rest : List ℕ) → rest ≡ [] → IsGoneTo old now whole rest → HaveGone old now whole
  gone_to_all old now whole rest none h =
      subst (HaveGone old now) (sym (h.cut ∙ ap (λ (l : List ℕ). h.front ++ l) none ∙ append-nil h.front)) h.gone

  -- ---- the children of a node

  module _ (level : ℕ) (old : Table) (at : ℕ) where
    abbrev pub below_pointer : Pointer → List ℕ
    below_pointer pointer = reach_below level old pointer.at

    abbrev pub all_below : List ℕ
    all_below = flat_map below_pointer (node_pointers old at)

    abbrev pub still_below : ℕ → List ℕ
    still_below place = flat_map below_pointer (drop place (node_pointers old at))

    module _ (parent : IsParent level old at) (now : Table) (place : ℕ) (h : IsGoneTo old now all_below (still_below place)) where
      node_same : block_at now at ≡ block_at old at
      node_same =
          h.gone.others at (λ there. parent.once.0 (subst (λ (l : List ℕ). Contains l at) (sym h.cut) (Contains-append_left h.front (still_below place) at there)))

      pub node_taken : (block_at now at).state ≢ Free
      node_taken free = parent.shape.0.taken (ap (λ (slot : BlockSlot). slot.state) (sym node_same) ∙ free)

      pub node_still : IsNodeAt now at
      node_still =
          node_from_ok (block_at now at).bytes (subst (λ (slot : BlockSlot). IsOk (node_body_of slot.bytes)) (sym node_same) parent.shape.1)

      pub node_allowed : IsAllowed (length now.slots) at
      node_allowed = subst (λ (n : ℕ). IsAllowed n at) (sym h.gone.size) parent.shape.0.allowed

      -- what holds of each block, before it goes, still holds of the node's own
      pub node_ready : (P : BlockSlot → Type 0) → All (λ (a : ℕ). P (block_at old a)) (at ∷ all_below) → P (block_at now at)
      node_ready P all = subst P (sym node_same) (All-head (λ (a : ℕ). P (block_at old a)) at all_below all)

      list_same : node_at now at ≡ node_at old at
      list_same = ap (λ (slot : BlockSlot). node_list slot.bytes) node_same

      pub node_within : (count : ℕ) → count ≡ length (node_at old at) → place < count → place < length (node_at now at)
      node_within count is within = let same = ap length list_same in omega (arith, same, is, within)

      -- the node goes behind all that is below it
      pub node_gone : (count : ℕ) → count ≡ length (node_at old at) → count ≤ place → (next : Table) → HaveGone now next (at ∷ []) → HaveGone old next (reach_below (suc level) old at)
      node_gone count is past next last =
          let shown = ap length (node_shown level old at parent) in
          let all : HaveGone old now all_below = gone_to_all old now all_below (still_below place) (ap (flat_map below_pointer) (drop_all place (node_pointers old at) (omega (arith, shown, is, past)))) h in
          parent_gone old now next at all_below all last parent.once

      module _ (child generation : ℕ) (listed : slice_get (children_of (node_at now at)) place ≡ Some (child, generation)) where
        found_child : IsAt {B = ℕ × ℕ} (λ (p : Pointer). (p.at, p.generation)) (node_at now at) place (child, generation)
        found_child = mapped_at (λ (p : Pointer). (p.at, p.generation)) (node_at now at) place (child, generation) listed

        child_is : found_child.element.at ≡ child
        child_is = ap (λ (pair : ℕ × ℕ). pair.0) found_child.value_is

        pointer_there : slice_get (node_pointers old at) place ≡ Some found_child.element
        pointer_there =
            ap (λ (l : List Pointer). slice_get l place) (node_shown level old at parent ∙ sym list_same) ∙ found_child.at_place

        -- the blocks below the child, which are the next ones
        abbrev here : List ℕ
        here = reach_below level old child

        here_is : below_pointer found_child.element ≡ here
        here_is = ap (reach_below level old) child_is

        next_behind : still_below place ≡ here ++ still_below (place + 1)
        next_behind =
            ap (flat_map below_pointer) (drop_here (node_pointers old at) place found_child.element pointer_there)
            ∙ ap (λ (l : List ℕ). l ++ still_below (suc place)) here_is ∙ ap (λ (n : ℕ). here ++ still_below n) (sym (add-one place))

        cut_here : all_below ≡ (h.front ++ here) ++ still_below (place + 1)
        cut_here = h.cut ∙ ap (λ (l : List ℕ). h.front ++ l) next_behind ∙ sym (append_assoc h.front here (still_below (place + 1)))

        once_here : NoneTwice (h.front ++ here)
        once_here = once_left (h.front ++ here) (still_below (place + 1)) (subst NoneTwice cut_here parent.once.1)

        alike : AreAlike old now here
        alike =
            gone_alike becomes old now h.front here (given old h.front) (given old h.front) h.gone (once_apart h.front here once_here)

        child_below : IsAlikeBelow level old now child
        child_below = alike_below level old now child alike

        pub child_shape : IsSubtree level now false child
        child_shape =
            child_below.shape false (subst (IsSubtree level old false) child_is (at_place (Child level old) (node_pointers old at) place found_child.element pointer_there parent.shape.3).0)

        pub child_once : NoneTwice (reach_below level now child)
        child_once = subst NoneTwice (sym child_below.reach) (once_right h.front here once_here)

        -- what holds of each block of the node, before it goes, holds of those below the child
        pub child_ready : (P : BlockSlot → Type 0) → All (λ (a : ℕ). P (block_at old a)) (at ∷ all_below) → All (λ (a : ℕ). P (block_at now a)) (reach_below level now child)
        child_ready P all =
            let behind : All (λ (a : ℕ). P (block_at old a)) ((h.front ++ here) ++ still_below (place + 1)) = subst (All (λ (a : ℕ). P (block_at old a))) cut_here (All-tail (λ (a : ℕ). P (block_at old a)) at all_below all) in
            let were : All (λ (a : ℕ). P (block_at old a)) here = All-right (λ (a : ℕ). P (block_at old a)) h.front here (All-left (λ (a : ℕ). P (block_at old a)) (h.front ++ here) (still_below (place + 1)) behind) in
            subst (All (λ (a : ℕ). P (block_at now a))) (sym child_below.reach) (λ k d within. subst P (sym (alike k d within)) (were k d within))

        pub child_gone : (next : Table) → HaveGone now next (reach_below level now child) → IsGoneTo old next all_below (still_below (place + 1))
        child_gone next more = record {
          front = h.front ++ here;
          cut = cut_here;
          gone = gone_behind old now next h.front here h.gone (subst (HaveGone now next) child_below.reach more) once_here;
        }

-- ---- blocks that are released give one buffer back each

abbrev pub one_each : BlockSlot → ℕ
one_each slot = 1

abbrev pub TreeReleased : Table → Table → List ℕ → Type 0
TreeReleased old new reach = AreReleased old new reach (length reach)

each_one : (table : Table) (reach : List ℕ) → given IsReleased one_each table reach ≡ length reach
each_one table reach = sum_ones (λ (at : ℕ). 1) reach (λ k d within. refl)

pub released_given : (old new : Table) (reach : List ℕ) → TreeReleased old new reach → HaveGone IsReleased one_each old new reach
released_given old new reach gone =
    gone_recounted IsReleased old new reach (length reach) (length reach) (given IsReleased one_each old reach) (given IsReleased one_each old reach) gone (sym (each_one old reach)) (sym (each_one old reach))

pub given_released : (old new : Table) (reach : List ℕ) → HaveGone IsReleased one_each old new reach → TreeReleased old new reach
given_released old new reach gone =
    gone_recounted IsReleased old new reach (given IsReleased one_each old reach) (given IsReleased one_each old reach) (length reach) (length reach) gone (each_one old reach) (each_one old reach)

pub released_leaf : (old new : Table) (at : Addr) → IsAllowed (length old.slots) at.0 → state_at old at ≡ LetGo → new ≡ with_spare (with_slot old at free_slot) (old.spare + 1) → TreeReleased old new (at.0 ∷ [])
released_leaf old new at allowed state is =
    gone_recounted IsReleased old new (at.0 ∷ []) 1 (allowed_in (length old.slots) (at.0 ∷ [])) 1 1 (released_one old new at state is) refl (all_allowed (length old.slots) (at.0 ∷ []) (All-cons (IsAllowed (length old.slots)) at.0 [] allowed (All-nil _)))
