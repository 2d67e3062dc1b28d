-- A node cut around the child where a key belongs, before and after an item is put below that child.
use Rattle.std.proofs.Common.{◌≡◌, ◌≢◌, ◌≤◌, ◌+◌, ◌*◌, ℕ, suc, true, false, List, ◌∷◌, ◌++◌, length, refl, ap, ◌∙◌, sym, subst, Some, arith, inl, inr}
use Rattle.std.specs.Prelude.{All}
use Rattle.std.specs.List.{flat_map, sum_by}
use Rattle.std.proofs.lemmas.Bool.{cases_lt}
use Rattle.std.proofs.lemmas.List.Concat.{flat_map-append}
use Rattle.std.proofs.lemmas.List.Sums.{sum_by-append, sum_by-cons}
use Rattle.std.proofs.lemmas.List.Elements.{All-append, All-head, All-same, All-tail, All-weaker}
use Rattle.blk_base.specs.declared.key.Key.{Key}
use Rattle.blk_base.specs.declared.key.Want.{Want}
use Rattle.blk_base.specs.Keys.{keys_rise}
use Rattle.blk_base.specs.Leaf.{Item, Pointer}
use Rattle.block_table.specs.declared.state.SlotState.TheVariants.{LetGo}
use Rattle.block_table.specs.Table.{Table}
use Rattle.blk_base.specs.Trees.{ItemsRise, first_key}
use Rattle.block_table.specs.TreeIn.{IsTaken, block_at}
use Rattle.leaf_view.specs.Search.{pointer_keys}
use Rattle.tree_range.specs.Between.{AreAbove, AreBelow}
use Rattle.tree_range.specs.Part.{times_in}
use Rattle.tree_range.specs.Path.{IsChildPlace}
use Rattle.tree_range.specs.Shape.{IsSubtree, items_below, node_pointers, reach_below}
use Rattle.tree_range.proofs.Law.{Child}
use Rattle.tree_range.proofs.Local.{node_pointers_alike}
use Rattle.tree_range.proofs.Rise.{All-left, All-right, rise_left, rise_right}
use Rattle.tree_range.proofs.Times.{none_twice_from, none_twice_to, reach_taken, times_append}
use Rattle.tree_frame.specs.Frame.{leaves_below, with_item}
use Rattle.cow_tree.specs.Change.{IsChange}
use Rattle.cow_tree.specs.Below.{IsWritable, IsWritten}
use Rattle.cow_tree.specs.Pieces.{spliced}
use Rattle.cow_tree.proofs.Alike.{AreAlikeBelow, alike_list, as_root}
use Rattle.cow_tree.proofs.Changes.{beside, more}
use Rattle.cow_tree.proofs.Items.{with_middle, with_rise}
use Rattle.cow_tree.proofs.Lists.{all_from, all_to, flat_cut, sum_cut, times_cut}
use Rattle.cow_tree.proofs.Pointers.{spliced_cut}
use Rattle.cow_tree.proofs.Sealed.{Sealed}
use Rattle.cow_tree.proofs.Steps.{here}
use Rattle.cow_tree.proofs.Sides.{HaveFirsts, above_child, below_child, pointers_rise}

-- what stands below each of these
abbrev pub items_of : ℕ → Table → List Pointer → List Item
items_of level table pointers = flat_map (λ (pointer : Pointer). items_below level table pointer.at) pointers

abbrev pub reach_of : ℕ → Table → List Pointer → List ℕ
reach_of level table pointers = flat_map (λ (pointer : Pointer). reach_below level table pointer.at) pointers

abbrev pub leaves_of : ℕ → Table → List Pointer → ℕ
leaves_of level table pointers = sum_by (λ (pointer : Pointer). leaves_below level table pointer.at) pointers

abbrev pub firsts_of : ℕ → Table → List Pointer → Type 0
firsts_of level table pointers = HaveFirsts (λ (pointer : Pointer). items_below level table pointer.at) pointers

-- the children of a node around the one where a key belongs
pub record IsCutAt (level : ℕ) (table : Table) (at : ℕ) (key : Key) (place : ℕ) : Type 0 where
  pub lefts : List Pointer
  pub pointer : Pointer
  pub rights : List Pointer
  pub split : node_pointers table at ≡ lefts ++ pointer ∷ rights
  pub long : length lefts ≡ place
  pub left : All (Child level table) lefts
  pub here : Child level table pointer
  pub right : All (Child level table) rights
  pub items : items_below (suc level) table at ≡ items_of level table lefts ++ (items_below level table pointer.at ++ items_of level table rights)
  pub below : AreBelow key (items_of level table lefts)
  pub above : AreAbove key (items_of level table rights)
  pub reach : (x : ℕ) → times_in x (reach_below (suc level) table at) ≡ times_in x (reach_below level table pointer.at) + times_in x (at ∷ (reach_of level table lefts ++ reach_of level table rights))
  pub leaves : leaves_below (suc level) table at ≡ leaves_of level table lefts + (leaves_below level table pointer.at + leaves_of level table rights)

pub child_firsts : (level : ℕ) (table : Table) (pointers : List Pointer) → All (Child level table) pointers → firsts_of level table pointers
child_firsts level table pointers h = All-weaker (Child level table) (λ (p : Pointer). first_key (items_below level table p.at) ≡ Some p.key) (λ p k. k.1) pointers h

pub cut_at : (level : ℕ) (table : Table) (at : ℕ) (key : Key) (place : ℕ) → IsWritable (suc level) table at → IsChildPlace (node_pointers table at) key place → IsCutAt level table at key place
cut_at level table at key place w c =
    let f : Pointer → List Item = λ (pointer : Pointer). items_below level table pointer.at in
    let g : Pointer → List ℕ = λ (pointer : Pointer). reach_below level table pointer.at in
    let v : Pointer → ℕ = λ (pointer : Pointer). leaves_below level table pointer.at in
    let children : All (Child level table) (c.lefts ++ c.pointer ∷ c.rights) = All-same (Child level table) (c.lefts ++ c.pointer ∷ c.rights) (node_pointers table at) (sym c.split) w.shape.3 in
    let right_ones = All-right (Child level table) c.lefts (c.pointer ∷ c.rights) children in
    let here = All-head (Child level table) c.pointer c.rights right_ones in
    let right = All-tail (Child level table) c.pointer c.rights right_ones in
    let items : items_below (suc level) table at ≡ flat_map f c.lefts ++ (f c.pointer ++ flat_map f c.rights) = ap (flat_map f) c.split ∙ flat_map-append f c.lefts (c.pointer ∷ c.rights) in
    let rise : ItemsRise (flat_map f c.lefts ++ (f c.pointer ++ flat_map f c.rights)) = subst ItemsRise items w.order in
    record {
      lefts = c.lefts;
      pointer = c.pointer;
      rights = c.rights;
      split = c.split;
      long = c.long;
      left = All-left (Child level table) c.lefts (c.pointer ∷ c.rights) children;
      here = here;
      right = right;
      items = items;
      below = below_child f c.lefts c.pointer (flat_map f c.rights) key here.1 rise c.low;
      above = above_child f (flat_map f c.lefts) c.pointer c.rights key here.1 (child_firsts level table c.rights right) rise c.high;
      reach = λ x.
          let shown : flat_map g (node_pointers table at) ≡ flat_map g c.lefts ++ (g c.pointer ++ flat_map g c.rights) = ap (flat_map g) c.split ∙ flat_map-append g c.lefts (c.pointer ∷ c.rights) in
          let whole : times_in x (at ∷ flat_map g (node_pointers table at)) ≡ times_in x (at ∷ (flat_map g c.lefts ++ (g c.pointer ++ flat_map g c.rights))) = ap (λ (l : List ℕ). times_in x (at ∷ l)) shown in
          omega (arith, whole, times_cut x (flat_map g c.lefts) (g c.pointer) (flat_map g c.rights), times_append x (flat_map g c.lefts) (flat_map g c.rights));
      leaves = ap (sum_by v) c.split ∙ sum_by-append v c.lefts (c.pointer ∷ c.rights) ∙ ap (λ (n : ℕ). sum_by v c.lefts + n) (sum_by-cons v c.pointer c.rights);
    }

-- the child is one that the item may be put below
pub child_writable : (level : ℕ) (table : Table) (at : ℕ) (key : Key) (place : ℕ) → IsWritable (suc level) table at → (c : IsCutAt level table at key place) → IsWritable level table c.pointer.at
child_writable level table at key place w c =
    let whole = reach_below (suc level) table at in
    let current : (x : ℕ) → 1 ≤ times_in x whole → (block_at table x).state ≢ LetGo = λ x there. all_to (λ (y : ℕ). (block_at table y).state ≢ LetGo) whole x w.current there in
    record {
      shape = as_root level table c.pointer.at c.here.0;
      order = rise_left (items_below level table c.pointer.at) (items_of level table c.rights) (rise_right (items_of level table c.lefts) (items_below level table c.pointer.at ++ items_of level table c.rights) (subst ItemsRise c.items w.order));
      once = none_twice_from (reach_below level table c.pointer.at) (λ x. omega (arith, c.reach x, none_twice_to whole x w.once));
      current = all_from (λ (y : ℕ). (block_at table y).state ≢ LetGo) (reach_below level table c.pointer.at) (λ x there. current x (omega (arith, c.reach x)));
    }

-- ---- after the item is put below the child

pub record IsGrown (level : ℕ) (old new : Table) (at : ℕ) (key : Key) (bytes : List ℕ) (place : ℕ) (pieces : List Pointer) (c : IsCutAt level old at key place) : Type 0 where
  pub block : block_at new at ≡ block_at old at
  pub node : node_pointers new at ≡ node_pointers old at
  pub spliced_is : spliced (node_pointers old at) place pieces ≡ c.lefts ++ (pieces ++ c.rights)
  pub children : All (Child level new) (c.lefts ++ (pieces ++ c.rights))
  pub items : items_of level new (c.lefts ++ (pieces ++ c.rights)) ≡ with_item key bytes (items_below (suc level) old at)
  pub rise : keys_rise (pointer_keys (c.lefts ++ (pieces ++ c.rights))) ≡ true
  pub changes : IsChange old new (reach_below (suc level) old at) (at ∷ reach_of level new (c.lefts ++ (pieces ++ c.rights))) (2 * level + 3)
  pub sealed : (want : Want) → All (Sealed level old want) (node_pointers old at) → All (Sealed level new want) (c.lefts ++ (pieces ++ c.rights))
  pub leaves : leaves_of level new (c.lefts ++ (pieces ++ c.rights)) ≡ leaves_of level old c.lefts + (leaves_of level new pieces + leaves_of level old c.rights)

module _ (level : ℕ) (old new : Table) (at : ℕ) (key : Key) (bytes : List ℕ) (place : ℕ) (pieces : List Pointer) (w : IsWritable (suc level) old at) (c : IsCutAt level old at key place) (h : IsWritten level old new c.pointer.at key bytes pieces) where
  abbrev whole : List ℕ
  whole = reach_below (suc level) old at

  abbrev others : List ℕ
  others = at ∷ (reach_of level old c.lefts ++ reach_of level old c.rights)

  abbrev pointers : List Pointer
  pointers = c.lefts ++ (pieces ++ c.rights)

  whole_once : (x : ℕ) → times_in x whole ≤ 1
  whole_once x = none_twice_to whole x w.once

  others_taken : (x : ℕ) → 1 ≤ times_in x others → IsTaken old x
  others_taken x there = all_to (IsTaken old) whole x (reach_taken (suc level) old true at w.shape) (omega (arith, c.reach x))

  others_same : (x : ℕ) → 1 ≤ times_in x others → block_at new x ≡ block_at old x
  others_same x there =
      beside old new (λ y. times_in y (reach_below level old c.pointer.at)) (λ y. times_in y (reach_of level new pieces)) (2 * level + 3) x h.changes (omega (arith, c.reach x, whole_once x)) (others_taken x there).taken

  same_block : block_at new at ≡ block_at old at
  same_block = others_same at (omega (arith, here at at refl))

  alike_left : AreAlikeBelow level old new c.lefts
  alike_left = alike_list level old new c.lefts (all_from (λ (x : ℕ). block_at new x ≡ block_at old x) (reach_of level old c.lefts) (λ x there. others_same x (omega (arith, times_append x (reach_of level old c.lefts) (reach_of level old c.rights)))))

  alike_right : AreAlikeBelow level old new c.rights
  alike_right = alike_list level old new c.rights (all_from (λ (x : ℕ). block_at new x ≡ block_at old x) (reach_of level old c.rights) (λ x there. others_same x (omega (arith, times_append x (reach_of level old c.lefts) (reach_of level old c.rights)))))

  piece_shapes : All (λ (p : Pointer). IsSubtree level new false p.at) pieces
  piece_shapes = elim (cases_lt 1 (length pieces)) [
    | inl some ↦ h.more (omega arith)
    | inr one ↦ h.one false c.here.0 (omega (arith, h.some))
  ]

  new_children : All (Child level new) pointers
  new_children =
      let middle : All (Child level new) pieces = λ i d inside. (piece_shapes i d inside, h.firsts i d inside) in
      All-append (Child level new) c.lefts (pieces ++ c.rights) (alike_left.children c.left) (All-append (Child level new) pieces c.rights middle (alike_right.children c.right))

  new_items : items_of level new pointers ≡ with_item key bytes (items_below (suc level) old at)
  new_items =
      let f : Pointer → List Item = λ (pointer : Pointer). items_below level new pointer.at in
      let l = items_of level old c.lefts in
      let m = items_below level old c.pointer.at in
      let r = items_of level old c.rights in
      flat_cut f c.lefts pieces c.rights
      ∙ ap (λ (xs : List Item). xs ++ (flat_map f pieces ++ flat_map f c.rights)) alike_left.items
      ∙ ap (λ (xs : List Item). l ++ (xs ++ flat_map f c.rights)) h.items_are
      ∙ ap (λ (xs : List Item). l ++ (with_item key bytes m ++ xs)) alike_right.items
      ∙ sym (with_middle key bytes l m r c.below c.above)
      ∙ ap (with_item key bytes) (sym c.items)

  new_rise : keys_rise (pointer_keys pointers) ≡ true
  new_rise = pointers_rise (λ (pointer : Pointer). items_below level new pointer.at) pointers (child_firsts level new pointers new_children) (subst ItemsRise (sym new_items) (with_rise key bytes (items_below (suc level) old at) w.order))

  new_times : (x : ℕ) → times_in x (at ∷ reach_of level new pointers) ≡ times_in x (reach_of level new pieces) + times_in x others
  new_times x =
      let g : Pointer → List ℕ = λ (pointer : Pointer). reach_below level new pointer.at in
      let cut : times_in x (at ∷ reach_of level new pointers) ≡ times_in x (at ∷ (flat_map g c.lefts ++ (flat_map g pieces ++ flat_map g c.rights))) = ap (λ (l : List ℕ). times_in x (at ∷ l)) (flat_cut g c.lefts pieces c.rights) in
      omega (arith, cut, times_cut x (flat_map g c.lefts) (flat_map g pieces) (flat_map g c.rights), ap (times_in x) alike_left.reach, ap (times_in x) alike_right.reach, times_append x (reach_of level old c.lefts) (reach_of level old c.rights))

  new_changes : IsChange old new whole (at ∷ reach_of level new pointers) (2 * level + 3)
  new_changes = more old new (λ x. times_in x (reach_below level old c.pointer.at)) (λ x. times_in x (reach_of level new pieces)) (λ x. times_in x others) (λ x. times_in x whole) (λ x. times_in x (at ∷ reach_of level new pointers)) (2 * level + 3) h.changes
      (λ x there. (omega (arith, c.reach x, whole_once x), (others_taken x there).taken))
      (λ x. omega (arith, c.reach x, whole_once x))
      c.reach
      new_times

  new_sealed : (want : Want) → All (Sealed level old want) (node_pointers old at) → All (Sealed level new want) pointers
  new_sealed want each =
      let was : All (Sealed level old want) (c.lefts ++ c.pointer ∷ c.rights) = All-same (Sealed level old want) (c.lefts ++ c.pointer ∷ c.rights) (node_pointers old at) (sym c.split) each in
      let right_ones = All-right (Sealed level old want) c.lefts (c.pointer ∷ c.rights) was in
      let middle : All (Sealed level new want) pieces = h.sealed want c.pointer.generation (All-head (Sealed level old want) c.pointer c.rights right_ones) in
      All-append (Sealed level new want) c.lefts (pieces ++ c.rights) (alike_left.sealed want (All-left (Sealed level old want) c.lefts (c.pointer ∷ c.rights) was)) (All-append (Sealed level new want) pieces c.rights middle (alike_right.sealed want (All-tail (Sealed level old want) c.pointer c.rights right_ones)))

  new_leaves : leaves_of level new pointers ≡ leaves_of level old c.lefts + (leaves_of level new pieces + leaves_of level old c.rights)
  new_leaves = sum_cut (λ (pointer : Pointer). leaves_below level new pointer.at) c.lefts pieces c.rights ∙ ap (λ (n : ℕ). n + (leaves_of level new pieces + leaves_of level new c.rights)) alike_left.leaves ∙ ap (λ (n : ℕ). leaves_of level old c.lefts + (leaves_of level new pieces + n)) alike_right.leaves

  pub grown : IsGrown level old new at key bytes place pieces c
  grown = record {
    block = same_block;
    node = node_pointers_alike old new at same_block;
    spliced_is = spliced_cut (node_pointers old at) c.lefts c.pointer c.rights pieces place c.split c.long;
    children = new_children;
    items = new_items;
    rise = new_rise;
    changes = new_changes;
    sealed = new_sealed;
    leaves = new_leaves;
  }
