-- A node in whose place nodes stand that have the new children.
use Rattle.std.proofs.Common.{◌≡◌, ◌≤◌, ◌+◌, ◌*◌, ℕ, suc, Bool, true, false, List, [], ◌∷◌, ◌++◌, length, ap, ◌∙◌, sym, Some, None, arith, length-append}
use Rattle.std.specs.Prelude.{All, slice_index_or}
use Rattle.std.specs.List.{flat_map, sum_by}
use Rattle.std.proofs.lemmas.List.Elements.{All-head, All-same, All-weaker}
use Rattle.blk_base.specs.declared.key.Key.{Key}
use Rattle.blk_base.specs.declared.key.Want.{Want}
use Rattle.blk_base.specs.Leaf.{Item, Pointer}
use Rattle.block_table.specs.Table.{Table}
use Rattle.blk_base.specs.Trees.{first_key, least_pointers}
use Rattle.block_table.specs.TreeIn.{IsSealedSubtree, IsTaken, block_at}
use Rattle.leaf_view.proofs.NodeLaws.{node_body_means}
use Rattle.tree_range.specs.Between.{data_under}
use Rattle.tree_range.specs.Part.{times_in}
use Rattle.tree_range.specs.Path.{key_behind}
use Rattle.tree_range.specs.Shape.{IsSubtree, items_below, node_pointers, reach_below}
use Rattle.tree_range.proofs.Bodies.{node_body_is, node_pointers_are}
use Rattle.tree_range.proofs.Cuts.{All-unmap}
use Rattle.tree_range.proofs.Law.{Child}
use Rattle.tree_frame.proofs.Reading.{all_parts, flat_map_same}
use Rattle.tree_range.proofs.Rise.{first_append}
use Rattle.tree_range.proofs.Times.{none_twice_to, reach_taken}
use Rattle.tree_blocks.specs.Steps.{IsDirtyNode, node_at}
use Rattle.tree_blocks.proofs.Listing.{node_to_ok}
use Rattle.tree_frame.specs.Frame.{leaves_below, with_item}
use Rattle.cow_tree.specs.Change.{IsChange}
use Rattle.cow_tree.specs.Below.{IsWritable, IsWritten, want_at}
use Rattle.cow_tree.specs.Pieces.{ats_of, spliced}
use Rattle.cow_tree.specs.Spread.{IsNodePiece, IsNodeSpread}
use Rattle.cow_tree.proofs.Alike.{AreAlikeBelow, alike_list}
use Rattle.cow_tree.proofs.Changes.{at_most, beside, join, more, taken_after}
use Rattle.cow_tree.proofs.Cut.{IsCutAt, IsGrown, grown, items_of, leaves_of, reach_of}
use Rattle.cow_tree.proofs.Items.{under_middle}
use Rattle.cow_tree.proofs.Lists.{all_from, all_to, flat_flat, only_one, sum_flat, times_nodes}
use Rattle.cow_tree.proofs.Sealed.{Sealed, below_want, sealed_children, sealed_node}
use Rattle.cow_tree.proofs.Sides.{HaveFirsts}

-- a node's first key is its first child's
first_of_node : (f : Pointer → List Item) (pointers : List Pointer) (key : Key) → key_behind pointers None ≡ Some key → HaveFirsts f pointers → first_key (flat_map f pointers) ≡ Some key
first_of_node f [] key is firsts = absurd cc
first_of_node f (p ∷ ps) key is firsts =
    first_append (f p) (flat_map f ps) key (All-head (λ (q : Pointer). first_key (f q) ≡ Some q.key) p ps firsts ∙ is)

pub shown_pointers : (table : Table) (at : ℕ) → IsDirtyNode table at → node_pointers table at ≡ node_at table at
shown_pointers table at h = node_pointers_are table at (node_at table at) h.body

-- a node of a subtree
node_shape : (level : ℕ) (table : Table) (is_root : Bool) (at : ℕ) → IsTaken table at → IsDirtyNode table at → least_pointers is_root ≤ length (node_pointers table at) → All (Child level table) (node_pointers table at) → IsSubtree (suc level) table is_root at
node_shape level table is_root at taken node least children = (taken, node_to_ok (block_at table at).bytes node.body, least, children)

module _ (level : ℕ) (old mid new : Table) (at : ℕ) (key : Key) (bytes : List ℕ) (place : ℕ) (pieces nodes : List Pointer) (some : 1 ≤ length nodes) (most : length nodes ≤ 3) (w : IsWritable (suc level) old at) (c : IsCutAt level old at key place) (h : IsWritten level old mid c.pointer.at key bytes pieces) (n : IsNodeSpread mid new at (spliced (node_pointers mid at) place pieces) nodes 2) where
  abbrev whole : List ℕ
  whole = reach_below (suc level) old at

  abbrev pointers : List Pointer
  pointers = c.lefts ++ (pieces ++ c.rights)

  abbrev listed : Pointer → List Pointer
  listed node = node_pointers new node.at

  grew : IsGrown level old mid at key bytes place pieces c
  grew = grown level old mid at key bytes place pieces w c h

  spliced_is : spliced (node_pointers mid at) place pieces ≡ pointers
  spliced_is = ap (λ (l : List Pointer). spliced l place pieces) grew.node ∙ grew.spliced_is

  pointers_are : flat_map listed nodes ≡ pointers
  pointers_are = flat_map_same listed (λ (node : Pointer). node_at new node.at) nodes (All-weaker (IsNodePiece new) (λ (node : Pointer). listed node ≡ node_at new node.at) (λ node k. shown_pointers new node.at k.node) nodes n.each) ∙ n.pointers_are ∙ spliced_is

  whole_taken : (x : ℕ) → 1 ≤ times_in x whole → IsTaken old x
  whole_taken x there = all_to (IsTaken old) whole x (reach_taken (suc level) old true at w.shape) there

  mid_once : (x : ℕ) → times_in x (at ∷ reach_of level mid pointers) ≤ 1
  mid_once x = grew.changes.once (λ y. none_twice_to whole y w.once) x

  mid_taken : (x : ℕ) → 1 ≤ times_in x (at ∷ reach_of level mid pointers) → IsTaken mid x
  mid_taken x there = taken_after old mid (λ y. times_in y whole) (λ y. times_in y (at ∷ reach_of level mid pointers)) (2 * level + 3) grew.changes whole_taken x there

  below_same : (x : ℕ) → 1 ≤ times_in x (reach_of level mid pointers) → block_at new x ≡ block_at mid x
  below_same x there = beside mid new (λ y. times_in y (at ∷ [])) (λ y. times_in y (ats_of nodes)) 2 x n.changes (omega (arith, mid_once x)) (mid_taken x (omega arith)).taken

  alike : AreAlikeBelow level mid new pointers
  alike = alike_list level mid new pointers (all_from (λ (x : ℕ). block_at new x ≡ block_at mid x) (reach_of level mid pointers) below_same)

  reach_times : (x : ℕ) → times_in x (reach_of (suc level) new nodes) ≡ times_in x (ats_of nodes) + times_in x (reach_of level mid pointers)
  reach_times x =
      let g : Pointer → List ℕ = λ (pointer : Pointer). reach_below level new pointer.at in
      let below : flat_map (λ (node : Pointer). flat_map g (listed node)) nodes ≡ reach_of level mid pointers = flat_flat g listed nodes ∙ ap (flat_map g) pointers_are ∙ alike.reach in
      times_nodes (λ (node : Pointer). flat_map g (listed node)) x nodes ∙ ap (λ (l : List ℕ). times_in x (ats_of nodes) + times_in x l) below

  node_changes : IsChange mid new (at ∷ reach_of level mid pointers) (reach_of (suc level) new nodes) 2
  node_changes = more mid new (λ x. times_in x (at ∷ [])) (λ x. times_in x (ats_of nodes)) (λ x. times_in x (reach_of level mid pointers)) (λ x. times_in x (at ∷ reach_of level mid pointers)) (λ x. times_in x (reach_of (suc level) new nodes)) 2 n.changes
      (λ x there. (omega (arith, mid_once x), (mid_taken x (omega arith)).taken))
      (λ x. omega (arith, mid_once x))
      (λ x. omega arith)
      reach_times

  changes : IsChange old new whole (reach_of (suc level) new nodes) (2 * suc level + 3)
  changes = at_most old new (λ x. times_in x whole) (λ x. times_in x (reach_of (suc level) new nodes)) (2 * level + 3 + 2) (2 * suc level + 3) (omega arith) (join old mid new (λ x. times_in x whole) (λ x. times_in x (at ∷ reach_of level mid pointers)) (λ x. times_in x (reach_of (suc level) new nodes)) (2 * level + 3) 2 grew.changes node_changes)

  items : items_of (suc level) new nodes ≡ with_item key bytes (items_below (suc level) old at)
  items =
      let f : Pointer → List Item = λ (pointer : Pointer). items_below level new pointer.at in
      flat_flat f listed nodes ∙ ap (flat_map f) pointers_are ∙ alike.items ∙ grew.items

  children : All (λ (node : Pointer). All (Child level new) (listed node)) nodes
  children = all_parts (Child level new) listed nodes (All-same (Child level new) (flat_map listed nodes) pointers pointers_are (alike.children grew.children))

  firsts : All (λ (node : Pointer). first_key (items_below (suc level) new node.at) ≡ Some node.key) nodes
  firsts = λ i d inside.
      let node = slice_index_or nodes i d in
      let piece = n.each i d inside in
      let f : Pointer → List Item = λ (pointer : Pointer). items_below level new pointer.at in
      first_of_node f (listed node) node.key (ap (λ (l : List Pointer). key_behind l None) (shown_pointers new node.at piece.node) ∙ piece.key) (All-weaker (Child level new) (λ (p : Pointer). first_key (f p) ≡ Some p.key) (λ p k. k.1) (listed node) (children i d inside))

  taken : All (λ (node : Pointer). IsTaken new node.at) nodes
  taken = All-unmap (IsTaken new) (λ (node : Pointer). node.at) nodes (all_from (IsTaken new) (ats_of nodes) (λ x there. taken_after mid new (λ y. times_in y (at ∷ [])) (λ y. times_in y (ats_of nodes)) 2 n.changes (λ y here. mid_taken y (omega arith)) x there))

  shapes : (is_root : Bool) → All (λ (node : Pointer). least_pointers is_root ≤ length (listed node)) nodes → All (λ (node : Pointer). IsSubtree (suc level) new is_root node.at) nodes
  shapes is_root least = λ i d inside.
      node_shape level new is_root (slice_index_or nodes i d).at (taken i d inside) (n.each i d inside).node (least i d inside) (children i d inside)

  grows : length (node_pointers old at) + length pieces ≡ length pointers + 1
  grows = omega (arith, ap length c.split, length-append c.lefts (c.pointer ∷ c.rights), length-append c.lefts (pieces ++ c.rights), length-append pieces c.rights)

  one : (is_root : Bool) → IsSubtree (suc level) old is_root at → length nodes ≡ 1 → All (λ (node : Pointer). IsSubtree (suc level) new is_root node.at) nodes
  one is_root was single = shapes is_root (All-weaker (λ (node : Pointer). length (listed node) ≡ length (flat_map listed nodes)) (λ (node : Pointer). least_pointers is_root ≤ length (listed node)) (λ node k. let least : least_pointers is_root ≤ length (node_pointers old at) = was.2 in omega (arith, k, ap length pointers_are, grows, h.some)) nodes (only_one listed nodes single))

  several : 2 ≤ length nodes → All (λ (node : Pointer). IsSubtree (suc level) new false node.at) nodes
  several more_of = shapes false (λ i d inside.
      let there = ap length (shown_pointers new (slice_index_or nodes i d).at (n.each i d inside).node) in
      let large = n.large more_of i d inside in omega (arith, there, large))

  single : length pointers ≤ 121 → length nodes ≡ 1
  single short = n.one (omega (arith, ap length spliced_is))

  sealed : (want : Want) (was : ℕ) → IsSealedSubtree (suc level) old (want_at want at was) → All (Sealed (suc level) new want) nodes
  sealed want was s =
      let S : Pointer → Type 0 = Sealed level new (below_want want level) in
      let each : All S pointers = alike.sealed (below_want want level) (grew.sealed (below_want want level) (sealed_children level old want at was w.shape.1 s)) in
      let parts : All (λ (node : Pointer). All S (listed node)) nodes = all_parts S listed nodes (All-same S (flat_map listed nodes) pointers pointers_are each) in
      λ i d inside.
      let node = slice_index_or nodes i d in
      sealed_node level new want node.at node.generation (n.each i d inside).node.dirty (parts i d inside)

  leaves_are : leaves_of (suc level) new nodes ≡ leaves_of level old c.lefts + (leaves_of level mid pieces + leaves_of level old c.rights)
  leaves_are =
      let v : Pointer → ℕ = λ (pointer : Pointer). leaves_below level new pointer.at in
      sum_flat v listed nodes ∙ ap (sum_by v) pointers_are ∙ alike.leaves ∙ grew.leaves

  most_old : length (node_pointers old at) ≤ 121
  most_old = (node_body_means (block_at old at).bytes (node_pointers old at) (node_body_is old at w.shape.1)).most

  pub written : IsWritten (suc level) old new at key bytes nodes
  written = record {
    some = some;
    most = most;
    items_are = items;
    firsts = firsts;
    one = one;
    more = several;
    changes = changes;
    sealed = sealed;
    leaves = omega (arith, leaves_are, c.leaves, h.leaves);
    same_leaves = λ was is short.
        let under : data_under key (items_below level old c.pointer.at) ≡ Some was = sym (under_middle key (items_of level old c.lefts) (items_below level old c.pointer.at) (items_of level old c.rights) c.below c.above) ∙ ap (data_under key) (sym c.items) ∙ is in
        let s = h.same_leaves was under short in
        (single (omega (arith, grows, s.0, most_old)), omega (arith, leaves_are, c.leaves, s.1));
    whole = λ below e short. single (let few : length (node_pointers old at) ≤ 119 = short in omega (arith, grows, h.most, few));
  }
