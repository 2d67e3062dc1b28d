-- What the walk down to a leaf and back needs, and what it answers, one level after the other.
use Rattle.std.proofs.Common.{◌≡◌, ◌≢◌, ◌≤◌, ◌<◌, ◌-◌, ℕ, suc, true, List, [], ◌∷◌, ◌++◌, length, slice_get, ap, ◌∙◌, sym, subst, Some, arith}
use Rattle.std.proofs.lemmas.List.Elements.{All-head}
use Rattle.blk_base.specs.declared.key.Key.{Key}
use Rattle.blk_base.specs.Keys.{keys_rise}
use Rattle.blk_base.specs.Leaf.{Pointer}
use Rattle.block_table.specs.declared.state.SlotState.TheVariants.{Free, LetGo}
use Rattle.block_table.specs.Slot.{BlockSlot}
use Rattle.block_table.specs.Table.{Table}
use Rattle.block_table.specs.TreeIn.{block_at}
use Rattle.leaf_view.specs.Search.{children_of, pointer_keys}
use Rattle.tree_range.specs.Between.{data_under}
use Rattle.tree_range.specs.Path.{IsChildPlace}
use Rattle.tree_range.specs.Shape.{node_pointers, reach_below}
use Rattle.std.specs.List.{flat_map}
use Rattle.tree_range.proofs.Bodies.{node_pointers_are}
use Rattle.tree_range.proofs.Children.{child_inside, child_of, first_of}
use Rattle.tree_range.proofs.Cuts.{at_cut}
use Rattle.tree_blocks.specs.Lists.{IsNodeBlock, node_list}
use Rattle.tree_blocks.specs.Steps.{IsLeafAt, IsNodeAt, leaf_at, node_at}
use Rattle.tree_blocks.proofs.Listing.{leaf_from_ok, node_from_ok}
use Rattle.tree_frame.specs.Frame.{with_item}
use Rattle.cow_tree.specs.Below.{IsWritable, IsWritten}
use Rattle.cow_tree.specs.Pieces.{spliced}
use Rattle.cow_tree.specs.Spread.{IsLeafSpread, IsNodeSpread}
use Rattle.cow_tree.proofs.Base.{leaf_written}
use Rattle.cow_tree.proofs.Cut.{IsCutAt, IsGrown, child_writable, cut_at, grown}
use Rattle.cow_tree.proofs.Finish.{written}

-- the block itself is taken and current
pub record IsEditable (table : Table) (at : ℕ) : Type 0 where
  pub taken : (block_at table at).state ≢ Free
  pub current : (block_at table at).state ≢ LetGo

pub leaf_editable : (level : ℕ) (table : Table) (at : ℕ) → level ≡ 0 → IsWritable level table at → IsEditable table at × IsLeafAt table at
leaf_editable level table at low w =
    let leaf : IsWritable 0 table at = subst (λ (n : ℕ). IsWritable n table at) low w in
    (record { taken = leaf.shape.0.taken; current = All-head (λ (x : ℕ). (block_at table x).state ≢ LetGo) at [] leaf.current }, leaf_from_ok (block_at table at).bytes leaf.shape.1)

pub leaf_below : (level : ℕ) (old new : Table) (at : ℕ) (key : Key) (bytes : List ℕ) (pieces : List Pointer) → level ≡ 0 → IsWritable level old at → 1 ≤ length pieces → length pieces ≤ 3 → IsLeafSpread old new at (with_item key bytes (leaf_at old at)) pieces 3
    → ((was : List ℕ) → data_under key (leaf_at old at) ≡ Some was → length bytes ≤ length was → length pieces ≡ 1) → IsWritten level old new at key bytes pieces
leaf_below level old new at key bytes pieces low w some most h fits =
    let leaf : IsWritable 0 old at = subst (λ (n : ℕ). IsWritable n old at) low w in
    subst (λ (n : ℕ). IsWritten n old new at key bytes pieces) (sym low) (leaf_written old new at key bytes pieces some most leaf.shape h fits)

-- what an edit of a node needs
pub record IsNodeReady (table : Table) (at : ℕ) : Type 0 where
  pub block : IsEditable table at
  pub node : IsNodeAt table at
  pub least : 2 ≤ length (node_at table at)

pub node_ready : (level : ℕ) (table : Table) (at : ℕ) → 0 < level → IsWritable level table at → IsNodeReady table at
node_ready level table at high w =
    let one : level ≡ suc (level - 1) = omega arith in
    let whole : IsWritable (suc (level - 1)) table at = subst (λ (n : ℕ). IsWritable n table at) one w in
    let node : IsNodeAt table at = node_from_ok (block_at table at).bytes whole.shape.1 in
    let least : 2 ≤ length (node_pointers table at) = whole.shape.2 in
    record {
      block = record { taken = whole.shape.0.taken; current = All-head (λ (x : ℕ). (block_at table x).state ≢ LetGo) at (flat_map (λ (pointer : Pointer). reach_below (level - 1) table pointer.at) (node_pointers table at)) whole.current };
      node = node;
      least = omega (arith, least, ap length (node_pointers_are table at (node_at table at) node));
    }

-- the child at the place of a cut
child_there : (pointers l : List Pointer) (p : Pointer) (r : List Pointer) (place child generation : ℕ) → pointers ≡ l ++ p ∷ r → length l ≡ place → slice_get (children_of pointers) place ≡ Some (child, generation) → child ≡ p.at
child_there pointers l p r place child generation split long is =
    let there : slice_get (children_of (l ++ p ∷ r)) (length l) ≡ Some (child_of p) = at_cut child_of l p r in
    let found : slice_get (children_of (l ++ p ∷ r)) (length l) ≡ Some (child, generation) = subst (λ (n : ℕ). slice_get (children_of (l ++ p ∷ r)) n ≡ Some (child, generation)) (sym long) (subst (λ (ps : List Pointer). slice_get (children_of ps) place ≡ Some (child, generation)) split is) in
    first_of p.at p.generation child generation (sym there ∙ found)

module _ (level : ℕ) (old : Table) (at : ℕ) (key : Key) (place child generation : ℕ) (high : 0 < level) (w : IsWritable level old at) (p : IsChildPlace (node_at old at) key place) (is : slice_get (children_of (node_at old at)) place ≡ Some (child, generation)) where
  one : level ≡ suc (level - 1)
  one = omega (arith, high)

  whole : IsWritable (suc (level - 1)) old at
  whole = subst (λ (n : ℕ). IsWritable n old at) one w

  shown : node_pointers old at ≡ node_at old at
  shown = node_pointers_are old at (node_at old at) (node_from_ok (block_at old at).bytes whole.shape.1)

  cut : IsCutAt (level - 1) old at key place
  cut = cut_at (level - 1) old at key place whole (subst (λ (l : List Pointer). IsChildPlace l key place) (sym shown) p)

  child_is : child ≡ cut.pointer.at
  child_is = child_there (node_at old at) cut.lefts cut.pointer cut.rights place child generation (sym shown ∙ cut.split) cut.long is

  pub below_writable : IsWritable (level - 1) old child
  below_writable = subst (λ (a : ℕ). IsWritable (level - 1) old a) (sym child_is) (child_writable (level - 1) old at key place whole cut)

module _ (level : ℕ) (old : Table) (at : ℕ) (key : Key) (place child generation : ℕ) (high : 0 < level) (w : IsWritable level old at) (p : IsChildPlace (node_at old at) key place) (is : slice_get (children_of (node_at old at)) place ≡ Some (child, generation)) (mid : Table) (bytes : List ℕ) (pieces : List Pointer) (h : IsWritten (level - 1) old mid child key bytes pieces) where
  abbrev around : IsCutAt (level - 1) old at key place
  around = cut level old at key place child generation high w p is

  below : IsWritten (level - 1) old mid around.pointer.at key bytes pieces
  below = subst (λ (a : ℕ). IsWritten (level - 1) old mid a key bytes pieces) (child_is level old at key place child generation high w p is) h

  grew : IsGrown (level - 1) old mid at key bytes place pieces around
  grew = grown (level - 1) old mid at key bytes place pieces (whole level old at key place child generation high w p is) around below

  same_node : node_at mid at ≡ node_at old at
  same_node = ap (λ (slot : BlockSlot). node_list slot.bytes) grew.block

  pub mid_ready : IsNodeReady mid at
  mid_ready =
      let was = node_ready level old at high w in
      record {
        block = record { taken = subst (λ (slot : BlockSlot). slot.state ≢ Free) (sym grew.block) was.block.taken; current = subst (λ (slot : BlockSlot). slot.state ≢ LetGo) (sym grew.block) was.block.current };
        node = subst (λ (slot : BlockSlot). IsNodeBlock slot.bytes) (sym grew.block) was.node;
        least = omega (arith, was.least, ap length same_node);
      }

  pub mid_within : place < length (node_at mid at)
  mid_within = omega (arith, child_inside (node_at old at) key place p, ap length same_node)

  pub mid_order : keys_rise (pointer_keys (spliced (node_at mid at) place pieces)) ≡ true
  mid_order = ap (λ (l : List Pointer). keys_rise (pointer_keys (spliced l place pieces))) (same_node ∙ sym (shown level old at key place child generation high w p is)) ∙ ap (λ (l : List Pointer). keys_rise (pointer_keys l)) grew.spliced_is ∙ grew.rise

  pub node_below : (new : Table) (nodes : List Pointer) → 1 ≤ length nodes → length nodes ≤ 3 → IsNodeSpread mid new at (spliced (node_at mid at) place pieces) nodes 2 → IsWritten level old new at key bytes nodes
  node_below new nodes some most n =
      let here : IsNodeSpread mid new at (spliced (node_pointers mid at) place pieces) nodes 2 = subst (λ (l : List Pointer). IsNodeSpread mid new at (spliced l place pieces) nodes 2) (same_node ∙ sym (shown level old at key place child generation high w p is) ∙ sym grew.node) n in
      subst (λ (k : ℕ). IsWritten k old new at key bytes nodes) (sym (one level old at key place child generation high w p is)) (written (level - 1) old mid new at key bytes place pieces nodes some most (whole level old at key place child generation high w p is) around below here)
