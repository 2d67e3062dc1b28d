-- The blocks that stand in place of a root, as a tree.
use Rattle.std.proofs.Common.{◌≡◌, ◌≢◌, ◌≤◌, ◌<◌, ◌+◌, ◌*◌, ◌^◌, ℕ, suc, true, List, [], ◌∷◌, length, refl, ap, ◌∙◌, sym, subst, Some, arith, inl, inr}
use Rattle.std.specs.Prelude.{All}
use Rattle.std.proofs.lemmas.List.{append-nil}
use Rattle.std.proofs.lemmas.List.Elements.{All-head}
use Rattle.std.proofs.lemmas.List.Sums.{sum_by-cons}
use Rattle.blk_base.specs.declared.key.Key.{Key}
use Rattle.blk_base.specs.declared.key.Want.{Want}
use Rattle.blk_base.specs.Leaf.{Pointer}
use Rattle.block_table.specs.declared.state.SlotState.TheVariants.{LetGo}
use Rattle.block_table.specs.declared.tree.Tree.{Tree}
use Rattle.block_table.specs.Table.{Table}
use Rattle.blk_base.specs.Trees.{ItemsRise}
use Rattle.block_table.specs.TreeIn.{IsSealedSubtree, IsSealedTree, IsTaken, block_at}
use Rattle.leaf_view.specs.Search.{pointer_keys}
use Rattle.blk_base.specs.Keys.{keys_rise}
use Rattle.tree_range.specs.Between.{data_under}
use Rattle.tree_range.specs.Part.{times_in}
use Rattle.tree_range.specs.Shape.{IsSubtree, IsTree, items_below, node_pointers, reach_below, tree_items, tree_reach}
use Rattle.tree_range.proofs.Law.{Child}
use Rattle.tree_range.proofs.Times.{none_twice_from, none_twice_to, reach_taken}
use Rattle.tree_blocks.specs.Steps.{IsDirtyNode, node_at}
use Rattle.tree_blocks.proofs.Listing.{node_to_ok}
use Rattle.tree_frame.specs.Frame.{AreCurrent, leaves_below, tree_leaves, with_item}
use Rattle.std.proofs.lemmas.Bool.{cases_lt}
use Rattle.tree_frame.proofs.Places.{a_high_root_is_not_full}
use Rattle.cow_tree.specs.Change.{IsChange}
use Rattle.cow_tree.specs.Below.{IsWritable, IsWritten}
use Rattle.cow_tree.specs.Whole.{IsTreeWritten}
use Rattle.cow_tree.proofs.Alike.{AreAlikeBelow, alike_list}
use Rattle.cow_tree.proofs.Changes.{at_most, beside, current_after, join, more, taken_after}
use Rattle.cow_tree.proofs.Cut.{items_of, leaves_of, reach_of}
use Rattle.cow_tree.proofs.Finish.{shown_pointers}
use Rattle.cow_tree.proofs.Frame.{change_is_edit}
use Rattle.cow_tree.proofs.Items.{with_rise}
use Rattle.cow_tree.proofs.Lists.{all_from, all_to}
use Rattle.cow_tree.proofs.Steps.{here}
use Rattle.cow_tree.proofs.Sealed.{Sealed, below_want, sealed_node, sealed_root}
use Rattle.cow_tree.proofs.Sides.{pointers_rise}

pub tree_writable : (table : Table) (tree : Tree) → IsTree table tree → AreCurrent table (tree_reach table tree) → IsWritable tree.level table tree.root.0
tree_writable table tree t current = record { shape = t.shape; order = t.order; once = t.once; current = current }

-- where the blocks of the one tree pass their headers' checks, those of the other do
abbrev KeepsHeaders : Table → Table → Tree → Tree → Type 0
KeepsHeaders old new was is =
    (fsid : List ℕ) (before : ℕ) → IsSealedTree old was fsid before → (after : ℕ) × IsSealedTree new is fsid after

-- what a tree's change says of the tree
module _ (old new : Table) (was is : Tree) (key : Key) (bytes : List ℕ) (t : IsTree old was) (current : AreCurrent old (tree_reach old was)) (owner : is.owner ≡ was.owner) (low : is.level ≤ 7) (shape : IsSubtree is.level new true is.root.0) (items : tree_items new is ≡ with_item key bytes (tree_items old was))
    (changes : IsChange old new (tree_reach old was) (tree_reach new is) 17) (sealed : KeepsHeaders old new was is) (leaves : tree_leaves new is ≤ tree_leaves old was + 2)
    (no_leaf : (stood : List ℕ) → data_under key (tree_items old was) ≡ Some stood → length bytes ≤ length stood → tree_leaves new is ≡ tree_leaves old was) where
  pub tree_written : IsTreeWritten old new was is key bytes
  tree_written = record {
    tree = record {
      low = low;
      shape = shape;
      order = subst ItemsRise (sym items) (with_rise key bytes (tree_items old was) t.order);
      once = none_twice_from (tree_reach new is) (λ x. changes.once (λ y. none_twice_to (tree_reach old was) y t.once) x);
    };
    items = items;
    owner = owner;
    edit = change_is_edit old new (tree_reach old was) (tree_reach new is) 17 changes;
    current = all_from (λ (x : ℕ). (block_at new x).state ≢ LetGo) (tree_reach new is) (λ x there. current_after old new (λ y. times_in y (tree_reach old was)) (λ y. times_in y (tree_reach new is)) 17 changes (λ y here. all_to (λ (z : ℕ). (block_at old z).state ≢ LetGo) (tree_reach old was) y current here) x there);
    sealed = sealed;
    blocks = record { spare = changes.spare; free = changes.free };
    balance = changes.balance;
    leaves = leaves;
    no_leaf = no_leaf;
  }

-- one block is the root
pub one_root : (old new : Table) (was is : Tree) (key : Key) (bytes : List ℕ) (only : Pointer) → IsTree old was → AreCurrent old (tree_reach old was) → is.owner ≡ was.owner → is.level ≡ was.level → is.root.0 ≡ only.at → IsWritten was.level old new was.root.0 key bytes (only ∷ [])
    → IsTreeWritten old new was is key bytes
one_root old new was is key bytes only t current owner level root h =
    let at : IsSubtree was.level new true only.at = All-head (λ (p : Pointer). IsSubtree was.level new true p.at) only [] (h.one true t.shape refl) in
    let items : items_below was.level new only.at ≡ with_item key bytes (tree_items old was) = sym (append-nil (items_below was.level new only.at)) ∙ h.items_are in
    let reach : reach_of was.level new (only ∷ []) ≡ reach_below was.level new only.at = append-nil (reach_below was.level new only.at) in
    let changes : IsChange old new (tree_reach old was) (reach_below was.level new only.at) 17 =
    subst (λ (l : List ℕ). IsChange old new (tree_reach old was) l 17) reach (at_most old new (λ x. times_in x (tree_reach old was)) (λ x. times_in x (reach_of was.level new (only ∷ []))) (2 * was.level + 3) 17 (omega (arith, t.low)) h.changes) in
    let sealed : KeepsHeaders old new was is = λ fsid before s.
    let want : Want = record { fsid = fsid; at = was.root; generation = before; owner = was.owner; level = was.level } in
    (only.generation, sealed_root was.level new is fsid only.at only.generation was.owner level owner root (All-head (Sealed was.level new want) only [] (h.sealed want before s))) in
    let leaves : leaves_of was.level new (only ∷ []) ≡ leaves_below was.level new only.at = sum_by-cons (λ (p : Pointer). leaves_below was.level new p.at) only [] ∙ omega arith in
    tree_written old new was is key bytes t current owner (omega (arith, level, t.low))
    (subst (λ (n : ℕ). IsSubtree n new true is.root.0) (sym level) (subst (λ (a : ℕ). IsSubtree was.level new true a) (sym root) at))
    (ap (λ (n : ℕ). items_below n new is.root.0) level ∙ ap (items_below was.level new) root ∙ items)
    (subst (λ (n : ℕ). IsChange old new (tree_reach old was) (reach_below n new is.root.0) 17) (sym level) (subst (λ (a : ℕ). IsChange old new (tree_reach old was) (reach_below was.level new a) 17) (sym root) changes))
    sealed
    (let there : tree_leaves new is ≡ leaves_of was.level new (only ∷ []) = ap (λ (n : ℕ). leaves_below n new is.root.0) level ∙ ap (leaves_below was.level new) root ∙ sym leaves in omega (arith, there, h.leaves))
    (λ stood found short. ap (λ (n : ℕ). leaves_below n new is.root.0) level ∙ ap (leaves_below was.level new) root ∙ sym leaves ∙ (h.same_leaves stood found short).1)

-- the keys of the pieces rise
pub pieces_rise : (old new : Table) (level at : ℕ) (key : Key) (bytes : List ℕ) (pieces : List Pointer) → IsWritable level old at → IsWritten level old new at key bytes pieces → keys_rise (pointer_keys pieces) ≡ true
pieces_rise old new level at key bytes pieces w h = pointers_rise (λ (p : Pointer). items_below level new p.at) pieces h.firsts (subst ItemsRise (sym h.items_are) (with_rise key bytes (items_below level old at) w.order))

-- a new node over the pieces is the root
module _ (old mid new : Table) (was is : Tree) (key : Key) (bytes : List ℕ) (pieces : List Pointer) (t : IsTree old was) (current : AreCurrent old (tree_reach old was)) (owner : is.owner ≡ was.owner) (level : is.level ≡ suc was.level) (low : is.level ≤ 7) (several : 2 ≤ length pieces) (h : IsWritten was.level old mid was.root.0 key bytes pieces)
    (node : IsDirtyNode new is.root.0) (listed : node_at new is.root.0 ≡ pieces) (made : IsChange mid new [] (is.root.0 ∷ []) 1) where
  abbrev root : ℕ
  root = is.root.0

  pointers_are : node_pointers new root ≡ pieces
  pointers_are = shown_pointers new root node ∙ listed

  was_taken : (x : ℕ) → 1 ≤ times_in x (tree_reach old was) → IsTaken old x
  was_taken x there = all_to (IsTaken old) (tree_reach old was) x (reach_taken was.level old true was.root.0 t.shape) there

  mid_once : (x : ℕ) → times_in x (reach_of was.level mid pieces) ≤ 1
  mid_once x = h.changes.once (λ y. none_twice_to (tree_reach old was) y t.once) x

  mid_taken : (x : ℕ) → 1 ≤ times_in x (reach_of was.level mid pieces) → IsTaken mid x
  mid_taken x there = taken_after old mid (λ y. times_in y (tree_reach old was)) (λ y. times_in y (reach_of was.level mid pieces)) (2 * was.level + 3) h.changes was_taken x there

  alike : AreAlikeBelow was.level mid new pieces
  alike = alike_list was.level mid new pieces (all_from (λ (x : ℕ). block_at new x ≡ block_at mid x) (reach_of was.level mid pieces) (λ x there. beside mid new (λ y. 0) (λ y. times_in y (root ∷ [])) 1 x made refl (mid_taken x there).taken))

  children : All (Child was.level new) (node_pointers new root)
  children =
      let shapes = h.more several in
      let middle : All (Child was.level mid) pieces = λ i d inside. (shapes i d inside, h.firsts i d inside) in
      subst (All (Child was.level new)) (sym pointers_are) (alike.children middle)

  shape : IsSubtree (suc was.level) new true root
  shape =
      let root_taken : IsTaken new root = taken_after mid new (λ y. 0) (λ y. times_in y (root ∷ [])) 1 made (λ y there. absurd (omega arith)) root (omega (arith, here root root refl)) in
      (root_taken, node_to_ok (block_at new root).bytes node.body, omega (arith, ap length pointers_are), children)

  items : items_below (suc was.level) new root ≡ with_item key bytes (tree_items old was)
  items = ap (items_of was.level new) pointers_are ∙ alike.items ∙ h.items_are

  reach_is : reach_below (suc was.level) new root ≡ root ∷ reach_of was.level mid pieces
  reach_is = ap (λ (l : List ℕ). root ∷ l) (ap (reach_of was.level new) pointers_are ∙ alike.reach)

  root_changes : IsChange mid new (reach_of was.level mid pieces) (root ∷ reach_of was.level mid pieces) 1
  root_changes = more mid new (λ x. 0) (λ x. times_in x (root ∷ [])) (λ x. times_in x (reach_of was.level mid pieces)) (λ x. times_in x (reach_of was.level mid pieces)) (λ x. times_in x (root ∷ reach_of was.level mid pieces)) 1 made
      (λ x there. (refl, (mid_taken x there).taken)) mid_once (λ x. omega arith) (λ x. omega arith)

  changes : IsChange old new (tree_reach old was) (reach_below (suc was.level) new root) 17
  changes = subst (λ (l : List ℕ). IsChange old new (tree_reach old was) l 17) (sym reach_is)
      (at_most old new (λ x. times_in x (tree_reach old was)) (λ x. times_in x (root ∷ reach_of was.level mid pieces)) (2 * was.level + 3 + 1) 17 (omega (arith, level, low)) (join old mid new (λ x. times_in x (tree_reach old was)) (λ x. times_in x (reach_of was.level mid pieces)) (λ x. times_in x (root ∷ reach_of was.level mid pieces)) (2 * was.level + 3) 1 h.changes root_changes))

  leaves_are : leaves_below (suc was.level) new root ≡ leaves_of was.level mid pieces
  leaves_are = ap (leaves_of was.level new) pointers_are ∙ alike.leaves

  sealed : KeepsHeaders old new was is
  sealed fsid before s =
      let want : Want = record { fsid = fsid; at = was.root; generation = before; owner = was.owner; level = was.level } in
      let each : All (Sealed was.level new want) pieces = alike.sealed want (h.sealed want before s) in
      let over : IsSealedSubtree (suc was.level) new (record { fsid = fsid; at = is.root; generation = 0; owner = was.owner; level = suc was.level }) = sealed_node was.level new (below_want want (suc was.level)) root 0 node.dirty (subst (All (Sealed was.level new want)) (sym pointers_are) each) in
      (0, sealed_root (suc was.level) new is fsid root 0 was.owner level owner refl over)

  pub grown_root : IsTreeWritten old new was is key bytes
  grown_root = tree_written old new was is key bytes t current owner low
      (subst (λ (n : ℕ). IsSubtree n new true root) (sym level) shape)
      (ap (λ (n : ℕ). items_below n new root) level ∙ items)
      (subst (λ (n : ℕ). IsChange old new (tree_reach old was) (reach_below n new root) 17) (sym level) changes)
      sealed
      (let there : tree_leaves new is ≡ leaves_below (suc was.level) new root = ap (λ (n : ℕ). leaves_below n new root) level in omega (arith, there, leaves_are, h.leaves))
      (λ stood found short. absurd (omega (arith, (h.same_leaves stood found short).0, several)))

-- a root that two or three blocks replace isn't on the highest level
pub room_above : (old new : Table) (tree : Tree) (key : Key) (bytes : List ℕ) (pieces : List Pointer) → IsTree old tree → length old.slots < 2 ^ 32 → IsWritten tree.level old new tree.root.0 key bytes pieces → 2 ≤ length pieces → tree.level ≤ 6
room_above old new tree key bytes pieces t small h several = elim (cases_lt tree.level 7) [
  | inl low ↦ omega (arith, low)
  | inr high ↦
      let top : tree.level ≡ 7 = omega (arith, high, t.low) in
      let few = a_high_root_is_not_full old tree t top small in
      let single : length pieces ≡ 1 = h.whole 6 (omega (arith, top)) (omega (arith, few)) in
      absurd (omega (arith, single, several))
]
