-- The root of a tree from which an item was taken.
use Rattle.std.proofs.Common.{◌≡◌, ◌≢◌, ◌≤◌, ◌+◌, ◌*◌, ℕ, suc, true, List, [], ◌∷◌, length, slice_get, refl, ap, ◌∙◌, sym, subst, Some, IsSome, arith}
use Rattle.std.specs.Prelude.{All}
use Rattle.std.specs.List.{flat_map, sum_by}
use Rattle.std.proofs.lemmas.List.{append-nil}
use Rattle.std.proofs.lemmas.List.Elements.{All-nil, All-cons, All-head}
use Rattle.std.proofs.lemmas.List.Sums.{sum_by-cons}
use Rattle.blk_base.specs.declared.key.Key.{Key}
use Rattle.blk_base.specs.declared.key.Want.{Want}
use Rattle.blk_base.specs.Leaf.{Item, Pointer}
use Rattle.block_table.specs.declared.state.SlotState.TheVariants.{Free, Dirty}
use Rattle.block_table.specs.declared.tree.Tree.{Tree}
use Rattle.block_table.specs.Table.{Table}
use Rattle.blk_base.specs.Trees.{ItemsRise, NoneTwice}
use Rattle.block_table.specs.TreeIn.{IsSealedSubtree, IsSealedTree, block_at}
use Rattle.leaf_view.specs.Search.{children_of}
use Rattle.tree_range.specs.Shape.{IsSubtree, IsTree, items_below, leaf_items, node_pointers, reach_below, tree_items, tree_reach}
use Rattle.tree_range.specs.Between.{data_under}
use Rattle.tree_range.specs.Part.{times_in}
use Rattle.tree_range.proofs.Local.{alike_below}
use Rattle.tree_frame.proofs.Counting.{counted_alike}
use Rattle.tree_frame.specs.Frame.{AreCurrent, IsEdit, TakesAtMost, leaves_below, tree_leaves, without_item}
use Rattle.tree_delete.specs.Seals.{IsSealedRow, want_of}
use Rattle.tree_delete.specs.Ahead.{IsBetween, TakesAhead, nodes_ahead, row_ahead, tree_ahead}
use Rattle.tree_delete.specs.Balance.{AreBalanced}
use Rattle.tree_delete.specs.Rows.{HasItemBelow, IsChildOf, IsLessNode, IsLessTree}
use Rattle.tree_frame.proofs.EditLaws.{edits_join}
use Rattle.tree_delete.proofs.Seals.{dirty_leaf_sealed, dirty_node_sealed, sealed_alike, sealed_children}
use Rattle.tree_delete.proofs.Ahead.{ahead_alike, dirty_ahead}
use Rattle.tree_delete.proofs.Blocks.{IsGone}
use Rattle.tree_delete.proofs.Deleting.{address_of}
use Rattle.tree_delete.proofs.Edits.{IsWhole, carry, takes_join, takes_more}
use Rattle.tree_delete.proofs.Items.{rise_without}
use Rattle.tree_delete.proofs.Pairs.{one_once}
use Rattle.tree_delete.proofs.Rows.{as_root, over_from, over_to}
use Rattle.tree_delete.proofs.Steps.{whole_of}

-- what the root of a tree is to say of itself
abbrev root_want : List ℕ → Tree → ℕ → ℕ → ℕ → Want
root_want fsid tree generation level at = record { fsid = fsid; at = record { 0 = at }; generation = generation; owner = tree.owner; level = level }

-- what stands at the new root
pub record IsLessRoot (level : ℕ) (old new : Table) (tree result : Tree) (key : Key) : Type 0 where
  pub low : level ≤ 7
  pub shape : IsSubtree level new true result.root.0
  pub items : items_below level new result.root.0 ≡ without_item key (tree_items old tree)
  pub edit : IsEdit old new (tree_reach old tree) (reach_below level new result.root.0)
  pub once : NoneTwice (reach_below level new result.root.0)
  pub current : AreCurrent new (reach_below level new result.root.0)
  pub blocks : TakesAtMost old new 17
  pub balance : AreBalanced old new
  pub ahead : (first last : Key) → IsBetween first last key → TakesAhead old new (tree_ahead first last old tree) (nodes_ahead first last level new result.root.0)
  pub leaves : leaves_below level new result.root.0 ≤ tree_leaves old tree
  pub sealed : (fsid : List ℕ) (was : ℕ) → IsSealedTree old tree fsid was → (now : ℕ) × IsSealedSubtree level new (root_want fsid tree now level result.root.0)

pub less_tree : (level : ℕ) (old new : Table) (tree result : Tree) (key : Key) → IsTree old tree → result.level ≡ level → result.owner ≡ tree.owner → IsLessRoot level old new tree result key → IsLessTree old new tree result key
less_tree level old new tree result key is_tree level_is owner h =
    let made : IsLessRoot result.level old new tree result key = subst (λ (n : ℕ). IsLessRoot n old new tree result key) (sym level_is) h in
    record {
      is_tree = record { low = made.low; shape = made.shape; order = subst ItemsRise (sym made.items) (rise_without key (tree_items old tree) is_tree.order); once = made.once };
      items = made.items;
      owner = owner;
      edit = made.edit;
      current = made.current;
      blocks = made.blocks;
      balance = made.balance;
      ahead = made.ahead;
      leaves = made.leaves;
      sealed = λ fsid was h.
          let there = made.sealed fsid was h in
          (there.0, subst (λ (n : ℕ). IsSealedSubtree result.level new (record { fsid = fsid; at = result.root; generation = there.0; owner = n; level = result.level })) (sym owner) there.1);
    }

-- a root on a level above 0 is a node with the item below it
pub root_below : (level : ℕ) (table : Table) (tree : Tree) (key : Key) → tree.level ≡ suc level → IsTree table tree → AreCurrent table (tree_reach table tree) → IsSome (data_under key (tree_items table tree)) → HasItemBelow level table tree.root.0 key
root_below level table tree key level_is is_tree current present =
    let root = tree.root.0 in
    let shape : IsSubtree (suc level) table true root = subst (λ (n : ℕ). IsSubtree n table true root) level_is is_tree.shape in
    record {
      shape = over_from level table true root shape;
      least = shape.2;
      rises = subst (λ (n : ℕ). ItemsRise (items_below n table root)) level_is is_tree.order;
      present = subst (λ (n : ℕ). IsSome (data_under key (items_below n table root))) level_is present;
      once = subst (λ (n : ℕ). NoneTwice (reach_below n table root)) level_is is_tree.once;
      current = subst (λ (n : ℕ). AreCurrent table (reach_below n table root)) level_is current;
    }

-- another tree with this root
moved : (level : ℕ) (old new : Table) (tree one two : Tree) (key : Key) → one.root.0 ≡ two.root.0 → IsLessRoot level old new tree one key → IsLessRoot level old new tree two key
moved level old new tree one two key same h = record {
  low = h.low;
  shape = subst (IsSubtree level new true) same h.shape;
  items = ap (items_below level new) (sym same) ∙ h.items;
  edit = subst (λ (at : ℕ). IsEdit old new (tree_reach old tree) (reach_below level new at)) same h.edit;
  once = subst (λ (at : ℕ). NoneTwice (reach_below level new at)) same h.once;
  current = subst (λ (at : ℕ). AreCurrent new (reach_below level new at)) same h.current;
  blocks = h.blocks;
  balance = h.balance;
  ahead = λ first last between. subst (λ (at : ℕ). TakesAhead old new (tree_ahead first last old tree) (nodes_ahead first last level new at)) same (h.ahead first last between);
  leaves = omega (arith, ap (leaves_below level new) same, h.leaves);
  sealed = λ fsid was k. let there = h.sealed fsid was k in (there.0, subst (λ (at : ℕ). IsSealedSubtree level new (root_want fsid tree there.0 level at)) same there.1);
}

-- the edit keeps what it reaches current
less_whole : (level : ℕ) (old new : Table) (at result : ℕ) (key : Key) → HasItemBelow level old at key → IsLessNode level old new at result key → IsWhole new (reach_below (suc level) new result)
less_whole level old new at result key h less =
    let before = reach_below (suc level) old at in
    let after = reach_below (suc level) new result in
    (carry old new before after [] before after less.edit less.once (whole_of level old at key h) (λ x. ap (times_in x) (sym (append-nil before))) (λ x. ap (times_in x) (sym (append-nil after)))).whole

module _ (level : ℕ) (old mid : Table) (tree : Tree) (key : Key) (root : ℕ) (level_is : tree.level ≡ suc level) (low : tree.level ≤ 7) (h : HasItemBelow level old tree.root.0 key) (less : IsLessNode level old mid tree.root.0 root key) where
  reach_is : tree_reach old tree ≡ reach_below (suc level) old tree.root.0
  reach_is = ap (λ (n : ℕ). reach_below n old tree.root.0) level_is

  items_is : items_below (suc level) mid root ≡ without_item key (tree_items old tree)
  items_is = less.items ∙ ap (λ (n : ℕ). without_item key (items_below n old tree.root.0)) (sym level_is)

  leaves_is : leaves_below (suc level) mid root ≤ tree_leaves old tree
  leaves_is = omega (arith, less.leaves, ap (λ (n : ℕ). leaves_below n old tree.root.0) level_is)

  ahead_is : (first last : Key) → IsBetween first last key → TakesAhead old mid (tree_ahead first last old tree) (nodes_ahead first last (suc level) mid root)
  ahead_is first last between =
      let takes = less.ahead first last between in
      let fewer = less.fewer in
      let was = ap (λ (n : ℕ). nodes_ahead first last n old tree.root.0) level_is in
      record { spare = omega (arith, takes.spare, fewer, was); free = omega (arith, takes.free, fewer, was) }

  sealed_is : (fsid : List ℕ) (was : ℕ) → IsSealedTree old tree fsid was → IsSealedRow fsid tree.owner level mid (node_pointers mid root)
  sealed_is fsid was h =
      let shown : IsSealedSubtree (suc level) old (root_want fsid tree was (suc level) tree.root.0) = subst (λ (n : ℕ). IsSealedSubtree n old (root_want fsid tree was n tree.root.0)) level_is h in
      less.sealed fsid tree.owner (sealed_children level old (root_want fsid tree was (suc level) tree.root.0) shown)

  -- the root keeps two pointers
  pub root_stays : (result : Tree) → result.root.0 ≡ root → 2 ≤ length (node_pointers mid root) → IsLessRoot (suc level) old mid tree result key
  root_stays result root_is long =
      let whole = less_whole level old mid tree.root.0 root key h less in
      let at_root : IsLessRoot (suc level) old mid tree (record { root = record { 0 = root }; level = tree.level; owner = tree.owner }) key = record {
        low = omega (arith, low, level_is);
        shape = over_to level mid true root less.shape long;
        items = items_is;
        edit = subst (λ (l : List ℕ). IsEdit old mid l (reach_below (suc level) mid root)) (sym reach_is) less.edit;
        once = less.once;
        current = whole.current;
        blocks = takes_more old mid (2 * level + 2) 17 (omega (arith, low, level_is)) less.blocks;
        balance = less.balance;
        ahead = ahead_is;
        leaves = leaves_is;
        sealed = λ fsid was k. (was, dirty_node_sealed level mid (root_want fsid tree was (suc level) root) less.dirty (sealed_is fsid was k));
      } in
      moved (suc level) old mid tree (record { root = record { 0 = root }; level = tree.level; owner = tree.owner }) result key (sym root_is) at_root

  -- its one child becomes the root
  pub root_falls : (new : Table) (result : Tree) (p : Pointer) → node_pointers mid root ≡ p ∷ [] → result.root.0 ≡ p.at → IsGone mid new root → IsLessRoot level old new tree result key
  root_falls new result p one root_is gone =
      let whole = less_whole level old mid tree.root.0 root key h less in
      let g : Pointer → List ℕ = λ (q : Pointer). reach_below level mid q.at in
      let f : Pointer → List Item = λ (q : Pointer). items_below level mid q.at in
      let n : Pointer → ℕ = λ (q : Pointer). leaves_below level mid q.at in
      let child_reach = reach_below level mid p.at in
      let reach : reach_below (suc level) mid root ≡ root ∷ child_reach = ap (λ (l : List ℕ). root ∷ l) (ap (flat_map g) one ∙ append-nil child_reach) in
      let c = carry mid new (root ∷ []) [] child_reach (root ∷ child_reach) child_reach gone.edit tt (subst (IsWhole mid) reach whole) (λ x. refl) (λ x. refl) in
      let below = alike_below level mid new p.at c.alike in
      let child : IsChildOf level mid p = All-head (IsChildOf level mid) p [] (subst (All (IsChildOf level mid)) one less.shape.children) in
      let leaves : leaves_below (suc level) mid root ≡ leaves_below level mid p.at = omega (arith, ap (sum_by n) one, sum_by-cons n p []) in
      let edit : IsEdit old new (tree_reach old tree) child_reach =
      edits_join old mid new (tree_reach old tree) (root ∷ child_reach) child_reach (subst (λ (l : List ℕ). IsEdit old mid l (root ∷ child_reach)) (sym reach_is) (subst (λ (l : List ℕ). IsEdit old mid (reach_below (suc level) old tree.root.0) l) reach less.edit)) c.edit in
      let at_child : IsLessRoot level old new tree (record { root = record { 0 = p.at }; level = level; owner = tree.owner }) key = record {
        low = omega (arith, low, level_is);
        shape = below.shape true (as_root level mid p.at child.0);
        items = below.items ∙ sym (append-nil (items_below level mid p.at)) ∙ ap (flat_map f) (sym one) ∙ items_is;
        edit = subst (λ (l : List ℕ). IsEdit old new (tree_reach old tree) l) (sym below.reach) edit;
        once = subst NoneTwice (sym below.reach) c.whole.once;
        current = subst (AreCurrent new) (sym below.reach) c.whole.current;
        blocks = takes_more old new (2 * level + 2 + 0) 17 (omega (arith, low, level_is)) (takes_join old mid new (2 * level + 2) 0 less.blocks gone.blocks);
        balance = omega (arith, less.balance, gone.balance);
        ahead = λ first last between.
            let takes = ahead_is first last between in
            let is = dirty_ahead first last level mid root less.dirty in
            let row_is = ap (row_ahead first last level mid) one in
            let only = sum_by-cons (λ (q : Pointer). nodes_ahead first last level mid q.at) p [] in
            let same = ahead_alike first last level mid new p.at c.alike in
            record { spare = omega (arith, takes.spare, is, row_is, only, same, gone.blocks.spare); free = omega (arith, takes.free, is, row_is, only, same, gone.blocks.free) };
        leaves = omega (arith, (counted_alike level mid new p.at c.alike).leaves, leaves, leaves_is);
        sealed = λ fsid was k.
            let S : Pointer → Type 0 = λ (q : Pointer). IsSealedSubtree level mid (want_of fsid tree.owner level q) in
            let here = All-head S p [] (subst (All S) one (sealed_is fsid was k)) in
            (p.generation, sealed_alike level mid new (want_of fsid tree.owner level p) c.alike here);
      } in
      moved level old new tree (record { root = record { 0 = p.at }; level = level; owner = tree.owner }) result key (sym root_is) at_child

-- the only pointer of a node
pub only_pointer : (pointers : List Pointer) (at generation : ℕ) → 1 ≤ length pointers → length pointers ≤ 1 → slice_get (children_of pointers) 0 ≡ Some (at, generation) → (p : Pointer) × (pointers ≡ p ∷ []) × (at ≡ p.at)
only_pointer [] at generation some few h = absurd (omega (arith, some))
only_pointer (p ∷ []) at generation some few h = (p, refl, sym (address_of p.at p.generation at generation h))
only_pointer (p ∷ q ∷ pointers) at generation some few h = absurd (omega (arith, few))

-- ---- a root that is a leaf

pub root_leaf : (old new : Table) (tree result : Tree) (key : Key) → tree.level ≡ 0 → IsTree old tree → AreCurrent old (tree_reach old tree) → IsSubtree 0 new true result.root.0 → leaf_items new result.root.0 ≡ without_item key (leaf_items old tree.root.0) → IsEdit old new (tree.root.0 ∷ []) (result.root.0 ∷ []) → TakesAtMost old new 1 → AreBalanced old new → (block_at new result.root.0).state ≡ Dirty → IsLessRoot 0 old new tree result key
root_leaf old new tree result key level_is is_tree current shape items edit blocks balance dirty =
    let root = tree.root.0 in
    let reach_is : tree_reach old tree ≡ root ∷ [] = ap (λ (n : ℕ). reach_below n old root) level_is in
    let current_root : AreCurrent old (root ∷ []) = subst (AreCurrent old) reach_is current in
    let was : IsSubtree 0 old true root = subst (λ (n : ℕ). IsSubtree n old true root) level_is is_tree.shape in
    let used : All (λ (a : ℕ). (block_at old a).state ≢ Free) (root ∷ []) = All-cons (λ (a : ℕ). (block_at old a).state ≢ Free) root [] was.0.taken (All-nil (λ (a : ℕ). (block_at old a).state ≢ Free)) in
    let whole : IsWhole old (root ∷ []) = record { once = one_once root; used = used; current = current_root } in
    let c = carry old new (root ∷ []) (result.root.0 ∷ []) [] (root ∷ []) (result.root.0 ∷ []) edit (one_once result.root.0) whole (λ x. refl) (λ x. refl) in
    record {
      low = omega arith;
      shape = shape;
      items = items ∙ ap (λ (n : ℕ). without_item key (items_below n old root)) (sym level_is);
      edit = subst (λ (l : List ℕ). IsEdit old new l (result.root.0 ∷ [])) (sym reach_is) edit;
      once = one_once result.root.0;
      current = c.whole.current;
      blocks = takes_more old new 1 17 (omega arith) blocks;
      balance = balance;
      ahead = λ first last between. record { spare = omega (arith, blocks.spare); free = omega (arith, blocks.free) };
      leaves = omega (arith, ap (λ (n : ℕ). leaves_below n old root) level_is);
      sealed = λ fsid was k. (was, dirty_leaf_sealed new (root_want fsid tree was 0 result.root.0) dirty);
    }
