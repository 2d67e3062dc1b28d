-- A tree on the way, of whose range some items are gone.
use Rattle.std.proofs.Common.{◌≡◌, ◌≤◌, ◌+◌, ◌*◌, ◌∙◌, ℕ, List, length, Some, None, ap, refl, sym, arith}
use Rattle.blk_base.specs.declared.key.Key.{Key}
use Rattle.blk_base.specs.Leaf.{Item}
use Rattle.block_table.specs.declared.tree.Tree.{Tree}
use Rattle.block_table.specs.Table.{Table, free_blocks}
use Rattle.blk_base.specs.Trees.{first_key}
use Rattle.block_table.specs.TreeIn.{IsSealedTree}
use Rattle.tree_range.specs.Between.{items_between}
use Rattle.tree_range.specs.Shape.{IsTree, tree_items, tree_reach}
use Rattle.tree_frame.specs.Frame.{AreCurrent, IsEdit, TakesAtMost, tree_leaves, without_item}
use Rattle.tree_frame.proofs.EditLaws.{edits_join, nothing_is_an_edit}
use Rattle.tree_delete.specs.Ahead.{IsBetween, TakesAhead, tree_ahead}
use Rattle.tree_delete.specs.Balance.{AreBalanced}
use Rattle.tree_delete_range.specs.Outside.{items_outside}
use Rattle.tree_delete_range.proofs.Few.{fourteen_more}
use Rattle.tree_delete_range.proofs.Gone.{first_goes, none_left}

-- how many items of the range a tree has
abbrev pub left_between : Key → Key → Table → Tree → ℕ
left_between first last table tree = length (items_between first last (tree_items table tree))

-- the tree `after` in the table `new` comes of the tree `before` in the table `old`, without some items of the range
pub record IsOnTheWay (first last : Key) (old : Table) (before : Tree) (new : Table) (after : Tree) : Type 0 where
  pub tree : IsTree new after
  pub outside : items_outside first last (tree_items new after) ≡ items_outside first last (tree_items old before)
  pub owner : after.owner ≡ before.owner
  pub edit : IsEdit old new (tree_reach old before) (tree_reach new after)
  pub current : AreCurrent new (tree_reach new after)
  pub spare : old.spare + tree_ahead first last new after + left_between first last new after ≤ new.spare + tree_ahead first last old before + left_between first last old before
  pub free : free_blocks old + tree_ahead first last new after + left_between first last new after ≤ free_blocks new + tree_ahead first last old before + left_between first last old before
  pub balance : AreBalanced old new
  pub leaves : tree_leaves new after ≤ tree_leaves old before
  pub sealed : (fsid : List ℕ) (was : ℕ) → IsSealedTree old before fsid was → (now : ℕ) × IsSealedTree new after fsid now

pub begins : (first last : Key) (table : Table) (tree : Tree) → IsTree table tree → AreCurrent table (tree_reach table tree) → IsOnTheWay first last table tree table tree
begins first last table tree is_tree current = record {
  tree = is_tree;
  outside = refl;
  owner = refl;
  edit = nothing_is_an_edit table (tree_reach table tree);
  current = current;
  spare = omega arith;
  free = omega arith;
  balance = refl;
  leaves = omega arith;
  sealed = λ fsid was h. (was, h);
}

-- what `delete` ensures of the item under a key
pub record IsDeleted (key : Key) (old : Table) (before : Tree) (new : Table) (after : Tree) : Type 0 where
  pub tree : IsTree new after
  pub items : tree_items new after ≡ without_item key (tree_items old before)
  pub owner : after.owner ≡ before.owner
  pub edit : IsEdit old new (tree_reach old before) (tree_reach new after)
  pub current : AreCurrent new (tree_reach new after)
  pub balance : AreBalanced old new
  pub leaves : tree_leaves new after ≤ tree_leaves old before
  pub ahead : (first last : Key) → IsBetween first last key → TakesAhead old new (tree_ahead first last old before) (tree_ahead first last new after)
  pub sealed : (fsid : List ℕ) (was : ℕ) → IsSealedTree old before fsid was → (now : ℕ) × IsSealedTree new after fsid now

-- the key of the range's first item
abbrev pub IsFirstLeft : Key → Key → Table → Tree → Key → Type 0
IsFirstLeft first last table tree key = first_key (items_between first last (tree_items table tree)) ≡ Some key

-- the range has one item less
pub one_less : (first last key : Key) (old : Table) (before : Tree) (new : Table) (after : Tree) → IsTree old before → IsFirstLeft first last old before key → tree_items new after ≡ without_item key (tree_items old before) → left_between first last new after + 1 ≡ left_between first last old before
one_less first last key old before new after is_tree here items =
    ap (λ (l : List Item). length (items_between first last l) + 1) items ∙ (first_goes first last (tree_items old before) key is_tree.order here).fewer

pub goes_on : (first last key : Key) (old : Table) (before : Tree) (mid : Table) (between : Tree) (new : Table) (after : Tree) → IsOnTheWay first last old before mid between → IsFirstLeft first last mid between key → IsDeleted key mid between new after → IsOnTheWay first last old before new after
goes_on first last key old before mid between new after way here deleted =
    let gone = first_goes first last (tree_items mid between) key way.tree.order here in
    let less = one_less first last key mid between new after way.tree here deleted.items in
    let takes : TakesAhead mid new (tree_ahead first last mid between) (tree_ahead first last new after) = deleted.ahead first last gone.between in
    record {
      tree = deleted.tree;
      outside = ap (items_outside first last) deleted.items ∙ gone.outside ∙ way.outside;
      owner = deleted.owner ∙ way.owner;
      edit = edits_join old mid new (tree_reach old before) (tree_reach mid between) (tree_reach new after) way.edit deleted.edit;
      current = deleted.current;
      spare = omega (arith, way.spare, takes.spare, less);
      free = omega (arith, way.free, takes.free, less);
      balance = omega (arith, way.balance, deleted.balance);
      leaves = omega (arith, way.leaves, deleted.leaves);
      sealed = λ fsid was h. let then = way.sealed fsid was h in deleted.sealed fsid then.0 then.1;
    }

-- what is left is enough for a delete, and at the end not more is taken
pub room : (first last : Key) (old : Table) (before : Tree) (new : Table) (after : Tree) → IsTree old before → IsOnTheWay first last old before new after → TakesAtMost old new (2 * left_between first last old before + 14)
room first last old before new after is_tree way =
    let few = fourteen_more old before first last is_tree in
    record { spare = omega (arith, way.spare, few); free = omega (arith, way.free, few) }

pub ends : (first last : Key) (old : Table) (before : Tree) (new : Table) (after : Tree) → IsOnTheWay first last old before new after → first_key (items_between first last (tree_items new after)) ≡ None → tree_items new after ≡ items_outside first last (tree_items old before)
ends first last old before new after way none = sym (none_left first last (tree_items new after) none) ∙ way.outside
