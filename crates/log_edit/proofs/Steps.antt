-- A tree on the way, of whose range some items are gone.
use Rattle.std.proofs.Common.{◌≡◌, ◌≤◌, ◌+◌, ◌∙◌, ℕ, List, length, Some, None, ap, refl, sym, arith}
use Rattle.blk_base.specs.declared.key.Key.{Key}
use Rattle.blk_base.specs.Leaf.{Item}
use Rattle.block_table.specs.declared.tree.Tree.{Tree}
use Rattle.block_table.specs.Table.{Table}
use Rattle.blk_base.specs.Trees.{first_key}
use Rattle.block_table.specs.TreeIn.{IsSealedTree}
use Rattle.tree_range.specs.Between.{items_between}
use Rattle.tree_range.specs.Shape.{IsTree, tree_items, tree_reach}
use Rattle.tree_frame.specs.Frame.{AreCurrent, IsEdit, without_item}
use Rattle.tree_frame.proofs.EditLaws.{edits_join, nothing_is_an_edit}
use Rattle.tree_delete_range.specs.Outside.{items_outside}
use Rattle.log_edit.specs.Room.{HasRoomFor, count_between, room_of_tree, spare_of_tree}
use Rattle.log_edit.proofs.Items.{between_or_outside, delete_count, first_goes, first_is_there, none_between}
use Rattle.log_edit.proofs.Rooms.{room_moves}

-- the tree `after` in the table `new` comes of the tree `before` in the table `old`, without some items of the range
pub record IsOnTheWay (first last : Key) (old : Table) (before : Tree) (new : Table) (after : Tree) : Type 0 where
  pub tree : IsTree new after
  pub outside : items_outside first last (tree_items new after) ≡ items_outside first last (tree_items old before)
  pub owner : after.owner ≡ before.owner
  pub edit : IsEdit old new (tree_reach old before) (tree_reach new after)
  pub current : AreCurrent new (tree_reach new after)
  pub fewer : length (tree_items new after) ≤ length (tree_items old before)
  pub blocks : room_of_tree new after ≡ room_of_tree old before
  pub buffers : spare_of_tree new after ≡ spare_of_tree old before
  pub sealed : (fsid : List ℕ) (was : ℕ) → IsSealedTree old before fsid was → (now : ℕ) × IsSealedTree new after fsid now

-- what `delete_item` ensures of the item under a key
pub record IsDeleted (key : Key) (old : Table) (before : Tree) (new : Table) (after : Tree) : Type 0 where
  pub tree : IsTree new after
  pub items : tree_items new after ≡ without_item key (tree_items old before)
  pub owner : after.owner ≡ before.owner
  pub edit : IsEdit old new (tree_reach old before) (tree_reach new after)
  pub current : AreCurrent new (tree_reach new after)
  pub blocks : room_of_tree new after ≡ room_of_tree old before
  pub buffers : spare_of_tree new after ≡ spare_of_tree old before
  pub sealed : (fsid : List ℕ) (was : ℕ) → IsSealedTree old before fsid was → (now : ℕ) × IsSealedTree new after fsid now

-- the key of the range's first item
abbrev pub IsFirstLeft : Key → Key → Table → Tree → Key → Type 0
IsFirstLeft first last table tree key = first_key (items_between first last (tree_items table tree)) ≡ Some key

pub begins : (first last : Key) (table : Table) (tree : Tree) → IsTree table tree → AreCurrent table (tree_reach table tree) → IsOnTheWay first last table tree table tree
begins first last table tree is_tree current = record {
  tree = is_tree;
  outside = refl;
  owner = refl;
  edit = nothing_is_an_edit table (tree_reach table tree);
  current = current;
  fewer = omega arith;
  blocks = refl;
  buffers = refl;
  sealed = λ fsid was h. (was, h);
}

one_item_less : (first last key : Key) (old : Table) (before : Tree) (new : Table) (after : Tree) → IsTree old before → IsFirstLeft first last old before key → tree_items new after ≡ without_item key (tree_items old before) → length (tree_items new after) + 1 ≡ length (tree_items old before)
one_item_less first last key old before new after is_tree here items =
    ap (λ (l : List Item). length l + 1) items ∙ delete_count key (tree_items old before) is_tree.order (first_is_there first last (tree_items old before) key here)

-- the range has one item less
pub one_less : (first last key : Key) (old : Table) (before : Tree) (new : Table) (after : Tree) → IsTree old before → IsFirstLeft first last old before key → tree_items new after ≡ without_item key (tree_items old before) → count_between first last new after + 1 ≡ count_between first last old before
one_less first last key old before new after is_tree here items =
    let was = tree_items old before in
    let is = tree_items new after in
    let same : items_outside first last is ≡ items_outside first last was = ap (items_outside first last) items ∙ first_goes first last was key is_tree.order here in
    omega (arith, one_item_less first last key old before new after is_tree here items, ap (λ (l : List Item). length l) same, between_or_outside first last was, between_or_outside first last is)

pub goes_on : (first last key : Key) (old : Table) (before : Tree) (mid : Table) (between : Tree) (new : Table) (after : Tree) → IsOnTheWay first last old before mid between → IsFirstLeft first last mid between key → IsDeleted key mid between new after → IsOnTheWay first last old before new after
goes_on first last key old before mid between new after way here deleted = record {
  tree = deleted.tree;
  outside = ap (items_outside first last) deleted.items ∙ first_goes first last (tree_items mid between) key way.tree.order here ∙ way.outside;
  owner = deleted.owner ∙ way.owner;
  edit = edits_join old mid new (tree_reach old before) (tree_reach mid between) (tree_reach new after) way.edit deleted.edit;
  current = deleted.current;
  fewer = omega (arith, way.fewer, one_item_less first last key mid between new after way.tree here deleted.items);
  blocks = deleted.blocks ∙ way.blocks;
  buffers = deleted.buffers ∙ way.buffers;
  sealed = λ fsid was h. let then = way.sealed fsid was h in deleted.sealed fsid then.0 then.1;
}

-- there is still room for what the tree is
pub room_left : (first last : Key) (old : Table) (before : Tree) (new : Table) (after : Tree) → IsOnTheWay first last old before new after → HasRoomFor old before 0 → HasRoomFor new after 0
room_left first last old before new after way room = record { blocks = omega (arith, way.blocks, way.fewer, room.blocks); buffers = omega (arith, way.buffers, way.fewer, room.buffers) }

pub ends : (first last : Key) (old : Table) (before : Tree) (new : Table) (after : Tree) → IsOnTheWay first last old before new after → first_key (items_between first last (tree_items new after)) ≡ None → tree_items new after ≡ items_outside first last (tree_items old before)
ends first last old before new after way none = sym (none_between first last (tree_items new after) none) ∙ way.outside

-- and at the end there is room for those that are gone
pub room_at_end : (first last : Key) (old : Table) (before : Tree) (new : Table) (after : Tree) → IsOnTheWay first last old before new after → first_key (items_between first last (tree_items new after)) ≡ None → (more : ℕ) → HasRoomFor old before more → HasRoomFor new after (more + count_between first last old before)
room_at_end first last old before new after way none more room =
    let items = ap (λ (l : List Item). length l) (ends first last old before new after way none) in
    room_moves old new before after more (more + count_between first last old before) way.blocks way.buffers (omega (arith, items, between_or_outside first last (tree_items old before))) room
