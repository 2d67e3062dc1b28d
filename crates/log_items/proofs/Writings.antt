-- Edits of a log's tree one after the other, beside a subvolume's tree that stays.
use Rattle.std.proofs.Common.{◌≡◌, ◌+◌, ◌++◌, ◌∙◌, ℕ, List, [], ◌∷◌, Bool, not, cond, Contains, length, true, false, nat_eq, ◌-◌, ◌≤◌, refl, sym, ap, subst, inl, inr, arith}
use Rattle.std.proofs.lemmas.List.Elements.{Contains-append_cases}
use Rattle.blk_base.specs.declared.key.Key.{Key}
use Rattle.blk_base.specs.Keys.{key_below}
use Rattle.blk_base.specs.Leaf.{Item}
use Rattle.block_table.specs.declared.tree.Tree.{Tree}
use Rattle.block_table.specs.Table.{Table}
use Rattle.log_edit.specs.Room.{HasRoomFor, room_of_tree, spare_of_tree}
use Rattle.log_edit.proofs.Rooms.{for_fewer, room_moves}
use Rattle.blk_base.specs.Items.{link_mode}
use Rattle.blk_base.specs.Keys.{extent_data, xattr_item}
use Rattle.blk_base.specs.Trees.{ItemsRise}
use Rattle.leaf_view.specs.KeyOrder.{KeyBelow_parts}
use Rattle.leaf_view.proofs.Rising.{key_below_means}
use Rattle.std.proofs.lemmas.Bool.{false_from_ne_true}
use Rattle.tree_frame.specs.Frame.{with_item}
use Rattle.log_items.specs.Inode.{first_at, items_at, last_at, with_attributes, with_items_at, with_target}
use Rattle.log_items.proofs.Copying.{below_itself, with_range_count}
use Rattle.cow_tree.proofs.Items.{with_rise}
use Rattle.blk_base.specs.Items.{InodeValue, inode_bytes}
use Rattle.blk_base.specs.Keys.{inode_item}
use Rattle.volume_image.specs.Subvolume.{make_key}
use Rattle.log_items.specs.Inode.{own_count, with_own_items}
use Rattle.log_items.proofs.Rises.{range_rises}
use Rattle.tree_check.specs.Items.{HaveKeys}
use Rattle.tree_frame.proofs.EditLaws.{edits_join, nothing_is_an_edit}
use Rattle.tree_range.specs.Between.{items_between, items_from}
use Rattle.block_table.specs.TreeIn.{IsSealedTree}
use Rattle.tree_frame.specs.Frame.{AreCurrent, IsEdit}
use Rattle.tree_range.specs.Shape.{IsTree, tree_items, tree_reach}
use Rattle.tree_range.proofs.Local.{tree_alike}
use Rattle.volume_image.proofs.Members.{in_filter}
use Rattle.log_items.specs.Copied.{with_range}
use Rattle.log_items.specs.Writing.{IsWriting, MayWrite}
use Rattle.log_items.proofs.Copying.{kept_alike, kept_apart, kept_stands}

-- what stays is there for the next one
pub may_again : (old new : Table) (before from after : Tree) → MayWrite old before from → IsWriting old before from new after → MayWrite new after from
may_again old new before from after may is = record {
  tree = is.tree;
  current = is.current;
  keys = is.keys;
  stands = kept_stands old before from new after may.stands may.apart is.edit;
  their_keys = subst HaveKeys (sym (tree_alike old new from is.alike).0) may.their_keys;
  apart = kept_apart old before from new after may.stands may.apart is.edit;
}

pub same_items : (old new : Table) (before from after : Tree) → IsWriting old before from new after → tree_items new from ≡ tree_items old from
same_items old new before from after is = (tree_alike old new from is.alike).0

pub both : (old mid new : Table) (before from between_tree after : Tree) → MayWrite old before from → IsWriting old before from mid between_tree → IsWriting mid between_tree from new after → IsWriting old before from new after
both old mid new before from between_tree after may one two =
    let edit = edits_join old mid new (tree_reach old before) (tree_reach mid between_tree) (tree_reach new after) one.edit two.edit in
    record {
      tree = two.tree;
      current = two.current;
      keys = two.keys;
      owner = two.owner ∙ one.owner;
      edit = edit;
      alike = kept_alike old before from new after may.stands may.apart edit;
      sealed = λ fsid number h. let then = one.sealed fsid number h in two.sealed fsid then.0 then.1;
      blocks = two.blocks ∙ one.blocks;
      buffers = two.buffers ∙ one.buffers;
    }

-- an edit of the log's tree alone
pub beside : (old new : Table) (before from after : Tree) → MayWrite old before from → IsTree new after → AreCurrent new (tree_reach new after) → HaveKeys (tree_items new after) → after.owner ≡ before.owner → IsEdit old new (tree_reach old before) (tree_reach new after)
    → ((fsid : List ℕ) (was : ℕ) → IsSealedTree old before fsid was → (now : ℕ) × IsSealedTree new after fsid now) → room_of_tree new after ≡ room_of_tree old before → spare_of_tree new after ≡ spare_of_tree old before → IsWriting old before from new after
beside old new before from after may tree current keys owner edit sealed blocks buffers = record {
  tree = tree;
  current = current;
  keys = keys;
  owner = owner;
  edit = edit;
  alike = kept_alike old before from new after may.stands may.apart edit;
  sealed = sealed;
  blocks = blocks;
  buffers = buffers;
}

pub nothing : (old : Table) (before from : Tree) → MayWrite old before from → IsWriting old before from old before
nothing old before from may = record {
  tree = may.tree;
  current = may.current;
  keys = may.keys;
  owner = refl;
  edit = nothing_is_an_edit old (tree_reach old before);
  alike = kept_alike old before from old before may.stands may.apart (nothing_is_an_edit old (tree_reach old before));
  sealed = λ fsid number h. (number, h);
  blocks = refl;
  buffers = refl;
}

-- ---- keys

pub keys_between : (first last : Key) (items : List Item) → HaveKeys items → HaveKeys (items_between first last items)
keys_between first last items keys = λ key bytes c.
    keys key bytes (in_filter (λ (item : Item). not (key_below item.0 first)) items (key, bytes) (in_filter (λ (item : Item). not (key_below last item.0)) (items_from first items) (key, bytes) c).0).0

pub keys_with_range : (first last : Key) (part items : List Item) → HaveKeys part → HaveKeys items → HaveKeys (with_range first last part items)
keys_with_range first last part items new keys = λ key bytes c.
    let low : Item → Bool = λ item. key_below item.0 first in
    let high : Item → Bool = λ item. key_below last item.0 in
    elim (Contains-append_cases (Rattle.std.proofs.Common.filter low items) (part ++ Rattle.std.proofs.Common.filter high items) (key, bytes) c) [
      | inl front ↦ keys key bytes (in_filter low items (key, bytes) front).0
      | inr more ↦ elim (Contains-append_cases part (Rattle.std.proofs.Common.filter high items) (key, bytes) more) [
        | inl here ↦ new key bytes here
        | inr back ↦ keys key bytes (in_filter high items (key, bytes) back).0
      ]
    ]

-- ---- room

pub room_after : (old new : Table) (before after : Tree) (was is : ℕ) → room_of_tree new after ≡ room_of_tree old before → spare_of_tree new after ≡ spare_of_tree old before → length (tree_items new after) + is ≤ length (tree_items old before) + was
    → HasRoomFor old before was → HasRoomFor new after is
room_after old new before after was is blocks buffers less room =
    let left : ℕ = length (tree_items old before) + was - length (tree_items new after) in
    for_fewer new after is left (omega (arith, less)) (room_moves old new before after was left blocks buffers (omega (arith, less)) room)

pub at_in_order : (ino kind : ℕ) → key_below (last_at ino kind) (first_at ino kind) ≡ false
at_in_order ino kind = false_from_ne_true (key_below (last_at ino kind) (first_at ino kind))
    (λ h. let parts = KeyBelow_parts (last_at ino kind) (first_at ino kind) (key_below_means (last_at ino kind) (first_at ino kind) h) in grind (arith, parts))

pub item_count : (key : Key) (bytes : List ℕ) (items : List Item) → ItemsRise items → length (with_item key bytes items) ≤ length items + 1
item_count key bytes items rise =
    let count = with_range_count key key ((key, bytes) ∷ []) items (below_itself key) rise in
    omega (arith, count)

items_count : (ino kind : ℕ) (current items : List Item) → ItemsRise items → length (with_items_at ino kind current items) ≤ length items + length (items_at ino kind current)
items_count ino kind current items rise =
    let count = with_range_count (first_at ino kind) (last_at ino kind) (items_at ino kind current) items (at_in_order ino kind) rise in
    omega (arith, count)

pub attributes_count : (ino : ℕ) (whole : Bool) (current items : List Item) → ItemsRise items → length (with_attributes ino whole current items) ≤ length items + cond whole (length (items_at ino xattr_item current)) 0
attributes_count ino true current items rise = items_count ino xattr_item current items rise
attributes_count ino false current items rise = omega arith

pub target_count : (ino mode : ℕ) (current items : List Item) → ItemsRise items → length (with_target ino mode current items) ≤ length items + cond (nat_eq mode link_mode) (length (items_at ino extent_data current)) 0
target_count ino mode current items rise = go (nat_eq mode link_mode)
  where
    go : (b : Bool) → length (cond b (with_items_at ino extent_data current items) items) ≤ length items + cond b (length (items_at ino extent_data current)) 0
    go true = items_count ino extent_data current items rise
    go false = omega arith

pub own_items_count : (ino : ℕ) (whole : Bool) (value : InodeValue) (current items : List Item) → ItemsRise current → ItemsRise items → length (with_own_items ino whole value current items) ≤ length items + own_count ino whole value.mode current
own_items_count ino whole value current items theirs rise =
    let one : List Item = with_item (make_key ino inode_item 0) (inode_bytes value) items in
    let one_rises : ItemsRise one = with_rise (make_key ino inode_item 0) (inode_bytes value) items rise in
    let two : List Item = with_attributes ino whole current one in
    let first = item_count (make_key ino inode_item 0) (inode_bytes value) items rise in
    let second = attributes_count ino whole current one one_rises in
    let third = target_count ino value.mode current two (rises whole one one_rises) in
    omega (arith, first, second, third)
  where
    rises : (b : Bool) (one : List Item) → ItemsRise one → ItemsRise (with_attributes ino b current one)
    rises true one h = range_rises (first_at ino xattr_item) (last_at ino xattr_item) current one (at_in_order ino xattr_item) theirs h
    rises false one h = h
