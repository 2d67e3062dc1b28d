-- An edit of one item, from what a tree's own edits leave.
use Rattle.std.proofs.Common.{◌≡◌, ℕ, List, [], Option, Some, None, refl, sym, ap, subst, inl, inr}
use Rattle.std.specs.Prelude.{Contains, filter}
use Rattle.std.specs.Option.{unwrap_or}
use Rattle.std.proofs.lemmas.List.Elements.{Contains-append_cases}
use Rattle.blk_base.specs.declared.key.Key.{Key}
use Rattle.blk_base.specs.Keys.{key_below}
use Rattle.blk_base.specs.Leaf.{Item}
use Rattle.block_table.specs.declared.tree.Tree.{Tree}
use Rattle.block_table.specs.Table.{Table}
use Rattle.block_table.specs.TreeIn.{IsSealedTree}
use Rattle.tree_range.specs.Between.{data_under}
use Rattle.tree_range.specs.Shape.{IsTree, tree_items, tree_reach}
use Rattle.tree_frame.specs.Frame.{AreCurrent, IsEdit, TakesAtMost, with_item, without_item}
use Rattle.volume_image.proofs.Members.{in_filter}
use Rattle.table_volume.specs.Edited.{BearGeneration}
use Rattle.table_volume.proofs.Items.{fewer_bear, put_bears}
use Rattle.item_edit.specs.ItemEdit.{BearsUnder, IsItemEdit, bytes_under}

-- what each edit of a tree leaves
pub record IsStep (old new : Table) (before after : Tree) : Type 0 where
  pub tree : IsTree new after
  pub owner : after.owner ≡ before.owner
  pub edit : IsEdit old new (tree_reach old before) (tree_reach new after)
  pub current : AreCurrent new (tree_reach new after)
  pub sealed : (fsid : List ℕ) (was : ℕ) → IsSealedTree old before fsid was → (now : ℕ) × IsSealedTree new after fsid now
  pub taken : TakesAtMost old new 17

pub put_done : (old new : Table) (before after : Tree) (key : Key) (bytes : List ℕ) → IsStep old new before after → tree_items new after ≡ with_item key bytes (tree_items old before) → IsItemEdit old new before after key (Some bytes)
put_done old new before after key bytes step items = record {
  tree = step.tree;
  current = step.current;
  items = items;
  taken = step.taken;
  edit = λ running bears.
      let b : BearsUnder running (tree_items old before) key bytes = bears bytes refl in
      record {
        tree = step.tree;
        owner = step.owner;
        edit = step.edit;
        current = step.current;
        sealed = step.sealed;
        bear = subst (λ (now : List Item). BearGeneration running (tree_items old before) now) (sym items) (put_bears running (tree_items old before) key bytes b.inode b.entries b.extent);
        taken = step.taken;
      };
}

in_without : (key : Key) (items : List Item) (item : Item) → Contains (without_item key items) item → Contains items item
in_without key items item there = elim (Contains-append_cases (filter (λ (i : Item). key_below i.0 key) items) (filter (λ (i : Item). key_below key i.0) items) item there) [
  | inl low ↦ (in_filter (λ (i : Item). key_below i.0 key) items item low).0
  | inr high ↦ (in_filter (λ (i : Item). key_below key i.0) items item high).0
]

pub gone_done : (old new : Table) (before after : Tree) (key : Key) → IsStep old new before after → tree_items new after ≡ without_item key (tree_items old before) → IsItemEdit old new before after key None
gone_done old new before after key step items = record {
  tree = step.tree;
  current = step.current;
  items = items;
  taken = step.taken;
  edit = λ running bears. record {
    tree = step.tree;
    owner = step.owner;
    edit = step.edit;
    current = step.current;
    sealed = step.sealed;
    bear = subst (λ (now : List Item). BearGeneration running (tree_items old before) now) (sym items) (fewer_bear running (tree_items old before) (without_item key (tree_items old before)) (λ item there. in_without key (tree_items old before) item there));
    taken = step.taken;
  };
}

-- the bytes under a key that has some, and under one that has none
pub bytes_there : (key : Key) (items : List Item) (bytes : List ℕ) → Some bytes ≡ data_under key items → bytes ≡ bytes_under key items
bytes_there key items bytes is = ap (λ (o : Option (List ℕ)). unwrap_or o []) is

pub no_bytes : (key : Key) (items : List Item) → None ≡ data_under key items → [] ≡ bytes_under key items
no_bytes key items is = ap (λ (o : Option (List ℕ)). unwrap_or o []) is
