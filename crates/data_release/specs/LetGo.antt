-- Data blocks that are let go one behind the other.
use Rattle.std.specs.Prelude.{ℕ, List, All, filter}
use Rattle.std.specs.List.{flat_map}
use Rattle.blk_base.specs.declared.key.Key.{Key}
use Rattle.blk_base.specs.Keys.{key_below}
use Rattle.blk_base.specs.Leaf.{Item}
use Rattle.volume_image.specs.Subvolume.{item_addresses}
use Rattle.blk_base.specs.Trees.{NoneTwice}
use Rattle.block_table.specs.Table.{Table}
use Rattle.block_table.specs.TreeIn.{IsTaken}
use Rattle.tree_range.specs.Shape.{AreAlike}
use Rattle.tree_frame.specs.Frame.{AreCurrent, IsEdit, TakesAtMost}

-- Of some blocks these are left, and the others were let go: those that are left are taken, current, stand as they
-- stood, and none twice; nothing was taken (own).
pub record AreLeft (old now : Table) (whole rest : List ℕ) : Type 0 where
  pub edit : IsEdit old now whole rest
  pub taken : All (IsTaken now) rest
  pub current : AreCurrent now rest
  pub once : NoneTwice rest
  pub alike : AreAlike old now rest
  pub takes : TakesAtMost old now 0

-- the items in front of a key, and behind one
abbrev pub in_front : Key → List Item → List Item
in_front first items = filter (λ item. key_below item.0 first) items

abbrev pub behind : Key → List Item → List Item
behind last items = filter (λ item. key_below last item.0) items

-- the data blocks to which items lead
abbrev pub files : List Item → List ℕ
files items = flat_map item_addresses items
