-- Items of a tree whose keys aren't in a range.
use Rattle.std.specs.Prelude.{◌||◌, List, filter}
use Rattle.blk_base.specs.declared.key.Key.{Key}
use Rattle.blk_base.specs.Keys.{key_below}
use Rattle.blk_base.specs.Leaf.{Item}

-- the items whose keys aren't in the range (own)
abbrev pub items_outside : Key → Key → List Item → List Item
items_outside first last items = filter (λ item. key_below item.0 first || key_below last item.0) items
