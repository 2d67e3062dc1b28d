-- Items of a tree that become those of another tree, from one key to another.
use Rattle.std.specs.Prelude.{◌++◌, ℕ, List, [], filter}
use Rattle.std.specs.Option.{unwrap_or}
use Rattle.blk_base.specs.declared.key.Key.{Key}
use Rattle.blk_base.specs.Keys.{key_below}
use Rattle.blk_base.specs.Leaf.{Item}
use Rattle.tree_range.specs.Between.{data_under, items_up_to}

-- the bytes under a key, none where the items haven't it
abbrev pub bytes_under : Key → List Item → List ℕ
bytes_under key items = unwrap_or (data_under key items) []

-- the items whose keys are behind this one, up to another one, which is included (own)
abbrev pub items_behind : Key → Key → List Item → List Item
items_behind before last items = filter (λ item. key_below before item.0) (items_up_to last items)

-- the items with these in place of those whose keys are from one to another, both included (own)
abbrev pub with_range : Key → Key → List Item → List Item → List Item
with_range first last new items = filter (λ item. key_below item.0 first) items ++ (new ++ filter (λ item. key_below last item.0) items)
