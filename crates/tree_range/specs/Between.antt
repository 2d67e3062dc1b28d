-- Items of a tree by their keys.
use Rattle.std.specs.Prelude.{ℕ, Bool, not, List, [], ◌∷◌, All, Option, Some, None, filter, option_map, if◌then◌else◌}
use Rattle.std.specs.Borrow.{Bor}
use Rattle.std.specs.Ordering.{is_eq}
use Rattle.blk_base.specs.declared.key.Key.{Key}
use Rattle.blk_base.specs.Keys.{KeyBelow, key_below, key_cmp}
use Rattle.blk_base.specs.Leaf.{Item}

abbrev pub has_key : Key → Item → Bool
has_key key item = is_eq (key_cmp item.0 key)

-- the data of the first item under a key (own)
abbrev pub data_under : Key → List Item → Option (List ℕ)
data_under key [] = None
data_under key (item ∷ items) = if has_key key item then Some item.1 else data_under key items

-- the items whose keys aren't below a key, those whose keys aren't above one, and those from one key to another, both
-- included (own)
abbrev pub items_from : Key → List Item → List Item
items_from first items = filter (λ item. not (key_below item.0 first)) items

abbrev pub items_up_to : Key → List Item → List Item
items_up_to last items = filter (λ item. not (key_below last item.0)) items

abbrev pub items_between : Key → Key → List Item → List Item
items_between first last items = items_up_to last (items_from first items)

-- the items from a key on, where there is one (own)
abbrev pub items_from_some : Option Key → List Item → List Item
items_from_some None items = []
items_from_some (Some first) items = items_from first items

-- each key is below this one, and each is above it
abbrev pub AreBelow : Key → List Item → Type 0
AreBelow key items = All (λ (item : Item). KeyBelow item.0 key) items

abbrev pub AreAbove : Key → List Item → Type 0
AreAbove key items = All (λ (item : Item). KeyBelow key item.0) items

-- the key of an item that is lent, and its data
abbrev pub item_view : Key × Bor (List ℕ) → Item
item_view item = (item.0, item.1.now)

abbrev pub data_view : Option (Bor (List ℕ)) → Option (List ℕ)
data_view lent = option_map (λ bytes. bytes.now) lent
