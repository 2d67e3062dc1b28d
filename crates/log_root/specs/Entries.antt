-- Root items of logs under their keys.
use Rattle.std.specs.Prelude.{◌<◌, ◌^◌, ℕ, List, [], ◌∷◌, All, map}
use Rattle.blk_base.specs.declared.format.TheConstants.{ROOT_ITEM, TREE_LOG}
use Rattle.blk_base.specs.declared.key.Key.{Key}
use Rattle.blk_base.specs.declared.key.SubId.{SubId}
use Rattle.blk_base.specs.Items.{root_bytes}
use Rattle.blk_base.specs.Leaf.{Item}
use Rattle.tree_range.specs.Between.{items_between}
use Rattle.volume_format.specs.declared.root_item.RootItem.{RootItem}
use Rattle.volume_format.specs.Views.{root_view}

-- the key of the root item of a subvolume's log ("ROOT_ITEM")
abbrev pub log_key : ℕ → Key
log_key id = record { objectid = TREE_LOG; kind = ROOT_ITEM; offset = id }

-- the item of a log's root
abbrev pub log_entry : SubId × RootItem → Item
log_entry sub = (log_key sub.0.0, root_bytes (root_view sub.1))

abbrev pub log_entries : List (SubId × RootItem) → List Item
log_entries subs = map log_entry subs

-- each subvolume's id is below the next
abbrev pub IdsRise : List (SubId × RootItem) → Type 0
IdsRise [] = Unit {0}
IdsRise (sub ∷ []) = Unit {0}
IdsRise (sub ∷ next ∷ subs) = (sub.0.0 < next.0.0) × IdsRise (next ∷ subs)

-- the ids, each of 64 bits as every id is in code
abbrev pub ids_of : List (SubId × RootItem) → List SubId
ids_of subs = map (λ (sub : SubId × RootItem). sub.0) subs

abbrev pub HasId : SubId × RootItem → Type 0
HasId sub = sub.0.0 < 2 ^ 64

abbrev pub AreIds : List (SubId × RootItem) → Type 0
AreIds subs = All HasId subs

-- the items of a tree that stand under such keys, and the ids of the subvolumes that these name
abbrev pub log_roots : List Item → List Item
log_roots items = items_between (log_key 0) (log_key 18446744073709551615) items

abbrev pub log_subs : List Item → List SubId
log_subs items = map (λ (item : Item). record { 0 = item.0.offset }) (log_roots items)
