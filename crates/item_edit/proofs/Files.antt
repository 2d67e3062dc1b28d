-- An edit of an item that is no extent leaves the data blocks to which the items lead as they were; and what an edit of one item
-- leaves under other keys.
use Rattle.std.proofs.Common.{◌≡◌, ◌≢◌, ◌∙◌, ℕ, false, List, [], ◌∷◌, ◌++◌, Option, Some, None, refl, sym, ap, append_assoc}
use Rattle.std.specs.Prelude.{filter}
use Rattle.std.specs.List.{flat_map}
use Rattle.std.proofs.lemmas.Bool.{ne_eqb}
use Rattle.std.proofs.lemmas.Grind.{flat_map-append}
use Rattle.std.proofs.lemmas.List.Elements.{All-weaker}
use Rattle.blk_base.specs.declared.key.Key.{Key}
use Rattle.blk_base.specs.Keys.{KeyBelow, extent_data, key_below}
use Rattle.blk_base.specs.Leaf.{Item}
use Rattle.blk_base.specs.Trees.{ItemsRise}
use Rattle.block_table.specs.declared.tree.Tree.{Tree}
use Rattle.block_table.specs.Table.{Table}
use Rattle.leaf_view.specs.KeyOrder.{KeyBelow_trans}
use Rattle.leaf_view.proofs.Rising.{key_below_from}
use Rattle.tree_range.specs.Between.{AreAbove, data_under}
use Rattle.tree_range.specs.Shape.{IsTree, tree_items}
use Rattle.tree_range.proofs.Rise.{rise_head, rise_tail}
use Rattle.tree_range.proofs.Under.{filter_none, not_below}
use Rattle.tree_frame.specs.Frame.{with_item, without_item}
use Rattle.volume_image.specs.Subvolume.{data_addresses, item_addresses}
use Rattle.table_volume.specs.Gives.{tree_data}
use Rattle.table_volume.proofs.Items.{Lower, Same, Side, Upper, not_both, not_itself, side, with_here, with_other, without_here, without_other}
use Rattle.item_edit.specs.ItemEdit.{IsItemEdit, changed_item}

no_addresses : (item : Item) → item.0.kind ≢ extent_data → item_addresses item ≡ []
no_addresses item other = rw (ne_eqb item.0.kind extent_data other) refl

abbrev low : Key → List Item → List Item
low key items = filter (λ item. key_below item.0 key) items

abbrev high : Key → List Item → List Item
high key items = filter (λ item. key_below key item.0) items

abbrev files : List Item → List ℕ
files items = flat_map item_addresses items

-- one item more in front of those by their parts
parted_by : (key : Key) (x : Item) (xs : List Item) → key.kind ≢ extent_data → ItemsRise (x ∷ xs) → files xs ≡ files (low key xs) ++ files (high key xs) → Side x.0 key → files (x ∷ xs) ≡ files (low key (x ∷ xs)) ++ files (high key (x ∷ xs))
parted_by key x xs other rise rest (Lower h) =
    rw (key_below_from x.0 key h, not_both x.0 key h) (ap (λ (l : List ℕ). item_addresses x ++ l) rest ∙ sym (append_assoc (item_addresses x) (files (low key xs)) (files (high key xs))))
parted_by key x xs other rise rest (Same h) =
    let kind : x.0.kind ≢ extent_data = λ e. other (sym (ap (λ (k : Key). k.kind) h) ∙ e) in
    let mine : key_below x.0 key ≡ false = ap (λ (k : Key). key_below k key) h ∙ not_itself key in
    let its : key_below key x.0 ≡ false = ap (λ (k : Key). key_below key k) h ∙ not_itself key in
    rw (mine, its) (ap (λ (l : List ℕ). l ++ files xs) (no_addresses x kind) ∙ rest)
parted_by key x xs other rise rest (Upper h) =
    let above : AreAbove key xs = All-weaker (λ (item : Item). KeyBelow x.0 item.0) (λ (item : Item). KeyBelow key item.0) (λ item k. KeyBelow_trans key x.0 item.0 h k) xs (rise_head x xs rise) in
    let none : low key xs ≡ [] = filter_none (λ (item : Item). key_below item.0 key) xs (not_below key xs above) in
    rw (key_below_from key x.0 h, not_both key x.0 h, none) (ap (λ (l : List ℕ). item_addresses x ++ l) (rest ∙ ap (λ (l : List Item). files l ++ files (high key xs)) none))

-- the data blocks by the parts in front of a key and behind it
parted : (key : Key) (items : List Item) → key.kind ≢ extent_data → ItemsRise items → files items ≡ files (low key items) ++ files (high key items)
parted key [] other rise = refl
parted key (x ∷ xs) other rise =
    parted_by key x xs other rise (parted key xs other (rise_tail x xs rise)) (side x.0 key)

same_with : (key : Key) (bytes : List ℕ) (items : List Item) → key.kind ≢ extent_data → ItemsRise items → data_addresses (with_item key bytes items) ≡ data_addresses items
same_with key bytes items other rise =
    flat_map-append item_addresses (low key items) ((key, bytes) ∷ high key items) ∙ ap (λ (l : List ℕ). files (low key items) ++ (l ++ files (high key items))) (no_addresses (key, bytes) other) ∙ sym (parted key items other rise)

same_without : (key : Key) (items : List Item) → key.kind ≢ extent_data → ItemsRise items → data_addresses (without_item key items) ≡ data_addresses items
same_without key items other rise =
    flat_map-append item_addresses (low key items) (high key items) ∙ sym (parted key items other rise)

same_changed : (key : Key) (now : Option (List ℕ)) (items : List Item) → key.kind ≢ extent_data → ItemsRise items → data_addresses (changed_item key now items) ≡ data_addresses items
same_changed key None items other rise = same_without key items other rise
same_changed key (Some bytes) items other rise = same_with key bytes items other rise

pub same_files : (old new : Table) (before after : Tree) (key : Key) (now : Option (List ℕ)) → IsTree old before → IsItemEdit old new before after key now → key.kind ≢ extent_data → tree_data new after ≡ tree_data old before
same_files old new before after key now tree edit other =
    ap (λ (items : List Item). data_addresses items) edit.items ∙ same_changed key now (tree_items old before) other tree.order

-- ---- key by key

changed_here : (key : Key) (now : Option (List ℕ)) (items : List Item) → data_under key (changed_item key now items) ≡ now
changed_here key None items = without_here key items
changed_here key (Some bytes) items = with_here key bytes items

changed_other : (key other : Key) (now : Option (List ℕ)) (items : List Item) → other ≢ key → data_under other (changed_item key now items) ≡ data_under other items
changed_other key other None items ne = without_other key other items ne
changed_other key other (Some bytes) items ne = with_other key other bytes items ne

pub now_here : (old new : Table) (before after : Tree) (key : Key) (now : Option (List ℕ)) → IsItemEdit old new before after key now → data_under key (tree_items new after) ≡ now
now_here old new before after key now edit =
    ap (data_under key) edit.items ∙ changed_here key now (tree_items old before)

pub now_other : (old new : Table) (before after : Tree) (key other : Key) (now : Option (List ℕ)) → IsItemEdit old new before after key now → other ≢ key → data_under other (tree_items new after) ≡ data_under other (tree_items old before)
now_other old new before after key other now edit ne =
    ap (data_under other) edit.items ∙ changed_other key other now (tree_items old before) ne
