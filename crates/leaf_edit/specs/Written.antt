-- Items whose data are written in place.
use Rattle.std.specs.Prelude.{ℕ, zero, suc, List, [], ◌∷◌, ◌++◌, ◌+◌, length, take, drop}
use Rattle.leaf_view.specs.Listed.{items_in}
use Rattle.leaf_edit.specs.Packed.{place_of}
use Rattle.blk_base.specs.Leaf.{Item}

-- the data of the item at a place; none where there is no item (own)
abbrev pub data_at : List Item → ℕ → List ℕ
data_at [] at = []
data_at (item ∷ items) zero = item.1
data_at (item ∷ items) (suc at) = data_at items at

-- the items with these data for the item at a place (own)
abbrev pub with_data : List Item → ℕ → List ℕ → List Item
with_data [] at content = []
with_data (item ∷ items) zero content = (item.0, content) ∷ items
with_data (item ∷ items) (suc at) content = item ∷ with_data items at content

-- a list with what is written over a part of it: as many as there were, whatever number is written (own)
unfoldable pub with_part : {A : Type 0} → List A → ℕ → ℕ → List A → List A
with_part xs start size ws = take start xs ++ (take size (ws ++ drop (start + length ws) xs) ++ drop size (drop start xs))

-- the bytes of a block whose data are packed, with what is written over the data of the item at a place (own)
abbrev pub with_data_bytes : List ℕ → ℕ → List ℕ → List ℕ
with_data_bytes bytes at content = with_part bytes (101 + place_of (items_in bytes) at) (length (data_at (items_in bytes) at)) content
