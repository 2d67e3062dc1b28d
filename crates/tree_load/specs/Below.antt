-- A walk from one block down, by the last key that was met before it.
use Rattle.std.specs.Prelude.{◌≡◌, ◌++◌, ℕ, List, [], ◌∷◌, length, Bool, true, false, Option, Some, None, Result, Ok, Err}
use Rattle.blk_base.specs.declared.key.Key.{Key}
use Rattle.blk_base.specs.declared.key.Want.{Want}
use Rattle.blk_base.specs.Bytes.{Image}
use Rattle.blk_base.specs.Keys.{key_below}
use Rattle.blk_base.specs.Leaf.{Item, Pointer, leaf_of}
use Rattle.block_table.specs.Table.{Table}
use Rattle.disk_model.specs.Disk.{IfTold}
use Rattle.volume_image.specs.declared.fault.LoadFault.{LoadFault}
use Rattle.volume_image.specs.declared.fault.LoadFault.TheVariants.{Disk, OutOfMemory}
use Rattle.volume_image.specs.Tree.{Walked, ◌>>=◌, at_block, first_key, first_pointer_key, is_full_and_first, is_top, least_items, least_pointers, walk_from}
use Rattle.tree_load.specs.Loaded.{AreTaken, HasBytes, IsLoad}

-- the last key of the items, and this one where there are none (own)
abbrev pub last_key : Option Key → List Item → Option Key
last_key last [] = last
last_key last (item ∷ items) = last_key (Some item.0) items

-- the key is above the last one, where there is one (own)
abbrev pub is_above : Option Key → Key → Bool
is_above None key = true
is_above (Some last) key = key_below last key

-- what was met before ends with this key (own)
abbrev pub EndsWith : Walked → Option Key → Type 0
EndsWith before last = last_key None before.items ≡ last

-- the checks of a block that has passed its own: the least fill, and then the first key (own)
abbrev pub filled : Want → ℕ → ℕ → Option Key → List Item → Option Key → Result (Unit {0}) LoadFault
filled want least count under before first = is_full_and_first want least count under before first (Ok tt)

abbrev pub leaf_filled : Want → Option Key → List Item → List Item → Result (Unit {0}) LoadFault
leaf_filled want under before items = filled want (least_items (is_top under)) (length items) under before (first_key items)

abbrev pub node_filled : Want → Option Key → List Item → List Pointer → Result (Unit {0}) LoadFault
node_filled want under before pointers = filled want (least_pointers (is_top under)) (length pointers) under before (first_pointer_key pointers)

-- a leaf of these bytes passes its checks, and then the walk has this last key (own)
pub record IsLeafMet (want : Want) (bytes : List ℕ) (under last after : Option Key) : Type 0 where
  pub items : List Item
  pub read : leaf_of want bytes ≡ Ok items
  pub last_is : after ≡ last_key last items
  pub full : (before : Walked) → EndsWith before last → leaf_filled want under before.items items ≡ Ok tt

-- a leaf of these bytes has this fault (own)
abbrev pub IsLeafRefused : Want → List ℕ → Option Key → Option Key → LoadFault → Type 0
IsLeafRefused want bytes under last fault = (before : Walked) → EndsWith before last
    → ◌>>=◌ (at_block want.at.0 (leaf_of want bytes)) (leaf_filled want under before.items) ≡ Err fault

-- A walk from this block on meets items at addresses where the table had no block and then has them; `last` is the last key
-- before it, and `after` the last one behind it. So does a walk over any image with these blocks, and that of the disk is one (own).
pub record IsLoadedBelow (seen : Option Image) (old new : Table) (want : Want) (under last after : Option Key) : Type 0 where
  pub items : List Item
  pub reach : List ℕ
  pub load : IsLoad false old new reach
  pub told : IfTold seen (λ image. HasBytes image new reach)
  pub last_is : after ≡ last_key last items
  pub walks : (image : Image) → HasBytes image new reach → (before : Walked) → AreTaken old before.reached → EndsWith before last
      → walk_from want.level image (length old.slots) under want before ≡ Ok (record { items = before.items ++ items; reached = before.reached ++ reach })

-- this is the first fault of a walk from this block on, where it is one of the image (own)
abbrev pub IsFaultBelow : Image → Table → Want → Option Key → Option Key → LoadFault → Type 0
IsFaultBelow image table want under last Disk = Unit {0}
IsFaultBelow image table want under last OutOfMemory = Unit {0}
IsFaultBelow image table want under last fault = (before : Walked) → AreTaken table before.reached → EndsWith before last
    → walk_from want.level image (length table.slots) under want before ≡ Err fault
