-- The subvolumes of a volume, by the root items in its root tree.
use Rattle.std.specs.Prelude.{◌≡◌, ℕ, ◌-◌, ◌^◌, ◌==◌, Bool, ◌&&◌, ◌||◌, nat_le, nat_lt, List, [], ◌∷◌, fold, Option, Some, None, Result, Ok, Err, if◌then◌else◌}
use Rattle.blk_base.specs.declared.fault.ItemFault.{ItemFault}
use Rattle.foreign_format.specs.declared.fault.ForeignFault.{ForeignFault}
use Rattle.foreign_format.specs.declared.fault.ForeignFault.TheVariants.{Item}
use Rattle.foreign_format.specs.declared.root.Root.{Root}
use Rattle.foreign_format.specs.declared.superblock.Superblock.{Superblock}
use Rattle.foreign_format.specs.Answer.{and_then}
use Rattle.foreign_format.specs.Items.{root_of}
use Rattle.foreign_tree.specs.declared.volume.Wanted.{Wanted}
use Rattle.foreign_tree.specs.Tree.{Found, IsTree, VolumeValue, tree_of}
use Rattle.foreign_volume.specs.declared.roots.Subvolume.{Subvolume}

-- an item's own fault, by its leaf and its key
abbrev pub at_item : {A : Type 0} → Found → Result A ItemFault → Result A ForeignFault
at_item found (Ok value) = Ok value
at_item found (Err fault) = Err (Item found.leaf found.key fault)

-- the root tree's root ("Superblock": root, generation, root_level)
abbrev pub top_root : Superblock → Wanted
top_root superblock = record { at = superblock.root; generation = Some superblock.generation; level = superblock.root_level }

-- a subvolume has this number: 5, or 256 to 2^64 - 256 ("Object IDs")
abbrev pub is_sub_id : ℕ → Bool
is_sub_id id = (id == 5) || (nat_le 256 id && nat_le id (2 ^ 64 - 256))

-- the item is the root item of a subvolume ("ROOT_ITEM")
abbrev pub is_sub_root : Found → Bool
is_sub_root found = (found.key.kind == 132) && is_sub_id found.key.objectid

-- a subvolume among others in ascending order; of two of one number the one with the greater key counts, of equal keys the later (own)
unfoldable pub put_sub : Subvolume → List Subvolume → List Subvolume
put_sub sub [] = sub ∷ []
put_sub sub (other ∷ subs) =
    if nat_lt sub.id other.id then sub ∷ other ∷ subs else
    if sub.id == other.id then (if nat_lt sub.root.offset other.root.offset then other ∷ subs else sub ∷ subs) else
    other ∷ put_sub sub subs

-- the subvolumes with that of a root item to which something refers
abbrev pub with_root : ℕ → List Subvolume → Root → List Subvolume
with_root id subs root = if root.refs == 0 then subs else put_sub (record { id = id; root = root }) subs

-- the subvolumes with that of an item, or the first fault
abbrev pub with_root_item : Result (List Subvolume) ForeignFault → Found → Result (List Subvolume) ForeignFault
with_root_item before found =
    and_then before (λ subs. if is_sub_root found then and_then (at_item found (root_of found.key.offset found.content)) (λ root. Ok (with_root found.key.objectid subs root)) else Ok subs)

-- the subvolumes of the root tree's items in ascending order, or the first item's fault
abbrev pub subs_of : List Found → Result (List Subvolume) ForeignFault
subs_of items = fold with_root_item (Ok []) items

-- the subvolumes are those of the root items in the volume's root tree, none of which has a fault
pub record AreSubvolumes (disk : List ℕ) (volume : VolumeValue) (superblock : Superblock) (subs : List Subvolume) : Type 0 where
  pub items : List Found
  pub reach : List ℕ
  pub tree : IsTree volume disk (top_root superblock) items reach
  pub are : subs_of items ≡ Ok subs

-- the subvolumes of a volume with this superblock in ascending order, or the first fault: of the root tree, then of an item in it
unfoldable pub subvolumes_of : List ℕ → VolumeValue → Superblock → Result (List Subvolume) ForeignFault
subvolumes_of disk volume superblock = and_then (tree_of volume disk (top_root superblock)) (λ walked. subs_of walked.items)

-- the subvolumes so far, or the fault
abbrev pub found_so_far : Option ForeignFault → List Subvolume → Result (List Subvolume) ForeignFault
found_so_far None subs = Ok subs
found_so_far (Some fault) subs = Err fault
