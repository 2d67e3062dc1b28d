-- A walk over the blocks of a table shows that a tree stands in it.
use Rattle.std.proofs.Common.{◌≡◌, ◌≢◌, ◌/◌, ◌++◌, ℕ, zero, suc, Bool, true, false, List, [], ◌∷◌, length, map, Contains, Option, Some, None, Result, Ok, refl, sym, ap, subst, ◌∙◌}
use Rattle.std.specs.Prelude.{All}
use Rattle.std.proofs.Math.ListN.{get_or-map}
use Rattle.std.proofs.lemmas.List.{append_cancel_left}
use Rattle.std.proofs.lemmas.List.Elements.{All-nil, All-cons, Contains-append_left, Contains-append_right}
use Rattle.blk_base.specs.declared.key.Key.{Key}
use Rattle.blk_base.specs.declared.key.Want.{Want}
use Rattle.blk_base.specs.Bytes.{Image}
use Rattle.blk_base.specs.Leaf.{Item, Pointer, IsLeaf, IsNode}
use Rattle.block_table.specs.declared.state.SlotState.TheVariants.{Free}
use Rattle.block_table.specs.Slot.{BlockSlot, free_slot}
use Rattle.block_table.specs.Table.{Table}
use Rattle.blk_base.specs.Trees.{AreChildren, ItemsRise, NoneTwice, child_want, first_key}
use Rattle.block_table.specs.TreeIn.{IsSealedSubtree, IsSealedTree, IsSubtreeIn, IsTreeIn, block_at}
use Rattle.disk_model.specs.Disk.{IfTold}
use Rattle.format_laws.specs.Blocks.{IsNodeBody-same}
use Rattle.tree_range.specs.Shape.{IsTree, tree_items, tree_reach}
use Rattle.tree_range.proofs.Law.{tree_to}
use Rattle.volume_image.specs.declared.fault.LoadFault.{LoadFault}
use Rattle.volume_image.specs.declared.fault.LoadFault.TheVariants.{Block, Outside, Twice, Level, Thin, Disk, OutOfMemory}
use Rattle.volume_image.specs.Tree as of_image
use Rattle.volume_image.specs.Tree.{Walked, HasWalked, block_of, nothing_walked, tree_of, walk_from}
use Rattle.volume_image.proofs.Walk.{walked_lem}
use Rattle.volume_image.proofs.Reaches.{head_in, tail_in}
use Rattle.tree_load.specs.Loaded.{HasBytes, IsLoad, IsWalkAfter, IsWalkFault, taken_of, tree_wanted}
use Rattle.tree_load.specs.Below.{IsFaultBelow, IsLoadedBelow}
use Rattle.tree_load.proofs.Loading.{told_from}
use Rattle.tree_load.proofs.Tables.{live_not_free, live_state}
use Rattle.tree_load.proofs.Taken.{block_aligned, taken_are, used_inside}

-- ---- the blocks of a table as an image

abbrev pub image_of : Table → Image
image_of table = map (λ (slot : BlockSlot). slot.bytes) table.slots

pub bytes_in : (table : Table) (at : ℕ) → (block_at table at).state ≢ Free → block_of (image_of table) at ≡ (block_at table at).bytes
bytes_in table at used =
    get_or-map (λ (slot : BlockSlot). slot.bytes) table.slots (at / 4096) free_slot ∙ ap (λ (slot : BlockSlot). slot.bytes) (sym (block_aligned table at (used_inside table at used).whole))

-- ---- from the image's tree to the table's

-- the image has each of these blocks of the table, none of which is Free
pub record AreThere (image : Image) (table : Table) (reach : List ℕ) : Type 0 where
  pub used : (at : ℕ) → Contains reach at → (block_at table at).state ≢ Free
  pub has : HasBytes image table reach

there_left : (image : Image) (table : Table) (near far : List ℕ) → AreThere image table (near ++ far) → AreThere image table near
there_left image table near far there = record { used = λ at c. there.used at (Contains-append_left near far at c); has = λ at c. there.has at (Contains-append_left near far at c) }

there_right : (image : Image) (table : Table) (near far : List ℕ) → AreThere image table (near ++ far) → AreThere image table far
there_right image table near far there = record { used = λ at c. there.used at (Contains-append_right near far at c); has = λ at c. there.has at (Contains-append_right near far at c) }

first_same : (items : List Item) → of_image.first_key items ≡ first_key items
first_same [] = refl
first_same (item ∷ items) = refl

abbrev ChildOn : ℕ → Image → Table → Want → Pointer → List Item → List ℕ → Type 0
ChildOn level image table want pointer part near =
    of_image.IsSubtree level image (length table.slots) false (of_image.child_want want pointer level) part near × (of_image.first_key part ≡ Some pointer.key)

abbrev ChildIn : ℕ → Table → Pointer → List Item → List ℕ → Type 0
ChildIn level table pointer part near = IsSubtreeIn level table false pointer.at part near × (first_key part ≡ Some pointer.key)

abbrev Seals : ℕ → Table → Want → Pointer → Type 0
Seals level table want pointer = IsSealedSubtree level table (child_want want pointer level)

children_in : (level : ℕ) (image : Image) (table : Table) (want : Want)
    → ((pointer : Pointer) (part : List Item) (near : List ℕ) → ChildOn level image table want pointer part near → AreThere image table near → ChildIn level table pointer part near × Seals level table want pointer)
    → (pointers : List Pointer) (items : List Item) (reach : List ℕ) → of_image.AreChildren (ChildOn level image table want) pointers items reach → AreThere image table reach
    → AreChildren (ChildIn level table) pointers items reach × All (Seals level table want) pointers
children_in level image table want each [] items reach on there = (on, All-nil (Seals level table want))
children_in level image table want each (pointer ∷ pointers) items reach (part, rest, near, far, here, others, is_items, is_reach) there =
    let split = subst (AreThere image table) is_reach there in
    let one = each pointer part near here (there_left image table near far split) in
    let more = children_in level image table want each pointers rest far others (there_right image table near far split) in
    ((part, rest, near, far, one.0, more.0, is_items, is_reach), All-cons (Seals level table want) pointer pointers one.1 more.1)

pub subtree_in : (level : ℕ) (image : Image) (table : Table) (is_root : Bool) (want : Want) (items : List Item) (reach : List ℕ) → of_image.IsSubtree level image (length table.slots) is_root want items reach → AreThere image table reach
    → IsSubtreeIn level table is_root want.at.0 items reach × IsSealedSubtree level table want
subtree_in zero image table is_root want items reach (allowed, leaf, least, is_reach) there =
    let here = subst (λ (r : List ℕ). Contains r want.at.0) (sym is_reach) (head_in want.at.0 []) in
    let bytes = subst (λ (b : List ℕ). IsLeaf want b items) (there.has want.at.0 here) leaf in
    ((record { allowed = allowed; taken = there.used want.at.0 here }, bytes.body, least, is_reach), λ dirty. bytes.header)
subtree_in (suc level) image table is_root want items reach (pointers, below, allowed, node, least, children, is_reach) there =
    let split = subst (AreThere image table) is_reach there in
    let here = head_in want.at.0 below in
    let bytes = subst (λ (b : List ℕ). IsNode want b pointers) (split.has want.at.0 here) node in
    let tail : AreThere image table below = record { used = λ at c. split.used at (tail_in want.at.0 at below c); has = λ at c. split.has at (tail_in want.at.0 at below c) } in
    let each : (pointer : Pointer) (part : List Item) (near : List ℕ) → ChildOn level image table want pointer part near → AreThere image table near → ChildIn level table pointer part near × Seals level table want pointer =
    λ pointer part near on all. (let sub = subtree_in level image table false (of_image.child_want want pointer level) part near on.0 all in ((sub.0, sym (first_same part) ∙ on.1), sub.1)) in
    let kids = children_in level image table want each pointers items below children tail in (
      (pointers, below, record { allowed = allowed; taken = split.used want.at.0 here }, bytes.body, least, kids.0, is_reach),
      ((λ dirty. bytes.header), λ others body. subst (All (Seals level table want)) (IsNodeBody-same (block_at table want.at.0).bytes pointers others bytes.body body) kids.1),
    )

rises_same : (items : List Item) → of_image.ItemsRise items → ItemsRise items
rises_same [] h = tt
rises_same (one ∷ []) h = tt
rises_same (one ∷ two ∷ items) h = (h.0, rises_same (two ∷ items) h.1)

once_same : (reach : List ℕ) → of_image.NoneTwice reach → NoneTwice reach
once_same [] h = tt
once_same (at ∷ others) h = (h.0, once_same others h.1)

-- ---- a whole tree

-- the tree stands in the table with what was loaded
pub record IsWhole (table : Table) (want : Want) (items : List Item) (reach : List ℕ) : Type 0 where
  pub stands : IsTree table (tree_wanted want)
  pub seals : IsSealedTree table (tree_wanted want) want.fsid want.generation
  pub items_are : items ≡ tree_items table (tree_wanted want)
  pub reach_is : reach ≡ tree_reach table (tree_wanted want)

pub whole_from_image : (image : Image) (table : Table) (want : Want) (items : List Item) (reach : List ℕ) → of_image.IsTree image (length table.slots) want items reach → AreThere image table reach → IsWhole table want items reach
whole_from_image image table want items reach tree there =
    let sub = subtree_in want.level image table true want items reach tree.shape there in
    let tree_in : IsTreeIn table (tree_wanted want) items reach = record { low = tree.low; shape = sub.0; order = rises_same items tree.order; once = once_same reach tree.once } in
    let by = tree_to table (tree_wanted want) items reach tree_in in
    record { stands = by.0; seals = sub.1; items_are = by.1; reach_is = by.2 }

-- a walk from the root is the tree's
root_walk : (image : Image) (blocks : ℕ) (want : Want) (reached : List ℕ) (answer : Result Walked LoadFault) → walk_from want.level image blocks None want (nothing_walked reached) ≡ answer → tree_of image blocks want reached ≡ answer
unfolding tree_of
root_walk image blocks want reached answer h = h

-- what was loaded below a root is a whole tree
module _ (seen : Option Image) (old new : Table) (want : Want) (after : Option Key) (loaded : IsLoadedBelow seen old new want None None after) where
  used_then : (at : ℕ) → Contains loaded.reach at → (block_at new at).state ≢ Free
  used_then at c free = live_not_free new at (live_state new at (loaded.load.live at c)) free

  pub whole : IsWhole new want loaded.items loaded.reach
  whole =
      let image = image_of new in
      let has : HasBytes image new loaded.reach = λ at c. bytes_in new at (used_then at c) in
      let walked : Walked = record { items = loaded.items; reached = taken_of old ++ loaded.reach } in
      let tree : HasWalked image (length old.slots) want (taken_of old) walked = (walked_lem image (length old.slots) want (taken_of old) walked).0 (root_walk image (length old.slots) want (taken_of old) (Ok walked) (loaded.walks image has (nothing_walked (taken_of old)) (taken_are old) refl)) in
      let reach_is : tree.reach ≡ loaded.reach = append_cancel_left (taken_of old) tree.reach loaded.reach (sym tree.reached) in
      whole_from_image image new want loaded.items loaded.reach
      (subst (λ (blocks : ℕ). of_image.IsTree image blocks want loaded.items loaded.reach) (sym loaded.load.size) (subst (of_image.IsTree image (length old.slots) want loaded.items) reach_is tree.tree))
      (record { used = used_then; has = has })

  -- the clauses of a load
  pub load_is : IsLoad false old new (tree_reach new (tree_wanted want))
  load_is = subst (IsLoad false old new) whole.reach_is loaded.load

  pub bytes_are : IfTold seen (λ image. HasBytes image new (tree_reach new (tree_wanted want)))
  bytes_are = subst (λ (reach : List ℕ). IfTold seen (λ image. HasBytes image new reach)) whole.reach_is loaded.told

  pub walk_is : IfTold seen (λ image. IsWalkAfter image old want (tree_items new (tree_wanted want)) (tree_reach new (tree_wanted want)))
  walk_is = told_from seen _ _ loaded.told
      (λ image has. subst (λ (items : List Item). IsWalkAfter image old want items (tree_reach new (tree_wanted want))) whole.items_are (subst (IsWalkAfter image old want loaded.items) whole.reach_is
      (λ reached taken. root_walk image (length old.slots) want reached (Ok (record { items = loaded.items; reached = reached ++ loaded.reach })) (loaded.walks image has (nothing_walked reached) taken refl))))

-- a fault below a root is the walk's
pub fault_is : (image : Image) (table : Table) (want : Want) (fault : LoadFault) → IsFaultBelow image table want None None fault → IsWalkFault image table want fault
fault_is image table want (Block at why) h = λ reached taken. root_walk image (length table.slots) want reached _ (h (nothing_walked reached) taken refl)
fault_is image table want (Outside at) h = λ reached taken. root_walk image (length table.slots) want reached _ (h (nothing_walked reached) taken refl)
fault_is image table want (Twice at) h = λ reached taken. root_walk image (length table.slots) want reached _ (h (nothing_walked reached) taken refl)
fault_is image table want (Level at) h = λ reached taken. root_walk image (length table.slots) want reached _ (h (nothing_walked reached) taken refl)
fault_is image table want (Thin at) h = λ reached taken. root_walk image (length table.slots) want reached _ (h (nothing_walked reached) taken refl)
fault_is image table want Disk h = tt
fault_is image table want OutOfMemory h = tt
