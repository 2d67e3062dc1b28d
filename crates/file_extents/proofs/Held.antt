-- A tree that is held with data blocks, and what an edit of the tree beside them leaves.
use Rattle.std.proofs.Common.{◌≡◌, ◌≢◌, ◌≤◌, ◌+◌, ◌*◌, ◌<◌, ◌^◌, ℕ, Bool, None, List, ◌++◌, length, true, Some, refl, sym, ap, ◌∙◌, arith}
use Rattle.std.specs.Prelude.{All, Contains, if◌then◌else◌}
use Rattle.std.proofs.lemmas.List.Elements.{All-append, All-contains}
use Rattle.blk_base.specs.declared.key.Key.{Key}
use Rattle.blk_base.specs.Extents.{IsExtent, Regular}
use Rattle.blk_base.specs.Keys.{extent_data}
use Rattle.blk_base.specs.Leaf.{Item}
use Rattle.blk_base.specs.Trees.{NoneTwice}
use Rattle.block_table.specs.declared.state.SlotState.TheVariants.{LetGo}
use Rattle.block_table.specs.declared.tree.Tree.{Tree}
use Rattle.block_table.specs.Slot.{BlockSlot}
use Rattle.block_table.specs.Table.{Table}
use Rattle.block_table.specs.TreeIn.{IsSealedTree, IsTaken, block_at}
use Rattle.block_table.specs.Slot.{is_free}
use Rattle.file_blocks.proofs.Covered.{taken_below}
use Rattle.flat_model.proofs.Maps.{some_none}
use Rattle.item_laws.specs.ExtentLaws.{extent_from}
use Rattle.tree_range.specs.Between.{data_under}
use Rattle.tree_range.specs.Part.{times_in}
use Rattle.tree_range.specs.Shape.{AreAlike, IsTree, tree_items, tree_reach}
use Rattle.tree_range.proofs.Found.{contains_under}
use Rattle.tree_range.proofs.Rise.{All-right}
use Rattle.tree_range.proofs.Times.{contained_by_times, none_twice_from, none_twice_to, times_append}
use Rattle.tree_frame.specs.Frame.{AreCurrent, IsEdit, TakesAtMost}
use Rattle.tree_frame.proofs.EditLaws.{edits_by_membership}
use Rattle.tree_frame.proofs.Reading.{reach_taken}
use Rattle.cow_tree.proofs.Lists.{all_from, all_to, contained_times}
use Rattle.data_release.proofs.Left.{stay_current, stay_taken}
use Rattle.table_volume.specs.Edited.{BearGeneration, KeepsClean}
use Rattle.table_volume.specs.Gives.{bytes_there, data_in, sub_reach, tree_data}
use Rattle.table_volume.specs.TreeEdit.{IsTreeEdit}
use Rattle.table_volume.proofs.Items.{bear_joined, nothing_bears}
use Rattle.tree_frame.proofs.EditLaws.{edits_join, nothing_is_an_edit}
use Rattle.table_volume.proofs.SubEdits.{beside_alike, beside_edit, beside_once, clean_joined, clean_nothing}
use Rattle.volume_image.specs.Subvolume.{Data, data_addresses, item_addresses, make_key}
use Rattle.volume_image.proofs.Extents.{run_is_reached}
use Rattle.volume_image.proofs.Members.{flat_map_in}
use Rattle.file_extents.specs.Extents.{AreRunsOf, Contents, HasRun, IsBeside, IsContentEdit, IsHeld}

-- the tree and these data blocks: each is taken, current, and there once
pub record IsHeldWith (table : Table) (tree : Tree) (files : List ℕ) : Type 0 where
  pub stands : IsTree table tree
  pub taken : All (IsTaken table) (tree_reach table tree ++ files)
  pub current : AreCurrent table (tree_reach table tree ++ files)
  pub once : NoneTwice (tree_reach table tree ++ files)

pub held_with : (table : Table) (tree : Tree) → IsHeld table tree → IsHeldWith table tree (tree_data table tree)
held_with table tree h = record { stands = h.stands; taken = h.taken; current = h.current; once = h.once }

-- the blocks of a list that names each address as often
module _ (files more : List ℕ) (same : (at : ℕ) → times_in at files ≡ times_in at more) where
  pub in_more : (at : ℕ) → Contains files at → Contains more at
  in_more at c = contained_by_times at more (omega (arith, same at, contained_times files at c))

  pub in_files : (at : ℕ) → Contains more at → Contains files at
  in_files at c = contained_by_times at files (omega (arith, same at, contained_times more at c))

  module _ (reach : List ℕ) where
    both_same : (at : ℕ) → times_in at (reach ++ files) ≡ times_in at (reach ++ more)
    both_same at = omega (arith, same at, times_append at reach files, times_append at reach more)

    all_more : (P : ℕ → Type 0) → All P (reach ++ files) → All P (reach ++ more)
    all_more P h = all_from P (reach ++ more) (λ at n. all_to P (reach ++ files) at h (omega (arith, both_same at, n)))

    once_more : NoneTwice (reach ++ files) → NoneTwice (reach ++ more)
    once_more h = none_twice_from (reach ++ more) (λ at. omega (arith, both_same at, none_twice_to (reach ++ files) at h))

    pub edit_more : (old new : Table) (before : List ℕ) → IsEdit old new before (reach ++ files) → IsEdit old new before (reach ++ more)
    edit_more old new before edit =
        edits_by_membership old new before (reach ++ files) before (reach ++ more) (λ at. ((λ c. c), (λ c. c)))
        (λ at. (
          (λ c. contained_by_times at (reach ++ files) (omega (arith, both_same at, contained_times (reach ++ more) at c))),
          (λ c. contained_by_times at (reach ++ more) (omega (arith, both_same at, contained_times (reach ++ files) at c))),
        )) edit

  pub refiled : (table : Table) (tree : Tree) → IsHeldWith table tree files → IsHeldWith table tree more
  refiled table tree h = record {
    stands = h.stands;
    taken = all_more (tree_reach table tree) (IsTaken table) h.taken;
    current = all_more (tree_reach table tree) (λ (at : ℕ). (block_at table at).state ≢ LetGo) h.current;
    once = once_more (tree_reach table tree) h.once;
  }

-- an edit of the tree beside them
module _ (old new : Table) (before after : Tree) (running most : ℕ) (files : List ℕ) (held : IsHeldWith old before files) (edit : IsTreeEdit old new before after running most) where
  pub files_alike : AreAlike old new files
  files_alike = beside_alike old new before after running most files held.once held.taken edit

  pub tree_and_files : IsEdit old new (tree_reach old before ++ files) (tree_reach new after ++ files)
  tree_and_files = beside_edit old new before after running most files held.once held.taken edit

  pub held_after : IsHeldWith new after files
  held_after = record {
    stands = edit.tree;
    taken = All-append (IsTaken new) (tree_reach new after) files (reach_taken after.level new true after.root.0 edit.tree.shape) (stay_taken old new edit.edit.size files files_alike (All-right (IsTaken old) (tree_reach old before) files held.taken));
    current = All-append (λ (at : ℕ). (block_at new at).state ≢ LetGo) (tree_reach new after) files edit.current (stay_current old new files files_alike (All-right (λ (at : ℕ). (block_at old at).state ≢ LetGo) (tree_reach old before) files held.current));
    once = beside_once old new before after running most files held.once held.taken edit;
  }

pub same_block : (old new : Table) (files : List ℕ) (at : ℕ) → AreAlike old new files → Contains files at → block_at new at ≡ block_at old at
same_block old new files at alike there = All-contains (λ (a : ℕ). block_at new a ≡ block_at old a) files at alike there

-- the data blocks of an item
pub in_data : (items : List Item) (key : Key) (bytes : List ℕ) (at : ℕ) → data_under key items ≡ Some bytes → Contains (item_addresses (key, bytes)) at → Contains (data_addresses items) at
in_data items key bytes at there c = flat_map_in item_addresses items (key, bytes) at (contains_under items key bytes there) c

pub run_in_data : (items : List Item) (ino begin at count i : ℕ) → HasRun items ino begin at count → i < count → Contains (data_addresses items) (at + 4096 * i)
run_in_data items ino begin at count i run less =
    let key = make_key ino extent_data (4096 * begin) in
    let is : IsExtent key run.bytes (Regular at 0 (4096 * count)) = extent_from key run.bytes (Regular at 0 (4096 * count)) run.read in
    run_is_reached items key run.bytes at 0 (4096 * count) i (contains_under items key run.bytes run.there) refl is (omega (arith, less))

pub data_same : (old new : Table) (at : ℕ) → block_at new at ≡ block_at old at → data_in new at ≡ data_in old at
data_same old new at same = ap (λ (slot : BlockSlot). bytes_there slot) same

-- runs whose blocks stay
pub blocks_stay : (Runs : ℕ → ℕ → ℕ → Type 0) (was is : Data) (contents : Contents) → ((b a c i : ℕ) → Runs b a c → i < c → is (a + 4096 * i) ≡ was (a + 4096 * i)) → AreRunsOf Runs was contents → AreRunsOf Runs is contents
blocks_stay Runs was is contents same are = record {
  holds = λ b a c i r less. let h = are.holds b a c i r less in (h.0, same b a c i r less ∙ h.1, h.2);
  covered = are.covered;
  apart = are.apart;
}

-- an edit of a file's extents, by its parts
pub edited : (old new : Table) (before after : Tree) (running ino most : ℕ) (files : List ℕ) → IsHeldWith new after files → ((at : ℕ) → times_in at files ≡ times_in at (tree_data new after))
    → IsEdit old new (sub_reach old before) (tree_reach new after ++ files) → after.owner ≡ before.owner → KeepsClean old new before after → ((fsid : List ℕ) (was : ℕ) → IsSealedTree old before fsid was → (now : ℕ) × IsSealedTree new after fsid now)
    → BearGeneration running (tree_items old before) (tree_items new after) → TakesAtMost old new most
    → ((key : Key) → IsBeside ino key → data_under key (tree_items new after) ≡ data_under key (tree_items old before))
    → ((at : ℕ) → Contains (tree_data old before) at → Contains (tree_data new after) at → block_at new at ≡ block_at old at)
    → IsContentEdit old new before after running ino most
edited old new before after running ino most files held same edit owner kept sealed bear taken others alike =
    let with : IsHeldWith new after (tree_data new after) = refiled files (tree_data new after) same new after held in
    record {
      held = record { stands = with.stands; taken = with.taken; current = with.current; once = with.once };
      owner = owner;
      edit = edit_more files (tree_data new after) same (tree_reach new after) old new (sub_reach old before) edit;
      kept = kept;
      sealed = sealed;
      bear = bear;
      taken = taken;
      others = others;
      alike = λ key bytes beside there at c. alike at (in_data (tree_items old before) key bytes at there c) (in_data (tree_items new after) key bytes at (others key beside ∙ there) c);
    }

-- ---- no edit, and one behind another

pub nothing : (table : Table) (tree : Tree) (running ino most : ℕ) → IsHeld table tree → IsContentEdit table table tree tree running ino most
nothing table tree running ino most held = record {
  held = held;
  owner = refl;
  edit = nothing_is_an_edit table (sub_reach table tree);
  kept = clean_nothing table tree;
  sealed = λ fsid was h. (was, h);
  bear = nothing_bears running (tree_items table tree);
  taken = record { spare = omega arith; free = omega arith };
  others = λ key beside. refl;
  alike = λ key bytes beside there at c. refl;
}

pub content_edits_join : (old mid new : Table) (a b c : Tree) (running ino n m : ℕ) → IsContentEdit old mid a b running ino n → IsContentEdit mid new b c running ino m → IsContentEdit old new a c running ino (n + m)
content_edits_join old mid new a b c running ino n m one two = record {
  held = two.held;
  owner = two.owner ∙ one.owner;
  edit = edits_join old mid new (sub_reach old a) (sub_reach mid b) (sub_reach new c) one.edit two.edit;
  kept = clean_joined old mid new a b c one.kept two.kept;
  sealed = λ fsid was h. let middle = one.sealed fsid was h in two.sealed fsid middle.0 middle.1;
  bear = bear_joined running (tree_items old a) (tree_items mid b) (tree_items new c) one.bear two.bear;
  taken = record { spare = omega (arith, one.taken.spare, two.taken.spare); free = omega (arith, one.taken.free, two.taken.free) };
  others = λ key beside. two.others key beside ∙ one.others key beside;
  alike = λ key bytes beside there at c. two.alike key bytes beside (one.others key beside ∙ there) at c ∙ one.alike key bytes beside there at c;
}

pub content_edit_more : (old new : Table) (a b : Tree) (running ino n m : ℕ) → IsContentEdit old new a b running ino n → n ≤ m → IsContentEdit old new a b running ino m
content_edit_more old new a b running ino n m one less = record {
  held = one.held;
  owner = one.owner;
  edit = one.edit;
  kept = one.kept;
  sealed = one.sealed;
  bear = one.bear;
  taken = record { spare = omega (arith, one.taken.spare, less); free = omega (arith, one.taken.free, less) };
  others = one.others;
  alike = one.alike;
}

-- a block of a run is below the table's end
pub run_below : (table : Table) (Runs : ℕ → ℕ → ℕ → Type 0) (contents : Contents) (begin at count i : ℕ) → AreRunsOf Runs (data_in table) contents → Runs begin at count → i < count → length table.slots < 2 ^ 32 → at + 4096 * i < 2 ^ 64
run_below table Runs contents begin at count i are run less small =
    let h = are.holds begin at count i run less in
    taken_below table (at + 4096 * i) small
    (λ free. some_none h.0 (sym h.1 ∙ ap (λ (b : Bool). if b then None else Some (block_at table (at + 4096 * i)).bytes) (ap is_free free)))
