-- Data blocks read into the table, one after another, and their first fault.
use Rattle.std.proofs.Common.{◌≡◌, ◌≢◌, ℕ, true, false, List, [], ◌∷◌, ◌++◌, length, Contains, Option, Result, Ok, Err, sym, ap, subst, ◌∙◌, inl, inr, append_assoc, append-nil}
use Rattle.std.specs.Prelude.{IfErr, OnOk}
use Rattle.std.proofs.lemmas.List.Elements.{All-weaker, Contains-append_left, Contains-append_right, Contains-append_cases}
use Rattle.blk_base.specs.Address.{is_allowed}
use Rattle.blk_base.specs.Bytes.{Image}
use Rattle.block_table.specs.declared.state.SlotState.TheVariants.{Free}
use Rattle.block_table.specs.declared.tree.Tree.{Tree}
use Rattle.block_table.specs.Table.{Table}
use Rattle.block_table.specs.TreeIn.{IsTaken, block_at}
use Rattle.disk_model.specs.Disk.{IfTold}
use Rattle.tree_load.specs.Loaded.{AreTaken, IsLoad, taken_of}
use Rattle.tree_load.proofs.Loading.{told_always, told_both, told_from}
use Rattle.tree_load.proofs.Tables.{bytes_joined, bytes_of_one, load_more, load_none, taken_more}
use Rattle.tree_load.proofs.Taken.{taken_are}
use Rattle.tree_range.specs.Shape.{AreAlike, IsTree, tree_items, tree_reach}
use Rattle.tree_range.proofs.Local.{tree_alike}
use Rattle.tree_range.proofs.Times.{reach_taken}
use Rattle.volume_image.specs.Tree.{block_of, was_reached}
use Rattle.volume_image.proofs.Lists.{in_cons, in_nothing}
use Rattle.volume_image.proofs.Reaches.{head_in, tail_in, not_in, was_reached-in}
use Rattle.tree_check.specs.declared.fault.TreeFault.{TreeFault}
use Rattle.tree_check.specs.declared.fault.TreeFault.TheVariants.{Item, Outside, Twice, Incoherent, Disk, OutOfMemory}
use Rattle.tree_check.specs.Blocks.{AreRead, IsDataAnswer, IsDataFault, blocks_checked}
use Rattle.tree_check.proofs.Checking.{is_fresh, same_reached, same_taken}

-- ---- blocks that were read

pub read_none : (seen : Option Image) (table : Table) → AreRead seen table table []
read_none seen table = record {
  load = load_none true table;
  told = told_always seen _ (λ image. λ at c. absurd (in_nothing at c));
  goes_on = λ reached now rest taken again. same_reached (length table.slots) reached now rest (same_taken table reached now taken again);
}

pub read_more : (seen : Option Image) (old mid new : Table) (near far : List ℕ) → AreRead seen old mid near → AreRead seen mid new far → AreRead seen old new (near ++ far)
read_more seen old mid new near far one two = record {
  load = load_more old mid new near far one.load two.load;
  told = told_both seen _ _ _ one.told two.told (λ image before behind. bytes_joined image old mid new near far one.load two.load before behind);
  goes_on = λ reached now rest taken again.
      ap (blocks_checked (length old.slots) reached) (append_assoc near far rest) ∙ one.goes_on reached (taken_of mid) (far ++ rest) taken (taken_are mid) ∙ two.goes_on (taken_of mid) now rest (taken_are mid) again;
}

-- one address more is taken
taken_one : (old new : Table) (at : ℕ) (reached : List ℕ) → IsLoad true old new (at ∷ []) → AreTaken old reached → AreTaken new (at ∷ reached)
taken_one old new at reached load taken other = (forward, back)
  where
    forward : Contains (at ∷ reached) other → (block_at new other).state ≢ Free
    forward c = elim (in_cons at other reached c) [
      | inl here ↦ (taken_more old new reached (at ∷ []) load taken other).0 (Contains-append_right reached (at ∷ []) other (subst (Contains (at ∷ [])) here (head_in at [])))
      | inr there ↦ (taken_more old new reached (at ∷ []) load taken other).0 (Contains-append_left reached (at ∷ []) other there)
    ]

    back : (block_at new other).state ≢ Free → Contains (at ∷ reached) other
    back used = elim (Contains-append_cases reached (at ∷ []) other ((taken_more old new reached (at ∷ []) load taken other).1 used)) [
      | inl before ↦ tail_in at other reached before
      | inr here ↦ elim (in_cons at other [] here) [ inl same ↦ subst (Contains (at ∷ reached)) same (head_in at reached) | inr none ↦ absurd (in_nothing other none) ]
    ]

-- a block that is Free wasn't reached
pub free_fresh : (table : Table) (at : ℕ) (reached : List ℕ) → AreTaken table reached → (block_at table at).state ≡ Free → was_reached at reached ≡ false
free_fresh table at reached taken free = not_in at reached (λ c. (taken at).0 c free)

pub used_reached : (table : Table) (at : ℕ) (reached : List ℕ) → AreTaken table reached → (block_at table at).state ≢ Free → was_reached at reached ≡ true
used_reached table at reached taken used = was_reached-in at reached ((taken at).1 used)

pub read_one : (seen : Option Image) (old new : Table) (at : ℕ) (bytes : List ℕ) → is_allowed (length old.slots) at ≡ true → (block_at old at).state ≡ Free → IsLoad true old new (at ∷ [])
    → IfTold seen (λ image. block_of image at ≡ bytes) → (block_at new at).bytes ≡ bytes → AreRead seen old new (at ∷ [])
read_one seen old new at bytes allowed free load told has = record {
  load = load;
  told = told_from seen _ _ told (λ image is. bytes_of_one image new at bytes is has);
  goes_on = λ reached now rest taken again.
      is_fresh (length old.slots) at reached rest allowed (free_fresh old at reached taken free)
      ∙ same_reached (length old.slots) (at ∷ reached) now rest (same_taken new (at ∷ reached) now (taken_one old new at reached load taken) again)
      ∙ ap (λ (blocks : ℕ). blocks_checked blocks now rest) (sym load.size);
}

-- what is known of the disk is the same later
pub read_so : (seen later : Option Image) (old new : Table) (addresses : List ℕ) → later ≡ seen → AreRead later old new addresses → AreRead seen old new addresses
read_so seen later old new addresses same read = subst (λ (s : Option Image). AreRead s old new addresses) same read

-- ---- the first fault

-- what a check answers whatever was reached before is its fault
pub fault_is : (table : Table) (addresses : List ℕ) (fault : TreeFault) → ((reached rest : List ℕ) → AreTaken table reached → blocks_checked (length table.slots) reached (addresses ++ rest) ≡ Err fault) → IsDataFault table addresses fault
fault_is table addresses (Item at key why) h = h
fault_is table addresses (Outside at) h = h
fault_is table addresses (Twice at) h = h
fault_is table addresses (Incoherent ino) h = h
fault_is table addresses Disk h = tt
fault_is table addresses OutOfMemory h = tt

fault_carried : (mid old : Table) (part all : List ℕ) (fault : TreeFault)
    → (((reached rest : List ℕ) → AreTaken mid reached → blocks_checked (length mid.slots) reached (part ++ rest) ≡ Err fault) → (reached rest : List ℕ) → AreTaken old reached → blocks_checked (length old.slots) reached (all ++ rest) ≡ Err fault)
    → IsDataFault mid part fault → IsDataFault old all fault
fault_carried mid old part all (Item at key why) carry h = carry h
fault_carried mid old part all (Outside at) carry h = carry h
fault_carried mid old part all (Twice at) carry h = carry h
fault_carried mid old part all (Incoherent ino) carry h = carry h
fault_carried mid old part all Disk carry h = tt
fault_carried mid old part all OutOfMemory carry h = tt

-- the fault of a part is that of the whole, where what is in front of the part was read
pub fault_within : (seen : Option Image) (old mid : Table) (near part far all : List ℕ) (fault : TreeFault) → AreRead seen old mid near → all ≡ near ++ (part ++ far) → IsDataFault mid part fault → IsDataFault old all fault
fault_within seen old mid near part far all fault read split h = fault_carried mid old part all fault carry h
  where
    carry : ((reached rest : List ℕ) → AreTaken mid reached → blocks_checked (length mid.slots) reached (part ++ rest) ≡ Err fault) → (reached rest : List ℕ) → AreTaken old reached → blocks_checked (length old.slots) reached (all ++ rest) ≡ Err fault
    carry fails reached rest taken =
        ap (λ (l : List ℕ). blocks_checked (length old.slots) reached (l ++ rest)) split
        ∙ ap (blocks_checked (length old.slots) reached) (append_assoc near (part ++ far) rest ∙ ap (λ (l : List ℕ). near ++ l) (append_assoc part far rest))
        ∙ read.goes_on reached (taken_of mid) (part ++ (far ++ rest)) taken (taken_are mid) ∙ fails (taken_of mid) (far ++ rest) (taken_are mid)

-- ---- all blocks of a call

pub answer_ok : (seen : Option Image) (old new : Table) (addresses : List ℕ) → AreRead seen old new addresses → IsDataAnswer old addresses (Ok tt)
answer_ok seen old new addresses read = λ reached taken.
    ap (blocks_checked (length old.slots) reached) (sym (append-nil addresses)) ∙ read.goes_on reached (taken_of new) [] taken (taken_are new)

pub answer_err : (table : Table) (addresses : List ℕ) (fault : TreeFault) → IsDataFault table addresses fault → IsDataAnswer table addresses (Err fault)
answer_err table addresses (Item at key why) h = λ reached taken. ap (blocks_checked (length table.slots) reached) (sym (append-nil addresses)) ∙ h reached [] taken
answer_err table addresses (Outside at) h = λ reached taken. ap (blocks_checked (length table.slots) reached) (sym (append-nil addresses)) ∙ h reached [] taken
answer_err table addresses (Twice at) h = λ reached taken. ap (blocks_checked (length table.slots) reached) (sym (append-nil addresses)) ∙ h reached [] taken
answer_err table addresses (Incoherent ino) h = λ reached taken. ap (blocks_checked (length table.slots) reached) (sym (append-nil addresses)) ∙ h reached [] taken
answer_err table addresses Disk h = tt
answer_err table addresses OutOfMemory h = tt

pub answer_is : (seen : Option Image) (old new : Table) (addresses : List ℕ) (result : Result (Unit {0}) TreeFault) → OnOk result (AreRead seen old new addresses) → IfErr result (IsDataFault old addresses) → IsDataAnswer old addresses result
answer_is seen old new addresses (Ok done) read fails = answer_ok seen old new addresses read
answer_is seen old new addresses (Err fault) read fails = answer_err old addresses fault fails

-- ---- the tree

-- data blocks that were read stand where the tree has no block
pub reads_beside : (old new : Table) (tree : Tree) (addresses : List ℕ) → IsLoad true old new addresses → IsTree old tree → AreAlike old new (tree_reach old tree)
reads_beside old new tree addresses load tree_is = All-weaker (IsTaken old) (λ (at : ℕ). block_at new at ≡ block_at old at) (λ at taken. load.others at (λ c. taken.taken (load.fresh at c))) (tree_reach old tree) (reach_taken tree.level old true tree.root.0 tree_is.shape)

pub tree_kept : (old new : Table) (tree : Tree) (addresses : List ℕ) → IsLoad true old new addresses → IsTree old tree → (tree_items new tree ≡ tree_items old tree) × (tree_reach new tree ≡ tree_reach old tree) × IsTree new tree
tree_kept old new tree addresses load tree_is = let kept = tree_alike old new tree (reads_beside old new tree addresses load tree_is) in (kept.0, kept.1, kept.2 tree_is)
