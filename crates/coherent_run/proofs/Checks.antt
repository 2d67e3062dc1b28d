-- What a tree gives whose items, data blocks and coherence were checked.
use Rattle.std.proofs.Common.{◌≡◌, ◌≢◌, ◌++◌, ℕ, true, List, [], ◌∷◌, length, All, Contains, None, sym, ap, subst, ◌∙◌}
use Rattle.std.proofs.lemmas.List.Elements.{All-append, All-contains, All-from_recursion}
use Rattle.std.specs.List.{AllByRecursion}
use Rattle.blk_base.specs.Address.{IsAllowed}
use Rattle.block_table.specs.declared.state.SlotState.TheVariants.{Free, LetGo, Live}
use Rattle.block_table.specs.declared.tree.Tree.{Tree}
use Rattle.block_table.specs.Slot.{BlockSlot, stood_slot}
use Rattle.block_table.specs.Table.{Table}
use Rattle.block_table.specs.TreeIn.{IsTaken, block_at}
use Rattle.flat_model.specs.Coherent.{IsCoherent}
use Rattle.image_faults.specs.Faulty.{AreReadable, HasData, HasNoFault}
use Rattle.image_faults.specs.Lowest.{first_faulty}
use Rattle.image_faults.specs.Said.{said_sub}
use Rattle.image_faults.proofs.Firsts.{none_is_faulty}
use Rattle.image_faults.proofs.FromLines.{are_coherent, are_items}
use Rattle.table_volume.specs.Gives.{GivesSubvolume, data_in, sub_reach}
use Rattle.table_volume.proofs.Giving.{data_at}
use Rattle.tree_check.specs.Blocks.{AreFresh, tree_data}
use Rattle.tree_check.proofs.Fresh.{fresh_are}
use Rattle.tree_frame.specs.Frame.{AreCurrent}
use Rattle.tree_load.specs.Loaded.{taken_of}
use Rattle.tree_load.proofs.Taken.{taken_are}
use Rattle.tree_range.specs.Shape.{tree_items, tree_reach}
use Rattle.tree_range.proofs.Times.{reach_taken}
use Rattle.volume_image.specs.Subvolume.{data_addresses}
use Rattle.volume_image.specs.Tree.{AreApart, NoneTwice}
use Rattle.volume_image.proofs.Reaches.{head_in, none_twice_joined, tail_in}
use Rattle.check_laws.proofs.Readable.{readable}
use Rattle.coherent_run.specs.Checked.{AreChecked}

all_in : {X : Type 0} (P : X → Type 0) (xs : List X) → ((x : X) → Contains xs x → P x) → AllByRecursion P xs
all_in P [] h = tt
all_in P (x ∷ xs) h = (h x (head_in x xs), all_in P xs (λ y c. h y (tail_in x y xs c)))

all_of : {X : Type 0} (P : X → Type 0) (xs : List X) → ((x : X) → Contains xs x → P x) → All P xs
all_of P xs h = All-from_recursion P xs (all_in P xs h)

live_not_free : (slot : BlockSlot) (bytes : List ℕ) → slot ≡ stood_slot bytes true → slot.state ≢ Free
live_not_free slot bytes is free = let no : Live ≡ Free = sym (ap (λ (s : BlockSlot). s.state) is) ∙ free in cc

live_not_let_go : (slot : BlockSlot) (bytes : List ℕ) → slot ≡ stood_slot bytes true → slot.state ≢ LetGo
live_not_let_go slot bytes is gone = let no : Live ≡ LetGo = sym (ap (λ (s : BlockSlot). s.state) is) ∙ gone in cc

module _ (old new : Table) (tree : Tree) (is : AreChecked old new tree) where
  fresh : AreFresh (length old.slots) (taken_of old) (tree_data old tree)
  fresh = (fresh_are (length old.slots) (taken_of old) (tree_data old tree)).0 (is.blocks (taken_of old) (taken_are old))

  same_data : tree_data new tree ≡ tree_data old tree
  same_data = ap data_addresses is.same_items

  pub ready : AreReadable (tree_items new tree)
  ready = subst AreReadable (sym is.same_items) (readable old tree is.before is.bytes is.items)

  -- each data block is taken
  data_taken : (at : ℕ) → Contains (tree_data old tree) at → IsTaken new at
  data_taken at c = record {
    allowed = subst (λ (n : ℕ). IsAllowed n at) (sym is.load.size) (All-contains (IsAllowed (length old.slots)) (tree_data old tree) at fresh.allowed c);
    taken = live_not_free (block_at new at) (block_at new at).bytes (is.load.live at c);
  }

  pub data_there : HasData (tree_items new tree) (data_in new)
  data_there at c = ((block_at new at).bytes, data_at new at (data_taken at (subst (λ (addresses : List ℕ). Contains addresses at) same_data c)))

  -- no block of the tree is one of its data blocks
  apart : AreApart (tree_reach old tree) (tree_data old tree)
  apart at c d =
      let taken = All-contains (IsTaken old) (tree_reach old tree) at (reach_taken tree.level old true tree.root.0 is.before.shape) c in
      fresh.apart at ((taken_are old at).1 taken.taken) d

  once : NoneTwice (sub_reach new tree)
  once =
      let joined = none_twice_joined (tree_reach old tree) (tree_data old tree) is.before.once fresh.once apart in
      subst NoneTwice ((λ i. sym is.same_reach i ++ sym same_data i)) joined

  pub current : AreCurrent old (tree_reach old tree) → AreCurrent new (sub_reach new tree)
  current before =
      All-append (λ at. (block_at new at).state ≢ LetGo) (tree_reach new tree) (tree_data new tree)
      (all_of (λ at. (block_at new at).state ≢ LetGo) (tree_reach new tree) (λ at c.
      let here = subst (λ (reach : List ℕ). Contains reach at) is.same_reach c in
      subst (λ (slot : BlockSlot). slot.state ≢ LetGo) (sym (is.load.others at (λ d. apart at here d))) (All-contains (λ a. (block_at old a).state ≢ LetGo) (tree_reach old tree) at before here)))
      (all_of (λ at. (block_at new at).state ≢ LetGo) (tree_data new tree) (λ at c.
      live_not_let_go (block_at new at) (block_at new at).bytes (is.load.live at (subst (λ (addresses : List ℕ). Contains addresses at) same_data c))))

  module _ (none : first_faulty (tree_items new tree) (data_in new) ≡ None) where
    right : (ino : ℕ) → HasNoFault (tree_items new tree) (data_in new) ino
    right = none_is_faulty (tree_items new tree) (data_in new) none

    pub gives : GivesSubvolume new tree (said_sub (tree_items new tree) (data_in new))
    gives = record {
      tree_in = is.stands;
      items = are_items (tree_items new tree) (data_in new) ready data_there right;
      data_taken = all_of (IsTaken new) (tree_data new tree) (λ at c. data_taken at (subst (λ (addresses : List ℕ). Contains addresses at) same_data c));
      once = once;
    }

    pub coherent : IsCoherent (said_sub (tree_items new tree) (data_in new))
    coherent = are_coherent (tree_items new tree) (data_in new) ready data_there right
