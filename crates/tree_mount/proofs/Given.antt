-- What the states of trees give whose checks were all Ok, whatever the disk tells.
use Rattle.std.proofs.Common.{◌≡◌, ◌≢◌, ◌≤◌, ◌<◌, ◌+◌, ◌++◌, ◌/◌, ◌%◌, ◌⊎◌, ℕ, zero, suc, true, List, [], ◌∷◌, length, map, Contains, All, IsPermutation, Some, Less, nat_cmp, refl, sym, ap, subst, ◌∙◌, arith, inl, inr, append_assoc}
use Rattle.std.specs.List.{AllByRecursion, flat_map, range_with_len}
use Rattle.std.specs.List.Sorted.{IsStrictlyIncreasing, IsStrictlySortedBy}
use Rattle.std.specs.Cmp.{nat_cmp_is, nat_cmp_total}
use Rattle.std.specs.FinMap.{from_entries, get, nat_cmp-IsAntisymmetric}
use Rattle.std.specs.Option.{option_map}
use Rattle.std.proofs.lemmas.Map.Keys.{IsStrictlyIncreasing-from_sorted}
use Rattle.std.proofs.lemmas.List.Elements.{All-contains, All-head, All-tail, All-weaker, Contains-append_cases, Contains-append_left, Contains-append_right}
use Rattle.std.proofs.lemmas.List.Sorted.{Contains-permutation, IsPermutation-append_right, IsPermutation-refl, IsPermutation-sym, length_permutation}
use Rattle.blk_base.specs.declared.key.Want.{Want}
use Rattle.blk_base.specs.Address.{IsAllowed}
use Rattle.blk_base.specs.Leaf.{Pointer}
use Rattle.blk_base.specs.Superblock.{SuperValue}
use Rattle.blk_base.specs.Trees.{NoneTwice}
use Rattle.block_table.specs.declared.state.SlotState.{SlotState}
use Rattle.block_table.specs.declared.state.SlotState.TheVariants.{Free, Dirty, Sealed, Live, LetGo}
use Rattle.block_table.specs.declared.tree.SubState.{SubState}
use Rattle.block_table.specs.declared.tree.Tree.{Tree}
use Rattle.block_table.specs.Slot.{BlockSlot, free_slot}
use Rattle.blk_base.proofs.Members.{is_in}
use Rattle.std.specs.Prelude.{false, replicate, slice_index_or}
use Rattle.std.proofs.lemmas.Bool.{cases_eq}
use Rattle.tree_load.proofs.Taken.{block_aligned, block_apart}
use Rattle.block_table.specs.Table.{Table, empty_table, free_blocks}
use Rattle.block_table.specs.TreeIn.{IsSealedTree, IsTaken, block_at}
use Rattle.flat_model.specs.Coherent.{IsCoherent, IsCoherentVolume}
use Rattle.flat_model.specs.Volume.{RunSub, Subvolume, Volume, mounted, numbers_at_mount, subvolume_ids}
use Rattle.flat_model.proofs.Histories.{get_mounted, map_there}
use Rattle.image_faults.specs.Faulty.{HasNoFault, StandOnce}
use Rattle.image_faults.specs.Lists.{given, taken}
use Rattle.image_faults.specs.Said.{said_sub}
use Rattle.image_faults.proofs.Firsts.{none_is_faulty}
use Rattle.image_faults.proofs.FromLines.{are_coherent, are_items}
use Rattle.image_order.proofs.Committing.{none_twice_permuted, swap_data}
use Rattle.image_order.proofs.Reached.{data_found}
use Rattle.table_volume.specs.Gives.{AreAccounted, GivesSubvolume, data_in, sub_reach}
use Rattle.table_volume.specs.Running.{GiveVolume, GivesPart, id_of}
use Rattle.tree_check.specs.Blocks.{tree_data}
use Rattle.tree_frame.specs.Frame.{AreCurrent}
use Rattle.tree_frame.proofs.Reading.{all_parts}
use Rattle.tree_load.specs.Loaded.{AreTaken, tree_wanted}
use Rattle.tree_load.proofs.Tables.{live_not_free, live_state, taken_more}
use Rattle.tree_load.proofs.Taken.{none_taken}
use Rattle.tree_range.specs.Shape.{IsTree, node_pointers, reach_below}
use Rattle.tree_range.proofs.Times.{reach_taken}
use Rattle.tree_seal.specs.Above.{DirtyIsAbove}
use Rattle.volume_image.specs.Roots.{root_want}
use Rattle.volume_image.proofs.Lists.{in_cons, in_nothing}
use Rattle.volume_image.proofs.Members.{flat_map_in, in_map, map_in}
use Rattle.volume_image.proofs.Reaches.{head_in, none_twice_parts, tail_in}
use Rattle.volume_seal.specs.Sealed.{IsReady, states_reach}
use Rattle.tree_mount.specs.Mounted.{AreSubWants, AreWhole, IsRunState}
use Rattle.tree_mount.specs.Trees.{AreLoaded, items_of, reach_of, wants_data, wants_reach}
use Rattle.tree_mount.proofs.Counting.{used_are}
use Rattle.tree_mount.proofs.Leading.{all_slots}
use Rattle.tree_mount.proofs.Lists.{all_of}
use Rattle.tree_mount.proofs.Loading.{IsKept, data_kept, kept_by, reach_kept, sealed_kept}

-- ---- numbers

less_is : (k a : ℕ) → k < a → nat_cmp k a ≡ Less
less_is k a below = sym (nat_cmp_is k a Less below)

range_above : (k a n : ℕ) → k < a → AllByRecursion (λ y. nat_cmp k y ≡ Less) (range_with_len a n)
range_above k a zero below = tt
range_above k a (suc n) below = (less_is k a below, range_above k (a + 1) n (omega arith))

range_sorted : (a n : ℕ) → IsStrictlySortedBy nat_cmp (range_with_len a n)
unfolding IsStrictlySortedBy
range_sorted a zero = tt
range_sorted a (suc n) = (range_above a (a + 1) n (omega arith), range_sorted (a + 1) n)

ids_sorted : (n : ℕ) → IsStrictlySortedBy nat_cmp (subvolume_ids n)
unfolding IsStrictlySortedBy
ids_sorted zero = tt
ids_sorted (suc n) = (range_above 5 256 n (omega arith), range_sorted 256 n)

ids_rise : (n : ℕ) → IsStrictlyIncreasing (subvolume_ids n)
ids_rise n = IsStrictlyIncreasing-from_sorted (subvolume_ids n) (ids_sorted n)

range_low : (a n x : ℕ) → Contains (range_with_len a n) x → a ≤ x
range_low a zero x c = absurd (in_nothing x c)
range_low a (suc n) x c = elim (in_cons a x (range_with_len (a + 1) n) c) [ inl here ↦ omega arith | inr there ↦ let low = range_low (a + 1) n x there in omega arith ]

pub range_once : (a n : ℕ) → StandOnce (range_with_len a n)
range_once a zero = tt
range_once a (suc n) = ((λ c. let low = range_low (a + 1) n a c in omega arith), range_once (a + 1) n)

ids_once : (n : ℕ) → StandOnce (subvolume_ids n)
ids_once zero = tt
ids_once (suc n) = ((λ c. let low = range_low 256 n 5 c in omega arith), range_once 256 n)

one_of : {X : Type 0} (f : X → ℕ) (xs : List X) (x y : X) → StandOnce (map f xs) → Contains xs x → Contains xs y → f x ≡ f y → x ≡ y
one_of f [] x y once c d e = absurd (in_nothing x c)
one_of f (z ∷ xs) x y once c d e = elim (in_cons z x xs c) [
  | inl here ↦ elim (in_cons z y xs d) [
    | inl also ↦ sym here ∙ also
    | inr later ↦ absurd (once.0 (subst (Contains (map f xs)) (sym e ∙ sym (ap f here)) (map_in f xs y later)))
  ]
  | inr there ↦ elim (in_cons z y xs d) [
    | inl now ↦ absurd (once.0 (subst (Contains (map f xs)) (e ∙ sym (ap f now)) (map_in f xs x there)))
    | inr later ↦ one_of f xs x y once.1 there later e
  ]
]

-- ---- trees without a Dirty block

abbrev IsClean : Table → ℕ → Type 0
IsClean table at = (block_at table at).state ≢ Dirty

first_clean : (level : ℕ) (table : Table) (at : ℕ) → All (IsClean table) (reach_below level table at) → IsClean table at
first_clean zero table at clean = All-head (IsClean table) at [] clean
first_clean (suc level) table at clean = All-head (IsClean table) at (flat_map (λ (p : Pointer). reach_below level table p.at) (node_pointers table at)) clean

clean_above : (level : ℕ) (table : Table) (at : ℕ) → All (IsClean table) (reach_below level table at) → DirtyIsAbove level table at
clean_above zero table at clean = tt
clean_above (suc level) table at clean =
    let below = all_parts (IsClean table) (λ (p : Pointer). reach_below level table p.at) (node_pointers table at) (All-tail (IsClean table) at (flat_map (λ (p : Pointer). reach_below level table p.at) (node_pointers table at)) clean) in
    All-weaker (λ (p : Pointer). All (IsClean table) (reach_below level table p.at)) (λ (p : Pointer). ((block_at table p.at).state ≡ Dirty → (block_at table at).state ≡ Dirty) × DirtyIsAbove level table p.at)
    (λ p c. ((λ dirty. absurd (first_clean level table p.at c dirty)), clean_above level table p.at c)) (node_pointers table at) below

-- ---- trees, and their data behind each

abbrev pub subs_reach : Table → List Want → List ℕ
subs_reach table wants = flat_map (λ (want : Want). sub_reach table (tree_wanted want)) wants

pub reach_moved : (table : Table) (wants : List Want) → IsPermutation (subs_reach table wants) (wants_reach table wants ++ wants_data table wants)
reach_moved table [] = IsPermutation-refl []
reach_moved table (want ∷ wants) =
    swap_data (reach_of table want) (tree_data table (tree_wanted want)) (wants_reach table wants) (wants_data table wants) (subs_reach table wants) (reach_moved table wants)

over_map : {X Y : Type 0} (f : X → Y) (g : Y → List ℕ) (xs : List X) → flat_map (λ x. g (f x)) xs ≡ flat_map g (map f xs)
over_map f g [] = refl
over_map f g (x ∷ xs) = ap (λ (l : List ℕ). g (f x) ++ l) (over_map f g xs)

over_both : {X Y Z : Type 0} (f : X → Y) (g : Y → Z) (xs : List X) → map (λ x. g (f x)) xs ≡ map g (map f xs)
over_both f g [] = refl
over_both {Z = Z} f g (x ∷ xs) = ap (λ (l : List Z). g (f x) ∷ l) (over_both f g xs)

long_map : {X Y : Type 0} (f : X → Y) (xs : List X) → length (map f xs) ≡ length xs
long_map f [] = refl
long_map f (x ∷ xs) = ap suc (long_map f xs)

part_once : {X : Type 0} (f : X → List ℕ) (xs : List X) (x : X) → NoneTwice (flat_map f xs) → Contains xs x → NoneTwice (f x)
part_once f [] x once c = absurd (in_nothing x c)
part_once {X} f (y ∷ xs) x once c =
    let parts = none_twice_parts (f y) (flat_map f xs) once in
    elim (in_cons y x xs c) [ inl here ↦ subst (λ (z : X). NoneTwice (f z)) here parts.0 | inr there ↦ part_once f xs x parts.1 there ]

-- what a tree's items say, under the subvolume's number
abbrev pub entry_in : Table → Want → ℕ × Subvolume
entry_in table want = (want.owner, said_sub (items_of table want) (data_in table))

-- the volume of all trees
abbrev pub volume_by : Table → List Want → Volume
volume_by table wants = from_entries (map (entry_in table) wants)

free_or : (state : SlotState) → (state ≢ Free → state ≡ Live) → (state ≡ Free) ⊎ (state ≡ Live)
free_or Free h = inl refl
free_or Live h = inr refl
free_or Dirty h = inr (h (λ e. cc))
free_or Sealed h = inr (h (λ e. cc))
free_or LetGo h = inr (h (λ e. cc))

-- an empty table has Free blocks alone
nothing_at : (count place : ℕ) → slice_index_or (replicate count free_slot) place free_slot ≡ free_slot
nothing_at zero place = refl
nothing_at (suc count) zero = refl
nothing_at (suc count) (suc place) = nothing_at count place

nothing_there : (blocks at : ℕ) → block_at (empty_table blocks) at ≡ free_slot
nothing_there blocks at = elim (cases_eq (at % 4096) 0) [
  | inl whole ↦ block_aligned (empty_table blocks) at whole ∙ nothing_at blocks (at / 4096)
  | inr part ↦ block_apart (empty_table blocks) at part
]

module _ (super : SuperValue) (mid new : Table) (wants : List Want) (loaded : AreLoaded (empty_table super.blocks) mid (root_want super ∷ wants)) (whole : AreWhole mid new wants) where
  kept : (want : Want) → Contains (root_want super ∷ wants) want → IsKept mid new want
  kept want c = kept_by true mid new want (wants_data mid wants) whole.load (loaded.each want c)

  data_same : wants_data new wants ≡ wants_data mid wants
  data_same = data_kept mid new wants (λ want c. kept want (tail_in (root_want super) want wants c))

  reach_same : wants_reach new (root_want super ∷ wants) ≡ wants_reach mid (root_want super ∷ wants)
  reach_same = reach_kept mid new (root_want super ∷ wants) kept

  abbrev pub all : List ℕ
  all = wants_reach new (root_want super ∷ wants) ++ wants_data new wants

  all_same : all ≡ wants_reach mid (root_want super ∷ wants) ++ wants_data mid wants
  all_same = λ i. reach_same i ++ data_same i

  mid_taken : AreTaken mid (wants_reach mid (root_want super ∷ wants))
  mid_taken = taken_more (empty_table super.blocks) mid [] (wants_reach mid (root_want super ∷ wants)) loaded.load (none_taken super.blocks)

  mid_size : length mid.slots ≡ super.blocks
  mid_size = loaded.load.size ∙ all_slots super.blocks

  pub size : length new.slots ≡ super.blocks
  size = whole.load.size ∙ mid_size

  pub lists : new.lists ≡ 34
  lists = whole.load.lists ∙ loaded.load.lists

  pub all_taken : AreTaken new all
  all_taken = subst (AreTaken new) (sym all_same) (taken_more mid new (wants_reach mid (root_want super ∷ wants)) (wants_data mid wants) whole.load mid_taken)

  found : Rattle.image_order.proofs.Reached.ReachesData (length mid.slots) (wants_data mid wants) (wants_reach mid (root_want super ∷ wants)) (wants_reach mid (root_want super ∷ wants) ++ wants_data mid wants)
  found = data_found (length mid.slots) (wants_data mid wants) (wants_reach mid (root_want super ∷ wants)) (wants_reach mid (root_want super ∷ wants) ++ wants_data mid wants) (whole.reachable (wants_reach mid (root_want super ∷ wants)) mid_taken)

  pub all_once : NoneTwice all
  all_once = subst NoneTwice (sym all_same) (found.once loaded.once)

  pub live : (at : ℕ) → Contains all at → (block_at new at).state ≡ Live
  live at c = elim (Contains-append_cases (wants_reach mid (root_want super ∷ wants)) (wants_data mid wants) at (subst (λ (l : List ℕ). Contains l at) all_same c)) [
    | inl tree ↦
        let fresh : Contains (wants_data mid wants) at → ⊥ = λ d. (mid_taken at).0 tree (whole.load.fresh at d) in
        ap (λ (slot : BlockSlot). slot.state) (whole.load.others at fresh) ∙ live_state mid at (loaded.load.live at tree)
    | inr datum ↦ live_state new at (whole.load.live at datum)
  ]

  tree_allowed : (want : Want) → Contains (root_want super ∷ wants) want → (at : ℕ) → Contains (reach_of new want) at → IsAllowed (length new.slots) at
  tree_allowed want c at d = (All-contains (IsTaken new) (reach_of new want) at (reach_taken want.level new true want.at.0 (kept want c).tree.shape) d).allowed

  some_reach : (ws : List Want) → ((want : Want) → Contains ws want → (at : ℕ) → Contains (reach_of new want) at → IsAllowed (length new.slots) at) → (at : ℕ) → Contains (wants_reach new ws) at → IsAllowed (length new.slots) at
  some_reach [] each at c = absurd (in_nothing at c)
  some_reach (want ∷ ws) each at c = elim (Contains-append_cases (reach_of new want) (wants_reach new ws) at c) [ inl here ↦ each want (head_in want ws) at here | inr there ↦ some_reach ws (λ other d. each other (tail_in want other ws d)) at there ]

  pub all_allowed : (at : ℕ) → Contains all at → IsAllowed (length new.slots) at
  all_allowed at c = elim (Contains-append_cases (wants_reach new (root_want super ∷ wants)) (wants_data new wants) at c) [
    | inl tree ↦ some_reach (root_want super ∷ wants) tree_allowed at tree
    | inr datum ↦ subst (λ (n : ℕ). IsAllowed n at) (sym whole.load.size) (All-contains (IsAllowed (length mid.slots)) (wants_data mid wants) at found.allowed (subst (λ (l : List ℕ). Contains l at) data_same datum))
  ]

  pub used : free_blocks (empty_table super.blocks) ≡ free_blocks new + length all
  used = used_are super.blocks new all size all_once all_taken all_allowed

  -- ---- in the order of the subvolumes

  abbrev pub each_reach : List ℕ
  each_reach = reach_of new (root_want super) ++ subs_reach new wants

  pub moved : IsPermutation each_reach all
  moved = subst (IsPermutation each_reach) (sym (append_assoc (reach_of new (root_want super)) (wants_reach new wants) (wants_data new wants)))
      (IsPermutation-append_right (reach_of new (root_want super)) (subs_reach new wants) (wants_reach new wants ++ wants_data new wants) (reach_moved new wants))

  pub each_once : NoneTwice each_reach
  each_once = none_twice_permuted all each_reach all_once moved

  pub each_long : length each_reach ≡ length all
  each_long = sym (length_permutation each_reach all moved)

  in_all : (at : ℕ) → Contains each_reach at → Contains all at
  in_all at c = Contains-permutation each_reach all at moved c

  pub accounted : AreAccounted new each_reach
  accounted at not_free not_gone = Contains-permutation all each_reach at (IsPermutation-sym each_reach all moved) ((all_taken at).1 not_free)

  -- no list has a block
  pub none_out : (at : ℕ) → (block_at new at).out ≡ false
  none_out at = elim (is_in (wants_data mid wants) at) [
    | inl datum ↦ ap (λ (slot : BlockSlot). slot.out) (whole.load.live at datum)
    | inr no_datum ↦ ap (λ (slot : BlockSlot). slot.out) (whole.load.others at no_datum) ∙ elim (is_in (wants_reach mid (root_want super ∷ wants)) at) [
      | inl tree ↦ ap (λ (slot : BlockSlot). slot.out) (loaded.load.live at tree)
      | inr no_tree ↦ ap (λ (slot : BlockSlot). slot.out) (loaded.load.others at no_tree ∙ nothing_there super.blocks at)
    ]
  ]

  pub free_or_live : (at : ℕ) → ((block_at new at).state ≡ Free) ⊎ ((block_at new at).state ≡ Live)
  free_or_live at = free_or (block_at new at).state (λ used. live at ((all_taken at).1 used))

  -- ---- one tree

  clean_tree : (want : Want) → Contains (root_want super ∷ wants) want → All (IsClean new) (reach_of new want)
  clean_tree want c = all_of (IsClean new) (reach_of new want) (λ at d dirty.
      let here : Contains all at = Contains-append_left (wants_reach new (root_want super ∷ wants)) (wants_data new wants) at (flat_map_in (reach_of new) (root_want super ∷ wants) want at c d) in
      let no : Live ≡ Dirty = sym (live at here) ∙ dirty in cc)

  pub sealed : (want : Want) → Contains (root_want super ∷ wants) want → IsSealedTree new (tree_wanted want) want.fsid want.generation
  sealed want c = sealed_kept mid new want (kept want c) (loaded.sealed want c)

  pub ready : AreSubWants super wants → (want : Want) → Contains wants want → IsReady new (tree_wanted want) super.fsid
  ready subs want c = record {
    above = clean_above want.level new want.at.0 (clean_tree want (tail_in (root_want super) want wants c));
    written = (want.generation, subst (λ (fsid : List ℕ). IsSealedTree new (tree_wanted want) fsid want.generation) (subs.fsids want c) (sealed want (tail_in (root_want super) want wants c)));
  }

  pub root_stands : IsTree new (tree_wanted (root_want super))
  root_stands = (kept (root_want super) (head_in (root_want super) wants)).tree

  pub root_items : items_of new (root_want super) ≡ items_of mid (root_want super)
  root_items = (kept (root_want super) (head_in (root_want super) wants)).items

  subs_once : NoneTwice (subs_reach new wants)
  subs_once = (none_twice_parts (reach_of new (root_want super)) (subs_reach new wants) each_once).1

  sub_live : (want : Want) → Contains wants want → (at : ℕ) → Contains (sub_reach new (tree_wanted want)) at → Contains all at
  sub_live want c at d = in_all at (Contains-append_right (reach_of new (root_want super)) (subs_reach new wants) at (flat_map_in (λ (w : Want). sub_reach new (tree_wanted w)) wants want at c d))

  right : (want : Want) → Contains wants want → (ino : ℕ) → HasNoFault (items_of new want) (data_in new) ino
  right want c = none_is_faulty (items_of new want) (data_in new) (whole.right want c)

  pub gives : (want : Want) → Contains wants want → GivesSubvolume new (tree_wanted want) (said_sub (items_of new want) (data_in new))
  gives want c =
      let ok = whole.checkable want c in
      record {
        tree_in = ok.tree;
        items = are_items (items_of new want) (data_in new) ok.readable ok.there (right want c);
        data_taken = all_of (IsTaken new) (tree_data new (tree_wanted want)) (λ at d.
            let here = sub_live want c at (Contains-append_right (reach_of new want) (tree_data new (tree_wanted want)) at d) in
            record { allowed = all_allowed at here; taken = live_not_free new at (live at here) });
        once = part_once (λ (w : Want). sub_reach new (tree_wanted w)) wants want subs_once c;
      }

  pub is_coherent : (want : Want) → Contains wants want → IsCoherent (said_sub (items_of new want) (data_in new))
  is_coherent want c = let ok = whole.checkable want c in are_coherent (items_of new want) (data_in new) ok.readable ok.there (right want c)

  pub current : (want : Want) → Contains wants want → AreCurrent new (sub_reach new (tree_wanted want))
  current want c = all_of (λ (at : ℕ). (block_at new at).state ≢ LetGo) (sub_reach new (tree_wanted want)) (λ at d gone. let no : Live ≡ LetGo = sym (live at (sub_live want c at d)) ∙ gone in cc)

  -- ---- the states

  module _ (subs : AreSubWants super wants) (running : ℕ) (states : List SubState) (trees : map (λ (state : SubState). state.tree) states ≡ map tree_wanted wants) (each : (state : SubState) → Contains states state → IsRunState new running state) where
    pub reach_is : states_reach new states ≡ subs_reach new wants
    reach_is =
        over_map (λ (state : SubState). state.tree) (λ (tree : Tree). sub_reach new tree) states ∙ ap (flat_map (λ (tree : Tree). sub_reach new tree)) trees
        ∙ sym (over_map tree_wanted (λ (tree : Tree). sub_reach new tree) wants)

    owners : map id_of states ≡ map (λ (want : Want). want.owner) wants
    owners = over_both (λ (state : SubState). state.tree) (λ (tree : Tree). tree.owner) states ∙ ap (map (λ (tree : Tree). tree.owner)) trees ∙ sym (over_both tree_wanted (λ (tree : Tree). tree.owner) wants)

    pub long : length states ≡ length wants
    long = sym (long_map (λ (state : SubState). state.tree) states) ∙ ap length trees ∙ long_map tree_wanted wants

    pub ids : map id_of states ≡ subvolume_ids (length states)
    ids = owners ∙ subs.ids ∙ sym (ap subvolume_ids long)

    owners_once : StandOnce (map (λ (want : Want). want.owner) wants)
    owners_once = subst StandOnce (sym subs.ids) (ids_once (length wants))

    -- the tree of a state
    of_state : (state : SubState) → Contains states state → (want : Want) × Contains wants want × (tree_wanted want ≡ state.tree)
    of_state state c = in_map tree_wanted wants state.tree (subst (λ (l : List Tree). Contains l state.tree) trees (map_in (λ (s : SubState). s.tree) states state c))

    pub state_ready : All (λ (state : SubState). IsReady new state.tree super.fsid) states
    state_ready = all_of (λ (state : SubState). IsReady new state.tree super.fsid) states (λ state c. let w = of_state state c in subst (λ (tree : Tree). IsReady new tree super.fsid) w.2 (ready subs w.0 w.1))

    pub state_running : All (λ (state : SubState). state.running ≡ running) states
    state_running = all_of (λ (state : SubState). state.running ≡ running) states (λ state c. (each state c).running_is)

    there : (want : Want) → Contains wants want → get (volume_by new wants) want.owner ≡ Some (said_sub (items_of new want) (data_in new))
    there want c =
        given nat_cmp_total nat_cmp-IsAntisymmetric (map (entry_in new) wants) want.owner (said_sub (items_of new want) (data_in new))
        (λ sub d.
        let other = in_map (entry_in new) wants (want.owner, sub) d in
        let same : want ≡ other.0 = one_of (λ (w : Want). w.owner) wants want other.0 owners_once c other.1 (sym (ap (λ (e : ℕ × Subvolume). e.0) other.2)) in
        sym (ap (λ (e : ℕ × Subvolume). e.1) other.2) ∙ ap (λ (w : Want). said_sub (items_of new w) (data_in new)) (sym same))
        (map_in (entry_in new) wants want c)

    only_these : (id : ℕ) (sub : Subvolume) → get (volume_by new wants) id ≡ Some sub → (want : Want) × Contains wants want × (entry_in new want ≡ (id, sub))
    only_these id sub e = in_map (entry_in new) wants (id, sub) (taken nat_cmp_total nat_cmp-IsAntisymmetric (map (entry_in new) wants) id sub e)

    part : (state : SubState) → Contains states state → GivesPart new (mounted (volume_by new wants)) state
    part state c =
        let w = of_state state c in
        let said = said_sub (items_of new w.0) (data_in new) in
        let run : RunSub = record { sub = said; numbers = numbers_at_mount said } in
        let id : w.0.owner ≡ id_of state = ap (λ (tree : Tree). tree.owner) w.2 in
        let found : get (volume_by new wants) (id_of state) ≡ Some said = subst (λ (n : ℕ). get (volume_by new wants) n ≡ Some said) id (there w.0 w.1) in
        record {
          sub = run;
          there = get_mounted (volume_by new wants) (id_of state) ∙ ap (option_map (λ (sub : Subvolume). record { sub = sub; numbers = numbers_at_mount sub })) found;
          gives = (each state c).gives said (subst (λ (tree : Tree). GivesSubvolume new tree said) w.2 (gives w.0 w.1)) (is_coherent w.0 w.1) (subst (λ (tree : Tree). AreCurrent new (sub_reach new tree)) w.2 (current w.0 w.1));
        }

    pub given_volume : GiveVolume new states (mounted (volume_by new wants))
    given_volume = record {
      rising = subst IsStrictlyIncreasing (sym ids) (ids_rise (length states));
      each = all_of (GivesPart new (mounted (volume_by new wants))) states part;
      only = λ id sub e.
          let found = map_there (λ (s : Subvolume). record { sub = s; numbers = numbers_at_mount s }) (get (volume_by new wants) id) sub (sym (get_mounted (volume_by new wants) id) ∙ e) in
          let w = only_these id found.0 found.1 in
          subst (λ (l : List ℕ). Contains l id) (sym owners) (subst (Contains (map (λ (want : Want). want.owner) wants)) (ap (λ (p : ℕ × Subvolume). p.0) w.2) (map_in (λ (want : Want). want.owner) wants w.0 w.1));
      once = subst NoneTwice (sym reach_is) subs_once;
    }

    pub volume_coherent : IsCoherentVolume (volume_by new wants)
    volume_coherent id sub e =
        let w = only_these id sub e in
        subst IsCoherent (ap (λ (p : ℕ × Subvolume). p.1) w.2) (is_coherent w.0 w.1)
