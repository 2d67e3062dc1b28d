-- Data blocks are sealed: one, those of a run, those of a leaf's items, and those below a node.
use Rattle.std.proofs.Common.{◌≡◌, ◌≢◌, ◌∙◌, ◌≤◌, ◌<◌, ◌+◌, ◌-◌, ℕ, zero, suc, true, false, Bool, List, [], ◌∷◌, ◌++◌, length, drop, slice_get, Some, refl, sym, ap, subst, arith, add-one, inl, inr, append_assoc, length-append}
use Rattle.std.specs.Prelude.{All}
use Rattle.std.specs.List.{flat_map}
use Rattle.std.proofs.lemmas.Grind.{flat_map-append}
use Rattle.std.proofs.lemmas.List.{append-nil, drop_all}
use Rattle.std.proofs.lemmas.List.Elements.{All-cons, All-head, All-nil, All-tail, All-weaker}
use Rattle.blk_base.specs.declared.key.Addr.{Addr}
use Rattle.blk_base.specs.declared.key.Key.{Key}
use Rattle.blk_base.specs.Leaf.{Item, Pointer}
use Rattle.blk_base.specs.Trees.{first_key}
use Rattle.blk_base.proofs.Members.{in_nothing, in_one, is_in}
use Rattle.block_table.specs.declared.state.SlotState.TheVariants.{Dirty, Free, Sealed}
use Rattle.block_table.specs.Blocks.{BlockList, with_block}
use Rattle.block_table.specs.Slot.{BlockSlot, is_free}
use Rattle.block_table.specs.Table.{Table, slot_at, state_at, with_slot}
use Rattle.block_table.specs.TreeIn.{IsTaken, block_at}
use Rattle.block_table.proofs.Kept.{IsFound, found}
use Rattle.leaf_view.specs.Search.{children_of, contents_of, keys_of}
use Rattle.tree_range.specs.Shape.{AreAlike, IsSubtree, items_below, leaf_items, node_pointers, reach_below}
use Rattle.tree_range.proofs.Bodies.{leaf_items_are}
use Rattle.tree_range.proofs.Cuts.{IsAt, drop_here, mapped_at}
use Rattle.tree_range.proofs.Local.{IsAlikeBelow, alike_below}
use Rattle.tree_range.proofs.Rise.{All-left, All-right}
use Rattle.tree_blocks.specs.Lists.{IsLeafBlock, IsNodeBlock, leaf_list, node_list}
use Rattle.tree_blocks.specs.Steps.{IsLeafAt, IsNodeAt, IsSameBut, leaf_at, node_at}
use Rattle.tree_blocks.proofs.Listing.{leaf_from_ok, node_from_ok}
use Rattle.tree_blocks.proofs.Put.{put_others, put_slot}
use Rattle.tree_frame.proofs.Reading.{all_parts}
use Rattle.tree_seal.specs.OnImage.{AreClean}
use Rattle.tree_seal.specs.Sealing.{IsSealedSlot, IsSealing}
use Rattle.tree_seal.proofs.Cuts.{all_at}
use Rattle.tree_seal.proofs.Half.{node_at_shown}
use Rattle.tree_seal.proofs.Trees.{nothing_handed, nothing_sealed}
use Rattle.volume_image.specs.Subvolume.{data_addresses, item_addresses, run_addresses}
use Rattle.volume_seal.specs.Sealed.{IsDataSealed}
use Rattle.volume_seal.proofs.Parts.{clean_alike, clean_stays, data_join, data_none, lent_still, room_left, still_taken}

-- ---- one block

module _ (old new : Table) (at : Addr) (before after : BlockList) (dirty : state_at old at ≡ Dirty) (is : new ≡ with_slot old at (record (slot_at old at) { state = Sealed; out = true })) (handed : after ≡ with_block before at (slot_at old at).bytes) where
  place : IsFound old at
  place = found old at (ap is_free dirty)

  here : block_at new at.0 ≡ record (slot_at old at) { state = Sealed; out = true }
  here =
      put_slot old new at (record (slot_at old at) { state = Sealed; out = true }) old.spare is place.aligned place.inside

  others : IsSameBut old new (at.0 ∷ [])
  others =
      put_others old new at (record (slot_at old at) { state = Sealed; out = true }) old.spare is place.aligned place.inside

  same_bytes : (block_at new at.0).bytes ≡ (slot_at old at).bytes
  same_bytes = ap (λ (slot : BlockSlot). slot.bytes) here

  slot : IsSealedSlot (block_at old at.0) (block_at new at.0)
  slot = record {
    dirty = λ _. here ∙ ap (λ (bytes : List ℕ). record (slot_at old at) { state = Sealed; bytes = bytes; out = true }) (sym same_bytes);
    written = λ clean. absurd (clean dirty);
  }

  pub one_data : IsDataSealed old new (at.0 ∷ []) before after
  one_data = record {
    part = record {
      sealing = record {
        size = others.size;
        spare = ap (λ (t : Table). t.spare) is;
        lists = others.lists;
        slots = λ x there. subst (λ (a : ℕ). IsSealedSlot (block_at old a) (block_at new a)) (in_one at.0 x there) slot;
        others = others.others;
      };
      handed = record {
        order = at.0 ∷ [];
        pairs = ap (λ (l : BlockList). l.pairs) handed ∙ ap (λ (bytes : List ℕ). before.pairs ++ (at, bytes) ∷ []) (sym same_bytes);
        once = (λ c. in_nothing at.0 c, tt);
        few = omega arith;
        reached = λ x there. there;
        dirty = λ x there. subst (λ (a : ℕ). (block_at old a).state ≡ Dirty) (in_one at.0 x there) dirty;
        each = λ x there _. there;
      };
      room = ap (λ (l : BlockList). l.room) handed;
    };
    bytes = λ x. elim (is_in (at.0 ∷ []) x) [
      | inl there ↦ subst (λ (a : ℕ). (block_at new a).bytes ≡ (block_at old a).bytes) (in_one at.0 x there) same_bytes
      | inr none ↦ ap (λ (slot : BlockSlot). slot.bytes) (others.others x none)
    ];
  }

clean_one : (table : Table) (at : ℕ) → (block_at table at).state ≢ Dirty → AreClean table (at ∷ [])
clean_one table at clean =
    All-cons (λ (a : ℕ). (block_at table a).state ≢ Dirty) at [] clean (All-nil _)

pub no_data : (table : Table) (at : ℕ) (out : BlockList) → (block_at table at).state ≢ Dirty → IsDataSealed table table (at ∷ []) out out
no_data table at out clean = record {
  part = record {
    sealing = nothing_sealed table (at ∷ []) (clean_one table at clean);
    handed = nothing_handed table (at ∷ []) out.pairs (clean_one table at clean);
    room = refl;
  };
  bytes = λ x. refl;
}

-- ---- of a list of data blocks the rest is still to be sealed

pub record IsSealedUpTo (old now : Table) (whole rest : List ℕ) (before out : BlockList) : Type 0 where
  pub front : List ℕ
  pub cut : whole ≡ front ++ rest
  pub done : IsDataSealed old now front before out

pub up_to_none : (table : Table) (whole : List ℕ) (out : BlockList) → IsSealedUpTo table table whole whole out out
up_to_none table whole out = record { front = []; cut = refl; done = data_none table out }

pub up_to_all : (old now : Table) (whole rest : List ℕ) (before out : BlockList) → rest ≡ [] → IsSealedUpTo old now whole rest before out → IsDataSealed old now whole before out
up_to_all old now whole rest before out none h =
    subst (λ (l : List ℕ). IsDataSealed old now l before out) (sym (h.cut ∙ ap (λ (l : List ℕ). h.front ++ l) none ∙ append-nil h.front)) h.done

module _ (old now : Table) (whole part rest all : List ℕ) (before out : BlockList) (h : IsSealedUpTo old now whole all before out) (is : all ≡ part ++ rest) where
  pub up_to_more : (next : Table) (after : BlockList) → IsDataSealed now next part out after → IsSealedUpTo old next whole rest before after
  up_to_more next after more = record {
    front = h.front ++ part;
    cut = h.cut ∙ ap (λ (l : List ℕ). h.front ++ l) is ∙ sym (append_assoc h.front part rest);
    done = data_join old now next h.front part before out after h.done more;
  }

  pub up_to_taken : All (IsTaken old) whole → All (IsTaken now) part
  up_to_taken taken =
      let here : All (IsTaken old) (h.front ++ (part ++ rest)) = subst (All (IsTaken old)) (h.cut ∙ ap (λ (l : List ℕ). h.front ++ l) is) taken in
      All-weaker (IsTaken old) (IsTaken now) (λ at t. still_taken old now h.front at h.done.part.sealing t) part (All-left (IsTaken old) part rest (All-right (IsTaken old) h.front (part ++ rest) here))

  pub up_to_room : length before.pairs + length whole ≤ length old.slots → length out.pairs + length part ≤ length now.slots
  up_to_room room =
      let count = ap length h.cut in
      let parts = length-append h.front all in
      let rests = ap length is in
      let both = length-append part rest in
      room_left old now h.front before out (length whole) (length part) h.done.part room (omega (arith, count, parts, rests, both))

  pub up_to_lent : before.room ≡ length old.slots → out.room ≡ length now.slots
  up_to_lent lent = lent_still old now h.front before out h.done.part lent

-- a block that isn't Dirty stays meanwhile
pub up_to_clean : (old now : Table) (whole rest : List ℕ) (before out : BlockList) (at : ℕ) → IsSealedUpTo old now whole rest before out → (block_at old at).state ≢ Dirty → block_at now at ≡ block_at old at
up_to_clean old now whole rest before out at h clean =
    clean_stays old now h.front at h.done.part.sealing clean

pub up_to_same : (old now : Table) (whole rest all : List ℕ) (before out : BlockList) → all ≡ rest → IsSealedUpTo old now whole all before out → IsSealedUpTo old now whole rest before out
up_to_same old now whole rest all before out same h = subst (λ (l : List ℕ). IsSealedUpTo old now whole l before out) same h

-- ---- a run

pub run_first : (at count : ℕ) → 0 < count → run_addresses at count ≡ (at ∷ []) ++ run_addresses (at + 4096) (count - 1)
run_first at zero some = absurd (omega (arith, some))
run_first at (suc count) some =
    let less : count ≡ suc count - 1 = omega arith in
    ap (λ (n : ℕ). at ∷ run_addresses (at + 4096) n) less

pub run_none : (one two count : ℕ) → count ≤ 0 → run_addresses one count ≡ run_addresses two count
run_none one two zero none = refl
run_none one two (suc count) none = absurd (omega (arith, none))

pub run_empty : (at count : ℕ) → count ≤ 0 → run_addresses at count ≡ []
run_empty at zero none = refl
run_empty at (suc count) none = absurd (omega (arith, none))

pub length_run : (at count : ℕ) → length (run_addresses at count) ≡ count
length_run at zero = refl
length_run at (suc count) = ap suc (length_run (at + 4096) count)

-- ---- a leaf's items

-- the item at a place, by its key and its data
pub item_there : (items : List Item) (place : ℕ) (key : Key) (bytes : List ℕ) → slice_get (keys_of items) place ≡ Some key → slice_get (contents_of items) place ≡ Some bytes → slice_get items place ≡ Some (key, bytes)
item_there [] place key bytes k b = absurd cc
item_there (item ∷ items) zero key bytes k b =
    let first : item.0 ≡ key = cc in
    let second : item.1 ≡ bytes = cc in
    ap (λ (x : Key). Some (x, item.1)) first ∙ ap (λ (x : List ℕ). Some (key, x)) second
item_there (item ∷ items) (suc place) key bytes k b = item_there items place key bytes k b

pub data_here : (items : List Item) (place : ℕ) (item : Item) → slice_get items place ≡ Some item → data_addresses (drop place items) ≡ item_addresses item ++ data_addresses (drop (suc place) items)
data_here items place item there = ap data_addresses (drop_here items place item there)

-- ---- below a node

pub data_joined : {X : Type 0} (g : X → List Item) (x : X) (xs : List X) → data_addresses (flat_map g (x ∷ xs)) ≡ data_addresses (g x) ++ data_addresses (flat_map g xs)
data_joined g x xs = flat_map-append item_addresses (g x) (flat_map g xs)

abbrev pub below_pointer : ℕ → Table → Pointer → List Item
below_pointer level table pointer = items_below level table pointer.at

pub data_below_here : (level : ℕ) (table : Table) (pointers : List Pointer) (place : ℕ) (pointer : Pointer) → slice_get pointers place ≡ Some pointer
    → data_addresses (flat_map (below_pointer level table) (drop place pointers)) ≡ data_addresses (items_below level table pointer.at) ++ data_addresses (flat_map (below_pointer level table) (drop (suc place) pointers))
data_below_here level table pointers place pointer there =
    ap (λ (l : List Pointer). data_addresses (flat_map (below_pointer level table) l)) (drop_here pointers place pointer there) ∙ data_joined (below_pointer level table) pointer (drop (suc place) pointers)

module _ (level : ℕ) (old now : Table) (at : ℕ) (is_root : Bool) (shape : IsSubtree (suc level) old is_root at) (clean : AreClean old (reach_below (suc level) old at)) (front : List ℕ) (sealing : IsSealing old now front) where
  pub node_same : block_at now at ≡ block_at old at
  node_same =
      clean_stays old now front at sealing (All-head (λ (a : ℕ). (block_at old a).state ≢ Dirty) at (flat_map (λ (p : Pointer). reach_below level old p.at) (node_pointers old at)) clean)

  module _ (place : ℕ) (pointer : Pointer) (there : slice_get (node_pointers old at) place ≡ Some pointer) where
    child_clean_old : AreClean old (reach_below level old pointer.at)
    child_clean_old =
        all_at (λ (p : Pointer). AreClean old (reach_below level old p.at)) (node_pointers old at) place pointer there
        (all_parts (λ (a : ℕ). (block_at old a).state ≢ Dirty) (λ (p : Pointer). reach_below level old p.at) (node_pointers old at) (All-tail (λ (a : ℕ). (block_at old a).state ≢ Dirty) at (flat_map (λ (p : Pointer). reach_below level old p.at) (node_pointers old at)) clean))

    child_alike : AreAlike old now (reach_below level old pointer.at)
    child_alike = clean_alike old now front (reach_below level old pointer.at) sealing child_clean_old

    child_below : IsAlikeBelow level old now pointer.at
    child_below = alike_below level old now pointer.at child_alike

    pub child_shape : IsSubtree level now false pointer.at
    child_shape =
        child_below.shape false (all_at (λ (p : Pointer). IsSubtree level old false p.at × (first_key (items_below level old p.at) ≡ Some p.key)) (node_pointers old at) place pointer there shape.3).0

    pub child_items : items_below level now pointer.at ≡ items_below level old pointer.at
    child_items = child_below.items

    pub child_clean : AreClean now (reach_below level now pointer.at)
    child_clean =
        subst (AreClean now) (sym child_below.reach) (λ k d within dirty. child_clean_old k d within (ap (λ (slot : BlockSlot). slot.state) (sym (child_alike k d within)) ∙ dirty))

-- ---- a leaf in the table as it was

pub leaf_there : (old now : Table) (at : ℕ) → block_at now at ≡ block_at old at → IsLeafAt old at → IsLeafAt now at
leaf_there old now at same leaf = subst (λ (slot : BlockSlot). IsLeafBlock slot.bytes) (sym same) leaf

pub leaf_list_there : (old now : Table) (at : ℕ) → block_at now at ≡ block_at old at → leaf_at now at ≡ leaf_at old at
leaf_list_there old now at same = ap (λ (slot : BlockSlot). leaf_list slot.bytes) same

pub taken_there : (old now : Table) (at : ℕ) → block_at now at ≡ block_at old at → (block_at old at).state ≢ Free → (block_at now at).state ≢ Free
taken_there old now at same taken free = taken (ap (λ (slot : BlockSlot). slot.state) (sym same) ∙ free)

pub leaf_items_there : (table : Table) (at : ℕ) → IsLeafAt table at → leaf_items table at ≡ leaf_at table at
leaf_items_there table at leaf = leaf_items_are table at (leaf_at table at) leaf

-- ---- one item of a leaf

module _ (old now : Table) (at place : ℕ) (before out : BlockList) (h : IsSealedUpTo old now (data_addresses (leaf_items old at)) (data_addresses (drop place (leaf_items old at))) before out) (leaf : IsLeafAt old at) (here : (block_at old at).state ≢ Free) (clean : (block_at old at).state ≢ Dirty) where
  same_leaf : block_at now at ≡ block_at old at
  same_leaf =
      up_to_clean old now (data_addresses (leaf_items old at)) (data_addresses (drop place (leaf_items old at))) before out at h clean

  pub leaf_taken : (block_at now at).state ≢ Free
  leaf_taken = taken_there old now at same_leaf here

  pub leaf_still : IsLeafAt now at
  leaf_still = leaf_there old now at same_leaf leaf

  pub leaf_within : (count : ℕ) → count ≡ length (leaf_at old at) → place < count → place < length (leaf_at now at)
  leaf_within count is within = let same = ap length (leaf_list_there old now at same_leaf) in omega (arith, same, is, within)

  pub leaf_done : (count : ℕ) → count ≡ length (leaf_at old at) → count ≤ place → IsDataSealed old now (data_addresses (leaf_items old at)) before out
  leaf_done count is past =
      let size = ap length (leaf_items_there old at leaf) in
      up_to_all old now (data_addresses (leaf_items old at)) (data_addresses (drop place (leaf_items old at))) before out (ap data_addresses (drop_all place (leaf_items old at) (omega (arith, size, is, past)))) h

  module _ (key : Key) (bytes : List ℕ) (run_at blocks : ℕ) (k : slice_get (keys_of (leaf_at now at)) place ≡ Some key) (b : slice_get (contents_of (leaf_at now at)) place ≡ Some bytes) (run : run_addresses run_at blocks ≡ item_addresses (key, bytes)) where
    item_is : slice_get (leaf_items old at) place ≡ Some (key, bytes)
    item_is =
        ap (λ (l : List Item). slice_get l place) (leaf_items_there old at leaf ∙ sym (leaf_list_there old now at same_leaf)) ∙ item_there (leaf_at now at) place key bytes k b

    next_is : data_addresses (drop place (leaf_items old at)) ≡ run_addresses run_at blocks ++ data_addresses (drop (place + 1) (leaf_items old at))
    next_is =
        data_here (leaf_items old at) place (key, bytes) item_is ∙ ap (λ (l : List ℕ). l ++ data_addresses (drop (suc place) (leaf_items old at))) (sym run)
        ∙ ap (λ (n : ℕ). run_addresses run_at blocks ++ data_addresses (drop n (leaf_items old at))) (sym (add-one place))

    pub run_taken : All (IsTaken old) (data_addresses (leaf_items old at)) → All (IsTaken now) (run_addresses run_at blocks)
    run_taken taken =
        up_to_taken old now (data_addresses (leaf_items old at)) (run_addresses run_at blocks) (data_addresses (drop (place + 1) (leaf_items old at))) (data_addresses (drop place (leaf_items old at))) before out h next_is taken

    pub run_lent : before.room ≡ length old.slots → out.room ≡ length now.slots
    run_lent lent =
        up_to_lent old now (data_addresses (leaf_items old at)) (run_addresses run_at blocks) (data_addresses (drop (place + 1) (leaf_items old at))) (data_addresses (drop place (leaf_items old at))) before out h next_is lent

    pub run_room : length before.pairs + length (data_addresses (leaf_items old at)) ≤ length old.slots → length out.pairs + blocks ≤ length now.slots
    run_room room =
        let left = up_to_room old now (data_addresses (leaf_items old at)) (run_addresses run_at blocks) (data_addresses (drop (place + 1) (leaf_items old at))) (data_addresses (drop place (leaf_items old at))) before out h next_is room in
        let long = length_run run_at blocks in
        omega (arith, left, long)

    pub run_more : (next : Table) (after : BlockList) → IsDataSealed now next (run_addresses run_at blocks) out after → IsSealedUpTo old next (data_addresses (leaf_items old at)) (data_addresses (drop (place + 1) (leaf_items old at))) before after
    run_more next after more =
        up_to_more old now (data_addresses (leaf_items old at)) (run_addresses run_at blocks) (data_addresses (drop (place + 1) (leaf_items old at))) (data_addresses (drop place (leaf_items old at))) before out h next_is next after more

-- ---- a tree of one leaf

pub record IsCleanLeaf (table : Table) (at : ℕ) : Type 0 where
  pub leaf : IsLeafAt table at
  pub here : (block_at table at).state ≢ Free
  pub clean : (block_at table at).state ≢ Dirty

pub leaf_level : (level : ℕ) (table : Table) (is_root : Bool) (at : ℕ) → level ≡ 0 → IsSubtree level table is_root at → AreClean table (reach_below level table at) → IsCleanLeaf table at
leaf_level zero table is_root at e shape clean = record {
  leaf = leaf_from_ok (block_at table at).bytes shape.1;
  here = shape.0.taken;
  clean = All-head (λ (a : ℕ). (block_at table a).state ≢ Dirty) at [] clean;
}
leaf_level (suc level) table is_root at e shape clean = absurd (omega (arith, e))

-- ---- one child of a node

abbrev pub data_behind : ℕ → Table → ℕ → ℕ → List ℕ
data_behind level table at place = data_addresses (flat_map (below_pointer level table) (drop place (node_pointers table at)))

pub node_of : (level : ℕ) (table : Table) (is_root : Bool) (at : ℕ) → IsSubtree (suc level) table is_root at → IsNodeAt table at
node_of level table is_root at shape = node_from_ok (block_at table at).bytes shape.1

module _ (level : ℕ) (old now : Table) (at place : ℕ) (before out : BlockList) (h : IsSealedUpTo old now (data_addresses (items_below (suc level) old at)) (data_behind level old at place) before out) (is_root : Bool) (shape : IsSubtree (suc level) old is_root at) (clean : AreClean old (reach_below (suc level) old at)) where
  node_is_same : block_at now at ≡ block_at old at
  node_is_same = node_same level old now at is_root shape clean h.front h.done.part.sealing

  pub node_taken : (block_at now at).state ≢ Free
  node_taken = taken_there old now at node_is_same shape.0.taken

  pub node_still : IsNodeAt now at
  node_still =
      subst (λ (slot : BlockSlot). IsNodeBlock slot.bytes) (sym node_is_same) (node_of level old is_root at shape)

  node_list_same : node_at now at ≡ node_pointers old at
  node_list_same = ap (λ (slot : BlockSlot). node_list slot.bytes) node_is_same ∙ node_at_shown old at

  pub node_within : (count : ℕ) → count ≡ length (node_at old at) → place < count → place < length (node_at now at)
  node_within count is within =
      let same = ap length node_list_same in
      let shown = ap length (node_at_shown old at) in
      omega (arith, same, shown, is, within)

  pub node_done : (count : ℕ) → count ≡ length (node_at old at) → count ≤ place → IsDataSealed old now (data_addresses (items_below (suc level) old at)) before out
  node_done count is past =
      let shown = ap length (node_at_shown old at) in
      up_to_all old now (data_addresses (items_below (suc level) old at)) (data_behind level old at place) before out (ap (λ (l : List Pointer). data_addresses (flat_map (below_pointer level old) l)) (drop_all place (node_pointers old at) (omega (arith, shown, is, past)))) h

  module _ (child generation : ℕ) (listed : slice_get (children_of (node_at now at)) place ≡ Some (child, generation)) where
    found_child : IsAt {B = ℕ × ℕ} (λ (p : Pointer). (p.at, p.generation)) (node_at now at) place (child, generation)
    found_child = mapped_at (λ (p : Pointer). (p.at, p.generation)) (node_at now at) place (child, generation) listed

    child_is : found_child.element.at ≡ child
    child_is = ap (λ (pair : ℕ × ℕ). pair.0) found_child.value_is

    pointer_there : slice_get (node_pointers old at) place ≡ Some found_child.element
    pointer_there = ap (λ (l : List Pointer). slice_get l place) (sym node_list_same) ∙ found_child.at_place

    pub below_shape : IsSubtree level now false child
    below_shape =
        subst (IsSubtree level now false) child_is (child_shape level old now at is_root shape clean h.front h.done.part.sealing place found_child.element pointer_there)

    pub below_clean : AreClean now (reach_below level now child)
    below_clean =
        subst (λ (a : ℕ). AreClean now (reach_below level now a)) child_is (child_clean level old now at is_root shape clean h.front h.done.part.sealing place found_child.element pointer_there)

    below_items : items_below level now child ≡ items_below level old found_child.element.at
    below_items =
        ap (items_below level now) (sym child_is) ∙ child_items level old now at is_root shape clean h.front h.done.part.sealing place found_child.element pointer_there

    next_behind : data_behind level old at place ≡ data_addresses (items_below level now child) ++ data_behind level old at (place + 1)
    next_behind =
        data_below_here level old (node_pointers old at) place found_child.element pointer_there
        ∙ ap (λ (l : List Item). data_addresses l ++ data_behind level old at (suc place)) (sym below_items)
        ∙ ap (λ (n : ℕ). data_addresses (items_below level now child) ++ data_behind level old at n) (sym (add-one place))

    pub below_taken : All (IsTaken old) (data_addresses (items_below (suc level) old at)) → All (IsTaken now) (data_addresses (items_below level now child))
    below_taken taken =
        up_to_taken old now (data_addresses (items_below (suc level) old at)) (data_addresses (items_below level now child)) (data_behind level old at (place + 1)) (data_behind level old at place) before out h next_behind taken

    pub below_lent : before.room ≡ length old.slots → out.room ≡ length now.slots
    below_lent lent =
        up_to_lent old now (data_addresses (items_below (suc level) old at)) (data_addresses (items_below level now child)) (data_behind level old at (place + 1)) (data_behind level old at place) before out h next_behind lent

    pub below_room : length before.pairs + length (data_addresses (items_below (suc level) old at)) ≤ length old.slots → length out.pairs + length (data_addresses (items_below level now child)) ≤ length now.slots
    below_room room =
        up_to_room old now (data_addresses (items_below (suc level) old at)) (data_addresses (items_below level now child)) (data_behind level old at (place + 1)) (data_behind level old at place) before out h next_behind room

    pub below_more : (next : Table) (after : BlockList) → IsDataSealed now next (data_addresses (items_below level now child)) out after → IsSealedUpTo old next (data_addresses (items_below (suc level) old at)) (data_behind level old at (place + 1)) before after
    below_more next after more =
        up_to_more old now (data_addresses (items_below (suc level) old at)) (data_addresses (items_below level now child)) (data_behind level old at (place + 1)) (data_behind level old at place) before out h next_behind next after more
