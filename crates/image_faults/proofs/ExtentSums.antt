-- A file has as many bytes in blocks as its extents cover.
use Rattle.std.proofs.Common.{◌≡◌, ◌<◌, ◌+◌, ◌*◌, ◌/◌, ◌++◌, ℕ, zero, suc, Bool, true, false, cond, List, [], ◌∷◌, length, map, flat_map, sum_by, Contains, Option, Some, None, is_some, Result, Ok, Err, nat_cmp, refl, sym, ap, subst, ◌∙◌, arith, inl, inr, length-append}
use Rattle.std.proofs.lemmas.Bool.{and_parts, eqb-true, cases_order}
use Rattle.std.proofs.lemmas.List.{map-append}
use Rattle.std.proofs.lemmas.List.Sums.{sum_by-cons}
use Rattle.std.proofs.lemmas.List.Elements.{Contains-append_left}
use Rattle.std.specs.Cmp.{nat_cmp_total}
use Rattle.std.specs.FinMap.{get, len, from_entries, contains_key, len-empty, len-insert, nat_cmp-IsAntisymmetric}
use Rattle.blk_base.specs.declared.fault.ItemFault.{ItemFault}
use Rattle.blk_base.specs.Keys.{KeyBelow, extent_data}
use Rattle.blk_base.specs.Leaf.{Item}
use Rattle.blk_base.specs.Extents.{ExtentValue, Inline, Regular, Hole, extent_of}
use Rattle.item_laws.specs.ExtentLaws.{extent_from}
use Rattle.volume_image.specs.Subvolume.{Data, make_key, extent_len}
use Rattle.volume_image.specs.Tree.{ItemsRise}
use Rattle.volume_image.proofs.Lists.{in_nothing, in_cons}
use Rattle.volume_image.proofs.Reaches.{head_in, tail_in}
use Rattle.volume_image.proofs.Members.{in_map, map_in}
use Rattle.volume_image.proofs.Extents.{run_is_reached}
use Rattle.image_faults.specs.Said.{is_item_of, block_there, run_blocks, extent_blocks, blocks_in, said_blocks}
use Rattle.image_faults.specs.Faulty.{AreReadable, HasData, StandOnce}
use Rattle.image_faults.specs.Lists.{in_flat_map, once_append, taken}
use Rattle.image_faults.specs.Counts.{extent_bytes}
use Rattle.image_faults.proofs.Rising.{head_below, rise_tail, not_below_itself}
use Rattle.image_faults.proofs.Readings.{file_blocks_list, BlockItem, block_from, from_run_blocks}
use Rattle.image_faults.proofs.FromExtents.{behind}

-- ---- maps of lists with different keys

none_there : {X : Type 0} (es : List (ℕ × X)) (k : ℕ) → (Contains (map (λ (e : ℕ × X). e.0) es) k → ⊥) → contains_key (from_entries {R = nat_cmp} es) k ≡ false
none_there {X} es k absent = go (get (from_entries {R = nat_cmp} es) k) refl
  where
    go : (o : Option X) → get (from_entries {R = nat_cmp} es) k ≡ o → is_some (get (from_entries {R = nat_cmp} es) k) ≡ false
    go None e = ap is_some e
    go (Some v) e = absurd (absent (map_in (λ (e : ℕ × X). e.0) es (k, v) (taken nat_cmp_total nat_cmp-IsAntisymmetric es k v e)))

len_of_list : {X : Type 0} (es : List (ℕ × X)) → StandOnce (map (λ (e : ℕ × X). e.0) es) → len (from_entries {R = nat_cmp} es) ≡ length es
len_of_list {X} [] once = len-empty nat_cmp X
len_of_list {X} (e ∷ es) once =
    let rest = len_of_list es once.1 in
    let one = len-insert nat_cmp_total (from_entries {R = nat_cmp} es) e.0 e.1 ∙ ap (λ b. cond b (len (from_entries {R = nat_cmp} es)) (len (from_entries {R = nat_cmp} es) + 1)) (none_there es e.0 once.0) in
    omega arith

-- ---- runs

abbrev numbers : List (ℕ × List ℕ) → List ℕ
numbers = map (λ (e : ℕ × List ℕ). e.0)

run_once : (blocks : Data) (count number at : ℕ) → StandOnce (numbers (run_blocks blocks number at count))
run_once blocks zero number at = tt
run_once blocks (suc count) number at =
    let rest = run_once blocks count (number + 1) (at + 4096) in
    subst StandOnce (sym (map-append (λ (e : ℕ × List ℕ). e.0) (block_there number (blocks at)) (run_blocks blocks (number + 1) (at + 4096) count))) (go (blocks at) rest)
  where
    later : (n : ℕ) → Contains (numbers (run_blocks blocks (number + 1) (at + 4096) count)) n → number < n
    later n c =
        let e = in_map (λ (e : ℕ × List ℕ). e.0) (run_blocks blocks (number + 1) (at + 4096) count) n c in
        let run = from_run_blocks blocks count (number + 1) (at + 4096) e.0.0 e.0.1 e.1 in
        let place = run.2 in
        let same = e.2 in
        omega arith

    go : (o : Option (List ℕ)) → StandOnce (numbers (run_blocks blocks (number + 1) (at + 4096) count)) → StandOnce (numbers (block_there number o) ++ numbers (run_blocks blocks (number + 1) (at + 4096) count))
    go None rest = rest
    go (Some b) rest = (λ c. let above = later number c in omega arith, rest)

run_length : (blocks : Data) (count number at : ℕ) → ((i : ℕ) → i < count → (block : List ℕ) × (blocks (at + 4096 * i) ≡ Some block)) → length (run_blocks blocks number at count) ≡ count
run_length blocks zero number at held = refl
run_length blocks (suc count) number at held =
    let rest = run_length blocks count (number + 1) (at + 4096) (λ i below. let b = held (suc i) (omega arith) in (b.0, ap blocks (let e : (at + 4096) + 4096 * i ≡ at + 4096 * suc i = omega arith in e) ∙ b.1)) in
    let first = held 0 (omega arith) in
    let here : blocks at ≡ Some first.0 = ap blocks (let e : at ≡ at + 4096 * 0 = omega arith in e) ∙ first.1 in
    let one : length (block_there number (blocks at)) ≡ 1 = ap (λ o. length (block_there number o)) here in
    let joined = length-append (block_there number (blocks at)) (run_blocks blocks (number + 1) (at + 4096) count) in
    omega arith

-- ---- lists of items

pub once_rising_in : {Y : Type 0} (f : Item → List Y) (items : List Item) → ItemsRise items → ((item : Item) → Contains items item → StandOnce (f item))
    → ((one two : Item) (y : Y) → Contains items one → Contains items two → KeyBelow one.0 two.0 → Contains (f one) y → Contains (f two) y → ⊥) → StandOnce (flat_map f items)
once_rising_in f [] rise each apart = tt
once_rising_in f (item ∷ items) rise each apart =
    once_append (f item) (flat_map f items) (each item (head_in item items))
    (once_rising_in f items (rise_tail item items rise) (λ other c. each other (tail_in item other items c)) (λ one two y c d. apart one two y (tail_in item one items c) (tail_in item two items d)))
    (λ y c d. let found = in_flat_map f items y d in apart item found.0 y (head_in item items) (tail_in item found.0 items found.1) (head_below item items rise found.0 found.1) c found.2)

numbers_of : (f : Item → List (ℕ × List ℕ)) (items : List Item) → numbers (flat_map f items) ≡ flat_map (λ item. numbers (f item)) items
numbers_of f [] = refl
numbers_of f (item ∷ items) = map-append (λ (e : ℕ × List ℕ). e.0) (f item) (flat_map f items) ∙ ap (λ ns. numbers (f item) ++ ns) (numbers_of f items)

module _ (items : List Item) (blocks : Data) (ok : AreReadable items) (held : HasData items blocks) (ino : ℕ) where
  item_once : (item : Item) → StandOnce (numbers (blocks_in blocks ino item))
  item_once item = go (is_item_of extent_data ino item.0) (extent_of item.0 item.1)
    where
      go : (b : Bool) (r : Result ExtentValue ItemFault) → StandOnce (numbers (cond b (extent_blocks blocks (item.0.offset / 4096) r) []))
      go true (Ok (Regular at from length')) = run_once blocks (length' / 4096) (item.0.offset / 4096) at
      go true (Ok (Inline content)) = tt
      go true (Ok (Hole length')) = tt
      go true (Err fault) = tt
      go false r = tt

  -- the extent that an item is, where it says a block of the inode
  extent_here : (item : Item) (n : ℕ) → Contains items item → Contains (numbers (blocks_in blocks ino item)) n
      → (block : List ℕ) × (is : BlockItem items blocks ino n block) × (item.0 ≡ make_key ino extent_data is.offset)
  extent_here item n c d =
      let e = in_map (λ (x : ℕ × List ℕ). x.0) (blocks_in blocks ino item) n d in
      let alone = Contains-append_left (blocks_in blocks ino item) [] e.0 e.1 in
      let is = block_from (item ∷ []) blocks ino e.0.0 e.0.1 alone in
      let same : item ≡ (make_key ino extent_data is.offset, is.bytes) = elim (in_cons item (make_key ino extent_data is.offset, is.bytes) [] is.there) [ inl here ↦ here | inr none ↦ absurd (in_nothing (make_key ino extent_data is.offset, is.bytes) none) ] in
      let made : BlockItem items blocks ino n e.0.1 = record {
        offset = is.offset;
        bytes = is.bytes;
        there = subst (Contains items) same c;
        at = is.at;
        from = is.from;
        len = is.len;
        read = is.read;
        i = is.i;
        below = is.below;
        number_is = sym e.2 ∙ is.number_is;
        block_is = is.block_is;
      } in
      (e.0.1, made, ap (λ (o : Item). o.0) same)

  items_apart : (one two : Item) (n : ℕ) → Contains items one → Contains items two → KeyBelow one.0 two.0 → Contains (numbers (blocks_in blocks ino one)) n → Contains (numbers (blocks_in blocks ino two)) n → ⊥
  items_apart one two n c d below e f =
      let a = extent_here one n c e in
      let b = extent_here two n d f in
      elim (cases_order a.1.offset b.1.offset) [
        | inl same ↦ not_below_itself one.0 two.0 (a.2 ∙ (λ i. make_key ino extent_data (same i)) ∙ sym b.2) below
        | inr differ ↦ elim differ [ inl less ↦ behind items blocks ok ino n a.0 b.0 a.1 b.1 less | inr more ↦ behind items blocks ok ino n b.0 a.0 b.1 a.1 more ]
      ]

  all_once : StandOnce (numbers (file_blocks_list items blocks ino))
  all_once = subst StandOnce (sym (numbers_of (blocks_in blocks ino) items)) (once_rising_in (λ item. numbers (blocks_in blocks ino item)) items ok.rise (λ item c. item_once item) items_apart)

  -- an item's blocks are as many as it covers bytes of
  item_bytes : (item : Item) → Contains items item → 4096 * length (blocks_in blocks ino item) ≡ extent_bytes ino item
  item_bytes item c = go (is_item_of extent_data ino item.0) refl (extent_of item.0 item.1) refl
    where
      go : (b : Bool) → is_item_of extent_data ino item.0 ≡ b → (r : Result ExtentValue ItemFault) → extent_of item.0 item.1 ≡ r → 4096 * length (cond b (extent_blocks blocks (item.0.offset / 4096) r) []) ≡ cond b (extent_len item.0 item.1) 0
      go false t r e = refl
      go true t (Ok (Regular at from long)) e =
          let is = extent_from item.0 item.1 (Regular at from long) e in
          let run = is.9 in
          let whole = run.0 in
          let parts = and_parts _ _ t in
          let count = run_length blocks (long / 4096) (item.0.offset / 4096) at (λ i below. held (at + 4096 * i) (run_is_reached items item.0 item.1 at from long i c (eqb-true item.0.kind extent_data parts.0) is below)) in
          let size : extent_len item.0 item.1 ≡ long = rw e refl in
          omega arith
      go true t (Ok (Inline content)) e = let size : extent_len item.0 item.1 ≡ 0 = rw e refl in omega arith
      go true t (Ok (Hole long)) e = let size : extent_len item.0 item.1 ≡ 0 = rw e refl in omega arith
      go true t (Err fault) e = let size : extent_len item.0 item.1 ≡ 0 = rw e refl in omega arith

list_bytes : (f : Item → List (ℕ × List ℕ)) (g : Item → ℕ) (items : List Item) → ((item : Item) → Contains items item → 4096 * length (f item) ≡ g item) → 4096 * length (flat_map f items) ≡ sum_by g items
list_bytes f g [] each = omega arith
list_bytes f g (item ∷ items) each =
    let first = each item (head_in item items) in
    let rest = list_bytes f g items (λ other c. each other (tail_in item other items c)) in
    let joined = length-append (f item) (flat_map f items) in
    let sum = sum_by-cons g item items in
    omega arith

pub blocks_have_bytes : (items : List Item) (blocks : Data) (ino : ℕ) → AreReadable items → HasData items blocks → 4096 * len (said_blocks items blocks ino) ≡ sum_by (extent_bytes ino) items
unfolding said_blocks
blocks_have_bytes items blocks ino ok held =
    let count = len_of_list (file_blocks_list items blocks ino) (all_once items blocks ok held ino) in
    ap (λ n. 4096 * n) count ∙ list_bytes (blocks_in blocks ino) (extent_bytes ino) items (item_bytes items blocks ok held ino)
