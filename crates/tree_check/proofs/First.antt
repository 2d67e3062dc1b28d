-- The fault that the check of a tree's items answers is that of the first faulty item, and names a leaf that has it.
use Rattle.std.proofs.Common.{◌≡◌, ◌⊎◌, ◌<◌, ℕ, Bool, true, false, List, [], ◌∷◌, ◌++◌, Contains, Option, Some, None, Result, Ok, Err, refl, sym, ap, subst, ◌∙◌, inl, inr, append_assoc}
use Rattle.std.specs.Prelude.{◌==◌, ◌&&◌, nat_lt}
use Rattle.std.specs.List.{flat_map}
use Rattle.std.proofs.lemmas.Bool.{and_parts, cases_Bool, eqb-true, ltb-true, true≢false}
use Rattle.std.proofs.lemmas.List.Elements.{Contains-append_left, Contains-append_right}
use Rattle.blk_base.specs.declared.fault.ItemFault.{ItemFault}
use Rattle.blk_base.specs.declared.key.Addr.{Addr}
use Rattle.blk_base.specs.declared.key.Key.{Key}
use Rattle.blk_base.specs.ItemFaults.{item_fault}
use Rattle.blk_base.specs.Keys.{extent_data}
use Rattle.blk_base.specs.Leaf.{Item}
use Rattle.blk_base.specs.Trees.{ItemsRise}
use Rattle.block_table.specs.declared.tree.Tree.{Tree}
use Rattle.block_table.specs.Table.{Table}
use Rattle.tree_range.specs.Shape.{IsTree, leaf_items, tree_items}
use Rattle.tree_range.proofs.Rise.{rise_left}
use Rattle.volume_image.specs.Subvolume.{make_key}
use Rattle.volume_image.proofs.Reaches.{head_in, tail_in}
use Rattle.tree_check.specs.declared.fault.TreeFault.{TreeFault}
use Rattle.tree_check.specs.declared.item.FileEnd.{FileEnd}
use Rattle.tree_check.specs.Items.{AreBytes, IsFaultOf, IsFirstFault, IsOverlapped, and_then, end_of, fault_behind, is_below_end, items_answer, leaf_checked, leaves_below, leaves_checked, or_overlap, unless_fault}
use Rattle.tree_check.proofs.Apart.{end_at, end_is, is_extent, no_end, right_from}
use Rattle.tree_check.proofs.Passing.{AllPass, items_flat, last_append, last_end, leaf_from, pass_append}

-- ---- where a check stops

-- among these items the first with a fault behind the one in front of it
record IsStop (end : Option FileEnd) (items : List Item) (item : Item) (why : ItemFault) : Type 0 where
  before : List Item
  after : List Item
  split : items ≡ before ++ item ∷ after
  pass : AllPass end before
  fault : fault_behind (last_end end before) item ≡ Some why

record IsLeafStop (at : Addr) (end : Option FileEnd) (items : List Item) (fault : TreeFault) : Type 0 where
  item : Item
  why : ItemFault
  is : fault ≡ TreeFault.Item at item.0 why
  stop : IsStop end items item why

leaf_stop : (at : Addr) (end : Option FileEnd) (items : List Item) (fault : TreeFault) → leaf_checked at end items ≡ Err fault → IsLeafStop at end items fault
leaf_stop at end [] fault h = absurd cc
leaf_stop at end (item ∷ items) fault h = go (fault_behind end item) refl h (leaf_stop at (end_of item) items fault)
  where
    go : (found : Option ItemFault) → fault_behind end item ≡ found → unless_fault at item.0 found (leaf_checked at (end_of item) items) ≡ Err fault
        → (leaf_checked at (end_of item) items ≡ Err fault → IsLeafStop at (end_of item) items fault) → IsLeafStop at end (item ∷ items) fault
    go (Some why) is h later = record { item = item; why = why; is = cc; stop = record { before = []; after = items; split = refl; pass = tt; fault = is } }
    go None is h later =
        let rest = later h in
        record {
          item = rest.item;
          why = rest.why;
          is = rest.is;
          stop = record { before = item ∷ rest.stop.before; after = rest.stop.after; split = ap (λ (l : List Item). item ∷ l) rest.stop.split; pass = (is, rest.stop.pass); fault = rest.stop.fault };
        }

record AreStopped (table : Table) (end : Option FileEnd) (leaves : List ℕ) (fault : TreeFault) : Type 0 where
  at : Addr
  item : Item
  why : ItemFault
  is : fault ≡ TreeFault.Item at item.0 why
  leaf : Contains leaves at.0
  held : Contains (leaf_items table at.0) item
  stop : IsStop end (flat_map (leaf_items table) leaves) item why

then_stops : {A B : Type 0} (r : Result A TreeFault) (f : A → Result B TreeFault) (fault : TreeFault) → and_then r f ≡ Err fault → (r ≡ Err fault) ⊎ ((x : A) × (r ≡ Ok x) × (f x ≡ Err fault))
then_stops (Ok x) f fault h = inr (x, refl, h)
then_stops (Err other) f fault h = inl cc

in_split : (items before after : List Item) (item : Item) → items ≡ before ++ item ∷ after → Contains items item
in_split items before after item split = subst (λ (l : List Item). Contains l item) (sym split) (Contains-append_right before (item ∷ after) item (head_in item after))

leaves_stop : (table : Table) (end : Option FileEnd) (leaves : List ℕ) (fault : TreeFault) → leaves_checked table end leaves ≡ Err fault → AreStopped table end leaves fault
leaves_stop table end [] fault h = absurd cc
leaves_stop table end (at ∷ leaves) fault h =
    elim (then_stops (leaf_checked (record { 0 = at }) end (leaf_items table at)) (λ mid. leaves_checked table mid leaves) fault h) [
      | inl here ↦
          let s = leaf_stop (record { 0 = at }) end (leaf_items table at) fault here in
          record {
            at = record { 0 = at };
            item = s.item;
            why = s.why;
            is = s.is;
            leaf = head_in at leaves;
            held = in_split (leaf_items table at) s.stop.before s.stop.after s.item s.stop.split;
            stop = record {
              before = s.stop.before;
              after = s.stop.after ++ flat_map (leaf_items table) leaves;
              split = ap (λ (l : List Item). l ++ flat_map (leaf_items table) leaves) s.stop.split ∙ append_assoc s.stop.before (s.item ∷ s.stop.after) (flat_map (leaf_items table) leaves);
              pass = s.stop.pass;
              fault = s.stop.fault;
            };
          }
      | inr later ↦
          let first = leaf_from (record { 0 = at }) end (leaf_items table at) later.0 later.1 in
          let s = leaves_stop table later.0 leaves fault later.2 in
          let front = leaf_items table at in
          record {
            at = s.at;
            item = s.item;
            why = s.why;
            is = s.is;
            leaf = tail_in at s.at.0 leaves s.leaf;
            held = s.held;
            stop = record {
              before = front ++ s.stop.before;
              after = s.stop.after;
              split = ap (λ (l : List Item). front ++ l) s.stop.split ∙ sym (append_assoc front s.stop.before (s.item ∷ s.stop.after));
              pass = pass_append end front s.stop.before first.0 (subst (λ (e : Option FileEnd). AllPass e s.stop.before) (sym first.1) s.stop.pass);
              fault = ap (λ (e : Option FileEnd). fault_behind e s.item) (last_append end front s.stop.before ∙ ap (λ (e : Option FileEnd). last_end e s.stop.before) first.1) ∙ s.stop.fault;
            };
          }
    ]

-- ---- what the fault says

-- an extent in front covers the item's first byte
record IsCover (before : List Item) (key : Key) : Type 0 where
  other : Item
  there : Contains before other
  below : is_below_end (end_of other) key ≡ true

cover : (end : Option FileEnd) (first : Item) (before : List Item) (key : Key) → is_below_end (last_end end (first ∷ before)) key ≡ true → IsCover (first ∷ before) key
cover end first [] key h = record { other = first; there = head_in first []; below = h }
cover end first (next ∷ before) key h =
    let c = cover (end_of first) next before key h in
    record { other = c.other; there = tail_in first c.other (next ∷ before) c.there; below = c.below }

overlapped : (before : List Item) (item : Item) → is_below_end (last_end None before) item.0 ≡ true → IsOverlapped before item
overlapped [] item h = absurd (true≢false (sym h))
overlapped (first ∷ before) item h =
    let c = cover None first before item.0 h in
    elim (cases_Bool (c.other.0.kind == extent_data)) [
      | inr unlike ↦ absurd (true≢false (sym c.below ∙ no_end c.other item.0 unlike))
      | inl is ↦
          let kind = eqb-true c.other.0.kind extent_data is in
          let tests : ((item.0.kind == extent_data) && (item.0.objectid == c.other.0.objectid) && nat_lt item.0.offset (end_at c.other)) ≡ true = sym (ap (λ (e : Option FileEnd). is_below_end e item.0) (end_is c.other kind)) ∙ c.below in
          let two = and_parts _ _ tests in
          let one = and_parts _ _ two.0 in
          let file : item.0.objectid ≡ c.other.0.objectid = eqb-true item.0.objectid c.other.0.objectid one.1 in
          let same : c.other ≡ (make_key item.0.objectid extent_data c.other.0.offset, c.other.1) =
          is_extent c.other kind ∙ ap (λ (ino : ℕ). (make_key ino extent_data c.other.0.offset, c.other.1)) (sym file) in
          record {
            kind = eqb-true item.0.kind extent_data one.0;
            offset = c.other.0.offset;
            bytes = c.other.1;
            there = subst (Contains (first ∷ before)) same c.there;
            covers = subst (λ (i : Item). item.0.offset < end_at i) same (ltb-true item.0.offset (end_at c.other) two.1);
          }
    ]

fault_says : (before : List Item) (item : Item) (why : ItemFault) → fault_behind (last_end None before) item ≡ Some why → IsFaultOf before item why
fault_says before item why h = go (item_fault item.0 item.1) (is_below_end (last_end None before) item.0) refl refl h
  where
    go : (found : Option ItemFault) (below : Bool) → item_fault item.0 item.1 ≡ found → is_below_end (last_end None before) item.0 ≡ below → or_overlap found below ≡ Some why → IsFaultOf before item why
    go (Some fault) below is at h = inl (is ∙ h)
    go None true is at h = inr (is, cc, overlapped before item at)
    go None false is at h = absurd cc

bytes_front : (items before after : List Item) (item : Item) → items ≡ before ++ item ∷ after → AreBytes items → AreBytes before
bytes_front items before after item split are key bytes c = are key bytes (subst (λ (l : List Item). Contains l (key, bytes)) (sym split) (Contains-append_left before (item ∷ after) (key, bytes) c))

pub first_is : (table : Table) (tree : Tree) (fault : TreeFault) → IsTree table tree → AreBytes (tree_items table tree) → items_answer table tree ≡ Err fault → IsFirstFault table tree fault
first_is table tree fault is are h =
    elim (then_stops (leaves_checked table None (leaves_below tree.level table tree.root.0)) (λ after. Ok tt) fault h) [
      | inr none ↦ absurd (let wrong = none.2 in cc)
      | inl stops ↦
          let s = leaves_stop table None (leaves_below tree.level table tree.root.0) fault stops in
          let split : tree_items table tree ≡ s.stop.before ++ s.item ∷ s.stop.after = items_flat tree.level table tree.root.0 ∙ s.stop.split in
          record {
            at = s.at;
            item = s.item;
            why = s.why;
            is = s.is;
            before = s.stop.before;
            after = s.stop.after;
            split = split;
            right = right_from s.stop.before (rise_left s.stop.before (s.item ∷ s.stop.after) (subst (λ (l : List Item). ItemsRise l) split is.order)) (bytes_front (tree_items table tree) s.stop.before s.stop.after s.item split are) s.stop.pass;
            faulty = fault_says s.stop.before s.item s.why s.stop.fault;
            leaf = s.leaf;
            held = s.held;
          }
    ]
