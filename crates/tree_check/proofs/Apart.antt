-- Items pass their check exactly where each is spelled by its grammar, and extents of a file are apart.
use Rattle.std.proofs.Common.{◌≡◌, ◌⊎◌, ◌≤◌, ◌<◌, ◌+◌, ◌↔◌, ℕ, Bool, true, false, List, [], ◌∷◌, Contains, Option, Some, None, Ok, refl, sym, ap, subst, ◌∙◌, arith, inl, inr}
use Rattle.std.specs.Prelude.{◌==◌, ◌&&◌, nat_lt, if◌then◌else◌}
use Rattle.std.proofs.lemmas.Bool.{cases_Bool, cases_eq, eq-eqb, eqb-true, le-ltb, ltb-false}
use Rattle.blk_base.specs.declared.fault.ItemFault.{ItemFault}
use Rattle.blk_base.specs.declared.key.Key.{Key}
use Rattle.blk_base.specs.ItemFaults.{item_fault}
use Rattle.blk_base.specs.Keys.{KeyBelow, extent_data}
use Rattle.blk_base.specs.Leaf.{Item}
use Rattle.blk_base.specs.Trees.{ItemsRise}
use Rattle.block_table.specs.declared.tree.Tree.{Tree}
use Rattle.block_table.specs.Table.{Table}
use Rattle.item_laws.proofs.FaultLaws.{item_faultless, item_spelled}
use Rattle.leaf_view.specs.KeyOrder.{KeyBelow_parts}
use Rattle.tree_range.specs.Shape.{IsTree, tree_items}
use Rattle.tree_range.proofs.Rise.{rise_head, rise_tail}
use Rattle.std.proofs.lemmas.List.Elements.{All-contains}
use Rattle.volume_image.specs.Subvolume.{extent_len, make_key}
use Rattle.volume_image.proofs.Lists.{in_cons, in_nothing}
use Rattle.volume_image.proofs.Reaches.{head_in, tail_in}
use Rattle.tree_check.specs.declared.item.FileEnd.{FileEnd}
use Rattle.tree_check.specs.Items.{AreBytes, AreRight, end_of, fault_behind, is_below_end, items_answer, or_overlap}
use Rattle.tree_check.proofs.Passing.{AllPass, passes_from, passes_to}

-- ---- one item

none_from : (fault : Option ItemFault) (below : Bool) → or_overlap fault below ≡ None → (fault ≡ None) × (below ≡ false)
none_from (Some fault) below h = absurd cc
none_from None true h = absurd cc
none_from None false h = (refl, refl)

none_to : (fault : Option ItemFault) (below : Bool) → fault ≡ None → below ≡ false → or_overlap fault below ≡ None
none_to fault below none out = ap (λ (f : Option ItemFault). or_overlap f below) none ∙ ap (or_overlap None) out

pass_in : (end : Option FileEnd) (items : List Item) (item : Item) → AllPass end items → Contains items item → item_fault item.0 item.1 ≡ None
pass_in end [] item h c = absurd (in_nothing item c)
pass_in end (first ∷ items) item h c = elim (in_cons first item items c) [
  | inl here ↦ subst (λ (i : Item). item_fault i.0 i.1 ≡ None) here (none_from (item_fault first.0 first.1) (is_below_end end first.0) h.0).0
  | inr there ↦ pass_in (end_of first) items item h.1 there
]

-- ---- the end of an extent

-- the number of the first byte behind an extent
abbrev pub end_at : Item → ℕ
end_at item = item.0.offset + extent_len item.0 item.1

-- two extents of one file
record AreOfOneFile (one two : Item) : Type 0 where
  kind : one.0.kind ≡ extent_data
  same_kind : two.0.kind ≡ extent_data
  file : two.0.objectid ≡ one.0.objectid

pub end_is : (item : Item) → item.0.kind ≡ extent_data → end_of item ≡ Some (record { file = item.0.objectid; end = end_at item })
end_is item kind = ap (λ (b : Bool). if b then Some (record { file = item.0.objectid; end = end_at item }) else None) (eq-eqb item.0.kind extent_data kind)

pub no_end : (item : Item) (key : Key) → (item.0.kind == extent_data) ≡ false → is_below_end (end_of item) key ≡ false
no_end item key other = ap (λ (b : Bool). is_below_end (if b then Some (record { file = item.0.objectid; end = end_at item }) else None) key) other

below_is : (one two : Item) → AreOfOneFile one two → is_below_end (end_of one) two.0 ≡ nat_lt two.0.offset (end_at one)
below_is one two same =
    ap (λ (e : Option FileEnd). is_below_end e two.0) (end_is one same.kind)
    ∙ ap (λ (b : Bool). b && (two.0.objectid == one.0.objectid) && nat_lt two.0.offset (end_at one)) (eq-eqb two.0.kind extent_data same.same_kind)
    ∙ ap (λ (b : Bool). b && nat_lt two.0.offset (end_at one)) (eq-eqb two.0.objectid one.0.objectid same.file)

-- of two extents that aren't of one file none begins below the end of the other
below_not : (one two : Item) → (AreOfOneFile one two → ⊥) → is_below_end (end_of one) two.0 ≡ false
below_not one two apart = elim (cases_Bool (one.0.kind == extent_data)) [
  | inr other ↦ no_end one two.0 other
  | inl kind ↦ ap (λ (e : Option FileEnd). is_below_end e two.0) (end_is one (eqb-true one.0.kind extent_data kind)) ∙ elim (cases_Bool (two.0.kind == extent_data)) [
    | inr other ↦ ap (λ (b : Bool). b && (two.0.objectid == one.0.objectid) && nat_lt two.0.offset (end_at one)) other
    | inl same_kind ↦ ap (λ (b : Bool). b && (two.0.objectid == one.0.objectid) && nat_lt two.0.offset (end_at one)) same_kind ∙ elim (cases_Bool (two.0.objectid == one.0.objectid)) [
      | inr other ↦ ap (λ (b : Bool). b && nat_lt two.0.offset (end_at one)) other
      | inl file ↦ absurd (apart (record { kind = eqb-true one.0.kind extent_data kind; same_kind = eqb-true two.0.kind extent_data same_kind; file = eqb-true two.0.objectid one.0.objectid file }))
    ]
  ]
]

-- ---- keys of one file rise by their offsets

offset_rises : (one two : Item) → AreOfOneFile one two → KeyBelow one.0 two.0 → one.0.offset < two.0.offset
offset_rises one two same below = elim (KeyBelow_parts one.0 two.0 below) [
  | inl file ↦ (let is = same.file in omega arith)
  | inr p ↦ elim p.1 [ inl kind ↦ (let a = same.kind in let b = same.same_kind in omega arith) | inr q ↦ q.1 ]
]

-- what stands between two extents of a file is one of it
record IsBetween (one two : Item) : Type 0 where
  file : two.0.objectid ≡ one.0.objectid
  kind : two.0.kind ≡ one.0.kind

between : (one mid two : Item) → AreOfOneFile one two → KeyBelow one.0 mid.0 → KeyBelow mid.0 two.0 → IsBetween one mid
between one mid two same low high = elim (KeyBelow_parts one.0 mid.0 low) [
  | inl below ↦ elim (KeyBelow_parts mid.0 two.0 high) [
    | inl further ↦ (let is = same.file in absurd (omega arith))
    | inr q ↦ (let is = same.file in let e = q.0 in absurd (omega arith))
  ]
  | inr p ↦ elim (KeyBelow_parts mid.0 two.0 high) [
    | inl further ↦ (let is = same.file in let e = p.0 in absurd (omega arith))
    | inr q ↦ elim p.1 [
      | inl kind ↦ elim q.1 [
        | inl more ↦ (let a = same.kind in let b = same.same_kind in absurd (omega arith))
        | inr r ↦ (let a = same.kind in let b = same.same_kind in let e = r.0 in absurd (omega arith))
      ]
      | inr r ↦ record { file = sym p.0; kind = sym r.0 }
    ]
  ]
]

above_head : (item : Item) (items : List Item) (other : Item) → ItemsRise (item ∷ items) → Contains items other → KeyBelow item.0 other.0
above_head item items other rise c = All-contains (λ (i : Item). KeyBelow item.0 i.0) items other (rise_head item items rise) c

-- ---- from items that pass

adjacent : (one two : Item) → AreOfOneFile one two → fault_behind (end_of one) two ≡ None → end_at one ≤ two.0.offset
adjacent one two same none = ltb-false two.0.offset (end_at one) (sym (below_is one two same) ∙ (none_from (item_fault two.0 two.1) (is_below_end (end_of one) two.0) none).1)

-- an extent ends in front of each later one of its file
ends_before : (one : Item) (items : List Item) (two : Item) → ItemsRise (one ∷ items) → AllPass (end_of one) items → Contains items two → AreOfOneFile one two → end_at one ≤ two.0.offset
ends_before one [] two rise pass c same = absurd (in_nothing two c)
ends_before one (next ∷ items) two rise pass c same = elim (in_cons next two items c) [
  | inl here ↦ subst (λ (i : Item). AreOfOneFile one i → end_at one ≤ i.0.offset) here (λ near. adjacent one next near pass.0) same
  | inr there ↦
      let tail = rise_tail one (next ∷ items) rise in
      let mid = between one next two same (above_head one (next ∷ items) next rise (head_in next items)) (above_head next items two tail there) in
      let near : AreOfOneFile one next = record { kind = same.kind; same_kind = mid.kind ∙ same.kind; file = mid.file } in
      let far : AreOfOneFile next two = record { kind = mid.kind ∙ same.kind; same_kind = same.same_kind; file = same.file ∙ sym mid.file } in
      let first = adjacent one next near pass.0 in
      let second = ends_before next items two tail pass.1 there far in
      omega arith
]

-- an extent item of a file by its offset
abbrev pub extent : ℕ → ℕ → List ℕ → Item
extent ino offset bytes = (make_key ino extent_data offset, bytes)

of_one_file : (ino one two : ℕ) (first second : List ℕ) → AreOfOneFile (extent ino one first) (extent ino two second)
of_one_file ino one two first second = record { kind = refl; same_kind = refl; file = refl }

apart_from : (items : List Item) (end : Option FileEnd) (ino one two : ℕ) (first second : List ℕ) → ItemsRise items → AllPass end items → Contains items (extent ino one first) → Contains items (extent ino two second) → one < two → end_at (extent ino one first) ≤ two
apart_from [] end ino one two first second rise pass c d below = absurd (in_nothing (extent ino one first) c)
apart_from (item ∷ items) end ino one two first second rise pass c d below = elim (in_cons item (extent ino one first) items c) [
  | inl here ↦ elim (in_cons item (extent ino two second) items d) [
    | inl also ↦ (let same : one ≡ two = ap (λ (i : Item). i.0.offset) (sym here ∙ also) in absurd (omega arith))
    | inr there ↦ subst (λ (i : Item). ItemsRise (i ∷ items) → AllPass (end_of i) items → AreOfOneFile i (extent ino two second) → end_at i ≤ two) here
        (λ r p s. ends_before item items (extent ino two second) r p there s) (subst (λ (i : Item). ItemsRise (i ∷ items)) here rise) (subst (λ (i : Item). AllPass (end_of i) items) here pass.1) (of_one_file ino one two first second)
  ]
  | inr there ↦ elim (in_cons item (extent ino two second) items d) [
    | inl also ↦ (
        let high : KeyBelow (extent ino two second).0 (extent ino one first).0 = subst (λ (i : Item). KeyBelow i.0 (extent ino one first).0) also (above_head item items (extent ino one first) rise there) in
        let wrong = offset_rises (extent ino two second) (extent ino one first) (of_one_file ino two one second first) high in absurd (omega arith))
    | inr behind ↦ apart_from items (end_of item) ino one two first second (rise_tail item items rise) pass.1 there behind below
  ]
]

pub right_from : (items : List Item) → ItemsRise items → AreBytes items → AllPass None items → AreRight items
right_from items rise are pass = record {
  spelled = λ key bytes c. item_spelled key bytes (are key bytes c) (pass_in None items (key, bytes) pass c);
  apart = λ ino one two first second c d below. apart_from items None ino one two first second rise pass c d below;
}

-- ---- to items that pass

right_tail : (item : Item) (items : List Item) → AreRight (item ∷ items) → AreRight items
right_tail item items right = record {
  spelled = λ key bytes c. right.spelled key bytes (tail_in item (key, bytes) items c);
  apart = λ ino one two first second c d below. right.apart ino one two first second (tail_in item (extent ino one first) items c) (tail_in item (extent ino two second) items d) below;
}

-- an extent is its file's item at its offset
pub is_extent : (item : Item) → item.0.kind ≡ extent_data → item ≡ extent item.0.objectid item.0.offset item.1
is_extent item kind = ap (λ (k : ℕ). (record { objectid = item.0.objectid; kind = k; offset = item.0.offset }, item.1)) kind

apart_to : (one : Item) (items : List Item) (two : Item) → ItemsRise (one ∷ items) → AreRight (one ∷ items) → Contains items two → is_below_end (end_of one) two.0 ≡ false
apart_to one items two rise right c = elim (decide one two) [
  | inr other ↦ below_not one two other
  | inl same ↦
      let below = offset_rises one two same (above_head one items two rise c) in
      let there : Contains (one ∷ items) (extent one.0.objectid one.0.offset one.1) = subst (Contains (one ∷ items)) (is_extent one same.kind) (head_in one items) in
      let behind : Contains (one ∷ items) (extent one.0.objectid two.0.offset two.1) =
      subst (Contains (one ∷ items)) (is_extent two same.same_kind ∙ ap (λ (ino : ℕ). extent ino two.0.offset two.1) same.file) (tail_in one two items c) in
      let ends = right.apart one.0.objectid one.0.offset two.0.offset one.1 two.1 there behind below in
      below_is one two same ∙ le-ltb two.0.offset (end_at one) (subst (λ (i : Item). end_at i ≤ two.0.offset) (sym (is_extent one same.kind)) ends)
]
  where
    decide : (one two : Item) → AreOfOneFile one two ⊎ (AreOfOneFile one two → ⊥)
    decide one two = elim (cases_eq one.0.kind extent_data) [
      | inr other ↦ inr (λ same. other same.kind)
      | inl kind ↦ elim (cases_eq two.0.kind extent_data) [
        | inr other ↦ inr (λ same. other same.same_kind)
        | inl same_kind ↦ elim (cases_eq two.0.objectid one.0.objectid) [
          | inr other ↦ inr (λ same. other same.file)
          | inl file ↦ inl (record { kind = kind; same_kind = same_kind; file = file })
        ]
      ]
    ]

right_to_behind : (one : Item) (items : List Item) → ItemsRise (one ∷ items) → AreRight (one ∷ items) → AllPass (end_of one) items
right_to_behind one [] rise right = tt
right_to_behind one (item ∷ items) rise right = (
  none_to (item_fault item.0 item.1) (is_below_end (end_of one) item.0) (item_faultless item.0 item.1 (right.spelled item.0 item.1 (tail_in one item (item ∷ items) (head_in item items)))) (apart_to one (item ∷ items) item rise right (head_in item items)),
  right_to_behind item items (rise_tail one (item ∷ items) rise) (right_tail one (item ∷ items) right),
)

right_to : (items : List Item) → ItemsRise items → AreRight items → AllPass None items
right_to [] rise right = tt
right_to (item ∷ items) rise right = (none_to (item_fault item.0 item.1) false (item_faultless item.0 item.1 (right.spelled item.0 item.1 (head_in item items))) refl, right_to_behind item items rise right)

-- ---- a tree

pub right_are : (table : Table) (tree : Tree) → IsTree table tree → AreBytes (tree_items table tree) → (items_answer table tree ≡ Ok tt) ↔ AreRight (tree_items table tree)
right_are table tree is are = (λ h. right_from (tree_items table tree) is.order are (passes_from table tree h), λ right. passes_to table tree (right_to (tree_items table tree) is.order right))
