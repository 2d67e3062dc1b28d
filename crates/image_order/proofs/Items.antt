-- Items have no fault exactly where none has one of its own and no extent begins inside another of its file.
use Rattle.std.proofs.Common.{◌≡◌, ◌≤◌, ◌<◌, ◌+◌, ◌&&◌, ◌==◌, ◌⊎◌, ℕ, Bool, true, false, cond, nat_lt, nat_cmp, List, [], ◌∷◌, Contains, Option, Some, None, Ordering, Less, Equal, Greater, refl, sym, ap, subst, ◌∙◌, arith, inl, inr, le-ltb, ltb-false}
use Rattle.std.proofs.lemmas.Bool.{ltb-true, and_parts, eqb-true, eq-eqb}
use Rattle.std.specs.FinMap.{nat_cmp-IsAntisymmetric}
use Rattle.std.specs.Ordering.{ordering_then}
use Rattle.blk_base.specs.declared.key.Key.{Key}
use Rattle.blk_base.specs.declared.fault.ItemFault.{ItemFault}
use Rattle.blk_base.specs.declared.fault.ItemFault.TheVariants.{Overlap}
use Rattle.blk_base.specs.Keys.{KeyBelow, extent_data}
use Rattle.blk_base.specs.Leaf.{Item}
use Rattle.blk_base.specs.ItemFaults.{item_fault}
use Rattle.volume_image.specs.Tree.{ItemsRise}
use Rattle.volume_image.specs.Subvolume.{make_key, extent_len}
use Rattle.volume_image.proofs.Lists.{in_nothing, in_cons}
use Rattle.volume_image.proofs.Reaches.{head_in, tail_in}
use Rattle.image_faults.proofs.Rising.{head_below, rise_tail}
use Rattle.image_order.specs.FirstFault.{is_overlap, overlap_after, with_key, first_item_fault}
use Rattle.image_order.specs.InLeaf.{AreFaultless, AreApartExtents}
use Rattle.image_order.proofs.Steps.{first_none, none_first}

-- ---- keys

then_less : (r s : Ordering) → ordering_then r s ≡ Less → (r ≡ Less) ⊎ ((r ≡ Equal) × (s ≡ Less))
then_less Less s e = inl refl
then_less Equal s e = inr (refl, e)
then_less Greater s e = absurd cc

nat_less : (a b : ℕ) → nat_cmp a b ≡ Less → a < b
nat_less a b e = go (nat_lt a b) refl (a == b) e
  where
    go : (t : Bool) → nat_lt a b ≡ t → (s : Bool) → cond t Less (cond s Equal Greater) ≡ Less → a < b
    go true t s e = ltb-true a b t
    go false t true e = absurd cc
    go false t false e = absurd cc

below_parts : (a b : Key) → KeyBelow a b → (a.objectid < b.objectid) ⊎ ((a.objectid ≡ b.objectid) × ((a.kind < b.kind) ⊎ ((a.kind ≡ b.kind) × (a.offset < b.offset))))
below_parts a b below = elim (then_less (nat_cmp a.objectid b.objectid) (ordering_then (nat_cmp a.kind b.kind) (nat_cmp a.offset b.offset)) below) [
  | inl less ↦ inl (nat_less a.objectid b.objectid less)
  | inr same ↦ inr (
    nat_cmp-IsAntisymmetric a.objectid b.objectid same.0,
    elim (then_less (nat_cmp a.kind b.kind) (nat_cmp a.offset b.offset) same.1) [
      | inl less ↦ inl (nat_less a.kind b.kind less)
      | inr same ↦ inr (nat_cmp-IsAntisymmetric a.kind b.kind same.0, nat_less a.offset b.offset same.1)
    ],
  )
]

-- a key between two extents of a file is one too
between : (ino kind one two : ℕ) (key : Key) → KeyBelow (make_key ino kind one) key → KeyBelow key (make_key ino kind two) → (key.objectid ≡ ino) × (key.kind ≡ kind) × (one < key.offset) × (key.offset < two)
between ino kind one two key a b = go (below_parts (make_key ino kind one) key a) (below_parts key (make_key ino kind two) b)
  where
    go : (ino < key.objectid) ⊎ ((ino ≡ key.objectid) × ((kind < key.kind) ⊎ ((kind ≡ key.kind) × (one < key.offset)))) → (key.objectid < ino) ⊎ ((key.objectid ≡ ino) × ((key.kind < kind) ⊎ ((key.kind ≡ kind) × (key.offset < two))))
        → (key.objectid ≡ ino) × (key.kind ≡ kind) × (one < key.offset) × (key.offset < two)
    go (inl p) (inl q) = absurd (omega arith)
    go (inl p) (inr (q, r)) = absurd (omega arith)
    go (inr (p, inl r)) (inl q) = absurd (omega arith)
    go (inr (p, inr r)) (inl q) = absurd (omega arith)
    go (inr (p, inl r)) (inr (q, inl t)) = absurd (omega arith)
    go (inr (p, inl r)) (inr (q, inr (t, u))) = absurd (omega arith)
    go (inr (p, inr (r, u))) (inr (q, inl t)) = absurd (omega arith)
    go (inr (p, inr (r, u))) (inr (q, inr (t, v))) = (q, t, u, v)

-- the offset of a key that is above another one of its inode and type
offset_above : (ino kind one two : ℕ) → KeyBelow (make_key ino kind one) (make_key ino kind two) → one < two
offset_above ino kind one two below = elim (below_parts (make_key ino kind one) (make_key ino kind two) below) [
  | inl less ↦ absurd (omega arith)
  | inr same ↦ elim same.1 [ inl less ↦ absurd (omega arith) | inr less ↦ less.1 ]
]

-- ---- an item and the one behind it

no_overlap : (ino one two : ℕ) (first second : List ℕ) → overlap_after (Some (make_key ino extent_data one, first)) (make_key ino extent_data two, second) ≡ None → one + extent_len (make_key ino extent_data one) first ≤ two
no_overlap ino one two first second e = go (is_overlap (make_key ino extent_data one, first) (make_key ino extent_data two, second)) refl e
  where
    go : (b : Bool) → is_overlap (make_key ino extent_data one, first) (make_key ino extent_data two, second) ≡ b → cond b (Some Overlap) None ≡ None → one + extent_len (make_key ino extent_data one) first ≤ two
    go true t e = absurd cc
    go false t e = ltb-false two (one + extent_len (make_key ino extent_data one) first) (rest (ino == ino) (eq-eqb ino ino refl) t)
      where
        rest : (b : Bool) → b ≡ true → (b && nat_lt two (one + extent_len (make_key ino extent_data one) first)) ≡ false → nat_lt two (one + extent_len (make_key ino extent_data one) first) ≡ false
        rest true t e = e
        rest false t e = absurd cc

overlap_none : (before item : Item) → KeyBelow before.0 item.0 → ((ino one two : ℕ) → before.0 ≡ make_key ino extent_data one → item.0 ≡ make_key ino extent_data two → one < two → one + extent_len (make_key ino extent_data one) before.1 ≤ two)
    → overlap_after (Some before) item ≡ None
overlap_none before item below apart = go (is_overlap before item) refl
  where
    go : (b : Bool) → is_overlap before item ≡ b → cond b (Some Overlap) None ≡ None
    go false t = refl
    go true t =
        let kinds = and_parts _ _ t in
        let others = and_parts _ _ kinds.1 in
        let last = and_parts _ _ others.1 in
        let kind : before.0.kind ≡ extent_data = eqb-true before.0.kind extent_data kinds.0 in
        let kind' : item.0.kind ≡ extent_data = eqb-true item.0.kind extent_data others.0 in
        let ino : before.0.objectid ≡ item.0.objectid = eqb-true before.0.objectid item.0.objectid last.0 in
        let here : before.0 ≡ make_key item.0.objectid extent_data before.0.offset = λ i. record { objectid = ino i; kind = kind i; offset = before.0.offset } in
        let there : item.0 ≡ make_key item.0.objectid extent_data item.0.offset = λ i. record { objectid = item.0.objectid; kind = kind' i; offset = item.0.offset } in
        let less = offset_above item.0.objectid extent_data before.0.offset item.0.offset (subst (λ (k : Key). KeyBelow k (make_key item.0.objectid extent_data item.0.offset)) here (subst (λ (k : Key). KeyBelow before.0 k) there below)) in
        let end : before.0.offset + extent_len before.0 before.1 ≤ item.0.offset =
        subst (λ (k : Key). before.0.offset + extent_len k before.1 ≤ item.0.offset) (sym here) (apart item.0.objectid before.0.offset item.0.offset here there less) in
        absurd (let no : false ≡ true = sym (le-ltb item.0.offset (before.0.offset + extent_len before.0 before.1) end) ∙ last.1 in cc)

keyed_none : (key : Key) (o : Option ItemFault) → with_key key o ≡ None → o ≡ None
keyed_none key None e = refl
keyed_none key (Some fault) e = absurd cc

-- ---- all items

faultless_from : (before : Option Item) (items : List Item) → first_item_fault before items ≡ None → AreFaultless items
faultless_from before [] e key bytes c = absurd (in_nothing (key, bytes) c)
faultless_from before (item ∷ items) e key bytes c =
    let parts = first_none _ _ e in
    let own = first_none _ _ (keyed_none item.0 _ parts.0) in
    elim (in_cons item (key, bytes) items c) [
      | inl here ↦ subst (λ (o : Item). item_fault o.0 o.1 ≡ None) here own.0
      | inr there ↦ faultless_from (Some item) items parts.1 key bytes there
    ]

apart_from : (before : Option Item) (items : List Item) → ItemsRise items → first_item_fault before items ≡ None → AreApartExtents items
apart_from before [] rise e ino one two first second c d less = absurd (in_nothing (make_key ino extent_data one, first) c)
apart_from before (item ∷ items) rise e ino one two first second c d less =
    let parts = first_none _ _ e in
    elim (in_cons item (make_key ino extent_data one, first) items c) [
      | inl here ↦ elim (in_cons item (make_key ino extent_data two, second) items d) [
        | inl also ↦ let same : one ≡ two = ap (λ (o : Item). o.0.offset) (sym here ∙ also) in absurd (omega arith)
        | inr there ↦ head_apart items (rise_tail item items rise) (subst (λ (o : Item). ItemsRise (o ∷ items)) here rise) (subst (λ (o : Item). first_item_fault (Some o) items ≡ None) here parts.1) there
      ]
      | inr there ↦ elim (in_cons item (make_key ino extent_data two, second) items d) [
        | inl also ↦
            let below = offset_above ino extent_data two one (subst (λ (o : Item). KeyBelow o.0 (make_key ino extent_data one)) also (head_below item items rise (make_key ino extent_data one, first) there)) in
            absurd (omega arith)
        | inr behind ↦ apart_from (Some item) items (rise_tail item items rise) parts.1 ino one two first second there behind less
      ]
    ]
  where
    -- the first extent stands before these items, the second among them
    head_apart : (items : List Item) → ItemsRise items → ItemsRise ((make_key ino extent_data one, first) ∷ items) → first_item_fault (Some (make_key ino extent_data one, first)) items ≡ None → Contains items (make_key ino extent_data two, second)
        → one + extent_len (make_key ino extent_data one) first ≤ two
    head_apart [] rise all e c = absurd (in_nothing (make_key ino extent_data two, second) c)
    head_apart (next ∷ items) rise all e c =
        let own = (first_none _ _ (keyed_none next.0 _ (first_none _ _ e).0)).1 in
        elim (in_cons next (make_key ino extent_data two, second) items c) [
          | inl here ↦ no_overlap ino one two first second (subst (λ (o : Item). overlap_after (Some (make_key ino extent_data one, first)) o ≡ None) here own)
          | inr there ↦
              let mid = between ino extent_data one two next.0 all.0 (head_below next items rise (make_key ino extent_data two, second) there) in
              let key : next.0 ≡ make_key ino extent_data next.0.offset = λ i. record { objectid = mid.0 i; kind = mid.1 i; offset = next.0.offset } in
              let end = no_overlap ino one next.0.offset first next.1 (subst (λ (k : Key). overlap_after (Some (make_key ino extent_data one, first)) (k, next.1) ≡ None) key own) in
              let less = mid.3 in
              omega arith
        ]

-- items without faults
none_from : (items : List Item) → ItemsRise items → AreFaultless items → AreApartExtents items → (before : Option Item) → ((item : Item) → Contains items item → (o : Item) → before ≡ Some o → (rest : List Item) → items ≡ item ∷ rest → overlap_after before item ≡ None) → first_item_fault before items ≡ None
none_from [] rise faultless apart before front = refl
none_from (item ∷ items) rise faultless apart before front =
    none_first _ _ (ap (with_key item.0) (none_first _ _ (faultless item.0 item.1 (head_in item items)) (at_front before refl)))
    (none_from items (rise_tail item items rise) (λ key bytes c. faultless key bytes (tail_in item (key, bytes) items c))
    (λ ino one two first second c d. apart ino one two first second (tail_in item (make_key ino extent_data one, first) items c) (tail_in item (make_key ino extent_data two, second) items d)) (Some item)
    (λ next c o is rest same.
    overlap_none item next (head_below item items rise next c)
    (λ ino one two here there less.
    apart ino one two item.1 next.1 (subst (λ (k : Key). Contains (item ∷ items) (k, item.1)) here (head_in item items)) (subst (λ (k : Key). Contains (item ∷ items) (k, next.1)) there (tail_in item next items c)) less)))
  where
    at_front : (o : Option Item) → before ≡ o → overlap_after before item ≡ None
    at_front None e = ap (λ b. overlap_after b item) e
    at_front (Some other) e = front item (head_in item items) other e items refl

-- Rising items have no first fault exactly where none has one of its own and their extents are apart.
pub items_have_none : (items : List Item) → ItemsRise items → AreFaultless items → AreApartExtents items → first_item_fault None items ≡ None
items_have_none items rise faultless apart = none_from items rise faultless apart None (λ item c o e rest same. absurd cc)

pub have_none_faultless : (items : List Item) → first_item_fault None items ≡ None → AreFaultless items
have_none_faultless items e = faultless_from None items e

pub have_none_apart : (items : List Item) → ItemsRise items → first_item_fault None items ≡ None → AreApartExtents items
have_none_apart items rise e = apart_from None items rise e
