-- Lists of items whose keys rise.
use Rattle.std.proofs.Common.{◌≡◌, List, [], ◌∷◌, ◌++◌, refl, sym, Some}
use Rattle.std.specs.Prelude.{All}
use Rattle.std.proofs.lemmas.List.Elements.{All-nil, All-cons, All-head, All-tail, All-weaker}
use Rattle.blk_base.specs.declared.key.Key.{Key}
use Rattle.blk_base.specs.Keys.{KeyBelow}
use Rattle.blk_base.specs.Leaf.{Item}
use Rattle.blk_base.specs.Trees.{ItemsRise, first_key}
use Rattle.leaf_view.specs.KeyOrder.{KeyBelow_trans}
use Rattle.tree_range.specs.Between.{AreBelow, AreAbove}

pub All-left : {X : Type 0} (P : X → Type 0) (xs ys : List X) → All P (xs ++ ys) → All P xs
All-left P [] ys h = All-nil P
All-left P (x ∷ xs) ys h = All-cons P x xs (All-head P x (xs ++ ys) h) (All-left P xs ys (All-tail P x (xs ++ ys) h))

pub All-right : {X : Type 0} (P : X → Type 0) (xs ys : List X) → All P (xs ++ ys) → All P ys
All-right P [] ys h = h
All-right P (x ∷ xs) ys h = All-right P xs ys (All-tail P x (xs ++ ys) h)

pub rise_tail : (x : Item) (xs : List Item) → ItemsRise (x ∷ xs) → ItemsRise xs
rise_tail x [] h = tt
rise_tail x (y ∷ ys) h = h.1

-- the first key is below all others
pub rise_head : (x : Item) (xs : List Item) → ItemsRise (x ∷ xs) → AreAbove x.0 xs
rise_head x [] h = All-nil (λ (item : Item). KeyBelow x.0 item.0)
rise_head x (y ∷ ys) h =
    All-cons (λ (item : Item). KeyBelow x.0 item.0) y ys h.0 (All-weaker (λ (item : Item). KeyBelow y.0 item.0) (λ (item : Item). KeyBelow x.0 item.0) (λ z k. KeyBelow_trans x.0 y.0 z.0 h.0 k) ys (rise_head y ys h.1))

pub rise_right : (xs ys : List Item) → ItemsRise (xs ++ ys) → ItemsRise ys
rise_right [] ys h = h
rise_right (x ∷ xs) ys h = rise_right xs ys (rise_tail x (xs ++ ys) h)

pub rise_left : (xs ys : List Item) → ItemsRise (xs ++ ys) → ItemsRise xs
rise_left [] ys h = tt
rise_left (x ∷ []) ys h = tt
rise_left (x ∷ y ∷ xs) ys h = (h.0, rise_left (y ∷ xs) ys h.1)

-- a key is above all in front of it
pub rise_before : (xs : List Item) (y : Item) (ys : List Item) → ItemsRise (xs ++ y ∷ ys) → AreBelow y.0 xs
rise_before [] y ys h = All-nil (λ (item : Item). KeyBelow item.0 y.0)
rise_before (x ∷ xs) y ys h =
    All-cons (λ (item : Item). KeyBelow item.0 y.0) x xs
    (All-head (λ (item : Item). KeyBelow x.0 item.0) y ys (All-right (λ (item : Item). KeyBelow x.0 item.0) xs (y ∷ ys) (rise_head x (xs ++ y ∷ ys) h)))
    (rise_before xs y ys (rise_tail x (xs ++ y ∷ ys) h))

-- a list with a first key has a first item
pub record HasFirst (items : List Item) (key : Key) : Type 0 where
  pub first : Item
  pub others : List Item
  pub items_are : items ≡ first ∷ others
  pub key_is : first.0 ≡ key

pub first_is : (items : List Item) (key : Key) → first_key items ≡ Some key → HasFirst items key
first_is [] key h = absurd cc
first_is (item ∷ items) key h = record { first = item; others = items; items_are = refl; key_is = cc }

pub first_append : (xs ys : List Item) (key : Key) → first_key xs ≡ Some key → first_key (xs ++ ys) ≡ Some key
first_append [] ys key h = absurd cc
first_append (x ∷ xs) ys key h = h

-- where the first key is above a key, all are
pub above_from_first : (key first : Key) (items : List Item) → ItemsRise items → first_key items ≡ Some first → KeyBelow key first → AreAbove key items
above_from_first key first [] rise is h = absurd cc
above_from_first key first (x ∷ xs) rise is h =
    let same : first ≡ x.0 = cc in
    let here : KeyBelow key x.0 = rw (sym same) h in
    All-cons (λ (item : Item). KeyBelow key item.0) x xs here (All-weaker (λ (item : Item). KeyBelow x.0 item.0) (λ (item : Item). KeyBelow key item.0) (λ z k. KeyBelow_trans key x.0 z.0 here k) xs (rise_head x xs rise))
