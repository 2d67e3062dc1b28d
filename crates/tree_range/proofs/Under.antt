-- Items found by their keys in a list that rises.
use Rattle.std.proofs.Common.{arith, ◌≡◌, Bool, true, false, not, List, [], ◌∷◌, ◌++◌, refl, ap, ◌∙◌, subst, Some, None, if◌then◌else◌}
use Rattle.std.specs.Prelude.{All, filter}
use Rattle.std.specs.Ordering.{is_eq}
use Rattle.std.specs.declared.cmp.Ordering.{Ordering}
use Rattle.std.specs.declared.cmp.Ordering.TheVariants.{Less, Equal, Greater}
use Rattle.std.proofs.lemmas.Bool.{false_from_ne_true}
use Rattle.std.proofs.lemmas.Bool.Decides.{nat_tests}
use Rattle.std.proofs.lemmas.List.Elements.{All-cons, All-head, All-tail, All-weaker, filter-append}
use Rattle.blk_base.specs.declared.key.Key.{Key}
use Rattle.blk_base.specs.Keys.{KeyBelow, key_below, key_cmp}
use Rattle.blk_base.specs.Leaf.{Item}
use Rattle.blk_base.specs.Trees.{ItemsRise, first_key}
use Rattle.leaf_view.specs.KeyOrder.{KeyBelow_trans, KeyBelow_irrefl, same_key}
use Rattle.leaf_view.proofs.Rising.{key_below_means, key_below_from}
use Rattle.tree_range.specs.Between.{has_key, data_under, items_from, items_up_to, items_from_some, AreBelow, AreAbove}
use Rattle.tree_range.proofs.Rise.{rise_before, rise_head, rise_right}

is_eq_means : (o : Ordering) → is_eq o ≡ true → o ≡ Equal
is_eq_means Less h = cc
is_eq_means Equal h = refl
is_eq_means Greater h = cc

-- an item's key is the key exactly where the test says so
pub has_key_means : (key : Key) (item : Item) → has_key key item ≡ true → item.0 ≡ key
has_key_means key item h = same_key item.0 key (is_eq_means (key_cmp item.0 key) h)

pub has_key_below : (key : Key) (item : Item) → KeyBelow item.0 key → has_key key item ≡ false
has_key_below key item h = ap is_eq h

pub has_key_above : (key : Key) (item : Item) → KeyBelow key item.0 → has_key key item ≡ false
has_key_above key item h =
    false_from_ne_true (has_key key item) (λ same. KeyBelow_irrefl key (subst (λ (k : Key). KeyBelow key k) (has_key_means key item same) h))

pub none_below : (key : Key) (items : List Item) → AreBelow key items → All (λ (item : Item). has_key key item ≡ false) items
none_below key items h = All-weaker (λ (item : Item). KeyBelow item.0 key) (λ (item : Item). has_key key item ≡ false) (λ item k. has_key_below key item k) items h

pub none_above : (key : Key) (items : List Item) → AreAbove key items → All (λ (item : Item). has_key key item ≡ false) items
none_above key items h = All-weaker (λ (item : Item). KeyBelow key item.0) (λ (item : Item). has_key key item ≡ false) (λ item k. has_key_above key item k) items h

-- a look-up passes over what has another key
pub under_past : (key : Key) (front rest : List Item) → All (λ (item : Item). has_key key item ≡ false) front → data_under key (front ++ rest) ≡ data_under key rest
under_past key [] rest h = refl
under_past key (x ∷ xs) rest h =
    let other : has_key key x ≡ false = All-head (λ (item : Item). has_key key item ≡ false) x xs h in
    ap (λ (b : Bool). if b then Some x.1 else data_under key (xs ++ rest)) other ∙ under_past key xs rest (All-tail (λ (item : Item). has_key key item ≡ false) x xs h)

pub under_none : (key : Key) (items : List Item) → All (λ (item : Item). has_key key item ≡ false) items → data_under key items ≡ None
under_none key [] h = refl
under_none key (x ∷ xs) h =
    let other : has_key key x ≡ false = All-head (λ (item : Item). has_key key item ≡ false) x xs h in
    ap (λ (b : Bool). if b then Some x.1 else data_under key xs) other ∙ under_none key xs (All-tail (λ (item : Item). has_key key item ≡ false) x xs h)

cmp_self : (key : Key) → key_cmp key key ≡ Equal
cmp_self key = grind (arith, nat_tests)

pub has_key_itself : (item : Item) → has_key item.0 item ≡ true
has_key_itself item = ap is_eq (cmp_self item.0)

pub under_here : (item : Item) (rest : List Item) → data_under item.0 (item ∷ rest) ≡ Some item.1
under_here item rest = ap (λ (b : Bool). if b then Some item.1 else data_under item.0 rest) (has_key_itself item)

-- ---- the items from a key on

below_not : (a b : Key) → KeyBelow a b → key_below b a ≡ false
below_not a b h = false_from_ne_true (key_below b a) (λ k. KeyBelow_irrefl a (KeyBelow_trans a b a h (key_below_means b a k)))

below_itself : (a : Key) → key_below a a ≡ false
below_itself a = false_from_ne_true (key_below a a) (λ k. KeyBelow_irrefl a (key_below_means a a k))

pub filter_all : {X : Type 0} (p : X → Bool) (xs : List X) → All (λ x. p x ≡ true) xs → filter p xs ≡ xs
filter_all p [] h = refl
filter_all p (x ∷ xs) h =
    let passes : p x ≡ true = All-head (λ y. p y ≡ true) x xs h in
    rw passes (ap (λ l. x ∷ l) (filter_all p xs (All-tail (λ y. p y ≡ true) x xs h)))

pub filter_none : {X : Type 0} (p : X → Bool) (xs : List X) → All (λ x. p x ≡ false) xs → filter p xs ≡ []
filter_none p [] h = refl
filter_none p (x ∷ xs) h =
    let fails : p x ≡ false = All-head (λ y. p y ≡ false) x xs h in
    rw fails (filter_none p xs (All-tail (λ y. p y ≡ false) x xs h))

-- what stands from a key on
pub from_key : (key : Key) (front rest : List Item) → AreBelow key front → All (λ (item : Item). key_below item.0 key ≡ false) rest → items_from key (front ++ rest) ≡ rest
from_key key front rest below above =
    let p : Item → Bool = λ (item : Item). not (key_below item.0 key) in
    let none : filter p front ≡ [] = filter_none p front (All-weaker (λ (item : Item). KeyBelow item.0 key) (λ (item : Item). p item ≡ false) (λ item k. ap not (key_below_from item.0 key k)) front below) in
    let all : filter p rest ≡ rest = filter_all p rest (All-weaker (λ (item : Item). key_below item.0 key ≡ false) (λ (item : Item). p item ≡ true) (λ item k. ap not k) rest above) in
    filter-append p front rest ∙ ap (λ (l : List Item). l ++ filter p rest) none ∙ all

pub not_below : (key : Key) (items : List Item) → AreAbove key items → All (λ (item : Item). key_below item.0 key ≡ false) items
not_below key items h = All-weaker (λ (item : Item). KeyBelow key item.0) (λ (item : Item). key_below item.0 key ≡ false) (λ item k. below_not key item.0 k) items h

pub not_below_from : (x : Item) (xs : List Item) → ItemsRise (x ∷ xs) → All (λ (item : Item). key_below item.0 x.0 ≡ false) (x ∷ xs)
not_below_from x xs rise = All-cons (λ (item : Item). key_below item.0 x.0 ≡ false) x xs (below_itself x.0) (not_below x.0 xs (rise_head x xs rise))

-- from the first key of what is left on stands what is left
pub rest_is : (front rest : List Item) → ItemsRise (front ++ rest) → items_from_some (first_key rest) (front ++ rest) ≡ rest
rest_is front [] rise = refl
rest_is front (x ∷ xs) rise = from_key x.0 front (x ∷ xs) (rise_before front x xs rise) (not_below_from x xs (rise_right front (x ∷ xs) rise))

-- ---- the items up to a key

-- where the first key is above it there are none
pub up_to_none : (last : Key) (x : Item) (xs : List Item) → ItemsRise (x ∷ xs) → KeyBelow last x.0 → items_up_to last (x ∷ xs) ≡ []
up_to_none last x xs rise above =
    let p : Item → Bool = λ (item : Item). not (key_below last item.0) in
    filter_none p (x ∷ xs) (All-cons (λ (item : Item). p item ≡ false) x xs (ap not (key_below_from last x.0 above))
    (All-weaker (λ (item : Item). KeyBelow x.0 item.0) (λ (item : Item). p item ≡ false) (λ item k. ap not (key_below_from last item.0 (KeyBelow_trans last x.0 item.0 above k))) xs (rise_head x xs rise)))

-- else the first is one
pub up_to_more : (last : Key) (x : Item) (xs : List Item) → key_below last x.0 ≡ false → items_up_to last (x ∷ xs) ≡ x ∷ items_up_to last xs
up_to_more last x xs h = rw h refl
