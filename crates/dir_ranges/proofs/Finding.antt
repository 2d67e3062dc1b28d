-- The first item of refs with an uncovered place, and what stands behind it.
use Rattle.std.proofs.Common.{◌≡◌, ◌≤◌, ◌+◌, ◌∙◌, Bool, true, false, not, cond, List, [], ◌∷◌, ◌++◌, length, Contains, Option, Some, None, filter, find, flat_map, refl, sym, ap, subst, inl, inr, arith}
use Rattle.std.proofs.lemmas.Bool.{cases_Bool, true≢false}
use Rattle.std.proofs.lemmas.Bool.Decides.{nat_tests}
use Rattle.std.proofs.lemmas.List.Elements.{Contains-append_cases}
use Rattle.blk_base.specs.declared.key.Key.{Key}
use Rattle.blk_base.specs.Keys.{key_below}
use Rattle.blk_base.specs.Leaf.{Item}
use Rattle.blk_base.specs.Trees.{ItemsRise}
use Rattle.cow_tree.proofs.Items.{rise_filter}
use Rattle.flat_model.proofs.Lists.{filter_keeps, filter_swaps}
use Rattle.logged_volume.specs.FlatLog.{LogRange}
use Rattle.tree_range.specs.Between.{items_between, items_from, items_up_to}
use Rattle.tree_range.proofs.Rise.{rise_before, rise_right}
use Rattle.tree_range.proofs.Under.{from_key, not_below_from}
use Rattle.volume_image.proofs.Lists.{in_cons, in_nothing}
use Rattle.volume_image.proofs.Members.{in_filter}
use Rattle.volume_image.proofs.Reaches.{head_in, tail_in}
use Rattle.dir_ranges.specs.declared.place.Place.{Place}
use Rattle.dir_ranges.specs.declared.uncovered.Uncovered.{Uncovered}
use Rattle.dir_ranges.specs.Gone.{first_uncovered, found_in, is_uncovered, places_told}

-- ---- what is found in a list

pub find_none : {X : Type 0} (p : X → Bool) (xs : List X) → find p xs ≡ None → (x : X) → Contains xs x → p x ≡ false
find_none p [] e x c = absurd (in_nothing x c)
find_none {X} p (y ∷ ys) e x c = elim (cases_Bool (p y)) [
  | inl here ↦ let wrong : Some y ≡ None = sym (ap (λ (b : Bool). cond b (Some y) (find p ys)) here) ∙ e in absurd cc
  | inr past ↦ elim (in_cons y x ys c) [
    | inl same ↦ ap p (sym same) ∙ past
    | inr later ↦ find_none p ys (sym (ap (λ (b : Bool). cond b (Some y) (find p ys)) past) ∙ e) x later
  ]
]

pub find_some : {X : Type 0} (p : X → Bool) (xs : List X) (x : X) → find p xs ≡ Some x → Contains xs x × (p x ≡ true)
find_some p [] x e = absurd cc
find_some {X} p (y ∷ ys) x e = elim (cases_Bool (p y)) [
  | inl here ↦
      let first : Some y ≡ Some x = sym (ap (λ (b : Bool). cond b (Some y) (find p ys)) here) ∙ e in
      let same : y ≡ x = cc in
      (subst (Contains (y ∷ ys)) same (head_in y ys), ap p (sym same) ∙ here)
  | inr past ↦ let rest = find_some p ys x (sym (ap (λ (b : Bool). cond b (Some y) (find p ys)) past) ∙ e) in (tail_in y x ys rest.0, rest.1)
]

pub find_front : {X : Type 0} (p : X → Bool) (xs ys : List X) (x : X) → find p xs ≡ Some x → find p (xs ++ ys) ≡ Some x
find_front p [] ys x e = absurd cc
find_front {X} p (z ∷ zs) ys x e = elim (cases_Bool (p z)) [
  | inl here ↦ ap (λ (b : Bool). cond b (Some z) (find p (zs ++ ys))) here ∙ sym (ap (λ (b : Bool). cond b (Some z) (find p zs)) here) ∙ e
  | inr past ↦ ap (λ (b : Bool). cond b (Some z) (find p (zs ++ ys))) past ∙ find_front p zs ys x (sym (ap (λ (b : Bool). cond b (Some z) (find p zs)) past) ∙ e)
]

-- a test that fewer pass, and one less that is there
pub no_more : {X : Type 0} (p q : X → Bool) (xs : List X) → ((x : X) → p x ≡ false → q x ≡ false) → length (filter q xs) ≤ length (filter p xs)
no_more p q [] fewer = omega arith
no_more p q (x ∷ xs) fewer =
    let rest = no_more p q xs fewer in
    elim (cases_Bool (p x)) [
      | inl passes ↦ elim (cases_Bool (q x)) [
        | inl both ↦ rw (passes, both) (omega (arith, rest))
        | inr one ↦ rw (passes, one) (omega (arith, rest))
      ]
      | inr none ↦ rw (none, fewer x none) rest
    ]

pub one_less : {X : Type 0} (p q : X → Bool) (xs : List X) → ((x : X) → p x ≡ false → q x ≡ false) → (x : X) → Contains xs x → p x ≡ true → q x ≡ false → length (filter q xs) + 1 ≤ length (filter p xs)
one_less p q [] fewer x c passes gone = absurd (in_nothing x c)
one_less p q (y ∷ ys) fewer x c passes gone = elim (in_cons y x ys c) [
  | inl same ↦
      let is : p y ≡ true = ap p same ∙ passes in
      let is_not : q y ≡ false = ap q same ∙ gone in
      rw (is, is_not) (omega (arith, no_more p q ys fewer))
  | inr later ↦
      let rest = one_less p q ys fewer x later passes gone in
      elim (cases_Bool (p y)) [
        | inl one ↦ elim (cases_Bool (q y)) [
          | inl both ↦ rw (one, both) (omega (arith, rest))
          | inr other ↦ rw (one, other) (omega (arith, rest))
        ]
        | inr none ↦ rw (none, fewer y none) rest
      ]
]

-- ---- the first item with an uncovered place

pub record IsFound (ranges : List LogRange) (items : List Item) (found : Uncovered) : Type 0 where
  pub front : List Item
  pub item : Item
  pub rest : List Item
  pub split : items ≡ front ++ item ∷ rest
  pub key_is : item.0 ≡ found.key
  pub clear : (place : Place) → Contains (flat_map places_told front) place → is_uncovered ranges place ≡ false
  pub here : find (is_uncovered ranges) (places_told item) ≡ Some found.place

pub cut_found : (ranges : List LogRange) (items : List Item) (found : Uncovered) → first_uncovered ranges items ≡ Some found → IsFound ranges items found
cut_found ranges [] found h = absurd cc
cut_found ranges (x ∷ xs) found h = go (cut_found ranges xs found) (find (is_uncovered ranges) (places_told x)) refl
  where
    go : (first_uncovered ranges xs ≡ Some found → IsFound ranges xs found) → (o : Option Place) → find (is_uncovered ranges) (places_told x) ≡ o → IsFound ranges (x ∷ xs) found
    go more (Some place) e =
        let first : Some (record { key = x.0; place = place }) ≡ Some found = sym (ap (λ (o : Option Place). found_in x.0 o (first_uncovered ranges xs)) e) ∙ h in
        let same : record { key = x.0; place = place } ≡ found = cc in
        record {
          front = [];
          item = x;
          rest = xs;
          split = refl;
          key_is = ap (λ (f : Uncovered). f.key) same;
          clear = λ other c. absurd (in_nothing other c);
          here = e ∙ ap (λ (f : Uncovered). Some f.place) same;
        }
    go more None e =
        let later = more (sym (ap (λ (o : Option Place). found_in x.0 o (first_uncovered ranges xs)) e) ∙ h) in
        record {
          front = x ∷ later.front;
          item = later.item;
          rest = later.rest;
          split = ap (λ (l : List Item). x ∷ l) later.split;
          key_is = later.key_is;
          clear = λ other c. elim (Contains-append_cases (places_told x) (flat_map places_told later.front) other c) [
            | inl early ↦ find_none (is_uncovered ranges) (places_told x) e other early
            | inr late ↦ later.clear other late
          ];
          here = later.here;
        }

pub none_found : (ranges : List LogRange) (items : List Item) → first_uncovered ranges items ≡ None → (place : Place) → Contains (flat_map places_told items) place → is_uncovered ranges place ≡ false
none_found ranges [] h place c = absurd (in_nothing place c)
none_found ranges (x ∷ xs) h place c = go (λ none. none_found ranges xs none place) (find (is_uncovered ranges) (places_told x)) refl
  where
    go : (first_uncovered ranges xs ≡ None → Contains (flat_map places_told xs) place → is_uncovered ranges place ≡ false) → (o : Option Place) → find (is_uncovered ranges) (places_told x) ≡ o → is_uncovered ranges place ≡ false
    go more (Some other) e =
        let given : Uncovered = record { key = x.0; place = other } in
        let wrong : Some given ≡ None = sym (ap (λ (o : Option Place). found_in x.0 o (first_uncovered ranges xs)) e) ∙ h in
        absurd cc
    go more None e = elim (Contains-append_cases (places_told x) (flat_map places_told xs) place c) [
      | inl early ↦ find_none (is_uncovered ranges) (places_told x) e place early
      | inr late ↦ more (sym (ap (λ (o : Option Place). found_in x.0 o (first_uncovered ranges xs)) e) ∙ h) late
    ]

-- ---- what stands behind a key

pub lower_too : (key first low : Key) → key_below key low ≡ true → key_below first low ≡ false → key_below key first ≡ true
lower_too key first low a b = grind (arith, nat_tests)

pub not_true : (b : Bool) → not b ≡ true → b ≡ false
not_true true h = sym h
not_true false h = refl

pub from_both : (first low : Key) (items : List Item) → key_below first low ≡ false → items_from first items ≡ items_from first (items_from low items)
from_both first low items above =
    sym (filter_keeps (λ (x : Item). not (key_below x.0 low)) (items_from first items) (λ item c. each item (in_filter (λ (x : Item). not (key_below x.0 first)) items item c).1))
    ∙ filter_swaps (λ (x : Item). not (key_below x.0 low)) (λ (x : Item). not (key_below x.0 first)) items
  where
    each : (item : Item) → not (key_below item.0 first) ≡ true → not (key_below item.0 low) ≡ true
    each item from = elim (cases_Bool (key_below item.0 low)) [
      | inl below ↦ absurd (true≢false (sym from ∙ ap not (lower_too item.0 first low below above)))
      | inr here ↦ ap not here
    ]

pub behind : (low last : Key) (items front : List Item) (item : Item) (rest : List Item) → ItemsRise items → items_between low last items ≡ front ++ item ∷ rest → items_between item.0 last items ≡ item ∷ rest
behind low last items front item rest rise split =
    ap (items_up_to last) (from_both item.0 low items above)
    ∙ filter_swaps (λ (x : Item). not (key_below last x.0)) (λ (x : Item). not (key_below x.0 item.0)) (items_from low items)
    ∙ ap (items_from item.0) split
    ∙ from_key item.0 front (item ∷ rest) (rise_before front item rest between_rises) (not_below_from item rest (rise_right front (item ∷ rest) between_rises))
  where
    between_rises : ItemsRise (front ++ item ∷ rest)
    between_rises = subst ItemsRise split (rise_filter (λ (x : Item). not (key_below last x.0)) (items_from low items) (rise_filter (λ (x : Item). not (key_below x.0 low)) items rise))

    there : Contains (items_between low last items) item
    there = subst (λ (l : List Item). Contains l item) (sym split) (Rattle.dir_ranges.proofs.Middle.middle_has item front rest)

    above : key_below item.0 low ≡ false
    above = not_true (key_below item.0 low) (in_filter (λ (x : Item). not (key_below x.0 low)) items item (in_filter (λ (x : Item). not (key_below last x.0)) (items_from low items) item there).0).1
