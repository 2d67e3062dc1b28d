-- The first item of a range goes from a list.
use Rattle.std.proofs.Common.{◌≡◌, ◌+◌, ◌∙◌, ◌||◌, Bool, false, List, [], ◌∷◌, ◌++◌, length, Some, None, IsSome, inl, inr, refl, sym, ap, subst, arith}
use Rattle.std.specs.Prelude.{filter}
use Rattle.std.proofs.lemmas.Bool.{cases_Bool}
use Rattle.std.proofs.lemmas.List.Elements.{filter-append}
use Rattle.blk_base.specs.declared.key.Key.{Key}
use Rattle.blk_base.specs.Keys.{key_below}
use Rattle.blk_base.specs.Leaf.{Item}
use Rattle.blk_base.specs.Trees.{ItemsRise, first_key}
use Rattle.tree_range.specs.Between.{data_under, has_key, items_between}
use Rattle.tree_range.proofs.Under.{under_here}
use Rattle.tree_frame.specs.Frame.{without_item}
use Rattle.tree_delete.specs.Ahead.{IsBetween}
use Rattle.tree_delete.proofs.Items.{without_here}
use Rattle.tree_delete_range.specs.Outside.{items_outside}
use Rattle.tree_delete_range.proofs.Changes.{yes, yes_append}
use Rattle.tree_delete_range.proofs.Few.{answers, answers_append, yes_answers}

-- the list around its first item of the range
pub record IsCut (first last : Key) (items : List Item) (key : Key) : Type 0 where
  pub front : List Item
  pub item : Item
  pub rest : List Item
  pub split : items ≡ front ++ item ∷ rest
  pub key_is : item.0 ≡ key
  pub from : key_below item.0 first ≡ false
  pub up_to : key_below last item.0 ≡ false

behind : (first last : Key) (x : Item) (xs : List Item) (key : Key) → IsCut first last xs key → IsCut first last (x ∷ xs) key
behind first last x xs key cut = record {
  front = x ∷ cut.front;
  item = cut.item;
  rest = cut.rest;
  split = ap (λ (l : List Item). x ∷ l) cut.split;
  key_is = cut.key_is;
  from = cut.from;
  up_to = cut.up_to;
}

pub cut_first : (first last : Key) (items : List Item) (key : Key) → first_key (items_between first last items) ≡ Some key → IsCut first last items key
cut_first first last [] key h = absurd cc
cut_first first last (x ∷ xs) key h = elim (cases_Bool (key_below x.0 first)) [
  | inl before ↦ behind first last x xs key (cut_first first last xs key (rw before at h))
  | inr from ↦ elim (cases_Bool (key_below last x.0)) [
    | inl above ↦ behind first last x xs key (cut_first first last xs key (rw (from, above) at h))
    | inr up_to ↦ let here = rw (from, up_to) at h in record { front = []; item = x; rest = xs; split = refl; key_is = cc; from = from; up_to = up_to }
  ]
]

-- where there is no first one, there is none
pub none_left : (first last : Key) (items : List Item) → first_key (items_between first last items) ≡ None → items_outside first last items ≡ items
none_left first last [] h = refl
none_left first last (x ∷ xs) h = elim (cases_Bool (key_below x.0 first)) [
  | inl before ↦ rw before (ap (λ (l : List Item). x ∷ l) (none_left first last xs (rw before at h)))
  | inr from ↦ elim (cases_Bool (key_below last x.0)) [
    | inl above ↦ rw (from, above) (ap (λ (l : List Item). x ∷ l) (none_left first last xs (rw (from, above) at h)))
    | inr up_to ↦ let here = rw (from, up_to) at h in absurd cc
  ]
]

under_some : (front : List Item) (item : Item) (rest : List Item) → IsSome (data_under item.0 (front ++ item ∷ rest))
under_some [] item rest = rw (under_here item rest) refl
under_some (x ∷ xs) item rest = elim (cases_Bool (has_key item.0 x)) [
  | inl same ↦ rw same refl
  | inr other ↦ rw other (under_some xs item rest)
]

module _ (first last : Key) (front : List Item) (item : Item) (rest : List Item) (from : key_below item.0 first ≡ false) (up_to : key_below last item.0 ≡ false) where
  one_yes : yes (answers first last (item ∷ rest)) ≡ 1 + yes (answers first last rest)
  one_yes = rw (from, up_to) refl

  one_less : length (items_between first last (front ++ rest)) + 1 ≡ length (items_between first last (front ++ item ∷ rest))
  one_less =
      let old = yes_answers first last (front ++ item ∷ rest) in
      let new = yes_answers first last (front ++ rest) in
      let old_parts = ap yes (answers_append first last front (item ∷ rest)) ∙ yes_append (answers first last front) (answers first last (item ∷ rest)) in
      let new_parts = ap yes (answers_append first last front rest) ∙ yes_append (answers first last front) (answers first last rest) in
      omega (arith, old, new, old_parts, new_parts, one_yes)

  no_other : items_outside first last (item ∷ rest) ≡ items_outside first last rest
  no_other = rw (from, up_to) refl

  same_outside : items_outside first last (front ++ rest) ≡ items_outside first last (front ++ item ∷ rest)
  same_outside =
      let p : Item → Bool = λ item'. key_below item'.0 first || key_below last item'.0 in
      filter-append p front rest ∙ ap (λ (l : List Item). filter p front ++ l) (sym no_other) ∙ sym (filter-append p front (item ∷ rest))

-- the first item of the range is there, and without it the range has one item less, and the others stay
pub record IsGone (first last : Key) (items : List Item) (key : Key) : Type 0 where
  pub present : IsSome (data_under key items)
  pub between : IsBetween first last key
  pub fewer : length (items_between first last (without_item key items)) + 1 ≡ length (items_between first last items)
  pub outside : items_outside first last (without_item key items) ≡ items_outside first last items

gone_at : (first last : Key) (front : List Item) (item : Item) (rest : List Item) → ItemsRise (front ++ item ∷ rest) → key_below item.0 first ≡ false → key_below last item.0 ≡ false → IsGone first last (front ++ item ∷ rest) item.0
gone_at first last front item rest rise from up_to =
    let left : without_item item.0 (front ++ item ∷ rest) ≡ front ++ rest = without_here front item rest rise in
    record {
      present = under_some front item rest;
      between = record { from = from; to = up_to };
      fewer = ap (λ (l : List Item). length (items_between first last l) + 1) left ∙ one_less first last front item rest from up_to;
      outside = ap (items_outside first last) left ∙ same_outside first last front item rest from up_to;
    }

pub first_goes : (first last : Key) (items : List Item) (key : Key) → ItemsRise items → first_key (items_between first last items) ≡ Some key → IsGone first last items key
first_goes first last items key rise h =
    let cut = cut_first first last items key h in
    let there : IsGone first last (cut.front ++ cut.item ∷ cut.rest) cut.item.0 = gone_at first last cut.front cut.item cut.rest (subst ItemsRise cut.split rise) cut.from cut.up_to in
    let keyed : IsGone first last (cut.front ++ cut.item ∷ cut.rest) key = subst (λ (k : Key). IsGone first last (cut.front ++ cut.item ∷ cut.rest) k) cut.key_is there in
    subst (λ (l : List Item). IsGone first last l key) (sym cut.split) keyed
