-- Items appended to a packed leaf one by one.
use Rattle.std.proofs.Common.{◌≡◌, ◌≤◌, ◌<◌, ◌+◌, ◌-◌, ◌*◌, ℕ, suc, zero, true, List, [], ◌∷◌, ◌++◌, length, drop, get_or, refl, ap, arith, ◌∙◌, sym, Some, slice_get, length-append, length-drop, append_assoc}
use Rattle.std.specs.Prelude.{insert}
use Rattle.std.proofs.lemmas.List.{drop_more, drop_all, append-nil}
use Rattle.std.proofs.lemmas.List.Edits.{insert_end}
use Rattle.std.proofs.lemmas.Option.{same_Some}
use Rattle.blk_base.specs.declared.key.Key.{Key}
use Rattle.blk_base.specs.Keys.{keys_rise}
use Rattle.blk_base.specs.Leaf.{Item, data_of, room_of}
use Rattle.leaf_view.specs.Listed.{items_in}
use Rattle.leaf_view.specs.Search.{keys_of, contents_of}
use Rattle.leaf_edit.specs.Packed.{IsPacked}
use Rattle.leaf_edit.specs.Amounts.{data_of-append}
use Rattle.leaf_edit.specs.Passing.{packed_items, packed_itself}
use Rattle.leaf_edit.specs.Rises.{rise_head, rise_tail, rise_cons}

-- the items so far and those to come are all
pub record Appended (first now : List ℕ) (source : List Item) (from i : ℕ) : Type 0 where
  pub packed : IsPacked now (items_in now)
  pub total : items_in now ++ drop i source ≡ items_in first ++ drop from source

-- an item by its key and its data
item_by : (items : List Item) (i : ℕ) (key : Key) (content : List ℕ) → slice_get (keys_of items) i ≡ Some key → slice_get (contents_of items) i ≡ Some content → i < length items → get_or items i (key, content) ≡ (key, content)
item_by [] i key content k c within = absurd (omega arith)
item_by (item ∷ items) zero key content k c within = ap (λ x. (x, item.1)) (same_Some item.0 key k) ∙ ap (λ x. (key, x)) (same_Some item.1 content c)
item_by (item ∷ items) (suc i) key content k c within = item_by items i key content k c (omega arith)

rise_front : (xs ys : List Item) → keys_rise (keys_of (xs ++ ys)) ≡ true → keys_rise (keys_of xs) ≡ true
rise_front [] ys h = refl
rise_front (a ∷ []) ys h = refl
rise_front (a ∷ b ∷ xs) ys h = rise_cons a.0 b.0 (keys_of xs) (rise_head a.0 b.0 (keys_of (xs ++ ys)) h) (rise_front (b ∷ xs) ys (rise_tail a.0 (keys_of (b ∷ xs ++ ys)) h))

module _ (first now : List ℕ) (source : List Item) (from i : ℕ) (key : Key) (content : List ℕ) (h : Appended first now source from i) (within : i < length source)
    (has_key : slice_get (keys_of source) i ≡ Some key) (has_content : slice_get (contents_of source) i ≡ Some content) where
  abbrev item : Item
  item = (key, content)

  abbrev rest : List Item
  rest = drop (i + 1) source

  next_item : drop i source ≡ item ∷ rest
  next_item = drop_more source i item within ∙ ap (λ x. x ∷ rest) (item_by source i key content has_key has_content within)

  split_total : (items_in now ++ item ∷ []) ++ rest ≡ items_in first ++ drop from source
  split_total = append_assoc (items_in now) (item ∷ []) rest ∙ ap (λ list. items_in now ++ list) (sym next_item) ∙ h.total

  pub room_for : IsPacked first (items_in first) → from ≤ length source → 25 * (length source - from) + data_of (drop from source) ≤ room_of (items_in first) → 25 + length content ≤ room_of (items_in now)
  room_for packed order room =
      let fits = packed.fits in
      let long = ap length split_total in
      let much = ap data_of split_total in
      omega (
        arith,
        long,
        much,
        length-append (items_in now ++ item ∷ []) rest,
        length-append (items_in now) (item ∷ []),
        length-append (items_in first) (drop from source),
        length-drop from source,
        data_of-append (items_in now ++ item ∷ []) rest,
        data_of-append (items_in now) (item ∷ []),
        data_of-append (items_in first) (drop from source),
      )

  pub order_for : keys_rise (keys_of (items_in first ++ drop from source)) ≡ true → keys_rise (keys_of (insert (items_in now) (length (items_in now)) (key, content))) ≡ true
  order_for rise =
      ap (λ list. keys_rise (keys_of list)) (insert_end (items_in now) item) ∙ rise_front (items_in now ++ item ∷ []) rest (ap (λ list. keys_rise (keys_of list)) split_total ∙ rise)

  pub appended_more : (new : List ℕ) → IsPacked new (insert (items_in now) (length (items_in now)) (key, content)) → Appended first new source from (i + 1)
  appended_more new packed = record {
    packed = packed_itself new (insert (items_in now) (length (items_in now)) (key, content)) packed;
    total = ap (λ list. list ++ rest) (packed_items new (insert (items_in now) (length (items_in now)) (key, content)) packed ∙ insert_end (items_in now) item) ∙ split_total;
  }

pub appended_all : (first now : List ℕ) (source : List Item) (from i : ℕ) → Appended first now source from i → length source ≤ i → IsPacked now (items_in first ++ drop from source)
appended_all first now source from i h all =
    let whole : items_in now ≡ items_in first ++ drop from source = sym (append-nil (items_in now)) ∙ ap (λ list. items_in now ++ list) (sym (drop_all i source all)) ∙ h.total in
    rw (sym whole) h.packed
