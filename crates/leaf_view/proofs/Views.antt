-- What a leaf's body says of the parts that its view hands out.
use Rattle.std.proofs.Common.{◌≡◌, ◌<◌, ◌+◌, ◌*◌, ℕ, true, List, map, take, drop, length, get_or, length-take, length-drop, Result, Err, IfOk, IfErr, ap, arith, ◌∙◌, Some, Ok, slice_get, option_map}
use Rattle.std.proofs.lemmas.Option.{slice_get-map, get_or_from_slice_get}
use Rattle.std.proofs.lemmas.List.{get_or-take, get_or-drop}
use Rattle.blk_base.specs.declared.key.Key.{Key}
use Rattle.blk_base.specs.Bytes.{bytes_at}
use Rattle.blk_base.specs.Keys.{key_at, keys_rise}
use Rattle.blk_base.specs.Leaf.{Item, IsLeafBody, below, leaf_body_of, item_key, item_offset, item_size}
use Rattle.leaf_view.specs.Listed.{items_in}
use Rattle.leaf_view.specs.Search.{keys_of, contents_of, IsGap, IsPlace}
use Rattle.leaf_view.proofs.LeafLaws.{leaf_body_means}
use Rattle.leaf_view.proofs.Rising.{rising_from}

-- what a view knows of its block
pub body_of_view : (bytes : List ℕ) (items : List Item) → leaf_body_of bytes ≡ Ok (items_in bytes) → items_in bytes ≡ items → IsLeafBody bytes items
body_of_view bytes items passes is = leaf_body_means bytes items (passes ∙ ap (λ list. Ok list) is)

pub key_in : (bytes : List ℕ) (items : List Item) (i : ℕ) → IsLeafBody bytes items → i < length items → slice_get (keys_of items) i ≡ Some (item_key bytes i)
key_in bytes items i h within = slice_get-map (λ item. item.0) items i ∙ ap (option_map (λ item. item.0)) (h.each i within)

pub content_in : (bytes : List ℕ) (items : List Item) (i : ℕ) → IsLeafBody bytes items → i < length items → slice_get (contents_of items) i ≡ Some (bytes_at (item_size bytes i) bytes (101 + item_offset bytes i))
content_in bytes items i h within = slice_get-map (λ item. item.1) items i ∙ ap (option_map (λ item. item.1)) (h.each i within)

pub rising : (bytes : List ℕ) (items : List Item) (n : ℕ) → IsLeafBody bytes items → n ≡ length items → keys_rise (map (λ i. key_at bytes (101 + 25 * i)) (below n)) ≡ true
rising bytes items n h long = rising_from (item_key bytes) 0 n (λ i _ within. h.order i (omega arith))

-- a place by places is one by lists
pub gap_place : (keys : List Key) (f : ℕ → Key) (n : ℕ) (key : Key) (place : ℕ) → length keys ≡ n → ((i : ℕ) → i < n → slice_get keys i ≡ Some (f i)) → IsGap f n key place → IsPlace keys key place
gap_place keys f n key place long each gap = record {
  within = let w = gap.within in omega arith;
  below = λ k d within.
      let lower : k < place = omega (arith, length-take place keys) in
      let inside : k < n = let w = gap.within in omega arith in
      let same : get_or (take place keys) k d ≡ f k = get_or-take place keys k d lower ∙ get_or_from_slice_get keys k (f k) d (each k inside) in
      rw same (gap.below k lower);
  above = λ k d within.
      let inside : place + k < n = omega (arith, length-drop place keys) in
      let same : get_or (drop place keys) k d ≡ f (place + k) = get_or-drop place keys k d ∙ get_or_from_slice_get keys (place + k) (f (place + k)) d (each (place + k) inside) in
      rw same (gap.above (place + k) (omega arith) inside);
}

-- what a search by places finds, in the list of keys
pub found_in : (keys : List Key) (f : ℕ → Key) (n : ℕ) (key : Key) (r : Result ℕ ℕ) → ((i : ℕ) → i < n → slice_get keys i ≡ Some (f i)) → IfOk r (λ i. i < n) → IfOk r (λ i. f i ≡ key) → IfOk r (λ i. slice_get keys i ≡ Some key)
found_in keys f n key (Ok i) each inside found = each i inside ∙ ap (λ k. Some k) found
found_in keys f n key (Err place) each inside found = found

pub absent_in : (keys : List Key) (f : ℕ → Key) (n : ℕ) (key : Key) (r : Result ℕ ℕ) → length keys ≡ n → ((i : ℕ) → i < n → slice_get keys i ≡ Some (f i)) → IfErr r (IsGap f n key) → IfErr r (IsPlace keys key)
absent_in keys f n key (Ok i) long each gap = gap
absent_in keys f n key (Err place) long each gap = gap_place keys f n key place long each gap
