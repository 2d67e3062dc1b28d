-- What a search in the leaf where a key belongs says of the tree.
use Rattle.std.proofs.Common.{◌≡◌, ◌<◌, ℕ, zero, suc, Bool, true, false, List, [], ◌∷◌, ◌++◌, length, take, drop, slice_get, ap, ◌∙◌, sym, subst, Some, None, inl, inr, arith, append_assoc}
use Rattle.std.specs.Prelude.{All, Contains, slice_index_or, option_map, if◌then◌else◌}
use Rattle.std.proofs.lemmas.Bool.{cases_Bool}
use Rattle.std.proofs.lemmas.List.{length-map, take-map, drop-map, append-nil, take-append-drop}
use Rattle.std.proofs.lemmas.List.Elements.{All-append, All-same, All-contains}
use Rattle.std.proofs.lemmas.Option.{slice_get-map, slice_get_within}
use Rattle.blk_base.specs.declared.key.Key.{Key}
use Rattle.blk_base.specs.Keys.{KeyBelow, key_below}
use Rattle.blk_base.specs.Leaf.{Item}
use Rattle.blk_base.specs.Trees.{ItemsRise}
use Rattle.leaf_view.specs.Search.{IsPlace, contents_of, keys_of}
use Rattle.tree_range.specs.Between.{has_key, data_under, AreBelow, AreAbove}
use Rattle.tree_range.specs.Path.{IsStart}
use Rattle.tree_range.proofs.Cuts.{mapped_at, cut_at, drop_here, All-unmap}
use Rattle.tree_range.proofs.Rise.{rise_before, rise_head, rise_left, rise_right, rise_tail}
use Rattle.tree_range.proofs.Under.{has_key_below, has_key_means, none_above, none_below, not_below, not_below_from, under_here, under_none, under_past}

abbrev pub key_of : Item → Key
key_of item = item.0

abbrev pub content_of : Item → List ℕ
content_of item = item.1

regroup : {A : Type 0} (before l : List A) (x : A) (r after : List A) → before ++ ((l ++ x ∷ r) ++ after) ≡ (before ++ l) ++ x ∷ (r ++ after)
regroup before l x r after = simp append_assoc

-- the data of the item that a search found
pub found_under : (all before leaf after : List Item) (key : Key) (place : ℕ) (bytes : List ℕ) → ItemsRise all → all ≡ before ++ (leaf ++ after) → slice_get (keys_of leaf) place ≡ Some key → slice_get (contents_of leaf) place ≡ Some bytes
    → data_under key all ≡ Some bytes
found_under all before leaf after key place bytes rise is found content =
    let there = mapped_at key_of leaf place key found in
    let x = there.element in
    let bytes_are : x.1 ≡ bytes = let e : Some x.1 ≡ Some bytes = sym (slice_get-map content_of leaf place ∙ ap (option_map content_of) there.at_place) ∙ content in cc in
    let shown : all ≡ (before ++ take place leaf) ++ x ∷ (drop (suc place) leaf ++ after) =
    is ∙ ap (λ (l : List Item). before ++ (l ++ after)) (cut_at leaf place x there.at_place) ∙ regroup before (take place leaf) x (drop (suc place) leaf) after in
    let below : AreBelow x.0 (before ++ take place leaf) = rise_before (before ++ take place leaf) x (drop (suc place) leaf ++ after) (subst ItemsRise shown rise) in
    let under : data_under x.0 all ≡ Some x.1 = ap (data_under x.0) shown ∙ under_past x.0 (before ++ take place leaf) (x ∷ (drop (suc place) leaf ++ after)) (none_below x.0 (before ++ take place leaf) below) ∙ under_here x (drop (suc place) leaf ++ after) in
    subst (λ (k : Key). data_under k all ≡ Some bytes) there.value_is (under ∙ ap (λ (b : List ℕ). Some b) bytes_are)

-- no item of a leaf has a key that belongs between two of it
none_here : (leaf : List Item) (key : Key) (place : ℕ) → IsPlace (keys_of leaf) key place → All (λ (item : Item). has_key key item ≡ false) leaf
none_here leaf key place h =
    let P : Item → Type 0 = λ (item : Item). has_key key item ≡ false in
    let below : AreBelow key (take place leaf) = All-unmap (λ (k : Key). KeyBelow k key) key_of (take place leaf) (subst (λ (l : List Key). All (λ (k : Key). KeyBelow k key) l) (take-map key_of place leaf) h.below) in
    let above : AreAbove key (drop place leaf) = All-unmap (λ (k : Key). KeyBelow key k) key_of (drop place leaf) (subst (λ (l : List Key). All (λ (k : Key). KeyBelow key k) l) (drop-map key_of place leaf) h.above) in
    All-same P leaf (take place leaf ++ drop place leaf) (sym (take-append-drop place leaf)) (All-append P (take place leaf) (drop place leaf) (none_below key (take place leaf) below) (none_above key (drop place leaf) above))

pub absent_under : (all before leaf after : List Item) (key : Key) (place : ℕ) → all ≡ before ++ (leaf ++ after) → AreBelow key before → AreAbove key after → IsPlace (keys_of leaf) key place → data_under key all ≡ None
absent_under all before leaf after key place is below above h =
    let P : Item → Type 0 = λ (item : Item). has_key key item ≡ false in
    under_none key all (All-same P all (before ++ (leaf ++ after)) is (All-append P before (leaf ++ after) (none_below key before below) (All-append P leaf after (none_here leaf key place h) (none_above key after above))))

-- a leaf's own items
pub found_here : (leaf : List Item) (key : Key) (place : ℕ) (bytes : List ℕ) → ItemsRise leaf → slice_get (keys_of leaf) place ≡ Some key → slice_get (contents_of leaf) place ≡ Some bytes → data_under key leaf ≡ Some bytes
found_here leaf key place bytes rise found content = found_under leaf [] leaf [] key place bytes rise (sym (append-nil leaf)) found content

pub leaf_rises : (all before leaf after : List Item) → ItemsRise all → all ≡ before ++ (leaf ++ after) → ItemsRise leaf
leaf_rises all before leaf after rise is = rise_left leaf after (rise_right before (leaf ++ after) (subst ItemsRise is rise))

-- ---- where the items from a key on begin

pub start_found : (leaf : List Item) (key : Key) (place : ℕ) → ItemsRise leaf → slice_get (keys_of leaf) place ≡ Some key → IsStart leaf key place
start_found leaf key place rise found =
    let there = mapped_at key_of leaf place key found in
    let x = there.element in
    let cut = cut_at leaf place x there.at_place in
    let rises : ItemsRise (take place leaf ++ x ∷ drop (suc place) leaf) = subst ItemsRise cut rise in
    let made : IsStart leaf x.0 place = record {
      inside = omega (arith, slice_get_within leaf place x there.at_place);
      below = rise_before (take place leaf) x (drop (suc place) leaf) rises;
      from = All-same (λ (item : Item). key_below item.0 x.0 ≡ false) (drop place leaf) (x ∷ drop (suc place) leaf) (drop_here leaf place x there.at_place) (not_below_from x (drop (suc place) leaf) (rise_right (take place leaf) (x ∷ drop (suc place) leaf) rises));
    } in
    subst (λ (k : Key). IsStart leaf k place) there.value_is made

pub start_absent : (leaf : List Item) (key : Key) (place : ℕ) → IsPlace (keys_of leaf) key place → IsStart leaf key place
start_absent leaf key place h = record {
  inside = omega (arith, h.within, length-map leaf key_of);
  below = All-unmap (λ (k : Key). KeyBelow k key) key_of (take place leaf) (subst (λ (l : List Key). All (λ (k : Key). KeyBelow k key) l) (take-map key_of place leaf) h.below);
  from = not_below key (drop place leaf) (All-unmap (λ (k : Key). KeyBelow key k) key_of (drop place leaf) (subst (λ (l : List Key). All (λ (k : Key). KeyBelow key k) l) (drop-map key_of place leaf) h.above));
}

-- ---- data under keys, and items that a list contains

made_of : (x : Item) (key : Key) (bytes : List ℕ) → x.0 ≡ key → x.1 ≡ bytes → x ≡ (key, bytes)
made_of x key bytes e f = ap (λ (k : Key). (k, x.1)) e ∙ ap (λ (b : List ℕ). (key, b)) f

contains_more : (x y : Item) (xs : List Item) → Contains xs y → Contains (x ∷ xs) y
contains_more x y xs h = (suc h.0, omega (arith, h.1), h.2)

under_cons : (key : Key) (x : Item) (xs : List Item) (b : Bool) → has_key key x ≡ b → data_under key (x ∷ xs) ≡ (if b then Some x.1 else data_under key xs)
under_cons key x xs b h = ap (λ (b' : Bool). if b' then Some x.1 else data_under key xs) h

pub contains_under : (items : List Item) (key : Key) (bytes : List ℕ) → data_under key items ≡ Some bytes → Contains items (key, bytes)
contains_under [] key bytes h = absurd cc
contains_under (x ∷ xs) key bytes h = elim (cases_Bool (has_key key x)) [
  | inl same ↦ let e : Some x.1 ≡ Some bytes = sym (under_cons key x xs true same) ∙ h in let bytes_are : x.1 ≡ bytes = cc in (0, omega arith, made_of x key bytes (has_key_means key x same) bytes_are)
  | inr other ↦ contains_more x (key, bytes) xs (contains_under xs key bytes (sym (under_cons key x xs false other) ∙ h))
]

pub under_contains : (items : List Item) (key : Key) (bytes : List ℕ) (place : ℕ) → ItemsRise items → place < length items → slice_index_or items place (key, bytes) ≡ (key, bytes) → data_under key items ≡ Some bytes
under_contains [] key bytes place rise inside is = absurd (omega arith)
under_contains (x ∷ xs) key bytes zero rise inside is =
    subst (λ (item : Item). data_under item.0 (x ∷ xs) ≡ Some item.1) is (under_here x xs)
under_contains (x ∷ xs) key bytes (suc place) rise inside is =
    let there : Contains xs (key, bytes) = (place, omega arith, is) in
    let below : KeyBelow x.0 key = All-contains (λ (item : Item). KeyBelow x.0 item.0) xs (key, bytes) (rise_head x xs rise) there in
    under_cons key x xs false (has_key_below key x below) ∙ under_contains xs key bytes place (rise_tail x xs rise) (omega arith) is
