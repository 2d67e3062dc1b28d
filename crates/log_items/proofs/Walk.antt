-- A tree on the way, of whose items of a kind some are gone.
use Rattle.std.proofs.Common.{◌≡◌, ◌≤◌, ◌+◌, ◌++◌, ◌∙◌, ℕ, Bool, true, false, not, List, [], ◌∷◌, Contains, filter, length, Some, None, IsSome, ap, refl, sym, subst, inl, inr, arith}
use Rattle.std.proofs.lemmas.Bool.{cases_Bool, false_from_ne_true}
use Rattle.std.proofs.lemmas.List.Elements.{All-contains, Contains-append_cases, filter-append}
use Rattle.blk_base.specs.declared.key.Key.{Key}
use Rattle.blk_base.specs.Leaf.{Item}
use Rattle.blk_base.specs.Trees.{ItemsRise, first_key}
use Rattle.block_table.specs.declared.tree.Tree.{Tree}
use Rattle.block_table.specs.Table.{Table}
use Rattle.block_table.specs.TreeIn.{IsSealedTree}
use Rattle.tree_range.specs.Between.{data_under, has_key, items_from}
use Rattle.tree_range.proofs.Rise.{rise_head}
use Rattle.leaf_view.specs.KeyOrder.{KeyBelow_irrefl, KeyBelow_trans}
use Rattle.leaf_view.proofs.Rising.{key_below_means}
use Rattle.blk_base.specs.Keys.{KeyBelow, KeyFits, key_below}
use Rattle.cow_tree.proofs.Items.{rise_filter}
use Rattle.flat_model.proofs.Lists.{filter_keeps, filter_swaps}
use Rattle.volume_image.proofs.Lists.{in_cons}
use Rattle.tree_range.specs.Shape.{IsTree, tree_items, tree_reach}
use Rattle.tree_range.proofs.Under.{under_here}
use Rattle.tree_frame.specs.Frame.{AreCurrent, IsEdit, with_item, without_item}
use Rattle.tree_frame.proofs.EditLaws.{edits_join, nothing_is_an_edit}
use Rattle.tree_check.specs.Items.{HaveKeys}
use Rattle.tree_delete.proofs.Items.{without_here}
use Rattle.log_edit.specs.Room.{HasRoomFor, room_of_tree, spare_of_tree}
use Rattle.log_edit.proofs.Items.{delete_count}
use Rattle.log_edit.proofs.Rooms.{room_moves}
use Rattle.volume_image.proofs.Members.{in_filter, filter_in}

-- ---- the first item of a kind

abbrev pub others : (Item → Bool) → List Item → List Item
others p items = filter (λ item. not (p item)) items

-- the list around it
record IsFirst (p : Item → Bool) (items : List Item) (key : Key) : Type 0 where
  pub front : List Item
  pub item : Item
  pub rest : List Item
  pub split : items ≡ front ++ item ∷ rest
  pub key_is : item.0 ≡ key
  pub of_kind : p item ≡ true

behind : (p : Item → Bool) (x : Item) (xs : List Item) (key : Key) → IsFirst p xs key → IsFirst p (x ∷ xs) key
behind p x xs key cut = record { front = x ∷ cut.front; item = cut.item; rest = cut.rest; split = ap (λ (l : List Item). x ∷ l) cut.split; key_is = cut.key_is; of_kind = cut.of_kind }

cut_first : (p : Item → Bool) (items : List Item) (key : Key) → first_key (filter p items) ≡ Some key → IsFirst p items key
cut_first p [] key h = absurd cc
cut_first p (x ∷ xs) key h = elim (cases_Bool (p x)) [
  | inl here ↦ let found = rw here at h in record { front = []; item = x; rest = xs; split = refl; key_is = cc; of_kind = here }
  | inr other ↦ behind p x xs key (cut_first p xs key (rw other at h))
]

under_some : (front : List Item) (item : Item) (rest : List Item) → IsSome (data_under item.0 (front ++ item ∷ rest))
under_some [] item rest = rw (under_here item rest) refl
under_some (x ∷ xs) item rest = elim (cases_Bool (has_key item.0 x)) [
  | inl same ↦ rw same refl
  | inr other ↦ rw other (under_some xs item rest)
]

pub first_is_there : (p : Item → Bool) (items : List Item) (key : Key) → first_key (filter p items) ≡ Some key → IsSome (data_under key items)
first_is_there p items key h =
    let cut = cut_first p items key h in
    let keyed = subst (λ (k : Key). IsSome (data_under k (cut.front ++ cut.item ∷ cut.rest))) cut.key_is (under_some cut.front cut.item cut.rest) in
    subst (λ (l : List Item). IsSome (data_under key l)) (sym cut.split) keyed

-- without it, those of another kind stay
first_goes : (p : Item → Bool) (items : List Item) (key : Key) → ItemsRise items → first_key (filter p items) ≡ Some key → others p (without_item key items) ≡ others p items
first_goes p items key rise h =
    let cut = cut_first p items key h in
    let none : others p (cut.item ∷ cut.rest) ≡ others p cut.rest = rw cut.of_kind refl in
    let left : without_item cut.item.0 (cut.front ++ cut.item ∷ cut.rest) ≡ cut.front ++ cut.rest = without_here cut.front cut.item cut.rest (subst ItemsRise cut.split rise) in
    let keyed : without_item key (cut.front ++ cut.item ∷ cut.rest) ≡ cut.front ++ cut.rest = subst (λ (k : Key). without_item k (cut.front ++ cut.item ∷ cut.rest) ≡ cut.front ++ cut.rest) cut.key_is left in
    let q : Item → Bool = λ item. not (p item) in
    let same : others p (cut.front ++ cut.rest) ≡ others p (cut.front ++ cut.item ∷ cut.rest) = filter-append q cut.front cut.rest ∙ ap (λ (l : List Item). filter q cut.front ++ l) (sym none) ∙ sym (filter-append q cut.front (cut.item ∷ cut.rest)) in
    ap (λ (l : List Item). others p (without_item key l)) cut.split ∙ ap (others p) keyed ∙ same ∙ ap (others p) (sym cut.split)

-- and it is the lowest one
first_is_lowest : (items : List Item) (key : Key) → ItemsRise items → first_key items ≡ Some key → (item : Item) → Contains items item → key_below item.0 key ≡ false
first_is_lowest [] key rise h item c = absurd cc
first_is_lowest (x ∷ xs) key rise h item c =
    let same : x.0 ≡ key = cc in
    let not_below : (KeyBelow item.0 x.0 → ⊥) → key_below item.0 key ≡ false = λ no. false_from_ne_true (key_below item.0 key) (λ low. no (subst (λ (k : Key). KeyBelow item.0 k) (sym same) (key_below_means item.0 key low))) in
    elim (in_cons x item xs c) [
      | inl here ↦ not_below (λ low. KeyBelow_irrefl x.0 (subst (λ (y : Item). KeyBelow y.0 x.0) (sym here) low))
      | inr there ↦ not_below (λ low. KeyBelow_irrefl x.0 (KeyBelow_trans x.0 item.0 x.0 (All-contains (λ (y : Item). KeyBelow x.0 y.0) xs item (rise_head x xs rise) there) low))
    ]

-- where there is no first one, there is none
none_left : (p : Item → Bool) (items : List Item) → first_key (filter p items) ≡ None → others p items ≡ items
none_left p [] h = refl
none_left p (x ∷ xs) h = elim (cases_Bool (p x)) [
  | inl here ↦ let found = rw here at h in absurd cc
  | inr other ↦ rw other (ap (λ (l : List Item). x ∷ l) (none_left p xs (rw other at h)))
]

-- each item is of the kind or of another one
pub of_both_kinds : (p : Item → Bool) (items : List Item) → length (others p items) + length (filter p items) ≡ length items
of_both_kinds p [] = refl
of_both_kinds p (x ∷ xs) =
    let rest = of_both_kinds p xs in
    elim (cases_Bool (p x)) [
      | inl here ↦ rw here (omega (arith, rest))
      | inr other ↦ rw other (omega (arith, rest))
    ]

-- ---- the walk

-- the tree `after` in the table `new` comes of the tree `before` in the table `old`, without some items of the kind
pub record IsOnTheWay (p : Item → Bool) (old : Table) (before : Tree) (new : Table) (after : Tree) : Type 0 where
  pub tree : IsTree new after
  pub others : others p (tree_items new after) ≡ others p (tree_items old before)
  pub owner : after.owner ≡ before.owner
  pub edit : IsEdit old new (tree_reach old before) (tree_reach new after)
  pub current : AreCurrent new (tree_reach new after)
  pub keys : HaveKeys (tree_items new after)
  pub fewer : length (tree_items new after) ≤ length (tree_items old before)
  pub blocks : room_of_tree new after ≡ room_of_tree old before
  pub buffers : spare_of_tree new after ≡ spare_of_tree old before
  pub sealed : (fsid : List ℕ) (was : ℕ) → IsSealedTree old before fsid was → (now : ℕ) × IsSealedTree new after fsid now

-- what `delete_item` ensures of the item under a key
pub record IsDeleted (key : Key) (old : Table) (before : Tree) (new : Table) (after : Tree) : Type 0 where
  pub tree : IsTree new after
  pub items : tree_items new after ≡ without_item key (tree_items old before)
  pub owner : after.owner ≡ before.owner
  pub edit : IsEdit old new (tree_reach old before) (tree_reach new after)
  pub current : AreCurrent new (tree_reach new after)
  pub blocks : room_of_tree new after ≡ room_of_tree old before
  pub buffers : spare_of_tree new after ≡ spare_of_tree old before
  pub sealed : (fsid : List ℕ) (was : ℕ) → IsSealedTree old before fsid was → (now : ℕ) × IsSealedTree new after fsid now

-- the key of the first item of the kind
abbrev pub IsFirstLeft : (Item → Bool) → Table → Tree → Key → Type 0
IsFirstLeft p table tree key = first_key (filter p (tree_items table tree)) ≡ Some key

pub begins : (p : Item → Bool) (table : Table) (tree : Tree) → IsTree table tree → AreCurrent table (tree_reach table tree) → HaveKeys (tree_items table tree) → IsOnTheWay p table tree table tree
begins p table tree is_tree current keys = record {
  tree = is_tree;
  others = refl;
  owner = refl;
  edit = nothing_is_an_edit table (tree_reach table tree);
  current = current;
  keys = keys;
  fewer = omega arith;
  blocks = refl;
  buffers = refl;
  sealed = λ fsid was h. (was, h);
}

one_item_less : (p : Item → Bool) (key : Key) (old : Table) (before : Tree) (new : Table) (after : Tree) → IsTree old before → IsFirstLeft p old before key → tree_items new after ≡ without_item key (tree_items old before) → length (tree_items new after) + 1 ≡ length (tree_items old before)
one_item_less p key old before new after is_tree here items =
    ap (λ (l : List Item). length l + 1) items ∙ delete_count key (tree_items old before) is_tree.order (first_is_there p (tree_items old before) key here)

-- there is one item of the kind less
pub one_less : (p : Item → Bool) (key : Key) (old : Table) (before : Tree) (new : Table) (after : Tree) → IsTree old before → IsFirstLeft p old before key → tree_items new after ≡ without_item key (tree_items old before) → length (filter p (tree_items new after)) + 1 ≡ length (filter p (tree_items old before))
one_less p key old before new after is_tree here items =
    let was = tree_items old before in
    let is = tree_items new after in
    let same : others p is ≡ others p was = ap (others p) items ∙ first_goes p was key is_tree.order here in
    omega (arith, one_item_less p key old before new after is_tree here items, ap (λ (l : List Item). length l) same, of_both_kinds p was, of_both_kinds p is)

-- what is left of items after one was taken out was there
in_without : (key : Key) (items : List Item) (item : Item) → Contains (without_item key items) item → Contains items item
in_without key items item c = elim (Contains-append_cases (filter (λ (other : Item). key_below other.0 key) items) (filter (λ (other : Item). key_below key other.0) items) item c) [
  | inl low ↦ (in_filter (λ (other : Item). key_below other.0 key) items item low).0
  | inr high ↦ (in_filter (λ (other : Item). key_below key other.0) items item high).0
]

pub keys_less : (key : Key) (items : List Item) → HaveKeys items → HaveKeys (without_item key items)
keys_less key items keys = λ other bytes c. keys other bytes (in_without key items (other, bytes) c)

pub keys_with : (key : Key) (bytes : List ℕ) (items : List Item) → KeyFits key → HaveKeys items → HaveKeys (with_item key bytes items)
keys_with key bytes items fits keys = λ other content c.
    elim (Contains-append_cases (filter (λ (item : Item). key_below item.0 key) items) ((key, bytes) ∷ filter (λ (item : Item). key_below key item.0) items) (other, content) c) [
      | inl low ↦ keys other content (in_filter (λ (item : Item). key_below item.0 key) items (other, content) low).0
      | inr here ↦ elim (in_cons (key, bytes) (other, content) (filter (λ (item : Item). key_below key item.0) items) here) [
        | inl same ↦ subst (λ (item : Item). KeyFits item.0) same fits
        | inr high ↦ keys other content (in_filter (λ (item : Item). key_below key item.0) items (other, content) high).0
      ]
    ]

-- after the first one was taken out, all that are left of the kind stand behind it
pub left_behind : (p : Item → Bool) (key : Key) (items after : List Item) → ItemsRise items → first_key (filter p items) ≡ Some key → after ≡ without_item key items → filter p (items_from key after) ≡ filter p after
left_behind p key items after rise h is =
    filter_swaps p (λ (item : Item). not (key_below item.0 key)) after
    ∙ filter_keeps (λ (item : Item). not (key_below item.0 key)) (filter p after) (λ item c.
    let there = in_filter p after item c in
    let was : Contains items item = in_without key items item (subst (λ (l : List Item). Contains l item) is there.0) in
    ap not (first_is_lowest (filter p items) key (rise_filter p items rise) h item (filter_in p items item was there.1)))

pub goes_on : (p : Item → Bool) (key : Key) (old : Table) (before : Tree) (mid : Table) (between : Tree) (new : Table) (after : Tree) → IsOnTheWay p old before mid between → IsFirstLeft p mid between key → IsDeleted key mid between new after → IsOnTheWay p old before new after
goes_on p key old before mid between new after way here deleted = record {
  tree = deleted.tree;
  others = ap (others p) deleted.items ∙ first_goes p (tree_items mid between) key way.tree.order here ∙ way.others;
  owner = deleted.owner ∙ way.owner;
  edit = edits_join old mid new (tree_reach old before) (tree_reach mid between) (tree_reach new after) way.edit deleted.edit;
  current = deleted.current;
  keys = λ k bytes c. way.keys k bytes (in_without key (tree_items mid between) (k, bytes) (subst (λ (l : List Item). Contains l (k, bytes)) deleted.items c));
  fewer = omega (arith, way.fewer, one_item_less p key mid between new after way.tree here deleted.items);
  blocks = deleted.blocks ∙ way.blocks;
  buffers = deleted.buffers ∙ way.buffers;
  sealed = λ fsid was h. let then = way.sealed fsid was h in deleted.sealed fsid then.0 then.1;
}

-- there is still room for what the tree is
pub room_left : (p : Item → Bool) (old : Table) (before : Tree) (new : Table) (after : Tree) → IsOnTheWay p old before new after → HasRoomFor old before 0 → HasRoomFor new after 0
room_left p old before new after way room = record { blocks = omega (arith, way.blocks, way.fewer, room.blocks); buffers = omega (arith, way.buffers, way.fewer, room.buffers) }

pub ends : (p : Item → Bool) (old : Table) (before : Tree) (new : Table) (after : Tree) → IsOnTheWay p old before new after → first_key (filter p (tree_items new after)) ≡ None → tree_items new after ≡ others p (tree_items old before)
ends p old before new after way none = sym (none_left p (tree_items new after) none) ∙ way.others

-- and at the end there is room for those that are gone
pub room_at_end : (p : Item → Bool) (old : Table) (before : Tree) (new : Table) (after : Tree) → IsOnTheWay p old before new after → first_key (filter p (tree_items new after)) ≡ None → (more : ℕ) → HasRoomFor old before more → HasRoomFor new after (more + length (filter p (tree_items old before)))
room_at_end p old before new after way none more room =
    let items = ap (λ (l : List Item). length l) (ends p old before new after way none) in
    room_moves old new before after more (more + length (filter p (tree_items old before))) way.blocks way.buffers (omega (arith, items, of_both_kinds p (tree_items old before))) room
