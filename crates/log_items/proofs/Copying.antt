-- Items of a tree on the way into a log's tree, one by one by rising keys.
use Rattle.std.proofs.Common.{◌≡◌, ◌<◌, ◌+◌, ◌++◌, ◌∙◌, ◌⊎◌, ◌||◌, ℕ, suc, Bool, true, false, not, List, [], ◌∷◌, Contains, filter, length, Option, Some, None, refl, sym, ap, subst, inl, inr, arith, append_assoc, append-nil, length-append}
use Rattle.std.specs.Option.{unwrap_or}
use Rattle.std.specs.Ordering.{is_lt}
use Rattle.std.specs.declared.cmp.Ordering.{Ordering}
use Rattle.std.specs.declared.cmp.Ordering.TheVariants.{Less, Equal, Greater}
use Rattle.std.proofs.lemmas.Bool.{false_from_ne_true, true≢false}
use Rattle.std.proofs.lemmas.List.Elements.{All-contains, All-weaker, Contains-append_right}
use Rattle.blk_base.specs.declared.key.Key.{Key}
use Rattle.blk_base.specs.Keys.{KeyBelow, key_below, key_cmp}
use Rattle.blk_base.specs.Leaf.{Item}
use Rattle.blk_base.specs.Trees.{AreApart, ItemsRise, first_key}
use Rattle.block_table.specs.declared.tree.Tree.{Tree}
use Rattle.block_table.specs.Table.{Table}
use Rattle.block_table.specs.TreeIn.{IsSealedTree, IsTaken}
use Rattle.cow_tree.proofs.Items.{lower, lower_all, lower_below, under_middle, rise_filter, upper, upper_above, upper_all, upper_append, upper_none, with_middle}
use Rattle.flat_model.proofs.Lists.{filter_empties, filter_keeps, filter_swaps}
use Rattle.leaf_view.specs.KeyOrder.{KeyBelow_irrefl, KeyBelow_swap, KeyBelow_trans, same_key}
use Rattle.leaf_view.proofs.Rising.{key_below_from, key_below_means}
use Rattle.log_edit.specs.Room.{HasRoomFor, room_of_tree, spare_of_tree}
use Rattle.log_edit.proofs.Rooms.{for_fewer, room_moves}
use Rattle.log_items.specs.Copied.{bytes_under, items_behind, with_range}
use Rattle.tree_frame.specs.Frame.{AreCurrent, IsEdit, with_item}
use Rattle.tree_frame.proofs.Among as among
use Rattle.tree_frame.proofs.EditLaws.{edits_join, nothing_is_an_edit}
use Rattle.tree_delete_range.specs.Outside.{items_outside}
use Rattle.tree_range.specs.Between.{AreAbove, AreBelow, data_under, items_between, items_from, items_from_some}
use Rattle.tree_range.specs.Shape.{AreAlike, IsTree, tree_items, tree_reach}
use Rattle.tree_range.proofs.Local.{tree_alike}
use Rattle.tree_range.proofs.Times.{reach_taken}
use Rattle.tree_range.proofs.Found.{under_contains}
use Rattle.tree_range.proofs.Rise.{rise_before, rise_head, rise_right, rise_tail}
use Rattle.tree_range.proofs.Under.{filter_none, none_below, rest_is, under_none}
use Rattle.volume_image.proofs.Members.{in_filter}
use Rattle.volume_image.proofs.Reaches.{head_in}

-- ---- keys

one_of_three : (a b : Key) (o : Ordering) → key_cmp a b ≡ o → is_lt o ≡ false → (a ≡ b) ⊎ KeyBelow b a
one_of_three a b Less is h = absurd cc
one_of_three a b Equal is h = inl (same_key a b is)
one_of_three a b Greater is h = inr (KeyBelow_swap a b is)

pub not_below_means : (a b : Key) → key_below a b ≡ false → (a ≡ b) ⊎ KeyBelow b a
not_below_means a b h = one_of_three a b (key_cmp a b) refl h

below_not : (a b : Key) → KeyBelow a b → key_below b a ≡ false
below_not a b low = false_from_ne_true (key_below b a) (λ e. KeyBelow_irrefl a (KeyBelow_trans a b a low (key_below_means b a e)))

-- a key below one that isn't above another one is below the other one
pub below_low : (a b c : Key) → KeyBelow a b → key_below c b ≡ false → KeyBelow a c
below_low a b c low high = elim (not_below_means c b high) [
  | inl same ↦ subst (KeyBelow a) (sym same) low
  | inr less ↦ KeyBelow_trans a b c low less
]

-- a key that isn't above one is below each key above that one
pub low_below : (a b c : Key) → key_below b a ≡ false → KeyBelow b c → KeyBelow a c
low_below a b c low high = elim (not_below_means b a low) [
  | inl same ↦ subst (λ (k : Key). KeyBelow k c) same high
  | inr less ↦ KeyBelow_trans a b c less high
]

pub below_itself : (a : Key) → key_below a a ≡ false
below_itself a = false_from_ne_true (key_below a a) (λ e. KeyBelow_irrefl a (key_below_means a a e))

pub not_true : (b : Bool) → not b ≡ true → b ≡ false
not_true true h = cc
not_true false h = refl

-- ---- the three parts of rising items

abbrev pub between : Key → Key → List Item → List Item
between first last items = items_between first last items

parts_of : (first last : Key) (x : Item) (xs : List Item) → key_below last first ≡ false → AreAbove x.0 xs → xs ≡ lower first xs ++ (between first last xs ++ upper last xs)
    → (a : Bool) → key_below x.0 first ≡ a → (b : Bool) → key_below last x.0 ≡ b → x ∷ xs ≡ lower first (x ∷ xs) ++ (between first last (x ∷ xs) ++ upper last (x ∷ xs))
parts_of first last x xs order above rest true low true high = absurd (true≢false (sym (key_below_from last first (KeyBelow_trans last x.0 first (key_below_means last x.0 high) (key_below_means x.0 first low))) ∙ order))
parts_of first last x xs order above rest true low false high = rw (low, high) (ap (λ (l : List Item). x ∷ l) rest)
parts_of first last x xs order above rest false low b high =
    let none : lower first xs ≡ [] = filter_none (λ (item : Item). key_below item.0 first) xs (All-weaker (λ (item : Item). KeyBelow x.0 item.0) (λ (item : Item). key_below item.0 first ≡ false) (λ item k. below_not first item.0 (low_below first x.0 item.0 low k)) xs above) in
    let left : xs ≡ between first last xs ++ upper last xs = rest ∙ ap (λ (l : List Item). l ++ (between first last xs ++ upper last xs)) none in
    last_part b high none left
  where
    last_part : (b : Bool) → key_below last x.0 ≡ b → lower first xs ≡ [] → xs ≡ between first last xs ++ upper last xs → x ∷ xs ≡ lower first (x ∷ xs) ++ (between first last (x ∷ xs) ++ upper last (x ∷ xs))
    last_part false high none left = rw (low, high, none) (ap (λ (l : List Item). x ∷ l) left)
    last_part true high none left =
        let all : AreAbove last xs = All-weaker (λ (item : Item). KeyBelow x.0 item.0) (λ (item : Item). KeyBelow last item.0) (λ item k. KeyBelow_trans last x.0 item.0 (key_below_means last x.0 high) k) xs above in
        let gone : between first last xs ≡ [] = filter_empties (λ (item : Item). not (key_below last item.0)) (items_from first xs) (λ item c. ap not (key_below_from last item.0 (All-contains (λ (item : Item). KeyBelow last item.0) xs item all (in_filter (λ (item : Item). not (key_below item.0 first)) xs item c).0))) in
        rw (low, high, none, gone, upper_all last xs all) refl

pub three_parts : (first last : Key) (items : List Item) → key_below last first ≡ false → ItemsRise items → items ≡ lower first items ++ (between first last items ++ upper last items)
three_parts first last [] order rise = refl
three_parts first last (x ∷ xs) order rise =
    parts_of first last x xs order (rise_head x xs rise) (three_parts first last xs order (rise_tail x xs rise)) (key_below x.0 first) refl (key_below last x.0) refl

-- ---- what is left around a range

abbrev is_out : Key → Key → Item → Bool
is_out first last item = key_below item.0 first || key_below last item.0

right_true : (a b : Bool) → b ≡ true → (a || b) ≡ true
right_true true b h = refl
right_true false b h = h

pub lower_outside : (first last : Key) (items : List Item) → lower first (items_outside first last items) ≡ lower first items
lower_outside first last items =
    filter_swaps (λ (x : Item). key_below x.0 first) (is_out first last) items
    ∙ filter_keeps (is_out first last) (lower first items) (λ x c. let low = (in_filter (λ (x : Item). key_below x.0 first) items x c).1 in rw low refl)

pub upper_outside : (first last : Key) (items : List Item) → upper last (items_outside first last items) ≡ upper last items
upper_outside first last items =
    filter_swaps (λ (x : Item). key_below last x.0) (is_out first last) items
    ∙ filter_keeps (is_out first last) (upper last items) (λ x c. right_true (key_below x.0 first) (key_below last x.0) (in_filter (λ (x : Item). key_below last x.0) items x c).1)

pub none_outside : (first last : Key) (items : List Item) → between first last (items_outside first last items) ≡ []
none_outside first last items =
    filter_empties (λ (x : Item). not (key_below last x.0)) (items_from first (items_outside first last items)) (λ x c.
    let from = in_filter (λ (x : Item). not (key_below x.0 first)) (items_outside first last items) x c in
    let out = (in_filter (is_out first last) items x from.0).1 in
    let high : key_below last x.0 ≡ true = elim (or_cases (key_below x.0 first) (key_below last x.0) out) [ inl low ↦ absurd (true≢false (sym low ∙ not_true (key_below x.0 first) from.1)) | inr high ↦ high ] in
    ap not high)
  where
    or_cases : (a b : Bool) → (a || b) ≡ true → (a ≡ true) ⊎ (b ≡ true)
    or_cases true b h = inl refl
    or_cases false b h = inr h

pub outside_parts : (first last : Key) (items : List Item) → key_below last first ≡ false → ItemsRise items → items_outside first last items ≡ lower first items ++ upper last items
outside_parts first last items order rise =
    let rest : List Item = items_outside first last items in
    three_parts first last rest order (rise_filter (is_out first last) items rise)
    ∙ ap (λ (l : List Item). lower first rest ++ (l ++ upper last rest)) (none_outside first last items)
    ∙ ap (λ (l : List Item). l ++ upper last rest) (lower_outside first last items)
    ∙ ap (λ (l : List Item). lower first items ++ l) (upper_outside first last items)

pub range_outside : (first last : Key) (new items : List Item) → with_range first last new (items_outside first last items) ≡ with_range first last new items
range_outside first last new items =
    ap (λ (l : List Item). l ++ (new ++ upper last (items_outside first last items))) (lower_outside first last items)
    ∙ ap (λ (l : List Item). lower first items ++ (new ++ l)) (upper_outside first last items)

pub with_range_count : (first last : Key) (new items : List Item) → key_below last first ≡ false → ItemsRise items → length (with_range first last new items) + length (between first last items) ≡ length items + length new
with_range_count first last new items order rise =
    omega (arith, ap (λ (l : List Item). length l) (three_parts first last items order rise), length-append (lower first items) (new ++ upper last items), length-append new (upper last items), length-append (lower first items) (between first last items ++ upper last items), length-append (between first last items) (upper last items))

-- ---- what stands behind one of the items

-- of those from one key to another, the ones behind a key in it are the ones behind it up to the other
pub behind_between : (first last key : Key) (items : List Item) → key_below key first ≡ false → filter (λ item. key_below key item.0) (items_between first last items) ≡ items_behind key last items
behind_between first last key items from =
    let A : Item → Bool = λ x. key_below key x.0 in
    let U : Item → Bool = λ x. not (key_below last x.0) in
    let F : Item → Bool = λ x. not (key_below x.0 first) in
    let kept : filter F (filter A (filter U items)) ≡ filter A (filter U items) =
    filter_keeps F (filter A (filter U items)) (λ x c.
    let above : KeyBelow key x.0 = key_below_means key x.0 (in_filter A (filter U items) x c).1 in
    ap not (false_from_ne_true (key_below x.0 first) (λ low. KeyBelow_irrefl key (KeyBelow_trans key x.0 key above (below_low x.0 first key (key_below_means x.0 first low) from))))) in
    ap (filter A) (filter_swaps U F items) ∙ filter_swaps A F (filter U items) ∙ kept

-- the first of the items left, with those in front of it and behind it
record IsNext (first last key : Key) (items : List Item) (done left : List Item) : Type 0 where
  pub item : Item
  pub rest : List Item
  pub left_is : left ≡ item ∷ rest
  pub key_is : item.0 ≡ key
  pub split : between first last items ≡ done ++ item ∷ rest

next_of : (first last key : Key) (items done left : List Item) → between first last items ≡ done ++ left → Some key ≡ first_key left → IsNext first last key items done left
next_of first last key items done [] split is = absurd cc
next_of first last key items done (x ∷ rest) split is = record { item = x; rest = rest; left_is = refl; key_is = cc; split = split }

module _ (first last : Key) (items : List Item) (rise : ItemsRise items) (done : List Item) (item : Item) (rest : List Item) (split : between first last items ≡ done ++ item ∷ rest) where
  parts_rise : ItemsRise (done ++ item ∷ rest)
  parts_rise = subst ItemsRise split (rise_filter (λ (x : Item). not (key_below last x.0)) (items_from first items) (rise_filter (λ (x : Item). not (key_below x.0 first)) items rise))

  pub done_below : AreBelow item.0 done
  done_below = rise_before done item rest parts_rise

  rest_above : AreAbove item.0 rest
  rest_above = rise_head item rest (rise_right done (item ∷ rest) parts_rise)

  there : Contains (between first last items) item
  there = subst (λ (l : List Item). Contains l item) (sym split) (Contains-append_right done (item ∷ rest) item (head_in item rest))

  pub not_low : key_below item.0 first ≡ false
  not_low = not_true (key_below item.0 first) (in_filter (λ (x : Item). not (key_below x.0 first)) items item (in_filter (λ (x : Item). not (key_below last x.0)) (items_from first items) item there).0).1

  pub not_high : key_below last item.0 ≡ false
  not_high = not_true (key_below last item.0) (in_filter (λ (x : Item). not (key_below last x.0)) (items_from first items) item there).1

  pub under_it : data_under item.0 items ≡ Some item.1
  under_it =
      let inside = (in_filter (λ (x : Item). not (key_below x.0 first)) items item (in_filter (λ (x : Item). not (key_below last x.0)) (items_from first items) item there).0).0 in
      under_contains items item.0 item.1 inside.0 rise inside.1 inside.2

  -- behind it stand the others
  pub behind_it : items_behind item.0 last items ≡ rest
  behind_it =
      sym (behind_between first last item.0 items not_low) ∙ ap (filter (λ (x : Item). key_below item.0 x.0)) split ∙ upper_append item.0 done (item ∷ rest) ∙ ap (λ (l : List Item). l ++ upper item.0 (item ∷ rest)) (upper_none item.0 done done_below) ∙ own_gone (below_itself item.0) ∙ upper_all item.0 rest rest_above
    where
      own_gone : key_below item.0 item.0 ≡ false → upper item.0 (item ∷ rest) ≡ upper item.0 rest
      own_gone none = rw none refl

join : (done : List Item) (item : Item) (rest : List Item) → done ++ item ∷ rest ≡ (done ++ item ∷ []) ++ rest
join done item rest = simp append_assoc

-- ---- a tree that an edit of another one leaves

apart_from_edits : (table : Table) (edited kept : Tree) → IsTree table kept → AreApart (tree_reach table edited) (tree_reach table kept) → among.AreApart table (tree_reach table edited) (tree_reach table kept)
apart_from_edits table edited kept stands apart at there = (λ here. apart at here there, (All-contains (IsTaken table) (tree_reach table kept) at (reach_taken kept.level table true kept.root.0 stands.shape) there).taken)

pub kept_alike : (old : Table) (before kept : Tree) (new : Table) (after : Tree) → IsTree old kept → AreApart (tree_reach old before) (tree_reach old kept) → IsEdit old new (tree_reach old before) (tree_reach new after) → AreAlike old new (tree_reach old kept)
kept_alike old before kept new after stands apart edit = among.apart_alike old new (tree_reach old before) (tree_reach new after) (tree_reach old kept) edit (apart_from_edits old before kept stands apart)

pub kept_apart : (old : Table) (before kept : Tree) (new : Table) (after : Tree) → IsTree old kept → AreApart (tree_reach old before) (tree_reach old kept) → IsEdit old new (tree_reach old before) (tree_reach new after) → AreApart (tree_reach new after) (tree_reach new kept)
kept_apart old before kept new after stands apart edit at here there =
    let same : tree_reach new kept ≡ tree_reach old kept = (tree_alike old new kept (kept_alike old before kept new after stands apart edit)).1 in
    among.apart_from_after old new (tree_reach old before) (tree_reach new after) (tree_reach old kept) edit (apart_from_edits old before kept stands apart) at (subst (λ (l : List ℕ). Contains l at) same there) here

pub kept_items : (old : Table) (before kept : Tree) (new : Table) (after : Tree) → IsTree old kept → AreApart (tree_reach old before) (tree_reach old kept) → IsEdit old new (tree_reach old before) (tree_reach new after) → tree_items new kept ≡ tree_items old kept
kept_items old before kept new after stands apart edit = (tree_alike old new kept (kept_alike old before kept new after stands apart edit)).0

pub kept_stands : (old : Table) (before kept : Tree) (new : Table) (after : Tree) → IsTree old kept → AreApart (tree_reach old before) (tree_reach old kept) → IsEdit old new (tree_reach old before) (tree_reach new after) → IsTree new kept
kept_stands old before kept new after stands apart edit = (tree_alike old new kept (kept_alike old before kept new after stands apart edit)).2 stands

-- ---- the walk

-- items of a tree up to a next one have come from the tree `from` into `before`, which is `after` then
pub record IsCopying (first last : Key) (from : Tree) (old : Table) (before : Tree) (new : Table) (after : Tree) (next : Option Key) : Type 0 where
  pub done : List Item
  pub left : List Item
  pub split : between first last (tree_items old from) ≡ done ++ left
  pub next_is : next ≡ first_key left
  pub items : tree_items new after ≡ lower first (tree_items old before) ++ (done ++ upper last (tree_items old before))
  pub tree : IsTree new after
  pub owner : after.owner ≡ before.owner
  pub edit : IsEdit old new (tree_reach old before) (tree_reach new after)
  pub current : AreCurrent new (tree_reach new after)
  pub blocks : room_of_tree new after ≡ room_of_tree old before
  pub buffers : spare_of_tree new after ≡ spare_of_tree old before
  pub sealed : (fsid : List ℕ) (was : ℕ) → IsSealedTree old before fsid was → (now : ℕ) × IsSealedTree new after fsid now

-- what `copy_item` ensures of the item under a key
pub record IsCopied (key : Key) (from : Tree) (old : Table) (before : Tree) (new : Table) (after : Tree) : Type 0 where
  pub tree : IsTree new after
  pub items : tree_items new after ≡ with_item key (bytes_under key (tree_items old from)) (tree_items old before)
  pub owner : after.owner ≡ before.owner
  pub edit : IsEdit old new (tree_reach old before) (tree_reach new after)
  pub current : AreCurrent new (tree_reach new after)
  pub blocks : room_of_tree new after ≡ room_of_tree old before
  pub buffers : spare_of_tree new after ≡ spare_of_tree old before
  pub sealed : (fsid : List ℕ) (was : ℕ) → IsSealedTree old before fsid was → (now : ℕ) × IsSealedTree new after fsid now

-- what a copy of a range is given
pub record MayCopy (first last : Key) (from : Tree) (old : Table) (before : Tree) : Type 0 where
  pub tree : IsTree old before
  pub current : AreCurrent old (tree_reach old before)
  pub from_tree : IsTree old from
  pub apart : AreApart (tree_reach old before) (tree_reach old from)
  pub order : key_below last first ≡ false
  pub none : between first last (tree_items old before) ≡ []
  pub room : HasRoomFor old before (length (between first last (tree_items old from)))

module _ (first last : Key) (from : Tree) (old : Table) (before : Tree) (may : MayCopy first last from old before) where
  abbrev was : List Item
  was = tree_items old before

  abbrev current_items : List Item
  current_items = tree_items old from

  two_parts : was ≡ lower first was ++ upper last was
  two_parts = three_parts first last was may.order may.tree.order ∙ ap (λ (l : List Item). lower first was ++ (l ++ upper last was)) may.none

  -- the other tree stays
  pub from_alike : (new : Table) (after : Tree) → IsEdit old new (tree_reach old before) (tree_reach new after) → AreAlike old new (tree_reach old from)
  from_alike new after edit = kept_alike old before from new after may.from_tree may.apart edit

  pub begins : (next : Option Key) → next ≡ first_key (between first last current_items) → IsCopying first last from old before old before next
  begins next is = record {
    done = [];
    left = between first last current_items;
    split = refl;
    next_is = is;
    items = two_parts;
    tree = may.tree;
    owner = refl;
    edit = nothing_is_an_edit old (tree_reach old before);
    current = may.current;
    blocks = refl;
    buffers = refl;
    sealed = λ fsid number h. (number, h);
  }

  module _ (mid : Table) (between_tree : Tree) (key : Key) (way : IsCopying first last from old before mid between_tree (Some key)) where
    here : IsNext first last key current_items way.done way.left
    here = next_of first last key current_items way.done way.left way.split way.next_is

    pub from_stands : IsTree mid from
    from_stands = (tree_alike old mid from (from_alike mid between_tree way.edit)).2 may.from_tree

    low_below_it : AreBelow here.item.0 (lower first was)
    low_below_it =
        let low : key_below here.item.0 first ≡ false = not_low first last current_items may.from_tree.order way.done here.item here.rest here.split in
        All-weaker (λ (x : Item). KeyBelow x.0 first) (λ (x : Item). KeyBelow x.0 here.item.0) (λ x k. below_low x.0 first here.item.0 k low) (lower first was) (lower_below first was)

    done_below_it : AreBelow here.item.0 way.done
    done_below_it = done_below first last current_items may.from_tree.order way.done here.item here.rest here.split

    high_above_it : AreAbove here.item.0 (upper last was)
    high_above_it =
        let high : key_below last here.item.0 ≡ false = not_high first last current_items may.from_tree.order way.done here.item here.rest here.split in
        All-weaker (λ (x : Item). KeyBelow last x.0) (λ (x : Item). KeyBelow here.item.0 x.0) (λ x k. low_below here.item.0 last x.0 high k) (upper last was) (upper_above last was)

    pub absent : data_under key (tree_items mid between_tree) ≡ None
    absent =
        let none : data_under here.item.0 (lower first was ++ (way.done ++ upper last was)) ≡ None = under_middle here.item.0 (lower first was) way.done (upper last was) low_below_it high_above_it ∙ under_none here.item.0 way.done (none_below here.item.0 way.done done_below_it) in
        ap (data_under key) way.items ∙ subst (λ (k : Key). data_under k (lower first was ++ (way.done ++ upper last was)) ≡ None) here.key_is none

    left_some : length way.left ≡ suc (length here.rest)
    left_some = ap (λ (l : List Item). length l) here.left_is

    counted : length (tree_items mid between_tree) + length way.left ≡ length was + length (between first last current_items)
    counted =
        omega (arith, ap (λ (l : List Item). length l) way.items, ap (λ (l : List Item). length l) two_parts, ap (λ (l : List Item). length l) way.split, length-append (lower first was) (way.done ++ upper last was), length-append way.done (upper last was), length-append (lower first was) (upper last was), length-append way.done way.left)

    pub room_for_one : HasRoomFor mid between_tree 1
    room_for_one =
        for_fewer mid between_tree 1 (length way.left) (omega (arith, left_some))
        (room_moves old mid before between_tree (length (between first last current_items)) (length way.left) way.blocks way.buffers counted may.room)

    -- the item goes behind those that are there
    put_there : with_item here.item.0 here.item.1 (tree_items mid between_tree) ≡ lower first was ++ ((way.done ++ here.item ∷ []) ++ upper last was)
    put_there =
        ap (with_item here.item.0 here.item.1) way.items
        ∙ with_middle here.item.0 here.item.1 (lower first was) way.done (upper last was) low_below_it high_above_it
        ∙ ap (λ (l : List Item). lower first was ++ (l ++ upper last was)) (ap (λ (l : List Item). l ++ here.item ∷ upper here.item.0 way.done) (lower_all here.item.0 way.done done_below_it) ∙ ap (λ (l : List Item). way.done ++ here.item ∷ l) (upper_none here.item.0 way.done done_below_it))

    pub goes_on : (new : Table) (after : Tree) → IsCopied key from mid between_tree new after → (next : Option Key) → next ≡ first_key (items_behind key last (tree_items new from)) → IsCopying first last from old before new after next
    goes_on new after copied next is = record {
      done = way.done ++ here.item ∷ [];
      left = here.rest;
      split = here.split ∙ (join way.done here.item here.rest);
      next_is = is ∙ ap first_key (ap (items_behind key last) from_new ∙ ap (λ (k : Key). items_behind k last current_items) (sym here.key_is) ∙ behind_it first last current_items may.from_tree.order way.done here.item here.rest here.split);
      items = copied.items ∙ ap (λ (bytes : List ℕ). with_item key bytes (tree_items mid between_tree)) bytes_are ∙ ap (λ (k : Key). with_item k here.item.1 (tree_items mid between_tree)) (sym here.key_is) ∙ put_there;
      tree = copied.tree;
      owner = copied.owner ∙ way.owner;
      edit = whole_edit;
      current = copied.current;
      blocks = copied.blocks ∙ way.blocks;
      buffers = copied.buffers ∙ way.buffers;
      sealed = λ fsid number h. let then = way.sealed fsid number h in copied.sealed fsid then.0 then.1;
    }
      where
        whole_edit : IsEdit old new (tree_reach old before) (tree_reach new after)
        whole_edit = edits_join old mid new (tree_reach old before) (tree_reach mid between_tree) (tree_reach new after) way.edit copied.edit

        from_new : tree_items new from ≡ current_items
        from_new = (tree_alike old new from (from_alike new after whole_edit)).0

        from_mid : tree_items mid from ≡ current_items
        from_mid = (tree_alike old mid from (from_alike mid between_tree way.edit)).0

        bytes_are : bytes_under key (tree_items mid from) ≡ here.item.1
        bytes_are =
            ap (bytes_under key) from_mid ∙ ap (λ (k : Key). bytes_under k current_items) (sym here.key_is)
            ∙ ap (λ (o : Option (List ℕ)). unwrap_or o []) (under_it first last current_items may.from_tree.order way.done here.item here.rest here.split)

  -- how many items are still to come
  pub left_count : (new : Table) (after : Tree) (next : Option Key) (way : IsCopying first last from old before new after next) → items_from_some next (between first last current_items) ≡ way.left
  left_count new after next way =
      ap (λ (o : Option Key). items_from_some o (between first last current_items)) way.next_is
      ∙ ap (items_from_some (first_key way.left)) way.split
      ∙ rest_is way.done way.left (subst ItemsRise way.split between_rise)
    where
      between_rise : ItemsRise (between first last current_items)
      between_rise = rise_filter (λ (x : Item). not (key_below last x.0)) (items_from first current_items) (rise_filter (λ (x : Item). not (key_below x.0 first)) current_items may.from_tree.order)

  -- and there is one less after a copy
  pub one_less : (mid : Table) (between_tree : Tree) (key : Key) (way : IsCopying first last from old before mid between_tree (Some key)) (new : Table) (after : Tree) → IsCopied key from mid between_tree new after → (next : Option Key) → next ≡ first_key (items_behind key last (tree_items new from))
      → length (items_from_some next (between first last current_items)) < length (items_from_some (Some key) (between first last current_items))
  unfolding here goes_on
  one_less mid between_tree key way new after copied next is =
      let now : items_from_some next (between first last current_items) ≡ (here mid between_tree key way).rest = left_count new after next (goes_on mid between_tree key way new after copied next is) in
      let before_it = left_count mid between_tree (Some key) way in
      omega (arith, ap (λ (l : List Item). length l) now, ap (λ (l : List Item). length l) before_it, left_some mid between_tree key way)

  pub ends : (new : Table) (after : Tree) → IsCopying first last from old before new after None → tree_items new after ≡ with_range first last (between first last current_items) was
  ends new after way = way.items ∙ ap (λ (l : List Item). lower first was ++ (l ++ upper last was)) (sym all)
    where
      nothing : (left : List Item) → None ≡ first_key left → left ≡ []
      nothing [] h = refl
      nothing (x ∷ xs) h = absurd cc

      all : between first last current_items ≡ way.done
      all = way.split ∙ ap (λ (l : List Item). way.done ++ l) (nothing way.left way.next_is) ∙ append-nil way.done
