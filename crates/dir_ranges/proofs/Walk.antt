-- A log on the way, with ranges for some of the places of an inode's names.
use Rattle.std.proofs.Common.{◌≡◌, ◌≤◌, ◌<◌, ◌+◌, ◌^◌, ◌⊎◌, ◌++◌, ◌∙◌, ℕ, true, false, not, List, ◌∷◌, Contains, Option, Some, None, filter, find, flat_map, length, ap, refl, sym, subst, inl, inr, arith}
use Rattle.std.proofs.lemmas.Bool.{cases_Bool, true≢false}
use Rattle.std.proofs.lemmas.List.Elements.{All-contains, Contains-append_cases, Contains-append_right, filter-append}
use Rattle.std.proofs.lemmas.Grind.{flat_map-append}
use Rattle.blk_base.specs.declared.key.Key.{Key}
use Rattle.blk_base.specs.Keys.{KeyFits, inode_ref, key_below}
use Rattle.blk_base.specs.Leaf.{Item}
use Rattle.blk_base.specs.Trees.{AreApart, ItemsRise}
use Rattle.block_table.specs.declared.tree.Tree.{Tree}
use Rattle.block_table.specs.Table.{Table}
use Rattle.block_table.specs.TreeIn.{IsSealedTree, IsTaken}
use Rattle.flat_model.proofs.Lists.{filter_empties}
use Rattle.log_edit.specs.Room.{HasRoomFor, room_of_tree, spare_of_tree}
use Rattle.log_edit.proofs.Items.{put_count}
use Rattle.log_image.specs.LogItems.{AreItemsOfLog, ranges_in}
use Rattle.logged_volume.specs.FlatLog.{FlatLog, LogRange}
use Rattle.logged_volume.proofs.WeightBounds.{short_filter}
use Rattle.tree_check.specs.Items.{HaveKeys}
use Rattle.tree_frame.specs.Frame.{AreCurrent, IsEdit, with_item}
use Rattle.tree_frame.proofs.EditLaws.{edits_join, nothing_is_an_edit}
use Rattle.tree_frame.proofs.OtherTrees.{an_edit_keeps_other_trees}
use Rattle.tree_range.specs.Between.{data_under, items_between}
use Rattle.tree_range.specs.Shape.{IsTree, tree_items, tree_reach}
use Rattle.tree_range.proofs.Times.{reach_taken}
use Rattle.volume_image.specs.Subvolume.{Data, make_key}
use Rattle.volume_image.proofs.Lists.{in_cons}
use Rattle.volume_image.proofs.Members.{in_filter}
use Rattle.dir_ranges.specs.declared.place.Place.{Place}
use Rattle.dir_ranges.specs.declared.uncovered.Uncovered.{Uncovered}
use Rattle.dir_ranges.specs.Gone.{first_uncovered, is_uncovered, last_ref, places_in, places_told, range_at, with_places}
use Rattle.dir_ranges.specs.Ranges.{AreForward, log_with, range_bytes, range_key, with_range}
use Rattle.dir_ranges.proofs.Finding.{IsFound, behind, cut_found, find_front, find_some, none_found, one_less}
use Rattle.dir_ranges.proofs.OneRange.{puts_a_range}
use Rattle.dir_ranges.proofs.Placed.{HasRange, covered_from, covers_itself, first_comes, has_range, no_range_there, none_to_come, places_append, stays_covered}

-- the places that refs of an inode say, from a key on
abbrev pub places_left : List Item → Key → ℕ → List Place
places_left items first ino = flat_map places_told (items_between first (last_ref ino) items)

-- how many of these places no range covers
abbrev pub to_come : List LogRange → List Place → ℕ
to_come ranges places = length (filter (is_uncovered ranges) places)

-- the range of a place among these, which none of the ranges covers
pub record IsNewRange (ranges : List LogRange) (places : List Place) (range : LogRange) : Type 0 where
  pub place : Place
  pub there : Contains places place
  pub uncovered : is_uncovered ranges place ≡ true
  pub is : range_at place ≡ range

-- the items of the log, some of whose ranges are new
pub record AreOnTheWay (places left : List Place) (was is : List Item) : Type 0 where
  pub items : with_places left is ≡ with_places places was
  pub forward : AreForward (ranges_in is)
  pub keys : HaveKeys was → HaveKeys is
  pub log : (blocks : Data) (flat : FlatLog) → AreItemsOfLog was blocks flat → AreItemsOfLog is blocks (log_with (ranges_in is) flat)
  pub gives : (range : LogRange) → Contains (ranges_in is) range → Contains (ranges_in was) range ⊎ IsNewRange (ranges_in was) places range
  pub keeps : (range : LogRange) → Contains (ranges_in was) range → Contains (ranges_in is) range
  pub within : (place : Place) → Contains left place → Contains places place
  pub clear : (place : Place) → Contains places place → is_uncovered (ranges_in is) place ≡ true → Contains left place
  pub fewer : length is + to_come (ranges_in is) left ≤ length was + length places

-- the tree `after` in the table `new` comes of the tree `before` in the table `old`, and the committed tree stays
pub record IsOnTheWay (ino : ℕ) (committed : Tree) (first : Key) (old : Table) (before : Tree) (new : Table) (after : Tree) : Type 0 where
  pub tree : IsTree new after
  pub way : AreOnTheWay (places_in (tree_items old committed) ino) (places_left (tree_items old committed) first ino) (tree_items old before) (tree_items new after)
  pub owner : after.owner ≡ before.owner
  pub edit : IsEdit old new (tree_reach old before) (tree_reach new after)
  pub current : AreCurrent new (tree_reach new after)
  pub blocks : room_of_tree new after ≡ room_of_tree old before
  pub buffers : spare_of_tree new after ≡ spare_of_tree old before
  pub sealed : (fsid : List ℕ) (was : ℕ) → IsSealedTree old before fsid was → (now : ℕ) × IsSealedTree new after fsid now
  pub committed_tree : IsTree new committed
  pub committed_items : tree_items new committed ≡ tree_items old committed
  pub apart : AreApart (tree_reach new committed) (tree_reach new after)

-- what `put_range` ensures of a range
pub record IsPut (range : LogRange) (old : Table) (before : Tree) (new : Table) (after : Tree) : Type 0 where
  pub tree : IsTree new after
  pub items : tree_items new after ≡ with_range range (tree_items old before)
  pub owner : after.owner ≡ before.owner
  pub edit : IsEdit old new (tree_reach old before) (tree_reach new after)
  pub current : AreCurrent new (tree_reach new after)
  pub blocks : room_of_tree new after ≡ room_of_tree old before
  pub buffers : spare_of_tree new after ≡ spare_of_tree old before
  pub sealed : (fsid : List ℕ) (was : ℕ) → IsSealedTree old before fsid was → (now : ℕ) × IsSealedTree new after fsid now

-- ---- the items

module _ (places : List Place) (was : List Item) where
  pub way_begins : AreForward (ranges_in was) → AreOnTheWay places places was was
  way_begins forward = record {
    items = refl;
    forward = forward;
    keys = λ keys. keys;
    log = λ blocks flat h. subst (λ (ranges : List LogRange). AreItemsOfLog was blocks (log_with ranges flat)) h.ranges h;
    gives = λ range c. inl c;
    keeps = λ range c. c;
    within = λ place c. c;
    clear = λ place c uncovered. c;
    fewer = omega (arith, short_filter (is_uncovered (ranges_in was)) places);
  }

-- keys that fit stay so
pub keys_with : (key : Key) (bytes : List ℕ) (items : List Item) → KeyFits key → HaveKeys items → HaveKeys (with_item key bytes items)
keys_with key bytes items fits keys = λ other content c.
    elim (Contains-append_cases (filter (λ item. key_below item.0 key) items) ((key, bytes) ∷ filter (λ item. key_below key item.0) items) (other, content) c) [
      | inl low ↦ keys other content (in_filter (λ (item : Item). key_below item.0 key) items (other, content) low).0
      | inr here ↦ elim (in_cons (key, bytes) (other, content) (filter (λ (item : Item). key_below key item.0) items) here) [
        | inl same ↦ subst (λ (item : Item). KeyFits item.0) same fits
        | inr high ↦ keys other content (in_filter (λ (item : Item). key_below key item.0) items (other, content) high).0
      ]
    ]

-- the place fits its fields
pub record PlaceFits (place : Place) : Type 0 where
  pub dir : place.dir < 2 ^ 64
  pub index : place.index < 2 ^ 64

-- the first uncovered place gets its range
pub record IsNext (front left : List Place) (is : List Item) (place : Place) : Type 0 where
  pub fits : PlaceFits place
  pub cleared : (other : Place) → Contains front other → is_uncovered (ranges_in is) other ≡ false
  pub first : find (is_uncovered (ranges_in is)) left ≡ Some place
  pub put : HasRange (range_at place) is (with_range (range_at place) is)
  pub absent : data_under (range_key (range_at place)) is ≡ None

module _ (places front left : List Place) (was is : List Item) (way : AreOnTheWay places (front ++ left) was is) (place : Place) (next : IsNext front left is place) where
  abbrev new : List Item
  new = with_range (range_at place) is

  found : Contains left place × (is_uncovered (ranges_in is) place ≡ true)
  found = find_some (is_uncovered (ranges_in is)) left place next.first

  still : (other : Place) → is_uncovered (ranges_in is) other ≡ false → is_uncovered (ranges_in new) other ≡ false
  still other covered = stays_covered (ranges_in is) (ranges_in new) other next.put.keeps covered

  open_before : (other : Place) → is_uncovered (ranges_in new) other ≡ true → is_uncovered (ranges_in is) other ≡ true
  open_before other uncovered = elim (cases_Bool (is_uncovered (ranges_in is) other)) [
    | inl holds ↦ holds
    | inr covered ↦ absurd (true≢false (sym uncovered ∙ still other covered))
  ]

  now_covered : is_uncovered (ranges_in new) place ≡ false
  now_covered = ap not (covered_from (ranges_in new) (range_at place) place next.put.has (covers_itself place))

  -- no place of those before is to come
  same_to_come : to_come (ranges_in is) (front ++ left) ≡ to_come (ranges_in is) left
  same_to_come =
      ap (λ (l : List Place). length l)
      (filter-append (is_uncovered (ranges_in is)) front left ∙ ap (λ (l : List Place). l ++ filter (is_uncovered (ranges_in is)) left) (filter_empties (is_uncovered (ranges_in is)) front next.cleared))

  pub one_fewer : to_come (ranges_in new) left + 1 ≤ to_come (ranges_in is) (front ++ left)
  one_fewer = omega (arith, same_to_come, one_less (is_uncovered (ranges_in is)) (is_uncovered (ranges_in new)) left still place found.0 found.1 now_covered)

  items_same : with_places left new ≡ with_places places was
  items_same =
      first_comes left is place next.first next.put
      ∙ sym (places_append front left is ∙ ap (with_places left) (none_to_come front is next.cleared))
      ∙ way.items

  pub way_goes_on : AreOnTheWay places left was new
  way_goes_on = record {
    items = items_same;
    forward = λ range c. elim (next.put.gives range c) [
      | inl same ↦ subst (λ (r : LogRange). r.first ≤ r.last) same (omega arith)
      | inr there ↦ way.forward range there
    ];
    keys = λ keys. keys_with (range_key (range_at place)) (range_bytes (range_at place)) is (record { objectid = next.fits.dir; kind = omega arith; offset = next.fits.index }) (way.keys keys);
    log = λ blocks flat h. puts_a_range is blocks (log_with (ranges_in is) flat) (range_at place) next.fits.index next.absent (way.log blocks flat h);
    gives = λ range c. elim (next.put.gives range c) [
      | inl same ↦ inr (record { place = place; there = way.within place (Contains-append_right front left place found.0); uncovered = was_open; is = same })
      | inr there ↦ way.gives range there
    ];
    keeps = λ range c. next.put.keeps range (way.keeps range c);
    within = λ other c. way.within other (Contains-append_right front left other c);
    clear = λ other c uncovered. elim (Contains-append_cases front left other (way.clear other c (open_before other uncovered))) [
      | inl early ↦ absurd (true≢false (sym (open_before other uncovered) ∙ next.cleared other early))
      | inr late ↦ late
    ];
    fewer = omega (arith, way.fewer, one_fewer, put_count (range_key (range_at place)) (range_bytes (range_at place)) is next.absent);
  }
    where
      was_open : is_uncovered (ranges_in was) place ≡ true
      was_open = elim (cases_Bool (is_uncovered (ranges_in was) place)) [
        | inl holds ↦ holds
        | inr covered ↦ absurd (true≢false (sym found.1 ∙ stays_covered (ranges_in was) (ranges_in is) place way.keeps covered))
      ]

-- ---- the tables

pub begins : (ino : ℕ) (committed : Tree) (table : Table) (log : Tree) → IsTree table log → AreCurrent table (tree_reach table log) → IsTree table committed → AreApart (tree_reach table committed) (tree_reach table log)
    → AreForward (ranges_in (tree_items table log)) → IsOnTheWay ino committed (make_key ino inode_ref 0) table log table log
begins ino committed table log is_tree current committed_tree apart forward = record {
  tree = is_tree;
  way = way_begins (places_in (tree_items table committed) ino) (tree_items table log) forward;
  owner = refl;
  edit = nothing_is_an_edit table (tree_reach table log);
  current = current;
  blocks = refl;
  buffers = refl;
  sealed = λ fsid was h. (was, h);
  committed_tree = committed_tree;
  committed_items = refl;
  apart = apart;
}

module _ (ino : ℕ) (committed : Tree) (first : Key) (old : Table) (before : Tree) (mid : Table) (between : Tree) (way : IsOnTheWay ino committed first old before mid between) where
  abbrev was : List Item
  was = tree_items old before

  abbrev is : List Item
  is = tree_items mid between

  abbrev refs : List Item
  refs = tree_items old committed

  -- what the search says of the committed tree as it is now, it says of the tree as it was
  said_then : (o : Option Uncovered) → first_uncovered (ranges_in is) (items_between first (last_ref ino) (tree_items mid committed)) ≡ o → first_uncovered (ranges_in is) (items_between first (last_ref ino) refs) ≡ o
  said_then o h = ap (λ (l : List Item). first_uncovered (ranges_in is) (items_between first (last_ref ino) l)) (sym way.committed_items) ∙ h

  rises : ItemsRise refs
  rises = subst ItemsRise way.committed_items way.committed_tree.order

  -- ---- one place more

  module _ (found : Uncovered) (search : first_uncovered (ranges_in is) (items_between first (last_ref ino) (tree_items mid committed)) ≡ Some found) (fits : PlaceFits found.place) where
    cut : IsFound (ranges_in is) (items_between first (last_ref ino) refs) found
    cut = cut_found (ranges_in is) (items_between first (last_ref ino) refs) found (said_then (Some found) search)

    abbrev front : List Place
    front = flat_map places_told cut.front

    abbrev left : List Place
    left = flat_map places_told (cut.item ∷ cut.rest)

    split_left : places_left refs first ino ≡ front ++ left
    split_left = ap (flat_map places_told) cut.split ∙ flat_map-append places_told cut.front (cut.item ∷ cut.rest)

    behind_left : places_left refs found.key ino ≡ left
    behind_left =
        ap (λ (key : Key). places_left refs key ino) (sym cut.key_is)
        ∙ ap (flat_map places_told) (behind first (last_ref ino) refs cut.front cut.item cut.rest rises cut.split)

    way_here : AreOnTheWay (places_in refs ino) (front ++ left) was is
    way_here = subst (λ (l : List Place). AreOnTheWay (places_in refs ino) l was is) split_left way.way

    here : find (is_uncovered (ranges_in is)) left ≡ Some found.place
    here = find_front (is_uncovered (ranges_in is)) (places_told cut.item) (flat_map places_told cut.rest) found.place cut.here

    pub no_range : data_under (range_key (range_at found.place)) is ≡ None
    no_range = no_range_there is found.place way.way.forward (find_some (is_uncovered (ranges_in is)) left found.place here).1

    next : IsNext front left is found.place
    next = record { fits = fits; cleared = cut.clear; first = here; put = has_range (range_at found.place) is fits.index way.tree.order no_range; absent = no_range }

    pub fewer_left : (new : List Item) → new ≡ with_range (range_at found.place) is → to_come (ranges_in new) (places_left refs found.key ino) + 1 ≤ to_come (ranges_in is) (places_left refs first ino)
    fewer_left new items =
        let less = one_fewer (places_in refs ino) front left was is way_here found.place next in
        omega (arith, less, ap (λ (l : List Item). to_come (ranges_in l) (places_left refs found.key ino)) items, ap (to_come (ranges_in (with_range (range_at found.place) is))) behind_left, ap (to_come (ranges_in is)) split_left)

    -- there is room for its range
    pub room_for_one : HasRoomFor old before (length (places_in refs ino)) → HasRoomFor mid between 1
    room_for_one room =
        let less = fewer_left (with_range (range_at found.place) is) refl in
        record { blocks = omega (arith, way.blocks, way.way.fewer, less, room.blocks); buffers = omega (arith, way.buffers, way.way.fewer, less, room.buffers) }

    pub goes_on : (new : Table) (after : Tree) → IsPut (range_at found.place) mid between new after → IsOnTheWay ino committed found.key old before new after
    goes_on new after put =
        let others = an_edit_keeps_other_trees mid new (tree_reach mid between) (tree_reach new after) committed put.edit way.committed_tree (λ at one two. absurd (way.apart at one two)) in
        record {
          tree = put.tree;
          way =
              subst (λ (l : List Place). AreOnTheWay (places_in refs ino) l was (tree_items new after)) (sym behind_left)
              (subst (AreOnTheWay (places_in refs ino) left was) (sym put.items) (way_goes_on (places_in refs ino) front left was is way_here found.place next));
          owner = put.owner ∙ way.owner;
          edit = edits_join old mid new (tree_reach old before) (tree_reach mid between) (tree_reach new after) way.edit put.edit;
          current = put.current;
          blocks = put.blocks ∙ way.blocks;
          buffers = put.buffers ∙ way.buffers;
          sealed = λ fsid was h. let then = way.sealed fsid was h in put.sealed fsid then.0 then.1;
          committed_tree = others.0;
          committed_items = others.1 ∙ way.committed_items;
          apart = λ at one two.
              let there : Contains (tree_reach mid committed) at = subst (λ (l : List ℕ). Contains l at) others.2 one in
              (All-contains (IsTaken mid) (tree_reach mid committed) at (reach_taken committed.level mid true committed.root.0 way.committed_tree.shape) there).taken
              (put.edit.fresh at two (way.apart at there)).0;
        }

  -- ---- the end

  module _ (none : first_uncovered (ranges_in is) (items_between first (last_ref ino) (tree_items mid committed)) ≡ None) where
    no_more_left : (place : Place) → Contains (places_left refs first ino) place → is_uncovered (ranges_in is) place ≡ false
    no_more_left = none_found (ranges_in is) (items_between first (last_ref ino) refs) (said_then None none)

    pub all_covered : (place : Place) → Contains (places_in refs ino) place → is_uncovered (ranges_in is) place ≡ false
    all_covered place c = elim (cases_Bool (is_uncovered (ranges_in is) place)) [
      | inl holds ↦ no_more_left place (way.way.clear place c holds)
      | inr covered ↦ covered
    ]

    pub items_at_end : is ≡ with_places (places_in refs ino) was
    items_at_end = sym (none_to_come (places_left refs first ino) is no_more_left) ∙ way.way.items

  pub room_at_end : (more : ℕ) → HasRoomFor old before (more + length (places_in refs ino)) → HasRoomFor mid between more
  room_at_end more room = record { blocks = omega (arith, way.blocks, way.way.fewer, room.blocks); buffers = omega (arith, way.buffers, way.way.fewer, room.buffers) }
