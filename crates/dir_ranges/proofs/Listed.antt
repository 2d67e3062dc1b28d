-- A log on the way, with the entries of a directory up to some index.
use Rattle.std.proofs.Common.{◌≡◌, ◌≤◌, ◌<◌, ◌+◌, ◌^◌, ◌⊎◌, ◌++◌, ◌∙◌, ℕ, Bool, true, false, cond, List, [], ◌∷◌, Contains, Option, Some, None, filter, find, length, nat_lt, ap, refl, sym, subst, inl, inr, arith}
use Rattle.std.specs.Option.{option_map}
use Rattle.std.specs.Prelude.{IsSome}
use Rattle.std.proofs.lemmas.Bool.{ltb-false}
use Rattle.std.proofs.lemmas.List.Elements.{Contains-append_cases, Contains-append_left, Contains-append_right}
use Rattle.blk_base.specs.declared.key.Key.{Key}
use Rattle.blk_base.specs.Keys.{KeyFits, dir_index, dir_log_index}
use Rattle.blk_base.specs.Leaf.{Item}
use Rattle.blk_base.specs.Trees.{AreApart, ItemsRise}
use Rattle.block_table.specs.declared.tree.Tree.{Tree}
use Rattle.block_table.specs.Table.{Table}
use Rattle.block_table.specs.TreeIn.{IsSealedTree}
use Rattle.cow_tree.proofs.Items.{lower, upper}
use Rattle.flat_model.proofs.Lists.{filter_empties}
use Rattle.log_edit.specs.Room.{HasRoomFor, room_of_tree, spare_of_tree}
use Rattle.log_edit.proofs.Items.{put_count}
use Rattle.log_image.specs.LogItems.{AreItemsOfLog, IsLogItem, entries_in, entries_in_item, ranges_in, ranges_in_item}
use Rattle.log_image.proofs.Sayings.{in_flat_map}
use Rattle.logged_volume.specs.FlatLog.{FlatLog, LogEntry, LogRange}
use Rattle.tree_check.specs.Items.{HaveKeys}
use Rattle.tree_frame.specs.Frame.{AreCurrent, IsEdit, with_item}
use Rattle.tree_frame.proofs.EditLaws.{edits_join, nothing_is_an_edit}
use Rattle.tree_range.specs.Between.{data_under}
use Rattle.tree_range.specs.Shape.{IsTree, tree_items, tree_reach}
use Rattle.tree_range.proofs.Found.{contains_under, under_contains}
use Rattle.volume_image.specs.Subvolume.{Data, make_key}
use Rattle.volume_image.proofs.Lists.{in_cons, in_nothing}
use Rattle.volume_image.proofs.Members.{flat_map_in}
use Rattle.volume_image.proofs.Reaches.{head_in, tail_in}
use Rattle.dir_ranges.specs.Entries.{covered_from, is_covered_item, with_items}
use Rattle.dir_ranges.specs.Indexes.{index_of, indexes_between, last_index, low_behind}
use Rattle.dir_ranges.specs.Listing.{with_listings}
use Rattle.dir_ranges.proofs.Between.{between_gives}
use Rattle.dir_ranges.proofs.Finding.{find_none}
use Rattle.dir_ranges.proofs.Intervals.{IsCut, behind_index, cut_find, none_beyond}
use Rattle.dir_ranges.proofs.Middle.{both_sides, flat_same, in_middle, middle_has, middle_keeps}
use Rattle.dir_ranges.proofs.OneListing.{puts_a_listing}
use Rattle.dir_ranges.proofs.Ranged.{IsLeftAlone, left_alone}
use Rattle.dir_ranges.proofs.Walk.{keys_with}

-- ---- an item put in

pub record HasItem (item : Item) (items new : List Item) : Type 0 where
  pub gives : (other : Item) → Contains new other → (item ≡ other) ⊎ Contains items other
  pub keeps : (other : Item) → Contains items other → Contains new other
  pub has : Contains new item

pub has_item : (item : Item) (items : List Item) → ItemsRise items → data_under item.0 items ≡ None → HasItem item items (with_item item.0 item.1 items)
has_item item items rise absent =
    let sides = both_sides item.0 items rise absent in
    record {
      gives = λ other c. elim (in_middle item (lower item.0 items) (upper item.0 items) other c) [
        | inl same ↦ inl same
        | inr there ↦ inr (subst (λ (l : List Item). Contains l other) sides there)
      ];
      keeps = λ other c. middle_keeps item (lower item.0 items) (upper item.0 items) other (subst (λ (l : List Item). Contains l other) (sym sides) c);
      has = middle_has item (lower item.0 items) (upper item.0 items);
    }

no_range : (item : Item) → item.0.kind ≡ dir_index → ranges_in_item item ≡ []
no_range item kind = let other : Rattle.std.specs.Prelude.nat_eq item.0.kind dir_log_index ≡ false = ap (λ (k : ℕ). Rattle.std.specs.Prelude.nat_eq k dir_log_index) kind in rw other refl

-- ---- the items

-- the covered items from where the next one may stand
abbrev pub covered_left : List LogRange → List Item → ℕ → Option ℕ → List Item
covered_left ranges current dir None = []
covered_left ranges current dir (Some low) = covered_from ranges current dir low

pub record AreListed (ranges : List LogRange) (current : List Item) (dir : ℕ) (low : Option ℕ) (was is : List Item) : Type 0 where
  pub items : with_items (covered_left ranges current dir low) is ≡ with_items (covered_from ranges current dir 0) was
  pub same_ranges : ranges_in is ≡ ranges_in was
  pub keys : dir < 2 ^ 64 → HaveKeys was → HaveKeys is
  pub log : ((item : Item) → Contains (covered_from ranges current dir 0) item → IsLogItem item.0 item.1) → (blocks : Data) (flat : FlatLog) → AreItemsOfLog was blocks flat → AreItemsOfLog is blocks (with_listings is flat)
  pub gives : (entry : LogEntry) → Contains (entries_in is) entry → Contains (entries_in was) entry ⊎ Contains (entries_in (covered_from ranges current dir 0)) entry
  pub keeps : (entry : LogEntry) → Contains (entries_in was) entry → Contains (entries_in is) entry
  pub has : (item : Item) → Contains (covered_from ranges current dir 0) item → Contains is item ⊎ Contains (covered_left ranges current dir low) item
  pub within : (item : Item) → Contains (covered_left ranges current dir low) item → Contains (covered_from ranges current dir 0) item
  pub below : (from : ℕ) → low ≡ Some from → (index : ℕ) (bytes : List ℕ) → Contains is (make_key dir dir_index index, bytes) → index < from
  pub fewer : length is + length (covered_left ranges current dir low) ≤ length was + length (covered_from ranges current dir 0)

pub listed_begins : (ranges : List LogRange) (current : List Item) (dir : ℕ) (was : List Item) → ((index : ℕ) (bytes : List ℕ) → Contains was (make_key dir dir_index index, bytes) → ⊥) → AreListed ranges current dir (Some 0) was was
listed_begins ranges current dir was bare = record {
  items = refl;
  same_ranges = refl;
  keys = λ fits keys. keys;
  log = λ each blocks flat h.
      subst (λ (entries : List LogEntry). AreItemsOfLog was blocks (record flat { ranges = ranges_in was; entries = entries })) h.entries
      (subst (λ (all : List LogRange). AreItemsOfLog was blocks (record flat { ranges = all; entries = flat.entries })) h.ranges h);
  gives = λ entry c. inl c;
  keeps = λ entry c. c;
  has = λ item c. inr c;
  within = λ item c. c;
  below = λ from is index bytes c. absurd (bare index bytes c);
  fewer = omega arith;
}

module _ (ranges : List LogRange) (current : List Item) (dir : ℕ) (rise : ItemsRise current) (low : ℕ) (was is : List Item) (way : AreListed ranges current dir (Some low) was is) where
  abbrev covers : Item → Bool
  covers item = is_covered_item ranges dir item

  -- where none is left
  pub lists_all : find covers (indexes_between dir low last_index current) ≡ None → AreListed ranges current dir None was is
  lists_all none = record {
    items = ap (λ (l : List Item). with_items l is) (sym empty) ∙ way.items;
    same_ranges = way.same_ranges;
    keys = way.keys;
    log = way.log;
    gives = way.gives;
    keeps = way.keeps;
    has = λ item c. elim (way.has item c) [
      | inl there ↦ inl there
      | inr later ↦ inr (subst (λ (l : List Item). Contains l item) empty later)
    ];
    within = λ item c. absurd (in_nothing item c);
    below = λ from wrong index bytes c. absurd cc;
    fewer = omega (arith, way.fewer);
  }
    where
      empty : covered_from ranges current dir low ≡ []
      empty = filter_empties (is_covered_item ranges dir) (indexes_between dir low last_index current) (find_none (is_covered_item ranges dir) (indexes_between dir low last_index current) none)

  module _ (item : Item) (found : find covers (indexes_between dir low last_index current) ≡ Some item) (is_rise : ItemsRise is) where
    cut : IsCut covers (indexes_between dir low last_index current) item
    cut = cut_find covers (indexes_between dir low last_index current) item found

    there : Contains (indexes_between dir low last_index current) item
    there = subst (λ (l : List Item). Contains l item) (sym cut.split) (middle_has item cut.front cut.rest)

    pub key_is : item.0 ≡ make_key dir dir_index (index_of item)
    key_is = let at = (between_gives dir low last_index current item there).1 in λ k. record { objectid = at.objectid k; kind = at.kind k; offset = item.0.offset }

    pub from_low : low ≤ index_of item
    from_low = (between_gives dir low last_index current item there).1.from

    to_last : index_of item ≤ last_index
    to_last = (between_gives dir low last_index current item there).1.to

    -- the tree has it under its key
    pub under : data_under item.0 current ≡ Some item.1
    under = let c = (between_gives dir low last_index current item there).0 in under_contains current item.0 item.1 c.0 rise c.1 c.2

    pub none_under : data_under item.0 is ≡ None
    none_under = go (data_under item.0 is) refl
      where
        go : (o : Option (List ℕ)) → data_under item.0 is ≡ o → data_under item.0 is ≡ None
        go None e = e
        go (Some bytes) e =
            let c : Contains is (make_key dir dir_index (index_of item), bytes) = subst (λ (key : Key). Contains is (key, bytes)) key_is (contains_under is item.0 bytes e) in
            let before = way.below low refl (index_of item) bytes c in
            let after = from_low in
            absurd (omega (arith, before, after))

    left_is : covered_from ranges current dir low ≡ item ∷ covered_left ranges current dir (low_behind (Some (index_of item)))
    left_is = cut.filtered ∙ ap (λ (l : List Item). item ∷ filter covers l) (sym (behind_index dir low (index_of item) current cut.front item cut.rest rise from_low key_is cut.split)) ∙ ap (λ (l : List Item). item ∷ l) (go (nat_lt (index_of item) last_index) refl)
      where
        go : (b : Bool) → nat_lt (index_of item) last_index ≡ b → covered_from ranges current dir (index_of item + 1) ≡ covered_left ranges current dir (cond b (Some (index_of item + 1)) None)
        go true e = refl
        go false e = let last = ltb-false (index_of item) last_index e in ap (filter covers) (none_beyond dir (index_of item + 1) current (omega (arith, last)))

    put : HasItem item is (with_item item.0 item.1 is)
    put = has_item item is is_rise none_under

    next_from : (from : ℕ) → low_behind (Some (index_of item)) ≡ Some from → index_of item < from
    next_from from is_from = go (nat_lt (index_of item) last_index) is_from
      where
        go : (b : Bool) → cond b (Some (index_of item + 1)) None ≡ Some from → index_of item < from
        go true e = let same : index_of item + 1 ≡ from = cc in omega (arith, same)
        go false e = absurd cc

    pub lists : AreListed ranges current dir (low_behind (Some (index_of item))) was (with_item item.0 item.1 is)
    lists = record {
      items = ap (λ (l : List Item). with_items l is) (sym left_is) ∙ way.items;
      same_ranges = flat_same item ranges_in_item (lower item.0 is) (upper item.0 is) (no_range item kind) ∙ ap ranges_in (both_sides item.0 is is_rise none_under) ∙ way.same_ranges;
      keys = λ own keys. keys_with item.0 item.1 is (subst KeyFits (sym key_is) (record { objectid = own; kind = omega arith; offset = omega (arith, to_last) })) (way.keys own keys);
      log = λ each blocks flat h. puts_a_listing is blocks (with_listings is flat) item.0 item.1 (ap Rattle.dir_ranges.specs.Listing.is_listing_kind kind) (each item in_all) none_under (way.log each blocks flat h);
      gives = λ entry c.
          let at = in_flat_map entries_in_item (with_item item.0 item.1 is) entry c in
          elim (put.gives at.0 at.1) [
            | inl same ↦ inr (flat_map_in entries_in_item (covered_from ranges current dir 0) item entry in_all (subst (λ (x : Item). Contains (entries_in_item x) entry) (sym same) at.2))
            | inr old ↦ way.gives entry (flat_map_in entries_in_item is at.0 entry old at.2)
          ];
      keeps = λ entry c. let at = in_flat_map entries_in_item is entry (way.keeps entry c) in flat_map_in entries_in_item (with_item item.0 item.1 is) at.0 entry (put.keeps at.0 at.1) at.2;
      has = λ other c. elim (way.has other c) [
        | inl old ↦ inl (put.keeps other old)
        | inr later ↦ elim (in_cons item other (covered_left ranges current dir (low_behind (Some (index_of item)))) (subst (λ (l : List Item). Contains l other) left_is later)) [
          | inl same ↦ inl (subst (Contains (with_item item.0 item.1 is)) same put.has)
          | inr after ↦ inr after
        ]
      ];
      within = λ other c. way.within other (subst (λ (l : List Item). Contains l other) (sym left_is) (tail_in item other (covered_left ranges current dir (low_behind (Some (index_of item)))) c));
      below = λ from is_from index bytes c. elim (put.gives (make_key dir dir_index index, bytes) c) [
        | inl same ↦ let at : index_of item ≡ index = ap index_of same in let after = next_from from is_from in omega (arith, at, after)
        | inr old ↦ let before = way.below low refl index bytes old in let after = next_from from is_from in let above = from_low in omega (arith, before, after, above)
      ];
      fewer = omega (arith, way.fewer, ap (λ (l : List Item). length l) left_is, put_count item.0 item.1 is none_under);
    }
      where
        kind : item.0.kind ≡ dir_index
        kind = (between_gives dir low last_index current item there).1.kind

        in_all : Contains (covered_from ranges current dir 0) item
        in_all = way.within item (subst (λ (l : List Item). Contains l item) (sym left_is) (head_in item (covered_left ranges current dir (low_behind (Some (index_of item))))))

-- ---- the tables

pub record IsListing (dir : ℕ) (current : Tree) (low : Option ℕ) (old : Table) (before : Tree) (new : Table) (after : Tree) : Type 0 where
  pub tree : IsTree new after
  pub way : AreListed (ranges_in (tree_items old before)) (tree_items old current) dir low (tree_items old before) (tree_items new after)
  pub owner : after.owner ≡ before.owner
  pub edit : IsEdit old new (tree_reach old before) (tree_reach new after)
  pub standing : AreCurrent new (tree_reach new after)
  pub blocks : room_of_tree new after ≡ room_of_tree old before
  pub buffers : spare_of_tree new after ≡ spare_of_tree old before
  pub sealed : (fsid : List ℕ) (was : ℕ) → IsSealedTree old before fsid was → (now : ℕ) × IsSealedTree new after fsid now
  pub alone : IsLeftAlone current old new after

-- what `put_copy` ensures of an item
pub record IsCopied (item : Item) (old : Table) (before : Tree) (new : Table) (after : Tree) : Type 0 where
  pub tree : IsTree new after
  pub items : tree_items new after ≡ with_item item.0 item.1 (tree_items old before)
  pub owner : after.owner ≡ before.owner
  pub edit : IsEdit old new (tree_reach old before) (tree_reach new after)
  pub current : AreCurrent new (tree_reach new after)
  pub blocks : room_of_tree new after ≡ room_of_tree old before
  pub buffers : spare_of_tree new after ≡ spare_of_tree old before
  pub sealed : (fsid : List ℕ) (was : ℕ) → IsSealedTree old before fsid was → (now : ℕ) × IsSealedTree new after fsid now

pub listing_begins : (dir : ℕ) (current : Tree) (table : Table) (log : Tree) → IsTree table log → AreCurrent table (tree_reach table log) → IsTree table current → AreApart (tree_reach table current) (tree_reach table log)
    → ((index : ℕ) → data_under (make_key dir dir_index index) (tree_items table log) ≡ None) → IsListing dir current (Some 0) table log table log
listing_begins dir current table log is_tree standing current_tree apart bare = record {
  tree = is_tree;
  way = listed_begins (ranges_in (tree_items table log)) (tree_items table current) dir (tree_items table log) (λ index bytes c.
      let there : data_under (make_key dir dir_index index) (tree_items table log) ≡ Some bytes = under_contains (tree_items table log) (make_key dir dir_index index) bytes c.0 is_tree.order c.1 c.2 in
      let wrong : Some bytes ≡ None = sym there ∙ bare index in
      absurd cc);
  owner = refl;
  edit = nothing_is_an_edit table (tree_reach table log);
  standing = standing;
  blocks = refl;
  buffers = refl;
  sealed = λ fsid was h. (was, h);
  alone = record { tree = current_tree; items = refl; apart = apart };
}

module _ (dir : ℕ) (current : Tree) (low : ℕ) (old : Table) (before : Tree) (mid : Table) (between : Tree) (way : IsListing dir current (Some low) old before mid between) (end : Option ℕ)
    (found : end ≡ option_map index_of (find (is_covered_item (ranges_in (tree_items mid between)) dir) (indexes_between dir low last_index (tree_items mid current)))) where
  abbrev was : List Item
  was = tree_items old before

  abbrev is : List Item
  is = tree_items mid between

  abbrev theirs : List Item
  theirs = tree_items old current

  rises : ItemsRise theirs
  rises = subst ItemsRise way.alone.items way.alone.tree.order

  found_then : end ≡ option_map index_of (find (is_covered_item (ranges_in was) dir) (indexes_between dir low last_index theirs))
  found_then =
      found
      ∙ ap (λ (l : List LogRange). option_map index_of (find (is_covered_item l dir) (indexes_between dir low last_index (tree_items mid current)))) way.way.same_ranges
      ∙ ap (λ (l : List Item). option_map index_of (find (is_covered_item (ranges_in was) dir) (indexes_between dir low last_index l))) way.alone.items

  pub listing_ends : end ≡ None → IsListing dir current None old before mid between
  listing_ends none = record {
    tree = way.tree;
    way = lists_all (ranges_in was) theirs dir rises low was is way.way (go (find (is_covered_item (ranges_in was) dir) (indexes_between dir low last_index theirs)) refl);
    owner = way.owner;
    edit = way.edit;
    standing = way.standing;
    blocks = way.blocks;
    buffers = way.buffers;
    sealed = way.sealed;
    alone = way.alone;
  }
    where
      go : (o : Option Item) → find (is_covered_item (ranges_in was) dir) (indexes_between dir low last_index theirs) ≡ o → find (is_covered_item (ranges_in was) dir) (indexes_between dir low last_index theirs) ≡ None
      go None e = e
      go (Some item) e = let wrong : Some (index_of item) ≡ None = sym (found_then ∙ ap (option_map index_of) e) ∙ none in absurd cc

  module _ (index : ℕ) (at_index : end ≡ Some index) where
    pub item_found : (item : Item) × (find (is_covered_item (ranges_in was) dir) (indexes_between dir low last_index theirs) ≡ Some item) × (index_of item ≡ index)
    item_found = go (find (is_covered_item (ranges_in was) dir) (indexes_between dir low last_index theirs)) refl
      where
        go : (o : Option Item) → find (is_covered_item (ranges_in was) dir) (indexes_between dir low last_index theirs) ≡ o
            → (item : Item) × (find (is_covered_item (ranges_in was) dir) (indexes_between dir low last_index theirs) ≡ Some item) × (index_of item ≡ index)
        go None e = let wrong : None ≡ Some index = sym (found_then ∙ ap (option_map index_of) e) ∙ at_index in absurd cc
        go (Some item) e =
            let both : Some (index_of item) ≡ Some index = sym (found_then ∙ ap (option_map index_of) e) ∙ at_index in
            let same : index_of item ≡ index = cc in
            (item, e, same)

    abbrev item : Item
    item = item_found.0

    key_here : item.0 ≡ make_key dir dir_index index
    key_here = key_is (ranges_in was) theirs dir rises low was is way.way item item_found.1 way.tree.order ∙ ap (make_key dir dir_index) item_found.2

    pub goes_above : (from : ℕ) → low_behind end ≡ Some from → low < from
    goes_above from is_from =
        let after = next_from (ranges_in was) theirs dir rises low was is way.way item item_found.1 way.tree.order from (ap (λ (n : ℕ). low_behind (Some n)) item_found.2 ∙ ap low_behind (sym at_index) ∙ is_from) in
        let above = from_low (ranges_in was) theirs dir rises low was is way.way item item_found.1 way.tree.order in
        omega (arith, after, above)

    pub data_there : data_under (make_key dir dir_index index) (tree_items mid current) ≡ Some item.1
    data_there =
        ap (data_under (make_key dir dir_index index)) way.alone.items
        ∙ ap (λ (key : Key). data_under key theirs) (sym key_here)
        ∙ under (ranges_in was) theirs dir rises low was is way.way item item_found.1 way.tree.order

    pub none_yet : data_under (make_key dir dir_index index) is ≡ None
    none_yet = ap (λ (key : Key). data_under key is) (sym key_here) ∙ none_under (ranges_in was) theirs dir rises low was is way.way item item_found.1 way.tree.order

    next : AreListed (ranges_in was) theirs dir (low_behind end) was (with_item item.0 item.1 is)
    next =
        subst (λ (o : Option ℕ). AreListed (ranges_in was) theirs dir (low_behind o) was (with_item item.0 item.1 is)) (ap (λ (n : ℕ). Some n) item_found.2 ∙ sym at_index)
        (lists (ranges_in was) theirs dir rises low was is way.way item item_found.1 way.tree.order)

    pub room_for_entry : HasRoomFor old before (length (covered_from (ranges_in was) theirs dir 0)) → HasRoomFor mid between 1
    room_for_entry room =
        let long = put_count item.0 item.1 is (none_under (ranges_in was) theirs dir rises low was is way.way item item_found.1 way.tree.order) in
        record { blocks = omega (arith, way.blocks, next.fewer, long, room.blocks); buffers = omega (arith, way.buffers, next.fewer, long, room.buffers) }

    pub listing_puts : (new : Table) (after : Tree) → IsCopied (make_key dir dir_index index, item.1) mid between new after → IsListing dir current (low_behind end) old before new after
    listing_puts new after put = record {
      tree = put.tree;
      way = subst (AreListed (ranges_in was) theirs dir (low_behind end) was) (ap (λ (key : Key). with_item key item.1 is) key_here ∙ sym put.items) next;
      owner = put.owner ∙ way.owner;
      edit = edits_join old mid new (tree_reach old before) (tree_reach mid between) (tree_reach new after) way.edit put.edit;
      standing = put.current;
      blocks = put.blocks ∙ way.blocks;
      buffers = put.buffers ∙ way.buffers;
      sealed = λ fsid was h. let then = way.sealed fsid was h in put.sealed fsid then.0 then.1;
      alone = left_alone current old mid new between after put.edit way.alone;
    }

-- ---- the end

module _ (ranges : List LogRange) (current : List Item) (dir : ℕ) (was is : List Item) (way : AreListed ranges current dir None was is) where
  pub entries_to : (entry : LogEntry) → Contains (entries_in is) entry → Contains (entries_in was ++ entries_in (covered_from ranges current dir 0)) entry
  entries_to entry c = elim (way.gives entry c) [
    | inl there ↦ Contains-append_left (entries_in was) (entries_in (covered_from ranges current dir 0)) entry there
    | inr new ↦ Contains-append_right (entries_in was) (entries_in (covered_from ranges current dir 0)) entry new
  ]

  pub entries_from : (entry : LogEntry) → Contains (entries_in was ++ entries_in (covered_from ranges current dir 0)) entry → Contains (entries_in is) entry
  entries_from entry c = elim (Contains-append_cases (entries_in was) (entries_in (covered_from ranges current dir 0)) entry c) [
    | inl there ↦ way.keeps entry there
    | inr new ↦
        let at = in_flat_map entries_in_item (covered_from ranges current dir 0) entry new in
        elim (way.has at.0 at.1) [ inl here ↦ flat_map_in entries_in_item is at.0 entry here at.2 | inr none ↦ absurd (in_nothing at.0 none) ]
  ]
