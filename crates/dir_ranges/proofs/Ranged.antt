-- A log on the way, with the ranges of a directory up to some index.
use Rattle.std.proofs.Common.{◌≡◌, ◌≢◌, ◌≤◌, ◌<◌, ◌+◌, ◌-◌, ◌^◌, ◌⊎◌, ◌&&◌, ◌++◌, ◌∙◌, ℕ, Bool, true, false, cond, List, [], ◌∷◌, Contains, Option, Some, None, filter, find, map, length, nat_le, nat_lt, ap, refl, sym, subst, inl, inr, arith}
use Rattle.std.specs.Option.{option_map}
use Rattle.std.proofs.lemmas.Bool.{and_parts, cases_Bool, false_from_ne_true, le-leb, leb-true, ltb-true, true≢false}
use Rattle.std.proofs.lemmas.List.Elements.{All-contains, Contains-append_cases, Contains-append_left, Contains-append_right}
use Rattle.blk_base.specs.Items.{range_of}
use Rattle.blk_base.specs.Leaf.{Item}
use Rattle.blk_base.specs.Trees.{AreApart, ItemsRise}
use Rattle.block_table.specs.declared.tree.Tree.{Tree}
use Rattle.block_table.specs.Table.{Table}
use Rattle.block_table.specs.TreeIn.{IsSealedTree, IsTaken}
use Rattle.log_edit.specs.Room.{HasRoomFor, room_of_tree, spare_of_tree}
use Rattle.log_edit.proofs.Items.{put_count}
use Rattle.log_image.specs.LogItems.{AreItemsOfLog, ranges_in, ranges_in_item, read_or}
use Rattle.logged_volume.specs.FlatLog.{FlatLog, LogRange}
use Rattle.logged_volume.specs.Numbers.{is_met}
use Rattle.logged_volume.proofs.Members.{any_gives}
use Rattle.logged_volume.proofs.WeightBounds.{short_filter}
use Rattle.tree_check.specs.Items.{HaveKeys}
use Rattle.tree_frame.specs.Frame.{AreCurrent, IsEdit}
use Rattle.tree_frame.proofs.EditLaws.{edits_join, nothing_is_an_edit}
use Rattle.tree_frame.proofs.OtherTrees.{an_edit_keeps_other_trees}
use Rattle.tree_range.specs.Between.{data_under}
use Rattle.tree_range.specs.Shape.{IsTree, tree_items, tree_reach}
use Rattle.tree_range.proofs.Found.{contains_under}
use Rattle.tree_range.proofs.Times.{reach_taken}
use Rattle.volume_image.specs.Subvolume.{Data}
use Rattle.volume_image.proofs.Lists.{in_cons, in_nothing}
use Rattle.volume_image.proofs.Members.{flat_map_in}
use Rattle.volume_image.proofs.Reaches.{head_in, tail_in}
use Rattle.dir_ranges.specs.Indexes.{all_in, end_of, index_of, indexes_between, is_unchanged, last_index, low_behind, range_in, ranges_between, with_ranges}
use Rattle.dir_ranges.specs.Ranges.{AreForward, log_with, range_bytes, range_key, with_range}
use Rattle.dir_ranges.proofs.Between.{between_gives, not_met}
use Rattle.dir_ranges.proofs.Finding.{no_more, one_less}
use Rattle.dir_ranges.proofs.Intervals.{cut_find, gaps_begin, gaps_left, gaps_step}
use Rattle.dir_ranges.proofs.Middle.{middle_has}
use Rattle.dir_ranges.proofs.OneRange.{puts_a_range}
use Rattle.dir_ranges.proofs.Placed.{HasRange, has_range}
use Rattle.dir_ranges.proofs.Walk.{IsPut, keys_with}

-- the ranges of the directory from where the next interval begins
abbrev pub ranges_left : List Item → List Item → ℕ → Option ℕ → List LogRange
ranges_left committed current dir low = map (range_in dir) (gaps_left committed current dir low)

-- how many of these indexes are there from where the next interval begins
abbrev pub count_left : List ℕ → Option ℕ → ℕ
count_left numbers None = 0
count_left numbers (Some low) = length (filter (nat_le low) numbers)

pub record AreRanged (committed current : List Item) (dir : ℕ) (low : Option ℕ) (was is : List Item) : Type 0 where
  pub items : with_ranges (ranges_left committed current dir low) is ≡ with_ranges (ranges_between committed current dir) was
  pub forward : AreForward (ranges_in was) → AreForward (ranges_in is)
  pub keys : dir < 2 ^ 64 → HaveKeys was → HaveKeys is
  pub log : (blocks : Data) (flat : FlatLog) → AreItemsOfLog was blocks flat → AreItemsOfLog is blocks (log_with (ranges_in is) flat)
  pub gives : (range : LogRange) → Contains (ranges_in is) range → Contains (ranges_in was) range ⊎ Contains (ranges_between committed current dir) range
  pub keeps : (range : LogRange) → Contains (ranges_in was) range → Contains (ranges_in is) range
  pub has : (range : LogRange) → Contains (ranges_between committed current dir) range → Contains (ranges_in is) range ⊎ Contains (ranges_left committed current dir low) range
  pub within : (range : LogRange) → Contains (ranges_left committed current dir low) range → Contains (ranges_between committed current dir) range
  pub below : (from : ℕ) → low ≡ Some from → (range : LogRange) → Contains (ranges_in is) range → range.dir ≡ dir → range.first < from
  pub fewer : length is + count_left (all_in committed current dir) low ≤ length was + length (all_in committed current dir)

pub ranged_begins : (committed current : List Item) (dir : ℕ) (was : List Item) → ItemsRise committed → ((range : LogRange) → Contains (ranges_in was) range → range.dir ≢ dir) → AreRanged committed current dir (Some 0) was was
ranged_begins committed current dir was rise none = record {
  items = ap (λ (l : List LogRange). with_ranges l was) same;
  forward = λ forward. forward;
  keys = λ fits keys. keys;
  log = λ blocks flat h. subst (λ (ranges : List LogRange). AreItemsOfLog was blocks (log_with ranges flat)) h.ranges h;
  gives = λ range c. inl c;
  keeps = λ range c. c;
  has = λ range c. inr (subst (λ (l : List LogRange). Contains l range) (sym same) c);
  within = λ range c. subst (λ (l : List LogRange). Contains l range) same c;
  below = λ from is range c own. absurd (none range c own);
  fewer = omega (arith, short_filter (nat_le 0) (all_in committed current dir));
}
  where
    same : ranges_left committed current dir (Some 0) ≡ ranges_between committed current dir
    same = ap (map (range_in dir)) (gaps_begin committed current dir rise)

-- ---- one interval more

module _ (committed current : List Item) (dir : ℕ) (rise : ItemsRise committed) (low : ℕ) (end : Option ℕ) (found : end ≡ option_map index_of (find (is_unchanged current) (indexes_between dir low last_index committed))) (was is : List Item)
    (way : AreRanged committed current dir (Some low) was is) where
  abbrev numbers : List ℕ
  numbers = all_in committed current dir

  abbrev gap : ℕ × ℕ
  gap = (low, end_of end)

  -- an end is at the interval's beginning or behind it
  end_from : (index : ℕ) → end ≡ Some index → (low ≤ index) × (index ≤ last_index)
  end_from index is_end = go (find (is_unchanged current) (indexes_between dir low last_index committed)) refl
    where
      go : (o : Option Item) → find (is_unchanged current) (indexes_between dir low last_index committed) ≡ o → (low ≤ index) × (index ≤ last_index)
      go None e = let wrong : None ≡ Some index = sym (found ∙ ap (option_map index_of) e) ∙ is_end in absurd cc
      go (Some item) e =
          let cut = cut_find (is_unchanged current) (indexes_between dir low last_index committed) item e in
          let there = between_gives dir low last_index committed item (subst (λ (l : List Item). Contains l item) (sym cut.split) (middle_has item cut.front cut.rest)) in
          let both : Some (index_of item) ≡ Some index = sym (found ∙ ap (option_map index_of) e) ∙ is_end in
          let same : index_of item ≡ index = cc in
          let a = there.1.from in
          let b = there.1.to in
          (omega (arith, a, same), omega (arith, b, same))

  pub behind_is : (from : ℕ) → low_behind end ≡ Some from → low < from
  behind_is from is_from = go end refl
    where
      go : (o : Option ℕ) → end ≡ o → low < from
      go None e = let wrong : None ≡ Some from = ap low_behind (sym e) ∙ is_from in absurd cc
      go (Some index) e = elim (cases_Bool (nat_lt index last_index)) [
        | inl more ↦
            let both : Some (index + 1) ≡ Some from = sym (ap (λ (b : Bool). cond b (Some (index + 1)) None) more) ∙ ap low_behind (sym e) ∙ is_from in
            let same : index + 1 ≡ from = cc in
            let after = (end_from index e).0 in
            omega (arith, same, after)
        | inr last ↦ let wrong : None ≡ Some from = sym (ap (λ (b : Bool). cond b (Some (index + 1)) None) last) ∙ ap low_behind (sym e) ∙ is_from in absurd cc
      ]

  not_from : (number : ℕ) → nat_le low number ≡ false → (from : ℕ) → low_behind end ≡ Some from → nat_le from number ≡ false
  not_from number below from is_from =
      false_from_ne_true (nat_le from number) (λ e.
      let after = behind_is from is_from in
      let more = leb-true from number e in
      true≢false (sym (le-leb low number (omega (arith, after, more))) ∙ below))

  fewer_behind : count_left numbers (low_behind end) ≤ count_left numbers (Some low)
  fewer_behind = go (low_behind end) refl
    where
      go : (o : Option ℕ) → low_behind end ≡ o → count_left numbers o ≤ count_left numbers (Some low)
      go None e = omega arith
      go (Some from) e = no_more (nat_le low) (nat_le from) numbers (λ number below. not_from number below from e)

  -- where the interval isn't met
  pub passes : is_met numbers gap ≡ false → AreRanged committed current dir (low_behind end) was is
  passes unmet = record {
    items = ap (λ (l : List LogRange). with_ranges l is) (sym same) ∙ way.items;
    forward = way.forward;
    keys = way.keys;
    log = way.log;
    gives = way.gives;
    keeps = way.keeps;
    has = λ range c. elim (way.has range c) [
      | inl there ↦ inl there
      | inr later ↦ inr (subst (λ (l : List LogRange). Contains l range) same later)
    ];
    within = λ range c. way.within range (subst (λ (l : List LogRange). Contains l range) (sym same) c);
    below = λ from is_from range c own. let before = way.below low refl range c own in let after = behind_is from is_from in omega (arith, before, after);
    fewer = omega (arith, way.fewer, fewer_behind);
  }
    where
      same : ranges_left committed current dir (Some low) ≡ ranges_left committed current dir (low_behind end)
      same = ap (map (range_in dir)) (gaps_step committed current dir rise low end found ∙ ap (λ (b : Bool). cond b (gap ∷ gaps_left committed current dir (low_behind end)) (gaps_left committed current dir (low_behind end))) unmet)

  module _ (is_rise : ItemsRise is) (meets : is_met numbers gap ≡ true) (fits : end_of end - 1 < 2 ^ 64) where
    abbrev range : LogRange
    range = range_in dir gap

    some : low < end_of end
    some = elim (cases_Bool (nat_lt low (end_of end))) [
      | inl less ↦ ltb-true low (end_of end) less
      | inr none ↦ absurd (true≢false (sym meets ∙ not_met numbers low (end_of end) (Rattle.std.proofs.lemmas.Bool.ltb-false low (end_of end) none)))
    ]

    pub no_range_yet : data_under (range_key range) is ≡ None
    no_range_yet = go (data_under (range_key range) is) refl
      where
        go : (o : Option (List ℕ)) → data_under (range_key range) is ≡ o → data_under (range_key range) is ≡ None
        go None e = e
        go (Some bytes) e =
            let other : LogRange = record { dir = dir; first = low; last = read_or 0 (range_of bytes) } in
            let there : Contains (ranges_in is) other = flat_map_in ranges_in_item is (range_key range, bytes) other (contains_under is (range_key range) bytes e) (head_in other []) in
            let wrong = way.below low refl other there refl in
            absurd (omega (arith, wrong))

    put : HasRange range is (with_range range is)
    put = has_range range is fits is_rise no_range_yet

    one_fewer_behind : count_left numbers (low_behind end) + 1 ≤ count_left numbers (Some low)
    one_fewer_behind =
        let met = any_gives (λ number. nat_le low number && nat_lt number (end_of end)) numbers meets in
        let parts = and_parts (nat_le low met.0) (nat_lt met.0 (end_of end)) met.2 in
        go met.0 met.1 parts.0 (ltb-true met.0 (end_of end) parts.1) (low_behind end) refl
      where
        before_next : (number from : ℕ) → number < end_of end → low_behind end ≡ Some from → number < from
        before_next number from less is_from = at end refl
          where
            at : (o : Option ℕ) → end ≡ o → number < from
            at None e = let wrong : None ≡ Some from = ap low_behind (sym e) ∙ is_from in absurd cc
            at (Some index) e = elim (cases_Bool (nat_lt index last_index)) [
              | inl more ↦
                  let both : Some (index + 1) ≡ Some from = sym (ap (λ (b : Bool). cond b (Some (index + 1)) None) more) ∙ ap low_behind (sym e) ∙ is_from in
                  let same : index + 1 ≡ from = cc in
                  let is_end : end_of end ≡ index = ap end_of e in
                  omega (arith, same, is_end, less)
              | inr last ↦ let wrong : None ≡ Some from = sym (ap (λ (b : Bool). cond b (Some (index + 1)) None) last) ∙ ap low_behind (sym e) ∙ is_from in absurd cc
            ]

        go : (number : ℕ) → Contains numbers number → nat_le low number ≡ true → number < end_of end → (o : Option ℕ) → low_behind end ≡ o → count_left numbers o + 1 ≤ count_left numbers (Some low)
        go number c from less None e = omega (arith, one_less (nat_le low) (λ (n : ℕ). false) numbers (λ n below. refl) number c from refl)
        go number c from less (Some next) e =
            one_less (nat_le low) (nat_le next) numbers (λ n below. not_from n below next e) number c from
            (false_from_ne_true (nat_le next number) (λ over. let a = leb-true next number over in let b = before_next number next less e in absurd (omega (arith, a, b))))

    -- where it is met, and its range is put in
    pub puts : AreRanged committed current dir (low_behind end) was (with_range range is)
    puts = record {
      items = ap (λ (l : List LogRange). with_ranges l is) (sym same) ∙ way.items;
      forward = λ forward other c. elim (put.gives other c) [
        | inl new ↦ subst (λ (r : LogRange). r.first ≤ r.last) new (omega (arith, some))
        | inr there ↦ way.forward forward other there
      ];
      keys = λ own keys. keys_with (range_key range) (range_bytes range) is (record { objectid = own; kind = omega arith; offset = omega (arith, some, fits) }) (way.keys own keys);
      log = λ blocks flat h. puts_a_range is blocks (log_with (ranges_in is) flat) range fits no_range_yet (way.log blocks flat h);
      gives = λ other c. elim (put.gives other c) [
        | inl new ↦ inr (subst (Contains (ranges_between committed current dir)) new (way.within range (subst (λ (l : List LogRange). Contains l range) (sym same) (head_in range (ranges_left committed current dir (low_behind end))))))
        | inr there ↦ way.gives other there
      ];
      keeps = λ other c. put.keeps other (way.keeps other c);
      has = λ other c. elim (way.has other c) [
        | inl there ↦ inl (put.keeps other there)
        | inr later ↦ elim (in_cons range other (ranges_left committed current dir (low_behind end)) (subst (λ (l : List LogRange). Contains l other) same later)) [
          | inl new ↦ inl (subst (Contains (ranges_in (with_range range is))) new put.has)
          | inr after ↦ inr after
        ]
      ];
      within = λ other c. way.within other (subst (λ (l : List LogRange). Contains l other) (sym same) (tail_in range other (ranges_left committed current dir (low_behind end)) c));
      below = λ from is_from other c own. elim (put.gives other c) [
        | inl new ↦ let after = behind_is from is_from in let first : low ≡ other.first = ap (λ (r : LogRange). r.first) new in omega (arith, after, first)
        | inr there ↦ let before = way.below low refl other there own in let after = behind_is from is_from in omega (arith, before, after)
      ];
      fewer = omega (arith, way.fewer, one_fewer_behind, put_count (range_key range) (range_bytes range) is no_range_yet);
    }
      where
        same : ranges_left committed current dir (Some low) ≡ range ∷ ranges_left committed current dir (low_behind end)
        same = ap (map (range_in dir)) (gaps_step committed current dir rise low end found ∙ ap (λ (b : Bool). cond b (gap ∷ gaps_left committed current dir (low_behind end)) (gaps_left committed current dir (low_behind end))) meets)

-- ---- the tables

-- another tree stays as it was, and apart from the edited one
pub record IsLeftAlone (other : Tree) (old : Table) (new : Table) (after : Tree) : Type 0 where
  pub tree : IsTree new other
  pub items : tree_items new other ≡ tree_items old other
  pub apart : AreApart (tree_reach new other) (tree_reach new after)

pub left_alone : (other : Tree) (old mid new : Table) (between after : Tree) → IsEdit mid new (tree_reach mid between) (tree_reach new after) → IsLeftAlone other old mid between → IsLeftAlone other old new after
left_alone other old mid new between after edit alone =
    let kept = an_edit_keeps_other_trees mid new (tree_reach mid between) (tree_reach new after) other edit alone.tree (λ at one two. absurd (alone.apart at one two)) in
    record {
      tree = kept.0;
      items = kept.1 ∙ alone.items;
      apart = λ at one two.
          let there : Contains (tree_reach mid other) at = subst (λ (l : List ℕ). Contains l at) kept.2 one in
          (All-contains (IsTaken mid) (tree_reach mid other) at (reach_taken other.level mid true other.root.0 alone.tree.shape) there).taken
          (edit.fresh at two (alone.apart at there)).0;
    }

pub record IsRanging (dir : ℕ) (committed current : Tree) (low : Option ℕ) (old : Table) (before : Tree) (new : Table) (after : Tree) : Type 0 where
  pub tree : IsTree new after
  pub way : AreRanged (tree_items old committed) (tree_items old current) dir low (tree_items old before) (tree_items new after)
  pub owner : after.owner ≡ before.owner
  pub edit : IsEdit old new (tree_reach old before) (tree_reach new after)
  pub standing : AreCurrent new (tree_reach new after)
  pub blocks : room_of_tree new after ≡ room_of_tree old before
  pub buffers : spare_of_tree new after ≡ spare_of_tree old before
  pub sealed : (fsid : List ℕ) (was : ℕ) → IsSealedTree old before fsid was → (now : ℕ) × IsSealedTree new after fsid now
  pub committed_alone : IsLeftAlone committed old new after
  pub current_alone : IsLeftAlone current old new after

pub ranging_begins : (dir : ℕ) (committed current : Tree) (table : Table) (log : Tree) → IsTree table log → AreCurrent table (tree_reach table log) → IsTree table committed → IsTree table current → AreApart (tree_reach table committed) (tree_reach table log)
    → AreApart (tree_reach table current) (tree_reach table log) → ((range : LogRange) → Contains (ranges_in (tree_items table log)) range → range.dir ≢ dir) → IsRanging dir committed current (Some 0) table log table log
ranging_begins dir committed current table log is_tree standing committed_tree current_tree committed_apart current_apart none = record {
  tree = is_tree;
  way = ranged_begins (tree_items table committed) (tree_items table current) dir (tree_items table log) committed_tree.order none;
  owner = refl;
  edit = nothing_is_an_edit table (tree_reach table log);
  standing = standing;
  blocks = refl;
  buffers = refl;
  sealed = λ fsid was h. (was, h);
  committed_alone = record { tree = committed_tree; items = refl; apart = committed_apart };
  current_alone = record { tree = current_tree; items = refl; apart = current_apart };
}

module _ (dir : ℕ) (committed current : Tree) (low : ℕ) (old : Table) (before : Tree) (mid : Table) (between : Tree) (way : IsRanging dir committed current (Some low) old before mid between) (end : Option ℕ)
    (found : end ≡ option_map index_of (find (is_unchanged (tree_items mid current)) (indexes_between dir low last_index (tree_items mid committed)))) where
  abbrev one : List Item
  one = tree_items old committed

  abbrev two : List Item
  two = tree_items old current

  rises : ItemsRise one
  rises = subst ItemsRise way.committed_alone.items way.committed_alone.tree.order

  found_then : end ≡ option_map index_of (find (is_unchanged two) (indexes_between dir low last_index one))
  found_then =
      found
      ∙ ap (λ (l : List Item). option_map index_of (find (is_unchanged l) (indexes_between dir low last_index (tree_items mid committed)))) way.current_alone.items
      ∙ ap (λ (l : List Item). option_map index_of (find (is_unchanged two) (indexes_between dir low last_index l))) way.committed_alone.items

  met_then : is_met (all_in (tree_items mid committed) (tree_items mid current) dir) (low, end_of end) ≡ is_met (all_in one two dir) (low, end_of end)
  met_then =
      ap (λ (l : List Item). is_met (all_in l (tree_items mid current) dir) (low, end_of end)) way.committed_alone.items
      ∙ ap (λ (l : List Item). is_met (all_in one l dir) (low, end_of end)) way.current_alone.items

  -- the next interval begins behind
  pub goes_up : (from : ℕ) → low_behind end ≡ Some from → low < from
  goes_up from is_from = behind_is one two dir rises low end found_then (tree_items old before) (tree_items mid between) way.way from is_from

  pub ranging_passes : is_met (all_in (tree_items mid committed) (tree_items mid current) dir) (low, end_of end) ≡ false → IsRanging dir committed current (low_behind end) old before mid between
  ranging_passes unmet = record {
    tree = way.tree;
    way = passes one two dir rises low end found_then (tree_items old before) (tree_items mid between) way.way (sym met_then ∙ unmet);
    owner = way.owner;
    edit = way.edit;
    standing = way.standing;
    blocks = way.blocks;
    buffers = way.buffers;
    sealed = way.sealed;
    committed_alone = way.committed_alone;
    current_alone = way.current_alone;
  }

  module _ (meets : is_met (all_in (tree_items mid committed) (tree_items mid current) dir) (low, end_of end) ≡ true) (fits : end_of end - 1 < 2 ^ 64) where
    pub absent_yet : data_under (range_key (range_in dir (low, end_of end))) (tree_items mid between) ≡ None
    absent_yet = no_range_yet one two dir rises low end found_then (tree_items old before) (tree_items mid between) way.way way.tree.order (sym met_then ∙ meets) fits

    next : AreRanged one two dir (low_behind end) (tree_items old before) (with_range (range_in dir (low, end_of end)) (tree_items mid between))
    next = puts one two dir rises low end found_then (tree_items old before) (tree_items mid between) way.way way.tree.order (sym met_then ∙ meets) fits

    pub room_for_range : HasRoomFor old before (length (all_in one two dir)) → HasRoomFor mid between 1
    room_for_range room =
        let long = put_count (range_key (range_in dir (low, end_of end))) (range_bytes (range_in dir (low, end_of end))) (tree_items mid between) absent_yet in
        record { blocks = omega (arith, way.blocks, next.fewer, long, room.blocks); buffers = omega (arith, way.buffers, next.fewer, long, room.buffers) }

    pub ranging_puts : (new : Table) (after : Tree) → IsPut (range_in dir (low, end_of end)) mid between new after → IsRanging dir committed current (low_behind end) old before new after
    ranging_puts new after put = record {
      tree = put.tree;
      way = subst (AreRanged one two dir (low_behind end) (tree_items old before)) (sym put.items) next;
      owner = put.owner ∙ way.owner;
      edit = edits_join old mid new (tree_reach old before) (tree_reach mid between) (tree_reach new after) way.edit put.edit;
      standing = put.current;
      blocks = put.blocks ∙ way.blocks;
      buffers = put.buffers ∙ way.buffers;
      sealed = λ fsid was h. let then = way.sealed fsid was h in put.sealed fsid then.0 then.1;
      committed_alone = left_alone committed old mid new between after put.edit way.committed_alone;
      current_alone = left_alone current old mid new between after put.edit way.current_alone;
    }

-- ---- the end

module _ (committed current : List Item) (dir : ℕ) (was is : List Item) (way : AreRanged committed current dir None was is) where
  pub items_then : is ≡ with_ranges (ranges_between committed current dir) was
  items_then = way.items

  pub ranges_to : (range : LogRange) → Contains (ranges_in is) range → Contains (ranges_in was ++ ranges_between committed current dir) range
  ranges_to range c = elim (way.gives range c) [
    | inl there ↦ Contains-append_left (ranges_in was) (ranges_between committed current dir) range there
    | inr new ↦ Contains-append_right (ranges_in was) (ranges_between committed current dir) range new
  ]

  pub ranges_from : (range : LogRange) → Contains (ranges_in was ++ ranges_between committed current dir) range → Contains (ranges_in is) range
  ranges_from range c = elim (Contains-append_cases (ranges_in was) (ranges_between committed current dir) range c) [
    | inl there ↦ way.keeps range there
    | inr new ↦ elim (way.has range new) [ inl here ↦ here | inr none ↦ absurd (in_nothing range none) ]
  ]

-- ---- the measure: how many indexes there are from where the next interval begins

abbrev pub still_above : Option ℕ → ℕ
still_above None = 0
still_above (Some low) = 2 ^ 64 - low

pub fewer_above : (low : ℕ) → low < 2 ^ 64 → (next : Option ℕ) → ((from : ℕ) → next ≡ Some from → low < from) → still_above next < still_above (Some low)
fewer_above low fits None up = omega (arith, fits)
fewer_above low fits (Some from) up = let after = up from refl in omega (arith, fits, after)
