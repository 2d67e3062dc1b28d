-- The places of an inode's names by the items of its refs, and the log that has ranges for them.
use Rattle.std.proofs.Common.{◌≡◌, ◌≢◌, ◌++◌, ◌∙◌, ℕ, Bool, true, false, not, cond, List, [], ◌∷◌, Contains, IsPermutation, nat_eq, filter, flat_map, map, length, ap, refl, sym, subst, inl, inr}
use Rattle.std.proofs.lemmas.Bool.{eqb-true, true≢false}
use Rattle.std.proofs.lemmas.List.{length-map, map-append}
use Rattle.std.proofs.lemmas.List.Elements.{All-contains, Contains-append_cases, Contains-append_left, Contains-append_right}
use Rattle.std.proofs.lemmas.List.Sorted.{Contains-permutation, IsPermutation-sym, length_permutation}
use Rattle.blk_base.specs.Items.{range_of}
use Rattle.blk_base.specs.Keys.{KeyBelow, dir_log_index}
use Rattle.blk_base.specs.Leaf.{Item}
use Rattle.blk_base.specs.Trees.{ItemsRise}
use Rattle.block_table.specs.declared.tree.Tree.{Tree}
use Rattle.block_table.specs.Table.{Table}
use Rattle.current_view.specs.Told.{refs_of, refs_told}
use Rattle.current_view.specs.View.{seen}
use Rattle.current_view.proofs.Refs.{refs_are}
use Rattle.flat_model.specs.declared.view.NameAt.{NameAt}
use Rattle.flat_model.specs.Names.{FlatName, links_of, names_of}
use Rattle.flat_model.specs.Unmarked.{unmarked}
use Rattle.flat_model.specs.Volume.{Subvolume}
use Rattle.image_faults.proofs.OfLines.{is_said}
use Rattle.leaf_view.specs.KeyOrder.{KeyBelow_irrefl}
use Rattle.log_image.specs.LogItems.{AreItemsOfLog, ranges_in, ranges_in_item, read_or}
use Rattle.log_image.proofs.Sayings.{in_flat_map}
use Rattle.logged_volume.specs.FlatLog.{AreDistinct, FlatLog, LogRange, is_covered}
use Rattle.name_walk.specs.Given.{GivesCoherent}
use Rattle.table_volume.specs.Gives.{data_in}
use Rattle.tree_range.specs.Shape.{tree_items}
use Rattle.tree_range.proofs.Rise.{rise_head, rise_tail}
use Rattle.volume_image.specs.Subvolume.{Data}
use Rattle.volume_image.proofs.Lists.{in_cons, in_nothing}
use Rattle.volume_image.proofs.Members.{filter_in, in_filter, in_map, map_in}
use Rattle.dir_ranges.specs.declared.place.Place.{Place}
use Rattle.dir_ranges.specs.Gone.{IsGoneWritten, is_uncovered, place_of, places_in, places_told, range_at, range_of_name, ranges_for}
use Rattle.dir_ranges.specs.Ranges.{log_with}
use Rattle.dir_ranges.proofs.Placed.{Covers, covered_from, covered_gives, same_range}
use Rattle.dir_ranges.proofs.Walk.{AreOnTheWay}

-- ---- names and places

flat_told : (items : List Item) → flat_map places_told items ≡ map place_of (flat_map refs_told items)
flat_told [] = refl
flat_told (x ∷ xs) = ap (λ (l : List Place). places_told x ++ l) (flat_told xs) ∙ sym (map-append place_of (refs_told x) (flat_map refs_told xs))

module _ (table : Table) (tree : Tree) (sub : Subvolume) (given : GivesCoherent table tree sub) (ino : ℕ) (not_root : ino ≢ 256) where
  abbrev told : List NameAt
  told = flat_map refs_told (refs_of (tree_items table tree) ino)

  -- the subvolume that a tree gives is the one that is seen
  is_seen : sub ≡ seen table tree
  is_seen = sym (is_said (tree_items table tree) (data_in table) sub given.gives.tree_in.order given.gives.items given.coherent)

  same_names : IsPermutation (map unmarked (names_of sub.names ino)) told
  same_names =
      subst (λ (s : Subvolume). IsPermutation (map unmarked (names_of s.names ino)) told) (sym is_seen)
      (refs_are table tree (subst (GivesCoherent table tree) is_seen given) ino not_root)

  pub place_named : (place : Place) → Contains (places_in (tree_items table tree) ino) place → (name : FlatName) × Contains (names_of sub.names ino) name × (place_of (unmarked name) ≡ place)
  place_named place c =
      let at = in_map place_of told place (subst (λ (l : List Place). Contains l place) (flat_told (refs_of (tree_items table tree) ino)) c) in
      let there = Contains-permutation told (map unmarked (names_of sub.names ino)) at.0 (IsPermutation-sym (map unmarked (names_of sub.names ino)) told same_names) at.1 in
      let name = in_map unmarked (names_of sub.names ino) at.0 there in
      (name.0, name.1, ap place_of name.2 ∙ at.2)

  pub named_place : (name : FlatName) → Contains (names_of sub.names ino) name → Contains (places_in (tree_items table tree) ino) (place_of (unmarked name))
  named_place name c =
      let there = Contains-permutation (map unmarked (names_of sub.names ino)) told (unmarked name) same_names (map_in unmarked (names_of sub.names ino) name c) in
      subst (λ (l : List Place). Contains l (place_of (unmarked name))) (sym (flat_told (refs_of (tree_items table tree) ino))) (map_in place_of told (unmarked name) there)

  pub as_many : length (places_in (tree_items table tree) ino) ≡ links_of sub.names ino
  as_many =
      ap (λ (l : List Place). length l) (flat_told (refs_of (tree_items table tree) ino))
      ∙ length-map told place_of
      ∙ length_permutation (map unmarked (names_of sub.names ino)) told same_names
      ∙ length-map (names_of sub.names ino) unmarked

-- ---- no range twice

abbrev said : Item → LogRange
said item = record { dir = item.0.objectid; first = item.0.offset; last = read_or 0 (range_of item.1) }

-- an item with a range has its directory and its first index in its key
its_key : (item : Item) (range : LogRange) → Contains (ranges_in_item item) range → (item.0.kind ≡ dir_log_index) × (said item ≡ range)
its_key item range = go (nat_eq item.0.kind dir_log_index) refl
  where
    go : (b : Bool) → nat_eq item.0.kind dir_log_index ≡ b → Contains (cond b (said item ∷ []) []) range → (item.0.kind ≡ dir_log_index) × (said item ≡ range)
    go true e c = (eqb-true item.0.kind dir_log_index e, elim (in_cons (said item) range [] c) [ inl same ↦ same | inr none ↦ absurd (in_nothing range none) ])
    go false e c = absurd (in_nothing range c)

same_key : (one two : Item) (range : LogRange) → Contains (ranges_in_item one) range → Contains (ranges_in_item two) range → one.0 ≡ two.0
same_key one two range c d =
    let first = its_key one range c in
    let second = its_key two range d in
    let same : said one ≡ said two = first.1 ∙ sym second.1 in
    let kind : one.0.kind ≡ two.0.kind = first.0 ∙ sym second.0 in
    λ k. record { objectid = ap (λ (r : LogRange). r.dir) same k; kind = kind k; offset = ap (λ (r : LogRange). r.first) same k }

pub ranges_once : (items : List Item) → ItemsRise items → AreDistinct (ranges_in items)
ranges_once [] rise = tt
ranges_once (x ∷ xs) rise = go (nat_eq x.0.kind dir_log_index) (λ range c. c) (ranges_once xs (rise_tail x xs rise))
  where
    later : (range : LogRange) → Contains (ranges_in_item x) range → Contains (ranges_in xs) range → ⊥
    later range c d =
        let item = in_flat_map ranges_in_item xs range d in
        KeyBelow_irrefl x.0 (subst (KeyBelow x.0) (sym (same_key x item.0 range c item.2)) (All-contains (λ (y : Item). KeyBelow x.0 y.0) xs item.0 (rise_head x xs rise) item.1))

    go : (b : Bool) → ((range : LogRange) → Contains (cond b (said x ∷ []) []) range → Contains (ranges_in_item x) range) → AreDistinct (ranges_in xs) → AreDistinct (cond b (said x ∷ []) [] ++ ranges_in xs)
    go true here rest = (later (said x) (here (said x) (Rattle.volume_image.proofs.Reaches.head_in (said x) [])), rest)
    go false here rest = rest

-- ---- the log at the end

module _ (table : Table) (tree : Tree) (sub : Subvolume) (given : GivesCoherent table tree sub) (ino : ℕ) (not_root : ino ≢ 256) (left : List Place) (was is : List Item) (way : AreOnTheWay (places_in (tree_items table tree) ino) left was is)
    (covered : (place : Place) → Contains (places_in (tree_items table tree) ino) place → is_uncovered (ranges_in is) place ≡ false) (rise : ItemsRise is) (blocks : Data) (flat : FlatLog) (log : AreItemsOfLog was blocks flat) where
  abbrev names : List FlatName
  names = names_of sub.names ino

  abbrev to_have : FlatName → Bool
  to_have name = not (is_covered flat.ranges name.dir name.index)

  to : (range : LogRange) → Contains (ranges_in is) range → Contains (flat.ranges ++ ranges_for flat names) range
  to range c = elim (way.gives range c) [
    | inl there ↦ Contains-append_left flat.ranges (ranges_for flat names) range (subst (λ (l : List LogRange). Contains l range) (sym log.ranges) there)
    | inr new ↦
        let name = place_named table tree sub given ino not_root new.place new.there in
        let uncovered : to_have name.0 ≡ true =
        ap (λ (l : List LogRange). not (is_covered l name.0.dir name.0.index)) log.ranges ∙ ap (is_uncovered (ranges_in was)) name.2 ∙ new.uncovered in
        Contains-append_right flat.ranges (ranges_for flat names) range
        (subst (Contains (ranges_for flat names)) (ap range_at name.2 ∙ new.is) (map_in range_of_name (filter to_have names) name.0 (filter_in to_have names name.0 name.1 uncovered)))
  ]

  from_new : (name : FlatName) → Contains names name → to_have name ≡ true → Contains (ranges_in is) (range_of_name name)
  from_new name c uncovered =
      let place = place_of (unmarked name) in
      let by = covered_gives (ranges_in is) place (not_false (is_covered (ranges_in is) place.dir place.index) (covered place (named_place table tree sub given ino not_root name c))) in
      elim (way.gives by.0 by.1) [
        | inl there ↦
            let wrong = covered_from flat.ranges by.0 place (subst (λ (l : List LogRange). Contains l by.0) (sym log.ranges) there) by.2 in
            absurd (true≢false (sym uncovered ∙ ap not wrong))
        | inr new ↦ subst (Contains (ranges_in is)) (sym new.is ∙ same_range new.place place (subst (λ (r : LogRange). Covers r place) (sym new.is) by.2)) by.1
      ]
    where
      not_false : (b : Bool) → not b ≡ false → b ≡ true
      not_false true e = refl
      not_false false e = sym e

  from : (range : LogRange) → Contains (flat.ranges ++ ranges_for flat names) range → Contains (ranges_in is) range
  from range c = elim (Contains-append_cases flat.ranges (ranges_for flat names) range c) [
    | inl there ↦ way.keeps range (subst (λ (l : List LogRange). Contains l range) log.ranges there)
    | inr new ↦
        let at = in_map range_of_name (filter to_have names) range new in
        let name = in_filter to_have names at.0 at.1 in
        subst (Contains (ranges_in is)) at.2 (from_new at.0 name.0 name.1)
  ]

  pub gone_written : IsGoneWritten sub ino flat (log_with (ranges_in is) flat)
  gone_written = record {
    whole = refl;
    existing = refl;
    names = refl;
    entries = refl;
    ranges = λ range. (to range, from range);
    ranges_once = ranges_once is rise;
  }
