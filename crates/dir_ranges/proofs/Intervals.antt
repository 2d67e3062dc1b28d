-- The intervals between unchanged indexes, one after the other.
use Rattle.std.proofs.Common.{◌≡◌, ◌≤◌, ◌<◌, ◌+◌, ◌^◌, ◌∙◌, ℕ, Bool, true, false, not, cond, List, [], ◌∷◌, ◌++◌, Contains, Option, Some, None, filter, find, map, nat_lt, append_assoc, refl, sym, ap, subst, inl, inr, arith}
use Rattle.std.specs.List.{list_all}
use Rattle.std.specs.Option.{option_map}
use Rattle.std.specs.Prelude.{All}
use Rattle.std.proofs.lemmas.Bool.{and_from, cases_Bool, lt-ltb, ltb-false}
use Rattle.std.proofs.lemmas.Bool.Decides.{nat_tests}
use Rattle.std.proofs.lemmas.List.Elements.{All-contains, Contains-append_cases}
use Rattle.blk_base.specs.declared.key.Key.{Key}
use Rattle.blk_base.specs.Keys.{KeyBelow, dir_index, key_below}
use Rattle.blk_base.specs.Leaf.{Item}
use Rattle.blk_base.specs.Trees.{ItemsRise}
use Rattle.cow_tree.proofs.Items.{rise_filter}
use Rattle.flat_model.proofs.Lists.{filter_empties, filter_swaps}
use Rattle.leaf_view.specs.KeyOrder.{KeyBelow_trans}
use Rattle.leaf_view.proofs.Rising.{key_below_from, key_below_means}
use Rattle.logged_volume.specs.Numbers.{gaps, gaps_with, is_met, is_number_set, number_set}
use Rattle.logged_volume.proofs.Members.{all_from as list_all_from, is_set_number_set, number_set_gives, number_set_has, same_number_set}
use Rattle.tree_range.specs.Between.{items_from, items_up_to}
use Rattle.tree_range.proofs.Rise.{rise_before, rise_head, rise_right, rise_tail}
use Rattle.tree_range.proofs.Under.{from_key}
use Rattle.volume_image.specs.Subvolume.{make_key}
use Rattle.volume_image.proofs.Lists.{in_cons, in_nothing}
use Rattle.volume_image.proofs.Members.{in_filter, in_map}
use Rattle.volume_image.proofs.Reaches.{head_in, tail_in}
use Rattle.dir_ranges.specs.Indexes.{all_in, end_of, index_of, indexes_between, is_unchanged, last_index, low_behind, unchanged_from}
use Rattle.dir_ranges.proofs.Between.{between_gives, between_rises}
use Rattle.dir_ranges.proofs.Finding.{find_none, from_both}
use Rattle.dir_ranges.proofs.Middle.{all_from, middle_has}

-- ---- the first element of a kind

pub record IsCut {X : Type 0} (p : X → Bool) (xs : List X) (x : X) : Type 0 where
  pub front : List X
  pub rest : List X
  pub split : xs ≡ front ++ x ∷ rest
  pub filtered : filter p xs ≡ x ∷ filter p rest

pub cut_find : {X : Type 0} (p : X → Bool) (xs : List X) (x : X) → find p xs ≡ Some x → IsCut p xs x
cut_find p [] x e = absurd cc
cut_find {X} p (y ∷ ys) x e = elim (cases_Bool (p y)) [
  | inl here ↦
      let first : Some y ≡ Some x = sym (ap (λ (b : Bool). cond b (Some y) (find p ys)) here) ∙ e in
      let same : y ≡ x = cc in
      record {
        front = [];
        rest = ys;
        split = ap (λ (z : X). z ∷ ys) same;
        filtered = ap (λ (b : Bool). cond b (y ∷ filter p ys) (filter p ys)) here ∙ ap (λ (z : X). z ∷ filter p ys) same;
      }
  | inr past ↦
      let later = cut_find p ys x (sym (ap (λ (b : Bool). cond b (Some y) (find p ys)) past) ∙ e) in
      record {
        front = y ∷ later.front;
        rest = later.rest;
        split = ap (λ (l : List X). y ∷ l) later.split;
        filtered = ap (λ (b : Bool). cond b (y ∷ filter p ys) (filter p ys)) past ∙ later.filtered;
      }
]

-- ---- what stands behind an index

not_below_next : (dir index : ℕ) (key : Key) → key_below (make_key dir dir_index index) key ≡ true → key_below key (make_key dir dir_index (index + 1)) ≡ false
not_below_next dir index key above = grind (arith, nat_tests)

below_next : (dir index : ℕ) → key_below (make_key dir dir_index index) (make_key dir dir_index (index + 1)) ≡ true
below_next dir index = grind (arith, nat_tests)

higher : (dir low index : ℕ) → low ≤ index → key_below (make_key dir dir_index (index + 1)) (make_key dir dir_index low) ≡ false
higher dir low index h = grind (arith, nat_tests)

pub behind_index : (dir low index : ℕ) (items front : List Item) (item : Item) (rest : List Item) → ItemsRise items → low ≤ index → item.0 ≡ make_key dir dir_index index → indexes_between dir low last_index items ≡ front ++ item ∷ rest
    → indexes_between dir (index + 1) last_index items ≡ rest
behind_index dir low index items front item rest rise from is split =
    ap (items_up_to last) (from_both next first items (higher dir low index from))
    ∙ filter_swaps (λ (x : Item). not (key_below last x.0)) (λ (x : Item). not (key_below x.0 next)) (items_from first items)
    ∙ ap (items_from next) (split ∙ sym (append_assoc front (item ∷ []) rest))
    ∙ from_key next (front ++ item ∷ []) rest below above
  where
    first : Key
    first = make_key dir dir_index low

    last : Key
    last = make_key dir dir_index last_index

    next : Key
    next = make_key dir dir_index (index + 1)

    rises : ItemsRise (front ++ item ∷ rest)
    rises = subst ItemsRise split (between_rises dir low last_index items rise)

    item_below : KeyBelow item.0 next
    item_below = subst (λ (key : Key). KeyBelow key next) (sym is) (key_below_means (make_key dir dir_index index) next (below_next dir index))

    below : All (λ (x : Item). KeyBelow x.0 next) (front ++ item ∷ [])
    below = all_from {P = λ (x : Item). KeyBelow x.0 next} (front ++ item ∷ []) (λ x c. elim (Contains-append_cases front (item ∷ []) x c) [
      | inl early ↦ KeyBelow_trans x.0 item.0 next (All-contains (λ (y : Item). KeyBelow y.0 item.0) front x (rise_before front item rest rises) early) item_below
      | inr here ↦ elim (in_cons item x [] here) [
        | inl same ↦ subst (λ (y : Item). KeyBelow y.0 next) same item_below
        | inr none ↦ absurd (in_nothing x none)
      ]
    ])

    above : All (λ (x : Item). key_below x.0 next ≡ false) rest
    above = all_from {P = λ (x : Item). key_below x.0 next ≡ false} rest (λ x c.
        let over : KeyBelow item.0 x.0 = All-contains (λ (y : Item). KeyBelow item.0 y.0) rest x (rise_head item rest (rise_right front (item ∷ rest) rises)) c in
        not_below_next dir index x.0 (subst (λ (key : Key). key_below key x.0 ≡ true) is (key_below_from item.0 x.0 over)))

-- ---- the intervals

-- those that are met, from where the next one begins
abbrev pub gaps_left : List Item → List Item → ℕ → Option ℕ → List (ℕ × ℕ)
gaps_left committed current dir None = []
gaps_left committed current dir (Some low) = filter (is_met (all_in committed current dir)) (gaps low (unchanged_from committed current dir low) (2 ^ 64))

pub none_beyond : (dir low : ℕ) (items : List Item) → last_index < low → indexes_between dir low last_index items ≡ []
none_beyond dir low items beyond = go (indexes_between dir low last_index items) refl
  where
    go : (l : List Item) → indexes_between dir low last_index items ≡ l → indexes_between dir low last_index items ≡ []
    go [] e = e
    go (x ∷ xs) e =
        let there = between_gives dir low last_index items x (subst (λ (l : List Item). Contains l x) (sym e) (head_in x xs)) in
        let a = there.1.from in
        let b = there.1.to in
        absurd (omega (arith, a, b, beyond))

module _ (committed current : List Item) (dir : ℕ) (rise : ItemsRise committed) where
  abbrev met_here : ℕ × ℕ → Bool
  met_here gap = is_met (all_in committed current dir) gap

  abbrev left : Option ℕ → List (ℕ × ℕ)
  left low = gaps_left committed current dir low

  -- behind an unchanged index the next interval begins
  next_left : (index : ℕ) → index ≤ last_index → filter met_here (gaps (index + 1) (unchanged_from committed current dir (index + 1)) (2 ^ 64)) ≡ left (low_behind (Some index))
  next_left index few = elim (cases_Bool (nat_lt index last_index)) [
    | inl more ↦ sym (ap (λ (b : Bool). left (cond b (Some (index + 1)) None)) more)
    | inr last ↦
        let at : last_index ≤ index = ltb-false index last_index last in
        let none : unchanged_from committed current dir (index + 1) ≡ [] = ap (λ (l : List Item). map index_of (filter (is_unchanged current) l)) (none_beyond dir (index + 1) committed (omega (arith, at))) in
        ap (λ (l : List ℕ). filter met_here (gaps (index + 1) l (2 ^ 64))) none
        ∙ ap (λ (b : Bool). cond b ((index + 1, 2 ^ 64) ∷ []) []) (Rattle.dir_ranges.proofs.Between.not_met (all_in committed current dir) (index + 1) (2 ^ 64) (omega (arith, at)))
        ∙ sym (ap (λ (b : Bool). left (cond b (Some (index + 1)) None)) last)
  ]

  -- the next interval, where it is met, and those behind it
  pub gaps_step : (low : ℕ) (end : Option ℕ) → end ≡ option_map index_of (find (is_unchanged current) (indexes_between dir low last_index committed))
      → left (Some low) ≡ cond (met_here (low, end_of end)) ((low, end_of end) ∷ left (low_behind end)) (left (low_behind end))
  gaps_step low end is = go (find (is_unchanged current) (indexes_between dir low last_index committed)) refl
    where
      go : (o : Option Item) → find (is_unchanged current) (indexes_between dir low last_index committed) ≡ o → left (Some low) ≡ cond (met_here (low, end_of end)) ((low, end_of end) ∷ left (low_behind end)) (left (low_behind end))
      go None e =
          let none : unchanged_from committed current dir low ≡ [] =
          ap (map index_of) (filter_empties (is_unchanged current) (indexes_between dir low last_index committed) (find_none (is_unchanged current) (indexes_between dir low last_index committed) e)) in
          let at : end ≡ None = is ∙ ap (option_map index_of) e in
          ap (λ (l : List ℕ). filter met_here (gaps low l (2 ^ 64))) none
          ∙ sym (ap (λ (o : Option ℕ). cond (met_here (low, end_of o)) ((low, end_of o) ∷ left (low_behind o)) (left (low_behind o))) at)
      go (Some item) e =
          let cut = cut_find (is_unchanged current) (indexes_between dir low last_index committed) item e in
          let there = between_gives dir low last_index committed item (subst (λ (l : List Item). Contains l item) (sym cut.split) (middle_has item cut.front cut.rest)) in
          let index = item.0.offset in
          let key : item.0 ≡ make_key dir dir_index index = λ k. record { objectid = there.1.objectid k; kind = there.1.kind k; offset = index } in
          let rest = behind_index dir low index committed cut.front item cut.rest rise there.1.from key cut.split in
          let here : unchanged_from committed current dir low ≡ index ∷ unchanged_from committed current dir (index + 1) =
          ap (map index_of) cut.filtered ∙ ap (λ (l : List Item). index ∷ map index_of (filter (is_unchanged current) l)) (sym rest) in
          let at : end ≡ Some index = is ∙ ap (option_map index_of) e in
          ap (λ (l : List ℕ). filter met_here (gaps low l (2 ^ 64))) here
          ∙ ap (λ (l : List (ℕ × ℕ)). cond (met_here (low, index)) ((low, index) ∷ l) l) (next_left index there.1.to)
          ∙ sym (ap (λ (o : Option ℕ). cond (met_here (low, end_of o)) ((low, end_of o) ∷ left (low_behind o)) (left (low_behind o))) at)

-- ---- all intervals

offset_below : (one two : Key) → one.objectid ≡ two.objectid → one.kind ≡ two.kind → key_below one two ≡ true → one.offset < two.offset
offset_below one two o k h = grind (arith, nat_tests)

-- the indexes of a directory's rising items are a set in order
indexes_set : (dir : ℕ) (items : List Item) → ItemsRise items → ((item : Item) → Contains items item → (item.0.objectid ≡ dir) × (item.0.kind ≡ dir_index)) → is_number_set (map index_of items) ≡ true
indexes_set dir [] rise each = refl
indexes_set dir (x ∷ xs) rise each =
    and_from (list_all (nat_lt (index_of x)) (map index_of xs)) (is_number_set (map index_of xs))
    (list_all_from (nat_lt (index_of x)) (map index_of xs) (λ number c.
    let item = in_map index_of xs number c in
    let here = each x (head_in x xs) in
    let there = each item.0 (tail_in x item.0 xs item.1) in
    let below = offset_below x.0 item.0.0 (here.0 ∙ sym there.0) (here.1 ∙ sym there.1) (key_below_from x.0 item.0.0 (All-contains (λ (y : Item). KeyBelow x.0 y.0) xs item.0 (rise_head x xs rise) item.1)) in
    lt-ltb (index_of x) number (omega (arith, below, item.2))))
    (indexes_set dir xs (rise_tail x xs rise) (λ item c. each item (tail_in x item xs c)))

pub gaps_begin : (committed current : List Item) (dir : ℕ) → ItemsRise committed → gaps_left committed current dir (Some 0) ≡ gaps_with (unchanged_from committed current dir 0) (all_in committed current dir) (2 ^ 64)
gaps_begin committed current dir rise = ap (λ (l : List ℕ). filter (is_met (all_in committed current dir)) (gaps 0 l (2 ^ 64))) (sym same)
  where
    in_order : is_number_set (unchanged_from committed current dir 0) ≡ true
    in_order =
        indexes_set dir (filter (is_unchanged current) (indexes_between dir 0 last_index committed)) (rise_filter (is_unchanged current) (indexes_between dir 0 last_index committed) (between_rises dir 0 last_index committed rise))
        (λ item c. let there = between_gives dir 0 last_index committed item (in_filter (is_unchanged current) (indexes_between dir 0 last_index committed) item c).0 in (there.1.objectid, there.1.kind))

    same : number_set (unchanged_from committed current dir 0) ≡ unchanged_from committed current dir 0
    same =
        same_number_set (number_set (unchanged_from committed current dir 0)) (unchanged_from committed current dir 0) (is_set_number_set (unchanged_from committed current dir 0)) in_order
        (number_set_gives (unchanged_from committed current dir 0)) (number_set_has (unchanged_from committed current dir 0))
