-- The items of a directory's indexes between two of them.
use Rattle.std.proofs.Common.{◌≡◌, ◌≤◌, ◌<◌, ◌-◌, ◌^◌, ◌||◌, ◌&&◌, ◌∙◌, ℕ, Bool, true, false, not, List, [], ◌∷◌, ◌++◌, Contains, map, nat_le, nat_lt, refl, sym, ap, ap₂, arith}
use Rattle.std.specs.List.{list_any}
use Rattle.std.specs.Option.{is_some}
use Rattle.std.proofs.lemmas.Bool.{and_from, and_parts, cases_Bool, le-leb, leb-true, lt-ltb, ltb-true, not-true, true≢false}
use Rattle.std.proofs.lemmas.Bool.Decides.{nat_tests}
use Rattle.std.proofs.lemmas.List.{map-append}
use Rattle.blk_base.specs.declared.key.Key.{Key}
use Rattle.blk_base.specs.Keys.{dir_index, key_below}
use Rattle.blk_base.specs.Leaf.{Item}
use Rattle.blk_base.specs.Trees.{ItemsRise, first_key}
use Rattle.cow_tree.proofs.Items.{rise_filter}
use Rattle.logged_volume.specs.Numbers.{is_met}
use Rattle.logged_volume.proofs.Members.{all_from as list_all_from, any_from, any_gives, is_set_number_set, number_set_gives, number_set_has, same_number_set}
use Rattle.tree_range.specs.Between.{items_from}
use Rattle.volume_image.specs.Subvolume.{make_key}
use Rattle.volume_image.proofs.Lists.{in_nothing}
use Rattle.volume_image.proofs.Members.{filter_in, in_filter, in_map, map_in}
use Rattle.volume_image.proofs.Reaches.{head_in}
use Rattle.dir_ranges.specs.Indexes.{all_in, index_of, indexes_between, last_index}
use Rattle.dir_ranges.proofs.Finding.{not_true}

-- ---- which items stand between two indexes

-- the key is of an index of the directory between two
pub record IsIndex (dir low high : ℕ) (key : Key) : Type 0 where
  pub objectid : key.objectid ≡ dir
  pub kind : key.kind ≡ dir_index
  pub from : low ≤ key.offset
  pub to : key.offset ≤ high

own : (dir low high : ℕ) (key : Key) → key_below key (make_key dir dir_index low) ≡ false → key_below (make_key dir dir_index high) key ≡ false → key.objectid ≡ dir
own dir low high key a b = grind (arith, nat_tests)

of_kind : (dir low high : ℕ) (key : Key) → key.objectid ≡ dir → key_below key (make_key dir dir_index low) ≡ false → key_below (make_key dir dir_index high) key ≡ false → key.kind ≡ dir_index
of_kind dir low high key o a b = grind (arith, nat_tests)

above_low : (dir low : ℕ) (key : Key) → key.objectid ≡ dir → key.kind ≡ dir_index → key_below key (make_key dir dir_index low) ≡ false → low ≤ key.offset
above_low dir low key o k a = grind (arith, nat_tests)

below_high : (dir high : ℕ) (key : Key) → key.objectid ≡ dir → key.kind ≡ dir_index → key_below (make_key dir dir_index high) key ≡ false → key.offset ≤ high
below_high dir high key o k b = grind (arith, nat_tests)

not_low : (dir low : ℕ) (key : Key) → key.objectid ≡ dir → key.kind ≡ dir_index → low ≤ key.offset → key_below key (make_key dir dir_index low) ≡ false
not_low dir low key o k a = grind (arith, nat_tests)

not_high : (dir high : ℕ) (key : Key) → key.objectid ≡ dir → key.kind ≡ dir_index → key.offset ≤ high → key_below (make_key dir dir_index high) key ≡ false
not_high dir high key o k b = grind (arith, nat_tests)

pub between_gives : (dir low high : ℕ) (items : List Item) (item : Item) → Contains (indexes_between dir low high items) item → Contains items item × IsIndex dir low high item.0
between_gives dir low high items item c =
    let up = in_filter (λ (x : Item). not (key_below (make_key dir dir_index high) x.0)) (items_from (make_key dir dir_index low) items) item c in
    let down = in_filter (λ (x : Item). not (key_below x.0 (make_key dir dir_index low))) items item up.0 in
    let above = not_true (key_below item.0 (make_key dir dir_index low)) down.1 in
    let below = not_true (key_below (make_key dir dir_index high) item.0) up.1 in
    let o = own dir low high item.0 above below in
    let k = of_kind dir low high item.0 o above below in
    (down.0, record { objectid = o; kind = k; from = above_low dir low item.0 o k above; to = below_high dir high item.0 o k below })

pub between_has : (dir low high : ℕ) (items : List Item) (item : Item) → Contains items item → IsIndex dir low high item.0 → Contains (indexes_between dir low high items) item
between_has dir low high items item c is =
    filter_in (λ (x : Item). not (key_below (make_key dir dir_index high) x.0)) (items_from (make_key dir dir_index low) items) item
    (filter_in (λ (x : Item). not (key_below x.0 (make_key dir dir_index low))) items item c (ap not (not_low dir low item.0 is.objectid is.kind is.from)))
    (ap not (not_high dir high item.0 is.objectid is.kind is.to))

pub between_rises : (dir low high : ℕ) (items : List Item) → ItemsRise items → ItemsRise (indexes_between dir low high items)
between_rises dir low high items rise =
    rise_filter (λ (x : Item). not (key_below (make_key dir dir_index high) x.0)) (items_from (make_key dir dir_index low) items) (rise_filter (λ (x : Item). not (key_below x.0 (make_key dir dir_index low))) items rise)

-- ---- whether an interval is met

pub same_truth : (a b : Bool) → (a ≡ true → b ≡ true) → (b ≡ true → a ≡ true) → a ≡ b
same_truth true b to from = sym (to refl)
same_truth false true to from = from refl
same_truth false false to from = refl

any_append : {X : Type 0} (p : X → Bool) (xs ys : List X) → list_any p (xs ++ ys) ≡ (list_any p xs || list_any p ys)
any_append p [] ys = refl
any_append p (x ∷ xs) ys = go (p x) (any_append p xs ys)
  where
    go : (b : Bool) → list_any p (xs ++ ys) ≡ (list_any p xs || list_any p ys) → (b || list_any p (xs ++ ys)) ≡ ((b || list_any p xs) || list_any p ys)
    go true e = refl
    go false e = e

has_first : (items : List Item) (item : Item) → Contains items item → is_some (first_key items) ≡ true
has_first [] item c = absurd (in_nothing item c)
has_first (x ∷ xs) item c = refl

some_first : (items : List Item) → is_some (first_key items) ≡ true → (item : Item) × Contains items item
some_first [] e = absurd (true≢false (sym e))
some_first (x ∷ xs) e = (x, head_in x xs)

abbrev within : ℕ → ℕ → ℕ → Bool
within low end number = nat_le low number && nat_lt number end

met_in : (dir low end : ℕ) (items : List Item) → low < end → end ≤ 2 ^ 64 → list_any (within low end) (map index_of (indexes_between dir 0 last_index items)) ≡ is_some (first_key (indexes_between dir low (end - 1) items))
met_in dir low end items some few = same_truth (list_any (within low end) (map index_of (indexes_between dir 0 last_index items))) (is_some (first_key (indexes_between dir low (end - 1) items))) to from
  where
    to : list_any (within low end) (map index_of (indexes_between dir 0 last_index items)) ≡ true → is_some (first_key (indexes_between dir low (end - 1) items)) ≡ true
    to e =
        let number = any_gives (within low end) (map index_of (indexes_between dir 0 last_index items)) e in
        let item = in_map index_of (indexes_between dir 0 last_index items) number.0 number.1 in
        let there = between_gives dir 0 last_index items item.0 item.1 in
        let parts = and_parts (nat_le low number.0) (nat_lt number.0 end) number.2 in
        let a = leb-true low number.0 parts.0 in
        let b = ltb-true number.0 end parts.1 in
        has_first (indexes_between dir low (end - 1) items) item.0
        (between_has dir low (end - 1) items item.0 there.0 (record { objectid = there.1.objectid; kind = there.1.kind; from = omega (arith, a, item.2); to = omega (arith, b, item.2) }))

    from : is_some (first_key (indexes_between dir low (end - 1) items)) ≡ true → list_any (within low end) (map index_of (indexes_between dir 0 last_index items)) ≡ true
    from e =
        let item = some_first (indexes_between dir low (end - 1) items) e in
        let there = between_gives dir low (end - 1) items item.0 item.1 in
        let a = there.1.from in
        let b = there.1.to in
        any_from (within low end) (map index_of (indexes_between dir 0 last_index items)) item.0.0.offset
        (map_in index_of (indexes_between dir 0 last_index items) item.0 (between_has dir 0 last_index items item.0 there.0 (record { objectid = there.1.objectid; kind = there.1.kind; from = omega arith; to = omega (arith, b, few) })))
        (and_from (nat_le low item.0.0.offset) (nat_lt item.0.0.offset end) (le-leb low item.0.0.offset a) (lt-ltb item.0.0.offset end (omega (arith, b, some))))

pub met : (dir low end : ℕ) (committed current : List Item) → low < end → end ≤ 2 ^ 64
    → is_met (all_in committed current dir) (low, end) ≡ (is_some (first_key (indexes_between dir low (end - 1) committed)) || is_some (first_key (indexes_between dir low (end - 1) current)))
met dir low end committed current some few =
    ap (list_any (within low end)) (map-append index_of (indexes_between dir 0 last_index committed) (indexes_between dir 0 last_index current))
    ∙ any_append (within low end) (map index_of (indexes_between dir 0 last_index committed)) (map index_of (indexes_between dir 0 last_index current))
    ∙ ap₂ (λ a b. a || b) (met_in dir low end committed some few) (met_in dir low end current some few)

-- an interval without a number isn't met
pub not_met : (numbers : List ℕ) (low end : ℕ) → end ≤ low → is_met numbers (low, end) ≡ false
not_met numbers low end none =
    Rattle.logged_volume.proofs.Members.none_from (within low end) numbers (λ number c. Rattle.std.proofs.lemmas.Bool.false_from_ne_true (within low end number) (λ e.
    let parts = and_parts (nat_le low number) (nat_lt number end) e in
    let a = leb-true low number parts.0 in
    let b = ltb-true number end parts.1 in
    omega (arith, a, b, none)))

pub met_to : (dir low end last : ℕ) (committed current : List Item) → nat_lt low end ≡ true → last ≡ end - 1 → last < 2 ^ 64
    → is_met (all_in committed current dir) (low, end) ≡ (is_some (first_key (indexes_between dir low last committed)) || is_some (first_key (indexes_between dir low last current)))
met_to dir low end last committed current before is few =
    let some = ltb-true low end before in
    met dir low end committed current some (omega (arith, is, few, some))
    ∙ ap (λ (n : ℕ). is_some (first_key (indexes_between dir low n committed)) || is_some (first_key (indexes_between dir low n current))) (sym is)
