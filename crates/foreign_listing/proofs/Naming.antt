-- Names put in the order of their bytes, and the rows of a directory taken out of others.
use Rattle.std.proofs.Common.{◌≡◌, ◌<◌, ◌≤◌, ◌+◌, ◌==◌, Bor, is_lt, nat_cmp, Less, Equal, Greater, ◌++◌, ℕ, suc, Bool, true, false, not, cond, List, [], ◌∷◌, map, filter, length, drop, get_or, Ok, Err, refl, sym, ap, ◌∙◌, arith, append_assoc}
use Rattle.std.specs.Prelude.{if◌then◌else◌}
use Rattle.std.specs.Cmp.{IsStrictWeakOrder}
use Rattle.std.specs.Cmp.Lexicographic.{slice_cmp}
use Rattle.std.specs.List.Sorted.{IsSortedBy, IsStableBy}
use Rattle.std.specs.Ordering.{match_ordering}
use Rattle.std.proofs.lemmas.Cmp.{nat_list_cmp_total}
use Rattle.std.proofs.lemmas.List.Sorted.{ranks_by}
use Rattle.std.proofs.lemmas.List.{map-append}
use Rattle.blk_base.specs.declared.fault.ItemFault.{ItemFault}
use Rattle.foreign_format.specs.declared.fault.ForeignFault.TheVariants.{Item}
use Rattle.format_laws.specs.Checks.{same_ok}
use Rattle.foreign_format.specs.Items.{EntryValue}
use Rattle.foreign_tree.proofs.Trees.{and_then_ok}
use Rattle.foreign_format.proofs.Rows.{drop_here, drop_past}
use Rattle.foreign_items.specs.declared.rows.Name.{Name}
use Rattle.foreign_items.specs.declared.rows.NameRow.{NameRow}
use Rattle.foreign_items.specs.Rows.{NameValue}
use Rattle.foreign_items.specs.View.{name_view}
use Rattle.foreign_listing.specs.Names.{Place, at_row, bytes_below, in_byte_order, place_below, places_below, put_entry, rows_of}
use Rattle.foreign_listing.specs.View.{entries_view, entry_view, put_entries}
use Rattle.foreign_listing.proofs.Sorting.{put, put_all, sorted_is}

-- ---- names in the order of their bytes

-- the order of names by their bytes
abbrev pub lt_names : Bor Name → Bor Name → Bool
lt_names one other = is_lt (slice_cmp nat_cmp one.now.bytes.items other.now.bytes.items)

pub names_ranked : IsStrictWeakOrder lt_names
names_ranked = ranks_by nat_list_cmp_total (λ (name : Bor Name). name.now.bytes.items)

below_is : (bytes others : List ℕ) → bytes_below bytes others ≡ is_lt (slice_cmp nat_cmp bytes others)
below_is bytes others = elim (slice_cmp nat_cmp bytes others) as (λ o. match_ordering o true false false ≡ is_lt o) [ Less ↦ refl | Equal ↦ refl | Greater ↦ refl ]

put_name : (name : Bor Name) (names : List (Bor Name)) → put_entry (entry_view name.now) (entries_view names) ≡ entries_view (put lt_names name names)
unfolding put_entry
put_name name [] = refl
put_name name (other ∷ others) =
    ap (λ (b : Bool). if b then entry_view name.now ∷ entry_view other.now ∷ entries_view others else entry_view other.now ∷ put_entry (entry_view name.now) (entries_view others)) (below_is name.now.bytes.items other.now.bytes.items)
    ∙ elim (lt_names name other) as (λ b. (if b then entry_view name.now ∷ entry_view other.now ∷ entries_view others else entry_view other.now ∷ put_entry (entry_view name.now) (entries_view others))
    ≡ entries_view (cond b (name ∷ other ∷ others) (other ∷ put lt_names name others))) [
      | true ↦ refl
      | false ↦ ap (λ (rest : List EntryValue). entry_view other.now ∷ rest) (put_name name others)
    ]

put_names : (before names : List (Bor Name)) → put_entries (entries_view before) (entries_view names) ≡ entries_view (put_all lt_names before names)
put_names before [] = refl
put_names before (name ∷ names) = ap (λ (entries : List EntryValue). put_entries entries (entries_view names)) (put_name name before) ∙ put_names (put lt_names name before) names

pub names_sorted : (names sorted : List (Bor Name)) → IsSortedBy lt_names sorted → IsStableBy lt_names names sorted → put_entries [] (entries_view names) ≡ entries_view sorted
names_sorted names sorted up stable = put_names [] names ∙ ap entries_view (sorted_is lt_names names_ranked names sorted up stable)

-- a name more
pub put_more : (before names : List EntryValue) (entry : EntryValue) → put_entries before (names ++ entry ∷ []) ≡ put_entry entry (put_entries before names)
put_more before [] entry = refl
put_more before (other ∷ names) entry = put_more (put_entry other before) names entry

-- ---- the names of rows

pub order_end : (names : List EntryValue) (rows : List NameValue) → rows ≡ [] → in_byte_order names rows ≡ Ok names
unfolding in_byte_order
order_end names rows is = rw is refl

pub order_more : (names : List EntryValue) (row : NameRow) (name : Name) (rows : List NameValue) → row.name ≡ Ok name → in_byte_order names (name_view row ∷ rows) ≡ in_byte_order (put_entry (entry_view name) names) rows
unfolding in_byte_order
order_more names row name rows is = rw is refl

pub order_bad : (names : List EntryValue) (row : NameRow) (fault : ItemFault) (rows : List NameValue) → row.name ≡ Err fault → in_byte_order names (name_view row ∷ rows) ≡ Err (Item row.leaf row.key fault)
unfolding in_byte_order
order_bad names row fault rows is = rw is refl

-- an entry more
put_length : (entry : EntryValue) (entries : List EntryValue) → length (put_entry entry entries) ≡ suc (length entries)
unfolding put_entry
put_length entry [] = refl
put_length entry (other ∷ others) = elim (bytes_below entry.name other.name) as (λ b. length (if b then entry ∷ other ∷ others else other ∷ put_entry entry others) ≡ suc (suc (length others))) [
  | true ↦ refl
  | false ↦ let rest = put_length entry others in omega (arith, rest)
]

-- there are as many names as rows
pub ordered_length : (entries : List EntryValue) (rows : List NameValue) (names : List EntryValue) → in_byte_order entries rows ≡ Ok names → length names ≡ length entries + length rows
unfolding in_byte_order
ordered_length entries [] names h =
    let same = ap length (same_ok h) in
    omega (arith, same)
ordered_length entries (row ∷ rows) names h =
    let step = and_then_ok (at_row row.leaf row.key row.entry) (λ entry. in_byte_order (put_entry entry entries) rows) names h in
    let rest = ordered_length (put_entry step.0 entries) rows names step.2 in
    let more = put_length step.0 entries in
    omega (arith, rest, more)

-- ---- by places

row_here : (rows : List NameRow) (i : ℕ) (row : NameRow) → i < length rows → row ≡ get_or rows i row → drop i rows ≡ row ∷ drop (i + 1) rows
row_here rows i row within at = drop_here rows i row within ∙ ap (λ (r : NameRow). r ∷ drop (i + 1) rows) (sym at)

pub order_turn : (rows : List NameRow) (i : ℕ) (row : NameRow) (name : Bor Name) (names after : List (Bor Name)) → i < length rows → row ≡ get_or rows i row → row.name ≡ Ok name.now → after ≡ names ++ name ∷ []
    → in_byte_order (put_entries [] (entries_view names)) (map name_view (drop i rows)) ≡ in_byte_order (put_entries [] (entries_view after)) (map name_view (drop (i + 1) rows))
order_turn rows i row name names after within at is more =
    ap (λ (rest : List NameRow). in_byte_order (put_entries [] (entries_view names)) (map name_view rest)) (row_here rows i row within at)
    ∙ order_more (put_entries [] (entries_view names)) row name.now (map name_view (drop (i + 1) rows)) is
    ∙ ap (λ (entries : List EntryValue). in_byte_order entries (map name_view (drop (i + 1) rows)))
    (sym (ap (λ (xs : List (Bor Name)). put_entries [] (entries_view xs)) more ∙ ap (put_entries []) (map-append (λ (n : Bor Name). entry_view n.now) names (name ∷ [])) ∙ put_more [] (entries_view names) (entry_view name.now)))

pub order_stop : (rows : List NameRow) (i : ℕ) (row : NameRow) (fault : ItemFault) (entries : List EntryValue) → i < length rows → row ≡ get_or rows i row → row.name ≡ Err fault
    → in_byte_order entries (map name_view (drop i rows)) ≡ Err (Item row.leaf row.key fault)
order_stop rows i row fault entries within at is =
    ap (λ (rest : List NameRow). in_byte_order entries (map name_view rest)) (row_here rows i row within at) ∙ order_bad entries row fault (map name_view (drop (i + 1) rows)) is

pub order_done : (rows : List NameRow) (i : ℕ) (entries : List EntryValue) → length rows ≤ i → in_byte_order entries (map name_view (drop i rows)) ≡ Ok entries
order_done rows i entries past = order_end entries (map name_view (drop i rows)) (ap (map name_view) (drop_past rows i past))

-- ---- rows taken out

-- the rows of a directory, seen as the definitions have them
pub rows_viewed : (dir : ℕ) (rows : List NameRow) → map name_view (filter (λ row. row.key.objectid == dir) rows) ≡ rows_of dir (map name_view rows)
rows_viewed dir [] = refl
rows_viewed dir (row ∷ rows) =
    elim (row.key.objectid == dir) as (λ b. map name_view (cond b (row ∷ filter (λ row. row.key.objectid == dir) rows) (filter (λ row. row.key.objectid == dir) rows)) ≡ cond b (name_view row ∷ rows_of dir (map name_view rows)) (rows_of dir (map name_view rows))) [
      | true ↦ ap (λ (rest : List NameValue). name_view row ∷ rest) (rows_viewed dir rows)
      | false ↦ rows_viewed dir rows
    ]

-- other rows in which those of each directory are the same
pub rows_same : (rows others : List NameRow) → ((dir : ℕ) → filter (λ row. row.key.objectid == dir) others ≡ filter (λ row. row.key.objectid == dir) rows) → (dir : ℕ) → rows_of dir (map name_view others) ≡ rows_of dir (map name_view rows)
rows_same rows others same dir = sym (rows_viewed dir others) ∙ ap (map name_view) (same dir) ∙ rows_viewed dir rows

-- the two parts of rows have all of them
pub parts_length : {A : Type 0} (p : A → Bool) (xs : List A) → length (filter p xs) + length (filter (λ x. not (p x)) xs) ≡ length xs
parts_length p [] = refl
parts_length p (x ∷ xs) = elim (p x) as (λ b. length (cond b (x ∷ filter p xs) (filter p xs)) + length (cond (not b) (x ∷ filter (λ x. not (p x)) xs) (filter (λ x. not (p x)) xs)) ≡ suc (length xs)) [
  | true ↦ let rest = parts_length p xs in omega (arith, rest)
  | false ↦ let rest = parts_length p xs in omega (arith, rest)
]

-- ---- places pushed

-- the last name's place goes in front of those that are pending
pub pushed_last : (path : List ℕ) (names front : List (Bor Name)) (name : Bor Name) (pending old : List Place) → names ≡ front ++ name ∷ []
    → places_below path (entries_view names) ++ old ≡ places_below path (entries_view front) ++ (place_below path (entry_view name.now) ∷ old)
pushed_last path names front name pending old is =
    ap (λ (xs : List (Bor Name)). places_below path (entries_view xs) ++ old) is
    ∙ ap (λ (xs : List EntryValue). places_below path xs ++ old) (map-append (λ (n : Bor Name). entry_view n.now) front (name ∷ []))
    ∙ ap (λ (xs : List Place). xs ++ old) (map-append (place_below path) (entries_view front) (entry_view name.now ∷ []))
    ∙ append_assoc (places_below path (entries_view front)) (place_below path (entry_view name.now) ∷ []) old
