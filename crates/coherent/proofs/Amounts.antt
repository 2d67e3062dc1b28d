-- Sums over an inode's items, as the survey and the inode item's numbers count them.
use Rattle.std.proofs.Common.{◌≡◌, ◌+◌, ℕ, Bool, true, false, cond, List, [], ◌∷◌, length, filter, map, flat_map, sum_by, count_by, refl, sym, ap, ◌∙◌, arith, length-append}
use Rattle.std.proofs.lemmas.List.Elements.{filter-append}
use Rattle.std.proofs.lemmas.List.Sums.{length-filter, sum_by-append, sum_by-cons}
use Rattle.blk_base.specs.Entries.{EntryValue, entries_of}
use Rattle.blk_base.specs.Extents.{extent_of}
use Rattle.blk_base.specs.Keys.{dir_index, extent_data}
use Rattle.blk_base.specs.Leaf.{Item}
use Rattle.flat_model.specs.Names.{leads_to}
use Rattle.image_faults.specs.Counts.{extent_bytes, names_said}
use Rattle.image_faults.specs.Said.{PlacedEntry, entries_at, entries_in, inline_content, is_item_of, names_in, read_list, said_target, target_in}
use Rattle.coherent_names.specs.Names.{all_names}
use Rattle.coherent_sums.specs.Sums.{index_bytes, is_of, run_bytes, target_bytes}

-- a sum over what passes
sum_filter : {X : Type 0} (f : X → ℕ) (p : X → Bool) (xs : List X) → sum_by f (filter p xs) ≡ sum_by (λ x. cond (p x) (f x) 0) xs
sum_filter f p [] = refl
sum_filter f p (x ∷ xs) = go (p x) refl (sum_filter f p xs)
  where
    whole : sum_by (λ y. cond (p y) (f y) 0) (x ∷ xs) ≡ cond (p x) (f x) 0 + sum_by (λ y. cond (p y) (f y) 0) xs
    whole = sum_by-cons (λ y. cond (p y) (f y) 0) x xs

    go : (t : Bool) → p x ≡ t → sum_by f (filter p xs) ≡ sum_by (λ y. cond (p y) (f y) 0) xs → sum_by f (cond t (x ∷ filter p xs) (filter p xs)) ≡ sum_by (λ y. cond (p y) (f y) 0) (x ∷ xs)
    go true e rest =
        let first = sum_by-cons f x (filter p xs) in
        let here : cond (p x) (f x) 0 ≡ f x = ap (λ (b : Bool). cond b (f x) 0) e in
        omega (arith, whole)
    go false e rest =
        let here : cond (p x) (f x) 0 ≡ 0 = ap (λ (b : Bool). cond b (f x) 0) e in
        omega (arith, whole)

-- a sum over lists that are joined
sum_joined : {X Y : Type 0} (g : Y → ℕ) (f : X → List Y) (h : X → ℕ) (xs : List X) → ((x : X) → sum_by g (f x) ≡ h x) → sum_by g (flat_map f xs) ≡ sum_by h xs
sum_joined g f h [] each = refl
sum_joined g f h (x ∷ xs) each =
    let joined = sum_by-append g (f x) (flat_map f xs) in
    let first = each x in
    let rest = sum_joined g f h xs each in
    let whole = sum_by-cons h x xs in
    omega arith

length_joined : {X Y : Type 0} (f : X → List Y) (h : X → ℕ) (xs : List X) → ((x : X) → length (f x) ≡ h x) → length (flat_map f xs) ≡ sum_by h xs
length_joined f h [] each = refl
length_joined f h (x ∷ xs) each =
    let joined = length-append (f x) (flat_map f xs) in
    let first = each x in
    let rest = length_joined f h xs each in
    let whole = sum_by-cons h x xs in
    omega arith

sum_mapped : {X Y : Type 0} (g : Y → ℕ) (f : X → Y) (xs : List X) → sum_by g (map f xs) ≡ sum_by (λ x. g (f x)) xs
sum_mapped g f [] = refl
sum_mapped g f (x ∷ xs) =
    let first = sum_by-cons g (f x) (map f xs) in
    let whole = sum_by-cons (λ y. g (f y)) x xs in
    let rest = sum_mapped g f xs in
    omega arith

-- ---- files, directories and symlinks

pub runs_are : (items : List Item) (ino : ℕ) → sum_by run_bytes (filter (is_of extent_data ino) items) ≡ sum_by (extent_bytes ino) items
runs_are items ino = sum_filter run_bytes (is_of extent_data ino) items

pub names_are : (items : List Item) (ino : ℕ) → sum_by (λ (entry : PlacedEntry). length entry.1.name) (entries_at items dir_index ino) ≡ sum_by index_bytes (filter (is_of dir_index ino) items)
unfolding entries_at
names_are items ino =
    sum_joined (λ (entry : PlacedEntry). length entry.1.name) (entries_in dir_index ino) (λ item. cond (is_of dir_index ino item) (index_bytes item) 0) items each
    ∙ sym (sum_filter index_bytes (is_of dir_index ino) items)
  where
    each : (item : Item) → sum_by (λ (entry : PlacedEntry). length entry.1.name) (entries_in dir_index ino item) ≡ cond (is_of dir_index ino item) (index_bytes item) 0
    each item = go (is_item_of dir_index ino item.0)
      where
        go : (t : Bool) → sum_by (λ (entry : PlacedEntry). length entry.1.name) (cond t (map (λ (entry : EntryValue). (item.0.offset, entry)) (read_list (entries_of dir_index item.1))) []) ≡ cond t (index_bytes item) 0
        go true = sum_mapped (λ (entry : PlacedEntry). length entry.1.name) (λ (entry : EntryValue). (item.0.offset, entry)) (read_list (entries_of dir_index item.1))
        go false = refl

pub target_is : (items : List Item) (ino : ℕ) → length (said_target items ino) ≡ sum_by target_bytes (filter (is_of extent_data ino) items)
unfolding said_target
target_is items ino = length_joined (target_in ino) (λ item. cond (is_of extent_data ino item) (target_bytes item) 0) items each ∙ sym (sum_filter target_bytes (is_of extent_data ino) items)
  where
    each : (item : Item) → length (target_in ino item) ≡ cond (is_of extent_data ino item) (target_bytes item) 0
    each item = go (is_item_of extent_data ino item.0)
      where
        go : (t : Bool) → length (cond t (inline_content (extent_of item.0 item.1)) []) ≡ cond t (target_bytes item) 0
        go true = refl
        go false = refl

-- ---- names

length_filtered : {X Y : Type 0} (p : Y → Bool) (f : X → List Y) (xs : List X) → length (filter p (flat_map f xs)) ≡ sum_by (λ x. length (filter p (f x))) xs
length_filtered p f [] = refl
length_filtered p f (x ∷ xs) =
    let joined = ap length (filter-append p (f x) (flat_map f xs)) in
    let long = length-append (filter p (f x)) (filter p (flat_map f xs)) in
    let rest = length_filtered p f xs in
    let whole = sum_by-cons (λ y. length (filter p (f y))) x xs in
    omega arith

pub said_length : (items : List Item) (ino : ℕ) → length (filter (leads_to ino) (all_names items)) ≡ sum_by (names_said ino) items
said_length items ino = length_filtered (leads_to ino) names_in items

pub said_count : (items : List Item) (ino : ℕ) → count_by (leads_to ino) (all_names items) ≡ sum_by (names_said ino) items
said_count items ino = sym (length-filter (leads_to ino) (all_names items)) ∙ said_length items ino
