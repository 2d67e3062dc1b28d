-- Facts on the blocks of a file by their numbers.
use Rattle.std.proofs.Common.{◌≡◌, ℕ, zero, suc, ◌<◌, ◌≤◌, ◌+◌, ◌*◌, ◌-◌, ◌/◌, ◌%◌, min, max, Bool, true, false, cond, ◌&&◌, List, [], ◌∷◌, ◌++◌, map, set, length, get_or, replicate, slice_index, Option, Some, None, unwrap_or, fold, Result, Ok, Err, refl, sym, ap, subst, ◌∙◌, arith, inl, inr, nat_lt, nat_le}
use Rattle.std.specs.Ordering.{nat_cmp, is_lt}
use Rattle.std.specs.declared.cmp.Ordering.TheVariants.{Equal}
use Rattle.std.specs.Cmp.{nat_cmp_total, ranked}
use Rattle.std.specs.Bool.{◌==◌}
use Rattle.std.specs.List.{position, range_with_len, filter}
use Rattle.std.specs.FinMap.{FinMap, get, insert, retain_keys, from_entries, get-from_entries, get-retain_keys, same_map, nat_cmp-IsAntisymmetric}
use Rattle.std.specs.FinMap.Entries.{is_sorted, find-where_key, is_sorted-where_key, below_all}
use Rattle.std.proofs.lemmas.Bool.{eqb-true, cases_lt, lt-ltb, le-ltb}
use Rattle.flat_model.specs.Records.{Blocks}
use Rattle.flat_model.specs.Contents.{block_of, byte_at, byte_written, block_written, with_cut_block, cut_block}
use Rattle.flat_model.specs.Records.{Attributes}
use Rattle.flat_model.specs.Contents.{bytes_read, written, truncated, blocks_touched}
use Rattle.flat_model.specs.Operations.{no_file}
use Rattle.std.specs.Result.{OnOk}
use Rattle.flat_record.specs.SizedBlocks.{SizedBlocks, file_of}
use Rattle.std.proofs.lemmas.List.{append_assoc, map-append}
use Rattle.std.proofs.lemmas.List.FromFn.{map-range_with_len_more}
use Rattle.flat_record.proofs.Tables.{FirstAt, position_first, position_none, find_first, find_nowhere, map_set, is_true, holds}

-- the entry at its place in a list of entries by number, and where there is none
pub get_place : {X : Type 0} (key : ℕ) (es : List (ℕ × X)) (i : ℕ) (d : ℕ × X) → Some i ≡ position (λ (e : ℕ × X). e.0 == key) es → get (from_entries {R = nat_cmp} es) key ≡ Some (get_or es i d).1
get_place key es i d is = get-from_entries nat_cmp_total es key ∙ find_first key es i d (position_first _ es i (sym is))

pub get_nowhere : {X : Type 0} (key : ℕ) (es : List (ℕ × X)) → None ≡ position (λ (e : ℕ × X). e.0 == key) es → get (from_entries {R = nat_cmp} es) key ≡ None
get_nowhere key es is = get-from_entries nat_cmp_total es key ∙ find_nowhere key es (position_none _ es (sym is))

pub key_at : {X : Type 0} (key : ℕ) (es : List (ℕ × X)) (i : ℕ) (d : ℕ × X) → Some i ≡ position (λ (e : ℕ × X). e.0 == key) es → (get_or es i d).0 ≡ key
key_at {X} key es i d is = go es i (position_first _ es i (sym is))
  where
    go : (es : List (ℕ × X)) (i : ℕ) → FirstAt (λ (e : ℕ × X). e.0 == key) es i → (get_or es i d).0 ≡ key
    go [] i at = absurd at
    go (e ∷ es) zero at = eqb-true e.0 key at
    go (e ∷ es) (suc i) at = go es i at.1

-- a place that isn't any
pub no_place : (o : Option ℕ) → ((i : ℕ) → o ≡ Some i → ⊥) → None ≡ o
no_place None none = refl
no_place (Some i) none = absurd (none i refl)

-- another value in place of one leaves the order of the numbers
below_set : {X : Type 0} (k : ℕ) (es : List (ℕ × X)) (i : ℕ) (lent : ℕ × X) (new : X) → lent ≡ get_or es i lent → below_all nat_cmp k (set es i (lent.0, new)) ≡ below_all nat_cmp k es
below_set k [] i lent new is = refl
below_set k (e ∷ es) zero lent new is = ap (λ (x : ℕ). is_lt (nat_cmp k x) && below_all nat_cmp k es) (ap (λ p. p.0) is)
below_set k (e ∷ es) (suc i) lent new is = ap (λ b. is_lt (nat_cmp k e.0) && b) (below_set k es i lent new is)

pub rising_set : {X : Type 0} (es : List (ℕ × X)) (i : ℕ) (lent : ℕ × X) (new : X) → lent ≡ get_or es i lent → is_sorted nat_cmp (set es i (lent.0, new)) ≡ is_sorted nat_cmp es
rising_set [] i lent new is = refl
rising_set (e ∷ es) zero lent new is = ap (λ (x : ℕ). below_all nat_cmp x es && is_sorted nat_cmp es) (ap (λ p. p.0) is)
rising_set (e ∷ es) (suc i) lent new is = λ j. below_set e.0 es i lent new is j && rising_set es i lent new is j

-- a byte of a block, as a byte of the file
pub byte_in_block : (blocks : Blocks) (number at : ℕ) → at < 4096 → byte_at blocks (number * 4096 + at) ≡ slice_index (block_of blocks number) at
byte_in_block blocks number at low =
    let block : (number * 4096 + at) / 4096 ≡ number = omega (arith, low) in
    let place : (number * 4096 + at) % 4096 ≡ at = omega (arith, low) in
    λ i. slice_index (block_of blocks (block i)) (place i)

-- the byte at an offset of a file, where its block is known
pub byte_of_file : (blocks : Blocks) (number offset : ℕ) (block : Option (List ℕ)) → block ≡ get blocks number → offset / 4096 ≡ number → slice_index (unwrap_or block (replicate 4096 0)) (offset % 4096) ≡ byte_at blocks offset
byte_of_file blocks number offset block is at = ap (λ o. slice_index (unwrap_or o (replicate 4096 0)) (offset % 4096)) (is ∙ ap (get blocks) (sym at))

abbrev pub insert_entry : {X : Type 0} → FinMap nat_cmp X → ℕ × X → FinMap nat_cmp X
insert_entry m e = insert m e.0 e.1

-- a block that a text touches, with its number
abbrev pub written_entry : Blocks → ℕ → List ℕ → ℕ → ℕ × List ℕ
written_entry blocks offset text number = (number, block_written blocks offset text number)

pub fold_entries : (w : ℕ → List ℕ) (blocks : Blocks) (numbers : List ℕ) → fold insert_entry blocks (map (λ n. (n, w n)) numbers) ≡ fold (λ (all : Blocks) n. insert all n (w n)) blocks numbers
fold_entries w blocks [] = refl
fold_entries w blocks (n ∷ numbers) = fold_entries w (insert blocks n (w n)) numbers

-- the blocks that begin below a size
pub below_size : (number size : ℕ) → nat_lt number ((size + 4095) / 4096) ≡ nat_lt (number * 4096) size
below_size number size =
    elim (cases_lt (number * 4096) size) [
      | inl low ↦ lt-ltb _ _ (omega (arith, low)) ∙ sym (lt-ltb _ _ low)
      | inr high ↦ le-ltb _ _ (omega (arith, high)) ∙ sym (le-ltb _ _ high)
    ]

pub map_retain : {X : Type 0} (p : ℕ → Bool) (es : List (ℕ × X)) → from_entries {R = nat_cmp} (filter (λ (e : ℕ × X). p e.0) es) ≡ retain_keys (from_entries es) p
map_retain p es = same_map nat_cmp_total nat_cmp-IsAntisymmetric _ _ (λ q.
    let alike : (x : ℕ) → nat_cmp q x ≡ Equal → p x ≡ p q = λ x e. ap p (sym (ranked q x Equal (sym e))) in
    get-from_entries nat_cmp_total _ q ∙ find-where_key nat_cmp p q alike es ∙ ap (λ o. cond (p q) o None) (sym (get-from_entries nat_cmp_total es q)) ∙ sym (get-retain_keys (from_entries es) p q alike))

pub rising_retain : {X : Type 0} (p : ℕ → Bool) (es : List (ℕ × X)) → is_sorted nat_cmp es ≡ true → is_sorted nat_cmp (filter (λ (e : ℕ × X). p e.0) es) ≡ true
rising_retain p es rise = is_true _ (is_sorted-where_key nat_cmp p es (holds _ rise))

-- the block that a size ends in, cut
pub map_cut : (es : List (ℕ × List ℕ)) (number n i : ℕ) (d : ℕ × List ℕ) → Some i ≡ position (λ (e : ℕ × List ℕ). e.0 == number) es → from_entries {R = nat_cmp} (set es i (number, cut_block (get_or es i d).1 n)) ≡ with_cut_block (from_entries es) number n
map_cut es number n i d is =
    map_set number (cut_block (get_or es i d).1 n) es i (sym is)
    ∙ sym (ap (λ o. elim o as (λ o. Blocks) [ None ↦ from_entries es | Some bytes ↦ insert (from_entries es) number (cut_block bytes n) ]) (get_place number es i d is))

pub map_uncut : (es : List (ℕ × List ℕ)) (number n : ℕ) → None ≡ position (λ (e : ℕ × List ℕ). e.0 == number) es → from_entries {R = nat_cmp} es ≡ with_cut_block (from_entries es) number n
map_uncut es number n is = sym (ap (λ o. elim o as (λ o. Blocks) [ None ↦ from_entries es | Some bytes ↦ insert (from_entries es) number (cut_block bytes n) ]) (get_nowhere number es is))

-- two runs of numbers, one behind the other
pub range_both : (a n m : ℕ) → range_with_len a (n + m) ≡ range_with_len a n ++ range_with_len (a + n) m
range_both a zero m = λ i. range_with_len (sym (Rattle.std.proofs.Common.add-zero a) i) (Rattle.std.proofs.Common.zero-add m i)
range_both a (suc n) m =
    let long : suc n + m ≡ suc (n + m) = omega arith in
    let start : (a + 1) + n ≡ a + suc n = omega arith in
    ap (range_with_len a) long ∙ ap (λ xs. a ∷ xs) (range_both (a + 1) n m ∙ ap (λ k. range_with_len (a + 1) n ++ range_with_len k m) start)

-- a byte that the text doesn't reach stays
pub unwritten : (blocks : Blocks) (offset : ℕ) (text : List ℕ) (at : ℕ) → (nat_le offset at && nat_lt at (offset + length text)) ≡ false → byte_written blocks offset text at ≡ byte_at blocks at
unwritten blocks offset text at outside = ap (λ b. cond b (slice_index text (at - offset)) (byte_at blocks at)) outside

-- a list by a run of numbers, with one more
pub map_push : {X : Type 0} (f : ℕ → X) (a n : ℕ) (items : List X) (x : X) → items ≡ map f (range_with_len a n) → x ≡ f (a + n) → items ++ x ∷ [] ≡ map f (range_with_len a (n + 1))
map_push f a n items x is last = (λ i. is i ++ last i ∷ []) ∙ sym (map-range_with_len_more f a n (a + n) refl)

pub push_more : {X : Type 0} (f : ℕ → X) (a j : ℕ) (before items : List X) (x : X) → a ≤ j → items ≡ before ++ map f (range_with_len a (j - a)) → x ≡ f j → items ++ x ∷ [] ≡ before ++ map f (range_with_len a (j + 1 - a))
push_more f a j before items x low is last =
    let here : a + (j - a) ≡ j = omega (arith, low) in
    let long : j - a + 1 ≡ j + 1 - a = omega (arith, low) in
    (λ i. is i ++ last i ∷ []) ∙ append_assoc before (map f (range_with_len a (j - a))) (f j ∷ [])
    ∙ ap (λ xs. before ++ xs) (sym (map-range_with_len_more f a (j - a) j here) ∙ ap (λ n. map f (range_with_len a n)) long)

pub read_more : (f : ℕ → ℕ) (a j k : ℕ) → a ≤ j → j ≤ k → map f (range_with_len a (j - a)) ++ map f (range_with_len j (k - j)) ≡ map f (range_with_len a (k - a))
read_more f a j k low high =
    let here : a + (j - a) ≡ j = omega (arith, low) in
    let long : j - a + (k - j) ≡ k - a = omega (arith, low, high) in
    sym (map-append f (range_with_len a (j - a)) (range_with_len j (k - j)))
    ∙ ap (map f) (ap (λ s. range_with_len a (j - a) ++ range_with_len s (k - j)) (sym here) ∙ sym (range_both a (j - a) (k - j)) ∙ ap (range_with_len a) long)

pub read_is : (attributes : Attributes) (sized : SizedBlocks) (offset count : ℕ) → map (byte_at sized.blocks) (range_with_len offset (min sized.size (offset + count) - offset)) ≡ bytes_read (file_of attributes sized) offset count
unfolding bytes_read
read_is attributes sized offset count = refl

pub written_is : (attributes : Attributes) (before : SizedBlocks) (size : ℕ) (blocks : Blocks) (offset : ℕ) (text : List ℕ) → size ≡ max before.size (offset + length text) → blocks ≡ fold (λ (all : Blocks) n. insert all n (block_written before.blocks offset text n)) before.blocks (blocks_touched offset (length text)) → file_of attributes (record { size = size; blocks = blocks }) ≡ written (file_of attributes before) offset text
unfolding written
written_is attributes before size blocks offset text size_is blocks_are = λ i. record { attributes = attributes; size = size_is i; blocks = blocks_are i }

pub truncated_is : (attributes : Attributes) (before : SizedBlocks) (size : ℕ) (blocks : Blocks) → blocks ≡ with_cut_block (retain_keys before.blocks (λ n. nat_lt (n * 4096) size)) (size / 4096) (size % 4096) → file_of attributes (record { size = size; blocks = blocks }) ≡ truncated (file_of attributes before) size
unfolding truncated
truncated_is attributes before size blocks blocks_are = λ i. record { attributes = attributes; size = size; blocks = blocks_are i }

-- nothing is read where no file is
pub none_read : (offset count : ℕ) → bytes_read no_file offset count ≡ []
unfolding bytes_read
none_read offset count = let none : min 0 (offset + count) - offset ≡ 0 = omega arith in ap (λ n. map (byte_at no_file.blocks) (range_with_len offset n)) none

pub on_ok : {T E : Type 0} {P Q : Type 0} (r : Result T E) → (P → Q) → OnOk r P → OnOk r Q
on_ok (Ok x) f p = f p
on_ok (Err e) f p = p
