-- The bytes of one block of a file, and a text over some of them.
use Rattle.std.proofs.Common.{◌≡◌, ◌⊎◌, ◌≤◌, ◌<◌, ◌+◌, ◌-◌, ◌*◌, ◌/◌, ◌%◌, ℕ, Bool, true, false, List, Option, Some, None, cond, if◌then◌else◌, drop, length, length-drop, max, min, nat_le, replicate, slice_index, take, unwrap_or, refl, sym, ap, ◌∙◌, arith, rules, inl, inr}
use Rattle.std.proofs.lemmas.Bool.{and_from, cases_lt, le-leb}
use Rattle.std.proofs.lemmas.Bool.Decides.{nat_tests}
use Rattle.std.specs.Borrow.{Bor}
use Rattle.std.specs.FinMap.{get}
use Rattle.std.specs.Option.{option_copied}
use Rattle.std.proofs.lemmas.List.{ext_get_or, get_or-drop, get_or-take, length-take-le, places}
use Rattle.std.proofs.lemmas.List.FromFn.{get_or-map-range_with_len, length-map-range_with_len}
use borrow.Rule.Slice.PartMut.{mid_of, put_mid}
use Rattle.file_blocks.specs.Runs.{block_view}
use Rattle.flat_model.specs.Contents.{block_of, block_written, byte_at, byte_written}
use Rattle.flat_model.specs.Records.{Blocks}
use Rattle.flat_model.proofs.Maps.{some_none, some_same}
use Rattle.file_extents.specs.Extents.{text_block}
use Rattle.file_extents.proofs.Runs.{inside, outside}
use Rattle.file_contents.specs.Written.{covers, edge_of, end_block, first_block, text_over}

-- a byte of a block, as a byte of the file
pub byte_in_block : (blocks : Blocks) (number at : ℕ) → at < 4096 → byte_at blocks (number * 4096 + at) ≡ slice_index (block_of blocks number) at
byte_in_block blocks number at low =
    let block : (number * 4096 + at) / 4096 ≡ number = omega (arith, low) in
    let place : (number * 4096 + at) % 4096 ≡ at = omega (arith, low) in
    λ i. slice_index (block_of blocks (block i)) (place i)

-- ---- a part of a list that is written

module _ (a k : ℕ) (xs ys : List ℕ) (fits : a + k ≤ length xs) (all : length ys ≡ k) (i : ℕ) where
  in_front : i < a → slice_index (put_mid a k xs ys) i ≡ slice_index xs i
  in_front low = search (rules, places)

  in_part : a ≤ i → i < a + k → slice_index (put_mid a k xs ys) i ≡ slice_index ys (i - a)
  in_part low high = search (rules, places)

  behind : a + k ≤ i → slice_index (put_mid a k xs ys) i ≡ slice_index xs i
  behind past = search (rules, places)

part_size : (a k : ℕ) (xs : List ℕ) → a + k ≤ length xs → length (mid_of a k xs) ≡ k
part_size a k xs fits = search (rules, places)

-- ---- a text over a block

module _ (offset : ℕ) (text : List ℕ) (at was : ℕ) where
  pub text_out : (at < offset) ⊎ (offset + length text ≤ at) → text_over offset text at was ≡ was
  text_out h = ap (λ (b : Bool). cond b (slice_index text (at - offset)) was) (outside offset (offset + length text) at h)

  pub text_in : offset ≤ at → at < offset + length text → text_over offset text at was ≡ slice_index text (at - offset)
  text_in low high = ap (λ (b : Bool). cond b (slice_index text (at - offset)) was) (inside offset (offset + length text) at low high)

module _ (offset : ℕ) (text bytes part : List ℕ) (begin from to k : ℕ) (from_is : from ≡ max offset begin) (to_is : to ≡ min (offset + length text) (begin + 4096)) (some : from < to) (whole : length bytes ≡ 4096)
    (size : k ≡ to - from) (len : length part ≡ length (mid_of (from - begin) k bytes)) (is : part ≡ take (length (mid_of (from - begin) k bytes)) (drop (from - offset) text)) (place : ℕ) (low : place < 4096) where
  fits : from - begin + k ≤ length bytes
  fits = omega (arith, from_is, to_is, some, whole, size)

  all : length part ≡ k
  all = len ∙ part_size (from - begin) k bytes fits

  copied : from - begin ≤ place → place < from - begin + k → slice_index part (place - (from - begin)) ≡ slice_index text (begin + place - offset)
  copied low high =
      let short : place - (from - begin) < length (mid_of (from - begin) k bytes) = omega (arith, part_size (from - begin) k bytes fits, low, high) in
      ap (λ (l : List ℕ). slice_index l (place - (from - begin))) is
      ∙ get_or-take (length (mid_of (from - begin) k bytes)) (drop (from - offset) text) (place - (from - begin)) 0 short
      ∙ get_or-drop (from - offset) text (place - (from - begin)) 0
      ∙ ap (λ (n : ℕ). slice_index text n) (omega (arith, low, from_is))

  -- the bytes of a block over which a part of the text was copied
  pub laid : slice_index (put_mid (from - begin) k bytes part) place ≡ text_over offset text (begin + place) (slice_index bytes place)
  laid = elim (cases_lt (begin + place) from) [
    | inl early ↦
        in_front (from - begin) k bytes part fits all place (omega (arith, early, from_is))
        ∙ sym (text_out offset text (begin + place) (slice_index bytes place) (inl (omega (arith, early, from_is))))
    | inr late ↦ elim (cases_lt (begin + place) to) [
      | inl within ↦
          in_part (from - begin) k bytes part fits all place (omega (arith, late)) (omega (arith, within, size, from_is, late))
          ∙ copied (omega (arith, late)) (omega (arith, within, size, from_is, late))
          ∙ sym (text_in offset text (begin + place) (slice_index bytes place) (omega (arith, late, from_is)) (omega (arith, within, to_is)))
      | inr past ↦
          behind (from - begin) k bytes part fits all place (omega (arith, past, size, from_is, some))
          ∙ sym (text_out offset text (begin + place) (slice_index bytes place) (inr (omega (arith, past, to_is, low))))
    ]
  ]

-- the text doesn't reach the block
pub laid_none : (offset : ℕ) (text : List ℕ) (begin from to place was : ℕ) → from ≡ max offset begin → to ≡ min (offset + length text) (begin + 4096) → to ≤ from → place < 4096 → was ≡ text_over offset text (begin + place) was
laid_none offset text begin from to place was from_is to_is none low = elim (cases_lt (begin + place) offset) [
  | inl early ↦ sym (text_out offset text (begin + place) was (inl early))
  | inr late ↦ sym (text_out offset text (begin + place) was (inr (omega (arith, late, from_is, to_is, none, low))))
]

-- the whole block
pub block_laid : (blocks : Blocks) (number offset : ℕ) (text : List ℕ) (old : Option (List ℕ)) (was now : List ℕ) → old ≡ get blocks number → was ≡ unwrap_or old (replicate 4096 0) → length now ≡ 4096
    → ((place : ℕ) → place < 4096 → slice_index now place ≡ text_over offset text (number * 4096 + place) (slice_index was place)) → now ≡ block_written blocks offset text number
block_laid blocks number offset text old was now there bytes len each =
    ext_get_or 0 now (block_written blocks offset text number) (len ∙ sym (length-map-range_with_len (byte_written blocks offset text) (number * 4096) 4096)) (λ i below.
    let low : i < 4096 = omega (arith, below, len) in
    each i low
    ∙ ap (text_over offset text (number * 4096 + i)) (ap (λ (l : List ℕ). slice_index l i) (bytes ∙ ap (λ (o : Option (List ℕ)). unwrap_or o (replicate 4096 0)) there) ∙ sym (byte_in_block blocks number i low))
    ∙ sym (get_or-map-range_with_len (byte_written blocks offset text) (number * 4096) 4096 i (number * 4096 + i) 0 low refl))

-- ---- a block that the text covers

-- whether a text covers a block, by its ends
pub record IsCovered (offset count number : ℕ) : Type 0 where
  pub begins : offset ≤ 4096 * number
  pub ends : 4096 * number + 4096 ≤ offset + count

pub covers_from : (offset count number : ℕ) → offset ≤ 4096 * number → 4096 * number + 4096 ≤ offset + count → covers offset count number ≡ true
covers_from offset count number begins ends = and_from (nat_le offset (4096 * number)) (nat_le (4096 * number + 4096) (offset + count)) (le-leb offset (4096 * number) begins) (le-leb (4096 * number + 4096) (offset + count) ends)

pub covers_to : (offset count number : ℕ) → covers offset count number ≡ true → IsCovered offset count number
covers_to offset count number h = record { begins = grind (arith, nat_tests); ends = grind (arith, nat_tests) }

pub covered_block : (blocks : Blocks) (offset : ℕ) (text : List ℕ) (number : ℕ) → offset ≤ 4096 * number → 4096 * number + 4096 ≤ offset + length text → text_block offset text number ≡ block_written blocks offset text number
covered_block blocks offset text number begins ends =
    let from : ℕ = 4096 * number - offset in
    let long : 4096 ≤ length (drop from text) = omega (arith, length-drop from text, ends, begins) in
    let size : length (text_block offset text number) ≡ 4096 = length-take-le 4096 (drop from text) long in
    ext_get_or 0 (text_block offset text number) (block_written blocks offset text number) (size ∙ sym (length-map-range_with_len (byte_written blocks offset text) (number * 4096) 4096)) (λ i below.
    let low : i < 4096 = omega (arith, below, size) in
    let at : ℕ = number * 4096 + i in
    get_or-take 4096 (drop from text) i 0 low ∙ get_or-drop from text i 0
    ∙ ap (λ (n : ℕ). slice_index text n) (omega (arith, begins))
    ∙ sym (text_in offset text at (byte_at blocks at) (omega (arith, begins)) (omega (arith, ends, low)))
    ∙ sym (get_or-map-range_with_len (byte_written blocks offset text) (number * 4096) 4096 i at 0 low refl))

pub edge_some : (blocks : Blocks) (offset : ℕ) (text : List ℕ) (number : ℕ) (block : List ℕ) → Some block ≡ edge_of blocks offset text number → block ≡ block_written blocks offset text number
edge_some blocks offset text number block h = by (covers offset (length text) number) h
  where
    by : (t : Bool) → Some block ≡ (if t then None else Some (block_written blocks offset text number)) → block ≡ block_written blocks offset text number
    by true e = absurd (some_none block e)
    by false e = some_same block (block_written blocks offset text number) e

pub edge_none : (blocks : Blocks) (offset : ℕ) (text : List ℕ) (number : ℕ) → None ≡ edge_of blocks offset text number → IsCovered offset (length text) number
edge_none blocks offset text number h = covers_to offset (length text) number (by (covers offset (length text) number) h)
  where
    by : (t : Bool) → ◌≡◌ {A = Option (List ℕ)} None (if t then None else Some (block_written blocks offset text number)) → t ≡ true
    by true e = refl
    by false e = absurd (some_none (block_written blocks offset text number) (sym e))

-- the text covers each block between the first and the last one that it touches
pub between_none : (blocks : Blocks) (offset : ℕ) (text : List ℕ) (number : ℕ) → first_block offset < number → number + 1 < end_block offset (length text) → None ≡ edge_of blocks offset text number
between_none blocks offset text number low high =
    ap (λ (t : Bool). if t then None else Some (block_written blocks offset text number)) (sym (covers_from offset (length text) number (omega (arith, low)) (omega (arith, high))))

-- what is lent, by std's word
pub lent_is : (lent : Option (Bor (List ℕ))) → block_view lent ≡ option_copied lent
lent_is None = refl
lent_is (Some block) = refl
