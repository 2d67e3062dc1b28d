-- Item headers that move by one place and whose offsets change.
use Rattle.std.proofs.Common.{◌≡◌, ◌≤◌, ◌<◌, ◌+◌, ◌-◌, ◌*◌, ◌++◌, ◌^◌, ℕ, List, length, take, drop, ap, arith, ◌∙◌, sym, inl, inr, length-drop}
use Rattle.std.proofs.lemmas.Bool.{cases_eq}
use Rattle.std.proofs.lemmas.List.{length-take-le}
use Rattle.std.specs.List.{copy_within}
use Rattle.blk_base.specs.Bytes.{bytes_at, with_bytes, with_field, number_bytes}
use Rattle.blk_base.specs.Leaf.{header_at}
use Rattle.leaf_edit.specs.declared.header.Header.{Header}
use Rattle.leaf_edit.specs.Packed.{header_of, header_bytes}
use Rattle.leaf_edit.specs.Fronts.{header_part, key_part, same_header, number_reads_back, length-header_bytes}
use Rattle.leaf_edit.specs.Parts.{part_within, part_in_front, part_in_back, back_in_back, field_part, take-with_bytes, drop-with_bytes, drop-with_bytes_here, part-with_bytes, length-with_bytes, copied}

-- a header in front of a write, and one behind it
pub header_in_front : (xs ys : List ℕ) (n i : ℕ) → take n xs ≡ take n ys → header_at (i + 1) ≤ n → header_of xs i ≡ header_of ys i
header_in_front xs ys n i same within = header_part xs ys i i (part_in_front xs ys n (header_at i) 25 same (omega arith))

pub header_in_back : (xs ys : List ℕ) (n i : ℕ) → drop n xs ≡ drop n ys → n ≤ header_at i → header_of xs i ≡ header_of ys i
header_in_back xs ys n i same within = header_part xs ys i i (part_in_back xs ys n (header_at i) 25 same within)

pub header-with_header_below : (bytes : List ℕ) (i j : ℕ) (header : Header) → j < i → header_at i ≤ length bytes → header_of (with_bytes bytes (header_at i) (header_bytes header)) j ≡ header_of bytes j
header-with_header_below bytes i j header lower within =
    header_in_front (with_bytes bytes (header_at i) (header_bytes header)) bytes (header_at i) j (take-with_bytes bytes (header_at i) (header_bytes header) (header_at i) (omega arith) within) (omega arith)

pub header-with_header_above : (bytes : List ℕ) (i j : ℕ) (header : Header) → i < j → header_at i ≤ length bytes → header_of (with_bytes bytes (header_at i) (header_bytes header)) j ≡ header_of bytes j
header-with_header_above bytes i j header upper within =
    header_in_back (with_bytes bytes (header_at i) (header_bytes header)) bytes (header_at j) j (drop-with_bytes bytes (header_at i) (header_bytes header) (header_at j) (omega (arith, length-header_bytes header)) within) (omega arith)

-- headers in front of a write
pub header-with_bytes : (old new : List ℕ) (start : ℕ) (content : List ℕ) (i : ℕ) → new ≡ with_bytes old start content → header_at (i + 1) ≤ start → start ≤ length old → header_of new i ≡ header_of old i
header-with_bytes old new start content i made within inside = header_in_front new old start i (ap (take start) made ∙ take-with_bytes old start content start (omega arith) inside) within

-- headers that are copied as they stand to another place
pub headers_copied : (old new : List ℕ) (from end to i j : ℕ) → new ≡ copy_within old (header_at from) (header_at end) (header_at to) → from ≤ i → i < end → j + from ≡ i + to
    → header_at end ≤ length old → header_at to ≤ length old → header_of new j ≡ header_of old i
headers_copied old new from end to i j made lower upper same inside room =
    let n = header_at end - header_at from in
    let part = bytes_at n old (header_at from) in
    let long : length part ≡ n = length-take-le n (drop (header_at from) old) (omega (arith, length-drop (header_at from) old)) in
    let whole : bytes_at n new (header_at to) ≡ part =
    ap (λ m. bytes_at m new (header_at to)) (sym long) ∙ ap (λ bytes. bytes_at (length part) bytes (header_at to)) (made ∙ copied old (header_at from) (header_at end) (header_at to) inside) ∙ part-with_bytes old (header_at to) part room in
    let first : header_at to + 25 * (i - from) ≡ header_at j = omega arith in
    let second : header_at from + 25 * (i - from) ≡ header_at i = omega arith in
    header_part new old j i (rw (first, second) at (part_within new old (header_at to) (header_at from) n (25 * (i - from)) 25 whole (omega arith)))

-- the header with another offset (own)
abbrev with_offset : ℕ → Header → Header
with_offset value header = record header { offset = value }

pub header-with_offset : (now new : List ℕ) (i value : ℕ) → new ≡ with_field 4 now (header_at i + 17) value → value < 2 ^ 32 → header_at (i + 1) ≤ length now
    → header_of new i ≡ with_offset value (header_of now i)
header-with_offset now new i value made fits room =
    let at = header_at i + 17 in
    let content = number_bytes 4 value in
    let here : drop at new ≡ content ++ drop (at + 4) now = ap (drop at) made ∙ drop-with_bytes_here now at content (omega arith) in
    let front : take at new ≡ take at now = ap (take at) made ∙ take-with_bytes now at content at (omega arith) (omega arith) in
    let back : drop (at + 4) new ≡ drop (at + 4) now = ap (drop (at + 4)) made ∙ drop-with_bytes now at content (at + 4) (omega arith) (omega arith) in
    same_header (header_of new i) (with_offset value (header_of now i)) (key_part new now (header_at i) (header_at i) (part_in_front new now at (header_at i) 17 front (omega arith)))
    (number_reads_back 4 new at value (drop (at + 4) now) here (omega arith)) (field_part 4 new now (header_at i + 21) (header_at i + 21) (part_in_back new now (at + 4) (header_at i + 21) 4 back (omega arith)))

-- headers from one place to another have changed, and what stands before and behind them is as it was
pub record HeadersChanged (change : Header → Header) (old now : List ℕ) (from to : ℕ) : Type 0 where
  pub long : length now ≡ 4096
  pub changed : (i : ℕ) → from ≤ i → i < to → header_of now i ≡ change (header_of old i)
  pub front : take (header_at from) now ≡ take (header_at from) old
  pub back : drop (header_at to) now ≡ drop (header_at to) old

-- the header that is changed next is as it was
pub next_header : (change : Header → Header) (old now : List ℕ) (from i : ℕ) → HeadersChanged change old now from i → header_of now i ≡ header_of old i
next_header change old now from i h = header_in_back now old (header_at i) i h.back (omega arith)

pub one_more_changed : (change : Header → Header) (old now new : List ℕ) (from i value : ℕ) → HeadersChanged change old now from i → from ≤ i → i < 159
    → new ≡ with_field 4 now (header_at i + 17) value → value < 2 ^ 32 → with_offset value (header_of old i) ≡ change (header_of old i) → HeadersChanged change old new from (i + 1)
one_more_changed change old now new from i value h lower room made fits is =
    let long = h.long in
    let at = header_at i + 17 in
    let content = number_bytes 4 value in
    record {
      long = ap length made ∙ length-with_bytes now at content (omega arith) ∙ long;
      changed = λ j low high. elim (cases_eq j i) [
        | inl e ↦ rw e (header-with_offset now new i value made fits (omega arith) ∙ ap (with_offset value) (next_header change old now from i h) ∙ is)
        | inr other ↦ header-with_bytes now new at content j made (omega arith) (omega arith) ∙ h.changed j low (omega arith)
      ];
      front = ap (take (header_at from)) made ∙ take-with_bytes now at content (header_at from) (omega arith) (omega arith) ∙ h.front;
      back = ap (drop (header_at (i + 1))) made ∙ drop-with_bytes now at content (header_at (i + 1)) (omega arith) (omega arith) ∙ back_in_back now old (header_at i) (header_at (i + 1)) h.back (omega arith);
    }
