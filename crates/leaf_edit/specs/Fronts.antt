-- Headers and keys as a block holds them: what a write leaves of them, and reads back.
use Rattle.std.proofs.Common.{◌≡◌, ◌≤◌, ◌<◌, ◌+◌, ◌^◌, ℕ, List, [], ◌∷◌, ◌++◌, length, drop, refl, ap, arith, ◌∙◌, sym, append_assoc}
use Rattle.std.proofs.lemmas.List.{drop-drop, drop_at}
use Rattle.byteorder.specs.Numbers.{little_number-reads_back}
use Rattle.blk_base.specs.declared.key.Key.{Key}
use Rattle.blk_base.specs.Bytes.{field, bytes_at, with_bytes, number_bytes}
use Rattle.blk_base.specs.Keys.{KeyFits, key_at}
use Rattle.blk_base.specs.Leaf.{header_at}
use Rattle.leaf_edit.specs.declared.header.Header.{Header}
use Rattle.leaf_edit.specs.Images.{key_image}
use Rattle.leaf_edit.specs.Packed.{HeaderFits, header_of, header_bytes}
use Rattle.leaf_edit.specs.Parts.{part_within, field_part, drop-with_bytes_here}

-- a number that is written reads back
pub number_reads_back : (n : ℕ) (xs : List ℕ) (at value : ℕ) (rest : List ℕ) → drop at xs ≡ number_bytes n value ++ rest → value < 256 ^ n → field n xs at ≡ value
unfolding field
number_reads_back n xs at value rest is fits = rw is (little_number-reads_back n value rest fits)

pub behind : (xs : List ℕ) (at next : ℕ) (front rest : List ℕ) → drop at xs ≡ front ++ rest → at + length front ≡ next → drop next xs ≡ rest
behind xs at next front rest is long = ap (λ n. drop n xs) (sym long) ∙ sym (drop-drop (length front) at xs) ∙ ap (drop (length front)) is ∙ drop_at front rest (length front) refl

make_key : ℕ → ℕ → ℕ → Key
make_key o k f = record { objectid = o; kind = k; offset = f }

same_key : (a b : Key) → a.objectid ≡ b.objectid → a.kind ≡ b.kind → a.offset ≡ b.offset → a ≡ b
unfolding make_key
same_key a b p q r = ap (λ o. make_key o a.kind a.offset) p ∙ ap (λ k. make_key b.objectid k a.offset) q ∙ ap (λ f. make_key b.objectid b.kind f) r

-- a key that is written reads back
pub key_reads_back : (xs : List ℕ) (at : ℕ) (key : Key) (rest : List ℕ) → KeyFits key → drop at xs ≡ key_image key ++ rest → key_at xs at ≡ key
unfolding key_image field
key_reads_back xs at key rest fits is =
    let first : drop at xs ≡ number_bytes 8 key.objectid ++ (key.kind ∷ (number_bytes 8 key.offset ++ rest)) = is in
    let second : drop (at + 8) xs ≡ key.kind ∷ (number_bytes 8 key.offset ++ rest) = behind xs at (at + 8) (number_bytes 8 key.objectid) (key.kind ∷ (number_bytes 8 key.offset ++ rest)) first refl in
    let third : drop (at + 9) xs ≡ number_bytes 8 key.offset ++ rest = behind xs (at + 8) (at + 9) (key.kind ∷ []) (number_bytes 8 key.offset ++ rest) second (omega arith) in
    let kind : field 1 xs (at + 8) ≡ key.kind = rw second (omega arith) in
    same_key (key_at xs at) key (number_reads_back 8 xs at key.objectid (key.kind ∷ (number_bytes 8 key.offset ++ rest)) first fits.objectid) kind (number_reads_back 8 xs (at + 9) key.offset rest third fits.offset)

pub length-key_image : (key : Key) → length (key_image key) ≡ 17
unfolding key_image
length-key_image key = refl

pub length-header_bytes : (header : Header) → length (header_bytes header) ≡ 25
unfolding header_bytes key_image
length-header_bytes header = refl

-- keys and headers of equal parts
pub key_part : (xs ys : List ℕ) (a b : ℕ) → bytes_at 17 xs a ≡ bytes_at 17 ys b → key_at xs a ≡ key_at ys b
key_part xs ys a b same =
    let at_zero : (n : ℕ) → n + 0 ≡ n = λ n. omega arith in
    let first : bytes_at 8 xs a ≡ bytes_at 8 ys b = rw (at_zero a, at_zero b) at (part_within xs ys a b 17 0 8 same (omega arith)) in
    same_key (key_at xs a) (key_at ys b) (field_part 8 xs ys a b first) (field_part 1 xs ys (a + 8) (b + 8) (part_within xs ys a b 17 8 1 same (omega arith))) (field_part 8 xs ys (a + 9) (b + 9) (part_within xs ys a b 17 9 8 same (omega arith)))

make_header : Key → ℕ → ℕ → Header
make_header k o s = record { key = k; offset = o; size = s }

pub same_header : (a b : Header) → a.key ≡ b.key → a.offset ≡ b.offset → a.size ≡ b.size → a ≡ b
unfolding make_header
same_header a b p q r = ap (λ k. make_header k a.offset a.size) p ∙ ap (λ o. make_header b.key o a.size) q ∙ ap (λ s. make_header b.key b.offset s) r

pub header_part : (xs ys : List ℕ) (i j : ℕ) → bytes_at 25 xs (header_at i) ≡ bytes_at 25 ys (header_at j) → header_of xs i ≡ header_of ys j
header_part xs ys i j same =
    let at_zero : (n : ℕ) → n + 0 ≡ n = λ n. omega arith in
    let a = header_at i in
    let b = header_at j in
    let key : bytes_at 17 xs a ≡ bytes_at 17 ys b = rw (at_zero a, at_zero b) at (part_within xs ys a b 25 0 17 same (omega arith)) in
    same_header (header_of xs i) (header_of ys j) (key_part xs ys a b key) (field_part 4 xs ys (a + 17) (b + 17) (part_within xs ys a b 25 17 4 same (omega arith))) (field_part 4 xs ys (a + 21) (b + 21) (part_within xs ys a b 25 21 4 same (omega arith)))

-- a header that is written reads back
pub header_reads_back : (bytes : List ℕ) (i : ℕ) (header : Header) → HeaderFits header → header_at i ≤ length bytes → header_of (with_bytes bytes (header_at i) (header_bytes header)) i ≡ header
unfolding header_bytes
header_reads_back bytes i header fits within =
    let new = with_bytes bytes (header_at i) (header_bytes header) in
    let rest = drop (header_at i + length (header_bytes header)) bytes in
    let sizes = number_bytes 4 header.size ++ rest in
    let whole : drop (header_at i) new ≡ key_image header.key ++ (number_bytes 4 header.offset ++ sizes) =
    drop-with_bytes_here bytes (header_at i) (header_bytes header) within
    ∙ append_assoc (key_image header.key ++ number_bytes 4 header.offset) (number_bytes 4 header.size) rest
    ∙ append_assoc (key_image header.key) (number_bytes 4 header.offset) sizes in
    let after_key : drop (header_at i + 17) new ≡ number_bytes 4 header.offset ++ sizes = behind new (header_at i) (header_at i + 17) (key_image header.key) (number_bytes 4 header.offset ++ sizes) whole (ap (λ n. header_at i + n) (length-key_image header.key)) in
    let after_offset : drop (header_at i + 21) new ≡ sizes = behind new (header_at i + 17) (header_at i + 21) (number_bytes 4 header.offset) sizes after_key (omega arith) in
    same_header (header_of new i) header (key_reads_back new (header_at i) header.key (number_bytes 4 header.offset ++ sizes) fits.key whole)
    (number_reads_back 4 new (header_at i + 17) header.offset sizes after_key (omega (arith, fits.offset))) (number_reads_back 4 new (header_at i + 21) header.size rest after_offset (omega (arith, fits.size)))
