-- The register is linear in its bits, so a byte, or eight of them, go by tables.
use Rattle.std.proofs.Common.{◌≡◌, ℕ, zero, suc, ◌+◌, ◌*◌, ◌/◌, ◌%◌, ◌^◌, ◌<◌, ◌≤◌, List, [], ◌∷◌, ◌++◌, length, get_or, take, drop, add-one, drop-cons, bit_and, bit_xor, All, refl, sym, ap, ◌∙◌, subst, inl, inr, arith}
use Rattle.std.proofs.Common.{w64}
use Rattle.std.specs.Int.{from_le_bytes, to_le_bytes}
use Rattle.std.proofs.lemmas.Bool.{cases_eq}
use Rattle.std.proofs.lemmas.Nat.{and_mask, xor_comm, xor_lt, xor_shr, xor_mod}
use Rattle.std.proofs.lemmas.List.Elements.{All-drop}
use Rattle.std.proofs.lemmas.List.Sums.{fold-append}
use Rattle.std.proofs.Math.Nat.{pow-suc, mul_assoc}
use Rattle.std.proofs.Math.ListN.{drop_of_length-le}
use Rattle.std.proofs.lemmas.List.{take-append-drop}
use Rattle.std.proofs.lemmas.Grind.{get_or_default_zero}
use lib.Bits.{xor_assoc, xor_zero_r, xor_shifted}
use Rattle.blk_base.specs.Crc.{crc_bit, crc_bits, crc_byte, register_after, crc32c_of, block_sum, name_hash_of, extref_hash_of}

-- ---- laws of exclusive or

xor_middle : (a b c d : ℕ) → bit_xor (bit_xor a b) (bit_xor c d) ≡ bit_xor (bit_xor a c) (bit_xor b d)
xor_middle a b c d =
    xor_assoc a b (bit_xor c d)
    ∙ ap (bit_xor a) (sym (xor_assoc b c d) ∙ ap (λ x. bit_xor x d) (xor_comm b c) ∙ xor_assoc c b d)
    ∙ sym (xor_assoc a c (bit_xor b d))

-- ---- one bit is linear

-- what the low bit adds
tap : ℕ → ℕ
tap zero = 0
tap (suc n) = 0x82F6_3B78

bit_by_tap : (r : ℕ) → crc_bit r ≡ bit_xor (r / 2) (tap (r % 2))
unfolding crc_bit tap
bit_by_tap r =
    elim (cases_eq (r % 2) 1) [
      | inl one ↦ rw one refl
      | inr other ↦ let none : r % 2 ≡ 0 = omega arith in rw none (sym (xor_zero_r (r / 2)))
    ]

tap_xor : (a b : ℕ) → a < 2 → b < 2 → tap (bit_xor a b) ≡ bit_xor (tap a) (tap b)
unfolding tap
tap_xor zero b ha hb = refl
tap_xor (suc zero) zero ha hb = refl
tap_xor (suc zero) (suc zero) ha hb = refl
tap_xor (suc zero) (suc (suc b)) ha hb = absurd (omega arith)
tap_xor (suc (suc a)) b ha hb = absurd (omega arith)

pub bit_xor_linear : (a b : ℕ) → crc_bit (bit_xor a b) ≡ bit_xor (crc_bit a) (crc_bit b)
bit_xor_linear a b =
    bit_by_tap (bit_xor a b)
    ∙ ap (λ x. bit_xor x (tap (bit_xor a b % 2))) (xor_shr a b 1)
    ∙ ap (λ x. bit_xor (bit_xor (a / 2) (b / 2)) (tap x)) (xor_mod a b 1)
    ∙ ap (bit_xor (bit_xor (a / 2) (b / 2))) (tap_xor (a % 2) (b % 2) (omega arith) (omega arith))
    ∙ xor_middle (a / 2) (b / 2) (tap (a % 2)) (tap (b % 2))
    ∙ ap (bit_xor (bit_xor (a / 2) (tap (a % 2)))) (sym (bit_by_tap b))
    ∙ ap (λ x. bit_xor x (crc_bit b)) (sym (bit_by_tap a))

-- ---- so are several

pub bits_linear : (n a b : ℕ) → crc_bits n (bit_xor a b) ≡ bit_xor (crc_bits n a) (crc_bits n b)
unfolding crc_bits
bits_linear zero a b = refl
bits_linear (suc n) a b = ap (crc_bits n) (bit_xor_linear a b) ∙ bits_linear n (crc_bit a) (crc_bit b)

pub bits_join : (m n r : ℕ) → crc_bits (m + n) r ≡ crc_bits n (crc_bits m r)
unfolding crc_bits
bits_join zero n r = let e : zero + n ≡ n = omega arith in ap (λ k. crc_bits k r) e
bits_join (suc m) n r = let e : suc m + n ≡ suc (m + n) = omega arith in ap (λ k. crc_bits k r) e ∙ bits_join m n (crc_bit r)

zero_tap : (x : ℕ) → bit_xor x (tap 0) ≡ x
unfolding tap
zero_tap x = xor_zero_r x

bit_shifted : (x : ℕ) → crc_bit (x * 2) ≡ x
bit_shifted x =
    let half : x * 2 / 2 ≡ x = omega arith in
    let even : x * 2 % 2 ≡ 0 = omega arith in
    bit_by_tap (x * 2) ∙ ap (λ k. bit_xor (x * 2 / 2) (tap k)) even ∙ zero_tap (x * 2 / 2) ∙ half

-- the low bits fall out of a shifted number, and change nothing
pub bits_shifted : (n x : ℕ) → crc_bits n (x * 2 ^ n) ≡ x
unfolding crc_bits
bits_shifted zero x = let e : x * 2 ^ 0 ≡ x = omega arith in e
bits_shifted (suc n) x =
    ap (λ k. crc_bits n (crc_bit k)) (ap (λ k. x * k) (pow-suc 2 n) ∙ sym (mul_assoc x (2 ^ n) 2)) ∙ ap (crc_bits n) (bit_shifted (x * 2 ^ n)) ∙ bits_shifted n x

-- ---- a byte

-- what is above the low byte goes down by one place, and the low byte goes by the table
pub byte_by_table : (r : ℕ) → crc_bits 8 r ≡ bit_xor (crc_bits 8 (r % 256)) (r / 256)
byte_by_table r =
    let parts : r ≡ r / 256 * 2 ^ 8 + r % 256 = omega arith in
    let low : r % 256 < 2 ^ 8 = omega arith in
    ap (crc_bits 8) (parts ∙ sym (xor_shifted (r / 256) 8 (r % 256) low))
    ∙ bits_linear 8 (r / 256 * 2 ^ 8) (r % 256)
    ∙ ap (λ x. bit_xor x (crc_bits 8 (r % 256))) (bits_shifted 8 (r / 256))
    ∙ xor_comm (r / 256) (crc_bits 8 (r % 256))

byte_above : (r b : ℕ) → b < 256 → bit_xor r b / 256 ≡ r / 256
byte_above r b h =
    let none : b / 256 ≡ 0 = omega arith in
    xor_shr r b 8 ∙ ap (bit_xor (r / 256)) none ∙ xor_zero_r (r / 256)

pub crc_byte_by_table : (r b : ℕ) → b < 256 → crc_byte r b ≡ bit_xor (crc_byte 0 (bit_xor r b % 256)) (r / 256)
unfolding crc_byte
crc_byte_by_table r b h =
    byte_by_table (bit_xor r b) ∙ ap (bit_xor (crc_bits 8 (bit_xor r b % 256))) (byte_above r b h)

-- ---- the register after several bytes

pub register_after-append : (start : ℕ) (xs ys : List ℕ) → register_after start (xs ++ ys) ≡ register_after (register_after start xs) ys
unfolding register_after
register_after-append start xs ys = fold-append crc_byte start xs ys

tap_fits : (n : ℕ) → tap n < 2 ^ 32
unfolding tap
tap_fits zero = omega arith
tap_fits (suc n) = omega arith

bit_fits : (r : ℕ) → r < 2 ^ 32 → crc_bit r < 2 ^ 32
bit_fits r h = let half : r / 2 < 2 ^ 32 = omega arith in rw (bit_by_tap r) (xor_lt 32 (r / 2) (tap (r % 2)) half (tap_fits (r % 2)))

bits_fit : (n r : ℕ) → r < 2 ^ 32 → crc_bits n r < 2 ^ 32
unfolding crc_bits
bits_fit zero r h = h
bits_fit (suc n) r h = bits_fit n (crc_bit r) (bit_fits r h)

byte_fits : (r b : ℕ) → r < 2 ^ 32 → b < 256 → crc_byte r b < 2 ^ 32
unfolding crc_byte
byte_fits r b h k = let wide : b < 2 ^ 32 = omega arith in bits_fit 8 (bit_xor r b) (xor_lt 32 r b h wide)

head_below : (x : ℕ) (xs : List ℕ) → All (λ b. b < 256) (x ∷ xs) → x < 256
head_below x xs h = h 0 0 (omega arith)

tail_below : (x : ℕ) (xs : List ℕ) → All (λ b. b < 256) (x ∷ xs) → All (λ b. b < 256) xs
tail_below x xs h k d lt = h (suc k) d (omega arith)

pub register_after-fits : (start : ℕ) (bytes : List ℕ) → start < 2 ^ 32 → All (λ b. b < 256) bytes → register_after start bytes < 2 ^ 32
unfolding register_after
register_after-fits start [] h all = h
register_after-fits start (x ∷ xs) h all =
    register_after-fits (crc_byte start x) xs (byte_fits start x h (head_below x xs all)) (tail_below x xs all)

-- ---- several bytes as one number

-- the number that these bytes spell, low byte first
unfoldable pub worth : List ℕ → ℕ
worth [] = 0
worth (x ∷ xs) = worth xs * 256 + x

none_left : (r start : ℕ) → r ≡ start → start ≡ crc_bits (8 * 0) r
unfolding crc_bits
none_left r start e = sym e

eight_more : (n : ℕ) → 8 + 8 * n ≡ 8 * suc n
eight_more n = omega arith

first_in : (start rest x : ℕ) → x < 256 → bit_xor (crc_byte start x) rest ≡ crc_bits 8 (bit_xor start (rest * 256 + x))
unfolding crc_byte
first_in start rest x h =
    ap (bit_xor (crc_bits 8 (bit_xor start x))) (sym (bits_shifted 8 rest))
    ∙ sym (bits_linear 8 (bit_xor start x) (rest * 2 ^ 8))
    ∙ ap (crc_bits 8) (xor_assoc start x (rest * 2 ^ 8) ∙ ap (bit_xor start) (xor_comm x (rest * 2 ^ 8) ∙ xor_shifted rest 8 x h))

pub register_by_worth : (start : ℕ) (bytes : List ℕ) → All (λ b. b < 256) bytes → register_after start bytes ≡ crc_bits (8 * length bytes) (bit_xor start (worth bytes))
unfolding register_after worth
register_by_worth start [] all = none_left (bit_xor start 0) start (xor_zero_r start)
register_by_worth start (x ∷ xs) all =
    register_by_worth (crc_byte start x) xs (tail_below x xs all)
    ∙ ap (crc_bits (8 * length xs)) (first_in start (worth xs) x (head_below x xs all))
    ∙ sym (bits_join 8 (8 * length xs) (bit_xor start (worth xs * 256 + x)))
    ∙ ap (λ k. crc_bits k (bit_xor start (worth xs * 256 + x))) (eight_more (length xs))

-- eight bytes as the number that `from_le_bytes` makes of them
worth_of_eight : (bytes : List ℕ) → length bytes ≡ 8 → from_le_bytes w64 bytes ≡ worth bytes
unfolding worth
worth_of_eight [] e = absurd (omega arith)
worth_of_eight (a ∷ []) e = absurd (omega arith)
worth_of_eight (a ∷ b ∷ []) e = absurd (omega arith)
worth_of_eight (a ∷ b ∷ c ∷ []) e = absurd (omega arith)
worth_of_eight (a ∷ b ∷ c ∷ d ∷ []) e = absurd (omega arith)
worth_of_eight (a ∷ b ∷ c ∷ d ∷ f ∷ []) e = absurd (omega arith)
worth_of_eight (a ∷ b ∷ c ∷ d ∷ f ∷ g ∷ []) e = absurd (omega arith)
worth_of_eight (a ∷ b ∷ c ∷ d ∷ f ∷ g ∷ h ∷ []) e = absurd (omega arith)
worth_of_eight (a ∷ b ∷ c ∷ d ∷ f ∷ g ∷ h ∷ i ∷ []) e = omega arith
worth_of_eight (a ∷ b ∷ c ∷ d ∷ f ∷ g ∷ h ∷ i ∷ j ∷ xs) e = absurd (omega arith)

-- ---- the bits of a number, byte by byte

low_apart : (k m rest : ℕ) → m / 256 ≡ rest → crc_bits (8 + k) m ≡ bit_xor (crc_bits (8 + k) (m % 256)) (crc_bits k rest)
low_apart k m rest e =
    bits_join 8 k m
    ∙ ap (crc_bits k) (byte_by_table m)
    ∙ bits_linear k (crc_bits 8 (m % 256)) (m / 256)
    ∙ ap (λ x. bit_xor x (crc_bits k (m / 256))) (sym (bits_join 8 k (m % 256)))
    ∙ ap (λ x. bit_xor (crc_bits (8 + k) (m % 256)) (crc_bits k x)) e

low_apart_after : (others k m rest : ℕ) → m / 256 ≡ rest → bit_xor others (crc_bits (8 + k) m) ≡ bit_xor (bit_xor others (crc_bits (8 + k) (m % 256))) (crc_bits k rest)
low_apart_after others k m rest e =
    ap (bit_xor others) (low_apart k m rest e) ∙ sym (xor_assoc others (crc_bits (8 + k) (m % 256)) (crc_bits k rest))

last_low : (others m : ℕ) → m < 256 → bit_xor others (crc_bits 8 m) ≡ bit_xor others (crc_bits 8 (m % 256))
last_low others m h = let same : m ≡ m % 256 = omega arith in ap (λ x. bit_xor others (crc_bits 8 x)) same

-- 64 bits by the eight bytes of a number
pub eight_apart : (n : ℕ) → n < 2 ^ 64
    → crc_bits 64 n
    ≡ bit_xor (bit_xor (bit_xor (bit_xor (bit_xor (bit_xor (bit_xor (crc_bits 64 (n % 256)) (crc_bits 56 (n / 256 % 256))) (crc_bits 48 (n / 256 ^ 2 % 256))) (crc_bits 40 (n / 256 ^ 3 % 256))) (crc_bits 32 (n / 256 ^ 4 % 256))) (crc_bits 24 (n / 256 ^ 5 % 256))) (crc_bits 16 (n / 256 ^ 6 % 256))) (crc_bits 8 (n / 256 ^ 7 % 256))
eight_apart n h =
    low_apart 56 n (n / 256) refl
    ∙ low_apart_after _ 48 (n / 256) (n / 256 ^ 2) (omega arith)
    ∙ low_apart_after _ 40 (n / 256 ^ 2) (n / 256 ^ 3) (omega arith)
    ∙ low_apart_after _ 32 (n / 256 ^ 3) (n / 256 ^ 4) (omega arith)
    ∙ low_apart_after _ 24 (n / 256 ^ 4) (n / 256 ^ 5) (omega arith)
    ∙ low_apart_after _ 16 (n / 256 ^ 5) (n / 256 ^ 6) (omega arith)
    ∙ low_apart_after _ 8 (n / 256 ^ 6) (n / 256 ^ 7) (omega arith)
    ∙ last_low _ (n / 256 ^ 7) (omega arith)

register_by_eight : (start : ℕ) (bytes : List ℕ) (n : ℕ) → length bytes ≡ 8 → All (λ b. b < 256) bytes → n ≡ bit_xor (from_le_bytes w64 bytes) start → register_after start bytes ≡ crc_bits 64 n
register_by_eight start bytes n e all is =
    register_by_worth start bytes all
    ∙ ap (λ k. crc_bits (8 * k) (bit_xor start (worth bytes))) e
    ∙ ap (crc_bits 64) (xor_comm start (worth bytes) ∙ ap (λ x. bit_xor x start) (sym (worth_of_eight bytes e)) ∙ sym is)

-- ---- what the code does

pub one_by_table : (r b : ℕ) → b < 256 → bit_xor (crc_bits 8 (bit_xor (bit_and r 255) b)) (r / 256) ≡ crc_byte r b
unfolding crc_byte
one_by_table r b h =
    let small : b ≡ b % 256 = omega arith in
    ap (λ x. bit_xor (crc_bits 8 x) (r / 256))
    (ap (λ x. bit_xor x b) (and_mask r 8) ∙ ap (bit_xor (r % 256)) small ∙ sym (xor_mod r b 8))
    ∙ sym (crc_byte_by_table r b h)

pub eight_by_tables : (start : ℕ) (bytes : List ℕ) (n : ℕ) (parts : List ℕ) → length bytes ≡ 8 → All (λ b. b < 256) bytes → n ≡ bit_xor (from_le_bytes w64 bytes) start → n < 2 ^ 64 → parts ≡ to_le_bytes w64 n
    → bit_xor (bit_xor (bit_xor (bit_xor (bit_xor (bit_xor (bit_xor (crc_bits 64 (get_or parts 0 0)) (crc_bits 56 (get_or parts 1 0))) (crc_bits 48 (get_or parts 2 0))) (crc_bits 40 (get_or parts 3 0))) (crc_bits 32 (get_or parts 4 0))) (crc_bits 24 (get_or parts 5 0))) (crc_bits 16 (get_or parts 6 0))) (crc_bits 8 (get_or parts 7 0))
    ≡ register_after start bytes
eight_by_tables start bytes n parts e all is fits bytes_of =
    rw bytes_of (sym (eight_apart n fits) ∙ sym (register_by_eight start bytes n e all is))

pub all_below : (xs : List ℕ) → ((k : ℕ) → get_or xs k 0 < 256) → All (λ b. b < 256) xs
all_below xs h k d lt = subst (λ x. x < 256) (sym (get_or_default_zero xs k d lt)) (h k)

pub register_after-split : (start n : ℕ) (xs : List ℕ) → register_after (register_after start (take n xs)) (drop n xs) ≡ register_after start xs
register_after-split start n xs = sym (register_after-append start (take n xs) (drop n xs)) ∙ ap (register_after start) (take-append-drop n xs)

pub register_after-next : (start i : ℕ) (xs : List ℕ) → i < length xs → register_after (crc_byte start (get_or xs i 0)) (drop (i + 1) xs) ≡ register_after start (drop i xs)
unfolding register_after
register_after-next start i xs h = rw (add-one, drop-cons xs i 0) refl

pub register_after-end : (start i : ℕ) (xs : List ℕ) → length xs ≤ i → register_after start (drop i xs) ≡ start
unfolding register_after
register_after-end start i xs h = rw (drop_of_length-le xs h) refl

-- ---- sums and hashes have 32 bits

pub crc32c_of-fits : (bytes : List ℕ) → All (λ b. b < 256) bytes → crc32c_of bytes < 2 ^ 32
unfolding crc32c_of
crc32c_of-fits bytes h =
    xor_lt 32 (register_after 0xFFFF_FFFF bytes) 0xFFFF_FFFF (register_after-fits 0xFFFF_FFFF bytes (omega arith) h) (omega arith)

pub block_sum-fits : (bytes : List ℕ) → All (λ b. b < 256) bytes → block_sum bytes < 2 ^ 32
unfolding block_sum
block_sum-fits bytes h = crc32c_of-fits (drop 32 bytes) (All-drop (λ b. b < 256) 32 bytes h)

pub name_hash_of-fits : (name : List ℕ) → All (λ b. b < 256) name → name_hash_of name < 2 ^ 32
unfolding name_hash_of
name_hash_of-fits name h = register_after-fits 0xFFFF_FFFE name (omega arith) h

pub extref_hash_of-fits : (parent : ℕ) (name : List ℕ) → All (λ b. b < 256) name → extref_hash_of parent name < 2 ^ 32
unfolding extref_hash_of
extref_hash_of-fits parent name h = register_after-fits (parent % 2 ^ 32) name (omega arith) h
