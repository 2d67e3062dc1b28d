-- Little-endian fields: what they read of what was spelled, and how they spell what they read.
use Rattle.std.proofs.Common.{◌≡◌, ℕ, suc, zero, ◌+◌, ◌*◌, ◌<◌, ◌≤◌, ◌^◌, ◌/◌, ◌%◌, List, [], ◌∷◌, ◌++◌, length, take, drop, refl, ap, sym, ◌∙◌, arith, append_assoc, length-append}
use Rattle.std.proofs.Math.Nat.{div-div-eq-div-mul, pow-succ'}
use Rattle.std.proofs.Math.Seq.{take-add}
use Rattle.std.proofs.lemmas.List.{take-append-drop, take_at, drop_at, get_or-drop, length-drop, length-take-le}
use Rattle.std.specs.Int.{byte_at, bytes_low_first}
use Rattle.byteorder.specs.Endian.{little_from}
use Rattle.byteorder.specs.Numbers.{little_from-cons, little_from-lt, little_number-reads_back}
use Rattle.blk_base.specs.Bytes.{IsBytes, field, bytes_at, number_bytes}

byte_shift : (j x : ℕ) → byte_at (suc j) x ≡ byte_at j (x / 256)
byte_shift zero x = refl
byte_shift (suc j) x = ap (λ (p : ℕ). x / p % 256) (pow-succ' 256 (suc j)) ∙ ap (λ (q : ℕ). q % 256) (sym (div-div-eq-div-mul x 256 (256 ^ suc j)))

bytes_shift : (k j x : ℕ) → bytes_low_first (suc j) k x ≡ bytes_low_first j k (x / 256)
bytes_shift zero j x = refl
bytes_shift (suc k) j x = rw (byte_shift j x, bytes_shift k (suc j) x) refl

-- a number of n bytes is spelled by them
pub number_spelling : (n : ℕ) (bytes : List ℕ) → IsBytes bytes → n ≤ length bytes → bytes_low_first 0 n (little_from 0 n bytes) ≡ take n bytes
number_spelling zero bytes b h = refl
number_spelling (suc n) [] b h = absurd (omega arith)
number_spelling (suc n) (x ∷ bytes) b h =
    let byte : x < 256 = b 0 in
    let rest = little_from 0 n bytes in
    let whole : little_from 0 (suc n) (x ∷ bytes) ≡ x + 256 * rest = ap (λ (r : ℕ). x + 256 * r) (little_from-cons 0 n x bytes) in
    let low : (x + 256 * rest) % 256 ≡ x = omega arith in
    let high : (x + 256 * rest) / 256 ≡ rest = omega arith in
    let behind = number_spelling n bytes (λ i. b (suc i)) (omega arith) in
    ap (bytes_low_first 0 (suc n)) whole ∙ rw (bytes_shift n 0 (x + 256 * rest), low, high, behind) refl

-- the bytes behind a place are bytes
pub IsBytes-drop : (n : ℕ) (bytes : List ℕ) → IsBytes bytes → IsBytes (drop n bytes)
IsBytes-drop n bytes b i = let e = get_or-drop n bytes i 0 in omega (arith, e, b (n + i))

-- a field of n bytes is below 256 ^ n
pub field-fits : (n : ℕ) (bytes : List ℕ) (at : ℕ) → IsBytes bytes → field n bytes at < 256 ^ n
unfolding field
field-fits n bytes at b = little_from-lt 0 n (drop at bytes) (IsBytes-drop at bytes b)

-- The front of the bytes, up to a place, as a spelling.
pub record IsFront (bytes front : List ℕ) (at : ℕ) : Type 0 where
  pub is : front ≡ take at bytes
  pub room : at ≤ length bytes

pub front_none : (bytes : List ℕ) → IsFront bytes [] 0
front_none bytes = record { is = refl; room = omega arith }

pub front_bytes : {bytes front : List ℕ} {at : ℕ} (n : ℕ) → IsFront bytes front at → at + n ≤ length bytes → IsFront bytes (front ++ bytes_at n bytes at) (at + n)
front_bytes {bytes} {front} {at} n f h = record { is = ap (λ (b : List ℕ). b ++ bytes_at n bytes at) f.is ∙ sym (take-add at n bytes); room = h }

pub front_field : {bytes front : List ℕ} {at : ℕ} (n : ℕ) → IsBytes bytes → IsFront bytes front at → at + n ≤ length bytes → IsFront bytes (front ++ number_bytes n (field n bytes at)) (at + n)
unfolding field
front_field {bytes} {front} {at} n b f h =
    let room : n ≤ length (drop at bytes) = let e = length-drop at bytes in omega (arith, e) in
    let same = number_spelling n (drop at bytes) (IsBytes-drop at bytes b) room in
    record { is = rw same (front_bytes n f h).is; room = h }

pub front_all : {bytes front : List ℕ} {at : ℕ} → IsFront bytes front at → bytes ≡ front ++ drop at bytes
front_all {bytes} {front} {at} f = sym (ap (λ (b : List ℕ). b ++ drop at bytes) f.is ∙ take-append-drop at bytes)

-- The bytes as a front of a known length, and the rest.
pub record Begins (bytes front rest : List ℕ) (at : ℕ) : Type 0 where
  pub is : bytes ≡ front ++ rest
  pub size : length front ≡ at

pub begins_less : {bytes rest : List ℕ} {at : ℕ} (front middle : List ℕ) (before : ℕ) → Begins bytes (front ++ middle) rest at → length front ≡ before → Begins bytes front (middle ++ rest) before
begins_less {bytes} {rest} {at} front middle before b e = record { is = b.is ∙ append_assoc front middle rest; size = e }

pub begins_drop : {bytes front rest : List ℕ} {at : ℕ} → Begins bytes front rest at → drop at bytes ≡ rest
begins_drop {bytes} {front} {rest} {at} b = ap (drop at) b.is ∙ drop_at front rest at b.size

pub begins_length : {bytes front rest : List ℕ} {at : ℕ} → Begins bytes front rest at → length bytes ≡ at + length rest
begins_length {bytes} {front} {rest} {at} b = ap length b.is ∙ length-append front rest ∙ ap (λ (n : ℕ). n + length rest) b.size

pub begins_field : {bytes front : List ℕ} {at : ℕ} (n value : ℕ) (rest : List ℕ) → Begins bytes front (number_bytes n value ++ rest) at → value < 256 ^ n → field n bytes at ≡ value
unfolding field
begins_field {bytes} {front} {at} n value rest b h = ap (little_from 0 n) (begins_drop b) ∙ little_number-reads_back n value rest h

pub begins_bytes : {bytes front : List ℕ} {at : ℕ} (n : ℕ) (content rest : List ℕ) → Begins bytes front (content ++ rest) at → length content ≡ n → bytes_at n bytes at ≡ content
begins_bytes {bytes} {front} {at} n content rest b h = ap (take n) (begins_drop b) ∙ take_at content rest n h

-- the length of a part of the bytes
pub length-bytes_at : (n : ℕ) (bytes : List ℕ) (at : ℕ) → at + n ≤ length bytes → length (bytes_at n bytes at) ≡ n
length-bytes_at n bytes at h = length-take-le n (drop at bytes) (let e = length-drop at bytes in omega (arith, e))
