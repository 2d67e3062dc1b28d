-- Little-endian fields of bytes that others were written over.
use Rattle.std.proofs.Common.{◌≡◌, ◌≤◌, ◌<◌, ◌+◌, ◌-◌, ◌/◌, ◌^◌, true, nat_lt, ◌⊎◌, inl, inr, ℕ, zero, suc, List, [], ◌∷◌, ◌++◌, length, take, drop, refl, ap, ◌∙◌, arith, add-zero, add_assoc, All, get_or}
use Rattle.std.proofs.lemmas.List.{take-append-le, take-take, append-nil, append_assoc, length-append, length-take, length-drop, length-take-le, get_or-drop, get_or-take, get_or_append_left, get_or-append_right, get_or_past, ext_get_or, drop_at, drop-replicate}
use Rattle.std.proofs.lemmas.List.Elements.{All-from_get_or, All-get_or}
use Rattle.std.proofs.lemmas.Nat.{mod_below}
use Rattle.std.specs.Int.{byte_at, bytes_low_first}
use Rattle.std.specs.List.{list_all}
use Rattle.std.proofs.lemmas.Bool.{cases_lt, and_parts, ltb-true}
use Rattle.byteorder.specs.Endian.{little_from}
use Rattle.byteorder.specs.Numbers.{little_from-lt, little_number-reads_back, length-bytes_low_first}
use Rattle.blk_base.specs.Bytes.{IsBytes, field, bytes_at, with_bytes, with_field, number_bytes, zeros}

-- ---- the size of a field

-- the two ways to say it
pub All-from_IsBytes : (bytes : List ℕ) → IsBytes bytes → All (λ byte. byte < 256) bytes
All-from_IsBytes bytes h = All-from_get_or (λ byte. byte < 256) bytes 0 (λ i l. h i)

pub IsBytes-from_All : (bytes : List ℕ) → All (λ byte. byte < 256) bytes → IsBytes bytes
IsBytes-from_All bytes h i = elim (cases_lt i (length bytes)) [
  | inl inside ↦ All-get_or (λ byte. byte < 256) bytes i 0 inside h
  | inr past ↦ rw (get_or_past bytes i 0 past) (omega arith)
]

-- what stands behind a place are bytes too
pub IsBytes-drop : (at : ℕ) (bytes : List ℕ) → IsBytes bytes → IsBytes (drop at bytes)
IsBytes-drop at bytes h i = rw get_or-drop (h (at + i))

-- a field of n bytes is below 256 ^ n
pub field_fits : (n : ℕ) (bytes : List ℕ) (at : ℕ) → IsBytes bytes → field n bytes at < 256 ^ n
unfolding field
field_fits n bytes at h = little_from-lt 0 n (drop at bytes) (IsBytes-drop at bytes h)

-- ---- what is written is read

-- a number of n bytes has n bytes
pub length-number_bytes : (n v : ℕ) → length (number_bytes n v) ≡ n
length-number_bytes n v = length-bytes_low_first 0 n v

-- the number that was written behind p and before q
pub field_between : (n v at : ℕ) (p q : List ℕ) → length p ≡ at → v < 256 ^ n → field n (p ++ number_bytes n v ++ q) at ≡ v
unfolding field
field_between n v at p q e h =
    rw (append_assoc, drop_at p (number_bytes n v ++ q) at e) (little_number-reads_back n v q h)

-- the number that was written at the front
pub field_front : (n v : ℕ) (q : List ℕ) → v < 256 ^ n → field n (number_bytes n v ++ q) 0 ≡ v
unfolding field
field_front n v q h = little_number-reads_back n v q h

-- the number whose bytes stand at a place
pub field_split : (n v at : ℕ) (bytes q : List ℕ) → drop at bytes ≡ number_bytes n v ++ q → v < 256 ^ n → field n bytes at ≡ v
unfolding field
field_split n v at bytes q e h = rw e (little_number-reads_back n v q h)

-- the number that was written alone
pub field_of_number : (n v : ℕ) → v < 256 ^ n → field n (number_bytes n v) 0 ≡ v
field_of_number n v h = rw (append-nil (number_bytes n v)) at (field_front n v [] h)

-- the bytes of a number are bytes
byte_at-fits : (i v : ℕ) → byte_at i v < 256
byte_at-fits zero v = mod_below v 256 (omega arith)
byte_at-fits (suc i) v = mod_below (v / 256 ^ suc i) 256 (omega arith)

bytes_low_first-fit : (j n v i : ℕ) → get_or (bytes_low_first j n v) i 0 < 256
bytes_low_first-fit j zero v i = omega arith
bytes_low_first-fit j (suc n) v zero = byte_at-fits j v
bytes_low_first-fit j (suc n) v (suc i) = bytes_low_first-fit (suc j) n v i

pub IsBytes-number_bytes : (n v : ℕ) → IsBytes (number_bytes n v)
IsBytes-number_bytes n v i = bytes_low_first-fit 0 n v i

-- bytes by a test
pub IsBytes-from_test : (bytes : List ℕ) → list_all (λ b. nat_lt b 256) bytes ≡ true → IsBytes bytes
IsBytes-from_test [] h i = omega arith
IsBytes-from_test (b ∷ bytes) h zero = ltb-true _ _ (and_parts (nat_lt b 256) (list_all (λ c. nat_lt c 256) bytes) h).0
IsBytes-from_test (b ∷ bytes) h (suc i) = IsBytes-from_test bytes (and_parts (nat_lt b 256) (list_all (λ c. nat_lt c 256) bytes) h).1 i

-- ---- zeros

-- each place of zeros is 0, also past their end
pub get_or-zeros : (m i : ℕ) → get_or (zeros m) i 0 ≡ 0
get_or-zeros zero i = refl
get_or-zeros (suc m) zero = refl
get_or-zeros (suc m) (suc i) = get_or-zeros m i

pub IsBytes-zeros : (m : ℕ) → IsBytes (zeros m)
IsBytes-zeros m i = rw (get_or-zeros m i) (omega arith)

little_from-zeros : (i n m : ℕ) → little_from i n (zeros m) ≡ 0
little_from-zeros i zero m = refl
little_from-zeros i (suc n) m = rw (get_or-zeros m i, little_from-zeros (suc i) n m) refl

-- a field of zeros is 0
pub field_of_zeros : (n m at : ℕ) → field n (zeros m) at ≡ 0
unfolding field
field_of_zeros n m at = rw (drop-replicate {X = ℕ} at m 0) (little_from-zeros 0 n (m - at))

-- ---- bytes that are the same

-- the n bytes of b from x on are those of c from y on; a byte past the end counts as 0
pub record SameBytes (n : ℕ) (b : List ℕ) (x : ℕ) (c : List ℕ) (y : ℕ) : Type 0 where
  pub each : (k : ℕ) → k < n → get_or b (x + k) 0 ≡ get_or c (y + k) 0

little_from_same : (i n : ℕ) (b c : List ℕ) → ((k : ℕ) → k < n → get_or b (i + k) 0 ≡ get_or c (i + k) 0) → little_from i n b ≡ little_from i n c
little_from_same i zero b c h = refl
little_from_same i (suc n) b c h =
    let first : get_or b i 0 ≡ get_or c i 0 = rw add-zero at (h 0 (omega arith)) in
    let rest = little_from_same (suc i) n b c (λ k l. let e : suc i + k ≡ i + suc k = omega arith in rw e (h (suc k) (omega arith))) in
    rw (first, rest) refl

-- a field of the same bytes
pub field_same : {n : ℕ} {b : List ℕ} {x : ℕ} {c : List ℕ} {y : ℕ} → SameBytes n b x c y → field n b x ≡ field n c y
unfolding field
field_same {n} {b} {x} {c} {y} s = little_from_same 0 n (drop x b) (drop y c) (λ k l. rw (get_or-drop x b (0 + k) 0, get_or-drop y c (0 + k) 0) (let z : 0 + k ≡ k = omega arith in rw z (s.each k l)))

-- the same bytes, where both lists have them
pub bytes_same : {n : ℕ} {b : List ℕ} {x : ℕ} {c : List ℕ} {y : ℕ} → SameBytes n b x c y → x + n ≤ length b → y + n ≤ length c → bytes_at n b x ≡ bytes_at n c y
bytes_same {n} {b} {x} {c} {y} s hb hc =
    ext_get_or 0 (take n (drop x b)) (take n (drop y c)) (simp (length-take, length-drop) (omega arith))
    (λ k l. let below : k < n = let m = simp (length-take, length-drop) at l in omega arith in
    rw (get_or-take n (drop x b) k 0 below, get_or-take n (drop y c) k 0 below, get_or-drop x b k 0, get_or-drop y c k 0) (s.each k below))

-- fewer of them, further on
pub SameBytes-part : {n : ℕ} {b : List ℕ} {x : ℕ} {c : List ℕ} {y : ℕ} → SameBytes n b x c y → (m d : ℕ) → d + m ≤ n → SameBytes m b (x + d) c (y + d)
SameBytes-part {x = x} {y = y} s m d h = record { each = λ k l. rw (add_assoc x d k, add_assoc y d k) (s.each (d + k) (omega arith)) }

-- ---- bytes written over others

-- the length stays where they fit
pub length-with_bytes : (b : List ℕ) (at : ℕ) (c : List ℕ) → at + length c ≤ length b → length (with_bytes b at c) ≡ length b
unfolding with_bytes
length-with_bytes b at c h = simp (length-append, length-take, length-drop) (omega arith)

-- inside they are those that were written
pub byte_inside : (b : List ℕ) (at : ℕ) (c : List ℕ) (i : ℕ) → at ≤ length b → at ≤ i → i < at + length c → get_or (with_bytes b at c) i 0 ≡ get_or c (i - at) 0
unfolding with_bytes
byte_inside b at c i h l g =
    let front = length-take-le at b h in
    let whole : i < length (take at b ++ c) = simp length-append (omega arith) in
    rw (get_or_append_left (take at b ++ c) (drop (at + length c) b) 0 i whole) (get_or-append_right (take at b) c at i 0 front l)

-- elsewhere they are as before
pub byte_apart : (b : List ℕ) (at : ℕ) (c : List ℕ) (i : ℕ) → at ≤ length b → (i < at) ⊎ (at + length c ≤ i) → get_or (with_bytes b at c) i 0 ≡ get_or b i 0
unfolding with_bytes
byte_apart b at c i h (inl below) =
    let front = length-take-le at b h in
    let whole : i < length (take at b ++ c) = simp length-append (omega arith) in
    rw (get_or_append_left (take at b ++ c) (drop (at + length c) b) 0 i whole, get_or_append_left (take at b) c 0 i (omega arith), get_or-take at b i 0 below) refl
byte_apart b at c i h (inr above) =
    let front = length-take-le at b h in
    let whole : length (take at b ++ c) ≡ at + length c = simp length-append (omega arith) in
    let e : at + length c + (i - (at + length c)) ≡ i = omega arith in
    rw (get_or-append_right (take at b ++ c) (drop (at + length c) b) (at + length c) i 0 whole above, get_or-drop (at + length c) b (i - (at + length c)) 0, e) refl

-- bytes inside of what was written
pub same_inside : (n : ℕ) (b : List ℕ) (at : ℕ) (c : List ℕ) (x : ℕ) → at ≤ length b → at ≤ x → x + n ≤ at + length c → SameBytes n (with_bytes b at c) x c (x - at)
same_inside n b at c x h l g = record {
  each = λ k m.
      let e : x + k - at ≡ x - at + k = omega arith in
      rw (byte_inside b at c (x + k) h (omega arith) (omega arith), e) refl;
}

-- bytes apart from what was written
pub same_apart : (n : ℕ) (b : List ℕ) (at : ℕ) (c : List ℕ) (x : ℕ) → at ≤ length b → (x + n ≤ at) ⊎ (at + length c ≤ x) → SameBytes n (with_bytes b at c) x b x
same_apart n b at c x h (inl below) = record { each = λ k m. byte_apart b at c (x + k) h (inl (omega arith)) }
same_apart n b at c x h (inr above) = record { each = λ k m. byte_apart b at c (x + k) h (inr (omega arith)) }

-- a field inside of what was written
pub field_inside : (n : ℕ) (b : List ℕ) (at : ℕ) (c : List ℕ) (x : ℕ) → at ≤ length b → at ≤ x → x + n ≤ at + length c → field n (with_bytes b at c) x ≡ field n c (x - at)
field_inside n b at c x h l g = field_same (same_inside n b at c x h l g)

-- a field apart from what was written
pub field_apart : (n : ℕ) (b : List ℕ) (at : ℕ) (c : List ℕ) (x : ℕ) → at ≤ length b → (x + n ≤ at) ⊎ (at + length c ≤ x) → field n (with_bytes b at c) x ≡ field n b x
field_apart n b at c x h d = field_same (same_apart n b at c x h d)

-- a field that was written is read back
pub field_written : (n : ℕ) (b : List ℕ) (at v : ℕ) → at ≤ length b → v < 256 ^ n → field n (with_field n b at v) at ≡ v
field_written n b at v h g =
    let e : at - at ≡ 0 = omega arith in
    let l = length-number_bytes n v in
    field_inside n b at (number_bytes n v) at h (omega arith) (omega arith) ∙ ap (field n (number_bytes n v)) e ∙ field_of_number n v g

-- bytes inside of what was written, where they fit
pub bytes_inside : (n : ℕ) (b : List ℕ) (at : ℕ) (c : List ℕ) (x : ℕ) → at + length c ≤ length b → at ≤ x → x + n ≤ at + length c → bytes_at n (with_bytes b at c) x ≡ bytes_at n c (x - at)
bytes_inside n b at c x h l g = bytes_same (same_inside n b at c x (omega arith) l g) (rw (length-with_bytes b at c h) (omega arith)) (omega arith)

-- bytes apart from what was written, where they fit
pub bytes_apart : (n : ℕ) (b : List ℕ) (at : ℕ) (c : List ℕ) (x : ℕ) → at + length c ≤ length b → x + n ≤ length b → (x + n ≤ at) ⊎ (at + length c ≤ x) → bytes_at n (with_bytes b at c) x ≡ bytes_at n b x
bytes_apart n b at c x h g d = bytes_same (same_apart n b at c x (omega arith) d) (rw (length-with_bytes b at c h) (omega arith)) g

-- what stands behind what was written
pub drop-with_bytes : (n : ℕ) (b : List ℕ) (at : ℕ) (c : List ℕ) → at + length c ≤ length b → at + length c ≤ n → drop n (with_bytes b at c) ≡ drop n b
drop-with_bytes n b at c h l =
    ext_get_or 0 (drop n (with_bytes b at c)) (drop n b) (simp (length-drop, length-with_bytes b at c h) refl)
    (λ k m. rw (get_or-drop n (with_bytes b at c) k 0, get_or-drop n b k 0) (byte_apart b at c (n + k) (omega arith) (inr (omega arith))))

-- bytes written over bytes are bytes
pub IsBytes-with_bytes : (b : List ℕ) (at : ℕ) (c : List ℕ) → at ≤ length b → IsBytes b → IsBytes c → IsBytes (with_bytes b at c)
IsBytes-with_bytes b at c h hb hc i = elim (cases_lt i at) [
  | inl below ↦ rw (byte_apart b at c i h (inl below)) (hb i)
  | inr above ↦ elim (cases_lt i (at + length c)) [
    | inl inside ↦ rw (byte_inside b at c i h above inside) (hc (i - at))
    | inr behind ↦ rw (byte_apart b at c i h (inr behind)) (hb i)
  ]
]

-- what stands before what was written
pub take-with_bytes : (n : ℕ) (b : List ℕ) (at : ℕ) (c : List ℕ) → n ≤ at → at ≤ length b → take n (with_bytes b at c) ≡ take n b
unfolding with_bytes
take-with_bytes n b at c h l =
    let front = length-take-le at b l in
    let whole : n ≤ length (take at b ++ c) = simp length-append (omega arith) in
    take-append-le n (take at b ++ c) (drop (at + length c) b) whole ∙ take-append-le n (take at b) c (omega arith) ∙ take-take n at b h
