-- Parts of the bytes of a block: what a write leaves, and what fields they hold.
use Rattle.std.proofs.Common.{◌≡◌, ◌≤◌, ◌+◌, ◌-◌, ◌*◌, ℕ, suc, zero, List, ◌++◌, length, take, drop, get_or, refl, ap, arith, ◌∙◌, sym, length-append, length-drop, append_assoc}
use Rattle.std.proofs.lemmas.List.{take-take, drop-drop, drop-take, take-append-le, take_at, drop_at, get_or-take, length-take-le}
use Rattle.std.specs.List.{copy_within}
use Rattle.byteorder.specs.Endian.{little_from}
use Rattle.blk_base.specs.Bytes.{field, bytes_at, with_bytes}

-- a part of equal parts
pub part_within : (xs ys : List ℕ) (a b n k m : ℕ) → bytes_at n xs a ≡ bytes_at n ys b → k + m ≤ n → bytes_at m xs (a + k) ≡ bytes_at m ys (b + k)
part_within xs ys a b n k m same within =
    let inner : (zs : List ℕ) (c : ℕ) → bytes_at m zs (c + k) ≡ drop k (take (k + m) (bytes_at n zs c)) = λ zs c.
    ap (take m) (sym (drop-drop k c zs)) ∙ sym (drop-take k m (drop c zs)) ∙ ap (drop k) (sym (take-take (k + m) n (drop c zs) within)) in
    inner xs a ∙ ap (λ part. drop k (take (k + m) part)) same ∙ sym (inner ys b)

pub part_in_front : (xs ys : List ℕ) (n a m : ℕ) → take n xs ≡ take n ys → a + m ≤ n → bytes_at m xs a ≡ bytes_at m ys a
part_in_front xs ys n a m same within =
    let at_zero : 0 + a ≡ a = omega arith in
    rw at_zero at (part_within xs ys 0 0 n a m same within)

pub front_in_front : (xs ys : List ℕ) (n m : ℕ) → take n xs ≡ take n ys → m ≤ n → take m xs ≡ take m ys
front_in_front xs ys n m same within = sym (take-take m n xs within) ∙ ap (take m) same ∙ take-take m n ys within

pub back_in_back : (xs ys : List ℕ) (a b : ℕ) → drop a xs ≡ drop a ys → a ≤ b → drop b xs ≡ drop b ys
back_in_back xs ys a b same within =
    let split : a + (b - a) ≡ b = omega arith in
    ap (λ n. drop n xs) (sym split) ∙ sym (drop-drop (b - a) a xs) ∙ ap (drop (b - a)) same ∙ drop-drop (b - a) a ys ∙ ap (λ n. drop n ys) split

pub part_in_back : (xs ys : List ℕ) (a b m : ℕ) → drop a xs ≡ drop a ys → a ≤ b → bytes_at m xs b ≡ bytes_at m ys b
part_in_back xs ys a b m same within = ap (take m) (back_in_back xs ys a b same within)

-- a field reads no further than its bytes
little_from-take : (i n m : ℕ) (xs : List ℕ) → i + n ≤ m → little_from i n (take m xs) ≡ little_from i n xs
little_from-take i zero m xs within = refl
little_from-take i (suc n) m xs within =
    ap (λ byte. byte + 256 * little_from (suc i) n (take m xs)) (get_or-take m xs i 0 (omega arith)) ∙ ap (λ rest. get_or xs i 0 + 256 * rest) (little_from-take (suc i) n m xs (omega arith))

pub field_part : (n : ℕ) (xs ys : List ℕ) (a b : ℕ) → bytes_at n xs a ≡ bytes_at n ys b → field n xs a ≡ field n ys b
unfolding field
field_part n xs ys a b same = sym (little_from-take 0 n n (drop a xs) (omega arith)) ∙ ap (little_from 0 n) same ∙ little_from-take 0 n n (drop b ys) (omega arith)

-- what stands in front of a write, in it and behind it
pub take-with_bytes : (bytes : List ℕ) (at : ℕ) (content : List ℕ) (n : ℕ) → n ≤ at → at ≤ length bytes → take n (with_bytes bytes at content) ≡ take n bytes
unfolding with_bytes
take-with_bytes bytes at content n front within =
    let long : length (take at bytes) ≡ at = length-take-le at bytes within in
    take-append-le n (take at bytes ++ content) (drop (at + length content) bytes) (omega (arith, length-append (take at bytes) content))
    ∙ take-append-le n (take at bytes) content (omega arith) ∙ take-take n at bytes front

pub drop-with_bytes : (bytes : List ℕ) (at : ℕ) (content : List ℕ) (n : ℕ) → at + length content ≤ n → at ≤ length bytes → drop n (with_bytes bytes at content) ≡ drop n bytes
unfolding with_bytes
drop-with_bytes bytes at content n behind within =
    let long : length (take at bytes) ≡ at = length-take-le at bytes within in
    let end = at + length content in
    let split : end + (n - end) ≡ n = omega arith in
    let head : length (take at bytes ++ content) ≡ end = length-append (take at bytes) content ∙ ap (λ m. m + length content) long in
    ap (λ m. drop m ((take at bytes ++ content) ++ drop end bytes)) (sym split) ∙ sym (drop-drop (n - end) end ((take at bytes ++ content) ++ drop end bytes))
    ∙ ap (drop (n - end)) (drop_at (take at bytes ++ content) (drop end bytes) end head) ∙ drop-drop (n - end) end bytes ∙ ap (λ m. drop m bytes) split

pub drop-with_bytes_here : (bytes : List ℕ) (at : ℕ) (content : List ℕ) → at ≤ length bytes → drop at (with_bytes bytes at content) ≡ content ++ drop (at + length content) bytes
unfolding with_bytes
drop-with_bytes_here bytes at content within =
    ap (drop at) (append_assoc (take at bytes) content (drop (at + length content) bytes)) ∙ drop_at (take at bytes) (content ++ drop (at + length content) bytes) at (length-take-le at bytes within)

pub part-with_bytes : (bytes : List ℕ) (at : ℕ) (content : List ℕ) → at ≤ length bytes → bytes_at (length content) (with_bytes bytes at content) at ≡ content
part-with_bytes bytes at content within = ap (take (length content)) (drop-with_bytes_here bytes at content within) ∙ take_at content (drop (at + length content) bytes) (length content) refl

pub length-with_bytes : (bytes : List ℕ) (at : ℕ) (content : List ℕ) → at + length content ≤ length bytes → length (with_bytes bytes at content) ≡ length bytes
unfolding with_bytes
length-with_bytes bytes at content within =
    omega (arith, length-append (take at bytes ++ content) (drop (at + length content) bytes), length-append (take at bytes) content, length-take-le at bytes (omega arith), length-drop (at + length content) bytes)

-- two writes, one right behind the other
pub with_bytes-with_bytes : (bytes : List ℕ) (at next : ℕ) (c d : List ℕ) → next ≡ at + length c → at + length c + length d ≤ length bytes
    → with_bytes (with_bytes bytes at c) next d ≡ with_bytes bytes at (c ++ d)
unfolding with_bytes
with_bytes-with_bytes bytes at next c d is within =
    let made = (take at bytes ++ c) ++ drop (at + length c) bytes in
    let long : length (take at bytes) ≡ at = length-take-le at bytes (omega arith) in
    let front : take next made ≡ take at bytes ++ c = take_at (take at bytes ++ c) (drop (at + length c) bytes) next (length-append (take at bytes) c ∙ ap (λ m. m + length c) long ∙ sym is) in
    let back : drop (next + length d) made ≡ drop (next + length d) bytes = drop-with_bytes bytes at c (next + length d) (omega arith) (omega arith) in
    let end : next + length d ≡ at + length (c ++ d) = ap (λ m. m + length d) is ∙ omega (arith, length-append c d) in
    ap (λ head. (head ++ d) ++ drop (next + length d) made) front ∙ ap (λ tail. ((take at bytes ++ c) ++ d) ++ tail) (back ∙ ap (λ m. drop m bytes) end)
    ∙ ap (λ head. head ++ drop (at + length (c ++ d)) bytes) (append_assoc (take at bytes) c d)

pub three_writes : (b0 b1 b2 b3 : List ℕ) (at second third : ℕ) (c d e : List ℕ) → b1 ≡ with_bytes b0 at c → b2 ≡ with_bytes b1 second d → b3 ≡ with_bytes b2 third e
    → second ≡ at + length c → third ≡ at + length c + length d → at + length c + length d + length e ≤ length b0 → b3 ≡ with_bytes b0 at (c ++ d ++ e)
three_writes b0 b1 b2 b3 at second third c d e w1 w2 w3 is2 is3 within =
    let both : b2 ≡ with_bytes b0 at (c ++ d) = w2 ∙ ap (λ b. with_bytes b second d) w1 ∙ with_bytes-with_bytes b0 at second c d is2 (omega arith) in
    let long = length-append c d in
    w3 ∙ ap (λ b. with_bytes b third e) both ∙ with_bytes-with_bytes b0 at third (c ++ d) e (omega arith) (omega arith)

-- a copy inside the bytes is a write of the part that it copies
pub copied : (bytes : List ℕ) (from end to : ℕ) → end ≤ length bytes → copy_within bytes from end to ≡ with_bytes bytes to (bytes_at (end - from) bytes from)
unfolding with_bytes
copied bytes from end to inside =
    let long : length (bytes_at (end - from) bytes from) ≡ end - from = length-take-le (end - from) (drop from bytes) (omega (arith, length-drop from bytes)) in
    ap (λ n. take to bytes ++ bytes_at (end - from) bytes from ++ drop (to + n) bytes) (sym long)
