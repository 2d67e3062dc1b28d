-- Bytes written over the front of others.
use Rattle.std.proofs.Common.{◌≡◌, ◌≤◌, ◌+◌, ◌-◌, ◌∙◌, ℕ, List, ◌++◌, length, take, drop, sym, ap, arith, length-append, length-take, length-drop}
use Rattle.std.proofs.Math.Seq.{take-append_seam, take-length}
use Rattle.blk_base.specs.Bytes.{with_bytes}

-- the front of what was written
pub written_front : (old content : List ℕ) (at end : ℕ) → at + length content ≤ length old → end ≡ at + length content → take end (with_bytes old at content) ≡ take at old ++ content
unfolding with_bytes
written_front old content at end room is =
    let front : List ℕ = take at old ++ content in
    let size : length front ≡ end = length-append (take at old) content ∙ omega (arith, length-take at old, is, room) in
    ap (λ (n : ℕ). take n (front ++ drop (at + length content) old)) (sym size) ∙ take-append_seam front (drop (at + length content) old)

-- all that stands behind a place
pub take_rest : (n : ℕ) (bytes : List ℕ) → take (length bytes - n) (drop n bytes) ≡ drop n bytes
take_rest n bytes =
    ap (λ (k : ℕ). take k (drop n bytes)) (sym (length-drop n bytes)) ∙ take-length (drop n bytes)

-- what a copy of a whole has at its front
pub copied_front : (old content : List ℕ) → length content ≤ length old → take (length content) (with_bytes old 0 content) ≡ content
copied_front old content room = written_front old content 0 (length content) (omega (arith, room)) (omega arith)

length_written : (old first : List ℕ) → length first ≤ length old → length (with_bytes old 0 first) ≡ length old
unfolding with_bytes
length_written old first room =
    length-append (take 0 old ++ first) (drop (0 + length first) old) ∙ omega (arith, length-append (take 0 old) first, length-take 0 old, length-drop (0 + length first) old, room)

-- the same of two parts, the second written behind the first
pub joined_front : (old first second : List ℕ) (from end : ℕ) → length first ≡ from → from + length second ≤ length old → end ≡ from + length second → take end (with_bytes (with_bytes old 0 first) from second) ≡ first ++ second
joined_front old first second from end size room is =
    let front : take from (with_bytes old 0 first) ≡ first = written_front old first 0 from (omega (arith, size, room)) (omega (arith, size)) in
    written_front (with_bytes old 0 first) second from end (omega (arith, room, length_written old first (omega (arith, size, room)))) is ∙ ap (λ (l : List ℕ). l ++ second) front
