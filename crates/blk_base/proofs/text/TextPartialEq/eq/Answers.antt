use Rattle.std.proofs.Common.{◌≡◌, ◌<◌, ℕ, List, true, length, get_or, bytes_eq, sym, arith}
use Rattle.std.proofs.lemmas.Slice.Eq.{bytes_eq-Decides}
use Rattle.std.proofs.lemmas.Grind.{same_number_lists}
use Rattle.blk_base.proofs.text.TextPartialEq.eq.Goals as goal

same_from_reads : (xs ys : List ℕ) → length xs ≡ length ys → ((k : ℕ) → k < length xs → get_or xs k 0 ≡ get_or ys k 0) → true ≡ bytes_eq xs ys
same_from_reads xs ys e h = sym ((bytes_eq-Decides xs ys).1 (same_number_lists xs ys e h))

pub returns : goal.returns
returns c =
    let whole : length c.args.self.now ≡ c.len-place-end.result = sym c.len-place-end.ensures.value in
    let one = c.len.ensures.value in
    let two = c.len-2.ensures.value in
    same_from_reads c.args.self.now c.args.other.now (omega arith) (λ k h. c.loop-place.invariant k (omega arith))
