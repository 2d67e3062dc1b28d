use Rattle.std.proofs.Common.{refl, arith}
use Rattle.std.proofs.lemmas.List.{same_lists}
use Rattle.flat_record.proofs.block_limits.are_same.Goals as goal

pub returns : goal.returns
returns c =
    let one = c.args.one.now.items in
    let two = c.args.two.now.items in
    (λ _. same_lists one two (omega (arith, c.if-len.false, c.len.ensures, c.len-2.ensures, c.args.one.now.ok.0, c.args.two.now.ok.0)) (λ k d low. c.loop-place.invariant k d (omega (arith, low, c.loop-place-test.false, c.len-place-end.ensures, c.args.one.now.ok.0))), λ _. refl)
