use Rattle.std.proofs.Common.{arith, ◌≡◌, ◌<◌, ◌≤◌, ℕ, sym, ◌∙◌, true, List, leb}
use Rattle.std.proofs.lemmas.Bool.{or_right, or_left, le-leb}
use Rattle.blk_base.specs.Leaf.{apart_before, are_apart, item_end, item_offset}
use Rattle.foreign_format.proofs.Below.{all_below}
use Rattle.foreign_format.proofs.block.is_apart_above.Goals as goal

-- an item that ends where the earlier ones begin, or below, is apart from them
ends_below : (block : List ℕ) (i lowest : ℕ) → item_end block i ≤ lowest → ((j : ℕ) → j < i → lowest ≤ item_offset block j) → apart_before block i ≡ true
ends_below block i lowest ends above =
    all_below (are_apart block i) i (λ j within.
    let low = above j within in
    or_left _ (leb (item_end block j) (item_offset block i)) (or_right _ (leb (item_end block i) (item_offset block j)) (le-leb _ _ (omega arith))))

pub returns-then-item_offset-item_size : goal.returns-then-item_offset-item_size
returns-then-item_offset-item_size c =
    le-leb _ _ c.if-item_offset-item_size.true
    ∙ sym (ends_below c.args.bytes.now c.args.i c.args.lowest (omega arith) c.requires.above)
