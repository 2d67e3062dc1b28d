use Rattle.std.proofs.Common.{◌≡◌, ◌≤◌, ◌+◌, ◌-◌, arith, ap, ◌∙◌}
use Rattle.blk_base.specs.Leaf.{header_at, item_offset}
use Rattle.leaf_edit.specs.Parts.{front_in_front}
use Rattle.leaf_edit.proofs.shift.lower_headers.Goals as goal

pub lower_offsets-requires-clause-enough : goal.lower_offsets-requires-clause-enough
lower_offsets-requires-clause-enough c i lower upper =
    let back : i - 1 + 1 ≡ i = omega arith in
    let offsets : item_offset c.copy_up.new.block i ≡ item_offset c.args.block.now (i - 1) = rw back at (ap (λ header. header.offset) (c.copy_up.ensures.moved (i - 1) (omega arith) (omega arith))) in
    let enough : c.args.by ≤ item_offset c.args.block.now (i - 1) = c.requires.enough (i - 1) (omega arith) (omega arith) in
    omega arith

pub returns-clause-front : goal.returns-clause-front
returns-clause-front c =
    front_in_front c.lower_offsets.new.block c.args.block.now (header_at (c.args.at + 1)) (header_at c.args.at) (c.lower_offsets.ensures.front ∙ c.copy_up.ensures.front) (omega arith)
