-- One part of the bytes behind another.
use Rattle.std.proofs.Common.{◌≡◌, ◌+◌, ◌-◌, ◌++◌, ℕ, List, min, map, ap, subst, ◌∙◌, arith}
use Rattle.std.specs.List.{range_with_len}
use Rattle.std.specs.Result.{IfOk}
use Rattle.flat_model.specs.Contents.{byte_at, bytes_read}
use Rattle.file_blocks.proofs.Parts.{read_more}
use Rattle.file_blocks.proofs.reading.read.Goals as goal

pub loop-at-preserved : goal.loop-at-preserved
loop-at-preserved c =
    let at = c.loop-at.at in
    let stop = at + c.min.result in (
      λ given file gives there.
          let f = byte_at file.blocks in
          c.in_ok-read_block.ensures given file gives.gives there ∙ ap (λ (xs : List ℕ). xs ++ map f (range_with_len at (stop - at))) (c.loop-at.invariant.0 given file gives there) ∙ read_more f c.args.offset at stop c.loop-at.invariant.1 (omega arith),
      omega (arith, c.loop-at.invariant.1),
      omega (arith, c.loop-at.invariant.2, c.loop-at-test.true, c.min.ensures),
    )

pub returns : goal.returns
unfolding bytes_read
returns c = λ given file gives there.
    let at = c.loop-at.at in
    let size = c.file_size.ensures given file gives there in
    let end : at - c.args.offset ≡ min file.size (c.args.offset + c.args.count) - c.args.offset = omega (arith, size, c.loop-at.invariant.1, c.loop-at.invariant.2, c.loop-at-test.false, c.min-end.ensures, c.saturating_add.ensures) in
    let is : c.as_slice.result.now ≡ bytes_read file c.args.offset c.args.count = c.as_slice.ensures.value ∙ c.loop-at.invariant.0 given file gives there ∙ ap (λ n. map (byte_at file.blocks) (range_with_len c.args.offset n)) end in
    subst (λ (b : List ℕ). IfOk c.new.result (λ text. text ≡ b)) is c.new.ensures
