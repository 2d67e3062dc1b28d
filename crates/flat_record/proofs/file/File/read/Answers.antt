use Rattle.std.proofs.Common.{◌≡◌, ◌+◌, ◌-◌, ◌++◌, min, map, ap, subst, ◌∙◌, arith}
use Rattle.std.specs.FinMap.{from_entries}
use Rattle.std.specs.List.{range_with_len}
use Rattle.std.specs.Result.{IfOk}
use Rattle.flat_model.specs.Contents.{byte_at, bytes_read}
use Rattle.flat_record.specs.SizedBlocks.{file_of}
use Rattle.flat_record.proofs.Files.{read_more, read_is}
use Rattle.flat_record.proofs.file.File.read.Goals as goal

pub loop-at-preserved : goal.loop-at-preserved
loop-at-preserved c =
    let f = byte_at (from_entries c.self.inside.blocks.items) in
    let at = c.loop-at.at in
    let stop = at + c.min.result in (
      c.in_ok-read_block.ensures ∙ ap (λ xs. xs ++ map f (range_with_len at (stop - at))) c.loop-at.invariant.0 ∙ read_more f c.args.offset at stop c.loop-at.invariant.1 (omega arith),
      omega (arith, c.loop-at.invariant.1),
      omega (arith, c.loop-at.invariant.2, c.loop-at-test.true, c.min.ensures),
    )

pub returns : goal.returns
returns c = λ attributes.
    let inside = c.self.inside in
    let blocks = from_entries inside.blocks.items in
    let at = c.loop-at.at in
    let end : at - c.args.offset ≡ min inside.size (c.args.offset + c.args.count) - c.args.offset = omega (arith, c.loop-at.invariant.1, c.loop-at.invariant.2, c.loop-at-test.false, c.min-end.ensures, c.saturating_add.ensures) in
    let is = c.as_slice.ensures.value ∙ c.loop-at.invariant.0 ∙ ap (λ n. map (byte_at blocks) (range_with_len c.args.offset n)) end ∙ read_is attributes (record { size = inside.size; blocks = blocks }) c.args.offset c.args.count ∙ ap (λ s. bytes_read (file_of attributes s) c.args.offset c.args.count) c.self.view_is in
    subst (λ b. IfOk c.new.result (λ text. text ≡ b)) is c.new.ensures
