use Rattle.std.proofs.Common.{◌≡◌, ◌*◌, map, length, ap, ◌∙◌, arith}
use Rattle.std.specs.FinMap.{from_entries}
use Rattle.std.specs.List.{range_with_len}
use Rattle.std.proofs.lemmas.List.FromFn.{length-map-range_with_len}
use Rattle.flat_model.specs.Contents.{byte_written}
use Rattle.flat_record.proofs.Files.{map_push}
use Rattle.flat_record.proofs.blocks.written_block.Goals as goal

pub loop-at-preserved : goal.loop-at-preserved
loop-at-preserved c =
    let blocks = c.args.blocks.now.items in
    c.in_ok-push.ensures.items ∙ map_push (byte_written (from_entries blocks) c.args.offset c.args.text.now) (c.args.number * 4096) c.loop-at.at c.loop-at.bytes.items c.written_byte.result c.loop-at.invariant (c.written_byte.ensures (from_entries blocks) c.block_at-before.ensures)

pub new-requires : goal.new-requires
new-requires c =
    let blocks = c.args.blocks.now.items in
    omega (arith, ap length c.loop-at.invariant, length-map-range_with_len (byte_written (from_entries blocks) c.args.offset c.args.text.now) (c.args.number * 4096) c.loop-at.at, c.loop-at-test.false, c.loop-at.auto.at-end, c.loop-at.bytes.ok.0)

pub returns : goal.returns
returns c =
    let blocks = c.args.blocks.now.items in
    let last : c.loop-at.at ≡ 4096 = omega (arith, c.loop-at-test.false, c.loop-at.auto.at-end) in
    c.new.ensures ∙ c.loop-at.invariant ∙ ap (λ n. map (byte_written (from_entries blocks) c.args.offset c.args.text.now) (range_with_len (c.args.number * 4096) n)) last
