use Rattle.std.proofs.Common.{length, fold, ap, ◌∙◌, arith}
use Rattle.std.specs.FinMap.{from_entries}
use Rattle.flat_model.specs.Contents.{written, block_written, blocks_touched}
use Rattle.flat_record.specs.SizedBlocks.{file_of}
use Rattle.flat_record.proofs.Files.{insert_entry, fold_entries, written_is}
use Rattle.flat_record.proofs.file.File.write.Goals as goal

pub returns-clause-ok : goal.returns-clause-ok
returns-clause-ok c = λ attributes.
    let inside = c.self.inside in
    let before = from_entries inside.blocks.items in
    let offset = c.args.offset in
    let text = c.args.text.now in
    let touched = blocks_touched offset (length text) in
    let blocks = c.put_blocks.ensures.map ∙ ap (λ es. fold insert_entry (from_entries es) c.in_ok-made.made.items) c.reserve.ensures.items ∙ ap (fold insert_entry before) c.in_ok-made.ensures ∙ fold_entries (block_written before offset text) before touched in
    written_is attributes (record { size = inside.size; blocks = before }) c.max-self-inside.result (from_entries c.put_blocks.new.blocks.items) offset text (omega (arith, c.max-self-inside.ensures, c.len-2.ensures.value)) blocks
    ∙ ap (λ s. written (file_of attributes s) offset text) c.self.view_is
