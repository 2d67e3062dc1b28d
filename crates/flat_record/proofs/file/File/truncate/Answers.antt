use Rattle.std.proofs.Common.{◌/◌, ◌%◌, ap, ◌∙◌}
use Rattle.std.specs.FinMap.{from_entries}
use Rattle.flat_model.specs.Contents.{truncated, with_cut_block}
use Rattle.flat_record.specs.SizedBlocks.{file_of}
use Rattle.flat_record.proofs.Files.{truncated_is}
use Rattle.flat_record.proofs.file.File.truncate.Goals as goal

pub returns : goal.returns
returns c = λ attributes.
    let inside = c.self.inside in
    let size = c.args.size in
    truncated_is attributes (record { size = inside.size; blocks = from_entries inside.blocks.items }) size (from_entries c.cut_block_at.new.blocks.items)
    (c.cut_block_at.ensures.map ∙ ap (λ m. with_cut_block m (size / 4096) (size % 4096)) c.keep_below.ensures.map)
    ∙ ap (λ s. truncated (file_of attributes s) size) c.self.view_is
