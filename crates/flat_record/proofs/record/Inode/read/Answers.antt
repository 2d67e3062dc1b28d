use Rattle.std.proofs.Common.{Some, sym, ap, ◌∙◌}
use Rattle.flat_model.specs.Contents.{bytes_read}
use Rattle.flat_model.specs.Operations.{file_there}
use Rattle.flat_record.specs.RecordView.{record_view}
use Rattle.flat_record.proofs.Files.{none_read}
use Rattle.flat_record.proofs.record.Inode.read.Goals as goal

pub returns-in-Dir : goal.returns-in-Dir
returns-in-Dir c =
    let there = sym (ap (λ k. file_there (Some (record_view c.self.inside.attributes k))) c.in-Dir.is) ∙ ap (λ r. file_there (Some r)) c.self.view_is in
    c.repeat.ensures ∙ sym (none_read c.args.offset c.args.count) ∙ ap (λ f. bytes_read f c.args.offset c.args.count) there

pub returns-in-Link : goal.returns-in-Link
returns-in-Link c =
    let there = sym (ap (λ k. file_there (Some (record_view c.self.inside.attributes k))) c.in-Link.is) ∙ ap (λ r. file_there (Some r)) c.self.view_is in
    c.repeat-in-Link.ensures ∙ sym (none_read c.args.offset c.args.count) ∙ ap (λ f. bytes_read f c.args.offset c.args.count) there
