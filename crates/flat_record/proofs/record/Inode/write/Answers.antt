use Rattle.std.proofs.Common.{◌≡◌, Some, sym, ap, ◌∙◌}
use Rattle.flat_model.specs.Records.{FileInode}
use Rattle.flat_model.specs.Contents.{written}
use Rattle.flat_model.specs.Operations.{file_there}
use Rattle.flat_record.specs.RecordView.{record_view}
use Rattle.flat_record.specs.SizedBlocks.{file_of}
use Rattle.flat_record.proofs.Files.{on_ok}
use Rattle.flat_record.proofs.record.Inode.write.Goals as goal

pub returns-clause-ok : goal.returns-clause-ok
returns-clause-ok c =
    let attributes = c.self.inside.attributes in
    let there : file_of attributes c.in-File.file ≡ file_there (Some c.args.self.now) = sym (ap (λ k. file_there (Some (record_view attributes k))) c.in-File.is) ∙ ap (λ r. file_there (Some r)) c.self.view_is in
    on_ok c.write.result (λ is. ap FileInode (is ∙ ap (λ f. written f c.args.offset c.args.text.now) there)) (c.write.ensures.ok attributes)
