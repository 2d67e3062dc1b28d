use Rattle.std.proofs.Common.{ℕ, List, Some, length, ap, sym, ◌∙◌}
use Rattle.std.specs.Ordering.{nat_cmp}
use Rattle.std.specs.FinMap.{entries}
use Rattle.flat_model.specs.Operations.{file_there}
use Rattle.flat_record.specs.RecordView.{record_view}
use Rattle.flat_record.proofs.Tables.{no_entries}
use Rattle.flat_record.proofs.record.Inode.block_count.Goals as goal

pub returns-in-Dir : goal.returns-in-Dir
returns-in-Dir c =
    let none = ap (λ k. entries (file_there (Some (record_view c.self.inside.attributes k))).blocks) c.in-Dir.is ∙ no_entries (List ℕ) nat_cmp in
    sym (ap length none) ∙ ap (λ r. length (entries (file_there (Some r)).blocks)) c.self.view_is

pub returns-in-Link : goal.returns-in-Link
returns-in-Link c =
    let none = ap (λ k. entries (file_there (Some (record_view c.self.inside.attributes k))).blocks) c.in-Link.is ∙ no_entries (List ℕ) nat_cmp in
    sym (ap length none) ∙ ap (λ r. length (entries (file_there (Some r)).blocks)) c.self.view_is
