use Rattle.std.proofs.Common.{ℕ, List, Some, length, ap, ◌∙◌, arith}
use Rattle.std.specs.Ordering.{nat_cmp}
use Rattle.std.specs.FinMap.{entries}
use Rattle.flat_model.specs.Operations.{file_there}
use Rattle.flat_record.specs.RecordView.{record_view}
use Rattle.flat_record.proofs.Tables.{no_entries}
use Rattle.flat_record.proofs.record.Inode.block.Goals as goal

pub unreachable-requires : goal.unreachable-requires
unreachable-requires c =
    let none = ap (λ k. entries (file_there (Some (record_view c.self.inside.attributes k))).blocks) c.in-Dir.is ∙ no_entries (List ℕ) nat_cmp in
    let seen = ap (λ r. length (entries (file_there (Some r)).blocks)) c.self.view_is in
    omega (arith, c.requires, seen, ap length none)

pub unreachable-requires-in-Link : goal.unreachable-requires-in-Link
unreachable-requires-in-Link c =
    let none = ap (λ k. entries (file_there (Some (record_view c.self.inside.attributes k))).blocks) c.in-Link.is ∙ no_entries (List ℕ) nat_cmp in
    let seen = ap (λ r. length (entries (file_there (Some r)).blocks)) c.self.view_is in
    omega (arith, c.requires, seen, ap length none)
