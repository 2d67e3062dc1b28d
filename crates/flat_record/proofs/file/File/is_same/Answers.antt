use Rattle.std.proofs.Common.{ap, sym, ◌∙◌}
use Rattle.std.specs.Cmp.{nat_cmp_total}
use Rattle.std.specs.FinMap.{entries, from_entries}
use Rattle.flat_record.specs.SizedBlocks.{SizedBlocks}
use Rattle.flat_record.proofs.Limits.{entries_view}
use Rattle.flat_record.proofs.file.File.is_same.Goals as goal

pub returns : goal.returns
returns c =
    let one = entries_view nat_cmp_total c.self.inside.blocks.items c.args.self.now.blocks c.self.invariant (ap (λ (s : SizedBlocks). s.blocks) c.self.view_is) in
    let two = entries_view nat_cmp_total c.other.inside.blocks.items c.args.other.now.blocks c.other.invariant (ap (λ (s : SizedBlocks). s.blocks) c.other.view_is) in (
      λ t. sym c.self.view_is ∙ (λ i. record { size = c.if-self-other.false i; blocks = from_entries (c.are_same.ensures.0 t i) }) ∙ c.other.view_is,
      λ same. c.are_same.ensures.1 (sym one ∙ ap (λ (s : SizedBlocks). entries s.blocks) same ∙ two),
    )
