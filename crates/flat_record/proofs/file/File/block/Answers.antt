use Rattle.std.proofs.Common.{◌≡◌, ℕ, List, length, get_or, ap, sym, ◌∙◌, arith}
use Rattle.std.specs.Cmp.{nat_cmp_total}
use Rattle.std.specs.FinMap.{entries}
use Rattle.flat_record.specs.SizedBlocks.{SizedBlocks}
use Rattle.flat_record.proofs.Limits.{entries_view}
use Rattle.flat_record.proofs.file.File.block.Goals as goal

pub index-entry-requires : goal.index-entry-requires
index-entry-requires c = omega (arith, c.requires, ap length (entries_view nat_cmp_total c.self.inside.blocks.items c.args.self.now.blocks c.self.invariant (ap (λ (s : SizedBlocks). s.blocks) c.self.view_is)), c.self.inside.blocks.ok.0)

pub returns : goal.returns
returns c =
    let found = c.index-entry.result.now in
    let given : ℕ × List ℕ = (found.0, c.as_bytes.result.now) in
    let all = entries c.args.self.now.blocks in
    let same : given ≡ found = λ i. (found.0, c.as_bytes.ensures.value i) in
    same ∙ c.index-entry.ensures ∙ ap (λ (es : List (ℕ × List ℕ)). get_or es c.args.place found) (sym (entries_view nat_cmp_total c.self.inside.blocks.items c.args.self.now.blocks c.self.invariant (ap (λ (s : SizedBlocks). s.blocks) c.self.view_is)))
    ∙ ap (get_or all c.args.place) (sym same)
