use Rattle.std.proofs.Common.{ℕ, List, length, get_or, ap, sym, ◌∙◌, arith}
use Rattle.std.specs.Cmp.Lexicographic.{nat_list_cmp_total}
use Rattle.flat_record.proofs.Limits.{entries_view}
use Rattle.flat_record.proofs.attributes.AttributeTable.entry.Goals as goal

pub index-entry-requires : goal.index-entry-requires
index-entry-requires c = omega (arith, c.requires, ap length (entries_view nat_list_cmp_total c.self.inside.entries.items c.args.self.now c.self.invariant c.self.view_is), c.self.inside.entries.ok.0)

pub returns : goal.returns
returns c =
    let found = c.index-entry.result.now in
    c.index-entry.ensures ∙ ap (λ (es : List (List ℕ × List ℕ)). get_or es c.args.place found) (sym (entries_view nat_list_cmp_total c.self.inside.entries.items c.args.self.now c.self.invariant c.self.view_is))
