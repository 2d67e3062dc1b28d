use Rattle.std.proofs.Common.{length, ap, arith}
use Rattle.std.specs.Cmp.Lexicographic.{nat_list_cmp_total}
use Rattle.flat_record.proofs.Limits.{entries_view}
use Rattle.flat_record.proofs.attributes.AttributeTable.len.Goals as goal

pub returns : goal.returns
returns c = omega (arith, c.len.ensures, ap length (entries_view nat_list_cmp_total c.self.inside.entries.items c.args.self.now c.self.invariant c.self.view_is), c.self.inside.entries.ok.0)
