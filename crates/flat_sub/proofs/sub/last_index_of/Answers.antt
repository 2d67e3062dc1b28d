use Rattle.std.proofs.Common.{ℕ, sym, ap, ◌∙◌}
use Rattle.std.specs.Option.{unwrap_or}
use Rattle.std.specs.Cmp.{nat_cmp_total}
use Rattle.std.specs.FinMap.{get-from_entries}
use Rattle.flat_record.proofs.Tables.{position_first, position_none, find_first, find_nowhere}
use Rattle.flat_sub.proofs.sub.last_index_of.Goals as goal

pub returns-in-Some : goal.returns-in-Some
returns-in-Some c =
    let entries = c.args.indexes.now.items in
    let there = get-from_entries nat_cmp_total entries c.args.dir ∙ find_first c.args.dir entries c.in-Some.at c.index.result.now (position_first _ entries c.in-Some.at (sym c.in-Some.ensures)) in
    ap (λ (e : ℕ × ℕ). e.1) c.index.ensures ∙ sym (ap (λ o. unwrap_or o 1) there)

pub returns-in-None : goal.returns-in-None
returns-in-None c =
    let entries = c.args.indexes.now.items in
    let there = get-from_entries nat_cmp_total entries c.args.dir ∙ find_nowhere c.args.dir entries (position_none _ entries (sym c.in-None.ensures)) in
    sym (ap (λ o. unwrap_or o 1) there)
