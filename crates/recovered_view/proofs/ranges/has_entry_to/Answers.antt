use Rattle.std.proofs.Common.{sym, ◌∙◌}
use Rattle.std.proofs.lemmas.Bool.{and_from, eq-eqb}
use Rattle.item_dir.specs.Entry.{entry_view}
use Rattle.recovered_view.specs.Kept.{is_entry_to}
use Rattle.recovered_view.proofs.Loops.{any_found}
use Rattle.recovered_view.proofs.ranges.has_entry_to.Goals as goal

pub returns-then-entry-ino : goal.returns-then-entry-ino
returns-then-entry-ino c =
    any_found (is_entry_to c.args.name.now c.args.ino) c.loop-entry.entry-iterator c.next.new.self (entry_view c.in-Some.entry) _ c.loop-entry.invariant.0 c.in-Some.ensures.steps
    (and_from _ _ (sym c.eq.ensures ∙ c.if-eq.true) (eq-eqb c.in-Some.entry.target.objectid c.args.ino c.if-entry-ino.true))
