use Rattle.std.proofs.Common.{◌≡◌, ◌++◌, ℕ, List, sym, ap, subst, ◌∙◌}
use Rattle.disk_model.specs.Disk.{known}
use Rattle.tree_load.proofs.Loading.{at_ok}
use Rattle.tree_check.specs.declared.runs.Run.{Run}
use Rattle.tree_check.specs.Blocks.{IsDataAnswer, runs_of, tree_data}
use Rattle.tree_check.proofs.Places.{on_ok}
use Rattle.tree_check.proofs.Reading.{answer_is, tree_kept}
use Rattle.tree_check.proofs.blocks.«data».Goals as goal

pub returns-clause-answer : goal.returns-clause-answer
returns-clause-answer g c =
    let added = at_ok c.add_tree.result (sym c.is_err.ensures.value ∙ c.if-is_err.false) c.add_tree.ensures in
    let addresses : runs_of c.deref.result.now ≡ tree_data c.args.table.now c.args.tree.now = ap runs_of c.deref.ensures.value ∙ added ∙ ap (λ (runs : List Run). runs_of runs ++ tree_data c.args.table.now c.args.tree.now) c.new-runs.ensures.items in
    subst (λ (l : List ℕ). IsDataAnswer c.args.table.now l c.read_runs.result) addresses
    (answer_is (known (g.D.Disk.seen c.args.disk.now) (g.D.Disk.lost c.args.disk.now)) c.args.table.now c.read_runs.new.table (runs_of c.deref.result.now) c.read_runs.result c.read_runs.ensures.ok c.read_runs.ensures.fault)

pub returns-clause-stands : goal.returns-clause-stands
returns-clause-stands g c = on_ok c.read_runs.result (λ read. (tree_kept c.args.table.now c.read_runs.new.table c.args.tree.now (runs_of c.deref.result.now) read.load c.requires.tree).2) c.read_runs.ensures.ok

pub returns-clause-items : goal.returns-clause-items
returns-clause-items g c = on_ok c.read_runs.result (λ read. (tree_kept c.args.table.now c.read_runs.new.table c.args.tree.now (runs_of c.deref.result.now) read.load c.requires.tree).0) c.read_runs.ensures.ok

pub returns-clause-reach : goal.returns-clause-reach
returns-clause-reach g c = on_ok c.read_runs.result (λ read. (tree_kept c.args.table.now c.read_runs.new.table c.args.tree.now (runs_of c.deref.result.now) read.load c.requires.tree).1) c.read_runs.ensures.ok
