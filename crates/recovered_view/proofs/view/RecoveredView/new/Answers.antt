use Rattle.std.proofs.Common.{◌∙◌}
use Rattle.recovered_view.proofs.Given.{is_recovered, log_stands, names_seen, same_log}
use Rattle.recovered_view.proofs.view.RecoveredView.new.Goals as goal

pub of_tree-requires : goal.of_tree-requires
of_tree-requires c = (c.requires.0, c.requires.1)

pub read_keys-requires : goal.read_keys-requires
read_keys-requires c = log_stands c.args.table.now c.requires.0 c.args.log c.requires.2

pub invariant_of-result : goal.invariant_of-result
invariant_of-result c = (
  is_recovered c.args.table.now c.args.committed.now c.requires.0 c.args.log c.requires.1 c.requires.2 c.read_keys.ensures,
  c.of_tree.ensures c.requires.0 c.requires.1 ∙ names_seen c.args.table.now c.args.committed.now c.requires.0 c.requires.1,
)

pub returns : goal.returns
returns c = λ sub given flat is. same_log c.args.table.now c.args.committed.now sub c.args.log flat given is
