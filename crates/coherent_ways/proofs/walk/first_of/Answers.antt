use Rattle.std.proofs.Common.{ltb, rules, arith}
use Rattle.std.proofs.lemmas.List.Sorted.{IsPartitionPoint-from_clause, IsPartitionedBy-ltb}
use borrow.Author.Tests.{ltb-true, ltb-false}
use Rattle.coherent_names.specs.declared.name.Name.{Name}
use Rattle.coherent_ways.specs.Ways.{dir_of}
use Rattle.coherent_ways.proofs.walk.first_of.Goals as goal

pub returns-clause-below : goal.returns-clause-below
returns-clause-below c = λ k d below.
    let point = IsPartitionPoint-from_clause (λ (n : Name). ltb (dir_of n) c.args.dir) c.args.names.now c.partition_point.result c.partition_point.ensures.partitioned (IsPartitionedBy-ltb dir_of c.args.names.now c.args.dir c.requires) (λ a r q k. search rules) in
    ltb-true _ _ (point.0 k d (omega arith) below)

pub returns-clause-above : goal.returns-clause-above
returns-clause-above c = λ k d from below.
    let point = IsPartitionPoint-from_clause (λ (n : Name). ltb (dir_of n) c.args.dir) c.args.names.now c.partition_point.result c.partition_point.ensures.partitioned (IsPartitionedBy-ltb dir_of c.args.names.now c.args.dir c.requires) (λ a r q k. search rules) in
    ltb-false _ _ (point.1 k d from below)
