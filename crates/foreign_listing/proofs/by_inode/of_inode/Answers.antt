use Rattle.std.proofs.Common.{◌≡◌, ◌-◌, length, take, drop, ltb, leb, ltb-true, ltb-false, leb-true, leb-false, rules, arith}
use Rattle.std.proofs.lemmas.List.Sorted.{IsNonDecreasingBy-drop, IsPartitionPoint-from_clause, IsPartitionedBy-leb, IsPartitionedBy-ltb}
use Rattle.foreign_listing.proofs.ByInode.{between_is, take_whole}
use Rattle.foreign_listing.proofs.by_inode.of_inode.Goals as goal

pub returns : goal.returns
returns g c =
    let n = g.R.Row.owner in
    let rows = c.args.rows.now in
    let ino = c.args.ino in
    let a = c.partition_point-from.result in
    let b = c.partition_point-count.result in
    let behind = take (length rows - a) (drop a rows) in
    let is : behind ≡ drop a rows = take_whole a rows in
    let rise = IsNonDecreasingBy-drop n a rows c.requires in
    let first = IsPartitionPoint-from_clause (λ row. ltb (n row) ino) rows a c.partition_point-from.ensures.partitioned (IsPartitionedBy-ltb n rows ino c.requires) (λ p r q k. search rules) in
    let second = IsPartitionPoint-from_clause (λ row. leb (n row) ino) behind b c.partition_point-count.ensures.partitioned (IsPartitionedBy-leb n behind ino (rw is rise)) (λ p r q k. search rules) in
    between_is n ino rows behind a b c.partition_point-from.ensures.bound is c.partition_point-count.ensures.bound
    (λ k d below. ltb-true _ _ (first.0 k d (omega arith) below))
    (λ k d below within. ltb-false _ _ (first.1 k d below within))
    (λ k d below. leb-true _ _ (second.0 k d (omega arith) below))
    (λ k d from within. leb-false _ _ (second.1 k d from within))
