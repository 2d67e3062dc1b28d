-- The bytes that are left are whole entries exactly where all are.
use Rattle.std.proofs.Common.{◌≡◌, length}
use Rattle.std.specs.Option.{is_some}
use Rattle.blk_base.specs.Entries.{all_entries, ref_from}
use Rattle.item_inode.proofs.refs.is_whole.Given as goal

abbrev pub invariant-loop-rest : goal.invariant-loop-rest
invariant-loop-rest l = is_some (all_entries ref_from l.rest) ≡ is_some (all_entries ref_from l.fn.bytes)

abbrev pub decreases-loop-rest : goal.decreases-loop-rest
decreases-loop-rest l = length l.rest
