-- The entries that are left, one of which is wanted, and the byte from which on they lie.
use Rattle.blk_base.specs.Entries.{ref_bytes}
use Rattle.name_items.specs.Places.{IsRefNamed}
use Rattle.name_items.proofs.Seen.{IsLeft}
use Rattle.name_items.proofs.place.near_place.Given as goal

abbrev pub invariant-loop-other : goal.invariant-loop-other
invariant-loop-other l =
    IsLeft ref_bytes (IsRefNamed l.name) l.fn.refs l.other-iterator l.at ×
    (goal.iterator-loop-other).can_next l.other-iterator ×
    (goal.iterator-loop-other).is_finite l.other-iterator
