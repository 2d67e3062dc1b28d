-- The entries that are left, one of which is wanted, and the byte from which on they lie.
use Rattle.blk_base.specs.Entries.{extref_bytes}
use Rattle.name_items.specs.Places.{IsFarNamed}
use Rattle.name_items.proofs.Seen.{IsLeft}
use Rattle.name_items.proofs.place.far_place.Given as goal

abbrev pub invariant-loop-dir : goal.invariant-loop-dir
invariant-loop-dir l =
    IsLeft extref_bytes (IsFarNamed l.parent.0 l.name) l.fn.refs l.dir-iterator l.at ×
    (goal.iterator-loop-dir).can_next l.dir-iterator ×
    (goal.iterator-loop-dir).is_finite l.dir-iterator
