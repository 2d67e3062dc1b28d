use Rattle.std.specs.List.{AllWithin}
use Rattle.flat_sub.specs.View.{sub_view}
use Rattle.flat_check.specs.Parts.{IsRightName}
use Rattle.flat_check.proofs.Views.{Holds}
use Rattle.flat_check.proofs.names.names_are_right.Given as goal

abbrev pub invariant-loop-name : goal.invariant-loop-name
invariant-loop-name l = AllWithin (Holds (IsRightName (sub_view l.sub).sub)) l.sub.names.items 0 l.name-index
