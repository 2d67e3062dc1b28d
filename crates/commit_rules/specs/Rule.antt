-- The reason for a full commit of what is drawn and of the numbers.
use Rattle.std.specs.Prelude.{◌≡◌, ℕ, Option, false}
use Rattle.flat_model.specs.declared.answer.Reason.{Reason}
use Rattle.flat_model.specs.Volume.{Subvolume}
use Rattle.logged_volume.specs.Rules.{RoomNumbers, commit_reason}
use Rattle.drawn_set.specs.declared.drawn.Drawn.{Drawn}
use Rattle.drawn_set.specs.Drawn.{IsDrawn}
use Rattle.commit_rules.specs.declared.rules.Numbers.{Numbers}

-- the numbers beside the volumes
abbrev pub room_of : Numbers → RoomNumbers
room_of numbers = record { free = numbers.free; tree_blocks = numbers.tree_blocks; weight = numbers.weight; failed = numbers.failed }

-- whatever fsync this was drawn for, which has no data form, this is its reason for a full commit, or there is none (own)
abbrev pub IsReasonOf : Drawn → Numbers → Option Reason → Type 0
IsReasonOf drawn numbers reason =
    (current logged : Subvolume) (target : ℕ)
    → IsDrawn current logged target drawn
    → reason ≡ commit_reason current logged target false (room_of numbers)
