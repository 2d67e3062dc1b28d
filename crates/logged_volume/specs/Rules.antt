-- When a log step gives way to a full commit.
use Rattle.std.specs.Prelude.{ℕ, ◌+◌, ◌*◌, Bool, cond, length, Option, Some, None, nat_lt}
use Rattle.flat_model.specs.declared.answer.Reason.{Reason}
use Rattle.flat_model.specs.declared.answer.Reason.TheVariants.{Conflicts, GoneDir, Space, FailedLog}
use Rattle.flat_model.specs.Volume.{Subvolume}
use Rattle.logged_volume.specs.Drawn.{conflicts_of, stranded_of}

-- the most conflicts of a log step (own)
abbrev pub most_conflicts : ℕ
most_conflicts = 10

-- the numbers beside the volumes that the rules look at: free blocks, tree blocks of the committed trees, the weight of
-- all that was drawn since the last full commit, and how many device calls failed since then (own)
pub record RoomNumbers : Type 0 where
  pub free : ℕ
  pub tree_blocks : ℕ
  pub weight : ℕ
  pub failed : ℕ

-- the blocks that have to be free for a log step (own)
abbrev pub step_need : RoomNumbers → ℕ
step_need room = 2 * room.tree_blocks + 11 * room.weight + 1280

-- the reason for a full commit by the rules on room and on failures (own)
abbrev pub room_reason : RoomNumbers → Option Reason
room_reason room =
    cond (nat_lt room.free (step_need room)) (Some (Space room.free (step_need room)))
    (cond (nat_lt 0 room.failed) (Some (FailedLog room.failed)) None)

-- the reason for a full commit in place of this log step, where there is one: too many conflicts, then a stranded directory,
-- then too little room, then a failure (own)
abbrev pub commit_reason : Subvolume → Subvolume → ℕ → Bool → RoomNumbers → Option Reason
commit_reason current logged target datasync room =
    let conflicts = length (conflicts_of current logged target datasync) in
    cond (nat_lt most_conflicts conflicts) (Some (Conflicts conflicts))
    (elim (stranded_of current logged target datasync) [ None ↦ room_reason room | Some dir ↦ Some (GoneDir (record { 0 = dir })) ])
