-- What the images stand for that a crash may leave at each moment of a disk's record.
use Rattle.std.specs.Prelude.{◌≡◌, ℕ, List, ◌++◌, drop, length, take}
use Rattle.disk_model.specs.Disk.{Call, Image, IsSince, LeavesAt, Moment, Told}
use Rattle.flat_model.specs.Volume.{Volume}
use Rattle.commit_images.specs.Images.{StandsBy, history_in}
use Rattle.commit_images.specs.Scene.{Happening, Scene, scene_behind}
use Rattle.commit_device.specs.Calls.{AreTold, calls_of}

-- how many calls of a record are over at a moment
abbrev pub calls_over : Moment → ℕ
calls_over (Moment.Between k) = k
calls_over (Moment.Inside k) = k

-- Behind the first of these happenings, those of which these calls are told, the image stands for a volume that a crash may leave by the history there, and
-- that survives it (own).
pub record StandsBehind (Stands : Image → Volume → Type 0) (volume : Volume) (scene : Scene) (happenings : List Happening) (calls : List Call)
    (image : Image) : Type 0 where
  pub first : List Happening
  pub rest : List Happening
  pub are : happenings ≡ first ++ rest
  pub told : AreTold (calls_of volume scene first) calls
  pub stands : StandsBy Stands (history_in volume (scene_behind volume scene first)) volume image

-- so does each image that a crash may leave at a moment since, the ends of the old record and of the new one counted, by the calls that are over then (own)
pub record EachMomentStands (Stands : Image → Volume → Type 0) (volume : Volume) (scene : Scene) (happenings : List Happening) (old new : Told) : Type 0 where
  pub each : (moment : Moment) (image : Image) → IsSince (length old.calls) moment → LeavesAt new moment image
      → StandsBehind Stands volume scene happenings (drop (length old.calls) (take (calls_over moment) new.calls)) image
