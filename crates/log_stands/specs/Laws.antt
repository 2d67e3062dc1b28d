-- What is proved of these definitions, each sentence by its name.
use Rattle.std.specs.Prelude.{◌≡◌, ◌≤◌, ◌+◌, ℕ, List, length, All}
use Rattle.blk_base.specs.Address.{IsAllowed}
use Rattle.flat_model.specs.Volume.{Volume}
use Rattle.volume_image.specs.Tree.{Image, NoneTwice}
use Rattle.volume_image.specs.Stands.{AgreesOn, StandsBy}
use Rattle.log_stands.specs.StandsWithLog.{StandsByLog}

-- an image stands for a volume by the superblock and the blocks of its reach alone
abbrev pub StandsIsLocal : Type 0
StandsIsLocal = (one two : Image) (volume : Volume) (reach : List ℕ) → StandsByLog one volume reach → AgreesOn reach one two → StandsByLog two volume reach

-- it stands for one volume, by one reach
abbrev pub StandsForOne : Type 0
StandsForOne = (image : Image) (one two : Volume) (near far : List ℕ) → StandsByLog image one near → StandsByLog image two far → (one ≡ two) × (near ≡ far)

-- without a log it stands as an image without a log does
abbrev pub UnloggedStands : Type 0
UnloggedStands =
    (image : Image) (volume : Volume) (reach : List ℕ) (stands : StandsByLog image volume reach)
    → stands.super.log_root ≡ 0
    → StandsBy image volume reach

abbrev pub StandsUnlogged : Type 0
StandsUnlogged = (image : Image) (volume : Volume) (reach : List ℕ) → StandsBy image volume reach → StandsByLog image volume reach

-- no address of the reach stands twice in it
abbrev pub ReachIsOnce : Type 0
ReachIsOnce = (image : Image) (volume : Volume) (reach : List ℕ) → StandsByLog image volume reach → NoneTwice reach

-- each is one at which the volume may have a block
abbrev pub ReachIsAllowed : Type 0
ReachIsAllowed = (image : Image) (volume : Volume) (reach : List ℕ) (stands : StandsByLog image volume reach) → All (IsAllowed stands.super.blocks) reach

-- beside them 82 blocks that are kept back and 116 that a mount needs are there
abbrev pub ReachLeavesRoom : Type 0
ReachLeavesRoom = (image : Image) (volume : Volume) (reach : List ℕ) (stands : StandsByLog image volume reach) → length reach + 198 ≤ stands.super.blocks
