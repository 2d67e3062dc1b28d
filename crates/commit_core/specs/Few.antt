-- How few blocks are in use behind a full commit during which nothing else came.
use Rattle.std.specs.Prelude.{◌≡◌, ◌≤◌, ◌+◌, ℕ, List, [], ◌∷◌, ◌++◌}
use Rattle.flat_model.specs.Volume.{volume_of}
use Rattle.commit_history.specs.declared.event.Event.{Event}
use Rattle.commit_history.specs.declared.event.Event.TheVariants as event
use Rattle.commit_images.specs.Scene.{Mounted, Scene}
use Rattle.commit_room.specs.Items.{data_blocks, trees_room}
use Rattle.commit_core.specs.Coming.{state_of}

-- this caller's seal of the whole volume is the last event that came
abbrev pub IsJustSealed : Scene → ℕ → Type 0
IsJustSealed scene caller = (front : List Event) × (scene.events ≡ front ++ event.SealFull caller ∷ [])

-- so many blocks are no more than the current volume's data blocks and the most that its trees may have (own)
abbrev pub HasFew : Mounted → Scene → ℕ → Type 0
HasFew mounted scene count =
    count ≤ data_blocks (volume_of (state_of mounted scene).current) + trees_room (volume_of (state_of mounted scene).current)
