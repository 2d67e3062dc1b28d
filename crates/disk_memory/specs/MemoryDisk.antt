-- A disk in memory, as its callers see it.
use Rattle.std.specs.Prelude.{◌≡◌, ◌+◌, ◌-◌, ◌^◌, ◌⊎◌, ℕ, List, [], length, min, cond, Bool, Option, Some, None, option_map, Contains, slice_index_or, ◌∷◌}
use Rattle.disk_model.specs.Disk.{Image, Told}
use Rattle.disk_memory.specs.Record.{lost_by, told_by}
use Rattle.disk_memory.specs.declared.memory_disk.MemoryDisk.{MemoryDisk}

-- the record of its calls (own)
abbrev pub told_of : MemoryDisk → Told
told_of disk = told_by disk.kept.first.items.items disk.kept.entries.items

-- the blocks that a failed flush lost (own)
abbrev pub lost_of : MemoryDisk → List ℕ
lost_of disk = lost_by disk.kept.first.items.items disk.kept.entries.items

-- what a read gives, but of a lost block (own)
abbrev pub reads_of : MemoryDisk → Image
reads_of disk = disk.kept.image.items.items

-- how many calls its record has room for, and how many it has (own)
abbrev pub room_of : MemoryDisk → ℕ
room_of disk = disk.kept.room

abbrev pub used_of : MemoryDisk → ℕ
used_of disk = length disk.kept.entries.items

-- the numbers of the calls that fail, from 1 (own)
abbrev pub fails_of : MemoryDisk → List ℕ
fails_of disk = disk.plan.fails.items

-- how many calls go through until all fail, where there is such a stop (own)
abbrev pub stop_of : MemoryDisk → Option ℕ
stop_of disk = disk.plan.stop

-- how many calls were made, and how many failed; both stand still at 2^64 - 1 (own)
abbrev pub made_of : MemoryDisk → ℕ
made_of disk = disk.plan.made

abbrev pub faults_of : MemoryDisk → ℕ
faults_of disk = disk.plan.faults

-- the next call is one of those that fail (own)
abbrev pub FailsNext : MemoryDisk → Type 0
FailsNext disk = Contains (fails_of disk) (made_of disk + 1) ⊎ (stop_of disk ≡ Some 0)

-- the record has no room for a further call (own)
abbrev pub IsFull : MemoryDisk → Type 0
IsFull disk = used_of disk ≡ room_of disk

-- a call was counted, and a fault where it failed (own)
abbrev pub IsCounted : MemoryDisk → MemoryDisk → Bool → Type 0
IsCounted old new ok =
    (made_of new ≡ min (made_of old + 1) (2 ^ 64 - 1)) × (stop_of new ≡ option_map (λ calls. calls - 1) (stop_of old)) × (faults_of new ≡ cond ok (faults_of old) (min (faults_of old + 1) (2 ^ 64 - 1)))

-- the same calls fail, and there is the same room (own)
abbrev pub KeepsPlan : MemoryDisk → MemoryDisk → Type 0
KeepsPlan old new = (fails_of new ≡ fails_of old) × (room_of new ≡ room_of old)

-- a disk with this image, all of it durable, that recorded no call yet and whose calls all go through but for these (own)
pub record IsFresh (disk : MemoryDisk) (image : Image) (room : ℕ) (fails : List ℕ) : Type 0 where
  pub told : told_of disk ≡ record { first = image; supers = slice_index_or image 16 [] ∷ []; calls = [] }
  pub reads : reads_of disk ≡ image
  pub room_is : room_of disk ≡ room
  pub fails_are : fails_of disk ≡ fails
  pub no_stop : stop_of disk ≡ None
  pub none_made : made_of disk ≡ 0
  pub none_failed : faults_of disk ≡ 0
