-- Where the writes of parts and batches stand: marks, a superblock whose write failed, covered numbers and parts that are written.
use Rattle.std.specs.Prelude.{◌≡◌, ◌≤◌, ◌<◌, ◌+◌, ◌-◌, ◌*◌, ◌%◌, ◌==◌, ◌&&◌, ◌||◌, ◌++◌, ◌∷◌, [], ℕ, List, Bool, not, max, nat_le, nat_lt, fold, replicate, Option, Some, None, if◌then◌else◌, slice_index_or, slice_set}
use Rattle.std.specs.List.{flat_map}
use Rattle.blk_base.specs.declared.format.TheConstants.{FS_TREE}
use Rattle.blk_base.specs.declared.key.Marks.{Marks}
use Rattle.blk_base.specs.Trees.{AtBlock}
use Rattle.block_table.specs.declared.batch.Batch.{Batch}
use Rattle.block_table.specs.declared.batch.Part.{Part}
use Rattle.disk_model.specs.Disk.{Call}
use Rattle.batch_write.specs.Batch.{super_call}

-- The marks of the superblocks that were tried; the superblock whose write failed and that wasn't written again; the greatest
-- number of each subvolume that a commit covered, by the subvolume's place; and in each slot the number of the part that was
-- written whole last, 0 for none (own).
pub record Device : Type 0 where
  pub marks : Marks
  pub failed : Option (List ℕ)
  pub covered : List ℕ
  pub written : List ℕ

-- nothing was written yet (own)
abbrev pub new_device : Device
new_device = record {
  marks = record { done = 0; tried = 0; full = 0 };
  failed = None;
  covered = replicate 16 0;
  written = replicate 32 0;
}

-- the place of a subvolume among the 16 that a volume may have: they are 5, then 256 and on (own)
abbrev pub place_of : ℕ → ℕ
place_of id = if id == FS_TREE then 0 else id - 255

-- a part of a subvolume that a volume may have, with a log's number, which begin at 1 (own)
pub record IsPart (part : Part) : Type 0 where
  pub place : place_of part.sub.0 < 16
  pub number : 1 ≤ part.number

-- the slot of a part: its subvolume's, by its number modulo 2 (own)
abbrev pub slot_of : Part → ℕ
slot_of part = 2 * place_of part.sub.0 + part.number % 2

abbrev pub covered_of : Device → Part → ℕ
covered_of device part = slice_index_or device.covered (place_of part.sub.0) 0

-- the part was written whole, and no commit has covered it yet (own)
abbrev pub is_kept : Device → Part → Bool
is_kept device part = (slice_index_or device.written (slot_of part) 0 == part.number) && nat_lt (covered_of device part) part.number

-- the part comes too late: a full commit was tried since its seal, or its number is covered (own)
abbrev pub is_passed : Device → Part → Bool
is_passed device part = not (part.marks.full == device.marks.full) || nat_le part.number (covered_of device part)

abbrev pub with_written : Device → Part → Device
with_written device part = record device { written = slice_set device.written (slot_of part) part.number }

-- ---- commits

-- the blocks of a part that aren't written yet
abbrev pub unwritten : Device → Part → List AtBlock
unwritten device part = if is_kept device part then [] else part.blocks.pairs

-- what a commit writes: its own blocks, and those of its parts that aren't written yet (own)
abbrev pub to_write : Device → Batch → List AtBlock
to_write device batch = batch.blocks.pairs ++ flat_map (unwritten device) batch.parts

-- the write of the superblock whose write failed before, where there is one (own)
abbrev pub again_calls : Option (List ℕ) → List Call
again_calls None = []
again_calls (Some superblock) = super_call superblock ∷ []

abbrev pub marks_tried : Marks → Batch → Marks
marks_tried marks batch = record { done = marks.done; tried = batch.seal; full = if batch.full then batch.seal else marks.full }

-- once the superblock that had failed was written again (own)
abbrev pub rewritten : Device → Device
rewritten device = record device { failed = None }

-- once the write of a commit's superblock failed (own)
abbrev pub after_tried : Device → Batch → Device
after_tried device batch = record device { marks = marks_tried device.marks batch; failed = Some batch.superblock.value }

-- the covered numbers, with that of one part more
abbrev pub with_covered : List ℕ → Part → List ℕ
with_covered covered part = slice_set covered (place_of part.sub.0) (max (slice_index_or covered (place_of part.sub.0) 0) part.number)

-- once a commit's superblock is written: its parts are covered, and behind a full commit no part is written (own)
abbrev pub after_done : Device → Batch → Device
after_done device batch = record {
  marks = record { done = batch.seal; tried = batch.seal; full = if batch.full then batch.seal else device.marks.full };
  failed = None;
  covered = fold with_covered device.covered batch.parts;
  written = if batch.full then replicate 32 0 else device.written;
}

-- the commit was sealed when the same superblocks were done and tried (own)
pub record IsNextFor (device : Device) (batch : Batch) : Type 0 where
  pub done : batch.marks.done ≡ device.marks.done
  pub tried : batch.marks.tried ≡ device.marks.tried
