-- The command `run`: what it answers and why, what it writes, and what a crash may leave meanwhile.
use Rattle.std.specs.Prelude.{◌≡◌, ◌≤◌, ◌++◌, [], ℕ, List, length, Option, Result, Ok, Err}
use Rattle.disk_model.specs.Disk.{Held, Leaves, Told, IfBoth, IfTold, held_now, image_now}
use Rattle.io_edge.specs.Edge.{Gives, TakesFront}
use Rattle.blk_base.specs.Causes.{HasRisen}
use Rattle.flat_model.specs.Coherent.{IsCoherentVolume}
use Rattle.flat_model.specs.Volume.{Volume}
use Rattle.volume_image.specs.Tree.{Image}
use Rattle.volume_image.specs.Stands.{AgreesOn, Stands, StandsBy}
use Rattle.image_order.specs.FirstFault.{Found, standing_of, volume_in}
use Rattle.tree_mount.specs.declared.fault.MountFault.{MountFault}
use Rattle.commit_images.specs.Admissible.{AreAdmissible}
use Rattle.commit_images.specs.Scene.{Commit, Happening, HasCommit, Mounted, first_scene}
use Rattle.commit_device.specs.Moments.{EachMomentStands}
use Rattle.script_text.specs.declared.fault.ScriptKind.{ScriptKind}
use Rattle.script_text.specs.declared.fault.ScriptFault.{ScriptFault}
use Rattle.script_text.specs.declared.fault.ScriptFault.TheVariants as script_faults
use Rattle.flat_model.specs.declared.request.Line.{Line}
use Rattle.script_text.specs.Script.{script_of}
use Rattle.io_edge.specs.Reading.{HasEnded, HasGivenSome, IsCutShort}
use Rattle.io_edge.specs.declared.reading.ReadFault as source_fault
use Rattle.io_edge.specs.declared.reading.ReadFault.TheVariants as source_faults
use Rattle.volume_mkfs.specs.Made.{FindsWhatIsRead}
use Rattle.commit_history.specs.declared.event.Event.{Event}
use Rattle.volume_calls.specs.Between.{Between, IsDiskAt, TellsStill}
use Rattle.script_lines.specs.declared.fault.RunFault.{RunFault}
use Rattle.script_lines.specs.declared.fault.RunFault.TheVariants as run_faults
use Rattle.script_lines.specs.Happened.{AllHappened}
use Rattle.script_answer.specs.Words.{answer_line as call_line}
use Rattle.script_lines.specs.Lines.{HasRun, AllRun as RanAll, SinkFailedAtEnd, SinkFailedInLine, MemoryLacked as RanShort, calls_text, run_text}
use Rattle.script_runner.specs.declared.status.Status.{Status}
use Rattle.script_runner.specs.declared.status.Status.TheVariants.{Done, BadScript, NoVolume, DiskFault, ReadFault, WriteFault, Memory}
use Rattle.script_runner.specs.Commands.{IsFaultOf, IsPut, answer_line}

-- ---- the source, the disk and the sink

-- what the source has left, where it tells that, and how often it failed (own)
pub record FromSource : Type 0 where
  pub left : Option (List ℕ)
  pub faults : ℕ

-- What a read of any block of the disk gives, the disk's record, and what the sink has taken, where they tell it; how often each has
-- failed; and the events of the run (own).
pub record Outside : Type 0 where
  pub seen : Option Image
  pub told : Option Told
  pub taken : Option (List ℕ)
  pub disk_faults : ℕ
  pub sink_faults : ℕ
  pub history : List Event

-- these values of it
abbrev pub outside : Option Image → Option Told → Option (List ℕ) → ℕ → ℕ → List Event → Outside
outside seen told taken disk_faults sink_faults history =
    record { seen = seen; told = told; taken = taken; disk_faults = disk_faults; sink_faults = sink_faults; history = history }

-- the source gave these bytes, at most 16 MiB, and ended (own)
pub record IsRead (before after : FromSource) (bytes : List ℕ) : Type 0 where
  pub given : Gives before.left bytes after.left
  pub ended : HasEnded after.left
  pub few : length bytes ≤ 16777216

-- the disk is as it was, as far as it tells, and no event came (own)
pub record IsUntouched (before after : Outside) : Type 0 where
  pub seen : after.seen ≡ before.seen
  pub told : after.told ≡ before.told
  pub history : after.history ≡ before.history

-- no block is lost (own)
abbrev pub HasLostNone : Told → Type 0
HasLostNone told = (held_now told).lost ≡ []

-- ---- what a crash may leave

-- Each image that a crash may leave now has the superblock of the image as it reads, and its bytes in every block that this
-- superblock reaches (own).
abbrev pub FindsWholeVolume : Told → Type 0
FindsWholeVolume told =
    (volume : Volume) (reach : List ℕ) → StandsBy (image_now told) volume reach
    → (image : Image) → Leaves (held_now told) image → AgreesOn reach (image_now told) image

-- No block is lost, and a crash now would leave the superblock that is read and all that it reaches: what a run may begin with (own).
pub record IsSettled (told : Told) : Type 0 where
  pub none_lost : HasLostNone told
  pub finds : FindsWholeVolume told

-- it is settled, where no block is lost and a crash now would leave the superblock that is read (own)
abbrev pub EndsSettled : Told → Type 0
EndsSettled told = HasLostNone told → FindsWhatIsRead told → IsSettled told

-- A command that begins on a settled disk leaves it settled, where at the end no block is lost and a crash would leave the superblock
-- that is read: so it is where each write of a superblock that failed was followed by one that answered Ok (own).
abbrev pub KeepsSettled : Option Told → Option Told → Type 0
KeepsSettled before after = IfBoth before after (λ old new. IsSettled old → EndsSettled new)

-- A mount of the image finds no fault and no log, and gives this volume, for which the image stands (own).
pub record Mounts (image : Image) (volume : Volume) : Type 0 where
  pub stands : Stands image volume
  pub found : Found
  pub no_fault : standing_of image ≡ Ok found
  pub no_log : found.super.log_root ≡ 0
  pub gives : volume_in image found ≡ volume

-- the volume that a mount of the image finds has so many blocks ("Superblock")
abbrev pub HasBlocks : Image → ℕ → Type 0
HasBlocks image blocks = (found : Found) × (standing_of image ≡ Ok found) × (found.super.blocks ≡ blocks)

-- Events and calls of the device, which might come one behind the other, happened on a volume that was mounted by its
-- superblock, while the disk's record went on from old to new. At every moment, also at the two ends and inside each call, each
-- image that a crash may leave mounts to a volume that survives what happened until then: the durable one, that of a superblock
-- whose write is under way, or one whose write failed and that none replaced (own).
pub record MountsThroughout (volume : Volume) (old new : Told) : Type 0 where
  pub first : Commit
  pub happenings : List Happening
  pub by : HasCommit (image_now old) first
  pub admissible : AreAdmissible (record { volume = volume; image = image_now old }) (first_scene (held_now old) first) happenings
  pub each : EachMomentStands Mounts volume (first_scene (held_now old) first) happenings old new

-- So it is for a disk that stands for a volume at first and is settled then. A disk that tells its record at first tells it at the
-- end (own).
abbrev pub CrashMounts : Option Told → Option Told → Type 0
CrashMounts before after =
    IfBoth before after (λ old new. IsSettled old → (volume : Volume) → Stands (image_now old) volume → MountsThroughout volume old new)

-- ---- a script's lines

-- The lines were run on the volume that was mounted, the one for which the image stands, right behind its mount; and so the run
-- ended. `start` and `next` are the run's begin and end. Where no block is lost at first, and each image that a crash may leave
-- then has the superblock that is read and all that it reaches, each image that a crash may leave at any moment of the run
-- mounts to a volume that survives what happened until then; and so a next run may begin, where at the end no block is lost and
-- a crash would leave the superblock that is read. The volume has as many blocks as its superblock says. The history is all events
-- of the run, in their order (own).
pub record IsRunOn (lines : List Line) (before after : Outside) (result : Result (Unit {0}) RunFault) : Type 0 where
  pub mounted : Mounted
  pub first : Commit
  pub held : Held
  pub start : Between
  pub next : Between
  pub mounts : IfTold before.seen (λ image. (image ≡ mounted.image) × Mounts image mounted.volume)
  pub blocks : IfTold before.seen (λ image. HasBlocks image start.blocks)
  pub coherent : IsCoherentVolume mounted.volume
  pub by : HasCommit mounted.image first
  pub begins : start.scene ≡ first_scene held first
  pub first_told : IfTold before.told (λ told. (start.told ≡ told) × (held ≡ held_now told))
  pub counted : before.disk_faults ≤ start.faults
  pub last_told : IsDiskAt after.told after.disk_faults next
  pub tells : TellsStill before.told after.told
  pub ran : HasRun mounted lines start next before.taken after.taken result
  pub happened : AllHappened mounted start next
  pub history : after.history ≡ next.scene.events
  pub crash : IfTold before.told (λ old. HasLostNone old → FindsWholeVolume old
      → EachMomentStands Mounts mounted.volume start.scene happened.happenings old next.told)
  pub settles : IfTold before.told (λ old. IsSettled old → EndsSettled next.told)

-- the text of a run: the lines of its calls, also the one in which the sink failed, and the last line where all were made (own)
abbrev pub text_of : {mounted : Mounted} {lines : List Line} {start next : Between} {taken now : Option (List ℕ)}
    {result : Result (Unit {0}) RunFault} → HasRun mounted lines start next taken now result → List ℕ
text_of {lines = lines} (RanAll answers called takes) = run_text lines answers
text_of (SinkFailedInLine front rest caller request answers answer are called few takes) =
    calls_text front answers ++ call_line caller answer
text_of {lines = lines} (SinkFailedAtEnd answers called takes) = run_text lines answers
text_of (RanShort front rest caller request answers mid are called left takes) = calls_text front answers

-- What the lines of a script come to, and why, and the text of that answer: all were run, or it ended before. It ends behind the
-- call whose line the sink failed to take, and in the first call for which memory lacked (own).
pub data IsLinesAnswer (lines : List Line) (before after : Outside) : Status → List ℕ → Type 0 where
  AllRun : (run : IsRunOn lines before after (Ok tt)) → IsLinesAnswer lines before after Done (text_of run.ran)
  SinkFailed : (run : IsRunOn lines before after (Err run_faults.Sink)) → HasRisen before.sink_faults after.sink_faults
      → IsLinesAnswer lines before after WriteFault (text_of run.ran)
  MemoryLacked : (taken : Option (List ℕ)) (run : IsRunOn lines before (record after { taken = taken }) (Err run_faults.OutOfMemory))
      → TakesFront taken (answer_line Memory) after.taken → IsLinesAnswer lines before after Memory (text_of run.ran ++ answer_line Memory)
  NotMounted : (fault : MountFault) → IsFaultOf before.seen fault → IsUntouched before after
      → IsLinesAnswer lines before after (NoVolume fault) (answer_line (NoVolume fault))
  DiskFailed : HasRisen before.disk_faults after.disk_faults → IsUntouched before after → IsLinesAnswer lines before after DiskFault (answer_line DiskFault)
  NoMemory : IsUntouched before after → IsLinesAnswer lines before after Memory (answer_line Memory)

-- What `run` answers and why, and the text of that answer: the script of the source was run, or there was none (own).
pub data IsRunAnswer (given left : FromSource) (before after : Outside) : Status → List ℕ → Type 0 where
  Parsed : (status : Status) (text bytes : List ℕ) (lines : List Line) → IsRead given left bytes → script_of bytes ≡ Ok lines
      → IsLinesAnswer lines before after status text → IsRunAnswer given left before after status text
  NotParsed : (bytes : List ℕ) (line : ℕ) (kind : ScriptKind) → IsRead given left bytes → script_of bytes ≡ Err (line, kind)
      → IsUntouched before after → IsRunAnswer given left before after (BadScript line kind) (answer_line (BadScript line kind))
  NotRead : (taken : ℕ) → IsCutShort given.left left.left given.faults left.faults taken → IsUntouched before after
      → IsRunAnswer given left before after (ReadFault taken) (answer_line (ReadFault taken))
  LacksMemory : HasGivenSome given.left left.left → IsUntouched before after → IsRunAnswer given left before after Memory (answer_line Memory)

-- what the lines of a script come to, with the text of that answer, of which the sink took what it should (own)
abbrev pub HasLinesAnswer : List Line → Outside → Outside → Status → Type 0
HasLinesAnswer lines before after status =
    (text : List ℕ) × IsPut status text before.taken after.taken before.sink_faults after.sink_faults × IsLinesAnswer lines before after status text

-- the same of `run` (own)
abbrev pub HasRunAnswer : FromSource → FromSource → Outside → Outside → Status → Type 0
HasRunAnswer given left before after status =
    (text : List ℕ) × IsPut status text before.taken after.taken before.sink_faults after.sink_faults × IsRunAnswer given left before after status text

-- the answer to a source that wasn't read to its end (own)
abbrev pub status_of_source : source_fault.ReadFault → Status
status_of_source (source_faults.Failed taken) = ReadFault taken
status_of_source source_faults.OutOfMemory = Memory

-- the answer to a script that wasn't read (own)
abbrev pub status_of_script : ScriptFault → Status
status_of_script (script_faults.Bad line kind) = BadScript line kind
status_of_script script_faults.OutOfMemory = Memory
