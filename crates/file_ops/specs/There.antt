-- What is found at the place of an operation on attributes.
use Rattle.std.specs.Prelude.{◌≡◌, ℕ, Bool, true, false, List, Some}
use Rattle.std.specs.FinMap.{get}
use Rattle.flat_model.specs.declared.answer.Answer.{Answer}
use Rattle.flat_model.specs.Operations.{file_rows, first_answer}
use Rattle.flat_model.specs.Refusal.{is_refusal}
use Rattle.flat_model.specs.Records.{FileInode, FileRecord, InodeRecord}
use Rattle.flat_model.specs.Volume.{RunSub, Subvolume}
use Rattle.flat_model.specs.Walk.{WalkEnd, ino_at, is_absent, is_blocked}
use Rattle.file_ops.specs.declared.place.There.{There}
use Rattle.file_ops.specs.declared.place.There.TheVariants.{At, Missing, Blocked}

-- the inode at the end of a walk has this number, and is there
pub record IsInodeAt (sub : Subvolume) (place : WalkEnd) (ino : ℕ) : Type 0 where
  pub present : is_absent place ≡ false
  pub open_way : is_blocked place ≡ false
  pub ino_is : ino_at place ≡ Some ino
  pub inode : InodeRecord
  pub there : get sub.inodes ino ≡ Some inode

-- what stands at the end of a walk
abbrev pub IsThere : Subvolume → WalkEnd → There → Type 0
IsThere sub place (At ino) = IsInodeAt sub place ino.0
IsThere sub place Missing = is_absent place ≡ true
IsThere sub place Blocked = (is_absent place ≡ false) × (is_blocked place ≡ true)

-- the inode at the end of a walk has this number, and is a file
pub record IsFileAt (sub : Subvolume) (place : WalkEnd) (ino : ℕ) : Type 0 where
  pub at : IsInodeAt sub place ino
  pub file : FileRecord
  pub is : at.inode ≡ FileInode file

-- no file is at the end of a walk, and this refusal is the answer of each operation on a file's contents
pub record IsRefusedFile (run : RunSub) (place : WalkEnd) (answer : Answer) : Type 0 where
  pub first : (rows : List (Bool × Answer)) → first_answer (file_rows run place rows) ≡ Some answer
  pub refuses : is_refusal answer ≡ true
