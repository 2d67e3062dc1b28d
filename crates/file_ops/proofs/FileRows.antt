-- The rows of operations on contents, one by one.
use Rattle.std.proofs.Common.{◌≡◌, ℕ, Bool, true, false, List, ◌∷◌, Option, Some, None, refl, sym, ap, ◌∙◌}
use Rattle.std.specs.Option.{option_map}
use Rattle.flat_model.specs.declared.answer.Answer.{Answer}
use Rattle.flat_model.specs.declared.answer.Answer.TheVariants.{IsDir, Loop, NoEnt, NotDir}
use Rattle.flat_model.specs.declared.view.Kind.{Kind}
use Rattle.flat_model.specs.declared.view.Kind.TheVariants.{Dir, File, Link}
use Rattle.flat_model.specs.Operations.{file_rows, first_answer}
use Rattle.flat_model.specs.Records.{DirInode, FileInode, FileRecord, InodeRecord, LinkInode, is_dir_record, is_link_record, kind_of}
use Rattle.flat_model.specs.Volume.{RunSub, is_dir_there, is_link_there}
use Rattle.flat_model.specs.Walk.{WalkEnd, is_absent, is_blocked, record_at}
use Rattle.flat_model.proofs.Maps.{some_none, some_same}
use Rattle.file_ops.specs.There.{IsInodeAt}
use Rattle.file_ops.proofs.Answered.{here, past}
use Rattle.file_ops.proofs.Placed.{record_is}

-- ---- kinds

pub dir_is : (inode : InodeRecord) → Dir ≡ kind_of inode → is_dir_record inode ≡ true
dir_is (FileInode file) h = absurd cc
dir_is (DirInode dir) h = refl
dir_is (LinkInode link) h = absurd cc

pub link_is : (inode : InodeRecord) → Link ≡ kind_of inode → (is_dir_record inode ≡ false) × (is_link_record inode ≡ true)
link_is (FileInode file) h = absurd cc
link_is (DirInode dir) h = absurd cc
link_is (LinkInode link) h = (refl, refl)

pub file_is : (inode : InodeRecord) → File ≡ kind_of inode → (file : FileRecord) × (inode ≡ FileInode file)
file_is (FileInode file) h = (file, refl)
file_is (DirInode dir) h = absurd cc
file_is (LinkInode link) h = absurd cc

pub kind_told : (o : Option InodeRecord) (inode : InodeRecord) (kind : Kind) → Some kind ≡ option_map kind_of o → o ≡ Some inode → kind ≡ kind_of inode
kind_told o inode kind told is = some_same kind (kind_of inode) (told ∙ ap (option_map kind_of) is)

pub none_told : (o : Option InodeRecord) (inode : InodeRecord) → None ≡ option_map kind_of o → o ≡ Some inode → ⊥
none_told o inode told is = some_none (kind_of inode) (sym (told ∙ ap (option_map kind_of) is))

-- ---- rows

module _ (run : RunSub) (place : WalkEnd) (rows : List (Bool × Answer)) where
  abbrev link_rows : List (Bool × Answer)
  link_rows = (is_link_there (record_at run.sub place), Loop) ∷ rows

  abbrev dir_rows : List (Bool × Answer)
  dir_rows = (is_dir_there (record_at run.sub place), IsDir) ∷ (is_link_there (record_at run.sub place), Loop) ∷ rows

  pub file_missing : is_absent place ≡ true → first_answer (file_rows run place rows) ≡ Some NoEnt
  file_missing h = here (is_absent place) NoEnt ((is_blocked place, NotDir) ∷ dir_rows) h

  pub file_blocked : is_absent place ≡ false → is_blocked place ≡ true → first_answer (file_rows run place rows) ≡ Some NotDir
  file_blocked a h = past (is_absent place) NoEnt ((is_blocked place, NotDir) ∷ dir_rows) a ∙ here (is_blocked place) NotDir dir_rows h

  to_kind : (ino : ℕ) (at : IsInodeAt run.sub place ino) → first_answer (file_rows run place rows) ≡ first_answer dir_rows
  to_kind ino at = past (is_absent place) NoEnt ((is_blocked place, NotDir) ∷ dir_rows) at.present ∙ past (is_blocked place) NotDir dir_rows at.open_way

  dir_told : (ino : ℕ) (at : IsInodeAt run.sub place ino) → is_dir_there (record_at run.sub place) ≡ is_dir_record at.inode
  dir_told ino at = ap is_dir_there (record_is run.sub place ino at)

  link_told : (ino : ℕ) (at : IsInodeAt run.sub place ino) → is_link_there (record_at run.sub place) ≡ is_link_record at.inode
  link_told ino at = ap is_link_there (record_is run.sub place ino at)

  pub file_dir : (ino : ℕ) (at : IsInodeAt run.sub place ino) → is_dir_record at.inode ≡ true → first_answer (file_rows run place rows) ≡ Some IsDir
  file_dir ino at h = to_kind ino at ∙ here (is_dir_there (record_at run.sub place)) IsDir link_rows (dir_told ino at ∙ h)

  pub file_link : (ino : ℕ) (at : IsInodeAt run.sub place ino) → is_dir_record at.inode ≡ false → is_link_record at.inode ≡ true → first_answer (file_rows run place rows) ≡ Some Loop
  file_link ino at d h = to_kind ino at ∙ past (is_dir_there (record_at run.sub place)) IsDir link_rows (dir_told ino at ∙ d) ∙ here (is_link_there (record_at run.sub place)) Loop rows (link_told ino at ∙ h)

  pub file_more : (ino : ℕ) (at : IsInodeAt run.sub place ino) (file : FileRecord) → at.inode ≡ FileInode file → first_answer (file_rows run place rows) ≡ first_answer rows
  file_more ino at file is =
      to_kind ino at ∙ past (is_dir_there (record_at run.sub place)) IsDir link_rows (dir_told ino at ∙ ap is_dir_record is) ∙ past (is_link_there (record_at run.sub place)) Loop rows (link_told ino at ∙ ap is_link_record is)
