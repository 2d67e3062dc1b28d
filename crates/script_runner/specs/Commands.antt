-- Commands, when each of their answers comes, and the texts of these answers.
use Rattle.std.specs.Prelude.{◌≡◌, ◌≢◌, ◌≤◌, ◌⊎◌, ◌++◌, ◌∷◌, [], ℕ, List, map, codes, string_bytes, String, Option, Some}
use Rattle.std.specs.Fmt.{decimal}
use Rattle.uuid.specs.Text.{parsed}
use Rattle.disk_model.specs.Disk.{IfTold}
use Rattle.io_edge.specs.Edge.{Takes, TakesFront}
use Rattle.flat_model.specs.Volume.{Volume}
use Rattle.volume_image.specs.Tree.{Image}
use Rattle.volume_image.specs.Stands.{Stands}
use Rattle.volume_listing.specs.Listing.{listing_of}
use Rattle.tree_mount.specs.declared.fault.MountFault.{MountFault}
use Rattle.tree_mount.specs.declared.fault.MountFault.TheVariants.{Disk, OutOfMemory}
use Rattle.tree_mount.specs.Faults.{IsToldFault}
use Rattle.blk_base.specs.Causes.{HasRisen}
use Rattle.volume_mkfs.specs.Made.{MayBeMade}
use Rattle.script_runner.specs.declared.status.Status.{Status}
use Rattle.script_runner.specs.declared.status.Status.TheVariants.{Done, Usage, BadScript, NoVolume, DiskFault, ReadFault, WriteFault, Memory, MkfsRange}
use Rattle.script_text.specs.Kinds.{kind_word}
use Rattle.script_runner.specs.Faults.{fault_line}
use Rattle.script_runner.specs.Words.{IsNumber, IsUuidText}

-- the bytes of each word
abbrev pub bytes_of : {A : Type 0} → List (String A) → List (List ℕ)
bytes_of words = map (λ word. string_bytes word) words

-- the words are `mkfs` and three more (own)
abbrev pub IsMkfs : List (List ℕ) → List ℕ → List ℕ → List ℕ → Type 0
IsMkfs words fsid blocks subs = words ≡ codes "mkfs" ∷ fsid ∷ blocks ∷ subs ∷ []

-- the words are a `mkfs`, whatever its three words (own)
abbrev pub IsAnyMkfs : List (List ℕ) → Type 0
IsAnyMkfs words = (fsid : List ℕ) × (blocks : List ℕ) × (subs : List ℕ) × IsMkfs words fsid blocks subs

-- the word is `list` (own)
abbrev pub IsList : List (List ℕ) → Type 0
IsList words = words ≡ codes "list" ∷ []

-- the word is `run` (own)
abbrev pub IsRun : List (List ℕ) → Type 0
IsRun words = words ≡ codes "run" ∷ []

-- the words are a command (own)
abbrev pub IsCommand : List (List ℕ) → Type 0
IsCommand words = IsAnyMkfs words ⊎ IsList words ⊎ IsRun words

-- the three words of `mkfs` are the text of a uuid, and the numbers of blocks and of subvolumes of a volume that may be made (own)
pub record AreInRange (disk_blocks : ℕ) (fsid blocks subs : List ℕ) : Type 0 where
  pub uuid : IsUuidText fsid
  pub block_count : ℕ
  pub subvolume_count : ℕ
  pub blocks_are : IsNumber blocks block_count
  pub subvolumes_are : IsNumber subs subvolume_count
  pub may_be_made : MayBeMade disk_blocks block_count subvolume_count

-- the words are a `mkfs` whose three words are in range (own)
pub record IsInRange (words : List (List ℕ)) (disk_blocks : ℕ) : Type 0 where
  pub fsid : List ℕ
  pub blocks : List ℕ
  pub subs : List ℕ
  pub is_mkfs : IsMkfs words fsid blocks subs
  pub in_range : AreInRange disk_blocks fsid blocks subs

-- the words are a `mkfs` whose three words aren't in range (own)
pub record IsOutOfRange (words : List (List ℕ)) (disk_blocks : ℕ) : Type 0 where
  pub fsid : List ℕ
  pub blocks : List ℕ
  pub subs : List ℕ
  pub is_mkfs : IsMkfs words fsid blocks subs
  pub out_of_range : AreInRange disk_blocks fsid blocks subs → ⊥

-- the words are a `mkfs` of so many blocks, as a volume may have (own)
pub record AsksForBlocks (words : List (List ℕ)) (block_count : ℕ) : Type 0 where
  pub fsid : List ℕ
  pub blocks : List ℕ
  pub subs : List ℕ
  pub is_mkfs : IsMkfs words fsid blocks subs
  pub blocks_are : IsNumber blocks block_count
  pub least : 4096 ≤ block_count
  pub most : block_count ≤ 65536

-- the three words of `mkfs` say this of a volume (own)
pub record Says (fsid blocks subs : List ℕ) (bytes : List ℕ) (block_count subvolume_count : ℕ) : Type 0 where
  pub uuid : IsUuidText fsid
  pub bytes_are : parsed fsid ≡ Some bytes
  pub blocks_are : IsNumber blocks block_count
  pub subvolumes_are : IsNumber subs subvolume_count

-- the command was done, whether or not its text could be written (own)
abbrev pub IsDone : Status → Type 0
IsDone Done = Unit {0}
IsDone WriteFault = Unit {0}
IsDone other = ⊥

-- the exit status of an answer (own)
abbrev pub code_of : Status → ℕ
code_of Done = 0
code_of Usage = 1
code_of (BadScript line kind) = 2
code_of (NoVolume fault) = 3
code_of DiskFault = 4
code_of (ReadFault taken) = 5
code_of WriteFault = 6
code_of Memory = 7
code_of MkfsRange = 8

-- the answer to a fault of a mount (own)
abbrev pub status_of : MountFault → Status
status_of Disk = DiskFault
status_of OutOfMemory = Memory
status_of fault = NoVolume fault

-- The first fault of an image, or its log, where the disk tells its image; neither the disk's nor out of memory (own).
pub record IsFaultOf (seen : Option Image) (fault : MountFault) : Type 0 where
  pub of_image : IsToldFault seen fault
  pub not_disk : fault ≢ Disk
  pub not_memory : fault ≢ OutOfMemory

-- an answer that a `mkfs`, or words that are no command, may have (own)
abbrev pub IsOfMkfs : Status → Type 0
IsOfMkfs (NoVolume fault) = ⊥
IsOfMkfs (BadScript line kind) = ⊥
IsOfMkfs (ReadFault taken) = ⊥
IsOfMkfs other = Unit {0}

-- the source or its script has a fault (own)
abbrev pub IsOfScript : Status → Type 0
IsOfScript (BadScript line kind) = Unit {0}
IsOfScript (ReadFault taken) = Unit {0}
IsOfScript other = ⊥

-- an answer that a `list` may have (own)
abbrev pub IsOfList : Status → Type 0
IsOfList Usage = ⊥
IsOfList MkfsRange = ⊥
IsOfList (BadScript line kind) = ⊥
IsOfList (ReadFault taken) = ⊥
IsOfList other = Unit {0}

-- the image stands for some volume
abbrev pub HasVolume : Image → Type 0
HasVolume image = (volume : Volume) × Stands image volume

-- the image stands for a volume, and the text is its listing (own)
abbrev pub IsListing : List ℕ → Image → Type 0
IsListing text image = (volume : Volume) × Stands image volume × (text ≡ listing_of volume)

-- the line of a volume that was made: its numbers as they were given (own)
abbrev pub made_line : List (List ℕ) → List ℕ
made_line (command ∷ fsid ∷ blocks ∷ subs ∷ []) = codes "made " ++ blocks ++ codes " " ++ subs ++ codes "\n"
made_line words = []

-- the line of an answer that has one of its own, whatever the command (own)
abbrev pub answer_line : Status → List ℕ
answer_line Done = []
answer_line Usage = codes "usage\n"
answer_line (BadScript line kind) = codes "script " ++ decimal line ++ codes " " ++ kind_word kind ++ codes "\n"
answer_line (NoVolume fault) = fault_line fault
answer_line DiskFault = codes "disk\n"
answer_line (ReadFault taken) = codes "read\n"
answer_line WriteFault = []
answer_line Memory = codes "memory\n"
answer_line MkfsRange = codes "range\n"

-- the text of a listing of this volume with this answer (own)
abbrev pub IsListAnswer : Volume → Status → List ℕ → Type 0
IsListAnswer volume Done text = text ≡ listing_of volume
IsListAnswer volume WriteFault text = text ≡ listing_of volume
IsListAnswer volume other text = text ≡ answer_line other

-- the text of `list` with this answer, on a disk that tells this image (own)
abbrev pub IsListText : Option Image → Status → List ℕ → Type 0
IsListText seen Done text = IfTold seen (IsListing text)
IsListText seen WriteFault text = IfTold seen (IsListing text)
IsListText seen other text = text ≡ answer_line other

-- The text of a command that was done: the line of the volume that was made, or the listing, where the disk tells its image (own).
pub record IsDoneText (words : List (List ℕ)) (seen : Option Image) (text : List ℕ) : Type 0 where
  pub made : IsAnyMkfs words → text ≡ made_line words
  pub listed : IsList words → IfTold seen (IsListing text)

-- the text of a command with this answer, on a disk that tells this image (own)
abbrev pub IsTextOf : List (List ℕ) → Option Image → Status → List ℕ → Type 0
IsTextOf words seen Done text = IsDoneText words seen text
IsTextOf words seen WriteFault text = IsDoneText words seen text
IsTextOf words seen other text = text ≡ answer_line other

-- The sink took a front of the text: all of it after Done, and where its count of faults didn't rise (own).
pub record IsPut (status : Status) (text : List ℕ) (before after : Option (List ℕ)) (faults faults_now : ℕ) : Type 0 where
  pub done : status ≡ Done → Takes before text after
  pub front : TakesFront before text after
  pub whole : (HasRisen faults faults_now → ⊥) → Takes before text after
