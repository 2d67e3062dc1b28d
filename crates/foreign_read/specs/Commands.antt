-- The command `foreign`, when each of its answers comes, and their texts.
use Rattle.std.specs.Prelude.{◌≡◌, ◌∷◌, [], ℕ, List, map, codes, string_bytes, String, Option, Ok, Err}
use Rattle.blk_base.specs.Bytes.{Image}
use Rattle.blk_base.specs.Causes.{HasRisen, IfTold}
use Rattle.io_edge.specs.Edge.{Takes, TakesFront}
use Rattle.foreign_format.specs.declared.fault.ForeignFault.{ForeignFault}
use Rattle.foreign_listing.specs.Listing.{listing_of}
use Rattle.foreign_read.specs.declared.status.ForeignStatus.{ForeignStatus}
use Rattle.foreign_read.specs.declared.status.ForeignStatus.TheVariants.{Done, Usage, NoVolume, DiskFault, WriteFault, Memory}
use Rattle.foreign_read.specs.Faults.{fault_line}

-- the bytes of each word
abbrev pub bytes_of : {A : Type 0} → List (String A) → List (List ℕ)
bytes_of words = map (λ word. string_bytes word) words

-- the words are `foreign` alone (own)
abbrev pub IsForeign : List (List ℕ) → Type 0
IsForeign words = words ≡ codes "foreign" ∷ []

-- the exit status of an answer (own)
abbrev pub code_of : ForeignStatus → ℕ
code_of Done = 0
code_of Usage = 1
code_of (NoVolume fault) = 3
code_of DiskFault = 4
code_of WriteFault = 6
code_of Memory = 7

-- the volume was read to its end, whether or not its listing could be written (own)
abbrev pub IsDone : ForeignStatus → Type 0
IsDone Done = Unit {0}
IsDone WriteFault = Unit {0}
IsDone other = ⊥

-- the image's listing, on a disk of so many blocks that tells it, is this text (own)
abbrev pub IsListing : ℕ → Option Image → List ℕ → Type 0
IsListing blocks seen text = IfTold seen (λ image. listing_of blocks image ≡ Ok text)

-- the image's first fault, on a disk of so many blocks that tells it, is this one (own)
abbrev pub IsFirstFault : ℕ → Option Image → ForeignFault → Type 0
IsFirstFault blocks seen fault = IfTold seen (λ image. listing_of blocks image ≡ Err fault)

-- the text of an answer, on a disk of so many blocks that tells this image: the listing, or the line of the first fault; the
-- other answers have none (own)
abbrev pub IsTextOf : ℕ → Option Image → ForeignStatus → List ℕ → Type 0
IsTextOf blocks seen Done text = IsListing blocks seen text
IsTextOf blocks seen WriteFault text = IsListing blocks seen text
IsTextOf blocks seen (NoVolume fault) text = text ≡ fault_line fault
IsTextOf blocks seen other text = text ≡ []

-- The sink took a front of the text: all of it after Done, and where its count of faults didn't rise (own).
pub record IsPut (status : ForeignStatus) (text : List ℕ) (before after : Option (List ℕ)) (faults faults_now : ℕ) : Type 0 where
  pub done : status ≡ Done → Takes before text after
  pub front : TakesFront before text after
  pub whole : (HasRisen faults faults_now → ⊥) → Takes before text after
