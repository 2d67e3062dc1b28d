-- The record that a disk in memory keeps, read as the calls that it tells.
use Rattle.std.specs.Prelude.{◌≡◌, ◌==◌, ◌||◌, ◌&&◌, ℕ, cond, Contains, List, [], ◌∷◌, Bool, true, false, slice_index_or, slice_set}
use Rattle.disk_model.specs.Disk.{Image, Call, Held, Told, held_now}
use Rattle.disk_memory.specs.declared.entry.Entry.{Entry}
use Rattle.disk_memory.specs.declared.entry.Entry.TheVariants.{Write, Super, Flush}

-- The call of an entry, made on a disk that reads as this image: a call that failed leaves its block as it was (own).
abbrev pub call_of : Image → Entry → Call
call_of image (Write place bytes true) = Call.Write place.at bytes true bytes
call_of image (Write place bytes false) = Call.Write place.at bytes false (slice_index_or image place.at [])
call_of image (Super bytes true) = Call.Super bytes true bytes
call_of image (Super bytes false) = Call.Super bytes false (slice_index_or image 16 [])
call_of image (Flush ok) = Call.Flush ok

-- what a read gives after a call (own)
abbrev pub image_by : Image → Call → Image
image_by image (Call.Write at bytes ok left) = slice_set image at left
image_by image (Call.Super bytes ok left) = slice_set image 16 left
image_by image (Call.Flush ok) = image

-- the calls of the entries, made one after the other on a disk that reads as this image at first (own)
abbrev pub calls_of : Image → List Entry → List Call
calls_of image [] = []
calls_of image (entry ∷ entries) = call_of image entry ∷ calls_of (image_by image (call_of image entry)) entries

-- what a read gives after them (own)
abbrev pub reads_by : Image → List Entry → Image
reads_by image [] = image
reads_by image (entry ∷ entries) = reads_by (image_by image (call_of image entry)) entries

-- what a disk tells that had this image at first, all of it durable (own)
abbrev pub told_by : Image → List Entry → Told
told_by image entries =
    record { first = image; supers = slice_index_or image 16 [] ∷ []; calls = calls_of image entries }

-- the lost blocks of such a disk (own)
abbrev pub lost_by : Image → List Entry → List ℕ
lost_by image entries = (held_now (told_by image entries)).lost

-- whether a block is pending after this call, by whether it was (own)
abbrev pub pending_then : Entry → ℕ → Bool → Bool
pending_then (Write place bytes ok) at pending = (place.at == at) || pending
pending_then (Super bytes ok) at pending = pending
pending_then (Flush ok) at pending = false

-- whether it is lost then, by whether it was pending and whether it was lost (own)
abbrev pub lost_then : Entry → ℕ → Bool → Bool → Bool
lost_then (Write place bytes ok) at pending lost = cond (ok && (place.at == at)) false lost
lost_then (Super bytes ok) at pending lost = lost
lost_then (Flush ok) at pending lost = cond ok lost (pending || lost)

-- the block is pending, and lost, where these say so (own)
pub record IsStateOf (held : Held) (at : ℕ) (pending lost : Bool) : Type 0 where
  pub is_pending : pending ≡ true → Contains held.pending at
  pub is_lost : lost ≡ true → Contains held.lost at

-- no entry is a write of the superblock that answered Ok (own)
abbrev pub has_no_super : List Entry → Bool
has_no_super [] = true
has_no_super (Write place bytes ok ∷ entries) = has_no_super entries
has_no_super (Super bytes true ∷ entries) = false
has_no_super (Super bytes false ∷ entries) = has_no_super entries
has_no_super (Flush ok ∷ entries) = has_no_super entries
