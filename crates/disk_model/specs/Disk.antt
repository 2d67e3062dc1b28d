-- A disk of blocks: what it tells of itself, and what a crash may leave of it.
use Rattle.std.specs.Prelude.{◌≡◌, ◌≢◌, ◌==◌, ◌≤◌, ◌+◌, ◌^◌, ◌-◌, ◌⊎◌, ◌++◌, ◌∷◌, [], ℕ, List, length, min, take, cond, Contains, Option, Some, None, Bool, true, false, Result, OnErr, IsSomeAnd, slice_get, slice_set, slice_index_or}
pub use Rattle.blk_base.specs.Bytes.{IsBlock, Image, IsImage}
pub use Rattle.blk_base.specs.Causes.{IfTold, IfBoth, HasRisen, HasCause}

-- A call that changes the disk, with whether it answered Ok. `left` is what its block reads as afterwards (own).
pub data Call : Type 0 where
  Write : (at : ℕ) (bytes : List ℕ) (ok : Bool) (left : List ℕ) → Call
  Super : (bytes : List ℕ) (ok : Bool) (left : List ℕ) → Call
  Flush : (ok : Bool) → Call

-- The record that a disk keeps of itself (own): the image at first, all of it durable but perhaps for the superblock,
-- the superblocks that a crash could find at first, and the calls since, in order.
pub record Told : Type 0 where
  pub first : List (List ℕ)
  pub supers : List (List ℕ)
  pub calls : List Call

-- What a disk holds between two calls (own): what a read gives, but of a lost block; the blocks written since the last flush,
-- or whose write failed since then; the lost blocks; and the superblocks that a crash may find.
--
-- A block is lost once a flush failed while it was pending, until a write of it answers Ok. A read of it gives any bytes, each
-- time perhaps others, and a crash may leave any bytes in it, also after a later flush that answers Ok: where a flush failed,
-- the next one may answer Ok although nothing was written.
pub record Held : Type 0 where
  pub image : List (List ℕ)
  pub pending : List ℕ
  pub lost : List ℕ
  pub supers : List (List ℕ)

-- these numbers without this one
abbrev pub without : ℕ → List ℕ → List ℕ
without at [] = []
without at (number ∷ numbers) = cond (number == at) (without at numbers) (number ∷ without at numbers)

-- the lost blocks after a write of this one: at Ok it isn't lost any more (own)
abbrev pub lost_after : ℕ → Bool → List ℕ → List ℕ
lost_after at true lost = without at lost
lost_after at false lost = lost

-- after a call that is over (own)
abbrev pub after_call : Held → Call → Held
after_call held (Call.Write at bytes ok left) =
    record { image = slice_set held.image at left; pending = at ∷ held.pending; lost = lost_after at ok held.lost; supers = held.supers }
after_call held (Call.Super bytes ok left) =
    record { image = slice_set held.image 16 left; pending = held.pending; lost = held.lost; supers = cond ok (bytes ∷ []) (bytes ∷ held.supers) }
after_call held (Call.Flush ok) =
    record { image = held.image; pending = []; lost = cond ok held.lost (held.pending ++ held.lost); supers = held.supers }

-- While a call runs: the block of a write is pending, and the new superblock may be found (own).
abbrev pub during_call : Held → Call → Held
during_call held (Call.Write at bytes ok left) =
    record { image = held.image; pending = at ∷ held.pending; lost = held.lost; supers = held.supers }
during_call held (Call.Super bytes ok left) =
    record { image = held.image; pending = held.pending; lost = held.lost; supers = bytes ∷ held.supers }
during_call held (Call.Flush ok) = held

-- after these calls, in order (own)
abbrev pub after_calls : Held → List Call → Held
after_calls held [] = held
after_calls held (call ∷ calls) = after_calls (after_call held call) calls

-- before the first call of a record (own)
abbrev pub held_first : Told → Held
held_first told = record { image = told.first; pending = []; lost = []; supers = told.supers }

-- after the last call of a record (own)
abbrev pub held_now : Told → Held
held_now told = after_calls (held_first told) told.calls

-- what a read gives after the last call of a record, but of a lost block (own)
abbrev pub image_now : Told → Image
image_now told = (held_now told).image

-- it isn't known what a crash leaves in this block (own)
abbrev pub IsUnsettled : Held → ℕ → Type 0
IsUnsettled held at = Contains held.pending at ⊎ Contains held.lost at

-- An image that a crash may leave (own): a superblock that it may find, any bytes in the pending and the lost blocks, and every
-- other block as it reads.
pub record Leaves (held : Held) (image : Image) : Type 0 where
  pub blocks : IsImage image
  pub size : length image ≡ length held.image
  pub super : Contains held.supers (slice_index_or image 16 [])
  pub others : (at : ℕ) → at ≢ 16 → (IsUnsettled held at → ⊥) → slice_get image at ≡ slice_get held.image at

-- a moment of a record: after so many of its calls, or while the call of that number runs, from 0 (own)
pub data Moment : Type 0 where
  Between : (calls : ℕ) → Moment
  Inside : (call : ℕ) → Moment

-- from this on, a crash at this moment of these calls may leave this image (own)
abbrev pub LeavesFrom : Held → List Call → Moment → Image → Type 0
LeavesFrom held calls (Moment.Between k) image = (k ≤ length calls) × Leaves (after_calls held (take k calls)) image
LeavesFrom held calls (Moment.Inside k) image =
    IsSomeAnd (slice_get calls k) (λ call. Leaves (during_call (after_calls held (take k calls)) call) image)

-- a crash at this moment of a record may leave this image (own)
abbrev pub LeavesAt : Told → Moment → Image → Type 0
LeavesAt told moment image = LeavesFrom (held_first told) told.calls moment image

-- the moment isn't before the end of the first n calls (own)
abbrev pub IsSince : ℕ → Moment → Type 0
IsSince n (Moment.Between k) = n ≤ k
IsSince n (Moment.Inside k) = n ≤ k

-- the record goes on by these calls (own)
pub record GoesOn (old new : Told) (added : List Call) : Type 0 where
  pub first : new.first ≡ old.first
  pub supers : new.supers ≡ old.supers
  pub calls : new.calls ≡ old.calls ++ added

-- The record goes on, and each image that a crash may leave at a moment since, that of the old record's end and that of
-- the new one's end counted, has P (own).
pub record EveryMoment (old new : Told) (P : Image → Type 0) : Type 0 where
  pub added : List Call
  pub goes_on : GoesOn old new added
  pub each : (moment : Moment) (image : Image) → IsSince (length old.calls) moment → LeavesAt new moment image → P image

-- the same call by call: each image that a crash may leave before, during and after these calls has P (own)
abbrev pub Throughout : Held → List Call → (Image → Type 0) → Type 0
Throughout held [] P = (image : Image) → Leaves held image → P image
Throughout held (call ∷ calls) P =
    ((image : Image) → Leaves held image → P image) × ((image : Image) → Leaves (during_call held call) image → P image) × Throughout (after_call held call) calls P

-- the record goes on by these calls, where it is told (own)
abbrev pub TellsMore : Option Told → Option Told → List Call → Type 0
TellsMore before after added = IfBoth before after (λ old new. GoesOn old new added)

-- The record goes on by this call. One that failed may have left no trace: then the disk is as before (own).
abbrev pub Continues : Option Told → Option Told → Bool → Call → Type 0
Continues before after true call = TellsMore before after (call ∷ [])
Continues before after false call = IfBoth before after (λ old new. GoesOn old new (call ∷ []) ⊎ GoesOn old new [])

-- every image that a crash may leave at a moment since has P, where the moments are told (own)
abbrev pub AtEveryMoment : Option Told → Option Told → (Image → Type 0) → Type 0
AtEveryMoment before after P = IfBoth before after (λ old new. EveryMoment old new P)

-- a block of what a read gives; no bytes where that isn't told (own)
abbrev pub block_of : Option Image → ℕ → List ℕ
block_of None at = []
block_of (Some image) at = slice_index_or image at []

-- The call of a write, by the bytes, whether it answered Ok and what a read gives afterwards: after Ok these bytes (own).
abbrev pub written : ℕ → List ℕ → Bool → Option Image → Call
written at bytes true seen = Call.Write at bytes true bytes
written at bytes false seen = Call.Write at bytes false (block_of seen at)

-- the same of a write of the superblock, which is block 16 (own)
abbrev pub super_written : List ℕ → Bool → Option Image → Call
super_written bytes true seen = Call.Super bytes true bytes
super_written bytes false seen = Call.Super bytes false (block_of seen 16)

-- the two images differ at most in this block (own)
pub record SameBut (at : ℕ) (old new : Image) : Type 0 where
  pub size : length new ≡ length old
  pub others : (k : ℕ) → k ≢ at → slice_get new k ≡ slice_get old k

-- What a read gives after a write: after Ok these bytes in that block, and else anything there. Every other block stays (own).
abbrev pub Changes : Option Image → Option Image → ℕ → List ℕ → Bool → Type 0
Changes before after at bytes true = IfBoth before after (λ old new. new ≡ slice_set old at bytes)
Changes before after at bytes false = IfBoth before after (λ old new. SameBut at old new)

-- a read of this block gives these bytes, where that is told and it isn't one of the lost (own)
abbrev pub ReadGives : Option Image → List ℕ → ℕ → List ℕ → Type 0
ReadGives seen lost at bytes = IfTold seen (λ image. (Contains lost at → ⊥) → slice_get image at ≡ Some bytes)

-- what a read of any block gives, where that is told and none is lost (own)
abbrev pub known : Option Image → List ℕ → Option Image
known seen [] = seen
known seen (at ∷ lost) = None

-- the calls have no write of the superblock (own)
abbrev pub HasNoSuper : List Call → Type 0
HasNoSuper [] = Unit {0}
HasNoSuper (Call.Write at bytes ok left ∷ calls) = HasNoSuper calls
HasNoSuper (Call.Super bytes ok left ∷ calls) = ⊥
HasNoSuper (Call.Flush ok ∷ calls) = HasNoSuper calls

-- the calls have no flush (own)
abbrev pub HasNoFlush : List Call → Type 0
HasNoFlush [] = Unit {0}
HasNoFlush (Call.Write at bytes ok left ∷ calls) = HasNoFlush calls
HasNoFlush (Call.Super bytes ok left ∷ calls) = HasNoFlush calls
HasNoFlush (Call.Flush ok ∷ calls) = ⊥

-- the calls write to this block, or try to (own)
abbrev pub Writes : List Call → ℕ → Type 0
Writes [] block = ⊥
Writes (Call.Write at bytes ok left ∷ calls) block = (at ≡ block) ⊎ Writes calls block
Writes (Call.Super bytes ok left ∷ calls) block = Writes calls block
Writes (Call.Flush ok ∷ calls) block = Writes calls block

-- These calls settle the block with these bytes (own): the last write of it gave them and answered Ok, and so did the first flush
-- after it.
pub record Settles (calls : List Call) (at : ℕ) (bytes : List ℕ) : Type 0 where
  pub before : List Call
  pub between : List Call
  pub after : List Call
  pub are : calls ≡ before ++ Call.Write at bytes true bytes ∷ (between ++ Call.Flush true ∷ after)
  pub unflushed : HasNoFlush between
  pub unwritten_before : Writes between at → ⊥
  pub unwritten_after : Writes after at → ⊥

-- this call, had it failed with that in its block (own)
abbrev pub as_failed : Call → List ℕ → Call
as_failed (Call.Write at bytes ok was) left = Call.Write at bytes false left
as_failed (Call.Super bytes ok was) left = Call.Super bytes false left
as_failed (Call.Flush ok) left = Call.Flush false

-- The record goes on by these calls and by this one, which failed. It may have left no trace (own).
abbrev pub GoesOnUntil : Told → Told → List Call → Call → Type 0
GoesOnUntil old new done failed =
    ((left : List ℕ) × GoesOn old new (done ++ as_failed failed left ∷ [])) ⊎ GoesOn old new done

-- The record goes on by these calls up to one of them that failed (own).
pub record IsCutOff (old new : Told) (calls : List Call) : Type 0 where
  pub done : List Call
  pub failed : Call
  pub rest : List Call
  pub are : calls ≡ done ++ failed ∷ rest
  pub goes_on : GoesOnUntil old new done failed
