-- What a crash may leave while a batch and its superblock are written.
use Rattle.std.proofs.Common.{◌≡◌, ◌≢◌, ◌<◌, ◌+◌, ◌/◌, ◌∷◌, [], ℕ, List, length, All, Contains, Option, Some, None, Bool, true, false, slice_get, slice_set, slice_index_or, refl, sym, ◌∙◌, ap, subst, inl, inr, arith, length-append}
use Rattle.std.proofs.Math.Seq.{take-length}
use Rattle.std.proofs.lemmas.List.{get_or_default, get_or-set_other, get_or-set_same, length-set}
use Rattle.std.proofs.lemmas.List.Elements.{All-set}
use Rattle.std.proofs.lemmas.Option.{slice_get-get_or}
use Rattle.blk_base.specs.Bytes.{IsBlock}
use Rattle.disk_model.specs.Disk.{Image, IsImage, Call, Held, Told, Moment, Leaves, EveryMoment, IfBoth, IfTold, Continues, after_call, during_call, after_calls, held_first, held_now, image_now, written, super_written}
use Rattle.disk_model.proofs.CrashLaws.{held_now-goes_on, EveryMoment-one_call, EveryMoment-joins, EveryMoment-weaker, EveryMoment-same, leaves_after_flush, Leaves-after, settled-writing, slice_get-set_other, slice_get-set_same, Contains-cons_cases, Contains-single, Contains-none}
use Rattle.batch_write.specs.Batch.{AtBlock, HasBatch, HasBlock, IsOldBut, IsOldOrNew, IsTried, LeavesOnly, NoSuper, Regained, numbers_of}
use Rattle.batch_write.proofs.ImageLemmas.{IsNext, number_among, same_or_other}

-- what holds at every moment holds at the last one
pub moments_now : (P : Image → Type 0) (old new : Told) → EveryMoment old new P → LeavesOnly new P
moments_now P old new every image leaves =
    let size : length new.calls ≡ length old.calls + length every.added = ap (λ (calls : List Call). length calls) every.goes_on.calls ∙ length-append old.calls every.added in
    every.each (Moment.Between (length new.calls)) image (omega (arith, size))
    (omega arith, subst (λ (calls : List Call). Leaves (after_calls (held_first new) calls) image) (sym (take-length new.calls)) leaves)

-- one call more
moments_go_on : (P : Image → Type 0) (old now new : Told) (ok : Bool) (call : Call) → EveryMoment old now P → Continues (Some now) (Some new) ok call → ((image : Image) → Leaves (during_call (held_now now) call) image → P image) → EveryMoment old new P
moments_go_on P old now new ok call every goes during =
    EveryMoment-joins P old now new every (EveryMoment-one_call P now new ok call goes during)

-- the moments of a record so far, where it is told
abbrev pub SoFar : (Told → Image → Type 0) → Option Told → Option Told → Type 0
SoFar P before now = IfBoth before now (λ old told. EveryMoment old told (P old))

so_far_goes_on : (P : Told → Image → Type 0) (before now new : Option Told) (ok : Bool) (call : Call) → SoFar P before now → Continues now new ok call
    → IfBoth before now (λ old told. (image : Image) → Leaves (during_call (held_now told) call) image → P old image) → SoFar P before new
so_far_goes_on P None None None ok call so_far goes during = tt
so_far_goes_on P None None (Some new) true call so_far goes during = absurd goes
so_far_goes_on P None None (Some new) false call so_far goes during = absurd goes
so_far_goes_on P None (Some now) new ok call so_far goes during = absurd so_far
so_far_goes_on P (Some old) None new ok call so_far goes during = absurd so_far
so_far_goes_on P (Some old) (Some now) None true call so_far goes during = absurd goes
so_far_goes_on P (Some old) (Some now) None false call so_far goes during = absurd goes
so_far_goes_on P (Some old) (Some now) (Some new) ok call so_far goes during = moments_go_on (P old) old now new ok call so_far goes during

-- ---- the blocks of the batch

-- while a block is written, or once its write is over, any bytes may stand in it
abbrev torn : Held → ℕ → Held
torn held at = record { image = held.image; pending = at ∷ held.pending; lost = held.lost; supers = held.supers }

-- what a crash may leave then, with that block put back to what a read gave, it might leave before
put_back : (held : Held) (at : ℕ) (image : Image) → IsImage held.image → at < length held.image → at ≢ 16 → Leaves (torn held at) image → Leaves held (slice_set image at (slice_index_or held.image at []))
put_back held at image blocks within other leaves = record {
  blocks = All-set IsBlock image at was (blocks at [] within) leaves.blocks;
  size = length-set image at was ∙ leaves.size;
  super = subst (λ (found : List ℕ). Contains held.supers found) (sym (get_or-set_other image at 16 was [] (λ same. other (sym same)))) leaves.super;
  others = λ k not_super settled. elim (same_or_other k at) [
    | inl same ↦ subst (λ n. slice_get (slice_set image at was) n ≡ slice_get held.image n) (sym same) (slice_get-set_same image at was (omega (arith, within, leaves.size)) ∙ sym (slice_get-get_or held.image at [] within))
    | inr apart ↦ slice_get-set_other image at k was apart ∙ leaves.others k not_super
        (settled-writing held at was true was k (λ same. apart (sym same)) settled)
  ];
}
  where
    was : List ℕ
    was = slice_index_or held.image at []

during_write : (old now : Told) (numbers : List ℕ) (at : ℕ) → IsImage (image_now now) → at < length (image_now now) → at ≢ 16 → Contains numbers at → EveryMoment old now (IsOldBut old numbers)
    → (image : Image) → Leaves (torn (held_now now) at) image → IsOldBut old numbers image
during_write old now numbers at blocks within other among every image leaves =
    let was : List ℕ = slice_index_or (image_now now) at [] in
    let mended : Image = slice_set image at was in
    let before : IsOldBut old numbers mended = moments_now (IsOldBut old numbers) old now every mended (put_back (held_now now) at image blocks within other leaves) in record {
      base = before.base;
      left = before.left;
      blocks = leaves.blocks;
      size = sym (length-set image at was) ∙ before.size;
      others = λ k outside. sym (slice_get-set_other image at k was (λ same. outside (subst (Contains numbers) (sym same) among))) ∙ before.others k outside;
    }

-- what a disk says of a read, at this record
pub record IsRead (told : Option Told) (seen : Option Image) (count : ℕ) : Type 0 where
  pub as_told : IfTold told (λ record_. seen ≡ Some (image_now record_))
  pub blocks : IfTold seen IsImage
  pub all : IfTold seen (λ image. length image ≡ count)

read_blocks : (told : Told) (seen : Option Image) (count : ℕ) → IsRead (Some told) seen count → IsImage (image_now told)
read_blocks told seen count read = subst (λ (image : Option Image). IfTold image IsImage) read.as_told read.blocks

read_count : (told : Told) (seen : Option Image) (count : ℕ) → IsRead (Some told) seen count → length (image_now told) ≡ count
read_count told seen count read = subst (λ (image : Option Image). IfTold image (λ blocks. length blocks ≡ count)) read.as_told read.all

-- at the start
pub so_far_begins : (numbers : List ℕ) (told : Option Told) (seen : Option Image) (count : ℕ) → IsRead told seen count → SoFar (λ old. IsOldBut old numbers) told told
so_far_begins numbers None seen count read = tt
so_far_begins numbers (Some told) seen count read = EveryMoment-same (IsOldBut told numbers) told (λ image leaves. record {
  base = image;
  left = leaves;
  blocks = leaves.blocks;
  size = refl;
  others = λ at outside. refl;
})

-- after one write more
pub so_far_writes : (batch : List AtBlock) (k : ℕ) (item : AtBlock) (before now new : Option Told) (seen left : Option Image) (count : ℕ) (bytes : List ℕ) (ok : Bool) → IsRead now seen count → IsNext batch k item
    → item.0.0 / 4096 < count → item.0.0 / 4096 ≢ 16 → SoFar (λ old. IsOldBut old (numbers_of batch)) before now → Continues now new ok (written (item.0.0 / 4096) bytes ok left)
    → SoFar (λ old. IsOldBut old (numbers_of batch)) before new
so_far_writes batch k item before now new seen left count bytes ok read next inside other so_far goes =
    so_far_goes_on (λ old. IsOldBut old numbers) before now new ok (written at bytes ok left) so_far goes (during before now ok read so_far)
  where
    at : ℕ
    at = item.0.0 / 4096

    numbers : List ℕ
    numbers = numbers_of batch

    during : (before now : Option Told) (outcome : Bool) → IsRead now seen count → SoFar (λ old. IsOldBut old numbers) before now
        → IfBoth before now (λ old told. (image : Image) → Leaves (during_call (held_now told) (written at bytes outcome left)) image → IsOldBut old numbers image)
    during None None outcome read so_far = tt
    during None (Some now) outcome read so_far = so_far
    during (Some old) None outcome read so_far = so_far
    during (Some old) (Some now) true read so_far = during_write old now numbers at (read_blocks now seen count read) (omega (arith, inside, read_count now seen count read)) other (number_among batch k item next) so_far
    during (Some old) (Some now) false read so_far = during_write old now numbers at (read_blocks now seen count read) (omega (arith, inside, read_count now seen count read)) other (number_among batch k item next) so_far

-- after a flush, whether it answered Ok or not
pub so_far_flushes : (numbers : List ℕ) (before now new : Option Told) (ok : Bool) → SoFar (λ old. IsOldBut old numbers) before now → Continues now new ok (Call.Flush ok) → SoFar (λ old. IsOldBut old numbers) before new
so_far_flushes numbers before now new ok so_far goes =
    so_far_goes_on (λ old. IsOldBut old numbers) before now new ok (Call.Flush ok) so_far goes (during before now so_far)
  where
    during : (before now : Option Told) → SoFar (λ old. IsOldBut old numbers) before now
        → IfBoth before now (λ old told. (image : Image) → Leaves (during_call (held_now told) (Call.Flush ok)) image → IsOldBut old numbers image)
    during None None so_far = tt
    during None (Some now) so_far = so_far
    during (Some old) None so_far = so_far
    during (Some old) (Some now) so_far = moments_now (IsOldBut old numbers) old now so_far

-- the whole batch is on each image that a crash may leave
abbrev pub IsSettled : List AtBlock → Option Told → Type 0
IsSettled batch told = IfTold told (λ now. LeavesOnly now (λ image. All (HasBlock image) batch))

flush_settles_batch : (batch : List AtBlock) (now new : Option Told) (seen : Option Image) (before lost : List ℕ) → NoSuper batch → IfTold new (λ record_. seen ≡ Some (image_now record_)) → IfTold new (λ record_. lost ≡ (held_now record_).lost) → IfTold seen (λ image. All (HasBlock image) batch)
    → Regained (numbers_of batch) before lost → Continues now new true (Call.Flush true) → IsSettled batch new
flush_settles_batch batch None None seen before lost none as_told lost_told there regained goes = tt
flush_settles_batch batch None (Some new) seen before lost none as_told lost_told there regained goes = absurd goes
flush_settles_batch batch (Some now) None seen before lost none as_told lost_told there regained goes = tt
flush_settles_batch batch (Some now) (Some new) seen before lost none as_told lost_told there regained goes = λ image leaves k d within.
    let read : All (HasBlock (image_now new)) batch = subst (λ (image : Option Image). IfTold image (λ blocks. All (HasBlock blocks) batch)) as_told there in
    let at : ℕ = (slice_index_or batch k d).0.0 / 4096 in
    let among : Contains (numbers_of batch) at = number_among batch k (slice_index_or batch k d) (record { within = within; is = get_or_default batch k (slice_index_or batch k d) d within }) in
    leaves_after_flush now new image goes leaves at (none k d within)
    (λ is. regained.none at among (subst (λ (blocks : List ℕ). Contains blocks at) (sym lost_told) is)) ∙ read k d within

pub batch_settles : (batch : List AtBlock) (now new : Option Told) (seen : Option Image) (before lost : List ℕ) (ok : Bool) → NoSuper batch → IfTold new (λ record_. seen ≡ Some (image_now record_)) → IfTold new (λ record_. lost ≡ (held_now record_).lost) → IfTold seen (λ image. All (HasBlock image) batch)
    → Regained (numbers_of batch) before lost → Continues now new ok (Call.Flush ok) → true ≡ ok → IsSettled batch new
batch_settles batch now new seen before lost true none as_told lost_told there regained goes is = flush_settles_batch batch now new seen before lost none as_told lost_told there regained goes
batch_settles batch now new seen before lost false none as_told lost_told there regained goes is = absurd (cc)

-- ---- the superblock

-- while a superblock is written, or once its write has failed
abbrev found_too : Held → List ℕ → Held
found_too held superblock = record { image = held.image; pending = held.pending; lost = held.lost; supers = superblock ∷ held.supers }

-- an image with the new superblock, put back to what a read gives of the old one, is one from before
with_new_super : (told : Told) (superblock : List ℕ) (image : Image) → IsImage (image_now told) → 16 < length (image_now told) → Leaves (held_now told) (image_now told) → Leaves (found_too (held_now told) superblock) image
    → slice_index_or image 16 [] ≡ superblock → HasBatch told [] superblock image
with_new_super told superblock image blocks within read leaves new =
    let held : Held = held_now told in
    let was : List ℕ = slice_index_or held.image 16 [] in
    let inside : 16 < length image = omega (arith, within, leaves.size) in record {
      base = slice_set image 16 was;
      left = record {
        blocks = All-set IsBlock image 16 was (blocks 16 [] within) leaves.blocks;
        size = length-set image 16 was ∙ leaves.size;
        super = subst (λ (found : List ℕ). Contains held.supers found) (sym (get_or-set_same image 16 was [] inside)) read.super;
        others = λ at other settled. slice_get-set_other image 16 at was other ∙ leaves.others at other settled;
      };
      blocks = leaves.blocks;
      size = sym (length-set image 16 was);
      super = slice_get-get_or image 16 [] inside ∙ ap (λ (bytes : List ℕ). Some bytes) new;
      written = λ k d none. absurd (omega (arith, none));
      others = λ at other outside. sym (slice_get-set_other image 16 at was other);
    }

during_super : (told : Told) (superblock : List ℕ) → IsImage (image_now told) → 16 < length (image_now told) → Leaves (held_now told) (image_now told)
    → (image : Image) → Leaves (found_too (held_now told) superblock) image → IsOldOrNew told [] superblock image
during_super told superblock blocks within read image leaves =
    elim (Contains-cons_cases superblock (held_now told).supers (slice_index_or image 16 []) leaves.super) [
      | inl same ↦ inr (with_new_super told superblock image blocks within read leaves (sym same))
      | inr among ↦ inl (record {
        base = image;
        left = record { blocks = leaves.blocks; size = leaves.size; super = among; others = leaves.others };
        blocks = leaves.blocks;
        size = refl;
        others = λ at outside. refl;
      })
    ]

pub super_moments : (now new : Option Told) (seen left : Option Image) (count : ℕ) (superblock : List ℕ) (ok : Bool) → IsRead now seen count → IfTold now (λ record_. Leaves (held_now record_) (image_now record_)) → 16 < count
    → Continues now new ok (super_written superblock ok left) → SoFar (λ old. IsOldOrNew old [] superblock) now new
super_moments None None seen left count superblock ok read found inside goes = tt
super_moments None (Some new) seen left count superblock true read found inside goes = absurd goes
super_moments None (Some new) seen left count superblock false read found inside goes = absurd goes
super_moments (Some now) None seen left count superblock true read found inside goes = absurd goes
super_moments (Some now) None seen left count superblock false read found inside goes = absurd goes
super_moments (Some now) (Some new) seen left count superblock true read found inside goes =
    EveryMoment-one_call (IsOldOrNew now [] superblock) now new true (Call.Super superblock true superblock) goes
    (during_super now superblock (read_blocks now seen count read) (omega (arith, inside, read_count now seen count read)) found)
super_moments (Some now) (Some new) seen left count superblock false read found inside goes =
    EveryMoment-one_call (IsOldOrNew now [] superblock) now new false (super_written superblock false left) goes
    (during_super now superblock (read_blocks now seen count read) (omega (arith, inside, read_count now seen count read)) found)

-- after Ok only the new superblock is found
super_done : (now new : Option Told) (seen : Option Image) (count : ℕ) (superblock : List ℕ) → IsRead now seen count → IfTold now (λ record_. Leaves (held_now record_) (image_now record_)) → 16 < count
    → Continues now new true (Call.Super superblock true superblock) → IfBoth now new (λ old told. LeavesOnly told (HasBatch old [] superblock))
super_done None None seen count superblock read found inside goes = tt
super_done None (Some new) seen count superblock read found inside goes = goes
super_done (Some now) None seen count superblock read found inside goes = goes
super_done (Some now) (Some new) seen count superblock read found inside goes = λ image leaves.
    let call : Call = Call.Super superblock true superblock in
    let after : Leaves (after_call (held_now now) call) image = subst (λ (held : Held). Leaves held image) (held_now-goes_on now new (call ∷ []) goes) leaves in
    with_new_super now superblock image (read_blocks now seen count read) (omega (arith, inside, read_count now seen count read)) found
    (Leaves-after (held_now now) call image after) (Contains-single superblock (slice_index_or image 16 []) after.super)

pub super_done_at : (now new : Option Told) (seen left : Option Image) (count : ℕ) (superblock : List ℕ) (ok : Bool) → IsRead now seen count → IfTold now (λ record_. Leaves (held_now record_) (image_now record_)) → 16 < count
    → Continues now new ok (super_written superblock ok left) → true ≡ ok → IfBoth now new (λ old told. LeavesOnly told (HasBatch old [] superblock))
super_done_at now new seen left count superblock true read found inside goes is = super_done now new seen count superblock read found inside goes
super_done_at now new seen left count superblock false read found inside goes is = absurd (cc)

-- ---- the superblock after the batch

-- The new superblock over an image with the whole batch.
pub HasBatch-later : (old mid : Told) (batch : List AtBlock) (superblock : List ℕ) (image : Image) → NoSuper batch → LeavesOnly mid (IsTried old batch superblock) → HasBatch mid [] superblock image → HasBatch old batch superblock image
HasBatch-later old mid batch superblock image none tried it = over before.0
  where
    before : IsTried old batch superblock it.base
    before = tried it.base it.left

    written : All (HasBlock image) batch
    written = λ k d within. it.others ((slice_index_or batch k d).0.0 / 4096) (none k d within) (Contains-none _) ∙ before.1 k d within

    over : IsOldOrNew old batch superblock it.base → HasBatch old batch superblock image
    over (inl base) = record {
      base = base.base;
      left = base.left;
      blocks = it.blocks;
      size = it.size ∙ base.size;
      super = it.super;
      written = written;
      others = λ at other outside. it.others at other (Contains-none at) ∙ base.others at outside;
    }
    over (inr base) = record {
      base = base.base;
      left = base.left;
      blocks = it.blocks;
      size = it.size ∙ base.size;
      super = it.super;
      written = written;
      others = λ at other outside. it.others at other (Contains-none at) ∙ base.others at other outside;
    }

-- An image with the whole batch stays one, where no block is written but the superblock.
pub IsTried-later : (old mid : Told) (batch : List AtBlock) (superblock : List ℕ) (image : Image) → NoSuper batch → LeavesOnly mid (IsTried old batch superblock) → IsOldOrNew mid [] superblock image → IsTried old batch superblock image
IsTried-later old mid batch superblock image none tried (inr it) =
    let new = HasBatch-later old mid batch superblock image none tried it in (inr new, new.written)
IsTried-later old mid batch superblock image none tried (inl it) = (over before.0, written)
  where
    before : IsTried old batch superblock it.base
    before = tried it.base it.left

    written : All (HasBlock image) batch
    written = λ k d within. it.others ((slice_index_or batch k d).0.0 / 4096) (Contains-none _) ∙ before.1 k d within

    over : IsOldOrNew old batch superblock it.base → IsOldOrNew old batch superblock image
    over (inl base) = inl (record {
      base = base.base;
      left = base.left;
      blocks = it.blocks;
      size = it.size ∙ base.size;
      others = λ at outside. it.others at (Contains-none at) ∙ base.others at outside;
    })
    over (inr base) = inr (record {
      base = base.base;
      left = base.left;
      blocks = it.blocks;
      size = it.size ∙ base.size;
      super = it.others 16 (Contains-none 16) ∙ base.super;
      written = written;
      others = λ at other outside. it.others at (Contains-none at) ∙ base.others at other outside;
    })

-- before the superblock, with the batch durable
settled_is_tried : (old mid : Told) (batch : List AtBlock) (superblock : List ℕ) → EveryMoment old mid (IsOldBut old (numbers_of batch)) → IsSettled batch (Some mid) → LeavesOnly mid (IsTried old batch superblock)
settled_is_tried old mid batch superblock every settled image leaves = (inl (moments_now (IsOldBut old (numbers_of batch)) old mid every image leaves), settled image leaves)

-- the moments of the batch and of the superblock
pub batch_moments : (batch : List AtBlock) (superblock : List ℕ) (before mid new : Option Told) → NoSuper batch → SoFar (λ old. IsOldBut old (numbers_of batch)) before mid → IsSettled batch mid → SoFar (λ old. IsOldOrNew old [] superblock) mid new
    → SoFar (λ old. IsOldOrNew old batch superblock) before new
batch_moments batch superblock None None None none so_far settled last = tt
batch_moments batch superblock None None (Some new) none so_far settled last = last
batch_moments batch superblock None (Some mid) new none so_far settled last = absurd so_far
batch_moments batch superblock (Some old) None new none so_far settled last = absurd so_far
batch_moments batch superblock (Some old) (Some mid) None none so_far settled last = last
batch_moments batch superblock (Some old) (Some mid) (Some new) none so_far settled last =
    let P : Image → Type 0 = IsOldOrNew old batch superblock in
    EveryMoment-joins P old mid new (EveryMoment-weaker (IsOldBut old (numbers_of batch)) P old mid (λ image it. inl it) so_far)
    (EveryMoment-weaker (IsOldOrNew mid [] superblock) P mid new (λ image it. (IsTried-later old mid batch superblock image none (settled_is_tried old mid batch superblock so_far settled) it).0) last)

-- only the batch's moments, where a call ended before the superblock
pub batch_moments_before_super : (batch : List AtBlock) (superblock : List ℕ) (before mid : Option Told) → SoFar (λ old. IsOldBut old (numbers_of batch)) before mid → SoFar (λ old. IsOldOrNew old batch superblock) before mid
batch_moments_before_super batch superblock None None so_far = tt
batch_moments_before_super batch superblock None (Some mid) so_far = so_far
batch_moments_before_super batch superblock (Some old) None so_far = so_far
batch_moments_before_super batch superblock (Some old) (Some mid) so_far = EveryMoment-weaker (IsOldBut old (numbers_of batch)) (IsOldOrNew old batch superblock) old mid (λ image it. inl it) so_far

-- what a crash leaves where the call ended before the superblock
pub leaves_before_super : (numbers : List ℕ) (before mid : Option Told) → SoFar (λ old. IsOldBut old numbers) before mid → IfBoth before mid (λ old told. LeavesOnly told (IsOldBut old numbers))
leaves_before_super numbers None None so_far = tt
leaves_before_super numbers None (Some mid) so_far = so_far
leaves_before_super numbers (Some old) None so_far = so_far
leaves_before_super numbers (Some old) (Some mid) so_far = moments_now (IsOldBut old numbers) old mid so_far

-- what it leaves where the superblock was tried
pub leaves_tried : (batch : List AtBlock) (superblock : List ℕ) (before mid new : Option Told) → NoSuper batch → SoFar (λ old. IsOldBut old (numbers_of batch)) before mid → IsSettled batch mid → SoFar (λ old. IsOldOrNew old [] superblock) mid new
    → IfBoth before new (λ old told. LeavesOnly told (IsTried old batch superblock))
leaves_tried batch superblock None None None none so_far settled last = tt
leaves_tried batch superblock None None (Some new) none so_far settled last = last
leaves_tried batch superblock None (Some mid) new none so_far settled last = absurd so_far
leaves_tried batch superblock (Some old) None new none so_far settled last = absurd so_far
leaves_tried batch superblock (Some old) (Some mid) None none so_far settled last = last
leaves_tried batch superblock (Some old) (Some mid) (Some new) none so_far settled last = λ image leaves.
    IsTried-later old mid batch superblock image none (settled_is_tried old mid batch superblock so_far settled) (moments_now (IsOldOrNew mid [] superblock) mid new last image leaves)

-- what it leaves after Ok
pub leaves_done : (batch : List AtBlock) (superblock : List ℕ) (before mid new : Option Told) → NoSuper batch → SoFar (λ old. IsOldBut old (numbers_of batch)) before mid → IsSettled batch mid
    → IfBoth mid new (λ old told. LeavesOnly told (HasBatch old [] superblock)) → IfBoth before new (λ old told. LeavesOnly told (HasBatch old batch superblock))
leaves_done batch superblock None None None none so_far settled last = tt
leaves_done batch superblock None None (Some new) none so_far settled last = last
leaves_done batch superblock None (Some mid) new none so_far settled last = absurd so_far
leaves_done batch superblock (Some old) None new none so_far settled last = absurd so_far
leaves_done batch superblock (Some old) (Some mid) None none so_far settled last = last
leaves_done batch superblock (Some old) (Some mid) (Some new) none so_far settled last = λ image leaves.
    HasBatch-later old mid batch superblock image none (settled_is_tried old mid batch superblock so_far settled) (last image leaves)
