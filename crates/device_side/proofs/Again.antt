-- The write of a superblock whose write had failed before.
use Rattle.std.proofs.Common.{◌∷◌, [], ℕ, List, Option, Some, None, Bool, false, refl, sym, ◌∙◌, arith}
use Rattle.blk_base.specs.Trees.{AtBlock}
use Rattle.blk_base.proofs.Members.{in_head, in_one, in_tail}
use Rattle.disk_model.specs.Disk.{Changes, Continues, IfBoth, Image, IsCutOff, TellsMore, Told, super_written}
use Rattle.disk_model.proofs.CrashLaws.{GoesOn-same}
use Rattle.batch_write.specs.Batch.{HasWritten, SameOutside, numbers_of, super_call}
use Rattle.batch_write.proofs.CallLemmas.{cut_off, until_failed}
use Rattle.batch_write.proofs.ImageLemmas.{IsNext, same_begins, same_goes_on}
use Rattle.device_side.proofs.Joining.{same_joined, same_more}

-- nothing was told yet
begins : (told : Option Told) → TellsMore told told []
begins None = tt
begins (Some told) = GoesOn-same told

pub again_cut_off : (before new : Option Told) (superblock : List ℕ) (seen : Option Image) → Continues before new false (super_written superblock false seen)
    → IfBoth before new (λ old now. IsCutOff old now (super_call superblock ∷ []))
again_cut_off before new superblock seen goes =
    cut_off before new (super_call superblock ∷ []) [] (super_call superblock) [] refl (until_failed before before new [] (super_call superblock) _ (begins before) goes)

-- a write of block 16 changes block 16 at most
pub super_same : (before new : Option Image) (superblock : List ℕ) (ok : Bool) → Changes before new 16 superblock ok → IfBoth before new (SameOutside (16 ∷ []))
super_same before new superblock ok changes =
    let item : AtBlock = (record { 0 = 65536 }, superblock) in
    let next : IsNext (item ∷ []) 0 item = record { within = omega arith; is = refl } in
    same_goes_on (item ∷ []) 0 item before before new superblock ok next (same_begins (numbers_of (item ∷ [])) before) changes

-- what block 16 has may change ahead of a commit's writes
pub written_after : (batch : List AtBlock) (old mid new : Image) → SameOutside (16 ∷ []) old mid → HasWritten batch mid new → HasWritten batch old new
written_after batch old mid new one two = record {
  size = two.size ∙ one.size;
  written = two.written;
  others = λ at other outside. two.others at other outside ∙ one.others at (λ there. other (sym (in_one 16 at there)));
}

pub untried_first : (numbers : List ℕ) (old new : Image) → SameOutside (16 ∷ []) old new → SameOutside (16 ∷ numbers) old new
untried_first numbers old new same =
    same_more (16 ∷ []) (16 ∷ numbers) old new (λ at there. in_head 16 at numbers (in_one 16 at there)) same

pub untried_after : (numbers : List ℕ) (old mid new : Image) → SameOutside (16 ∷ []) old mid → SameOutside numbers mid new → SameOutside (16 ∷ numbers) old new
untried_after numbers old mid new one two =
    same_joined (16 ∷ numbers) old mid new (untried_first numbers old mid one) (same_more numbers (16 ∷ numbers) mid new (λ at there. in_tail 16 at numbers there) two)
