-- The blocks of an empty volume on a disk.
use Rattle.std.proofs.Common.{◌≡◌, ◌≢◌, ◌≤◌, ◌<◌, ◌+◌, ◌*◌, ◌/◌, ◌%◌, ◌++◌, ◌∷◌, [], ◌⊎◌, ◌∙◌, ℕ, List, Option, Some, None, length, map, slice_get, slice_index_or, unwrap_or, refl, sym, ap, subst, arith, inl, inr, append-nil}
use Rattle.std.specs.Prelude.{All, Contains}
use Rattle.std.specs.List.{flat_map}
use Rattle.std.proofs.lemmas.List.{get_or-map, length-map}
use Rattle.std.proofs.lemmas.List.Elements.{All-contains, All-contains_itself, All-head, All-tail, All-weaker}
use Rattle.std.proofs.lemmas.Option.{get_or_from_slice_get, unwrap_or-slice_get}
use Rattle.blk_base.specs.Address.{IsAllowed}
use Rattle.blk_base.specs.Bytes.{zeros}
use Rattle.blk_base.specs.Trees.{AtBlock, NoneTwice}
use Rattle.blk_base.proofs.Members.{in_cons, in_head, in_nothing, in_tail}
use Rattle.block_table.specs.declared.batch.Batch.{Batch}
use Rattle.block_table.specs.declared.batch.Part.{Part}
use Rattle.disk_model.specs.Disk.{AtEveryMoment, EveryMoment, IfBoth, IfTold, Image, IsImage, Leaves, Told, held_now, image_now}
use Rattle.disk_model.proofs.CrashLaws.{AtEveryMoment-weaker, EveryMoment-same, EveryMoment-weaker}
use Rattle.batch_write.specs.Batch.{HasBatch, HasBlock, HasWritten, IsOldBut, IsOldOrNew, IsPlace, LeavesOnly, numbers_of}
use Rattle.device_side.specs.Device.{Device, to_write, unwritten}
use Rattle.device_side.specs.Written.{MayBeWritten}
use Rattle.flat_model.specs.Volume.{bare_volume}
use Rattle.volume_image.specs.Stands.{Stands, super_block}
use Rattle.volume_mkfs.specs.Made.{CrashLeaves, FindsWhatIsRead, HasNew, HasNewSuper, IsNewVolume, IsOldOrBare, addresses_of}

-- a batch without parts writes its own blocks
pub own_blocks : (device : Device) (batch : Batch) → batch.parts ≡ [] → to_write device batch ≡ batch.blocks.pairs
own_blocks device batch none =
    ap (λ (parts : List Part). batch.blocks.pairs ++ flat_map (unwritten device) parts) none ∙ append-nil batch.blocks.pairs

-- ---- places

numbers_are : (pairs : List AtBlock) → numbers_of pairs ≡ map (λ (at : ℕ). at / 4096) (addresses_of pairs)
numbers_are [] = refl
numbers_are (pair ∷ pairs) = ap (λ (l : List ℕ). pair.0.0 / 4096 ∷ l) (numbers_are pairs)

number_of_one : (blocks : ℕ) (ats : List ℕ) (at : ℕ) → at % 4096 ≡ 0 → All (IsAllowed blocks) ats → Contains (map (λ (a : ℕ). a / 4096) ats) (at / 4096) → Contains ats at
number_of_one blocks [] at whole all there = absurd (in_nothing (at / 4096) there)
number_of_one blocks (other ∷ ats) at whole all there = elim (in_cons (other / 4096) (at / 4096) (map (λ (a : ℕ). a / 4096) ats) there) [
  | inl same ↦ let aligned = (All-head (IsAllowed blocks) other ats all).aligned in in_head other at ats (omega (arith, same, whole, aligned))
  | inr later ↦ in_tail other at ats (number_of_one blocks ats at whole (All-tail (IsAllowed blocks) other ats all) later)
]

numbers_once : (blocks : ℕ) (ats : List ℕ) → All (IsAllowed blocks) ats → NoneTwice ats → NoneTwice (map (λ (a : ℕ). a / 4096) ats)
numbers_once blocks [] all once = tt
numbers_once blocks (at ∷ ats) all once = (
  λ there. once.0 (number_of_one blocks ats at (All-head (IsAllowed blocks) at ats all).aligned (All-tail (IsAllowed blocks) at ats all) there),
  numbers_once blocks ats (All-tail (IsAllowed blocks) at ats all) once.1,
)

address_in : (pairs : List AtBlock) (pair : AtBlock) → Contains pairs pair → Contains (addresses_of pairs) pair.0.0
address_in pairs pair there =
    let address : AtBlock → ℕ = λ one. one.0.0 in
    (there.0, subst (λ (n : ℕ). there.0 < n) (sym (length-map pairs address)) there.1, get_or-map address pairs there.0 pair (address pair) there.1 ∙ ap address there.2)

pub new_places : (fsid : List ℕ) (blocks subs count : ℕ) (superblock : List ℕ) (pairs : List AtBlock) → IsNewVolume fsid blocks subs superblock pairs → blocks ≤ count → MayBeWritten count pairs
new_places fsid blocks subs count superblock pairs new within = record {
  places = All-weaker (Contains pairs) (λ (pair : AtBlock). IsPlace count pair.0)
      (λ pair there. let allowed : IsAllowed blocks pair.0.0 = All-contains (IsAllowed blocks) (addresses_of pairs) pair.0.0 new.allowed (address_in pairs pair there) in
      let inside = allowed.inside in let behind = allowed.behind_super in record { inside = omega (arith, inside, within); not_super = λ same. omega (arith, same, behind); whole = allowed.aligned })
      pairs (All-contains_itself pairs);
  once = subst NoneTwice (sym (numbers_are pairs)) (numbers_once blocks (addresses_of pairs) new.allowed new.once);
}

-- ---- what a crash leaves

has_new : (old : Told) (superblock : List ℕ) (pairs : List AtBlock) (image : Image) → HasBatch old pairs superblock image → HasNew superblock pairs image
has_new old superblock pairs image has = record { super = has.super; blocks = has.written }

pub leaves_new : (before after : Option Told) (superblock : List ℕ) (pairs : List AtBlock) → IfBoth before after (λ old now. LeavesOnly now (HasBatch old pairs superblock)) → IfTold after (λ now. LeavesOnly now (HasNew superblock pairs))
leaves_new None None superblock pairs left = tt
leaves_new None (Some now) superblock pairs left = absurd left
leaves_new (Some old) None superblock pairs left = tt
leaves_new (Some old) (Some now) superblock pairs left = λ image leaves. has_new old superblock pairs image (left image leaves)

-- the number of the superblock's block is none of theirs
none_is_super : (blocks : ℕ) (ats : List ℕ) → All (IsAllowed blocks) ats → Contains (map (λ (a : ℕ). a / 4096) ats) 16 → ⊥
none_is_super blocks [] all there = in_nothing 16 there
none_is_super blocks (at ∷ ats) all there = elim (in_cons (at / 4096) 16 (map (λ (a : ℕ). a / 4096) ats) there) [
  | inl same ↦ let behind = (All-head (IsAllowed blocks) at ats all).behind_super in omega (arith, same, behind)
  | inr later ↦ none_is_super blocks ats (All-tail (IsAllowed blocks) at ats all) later
]

read_same : (one two : Image) → slice_get one 16 ≡ slice_get two 16 → super_block one ≡ super_block two
read_same one two same =
    sym (unwrap_or-slice_get one 16 (zeros 4096)) ∙ ap (λ (o : Option (List ℕ)). unwrap_or o (zeros 4096)) same ∙ unwrap_or-slice_get two 16 (zeros 4096)

-- a record leads to as many blocks as the disk has
pub read_length : (told : Option Told) (seen : Option Image) (count : ℕ) → IfTold told (λ record_. seen ≡ Some (image_now record_)) → IfTold seen (λ image. length image ≡ count) → IfTold told (λ record_. length (image_now record_) ≡ count)
read_length None seen count as_told size = tt
read_length (Some told) seen count as_told size = subst (λ (image : Option Image). IfTold image (λ blocks. length blocks ≡ count)) as_told size

-- a read gives the superblock and the blocks
pub read_new : (before after : Option Image) (superblock : List ℕ) (pairs : List AtBlock) → IfBoth before after (HasWritten pairs) → IfTold after (λ new. slice_get new 16 ≡ Some superblock) → IfTold after (HasNew superblock pairs)
read_new before None superblock pairs written super = tt
read_new None (Some new) superblock pairs written super = absurd written
read_new (Some old) (Some new) superblock pairs written super = record { super = super; blocks = written.written }

-- what follows of an image that a crash leaves
pub crash_weaker : (before after : Option Told) (P Q : List ℕ → Image → Type 0) → ((superblock : List ℕ) (image : Image) → P superblock image → Q superblock image) → CrashLeaves before after P → CrashLeaves before after Q
crash_weaker None after P Q weaken every = tt
crash_weaker (Some old) after P Q weaken every = λ finds. AtEveryMoment-weaker (P (super_block (image_now old))) (Q (super_block (image_now old))) (Some old) after (weaken (super_block (image_now old))) (every finds)

-- where nothing was done
pub crash_same : (P : List ℕ → Image → Type 0) (told : Option Told) → ((superblock : List ℕ) (image : Image) → super_block image ≡ superblock → P superblock image) → CrashLeaves told told P
crash_same P None old = tt
crash_same P (Some before) old = λ finds. EveryMoment-same (P (super_block (image_now before))) before (λ image leaves. old (super_block (image_now before)) image (finds image leaves))

pub still_old : (subs : ℕ) (told : Option Told) → CrashLeaves told told (IsOldOrBare subs)
still_old subs told = crash_same (IsOldOrBare subs) told (λ superblock image same. inl same)

module _ (fsid : List ℕ) (blocks subs count : ℕ) (superblock : List ℕ) (pairs : List AtBlock) (new : IsNewVolume fsid blocks subs superblock pairs) (within : blocks ≤ count) where
  pub new_stands : (image : Image) → IsImage image → length image ≡ count → HasNew superblock pairs image → Stands image (bare_volume subs)
  new_stands image is size has = record { reach = new.reach; by_reach = new.stands image is (omega (arith, size, within)) has }

  old_super : (old : Told) → FindsWhatIsRead old → (image : Image) → IsOldBut old (numbers_of pairs) image → super_block image ≡ super_block (image_now old)
  old_super old finds image but =
      read_same image but.base (but.others 16 (λ there. none_is_super blocks (addresses_of pairs) new.allowed (subst (λ (l : List ℕ). Contains l 16) (numbers_are pairs) there))) ∙ finds but.base but.left

  pub crash_new : (before after : Option Told) → IfTold before (λ told. length (image_now told) ≡ count) → IfBoth before after (λ old now. EveryMoment old now (IsOldOrNew old pairs superblock)) → CrashLeaves before after (IsOldOrBare subs)
  crash_new None after size every = tt
  crash_new (Some old) None size every = λ finds. every
  crash_new (Some old) (Some now) size every = λ finds.
      EveryMoment-weaker (IsOldOrNew old pairs superblock) (IsOldOrBare subs (super_block (image_now old))) old now
      (λ image either. elim either [
        | inl but ↦ inl (old_super old finds image but)
        | inr has ↦ inr (new_stands image has.blocks (has.size ∙ has.left.size ∙ size) (has_new old superblock pairs image has))
      ]) every

  pub all_stand : (seen : Option Image) → IfTold seen IsImage → IfTold seen (λ image. length image ≡ count) → IfTold seen (HasNew superblock pairs) → IfTold seen (λ image. Stands image (bare_volume subs))
  all_stand None is size has = tt
  all_stand (Some image) is size has = new_stands image is size has

  pub super_there : (seen : Option Image) → IfTold seen (HasNew superblock pairs) → IfTold seen (HasNewSuper fsid blocks)
  super_there None has = tt
  super_there (Some image) has = record {
    super = new.super;
    used = length pairs;
    says = new.says;
    spelled = get_or_from_slice_get image 16 superblock (zeros 4096) has.super ∙ new.spelled;
  }
