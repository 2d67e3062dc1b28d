-- What each image of a crash has at the mount is durable.
use Rattle.std.proofs.Common.{◌≡◌, ◌≢◌, ℕ, ◌<◌, [], List, length, Some, sym, ap, subst, ◌∙◌, arith, get_or-set_other, get_or-set_same, replicate, slice_index}
use Rattle.std.specs.Prelude.{Contains, slice_get, slice_set}
use Rattle.std.proofs.lemmas.List.{length-set, length-replicate}
use Rattle.std.proofs.lemmas.List.Elements.{All-set, All-replicate}
use Rattle.std.proofs.lemmas.Option.{slice_get_within}
use Rattle.disk_model.specs.Disk.{Held, Image, IsBlock, IsUnsettled, Leaves}
use Rattle.disk_model.proofs.CrashLaws.{slice_get-set_other, slice_get-set_same}
use Rattle.flat_model.specs.Volume.{Volume}
use Rattle.flat_model.proofs.Maps.{some_same}
use Rattle.commit_images.specs.Scene.{Commit, Mounted}
use Rattle.commit_images.specs.Images.{IsFoundBy, IsMountedBy}

-- a block of one byte
one_byte : (byte : ℕ) → byte < 256 → IsBlock (replicate 4096 byte)
one_byte byte small = record { size = length-replicate 4096 byte; range = All-replicate (λ b. b < 256) 4096 byte small }

module _ (held : Held) (whole : Leaves held held.image) (big : 16 < length held.image) where
  with_super : (bytes : List ℕ) → Contains held.supers bytes → IsBlock bytes → Leaves held (slice_set held.image 16 bytes)
  with_super bytes found is = record {
    blocks = All-set IsBlock held.image 16 bytes is whole.blocks;
    size = length-set held.image 16 bytes;
    super = subst (Contains held.supers) (sym (get_or-set_same held.image 16 bytes [] big)) found;
    others = λ k not_super settled. slice_get-set_other held.image 16 k bytes not_super;
  }

  with_block : (at : ℕ) (bytes : List ℕ) → at ≢ 16 → IsUnsettled held at → IsBlock bytes → Leaves held (slice_set held.image at bytes)
  with_block at bytes other unsettled is = record {
    blocks = All-set IsBlock held.image at bytes is whole.blocks;
    size = length-set held.image at bytes;
    super = subst (Contains held.supers) (sym (get_or-set_other held.image at 16 bytes [] (λ same. other (sym same)))) whole.super;
    others = λ k not_super settled. slice_get-set_other held.image at k bytes (λ same. settled (subst (IsUnsettled held) (sym same) unsettled));
  }

pub found_is_durable : (Stands : Image → Volume → Type 0) (mounted : Mounted) (held : Held) (first : Commit) → IsFoundBy Stands mounted held first → IsMountedBy Stands mounted held first
found_is_durable Stands mounted held first by =
    let big : 16 < length held.image = subst (λ (image : Image). 16 < length image) (sym by.image) by.size in
    record {
      volume = by.volume;
      image = by.image;
      size = by.size;
      supers = λ bytes c is. sym (get_or-set_same held.image 16 bytes [] big) ∙ (by.found _ (with_super held by.as_it_reads big bytes c is)).superblock;
      durable = λ block c. (by.apart block c, settled block c, (by.found held.image by.as_it_reads).blocks block c);
      stands = by.stands;
    }
  where
    within : (xs : Image) (at : ℕ) (block : List ℕ) → slice_get xs at ≡ Some block → at < length xs
    within xs at block e = slice_get_within xs at block e

    settled : (block : ℕ × List ℕ) → Contains first.blocks block → IsUnsettled held block.0 → ⊥
    settled block c unsettled = zero_is_one (sym (has 0 (omega arith)) ∙ has 1 (omega arith))
      where
        has : (byte : ℕ) → byte < 256 → block.1 ≡ replicate 4096 byte
        has byte small =
            let big : 16 < length held.image = subst (λ (image : Image). 16 < length image) (sym by.image) by.size in
            let there = (by.found held.image by.as_it_reads).blocks block c in
            let left = with_block held by.as_it_reads big block.0 (replicate 4096 byte) (by.apart block c) unsettled (one_byte byte small) in
            some_same block.1 (replicate 4096 byte) (sym ((by.found _ left).blocks block c) ∙ slice_get-set_same held.image block.0 (replicate 4096 byte) (within held.image block.0 block.1 there))

        zero_is_one : replicate {A = ℕ} 4096 0 ≡ replicate {A = ℕ} 4096 1 → ⊥
        zero_is_one e = omega (arith, ap (λ (bytes : List ℕ). slice_index bytes 0) e)
