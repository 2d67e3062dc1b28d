-- What a `mkfs` that is done leaves: a run may begin there.
use Rattle.std.proofs.Common.{◌≡◌, ◌≤◌, ◌/◌, ℕ, List, [], ◌∷◌, length, Option, Some, None, Result, Ok, Err, refl, sym, subst, ◌∙◌, inl, inr, arith}
use Rattle.std.specs.Prelude.{Contains, slice_get}
use Rattle.std.proofs.lemmas.Bool.Decides.{leb_tells}
use Rattle.std.proofs.lemmas.List.Elements.{All-contains}
use Rattle.blk_base.specs.Trees.{AtBlock}
use Rattle.batch_write.specs.Batch.{HasBlock, LeavesOnly}
use Rattle.commit_blocks.proofs.Read.{each as each_of}
use Rattle.disk_model.specs.Disk.{Image, IfBoth, IfTold, Leaves, Told, held_now, image_now}
use Rattle.disk_model.proofs.CrashLaws.{Contains-here}
use Rattle.flat_model.specs.Volume.{Volume, bare_volume}
use Rattle.volume_image.specs.Stands.{AgreesOn, StandsBy}
use Rattle.volume_image.proofs.Lists.{in_nothing}
use Rattle.volume_image.proofs.Members.{in_map}
use Rattle.volume_image.proofs.Standing.{one_reach}
use Rattle.volume_mkfs.specs.Made.{HasNew, IsMade, IsNewVolume, MayBeMade, addresses_of}
use Rattle.script_runner.specs.Run.{HasLostNone, IsSettled}

none_left : (numbers : List ℕ) → ((at : ℕ) → Contains numbers at → ⊥) → numbers ≡ []
none_left [] none = refl
none_left (number ∷ numbers) none = absurd (none number (Contains-here number numbers))

module _ (fsid : List ℕ) (blocks subs : ℕ) (superblock : List ℕ) (pairs : List AtBlock) (new : IsNewVolume fsid blocks subs superblock pairs) (told : Told)
    (long : blocks ≤ length (image_now told)) (now : Leaves (held_now told) (image_now told)) (left : LeavesOnly told (HasNew superblock pairs)) where
  same_block : (one two : Image) → HasNew superblock pairs one → HasNew superblock pairs two → (at : ℕ) → Contains (addresses_of pairs) at → slice_get one (at / 4096) ≡ slice_get two (at / 4096)
  same_block one two has_one has_two at there =
      let pair : (item : AtBlock) × Contains pairs item × (item.0.0 ≡ at) = in_map (λ (item : AtBlock). item.0.0) pairs at there in
      subst (λ (a : ℕ). slice_get one (a / 4096) ≡ slice_get two (a / 4096)) pair.2
      (All-contains (HasBlock one) pairs pair.0 has_one.blocks pair.1 ∙ sym (All-contains (HasBlock two) pairs pair.0 has_two.blocks pair.1))

  finds_new : (volume : Volume) (reach : List ℕ) → StandsBy (image_now told) volume reach → (image : Image) → Leaves (held_now told) image → AgreesOn reach (image_now told) image
  finds_new volume reach stands image leaves =
      let has_now = left (image_now told) now in
      let has_image = left image leaves in
      let is : reach ≡ new.reach = one_reach (image_now told) volume (bare_volume subs) reach new.reach stands (new.stands (image_now told) now.blocks long has_now) in
      record {
        size = sym leaves.size;
        super = has_now.super ∙ sym has_image.super;
        blocks = each_of (λ (at : ℕ). slice_get (image_now told) (at / 4096) ≡ slice_get image (at / 4096)) reach
            (λ at there. same_block (image_now told) image has_now has_image at ((new.same at).0 (subst (λ (r : List ℕ). Contains r at) is there)));
      }

-- a volume that was made has no more blocks than the disk
pub made_fits : {A E : Type 0} (result : Result A E) (value : A) (fault : E) (count blocks subs : ℕ) → result ≡ Ok value → ((MayBeMade count blocks subs → ⊥) → result ≡ Err fault) → blocks ≤ count
made_fits result value fault count blocks subs done refused = elim (leb_tells blocks count) [
  | inl fits ↦ fits.1
  | inr beyond ↦ absurd (let failed : Ok value ≡ Err fault = sym done ∙ refused (λ may. (let over = beyond.1 in let on = may.on_disk in omega (arith, over, on))) in cc)
]

-- a disk whose count is at least so many tells an image of as many blocks
pub told_long : (blocks count : ℕ) (seen : Option Image) (told : Option Told) → blocks ≤ count → IfTold told (λ now. seen ≡ Some (image_now now)) → IfTold seen (λ image. length image ≡ count)
    → IfTold told (λ now. blocks ≤ length (image_now now))
told_long blocks count seen None fits reads all = tt
told_long blocks count seen (Some now) fits reads all =
    let is : length (image_now now) ≡ count = subst (λ (s : Option Image). IfTold s (λ image. length image ≡ count)) reads all in
    omega (arith, fits, is)

-- it may, where no block was lost before
pub made_settled : (fsid : List ℕ) (blocks subs : ℕ) (seen : Option Image) (lost lost_now : List ℕ) (before after : Option Told) → IsMade fsid blocks subs seen lost lost_now before after
    → IfTold before (λ old. lost ≡ (held_now old).lost) → IfTold after (λ now. lost_now ≡ (held_now now).lost) → IfTold after (λ now. blocks ≤ length (image_now now))
    → IfTold after (λ now. Leaves (held_now now) (image_now now)) → IfBoth before after (λ old now. HasLostNone old → IsSettled now)
made_settled fsid blocks subs seen lost lost_now None None made old_lost new_lost long left = tt
made_settled fsid blocks subs seen lost lost_now None (Some now) made old_lost new_lost long left = absurd made.calls
made_settled fsid blocks subs seen lost lost_now (Some old) None made old_lost new_lost long left = absurd made.calls
made_settled fsid blocks subs seen lost lost_now (Some old) (Some now) made old_lost new_lost long left = λ none.
    let was : lost ≡ [] = old_lost ∙ none in
    record {
      none_lost = sym new_lost ∙ none_left lost_now (λ at there. in_nothing at (subst (λ (l : List ℕ). Contains l at) was (made.regained.fewer at there)));
      finds = finds_new fsid blocks subs made.superblock made.pairs made.new now long left made.left;
    }
