-- The order of an image's faults, step by step.
use Rattle.std.proofs.Common.{◌≡◌, ◌≢◌, ◌≤◌, ℕ, zero, suc, List, [], ◌∷◌, length, Option, Some, None, Result, Ok, Err, refl, sym, ap, subst, ◌∙◌, arith}
use Rattle.std.specs.Prelude.{slice_index_or}
use Rattle.blk_base.specs.declared.fault.SuperFault.{SuperFault}
use Rattle.blk_base.specs.Bytes.{zeros}
use Rattle.blk_base.specs.Items.{RootValue}
use Rattle.blk_base.specs.Superblock.{SuperValue, super_of}
use Rattle.disk_model.specs.Disk.{IfTold}
use Rattle.flat_model.specs.Volume.{subvolume_ids}
use Rattle.image_order.specs.FirstFault.{BadSuper, BadTree, Found, ImageFault, ◌>>=◌, checked, committed_of, or_fault, roots_fault, standing_of, trees_of, with_room}
use Rattle.volume_image.specs.Roots.{root_want, roots_of}
use Rattle.volume_image.specs.Stands.{super_block}
use Rattle.volume_image.specs.Tree.{Image, Walked, tree_of}
use Rattle.tree_mount.specs.Faults.{HasLog, HasSuper, IsFirst}

abbrev pub after_roots : Image → SuperValue → Walked → List RootValue → Result Found ImageFault
after_roots image super walked roots = trees_of image super (subvolume_ids (length roots)) roots walked.reached >>= checked image super

abbrev pub after_root : Image → SuperValue → Walked → Result Found ImageFault
after_root image super walked = or_fault (roots_fault image super) (roots_of walked.items) >>= after_roots image super walked

abbrev pub after_super : Image → SuperValue → Result Found ImageFault
after_super image super = or_fault BadTree (tree_of image super.blocks (root_want super) []) >>= after_root image super

by_super : (image : Image) (super : SuperValue) → HasSuper image super → committed_of image ≡ after_super image super
unfolding committed_of
by_super image super has = ap (λ r. or_fault BadSuper r >>= after_super image) has

pub standing_by : (image : Image) (super : SuperValue) → HasSuper image super → standing_of image ≡ (after_super image super >>= with_room)
unfolding standing_of
standing_by image super has = ap (λ (r : Result Found ImageFault). r >>= with_room) (by_super image super has)

pub one_super : (image : Image) (one two : SuperValue) → HasSuper image one → HasSuper image two → one ≡ two
one_super image one two a b = same (sym a ∙ b)
  where
    same : ◌≡◌ {A = Result SuperValue SuperFault} (Ok one) (Ok two) → one ≡ two
    same e = cc

pub by_rest : (image : Image) (super : SuperValue) (fault : ImageFault) → HasSuper image super → super.log_root ≡ 0 → standing_of image ≡ Err fault → IsFirst image fault
by_rest image super fault has no_log is = record { first = is; no_log = λ other also. subst (λ (s : SuperValue). s.log_root ≡ 0) (one_super image super other has also) no_log }

pub first_fault : (image : Image) (super : SuperValue) (fault : ImageFault) → HasSuper image super → super.log_root ≡ 0 → after_super image super ≡ Err fault → IsFirst image fault
first_fault image super fault has no_log is = by_rest image super fault has no_log (standing_by image super has ∙ ap (λ (r : Result Found ImageFault). r >>= with_room) is)

-- ---- the superblock

pub has_log : (seen : Option Image) (super : SuperValue) → IfTold seen (λ image. HasSuper image super) → super.log_root ≢ 0 → IfTold seen HasLog
has_log None super has log = tt
has_log (Some image) super has log = record { super = super; has_super = has; log = log }

super_first : (image : Image) (fault : SuperFault) → super_of (super_block image) (length image) ≡ Err fault → IsFirst image (BadSuper fault)
unfolding standing_of committed_of
super_first image fault fails = record {
  first = ap (λ (r : Result SuperValue SuperFault). or_fault BadSuper r >>= after_super image >>= with_room) fails;
  no_log = λ super has. absurd (let no : ◌≡◌ {A = Result SuperValue SuperFault} (Ok super) (Err fault) = sym has ∙ fails in cc);
}

past_end : (image : Image) (d : List ℕ) (at : ℕ) → length image ≤ at → slice_index_or image at d ≡ d
past_end [] d zero past = refl
past_end [] d (suc at) past = refl
past_end (block ∷ image) d zero past = absurd (omega arith)
past_end (block ∷ image) d (suc at) past = past_end image d at (omega arith)

-- a disk without the superblock's block counts as zeros there
pub super_past : (seen : Option Image) (count : ℕ) → IfTold seen (λ image. length image ≡ count) → count ≤ 16 → IfTold seen (λ image. super_block image ≡ zeros 4096)
super_past None count all few = tt
super_past (Some image) count all few = past_end image (zeros 4096) 16 (omega arith)

pub super_fails : (seen : Option Image) (bytes : List ℕ) (count : ℕ) (fault : SuperFault) → IfTold seen (λ image. super_block image ≡ bytes) → IfTold seen (λ image. length image ≡ count) → super_of bytes count ≡ Err fault
    → IfTold seen (λ image. IsFirst image (BadSuper fault))
super_fails None bytes count fault block all read = tt
super_fails (Some image) bytes count fault block all read = super_first image fault (ap (λ b. super_of b (length image)) block ∙ ap (super_of bytes) all ∙ read)

pub super_is : (seen : Option Image) (bytes : List ℕ) (count : ℕ) (value : SuperValue) → IfTold seen (λ image. super_block image ≡ bytes) → IfTold seen (λ image. length image ≡ count) → super_of bytes count ≡ Ok value
    → IfTold seen (λ image. HasSuper image value)
super_is None bytes count value block all read = tt
super_is (Some image) bytes count value block all read = ap (λ b. super_of b (length image)) block ∙ ap (super_of bytes) all ∙ read
