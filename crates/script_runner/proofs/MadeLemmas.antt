-- The volume that the words of `mkfs` ask for.
use Rattle.std.proofs.Common.{◌≡◌, ◌∷◌, [], List, ℕ, inl, inr}
use Rattle.disk_model.specs.Disk.{Image}
use Rattle.volume_image.specs.Stands.{super_block}
use Rattle.script_runner.specs.Mkfs.{IsOldOrAsked, IsOldOrMade}
use Rattle.script_runner.specs.Words.{IsNumber}
use Rattle.volume_mkfs.specs.Made.{IsOldOrBare}

-- a superblock that stays is one that any command may leave
pub old_asked : (words : List (List ℕ)) (superblock : List ℕ) (image : Image) → super_block image ≡ superblock → IsOldOrAsked words superblock image
old_asked [] superblock image same = same
old_asked (a ∷ []) superblock image same = same
old_asked (a ∷ b ∷ []) superblock image same = same
old_asked (a ∷ b ∷ c ∷ []) superblock image same = same
old_asked (a ∷ b ∷ c ∷ d ∷ []) superblock image same = inl same
old_asked (a ∷ b ∷ c ∷ d ∷ e ∷ words) superblock image same = same

-- a volume that was made is the one that the words ask for
pub old_or_made : (subs : List ℕ) (count : ℕ) → IsNumber subs count → (superblock : List ℕ) (image : Image) → IsOldOrBare count superblock image → IsOldOrMade subs superblock image
old_or_made subs count is superblock image either = elim either [ inl same ↦ inl same | inr stands ↦ inr (count, is, stands) ]
