-- Whether the superblock of a full commit that failed was tried.
use Rattle.std.proofs.Common.{◌≡◌, ◌≢◌, ◌∙◌, Bool, true, false, refl, sym}
use Rattle.std.proofs.lemmas.Bool.{true≢false}
use Rattle.commit_core.specs.Holding.{HasFailed}
use Rattle.commit_images.specs.Admissible.{has_failed}
use Rattle.commit_images.specs.Scene.{IsWritten, NotTried, Progress, Scene}
use Rattle.commit_images.specs.Scene as scenes

tried_by : (progress : Progress) → has_failed progress ≡ true → progress ≡ scenes.HasFailed
tried_by NotTried is = absurd (true≢false (sym is))
tried_by scenes.HasFailed is = refl
tried_by IsWritten is = absurd (true≢false (sym is))

untried_by : (progress : Progress) → progress ≢ IsWritten → has_failed progress ≡ false → progress ≡ NotTried
untried_by NotTried other is = refl
untried_by scenes.HasFailed other is = absurd (true≢false is)
untried_by IsWritten other is = absurd (other refl)

pub was_tried : (scene : Scene) (tried : Bool) → tried ≡ true → HasFailed scene tried → scene.progress ≡ scenes.HasFailed
was_tried scene tried is failed = tried_by scene.progress (sym failed.tells ∙ is)

pub not_tried : (scene : Scene) (tried : Bool) → tried ≡ false → HasFailed scene tried → scene.progress ≡ NotTried
not_tried scene tried is failed = untried_by scene.progress failed.not_written (sym failed.tells ∙ is)
