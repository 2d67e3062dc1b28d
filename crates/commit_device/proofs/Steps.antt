-- Calls of the device that may come, and the scene that they lead to.
use Rattle.std.proofs.Common.{◌≡◌, ◌≢◌, ℕ, Bool, true, List, [], ◌∷◌, ◌++◌, All, Option, Some, Contains, refl, sym, ap, subst, ◌∙◌, append-nil}
use Rattle.std.proofs.lemmas.List.Elements.{All-append, All-cons, All-nil}
use Rattle.disk_model.specs.Disk.{Call, Held, after_call, after_calls}
use Rattle.commit_images.specs.Scene.{Commit, Happening, Writes, Flushes, WritesSuper, WritesAgain, Mounted, Reaches, Scene, first_of, scene_after, scene_after_again, scene_after_super, scene_behind, state_in}
use Rattle.commit_images.specs.Admissible.{AreAdmissible, MayHappen, MayWriteSuper}
use Rattle.commit_core.specs.Coming.{IsDeviceCall}
use Rattle.commit_device.specs.Calls.{calls_of, device_call_of, super_calls}
use Rattle.commit_device.proofs.Joined.{admissible_joined, behind_joined, calls_joined, held_behind}

-- happenings that may come lead from one scene to another, and are these calls of the disk
pub record Goes (mounted : Mounted) (scene behind : Scene) (calls : List Call) : Type 0 where
  pub happenings : List Happening
  pub admissible : AreAdmissible mounted scene happenings
  pub alone : All IsDeviceCall happenings
  pub behind_is : scene_behind mounted.volume scene happenings ≡ behind
  pub calls_are : calls_of mounted.volume scene happenings ≡ calls

pub goes_none : (mounted : Mounted) (scene : Scene) → Goes mounted scene scene []
goes_none mounted scene = record { happenings = []; admissible = tt; alone = All-nil IsDeviceCall; behind_is = refl; calls_are = refl }

pub goes_one : (mounted : Mounted) (scene : Scene) (happening : Happening) → IsDeviceCall happening → MayHappen mounted scene happening → Goes mounted scene (scene_after mounted.volume scene happening) (device_call_of scene happening)
goes_one mounted scene happening device may = record {
  happenings = happening ∷ [];
  admissible = (may, tt);
  alone = All-cons IsDeviceCall happening [] device (All-nil IsDeviceCall);
  behind_is = refl;
  calls_are = append-nil (device_call_of scene happening);
}

pub goes_on : (mounted : Mounted) (scene mid behind : Scene) (calls more : List Call) → Goes mounted scene mid calls → Goes mounted mid behind more → Goes mounted scene behind (calls ++ more)
goes_on mounted scene mid behind calls more one two = record {
  happenings = one.happenings ++ two.happenings;
  admissible = admissible_joined mounted scene one.happenings two.happenings one.admissible (subst (λ (s : Scene). AreAdmissible mounted s two.happenings) (sym one.behind_is) two.admissible);
  alone = All-append IsDeviceCall one.happenings two.happenings one.alone two.alone;
  behind_is = behind_joined mounted.volume scene one.happenings two.happenings ∙ ap (λ (s : Scene). scene_behind mounted.volume s two.happenings) one.behind_is ∙ two.behind_is;
  calls_are = calls_joined mounted.volume scene one.happenings two.happenings
      ∙ ap (λ (s : Scene). calls_of mounted.volume scene one.happenings ++ calls_of mounted.volume s two.happenings) one.behind_is
      ∙ ap (λ (l : List Call). calls_of mounted.volume scene one.happenings ++ l) two.calls_are ∙ ap (λ (l : List Call). l ++ more) one.calls_are;
}

-- what the disk holds where they lead
pub goes_held : (mounted : Mounted) (scene behind : Scene) (calls : List Call) → Goes mounted scene behind calls → behind.held ≡ after_calls scene.held calls
goes_held mounted scene behind calls goes =
    ap (λ (s : Scene). s.held) (sym goes.behind_is) ∙ held_behind mounted.volume scene goes.happenings ∙ ap (after_calls scene.held) goes.calls_are

-- the scene with another disk
abbrev pub with_held : Scene → Held → Scene
with_held scene held = record scene { held = held }

-- the superblock whose write failed last is written again
pub again_goes : (mounted : Mounted) (scene : Scene) (commit other : Commit) (others : List Commit) (ok : Bool) (left : List ℕ) → scene.found ≡ commit ∷ other ∷ others → (ok ≡ true → left ≡ commit.superblock)
    → Goes mounted scene (scene_after_again scene (commit ∷ other ∷ others) ok left) (Call.Super commit.superblock ok left ∷ [])
again_goes mounted scene commit other others ok left found reads =
    subst (λ (cs : List Commit). Goes mounted scene (scene_after_again scene cs ok left) (super_calls (first_of cs) ok left)) found
    (goes_one mounted scene (WritesAgain ok left) tt (record { commit = commit; other = other; others = others; found = found; reads = reads }))

-- the superblock of the commit that runs is written
pub super_goes : (mounted : Mounted) (scene : Scene) (commit : Commit) (ok : Bool) (left : List ℕ) → scene.batch ≡ Some commit → MayWriteSuper scene ok left
    → Goes mounted scene (scene_after_super (state_in mounted.volume scene) scene (Some commit) ok left) (Call.Super commit.superblock ok left ∷ [])
super_goes mounted scene commit ok left runs may =
    subst (λ (o : Option Commit). Goes mounted scene (scene_after_super (state_in mounted.volume scene) scene o ok left) (super_calls o ok left)) runs
    (goes_one mounted scene (WritesSuper ok left) tt may)

pub flush_goes : (mounted : Mounted) (scene : Scene) (held : Held) (ok : Bool) → Goes mounted (with_held scene held) (with_held scene (after_call held (Call.Flush ok))) (Call.Flush ok ∷ [])
flush_goes mounted scene held ok = goes_one mounted (with_held scene held) (Flushes ok) tt tt

-- a block may be written, whatever the disk holds
pub record IsWritable (scene : Scene) (block : ℕ × List ℕ) : Type 0 where
  pub not_super : block.0 ≢ 16
  pub handed : Contains scene.writable block
  pub unreached : (commit : Commit) → Contains scene.found commit → Reaches commit block.0 → ⊥

pub write_goes : (mounted : Mounted) (scene : Scene) (held : Held) (at : ℕ) (bytes : List ℕ) (ok : Bool) (left : List ℕ) → IsWritable scene (at, bytes) → (ok ≡ true → left ≡ bytes)
    → Goes mounted (with_held scene held) (with_held scene (after_call held (Call.Write at bytes ok left))) (Call.Write at bytes ok left ∷ [])
write_goes mounted scene held at bytes ok left may reads =
    goes_one mounted (with_held scene held) (Writes at bytes ok left) tt (record { not_super = may.not_super; handed = may.handed; unreached = may.unreached; reads = reads })
