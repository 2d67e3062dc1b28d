-- What happened and a disk's record, which go on together.
use Rattle.std.proofs.Common.{ℕ, false, List, [], ◌∷◌, ◌++◌, Result, sym, subst, append-nil}
use Rattle.std.specs.Prelude.{slice_index_or}
use Rattle.disk_model.specs.Disk.{Call, GoesOn, Told, held_now}
use Rattle.disk_model.specs.declared.fault.DeviceFault.{DeviceFault}
use Rattle.disk_model.proofs.CrashLaws.{GoesOn-joins}
use Rattle.device_side.specs.Device.{Device}
use Rattle.commit_images.specs.Scene.{Commit, Happening, Mounted, Scene}
use Rattle.commit_device.specs.Calls.{AreTold, HoldsAtLeast}
use Rattle.commit_device.specs.Finish.{HasEnded, IsFinished, KnowsFailed}
use Rattle.commit_device.proofs.Joined.{same_run_behind}
use Rattle.commit_device.proofs.Steps.{Goes, goes_held, goes_on}
use Rattle.commit_device.proofs.Told.{holds_told, holds_untold, told_all, told_joined, told_none}

-- calls that may come lead from one scene to another, and a record tells them
pub record IsLed (mounted : Mounted) (scene behind : Scene) (old new : Told) : Type 0 where
  pub made : List Call
  pub added : List Call
  pub goes : Goes mounted scene behind made
  pub goes_on : GoesOn old new added
  pub told : AreTold made added
  pub held : HoldsAtLeast (held_now new) behind.held

-- all of the calls are told
pub led_by_all : (mounted : Mounted) (scene behind : Scene) (old new : Told) (calls : List Call) → HoldsAtLeast (held_now old) scene.held → Goes mounted scene behind calls → GoesOn old new calls → IsLed mounted scene behind old new
led_by_all mounted scene behind old new calls holds goes told = record {
  made = calls;
  added = calls;
  goes = goes;
  goes_on = told;
  told = told_all calls;
  held = subst (HoldsAtLeast (held_now new)) (sym (goes_held mounted scene behind calls goes)) (holds_told old new scene.held calls holds told);
}

-- all but the write of a superblock that failed
pub led_untold : (mounted : Mounted) (scene mid behind : Scene) (old new : Told) (superblock : List ℕ) → IsLed mounted scene mid old new → Goes mounted mid behind (Call.Super superblock false (slice_index_or mid.held.image 16 []) ∷ []) → IsLed mounted scene behind old new
led_untold mounted scene mid behind old new superblock led goes =
    let left : List ℕ = slice_index_or mid.held.image 16 [] in
    let last : List Call = Call.Super superblock false left ∷ [] in
    record {
      made = led.made ++ last;
      added = led.added;
      goes = goes_on mounted scene mid behind led.made last led.goes goes;
      goes_on = led.goes_on;
      told = subst (AreTold (led.made ++ last)) (append-nil led.added) (told_joined led.made last led.added [] led.told (told_none superblock left));
      held = subst (HoldsAtLeast (held_now new)) (sym (goes_held mounted mid behind last goes)) (holds_untold (held_now new) mid.held superblock led.held);
    }

pub led_joined : (mounted : Mounted) (scene mid behind : Scene) (old told new : Told) → IsLed mounted scene mid old told → IsLed mounted mid behind told new → IsLed mounted scene behind old new
led_joined mounted scene mid behind old told new one two = record {
  made = one.made ++ two.made;
  added = one.added ++ two.added;
  goes = goes_on mounted scene mid behind one.made two.made one.goes two.goes;
  goes_on = GoesOn-joins old told new one.added two.added one.goes_on two.goes_on;
  told = told_joined one.made two.made one.added two.added one.told two.told;
  held = two.held;
}

-- a finish that led there
pub finished : (mounted : Mounted) (scene behind : Scene) (commit : Commit) (result : Result (Unit {0}) DeviceFault) (after : Device) (old new : Told) → IsLed mounted scene behind old new → HasEnded result commit scene behind → KnowsFailed after.failed behind.found
    → (happenings : List Happening) × IsFinished mounted scene commit result after old new happenings
finished mounted scene behind commit result after old new led ended knows =
    let goes : Goes mounted scene behind led.made = led.goes in
    let run = same_run_behind mounted.volume scene goes.happenings goes.alone in (
      goes.happenings,
      record {
        added = led.added;
        admissible = goes.admissible;
        calls_alone = goes.alone;
        goes_on = led.goes_on;
        told = subst (λ (calls : List Call). AreTold calls led.added) (sym goes.calls_are) led.told;
        held = subst (λ (s : Scene). HoldsAtLeast (held_now new) s.held) (sym goes.behind_is) led.held;
        events = run.events;
        batch = run.batch;
        ended = subst (HasEnded result commit scene) (sym goes.behind_is) ended;
        knows = subst (λ (s : Scene). KnowsFailed after.failed s.found) (sym goes.behind_is) knows;
      },
    )
