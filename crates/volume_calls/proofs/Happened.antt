-- Two lists of what happened, one behind the other; one event more; and the calls of a finish.
use Rattle.std.proofs.Common.{◌≡◌, ◌≤◌, ◌+◌, ℕ, List, [], ◌∷◌, ◌++◌, All, length, Contains, refl, sym, ap, subst, ◌∙◌, arith, inl, inr, append-nil}
use Rattle.std.proofs.lemmas.List.Elements.{All-append, All-contains, All-from_recursion, All-nil, All-weaker, Contains-append_cases}
use Rattle.commit_core.specs.Coming.{IsDeviceCall}
use Rattle.commit_core.specs.Sealed.{CommitsStandWhole, StandsWhole}
use Rattle.commit_device.proofs.Joined.{admissible_joined, behind_joined, calls_joined}
use Rattle.commit_device.proofs.Told.{told_joined}
use Rattle.commit_device.specs.Calls.{AreTold, calls_of}
use Rattle.commit_device.specs.Finish.{IsFinished}
use Rattle.commit_history.specs.Calls.{caller_of}
use Rattle.commit_history.specs.declared.event.Event.{Event}
use Rattle.commit_images.specs.Admissible.{AreAdmissible, MayHappen}
use Rattle.commit_images.specs.Scene.{Batch, Comes, Commit, Flushes, Handed, Happening, Mounted, Nothing, Writes, WritesAgain, WritesSuper, scene_after, scene_behind}
use Rattle.disk_model.proofs.CrashLaws.{Contains-single, GoesOn-same}
use Rattle.disk_model.specs.Disk.{Call, GoesOn, Told}
use Rattle.device_side.specs.Device.{Device}
use Rattle.disk_model.specs.declared.fault.DeviceFault.{DeviceFault}
use Rattle.volume_calls.specs.Between.{Between}
use Rattle.volume_calls.specs.Calls.{HaveHappened, IsOfCaller}

-- ---- commits that are handed out

pub whole_joined : (size : ℕ) (one two : List Happening) → CommitsStandWhole size one → CommitsStandWhole size two → CommitsStandWhole size (one ++ two)
whole_joined size one two first second = λ e blocks commit c. elim (Contains-append_cases one two (Comes e (Batch blocks commit)) c) [
  | inl before ↦ first e blocks commit before
  | inr later ↦ second e blocks commit later
]

pub none_whole : (size : ℕ) (happenings : List Happening) → All IsDeviceCall happenings → CommitsStandWhole size happenings
none_whole size happenings alone = λ e blocks commit c. absurd (All-contains IsDeviceCall happenings (Comes e (Batch blocks commit)) alone c)

-- ---- what happened

pub nothing_happened : (mounted : Mounted) (caller : ℕ) (at : Between) → HaveHappened mounted caller at at []
nothing_happened mounted caller at = record {
  added = [];
  admissible = tt;
  behind = refl;
  commits = none_whole (length mounted.image) [] (All-nil IsDeviceCall);
  own = All-nil (IsOfCaller caller);
  goes_on = GoesOn-same at.told;
  told = refl;
  counted = omega arith;
  blocks = refl;
}

goes_joined : (one two three : Told) (first second : List Call) → GoesOn one two first → GoesOn two three second → GoesOn one three (first ++ second)
goes_joined one two three first second a b = record {
  first = b.first ∙ a.first;
  supers = b.supers ∙ a.supers;
  calls = b.calls ∙ ap (λ (calls : List Call). calls ++ second) a.calls ∙ Rattle.std.proofs.Common.append_assoc one.calls first second;
}

pub happened_joined : (mounted : Mounted) (caller : ℕ) (before mid after : Between) (one two : List Happening) → HaveHappened mounted caller before mid one
    → HaveHappened mounted caller mid after two → HaveHappened mounted caller before after (one ++ two)
happened_joined mounted caller before mid after one two a b = record {
  added = a.added ++ b.added;
  admissible = admissible_joined mounted before.scene one two a.admissible (subst (λ s. AreAdmissible mounted s two) a.behind b.admissible);
  behind = b.behind ∙ ap (λ s. scene_behind mounted.volume s two) a.behind ∙ sym (behind_joined mounted.volume before.scene one two);
  commits = whole_joined (length mounted.image) one two a.commits b.commits;
  own = All-append (IsOfCaller caller) one two a.own b.own;
  goes_on = goes_joined before.told mid.told after.told a.added b.added a.goes_on b.goes_on;
  told = subst (λ calls. AreTold calls (a.added ++ b.added)) (sym (calls_joined mounted.volume before.scene one two))
      (told_joined (calls_of mounted.volume before.scene one) (calls_of mounted.volume (scene_behind mounted.volume before.scene one) two) a.added b.added a.told
      (subst (λ s. AreTold (calls_of mounted.volume s two) b.added) a.behind b.told));
  counted = let x = a.counted in let y = b.counted in omega arith;
  blocks = b.blocks ∙ a.blocks;
}

-- behind an event
abbrev pub with_event : Mounted → Between → Event → Handed → Between
with_event mounted at e handed = record at { scene = scene_after mounted.volume at.scene (Comes e handed) }

-- a commit that is handed out stands for its volume
abbrev pub HandsStanding : Mounted → Handed → Type 0
HandsStanding mounted handed = (blocks : List (ℕ × List ℕ)) (commit : Commit) → handed ≡ Batch blocks commit → StandsWhole (length mounted.image) commit

pub hands_nothing : (mounted : Mounted) → HandsStanding mounted Nothing
hands_nothing mounted blocks commit is = absurd (let both : Nothing ≡ Batch blocks commit = is in cc)

pub event_happened : (mounted : Mounted) (caller : ℕ) (at : Between) (e : Event) (handed : Handed) → MayHappen mounted at.scene (Comes e handed) → caller_of e ≡ caller → HandsStanding mounted handed
    → HaveHappened mounted caller at (with_event mounted at e handed) (Comes e handed ∷ [])
event_happened mounted caller at e handed may own stands = record {
  added = [];
  admissible = (may, tt);
  behind = refl;
  commits = λ event blocks commit there. (let same : Comes event (Batch blocks commit) ≡ Comes e handed = Contains-single (Comes e handed) (Comes event (Batch blocks commit)) there in stands blocks commit (cc same));
  own = All-from_recursion (IsOfCaller caller) (Comes e handed ∷ []) (own, tt);
  goes_on = GoesOn-same at.told;
  told = refl;
  counted = omega arith;
  blocks = refl;
}

-- one event more, which hands out nothing or a commit that stands for its volume
pub event_more : (mounted : Mounted) (caller : ℕ) (at now : Between) (happenings : List Happening) (e : Event) (handed : Handed) → HaveHappened mounted caller at now happenings → MayHappen mounted now.scene (Comes e handed)
    → caller_of e ≡ caller → HandsStanding mounted handed → HaveHappened mounted caller at (with_event mounted now e handed) (happenings ++ Comes e handed ∷ [])
event_more mounted caller at now happenings e handed happened may own stands =
    happened_joined mounted caller at now (with_event mounted now e handed) happenings (Comes e handed ∷ []) happened (event_happened mounted caller now e handed may own stands)

device_is_of_none : (caller : ℕ) (happening : Happening) → IsDeviceCall happening → IsOfCaller caller happening
device_is_of_none caller (Comes e handed) device = absurd device
device_is_of_none caller (Writes at bytes ok left) device = tt
device_is_of_none caller (Flushes ok) device = tt
device_is_of_none caller (WritesSuper ok left) device = tt
device_is_of_none caller (WritesAgain ok left) device = tt

-- behind calls of the device
abbrev pub with_calls : Mounted → Between → List Happening → Told → ℕ → Between
with_calls mounted at happenings new faults = record { scene = scene_behind mounted.volume at.scene happenings; told = new; faults = faults; blocks = at.blocks }

pub finish_happened : (mounted : Mounted) (caller : ℕ) (at : Between) (commit : Commit) (result : Rattle.std.specs.Prelude.Result (Unit {0}) DeviceFault) (device : Device) (new : Told) (faults : ℕ) (happenings : List Happening) → at.faults ≤ faults
    → IsFinished mounted at.scene commit result device at.told new happenings → HaveHappened mounted caller at (with_calls mounted at happenings new faults) happenings
finish_happened mounted caller at commit result device new faults happenings counted finished = record {
  added = finished.added;
  admissible = finished.admissible;
  behind = refl;
  commits = none_whole (length mounted.image) happenings finished.calls_alone;
  own = All-weaker IsDeviceCall (IsOfCaller caller) (device_is_of_none caller) happenings finished.calls_alone;
  goes_on = finished.goes_on;
  told = finished.told;
  counted = counted;
  blocks = refl;
}
