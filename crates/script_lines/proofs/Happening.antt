-- What happened in the calls of a run, one behind the other.
use Rattle.std.proofs.Common.{◌++◌, ◌∷◌, [], ℕ, List, length, Option, Result, append-nil, refl, sym, ap, subst, ◌∙◌, arith}
use Rattle.commit_device.specs.Calls.{AreTold, calls_of}
use Rattle.commit_device.proofs.Joined.{admissible_joined, behind_joined, calls_joined}
use Rattle.commit_device.proofs.Told.{told_joined}
use Rattle.commit_core.specs.Sealed.{CommitsStandWhole}
use Rattle.commit_images.specs.Admissible.{AreAdmissible, CommitsStand}
use Rattle.commit_images.specs.Scene.{Happening, Mounted, Scene, scene_behind}
use Rattle.disk_model.specs.Disk.{Call}
use Rattle.disk_model.proofs.CrashLaws.{GoesOn-joins}
use Rattle.flat_model.specs.declared.answer.Answer.{Answer}
use Rattle.flat_model.specs.declared.request.Line.{Line}
use Rattle.flat_model.specs.declared.request.Line.TheVariants.{Plain, Start, Step, End}
use Rattle.volume_calls.specs.Between.{Between}
use Rattle.volume_calls.specs.Calls.{HaveHappened}
use Rattle.volume_calls.proofs.Happened.{whole_joined}
use Rattle.volume_image.specs.Stands.{Stands}
use Rattle.volume_image.proofs.Lists.{in_nothing}
use Rattle.script_lines.specs.declared.fault.RunFault.{RunFault}
use Rattle.script_lines.specs.Happened.{AllHappened}
use Rattle.script_lines.specs.Lines.{AreCalled, AllRun, HasRun, MemoryLacked, SinkFailedAtEnd, SinkFailedInLine}

-- a commit that stands by what it reaches stands
pub whole_stand : (size : ℕ) (happenings : List Happening) → CommitsStandWhole size happenings → CommitsStand Stands size happenings
whole_stand size happenings whole = λ came blocks commit there image is same has.
    (let it = whole came blocks commit there image is same has in record { reach = it.reach; by_reach = it.by_reach })

nothing : (mounted : Mounted) (at : Between) → AllHappened mounted at at
nothing mounted at = record {
  happenings = [];
  added = [];
  admissible = tt;
  behind = refl;
  commits = λ e blocks commit c. absurd (in_nothing _ c);
  goes_on = record { first = refl; supers = refl; calls = sym (append-nil at.told.calls) };
  told = refl;
  counted = omega arith;
}

of_call : (mounted : Mounted) (caller : ℕ) (before after : Between) (happenings : List Happening) → HaveHappened mounted caller before after happenings → AllHappened mounted before after
of_call mounted caller before after happenings happened = record {
  happenings = happenings;
  added = happened.added;
  admissible = happened.admissible;
  behind = happened.behind;
  commits = happened.commits;
  goes_on = happened.goes_on;
  told = happened.told;
  counted = happened.counted;
}

joined : (mounted : Mounted) (before mid after : Between) → AllHappened mounted before mid → AllHappened mounted mid after → AllHappened mounted before after
joined mounted before mid after one two = record {
  happenings = one.happenings ++ two.happenings;
  added = one.added ++ two.added;
  admissible = admissible_joined mounted before.scene one.happenings two.happenings one.admissible (subst (λ (s : Scene). AreAdmissible mounted s two.happenings) one.behind two.admissible);
  behind = two.behind ∙ ap (λ (s : Scene). scene_behind mounted.volume s two.happenings) one.behind ∙ sym (behind_joined mounted.volume before.scene one.happenings two.happenings);
  commits = whole_joined (length mounted.image) one.happenings two.happenings one.commits two.commits;
  goes_on = GoesOn-joins before.told mid.told after.told one.added two.added one.goes_on two.goes_on;
  told =
      subst (λ (calls : List Call). AreTold calls (one.added ++ two.added)) (sym (calls_joined mounted.volume before.scene one.happenings two.happenings))
      (told_joined (calls_of mounted.volume before.scene one.happenings) (calls_of mounted.volume (scene_behind mounted.volume before.scene one.happenings) two.happenings) one.added two.added one.told
      (subst (λ (s : Scene). AreTold (calls_of mounted.volume s two.happenings) two.added) one.behind two.told));
  counted = (let early = one.counted in let late = two.counted in omega (arith, early, late));
}

-- calls one behind the other
pub of_calls : (mounted : Mounted) (before : Between) (lines : List Line) (answers : List Answer) (after : Between) → AreCalled mounted before lines answers after → AllHappened mounted before after
of_calls mounted before [] [] after are = subst (AllHappened mounted before) (sym are) (nothing mounted before)
of_calls mounted before [] (answer ∷ answers) after are = absurd are
of_calls mounted before (line ∷ lines) [] after are = absurd are
of_calls mounted before (Plain caller request ∷ lines) (answer ∷ answers) after (next, called, are) =
    joined mounted before next after (of_call mounted caller before next called.happenings called.happened) (of_calls mounted next lines answers after are)
of_calls mounted before (Start caller request ∷ lines) (answer ∷ answers) after are = absurd are
of_calls mounted before (Step caller ∷ lines) (answer ∷ answers) after are = absurd are
of_calls mounted before (End caller ∷ lines) (answer ∷ answers) after are = absurd are

-- a whole run, however it ended
pub of_run : (mounted : Mounted) (lines : List Line) (before after : Between) (taken now : Option (List ℕ)) (result : Result (Unit {0}) RunFault) → HasRun mounted lines before after taken now result
    → AllHappened mounted before after
of_run mounted lines before after taken now _ (AllRun answers called takes) = of_calls mounted before lines answers after called
of_run mounted lines before after taken now _ (SinkFailedInLine front rest caller request answers answer are called few takes) =
    of_calls mounted before (front ++ Plain caller request ∷ []) (answers ++ answer ∷ []) after called
of_run mounted lines before after taken now _ (SinkFailedAtEnd answers called takes) = of_calls mounted before lines answers after called
of_run mounted lines before after taken now _ (MemoryLacked front rest caller request answers mid are called left takes) =
    joined mounted before mid after (of_calls mounted before front answers mid called) (of_call mounted caller mid after left.happenings left.happened)
