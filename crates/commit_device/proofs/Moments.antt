-- What each image of a disk's record stands for, by the happenings that it tells.
use Rattle.std.proofs.Common.{◌≡◌, ℕ, zero, suc, Bool, List, [], ◌∷◌, ◌++◌, drop, length, take, Option, Some, None, refl, sym, ap, subst, ◌∙◌, inl, inr, arith}
use Rattle.disk_model.specs.Disk.{Call, GoesOn, Held, Image, IsSince, Leaves, LeavesFrom, Moment, Told, after_call, after_calls, during_call, held_first, held_now}
use Rattle.disk_model.proofs.CrashLaws.{held_first-goes_on}
use Rattle.flat_model.specs.Volume.{Volume}
use Rattle.commit_images.specs.Images.{EachImageStands, StandsBy, history_in}
use Rattle.commit_images.specs.Scene.{Commit, Happening, Comes, Writes, Flushes, WritesSuper, WritesAgain, Scene, during_super, first_of, held_during, scene_after, scene_behind}
use Rattle.commit_device.specs.Calls.{AreTold, HoldsAtLeast, calls_of, device_call_of, super_calls}
use Rattle.commit_device.specs.Moments.{EachMomentStands, StandsBehind, calls_over}
use Rattle.commit_device.proofs.Joined.{held_after}
use Rattle.commit_device.proofs.Told.{Covers, covers, covers_after, covers_during, covers_untold, left_covered}

-- ---- the moments of a record

-- each image that a crash may leave at a moment of these calls has P, by the calls that are over
abbrev pub EachMoment : Held → List Call → (List Call → Image → Type 0) → Type 0
EachMoment held calls P = (moment : Moment) (image : Image) → LeavesFrom held calls moment image → P (take (calls_over moment) calls) image

each_none : (P : List Call → Image → Type 0) (held : Held) → ((image : Image) → Leaves held image → P [] image) → EachMoment held [] P
each_none P held all (Moment.Between zero) image leaves = all image leaves.1
each_none P held all (Moment.Between (suc k)) image leaves = absurd (omega (arith, leaves.0))
each_none P held all (Moment.Inside k) image leaves = absurd leaves

each_call : (P : List Call → Image → Type 0) (held : Held) (call : Call) (calls : List Call) → ((image : Image) → Leaves held image → P [] image) → ((image : Image) → Leaves (during_call held call) image → P [] image)
    → EachMoment (after_call held call) calls (λ over. P (call ∷ over)) → EachMoment held (call ∷ calls) P
each_call P held call calls before during later (Moment.Between zero) image leaves = before image leaves.1
each_call P held call calls before during later (Moment.Between (suc k)) image leaves = later (Moment.Between k) image (omega (arith, leaves.0), leaves.1)
each_call P held call calls before during later (Moment.Inside zero) image leaves = during image leaves
each_call P held call calls before during later (Moment.Inside (suc k)) image leaves = later (Moment.Inside k) image leaves

-- at the moments since the first of the calls are over
since_each : (P : List Call → Image → Type 0) (held : Held) (xs ys : List Call) → EachMoment (after_calls held xs) ys P → (moment : Moment) (image : Image) → IsSince (length xs) moment → LeavesFrom held (xs ++ ys) moment image
    → P (drop (length xs) (take (calls_over moment) (xs ++ ys))) image
since_each P held [] ys each moment image since leaves = each moment image leaves
since_each P held (x ∷ xs) ys each (Moment.Between zero) image since leaves = absurd (omega (arith, since))
since_each P held (x ∷ xs) ys each (Moment.Between (suc k)) image since leaves =
    since_each P (after_call held x) xs ys each (Moment.Between k) image (omega (arith, since)) (omega (arith, leaves.0), leaves.1)
since_each P held (x ∷ xs) ys each (Moment.Inside zero) image since leaves = absurd (omega (arith, since))
since_each P held (x ∷ xs) ys each (Moment.Inside (suc k)) image since leaves =
    since_each P (after_call held x) xs ys each (Moment.Inside k) image (omega (arith, since)) leaves

-- ---- the calls that happenings are

-- what a happening is to the disk: nothing, or one call
data IsCall (scene : Scene) (happening : Happening) : Type 0 where
  NoCall : device_call_of scene happening ≡ [] → IsCall scene happening
  OneCall : (call : Call) → device_call_of scene happening ≡ call ∷ [] → held_during scene happening ≡ during_call scene.held call → IsCall scene happening

-- the same of a superblock's write
data IsSuperWrite (held : Held) (commit : Option Commit) (ok : Bool) (left : List ℕ) : Type 0 where
  NoSuper : super_calls commit ok left ≡ [] → IsSuperWrite held commit ok left
  OneSuper : (call : Call) → super_calls commit ok left ≡ call ∷ [] → during_super held commit ok left ≡ during_call held call → IsSuperWrite held commit ok left

super_write : (held : Held) (commit : Option Commit) (ok : Bool) (left : List ℕ) → IsSuperWrite held commit ok left
super_write held None ok left = NoSuper refl
super_write held (Some commit) ok left = OneSuper (Call.Super commit.superblock ok left) refl refl

is_call : (scene : Scene) (happening : Happening) → IsCall scene happening
is_call scene (Comes e handed) = NoCall refl
is_call scene (Writes at bytes ok left) = OneCall (Call.Write at bytes ok left) refl refl
is_call scene (Flushes ok) = OneCall (Call.Flush ok) refl refl
is_call scene (WritesSuper ok left) = elim (super_write scene.held scene.batch ok left) [ NoSuper none ↦ NoCall none | OneSuper call is during ↦ OneCall call is during ]
is_call scene (WritesAgain ok left) = elim (super_write scene.held (first_of scene.found) ok left) [ NoSuper none ↦ NoCall none | OneSuper call is during ↦ OneCall call is during ]

-- ---- what stands

module _ (Stands : Image → Volume → Type 0) (volume : Volume) where
  -- what stands behind the first of these happenings has P, by the calls that are told of them
  abbrev pub StandingHas : Scene → List Happening → (List Call → Image → Type 0) → Type 0
  StandingHas scene happenings P = (first rest : List Happening) (over : List Call) → happenings ≡ first ++ rest → AreTold (calls_of volume scene first) over
      → (image : Image) → StandsBy Stands (history_in volume (scene_behind volume scene first)) volume image → P over image

  -- each image of a record that tells of these happenings has what stands
  abbrev pub HoldsFrom : Scene → List Happening → Type 1
  HoldsFrom scene happenings = (P : List Call → Image → Type 0) (now : Held) (calls : List Call) → Covers now scene.held → AreTold (calls_of volume scene happenings) calls → StandingHas scene happenings P → EachMoment now calls P

  pub moments_told : (scene : Scene) (happenings : List Happening) → EachImageStands Stands volume scene happenings → (P : List Call → Image → Type 0) (told : Held) (added : List Call) → Covers told scene.held
      → AreTold (calls_of volume scene happenings) added → StandingHas scene happenings P → EachMoment told added P
  moments_told scene [] each P told added is are has =
      subst (λ (calls : List Call). EachMoment told calls P) (sym are) (each_none P told (λ image leaves. has [] [] [] refl refl image (each image (left_covered told scene.held is image leaves))))
  moments_told scene (x ∷ happenings) each P told added is are has = elim (is_call scene x) [
    | NoCall none ↦
        moments_told next happenings each.2 P told added (covers_next told [] none is) (subst (λ (l : List Call). AreTold (l ++ calls_of volume next happenings) added) none are)
        (λ first rest over e told_so. has (x ∷ first) rest over (ap (λ (l : List Happening). x ∷ l) e) (subst (λ (l : List Call). AreTold (l ++ calls_of volume next first) over) (sym none) told_so))
    | OneCall call one during ↦ by call one during (λ Q now calls covered told_so. moments_told next happenings each.2 Q now calls covered told_so) (subst (λ (l : List Call). AreTold (l ++ calls_of volume next happenings) added) one are)
  ]
    where
      next : Scene
      next = scene_after volume scene x

      covers_next : (now : Held) (calls : List Call) → device_call_of scene x ≡ calls → Covers now (after_calls scene.held calls) → Covers now next.held
      covers_next now calls e = subst (Covers now) (sym (held_after volume scene x ∙ ap (after_calls scene.held) e))

      by : (call : Call) → device_call_of scene x ≡ call ∷ [] → held_during scene x ≡ during_call scene.held call → HoldsFrom next happenings → AreTold (call ∷ calls_of volume next happenings) added → EachMoment told added P
      by call one during rest (inl first) = subst (λ (calls : List Call). EachMoment told calls P) (sym first.1) (each_call P told call first.0
          (λ image leaves. has [] (x ∷ happenings) [] refl refl image (each.0 image (left_covered told scene.held is image leaves)))
          (λ image leaves. has [] (x ∷ happenings) [] refl refl image (each.1 image (subst (λ (held : Held). Leaves held image) (sym during) (left_covered (during_call told call) (during_call scene.held call) (covers_during told scene.held call is) image leaves))))
          (rest (λ over. P (call ∷ over)) (after_call told call) first.0 (covers_next (after_call told call) (call ∷ []) one (covers_after told scene.held call is)) first.2
          (λ some others over e told_so. has (x ∷ some) others (call ∷ over) (ap (λ (l : List Happening). x ∷ l) e) (subst (λ (l : List Call). AreTold (l ++ calls_of volume next some) (call ∷ over)) (sym one) (inl (over, refl, told_so))))))
      by call one during rest (inr left_out) = rest P told added (covers_next told (call ∷ []) one (covers_untold told scene.held call left_out.0 is)) left_out.1
          (λ some others over e told_so. has (x ∷ some) others over (ap (λ (l : List Happening). x ∷ l) e) (subst (λ (l : List Call). AreTold (l ++ calls_of volume next some) over) (sym one) (inr (left_out.0, told_so))))

-- each image of a record stands for a volume that survives the history at its moment
pub told_stand : (Stands : Image → Volume → Type 0) (volume : Volume) (scene : Scene) (happenings : List Happening) (old new : Told) (added : List Call)
    → HoldsAtLeast (held_now old) scene.held → GoesOn old new added → AreTold (calls_of volume scene happenings) added
    → EachImageStands Stands volume scene happenings → EachMomentStands Stands volume scene happenings old new
told_stand Stands volume scene happenings old new added holds goes are each = record {
  each = λ moment image since leaves.
      let from_old : LeavesFrom (held_first old) new.calls moment image = subst (λ (held : Held). LeavesFrom held new.calls moment image) (held_first-goes_on old new added goes) leaves in
      let joined : LeavesFrom (held_first old) (old.calls ++ added) moment image = subst (λ (calls : List Call). LeavesFrom (held_first old) calls moment image) goes.calls from_old in
      subst (λ (calls : List Call). P (drop (length old.calls) (take (calls_over moment) calls)) image) (sym goes.calls)
      (since_each P (held_first old) old.calls added (moments_told Stands volume scene happenings each P (held_now old) added (covers (held_now old) scene.held holds) are
      (λ first rest over e told_so left stands. record { first = first; rest = rest; are = e; told = told_so; stands = stands })) moment image since joined);
}
  where
    P : List Call → Image → Type 0
    P = StandsBehind Stands volume scene happenings
