-- What a log step writes, in both forms, says what it leaves of R; which inodes come into the log.
use Rattle.std.proofs.Common.{◌≡◌, ℕ, Bool, true, false, cond, not, ◌&&◌, ◌||◌, List, [], ◌∷◌, Option, None, refl, sym, ap, ◌∙◌, inl, inr, ◌⊎◌, MatchBool}
use Rattle.std.specs.Bool.{nat_eq}
use Rattle.std.specs.Option.{is_some, option_map}
use Rattle.std.specs.FinMap.{get}
use Rattle.std.proofs.lemmas.Bool.{true≢false, or_cases, or_left, or_right, and_parts, eq-eqb, cases_eq}
use Rattle.flat_model.specs.Records.{at_creation}
use Rattle.flat_model.specs.Volume.{Subvolume}
use Rattle.logged_volume.specs.Numbers.{is_in}
use Rattle.logged_volume.specs.Drawn.{drawn_set, is_data_form, members_of}
use Rattle.logged_volume.specs.LogStep.{stepped, with_data, log_step}
use Rattle.logged_volume.specs.Rules.{RoomNumbers, commit_reason}
use Rattle.logged_volume.specs.FlatLog.{FlatLog, is_logged, is_whole}
use Rattle.logged_volume.specs.Written.{is_gone, IsFsyncWritten, IsDataWritten, IsWritten}
use Rattle.logged_volume.specs.Standing.{IsLogOf, AreLogStep}
use Rattle.logged_volume.proofs.LeastSets.{least_set_closed}
use Rattle.logged_volume.proofs.BothForms.{strands_none}
use Rattle.logged_volume.proofs.WrittenLogs.{fsync_writes_log}
use Rattle.logged_volume.proofs.DataLogs.{data_writes_log}

pub step_writes_log : (committed current logged : Subvolume) (target : ℕ) (datasync : Bool) (room : RoomNumbers) (log after : FlatLog) → AreLogStep committed current logged target log → commit_reason current logged target datasync room ≡ None → IsWritten committed current logged target datasync log after → IsLogOf committed (log_step current logged target datasync) after
step_writes_log committed current logged target datasync room log after are none written =
    elim (is_data_form logged target datasync) as (λ b. is_data_form logged target datasync ≡ b →
    MatchBool b (IsDataWritten committed current target log after) (IsFsyncWritten committed current logged target (drawn_set current logged target) (cond b (with_data current logged target) (stepped current logged target (drawn_set current logged target))) log after)
    → IsLogOf committed (cond b (with_data current logged target) (stepped current logged target (drawn_set current logged target))) after) [
      | true ↦ λ t w. data_writes_log committed current logged target log after are (and_parts _ _ t).1 w
      | false ↦ λ f w.
          fsync_writes_log committed current logged target (drawn_set current logged target) log after are
          (least_set_closed current logged target true) (strands_none current logged target datasync room are.volumes.step none f) w
    ] refl written

-- ---- which inodes come

both_none : {A B : Type 0} (o : Option A) (p : Option B) → (is_some o || is_some p) ≡ true → (is_some o ≡ true) ⊎ (is_some p ≡ true)
both_none o p t = or_cases _ _ t

some_if : {A : Type 0} (b : Bool) (o : Option A) → is_some (cond b None o) ≡ true → is_some o ≡ true
some_if true o t = absurd (true≢false (sym t))
some_if false o t = t

some_either : {A : Type 0} (b : Bool) (o p : Option A) → is_some (cond b o p) ≡ true → (b ≡ true) ⊎ (is_some p ≡ true)
some_either true o p t = inl refl
some_either false o p t = inr t

fsync_members : (committed current logged next : Subvolume) (target : ℕ) (members : List ℕ) (log after : FlatLog) → is_in members target ≡ true → IsFsyncWritten committed current logged target members next log after → (ino : ℕ) → is_logged after ino ≡ true → (is_logged log ino ≡ true) ⊎ (is_in members ino ≡ true)
fsync_members committed current logged next target members log after m written ino t =
    elim (cases_eq ino target) [
      | inl same ↦ inr (ap (is_in members) same ∙ m)
      | inr apart ↦ elim (or_cases _ _ t) [
        | inl whole ↦ inl (or_left _ _ (some_if (is_gone current members ino) (get log.whole ino) (ap is_some (sym (written.whole ino apart)) ∙ whole)))
        | inr existing ↦
            elim (some_either (is_in members ino && not (is_some (get log.whole ino))) (option_map at_creation (get current.inodes ino)) (get log.existing ino)
            (some_if (nat_eq ino target) _ (ap is_some (sym (written.existing ino)) ∙ existing))) [
              | inl member ↦ inr (and_parts _ _ member).0
              | inr old ↦ inl (or_right (is_some (get log.whole ino)) _ old)
            ]
      ]
    ]

data_members : (committed current : Subvolume) (target : ℕ) (log after : FlatLog) → IsDataWritten committed current target log after → (ino : ℕ) → is_logged after ino ≡ true → (is_logged log ino ≡ true) ⊎ (is_in (target ∷ []) ino ≡ true)
data_members committed current target log after written ino t =
    elim (cases_eq ino target) [
      | inl same ↦ inr (or_left _ _ (eq-eqb ino target same))
      | inr apart ↦ inl (elim (or_cases _ _ t) [
        | inl whole ↦ or_left _ _ (ap is_some (sym (written.whole ino apart)) ∙ whole)
        | inr existing ↦ or_right (is_some (get log.whole ino)) _ (some_if (nat_eq ino target) (get log.existing ino) (ap is_some (sym (written.existing ino)) ∙ existing))
      ])
    ]

pub members_come : (committed current logged : Subvolume) (target : ℕ) (datasync : Bool) (log after : FlatLog) (ino : ℕ) → IsWritten committed current logged target datasync log after → is_logged after ino ≡ true → (is_logged log ino ≡ true) ⊎ (is_in (members_of current logged target datasync) ino ≡ true)
members_come committed current logged target datasync log after ino written t =
    elim (is_data_form logged target datasync) as (λ b. MatchBool b (IsDataWritten committed current target log after) (IsFsyncWritten committed current logged target (drawn_set current logged target) (cond b (with_data current logged target) (stepped current logged target (drawn_set current logged target))) log after)
    → (is_logged log ino ≡ true) ⊎ (is_in (cond b (target ∷ []) (drawn_set current logged target)) ino ≡ true)) [
      | true ↦ λ w. data_members committed current target log after w ino t
      | false ↦ λ w.
          let first = (least_set_closed current logged target true).first target (or_left _ _ (eq-eqb target target refl)) in
          fsync_members committed current logged _ target (drawn_set current logged target) log after first w ino t
    ] written

pub targets_come : (committed current logged : Subvolume) (target : ℕ) (datasync : Bool) (log after : FlatLog) (ino : ℕ) → IsWritten committed current logged target datasync log after → is_whole after ino ≡ true → (is_whole log ino ≡ true) ⊎ (ino ≡ target)
targets_come committed current logged target datasync log after ino written t =
    elim (cases_eq ino target) [
      | inl same ↦ inr same
      | inr apart ↦ inl (elim (is_data_form logged target datasync) as (λ b. MatchBool b (IsDataWritten committed current target log after) (IsFsyncWritten committed current logged target (drawn_set current logged target) (cond b (with_data current logged target) (stepped current logged target (drawn_set current logged target))) log after) → is_whole log ino ≡ true) [
        | true ↦ λ w. ap is_some (sym (w.whole ino apart)) ∙ t
        | false ↦ λ w. some_if (is_gone current (drawn_set current logged target) ino) (get log.whole ino) (ap is_some (sym (w.whole ino apart)) ∙ t)
      ] written)
    ]
