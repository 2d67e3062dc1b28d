-- What three points of a history have in common, and what was made alike.
use Rattle.std.proofs.Common.{◌≡◌, ℕ, ◌≤◌, List, sym, ap, subst, ◌∙◌, arith, inl, inr}
use Rattle.std.specs.Option.{is_some}
use Rattle.std.specs.List.{Contains}
use Rattle.std.specs.FinMap.{get}
use Rattle.flat_model.specs.Volume.{Subvolume, Volume, RunSub, mounted, last_index_in}
use Rattle.flat_model.specs.Coherent.{IsCoherentVolume}
use Rattle.flat_model.specs.Step.{Operated, IsHistory}
use Rattle.flat_model.proofs.Maps.{some_same}
use Rattle.flat_model.proofs.Histories.{mounted_sound}
use Rattle.flat_laws.proofs.Advances.{kinds_once}
use Rattle.logged_volume.specs.Agreement.{KeepsCommon, AreMadeAlike}
use Rattle.logged_volume.proofs.Stepped.{there_gives}
use Rattle.commit_history.specs.Survival.{IsAtPoint, SubSurvives}
use Rattle.commit_history.specs.State.{Synced}
use Rattle.commit_history.proofs.PointsOf.{run_at, grew_between, sound_at}

module _ (volume : Volume) (history : List Operated) (coherent : IsCoherentVolume volume) (legal : IsHistory (mounted volume) history) (id : ℕ) where
  -- what an earlier and a later point have in common, a point between them has too
  pub common_between : (early mid late : ℕ) (one two three : Subvolume) → early ≤ mid → mid ≤ late → IsAtPoint volume history id early one → IsAtPoint volume history id mid two → IsAtPoint volume history id late three → KeepsCommon one three two
  common_between early mid late one two three before after_it a b c =
      let first = run_at volume history id early one a.1 in
      let second = run_at volume history id mid two b.1 in
      let third = run_at volume history id late three c.1 in
      let grew = grew_between mid late (mounted volume) history after_it legal id third.0 third.1 in
      let mid_is : grew.0 ≡ second.0 = some_same grew.0 second.0 (sym grew.1 ∙ second.1) in
      let grown = grew_between early mid (mounted volume) history before legal id second.0 second.1 in
      let early_is : grown.0 ≡ first.0 = some_same grown.0 first.0 (sym grown.1 ∙ first.1) in
      let sound = sound_at early (mounted volume) history (mounted_sound volume coherent) legal id first.0 first.1 in
      record {
        names = λ name in_one in_three. elim (grew.2.names name (subst (λ (s : Subvolume). Contains s.names name) third.2 in_three)) [
          | inl kept ↦ subst (λ (s : Subvolume). Contains s.names name) (ap (λ (r : RunSub). r.sub) mid_is ∙ sym second.2) kept
          | inr above ↦ absurd (
              let low = sound.covered.indexes name (subst (λ (s : Subvolume). Contains s.names name) first.2 in_one) in
              let rose = grown.2.indexes name.dir in
              let one_is = ap (λ (r : RunSub). last_index_in r.numbers name.dir) early_is in
              let two_is = ap (λ (r : RunSub). last_index_in r.numbers name.dir) mid_is in
              omega (arith, above, low, rose, one_is, two_is))
        ];
        inodes = λ ino in_one in_three.
            let here = there_gives one ino in_one in
            let there = there_gives three ino in_three in
            elim (grew.2.inodes ino there.0 (ap (λ (s : Subvolume). get s.inodes ino) (sym third.2) ∙ there.1)) [
              | inl was ↦ ap is_some (ap (λ (s : Subvolume). get s.inodes ino) second.2 ∙ ap (λ (r : RunSub). get r.sub.inodes ino) (sym mid_is) ∙ was.1)
              | inr above ↦ absurd (
                  let low = sound.covered.inos ino here.0 (ap (λ (s : Subvolume). get s.inodes ino) (sym first.2) ∙ here.1) in
                  let rose = grown.2.inos in
                  let one_is = ap (λ (r : RunSub). r.numbers.last_ino) early_is in
                  let two_is = ap (λ (r : RunSub). r.numbers.last_ino) mid_is in
                  omega (arith, above, low, rose, one_is, two_is))
            ];
      }

  -- what survives was made alike
  pub survivors_alike : (committed_at : ℕ) (one_list two_list : List Synced) (one two : Subvolume) → SubSurvives volume history id committed_at one_list one → SubSurvives volume history id committed_at two_list two → AreMadeAlike one two
  survivors_alike committed_at one_list two_list one two first second ino here there a b =
      let x = first.records ino here a in
      let y = second.records ino there b in
      kinds_once volume history coherent legal x.point y.point id ino here there (record { sub = x.there; there = x.at.1; has = x.same }) (record { sub = y.there; there = y.at.1; has = y.same })
