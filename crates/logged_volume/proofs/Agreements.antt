-- Whatever agrees with F and R agrees with what a log step leaves of R.
use Rattle.std.proofs.Common.{◌≡◌, ℕ, Bool, true, false, cond, List, Some, None, refl, sym, ap, ◌∙◌, inl, inr}
use Rattle.std.specs.FinMap.{get, insert}
use Rattle.flat_model.specs.Records.{kind_of, at_creation}
use Rattle.flat_model.specs.Volume.{Subvolume}
use Rattle.flat_model.proofs.Maps.{insert_cases}
use Rattle.logged_volume.specs.Numbers.{is_in}
use Rattle.logged_volume.specs.Agreement.{Agree, AreMadeAlike, AreStep}
use Rattle.logged_volume.specs.Drawn.{drawn_set, is_data_form}
use Rattle.logged_volume.specs.LogStep.{stepped, with_data, log_step}
use Rattle.logged_volume.proofs.Stepped.{stepped_cases, other_inode, member_gives, member_kind}
use Rattle.logged_volume.proofs.Wholes.{creation_twice}

module _ (third current logged : Subvolume) (target : ℕ) (step : AreStep current logged target) where
  fsync_agrees : (members : List ℕ) → Agree third current → Agree third logged → Agree third (stepped current logged target members)
  fsync_agrees members with_current with_logged = record {
    kinds = λ ino here there found e.
        elim (is_in members ino) as (λ b. is_in members ino ≡ b → kind_of here ≡ kind_of there) [
          | true ↦ λ m.
              let was = member_gives current logged target members ino there m e in
              with_current.kinds ino here was.0 found was.1 ∙ sym (member_kind current logged target members step.agree ino was.0 there was.1 was.2)
          | false ↦ λ m. with_logged.kinds ino here there found (sym (other_inode current logged target members ino m) ∙ e)
        ] refl;
    indexes = λ here there c d same_dir same_index. elim (stepped_cases current logged target members there d) [
      | inl ours ↦ with_current.indexes here there c ours.0 same_dir same_index
      | inr theirs ↦ with_logged.indexes here there c theirs.0 same_dir same_index
    ];
  }

  fsync_alike : (members : List ℕ) → AreMadeAlike third current → AreMadeAlike third logged → AreMadeAlike third (stepped current logged target members)
  fsync_alike members with_current with_logged ino here there found e =
      elim (is_in members ino) as (λ b. is_in members ino ≡ b → at_creation here ≡ at_creation there) [
        | true ↦ λ m.
            let was = member_gives current logged target members ino there m e in
            let alike = with_current ino here was.0 found was.1 in
            elim was.2.origin [
              | inl same ↦ alike ∙ ap at_creation (sym same)
              | inr (inl old) ↦ with_logged ino here there found old
              | inr (inr made) ↦ alike ∙ sym (creation_twice was.0) ∙ ap at_creation (sym made)
            ]
        | false ↦ λ m. with_logged ino here there found (sym (other_inode current logged target members ino m) ∙ e)
      ] refl

  data_agrees : Agree third current → Agree third logged → Agree third (with_data current logged target)
  unfolding with_data
  data_agrees with_current with_logged =
      elim (get current.inodes target) as (λ o. get current.inodes target ≡ o → Agree third (elim o as (λ _. Subvolume) [ None ↦ logged | Some inode ↦ record logged { inodes = insert logged.inodes target inode } ])) [
        | None ↦ λ _. with_logged
        | Some now ↦ λ is. record {
          kinds = λ ino here there found e. elim (insert_cases logged.inodes target now ino there e) [
            | inl new ↦ with_current.kinds ino here now found (ap (get current.inodes) new.0 ∙ is) ∙ ap kind_of (sym new.1)
            | inr kept ↦ with_logged.kinds ino here there found kept.1
          ];
          indexes = with_logged.indexes;
        }
      ] refl

  data_alike : AreMadeAlike third current → AreMadeAlike third logged → AreMadeAlike third (with_data current logged target)
  unfolding with_data
  data_alike with_current with_logged =
      elim (get current.inodes target) as (λ o. get current.inodes target ≡ o → AreMadeAlike third (elim o as (λ _. Subvolume) [ None ↦ logged | Some inode ↦ record logged { inodes = insert logged.inodes target inode } ])) [
        | None ↦ λ _. with_logged
        | Some now ↦ λ is ino here there found e. elim (insert_cases logged.inodes target now ino there e) [
          | inl new ↦ with_current ino here now found (ap (get current.inodes) new.0 ∙ is) ∙ ap at_creation (sym new.1)
          | inr kept ↦ with_logged ino here there found kept.1
        ]
      ] refl

  pub step_agrees : (datasync : Bool) → Agree third current → Agree third logged → Agree third (log_step current logged target datasync)
  step_agrees datasync with_current with_logged =
      elim (is_data_form logged target datasync) as (λ b. Agree third (cond b (with_data current logged target) (stepped current logged target (drawn_set current logged target)))) [
        | true ↦ data_agrees with_current with_logged
        | false ↦ fsync_agrees (drawn_set current logged target) with_current with_logged
      ]

  pub step_alike : (datasync : Bool) → AreMadeAlike third current → AreMadeAlike third logged → AreMadeAlike third (log_step current logged target datasync)
  step_alike datasync with_current with_logged =
      elim (is_data_form logged target datasync) as (λ b. AreMadeAlike third (cond b (with_data current logged target) (stepped current logged target (drawn_set current logged target)))) [
        | true ↦ data_alike with_current with_logged
        | false ↦ fsync_alike (drawn_set current logged target) with_current with_logged
      ]
