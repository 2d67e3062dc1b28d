-- Two runs of the same operations, in which no index reaches 2^62, differ in indexes alone.
use Rattle.std.proofs.Common.{◌≡◌, ℕ, ◌<◌, ◌≤◌, ◌^◌, Bool, true, false, cond, List, [], ◌∷◌, Option, Some, None, refl, sym, ap, subst, ◌∙◌, arith, inl, inr}
use Rattle.std.specs.Option.{is_some}
use Rattle.std.specs.List.{Contains}
use Rattle.std.specs.FinMap.{get, insert}
use Rattle.std.proofs.lemmas.Bool.{true≢false, cases_eq}
use Rattle.flat_model.specs.declared.answer.Answer.{Answer}
use Rattle.flat_model.specs.declared.answer.Answer.TheVariants.{NoEnt, Xdev}
use Rattle.flat_model.specs.declared.op.Op.{Op}
use Rattle.flat_model.specs.Volume.{RunSub, RunVolume}
use Rattle.flat_model.specs.Step.{VolumeOutcome, volume_unchanged, with_outcome, outcome_of, outcome_within, is_within_sub, place_of, step, Operated, MayCome, IsHistory, after_one, after_all}
use Rattle.flat_model.specs.Running.{IsSoundVolume}
use Rattle.flat_model.proofs.Maps.{some_same, get_insert_same, get_insert_other, insert_cases}
use Rattle.flat_model.proofs.Steps.{after_one_sound}
use Rattle.flat_laws.specs.Advance.{HasAdvanced}
use Rattle.flat_laws.specs.Alike.{DifferInIndexes, VolumesDifferInIndexes, HaveSameOperations, AreUnspent, answers_of}
use Rattle.flat_laws.proofs.Reindexed.{member_like}
use Rattle.flat_laws.proofs.Alike.{LikeRuns, outcome_like}
use Rattle.flat_laws.proofs.Advances.{all_advance}

-- two volumes in their runs are alike
pub record LikeVolumes (one two : RunVolume) : Type 0 where
  pub subvolumes : (id : ℕ) → is_some (get one id) ≡ is_some (get two id)
  pub each : (id : ℕ) (a b : RunSub) → get one id ≡ Some a → get two id ≡ Some b → LikeRuns a b

like_itself : (run : RunVolume) → LikeVolumes run run
like_itself run = record {
  subvolumes = λ id. refl;
  each = λ id a b e f. subst (LikeRuns a) (some_same a b (sym e ∙ f)) (record { inodes = refl; names = λ g. refl; last_ino = refl });
}

placed_like : (one two : RunVolume) → LikeVolumes one two → (id : ℕ) (a b : RunSub) → LikeRuns a b → LikeVolumes (insert one id a) (insert two id b)
placed_like one two like id a b alike = record {
  subvolumes = λ other. elim (cases_eq other id) [
    | inl same ↦
        let here : is_some (get (insert one id a) id) ≡ is_some (get (insert two id b) id) = ap is_some (get_insert_same one id a) ∙ sym (ap is_some (get_insert_same two id b)) in
        subst (λ k. is_some (get (insert one id a) k) ≡ is_some (get (insert two id b) k)) (sym same) here
    | inr apart ↦ ap is_some (get_insert_other one id a other apart) ∙ like.subvolumes other ∙ sym (ap is_some (get_insert_other two id b other apart))
  ];
  each = λ other c d e f. elim (insert_cases one id a other c e) [
    | inl here ↦ elim (insert_cases two id b other d f) [
      | inl there ↦ subst (λ r. LikeRuns r d) (sym here.1) (subst (LikeRuns a) (sym there.1) alike)
      | inr old ↦ absurd (old.0 here.0)
    ]
    | inr old ↦ elim (insert_cases two id b other d f) [
      | inl there ↦ absurd (old.0 there.0)
      | inr kept ↦ like.each other c d old.1 kept.1
    ]
  ];
}

-- what two outcomes have in common
abbrev Both : VolumeOutcome → VolumeOutcome → Type 0
Both o p = (o.answer ≡ p.answer) × LikeVolumes o.next p.next

step_like : (one two : RunVolume) → IsSoundVolume one → IsSoundVolume two → LikeVolumes one two → AreUnspent one → AreUnspent two → (op : Op) (i j : List ℕ) → Both (step one op i) (step two op j)
unfolding step
step_like one two sound sound' like few few' op i j =
    let id : ℕ = (place_of op).sub.0 in
    elim (is_within_sub op) as (λ b. Both (cond b (outcome_within one op i) (volume_unchanged one Xdev)) (cond b (outcome_within two op j) (volume_unchanged two Xdev))) [
      | true ↦
          elim (get one id) as (λ o. get one id ≡ o → Both (elim o [ None ↦ volume_unchanged one NoEnt | Some s ↦ with_outcome one id (outcome_of s op i) ]) (outcome_within two op j)) [
            | None ↦ λ e. elim (get two id) as (λ p. get two id ≡ p → Both (volume_unchanged one NoEnt) (elim p [ None ↦ volume_unchanged two NoEnt | Some t ↦ with_outcome two id (outcome_of t op j) ])) [
              | None ↦ λ f. (refl, like)
              | Some t ↦ λ f. absurd (true≢false (sym (ap is_some f) ∙ sym (like.subvolumes id) ∙ ap is_some e))
            ] refl
            | Some s ↦ λ e. elim (get two id) as (λ p. get two id ≡ p → Both (with_outcome one id (outcome_of s op i)) (elim p [ None ↦ volume_unchanged two NoEnt | Some t ↦ with_outcome two id (outcome_of t op j) ])) [
              | None ↦ λ f. absurd (true≢false (sym (ap is_some e) ∙ like.subvolumes id ∙ ap is_some f))
              | Some t ↦ λ f.
                  let both = outcome_like s t (sound id s e) (sound' id t f) (like.each id s t e f) (few id s e) (few' id t f) op i j in
                  (both.0, placed_like one two like id (outcome_of s op i).next (outcome_of t op j).next both.1)
            ] refl
          ] refl
      | false ↦ (refl, like)
    ]

-- what is unspent in the end was so before
unspent_before : (before after : RunVolume) → HasAdvanced before after → AreUnspent after → AreUnspent before
unspent_before before after on few id sub there =
    elim (get after id) as (λ o. get after id ≡ o → sub.numbers.last_index < 2 ^ 62) [
      | Some late ↦ λ e. let rise = (on.each id sub late there e).last_index in let low = few id late e in omega (arith, rise, low)
      | None ↦ λ e. absurd (true≢false (sym (ap is_some there) ∙ sym (on.subvolumes id) ∙ ap is_some e))
    ] refl

all_like : (one two : RunVolume) → IsSoundVolume one → IsSoundVolume two → LikeVolumes one two → (h k : List Operated) → IsHistory one h → IsHistory two k → HaveSameOperations h k → AreUnspent (after_all one h) → AreUnspent (after_all two k)
    → LikeVolumes (after_all one h) (after_all two k) × (answers_of one h ≡ answers_of two k)
all_like one two sound sound' like [] [] legal legal' same few few' = (like, refl)
all_like one two sound sound' like [] (b ∷ k) legal legal' same few few' = absurd same
all_like one two sound sound' like (a ∷ h) [] legal legal' same few few' = absurd same
all_like one two sound sound' like (a ∷ h) (b ∷ k) legal legal' same few few' =
    let now = unspent_before one (after_all one (a ∷ h)) (all_advance one sound (a ∷ h) legal) few in
    let now' = unspent_before two (after_all two (b ∷ k)) (all_advance two sound' (b ∷ k) legal') few' in
    let both : Both (step one a.op a.indexes) (step two b.op b.indexes) = subst (λ op. Both (step one a.op a.indexes) (step two op b.indexes)) same.0 (step_like one two sound sound' like now now' a.op a.indexes b.indexes) in
    let next : LikeVolumes (after_one one a) (after_one two b) =
    subst (λ short. LikeVolumes (after_one one a) (cond short two (step two b.op b.indexes).next)) same.1
    (elim a.short as (λ short. LikeVolumes (cond short one (step one a.op a.indexes).next) (cond short two (step two b.op b.indexes).next)) [ true ↦ like | false ↦ both.1 ]) in
    let rest = all_like (after_one one a) (after_one two b) (after_one_sound one sound a legal.0) (after_one_sound two sound' b legal'.0) next h k legal.1 legal'.1 same.2 few few' in
    (rest.0, λ t. both.0 t ∷ rest.1 t)

differ : (one two : RunVolume) → LikeVolumes one two → VolumesDifferInIndexes one two
differ one two like = record {
  subvolumes = like.subvolumes;
  each = λ id a b e f.
      let alike = like.each id a b e f in
      record {
        inodes = alike.inodes;
        there = λ name c. member_like a.sub.names b.sub.names alike.names name c;
        back = λ name c. member_like b.sub.names a.sub.names (λ g. sym (alike.names g)) name c;
        last_ino = alike.last_ino;
      };
}

pub histories_differ : (run : RunVolume) → IsSoundVolume run → (h k : List Operated) → IsHistory run h → IsHistory run k → HaveSameOperations h k → AreUnspent (after_all run h) → AreUnspent (after_all run k)
    → VolumesDifferInIndexes (after_all run h) (after_all run k) × (answers_of run h ≡ answers_of run k)
histories_differ run sound h k legal legal' same few few' =
    let both = all_like run run sound sound (like_itself run) h k legal legal' same few few' in
    (differ (after_all run h) (after_all run k) both.0, both.1)
