-- What an operation needs, in a subvolume and in a volume.
use Rattle.std.proofs.Common.{◌≡◌, ◌≢◌, ◌∙◌, ◌≤◌, ◌+◌, ◌*◌, ◌⊎◌, ℕ, Bool, true, false, cond, List, [], Option, Some, None, nat_eq, refl, sym, ap, subst, arith, inl, inr, zero-le}
use Rattle.std.specs.FinMap.{get}
use Rattle.std.proofs.lemmas.Bool.{cases_Bool, eq-eqb, eqb-true, ne_eqb, true≢false}
use Rattle.block_table.specs.Table.{Table, free_blocks}
use Rattle.flat_model.specs.declared.answer.Answer.{Answer}
use Rattle.flat_model.specs.declared.answer.Answer.TheVariants.{NoEnt, Xdev}
use Rattle.flat_model.specs.declared.op.Op.{Op}
use Rattle.flat_model.specs.declared.op.Op.TheVariants.{Create, Mkdir, Symlink, Link, Unlink, Rmdir, Rename, Exchange, Lookup, Write, Truncate, Read, SetAttr, DelAttr, GetAttr}
use Rattle.flat_model.specs.Needs.{least_need, need, removed_by, removed_from}
use Rattle.flat_model.specs.Operations.{Outcome}
use Rattle.flat_model.specs.Refusal.{is_refusal}
use Rattle.flat_model.specs.Running.{IsSoundVolume}
use Rattle.flat_model.specs.Step.{VolumeOutcome, is_within_sub, outcome_of, outcome_within, place_of, step, volume_unchanged, with_outcome}
use Rattle.flat_model.specs.Volume.{RunSub, RunVolume, Subvolume}
use Rattle.flat_model.proofs.Maps.{some_none, some_same}
use Rattle.flat_laws.proofs.Refusals.{step_refused}
use Rattle.flat_laws.proofs.Shown.{step_answer}
use Rattle.table_volume.specs.Operated.{HasRoom}
use Rattle.name_ops.specs.Refused.{refusal_of}
use Rattle.volume_ops.specs.Done.{most_in, most_of, room_of}
use Rattle.volume_ops.specs.Needs.{need_in, refusal_in, room_in}

-- ---- each operation

-- an operation only reads, and then removes nothing, or needs 1536 blocks at least
pub least_cases : (op : Op) → ((least_need op ≡ 0) × ((sub : Subvolume) → removed_from sub op ≡ 0)) ⊎ (1536 ≤ least_need op)
least_cases (Create place) = inr (omega arith)
least_cases (Mkdir place) = inr (omega arith)
least_cases (Symlink place target) = inr (omega arith)
least_cases (Link old new) = inr (omega arith)
least_cases (Unlink place) = inr (omega arith)
least_cases (Rmdir place) = inr (omega arith)
least_cases (Rename old new) = inr (omega arith)
least_cases (Exchange one two) = inr (omega arith)
least_cases (Lookup place) = inl (refl, λ sub. refl)
least_cases (Write place offset text) = inr (omega arith)
least_cases (Truncate place size) = inr (omega arith)
least_cases (Read place offset count) = inl (refl, λ sub. refl)
least_cases (SetAttr place name value) = inr (omega arith)
least_cases (DelAttr place name) = inr (omega arith)
least_cases (GetAttr place name) = inl (refl, λ sub. refl)

-- ---- in a volume

-- what is removed, counted once
counted_once : (refuses : Bool) (least removed : ℕ) → cond refuses 0 (least + 2 * cond refuses 0 removed) ≡ cond refuses 0 (least + 2 * removed)
counted_once true least removed = refl
counted_once false least removed = refl

need_refused : (run : RunVolume) (op : Op) → is_refusal (step run op []).answer ≡ true → need run op ≡ 0
unfolding need
need_refused run op refuses = ap (λ (b : Bool). cond b 0 (least_need op + 2 * removed_by run op)) refuses

pub need_across : (run : RunVolume) (op : Op) → is_within_sub op ≡ false → need run op ≡ 0
unfolding step
need_across run op across = need_refused run op (ap (λ (b : Bool). is_refusal (cond b (outcome_within run op []) (volume_unchanged run Xdev)).answer) across)

pub need_nowhere : (run : RunVolume) (op : Op) → is_within_sub op ≡ true → get run (place_of op).sub.0 ≡ None → need run op ≡ 0
unfolding step
need_nowhere run op within none =
    need_refused run op (ap (λ (b : Bool). is_refusal (cond b (outcome_within run op []) (volume_unchanged run Xdev)).answer) within
    ∙ ap (λ (o : Option RunSub). is_refusal (elim o as (λ o. VolumeOutcome) [ None ↦ volume_unchanged run NoEnt | Some s ↦ with_outcome run (place_of op).sub.0 (outcome_of s op []) ]).answer) none)

-- ---- in the subvolume of the places

pub comes_to : (run : RunVolume) (sub : RunSub) (op : Op) (indexes : List ℕ) → get run (place_of op).sub.0 ≡ Some sub → is_within_sub op ≡ true → step run op indexes ≡ with_outcome run (place_of op).sub.0 (outcome_of sub op indexes)
unfolding step
comes_to run sub op indexes there within =
    ap (λ (b : Bool). cond b (outcome_within run op indexes) (volume_unchanged run Xdev)) within
    ∙ ap (λ (o : Option RunSub). elim o [ None ↦ volume_unchanged run NoEnt | Some s ↦ with_outcome run (place_of op).sub.0 (outcome_of s op indexes) ]) there

module _ (run : RunVolume) (sub : RunSub) (op : Op) (indexes : List ℕ) (sound : IsSoundVolume run) (there : get run (place_of op).sub.0 ≡ Some sub) (within : is_within_sub op ≡ true) where
  pub answer_is : (step run op []).answer ≡ (outcome_of sub op indexes).answer
  answer_is = step_answer run op [] indexes sound ∙ ap (λ (o : VolumeOutcome). o.answer) (comes_to run sub op indexes there within)

  pub need_is : need run op ≡ need_in sub op indexes
  unfolding need removed_by
  need_is =
      let refuses = ap is_refusal answer_is in
      let gone = ap (λ (o : Option RunSub). elim o as (λ o. ℕ) [ None ↦ 0 | Some s ↦ removed_from s.sub op ]) there in
      (λ i. cond (refuses i) 0 (least_need op + 2 * cond (refuses i) 0 (gone i))) ∙ counted_once (is_refusal (outcome_of sub op indexes).answer) (least_need op) (removed_from sub.sub op)

  pub most_is : most_of run op ≡ 512 + 2 * removed_from sub.sub op
  most_is = ap (λ (o : Option RunSub). most_in o op) there

  -- the refusal that is told leaves everything as it was
  pub refused_step : (answer : Answer) → Some answer ≡ refusal_in sub op indexes → (chosen : List ℕ) → step run op chosen ≡ volume_unchanged run answer
  refused_step answer told chosen =
      let is = refusal_parts (nat_eq (least_need op) 0) (outcome_of sub op indexes) answer told in
      let same : (step run op chosen).answer ≡ (outcome_of sub op indexes).answer = step_answer run op chosen [] sound ∙ answer_is in
      let kept = step_refused run op chosen (ap is_refusal same ∙ is.1) in
      λ i. record { next = kept.0 i; answer = (same ∙ sym is.0) i; made = kept.1 i }
    where
      refusal_parts : (reads : Bool) (outcome : Outcome) (answer : Answer) → Some answer ≡ cond reads None (refusal_of outcome) → (answer ≡ outcome.answer) × (is_refusal outcome.answer ≡ true)
      refusal_parts true outcome answer told = absurd (some_none answer told)
      refusal_parts false outcome answer told =
          elim (is_refusal outcome.answer) as (λ b. Some answer ≡ cond b (Some outcome.answer) None → (answer ≡ outcome.answer) × (b ≡ true)) [
            | true ↦ λ e. (some_same answer outcome.answer e, refl)
            | false ↦ λ e. absurd (some_none answer e)
          ] told

-- ---- room

room_cases : (table : Table) (refuses : Bool) (least removed asked : ℕ) → asked ≡ cond refuses 0 (least + 2 * removed) → ((least ≡ 0) × (removed ≡ 0)) ⊎ (1536 ≤ least) → HasRoom table 512 → HasRoom table (cond (nat_eq asked 0) 0 (512 + 2 * removed))
    → HasRoom table (cond refuses 0 (512 + 2 * removed))
room_cases table true least removed asked is cases few room = record { spare = zero-le; free = zero-le }
room_cases table false least removed asked is (inl none) few room = let spare = few.spare in let free = few.free in let gone = none.1 in record { spare = omega (arith, spare, gone); free = omega (arith, free, gone) }
room_cases table false least removed asked is (inr some) few room =
    subst (λ (b : Bool). HasRoom table (cond b 0 (512 + 2 * removed))) (ne_eqb asked 0 (λ none. let zero : asked ≡ 0 = none in omega (arith, is, some, zero))) room

cases_in : (sub : RunSub) (op : Op) → ((least_need op ≡ 0) × (removed_from sub.sub op ≡ 0)) ⊎ (1536 ≤ least_need op)
cases_in sub op = elim (least_cases op) [
  | inl none ↦ inl (none.0, none.1 sub.sub)
  | inr some ↦ inr some
]

-- with room for what removes nothing, the room of the volume's operation is the subvolume's
pub room_within : (table : Table) (run : RunVolume) (sub : RunSub) (op : Op) (indexes : List ℕ) → need run op ≡ need_in sub op indexes → most_of run op ≡ 512 + 2 * removed_from sub.sub op → HasRoom table 512 → HasRoom table (room_of run op)
    → HasRoom table (room_in sub op indexes)
room_within table run sub op indexes need_same most_same few room =
    room_cases table (is_refusal (outcome_of sub op indexes).answer) (least_need op) (removed_from sub.sub op) (need run op) need_same (cases_in sub op) few (subst (λ (n : ℕ). HasRoom table (cond (nat_eq (need run op) 0) 0 n)) most_same room)

-- without it, the operation needs none
short_cases : (table : Table) (removed asked : ℕ) → (HasRoom table 512 → ⊥) → HasRoom table (cond (nat_eq asked 0) 0 (512 + 2 * removed)) → asked ≡ 0
short_cases table removed asked short room = elim (cases_Bool (nat_eq asked 0)) [
  | inl none ↦ eqb-true asked 0 none
  | inr some ↦
      let enough = subst (λ (b : Bool). HasRoom table (cond b 0 (512 + 2 * removed))) some room in
      let spare = enough.spare in
      let free = enough.free in
      absurd (short (record { spare = omega (arith, spare); free = omega (arith, free) }))
]

reads_cases : (refuses : Bool) (least removed : ℕ) (answer : Answer) → cond refuses 0 (least + 2 * removed) ≡ 0 → None ≡ cond (nat_eq least 0) None (cond refuses (Some answer) None) → least ≡ 0
reads_cases true least removed answer none told = elim (cases_Bool (nat_eq least 0)) [
  | inl zero ↦ eqb-true least 0 zero
  | inr some ↦ absurd (some_none answer (sym (told ∙ ap (λ (b : Bool). cond b None (Some answer)) some)))
]
reads_cases false least removed answer none told = omega (arith, none)

-- where there is none and no refusal is told, the operation only reads
pub reads_only : (table : Table) (run : RunVolume) (sub : RunSub) (op : Op) (indexes : List ℕ) → need run op ≡ need_in sub op indexes → most_of run op ≡ 512 + 2 * removed_from sub.sub op → (HasRoom table 512 → ⊥) → HasRoom table (room_of run op)
    → None ≡ refusal_in sub op indexes → least_need op ≡ 0
reads_only table run sub op indexes need_same most_same short room told =
    let none = short_cases table (removed_from sub.sub op) (need run op) short (subst (λ (n : ℕ). HasRoom table (cond (nat_eq (need run op) 0) 0 n)) most_same room) in
    reads_cases (is_refusal (outcome_of sub op indexes).answer) (least_need op) (removed_from sub.sub op) (outcome_of sub op indexes).answer (sym need_same ∙ none) told

-- ---- for callers

-- an operation that needs blocks needs 1024 more than it takes at most
pub need_covers : (run : RunVolume) (op : Op) → need run op ≢ 0 → most_of run op + 1024 ≤ need run op
unfolding need removed_by
need_covers run op some =
    by_cases (is_refusal (step run op []).answer) (get run (place_of op).sub.0) some
  where
    by_least : (least removed most : ℕ) → ((least ≡ 0) × (removed ≡ 0)) ⊎ (1536 ≤ least) → least + 2 * removed ≢ 0 → most ≤ 512 + 2 * removed → most + 1024 ≤ least + 2 * removed
    by_least least removed most (inl none) some few = let zero = none.0 in let gone = none.1 in absurd (some (omega (arith, zero, gone)))
    by_least least removed most (inr big) some few = omega (arith, big, few)

    by_cases : (refuses : Bool) (o : Option RunSub) → cond refuses 0 (least_need op + 2 * cond refuses 0 (elim o [ None ↦ 0 | Some sub ↦ removed_from sub.sub op ])) ≢ 0
        → most_in o op + 1024 ≤ cond refuses 0 (least_need op + 2 * cond refuses 0 (elim o [ None ↦ 0 | Some sub ↦ removed_from sub.sub op ]))
    by_cases true o some = absurd (some refl)
    by_cases false None some = elim (least_cases op) [
      | inl none ↦ let zero = none.0 in absurd (some (omega (arith, zero)))
      | inr big ↦ omega (arith, big)
    ]
    by_cases false (Some sub) some = by_least (least_need op) (removed_from sub.sub op) (512 + 2 * removed_from sub.sub op) (cases_in sub op) some (omega arith)

-- so it is with the room that it has to have
pub room_covers : (run : RunVolume) (op : Op) → need run op ≢ 0 → room_of run op + 1024 ≤ need run op
room_covers run op some = subst (λ (b : Bool). cond b 0 (most_of run op) + 1024 ≤ need run op) (sym (ne_eqb (need run op) 0 some)) (need_covers run op some)

-- an operation that needs none is refused or only reads
pub needs_none : (run : RunVolume) (op : Op) → need run op ≡ 0 → (is_refusal (step run op []).answer ≡ true) ⊎ (least_need op ≡ 0)
unfolding need
needs_none run op none = elim (cases_Bool (is_refusal (step run op []).answer)) [
  | inl refuses ↦ inl refuses
  | inr done ↦ inr (let all = sym (ap (λ (b : Bool). cond b 0 (least_need op + 2 * removed_by run op)) done) ∙ none in omega (arith, all))
]

-- where as many blocks are Free, and as many buffers spare, as an operation needs, it has its room
pub room_enough : (table : Table) (run : RunVolume) (op : Op) → need run op ≤ table.spare → need run op ≤ free_blocks table → HasRoom table (room_of run op)
room_enough table run op spare free = elim (cases_Bool (nat_eq (need run op) 0)) [
  | inl none ↦ subst (λ (b : Bool). HasRoom table (cond b 0 (most_of run op))) (sym none) (record { spare = zero-le; free = zero-le })
  | inr some ↦
      let covers = need_covers run op (λ zero. true≢false (sym (eq-eqb (need run op) 0 zero) ∙ some)) in
      subst (λ (b : Bool). HasRoom table (cond b 0 (most_of run op))) (sym some) (record { spare = omega (arith, covers, spare); free = omega (arith, covers, free) })
]
