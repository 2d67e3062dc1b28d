-- An operation within one subvolume is one of the volume.
use Rattle.std.proofs.Common.{◌≡◌, ◌∙◌, ◌≤◌, ◌+◌, ◌*◌, ℕ, Bool, true, false, cond, List, [], ◌∷◌, ◌++◌, Option, Some, None, nat_eq, refl, sym, ap, subst, arith, inl, inr}
use Rattle.std.specs.Prelude.{All, Contains, slice_index_or}
use Rattle.std.specs.FinMap.{get, insert}
use Rattle.std.proofs.lemmas.Bool.{cases_Bool, eqb-true}
use Rattle.std.proofs.lemmas.Grind.{flat_map-append}
use Rattle.std.proofs.lemmas.List.Elements.{All-append, All-cons, All-contains, All-contains_itself, All-head, All-tail, Contains-append_cases, Contains-append_left, Contains-append_right}
use Rattle.blk_base.specs.Trees.{NoneTwice}
use Rattle.blk_base.proofs.Members.{once_apart, once_right}
use Rattle.block_table.specs.declared.tree.SubState.{SubState}
use Rattle.block_table.specs.Table.{Table}
use Rattle.block_table.specs.TreeIn.{IsTaken, block_at}
use Rattle.flat_model.specs.declared.answer.Answer.{Answer}
use Rattle.flat_model.specs.declared.answer.Answer.TheVariants.{NoEnt, Xdev}
use Rattle.flat_model.specs.declared.op.Op.{Op}
use Rattle.flat_model.specs.Needs.{least_need, need, removed_from}
use Rattle.flat_model.specs.Operations.{Outcome}
use Rattle.flat_model.specs.Refusal.{is_refusal}
use Rattle.flat_model.specs.Running.{IsSoundVolume}
use Rattle.flat_model.specs.Step.{AreNextIndexes, IsChoice, VolumeOutcome, indexes_of, is_within_sub, numbers_in, outcome_of, outcome_within, place_of, step, volume_unchanged, with_outcome}
use Rattle.flat_model.specs.Volume.{RunNumbers, RunSub, RunVolume}
use Rattle.flat_model.proofs.Steps.{numbers_there}
use Rattle.flat_laws.proofs.Shown.{step_shown}
use Rattle.tree_range.specs.Shape.{AreAlike, tree_reach}
use Rattle.tree_range.proofs.Rise.{All-left, All-right}
use Rattle.tree_frame.specs.Frame.{IsEdit, TakesAtMost}
use Rattle.tree_frame.proofs.Among.{edit_among}
use Rattle.tree_frame.proofs.EditLaws.{nothing_is_an_edit}
use Rattle.tree_frame.proofs.Reading.{flat_map_same}
use Rattle.volume_image.proofs.Members.{flat_map_in}
use Rattle.table_volume.specs.Gives.{sub_reach, tree_data}
use Rattle.table_volume.specs.Operated.{IsOperated}
use Rattle.table_volume.specs.Running.{GiveVolume, GivesPart, GivesRun, id_of}
use Rattle.table_volume.proofs.Editing.{none_lost, state_alike, state_reach}
use Rattle.table_volume.proofs.States.{volume_sound}
use Rattle.table_volume.proofs.SubEdits.{sub_more}
use Rattle.table_volume.proofs.Volumes.{volume_given}
use Rattle.volume_seal.specs.Sealed.{IsReady, states_reach}
use Rattle.volume_seal.proofs.States.{all_taken, alike_tree, operated_ready, ready_alike, same_tree}
use Rattle.volume_ops.specs.Done.{AreNextOf, IsDone, IsNextOf, most_in, most_of, newest_indexes}
use Rattle.volume_ops.specs.Needs.{next_indexes}
use Rattle.volume_ops.proofs.Required.{answer_is, comes_to, needs_none}

-- what takes so many blocks at most takes more at most
pub operated_more : (old new : Table) (before after : SubState) (run : RunSub) (outcome : Outcome) (answer : Answer) (n m : ℕ) → n ≤ m → IsOperated old new before after run outcome answer n → IsOperated old new before after run outcome answer m
operated_more old new before after run outcome answer n m few h = record {
  said = h.said;
  gives = h.gives;
  edit = sub_more old new before after n m h.edit few;
  choice = h.choice;
  refused = h.refused;
}

-- what leaves the table as it was takes nothing
taken_at_most : (old new : Table) (asked most : ℕ) → (asked ≡ 0 → new ≡ old) → TakesAtMost old new most → TakesAtMost old new (cond (nat_eq asked 0) 0 most)
taken_at_most old new asked most same taken = elim (cases_Bool (nat_eq asked 0)) [
  | inl none ↦
      subst (λ (b : Bool). TakesAtMost old new (cond b 0 most)) (sym none)
      (subst (λ (table : Table). TakesAtMost old table 0) (sym (same (eqb-true asked 0 none))) (record { spare = omega arith; free = omega arith }))
  | inr some ↦ subst (λ (b : Bool). TakesAtMost old new (cond b 0 most)) (sym some) taken
]

-- ---- states that stay, and what is theirs

-- a state whose tree's blocks stay as they are
next_alike : (old new : Table) (state : SubState) → AreAlike old new (tree_reach old state.tree) → IsNextOf old new state state
next_alike old new state alike = record {
  owner = refl;
  running = refl;
  kept = λ at here clean.
      let there : Contains (tree_reach old state.tree) at = subst (λ (l : List ℕ). Contains l at) (same_tree old new state.tree alike).tree_reach_is here in
      (there, All-contains (λ (a : ℕ). block_at new a ≡ block_at old a) (tree_reach old state.tree) at alike there);
}

next_themselves : (table : Table) (states : List SubState) → AreNextOf table table states states
next_themselves table [] = tt
next_themselves table (state ∷ states) =
    (record { owner = refl; running = refl; kept = λ at here clean. (here, refl) }, next_themselves table states)

next_joined : (old new : Table) (befores afters before after : List SubState) → AreNextOf old new befores afters → AreNextOf old new before after → AreNextOf old new (befores ++ before) (afters ++ after)
next_joined old new [] [] before after front back = back
next_joined old new [] (a ∷ afters) before after front back = absurd front
next_joined old new (b ∷ befores) [] before after front back = absurd front
next_joined old new (b ∷ befores) (a ∷ afters) before after front back = (front.0, next_joined old new befores afters before after front.1 back)

-- ---- nothing changes

module _ (table : Table) (states : List SubState) (run : RunVolume) (op : Op) (answer : Answer) (volume : GiveVolume table states run) (comes : (chosen : List ℕ) → step run op chosen ≡ volume_unchanged run answer) where
  none_made : AreNextIndexes (numbers_in run (place_of op).sub.0) (step run op []).made
  none_made = subst (λ (o : VolumeOutcome). AreNextIndexes (numbers_in run (place_of op).sub.0) o.made) (sym (comes [])) tt

  shown : IsChoice run op (indexes_of (step run op []).made) × (step run op (indexes_of (step run op []).made) ≡ step run op [])
  shown = step_shown run op [] (volume_sound table states run volume) none_made

  whole : step run op (indexes_of (step run op []).made) ≡ volume_unchanged run answer
  whole = shown.1 ∙ comes []

  pub unchanged_done : IsDone table table states states run op answer
  unchanged_done = record {
    indexes = indexes_of (step run op []).made;
    choice = shown.0;
    newest = ap (λ (o : VolumeOutcome). indexes_of o.made) (comes [] ∙ sym (comes (newest_indexes run op)));
    said = sym (ap (λ (o : VolumeOutcome). o.answer) whole);
    given = subst (GiveVolume table states) (sym (ap (λ (o : VolumeOutcome). o.next) whole)) volume;
    taken = record { spare = omega arith; free = omega arith };
    refused = λ refusal. (refl, refl);
    idle = λ none. (refl, refl);
    edit = nothing_is_an_edit table (states_reach table states);
    states = next_themselves table states;
    ready = λ fsid h. h;
    accounted = λ outside h. h;
  }

pub across_done : (table : Table) (states : List SubState) (run : RunVolume) (op : Op) → GiveVolume table states run → is_within_sub op ≡ false → IsDone table table states states run op Xdev
unfolding step
across_done table states run op volume across =
    unchanged_done table states run op Xdev volume (λ chosen. ap (λ (b : Bool). cond b (outcome_within run op chosen) (volume_unchanged run Xdev)) across)

pub nowhere_done : (table : Table) (states : List SubState) (run : RunVolume) (op : Op) → GiveVolume table states run → is_within_sub op ≡ true → get run (place_of op).sub.0 ≡ None → IsDone table table states states run op NoEnt
unfolding step
nowhere_done table states run op volume within none =
    unchanged_done table states run op NoEnt volume (λ chosen. ap (λ (b : Bool). cond b (outcome_within run op chosen) (volume_unchanged run Xdev)) within
    ∙ ap (λ (o : Option RunSub). elim o [ None ↦ volume_unchanged run NoEnt | Some s ↦ with_outcome run (place_of op).sub.0 (outcome_of s op chosen) ]) none)

-- ---- one subvolume changes

-- the state of the operation's subvolume gives what the run has under its number
pub part_at : (table : Table) (lefts rights : List SubState) (state : SubState) (run : RunVolume) → GiveVolume table (lefts ++ state ∷ rights) run → GivesPart table run state
part_at table lefts rights state run volume =
    All-head (GivesPart table run) state rights (All-right (GivesPart table run) lefts (state ∷ rights) volume.each)

module _ (old new : Table) (lefts rights : List SubState) (before after : SubState) (run : RunVolume) (op : Op) (answer : Answer) (indexes : List ℕ) (volume : GiveVolume old (lefts ++ before ∷ rights) run) (owner : id_of before ≡ (place_of op).sub.0) (within : is_within_sub op ≡ true)
    (next : indexes ≡ next_indexes before) (idle : least_need op ≡ 0 → (new ≡ old) × (after ≡ before))
    (operated : (sub : RunSub) → GivesRun old before sub → IsOperated old new before after sub (outcome_of sub op indexes) answer (512 + 2 * removed_from sub.sub op)) where
  part : GivesPart old run before
  part = part_at old lefts rights before run volume

  there : get run (place_of op).sub.0 ≡ Some part.sub
  there = subst (λ (id : ℕ). get run id ≡ Some part.sub) owner part.there

  done : IsOperated old new before after part.sub (outcome_of part.sub op indexes) answer (512 + 2 * removed_from part.sub.sub op)
  done = operated part.sub part.gives

  comes : step run op indexes ≡ with_outcome run (place_of op).sub.0 (outcome_of part.sub op indexes)
  comes = comes_to run part.sub op indexes there within

  -- they are the next ones above all that the subvolume has had
  newest : indexes ≡ newest_indexes run op
  newest =
      next
      ∙ ap (λ (n : ℕ). n ∷ (n + 1) ∷ []) part.gives.next_index
      ∙ ap (λ (n : ℕ). (part.sub.numbers.last_index + 1) ∷ n ∷ []) (omega arith)
      ∙ ap (λ (numbers : RunNumbers). (numbers.last_index + 1) ∷ (numbers.last_index + 2) ∷ []) (sym (numbers_there run (place_of op).sub.0 part.sub there))

  made_next : AreNextIndexes (numbers_in run (place_of op).sub.0) (step run op indexes).made
  made_next =
      subst (λ (o : VolumeOutcome). AreNextIndexes (numbers_in run (place_of op).sub.0) o.made) (sym comes)
      (subst (λ (numbers : RunNumbers). AreNextIndexes numbers (outcome_of part.sub op indexes).made) (sym (numbers_there run (place_of op).sub.0 part.sub there)) done.choice)

  shown_here : IsChoice run op (indexes_of (step run op indexes).made) × (step run op (indexes_of (step run op indexes).made) ≡ step run op indexes)
  shown_here = step_shown run op indexes (volume_sound old (lefts ++ before ∷ rights) run volume) made_next

  whole_here : step run op (indexes_of (step run op indexes).made) ≡ with_outcome run (place_of op).sub.0 (outcome_of part.sub op indexes)
  whole_here = shown_here.1 ∙ comes

  next_given : GiveVolume new (lefts ++ after ∷ rights) (insert run (place_of op).sub.0 (outcome_of part.sub op indexes).next)
  next_given =
      subst (λ (id : ℕ). GiveVolume new (lefts ++ after ∷ rights) (insert run id (outcome_of part.sub op indexes).next)) owner
      (volume_given old new lefts rights before after run (outcome_of part.sub op indexes).next volume done.edit.edit done.edit.owner done.gives)

  -- ---- the other states keep their blocks
  joined : (table : Table) (state : SubState) → states_reach table (lefts ++ state ∷ rights) ≡ states_reach table lefts ++ (sub_reach table state.tree ++ states_reach table rights)
  joined table state = flat_map-append (λ (s : SubState). sub_reach table s.tree) lefts (state ∷ rights)

  once : NoneTwice (states_reach old lefts ++ (sub_reach old before.tree ++ states_reach old rights))
  once = subst NoneTwice (joined old before) volume.once

  others_same : (states : List SubState) → All (GivesPart old run) states → ((at : ℕ) → Contains (states_reach old states) at → Contains (sub_reach old before.tree) at → ⊥) → states_reach new states ≡ states_reach old states
  others_same states each apart =
      flat_map_same (λ (s : SubState). sub_reach new s.tree) (λ (s : SubState). sub_reach old s.tree) states
      (λ k d inside. state_reach old new (sub_reach old before.tree) (sub_reach new after.tree) (slice_index_or states k d) (each k d inside).sub done.edit.edit (each k d inside).gives
      (λ at here edited. apart at (flat_map_in (λ (s : SubState). sub_reach old s.tree) states (slice_index_or states k d) at (All-contains_itself states k d inside) here) edited))

  lefts_apart : (at : ℕ) → Contains (states_reach old lefts) at → Contains (sub_reach old before.tree) at → ⊥
  lefts_apart at here edited =
      once_apart (states_reach old lefts) (sub_reach old before.tree ++ states_reach old rights) once at here (Contains-append_left (sub_reach old before.tree) (states_reach old rights) at edited)

  rights_apart : (at : ℕ) → Contains (states_reach old rights) at → Contains (sub_reach old before.tree) at → ⊥
  rights_apart at here edited =
      once_apart (sub_reach old before.tree) (states_reach old rights) (once_right (states_reach old lefts) (sub_reach old before.tree ++ states_reach old rights) once) at edited here

  lefts_same : states_reach new lefts ≡ states_reach old lefts
  lefts_same = others_same lefts (All-left (GivesPart old run) lefts (before ∷ rights) volume.each) lefts_apart

  rights_same : states_reach new rights ≡ states_reach old rights
  rights_same =
      others_same rights (All-tail (GivesPart old run) before rights (All-right (GivesPart old run) lefts (before ∷ rights) volume.each)) rights_apart

  to_left : (at : ℕ) → Contains (states_reach old lefts) at → Contains (states_reach new (lefts ++ after ∷ rights)) at
  to_left at here =
      subst (λ (l : List ℕ). Contains l at) (sym (joined new after)) (Contains-append_left (states_reach new lefts) (sub_reach new after.tree ++ states_reach new rights) at (subst (λ (l : List ℕ). Contains l at) (sym lefts_same) here))

  to_middle : (at : ℕ) → Contains (sub_reach new after.tree ++ states_reach new rights) at → Contains (states_reach new (lefts ++ after ∷ rights)) at
  to_middle at here =
      subst (λ (l : List ℕ). Contains l at) (sym (joined new after)) (Contains-append_right (states_reach new lefts) (sub_reach new after.tree ++ states_reach new rights) at here)

  stays : (outside : List ℕ) (at : ℕ) → Contains (outside ++ states_reach old (lefts ++ before ∷ rights)) at → (Contains (sub_reach old before.tree) at → ⊥) → Contains (outside ++ states_reach new (lefts ++ after ∷ rights)) at
  stays outside at here not_edited = elim (Contains-append_cases outside (states_reach old (lefts ++ before ∷ rights)) at here) [
    | inl out ↦ Contains-append_left outside (states_reach new (lefts ++ after ∷ rights)) at out
    | inr inside ↦ Contains-append_right outside (states_reach new (lefts ++ after ∷ rights)) at (elim (Contains-append_cases (states_reach old lefts) (sub_reach old before.tree ++ states_reach old rights) at (subst (λ (l : List ℕ). Contains l at) (joined old before) inside)) [
      | inl left ↦ to_left at left
      | inr behind ↦ elim (Contains-append_cases (sub_reach old before.tree) (states_reach old rights) at behind) [
        | inl edited ↦ absurd (not_edited edited)
        | inr right ↦ to_middle at (Contains-append_right (sub_reach new after.tree) (states_reach new rights) at (subst (λ (l : List ℕ). Contains l at) (sym rights_same) right))
      ]
    ])
  ]

  -- ---- trees that may be sealed still may
  others_ready : (fsid : List ℕ) (states : List SubState) → All (GivesPart old run) states → ((at : ℕ) → Contains (states_reach old states) at → Contains (sub_reach old before.tree) at → ⊥) → All (λ (s : SubState). IsReady old s.tree fsid) states → All (λ (s : SubState). IsReady new s.tree fsid) states
  others_ready fsid states each apart ready k d inside =
      let state : SubState = slice_index_or states k d in
      let alike : AreAlike old new (sub_reach old state.tree) = state_alike old new (sub_reach old before.tree) (sub_reach new after.tree) state (each k d inside).sub done.edit.edit (each k d inside).gives
      (λ at here edited. apart at (flat_map_in (λ (s : SubState). sub_reach old s.tree) states state at (All-contains_itself states k d inside) here) edited) in
      ready_alike old new state.tree fsid (All-left (λ (at : ℕ). block_at new at ≡ block_at old at) (tree_reach old state.tree) (tree_data old state.tree) alike) (ready k d inside)

  all_ready : (fsid : List ℕ) → All (λ (s : SubState). IsReady old s.tree fsid) (lefts ++ before ∷ rights) → All (λ (s : SubState). IsReady new s.tree fsid) (lefts ++ after ∷ rights)
  all_ready fsid ready =
      let behind : All (λ (s : SubState). IsReady old s.tree fsid) (before ∷ rights) = All-right (λ (s : SubState). IsReady old s.tree fsid) lefts (before ∷ rights) ready in
      All-append (λ (s : SubState). IsReady new s.tree fsid) lefts (after ∷ rights)
      (others_ready fsid lefts (All-left (GivesPart old run) lefts (before ∷ rights) volume.each) lefts_apart (All-left (λ (s : SubState). IsReady old s.tree fsid) lefts (before ∷ rights) ready))
      (All-cons (λ (s : SubState). IsReady new s.tree fsid) after rights (operated_ready old new before after part.sub (outcome_of part.sub op indexes).next (512 + 2 * removed_from part.sub.sub op) fsid part.gives done.edit done.gives (All-head (λ (s : SubState). IsReady old s.tree fsid) before rights behind))
      (others_ready fsid rights (All-tail (GivesPart old run) before rights (All-right (GivesPart old run) lefts (before ∷ rights) volume.each)) rights_apart (All-tail (λ (s : SubState). IsReady old s.tree fsid) before rights behind)))

  -- ---- nothing changes where no block is needed
  sound : IsSoundVolume run
  sound = volume_sound old (lefts ++ before ∷ rights) run volume

  same_here : need run op ≡ 0 → (new ≡ old) × (after ≡ before)
  same_here none = elim (needs_none run op none) [
    | inl refuses ↦ done.refused (ap is_refusal (done.said ∙ sym (answer_is run part.sub op indexes sound there within)) ∙ refuses)
    | inr reads ↦ idle reads
  ]

  -- ---- the edit of one subvolume is one of all
  all_edited : IsEdit old new (states_reach old (lefts ++ before ∷ rights)) (states_reach new (lefts ++ after ∷ rights))
  all_edited =
      let taken : All (IsTaken old) (states_reach old lefts ++ (sub_reach old before.tree ++ states_reach old rights)) = subst (All (IsTaken old)) (joined old before) (all_taken old (lefts ++ before ∷ rights) run volume) in
      let whole : IsEdit old new (states_reach old lefts ++ (sub_reach old before.tree ++ states_reach old rights)) (states_reach old lefts ++ (sub_reach new after.tree ++ states_reach old rights)) = edit_among old new (states_reach old lefts) (sub_reach old before.tree) (sub_reach new after.tree) (states_reach old rights) done.edit.edit once taken in
      let now : states_reach old lefts ++ (sub_reach new after.tree ++ states_reach old rights) ≡ states_reach new (lefts ++ after ∷ rights) = ap (λ (l : List ℕ). l ++ (sub_reach new after.tree ++ states_reach old rights)) (sym lefts_same) ∙ ap (λ (l : List ℕ). states_reach new lefts ++ (sub_reach new after.tree ++ l)) (sym rights_same) ∙ sym (joined new after) in
      subst (λ (l : List ℕ). IsEdit old new l (states_reach new (lefts ++ after ∷ rights))) (sym (joined old before)) (subst (IsEdit old new (states_reach old lefts ++ (sub_reach old before.tree ++ states_reach old rights))) now whole)

  other_next : (state : SubState) → GivesPart old run state → ((at : ℕ) → Contains (sub_reach old state.tree) at → Contains (sub_reach old before.tree) at → ⊥) → IsNextOf old new state state
  other_next state gives apart =
      let alike : AreAlike old new (tree_reach old state.tree) = alike_tree old new state.tree (state_alike old new (sub_reach old before.tree) (sub_reach new after.tree) state gives.sub done.edit.edit gives.gives apart) in
      next_alike old new state alike

  others_next : (states : List SubState) → All (GivesPart old run) states → ((at : ℕ) → Contains (states_reach old states) at → Contains (sub_reach old before.tree) at → ⊥) → AreNextOf old new states states
  others_next [] each apart = tt
  others_next (state ∷ states) each apart = (
    other_next state (All-head (GivesPart old run) state states each) (λ at here edited. apart at (Contains-append_left (sub_reach old state.tree) (states_reach old states) at here) edited),
    others_next states (All-tail (GivesPart old run) state states each) (λ at here edited. apart at (Contains-append_right (sub_reach old state.tree) (states_reach old states) at here) edited),
  )

  all_next : AreNextOf old new (lefts ++ before ∷ rights) (lefts ++ after ∷ rights)
  all_next =
      next_joined old new lefts lefts (before ∷ rights) (after ∷ rights) (others_next lefts (All-left (GivesPart old run) lefts (before ∷ rights) volume.each) lefts_apart)
      (record { owner = done.edit.owner; running = done.edit.running; kept = done.edit.kept }, others_next rights (All-tail (GivesPart old run) before rights (All-right (GivesPart old run) lefts (before ∷ rights) volume.each)) rights_apart)

  pub within_done : IsDone old new (lefts ++ before ∷ rights) (lefts ++ after ∷ rights) run op answer
  within_done = record {
    indexes = indexes_of (step run op indexes).made;
    choice = shown_here.0;
    newest = ap (λ (l : List ℕ). indexes_of (step run op l).made) newest;
    said = done.said ∙ sym (ap (λ (o : VolumeOutcome). o.answer) whole_here);
    given = subst (GiveVolume new (lefts ++ after ∷ rights)) (sym (ap (λ (o : VolumeOutcome). o.next) whole_here)) next_given;
    taken = taken_at_most old new (need run op) (most_of run op) (λ none. (same_here none).0) (subst (λ (o : Option RunSub). TakesAtMost old new (most_in o op)) (sym there) done.edit.taken);
    refused = λ refusal. let same = done.refused refusal in (same.0, ap (λ (s : SubState). lefts ++ s ∷ rights) same.1);
    idle = λ none. let same = same_here none in (same.0, ap (λ (s : SubState). lefts ++ s ∷ rights) same.1);
    edit = all_edited;
    states = all_next;
    ready = all_ready;
    accounted = λ outside h. none_lost old new (sub_reach old before.tree) (sub_reach new after.tree) (outside ++ states_reach old (lefts ++ before ∷ rights)) (outside ++ states_reach new (lefts ++ after ∷ rights)) done.edit.edit h (stays outside)
        (λ at made. Contains-append_right outside (states_reach new (lefts ++ after ∷ rights)) at (to_middle at (Contains-append_left (sub_reach new after.tree) (states_reach new rights) at made)));
  }
