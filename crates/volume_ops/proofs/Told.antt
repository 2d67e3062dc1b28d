-- The next index behind an operation tells which indexes its new names got.
use Rattle.std.proofs.Common.{◌≡◌, ◌∙◌, ◌+◌, ◌-◌, max, ℕ, Bool, true, false, cond, List, [], ◌∷◌, Option, Some, None, refl, sym, ap, subst, arith, inl, inr}
use Rattle.std.specs.Prelude.{fold, slice_index}
use Rattle.std.specs.FinMap.{get, insert}
use Rattle.flat_model.specs.declared.op.Op.{Op}
use Rattle.flat_model.specs.declared.op.Op.TheVariants.{Create, Mkdir, Symlink, Link, Unlink, Rmdir, Rename, Exchange, Lookup, Write, Truncate, Read, SetAttr, DelAttr, GetAttr}
use Rattle.flat_model.specs.declared.answer.Answer.TheVariants.{NoEnt, Xdev}
use Rattle.flat_model.specs.Names.{FlatName}
use Rattle.flat_model.specs.Records.{InodeRecord, new_file, new_dir, new_link}
use Rattle.flat_model.specs.Operations.{Outcome, make, make_done, make_rows, link, link_done, link_rows, rename, rename_done, rename_rows, exchange, exchange_done, exchange_rows, names_without, new_name, unlink, rmdir, lookup, write, truncate, read, set_attribute, remove_attribute, get_attribute, without_entry}
use Rattle.flat_model.specs.Running.{IsSoundVolume}
use Rattle.flat_model.specs.Step.{VolumeOutcome, indexes_of, is_within_sub, outcome_of, outcome_within, place_of, step, volume_unchanged, with_outcome, numbers_in}
use Rattle.flat_model.specs.Volume.{RunNumbers, RunSub, RunVolume, note_name, bare_numbers}
use Rattle.flat_model.specs.Walk.{WalkEnd, ino_at, walk}
use Rattle.flat_model.proofs.Fresh.{outcome_cases}
use Rattle.flat_model.proofs.Maps.{get_insert_same}
use Rattle.flat_model.proofs.Steps.{numbers_there}
use Rattle.flat_laws.proofs.Changes.{outcome_changes}
use Rattle.flat_laws.proofs.Refusals.{unlink_quiet, rmdir_quiet, lookup_quiet, write_quiet, truncate_quiet, read_quiet, set_attribute_quiet, remove_attribute_quiet, get_attribute_quiet}
use Rattle.flat_laws.proofs.Shown.{step_leaves}
use Rattle.volume_ops.specs.Done.{newest_indexes}
use Rattle.volume_ops.specs.Indexes.{first_made, made_between, next_index_in, next_index_of}

-- none, one or two names, which have the indexes from this one on
abbrev HaveFirst : ℕ → List FlatName → Type 0
HaveFirst next [] = Unit {0}
HaveFirst next (name ∷ []) = name.index ≡ next
HaveFirst next (name ∷ other ∷ []) = (name.index ≡ next) × (other.index ≡ next + 1)
HaveFirst next (name ∷ other ∷ third ∷ names) = ⊥

none_first : (next : ℕ) (made : List FlatName) → made ≡ [] → HaveFirst next made
none_first next made none = subst (HaveFirst next) (sym none) tt

abbrev Firsts : ℕ → Outcome → Type 0
Firsts next outcome = HaveFirst next outcome.made

make_first : (run : RunSub) (path : List (List ℕ)) (inode : InodeRecord) (next : ℕ) → Firsts next (make run path inode next)
unfolding make
make_first run path inode next =
    let name = new_name run.sub.names (walk run.sub path) next (run.numbers.last_ino + 1) in
    outcome_cases (Firsts next) run (make_rows run (walk run.sub path) name) (make_done run inode name) (λ answer. tt) (λ none. refl)

link_first : (run : RunSub) (old new : List (List ℕ)) (next : ℕ) → Firsts next (link run old new next)
unfolding link
link_first run old new next =
    let from = walk run.sub old in
    let to = walk run.sub new in
    let name = new_name run.sub.names to next (Rattle.std.specs.Option.unwrap_or (ino_at from) 0) in
    outcome_cases (Firsts next) run (link_rows run from to name) (link_done run name) (λ answer. tt) (λ none. refl)

rename_first : (run : RunSub) (old new : List (List ℕ)) (next : ℕ) → Firsts next (rename run old new next)
unfolding rename
rename_first run old new next =
    let from = walk run.sub old in
    let to = walk run.sub new in
    let without = without_entry run.sub to in
    let left = names_without without.names from in
    let name = new_name left to next (Rattle.std.specs.Option.unwrap_or (ino_at from) 0) in
    outcome_cases (Firsts next) run (rename_rows run old new from to left name) (rename_done run without left name) (λ answer. tt) (λ none. refl)

exchange_first : (run : RunSub) (one two : List (List ℕ)) (next : ℕ) → Firsts next (exchange run one two next (next + 1))
unfolding exchange
exchange_first run one two next =
    let first = walk run.sub one in
    let second = walk run.sub two in
    let left = names_without (names_without run.sub.names first) second in
    let made = new_name left first next (Rattle.std.specs.Option.unwrap_or (ino_at second) 0) ∷ new_name left second (next + 1) (Rattle.std.specs.Option.unwrap_or (ino_at first) 0) ∷ [] in
    outcome_cases (Firsts next) run (exchange_rows run one two first second left made) (exchange_done run left made) (λ answer. tt) (λ none. (refl, refl))

-- each operation in a subvolume, where its new names get the index from this one on
all_first : (run : RunSub) (op : Op) (next : ℕ) → Firsts next (outcome_of run op (next ∷ (next + 1) ∷ []))
all_first run (Create place) next = make_first run place.path new_file next
all_first run (Mkdir place) next = make_first run place.path new_dir next
all_first run (Symlink place target) next = make_first run place.path (new_link target) next
all_first run (Link old new) next = link_first run old.path new.path next
all_first run (Unlink place) next = none_first next _ (unlink_quiet run place.path).1
all_first run (Rmdir place) next = none_first next _ (rmdir_quiet run place.path).1
all_first run (Rename old new) next = rename_first run old.path new.path next
all_first run (Exchange one two) next = exchange_first run one.path two.path next
all_first run (Lookup place) next = none_first next _ (lookup_quiet run place.path).1
all_first run (Write place offset text) next = none_first next _ (write_quiet run place.path offset text).1
all_first run (Truncate place size) next = none_first next _ (truncate_quiet run place.path size).1
all_first run (Read place offset count) next = none_first next _ (read_quiet run place.path offset count).1
all_first run (SetAttr place name value) next = none_first next _ (set_attribute_quiet run place.path name value).1
all_first run (DelAttr place name) next = none_first next _ (remove_attribute_quiet run place.path name).1
all_first run (GetAttr place name) next = none_first next _ (get_attribute_quiet run place.path name).1

-- how many names there are, the greatest index behind them tells
told_by_last : (numbers : RunNumbers) (made : List FlatName) (last : ℕ) → HaveFirst (numbers.last_index + 1) made → last ≡ (fold note_name numbers made).last_index
    → indexes_of made ≡ made_between (numbers.last_index + 1) (last + 1)
told_by_last numbers [] last first is =
    ap (first_made (numbers.last_index + 1)) (let zero : 0 ≡ (last + 1) - (numbers.last_index + 1) = omega (arith, is) in zero)
told_by_last numbers (name ∷ []) last first is =
    ap (λ (n : ℕ). n ∷ 0 ∷ []) first
    ∙ ap (first_made (numbers.last_index + 1)) (let one : 1 ≡ (last + 1) - (numbers.last_index + 1) = omega (arith, is, first) in one)
told_by_last numbers (name ∷ other ∷ []) last first is =
    let one = first.0 in
    let two = first.1 in
    ap (λ (n : ℕ). n ∷ other.index ∷ []) one
    ∙ ap (λ (n : ℕ). (numbers.last_index + 1) ∷ n ∷ []) two
    ∙ ap (first_made (numbers.last_index + 1)) (let both : 2 ≡ (last + 1) - (numbers.last_index + 1) = omega (arith, is, one, two) in both)
told_by_last numbers (name ∷ other ∷ third ∷ names) last first is = absurd first

-- what is unchanged has made no name
unchanged_told : (next : ℕ) → 0 ∷ 0 ∷ [] ≡ made_between next next
unchanged_told next = ap (first_made next) (let zero : 0 ≡ next - next = omega arith in zero)

abbrev Tells : ℕ → ℕ → VolumeOutcome → Type 0
Tells before id outcome = indexes_of outcome.made ≡ made_between before (next_index_in (get outcome.next id))

told_of : (run : RunVolume) (op : Op) (sub : RunSub) → Tells (sub.numbers.last_index + 1) (place_of op).sub.0 (with_outcome run (place_of op).sub.0 (outcome_of sub op ((sub.numbers.last_index + 1) ∷ (sub.numbers.last_index + 2) ∷ [])))
told_of run op sub =
    let last : ℕ = sub.numbers.last_index in
    let outcome = outcome_of sub op ((last + 1) ∷ (last + 2) ∷ []) in
    let first : Firsts (last + 1) outcome = subst (λ (n : ℕ). Firsts (last + 1) (outcome_of sub op ((last + 1) ∷ n ∷ []))) (omega arith) (all_first sub op (last + 1)) in
    told_by_last sub.numbers outcome.made outcome.next.numbers.last_index first (outcome_changes sub op ((last + 1) ∷ (last + 2) ∷ [])).last_index
    ∙ ap (λ (o : Option RunSub). made_between (last + 1) (next_index_in o)) (sym (get_insert_same run (place_of op).sub.0 outcome.next))

told_within : (run : RunVolume) (op : Op) → Tells (next_index_of run op) (place_of op).sub.0 (outcome_within run op (newest_indexes run op))
told_within run op =
    let id : ℕ = (place_of op).sub.0 in
    elim (get run id) as (λ o. get run id ≡ o → (numbers : RunNumbers) → numbers ≡ numbers_in run id → Tells (next_index_in o) id (elim o [ None ↦ volume_unchanged run NoEnt | Some sub ↦ with_outcome run id (outcome_of sub op ((numbers.last_index + 1) ∷ (numbers.last_index + 2) ∷ [])) ])) [
      | None ↦ λ e numbers is. subst (λ (o : Option RunSub). 0 ∷ 0 ∷ [] ≡ made_between 0 (next_index_in o)) (sym e) (unchanged_told 0)
      | Some sub ↦ λ e numbers is.
          subst (λ (n : RunNumbers). Tells (sub.numbers.last_index + 1) id (with_outcome run id (outcome_of sub op ((n.last_index + 1) ∷ (n.last_index + 2) ∷ [])))) (sym (is ∙ numbers_there run id sub e)) (told_of run op sub)
    ] refl (numbers_in run id) refl

told_newest : (run : RunVolume) (op : Op) → Tells (next_index_of run op) (place_of op).sub.0 (step run op (newest_indexes run op))
unfolding step
told_newest run op =
    elim (is_within_sub op) as (λ b. Tells (next_index_of run op) (place_of op).sub.0 (cond b (outcome_within run op (newest_indexes run op)) (volume_unchanged run Xdev))) [
      | true ↦ told_within run op
      | false ↦ unchanged_told (next_index_of run op)
    ]

-- the indexes that its new names got are those from the next index before it up to the next one behind it
pub made_told : (run : RunVolume) (op : Op) (indexes : List ℕ) → IsSoundVolume run → indexes ≡ indexes_of (step run op (newest_indexes run op)).made → indexes ≡ made_between (next_index_of run op) (next_index_of (step run op indexes).next op)
made_told run op indexes sound newest =
    let same : step run op indexes ≡ step run op (newest_indexes run op) = ap (step run op) newest ∙ (step_leaves run sound op).shown (newest_indexes run op) in
    newest ∙ told_newest run op ∙ ap (λ (o : VolumeOutcome). made_between (next_index_of run op) (next_index_of o.next op)) (sym same)
