-- In a volume an operation leaves nothing open but the indexes of its new names.
use Rattle.std.proofs.Common.{◌≡◌, ℕ, true, false, cond, List, [], Some, None, refl, sym, ap, subst}
use Rattle.std.specs.Bool.{nat_eq}
use Rattle.std.specs.List.{slice_index}
use Rattle.std.specs.FinMap.{get, insert}
use Rattle.flat_model.specs.declared.answer.Answer.TheVariants.{NoEnt, Xdev}
use Rattle.flat_model.specs.declared.op.Op.{Op}
use Rattle.flat_model.specs.declared.op.Op.TheVariants.{Create, Mkdir, Symlink, Link, Unlink, Rmdir, Rename, Exchange, Lookup, Write, Truncate, Read, SetAttr, DelAttr, GetAttr}
use Rattle.flat_model.specs.declared.place.Place.{Place}
use Rattle.flat_model.specs.Records.{new_file, new_dir, new_link}
use Rattle.flat_model.specs.Volume.{RunNumbers, RunSub, RunVolume, bare_numbers}
use Rattle.flat_model.specs.Operations.{Outcome, make, link, unlink, rmdir, rename, exchange, lookup, write, truncate, read, set_attribute, remove_attribute, get_attribute}
use Rattle.flat_model.specs.Step.{VolumeOutcome, volume_unchanged, with_outcome, outcome_of, outcome_within, is_within_sub, step, place_of, numbers_in, AreNextIndexes, indexes_of, IsChoice}
use Rattle.flat_model.specs.Running.{IsSound, IsSoundVolume}
use Rattle.flat_laws.proofs.Choices.{next_two, LeavesIndexes, make_leaves, link_leaves, rename_leaves, exchange_leaves, quiet_leaves}
use Rattle.flat_laws.proofs.Refusals.{unlink_quiet, rmdir_quiet, lookup_quiet, write_quiet, truncate_quiet, read_quiet, set_attribute_quiet, remove_attribute_quiet, get_attribute_quiet}

-- an operation on a volume leaves nothing else open, with these numbers beside its subvolume
pub record LeavesInVolume (numbers : RunNumbers) (operate : List ℕ → VolumeOutcome) : Type 0 where
  pub one_answer : (one two : List ℕ) → (operate one).answer ≡ (operate two).answer
  pub shown : (indexes : List ℕ) → operate (indexes_of (operate indexes).made) ≡ operate indexes
  pub left : AreNextIndexes numbers (operate (next_two numbers)).made

-- nor does what is one outcome for all indexes and makes no name
unchanged_leaves : (numbers : RunNumbers) (outcome : VolumeOutcome) → outcome.made ≡ [] → LeavesInVolume numbers (λ indexes. outcome)
unchanged_leaves numbers outcome none = record {
  one_answer = λ one two. refl;
  shown = λ indexes. refl;
  left = subst (AreNextIndexes numbers) (sym none) tt;
}

-- each operation in a subvolume
outcome_leaves : (run : RunSub) → IsSound run → (op : Op) → LeavesIndexes run (outcome_of run op)
outcome_leaves run sound (Create place) = make_leaves run sound place.path new_file
outcome_leaves run sound (Mkdir place) = make_leaves run sound place.path new_dir
outcome_leaves run sound (Symlink place target) = make_leaves run sound place.path (new_link target)
outcome_leaves run sound (Link old new) = link_leaves run sound old.path new.path
outcome_leaves run sound (Unlink place) = quiet_leaves run (unlink run place.path) (unlink_quiet run place.path).1
outcome_leaves run sound (Rmdir place) = quiet_leaves run (rmdir run place.path) (rmdir_quiet run place.path).1
outcome_leaves run sound (Rename old new) = rename_leaves run sound old.path new.path
outcome_leaves run sound (Exchange one two) = exchange_leaves run sound one.path two.path
outcome_leaves run sound (Lookup place) = quiet_leaves run (lookup run place.path) (lookup_quiet run place.path).1
outcome_leaves run sound (Write place offset text) = quiet_leaves run (write run place.path offset text) (write_quiet run place.path offset text).1
outcome_leaves run sound (Truncate place size) = quiet_leaves run (truncate run place.path size) (truncate_quiet run place.path size).1
outcome_leaves run sound (Read place offset count) = quiet_leaves run (read run place.path offset count) (read_quiet run place.path offset count).1
outcome_leaves run sound (SetAttr place name value) = quiet_leaves run (set_attribute run place.path name value) (set_attribute_quiet run place.path name value).1
outcome_leaves run sound (DelAttr place name) = quiet_leaves run (remove_attribute run place.path name) (remove_attribute_quiet run place.path name).1
outcome_leaves run sound (GetAttr place name) = quiet_leaves run (get_attribute run place.path name) (get_attribute_quiet run place.path name).1

pub step_leaves : (run : RunVolume) → IsSoundVolume run → (op : Op) → LeavesInVolume (numbers_in run (place_of op).sub.0) (step run op)
unfolding step
step_leaves run sound op =
    let id : ℕ = (place_of op).sub.0 in
    elim (is_within_sub op) as (λ b. LeavesInVolume (numbers_in run id) (λ indexes. cond b (outcome_within run op indexes) (volume_unchanged run Xdev))) [
      | true ↦
          elim (get run id) as (λ o. get run id ≡ o → LeavesInVolume (elim o [ None ↦ bare_numbers | Some sub ↦ sub.numbers ]) (λ indexes. elim o [ None ↦ volume_unchanged run NoEnt | Some sub ↦ with_outcome run id (outcome_of sub op indexes) ])) [
            | None ↦ λ e. unchanged_leaves bare_numbers (volume_unchanged run NoEnt) refl
            | Some sub ↦ λ e. let free = outcome_leaves sub (sound id sub e) op in record {
              one_answer = free.one_answer;
              shown = λ indexes. ap (with_outcome run id) (free.shown indexes);
              left = free.left;
            }
          ] refl
      | false ↦ unchanged_leaves (numbers_in run id) (volume_unchanged run Xdev) refl
    ]

-- the answer doesn't depend on the indexes
pub step_answer : (run : RunVolume) (op : Op) (one two : List ℕ) → IsSoundVolume run → (step run op one).answer ≡ (step run op two).answer
step_answer run op one two sound = (step_leaves run sound op).one_answer one two

-- what an operation made shows its indexes
pub step_shown : (run : RunVolume) (op : Op) (indexes : List ℕ) → IsSoundVolume run → AreNextIndexes (numbers_in run (place_of op).sub.0) (step run op indexes).made → IsChoice run op (indexes_of (step run op indexes).made) × (step run op (indexes_of (step run op indexes).made) ≡ step run op indexes)
step_shown run op indexes sound next =
    let same = (step_leaves run sound op).shown indexes in (
      record {
        shown = ap (λ (o : VolumeOutcome). indexes_of o.made) same;
        next = subst (λ (o : VolumeOutcome). AreNextIndexes (numbers_in run (place_of op).sub.0) o.made) (sym same) next;
      },
      same,
    )

-- there is a choice
pub step_choice : (run : RunVolume) (op : Op) → IsSoundVolume run → (indexes : List ℕ) × IsChoice run op indexes
step_choice run op sound =
    let above = next_two (numbers_in run (place_of op).sub.0) in
    (indexes_of (step run op above).made, (step_shown run op above sound (step_leaves run sound op).left).0)
