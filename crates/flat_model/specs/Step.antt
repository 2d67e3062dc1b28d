-- What an operation makes of a volume, which choices it leaves, and what a history makes of a volume.
use Rattle.std.specs.Prelude.{◌≡◌, ℕ, ◌+◌, ◌<◌, ◌≤◌, Bool, true, cond, List, [], ◌∷◌, length, take, Some, None, All, fold, nat_eq, slice_index, ⊤}
use Rattle.std.specs.FinMap.{get, insert}
use Rattle.flat_model.specs.declared.answer.Answer.{Answer}
use Rattle.flat_model.specs.declared.answer.Answer.TheVariants.{NoEnt, Xdev}
use Rattle.flat_model.specs.declared.op.Op.{Op}
use Rattle.flat_model.specs.declared.op.Op.TheVariants.{Create, Mkdir, Symlink, Link, Unlink, Rmdir, Rename, Exchange, Lookup, Write, Truncate, Read, SetAttr, DelAttr, GetAttr}
use Rattle.flat_model.specs.declared.place.Place.{Place}
use Rattle.flat_model.specs.Records.{new_file, new_dir, new_link}
use Rattle.flat_model.specs.Names.{FlatName}
use Rattle.flat_model.specs.Coherent.{AreBytes, IsNameBytes}
use Rattle.flat_model.specs.Volume.{Volume, RunNumbers, RunSub, RunVolume, bare_numbers, note_name, last_index_in, mounted, volume_of}
use Rattle.flat_model.specs.Operations.{Outcome, make, link, unlink, rmdir, rename, exchange, lookup, write, truncate, read, set_attribute, remove_attribute, get_attribute}

-- What an operation comes to: the volume in its run afterwards, the answer, and the names that it made, in their order (own)
pub record VolumeOutcome : Type 0 where
  pub next : RunVolume
  pub answer : Answer
  pub made : List FlatName

-- an answer with which nothing changes (own)
abbrev pub volume_unchanged : RunVolume → Answer → VolumeOutcome
volume_unchanged run answer = record { next = run; answer = answer; made = [] }

-- the place of an operation, the first where it has two
abbrev pub place_of : Op → Place
place_of (Create place) = place
place_of (Mkdir place) = place
place_of (Symlink place target) = place
place_of (Link old new) = old
place_of (Unlink place) = place
place_of (Rmdir place) = place
place_of (Rename old new) = old
place_of (Exchange one two) = one
place_of (Lookup place) = place
place_of (Write place offset text) = place
place_of (Truncate place size) = place
place_of (Read place offset count) = place
place_of (SetAttr place name value) = place
place_of (DelAttr place name) = place
place_of (GetAttr place name) = place

-- whether the places of an operation are of one subvolume
abbrev pub is_within_sub : Op → Bool
is_within_sub (Create place) = true
is_within_sub (Mkdir place) = true
is_within_sub (Symlink place target) = true
is_within_sub (Link old new) = nat_eq old.sub.0 new.sub.0
is_within_sub (Unlink place) = true
is_within_sub (Rmdir place) = true
is_within_sub (Rename old new) = nat_eq old.sub.0 new.sub.0
is_within_sub (Exchange one two) = nat_eq one.sub.0 two.sub.0
is_within_sub (Lookup place) = true
is_within_sub (Write place offset text) = true
is_within_sub (Truncate place size) = true
is_within_sub (Read place offset count) = true
is_within_sub (SetAttr place name value) = true
is_within_sub (DelAttr place name) = true
is_within_sub (GetAttr place name) = true

-- what an operation comes to in the subvolume of its places, where its new names get these indexes, in the order in which they are made (own)
abbrev pub outcome_of : RunSub → Op → List ℕ → Outcome
outcome_of run (Create place) indexes = make run place.path new_file (slice_index indexes 0)
outcome_of run (Mkdir place) indexes = make run place.path new_dir (slice_index indexes 0)
outcome_of run (Symlink place target) indexes = make run place.path (new_link target) (slice_index indexes 0)
outcome_of run (Link old new) indexes = link run old.path new.path (slice_index indexes 0)
outcome_of run (Unlink place) indexes = unlink run place.path
outcome_of run (Rmdir place) indexes = rmdir run place.path
outcome_of run (Rename old new) indexes = rename run old.path new.path (slice_index indexes 0)
outcome_of run (Exchange one two) indexes = exchange run one.path two.path (slice_index indexes 0) (slice_index indexes 1)
outcome_of run (Lookup place) indexes = lookup run place.path
outcome_of run (Write place offset text) indexes = write run place.path offset text
outcome_of run (Truncate place size) indexes = truncate run place.path size
outcome_of run (Read place offset count) indexes = read run place.path offset count
outcome_of run (SetAttr place name value) indexes = set_attribute run place.path name value
outcome_of run (DelAttr place name) indexes = remove_attribute run place.path name
outcome_of run (GetAttr place name) indexes = get_attribute run place.path name

-- a volume in which a subvolume came to this (own)
abbrev pub with_outcome : RunVolume → ℕ → Outcome → VolumeOutcome
with_outcome run id outcome = record { next = insert run id outcome.next; answer = outcome.answer; made = outcome.made }

-- what an operation of places of one subvolume comes to: NoEnt where the subvolume isn't there (own)
abbrev pub outcome_within : RunVolume → Op → List ℕ → VolumeOutcome
outcome_within run op indexes = elim (get run (place_of op).sub.0) [ None ↦ volume_unchanged run NoEnt | Some sub ↦ with_outcome run (place_of op).sub.0 (outcome_of sub op indexes) ]

-- What an operation comes to, where its new names get these indexes, in the order in which they are made (own)
unfoldable pub step : RunVolume → Op → List ℕ → VolumeOutcome
step run op indexes = cond (is_within_sub op) (outcome_within run op indexes) (volume_unchanged run Xdev)

-- the numbers beside a subvolume; where it isn't there, those of a bare one
abbrev pub numbers_in : RunVolume → ℕ → RunNumbers
numbers_in run id = elim (get run id) [ None ↦ bare_numbers | Some sub ↦ sub.numbers ]

-- a new name's index may be this: at least 2 and above every index that its directory has had, and at most one above the
-- greatest that any directory of the subvolume has had, or 2 where there was none ("DIR_INDEX", own)
pub record IsNextIndex (numbers : RunNumbers) (dir index : ℕ) : Type 0 where
  pub above_those_of_directory : last_index_in numbers dir < index
  pub at_most_one_above_all : index ≤ numbers.last_index + 1

-- the indexes of names that are made one after the other may be these (own)
abbrev pub AreNextIndexes : RunNumbers → List FlatName → Type 0
AreNextIndexes numbers [] = ⊤
AreNextIndexes numbers (name ∷ names) = IsNextIndex numbers name.dir name.index × AreNextIndexes (note_name numbers name) names

-- the indexes of the at most two names that an operation made, 0 where there is none (own)
abbrev pub indexes_of : List FlatName → List ℕ
indexes_of [] = 0 ∷ 0 ∷ []
indexes_of (name ∷ []) = name.index ∷ 0 ∷ []
indexes_of (name ∷ other ∷ names) = name.index ∷ other.index ∷ []

-- the indexes of the names that the operation makes may be these, the only choice that it leaves (own)
pub record IsChoice (run : RunVolume) (op : Op) (indexes : List ℕ) : Type 0 where
  pub shown : indexes_of (step run op indexes).made ≡ indexes
  pub next : AreNextIndexes (numbers_in run (place_of op).sub.0) (step run op indexes).made

-- what holds of each path by itself: at most 64 names, each of them a name (own limits)
abbrev pub IsPath : List (List ℕ) → Type 0
IsPath path = (length path ≤ 64) × All IsNameBytes path

-- what holds of each operation by itself: its paths are paths, its names names and its texts bytes
abbrev pub IsSpelled : Op → Type 0
IsSpelled (Create place) = IsPath place.path
IsSpelled (Mkdir place) = IsPath place.path
IsSpelled (Symlink place target) = IsPath place.path × AreBytes target
IsSpelled (Link old new) = IsPath old.path × IsPath new.path
IsSpelled (Unlink place) = IsPath place.path
IsSpelled (Rmdir place) = IsPath place.path
IsSpelled (Rename old new) = IsPath old.path × IsPath new.path
IsSpelled (Exchange one two) = IsPath one.path × IsPath two.path
IsSpelled (Lookup place) = IsPath place.path
IsSpelled (Write place offset text) = IsPath place.path × AreBytes text
IsSpelled (Truncate place size) = IsPath place.path
IsSpelled (Read place offset count) = IsPath place.path
IsSpelled (SetAttr place name value) = IsPath place.path × IsNameBytes name × AreBytes value
IsSpelled (DelAttr place name) = IsPath place.path × IsNameBytes name
IsSpelled (GetAttr place name) = IsPath place.path × IsNameBytes name

-- an operation is in its limits: a write's text has 1 to 65,536 bytes, a symlink's target 1 to 1023, an attribute's value at least 1 (own limits)
abbrev pub IsInLimits : Op → Type 0
IsInLimits (Symlink place target) = (1 ≤ length target) × (length target ≤ 1023)
IsInLimits (Write place offset text) = (1 ≤ length text) × (length text ≤ 65536)
IsInLimits (SetAttr place name value) = 1 ≤ length value
IsInLimits op = ⊤

-- an operation of a run: the indexes that its new names got, and whether it found too little room and changed nothing (own)
pub record Operated : Type 0 where
  pub op : Op
  pub indexes : List ℕ
  pub short : Bool

-- the volume in its run after one operation more (own)
abbrev pub after_one : RunVolume → Operated → RunVolume
after_one run operated = cond operated.short run (step run operated.op operated.indexes).next

-- the volume in its run after these operations (own)
abbrev pub after_all : RunVolume → List Operated → RunVolume
after_all run history = fold after_one run history

-- the flat volume at a point of a history: after so many of its operations, from the volume that was mounted (own)
abbrev pub volume_at : Volume → List Operated → ℕ → Volume
volume_at volume history point = volume_of (after_all (mounted volume) (take point history))

-- an operation may come in a run: it is in its limits, and the indexes are a choice that it leaves, 0 where it found too little room; when it may find too little room isn't said here (own)
pub record MayCome (run : RunVolume) (operated : Operated) : Type 0 where
  pub spelled : IsSpelled operated.op
  pub in_limits : IsInLimits operated.op
  pub choice : cond operated.short (operated.indexes ≡ 0 ∷ 0 ∷ []) (IsChoice run operated.op operated.indexes)

-- each of these operations may come after those before it (own)
abbrev pub IsHistory : RunVolume → List Operated → Type 0
IsHistory run [] = ⊤
IsHistory run (operated ∷ history) = MayCome run operated × IsHistory (after_one run operated) history
