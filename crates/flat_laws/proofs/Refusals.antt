-- An operation that is refused leaves a volume in its run as it was.
use Rattle.std.proofs.Common.{◌≡◌, ℕ, ◌+◌, Bool, true, false, cond, List, [], ◌∷◌, length, Some, None, refl, sym, ap, ◌∙◌}
use Rattle.std.specs.Bool.{nat_eq, nat_lt}
use Rattle.std.specs.List.{slice_index}
use Rattle.std.specs.Option.{unwrap_or}
use Rattle.std.specs.FinMap.{get, insert}
use Rattle.std.proofs.lemmas.Bool.{true≢false}
use Rattle.blk_base.specs.Crc.{name_hash_of}
use Rattle.flat_model.specs.declared.answer.Answer.{Answer}
use Rattle.flat_model.specs.declared.answer.Answer.TheVariants.{NoEnt, Xdev, NotDir, TooLarge, Collide}
use Rattle.flat_model.specs.declared.op.Op.{Op}
use Rattle.flat_model.specs.declared.op.Op.TheVariants.{Create, Mkdir, Symlink, Link, Unlink, Rmdir, Rename, Exchange, Lookup, Write, Truncate, Read, SetAttr, DelAttr, GetAttr}
use Rattle.flat_model.specs.declared.place.Place.{Place}
use Rattle.flat_model.specs.Records.{InodeRecord, Attributes, new_file, new_dir, new_link}
use Rattle.flat_model.specs.Lengths.{most_item_bytes, xattr_item_length}
use Rattle.flat_model.specs.Contents.{most_file_bytes}
use Rattle.flat_model.specs.Names.{FlatName}
use Rattle.flat_model.specs.Volume.{RunSub, RunVolume}
use Rattle.flat_model.specs.Walk.{WalkEnd, walk, ino_at, record_at, is_absent, is_blocked}
use Rattle.flat_model.specs.Operations.{Outcome, unless_refused, new_name, names_without, without_entry, make, make_rows, link, link_rows, unlink, unlink_rows, rmdir, rmdir_rows, rename, rename_rows, exchange, exchange_rows, lookup, file_rows, write, truncate, read, attributes_there, attribute_rows, set_attribute, remove_attribute, get_attribute}
use Rattle.flat_model.specs.Step.{VolumeOutcome, outcome_of, place_of, step}
use Rattle.flat_model.proofs.Maps.{insert_same}
use Rattle.flat_model.proofs.Fresh.{outcome_cases}
use Rattle.flat_model.proofs.Steps.{step_cases}
use Rattle.flat_model.specs.Refusal.{is_refusal}

-- what a refusal owes in a subvolume
abbrev KeepsRefused : RunSub → Outcome → Type 0
KeepsRefused run outcome = is_refusal outcome.answer ≡ true → (outcome.next ≡ run) × (outcome.made ≡ [])

-- and in a volume
abbrev KeepsVolume : RunVolume → VolumeOutcome → Type 0
KeepsVolume run outcome = is_refusal outcome.answer ≡ true → (outcome.next ≡ run) × (outcome.made ≡ [])

-- rows keep it, where what is done doesn't answer with a refusal
refused_rows : (run : RunSub) (rows : List (Bool × Answer)) (done : Outcome) → is_refusal done.answer ≡ false → KeepsRefused run (unless_refused run rows done)
refused_rows run rows done works = outcome_cases (KeepsRefused run) run rows done (λ answer refused. (refl, refl)) (λ none refused. absurd (true≢false (sym refused ∙ works)))

-- what an operation owes in a subvolume that makes no name
abbrev pub IsQuiet : RunSub → Outcome → Type 0
IsQuiet run outcome = KeepsRefused run outcome × (outcome.made ≡ [])

quiet_rows : (run : RunSub) (rows : List (Bool × Answer)) (done : Outcome) → is_refusal done.answer ≡ false → done.made ≡ [] → IsQuiet run (unless_refused run rows done)
quiet_rows run rows done works none = (refused_rows run rows done works, outcome_cases (λ (o : Outcome). o.made ≡ []) run rows done (λ answer. refl) (λ _. none))

-- ---- operations on a subvolume

make_refused : (run : RunSub) (path : List (List ℕ)) (inode : InodeRecord) (index : ℕ) → KeepsRefused run (make run path inode index)
unfolding make
make_refused run path inode index =
    let place : WalkEnd = walk run.sub path in
    refused_rows run (make_rows run place (new_name run.sub.names place index (run.numbers.last_ino + 1))) _ refl

link_refused : (run : RunSub) (old new : List (List ℕ)) (index : ℕ) → KeepsRefused run (link run old new index)
unfolding link
link_refused run old new index =
    let from : WalkEnd = walk run.sub old in
    let to : WalkEnd = walk run.sub new in
    refused_rows run (link_rows run from to (new_name run.sub.names to index (unwrap_or (ino_at from) 0))) _ refl

pub unlink_quiet : (run : RunSub) (path : List (List ℕ)) → IsQuiet run (unlink run path)
unfolding unlink
unlink_quiet run path = quiet_rows run (unlink_rows run (walk run.sub path)) _ refl refl

pub rmdir_quiet : (run : RunSub) (path : List (List ℕ)) → IsQuiet run (rmdir run path)
unfolding rmdir
rmdir_quiet run path = quiet_rows run (rmdir_rows run (walk run.sub path)) _ refl refl

rename_refused : (run : RunSub) (old new : List (List ℕ)) (index : ℕ) → KeepsRefused run (rename run old new index)
unfolding rename
rename_refused run old new index =
    let from : WalkEnd = walk run.sub old in
    let to : WalkEnd = walk run.sub new in
    let left : List FlatName = names_without (without_entry run.sub to).names from in
    refused_rows run (rename_rows run old new from to left (new_name left to index (unwrap_or (ino_at from) 0))) _ refl

exchange_refused : (run : RunSub) (one two : List (List ℕ)) (i j : ℕ) → KeepsRefused run (exchange run one two i j)
unfolding exchange
exchange_refused run one two i j =
    let first : WalkEnd = walk run.sub one in
    let second : WalkEnd = walk run.sub two in
    let left : List FlatName = names_without (names_without run.sub.names first) second in
    let made : List FlatName = new_name left first i (unwrap_or (ino_at second) 0) ∷ new_name left second j (unwrap_or (ino_at first) 0) ∷ [] in
    refused_rows run (exchange_rows run one two first second left made) _ refl

pub lookup_quiet : (run : RunSub) (path : List (List ℕ)) → IsQuiet run (lookup run path)
unfolding lookup
lookup_quiet run path =
    let place : WalkEnd = walk run.sub path in
    quiet_rows run ((is_absent place, NoEnt) ∷ (is_blocked place, NotDir) ∷ []) _ refl refl

pub write_quiet : (run : RunSub) (path : List (List ℕ)) (offset : ℕ) (text : List ℕ) → IsQuiet run (write run path offset text)
unfolding write
write_quiet run path offset text = quiet_rows run (file_rows run (walk run.sub path) ((nat_lt most_file_bytes (offset + length text), TooLarge) ∷ [])) _ refl refl

pub truncate_quiet : (run : RunSub) (path : List (List ℕ)) (size : ℕ) → IsQuiet run (truncate run path size)
unfolding truncate
truncate_quiet run path size = quiet_rows run (file_rows run (walk run.sub path) ((nat_lt most_file_bytes size, TooLarge) ∷ [])) _ refl refl

pub read_quiet : (run : RunSub) (path : List (List ℕ)) (offset count : ℕ) → IsQuiet run (read run path offset count)
unfolding read
read_quiet run path offset count = quiet_rows run (file_rows run (walk run.sub path) []) _ refl refl

pub set_attribute_quiet : (run : RunSub) (path : List (List ℕ)) (name value : List ℕ) → IsQuiet run (set_attribute run path name value)
unfolding set_attribute
set_attribute_quiet run path name value =
    let place : WalkEnd = walk run.sub path in
    let attributes : Attributes = insert (attributes_there (record_at run.sub place)) name value in
    quiet_rows run ((is_absent place, NoEnt) ∷ (is_blocked place, NotDir) ∷ (nat_lt 1024 (length value), TooLarge) ∷ (nat_lt most_item_bytes (xattr_item_length attributes (name_hash_of name)), Collide) ∷ []) _ refl refl

pub remove_attribute_quiet : (run : RunSub) (path : List (List ℕ)) (name : List ℕ) → IsQuiet run (remove_attribute run path name)
unfolding remove_attribute
remove_attribute_quiet run path name = quiet_rows run (attribute_rows run (walk run.sub path) name) _ refl refl

pub get_attribute_quiet : (run : RunSub) (path : List (List ℕ)) (name : List ℕ) → IsQuiet run (get_attribute run path name)
unfolding get_attribute
get_attribute_quiet run path name = quiet_rows run (attribute_rows run (walk run.sub path) name) _ refl refl

-- each operation in a subvolume
outcome_refused : (run : RunSub) (op : Op) (indexes : List ℕ) → KeepsRefused run (outcome_of run op indexes)
outcome_refused run (Create place) indexes = make_refused run place.path new_file (slice_index indexes 0)
outcome_refused run (Mkdir place) indexes = make_refused run place.path new_dir (slice_index indexes 0)
outcome_refused run (Symlink place target) indexes = make_refused run place.path (new_link target) (slice_index indexes 0)
outcome_refused run (Link old new) indexes = link_refused run old.path new.path (slice_index indexes 0)
outcome_refused run (Unlink place) indexes = (unlink_quiet run place.path).0
outcome_refused run (Rmdir place) indexes = (rmdir_quiet run place.path).0
outcome_refused run (Rename old new) indexes = rename_refused run old.path new.path (slice_index indexes 0)
outcome_refused run (Exchange one two) indexes = exchange_refused run one.path two.path (slice_index indexes 0) (slice_index indexes 1)
outcome_refused run (Lookup place) indexes = (lookup_quiet run place.path).0
outcome_refused run (Write place offset text) indexes = (write_quiet run place.path offset text).0
outcome_refused run (Truncate place size) indexes = (truncate_quiet run place.path size).0
outcome_refused run (Read place offset count) indexes = (read_quiet run place.path offset count).0
outcome_refused run (SetAttr place name value) indexes = (set_attribute_quiet run place.path name value).0
outcome_refused run (DelAttr place name) indexes = (remove_attribute_quiet run place.path name).0
outcome_refused run (GetAttr place name) indexes = (get_attribute_quiet run place.path name).0

-- ---- operations on a volume

pub step_refused : (run : RunVolume) (op : Op) (indexes : List ℕ) → KeepsVolume run (step run op indexes)
step_refused run op indexes =
    step_cases (KeepsVolume run) run op indexes (λ refused. (refl, refl)) (λ refused. (refl, refl)) (λ sub there refused.
    let id : ℕ = (place_of op).sub.0 in
    let kept = outcome_refused sub op indexes refused in
    (ap (insert run id) kept.0 ∙ insert_same run id sub there, kept.1))
