-- What an operation may answer.
use Rattle.std.proofs.Common.{◌≡◌, ℕ, ◌+◌, Bool, true, false, cond, ◌&&◌, ◌||◌, List, [], ◌∷◌, length, Option, Some, None, refl, sym, ap, ◌∙◌}
use Rattle.std.specs.Bool.{nat_lt}
use Rattle.std.specs.Option.{unwrap_or}
use Rattle.std.specs.List.{slice_index}
use Rattle.std.specs.FinMap.{insert}
use Rattle.std.proofs.lemmas.Bool.{true≢false, and_parts}
use Rattle.blk_base.specs.Crc.{name_hash_of}
use Rattle.flat_model.specs.declared.answer.Answer.{Answer}
use Rattle.flat_model.specs.declared.answer.Answer.TheVariants.{NoEnt, NotDir, TooLarge, Collide}
use Rattle.flat_model.specs.declared.op.Op.{Op}
use Rattle.flat_model.specs.declared.op.Op.TheVariants.{Create, Mkdir, Symlink, Link, Unlink, Rmdir, Rename, Exchange, Lookup, Write, Truncate, Read, SetAttr, DelAttr, GetAttr}
use Rattle.flat_model.specs.Records.{InodeRecord, Attributes, new_file, new_dir, new_link}
use Rattle.flat_model.specs.Contents.{most_file_bytes}
use Rattle.flat_model.specs.Lengths.{most_item_bytes, xattr_item_length}
use Rattle.flat_model.specs.Names.{FlatName}
use Rattle.flat_model.specs.Volume.{RunSub, RunVolume}
use Rattle.flat_model.specs.Walk.{WalkEnd, walk, ino_at, record_at, is_absent, is_blocked}
use Rattle.flat_model.specs.Operations.{Outcome, first_answer, unchanged, unless_refused, new_name, names_without, without_entry, make, make_rows, link, link_rows, unlink, unlink_rows, rmdir, rmdir_rows, rename, rename_rows, exchange, exchange_rows, lookup, file_rows, write, truncate, read, attributes_there, attribute_rows, set_attribute, remove_attribute, get_attribute}
use Rattle.flat_model.specs.Step.{VolumeOutcome, outcome_of, step}
use Rattle.flat_model.specs.Refusal.{is_refusal, is_done}
use Rattle.flat_model.proofs.Steps.{step_cases}

-- an answer that an operation may give
abbrev may_say : Answer → Bool
may_say answer = is_done answer || is_refusal answer

-- each row's answer is one that an operation may give
abbrev rows_say : List (Bool × Answer) → Bool
rows_say [] = true
rows_say (row ∷ rows) = may_say row.1 && rows_say rows

by_rows : (run : RunSub) (rows : List (Bool × Answer)) (done : Outcome) → rows_say rows ≡ true → may_say done.answer ≡ true → may_say (unless_refused run rows done).answer ≡ true
by_rows run [] done rows_may may = may
by_rows run (row ∷ rows) done rows_may may =
    let parts = and_parts (may_say row.1) (rows_say rows) rows_may in
    elim (row.0) as (λ b. may_say (elim (cond b (Some row.1) (first_answer rows)) as (λ o. Outcome) [ None ↦ done | Some answer ↦ unchanged run answer ]).answer ≡ true) [
      | true ↦ parts.0
      | false ↦ by_rows run rows done parts.1 may
    ]

make_says : (run : RunSub) (path : List (List ℕ)) (inode : InodeRecord) (index : ℕ) → may_say (make run path inode index).answer ≡ true
unfolding make
make_says run path inode index = let place : WalkEnd = walk run.sub path in by_rows run (make_rows run place (new_name run.sub.names place index (run.numbers.last_ino + 1))) _ refl refl

link_says : (run : RunSub) (old new : List (List ℕ)) (index : ℕ) → may_say (link run old new index).answer ≡ true
unfolding link
link_says run old new index =
    let from : WalkEnd = walk run.sub old in
    let to : WalkEnd = walk run.sub new in
    by_rows run (link_rows run from to (new_name run.sub.names to index (unwrap_or (ino_at from) 0))) _ refl refl

unlink_says : (run : RunSub) (path : List (List ℕ)) → may_say (unlink run path).answer ≡ true
unfolding unlink
unlink_says run path = by_rows run (unlink_rows run (walk run.sub path)) _ refl refl

rmdir_says : (run : RunSub) (path : List (List ℕ)) → may_say (rmdir run path).answer ≡ true
unfolding rmdir
rmdir_says run path = by_rows run (rmdir_rows run (walk run.sub path)) _ refl refl

rename_says : (run : RunSub) (old new : List (List ℕ)) (index : ℕ) → may_say (rename run old new index).answer ≡ true
unfolding rename
rename_says run old new index =
    let from : WalkEnd = walk run.sub old in
    let to : WalkEnd = walk run.sub new in
    let left : List FlatName = names_without (without_entry run.sub to).names from in
    by_rows run (rename_rows run old new from to left (new_name left to index (unwrap_or (ino_at from) 0))) _ refl refl

exchange_says : (run : RunSub) (one two : List (List ℕ)) (i j : ℕ) → may_say (exchange run one two i j).answer ≡ true
unfolding exchange
exchange_says run one two i j =
    let first : WalkEnd = walk run.sub one in
    let second : WalkEnd = walk run.sub two in
    let left : List FlatName = names_without (names_without run.sub.names first) second in
    let made : List FlatName = new_name left first i (unwrap_or (ino_at second) 0) ∷ new_name left second j (unwrap_or (ino_at first) 0) ∷ [] in
    by_rows run (exchange_rows run one two first second left made) _ refl refl

lookup_says : (run : RunSub) (path : List (List ℕ)) → may_say (lookup run path).answer ≡ true
unfolding lookup
lookup_says run path = let place : WalkEnd = walk run.sub path in by_rows run ((is_absent place, NoEnt) ∷ (is_blocked place, NotDir) ∷ []) _ refl refl

write_says : (run : RunSub) (path : List (List ℕ)) (offset : ℕ) (text : List ℕ) → may_say (write run path offset text).answer ≡ true
unfolding write
write_says run path offset text = by_rows run (file_rows run (walk run.sub path) ((nat_lt most_file_bytes (offset + length text), TooLarge) ∷ [])) _ refl refl

truncate_says : (run : RunSub) (path : List (List ℕ)) (size : ℕ) → may_say (truncate run path size).answer ≡ true
unfolding truncate
truncate_says run path size = by_rows run (file_rows run (walk run.sub path) ((nat_lt most_file_bytes size, TooLarge) ∷ [])) _ refl refl

read_says : (run : RunSub) (path : List (List ℕ)) (offset count : ℕ) → may_say (read run path offset count).answer ≡ true
unfolding read
read_says run path offset count = by_rows run (file_rows run (walk run.sub path) []) _ refl refl

set_says : (run : RunSub) (path : List (List ℕ)) (name value : List ℕ) → may_say (set_attribute run path name value).answer ≡ true
unfolding set_attribute
set_says run path name value =
    let place : WalkEnd = walk run.sub path in
    let attributes : Attributes = insert (attributes_there (record_at run.sub place)) name value in
    by_rows run ((is_absent place, NoEnt) ∷ (is_blocked place, NotDir) ∷ (nat_lt 1024 (length value), TooLarge) ∷ (nat_lt most_item_bytes (xattr_item_length attributes (name_hash_of name)), Collide) ∷ []) _ refl refl

remove_says : (run : RunSub) (path : List (List ℕ)) (name : List ℕ) → may_say (remove_attribute run path name).answer ≡ true
unfolding remove_attribute
remove_says run path name = by_rows run (attribute_rows run (walk run.sub path) name) _ refl refl

get_says : (run : RunSub) (path : List (List ℕ)) (name : List ℕ) → may_say (get_attribute run path name).answer ≡ true
unfolding get_attribute
get_says run path name = by_rows run (attribute_rows run (walk run.sub path) name) _ refl refl

outcome_says : (run : RunSub) (op : Op) (indexes : List ℕ) → may_say (outcome_of run op indexes).answer ≡ true
outcome_says run (Create place) indexes = make_says run place.path new_file (slice_index indexes 0)
outcome_says run (Mkdir place) indexes = make_says run place.path new_dir (slice_index indexes 0)
outcome_says run (Symlink place target) indexes = make_says run place.path (new_link target) (slice_index indexes 0)
outcome_says run (Link old new) indexes = link_says run old.path new.path (slice_index indexes 0)
outcome_says run (Unlink place) indexes = unlink_says run place.path
outcome_says run (Rmdir place) indexes = rmdir_says run place.path
outcome_says run (Rename old new) indexes = rename_says run old.path new.path (slice_index indexes 0)
outcome_says run (Exchange one two) indexes = exchange_says run one.path two.path (slice_index indexes 0) (slice_index indexes 1)
outcome_says run (Lookup place) indexes = lookup_says run place.path
outcome_says run (Write place offset text) indexes = write_says run place.path offset text
outcome_says run (Truncate place size) indexes = truncate_says run place.path size
outcome_says run (Read place offset count) indexes = read_says run place.path offset count
outcome_says run (SetAttr place name value) indexes = set_says run place.path name value
outcome_says run (DelAttr place name) indexes = remove_says run place.path name
outcome_says run (GetAttr place name) indexes = get_says run place.path name

pub step_says : (run : RunVolume) (op : Op) (indexes : List ℕ) → may_say (step run op indexes).answer ≡ true
step_says run op indexes = step_cases (λ (o : VolumeOutcome). may_say o.answer ≡ true) run op indexes refl refl (λ sub there. outcome_says sub op indexes)
