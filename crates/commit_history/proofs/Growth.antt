-- What one operation leaves of a subvolume: names and inodes that were there, or new ones above all that were.
use Rattle.std.proofs.Common.{◌≡◌, ℕ, ◌<◌, ◌≤◌, ◌+◌, false, List, [], ◌∷◌, length, Option, Some, None, refl, sym, ap, subst, ◌∙◌, arith, inl, inr, ◌⊎◌}
use Rattle.std.specs.Bool.{nat_lt}
use Rattle.std.specs.Option.{unwrap_or}
use Rattle.std.specs.List.{Contains, slice_index}
use Rattle.std.specs.FinMap.{get, insert, remove}
use Rattle.std.proofs.lemmas.Bool.{true≢false}
use Rattle.blk_base.specs.Crc.{name_hash_of}
use Rattle.flat_model.specs.declared.answer.Answer.{Answer}
use Rattle.flat_model.specs.declared.answer.Answer.TheVariants.{Plain, Number, NoEnt, NotDir, TooLarge, Collide}
use Rattle.flat_model.specs.declared.op.Op.{Op}
use Rattle.flat_model.specs.declared.op.Op.TheVariants.{Create, Mkdir, Symlink, Link, Unlink, Rmdir, Rename, Exchange, Lookup, Write, Truncate, Read, SetAttr, DelAttr, GetAttr}
use Rattle.flat_model.specs.Records.{InodeRecord, FileRecord, Attributes, FileInode, DirInode, LinkInode, at_creation, attributes_of, with_attributes, new_file, new_dir, new_link}
use Rattle.flat_model.specs.Names.{FlatName, add_name}
use Rattle.flat_model.specs.Lengths.{most_item_bytes, xattr_item_length}
use Rattle.flat_model.specs.Contents.{most_file_bytes, written, truncated}
use Rattle.flat_model.specs.Volume.{Subvolume, RunSub, RunVolume, is_dir_there, is_link_there, last_index_in, note_name, note_ino}
use Rattle.flat_model.specs.Walk.{WalkEnd, AtRoot, AtSlot, Missing, Blocked, walk, ino_at, record_at, is_absent, is_blocked}
use Rattle.flat_model.specs.Operations.{Outcome, unchanged, make, make_rows, make_done, link, link_rows, link_done, unlink, unlink_rows, rmdir, rmdir_rows, removal_done, rename, rename_rows, rename_done, exchange, exchange_rows, exchange_done, lookup, file_rows, file_there, write, truncate, read, with_record, with_record_of, with_record_at, attributes_there, with_attributes_at, attribute_rows, set_attribute, remove_attribute, get_attribute, new_name, names_without, without_entry}
use Rattle.flat_model.specs.Step.{VolumeOutcome, outcome_of, step, place_of, numbers_in, AreNextIndexes}
use Rattle.flat_model.proofs.Maps.{some_same, insert_cases}
use Rattle.flat_model.proofs.NameSets.{add_name_cases, remove_name_gives}
use Rattle.flat_model.proofs.Edits.{without_gives}
use Rattle.flat_model.proofs.Fresh.{outcome_cases, note_raises}
use Rattle.flat_model.proofs.Steps.{step_cases, numbers_there}

-- an inode was there, of the same kind and with the same target
abbrev pub WasThere : RunSub → ℕ → InodeRecord → Type 0
WasThere old ino inode = (was : InodeRecord) × (get old.sub.inodes ino ≡ Some was) × (at_creation was ≡ at_creation inode)

-- an inode is new, and as it is made
abbrev pub IsNew : RunSub → ℕ → InodeRecord → Type 0
IsNew old ino inode = (old.numbers.last_ino < ino) × (inode ≡ at_creation inode)

-- a subvolume after one operation
pub record GrewOnce (old new : RunSub) : Type 0 where
  pub names : (name : FlatName) → Contains new.sub.names name → Contains old.sub.names name ⊎ (last_index_in old.numbers name.dir < name.index)
  pub inodes : (ino : ℕ) (inode : InodeRecord) → get new.sub.inodes ino ≡ Some inode → WasThere old ino inode ⊎ IsNew old ino inode
  pub indexes : (dir : ℕ) → last_index_in old.numbers dir ≤ last_index_in new.numbers dir
  pub inos : old.numbers.last_ino ≤ new.numbers.last_ino

pub grew_not : (run : RunSub) → GrewOnce run run
grew_not run = record { names = λ name c. inl c; inodes = λ ino inode e. inl (inode, e, refl); indexes = λ dir. omega arith; inos = omega arith }

-- what an operation owes
abbrev Grows : RunSub → Outcome → Type 0
Grows run outcome = AreNextIndexes run.numbers outcome.made → GrewOnce run outcome.next

unchanged_grows : (run : RunSub) (answer : Answer) → Grows run (unchanged run answer)
unchanged_grows run answer choice = grew_not run

-- ---- operations that make names

make_grows : (run : RunSub) (path : List (List ℕ)) (inode : InodeRecord) → inode ≡ at_creation inode → (index : ℕ) → Grows run (make run path inode index)
unfolding make
make_grows run path inode fresh index =
    let place : WalkEnd = walk run.sub path in
    let name : FlatName = new_name run.sub.names place index (run.numbers.last_ino + 1) in
    outcome_cases (Grows run) run (make_rows run place name) (make_done run inode name) (unchanged_grows run) (λ rows choice. record {
      names = λ q c. elim (add_name_cases name run.sub.names q c) [
        | inl same ↦ inr (subst (λ (n : FlatName). last_index_in run.numbers n.dir < n.index) same choice.0.above_those_of_directory)
        | inr old ↦ inl old
      ];
      inodes = λ i r e. elim (insert_cases run.sub.inodes name.ino inode i r e) [
        | inl here ↦ let at : i ≡ run.numbers.last_ino + 1 = here.0 in inr (omega (arith, at), here.1 ∙ fresh ∙ ap at_creation (sym here.1))
        | inr old ↦ inl (r, old.1, refl)
      ];
      indexes = λ dir. note_raises (note_ino run.numbers name.ino) name dir;
      inos = omega arith;
    })

link_grows : (run : RunSub) (old new : List (List ℕ)) (index : ℕ) → Grows run (link run old new index)
unfolding link
link_grows run old new index =
    let from : WalkEnd = walk run.sub old in
    let to : WalkEnd = walk run.sub new in
    let name : FlatName = new_name run.sub.names to index (unwrap_or (ino_at from) 0) in
    outcome_cases (Grows run) run (link_rows run from to name) (link_done run name) (unchanged_grows run) (λ rows choice. record {
      names = λ q c. elim (add_name_cases name run.sub.names q c) [
        | inl same ↦ inr (subst (λ (n : FlatName). last_index_in run.numbers n.dir < n.index) same choice.0.above_those_of_directory)
        | inr kept ↦ inl kept
      ];
      inodes = λ i r e. inl (r, e, refl);
      indexes = λ dir. note_raises run.numbers name dir;
      inos = omega arith;
    })

-- what is left without a name was there
pub entry_inodes : (sub : Subvolume) (end : WalkEnd) (ino : ℕ) (inode : InodeRecord) → get (without_entry sub end).inodes ino ≡ Some inode → get sub.inodes ino ≡ Some inode
entry_inodes sub AtRoot ino inode e = e
entry_inodes sub (AtSlot dir bytes None) ino inode e = e
entry_inodes sub (AtSlot dir bytes (Some name)) ino inode e = (without_gives sub name ino inode e).0
entry_inodes sub Missing ino inode e = e
entry_inodes sub Blocked ino inode e = e

pub entry_names : (sub : Subvolume) (end : WalkEnd) (q : FlatName) → Contains (without_entry sub end).names q → Contains sub.names q
entry_names sub AtRoot q c = c
entry_names sub (AtSlot dir bytes None) q c = c
entry_names sub (AtSlot dir bytes (Some name)) q c = (remove_name_gives name sub.names q c).0
entry_names sub Missing q c = c
entry_names sub Blocked q c = c

pub left_names : (names : List FlatName) (end : WalkEnd) (q : FlatName) → Contains (names_without names end) q → Contains names q
left_names names AtRoot q c = c
left_names names (AtSlot dir bytes None) q c = c
left_names names (AtSlot dir bytes (Some name)) q c = (remove_name_gives name names q c).0
left_names names Missing q c = c
left_names names Blocked q c = c

removal_grows : (run : RunSub) (place : WalkEnd) → Grows run (removal_done run place)
removal_grows run place choice = record {
  names = λ q c. inl (entry_names run.sub place q c);
  inodes = λ i r e. inl (r, entry_inodes run.sub place i r e, refl);
  indexes = λ dir. omega arith;
  inos = omega arith;
}

unlink_grows : (run : RunSub) (path : List (List ℕ)) → Grows run (unlink run path)
unfolding unlink
unlink_grows run path = let place : WalkEnd = walk run.sub path in outcome_cases (Grows run) run (unlink_rows run place) (removal_done run place) (unchanged_grows run) (λ rows. removal_grows run place)

rmdir_grows : (run : RunSub) (path : List (List ℕ)) → Grows run (rmdir run path)
unfolding rmdir
rmdir_grows run path = let place : WalkEnd = walk run.sub path in outcome_cases (Grows run) run (rmdir_rows run place) (removal_done run place) (unchanged_grows run) (λ rows. removal_grows run place)

rename_grows : (run : RunSub) (old new : List (List ℕ)) (index : ℕ) → Grows run (rename run old new index)
unfolding rename
rename_grows run old new index =
    let from : WalkEnd = walk run.sub old in
    let to : WalkEnd = walk run.sub new in
    let rest : Subvolume = without_entry run.sub to in
    let left : List FlatName = names_without rest.names from in
    let name : FlatName = new_name left to index (unwrap_or (ino_at from) 0) in
    outcome_cases (Grows run) run (rename_rows run old new from to left name) (rename_done run rest left name) (unchanged_grows run) (λ rows choice. record {
      names = λ q c. elim (add_name_cases name left q c) [
        | inl same ↦ inr (subst (λ (n : FlatName). last_index_in run.numbers n.dir < n.index) same choice.0.above_those_of_directory)
        | inr kept ↦ inl (entry_names run.sub to q (left_names rest.names from q kept))
      ];
      inodes = λ i r e. inl (r, entry_inodes run.sub to i r e, refl);
      indexes = λ dir. note_raises run.numbers name dir;
      inos = omega arith;
    })

exchange_grows : (run : RunSub) (one two : List (List ℕ)) (first_index second_index : ℕ) → Grows run (exchange run one two first_index second_index)
unfolding exchange
exchange_grows run one two first_index second_index =
    let first : WalkEnd = walk run.sub one in
    let second : WalkEnd = walk run.sub two in
    let left : List FlatName = names_without (names_without run.sub.names first) second in
    let a : FlatName = new_name left first first_index (unwrap_or (ino_at second) 0) in
    let b : FlatName = new_name left second second_index (unwrap_or (ino_at first) 0) in
    outcome_cases (Grows run) run (exchange_rows run one two first second left (a ∷ b ∷ [])) (exchange_done run left (a ∷ b ∷ [])) (unchanged_grows run) (λ rows choice. record {
      names = λ q c. elim (add_name_cases b (add_name a left) q c) [
        | inl same ↦
            let above : last_index_in run.numbers b.dir < b.index = let next = choice.1.0.above_those_of_directory in let raised = note_raises run.numbers a b.dir in omega (arith, next, raised) in
            inr (subst (λ (n : FlatName). last_index_in run.numbers n.dir < n.index) same above)
        | inr more ↦ elim (add_name_cases a left q more) [
          | inl same ↦ inr (subst (λ (n : FlatName). last_index_in run.numbers n.dir < n.index) same choice.0.above_those_of_directory)
          | inr kept ↦ inl (left_names run.sub.names first q (left_names (names_without run.sub.names first) second q kept))
        ]
      ];
      inodes = λ i r e. inl (r, e, refl);
      indexes = λ dir. omega (arith, note_raises run.numbers a dir, note_raises (note_name run.numbers a) b dir);
      inos = omega arith;
    })

-- ---- operations on contents

-- another record of the same kind and target
record_grows : (run : RunSub) (ino : ℕ) (old new : InodeRecord) → get run.sub.inodes ino ≡ Some old → at_creation old ≡ at_creation new → GrewOnce run (record run { sub = with_record run.sub ino new })
record_grows run ino old new there same = record {
  names = λ q c. inl c;
  inodes = λ i r e. elim (insert_cases run.sub.inodes ino new i r e) [
    | inl here ↦ inl (old, ap (get run.sub.inodes) here.0 ∙ there, same ∙ ap at_creation (sym here.1))
    | inr other ↦ inl (r, other.1, refl)
  ];
  indexes = λ dir. omega arith;
  inos = omega arith;
}

of_file : (inode : InodeRecord) (file : FileRecord) → Rattle.flat_model.specs.Records.is_dir_record inode ≡ false → Rattle.flat_model.specs.Records.is_link_record inode ≡ false → at_creation inode ≡ at_creation (FileInode file)
of_file (FileInode own) file a b = refl
of_file (DirInode dir) file a b = absurd (true≢false a)
of_file (LinkInode link) file a b = absurd (true≢false b)

file_grows : (run : RunSub) (place : WalkEnd) (file : FileRecord) → is_dir_there (record_at run.sub place) ≡ false → is_link_there (record_at run.sub place) ≡ false → GrewOnce run (with_record_at run place (FileInode file))
file_grows run place file = at (ino_at place)
  where
    there : (ino : ℕ) (o : Option InodeRecord) → get run.sub.inodes ino ≡ o → is_dir_there o ≡ false → is_link_there o ≡ false → GrewOnce run (elim o [ None ↦ run | Some old ↦ record run { sub = with_record run.sub ino (FileInode file) } ])
    there ino None e a b = grew_not run
    there ino (Some old) e a b = record_grows run ino old (FileInode file) e (of_file old file a b)

    at : (o : Option ℕ) → is_dir_there (elim o [ None ↦ None | Some ino ↦ get run.sub.inodes ino ]) ≡ false → is_link_there (elim o [ None ↦ None | Some ino ↦ get run.sub.inodes ino ]) ≡ false → GrewOnce run (elim o [ None ↦ run | Some ino ↦ with_record_of run ino (FileInode file) ])
    at None a b = grew_not run
    at (Some ino) a b = there ino (get run.sub.inodes ino) refl a b

write_grows : (run : RunSub) (path : List (List ℕ)) (offset : ℕ) (text : List ℕ) → Grows run (write run path offset text)
unfolding write
write_grows run path offset text =
    let place : WalkEnd = walk run.sub path in
    outcome_cases (Grows run) run (file_rows run place ((nat_lt most_file_bytes (offset + length text), TooLarge) ∷ []))
    (record { next = with_record_at run place (FileInode (written (file_there (record_at run.sub place)) offset text)); answer = Number (length text); made = [] })
    (unchanged_grows run) (λ rows choice. file_grows run place (written (file_there (record_at run.sub place)) offset text) rows.1.1.0 rows.1.1.1.0)

truncate_grows : (run : RunSub) (path : List (List ℕ)) (size : ℕ) → Grows run (truncate run path size)
unfolding truncate
truncate_grows run path size =
    let place : WalkEnd = walk run.sub path in
    outcome_cases (Grows run) run (file_rows run place ((nat_lt most_file_bytes size, TooLarge) ∷ []))
    (record { next = with_record_at run place (FileInode (truncated (file_there (record_at run.sub place)) size)); answer = Plain; made = [] })
    (unchanged_grows run) (λ rows choice. file_grows run place (truncated (file_there (record_at run.sub place)) size) rows.1.1.0 rows.1.1.1.0)

read_grows : (run : RunSub) (path : List (List ℕ)) (offset count : ℕ) → Grows run (read run path offset count)
unfolding read
read_grows run path offset count = outcome_cases (Grows run) run (file_rows run (walk run.sub path) []) _ (unchanged_grows run) (λ rows choice. grew_not run)

lookup_grows : (run : RunSub) (path : List (List ℕ)) → Grows run (lookup run path)
unfolding lookup
lookup_grows run path =
    let place : WalkEnd = walk run.sub path in
    outcome_cases (Grows run) run ((is_absent place, NoEnt) ∷ (is_blocked place, NotDir) ∷ []) _ (unchanged_grows run) (λ rows choice. grew_not run)

other_attributes : (inode : InodeRecord) (attributes : Attributes) → at_creation inode ≡ at_creation (with_attributes inode attributes)
other_attributes (FileInode file) attributes = refl
other_attributes (DirInode dir) attributes = refl
other_attributes (LinkInode link) attributes = refl

attributes_grow : (run : RunSub) (place : WalkEnd) (attributes : Attributes) → GrewOnce run (with_attributes_at run place attributes)
attributes_grow run place attributes = at (ino_at place)
  where
    there : (ino : ℕ) (o : Option InodeRecord) → get run.sub.inodes ino ≡ o → (inode : InodeRecord) → o ≡ Some inode → GrewOnce run (elim o [ None ↦ run | Some old ↦ record run { sub = with_record run.sub ino (with_attributes inode attributes) } ])
    there ino None e inode same = grew_not run
    there ino (Some old) e inode same = record_grows run ino old (with_attributes inode attributes) e (ap at_creation (some_same old inode same) ∙ other_attributes inode attributes)

    of_record : (ino : ℕ) (o : Option InodeRecord) → get run.sub.inodes ino ≡ o → GrewOnce run (elim o [ None ↦ run | Some inode ↦ with_record_of run ino (with_attributes inode attributes) ])
    of_record ino None e = grew_not run
    of_record ino (Some inode) e = there ino (get run.sub.inodes ino) refl inode e

    at : (o : Option ℕ) → GrewOnce run (elim (elim o as (λ x. Option InodeRecord) [ None ↦ None | Some ino ↦ get run.sub.inodes ino ]) [ None ↦ run | Some inode ↦ elim o [ None ↦ run | Some ino ↦ with_record_of run ino (with_attributes inode attributes) ] ])
    at None = grew_not run
    at (Some ino) = of_record ino (get run.sub.inodes ino) refl

set_attribute_grows : (run : RunSub) (path : List (List ℕ)) (name value : List ℕ) → Grows run (set_attribute run path name value)
unfolding set_attribute
set_attribute_grows run path name value =
    let place : WalkEnd = walk run.sub path in
    let attributes : Attributes = insert (attributes_there (record_at run.sub place)) name value in
    outcome_cases (Grows run) run
    ((is_absent place, NoEnt) ∷ (is_blocked place, NotDir) ∷ (nat_lt 1024 (length value), TooLarge) ∷ (nat_lt most_item_bytes (xattr_item_length attributes (name_hash_of name)), Collide) ∷ [])
    (record { next = with_attributes_at run place attributes; answer = Plain; made = [] })
    (unchanged_grows run) (λ rows choice. attributes_grow run place attributes)

remove_attribute_grows : (run : RunSub) (path : List (List ℕ)) (name : List ℕ) → Grows run (remove_attribute run path name)
unfolding remove_attribute
remove_attribute_grows run path name =
    let place : WalkEnd = walk run.sub path in
    let attributes : Attributes = remove (attributes_there (record_at run.sub place)) name in
    outcome_cases (Grows run) run (attribute_rows run place name) (record { next = with_attributes_at run place attributes; answer = Plain; made = [] })
    (unchanged_grows run) (λ rows choice. attributes_grow run place attributes)

get_attribute_grows : (run : RunSub) (path : List (List ℕ)) (name : List ℕ) → Grows run (get_attribute run path name)
unfolding get_attribute
get_attribute_grows run path name = outcome_cases (Grows run) run (attribute_rows run (walk run.sub path) name) _ (unchanged_grows run) (λ rows choice. grew_not run)

-- ---- each operation

outcome_grows : (run : RunSub) (op : Op) (indexes : List ℕ) → Grows run (outcome_of run op indexes)
outcome_grows run (Create place) indexes = make_grows run place.path new_file refl (slice_index indexes 0)
outcome_grows run (Mkdir place) indexes = make_grows run place.path new_dir refl (slice_index indexes 0)
outcome_grows run (Symlink place target) indexes = make_grows run place.path (new_link target) refl (slice_index indexes 0)
outcome_grows run (Link old new) indexes = link_grows run old.path new.path (slice_index indexes 0)
outcome_grows run (Unlink place) indexes = unlink_grows run place.path
outcome_grows run (Rmdir place) indexes = rmdir_grows run place.path
outcome_grows run (Rename old new) indexes = rename_grows run old.path new.path (slice_index indexes 0)
outcome_grows run (Exchange one two) indexes = exchange_grows run one.path two.path (slice_index indexes 0) (slice_index indexes 1)
outcome_grows run (Lookup place) indexes = lookup_grows run place.path
outcome_grows run (Write place offset text) indexes = write_grows run place.path offset text
outcome_grows run (Truncate place size) indexes = truncate_grows run place.path size
outcome_grows run (Read place offset count) indexes = read_grows run place.path offset count
outcome_grows run (SetAttr place name value) indexes = set_attribute_grows run place.path name value
outcome_grows run (DelAttr place name) indexes = remove_attribute_grows run place.path name
outcome_grows run (GetAttr place name) indexes = get_attribute_grows run place.path name

-- each subvolume of a volume after an operation was there before, and grew by it
pub step_grows : (run : RunVolume) (op : Op) (indexes : List ℕ) → AreNextIndexes (numbers_in run (place_of op).sub.0) (step run op indexes).made → (id : ℕ) (new : RunSub) → get (step run op indexes).next id ≡ Some new → (old : RunSub) × (get run id ≡ Some old) × GrewOnce old new
step_grows run op indexes =
    step_cases (λ (o : VolumeOutcome). AreNextIndexes (numbers_in run (place_of op).sub.0) o.made → (id : ℕ) (new : RunSub) → get o.next id ≡ Some new → (old : RunSub) × (get run id ≡ Some old) × GrewOnce old new) run op indexes
    (λ choice id new e. (new, e, grew_not new)) (λ choice id new e. (new, e, grew_not new))
    (λ sub there choice id new e. elim (insert_cases run (place_of op).sub.0 (outcome_of sub op indexes).next id new e) [
      | inl here ↦ (sub, ap (get run) here.0 ∙ there, subst (GrewOnce sub) (sym here.1) (outcome_grows sub op indexes (subst (λ numbers. AreNextIndexes numbers (outcome_of sub op indexes).made) (numbers_there run (place_of op).sub.0 sub there) choice)))
      | inr other ↦ (new, other.1, grew_not new)
    ])
