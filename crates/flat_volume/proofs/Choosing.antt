-- An operation is one within a subvolume, and its new names get indexes that they may have.
use Rattle.std.proofs.Common.{◌≡◌, ℕ, ◌+◌, ◌<◌, ◌≤◌, Bool, true, false, cond, List, [], ◌∷◌, length, Some, None, refl, sym, ap, subst, ◌∙◌, arith, inl, inr}
use Rattle.std.proofs.lemmas.Bool.{cases_eq}
use Rattle.flat_model.specs.declared.op.Op.{Op}
use Rattle.flat_model.specs.declared.op.Op.TheVariants.{Create, Mkdir, Symlink, Link, Unlink, Rmdir, Rename, Exchange, Lookup, Write, Truncate, Read, SetAttr, DelAttr, GetAttr}
use Rattle.flat_model.specs.Names.{FlatName}
use Rattle.flat_model.specs.Volume.{RunNumbers, RunSub, RunVolume, bare_numbers, last_index_in, note_name}
use Rattle.std.specs.Option.{unwrap_or}
use Rattle.flat_model.specs.Records.{Attributes, InodeRecord, FileInode, new_file, new_dir, new_link}
use Rattle.flat_model.specs.Walk.{walk, ino_at, record_at, is_absent, is_blocked}
use Rattle.flat_model.specs.Operations.{Outcome, unless_refused, unlink_rows, rmdir_rows, removal_done, file_rows, file_there, with_record_at, attributes_there, with_attributes_at, attribute_rows, new_name, without_entry, names_without, make_rows, make_done, link_rows, link_done, rename_rows, rename_done, exchange_rows, exchange_done, make, link, unlink, rmdir, rename, exchange, lookup, write, truncate, read, set_attribute, remove_attribute, get_attribute}
use Rattle.flat_model.specs.Step.{VolumeOutcome, IsNextIndex, AreNextIndexes, is_within_sub, outcome_of, outcome_within, with_outcome, volume_unchanged, numbers_in, place_of, step}
use Rattle.flat_model.specs.declared.answer.Answer.{Answer}
use Rattle.flat_model.specs.declared.answer.Answer.TheVariants.{Plain, Number, Bytes, NoEnt, NotDir, TooLarge, Collide, Xdev}
use Rattle.std.specs.Bool.{nat_lt}
use Rattle.std.specs.FinMap.{get, insert, remove}
use Rattle.blk_base.specs.Crc.{name_hash_of}
use Rattle.flat_model.specs.Contents.{most_file_bytes, bytes_read, written, truncated}
use Rattle.flat_model.specs.Lengths.{most_item_bytes, xattr_item_length}
use Rattle.flat_volume.specs.Applying.{IsApplied}
use Rattle.flat_model.proofs.Steps.{numbers_there}
use Rattle.flat_model.proofs.Fresh.{outcome_cases, last_index_note_same, last_index_note_other}
use Rattle.flat_volume.specs.Indexes.{indexes_above}

-- the greatest index of no directory is above that of the subvolume
abbrev pub IsCovered : RunNumbers → Type 0
IsCovered numbers = (dir : ℕ) → last_index_in numbers dir ≤ numbers.last_index

next_first : (numbers : RunNumbers) → IsCovered numbers → (dir index : ℕ) → index ≡ numbers.last_index + 1 → IsNextIndex numbers dir index
next_first numbers covered dir index is = record { above_those_of_directory = let below = covered dir in omega (arith, below, is); at_most_one_above_all = omega (arith, is) }

next_second : (numbers : RunNumbers) → IsCovered numbers → (name : FlatName) (dir : ℕ) → name.index ≡ numbers.last_index + 1 → IsNextIndex (note_name numbers name) dir (numbers.last_index + 2)
next_second numbers covered name dir is = record {
  above_those_of_directory = elim (cases_eq dir name.dir) [
    | inl same ↦ subst (λ d. last_index_in (note_name numbers name) d < numbers.last_index + 2) (sym same) (let below = covered name.dir in omega (arith, below, is, last_index_note_same numbers name))
    | inr other ↦ let below = covered dir in omega (arith, below, last_index_note_other numbers name dir other)
  ];
  at_most_one_above_all = omega (arith, is);
}

-- the names that were made may have their indexes
abbrev MayHave : RunNumbers → Outcome → Type 0
MayHave numbers outcome = AreNextIndexes numbers outcome.made

module _ (run : RunSub) (covered : IsCovered run.numbers) where
  one_may : (name : FlatName) → name.index ≡ run.numbers.last_index + 1 → AreNextIndexes run.numbers (name ∷ [])
  one_may name is = (next_first run.numbers covered name.dir name.index is, tt)

  two_may : (name other : FlatName) → name.index ≡ run.numbers.last_index + 1 → other.index ≡ run.numbers.last_index + 2 → AreNextIndexes run.numbers (name ∷ other ∷ [])
  two_may name other is other_is =
      (next_first run.numbers covered name.dir name.index is, (subst (IsNextIndex (note_name run.numbers name) other.dir) (sym other_is) (next_second run.numbers covered name other.dir is), tt))

  make_may : (path : List (List ℕ)) (inode : InodeRecord) → MayHave run.numbers (make run path inode (run.numbers.last_index + 1))
  unfolding make
  make_may path inode =
      let place = walk run.sub path in
      let name : FlatName = new_name run.sub.names place (run.numbers.last_index + 1) (run.numbers.last_ino + 1) in
      outcome_cases (MayHave run.numbers) run (make_rows run place name) (make_done run inode name) (λ answer. tt) (λ none. one_may name refl)

  link_may : (old new : List (List ℕ)) → MayHave run.numbers (link run old new (run.numbers.last_index + 1))
  unfolding link
  link_may old new =
      let from = walk run.sub old in
      let to = walk run.sub new in
      let name : FlatName = new_name run.sub.names to (run.numbers.last_index + 1) (unwrap_or (ino_at from) 0) in
      outcome_cases (MayHave run.numbers) run (link_rows run from to name) (link_done run name) (λ answer. tt) (λ none. one_may name refl)

  rename_may : (old new : List (List ℕ)) → MayHave run.numbers (rename run old new (run.numbers.last_index + 1))
  unfolding rename
  rename_may old new =
      let from = walk run.sub old in
      let to = walk run.sub new in
      let without = without_entry run.sub to in
      let left = names_without without.names from in
      let name : FlatName = new_name left to (run.numbers.last_index + 1) (unwrap_or (ino_at from) 0) in
      outcome_cases (MayHave run.numbers) run (rename_rows run old new from to left name) (rename_done run without left name) (λ answer. tt) (λ none. one_may name refl)

  exchange_may : (one two : List (List ℕ)) → MayHave run.numbers (exchange run one two (run.numbers.last_index + 1) (run.numbers.last_index + 2))
  unfolding exchange
  exchange_may one two =
      let first = walk run.sub one in
      let second = walk run.sub two in
      let left = names_without (names_without run.sub.names first) second in
      let name : FlatName = new_name left first (run.numbers.last_index + 1) (unwrap_or (ino_at second) 0) in
      let other : FlatName = new_name left second (run.numbers.last_index + 2) (unwrap_or (ino_at first) 0) in
      outcome_cases (MayHave run.numbers) run (exchange_rows run one two first second left (name ∷ other ∷ [])) (exchange_done run left (name ∷ other ∷ [])) (λ answer. tt) (λ none. two_may name other refl refl)

  -- an operation that makes no name
  none_may : (rows : List (Bool × Answer)) (next : RunSub) (answer : Answer) → MayHave run.numbers (unless_refused run rows (record { next = next; answer = answer; made = [] }))
  none_may rows next answer = outcome_cases (MayHave run.numbers) run rows (record { next = next; answer = answer; made = [] }) (λ refusal. tt) (λ none. tt)

  unlink_may : (path : List (List ℕ)) → MayHave run.numbers (unlink run path)
  unfolding unlink
  unlink_may path = let place = walk run.sub path in none_may (unlink_rows run place) (removal_done run place).next Plain

  rmdir_may : (path : List (List ℕ)) → MayHave run.numbers (rmdir run path)
  unfolding rmdir
  rmdir_may path = let place = walk run.sub path in none_may (rmdir_rows run place) (removal_done run place).next Plain

  lookup_may : (path : List (List ℕ)) → MayHave run.numbers (lookup run path)
  unfolding lookup
  lookup_may path = let place = walk run.sub path in none_may ((is_absent place, NoEnt) ∷ (is_blocked place, NotDir) ∷ []) run (Number (unwrap_or (ino_at place) 0))

  write_may : (path : List (List ℕ)) (offset : ℕ) (text : List ℕ) → MayHave run.numbers (write run path offset text)
  unfolding write
  write_may path offset text =
      let place = walk run.sub path in
      let file = file_there (record_at run.sub place) in
      none_may (file_rows run place ((nat_lt most_file_bytes (offset + length text), TooLarge) ∷ [])) (with_record_at run place (FileInode (written file offset text))) (Number (length text))

  truncate_may : (path : List (List ℕ)) (size : ℕ) → MayHave run.numbers (truncate run path size)
  unfolding truncate
  truncate_may path size =
      let place = walk run.sub path in
      let file = file_there (record_at run.sub place) in
      none_may (file_rows run place ((nat_lt most_file_bytes size, TooLarge) ∷ [])) (with_record_at run place (FileInode (truncated file size))) Plain

  read_may : (path : List (List ℕ)) (offset count : ℕ) → MayHave run.numbers (read run path offset count)
  unfolding read
  read_may path offset count =
      let place = walk run.sub path in
      none_may (file_rows run place []) run (Bytes (bytes_read (file_there (record_at run.sub place)) offset count))

  set_may : (path : List (List ℕ)) (name value : List ℕ) → MayHave run.numbers (set_attribute run path name value)
  unfolding set_attribute
  set_may path name value =
      let place = walk run.sub path in
      let attributes : Attributes = insert (attributes_there (record_at run.sub place)) name value in
      none_may ((is_absent place, NoEnt) ∷ (is_blocked place, NotDir) ∷ (nat_lt 1024 (length value), TooLarge) ∷ (nat_lt most_item_bytes (xattr_item_length attributes (name_hash_of name)), Collide) ∷ []) (with_attributes_at run place attributes) Plain

  remove_may : (path : List (List ℕ)) (name : List ℕ) → MayHave run.numbers (remove_attribute run path name)
  unfolding remove_attribute
  remove_may path name =
      let place = walk run.sub path in
      none_may (attribute_rows run place name) (with_attributes_at run place (remove (attributes_there (record_at run.sub place)) name)) Plain

  get_may : (path : List (List ℕ)) (name : List ℕ) → MayHave run.numbers (get_attribute run path name)
  unfolding get_attribute
  get_may path name =
      let place = walk run.sub path in
      none_may (attribute_rows run place name) run (Bytes (unwrap_or (get (attributes_there (record_at run.sub place)) name) []))

  -- the names that an operation makes may have the next two indexes
  pub outcome_may : (op : Op) → AreNextIndexes run.numbers (outcome_of run op (indexes_above run.numbers.last_index)).made
  outcome_may (Create place) = make_may place.path new_file
  outcome_may (Mkdir place) = make_may place.path new_dir
  outcome_may (Symlink place target) = make_may place.path (new_link target)
  outcome_may (Link old new) = link_may old.path new.path
  outcome_may (Unlink place) = unlink_may place.path
  outcome_may (Rmdir place) = rmdir_may place.path
  outcome_may (Rename old new) = rename_may old.path new.path
  outcome_may (Exchange one two) = exchange_may one.path two.path
  outcome_may (Lookup place) = lookup_may place.path
  outcome_may (Write place offset text) = write_may place.path offset text
  outcome_may (Truncate place size) = truncate_may place.path size
  outcome_may (Read place offset count) = read_may place.path offset count
  outcome_may (SetAttr place name value) = set_may place.path name value
  outcome_may (DelAttr place name) = remove_may place.path name
  outcome_may (GetAttr place name) = get_may place.path name

-- what is at a place in a volume, as one that is there is changed
pub applied_within : (run : RunVolume) (sub : RunSub) (op : Op) → get run (place_of op).sub.0 ≡ Some sub → is_within_sub op ≡ true → IsCovered sub.numbers → (new : RunVolume) (after : RunSub) (answer : Answer)
    → new ≡ insert run (place_of op).sub.0 after → after ≡ (outcome_of sub op (indexes_above sub.numbers.last_index)).next → answer ≡ (outcome_of sub op (indexes_above sub.numbers.last_index)).answer → IsApplied run new op answer
unfolding step
applied_within run sub op there within covered new after answer new_is after_is answer_is =
    let indexes : List ℕ = indexes_above sub.numbers.last_index in
    let id : ℕ = (place_of op).sub.0 in
    let outcome : Outcome = outcome_of sub op indexes in
    let comes : step run op indexes ≡ with_outcome run id outcome =
    ap (λ b. cond b (outcome_within run op indexes) (volume_unchanged run Xdev)) within
    ∙ ap (λ o. elim o [ None ↦ volume_unchanged run NoEnt | Some s ↦ with_outcome run id (outcome_of s op indexes) ]) there in
    record {
      indexes = indexes;
      next_indexes = subst (λ (o : VolumeOutcome). AreNextIndexes (numbers_in run id) o.made) (sym comes)
          (subst (λ numbers. AreNextIndexes numbers outcome.made) (sym (numbers_there run id sub there)) (outcome_may sub covered op));
      next = new_is ∙ ap (insert run id) after_is ∙ sym (ap (λ (o : VolumeOutcome). o.next) comes);
      said = answer_is ∙ sym (ap (λ (o : VolumeOutcome). o.answer) comes);
    }

-- an operation that makes no name and changes nothing
unchanged_applied : (run : RunVolume) (op : Op) (answer : Answer) → step run op [] ≡ volume_unchanged run answer → IsApplied run run op answer
unchanged_applied run op answer comes = record {
  indexes = [];
  next_indexes = subst (λ (o : VolumeOutcome). AreNextIndexes (numbers_in run (place_of op).sub.0) o.made) (sym comes) tt;
  next = sym (ap (λ (o : VolumeOutcome). o.next) comes);
  said = sym (ap (λ (o : VolumeOutcome). o.answer) comes);
}

-- the two places are of two subvolumes
pub applied_across : (run : RunVolume) (op : Op) → is_within_sub op ≡ false → IsApplied run run op Xdev
unfolding step
applied_across run op across = unchanged_applied run op Xdev (ap (λ b. cond b (outcome_within run op []) (volume_unchanged run Xdev)) across)

-- the subvolume isn't there
pub applied_nowhere : (run : RunVolume) (op : Op) → is_within_sub op ≡ true → get run (place_of op).sub.0 ≡ None → IsApplied run run op NoEnt
unfolding step
applied_nowhere run op within nowhere =
    unchanged_applied run op NoEnt (ap (λ b. cond b (outcome_within run op []) (volume_unchanged run Xdev)) within
    ∙ ap (λ o. elim o [ None ↦ volume_unchanged run NoEnt | Some s ↦ with_outcome run (place_of op).sub.0 (outcome_of s op []) ]) nowhere)
