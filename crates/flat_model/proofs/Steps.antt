-- Each operation leaves a volume in a run sound, and so does each history.
use Rattle.std.proofs.Common.{◌≡◌, ℕ, ◌≤◌, ◌+◌, true, false, cond, List, [], ◌∷◌, length, Option, Some, None, refl, sym, ap, subst, ◌∙◌, arith, inl, inr}
use Rattle.std.specs.Bool.{nat_eq, nat_lt, nat_le, ⊤}
use Rattle.std.specs.Option.{unwrap_or}
use Rattle.std.specs.List.{Contains, fold, slice_index}
use Rattle.std.specs.FinMap.{get, insert, remove, empty, get-empty}
use Rattle.std.proofs.lemmas.Bool.{true≢false, ltb-false}
use Rattle.blk_base.specs.Crc.{name_hash_of}
use Rattle.flat_model.specs.declared.answer.Answer.TheVariants.{Plain, Number, NoEnt, Xdev, NotDir, TooLarge, Collide}
use Rattle.flat_model.specs.declared.op.Op.{Op}
use Rattle.flat_model.specs.declared.op.Op.TheVariants.{Create, Mkdir, Symlink, Link, Unlink, Rmdir, Rename, Exchange, Lookup, Write, Truncate, Read, SetAttr, DelAttr, GetAttr}
use Rattle.flat_model.specs.declared.place.Place.{Place}
use Rattle.flat_model.specs.Records.{InodeRecord, FileRecord, Attributes, FileInode, DirInode, LinkInode, is_dir_record, is_link_record, attributes_of, with_attributes, new_file, new_dir, new_link}
use Rattle.flat_model.specs.Lengths.{most_item_bytes, xattr_item_length}
use Rattle.flat_model.specs.Contents.{most_file_bytes, written, truncated}
use Rattle.flat_model.specs.Volume.{Subvolume, RunNumbers, RunSub, RunVolume, Volume, bare_numbers, is_dir_at, is_dir_there, is_link_there, mounted, volume_of, note_name}
use Rattle.flat_model.specs.Coherent.{IsCoherent, IsLinkCount, KeepsLimits, KeepsFileLimits, KeepAttributeLimits, KeepsKindLimits, AreBytes, IsNameBytes}
use Rattle.flat_model.specs.Walk.{WalkEnd, AtRoot, AtSlot, Missing, Blocked, walk, ino_at, record_at, is_absent, is_blocked, is_root}
use Rattle.flat_model.specs.Operations.{Outcome, lookup, file_rows, file_there, write, truncate, read, with_record, with_record_of, with_record_at, attributes_there, with_attributes_at, attribute_rows, set_attribute, remove_attribute, get_attribute, make, link, unlink, rmdir, rename, exchange}
use Rattle.flat_model.specs.Step.{VolumeOutcome, volume_unchanged, with_outcome, outcome_of, outcome_within, is_within_sub, step, place_of, numbers_in, IsChoice, AreNextIndexes, IsPath, IsSpelled, IsInLimits, Operated, after_one, after_all, MayCome, IsHistory}
use Rattle.flat_model.specs.Running.{IsSound, IsSoundVolume}
use Rattle.flat_model.proofs.Maps.{some_same, some_none, get_insert_same, get_insert_other, insert_cases}
use Rattle.flat_model.proofs.Edits.{coherent_with_record}
use Rattle.flat_model.proofs.Ways.{dir_record}
use Rattle.flat_model.proofs.Fresh.{outcome_cases}
use Rattle.flat_model.proofs.Sound.{KeepsSound, unchanged_sound, make_sound, link_sound, unlink_sound, rmdir_sound}
use Rattle.flat_model.proofs.Moves.{holds_name, rename_sound}
use Rattle.flat_model.proofs.Swaps.{exchange_sound}
use Rattle.flat_model.proofs.Filled.{written_keeps, written_attributes, truncated_keeps, truncated_attributes, inserted_keep, removed_keep, inserted_fit, removed_fit}

-- ---- what is at the end of a walk

-- an inode that is there
record IsThere (sub : Subvolume) (end : WalkEnd) : Type 0 where
  ino : ℕ
  inode : InodeRecord
  at : ino_at end ≡ Some ino
  there : get sub.inodes ino ≡ Some inode

is_there : (sub : Subvolume) → IsCoherent sub → (path : List (List ℕ)) → is_absent (walk sub path) ≡ false → is_blocked (walk sub path) ≡ false → IsThere sub (walk sub path)
is_there sub coherent path there open_way =
    elim (is_root (walk sub path)) as (λ b. is_root (walk sub path) ≡ b → IsThere sub (walk sub path)) [
      | true ↦ λ t. let root = dir_record _ coherent.root_is_dir in record { ino = 256; inode = root.0; at = root_at (walk sub path) t; there = root.1 }
      | false ↦ λ f.
          let held = holds_name sub path there open_way f in
          let found = coherent.leads_to_inode held.name held.member in
          record { ino = held.name.ino; inode = found.0; at = ap ino_at held.at; there = found.1 }
    ] refl
  where
    root_at : (end : WalkEnd) → is_root end ≡ true → ino_at end ≡ Some 256
    root_at AtRoot e = refl
    root_at (AtSlot dir bytes there) e = absurd (true≢false (sym e))
    root_at Missing e = absurd (true≢false (sym e))
    root_at Blocked e = absurd (true≢false (sym e))

record_there : (sub : Subvolume) (end : WalkEnd) (at : IsThere sub end) → record_at sub end ≡ Some at.inode
record_there sub end at = ap (λ o. elim o [ None ↦ None | Some ino ↦ get sub.inodes ino ]) at.at ∙ at.there

with_record_there : (run : RunSub) (end : WalkEnd) (at : IsThere run.sub end) (inode : InodeRecord) → with_record_at run end inode ≡ record run { sub = with_record run.sub at.ino inode }
with_record_there run end at inode =
    ap (λ o. elim o [ None ↦ run | Some ino ↦ with_record_of run ino inode ]) at.at
    ∙ ap (λ o. elim o [ None ↦ run | Some old ↦ record run { sub = with_record run.sub at.ino inode } ]) at.there

-- another record of an inode keeps a run sound
sound_with_record : (run : RunSub) → IsSound run → (ino : ℕ) (old new : InodeRecord) → get run.sub.inodes ino ≡ Some old → is_dir_record new ≡ is_dir_record old → ((count : ℕ) → IsLinkCount old count → IsLinkCount new count) → KeepsLimits new → ((hash : ℕ) → xattr_item_length (attributes_of new) hash ≤ most_item_bytes) → IsSound (record run { sub = with_record run.sub ino new })
sound_with_record run sound ino old new there same counts keeps fits = record {
  coherent = coherent_with_record run.sub sound.coherent ino old new there same counts keeps fits;
  covered = record {
    inos = λ i r e. elim (insert_cases run.sub.inodes ino new i r e) [ inl here ↦ sound.covered.inos i old (ap (get run.sub.inodes) here.0 ∙ there) | inr other ↦ sound.covered.inos i r other.1 ];
    indexes = sound.covered.indexes;
    directories = sound.covered.directories;
    at_least_one = sound.covered.at_least_one;
  };
}

-- ---- operations on contents

-- a record that is neither a directory's nor a symlink's is a file's
file_of : (inode : InodeRecord) → is_dir_record inode ≡ false → is_link_record inode ≡ false → (file : FileRecord) × (inode ≡ FileInode file)
file_of (FileInode file) a b = (file, refl)
file_of (DirInode dir) a b = absurd (true≢false a)
file_of (LinkInode link) a b = absurd (true≢false b)

-- the file at the end of a walk may get another record within its limits
file_sound : (run : RunSub) → IsSound run → (path : List (List ℕ)) (change : FileRecord → FileRecord)
    → is_absent (walk run.sub path) ≡ false → is_blocked (walk run.sub path) ≡ false → is_dir_there (record_at run.sub (walk run.sub path)) ≡ false → is_link_there (record_at run.sub (walk run.sub path)) ≡ false
    → ((file : FileRecord) → KeepsFileLimits file → KeepsFileLimits (change file)) → ((file : FileRecord) → (change file).attributes ≡ file.attributes)
    → IsSound (with_record_at run (walk run.sub path) (FileInode (change (file_there (record_at run.sub (walk run.sub path))))))
file_sound run sound path change there open_way no_dir no_link keeps same =
    let at = is_there run.sub sound.coherent path there open_way in
    let is = record_there run.sub (walk run.sub path) at in
    let file = file_of at.inode (sym (ap is_dir_there is) ∙ no_dir) (sym (ap is_link_there is) ∙ no_link) in
    let was : record_at run.sub (walk run.sub path) ≡ Some (FileInode file.0) = is ∙ ap Some file.1 in
    let old : get run.sub.inodes at.ino ≡ Some (FileInode file.0) = at.there ∙ ap Some file.1 in
    let limits = sound.coherent.limits at.ino (FileInode file.0) old in
    let new : InodeRecord = FileInode (change file.0) in
    let done = sound_with_record run sound at.ino (FileInode file.0) new old refl (λ count c. c)
    (record { attributes = subst KeepAttributeLimits (sym (same file.0)) limits.attributes; kind = keeps file.0 limits.kind })
    (λ hash. subst (λ a. xattr_item_length a hash ≤ most_item_bytes) (sym (same file.0)) (sound.coherent.items_fit.attributes at.ino (FileInode file.0) old hash)) in
    subst IsSound (sym (ap (λ o. with_record_at run (walk run.sub path) (FileInode (change (file_there o)))) was ∙ with_record_there run (walk run.sub path) at new)) done

pub write_sound : (run : RunSub) → IsSound run → (path : List (List ℕ)) (offset : ℕ) (text : List ℕ) → AreBytes text → KeepsSound run (write run path offset text)
unfolding write
write_sound run sound path offset text bytes =
    let place : WalkEnd = walk run.sub path in
    outcome_cases (KeepsSound run) run (file_rows run place ((nat_lt most_file_bytes (offset + length text), TooLarge) ∷ []))
    (record { next = with_record_at run place (FileInode (written (file_there (record_at run.sub place)) offset text)); answer = Number (length text); made = [] })
    (unchanged_sound run sound)
    (λ rows choice. file_sound run sound path (λ file. written file offset text) rows.0 rows.1.0 rows.1.1.0 rows.1.1.1.0
    (λ file keeps. written_keeps file offset text keeps bytes (ltb-false _ _ rows.1.1.1.1.0)) (λ file. written_attributes file offset text))

pub truncate_sound : (run : RunSub) → IsSound run → (path : List (List ℕ)) (size : ℕ) → KeepsSound run (truncate run path size)
unfolding truncate
truncate_sound run sound path size =
    let place : WalkEnd = walk run.sub path in
    outcome_cases (KeepsSound run) run (file_rows run place ((nat_lt most_file_bytes size, TooLarge) ∷ []))
    (record { next = with_record_at run place (FileInode (truncated (file_there (record_at run.sub place)) size)); answer = Plain; made = [] })
    (unchanged_sound run sound)
    (λ rows choice. file_sound run sound path (λ file. truncated file size) rows.0 rows.1.0 rows.1.1.0 rows.1.1.1.0
    (λ file keeps. truncated_keeps file size keeps (ltb-false _ _ rows.1.1.1.1.0)) (λ file. truncated_attributes file size))

pub read_sound : (run : RunSub) → IsSound run → (path : List (List ℕ)) (offset count : ℕ) → KeepsSound run (read run path offset count)
unfolding read
read_sound run sound path offset count = outcome_cases (KeepsSound run) run (file_rows run (walk run.sub path) []) _ (unchanged_sound run sound) (λ rows choice. sound)

pub lookup_sound : (run : RunSub) → IsSound run → (path : List (List ℕ)) → KeepsSound run (lookup run path)
unfolding lookup
lookup_sound run sound path =
    let place : WalkEnd = walk run.sub path in
    outcome_cases (KeepsSound run) run ((is_absent place, NoEnt) ∷ (is_blocked place, NotDir) ∷ []) _ (unchanged_sound run sound) (λ rows choice. sound)

-- ---- operations on attributes

attributes_is : (inode : InodeRecord) (attributes : Attributes) → attributes_of (with_attributes inode attributes) ≡ attributes
attributes_is (FileInode file) attributes = refl
attributes_is (DirInode dir) attributes = refl
attributes_is (LinkInode link) attributes = refl

same_kind : (inode : InodeRecord) (attributes : Attributes) → is_dir_record (with_attributes inode attributes) ≡ is_dir_record inode
same_kind (FileInode file) attributes = refl
same_kind (DirInode dir) attributes = refl
same_kind (LinkInode link) attributes = refl

same_count : (inode : InodeRecord) (attributes : Attributes) (count : ℕ) → IsLinkCount inode count → IsLinkCount (with_attributes inode attributes) count
same_count (FileInode file) attributes count c = c
same_count (DirInode dir) attributes count c = c
same_count (LinkInode link) attributes count c = c

same_limits : (inode : InodeRecord) (attributes : Attributes) → KeepsKindLimits inode → KeepsKindLimits (with_attributes inode attributes)
same_limits (FileInode file) attributes keeps = record { size = keeps.size; blocks = keeps.blocks }
same_limits (DirInode dir) attributes keeps = tt
same_limits (LinkInode link) attributes keeps = record { at_least_one = keeps.at_least_one; at_most_1023 = keeps.at_most_1023; are_bytes = keeps.are_bytes }

-- the inode at the end of a walk may get other attributes within their limits
attributes_sound : (run : RunSub) → IsSound run → (path : List (List ℕ)) (change : Attributes → Attributes) → is_absent (walk run.sub path) ≡ false → is_blocked (walk run.sub path) ≡ false
    → ((at : IsThere run.sub (walk run.sub path)) → record_at run.sub (walk run.sub path) ≡ Some at.inode → KeepAttributeLimits (change (attributes_of at.inode)) × ((hash : ℕ) → xattr_item_length (change (attributes_of at.inode)) hash ≤ most_item_bytes))
    → IsSound (with_attributes_at run (walk run.sub path) (change (attributes_there (record_at run.sub (walk run.sub path)))))
attributes_sound run sound path change there open_way allowed =
    let at = is_there run.sub sound.coherent path there open_way in
    let is = record_there run.sub (walk run.sub path) at in
    let attributes : Attributes = change (attributes_of at.inode) in
    let fine = allowed at is in
    let limits = sound.coherent.limits at.ino at.inode at.there in
    let new : InodeRecord = with_attributes at.inode attributes in
    let done = sound_with_record run sound at.ino at.inode new at.there (same_kind at.inode attributes) (same_count at.inode attributes)
    (record { attributes = subst KeepAttributeLimits (sym (attributes_is at.inode attributes)) fine.0; kind = same_limits at.inode attributes limits.kind })
    (λ hash. subst (λ a. xattr_item_length a hash ≤ most_item_bytes) (sym (attributes_is at.inode attributes)) (fine.1 hash)) in
    let with_at : Option InodeRecord → Attributes → RunSub = λ o a. elim o [ None ↦ run | Some inode ↦ with_record_at run (walk run.sub path) (with_attributes inode a) ] in
    let same : with_attributes_at run (walk run.sub path) (change (attributes_there (record_at run.sub (walk run.sub path)))) ≡ with_record_at run (walk run.sub path) new = λ i. with_at (is i) (change (attributes_there (is i))) in
    subst IsSound (sym (same ∙ with_record_there run (walk run.sub path) at new)) done

pub set_attribute_sound : (run : RunSub) → IsSound run → (path : List (List ℕ)) (name value : List ℕ) → IsNameBytes name → 1 ≤ length value → AreBytes value → KeepsSound run (set_attribute run path name value)
unfolding set_attribute
set_attribute_sound run sound path name value is_name some bytes =
    let place : WalkEnd = walk run.sub path in
    let attributes : Attributes = insert (attributes_there (record_at run.sub place)) name value in
    outcome_cases (KeepsSound run) run ((is_absent place, NoEnt) ∷ (is_blocked place, NotDir) ∷ (nat_lt 1024 (length value), TooLarge) ∷ (nat_lt most_item_bytes (xattr_item_length attributes (name_hash_of name)), Collide) ∷ [])
    (record { next = with_attributes_at run place attributes; answer = Plain; made = [] }) (unchanged_sound run sound)
    (λ rows choice. attributes_sound run sound path (λ old. insert old name value) rows.0 rows.1.0 (λ at is.
    let fit = subst (λ o. xattr_item_length (insert (attributes_there o) name value) (name_hash_of name) ≤ most_item_bytes) is (ltb-false _ _ rows.1.1.1.0) in (
      inserted_keep (attributes_of at.inode) name value (sound.coherent.limits at.ino at.inode at.there).attributes is_name some (ltb-false _ _ rows.1.1.0) bytes,
      inserted_fit (attributes_of at.inode) name value (sound.coherent.items_fit.attributes at.ino at.inode at.there) fit,
    )))

pub remove_attribute_sound : (run : RunSub) → IsSound run → (path : List (List ℕ)) (name : List ℕ) → KeepsSound run (remove_attribute run path name)
unfolding remove_attribute
remove_attribute_sound run sound path name =
    let place : WalkEnd = walk run.sub path in
    outcome_cases (KeepsSound run) run (attribute_rows run place name)
    (record { next = with_attributes_at run place (remove (attributes_there (record_at run.sub place)) name); answer = Plain; made = [] }) (unchanged_sound run sound)
    (λ rows choice. attributes_sound run sound path (λ old. remove old name) rows.0 rows.1.0 (λ at is. (
      removed_keep (attributes_of at.inode) name (sound.coherent.limits at.ino at.inode at.there).attributes,
      removed_fit (attributes_of at.inode) name (sound.coherent.items_fit.attributes at.ino at.inode at.there),
    )))

pub get_attribute_sound : (run : RunSub) → IsSound run → (path : List (List ℕ)) (name : List ℕ) → KeepsSound run (get_attribute run path name)
unfolding get_attribute
get_attribute_sound run sound path name = outcome_cases (KeepsSound run) run (attribute_rows run (walk run.sub path) name) _ (unchanged_sound run sound) (λ rows choice. sound)

-- a record as it is made keeps its limits
no_attributes : KeepAttributeLimits empty
no_attributes name value e = absurd (some_none value (sym e ∙ get-empty _ name))

no_attribute_items : (hash : ℕ) → xattr_item_length empty hash ≤ most_item_bytes
unfolding xattr_item_length
no_attribute_items hash = omega (arith, ap (λ es. Rattle.std.specs.List.sum_by Rattle.flat_model.specs.Lengths.attribute_length (Rattle.std.specs.List.filter (λ (e : List ℕ × List ℕ). nat_eq (name_hash_of e.0) hash) es)) (no_entries empty refl))
  where
    no_entries : (m : Attributes) → m ≡ empty → Rattle.std.specs.FinMap.entries m ≡ []
    no_entries m e = Rattle.flat_model.proofs.Maps.no_length (Rattle.std.specs.FinMap.entries m) (sym (Rattle.std.specs.FinMap.len-entries m) ∙ ap Rattle.std.specs.FinMap.len e ∙ Rattle.std.specs.FinMap.len-empty _ _)

new_file_keeps : KeepsLimits new_file
new_file_keeps = record { attributes = no_attributes; kind = record { size = omega arith; blocks = λ number bytes e. absurd (some_none bytes (sym e ∙ get-empty _ number)) } }

new_dir_keeps : KeepsLimits new_dir
new_dir_keeps = record { attributes = no_attributes; kind = tt }

new_link_keeps : (target : List ℕ) → 1 ≤ length target → length target ≤ 1023 → AreBytes target → KeepsLimits (new_link target)
new_link_keeps target some few bytes = record { attributes = no_attributes; kind = record { at_least_one = some; at_most_1023 = few; are_bytes = bytes } }

-- each operation in a subvolume
pub outcome_sound : (run : RunSub) → IsSound run → (op : Op) → IsSpelled op → IsInLimits op → (indexes : List ℕ) → KeepsSound run (outcome_of run op indexes)
outcome_sound run sound (Create place) spelled limits indexes = make_sound run sound place.path spelled new_file new_file_keeps no_attribute_items (slice_index indexes 0)
outcome_sound run sound (Mkdir place) spelled limits indexes = make_sound run sound place.path spelled new_dir new_dir_keeps no_attribute_items (slice_index indexes 0)
outcome_sound run sound (Symlink place target) spelled limits indexes = make_sound run sound place.path spelled.0 (new_link target) (new_link_keeps target limits.0 limits.1 spelled.1) no_attribute_items (slice_index indexes 0)
outcome_sound run sound (Link old new) spelled limits indexes = link_sound run sound old.path new.path spelled.1 (slice_index indexes 0)
outcome_sound run sound (Unlink place) spelled limits indexes = unlink_sound run sound place.path
outcome_sound run sound (Rmdir place) spelled limits indexes = rmdir_sound run sound place.path
outcome_sound run sound (Rename old new) spelled limits indexes = rename_sound run sound old.path new.path spelled.1 (slice_index indexes 0)
outcome_sound run sound (Exchange one two) spelled limits indexes = exchange_sound run sound one.path two.path spelled.0 spelled.1 (slice_index indexes 0) (slice_index indexes 1)
outcome_sound run sound (Lookup place) spelled limits indexes = lookup_sound run sound place.path
outcome_sound run sound (Write place offset text) spelled limits indexes = write_sound run sound place.path offset text spelled.1
outcome_sound run sound (Truncate place size) spelled limits indexes = truncate_sound run sound place.path size
outcome_sound run sound (Read place offset count) spelled limits indexes = read_sound run sound place.path offset count
outcome_sound run sound (SetAttr place name value) spelled limits indexes = set_attribute_sound run sound place.path name value spelled.1 limits spelled.2
outcome_sound run sound (DelAttr place name) spelled limits indexes = remove_attribute_sound run sound place.path name
outcome_sound run sound (GetAttr place name) spelled limits indexes = get_attribute_sound run sound place.path name

-- ---- operations on a volume

-- what holds where the subvolume isn't there, where the places are of two, and of what comes of the operation in its subvolume, holds of what the operation comes to
pub step_cases : (P : VolumeOutcome → Type 0) (run : RunVolume) (op : Op) (indexes : List ℕ) → P (volume_unchanged run NoEnt) → P (volume_unchanged run Xdev)
    → ((sub : RunSub) → get run (place_of op).sub.0 ≡ Some sub → P (with_outcome run (place_of op).sub.0 (outcome_of sub op indexes))) → P (step run op indexes)
unfolding step
step_cases P run op indexes nowhere across within =
    elim (is_within_sub op) as (λ b. P (cond b (outcome_within run op indexes) (volume_unchanged run Xdev))) [
      | true ↦ elim (get run (place_of op).sub.0) as (λ o. get run (place_of op).sub.0 ≡ o → P (elim o [ None ↦ volume_unchanged run NoEnt | Some sub ↦ with_outcome run (place_of op).sub.0 (outcome_of sub op indexes) ])) [
        | None ↦ λ e. nowhere
        | Some sub ↦ λ e. within sub e
      ] refl
      | false ↦ across
    ]

-- the numbers beside a subvolume that is there
pub numbers_there : (run : RunVolume) (id : ℕ) (sub : RunSub) → get run id ≡ Some sub → numbers_in run id ≡ sub.numbers
numbers_there run id sub there = ap (λ o. elim o [ None ↦ bare_numbers | Some s ↦ s.numbers ]) there

pub step_sound : (run : RunVolume) → IsSoundVolume run → (op : Op) → IsSpelled op → IsInLimits op → (indexes : List ℕ) → AreNextIndexes (numbers_in run (place_of op).sub.0) (step run op indexes).made → IsSoundVolume (step run op indexes).next
step_sound run sound op spelled limits indexes =
    let id : ℕ = (place_of op).sub.0 in
    step_cases (λ (o : VolumeOutcome). AreNextIndexes (numbers_in run id) o.made → IsSoundVolume o.next) run op indexes (λ choice. sound) (λ choice. sound)
    (λ sub there choice other run_sub found. elim (insert_cases run id (outcome_of sub op indexes).next other run_sub found) [
      | inl here ↦ subst IsSound (sym here.1) (outcome_sound sub (sound id sub there) op spelled limits indexes (subst (λ numbers. AreNextIndexes numbers (outcome_of sub op indexes).made) (numbers_there run id sub there) choice))
      | inr old ↦ sound other run_sub old.1
    ])

pub after_one_sound : (run : RunVolume) → IsSoundVolume run → (operated : Operated) → MayCome run operated → IsSoundVolume (after_one run operated)
after_one_sound run sound operated may =
    elim operated.short as (λ b. cond b (operated.indexes ≡ 0 ∷ 0 ∷ []) (IsChoice run operated.op operated.indexes) → IsSoundVolume (cond b run (step run operated.op operated.indexes).next)) [
      | true ↦ λ _. sound
      | false ↦ λ choice. step_sound run sound operated.op may.spelled may.in_limits operated.indexes choice.next
    ] may.choice

pub after_all_sound : (run : RunVolume) → IsSoundVolume run → (history : List Operated) → IsHistory run history → IsSoundVolume (after_all run history)
after_all_sound run sound [] legal = sound
after_all_sound run sound (operated ∷ history) legal = after_all_sound (after_one run operated) (after_one_sound run sound operated legal.0) history legal.1
