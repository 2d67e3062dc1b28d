-- What an operation changes in a subvolume: inodes, names, and the numbers beside them.
use Rattle.std.proofs.Common.{◌≡◌, ◌≢◌, ℕ, ◌<◌, ◌≤◌, ◌+◌, Bool, true, false, cond, List, [], ◌∷◌, length, Option, Some, None, refl, sym, ap, subst, ◌∙◌, arith, inl, inr, ◌⊎◌}
use Rattle.std.specs.Bool.{nat_eq, nat_lt}
use Rattle.std.specs.Option.{unwrap_or}
use Rattle.std.specs.List.{Contains, fold, slice_index}
use Rattle.std.specs.FinMap.{FinMap, get, insert, remove}
use Rattle.std.specs.Ordering.{nat_cmp}
use Rattle.std.proofs.lemmas.Bool.{true≢false, cases_eq}
use Rattle.blk_base.specs.Crc.{name_hash_of}
use Rattle.flat_model.specs.declared.answer.Answer.{Answer}
use Rattle.flat_model.specs.declared.answer.Answer.TheVariants.{Plain, Number, NoEnt, NotDir, TooLarge, Collide}
use Rattle.flat_model.specs.declared.op.Op.{Op}
use Rattle.flat_model.specs.declared.op.Op.TheVariants.{Create, Mkdir, Symlink, Link, Unlink, Rmdir, Rename, Exchange, Lookup, Write, Truncate, Read, SetAttr, DelAttr, GetAttr}
use Rattle.flat_model.specs.Records.{InodeRecord, FileRecord, Attributes, FileInode, DirInode, LinkInode, is_dir_record, is_link_record, with_attributes, new_file, new_dir, new_link, at_creation}
use Rattle.flat_model.specs.Contents.{most_file_bytes, written, truncated}
use Rattle.flat_model.specs.Lengths.{most_item_bytes, xattr_item_length}
use Rattle.flat_model.specs.Names.{FlatName, add_name, remove_name, links_of}
use Rattle.flat_model.specs.Volume.{Subvolume, RunSub, note_name, is_dir_there, is_link_there}
use Rattle.flat_model.specs.Walk.{WalkEnd, AtRoot, AtSlot, Missing, Blocked, walk, ino_at, record_at, is_absent, is_blocked, is_one_inode}
use Rattle.flat_model.specs.Operations.{Outcome, unchanged, unless_refused, new_name, names_without, without_entry, with_record, with_record_of, with_record_at, with_attributes_at, make, make_rows, make_done, link, link_rows, link_done, unlink, unlink_rows, rmdir, rmdir_rows, removal_done, rename, rename_rows, rename_done, exchange, exchange_rows, exchange_done, lookup, file_rows, file_there, write, truncate, read, attributes_there, attribute_rows, set_attribute, remove_attribute, get_attribute}
use Rattle.flat_model.specs.Step.{outcome_of}
use Rattle.flat_model.specs.Needs.{blocks_and_items, blocks_and_items_there, gone_with, removed_from}
use Rattle.flat_model.proofs.Lists.{contains_head, contains_tail}
use Rattle.flat_model.proofs.Maps.{some_same, some_none, get_insert_same, get_insert_other, insert_cases, get_remove_other, remove_cases}
use Rattle.flat_model.proofs.NameSets.{add_name_cases, remove_name_gives}
use Rattle.flat_model.proofs.Edits.{without_gives}
use Rattle.flat_model.proofs.Fresh.{NoneHolds, outcome_cases}
use Rattle.flat_laws.proofs.Crowds.{names_without_part}

-- what an operation may change: an inode that is there keeps its kind or is new above all numbers; one that goes is counted as removed;
-- each name is an old one or one that was made; and the numbers note what was made
pub record Changes (run : RunSub) (removed : ℕ) (outcome : Outcome) : Type 0 where
  pub inodes : (ino : ℕ) (inode : InodeRecord) → get outcome.next.sub.inodes ino ≡ Some inode → ((old : InodeRecord) × (get run.sub.inodes ino ≡ Some old) × (at_creation inode ≡ at_creation old)) ⊎ ((run.numbers.last_ino < ino) × (inode ≡ at_creation inode))
  pub gone : (ino : ℕ) (inode : InodeRecord) → get run.sub.inodes ino ≡ Some inode → get outcome.next.sub.inodes ino ≡ None → removed ≡ blocks_and_items inode
  pub names : (q : FlatName) → Contains outcome.next.sub.names q → Contains run.sub.names q ⊎ Contains outcome.made q
  pub last_ino : run.numbers.last_ino ≤ outcome.next.numbers.last_ino
  pub last_index : outcome.next.numbers.last_index ≡ (fold note_name run.numbers outcome.made).last_index
  pub dir_indexes : outcome.next.numbers.dir_indexes ≡ (fold note_name run.numbers outcome.made).dir_indexes

-- nothing changed
nothing : (run : RunSub) (removed : ℕ) (answer : Answer) → Changes run removed (unchanged run answer)
nothing run removed answer = record {
  inodes = λ ino inode e. inl (inode, e, refl);
  gone = λ ino inode there gone. absurd (some_none inode (sym there ∙ gone));
  names = λ q c. inl c;
  last_ino = omega arith;
  last_index = refl;
  dir_indexes = refl;
}

by_rows : (run : RunSub) (removed : ℕ) (rows : List (Bool × Answer)) (done : Outcome) → (NoneHolds rows → Changes run removed done) → Changes run removed (unless_refused run rows done)
by_rows run removed rows done changes = outcome_cases (Changes run removed) run rows done (nothing run removed) changes

-- ---- parts

-- no inode goes by an insertion
insert_keeps : (m : FinMap nat_cmp InodeRecord) (k i : ℕ) (x r : InodeRecord) → get m i ≡ Some r → get (insert m k x) i ≡ None → ⊥
insert_keeps m k i x r there gone =
    elim (cases_eq i k) [
      | inl same ↦ some_none x (sym (get_insert_same m k x) ∙ ap (get (insert m k x)) (sym same) ∙ gone)
      | inr other ↦ some_none r (sym there ∙ sym (get_insert_other m k x i other) ∙ gone)
    ]

-- a name that was added is the one that was made
added : (name : FlatName) (made names all : List FlatName) → Contains made name → ((q : FlatName) → Contains names q → Contains all q ⊎ Contains made q) → (q : FlatName) → Contains (add_name name names) q → Contains all q ⊎ Contains made q
added name made names all c part q d = elim (add_name_cases name names q d) [ inl same ↦ inr (subst (Contains made) same c) | inr old ↦ part q old ]

without_inodes : (sub : Subvolume) (place : WalkEnd) (ino : ℕ) (inode : InodeRecord) → get (without_entry sub place).inodes ino ≡ Some inode → get sub.inodes ino ≡ Some inode
without_inodes sub AtRoot ino inode e = e
without_inodes sub (AtSlot dir bytes None) ino inode e = e
without_inodes sub (AtSlot dir bytes (Some name)) ino inode e = (without_gives sub name ino inode e).0
without_inodes sub Missing ino inode e = e
without_inodes sub Blocked ino inode e = e

without_names : (sub : Subvolume) (place : WalkEnd) (q : FlatName) → Contains (without_entry sub place).names q → Contains sub.names q
without_names sub AtRoot q c = c
without_names sub (AtSlot dir bytes None) q c = c
without_names sub (AtSlot dir bytes (Some name)) q c = (remove_name_gives name sub.names q c).0
without_names sub Missing q c = c
without_names sub Blocked q c = c

without_gone : (sub : Subvolume) (place : WalkEnd) (ino : ℕ) (inode : InodeRecord) → get sub.inodes ino ≡ Some inode → get (without_entry sub place).inodes ino ≡ None → gone_with sub place ≡ blocks_and_items inode
without_gone sub AtRoot ino inode there gone = absurd (some_none inode (sym there ∙ gone))
without_gone sub (AtSlot dir bytes None) ino inode there gone = absurd (some_none inode (sym there ∙ gone))
without_gone sub (AtSlot dir bytes (Some name)) ino inode there gone =
    elim (nat_eq (links_of (remove_name name sub.names) name.ino) 0) as (λ b. get (cond b (remove sub.inodes name.ino) sub.inodes) ino ≡ None → cond b (blocks_and_items_there (get sub.inodes name.ino)) 0 ≡ blocks_and_items inode) [
      | true ↦ λ e. elim (cases_eq ino name.ino) [
        | inl same ↦ ap blocks_and_items_there (ap (get sub.inodes) (sym same) ∙ there)
        | inr other ↦ absurd (some_none inode (sym there ∙ sym (get_remove_other sub.inodes name.ino ino other) ∙ e))
      ]
      | false ↦ λ e. absurd (some_none inode (sym there ∙ e))
    ] gone
without_gone sub Missing ino inode there gone = absurd (some_none inode (sym there ∙ gone))
without_gone sub Blocked ino inode there gone = absurd (some_none inode (sym there ∙ gone))

-- another record of the inode at the end of a walk, of the same kind and with the same target
put : (run : RunSub) (removed : ℕ) (place : WalkEnd) (inode : InodeRecord) (answer : Answer) → ((old : InodeRecord) → record_at run.sub place ≡ Some old → at_creation inode ≡ at_creation old)
    → Changes run removed (record { next = with_record_at run place inode; answer = answer; made = [] })
put run removed place inode answer same =
    elim (ino_at place) as (λ o. ino_at place ≡ o → Changes run removed (record { next = elim o [ None ↦ run | Some ino ↦ with_record_of run ino inode ]; answer = answer; made = [] })) [
      | None ↦ λ e. nothing run removed answer
      | Some ino ↦ λ at. elim (get run.sub.inodes ino) as (λ o. get run.sub.inodes ino ≡ o → Changes run removed (record { next = elim o [ None ↦ run | Some old ↦ record run { sub = with_record run.sub ino inode } ]; answer = answer; made = [] })) [
        | None ↦ λ e. nothing run removed answer
        | Some old ↦ λ there. record {
          inodes = λ i r e. elim (insert_cases run.sub.inodes ino inode i r e) [
            | inl new ↦ inl (old, ap (get run.sub.inodes) new.0 ∙ there, ap at_creation new.1 ∙ same old (ap (λ o. elim o [ None ↦ None | Some j ↦ get run.sub.inodes j ]) at ∙ there))
            | inr kept ↦ inl (r, kept.1, refl)
          ];
          gone = λ i r here gone. absurd (insert_keeps run.sub.inodes ino i inode r here gone);
          names = λ q c. inl c;
          last_ino = omega arith;
          last_index = refl;
          dir_indexes = refl;
        }
      ] refl
    ] refl

file_kind : (old : InodeRecord) (file : FileRecord) → is_dir_record old ≡ false → is_link_record old ≡ false → at_creation (FileInode file) ≡ at_creation old
file_kind (FileInode was) file no_dir no_link = refl
file_kind (DirInode was) file no_dir no_link = absurd (true≢false no_dir)
file_kind (LinkInode was) file no_dir no_link = absurd (true≢false no_link)

put_file : (run : RunSub) (removed : ℕ) (place : WalkEnd) (file : FileRecord) (answer : Answer) → is_dir_there (record_at run.sub place) ≡ false → is_link_there (record_at run.sub place) ≡ false
    → Changes run removed (record { next = with_record_at run place (FileInode file); answer = answer; made = [] })
put_file run removed place file answer no_dir no_link = put run removed place (FileInode file) answer (λ old there. file_kind old file (sym (ap is_dir_there there) ∙ no_dir) (sym (ap is_link_there there) ∙ no_link))

same_creation : (inode : InodeRecord) (attributes : Attributes) → at_creation (with_attributes inode attributes) ≡ at_creation inode
same_creation (FileInode file) attributes = refl
same_creation (DirInode dir) attributes = refl
same_creation (LinkInode link) attributes = refl

put_attributes : (run : RunSub) (removed : ℕ) (place : WalkEnd) (attributes : Attributes) → Changes run removed (record { next = with_attributes_at run place attributes; answer = Plain; made = [] })
put_attributes run removed place attributes =
    elim (record_at run.sub place) as (λ o. record_at run.sub place ≡ o → Changes run removed (record { next = elim o [ None ↦ run | Some inode ↦ with_record_at run place (with_attributes inode attributes) ]; answer = Plain; made = [] })) [
      | None ↦ λ e. nothing run removed Plain
      | Some inode ↦ λ e. put run removed place (with_attributes inode attributes) Plain (λ old there. same_creation inode attributes ∙ ap at_creation (some_same inode old (sym e ∙ there)))
    ] refl

-- ---- operations

make_changes : (run : RunSub) (removed : ℕ) (path : List (List ℕ)) (inode : InodeRecord) (index : ℕ) → inode ≡ at_creation inode → Changes run removed (make run path inode index)
unfolding make
make_changes run removed path inode index fresh =
    let place : WalkEnd = walk run.sub path in
    let ino : ℕ = run.numbers.last_ino + 1 in
    let name : FlatName = new_name run.sub.names place index ino in
    by_rows run removed (make_rows run place name) (make_done run inode name) (λ rows. record {
      inodes = λ i r e. elim (insert_cases run.sub.inodes ino inode i r e) [
        | inl new ↦ inr (omega (arith, new.0), subst (λ z. z ≡ at_creation z) (sym new.1) fresh)
        | inr kept ↦ inl (r, kept.1, refl)
      ];
      gone = λ i r there gone. absurd (insert_keeps run.sub.inodes ino i inode r there gone);
      names = added name (name ∷ []) run.sub.names run.sub.names (contains_head name []) (λ q c. inl c);
      last_ino = omega arith;
      last_index = refl;
      dir_indexes = refl;
    })

link_changes : (run : RunSub) (removed : ℕ) (old new : List (List ℕ)) (index : ℕ) → Changes run removed (link run old new index)
unfolding link
link_changes run removed old new index =
    let from : WalkEnd = walk run.sub old in
    let to : WalkEnd = walk run.sub new in
    let name : FlatName = new_name run.sub.names to index (unwrap_or (ino_at from) 0) in
    by_rows run removed (link_rows run from to name) (link_done run name) (λ rows. record {
      inodes = λ i r e. inl (r, e, refl);
      gone = λ i r there gone. absurd (some_none r (sym there ∙ gone));
      names = added name (name ∷ []) run.sub.names run.sub.names (contains_head name []) (λ q c. inl c);
      last_ino = omega arith;
      last_index = refl;
      dir_indexes = refl;
    })

removal_changes : (run : RunSub) (place : WalkEnd) → Changes run (gone_with run.sub place) (removal_done run place)
removal_changes run place = record {
  inodes = λ i r e. inl (r, without_inodes run.sub place i r e, refl);
  gone = without_gone run.sub place;
  names = λ q c. inl (without_names run.sub place q c);
  last_ino = omega arith;
  last_index = refl;
  dir_indexes = refl;
}

unlink_changes : (run : RunSub) (path : List (List ℕ)) → Changes run (gone_with run.sub (walk run.sub path)) (unlink run path)
unfolding unlink
unlink_changes run path = let place : WalkEnd = walk run.sub path in by_rows run (gone_with run.sub place) (unlink_rows run place) (removal_done run place) (λ rows. removal_changes run place)

rmdir_changes : (run : RunSub) (path : List (List ℕ)) → Changes run (gone_with run.sub (walk run.sub path)) (rmdir run path)
unfolding rmdir
rmdir_changes run path = let place : WalkEnd = walk run.sub path in by_rows run (gone_with run.sub place) (rmdir_rows run place) (removal_done run place) (λ rows. removal_changes run place)

rename_changes : (run : RunSub) (old new : List (List ℕ)) (index : ℕ) → Changes run (cond (is_one_inode (walk run.sub old) (walk run.sub new)) 0 (gone_with run.sub (walk run.sub new))) (rename run old new index)
unfolding rename
rename_changes run old new index =
    let from : WalkEnd = walk run.sub old in
    let to : WalkEnd = walk run.sub new in
    let without : Subvolume = without_entry run.sub to in
    let left : List FlatName = names_without without.names from in
    let name : FlatName = new_name left to index (unwrap_or (ino_at from) 0) in
    by_rows run (cond (is_one_inode from to) 0 (gone_with run.sub to)) (rename_rows run old new from to left name) (rename_done run without left name) (λ rows. record {
      inodes = λ i r e. inl (r, without_inodes run.sub to i r e, refl);
      gone = λ i r there gone. ap (λ b. cond b 0 (gone_with run.sub to)) rows.1.1.0 ∙ without_gone run.sub to i r there gone;
      names = added name (name ∷ []) left run.sub.names (contains_head name []) (λ q c. inl (without_names run.sub to q (names_without_part without.names from q c)));
      last_ino = omega arith;
      last_index = refl;
      dir_indexes = refl;
    })

exchange_changes : (run : RunSub) (removed : ℕ) (one two : List (List ℕ)) (i j : ℕ) → Changes run removed (exchange run one two i j)
unfolding exchange
exchange_changes run removed one two i j =
    let first : WalkEnd = walk run.sub one in
    let second : WalkEnd = walk run.sub two in
    let kept : List FlatName = names_without run.sub.names first in
    let left : List FlatName = names_without kept second in
    let a : FlatName = new_name left first i (unwrap_or (ino_at second) 0) in
    let b : FlatName = new_name left second j (unwrap_or (ino_at first) 0) in
    let made : List FlatName = a ∷ b ∷ [] in
    by_rows run removed (exchange_rows run one two first second left made) (exchange_done run left made) (λ rows. record {
      inodes = λ i r e. inl (r, e, refl);
      gone = λ i r there gone. absurd (some_none r (sym there ∙ gone));
      names = added b made (add_name a left) run.sub.names (contains_tail a (b ∷ []) b (contains_head b []))
          (added a made left run.sub.names (contains_head a (b ∷ [])) (λ q c. inl (names_without_part run.sub.names first q (names_without_part kept second q c))));
      last_ino = omega arith;
      last_index = refl;
      dir_indexes = refl;
    })

lookup_changes : (run : RunSub) (removed : ℕ) (path : List (List ℕ)) → Changes run removed (lookup run path)
unfolding lookup
lookup_changes run removed path = let place : WalkEnd = walk run.sub path in by_rows run removed ((is_absent place, NoEnt) ∷ (is_blocked place, NotDir) ∷ []) _ (λ rows. nothing run removed _)

write_changes : (run : RunSub) (removed : ℕ) (path : List (List ℕ)) (offset : ℕ) (text : List ℕ) → Changes run removed (write run path offset text)
unfolding write
write_changes run removed path offset text =
    let place : WalkEnd = walk run.sub path in
    by_rows run removed (file_rows run place ((nat_lt most_file_bytes (offset + length text), TooLarge) ∷ [])) _ (λ rows. put_file run removed place (written (file_there (record_at run.sub place)) offset text) (Number (length text)) rows.1.1.0 rows.1.1.1.0)

truncate_changes : (run : RunSub) (removed : ℕ) (path : List (List ℕ)) (size : ℕ) → Changes run removed (truncate run path size)
unfolding truncate
truncate_changes run removed path size =
    let place : WalkEnd = walk run.sub path in
    by_rows run removed (file_rows run place ((nat_lt most_file_bytes size, TooLarge) ∷ [])) _ (λ rows. put_file run removed place (truncated (file_there (record_at run.sub place)) size) Plain rows.1.1.0 rows.1.1.1.0)

read_changes : (run : RunSub) (removed : ℕ) (path : List (List ℕ)) (offset count : ℕ) → Changes run removed (read run path offset count)
unfolding read
read_changes run removed path offset count = by_rows run removed (file_rows run (walk run.sub path) []) _ (λ rows. nothing run removed _)

set_changes : (run : RunSub) (removed : ℕ) (path : List (List ℕ)) (name value : List ℕ) → Changes run removed (set_attribute run path name value)
unfolding set_attribute
set_changes run removed path name value =
    let place : WalkEnd = walk run.sub path in
    let attributes : Attributes = insert (attributes_there (record_at run.sub place)) name value in
    by_rows run removed ((is_absent place, NoEnt) ∷ (is_blocked place, NotDir) ∷ (nat_lt 1024 (length value), TooLarge) ∷ (nat_lt most_item_bytes (xattr_item_length attributes (name_hash_of name)), Collide) ∷ []) _ (λ rows. put_attributes run removed place attributes)

remove_changes : (run : RunSub) (removed : ℕ) (path : List (List ℕ)) (name : List ℕ) → Changes run removed (remove_attribute run path name)
unfolding remove_attribute
remove_changes run removed path name =
    let place : WalkEnd = walk run.sub path in
    by_rows run removed (attribute_rows run place name) _ (λ rows. put_attributes run removed place (remove (attributes_there (record_at run.sub place)) name))

get_changes : (run : RunSub) (removed : ℕ) (path : List (List ℕ)) (name : List ℕ) → Changes run removed (get_attribute run path name)
unfolding get_attribute
get_changes run removed path name = by_rows run removed (attribute_rows run (walk run.sub path) name) _ (λ rows. nothing run removed _)

-- each operation
pub outcome_changes : (run : RunSub) (op : Op) (indexes : List ℕ) → Changes run (removed_from run.sub op) (outcome_of run op indexes)
outcome_changes run (Create place) indexes = make_changes run 0 place.path new_file (slice_index indexes 0) refl
outcome_changes run (Mkdir place) indexes = make_changes run 0 place.path new_dir (slice_index indexes 0) refl
outcome_changes run (Symlink place target) indexes = make_changes run 0 place.path (new_link target) (slice_index indexes 0) refl
outcome_changes run (Link old new) indexes = link_changes run 0 old.path new.path (slice_index indexes 0)
outcome_changes run (Unlink place) indexes = unlink_changes run place.path
outcome_changes run (Rmdir place) indexes = rmdir_changes run place.path
outcome_changes run (Rename old new) indexes = rename_changes run old.path new.path (slice_index indexes 0)
outcome_changes run (Exchange one two) indexes = exchange_changes run 0 one.path two.path (slice_index indexes 0) (slice_index indexes 1)
outcome_changes run (Lookup place) indexes = lookup_changes run 0 place.path
outcome_changes run (Write place offset text) indexes = write_changes run 0 place.path offset text
outcome_changes run (Truncate place size) indexes = truncate_changes run (removed_from run.sub (Truncate place size)) place.path size
outcome_changes run (Read place offset count) indexes = read_changes run 0 place.path offset count
outcome_changes run (SetAttr place name value) indexes = set_changes run 0 place.path name value
outcome_changes run (DelAttr place name) indexes = remove_changes run (removed_from run.sub (DelAttr place name)) place.path name
outcome_changes run (GetAttr place name) indexes = get_changes run 0 place.path name
