-- Facts on the record of an inode, and on a subvolume with another one in its place.
use Rattle.std.proofs.Common.{◌≡◌, ℕ, zero, suc, ◌+◌, ◌-◌, min, false, ◌&&◌, List, [], ◌∷◌, map, set, get_or, Option, Some, None, Ok, Err, Result, refl, sym, ap, ◌∙◌, arith}
use Rattle.std.specs.Bool.{◌==◌}
use Rattle.std.specs.Option.{unwrap_or}
use Rattle.std.specs.Result.{OnOk}
use Rattle.std.specs.Ordering.{nat_cmp, is_lt}
use Rattle.std.specs.Cmp.{nat_cmp_total}
use Rattle.std.specs.Cmp.Lexicographic.{slice_cmp}
use Rattle.std.specs.List.{position, range_with_len}
use Rattle.std.specs.FinMap.{FinMap, get, insert, from_entries, get-from_entries, get-empty, is_sorted}
use Rattle.std.specs.FinMap.Entries.{below_all}
use Rattle.std.proofs.lemmas.Bool.{eqb-true, true≢false}
use Rattle.flat_model.specs.declared.view.Kind.TheVariants.{File}
use Rattle.flat_model.specs.Records.{InodeRecord, FileInode, DirInode, LinkInode, kind_of, is_dir_record, is_link_record}
use Rattle.flat_model.specs.Contents.{bytes_read, byte_at}
use Rattle.flat_model.specs.Operations.{no_file, attributes_there, with_record, with_record_of}
use Rattle.flat_model.specs.Volume.{Subvolume, RunSub}
use Rattle.flat_model.specs.Walk.{WalkEnd, AtRoot, AtSlot, Missing, Blocked, ino_at, record_at, is_absent, is_blocked}
use Rattle.flat_record.proofs.Tables.{FirstAt, position_first, position_none, find_first, find_nowhere, map_set}

pub on_ok : {T E : Type 0} {P Q : Type 0} (r : Result T E) → (P → Q) → OnOk r P → OnOk r Q
on_ok (Ok x) f p = f p
on_ok (Err e) f p = p

key_at : {X : Type 0} (key : ℕ) (es : List (ℕ × X)) (i : ℕ) (d : ℕ × X) → FirstAt (λ (e : ℕ × X). e.0 == key) es i → (get_or es i d).0 ≡ key
key_at key [] i d at = absurd at
key_at key (e ∷ es) zero d at = eqb-true e.0 key at
key_at key (e ∷ es) (suc i) d at = key_at key es i d at.1

-- whether the numbers rise depends on the numbers alone
below_set : {X : Type 0} (k : ℕ) (es : List (ℕ × X)) (i : ℕ) (lent : ℕ × X) (new : X) → lent ≡ get_or es i lent → below_all nat_cmp k (set es i (lent.0, new)) ≡ below_all nat_cmp k es
below_set k [] i lent new is = refl
below_set k (e ∷ es) zero lent new is = ap (λ (x : ℕ). is_lt (nat_cmp k x) && below_all nat_cmp k es) (ap (λ p. p.0) is)
below_set k (e ∷ es) (suc i) lent new is = ap (λ b. is_lt (nat_cmp k e.0) && b) (below_set k es i lent new is)

pub rising_set : {X : Type 0} (es : List (ℕ × X)) (i : ℕ) (lent : ℕ × X) (new : X) → lent ≡ get_or es i lent → is_sorted nat_cmp (set es i (lent.0, new)) ≡ is_sorted nat_cmp es
rising_set [] i lent new is = refl
rising_set (e ∷ es) zero lent new is = ap (λ (x : ℕ). below_all nat_cmp x es && is_sorted nat_cmp es) (ap (λ p. p.0) is)
rising_set (e ∷ es) (suc i) lent new is = λ j. below_set e.0 es i lent new is j && rising_set es i lent new is j

-- ---- the record at a place among the inodes

module _ (items : List (ℕ × InodeRecord)) (ino : ℕ) where
  pub record_here : (at : ℕ) (lent : ℕ × InodeRecord) → Some at ≡ position (λ (e : ℕ × InodeRecord). e.0 == ino) items → lent ≡ get_or items at lent → get (from_entries {R = nat_cmp} items) ino ≡ Some lent.1
  record_here at lent at_is is = get-from_entries nat_cmp_total items ino ∙ find_first ino items at lent (position_first _ items at (sym at_is)) ∙ ap (λ (e : ℕ × InodeRecord). Some e.1) (sym is)

  pub record_nowhere : None ≡ position (λ (e : ℕ × InodeRecord). e.0 == ino) items → get (from_entries {R = nat_cmp} items) ino ≡ None
  record_nowhere none = get-from_entries nat_cmp_total items ino ∙ find_nowhere ino items (position_none _ items (sym none))

  pub record_set : (at : ℕ) (lent : ℕ × InodeRecord) (new : InodeRecord) → Some at ≡ position (λ (e : ℕ × InodeRecord). e.0 == ino) items → lent ≡ get_or items at lent → from_entries {R = nat_cmp} (set items at (lent.0, new)) ≡ insert (from_entries items) ino new
  record_set at lent new at_is is = ap (λ k. from_entries {R = nat_cmp} (set items at (k, new))) (ap (λ (e : ℕ × InodeRecord). e.0) is ∙ key_at ino items at lent (position_first _ items at (sym at_is))) ∙ map_set ino new items at (sym at_is)

-- what is no directory and no symlink is a file
pub is_file : (inode : InodeRecord) → false ≡ is_dir_record inode → false ≡ is_link_record inode → kind_of inode ≡ File
is_file (FileInode file) dir link = refl
is_file (DirInode inode) dir link = absurd (true≢false (sym dir))
is_file (LinkInode inode) dir link = absurd (true≢false (sym link))

-- nothing is read from no file
pub nothing_read : (offset count : ℕ) → bytes_read no_file offset count ≡ []
unfolding bytes_read
nothing_read offset count = let none : min 0 (offset + count) - offset ≡ 0 = omega arith in ap (λ n. map (byte_at no_file.blocks) (range_with_len offset n)) none

-- ---- the inode at the end of a walk

-- a walk that met all names ended at an inode's number
pub number_there : (end : WalkEnd) → is_absent end ≡ false → is_blocked end ≡ false → ino_at end ≡ Some (unwrap_or (ino_at end) 0)
number_there AtRoot a b = refl
number_there (AtSlot dir bytes None) a b = absurd (true≢false a)
number_there (AtSlot dir bytes (Some name)) a b = refl
number_there Missing a b = absurd (true≢false a)
number_there Blocked a b = absurd (true≢false b)

pub record_there : (sub : Subvolume) (end : WalkEnd) (ino : ℕ) → ino_at end ≡ Some ino → record_at sub end ≡ get sub.inodes ino
record_there sub end ino is = ap (λ o. elim o as (λ o. Option InodeRecord) [ None ↦ None | Some k ↦ get sub.inodes k ]) is

-- a subvolume in its run with these inodes
abbrev pub with_inodes : RunSub → FinMap nat_cmp InodeRecord → RunSub
with_inodes run inodes = record run { sub = record run.sub { inodes = inodes } }

-- no attribute is among none
pub no_attribute : (name : List ℕ) → get (attributes_there None) name ≡ None
no_attribute name = get-empty (slice_cmp nat_cmp) name

-- another record of an inode that is there, and of one that isn't
pub record_put : (run : RunSub) (ino : ℕ) (old inode : InodeRecord) → get run.sub.inodes ino ≡ Some old → with_record_of run ino inode ≡ record run { sub = with_record run.sub ino inode }
record_put run ino old inode there = ap (λ o. elim o as (λ o. RunSub) [ None ↦ run | Some was ↦ record run { sub = with_record run.sub ino inode } ]) there

pub record_not_put : (run : RunSub) (ino : ℕ) (inode : InodeRecord) → get run.sub.inodes ino ≡ None → with_record_of run ino inode ≡ run
record_not_put run ino inode nowhere = ap (λ o. elim o as (λ o. RunSub) [ None ↦ run | Some was ↦ record run { sub = with_record run.sub ino inode } ]) nowhere
