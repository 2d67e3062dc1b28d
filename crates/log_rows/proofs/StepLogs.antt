-- The log of a step is one that the step writes.
use Rattle.std.proofs.Common.{◌≡◌, ℕ, Bool, true, false, cond, not, ◌&&◌, ◌↔◌, List, [], ◌∷◌, ◌++◌, Contains, Option, Some, None, nat_eq, bytes_eq, refl, sym, ap, subst, ◌∙◌, inl, inr}
use Rattle.std.specs.Option.{option_map, is_some}
use Rattle.std.specs.List.{list_any}
use Rattle.std.specs.FinMap.{get, keys}
use Rattle.std.proofs.lemmas.Bool.{and_parts, and_from, eqb-true, eq-eqb, false_from_ne_true}
use Rattle.std.proofs.lemmas.List.Elements.{Contains-append_left, Contains-append_right}
use Rattle.flat_model.specs.Records.{InodeRecord, FileInode, DirInode, LinkInode}
use Rattle.flat_model.specs.Volume.{Subvolume}
use Rattle.flat_model.proofs.Lists.{contains_head, contains_tail, contains_cases}
use Rattle.flat_model.proofs.Ways.{same_bytes_eq, bytes_eq_same}
use Rattle.logged_volume.specs.Numbers.{is_in, map_of}
use Rattle.logged_volume.specs.Agreement.{is_there}
use Rattle.logged_volume.specs.Drawn.{drawn_set, is_data_form}
use Rattle.logged_volume.specs.LogStep.{log_step}
use Rattle.logged_volume.specs.FlatLog.{WholeInode, LogRange, LogEntry, FlatLog, AreDistinct}
use Rattle.logged_volume.specs.Written.{IsWholeOf, IsFsyncWritten, IsDataWritten, IsWritten, is_gone, written_existing, written_ranges, written_entries}
use Rattle.logged_volume.proofs.Members.{any_from, any_gives, in_gives, get_map_of_all, key_is_in}
use Rattle.logged_volume.proofs.Stepped.{there_gives}
use Rattle.log_rows.specs.Written.{whole_of, whole_after, each_once, is_same_range, is_same_entry, fsync_log, data_log, written_log}

-- ---- each element once

module _ {X : Type 0} (same : X → X → Bool) (gives : (x y : X) → same x y ≡ true → x ≡ y) (from : (x y : X) → x ≡ y → same x y ≡ true) where
  once_gives : (xs : List X) (x : X) → Contains (each_once same xs) x → Contains xs x
  once_gives [] x c = c
  once_gives (y ∷ xs) x c = go (once_gives xs x) (list_any (same y) xs) refl c
    where
      go : (Contains (each_once same xs) x → Contains xs x) → (b : Bool) → list_any (same y) xs ≡ b → Contains (cond b (each_once same xs) (y ∷ each_once same xs)) x → Contains (y ∷ xs) x
      go later true e c = contains_tail y xs x (later c)
      go later false e c = elim (contains_cases y (each_once same xs) x c) [
        | inl here ↦ subst (λ (z : X). Contains (y ∷ xs) z) here (contains_head y xs)
        | inr there ↦ contains_tail y xs x (later there)
      ]

  once_has : (xs : List X) (x : X) → Contains xs x → Contains (each_once same xs) x
  once_has [] x c = c
  once_has (y ∷ xs) x c = go (once_has xs x) (list_any (same y) xs) refl
    where
      go : (Contains xs x → Contains (each_once same xs) x) → (b : Bool) → list_any (same y) xs ≡ b → Contains (cond b (each_once same xs) (y ∷ each_once same xs)) x
      go later true e = elim (contains_cases y xs x c) [
        | inl here ↦ let other = any_gives (same y) xs e in later (subst (λ (z : X). Contains xs z) (sym (gives y other.0 other.2) ∙ here) other.1)
        | inr there ↦ later there
      ]
      go later false e = elim (contains_cases y xs x c) [
        | inl here ↦ subst (λ (z : X). Contains (y ∷ each_once same xs) z) here (contains_head y (each_once same xs))
        | inr there ↦ contains_tail y (each_once same xs) x (later there)
      ]

  once_distinct : (xs : List X) → AreDistinct (each_once same xs)
  once_distinct [] = tt
  once_distinct (y ∷ xs) = go (once_distinct xs) (list_any (same y) xs) refl
    where
      go : AreDistinct (each_once same xs) → (b : Bool) → list_any (same y) xs ≡ b → AreDistinct (cond b (each_once same xs) (y ∷ each_once same xs))
      go later true e = later
      go later false e = ((λ c. let found = any_from (same y) xs y (once_gives xs y c) (from y y refl) in absurd cc), later)

  once_same : (xs : List X) (x : X) → Contains (each_once same xs) x ↔ Contains xs x
  once_same xs x = (once_gives xs x, once_has xs x)

range_gives : (x y : LogRange) → is_same_range x y ≡ true → x ≡ y
range_gives x y h =
    let one = and_parts (nat_eq x.dir y.dir) (nat_eq x.first y.first && nat_eq x.last y.last) h in
    let two = and_parts (nat_eq x.first y.first) (nat_eq x.last y.last) one.1 in
    let dir = eqb-true x.dir y.dir one.0 in
    let first = eqb-true x.first y.first two.0 in
    let last = eqb-true x.last y.last two.1 in
    λ i. record { dir = dir i; first = first i; last = last i }

range_from : (x y : LogRange) → x ≡ y → is_same_range x y ≡ true
range_from x y e =
    and_from _ _ (eq-eqb x.dir y.dir (ap (λ (r : LogRange). r.dir) e))
    (and_from _ _ (eq-eqb x.first y.first (ap (λ (r : LogRange). r.first) e)) (eq-eqb x.last y.last (ap (λ (r : LogRange). r.last) e)))

entry_gives : (x y : LogEntry) → is_same_entry x y ≡ true → x ≡ y
entry_gives x y h =
    let one = and_parts (nat_eq x.dir y.dir) (nat_eq x.index y.index && (bytes_eq x.bytes y.bytes && nat_eq x.ino y.ino)) h in
    let two = and_parts (nat_eq x.index y.index) (bytes_eq x.bytes y.bytes && nat_eq x.ino y.ino) one.1 in
    let three = and_parts (bytes_eq x.bytes y.bytes) (nat_eq x.ino y.ino) two.1 in
    let dir = eqb-true x.dir y.dir one.0 in
    let index = eqb-true x.index y.index two.0 in
    let bytes = same_bytes_eq x.bytes y.bytes three.0 in
    let ino = eqb-true x.ino y.ino three.1 in
    λ i. record { dir = dir i; index = index i; bytes = bytes i; ino = ino i }

entry_from : (x y : LogEntry) → x ≡ y → is_same_entry x y ≡ true
entry_from x y e =
    and_from _ _ (eq-eqb x.dir y.dir (ap (λ (r : LogEntry). r.dir) e))
    (and_from _ _ (eq-eqb x.index y.index (ap (λ (r : LogEntry). r.index) e))
    (and_from _ _ (bytes_eq_same x.bytes y.bytes (ap (λ (r : LogEntry). r.bytes) e)) (eq-eqb x.ino y.ino (ap (λ (r : LogEntry). r.ino) e))))

-- ---- the target

whole_is : (was : Option InodeRecord) (inode : InodeRecord) → IsWholeOf was inode (whole_of was inode)
whole_is was (FileInode file) = record {
  attributes = refl;
  size = refl;
  brought = λ number bytes h. h;
  left = λ number bytes has lacks. let wrong : Some bytes ≡ None = sym has ∙ lacks in absurd cc;
  holes = refl;
}
whole_is was (DirInode dir) = refl
whole_is was (LinkInode link) = refl

no_key : {A : Type 0} (a b : Bool) (x : A) (r : Option A) → cond a None (cond b None r) ≡ Some x → r ≡ Some x
no_key true b x r h = absurd cc
no_key false true x r h = absurd cc
no_key false false x r h = h

module _ (committed current : Subvolume) (target : ℕ) (log : FlatLog) (gone : ℕ → Bool) where
  abbrev whole_here : ℕ → Option WholeInode
  whole_here ino = whole_after committed current target (gone ino) (get log.whole ino) ino

  whole_key : (ino : ℕ) (whole : WholeInode) → whole_here ino ≡ Some whole → Contains (target ∷ keys log.whole) ino
  whole_key ino whole h = go (nat_eq ino target) refl (gone ino) h
    where
      go : (b : Bool) → nat_eq ino target ≡ b → (g : Bool) → cond b (option_map (whole_of (get committed.inodes target)) (get current.inodes target)) (cond g None (get log.whole ino)) ≡ Some whole → Contains (target ∷ keys log.whole) ino
      go true e g h = subst (λ (n : ℕ). Contains (target ∷ keys log.whole) n) (sym (eqb-true ino target e)) (contains_head target (keys log.whole))
      go false e true h = absurd cc
      go false e false h = contains_tail target (keys log.whole) ino (key_is_in log.whole ino whole h)

  whole_gets : (ino : ℕ) → get (map_of (target ∷ keys log.whole) whole_here) ino ≡ whole_here ino
  whole_gets ino = get_map_of_all (target ∷ keys log.whole) whole_here whole_key ino

  whole_other : (ino : ℕ) → (ino ≡ target → ⊥) → get (map_of (target ∷ keys log.whole) whole_here) ino ≡ cond (gone ino) None (get log.whole ino)
  whole_other ino other =
      whole_gets ino
      ∙ ap (λ (b : Bool). cond b (option_map (whole_of (get committed.inodes target)) (get current.inodes target)) (cond (gone ino) None (get log.whole ino))) (false_from_ne_true (nat_eq ino target) (λ h. other (eqb-true ino target h)))

  whole_target : (inode : InodeRecord) → get current.inodes target ≡ Some inode → get (map_of (target ∷ keys log.whole) whole_here) target ≡ Some (whole_of (get committed.inodes target) inode)
  whole_target inode there =
      whole_gets target
      ∙ ap (λ (b : Bool). cond b (option_map (whole_of (get committed.inodes target)) (get current.inodes target)) (cond (gone target) None (get log.whole target))) (eq-eqb target target refl)
      ∙ ap (option_map (whole_of (get committed.inodes target))) there

-- ---- both forms

fsync_is_written : (committed current logged : Subvolume) (target : ℕ) (members : List ℕ) (next : Subvolume) (log : FlatLog) → is_there current target ≡ true
    → IsFsyncWritten committed current logged target members next log (fsync_log committed current target members next log)
fsync_is_written committed current logged target members next log there =
    let inode = there_gives current target there in
    record {
      has_target = record {
        inode = inode.0;
        whole = whole_of (get committed.inodes target) inode.0;
        there = inode.1;
        logged = whole_target committed current target log (is_gone current members) inode.0 inode.1;
        changes = whole_is (get committed.inodes target) inode.0;
      };
      whole = whole_other committed current target log (is_gone current members);
      existing = get_map_of_all (members ++ keys log.existing) (written_existing current target members log) existing_key;
      names = refl;
      ranges = once_same is_same_range range_gives range_from _;
      entries = once_same is_same_entry entry_gives entry_from _;
      ranges_once = once_distinct is_same_range range_gives range_from (written_ranges committed current next target members log);
      entries_once = once_distinct is_same_entry entry_gives entry_from (written_entries committed current target members log);
    }
  where
    existing_key : (ino : ℕ) (inode : InodeRecord) → written_existing current target members log ino ≡ Some inode → Contains (members ++ keys log.existing) ino
    existing_key ino inode h = go (nat_eq ino target) (is_in members ino) refl (not (is_some (get log.whole ino))) h
      where
        go : (a b : Bool) → is_in members ino ≡ b → (c : Bool) → cond a None (cond (b && c) (option_map Rattle.flat_model.specs.Records.at_creation (get current.inodes ino)) (get log.existing ino)) ≡ Some inode → Contains (members ++ keys log.existing) ino
        go true b e c h = absurd cc
        go false true e c h = Contains-append_left members (keys log.existing) ino (in_gives members ino e)
        go false false e c h = Contains-append_right members (keys log.existing) ino (key_is_in log.existing ino inode h)

data_is_written : (committed current : Subvolume) (target : ℕ) (log : FlatLog) → is_there current target ≡ true → IsDataWritten committed current target log (data_log committed current target log)
data_is_written committed current target log there =
    let inode = there_gives current target there in
    record {
      has_target = record {
        inode = inode.0;
        whole = whole_of (get committed.inodes target) inode.0;
        there = inode.1;
        logged = whole_target committed current target log (λ ino. false) inode.0 inode.1;
        changes = whole_is (get committed.inodes target) inode.0;
      };
      whole = whole_other committed current target log (λ ino. false);
      existing = get_map_of_all (keys log.existing) (λ ino. cond (nat_eq ino target) None (get log.existing ino)) existing_key;
      names = refl;
      ranges = once_same is_same_range range_gives range_from log.ranges;
      entries = once_same is_same_entry entry_gives entry_from log.entries;
      ranges_once = once_distinct is_same_range range_gives range_from log.ranges;
      entries_once = once_distinct is_same_entry entry_gives entry_from log.entries;
    }
  where
    existing_key : (ino : ℕ) (inode : InodeRecord) → cond (nat_eq ino target) None (get log.existing ino) ≡ Some inode → Contains (keys log.existing) ino
    existing_key ino inode h = key_is_in log.existing ino inode (no_key (nat_eq ino target) false inode (get log.existing ino) h)

pub step_has_log : (committed current logged : Subvolume) (target : ℕ) (datasync : Bool) (log : FlatLog) → is_there current target ≡ true
    → IsWritten committed current logged target datasync log (written_log committed current logged target datasync log)
unfolding written_log
step_has_log committed current logged target datasync log there = go (is_data_form logged target datasync)
  where
    go : (form : Bool) → Rattle.std.specs.Prelude.MatchBool form
        (IsDataWritten committed current target log (cond form (data_log committed current target log) (fsync_log committed current target (drawn_set current logged target) (log_step current logged target datasync) log)))
        (IsFsyncWritten committed current logged target (drawn_set current logged target) (log_step current logged target datasync) log
        (cond form (data_log committed current target log) (fsync_log committed current target (drawn_set current logged target) (log_step current logged target datasync) log)))
    go true = data_is_written committed current target log there
    go false = fsync_is_written committed current logged target (drawn_set current logged target) (log_step current logged target datasync) log there
