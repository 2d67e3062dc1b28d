-- Where one name comes, and at most one goes, a coherent subvolume stays coherent.
use Rattle.std.proofs.Common.{◌≡◌, ◌≢◌, ℕ, ◌+◌, true, false, List, [], ◌∷◌, length, Option, Some, None, refl, sym, ap, subst, ◌∙◌, inl, inr, ◌⊎◌}
use Rattle.std.specs.List.{Contains}
use Rattle.std.specs.FinMap.{get}
use Rattle.std.proofs.lemmas.Bool.{true≢false, eq-eqb, ne_eqb, or_parts}
use Rattle.flat_model.specs.Records.{InodeRecord}
use Rattle.flat_model.specs.Names.{FlatName, is_name_set, add_name, leads_to, links_of, names_of, is_in_slot}
use Rattle.flat_model.specs.Volume.{Subvolume, is_dir_at}
use Rattle.flat_model.specs.Coherent.{IsCoherent, IsLinkCount, LeadsUp, IsNameBytes}
use Rattle.flat_model.specs.Step.{IsPath}
use Rattle.flat_model.specs.Walk.{WalkEnd, AtRoot, AtSlot, Missing, Blocked, is_absent, is_dirless, is_blocked, is_root, is_taken}
use Rattle.flat_model.specs.Operations.{is_crowded, has_room_near, do_collide}
use Rattle.flat_model.proofs.Lists.{contains_head, contains_tail, contains_none, contains_cases, filter_contains, filter_empties}
use Rattle.flat_model.proofs.Maps.{some_none}
use Rattle.flat_model.proofs.NameSets.{add_name_cases, is_name_set_add, filter_add_name, filter_add_other, length_add_name}
use Rattle.flat_model.proofs.Edits.{NamesFit, IsFit, IsFitInode, Rewires}
use Rattle.flat_model.proofs.Ways.{EndsAtSlot, path_down, find_none, is_in_slot_from}
use Rattle.flat_model.proofs.Fresh.{names_fit_add}

-- ---- what the rows of a walk say of its end

pub free_slot : (end : WalkEnd) → is_dirless end ≡ false → is_blocked end ≡ false → is_taken end ≡ false → (dir : ℕ) × (bytes : List ℕ) × (end ≡ AtSlot dir bytes None)
free_slot AtRoot a b c = absurd (true≢false c)
free_slot (AtSlot dir bytes None) a b c = (dir, bytes, refl)
free_slot (AtSlot dir bytes (Some name)) a b c = absurd (true≢false c)
free_slot Missing a b c = absurd (true≢false a)
free_slot Blocked a b c = absurd (true≢false b)

pub held_slot : (end : WalkEnd) → is_absent end ≡ false → is_blocked end ≡ false → is_root end ≡ false → (dir : ℕ) × (bytes : List ℕ) × (name : FlatName) × (end ≡ AtSlot dir bytes (Some name))
held_slot AtRoot a b c = absurd (true≢false c)
held_slot (AtSlot dir bytes None) a b c = absurd (true≢false a)
held_slot (AtSlot dir bytes (Some name)) a b c = (dir, bytes, name, refl)
held_slot Missing a b c = absurd (true≢false a)
held_slot Blocked a b c = absurd (true≢false b)

pub some_slot : (end : WalkEnd) → is_dirless end ≡ false → is_blocked end ≡ false → is_root end ≡ false → (dir : ℕ) × (bytes : List ℕ) × (there : Option FlatName) × (end ≡ AtSlot dir bytes there)
some_slot AtRoot a b c = absurd (true≢false c)
some_slot (AtSlot dir bytes there) a b c = (dir, bytes, there, refl)
some_slot Missing a b c = absurd (true≢false a)
some_slot Blocked a b c = absurd (true≢false b)

path_down_has : (way : List FlatName) (path : List (List ℕ)) (bytes : List ℕ) → Contains path bytes → Contains (path_down way path) bytes
path_down_has [] path bytes c = c
path_down_has (name ∷ way) path bytes c = path_down_has way (name.bytes ∷ path) bytes (contains_tail name.bytes path bytes c)

-- the last name of a path is a name
pub last_is_name : (sub : Subvolume) (path : List (List ℕ)) → IsPath path → (dir : ℕ) (bytes : List ℕ) (there : Option FlatName) → EndsAtSlot sub dir bytes there path → IsNameBytes bytes
last_is_name sub path is_path dir bytes there ends =
    Rattle.std.proofs.lemmas.List.Elements.All-contains IsNameBytes path bytes is_path.1
    (subst (λ p. Contains p bytes) ends.spelled (path_down_has ends.way (bytes ∷ []) bytes (contains_head bytes [])))

-- no name stands in a free slot
pub slot_is_free : (sub : Subvolume) (path : List (List ℕ)) (dir : ℕ) (bytes : List ℕ) → EndsAtSlot sub dir bytes None path → (q : FlatName) → Contains sub.names q → dir ≡ q.dir → bytes ≢ q.bytes
slot_is_free sub path dir bytes ends q c same_dir same_bytes =
    true≢false (sym (is_in_slot_from dir bytes q (sym same_dir) (sym same_bytes)) ∙ find_none (is_in_slot dir bytes) sub.names (sym ends.found) q c)

-- ---- one name

pub one_name : (name q : FlatName) → Contains (name ∷ []) q → name ≡ q
one_name name q c = elim (contains_cases name [] q c) [ inl same ↦ same | inr none ↦ absurd (contains_none q none) ]

pub not_crowded_one : (names : List FlatName) (name : FlatName) → do_collide names (name ∷ []) ≡ false → is_crowded (add_name name names) name ≡ false
not_crowded_one names name e = (or_parts _ _ e).0

-- what it takes for one name to come into a subvolume, where of its names those that aren't removed remain
pub record OneComes (sub new : Subvolume) (removed remaining : List FlatName) (name : FlatName) : Type 0 where
  pub names : new.names ≡ add_name name remaining
  pub set : is_name_set remaining ≡ true
  pub remain : (q : FlatName) → Contains remaining q → Contains sub.names q × (Contains removed q → ⊥)
  pub kept : (ino : ℕ) (inode : InodeRecord) → get sub.inodes ino ≡ Some inode → get new.inodes ino ≡ Some inode
  pub inodes : (ino : ℕ) (inode : InodeRecord) → get new.inodes ino ≡ Some inode → (get sub.inodes ino ≡ Some inode) ⊎ IsFitInode ino inode
  pub counts : (ino : ℕ) (inode : InodeRecord) → get new.inodes ino ≡ Some inode → ino ≢ 256 → IsLinkCount inode (links_of new.names ino)
  pub fit_name : IsFit sub new name
  pub free : (q : FlatName) → Contains sub.names q → (Contains removed q → ⊥) → name.dir ≡ q.dir → name.bytes ≢ q.bytes
  pub fresh : (q : FlatName) → Contains sub.names q → name.dir ≡ q.dir → name.index ≢ q.index
  pub ways : (dir : ℕ) → is_dir_at new dir ≡ true → (way : List FlatName) × LeadsUp new.names dir way
  pub fit : NamesFit remaining
  pub mark : name.near ≡ has_room_near remaining name
  pub not_crowded : is_crowded (add_name name remaining) name ≡ false

pub fresh_absent : (sub : Subvolume) (name : FlatName) → ((q : FlatName) → Contains sub.names q → name.dir ≡ q.dir → name.index ≢ q.index) → Contains sub.names name → ⊥
fresh_absent sub name fresh c = fresh name c refl refl

pub rewires_one : (sub new : Subvolume) (removed remaining : List FlatName) (name : FlatName) → OneComes sub new removed remaining name → Rewires sub new removed (name ∷ [])
rewires_one sub new removed remaining name comes = record {
  set = ap is_name_set comes.names ∙ is_name_set_add name remaining comes.set;
  cases = λ q c. elim (add_name_cases name remaining q (subst (λ ns. Contains ns q) comes.names c)) [
    | inl same ↦ inl (subst (λ z. Contains (name ∷ []) z) same (contains_head name []))
    | inr old ↦ inr (comes.remain q old)
  ];
  kept = comes.kept;
  inodes = comes.inodes;
  counts = comes.counts;
  fit_names = λ a c. subst (IsFit sub new) (one_name name a c) comes.fit_name;
  names_apart = λ a q c d stays. let same = one_name name a c in subst (λ (n : FlatName). n.dir ≡ q.dir → n.bytes ≢ q.bytes) same (comes.free q d stays);
  indexes_apart = λ a q c d. let same = one_name name a c in subst (λ (n : FlatName). n.dir ≡ q.dir → n.index ≢ q.index) same (comes.fresh q d);
  added_names = λ a b c d _ _. sym (one_name name a c) ∙ one_name name b d;
  added_indexes = λ a b c d _ _. sym (one_name name a c) ∙ one_name name b d;
  ways = comes.ways;
  fit = subst NamesFit (sym comes.names) (names_fit_add remaining name comes.set (λ c. fresh_absent sub name comes.fresh (comes.remain name c).0) comes.fit comes.mark comes.not_crowded);
}

-- ---- counts of links

pub links_add_same : (names : List FlatName) (name : FlatName) → is_name_set names ≡ true → (Contains names name → ⊥) → links_of (add_name name names) name.ino ≡ 1 + links_of names name.ino
links_add_same names name set absent =
    ap length (filter_add_name (leads_to name.ino) name names set (eq-eqb name.ino name.ino refl))
    ∙ length_add_name name (names_of names name.ino) (λ c. absent (filter_contains (leads_to name.ino) names name c).0)

pub links_add_other : (names : List FlatName) (name : FlatName) (ino : ℕ) → ino ≢ name.ino → links_of (add_name name names) ino ≡ links_of names ino
links_add_other names name ino other = ap length (filter_add_other (leads_to ino) name names (ne_eqb name.ino ino (λ e. other (sym e))))

-- no name leads to an inode that isn't there
pub no_links : (sub : Subvolume) → IsCoherent sub → (ino : ℕ) → get sub.inodes ino ≡ None → links_of sub.names ino ≡ 0
no_links sub coherent ino absent =
    ap length (filter_empties (leads_to ino) sub.names (λ q c.
    let found = coherent.leads_to_inode q c in
    ne_eqb q.ino ino (λ same. some_none found.0 (sym found.1 ∙ ap (get sub.inodes) same ∙ absent))))
