-- The lowest faulty inode is the one that is named.
use Rattle.std.proofs.Common.{◌≡◌, ◌≢◌, ◌<◌, ◌≤◌, ◌⊎◌, ℕ, min, Bool, true, false, cond, List, [], ◌∷◌, map, Contains, Option, Some, None, refl, sym, ap, subst, ◌∙◌, arith, inl, inr}
use Rattle.std.proofs.lemmas.Bool.{cases_Bool, cases_order}
use Rattle.std.specs.FinMap.{get}
use Rattle.blk_base.specs.Keys.{inode_item, inode_ref, inode_extref, dir_item, dir_index}
use Rattle.blk_base.specs.Leaf.{Item}
use Rattle.flat_model.specs.Names.{FlatName}
use Rattle.flat_model.specs.Records.{InodeRecord}
use Rattle.volume_image.specs.Subvolume.{Data, make_key}
use Rattle.volume_image.proofs.Lists.{in_nothing, in_cons}
use Rattle.volume_image.proofs.Reaches.{head_in, tail_in}
use Rattle.volume_image.proofs.Members.{map_in}
use Rattle.image_faults.specs.Said.{PlacedEntry, entries_at, said_sub}
use Rattle.image_faults.specs.Faulty.{IsThere, HasNoFault, IsFaulty}
use Rattle.image_faults.specs.Decided.{fault_told}
use Rattle.image_faults.specs.Decisions.{same_number, is_in}
use Rattle.image_faults.specs.Lowest.{IsFirstFaulty, is_refuted, is_faulty, lower, least_of, candidates, first_faulty}
use Rattle.image_faults.proofs.Readings.{entry_from, inode_from, said_from}
use Rattle.image_faults.proofs.OfLines.{dir_is_there}

-- ---- numbers without items

-- a number other than 256 that no item has isn't faulty
pub no_fault_elsewhere : (items : List Item) (blocks : Data) (ino : ℕ) → (IsThere items ino → ⊥) → ino ≢ 256 → HasNoFault items blocks ino
no_fault_elsewhere items blocks ino absent other = record {
  number = λ there. absurd (absent there);
  inode = λ there. absurd (absent there);
  root = λ root. absurd (other root);
  own_ref = λ root. absurd (other root);
  keys = λ key bytes there same. absurd (absent ((key, bytes), there, same));
  numbers = λ bytes value inode there read has. absurd (absent ((make_key ino inode_item 0, bytes), there, refl));
  indexed = λ index entry c. absurd (no_entry dir_index (index, entry) c);
  hashed = λ hash entry c. absurd (no_entry dir_item (hash, entry) c);
  refs = λ name c same. absurd (no_name name c same);
  own = record {
    root_is_dir = λ root. absurd (other root);
    root_has_no_name = λ root. absurd (other root);
    refs_once = λ key bytes there same. absurd (absent ((key, bytes), there, same));
    names_once = λ one two c d same. absurd (no_name one c same);
    link_count = λ inode there. absurd (no_inode inode there);
    slots = λ one two c. absurd (no_entry dir_index one c);
    indexes = λ entry c. absurd (no_entry dir_index entry c);
    way_up = λ is_dir. let there = dir_is_there (get (said_sub items blocks).inodes ino) is_dir in absurd (no_inode there.0 there.1);
    limits = λ inode there. absurd (no_inode inode there);
  };
}
  where
    no_entry : (kind : ℕ) (p : PlacedEntry) → Contains (entries_at items kind ino) p → ⊥
    no_entry kind p c = let item = entry_from items kind ino p c in absent ((make_key ino kind p.0, item.bytes), item.there, refl)

    no_inode : (inode : InodeRecord) → get (said_sub items blocks).inodes ino ≡ Some inode → ⊥
    no_inode inode there = let item = inode_from items blocks ino inode there in absent ((make_key ino inode_item 0, item.bytes), item.there, refl)

    no_name : (name : FlatName) → Contains (said_sub items blocks).names name → name.ino ≡ ino → ⊥
    no_name name c same = elim (said_from items name c) [
      | inl item ↦ absent ((make_key name.ino inode_ref name.dir, item.bytes), item.there, same)
      | inr item ↦ absent ((make_key name.ino inode_extref item.hash, item.bytes), item.there, same)
    ]

there_is_candidate : (items : List Item) (ino : ℕ) → IsThere items ino → Contains (candidates items) ino
there_is_candidate items ino (item, has, same) =
    tail_in 256 ino (map (λ (i : Item). i.0.objectid) items) (subst (λ (n : ℕ). Contains (map (λ (i : Item). i.0.objectid) items) n) same (map_in (λ (i : Item). i.0.objectid) items item has))

no_candidate : (items : List Item) (blocks : Data) (ino : ℕ) → (Contains (candidates items) ino → ⊥) → HasNoFault items blocks ino
no_candidate items blocks ino absent = no_fault_elsewhere items blocks ino (λ there. absent (there_is_candidate items ino there))
    (λ root. absent (subst (λ (n : ℕ). Contains (candidates items) n) (sym root) (head_in 256 (map (λ (i : Item). i.0.objectid) items))))

-- ---- the test

pub faulty_from : (items : List Item) (blocks : Data) (ino : ℕ) → is_faulty items blocks ino ≡ true → IsFaulty items blocks ino
unfolding is_faulty is_refuted
faulty_from items blocks ino e = go (fault_told items blocks ino) e
  where
    go : (d : Dec (HasNoFault items blocks ino)) → is_refuted d ≡ true → IsFaulty items blocks ino
    go (yes p) e = absurd (let no : false ≡ true = e in cc)
    go (no h) e = h

pub no_fault_from : (items : List Item) (blocks : Data) (ino : ℕ) → is_faulty items blocks ino ≡ false → HasNoFault items blocks ino
unfolding is_faulty is_refuted
no_fault_from items blocks ino e = go (fault_told items blocks ino) e
  where
    go : (d : Dec (HasNoFault items blocks ino)) → is_refuted d ≡ false → HasNoFault items blocks ino
    go (yes p) e = p
    go (no h) e = absurd (let no : true ≡ false = e in cc)

pub faulty_to : (items : List Item) (blocks : Data) (ino : ℕ) → IsFaulty items blocks ino → is_faulty items blocks ino ≡ true
faulty_to items blocks ino h = elim (cases_Bool (is_faulty items blocks ino)) [ inl e ↦ e | inr e ↦ absurd (h (no_fault_from items blocks ino e)) ]

-- ---- the least that passes

least_some : (test : ℕ → Bool) (numbers : List ℕ) (least : ℕ) → least_of test numbers ≡ Some least → (test least ≡ true) × ((n : ℕ) → Contains numbers n → test n ≡ true → least ≤ n)
least_some test [] least e = absurd cc
least_some test (n ∷ numbers) least e = go (test n) refl (least_of test numbers) refl (λ m. least_some test numbers m) e
  where
    go : (b : Bool) → test n ≡ b → (o : Option ℕ) → least_of test numbers ≡ o → ((m : ℕ) → least_of test numbers ≡ Some m → (test m ≡ true) × ((k : ℕ) → Contains numbers k → test k ≡ true → m ≤ k))
        → cond b (Some (lower n (least_of test numbers))) (least_of test numbers) ≡ Some least → (test least ≡ true) × ((k : ℕ) → Contains (n ∷ numbers) k → test k ≡ true → least ≤ k)
    go false t o is later e =
        let rest = later least e in
        (rest.0, λ k c passes. elim (in_cons n k numbers c) [ inl here ↦ absurd (let no : false ≡ true = sym t ∙ ap test here ∙ passes in cc) | inr there ↦ rest.1 k there passes ])
    go true t None is later e =
        let same : n ≡ least = let both : Some (lower n None) ≡ Some least = ap (λ o. Some (lower n o)) (sym is) ∙ e in cc in (
          subst (λ (m : ℕ). test m ≡ true) same t,
          λ k c passes. elim (in_cons n k numbers c) [
            | inl here ↦ let one : least ≡ k = sym same ∙ here in omega arith
            | inr there ↦ absurd (let no : false ≡ true = sym (none numbers is k there) ∙ passes in cc)
          ],
        )
      where
        none : (ns : List ℕ) → least_of test ns ≡ None → (k : ℕ) → Contains ns k → test k ≡ false
        none [] e k c = absurd (in_nothing k c)
        none (m ∷ ns) e k c = at (test m) refl e (λ f. none ns f k)
          where
            at : (b : Bool) → test m ≡ b → cond b (Some (lower m (least_of test ns))) (least_of test ns) ≡ None → (least_of test ns ≡ None → Contains ns k → test k ≡ false) → test k ≡ false
            at true u e later = absurd cc
            at false u e later = elim (in_cons m k ns c) [ inl here ↦ sym (ap test here) ∙ u | inr there ↦ later e there ]
    go true t (Some m) is later e =
        let rest = later m is in
        let same : min n m ≡ least = let both : Some (lower n (Some m)) ≡ Some least = ap (λ o. Some (lower n o)) (sym is) ∙ e in cc in
        let bound : (k : ℕ) → Contains (n ∷ numbers) k → test k ≡ true → least ≤ k = λ k c passes. elim (in_cons n k numbers c) [ inl here ↦ omega arith | inr there ↦ let low = rest.1 k there passes in omega arith ] in (
          elim (cases_order n m) [
            | inl one ↦ subst (λ (k : ℕ). test k ≡ true) (let e : n ≡ least = omega arith in e) t
            | inr other ↦ elim other [
              | inl below ↦ subst (λ (k : ℕ). test k ≡ true) (let e : n ≡ least = omega arith in e) t
              | inr above ↦ subst (λ (k : ℕ). test k ≡ true) (let e : m ≡ least = omega arith in e) rest.0
            ]
          ],
          bound,
        )

least_none : (test : ℕ → Bool) (numbers : List ℕ) → least_of test numbers ≡ None → (k : ℕ) → Contains numbers k → test k ≡ false
least_none test [] e k c = absurd (in_nothing k c)
least_none test (m ∷ ns) e k c = at (test m) refl e (λ f. least_none test ns f k)
  where
    at : (b : Bool) → test m ≡ b → cond b (Some (lower m (least_of test ns))) (least_of test ns) ≡ None → (least_of test ns ≡ None → Contains ns k → test k ≡ false) → test k ≡ false
    at true u e later = absurd cc
    at false u e later = elim (in_cons m k ns c) [ inl here ↦ sym (ap test here) ∙ u | inr there ↦ later e there ]

-- ---- the lowest

pub first_is_lowest : (items : List Item) (blocks : Data) (ino : ℕ) → first_faulty items blocks ≡ Some ino → IsFirstFaulty items blocks ino
unfolding first_faulty
first_is_lowest items blocks ino e =
    let least = least_some (is_faulty items blocks) (candidates items) ino e in
    record { faulty = faulty_from items blocks ino least.0; lowest = λ other below. go other below (is_in same_number (candidates items) other) (cases_Bool (is_faulty items blocks other)) least.1 }
  where
    go : (other : ℕ) → other < ino → Dec (Contains (candidates items) other) → (is_faulty items blocks other ≡ true) ⊎ (is_faulty items blocks other ≡ false)
        → ((n : ℕ) → Contains (candidates items) n → is_faulty items blocks n ≡ true → ino ≤ n) → HasNoFault items blocks other
    go other below (no h) t low = no_candidate items blocks other h
    go other below (yes c) (inr f) low = no_fault_from items blocks other f
    go other below (yes c) (inl t) low = let bound = low other c t in absurd (omega arith)

pub none_is_faulty : (items : List Item) (blocks : Data) → first_faulty items blocks ≡ None → (ino : ℕ) → HasNoFault items blocks ino
unfolding first_faulty
none_is_faulty items blocks e ino = go (is_in same_number (candidates items) ino)
  where
    go : Dec (Contains (candidates items) ino) → HasNoFault items blocks ino
    go (no h) = no_candidate items blocks ino h
    go (yes c) = no_fault_from items blocks ino (least_none (is_faulty items blocks) (candidates items) e ino c)

pub lowest_is_first : (items : List Item) (blocks : Data) (ino : ℕ) → IsFirstFaulty items blocks ino → first_faulty items blocks ≡ Some ino
lowest_is_first items blocks ino is = go (first_faulty items blocks) refl
  where
    go : (o : Option ℕ) → first_faulty items blocks ≡ o → first_faulty items blocks ≡ Some ino
    go None e = absurd (is.faulty (none_is_faulty items blocks e ino))
    go (Some other) e =
        let first = first_is_lowest items blocks other e in
        elim (cases_order other ino) [
          | inl same ↦ e ∙ ap Some same
          | inr differ ↦ elim differ [ inl below ↦ absurd (first.faulty (is.lowest other below)) | inr above ↦ absurd (is.faulty (first.lowest ino above)) ]
        ]

pub none_is_first : (items : List Item) (blocks : Data) → ((ino : ℕ) → HasNoFault items blocks ino) → first_faulty items blocks ≡ None
none_is_first items blocks all = go (first_faulty items blocks) refl
  where
    go : (o : Option ℕ) → first_faulty items blocks ≡ o → first_faulty items blocks ≡ None
    go None e = e
    go (Some other) e = absurd ((first_is_lowest items blocks other e).faulty (all other))
