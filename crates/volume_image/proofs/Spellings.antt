-- Bytes spell one list of entries, and one value.
use Rattle.std.proofs.Common.{◌≡◌, ◌<◌, ◌^◌, ◌++◌, ℕ, List, [], ◌∷◌, length, drop, flat_map, refl, sym, ap, ◌∙◌, arith, inl, inr, length-append}
use Rattle.std.specs.List.{AllByRecursion}
use Rattle.byteorder.specs.Endian.{little_number}
use Rattle.byteorder.specs.Numbers.{little_number-reads_back}
use Rattle.blk_base.specs.declared.key.Key.{Key}
use Rattle.blk_base.specs.Name.{IsName}
use Rattle.blk_base.specs.Items.{InodeValue, IsInode, RootValue, IsRoot}
use Rattle.blk_base.specs.Entries.{RefValue, ref_bytes, IsRefs, IsRefName, ExtRefValue, extref_bytes, IsExtRefs, EntryValue, entry_bytes, EntryFits, IsEntryKind, IsEntries}

-- ---- lists of entries

-- joined lists whose first parts have one length have the same parts
pub append_same : {X : Type 0} (xs ys r s : List X) → length xs ≡ length ys → xs ++ r ≡ ys ++ s → (xs ≡ ys) × (r ≡ s)
append_same [] [] r s size e = (refl, e)
append_same [] (y ∷ ys) r s size e = absurd (omega arith)
append_same (x ∷ xs) [] r s size e = absurd (omega arith)
append_same {X} (x ∷ xs) (y ∷ ys) r s size e =
    let head : x ≡ y = cc in
    let tail : xs ++ r ≡ ys ++ s = cc in
    let rest = append_same xs ys r s (omega arith) tail in
    ((λ i. head i ∷ rest.0 i), rest.1)

-- entries that are spelled one behind the other are one list, where the first of them and what is behind it can be told
pub one_spelling : {E : Type 0} (spell : E → List ℕ) (Good : E → Type 0) → ((x y : E) (r s : List ℕ) → Good x → Good y → spell x ++ r ≡ spell y ++ s → (x ≡ y) × (r ≡ s))
    → ((x : E) → 0 < length (spell x)) → (xs ys : List E) → AllByRecursion Good xs → AllByRecursion Good ys → flat_map spell xs ≡ flat_map spell ys → xs ≡ ys
one_spelling spell Good step some [] [] a b e = refl
one_spelling spell Good step some [] (y ∷ ys) a b e = absurd (longer (spell y) (flat_map spell ys) (some y) e)
  where
    longer : (front rest : List ℕ) → 0 < length front → [] ≡ front ++ rest → ⊥
    longer [] rest h e = omega arith
    longer (z ∷ front) rest h e = cc
one_spelling spell Good step some (x ∷ xs) [] a b e = absurd (longer (spell x) (flat_map spell xs) (some x) e)
  where
    longer : (front rest : List ℕ) → 0 < length front → front ++ rest ≡ [] → ⊥
    longer [] rest h e = omega arith
    longer (z ∷ front) rest h e = cc
one_spelling spell Good step some (x ∷ xs) (y ∷ ys) a b e =
    let first = step x y (flat_map spell xs) (flat_map spell ys) a.0 b.0 e in
    let rest = one_spelling spell Good step some xs ys a.1 b.1 first.1 in
    λ i. first.0 i ∷ rest i

-- what follows from two facts of each entry
pub all_both : {E : Type 0} (P Q R : E → Type 0) → ((x : E) → P x → Q x → R x) → (xs : List E) → AllByRecursion P xs → AllByRecursion Q xs → AllByRecursion R xs
all_both P Q R f [] a b = tt
all_both P Q R f (x ∷ xs) a b = (f x a.0 b.0, all_both P Q R f xs a.1 b.1)

-- ---- names of an inode in one directory

abbrev GoodRef : RefValue → Type 0
GoodRef r = (r.index < 2 ^ 64) × (length r.name < 2 ^ 16)

ref_step : (x y : RefValue) (r s : List ℕ) → GoodRef x → GoodRef y → ref_bytes x ++ r ≡ ref_bytes y ++ s → (x ≡ y) × (r ≡ s)
ref_step x y r s a b e =
    let index : x.index ≡ y.index = sym (little_number-reads_back 8 x.index (drop 8 (ref_bytes x ++ r)) a.0) ∙ ap (little_number 8) e ∙ little_number-reads_back 8 y.index (drop 8 (ref_bytes y ++ s)) b.0 in
    let size : length x.name ≡ length y.name =
    sym (little_number-reads_back 2 (length x.name) (x.name ++ r) a.1) ∙ ap (λ (bytes : List ℕ). little_number 2 (drop 8 bytes)) e ∙ little_number-reads_back 2 (length y.name) (y.name ++ s) b.1 in
    let both = append_same x.name y.name r s size (ap (drop 10) e) in
    ((λ i. record { index = index i; name = both.0 i }), both.1)

ref_name_short : (key : Key) (name : List ℕ) → IsRefName key name → length name < 2 ^ 16
ref_name_short key name (inl is_name) = let most = is_name.most in omega arith
ref_name_short key name (inr own) = let size = ap length own.1 in omega arith

pub refs_are_one : (key : Key) (bytes : List ℕ) (xs ys : List RefValue) → IsRefs key bytes xs → IsRefs key bytes ys → xs ≡ ys
refs_are_one key bytes xs ys a b =
    one_spelling ref_bytes GoodRef ref_step (λ x. omega arith) xs ys (good xs a.indexes a.names) (good ys b.indexes b.names) (sym a.spelled ∙ b.spelled)
  where
    good : (refs : List RefValue) → AllByRecursion (λ r. r.index < 2 ^ 64) refs → AllByRecursion (λ r. IsRefName key r.name) refs → AllByRecursion GoodRef refs
    good refs p q = all_both (λ r. r.index < 2 ^ 64) (λ r. IsRefName key r.name) GoodRef (λ r i n. (i, ref_name_short key r.name n)) refs p q

-- ---- far names of an inode

abbrev GoodExtRef : ExtRefValue → Type 0
GoodExtRef r = (r.parent < 2 ^ 64) × (r.index < 2 ^ 64) × (length r.name < 2 ^ 16)

extref_step : (x y : ExtRefValue) (r s : List ℕ) → GoodExtRef x → GoodExtRef y → extref_bytes x ++ r ≡ extref_bytes y ++ s → (x ≡ y) × (r ≡ s)
extref_step x y r s a b e =
    let parent : x.parent ≡ y.parent = sym (little_number-reads_back 8 x.parent (drop 8 (extref_bytes x ++ r)) a.0) ∙ ap (little_number 8) e ∙ little_number-reads_back 8 y.parent (drop 8 (extref_bytes y ++ s)) b.0 in
    let index : x.index ≡ y.index =
    sym (little_number-reads_back 8 x.index (drop 16 (extref_bytes x ++ r)) a.1) ∙ ap (λ (bytes : List ℕ). little_number 8 (drop 8 bytes)) e ∙ little_number-reads_back 8 y.index (drop 16 (extref_bytes y ++ s)) b.1 in
    let size : length x.name ≡ length y.name =
    sym (little_number-reads_back 2 (length x.name) (x.name ++ r) a.2) ∙ ap (λ (bytes : List ℕ). little_number 2 (drop 16 bytes)) e ∙ little_number-reads_back 2 (length y.name) (y.name ++ s) b.2 in
    let both = append_same x.name y.name r s size (ap (drop 18) e) in
    ((λ i. record { parent = parent i; index = index i; name = both.0 i }), both.1)

name_short : (name : List ℕ) → IsName name → length name < 2 ^ 16
name_short name is_name = let most = is_name.most in omega arith

pub extrefs_are_one : (bytes : List ℕ) (xs ys : List ExtRefValue) → IsExtRefs bytes xs → IsExtRefs bytes ys → xs ≡ ys
extrefs_are_one bytes xs ys a b =
    one_spelling extref_bytes GoodExtRef extref_step (λ x. omega arith) xs ys (good xs a.numbers a.names) (good ys b.numbers b.names) (sym a.spelled ∙ b.spelled)
  where
    good : (refs : List ExtRefValue) → AllByRecursion (λ r. (r.parent < 2 ^ 64) × (r.index < 2 ^ 64)) refs → AllByRecursion (λ r. IsName r.name) refs → AllByRecursion GoodExtRef refs
    good refs p q = all_both (λ r. (r.parent < 2 ^ 64) × (r.index < 2 ^ 64)) (λ r. IsName r.name) GoodExtRef (λ r i n. (i.0, i.1, name_short r.name n)) refs p q

-- ---- entries of directories and attributes

pub record GoodEntry (e : EntryValue) : Type 0 where
  pub fits : EntryFits e
  pub name : length e.name < 2 ^ 16
  pub kind : e.kind < 2 ^ 8

entry_step : (x y : EntryValue) (r s : List ℕ) → GoodEntry x → GoodEntry y → entry_bytes x ++ r ≡ entry_bytes y ++ s → (x ≡ y) × (r ≡ s)
entry_step x y r s a b e =
    let objectid : x.target.objectid ≡ y.target.objectid =
    sym (little_number-reads_back 8 x.target.objectid (drop 8 (entry_bytes x ++ r)) a.fits.target.objectid) ∙ ap (little_number 8) e ∙ little_number-reads_back 8 y.target.objectid (drop 8 (entry_bytes y ++ s)) b.fits.target.objectid in
    let kind : x.target.kind ≡ y.target.kind =
    sym (little_number-reads_back 1 x.target.kind (drop 9 (entry_bytes x ++ r)) a.fits.target.kind) ∙ ap (λ (bytes : List ℕ). little_number 1 (drop 8 bytes)) e ∙ little_number-reads_back 1 y.target.kind (drop 9 (entry_bytes y ++ s)) b.fits.target.kind in
    let offset : x.target.offset ≡ y.target.offset =
    sym (little_number-reads_back 8 x.target.offset (drop 17 (entry_bytes x ++ r)) a.fits.target.offset) ∙ ap (λ (bytes : List ℕ). little_number 8 (drop 9 bytes)) e ∙ little_number-reads_back 8 y.target.offset (drop 17 (entry_bytes y ++ s)) b.fits.target.offset in
    let transid : x.transid ≡ y.transid =
    sym (little_number-reads_back 8 x.transid (drop 25 (entry_bytes x ++ r)) a.fits.transid) ∙ ap (λ (bytes : List ℕ). little_number 8 (drop 17 bytes)) e ∙ little_number-reads_back 8 y.transid (drop 25 (entry_bytes y ++ s)) b.fits.transid in
    let value_size : length x.value ≡ length y.value =
    sym (little_number-reads_back 2 (length x.value) (drop 27 (entry_bytes x ++ r)) a.fits.value) ∙ ap (λ (bytes : List ℕ). little_number 2 (drop 25 bytes)) e ∙ little_number-reads_back 2 (length y.value) (drop 27 (entry_bytes y ++ s)) b.fits.value in
    let name_size : length x.name ≡ length y.name =
    sym (little_number-reads_back 2 (length x.name) (drop 29 (entry_bytes x ++ r)) a.name) ∙ ap (λ (bytes : List ℕ). little_number 2 (drop 27 bytes)) e ∙ little_number-reads_back 2 (length y.name) (drop 29 (entry_bytes y ++ s)) b.name in
    let entry_kind : x.kind ≡ y.kind =
    sym (little_number-reads_back 1 x.kind (drop 30 (entry_bytes x ++ r)) a.kind) ∙ ap (λ (bytes : List ℕ). little_number 1 (drop 29 bytes)) e ∙ little_number-reads_back 1 y.kind (drop 30 (entry_bytes y ++ s)) b.kind in
    let tail : (x.name ++ x.value) ++ r ≡ (y.name ++ y.value) ++ s = ap (drop 30) e in
    let sizes : length (x.name ++ x.value) ≡ length (y.name ++ y.value) = simp length-append (cc) in
    let text = append_same (x.name ++ x.value) (y.name ++ y.value) r s sizes tail in
    let both = append_same x.name y.name x.value y.value name_size text.0 in
    ((λ i. record { target = record { objectid = objectid i; kind = kind i; offset = offset i }; transid = transid i; kind = entry_kind i; name = both.0 i; value = both.1 i }), text.1)

entry_kind_fits : (kind : ℕ) (e : EntryValue) → IsEntryKind kind e → e.kind < 2 ^ 8
entry_kind_fits kind e (inl attribute) = let is = attribute.1 in omega arith
entry_kind_fits kind e (inr named) = elim named.1 [
  | inl file ↦ omega arith
  | inr other ↦ elim other [ inl dir ↦ omega arith | inr link ↦ omega arith ]
]

pub entries_are_one : (kind : ℕ) (bytes : List ℕ) (xs ys : List EntryValue) → IsEntries kind bytes xs → IsEntries kind bytes ys → xs ≡ ys
entries_are_one kind bytes xs ys a b =
    one_spelling entry_bytes GoodEntry entry_step (λ x. omega arith) xs ys (good xs a) (good ys b) (sym a.spelled ∙ b.spelled)
  where
    good : (entries : List EntryValue) → IsEntries kind bytes entries → AllByRecursion GoodEntry entries
    good entries is =
        all_both (λ e. EntryFits e × IsName e.name) (IsEntryKind kind) GoodEntry (λ e f k. record { fits = f.0; name = name_short e.name f.1; kind = entry_kind_fits kind e k }) entries
        (all_both EntryFits (λ e. IsName e.name) (λ e. EntryFits e × IsName e.name) (λ e f n. (f, n)) entries is.fields is.names) is.kinds

-- ---- items of fixed length

pub inode_is_one : (bytes : List ℕ) (v w : InodeValue) → IsInode bytes v → IsInode bytes w → v ≡ w
inode_is_one bytes v w a b = sym a.value ∙ b.value

pub root_is_one : (bytes : List ℕ) (v w : RootValue) → IsRoot bytes v → IsRoot bytes w → v ≡ w
root_is_one bytes v w a b = sym a.value ∙ b.value
