-- What stands under a key of each type, as the entries that are there; and entries as what stands there.
use Rattle.std.proofs.Common.{◌≡◌, ◌≢◌, ◌⊎◌, ◌∙◌, ◌≤◌, ◌<◌, ◌^◌, ℕ, zero, suc, List, [], ◌∷◌, ◌++◌, length, map, Option, Some, None, IsSome, refl, sym, ap, subst, inl, inr, arith}
use Rattle.std.specs.Prelude.{Contains, slice_get}
use Rattle.std.specs.List.{flat_map}
use Rattle.std.specs.Option.{unwrap_or}
use Rattle.std.specs.List.Sorted.{IsPermutation}
use Rattle.std.proofs.lemmas.Bool.{true≢false}
use Rattle.std.proofs.lemmas.List.{length-map}
use Rattle.std.proofs.lemmas.List.Sorted.{IsPermutation-refl, length_permutation}
use Rattle.blk_base.specs.declared.key.Key.{Key}
use Rattle.blk_base.specs.Entries.{EntryFits, EntryValue, ExtRefValue, IsEntries, IsEntryKind, IsRefName, RefValue, entry_bytes, extref_bytes, ref_bytes}
use Rattle.blk_base.specs.Keys.{dir_index, dir_item, inode_extref, inode_ref}
use Rattle.blk_base.specs.Name.{IsName}
use Rattle.item_laws.specs.Apart.{NamesDiffer}
use Rattle.item_laws.specs.Spelling.{all_both, all_weaker}
use Rattle.flat_model.specs.Volume.{Subvolume}
use Rattle.flat_model.proofs.Maps.{some_none, some_same}
use Rattle.volume_image.specs.Subvolume.{Data, ExtRefsAsked, HasEntries, HashedAsked, IndexedAsked, IsAsked, RefsAsked, extrefs_asked, hashed_asked, indexed_asked, refs_asked, without_transid}
use Rattle.volume_image.proofs.Asked.{asked_extrefs, asked_hashed, asked_indexed, asked_refs}
use Rattle.volume_image.proofs.Lists.{no_length}
use Rattle.volume_image.proofs.Members.{not_empty}
use Rattle.volume_image.proofs.Reaches.{head_in, tail_in}
use Rattle.table_volume.specs.Keyed.{AsksAttributes, AsksExtRefs, AsksHashed, AsksIndexed, AsksInode, AsksRefs, AsksTarget, DoesAsk, HoldsKey}
use Rattle.item_edit.specs.ItemEdit.{item_bytes}
use Rattle.item_edit.proofs.Inodes.{item_bytes_some}
use Rattle.name_items.proofs.Held.{IsHeld, held_some}

-- ---- any type

pub some_cons : {E : Type 0} (x : E) (xs : List E) → x ∷ xs ≢ []
some_cons x xs = not_empty x (x ∷ xs) (head_in x xs)

none_there : (o : Option (List ℕ)) → o ≡ None → IsSome o → ⊥
none_there None e some = true≢false (sym some)
none_there (Some bytes) e some = some_none bytes e

none_asked : {E : Type 0} (asked : List E) → (asked ≢ [] → ⊥) → asked ≡ []
none_asked [] h = refl
none_asked (x ∷ xs) h = absurd (h (some_cons x xs))

asked_some : {E F : Type 0} (found : List E) (asked : List F) → length asked ≡ length found → asked ≢ [] → found ≢ []
asked_some found asked same some none = some (no_length asked (same ∙ ap length none))

item_from : {E : Type 0} (sub : Subvolume) (blocks : Data) (key : Key) (bytes : List ℕ) (found : List E) → (found ≢ [] → IsAsked sub blocks key bytes) → (found ≡ [] → bytes ≡ []) → (found ≢ [] → length bytes ≢ 0) → (DoesAsk sub key → found ≢ []) → HoldsKey sub blocks key (item_bytes bytes)
item_from sub blocks key bytes [] asked empty some asks =
    subst (HoldsKey sub blocks key) (sym (ap item_bytes (empty refl))) (record { only = λ b e. absurd (some_none b (sym e)); all = λ a. absurd (asks a refl) })
item_from sub blocks key bytes (x ∷ xs) asked empty some asks =
    subst (HoldsKey sub blocks key) (sym (item_bytes_some bytes (some (some_cons x xs)))) (record { only = λ b e. subst (IsAsked sub blocks key) (some_same bytes b e) (asked (some_cons x xs)); all = λ a. refl })

-- the entries under a key, as they are asked for
pub record Before {E : Type 0} (spell : E → List ℕ) (Good : E → Type 0) (there : Option (List ℕ)) (asked : List E) : Type 0 where
  pub found : List E
  pub held : IsHeld spell Good (unwrap_or there []) found
  pub same : IsPermutation found asked

nothing_before : {E : Type 0} (spell : E → List ℕ) (Good : E → Type 0) (asked : List E) → asked ≡ [] → Before spell Good None asked
nothing_before {E} spell Good asked none = record {
  found = [];
  held = record { spelled = refl; good = tt };
  same = subst (λ (l : List E). IsPermutation [] l) (sym none) (IsPermutation-refl []);
}

-- the same, cases on what entries there are: bytes with no entry are none, and others are some
held_none : {E : Type 0} (spell : E → List ℕ) (Good : E → Type 0) (bytes : List ℕ) (found : List E) → IsHeld spell Good bytes found → found ≡ [] → bytes ≡ []
held_none spell Good bytes found held none = held.spelled ∙ ap (flat_map spell) none

held_bytes : {E : Type 0} (spell : E → List ℕ) (Good : E → Type 0) (bytes : List ℕ) (found : List E) → ((e : E) → 1 ≤ length (spell e)) → IsHeld spell Good bytes found → found ≢ [] → length bytes ≢ 0
held_bytes spell Good bytes [] least held some = absurd (some refl)
held_bytes spell Good bytes (x ∷ xs) least held some = held_some spell Good bytes x xs held (least x)

-- ---- near names

abbrev pub GoodRef : Key → RefValue → Type 0
GoodRef key r = (r.index < 2 ^ 64) × IsRefName key r.name

pub ref_least : (r : RefValue) → 1 ≤ length (ref_bytes r)
ref_least r = omega arith

refs_ask : (sub : Subvolume) (key : Key) → key.kind ≡ inode_ref → DoesAsk sub key → refs_asked sub key.objectid key.offset ≢ []
refs_ask sub key k (AsksInode _ l _ _) = absurd (omega arith)
refs_ask sub key k (AsksRefs l some) = some
refs_ask sub key k (AsksExtRefs l _) = absurd (omega arith)
refs_ask sub key k (AsksAttributes l _) = absurd (omega arith)
refs_ask sub key k (AsksHashed l _) = absurd (omega arith)
refs_ask sub key k (AsksIndexed l _) = absurd (omega arith)
refs_ask sub key k (AsksTarget _ l _ _) = absurd (omega arith)

pub refs_before : (sub : Subvolume) (blocks : Data) (key : Key) (there : Option (List ℕ)) → HoldsKey sub blocks key there → key.kind ≡ inode_ref → Before ref_bytes (GoodRef key) there (refs_asked sub key.objectid key.offset)
refs_before sub blocks key None holds kind =
    nothing_before ref_bytes (GoodRef key) (refs_asked sub key.objectid key.offset) (none_asked (refs_asked sub key.objectid key.offset) (λ some. none_there None refl (holds.all (AsksRefs kind some))))
refs_before sub blocks key (Some bytes) holds kind =
    let a = asked_refs sub blocks key bytes kind (holds.only bytes refl) in
    record {
      found = a.0;
      held = record { spelled = a.1.spelled; good = all_both (λ (r : RefValue). r.index < 2 ^ 64) (λ (r : RefValue). IsRefName key r.name) (GoodRef key) (λ r i n. (i, n)) a.0 a.1.indexes a.1.names };
      same = a.2;
    }

pub refs_after : (sub : Subvolume) (blocks : Data) (key : Key) (bytes : List ℕ) (found : List RefValue) → key.kind ≡ inode_ref → IsHeld ref_bytes (GoodRef key) bytes found → IsPermutation found (refs_asked sub key.objectid key.offset) → HoldsKey sub blocks key (item_bytes bytes)
refs_after sub blocks key bytes found kind held same =
    item_from sub blocks key bytes found
    (λ some. RefsAsked found kind (record { some = some; spelled = held.spelled; indexes = all_weaker (GoodRef key) (λ (r : RefValue). r.index < 2 ^ 64) (λ r g. g.0) found held.good; names = all_weaker (GoodRef key) (λ (r : RefValue). IsRefName key r.name) (λ r g. g.1) found held.good }) same)
    (held_none ref_bytes (GoodRef key) bytes found held) (held_bytes ref_bytes (GoodRef key) bytes found ref_least held)
    (λ asks. asked_some found (refs_asked sub key.objectid key.offset) (length_permutation found (refs_asked sub key.objectid key.offset) same) (refs_ask sub key kind asks))

-- ---- far names

abbrev pub GoodExtRef : ExtRefValue → Type 0
GoodExtRef r = ((r.parent < 2 ^ 64) × (r.index < 2 ^ 64)) × IsName r.name

pub extref_least : (r : ExtRefValue) → 1 ≤ length (extref_bytes r)
extref_least r = omega arith

extrefs_ask : (sub : Subvolume) (key : Key) → key.kind ≡ inode_extref → DoesAsk sub key → extrefs_asked sub key.objectid key.offset ≢ []
extrefs_ask sub key k (AsksInode _ l _ _) = absurd (omega arith)
extrefs_ask sub key k (AsksRefs l _) = absurd (omega arith)
extrefs_ask sub key k (AsksExtRefs l some) = some
extrefs_ask sub key k (AsksAttributes l _) = absurd (omega arith)
extrefs_ask sub key k (AsksHashed l _) = absurd (omega arith)
extrefs_ask sub key k (AsksIndexed l _) = absurd (omega arith)
extrefs_ask sub key k (AsksTarget _ l _ _) = absurd (omega arith)

pub extrefs_before : (sub : Subvolume) (blocks : Data) (key : Key) (there : Option (List ℕ)) → HoldsKey sub blocks key there → key.kind ≡ inode_extref → Before extref_bytes GoodExtRef there (extrefs_asked sub key.objectid key.offset)
extrefs_before sub blocks key None holds kind =
    nothing_before extref_bytes GoodExtRef (extrefs_asked sub key.objectid key.offset) (none_asked (extrefs_asked sub key.objectid key.offset) (λ some. none_there None refl (holds.all (AsksExtRefs kind some))))
extrefs_before sub blocks key (Some bytes) holds kind =
    let a = asked_extrefs sub blocks key bytes kind (holds.only bytes refl) in
    record {
      found = a.0;
      held = record { spelled = a.1.spelled; good = all_both (λ (r : ExtRefValue). (r.parent < 2 ^ 64) × (r.index < 2 ^ 64)) (λ (r : ExtRefValue). IsName r.name) GoodExtRef (λ r i n. (i, n)) a.0 a.1.numbers a.1.names };
      same = a.2;
    }

pub extrefs_after : (sub : Subvolume) (blocks : Data) (key : Key) (bytes : List ℕ) (found : List ExtRefValue) → key.kind ≡ inode_extref → IsHeld extref_bytes GoodExtRef bytes found → IsPermutation found (extrefs_asked sub key.objectid key.offset) → HoldsKey sub blocks key (item_bytes bytes)
extrefs_after sub blocks key bytes found kind held same =
    item_from sub blocks key bytes found
    (λ some. ExtRefsAsked found kind (record { some = some; spelled = held.spelled; numbers = all_weaker GoodExtRef (λ (r : ExtRefValue). (r.parent < 2 ^ 64) × (r.index < 2 ^ 64)) (λ r g. g.0) found held.good; names = all_weaker GoodExtRef (λ (r : ExtRefValue). IsName r.name) (λ r g. g.1) found held.good }) same)
    (held_none extref_bytes GoodExtRef bytes found held) (held_bytes extref_bytes GoodExtRef bytes found extref_least held)
    (λ asks. asked_some found (extrefs_asked sub key.objectid key.offset) (length_permutation found (extrefs_asked sub key.objectid key.offset) same) (extrefs_ask sub key kind asks))

-- ---- entries

pub record GoodEntry (kind : ℕ) (e : EntryValue) : Type 0 where
  pub fits : EntryFits e
  pub name : IsName e.name
  pub kind_is : IsEntryKind kind e

pub entry_least : (e : EntryValue) → 1 ≤ length (entry_bytes e)
entry_least e = omega arith

-- the entries under a key of this type, as they are asked for
pub record EntriesBefore (kind : ℕ) (there : Option (List ℕ)) (asked : List EntryValue) : Type 0 where
  pub found : List EntryValue
  pub held : IsHeld entry_bytes (GoodEntry kind) (unwrap_or there []) found
  pub apart : NamesDiffer found
  pub same : IsPermutation (map without_transid found) asked
  pub spelled : (bytes : List ℕ) → there ≡ Some bytes → IsEntries kind bytes found
  pub none : there ≡ None → found ≡ []

nothing_held : (kind : ℕ) (asked : List EntryValue) → asked ≡ [] → EntriesBefore kind None asked
nothing_held kind asked none = record {
  found = [];
  held = record { spelled = refl; good = tt };
  apart = λ i j a b l s t. absurd (some_none a (sym s));
  same = subst (λ (l : List EntryValue). IsPermutation [] l) (sym none) (IsPermutation-refl []);
  spelled = λ b e. absurd (some_none b (sym e));
  none = λ e. refl;
}

entries_held : (kind : ℕ) (bytes : List ℕ) (asked : List EntryValue) → HasEntries kind bytes asked → EntriesBefore kind (Some bytes) asked
entries_held kind bytes asked has = record {
  found = has.found;
  held = record {
    spelled = has.spelled.spelled;
    good = all_both EntryFits (λ (e : EntryValue). IsName e.name × IsEntryKind kind e) (GoodEntry kind) (λ e f n. record { fits = f; name = n.0; kind_is = n.1 }) has.found has.spelled.fields
        (all_both (λ (e : EntryValue). IsName e.name) (IsEntryKind kind) (λ (e : EntryValue). IsName e.name × IsEntryKind kind e) (λ e n k. (n, k)) has.found has.spelled.names has.spelled.kinds);
  };
  apart = has.spelled.once;
  same = has.same;
  spelled = λ b e. subst (λ (l : List ℕ). IsEntries kind l has.found) (some_same bytes b e) has.spelled;
  none = λ e. absurd (some_none bytes e);
}

pub is_entries : (kind : ℕ) (bytes : List ℕ) (found : List EntryValue) → found ≢ [] → IsHeld entry_bytes (GoodEntry kind) bytes found → NamesDiffer found → (kind ≡ dir_index → length found ≡ 1) → IsEntries kind bytes found
is_entries kind bytes found some held apart single = record {
  some = some;
  spelled = held.spelled;
  fields = all_weaker (GoodEntry kind) EntryFits (λ e g. g.fits) found held.good;
  names = all_weaker (GoodEntry kind) (λ (e : EntryValue). IsName e.name) (λ e g. g.name) found held.good;
  kinds = all_weaker (GoodEntry kind) (IsEntryKind kind) (λ e g. g.kind_is) found held.good;
  once = apart;
  single = single;
}

has_held : (kind : ℕ) (bytes : List ℕ) (found asked : List EntryValue) → found ≢ [] → IsHeld entry_bytes (GoodEntry kind) bytes found → NamesDiffer found → (kind ≡ dir_index → length found ≡ 1) → IsPermutation (map without_transid found) asked → HasEntries kind bytes asked
has_held kind bytes found asked some held apart single same =
    record { found = found; spelled = is_entries kind bytes found some held apart single; same = same }

mapped_long : (found asked : List EntryValue) → IsPermutation (map without_transid found) asked → length asked ≡ length found
mapped_long found asked same = length_permutation (map without_transid found) asked same ∙ length-map found without_transid

hashed_ask : (sub : Subvolume) (key : Key) → key.kind ≡ dir_item → DoesAsk sub key → hashed_asked sub key.objectid key.offset ≢ []
hashed_ask sub key k (AsksInode _ l _ _) = absurd (omega arith)
hashed_ask sub key k (AsksRefs l _) = absurd (omega arith)
hashed_ask sub key k (AsksExtRefs l _) = absurd (omega arith)
hashed_ask sub key k (AsksAttributes l _) = absurd (omega arith)
hashed_ask sub key k (AsksHashed l some) = some
hashed_ask sub key k (AsksIndexed l _) = absurd (omega arith)
hashed_ask sub key k (AsksTarget _ l _ _) = absurd (omega arith)

pub hashed_before : (sub : Subvolume) (blocks : Data) (key : Key) (there : Option (List ℕ)) → HoldsKey sub blocks key there → key.kind ≡ dir_item → EntriesBefore dir_item there (hashed_asked sub key.objectid key.offset)
hashed_before sub blocks key None holds kind =
    nothing_held dir_item (hashed_asked sub key.objectid key.offset) (none_asked (hashed_asked sub key.objectid key.offset) (λ some. none_there None refl (holds.all (AsksHashed kind some))))
hashed_before sub blocks key (Some bytes) holds kind =
    entries_held dir_item bytes (hashed_asked sub key.objectid key.offset) (asked_hashed sub blocks key bytes kind (holds.only bytes refl))

pub hashed_after : (sub : Subvolume) (blocks : Data) (key : Key) (bytes : List ℕ) (found : List EntryValue) → key.kind ≡ dir_item → IsHeld entry_bytes (GoodEntry dir_item) bytes found → NamesDiffer found → IsPermutation (map without_transid found) (hashed_asked sub key.objectid key.offset) → HoldsKey sub blocks key (item_bytes bytes)
hashed_after sub blocks key bytes found kind held apart same =
    let asked = hashed_asked sub key.objectid key.offset in
    item_from sub blocks key bytes found
    (λ some. HashedAsked kind (has_held dir_item bytes found asked some held apart (λ e. absurd (omega (arith, e))) same))
    (held_none entry_bytes (GoodEntry dir_item) bytes found held) (held_bytes entry_bytes (GoodEntry dir_item) bytes found entry_least held)
    (λ asks. asked_some found asked (mapped_long found asked same) (hashed_ask sub key kind asks))

indexed_ask : (sub : Subvolume) (key : Key) → key.kind ≡ dir_index → DoesAsk sub key → indexed_asked sub key.objectid key.offset ≢ []
indexed_ask sub key k (AsksInode _ l _ _) = absurd (omega arith)
indexed_ask sub key k (AsksRefs l _) = absurd (omega arith)
indexed_ask sub key k (AsksExtRefs l _) = absurd (omega arith)
indexed_ask sub key k (AsksAttributes l _) = absurd (omega arith)
indexed_ask sub key k (AsksHashed l _) = absurd (omega arith)
indexed_ask sub key k (AsksIndexed l some) = some
indexed_ask sub key k (AsksTarget _ l _ _) = absurd (omega arith)

pub indexed_before : (sub : Subvolume) (blocks : Data) (key : Key) (there : Option (List ℕ)) → HoldsKey sub blocks key there → key.kind ≡ dir_index → EntriesBefore dir_index there (indexed_asked sub key.objectid key.offset)
indexed_before sub blocks key None holds kind =
    nothing_held dir_index (indexed_asked sub key.objectid key.offset) (none_asked (indexed_asked sub key.objectid key.offset) (λ some. none_there None refl (holds.all (AsksIndexed kind some))))
indexed_before sub blocks key (Some bytes) holds kind =
    entries_held dir_index bytes (indexed_asked sub key.objectid key.offset) (asked_indexed sub blocks key bytes kind (holds.only bytes refl))

pub indexed_after : (sub : Subvolume) (blocks : Data) (key : Key) (bytes : List ℕ) (found : List EntryValue) → key.kind ≡ dir_index → IsHeld entry_bytes (GoodEntry dir_index) bytes found → NamesDiffer found → length found ≤ 1 → IsPermutation (map without_transid found) (indexed_asked sub key.objectid key.offset) → HoldsKey sub blocks key (item_bytes bytes)
indexed_after sub blocks key bytes found kind held apart few same =
    let asked = indexed_asked sub key.objectid key.offset in
    item_from sub blocks key bytes found
    (λ some. IndexedAsked kind (has_held dir_index bytes found asked some held apart (λ e. single found some few) same))
    (held_none entry_bytes (GoodEntry dir_index) bytes found held) (held_bytes entry_bytes (GoodEntry dir_index) bytes found entry_least held)
    (λ asks. asked_some found asked (mapped_long found asked same) (indexed_ask sub key kind asks))
  where
    single : (found : List EntryValue) → found ≢ [] → length found ≤ 1 → length found ≡ 1
    single [] some few = absurd (some refl)
    single (x ∷ xs) some few = omega (arith, few)

-- ---- names of entries that differ

at_place : {X : Type 0} (xs : List X) (k : ℕ) (x : X) → slice_get xs k ≡ Some x → Contains xs x
at_place [] k x is = absurd (some_none x (sym is))
at_place (y ∷ xs) zero x is = (0, omega arith, some_same y x is)
at_place (y ∷ xs) (suc k) x is = let rest = at_place xs k x is in (suc rest.0, omega (arith, rest.1), rest.2)

-- a place among some and one more is among them, or it is that one
last : (xs : List EntryValue) (entry : EntryValue) (j : ℕ) (b : EntryValue) → slice_get (xs ++ (entry ∷ [])) j ≡ Some b → (slice_get xs j ≡ Some b) ⊎ (entry ≡ b)
last [] entry zero b t = inr (some_same entry b t)
last [] entry (suc j) b t = absurd (some_none b (sym t))
last (x ∷ xs) entry zero b t = inl t
last (x ∷ xs) entry (suc j) b t = last xs entry j b t

-- one more at the end, whose name no other has
pub differ_more : (found : List EntryValue) (entry : EntryValue) → NamesDiffer found → ((other : EntryValue) → Contains found other → other.name ≢ entry.name) → NamesDiffer (found ++ (entry ∷ []))
differ_more [] entry apart new zero zero a b l s t = absurd (omega arith)
differ_more [] entry apart new zero (suc j) a b l s t = absurd (some_none b (sym t))
differ_more [] entry apart new (suc i) j a b l s t = absurd (some_none a (sym s))
differ_more (x ∷ xs) entry apart new zero zero a b l s t = absurd (omega arith)
differ_more (x ∷ xs) entry apart new zero (suc j) a b l s t = elim (last xs entry j b t) [
  | inl there ↦ apart zero (suc j) a b (omega arith) s there
  | inr same ↦ λ e. new x (head_in x xs) (ap (λ (v : EntryValue). v.name) (some_same x a s) ∙ e ∙ ap (λ (v : EntryValue). v.name) (sym same))
]
differ_more (x ∷ xs) entry apart new (suc i) zero a b l s t = absurd (omega arith)
differ_more (x ∷ xs) entry apart new (suc i) (suc j) a b l s t =
    differ_more xs entry (λ p q u v m n o. apart (suc p) (suc q) u v (omega arith) n o) (λ other c. new other (tail_in x other xs c)) i j a b (omega arith) s t

-- what stands among others stands there among one more
past : (xs rights : List EntryValue) (entry : EntryValue) (j : ℕ) (b : EntryValue) → slice_get (xs ++ rights) j ≡ Some b → (k : ℕ) × (slice_get (xs ++ (entry ∷ rights)) k ≡ Some b)
past [] rights entry j b t = (suc j, t)
past (x ∷ xs) rights entry zero b t = (zero, t)
past (x ∷ xs) rights entry (suc j) b t = let rest = past xs rights entry j b t in (suc rest.0, rest.1)

-- one less
pub differ_less : (lefts rights : List EntryValue) (entry : EntryValue) → NamesDiffer (lefts ++ (entry ∷ rights)) → NamesDiffer (lefts ++ rights)
differ_less [] rights entry apart i j a b l s t = apart (suc i) (suc j) a b (omega arith) s t
differ_less (x ∷ xs) rights entry apart zero zero a b l s t = absurd (omega arith)
differ_less (x ∷ xs) rights entry apart zero (suc j) a b l s t =
    let k = past xs rights entry j b t in
    apart zero (suc k.0) a b (omega arith) s k.1
differ_less (x ∷ xs) rights entry apart (suc i) zero a b l s t = absurd (omega arith)
differ_less (x ∷ xs) rights entry apart (suc i) (suc j) a b l s t =
    differ_less xs rights entry (λ p q u v m n o. apart (suc p) (suc q) u v (omega arith) n o) i j a b (omega arith) s t
