-- The names that a subvolume's items say of an inode are those that it has.
use Rattle.std.proofs.Common.{◌≡◌, ◌&&◌, ◌∙◌, ℕ, Bool, true, false, not, cond, List, [], ◌∷◌, ◌++◌, Contains, Result, nat_eq, filter, map, refl, sym, ap, subst, inl, inr, IsPermutation, arith}
use Rattle.std.specs.List.{AllByRecursion, IsDistinct}
use Rattle.std.specs.Ordering.{is_eq}
use Rattle.std.specs.declared.cmp.Ordering.TheVariants.{Less}
use Rattle.std.proofs.lemmas.Bool.{and_parts, cases_Bool, eq-eqb, eqb-true, not-true, true≢false}
use Rattle.std.proofs.lemmas.List.Elements.{Contains-append_cases}
use Rattle.std.proofs.lemmas.List.Sorted.{Contains-permutation, IsPermutation-map, IsPermutation-sym}
use Rattle.std.proofs.lemmas.Map.Keys.{IsDistinct-IsPermutation}
use Rattle.blk_base.specs.declared.fault.ItemFault.{ItemFault}
use Rattle.blk_base.specs.declared.key.Key.{Key}
use Rattle.blk_base.specs.Crc.{extref_hash_of}
use Rattle.blk_base.specs.Entries.{ExtRefValue, RefValue, extrefs_of, refs_of}
use Rattle.blk_base.specs.Keys.{KeyBelow, inode_extref, inode_ref}
use Rattle.blk_base.specs.Leaf.{Item}
use Rattle.blk_base.specs.Trees.{ItemsRise}
use Rattle.flat_model.specs.Names.{FlatName, is_name_set, is_same_name, name_cmp}
use Rattle.flat_model.specs.Volume.{Subvolume}
use Rattle.flat_model.proofs.NameSets.{is_name_set_filter, is_same_name_false, is_same_name_itself, is_same_name_true, set_head_below, set_tail}
use Rattle.item_laws.specs.ExtRefs.{extrefs_to}
use Rattle.item_laws.specs.Refs.{refs_to}
use Rattle.leaf_view.specs.KeyOrder.{KeyBelow_irrefl}
use Rattle.log_image.specs.LogItems.{far_name, names_in, names_in_item, near_name, read_or}
use Rattle.logged_volume.specs.FlatLog.{AreDistinct}
use Rattle.std.proofs.lemmas.List.Elements.{All-contains}
use Rattle.tree_range.proofs.Rise.{rise_head, rise_tail}
use Rattle.volume_image.specs.Subvolume.{Data, IsAsked, extref_of, extrefs_asked, make_key, own_refs, ref_of, refs_asked}
use Rattle.volume_image.proofs.Asked.{asked_extrefs, asked_refs}
use Rattle.volume_image.proofs.Lists.{in_cons, in_nothing}
use Rattle.volume_image.proofs.Members.{filter_in, in_filter}
use Rattle.volume_image.proofs.Reaches.{head_in, tail_in}
use Rattle.log_image.proofs.Sayings.{in_flat_map}

-- ---- lists without an element twice

all_in : {X : Type 0} (P : X → Type 0) (xs : List X) → ((x : X) → Contains xs x → P x) → AllByRecursion P xs
all_in P [] h = tt
all_in P (x ∷ xs) h = (h x (head_in x xs), all_in P xs (λ y c. h y (tail_in x y xs c)))

all_gives : {X : Type 0} (P : X → Type 0) (xs : List X) (x : X) → AllByRecursion P xs → Contains xs x → P x
all_gives P [] x h c = absurd (in_nothing x c)
all_gives P (y ∷ xs) x h c = elim (in_cons y x xs c) [
  | inl here ↦ subst P here h.0
  | inr there ↦ all_gives P xs x h.1 there
]

less_apart : (a b : FlatName) → name_cmp a b ≡ Less → is_same_name a b ≡ false
less_apart a b h = ap is_eq h

set_is_distinct : (names : List FlatName) → is_name_set names ≡ true → IsDistinct is_same_name names
unfolding IsDistinct
set_is_distinct [] set = tt
set_is_distinct (name ∷ names) set = (all_in (λ other. is_same_name name other ≡ false) names (λ other c. less_apart name other (set_head_below name names set other c)), set_is_distinct names (set_tail name names set))

flips : (a b : FlatName) → is_same_name a b ≡ is_same_name b a
flips a b = elim (cases_Bool (is_same_name a b)) [
  | inl same ↦ same ∙ sym (subst (λ (n : FlatName). is_same_name n a ≡ true) (is_same_name_true a b same) (is_same_name_itself a))
  | inr apart ↦ apart ∙ sym (is_same_name_false b a (λ e. true≢false (sym (is_same_name_itself a) ∙ (ap (is_same_name a) (sym e)) ∙ apart)))
]

from_distinct : (names : List FlatName) → IsDistinct is_same_name names → AreDistinct names
unfolding IsDistinct
from_distinct [] d = tt
from_distinct (name ∷ names) d = ((λ c. true≢false (sym (is_same_name_itself name) ∙ all_gives (λ other. is_same_name name other ≡ false) names name d.0 c)), from_distinct names d.1)

pub distinct_append : (xs ys : List FlatName) → AreDistinct xs → AreDistinct ys → ((n : FlatName) → Contains xs n → Contains ys n → ⊥) → AreDistinct (xs ++ ys)
distinct_append [] ys d e apart = e
distinct_append (x ∷ xs) ys d e apart = (
  (λ c. elim (Contains-append_cases xs ys x c) [ inl front ↦ d.0 front | inr back ↦ apart x (head_in x xs) back ]),
  distinct_append xs ys d.1 e (λ n f b. apart n (tail_in x n xs f) b),
)

same_map : {X : Type 0} (f : X → X) (xs : List X) → ((x : X) → Contains xs x → f x ≡ x) → map f xs ≡ xs
same_map f [] h = refl
same_map {X} f (x ∷ xs) h = ap (λ (y : X). y ∷ map f xs) (h x (head_in x xs)) ∙ ap (λ (l : List X). x ∷ l) (same_map f xs (λ y c. h y (tail_in x y xs c)))

map_twice : {X Y Z : Type 0} (f : X → Y) (g : Y → Z) (xs : List X) → map g (map f xs) ≡ map (λ x. g (f x)) xs
map_twice f g [] = refl
map_twice {Z} f g (x ∷ xs) = ap (λ (l : List Z). g (f x) ∷ l) (map_twice f g xs)

-- ---- one item

-- the key of the item that has a name ("INODE_REF", "INODE_EXTREF")
abbrev pub key_of_name : FlatName → Key
key_of_name name = cond name.near (make_key name.ino inode_ref name.dir) (make_key name.ino inode_extref (extref_hash_of name.dir name.bytes))

abbrev is_near_at : ℕ → ℕ → FlatName → Bool
is_near_at ino dir name = name.near && (nat_eq name.ino ino && nat_eq name.dir dir)

abbrev is_far_at : ℕ → ℕ → FlatName → Bool
is_far_at ino hash name = not name.near && (nat_eq name.ino ino && nat_eq (extref_hash_of name.dir name.bytes) hash)

-- an item says each name of the subvolume that has its key, and once
pub record SaysItsNames (sub : Subvolume) (item : Item) : Type 0 where
  pub said : (name : FlatName) → Contains (names_in_item item) name → Contains sub.names name × (key_of_name name ≡ item.0)
  pub says : (name : FlatName) → Contains sub.names name → key_of_name name ≡ item.0 → Contains (names_in_item item) name
  pub once : AreDistinct (names_in_item item)

says_by : (sub : Subvolume) (item : Item) (p : FlatName → Bool) → is_name_set sub.names ≡ true → IsPermutation (filter p sub.names) (names_in_item item)
    → ((name : FlatName) → p name ≡ true → key_of_name name ≡ item.0) → ((name : FlatName) → key_of_name name ≡ item.0 → p name ≡ true) → SaysItsNames sub item
says_by sub item p set same key_is is = record {
  said = λ name c. let there = in_filter p sub.names name (Contains-permutation (names_in_item item) (filter p sub.names) name (IsPermutation-sym (filter p sub.names) (names_in_item item) same) c) in (there.0, key_is name there.1);
  says = λ name c k. Contains-permutation (filter p sub.names) (names_in_item item) name same (filter_in p sub.names name c (is name k));
  once = from_distinct (names_in_item item) (IsDistinct-IsPermutation is_same_name flips (filter p sub.names) (names_in_item item) same (set_is_distinct (filter p sub.names) (is_name_set_filter p sub.names set)));
}

near_parts : (ino dir : ℕ) (name : FlatName) → is_near_at ino dir name ≡ true → (name.near ≡ true) × (name.ino ≡ ino) × (name.dir ≡ dir)
near_parts ino dir name h =
    let one = and_parts name.near _ h in
    let two = and_parts (nat_eq name.ino ino) _ one.1 in
    (one.0, eqb-true name.ino ino two.0, eqb-true name.dir dir two.1)

far_parts : (ino hash : ℕ) (name : FlatName) → is_far_at ino hash name ≡ true → (name.near ≡ false) × (name.ino ≡ ino) × (extref_hash_of name.dir name.bytes ≡ hash)
far_parts ino hash name h =
    let one = and_parts (not name.near) _ h in
    let two = and_parts (nat_eq name.ino ino) _ one.1 in
    (not-true _ one.0, eqb-true name.ino ino two.0, eqb-true (extref_hash_of name.dir name.bytes) hash two.1)

no_own_refs : (ino dir : ℕ) → nat_eq ino 256 ≡ false → own_refs ino dir ≡ []
no_own_refs ino dir other = rw other refl

pub near_says : (sub : Subvolume) (blocks : Data) (item : Item) → is_name_set sub.names ≡ true → nat_eq item.0.objectid 256 ≡ false → item.0.kind ≡ inode_ref → IsAsked sub blocks item.0 item.1 → SaysItsNames sub item
near_says sub blocks item set other kind asked = says_by sub item p set perm key_is is
  where
    p : FlatName → Bool
    p = is_near_at item.0.objectid item.0.offset

    back : (name : FlatName) → Contains (filter p sub.names) name → near_name item.0 (ref_of name) ≡ name
    back name c =
        let parts = near_parts item.0.objectid item.0.offset name (in_filter p sub.names name c).1 in
        λ i. record { dir = (sym parts.2) i; index = name.index; bytes = name.bytes; ino = (sym parts.1) i; near = (sym parts.0) i }

    asked_are : refs_asked sub item.0.objectid item.0.offset ≡ map ref_of (filter p sub.names)
    asked_are = ap (λ (own : List RefValue). own ++ map ref_of (filter p sub.names)) (no_own_refs item.0.objectid item.0.offset other)

    perm : IsPermutation (filter p sub.names) (names_in_item item)
    perm =
        let found = asked_refs sub blocks item.0 item.1 kind asked in
        let said : names_in_item item ≡ map (near_name item.0) found.0 = near_case (eq-eqb item.0.kind inode_ref kind) ∙ ap (λ (r : Result (List RefValue) ItemFault). map (near_name item.0) (read_or [] r)) (refs_to item.0 item.1 found.0 found.1) in
        let moved : IsPermutation (map (near_name item.0) (map ref_of (filter p sub.names))) (map (near_name item.0) found.0) =
        IsPermutation-map (near_name item.0) (map ref_of (filter p sub.names)) found.0 (subst (λ (l : List RefValue). IsPermutation l found.0) asked_are (IsPermutation-sym found.0 (refs_asked sub item.0.objectid item.0.offset) found.2)) in
        let whole : map (near_name item.0) (map ref_of (filter p sub.names)) ≡ filter p sub.names = map_twice ref_of (near_name item.0) (filter p sub.names) ∙ same_map (λ (n : FlatName). near_name item.0 (ref_of n)) (filter p sub.names) back in
        subst (λ (l : List FlatName). IsPermutation (filter p sub.names) l) (sym said) (subst (λ (l : List FlatName). IsPermutation l (map (near_name item.0) found.0)) whole moved)
      where
        near_case : nat_eq item.0.kind inode_ref ≡ true → names_in_item item ≡ map (near_name item.0) (read_or [] (refs_of item.0 item.1))
        near_case a = rw a refl

    key_is : (name : FlatName) → p name ≡ true → key_of_name name ≡ item.0
    key_is name h =
        let parts = near_parts item.0.objectid item.0.offset name h in
        ap (λ (b : Bool). cond b (make_key name.ino inode_ref name.dir) (make_key name.ino inode_extref (extref_hash_of name.dir name.bytes))) parts.0 ∙ (λ i. make_key (parts.1 i) ((sym kind) i) (parts.2 i))

    is : (name : FlatName) → key_of_name name ≡ item.0 → p name ≡ true
    is name h = go name.near refl
      where
        go : (b : Bool) → name.near ≡ b → p name ≡ true
        go true near =
            let k : make_key name.ino inode_ref name.dir ≡ item.0 = sym (ap (λ (b : Bool). cond b (make_key name.ino inode_ref name.dir) (make_key name.ino inode_extref (extref_hash_of name.dir name.bytes))) near) ∙ h in
            rw (near, eq-eqb name.ino item.0.objectid (ap (λ (x : Key). x.objectid) k), eq-eqb name.dir item.0.offset (ap (λ (x : Key). x.offset) k)) refl
        go false far =
            let k : make_key name.ino inode_extref (extref_hash_of name.dir name.bytes) ≡ item.0 = sym (ap (λ (b : Bool). cond b (make_key name.ino inode_ref name.dir) (make_key name.ino inode_extref (extref_hash_of name.dir name.bytes))) far) ∙ h in
            let wrong : inode_extref ≡ inode_ref = ap (λ (x : Key). x.kind) k ∙ kind in
            absurd (omega (arith, wrong))

pub far_says : (sub : Subvolume) (blocks : Data) (item : Item) → is_name_set sub.names ≡ true → item.0.kind ≡ inode_extref → IsAsked sub blocks item.0 item.1 → SaysItsNames sub item
far_says sub blocks item set kind asked = says_by sub item p set perm key_is is
  where
    p : FlatName → Bool
    p = is_far_at item.0.objectid item.0.offset

    back : (name : FlatName) → Contains (filter p sub.names) name → far_name item.0 (extref_of name) ≡ name
    back name c =
        let parts = far_parts item.0.objectid item.0.offset name (in_filter p sub.names name c).1 in
        λ i. record { dir = name.dir; index = name.index; bytes = name.bytes; ino = (sym parts.1) i; near = (sym parts.0) i }

    perm : IsPermutation (filter p sub.names) (names_in_item item)
    perm =
        let found = asked_extrefs sub blocks item.0 item.1 kind asked in
        let said : names_in_item item ≡ map (far_name item.0) found.0 = far_case kind ∙ ap (λ (r : Result (List ExtRefValue) ItemFault). map (far_name item.0) (read_or [] r)) (extrefs_to item.1 found.0 found.1) in
        let moved : IsPermutation (map (far_name item.0) (map extref_of (filter p sub.names))) (map (far_name item.0) found.0) =
        IsPermutation-map (far_name item.0) (map extref_of (filter p sub.names)) found.0 (IsPermutation-sym found.0 (extrefs_asked sub item.0.objectid item.0.offset) found.2) in
        let whole : map (far_name item.0) (map extref_of (filter p sub.names)) ≡ filter p sub.names = map_twice extref_of (far_name item.0) (filter p sub.names) ∙ same_map (λ (n : FlatName). far_name item.0 (extref_of n)) (filter p sub.names) back in
        subst (λ (l : List FlatName). IsPermutation (filter p sub.names) l) (sym said) (subst (λ (l : List FlatName). IsPermutation l (map (far_name item.0) found.0)) whole moved)
      where
        far_case : item.0.kind ≡ inode_extref → names_in_item item ≡ map (far_name item.0) (read_or [] (extrefs_of item.1))
        far_case k = rw k refl

    key_is : (name : FlatName) → p name ≡ true → key_of_name name ≡ item.0
    key_is name h =
        let parts = far_parts item.0.objectid item.0.offset name h in
        ap (λ (b : Bool). cond b (make_key name.ino inode_ref name.dir) (make_key name.ino inode_extref (extref_hash_of name.dir name.bytes))) parts.0 ∙ (λ i. make_key (parts.1 i) ((sym kind) i) (parts.2 i))

    is : (name : FlatName) → key_of_name name ≡ item.0 → p name ≡ true
    is name h = go name.near refl
      where
        go : (b : Bool) → name.near ≡ b → p name ≡ true
        go true near =
            let k : make_key name.ino inode_ref name.dir ≡ item.0 = sym (ap (λ (b : Bool). cond b (make_key name.ino inode_ref name.dir) (make_key name.ino inode_extref (extref_hash_of name.dir name.bytes))) near) ∙ h in
            let wrong : inode_ref ≡ inode_extref = ap (λ (x : Key). x.kind) k ∙ kind in
            absurd (omega (arith, wrong))
        go false far =
            let k : make_key name.ino inode_extref (extref_hash_of name.dir name.bytes) ≡ item.0 = sym (ap (λ (b : Bool). cond b (make_key name.ino inode_ref name.dir) (make_key name.ino inode_extref (extref_hash_of name.dir name.bytes))) far) ∙ h in
            rw (far, eq-eqb name.ino item.0.objectid (ap (λ (x : Key). x.objectid) k), eq-eqb (extref_hash_of name.dir name.bytes) item.0.offset (ap (λ (x : Key). x.offset) k)) refl

-- ---- all items

pub items_once : (sub : Subvolume) (items : List Item) → ItemsRise items → ((item : Item) → Contains items item → SaysItsNames sub item) → AreDistinct (names_in items)
items_once sub [] rise each = tt
items_once sub (x ∷ xs) rise each =
    distinct_append (names_in_item x) (names_in xs) (each x (head_in x xs)).once (items_once sub xs (rise_tail x xs rise) (λ y c. each y (tail_in x y xs c)))
    (λ name here there.
    let found = in_flat_map names_in_item xs name there in
    let one = ((each x (head_in x xs)).said name here).1 in
    let two = ((each found.0 (tail_in x found.0 xs found.1)).said name found.2).1 in
    let below : KeyBelow x.0 found.0.0 = All-contains (λ (item : Item). KeyBelow x.0 item.0) xs found.0 (rise_head x xs rise) found.1 in
    KeyBelow_irrefl x.0 (subst (KeyBelow x.0) (sym two ∙ one) below))
