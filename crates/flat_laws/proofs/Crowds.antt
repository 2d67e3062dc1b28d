-- How many bytes items have once new names have come says nothing of the indexes of these names.
use Rattle.std.proofs.Common.{◌≡◌, ◌≢◌, ℕ, ◌+◌, Bool, true, false, cond, not, ◌&&◌, ◌||◌, List, [], ◌∷◌, Option, Some, None, refl, sym, ap, ◌∙◌, inl, inr}
use Rattle.std.specs.Bool.{nat_eq, nat_lt}
use Rattle.std.specs.List.{Contains, filter, sum_by}
use Rattle.blk_base.specs.Crc.{name_hash_of, extref_hash_of}
use Rattle.flat_model.specs.Names.{FlatName, is_name_set, add_name, is_in_slot}
use Rattle.flat_model.specs.Lengths.{most_item_bytes, extref_length, entry_length, extref_item_length, dir_item_length}
use Rattle.flat_model.specs.Volume.{Subvolume}
use Rattle.flat_model.specs.Coherent.{IsCoherent}
use Rattle.flat_model.specs.Walk.{WalkEnd, AtRoot, AtSlot, Missing, Blocked, walk}
use Rattle.flat_model.specs.Operations.{new_name, names_without, is_crowded, do_collide}
use Rattle.flat_model.proofs.NameSets.{filter_add_other, add_name_cases, is_name_set_add, is_name_set_remove, remove_name_gives}
use Rattle.flat_model.proofs.Ways.{walk_slot, find_some, is_in_slot_gives}
use Rattle.flat_model.proofs.Fresh.{sum_filter_add}
use Rattle.flat_model.proofs.OneName.{slot_is_free}

-- ---- sums

-- a total with what a name adds to it, where it counts
abbrev grown : (FlatName → ℕ) → (FlatName → Bool) → FlatName → ℕ → ℕ
grown f p name total = cond (p name) (f name + total) total

sum_grown : (f : FlatName → ℕ) (p : FlatName → Bool) (name : FlatName) (names : List FlatName) → is_name_set names ≡ true → (Contains names name → ⊥) → sum_by f (filter p (add_name name names)) ≡ grown f p name (sum_by f (filter p names))
sum_grown f p name names set absent =
    elim (p name) as (λ b. p name ≡ b → sum_by f (filter p (add_name name names)) ≡ cond b (f name + sum_by f (filter p names)) (sum_by f (filter p names))) [
      | true ↦ λ t. sum_filter_add f p name names set absent t
      | false ↦ λ e. ap (sum_by f) (filter_add_other p name names e)
    ] refl

abbrev counts_entry : ℕ → ℕ → FlatName → Bool
counts_entry dir hash name = nat_eq name.dir dir && nat_eq (name_hash_of name.bytes) hash

abbrev counts_extref : ℕ → ℕ → FlatName → Bool
counts_extref ino hash name = not name.near && (nat_eq name.ino ino && nat_eq (extref_hash_of name.dir name.bytes) hash)

-- the bytes of a name's DIR_ITEM once another has come
abbrev entries_with : FlatName → FlatName → ℕ → ℕ
entries_with name one total = grown entry_length (counts_entry name.dir (name_hash_of name.bytes)) one total

-- the bytes of a name's INODE_EXTREF once another has come
abbrev extrefs_with : FlatName → FlatName → ℕ → ℕ
extrefs_with name one total = grown extref_length (counts_extref name.ino (extref_hash_of name.dir name.bytes)) one total

-- whether items of so many bytes are too long for a name with this mark
abbrev is_crowded_by : Bool → ℕ → ℕ → Bool
is_crowded_by near entries extrefs = nat_lt most_item_bytes entries || (not near && nat_lt most_item_bytes extrefs)

-- whether a name is crowded among names and one more
abbrev is_crowded_with : List FlatName → FlatName → FlatName → Bool
is_crowded_with names one name = is_crowded_by name.near
    (entries_with name one (dir_item_length names name.dir (name_hash_of name.bytes)))
    (extrefs_with name one (extref_item_length names name.ino (extref_hash_of name.dir name.bytes)))

-- whether a name is crowded among names and two more
abbrev is_crowded_with_two : List FlatName → FlatName → FlatName → FlatName → Bool
is_crowded_with_two names one two name = is_crowded_by name.near
    (entries_with name two (entries_with name one (dir_item_length names name.dir (name_hash_of name.bytes))))
    (extrefs_with name two (extrefs_with name one (extref_item_length names name.ino (extref_hash_of name.dir name.bytes))))

crowded_one : (names : List FlatName) (one name : FlatName) → is_name_set names ≡ true → (Contains names one → ⊥) → is_crowded (add_name one names) name ≡ is_crowded_with names one name
unfolding dir_item_length extref_item_length
crowded_one names one name set absent =
    let entries = sum_grown entry_length (counts_entry name.dir (name_hash_of name.bytes)) one names set absent in
    let extrefs = sum_grown extref_length (counts_extref name.ino (extref_hash_of name.dir name.bytes)) one names set absent in
    λ i. is_crowded_by name.near (entries i) (extrefs i)

sum_grown_two : (f : FlatName → ℕ) (p : FlatName → Bool) (one two : FlatName) (names : List FlatName) → is_name_set names ≡ true → (Contains names one → ⊥) → (Contains (add_name one names) two → ⊥) → sum_by f (filter p (add_name two (add_name one names))) ≡ grown f p two (grown f p one (sum_by f (filter p names)))
sum_grown_two f p one two names set absent_one absent_two =
    sum_grown f p two (add_name one names) (is_name_set_add one names set) absent_two ∙ ap (grown f p two) (sum_grown f p one names set absent_one)

crowded_two : (names : List FlatName) (one two name : FlatName) → is_name_set names ≡ true → (Contains names one → ⊥) → (Contains (add_name one names) two → ⊥) → is_crowded (add_name two (add_name one names)) name ≡ is_crowded_with_two names one two name
unfolding dir_item_length extref_item_length
crowded_two names one two name set absent_one absent_two =
    let entries = sum_grown_two entry_length (counts_entry name.dir (name_hash_of name.bytes)) one two names set absent_one absent_two in
    let extrefs = sum_grown_two extref_length (counts_extref name.ino (extref_hash_of name.dir name.bytes)) one two names set absent_one absent_two in
    λ i. is_crowded_by name.near (entries i) (extrefs i)

-- ---- slots from which the names have gone

pub names_without_part : (names : List FlatName) (end : WalkEnd) (q : FlatName) → Contains (names_without names end) q → Contains names q
names_without_part names AtRoot q c = c
names_without_part names (AtSlot dir bytes None) q c = c
names_without_part names (AtSlot dir bytes (Some name)) q c = (remove_name_gives name names q c).0
names_without_part names Missing q c = c
names_without_part names Blocked q c = c

pub names_without_set : (names : List FlatName) (end : WalkEnd) → is_name_set names ≡ true → is_name_set (names_without names end) ≡ true
names_without_set names AtRoot set = set
names_without_set names (AtSlot dir bytes None) set = set
names_without_set names (AtSlot dir bytes (Some name)) set = is_name_set_remove name names set
names_without_set names Missing set = set
names_without_set names Blocked set = set

-- no name of these stands in this slot
abbrev pub IsFreeIn : List FlatName → ℕ → List ℕ → Type 0
IsFreeIn names dir bytes = (q : FlatName) → Contains names q → dir ≡ q.dir → bytes ≢ q.bytes

-- a slot is free once its name has gone from some names of a subvolume
pub slot_freed : (sub : Subvolume) → IsCoherent sub → (path : List (List ℕ)) (names : List FlatName) → ((q : FlatName) → Contains names q → Contains sub.names q)
    → (dir : ℕ) (bytes : List ℕ) (there : Option FlatName) → walk sub path ≡ AtSlot dir bytes there → IsFreeIn (names_without names (AtSlot dir bytes there)) dir bytes
slot_freed sub coherent path names part dir bytes None at q c = slot_is_free sub path dir bytes (walk_slot sub path dir bytes None at) q (part q c)
slot_freed sub coherent path names part dir bytes (Some old) at q c =
    let ends = walk_slot sub path dir bytes (Some old) at in
    let found = find_some (is_in_slot dir bytes) sub.names old (sym ends.found) in
    let slot = is_in_slot_gives dir bytes old found.1 in
    let parts = remove_name_gives old names q c in
    λ same_dir same_bytes. parts.1 (coherent.no_name_twice old q found.0 (part q parts.0) (slot.0 ∙ same_dir) (slot.1 ∙ same_bytes))

-- ---- collisions

-- whether a name in a free slot collides doesn't depend on its index
pub collide_one : (names : List FlatName) (dir : ℕ) (bytes : List ℕ) (there : Option FlatName) (ino i j : ℕ) → is_name_set names ≡ true → IsFreeIn names dir bytes
    → do_collide names (new_name names (AtSlot dir bytes there) i ino ∷ []) ≡ do_collide names (new_name names (AtSlot dir bytes there) j ino ∷ [])
collide_one names dir bytes there ino i j set free =
    let name : ℕ → FlatName = λ k. new_name names (AtSlot dir bytes there) k ino in
    let crowd : (k : ℕ) → is_crowded (add_name (name k) names) (name k) ≡ is_crowded_with names (name k) (name k) = λ k. crowded_one names (name k) (name k) set (λ c. free (name k) c refl refl) in
    let same : is_crowded_with names (name i) (name i) ≡ is_crowded_with names (name j) (name j) = refl in
    ap (λ b. b || false) (crowd i ∙ same ∙ sym (crowd j))

-- nor whether two collide, in two free slots and of two inodes
pub collide_two : (names : List FlatName) (a b : FlatName) (i j k l : ℕ) → is_name_set names ≡ true → IsFreeIn names a.dir a.bytes → IsFreeIn names b.dir b.bytes → a.ino ≢ b.ino
    → do_collide names (new_name names (AtSlot a.dir a.bytes (Some a)) i b.ino ∷ new_name names (AtSlot b.dir b.bytes (Some b)) j a.ino ∷ [])
    ≡ do_collide names (new_name names (AtSlot a.dir a.bytes (Some a)) k b.ino ∷ new_name names (AtSlot b.dir b.bytes (Some b)) l a.ino ∷ [])
collide_two names a b i j k l set free_a free_b apart =
    let one : ℕ → FlatName = λ n. new_name names (AtSlot a.dir a.bytes (Some a)) n b.ino in
    let two : ℕ → FlatName = λ n. new_name names (AtSlot b.dir b.bytes (Some b)) n a.ino in
    let absent_one : (n : ℕ) → Contains names (one n) → ⊥ = λ n c. free_a (one n) c refl refl in
    let absent_two : (n m : ℕ) → Contains (add_name (one n) names) (two m) → ⊥ = λ n m c. elim (add_name_cases (one n) names (two m) c) [
      | inl same ↦ apart (sym (ap (λ (q : FlatName). q.ino) same))
      | inr old ↦ free_b (two m) old refl refl
    ] in
    let crowd : (n m : ℕ) (name : FlatName) → is_crowded (add_name (two m) (add_name (one n) names)) name ≡ is_crowded_with_two names (one n) (two m) name = λ n m name. crowded_two names (one n) (two m) name set (absent_one n) (absent_two n m) in
    let all : (n m : ℕ) → do_collide names (one n ∷ two m ∷ []) ≡ (is_crowded_with_two names (one n) (two m) (one n) || (is_crowded_with_two names (one n) (two m) (two m) || false)) =
    λ n m t. (crowd n m (one n) t || (crowd n m (two m) t || false)) in
    all i j ∙ sym (all k l)
