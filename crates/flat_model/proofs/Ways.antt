-- Facts on ways up to the root directory, on walks, and on slots.
use Rattle.std.proofs.Common.{◌≡◌, ℕ, Bool, true, false, cond, ◌&&◌, List, [], ◌∷◌, ◌++◌, length, Option, Some, None, refl, sym, ap, subst, ◌∙◌, arith, inl, inr, ◌⊎◌, length-append}
use Rattle.std.specs.Str.{bytes_eq}
use Rattle.std.specs.Cmp.Lexicographic.{bytes_decides}
use Rattle.std.specs.List.{Contains, find}
use Rattle.std.specs.FinMap.{get}
use Rattle.std.proofs.lemmas.Bool.{true≢false, and_parts, and_from, eqb-true, eq-eqb}
use Rattle.flat_model.specs.Records.{InodeRecord, is_dir_record, DirInode, FileInode, LinkInode}
use Rattle.flat_model.specs.Names.{FlatName, leads_to, is_in_slot, names_of, name_in_slot}
use Rattle.flat_model.specs.Volume.{Subvolume, is_dir_at, is_dir_there}
use Rattle.flat_model.specs.Coherent.{IsCoherent, LeadsUp, IsLinkCount}
use Rattle.flat_model.specs.Walk.{WalkEnd, AtRoot, AtSlot, Missing, Blocked, walk, walk_from, dir_of, bytes_of, is_below}
use Rattle.flat_model.proofs.Lists.{contains_head, contains_tail, contains_none, contains_cases, contains_filter}
use Rattle.flat_model.proofs.Maps.{some_same, some_none}

-- ---- what `find` answers

pub find_some : {X : Type 0} (p : X → Bool) (xs : List X) (x : X) → find p xs ≡ Some x → Contains xs x × (p x ≡ true)
find_some p [] x e = absurd (some_none x (sym e))
find_some p (y ∷ ys) x e =
    elim (p y) as (λ b. p y ≡ b → cond b (Some y) (find p ys) ≡ Some x → Contains (y ∷ ys) x × (p x ≡ true)) [
      | true ↦ λ t s. let same = some_same y x s in (subst (λ z. Contains (y ∷ ys) z) same (contains_head y ys), ap p (sym same) ∙ t)
      | false ↦ λ f s. let rest = find_some p ys x s in (contains_tail y ys x rest.0, rest.1)
    ] refl e

pub find_none : {X : Type 0} (p : X → Bool) (xs : List X) → find p xs ≡ None → (x : X) → Contains xs x → p x ≡ false
find_none p [] e x c = absurd (contains_none x c)
find_none p (y ∷ ys) e x c =
    elim (p y) as (λ b. p y ≡ b → cond b (Some y) (find p ys) ≡ None → p x ≡ false) [
      | true ↦ λ t s. absurd (some_none y s)
      | false ↦ λ f s. elim (contains_cases y ys x c) [ inl same ↦ ap p (sym same) ∙ f | inr h ↦ find_none p ys s x h ]
    ] refl e

pub same_bytes_eq : (a b : List ℕ) → bytes_eq a b ≡ true → a ≡ b
same_bytes_eq a b e = (bytes_decides a b).0 e

pub bytes_eq_same : (a b : List ℕ) → a ≡ b → bytes_eq a b ≡ true
bytes_eq_same a b e = (bytes_decides a b).1 e

-- a name stands in the slot of its directory and bytes
pub is_in_slot_from : (dir : ℕ) (bytes : List ℕ) (name : FlatName) → name.dir ≡ dir → name.bytes ≡ bytes → is_in_slot dir bytes name ≡ true
is_in_slot_from dir bytes name same_dir same_bytes = and_from _ _ (eq-eqb name.dir dir same_dir) (bytes_eq_same name.bytes bytes same_bytes)

pub is_in_slot_gives : (dir : ℕ) (bytes : List ℕ) (name : FlatName) → is_in_slot dir bytes name ≡ true → (name.dir ≡ dir) × (name.bytes ≡ bytes)
is_in_slot_gives dir bytes name e = let parts = and_parts _ _ e in (eqb-true name.dir dir parts.0, same_bytes_eq name.bytes bytes parts.1)

-- ---- the one name of a directory

pub one_member : {X : Type 0} (xs : List X) → length xs ≡ 1 → (a b : X) → Contains xs a → Contains xs b → a ≡ b
one_member [] e a b ca cb = absurd (contains_none a ca)
one_member (x ∷ []) e a b ca cb =
    elim (contains_cases x [] a ca) [
      | inl at_a ↦ elim (contains_cases x [] b cb) [ inl at_b ↦ sym at_a ∙ at_b | inr none ↦ absurd (contains_none b none) ]
      | inr none ↦ absurd (contains_none a none)
    ]
one_member (x ∷ y ∷ ys) e a b ca cb = absurd (omega arith)

-- a directory's record
pub dir_record : (o : Option InodeRecord) → is_dir_there o ≡ true → (inode : InodeRecord) × (o ≡ Some inode) × (is_dir_record inode ≡ true)
dir_record None e = absurd (true≢false (sym e))
dir_record (Some inode) e = (inode, refl, e)

pub dir_link_count : (inode : InodeRecord) (count : ℕ) → is_dir_record inode ≡ true → IsLinkCount inode count → count ≡ 1
dir_link_count (FileInode file) count e c = absurd (true≢false (sym e))
dir_link_count (DirInode dir) count e c = c
dir_link_count (LinkInode link) count e c = absurd (true≢false (sym e))

-- two names of one directory are one
pub dir_name_once : (sub : Subvolume) → IsCoherent sub → (one two : FlatName) → Contains sub.names one → Contains sub.names two → one.ino ≡ two.ino → is_dir_at sub one.ino ≡ true → one ≡ two
dir_name_once sub coherent one two c d same is_dir =
    let found = dir_record (get sub.inodes one.ino) is_dir in
    let count = dir_link_count found.0 _ found.2 (coherent.link_counts one.ino found.0 found.1 (coherent.root_has_no_name one c)) in
    one_member (names_of sub.names one.ino) count one two
    (contains_filter (leads_to one.ino) sub.names one (eq-eqb one.ino one.ino refl) c)
    (contains_filter (leads_to one.ino) sub.names two (eq-eqb two.ino one.ino (sym same)) d)

pub dir_of_name : (sub : Subvolume) → IsCoherent sub → (name : FlatName) → Contains sub.names name → is_dir_at sub name.dir ≡ true
dir_of_name sub coherent name c = coherent.stands_in_dir name c

pub root_dir : (sub : Subvolume) → IsCoherent sub → is_dir_at sub 256 ≡ true
root_dir sub coherent = coherent.root_is_dir

-- ---- ways up

-- there is one way up from a directory
pub way_once : (sub : Subvolume) → IsCoherent sub → (dir other : ℕ) (one two : List FlatName) → dir ≡ other → is_dir_at sub dir ≡ true → LeadsUp sub.names dir one → LeadsUp sub.names other two → one ≡ two
way_once sub coherent dir other [] [] same is_dir up up' = refl
way_once sub coherent dir other [] (name ∷ two) same is_dir up up' = absurd (coherent.root_has_no_name name up'.0 (up'.1 ∙ sym same ∙ up))
way_once sub coherent dir other (name ∷ one) [] same is_dir up up' = absurd (coherent.root_has_no_name name up.0 (up.1 ∙ same ∙ up'))
way_once sub coherent dir other (name ∷ one) (name' ∷ two) same is_dir up up' =
    let equal : name ≡ name' = dir_name_once sub coherent name name' up.0 up'.0 (up.1 ∙ same ∙ sym up'.1) (subst (λ d. is_dir_at sub d ≡ true) (sym up.1) is_dir) in
    let rest = way_once sub coherent name.dir name'.dir one two (ap (λ (n : FlatName). n.dir) equal) (dir_of_name sub coherent name up.0) up.2 up'.2 in
    λ i. equal i ∷ rest i

-- the way up from the directory of a name on the way
pub way_above : (names : List FlatName) (dir : ℕ) (below : List FlatName) (name : FlatName) (above : List FlatName) → LeadsUp names dir (below ++ name ∷ above) → LeadsUp names name.dir above × Contains names name
way_above names dir [] name above up = (up.2, up.0)
way_above names dir (first ∷ below) name above up = way_above names first.dir below name above up.2

-- a list around one of its elements
pub split_around : {X : Type 0} (xs : List X) (x : X) → Contains xs x → (front : List X) × (back : List X) × (xs ≡ front ++ x ∷ back)
split_around [] x c = absurd (contains_none x c)
split_around (y ∷ ys) x c =
    elim (contains_cases y ys x c) [
      | inl same ↦ ([], ys, λ i. same i ∷ ys)
      | inr h ↦ let rest = split_around ys x h in (y ∷ rest.0, rest.1, λ i. y ∷ rest.2 i)
    ]

-- a way up along names that another list has too
pub way_kept : (names kept : List FlatName) (dir : ℕ) (way : List FlatName) → ((q : FlatName) → Contains way q → Contains kept q) → LeadsUp names dir way → LeadsUp kept dir way
way_kept names kept dir [] each up = up
way_kept names kept dir (name ∷ way) each up =
    (each name (contains_head name way), up.1, way_kept names kept name.dir way (λ q c. each q (contains_tail name way q c)) up.2)

pub way_names : (names : List FlatName) (dir : ℕ) (way : List FlatName) → LeadsUp names dir way → (q : FlatName) → Contains way q → Contains names q
way_names names dir [] up q c = absurd (contains_none q c)
way_names names dir (name ∷ way) up q c =
    elim (contains_cases name way q c) [
      | inl same ↦ subst (λ z. Contains names z) same up.0
      | inr h ↦ way_names names name.dir way up.2 q h
    ]

-- a way up, where each name on it is kept or its inode has another way up
pub way_rerouted : (P : ℕ → Type 0) (names kept : List FlatName) → ((q : FlatName) → Contains names q → P q.dir) → ((q : FlatName) → Contains names q → P q.ino → Contains kept q ⊎ ((way : List FlatName) × LeadsUp kept q.ino way)) → (dir : ℕ) → P dir → (way : List FlatName) → LeadsUp names dir way → (other : List FlatName) × LeadsUp kept dir other
way_rerouted P names kept above each dir p [] up = ([], up)
way_rerouted P names kept above each dir p (name ∷ way) up =
    elim (each name up.0 (subst P (sym up.1) p)) [
      | inl stays ↦ let rest = way_rerouted P names kept above each name.dir (above name up.0) way up.2 in (name ∷ rest.0, (stays, up.1, rest.1))
      | inr other ↦ (other.0, subst (λ d. LeadsUp kept d other.0) up.1 other.1)
    ]

-- no name stands on the way up from its own directory
pub way_avoids_own : (sub : Subvolume) → IsCoherent sub → (name : FlatName) → Contains sub.names name → (way : List FlatName) → LeadsUp sub.names name.dir way → Contains way name → ⊥
way_avoids_own sub coherent name c way up on_way =
    let parts = split_around way name on_way in
    let above = way_above sub.names name.dir parts.0 name parts.1 (subst (λ w. LeadsUp sub.names name.dir w) parts.2 up) in
    let same = way_once sub coherent name.dir name.dir parts.1 way refl (dir_of_name sub coherent name c) above.0 up in
    omega (arith, ap length same, ap length parts.2, length-append parts.0 (name ∷ parts.1))

-- ---- walks

-- the bytes of the names on a way up, from the root down, and then more
abbrev pub path_down : List FlatName → List (List ℕ) → List (List ℕ)
path_down [] path = path
path_down (name ∷ way) path = path_down way (name.bytes ∷ path)

pub path_down-append : (below : List FlatName) (name : FlatName) (above : List FlatName) (path : List (List ℕ)) → path_down (below ++ name ∷ above) path ≡ path_down above (name.bytes ∷ path_down below path)
path_down-append [] name above path = refl
path_down-append (first ∷ below) name above path = path_down-append below name above (first.bytes ∷ path)

pub is_below_common : (way : List FlatName) (one two : List (List ℕ)) → is_below (path_down way one) (path_down way two) ≡ is_below one two
is_below_common [] one two = refl
is_below_common (name ∷ way) one two =
    is_below_common way (name.bytes ∷ one) (name.bytes ∷ two) ∙ ap (λ b. b && is_below one two) (bytes_eq_same name.bytes name.bytes refl)

pub is_below_none : (way : List FlatName) (bytes : List ℕ) (path : List (List ℕ)) → is_below [] (path_down way (bytes ∷ path)) ≡ true
is_below_none [] bytes path = refl
is_below_none (name ∷ way) bytes path = is_below_none way name.bytes (bytes ∷ path)

-- what is known of the slot at the end of a walk
pub record EndsAtSlot (sub : Subvolume) (dir : ℕ) (bytes : List ℕ) (there : Option FlatName) (path : List (List ℕ)) : Type 0 where
  pub way : List FlatName
  pub up : LeadsUp sub.names dir way
  pub spelled : path_down way (bytes ∷ []) ≡ path
  pub is_dir : is_dir_at sub dir ≡ true
  pub found : there ≡ name_in_slot sub.names dir bytes

abbrev there_of : WalkEnd → Option FlatName
there_of AtRoot = None
there_of (AtSlot dir bytes there) = there
there_of Missing = None
there_of Blocked = None

abbrev is_slot : WalkEnd → Bool
is_slot AtRoot = false
is_slot (AtSlot dir bytes there) = true
is_slot Missing = false
is_slot Blocked = false

pub walk_from_slot : (sub : Subvolume) (start : ℕ) (way : List FlatName) (first : List ℕ) (path : List (List ℕ)) → LeadsUp sub.names start way → (dir : ℕ) (bytes : List ℕ) (there : Option FlatName) → walk_from sub start first path ≡ AtSlot dir bytes there → EndsAtSlot sub dir bytes there (path_down way (first ∷ path))
walk_from_slot sub start way first [] up dir bytes there e =
    elim (is_dir_at sub start) as (λ b. is_dir_at sub start ≡ b → cond b (AtSlot start first (name_in_slot sub.names start first)) Blocked ≡ AtSlot dir bytes there → EndsAtSlot sub dir bytes there (path_down way (first ∷ []))) [
      | true ↦ λ is_dir s.
          let same_dir : start ≡ dir = ap dir_of s in
          let same_bytes : first ≡ bytes = ap bytes_of s in
          record {
            way = way;
            up = subst (λ d. LeadsUp sub.names d way) same_dir up;
            spelled = ap (λ b. path_down way (b ∷ [])) (sym same_bytes);
            is_dir = subst (λ d. is_dir_at sub d ≡ true) same_dir is_dir;
            found = sym (ap there_of s) ∙ (λ i. name_in_slot sub.names (same_dir i) (same_bytes i));
          }
      | false ↦ λ _ s. absurd (true≢false (sym (ap is_slot s)))
    ] refl e
walk_from_slot sub start way first (next ∷ path) up dir bytes there e =
    elim (is_dir_at sub start) as (λ b. cond b (elim (name_in_slot sub.names start first) [ None ↦ Missing | Some name ↦ walk_from sub name.ino next path ]) Blocked ≡ AtSlot dir bytes there → EndsAtSlot sub dir bytes there (path_down way (first ∷ next ∷ path))) [
      | true ↦ λ s. elim (name_in_slot sub.names start first) as (λ o. name_in_slot sub.names start first ≡ o → (elim o [ None ↦ Missing | Some name ↦ walk_from sub name.ino next path ]) ≡ AtSlot dir bytes there → EndsAtSlot sub dir bytes there (path_down way (first ∷ next ∷ path))) [
        | None ↦ λ _ t. absurd (true≢false (sym (ap is_slot t)))
        | Some name ↦ λ found t.
            let member = find_some (is_in_slot start first) sub.names name found in
            let slot = is_in_slot_gives start first name member.1 in
            let rest = walk_from_slot sub name.ino (name ∷ way) next path (member.0, refl, subst (λ d. LeadsUp sub.names d way) (sym slot.0) up) dir bytes there t in
            record {
              way = rest.way;
              up = rest.up;
              spelled = rest.spelled ∙ ap (λ b. path_down way (b ∷ next ∷ path)) slot.1;
              is_dir = rest.is_dir;
              found = rest.found;
            }
      ] refl s
      | false ↦ λ s. absurd (true≢false (sym (ap is_slot s)))
    ] e

pub walk_slot : (sub : Subvolume) (path : List (List ℕ)) (dir : ℕ) (bytes : List ℕ) (there : Option FlatName) → walk sub path ≡ AtSlot dir bytes there → EndsAtSlot sub dir bytes there path
walk_slot sub [] dir bytes there e = absurd (true≢false (sym (ap is_slot e)))
walk_slot sub (first ∷ path) dir bytes there e = walk_from_slot sub 256 [] first path refl dir bytes there e

-- where one path doesn't go on below another, the way up from its directory doesn't meet the other's name
pub way_avoids : (sub : Subvolume) → IsCoherent sub → (upper lower : List (List ℕ)) (name : FlatName) (dir : ℕ) (bytes : List ℕ) (there : Option FlatName)
    → EndsAtSlot sub name.dir name.bytes (Some name) upper → EndsAtSlot sub dir bytes there lower → is_below upper lower ≡ false
    → (way : List FlatName) → LeadsUp sub.names dir way → Contains way name → ⊥
way_avoids sub coherent upper lower name dir bytes there at_name at_lower apart way up on_way =
    let parts = split_around way name on_way in
    let above = way_above sub.names dir parts.0 name parts.1 (subst (λ w. LeadsUp sub.names dir w) parts.2 up) in
    let same_above = way_once sub coherent name.dir name.dir parts.1 at_name.way refl (dir_of_name sub coherent name above.1) above.0 at_name.up in
    let same_way = way_once sub coherent dir dir at_lower.way way refl at_lower.is_dir at_lower.up up in
    let lower_is : lower ≡ path_down parts.1 (name.bytes ∷ path_down parts.0 (bytes ∷ [])) =
    sym at_lower.spelled ∙ ap (λ w. path_down w (bytes ∷ [])) (same_way ∙ parts.2) ∙ path_down-append parts.0 name parts.1 (bytes ∷ []) in
    let upper_is : upper ≡ path_down parts.1 (name.bytes ∷ []) = sym at_name.spelled ∙ ap (λ w. path_down w (name.bytes ∷ [])) (sym same_above) in
    let below : is_below upper lower ≡ true =
    (λ i. is_below (upper_is i) (lower_is i)) ∙ is_below_common parts.1 (name.bytes ∷ []) (name.bytes ∷ path_down parts.0 (bytes ∷ []))
    ∙ ap (λ b. b && is_below [] (path_down parts.0 (bytes ∷ []))) (bytes_eq_same name.bytes name.bytes refl) ∙ is_below_none parts.0 bytes [] in
    true≢false (sym below ∙ apart)
