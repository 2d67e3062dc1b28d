-- The names in a directory with a hash are those in the slots of their entries.
use Rattle.std.proofs.Common.{◌≡◌, ℕ, List, [], ◌∷◌, map, Contains, IsPermutation, refl, ap, subst}
use Rattle.std.specs.Prelude.{All}
use Rattle.std.proofs.lemmas.List.Elements.{All-cons, All-nil}
use Rattle.std.proofs.lemmas.Bool.{and_parts, eqb-true}
use Rattle.volume_image.proofs.Reaches.{head_in, tail_in}
use Rattle.std.proofs.lemmas.List.Sorted.{IsPermutation-map, IsPermutation-sym}
use Rattle.blk_base.specs.Entries.{EntryValue}
use Rattle.flat_model.specs.Coherent.{IsCoherent}
use Rattle.flat_model.specs.declared.view.NameAt.{NameAt}
use Rattle.flat_model.specs.Names.{FlatName, hashed_of, is_hashed_in}
use Rattle.flat_model.specs.Unmarked.{unmarked}
use Rattle.flat_model.specs.Volume.{Subvolume}
use Rattle.volume_image.specs.Subvolume.{entry_of, hashed_asked, without_transid}
use Rattle.volume_image.proofs.Members.{in_filter}
use Rattle.name_walk.specs.Leads.{LeadsTo}
use Rattle.name_walk.proofs.InSlots.{entry_found, name_is_in_slot}
use Rattle.current_view.specs.Told.{held_told, slot_told}

-- the transid says nothing of the name
told_without : (sub : Subvolume) (dir : ℕ) (found : List EntryValue) → map (held_told sub dir) (map without_transid found) ≡ map (held_told sub dir) found
told_without sub dir [] = refl
told_without sub dir (e ∷ found) = ap (λ (xs : List NameAt). held_told sub dir e ∷ xs) (told_without sub dir found)

told_names : (sub : Subvolume) → IsCoherent sub → (dir : ℕ) (names : List FlatName) → ((name : FlatName) → Contains names name → Contains sub.names name × (name.dir ≡ dir))
    → map (held_told sub dir) (map (entry_of sub) names) ≡ map unmarked names
told_names sub coherent dir [] has = refl
told_names sub coherent dir (name ∷ names) has =
    let here = has name (head_in name names) in
    let slot = name_is_in_slot sub coherent dir name.bytes name here.0 here.1 refl in
    λ k. ap (slot_told dir (entry_of sub name)) slot k ∷ told_names sub coherent dir names (λ other c. has other (tail_in name other names c)) k

pub hashed_are : (sub : Subvolume) → IsCoherent sub → (dir hash : ℕ) (found : List EntryValue) → IsPermutation (map without_transid found) (hashed_asked sub dir hash)
    → IsPermutation (map unmarked (hashed_of sub.names dir hash)) (map (held_told sub dir) found)
hashed_are sub coherent dir hash found same =
    let over = IsPermutation-map (held_told sub dir) (map without_transid found) (hashed_asked sub dir hash) same in
    let names = told_names sub coherent dir (hashed_of sub.names dir hash) (λ name c.
    let kept = in_filter (is_hashed_in dir hash) sub.names name c in
    (kept.0, eqb-true name.dir dir (and_parts _ _ kept.1).0)) in
    IsPermutation-sym (map (held_told sub dir) found) (map unmarked (hashed_of sub.names dir hash))
    (subst (IsPermutation (map (held_told sub dir) found)) names (subst (λ (xs : List NameAt). IsPermutation xs (map (held_told sub dir) (hashed_asked sub dir hash))) (told_without sub dir found) over))

-- each entry leads to the inode of the name in its slot
pub entry_leads : (sub : Subvolume) → IsCoherent sub → (dir hash : ℕ) (found : List EntryValue) → IsPermutation (map without_transid found) (hashed_asked sub dir hash)
    → (e : EntryValue) → Contains found e → (name : FlatName) × LeadsTo sub dir e.name e.target.objectid name
entry_leads sub coherent dir hash found same e c =
    let name = entry_found sub coherent dir hash found same e c in
    (name.0, record { there = name.1; leads = ap (λ (x : EntryValue). x.target.objectid) name.2 })

-- the name that an entry tells is the one in its slot
pub held_is : (sub : Subvolume) (dir : ℕ) (e : EntryValue) (name : FlatName) → LeadsTo sub dir e.name e.target.objectid name → held_told sub dir e ≡ unmarked name
held_is sub dir e name leads = ap (slot_told dir e) leads.there

pub all_from : {X : Type 0} {P : X → Type 0} (xs : List X) → ((x : X) → Contains xs x → P x) → All P xs
all_from {P = P} [] each = All-nil P
all_from {P = P} (x ∷ xs) each = All-cons P x xs (each x (head_in x xs)) (all_from xs (λ y c. each y (tail_in x y xs c)))
