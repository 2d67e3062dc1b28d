-- Paths that go on by one name.
use Rattle.std.proofs.Common.{◌≡◌, ℕ, Bool, true, false, cond, List, [], ◌∷◌, ◌++◌, Some, None, refl, ap}
use Rattle.flat_model.specs.Coherent.{IsCoherent}
use Rattle.flat_model.specs.Names.{name_in_slot}
use Rattle.flat_model.specs.Volume.{Subvolume, is_dir_at}
use Rattle.flat_model.specs.Walk.{AtSlot, Missing, Blocked, walk, walk_from}
use Rattle.name_walk.specs.Leads.{next_end, slot_end}

walk_from_more : (sub : Subvolume) (dir : ℕ) (bytes : List ℕ) (path : List (List ℕ)) (last : List ℕ) → walk_from sub dir bytes (path ++ last ∷ []) ≡ next_end sub (walk_from sub dir bytes path) last
walk_from_more sub dir bytes [] last =
    elim (is_dir_at sub dir) as (λ b. cond b (elim (name_in_slot sub.names dir bytes) [ None ↦ Missing | Some name ↦ walk_from sub name.ino last [] ]) Blocked ≡ next_end sub (cond b (AtSlot dir bytes (name_in_slot sub.names dir bytes)) Blocked) last) [
      | true ↦ elim (name_in_slot sub.names dir bytes) as (λ o. elim o [ None ↦ Missing | Some name ↦ walk_from sub name.ino last [] ] ≡ next_end sub (AtSlot dir bytes o) last) [ None ↦ refl | Some name ↦ refl ]
      | false ↦ refl
    ]
walk_from_more sub dir bytes (next ∷ path) last =
    elim (is_dir_at sub dir) as (λ b. cond b (elim (name_in_slot sub.names dir bytes) [ None ↦ Missing | Some name ↦ walk_from sub name.ino next (path ++ last ∷ []) ]) Blocked ≡ next_end sub (cond b (elim (name_in_slot sub.names dir bytes) [ None ↦ Missing | Some name ↦ walk_from sub name.ino next path ]) Blocked) last) [
      | true ↦ elim (name_in_slot sub.names dir bytes) as (λ o. elim o [ None ↦ Missing | Some name ↦ walk_from sub name.ino next (path ++ last ∷ []) ] ≡ next_end sub (elim o [ None ↦ Missing | Some name ↦ walk_from sub name.ino next path ]) last) [ None ↦ refl | Some name ↦ walk_from_more sub name.ino next path last ]
      | false ↦ refl
    ]

-- a path by one name longer
pub walk_more : (sub : Subvolume) → IsCoherent sub → (path : List (List ℕ)) (last : List ℕ) → walk sub (path ++ last ∷ []) ≡ next_end sub (walk sub path) last
walk_more sub coherent [] last = ap (λ (b : Bool). cond b (slot_end sub 256 last) Blocked) coherent.root_is_dir
walk_more sub coherent (first ∷ path) last = walk_from_more sub 256 first path last
