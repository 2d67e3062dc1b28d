-- Facts on walks.
use Rattle.std.proofs.Common.{◌≡◌, ℕ, zero, suc, ◌<◌, Bool, true, false, cond, ◌&&◌, List, [], ◌∷◌, ◌++◌, ◌-◌, length, get_or, Option, Some, None, refl, sym, ap, subst, ◌∙◌, arith}
use Rattle.std.specs.Bool.{nat_eq}
use Rattle.std.specs.Str.{bytes_eq}
use Rattle.std.specs.List.{position}
use Rattle.flat_model.specs.declared.view.NameAt.{NameAt}
use Rattle.flat_sub.specs.declared.walk.End.TheVariants as ends
use Rattle.flat_model.specs.Names.{FlatName, name_in_slot}
use Rattle.flat_model.specs.Volume.{Subvolume, is_dir_at}
use Rattle.flat_model.specs.Walk.{WalkEnd, AtRoot, AtSlot, Missing, Blocked, walk, walk_from, bytes_of}
use Rattle.flat_sub.specs.Ends.{IsEnd, slot_end, next_end}
use Rattle.flat_sub.specs.Lists.{last_of}
use Rattle.flat_sub.specs.View.{name_view, names_view, sub_view, IsWellKept}
use Rattle.flat_record.proofs.Tables.{FirstAt, NonePasses, position_first, position_none, position_below}
use Rattle.flat_sub.proofs.Placed.{drop_view}
use Rattle.flat_sub.specs.declared.sub.FlatSub.{FlatSub}

-- whether a name as the code keeps it stands in a slot
abbrev pub in_slot : ℕ → List ℕ → NameAt → Bool
in_slot dir bytes at = nat_eq at.dir.0 dir && bytes_eq at.name bytes

pub slot_first : (dir : ℕ) (bytes : List ℕ) (ats : List NameAt) (nears : List Bool) (i : ℕ) (at : NameAt) (near : Bool) → length nears ≡ length ats → FirstAt (in_slot dir bytes) ats i → at ≡ get_or ats i at → near ≡ get_or nears i near → name_in_slot (names_view ats nears) dir bytes ≡ Some (name_view at near)
slot_first dir bytes [] nears i at near same first at_is near_is = absurd first
slot_first dir bytes (one ∷ ats) [] i at near same first at_is near_is = absurd (omega arith)
slot_first dir bytes (one ∷ ats) (mark ∷ nears) zero at near same first at_is near_is =
    ap (λ b. cond b (Some (name_view one mark)) (name_in_slot (names_view ats nears) dir bytes)) first ∙ (λ i. Some (name_view (sym at_is i) (sym near_is i)))
slot_first dir bytes (one ∷ ats) (mark ∷ nears) (suc i) at near same first at_is near_is =
    ap (λ b. cond b (Some (name_view one mark)) (name_in_slot (names_view ats nears) dir bytes)) first.0 ∙ slot_first dir bytes ats nears i at near (omega arith) first.1 at_is near_is

pub slot_nowhere : (dir : ℕ) (bytes : List ℕ) (ats : List NameAt) (nears : List Bool) → NonePasses (in_slot dir bytes) ats → name_in_slot (names_view ats nears) dir bytes ≡ None
slot_nowhere dir bytes [] nears none = refl
slot_nowhere dir bytes (one ∷ ats) [] none = refl
slot_nowhere dir bytes (one ∷ ats) (mark ∷ nears) none =
    ap (λ b. cond b (Some (name_view one mark)) (name_in_slot (names_view ats nears) dir bytes)) none.0 ∙ slot_nowhere dir bytes ats nears none.1

walk_from_more : (sub : Subvolume) (dir : ℕ) (bytes : List ℕ) (path : List (List ℕ)) (last : List ℕ) → walk_from sub dir bytes (path ++ last ∷ []) ≡ next_end sub (walk_from sub dir bytes path) last
walk_from_more sub dir bytes [] last =
    elim (is_dir_at sub dir) as (λ b. cond b (elim (name_in_slot sub.names dir bytes) [ None ↦ Missing | Some name ↦ walk_from sub name.ino last [] ]) Blocked ≡ next_end sub (cond b (AtSlot dir bytes (name_in_slot sub.names dir bytes)) Blocked) last) [
      | true ↦ elim (name_in_slot sub.names dir bytes) as (λ o. elim o [ None ↦ Missing | Some name ↦ walk_from sub name.ino last [] ] ≡ next_end sub (AtSlot dir bytes o) last) [ None ↦ refl | Some name ↦ refl ]
      | false ↦ refl
    ]
walk_from_more sub dir bytes (next ∷ path) last =
    elim (is_dir_at sub dir) as (λ b. cond b (elim (name_in_slot sub.names dir bytes) [ None ↦ Missing | Some name ↦ walk_from sub name.ino next (path ++ last ∷ []) ]) Blocked ≡ next_end sub (cond b (elim (name_in_slot sub.names dir bytes) [ None ↦ Missing | Some name ↦ walk_from sub name.ino next path ]) Blocked) last) [
      | true ↦ elim (name_in_slot sub.names dir bytes) as (λ o. elim o [ None ↦ Missing | Some name ↦ walk_from sub name.ino next (path ++ last ∷ []) ] ≡ next_end sub (elim o [ None ↦ Missing | Some name ↦ walk_from sub name.ino next path ]) last) [ None ↦ refl | Some name ↦ walk_from_more sub name.ino next path last ]
      | false ↦ refl
    ]

-- a path by one name longer
pub walk_more : (sub : Subvolume) (path : List (List ℕ)) (last : List ℕ) → walk sub (path ++ last ∷ []) ≡ next_end sub (walk sub path) last
walk_more sub [] last = refl
walk_more sub (first ∷ path) last = walk_from_more sub 256 first path last

nth_mark : (nears : List Bool) (i : ℕ) → i < length nears → (near : Bool) × (near ≡ get_or nears i near)
nth_mark [] i below = absurd (omega arith)
nth_mark (mark ∷ nears) zero below = (mark, refl)
nth_mark (mark ∷ nears) (suc i) below = nth_mark nears i (omega arith)

module _ (sub : FlatSub) (dir : ℕ) (bytes : List ℕ) (is_dir : is_dir_at (sub_view sub).sub dir ≡ true) where
  in_dir : (o : Option FlatName) → name_in_slot (names_view sub.names.items sub.near.items) dir bytes ≡ o → slot_end (sub_view sub).sub dir bytes ≡ AtSlot dir bytes o
  in_dir o is = ap (λ b. cond b (AtSlot dir bytes (name_in_slot (names_view sub.names.items sub.near.items) dir bytes)) Blocked) is_dir ∙ ap (AtSlot dir bytes) is

  pub slot_taken : (i : ℕ) (at : NameAt) → IsWellKept sub → position (in_slot dir bytes) sub.names.items ≡ Some i → at ≡ get_or sub.names.items i at → IsEnd (sub_view sub).sub.names (slot_end (sub_view sub).sub dir bytes) (ends.Taken dir i at.ino.0)
  slot_taken i at kept is at_is =
      let below = position_below (in_slot dir bytes) sub.names.items i is in
      let same = kept.marked in
      let mark = nth_mark sub.near.items i (omega (arith, below, same)) in
      let there = in_dir (Some (name_view at mark.0)) (slot_first dir bytes sub.names.items sub.near.items i at mark.0 same (position_first (in_slot dir bytes) sub.names.items i is) at_is mark.1) in
      record {
        name = name_view at mark.0;
        slot = there ∙ ap (λ e. AtSlot dir (bytes_of e) (Some (name_view at mark.0))) (sym there);
        leads = refl;
        place = drop_view sub.names.items sub.near.items i at mark.0 same below at_is mark.1;
      }

  pub slot_free : position (in_slot dir bytes) sub.names.items ≡ None → IsEnd (sub_view sub).sub.names (slot_end (sub_view sub).sub dir bytes) (ends.Free dir)
  slot_free is =
      let there = in_dir None (slot_nowhere dir bytes sub.names.items sub.near.items (position_none (in_slot dir bytes) sub.names.items is)) in
      there ∙ ap (λ e. AtSlot dir (bytes_of e) None) (sym there)

-- a slot at the end of a walk has the bytes of the path's last name
HasBytes : WalkEnd → List ℕ → Type 0
HasBytes AtRoot last = Unit {0}
HasBytes (AtSlot dir bytes there) last = bytes ≡ last
HasBytes Missing last = Unit {0}
HasBytes Blocked last = Unit {0}

walk_from_last : (sub : Subvolume) (dir : ℕ) (first : List ℕ) (path : List (List ℕ)) → HasBytes (walk_from sub dir first path) (last_of (first ∷ path))
unfolding HasBytes
walk_from_last sub dir first [] = elim (is_dir_at sub dir) as (λ b. HasBytes (cond b (AtSlot dir first (name_in_slot sub.names dir first)) Blocked) first) [ true ↦ refl | false ↦ tt ]
walk_from_last sub dir first (next ∷ path) =
    elim (is_dir_at sub dir) as (λ b. HasBytes (cond b (elim (name_in_slot sub.names dir first) [ None ↦ Missing | Some name ↦ walk_from sub name.ino next path ]) Blocked) (last_of (next ∷ path))) [
      | true ↦ elim (name_in_slot sub.names dir first) as (λ o. HasBytes (elim o [ None ↦ Missing | Some name ↦ walk_from sub name.ino next path ]) (last_of (next ∷ path))) [ None ↦ tt | Some name ↦ walk_from_last sub name.ino next path ]
      | false ↦ tt
    ]

pub slot_bytes : (sub : Subvolume) (path : List (List ℕ)) (dir : ℕ) (bytes : List ℕ) (there : Option FlatName) → walk sub path ≡ AtSlot dir bytes there → (0 < length path) × (bytes ≡ last_of path)
unfolding HasBytes
slot_bytes sub [] dir bytes there is = absurd (subst (λ w. elim w as (λ w. Type 0) [ AtRoot ↦ Unit {0} | AtSlot d b t ↦ ⊥ | Missing ↦ Unit {0} | Blocked ↦ Unit {0} ]) is tt)
slot_bytes sub (first ∷ path) dir bytes there is = (omega arith, subst (λ w. HasBytes w (last_of (first ∷ path))) is (walk_from_last sub 256 first path))

pub last_read : (path : List (List ℕ)) (name : List ℕ) → 0 < length path → name ≡ get_or path (length path - 1) name → name ≡ last_of path
last_read [] name some is = absurd (omega arith)
last_read (first ∷ []) name some is = is
last_read (first ∷ next ∷ path) name some is =
    let shorter : suc (suc (length path)) - 1 ≡ suc (suc (length path) - 1) = omega arith in
    last_read (next ∷ path) name (omega arith) (is ∙ ap (λ n. get_or (first ∷ next ∷ path) n name) shorter)
