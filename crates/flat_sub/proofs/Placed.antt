-- Where a name is put among others.
use Rattle.std.proofs.Common.{◌≡◌, ℕ, zero, suc, ◌<◌, ◌≤◌, ◌+◌, Bool, true, false, List, [], ◌∷◌, length, drop, get_or, refl, sym, ap, ◌∙◌, arith}
use Rattle.std.specs.declared.cmp.Ordering.TheVariants.{Less, Equal, Greater}
use Rattle.std.specs.Ordering.{match_ordering}
use Rattle.std.specs.List.{insert}
use Rattle.std.proofs.lemmas.Bool.{true≢false}
use Rattle.flat_model.specs.declared.view.NameAt.{NameAt}
use Rattle.flat_model.specs.Names.{FlatName, name_cmp, add_name}
use Rattle.flat_sub.specs.Building.{place_in, has_name}
use Rattle.flat_sub.specs.View.{name_view, names_view}

-- the names from a place on decide where another stands
pub record SoughtAt (new : FlatName) (all : List FlatName) (place : ℕ) : Type 0 where
  pub behind : place_in new all ≡ place + place_in new (drop place all)
  pub there : has_name new all ≡ has_name new (drop place all)

pub sought_start : (new : FlatName) (all : List FlatName) → SoughtAt new all 0
sought_start new all = record { behind = omega arith; there = refl }

pub sought_end : (new : FlatName) (all : List FlatName) (place : ℕ) → SoughtAt new all place → drop place all ≡ [] → (place ≡ place_in new all) × (false ≡ has_name new all)
sought_end new all place sought none =
    let here = ap (place_in new) none in
    (omega (arith, sought.behind, here), sym (sought.there ∙ ap (has_name new) none))

module _ (new : FlatName) (all : List FlatName) (place : ℕ) (head : FlatName) (rest : List FlatName) (sought : SoughtAt new all place) (is : drop place all ≡ head ∷ rest) where
  pub sought_less : Less ≡ name_cmp new head → (place ≡ place_in new all) × (false ≡ has_name new all)
  sought_less e =
      let here : place_in new (drop place all) ≡ 0 = ap (place_in new) is ∙ ap (λ o. match_ordering o 0 0 (suc (place_in new rest))) (sym e) in
      (omega (arith, sought.behind, here), sym (sought.there ∙ ap (has_name new) is ∙ ap (λ o. match_ordering o false true (has_name new rest)) (sym e)))

  pub sought_equal : Equal ≡ name_cmp new head → (place ≡ place_in new all) × (true ≡ has_name new all)
  sought_equal e =
      let here : place_in new (drop place all) ≡ 0 = ap (place_in new) is ∙ ap (λ o. match_ordering o 0 0 (suc (place_in new rest))) (sym e) in
      (omega (arith, sought.behind, here), sym (sought.there ∙ ap (has_name new) is ∙ ap (λ o. match_ordering o false true (has_name new rest)) (sym e)))

  pub sought_more : Greater ≡ name_cmp new head → drop (place + 1) all ≡ rest → SoughtAt new all (place + 1)
  sought_more e next =
      let here : place_in new (drop place all) ≡ suc (place_in new rest) = ap (place_in new) is ∙ ap (λ o. match_ordering o 0 0 (suc (place_in new rest))) (sym e) in
      let later = ap (place_in new) next in
      record {
        behind = omega (arith, sought.behind, here, later);
        there = sought.there ∙ ap (has_name new) is ∙ ap (λ o. match_ordering o false true (has_name new rest)) (sym e) ∙ ap (has_name new) (sym next);
      }

-- the name at a place, and those behind it
pub drop_view : (ats : List NameAt) (nears : List Bool) (place : ℕ) (at : NameAt) (near : Bool) → length nears ≡ length ats → place < length ats → at ≡ get_or ats place at → near ≡ get_or nears place near → drop place (names_view ats nears) ≡ name_view at near ∷ drop (suc place) (names_view ats nears)
drop_view [] nears place at near same below at_is near_is = absurd (omega arith)
drop_view (first ∷ ats) [] place at near same below at_is near_is = absurd (omega arith)
drop_view (first ∷ ats) (mark ∷ nears) zero at near same below at_is near_is = λ i. name_view (sym at_is i) (sym near_is i) ∷ names_view ats nears
drop_view (first ∷ ats) (mark ∷ nears) (suc place) at near same below at_is near_is = drop_view ats nears place at near (omega arith) (omega arith) at_is near_is

pub drop_view_end : (ats : List NameAt) (nears : List Bool) (place : ℕ) → length ats ≤ place → drop place (names_view ats nears) ≡ []
drop_view_end [] nears zero above = refl
drop_view_end [] nears (suc place) above = refl
drop_view_end (first ∷ ats) nears zero above = absurd (omega arith)
drop_view_end (first ∷ ats) [] (suc place) above = refl
drop_view_end (first ∷ ats) (mark ∷ nears) (suc place) above = drop_view_end ats nears place (omega arith)

-- ---- the set with a further name

pub add_absent : (new : FlatName) (all : List FlatName) → has_name new all ≡ false → add_name new all ≡ insert all (place_in new all) new
add_absent new [] absent = refl
add_absent new (other ∷ names) absent =
    elim (name_cmp new other) as (λ o. match_ordering o false true (has_name new names) ≡ false → match_ordering o (new ∷ other ∷ names) (other ∷ names) (other ∷ add_name new names) ≡ insert (other ∷ names) (match_ordering o 0 0 (suc (place_in new names))) new) [
      | Less ↦ λ e. refl
      | Equal ↦ λ e. absurd (true≢false e)
      | Greater ↦ λ e. ap (λ ns. other ∷ ns) (add_absent new names e)
    ] absent

pub add_present : (new : FlatName) (all : List FlatName) → has_name new all ≡ true → add_name new all ≡ all
add_present new [] there = absurd (true≢false (sym there))
add_present new (other ∷ names) there =
    elim (name_cmp new other) as (λ o. match_ordering o false true (has_name new names) ≡ true → match_ordering o (new ∷ other ∷ names) (other ∷ names) (other ∷ add_name new names) ≡ other ∷ names) [
      | Less ↦ λ e. absurd (true≢false (sym e))
      | Equal ↦ λ e. refl
      | Greater ↦ λ e. ap (λ ns. other ∷ ns) (add_present new names e)
    ] there

pub place_within : (new : FlatName) (all : List FlatName) → place_in new all ≤ length all
place_within new [] = omega arith
place_within new (other ∷ names) =
    let rest = place_within new names in
    elim (name_cmp new other) as (λ o. match_ordering o 0 0 (suc (place_in new names)) ≤ length (other ∷ names)) [ Less ↦ omega arith | Equal ↦ omega arith | Greater ↦ omega (arith, rest) ]

pub length_view : (ats : List NameAt) (nears : List Bool) → length nears ≡ length ats → length (names_view ats nears) ≡ length ats
length_view [] nears same = refl
length_view (first ∷ ats) [] same = absurd (omega arith)
length_view (first ∷ ats) (mark ∷ nears) same = omega (arith, length_view ats nears (omega arith))

pub insert_view : (ats : List NameAt) (nears : List Bool) (place : ℕ) (at : NameAt) (near : Bool) → length nears ≡ length ats → place ≤ length ats → names_view (insert ats place at) (insert nears place near) ≡ insert (names_view ats nears) place (name_view at near)
insert_view ats nears zero at near same within = refl
insert_view [] nears (suc place) at near same within = absurd (omega arith)
insert_view (first ∷ ats) [] (suc place) at near same within = absurd (omega arith)
insert_view (first ∷ ats) (mark ∷ nears) (suc place) at near same within = ap (λ ns. name_view first mark ∷ ns) (insert_view ats nears place at near (omega arith) (omega arith))
