-- Where a name is put among others in the order of their bytes.
use Rattle.std.proofs.Common.{◌≡◌, ℕ, zero, suc, ◌<◌, ◌≤◌, ◌+◌, true, false, cond, List, [], ◌∷◌, map, set, length, drop, get_or, refl, sym, ap, ◌∙◌, arith}
use Rattle.std.specs.declared.cmp.Ordering.TheVariants.{Less, Equal, Greater}
use Rattle.std.specs.Ordering.{nat_cmp, match_ordering}
use Rattle.std.specs.Bool.{nat_eq}
use Rattle.std.specs.Cmp.Lexicographic.{slice_cmp, nat_list_cmp_total}
use Rattle.std.specs.List.{insert, filter}
use Rattle.std.specs.FinMap.{entries, from_entries, entries-insert, empty, len-entries, len-empty}
use Rattle.std.specs.FinMap.Entries.{put, by_order}
use Rattle.std.proofs.lemmas.Bool.{true≢false}
use Rattle.flat_model.proofs.Maps.{no_length}
use Rattle.flat_model.specs.declared.view.NameAt.{NameAt}
use Rattle.volume_listing.specs.Order.{place_in, has_bytes, ordered}

-- the names from a place on decide where another stands
pub record SoughtAt (bytes : List ℕ) (all : List (List ℕ × ℕ)) (place : ℕ) : Type 0 where
  pub behind : place_in bytes all ≡ place + place_in bytes (drop place all)
  pub there : has_bytes bytes all ≡ has_bytes bytes (drop place all)

pub sought_start : (bytes : List ℕ) (all : List (List ℕ × ℕ)) → SoughtAt bytes all 0
sought_start bytes all = record { behind = omega arith; there = refl }

pub sought_end : (bytes : List ℕ) (all : List (List ℕ × ℕ)) (place : ℕ) → SoughtAt bytes all place → drop place all ≡ [] → (place ≡ place_in bytes all) × (false ≡ has_bytes bytes all)
sought_end bytes all place sought none =
    let here = ap (place_in bytes) none in
    (omega (arith, sought.behind, here), sym (sought.there ∙ ap (has_bytes bytes) none))

module _ (bytes : List ℕ) (all : List (List ℕ × ℕ)) (place : ℕ) (head : List ℕ × ℕ) (rest : List (List ℕ × ℕ)) (sought : SoughtAt bytes all place) (is : drop place all ≡ head ∷ rest) where
  pub sought_less : Less ≡ slice_cmp nat_cmp bytes head.0 → (place ≡ place_in bytes all) × (false ≡ has_bytes bytes all)
  sought_less e =
      let here : place_in bytes (drop place all) ≡ 0 = ap (place_in bytes) is ∙ ap (λ o. match_ordering o 0 0 (suc (place_in bytes rest))) (sym e) in
      (omega (arith, sought.behind, here), sym (sought.there ∙ ap (has_bytes bytes) is ∙ ap (λ o. match_ordering o false true (has_bytes bytes rest)) (sym e)))

  pub sought_equal : Equal ≡ slice_cmp nat_cmp bytes head.0 → (place ≡ place_in bytes all) × (true ≡ has_bytes bytes all)
  sought_equal e =
      let here : place_in bytes (drop place all) ≡ 0 = ap (place_in bytes) is ∙ ap (λ o. match_ordering o 0 0 (suc (place_in bytes rest))) (sym e) in
      (omega (arith, sought.behind, here), sym (sought.there ∙ ap (has_bytes bytes) is ∙ ap (λ o. match_ordering o false true (has_bytes bytes rest)) (sym e)))

  pub sought_more : Greater ≡ slice_cmp nat_cmp bytes head.0 → drop (place + 1) all ≡ rest → SoughtAt bytes all (place + 1)
  sought_more e next =
      let here : place_in bytes (drop place all) ≡ suc (place_in bytes rest) = ap (place_in bytes) is ∙ ap (λ o. match_ordering o 0 0 (suc (place_in bytes rest))) (sym e) in
      let later = ap (place_in bytes) next in
      record {
        behind = omega (arith, sought.behind, here, later);
        there = sought.there ∙ ap (has_bytes bytes) is ∙ ap (λ o. match_ordering o false true (has_bytes bytes rest)) (sym e) ∙ ap (has_bytes bytes) (sym next);
      }

-- ---- one put among them

pub put_absent : (bytes : List ℕ) (ino : ℕ) (all : List (List ℕ × ℕ)) → has_bytes bytes all ≡ false → put (slice_cmp nat_cmp) bytes ino all ≡ insert all (place_in bytes all) (bytes, ino)
put_absent bytes ino [] absent = refl
put_absent bytes ino (e ∷ es) absent =
    elim (slice_cmp nat_cmp bytes e.0) as (λ o. match_ordering o false true (has_bytes bytes es) ≡ false → by_order o ((bytes, ino) ∷ e ∷ es) ((e.0, ino) ∷ es) (e ∷ put (slice_cmp nat_cmp) bytes ino es) ≡ insert (e ∷ es) (match_ordering o 0 0 (suc (place_in bytes es))) (bytes, ino)) [
      | Less ↦ λ a. refl
      | Equal ↦ λ a. absurd (true≢false a)
      | Greater ↦ λ a. ap (λ (l : List (List ℕ × ℕ)). e ∷ l) (put_absent bytes ino es a)
    ] absent

pub put_present : (bytes : List ℕ) (ino : ℕ) (all : List (List ℕ × ℕ)) (d : List ℕ × ℕ) → has_bytes bytes all ≡ true → put (slice_cmp nat_cmp) bytes ino all ≡ set all (place_in bytes all) ((get_or all (place_in bytes all) d).0, ino)
put_present bytes ino [] d there = absurd (true≢false (sym there))
put_present bytes ino (e ∷ es) d there =
    elim (slice_cmp nat_cmp bytes e.0) as (λ o. match_ordering o false true (has_bytes bytes es) ≡ true → by_order o ((bytes, ino) ∷ e ∷ es) ((e.0, ino) ∷ es) (e ∷ put (slice_cmp nat_cmp) bytes ino es) ≡ set (e ∷ es) (match_ordering o 0 0 (suc (place_in bytes es))) ((get_or (e ∷ es) (match_ordering o 0 0 (suc (place_in bytes es))) d).0, ino)) [
      | Less ↦ λ a. absurd (true≢false (sym a))
      | Equal ↦ λ a. refl
      | Greater ↦ λ a. ap (λ (l : List (List ℕ × ℕ)). e ∷ l) (put_present bytes ino es d a)
    ] there

pub place_within : (bytes : List ℕ) (all : List (List ℕ × ℕ)) → place_in bytes all ≤ length all
place_within bytes [] = omega arith
place_within bytes (e ∷ es) =
    let rest = place_within bytes es in
    elim (slice_cmp nat_cmp bytes e.0) as (λ o. match_ordering o 0 0 (suc (place_in bytes es)) ≤ suc (length es)) [ Less ↦ omega arith | Equal ↦ omega arith | Greater ↦ omega (arith, rest) ]

pub place_below : (bytes : List ℕ) (all : List (List ℕ × ℕ)) → has_bytes bytes all ≡ true → place_in bytes all < length all
place_below bytes [] there = absurd (true≢false (sym there))
place_below bytes (e ∷ es) there =
    elim (slice_cmp nat_cmp bytes e.0) as (λ o. match_ordering o false true (has_bytes bytes es) ≡ true → match_ordering o 0 0 (suc (place_in bytes es)) < suc (length es)) [
      | Less ↦ λ a. omega arith
      | Equal ↦ λ a. omega arith
      | Greater ↦ λ a. let rest = place_below bytes es a in omega (arith, rest)
    ] there

-- ---- names put one after the other

pub no_entries : (X : Type 0) → entries (empty {X = X} {R = slice_cmp nat_cmp}) ≡ []
no_entries X = no_length _ (sym (len-entries (empty {X = X} {R = slice_cmp nat_cmp})) ∙ len-empty (slice_cmp nat_cmp) X)

pub ordered_none : (dir : ℕ) → ordered dir [] ≡ []
ordered_none dir = no_entries ℕ

pub ordered_more : (dir : ℕ) (at : NameAt) (rest : List NameAt) → ordered dir (at ∷ rest) ≡ cond (nat_eq at.dir.0 dir) (put (slice_cmp nat_cmp) at.name at.ino.0 (ordered dir rest)) (ordered dir rest)
ordered_more dir at rest =
    let others : List NameAt = filter (λ (at : NameAt). nat_eq at.dir.0 dir) rest in
    elim (nat_eq at.dir.0 dir) as (λ b. entries (from_entries {R = slice_cmp nat_cmp} (map (λ (at : NameAt). (at.name, at.ino.0)) (cond b (at ∷ others) others))) ≡ cond b (put (slice_cmp nat_cmp) at.name at.ino.0 (ordered dir rest)) (ordered dir rest)) [
      | true ↦ entries-insert nat_list_cmp_total _ at.name at.ino.0
      | false ↦ refl
    ]

-- ---- the elements from a place on

pub drop_at : {X : Type 0} (xs : List X) (place : ℕ) (x : X) → place < length xs → x ≡ get_or xs place x → drop place xs ≡ x ∷ drop (suc place) xs
drop_at [] place x below is = absurd (omega arith)
drop_at (first ∷ xs) zero x below is = ap (λ y. y ∷ xs) (sym is)
drop_at (first ∷ xs) (suc place) x below is = drop_at xs place x (omega arith) is

pub drop_past : {X : Type 0} (xs : List X) (place : ℕ) → length xs ≤ place → drop place xs ≡ []
drop_past [] zero past = refl
drop_past [] (suc place) past = refl
drop_past (x ∷ xs) zero past = absurd (omega arith)
drop_past (x ∷ xs) (suc place) past = drop_past xs place (omega arith)
