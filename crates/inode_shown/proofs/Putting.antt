-- Entries that are put one behind the other are those of a map.
use Rattle.std.proofs.Common.{◌≡◌, ◌⊎◌, ℕ, List, [], ◌∷◌, ◌++◌, map, Contains, Some, refl, sym, ap, subst, ◌∙◌, inl, inr}
use Rattle.std.proofs.lemmas.List.{map-append}
use Rattle.std.specs.BTreeMap.{insert_entry}
use Rattle.std.specs.declared.cmp.Ordering.TheVariants.{Less, Equal, Greater}
use Rattle.std.specs.Ordering.{nat_cmp, match_ordering}
use Rattle.std.specs.Cmp.Lexicographic.{slice_cmp, nat_list_cmp_total}
use Rattle.std.specs.FinMap.{FinMap, entries, entries-insert, from_entries, get}
use Rattle.std.specs.FinMap.Entries.{put, by_order}
use Rattle.volume_image.proofs.Lists.{in_nothing, in_cons}
use Rattle.volume_image.proofs.Reaches.{head_in, tail_in}
use Rattle.image_faults.specs.Lists.{gives_map}
use Rattle.image_faults.proofs.OfInodes.{bytes_one}
use Rattle.volume_listing.proofs.Places.{no_entries}
use Rattle.inode_shown.specs.Putting.{all_put}

pub put_both : {V : Type 0} (old first second : List (List ℕ × V)) → all_put old (first ++ second) ≡ all_put (all_put old first) second
put_both old [] second = refl
put_both old (one ∷ first) second = put_both (put (slice_cmp nat_cmp) one.0 one.1 old) first second

-- what an insertion into a map makes of its entries
pub inserted_is_put : {V : Type 0} (es : List (List ℕ × V)) (k : List ℕ) (v : V) → insert_entry (slice_cmp nat_cmp) es k v ≡ put (slice_cmp nat_cmp) k v es
inserted_is_put [] k v = refl
inserted_is_put {V} (e ∷ es) k v =
    elim (slice_cmp nat_cmp k e.0) as (λ o. match_ordering o ((k, v) ∷ e ∷ es) ((e.0, v) ∷ es) (e ∷ insert_entry (slice_cmp nat_cmp) es k v) ≡ by_order o ((k, v) ∷ e ∷ es) ((e.0, v) ∷ es) (e ∷ put (slice_cmp nat_cmp) k v es)) [
      | Less ↦ refl
      | Equal ↦ refl
      | Greater ↦ ap (λ (l : List (List ℕ × V)). e ∷ l) (inserted_is_put es k v)
    ]

-- one entry more, put into a map behind others
pub pushed : {X V : Type 0} (f : X → List ℕ × V) (xs : List X) (x : X) (old new : List (List ℕ × V)) → old ≡ all_put [] (map f xs) → new ≡ insert_entry (slice_cmp nat_cmp) old (f x).0 (f x).1 → new ≡ all_put [] (map f (xs ++ x ∷ []))
pushed {X} {V} f xs x old new before now =
    now ∙ inserted_is_put old (f x).0 (f x).1 ∙ ap (put (slice_cmp nat_cmp) (f x).0 (f x).1) before
    ∙ sym (ap (λ (es : List (List ℕ × V)). all_put [] es) (map-append f xs (x ∷ [])) ∙ put_both [] (map f xs) (f x ∷ []))

-- entries in turned order in front of others
abbrev turned : {V : Type 0} → List (List ℕ × V) → List (List ℕ × V) → List (List ℕ × V)
turned [] behind = behind
turned (one ∷ more) behind = turned more (one ∷ behind)

put_onto : {V : Type 0} (more behind : List (List ℕ × V)) → all_put (entries (from_entries {R = slice_cmp nat_cmp} behind)) more ≡ entries (from_entries {R = slice_cmp nat_cmp} (turned more behind))
put_onto [] behind = refl
put_onto {V} (one ∷ more) behind =
    ap (λ (es : List (List ℕ × V)). all_put es more) (sym (entries-insert nat_list_cmp_total (from_entries behind) one.0 one.1)) ∙ put_onto more (one ∷ behind)

all_put_is : {V : Type 0} (more : List (List ℕ × V)) → all_put [] more ≡ entries (from_entries {R = slice_cmp nat_cmp} (turned more []))
all_put_is {V} more = ap (λ (es : List (List ℕ × V)). all_put es more) (sym (no_entries V)) ∙ put_onto more []

in_either : {V : Type 0} (more behind : List (List ℕ × V)) (x : List ℕ × V) → Contains (turned more behind) x → Contains more x ⊎ Contains behind x
in_either [] behind x c = inr c
in_either {V} (one ∷ more) behind x c = elim (in_either more (one ∷ behind) x c) [
  | inl later ↦ inl (tail_in one x more later)
  | inr now ↦ elim (in_cons one x behind now) [
    | inl here ↦ inl (subst (λ (z : List ℕ × V). Contains (one ∷ more) z) here (head_in one more))
    | inr there ↦ inr there
  ]
]

behind_in : {V : Type 0} (more behind : List (List ℕ × V)) (x : List ℕ × V) → Contains behind x → Contains (turned more behind) x
behind_in [] behind x c = c
behind_in (one ∷ more) behind x c = behind_in more (one ∷ behind) x (tail_in one x behind c)

more_in : {V : Type 0} (more behind : List (List ℕ × V)) (x : List ℕ × V) → Contains more x → Contains (turned more behind) x
more_in [] behind x c = absurd (in_nothing x c)
more_in {V} (one ∷ more) behind x c = elim (in_cons one x more c) [
  | inl here ↦ behind_in more (one ∷ behind) x (subst (λ (z : List ℕ × V). Contains (one ∷ behind) z) here (head_in one behind))
  | inr there ↦ more_in more (one ∷ behind) x there
]

-- where they are those of a map, in any order, the map's entries come of them
pub put_gives : {V : Type 0} (more : List (List ℕ × V)) (m : FinMap (slice_cmp nat_cmp) V) → ((k : List ℕ) (v : V) → Contains more (k, v) → get m k ≡ Some v) → ((k : List ℕ) (v : V) → get m k ≡ Some v → Contains more (k, v))
    → all_put [] more ≡ entries m
put_gives more m there back =
    all_put_is more
    ∙ ap entries (gives_map nat_list_cmp_total bytes_one (turned more []) m
    (λ k v c. elim (in_either more [] (k, v) c) [ inl is ↦ there k v is | inr none ↦ absurd (in_nothing (k, v) none) ])
    (λ k v h. more_in more [] (k, v) (back k v h)))
