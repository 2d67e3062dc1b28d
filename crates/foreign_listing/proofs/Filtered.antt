-- The rows of names whose directories weren't reached.
use Rattle.std.proofs.Common.{◌≡◌, ◌⊎◌, ◌++◌, ◌==◌, ℕ, Bool, true, false, not, List, [], ◌∷◌, filter, refl, sym, ap, ◌∙◌, inl, inr}
use Rattle.std.proofs.lemmas.Bool.{eqb-true, eq-eqb, true≢false}
use Rattle.std.proofs.lemmas.List.Elements.{Contains-append_left, Contains-append_right, Contains-append_cases}
use Rattle.disk_model.proofs.CrashLaws.{Contains-cons_cases, Contains-none}
use Rattle.foreign_items.specs.Rows.{NameValue}
use Rattle.foreign_tree.specs.Tree.{was_reached}
use Rattle.foreign_listing.specs.Names.{is_of, rows_beside, rows_of}
use Rattle.foreign_listing.specs.View.{left_of}
use Rattle.foreign_listing.proofs.Reaches.{head_in, not_in, not_reached, was_reached-in, was_reached-true}

pub either : (b : Bool) → (b ≡ true) ⊎ (b ≡ false)
either true = inl refl
either false = inr refl

pub filter_yes : {A : Type 0} (p : A → Bool) (x : A) (xs : List A) → p x ≡ true → filter p (x ∷ xs) ≡ x ∷ filter p xs
filter_yes p x xs is = rw is refl

pub filter_not : {A : Type 0} (p : A → Bool) (x : A) (xs : List A) → p x ≡ false → filter p (x ∷ xs) ≡ filter p xs
filter_not p x xs is = rw is refl

pub left_all : (rows : List NameValue) → rows ≡ left_of [] rows
left_all [] = refl
left_all (row ∷ rows) = ap (λ (rest : List NameValue). row ∷ rest) (left_all rows)

same_not : (b c : Bool) → b ≡ c → not b ≡ not c
same_not b c is = ap not is

-- a directory that wasn't reached has all its rows left
pub rows_fresh : (to : ℕ) (reached : List ℕ) (rows : List NameValue) → was_reached to reached ≡ false → rows_of to (left_of reached rows) ≡ rows_of to rows
rows_fresh to reached [] out = refl
rows_fresh to reached (row ∷ rows) out = elim (either (was_reached row.key.objectid reached)) [
  | inl gone ↦ (
      let other : is_of to row ≡ false = elim (either (is_of to row)) [
        | inl same ↦ absurd (true≢false (sym gone ∙ ap (λ (at : ℕ). was_reached at reached) (eqb-true row.key.objectid to same) ∙ out))
        | inr other ↦ other
      ] in
      ap (rows_of to) (filter_not (λ (row : NameValue). not (was_reached row.key.objectid reached)) row rows (same_not _ true gone))
      ∙ rows_fresh to reached rows out ∙ sym (filter_not (is_of to) row rows other)
      )
  | inr stays ↦ (
      ap (rows_of to) (filter_yes (λ (row : NameValue). not (was_reached row.key.objectid reached)) row rows (same_not _ false stays))
      ∙ elim (either (is_of to row)) [
        | inl same ↦ filter_yes (is_of to) row (left_of reached rows) same ∙ ap (λ (rest : List NameValue). row ∷ rest) (rows_fresh to reached rows out) ∙ sym (filter_yes (is_of to) row rows same)
        | inr other ↦ filter_not (is_of to) row (left_of reached rows) other ∙ rows_fresh to reached rows out ∙ sym (filter_not (is_of to) row rows other)
      ]
      )
]

still_reached : (at to : ℕ) (reached : List ℕ) → was_reached at reached ≡ true → was_reached at (reached ++ to ∷ []) ≡ true
still_reached at to reached gone = was_reached-in at (reached ++ to ∷ []) (Contains-append_left reached (to ∷ []) at (was_reached-true at reached gone))

now_reached : (at to : ℕ) (reached : List ℕ) → (at == to) ≡ true → was_reached at (reached ++ to ∷ []) ≡ true
now_reached at to reached same = was_reached-in at (reached ++ to ∷ []) (Contains-append_right reached (to ∷ []) at (rw (eqb-true at to same) (head_in to [])))

not_yet : (at to : ℕ) (reached : List ℕ) → was_reached at reached ≡ false → (at == to) ≡ false → was_reached at (reached ++ to ∷ []) ≡ false
not_yet at to reached out other = not_in at (reached ++ to ∷ []) (λ c. elim (Contains-append_cases reached (to ∷ []) at c) [
  | inl old ↦ not_reached at reached out old
  | inr new ↦ elim (Contains-cons_cases to [] at new) [ inl here ↦ absurd (true≢false (sym (eq-eqb at to (sym here)) ∙ other)) | inr none ↦ Contains-none at none ]
])

-- what is left once a further directory was reached
pub rows_left : (to : ℕ) (reached : List ℕ) (rows : List NameValue) → rows_beside to (left_of reached rows) ≡ left_of (reached ++ to ∷ []) rows
rows_left to reached [] = refl
rows_left to reached (row ∷ rows) =
    let now = λ (row : NameValue). not (was_reached row.key.objectid (reached ++ to ∷ [])) in
    let before = λ (row : NameValue). not (was_reached row.key.objectid reached) in
    let beside = λ (row : NameValue). not (is_of to row) in
    elim (either (was_reached row.key.objectid reached)) [
      | inl gone ↦ (
          ap (rows_beside to) (filter_not before row rows (same_not _ true gone))
          ∙ rows_left to reached rows ∙ sym (filter_not now row rows (same_not _ true (still_reached row.key.objectid to reached gone)))
          )
      | inr stays ↦ (
          ap (rows_beside to) (filter_yes before row rows (same_not _ false stays))
          ∙ elim (either (is_of to row)) [
            | inl same ↦ filter_not beside row (left_of reached rows) (same_not _ true same) ∙ rows_left to reached rows ∙ sym (filter_not now row rows (same_not _ true (now_reached row.key.objectid to reached same)))
            | inr other ↦ (
                filter_yes beside row (left_of reached rows) (same_not _ false other) ∙ ap (λ (rest : List NameValue). row ∷ rest) (rows_left to reached rows)
                ∙ sym (filter_yes now row rows (same_not _ false (not_yet row.key.objectid to reached stays other)))
                )
          ]
          )
    ]
