-- The order of slots tells them apart.
use Rattle.std.proofs.Common.{◌≡◌, ◌&&◌, ℕ, Bool, nat_eq, List, refl, ap, ◌∙◌, arith}
use Rattle.std.proofs.lemmas.Bool.Decides.{nat_tests}
use Rattle.std.proofs.lemmas.Map.Text.{is_eq-slice_cmp}
use Rattle.std.specs.Str.{bytes_eq}
use Rattle.std.specs.Cmp.Lexicographic.{slice_cmp}
use Rattle.std.specs.Ordering.{nat_cmp, ordering_then, is_eq}
use Rattle.std.specs.declared.cmp.Ordering.{Ordering}
use Rattle.std.specs.declared.cmp.Ordering.TheVariants.{Less, Equal, Greater}

both_equal : (o p : Ordering) → is_eq (ordering_then o p) ≡ (is_eq o && is_eq p)
both_equal Less p = refl
both_equal Equal p = refl
both_equal Greater p = refl

same_number : (a b : ℕ) → is_eq (nat_cmp a b) ≡ nat_eq a b
same_number a b = grind (arith, nat_tests)

pub same_slot : (a b : ℕ) (xs ys : List ℕ) → is_eq (ordering_then (nat_cmp a b) (slice_cmp nat_cmp xs ys)) ≡ (nat_eq a b && bytes_eq xs ys)
same_slot a b xs ys = both_equal (nat_cmp a b) (slice_cmp nat_cmp xs ys) ∙ ap (λ (x : Bool). x && is_eq (slice_cmp nat_cmp xs ys)) (same_number a b) ∙ ap (λ (x : Bool). nat_eq a b && x) (is_eq-slice_cmp xs ys)
