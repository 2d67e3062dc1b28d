-- Data blocks pass their check exactly where each has a place of its own.
use Rattle.std.proofs.Common.{◌≡◌, ◌↔◌, ℕ, List, [], ◌∷◌, Contains, Ok, refl, sym, subst, ◌∙◌, inl, inr}
use Rattle.std.proofs.lemmas.List.Elements.{All-cons, All-head, All-nil, All-tail}
use Rattle.blk_base.specs.Address.{IsAllowed}
use Rattle.format_laws.specs.Checks.{found_none, passed}
use Rattle.format_laws.specs.Superblock.{IsAllowed-from_test, is_allowed-true}
use Rattle.volume_image.proofs.Lists.{in_cons, in_nothing}
use Rattle.volume_image.proofs.Reaches.{head_in, not_in, not_reached, tail_in}
use Rattle.tree_check.specs.Blocks.{AreFresh, blocks_checked}
use Rattle.tree_check.proofs.Checking.{is_fresh}

fresh_from : (blocks : ℕ) (reached addresses : List ℕ) → blocks_checked blocks reached addresses ≡ Ok tt → AreFresh blocks reached addresses
fresh_from blocks reached [] h = record { allowed = All-nil (IsAllowed blocks); once = tt; apart = λ at c d. absurd (in_nothing at d) }
fresh_from blocks reached (at ∷ addresses) h =
    let one = passed _ _ _ _ h in
    let two = found_none _ _ _ _ one.1 in
    let later = fresh_from blocks (at ∷ reached) addresses two.1 in
    record {
      allowed = All-cons (IsAllowed blocks) at addresses (IsAllowed-from_test blocks at one.0) later.allowed;
      once = ((λ there. later.apart at (head_in at reached) there), later.once);
      apart = λ other before there. elim (in_cons at other addresses there) [
        | inl here ↦ not_reached at reached two.0 (subst (Contains reached) (sym here) before)
        | inr behind ↦ later.apart other (tail_in at other reached before) behind
      ];
    }

fresh_to : (blocks : ℕ) (reached addresses : List ℕ) → AreFresh blocks reached addresses → blocks_checked blocks reached addresses ≡ Ok tt
fresh_to blocks reached [] fresh = refl
fresh_to blocks reached (at ∷ addresses) fresh =
    is_fresh blocks at reached addresses (is_allowed-true blocks at (All-head (IsAllowed blocks) at addresses fresh.allowed)) (not_in at reached (λ before. fresh.apart at before (head_in at addresses)))
    ∙ fresh_to blocks (at ∷ reached) addresses (record {
      allowed = All-tail (IsAllowed blocks) at addresses fresh.allowed;
      once = fresh.once.1;
      apart = λ other before there. elim (in_cons at other reached before) [
        | inl here ↦ fresh.once.0 (subst (Contains addresses) (sym here) there)
        | inr earlier ↦ fresh.apart other earlier (tail_in at other addresses there)
      ];
    })

pub fresh_are : (blocks : ℕ) (reached addresses : List ℕ) → (blocks_checked blocks reached addresses ≡ Ok tt) ↔ AreFresh blocks reached addresses
fresh_are blocks reached addresses = (fresh_from blocks reached addresses, fresh_to blocks reached addresses)
