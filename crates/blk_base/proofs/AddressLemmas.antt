-- The test of an address decides whether a volume may use it.
use Rattle.std.proofs.Common.{◌≡◌, ◌↔◌, ℕ, true, IsTrue}
use Rattle.std.proofs.lemmas.Bool.{and_parts, and_from, eqb-true, eqb-false, ltb-true, leb-true, lt-ltb, le-leb, eq-eqb, ne_eqb, not-true, not_from_false}
use Rattle.blk_base.specs.Address.{IsAllowed, is_allowed}

pub IsAllowed-from_test : (blocks at : ℕ) → is_allowed blocks at ≡ true → IsAllowed blocks at
IsAllowed-from_test blocks at h =
    let p = and_parts _ _ h in
    let q = and_parts _ _ p.0 in
    let r = and_parts _ _ q.0 in
    record {
      aligned = eqb-true _ _ r.0;
      inside = ltb-true _ _ r.1;
      behind_super = leb-true _ _ q.1;
      no_copy = eqb-false _ _ (not-true _ p.1);
    }

pub is_allowed-true : (blocks at : ℕ) → IsAllowed blocks at → is_allowed blocks at ≡ true
is_allowed-true blocks at a =
    and_from _ _ (and_from _ _ (and_from _ _ (eq-eqb _ _ a.aligned) (lt-ltb _ _ a.inside)) (le-leb _ _ a.behind_super)) (not_from_false _ (ne_eqb _ _ a.no_copy))

pub is_allowed_decides : (blocks at : ℕ) → IsTrue (is_allowed blocks at) ↔ IsAllowed blocks at
is_allowed_decides blocks at = (IsAllowed-from_test blocks at, is_allowed-true blocks at)
