-- The test of a name decides whether it is one.
use Rattle.std.proofs.Common.{◌≡◌, ◌≢◌, ◌↔◌, ℕ, Bool, true, false, not, ◌&&◌, ◌==◌, nat_le, List, [], ◌∷◌, length, All, IsTrue, bytes_eq, subst, sym, refl, Decides, le-leb, leb-true}
use Rattle.std.specs.List.{list_all}
use Rattle.std.proofs.lemmas.Bool.Decides.{Decides-and, Decides-not, Decides-eqb, Decides-by_and}
use Rattle.std.proofs.lemmas.Slice.Eq.{bytes_eq-Decides}
use Rattle.std.proofs.lemmas.Grind.{get_or_default_zero}
use Rattle.blk_base.specs.Name.{IsName, is_name}

plain_decides : (byte : ℕ) → Decides (not (byte == 0) && not (byte == 47)) ((byte ≢ 0) × (byte ≢ 47))
plain_decides byte =
    Decides-and (not (byte == 0)) (not (byte == 47)) (Decides-not (byte == 0) (Decides-eqb byte 0)) (Decides-not (byte == 47) (Decides-eqb byte 47))

all_plain_decides : (bytes : List ℕ) → Decides (list_all (λ byte. not (byte == 0) && not (byte == 47)) bytes) (All (λ byte. (byte ≢ 0) × (byte ≢ 47)) bytes)
all_plain_decides bytes =
    Decides-by_and (λ byte. not (byte == 0) && not (byte == 47)) (λ byte. (byte ≢ 0) × (byte ≢ 47)) (list_all (λ byte. not (byte == 0) && not (byte == 47))) plain_decides refl (λ _ _. refl) bytes

other_decides : (bytes text : List ℕ) → Decides (not (bytes_eq bytes text)) (bytes ≢ text)
other_decides bytes text = Decides-not (bytes_eq bytes text) (bytes_eq-Decides bytes text)

-- the parts of the test, from the left
five : (a b c d e : Bool) → ((((a && b) && c) && d) && e) ≡ true → (a ≡ true) × (b ≡ true) × (c ≡ true) × (d ≡ true) × (e ≡ true)
five true true true true true h = (refl, refl, refl, refl, refl)
five true true true true false h = cc
five true true true false e h = cc
five true true false d e h = cc
five true false c d e h = cc
five false b c d e h = cc

five_back : (a b c d e : Bool) → a ≡ true → b ≡ true → c ≡ true → d ≡ true → e ≡ true → ((((a && b) && c) && d) && e) ≡ true
five_back a b c d e p q r s t = rw (p, q, r, s, t) refl

all_plain : (bytes : List ℕ) → IsName bytes → All (λ byte. (byte ≢ 0) × (byte ≢ 47)) bytes
all_plain bytes n k d h =
    subst (λ byte. (byte ≢ 0) × (byte ≢ 47)) (sym (get_or_default_zero bytes k d h)) (n.no_zero k h, n.no_slash k h)

IsName-from_test : (bytes : List ℕ) → is_name bytes ≡ true → IsName bytes
unfolding is_name
IsName-from_test bytes h =
    let parts = five (nat_le 1 (length bytes)) (nat_le (length bytes) 255) (list_all (λ byte. not (byte == 0) && not (byte == 47)) bytes) (not (bytes_eq bytes (46 ∷ []))) (not (bytes_eq bytes (46 ∷ 46 ∷ []))) h in
    let plain = (all_plain_decides bytes).0 parts.2 in
    record {
      least = leb-true 1 (length bytes) parts.0;
      most = leb-true (length bytes) 255 parts.1;
      no_zero = λ i lt. (plain i 0 lt).0;
      no_slash = λ i lt. (plain i 0 lt).1;
      not_dot = (other_decides bytes (46 ∷ [])).0 parts.3;
      not_dots = (other_decides bytes (46 ∷ 46 ∷ [])).0 parts.4;
    }

test-from_IsName : (bytes : List ℕ) → IsName bytes → is_name bytes ≡ true
unfolding is_name
test-from_IsName bytes n =
    five_back _ _ _ _ _ (le-leb _ _ n.least) (le-leb _ _ n.most) ((all_plain_decides bytes).1 (all_plain bytes n)) ((other_decides bytes (46 ∷ [])).1 n.not_dot) ((other_decides bytes (46 ∷ 46 ∷ [])).1 n.not_dots)

pub is_name_decides : (bytes : List ℕ) → IsTrue (is_name bytes) ↔ IsName bytes
is_name_decides bytes = (IsName-from_test bytes, test-from_IsName bytes)
