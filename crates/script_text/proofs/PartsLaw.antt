-- Parts that are joined again, and bytes without a byte of some value.
use Rattle.std.proofs.Common.{◌≡◌, ◌≢◌, ◌⊎◌, inl, inr, ℕ, Bool, true, false, cond, eqb, List, [], ◌∷◌, ◌++◌, ap, sym, refl, ◌∙◌, subst}
use Rattle.std.specs.List.{AllByRecursion, onto_first, join_with_byte}
use Rattle.script_text.specs.Words.{parts_at}
use Rattle.script_text.specs.Grammar.{IsWithout}
use Rattle.script_text.proofs.NumberLaw.{is_other, is_not, it_is}

pub bool_is : (b : Bool) → (b ≡ true) ⊎ (b ≡ false)
bool_is true = inl refl
bool_is false = inr refl

pub without_append : (at : ℕ) (front back : List ℕ) → IsWithout at front → IsWithout at back → IsWithout at (front ++ back)
without_append at [] back p q = q
without_append at (byte ∷ front) back p q = (p.0, without_append at front back p.1 q)

-- a part in front of the byte
pub parts_cons : (at : ℕ) (part rest : List ℕ) → IsWithout at part → parts_at at (part ++ at ∷ rest) ≡ part ∷ parts_at at rest
parts_cons at [] rest w = ap (λ (b : Bool). cond b ([] ∷ parts_at at rest) (onto_first at (parts_at at rest))) (it_is at)
parts_cons at (byte ∷ part) rest w =
    let more : List ℕ = part ++ at ∷ rest in
    ap (λ (b : Bool). cond b ([] ∷ parts_at at more) (onto_first byte (parts_at at more))) (is_other byte at w.0) ∙ ap (onto_first byte) (parts_cons at part rest w.1)

-- the only part
pub parts_one : (at : ℕ) (part : List ℕ) → IsWithout at part → parts_at at part ≡ part ∷ []
parts_one at [] w = refl
parts_one at (byte ∷ part) w = ap (λ (b : Bool). cond b ([] ∷ parts_at at part) (onto_first byte (parts_at at part))) (is_other byte at w.0) ∙ ap (onto_first byte) (parts_one at part w.1)

-- parts without the byte, joined by it
pub parts_join : (at : ℕ) (part : List ℕ) (parts : List (List ℕ)) → IsWithout at part → AllByRecursion (IsWithout at) parts → parts_at at (join_with_byte at (part ∷ parts)) ≡ part ∷ parts
parts_join at part [] w ws = parts_one at part w
parts_join at part (next ∷ parts) w ws = parts_cons at part (join_with_byte at (next ∷ parts)) w ∙ ap (λ (ps : List (List ℕ)). part ∷ ps) (parts_join at next parts ws.0 ws.1)

onto_without : (at byte : ℕ) (parts : List (List ℕ)) → byte ≢ at → AllByRecursion (IsWithout at) parts → AllByRecursion (IsWithout at) (onto_first byte parts)
onto_without at byte [] other ws = ((other, tt), tt)
onto_without at byte (part ∷ parts) other ws = ((other, ws.0), ws.1)

-- no part has the byte
pub parts_without : (at : ℕ) (bytes : List ℕ) → AllByRecursion (IsWithout at) (parts_at at bytes)
parts_without at [] = (tt, tt)
parts_without at (byte ∷ bytes) =
    elim (bool_is (eqb byte at)) [
      | inl passes ↦ subst (λ (b : Bool). AllByRecursion (IsWithout at) (cond b ([] ∷ parts_at at bytes) (onto_first byte (parts_at at bytes)))) (sym passes) (tt, parts_without at bytes)
      | inr other ↦ subst (λ (b : Bool). AllByRecursion (IsWithout at) (cond b ([] ∷ parts_at at bytes) (onto_first byte (parts_at at bytes)))) (sym other) (onto_without at byte (parts_at at bytes) (is_not byte at other) (parts_without at bytes))
    ]
