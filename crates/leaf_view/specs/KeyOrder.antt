-- Laws of the order of keys.
use Rattle.std.specs.Prelude.{◌≡◌, ◌<◌, ℕ}
use Rattle.std.specs.declared.cmp.Ordering.TheVariants.{Equal, Greater}
use Rattle.std.proofs.Common.{arith, ap, ◌∙◌, ◌⊎◌}
use Rattle.std.proofs.lemmas.Bool.Decides.{nat_tests}
use Rattle.blk_base.specs.declared.key.Key.{Key}
use Rattle.blk_base.specs.Keys.{KeyBelow, key_cmp}

-- one key is below another at its first field that differs
pub KeyBelow_parts : (a b : Key) → KeyBelow a b → (a.objectid < b.objectid) ⊎ ((a.objectid ≡ b.objectid) × ((a.kind < b.kind) ⊎ ((a.kind ≡ b.kind) × (a.offset < b.offset))))
KeyBelow_parts a b h = grind (arith, nat_tests)

-- the other way
pub KeyBelow_from : (a b : Key) → (a.objectid < b.objectid) ⊎ ((a.objectid ≡ b.objectid) × ((a.kind < b.kind) ⊎ ((a.kind ≡ b.kind) × (a.offset < b.offset)))) → KeyBelow a b
KeyBelow_from a b h = grind (arith, nat_tests)

-- what is below what is below is below
pub KeyBelow_trans : (a b c : Key) → KeyBelow a b → KeyBelow b c → KeyBelow a c
KeyBelow_trans a b c h k =
    let first = KeyBelow_parts a b h in
    let second = KeyBelow_parts b c k in
    KeyBelow_from a c (grind arith)

-- no key is below itself
pub KeyBelow_irrefl : (a : Key) → KeyBelow a a → ⊥
KeyBelow_irrefl a h = let parts = KeyBelow_parts a a h in grind arith

-- a key that compares as greater is above
pub KeyBelow_swap : (a b : Key) → key_cmp a b ≡ Greater → KeyBelow b a
KeyBelow_swap a b h = KeyBelow_from b a (grind (arith, nat_tests))

-- keys that compare as equal are one
pub same_key : (a b : Key) → key_cmp a b ≡ Equal → a ≡ b
same_key a b h =
    let parts : (a.objectid ≡ b.objectid) × ((a.kind ≡ b.kind) × (a.offset ≡ b.offset)) = grind (arith, nat_tests) in
    let make : ℕ → ℕ → ℕ → Key = λ o k f. record { objectid = o; kind = k; offset = f } in
    ap (λ o. make o a.kind a.offset) parts.0 ∙ ap (λ k. make b.objectid k a.offset) parts.1.0 ∙ ap (λ f. make b.objectid b.kind f) parts.1.1
