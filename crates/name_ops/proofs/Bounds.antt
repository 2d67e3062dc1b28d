-- The names in a directory have few bytes, since those of each hash do.
use Rattle.std.proofs.Common.{◌≡◌, ◌≤◌, ◌<◌, ◌+◌, ◌*◌, ◌^◌, ◌&&◌, ◌⊎◌, ℕ, zero, suc, Bool, true, false, cond, List, [], ◌∷◌, Contains, filter, length, nat_eq, nat_lt, refl, sym, ap, arith, inl, inr}
use Rattle.std.specs.List.{sum_by}
use Rattle.std.proofs.lemmas.List.Sums.{sum_by-cons}
use Rattle.std.proofs.lemmas.Bool.{cases_order, eq-eqb, lt-ltb, le-ltb, ne_eqb}
use Rattle.blk_base.specs.Crc.{name_hash_of}
use Rattle.blk_base.proofs.CrcLemmas.{name_hash_of-fits}
use Rattle.flat_model.specs.Coherent.{IsCoherent}
use Rattle.flat_model.specs.Lengths.{dir_item_length, entry_length, most_item_bytes}
use Rattle.flat_model.specs.Names.{FlatName, is_hashed_in, stands_in}
use Rattle.flat_model.specs.Volume.{Subvolume}
use Rattle.volume_image.proofs.Reaches.{head_in, tail_in}
use Rattle.name_items.specs.Names.{names_size}
use Rattle.name_ops.proofs.Totals.{total, total_cons}

-- a name of the directory with a hash below this one
below : ℕ → ℕ → FlatName → Bool
below dir most name = nat_eq name.dir dir && nat_lt (name_hash_of name.bytes) most

share_more : (dir most : ℕ) (name : FlatName) → cond (below dir (suc most) name) (entry_length name) 0 ≡ cond (below dir most name) (entry_length name) 0 + cond (is_hashed_in dir most name) (entry_length name) 0
unfolding below
share_more dir most name = go (nat_eq name.dir dir) (name_hash_of name.bytes) (cases_order (name_hash_of name.bytes) most)
  where
    go : (d : Bool) (hash : ℕ) → (hash ≡ most) ⊎ ((hash < most) ⊎ (most < hash)) → cond (d && nat_lt hash (suc most)) (entry_length name) 0 ≡ cond (d && nat_lt hash most) (entry_length name) 0 + cond (d && nat_eq hash most) (entry_length name) 0
    go false hash order = refl
    go true hash (inl same) = rw (lt-ltb hash (suc most) (omega arith), le-ltb hash most (omega arith), eq-eqb hash most same) (omega arith)
    go true hash (inr (inl less)) = rw (lt-ltb hash (suc most) (omega arith), lt-ltb hash most less, ne_eqb hash most (λ e. absurd (omega arith))) (omega arith)
    go true hash (inr (inr more)) = rw (le-ltb hash (suc most) (omega arith), le-ltb hash most (omega arith), ne_eqb hash most (λ e. absurd (omega arith))) (omega arith)

total_more : (dir most : ℕ) (names : List FlatName) → total entry_length (below dir (suc most)) names ≡ total entry_length (below dir most) names + total entry_length (is_hashed_in dir most) names
total_more dir most [] = refl
total_more dir most (name ∷ names) =
    let rest = total_more dir most names in
    let here = share_more dir most name in
    let one = total_cons entry_length (below dir (suc most)) name names in
    let two = total_cons entry_length (below dir most) name names in
    let three = total_cons entry_length (is_hashed_in dir most) name names in
    omega arith

none_below : (dir : ℕ) (names : List FlatName) → total entry_length (below dir 0) names ≡ 0
unfolding below
none_below dir [] = refl
none_below dir (name ∷ names) =
    let rest = none_below dir names in
    let one = total_cons entry_length (below dir 0) name names in
    let no : cond (nat_eq name.dir dir && nat_lt (name_hash_of name.bytes) 0) (entry_length name) 0 ≡ 0 =
    elim (nat_eq name.dir dir) as (λ b. cond (b && nat_lt (name_hash_of name.bytes) 0) (entry_length name) 0 ≡ 0) [ true ↦ rw (le-ltb (name_hash_of name.bytes) 0 (omega arith)) refl | false ↦ refl ] in
    omega arith

total_below : (dir : ℕ) (names : List FlatName) → ((hash : ℕ) → total entry_length (is_hashed_in dir hash) names ≤ most_item_bytes) → (most : ℕ) → total entry_length (below dir most) names ≤ most_item_bytes * most
total_below dir names fits zero = let none = none_below dir names in omega arith
total_below dir names fits (suc most) =
    let rest = total_below dir names fits most in
    let more = total_more dir most names in
    let here = fits most in
    omega arith

-- the bytes of the names alone
names_within : (dir most : ℕ) (names : List FlatName) → ((name : FlatName) → Contains names name → name_hash_of name.bytes < most)
    → sum_by (λ (name : FlatName). length name.bytes) (filter (stands_in dir) names) ≤ total entry_length (below dir most) names
unfolding below
names_within dir most [] each = omega arith
names_within dir most (name ∷ names) each =
    let rest = names_within dir most names (λ n c. each n (tail_in name n names c)) in
    let here = lt-ltb (name_hash_of name.bytes) most (each name (head_in name names)) in
    let one = total_cons entry_length (below dir most) name names in
    elim (nat_eq name.dir dir) as (λ b. cond (b && nat_lt (name_hash_of name.bytes) most) (entry_length name) 0 + total entry_length (below dir most) names ≡ total entry_length (below dir most) (name ∷ names)
    → sum_by (λ (name : FlatName). length name.bytes) (cond b (name ∷ filter (stands_in dir) names) (filter (stands_in dir) names)) ≤ total entry_length (below dir most) (name ∷ names)) [
      | true ↦ λ e.
          let head : cond (nat_lt (name_hash_of name.bytes) most) (entry_length name) 0 ≡ entry_length name = ap (λ (b : Bool). cond b (entry_length name) 0) here in
          let sum = sum_by-cons (λ (name : FlatName). length name.bytes) name (filter (stands_in dir) names) in
          omega arith
      | false ↦ λ e. omega arith
    ] (sym one)

-- a directory of a coherent subvolume has a size that fits its field with much room
pub sizes_fit : (sub : Subvolume) → IsCoherent sub → (dir : ℕ) → names_size sub dir < 2 ^ 63
unfolding dir_item_length
sizes_fit sub coherent dir =
    let hashes = names_within dir (2 ^ 32) sub.names (λ name has. name_hash_of-fits name.bytes (coherent.name_limits name has).1) in
    let all = total_below dir sub.names (λ hash. coherent.items_fit.entries dir hash) (2 ^ 32) in
    omega arith
