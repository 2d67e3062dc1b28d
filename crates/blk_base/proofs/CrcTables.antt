-- Each entry of the tables is held against the definition, each row by the one before it.
use Rattle.std.proofs.Common.{◌≡◌, ℕ, zero, suc, ◌+◌, ◌*◌, ◌<◌, ◌≤◌, Bool, true, false, ◌&&◌, nat_eq, List, [], ◌∷◌, length, get_or, refl, sym, ap, ◌∙◌, subst, arith, eqb-true}
use Rattle.std.proofs.lemmas.Bool.{and_parts}
use Rattle.blk_base.specs.Crc.{crc_bit, crc_bits}
use Rattle.blk_base.specs.declared.crc_tables.TheConstants.{TABLES}
use Rattle.blk_base.proofs.CrcLemmas.{bits_join}

-- these are the bytes from b on, with eight zero bits behind each
first_ok : ℕ → List ℕ → Bool
first_ok b [] = true
first_ok b (t ∷ ts) = nat_eq t (crc_bits 8 b) && first_ok (suc b) ts

-- the second row has eight zero bits more than the first
next_ok : List ℕ → List ℕ → Bool
next_ok [] ts = true
next_ok (p ∷ ps) [] = false
next_ok (p ∷ ps) (t ∷ ts) = nat_eq t (crc_bits 8 p) && next_ok ps ts

all_next_ok : List ℕ → List (List ℕ) → Bool
all_next_ok row [] = true
all_next_ok row (next ∷ rows) = next_ok row next && all_next_ok next rows

tables_ok : List (List ℕ) → Bool
tables_ok [] = false
tables_ok (row ∷ rows) = (nat_eq (length row) 256 && first_ok 0 row) && all_next_ok row rows

tables_checked : tables_ok TABLES ≡ true
unfolding first_ok next_ok all_next_ok tables_ok crc_bit crc_bits
tables_checked = refl

first_at : (ts : List ℕ) (from b j : ℕ) → first_ok from ts ≡ true → b < length ts → j ≡ from + b → get_or ts b 0 ≡ crc_bits 8 j
unfolding first_ok
first_at [] from b j ok lt e = absurd (omega arith)
first_at (t ∷ ts) from zero j ok lt e =
    let parts = and_parts (nat_eq t (crc_bits 8 from)) (first_ok (suc from) ts) ok in
    let same : from ≡ j = omega arith in
    eqb-true _ _ parts.0 ∙ ap (crc_bits 8) same
first_at (t ∷ ts) from (suc b) j ok lt e =
    let parts = and_parts (nat_eq t (crc_bits 8 from)) (first_ok (suc from) ts) ok in
    first_at ts (suc from) b j parts.1 (omega arith) (omega arith)

next_at : (ps ts : List ℕ) (b : ℕ) → next_ok ps ts ≡ true → b < length ps → get_or ts b 0 ≡ crc_bits 8 (get_or ps b 0)
unfolding next_ok
next_at [] ts b ok lt = absurd (omega arith)
next_at (p ∷ ps) [] b ok lt = cc
next_at (p ∷ ps) (t ∷ ts) zero ok lt = eqb-true _ _ (and_parts (nat_eq t (crc_bits 8 p)) (next_ok ps ts) ok).0
next_at (p ∷ ps) (t ∷ ts) (suc b) ok lt =
    next_at ps ts b (and_parts (nat_eq t (crc_bits 8 p)) (next_ok ps ts) ok).1 (omega arith)

next_long : (ps ts : List ℕ) → next_ok ps ts ≡ true → length ps ≤ length ts
unfolding next_ok
next_long [] ts ok = omega arith
next_long (p ∷ ps) [] ok = cc
next_long (p ∷ ps) (t ∷ ts) ok =
    let rest = next_long ps ts (and_parts (nat_eq t (crc_bits 8 p)) (next_ok ps ts) ok).1 in omega arith

-- a row of bytes with n zero bits behind each
record IsRow (row : List ℕ) (n : ℕ) : Type 0 where
  long : 256 ≤ length row
  entries : (b : ℕ) → b < 256 → get_or row b 0 ≡ crc_bits n b

row_at : (row : List ℕ) (rows : List (List ℕ)) (n k m : ℕ) → IsRow row n → all_next_ok row rows ≡ true → k < suc (length rows) → m ≡ n + 8 * k → IsRow (get_or (row ∷ rows) k []) m
unfolding all_next_ok
row_at row rows n zero m is ok lt e = let same : n ≡ m = omega arith in subst (IsRow row) same is
row_at row [] n (suc k) m is ok lt e = absurd (omega arith)
row_at row (next ∷ rows) n (suc k) m is ok lt e =
    let parts = and_parts (next_ok row next) (all_next_ok next rows) ok in
    let longer = next_long row next parts.0 in
    let long = is.long in
    row_at next rows (n + 8) k m
    (record {
      long = omega arith;
      entries = λ b h. next_at row next b parts.0 (omega arith) ∙ ap (crc_bits 8) (is.entries b h) ∙ sym (bits_join n 8 b);
    })
    parts.1 (omega arith) (omega arith)

entry_of : (tables : List (List ℕ)) (k b n : ℕ) → tables_ok tables ≡ true → k < length tables → b < 256 → n ≡ 8 * (k + 1) → get_or (get_or tables k []) b 0 ≡ crc_bits n b
unfolding tables_ok
entry_of [] k b n ok lt h e = cc
entry_of (row ∷ rows) k b n ok lt h e =
    let parts = and_parts (nat_eq (length row) 256 && first_ok 0 row) (all_next_ok row rows) ok in
    let first = and_parts (nat_eq (length row) 256) (first_ok 0 row) parts.0 in
    let long = eqb-true _ _ first.0 in
    (row_at row rows 8 k n
    (record { long = omega arith; entries = λ c below. first_at row 0 c c first.1 (omega arith) (omega arith) })
    parts.1 lt (omega arith)).entries b h

pub table_entry : (k b : ℕ) → k < 8 → b < 256 → get_or (get_or TABLES k []) b 0 ≡ crc_bits (8 * (k + 1)) b
table_entry k b lt h = entry_of TABLES k b _ tables_checked lt h refl
