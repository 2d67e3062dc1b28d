-- Rows and chunks, one behind the other.
use Rattle.std.proofs.Common.{◌≡◌, ◌≤◌, ◌<◌, ◌+◌, ◌-◌, ◌++◌, ℕ, suc, zero, Bool, true, false, not, List, [], ◌∷◌, Option, Some, None, Result, Ok, Err, length, take, drop, get_or, insert, refl, sym, ap, ◌∙◌, arith, nat_lt, ltb, le-ltb, lt-ltb, if◌then◌else◌}
use Rattle.std.specs.Prelude.{◌==◌}
use Rattle.foreign_format.specs.declared.chunk.Chunk.{Chunk}
use Rattle.foreign_format.specs.declared.chunk.ChunkRow.{ChunkRow}
use Rattle.foreign_format.specs.declared.fault.ForeignFault.{ForeignFault}
use Rattle.foreign_format.specs.declared.fault.ForeignFault.TheVariants.{Array}
use Rattle.foreign_format.specs.declared.fault.ForeignFault.TheVariants as fault
use Rattle.foreign_format.specs.Chunks.{array_rows, first_row, follows, has_range, has_row, in_row, physical_of, put_row, row_end}

pub drop_at : {X : Type 0} (xs : List X) (place : ℕ) (x : X) → place < length xs → x ≡ get_or xs place x → drop place xs ≡ x ∷ drop (suc place) xs
drop_at [] place x below is = absurd (omega arith)
drop_at (first ∷ xs) zero x below is = ap (λ y. y ∷ xs) (sym is)
drop_at (first ∷ xs) (suc place) x below is = drop_at xs place x (omega arith) is

pub drop_past : {X : Type 0} (xs : List X) (place : ℕ) → length xs ≤ place → drop place xs ≡ []
drop_past [] zero past = refl
drop_past [] (suc place) past = refl
drop_past (x ∷ xs) zero past = absurd (omega arith)
drop_past (x ∷ xs) (suc place) past = drop_past xs place (omega arith)

-- ---- the place of a row

pub put_here : (row : ChunkRow) (rows : List ChunkRow) (place : ℕ) (d : ChunkRow) → place < length rows → row.logical < (get_or rows place d).logical
    → ((k : ℕ) (d : ChunkRow) → k < place → (get_or rows k d).logical ≤ row.logical) → put_row row rows ≡ insert rows place row
unfolding put_row
put_here row [] place d within above below = absurd (omega arith)
put_here row (other ∷ rows) zero d within above below = rw (lt-ltb row.logical other.logical above) refl
put_here row (other ∷ rows) (suc place) d within above below =
    rw (le-ltb row.logical other.logical (below 0 d (omega arith))) (ap (λ rest. other ∷ rest) (put_here row rows place d (omega arith) above (λ k e lower. below (suc k) e (omega arith))))

pub put_last : (row : ChunkRow) (rows : List ChunkRow) → ((k : ℕ) (d : ChunkRow) → k < length rows → (get_or rows k d).logical ≤ row.logical) → put_row row rows ≡ insert rows (length rows) row
unfolding put_row
put_last row [] below = refl
put_last row (other ∷ rows) below = rw (le-ltb row.logical other.logical (below 0 other (omega arith))) (ap (λ rest. other ∷ rest) (put_last row rows (λ k e lower. below (suc k) e (omega arith))))

-- ---- the rows of the superblock

pub array_done : (n : ℕ) (rows : List ChunkRow) (bytes : List ℕ) → length bytes ≡ 0 → array_rows n rows bytes ≡ Ok rows
unfolding array_rows
array_done zero rows bytes none = refl
array_done (suc n) rows bytes none = rw none refl

pub array_bad : (n : ℕ) (rows : List ChunkRow) (bytes : List ℕ) → 0 < n → (length bytes == 0) ≡ false → has_row bytes ≡ false → array_rows n rows bytes ≡ Err Array
unfolding array_rows
array_bad zero rows bytes some there bad = absurd (omega arith)
array_bad (suc n) rows bytes some there bad = rw (there, bad) refl

pub array_more : (n m : ℕ) (rows : List ChunkRow) (bytes : List ℕ) → n ≡ suc m → (length bytes == 0) ≡ false → has_row bytes ≡ true
    → array_rows n rows bytes ≡ array_rows m (put_row (first_row bytes) rows) (drop (row_end bytes) bytes)
unfolding array_rows
array_more n m rows bytes is there good = ap (λ k. array_rows k rows bytes) is ∙ rw (there, good) refl

-- ---- chunks one behind the other

pub row_fault : (disk_size end : ℕ) (chunks : List Chunk) (row : ChunkRow) (rows : List ChunkRow) (w : ForeignFault) → row.chunk ≡ Err w → in_row disk_size end chunks (row ∷ rows) ≡ Err w
unfolding in_row
row_fault disk_size end chunks row rows w is = rw is refl

pub row_bad : (disk_size end : ℕ) (chunks : List Chunk) (row : ChunkRow) (rows : List ChunkRow) (chunk : Chunk) → row.chunk ≡ Ok chunk → follows disk_size end chunk ≡ false → in_row disk_size end chunks (row ∷ rows) ≡ Err (fault.Chunk chunk.logical)
unfolding in_row
row_bad disk_size end chunks row rows chunk is bad = rw (is, bad) refl

pub row_more : (disk_size end : ℕ) (chunks : List Chunk) (row : ChunkRow) (rows : List ChunkRow) (chunk : Chunk) → row.chunk ≡ Ok chunk → follows disk_size end chunk ≡ true
    → in_row disk_size end chunks (row ∷ rows) ≡ in_row disk_size (chunk.logical + chunk.length) (chunks ++ chunk ∷ []) rows
unfolding in_row
row_more disk_size end chunks row rows chunk is good = rw (is, good) refl

-- ---- where an address stands

pub found_here : (chunk : Chunk) (chunks : List Chunk) (at count : ℕ) → has_range chunk at count ≡ true → physical_of (chunk ∷ chunks) at count ≡ Some (chunk.physical + (at - chunk.logical))
unfolding physical_of
found_here chunk chunks at count h = rw h refl

pub found_later : (chunk : Chunk) (chunks : List Chunk) (at count : ℕ) → has_range chunk at count ≡ false → physical_of (chunk ∷ chunks) at count ≡ physical_of chunks at count
unfolding physical_of
found_later chunk chunks at count h = rw h refl

-- ---- at the end of each list

pub in_row_end : (disk_size end : ℕ) (chunks : List Chunk) (rows : List ChunkRow) → rows ≡ [] → in_row disk_size end chunks rows ≡ Ok chunks
unfolding in_row
in_row_end disk_size end chunks rows is = rw is refl

pub found_none : (chunks : List Chunk) (at count : ℕ) → chunks ≡ [] → physical_of chunks at count ≡ None
unfolding physical_of
found_none chunks at count is = rw is refl

pub array_zero : (n : ℕ) (rows : List ChunkRow) (bytes : List ℕ) → n ≡ 0 → array_rows n rows bytes ≡ Ok rows
unfolding array_rows
array_zero n rows bytes is = rw is refl

-- ---- by places

pub drop_here : {X : Type 0} (xs : List X) (place : ℕ) (d : X) → place < length xs → drop place xs ≡ get_or xs place d ∷ drop (place + 1) xs
drop_here xs place d within =
    let next : suc place ≡ place + 1 = omega arith in
    let same : get_or xs place d ≡ get_or xs place (get_or xs place d) = get_or_any xs place d (get_or xs place d) within in
    drop_at xs place (get_or xs place d) within same ∙ ap (λ n. get_or xs place d ∷ drop n xs) next
  where
    get_or_any : {X : Type 0} (xs : List X) (place : ℕ) (d e : X) → place < length xs → get_or xs place d ≡ get_or xs place e
    get_or_any [] place d e within = absurd (omega arith)
    get_or_any (x ∷ xs) zero d e within = refl
    get_or_any (x ∷ xs) (suc place) d e within = get_or_any xs place d e (omega arith)

pub fault_at : (disk_size end : ℕ) (chunks : List Chunk) (rows : List ChunkRow) (place : ℕ) (d : ChunkRow) (w : ForeignFault) → place < length rows → (get_or rows place d).chunk ≡ Err w → in_row disk_size end chunks (drop place rows) ≡ Err w
fault_at disk_size end chunks rows place d w within is =
    ap (in_row disk_size end chunks) (drop_here rows place d within) ∙ row_fault disk_size end chunks (get_or rows place d) (drop (place + 1) rows) w is

pub bad_at : (disk_size end : ℕ) (chunks : List Chunk) (rows : List ChunkRow) (place : ℕ) (d : ChunkRow) (chunk : Chunk) → place < length rows → (get_or rows place d).chunk ≡ Ok chunk → follows disk_size end chunk ≡ false
    → in_row disk_size end chunks (drop place rows) ≡ Err (fault.Chunk chunk.logical)
bad_at disk_size end chunks rows place d chunk within is bad =
    ap (in_row disk_size end chunks) (drop_here rows place d within) ∙ row_bad disk_size end chunks (get_or rows place d) (drop (place + 1) rows) chunk is bad

pub more_at : (disk_size end : ℕ) (chunks : List Chunk) (rows : List ChunkRow) (place : ℕ) (d : ChunkRow) (chunk : Chunk) → place < length rows → (get_or rows place d).chunk ≡ Ok chunk → follows disk_size end chunk ≡ true
    → in_row disk_size end chunks (drop place rows) ≡ in_row disk_size (chunk.logical + chunk.length) (chunks ++ chunk ∷ []) (drop (place + 1) rows)
more_at disk_size end chunks rows place d chunk within is good =
    ap (in_row disk_size end chunks) (drop_here rows place d within) ∙ row_more disk_size end chunks (get_or rows place d) (drop (place + 1) rows) chunk is good

pub found_at : (chunks : List Chunk) (place at count : ℕ) (d : Chunk) → place < length chunks → has_range (get_or chunks place d) at count ≡ true
    → physical_of (drop place chunks) at count ≡ Some ((get_or chunks place d).physical + (at - (get_or chunks place d).logical))
found_at chunks place at count d within h = ap (λ c. physical_of c at count) (drop_here chunks place d within) ∙ found_here (get_or chunks place d) (drop (place + 1) chunks) at count h

pub not_at : (chunks : List Chunk) (place at count : ℕ) (d : Chunk) → place < length chunks → has_range (get_or chunks place d) at count ≡ false → physical_of (drop place chunks) at count ≡ physical_of (drop (place + 1) chunks) at count
not_at chunks place at count d within h = ap (λ c. physical_of c at count) (drop_here chunks place d within) ∙ found_later (get_or chunks place d) (drop (place + 1) chunks) at count h
