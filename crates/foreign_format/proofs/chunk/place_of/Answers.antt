use Rattle.std.proofs.Common.{◌≡◌, ◌≤◌, ◌<◌, ℕ, List, get_or, length, insert, arith, sym, subst}
use Rattle.foreign_format.specs.declared.chunk.ChunkRow.{ChunkRow}
use Rattle.foreign_format.specs.Chunks.{put_row}
use Rattle.foreign_format.proofs.Rows.{put_here, put_last}
use Rattle.foreign_format.proofs.chunk.place_of.Goals as goal

here : (row : ChunkRow) (rows : List ChunkRow) (place logical : ℕ) (d : ChunkRow) → row.logical ≡ logical → place < length rows → logical < (get_or rows place d).logical
    → ((k : ℕ) (d : ChunkRow) → k < place → (get_or rows k d).logical ≤ logical) → put_row row rows ≡ insert rows place row
here row rows place logical d is within above below = put_here row rows place d within (omega arith) (λ k e lower. omega (arith, below k e lower))

last : (row : ChunkRow) (rows : List ChunkRow) (logical place : ℕ) → row.logical ≡ logical → length rows ≤ place → ((k : ℕ) (d : ChunkRow) → k < place → (get_or rows k d).logical ≤ logical) → put_row row rows ≡ insert rows (length rows) row
last row rows logical place is past below = put_last row rows (λ k e lower. omega (arith, below k e (omega arith)))

pub returns-then-logical-row-clause-place : goal.returns-then-logical-row-clause-place
returns-then-logical-row-clause-place c = λ row is. here row c.args.rows.now c.loop-place.place c.args.logical _ is c.loop-place-test.true c.if-logical-row.true c.loop-place.invariant

pub returns-clause-place : goal.returns-clause-place
returns-clause-place c = λ row is. last row c.args.rows.now c.args.logical c.loop-place.place is c.loop-place-test.false c.loop-place.invariant
