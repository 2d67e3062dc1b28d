-- What a write and a truncate of the file at a path come to.
use Rattle.std.proofs.Common.{◌≡◌, ◌≤◌, ◌<◌, ◌+◌, ◌*◌, ℕ, Bool, List, [], ◌∷◌, Some, length, nat_lt, ap, ◌∙◌}
use Rattle.std.specs.FinMap.{get}
use Rattle.std.proofs.lemmas.Bool.{le-ltb, lt-ltb}
use Rattle.block_table.specs.declared.tree.SubState.{SubState}
use Rattle.block_table.specs.Table.{Table}
use Rattle.flat_model.specs.declared.answer.Answer.{Answer}
use Rattle.flat_model.specs.declared.answer.Answer.TheVariants.{Number, Plain, TooLarge}
use Rattle.flat_model.specs.Contents.{most_file_bytes, truncated, written}
use Rattle.flat_model.specs.Needs.{blocks_past}
use Rattle.flat_model.specs.Operations.{Outcome, file_rows, file_there, first_answer, truncate, with_record_at, write}
use Rattle.flat_model.specs.Records.{FileInode, FileRecord, InodeRecord}
use Rattle.flat_model.specs.Volume.{RunSub}
use Rattle.flat_model.specs.Walk.{WalkEnd, record_at, walk}
use Rattle.table_volume.specs.Operated.{IsOperated}
use Rattle.table_volume.specs.Running.{GivesRun}
use Rattle.file_ops.specs.Room.{room_for}
use Rattle.file_ops.specs.There.{IsFileAt}
use Rattle.file_ops.proofs.Answered.{finished, here, past, refused}
use Rattle.file_ops.proofs.Done.{record_written, written_outcome}
use Rattle.file_ops.proofs.FileRows.{file_more}
use Rattle.file_ops.proofs.Placed.{record_is}

-- ---- rows

abbrev pub write_rows : RunSub → List (List ℕ) → ℕ → List ℕ → List (Bool × Answer)
write_rows run path offset text = file_rows run (walk run.sub path) ((nat_lt most_file_bytes (offset + length text), TooLarge) ∷ [])

abbrev pub write_done : RunSub → List (List ℕ) → ℕ → List ℕ → Outcome
write_done run path offset text = record {
  next = with_record_at run (walk run.sub path) (FileInode (written (file_there (record_at run.sub (walk run.sub path))) offset text));
  answer = Number (length text);
  made = [];
}

abbrev pub truncate_rows : RunSub → List (List ℕ) → ℕ → List (Bool × Answer)
truncate_rows run path size = file_rows run (walk run.sub path) ((nat_lt most_file_bytes size, TooLarge) ∷ [])

abbrev pub truncate_done : RunSub → List (List ℕ) → ℕ → Outcome
truncate_done run path size = record {
  next = with_record_at run (walk run.sub path) (FileInode (truncated (file_there (record_at run.sub (walk run.sub path))) size));
  answer = Plain;
  made = [];
}

-- a row that holds decides
pub write_refused : (table : Table) (state : SubState) (run : RunSub) (path : List (List ℕ)) (offset : ℕ) (text : List ℕ) (answer : Answer) (most : ℕ) → GivesRun table state run
    → first_answer (write_rows run path offset text) ≡ Some answer → IsOperated table table state state run (write run path offset text) answer most
unfolding write
write_refused table state run path offset text answer most gives is = refused table state run (write_rows run path offset text) (write_done run path offset text) answer most gives is

pub truncate_refused : (table : Table) (state : SubState) (run : RunSub) (path : List (List ℕ)) (size : ℕ) (answer : Answer) (most : ℕ) → GivesRun table state run
    → first_answer (truncate_rows run path size) ≡ Some answer → IsOperated table table state state run (truncate run path size) answer most
unfolding truncate
truncate_refused table state run path size answer most gives is = refused table state run (truncate_rows run path size) (truncate_done run path size) answer most gives is

-- ---- the file at a path

module _ (run : RunSub) (path : List (List ℕ)) (ino : ℕ) (at : IsFileAt run.sub (walk run.sub path) ino) where
  abbrev place : WalkEnd
  place = walk run.sub path

  pub there : get run.sub.inodes ino ≡ Some (FileInode at.file)
  there = at.at.there ∙ ap (λ (r : InodeRecord). Some r) at.is

  file_is : record_at run.sub place ≡ Some (FileInode at.file)
  file_is = record_is run.sub place ino at.at ∙ ap (λ (r : InodeRecord). Some r) at.is

  pub file_same : file_there (record_at run.sub place) ≡ at.file
  file_same = ap file_there file_is

  -- the last row of the two operations
  pub last_row : (large : Bool) → first_answer (file_rows run place ((large, TooLarge) ∷ [])) ≡ first_answer ((large, TooLarge) ∷ [])
  last_row large = file_more run place ((large, TooLarge) ∷ []) ino at.at at.file at.is

  module _ (offset : ℕ) (text : List ℕ) where
    pub write_large : most_file_bytes < offset + length text → first_answer (write_rows run path offset text) ≡ Some TooLarge
    write_large large = last_row (nat_lt most_file_bytes (offset + length text)) ∙ here (nat_lt most_file_bytes (offset + length text)) TooLarge [] (lt-ltb most_file_bytes (offset + length text) large)

    pub write_is : offset + length text ≤ most_file_bytes → write run path offset text ≡ written_outcome run ino (FileInode (written at.file offset text)) (Number (length text))
    unfolding write
    write_is few =
        finished run (write_rows run path offset text) (write_done run path offset text) (last_row (nat_lt most_file_bytes (offset + length text)) ∙ past (nat_lt most_file_bytes (offset + length text)) TooLarge [] (le-ltb most_file_bytes (offset + length text) few))
        ∙ ap (λ (file : FileRecord). record { next = with_record_at run place (FileInode (written file offset text)); answer = Number (length text); made = [] }) file_same
        ∙ ap (λ (next : RunSub). record { next = next; answer = Number (length text); made = [] }) (record_written run place ino at.at (FileInode (written at.file offset text)))

  module _ (size : ℕ) where
    pub truncate_large : most_file_bytes < size → first_answer (truncate_rows run path size) ≡ Some TooLarge
    truncate_large large = last_row (nat_lt most_file_bytes size) ∙ here (nat_lt most_file_bytes size) TooLarge [] (lt-ltb most_file_bytes size large)

    pub truncate_is : size ≤ most_file_bytes → truncate run path size ≡ written_outcome run ino (FileInode (truncated at.file size)) Plain
    unfolding truncate
    truncate_is few =
        finished run (truncate_rows run path size) (truncate_done run path size) (last_row (nat_lt most_file_bytes size) ∙ past (nat_lt most_file_bytes size) TooLarge [] (le-ltb most_file_bytes size few))
        ∙ ap (λ (file : FileRecord). record { next = with_record_at run place (FileInode (truncated file size)); answer = Plain; made = [] }) file_same
        ∙ ap (λ (next : RunSub). record { next = next; answer = Plain; made = [] }) (record_written run place ino at.at (FileInode (truncated at.file size)))

    -- the room where it isn't refused
    pub truncate_room : size ≤ most_file_bytes → room_for (truncate run path size) (blocks_past (file_there (record_at run.sub place)) size) ≡ 512 + 2 * blocks_past at.file size
    truncate_room few =
        ap (λ (outcome : Outcome). room_for outcome (blocks_past (file_there (record_at run.sub place)) size)) (truncate_is few) ∙ ap (λ (file : FileRecord). 512 + 2 * blocks_past file size) file_same
