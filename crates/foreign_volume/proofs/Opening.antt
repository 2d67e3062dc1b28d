-- Volumes as they are opened, step by step.
use Rattle.std.proofs.Common.{◌≡◌, ◌≤◌, ℕ, suc, zero, List, [], ◌∷◌, length, slice_index_or, Option, Some, None, Result, Ok, Err, refl, sym, ap, subst, ◌∙◌, arith}
use Rattle.blk_base.specs.Bytes.{Image, zeros}
use Rattle.disk_model.specs.Disk.{IfTold}
use Rattle.foreign_format.specs.declared.chunk.Chunk.{Chunk}
use Rattle.foreign_format.specs.declared.chunk.ChunkRow.{ChunkRow}
use Rattle.foreign_format.specs.declared.fault.ForeignFault.{ForeignFault}
use Rattle.foreign_format.specs.declared.fault.ReadFault.{ReadFault}
use Rattle.foreign_format.specs.declared.superblock.Superblock.{Superblock}
use Rattle.foreign_format.specs.Chunks.{in_row}
use Rattle.foreign_format.specs.Super.{super_of}
use Rattle.foreign_format.specs.Answer.{Answers, and_then, answers_err, answers_same, answers_then, then_err, then_ok}
use Rattle.foreign_tree.specs.Tree.{VolumeValue, Walked, disk_bytes, tree_of}
use Rattle.foreign_volume.specs.Opened.{OpenedValue, array_chunks, chunk_rows, chunk_root, opened_of, size_of, super_bytes, tree_chunks, volume_with}
use Rattle.foreign_volume.specs.View.{opened_value}

past_end : {X : Type 0} (xs : List X) (d : X) (at : ℕ) → length xs ≤ at → slice_index_or xs at d ≡ d
past_end [] d zero past = refl
past_end [] d (suc at) past = refl
past_end (x ∷ xs) d zero past = absurd (omega arith)
past_end (x ∷ xs) d (suc at) past = past_end xs d at (omega arith)

-- a disk without the superblock's block counts as zeros there
pub super_past : (seen : Option Image) (count : ℕ) → IfTold seen (λ image. length image ≡ count) → count ≤ 16 → IfTold seen (λ image. super_bytes image ≡ zeros 4096)
super_past None count all few = tt
super_past (Some image) count all few = past_end image (zeros 4096) 16 (omega arith)

-- the chunks of the rows that a walk over the chunk tree met
pub tree_then : {C : Type 0} (shown : C → List Chunk) (image : Image) (blocks : ℕ) (superblock : Superblock) (chunks : List Chunk) (volume : VolumeValue) (rows : List ChunkRow) (result : Result C ReadFault) (walked : Walked)
    → volume ≡ volume_with superblock chunks → tree_of volume (disk_bytes image) (chunk_root superblock) ≡ Ok walked → rows ≡ chunk_rows walked.items → Answers shown result (in_row (size_of blocks) 0 [] rows)
    → Answers shown result (tree_chunks blocks image superblock chunks)
tree_then shown image blocks superblock chunks volume rows result walked same is met answer =
    answers_then shown result (tree_of (volume_with superblock chunks) (disk_bytes image) (chunk_root superblock)) (λ walked. in_row (size_of blocks) 0 [] (chunk_rows walked.items)) walked
    (ap (λ (v : VolumeValue). tree_of v (disk_bytes image) (chunk_root superblock)) (sym same) ∙ is)
    (subst (λ (rows : List ChunkRow). Answers shown result (in_row (size_of blocks) 0 [] rows)) met answer)

pub answer_at : {C : Type 0} (shown : C → List Chunk) (result : Result C ReadFault) (blocks blocks' : ℕ) (rows rows' : List ChunkRow) → blocks ≡ blocks' → rows ≡ rows'
    → Answers shown result (in_row (size_of blocks) 0 [] rows) → Answers shown result (in_row (size_of blocks') 0 [] rows')
answer_at shown result blocks blocks' rows rows' same same' answer =
    subst (λ (rows : List ChunkRow). Answers shown result (in_row (size_of blocks') 0 [] rows)) same' (subst (λ (n : ℕ). Answers shown result (in_row (size_of n) 0 [] rows)) same answer)

-- ---- the steps of opening a volume

-- what stands behind the superblock
abbrev behind_super : ℕ → Image → List ℕ → Superblock → Result OpenedValue ForeignFault
behind_super blocks image block superblock =
    and_then (array_chunks blocks block) (λ first. and_then (tree_chunks blocks image superblock first) (λ chunks. Ok (record { superblock = superblock; volume = volume_with superblock chunks })))

-- by the block that was read
opened_by : (blocks : ℕ) (image : Image) (block : List ℕ) → super_bytes image ≡ block → opened_of blocks image ≡ and_then (super_of block) (behind_super blocks image block)
unfolding opened_of
opened_by blocks image block is = ap (λ (bytes : List ℕ). and_then (super_of bytes) (behind_super blocks image bytes)) is

pub bad_super : (blocks : ℕ) (image : Image) (block : List ℕ) (fault : ForeignFault) → super_bytes image ≡ block → super_of block ≡ Err fault → opened_of blocks image ≡ Err fault
bad_super blocks image block fault is bad = opened_by blocks image block is ∙ then_err (super_of block) (behind_super blocks image block) fault bad

pub bad_array : {C : Type 0} (shown : C → List Chunk) (blocks count : ℕ) (image : Image) (block : List ℕ) (superblock : Superblock) (failed : ReadFault) → blocks ≡ count → super_bytes image ≡ block → super_of block ≡ Ok superblock
    → Answers shown (Err failed) (array_chunks blocks block) → Answers opened_value (Err failed) (opened_of count image)
bad_array shown blocks count image block superblock failed same is good answer =
    subst (λ (n : ℕ). Answers opened_value (Err failed) (opened_of n image)) same
    (answers_same opened_value (Err failed) (and_then (super_of block) (behind_super blocks image block)) (opened_of blocks image) (opened_by blocks image block is)
    (answers_then opened_value (Err failed) (super_of block) (behind_super blocks image block) superblock good
    (answers_err opened_value failed (array_chunks blocks block) (λ first. and_then (tree_chunks blocks image superblock first) (λ chunks. Ok (record { superblock = superblock; volume = volume_with superblock chunks }))) shown answer)))

-- behind the superblock's chunks
then_super : (blocks count : ℕ) (image : Image) (block : List ℕ) (superblock : Superblock) (first : List Chunk) → blocks ≡ count → super_bytes image ≡ block → super_of block ≡ Ok superblock
    → array_chunks blocks block ≡ Ok first → opened_of count image ≡ and_then (tree_chunks count image superblock first) (λ chunks. Ok (record { superblock = superblock; volume = volume_with superblock chunks }))
then_super blocks count image block superblock first same is good array =
    let array' : array_chunks count block ≡ Ok first = ap (λ (n : ℕ). array_chunks n block) (sym same) ∙ array in
    opened_by count image block is
    ∙ then_ok (super_of block) (behind_super count image block) superblock good
    ∙ then_ok (array_chunks count block) (λ first. and_then (tree_chunks count image superblock first) (λ chunks. Ok (record { superblock = superblock; volume = volume_with superblock chunks }))) first array'

pub bad_tree : {C : Type 0} (shown : C → List Chunk) (blocks count read : ℕ) (image : Image) (block : List ℕ) (superblock : Superblock) (first : C) (failed : ReadFault) → blocks ≡ count → super_bytes image ≡ block → super_of block ≡ Ok superblock
    → array_chunks blocks block ≡ Ok (shown first) → read ≡ count → Answers shown (Err failed) (tree_chunks read image superblock (shown first)) → Answers opened_value (Err failed) (opened_of count image)
bad_tree shown blocks count read image block superblock first failed same is good array kept answer =
    answers_same opened_value (Err failed) _ (opened_of count image) (then_super blocks count image block superblock (shown first) same is good array)
    (answers_err opened_value failed (tree_chunks count image superblock (shown first)) (λ chunks. Ok (record { superblock = superblock; volume = volume_with superblock chunks })) shown
    (subst (λ (n : ℕ). Answers shown (Err failed) (tree_chunks n image superblock (shown first))) kept answer))

pub opened_ok : {C : Type 0} (shown : C → List Chunk) (blocks count read : ℕ) (image : Image) (block : List ℕ) (superblock : Superblock) (first : C) (chunks : List Chunk) (volume : VolumeValue) → blocks ≡ count → super_bytes image ≡ block → super_of block ≡ Ok superblock
    → array_chunks blocks block ≡ Ok (shown first) → read ≡ count → tree_chunks read image superblock (shown first) ≡ Ok chunks → volume ≡ volume_with superblock chunks → opened_of count image ≡ Ok (record { superblock = superblock; volume = volume })
opened_ok shown blocks count read image block superblock first chunks volume same is good array kept tree with =
    then_super blocks count image block superblock (shown first) same is good array
    ∙ then_ok (tree_chunks count image superblock (shown first)) (λ chunks. Ok (record { superblock = superblock; volume = volume_with superblock chunks })) chunks
    (ap (λ (n : ℕ). tree_chunks n image superblock (shown first)) (sym kept) ∙ tree)
    ∙ ap Ok (λ i. record { superblock = superblock; volume = sym with i })
