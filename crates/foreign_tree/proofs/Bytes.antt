-- The bytes of a disk, read block by block.
use Rattle.std.proofs.Common.{◌≡◌, ◌≤◌, ◌+◌, ◌*◌, ◌/◌, ◌%◌, ◌++◌, ℕ, zero, suc, List, [], ◌∷◌, length, drop, take, slice_get, Option, Some, sym, ap, ◌∙◌, arith}
use Rattle.std.proofs.Math.Seq.{drop-append-add, take-add}
use Rattle.std.proofs.lemmas.List.{drop-append-le, take-append-le, drop-drop, length-drop}
use Rattle.std.proofs.lemmas.List.Elements.{All-head, All-tail}
use Rattle.blk_base.specs.Bytes.{Image, IsBlock, IsImage, bytes_at}
use Rattle.disk_model.specs.Disk.{IfTold, ReadGives, known}
use Rattle.disk_model.proofs.CrashLaws.{known_read, known_told}
use Rattle.foreign_tree.specs.Tree.{disk_bytes}
use Rattle.foreign_tree.proofs.Told.{told_both}

-- bytes at the front of a joined list
bytes_in_front : (n at : ℕ) (xs ys : List ℕ) → at + n ≤ length xs → bytes_at n (xs ++ ys) at ≡ bytes_at n xs at
bytes_in_front n at xs ys within =
    let room : n ≤ length (drop at xs) = omega (arith, length-drop at xs) in
    ap (take n) (drop-append-le at xs ys (omega arith)) ∙ take-append-le n (drop at xs) ys room

-- bytes behind it
bytes_behind : (n at : ℕ) (xs ys : List ℕ) → bytes_at n (xs ++ ys) (length xs + at) ≡ bytes_at n ys at
bytes_behind n at xs ys = ap (take n) (drop-append-add xs ys at)

-- bytes of one block of a disk
pub block_bytes : (image : Image) → IsImage image → (block : ℕ) (bytes : List ℕ) → slice_get image block ≡ Some bytes
    → (start count : ℕ) → start + count ≤ 4096 → bytes_at count bytes start ≡ bytes_at count (disk_bytes image) (4096 * block + start)
block_bytes [] are block bytes is start count within = absurd cc
block_bytes (first ∷ image) are zero bytes is start count within =
    let same : first ≡ bytes = cc in
    let size : length first ≡ 4096 = (All-head IsBlock first image are).size in
    let at : 4096 * 0 + start ≡ start = omega arith in
    rw (sym same) (sym (ap (bytes_at count (first ++ disk_bytes image)) at ∙ bytes_in_front count start first (disk_bytes image) (omega arith)))
block_bytes (first ∷ image) are (suc block) bytes is start count within =
    let size : length first ≡ 4096 = (All-head IsBlock first image are).size in
    let at : 4096 * suc block + start ≡ length first + (4096 * block + start) = omega arith in
    block_bytes image (All-tail IsBlock first image are) block bytes is start count within
    ∙ sym (ap (bytes_at count (first ++ disk_bytes image)) at ∙ bytes_behind count (4096 * block + start) first (disk_bytes image))

-- what a read of a block says of the disk's bytes
pub read_bytes : (seen : Option Image) (lost : List ℕ) (block : ℕ) (bytes : List ℕ) → IfTold seen IsImage → ReadGives seen lost block bytes
    → IfTold (known seen lost) (λ image. (start count : ℕ) → start + count ≤ 4096 → bytes_at count bytes start ≡ bytes_at count (disk_bytes image) (4096 * block + start))
read_bytes seen lost block bytes blocks gives =
    told_both (known seen lost) _ _ _ (known_told seen lost IsImage blocks) (known_read seen lost block bytes gives) (λ image are is. block_bytes image are block bytes is)

-- one piece more behind those that were read
pub piece_more : (bytes part : List ℕ) (place read count : ℕ) → part ≡ bytes_at read bytes place → part ++ bytes_at count bytes (place + read) ≡ bytes_at (read + count) bytes place
piece_more bytes part place read count is =
    ap (λ (front : List ℕ). front ++ bytes_at count bytes (place + read)) is
    ∙ ap (λ (rest : List ℕ). bytes_at read bytes place ++ take count rest) (sym (drop-drop read place bytes))
    ∙ sym (take-add read count (drop place bytes))

-- the piece of a block that was read
pub piece_read : (image : Image) (block : List ℕ) (at start count n : ℕ)
    → ((start count : ℕ) → start + count ≤ 4096 → bytes_at count block start ≡ bytes_at count (disk_bytes image) (4096 * (at / 4096) + start))
    → start ≡ at % 4096 → n ≡ count → start + count ≤ 4096 → bytes_at n block start ≡ bytes_at count (disk_bytes image) at
piece_read image block at start count n reads rest same within =
    let place : 4096 * (at / 4096) + start ≡ at = omega arith in
    ap (λ (k : ℕ). bytes_at k block start) same ∙ reads start count within ∙ ap (bytes_at count (disk_bytes image)) place
