-- Bytes summed piece by piece.
use Rattle.std.proofs.Common.{◌≡◌, ◌≤◌, ◌+◌, ◌-◌, ◌*◌, ◌++◌, min, ℕ, List, [], ◌∷◌, length, take, drop, replicate, Option, Result, Ok, Err, refl, sym, ap, ◌∙◌, arith, inl, inr, length-append}
use Rattle.std.specs.Prelude.{IfErr, IfOk}
use Rattle.std.proofs.Math.ListN.{drop_of_length-le}
use Rattle.std.proofs.Math.Seq.{take-add}
use Rattle.std.proofs.lemmas.Bool.{cases_lt}
use Rattle.std.proofs.lemmas.List.{drop-drop, length-drop, replicate-append-replicate, take-replicate, take_all}
use Rattle.std.proofs.lemmas.List.Elements.{All-head, All-tail}
use Rattle.blk_base.specs.Bytes.{Image, IsBlock, IsImage, bytes_at, zeros}
use Rattle.blk_base.specs.Crc.{register_after}
use Rattle.blk_base.proofs.CrcLemmas.{register_after-append}
use Rattle.disk_model.specs.Disk.{IfTold}
use Rattle.foreign_format.specs.declared.extent.Source.{Source}
use Rattle.foreign_format.specs.declared.extent.Source.TheVariants.{Inline}
use Rattle.foreign_format.specs.declared.fault.ReadFault.{ReadFault}
use Rattle.foreign_format.specs.declared.fault.ReadFault.TheVariants.{Foreign, Disk, OutOfMemory}
use Rattle.foreign_tree.specs.Answers.{IsNoCheck}
use Rattle.foreign_tree.specs.Tree.{VolumeValue, disk_bytes}
use Rattle.foreign_tree.proofs.Told.{told_always, told_three}
use Rattle.foreign_file.specs.File.{source_bytes}
use Rattle.foreign_file.specs.Registers.{IsRegisterOf}

-- no byte more
pub register_none : (register : ℕ) (bytes : List ℕ) → bytes ≡ [] → register ≡ register_after register bytes
unfolding register_after
register_none register bytes is = rw is refl

-- zeros more
pub zeros_more : (register piece left step : ℕ) → step ≤ left → step ≤ piece → register_after (register_after register (take step (replicate piece 0))) (zeros (left - step)) ≡ register_after register (zeros left)
zeros_more register piece left step within small =
    ap (λ (bytes : List ℕ). register_after (register_after register bytes) (zeros (left - step))) (take-replicate step piece 0 small)
    ∙ sym (register_after-append register (zeros step) (zeros (left - step)))
    ∙ ap (register_after register) (replicate-append-replicate step (left - step) 0 ∙ ap zeros (let all : step + (left - step) ≡ left = omega arith in all))

-- bytes of a range more
pub range_more : (register after now : ℕ) (bytes part : List ℕ) (place done step : ℕ) → after ≡ register_after register (bytes_at done bytes place) → part ≡ bytes_at step bytes (place + done) → now ≡ register_after after part
    → now ≡ register_after register (bytes_at (done + step) bytes place)
range_more register after now bytes part place done step is read more =
    more
    ∙ ap (register_after after) read
    ∙ ap (λ (r : ℕ). register_after r (bytes_at step bytes (place + done))) is
    ∙ sym (register_after-append register (bytes_at done bytes place) (bytes_at step bytes (place + done)))
    ∙ ap (register_after register) (ap (λ (rest : List ℕ). bytes_at done bytes place ++ take step rest) (sym (drop-drop done place bytes)) ∙ sym (take-add done step (drop place bytes)))

-- ---- bytes in an item

-- bytes that are asked for past the end, and those that are there
cut : (xs : List ℕ) (at count n place : ℕ) → n ≡ min count (length xs - at) → place ≡ min at (length xs) → bytes_at n xs place ≡ bytes_at count xs at
cut xs at count n place is_n is_place = elim (cases_lt (length xs) at) [
  | inl past ↦ (
      let none : n ≡ 0 = omega arith in
      let gone : drop at xs ≡ [] = drop_of_length-le xs (omega arith) in
      ap (λ (k : ℕ). bytes_at k xs place) none ∙ sym (ap (take count) gone ∙ take_all count [] (omega arith))
      )
  | inr inside ↦ (
      let here : place ≡ at = omega arith in
      let left = length-drop at xs in
      ap (λ (p : ℕ). bytes_at n xs p) here
      ∙ elim (cases_lt (length xs - at) count) [
        | inl short ↦ take_all n (drop at xs) (omega arith) ∙ sym (take_all count (drop at xs) (omega arith))
        | inr enough ↦ (let all : n ≡ count = omega arith in ap (λ (k : ℕ). bytes_at k xs at) all)
      ]
      )
]

length_bytes : (image : Image) → IsImage image → length (disk_bytes image) ≡ 4096 * length image
length_bytes [] are = refl
length_bytes (block ∷ image) are =
    let size : length block ≡ 4096 = (All-head IsBlock block image are).size in
    let rest = length_bytes image (All-tail IsBlock block image are) in
    let whole = length-append block (disk_bytes image) in
    omega arith

pub inline_answers : (seen : Option Image) (blocks size register at long count n place : ℕ) (volume : VolumeValue) (source : Source) (result : Result ℕ ReadFault) → IfTold seen IsImage → IfTold seen (λ image. length image ≡ blocks)
    → source ≡ Inline at long → size ≡ 4096 * blocks → n ≡ min count (size - at) → place ≡ min at size
    → IfOk result (λ after. IfTold seen (λ image. after ≡ register_after register (bytes_at n (disk_bytes image) place))) → IfErr result IsNoCheck
    → IfTold seen (λ image. IsRegisterOf register result (source_bytes volume (disk_bytes image) source count))
inline_answers seen blocks size register at long count n place volume source (Ok after) are all is sized is_n is_place ok err =
    told_three seen _ _ _ _ are all ok
    (λ image are all read.
    let long' : length (disk_bytes image) ≡ size = length_bytes image are ∙ ap (λ (k : ℕ). 4096 * k) all ∙ sym sized in
    let same : bytes_at n (disk_bytes image) place ≡ bytes_at count (disk_bytes image) at = cut (disk_bytes image) at count n place (omega arith) (omega arith) in
    (bytes_at count (disk_bytes image) at, ap (λ (s : Source). source_bytes volume (disk_bytes image) s count) is, read ∙ ap (register_after register) same))
inline_answers seen blocks size register at long count n place volume source (Err (Foreign fault)) are all is sized is_n is_place ok err = absurd err
inline_answers seen blocks size register at long count n place volume source (Err Disk) are all is sized is_n is_place ok err = told_always seen _ (λ image. tt)
inline_answers seen blocks size register at long count n place volume source (Err OutOfMemory) are all is sized is_n is_place ok err = told_always seen _ (λ image. tt)
