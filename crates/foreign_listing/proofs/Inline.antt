-- The bytes of an inline extent, which no item of a disk has past the disk's end.
use Rattle.std.proofs.Common.{◌≡◌, ◌-◌, ◌*◌, min, ℕ, List, [], ◌∷◌, length, take, drop, Option, Result, Ok, Err, refl, sym, ap, ◌∙◌, arith, inl, inr, length-append}
use Rattle.std.specs.Prelude.{IfErr, IfOk}
use Rattle.std.proofs.Math.ListN.{drop_of_length-le}
use Rattle.std.proofs.lemmas.Bool.{cases_lt}
use Rattle.std.proofs.lemmas.List.{length-drop, take_all}
use Rattle.std.proofs.lemmas.List.Elements.{All-head, All-tail}
use Rattle.blk_base.specs.Bytes.{Image, IsBlock, IsImage, bytes_at}
use Rattle.disk_model.specs.Disk.{IfTold}
use Rattle.foreign_format.specs.declared.fault.ReadFault.{ReadFault}
use Rattle.foreign_format.specs.declared.fault.ReadFault.TheVariants.{Foreign, Disk, OutOfMemory}
use Rattle.foreign_format.specs.Answer.{Answers}
use Rattle.foreign_tree.specs.Answers.{IsNoCheck}
use Rattle.foreign_tree.specs.Tree.{disk_bytes}
use Rattle.foreign_tree.proofs.Told.{told_always, told_three}

-- bytes that are asked for past the end, and those that are there
cut : (xs : List ℕ) (at count n place : ℕ) → n ≡ min count (length xs - at) → place ≡ min at (length xs) → bytes_at n xs place ≡ bytes_at count xs at
cut xs at count n place is_n is_place = elim (cases_lt (length xs) at) [
  | inl past ↦ (
      let none : n ≡ 0 = omega arith in
      let gone : drop at xs ≡ [] = drop_of_length-le xs (omega arith) in
      ap (λ (k : ℕ). bytes_at k xs place) none ∙ sym (ap (take count) gone ∙ take_all count [] (omega arith))
      )
  | inr inside ↦ (
      let here : place ≡ at = omega arith in
      let left = length-drop at xs in
      ap (λ (p : ℕ). bytes_at n xs p) here
      ∙ elim (cases_lt (length xs - at) count) [
        | inl short ↦ take_all n (drop at xs) (omega arith) ∙ sym (take_all count (drop at xs) (omega arith))
        | inr enough ↦ (let all : n ≡ count = omega arith in ap (λ (k : ℕ). bytes_at k xs at) all)
      ]
      )
]

length_bytes : (image : Image) → IsImage image → length (disk_bytes image) ≡ 4096 * length image
length_bytes [] are = refl
length_bytes (block ∷ image) are =
    let size : length block ≡ 4096 = (All-head IsBlock block image are).size in
    let rest = length_bytes image (All-tail IsBlock block image are) in
    let whole = length-append block (disk_bytes image) in
    omega arith

pub inline_read : {V : Type 0} (shown : V → List ℕ) (seen : Option Image) (blocks size at count n place : ℕ) (result : Result V ReadFault) → IfTold seen IsImage → IfTold seen (λ image. length image ≡ blocks)
    → size ≡ 4096 * blocks → n ≡ min count (size - at) → place ≡ min at size
    → IfOk result (λ part. IfTold seen (λ image. shown part ≡ bytes_at n (disk_bytes image) place)) → IfErr result IsNoCheck
    → IfTold seen (λ image. Answers shown result (Ok (bytes_at count (disk_bytes image) at)))
inline_read shown seen blocks size at count n place (Ok part) are all sized is_n is_place ok err =
    told_three seen _ _ _ _ are all ok
    (λ image are all read.
    let long : length (disk_bytes image) ≡ size = length_bytes image are ∙ ap (λ (k : ℕ). 4096 * k) all ∙ sym sized in
    let same : bytes_at n (disk_bytes image) place ≡ bytes_at count (disk_bytes image) at = cut (disk_bytes image) at count n place (omega arith) (omega arith) in
    ap Ok (sym (read ∙ same)))
inline_read shown seen blocks size at count n place (Err (Foreign fault)) are all sized is_n is_place ok err = absurd err
inline_read shown seen blocks size at count n place (Err Disk) are all sized is_n is_place ok err = told_always seen _ (λ image. tt)
inline_read shown seen blocks size at count n place (Err OutOfMemory) are all sized is_n is_place ok err = told_always seen _ (λ image. tt)
