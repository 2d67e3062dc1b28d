-- The bytes of a file, extent by extent.
use Rattle.std.proofs.Common.{◌≡◌, ◌≢◌, ◌≤◌, ◌<◌, ◌+◌, ◌-◌, ◌++◌, ℕ, List, [], ◌∷◌, length, get_or, drop, true, false, Result, Ok, Err, refl, sym, ap, subst, ◌∙◌, append_assoc, nat_lt, le-ltb, lt-ltb, if◌then◌else◌}
use Rattle.std.specs.Prelude.{bit_xor}
use Rattle.std.proofs.lemmas.Bool.{eq-eqb, ne_eqb}
use Rattle.blk_base.specs.Bytes.{zeros}
use Rattle.blk_base.specs.Crc.{crc32c_of, register_after}
use Rattle.blk_base.proofs.CrcLemmas.{register_after-append}
use Rattle.foreign_format.specs.declared.extent.Coding.{Coding}
use Rattle.foreign_format.specs.declared.extent.Coding.TheVariants.{Plain, Compressed, Encrypted}
use Rattle.foreign_format.specs.declared.extent.Extent.{Extent}
use Rattle.foreign_format.specs.declared.fault.ForeignFault.{ForeignFault}
use Rattle.foreign_format.specs.declared.fault.ReadFault.{ReadFault}
use Rattle.foreign_format.specs.declared.fault.ReadFault.TheVariants.{Foreign, Disk, OutOfMemory}
use Rattle.foreign_format.specs.Answer.{Answers, and_then, then_err, then_ok}
use Rattle.foreign_format.proofs.Rows.{drop_here}
use Rattle.foreign_tree.specs.Tree.{VolumeValue}
use Rattle.foreign_file.specs.declared.file.Sum.{Sum}
use Rattle.foreign_file.specs.declared.file.Sum.TheVariants as sum
use Rattle.foreign_file.specs.File.{below_size, coding_from, coding_of, content_from, file_sum, plain_sum, source_bytes, sum_by}
use Rattle.foreign_file.specs.Registers.{IsRegisterOf}
use Rattle.foreign_file.proofs.Summing.{register_none}

-- ---- codings

coding_here : (extents : List Extent) (i : ℕ) (d : Extent) → i < length extents → coding_of (drop i extents) ≡ coding_from (get_or extents i d).coding (coding_of (drop (i + 1) extents))
coding_here extents i d there = ap coding_of (drop_here extents i d there)

not_plain : (coding rest : Coding) → coding ≢ Plain → coding_from coding rest ≡ coding
not_plain Plain rest other = absurd (other refl)
not_plain Compressed rest other = refl
not_plain Encrypted rest other = refl

pub coding_found : (extents : List Extent) (i : ℕ) (d : Extent) → i < length extents → (get_or extents i d).coding ≢ Plain → coding_of (drop i extents) ≡ coding_of extents → (get_or extents i d).coding ≡ coding_of extents
coding_found extents i d there other before = sym (not_plain (get_or extents i d).coding (coding_of (drop (i + 1) extents)) other) ∙ sym (coding_here extents i d there) ∙ before

-- ---- bytes

-- The bytes of the extents up to a place were summed: all that is left is what stands from there on.
pub record IsSumming (volume : VolumeValue) (disk : List ℕ) (size : ℕ) (extents : List Extent) (register from : ℕ) (rest : List Extent) : Type 0 where
  pub done : List ℕ
  pub summed : register ≡ register_after 0xFFFF_FFFF done
  pub goes : content_from volume disk size 0 extents ≡ and_then (content_from volume disk size from rest) (λ more. Ok (done ++ more))

behind_nothing : (r : Result (List ℕ) ForeignFault) → r ≡ and_then r (λ more. Ok ([] ++ more))
behind_nothing (Ok more) = refl
behind_nothing (Err fault) = refl

pub summing_none : (volume : VolumeValue) (disk : List ℕ) (size : ℕ) (extents : List Extent) → IsSumming volume disk size extents 0xFFFF_FFFF 0 extents
summing_none volume disk size extents = record { done = []; summed = register_none 0xFFFF_FFFF [] refl; goes = behind_nothing (content_from volume disk size 0 extents) }

-- what an extent with bytes below the size adds
abbrev extent_from : VolumeValue → List ℕ → ℕ → ℕ → Extent → List Extent → Result (List ℕ) ForeignFault
extent_from volume disk size from extent extents =
    and_then (source_bytes volume disk extent.source (below_size size extent)) (λ bytes.
    and_then (content_from volume disk size (extent.offset + below_size size extent) extents) (λ rest.
    Ok (zeros (extent.offset - from) ++ (bytes ++ rest))))

passed_over : (volume : VolumeValue) (disk : List ℕ) (size from : ℕ) (extent : Extent) (extents : List Extent) → below_size size extent ≡ 0 → content_from volume disk size from (extent ∷ extents) ≡ content_from volume disk size from extents
unfolding content_from
passed_over volume disk size from extent extents none = rw (eq-eqb (below_size size extent) 0 none) refl

looked_at : (volume : VolumeValue) (disk : List ℕ) (size from : ℕ) (extent : Extent) (extents : List Extent) → below_size size extent ≢ 0 → content_from volume disk size from (extent ∷ extents) ≡ extent_from volume disk size from extent extents
unfolding content_from
looked_at volume disk size from extent extents some = rw (ne_eqb (below_size size extent) 0 some) refl

at_the_end : (volume : VolumeValue) (disk : List ℕ) (size from : ℕ) → content_from volume disk size from [] ≡ Ok (zeros (size - from))
unfolding content_from
at_the_end volume disk size from = refl

-- an extent without bytes below the size
pub summing_over : (volume : VolumeValue) (disk : List ℕ) (size : ℕ) (extents : List Extent) (register from : ℕ) (extent : Extent) (rest : List Extent) → below_size size extent ≡ 0
    → IsSumming volume disk size extents register from (extent ∷ rest) → IsSumming volume disk size extents register from rest
summing_over volume disk size extents register from extent rest none one = record {
  done = one.done;
  summed = one.summed;
  goes = one.goes ∙ ap (λ (r : Result (List ℕ) ForeignFault). and_then r (λ more. Ok (one.done ++ more))) (passed_over volume disk size from extent rest none);
}

regroup : (r : Result (List ℕ) ForeignFault) (done gap bytes : List ℕ) → and_then (and_then r (λ rest. Ok (gap ++ (bytes ++ rest)))) (λ more. Ok (done ++ more)) ≡ and_then r (λ more. Ok ((done ++ (gap ++ bytes)) ++ more))
regroup (Ok rest) done gap bytes = ap Ok (ap (λ (xs : List ℕ). done ++ xs) (sym (append_assoc gap bytes rest)) ∙ sym (append_assoc done (gap ++ bytes) rest))
regroup (Err fault) done gap bytes = refl

-- one extent more
pub summing_more : (volume : VolumeValue) (disk : List ℕ) (size : ℕ) (extents : List Extent) (register before after from next : ℕ) (extent : Extent) (rest : List Extent) (bytes : List ℕ) → below_size size extent ≢ 0
    → IsSumming volume disk size extents register from (extent ∷ rest) → before ≡ register_after register (zeros (extent.offset - from)) → source_bytes volume disk extent.source (below_size size extent) ≡ Ok bytes → after ≡ register_after before bytes
    → next ≡ extent.offset + below_size size extent → IsSumming volume disk size extents after next rest
summing_more volume disk size extents register before after from next extent rest bytes some one gap read more is = record {
  done = one.done ++ (zeros (extent.offset - from) ++ bytes);
  summed = more
      ∙ ap (λ (r : ℕ). register_after r bytes) (gap ∙ ap (λ (r : ℕ). register_after r (zeros (extent.offset - from))) one.summed ∙ sym (register_after-append 0xFFFF_FFFF one.done (zeros (extent.offset - from))))
      ∙ sym (register_after-append 0xFFFF_FFFF (one.done ++ zeros (extent.offset - from)) bytes)
      ∙ ap (register_after 0xFFFF_FFFF) (append_assoc one.done (zeros (extent.offset - from)) bytes);
  goes = one.goes
      ∙ ap (λ (r : Result (List ℕ) ForeignFault). and_then r (λ more. Ok (one.done ++ more)))
      (looked_at volume disk size from extent rest some
      ∙ ap (λ (r : Result (List ℕ) ForeignFault). and_then r (λ bytes. and_then (content_from volume disk size (extent.offset + below_size size extent) rest) (λ rest. Ok (zeros (extent.offset - from) ++ (bytes ++ rest))))) read)
      ∙ regroup (content_from volume disk size (extent.offset + below_size size extent) rest) one.done (zeros (extent.offset - from)) bytes
      ∙ ap (λ (n : ℕ). and_then (content_from volume disk size n rest) (λ more. Ok ((one.done ++ (zeros (extent.offset - from) ++ bytes)) ++ more))) (sym is);
}

-- an extent's fault is the file's
pub summing_fails : (volume : VolumeValue) (disk : List ℕ) (size : ℕ) (extents : List Extent) (register before from : ℕ) (extent : Extent) (rest : List Extent) (failed : ReadFault) → below_size size extent ≢ 0
    → IsSumming volume disk size extents register from (extent ∷ rest) → IsRegisterOf before (Err failed) (source_bytes volume disk extent.source (below_size size extent)) → IsRegisterOf 0xFFFF_FFFF (Err failed) (content_from volume disk size 0 extents)
summing_fails volume disk size extents register before from extent rest (Foreign fault) some one bad =
    one.goes
    ∙ ap (λ (r : Result (List ℕ) ForeignFault). and_then r (λ more. Ok (one.done ++ more)))
    (looked_at volume disk size from extent rest some
    ∙ ap (λ (r : Result (List ℕ) ForeignFault). and_then r (λ bytes. and_then (content_from volume disk size (extent.offset + below_size size extent) rest) (λ rest. Ok (zeros (extent.offset - from) ++ (bytes ++ rest))))) bad)
summing_fails volume disk size extents register before from extent rest Disk some one bad = tt
summing_fails volume disk size extents register before from extent rest OutOfMemory some one bad = tt

-- behind the last extent
pub summing_all : (volume : VolumeValue) (disk : List ℕ) (size : ℕ) (extents : List Extent) (register after from : ℕ) (rest : List Extent) → rest ≡ [] → IsSumming volume disk size extents register from rest
    → after ≡ register_after register (zeros (size - from)) → IsRegisterOf 0xFFFF_FFFF (Ok after) (content_from volume disk size 0 extents)
summing_all volume disk size extents register after from rest none one last = (
  one.done ++ zeros (size - from),
  one.goes ∙ ap (λ (r : Result (List ℕ) ForeignFault). and_then r (λ more. Ok (one.done ++ more))) (ap (content_from volume disk size from) none ∙ at_the_end volume disk size from),
  last ∙ ap (λ (r : ℕ). register_after r (zeros (size - from))) one.summed ∙ sym (register_after-append 0xFFFF_FFFF one.done (zeros (size - from))),
)

-- ---- by places

abbrev with_count : VolumeValue → List ℕ → Extent → ℕ → Result (List ℕ) ForeignFault
with_count volume disk extent count = source_bytes volume disk extent.source count

pub over_at : (volume : VolumeValue) (disk : List ℕ) (size : ℕ) (extents : List Extent) (register from : ℕ) (i : ℕ) (d : Extent) (count : ℕ) → i < length extents → count ≡ below_size size (get_or extents i d) → count ≡ 0
    → IsSumming volume disk size extents register from (drop i extents) → IsSumming volume disk size extents register from (drop (i + 1) extents)
over_at volume disk size extents register from i d count there is none one =
    summing_over volume disk size extents register from (get_or extents i d) (drop (i + 1) extents) (sym is ∙ none)
    (subst (IsSumming volume disk size extents register from) (drop_here extents i d there) one)

pub more_at : (volume : VolumeValue) (disk : List ℕ) (size : ℕ) (extents : List Extent) (register before after from next gap : ℕ) (i : ℕ) (d : Extent) (count : ℕ) → i < length extents → count ≡ below_size size (get_or extents i d) → count ≢ 0
    → IsSumming volume disk size extents register from (drop i extents) → gap ≡ (get_or extents i d).offset - from → before ≡ register_after register (zeros gap)
    → IsRegisterOf before (Ok after) (with_count volume disk (get_or extents i d) count) → next ≡ (get_or extents i d).offset + count → IsSumming volume disk size extents after next (drop (i + 1) extents)
more_at volume disk size extents register before after from next gap i d count there is some one gap_is before_is (bytes, read, more) next_is =
    summing_more volume disk size extents register before after from next (get_or extents i d) (drop (i + 1) extents) bytes (λ none. some (is ∙ none))
    (subst (IsSumming volume disk size extents register from) (drop_here extents i d there) one)
    (before_is ∙ ap (λ (n : ℕ). register_after register (zeros n)) gap_is)
    (ap (with_count volume disk (get_or extents i d)) (sym is) ∙ read) more (next_is ∙ ap (λ (n : ℕ). (get_or extents i d).offset + n) is)

pub fails_at : (volume : VolumeValue) (disk : List ℕ) (size : ℕ) (extents : List Extent) (register before from : ℕ) (i : ℕ) (d : Extent) (count : ℕ) (failed : ReadFault) → i < length extents → count ≡ below_size size (get_or extents i d) → count ≢ 0
    → IsSumming volume disk size extents register from (drop i extents) → IsRegisterOf before (Err failed) (with_count volume disk (get_or extents i d) count) → IsRegisterOf 0xFFFF_FFFF (Err failed) (content_from volume disk size 0 extents)
fails_at volume disk size extents register before from i d count failed there is some one bad =
    summing_fails volume disk size extents register before from (get_or extents i d) (drop (i + 1) extents) failed (λ none. some (is ∙ none))
    (subst (IsSumming volume disk size extents register from) (drop_here extents i d there) one)
    (subst (λ (n : ℕ). IsRegisterOf before (Err failed) (with_count volume disk (get_or extents i d) n)) is bad)

-- ---- the sum

pub not_summed : (volume : VolumeValue) (disk : List ℕ) (size : ℕ) (extents : List Extent) (sum : Sum) → sum_by (coding_of extents) (plain_sum volume disk size extents) ≡ Ok sum → file_sum volume disk size extents ≡ Ok sum
unfolding file_sum
not_summed volume disk size extents sum is = is

pub plain_file : (volume : VolumeValue) (disk : List ℕ) (size : ℕ) (extents : List Extent) → Plain ≡ coding_of extents → file_sum volume disk size extents ≡ plain_sum volume disk size extents
unfolding file_sum
plain_file volume disk size extents is = ap (λ (c : Coding). sum_by c (plain_sum volume disk size extents)) (sym is)

pub large_file : (volume : VolumeValue) (disk : List ℕ) (size : ℕ) (extents : List Extent) → Plain ≡ coding_of extents → 1073741824 < size → file_sum volume disk size extents ≡ Ok sum.Large
large_file volume disk size extents is large = plain_file volume disk size extents is ∙ finds_large (content_from volume disk size 0 extents) (lt-ltb 1073741824 size large)
  where
    finds_large : (content : Result (List ℕ) ForeignFault) → nat_lt 1073741824 size ≡ true → (if nat_lt 1073741824 size then Ok sum.Large else and_then content (λ bytes. Ok (sum.Taken (crc32c_of bytes)))) ≡ Ok sum.Large
    finds_large content h = rw h refl

small_file : (volume : VolumeValue) (disk : List ℕ) (size : ℕ) (extents : List Extent) → Plain ≡ coding_of extents → size ≤ 1073741824 → file_sum volume disk size extents ≡ and_then (content_from volume disk size 0 extents) (λ bytes. Ok (sum.Taken (crc32c_of bytes)))
small_file volume disk size extents is small = plain_file volume disk size extents is ∙ finds_small (content_from volume disk size 0 extents) (le-ltb 1073741824 size small)
  where
    finds_small : (content : Result (List ℕ) ForeignFault) → nat_lt 1073741824 size ≡ false → (if nat_lt 1073741824 size then Ok sum.Large else and_then content (λ bytes. Ok (sum.Taken (crc32c_of bytes)))) ≡ and_then content (λ bytes. Ok (sum.Taken (crc32c_of bytes)))
    finds_small content h = rw h refl

pub sum_taken : (volume : VolumeValue) (disk : List ℕ) (size : ℕ) (extents : List Extent) (register : ℕ) → Plain ≡ coding_of extents → size ≤ 1073741824 → IsRegisterOf 0xFFFF_FFFF (Ok register) (content_from volume disk size 0 extents)
    → file_sum volume disk size extents ≡ Ok (sum.Taken (bit_xor register 0xFFFF_FFFF))
unfolding crc32c_of
sum_taken volume disk size extents register is small (bytes, read, more) =
    small_file volume disk size extents is small
    ∙ then_ok (content_from volume disk size 0 extents) (λ bytes. Ok (sum.Taken (crc32c_of bytes))) bytes read
    ∙ ap (λ (r : ℕ). Ok (sum.Taken (bit_xor r 0xFFFF_FFFF))) (sym more)

pub sum_failed : {S : Type 0} (shown : S → Sum) (volume : VolumeValue) (disk : List ℕ) (size : ℕ) (extents : List Extent) (failed : ReadFault) → Plain ≡ coding_of extents → size ≤ 1073741824 → IsRegisterOf 0xFFFF_FFFF (Err failed) (content_from volume disk size 0 extents)
    → Answers shown (Err failed) (file_sum volume disk size extents)
sum_failed shown volume disk size extents (Foreign fault) is small bad =
    small_file volume disk size extents is small ∙ then_err (content_from volume disk size 0 extents) (λ bytes. Ok (sum.Taken (crc32c_of bytes))) fault bad
sum_failed shown volume disk size extents Disk is small bad = tt
sum_failed shown volume disk size extents OutOfMemory is small bad = tt
