-- The bytes of a file by its extents in ascending order, and what a listing shows of them.
use Rattle.std.specs.Prelude.{ℕ, ◌+◌, ◌-◌, ◌^◌, ◌==◌, nat_lt, min, List, [], ◌∷◌, ◌++◌, Option, Some, None, Result, Ok, Err, if◌then◌else◌}
use Rattle.blk_base.specs.Bytes.{bytes_at, zeros}
use Rattle.blk_base.specs.Crc.{crc32c_of}
use Rattle.foreign_format.specs.declared.extent.Coding.{Coding}
use Rattle.foreign_format.specs.declared.extent.Coding.TheVariants as coding
use Rattle.foreign_format.specs.declared.extent.Extent.{Extent}
use Rattle.foreign_format.specs.declared.extent.Source.{Source}
use Rattle.foreign_format.specs.declared.extent.Source.TheVariants.{Inline, Regular, Zeros}
use Rattle.foreign_format.specs.declared.fault.ForeignFault.{ForeignFault}
use Rattle.foreign_format.specs.declared.fault.ForeignFault.TheVariants.{Unmapped}
use Rattle.foreign_format.specs.Answer.{and_then}
use Rattle.foreign_format.specs.Chunks.{physical_of}
use Rattle.foreign_format.specs.Items.{length_of}
use Rattle.foreign_tree.specs.Tree.{VolumeValue}
use Rattle.foreign_file.specs.declared.file.Sum.{Sum}
use Rattle.foreign_file.specs.declared.file.Sum.TheVariants as sum

-- how many bytes of an extent lie below a file's size
abbrev pub below_size : ℕ → Extent → ℕ
below_size size extent = min (length_of extent) (size - extent.offset)

-- so many bytes that a logical range of the data extent at an address means, which are to be wholly in one chunk
abbrev pub range_bytes : List ℕ → Option ℕ → ℕ → ℕ → Result (List ℕ) ForeignFault
range_bytes disk None at count = Err (Unmapped at)
range_bytes disk (Some place) at count = Ok (bytes_at count disk place)

-- so many bytes of an extent ("EXTENT_DATA"): those in its item, those of a data extent, or zeros
abbrev pub source_bytes : VolumeValue → List ℕ → Source → ℕ → Result (List ℕ) ForeignFault
source_bytes volume disk (Inline at length) count = Ok (bytes_at count disk at)
source_bytes volume disk (Regular at offset length) count = range_bytes disk (physical_of volume.chunks (at + offset) count) at count
source_bytes volume disk (Zeros length) count = Ok (zeros count)

-- The bytes of a file from a place up to its size: those of its extents, and zeros between them and behind them; or the first
-- fault. An extent without a byte below the size isn't looked at.
unfoldable pub content_from : VolumeValue → List ℕ → ℕ → ℕ → List Extent → Result (List ℕ) ForeignFault
content_from volume disk size from [] = Ok (zeros (size - from))
content_from volume disk size from (extent ∷ extents) =
    if below_size size extent == 0 then content_from volume disk size from extents else
    and_then (source_bytes volume disk extent.source (below_size size extent)) (λ bytes.
    and_then (content_from volume disk size (extent.offset + below_size size extent) extents) (λ rest.
    Ok (zeros (extent.offset - from) ++ (bytes ++ rest))))

-- how the first extent that isn't plain is written
abbrev pub coding_from : Coding → Coding → Coding
coding_from coding.Plain rest = rest
coding_from coding.Compressed rest = coding.Compressed
coding_from coding.Encrypted rest = coding.Encrypted

abbrev pub coding_of : List Extent → Coding
coding_of [] = coding.Plain
coding_of (extent ∷ extents) = coding_from extent.coding (coding_of extents)

-- the sum of a file's bytes, of one of up to 1 GiB
abbrev pub plain_sum : VolumeValue → List ℕ → ℕ → List Extent → Result Sum ForeignFault
plain_sum volume disk size extents =
    if nat_lt (2 ^ 30) size then Ok sum.Large else and_then (content_from volume disk size 0 extents) (λ bytes. Ok (sum.Taken (crc32c_of bytes)))

-- what a listing shows of a file's bytes where its extents are written so
abbrev pub sum_by : Coding → Result Sum ForeignFault → Result Sum ForeignFault
sum_by coding.Plain plain = plain
sum_by coding.Compressed plain = Ok sum.Compressed
sum_by coding.Encrypted plain = Ok sum.Encrypted

-- what a listing shows of the bytes of a file of this size, or the first fault
unfoldable pub file_sum : VolumeValue → List ℕ → ℕ → List Extent → Result Sum ForeignFault
file_sum volume disk size extents = sum_by (coding_of extents) (plain_sum volume disk size extents)
