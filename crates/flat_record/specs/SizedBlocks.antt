-- A file apart from its attributes.
use Rattle.std.specs.Prelude.{ℕ, refl}
use Rattle.std.specs.Coded.{Coded, code_by, coded×, coded_ℕ}
use Rattle.std.specs.FinMap as map
use Rattle.flat_model.specs.Records.{Attributes, Blocks, FileRecord}
use Rattle.flat_model.specs.Codes.{bytes_code}

-- a size in bytes, and the blocks that are no holes, by their numbers
pub record SizedBlocks : Type 0 where
  pub size : ℕ
  pub blocks : Blocks

-- the code by which a proof tells them apart
abbrev pub sized_code : Coded SizedBlocks
sized_code = code_by (ℕ × Blocks) (coded× coded_ℕ (map.code coded_ℕ bytes_code)) (λ s. (s.size, s.blocks)) (λ p. record { size = p.0; blocks = p.1 }) (λ _. refl)

-- the file with these attributes
abbrev pub file_of : Attributes → SizedBlocks → FileRecord
file_of attributes sized = record { attributes = attributes; size = sized.size; blocks = sized.blocks }
