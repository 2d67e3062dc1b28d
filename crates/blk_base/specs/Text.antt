-- Texts, kept as their bytes or as one byte many times.
use Rattle.std.specs.Prelude.{ℕ, List, replicate}
use Rattle.blk_base.specs.declared.text.Kept.{Kept}
use Rattle.blk_base.specs.declared.text.Kept.TheVariants.{Bytes, Run}

-- the bytes that are kept (own)
abbrev pub kept_bytes : Kept → List ℕ
kept_bytes (Bytes bytes) = bytes.items
kept_bytes (Run count byte) = replicate count byte
