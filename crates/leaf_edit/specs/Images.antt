-- The bytes of keys.
use Rattle.std.specs.Prelude.{ℕ, List, [], ◌∷◌, ◌++◌}
use Rattle.blk_base.specs.declared.key.Key.{Key}
use Rattle.blk_base.specs.Bytes.{number_bytes}

-- the 17 bytes of a key ("Key": object id, type, offset)
unfoldable pub key_image : Key → List ℕ
key_image key = number_bytes 8 key.objectid ++ key.kind ∷ [] ++ number_bytes 8 key.offset
