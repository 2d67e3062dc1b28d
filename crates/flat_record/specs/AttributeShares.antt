-- How many bytes of an XATTR_ITEM item an attribute takes, and when it keeps its limits.
use Rattle.std.specs.Prelude.{ℕ, ◌≤◌, Bool, true, cond, not, ◌&&◌, List, length, Option, Some, None, nat_eq, bytes_eq}
use Rattle.blk_base.specs.Crc.{name_hash_of}
use Rattle.flat_model.specs.Lengths.{attribute_length}
use Rattle.flat_model.specs.Coherent.{IsNameBytes, AreBytes}

-- whether a name is another than this, where one is given
abbrev pub is_other : Option (List ℕ) → List ℕ → Bool
is_other None name = true
is_other (Some without) name = not (bytes_eq name without)

-- the bytes of an attribute's entry in the item of a hash, where its name has that hash and is another than this ("XATTR_ITEM")
abbrev pub share_of : ℕ → Option (List ℕ) → List ℕ × List ℕ → ℕ
share_of hash without attribute = cond (is_other without attribute.0 && nat_eq (name_hash_of attribute.0) hash) (attribute_length attribute) 0

-- an attribute keeps its limits: its name is a name, and its value has 1 to 1024 bytes ("XATTR_ITEM", own limits)
abbrev pub KeepsAttribute : List ℕ × List ℕ → Type 0
KeepsAttribute attribute = IsNameBytes attribute.0 × (1 ≤ length attribute.1) × (length attribute.1 ≤ 1024) × AreBytes attribute.1
