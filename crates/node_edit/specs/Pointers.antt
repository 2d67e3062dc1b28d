-- Lists of pointers in the bytes of a block, the empty list too, which no node has.
use Rattle.std.specs.Prelude.{◌≡◌, ◌≤◌, ◌<◌, ℕ, zero, suc, List, [], ◌∷◌, ◌++◌, length, get_or, true}
use Rattle.blk_base.specs.Bytes.{number_bytes}
use Rattle.blk_base.specs.Keys.{keys_rise}
use Rattle.blk_base.specs.Leaf.{Pointer, count_of, pointer_of}
use Rattle.leaf_view.specs.Search.{pointer_keys}
use Rattle.leaf_edit.specs.Images.{key_image}

-- the body has these pointers: a node's, where there is one (own)
pub record HasPointers (bytes : List ℕ) (pointers : List Pointer) : Type 0 where
  pub size : length bytes ≡ 4096
  pub count : count_of bytes ≡ length pointers
  pub most : length pointers ≤ 121
  pub rise : keys_rise (pointer_keys pointers) ≡ true
  pub each : (i : ℕ) (d : Pointer) → i < length pointers → pointer_of bytes i ≡ get_or pointers i d

-- the 33 bytes of a pointer ("Internal Node": key, block number as a byte address, generation)
unfoldable pub pointer_image : Pointer → List ℕ
pointer_image pointer = key_image pointer.key ++ number_bytes 8 pointer.at ++ number_bytes 8 pointer.generation

-- the pointers, with another address and generation at a place
abbrev pub with_child : List Pointer → ℕ → ℕ → ℕ → List Pointer
with_child [] i at generation = []
with_child (pointer ∷ pointers) zero at generation = record pointer { at = at; generation = generation } ∷ pointers
with_child (pointer ∷ pointers) (suc i) at generation = pointer ∷ with_child pointers i at generation
