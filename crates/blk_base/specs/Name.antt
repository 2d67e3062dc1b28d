-- Names of files and attributes.
use Rattle.std.specs.Prelude.{◌≢◌, ◌<◌, ◌≤◌, ℕ, Bool, ◌&&◌, not, nat_le, ◌==◌, List, [], ◌∷◌, length, slice_index}
use Rattle.std.specs.List.{list_all}
use Rattle.std.specs.Str.{bytes_eq}
use Rattle.blk_base.specs.declared.format.TheConstants.{MOST_NAME_BYTES}

-- a name: 1 to 255 bytes, none of them 0 or `/`, and neither `.` nor `..` ("DIR_ITEM": name; own for the bytes that are refused)
pub record IsName (bytes : List ℕ) : Type 0 where
  pub least : 1 ≤ length bytes
  pub most : length bytes ≤ MOST_NAME_BYTES
  pub no_zero : (i : ℕ) → i < length bytes → slice_index bytes i ≢ 0
  pub no_slash : (i : ℕ) → i < length bytes → slice_index bytes i ≢ 47
  pub not_dot : bytes ≢ 46 ∷ []
  pub not_dots : bytes ≢ 46 ∷ 46 ∷ []

-- the test of it, byte by byte (own)
unfoldable pub is_name : List ℕ → Bool
is_name bytes =
    nat_le 1 (length bytes)
    && nat_le (length bytes) MOST_NAME_BYTES
    && list_all (λ byte. not (byte == 0) && not (byte == 47)) bytes
    && not (bytes_eq bytes (46 ∷ []))
    && not (bytes_eq bytes (46 ∷ 46 ∷ []))
