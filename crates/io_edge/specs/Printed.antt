-- Bytes and sums as they are printed.
use Rattle.std.specs.Prelude.{ℕ, ◌/◌, ◌%◌, ◌++◌, ◌∷◌, [], Bool, false, cond, ◌&&◌, not, List, codes, nat_eq, nat_le}
use Rattle.std.specs.List.{flat_map}
use Rattle.std.specs.Fmt.{digit_glyph}

-- whether a byte is printed as itself: 0x21 to 0x7e, but the backslash (own)
abbrev pub is_plain : ℕ → Bool
is_plain byte = nat_le 0x21 byte && nat_le byte 0x7e && not (nat_eq byte 0x5c)

-- a byte in two hexadecimal digits, lower case (own)
abbrev pub hex_pair : ℕ → List ℕ
hex_pair byte = digit_glyph false (byte / 16) ∷ digit_glyph false (byte % 16) ∷ []

-- a byte as it is printed: as itself, or as `\x` and its digits (own)
unfoldable pub printed_byte : ℕ → List ℕ
printed_byte byte = cond (is_plain byte) (byte ∷ []) (codes "\\x" ++ hex_pair byte)

-- bytes as they are printed (own)
unfoldable pub printed : List ℕ → List ℕ
printed bytes = flat_map printed_byte bytes

-- a sum of 32 bits in eight hexadecimal digits, lower case (own)
unfoldable pub hex8 : ℕ → List ℕ
hex8 sum = hex_pair (sum / 16777216) ++ hex_pair (sum / 65536 % 256) ++ hex_pair (sum / 256 % 256) ++ hex_pair (sum % 256)
