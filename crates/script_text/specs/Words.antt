-- Words of a script: numbers and texts, and the parts of a list of bytes. Bytes stand as their codes: 10 for LF, 32 a space, 35 `#`, 47 `/`,
-- 48 `0`, 58 `:`, 92 a backslash, 97 `a`, 120 `x`.
use Rattle.std.specs.Prelude.{ℕ, ◌+◌, ◌-◌, ◌*◌, ◌^◌, ◌&&◌, nat_le, nat_lt, ◌==◌, if◌then◌else◌, List, [], ◌∷◌, ◌++◌, Option, Some, None, Result, Ok, Err, ok_or, option_to_list}
use Rattle.std.specs.Char.{is_ascii_digit}
use Rattle.std.specs.Option.{option_and_then, option_map}
use Rattle.std.specs.List.{slice_split}
use Rattle.script_text.specs.declared.fault.ScriptKind.{ScriptKind}
use Rattle.script_text.specs.declared.fault.ScriptKind.TheVariants.{Escape, Number}
use Rattle.script_text.specs.Kinds.{◌>>=◌}
use Rattle.script_text.specs.declared.text.Spot.{Spot}
use Rattle.script_text.specs.declared.text.Spot.TheVariants.{Between, Backslash, Hex, High}

-- the parts between the bytes of this value, in their order; none of that value: the bytes are the one part
abbrev pub parts_at : ℕ → List ℕ → List (List ℕ)
parts_at at bytes = slice_split (λ byte. byte == at) bytes

-- ---- numbers

-- the number that these digits spell behind those that spell `front`; none where one is no decimal digit, or from 2^64 on
abbrev pub number_behind : ℕ → List ℕ → Option ℕ
number_behind front [] = Some front
number_behind front (digit ∷ digits) =
    if is_ascii_digit digit && nat_lt (10 * front + (digit - 48)) (2 ^ 64) then number_behind (10 * front + (digit - 48)) digits else None

-- The number that the word is: decimal digits without a sign or a leading zero, at most 2^64 - 1 (own).
abbrev pub number_of : List ℕ → Option ℕ
number_of [] = None
number_of (digit ∷ []) = number_behind 0 (digit ∷ [])
number_of (first ∷ second ∷ digits) = if first == 48 then None else number_behind 0 (first ∷ second ∷ digits)

-- a number as an argument
unfoldable pub number_word : List ℕ → Result ℕ ScriptKind
number_word word = ok_or (number_of word) Number

-- a number as an argument that is between two others, both included (own)
unfoldable pub number_up_to : ℕ → ℕ → List ℕ → Result ℕ ScriptKind
number_up_to least most word = do
  number ← number_word word
  if nat_le least number && nat_le number most then Ok number else Err Number

-- ---- texts

-- the number of a hexadecimal digit in lower case
abbrev pub hex_digit : ℕ → Option ℕ
hex_digit byte =
    if nat_le 48 byte && nat_le byte 57 then Some (byte - 48) else
    if nat_le 97 byte && nat_le byte 102 then Some (byte - 87) else None

-- the byte of two hexadecimal digits
abbrev pub hex_byte : ℕ → ℕ → Option ℕ
hex_byte high low = option_and_then (λ front. option_map (λ back. 16 * front + back) (hex_digit low)) (hex_digit high)

-- What a byte of a text word comes to: where the reading stands behind it, and the byte of the text that it ends. None where a
-- backslash is used otherwise than in `\\` and `\xHH`.
abbrev pub next_spot : Spot → ℕ → Option (Spot × Option ℕ)
next_spot Between byte = if byte == 92 then Some (Backslash, None) else Some (Between, Some byte)
next_spot Backslash byte = if byte == 92 then Some (Between, Some 92) else if byte == 120 then Some (Hex, None) else None
next_spot Hex byte = Some (High byte, None)
next_spot (High high) byte = option_map (λ decoded. (Between, Some decoded)) (hex_byte high byte)

-- the text at the end of a word
abbrev pub text_at_end : Spot → Option (List ℕ)
text_at_end Between = Some []
text_at_end Backslash = None
text_at_end Hex = None
text_at_end (High high) = None

-- the text that the bytes spell, where the reading stands there
abbrev pub text_from : Spot → List ℕ → Option (List ℕ)
text_from spot [] = text_at_end spot
text_from spot (byte ∷ bytes) = option_and_then (λ next. option_map (λ text. option_to_list next.1 ++ text) (text_from next.0 bytes)) (next_spot spot byte)

-- The text that the word spells: `\\` is a backslash, `\xHH` a byte, and every other byte itself (own).
unfoldable pub text_of : List ℕ → Result (List ℕ) ScriptKind
text_of word = ok_or (text_from Between word) Escape
