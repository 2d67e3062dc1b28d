-- Paths of a script, and texts within their limits.
use Rattle.std.specs.Prelude.{ℕ, ◌-◌, Bool, false, ◌&&◌, nat_le, ◌==◌, if◌then◌else◌, List, [], ◌∷◌, length, take, slice_index, Option, Some, None, Result, Ok, Err}
use Rattle.blk_base.specs.Name.{is_name}
use Rattle.flat_model.specs.declared.place.Place.{Place}
use Rattle.script_text.specs.declared.fault.ScriptKind.{ScriptKind}
use Rattle.script_text.specs.declared.fault.ScriptKind.TheVariants.{Path}
use Rattle.script_text.specs.Kinds.{◌>>=◌}
use Rattle.script_text.specs.Words.{parts_at, number_of, text_of}

-- the text that the word spells, of 1 to so many bytes (own)
unfoldable pub text_up_to : ℕ → List ℕ → Result (List ℕ) ScriptKind
text_up_to most word = do
  text ← text_of word
  if nat_le 1 (length text) && nat_le (length text) most then Ok text else Err Path

-- the subvolume of a number that stands in front of a path: 5 has none
abbrev pub other_sub : Option ℕ → Result ℕ ScriptKind
other_sub None = Err Path
other_sub (Some id) = if id == 5 then Err Path else Ok id

-- the subvolume that stands in front of the first slash: nothing for 5, and else its number and a colon (own)
unfoldable pub sub_of : List ℕ → Result ℕ ScriptKind
sub_of head =
    if length head == 0 then Ok 5 else
    if slice_index head (length head - 1) == 58 then other_sub (number_of (take (length head - 1) head)) else Err Path

-- the name that the piece of a path spells
unfoldable pub name_of : List ℕ → Result (List ℕ) ScriptKind
name_of piece = do
  name ← text_of piece
  if is_name name then Ok name else Err Path

-- the names that the pieces spell
unfoldable pub all_names : List (List ℕ) → Result (List (List ℕ)) ScriptKind
all_names [] = Ok []
all_names (piece ∷ pieces) = do
  name ← name_of piece
  names ← all_names pieces
  Ok (name ∷ names)

-- the pieces are those of `/`: one, and it is empty
abbrev pub is_root : List (List ℕ) → Bool
is_root [] = false
is_root (piece ∷ []) = length piece == 0
is_root (piece ∷ next ∷ pieces) = false

-- The names of the pieces that stand behind the slashes: of `/` none, and else 1 to 64 (own limit).
unfoldable pub names_of : List (List ℕ) → Result (List (List ℕ)) ScriptKind
names_of pieces =
    if is_root pieces then Ok [] else
    if nat_le 1 (length pieces) && nat_le (length pieces) 64 then all_names pieces else Err Path

-- the place that the parts of a path are: what stands in front of the first slash, and the pieces behind the slashes
unfoldable pub place_from : List (List ℕ) → Result Place ScriptKind
place_from [] = Err Path
place_from (head ∷ pieces) = do
  id ← sub_of head
  names ← names_of pieces
  Ok (record { sub = record { 0 = id }; path = names })

-- The place that the word spells. The slashes that stand there cut it, and then each piece is decoded, so that an escaped slash
-- cuts nothing. A backslash out of its forms comes before any other fault of the path (own).
unfoldable pub place_of : List ℕ → Result Place ScriptKind
place_of word = do
  _ ← text_of word
  place_from (parts_at 47 word)
