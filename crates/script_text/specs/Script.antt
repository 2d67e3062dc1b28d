-- Scripts: the lines of a script, or its first fault.
use Rattle.std.specs.Prelude.{ℕ, ◌+◌, Bool, ◌&&◌, ◌||◌, not, nat_le, nat_lt, ◌==◌, if◌then◌else◌, List, [], ◌∷◌, length, slice_index, Option, Some, None, Result, Ok, Err}
use Rattle.std.specs.List.{list_any}
use Rattle.std.specs.Str.{is_utf8}
use Rattle.script_text.specs.declared.fault.ScriptKind.{ScriptKind}
use Rattle.script_text.specs.declared.fault.ScriptKind.TheVariants.{Lines, Utf8, Caller, Word}
use Rattle.flat_model.specs.declared.request.Line.{Line}
use Rattle.flat_model.specs.declared.request.Line.TheVariants.{Plain}
use Rattle.flat_model.specs.declared.request.Request.{Request}
use Rattle.script_text.specs.Kinds.{◌>>=◌}
use Rattle.script_text.specs.Words.{parts_at, number_of}
use Rattle.script_text.specs.Requests.{verb_of, request_of}

-- ---- lines

-- the number of a caller, 1 to 16 (own)
abbrev pub caller_in : Option ℕ → Result ℕ ScriptKind
caller_in None = Err Caller
caller_in (Some number) = if nat_le 1 number && nat_le number 16 then Ok number else Err Caller

unfoldable pub caller_of : List ℕ → Result ℕ ScriptKind
caller_of word = caller_in (number_of word)

-- the word has no byte
abbrev pub is_empty_word : List ℕ → Bool
is_empty_word word = length word == 0

-- the request of the words behind the caller's: a verb and its arguments, none of them empty
unfoldable pub request_from : List (List ℕ) → Result Request ScriptKind
request_from [] = Err Word
request_from (word ∷ arguments) =
    if list_any is_empty_word (word ∷ arguments) then Err Word else do
      verb ← verb_of word
      request_of verb arguments

-- the line of these words: `CALLER VERB ARGUMENTS`
unfoldable pub line_from : List (List ℕ) → Result Line ScriptKind
line_from [] = Err Caller
line_from (caller ∷ words) = do
  number ← caller_of caller
  request ← request_from words
  Ok (Plain number request)

-- the line does nothing: it is empty, or a comment (own)
abbrev pub is_silent : List ℕ → Bool
is_silent line = (length line == 0) || (slice_index line 0 == 35)

-- the words of a line: between its spaces
abbrev pub words_of : List ℕ → List (List ℕ)
words_of line = parts_at 32 line

-- The line of this number, counted from 1; none where it does nothing. A script has at most 65,536 lines (own limit).
unfoldable pub line_of : ℕ → List ℕ → Result (Option Line) ScriptKind
line_of number line =
    if nat_lt 65536 number then Err Lines else
    if is_silent line then Ok None else
    if not (is_utf8 line) then Err Utf8 else do
      spoken ← line_from (words_of line)
      Ok (Some spoken)

-- ---- scripts

-- the parts without an empty one at the end
abbrev pub without_empty_end : List (List ℕ) → List (List ℕ)
without_empty_end [] = []
without_empty_end (line ∷ []) = if length line == 0 then [] else line ∷ []
without_empty_end (line ∷ next ∷ lines) = line ∷ without_empty_end (next ∷ lines)

-- the lines of a script, each without its LF: nothing behind the last LF is no line
unfoldable pub lines_of : List ℕ → List (List ℕ)
lines_of bytes = without_empty_end (parts_at 10 bytes)

-- a line in front of those behind it, where it does something
abbrev pub with_line : Option Line → List Line → List Line
with_line None lines = lines
with_line (Some line) lines = line ∷ lines

-- what the lines from this number on give
abbrev pub script_behind : Option Line → Result (List Line) (ℕ × ScriptKind) → Result (List Line) (ℕ × ScriptKind)
script_behind line (Ok lines) = Ok (with_line line lines)
script_behind line (Err fault) = Err fault

abbrev pub script_with : ℕ → Result (Option Line) ScriptKind → Result (List Line) (ℕ × ScriptKind) → Result (List Line) (ℕ × ScriptKind)
script_with number (Ok line) rest = script_behind line rest
script_with number (Err kind) rest = Err (number, kind)

unfoldable pub script_from : ℕ → List (List ℕ) → Result (List Line) (ℕ × ScriptKind)
script_from number [] = Ok []
script_from number (line ∷ lines) = script_with number (line_of number line) (script_from (number + 1) lines)

-- The lines of the script that do something, in their order, or the first fault with the number of its line, counted from 1 (own).
unfoldable pub script_of : List ℕ → Result (List Line) (ℕ × ScriptKind)
script_of bytes = script_from 1 (lines_of bytes)
