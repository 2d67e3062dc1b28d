-- The grammar of scripts as a relation between bytes and lines. Bytes stand as their codes: 10 for LF, 32 a space, 35 `#`, 47 `/`,
-- 48 `0`, 58 `:`, 92 a backslash, 97 `a`, 120 `x`.
use Rattle.std.specs.Prelude.{◌≡◌, ◌≢◌, ◌<◌, ◌≤◌, ◌+◌, ◌-◌, ◌*◌, ◌^◌, ◌⊎◌, ℕ, List, [], ◌∷◌, ◌++◌, length, slice_index, codes, replicate}
use Rattle.std.specs.List.{AllByRecursion, flat_map, join_with_byte}
use Rattle.std.specs.Str.{IsUtf8}
use Rattle.blk_base.specs.Name.{IsName}
use Rattle.flat_model.specs.declared.op.Op.{Op}
use Rattle.flat_model.specs.declared.op.Op.TheVariants.{Create, Mkdir, Symlink, Link, Unlink, Rmdir, Rename, Exchange, Lookup, Write, Truncate, Read, SetAttr, DelAttr, GetAttr}
use Rattle.flat_model.specs.declared.place.Place.{Place}
use Rattle.flat_model.specs.declared.request.Line.{Line}
use Rattle.flat_model.specs.declared.request.Line.TheVariants.{Plain}
use Rattle.flat_model.specs.declared.request.Request.{Request}
use Rattle.flat_model.specs.declared.request.Request.TheVariants as requests

-- no byte of the bytes has this value
abbrev pub IsWithout : ℕ → List ℕ → Type 0
IsWithout at bytes = AllByRecursion (λ byte. byte ≢ at) bytes

-- ---- numbers

-- a decimal digit
abbrev pub IsDigit : ℕ → Type 0
IsDigit byte = (48 ≤ byte) × (byte ≤ 57)

-- the number that these digits spell behind those that spell `front`
abbrev pub value_behind : ℕ → List ℕ → ℕ
value_behind front [] = front
value_behind front (digit ∷ digits) = value_behind (10 * front + (digit - 48)) digits

-- the word is this number: decimal digits without a zero in front of others, at most 2^64 - 1
pub record IsNumber (word : List ℕ) (value : ℕ) : Type 0 where
  pub some : 1 ≤ length word
  pub digits : AllByRecursion IsDigit word
  pub shortest : (length word ≡ 1) ⊎ (slice_index word 0 ≢ 48)
  pub value_is : value_behind 0 word ≡ value
  pub most : value < 2 ^ 64

-- the word is this number, between two others, both included
pub record IsNumberIn (least most : ℕ) (word : List ℕ) (value : ℕ) : Type 0 where
  pub number : IsNumber word value
  pub at_least : least ≤ value
  pub at_most : value ≤ most

-- ---- texts

-- a hexadecimal digit in lower case, and its number
abbrev pub IsHexDigit : ℕ → ℕ → Type 0
IsHexDigit byte value = ((byte ≡ 48 + value) × (value < 10)) ⊎ ((byte ≡ 87 + value) × (10 ≤ value) × (value < 16))

-- `\xHH` and its byte
pub record IsEscaped (unit : List ℕ) (byte : ℕ) : Type 0 where
  pub high : ℕ
  pub low : ℕ
  pub front : ℕ
  pub back : ℕ
  pub unit_is : unit ≡ 92 ∷ 120 ∷ high ∷ low ∷ []
  pub high_is : IsHexDigit high front
  pub low_is : IsHexDigit low back
  pub byte_is : byte ≡ 16 * front + back

-- a byte of a text as it stands in a word: itself where it is no backslash, `\\` for a backslash, or `\xHH`
abbrev pub IsUnit : List ℕ → ℕ → Type 0
IsUnit unit byte = ((unit ≡ byte ∷ []) × (byte ≢ 92)) ⊎ (((unit ≡ 92 ∷ 92 ∷ []) × (byte ≡ 92)) ⊎ IsEscaped unit byte)

-- the word spells these bytes, one behind the other
abbrev pub Spells : List ℕ → List ℕ → Type 0
Spells word [] = word ≡ []
Spells word (byte ∷ text) = (unit : List ℕ) × (rest : List ℕ) × (word ≡ unit ++ rest) × IsUnit unit byte × Spells rest text

-- the word spells a text of 1 to so many bytes
pub record IsText (most : ℕ) (word text : List ℕ) : Type 0 where
  pub spelled : Spells word text
  pub least : 1 ≤ length text
  pub at_most : length text ≤ most

-- ---- paths

-- what stands in front of a path's first slash: nothing for subvolume 5, and the number of another and a colon
abbrev pub IsFront : List ℕ → ℕ → Type 0
IsFront front id = ((front ≡ []) × (id ≡ 5)) ⊎ ((digits : List ℕ) × (front ≡ digits ++ 58 ∷ []) × IsNumber digits id × (id ≢ 5))

-- the pieces spell these names
abbrev pub SpellNames : List (List ℕ) → List (List ℕ) → Type 0
SpellNames [] [] = Unit {0}
SpellNames [] (name ∷ names) = ⊥
SpellNames (piece ∷ pieces) [] = ⊥
SpellNames (piece ∷ pieces) (name ∷ names) = Spells piece name × IsName name × SpellNames pieces names

-- what stands behind the slashes: nothing for the root directory, and else 1 to 64 names
abbrev pub ArePieces : List (List ℕ) → List (List ℕ) → Type 0
ArePieces pieces names = ((pieces ≡ [] ∷ []) × (names ≡ [])) ⊎ ((1 ≤ length names) × (length names ≤ 64) × SpellNames pieces names)

-- the word is the path of this place: a front, and pieces each behind a slash
pub record IsPath (word : List ℕ) (place : Place) : Type 0 where
  pub front : List ℕ
  pub pieces : List (List ℕ)
  pub word_is : word ≡ join_with_byte 47 (front ∷ pieces)
  pub front_is : IsFront front place.sub.0
  pub pieces_are : ArePieces pieces place.path

-- ---- lines

-- the word is a name that stands by itself
pub record IsNameWord (word name : List ℕ) : Type 0 where
  pub spelled : Spells word name
  pub name_is : IsName name

-- a verb and a path
pub record ArePath (verb : List ℕ) (words : List (List ℕ)) (place : Place) : Type 0 where
  pub path : List ℕ
  pub words_are : words ≡ verb ∷ path ∷ []
  pub path_is : IsPath path place

-- a verb and two paths
pub record ArePaths (verb : List ℕ) (words : List (List ℕ)) (one two : Place) : Type 0 where
  pub first : List ℕ
  pub second : List ℕ
  pub words_are : words ≡ verb ∷ first ∷ second ∷ []
  pub first_is : IsPath first one
  pub second_is : IsPath second two

-- a verb, a path and a name
pub record ArePathAndName (verb : List ℕ) (words : List (List ℕ)) (place : Place) (name : List ℕ) : Type 0 where
  pub path : List ℕ
  pub word : List ℕ
  pub words_are : words ≡ verb ∷ path ∷ word ∷ []
  pub path_is : IsPath path place
  pub name_is : IsNameWord word name

-- `symlink PATH TARGET`
pub record AreSymlink (words : List (List ℕ)) (place : Place) (target : List ℕ) : Type 0 where
  pub path : List ℕ
  pub word : List ℕ
  pub words_are : words ≡ codes "symlink" ∷ path ∷ word ∷ []
  pub path_is : IsPath path place
  pub target_is : IsText 1023 word target

-- `write PATH OFFSET TEXT`
pub record AreWrite (words : List (List ℕ)) (place : Place) (offset : ℕ) (text : List ℕ) : Type 0 where
  pub path : List ℕ
  pub at : List ℕ
  pub word : List ℕ
  pub words_are : words ≡ codes "write" ∷ path ∷ at ∷ word ∷ []
  pub path_is : IsPath path place
  pub offset_is : IsNumber at offset
  pub text_is : IsText 65536 word text

-- `fill PATH OFFSET COUNT BYTE`
pub record AreFill (words : List (List ℕ)) (place : Place) (offset : ℕ) (text : List ℕ) : Type 0 where
  pub path : List ℕ
  pub at : List ℕ
  pub many : List ℕ
  pub value : List ℕ
  pub count : ℕ
  pub byte : ℕ
  pub words_are : words ≡ codes "fill" ∷ path ∷ at ∷ many ∷ value ∷ []
  pub path_is : IsPath path place
  pub offset_is : IsNumber at offset
  pub count_is : IsNumberIn 1 65536 many count
  pub byte_is : IsNumberIn 0 255 value byte
  pub text_is : text ≡ replicate count byte

-- `truncate PATH SIZE`
pub record AreTruncate (words : List (List ℕ)) (place : Place) (size : ℕ) : Type 0 where
  pub path : List ℕ
  pub word : List ℕ
  pub words_are : words ≡ codes "truncate" ∷ path ∷ word ∷ []
  pub path_is : IsPath path place
  pub size_is : IsNumber word size

-- `read PATH OFFSET COUNT`
pub record AreRead (words : List (List ℕ)) (place : Place) (offset count : ℕ) : Type 0 where
  pub path : List ℕ
  pub at : List ℕ
  pub many : List ℕ
  pub words_are : words ≡ codes "read" ∷ path ∷ at ∷ many ∷ []
  pub path_is : IsPath path place
  pub offset_is : IsNumber at offset
  pub count_is : IsNumberIn 0 65536 many count

-- `setattr PATH NAME VALUE`
pub record AreSetAttr (words : List (List ℕ)) (place : Place) (name value : List ℕ) : Type 0 where
  pub path : List ℕ
  pub word : List ℕ
  pub text : List ℕ
  pub words_are : words ≡ codes "setattr" ∷ path ∷ word ∷ text ∷ []
  pub path_is : IsPath path place
  pub name_is : IsNameWord word name
  pub value_is : IsText 4096 text value

-- the words are this operation: a verb and its arguments
abbrev pub AreOp : List (List ℕ) → Op → Type 0
AreOp words (Create place) = ArePath (codes "create") words place
AreOp words (Mkdir place) = ArePath (codes "mkdir") words place
AreOp words (Symlink place target) = AreSymlink words place target
AreOp words (Link old new) = ArePaths (codes "link") words old new
AreOp words (Unlink place) = ArePath (codes "unlink") words place
AreOp words (Rmdir place) = ArePath (codes "rmdir") words place
AreOp words (Rename old new) = ArePaths (codes "rename") words old new
AreOp words (Exchange one two) = ArePaths (codes "exchange") words one two
AreOp words (Lookup place) = ArePath (codes "lookup") words place
AreOp words (Write place offset text) = AreWrite words place offset text ⊎ AreFill words place offset text
AreOp words (Truncate place size) = AreTruncate words place size
AreOp words (Read place offset count) = AreRead words place offset count
AreOp words (SetAttr place name value) = AreSetAttr words place name value
AreOp words (DelAttr place name) = ArePathAndName (codes "delattr") words place name
AreOp words (GetAttr place name) = ArePathAndName (codes "getattr") words place name

-- the words are this request: an operation, or `sync`
abbrev pub AreRequest : List (List ℕ) → Request → Type 0
AreRequest words (requests.Op op) = AreOp words op
AreRequest words requests.Sync = words ≡ codes "sync" ∷ []
AreRequest words (requests.Fsync place) = ⊥
AreRequest words (requests.Fdatasync place) = ⊥

-- the line's bytes are words with one space between them: a caller, 1 to 16, and a request
pub record IsSpoken (bytes : List ℕ) (caller : ℕ) (request : Request) : Type 0 where
  pub caller_word : List ℕ
  pub words : List (List ℕ)
  pub bytes_are : bytes ≡ join_with_byte 32 (caller_word ∷ words)
  pub no_space : AllByRecursion (IsWithout 32) words
  pub utf8 : IsUtf8 bytes
  pub caller_is : IsNumber caller_word caller
  pub least : 1 ≤ caller
  pub most : caller ≤ 16
  pub request_is : AreRequest words request

abbrev pub IsLine : List ℕ → Line → Type 0
IsLine bytes (Plain caller request) = IsSpoken bytes caller request
IsLine bytes line = ⊥

-- the line does nothing: it is empty, or a comment
abbrev pub IsSilent : List ℕ → Type 0
IsSilent bytes = (bytes ≡ []) ⊎ ((comment : List ℕ) × (bytes ≡ 35 ∷ comment))

-- the lines that do something are these
abbrev pub Speak : List (List ℕ) → List Line → Type 0
Speak [] lines = lines ≡ []
Speak (bytes ∷ texts) lines = (IsSilent bytes × Speak texts lines) ⊎ ((line : Line) × (others : List Line) × (lines ≡ line ∷ others) × IsLine bytes line × Speak texts others)

-- ---- scripts

-- lines, an LF behind each
abbrev pub ended : List (List ℕ) → List ℕ
ended texts = flat_map (λ text. text ++ 10 ∷ []) texts

-- the bytes are a script with these lines: at most 65,536, each ended by an LF, which the last one may lack
pub record IsScript (bytes : List ℕ) (lines : List Line) : Type 0 where
  pub texts : List (List ℕ)
  pub few : length texts ≤ 65536
  pub no_lf : AllByRecursion (IsWithout 10) texts
  pub joined : (bytes ≡ ended texts) ⊎ (bytes ++ 10 ∷ [] ≡ ended texts)
  pub spoken : Speak texts lines
