-- Requests of a script: a verb and its arguments, each read from the left.
use Rattle.std.specs.Prelude.{ℕ, if◌then◌else◌, List, [], ◌∷◌, codes, replicate, Option, Some, None, Result, Ok, Err, bytes_eq}
use Rattle.flat_model.specs.declared.op.Op.TheVariants.{Create, Mkdir, Symlink, Link, Unlink, Rmdir, Rename, Exchange, Lookup, Write, Truncate, Read, SetAttr, DelAttr, GetAttr}
use Rattle.flat_model.specs.declared.place.Place.{Place}
use Rattle.flat_model.specs.declared.request.Request.{Request}
use Rattle.flat_model.specs.declared.request.Request.TheVariants as requests
use Rattle.script_text.specs.declared.fault.ScriptKind.{ScriptKind}
use Rattle.script_text.specs.declared.fault.ScriptKind.TheVariants.{Word}
use Rattle.script_text.specs.declared.verb.Verb.{Verb}
use Rattle.script_text.specs.declared.verb.Verb.TheVariants as verbs
use Rattle.script_text.specs.Kinds.{◌>>=◌}
use Rattle.script_text.specs.Words.{number_word, number_up_to}
use Rattle.script_text.specs.Paths.{place_of, name_of, text_up_to}

-- a verb that makes a name
abbrev pub making_verb : List ℕ → Option Verb
making_verb word =
    if bytes_eq word (codes "create") then Some verbs.Create else
    if bytes_eq word (codes "mkdir") then Some verbs.Mkdir else
    if bytes_eq word (codes "symlink") then Some verbs.Symlink else
    if bytes_eq word (codes "link") then Some verbs.Link else None

-- a verb that removes a name, or asks for it
abbrev pub removing_verb : List ℕ → Option Verb
removing_verb word =
    if bytes_eq word (codes "unlink") then Some verbs.Unlink else
    if bytes_eq word (codes "rmdir") then Some verbs.Rmdir else
    if bytes_eq word (codes "lookup") then Some verbs.Lookup else None

-- a verb that moves names
abbrev pub moving_verb : List ℕ → Option Verb
moving_verb word =
    if bytes_eq word (codes "rename") then Some verbs.Rename else
    if bytes_eq word (codes "exchange") then Some verbs.Exchange else None

-- a verb on the contents of a file
abbrev pub content_verb : List ℕ → Option Verb
content_verb word =
    if bytes_eq word (codes "write") then Some verbs.Write else
    if bytes_eq word (codes "fill") then Some verbs.Fill else
    if bytes_eq word (codes "truncate") then Some verbs.Truncate else
    if bytes_eq word (codes "read") then Some verbs.Read else None

-- a verb on attributes
abbrev pub attribute_verb : List ℕ → Option Verb
attribute_verb word =
    if bytes_eq word (codes "setattr") then Some verbs.SetAttr else
    if bytes_eq word (codes "delattr") then Some verbs.DelAttr else
    if bytes_eq word (codes "getattr") then Some verbs.GetAttr else None

-- the first of two verbs, if any
abbrev pub or_verb : Option Verb → Option Verb → Option Verb
or_verb None later = later
or_verb (Some verb) later = Some verb

-- `sync`, or no verb
abbrev pub last_verb : List ℕ → Result Verb ScriptKind
last_verb word = if bytes_eq word (codes "sync") then Ok verbs.Sync else Err Word

abbrev pub verb_or_last : List ℕ → Option Verb → Result Verb ScriptKind
verb_or_last word None = last_verb word
verb_or_last word (Some verb) = Ok verb

-- the verb that the word is (own)
unfoldable pub verb_of : List ℕ → Result Verb ScriptKind
verb_of word = verb_or_last word (or_verb (making_verb word) (or_verb (removing_verb word) (or_verb (moving_verb word) (or_verb (content_verb word) (attribute_verb word)))))

-- ---- arguments

-- `PATH`
unfoldable pub path_alone : List (List ℕ) → Result Place ScriptKind
path_alone (path ∷ []) = place_of path
path_alone arguments = Err Word

-- `PATH PATH`
unfoldable pub two_paths : List (List ℕ) → Result (Place × Place) ScriptKind
two_paths (one ∷ two ∷ []) = do
  first ← place_of one
  second ← place_of two
  Ok (first, second)
two_paths arguments = Err Word

-- a path, and a name behind it
unfoldable pub place_and_name : List ℕ → List ℕ → Result (Place × List ℕ) ScriptKind
place_and_name path name = do
  place ← place_of path
  bytes ← name_of name
  Ok (place, bytes)

-- `PATH NAME`
unfoldable pub path_and_name : List (List ℕ) → Result (Place × List ℕ) ScriptKind
path_and_name (path ∷ name ∷ []) = place_and_name path name
path_and_name arguments = Err Word

-- a path, and a number behind it
unfoldable pub place_and_number : List ℕ → List ℕ → Result (Place × ℕ) ScriptKind
place_and_number path number = do
  place ← place_of path
  value ← number_word number
  Ok (place, value)

-- 1 to 65,536 bytes that are all this one (own)
unfoldable pub equal_bytes : List ℕ → List ℕ → Result (List ℕ) ScriptKind
equal_bytes count byte = do
  many ← number_up_to 1 65536 count
  value ← number_up_to 0 255 byte
  Ok (replicate many value)

-- ---- verbs with arguments of their own

-- `symlink PATH TARGET`, of 1 to 1023 bytes (own)
unfoldable pub symlink_of : List (List ℕ) → Result Request ScriptKind
symlink_of (path ∷ target ∷ []) = do
  place ← place_of path
  text ← text_up_to 1023 target
  Ok (requests.Op (Symlink place text))
symlink_of arguments = Err Word

-- `write PATH OFFSET TEXT`, of 1 to 65,536 bytes (own)
unfoldable pub write_of : List (List ℕ) → Result Request ScriptKind
write_of (path ∷ offset ∷ text ∷ []) = do
  spot ← place_and_number path offset
  content ← text_up_to 65536 text
  Ok (requests.Op (Write spot.0 spot.1 content))
write_of arguments = Err Word

-- `fill PATH OFFSET COUNT BYTE`: a write of 1 to 65,536 bytes that are all this one (own)
unfoldable pub fill_of : List (List ℕ) → Result Request ScriptKind
fill_of (path ∷ offset ∷ count ∷ byte ∷ []) = do
  spot ← place_and_number path offset
  content ← equal_bytes count byte
  Ok (requests.Op (Write spot.0 spot.1 content))
fill_of arguments = Err Word

-- `truncate PATH SIZE` (own)
unfoldable pub truncate_of : List (List ℕ) → Result Request ScriptKind
truncate_of (path ∷ size ∷ []) = do
  spot ← place_and_number path size
  Ok (requests.Op (Truncate spot.0 spot.1))
truncate_of arguments = Err Word

-- `read PATH OFFSET COUNT`, of at most 65,536 bytes (own)
unfoldable pub read_of : List (List ℕ) → Result Request ScriptKind
read_of (path ∷ offset ∷ count ∷ []) = do
  spot ← place_and_number path offset
  most ← number_up_to 0 65536 count
  Ok (requests.Op (Read spot.0 spot.1 most))
read_of arguments = Err Word

-- `setattr PATH NAME VALUE`, of 1 to 4096 bytes (own)
unfoldable pub setattr_of : List (List ℕ) → Result Request ScriptKind
setattr_of (path ∷ name ∷ value ∷ []) = do
  named ← place_and_name path name
  text ← text_up_to 4096 value
  Ok (requests.Op (SetAttr named.0 named.1 text))
setattr_of arguments = Err Word

-- `sync` (own)
unfoldable pub sync_of : List (List ℕ) → Result Request ScriptKind
sync_of [] = Ok requests.Sync
sync_of arguments = Err Word

-- the request of a verb and its arguments
unfoldable pub request_of : Verb → List (List ℕ) → Result Request ScriptKind
request_of verbs.Create arguments = path_alone arguments >>= (λ place. Ok (requests.Op (Create place)))
request_of verbs.Mkdir arguments = path_alone arguments >>= (λ place. Ok (requests.Op (Mkdir place)))
request_of verbs.Unlink arguments = path_alone arguments >>= (λ place. Ok (requests.Op (Unlink place)))
request_of verbs.Rmdir arguments = path_alone arguments >>= (λ place. Ok (requests.Op (Rmdir place)))
request_of verbs.Lookup arguments = path_alone arguments >>= (λ place. Ok (requests.Op (Lookup place)))
request_of verbs.Link arguments = two_paths arguments >>= (λ places. Ok (requests.Op (Link places.0 places.1)))
request_of verbs.Rename arguments = two_paths arguments >>= (λ places. Ok (requests.Op (Rename places.0 places.1)))
request_of verbs.Exchange arguments = two_paths arguments >>= (λ places. Ok (requests.Op (Exchange places.0 places.1)))
request_of verbs.DelAttr arguments = path_and_name arguments >>= (λ words. Ok (requests.Op (DelAttr words.0 words.1)))
request_of verbs.GetAttr arguments = path_and_name arguments >>= (λ words. Ok (requests.Op (GetAttr words.0 words.1)))
request_of verbs.Symlink arguments = symlink_of arguments
request_of verbs.Write arguments = write_of arguments
request_of verbs.Fill arguments = fill_of arguments
request_of verbs.Truncate arguments = truncate_of arguments
request_of verbs.Read arguments = read_of arguments
request_of verbs.SetAttr arguments = setattr_of arguments
request_of verbs.Sync arguments = sync_of arguments
