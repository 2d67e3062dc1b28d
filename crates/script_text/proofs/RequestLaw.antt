-- Words are read as a request exactly where they are one.
use Rattle.std.proofs.Common.{◌≡◌, ◌≤◌, inl, inr, ℕ, Bool, true, false, cond, ◌||◌, List, [], ◌∷◌, length, codes, Option, Some, None, Result, Ok, Err, ap, sym, refl, ◌∙◌, subst, arith}
use Rattle.std.specs.Bool.{⊤}
use Rattle.std.specs.List.{AllByRecursion, list_any}
use Rattle.std.specs.Str.{bytes_eq}
use Rattle.std.proofs.lemmas.Slice.Eq.{bytes_eq-Decides}
use Rattle.flat_model.specs.declared.op.Op.{Op}
use Rattle.flat_model.specs.declared.op.Op.TheVariants.{Create, Mkdir, Symlink, Link, Unlink, Rmdir, Rename, Exchange, Lookup, Write, Truncate, Read, SetAttr, DelAttr, GetAttr}
use Rattle.flat_model.specs.declared.place.Place.{Place}
use Rattle.flat_model.specs.declared.request.Request.{Request}
use Rattle.flat_model.specs.declared.request.Request.TheVariants as requests
use Rattle.script_text.specs.declared.fault.ScriptKind.{ScriptKind}
use Rattle.script_text.specs.declared.fault.ScriptKind.TheVariants.{Word}
use Rattle.script_text.specs.declared.verb.Verb.{Verb}
use Rattle.script_text.specs.declared.verb.Verb.TheVariants as verbs
use Rattle.script_text.specs.Kinds.{◌>>=◌}
use Rattle.script_text.specs.Requests.{making_verb, removing_verb, moving_verb, content_verb, attribute_verb, or_verb, verb_or_last, verb_of, path_alone, two_paths, path_and_name, symlink_of, write_of, fill_of, truncate_of, read_of, setattr_of, sync_of, request_of}
use Rattle.script_text.specs.Script.{is_empty_word, request_from}
use Rattle.script_text.specs.Grammar.{IsNumber, IsText, IsNameWord, ArePath, ArePaths, ArePathAndName, AreSymlink, AreWrite, AreFill, AreTruncate, AreRead, AreSetAttr, AreOp, AreRequest}
use Rattle.script_text.proofs.NumberLaw.{is_other}
use Rattle.script_text.proofs.TextLaw.{spells_some}
use Rattle.script_text.proofs.PathLaw.{bind_ok, done, ok_is, text_in_back, place_back, path_some}
use Rattle.script_text.proofs.ArgumentLaw.{number_in_back, two_paths_back, place_and_name_back, place_and_number_back, equal_bytes_back, path_alone_to, two_paths_to, path_and_name_to, symlink_to, write_to, fill_to, truncate_to, read_to, setattr_to, sync_to}

-- a test that didn't fail
pub cond_passed : {A : Type 0} (b : Bool) (kind : ScriptKind) (r : Result A ScriptKind) (y : A) → cond b (Err kind) r ≡ Ok y → (b ≡ false) × (r ≡ Ok y)
cond_passed true kind r y e = absurd cc
cond_passed false kind r y e = (refl, e)

-- ---- verbs

abbrev verb_word : Verb → List ℕ
verb_word verbs.Create = codes "create"
verb_word verbs.Mkdir = codes "mkdir"
verb_word verbs.Symlink = codes "symlink"
verb_word verbs.Link = codes "link"
verb_word verbs.Unlink = codes "unlink"
verb_word verbs.Rmdir = codes "rmdir"
verb_word verbs.Rename = codes "rename"
verb_word verbs.Exchange = codes "exchange"
verb_word verbs.Lookup = codes "lookup"
verb_word verbs.Write = codes "write"
verb_word verbs.Fill = codes "fill"
verb_word verbs.Truncate = codes "truncate"
verb_word verbs.Read = codes "read"
verb_word verbs.SetAttr = codes "setattr"
verb_word verbs.DelAttr = codes "delattr"
verb_word verbs.GetAttr = codes "getattr"
verb_word verbs.Sync = codes "sync"

same_word : (word text : List ℕ) → bytes_eq word text ≡ true → word ≡ text
same_word word text e = (bytes_eq-Decides word text).0 e

-- the verb has this word, where there is one
abbrev Spelled : List ℕ → Option Verb → Type 0
Spelled word None = ⊤
Spelled word (Some verb) = word ≡ verb_word verb

-- the word is this verb's, or the verb is one of the others
or_else : (test : Bool) (word : List ℕ) (first : Verb) (others : Option Verb) → bytes_eq word (verb_word first) ≡ test → Spelled word others → Spelled word (cond test (Some first) others)
or_else true word first others p rest = same_word word (verb_word first) p
or_else false word first others p rest = rest

either : (word : List ℕ) (first later : Option Verb) → Spelled word first → Spelled word later → Spelled word (or_verb first later)
either word None later one two = two
either word (Some verb) later one two = one

making_spelled : (word : List ℕ) → Spelled word (making_verb word)
making_spelled word =
    or_else (bytes_eq word (codes "create")) word verbs.Create _ refl (
    or_else (bytes_eq word (codes "mkdir")) word verbs.Mkdir _ refl (
    or_else (bytes_eq word (codes "symlink")) word verbs.Symlink _ refl (
    or_else (bytes_eq word (codes "link")) word verbs.Link _ refl tt)))

removing_spelled : (word : List ℕ) → Spelled word (removing_verb word)
removing_spelled word =
    or_else (bytes_eq word (codes "unlink")) word verbs.Unlink _ refl (
    or_else (bytes_eq word (codes "rmdir")) word verbs.Rmdir _ refl (
    or_else (bytes_eq word (codes "lookup")) word verbs.Lookup _ refl tt))

moving_spelled : (word : List ℕ) → Spelled word (moving_verb word)
moving_spelled word =
    or_else (bytes_eq word (codes "rename")) word verbs.Rename _ refl (
    or_else (bytes_eq word (codes "exchange")) word verbs.Exchange _ refl tt)

content_spelled : (word : List ℕ) → Spelled word (content_verb word)
content_spelled word =
    or_else (bytes_eq word (codes "write")) word verbs.Write _ refl (
    or_else (bytes_eq word (codes "fill")) word verbs.Fill _ refl (
    or_else (bytes_eq word (codes "truncate")) word verbs.Truncate _ refl (
    or_else (bytes_eq word (codes "read")) word verbs.Read _ refl tt)))

attribute_spelled : (word : List ℕ) → Spelled word (attribute_verb word)
attribute_spelled word =
    or_else (bytes_eq word (codes "setattr")) word verbs.SetAttr _ refl (
    or_else (bytes_eq word (codes "delattr")) word verbs.DelAttr _ refl (
    or_else (bytes_eq word (codes "getattr")) word verbs.GetAttr _ refl tt))

last_to : (test : Bool) (word : List ℕ) (verb : Verb) → bytes_eq word (codes "sync") ≡ test → cond test (done verbs.Sync) (Err Word) ≡ done verb → word ≡ verb_word verb
last_to true word verb p e = same_word word (codes "sync") p ∙ ap verb_word (ok_is verbs.Sync verb e)
last_to false word verb p e = absurd cc

spelled_to : (word : List ℕ) (given : Option Verb) (verb : Verb) → Spelled word given → verb_or_last word given ≡ Ok verb → word ≡ verb_word verb
spelled_to word None verb spelled e = last_to (bytes_eq word (codes "sync")) word verb refl e
spelled_to word (Some other) verb spelled e = spelled ∙ ap verb_word (ok_is other verb e)

verb_to : (word : List ℕ) (verb : Verb) → verb_of word ≡ Ok verb → word ≡ verb_word verb
unfolding verb_of
verb_to word verb e =
    spelled_to word _ verb
    (either word _ _ (making_spelled word) (either word _ _ (removing_spelled word) (either word _ _ (moving_spelled word) (either word _ _ (content_spelled word) (attribute_spelled word))))) e

verb_back : (verb : Verb) → verb_of (verb_word verb) ≡ Ok verb
unfolding verb_of
verb_back verbs.Create = refl
verb_back verbs.Mkdir = refl
verb_back verbs.Symlink = refl
verb_back verbs.Link = refl
verb_back verbs.Unlink = refl
verb_back verbs.Rmdir = refl
verb_back verbs.Rename = refl
verb_back verbs.Exchange = refl
verb_back verbs.Lookup = refl
verb_back verbs.Write = refl
verb_back verbs.Fill = refl
verb_back verbs.Truncate = refl
verb_back verbs.Read = refl
verb_back verbs.SetAttr = refl
verb_back verbs.DelAttr = refl
verb_back verbs.GetAttr = refl
verb_back verbs.Sync = refl

verb_some : (verb : Verb) → is_empty_word (verb_word verb) ≡ false
verb_some verbs.Create = refl
verb_some verbs.Mkdir = refl
verb_some verbs.Symlink = refl
verb_some verbs.Link = refl
verb_some verbs.Unlink = refl
verb_some verbs.Rmdir = refl
verb_some verbs.Rename = refl
verb_some verbs.Exchange = refl
verb_some verbs.Lookup = refl
verb_some verbs.Write = refl
verb_some verbs.Fill = refl
verb_some verbs.Truncate = refl
verb_some verbs.Read = refl
verb_some verbs.SetAttr = refl
verb_some verbs.DelAttr = refl
verb_some verbs.GetAttr = refl
verb_some verbs.Sync = refl

-- ---- words that are read

with_path : (verb : List ℕ) (arguments : List (List ℕ)) (f : Place → Op) (request : Request) → ((place : Place) → ArePath verb (verb ∷ arguments) place → AreOp (verb ∷ arguments) (f place))
    → (path_alone arguments >>= λ place. done (requests.Op (f place))) ≡ Ok request → AreRequest (verb ∷ arguments) request
with_path verb arguments f request is e =
    let p = bind_ok (path_alone arguments) (λ place. done (requests.Op (f place))) request e in
    subst (λ (r : Request). AreRequest (verb ∷ arguments) r) (ok_is (requests.Op (f p.0)) request p.2) (is p.0 (path_alone_to verb arguments p.0 p.1))

with_paths : (verb : List ℕ) (arguments : List (List ℕ)) (f : Place → Place → Op) (request : Request) → ((one two : Place) → ArePaths verb (verb ∷ arguments) one two → AreOp (verb ∷ arguments) (f one two))
    → (two_paths arguments >>= λ places. done (requests.Op (f places.0 places.1))) ≡ Ok request → AreRequest (verb ∷ arguments) request
with_paths verb arguments f request is e =
    let p = bind_ok (two_paths arguments) (λ places. done (requests.Op (f places.0 places.1))) request e in
    subst (λ (r : Request). AreRequest (verb ∷ arguments) r) (ok_is (requests.Op (f p.0.0 p.0.1)) request p.2) (is p.0.0 p.0.1 (two_paths_to verb arguments p.0 p.1))

with_name : (verb : List ℕ) (arguments : List (List ℕ)) (f : Place → List ℕ → Op) (request : Request)
    → ((place : Place) (name : List ℕ) → ArePathAndName verb (verb ∷ arguments) place name → AreOp (verb ∷ arguments) (f place name))
    → (path_and_name arguments >>= λ words. done (requests.Op (f words.0 words.1))) ≡ Ok request → AreRequest (verb ∷ arguments) request
with_name verb arguments f request is e =
    let p = bind_ok (path_and_name arguments) (λ words. done (requests.Op (f words.0 words.1))) request e in
    subst (λ (r : Request). AreRequest (verb ∷ arguments) r) (ok_is (requests.Op (f p.0.0 p.0.1)) request p.2) (is p.0.0 p.0.1 (path_and_name_to verb arguments p.0 p.1))

by_verb : (verb : Verb) (arguments : List (List ℕ)) (request : Request) → request_of verb arguments ≡ Ok request → AreRequest (verb_word verb ∷ arguments) request
unfolding request_of
by_verb verbs.Create arguments request e = with_path (codes "create") arguments (λ place. Create place) request (λ place are. are) e
by_verb verbs.Mkdir arguments request e = with_path (codes "mkdir") arguments (λ place. Mkdir place) request (λ place are. are) e
by_verb verbs.Unlink arguments request e = with_path (codes "unlink") arguments (λ place. Unlink place) request (λ place are. are) e
by_verb verbs.Rmdir arguments request e = with_path (codes "rmdir") arguments (λ place. Rmdir place) request (λ place are. are) e
by_verb verbs.Lookup arguments request e = with_path (codes "lookup") arguments (λ place. Lookup place) request (λ place are. are) e
by_verb verbs.Link arguments request e = with_paths (codes "link") arguments (λ one two. Link one two) request (λ one two are. are) e
by_verb verbs.Rename arguments request e = with_paths (codes "rename") arguments (λ one two. Rename one two) request (λ one two are. are) e
by_verb verbs.Exchange arguments request e = with_paths (codes "exchange") arguments (λ one two. Exchange one two) request (λ one two are. are) e
by_verb verbs.DelAttr arguments request e = with_name (codes "delattr") arguments (λ place name. DelAttr place name) request (λ place name are. are) e
by_verb verbs.GetAttr arguments request e = with_name (codes "getattr") arguments (λ place name. GetAttr place name) request (λ place name are. are) e
by_verb verbs.Symlink arguments request e = symlink_to arguments request e
by_verb verbs.Write arguments request e = write_to arguments request e
by_verb verbs.Fill arguments request e = fill_to arguments request e
by_verb verbs.Truncate arguments request e = truncate_to arguments request e
by_verb verbs.Read arguments request e = read_to arguments request e
by_verb verbs.SetAttr arguments request e = setattr_to arguments request e
by_verb verbs.Sync arguments request e = sync_to arguments request e

pub request_to : (words : List (List ℕ)) (request : Request) → request_from words ≡ Ok request → AreRequest words request
unfolding request_from
request_to [] request e = absurd cc
request_to (word ∷ arguments) request e =
    let p = cond_passed (list_any is_empty_word (word ∷ arguments)) Word (verb_of word >>= λ verb. request_of verb arguments) request e in
    let q = bind_ok (verb_of word) (λ verb. request_of verb arguments) request p.1 in
    subst (λ (w : List ℕ). AreRequest (w ∷ arguments) request) (sym (verb_to word q.0 q.1)) (by_verb q.0 arguments request q.2)

-- ---- requests that are read

abbrev IsSome : List ℕ → Type 0
IsSome word = 1 ≤ length word

some_words : (words : List (List ℕ)) → AllByRecursion IsSome words → list_any is_empty_word words ≡ false
some_words [] some = refl
some_words (word ∷ words) some = rw (is_other (length word) 0 (omega (arith, some.0)), some_words words some.1) refl

-- a verb with arguments that it takes
spoken : (verb : Verb) (arguments : List (List ℕ)) (request : Request) → AllByRecursion IsSome arguments → request_of verb arguments ≡ Ok request → request_from (verb_word verb ∷ arguments) ≡ Ok request
unfolding request_from
spoken verb arguments request some e =
    let given : Result Request ScriptKind = verb_of (verb_word verb) >>= λ v. request_of v arguments in
    ap (λ (b : Bool). cond (b || list_any is_empty_word arguments) (Err Word) given) (verb_some verb)
    ∙ ap (λ (b : Bool). cond b (Err Word) given) (some_words arguments some)
    ∙ ap (λ (r : Result Verb ScriptKind). r >>= λ v. request_of v arguments) (verb_back verb)
    ∙ e

number_some : (word : List ℕ) (value : ℕ) → IsNumber word value → IsSome word
number_some word value n = n.some

text_some : (most : ℕ) (word text : List ℕ) → IsText most word text → IsSome word
text_some most word text t = spells_some word text t.spelled t.least

name_some : (word name : List ℕ) → IsNameWord word name → IsSome word
name_some word name n = spells_some word name n.spelled n.name_is.least

path_back : (verb : Verb) (f : Place → Op) (words : List (List ℕ)) (place : Place) → ((arguments : List (List ℕ)) → request_of verb arguments ≡ (path_alone arguments >>= λ at. done (requests.Op (f at))))
    → ArePath (verb_word verb) words place → request_from words ≡ Ok (requests.Op (f place))
unfolding path_alone
path_back verb f words place given are =
    ap request_from are.words_are
    ∙ spoken verb (are.path ∷ []) (requests.Op (f place)) (path_some are.path place are.path_is, tt)
    (given (are.path ∷ []) ∙ ap (λ (r : Result Place ScriptKind). r >>= λ at. done (requests.Op (f at))) (place_back are.path place are.path_is))

paths_back : (verb : Verb) (f : Place → Place → Op) (words : List (List ℕ)) (one two : Place)
    → ((arguments : List (List ℕ)) → request_of verb arguments ≡ (two_paths arguments >>= λ places. done (requests.Op (f places.0 places.1)))) → ArePaths (verb_word verb) words one two
    → request_from words ≡ Ok (requests.Op (f one two))
paths_back verb f words one two given are =
    ap request_from are.words_are
    ∙ spoken verb (are.first ∷ are.second ∷ []) (requests.Op (f one two)) (path_some are.first one are.first_is, (path_some are.second two are.second_is, tt))
    (given (are.first ∷ are.second ∷ [])
    ∙ ap (λ (r : Result (Place × Place) ScriptKind). r >>= λ places. done (requests.Op (f places.0 places.1))) (two_paths_back are.first are.second one two are.first_is are.second_is))

name_back : (verb : Verb) (f : Place → List ℕ → Op) (words : List (List ℕ)) (place : Place) (name : List ℕ)
    → ((arguments : List (List ℕ)) → request_of verb arguments ≡ (path_and_name arguments >>= λ given. done (requests.Op (f given.0 given.1)))) → ArePathAndName (verb_word verb) words place name
    → request_from words ≡ Ok (requests.Op (f place name))
unfolding path_and_name
name_back verb f words place name given are =
    ap request_from are.words_are
    ∙ spoken verb (are.path ∷ are.word ∷ []) (requests.Op (f place name)) (path_some are.path place are.path_is, (name_some are.word name are.name_is, tt))
    (given (are.path ∷ are.word ∷ [])
    ∙ ap (λ (r : Result (Place × List ℕ) ScriptKind). r >>= λ both. done (requests.Op (f both.0 both.1))) (place_and_name_back are.path are.word place name are.path_is are.name_is))

symlink_back : (words : List (List ℕ)) (place : Place) (target : List ℕ) → AreSymlink words place target → request_from words ≡ Ok (requests.Op (Symlink place target))
unfolding request_of symlink_of
symlink_back words place target are =
    ap request_from are.words_are
    ∙ spoken verbs.Symlink (are.path ∷ are.word ∷ []) (requests.Op (Symlink place target)) (path_some are.path place are.path_is, (text_some 1023 are.word target are.target_is, tt))
    (rw (place_back are.path place are.path_is, text_in_back 1023 are.word target are.target_is) refl)

write_back : (words : List (List ℕ)) (place : Place) (offset : ℕ) (text : List ℕ) → AreWrite words place offset text → request_from words ≡ Ok (requests.Op (Write place offset text))
unfolding request_of write_of
write_back words place offset text are =
    ap request_from are.words_are
    ∙ spoken verbs.Write (are.path ∷ are.at ∷ are.word ∷ []) (requests.Op (Write place offset text))
    (path_some are.path place are.path_is, (number_some are.at offset are.offset_is, (text_some 65536 are.word text are.text_is, tt)))
    (rw (place_and_number_back are.path are.at place offset are.path_is are.offset_is, text_in_back 65536 are.word text are.text_is) refl)

fill_back : (words : List (List ℕ)) (place : Place) (offset : ℕ) (text : List ℕ) → AreFill words place offset text → request_from words ≡ Ok (requests.Op (Write place offset text))
unfolding request_of fill_of
fill_back words place offset text are =
    ap request_from are.words_are
    ∙ spoken verbs.Fill (are.path ∷ are.at ∷ are.many ∷ are.value ∷ []) (requests.Op (Write place offset text))
    (path_some are.path place are.path_is, (number_some are.at offset are.offset_is, (number_some are.many are.count are.count_is.number, (number_some are.value are.byte are.byte_is.number, tt))))
    (rw (
      place_and_number_back are.path are.at place offset are.path_is are.offset_is,
      equal_bytes_back are.many are.value text (record { count = are.count; byte = are.byte; count_is = are.count_is; byte_is = are.byte_is; text_is = are.text_is }),
    ) refl)

truncate_back : (words : List (List ℕ)) (place : Place) (size : ℕ) → AreTruncate words place size → request_from words ≡ Ok (requests.Op (Truncate place size))
unfolding request_of truncate_of
truncate_back words place size are =
    ap request_from are.words_are
    ∙ spoken verbs.Truncate (are.path ∷ are.word ∷ []) (requests.Op (Truncate place size)) (path_some are.path place are.path_is, (number_some are.word size are.size_is, tt))
    (rw (place_and_number_back are.path are.word place size are.path_is are.size_is) refl)

read_back : (words : List (List ℕ)) (place : Place) (offset count : ℕ) → AreRead words place offset count → request_from words ≡ Ok (requests.Op (Read place offset count))
unfolding request_of read_of
read_back words place offset count are =
    ap request_from are.words_are
    ∙ spoken verbs.Read (are.path ∷ are.at ∷ are.many ∷ []) (requests.Op (Read place offset count))
    (path_some are.path place are.path_is, (number_some are.at offset are.offset_is, (number_some are.many count are.count_is.number, tt)))
    (rw (place_and_number_back are.path are.at place offset are.path_is are.offset_is, number_in_back 0 65536 are.many count are.count_is) refl)

setattr_back : (words : List (List ℕ)) (place : Place) (name value : List ℕ) → AreSetAttr words place name value → request_from words ≡ Ok (requests.Op (SetAttr place name value))
unfolding request_of setattr_of
setattr_back words place name value are =
    ap request_from are.words_are
    ∙ spoken verbs.SetAttr (are.path ∷ are.word ∷ are.text ∷ []) (requests.Op (SetAttr place name value))
    (path_some are.path place are.path_is, (name_some are.word name are.name_is, (text_some 4096 are.text value are.value_is, tt)))
    (rw (place_and_name_back are.path are.word place name are.path_is are.name_is, text_in_back 4096 are.text value are.value_is) refl)

op_back : (words : List (List ℕ)) (op : Op) → AreOp words op → request_from words ≡ Ok (requests.Op op)
unfolding request_of
op_back words (Create place) are = path_back verbs.Create (λ at. Create at) words place (λ arguments. refl) are
op_back words (Mkdir place) are = path_back verbs.Mkdir (λ at. Mkdir at) words place (λ arguments. refl) are
op_back words (Unlink place) are = path_back verbs.Unlink (λ at. Unlink at) words place (λ arguments. refl) are
op_back words (Rmdir place) are = path_back verbs.Rmdir (λ at. Rmdir at) words place (λ arguments. refl) are
op_back words (Lookup place) are = path_back verbs.Lookup (λ at. Lookup at) words place (λ arguments. refl) are
op_back words (Link one two) are = paths_back verbs.Link (λ first second. Link first second) words one two (λ arguments. refl) are
op_back words (Rename one two) are = paths_back verbs.Rename (λ first second. Rename first second) words one two (λ arguments. refl) are
op_back words (Exchange one two) are = paths_back verbs.Exchange (λ first second. Exchange first second) words one two (λ arguments. refl) are
op_back words (DelAttr place name) are = name_back verbs.DelAttr (λ at bytes. DelAttr at bytes) words place name (λ arguments. refl) are
op_back words (GetAttr place name) are = name_back verbs.GetAttr (λ at bytes. GetAttr at bytes) words place name (λ arguments. refl) are
op_back words (Symlink place target) are = symlink_back words place target are
op_back words (Write place offset text) (inl are) = write_back words place offset text are
op_back words (Write place offset text) (inr are) = fill_back words place offset text are
op_back words (Truncate place size) are = truncate_back words place size are
op_back words (Read place offset count) are = read_back words place offset count are
op_back words (SetAttr place name value) are = setattr_back words place name value are

sync_back : request_from (codes "sync" ∷ []) ≡ Ok requests.Sync
unfolding request_of sync_of
sync_back = spoken verbs.Sync [] requests.Sync tt refl

pub request_back : (words : List (List ℕ)) (request : Request) → AreRequest words request → request_from words ≡ Ok request
request_back words (requests.Op op) h = op_back words op h
request_back words (requests.Fsync place) h = elim h [ ]
request_back words (requests.Fdatasync place) h = elim h [ ]
request_back words requests.Sync h = ap request_from h ∙ sync_back
