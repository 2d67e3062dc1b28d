-- The arguments of a verb are read exactly where they are those that it has.
use Rattle.std.proofs.Common.{◌≡◌, inl, inr, ℕ, Bool, cond, leb, ◌&&◌, List, [], ◌∷◌, codes, replicate, Option, Some, None, Result, Ok, Err, ok_or, ap, sym, refl, ◌∙◌, subst}
use Rattle.flat_model.specs.declared.op.Op.TheVariants.{Symlink, Write, Truncate, Read, SetAttr}
use Rattle.flat_model.specs.declared.place.Place.{Place}
use Rattle.flat_model.specs.declared.request.Request.{Request}
use Rattle.flat_model.specs.declared.request.Request.TheVariants as requests
use Rattle.script_text.specs.declared.fault.ScriptKind.{ScriptKind}
use Rattle.script_text.specs.declared.fault.ScriptKind.TheVariants.{Number}
use Rattle.script_text.specs.Kinds.{◌>>=◌}
use Rattle.script_text.specs.Words.{number_of, number_word, number_up_to}
use Rattle.script_text.specs.Paths.{place_of, name_of, text_up_to}
use Rattle.script_text.specs.Requests.{path_alone, two_paths, place_and_name, path_and_name, place_and_number, equal_bytes, symlink_of, write_of, fill_of, truncate_of, read_of, setattr_of, sync_of}
use Rattle.script_text.specs.Grammar.{IsNumber, IsNumberIn, IsNameWord, IsPath, ArePath, ArePaths, ArePathAndName, AreRequest}
use Rattle.script_text.proofs.NumberLaw.{both, both_from, number_to, number_from}
use Rattle.script_text.proofs.TextLaw.{text_back}
use Rattle.script_text.proofs.WordLemmas.{name_is}
use Rattle.script_text.proofs.PathLaw.{bind_ok, cond_ok, done, ok_is, at_most, at_most_passes, text_in_to, name_to, place_to, place_back}

-- ---- numbers and names

from_ok : (o : Option ℕ) (value : ℕ) → ok_or o Number ≡ Ok value → o ≡ Some value
from_ok None value e = absurd cc
from_ok (Some other) value e = cc

pub number_arg_to : (word : List ℕ) (value : ℕ) → number_word word ≡ Ok value → IsNumber word value
unfolding number_word
number_arg_to word value e = number_to word value (from_ok (number_of word) value e)

pub number_arg_back : (word : List ℕ) (value : ℕ) → IsNumber word value → number_word word ≡ Ok value
unfolding number_word
number_arg_back word value n = ap (λ (o : Option ℕ). ok_or o Number) (number_from word value n)

pub number_in_to : (least most : ℕ) (word : List ℕ) (value : ℕ) → number_up_to least most word ≡ Ok value → IsNumberIn least most word value
unfolding number_up_to
number_in_to least most word value e =
    let p = bind_ok (number_word word) (λ n. cond (leb least n && leb n most) (done n) (Err Number)) value e in
    let q = cond_ok (leb least p.0 && leb p.0 most) (done p.0) Number value p.2 in
    let b = both (leb least p.0) (leb p.0 most) q.0 in
    subst (λ (n : ℕ). IsNumberIn least most word n) (ok_is p.0 value q.1)
    (record { number = number_arg_to word p.0 p.1; at_least = at_most least p.0 b.0; at_most = at_most p.0 most b.1 })

pub number_in_back : (least most : ℕ) (word : List ℕ) (value : ℕ) → IsNumberIn least most word value → number_up_to least most word ≡ Ok value
unfolding number_up_to
number_in_back least most word value n =
    ap (λ (r : Result ℕ ScriptKind). r >>= λ it. cond (leb least it && leb it most) (done it) (Err Number)) (number_arg_back word value n.number)
    ∙ ap (λ (b : Bool). cond b (done value) (Err Number)) (both_from (leb least value) (leb value most) (at_most_passes least value n.at_least) (at_most_passes value most n.at_most))

pub name_word_to : (word name : List ℕ) → name_of word ≡ Ok name → IsNameWord word name
name_word_to word name e = let p = name_to word name e in record { spelled = p.0; name_is = p.1 }

pub name_word_back : (word name : List ℕ) → IsNameWord word name → name_of word ≡ Ok name
name_word_back word name n = name_is word name (text_back word name n.spelled) n.name_is

-- ---- arguments that several verbs have

pub path_alone_to : (verb : List ℕ) (arguments : List (List ℕ)) (place : Place) → path_alone arguments ≡ Ok place → ArePath verb (verb ∷ arguments) place
unfolding path_alone
path_alone_to verb [] place e = absurd cc
path_alone_to verb (path ∷ []) place e = record { path = path; words_are = refl; path_is = place_to path place e }
path_alone_to verb (path ∷ other ∷ arguments) place e = absurd cc

pub two_paths_to : (verb : List ℕ) (arguments : List (List ℕ)) (places : Place × Place) → two_paths arguments ≡ Ok places → ArePaths verb (verb ∷ arguments) places.0 places.1
unfolding two_paths
two_paths_to verb [] places e = absurd cc
two_paths_to verb (one ∷ []) places e = absurd cc
two_paths_to verb (one ∷ two ∷ []) places e =
    let p = bind_ok (place_of one) (λ first. place_of two >>= λ second. done (first, second)) places e in
    let q = bind_ok (place_of two) (λ second. done (p.0, second)) places p.2 in
    subst (λ (ps : Place × Place). ArePaths verb (verb ∷ one ∷ two ∷ []) ps.0 ps.1) (ok_is (p.0, q.0) places q.2)
    (record { first = one; second = two; words_are = refl; first_is = place_to one p.0 p.1; second_is = place_to two q.0 q.1 })
two_paths_to verb (one ∷ two ∷ other ∷ arguments) places e = absurd cc

pub two_paths_back : (first second : List ℕ) (one two : Place) → IsPath first one → IsPath second two → two_paths (first ∷ second ∷ []) ≡ Ok (one, two)
unfolding two_paths
two_paths_back first second one two p q = rw (place_back first one p, place_back second two q) refl

pub place_and_name_to : (path word : List ℕ) (words : Place × List ℕ) → place_and_name path word ≡ Ok words → IsPath path words.0 × IsNameWord word words.1
unfolding place_and_name
place_and_name_to path word words e =
    let p = bind_ok (place_of path) (λ place. name_of word >>= λ name. done (place, name)) words e in
    let q = bind_ok (name_of word) (λ name. done (p.0, name)) words p.2 in
    subst (λ (ws : Place × List ℕ). IsPath path ws.0 × IsNameWord word ws.1) (ok_is (p.0, q.0) words q.2) (place_to path p.0 p.1, name_word_to word q.0 q.1)

pub place_and_name_back : (path word : List ℕ) (place : Place) (name : List ℕ) → IsPath path place → IsNameWord word name → place_and_name path word ≡ Ok (place, name)
unfolding place_and_name
place_and_name_back path word place name p n = rw (place_back path place p, name_word_back word name n) refl

pub path_and_name_to : (verb : List ℕ) (arguments : List (List ℕ)) (words : Place × List ℕ) → path_and_name arguments ≡ Ok words → ArePathAndName verb (verb ∷ arguments) words.0 words.1
unfolding path_and_name
path_and_name_to verb [] words e = absurd cc
path_and_name_to verb (path ∷ []) words e = absurd cc
path_and_name_to verb (path ∷ word ∷ []) words e =
    let p = place_and_name_to path word words e in record { path = path; word = word; words_are = refl; path_is = p.0; name_is = p.1 }
path_and_name_to verb (path ∷ word ∷ other ∷ arguments) words e = absurd cc

pub place_and_number_to : (path word : List ℕ) (spot : Place × ℕ) → place_and_number path word ≡ Ok spot → IsPath path spot.0 × IsNumber word spot.1
unfolding place_and_number
place_and_number_to path word spot e =
    let p = bind_ok (place_of path) (λ place. number_word word >>= λ value. done (place, value)) spot e in
    let q = bind_ok (number_word word) (λ value. done (p.0, value)) spot p.2 in
    subst (λ (s : Place × ℕ). IsPath path s.0 × IsNumber word s.1) (ok_is (p.0, q.0) spot q.2) (place_to path p.0 p.1, number_arg_to word q.0 q.1)

pub place_and_number_back : (path word : List ℕ) (place : Place) (value : ℕ) → IsPath path place → IsNumber word value → place_and_number path word ≡ Ok (place, value)
unfolding place_and_number
place_and_number_back path word place value p n = rw (place_back path place p, number_arg_back word value n) refl

-- so many bytes that are all this one
pub record AreEqualBytes (many value text : List ℕ) : Type 0 where
  pub count : ℕ
  pub byte : ℕ
  pub count_is : IsNumberIn 1 65536 many count
  pub byte_is : IsNumberIn 0 255 value byte
  pub text_is : text ≡ replicate count byte

pub equal_bytes_to : (many value text : List ℕ) → equal_bytes many value ≡ Ok text → AreEqualBytes many value text
unfolding equal_bytes
equal_bytes_to many value text e =
    let p = bind_ok (number_up_to 1 65536 many) (λ count. number_up_to 0 255 value >>= λ byte. done (replicate count byte)) text e in
    let q = bind_ok (number_up_to 0 255 value) (λ byte. done (replicate p.0 byte)) text p.2 in
    record { count = p.0; byte = q.0; count_is = number_in_to 1 65536 many p.0 p.1; byte_is = number_in_to 0 255 value q.0 q.1; text_is = sym (ok_is (replicate p.0 q.0) text q.2) }

pub equal_bytes_back : (many value text : List ℕ) → AreEqualBytes many value text → equal_bytes many value ≡ Ok text
unfolding equal_bytes
equal_bytes_back many value text are =
    rw (number_in_back 1 65536 many are.count are.count_is, number_in_back 0 255 value are.byte are.byte_is) (ap (λ (t : List ℕ). done t) (sym are.text_is))

-- ---- verbs with arguments of their own

pub symlink_to : (arguments : List (List ℕ)) (request : Request) → symlink_of arguments ≡ Ok request → AreRequest (codes "symlink" ∷ arguments) request
unfolding symlink_of
symlink_to [] request e = absurd cc
symlink_to (path ∷ []) request e = absurd cc
symlink_to (path ∷ target ∷ []) request e =
    let p = bind_ok (place_of path) (λ place. text_up_to 1023 target >>= λ text. done (requests.Op (Symlink place text))) request e in
    let q = bind_ok (text_up_to 1023 target) (λ text. done (requests.Op (Symlink p.0 text))) request p.2 in
    subst (λ (it : Request). AreRequest (codes "symlink" ∷ path ∷ target ∷ []) it) (ok_is (requests.Op (Symlink p.0 q.0)) request q.2)
    (record { path = path; word = target; words_are = refl; path_is = place_to path p.0 p.1; target_is = text_in_to 1023 target q.0 q.1 })
symlink_to (path ∷ target ∷ other ∷ arguments) request e = absurd cc

pub write_to : (arguments : List (List ℕ)) (request : Request) → write_of arguments ≡ Ok request → AreRequest (codes "write" ∷ arguments) request
unfolding write_of
write_to [] request e = absurd cc
write_to (path ∷ []) request e = absurd cc
write_to (path ∷ offset ∷ []) request e = absurd cc
write_to (path ∷ offset ∷ text ∷ []) request e =
    let p = bind_ok (place_and_number path offset) (λ spot. text_up_to 65536 text >>= λ content. done (requests.Op (Write spot.0 spot.1 content))) request e in
    let r = bind_ok (text_up_to 65536 text) (λ content. done (requests.Op (Write p.0.0 p.0.1 content))) request p.2 in
    let spot = place_and_number_to path offset p.0 p.1 in
    subst (λ (it : Request). AreRequest (codes "write" ∷ path ∷ offset ∷ text ∷ []) it) (ok_is (requests.Op (Write p.0.0 p.0.1 r.0)) request r.2)
    (inl (record { path = path; at = offset; word = text; words_are = refl; path_is = spot.0; offset_is = spot.1; text_is = text_in_to 65536 text r.0 r.1 }))
write_to (path ∷ offset ∷ text ∷ other ∷ arguments) request e = absurd cc

pub fill_to : (arguments : List (List ℕ)) (request : Request) → fill_of arguments ≡ Ok request → AreRequest (codes "fill" ∷ arguments) request
unfolding fill_of
fill_to [] request e = absurd cc
fill_to (path ∷ []) request e = absurd cc
fill_to (path ∷ offset ∷ []) request e = absurd cc
fill_to (path ∷ offset ∷ count ∷ []) request e = absurd cc
fill_to (path ∷ offset ∷ count ∷ byte ∷ []) request e =
    let p = bind_ok (place_and_number path offset) (λ spot. equal_bytes count byte >>= λ content. done (requests.Op (Write spot.0 spot.1 content))) request e in
    let r = bind_ok (equal_bytes count byte) (λ content. done (requests.Op (Write p.0.0 p.0.1 content))) request p.2 in
    let spot = place_and_number_to path offset p.0 p.1 in
    let run = equal_bytes_to count byte r.0 r.1 in
    subst (λ (it : Request). AreRequest (codes "fill" ∷ path ∷ offset ∷ count ∷ byte ∷ []) it) (ok_is (requests.Op (Write p.0.0 p.0.1 r.0)) request r.2)
    (inr (record {
      path = path;
      at = offset;
      many = count;
      value = byte;
      count = run.count;
      byte = run.byte;
      words_are = refl;
      path_is = spot.0;
      offset_is = spot.1;
      count_is = run.count_is;
      byte_is = run.byte_is;
      text_is = run.text_is;
    }))
fill_to (path ∷ offset ∷ count ∷ byte ∷ other ∷ arguments) request e = absurd cc

pub truncate_to : (arguments : List (List ℕ)) (request : Request) → truncate_of arguments ≡ Ok request → AreRequest (codes "truncate" ∷ arguments) request
unfolding truncate_of
truncate_to [] request e = absurd cc
truncate_to (path ∷ []) request e = absurd cc
truncate_to (path ∷ size ∷ []) request e =
    let p = bind_ok (place_and_number path size) (λ spot. done (requests.Op (Truncate spot.0 spot.1))) request e in
    let spot = place_and_number_to path size p.0 p.1 in
    subst (λ (it : Request). AreRequest (codes "truncate" ∷ path ∷ size ∷ []) it) (ok_is (requests.Op (Truncate p.0.0 p.0.1)) request p.2)
    (record { path = path; word = size; words_are = refl; path_is = spot.0; size_is = spot.1 })
truncate_to (path ∷ size ∷ other ∷ arguments) request e = absurd cc

pub read_to : (arguments : List (List ℕ)) (request : Request) → read_of arguments ≡ Ok request → AreRequest (codes "read" ∷ arguments) request
unfolding read_of
read_to [] request e = absurd cc
read_to (path ∷ []) request e = absurd cc
read_to (path ∷ offset ∷ []) request e = absurd cc
read_to (path ∷ offset ∷ count ∷ []) request e =
    let p = bind_ok (place_and_number path offset) (λ spot. number_up_to 0 65536 count >>= λ most. done (requests.Op (Read spot.0 spot.1 most))) request e in
    let r = bind_ok (number_up_to 0 65536 count) (λ most. done (requests.Op (Read p.0.0 p.0.1 most))) request p.2 in
    let spot = place_and_number_to path offset p.0 p.1 in
    subst (λ (it : Request). AreRequest (codes "read" ∷ path ∷ offset ∷ count ∷ []) it) (ok_is (requests.Op (Read p.0.0 p.0.1 r.0)) request r.2)
    (record { path = path; at = offset; many = count; words_are = refl; path_is = spot.0; offset_is = spot.1; count_is = number_in_to 0 65536 count r.0 r.1 })
read_to (path ∷ offset ∷ count ∷ other ∷ arguments) request e = absurd cc

pub setattr_to : (arguments : List (List ℕ)) (request : Request) → setattr_of arguments ≡ Ok request → AreRequest (codes "setattr" ∷ arguments) request
unfolding setattr_of
setattr_to [] request e = absurd cc
setattr_to (path ∷ []) request e = absurd cc
setattr_to (path ∷ name ∷ []) request e = absurd cc
setattr_to (path ∷ name ∷ value ∷ []) request e =
    let p = bind_ok (place_and_name path name) (λ named. text_up_to 4096 value >>= λ text. done (requests.Op (SetAttr named.0 named.1 text))) request e in
    let r = bind_ok (text_up_to 4096 value) (λ text. done (requests.Op (SetAttr p.0.0 p.0.1 text))) request p.2 in
    let named = place_and_name_to path name p.0 p.1 in
    subst (λ (it : Request). AreRequest (codes "setattr" ∷ path ∷ name ∷ value ∷ []) it) (ok_is (requests.Op (SetAttr p.0.0 p.0.1 r.0)) request r.2)
    (record { path = path; word = name; text = value; words_are = refl; path_is = named.0; name_is = named.1; value_is = text_in_to 4096 value r.0 r.1 })
setattr_to (path ∷ name ∷ value ∷ other ∷ arguments) request e = absurd cc

pub sync_to : (arguments : List (List ℕ)) (request : Request) → sync_of arguments ≡ Ok request → AreRequest (codes "sync" ∷ arguments) request
unfolding sync_of
sync_to [] request e = subst (λ (r : Request). AreRequest (codes "sync" ∷ []) r) (ok_is requests.Sync request e) refl
sync_to (other ∷ arguments) request e = absurd cc
