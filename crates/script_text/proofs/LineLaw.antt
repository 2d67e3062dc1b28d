-- Bytes are read as a line exactly where they are one.
use Rattle.std.proofs.Common.{◌≡◌, ◌≤◌, inl, inr, ℕ, Bool, true, false, cond, not, eqb, ltb, leb, ◌&&◌, ◌||◌, List, [], ◌∷◌, ◌++◌, length, Option, Some, None, Result, Ok, Err, ap, sym, refl, ◌∙◌, subst, arith}
use Rattle.std.specs.List.{AllByRecursion, join_with_byte}
use Rattle.std.specs.Str.{IsUtf8, is_utf8}
use Rattle.std.proofs.lemmas.Bool.Decides.{nat_tests}
use Rattle.std.proofs.lemmas.List.Splits.{join_with_byte-slice_split}
use Rattle.std.proofs.lemmas.Str.{IsUtf8-from_is_utf8, is_utf8-from_IsUtf8}
use Rattle.script_text.specs.declared.fault.ScriptKind.{ScriptKind}
use Rattle.script_text.specs.declared.fault.ScriptKind.TheVariants.{Lines, Utf8, Caller}
use Rattle.flat_model.specs.declared.request.Line.{Line}
use Rattle.flat_model.specs.declared.request.Line.TheVariants.{Plain}
use Rattle.flat_model.specs.declared.request.Request.{Request}
use Rattle.script_text.specs.Kinds.{◌>>=◌}
use Rattle.script_text.specs.Words.{number_of}
use Rattle.script_text.specs.Script.{request_from, caller_in, caller_of, line_from, is_silent, words_of, line_of}
use Rattle.script_text.specs.Grammar.{IsWithout, IsDigit, IsNumber, IsSpoken, IsLine, IsSilent}
use Rattle.script_text.proofs.NumberLaw.{both, both_from, is_other, is_it, number_to, number_from}
use Rattle.script_text.proofs.PartsLaw.{bool_is, parts_join, parts_without}
use Rattle.script_text.proofs.PathLaw.{bind_ok, cond_ok, done, ok_is, at_most, at_most_passes, digits_without}
use Rattle.script_text.proofs.RequestLaw.{cond_passed, request_to, request_back}

caller_to : (o : Option ℕ) (caller : ℕ) → caller_in o ≡ Ok caller → (o ≡ Some caller) × (1 ≤ caller) × (caller ≤ 16)
caller_to None caller e = absurd cc
caller_to (Some number) caller e =
    let p = cond_ok (leb 1 number && leb number 16) (done number) Caller caller e in
    let same = ok_is number caller p.1 in
    let b = both (leb 1 number) (leb number 16) p.0 in
    (ap (λ (n : ℕ). Some n) same, subst (λ (n : ℕ). 1 ≤ n) same (at_most 1 number b.0), subst (λ (n : ℕ). n ≤ 16) same (at_most number 16 b.1))

caller_back : (word : List ℕ) (caller : ℕ) → IsNumber word caller → 1 ≤ caller → caller ≤ 16 → caller_of word ≡ Ok caller
unfolding caller_of
caller_back word caller n least most =
    ap caller_in (number_from word caller n) ∙ ap (λ (b : Bool). cond b (done caller) (Err Caller)) (both_from (leb 1 caller) (leb caller 16) (at_most_passes 1 caller least) (at_most_passes caller 16 most))

words_to : (bytes : List ℕ) (words : List (List ℕ)) (line : Line) → bytes ≡ join_with_byte 32 words → AllByRecursion (IsWithout 32) words → IsUtf8 bytes → line_from words ≡ Ok line → IsLine bytes line
unfolding line_from caller_of
words_to bytes [] line is ws text e = absurd cc
words_to bytes (word ∷ words) line is ws text e =
    let p = bind_ok (caller_of word) (λ caller. request_from words >>= λ request. done (Plain caller request)) line e in
    let q = bind_ok (request_from words) (λ request. done (Plain p.0 request)) line p.2 in
    let c = caller_to (number_of word) p.0 p.1 in
    let spoken : IsSpoken bytes p.0 q.0 = record {
      caller_word = word;
      words = words;
      bytes_are = is;
      no_space = ws.1;
      utf8 = text;
      caller_is = number_to word p.0 c.0;
      least = c.1;
      most = c.2;
      request_is = request_to words q.0 q.1;
    } in
    subst (λ (l : Line). IsLine bytes l) (ok_is (Plain p.0 q.0) line q.2) spoken

-- what a line that was read is
abbrev pub Says : List ℕ → Option Line → Type 0
Says bytes None = IsSilent bytes
Says bytes (Some line) = IsLine bytes line

silent_to : (bytes : List ℕ) → is_silent bytes ≡ true → IsSilent bytes
silent_to [] e = inl refl
silent_to (byte ∷ bytes) e =
    let none : eqb (length (byte ∷ bytes)) 0 ≡ false = is_other (length (byte ∷ bytes)) 0 (omega arith) in
    let hash : eqb byte 35 ≡ true = sym (ap (λ (b : Bool). b || eqb byte 35) none) ∙ e in
    inr (bytes, ap (λ (b : ℕ). b ∷ bytes) (is_it byte 35 hash))

utf8_passed : (b : Bool) → not b ≡ false → b ≡ true
utf8_passed true e = refl
utf8_passed false e = absurd cc

pub line_to : (number : ℕ) (bytes : List ℕ) (read : Option Line) → line_of number bytes ≡ Ok read → Says bytes read
unfolding line_of
line_to number bytes read e =
    let spoken : Result (Option Line) ScriptKind = line_from (words_of bytes) >>= λ line. done (Some line) in
    let text : Result (Option Line) ScriptKind = cond (not (is_utf8 bytes)) (Err Utf8) spoken in
    let p = cond_passed (ltb 65536 number) Lines (cond (is_silent bytes) (done None) text) read e in
    elim (bool_is (is_silent bytes)) [
      | inl passes ↦ subst (λ (o : Option Line). Says bytes o) (ok_is None read (sym (ap (λ (b : Bool). cond b (done None) text) passes) ∙ p.1)) (silent_to bytes passes)
      | inr other ↦
          let q = cond_passed (not (is_utf8 bytes)) Utf8 spoken read (sym (ap (λ (b : Bool). cond b (done None) text) other) ∙ p.1) in
          let r = bind_ok (line_from (words_of bytes)) (λ line. done (Some line)) read q.1 in
          subst (λ (o : Option Line). Says bytes o) (ok_is (Some r.0) read r.2)
          (words_to bytes (words_of bytes) r.0 (sym (join_with_byte-slice_split 32 bytes)) (parts_without 32 bytes) (IsUtf8-from_is_utf8 bytes (utf8_passed (is_utf8 bytes) q.0)) r.1)
    ]

few_lines : (number : ℕ) → number ≤ 65536 → ltb 65536 number ≡ false
few_lines number le = grind (arith, nat_tests)

silent_passes : (bytes : List ℕ) → IsSilent bytes → is_silent bytes ≡ true
silent_passes bytes (inl h) = ap is_silent h
silent_passes bytes (inr h) = ap is_silent h.1 ∙ ap (λ (b : Bool). b || true) (is_other (length (35 ∷ h.0)) 0 (omega arith))

pub silent_back : (number : ℕ) (bytes : List ℕ) → number ≤ 65536 → IsSilent bytes → line_of number bytes ≡ Ok None
unfolding line_of
silent_back number bytes le s =
    let text : Result (Option Line) ScriptKind = cond (not (is_utf8 bytes)) (Err Utf8) (line_from (words_of bytes) >>= λ line. done (Some line)) in
    ap (λ (b : Bool). cond b (Err Lines) (cond (is_silent bytes) (done None) text)) (few_lines number le) ∙ ap (λ (b : Bool). cond b (done None) text) (silent_passes bytes s)

other_first : (digit : ℕ) (bytes : List ℕ) → IsDigit digit → is_silent (digit ∷ bytes) ≡ false
other_first digit bytes d =
    ap (λ (b : Bool). b || eqb digit 35) (is_other (length (digit ∷ bytes)) 0 (omega arith)) ∙ is_other digit 35 (omega (arith, d.0))

begins_with : (word : List ℕ) (words : List (List ℕ)) → 1 ≤ length word → AllByRecursion IsDigit word → is_silent (join_with_byte 32 (word ∷ words)) ≡ false
begins_with [] words some digits = absurd (omega (arith, some))
begins_with (digit ∷ word) [] some digits = other_first digit word digits.0
begins_with (digit ∷ word) (next ∷ words) some digits = other_first digit (word ++ 32 ∷ join_with_byte 32 (next ∷ words)) digits.0

pub line_back : (number : ℕ) (bytes : List ℕ) (line : Line) → number ≤ 65536 → IsLine bytes line → line_of number bytes ≡ Ok (Some line)
unfolding line_of line_from
line_back number bytes (Plain caller request) le s =
    let spoken : Result (Option Line) ScriptKind = line_from (words_of bytes) >>= λ line. done (Some line) in
    let text : Result (Option Line) ScriptKind = cond (not (is_utf8 bytes)) (Err Utf8) spoken in
    let no_space : IsWithout 32 s.caller_word = digits_without 32 s.caller_word (λ byte d. omega (arith, d.0)) s.caller_is.digits in
    let cut : words_of bytes ≡ s.caller_word ∷ s.words = ap words_of s.bytes_are ∙ parts_join 32 s.caller_word s.words no_space s.no_space in
    let aloud : is_silent bytes ≡ false = ap is_silent s.bytes_are ∙ begins_with s.caller_word s.words s.caller_is.some s.caller_is.digits in
    ap (λ (b : Bool). cond b (Err Lines) (cond (is_silent bytes) (done None) text)) (few_lines number le)
    ∙ ap (λ (b : Bool). cond b (done None) text) aloud
    ∙ ap (λ (b : Bool). cond (not b) (Err Utf8) spoken) (is_utf8-from_IsUtf8 bytes s.utf8)
    ∙ ap (λ (ws : List (List ℕ)). line_from ws >>= λ line. done (Some line)) cut
    ∙ ap (λ (r : Result ℕ ScriptKind). (r >>= λ c. request_from s.words >>= λ q. done (Plain c q)) >>= λ line. done (Some line)) (caller_back s.caller_word caller s.caller_is s.least s.most)
    ∙ ap (λ (r : Result Request ScriptKind). (r >>= λ q. done (Plain caller q)) >>= λ line. done (Some line)) (request_back s.words request s.request_is)
line_back number bytes line le s = absurd s
