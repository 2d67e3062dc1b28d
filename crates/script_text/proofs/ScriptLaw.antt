-- Bytes are read as a script exactly where they are one.
use Rattle.std.proofs.Common.{◌≡◌, ◌≤◌, ◌+◌, ◌⊎◌, ◌↔◌, inl, inr, ℕ, Bool, true, false, cond, eqb, List, [], ◌∷◌, ◌++◌, length, Option, Some, None, Result, Ok, Err, ap, sym, refl, ◌∙◌, subst, append_assoc, arith}
use Rattle.std.specs.List.{AllByRecursion, join_with_byte, onto_first}
use Rattle.std.proofs.lemmas.List.{append-nil, nil_from_length}
use Rattle.std.proofs.lemmas.List.Splits.{join_with_byte-slice_split, length-slice_split}
use Rattle.script_text.specs.declared.fault.ScriptKind.{ScriptKind}
use Rattle.flat_model.specs.declared.request.Line.{Line}
use Rattle.script_text.specs.Words.{parts_at}
use Rattle.script_text.specs.Script.{line_of, without_empty_end, lines_of, with_line, script_behind, script_with, script_from, script_of}
use Rattle.script_text.specs.Grammar.{IsWithout, Speak, ended, IsScript}
use Rattle.script_text.proofs.NumberLaw.{is_it}
use Rattle.script_text.proofs.PartsLaw.{bool_is, parts_cons, parts_without}
use Rattle.script_text.proofs.LineLemmas.{line_is_in_range}
use Rattle.script_text.proofs.LineLaw.{Says, line_to, line_back, silent_back}

-- ---- the lines that do something

abbrev read : {A : Type 0} → A → Result A (ℕ × ScriptKind)
read x = Ok x

read_is : {A : Type 0} (x y : A) → read x ≡ read y → x ≡ y
read_is x y e = cc

behind_to : (o : Option Line) (rest : Result (List Line) (ℕ × ScriptKind)) (lines : List Line) → script_behind o rest ≡ Ok lines → (others : List Line) × (rest ≡ Ok others) × (with_line o others ≡ lines)
behind_to o (Ok others) lines e = (others, refl, read_is (with_line o others) lines e)
behind_to o (Err fault) lines e = absurd cc

with_to : (number : ℕ) (line : Result (Option Line) ScriptKind) (rest : Result (List Line) (ℕ × ScriptKind)) (lines : List Line) → script_with number line rest ≡ Ok lines
    → (o : Option Line) × (line ≡ Ok o) × (script_behind o rest ≡ Ok lines)
with_to number (Ok o) rest lines e = (o, refl, e)
with_to number (Err kind) rest lines e = absurd cc

says : (bytes : List ℕ) (texts : List (List ℕ)) (o : Option Line) (others : List Line) → Says bytes o → Speak texts others → Speak (bytes ∷ texts) (with_line o others)
says bytes texts None others s more = inl (s, more)
says bytes texts (Some line) others s more = inr (line, others, refl, s, more)

speak_to : (texts : List (List ℕ)) (number : ℕ) (lines : List Line) → number ≤ 65537 → script_from number texts ≡ Ok lines → (length texts + number ≤ 65537) × Speak texts lines
unfolding script_from
speak_to [] number lines le e = (omega arith, sym (read_is [] lines e))
speak_to (bytes ∷ texts) number lines le e =
    let p = with_to number (line_of number bytes) (script_from (number + 1) texts) lines e in
    let q = behind_to p.0 (script_from (number + 1) texts) lines p.2 in
    let small = line_is_in_range number bytes p.0 p.1 in
    let r = speak_to texts (number + 1) q.0 (omega arith) q.1 in
    (omega (arith, r.0), subst (λ (ls : List Line). Speak (bytes ∷ texts) ls) q.2 (says bytes texts p.0 q.0 (line_to number bytes p.0 p.1) r.1))

speak_back : (texts : List (List ℕ)) (number : ℕ) (lines : List Line) → length texts + number ≤ 65537 → Speak texts lines → script_from number texts ≡ Ok lines
unfolding script_from
speak_back [] number lines le s = ap read (sym s)
speak_back (bytes ∷ texts) number lines le (inl s) =
    ap (λ (r : Result (Option Line) ScriptKind). script_with number r (script_from (number + 1) texts)) (silent_back number bytes (omega arith) s.0)
    ∙ ap (script_behind None) (speak_back texts (number + 1) lines (omega arith) s.1)
speak_back (bytes ∷ texts) number lines le (inr s) =
    ap (λ (r : Result (Option Line) ScriptKind). script_with number r (script_from (number + 1) texts)) (line_back number bytes s.0 (omega arith) s.3)
    ∙ ap (script_behind (Some s.0)) (speak_back texts (number + 1) s.1 (omega arith) s.4) ∙ ap read (sym s.2)

-- ---- lines and their ends

-- the parts with the last LF or without it
ended_parts : (part : List ℕ) (parts : List (List ℕ)) → (join_with_byte 10 (part ∷ parts) ≡ ended (without_empty_end (part ∷ parts))) ⊎ (join_with_byte 10 (part ∷ parts) ++ 10 ∷ [] ≡ ended (without_empty_end (part ∷ parts)))
ended_parts part [] =
    elim (bool_is (eqb (length part) 0)) [
      | inl passes ↦ inl (nil_from_length part (is_it (length part) 0 passes) ∙ sym (ap (λ (b : Bool). ended (cond b [] (part ∷ []))) passes))
      | inr other ↦ inr (sym (append-nil (part ++ 10 ∷ [])) ∙ sym (ap (λ (b : Bool). ended (cond b [] (part ∷ []))) other))
    ]
ended_parts part (next ∷ parts) =
    let more : List ℕ = join_with_byte 10 (next ∷ parts) in
    let rest : List ℕ = ended (without_empty_end (next ∷ parts)) in
    elim (ended_parts next parts) [
      | inl e ↦ inl (ap (λ (r : List ℕ). part ++ 10 ∷ r) e ∙ sym (append_assoc part (10 ∷ []) rest))
      | inr e ↦ inr (append_assoc part (10 ∷ more) (10 ∷ []) ∙ ap (λ (r : List ℕ). part ++ 10 ∷ r) e ∙ sym (append_assoc part (10 ∷ []) rest))
    ]

lines_ended : (bytes : List ℕ) (parts : List (List ℕ)) → 1 ≤ length parts → join_with_byte 10 parts ≡ bytes → (bytes ≡ ended (without_empty_end parts)) ⊎ (bytes ++ 10 ∷ [] ≡ ended (without_empty_end parts))
lines_ended bytes [] some is = absurd (omega (arith, some))
lines_ended bytes (part ∷ parts) some is =
    elim (ended_parts part parts) [
      | inl e ↦ inl (sym is ∙ e)
      | inr e ↦ inr (ap (λ (b : List ℕ). b ++ 10 ∷ []) (sym is) ∙ e)
    ]

end_without : (parts : List (List ℕ)) → AllByRecursion (IsWithout 10) parts → AllByRecursion (IsWithout 10) (without_empty_end parts)
end_without [] ws = tt
end_without (part ∷ []) ws =
    elim (bool_is (eqb (length part) 0)) [
      | inl passes ↦ subst (λ (b : Bool). AllByRecursion (IsWithout 10) (cond b [] (part ∷ []))) (sym passes) tt
      | inr other ↦ subst (λ (b : Bool). AllByRecursion (IsWithout 10) (cond b [] (part ∷ []))) (sym other) ws
    ]
end_without (part ∷ next ∷ parts) ws = (ws.0, end_without (next ∷ parts) ws.1)

script_to : (bytes : List ℕ) (lines : List Line) → script_of bytes ≡ Ok lines → IsScript bytes lines
unfolding script_of lines_of
script_to bytes lines e =
    let s = speak_to (lines_of bytes) 1 lines (omega arith) e in
    let n = length-slice_split (λ byte. eqb byte 10) bytes in
    record {
      texts = lines_of bytes;
      few = omega (arith, s.0);
      no_lf = end_without (parts_at 10 bytes) (parts_without 10 bytes);
      joined = lines_ended bytes (parts_at 10 bytes) (omega (arith, n)) (join_with_byte-slice_split 10 bytes);
      spoken = s.1;
    }

-- the parts of lines that are ended
parts_ended : (texts : List (List ℕ)) → AllByRecursion (IsWithout 10) texts → parts_at 10 (ended texts) ≡ texts ++ [] ∷ []
parts_ended [] ws = refl
parts_ended (text ∷ texts) ws = ap (parts_at 10) (append_assoc text (10 ∷ []) (ended texts)) ∙ parts_cons 10 text (ended texts) ws.0 ∙ ap (λ (ps : List (List ℕ)). text ∷ ps) (parts_ended texts ws.1)

without_end : (texts : List (List ℕ)) → without_empty_end (texts ++ [] ∷ []) ≡ texts
without_end [] = refl
without_end (text ∷ []) = refl
without_end (text ∷ next ∷ texts) = ap (λ (ts : List (List ℕ)). text ∷ ts) (without_end (next ∷ texts))

onto_append : (byte : ℕ) (parts more : List (List ℕ)) → 1 ≤ length parts → onto_first byte (parts ++ more) ≡ onto_first byte parts ++ more
onto_append byte [] more some = absurd (omega (arith, some))
onto_append byte (part ∷ parts) more some = refl

go : (b : Bool) (byte : ℕ) (parts : List (List ℕ)) → 1 ≤ length parts → cond b ([] ∷ (parts ++ [] ∷ [])) (onto_first byte (parts ++ [] ∷ [])) ≡ cond b ([] ∷ parts) (onto_first byte parts) ++ [] ∷ []
go true byte parts some = refl
go false byte parts some = onto_append byte parts ([] ∷ []) some

-- an LF more is an empty part more
parts_more : (bytes : List ℕ) → parts_at 10 (bytes ++ 10 ∷ []) ≡ parts_at 10 bytes ++ [] ∷ []
parts_more [] = refl
parts_more (byte ∷ bytes) =
    let n = length-slice_split (λ b. eqb b 10) bytes in
    ap (λ (ps : List (List ℕ)). cond (eqb byte 10) ([] ∷ ps) (onto_first byte ps)) (parts_more bytes)
    ∙ go (eqb byte 10) byte (parts_at 10 bytes) (omega (arith, n))

silent_end : (texts : List (List ℕ)) (number : ℕ) (lines : List Line) → script_from number texts ≡ Ok lines → script_from number (without_empty_end texts) ≡ Ok lines
unfolding script_from
silent_end [] number lines e = e
silent_end (text ∷ []) number lines e =
    elim (bool_is (eqb (length text) 0)) [
      | inl passes ↦
          let p = with_to number (line_of number text) (read []) lines e in
          let small = line_is_in_range number text p.0 p.1 in
          let silent : line_of number text ≡ Ok None = silent_back number text small (inl (nil_from_length text (is_it (length text) 0 passes))) in
          ap (λ (b : Bool). script_from number (cond b [] (text ∷ []))) passes ∙ sym (ap (λ (r : Result (Option Line) ScriptKind). script_with number r (read [])) silent) ∙ e
      | inr other ↦ ap (λ (b : Bool). script_from number (cond b [] (text ∷ []))) other ∙ e
    ]
silent_end (text ∷ next ∷ texts) number lines e =
    let p = with_to number (line_of number text) (script_from (number + 1) (next ∷ texts)) lines e in
    let q = behind_to p.0 (script_from (number + 1) (next ∷ texts)) lines p.2 in
    let r = silent_end (next ∷ texts) (number + 1) q.0 q.1 in
    ap (script_with number (line_of number text)) r ∙ ap (λ (l : Result (Option Line) ScriptKind). script_with number l (read q.0)) p.1 ∙ ap read q.2

script_back : (bytes : List ℕ) (lines : List Line) → IsScript bytes lines → script_of bytes ≡ Ok lines
unfolding script_of lines_of
script_back bytes lines s =
    let found : script_from 1 s.texts ≡ Ok lines = speak_back s.texts 1 lines (omega (arith, s.few)) s.spoken in
    elim s.joined [
      | inl e ↦ ap (script_from 1) (ap lines_of e ∙ ap without_empty_end (parts_ended s.texts s.no_lf) ∙ without_end s.texts) ∙ found
      | inr e ↦
          let more : parts_at 10 bytes ++ [] ∷ [] ≡ s.texts ++ [] ∷ [] = sym (parts_more bytes) ∙ ap (parts_at 10) e ∙ parts_ended s.texts s.no_lf in
          let same : parts_at 10 bytes ≡ s.texts = sym (without_end (parts_at 10 bytes)) ∙ ap without_empty_end more ∙ without_end s.texts in
          ap (λ (ts : List (List ℕ)). script_from 1 (without_empty_end ts)) same ∙ silent_end s.texts 1 lines found
    ]

pub script_both : (bytes : List ℕ) (lines : List Line) → (script_of bytes ≡ Ok lines) ↔ IsScript bytes lines
script_both bytes lines = (script_to bytes lines, script_back bytes lines)
