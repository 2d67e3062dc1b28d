-- Which answer refuses an operation, by its rows.
use Rattle.std.proofs.Common.{◌≡◌, ◌+◌, ◌&&◌, ℕ, Bool, true, false, cond, List, [], ◌∷◌, ◌++◌, Option, Some, None, refl, sym, ap, ◌∙◌}
use Rattle.std.specs.Option.{unwrap_or}
use Rattle.std.proofs.lemmas.Bool.{and_parts}
use Rattle.flat_model.specs.declared.answer.Answer.{Answer}
use Rattle.flat_model.specs.declared.answer.Answer.TheVariants.{Collide}
use Rattle.flat_model.specs.Names.{FlatName}
use Rattle.flat_model.specs.Operations.{Outcome, do_collide, exchange, exchange_done, exchange_rows, exchange_tests, first_answer, link, link_done, link_rows, make, make_done, make_rows, names_without, new_name, removal_done, rename, rename_done, rename_rows, rename_tests, rmdir, rmdir_rows, unchanged, unless_refused, unlink, unlink_rows, without_entry}
use Rattle.flat_model.specs.Records.{InodeRecord}
use Rattle.flat_model.specs.Refusal.{is_refusal}
use Rattle.flat_model.specs.Volume.{RunSub}
use Rattle.flat_model.specs.Walk.{WalkEnd, ino_at, walk}
use Rattle.name_ops.specs.Refused.{refusal_of}
use Rattle.name_ops.specs.Tests.{link_tests, make_tests}
use Rattle.name_ops.proofs.Answered.{rows_ahead, rows_behind}

-- ---- rows

-- an answer where it refuses
abbrev pub judged : Option Answer → Option Answer
judged None = None
judged (Some answer) = cond (is_refusal answer) (Some answer) None

by_rows : (run : RunSub) (rows : List (Bool × Answer)) (done : Outcome) → is_refusal done.answer ≡ false → refusal_of (unless_refused run rows done) ≡ judged (first_answer rows)
by_rows run rows done works =
    elim (first_answer rows) as (λ o. refusal_of (elim o as (λ o. Outcome) [ None ↦ done | Some answer ↦ unchanged run answer ]) ≡ judged o) [
      | None ↦ ap (λ (b : Bool). cond b (Some done.answer) None) works
      | Some answer ↦ refl
    ]

-- each of these rows refuses
abbrev all_refuse : List (Bool × Answer) → Bool
all_refuse [] = true
all_refuse (row ∷ rows) = is_refusal row.1 && all_refuse rows

refusals : (rows : List (Bool × Answer)) → all_refuse rows ≡ true → judged (first_answer rows) ≡ first_answer rows
refusals [] all = refl
refusals (row ∷ rows) all =
    let parts = and_parts (is_refusal row.1) (all_refuse rows) all in
    elim row.0 as (λ b. judged (cond b (Some row.1) (first_answer rows)) ≡ cond b (Some row.1) (first_answer rows)) [
      | true ↦ ap (λ (b : Bool). cond b (Some row.1) None) parts.0
      | false ↦ refusals rows parts.1
    ]

-- where a test answers that comes before the last row
tested : (run : RunSub) (tests last : List (Bool × Answer)) (done : Outcome) (answer : Answer) → is_refusal done.answer ≡ false → first_answer tests ≡ Some answer → refusal_of (unless_refused run (tests ++ last) done) ≡ judged (Some answer)
tested run tests last done answer works is = by_rows run (tests ++ last) done works ∙ ap judged (rows_ahead tests last answer is)

-- where none of them does, the last decides
collision_alone : (b : Bool) → judged (first_answer ((b, Collide) ∷ [])) ≡ cond b (Some Collide) None
collision_alone true = refl
collision_alone false = refl

untested : (run : RunSub) (tests : List (Bool × Answer)) (collide : Bool) (done : Outcome) → is_refusal done.answer ≡ false → first_answer tests ≡ None → refusal_of (unless_refused run (tests ++ (collide, Collide) ∷ []) done) ≡ cond collide (Some Collide) None
untested run tests collide done works none =
    by_rows run (tests ++ (collide, Collide) ∷ []) done works ∙ ap judged (rows_behind tests ((collide, Collide) ∷ []) none) ∙ collision_alone collide

-- where each of them refuses
pub refuses : (tests : List (Bool × Answer)) (answer : Answer) → all_refuse tests ≡ true → first_answer tests ≡ Some answer → judged (Some answer) ≡ Some answer
refuses tests answer all is = ap judged (sym is) ∙ refusals tests all ∙ is

-- ---- create, mkdir and symlink

module _ (run : RunSub) (path : List (List ℕ)) (inode : InodeRecord) (index : ℕ) where
  abbrev make_outcome : WalkEnd → Outcome
  make_outcome place =
      let name = new_name run.sub.names place index (run.numbers.last_ino + 1) in
      unless_refused run (make_rows run place name) (make_done run inode name)

  pub make_tested : (place : WalkEnd) (answer : Answer) → walk run.sub path ≡ place → first_answer (make_tests run place) ≡ Some answer → Some answer ≡ refusal_of (make run path inode index)
  unfolding make
  make_tested place answer at is =
      let name = new_name run.sub.names place index (run.numbers.last_ino + 1) in
      sym (ap (λ (end : WalkEnd). refusal_of (make_outcome end)) at ∙ tested run (make_tests run place) ((do_collide run.sub.names (name ∷ []), Collide) ∷ []) (make_done run inode name) answer refl is ∙ refuses (make_tests run place) answer refl is)

  pub make_untested : (place : WalkEnd) → walk run.sub path ≡ place → first_answer (make_tests run place) ≡ None
      → refusal_of (make run path inode index) ≡ cond (do_collide run.sub.names (new_name run.sub.names place index (run.numbers.last_ino + 1) ∷ [])) (Some Collide) None
  unfolding make
  make_untested place at none =
      let name = new_name run.sub.names place index (run.numbers.last_ino + 1) in
      ap (λ (end : WalkEnd). refusal_of (make_outcome end)) at ∙ untested run (make_tests run place) (do_collide run.sub.names (name ∷ [])) (make_done run inode name) refl none

-- ---- link

module _ (run : RunSub) (old new : List (List ℕ)) (index : ℕ) (from to : WalkEnd) (from_is : walk run.sub old ≡ from) (to_is : walk run.sub new ≡ to) where
  abbrev link_outcome : WalkEnd → WalkEnd → Outcome
  link_outcome from to =
      let name = new_name run.sub.names to index (unwrap_or (ino_at from) 0) in
      unless_refused run (link_rows run from to name) (link_done run name)

  link_is : link run old new index ≡ link_outcome from to
  unfolding link
  link_is = λ i. link_outcome (from_is i) (to_is i)

  pub link_tested : (answer : Answer) → first_answer (link_tests run from to) ≡ Some answer → Some answer ≡ refusal_of (link run old new index)
  link_tested answer is =
      let name = new_name run.sub.names to index (unwrap_or (ino_at from) 0) in
      sym (ap refusal_of link_is ∙ tested run (link_tests run from to) ((do_collide run.sub.names (name ∷ []), Collide) ∷ []) (link_done run name) answer refl is ∙ refuses (link_tests run from to) answer refl is)

  pub link_untested : first_answer (link_tests run from to) ≡ None
      → refusal_of (link run old new index) ≡ cond (do_collide run.sub.names (new_name run.sub.names to index (unwrap_or (ino_at from) 0) ∷ [])) (Some Collide) None
  link_untested none =
      let name = new_name run.sub.names to index (unwrap_or (ino_at from) 0) in
      ap refusal_of link_is ∙ untested run (link_tests run from to) (do_collide run.sub.names (name ∷ [])) (link_done run name) refl none

-- ---- unlink and rmdir

pub unlink_tested : (run : RunSub) (path : List (List ℕ)) (place : WalkEnd) → walk run.sub path ≡ place → first_answer (unlink_rows run place) ≡ refusal_of (unlink run path)
unfolding unlink
unlink_tested run path place at =
    sym (ap (λ (end : WalkEnd). refusal_of (unless_refused run (unlink_rows run end) (removal_done run end))) at ∙ by_rows run (unlink_rows run place) (removal_done run place) refl ∙ refusals (unlink_rows run place) refl)

pub rmdir_tested : (run : RunSub) (path : List (List ℕ)) (place : WalkEnd) → walk run.sub path ≡ place → first_answer (rmdir_rows run place) ≡ refusal_of (rmdir run path)
unfolding rmdir
rmdir_tested run path place at =
    sym (ap (λ (end : WalkEnd). refusal_of (unless_refused run (rmdir_rows run end) (removal_done run end))) at ∙ by_rows run (rmdir_rows run place) (removal_done run place) refl ∙ refusals (rmdir_rows run place) refl)

-- ---- rename

module _ (run : RunSub) (old new : List (List ℕ)) (index : ℕ) (from to : WalkEnd) (from_is : walk run.sub old ≡ from) (to_is : walk run.sub new ≡ to) where
  abbrev names_left : WalkEnd → WalkEnd → List FlatName
  names_left from to = names_without (without_entry run.sub to).names from

  abbrev rename_outcome : WalkEnd → WalkEnd → Outcome
  rename_outcome from to =
      let without = without_entry run.sub to in
      let left = names_without without.names from in
      let name = new_name left to index (unwrap_or (ino_at from) 0) in
      unless_refused run (rename_rows run old new from to left name) (rename_done run without left name)

  rename_is : rename run old new index ≡ rename_outcome from to
  unfolding rename
  rename_is = λ i. rename_outcome (from_is i) (to_is i)

  pub rename_tested : (answer : Answer) → first_answer (rename_tests run old new from to) ≡ Some answer → judged (Some answer) ≡ refusal_of (rename run old new index)
  rename_tested answer is =
      let left = names_left from to in
      let name = new_name left to index (unwrap_or (ino_at from) 0) in
      sym (ap refusal_of rename_is ∙ tested run (rename_tests run old new from to) ((do_collide left (name ∷ []), Collide) ∷ []) (rename_done run (without_entry run.sub to) left name) answer refl is)

  pub rename_untested : first_answer (rename_tests run old new from to) ≡ None
      → refusal_of (rename run old new index) ≡ cond (do_collide (names_left from to) (new_name (names_left from to) to index (unwrap_or (ino_at from) 0) ∷ [])) (Some Collide) None
  rename_untested none =
      let left = names_left from to in
      let name = new_name left to index (unwrap_or (ino_at from) 0) in
      ap refusal_of rename_is ∙ untested run (rename_tests run old new from to) (do_collide left (name ∷ [])) (rename_done run (without_entry run.sub to) left name) refl none

-- ---- exchange

module _ (run : RunSub) (one two : List (List ℕ)) (i j : ℕ) (first second : WalkEnd) (first_is : walk run.sub one ≡ first) (second_is : walk run.sub two ≡ second) where
  abbrev left : WalkEnd → WalkEnd → List FlatName
  left first second = names_without (names_without run.sub.names first) second

  abbrev made : WalkEnd → WalkEnd → List FlatName
  made first second = new_name (left first second) first i (unwrap_or (ino_at second) 0) ∷ new_name (left first second) second j (unwrap_or (ino_at first) 0) ∷ []

  abbrev exchange_outcome : WalkEnd → WalkEnd → Outcome
  exchange_outcome first second =
      unless_refused run (exchange_rows run one two first second (left first second) (made first second)) (exchange_done run (left first second) (made first second))

  exchange_is : exchange run one two i j ≡ exchange_outcome first second
  unfolding exchange
  exchange_is = λ k. exchange_outcome (first_is k) (second_is k)

  pub exchange_tested : (answer : Answer) → first_answer (exchange_tests run one two first second) ≡ Some answer → judged (Some answer) ≡ refusal_of (exchange run one two i j)
  exchange_tested answer is =
      sym (ap refusal_of exchange_is ∙ tested run (exchange_tests run one two first second) ((do_collide (left first second) (made first second), Collide) ∷ []) (exchange_done run (left first second) (made first second)) answer refl is)

  pub exchange_untested : first_answer (exchange_tests run one two first second) ≡ None → refusal_of (exchange run one two i j) ≡ cond (do_collide (left first second) (made first second)) (Some Collide) None
  exchange_untested none =
      ap refusal_of exchange_is ∙ untested run (exchange_tests run one two first second) (do_collide (left first second) (made first second)) (exchange_done run (left first second) (made first second)) refl none
