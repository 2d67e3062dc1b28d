-- Facts on what makes names, and inodes with them.
use Rattle.std.proofs.Common.{◌≡◌, ℕ, ◌+◌, max, Bool, true, false, cond, ◌||◌, List, [], ◌∷◌, Option, Some, None, refl, sym, ap, ◌∙◌}
use Rattle.std.specs.FinMap.{insert}
use Rattle.flat_model.specs.declared.answer.Answer.{Answer}
use Rattle.flat_model.specs.declared.answer.Answer.TheVariants.{Plain, Number, NoEnt, NotDir, IsDir, Exists, Links, TooLarge, Collide}
use Rattle.flat_model.specs.Records.{InodeRecord}
use Rattle.flat_model.specs.Names.{FlatName, add_name, links_of}
use Rattle.flat_model.specs.Volume.{RunSub, is_dir_there}
use Rattle.flat_model.specs.Walk.{WalkEnd, AtRoot, AtSlot, Missing, Blocked, walk, bytes_of, is_absent, is_blocked, ino_at, record_at}
use Rattle.flat_model.specs.Coherent.{most_links}
use Rattle.std.specs.Option.{unwrap_or}
use Rattle.std.specs.Bool.{nat_le}
use Rattle.flat_model.specs.Operations.{link, link_rows, link_done, make, make_rows, make_done, first_answer, new_name, has_room_near, is_crowded, do_collide, inos_are_spent, indexes_are_spent}
use Rattle.flat_sub.specs.Ends.{ComesTo, taken_answer}
use Rattle.flat_sub.specs.Lists.{last_of, settled}
use Rattle.flat_sub.proofs.Refusals.{refused, finished}
use Rattle.flat_sub.proofs.Walks.{slot_bytes}

-- a name with this mark
abbrev pub marked : ℕ → ℕ → List ℕ → ℕ → Bool → FlatName
marked dir index bytes ino near = record { dir = dir; index = index; bytes = bytes; ino = ino; near = near }

-- the name that is made in a slot
pub made_name : (names : List FlatName) (place : WalkEnd) (dir index : ℕ) (bytes : List ℕ) (ino : ℕ) (near : Bool) (there : Option FlatName) → place ≡ AtSlot dir (bytes_of place) there → bytes ≡ bytes_of place → near ≡ has_room_near names (marked dir index bytes ino false) → new_name names place index ino ≡ marked dir index bytes ino near
made_name names place dir index bytes ino near there slot bytes_is near_is =
    ap (λ w. new_name names w index ino) slot
    ∙ ap (λ b. marked dir index b ino (has_room_near names (marked dir index b ino false))) (sym bytes_is)
    ∙ ap (marked dir index bytes ino) (sym near_is)

or_false : (b : Bool) → (b || false) ≡ b
or_false true = refl
or_false false = refl

-- one name that is made collides where its items are crowded
pub one_collides : (names : List FlatName) (name : FlatName) → do_collide names (name ∷ []) ≡ is_crowded (add_name name names) name
one_collides names name = or_false _

module _ (run : RunSub) (path : List (List ℕ)) (inode : InodeRecord) (dir : ℕ) (free : walk run.sub path ≡ AtSlot dir (bytes_of (walk run.sub path)) None) where
  abbrev index : ℕ
  index = run.numbers.last_index + 1

  abbrev ino : ℕ
  ino = run.numbers.last_ino + 1

  abbrev place : WalkEnd
  place = walk run.sub path

  abbrev name : FlatName
  name = new_name run.sub.names place index ino

  open_rows : first_answer (make_rows run place name) ≡ cond (inos_are_spent run.numbers || indexes_are_spent run.numbers) (Some TooLarge) (cond (do_collide run.sub.names (name ∷ [])) (Some Collide) None)
  open_rows = ap (λ w. first_answer (make_rows run w name)) free

  pub make_spent : (inos_are_spent run.numbers || indexes_are_spent run.numbers) ≡ true → ComesTo (make run path inode index) run TooLarge
  unfolding make
  make_spent spent = refused run (make_rows run place name) (make_done run inode name) TooLarge (open_rows ∙ ap (λ b. cond b (Some TooLarge) (cond (do_collide run.sub.names (name ∷ [])) (Some Collide) None)) spent)

  module _ (unspent : (inos_are_spent run.numbers || indexes_are_spent run.numbers) ≡ false) (bytes : List ℕ) (near : Bool) (list after : List FlatName) (bytes_is : bytes ≡ last_of path) (list_is : list ≡ run.sub.names) (near_is : near ≡ has_room_near list (marked dir index bytes ino false)) (after_is : after ≡ add_name (marked dir index bytes ino near) list) where
    name_is : name ≡ marked dir index bytes ino near
    name_is = made_name run.sub.names place dir index bytes ino near None free (bytes_is ∙ sym ((slot_bytes run.sub path dir (bytes_of place) None free).1)) (near_is ∙ ap (λ l. has_room_near l (marked dir index bytes ino false)) list_is)

    names_are : after ≡ add_name (marked dir index bytes ino near) run.sub.names
    names_are = after_is ∙ ap (add_name (marked dir index bytes ino near)) list_is

    collides_is : do_collide run.sub.names (name ∷ []) ≡ is_crowded after (marked dir index bytes ino near)
    collides_is = ap (λ n. do_collide run.sub.names (n ∷ [])) name_is ∙ one_collides run.sub.names (marked dir index bytes ino near) ∙ ap (λ l. is_crowded l (marked dir index bytes ino near)) (sym names_are)

    past_spent : first_answer (make_rows run place name) ≡ cond (is_crowded after (marked dir index bytes ino near)) (Some Collide) None
    past_spent = open_rows ∙ ap (λ b. cond b (Some TooLarge) (cond (do_collide run.sub.names (name ∷ [])) (Some Collide) None)) unspent ∙ ap (λ b. cond b (Some Collide) None) collides_is

    pub make_collides : is_crowded after (marked dir index bytes ino near) ≡ true → ComesTo (make run path inode index) run Collide
    unfolding make
    make_collides crowded = refused run (make_rows run place name) (make_done run inode name) Collide (past_spent ∙ ap (λ b. cond b (Some Collide) None) crowded)

    pub make_finishes : is_crowded after (marked dir index bytes ino near) ≡ false → (before next : RunSub) → before ≡ record { sub = record { inodes = insert run.sub.inodes ino inode; names = run.sub.names }; numbers = record run.numbers { last_ino = max run.numbers.last_ino ino } } → next ≡ settled before after dir index → ComesTo (make run path inode index) next (Number ino)
    unfolding make
    make_finishes roomy before next before_is next_is =
        finished run (make_rows run place name) (make_done run inode name) next (Number ino) (past_spent ∙ ap (λ b. cond b (Some Collide) None) roomy)
        (next_is ∙ ap (λ b. settled b after dir index) before_is ∙ ap (λ l. settled (record { sub = record { inodes = insert run.sub.inodes ino inode; names = run.sub.names }; numbers = record run.numbers { last_ino = max run.numbers.last_ino ino } }) l dir index) names_are
        ∙ sym (ap (λ n. (make_done run inode n).next) name_is))
        (sym (ap (λ n. (make_done run inode n).answer) name_is))

-- what the rows of link come to where the second place is a slot that has no name
abbrev pub link_chain : Bool → Bool → Bool → Bool → Bool → Bool → Option Answer
link_chain absent blocked dir links spent collides = cond (absent || false) (Some NoEnt) (cond (blocked || false) (Some NotDir) (cond dir (Some IsDir) (cond links (Some Links) (cond spent (Some TooLarge) (cond collides (Some Collide) None)))))

module _ (run : RunSub) (old new : List (List ℕ)) (dir : ℕ) (free : walk run.sub new ≡ AtSlot dir (bytes_of (walk run.sub new)) None) where
  abbrev linked : FlatName
  linked = new_name run.sub.names (walk run.sub new) (run.numbers.last_index + 1) (unwrap_or (ino_at (walk run.sub old)) 0)

  abbrev pub link_list : List (Bool × Answer)
  link_list = link_rows run (walk run.sub old) (walk run.sub new) linked

  link_rows_are : (absent blocked is_dir links spent collides : Bool) → is_absent (walk run.sub old) ≡ absent → is_blocked (walk run.sub old) ≡ blocked → is_dir_there (record_at run.sub (walk run.sub old)) ≡ is_dir → nat_le most_links (links_of run.sub.names (unwrap_or (ino_at (walk run.sub old)) 0)) ≡ links → indexes_are_spent run.numbers ≡ spent → do_collide run.sub.names (linked ∷ []) ≡ collides → first_answer link_list ≡ link_chain absent blocked is_dir links spent collides
  link_rows_are absent blocked is_dir links spent collides a b d l s k = ap (λ w. first_answer (link_rows run (walk run.sub old) w linked)) free ∙ (λ i. link_chain (a i) (b i) (d i) (l i) (s i) (k i))

  pub link_refused : (absent blocked is_dir links spent : Bool) (answer : Answer) → is_absent (walk run.sub old) ≡ absent → is_blocked (walk run.sub old) ≡ blocked → is_dir_there (record_at run.sub (walk run.sub old)) ≡ is_dir → nat_le most_links (links_of run.sub.names (unwrap_or (ino_at (walk run.sub old)) 0)) ≡ links → indexes_are_spent run.numbers ≡ spent → link_chain absent blocked is_dir links spent (do_collide run.sub.names (linked ∷ [])) ≡ Some answer → ComesTo (link run old new (run.numbers.last_index + 1)) run answer
  unfolding link
  link_refused absent blocked is_dir links spent answer a b d l s is = refused run link_list (link_done run linked) answer (link_rows_are absent blocked is_dir links spent _ a b d l s refl ∙ is)

  module _ (open_old : is_absent (walk run.sub old) ≡ false) (met : is_blocked (walk run.sub old) ≡ false) (other : is_dir_there (record_at run.sub (walk run.sub old)) ≡ false) (few : nat_le most_links (links_of run.sub.names (unwrap_or (ino_at (walk run.sub old)) 0)) ≡ false) (unspent : indexes_are_spent run.numbers ≡ false)
      (bytes : List ℕ) (ino : ℕ) (near : Bool) (list after : List FlatName) (ino_is : ino ≡ unwrap_or (ino_at (walk run.sub old)) 0) (bytes_is : bytes ≡ last_of new) (list_is : list ≡ run.sub.names) (near_is : near ≡ has_room_near list (marked dir (run.numbers.last_index + 1) bytes ino false)) (after_is : after ≡ add_name (marked dir (run.numbers.last_index + 1) bytes ino near) list) where
    abbrev given : FlatName
    given = marked dir (run.numbers.last_index + 1) bytes ino near

    linked_is : linked ≡ given
    linked_is =
        ap (new_name run.sub.names (walk run.sub new) (run.numbers.last_index + 1)) (sym ino_is)
        ∙ made_name run.sub.names (walk run.sub new) dir (run.numbers.last_index + 1) bytes ino near None free (bytes_is ∙ sym ((slot_bytes run.sub new dir (bytes_of (walk run.sub new)) None free).1)) (near_is ∙ ap (λ l. has_room_near l (marked dir (run.numbers.last_index + 1) bytes ino false)) list_is)

    with_given : after ≡ add_name given run.sub.names
    with_given = after_is ∙ ap (add_name given) list_is

    linked_collides : do_collide run.sub.names (linked ∷ []) ≡ is_crowded after given
    linked_collides = ap (λ n. do_collide run.sub.names (n ∷ [])) linked_is ∙ one_collides run.sub.names given ∙ ap (λ l. is_crowded l given) (sym with_given)

    pub link_collides : is_crowded after given ≡ true → ComesTo (link run old new (run.numbers.last_index + 1)) run Collide
    unfolding link
    link_collides crowded = refused run link_list (link_done run linked) Collide (link_rows_are false false false false false true open_old met other few unspent (linked_collides ∙ crowded))

    pub link_finishes : is_crowded after given ≡ false → (before next : RunSub) → before ≡ run → next ≡ settled before after dir (run.numbers.last_index + 1) → ComesTo (link run old new (run.numbers.last_index + 1)) next Plain
    unfolding link
    link_finishes roomy before next before_is next_is =
        finished run link_list (link_done run linked) next Plain (link_rows_are false false false false false false open_old met other few unspent (linked_collides ∙ roomy))
        (next_is ∙ ap (λ b. settled b after dir (run.numbers.last_index + 1)) before_is ∙ ap (λ l. settled run l dir (run.numbers.last_index + 1)) with_given ∙ sym (ap (λ n. (link_done run n).next) linked_is))
        refl

or_true : (b : Bool) → (b || true) ≡ true
or_true true = refl
or_true false = refl

-- ---- the rows of link where the second place is no slot that has no name

dirless_chain : (absent : Bool) (rest : Option Answer) → cond (absent || true) (Some NoEnt) rest ≡ Some NoEnt
dirless_chain absent rest = ap (λ b. cond b (Some NoEnt) rest) (or_true absent)

blocked_chain : (absent blocked : Bool) (rest : Option Answer) → cond (absent || false) (Some NoEnt) (cond (blocked || true) (Some NotDir) rest) ≡ Some (cond absent NoEnt NotDir)
blocked_chain true blocked rest = refl
blocked_chain false blocked rest = ap (λ b. cond b (Some NotDir) rest) (or_true blocked)

taken_chain : (absent blocked dir : Bool) → cond (absent || false) (Some NoEnt) (cond (blocked || false) (Some NotDir) (cond dir (Some IsDir) (Some Exists))) ≡ Some (cond absent NoEnt (cond blocked NotDir (cond dir IsDir Exists)))
taken_chain true blocked dir = refl
taken_chain false true dir = refl
taken_chain false false true = refl
taken_chain false false false = refl

module _ (run : RunSub) (old new : List (List ℕ)) where
  abbrev from_end : WalkEnd
  from_end = walk run.sub old

  abbrev new_linked : FlatName
  new_linked = new_name run.sub.names (walk run.sub new) (run.numbers.last_index + 1) (unwrap_or (ino_at from_end) 0)

  abbrev linking : WalkEnd → Option Answer
  linking to = first_answer (link_rows run from_end to new_linked)

  pub link_missing : walk run.sub new ≡ Missing → ComesTo (link run old new (run.numbers.last_index + 1)) run NoEnt
  unfolding link
  link_missing is = refused run (link_rows run from_end (walk run.sub new) new_linked) (link_done run new_linked) NoEnt (ap linking is ∙ dirless_chain (is_absent from_end) _)

  pub link_blocked : walk run.sub new ≡ Blocked → (answer : Answer) → answer ≡ cond (is_absent from_end) NoEnt NotDir → ComesTo (link run old new (run.numbers.last_index + 1)) run answer
  unfolding link
  link_blocked is answer answer_is = refused run (link_rows run from_end (walk run.sub new) new_linked) (link_done run new_linked) answer (ap linking is ∙ blocked_chain (is_absent from_end) (is_blocked from_end) _ ∙ ap Some (sym answer_is))

  pub link_root : walk run.sub new ≡ AtRoot → (answer : Answer) → answer ≡ taken_answer run.sub from_end → ComesTo (link run old new (run.numbers.last_index + 1)) run answer
  unfolding link
  link_root is answer answer_is = refused run (link_rows run from_end (walk run.sub new) new_linked) (link_done run new_linked) answer (ap linking is ∙ taken_chain (is_absent from_end) (is_blocked from_end) (is_dir_there (record_at run.sub from_end)) ∙ ap Some (sym answer_is))

  pub link_taken : (dir : ℕ) (bytes : List ℕ) (there : FlatName) → walk run.sub new ≡ AtSlot dir bytes (Some there) → (answer : Answer) → answer ≡ taken_answer run.sub from_end → ComesTo (link run old new (run.numbers.last_index + 1)) run answer
  unfolding link
  link_taken dir bytes there is answer answer_is = refused run (link_rows run from_end (walk run.sub new) new_linked) (link_done run new_linked) answer (ap linking is ∙ taken_chain (is_absent from_end) (is_blocked from_end) (is_dir_there (record_at run.sub from_end)) ∙ ap Some (sym answer_is))
