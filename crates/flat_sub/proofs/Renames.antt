-- What rename and exchange come to.
use Rattle.std.proofs.Common.{◌≡◌, ℕ, ◌+◌, max, Bool, true, false, cond, ◌&&◌, ◌||◌, List, [], ◌∷◌, Some, None, refl, sym, ap, ◌∙◌, arith, nat_eq}
use Rattle.std.specs.Option.{unwrap_or}
use Rattle.std.specs.FinMap.{FinMap, remove}
use Rattle.std.specs.Ordering.{nat_cmp}
use Rattle.flat_model.specs.declared.answer.Answer.{Answer}
use Rattle.flat_model.specs.declared.answer.Answer.TheVariants.{Plain, Collide}
use Rattle.flat_model.specs.Records.{InodeRecord}
use Rattle.flat_model.specs.Names.{FlatName, add_name, links_of, remove_name}
use Rattle.flat_model.specs.Volume.{Subvolume, RunSub, is_dir_there}
use Rattle.flat_model.specs.Walk.{WalkEnd, AtRoot, AtSlot, Missing, Blocked, walk, ino_at, record_at, bytes_of, is_below, is_absent, is_dirless, is_blocked, is_root}
use Rattle.flat_model.specs.Operations.{Outcome, rename, rename_rows, rename_done, exchange, exchange_rows, exchange_done, first_answer, new_name, is_crowded, do_collide, names_without, without_entry}
use Rattle.flat_sub.specs.Ends.{ComesTo, with_sub}
use Rattle.flat_sub.specs.Lists.{settled, last_of}
use Rattle.flat_sub.specs.Moves.{rename_tests, exchange_tests, lost_inode, without_lost, noted_index}
use Rattle.flat_sub.proofs.Refusals.{refused, finished}
use Rattle.flat_sub.proofs.Rows.{rows_decide, rows_pass, none_holds, or_none}
use Rattle.flat_sub.proofs.Makings.{one_collides}
use Rattle.flat_sub.proofs.Walks.{slot_bytes}
use Rattle.flat_model.proofs.OneName.{some_slot, held_slot}

-- ---- a subvolume without the name in a slot

without_names : (sub : Subvolume) (end : WalkEnd) → (without_entry sub end).names ≡ names_without sub.names end
without_names sub AtRoot = refl
without_names sub (AtSlot dir bytes None) = refl
without_names sub (AtSlot dir bytes (Some name)) = refl
without_names sub Missing = refl
without_names sub Blocked = refl

lost_or_kept : (inodes : FinMap nat_cmp InodeRecord) (ino : ℕ) (b : Bool) → cond b (remove inodes ino) inodes ≡ without_lost inodes (cond b (Some ino) None)
lost_or_kept inodes ino true = refl
lost_or_kept inodes ino false = refl

without_inodes : (sub : Subvolume) (end : WalkEnd) → (without_entry sub end).inodes ≡ without_lost sub.inodes (lost_inode (names_without sub.names end) end)
without_inodes sub AtRoot = refl
without_inodes sub (AtSlot dir bytes None) = refl
without_inodes sub (AtSlot dir bytes (Some name)) = lost_or_kept sub.inodes name.ino (nat_eq (links_of (remove_name name sub.names) name.ino) 0)
without_inodes sub Missing = refl
without_inodes sub Blocked = refl

-- a subvolume in its run without an inode that lost its last name
abbrev pub dropped : RunSub → FinMap nat_cmp InodeRecord → RunSub
dropped run inodes = with_sub run (record run.sub { inodes = inodes })

-- ---- the slots that the rows leave

some_slot_name : (sub : Subvolume) (path : List (List ℕ)) → is_dirless (walk sub path) ≡ false → is_blocked (walk sub path) ≡ false → is_root (walk sub path) ≡ false → bytes_of (walk sub path) ≡ last_of path
some_slot_name sub path a b c = let slot = some_slot (walk sub path) a b c in ap bytes_of slot.3 ∙ (slot_bytes sub path slot.0 slot.1 slot.2 slot.3).1

held_slot_name : (sub : Subvolume) (path : List (List ℕ)) → is_absent (walk sub path) ≡ false → is_blocked (walk sub path) ≡ false → is_root (walk sub path) ≡ false → bytes_of (walk sub path) ≡ last_of path
held_slot_name sub path a b c = let slot = held_slot (walk sub path) a b c in ap bytes_of slot.3 ∙ (slot_bytes sub path slot.0 slot.1 (Some slot.2) slot.3).1

-- ---- rename

module _ (run : RunSub) (old new : List (List ℕ)) where
  abbrev from : WalkEnd
  from = walk run.sub old

  abbrev to : WalkEnd
  to = walk run.sub new

  abbrev next_index : ℕ
  next_index = run.numbers.last_index + 1

  abbrev moved : List FlatName
  moved = names_without (without_entry run.sub to).names from

  abbrev moved_name : FlatName
  moved_name = new_name moved to next_index (unwrap_or (ino_at from) 0)

  abbrev rename_list : List (Bool × Answer)
  rename_list = rename_rows run old new from to moved moved_name

  abbrev rename_end : Outcome
  rename_end = rename_done run (without_entry run.sub to) moved moved_name

  pub rename_refused : (answer : Answer) → Some answer ≡ first_answer (rename_tests run old new from to) → ComesTo (rename run old new next_index) run answer
  unfolding rename
  rename_refused answer is = refused run rename_list rename_end answer (rows_decide (rename_tests run old new from to) ((do_collide moved (moved_name ∷ []), Collide) ∷ []) answer is)

  -- the slot that gets the name has the bytes of the path's last one
  pub renamed_slot : None ≡ first_answer (rename_tests run old new from to) → bytes_of to ≡ last_of new
  renamed_slot open_rows =
      let rows = none_holds (rename_tests run old new from to) open_rows in
      let moves_dir : Bool = is_dir_there (record_at run.sub from) && is_below old new in
      let no_root = or_none (is_root from) (is_root to || moves_dir) rows.1.1.1.1.1.1.0 in
      some_slot_name run.sub new (or_none (is_absent from) (is_dirless to) rows.0).1 (or_none (is_blocked from) (is_blocked to) rows.1.0).1 (or_none (is_root to) moves_dir no_root.1).0

  module _ (open_rows : None ≡ first_answer (rename_tests run old new from to)) (list one two after : List FlatName) (ino : ℕ) (given : FlatName)
      (list_is : list ≡ run.sub.names) (one_is : one ≡ names_without list to) (two_is : two ≡ names_without one from) (ino_is : ino ≡ unwrap_or (ino_at from) 0) (given_is : new_name two to next_index ino ≡ given) (after_is : after ≡ add_name given two) where
    one_whole : one ≡ names_without run.sub.names to
    one_whole = one_is ∙ ap (λ l. names_without l to) list_is

    moved_is : moved ≡ two
    moved_is = ap (λ l. names_without l from) (without_names run.sub to ∙ sym one_whole) ∙ sym two_is

    name_is : moved_name ≡ given
    name_is = (λ i. new_name (moved_is i) to next_index (sym ino_is i)) ∙ given_is

    collides_is : do_collide moved (moved_name ∷ []) ≡ is_crowded after given
    collides_is = (λ i. do_collide (moved_is i) (name_is i ∷ [])) ∙ one_collides two given ∙ ap (λ l. is_crowded l given) (sym after_is)

    rows_are : first_answer rename_list ≡ cond (is_crowded after given) (Some Collide) None
    rows_are = rows_pass (rename_tests run old new from to) ((do_collide moved (moved_name ∷ []), Collide) ∷ []) open_rows ∙ ap (λ b. cond b (Some Collide) None) collides_is

    pub rename_collides : is_crowded after given ≡ true → ComesTo (rename run old new next_index) run Collide
    unfolding rename
    rename_collides crowded = refused run rename_list rename_end Collide (rows_are ∙ ap (λ b. cond b (Some Collide) None) crowded)

    -- the subvolume once the names are settled and the lost inode is dropped
    abbrev finishing : FinMap nat_cmp InodeRecord → List FlatName → FlatName → RunSub
    finishing inodes names name = dropped (settled run names name.dir name.index) inodes

    pub rename_finishes : is_crowded after given ≡ false → (before middle next : RunSub) → before ≡ run → middle ≡ settled before after given.dir next_index → next ≡ dropped middle (without_lost middle.sub.inodes (lost_inode one to)) → ComesTo (rename run old new next_index) next Plain
    unfolding rename
    rename_finishes roomy before middle next before_is middle_is next_is =
        finished run rename_list rename_end next Plain (rows_are ∙ ap (λ b. cond b (Some Collide) None) roomy)
        (next_is ∙ ap (λ (m : RunSub). dropped m (without_lost m.sub.inodes (lost_inode one to))) (middle_is ∙ ap (λ (b : RunSub). settled b after given.dir next_index) before_is ∙ ap (settled run after given.dir) (ap (λ (n : FlatName). n.index) given_is))
        ∙ (λ i. finishing (without_lost run.sub.inodes (lost_inode (one_whole i) to)) (after_is i) given)
        ∙ (λ i. finishing (sym (without_inodes run.sub to) i) (add_name (sym name_is i) (sym moved_is i)) (sym name_is i)))
        refl

-- ---- exchange

two_fail : (a b : Bool) → a ≡ false → b ≡ false → (a || (b || false)) ≡ false
two_fail a b x y = λ i. (x i || (y i || false))

two_first : (a b : Bool) → a ≡ true → (a || (b || false)) ≡ true
two_first a b x = ap (λ t. t || (b || false)) x

two_second : (a b : Bool) → a ≡ false → b ≡ true → (a || (b || false)) ≡ true
two_second a b x y = λ i. (x i || (y i || false))

module _ (run : RunSub) (one two : List (List ℕ)) where
  abbrev first_end : WalkEnd
  first_end = walk run.sub one

  abbrev second_end : WalkEnd
  second_end = walk run.sub two

  abbrev one_index : ℕ
  one_index = run.numbers.last_index + 1

  abbrev two_index : ℕ
  two_index = run.numbers.last_index + 2

  abbrev rest : List FlatName
  rest = names_without (names_without run.sub.names first_end) second_end

  abbrev made_names : List FlatName
  made_names = new_name rest first_end one_index (unwrap_or (ino_at second_end) 0) ∷ new_name rest second_end two_index (unwrap_or (ino_at first_end) 0) ∷ []

  abbrev exchange_list : List (Bool × Answer)
  exchange_list = exchange_rows run one two first_end second_end rest made_names

  abbrev exchange_end : Outcome
  exchange_end = exchange_done run rest made_names

  pub exchange_refused : (answer : Answer) → Some answer ≡ first_answer (exchange_tests run one two first_end second_end) → ComesTo (exchange run one two one_index two_index) run answer
  unfolding exchange
  exchange_refused answer is = refused run exchange_list exchange_end answer (rows_decide (exchange_tests run one two first_end second_end) ((do_collide rest made_names, Collide) ∷ []) answer is)

  -- each slot has the bytes of its path's last name
  pub exchanged_slots : None ≡ first_answer (exchange_tests run one two first_end second_end) → (bytes_of first_end ≡ last_of one) × (bytes_of second_end ≡ last_of two)
  exchanged_slots open_rows =
      let rows = none_holds (exchange_tests run one two first_end second_end) open_rows in
      let below : Bool = is_below one two || is_below two one in
      let no_absent = or_none (is_absent first_end) (is_absent second_end) rows.0 in
      let no_blocked = or_none (is_blocked first_end) (is_blocked second_end) rows.1.0 in
      let no_root = or_none (is_root first_end) (is_root second_end || below) rows.1.1.1.0 in
      (held_slot_name run.sub one no_absent.0 no_blocked.0 no_root.0, held_slot_name run.sub two no_absent.1 no_blocked.1 (or_none (is_root second_end) below no_root.1).0)

  module _ (open_rows : None ≡ first_answer (exchange_tests run one two first_end second_end)) (list once twice with_one after : List FlatName) (ino other_ino : ℕ) (given other : FlatName)
      (list_is : list ≡ run.sub.names) (once_is : once ≡ names_without list first_end) (twice_is : twice ≡ names_without once second_end)
      (ino_is : ino ≡ unwrap_or (ino_at second_end) 0) (other_ino_is : other_ino ≡ unwrap_or (ino_at first_end) 0)
      (given_is : new_name twice first_end one_index ino ≡ given) (other_is : new_name twice second_end two_index other_ino ≡ other)
      (with_one_is : with_one ≡ add_name given twice) (after_is : after ≡ add_name other with_one) where
    rest_is : rest ≡ twice
    rest_is = sym (twice_is ∙ ap (λ l. names_without l second_end) (once_is ∙ ap (λ l. names_without l first_end) list_is))

    made_are : made_names ≡ given ∷ other ∷ []
    made_are = λ i. ((λ j. new_name (rest_is j) first_end one_index (sym ino_is j)) ∙ given_is) i ∷ ((λ j. new_name (rest_is j) second_end two_index (sym other_ino_is j)) ∙ other_is) i ∷ []

    both_are : add_name other (add_name given twice) ≡ after
    both_are = sym (after_is ∙ ap (add_name other) with_one_is)

    crowding : do_collide rest made_names ≡ (is_crowded after given || (is_crowded after other || false))
    crowding = (λ i. do_collide (rest_is i) (made_are i)) ∙ ap (λ l. is_crowded l given || (is_crowded l other || false)) both_are

    answers_are : first_answer exchange_list ≡ cond (is_crowded after given || (is_crowded after other || false)) (Some Collide) None
    answers_are = rows_pass (exchange_tests run one two first_end second_end) ((do_collide rest made_names, Collide) ∷ []) open_rows ∙ ap (λ b. cond b (Some Collide) None) crowding

    pub first_collides : is_crowded after given ≡ true → ComesTo (exchange run one two one_index two_index) run Collide
    unfolding exchange
    first_collides crowded = refused run exchange_list exchange_end Collide (answers_are ∙ ap (λ b. cond b (Some Collide) None) (two_first _ _ crowded))

    pub second_collides : is_crowded after given ≡ false → is_crowded after other ≡ true → ComesTo (exchange run one two one_index two_index) run Collide
    unfolding exchange
    second_collides roomy crowded = refused run exchange_list exchange_end Collide (answers_are ∙ ap (λ b. cond b (Some Collide) None) (two_second _ _ roomy crowded))

    -- the subvolume with these names and indexes
    abbrev exchanged : List FlatName → ℕ → FinMap nat_cmp ℕ → RunSub
    exchanged names last indexes = record { sub = record { inodes = run.sub.inodes; names = names }; numbers = record { last_ino = run.numbers.last_ino; last_index = last; dir_indexes = indexes } }

    greatest : two_index ≡ max (max run.numbers.last_index one_index) two_index
    greatest = omega arith

    pub exchange_finishes : is_crowded after given ≡ false → is_crowded after other ≡ false → (next : RunSub) (indexes both : FinMap nat_cmp ℕ) → indexes ≡ noted_index run.numbers.dir_indexes given.dir one_index → both ≡ noted_index indexes other.dir two_index → next ≡ exchanged after two_index both → ComesTo (exchange run one two one_index two_index) next Plain
    unfolding exchange
    exchange_finishes roomy also next indexes both indexes_are both_indexes next_is =
        finished run exchange_list exchange_end next Plain (answers_are ∙ ap (λ b. cond b (Some Collide) None) (two_fail _ _ roomy also))
        (next_is ∙ (λ i. exchanged (sym both_are i) (greatest i) ((both_indexes ∙ ap (λ m. noted_index m other.dir two_index) indexes_are) i))
        ∙ (λ i. exchanged (add_name other (add_name given twice)) (max (max run.numbers.last_index (ap (λ (n : FlatName). n.index) given_is i)) (ap (λ (n : FlatName). n.index) other_is i)) (noted_index (noted_index run.numbers.dir_indexes given.dir (ap (λ (n : FlatName). n.index) given_is i)) other.dir (ap (λ (n : FlatName). n.index) other_is i)))
        ∙ sym (λ i. (exchange_done run (rest_is i) (made_are i)).next))
        refl
