-- What the operations on files and attributes come to.
use Rattle.std.proofs.Common.{◌≡◌, ℕ, ◌+◌, Bool, true, false, cond, List, [], ◌∷◌, length, Option, Some, None, refl, sym, ap, ◌∙◌}
use Rattle.std.specs.Bool.{nat_lt}
use Rattle.std.specs.Option.{is_none, is_some, unwrap_or}
use Rattle.std.specs.FinMap.{get, insert, remove}
use Rattle.blk_base.specs.Crc.{name_hash_of}
use Rattle.flat_model.specs.declared.answer.Answer.{Answer}
use Rattle.flat_model.specs.declared.answer.Answer.TheVariants.{Plain, Number, Bytes, NoEnt, NotDir, TooLarge, NoAttr, Collide}
use Rattle.flat_model.specs.Records.{Attributes, InodeRecord, FileInode, FileRecord, with_attributes}
use Rattle.flat_model.specs.Contents.{most_file_bytes, bytes_read, written, truncated}
use Rattle.flat_model.specs.Lengths.{most_item_bytes, xattr_item_length}
use Rattle.flat_model.specs.Volume.{RunSub, is_dir_there, is_link_there}
use Rattle.flat_model.specs.Walk.{WalkEnd, walk, ino_at, record_at, is_absent, is_blocked}
use Rattle.flat_model.specs.Operations.{Outcome, write, truncate, read, set_attribute, remove_attribute, get_attribute, first_answer, file_rows, file_there, attribute_rows, attributes_there, unchanged, with_record, with_record_of, with_record_at, with_attributes_at}
use Rattle.flat_sub.specs.Ends.{ComesTo}
use Rattle.flat_sub.specs.Editing.{with_attributes_of}
use Rattle.flat_sub.proofs.Refusals.{refused, finished}
use Rattle.flat_sub.proofs.Rows.{rows_decide, rows_pass, none_holds}
use Rattle.flat_sub.proofs.Inodes.{number_there, record_there, record_put}

-- the attributes of the inode to whose number a walk led
attributes_at : (run : RunSub) (end : WalkEnd) (ino : ℕ) (attributes : Attributes) → ino_at end ≡ Some ino → with_attributes_at run end attributes ≡ with_attributes_of run ino attributes
attributes_at run end ino attributes number =
    (λ i. elim (record_there run.sub end ino number i) as (λ o. RunSub) [ None ↦ run | Some inode ↦ with_record_at run end (with_attributes inode attributes) ])
    ∙ ap (λ (w : InodeRecord → RunSub). elim (get run.sub.inodes ino) as (λ o. RunSub) [ None ↦ run | Some inode ↦ w inode ]) (λ i. λ inode. elim (number i) as (λ o. RunSub) [ None ↦ run | Some k ↦ with_record_of run k (with_attributes inode attributes) ])
    ∙ elim (get run.sub.inodes ino) as (λ o. get run.sub.inodes ino ≡ o → elim o as (λ o. RunSub) [ None ↦ run | Some inode ↦ with_record_of run ino (with_attributes inode attributes) ] ≡ elim o as (λ o. RunSub) [ None ↦ run | Some inode ↦ record run { sub = with_record run.sub ino (with_attributes inode attributes) } ]) [
      | None ↦ λ e. refl
      | Some inode ↦ λ e. record_put run ino inode (with_attributes inode attributes) e
    ] refl

module _ (run : RunSub) (path : List (List ℕ)) where
  abbrev place : WalkEnd
  place = walk run.sub path

  abbrev file : FileRecord
  file = file_there (record_at run.sub place)

  abbrev attributes : Attributes
  attributes = attributes_there (record_at run.sub place)

  -- ---- a file

  module _ (offset : ℕ) (text : List ℕ) where
    abbrev last_write_row : List (Bool × Answer)
    last_write_row = (nat_lt most_file_bytes (offset + length text), TooLarge) ∷ []

    abbrev write_end : Outcome
    write_end = record { next = with_record_at run place (FileInode (written file offset text)); answer = Number (length text); made = [] }

    pub write_refused : (answer : Answer) → Some answer ≡ first_answer (file_rows run place []) → ComesTo (write run path offset text) run answer
    unfolding write
    write_refused answer is = refused run (file_rows run place last_write_row) write_end answer (rows_decide (file_rows run place []) last_write_row answer is)

    module _ (open_rows : None ≡ first_answer (file_rows run place [])) where
      rows_left : first_answer (file_rows run place last_write_row) ≡ cond (nat_lt most_file_bytes (offset + length text)) (Some TooLarge) None
      rows_left = rows_pass (file_rows run place []) last_write_row open_rows

      pub write_too_large : nat_lt most_file_bytes (offset + length text) ≡ true → ComesTo (write run path offset text) run TooLarge
      unfolding write
      write_too_large large = refused run (file_rows run place last_write_row) write_end TooLarge (rows_left ∙ ap (λ b. cond b (Some TooLarge) None) large)

      pub write_finishes : nat_lt most_file_bytes (offset + length text) ≡ false → (ino count : ℕ) (next : RunSub) → ino ≡ unwrap_or (ino_at place) 0 → count ≡ length text → next ≡ with_record_of run ino (FileInode (written (file_there (get run.sub.inodes ino)) offset text)) → ComesTo (write run path offset text) next (Number count)
      unfolding write
      write_finishes small ino count next ino_is count_is next_is =
          let rows = none_holds (file_rows run place []) open_rows in
          let number = number_there place rows.0 rows.1.0 ∙ ap Some (sym ino_is) in
          let there = record_there run.sub place ino number in
          finished run (file_rows run place last_write_row) write_end next (Number count) (rows_left ∙ ap (λ b. cond b (Some TooLarge) None) small)
          (next_is ∙ ap (λ r. with_record_of run ino (FileInode (written (file_there r) offset text))) (sym there) ∙ sym (ap (λ o. elim o as (λ o. RunSub) [ None ↦ run | Some k ↦ with_record_of run k (FileInode (written file offset text)) ]) number))
          (ap Number count_is)

  module _ (size : ℕ) where
    abbrev last_size_row : List (Bool × Answer)
    last_size_row = (nat_lt most_file_bytes size, TooLarge) ∷ []

    abbrev truncate_end : Outcome
    truncate_end = record { next = with_record_at run place (FileInode (truncated file size)); answer = Plain; made = [] }

    pub truncate_refused : (answer : Answer) → Some answer ≡ first_answer (file_rows run place []) → ComesTo (truncate run path size) run answer
    unfolding truncate
    truncate_refused answer is = refused run (file_rows run place last_size_row) truncate_end answer (rows_decide (file_rows run place []) last_size_row answer is)

    module _ (open_rows : None ≡ first_answer (file_rows run place [])) where
      size_left : first_answer (file_rows run place last_size_row) ≡ cond (nat_lt most_file_bytes size) (Some TooLarge) None
      size_left = rows_pass (file_rows run place []) last_size_row open_rows

      pub truncate_too_large : nat_lt most_file_bytes size ≡ true → ComesTo (truncate run path size) run TooLarge
      unfolding truncate
      truncate_too_large large = refused run (file_rows run place last_size_row) truncate_end TooLarge (size_left ∙ ap (λ b. cond b (Some TooLarge) None) large)

      pub truncate_finishes : nat_lt most_file_bytes size ≡ false → (ino : ℕ) (next : RunSub) → ino ≡ unwrap_or (ino_at place) 0 → next ≡ with_record_of run ino (FileInode (truncated (file_there (get run.sub.inodes ino)) size)) → ComesTo (truncate run path size) next Plain
      unfolding truncate
      truncate_finishes small ino next ino_is next_is =
          let rows = none_holds (file_rows run place []) open_rows in
          let number = number_there place rows.0 rows.1.0 ∙ ap Some (sym ino_is) in
          let there = record_there run.sub place ino number in
          finished run (file_rows run place last_size_row) truncate_end next Plain (size_left ∙ ap (λ b. cond b (Some TooLarge) None) small)
          (next_is ∙ ap (λ r. with_record_of run ino (FileInode (truncated (file_there r) size))) (sym there) ∙ sym (ap (λ o. elim o as (λ o. RunSub) [ None ↦ run | Some k ↦ with_record_of run k (FileInode (truncated file size)) ]) number))
          refl

  module _ (offset count : ℕ) where
    abbrev read_end : Outcome
    read_end = unchanged run (Bytes (bytes_read file offset count))

    pub read_refused : (answer : Answer) → Some answer ≡ first_answer (file_rows run place []) → ComesTo (read run path offset count) run answer
    unfolding read
    read_refused answer is = refused run (file_rows run place []) read_end answer (sym is)

    pub read_finishes : None ≡ first_answer (file_rows run place []) → (ino : ℕ) (text : List ℕ) → ino ≡ unwrap_or (ino_at place) 0 → text ≡ bytes_read (file_there (get run.sub.inodes ino)) offset count → ComesTo (read run path offset count) run (Bytes text)
    unfolding read
    read_finishes open_rows ino text ino_is text_is =
        let rows = none_holds (file_rows run place []) open_rows in
        let there = record_there run.sub place ino (number_there place rows.0 rows.1.0 ∙ ap Some (sym ino_is)) in
        finished run (file_rows run place []) read_end run (Bytes text) (sym open_rows) refl (ap Bytes (text_is ∙ ap (λ r. bytes_read (file_there r) offset count) (sym there)))

  -- what is at the end of a walk that no row refused
  pub other_there : None ≡ first_answer (file_rows run place []) → (ino : ℕ) → ino ≡ unwrap_or (ino_at place) 0 → (false ≡ is_dir_there (get run.sub.inodes ino)) × (false ≡ is_link_there (get run.sub.inodes ino))
  other_there open_rows ino ino_is =
      let rows = none_holds (file_rows run place []) open_rows in
      let there = record_there run.sub place ino (number_there place rows.0 rows.1.0 ∙ ap Some (sym ino_is)) in
      (sym rows.1.1.0 ∙ ap is_dir_there there, sym rows.1.1.1.0 ∙ ap is_link_there there)

  -- ---- an attribute

  -- the answer of three rows and of four
  abbrev three : Bool → Bool → Bool → Option Answer
  three absent blocked missing = cond absent (Some NoEnt) (cond blocked (Some NotDir) (cond missing (Some NoAttr) None))

  abbrev four : Bool → Bool → Bool → Bool → Option Answer
  four absent blocked large crowded = cond absent (Some NoEnt) (cond blocked (Some NotDir) (cond large (Some TooLarge) (cond crowded (Some Collide) None)))

  module _ (name value : List ℕ) where
    abbrev new_attributes : Attributes
    new_attributes = insert attributes name value

    abbrev set_rows : List (Bool × Answer)
    set_rows = (is_absent place, NoEnt) ∷ (is_blocked place, NotDir) ∷ (nat_lt 1024 (length value), TooLarge) ∷ (nat_lt most_item_bytes (xattr_item_length new_attributes (name_hash_of name)), Collide) ∷ []

    abbrev set_end : Outcome
    set_end = record { next = with_attributes_at run place new_attributes; answer = Plain; made = [] }

    pub set_absent : is_absent place ≡ true → ComesTo (set_attribute run path name value) run NoEnt
    unfolding set_attribute
    set_absent a = refused run set_rows set_end NoEnt (ap (λ t. four t (is_blocked place) (nat_lt 1024 (length value)) (nat_lt most_item_bytes (xattr_item_length new_attributes (name_hash_of name)))) a)

    module _ (met : is_absent place ≡ false) where
      pub set_blocked : is_blocked place ≡ true → ComesTo (set_attribute run path name value) run NotDir
      unfolding set_attribute
      set_blocked b = refused run set_rows set_end NotDir (λ i. four (met i) (b i) (nat_lt 1024 (length value)) (nat_lt most_item_bytes (xattr_item_length new_attributes (name_hash_of name))))

      module _ (unblocked : is_blocked place ≡ false) where
        pub set_too_large : nat_lt 1024 (length value) ≡ true → ComesTo (set_attribute run path name value) run TooLarge
        unfolding set_attribute
        set_too_large large = refused run set_rows set_end TooLarge (λ i. four (met i) (unblocked i) (large i) (nat_lt most_item_bytes (xattr_item_length new_attributes (name_hash_of name))))

        module _ (small : nat_lt 1024 (length value) ≡ false) (ino : ℕ) (ino_is : ino ≡ unwrap_or (ino_at place) 0) where
          abbrev given : Attributes
          given = insert (attributes_there (get run.sub.inodes ino)) name value

          number : ino_at place ≡ Some ino
          number = number_there place met unblocked ∙ ap Some (sym ino_is)

          given_is : new_attributes ≡ given
          given_is = ap (λ r. insert (attributes_there r) name value) (record_there run.sub place ino number)

          crowding : (crowded : Bool) → crowded ≡ nat_lt most_item_bytes (xattr_item_length given (name_hash_of name)) → first_answer set_rows ≡ cond crowded (Some Collide) None
          crowding crowded is = λ i. four (met i) (unblocked i) (small i) ((ap (λ a. nat_lt most_item_bytes (xattr_item_length a (name_hash_of name))) given_is ∙ sym is) i)

          pub set_collides : true ≡ nat_lt most_item_bytes (xattr_item_length given (name_hash_of name)) → ComesTo (set_attribute run path name value) run Collide
          unfolding set_attribute
          set_collides crowded = refused run set_rows set_end Collide (crowding true crowded)

          pub set_finishes : false ≡ nat_lt most_item_bytes (xattr_item_length given (name_hash_of name)) → (next : RunSub) → next ≡ with_attributes_of run ino given → ComesTo (set_attribute run path name value) next Plain
          unfolding set_attribute
          set_finishes roomy next next_is =
              finished run set_rows set_end next Plain (crowding false roomy) (next_is ∙ ap (with_attributes_of run ino) (sym given_is) ∙ sym (attributes_at run place ino new_attributes number)) refl

  module _ (name : List ℕ) where
    abbrev left_attributes : Attributes
    left_attributes = remove attributes name

    abbrev remove_end : Outcome
    remove_end = record { next = with_attributes_at run place left_attributes; answer = Plain; made = [] }

    abbrev get_end : Outcome
    get_end = unchanged run (Bytes (unwrap_or (get attributes name) []))

    rows_are : (absent blocked : Bool) → is_absent place ≡ absent → is_blocked place ≡ blocked → first_answer (attribute_rows run place name) ≡ three absent blocked (is_none (get attributes name))
    rows_are absent blocked a b = λ i. three (a i) (b i) (is_none (get attributes name))

    pub remove_absent : is_absent place ≡ true → ComesTo (remove_attribute run path name) run NoEnt
    unfolding remove_attribute
    remove_absent a = refused run (attribute_rows run place name) remove_end NoEnt (rows_are true _ a refl)

    pub get_absent : is_absent place ≡ true → ComesTo (get_attribute run path name) run NoEnt
    unfolding get_attribute
    get_absent a = refused run (attribute_rows run place name) get_end NoEnt (rows_are true _ a refl)

    module _ (met : is_absent place ≡ false) where
      pub remove_blocked : is_blocked place ≡ true → ComesTo (remove_attribute run path name) run NotDir
      unfolding remove_attribute
      remove_blocked b = refused run (attribute_rows run place name) remove_end NotDir (rows_are false true met b)

      pub get_blocked : is_blocked place ≡ true → ComesTo (get_attribute run path name) run NotDir
      unfolding get_attribute
      get_blocked b = refused run (attribute_rows run place name) get_end NotDir (rows_are false true met b)

      module _ (unblocked : is_blocked place ≡ false) (ino : ℕ) (ino_is : ino ≡ unwrap_or (ino_at place) 0) where
        leads : ino_at place ≡ Some ino
        leads = number_there place met unblocked ∙ ap Some (sym ino_is)

        attributes_are : attributes ≡ attributes_there (get run.sub.inodes ino)
        attributes_are = ap attributes_there (record_there run.sub place ino leads)

        value_is : (o : Option (List ℕ)) → o ≡ get (attributes_there (get run.sub.inodes ino)) name → get attributes name ≡ o
        value_is o is = ap (λ a. get a name) attributes_are ∙ sym is

        missing : (o : Option (List ℕ)) → is_some o ≡ false → is_none o ≡ true
        missing None e = refl
        missing (Some v) e = absurd (Rattle.std.proofs.lemmas.Bool.true≢false e)

        present : (o : Option (List ℕ)) → is_some o ≡ true → is_none o ≡ false
        present None e = absurd (Rattle.std.proofs.lemmas.Bool.true≢false (sym e))
        present (Some v) e = refl

        pub remove_missing : is_some (get (attributes_there (get run.sub.inodes ino)) name) ≡ false → ComesTo (remove_attribute run path name) run NoAttr
        unfolding remove_attribute
        remove_missing none = refused run (attribute_rows run place name) remove_end NoAttr (rows_are false false met unblocked ∙ ap (three false false) (ap is_none (value_is _ refl) ∙ missing _ none))

        pub remove_finishes : is_some (get (attributes_there (get run.sub.inodes ino)) name) ≡ true → (next : RunSub) → next ≡ with_attributes_of run ino (remove (attributes_there (get run.sub.inodes ino)) name) → ComesTo (remove_attribute run path name) next Plain
        unfolding remove_attribute
        remove_finishes some next next_is =
            finished run (attribute_rows run place name) remove_end next Plain (rows_are false false met unblocked ∙ ap (three false false) (ap is_none (value_is _ refl) ∙ present _ some))
            (next_is ∙ ap (λ a. with_attributes_of run ino (remove a name)) (sym attributes_are) ∙ sym (attributes_at run place ino left_attributes leads)) refl

        pub get_missing : None ≡ get (attributes_there (get run.sub.inodes ino)) name → ComesTo (get_attribute run path name) run NoAttr
        unfolding get_attribute
        get_missing none = refused run (attribute_rows run place name) get_end NoAttr (rows_are false false met unblocked ∙ ap (λ o. three false false (is_none o)) (value_is None none))

        pub get_finishes : (value : List ℕ) → Some value ≡ get (attributes_there (get run.sub.inodes ino)) name → ComesTo (get_attribute run path name) run (Bytes value)
        unfolding get_attribute
        get_finishes value some =
            finished run (attribute_rows run place name) get_end run (Bytes value) (rows_are false false met unblocked ∙ ap (λ o. three false false (is_none o)) (value_is (Some value) some)) refl
            (sym (ap (λ o. Bytes (unwrap_or o [])) (value_is (Some value) some)))

-- whether a text ends past the most bytes of a file, by its length as the code has it
pub past_limit : (offset count : ℕ) (text : List ℕ) (past : Bool) → count ≡ length text → past ≡ nat_lt most_file_bytes (offset + count) → nat_lt most_file_bytes (offset + length text) ≡ past
past_limit offset count text past count_is past_is = sym (past_is ∙ ap (λ n. nat_lt most_file_bytes (offset + n)) count_is)
