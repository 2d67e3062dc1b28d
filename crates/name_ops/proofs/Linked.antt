-- A further name.
use Rattle.std.proofs.Common.{◌≡◌, ◌≢◌, ◌<◌, ◌+◌, ◌^◌, ℕ, Bool, true, false, List, [], ◌∷◌, Contains, Option, Some, None, refl, sym, ap, subst, ◌∙◌, arith}
use Rattle.std.specs.Option.{unwrap_or}
use Rattle.std.specs.FinMap.{get}
use Rattle.std.proofs.lemmas.Bool.{leb-false, or_parts}
use Rattle.flat_model.specs.declared.answer.Answer.{Answer}
use Rattle.flat_model.specs.declared.answer.Answer.TheVariants.{Collide, Plain}
use Rattle.flat_model.specs.declared.op.Op.TheVariants.{Link}
use Rattle.block_table.specs.declared.tree.SubState.{SubState}
use Rattle.block_table.specs.Table.{Table}
use Rattle.flat_model.specs.Coherent.{IsNameBytes}
use Rattle.flat_model.specs.Names.{FlatName, add_name, is_in_slot}
use Rattle.flat_model.specs.Operations.{Outcome, do_collide, first_answer, link, link_done, link_rows, new_name, unchanged, unless_refused}
use Rattle.flat_model.specs.Records.{InodeRecord}
use Rattle.flat_model.specs.Running.{IsSound}
use Rattle.flat_model.specs.Step.{AreNextIndexes, IsPath}
use Rattle.flat_model.specs.Volume.{RunSub, Subvolume}
use Rattle.flat_model.specs.Walk.{WalkEnd, AtSlot, ino_at, walk}
use Rattle.flat_model.proofs.Choices.{next_index_first}
use Rattle.flat_model.proofs.Fresh.{NoneHolds, index_is_fresh, no_answer}
use Rattle.flat_model.proofs.OneName.{held_slot, last_is_name, not_crowded_one, slot_is_free}
use Rattle.flat_model.proofs.Sound.{no_dir_slot}
use Rattle.flat_model.proofs.Ways.{EndsAtSlot, find_some, walk_slot}
use Rattle.name_items.specs.Names.{MayAddName, names_size}
use Rattle.table_volume.specs.Edited.{Makes}
use Rattle.table_volume.specs.Running.{GivesRun}
use Rattle.table_volume.proofs.SubEdits.{sub_more}
use Rattle.flat_model.proofs.Steps.{outcome_sound}
use Rattle.name_ops.specs.Changes.{with_names}
use Rattle.table_volume.specs.Operated.{IsOperated}
use Rattle.name_ops.specs.Tests.{link_tests}
use Rattle.name_ops.proofs.Answered.{refused, renumbered, rows_behind}
use Rattle.name_ops.proofs.Adding.{Comes, absent_of, may_add}
use Rattle.name_ops.proofs.Bounds.{sizes_fit}

module _ (run : RunSub) (sound : IsSound run) (old new : List (List ℕ)) (from : WalkEnd) (dir : ℕ) (bytes : List ℕ) (old_path : IsPath old) (new_path : IsPath new)
    (from_is : walk run.sub old ≡ from) (to_is : walk run.sub new ≡ AtSlot dir bytes None) (none : first_answer (link_tests run from (AtSlot dir bytes None)) ≡ None) where
  ends : EndsAtSlot run.sub dir bytes None new
  ends = walk_slot run.sub new dir bytes None to_is

  -- the bytes are a name's
  pub link_bytes : IsNameBytes bytes
  link_bytes = last_is_name run.sub new new_path dir bytes None ends

  rows : NoneHolds (link_tests run from (AtSlot dir bytes None))
  rows = no_answer (link_tests run from (AtSlot dir bytes None)) none

  -- what the other place has
  pub record Source : Type 0 where
    pub name : FlatName
    pub has : Contains run.sub.names name
    pub ino : unwrap_or (ino_at from) 0 ≡ name.ino

  pub source : Source
  source =
      let absent = (or_parts _ _ rows.0).0 in
      let blocked = (or_parts _ _ rows.1.0).0 in
      let held = held_slot from absent blocked (no_dir_slot run.sub sound.coherent from absent blocked rows.1.1.0) in
      let at = walk_slot run.sub old held.0 held.1 (Some held.2) (from_is ∙ held.3) in
      record { name = held.2; has = (find_some (is_in_slot held.0 held.1) run.sub.names held.2 (sym at.found)).0; ino = ap (λ (end : WalkEnd). unwrap_or (ino_at end) 0) held.3 }

  -- the new name
  abbrev pub linked : FlatName
  linked = new_name run.sub.names (AtSlot dir bytes None) (run.numbers.last_index + 1) (unwrap_or (ino_at from) 0)

  pub link_not_root : unwrap_or (ino_at from) 0 ≢ 256
  link_not_root e = sound.coherent.root_has_no_name source.name source.has (sym source.ino ∙ e)

  pub link_comes : names_size run.sub dir < 2 ^ 63 → Comes run.sub linked
  link_comes size =
      let inode = sound.coherent.leads_to_inode source.name source.has in
      let there : get run.sub.inodes (unwrap_or (ino_at from) 0) ≡ Some inode.0 = ap (get run.sub.inodes) source.ino ∙ inode.1 in
      let number = sound.coherent.ino_numbers (unwrap_or (ino_at from) 0) inode.0 there in
      let dir_number = sound.coherent.ino_numbers dir (dir_of_slot ends.is_dir).0 (dir_of_slot ends.is_dir).1 in
      let spent = leb-false _ _ rows.1.1.1.1.1.0 in
      let links = leb-false _ _ rows.1.1.1.1.0 in
      record {
        set = sound.coherent.in_order;
        is_name = link_bytes.0;
        index = omega arith;
        ino_number = omega arith;
        dir_number = omega arith;
        not_root = link_not_root;
        inode = inode.0;
        there = there;
        in_dir = ends.is_dir;
        slot_free = λ q has d. slot_is_free run.sub new dir bytes ends q has d;
        fresh = index_is_fresh run.sub run.numbers sound.covered dir (run.numbers.last_index + 1) (next_index_first run sound dir);
        links = links;
        size = size;
      }
    where
      dir_of_slot : Rattle.flat_model.specs.Volume.is_dir_at run.sub dir ≡ true → (inode : InodeRecord) × (get run.sub.inodes dir ≡ Some inode)
      dir_of_slot is = let found = Rattle.flat_model.proofs.Ways.dir_record (get run.sub.inodes dir) is in (found.0, found.1)

  pub link_may : names_size run.sub dir < 2 ^ 63 → do_collide run.sub.names (linked ∷ []) ≡ false → MayAddName run.sub linked
  link_may size free = may_add run.sub linked (link_comes size) refl (not_crowded_one run.sub.names linked free)

  -- ---- what it comes to

  abbrev outcome : WalkEnd → WalkEnd → ℕ → Outcome
  outcome first second index =
      let name = new_name run.sub.names second index (unwrap_or (ino_at first) 0) in
      unless_refused run (link_rows run first second name) (link_done run name)

  same_outcome : (index : ℕ) → link run old new index ≡ outcome from (AtSlot dir bytes None) index
  unfolding link
  same_outcome index = λ i. outcome (from_is i) (to_is i) index

  module _ (table : Table) (state : SubState) (gives : GivesRun table state run) where
    index_is : run.numbers.last_index + 1 ≡ state.next_index
    index_is = sym gives.next_index

    pub link_collides : do_collide run.sub.names (linked ∷ []) ≡ true → IsOperated table table state state run (link run old new state.next_index) Collide 512
    link_collides full =
        subst (λ (o : Outcome). IsOperated table table state state run o Collide 512)
        (ap (outcome from (AtSlot dir bytes None)) index_is ∙ sym (same_outcome state.next_index))
        (refused table state run (link_rows run from (AtSlot dir bytes None) linked) (link_done run linked) Collide 512 gives
        (rows_behind (link_tests run from (AtSlot dir bytes None)) ((do_collide run.sub.names (linked ∷ []), Collide) ∷ []) none
        ∙ ap (λ (b : Bool). first_answer ((b, Collide) ∷ [])) full))

    pub link_done_so : (next : Table) (after : SubState) → do_collide run.sub.names (linked ∷ []) ≡ false
        → Makes table next state after 85 (with_names run.sub (add_name linked run.sub.names)) → after.next_ino ≡ state.next_ino → after.next_index ≡ state.next_index
        → IsOperated table next state (record after { next_index = after.next_index + 1 }) run (link run old new state.next_index) Plain 512
    link_done_so next after free makes same_ino same_index =
        let none_holds : first_answer (link_rows run from (AtSlot dir bytes None) linked) ≡ None =
        rows_behind (link_tests run from (AtSlot dir bytes None)) ((do_collide run.sub.names (linked ∷ []), Collide) ∷ []) none ∙ ap (λ (b : Bool). first_answer ((b, Collide) ∷ [])) free in
        let is_done : link run old new state.next_index ≡ link_done run linked = same_outcome state.next_index ∙ ap (outcome from (AtSlot dir bytes None)) (sym index_is)
        ∙ ap (λ (o : Option Answer). elim o as (λ o. Outcome) [ None ↦ link_done run linked | Some answer ↦ unchanged run answer ]) none_holds in
        let choice : AreNextIndexes run.numbers (linked ∷ []) = (next_index_first run sound dir, tt) in
        let keeps = outcome_sound run sound (Link (record { sub = record { 0 = 5 }; path = old }) (record { sub = record { 0 = 5 }; path = new })) (old_path, new_path) tt (state.next_index ∷ []) in
        let sound_after : IsSound (link_done run linked).next =
        subst (λ (o : Outcome). IsSound o.next) is_done (keeps (subst (λ (o : Outcome). AreNextIndexes run.numbers o.made) (sym is_done) choice)) in
        let numbered = renumbered table next state after 85 after.next_ino (after.next_index + 1) (with_names run.sub (add_name linked run.sub.names)) makes in
        let number = gives.next_index in
        let inos = gives.next_ino in
        subst (λ (o : Outcome). IsOperated table next state (record after { next_index = after.next_index + 1 }) run o Plain 512) (sym is_done) (record {
          said = refl;
          gives = record {
            gives = numbered.gives;
            current = numbered.edit.current;
            sound = sound_after;
            next_ino = same_ino ∙ inos;
            next_index = omega arith;
          };
          edit = sub_more table next state (record after { next_index = after.next_index + 1 }) 85 512 numbered.edit (omega arith);
          choice = choice;
          refused = λ is. absurd cc;
        })

  -- ---- the entry that the code makes

  pub entry_linked : (n : FlatName) (index ino : ℕ) → n ≡ new_name run.sub.names (AtSlot dir bytes None) index ino → index ≡ run.numbers.last_index + 1 → ino ≡ unwrap_or (ino_at from) 0 → n ≡ linked
  entry_linked n index ino is same_index same_ino = is ∙ (λ i. new_name run.sub.names (AtSlot dir bytes None) (same_index i) (same_ino i))

  pub linked_new : (n : FlatName) → n ≡ linked → Contains run.sub.names n → ⊥
  linked_new n is has = absent_of run.sub linked (link_comes (sizes_fit run.sub sound.coherent dir)) (subst (λ (m : FlatName). Contains run.sub.names m) is has)

  pub linked_may : (n : FlatName) → n ≡ linked → do_collide run.sub.names (n ∷ []) ≡ false → MayAddName run.sub n
  linked_may n is free =
      subst (λ (m : FlatName). MayAddName run.sub m) (sym is)
      (link_may (sizes_fit run.sub sound.coherent dir) (subst (λ (m : FlatName). do_collide run.sub.names (m ∷ []) ≡ false) is free))
