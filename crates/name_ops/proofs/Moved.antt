-- A name that moves to another slot, in place of the name that stands there.
use Rattle.std.proofs.Common.{◌≡◌, ◌≢◌, ◌≤◌, ◌<◌, ◌+◌, ◌^◌, ◌&&◌, ℕ, Bool, true, false, cond, not, List, [], ◌∷◌, Contains, length, Option, Some, None, refl, sym, ap, subst, ◌∙◌, arith, inl, inr}
use Rattle.std.specs.Prelude.{filter}
use Rattle.std.specs.FinMap.{get}
use Rattle.std.specs.List.{sum_by}
use Rattle.std.specs.Option.{unwrap_or}
use Rattle.std.proofs.lemmas.Bool.{cases_Bool, eq-eqb, leb-false, true≢false}
use Rattle.std.proofs.lemmas.List.Elements.{All-cons, All-nil}
use Rattle.block_table.specs.declared.tree.SubState.{SubState}
use Rattle.block_table.specs.Table.{Table}
use Rattle.flat_model.specs.declared.answer.Answer.{Answer}
use Rattle.flat_model.specs.declared.answer.Answer.TheVariants.{Collide, Plain}
use Rattle.flat_model.specs.Coherent.{IsCoherent, IsNameBytes}
use Rattle.flat_model.specs.Names.{FlatName, add_name, is_in_slot, is_same_name, links_of, remove_name, stands_in}
use Rattle.flat_model.specs.Needs.{gone_with}
use Rattle.flat_model.specs.Operations.{Outcome, do_collide, first_answer, has_entries, names_without, new_name, rename, rename_done, rename_rows, rename_tests, unchanged, unless_refused, without_entry}
use Rattle.flat_model.specs.Running.{IsSound}
use Rattle.flat_model.specs.Step.{AreNextIndexes}
use Rattle.flat_model.specs.Volume.{RunSub, Subvolume, is_dir_at, is_dir_there}
use Rattle.flat_model.specs.Walk.{WalkEnd, AtSlot, ino_at, is_one_inode, record_at, walk}
use Rattle.flat_model.proofs.Choices.{next_index_first}
use Rattle.flat_model.proofs.Edits.{coherent_without_name, links_without_same, without_keeps}
use Rattle.flat_model.proofs.Fresh.{NoneHolds, index_is_fresh, no_answer}
use Rattle.flat_model.proofs.Maps.{sum_filter_le}
use Rattle.flat_model.proofs.Moves.{rename_sound}
use Rattle.flat_model.proofs.NameSets.{filter_remove_name, is_name_set_remove, remove_name_gives, remove_name_keeps}
use Rattle.flat_model.proofs.OneName.{last_is_name, not_crowded_one, slot_is_free}
use Rattle.flat_model.proofs.Sound.{no_dir_entries, no_entries}
use Rattle.flat_model.proofs.Ways.{EndsAtSlot, find_some, is_in_slot_gives, walk_slot}
use Rattle.table_volume.specs.Edited.{Makes}
use Rattle.table_volume.specs.Operated.{HasRoom, IsOperated}
use Rattle.table_volume.specs.Running.{GivesRun}
use Rattle.table_volume.proofs.SubEdits.{sub_more}
use Rattle.name_items.specs.Names.{MayAddName, MayRemoveName, names_size}
use Rattle.name_items.specs.declared.entry.NameEntry.{NameEntry}
use Rattle.name_ops.specs.Changes.{AreThere, remove_names, with_names}
use Rattle.name_ops.specs.Drops.{MayDrop, gone_by_move, most_for, room_for}
use Rattle.name_ops.specs.Moves.{IsMove}
use Rattle.name_ops.specs.Slots.{at_name}
use Rattle.name_ops.specs.Sums.{IsFew}
use Rattle.name_ops.proofs.Adding.{Comes, absent_of, dir_there, may_add}
use Rattle.name_ops.proofs.Answered.{refused, renumbered, rows_behind}
use Rattle.name_ops.proofs.Bounds.{sizes_fit}
use Rattle.name_ops.proofs.Dropping.{few_links, may_remove, part_itself}
use Rattle.name_ops.proofs.Removed.{room_done}

-- one entry, and two, are few
pub few_one : (a : NameEntry) → length a.bytes.now ≤ 255 → IsFew (a ∷ [])
few_one a short = record { count = omega arith; short = All-cons (λ (entry : NameEntry). length entry.bytes.now ≤ 255) a [] short (All-nil (λ (entry : NameEntry). length entry.bytes.now ≤ 255)) }

pub few_two : (a b : NameEntry) → length a.bytes.now ≤ 255 → length b.bytes.now ≤ 255 → IsFew (a ∷ b ∷ [])
few_two a b one two = record {
  count = omega arith;
  short = All-cons (λ (entry : NameEntry). length entry.bytes.now ≤ 255) a (b ∷ []) one (All-cons (λ (entry : NameEntry). length entry.bytes.now ≤ 255) b [] two (All-nil (λ (entry : NameEntry). length entry.bytes.now ≤ 255)));
}

-- the name that stands in a slot goes first
abbrev pub gone_names : Option FlatName → FlatName → List FlatName
gone_names None moved = moved ∷ []
gone_names (Some target) moved = target ∷ moved ∷ []

-- what is left of a subvolume once the name in the slot has gone
record IsBase (sub base : Subvolume) (moved : FlatName) (dir : ℕ) (bytes : List ℕ) (there : Option FlatName) : Type 0 where
  coherent : IsCoherent base
  part : (q : FlatName) → Contains base.names q → Contains sub.names q
  has : Contains base.names moved
  free : (q : FlatName) → Contains base.names q → dir ≡ q.dir → bytes ≢ q.bytes
  in_dir : is_dir_at base dir ≡ true
  go : AreThere sub.names (gone_names there moved)
  left : remove_names sub.names (gone_names there moved) ≡ remove_name moved base.names

-- the name that goes may go with its inode
target_may : (sub : Subvolume) → IsCoherent sub → (target : FlatName) → Contains sub.names target → (is_dir_there (get sub.inodes target.ino) && has_entries sub (Some target.ino)) ≡ false → MayDrop sub target
target_may sub coherent target has empty = record {
  coherent = coherent;
  there = has;
  empty = elim (cases_Bool (is_dir_there (get sub.inodes target.ino))) [
    | inl is_dir ↦ no_entries sub target.ino (sym (ap (λ (b : Bool). b && has_entries sub (Some target.ino)) is_dir) ∙ empty)
    | inr no_dir ↦ no_dir_entries sub coherent target.ino no_dir
  ];
}

base_of : (sub : Subvolume) → IsCoherent sub → (moved : FlatName) → Contains sub.names moved → (new : List (List ℕ)) (dir : ℕ) (bytes : List ℕ) (there : Option FlatName) → EndsAtSlot sub dir bytes there new
    → is_one_inode (at_name moved) (AtSlot dir bytes there) ≡ false
    → (is_dir_there (record_at sub (AtSlot dir bytes there)) && has_entries sub (ino_at (AtSlot dir bytes there))) ≡ false
    → IsBase sub (without_entry sub (AtSlot dir bytes there)) moved dir bytes there
base_of sub coherent moved member new dir bytes None ends apart empty = record {
  coherent = coherent;
  part = λ q c. c;
  has = member;
  free = slot_is_free sub new dir bytes ends;
  in_dir = ends.is_dir;
  go = (member, tt);
  left = refl;
}
base_of sub coherent moved member new dir bytes (Some target) ends apart empty =
    let found = find_some (is_in_slot dir bytes) sub.names target (sym ends.found) in
    let slot = is_in_slot_gives dir bytes target found.1 in
    let may = target_may sub coherent target found.0 empty in
    let stays : Contains (remove_name target sub.names) moved = remove_name_keeps target sub.names moved member (λ same. true≢false (sym (eq-eqb moved.ino target.ino (ap (λ (n : FlatName). n.ino) (sym same))) ∙ apart)) in
    record {
      coherent = coherent_without_name sub coherent target found.0 may.empty;
      part = λ q c. (remove_name_gives target sub.names q c).0;
      has = stays;
      free = λ q c same_dir same_bytes.
          let parts = remove_name_gives target sub.names q c in
          parts.1 (coherent.no_name_twice target q found.0 parts.0 (slot.0 ∙ same_dir) (slot.1 ∙ same_bytes));
      in_dir = ap is_dir_there (without_keeps sub target dir (λ same. absurd (may.empty target found.0 (slot.0 ∙ same)))) ∙ ends.is_dir;
      go = (found.0, (stays, tt));
      left = refl;
    }

-- names that are fewer have no more bytes
fewer_bytes : (sub : Subvolume) (n : FlatName) (dir : ℕ) → names_size (with_names sub (remove_name n sub.names)) dir ≤ names_size sub dir
fewer_bytes sub n dir =
    let fewer = sum_filter_le (λ (name : FlatName). length name.bytes) (λ other. not (is_same_name n other)) (filter (stands_in dir) sub.names) in
    let same = ap (sum_by (λ (name : FlatName). length name.bytes)) (filter_remove_name (stands_in dir) n sub.names) in
    omega (arith, fewer, same)

module _ (run : RunSub) (sound : IsSound run) (old new : List (List ℕ)) (moved : FlatName) (dir : ℕ) (bytes : List ℕ) (there : Option FlatName) (move : IsMove run old new moved dir bytes there) where
  rows : NoneHolds (rename_tests run old new (at_name moved) (AtSlot dir bytes there))
  rows = no_answer (rename_tests run old new (at_name moved) (AtSlot dir bytes there)) move.none

  ends : EndsAtSlot run.sub dir bytes there new
  ends = walk_slot run.sub new dir bytes there move.to

  pub member : Contains run.sub.names moved
  member = (find_some (is_in_slot moved.dir moved.bytes) run.sub.names moved (sym (walk_slot run.sub old moved.dir moved.bytes (Some moved) move.from).found)).0

  pub move_bytes : IsNameBytes bytes
  move_bytes = last_is_name run.sub new move.is_path dir bytes there ends

  pub moved_not_root : moved.ino ≢ 256
  moved_not_root = sound.coherent.root_has_no_name moved member

  pub moved_short : length moved.bytes ≤ 255
  moved_short = (sound.coherent.name_limits moved member).0.most

  apart : is_one_inode (at_name moved) (AtSlot dir bytes there) ≡ false
  apart = rows.1.1.0

  empty : (is_dir_there (record_at run.sub (AtSlot dir bytes there)) && has_entries run.sub (ino_at (AtSlot dir bytes there))) ≡ false
  empty = rows.1.1.1.1.1.0

  pub few_indexes : run.numbers.last_index < 2 ^ 62
  few_indexes = leb-false _ _ rows.1.1.1.1.1.1.1.0

  -- the subvolume without the name in the slot, the names without the moved one as well, and the new name
  abbrev pub base : Subvolume
  base = without_entry run.sub (AtSlot dir bytes there)

  abbrev pub left : List FlatName
  left = remove_name moved (without_entry run.sub (AtSlot dir bytes there)).names

  abbrev pub moved_name : FlatName
  moved_name = new_name left (AtSlot dir bytes there) (run.numbers.last_index + 1) moved.ino

  is_base : IsBase run.sub base moved dir bytes there
  is_base = base_of run.sub sound.coherent moved member new dir bytes there ends apart empty

  pub gone_there : AreThere run.sub.names (gone_names there moved)
  gone_there = is_base.go

  pub gone_left : remove_names run.sub.names (gone_names there moved) ≡ left
  gone_left = is_base.left

  pub base_may_remove : MayRemoveName base moved
  base_may_remove =
      may_remove base is_base.coherent base.names (part_itself base is_base.coherent) moved is_base.has

  moved_comes : Comes (with_names base left) moved_name
  moved_comes =
      let inode = is_base.coherent.leads_to_inode moved is_base.has in
      let number = is_base.coherent.ino_numbers moved.ino inode.0 inode.1 in
      let directory = dir_there (get base.inodes dir) is_base.in_dir in
      let dir_number = is_base.coherent.ino_numbers dir _ directory.1 in
      let few = few_indexes in
      let count = few_links inode.0 (links_of base.names moved.ino) (is_base.coherent.link_counts moved.ino inode.0 inode.1 moved_not_root) in
      let one_less = links_without_same base.names moved is_base.coherent.in_order is_base.has in
      let whole = sizes_fit base is_base.coherent dir in
      let less = fewer_bytes base moved dir in
      record {
        set = is_name_set_remove moved base.names is_base.coherent.in_order;
        is_name = move_bytes.0;
        index = omega (arith, few);
        ino_number = omega (arith, number.1);
        dir_number = omega (arith, dir_number.1);
        not_root = moved_not_root;
        inode = inode.0;
        there = inode.1;
        in_dir = is_base.in_dir;
        slot_free = λ q c d. is_base.free q (remove_name_gives moved base.names q c).0 d;
        fresh = λ q c d. index_is_fresh run.sub run.numbers sound.covered dir (run.numbers.last_index + 1) (next_index_first run sound dir) q (is_base.part q (remove_name_gives moved base.names q c).0) d;
        links = omega (arith, count, one_less);
        size = omega (arith, whole, less);
      }

  pub moved_absent : Contains left moved_name → ⊥
  moved_absent = absent_of (with_names base left) moved_name moved_comes

  pub moved_may : do_collide left (moved_name ∷ []) ≡ false → MayAddName (with_names base left) moved_name
  moved_may free =
      may_add (with_names base left) moved_name moved_comes refl (not_crowded_one left moved_name free)

  -- the entry that the code makes
  pub entry_moved : (n : FlatName) (index : ℕ) → n ≡ new_name (remove_names run.sub.names (gone_names there moved)) (AtSlot dir bytes None) index moved.ino → index ≡ run.numbers.last_index + 1 → n ≡ moved_name
  entry_moved n index is same_index = is ∙ (λ i. new_name (gone_left i) (AtSlot dir bytes there) (same_index i) moved.ino)

  -- ---- what it comes to

  abbrev outcome_at : WalkEnd → WalkEnd → ℕ → Outcome
  outcome_at from to index =
      let without = without_entry run.sub to in
      let names = names_without without.names from in
      let name = new_name names to index (unwrap_or (ino_at from) 0) in
      unless_refused run (rename_rows run old new from to names name) (rename_done run without names name)

  same_outcome : (index : ℕ) → rename run old new index ≡ outcome_at (at_name moved) (AtSlot dir bytes there) index
  unfolding rename
  same_outcome index = λ i. outcome_at (move.from i) (move.to i) index

  abbrev done : Outcome
  done = rename_done run base left moved_name

  removed_is : gone_by_move run.sub (walk run.sub old) (walk run.sub new) ≡ gone_with run.sub (AtSlot dir bytes there)
  removed_is =
      (λ i. gone_by_move run.sub (move.from i) (move.to i)) ∙ ap (λ (b : Bool). cond b 0 (gone_with run.sub (AtSlot dir bytes there))) apart

  module _ (table : Table) (state : SubState) (gives : GivesRun table state run) where
    pub move_collides : do_collide left (moved_name ∷ []) ≡ true → IsOperated table table state state run (rename run old new state.next_index) Collide (most_for (gone_by_move run.sub (walk run.sub old) (walk run.sub new)))
    move_collides full =
        subst (λ (o : Outcome). IsOperated table table state state run o Collide (most_for (gone_by_move run.sub (walk run.sub old) (walk run.sub new))))
        (ap (outcome_at (at_name moved) (AtSlot dir bytes there)) (sym gives.next_index) ∙ sym (same_outcome state.next_index))
        (refused table state run (rename_rows run old new (at_name moved) (AtSlot dir bytes there) left moved_name) done Collide (most_for (gone_by_move run.sub (walk run.sub old) (walk run.sub new))) gives
        (rows_behind (rename_tests run old new (at_name moved) (AtSlot dir bytes there)) ((do_collide left (moved_name ∷ []), Collide) ∷ []) move.none
        ∙ ap (λ (b : Bool). first_answer ((b, Collide) ∷ [])) full))

    is_done : do_collide left (moved_name ∷ []) ≡ false → rename run old new state.next_index ≡ done
    is_done free =
        let none_holds : first_answer (rename_rows run old new (at_name moved) (AtSlot dir bytes there) left moved_name) ≡ None =
        rows_behind (rename_tests run old new (at_name moved) (AtSlot dir bytes there)) ((do_collide left (moved_name ∷ []), Collide) ∷ []) move.none ∙ ap (λ (b : Bool). first_answer ((b, Collide) ∷ [])) free in
        same_outcome state.next_index ∙ ap (outcome_at (at_name moved) (AtSlot dir bytes there)) gives.next_index
        ∙ ap (λ (o : Option Answer). elim o as (λ o. Outcome) [ None ↦ done | Some answer ↦ unchanged run answer ]) none_holds

    pub move_room : do_collide left (moved_name ∷ []) ≡ false → HasRoom table (room_for (rename run old new state.next_index) (gone_by_move run.sub (walk run.sub old) (walk run.sub new))) → HasRoom table (most_for (gone_with run.sub (AtSlot dir bytes there)))
    move_room free room =
        subst (λ (n : ℕ). HasRoom table (most_for n)) removed_is (room_done table (rename run old new state.next_index) done (gone_by_move run.sub (walk run.sub old) (walk run.sub new)) (is_done free) refl room)

    pub move_done_so : (next : Table) (after : SubState) (most : ℕ) → do_collide left (moved_name ∷ []) ≡ false
        → Makes table next state after most (with_names base (add_name moved_name left)) → most ≤ most_for (gone_with run.sub (AtSlot dir bytes there)) → after.next_ino ≡ state.next_ino → after.next_index ≡ state.next_index
        → IsOperated table next state (record after { next_index = after.next_index + 1 }) run (rename run old new state.next_index) Plain (most_for (gone_by_move run.sub (walk run.sub old) (walk run.sub new)))
    move_done_so next after most free makes few same_ino same_index =
        let choice : AreNextIndexes run.numbers (moved_name ∷ []) = (next_index_first run sound dir, tt) in
        let keeps = rename_sound run sound old new move.is_path state.next_index in
        let sound_after : IsSound (rename_done run base left moved_name).next =
        subst (λ (o : Outcome). IsSound o.next) (is_done free) (keeps (subst (λ (o : Outcome). AreNextIndexes run.numbers o.made) (sym (is_done free)) choice)) in
        let numbered = renumbered table next state after most after.next_ino (after.next_index + 1) (with_names base (add_name moved_name left)) makes in
        let number = gives.next_index in
        let inos = gives.next_ino in
        subst (λ (n : ℕ). IsOperated table next state (record after { next_index = after.next_index + 1 }) run (rename run old new state.next_index) Plain (most_for n)) (sym removed_is)
        (subst (λ (o : Outcome). IsOperated table next state (record after { next_index = after.next_index + 1 }) run o Plain (most_for (gone_with run.sub (AtSlot dir bytes there)))) (sym (is_done free)) (record {
          said = refl;
          gives = record {
            gives = numbered.gives;
            current = numbered.edit.current;
            sound = sound_after;
            next_ino = same_ino ∙ inos;
            next_index = omega arith;
          };
          edit = sub_more table next state (record after { next_index = after.next_index + 1 }) most (most_for (gone_with run.sub (AtSlot dir bytes there))) numbered.edit few;
          choice = choice;
          refused = λ is. absurd (true≢false (sym is));
        }))

-- the name in the slot may go
pub over_may : (run : RunSub) → IsSound run → (old new : List (List ℕ)) (moved target : FlatName) → IsMove run old new moved target.dir target.bytes (Some target) → MayDrop run.sub target
over_may run sound old new moved target move =
    let test = no_answer (rename_tests run old new (at_name moved) (at_name target)) move.none in
    let found = find_some (is_in_slot target.dir target.bytes) run.sub.names target (sym (walk_slot run.sub new target.dir target.bytes (Some target) move.to).found) in
    target_may run.sub sound.coherent target found.0 test.1.1.1.1.1.0
