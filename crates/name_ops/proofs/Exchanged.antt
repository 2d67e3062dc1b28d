-- Two names that swap what they lead to.
use Rattle.std.proofs.Common.{◌≡◌, ◌≢◌, ◌≤◌, ◌<◌, ◌+◌, ◌^◌, ◌&&◌, ℕ, Bool, true, false, List, [], ◌∷◌, length, Contains, Option, Some, None, nat_eq, nat_le, refl, sym, ap, subst, ◌∙◌, arith, inl, inr}
use Rattle.std.specs.FinMap.{get}
use Rattle.std.proofs.lemmas.Bool.{eq-eqb, ne_eqb, leb-false, or_parts, true≢false}
use Rattle.block_table.specs.declared.tree.SubState.{SubState}
use Rattle.block_table.specs.Table.{Table}
use Rattle.flat_model.specs.declared.answer.Answer.{Answer}
use Rattle.flat_model.specs.declared.answer.Answer.TheVariants.{Collide, Plain}
use Rattle.flat_model.specs.declared.op.Op.TheVariants.{Exchange}
use Rattle.flat_model.specs.Lengths.{ref_item_length, ref_length}
use Rattle.flat_model.specs.Names.{FlatName, add_name, is_in_slot, is_name_set, leads_to, links_of, remove_name, stands_in}
use Rattle.flat_model.specs.Operations.{Outcome, add_names, do_collide, exchange, exchange_done, exchange_rows, exchange_tests, first_answer, has_room_near, is_crowded, names_without, new_name, unchanged, unless_refused}
use Rattle.flat_model.specs.Running.{IsSound}
use Rattle.flat_model.specs.Step.{AreNextIndexes, IsPath}
use Rattle.flat_model.specs.Volume.{RunSub, Subvolume}
use Rattle.flat_model.specs.Walk.{WalkEnd, AtSlot, ino_at, walk}
use Rattle.flat_model.proofs.Choices.{next_index_first, next_index_second}
use Rattle.flat_model.proofs.Fresh.{NoneHolds, no_answer}
use Rattle.flat_model.proofs.NameSets.{add_name_cases, filter_add_other, is_name_set_add, remove_name_gives, remove_name_keeps}
use Rattle.flat_model.proofs.OneName.{held_slot}
use Rattle.flat_model.proofs.Steps.{outcome_sound}
use Rattle.flat_model.proofs.Ways.{find_some, walk_slot}
use Rattle.name_walk.proofs.InSlots.{slot_parts}
use Rattle.name_items.specs.Names.{names_size}
use Rattle.table_volume.specs.Edited.{Makes}
use Rattle.table_volume.specs.Operated.{IsOperated}
use Rattle.table_volume.specs.Running.{GivesRun}
use Rattle.table_volume.proofs.SubEdits.{sub_more}
use Rattle.name_ops.specs.Changes.{AreNew, AreThere, MayCome, MayGo, with_names}
use Rattle.name_ops.specs.Slots.{at_name}
use Rattle.name_ops.proofs.Adding.{Comes, dir_there, may_add}
use Rattle.name_ops.proofs.Answered.{refused, renumbered, rows_behind}
use Rattle.name_ops.proofs.Bounds.{sizes_fit}
use Rattle.name_ops.proofs.Parts.{IsPart, all_is_part, count_is_total, less_crowded, may_remove_part, most_links_of, part_of_more, rest_is_part}
use Rattle.name_ops.proofs.Totals.{total, total_cons, total_gone, total_made}

-- the name at the end of a walk is there
pub held_there : (sub : Subvolume) (path : List (List ℕ)) (name : FlatName) → walk sub path ≡ at_name name → Contains sub.names name
held_there sub path name is =
    let at = walk_slot sub path name.dir name.bytes (Some name) is in
    (find_some (is_in_slot name.dir name.bytes) sub.names name (sym at.found)).0

module _ (run : RunSub) (sound : IsSound run) (one two : List (List ℕ)) (one_path : IsPath one) (two_path : IsPath two) (a b : FlatName)
    (one_is : walk run.sub one ≡ at_name a) (two_is : walk run.sub two ≡ at_name b) (none : first_answer (exchange_tests run one two (at_name a) (at_name b)) ≡ None) where
  rows : NoneHolds (exchange_tests run one two (at_name a) (at_name b))
  rows = no_answer (exchange_tests run one two (at_name a) (at_name b)) none

  pub has_a : Contains run.sub.names a
  has_a = held_there run.sub one a one_is

  pub has_b : Contains run.sub.names b
  has_b = held_there run.sub two b two_is

  pub apart : a.ino ≢ b.ino
  apart e = true≢false (sym (eq-eqb a.ino b.ino e) ∙ rows.1.1.0)

  pub few : run.numbers.last_index < 2 ^ 62
  few = leb-false _ _ rows.1.1.1.1.0

  pub a_not_root : a.ino ≢ 256
  a_not_root = sound.coherent.root_has_no_name a has_a

  pub b_not_root : b.ino ≢ 256
  b_not_root = sound.coherent.root_has_no_name b has_b

  pub a_short : length a.bytes ≤ 255
  a_short = (sound.coherent.name_limits a has_a).0.most

  pub b_short : length b.bytes ≤ 255
  b_short = (sound.coherent.name_limits b has_b).0.most

  abbrev left : List FlatName
  left = remove_name b (remove_name a run.sub.names)

  abbrev pub new_a : FlatName
  new_a = new_name (remove_name b (remove_name a run.sub.names)) (at_name a) (run.numbers.last_index + 1) b.ino

  abbrev pub new_b : FlatName
  new_b = new_name (remove_name b (remove_name a run.sub.names)) (at_name b) (run.numbers.last_index + 2) a.ino

  b_stays : Contains (remove_name a run.sub.names) b
  b_stays = remove_name_keeps a run.sub.names b has_b (λ same. apart (ap (λ (n : FlatName). n.ino) same))

  pub both_there : AreThere run.sub.names (a ∷ b ∷ [])
  both_there = (has_a, (b_stays, tt))

  left_part : IsPart run.sub.names left
  left_part = rest_is_part (a ∷ b ∷ []) run.sub.names sound.coherent.in_order both_there

  first_part : IsPart run.sub.names (remove_name a run.sub.names)
  first_part = rest_is_part (a ∷ []) run.sub.names sound.coherent.in_order (has_a, tt)

  pub both_go : MayGo run.sub (a ∷ b ∷ [])
  both_go = (
    may_remove_part run.sub sound.coherent run.sub.names (all_is_part run.sub.names sound.coherent.in_order) a has_a,
    (may_remove_part run.sub sound.coherent (remove_name a run.sub.names) first_part b b_stays, tt),
  )

  -- what stays is another name
  other_left : (q : FlatName) → Contains left q → Contains run.sub.names q × (a ≢ q) × (b ≢ q)
  other_left q c =
      let outer = remove_name_gives b (remove_name a run.sub.names) q c in
      let inner = remove_name_gives a run.sub.names q outer.0 in
      (inner.0, inner.1, outer.1)

  fresh_index : (dir index : ℕ) → run.numbers.last_index < index → (q : FlatName) → Contains run.sub.names q → dir ≡ q.dir → index ≢ q.index
  fresh_index dir index above q c same equal =
      let one = sound.covered.indexes q c in
      let all = sound.covered.directories q.dir in
      omega (arith, one, all, above, equal)

  absent_a : Contains left new_a → ⊥
  absent_a c = fresh_index new_a.dir new_a.index (omega arith) new_a (other_left new_a c).0 refl refl

  absent_b : Contains (add_name new_a left) new_b → ⊥
  absent_b c = elim (add_name_cases new_a left new_b c) [
    | inl same ↦ let e : run.numbers.last_index + 1 ≡ run.numbers.last_index + 2 = ap (λ (n : FlatName). n.index) same in omega arith
    | inr old ↦ fresh_index new_b.dir new_b.index (omega arith) new_b (other_left new_b old).0 refl refl
  ]

  pub both_new : AreNew left (new_a ∷ new_b ∷ [])
  both_new = (absent_a, (absent_b, tt))

  -- ---- the two names may come

  crowds : do_collide left (new_a ∷ new_b ∷ []) ≡ false → (is_crowded (add_name new_b (add_name new_a left)) new_a ≡ false) × (is_crowded (add_name new_b (add_name new_a left)) new_b ≡ false)
  crowds free = let parts = or_parts _ _ free in (parts.0, (or_parts _ _ parts.1).0)

  set_with : is_name_set (add_name new_a left) ≡ true
  set_with = is_name_set_add new_a left left_part.set

  link_totals : (ino : ℕ) → total (λ name. 1) (leads_to ino) left + total (λ name. 1) (leads_to ino) (a ∷ b ∷ []) ≡ total (λ name. 1) (leads_to ino) run.sub.names
  link_totals ino = total_gone (λ name. 1) (leads_to ino) (a ∷ b ∷ []) run.sub.names sound.coherent.in_order both_there

  size_totals : (dir : ℕ) → total (λ name. length name.bytes) (stands_in dir) left + total (λ name. length name.bytes) (stands_in dir) (a ∷ b ∷ []) ≡ total (λ name. length name.bytes) (stands_in dir) run.sub.names
  size_totals dir = total_gone (λ name. length name.bytes) (stands_in dir) (a ∷ b ∷ []) run.sub.names sound.coherent.in_order both_there

  fewer_of_b : links_of left b.ino + 1 ≡ links_of run.sub.names b.ino
  fewer_of_b =
      let all = link_totals b.ino in
      let mine : total (λ name. 1) (leads_to b.ino) (a ∷ b ∷ []) ≡ 1 = rw (ne_eqb a.ino b.ino apart, eq-eqb b.ino b.ino refl) refl in
      let one = count_is_total b.ino left in
      let two = count_is_total b.ino run.sub.names in
      omega arith

  fewer_of_a : links_of left a.ino + 1 ≡ links_of run.sub.names a.ino
  fewer_of_a =
      let all = link_totals a.ino in
      let mine : total (λ name. 1) (leads_to a.ino) (a ∷ b ∷ []) ≡ 1 = rw (eq-eqb a.ino a.ino refl, ne_eqb b.ino a.ino (λ e. apart (sym e))) refl in
      let one = count_is_total a.ino left in
      let two = count_is_total a.ino run.sub.names in
      omega arith

  other_links : links_of (add_name new_a left) a.ino ≡ links_of left a.ino
  other_links = ap length (filter_add_other (leads_to a.ino) new_a left (ne_eqb b.ino a.ino (λ e. apart (sym e))))

  comes_a : Comes (with_names run.sub left) new_a
  comes_a =
      let inode = sound.coherent.leads_to_inode b has_b in
      let number = sound.coherent.ino_numbers b.ino inode.0 inode.1 in
      let dir = dir_there (get run.sub.inodes a.dir) (sound.coherent.stands_in_dir a has_a) in
      let dir_number = sound.coherent.ino_numbers a.dir _ dir.1 in
      let most = most_links_of run.sub sound.coherent b has_b in
      let fewer = fewer_of_b in
      let sizes = sizes_fit run.sub sound.coherent a.dir in
      let smaller = left_part.totals (λ name. length name.bytes) (stands_in a.dir) in
      let small = few in
      record {
        set = left_part.set;
        is_name = (sound.coherent.name_limits a has_a).0;
        index = omega (arith, small);
        ino_number = omega (arith, number.1);
        dir_number = omega (arith, dir_number.1);
        not_root = b_not_root;
        inode = inode.0;
        there = inode.1;
        in_dir = sound.coherent.stands_in_dir a has_a;
        slot_free = λ q c d e. let other = other_left q c in other.1 (sound.coherent.no_name_twice a q has_a other.0 d e);
        fresh = λ q c d. fresh_index a.dir (run.numbers.last_index + 1) (omega arith) q (other_left q c).0 d;
        links = omega (arith, most, fewer);
        size = omega (arith, sizes, smaller);
      }

  comes_b : Comes (with_names run.sub (add_name new_a left)) new_b
  comes_b =
      let inode = sound.coherent.leads_to_inode a has_a in
      let number = sound.coherent.ino_numbers a.ino inode.0 inode.1 in
      let dir = dir_there (get run.sub.inodes b.dir) (sound.coherent.stands_in_dir b has_b) in
      let dir_number = sound.coherent.ino_numbers b.dir _ dir.1 in
      let most = most_links_of run.sub sound.coherent a has_a in
      let fewer = fewer_of_a in
      let same = other_links in
      let sizes = sizes_fit run.sub sound.coherent b.dir in
      let small = few in
      record {
        set = set_with;
        is_name = (sound.coherent.name_limits b has_b).0;
        index = omega (arith, small);
        ino_number = omega (arith, number.1);
        dir_number = omega (arith, dir_number.1);
        not_root = a_not_root;
        inode = inode.0;
        there = inode.1;
        in_dir = sound.coherent.stands_in_dir b has_b;
        slot_free = λ q c d e. elim (add_name_cases new_a left q c) [
          | inl here ↦ apart (sym (ap (λ (n : FlatName). n.ino) (sound.coherent.no_name_twice b a has_b has_a (d ∙ ap (λ (n : FlatName). n.dir) (sym here)) (e ∙ ap (λ (n : FlatName). n.bytes) (sym here)))))
          | inr old ↦ let other = other_left q old in other.2 (sound.coherent.no_name_twice b q has_b other.0 d e)
        ];
        fresh = λ q c d e. elim (add_name_cases new_a left q c) [
          | inl here ↦ let i : run.numbers.last_index + 2 ≡ run.numbers.last_index + 1 = e ∙ ap (λ (n : FlatName). n.index) (sym here) in omega arith
          | inr old ↦ fresh_index b.dir (run.numbers.last_index + 2) (omega arith) q (other_left q old).0 d e
        ];
        links = omega (arith, most, fewer, same);
        size = size_with sizes;
      }
    where
      size_with : names_size run.sub b.dir < 2 ^ 63 → names_size (with_names run.sub (add_name new_a left)) b.dir < 2 ^ 63
      size_with sizes =
          let all = size_totals b.dir in
          let more = total_made (λ name. length name.bytes) (stands_in b.dir) (new_a ∷ []) left left_part.set (absent_a, tt) in
          let one = total_cons (λ name. length name.bytes) (stands_in b.dir) new_a [] in
          let two = total_cons (λ name. length name.bytes) (stands_in b.dir) a (b ∷ []) in
          omega (arith, sizes, all, more, one, two)

  mark_b : new_b.near ≡ has_room_near (add_name new_a left) new_b
  unfolding ref_item_length
  mark_b =
      ap (λ (long : ℕ). nat_le (long + ref_length new_b) 2000)
      (sym (ap (λ (xs : List FlatName). Rattle.std.specs.List.sum_by ref_length xs) (filter_add_other (λ name. name.near && (nat_eq name.ino a.ino && nat_eq name.dir b.dir)) new_a left (other_test new_a.near))))
    where
      other_test : (near : Bool) → (near && (nat_eq b.ino a.ino && nat_eq a.dir b.dir)) ≡ false
      other_test true = rw (ne_eqb b.ino a.ino (λ e. apart (sym e))) refl
      other_test false = refl

  pub both_come : do_collide left (new_a ∷ new_b ∷ []) ≡ false → MayCome (with_names run.sub left) (new_a ∷ new_b ∷ [])
  both_come free =
      let crowd = crowds free in
      let first = less_crowded (add_name new_a left) (add_name new_b (add_name new_a left)) new_a (part_of_more (add_name new_a left) new_b set_with absent_b) crowd.0 in (
        may_add (with_names run.sub left) new_a comes_a refl first,
        (may_add (with_names run.sub (add_name new_a left)) new_b comes_b mark_b crowd.1, tt),
      )

  -- ---- the entries that the code makes

  pub entry_is_a : (n : FlatName) (index : ℕ) → n ≡ new_name left (AtSlot a.dir a.bytes None) index b.ino → index ≡ run.numbers.last_index + 1 → n ≡ new_a
  entry_is_a n index is same = is ∙ ap (λ (i : ℕ). new_name left (AtSlot a.dir a.bytes None) i b.ino) same

  pub entry_is_b : (n : FlatName) (index : ℕ) → n ≡ new_name left (AtSlot b.dir b.bytes None) (index + 1) a.ino → index ≡ run.numbers.last_index + 1 → n ≡ new_b
  entry_is_b n index is same = is ∙ ap (λ (i : ℕ). new_name left (AtSlot b.dir b.bytes None) i a.ino) (let next : index + 1 ≡ run.numbers.last_index + 2 = omega (arith, same) in next)

  -- ---- what it comes to

  abbrev outcome : WalkEnd → WalkEnd → ℕ → ℕ → Outcome
  outcome first second i j =
      let left = names_without (names_without run.sub.names first) second in
      let made = new_name left first i (Rattle.std.specs.Option.unwrap_or (ino_at second) 0) ∷ new_name left second j (Rattle.std.specs.Option.unwrap_or (ino_at first) 0) ∷ [] in
      unless_refused run (exchange_rows run one two first second left made) (exchange_done run left made)

  same_outcome : (i j : ℕ) → exchange run one two i j ≡ outcome (at_name a) (at_name b) i j
  unfolding exchange
  same_outcome i j = λ k. outcome (one_is k) (two_is k) i j

  module _ (table : Table) (state : SubState) (gives : GivesRun table state run) where
    indexes_are : exchange run one two state.next_index (state.next_index + 1) ≡ outcome (at_name a) (at_name b) (run.numbers.last_index + 1) (run.numbers.last_index + 2)
    indexes_are = same_outcome state.next_index (state.next_index + 1) ∙ (λ k. outcome (at_name a) (at_name b) (gives.next_index k) (second k))
      where
        second : state.next_index + 1 ≡ run.numbers.last_index + 2
        second = let is = gives.next_index in omega arith

    pub exchange_collides : do_collide left (new_a ∷ new_b ∷ []) ≡ true → IsOperated table table state state run (exchange run one two state.next_index (state.next_index + 1)) Collide 512
    exchange_collides full =
        subst (λ (o : Outcome). IsOperated table table state state run o Collide 512) (sym indexes_are)
        (refused table state run (exchange_rows run one two (at_name a) (at_name b) left (new_a ∷ new_b ∷ [])) (exchange_done run left (new_a ∷ new_b ∷ [])) Collide 512 gives
        (rows_behind (exchange_tests run one two (at_name a) (at_name b)) ((do_collide left (new_a ∷ new_b ∷ []), Collide) ∷ []) none ∙ ap (λ (b : Bool). first_answer ((b, Collide) ∷ [])) full))

    pub exchange_done_so : (next : Table) (after : SubState) → do_collide left (new_a ∷ new_b ∷ []) ≡ false
        → Makes table next state after 340 (with_names run.sub (add_names left (new_a ∷ new_b ∷ []))) → after.next_ino ≡ state.next_ino → after.next_index ≡ state.next_index
        → IsOperated table next state (record after { next_index = after.next_index + 2 }) run (exchange run one two state.next_index (state.next_index + 1)) Plain 512
    exchange_done_so next after free makes same_ino same_index =
        let made = new_a ∷ new_b ∷ [] in
        let none_holds : first_answer (exchange_rows run one two (at_name a) (at_name b) left made) ≡ None =
        rows_behind (exchange_tests run one two (at_name a) (at_name b)) ((do_collide left made, Collide) ∷ []) none ∙ ap (λ (b : Bool). first_answer ((b, Collide) ∷ [])) free in
        let is_done : exchange run one two state.next_index (state.next_index + 1) ≡ exchange_done run left made = indexes_are
        ∙ ap (λ (o : Option Answer). elim o as (λ o. Outcome) [ None ↦ exchange_done run left made | Some answer ↦ unchanged run answer ]) none_holds in
        let choice : AreNextIndexes run.numbers made = (next_index_first run sound a.dir, (next_index_second run sound new_a b.dir refl, tt)) in
        let keeps = outcome_sound run sound (Exchange (record { sub = record { 0 = 5 }; path = one }) (record { sub = record { 0 = 5 }; path = two })) (one_path, two_path) tt (state.next_index ∷ (state.next_index + 1) ∷ []) in
        let sound_after : IsSound (exchange_done run left made).next =
        subst (λ (o : Outcome). IsSound o.next) is_done (keeps (subst (λ (o : Outcome). AreNextIndexes run.numbers o.made) (sym is_done) choice)) in
        let numbered = renumbered table next state after 340 after.next_ino (after.next_index + 2) (with_names run.sub (add_names left made)) makes in
        let number = gives.next_index in
        let inos = gives.next_ino in
        subst (λ (o : Outcome). IsOperated table next state (record after { next_index = after.next_index + 2 }) run o Plain 512) (sym is_done) (record {
          said = refl;
          gives = record {
            gives = numbered.gives;
            current = numbered.edit.current;
            sound = sound_after;
            next_ino = same_ino ∙ inos;
            next_index = omega (arith, number, same_index);
          };
          edit = sub_more table next state (record after { next_index = after.next_index + 2 }) 340 512 numbered.edit (omega arith);
          choice = choice;
          refused = λ is. absurd cc;
        })

-- ---- both places have names

at_held : (sub : Subvolume) (path : List (List ℕ)) (dir : ℕ) (bytes : List ℕ) (name : FlatName) → walk sub path ≡ AtSlot dir bytes (Some name) → walk sub path ≡ at_name name
at_held sub path dir bytes name is =
    let at = walk_slot sub path dir bytes (Some name) is in
    let found = find_some (is_in_slot dir bytes) sub.names name (sym at.found) in
    let parts = slot_parts dir bytes name found.1 in
    is ∙ (λ i. AtSlot (sym parts.0 i) (sym parts.1 i) (Some name))

pub both_held : (run : RunSub) (one two : List (List ℕ)) → first_answer (exchange_tests run one two (walk run.sub one) (walk run.sub two)) ≡ None
    → ((name : FlatName) × (walk run.sub one ≡ at_name name)) × ((name : FlatName) × (walk run.sub two ≡ at_name name))
both_held run one two none =
    let rows = no_answer (exchange_tests run one two (walk run.sub one) (walk run.sub two)) none in
    let absent = or_parts _ _ rows.0 in
    let blocked = or_parts _ _ rows.1.0 in
    let root = or_parts _ _ rows.1.1.1.0 in
    let other_root = or_parts _ _ root.1 in
    let first = held_slot (walk run.sub one) absent.0 blocked.0 root.0 in
    let second = held_slot (walk run.sub two) absent.1 blocked.1 other_root.0 in
    ((first.2, at_held run.sub one first.0 first.1 first.2 first.3), (second.2, at_held run.sub two second.0 second.1 second.2 second.3))
