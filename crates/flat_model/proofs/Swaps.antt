-- exchange leaves a subvolume in a run sound.
use Rattle.std.proofs.Common.{◌≡◌, ◌≢◌, ℕ, ◌<◌, ◌≤◌, ◌+◌, ◌^◌, true, false, List, [], ◌∷◌, Some, refl, sym, ap, subst, ◌∙◌, arith, inl, inr, ◌⊎◌}
use Rattle.std.specs.Option.{unwrap_or}
use Rattle.std.specs.List.{Contains}
use Rattle.std.proofs.lemmas.Bool.{true≢false, cases_eq, eq-eqb, or_parts, leb-false}
use Rattle.flat_model.specs.Names.{FlatName, is_name_set, is_same_name, add_name, remove_name, links_of}
use Rattle.flat_model.specs.Volume.{Subvolume, RunSub, note_name, last_index_in}
use Rattle.flat_model.specs.Coherent.{IsLinkCount, LeadsUp}
use Rattle.flat_model.specs.Walk.{WalkEnd, AtSlot, walk, ino_at, is_one_inode, is_below}
use Rattle.flat_model.specs.Operations.{Outcome, exchange, exchange_rows, exchange_done, new_name, do_collide, is_crowded, names_without}
use Rattle.flat_model.specs.Step.{IsPath, IsNextIndex}
use Rattle.flat_model.specs.Running.{IsSound}
use Rattle.flat_model.proofs.Lists.{contains_head, contains_tail, contains_cases}
use Rattle.flat_model.proofs.NameSets.{add_name_cases, add_name_has, add_name_keeps, remove_name_gives, remove_name_keeps, is_name_set_add, is_name_set_remove, is_same_name_true, is_same_name_itself}
use Rattle.flat_model.proofs.Edits.{IsFit, Rewires, coherent_rewired, links_without_same, links_without_other, names_fit, names_fit_without}
use Rattle.flat_model.proofs.Ways.{way_kept, way_names, way_rerouted, way_avoids, way_avoids_own}
use Rattle.flat_model.proofs.Fresh.{outcome_cases, covered_add, index_in_range, note_raises, last_index_note_same, names_fit_two}
use Rattle.flat_model.proofs.OneName.{last_is_name, one_name, links_add_same, links_add_other}
use Rattle.flat_model.proofs.Sound.{KeepsSound, unchanged_sound}
use Rattle.flat_model.proofs.Moves.{HoldsName, holds_name}

two_names : (one two q : FlatName) → Contains (one ∷ two ∷ []) q → (one ≡ q) ⊎ (two ≡ q)
two_names one two q c = elim (contains_cases one (two ∷ []) q c) [ inl same ↦ inl same | inr rest ↦ inr (one_name two q rest) ]

first_of_two : (one two : FlatName) → Contains (one ∷ two ∷ []) one
first_of_two one two = contains_head one (two ∷ [])

second_of_two : (one two : FlatName) → Contains (one ∷ two ∷ []) two
second_of_two one two = contains_tail one (two ∷ []) two (contains_head two [])

-- the numbers of links stay, where two names go and their inodes get one name each
links_swapped : (names : List FlatName) (a b new_a new_b : FlatName) → is_name_set names ≡ true → Contains names a → Contains names b → a.ino ≢ b.ino → new_a.ino ≡ b.ino → new_b.ino ≡ a.ino
    → (Contains (remove_name b (remove_name a names)) new_a → ⊥) → (Contains (add_name new_a (remove_name b (remove_name a names))) new_b → ⊥)
    → (i : ℕ) → links_of (add_name new_b (add_name new_a (remove_name b (remove_name a names)))) i ≡ links_of names i
links_swapped names a b new_a new_b set in_a in_b apart at_b at_a absent_a absent_b i =
    let without_a : List FlatName = remove_name a names in
    let left : List FlatName = remove_name b without_a in
    let with_a : List FlatName = add_name new_a left in
    let set_a = is_name_set_remove a names set in
    let set_left = is_name_set_remove b without_a set_a in
    let set_with = is_name_set_add new_a left set_left in
    let b_stays = remove_name_keeps a names b in_b (λ same. apart (ap (λ (n : FlatName). n.ino) same)) in
    elim (cases_eq i a.ino) [
      | inl same ↦ subst (λ j. links_of (add_name new_b with_a) j ≡ links_of names j) (at_a ∙ sym same)
          (links_add_same with_a new_b set_with absent_b
          ∙ ap (λ n. 1 + n) (links_add_other left new_a new_b.ino (λ e. apart (sym at_a ∙ e ∙ at_b))
          ∙ links_without_other without_a b new_b.ino (λ e. apart (sym at_a ∙ e)))
          ∙ ap (λ j. 1 + links_of without_a j) at_a ∙ links_without_same names a set in_a ∙ ap (links_of names) (sym at_a))
      | inr not_a ↦ links_add_other with_a new_b i (λ e. not_a (e ∙ at_a)) ∙ elim (cases_eq i b.ino) [
        | inl same ↦ subst (λ j. links_of with_a j ≡ links_of names j) (at_b ∙ sym same)
            (links_add_same left new_a set_left absent_a
            ∙ ap (λ j. 1 + links_of left j) at_b ∙ links_without_same without_a b set_a b_stays
            ∙ links_without_other names a b.ino (λ e. apart (sym e)) ∙ ap (links_of names) (sym at_b))
        | inr not_b ↦ links_add_other left new_a i (λ e. not_b (e ∙ at_b)) ∙ links_without_other without_a b i not_b ∙ links_without_other names a i not_a
      ]
    ]

-- an index above those that the directory has had is none that it has
above_is_fresh : (run : RunSub) → IsSound run → (dir index : ℕ) → last_index_in run.numbers dir < index → (q : FlatName) → Contains run.sub.names q → dir ≡ q.dir → index ≢ q.index
above_is_fresh run sound dir index above q c same equal =
    let below = sound.covered.indexes q c in
    let moved = ap (last_index_in run.numbers) same in
    omega (arith, below, above, equal, moved)

module _ (run : RunSub) (sound : IsSound run) (one two : List (List ℕ)) (is_path_one : IsPath one) (is_path_two : IsPath two) where
  abbrev left_names : FlatName → FlatName → List FlatName
  left_names a b = remove_name b (remove_name a run.sub.names)

  abbrev at_first : FlatName → FlatName → ℕ → FlatName
  at_first a b index = new_name (left_names a b) (AtSlot a.dir a.bytes (Some a)) index b.ino

  abbrev at_second : FlatName → FlatName → ℕ → FlatName
  at_second a b index = new_name (left_names a b) (AtSlot b.dir b.bytes (Some b)) index a.ino

  abbrev swapped : FlatName → FlatName → ℕ → ℕ → Subvolume
  swapped a b i j = record { inodes = run.sub.inodes; names = add_name (at_second a b j) (add_name (at_first a b i) (left_names a b)) }

  module _ (hold_a : HoldsName run.sub one) (hold_b : HoldsName run.sub two) (i j : ℕ) (apart : hold_a.name.ino ≢ hold_b.name.ino)
      (not_below : is_below one two ≡ false) (not_above : is_below two one ≡ false) (few : run.numbers.last_index < 2 ^ 62)
      (next_a : IsNextIndex run.numbers hold_a.name.dir i) (next_b : IsNextIndex (note_name run.numbers (at_first hold_a.name hold_b.name i)) hold_b.name.dir j)
      (free_a : is_crowded (swapped hold_a.name hold_b.name i j).names (at_first hold_a.name hold_b.name i) ≡ false)
      (free_b : is_crowded (swapped hold_a.name hold_b.name i j).names (at_second hold_a.name hold_b.name j) ≡ false) where
    abbrev a : FlatName
    a = hold_a.name

    abbrev b : FlatName
    b = hold_b.name

    abbrev new_a : FlatName
    new_a = at_first hold_a.name hold_b.name i

    abbrev new_b : FlatName
    new_b = at_second hold_a.name hold_b.name j

    abbrev left : List FlatName
    left = left_names hold_a.name hold_b.name

    abbrev after : Subvolume
    after = swapped hold_a.name hold_b.name i j

    fresh_a : (q : FlatName) → Contains run.sub.names q → hold_a.name.dir ≡ q.dir → i ≢ q.index
    fresh_a = above_is_fresh run sound hold_a.name.dir i next_a.above_those_of_directory

    fresh_b : (q : FlatName) → Contains run.sub.names q → hold_b.name.dir ≡ q.dir → j ≢ q.index
    fresh_b = above_is_fresh run sound hold_b.name.dir j (let above = next_b.above_those_of_directory in let raised = note_raises run.numbers new_a hold_b.name.dir in omega (arith, above, raised))

    left_part : (q : FlatName) → Contains (left_names hold_a.name hold_b.name) q → Contains run.sub.names q × (hold_a.name ≢ q) × (hold_b.name ≢ q)
    left_part q c =
        let outer = remove_name_gives hold_b.name (remove_name hold_a.name run.sub.names) q c in
        let inner = remove_name_gives hold_a.name run.sub.names q outer.0 in
        (inner.0, inner.1, outer.1)

    absent_a : Contains (left_names hold_a.name hold_b.name) new_a → ⊥
    absent_a c = fresh_a new_a (left_part new_a c).0 refl refl

    absent_b : Contains (add_name new_a (left_names hold_a.name hold_b.name)) new_b → ⊥
    absent_b c = elim (add_name_cases new_a left new_b c) [
      | inl same ↦ apart (sym (ap (λ (n : FlatName). n.ino) same))
      | inr old ↦ fresh_b new_b (left_part new_b old).0 refl refl
    ]

    stays : (q : FlatName) → Contains run.sub.names q → hold_a.name ≢ q → hold_b.name ≢ q → Contains after.names q
    stays q c not_a not_b = add_name_keeps new_b (add_name new_a left) q (add_name_keeps new_a left q (remove_name_keeps hold_b.name (remove_name hold_a.name run.sub.names) q (remove_name_keeps hold_a.name run.sub.names q c not_a) not_b))

    has_a : Contains after.names new_a
    has_a = add_name_keeps new_b (add_name new_a left) new_a (add_name_has new_a left)

    has_b : Contains after.names new_b
    has_b = add_name_has new_b (add_name new_a left)

    set_left : is_name_set (left_names hold_a.name hold_b.name) ≡ true
    set_left = is_name_set_remove hold_b.name (remove_name hold_a.name run.sub.names) (is_name_set_remove hold_a.name run.sub.names sound.coherent.in_order)

    -- the way up from the first place's directory, and from the second's, along names that stay
    way_a : LeadsUp after.names hold_a.name.dir hold_a.ends.way
    way_a = way_kept run.sub.names after.names hold_a.name.dir hold_a.ends.way (λ q c. stays q (way_names run.sub.names hold_a.name.dir hold_a.ends.way hold_a.ends.up q c)
        (λ same. way_avoids_own run.sub sound.coherent hold_a.name hold_a.member hold_a.ends.way hold_a.ends.up (subst (λ z. Contains hold_a.ends.way z) (sym same) c))
        (λ same. way_avoids run.sub sound.coherent two one hold_b.name hold_a.name.dir hold_a.name.bytes (Some hold_a.name) hold_b.ends hold_a.ends not_above hold_a.ends.way hold_a.ends.up (subst (λ z. Contains hold_a.ends.way z) (sym same) c))) hold_a.ends.up

    way_b : LeadsUp after.names hold_b.name.dir hold_b.ends.way
    way_b = way_kept run.sub.names after.names hold_b.name.dir hold_b.ends.way (λ q c. stays q (way_names run.sub.names hold_b.name.dir hold_b.ends.way hold_b.ends.up q c)
        (λ same. way_avoids run.sub sound.coherent one two hold_a.name hold_b.name.dir hold_b.name.bytes (Some hold_b.name) hold_a.ends hold_b.ends not_below hold_b.ends.way hold_b.ends.up (subst (λ z. Contains hold_b.ends.way z) (sym same) c))
        (λ same. way_avoids_own run.sub sound.coherent hold_b.name hold_b.member hold_b.ends.way hold_b.ends.up (subst (λ z. Contains hold_b.ends.way z) (sym same) c))) hold_b.ends.up

    rerouted : (q : FlatName) → Contains run.sub.names q → Contains after.names q ⊎ ((way : List FlatName) × LeadsUp after.names q.ino way)
    rerouted q c =
        elim (is_same_name hold_a.name q) as (λ t. is_same_name hold_a.name q ≡ t → Contains after.names q ⊎ ((way : List FlatName) × LeadsUp after.names q.ino way)) [
          | true ↦ λ t. inr (new_b ∷ hold_b.ends.way, (has_b, ap (λ (n : FlatName). n.ino) (is_same_name_true hold_a.name q t), way_b))
          | false ↦ λ not_a. elim (is_same_name hold_b.name q) as (λ t. is_same_name hold_b.name q ≡ t → Contains after.names q ⊎ ((way : List FlatName) × LeadsUp after.names q.ino way)) [
            | true ↦ λ t. inr (new_a ∷ hold_a.ends.way, (has_a, ap (λ (n : FlatName). n.ino) (is_same_name_true hold_b.name q t), way_a))
            | false ↦ λ not_b. inl (stays q c
                (λ same. true≢false (sym (ap (is_same_name hold_a.name) (sym same) ∙ is_same_name_itself hold_a.name) ∙ not_a))
                (λ same. true≢false (sym (ap (is_same_name hold_b.name) (sym same) ∙ is_same_name_itself hold_b.name) ∙ not_b)))
          ] refl
        ] refl

    numbers_low : (note_name run.numbers new_a).last_index ≤ 2 ^ 62
    numbers_low = let most = next_a.at_most_one_above_all in omega (arith, few, most)

    fit_a : IsFit run.sub after new_a
    fit_a = let found = sound.coherent.leads_to_inode hold_b.name hold_b.member in record {
      inode = found.0;
      there = found.1;
      not_root = sound.coherent.root_has_no_name hold_b.name hold_b.member;
      in_dir = hold_a.ends.is_dir;
      bytes = last_is_name run.sub one is_path_one hold_a.name.dir hold_a.name.bytes (Some hold_a.name) hold_a.ends;
      index = index_in_range run.numbers hold_a.name.dir i sound.covered.at_least_one (omega (arith, few)) next_a;
    }

    fit_b : IsFit run.sub after new_b
    fit_b = let found = sound.coherent.leads_to_inode hold_a.name hold_a.member in record {
      inode = found.0;
      there = found.1;
      not_root = sound.coherent.root_has_no_name hold_a.name hold_a.member;
      in_dir = hold_b.ends.is_dir;
      bytes = last_is_name run.sub two is_path_two hold_b.name.dir hold_b.name.bytes (Some hold_b.name) hold_b.ends;
      index = index_in_range (note_name run.numbers new_a) hold_b.name.dir j (λ d. let one_at = sound.covered.at_least_one d in let raised = note_raises run.numbers new_a d in omega (arith, one_at, raised)) numbers_low next_b;
    }

    places_apart : hold_a.name.dir ≡ hold_b.name.dir → hold_a.name.bytes ≢ hold_b.name.bytes
    places_apart same_dir same_bytes = apart (ap (λ (n : FlatName). n.ino) (sound.coherent.no_name_twice hold_a.name hold_b.name hold_a.member hold_b.member same_dir same_bytes))

    indexes_apart_two : hold_a.name.dir ≡ hold_b.name.dir → i ≢ j
    indexes_apart_two same_dir same_index =
        let above = next_b.above_those_of_directory in
        let noted = last_index_note_same run.numbers new_a in
        let moved = ap (last_index_in (note_name run.numbers new_a)) same_dir in
        omega (arith, above, noted, moved, same_index)

    rewires : Rewires run.sub after (hold_a.name ∷ hold_b.name ∷ []) (new_a ∷ new_b ∷ [])
    rewires = record {
      set = is_name_set_add new_b (add_name new_a left) (is_name_set_add new_a left set_left);
      cases = λ q c. elim (add_name_cases new_b (add_name new_a left) q c) [
        | inl same ↦ inl (subst (λ z. Contains (new_a ∷ new_b ∷ []) z) same (second_of_two new_a new_b))
        | inr rest ↦ elim (add_name_cases new_a left q rest) [
          | inl same ↦ inl (subst (λ z. Contains (new_a ∷ new_b ∷ []) z) same (first_of_two new_a new_b))
          | inr old ↦ let parts = left_part q old in inr (parts.0, λ gone. elim (two_names hold_a.name hold_b.name q gone) [ inl e ↦ parts.1 e | inr e ↦ parts.2 e ])
        ]
      ];
      kept = λ n r e. e;
      inodes = λ n r e. inl e;
      counts = λ n r e other. subst (λ c. IsLinkCount r c)
          (sym (links_swapped run.sub.names hold_a.name hold_b.name new_a new_b sound.coherent.in_order hold_a.member hold_b.member apart refl refl absent_a absent_b n))
          (sound.coherent.link_counts n r e other);
      fit_names = λ x c. elim (two_names new_a new_b x c) [ inl same ↦ subst (IsFit run.sub after) same fit_a | inr same ↦ subst (IsFit run.sub after) same fit_b ];
      names_apart = λ x q c d here. elim (two_names new_a new_b x c) [
        | inl same ↦ subst (λ (n : FlatName). n.dir ≡ q.dir → n.bytes ≢ q.bytes) same (λ same_dir same_bytes.
            here (subst (λ z. Contains (hold_a.name ∷ hold_b.name ∷ []) z) (sound.coherent.no_name_twice hold_a.name q hold_a.member d same_dir same_bytes) (first_of_two hold_a.name hold_b.name)))
        | inr same ↦ subst (λ (n : FlatName). n.dir ≡ q.dir → n.bytes ≢ q.bytes) same (λ same_dir same_bytes.
            here (subst (λ z. Contains (hold_a.name ∷ hold_b.name ∷ []) z) (sound.coherent.no_name_twice hold_b.name q hold_b.member d same_dir same_bytes) (second_of_two hold_a.name hold_b.name)))
      ];
      indexes_apart = λ x q c d. elim (two_names new_a new_b x c) [
        | inl same ↦ subst (λ (n : FlatName). n.dir ≡ q.dir → n.index ≢ q.index) same (fresh_a q d)
        | inr same ↦ subst (λ (n : FlatName). n.dir ≡ q.dir → n.index ≢ q.index) same (fresh_b q d)
      ];
      added_names = λ x y c d same_dir same_bytes. elim (two_names new_a new_b x c) [
        | inl at_x ↦ elim (two_names new_a new_b y d) [
          | inl at_y ↦ sym at_x ∙ at_y
          | inr at_y ↦ absurd (places_apart (ap (λ (n : FlatName). n.dir) at_x ∙ same_dir ∙ ap (λ (n : FlatName). n.dir) (sym at_y)) (ap (λ (n : FlatName). n.bytes) at_x ∙ same_bytes ∙ ap (λ (n : FlatName). n.bytes) (sym at_y)))
        ]
        | inr at_x ↦ elim (two_names new_a new_b y d) [
          | inl at_y ↦ absurd (places_apart (ap (λ (n : FlatName). n.dir) at_y ∙ sym same_dir ∙ ap (λ (n : FlatName). n.dir) (sym at_x)) (ap (λ (n : FlatName). n.bytes) at_y ∙ sym same_bytes ∙ ap (λ (n : FlatName). n.bytes) (sym at_x)))
          | inr at_y ↦ sym at_x ∙ at_y
        ]
      ];
      added_indexes = λ x y c d same_dir same_index. elim (two_names new_a new_b x c) [
        | inl at_x ↦ elim (two_names new_a new_b y d) [
          | inl at_y ↦ sym at_x ∙ at_y
          | inr at_y ↦ absurd (indexes_apart_two (ap (λ (n : FlatName). n.dir) at_x ∙ same_dir ∙ ap (λ (n : FlatName). n.dir) (sym at_y)) (ap (λ (n : FlatName). n.index) at_x ∙ same_index ∙ ap (λ (n : FlatName). n.index) (sym at_y)))
        ]
        | inr at_x ↦ elim (two_names new_a new_b y d) [
          | inl at_y ↦ absurd (indexes_apart_two (ap (λ (n : FlatName). n.dir) at_y ∙ sym same_dir ∙ ap (λ (n : FlatName). n.dir) (sym at_x)) (ap (λ (n : FlatName). n.index) at_y ∙ sym same_index ∙ ap (λ (n : FlatName). n.index) (sym at_x)))
          | inr at_y ↦ sym at_x ∙ at_y
        ]
      ];
      ways = λ d is_dir.
          let way = sound.coherent.ends_at_root d is_dir in
          way_rerouted (λ x. Unit {0}) run.sub.names after.names (λ q c. tt) (λ q c u. rerouted q c) d tt way.0 way.1;
      fit = names_fit_two left new_a new_b set_left absent_a absent_b (λ e. apart (sym e))
          (names_fit_without (remove_name hold_a.name run.sub.names) hold_b.name (names_fit_without run.sub.names hold_a.name (names_fit run.sub sound.coherent))) refl refl free_a free_b;
    }

    pub swapped_sound : IsSound (record { sub = after; numbers = note_name (note_name run.numbers new_a) new_b })
    swapped_sound = record {
      coherent = coherent_rewired run.sub after (hold_a.name ∷ hold_b.name ∷ []) (new_a ∷ new_b ∷ []) sound.coherent rewires;
      covered =
          let middle : Subvolume = record { inodes = run.sub.inodes; names = add_name new_a run.sub.names } in
          let first = covered_add run.sub middle run.numbers new_a sound.covered sound.covered.inos (add_name_cases new_a run.sub.names) in
          covered_add middle after (note_name run.numbers new_a) new_b first sound.covered.inos (λ q c. elim (add_name_cases new_b (add_name new_a left) q c) [
            | inl same ↦ inl same
            | inr rest ↦ inr (elim (add_name_cases new_a left q rest) [
              | inl same ↦ subst (λ z. Contains middle.names z) same (add_name_has new_a run.sub.names)
              | inr old ↦ add_name_keeps new_a run.sub.names q (left_part q old).0
            ])
          ]);
    }

  pub exchange_sound : (i j : ℕ) → KeepsSound run (exchange run one two i j)
  unfolding exchange
  exchange_sound i j =
      let left_at : WalkEnd → WalkEnd → List FlatName = λ first second. names_without (names_without run.sub.names first) second in
      let made_at : WalkEnd → WalkEnd → List FlatName = λ first second. new_name (left_at first second) first i (unwrap_or (ino_at second) 0) ∷ new_name (left_at first second) second j (unwrap_or (ino_at first) 0) ∷ [] in
      let done_at : WalkEnd → WalkEnd → Outcome = λ first second. exchange_done run (left_at first second) (made_at first second) in
      let first : WalkEnd = walk run.sub one in
      let second : WalkEnd = walk run.sub two in
      outcome_cases (KeepsSound run) run (exchange_rows run one two first second (left_at first second) (made_at first second)) (done_at first second) (unchanged_sound run sound) (λ rows choice.
      let there = or_parts _ _ rows.0 in
      let open_way = or_parts _ _ rows.1.0 in
      let loops = or_parts _ _ rows.1.1.1.0 in
      let roots = or_parts _ _ loops.1 in
      let below = or_parts _ _ roots.1 in
      let hold_a = holds_name run.sub one there.0 open_way.0 loops.0 in
      let hold_b = holds_name run.sub two there.1 open_way.1 roots.0 in
      let a_at : WalkEnd = AtSlot hold_a.name.dir hold_a.name.bytes (Some hold_a.name) in
      let b_at : WalkEnd = AtSlot hold_b.name.dir hold_b.name.bytes (Some hold_b.name) in
      let one_inode : is_one_inode first second ≡ is_one_inode a_at b_at = λ k. is_one_inode (hold_a.at k) (hold_b.at k) in
      let apart : hold_a.name.ino ≢ hold_b.name.ino = λ same. true≢false (sym (eq-eqb hold_a.name.ino hold_b.name.ino same) ∙ sym one_inode ∙ rows.1.1.0) in
      let chosen : Rattle.flat_model.specs.Step.AreNextIndexes run.numbers (made_at a_at b_at) = subst (λ (o : Outcome). Rattle.flat_model.specs.Step.AreNextIndexes run.numbers o.made) (λ k. done_at (hold_a.at k) (hold_b.at k)) choice in
      let collide_is : do_collide (left_at first second) (made_at first second) ≡ do_collide (left_at a_at b_at) (made_at a_at b_at) = λ k. do_collide (left_at (hold_a.at k) (hold_b.at k)) (made_at (hold_a.at k) (hold_b.at k)) in
      let crowded = or_parts _ _ (sym collide_is ∙ rows.1.1.1.1.1.0) in
      let done = swapped_sound hold_a hold_b i j apart below.0 below.1 (leb-false _ _ rows.1.1.1.1.0) chosen.0 chosen.1.0 crowded.0 (or_parts _ _ crowded.1).0 in
      let done_is : done_at first second ≡ done_at a_at b_at = λ k. done_at (hold_a.at k) (hold_b.at k) in
      subst (λ (o : Outcome). IsSound o.next) (sym done_is) done)
