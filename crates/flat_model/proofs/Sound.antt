-- Each operation leaves a subvolume in a run sound: those that make a name out of nothing, and those that only remove.
use Rattle.std.proofs.Common.{◌≡◌, ◌≢◌, ℕ, ◌<◌, ◌≤◌, ◌+◌, ◌^◌, true, false, not, ◌&&◌, List, [], ◌∷◌, Some, None, refl, sym, ap, subst, ◌∙◌, arith, inl, inr}
use Rattle.std.specs.Option.{unwrap_or}
use Rattle.std.specs.List.{Contains}
use Rattle.std.specs.FinMap.{get, insert}
use Rattle.std.proofs.lemmas.Bool.{true≢false, cases_eq, eq-eqb, or_parts, leb-false, ltb-false}
use Rattle.flat_model.specs.declared.answer.Answer.{Answer}
use Rattle.flat_model.specs.Records.{InodeRecord, FileInode, DirInode, LinkInode, is_dir_record, attributes_of}
use Rattle.flat_model.specs.Names.{FlatName, add_name, links_of, entries_of, stands_in}
use Rattle.flat_model.specs.Lengths.{most_item_bytes, xattr_item_length}
use Rattle.flat_model.specs.Volume.{Subvolume, RunSub, note_ino, is_dir_at, is_dir_there}
use Rattle.flat_model.specs.Coherent.{IsCoherent, IsLinkCount, LeadsUp, KeepsLimits, most_links}
use Rattle.flat_model.specs.Walk.{WalkEnd, AtRoot, AtSlot, Missing, Blocked, walk, ino_at, record_at, dir_of, is_absent, is_blocked, is_root}
use Rattle.flat_model.specs.Operations.{Outcome, unchanged, make, make_rows, make_done, link, link_rows, link_done, unlink, unlink_rows, rmdir, rmdir_rows, removal_done, new_name, do_collide, without_name, has_entries}
use Rattle.flat_model.specs.Step.{IsPath, IsNextIndex, AreNextIndexes}
use Rattle.flat_model.specs.Running.{AreCovered, IsSound}
use Rattle.flat_model.proofs.Lists.{contains_none, contains_filter}
use Rattle.flat_model.proofs.Maps.{get_insert_same, get_insert_other, insert_cases, no_length}
use Rattle.flat_model.proofs.NameSets.{add_name_cases, add_name_has, add_name_keeps, remove_name_gives}
use Rattle.flat_model.proofs.Edits.{coherent_rewired, coherent_without_name, without_gives, names_fit}
use Rattle.flat_model.proofs.Ways.{EndsAtSlot, walk_slot, way_kept, way_names, dir_record, find_some}
use Rattle.flat_model.proofs.Fresh.{outcome_cases, covered_add, covered_part, index_is_fresh, index_in_range, root_below}
use Rattle.flat_model.proofs.OneName.{free_slot, held_slot, last_is_name, slot_is_free, not_crowded_one, OneComes, fresh_absent, rewires_one, links_add_same, links_add_other, no_links}

-- what an operation owes: a sound subvolume, where the indexes of the names that it made are a choice
abbrev pub KeepsSound : RunSub → Outcome → Type 0
KeepsSound run outcome = AreNextIndexes run.numbers outcome.made → IsSound outcome.next

-- no row says so
pub unchanged_sound : (run : RunSub) → IsSound run → (answer : Answer) → KeepsSound run (unchanged run answer)
unchanged_sound run sound answer choice = sound

-- ---- make

one_link : (inode : InodeRecord) → IsLinkCount inode 1
one_link (FileInode file) = (omega arith, omega arith)
one_link (DirInode dir) = refl
one_link (LinkInode link) = (omega arith, omega arith)

module _ (run : RunSub) (sound : IsSound run) (path : List (List ℕ)) (is_path : IsPath path) (inode : InodeRecord) (keeps : KeepsLimits inode) (fits : (hash : ℕ) → xattr_item_length (attributes_of inode) hash ≤ most_item_bytes) where
  abbrev made_name : ℕ → List ℕ → ℕ → FlatName
  made_name dir bytes index = new_name run.sub.names (AtSlot dir bytes None) index (run.numbers.last_ino + 1)

  abbrev made_sub : ℕ → List ℕ → ℕ → Subvolume
  made_sub dir bytes index = record { inodes = insert run.sub.inodes (run.numbers.last_ino + 1) inode; names = add_name (made_name dir bytes index) run.sub.names }

  no_inode : get run.sub.inodes (run.numbers.last_ino + 1) ≡ None
  no_inode =
      elim (get run.sub.inodes (run.numbers.last_ino + 1)) as (λ o. get run.sub.inodes (run.numbers.last_ino + 1) ≡ o → o ≡ None) [
        | None ↦ λ e. refl
        | Some old ↦ λ e. let below = sound.covered.inos (run.numbers.last_ino + 1) old e in absurd (omega arith)
      ] refl

  made_comes : (dir : ℕ) (bytes : List ℕ) (index : ℕ) → EndsAtSlot run.sub dir bytes None path → IsNextIndex run.numbers dir index → run.numbers.last_ino < 2 ^ 62 → run.numbers.last_index < 2 ^ 62 → do_collide run.sub.names (made_name dir bytes index ∷ []) ≡ false → OneComes run.sub (made_sub dir bytes index) [] run.sub.names (made_name dir bytes index)
  made_comes dir bytes index ends next few_inos few_indexes free =
      let ino = run.numbers.last_ino + 1 in
      let name : FlatName = made_name dir bytes index in
      let new : Subvolume = made_sub dir bytes index in
      let low = root_below run sound in
      let other_ino : (i : ℕ) (old : InodeRecord) → get run.sub.inodes i ≡ Some old → i ≢ ino = λ i old e same. let below = sound.covered.inos i old e in omega (arith, below, same) in
      let kept : (i : ℕ) (old : InodeRecord) → get run.sub.inodes i ≡ Some old → get new.inodes i ≡ Some old = λ i old e. get_insert_other run.sub.inodes ino inode i (other_ino i old e) ∙ e in
      let fresh = index_is_fresh run.sub run.numbers sound.covered dir index next in
      let in_dir = let found = dir_record _ ends.is_dir in ap is_dir_there (kept dir found.0 found.1) ∙ found.2 in
      let old_way : (d : ℕ) → is_dir_at run.sub d ≡ true → (way : List FlatName) × LeadsUp new.names d way = λ d is_dir.
      let way = sound.coherent.ends_at_root d is_dir in
      (way.0, way_kept run.sub.names new.names d way.0 (λ q c. add_name_keeps name run.sub.names q (way_names run.sub.names d way.0 way.1 q c)) way.1) in
      record {
        names = refl;
        set = sound.coherent.in_order;
        remain = λ q c. (c, contains_none q);
        kept = kept;
        inodes = λ i r e. elim (insert_cases run.sub.inodes ino inode i r e) [
          | inl new_one ↦ inr (record {
            keeps = subst KeepsLimits (sym new_one.1) keeps;
            number = (omega (arith, low, new_one.0), omega (arith, few_inos, new_one.0));
            fits = λ hash. subst (λ z. xattr_item_length (attributes_of z) hash ≤ most_item_bytes) (sym new_one.1) (fits hash);
          })
          | inr old_one ↦ inl old_one.1
        ];
        counts = λ i r e other. elim (insert_cases run.sub.inodes ino inode i r e) [
          | inl new_one ↦
              let count : links_of new.names ino ≡ 1 = links_add_same run.sub.names name sound.coherent.in_order (fresh_absent run.sub name fresh) ∙ ap (λ n. 1 + n) (no_links run.sub sound.coherent ino no_inode) in
              subst (λ c. IsLinkCount r c) (sym (ap (links_of new.names) new_one.0 ∙ count)) (one_link r)
          | inr old_one ↦ subst (λ c. IsLinkCount r c) (sym (links_add_other run.sub.names name i old_one.0)) (sound.coherent.link_counts i r old_one.1 other)
        ];
        fit_name = record {
          inode = inode;
          there = get_insert_same run.sub.inodes ino inode;
          not_root = λ same. omega (arith, low, same);
          in_dir = in_dir;
          bytes = last_is_name run.sub path is_path dir bytes None ends;
          index = index_in_range run.numbers dir index sound.covered.at_least_one (omega (arith, few_indexes)) next;
        };
        free = λ q c _. slot_is_free run.sub path dir bytes ends q c;
        fresh = fresh;
        ways = λ d is_dir. elim (cases_eq d ino) [
          | inl same ↦
              let way = old_way dir ends.is_dir in
              (name ∷ way.0, (add_name_has name run.sub.names, sym same, way.1))
          | inr other ↦ old_way d (sym (ap is_dir_there (get_insert_other run.sub.inodes ino inode d other)) ∙ is_dir)
        ];
        fit = names_fit run.sub sound.coherent;
        mark = refl;
        not_crowded = not_crowded_one run.sub.names name free;
      }

  pub make_sound : (index : ℕ) → KeepsSound run (make run path inode index)
  unfolding make
  make_sound index =
      let name_at : WalkEnd → FlatName = λ w. new_name run.sub.names w index (run.numbers.last_ino + 1) in
      outcome_cases (KeepsSound run) run (make_rows run (walk run.sub path) (name_at (walk run.sub path))) (make_done run inode (name_at (walk run.sub path))) (unchanged_sound run sound) (λ rows choice.
      let few = or_parts _ _ rows.1.1.1.0 in
      let slot = free_slot (walk run.sub path) rows.0 rows.1.0 rows.1.1.0 in
      let ends = walk_slot run.sub path slot.0 slot.1 None slot.2 in
      let next = subst (λ w. IsNextIndex run.numbers (dir_of w) index) slot.2 choice.0 in
      let free = subst (λ w. do_collide run.sub.names (name_at w ∷ []) ≡ false) slot.2 rows.1.1.1.1.0 in
      let comes = made_comes slot.0 slot.1 index ends next (leb-false _ _ few.0) (leb-false _ _ few.1) free in
      let name : FlatName = made_name slot.0 slot.1 index in
      let new : Subvolume = made_sub slot.0 slot.1 index in
      let coherent = coherent_rewired run.sub new [] (name ∷ []) sound.coherent (rewires_one run.sub new [] run.sub.names name comes) in
      let noted : AreCovered (record { sub = run.sub; numbers = note_ino run.numbers (run.numbers.last_ino + 1) }) = record {
        inos = λ i r e. let below = sound.covered.inos i r e in omega arith;
        indexes = sound.covered.indexes;
        directories = sound.covered.directories;
        at_least_one = sound.covered.at_least_one;
      } in
      let covered = covered_add run.sub new (note_ino run.numbers (run.numbers.last_ino + 1)) name noted
      (λ i r e. elim (insert_cases run.sub.inodes (run.numbers.last_ino + 1) inode i r e) [
        | inl new_one ↦ omega (arith, new_one.0)
        | inr old_one ↦ let below = sound.covered.inos i r old_one.1 in omega arith
      ])
      (add_name_cases name run.sub.names) in
      subst (λ w. IsSound (make_done run inode (name_at w)).next) (sym slot.2) (record { coherent = coherent; covered = covered }))

-- ---- link

-- a place that is there and isn't the root directory, since what is there is no directory
pub no_dir_slot : (sub : Subvolume) → IsCoherent sub → (end : WalkEnd) → is_absent end ≡ false → is_blocked end ≡ false → is_dir_there (record_at sub end) ≡ false → is_root end ≡ false
no_dir_slot sub coherent AtRoot a b c = absurd (true≢false (sym coherent.root_is_dir ∙ c))
no_dir_slot sub coherent (AtSlot dir bytes there) a b c = refl
no_dir_slot sub coherent Missing a b c = refl
no_dir_slot sub coherent Blocked a b c = refl

-- an inode that is no directory may have one name more
more_links : (inode : InodeRecord) (count : ℕ) → is_dir_record inode ≡ false → IsLinkCount inode count → count < most_links → IsLinkCount inode (1 + count)
more_links (FileInode file) count other c few = let low = c.0 in (omega (arith, low), omega (arith, few))
more_links (DirInode dir) count other c few = absurd (true≢false other)
more_links (LinkInode link) count other c few = let low = c.0 in (omega (arith, low), omega (arith, few))

module _ (run : RunSub) (sound : IsSound run) (old new : List (List ℕ)) (is_path : IsPath new) where
  link_comes : (from : FlatName) → Contains run.sub.names from → (dir : ℕ) (bytes : List ℕ) (index : ℕ) → EndsAtSlot run.sub dir bytes None new → is_dir_at run.sub from.ino ≡ false → links_of run.sub.names from.ino < most_links → IsNextIndex run.numbers dir index → run.numbers.last_index < 2 ^ 62
      → do_collide run.sub.names (new_name run.sub.names (AtSlot dir bytes None) index from.ino ∷ []) ≡ false
      → OneComes run.sub (record { inodes = run.sub.inodes; names = add_name (new_name run.sub.names (AtSlot dir bytes None) index from.ino) run.sub.names }) [] run.sub.names (new_name run.sub.names (AtSlot dir bytes None) index from.ino)
  link_comes from c dir bytes index ends no_dir few_links next few_indexes free =
      let name : FlatName = new_name run.sub.names (AtSlot dir bytes None) index from.ino in
      let fresh = index_is_fresh run.sub run.numbers sound.covered dir index next in
      let found = sound.coherent.leads_to_inode from c in
      let not_root = sound.coherent.root_has_no_name from c in
      record {
        names = refl;
        set = sound.coherent.in_order;
        remain = λ q d. (d, contains_none q);
        kept = λ i r e. e;
        inodes = λ i r e. inl e;
        counts = λ i r e other. elim (cases_eq i from.ino) [
          | inl same ↦
              let count = links_add_same run.sub.names name sound.coherent.in_order (fresh_absent run.sub name fresh) in
              let was = sound.coherent.link_counts i r e other in
              let no_dir_r : is_dir_record r ≡ false = sym (ap is_dir_there e) ∙ ap (is_dir_at run.sub) same ∙ no_dir in
              subst (λ c. IsLinkCount r c) (sym (ap (links_of (add_name name run.sub.names)) same ∙ count ∙ ap (λ j. 1 + links_of run.sub.names j) (sym same)))
              (more_links r _ no_dir_r was (subst (λ j. links_of run.sub.names j < most_links) (sym same) few_links))
          | inr apart ↦ subst (λ c. IsLinkCount r c) (sym (links_add_other run.sub.names name i apart)) (sound.coherent.link_counts i r e other)
        ];
        fit_name = record {
          inode = found.0;
          there = found.1;
          not_root = not_root;
          in_dir = ends.is_dir;
          bytes = last_is_name run.sub new is_path dir bytes None ends;
          index = index_in_range run.numbers dir index sound.covered.at_least_one (omega (arith, few_indexes)) next;
        };
        free = λ q d _. slot_is_free run.sub new dir bytes ends q d;
        fresh = fresh;
        ways = λ d is_dir.
            let way = sound.coherent.ends_at_root d is_dir in
            (way.0, way_kept run.sub.names (add_name name run.sub.names) d way.0 (λ q e. add_name_keeps name run.sub.names q (way_names run.sub.names d way.0 way.1 q e)) way.1);
        fit = names_fit run.sub sound.coherent;
        mark = refl;
        not_crowded = not_crowded_one run.sub.names name free;
      }

  pub link_sound : (index : ℕ) → KeepsSound run (link run old new index)
  unfolding link
  link_sound index =
      let name_at : WalkEnd → WalkEnd → FlatName = λ from to. new_name run.sub.names to index (unwrap_or (ino_at from) 0) in
      let name_here : FlatName = name_at (walk run.sub old) (walk run.sub new) in
      outcome_cases (KeepsSound run) run (link_rows run (walk run.sub old) (walk run.sub new) name_here) (link_done run name_here) (unchanged_sound run sound) (λ rows choice.
      let there = or_parts _ _ rows.0 in
      let open_way = or_parts _ _ rows.1.0 in
      let from_slot = held_slot (walk run.sub old) there.0 open_way.0 (no_dir_slot run.sub sound.coherent (walk run.sub old) there.0 open_way.0 rows.1.1.0) in
      let to_slot = free_slot (walk run.sub new) there.1 open_way.1 rows.1.1.1.0 in
      let from : FlatName = from_slot.2 in
      let from_ends = walk_slot run.sub old from_slot.0 from_slot.1 (Some from) from_slot.3 in
      let member = (find_some _ run.sub.names from (sym from_ends.found)).0 in
      let ends = walk_slot run.sub new to_slot.0 to_slot.1 None to_slot.2 in
      let name : FlatName = new_name run.sub.names (AtSlot to_slot.0 to_slot.1 None) index from.ino in
      let name_is : name_here ≡ name = λ i. name_at (from_slot.3 i) (to_slot.2 i) in
      let next = subst (λ (n : FlatName). IsNextIndex run.numbers n.dir n.index) name_is choice.0 in
      let free = subst (λ n. do_collide run.sub.names (n ∷ []) ≡ false) name_is rows.1.1.1.1.1.1.0 in
      let few_links = subst (λ (n : FlatName). links_of run.sub.names n.ino < most_links) name_is (leb-false _ _ rows.1.1.1.1.0) in
      let no_dir = subst (λ w. is_dir_there (record_at run.sub w) ≡ false) from_slot.3 rows.1.1.0 in
      let comes = link_comes from member to_slot.0 to_slot.1 index ends no_dir few_links next (leb-false _ _ rows.1.1.1.1.1.0) free in
      let after : Subvolume = record { inodes = run.sub.inodes; names = add_name name run.sub.names } in
      let coherent = coherent_rewired run.sub after [] (name ∷ []) sound.coherent (rewires_one run.sub after [] run.sub.names name comes) in
      let covered = covered_add run.sub after run.numbers name sound.covered sound.covered.inos (add_name_cases name run.sub.names) in
      subst (λ n. IsSound (link_done run n).next) (sym name_is) (record { coherent = coherent; covered = covered }))

-- ---- unlink and rmdir

-- the numbers cover what a removal leaves
covered_without : (run : RunSub) (name : FlatName) → AreCovered run → AreCovered (record run { sub = without_name run.sub name })
covered_without run name covered = covered_part run.sub (without_name run.sub name) run.numbers covered
    (λ i r e. covered.inos i r (without_gives run.sub name i r e).0)
    (λ q c. (remove_name_gives name run.sub.names q c).0)

-- a directory without names has none
pub no_entries : (sub : Subvolume) (ino : ℕ) → has_entries sub (Some ino) ≡ false → (q : FlatName) → Contains sub.names q → q.dir ≢ ino
no_entries sub ino none q c same =
    let empty = no_length (entries_of sub.names ino) (let low = ltb-false _ _ none in omega (arith, low)) in
    contains_none q (subst (λ ns. Contains ns q) empty (contains_filter (stands_in ino) sub.names q (eq-eqb q.dir ino same) c))

-- no name stands in what is no directory
pub no_dir_entries : (sub : Subvolume) → IsCoherent sub → (ino : ℕ) → is_dir_at sub ino ≡ false → (q : FlatName) → Contains sub.names q → q.dir ≢ ino
no_dir_entries sub coherent ino no_dir q c same = true≢false (sym (coherent.stands_in_dir q c) ∙ ap (is_dir_at sub) same ∙ no_dir)

module _ (run : RunSub) (sound : IsSound run) (path : List (List ℕ)) where
  removal_sound : (dir : ℕ) (bytes : List ℕ) (name : FlatName) → walk run.sub path ≡ AtSlot dir bytes (Some name) → ((q : FlatName) → Contains run.sub.names q → q.dir ≢ name.ino) → IsSound (removal_done run (walk run.sub path)).next
  removal_sound dir bytes name at empty =
      let ends = walk_slot run.sub path dir bytes (Some name) at in
      let member = (find_some _ run.sub.names name (sym ends.found)).0 in
      subst (λ w. IsSound (removal_done run w).next) (sym at) (record {
        coherent = coherent_without_name run.sub sound.coherent name member empty;
        covered = covered_without run name sound.covered;
      })

  pub unlink_sound : KeepsSound run (unlink run path)
  unfolding unlink
  unlink_sound =
      outcome_cases (KeepsSound run) run (unlink_rows run (walk run.sub path)) (removal_done run (walk run.sub path)) (unchanged_sound run sound) (λ rows choice.
      let slot = held_slot (walk run.sub path) rows.0 rows.1.0 (no_dir_slot run.sub sound.coherent (walk run.sub path) rows.0 rows.1.0 rows.1.1.0) in
      let no_dir = subst (λ w. is_dir_there (record_at run.sub w) ≡ false) slot.3 rows.1.1.0 in
      removal_sound slot.0 slot.1 slot.2 slot.3 (no_dir_entries run.sub sound.coherent slot.2.ino no_dir))

  pub rmdir_sound : KeepsSound run (rmdir run path)
  unfolding rmdir
  rmdir_sound =
      outcome_cases (KeepsSound run) run (rmdir_rows run (walk run.sub path)) (removal_done run (walk run.sub path)) (unchanged_sound run sound) (λ rows choice.
      let blocked = or_parts _ _ rows.1.0 in
      let slot = held_slot (walk run.sub path) rows.0 blocked.0 rows.1.1.1.0 in
      let none = subst (λ w. (not (is_root w) && has_entries run.sub (ino_at w)) ≡ false) slot.3 rows.1.1.0 in
      removal_sound slot.0 slot.1 slot.2 slot.3 (no_entries run.sub slot.2.ino none))
