-- rename and exchange leave a subvolume in a run sound.
use Rattle.std.proofs.Common.{◌≡◌, ◌≢◌, ℕ, ◌<◌, ◌^◌, true, false, not, ◌&&◌, List, [], ◌∷◌, Option, Some, None, refl, sym, ap, subst, ◌∙◌, arith, inl, inr, ◌⊎◌}
use Rattle.std.specs.Option.{unwrap_or}
use Rattle.std.specs.List.{Contains}
use Rattle.std.specs.FinMap.{get}
use Rattle.std.proofs.lemmas.Bool.{true≢false, cases_eq, cases_Bool, eq-eqb, or_parts, leb-false}
use Rattle.flat_model.specs.Records.{InodeRecord}
use Rattle.flat_model.specs.Names.{FlatName, is_same_name, add_name, remove_name, links_of, is_in_slot}
use Rattle.flat_model.specs.Volume.{Subvolume, RunSub, is_dir_at, is_dir_there}
use Rattle.flat_model.specs.Coherent.{IsCoherent, IsLinkCount, LeadsUp}
use Rattle.flat_model.specs.Walk.{WalkEnd, AtSlot, walk, ino_at, record_at, is_absent, is_blocked, is_root, is_one_inode, is_below}
use Rattle.flat_model.specs.Operations.{Outcome, rename, rename_rows, rename_done, new_name, do_collide, without_entry, names_without, has_entries}
use Rattle.flat_model.specs.Step.{IsPath, IsNextIndex}
use Rattle.flat_model.specs.Running.{IsSound}
use Rattle.flat_model.proofs.NameSets.{add_name_cases, add_name_has, add_name_keeps, remove_name_gives, remove_name_keeps, is_name_set_add, is_name_set_remove, is_same_name_true}
use Rattle.flat_model.proofs.Edits.{coherent_rewired, coherent_without_name, without_gives, without_keeps, links_without_same, links_without_other, names_fit, names_fit_without}
use Rattle.flat_model.proofs.Ways.{EndsAtSlot, walk_slot, way_kept, way_names, way_rerouted, way_avoids, dir_record, dir_of_name, find_some, is_in_slot_gives}
use Rattle.flat_model.proofs.Fresh.{outcome_cases, covered_add, index_is_fresh, index_in_range}
use Rattle.flat_model.proofs.OneName.{held_slot, some_slot, last_is_name, slot_is_free, one_name, not_crowded_one, OneComes, rewires_one, links_add_same, links_add_other}
use Rattle.flat_model.proofs.Sound.{KeepsSound, unchanged_sound, no_entries, no_dir_entries}

-- what stands at the end of a walk that is held
pub record HoldsName (sub : Subvolume) (path : List (List ℕ)) : Type 0 where
  pub name : FlatName
  pub at : walk sub path ≡ AtSlot name.dir name.bytes (Some name)
  pub ends : EndsAtSlot sub name.dir name.bytes (Some name) path
  pub member : Contains sub.names name

pub holds_name : (sub : Subvolume) (path : List (List ℕ)) → is_absent (walk sub path) ≡ false → is_blocked (walk sub path) ≡ false → is_root (walk sub path) ≡ false → HoldsName sub path
holds_name sub path there open_way not_root =
    let slot = held_slot (walk sub path) there open_way not_root in
    let ends = walk_slot sub path slot.0 slot.1 (Some slot.2) slot.3 in
    let found = find_some (is_in_slot slot.0 slot.1) sub.names slot.2 (sym ends.found) in
    let same = is_in_slot_gives slot.0 slot.1 slot.2 found.1 in
    let at : walk sub path ≡ AtSlot slot.2.dir slot.2.bytes (Some slot.2) = slot.3 ∙ (λ i. AtSlot (sym same.0 i) (sym same.1 i) (Some slot.2)) in
    record { name = slot.2; at = at; ends = walk_slot sub path slot.2.dir slot.2.bytes (Some slot.2) at; member = found.0 }

-- ---- rename

-- a subvolume from which the name at the new place has gone
record IsBase (sub base : Subvolume) (moved : FlatName) (dir : ℕ) (bytes : List ℕ) : Type 0 where
  coherent : IsCoherent base
  part : (q : FlatName) → Contains base.names q → Contains sub.names q
  has : Contains base.names moved
  free : (q : FlatName) → Contains base.names q → dir ≡ q.dir → bytes ≢ q.bytes
  in_dir : is_dir_at base dir ≡ true
  inodes : (i : ℕ) (r : InodeRecord) → get base.inodes i ≡ Some r → get sub.inodes i ≡ Some r

kind_cases : (o : Option InodeRecord) → (is_dir_there o ≡ true) ⊎ (is_dir_there o ≡ false)
kind_cases o = cases_Bool (is_dir_there o)

base_of : (sub : Subvolume) → IsCoherent sub → (moved : FlatName) → Contains sub.names moved → (new : List (List ℕ)) (dir : ℕ) (bytes : List ℕ) (there : Option FlatName) → EndsAtSlot sub dir bytes there new
    → is_one_inode (AtSlot moved.dir moved.bytes (Some moved)) (AtSlot dir bytes there) ≡ false
    → (is_dir_there (record_at sub (AtSlot dir bytes there)) && has_entries sub (ino_at (AtSlot dir bytes there))) ≡ false
    → IsBase sub (without_entry sub (AtSlot dir bytes there)) moved dir bytes
base_of sub coherent moved member new dir bytes None ends apart empty = record {
  coherent = coherent;
  part = λ q c. c;
  has = member;
  free = slot_is_free sub new dir bytes ends;
  in_dir = ends.is_dir;
  inodes = λ i r e. e;
}
base_of sub coherent moved member new dir bytes (Some target) ends apart empty =
    let found = find_some (is_in_slot dir bytes) sub.names target (sym ends.found) in
    let slot = is_in_slot_gives dir bytes target found.1 in
    let no_names : (q : FlatName) → Contains sub.names q → q.dir ≢ target.ino = elim (kind_cases (get sub.inodes target.ino)) [
      | inl is_dir ↦ no_entries sub target.ino (sym (ap (λ b. b && has_entries sub (Some target.ino)) is_dir) ∙ empty)
      | inr no_dir ↦ no_dir_entries sub coherent target.ino no_dir
    ] in
    record {
      coherent = coherent_without_name sub coherent target found.0 no_names;
      part = λ q c. (remove_name_gives target sub.names q c).0;
      has = remove_name_keeps target sub.names moved member (λ same. true≢false (sym (eq-eqb moved.ino target.ino (ap (λ (n : FlatName). n.ino) (sym same))) ∙ apart));
      free = λ q c same_dir same_bytes.
          let parts = remove_name_gives target sub.names q c in
          parts.1 (coherent.no_name_twice target q found.0 parts.0 (slot.0 ∙ same_dir) (slot.1 ∙ same_bytes));
      in_dir = ap is_dir_there (without_keeps sub target dir (λ same. absurd (no_names target found.0 (slot.0 ∙ same)))) ∙ ends.is_dir;
      inodes = λ i r e. (without_gives sub target i r e).0;
    }

module _ (run : RunSub) (sound : IsSound run) (old new : List (List ℕ)) (is_path : IsPath new) where
  moved_comes : (base : Subvolume) (moved : FlatName) (dir : ℕ) (bytes : List ℕ) (there : Option FlatName) (index : ℕ) → IsBase run.sub base moved dir bytes → Contains run.sub.names moved → EndsAtSlot run.sub moved.dir moved.bytes (Some moved) old → EndsAtSlot run.sub dir bytes there new
      → (is_dir_at run.sub moved.ino && is_below old new) ≡ false → IsNextIndex run.numbers dir index → run.numbers.last_index < 2 ^ 62
      → do_collide (remove_name moved base.names) (new_name (remove_name moved base.names) (AtSlot dir bytes there) index moved.ino ∷ []) ≡ false
      → OneComes base (record { inodes = base.inodes; names = add_name (new_name (remove_name moved base.names) (AtSlot dir bytes there) index moved.ino) (remove_name moved base.names) }) (moved ∷ []) (remove_name moved base.names) (new_name (remove_name moved base.names) (AtSlot dir bytes there) index moved.ino)
  moved_comes base moved dir bytes there index is member at_old at_new not_below next few free =
      let left : List FlatName = remove_name moved base.names in
      let name : FlatName = new_name left (AtSlot dir bytes there) index moved.ino in
      let coherent : IsCoherent base = is.coherent in
      let fresh : (q : FlatName) → Contains base.names q → dir ≡ q.dir → index ≢ q.index = λ q c. index_is_fresh run.sub run.numbers sound.covered dir index next q (is.part q c) in
      let left_absent : Contains left name → ⊥ = λ c. fresh name (remove_name_gives moved base.names name c).0 refl refl in
      let found = coherent.leads_to_inode moved is.has in
      let kept : (q : FlatName) → Contains base.names q → moved ≢ q → Contains (add_name name left) q = λ q c apart. add_name_keeps name left q (remove_name_keeps moved base.names q c apart) in
      record {
        names = refl;
        set = is_name_set_remove moved base.names coherent.in_order;
        remain = λ q c. let parts = remove_name_gives moved base.names q c in (parts.0, λ d. parts.1 (one_name moved q d));
        kept = λ i r e. e;
        inodes = λ i r e. inl e;
        counts = λ i r e other. elim (cases_eq i moved.ino) [
          | inl same ↦
              let count : links_of (add_name name left) moved.ino ≡ links_of base.names moved.ino =
              links_add_same left name (is_name_set_remove moved base.names coherent.in_order) left_absent ∙ links_without_same base.names moved coherent.in_order is.has in
              subst (λ c. IsLinkCount r c) (ap (links_of base.names) same ∙ sym count ∙ ap (links_of (add_name name left)) (sym same)) (coherent.link_counts i r e other)
          | inr apart ↦ subst (λ c. IsLinkCount r c) (sym (links_add_other left name i apart ∙ links_without_other base.names moved i apart)) (coherent.link_counts i r e other)
        ];
        fit_name = record {
          inode = found.0;
          there = found.1;
          not_root = coherent.root_has_no_name moved is.has;
          in_dir = is.in_dir;
          bytes = last_is_name run.sub new is_path dir bytes there at_new;
          index = index_in_range run.numbers dir index sound.covered.at_least_one (omega (arith, few)) next;
        };
        free = λ q c _. is.free q c;
        fresh = fresh;
        ways = λ d is_dir.
            let way = coherent.ends_at_root d is_dir in
            way_rerouted (λ x. is_dir_at base x ≡ true) base.names (add_name name left) (dir_of_name base coherent)
            (λ q c is_dir_q. elim (is_same_name moved q) as (λ b. is_same_name moved q ≡ b → Contains (add_name name left) q ⊎ ((w : List FlatName) × LeadsUp (add_name name left) q.ino w)) [
              | true ↦ λ t.
                  let same : moved ≡ q = is_same_name_true moved q t in
                  let same_ino : moved.ino ≡ q.ino = ap (λ (n : FlatName). n.ino) same in
                  let record_q = dir_record (get base.inodes q.ino) is_dir_q in
                  let is_dir_moved : is_dir_at run.sub moved.ino ≡ true = ap (is_dir_at run.sub) same_ino ∙ ap is_dir_there (is.inodes q.ino record_q.0 record_q.1) ∙ record_q.2 in
                  let apart = sym (ap (λ b. b && is_below old new) is_dir_moved) ∙ not_below in
                  let up = coherent.ends_at_root dir is.in_dir in
                  let avoids = way_avoids run.sub sound.coherent old new moved dir bytes there at_old at_new apart up.0
                  (way_kept base.names run.sub.names dir up.0 (λ z d. is.part z (way_names base.names dir up.0 up.1 z d)) up.1) in
                  let above = way_kept base.names (add_name name left) dir up.0 (λ z d. kept z (way_names base.names dir up.0 up.1 z d) (λ e. avoids (subst (λ y. Contains up.0 y) (sym e) d))) up.1 in
                  inr (name ∷ up.0, (add_name_has name left, same_ino, above))
              | false ↦ λ f. inl (kept q c (λ same. true≢false (sym (ap (is_same_name moved) (sym same) ∙ Rattle.flat_model.proofs.NameSets.is_same_name_itself moved) ∙ f)))
            ] refl) d is_dir way.0 way.1;
        fit = names_fit_without base.names moved (names_fit base coherent);
        mark = refl;
        not_crowded = not_crowded_one left name free;
      }

  pub rename_sound : (index : ℕ) → KeepsSound run (rename run old new index)
  unfolding rename
  rename_sound index =
      let left_at : WalkEnd → WalkEnd → List FlatName = λ from to. names_without (without_entry run.sub to).names from in
      let name_at : WalkEnd → WalkEnd → FlatName = λ from to. new_name (left_at from to) to index (unwrap_or (ino_at from) 0) in
      let done_at : WalkEnd → WalkEnd → Outcome = λ from to. rename_done run (without_entry run.sub to) (left_at from to) (name_at from to) in
      let from : WalkEnd = walk run.sub old in
      let to : WalkEnd = walk run.sub new in
      outcome_cases (KeepsSound run) run (rename_rows run old new from to (left_at from to) (name_at from to)) (done_at from to) (unchanged_sound run sound) (λ rows choice.
      let there = or_parts _ _ rows.0 in
      let open_way = or_parts _ _ rows.1.0 in
      let loops = or_parts _ _ rows.1.1.1.1.1.1.0 in
      let roots = or_parts _ _ loops.1 in
      let held = holds_name run.sub old there.0 open_way.0 loops.0 in
      let moved : FlatName = held.name in
      let slot = some_slot to there.1 open_way.1 roots.0 in
      let ends = walk_slot run.sub new slot.0 slot.1 slot.2 slot.3 in
      let one_inode : is_one_inode from to ≡ is_one_inode (AtSlot moved.dir moved.bytes (Some moved)) (AtSlot slot.0 slot.1 slot.2) = λ i. is_one_inode (held.at i) (slot.3 i) in
      let apart = sym one_inode ∙ rows.1.1.0 in
      let empty = subst (λ w. (not (is_root w) && (is_dir_there (record_at run.sub w) && has_entries run.sub (ino_at w))) ≡ false) slot.3 rows.1.1.1.1.1.0 in
      let not_below = subst (λ w. (is_dir_there (record_at run.sub w) && is_below old new) ≡ false) held.at roots.1 in
      let base : Subvolume = without_entry run.sub (AtSlot slot.0 slot.1 slot.2) in
      let is = base_of run.sub sound.coherent moved held.member new slot.0 slot.1 slot.2 ends apart empty in
      let left : List FlatName = remove_name moved base.names in
      let name : FlatName = new_name left (AtSlot slot.0 slot.1 slot.2) index moved.ino in
      let name_is : name_at from to ≡ name = λ i. name_at (held.at i) (slot.3 i) in
      let left_is : left_at from to ≡ left = λ i. left_at (held.at i) (slot.3 i) in
      let next = subst (λ (n : FlatName). IsNextIndex run.numbers n.dir n.index) name_is choice.0 in
      let collide_is : do_collide (left_at from to) (name_at from to ∷ []) ≡ do_collide left (name ∷ []) = λ i. do_collide (left_is i) (name_is i ∷ []) in
      let free : do_collide left (name ∷ []) ≡ false = sym collide_is ∙ rows.1.1.1.1.1.1.1.1.0 in
      let comes = moved_comes base moved slot.0 slot.1 slot.2 index is held.member held.ends ends not_below next (leb-false _ _ rows.1.1.1.1.1.1.1.0) free in
      let after : Subvolume = record { inodes = base.inodes; names = add_name name left } in
      let coherent = coherent_rewired base after (moved ∷ []) (name ∷ []) is.coherent (rewires_one base after (moved ∷ []) left name comes) in
      let covered = covered_add run.sub after run.numbers name sound.covered (λ i r e. sound.covered.inos i r (is.inodes i r e))
      (λ q c. elim (add_name_cases name left q c) [ inl same ↦ inl same | inr old_name ↦ inr (is.part q (remove_name_gives moved base.names q old_name).0) ]) in
      let done : IsSound (done_at (AtSlot moved.dir moved.bytes (Some moved)) (AtSlot slot.0 slot.1 slot.2)).next = record { coherent = coherent; covered = covered } in
      let done_is : done_at from to ≡ done_at (AtSlot moved.dir moved.bytes (Some moved)) (AtSlot slot.0 slot.1 slot.2) = λ i. done_at (held.at i) (slot.3 i) in
      subst (λ (o : Outcome). IsSound o.next) (sym done_is) done)
