-- Each log step keeps what the steps bound, and so do all steps since the last full commit.
use Rattle.std.proofs.Common.{◌≡◌, ℕ, ◌+◌, ◌-◌, ◌^◌, ◌≤◌, Bool, true, false, cond, not, ◌&&◌, List, [], ◌∷◌, ◌++◌, map, length, flat_map, Option, Some, None, refl, sym, ap, subst, ◌∙◌, arith, inl, inr, length-append, MatchBool}
use Rattle.std.specs.Bool.{nat_eq}
use Rattle.std.specs.Option.{is_some}
use Rattle.std.specs.Ordering.{nat_cmp}
use Rattle.std.specs.List.{Contains, filter}
use Rattle.std.specs.FinMap.{get, get-empty}
use Rattle.std.proofs.lemmas.Bool.{true≢false, or_left, or_parts, and_parts, and_from, and_right, eqb-true, eq-eqb, ne_eqb, not-true, not_from_false, not_from_true, cases_eq, false_from_ne_true, true_from_ne_false}
use Rattle.std.proofs.lemmas.List.Elements.{Contains-append_left, Contains-append_right, filter-append, filter_agree}
use Rattle.flat_model.specs.Records.{InodeRecord}
use Rattle.flat_model.specs.Names.{FlatName, is_name_set, leads_to, stands_in, links_of, entries_of}
use Rattle.flat_model.specs.Coherent.{IsCoherent}
use Rattle.flat_model.specs.Volume.{Subvolume, is_dir_at}
use Rattle.flat_model.proofs.Lists.{contains_filter, filter_contains, filter_swaps, filter_empties}
use Rattle.flat_model.proofs.NameSets.{same_name_set, is_name_set_filter, set_tail, set_head_once}
use Rattle.logged_volume.specs.Numbers.{is_in, gaps_with}
use Rattle.logged_volume.specs.Agreement.{is_there, is_same_unmarked, has_unmarked}
use Rattle.logged_volume.specs.Drawn.{drawn_set, is_data_form}
use Rattle.logged_volume.specs.LogStep.{stepped, with_data, log_step}
use Rattle.logged_volume.specs.Rules.{RoomNumbers, commit_reason}
use Rattle.logged_volume.specs.FlatLog.{WholeInode, LogRange, LogEntry, FlatLog, empty_log, is_logged, is_covered, entry_of, AreDistinct}
use Rattle.logged_volume.specs.Written.{unchanged_indexes, all_indexes, ranges_of, entries_in, is_gone, is_listed, listed_ranges, written_entries, IsFsyncWritten, IsDataWritten, IsWritten}
use Rattle.logged_volume.specs.Standing.{IsLogOf, AreLogStep}
use Rattle.logged_volume.specs.Weight.{MadeStep, had_data_form, step_members, member_weight, record_weight, target_weight, listed_weight, gone_weight, greatest, drawn_by, weight_of, change_count, item_count, AreMade}
use Rattle.logged_volume.proofs.Members.{any_gives, in_gives, number_set_has, number_set_gives}
use Rattle.logged_volume.proofs.LeastSets.{least_set_closed}
use Rattle.logged_volume.proofs.Stepped.{there_from, other_inode, filter_of_members, filter_of_others}
use Rattle.logged_volume.proofs.StepCoherence.{StrandsNone, stepped_coherent}
use Rattle.logged_volume.proofs.BothForms.{strands_none}
use Rattle.logged_volume.proofs.Covers.{Covers, covered_from, dropped_gives}
use Rattle.logged_volume.proofs.Gaps.{map_gives}
use Rattle.logged_volume.proofs.WrittenLogs.{logged_gone, logged_other, logged_member, present_is_there, ranged_is_lost, fsync_writes_log}
use Rattle.logged_volume.proofs.DataLogs.{empty_is_log, data_names, data_there, logged_apart, data_writes_log}
use Rattle.logged_volume.proofs.LogSteps.{step_writes_log}
use Rattle.logged_volume.proofs.Counts.{length_within, distinct_filter, filters_apart, filter_le}
use Rattle.logged_volume.proofs.WeightBounds.{lost_in, ranges_at, entries_at, AreWeighed, short_filter, map_count, gaps_with_count, whole_count, items_weigh}

-- ---- lists

name_set_distinct : (names : List FlatName) → is_name_set names ≡ true → AreDistinct names
name_set_distinct [] s = tt
name_set_distinct (name ∷ names) s = (set_head_once name names s, name_set_distinct names (set_tail name names s))

filter_of_map : {X Y : Type 0} (f : X → Y) (p : Y → Bool) (xs : List X) → length (filter p (map f xs)) ≡ length (filter (λ x. p (f x)) xs)
filter_of_map f p [] = refl
filter_of_map f p (x ∷ xs) =
    let rest = filter_of_map f p xs in
    elim (p (f x)) as (λ b. length (cond b (f x ∷ filter p (map f xs)) (filter p (map f xs))) ≡ length (cond b (x ∷ filter (λ x. p (f x)) xs) (filter (λ x. p (f x)) xs))) [ true ↦ omega (arith, rest) | false ↦ rest ]

none_pass : {X : Type 0} (p : X → Bool) (xs : List X) → ((x : X) → Contains xs x → p x ≡ true → ⊥) → length (filter p xs) ≡ 0
none_pass p xs none = ap length (filter_empties p xs (λ x c. false_from_ne_true _ (none x c)))

-- ---- greatest weights and drawn inodes

new_weight : (weight : MadeStep → ℕ) (step : MadeStep) (steps : List MadeStep) (n : ℕ) → n ≤ weight step → n ≤ greatest weight (step ∷ steps)
new_weight weight step steps n le = omega (arith, le)

old_weight : (weight : MadeStep → ℕ) (step : MadeStep) (steps : List MadeStep) (n : ℕ) → n ≤ greatest weight steps → n ≤ greatest weight (step ∷ steps)
old_weight weight step steps n le = omega (arith, le)

drawn_new : (step : MadeStep) (steps : List MadeStep) (ino : ℕ) → is_in (step_members step) ino ≡ true → Contains (drawn_by (step ∷ steps)) ino
drawn_new step steps ino m = number_set_has (step_members step ++ flat_map step_members steps) ino (Contains-append_left (step_members step) (flat_map step_members steps) ino (in_gives (step_members step) ino m))

drawn_old : (step : MadeStep) (steps : List MadeStep) (ino : ℕ) → Contains (drawn_by steps) ino → Contains (drawn_by (step ∷ steps)) ino
drawn_old step steps ino c =
    number_set_has (step_members step ++ flat_map step_members steps) ino (Contains-append_right (step_members step) (flat_map step_members steps) ino (number_set_gives (flat_map step_members steps) ino c))

pub target_in_members : (step : MadeStep) → is_in (step_members step) step.target ≡ true
target_in_members step =
    elim (had_data_form step) as (λ b. is_in (cond b (step.target ∷ []) (drawn_set step.current step.logged step.target)) step.target ≡ true) [
      | true ↦ or_left _ _ (eq-eqb step.target step.target refl)
      | false ↦ (least_set_closed step.current step.logged step.target true).first step.target (or_left _ _ (eq-eqb step.target step.target refl))
    ]

-- the names that a log has of an inode are R's
log_links : (committed logged : Subvolume) (log : FlatLog) → IsLogOf committed logged log → is_name_set logged.names ≡ true → (ino : ℕ) → is_logged log ino ≡ true → links_of log.names ino ≡ links_of logged.names ino
log_links committed logged log is set ino t =
    ap length (same_name_set _ _ (is_name_set_filter (leads_to ino) log.names is.in_order) (is_name_set_filter (leads_to ino) logged.names set)
    (λ q c. let found = filter_contains (leads_to ino) log.names q c in contains_filter (leads_to ino) logged.names q found.1 (is.names_are q found.0).0)
    (λ q c.
    let found = filter_contains (leads_to ino) logged.names q c in
    contains_filter (leads_to ino) log.names q found.1 (is.has_names q found.0 (ap (is_logged log) (eqb-true q.ino ino found.1) ∙ t))))

abbrev step_of : Subvolume → Subvolume → ℕ → Bool → MadeStep
step_of current logged target datasync = record { current = current; logged = logged; target = target; datasync = datasync }

member_weight_is : (step : MadeStep) (ino : ℕ) → is_in (step_members step) ino ≡ true → is_there step.current ino ≡ true → member_weight ino step ≡ 2 + links_of (cond (had_data_form step) step.logged step.current).names ino
member_weight_is step ino m there = ap (λ b. cond b (2 + links_of (cond (had_data_form step) step.logged step.current).names ino) 0) (and_from _ _ m there)

kept_change : (gone : Bool) (o : Option WholeInode) → change_count (cond gone None o) ≤ change_count o
kept_change true o = omega arith
kept_change false o = omega arith

-- ---- a step of an fsync

module _ (committed current logged : Subvolume) (target : ℕ) (datasync : Bool) (steps : List MadeStep) (log after : FlatLog) (are : AreLogStep committed current logged target log) (weighed : AreWeighed committed steps logged log) (form : is_data_form logged target datasync ≡ false) (strands : StrandsNone current logged (drawn_set current logged target)) (written : IsFsyncWritten committed current logged target (drawn_set current logged target) (stepped current logged target (drawn_set current logged target)) log after) where
  members_is : step_members (step_of current logged target datasync) ≡ drawn_set current logged target
  members_is = ap (λ b. cond b (target ∷ []) (drawn_set current logged target)) form

  after_is_log : IsLogOf committed (stepped current logged target (drawn_set current logged target)) after
  after_is_log = fsync_writes_log committed current logged target (drawn_set current logged target) log after are (least_set_closed current logged target true) strands written

  next_coherent : IsCoherent (stepped current logged target (drawn_set current logged target))
  next_coherent = stepped_coherent current logged target (drawn_set current logged target) are.volumes.step (least_set_closed current logged target true) strands

  fsync_members : (ino : ℕ) → is_logged after ino ≡ true → 2 + links_of after.names ino ≤ greatest (member_weight ino) (step_of current logged target datasync ∷ steps)
  fsync_members ino t =
      let step = step_of current logged target datasync in
      let links = log_links committed _ after after_is_log next_coherent.in_order ino t in
      elim (is_in (drawn_set current logged target) ino) as (λ b. is_in (drawn_set current logged target) ino ≡ b → 2 + links_of after.names ino ≤ greatest (member_weight ino) (step ∷ steps)) [
        | true ↦ λ m. elim (is_there current ino) as (λ b. is_there current ino ≡ b → 2 + links_of after.names ino ≤ greatest (member_weight ino) (step ∷ steps)) [
          | true ↦ λ there.
              let ours : links_of (stepped current logged target (drawn_set current logged target)).names ino ≡ links_of current.names ino =
              ap length (filter_of_members current logged target (drawn_set current logged target) are.volumes.step.current_coherent.in_order (leads_to ino) (λ q leads. ap (is_in (drawn_set current logged target)) (eqb-true q.ino ino leads) ∙ m)) in
              let weight : member_weight ino step ≡ 2 + links_of current.names ino =
              member_weight_is step ino (ap (λ ms. is_in ms ino) members_is ∙ m) there ∙ ap (λ b. 2 + links_of (cond b logged current).names ino) form in
              new_weight (member_weight ino) step steps _ (omega (arith, links, ours, weight))
          | false ↦ λ absent. absurd (true≢false (sym t ∙ logged_gone committed current logged target (drawn_set current logged target) log after are (least_set_closed current logged target true) strands written ino m absent))
        ] refl
        | false ↦ λ m.
            let was : is_logged log ino ≡ true = sym (logged_other committed current logged target (drawn_set current logged target) log after are (least_set_closed current logged target true) strands written ino m) ∙ t in
            let theirs : links_of (stepped current logged target (drawn_set current logged target)).names ino ≡ links_of logged.names ino =
            ap length (filter_of_others current logged target (drawn_set current logged target) are.volumes.step.logged_coherent.in_order (leads_to ino) (λ q leads. ap (is_in (drawn_set current logged target)) (eqb-true q.ino ino leads) ∙ m)) in
            let before = log_links committed logged log are.is_log are.volumes.step.logged_coherent.in_order ino was in
            old_weight (member_weight ino) step steps _ (omega (arith, links, theirs, before, weighed.members ino was))
      ] refl

  fsync_changes : (ino : ℕ) → change_count (get after.whole ino) ≤ greatest (target_weight ino) (step_of current logged target datasync ∷ steps)
  fsync_changes ino =
      let step = step_of current logged target datasync in
      elim (cases_eq ino target) [
        | inl same ↦
            let has = written.has_target in
            let count = whole_count (get committed.inodes target) has.inode has.whole has.changes in
            let is : get after.whole ino ≡ Some has.whole = ap (get after.whole) same ∙ has.logged in
            let weight : target_weight ino step ≡ record_weight (Some has.inode) = ap (λ b. cond b (record_weight (get current.inodes ino)) 0) (eq-eqb ino target same) ∙ ap record_weight (ap (get current.inodes) same ∙ has.there) in
            new_weight (target_weight ino) step steps _ (omega (arith, count, ap change_count is, weight))
        | inr apart ↦ old_weight (target_weight ino) step steps _ (omega (arith, ap change_count (written.whole ino apart), kept_change (is_gone current (drawn_set current logged target) ino) (get log.whole ino), weighed.changes ino))
      ]

  fsync_gone : (name : FlatName) → Contains committed.names name → is_there (stepped current logged target (drawn_set current logged target)) name.ino ≡ false → Contains (drawn_by (step_of current logged target datasync ∷ steps)) name.ino × (links_of committed.names name.ino ≤ greatest (gone_weight committed name.ino) (step_of current logged target datasync ∷ steps))
  fsync_gone name c absent =
      let step = step_of current logged target datasync in
      elim (is_there logged name.ino) as (λ b. is_there logged name.ino ≡ b → Contains (drawn_by (step ∷ steps)) name.ino × (links_of committed.names name.ino ≤ greatest (gone_weight committed name.ino) (step ∷ steps))) [
        | false ↦ λ was. let old = weighed.gone name c was in (drawn_old step steps name.ino old.0, old_weight (gone_weight committed name.ino) step steps _ old.1)
        | true ↦ λ had.
            let m : is_in (drawn_set current logged target) name.ino ≡ true = true_from_ne_false _ (λ other. true≢false (sym had ∙ sym (ap is_some (other_inode current logged target (drawn_set current logged target) name.ino other)) ∙ absent)) in
            let lacks : is_there current name.ino ≡ false = false_from_ne_true _ (λ there. true≢false (sym (present_is_there committed current logged target (drawn_set current logged target) log after are (least_set_closed current logged target true) strands written name.ino m there) ∙ absent)) in
            let member = ap (λ ms. is_in ms name.ino) members_is ∙ m in
            let weight : gone_weight committed name.ino step ≡ links_of committed.names name.ino = ap (λ b. cond b (links_of committed.names name.ino) 0) (and_from _ _ member (not_from_false _ lacks)) in
            (drawn_new step steps name.ino member, new_weight (gone_weight committed name.ino) step steps _ (omega (arith, weight)))
      ] refl

  -- ---- ranges and entries

  lost_next : FlatName → Bool
  lost_next name = not (is_there (stepped current logged target (drawn_set current logged target)) name.ino)

  is_single : FlatName → Bool
  is_single name = not (is_there (stepped current logged target (drawn_set current logged target)) name.ino) && not (is_covered (listed_ranges committed current target (drawn_set current logged target) log) name.dir name.index)

  singles_at : ℕ → ℕ
  singles_at dir = length (filter (stands_in dir) (filter is_single committed.names))

  in_dir : ℕ → LogRange → Bool
  in_dir dir range = nat_eq range.dir dir

  entry_in_dir : ℕ → LogEntry → Bool
  entry_in_dir dir entry = nat_eq entry.dir dir

  ranges_count : (dir : ℕ) → length (ranges_at after dir) ≤ length (filter (λ range. nat_eq range.dir dir) (listed_ranges committed current target (drawn_set current logged target) log)) + singles_at dir
  unfolding singles_at is_single
  ranges_count dir =
      let listed = listed_ranges committed current target (drawn_set current logged target) log in
      let single = λ (name : FlatName). let made : LogRange = record { dir = name.dir; first = name.index; last = name.index } in made in
      let singles = map single (filter is_single committed.names) in
      let at = λ (range : LogRange). nat_eq range.dir dir in
      let most = length_within (filter at after.ranges) (filter at (listed ++ singles)) (distinct_filter at after.ranges written.ranges_once)
      (λ range c. let found = filter_contains at after.ranges range c in contains_filter at (listed ++ singles) range found.1 ((written.ranges range).0 found.0)) in
      omega (arith, most, ap length (filter-append at listed singles), length-append (filter at listed) (filter at singles), filter_of_map single at (filter is_single committed.names))

  entries_count : (dir : ℕ) → length (entries_at after dir) ≤ length (filter (λ entry. nat_eq entry.dir dir) (written_entries committed current target (drawn_set current logged target) log))
  entries_count dir =
      let at = λ (entry : LogEntry). nat_eq entry.dir dir in
      length_within (filter at after.entries) (filter at (written_entries committed current target (drawn_set current logged target) log)) (distinct_filter at after.entries written.entries_once)
      (λ entry c. let found = filter_contains at after.entries entry c in contains_filter at (written_entries committed current target (drawn_set current logged target) log) entry found.1 ((written.entries entry).0 found.0))

  singles_are_lost : (dir : ℕ) → singles_at dir ≤ lost_in committed (stepped current logged target (drawn_set current logged target)) dir
  unfolding singles_at is_single
  singles_are_lost dir =
      let lost = λ (name : FlatName). not (is_there (stepped current logged target (drawn_set current logged target)) name.ino) in
      omega (arith, ap length (filter_swaps (stands_in dir) is_single committed.names), ap length (filter_swaps (stands_in dir) lost committed.names), filter_le is_single lost (filter (stands_in dir) committed.names) (λ name c t. (and_parts _ _ t).0))

  -- the ranges and entries of a target that is a directory are at most its names and one
  target_listed : is_dir_at current target ≡ true → length (ranges_of committed current target) + length (entries_in current target (ranges_of committed current target)) ≤ 1 + length (entries_of current.names target)
  target_listed is_dir =
      let ranges = ranges_of committed current target in
      let covered = λ (name : FlatName). stands_in target name && is_covered ranges target name.index in
      let open_ = λ (name : FlatName). stands_in target name && not (is_covered ranges target name.index) in
      let alike = λ (name : FlatName). stands_in target name && has_unmarked current.names name in
      let unchanged = length_within (filter alike committed.names) (filter open_ current.names) (distinct_filter alike committed.names (name_set_distinct committed.names are.volumes.committed_coherent.in_order))
      (λ name c.
      let found = filter_contains alike committed.names name c in
      let parts = and_parts _ _ found.1 in
      let now : Contains current.names name = unchanged_is_current name found.0 parts.1 in
      let not_covered : is_covered ranges target name.index ≡ false = false_from_ne_true _ (λ t.
      let range = Rattle.logged_volume.proofs.Covers.covered_gives ranges target name.index t in
      let in_target : name.dir ≡ target = eqb-true name.dir target parts.0 in
      ranged_is_lost committed current logged target (drawn_set current logged target) log after are (least_set_closed current logged target true) strands written name range.0 range.1 (record { dir_is = range.2.dir_is ∙ sym in_target; from = range.2.from; to = range.2.to }) found.0 now) in
      contains_filter open_ current.names name (and_from _ _ parts.0 (not_from_false _ not_covered)) now) in
      let gaps = map_count (λ (gap : ℕ × ℕ). let made : LogRange = record { dir = target; first = gap.0; last = gap.1 - 1 } in made) (gaps_with (unchanged_indexes committed current target) (all_indexes committed current target) (2 ^ 64)) in
      let split : length (filter covered current.names) + length (filter open_ current.names) ≤ length (entries_of current.names target) =
      filters_apart covered open_ (stands_in target) current.names (λ name c t. (and_parts _ _ t).0) (λ name c t. (and_parts _ _ t).0)
      (λ name c t u. true≢false (sym (and_parts _ _ t).1 ∙ not-true _ (and_parts _ _ u).1)) in
      omega (arith, gaps, gaps_with_count (unchanged_indexes committed current target) (all_indexes committed current target) (2 ^ 64), map_count (λ (name : FlatName). name.index) (filter alike committed.names), unchanged, map_count entry_of (filter covered current.names), split)
    where
      unchanged_is_current : (name : FlatName) → Contains committed.names name → has_unmarked current.names name ≡ true → Contains current.names name
      unchanged_is_current name c t =
          let found = any_gives (is_same_unmarked name) current.names t in
          let fields = and_parts _ _ found.2 in
          let more = and_parts _ _ fields.1 in
          let same = are.volumes.with_current.indexes name found.0 c found.1 (eqb-true _ _ fields.0) (eqb-true _ _ more.0) in
          subst (Contains current.names) (sym same) found.1

  listed_target : (dir : ℕ) → dir ≡ target → is_dir_at current target ≡ true → length (ranges_at after dir) + length (entries_at after dir) ≤ greatest (listed_weight dir) (step_of current logged target datasync ∷ steps) + lost_in committed (stepped current logged target (drawn_set current logged target)) dir
  listed_target dir same is_dir =
      let step = step_of current logged target datasync in
      let members = drawn_set current logged target in
      let at = λ (range : LogRange). nat_eq range.dir dir in
      let entry_at = λ (entry : LogEntry). nat_eq entry.dir dir in
      let kept = filter (λ (range : LogRange). not (is_gone current members range.dir) && not (is_listed current target range.dir)) log.ranges in
      let kept_entries = filter (λ (entry : LogEntry). not (is_gone current members entry.dir) && (not (is_gone current members entry.ino) && not (is_listed current target entry.dir))) log.entries in
      let is_listed_at = λ (d : ℕ) (e : d ≡ dir). and_from (nat_eq d target) (is_dir_at current target) (eq-eqb d target (e ∙ same)) is_dir in
      let no_range : length (filter at kept) ≡ 0 = none_pass at kept (λ range c t.
      let found = filter_contains (λ (range : LogRange). not (is_gone current members range.dir) && not (is_listed current target range.dir)) log.ranges range c in
      true≢false (sym (is_listed_at range.dir (eqb-true range.dir dir t)) ∙ not-true _ (and_parts _ _ found.1).1)) in
      let no_entry : length (filter entry_at kept_entries) ≡ 0 = none_pass entry_at kept_entries (λ entry c t.
      let found = filter_contains (λ (entry : LogEntry). not (is_gone current members entry.dir) && (not (is_gone current members entry.ino) && not (is_listed current target entry.dir))) log.entries entry c in
      true≢false (sym (is_listed_at entry.dir (eqb-true entry.dir dir t)) ∙ not-true _ (and_parts _ _ (and_parts _ _ found.1).1).1)) in
      let new = cond (is_dir_at current target) (ranges_of committed current target) [] in
      let new_entries = cond (is_dir_at current target) (entries_in current target (ranges_of committed current target)) [] in
      let new_is : new ≡ ranges_of committed current target = ap (λ b. cond b (ranges_of committed current target) []) is_dir in
      let new_entries_is : new_entries ≡ entries_in current target (ranges_of committed current target) = ap (λ b. cond b (entries_in current target (ranges_of committed current target)) []) is_dir in
      let weight : listed_weight dir step ≡ 1 + length (entries_of current.names target) =
      ap (λ b. cond b (1 + length (entries_of current.names dir)) 0) (and_from (nat_eq dir target) _ (eq-eqb dir target same) (and_from _ _ (ap (is_dir_at current) same ∙ is_dir) (not_from_false _ form))) ∙ ap (λ d. 1 + length (entries_of current.names d)) same in
      let bound = new_weight (listed_weight dir) step steps (1 + length (entries_of current.names target)) (omega (arith, weight)) in
      omega (
        arith,
        bound,
        ranges_count dir,
        entries_count dir,
        singles_are_lost dir,
        target_listed is_dir,
        no_range,
        no_entry,
        ap length (filter-append at kept new),
        length-append (filter at kept) (filter at new),
        short_filter at new,
        ap length new_is,
        ap length (filter-append entry_at kept_entries new_entries),
        length-append (filter entry_at kept_entries) (filter entry_at new_entries),
        short_filter entry_at new_entries,
        ap length new_entries_is,
      )

  -- of another directory nothing new is listed
  no_new_range : (dir : ℕ) → is_listed current target dir ≡ false → length (filter (λ range. nat_eq range.dir dir) (cond (is_dir_at current target) (ranges_of committed current target) [])) ≡ 0
  no_new_range dir unlisted =
      elim (is_dir_at current target) as (λ b. is_dir_at current target ≡ b → length (filter (λ range. nat_eq range.dir dir) (cond b (ranges_of committed current target) [])) ≡ 0) [
        | false ↦ λ _. refl
        | true ↦ λ is_dir. none_pass (λ (range : LogRange). nat_eq range.dir dir) (ranges_of committed current target) (λ range c t.
            let found = map_gives (λ (gap : ℕ × ℕ). let made : LogRange = record { dir = target; first = gap.0; last = gap.1 - 1 } in made) (gaps_with (unchanged_indexes committed current target) (all_indexes committed current target) (2 ^ 64)) range c in
            let same : dir ≡ target = sym (eqb-true range.dir dir t) ∙ sym (ap (λ (r : LogRange). r.dir) found.2) in
            true≢false (sym (and_from _ _ (eq-eqb dir target same) is_dir) ∙ unlisted))
      ] refl

  no_new_entry : (dir : ℕ) → is_listed current target dir ≡ false → length (filter (λ entry. nat_eq entry.dir dir) (cond (is_dir_at current target) (entries_in current target (ranges_of committed current target)) [])) ≡ 0
  no_new_entry dir unlisted =
      elim (is_dir_at current target) as (λ b. is_dir_at current target ≡ b → length (filter (λ entry. nat_eq entry.dir dir) (cond b (entries_in current target (ranges_of committed current target)) [])) ≡ 0) [
        | false ↦ λ _. refl
        | true ↦ λ is_dir. none_pass (λ (entry : LogEntry). nat_eq entry.dir dir) (entries_in current target (ranges_of committed current target)) (λ entry c t.
            let found = map_gives entry_of (filter (λ (name : FlatName). stands_in target name && is_covered (ranges_of committed current target) target name.index) current.names) entry c in
            let name = filter_contains (λ (name : FlatName). stands_in target name && is_covered (ranges_of committed current target) target name.index) current.names found.0 found.1 in
            let in_target : found.0.dir ≡ target = eqb-true found.0.dir target (and_parts _ _ name.1).0 in
            let same : dir ≡ target = sym (eqb-true entry.dir dir t) ∙ sym (ap (λ (e : LogEntry). e.dir) found.2) ∙ in_target in
            true≢false (sym (and_from _ _ (eq-eqb dir target same) is_dir) ∙ unlisted))
      ] refl

  kept_ranges_count : (dir : ℕ) → is_gone current (drawn_set current logged target) dir ≡ true → length (filter (λ range. nat_eq range.dir dir) (filter (λ (range : LogRange). not (is_gone current (drawn_set current logged target) range.dir) && not (is_listed current target range.dir)) log.ranges)) ≡ 0
  kept_ranges_count dir gone =
      none_pass (λ (range : LogRange). nat_eq range.dir dir) (filter (λ (range : LogRange). not (is_gone current (drawn_set current logged target) range.dir) && not (is_listed current target range.dir)) log.ranges) (λ range c t.
      let found = filter_contains (λ (range : LogRange). not (is_gone current (drawn_set current logged target) range.dir) && not (is_listed current target range.dir)) log.ranges range c in
      true≢false (sym gone ∙ ap (is_gone current (drawn_set current logged target)) (sym (eqb-true range.dir dir t)) ∙ not-true _ (and_parts _ _ found.1).0))

  kept_entries_count : (dir : ℕ) → is_gone current (drawn_set current logged target) dir ≡ true → length (filter (λ entry. nat_eq entry.dir dir) (filter (λ (entry : LogEntry). not (is_gone current (drawn_set current logged target) entry.dir) && (not (is_gone current (drawn_set current logged target) entry.ino) && not (is_listed current target entry.dir))) log.entries)) ≡ 0
  kept_entries_count dir gone =
      none_pass (λ (entry : LogEntry). nat_eq entry.dir dir) (filter (λ (entry : LogEntry). not (is_gone current (drawn_set current logged target) entry.dir) && (not (is_gone current (drawn_set current logged target) entry.ino) && not (is_listed current target entry.dir))) log.entries) (λ entry c t.
      let found = filter_contains (λ (entry : LogEntry). not (is_gone current (drawn_set current logged target) entry.dir) && (not (is_gone current (drawn_set current logged target) entry.ino) && not (is_listed current target entry.dir))) log.entries entry c in
      true≢false (sym gone ∙ ap (is_gone current (drawn_set current logged target)) (sym (eqb-true entry.dir dir t)) ∙ not-true _ (and_parts _ _ found.1).0))

  -- of a directory whose ranges stay, names that were lost before have a range already
  lost_and_single : (dir : ℕ) → is_gone current (drawn_set current logged target) dir ≡ false → is_listed current target dir ≡ false → lost_in committed logged dir + singles_at dir ≤ lost_in committed (stepped current logged target (drawn_set current logged target)) dir
  unfolding singles_at is_single
  lost_and_single dir stays unlisted =
      let members = drawn_set current logged target in
      let lost = λ (name : FlatName). not (is_there logged name.ino) in
      let lost_after = λ (name : FlatName). not (is_there (stepped current logged target members) name.ino) in
      let kept = λ (range : LogRange). not (is_gone current members range.dir) && not (is_listed current target range.dir) in
      let split : length (filter lost (filter (stands_in dir) committed.names)) + length (filter is_single (filter (stands_in dir) committed.names)) ≤ length (filter lost_after (filter (stands_in dir) committed.names)) =
      filters_apart lost is_single lost_after (filter (stands_in dir) committed.names)
      (λ name c t.
      let name_is = filter_contains (stands_in dir) committed.names name c in
      not_from_false _ (false_from_ne_true _ (λ here. still_lost name name_is.0 (not-true _ t) here)))
      (λ name c t. (and_parts _ _ t).0)
      (λ name c t u.
      let name_is = filter_contains (stands_in dir) committed.names name c in
      let in_dir_is : name.dir ≡ dir = eqb-true name.dir dir name_is.1 in
      let range = (dropped_gives log name (are.is_log.drops_gone name name_is.0 (not-true _ t))).0 in
      let range_dir : range.0.dir ≡ dir = range.2.dir_is ∙ in_dir_is in
      let here : Contains (listed_ranges committed current target members log) range.0 =
      Contains-append_left (filter kept log.ranges) (cond (is_dir_at current target) (ranges_of committed current target) []) range.0
      (contains_filter kept log.ranges range.0 (and_from _ _ (not_from_false _ (ap (is_gone current members) range_dir ∙ stays)) (not_from_false _ (ap (is_listed current target) range_dir ∙ unlisted))) range.1) in
      true≢false (sym (covered_from (listed_ranges committed current target members log) name.dir name.index range.0 here range.2) ∙ not-true _ (and_parts _ _ u).1)) in
      omega (arith, split, ap length (filter_swaps (stands_in dir) lost committed.names), ap length (filter_swaps (stands_in dir) is_single committed.names), ap length (filter_swaps (stands_in dir) lost_after committed.names))
    where
      still_lost : (name : FlatName) → Contains committed.names name → is_there logged name.ino ≡ false → is_there (stepped current logged target (drawn_set current logged target)) name.ino ≡ true → ⊥
      still_lost name c absent here =
          let was = are.volumes.committed_coherent.leads_to_inode name c in
          elim (is_in (drawn_set current logged target) name.ino) as (λ b. is_in (drawn_set current logged target) name.ino ≡ b → ⊥) [
            | false ↦ λ m. true≢false (sym here ∙ ap is_some (other_inode current logged target (drawn_set current logged target) name.ino m) ∙ absent)
            | true ↦ λ m. elim (is_there current name.ino) as (λ b. is_there current name.ino ≡ b → ⊥) [
              | true ↦ λ there. true≢false (sym (are.volumes.common.inodes name.ino (there_from committed name.ino was.0 was.1) there) ∙ absent)
              | false ↦ λ lacks. true≢false (sym here ∙ Rattle.logged_volume.proofs.WrittenLogs.gone_record committed current logged target (drawn_set current logged target) log after are (least_set_closed current logged target true) strands written name.ino m lacks)
            ] refl
          ] refl

  listed_other : (dir : ℕ) → is_listed current target dir ≡ false → length (ranges_at after dir) + length (entries_at after dir) ≤ greatest (listed_weight dir) (step_of current logged target datasync ∷ steps) + lost_in committed (stepped current logged target (drawn_set current logged target)) dir
  listed_other dir unlisted =
      let step = step_of current logged target datasync in
      let members = drawn_set current logged target in
      let at = λ (range : LogRange). nat_eq range.dir dir in
      let entry_at = λ (entry : LogEntry). nat_eq entry.dir dir in
      let keeps = λ (range : LogRange). not (is_gone current members range.dir) && not (is_listed current target range.dir) in
      let keeps_entry = λ (entry : LogEntry). not (is_gone current members entry.dir) && (not (is_gone current members entry.ino) && not (is_listed current target entry.dir)) in
      let new = cond (is_dir_at current target) (ranges_of committed current target) [] in
      let new_entries = cond (is_dir_at current target) (entries_in current target (ranges_of committed current target)) [] in
      let ranges_split = ap length (filter-append at (filter keeps log.ranges) new) ∙ length-append (filter at (filter keeps log.ranges)) (filter at new) in
      let entries_split = ap length (filter-append entry_at (filter keeps_entry log.entries) new_entries) ∙ length-append (filter entry_at (filter keeps_entry log.entries)) (filter entry_at new_entries) in
      elim (is_gone current members dir) as (λ b. is_gone current members dir ≡ b → length (ranges_at after dir) + length (entries_at after dir) ≤ greatest (listed_weight dir) (step ∷ steps) + lost_in committed (stepped current logged target members) dir) [
        | true ↦ λ gone. omega (arith, ranges_count dir, entries_count dir, singles_are_lost dir, ranges_split, entries_split, no_new_range dir unlisted, no_new_entry dir unlisted, kept_ranges_count dir gone, kept_entries_count dir gone)
        | false ↦ λ stays.
            let old = old_weight (listed_weight dir) step steps (greatest (listed_weight dir) steps) (omega arith) in
            let fewer = ap length (filter_swaps at keeps log.ranges) in
            let fewer_entries = ap length (filter_swaps entry_at keeps_entry log.entries) in
            omega (
              arith,
              ranges_count dir,
              entries_count dir,
              ranges_split,
              entries_split,
              no_new_range dir unlisted,
              no_new_entry dir unlisted,
              lost_and_single dir stays unlisted,
              weighed.listed dir,
              old,
              fewer,
              short_filter keeps (filter at log.ranges),
              fewer_entries,
              short_filter keeps_entry (filter entry_at log.entries),
            )
      ] refl

  fsync_listed : (dir : ℕ) → length (ranges_at after dir) + length (entries_at after dir) ≤ greatest (listed_weight dir) (step_of current logged target datasync ∷ steps) + lost_in committed (stepped current logged target (drawn_set current logged target)) dir
  fsync_listed dir =
      elim (is_listed current target dir) as (λ b. is_listed current target dir ≡ b → length (ranges_at after dir) + length (entries_at after dir) ≤ greatest (listed_weight dir) (step_of current logged target datasync ∷ steps) + lost_in committed (stepped current logged target (drawn_set current logged target)) dir) [
        | true ↦ λ t. let parts = and_parts _ _ t in listed_target dir (eqb-true dir target parts.0) parts.1
        | false ↦ listed_other dir
      ] refl

  fsync_drawn : (ino : ℕ) → is_logged after ino ≡ true → Contains (drawn_by (step_of current logged target datasync ∷ steps)) ino
  fsync_drawn ino t =
      let step = step_of current logged target datasync in
      elim (is_in (drawn_set current logged target) ino) as (λ b. is_in (drawn_set current logged target) ino ≡ b → Contains (drawn_by (step ∷ steps)) ino) [
        | true ↦ λ m. drawn_new step steps ino (ap (λ ms. is_in ms ino) members_is ∙ m)
        | false ↦ λ m. drawn_old step steps ino (weighed.drawn ino (sym (logged_other committed current logged target (drawn_set current logged target) log after are (least_set_closed current logged target true) strands written ino m) ∙ t))
      ] refl

  pub fsync_weighs : AreWeighed committed (step_of current logged target datasync ∷ steps) (stepped current logged target (drawn_set current logged target)) after
  fsync_weighs = record {
    drawn = fsync_drawn;
    members = fsync_members;
    changes = fsync_changes;
    listed = fsync_listed;
    gone = fsync_gone;
    ranges_once = written.ranges_once;
    entries_once = written.entries_once;
  }

-- ---- a step in the data form

module _ (committed current logged : Subvolume) (target : ℕ) (datasync : Bool) (steps : List MadeStep) (log after : FlatLog) (are : AreLogStep committed current logged target log) (weighed : AreWeighed committed steps logged log) (form : is_data_form logged target datasync ≡ true) (written : IsDataWritten committed current target log after) where
  had : is_there logged target ≡ true
  had = (and_parts _ _ form).1

  data_members : step_members (step_of current logged target datasync) ≡ target ∷ []
  data_members = ap (λ b. cond b (target ∷ []) (drawn_set current logged target)) form

  data_is_log : IsLogOf committed (with_data current logged target) after
  data_is_log = data_writes_log committed current logged target log after are had written

  data_in_order : is_name_set (with_data current logged target).names ≡ true
  data_in_order = ap is_name_set (data_names committed current logged target log after are had written) ∙ are.volumes.step.logged_coherent.in_order

  data_links : (ino : ℕ) → is_logged after ino ≡ true → links_of after.names ino ≡ links_of logged.names ino
  data_links ino t = log_links committed (with_data current logged target) after data_is_log data_in_order ino t ∙ ap (λ ns. links_of ns ino) (data_names committed current logged target log after are had written)

  data_member_weights : (ino : ℕ) → is_logged after ino ≡ true → 2 + links_of after.names ino ≤ greatest (member_weight ino) (step_of current logged target datasync ∷ steps)
  data_member_weights ino t =
      let step = step_of current logged target datasync in
      elim (cases_eq ino target) [
        | inl same ↦
            let weight : member_weight ino step ≡ 2 + links_of logged.names ino =
            member_weight_is step ino (ap (λ ms. is_in ms ino) data_members ∙ or_left _ _ (eq-eqb ino target same)) (ap (is_there current) same ∙ are.volumes.step.has_target) ∙ ap (λ b. 2 + links_of (cond b logged current).names ino) form in
            new_weight (member_weight ino) step steps _ (omega (arith, weight, data_links ino t))
        | inr apart ↦
            let was : is_logged log ino ≡ true = sym (logged_apart committed current logged target log after are had written ino apart) ∙ t in
            let before = log_links committed logged log are.is_log are.volumes.step.logged_coherent.in_order ino was in
            old_weight (member_weight ino) step steps _ (omega (arith, before, data_links ino t, weighed.members ino was))
      ]

  data_changes : (ino : ℕ) → change_count (get after.whole ino) ≤ greatest (target_weight ino) (step_of current logged target datasync ∷ steps)
  data_changes ino =
      let step = step_of current logged target datasync in
      elim (cases_eq ino target) [
        | inl same ↦
            let has = written.has_target in
            let count = whole_count (get committed.inodes target) has.inode has.whole has.changes in
            let is : get after.whole ino ≡ Some has.whole = ap (get after.whole) same ∙ has.logged in
            let weight : target_weight ino step ≡ record_weight (Some has.inode) = ap (λ b. cond b (record_weight (get current.inodes ino)) 0) (eq-eqb ino target same) ∙ ap record_weight (ap (get current.inodes) same ∙ has.there) in
            new_weight (target_weight ino) step steps _ (omega (arith, count, ap change_count is, weight))
        | inr apart ↦ old_weight (target_weight ino) step steps _ (omega (arith, ap change_count (written.whole ino apart), weighed.changes ino))
      ]

  lost_same : (dir : ℕ) → lost_in committed (with_data current logged target) dir ≡ lost_in committed logged dir
  lost_same dir =
      ap (λ ns. length (filter (stands_in dir) ns)) (filter_agree (λ (name : FlatName). not (is_there (with_data current logged target) name.ino)) (λ name. not (is_there logged name.ino)) (λ name. ap not (data_there committed current logged target log after are had written name.ino)) committed.names)

  data_listed : (dir : ℕ) → length (ranges_at after dir) + length (entries_at after dir) ≤ greatest (listed_weight dir) (step_of current logged target datasync ∷ steps) + lost_in committed (with_data current logged target) dir
  data_listed dir =
      let at = λ (range : LogRange). nat_eq range.dir dir in
      let entry_at = λ (entry : LogEntry). nat_eq entry.dir dir in
      let ranges = length_within (filter at after.ranges) (filter at log.ranges) (distinct_filter at after.ranges written.ranges_once)
      (λ range c. let found = filter_contains at after.ranges range c in contains_filter at log.ranges range found.1 ((written.ranges range).0 found.0)) in
      let entries = length_within (filter entry_at after.entries) (filter entry_at log.entries) (distinct_filter entry_at after.entries written.entries_once)
      (λ entry c. let found = filter_contains entry_at after.entries entry c in contains_filter entry_at log.entries entry found.1 ((written.entries entry).0 found.0)) in
      let old = old_weight (listed_weight dir) (step_of current logged target datasync) steps (greatest (listed_weight dir) steps) (omega arith) in
      omega (arith, ranges, entries, weighed.listed dir, lost_same dir, old)

  pub data_weighs : AreWeighed committed (step_of current logged target datasync ∷ steps) (with_data current logged target) after
  data_weighs = record {
    drawn = λ ino t. elim (cases_eq ino target) [
      | inl same ↦ drawn_new (step_of current logged target datasync) steps ino (ap (λ ms. is_in ms ino) data_members ∙ or_left _ _ (eq-eqb ino target same))
      | inr apart ↦ drawn_old (step_of current logged target datasync) steps ino (weighed.drawn ino (sym (logged_apart committed current logged target log after are had written ino apart) ∙ t))
    ];
    members = data_member_weights;
    changes = data_changes;
    listed = data_listed;
    gone = λ name c absent.
        let old = weighed.gone name c (sym (data_there committed current logged target log after are had written name.ino) ∙ absent) in
        (drawn_old (step_of current logged target datasync) steps name.ino old.0, old_weight (gone_weight committed name.ino) (step_of current logged target datasync) steps _ old.1);
    ranges_once = written.ranges_once;
    entries_once = written.entries_once;
  }

-- ---- all steps since the last full commit

empty_weighs : (committed : Subvolume) → IsCoherent committed → AreWeighed committed [] committed empty_log
empty_weighs committed coherent = record {
  drawn = λ ino t. absurd (true≢false (sym t ∙ none_logged ino));
  members = λ ino t. absurd (true≢false (sym t ∙ none_logged ino));
  changes = λ ino. omega (arith, ap change_count (get-empty {X = WholeInode} nat_cmp ino));
  listed = λ dir. omega arith;
  gone = λ name c absent. absurd (let found = coherent.leads_to_inode name c in true≢false (sym (there_from committed name.ino found.0 found.1) ∙ absent));
  ranges_once = tt;
  entries_once = tt;
}
  where
    none_logged : (ino : ℕ) → is_logged empty_log ino ≡ false
    none_logged ino = Rattle.std.proofs.lemmas.Bool.or_from _ _ (ap is_some (get-empty {X = WholeInode} nat_cmp ino)) (ap is_some (get-empty {X = InodeRecord} nat_cmp ino))

step_weighs : (committed : Subvolume) (step : MadeStep) (steps : List MadeStep) (log after : FlatLog) (room : RoomNumbers) → AreLogStep committed step.current step.logged step.target log → AreWeighed committed steps step.logged log → commit_reason step.current step.logged step.target step.datasync room ≡ None → IsWritten committed step.current step.logged step.target step.datasync log after → AreWeighed committed (step ∷ steps) (log_step step.current step.logged step.target step.datasync) after
step_weighs committed step steps log after room are weighed none written =
    let current = step.current in
    let logged = step.logged in
    let target = step.target in
    elim (is_data_form logged target step.datasync) as (λ b. is_data_form logged target step.datasync ≡ b →
    MatchBool b (IsDataWritten committed current target log after) (IsFsyncWritten committed current logged target (drawn_set current logged target) (cond b (with_data current logged target) (stepped current logged target (drawn_set current logged target))) log after)
    → AreWeighed committed (step ∷ steps) (cond b (with_data current logged target) (stepped current logged target (drawn_set current logged target))) after) [
      | true ↦ λ t w. data_weighs committed current logged target step.datasync steps log after are weighed t w
      | false ↦ λ f w. fsync_weighs committed current logged target step.datasync steps log after are weighed f (strands_none current logged target step.datasync room are.volumes.step none f) w
    ] refl written

-- a step more, drawn or not, bounds what the steps before it bound
one_more : (committed : Subvolume) (step : MadeStep) (steps : List MadeStep) (logged : Subvolume) (log : FlatLog) → AreWeighed committed steps logged log → AreWeighed committed (step ∷ steps) logged log
one_more committed step steps logged log weighed = record {
  drawn = λ ino t. drawn_old step steps ino (weighed.drawn ino t);
  members = λ ino t. old_weight (member_weight ino) step steps _ (weighed.members ino t);
  changes = λ ino. old_weight (target_weight ino) step steps _ (weighed.changes ino);
  listed = λ dir. let old = old_weight (listed_weight dir) step steps (greatest (listed_weight dir) steps) (omega arith) in omega (arith, weighed.listed dir, old);
  gone = λ name c absent. let old = weighed.gone name c absent in (drawn_old step steps name.ino old.0, old_weight (gone_weight committed name.ino) step steps _ old.1);
  ranges_once = weighed.ranges_once;
  entries_once = weighed.entries_once;
}

-- what holds after all steps since the last full commit
pub made_holds : (committed : Subvolume) (steps : List MadeStep) (logged : Subvolume) (log : FlatLog) → AreMade committed steps logged log → IsLogOf committed logged log × AreWeighed committed steps logged log
made_holds committed [] logged log made =
    let log_is = empty_is_log committed made.0 in
    let weighs = empty_weighs committed made.0 in (
      subst (λ l. IsLogOf committed l log) (sym made.1) (subst (IsLogOf committed committed) (sym made.2) log_is),
      subst (λ l. AreWeighed committed [] l log) (sym made.1) (subst (AreWeighed committed [] committed) (sym made.2) weighs),
    )
made_holds committed (step ∷ steps) logged log made =
    let before = made.0 in
    let old = made_holds committed steps step.logged before made.1 in
    let are : AreLogStep committed step.current step.logged step.target before = record { volumes = made.2; is_log = old.0 } in
    elim made.3 [
      | inl now ↦ (
        subst (λ l. IsLogOf committed l log) (sym now.leaves) (step_writes_log committed step.current step.logged step.target step.datasync now.room before log are now.no_reason now.written),
        subst (λ l. AreWeighed committed (step ∷ steps) l log) (sym now.leaves) (step_weighs committed step steps before log now.room are old.1 now.no_reason now.written),
      )
      | inr idle ↦ (
        subst (λ l. IsLogOf committed l log) (sym idle.logged_stays) (subst (IsLogOf committed step.logged) (sym idle.log_stays) old.0),
        subst (λ l. AreWeighed committed (step ∷ steps) l log) (sym idle.logged_stays) (subst (AreWeighed committed (step ∷ steps) step.logged) (sym idle.log_stays) (one_more committed step steps step.logged before old.1)),
      )
    ]

pub made_coherent : (committed : Subvolume) (steps : List MadeStep) (logged : Subvolume) (log : FlatLog) → AreMade committed steps logged log → IsCoherent logged
made_coherent committed [] logged log made = subst IsCoherent (sym made.1) made.0
made_coherent committed (step ∷ steps) logged log made = elim made.3 [
  | inl now ↦ subst IsCoherent (sym now.leaves) (Rattle.logged_volume.proofs.BothForms.step_coherent step.current step.logged step.target step.datasync now.room made.2.step now.no_reason).coherent
  | inr idle ↦ subst IsCoherent (sym idle.logged_stays) made.2.step.logged_coherent
]

pub made_weight : (committed : Subvolume) (steps : List MadeStep) (logged : Subvolume) (log : FlatLog) → AreMade committed steps logged log → item_count log ≤ weight_of committed steps
made_weight committed steps logged log made =
    let holds = made_holds committed steps logged log made in
    items_weigh committed steps logged log holds.0 holds.1 (λ step c. target_in_members step)
