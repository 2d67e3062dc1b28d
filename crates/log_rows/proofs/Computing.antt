-- Drawn sets, rules, log steps and logs of subvolumes that are made of entries, computed from the entries.
use Rattle.std.proofs.Common.{◌≡◌, ◌&&◌, ◌||◌, ◌++◌, ℕ, Bool, true, false, not, cond, is_some, List, [], Option, Some, None, nat_cmp, nat_eq, nat_lt, filter, map, length, ap, ◌∙◌}
use Rattle.std.specs.Option.{unwrap_or, option_map}
use Rattle.std.specs.List.{list_any}
use Rattle.std.specs.Cmp.{nat_cmp_total}
use Rattle.std.specs.FinMap.{get, insert, find, empty, from_entries, get-empty, get-from_entries}
use Rattle.flat_model.specs.declared.answer.Reason.{Reason}
use Rattle.flat_model.specs.declared.answer.Reason.TheVariants.{Conflicts, GoneDir}
use Rattle.flat_model.specs.Records.{InodeRecord, at_creation}
use Rattle.flat_model.specs.Names.{FlatName, name_set, stands_in}
use Rattle.flat_model.specs.Volume.{Subvolume, is_dir_there}
use Rattle.logged_volume.specs.Numbers.{is_in, reached}
use Rattle.logged_volume.specs.Agreement.{is_there, do_names_differ}
use Rattle.logged_volume.specs.Drawn.{dirs_above, is_parent, is_in_slots_of, all_numbers, least_set, drawn_set, conflicts_of, first_of}
use Rattle.logged_volume.specs.Rules.{RoomNumbers, room_reason, commit_reason}
use Rattle.logged_volume.specs.LogStep.{stepped, with_data, log_step}
use Rattle.logged_volume.specs.FlatLog.{WholeInode, LogRange, LogEntry, FlatLog, is_covered}
use Rattle.logged_volume.specs.Replay.{replay, names_left}
use Rattle.logged_volume.proofs.Replays.{replay_names}
use Rattle.logged_volume.specs.Written.{ranges_of, entries_in}
use Rattle.logged_volume.proofs.Stepped.{stepped_inode}
use Rattle.log_rows.specs.Rows.{with}
use Rattle.log_rows.proofs.StepLogs.{step_has_log}
use Rattle.log_rows.specs.Written.{each_once, is_same_range, is_same_entry, written_log}

pub gets : (inodes : List (ℕ × InodeRecord)) (ino : ℕ) → get (from_entries {R = nat_cmp} inodes) ino ≡ find nat_cmp ino inodes
gets inodes ino = get-from_entries nat_cmp_total inodes ino

abbrev pub there_by : List (ℕ × InodeRecord) → ℕ → Bool
there_by inodes ino = is_some (find nat_cmp ino inodes)

-- F with these inodes and names, and R with those
module _ (here : List (ℕ × InodeRecord)) (names : List FlatName) (there : List (ℕ × InodeRecord)) (others : List FlatName) (target : ℕ) where
  abbrev pub least_by : Bool → List ℕ
  least_by slots =
      reached (all_numbers (with here names) (with there others) target)
      (λ member ino. there_by here member
      && ((is_in (dirs_above names member) ino && (do_names_differ (with here names) (with there others) ino || not (there_by there ino)))
      || (slots && is_in_slots_of (with here names) (with there others) member ino)))
      (λ ino. nat_eq ino target
      || (is_dir_there (find nat_cmp target here)
      && (do_names_differ (with here names) (with there others) ino && (is_parent names ino target || is_parent others ino target))))

  pub least_is : (slots : Bool) → least_set (with here names) (with there others) target slots ≡ least_by slots
  unfolding least_set
  least_is slots =
      λ i. reached (all_numbers (with here names) (with there others) target)
      (λ member ino. is_some (gets here member i)
      && ((is_in (dirs_above names member) ino && (do_names_differ (with here names) (with there others) ino || not (is_some (gets there ino i))))
      || (slots && is_in_slots_of (with here names) (with there others) member ino)))
      (λ ino. nat_eq ino target
      || (is_dir_there (gets here target i)
      && (do_names_differ (with here names) (with there others) ino && (is_parent names ino target || is_parent others ino target))))

  pub conflicts_are : conflicts_of (with here names) (with there others) target false ≡ filter (λ ino. not (is_in (least_by false) ino)) (least_by true)
  conflicts_are = λ i. filter (λ ino. not (is_in (least_is false i) ino)) (least_is true i)

  abbrev pub stranded_by : List ℕ → Option ℕ
  stranded_by members =
      first_of (filter (λ ino. not (there_by here ino) && (is_dir_there (find nat_cmp ino there) && list_any (λ name. stands_in ino name && not (is_in members name.ino)) others)) members)

  abbrev pub conflicts_by : List ℕ → List ℕ → ℕ
  conflicts_by members fewer = length (filter (λ ino. not (is_in fewer ino)) members)

  abbrev pub reason_by : RoomNumbers → Option Reason
  reason_by room =
      cond (nat_lt 10 (conflicts_by (least_by true) (least_by false))) (Some (Conflicts (conflicts_by (least_by true) (least_by false))))
      (elim (stranded_by (least_by true)) [ None ↦ room_reason room | Some dir ↦ Some (GoneDir (record { 0 = dir })) ])

  pub reason_is : (room : RoomNumbers) → commit_reason (with here names) (with there others) target false room ≡ reason_by room
  reason_is room =
      λ i. cond (nat_lt 10 (conflicts_by (least_is true i) (least_is false i))) (Some (Conflicts (conflicts_by (least_is true i) (least_is false i))))
      (elim (first_of (filter (λ ino. not (is_some (gets here ino i)) && (is_dir_there (gets there ino i) && list_any (λ name. stands_in ino name && not (is_in (least_is true i) name.ino)) others)) (least_is true i)))
      [ None ↦ room_reason room | Some dir ↦ Some (GoneDir (record { 0 = dir })) ])

  -- ---- R after the step

  abbrev pub names_by : List ℕ → List FlatName
  names_by members = name_set (filter (λ name. is_in members name.ino) names ++ filter (λ name. not (is_in members name.ino)) others)

  pub names_are : (log_step (with here names) (with there others) target false).names ≡ names_by (least_by true)
  unfolding stepped
  names_are = λ i. names_by (least_is true i)

  abbrev pub record_by : List ℕ → ℕ → Option InodeRecord → Option InodeRecord → Option InodeRecord
  record_by members ino now was =
      cond (is_in members ino) (elim now [ None ↦ None | Some inode ↦ Some (cond (nat_eq ino target) inode (unwrap_or was (at_creation inode))) ]) was

  pub record_is : (ino : ℕ) → get (log_step (with here names) (with there others) target false).inodes ino ≡ record_by (least_by true) ino (find nat_cmp ino here) (find nat_cmp ino there)
  record_is ino =
      stepped_inode (with here names) (with there others) target (drawn_set (with here names) (with there others) target) ino
      ∙ (λ i. record_by (least_is true i) ino (gets here ino i) (gets there ino i))

  -- ---- R after the data form of a step

  pub data_step : (was inode : InodeRecord) → find nat_cmp target there ≡ Some was → find nat_cmp target here ≡ Some inode
      → log_step (with here names) (with there others) target true ≡ record (with there others) { inodes = insert (with there others).inodes target inode }
  unfolding with_data
  data_step was inode has now =
      let had : is_there (with there others) target ≡ true = ap is_some (gets there target ∙ has) in
      (λ i. cond (had i) (with_data (with here names) (with there others) target) (stepped (with here names) (with there others) target (drawn_set (with here names) (with there others) target)))
      ∙ (λ i. elim ((gets here target ∙ now) i) as (λ r. Subvolume) [ None ↦ with there others | Some inode ↦ record (with there others) { inodes = insert (with there others).inodes target inode } ])

  -- ---- the log of the step, over C with these inodes and names

  module _ (had : List (ℕ × InodeRecord)) (were : List FlatName) (log : FlatLog) where
    abbrev listed_by : List ℕ → List LogRange
    listed_by members =
        filter (λ range. not (is_in members range.dir && not (there_by here range.dir)) && not (nat_eq range.dir target && is_dir_there (find nat_cmp target here))) log.ranges
        ++ cond (is_dir_there (find nat_cmp target here)) (ranges_of (with had were) (with here names) target) []

    abbrev pub ranges_by : List LogRange
    ranges_by =
        each_once is_same_range
        (listed_by (least_by true) ++ map (λ (name : FlatName). record { dir = name.dir; first = name.index; last = name.index })
        (filter (λ name. not (is_some (record_by (least_by true) name.ino (find nat_cmp name.ino here) (find nat_cmp name.ino there))) && not (is_covered (listed_by (least_by true)) name.dir name.index)) were))

    abbrev listed_at : List ℕ → (ℕ → Bool) → Bool → List LogRange
    listed_at members is_here is_dir =
        filter (λ range. not (is_in members range.dir && not (is_here range.dir)) && not (nat_eq range.dir target && is_dir)) log.ranges
        ++ cond is_dir (ranges_of (with had were) (with here names) target) []

    pub ranges_are : (written_log (with had were) (with here names) (with there others) target false log).ranges ≡ ranges_by
    unfolding written_log
    ranges_are =
        λ i. each_once is_same_range
        (listed_at (least_is true i) (λ ino. is_some (gets here ino i)) (is_dir_there (gets here target i))
        ++ map (λ (name : FlatName). record { dir = name.dir; first = name.index; last = name.index })
        (filter (λ name. not (is_some (record_is name.ino i)) && not (is_covered (listed_at (least_is true i) (λ ino. is_some (gets here ino i)) (is_dir_there (gets here target i))) name.dir name.index)) were))

    pub entries_are : (written_log (with had were) (with here names) (with there others) target false log).entries
        ≡ each_once is_same_entry
        (filter (λ entry. not (is_in (least_by true) entry.dir && not (there_by here entry.dir)) && (not (is_in (least_by true) entry.ino && not (there_by here entry.ino)) && not (nat_eq entry.dir target && is_dir_there (find nat_cmp target here)))) log.entries
        ++ cond (is_dir_there (find nat_cmp target here)) (entries_in (with here names) target (ranges_of (with had were) (with here names) target)) [])
    unfolding written_log
    entries_are =
        λ i. each_once is_same_entry
        (filter (λ (entry : LogEntry). not (is_in (least_is true i) entry.dir && not (is_some (gets here entry.dir i))) && (not (is_in (least_is true i) entry.ino && not (is_some (gets here entry.ino i))) && not (nat_eq entry.dir target && is_dir_there (gets here target i)))) log.entries
        ++ cond (is_dir_there (gets here target i)) (entries_in (with here names) target (ranges_of (with had were) (with here names) target)) [])

    -- what the log has of an inode other than the target
    pub whole_is : (ino : ℕ) → (ino ≡ target → ⊥) → there_by here target ≡ true
        → get (written_log (with had were) (with here names) (with there others) target false log).whole ino ≡ cond (is_in (least_by true) ino && not (there_by here ino)) None (get log.whole ino)
    whole_is ino other is =
        (step_has_log (with had were) (with here names) (with there others) target false log (ap is_some (gets here target) ∙ is)).whole ino other
        ∙ (λ i. cond (is_in (least_is true i) ino && not (is_some (gets here ino i))) None (get log.whole ino))

    pub existing_is : (ino : ℕ) → there_by here target ≡ true
        → get (written_log (with had were) (with here names) (with there others) target false log).existing ino
        ≡ cond (nat_eq ino target) None (cond (is_in (least_by true) ino && not (is_some (get log.whole ino))) (option_map at_creation (find nat_cmp ino here)) (get log.existing ino))
    existing_is ino is =
        (step_has_log (with had were) (with here names) (with there others) target false log (ap is_some (gets here target) ∙ is)).existing ino
        ∙ (λ i. cond (nat_eq ino target) None (cond (is_in (least_is true i) ino && not (is_some (get log.whole ino))) (option_map at_creation (gets here ino i)) (get log.existing ino)))

-- ---- replay of a log with these whole inodes, names and ranges, and no entries

pub replayed_is : (had : List (ℕ × InodeRecord)) (were : List FlatName) (whole : List (ℕ × WholeInode)) (names : List FlatName) (ranges : List LogRange)
    → (replay (with had were) (record { whole = from_entries whole; existing = empty; names = names; ranges = ranges; entries = [] })).names
    ≡ name_set (names ++ filter (λ name. not (is_covered ranges name.dir name.index && not false) && not (is_some (find nat_cmp name.ino whole) || false)) were)
unfolding names_left
replayed_is had were whole names ranges =
    replay_names (with had were) (record { whole = from_entries whole; existing = empty; names = names; ranges = ranges; entries = [] })
    ∙ (λ i. name_set (names ++ filter (λ name. not (is_covered ranges name.dir name.index && not false)
    && not (is_some (get-from_entries {R = nat_cmp} nat_cmp_total whole name.ino i) || is_some (get-empty {X = InodeRecord} nat_cmp name.ino i))) were))
