-- What an fsync writes into a log says what the step leaves of R.
use Rattle.std.proofs.Common.{◌≡◌, ℕ, ◌-◌, ◌^◌, Bool, true, false, cond, not, ◌&&◌, ◌||◌, List, [], ◌++◌, map, Option, Some, None, refl, sym, ap, subst, ◌∙◌, arith, inl, inr, ◌⊎◌}
use Rattle.std.specs.Bool.{nat_eq}
use Rattle.std.specs.Option.{is_some, unwrap_or, option_map}
use Rattle.std.specs.List.{Contains, filter}
use Rattle.std.specs.FinMap.{get}
use Rattle.std.proofs.lemmas.Bool.{true≢false, or_cases, or_left, or_right, or_parts, or_from, and_parts, and_from, and_left, eqb-true, eq-eqb, ne_eqb, not-true, not_from_false, cases_eq, cases_Bool, false_from_ne_true, true_from_ne_false}
use Rattle.std.proofs.lemmas.List.Elements.{Contains-append_left, Contains-append_right, Contains-append_cases}
use Rattle.flat_model.specs.Records.{InodeRecord, at_creation}
use Rattle.flat_model.specs.Names.{FlatName, is_name_set, stands_in}
use Rattle.flat_model.specs.Volume.{Subvolume, is_dir_at}
use Rattle.flat_model.proofs.Lists.{contains_filter, filter_contains}
use Rattle.flat_model.proofs.Maps.{some_same, some_none}
use Rattle.flat_model.proofs.Ways.{bytes_eq_same}
use Rattle.logged_volume.specs.Numbers.{is_in, gaps_with}
use Rattle.logged_volume.specs.Agreement.{is_there, is_same_unmarked, has_unmarked, do_names_differ}
use Rattle.logged_volume.specs.Drawn.{is_parent, IsClosed}
use Rattle.logged_volume.specs.LogStep.{member_record, stepped}
use Rattle.logged_volume.specs.FlatLog.{WholeInode, LogRange, LogEntry, FlatLog, is_logged, is_covered, is_dropped, entry_of}
use Rattle.logged_volume.specs.Written.{unchanged_indexes, all_indexes, ranges_of, entries_in, is_gone, is_listed, listed_ranges, IsFsyncWritten, IsWholeOf}
use Rattle.logged_volume.specs.Standing.{StandsWhole, StandsExisting, IsLogOf, AreLogStep}
use Rattle.logged_volume.proofs.Members.{any_from, name_set_has, name_set_gives, is_set_name_set}
use Rattle.logged_volume.proofs.LeastSets.{parent_from}
use Rattle.logged_volume.proofs.Gaps.{map_has, map_gives, gaps_with_lacks}
use Rattle.logged_volume.proofs.Wholes.{creation_twice}
use Rattle.logged_volume.proofs.Covers.{Covers, covered_gives, dropped_gives, dropped_from}
use Rattle.logged_volume.proofs.Stepped.{there_gives, there_from, absent_gives, same_names_here, same_names_there, stepped_cases, stepped_has, stepped_keeps, stepped_inode, other_inode, member_there}
use Rattle.logged_volume.proofs.StepCoherence.{StrandsNone, stepped_coherent}

some_given : {A : Type 0} (o : Option A) → is_some o ≡ true → (x : A) × (o ≡ Some x)
some_given None t = absurd (true≢false (sym t))
some_given (Some x) t = (x, refl)

none_given : {A : Type 0} (o : Option A) → is_some o ≡ false → o ≡ None
none_given None f = refl
none_given (Some x) f = absurd (true≢false f)

module _ (committed current logged : Subvolume) (target : ℕ) (members : List ℕ) (log after : FlatLog) (are : AreLogStep committed current logged target log) (closed : IsClosed current logged target true (is_in members)) (strands : StrandsNone current logged members) (written : IsFsyncWritten committed current logged target members (stepped current logged target members) log after) where
  pub target_is_member : is_in members target ≡ true
  target_is_member = closed.first target (or_left _ _ (eq-eqb target target refl))

  -- ---- which inodes the log has

  pub gone_is : (ino : ℕ) → is_in members ino ≡ true → is_there current ino ≡ false → is_gone current members ino ≡ true
  gone_is ino m absent = and_from _ _ m (not_from_false _ absent)

  not_gone_member : (ino : ℕ) → is_there current ino ≡ true → is_gone current members ino ≡ false
  not_gone_member ino there = Rattle.std.proofs.lemmas.Bool.and_right (is_in members ino) _ (ap not there)

  pub not_gone_other : (ino : ℕ) → is_in members ino ≡ false → is_gone current members ino ≡ false
  not_gone_other ino m = and_left _ _ m

  pub whole_kept : (ino : ℕ) → (ino ≡ target → ⊥) → is_gone current members ino ≡ false → get after.whole ino ≡ get log.whole ino
  whole_kept ino apart f = written.whole ino apart ∙ ap (λ b. cond b None (get log.whole ino)) f

  existing_other : (ino : ℕ) → is_in members ino ≡ false → get after.existing ino ≡ get log.existing ino
  existing_other ino m =
      let apart : ino ≡ target → ⊥ = λ same. true≢false (sym target_is_member ∙ ap (is_in members) (sym same) ∙ m) in
      written.existing ino ∙ ap (λ b. cond b None (cond (is_in members ino && not (is_some (get log.whole ino))) (option_map at_creation (get current.inodes ino)) (get log.existing ino))) (ne_eqb ino target apart)
      ∙ ap (λ b. cond (b && not (is_some (get log.whole ino))) (option_map at_creation (get current.inodes ino)) (get log.existing ino)) m

  existing_member : (ino : ℕ) → (ino ≡ target → ⊥) → is_in members ino ≡ true → get log.whole ino ≡ None → get after.existing ino ≡ option_map at_creation (get current.inodes ino)
  existing_member ino apart m not_whole =
      written.existing ino ∙ ap (λ b. cond b None (cond (is_in members ino && not (is_some (get log.whole ino))) (option_map at_creation (get current.inodes ino)) (get log.existing ino))) (ne_eqb ino target apart)
      ∙ ap (λ b. cond b (option_map at_creation (get current.inodes ino)) (get log.existing ino)) (and_from _ _ m (not_from_false _ (ap is_some not_whole)))

  existing_whole : (ino : ℕ) (whole : WholeInode) → get log.whole ino ≡ Some whole → get after.existing ino ≡ None
  existing_whole ino whole at =
      elim (nat_eq ino target) as (λ b. nat_eq ino target ≡ b → get after.existing ino ≡ None) [
        | true ↦ λ t. written.existing ino ∙ ap (λ b. cond b None (cond (is_in members ino && not (is_some (get log.whole ino))) (option_map at_creation (get current.inodes ino)) (get log.existing ino))) t
        | false ↦ λ f.
            written.existing ino ∙ ap (λ b. cond b None (cond (is_in members ino && not (is_some (get log.whole ino))) (option_map at_creation (get current.inodes ino)) (get log.existing ino))) f
            ∙ ap (λ b. cond b (option_map at_creation (get current.inodes ino)) (get log.existing ino)) (Rattle.std.proofs.lemmas.Bool.and_right (is_in members ino) _ (ap (λ o. not (is_some o)) at))
            ∙ are.is_log.one_item ino whole at
      ] refl

  pub logged_other : (ino : ℕ) → is_in members ino ≡ false → is_logged after ino ≡ is_logged log ino
  logged_other ino m =
      let apart : ino ≡ target → ⊥ = λ same. true≢false (sym target_is_member ∙ ap (is_in members) (sym same) ∙ m) in
      let wholes = whole_kept ino apart (not_gone_other ino m) in
      let existings = existing_other ino m in
      λ i. is_some (wholes i) || is_some (existings i)

  pub logged_gone : (ino : ℕ) → is_in members ino ≡ true → is_there current ino ≡ false → is_logged after ino ≡ false
  logged_gone ino m absent =
      let apart : ino ≡ target → ⊥ = λ same. true≢false (sym are.volumes.step.has_target ∙ ap (is_there current) (sym same) ∙ absent) in
      or_from _ _
      (ap is_some (written.whole ino apart ∙ ap (λ b. cond b None (get log.whole ino)) (gone_is ino m absent)))
      (elim (get log.whole ino) as (λ o. get log.whole ino ≡ o → is_some (get after.existing ino) ≡ false) [
        | None ↦ λ none. ap is_some (existing_member ino apart m none ∙ ap (option_map at_creation) (absent_gives current ino absent))
        | Some whole ↦ λ at. ap is_some (existing_whole ino whole at)
      ] refl)

  pub logged_member : (ino : ℕ) → is_in members ino ≡ true → is_there current ino ≡ true → is_logged after ino ≡ true
  logged_member ino m there =
      elim (cases_eq ino target) [
        | inl same ↦ or_left _ _ (ap is_some (ap (get after.whole) same ∙ written.has_target.logged))
        | inr apart ↦ elim (get log.whole ino) as (λ o. get log.whole ino ≡ o → is_logged after ino ≡ true) [
          | Some whole ↦ λ at. or_left _ _ (ap is_some (whole_kept ino apart (not_gone_member ino there) ∙ at))
          | None ↦ λ none.
              let now = there_gives current ino there in
              or_right (is_some (get after.whole ino)) _ (ap is_some (existing_member ino apart m none ∙ ap (option_map at_creation) now.1))
        ] refl
      ]

  -- ---- records after the step

  next : Subvolume
  next = stepped current logged target members

  target_record : (now : InodeRecord) → get current.inodes target ≡ Some now → get (stepped current logged target members).inodes target ≡ Some now
  target_record now found =
      stepped_inode current logged target members target
      ∙ ap (λ b. cond b (member_record current logged target target) (get logged.inodes target)) target_is_member
      ∙ ap (λ o. elim o [ None ↦ None | Some now ↦ Some (cond (nat_eq target target) now (unwrap_or (get logged.inodes target) (at_creation now))) ]) found
      ∙ ap (λ b. Some (cond b now (unwrap_or (get logged.inodes target) (at_creation now)))) (eq-eqb target target refl)

  member_record_is : (ino : ℕ) (now : InodeRecord) → (ino ≡ target → ⊥) → is_in members ino ≡ true → get current.inodes ino ≡ Some now → get (stepped current logged target members).inodes ino ≡ Some (unwrap_or (get logged.inodes ino) (at_creation now))
  member_record_is ino now apart m found =
      stepped_inode current logged target members ino
      ∙ ap (λ b. cond b (member_record current logged target ino) (get logged.inodes ino)) m
      ∙ ap (λ o. elim o [ None ↦ None | Some now ↦ Some (cond (nat_eq ino target) now (unwrap_or (get logged.inodes ino) (at_creation now))) ]) found
      ∙ ap (λ b. Some (cond b now (unwrap_or (get logged.inodes ino) (at_creation now)))) (ne_eqb ino target apart)

  pub gone_record : (ino : ℕ) → is_in members ino ≡ true → is_there current ino ≡ false → is_there (stepped current logged target members) ino ≡ false
  gone_record ino m absent =
      ap is_some (stepped_inode current logged target members ino
      ∙ ap (λ b. cond b (member_record current logged target ino) (get logged.inodes ino)) m
      ∙ ap (λ o. elim o [ None ↦ None | Some now ↦ Some (cond (nat_eq ino target) now (unwrap_or (get logged.inodes ino) (at_creation now))) ]) (absent_gives current ino absent))

  -- an inode of R that isn't the target and isn't gone keeps its record
  kept_record : (ino : ℕ) (inode : InodeRecord) → (ino ≡ target → ⊥) → is_gone current members ino ≡ false → get logged.inodes ino ≡ Some inode → get (stepped current logged target members).inodes ino ≡ Some inode
  kept_record ino inode apart stays there =
      elim (is_in members ino) as (λ b. is_in members ino ≡ b → get (stepped current logged target members).inodes ino ≡ Some inode) [
        | false ↦ λ m. other_inode current logged target members ino m ∙ there
        | true ↦ λ m. elim (is_there current ino) as (λ b. is_there current ino ≡ b → get (stepped current logged target members).inodes ino ≡ Some inode) [
          | false ↦ λ absent. absurd (true≢false (sym (gone_is ino m absent) ∙ stays))
          | true ↦ λ here.
              let now = there_gives current ino here in
              member_record_is ino now.0 apart m now.1 ∙ ap (λ o. Some (unwrap_or o (at_creation now.0))) there
        ] refl
      ] refl

  pub present_is_there : (ino : ℕ) → is_in members ino ≡ true → is_there current ino ≡ true → is_there (stepped current logged target members) ino ≡ true
  present_is_there ino m there =
      let now = there_gives current ino there in
      let is = member_there current logged target members ino now.0 m now.1 in
      there_from (stepped current logged target members) ino is.0 is.1.is

  -- a member that the log doesn't have after the step is gone, and so R lacks it
  unlogged_member : (ino : ℕ) → is_in members ino ≡ true → is_logged after ino ≡ false → is_there current ino ≡ false
  unlogged_member ino m f = false_from_ne_true _ (λ there. true≢false (sym (logged_member ino m there) ∙ f))

  name_here : (name : FlatName) → Contains current.names name → is_there current name.ino ≡ true
  name_here name c = let found = are.volumes.step.current_coherent.leads_to_inode name c in there_from current name.ino found.0 found.1

  pub name_next : (name : FlatName) → Contains (stepped current logged target members).names name → is_there (stepped current logged target members) name.ino ≡ true
  name_next name c =
      let found = (stepped_coherent current logged target members are.volumes.step closed strands).leads_to_inode name c in
      there_from (stepped current logged target members) name.ino found.0 found.1

  -- ---- inodes of the log

  stands_whole : (ino : ℕ) (whole : WholeInode) → get after.whole ino ≡ Some whole → StandsWhole committed (stepped current logged target members) ino whole
  stands_whole ino whole at =
      elim (cases_eq ino target) [
        | inl same ↦
            let has = written.has_target in
            let whole_is : has.whole ≡ whole = some_same has.whole whole (sym has.logged ∙ ap (get after.whole) (sym same) ∙ at) in
            let found : get committed.inodes target ≡ get committed.inodes ino = ap (get committed.inodes) (sym same) in
            record {
              inode = has.inode;
              there = ap (get (stepped current logged target members).inodes) same ∙ target_record has.inode has.there;
              changes = subst (λ w. IsWholeOf (get committed.inodes ino) has.inode w) whole_is (subst (λ o. IsWholeOf o has.inode has.whole) found has.changes);
            }
        | inr apart ↦
            elim (is_gone current members ino) as (λ b. is_gone current members ino ≡ b → StandsWhole committed (stepped current logged target members) ino whole) [
              | true ↦ λ gone. absurd (some_none whole (sym at ∙ written.whole ino apart ∙ ap (λ b. cond b None (get log.whole ino)) gone))
              | false ↦ λ stays.
                  let stands = are.is_log.whole ino whole (sym (whole_kept ino apart stays) ∙ at) in
                  record { inode = stands.inode; there = kept_record ino stands.inode apart stays stands.there; changes = stands.changes }
            ] refl
      ]

  -- the record of an inode of R that isn't whole in the log is C's, or the one at creation
  not_whole_record : (ino : ℕ) (inode : InodeRecord) → get log.whole ino ≡ None → get logged.inodes ino ≡ Some inode → (get committed.inodes ino ≡ Some inode) ⊎ ((get committed.inodes ino ≡ None) × (inode ≡ at_creation inode))
  not_whole_record ino inode not_whole there =
      elim (get log.existing ino) as (λ o. get log.existing ino ≡ o → (get committed.inodes ino ≡ Some inode) ⊎ ((get committed.inodes ino ≡ None) × (inode ≡ at_creation inode))) [
        | None ↦ λ none.
            let other : is_logged log ino ≡ false = or_from _ _ (ap is_some not_whole) (ap is_some none) in
            inl (sym (are.is_log.other_inodes ino other (there_from logged ino inode there)) ∙ there)
        | Some made ↦ λ at.
            let stands = are.is_log.existing ino made at in
            let inode_is : stands.inode ≡ inode = some_same stands.inode inode (sym stands.there ∙ there) in
            elim (get committed.inodes ino) as (λ o. inode ≡ unwrap_or o made → (o ≡ Some inode) ⊎ ((o ≡ None) × (inode ≡ at_creation inode))) [
              | Some was ↦ λ e. inl (ap Some (sym e))
              | None ↦ λ e. inr (refl, e ∙ stands.created ∙ ap at_creation inode_is)
            ] (sym inode_is ∙ stands.record_is)
      ] refl

  member_existing : (ino : ℕ) (now : InodeRecord) → (ino ≡ target → ⊥) → is_in members ino ≡ true → get log.whole ino ≡ None → get current.inodes ino ≡ Some now → StandsExisting committed (stepped current logged target members) ino (at_creation now)
  member_existing ino now apart m not_whole found =
      elim (get logged.inodes ino) as (λ o. get logged.inodes ino ≡ o → StandsExisting committed (stepped current logged target members) ino (at_creation now)) [
        | None ↦ λ absent.
            let lacks : get committed.inodes ino ≡ None =
            none_given (get committed.inodes ino) (false_from_ne_true _ (λ was. true≢false (sym (are.volumes.common.inodes ino was (there_from current ino now found)) ∙ ap is_some absent))) in
            record {
              inode = at_creation now;
              there = member_record_is ino now apart m found ∙ ap (λ o. Some (unwrap_or o (at_creation now))) absent;
              created = sym (creation_twice now);
              record_is = sym (ap (λ o. unwrap_or o (at_creation now)) lacks);
            }
        | Some old ↦ λ there.
            let alike = are.volumes.made_alike ino now old found there in
            record {
              inode = old;
              there = member_record_is ino now apart m found ∙ ap (λ o. Some (unwrap_or o (at_creation now))) there;
              created = alike;
              record_is = elim (not_whole_record ino old not_whole there) [
                | inl was ↦ sym (ap (λ o. unwrap_or o (at_creation now)) was)
                | inr none ↦ none.1 ∙ sym alike ∙ sym (ap (λ o. unwrap_or o (at_creation now)) none.0)
              ];
            }
      ] refl

  other_existing : (ino : ℕ) (made : InodeRecord) → is_in members ino ≡ false → get log.existing ino ≡ Some made → StandsExisting committed (stepped current logged target members) ino made
  other_existing ino made m at =
      let stands = are.is_log.existing ino made at in
      record { inode = stands.inode; there = other_inode current logged target members ino m ∙ stands.there; created = stands.created; record_is = stands.record_is }

  stands_existing : (ino : ℕ) (made : InodeRecord) → get after.existing ino ≡ Some made → StandsExisting committed (stepped current logged target members) ino made
  stands_existing ino made at =
      elim (is_in members ino) as (λ b. is_in members ino ≡ b → StandsExisting committed (stepped current logged target members) ino made) [
        | false ↦ λ m. other_existing ino made m (sym (existing_other ino m) ∙ at)
        | true ↦ λ m. elim (cases_eq ino target) [
          | inl same ↦ absurd (some_none made (sym at ∙ written.existing ino ∙ ap (λ b. cond b None (cond (is_in members ino && not (is_some (get log.whole ino))) (option_map at_creation (get current.inodes ino)) (get log.existing ino))) (eq-eqb ino target same)))
          | inr apart ↦ elim (get log.whole ino) as (λ o. get log.whole ino ≡ o → StandsExisting committed (stepped current logged target members) ino made) [
            | Some whole ↦ λ is_whole. absurd (some_none made (sym at ∙ existing_whole ino whole is_whole))
            | None ↦ λ not_whole. elim (get current.inodes ino) as (λ o. get current.inodes ino ≡ o → StandsExisting committed (stepped current logged target members) ino made) [
              | None ↦ λ absent. absurd (some_none made (sym at ∙ existing_member ino apart m not_whole ∙ ap (option_map at_creation) absent))
              | Some now ↦ λ found.
                  let made_is : at_creation now ≡ made = some_same (at_creation now) made (sym (ap (option_map at_creation) found) ∙ sym (existing_member ino apart m not_whole) ∙ at) in
                  subst (StandsExisting committed (stepped current logged target members) ino) made_is (member_existing ino now apart m not_whole found)
            ] refl
          ] refl
        ]
      ] refl

  after_one_item : (ino : ℕ) (whole : WholeInode) → get after.whole ino ≡ Some whole → get after.existing ino ≡ None
  after_one_item ino whole at =
      elim (cases_eq ino target) [
        | inl same ↦ written.existing ino ∙ ap (λ b. cond b None (cond (is_in members ino && not (is_some (get log.whole ino))) (option_map at_creation (get current.inodes ino)) (get log.existing ino))) (eq-eqb ino target same)
        | inr apart ↦ elim (is_gone current members ino) as (λ b. is_gone current members ino ≡ b → get after.existing ino ≡ None) [
          | true ↦ λ gone. absurd (some_none whole (sym at ∙ written.whole ino apart ∙ ap (λ b. cond b None (get log.whole ino)) gone))
          | false ↦ λ stays. existing_whole ino whole (sym (whole_kept ino apart stays) ∙ at)
        ] refl
      ]

  -- ---- names of the log

  pub after_cases : (name : FlatName) → Contains after.names name → (Contains current.names name × (is_in members name.ino ≡ true)) ⊎ (Contains log.names name × (is_in members name.ino ≡ false))
  after_cases name c =
      elim (Contains-append_cases (filter (λ name. is_in members name.ino) current.names) (filter (λ name. not (is_in members name.ino)) log.names) name (name_set_gives _ name (subst (λ ns. Contains ns name) written.names c))) [
        | inl ours ↦ inl (filter_contains (λ name. is_in members name.ino) current.names name ours)
        | inr theirs ↦ let found = filter_contains (λ (name : FlatName). not (is_in members name.ino)) log.names name theirs in inr (found.0, not-true _ found.1)
      ]

  pub after_has : (name : FlatName) → (Contains current.names name × (is_in members name.ino ≡ true)) ⊎ (Contains log.names name × (is_in members name.ino ≡ false)) → Contains after.names name
  after_has name either =
      subst (λ ns. Contains ns name) (sym written.names) (name_set_has (filter (λ name. is_in members name.ino) current.names ++ filter (λ name. not (is_in members name.ino)) log.names) name (elim either [
        | inl ours ↦ Contains-append_left _ (filter (λ name. not (is_in members name.ino)) log.names) name (contains_filter (λ (name : FlatName). is_in members name.ino) current.names name ours.1 ours.0)
        | inr theirs ↦ Contains-append_right (filter (λ name. is_in members name.ino) current.names) _ name (contains_filter (λ (name : FlatName). not (is_in members name.ino)) log.names name (not_from_false _ theirs.1) theirs.0)
      ]))

  after_names_are : (name : FlatName) → Contains after.names name → Contains (stepped current logged target members).names name × (is_logged after name.ino ≡ true)
  after_names_are name c = elim (after_cases name c) [
    | inl ours ↦ (stepped_has current logged target members name ours.0 ours.1, logged_member name.ino ours.1 (name_here name ours.0))
    | inr theirs ↦
        let was = are.is_log.names_are name theirs.0 in
        (stepped_keeps current logged target members name was.0 theirs.1, logged_other name.ino theirs.1 ∙ was.1)
  ]

  after_has_names : (name : FlatName) → Contains (stepped current logged target members).names name → is_logged after name.ino ≡ true → Contains after.names name
  after_has_names name c t = elim (stepped_cases current logged target members name c) [
    | inl ours ↦ after_has name (inl ours)
    | inr theirs ↦ after_has name (inr (are.is_log.has_names name theirs.0 (sym (logged_other name.ino theirs.1) ∙ t), theirs.1))
  ]

  -- ---- other inodes and their names

  -- an inode that the log doesn't have and R has after the step is no member
  pub other_is_none : (ino : ℕ) → is_logged after ino ≡ false → is_there (stepped current logged target members) ino ≡ true → is_in members ino ≡ false
  other_is_none ino f there = false_from_ne_true _ (λ m. true≢false (sym there ∙ gone_record ino m (unlogged_member ino m f)))

  after_other_inodes : (ino : ℕ) → is_logged after ino ≡ false → is_there (stepped current logged target members) ino ≡ true → get (stepped current logged target members).inodes ino ≡ get committed.inodes ino
  after_other_inodes ino f there =
      let m = other_is_none ino f there in
      let same = other_inode current logged target members ino m in
      same ∙ are.is_log.other_inodes ino (sym (logged_other ino m) ∙ f) (ap is_some (sym same) ∙ there)

  after_keeps_names : (name : FlatName) → is_logged after name.ino ≡ false → Contains (stepped current logged target members).names name → Contains committed.names name
  after_keeps_names name f c = elim (stepped_cases current logged target members name c) [
    | inl ours ↦ absurd (true≢false (sym (logged_member name.ino ours.1 (name_here name ours.0)) ∙ f))
    | inr theirs ↦ are.is_log.keeps_names name (sym (logged_other name.ino theirs.1) ∙ f) theirs.0
  ]

  after_misses_none : (name : FlatName) → is_logged after name.ino ≡ false → is_there (stepped current logged target members) name.ino ≡ true → Contains committed.names name → Contains (stepped current logged target members).names name
  after_misses_none name f there c =
      let m = other_is_none name.ino f there in
      let was = ap is_some (sym (other_inode current logged target members name.ino m)) ∙ there in
      stepped_keeps current logged target members name (are.is_log.misses_none name (sym (logged_other name.ino m) ∙ f) was c) m

  -- ---- ranges and entries

  -- an inode with a name in a target that is a directory, in F or in R, is a member or has the same names in both
  listed_name : (name : FlatName) → is_dir_at current target ≡ true → name.dir ≡ target → Contains current.names name ⊎ Contains logged.names name → is_in members name.ino ≡ false → do_names_differ current logged name.ino ≡ false
  listed_name name is_dir in_target either m =
      false_from_ne_true _ (λ differ. true≢false (sym (closed.first name.ino (or_right (nat_eq name.ino target) _
      (and_from _ _ is_dir (and_from _ _ differ (elim either [
        | inl here ↦ or_left _ _ (parent_from current.names name name.ino target here refl in_target)
        | inr there ↦ or_right (is_parent current.names name.ino target) _ (parent_from logged.names name name.ino target there refl in_target)
      ]))))) ∙ m))

  pub entry_ino_kept : (ino : ℕ) → is_there logged ino ≡ true → is_gone current members ino ≡ false → is_there (stepped current logged target members) ino ≡ true
  entry_ino_kept ino there stays =
      elim (is_in members ino) as (λ b. is_in members ino ≡ b → is_there (stepped current logged target members) ino ≡ true) [
        | false ↦ λ m. ap is_some (other_inode current logged target members ino m) ∙ there
        | true ↦ λ m. present_is_there ino m (true_from_ne_false _ (λ absent. true≢false (sym (gone_is ino m absent) ∙ stays)))
      ] refl

  listed_ino : (name : FlatName) → is_dir_at current target ≡ true → name.dir ≡ target → Contains current.names name → is_there (stepped current logged target members) name.ino ≡ true
  listed_ino name is_dir in_target c =
      elim (is_in members name.ino) as (λ b. is_in members name.ino ≡ b → is_there (stepped current logged target members) name.ino ≡ true) [
        | true ↦ λ m. present_is_there name.ino m (name_here name c)
        | false ↦ λ m.
            let there = same_names_here current logged are.volumes.step.agree name (listed_name name is_dir in_target (inl c) m) c in
            name_next name (stepped_keeps current logged target members name there m)
      ] refl

  pub entries_cases : (entry : LogEntry) → Contains after.entries entry → (Contains log.entries entry × (is_gone current members entry.ino ≡ false)) ⊎ ((is_dir_at current target ≡ true) × Contains (entries_in current target (ranges_of committed current target)) entry)
  entries_cases entry c =
      elim (Contains-append_cases (filter (λ (entry : LogEntry). not (is_gone current members entry.dir) && (not (is_gone current members entry.ino) && not (is_listed current target entry.dir))) log.entries) (cond (is_dir_at current target) (entries_in current target (ranges_of committed current target)) []) entry ((written.entries entry).0 c)) [
        | inl old ↦
            let found = filter_contains (λ (entry : LogEntry). not (is_gone current members entry.dir) && (not (is_gone current members entry.ino) && not (is_listed current target entry.dir))) log.entries entry old in
            inl (found.0, not-true _ (and_parts _ _ (and_parts _ _ found.1).1).0)
        | inr new ↦ elim (is_dir_at current target) as (λ b. Contains (cond b (entries_in current target (ranges_of committed current target)) []) entry → (Contains log.entries entry × (is_gone current members entry.ino ≡ false)) ⊎ ((b ≡ true) × Contains (entries_in current target (ranges_of committed current target)) entry)) [
          | true ↦ λ d. inr (refl, d)
          | false ↦ λ d. absurd (Rattle.flat_model.proofs.Lists.contains_none entry d)
        ] new
      ]

  after_entries_lead : (entry : LogEntry) → Contains after.entries entry → is_there (stepped current logged target members) entry.ino ≡ true
  after_entries_lead entry c = elim (entries_cases entry c) [
    | inl old ↦ entry_ino_kept entry.ino (are.is_log.entries_lead entry old.0) old.1
    | inr new ↦
        let found = map_gives entry_of (filter (λ (name : FlatName). stands_in target name && is_covered (ranges_of committed current target) target name.index) current.names) entry new.1 in
        let name = filter_contains (λ (name : FlatName). stands_in target name && is_covered (ranges_of committed current target) target name.index) current.names found.0 found.1 in
        subst (λ (e : LogEntry). is_there (stepped current logged target members) e.ino ≡ true) found.2 (listed_ino found.0 new.0 (eqb-true found.0.dir target (and_parts _ _ name.1).0) name.0)
  ]

  -- an entry of the log before, of a directory and an inode that stay, is one after
  entry_kept : (name : FlatName) → is_gone current members name.dir ≡ false → is_gone current members name.ino ≡ false → is_listed current target name.dir ≡ false → Contains log.entries (entry_of name) → Contains after.entries (entry_of name)
  entry_kept name dir_stays ino_stays unlisted c =
      (written.entries (entry_of name)).1 (Contains-append_left (filter (λ (entry : LogEntry). not (is_gone current members entry.dir) && (not (is_gone current members entry.ino) && not (is_listed current target entry.dir))) log.entries) (cond (is_dir_at current target) (entries_in current target (ranges_of committed current target)) []) (entry_of name)
      (contains_filter (λ (entry : LogEntry). not (is_gone current members entry.dir) && (not (is_gone current members entry.ino) && not (is_listed current target entry.dir))) log.entries (entry_of name)
      (and_from _ _ (not_from_false _ dir_stays) (and_from _ _ (not_from_false _ ino_stays) (not_from_false _ unlisted))) c))

  -- a name of C in a range of the target isn't in F
  pub ranged_is_lost : (name : FlatName) (range : LogRange) → Contains (ranges_of committed current target) range → Covers range name.dir name.index → Contains committed.names name → Contains current.names name → ⊥
  ranged_is_lost name range c covers was now =
      let found = map_gives (λ (gap : ℕ × ℕ). let made : LogRange = record { dir = target; first = gap.0; last = gap.1 - 1 } in made) (gaps_with (unchanged_indexes committed current target) (all_indexes committed current target) (2 ^ 64)) range c in
      let gap : ℕ × ℕ = found.0 in
      let dir_is : target ≡ range.dir = ap (λ (r : LogRange). r.dir) found.2 in
      let first_is : gap.0 ≡ range.first = ap (λ (r : LogRange). r.first) found.2 in
      let last_is : gap.1 - 1 ≡ range.last = ap (λ (r : LogRange). r.last) found.2 in
      let from = covers.from in
      let to = covers.to in
      let index = are.volumes.committed_coherent.index_numbers name was in
      let at_least = index.0 in
      let in_target : name.dir ≡ target = sym covers.dir_is ∙ sym dir_is in
      let same : has_unmarked current.names name ≡ true =
      any_from (is_same_unmarked name) current.names name now
      (and_from _ _ (eq-eqb name.dir name.dir refl) (and_from _ _ (eq-eqb name.index name.index refl) (and_from _ _ (bytes_eq_same name.bytes name.bytes refl) (eq-eqb name.ino name.ino refl)))) in
      let unchanged : Contains (unchanged_indexes committed current target) name.index =
      map_has (λ (name : FlatName). name.index) (filter (λ name. stands_in target name && has_unmarked current.names name) committed.names) name
      (contains_filter (λ name. stands_in target name && has_unmarked current.names name) committed.names name (and_from _ _ (eq-eqb name.dir target in_target) same) was) in
      gaps_with_lacks (unchanged_indexes committed current target) (all_indexes committed current target) (2 ^ 64) name.index gap found.1 (omega arith) (omega arith) unchanged

  pub ranges_cases : (range : LogRange) → Contains (listed_ranges committed current target members log) range → (Contains log.ranges range × (is_gone current members range.dir ≡ false) × (is_listed current target range.dir ≡ false)) ⊎ ((is_dir_at current target ≡ true) × Contains (ranges_of committed current target) range)
  ranges_cases range c =
      elim (Contains-append_cases (filter (λ (range : LogRange). not (is_gone current members range.dir) && not (is_listed current target range.dir)) log.ranges) (cond (is_dir_at current target) (ranges_of committed current target) []) range c) [
        | inl old ↦
            let found = filter_contains (λ (range : LogRange). not (is_gone current members range.dir) && not (is_listed current target range.dir)) log.ranges range old in
            let parts = and_parts _ _ found.1 in
            inl (found.0, not-true _ parts.0, not-true _ parts.1)
        | inr new ↦ elim (is_dir_at current target) as (λ b. Contains (cond b (ranges_of committed current target) []) range → (Contains log.ranges range × (is_gone current members range.dir ≡ false) × (is_listed current target range.dir ≡ false)) ⊎ ((b ≡ true) × Contains (ranges_of committed current target) range)) [
          | true ↦ λ d. inr (refl, d)
          | false ↦ λ d. absurd (Rattle.flat_model.proofs.Lists.contains_none range d)
        ] new
      ]

  -- a name of C that a kept range drops isn't there after the step
  old_range_drops : (name : FlatName) (range : LogRange) → Contains committed.names name → Contains log.ranges range → Covers range name.dir name.index → is_gone current members range.dir ≡ false → is_listed current target range.dir ≡ false → (Contains after.entries (entry_of name) → ⊥) → Contains (stepped current logged target members).names name → ⊥
  old_range_drops name range was c covers dir_stays unlisted no_entry here =
      let ino_stays : is_gone current members name.ino ≡ false =
      false_from_ne_true _ (λ gone. let parts = and_parts _ _ gone in true≢false (sym (name_next name here) ∙ gone_record name.ino parts.0 (not-true _ parts.1))) in
      let none : Contains log.entries (entry_of name) → ⊥ =
      λ e. no_entry (entry_kept name (ap (is_gone current members) (sym covers.dir_is) ∙ dir_stays) ino_stays (ap (is_listed current target) (sym covers.dir_is) ∙ unlisted) e) in
      let lost = are.is_log.drops_lost name was (dropped_from log name range c covers none) in
      elim (stepped_cases current logged target members name here) [
        | inl ours ↦ lost (are.volumes.common.names name was ours.0)
        | inr theirs ↦ lost theirs.0
      ]

  -- nor is one in a range of a target that is a directory
  new_range_drops : (name : FlatName) (range : LogRange) → is_dir_at current target ≡ true → Contains committed.names name → Contains (ranges_of committed current target) range → Covers range name.dir name.index → Contains (stepped current logged target members).names name → ⊥
  new_range_drops name range is_dir was c covers here =
      let lost = ranged_is_lost name range c covers was in
      let found = map_gives (λ (gap : ℕ × ℕ). let made : LogRange = record { dir = target; first = gap.0; last = gap.1 - 1 } in made) (gaps_with (unchanged_indexes committed current target) (all_indexes committed current target) (2 ^ 64)) range c in
      let in_target : name.dir ≡ target = sym covers.dir_is ∙ sym (ap (λ (r : LogRange). r.dir) found.2) in
      elim (stepped_cases current logged target members name here) [
        | inl ours ↦ lost ours.0
        | inr theirs ↦ lost (same_names_there current logged are.volumes.step.agree name (listed_name name is_dir in_target (inr theirs.0) theirs.1) theirs.0)
      ]

  pub single : FlatName → LogRange
  single name = record { dir = name.dir; first = name.index; last = name.index }

  pub is_single : FlatName → Bool
  is_single name = not (is_there (stepped current logged target members) name.ino) && not (is_covered (listed_ranges committed current target members log) name.dir name.index)

  pub written_cases : (range : LogRange) → Contains after.ranges range → Contains (listed_ranges committed current target members log) range ⊎ ((name : FlatName) × Contains committed.names name × (is_there (stepped current logged target members) name.ino ≡ false) × (single name ≡ range))
  unfolding single is_single
  written_cases range c =
      elim (Contains-append_cases (listed_ranges committed current target members log) (map single (filter is_single committed.names)) range ((written.ranges range).0 c)) [
        | inl listed ↦ inl listed
        | inr new ↦
            let found = map_gives single (filter is_single committed.names) range new in
            let name = filter_contains is_single committed.names found.0 found.1 in
            inr (found.0, name.0, not-true _ (and_parts _ _ name.1).0, found.2)
      ]

  after_drops_lost : (name : FlatName) → Contains committed.names name → is_dropped after name ≡ true → Contains (stepped current logged target members).names name → ⊥
  unfolding single
  after_drops_lost name was dropped here =
      let parts = dropped_gives after name dropped in
      let range = parts.0.0 in
      let covers = parts.0.2 in
      elim (written_cases range parts.0.1) [
        | inl listed ↦ elim (ranges_cases range listed) [
          | inl old ↦ old_range_drops name range was old.0 covers old.1 old.2 parts.1 here
          | inr new ↦ new_range_drops name range new.0 was new.1 covers here
        ]
        | inr one ↦
            let lost : FlatName = one.0 in
            let dir_is : lost.dir ≡ name.dir = ap (λ (r : LogRange). r.dir) one.3 ∙ covers.dir_is in
            let first_is : lost.index ≡ range.first = ap (λ (r : LogRange). r.first) one.3 in
            let last_is : lost.index ≡ range.last = ap (λ (r : LogRange). r.last) one.3 in
            let from = covers.from in
            let to = covers.to in
            let index_is : lost.index ≡ name.index = omega arith in
            let same = are.volumes.committed_coherent.no_index_twice lost name one.1 was dir_is index_is in
            true≢false (sym (name_next name here) ∙ ap (λ (n : FlatName). is_there (stepped current logged target members) n.ino) (sym same) ∙ one.2)
      ]

  after_drops_gone : (name : FlatName) → Contains committed.names name → is_there (stepped current logged target members) name.ino ≡ false → is_dropped after name ≡ true
  unfolding single is_single
  after_drops_gone name was absent =
      let no_entry : Contains after.entries (entry_of name) → ⊥ = λ c. true≢false (sym (after_entries_lead (entry_of name) c) ∙ absent) in
      elim (is_covered (listed_ranges committed current target members log) name.dir name.index) as (λ b. is_covered (listed_ranges committed current target members log) name.dir name.index ≡ b → is_dropped after name ≡ true) [
        | true ↦ λ t.
            let found = covered_gives (listed_ranges committed current target members log) name.dir name.index t in
            dropped_from after name found.0 ((written.ranges found.0).1 (Contains-append_left (listed_ranges committed current target members log) (map single (filter is_single committed.names)) found.0 found.1)) found.2 no_entry
        | false ↦ λ f.
            let new = map_has single (filter is_single committed.names) name (contains_filter is_single committed.names name (and_from _ _ (not_from_false _ absent) (not_from_false _ f)) was) in
            dropped_from after name (single name) ((written.ranges (single name)).1 (Contains-append_right (listed_ranges committed current target members log) (map single (filter is_single committed.names)) (single name) new))
            (record { dir_is = refl; from = omega arith; to = omega arith }) no_entry
      ] refl

  pub fsync_writes_log : IsLogOf committed (stepped current logged target members) after
  fsync_writes_log = record {
    whole = stands_whole;
    existing = stands_existing;
    one_item = after_one_item;
    in_order = ap is_name_set written.names ∙ is_set_name_set (filter (λ name. is_in members name.ino) current.names ++ filter (λ name. not (is_in members name.ino)) log.names);
    names_are = after_names_are;
    has_names = after_has_names;
    other_inodes = after_other_inodes;
    keeps_names = after_keeps_names;
    misses_none = after_misses_none;
    drops_lost = after_drops_lost;
    drops_gone = after_drops_gone;
    entries_lead = after_entries_lead;
  }
