-- A log step leaves a logged volume that survives, with what the step itself promises.
use Rattle.std.proofs.Common.{◌≡◌, ◌≢◌, ℕ, ◌≤◌, Bool, true, false, cond, not, ◌||◌, List, ◌∷◌, length, Some, None, refl, sym, ap, subst, ◌∙◌, arith, inl, inr}
use Rattle.std.specs.Bool.{nat_eq}
use Rattle.std.specs.Option.{unwrap_or}
use Rattle.std.specs.List.{Contains}
use Rattle.std.specs.FinMap.{get, insert}
use Rattle.std.proofs.lemmas.Bool.{true≢false, and_parts, and_from, eqb-true, eq-eqb, ne_eqb, cases_eq, cases_Bool}
use Rattle.flat_model.specs.Records.{InodeRecord, at_creation}
use Rattle.flat_model.specs.Names.{FlatName, names_of, leads_to}
use Rattle.flat_model.specs.Volume.{Subvolume, Volume, is_dir_at, mounted}
use Rattle.flat_model.specs.Coherent.{IsCoherent, IsCoherentVolume}
use Rattle.flat_model.specs.Step.{Operated, IsHistory, volume_at}
use Rattle.flat_model.proofs.Lists.{contains_cases, contains_filter, filter_contains}
use Rattle.flat_model.proofs.Maps.{some_same, some_none, get_insert_same, get_insert_other, insert_cases}
use Rattle.flat_model.proofs.NameSets.{is_name_set_filter, same_name_set}
use Rattle.logged_volume.specs.Numbers.{is_in}
use Rattle.logged_volume.specs.Agreement.{AreStep, is_there, do_names_differ}
use Rattle.logged_volume.specs.Drawn.{drawn_set, is_data_form, is_first, is_parent}
use Rattle.logged_volume.specs.LogStep.{member_record, stepped, with_data, log_step}
use Rattle.logged_volume.proofs.LeastSets.{least_set_closed, parent_from, parent_gives}
use Rattle.logged_volume.proofs.Stepped.{there_gives, agree_on_dir, dir_is_there, same_names_here, same_names_there, filter_of_members, filter_of_others, stepped_inode, other_inode}
use Rattle.commit_history.specs.State.{Synced}
use Rattle.commit_history.specs.Survival.{IsAtPoint, IsSinceData, IsSinceNames, RecordSurvives, NamesSurvive, AbsenceSurvives, SubSurvives}
use Rattle.commit_history.proofs.PointsOf.{inode_made}

-- what the proof of a step stands on: the history so far, the current subvolume at its end, the logged one that survives, and the fsync that makes the step
pub record StepOf (volume : Volume) (history : List Operated) (id committed_at : ℕ) (acknowledged : List Synced) (current logged : Subvolume) (fsync : Synced) : Type 0 where
  pub coherent : IsCoherentVolume volume
  pub legal : IsHistory (mounted volume) history
  pub now : IsAtPoint volume history id (length history) current
  pub survives : SubSurvives volume history id committed_at acknowledged logged
  pub committed : committed_at ≤ length history
  pub earlier : (other : Synced) → Contains acknowledged other → other.point ≤ length history
  pub own_point : fsync.point ≡ length history
  pub step : AreStep current logged fsync.ino

module _ (volume : Volume) (history : List Operated) (id committed_at : ℕ) (acknowledged : List Synced) (current logged : Subvolume) (fsync : Synced) (given : StepOf volume history id committed_at acknowledged current logged fsync) where
  abbrev all : List Synced
  all = fsync ∷ acknowledged

  abbrev end : ℕ
  end = length history

  -- nothing is later than the end
  all_earlier : (other : Synced) → Contains all other → other.point ≤ end
  all_earlier other c = elim (contains_cases fsync acknowledged other c) [
    | inl same ↦ let own = given.own_point in subst (λ (f : Synced). f.point ≤ end) same (omega (arith, own))
    | inr old ↦ given.earlier other old
  ]

  data_now : (ino : ℕ) → IsSinceData committed_at all ino end
  data_now ino = record { committed = given.committed; own = λ other c _. all_earlier other c }

  names_now : (ino : ℕ) → IsSinceNames volume history id committed_at all ino end
  names_now ino = record { committed = given.committed; own = λ other c _ _. all_earlier other c; in_directory = λ other then_ c _ _ _. all_earlier other c }

  record_now : (ino : ℕ) (inode : InodeRecord) → get current.inodes ino ≡ Some inode → RecordSurvives volume history id committed_at all ino inode
  record_now ino inode e = record { point = end; there = current; at = given.now; since = data_now ino; same = e }

  of_current : (ino : ℕ) (names : List FlatName) → names_of current.names ino ≡ names → NamesSurvive volume history id committed_at all ino names
  of_current ino names e = record { point = end; there = current; at = given.now; since = names_now ino; in_directory = λ other name c _ _ _. all_earlier other c; same = e }

  absent_now : (ino : ℕ) → get current.inodes ino ≡ None → AbsenceSurvives volume history id committed_at all ino
  absent_now ino e = record { point = end; there = current; at = given.now; since_data = data_now ino; since_names = names_now ino; absent = e }

  -- of another inode the step promises no data
  data_before : (ino point : ℕ) → ino ≢ fsync.ino → IsSinceData committed_at acknowledged ino point → IsSinceData committed_at all ino point
  data_before ino point other since = record {
    committed = since.committed;
    own = λ one c is. elim (contains_cases fsync acknowledged one c) [ inl same ↦ absurd (other (sym (ap (λ (f : Synced). f.ino) same ∙ is))) | inr old ↦ since.own one old is ];
  }

  data_later : (ino early late : ℕ) → early ≤ late → IsSinceData committed_at acknowledged ino early → IsSinceData committed_at acknowledged ino late
  data_later ino early late before since = record {
    committed = let c = since.committed in omega (arith, c, before);
    own = λ one c is. let o = since.own one c is in omega (arith, o, before);
  }

  record_before : (ino : ℕ) (inode : InodeRecord) → ino ≢ fsync.ino → get logged.inodes ino ≡ Some inode → RecordSurvives volume history id committed_at all ino inode
  record_before ino inode other e =
      let old = given.survives.records ino inode e in
      record { point = old.point; there = old.there; at = old.at; since = data_before ino old.point other old.since; same = old.same }

  -- an inode that the logged subvolume lacks and the current one has was made since its absence survived
  record_made : (ino : ℕ) (now : InodeRecord) → ino ≢ fsync.ino → get logged.inodes ino ≡ None → get current.inodes ino ≡ Some now → RecordSurvives volume history id committed_at all ino (at_creation now)
  record_made ino now other absent there =
      let old = given.survives.absence ino absent in
      let made = inode_made volume history given.coherent given.legal id ino old.point end old.there current now old.at.0 old.at old.absent given.now there in
      record {
        point = made.point;
        there = made.there;
        at = made.at;
        since = data_before ino made.point other (data_later ino old.point made.point (let l = made.later in omega (arith, l)) old.since_data);
        same = made.fresh;
      }

  -- ---- fsync's form

  abbrev members : List ℕ
  members = drawn_set current logged fsync.ino

  abbrev next : Subvolume
  next = stepped current logged fsync.ino members

  first_is_member : (ino : ℕ) → is_first current logged fsync.ino ino ≡ true → is_in members ino ≡ true
  first_is_member ino first = (least_set_closed current logged fsync.ino true).first ino first

  target_is_member : is_in members fsync.ino ≡ true
  target_is_member = first_is_member fsync.ino (or_left (nat_eq fsync.ino fsync.ino) _ (eq-eqb fsync.ino fsync.ino refl))
    where
      or_left : (a b : Bool) → a ≡ true → a || b ≡ true
      or_left true b e = refl
      or_left false b e = absurd (true≢false (sym e))

  other_than_target : (ino : ℕ) → is_in members ino ≡ false → ino ≢ fsync.ino
  other_than_target ino f same = true≢false (sym target_is_member ∙ subst (λ i. is_in members i ≡ false) same f)

  member_is : (ino : ℕ) (now : InodeRecord) → is_in members ino ≡ true → get current.inodes ino ≡ Some now → get next.inodes ino ≡ Some (cond (nat_eq ino fsync.ino) now (unwrap_or (get logged.inodes ino) (at_creation now)))
  member_is ino now t there =
      stepped_inode current logged fsync.ino members ino
      ∙ ap (λ b. cond b (member_record current logged fsync.ino ino) (get logged.inodes ino)) t
      ∙ ap (λ o. elim o [ None ↦ None | Some inode ↦ Some (cond (nat_eq ino fsync.ino) inode (unwrap_or (get logged.inodes ino) (at_creation inode))) ]) there

  member_gone : (ino : ℕ) → is_in members ino ≡ true → get current.inodes ino ≡ None → get next.inodes ino ≡ None
  member_gone ino t absent =
      stepped_inode current logged fsync.ino members ino
      ∙ ap (λ b. cond b (member_record current logged fsync.ino ino) (get logged.inodes ino)) t
      ∙ ap (λ o. elim o [ None ↦ None | Some inode ↦ Some (cond (nat_eq ino fsync.ino) inode (unwrap_or (get logged.inodes ino) (at_creation inode))) ]) absent

  -- a name of an inode in the target, in one of the two, where the inode isn't drawn: its names are the same in both
  same_in_target : (ino : ℕ) → is_in members ino ≡ false → is_parent current.names ino fsync.ino || is_parent logged.names ino fsync.ino ≡ true → do_names_differ current logged ino ≡ false
  same_in_target ino f parent =
      elim (cases_Bool (do_names_differ current logged ino)) [
        | inl differ ↦ absurd (true≢false (sym (first_is_member ino (or_right (nat_eq ino fsync.ino) _ (and_from _ _ target_is_dir (and_from _ _ differ parent)))) ∙ f))
        | inr same ↦ same
      ]
    where
      or_right : (a b : Bool) → b ≡ true → a || b ≡ true
      or_right true b e = refl
      or_right false b e = e

      target_is_dir : is_dir_at current fsync.ino ≡ true
      target_is_dir = elim (cases_Bool (is_parent current.names ino fsync.ino)) [
        | inl here ↦ let found = parent_gives current.names ino fsync.ino here in subst (λ d. is_dir_at current d ≡ true) found.3 (given.step.current_coherent.stands_in_dir found.0 found.1)
        | inr not_here ↦
            let there : is_parent logged.names ino fsync.ino ≡ true = subst (λ b. b || is_parent logged.names ino fsync.ino ≡ true) not_here parent in
            let found = parent_gives logged.names ino fsync.ino there in
            let dir : is_dir_at logged fsync.ino ≡ true = subst (λ d. is_dir_at logged d ≡ true) found.3 (given.step.logged_coherent.stands_in_dir found.0 found.1) in
            agree_on_dir current logged given.step.agree fsync.ino given.step.has_target (dir_is_there logged fsync.ino dir) ∙ dir
      ]

  same_names : (ino : ℕ) → do_names_differ current logged ino ≡ false → names_of current.names ino ≡ names_of logged.names ino
  same_names ino same =
      same_name_set _ _ (is_name_set_filter (leads_to ino) current.names given.step.current_coherent.in_order) (is_name_set_filter (leads_to ino) logged.names given.step.logged_coherent.in_order)
      (λ q c.
      let found = filter_contains (leads_to ino) current.names q c in
      contains_filter (leads_to ino) logged.names q found.1 (same_names_here current logged given.step.agree q (subst (λ i. do_names_differ current logged i ≡ false) (sym (eqb-true q.ino ino found.1)) same) found.0))
      (λ q c.
      let found = filter_contains (leads_to ino) logged.names q c in
      contains_filter (leads_to ino) current.names q found.1 (same_names_there current logged given.step.agree q (subst (λ i. do_names_differ current logged i ≡ false) (sym (eqb-true q.ino ino found.1)) same) found.0))

  -- the current subvolume is the only one at the end
  only_now : (then_ : Subvolume) → IsAtPoint volume history id fsync.point then_ → then_ ≡ current
  only_now then_ at = some_same then_ current (sym at.1 ∙ subst (λ p. get (volume_at volume history p) id ≡ Some current) (sym given.own_point) given.now.1)

  -- what was promised of names before, where no name stands in the target
  names_before : (ino point : ℕ) → ino ≢ fsync.ino → is_parent current.names ino fsync.ino ≡ false → IsSinceNames volume history id committed_at acknowledged ino point → IsSinceNames volume history id committed_at all ino point
  names_before ino point other no_parent since = record {
    committed = since.committed;
    own = λ one c names is. elim (contains_cases fsync acknowledged one c) [ inl same ↦ absurd (other (sym (ap (λ (f : Synced). f.ino) same ∙ is))) | inr old ↦ since.own one old names is ];
    in_directory = λ one then_ c names at has. elim (contains_cases fsync acknowledged one c) [
      | inl same ↦
          let now : then_ ≡ current = only_now then_ (subst (λ (f : Synced). IsAtPoint volume history id f.point then_) (sym same) at) in
          let name : Contains current.names has.0 = subst (λ (s : Subvolume). Contains s.names has.0) now has.1 in
          absurd (true≢false (sym (parent_from current.names has.0 ino fsync.ino name has.3 (has.2 ∙ ap (λ (f : Synced). f.ino) (sym same))) ∙ no_parent))
      | inr old ↦ since.in_directory one then_ old names at has
    ];
  }

  or_false_left : (a b : Bool) → a || b ≡ false → a ≡ false
  or_false_left true b e = absurd (true≢false e)
  or_false_left false b e = refl

  or_false_right : (a b : Bool) → a || b ≡ false → b ≡ false
  or_false_right true b e = absurd (true≢false e)
  or_false_right false b e = e

  stepped_records : (ino : ℕ) (inode : InodeRecord) → get next.inodes ino ≡ Some inode → RecordSurvives volume history id committed_at all ino inode
  stepped_records ino inode e =
      elim (cases_Bool (is_in members ino)) [
        | inl member ↦ elim (get current.inodes ino) as (λ o. get current.inodes ino ≡ o → RecordSurvives volume history id committed_at all ino inode) [
          | None ↦ λ absent. absurd (some_none inode (sym e ∙ member_gone ino member absent))
          | Some now ↦ λ there.
              let is = some_same _ inode (sym (member_is ino now member there) ∙ e) in
              elim (cases_eq ino fsync.ino) [
                | inl target ↦ record_now ino inode (there ∙ ap Some (sym (ap (λ b. cond b now (unwrap_or (get logged.inodes ino) (at_creation now))) (eq-eqb ino fsync.ino target)) ∙ is))
                | inr other ↦
                    let own : unwrap_or (get logged.inodes ino) (at_creation now) ≡ inode = sym (ap (λ b. cond b now (unwrap_or (get logged.inodes ino) (at_creation now))) (ne_eqb ino fsync.ino other)) ∙ is in
                    elim (get logged.inodes ino) as (λ o. get logged.inodes ino ≡ o → unwrap_or o (at_creation now) ≡ inode → RecordSurvives volume history id committed_at all ino inode) [
                      | None ↦ λ lacks made. subst (RecordSurvives volume history id committed_at all ino) made (record_made ino now other lacks there)
                      | Some old ↦ λ has same. record_before ino inode other (has ∙ ap Some same)
                    ] refl own
              ]
        ] refl
        | inr outside ↦ record_before ino inode (other_than_target ino outside) (sym (other_inode current logged fsync.ino members ino outside) ∙ e)
      ]

  stepped_names_survive : (ino : ℕ) (inode : InodeRecord) → get next.inodes ino ≡ Some inode → NamesSurvive volume history id committed_at all ino (names_of next.names ino)
  stepped_names_survive ino inode e =
      elim (cases_Bool (is_in members ino)) [
        | inl member ↦ of_current ino (names_of next.names ino)
            (sym (filter_of_members current logged fsync.ino members given.step.current_coherent.in_order (leads_to ino) (λ q t. subst (λ i. is_in members i ≡ true) (sym (eqb-true q.ino ino t)) member)))
        | inr outside ↦
            let same : names_of next.names ino ≡ names_of logged.names ino =
            filter_of_others current logged fsync.ino members given.step.logged_coherent.in_order (leads_to ino) (λ q t. subst (λ i. is_in members i ≡ false) (sym (eqb-true q.ino ino t)) outside) in
            let has : get logged.inodes ino ≡ Some inode = sym (other_inode current logged fsync.ino members ino outside) ∙ e in
            elim (cases_Bool (is_parent current.names ino fsync.ino || is_parent logged.names ino fsync.ino)) [
              | inl parent ↦ of_current ino (names_of next.names ino) (same_names ino (same_in_target ino outside parent) ∙ sym same)
              | inr none ↦
                  let old = given.survives.names ino inode has in
                  record {
                    point = old.point;
                    there = old.there;
                    at = old.at;
                    since = names_before ino old.point (other_than_target ino outside) (or_false_left _ _ none) old.since;
                    in_directory = λ one name c names member in_dir. elim (contains_cases fsync acknowledged one c) [
                      | inl is ↦
                          let found = filter_contains (leads_to ino) logged.names name (subst (λ l. Contains l name) same member) in
                          absurd (true≢false (sym (parent_from logged.names name ino fsync.ino found.0 (eqb-true name.ino ino found.1) (in_dir ∙ ap (λ (f : Synced). f.ino) (sym is))) ∙ or_false_right _ _ none))
                      | inr before ↦ old.in_directory one name before names (subst (λ l. Contains l name) same member) in_dir
                    ];
                    same = old.same ∙ sym same;
                  }
            ]
      ]

  stepped_absence : (ino : ℕ) → get next.inodes ino ≡ None → AbsenceSurvives volume history id committed_at all ino
  stepped_absence ino e =
      elim (cases_Bool (is_in members ino)) [
        | inl member ↦ elim (get current.inodes ino) as (λ o. get current.inodes ino ≡ o → AbsenceSurvives volume history id committed_at all ino) [
          | None ↦ λ absent. absent_now ino absent
          | Some now ↦ λ there. absurd (some_none _ (sym (member_is ino now member there) ∙ e))
        ] refl
        | inr outside ↦
            let absent : get logged.inodes ino ≡ None = sym (other_inode current logged fsync.ino members ino outside) ∙ e in
            let old = given.survives.absence ino absent in
            let no_parent : is_parent current.names ino fsync.ino ≡ false = elim (cases_Bool (is_parent current.names ino fsync.ino)) [
              | inl parent ↦
                  let found = parent_gives current.names ino fsync.ino parent in
                  let same = same_in_target ino outside (ap (λ b. b || is_parent logged.names ino fsync.ino) parent) in
                  let kept = same_names_here current logged given.step.agree found.0 (subst (λ i. do_names_differ current logged i ≡ false) (sym found.2) same) found.1 in
                  let inode = given.step.logged_coherent.leads_to_inode found.0 kept in
                  absurd (some_none inode.0 (sym inode.1 ∙ ap (get logged.inodes) found.2 ∙ absent))
              | inr none ↦ none
            ] in
            record {
              point = old.point;
              there = old.there;
              at = old.at;
              since_data = data_before ino old.point (other_than_target ino outside) old.since_data;
              since_names = names_before ino old.point (other_than_target ino outside) no_parent old.since_names;
              absent = old.absent;
            }
      ]

  -- ---- the data form

  -- an fdatasync that promises no names changes nothing of what was promised of them
  names_alone : (ino point : ℕ) → fsync.names ≡ false → IsSinceNames volume history id committed_at acknowledged ino point → IsSinceNames volume history id committed_at all ino point
  names_alone ino point no_names since = record {
    committed = since.committed;
    own = λ one c names is. elim (contains_cases fsync acknowledged one c) [ inl same ↦ absurd (true≢false (sym names ∙ ap (λ (f : Synced). f.names) (sym same) ∙ no_names)) | inr old ↦ since.own one old names is ];
    in_directory = λ one then_ c names at has. elim (contains_cases fsync acknowledged one c) [ inl same ↦ absurd (true≢false (sym names ∙ ap (λ (f : Synced). f.names) (sym same) ∙ no_names)) | inr old ↦ since.in_directory one then_ old names at has ];
  }

  data_survives : fsync.names ≡ false → is_there logged fsync.ino ≡ true → IsCoherent (with_data current logged fsync.ino) → SubSurvives volume history id committed_at all (with_data current logged fsync.ino)
  unfolding with_data
  data_survives no_names there coherent =
      let now = there_gives current fsync.ino given.step.has_target in
      let old = there_gives logged fsync.ino there in
      let made : Subvolume = record logged { inodes = insert logged.inodes fsync.ino now.0 } in
      let is : (elim (get current.inodes fsync.ino) [ None ↦ logged | Some inode ↦ record logged { inodes = insert logged.inodes fsync.ino inode } ]) ≡ made = ap (λ o. elim o [ None ↦ logged | Some inode ↦ record logged { inodes = insert logged.inodes fsync.ino inode } ]) now.1 in
      let more : (one : Synced) (names : one.names ≡ true) → Contains all one → Contains acknowledged one = λ one names c. elim (contains_cases fsync acknowledged one c) [ inl same ↦ absurd (true≢false (sym names ∙ ap (λ (f : Synced). f.names) (sym same) ∙ no_names)) | inr old ↦ old ] in
      let names_of_old : (ino : ℕ) (inode : InodeRecord) → get logged.inodes ino ≡ Some inode → NamesSurvive volume history id committed_at all ino (names_of logged.names ino) = λ ino inode has.
      let was = given.survives.names ino inode has in
      record {
        point = was.point;
        there = was.there;
        at = was.at;
        since = names_alone ino was.point no_names was.since;
        in_directory = λ one name c names member in_dir. was.in_directory one name (more one names c) names member in_dir;
        same = was.same;
      } in
      subst (SubSurvives volume history id committed_at all) (sym is) (record {
        coherent = subst IsCoherent is coherent;
        records = λ ino inode e. elim (insert_cases logged.inodes fsync.ino now.0 ino inode e) [
          | inl target ↦ record_now ino inode (ap (get current.inodes) target.0 ∙ now.1 ∙ ap Some (sym target.1))
          | inr other ↦ record_before ino inode other.0 other.1
        ];
        names = λ ino inode e. elim (insert_cases logged.inodes fsync.ino now.0 ino inode e) [
          | inl target ↦ names_of_old ino old.0 (ap (get logged.inodes) target.0 ∙ old.1)
          | inr other ↦ names_of_old ino inode other.1
        ];
        absence = λ ino e.
            let other : ino ≢ fsync.ino = λ same. some_none now.0 (sym (get_insert_same logged.inodes fsync.ino now.0) ∙ subst (λ i. get (insert logged.inodes fsync.ino now.0) i ≡ None) same e) in
            let was = given.survives.absence ino (sym (get_insert_other logged.inodes fsync.ino now.0 ino other) ∙ e) in
            record {
              point = was.point;
              there = was.there;
              at = was.at;
              since_data = data_before ino was.point other was.since_data;
              since_names = names_alone ino was.point no_names was.since_names;
              absent = was.absent;
            };
      })

  -- ---- both forms

  pub step_survives : (datasync : Bool) → fsync.names ≡ not (is_data_form logged fsync.ino datasync) → IsCoherent (log_step current logged fsync.ino datasync) → SubSurvives volume history id committed_at all (log_step current logged fsync.ino datasync)
  step_survives datasync names coherent =
      elim (is_data_form logged fsync.ino datasync) as (λ b. is_data_form logged fsync.ino datasync ≡ b → fsync.names ≡ not b → IsCoherent (cond b (with_data current logged fsync.ino) next) → SubSurvives volume history id committed_at all (cond b (with_data current logged fsync.ino) next)) [
        | true ↦ λ form no_names whole. data_survives no_names (and_parts datasync (is_there logged fsync.ino) form).1 whole
        | false ↦ λ form _ whole. record { coherent = whole; records = stepped_records; names = stepped_names_survive; absence = stepped_absence }
      ] refl names coherent
