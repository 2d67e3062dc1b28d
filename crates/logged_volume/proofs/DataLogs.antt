-- What the data form writes into a log says what the step leaves of R; so does the empty log of C.
use Rattle.std.proofs.Common.{◌≡◌, ℕ, true, false, cond, not, ◌&&◌, ◌||◌, ◌++◌, Some, None, refl, sym, ap, subst, ◌∙◌, inl, inr}
use Rattle.std.specs.Option.{is_some}
use Rattle.std.specs.Ordering.{nat_cmp}
use Rattle.std.specs.List.{Contains, filter}
use Rattle.std.specs.FinMap.{get, insert, empty, get-empty}
use Rattle.std.proofs.lemmas.Bool.{true≢false, or_left, or_from, and_parts, and_from, eqb-true, eq-eqb, ne_eqb, not_from_false, cases_eq, false_from_ne_true}
use Rattle.std.proofs.lemmas.List.Elements.{Contains-append_left, Contains-append_right, Contains-append_cases}
use Rattle.flat_model.specs.Records.{InodeRecord}
use Rattle.flat_model.specs.Names.{FlatName, name_set, is_name_set, leads_to}
use Rattle.flat_model.specs.Coherent.{IsCoherent}
use Rattle.flat_model.specs.Volume.{Subvolume}
use Rattle.flat_model.proofs.Lists.{contains_none, contains_filter, filter_contains}
use Rattle.flat_model.proofs.Maps.{some_same, some_none, get_insert_same, get_insert_other}
use Rattle.logged_volume.specs.Agreement.{is_there}
use Rattle.logged_volume.specs.LogStep.{with_data}
use Rattle.logged_volume.specs.FlatLog.{WholeInode, FlatLog, empty_log, is_logged, is_dropped, entry_of}
use Rattle.logged_volume.specs.Written.{IsDataWritten, IsWholeOf}
use Rattle.logged_volume.specs.Standing.{StandsWhole, StandsExisting, IsLogOf, AreLogStep}
use Rattle.logged_volume.proofs.Members.{name_set_has, name_set_gives, is_set_name_set}
use Rattle.logged_volume.proofs.Covers.{dropped_gives, dropped_from}
use Rattle.logged_volume.proofs.Stepped.{there_gives, there_from}

-- ---- the empty log

none_whole : (ino : ℕ) (whole : WholeInode) → get (empty {R = nat_cmp}) ino ≡ Some whole → ⊥
none_whole ino whole at = some_none whole (sym at ∙ get-empty nat_cmp ino)

none_existing : (ino : ℕ) (made : InodeRecord) → get (empty {R = nat_cmp}) ino ≡ Some made → ⊥
none_existing ino made at = some_none made (sym at ∙ get-empty nat_cmp ino)

none_logged : (ino : ℕ) → is_logged empty_log ino ≡ false
none_logged ino = or_from _ _ (ap is_some (get-empty {X = WholeInode} nat_cmp ino)) (ap is_some (get-empty {X = InodeRecord} nat_cmp ino))

pub empty_is_log : (committed : Subvolume) → IsCoherent committed → IsLogOf committed committed empty_log
empty_is_log committed coherent = record {
  whole = λ ino whole at. absurd (none_whole ino whole at);
  existing = λ ino made at. absurd (none_existing ino made at);
  one_item = λ ino whole at. absurd (none_whole ino whole at);
  in_order = refl;
  names_are = λ name c. absurd (contains_none name c);
  has_names = λ name c t. absurd (true≢false (sym t ∙ none_logged name.ino));
  other_inodes = λ ino f there. refl;
  keeps_names = λ name f c. c;
  misses_none = λ name f there c. c;
  drops_lost = λ name c t here. true≢false (sym t);
  drops_gone = λ name c absent. absurd (let found = coherent.leads_to_inode name c in true≢false (sym (there_from committed name.ino found.0 found.1) ∙ absent));
  entries_lead = λ entry c. absurd (contains_none entry c);
}

-- ---- the data form

module _ (committed current logged : Subvolume) (target : ℕ) (log after : FlatLog) (are : AreLogStep committed current logged target log) (there : is_there logged target ≡ true) (written : IsDataWritten committed current target log after) where
  pub data_names : (with_data current logged target).names ≡ logged.names
  unfolding with_data
  data_names = elim (get current.inodes target) as (λ o. (elim o as (λ _. Subvolume) [ None ↦ logged | Some inode ↦ record logged { inodes = insert logged.inodes target inode } ]).names ≡ logged.names) [ None ↦ refl | Some inode ↦ refl ]

  data_target : (now : InodeRecord) → get current.inodes target ≡ Some now → get (with_data current logged target).inodes target ≡ Some now
  unfolding with_data
  data_target now found =
      ap (λ o. get (elim o as (λ _. Subvolume) [ None ↦ logged | Some inode ↦ record logged { inodes = insert logged.inodes target inode } ]).inodes target) found
      ∙ get_insert_same logged.inodes target now

  data_other : (ino : ℕ) → (ino ≡ target → ⊥) → get (with_data current logged target).inodes ino ≡ get logged.inodes ino
  unfolding with_data
  data_other ino apart = elim (get current.inodes target) as (λ o. get (elim o as (λ _. Subvolume) [ None ↦ logged | Some inode ↦ record logged { inodes = insert logged.inodes target inode } ]).inodes ino ≡ get logged.inodes ino) [
    | None ↦ refl
    | Some inode ↦ get_insert_other logged.inodes target inode ino apart
  ]

  pub data_there : (ino : ℕ) → is_there (with_data current logged target) ino ≡ is_there logged ino
  data_there ino = elim (cases_eq ino target) [
    | inl same ↦
        let now = there_gives current target are.volumes.step.has_target in
        ap (is_there (with_data current logged target)) same ∙ ap is_some (data_target now.0 now.1) ∙ sym there ∙ ap (is_there logged) (sym same)
    | inr apart ↦ ap is_some (data_other ino apart)
  ]

  existing_apart : (ino : ℕ) → (ino ≡ target → ⊥) → get after.existing ino ≡ get log.existing ino
  existing_apart ino apart = written.existing ino ∙ ap (λ b. cond b None (get log.existing ino)) (ne_eqb ino target apart)

  existing_target : (ino : ℕ) → ino ≡ target → get after.existing ino ≡ None
  existing_target ino same = written.existing ino ∙ ap (λ b. cond b None (get log.existing ino)) (eq-eqb ino target same)

  pub logged_apart : (ino : ℕ) → (ino ≡ target → ⊥) → is_logged after ino ≡ is_logged log ino
  logged_apart ino apart = let wholes = written.whole ino apart in let existings = existing_apart ino apart in λ i. is_some (wholes i) || is_some (existings i)

  pub logged_target : (ino : ℕ) → ino ≡ target → is_logged after ino ≡ true
  logged_target ino same = or_left _ _ (ap is_some (ap (get after.whole) same ∙ written.has_target.logged))

  -- an inode that the log doesn't have after the step isn't the target
  other_apart : (ino : ℕ) → is_logged after ino ≡ false → ino ≡ target → ⊥
  other_apart ino f same = true≢false (sym (logged_target ino same) ∙ f)

  data_whole : (ino : ℕ) (whole : WholeInode) → get after.whole ino ≡ Some whole → StandsWhole committed (with_data current logged target) ino whole
  data_whole ino whole at = elim (cases_eq ino target) [
    | inl same ↦
        let has = written.has_target in
        let whole_is : has.whole ≡ whole = some_same has.whole whole (sym has.logged ∙ ap (get after.whole) (sym same) ∙ at) in
        let found : get committed.inodes target ≡ get committed.inodes ino = ap (get committed.inodes) (sym same) in
        record {
          inode = has.inode;
          there = ap (get (with_data current logged target).inodes) same ∙ data_target has.inode has.there;
          changes = subst (λ w. IsWholeOf (get committed.inodes ino) has.inode w) whole_is (subst (λ o. IsWholeOf o has.inode has.whole) found has.changes);
        }
    | inr apart ↦
        let stands = are.is_log.whole ino whole (sym (written.whole ino apart) ∙ at) in
        record { inode = stands.inode; there = data_other ino apart ∙ stands.there; changes = stands.changes }
  ]

  data_existing : (ino : ℕ) (made : InodeRecord) → get after.existing ino ≡ Some made → StandsExisting committed (with_data current logged target) ino made
  data_existing ino made at = elim (cases_eq ino target) [
    | inl same ↦ absurd (some_none made (sym at ∙ existing_target ino same))
    | inr apart ↦
        let stands = are.is_log.existing ino made (sym (existing_apart ino apart) ∙ at) in
        record { inode = stands.inode; there = data_other ino apart ∙ stands.there; created = stands.created; record_is = stands.record_is }
  ]

  data_one_item : (ino : ℕ) (whole : WholeInode) → get after.whole ino ≡ Some whole → get after.existing ino ≡ None
  data_one_item ino whole at = elim (cases_eq ino target) [
    | inl same ↦ existing_target ino same
    | inr apart ↦ existing_apart ino apart ∙ are.is_log.one_item ino whole (sym (written.whole ino apart) ∙ at)
  ]

  -- the names of the log after the step, where it had the target before and where not
  pub names_if_had : is_logged log target ≡ true → after.names ≡ log.names
  names_if_had t = written.names ∙ ap (λ b. cond b log.names (name_set (log.names ++ filter (λ name. leads_to target name && not (is_dropped log name)) committed.names))) t

  pub names_if_new : is_logged log target ≡ false → after.names ≡ name_set (log.names ++ filter (λ name. leads_to target name && not (is_dropped log name)) committed.names)
  names_if_new f = written.names ∙ ap (λ b. cond b log.names (name_set (log.names ++ filter (λ name. leads_to target name && not (is_dropped log name)) committed.names))) f

  data_in_order : is_name_set after.names ≡ true
  data_in_order = elim (is_logged log target) as (λ b. is_logged log target ≡ b → is_name_set after.names ≡ true) [
    | true ↦ λ t. ap is_name_set (names_if_had t) ∙ are.is_log.in_order
    | false ↦ λ f. ap is_name_set (names_if_new f) ∙ is_set_name_set (log.names ++ filter (λ name. leads_to target name && not (is_dropped log name)) committed.names)
  ] refl

  was_logged : (ino : ℕ) → is_logged log ino ≡ true → is_logged after ino ≡ true
  was_logged ino t = elim (cases_eq ino target) [ inl same ↦ logged_target ino same | inr apart ↦ logged_apart ino apart ∙ t ]

  data_names_are : (name : FlatName) → Contains after.names name → Contains (with_data current logged target).names name × (is_logged after name.ino ≡ true)
  data_names_are name c =
      let old : Contains log.names name → Contains (with_data current logged target).names name × (is_logged after name.ino ≡ true) =
      λ d. let was = are.is_log.names_are name d in (subst (λ ns. Contains ns name) (sym data_names) was.0, was_logged name.ino was.1) in
      elim (is_logged log target) as (λ b. is_logged log target ≡ b → Contains (with_data current logged target).names name × (is_logged after name.ino ≡ true)) [
        | true ↦ λ t. old (subst (λ ns. Contains ns name) (names_if_had t) c)
        | false ↦ λ f. elim (Contains-append_cases log.names (filter (λ name. leads_to target name && not (is_dropped log name)) committed.names) name (name_set_gives _ name (subst (λ ns. Contains ns name) (names_if_new f) c))) [
          | inl ours ↦ old ours
          | inr theirs ↦
              let found = filter_contains (λ name. leads_to target name && not (is_dropped log name)) committed.names name theirs in
              let is_target : name.ino ≡ target = eqb-true name.ino target (and_parts _ _ found.1).0 in
              (subst (λ ns. Contains ns name) (sym data_names) (are.is_log.misses_none name (ap (is_logged log) is_target ∙ f) (ap (is_there logged) is_target ∙ there) found.0), logged_target name.ino is_target)
        ]
      ] refl

  data_has_names : (name : FlatName) → Contains (with_data current logged target).names name → is_logged after name.ino ≡ true → Contains after.names name
  data_has_names name c t =
      let here = subst (λ ns. Contains ns name) data_names c in
      elim (is_logged log target) as (λ b. is_logged log target ≡ b → Contains after.names name) [
        | true ↦ λ had. subst (λ ns. Contains ns name) (sym (names_if_had had)) (are.is_log.has_names name here (elim (cases_eq name.ino target) [
          | inl same ↦ ap (is_logged log) same ∙ had
          | inr apart ↦ sym (logged_apart name.ino apart) ∙ t
        ]))
        | false ↦ λ f. subst (λ ns. Contains ns name) (sym (names_if_new f)) (name_set_has (log.names ++ filter (λ name. leads_to target name && not (is_dropped log name)) committed.names) name (elim (cases_eq name.ino target) [
          | inl same ↦
              let was = are.is_log.keeps_names name (ap (is_logged log) same ∙ f) here in
              Contains-append_right log.names _ name (contains_filter (λ name. leads_to target name && not (is_dropped log name)) committed.names name
              (and_from _ _ (eq-eqb name.ino target same) (not_from_false _ (false_from_ne_true _ (λ dropped. are.is_log.drops_lost name was dropped here)))) was)
          | inr apart ↦ Contains-append_left log.names _ name (are.is_log.has_names name here (sym (logged_apart name.ino apart) ∙ t))
        ]))
      ] refl

  -- the log drops what it dropped
  dropped_same : (name : FlatName) → is_dropped after name ≡ is_dropped log name
  dropped_same name = elim (is_dropped log name) as (λ b. is_dropped log name ≡ b → is_dropped after name ≡ b) [
    | true ↦ λ t.
        let parts = dropped_gives log name t in
        dropped_from after name parts.0.0 ((written.ranges parts.0.0).1 parts.0.1) parts.0.2 (λ c. parts.1 ((written.entries (entry_of name)).0 c))
    | false ↦ λ f. false_from_ne_true _ (λ t.
        let parts = dropped_gives after name t in
        true≢false (sym (dropped_from log name parts.0.0 ((written.ranges parts.0.0).0 parts.0.1) parts.0.2 (λ c. parts.1 ((written.entries (entry_of name)).1 c))) ∙ f))
  ] refl

  pub data_writes_log : IsLogOf committed (with_data current logged target) after
  data_writes_log = record {
    whole = data_whole;
    existing = data_existing;
    one_item = data_one_item;
    in_order = data_in_order;
    names_are = data_names_are;
    has_names = data_has_names;
    other_inodes = λ ino f has.
        let apart = other_apart ino f in
        data_other ino apart ∙ are.is_log.other_inodes ino (sym (logged_apart ino apart) ∙ f) (sym (data_there ino) ∙ has);
    keeps_names = λ name f c. are.is_log.keeps_names name (sym (logged_apart name.ino (other_apart name.ino f)) ∙ f) (subst (λ ns. Contains ns name) data_names c);
    misses_none = λ name f has c.
        subst (λ ns. Contains ns name) (sym data_names)
        (are.is_log.misses_none name (sym (logged_apart name.ino (other_apart name.ino f)) ∙ f) (sym (data_there name.ino) ∙ has) c);
    drops_lost = λ name was dropped here. are.is_log.drops_lost name was (sym (dropped_same name) ∙ dropped) (subst (λ ns. Contains ns name) data_names here);
    drops_gone = λ name was absent. dropped_same name ∙ are.is_log.drops_gone name was (sym (data_there name.ino) ∙ absent);
    entries_lead = λ entry c. data_there entry.ino ∙ are.is_log.entries_lead entry ((written.entries entry).0 c);
  }
