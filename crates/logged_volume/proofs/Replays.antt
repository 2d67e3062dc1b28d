-- Replay of a log that says what R is leaves R, and a mount accepts that log.
use Rattle.std.proofs.Common.{◌≡◌, ℕ, ◌<◌, true, false, cond, not, ◌&&◌, ◌||◌, List, ◌++◌, Option, Some, None, refl, sym, ap, subst, ◌∙◌, arith, inl, inr, ◌⊎◌}
use Rattle.std.specs.Bool.{nat_eq, nat_lt}
use Rattle.std.specs.Option.{is_some, unwrap_or}
use Rattle.std.specs.Cmp.{nat_cmp_total}
use Rattle.std.specs.List.{Contains, filter}
use Rattle.std.specs.FinMap.{get, keys, same_map, nat_cmp-IsAntisymmetric, get-retain_keys}
use Rattle.std.proofs.lemmas.Bool.{true≢false, or_cases, or_left, or_right, or_parts, and_parts, and_from, eqb-true, eq-eqb, ne_eqb, lt-ltb, not-true, not_from_false, not_from_true, cases_eq, cases_Bool}
use Rattle.std.proofs.lemmas.List.Elements.{Contains-append_left, Contains-append_right, Contains-append_cases}
use Rattle.flat_model.specs.Records.{InodeRecord, FileInode, DirInode, LinkInode, kind_of, at_creation}
use Rattle.flat_model.specs.Names.{FlatName, is_name_set, name_set, links_of}
use Rattle.flat_model.specs.Volume.{Subvolume}
use Rattle.flat_model.specs.Coherent.{IsCoherent, IsLinkCount}
use Rattle.flat_model.proofs.Lists.{contains_filter, filter_contains}
use Rattle.flat_model.proofs.NameSets.{same_name_set}
use Rattle.flat_model.proofs.OneName.{no_links}
use Rattle.logged_volume.specs.Numbers.{map_of}
use Rattle.logged_volume.specs.Agreement.{Agree, is_there}
use Rattle.logged_volume.specs.FlatLog.{FlatLog, is_logged, is_dropped}
use Rattle.logged_volume.specs.Replay.{replayed_inode, replayed_record, drop_ranged, drop_logged, add_logged, replay, names_left}
use Rattle.logged_volume.specs.Accepted.{AreApart, IsAccepted}
use Rattle.logged_volume.specs.Standing.{IsLogOf}
use Rattle.logged_volume.proofs.Members.{name_set_has, name_set_gives, is_set_name_set, get_map_of_all, key_is_in}
use Rattle.logged_volume.proofs.SameKinds.{creation_kind}
use Rattle.logged_volume.proofs.Stepped.{there_from, dir_is_there}
use Rattle.logged_volume.proofs.Wholes.{whole_restored, whole_kind, whole_limits, creation_twice}

-- ---- names

module _ (committed : Subvolume) (log : FlatLog) where
  pub left_cases : (q : FlatName) → Contains (names_left committed log) q → Contains log.names q ⊎ (Contains committed.names q × (is_dropped log q ≡ false) × (is_logged log q.ino ≡ false))
  unfolding names_left
  left_cases q c =
      elim (Contains-append_cases log.names (filter (λ name. not (is_dropped log name) && not (is_logged log name.ino)) committed.names) q (name_set_gives _ q c)) [
        | inl ours ↦ inl ours
        | inr theirs ↦
            let found = filter_contains (λ name. not (is_dropped log name) && not (is_logged log name.ino)) committed.names q theirs in
            let parts = and_parts _ _ found.1 in
            inr (found.0, not-true (is_dropped log q) parts.0, not-true (is_logged log q.ino) parts.1)
      ]

  pub left_has : (q : FlatName) → Contains log.names q → Contains (names_left committed log) q
  unfolding names_left
  left_has q c = name_set_has (log.names ++ filter (λ name. not (is_dropped log name) && not (is_logged log name.ino)) committed.names) q (Contains-append_left log.names _ q c)

  pub left_keeps : (q : FlatName) → Contains committed.names q → is_dropped log q ≡ false → is_logged log q.ino ≡ false → Contains (names_left committed log) q
  unfolding names_left
  left_keeps q c kept other =
      name_set_has (log.names ++ filter (λ name. not (is_dropped log name) && not (is_logged log name.ino)) committed.names) q
      (Contains-append_right log.names _ q (contains_filter (λ name. not (is_dropped log name) && not (is_logged log name.ino)) committed.names q (and_from _ _ (not_from_false _ kept) (not_from_false _ other)) c))

  pub left_in_order : is_name_set (names_left committed log) ≡ true
  unfolding names_left
  left_in_order = is_set_name_set (log.names ++ filter (λ name. not (is_dropped log name) && not (is_logged log name.ino)) committed.names)

  -- the names after replay are those
  pub replay_names : (replay committed log).names ≡ names_left committed log
  unfolding replay
  replay_names =
      let kept : List FlatName = filter (λ name. not (is_logged log name.ino)) (filter (λ name. not (is_dropped log name)) committed.names) in
      same_name_set (name_set (log.names ++ kept)) (names_left committed log) (is_set_name_set (log.names ++ kept)) left_in_order
      (λ q c. elim (Contains-append_cases log.names kept q (name_set_gives (log.names ++ kept) q c)) [
        | inl ours ↦ left_has q ours
        | inr theirs ↦
            let one = filter_contains (λ (name : FlatName). not (is_logged log name.ino)) (filter (λ name. not (is_dropped log name)) committed.names) q theirs in
            let two = filter_contains (λ name. not (is_dropped log name)) committed.names q one.0 in
            left_keeps q two.0 (not-true (is_dropped log q) two.1) (not-true (is_logged log q.ino) one.1)
      ])
      (λ q c. elim (left_cases q c) [
        | inl ours ↦ name_set_has (log.names ++ kept) q (Contains-append_left log.names kept q ours)
        | inr theirs ↦ name_set_has (log.names ++ kept) q (Contains-append_right log.names kept q
            (contains_filter (λ (name : FlatName). not (is_logged log name.ino)) _ q (not_from_false _ theirs.2) (contains_filter (λ name. not (is_dropped log name)) committed.names q (not_from_false _ theirs.1) theirs.0)))
      ])

  -- ---- records

  record_only : (ino : ℕ) (inode : InodeRecord) → replayed_record committed log ino ≡ Some inode → Contains (keys committed.inodes ++ keys log.whole ++ keys log.existing) ino
  record_only ino inode e =
      elim (get log.whole ino) as (λ o. get log.whole ino ≡ o → elim o [ None ↦ elim (get committed.inodes ino) [ None ↦ get log.existing ino | Some inode ↦ Some inode ] | Some whole ↦ Some (replayed_inode (get committed.inodes ino) whole) ] ≡ Some inode → Contains (keys committed.inodes ++ keys log.whole ++ keys log.existing) ino) [
        | Some whole ↦ λ there _. Contains-append_left (keys committed.inodes ++ keys log.whole) (keys log.existing) ino (Contains-append_right (keys committed.inodes) (keys log.whole) ino (key_is_in log.whole ino whole there))
        | None ↦ λ _ s. elim (get committed.inodes ino) as (λ o. get committed.inodes ino ≡ o → elim o [ None ↦ get log.existing ino | Some inode ↦ Some inode ] ≡ Some inode → Contains (keys committed.inodes ++ keys log.whole ++ keys log.existing) ino) [
          | Some was ↦ λ there _. Contains-append_left (keys committed.inodes ++ keys log.whole) (keys log.existing) ino (Contains-append_left (keys committed.inodes) (keys log.whole) ino (key_is_in committed.inodes ino was there))
          | None ↦ λ _ t. Contains-append_right (keys committed.inodes ++ keys log.whole) (keys log.existing) ino (key_is_in log.existing ino inode t)
        ] refl s
      ] refl e

  pub replay_record : (ino : ℕ) → get (replay committed log).inodes ino ≡ cond (nat_eq ino 256 || nat_lt 0 (links_of (names_left committed log) ino)) (replayed_record committed log ino) None
  unfolding replay
  replay_record ino =
      let names : List FlatName = (add_logged log (drop_logged log (drop_ranged log committed))).names in
      let has_name = λ (i : ℕ). nat_eq i 256 || nat_lt 0 (links_of names i) in
      let same : names ≡ names_left committed log = replay_names in
      get-retain_keys (map_of (keys committed.inodes ++ keys log.whole ++ keys log.existing) (replayed_record committed log)) has_name ino (λ x tied. ap has_name (sym (nat_cmp-IsAntisymmetric ino x tied)))
      ∙ ap (λ o. cond (has_name ino) o None) (get_map_of_all (keys committed.inodes ++ keys log.whole ++ keys log.existing) (replayed_record committed log) record_only ino)
      ∙ ap (λ ns. cond (nat_eq ino 256 || nat_lt 0 (links_of ns ino)) (replayed_record committed log ino) None) same

some_link : (inode : InodeRecord) (count : ℕ) → IsLinkCount inode count → 0 < count
some_link (FileInode file) count c = let low = c.0 in omega arith
some_link (DirInode dir) count c = omega (arith, c)
some_link (LinkInode link) count c = let low = c.0 in omega arith

module _ (committed logged : Subvolume) (log : FlatLog) (coherent : IsCoherent logged) (is : IsLogOf committed logged log) where
  logged_is_there : (ino : ℕ) → is_logged log ino ≡ true → is_there logged ino ≡ true
  logged_is_there ino t = elim (or_cases _ _ t) [
    | inl whole ↦ let found = given (get log.whole ino) whole in let stands = is.whole ino found.0 found.1 in there_from logged ino stands.inode stands.there
    | inr existing ↦ let found = given (get log.existing ino) existing in let stands = is.existing ino found.0 found.1 in there_from logged ino stands.inode stands.there
  ]
    where
      given : {A : Type 0} (o : Option A) → is_some o ≡ true → (x : A) × (o ≡ Some x)
      given None e = absurd (true≢false (sym e))
      given (Some x) e = (x, refl)

  name_is_there : (q : FlatName) → Contains logged.names q → is_there logged q.ino ≡ true
  name_is_there q c = let found = coherent.leads_to_inode q c in there_from logged q.ino found.0 found.1

  pub left_is : names_left committed log ≡ logged.names
  left_is =
      same_name_set (names_left committed log) logged.names (left_in_order committed log) coherent.in_order
      (λ q c. elim (left_cases committed log q c) [
        | inl ours ↦ (is.names_are q ours).0
        | inr theirs ↦ elim (is_there logged q.ino) as (λ b. is_there logged q.ino ≡ b → Contains logged.names q) [
          | true ↦ λ there. is.misses_none q theirs.2 there theirs.0
          | false ↦ λ absent. absurd (true≢false (sym (is.drops_gone q theirs.0 absent) ∙ theirs.1))
        ] refl
      ])
      (λ q c. elim (is_logged log q.ino) as (λ b. is_logged log q.ino ≡ b → Contains (names_left committed log) q) [
        | true ↦ λ t. left_has committed log q (is.has_names q c t)
        | false ↦ λ f.
            let was = is.keeps_names q f c in
            elim (is_dropped log q) as (λ b. is_dropped log q ≡ b → Contains (names_left committed log) q) [
              | true ↦ λ t. absurd (is.drops_lost q was t c)
              | false ↦ λ kept. left_keeps committed log q was kept f
            ] refl
      ] refl)

  -- the record that replay takes of an inode of R is R's
  record_is : (ino : ℕ) (inode : InodeRecord) → get logged.inodes ino ≡ Some inode → replayed_record committed log ino ≡ Some inode
  record_is ino inode there =
      elim (get log.whole ino) as (λ o. get log.whole ino ≡ o → elim o [ None ↦ elim (get committed.inodes ino) [ None ↦ get log.existing ino | Some inode ↦ Some inode ] | Some whole ↦ Some (replayed_inode (get committed.inodes ino) whole) ] ≡ Some inode) [
        | Some whole ↦ λ at.
            let stands = is.whole ino whole at in
            ap Some (whole_restored (get committed.inodes ino) stands.inode whole stands.changes (coherent.limits ino stands.inode stands.there)) ∙ sym stands.there ∙ there
        | None ↦ λ not_whole. elim (get log.existing ino) as (λ o. get log.existing ino ≡ o → elim (get committed.inodes ino) [ None ↦ o | Some inode ↦ Some inode ] ≡ Some inode) [
          | Some made ↦ λ at.
              let stands = is.existing ino made at in
              (existing_is (get committed.inodes ino) made ∙ ap Some (sym stands.record_is)) ∙ sym stands.there ∙ there
          | None ↦ λ not_existing.
              let other : is_logged log ino ≡ false = Rattle.std.proofs.lemmas.Bool.or_from _ _ (ap is_some not_whole) (ap is_some not_existing) in
              other_is (get committed.inodes ino) inode (sym (is.other_inodes ino other (there_from logged ino inode there)) ∙ there)
        ] refl
      ] refl
    where
      existing_is : (o : Option InodeRecord) (made : InodeRecord) → elim o as (λ _. Option InodeRecord) [ None ↦ Some made | Some inode ↦ Some inode ] ≡ Some (unwrap_or o made)
      existing_is None made = refl
      existing_is (Some was) made = refl

      other_is : (o : Option InodeRecord) (inode : InodeRecord) → o ≡ Some inode → elim o as (λ _. Option InodeRecord) [ None ↦ None | Some inode ↦ Some inode ] ≡ Some inode
      other_is None inode e = e
      other_is (Some was) inode e = e

  inode_is : (ino : ℕ) → get (replay committed log).inodes ino ≡ get logged.inodes ino
  inode_is ino =
      let has_name = λ (names : List FlatName). nat_eq ino 256 || nat_lt 0 (links_of names ino) in
      replay_record committed log ino ∙ ap (λ ns. cond (has_name ns) (replayed_record committed log ino) None) left_is
      ∙ (elim (get logged.inodes ino) as (λ o. get logged.inodes ino ≡ o → cond (has_name logged.names) (replayed_record committed log ino) None ≡ o) [
        | Some inode ↦ λ there.
            let named : has_name logged.names ≡ true = elim (cases_eq ino 256) [
              | inl root ↦ or_left _ _ (eq-eqb ino 256 root)
              | inr other ↦ or_right (nat_eq ino 256) _ (lt-ltb 0 _ (some_link inode _ (coherent.link_counts ino inode there other)))
            ] in
            ap (λ b. cond b (replayed_record committed log ino) None) named ∙ record_is ino inode there
        | None ↦ λ absent.
            let not_root : ino ≡ 256 → ⊥ = λ same. true≢false (sym (dir_is_there logged 256 coherent.root_is_dir) ∙ ap is_some (sym (ap (get logged.inodes) same) ∙ absent)) in
            let nameless : has_name logged.names ≡ false = Rattle.std.proofs.lemmas.Bool.or_from _ _ (ne_eqb ino 256 not_root) (ap (nat_lt 0) (no_links logged coherent ino absent)) in
            ap (λ b. cond b (replayed_record committed log ino) None) nameless
      ] refl)

  pub replay_is : replay committed log ≡ logged
  replay_is =
      let inodes : (replay committed log).inodes ≡ logged.inodes = same_map nat_cmp_total nat_cmp-IsAntisymmetric _ logged.inodes inode_is in
      let names : (replay committed log).names ≡ logged.names = replay_names committed log ∙ left_is in
      λ i. record { inodes = inodes i; names = names i }

  pub log_accepted : Agree committed logged → IsAccepted committed log
  log_accepted agree = record {
    in_order = is.in_order;
    named = λ name c. (is.names_are name c).1;
    root_has_no_name = λ name c. coherent.root_has_no_name name (is.names_are name c).0;
    one_item = is.one_item;
    whole_kinds = λ ino was whole there at.
        let stands = is.whole ino whole at in
        agree.kinds ino was stands.inode there stands.there ∙ whole_kind (get committed.inodes ino) stands.inode whole stands.changes;
    existing_kinds = λ ino was made there at.
        let stands = is.existing ino made at in
        agree.kinds ino was stands.inode there stands.there ∙ sym (ap kind_of stands.created ∙ creation_kind stands.inode);
    limits = λ ino whole at. let stands = is.whole ino whole at in whole_limits (get committed.inodes ino) stands.inode whole stands.changes (coherent.limits ino stands.inode stands.there);
    created = λ ino made at. let stands = is.existing ino made at in ap at_creation stands.created ∙ creation_twice stands.inode ∙ sym stands.created;
    apart = subst AreApart (sym left_is) (record { indexes = coherent.no_index_twice; bytes = coherent.no_name_twice; entries = coherent.items_fit.entries });
  }
