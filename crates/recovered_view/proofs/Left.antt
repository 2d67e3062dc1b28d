-- The names that replay leaves, of one kind: those of the committed subvolume that it keeps, and then the logged ones.
use Rattle.std.proofs.Common.{◌≡◌, Bool, true, false, not, List, ◌++◌, map, filter, Contains, inl, inr, ◌⊎◌, refl, sym, ap, subst, ◌∙◌}
use Rattle.std.proofs.lemmas.Bool.{true≢false, and_parts, and_from, not-true, not_from_false}
use Rattle.std.proofs.lemmas.List.Elements.{Contains-append_left, Contains-append_right, Contains-append_cases}
use Rattle.std.specs.List.Sorted.{IsPermutation}
use Rattle.std.proofs.lemmas.List.Sorted.{Contains-permutation, IsPermutation-sym}
use Rattle.flat_model.specs.declared.view.NameAt.{NameAt}
use Rattle.flat_model.specs.Coherent.{IsCoherent}
use Rattle.flat_model.specs.Names.{FlatName, name_set}
use Rattle.flat_model.specs.Unmarked.{unmarked}
use Rattle.flat_model.specs.Volume.{Subvolume}
use Rattle.image_faults.specs.Faulty.{StandOnce}
use Rattle.image_faults.specs.Lists.{once_append, once_filter, once_map, once_names, once_permuted, permuted}
use Rattle.logged_volume.specs.Accepted.{IsAccepted}
use Rattle.logged_volume.specs.FlatLog.{FlatLog, is_dropped, is_logged}
use Rattle.logged_volume.specs.Replay.{names_left, replay}
use Rattle.logged_volume.proofs.Members.{name_set_gives, name_set_has}
use Rattle.logged_volume.proofs.Replays.{left_cases, left_has, left_in_order, left_keeps, replay_names}
use Rattle.volume_image.proofs.Members.{filter_in, in_filter, in_map, map_in}
use Rattle.recovered_view.specs.Kept.{is_kept, is_kept_at}

-- two names of one directory and bytes are one, where the names are apart
apart_unmarked : (names : List FlatName) → ((one two : FlatName) → Contains names one → Contains names two → one.dir ≡ two.dir → one.bytes ≡ two.bytes → one ≡ two)
    → (one two : FlatName) → Contains names one → Contains names two → unmarked one ≡ unmarked two → one ≡ two
apart_unmarked names apart one two c d same = apart one two c d (ap (λ (n : NameAt). n.dir.0) same) (ap (λ (n : NameAt). n.name) same)

module _ (committed : Subvolume) (coherent : IsCoherent committed) (log : FlatLog) (accepted : IsAccepted committed log) (said : List FlatName) (once : StandOnce said) (is_said : log.names ≡ name_set said) (p : FlatName → Bool) where
  abbrev left : List FlatName
  left = names_left committed log

  said_left : (name : FlatName) → Contains said name → Contains left name
  said_left name c = left_has committed log name (subst (λ (ns : List FlatName). Contains ns name) (sym is_said) (name_set_has said name c))

  said_logged : (name : FlatName) → Contains said name → is_logged log name.ino ≡ true
  said_logged name c = accepted.named name (subst (λ (ns : List FlatName). Contains ns name) (sym is_said) (name_set_has said name c))

  left_once : StandOnce (map unmarked (filter p left))
  left_once =
      once_map unmarked (filter p left) (λ a b c d e. apart_unmarked left accepted.apart.bytes a b (in_filter p left a c).0 (in_filter p left b d).0 e)
      (once_filter p left (once_names left (left_in_order committed log)))

  said_once : StandOnce (map unmarked (filter p said))
  said_once =
      once_map unmarked (filter p said) (λ a b c d e. apart_unmarked left accepted.apart.bytes a b (said_left a (in_filter p said a c).0) (said_left b (in_filter p said b d).0) e)
      (once_filter p said once)

  committed_once : StandOnce (map unmarked (filter p committed.names))
  committed_once =
      once_map unmarked (filter p committed.names) (λ a b c d e. apart_unmarked committed.names coherent.no_name_twice a b (in_filter p committed.names a c).0 (in_filter p committed.names b d).0 e)
      (once_filter p committed.names (once_names committed.names coherent.in_order))

  -- replay keeps a name whatever its mark is
  kept_unmarked : (name : FlatName) → is_kept_at log (unmarked name) ≡ is_kept log name
  kept_unmarked name = refl

  module _ (given : List NameAt) (are : IsPermutation (map unmarked (filter p committed.names)) given) where
    abbrev kept : List NameAt
    kept = filter (is_kept_at log) given

    abbrev logged : List NameAt
    logged = map unmarked (filter p said)

    from_given : (x : NameAt) → Contains kept x → (name : FlatName) × Contains committed.names name × (p name ≡ true) × (unmarked name ≡ x) × (is_kept log name ≡ true)
    from_given x c =
        let parts = in_filter (is_kept_at log) given x c in
        let named = in_map unmarked (filter p committed.names) x (Contains-permutation given (map unmarked (filter p committed.names)) x (IsPermutation-sym (map unmarked (filter p committed.names)) given are) parts.0) in
        let found = in_filter p committed.names named.0 named.1 in
        (named.0, found.0, found.1, named.2, sym (kept_unmarked named.0) ∙ ap (is_kept_at log) named.2 ∙ parts.1)

    apart : (x : NameAt) → Contains kept x → Contains logged x → ⊥
    apart x c d =
        let here = from_given x c in
        let there = in_map unmarked (filter p said) x d in
        let parts = and_parts (not (is_dropped log here.0)) (not (is_logged log here.0.ino)) here.4 in
        let same = ap (λ (n : NameAt). is_logged log n.ino.0) (here.3 ∙ sym there.2) in
        true≢false (sym (said_logged there.0 (in_filter p said there.0 there.1).0) ∙ sym same ∙ not-true (is_logged log here.0.ino) parts.1)

    after_once : StandOnce (kept ++ logged)
    after_once =
        once_append kept logged (once_filter (is_kept_at log) given (once_permuted (map unmarked (filter p committed.names)) given committed_once (IsPermutation-sym (map unmarked (filter p committed.names)) given are))) said_once apart

    has : (x : NameAt) → Contains (map unmarked (filter p left)) x → Contains (kept ++ logged) x
    has x c =
        let named = in_map unmarked (filter p left) x c in
        let found = in_filter p left named.0 named.1 in
        subst (Contains (kept ++ logged)) named.2 (go named.0 found.1 (left_cases committed log named.0 found.0))
      where
        go : (name : FlatName) → p name ≡ true → Contains log.names name ⊎ (Contains committed.names name × (is_dropped log name ≡ false) × (is_logged log name.ino ≡ false)) → Contains (kept ++ logged) (unmarked name)
        go name holds (inl ours) =
            Contains-append_right kept logged (unmarked name) (map_in unmarked (filter p said) name (filter_in p said name (name_set_gives said name (subst (λ (ns : List FlatName). Contains ns name) is_said ours)) holds))
        go name holds (inr theirs) =
            Contains-append_left kept logged (unmarked name)
            (filter_in (is_kept_at log) given (unmarked name)
            (Contains-permutation (map unmarked (filter p committed.names)) given (unmarked name) are (map_in unmarked (filter p committed.names) name (filter_in p committed.names name theirs.0 holds)))
            (and_from (not (is_dropped log name)) (not (is_logged log name.ino)) (not_from_false (is_dropped log name) theirs.1) (not_from_false (is_logged log name.ino) theirs.2)))

    gives : (x : NameAt) → Contains (kept ++ logged) x → Contains (map unmarked (filter p left)) x
    gives x c = elim (Contains-append_cases kept logged x c) [
      | inl here ↦
          let from = from_given x here in
          let parts = and_parts (not (is_dropped log from.0)) (not (is_logged log from.0.ino)) from.4 in
          subst (Contains (map unmarked (filter p left))) from.3
          (map_in unmarked (filter p left) from.0 (filter_in p left from.0 (left_keeps committed log from.0 from.1 (not-true (is_dropped log from.0) parts.0) (not-true (is_logged log from.0.ino) parts.1)) from.2))
      | inr there ↦
          let named = in_map unmarked (filter p said) x there in
          let found = in_filter p said named.0 named.1 in
          subst (Contains (map unmarked (filter p left))) named.2 (map_in unmarked (filter p left) named.0 (filter_in p left named.0 (said_left named.0 found.0) found.1))
    ]

    pub after_are : IsPermutation (map unmarked (filter p (replay committed log).names)) (kept ++ logged)
    after_are =
        subst (λ (ns : List FlatName). IsPermutation (map unmarked (filter p ns)) (kept ++ logged)) (sym (replay_names committed log))
        (permuted (map unmarked (filter p left)) (kept ++ logged) left_once after_once has gives)
