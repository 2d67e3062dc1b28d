-- What survives goes on surviving: where less is acknowledged, and where the history goes on.
use Rattle.std.proofs.Common.{◌≡◌, ℕ, ◌≤◌, true, false, cond, List, [], ◌∷◌, ◌++◌, length, take, Option, Some, None, refl, sym, ap, subst, ◌∙◌, arith, inl, inr}
use Rattle.std.specs.Option.{option_map}
use Rattle.std.specs.List.{Contains}
use Rattle.std.specs.FinMap.{get, insert}
use Rattle.std.proofs.lemmas.List.{take-append-le, length-append}
use Rattle.flat_model.specs.Names.{FlatName, names_of, leads_to}
use Rattle.flat_model.specs.Volume.{Subvolume, Volume, RunSub, RunVolume, numbers_at_mount, mounted, volume_of}
use Rattle.flat_model.specs.Coherent.{IsCoherentVolume}
use Rattle.flat_model.specs.Step.{VolumeOutcome, Operated, MayCome, IsHistory, step, place_of, outcome_of, after_one, after_all, volume_at}
use Rattle.flat_model.proofs.Lists.{contains_filter, filter_contains}
use Rattle.flat_model.proofs.Maps.{some_none, get_insert_same, get_insert_other}
use Rattle.flat_model.proofs.Steps.{step_cases}
use Rattle.flat_model.proofs.Histories.{get_mounted, volume_at_coherent}
use Rattle.std.proofs.lemmas.Bool.{eq-eqb, cases_eq}
use Rattle.logged_volume.specs.Agreement.{Agree}
use Rattle.commit_history.specs.State.{Synced}
use Rattle.commit_history.specs.Survival.{IsAtPoint, IsSinceData, IsSinceNames, SubSurvives}
use Rattle.commit_history.proofs.PointsOf.{points_agree, run_at, sub_of_run, grew_between}

-- each fsync of the first list is in the second
abbrev pub AreAmong : List Synced → List Synced → Type 0
AreAmong some all = (fsync : Synced) → Contains some fsync → Contains all fsync

-- ---- where less is acknowledged

module _ (volume : Volume) (history : List Operated) (id early late : ℕ) (before : early ≤ late) (some all : List Synced) (among : AreAmong some all) where
  fewer_data : (ino point : ℕ) → IsSinceData late all ino point → IsSinceData early some ino point
  fewer_data ino point since = record { committed = let c = since.committed in omega (arith, c, before); own = λ fsync c is. since.own fsync (among fsync c) is }

  fewer_names : (ino point : ℕ) → IsSinceNames volume history id late all ino point → IsSinceNames volume history id early some ino point
  fewer_names ino point since = record {
    committed = let c = since.committed in omega (arith, c, before);
    own = λ fsync c names is. since.own fsync (among fsync c) names is;
    in_directory = λ fsync then_ c names at has. since.in_directory fsync then_ (among fsync c) names at has;
  }

  pub weaker : (sub : Subvolume) → SubSurvives volume history id late all sub → SubSurvives volume history id early some sub
  weaker sub survives = record {
    coherent = survives.coherent;
    records = λ ino inode e. let old = survives.records ino inode e in record { point = old.point; there = old.there; at = old.at; since = fewer_data ino old.point old.since; same = old.same };
    names = λ ino inode e. let old = survives.names ino inode e in record {
      point = old.point;
      there = old.there;
      at = old.at;
      since = fewer_names ino old.point old.since;
      in_directory = λ fsync name c names member in_dir. old.in_directory fsync name (among fsync c) names member in_dir;
      same = old.same;
    };
    absence = λ ino e. let old = survives.absence ino e in record {
      point = old.point;
      there = old.there;
      at = old.at;
      since_data = fewer_data ino old.point old.since_data;
      since_names = fewer_names ino old.point old.since_names;
      absent = old.absent;
    };
  }

-- ---- where the history goes on

pub same_volume_at : (volume : Volume) (history more : List Operated) (point : ℕ) → point ≤ length history → volume_at volume (history ++ more) point ≡ volume_at volume history point
same_volume_at volume history more point before = ap (λ h. volume_of (after_all (mounted volume) h)) (take-append-le point history more before)

pub at_longer : (volume : Volume) (history more : List Operated) (id point : ℕ) (sub : Subvolume) → IsAtPoint volume history id point sub → IsAtPoint volume (history ++ more) id point sub
at_longer volume history more id point sub at = (
  let b : point ≤ length history = at.0 in let l = length-append history more in omega (arith, b, l),
  ap (λ v. get v id) (same_volume_at volume history more point at.0) ∙ at.1,
)

pub at_shorter : (volume : Volume) (history more : List Operated) (id point : ℕ) (sub : Subvolume) → point ≤ length history → IsAtPoint volume (history ++ more) id point sub → IsAtPoint volume history id point sub
at_shorter volume history more id point sub before at = (before, ap (λ v. get v id) (sym (same_volume_at volume history more point before)) ∙ at.1)

module _ (volume : Volume) (history more : List Operated) (id committed_at : ℕ) (acknowledged : List Synced) (earlier : (fsync : Synced) → Contains acknowledged fsync → fsync.point ≤ length history) where
  longer_names : (ino point : ℕ) → IsSinceNames volume history id committed_at acknowledged ino point → IsSinceNames volume (history ++ more) id committed_at acknowledged ino point
  longer_names ino point since = record {
    committed = since.committed;
    own = since.own;
    in_directory = λ fsync then_ c names at has. since.in_directory fsync then_ c names (at_shorter volume history more id fsync.point then_ (earlier fsync c) at) has;
  }

  pub longer : (sub : Subvolume) → SubSurvives volume history id committed_at acknowledged sub → SubSurvives volume (history ++ more) id committed_at acknowledged sub
  longer sub survives = record {
    coherent = survives.coherent;
    records = λ ino inode e. let old = survives.records ino inode e in record { point = old.point; there = old.there; at = at_longer volume history more id old.point old.there old.at; since = old.since; same = old.same };
    names = λ ino inode e. let old = survives.names ino inode e in record {
      point = old.point;
      there = old.there;
      at = at_longer volume history more id old.point old.there old.at;
      since = longer_names ino old.point old.since;
      in_directory = old.in_directory;
      same = old.same;
    };
    absence = λ ino e. let old = survives.absence ino e in record {
      point = old.point;
      there = old.there;
      at = at_longer volume history more id old.point old.there old.at;
      since_data = old.since_data;
      since_names = longer_names ino old.point old.since_names;
      absent = old.absent;
    };
  }

-- ---- a point of the history itself

-- a subvolume as it was at a point that isn't before the last full commit and all that is acknowledged survives
pub point_survives : (volume : Volume) (history : List Operated) → IsCoherentVolume volume → IsHistory (mounted volume) history → (id committed_at : ℕ) (acknowledged : List Synced) (point : ℕ) (sub : Subvolume)
    → IsAtPoint volume history id point sub → committed_at ≤ point → ((fsync : Synced) → Contains acknowledged fsync → fsync.point ≤ point) → SubSurvives volume history id committed_at acknowledged sub
point_survives volume history coherent legal id committed_at acknowledged point sub at committed earlier =
    let of_data : (ino : ℕ) → IsSinceData committed_at acknowledged ino point = λ ino. record { committed = committed; own = λ fsync c _. earlier fsync c } in
    let names : (ino : ℕ) → IsSinceNames volume history id committed_at acknowledged ino point = λ ino. record { committed = committed; own = λ fsync c _ _. earlier fsync c; in_directory = λ fsync then_ c _ _ _. earlier fsync c } in
    record {
      coherent = volume_at_coherent volume coherent history legal point id sub at.1;
      records = λ ino inode e. record { point = point; there = sub; at = at; since = of_data ino; same = e };
      names = λ ino inode e. record { point = point; there = sub; at = at; since = names ino; in_directory = λ fsync name c _ _ _. earlier fsync c; same = refl };
      absence = λ ino e. record { point = point; there = sub; at = at; since_data = of_data ino; since_names = names ino; absent = e };
    }

-- ---- what survives agrees

module _ (volume : Volume) (history : List Operated) (coherent : IsCoherentVolume volume) (legal : IsHistory (mounted volume) history) (id committed_at : ℕ) where
  -- each name of what survives was there at a point
  name_was : (acknowledged : List Synced) (sub : Subvolume) → SubSurvives volume history id committed_at acknowledged sub → (name : FlatName) → Contains sub.names name → (point : ℕ) × (there : Subvolume) × (get (volume_at volume history point) id ≡ Some there) × Contains there.names name
  name_was acknowledged sub survives name member =
      let inode = survives.coherent.leads_to_inode name member in
      let was = survives.names name.ino inode.0 inode.1 in
      let own : Contains (names_of sub.names name.ino) name = contains_filter (leads_to name.ino) sub.names name (eq-eqb name.ino name.ino refl) member in
      (was.point, was.there, was.at.1, (filter_contains (leads_to name.ino) was.there.names name (subst (λ l. Contains l name) (sym was.same) own)).0)

  pub survivors_agree : (one_list two_list : List Synced) (one two : Subvolume) → SubSurvives volume history id committed_at one_list one → SubSurvives volume history id committed_at two_list two → Agree one two
  survivors_agree one_list two_list one two first second = record {
    kinds = λ ino here there a b.
        let x = first.records ino here a in
        let y = second.records ino there b in
        (points_agree volume history coherent legal id x.point y.point x.there y.there x.at.1 y.at.1).kinds ino here there x.same y.same;
    indexes = λ here there a b same_dir same_index.
        let x = name_was one_list one first here a in
        let y = name_was two_list two second there b in
        (points_agree volume history coherent legal id x.0 y.0 x.1 y.1 x.2 y.2).indexes here there x.3 y.3 same_dir same_index;
  }

-- ---- histories, one operation more

pub history_more : (run : RunVolume) (history : List Operated) (operated : Operated) → IsHistory run history → MayCome (after_all run history) operated → IsHistory run (history ++ operated ∷ [])
history_more run [] operated legal may = (may, tt)
history_more run (first ∷ history) operated legal may = (legal.0, history_more (after_one run first) history operated legal.1 may)

pub after_more : (run : RunVolume) (history : List Operated) (operated : Operated) → after_all run (history ++ operated ∷ []) ≡ after_one (after_all run history) operated
after_more run [] operated = refl
after_more run (first ∷ history) operated = after_more (after_one run first) history operated

-- an operation keeps each subvolume
step_keeps : (run : RunVolume) (operated : Operated) (id : ℕ) (old : RunSub) → get run id ≡ Some old → (new : RunSub) × (get (after_one run operated) id ≡ Some new)
step_keeps run operated id old there =
    elim operated.short as (λ b. (new : RunSub) × (get (cond b run (step run operated.op operated.indexes).next) id ≡ Some new)) [
      | true ↦ (old, there)
      | false ↦ step_cases (λ (o : VolumeOutcome). (new : RunSub) × (get o.next id ≡ Some new)) run operated.op operated.indexes (old, there) (old, there)
          (λ sub here.
          let next : RunSub = (outcome_of sub operated.op operated.indexes).next in
          elim (cases_eq id (place_of operated.op).sub.0) [
            | inl same ↦ (next, subst (λ q. get (insert run (place_of operated.op).sub.0 next) q ≡ Some next) (sym same) (get_insert_same run (place_of operated.op).sub.0 next))
            | inr other ↦ (old, get_insert_other run (place_of operated.op).sub.0 next id other ∙ there)
          ])
    ]

pub history_keeps : (run : RunVolume) (history : List Operated) (id : ℕ) (old : RunSub) → get run id ≡ Some old → (new : RunSub) × (get (after_all run history) id ≡ Some new)
history_keeps run [] id old there = (old, there)
history_keeps run (operated ∷ history) id old there = let next = step_keeps run operated id old there in history_keeps (after_one run operated) history id next.0 next.1

-- a subvolume that is there at one point is there at each
pub there_at : (volume : Volume) (history : List Operated) → IsHistory (mounted volume) history → (id point : ℕ) (sub : Subvolume) → get volume id ≡ Some sub → (there : Subvolume) × (get (volume_at volume history point) id ≡ Some there)
there_at volume history legal id point sub e =
    let first : get (mounted volume) id ≡ Some (record { sub = sub; numbers = numbers_at_mount sub }) =
    get_mounted volume id ∙ ap (option_map (λ s. record { sub = s; numbers = numbers_at_mount s })) e in
    let later = history_keeps (mounted volume) (take point history) id _ first in
    (later.0.sub, sub_of_run volume history id point later.0 later.1)

-- and was there at the mount
pub was_first : (volume : Volume) (history : List Operated) → IsHistory (mounted volume) history → (id point : ℕ) (sub : Subvolume) → get (volume_at volume history point) id ≡ Some sub → (first : Subvolume) × (get volume id ≡ Some first)
was_first volume history legal id point sub there =
    let run = run_at volume history id point sub there in
    let old = grew_between 0 point (mounted volume) history (omega arith) legal id run.0 run.1 in
    let found = first_of (get volume id) (sym (get_mounted volume id) ∙ old.1) in
    found
  where
    first_of : (o : Option Subvolume) {x : RunSub} → option_map (λ s. record { sub = s; numbers = numbers_at_mount s }) o ≡ Some x → (first : Subvolume) × (o ≡ Some first)
    first_of None {x} e = absurd (some_none x (sym e))
    first_of (Some first) e = (first, refl)
