-- What holds behind all that happened, that calls of the device keep it, and what each image of a crash then stands for.
use Rattle.std.proofs.Common.{◌≡◌, ◌≢◌, ℕ, ◌<◌, List, [], ◌∷◌, ◌++◌, length, Option, Some, None, refl, sym, ap, subst, ◌∙◌, arith, inl, inr}
use Rattle.std.specs.Prelude.{Contains, slice_get, slice_index_or}
use Rattle.std.proofs.lemmas.List.{append-nil}
use Rattle.disk_model.specs.Disk.{Held, Image, IsBlock, Leaves}
use Rattle.disk_model.proofs.CrashLaws.{Contains-cons_cases, Contains-here, Contains-there, Contains-single}
use Rattle.std.proofs.lemmas.List.Elements.{Contains-append_left, Contains-append_right}
use Rattle.flat_model.specs.Volume.{Volume}
use Rattle.flat_model.specs.Coherent.{IsCoherentVolume}
use Rattle.flat_model.proofs.Maps.{some_same, some_none}
use Rattle.commit_history.specs.declared.event.Event.{Event}
use Rattle.commit_history.specs.declared.event.Event.TheVariants as event
use Rattle.commit_history.specs.State.{State, RootCommit, FullCommit, mounted_state, durable_volume}
use Rattle.commit_history.specs.Effects.{after, state_of}
use Rattle.commit_history.specs.Legal.{MayCome, IsLegal}
use Rattle.commit_history.specs.Survival.{next_volumes, tried_from, possible_volumes, volume_by_root, operations_of}
use Rattle.commit_history.proofs.AllHold.{all_survive, holds_after}
use Rattle.commit_history.proofs.StateHolding.{LeftSurvives, next_survive}
use Rattle.commit_images.specs.Scene.{Commit, HasCommit, StandsFor, Progress, NotTried, HasFailed, IsWritten}
use Rattle.commit_images.specs.Images.{StandsBy, commit_done, done_by}
use Rattle.commit_images.proofs.Behind.{state_behind, legal_behind}
use Rattle.commit_images.proofs.Volumes.{next_is, full_part, root_done_durable, full_done_durable}
use Rattle.commit_images.proofs.Disks.{IsSettledAs}

-- a superblock that a crash may find: its volume is the durable one or that of one whose write failed, or it is that of the commit that runs, and was tried
pub data IsKnown (past : List Volume) (batch : Option Commit) (progress : Progress) (commit : Commit) : Type 0 where
  IsPast : Contains past commit.volume → IsKnown past batch progress commit
  IsRunning : batch ≡ Some commit → progress ≢ NotTried → IsKnown past batch progress commit

module _ (Stands : Image → Volume → Type 0) (size : ℕ) (volume : Volume) where
  -- the durable volume behind these events, and those of superblocks whose write failed
  abbrev pub past_of : List Event → List Volume
  past_of events = durable_volume (state_of volume events) ∷ tried_from (mounted_state volume) [] events

  pub record Sound (events : List Event) (held : Held) (found : List Commit) (batch : Option Commit) (progress : Progress) : Type 0 where
    pub legal : IsLegal volume events
    pub size_is : length held.image ≡ size
    pub big : 16 < size
    pub supers : (bytes : List ℕ) → Contains held.supers bytes → IsBlock bytes → (commit : Commit) × Contains found commit × (bytes ≡ commit.superblock)
    pub durable : (commit : Commit) → Contains found commit → (block : ℕ × List ℕ) → Contains commit.blocks block → IsSettledAs held block
    pub stand : (commit : Commit) → Contains found commit → StandsFor Stands size commit
    pub batch_stands : (commit : Commit) → batch ≡ Some commit → StandsFor Stands size commit
    pub known : (commit : Commit) → Contains found commit → IsKnown (past_of events) batch progress commit
    pub written : (commit : Commit) → batch ≡ Some commit → progress ≡ IsWritten → found ≡ commit ∷ []
    pub running : (commit : Commit) → batch ≡ Some commit → next_volumes (state_of volume events) ≡ commit.volume ∷ []
    pub resting : batch ≡ None → next_volumes (state_of volume events) ≡ []

-- ---- an image of a crash

module _ (Stands : Image → Volume → Type 0) (size : ℕ) (volume : Volume) (coherent : IsCoherentVolume volume) where
  pub no_next : (state : State) → next_volumes state ≡ [] → (state.root ≡ None) × (state.full ≡ None)
  no_next state none = each state.root state.full refl refl
    where
      each : (root : Option RootCommit) (full : Option FullCommit) → state.root ≡ root → state.full ≡ full → (root ≡ None) × (full ≡ None)
      each None None a b = (refl, refl)
      each None (Some full) a b = absurd (some_not_none (sym (next_is state None (Some full) a b) ∙ none))
        where
          some_not_none : full.volume ∷ [] ≡ [] → ⊥
          some_not_none e = omega (arith, ap length e)
      each (Some root) full a b = absurd (some_not_none (sym (next_is state (Some root) full a b) ∙ none))
        where
          some_not_none : volume_by_root state root ∷ full_part full ≡ [] → ⊥
          some_not_none e = omega (arith, ap length e)

  -- the commit that runs, once its superblock is written: it may be done, and its volume is then the durable one
  pub done_is : (events : List Event) → IsLegal volume events → (wanted : Volume) → next_volumes (state_of volume events) ≡ wanted ∷ []
      → (e : Event) × (commit_done (state_of volume events).root (state_of volume events).full ≡ e ∷ []) × MayCome (state_of volume events) e × (durable_volume (after (state_of volume events) e) ≡ wanted)
  done_is events legal wanted next = each (state_of volume events).root (state_of volume events).full refl refl
    where
      each : (root : Option RootCommit) (full : Option FullCommit) → (state_of volume events).root ≡ root → (state_of volume events).full ≡ full
          → (e : Event) × (commit_done root full ≡ e ∷ []) × MayCome (state_of volume events) e × (durable_volume (after (state_of volume events) e) ≡ wanted)
      each (Some root) full a b = (
        event.RootDone root.holder,
        refl,
        record { commit = root; runs = a; own = refl },
        root_done_durable (state_of volume events) root.holder root a ∙ head_same (sym (next_is (state_of volume events) (Some root) full a b) ∙ next),
      )
        where
          head_same : volume_by_root (state_of volume events) root ∷ full_part full ≡ wanted ∷ [] → volume_by_root (state_of volume events) root ≡ wanted
          head_same e = some_same (volume_by_root (state_of volume events) root) wanted (ap (λ (vs : List Volume). slice_get vs 0) e)
      each None (Some full) a b = (
        event.FullDone full.holder,
        refl,
        record { commit = full; runs = b; own = refl },
        full_done_durable volume (operations_of events) (state_of volume events) full.holder full b (left full b) ∙ same,
      )
        where
          same : full.volume ≡ wanted
          same = some_same full.volume wanted (ap (λ (vs : List Volume). slice_get vs 0) (sym (next_is (state_of volume events) None (Some full) a b) ∙ next))

          left : (f : FullCommit) → (state_of volume events).full ≡ Some f → LeftSurvives volume (operations_of events) (state_of volume events) full.volume
          left f is = next_survive volume coherent (operations_of events) (tried_from (mounted_state volume) [] events) (state_of volume events) (holds_after volume coherent events legal) full.volume
              (subst (λ vs. Contains vs full.volume) (sym (next_is (state_of volume events) None (Some full) a b)) (Contains-here full.volume []))
      each None None a b = absurd (none_not_some (sym (next_is (state_of volume events) None None a b) ∙ next))
        where
          none_not_some : [] ≡ wanted ∷ [] → ⊥
          none_not_some e = omega (arith, ap length e)

  module _ (events : List Event) (held : Held) (found : List Commit) (batch : Option Commit) (progress : Progress) (sound : Sound Stands size volume events held found batch progress) where
    abbrev S : State
    S = state_of volume events

    -- the volume of each superblock that a crash may find is possible, and the history is legal
    possible : (commit : Commit) → Contains found commit → IsLegal volume (events ++ done_by progress (state_of volume events)) × Contains (possible_volumes volume (events ++ done_by progress (state_of volume events))) commit.volume
    unfolding possible_volumes
    possible commit c = by progress refl
      where
        -- no superblock of the commit that runs is written
        unwritten : (progress ≢ IsWritten) → IsLegal volume (events ++ []) × Contains (possible_volumes volume (events ++ [])) commit.volume
        unwritten not = subst (λ es. IsLegal volume es × Contains (possible_volumes volume es) commit.volume) (sym (append-nil events)) (sound.legal, from (sound.known commit c))
          where
            from : IsKnown (past_of Stands size volume events) batch progress commit → Contains (durable_volume (state_of volume events) ∷ next_volumes (state_of volume events) ++ tried_from (mounted_state volume) [] events) commit.volume
            from (IsPast past) = elim (Contains-cons_cases (durable_volume (state_of volume events)) (tried_from (mounted_state volume) [] events) commit.volume past) [
              | inl same ↦ subst (Contains (durable_volume (state_of volume events) ∷ next_volumes (state_of volume events) ++ tried_from (mounted_state volume) [] events)) same (Contains-here _ _)
              | inr tried ↦ Contains-there _ _ _ (Contains-append_right (next_volumes (state_of volume events)) (tried_from (mounted_state volume) [] events) commit.volume tried)
            ]
            from (IsRunning runs tried) = Contains-there _ _ _ (Contains-append_left (next_volumes (state_of volume events)) (tried_from (mounted_state volume) [] events) commit.volume
                (subst (λ vs. Contains vs commit.volume) (sym (sound.running commit runs)) (Contains-here commit.volume [])))

        -- it is written
        done : progress ≡ IsWritten → (o : Option Commit) → batch ≡ o → IsLegal volume (events ++ commit_done S.root S.full) × Contains (possible_volumes volume (events ++ commit_done S.root S.full)) commit.volume
        done is None rests =
            let none = no_next S (sound.resting rests) in
            let nothing : commit_done S.root S.full ≡ [] = ap (λ o. commit_done o S.full) none.0 ∙ ap (commit_done None) none.1 in
            subst (λ es. IsLegal volume (events ++ es) × Contains (possible_volumes volume (events ++ es)) commit.volume) (sym nothing)
            (subst (λ es. IsLegal volume es × Contains (possible_volumes volume es) commit.volume) (sym (append-nil events)) (sound.legal, from (sound.known commit c)))
          where
            from : IsKnown (past_of Stands size volume events) batch progress commit → Contains (durable_volume S ∷ next_volumes S ++ tried_from (mounted_state volume) [] events) commit.volume
            from (IsPast past) = elim (Contains-cons_cases (durable_volume S) (tried_from (mounted_state volume) [] events) commit.volume past) [
              | inl same ↦ subst (Contains (durable_volume S ∷ next_volumes S ++ tried_from (mounted_state volume) [] events)) same (Contains-here _ _)
              | inr tried ↦ Contains-there _ _ _ (Contains-append_right (next_volumes S) (tried_from (mounted_state volume) [] events) commit.volume tried)
            ]
            from (IsRunning runs tried) = absurd (some_none commit (sym runs ∙ rests))
        done is (Some running) runs =
            let d = done_is events sound.legal running.volume (sound.running running runs) in
            let own : commit ≡ running = Contains-single running commit (subst (λ cs. Contains cs commit) (sound.written running runs is) c) in
            let behind = state_behind (mounted_state volume) events d.0 in
            let durable : durable_volume (state_of volume (events ++ d.0 ∷ [])) ≡ commit.volume = ap durable_volume behind ∙ d.3 ∙ ap (λ (x : Commit). x.volume) (sym own) in
            subst (λ es. IsLegal volume (events ++ es) × Contains (possible_volumes volume (events ++ es)) commit.volume) (sym d.1) (
              legal_behind (mounted_state volume) events d.0 sound.legal d.2,
              subst (Contains (durable_volume (state_of volume (events ++ d.0 ∷ [])) ∷ next_volumes (state_of volume (events ++ d.0 ∷ [])) ++ tried_from (mounted_state volume) [] (events ++ d.0 ∷ []))) durable (Contains-here _ _),
            )

        by : (p : Progress) → progress ≡ p → IsLegal volume (events ++ done_by p (state_of volume events)) × Contains (possible_volumes volume (events ++ done_by p (state_of volume events))) commit.volume
        by NotTried is = unwritten (λ w. clash (sym is ∙ w))
          where
            clash : NotTried ≡ IsWritten → ⊥
            clash e = grind (arith, e)
        by HasFailed is = unwritten (λ w. clash (sym is ∙ w))
          where
            clash : HasFailed ≡ IsWritten → ⊥
            clash e = grind (arith, e)
        by IsWritten is = done is batch refl

    pub image_stands : (image : Image) → Leaves held image → StandsBy Stands (events ++ done_by progress (state_of volume events)) volume image
    image_stands image leaves =
        let size_is = leaves.size ∙ sound.size_is in
        let big = sound.big in
        let commit = sound.supers (slice_index_or image 16 []) leaves.super (leaves.blocks 16 [] (omega (arith, size_is, big))) in
        let has : HasCommit image commit.0 = record {
          superblock = commit.2;
          blocks = λ block c. let is = sound.durable commit.0 commit.1 block c in leaves.others block.0 is.not_super is.settled ∙ is.reads;
        } in
        let own = possible commit.0 commit.1 in
        record {
          volume = commit.0.volume;
          stands = sound.stand commit.0 commit.1 image leaves.blocks size_is has;
          possible = own.1;
          survives = all_survive volume coherent (events ++ done_by progress (state_of volume events)) own.0 commit.0.volume own.1;
        }
