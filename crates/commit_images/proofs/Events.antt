-- Calls of the device and events keep what holds, and so each image of a crash stands for a volume that survives.
use Rattle.std.proofs.Common.{◌≡◌, ◌≢◌, ℕ, Bool, true, false, cond, List, [], ◌∷◌, ◌++◌, length, Option, Some, None, refl, sym, ap, subst, ◌∙◌, arith, inl, inr}
use Rattle.std.specs.Prelude.{Contains, slice_get}
use Rattle.std.specs.Bool.{nat_eq}
use Rattle.std.specs.Option.{option_map}
use Rattle.std.specs.Cmp.{nat_cmp_total}
use Rattle.std.specs.FinMap.{get, same_map, nat_cmp-IsAntisymmetric}
use Rattle.std.proofs.lemmas.Bool.{true≢false, eq-eqb}
use Rattle.std.proofs.lemmas.List.{length-set}
use Rattle.std.proofs.lemmas.List.Elements.{Contains-append_left, Contains-append_right}
use Rattle.disk_model.specs.Disk.{Call, Held, Image, Leaves, after_call}
use Rattle.disk_model.proofs.CrashLaws.{Contains-cons_cases, Contains-here, Contains-there, Contains-single}
use Rattle.flat_model.specs.Volume.{Subvolume, Volume, volume_of}
use Rattle.flat_model.specs.Coherent.{IsCoherentVolume}
use Rattle.flat_model.proofs.Maps.{some_same, some_none}
use Rattle.commit_history.specs.declared.event.Event.{Event}
use Rattle.commit_history.specs.declared.event.Event.TheVariants as event
use Rattle.commit_history.specs.declared.event.Turn.{Turn}
use Rattle.commit_history.specs.declared.event.Turn.TheVariants as turns
use Rattle.commit_history.specs.declared.event.Logged.{Logged}
use Rattle.commit_history.specs.declared.event.Logged.TheVariants as logged
use Rattle.commit_history.specs.State.{SubLog, State, RootCommit, FullCommit, HasLog, bare_log, changed, mounted_state, durable_volume, number_taken}
use Rattle.commit_history.specs.Effects.{after, log_after, log_failed, log_stepped, log_taken, numbers_ready, root_without, full_without, slots_written, slots_without, state_after_step, state_of}
use Rattle.commit_history.specs.Legal.{MayCome, MayFail, MaySealRoot, MaySealFull, HoldsRoot, HoldsFull}
use Rattle.commit_history.specs.Survival.{next_volumes, tried_after, tried_from, volume_by_root, operations_of}
use Rattle.commit_history.proofs.AllHold.{holds_after}
use Rattle.commit_history.proofs.StateHolding.{Holds, next_survive}
use Rattle.commit_history.proofs.Maps.{get_changed}
use Rattle.commit_images.specs.Scene.{Commit, Reaches, StandsFor, Handed, Batch, Happening, Comes, Writes, Flushes, WritesSuper, WritesAgain, Progress, NotTried, HasFailed, IsWritten, Scene, Mounted, scene_after, scene_after_event, scene_after_super, scene_after_again, during_super, first_of, held_during, first_scene}
use Rattle.commit_images.specs.Admissible.{HandsOut, IsHanded, IsFailureOf, TellsOutcome, IsDurable, IsSettled, IsReached, MayHappen, AreAdmissible, CommitsStand, has_failed}
use Rattle.commit_images.specs.Images.{StandsBy, history_in, EachImageStands, IsMountedBy, done_by}
use Rattle.commit_images.proofs.Behind.{state_behind, tried_behind, legal_behind}
use Rattle.commit_images.proofs.Volumes.{KeepsDurable, LeavesAlone, left_alone, same_alone, stepped_alone, either_alone, kept_logs, durable_kept, by_root_kept, next_kept, next_is, sealing_keeps, root_done_durable, full_done_durable}
use Rattle.commit_images.proofs.Disks.{IsSettledAs, write_keeps, super_keeps, flush_keeps, write_running, super_running}
use Rattle.commit_images.proofs.Sounds.{IsKnown, IsPast, IsRunning, Sound, past_of, image_stands}

clash_failed : HasFailed ≡ IsWritten → ⊥
clash_failed e = grind (arith, e)

clash_written : IsWritten ≡ NotTried → ⊥
clash_written e = grind (arith, e)

clash_tried : HasFailed ≡ NotTried → ⊥
clash_tried e = grind (arith, e)

clash_not : NotTried ≡ IsWritten → ⊥
clash_not e = grind (arith, e)

module _ (Stands : Image → Volume → Type 0) (size : ℕ) (volume : Volume) where
  -- ---- calls of the device

  abbrev pub SoundIn : Scene → Type 0
  SoundIn scene = Sound Stands size volume scene.events scene.held scene.found scene.batch scene.progress

  pub write_sound : (scene : Scene) (at : ℕ) (bytes : List ℕ) (ok : Bool) (left : List ℕ) → ((commit : Commit) → Contains scene.found commit → Reaches commit at → ⊥) → SoundIn scene
      → Sound Stands size volume scene.events (after_call scene.held (Call.Write at bytes ok left)) scene.found scene.batch scene.progress
  write_sound scene at bytes ok left unreached sound = record {
    legal = sound.legal;
    size_is = length-set scene.held.image at left ∙ sound.size_is;
    big = sound.big;
    supers = sound.supers;
    durable = λ commit c block b. write_keeps scene.held at bytes ok left block (λ same. unreached commit c (block, b, same)) (sound.durable commit c block b);
    stand = sound.stand;
    batch_stands = sound.batch_stands;
    known = sound.known;
    written = sound.written;
    running = sound.running;
    resting = sound.resting;
  }

  pub flush_sound : (scene : Scene) (ok : Bool) → SoundIn scene → Sound Stands size volume scene.events (after_call scene.held (Call.Flush ok)) scene.found scene.batch scene.progress
  flush_sound scene ok sound = record {
    legal = sound.legal;
    size_is = sound.size_is;
    big = sound.big;
    supers = sound.supers;
    durable = λ commit c block b. flush_keeps scene.held ok block (sound.durable commit c block b);
    stand = sound.stand;
    batch_stands = sound.batch_stands;
    known = sound.known;
    written = sound.written;
    running = sound.running;
    resting = sound.resting;
  }

  is_settled : (scene : Scene) → SoundIn scene → (block : ℕ × List ℕ) → IsDurable scene block → IsSettledAs scene.held block
  is_settled scene sound block (IsSettled not_super settled reads) = record { not_super = not_super; settled = settled; reads = reads }
  is_settled scene sound block (IsReached commit c b) = sound.durable commit c block b

  abbrev pub progress_by : Bool → Progress
  progress_by ok = cond ok IsWritten HasFailed

  -- the superblock of the commit that runs is written
  pub super_sound : (scene : Scene) (commit : Commit) (ok : Bool) (left : List ℕ) → scene.batch ≡ Some commit → scene.progress ≡ NotTried → ((block : ℕ × List ℕ) → Contains commit.blocks block → IsDurable scene block) → SoundIn scene
      → Sound Stands size volume scene.events (after_call scene.held (Call.Super commit.superblock ok left)) (cond ok (commit ∷ []) (commit ∷ scene.found)) scene.batch (progress_by ok)
  super_sound scene commit true left runs first_time durable sound = record {
    legal = sound.legal;
    size_is = length-set scene.held.image 16 left ∙ sound.size_is;
    big = sound.big;
    supers = λ bytes c block. (commit, Contains-here commit [], Contains-single commit.superblock bytes c);
    durable = λ other c block b. super_keeps scene.held commit.superblock true left block (is_settled scene sound block (durable block (subst (λ (x : Commit). Contains x.blocks block) (Contains-single commit other c) b)));
    stand = λ other c. subst (StandsFor Stands size) (sym (Contains-single commit other c)) (sound.batch_stands commit runs);
    batch_stands = sound.batch_stands;
    known = λ other c. IsRunning (subst (λ x. scene.batch ≡ Some x) (sym (Contains-single commit other c)) runs) clash_written;
    written = λ other is _. ap (λ x. x ∷ []) (some_same commit other (sym runs ∙ is));
    running = sound.running;
    resting = sound.resting;
  }
  super_sound scene commit false left runs first_time durable sound = record {
    legal = sound.legal;
    size_is = length-set scene.held.image 16 left ∙ sound.size_is;
    big = sound.big;
    supers = λ bytes c block. elim (Contains-cons_cases commit.superblock scene.held.supers bytes c) [
      | inl same ↦ (commit, Contains-here commit scene.found, sym same)
      | inr old ↦ let was = sound.supers bytes old block in (was.0, Contains-there commit scene.found was.0 was.1, was.2)
    ];
    durable = λ other c block b. super_keeps scene.held commit.superblock false left block (elim (Contains-cons_cases commit scene.found other c) [
      | inl same ↦ is_settled scene sound block (durable block (subst (λ (x : Commit). Contains x.blocks block) (sym same) b))
      | inr old ↦ sound.durable other old block b
    ]);
    stand = λ other c. elim (Contains-cons_cases commit scene.found other c) [ inl same ↦ subst (StandsFor Stands size) same (sound.batch_stands commit runs) | inr old ↦ sound.stand other old ];
    batch_stands = sound.batch_stands;
    known = λ other c. elim (Contains-cons_cases commit scene.found other c) [
      | inl same ↦ IsRunning (subst (λ x. scene.batch ≡ Some x) same runs) clash_tried
      | inr old ↦ still other (sound.known other old)
    ];
    written = λ other is failed. absurd (clash_failed failed);
    running = sound.running;
    resting = sound.resting;
  }
    where
      still : (other : Commit) → IsKnown (past_of Stands size volume scene.events) scene.batch scene.progress other → IsKnown (past_of Stands size volume scene.events) scene.batch HasFailed other
      still other (IsPast past) = IsPast past
      still other (IsRunning is tried) = IsRunning is clash_tried

  -- the superblock whose write failed last is written again
  pub again_sound : (scene : Scene) (commit other : Commit) (others : List Commit) (ok : Bool) (left : List ℕ) → scene.found ≡ commit ∷ other ∷ others → SoundIn scene
      → Sound Stands size volume scene.events (after_call scene.held (Call.Super commit.superblock ok left)) (cond ok (commit ∷ []) (commit ∷ other ∷ others)) scene.batch scene.progress
  again_sound scene commit other others true left found sound =
      let here : Contains scene.found commit = subst (λ cs. Contains cs commit) (sym found) (Contains-here commit (other ∷ others)) in
      record {
        legal = sound.legal;
        size_is = length-set scene.held.image 16 left ∙ sound.size_is;
        big = sound.big;
        supers = λ bytes c block. (commit, Contains-here commit [], Contains-single commit.superblock bytes c);
        durable = λ x c block b. super_keeps scene.held commit.superblock true left block (sound.durable commit here block (subst (λ (x : Commit). Contains x.blocks block) (Contains-single commit x c) b));
        stand = λ x c. subst (StandsFor Stands size) (sym (Contains-single commit x c)) (sound.stand commit here);
        batch_stands = sound.batch_stands;
        known = λ x c. subst (IsKnown (past_of Stands size volume scene.events) scene.batch scene.progress) (sym (Contains-single commit x c)) (sound.known commit here);
        written = λ x is done. absurd (longer x (sym found ∙ sound.written x is done));
        running = sound.running;
        resting = sound.resting;
      }
    where
      longer : (x : Commit) → commit ∷ other ∷ others ≡ x ∷ [] → ⊥
      longer x e = omega (arith, ap length e)
  again_sound scene commit other others false left found sound =
      let here : Contains scene.found commit = subst (λ cs. Contains cs commit) (sym found) (Contains-here commit (other ∷ others)) in
      record {
        legal = sound.legal;
        size_is = length-set scene.held.image 16 left ∙ sound.size_is;
        big = sound.big;
        supers = λ bytes c block. elim (Contains-cons_cases commit.superblock scene.held.supers bytes c) [
          | inl same ↦ (commit, Contains-here commit (other ∷ others), sym same)
          | inr old ↦ let was = sound.supers bytes old block in (was.0, subst (λ cs. Contains cs was.0) found was.1, was.2)
        ];
        durable = λ x c block b. super_keeps scene.held commit.superblock false left block (sound.durable x (subst (λ cs. Contains cs x) (sym found) c) block b);
        stand = λ x c. sound.stand x (subst (λ cs. Contains cs x) (sym found) c);
        batch_stands = sound.batch_stands;
        known = λ x c. sound.known x (subst (λ cs. Contains cs x) (sym found) c);
        written = λ x is done. sym found ∙ sound.written x is done;
        running = sound.running;
        resting = sound.resting;
      }

  -- ---- events

  -- the volumes behind an event, where it leaves them
  record Stays (events : List Event) (e : Event) : Type 0 where
    next : next_volumes (after (state_of volume events) e) ≡ next_volumes (state_of volume events)
    durable : durable_volume (after (state_of volume events) e) ≡ durable_volume (state_of volume events)
    tried : tried_after (state_of volume events) (tried_from (mounted_state volume) [] events) e ≡ tried_from (mounted_state volume) [] events

  next_behind : (events : List Event) (e : Event) (vs : List Volume) → next_volumes (after (state_of volume events) e) ≡ vs → next_volumes (state_of volume (events ++ e ∷ [])) ≡ vs
  next_behind events e vs is = ap next_volumes (state_behind (mounted_state volume) events e) ∙ is

  durable_behind : (events : List Event) (e : Event) (v : Volume) → durable_volume (after (state_of volume events) e) ≡ v → durable_volume (state_of volume (events ++ e ∷ [])) ≡ v
  durable_behind events e v is = ap durable_volume (state_behind (mounted_state volume) events e) ∙ is

  tried_more : (events : List Event) (e : Event) (vs : List Volume) → tried_after (state_of volume events) (tried_from (mounted_state volume) [] events) e ≡ vs → tried_from (mounted_state volume) [] (events ++ e ∷ []) ≡ vs
  tried_more events e vs is = tried_behind (mounted_state volume) [] events e ∙ is

  past_is : (events : List Event) (e : Event) (v : Volume) (vs : List Volume) → durable_volume (after (state_of volume events) e) ≡ v → tried_after (state_of volume events) (tried_from (mounted_state volume) [] events) e ≡ vs
      → past_of Stands size volume (events ++ e ∷ []) ≡ v ∷ vs
  past_is events e v vs durable tried = ap (λ x. x ∷ tried_from (mounted_state volume) [] (events ++ e ∷ [])) (durable_behind events e v durable) ∙ ap (λ xs. v ∷ xs) (tried_more events e vs tried)

  -- which commit runs behind an event that hands out none
  abbrev pub batch_by : Option Commit → List Volume → Option Commit
  batch_by batch next = elim next as (λ vs. Option Commit) [ [] ↦ None | v ∷ vs ↦ batch ]

  -- an event that leaves the volumes and hands out no commit
  stays_sound : (scene : Scene) (e : Event) → MayCome (state_of volume scene.events) e → Stays scene.events e → SoundIn scene
      → Sound Stands size volume (scene.events ++ e ∷ []) scene.held scene.found (batch_by scene.batch (next_volumes (state_of volume (scene.events ++ e ∷ [])))) scene.progress
  stays_sound scene e may stays sound = subst (λ b. Sound Stands size volume (scene.events ++ e ∷ []) scene.held scene.found b scene.progress) (sym (same scene.batch refl)) (record {
    legal = legal_behind (mounted_state volume) scene.events e sound.legal may;
    size_is = sound.size_is;
    big = sound.big;
    supers = sound.supers;
    durable = sound.durable;
    stand = sound.stand;
    batch_stands = sound.batch_stands;
    known = λ commit c. subst (λ past. IsKnown past scene.batch scene.progress commit) (sym (past_is scene.events e _ _ stays.durable stays.tried)) (sound.known commit c);
    written = sound.written;
    running = λ commit is. next ∙ sound.running commit is;
    resting = λ is. next ∙ sound.resting is;
  })
    where
      next : next_volumes (state_of volume (scene.events ++ e ∷ [])) ≡ next_volumes (state_of volume scene.events)
      next = next_behind scene.events e _ stays.next

      same : (o : Option Commit) → scene.batch ≡ o → batch_by scene.batch (next_volumes (state_of volume (scene.events ++ e ∷ []))) ≡ scene.batch
      same None is = ap (batch_by scene.batch) (next ∙ sound.resting is) ∙ sym is
      same (Some commit) is = ap (batch_by scene.batch) (next ∙ sound.running commit is)

  -- an event that begins a commit
  begins_sound : (scene : Scene) (e : Event) (commit : Commit) → MayCome (state_of volume scene.events) e
      → next_volumes (state_of volume scene.events) ≡ [] → next_volumes (after (state_of volume scene.events) e) ≡ commit.volume ∷ []
      → durable_volume (after (state_of volume scene.events) e) ≡ durable_volume (state_of volume scene.events)
      → tried_after (state_of volume scene.events) (tried_from (mounted_state volume) [] scene.events) e ≡ tried_from (mounted_state volume) [] scene.events
      → StandsFor Stands size commit → SoundIn scene
      → Sound Stands size volume (scene.events ++ e ∷ []) scene.held scene.found (Some commit) NotTried
  begins_sound scene e commit may was now durable tried stands sound = record {
    legal = legal_behind (mounted_state volume) scene.events e sound.legal may;
    size_is = sound.size_is;
    big = sound.big;
    supers = sound.supers;
    durable = sound.durable;
    stand = sound.stand;
    batch_stands = λ other is. subst (StandsFor Stands size) (some_same commit other is) stands;
    known = λ other c. subst (λ past. IsKnown past (Some commit) NotTried other) (sym (past_is scene.events e _ _ durable tried)) (past other (sound.known other c));
    written = λ other is done. absurd (clash_not done);
    running = λ other is. next_behind scene.events e _ now ∙ ap (λ (x : Commit). x.volume ∷ []) (some_same commit other is);
    resting = λ is. absurd (some_none commit is);
  }
    where
      past : (other : Commit) → IsKnown (past_of Stands size volume scene.events) scene.batch scene.progress other → IsKnown (past_of Stands size volume scene.events) (Some commit) NotTried other
      past other (IsPast c) = IsPast c
      past other (IsRunning is tried) = absurd (none_is (sym (sound.running other is) ∙ was))
        where
          none_is : other.volume ∷ [] ≡ [] → ⊥
          none_is x = omega (arith, ap length x)

  -- a failure that ends the commit which runs
  ends_sound : (scene : Scene) (e : Event) (was_tried : Bool) → MayCome (state_of volume scene.events) e
      → next_volumes (after (state_of volume scene.events) e) ≡ []
      → durable_volume (after (state_of volume scene.events) e) ≡ durable_volume (state_of volume scene.events)
      → tried_after (state_of volume scene.events) (tried_from (mounted_state volume) [] scene.events) e
      ≡ cond was_tried (next_volumes (state_of volume scene.events) ++ tried_from (mounted_state volume) [] scene.events) (tried_from (mounted_state volume) [] scene.events)
      → IsFailureOf scene (next_volumes (state_of volume (scene.events ++ e ∷ []))) was_tried → SoundIn scene
      → Sound Stands size volume (scene.events ++ e ∷ []) scene.held scene.found (batch_by scene.batch (next_volumes (state_of volume (scene.events ++ e ∷ [])))) scene.progress
  ends_sound scene e was_tried may now durable tried tells sound = subst (λ b. Sound Stands size volume (scene.events ++ e ∷ []) scene.held scene.found b scene.progress) (sym (ap (batch_by scene.batch) next)) (record {
    legal = legal_behind (mounted_state volume) scene.events e sound.legal may;
    size_is = sound.size_is;
    big = sound.big;
    supers = sound.supers;
    durable = sound.durable;
    stand = sound.stand;
    batch_stands = λ other is. absurd (some_none other (sym is));
    known = λ other c. subst (λ past. IsKnown past None scene.progress other) (sym (past_is scene.events e _ _ durable tried)) (IsPast (past other (sound.known other c)));
    written = λ other is. absurd (some_none other (sym is));
    running = λ other is. absurd (some_none other (sym is));
    resting = λ is. next;
  })
    where
      next : next_volumes (state_of volume (scene.events ++ e ∷ [])) ≡ []
      next = next_behind scene.events e _ now

      wider : (b : Bool) (v : Volume) → Contains (tried_from (mounted_state volume) [] scene.events) v → Contains (cond b (next_volumes (state_of volume scene.events) ++ tried_from (mounted_state volume) [] scene.events) (tried_from (mounted_state volume) [] scene.events)) v
      wider true v c = Contains-append_right (next_volumes (state_of volume scene.events)) (tried_from (mounted_state volume) [] scene.events) v c
      wider false v c = c

      past : (other : Commit) → IsKnown (past_of Stands size volume scene.events) scene.batch scene.progress other → Contains (durable_volume (state_of volume scene.events) ∷ cond was_tried (next_volumes (state_of volume scene.events) ++ tried_from (mounted_state volume) [] scene.events) (tried_from (mounted_state volume) [] scene.events)) other.volume
      past other (IsPast c) = elim (Contains-cons_cases (durable_volume (state_of volume scene.events)) (tried_from (mounted_state volume) [] scene.events) other.volume c) [
        | inl same ↦ subst (Contains (durable_volume (state_of volume scene.events) ∷ cond was_tried (next_volumes (state_of volume scene.events) ++ tried_from (mounted_state volume) [] scene.events) (tried_from (mounted_state volume) [] scene.events))) same (Contains-here _ _)
        | inr old ↦ Contains-there _ _ _ (wider was_tried other.volume old)
      ]
      past other (IsRunning is was) = Contains-there _ _ _ (by scene.progress refl)
        where
          some : scene.batch ≢ None
          some none = some_none other (sym is ∙ none)

          by : (p : Progress) → scene.progress ≡ p → Contains (cond was_tried (next_volumes (state_of volume scene.events) ++ tried_from (mounted_state volume) [] scene.events) (tried_from (mounted_state volume) [] scene.events)) other.volume
          by NotTried x = absurd (was x)
          by IsWritten x = absurd (tells.not_written some next x)
          by HasFailed x = subst (λ b. Contains (cond b (next_volumes (state_of volume scene.events) ++ tried_from (mounted_state volume) [] scene.events) (tried_from (mounted_state volume) [] scene.events)) other.volume) (sym (tells.tells some next ∙ ap has_failed x))
              (Contains-append_left (next_volumes (state_of volume scene.events)) (tried_from (mounted_state volume) [] scene.events) other.volume (subst (λ vs. Contains vs other.volume) (sym (sound.running other is)) (Contains-here other.volume [])))

  -- a commit that is done
  done_sound : (scene : Scene) (e : Event) (wanted : Volume) → MayCome (state_of volume scene.events) e
      → next_volumes (state_of volume scene.events) ≡ wanted ∷ [] → next_volumes (after (state_of volume scene.events) e) ≡ []
      → durable_volume (after (state_of volume scene.events) e) ≡ wanted
      → tried_after (state_of volume scene.events) (tried_from (mounted_state volume) [] scene.events) e ≡ []
      → scene.progress ≡ IsWritten → SoundIn scene
      → Sound Stands size volume (scene.events ++ e ∷ []) scene.held scene.found (batch_by scene.batch (next_volumes (state_of volume (scene.events ++ e ∷ [])))) scene.progress
  done_sound scene e wanted may was now durable tried is_written sound = subst (λ b. Sound Stands size volume (scene.events ++ e ∷ []) scene.held scene.found b scene.progress) (sym (ap (batch_by scene.batch) next)) (record {
    legal = legal_behind (mounted_state volume) scene.events e sound.legal may;
    size_is = sound.size_is;
    big = sound.big;
    supers = sound.supers;
    durable = sound.durable;
    stand = sound.stand;
    batch_stands = λ other is. absurd (some_none other (sym is));
    known = λ other c. subst (λ past. IsKnown past None scene.progress other) (sym (past_is scene.events e _ _ durable tried)) (IsPast (its scene.batch refl other c));
    written = λ other is. absurd (some_none other (sym is));
    running = λ other is. absurd (some_none other (sym is));
    resting = λ is. next;
  })
    where
      next : next_volumes (state_of volume (scene.events ++ e ∷ [])) ≡ []
      next = next_behind scene.events e _ now

      its : (o : Option Commit) → scene.batch ≡ o → (other : Commit) → Contains scene.found other → Contains (wanted ∷ []) other.volume
      its None rests other c = absurd (none_is (sym was ∙ sound.resting rests))
        where
          none_is : wanted ∷ [] ≡ [] → ⊥
          none_is x = omega (arith, ap length x)
      its (Some commit) runs other c =
          let own : other ≡ commit = Contains-single commit other (subst (λ cs. Contains cs other) (sound.written commit runs is_written) c) in
          let same : wanted ≡ commit.volume = some_same wanted commit.volume (ap (λ (vs : List Volume). slice_get vs 0) (sym was ∙ sound.running commit runs)) in
          subst (Contains (wanted ∷ [])) (same ∙ ap (λ (x : Commit). x.volume) (sym own)) (Contains-here wanted [])

module _ (Stands : Image → Volume → Type 0) (mounted : Mounted) (size : ℕ) (coherent : IsCoherentVolume mounted.volume) where
  abbrev pub SoundAt : Scene → Type 0
  SoundAt scene = SoundIn Stands size mounted.volume scene

  module _ (scene : Scene) (sound : SoundIn Stands size mounted.volume scene) where
    holds : Holds mounted.volume (operations_of scene.events) (tried_from (mounted_state mounted.volume) [] scene.events) (state_of mounted.volume scene.events)
    holds = holds_after mounted.volume coherent scene.events sound.legal

    alone : (e : Event) → ((id : ℕ) (log : SubLog) → LeavesAlone log (log_after (state_of mounted.volume scene.events) e id log)) → (id : ℕ) (log : SubLog) → HasLog (state_of mounted.volume scene.events) id log
        → KeepsDurable (state_of mounted.volume scene.events).root id log (log_after (state_of mounted.volume scene.events) e id log)
    alone e each id log has = left_alone _ id log _ (each id log)

    quiet : (e : Event) → ((id : ℕ) (log : SubLog) → HasLog (state_of mounted.volume scene.events) id log → KeepsDurable (state_of mounted.volume scene.events).root id log (log_after (state_of mounted.volume scene.events) e id log))
        → (after (state_of mounted.volume scene.events) e).root ≡ (state_of mounted.volume scene.events).root → (after (state_of mounted.volume scene.events) e).full ≡ (state_of mounted.volume scene.events).full
        → tried_after (state_of mounted.volume scene.events) (tried_from (mounted_state mounted.volume) [] scene.events) e ≡ tried_from (mounted_state mounted.volume) [] scene.events
        → MayCome (state_of mounted.volume scene.events) e
        → Sound Stands size mounted.volume (scene.events ++ e ∷ []) scene.held scene.found (batch_by Stands size mounted.volume scene.batch (next_volumes (state_of mounted.volume (scene.events ++ e ∷ [])))) scene.progress
    quiet e keeps root full tried may = stays_sound Stands size mounted.volume scene e may (record {
      next = next_kept (state_of mounted.volume scene.events) e keeps root full;
      durable = durable_kept (state_of mounted.volume scene.events) e keeps;
      tried = tried;
    }) sound

    step_turns : (caller sub : ℕ) (end : Logged) → ((state_after_step (state_of mounted.volume scene.events) caller sub end).root ≡ (state_of mounted.volume scene.events).root) × ((state_after_step (state_of mounted.volume scene.events) caller sub end).full ≡ (state_of mounted.volume scene.events).full)
    step_turns caller sub logged.Already = (refl, refl)
    step_turns caller sub (logged.Ticket number) = (refl, refl)
    step_turns caller sub (logged.Full reason) = (refl, refl)

    -- ---- a failure

    fail_keeps : (caller : ℕ) (turn : Turn) (was_tried : Bool) (id : ℕ) (log : SubLog) → HasLog (state_of mounted.volume scene.events) id log → KeepsDurable (state_of mounted.volume scene.events).root id log (log_after (state_of mounted.volume scene.events) (event.Failed caller turn was_tried) id log)
    fail_keeps caller turn was_tried id log has = left_alone (state_of mounted.volume scene.events).root id log (log_failed log caller) (record { durable = refl; sealed = refl })

    fail_sound : (caller : ℕ) (turn : Turn) (was_tried : Bool) → MayCome (state_of mounted.volume scene.events) (event.Failed caller turn was_tried)
        → IsFailureOf scene (next_volumes (state_of mounted.volume (scene.events ++ event.Failed caller turn was_tried ∷ []))) was_tried
        → Sound Stands size mounted.volume (scene.events ++ event.Failed caller turn was_tried ∷ []) scene.held scene.found (batch_by Stands size mounted.volume scene.batch (next_volumes (state_of mounted.volume (scene.events ++ event.Failed caller turn was_tried ∷ [])))) scene.progress
    unfolding after
    fail_sound caller turn was_tried may tells = by (state_of mounted.volume scene.events).root (state_of mounted.volume scene.events).full refl refl
      where
        e : Event
        e = event.Failed caller turn was_tried

        Goal : Type 0
        Goal = Sound Stands size mounted.volume (scene.events ++ event.Failed caller turn was_tried ∷ []) scene.held scene.found (batch_by Stands size mounted.volume scene.batch (next_volumes (state_of mounted.volume (scene.events ++ event.Failed caller turn was_tried ∷ [])))) scene.progress

        stays : next_volumes (after (state_of mounted.volume scene.events) (event.Failed caller turn was_tried)) ≡ next_volumes (state_of mounted.volume scene.events) → cond was_tried (next_volumes (state_of mounted.volume scene.events) ++ (tried_from (mounted_state mounted.volume) [] scene.events)) (tried_from (mounted_state mounted.volume) [] scene.events) ≡ (tried_from (mounted_state mounted.volume) [] scene.events) → Goal
        stays next tried = stays_sound Stands size mounted.volume scene (event.Failed caller turn was_tried) may (record { next = next; durable = durable_kept (state_of mounted.volume scene.events) (event.Failed caller turn was_tried) (fail_keeps caller turn was_tried); tried = tried }) sound

        ends : next_volumes (after (state_of mounted.volume scene.events) (event.Failed caller turn was_tried)) ≡ [] → Goal
        ends next = ends_sound Stands size mounted.volume scene (event.Failed caller turn was_tried) was_tried may next (durable_kept (state_of mounted.volume scene.events) (event.Failed caller turn was_tried) (fail_keeps caller turn was_tried)) refl tells sound

        nothing_tried : (b : Bool) → next_volumes (state_of mounted.volume scene.events) ≡ [] → cond b (next_volumes (state_of mounted.volume scene.events) ++ (tried_from (mounted_state mounted.volume) [] scene.events)) (tried_from (mounted_state mounted.volume) [] scene.events) ≡ (tried_from (mounted_state mounted.volume) [] scene.events)
        nothing_tried true none = ap (λ vs. vs ++ (tried_from (mounted_state mounted.volume) [] scene.events)) none
        nothing_tried false none = refl

        -- a failure in the turn of a slot tries no superblock; in another turn it is the holder's
        of_turn : (x : Turn) → MayFail (state_of mounted.volume scene.events) caller x was_tried → ((root : RootCommit) → (state_of mounted.volume scene.events).root ≡ Some root → nat_eq root.holder caller ≡ false) → ((full : FullCommit) → (state_of mounted.volume scene.events).full ≡ Some full → nat_eq full.holder caller ≡ false) → was_tried ≡ false
        of_turn (turns.Slot sub parity) m root full = m.1
        of_turn turns.Root m root full = absurd (true≢false (sym (eq-eqb m.commit.holder caller m.own) ∙ root m.commit m.runs))
        of_turn turns.Full m root full = absurd (true≢false (sym (eq-eqb m.commit.holder caller m.own) ∙ full m.commit m.runs))

        untried : (b : Bool) → b ≡ false → cond b (next_volumes (state_of mounted.volume scene.events) ++ (tried_from (mounted_state mounted.volume) [] scene.events)) (tried_from (mounted_state mounted.volume) [] scene.events) ≡ (tried_from (mounted_state mounted.volume) [] scene.events)
        untried true e = absurd (true≢false e)
        untried false e = refl

        by : (root : Option RootCommit) (full : Option FullCommit) → (state_of mounted.volume scene.events).root ≡ root → (state_of mounted.volume scene.events).full ≡ full → Goal
        by None None a b =
            let none : next_volumes (state_of mounted.volume scene.events) ≡ [] = next_is (state_of mounted.volume scene.events) None None a b in
            stays (next_is (after (state_of mounted.volume scene.events) (event.Failed caller turn was_tried)) None None (ap (λ o. root_without o caller) a) (ap (λ o. full_without o caller) b) ∙ sym none) (nothing_tried was_tried none)
        by (Some root) (Some full) a b = absurd (some_none root (sym a ∙ (holds.full full b).no_root))
        by (Some root) None a b = own (nat_eq root.holder caller) refl
          where
            own : (x : Bool) → nat_eq root.holder caller ≡ x → Goal
            own true is = ends (next_is (after (state_of mounted.volume scene.events) (event.Failed caller turn was_tried)) None None (ap (λ o. root_without o caller) a ∙ ap (λ y. cond y None (Some root)) is) (ap (λ o. full_without o caller) b))
            own false is = stays
                (next_is (after (state_of mounted.volume scene.events) (event.Failed caller turn was_tried)) (Some root) None (ap (λ o. root_without o caller) a ∙ ap (λ y. cond y None (Some root)) is) (ap (λ o. full_without o caller) b)
                ∙ ap (λ v. v ∷ []) (by_root_kept (state_of mounted.volume scene.events) (event.Failed caller turn was_tried) (fail_keeps caller turn was_tried) root a) ∙ sym (next_is (state_of mounted.volume scene.events) (Some root) None a b))
                (untried was_tried (of_turn turn may (λ other runs. ap (λ (r : RootCommit). nat_eq r.holder caller) (some_same other root (sym runs ∙ a)) ∙ is) (λ full runs. absurd (some_none full (sym runs ∙ b)))))
        by None (Some full) a b = own (nat_eq full.holder caller) refl
          where
            own : (x : Bool) → nat_eq full.holder caller ≡ x → Goal
            own true is = ends (next_is (after (state_of mounted.volume scene.events) (event.Failed caller turn was_tried)) None None (ap (λ o. root_without o caller) a) (ap (λ o. full_without o caller) b ∙ ap (λ y. cond y None (Some full)) is))
            own false is = stays
                (next_is (after (state_of mounted.volume scene.events) (event.Failed caller turn was_tried)) None (Some full) (ap (λ o. root_without o caller) a) (ap (λ o. full_without o caller) b ∙ ap (λ y. cond y None (Some full)) is) ∙ sym (next_is (state_of mounted.volume scene.events) None (Some full) a b))
                (untried was_tried (of_turn turn may (λ root runs. absurd (some_none root (sym runs ∙ a))) (λ other runs. ap (λ (f : FullCommit). nat_eq f.holder caller) (some_same other full (sym runs ∙ b)) ∙ is)))

    -- ---- commits

    seal_root_sound : (caller : ℕ) (handed : Handed) → MaySealRoot (state_of mounted.volume scene.events) caller → HandsOut mounted.image scene handed (volume_by_root (state_of mounted.volume scene.events) (record { holder = caller; numbers = numbers_ready (state_of mounted.volume scene.events).logs }))
        → ((blocks : List (ℕ × List ℕ)) (commit : Commit) → handed ≡ Batch blocks commit → StandsFor Stands size commit) → SoundIn Stands size mounted.volume (scene_after_event mounted.volume scene (event.SealRoot caller) handed)
    unfolding after
    seal_root_sound caller handed may out stands = subst (λ h. SoundIn Stands size mounted.volume (scene_after_event mounted.volume scene (event.SealRoot caller) h)) (sym out.is)
        (begins_sound Stands size mounted.volume scene (event.SealRoot caller) out.commit may (next_is (state_of mounted.volume scene.events) None None may.root_is_free no_full)
        (next_is (after (state_of mounted.volume scene.events) (event.SealRoot caller)) (Some (record { holder = caller; numbers = numbers_ready (state_of mounted.volume scene.events).logs })) None refl no_full
        ∙ ap (λ v. v ∷ []) (kept_logs (state_of mounted.volume scene.events) (event.SealRoot caller) (λ id log. (log_taken (number_taken (Some (record { holder = caller; numbers = numbers_ready (state_of mounted.volume scene.events).logs })) id) log).durable) (λ id log. (log_taken (number_taken (Some (record { holder = caller; numbers = numbers_ready (state_of mounted.volume scene.events).logs })) id) log).durable) (λ id log has. refl) ∙ sym out.makes))
        (durable_kept (state_of mounted.volume scene.events) (event.SealRoot caller) (alone (event.SealRoot caller) (λ id log. same_alone log))) refl (stands out.blocks out.commit out.is) sound)
      where
        no_full : (state_of mounted.volume scene.events).full ≡ None
        no_full = none (state_of mounted.volume scene.events).full refl
          where
            none : (o : Option FullCommit) → (state_of mounted.volume scene.events).full ≡ o → o ≡ None
            none None is = refl
            none (Some full) is =
                let later = holds_after mounted.volume coherent (scene.events ++ event.SealRoot caller ∷ []) (legal_behind (mounted_state mounted.volume) scene.events (event.SealRoot caller) sound.legal may) in
                let behind = state_behind (mounted_state mounted.volume) scene.events (event.SealRoot caller) in
                absurd (some_none (record { holder = caller; numbers = numbers_ready (state_of mounted.volume scene.events).logs }) (sym (ap (λ (s : State). s.root) behind) ∙ (later.full full (ap (λ (s : State). s.full) behind ∙ is)).no_root))

    seal_full_sound : (caller : ℕ) (handed : Handed) → MaySealFull (state_of mounted.volume scene.events) caller → HandsOut mounted.image scene handed (volume_of (state_of mounted.volume scene.events).current)
        → ((blocks : List (ℕ × List ℕ)) (commit : Commit) → handed ≡ Batch blocks commit → StandsFor Stands size commit) → SoundIn Stands size mounted.volume (scene_after_event mounted.volume scene (event.SealFull caller) handed)
    unfolding after
    seal_full_sound caller handed may out stands = subst (λ h. SoundIn Stands size mounted.volume (scene_after_event mounted.volume scene (event.SealFull caller) h)) (sym out.is)
        (begins_sound Stands size mounted.volume scene (event.SealFull caller) out.commit may (next_is (state_of mounted.volume scene.events) None None may.root_is_free may.full_is_free)
        (next_is (after (state_of mounted.volume scene.events) (event.SealFull caller)) None (Some (record { holder = caller; volume = volume_of (state_of mounted.volume scene.events).current; point = (state_of mounted.volume scene.events).point; wants = (state_of mounted.volume scene.events).wants })) may.root_is_free refl ∙ ap (λ v. v ∷ []) (sym out.makes))
        (durable_kept (state_of mounted.volume scene.events) (event.SealFull caller) (alone (event.SealFull caller) (λ id log. same_alone log))) refl (stands out.blocks out.commit out.is) sound)

    root_done_sound : (caller : ℕ) → HoldsRoot (state_of mounted.volume scene.events) caller → scene.progress ≡ IsWritten
        → Sound Stands size mounted.volume (scene.events ++ event.RootDone caller ∷ []) scene.held scene.found (batch_by Stands size mounted.volume scene.batch (next_volumes (state_of mounted.volume (scene.events ++ event.RootDone caller ∷ [])))) scene.progress
    unfolding after
    root_done_sound caller may is_written = done_sound Stands size mounted.volume scene (event.RootDone caller) (volume_by_root (state_of mounted.volume scene.events) may.commit) may
        (next_is (state_of mounted.volume scene.events) (Some may.commit) None may.runs no_full)
        (next_is (after (state_of mounted.volume scene.events) (event.RootDone caller)) None None refl no_full)
        (root_done_durable (state_of mounted.volume scene.events) caller may.commit may.runs) refl is_written sound
      where
        no_full : (state_of mounted.volume scene.events).full ≡ None
        no_full = none (state_of mounted.volume scene.events).full refl
          where
            none : (o : Option FullCommit) → (state_of mounted.volume scene.events).full ≡ o → o ≡ None
            none None is = refl
            none (Some full) is = absurd (some_none may.commit (sym may.runs ∙ (holds.full full is).no_root))

    full_done_sound : (caller : ℕ) → HoldsFull (state_of mounted.volume scene.events) caller → scene.progress ≡ IsWritten
        → Sound Stands size mounted.volume (scene.events ++ event.FullDone caller ∷ []) scene.held scene.found (batch_by Stands size mounted.volume scene.batch (next_volumes (state_of mounted.volume (scene.events ++ event.FullDone caller ∷ [])))) scene.progress
    unfolding after
    full_done_sound caller may is_written =
        let no_root = (holds.full may.commit may.runs).no_root in
        let next = next_is (state_of mounted.volume scene.events) None (Some may.commit) no_root may.runs in
        done_sound Stands size mounted.volume scene (event.FullDone caller) may.commit.volume may next
        (next_is (after (state_of mounted.volume scene.events) (event.FullDone caller)) None None no_root refl)
        (full_done_durable mounted.volume (operations_of scene.events) (state_of mounted.volume scene.events) caller may.commit may.runs
        (next_survive mounted.volume coherent (operations_of scene.events) (tried_from (mounted_state mounted.volume) [] scene.events) (state_of mounted.volume scene.events) holds may.commit.volume (subst (λ vs. Contains vs may.commit.volume) (sym next) (Contains-here may.commit.volume []))))
        refl is_written sound

    -- ---- all events

    pub event_sound : (e : Event) (handed : Handed) → MayCome (state_of mounted.volume scene.events) e → IsHanded mounted.image scene (state_of mounted.volume scene.events) e handed → TellsOutcome scene (next_volumes (state_of mounted.volume (scene.events ++ e ∷ []))) e
        → ((blocks : List (ℕ × List ℕ)) (commit : Commit) → handed ≡ Batch blocks commit → StandsFor Stands size commit) → SoundIn Stands size mounted.volume (scene_after_event mounted.volume scene e handed)
    unfolding after
    event_sound (event.Op caller op again end indexes) handed may given tells stands = subst (λ h. SoundIn Stands size mounted.volume (scene_after_event mounted.volume scene (event.Op caller op again end indexes) h)) (sym given)
        (quiet (event.Op caller op again end indexes) (alone (event.Op caller op again end indexes) (λ id log. same_alone log)) refl refl refl may)
    event_sound (event.Refused caller target answer) handed may given tells stands = subst (λ h. SoundIn Stands size mounted.volume (scene_after_event mounted.volume scene (event.Refused caller target answer) h)) (sym given)
        (quiet (event.Refused caller target answer) (alone (event.Refused caller target answer) (λ id log. same_alone log)) refl refl refl may)
    event_sound (event.Log caller sub ino end datasync) handed may given tells stands = subst (λ h. SoundIn Stands size mounted.volume (scene_after_event mounted.volume scene (event.Log caller sub ino end datasync) h)) (sym given)
        (quiet (event.Log caller sub ino end datasync)
        (alone (event.Log caller sub ino end datasync) (λ id log. either_alone (nat_eq id sub.0) log (log_stepped (get (state_of mounted.volume scene.events).current id) log caller (state_of mounted.volume scene.events).point ino.0 end datasync) (stepped_alone (get (state_of mounted.volume scene.events).current id) log caller (state_of mounted.volume scene.events).point ino.0 end datasync)))
        (step_turns caller sub.0 end).0 (step_turns caller sub.0 end).1 refl may)
    event_sound (event.Ask caller) handed may given tells stands = subst (λ h. SoundIn Stands size mounted.volume (scene_after_event mounted.volume scene (event.Ask caller) h)) (sym given)
        (quiet (event.Ask caller) (alone (event.Ask caller) (λ id log. same_alone log)) refl refl refl may)
    event_sound (event.SealSub caller sub number) handed may given tells stands = subst (λ h. SoundIn Stands size mounted.volume (scene_after_event mounted.volume scene (event.SealSub caller sub number) h)) (sym given.1)
        (quiet (event.SealSub caller sub number) (sealing_keeps mounted.volume (operations_of scene.events) (tried_from (mounted_state mounted.volume) [] scene.events) (state_of mounted.volume scene.events) holds caller sub number may) refl refl refl may)
    event_sound (event.SubWritten caller sub number) handed may given tells stands = subst (λ h. SoundIn Stands size mounted.volume (scene_after_event mounted.volume scene (event.SubWritten caller sub number) h)) (sym given)
        (quiet (event.SubWritten caller sub number) (alone (event.SubWritten caller sub number) (λ id log. either_alone (nat_eq id sub.0) log (record log { slots = slots_written log.slots number }) (record { durable = refl; sealed = refl }))) refl refl refl may)
    event_sound (event.SealRoot caller) handed may given tells stands = seal_root_sound caller handed may given stands
    event_sound (event.RootDone caller) handed may given tells stands = subst (λ h. SoundIn Stands size mounted.volume (scene_after_event mounted.volume scene (event.RootDone caller) h)) (sym given) (root_done_sound caller may tells)
    event_sound (event.SealFull caller) handed may given tells stands = seal_full_sound caller handed may given stands
    event_sound (event.FullDone caller) handed may given tells stands = subst (λ h. SoundIn Stands size mounted.volume (scene_after_event mounted.volume scene (event.FullDone caller) h)) (sym given) (full_done_sound caller may tells)
    event_sound (event.Failed caller turn was_tried) handed may given tells stands = subst (λ h. SoundIn Stands size mounted.volume (scene_after_event mounted.volume scene (event.Failed caller turn was_tried) h)) (sym given) (fail_sound caller turn was_tried may tells)
    event_sound (event.GiveUp caller sub number) handed may given tells stands = subst (λ h. SoundIn Stands size mounted.volume (scene_after_event mounted.volume scene (event.GiveUp caller sub number) h)) (sym given)
        (quiet (event.GiveUp caller sub number) (alone (event.GiveUp caller sub number) (λ id log. either_alone (nat_eq id sub.0) log (record log { slots = slots_without log.slots number }) (record { durable = refl; sealed = refl }))) refl refl refl may)

  -- ---- all that happens

  pub step_sound : (scene : Scene) (happening : Happening) → SoundIn Stands size mounted.volume scene → MayHappen mounted scene happening
      → ((e : Event) (blocks : List (ℕ × List ℕ)) (commit : Commit) → happening ≡ Comes e (Batch blocks commit) → StandsFor Stands size commit) → SoundIn Stands size mounted.volume (scene_after mounted.volume scene happening)
  step_sound scene (Comes e handed) sound may stands = event_sound scene sound e handed may.0 may.1 may.2 (λ blocks commit is. stands e blocks commit (ap (Comes e) is))
  step_sound scene (Writes at bytes ok left) sound may stands = write_sound Stands size mounted.volume scene at bytes ok left may.unreached sound
  step_sound scene (Flushes ok) sound may stands = flush_sound Stands size mounted.volume scene ok sound
  step_sound scene (WritesSuper ok left) sound may stands =
      subst (λ o. SoundIn Stands size mounted.volume (scene_after_super (state_of mounted.volume scene.events) scene o ok left)) (sym may.runs)
      (super_sound Stands size mounted.volume scene may.commit ok left may.runs may.first_time may.durable sound)
  step_sound scene (WritesAgain ok left) sound may stands =
      subst (λ cs. SoundIn Stands size mounted.volume (scene_after_again scene cs ok left)) (sym may.found)
      (again_sound Stands size mounted.volume scene may.commit may.other may.others ok left may.found sound)

  during : (scene : Scene) (happening : Happening) → SoundIn Stands size mounted.volume scene → MayHappen mounted scene happening → (image : Image) → Leaves (held_during scene happening) image
      → StandsBy Stands (history_in mounted.volume scene) mounted.volume image
  during scene (Comes e handed) sound may image leaves = image_stands Stands size mounted.volume coherent scene.events scene.held scene.found scene.batch scene.progress sound image leaves
  during scene (Writes at bytes ok left) sound may image leaves =
      image_stands Stands size mounted.volume coherent scene.events _ scene.found scene.batch scene.progress (write_sound Stands size mounted.volume scene at bytes false left may.unreached sound) image
      (write_running scene.held at bytes ok left image leaves)
  during scene (Flushes ok) sound may image leaves = image_stands Stands size mounted.volume coherent scene.events scene.held scene.found scene.batch scene.progress sound image leaves
  during scene (WritesSuper ok left) sound may image leaves =
      subst (λ p. StandsBy Stands (scene.events ++ done_by p (state_of mounted.volume scene.events)) mounted.volume image) (sym may.first_time)
      (image_stands Stands size mounted.volume coherent scene.events _ _ scene.batch HasFailed (super_sound Stands size mounted.volume scene may.commit false left may.runs may.first_time may.durable sound) image
      (super_running scene.held may.commit.superblock ok left image (subst (λ o. Leaves (during_super scene.held o ok left) image) may.runs leaves)))
  during scene (WritesAgain ok left) sound may image leaves =
      image_stands Stands size mounted.volume coherent scene.events _ _ scene.batch scene.progress (again_sound Stands size mounted.volume scene may.commit may.other may.others false left may.found sound) image
      (super_running scene.held may.commit.superblock ok left image (subst (λ cs. Leaves (during_super scene.held (first_of cs) ok left) image) may.found leaves))

  pub each_stands : (happenings : List Happening) (scene : Scene) → SoundIn Stands size mounted.volume scene → AreAdmissible mounted scene happenings → CommitsStand Stands size happenings
      → EachImageStands Stands mounted.volume scene happenings
  each_stands [] scene sound may stand = λ image leaves. image_stands Stands size mounted.volume coherent scene.events scene.held scene.found scene.batch scene.progress sound image leaves
  each_stands (happening ∷ happenings) scene sound may stand = (
    λ image leaves. image_stands Stands size mounted.volume coherent scene.events scene.held scene.found scene.batch scene.progress sound image leaves,
    during scene happening sound may.0,
    each_stands happenings (scene_after mounted.volume scene happening)
        (step_sound scene happening sound may.0 (λ e blocks commit is. stand e blocks commit (subst (Contains (happening ∷ happenings)) is (Contains-here happening happenings))))
        may.1 (λ e blocks commit c. stand e blocks commit (Contains-there happening happenings _ c)),
  )

-- right behind the mount
pub first_sound : (Stands : Image → Volume → Type 0) (mounted : Mounted) (held : Held) (first : Commit) → IsMountedBy Stands mounted held first
    → SoundIn Stands (length mounted.image) mounted.volume (first_scene held first)
unfolding mounted_state durable_volume
first_sound Stands mounted held first by = record {
  legal = tt;
  size_is = ap length by.image;
  supers = λ bytes c block. (first, Contains-here first [], by.supers bytes c block);
  big = by.size;
  durable = λ commit c block b. let is = by.durable block (subst (λ (x : Commit). Contains x.blocks block) (Contains-single first commit c) b) in record { not_super = is.0; settled = is.1; reads = is.2 };
  stand = λ commit c. subst (StandsFor Stands (length mounted.image)) (sym (Contains-single first commit c)) by.stands;
  batch_stands = λ commit is. absurd (some_none commit (sym is));
  known = λ commit c. IsPast (subst (Contains (past_of Stands (length mounted.image) mounted.volume [])) (durable_first ∙ sym by.volume ∙ ap (λ (x : Commit). x.volume) (sym (Contains-single first commit c))) (Contains-here (durable_volume (mounted_state mounted.volume)) []));
  written = λ commit is. absurd (some_none commit (sym is));
  running = λ commit is. absurd (some_none commit (sym is));
  resting = λ is. refl;
}
  where
    durable_first : durable_volume (mounted_state mounted.volume) ≡ mounted.volume
    durable_first = same_map nat_cmp_total nat_cmp-IsAntisymmetric _ _ (λ id.
        get_changed (λ id log. log.durable) (changed (λ id sub. bare_log sub) mounted.volume) id
        ∙ ap (option_map (λ (log : SubLog). log.durable)) (get_changed (λ id sub. bare_log sub) mounted.volume id)
        ∙ back (get mounted.volume id))
      where
        back : (o : Option Subvolume) → option_map (λ (log : SubLog). log.durable) (option_map (λ sub. bare_log sub) o) ≡ o
        back None = refl
        back (Some sub) = refl
