-- A finish of a commit, by its answer: the superblock that had failed, the blocks and the flush, and the commit's own superblock.
use Rattle.std.proofs.Common.{◌≡◌, ◌<◌, ◌/◌, ℕ, Bool, true, false, List, [], ◌∷◌, ◌++◌, length, take, Option, Some, None, Result, Ok, Err, Contains, refl, sym, ap, subst, ◌∙◌, inl, inr}
use Rattle.std.specs.Prelude.{slice_index_or}
use Rattle.std.proofs.lemmas.Bool.{true≢false}
use Rattle.std.proofs.lemmas.List.Elements.{All-contains, All-map, All-weaker}
use Rattle.blk_base.specs.Trees.{AtBlock}
use Rattle.block_table.specs.declared.batch.Batch.{Batch}
use Rattle.batch_write.specs.Batch.{IsPlace, settle_calls, super_call}
use Rattle.disk_model.specs.Disk.{Call, GoesOn, GoesOnUntil, Held, IsCutOff, Told, after_call, after_calls, as_failed, held_now, image_now}
use Rattle.disk_model.specs.declared.fault.DeviceFault.{DeviceFault}
use Rattle.disk_model.specs.declared.fault.DeviceFault.TheVariants as fault
use Rattle.disk_model.proofs.CrashLaws.{Contains-here, Contains-single, after_calls-length}
use Rattle.device_side.specs.Finish.{AtBlocks, AtSuper, IsFinishOf, IsStopped, calls_ahead}
use Rattle.device_side.specs.Device.{Device, after_done, after_tried, again_calls, to_write}
use Rattle.commit_images.specs.Admissible.{IsReached, IsSettled, MayWriteSuper}
use Rattle.commit_images.specs.Scene.{Commit, Happening, Mounted, Scene, scene_after_again, scene_after_super, state_in}
use Rattle.commit_core.specs.Coming.{numbered}
use Rattle.commit_core.specs.Sealed.{HavePlaces, IsOfNewest, IsReadyToWrite}
use Rattle.commit_device.specs.Calls.{HoldsAtLeast}
use Rattle.commit_device.specs.Finish.{IsFinished, KnowsFailed, MayFinish}
use Rattle.commit_device.proofs.Led.{IsLed, finished, led_by_all, led_joined, led_untold}
use Rattle.commit_device.proofs.Steps.{Goes, again_goes, goes_held, goes_none, goes_on, super_goes, with_held}
use Rattle.commit_device.proofs.Writes.{AreCutOff, AreWritable, IsSettledSo, not_none, same_head, same_tail, settle_cut, settle_done, settle_goes}

-- ---- the superblock whose write had failed

-- which superblocks a crash may find, by what the device knows
pub data AreFound (failed : Option (List ℕ)) (found : List Commit) : Type 0 where
  Alone : (commit : Commit) → found ≡ commit ∷ [] → failed ≡ None → AreFound failed found
  Beside : (commit other : Commit) (others : List Commit) → found ≡ commit ∷ other ∷ others → failed ≡ Some commit.superblock → AreFound failed found

are_found : (failed : Option (List ℕ)) (found : List Commit) → KnowsFailed failed found → AreFound failed found
are_found failed [] knows = absurd knows
are_found failed (commit ∷ []) knows = Alone commit refl knows
are_found failed (commit ∷ other ∷ others) knows = Beside commit other others refl knows

-- it is written again, if there is one, and the commit may be written then
pub record IsBegun (mounted : Mounted) (scene : Scene) (failed : Option (List ℕ)) (blocks : List (ℕ × List ℕ)) (commit : Commit) : Type 0 where
  pub mid : Scene
  pub goes : Goes mounted scene mid (again_calls failed)
  pub ready : IsReadyToWrite mid blocks commit
  pub first : Commit
  pub alone : mid.found ≡ first ∷ []
  pub is_first : mid.found ≡ take 1 scene.found

begun : (mounted : Mounted) (scene : Scene) (failed : Option (List ℕ)) (blocks : List (ℕ × List ℕ)) (commit : Commit) → AreFound failed scene.found → IsReadyToWrite scene blocks commit → IsBegun mounted scene failed blocks commit
begun mounted scene failed blocks commit (Alone first found none) ready = record {
  mid = scene;
  goes = subst (λ (o : Option (List ℕ)). Goes mounted scene scene (again_calls o)) (sym none) (goes_none mounted scene);
  ready = ready;
  first = first;
  alone = found;
  is_first = found ∙ sym (ap (take 1) found);
}
begun mounted scene failed blocks commit (Beside first other others found some) ready = record {
  mid = mid;
  goes = subst (λ (o : Option (List ℕ)). Goes mounted scene mid (again_calls o)) (sym some) (again_goes mounted scene first other others true first.superblock found (λ _. refl));
  ready = record {
    runs = ready.runs;
    first_time = ready.first_time;
    not_super = ready.not_super;
    writable = ready.writable;
    unreached = λ block b one c. ready.unreached block b one (subst (λ (cs : List Commit). Contains cs one) (sym found) (subst (Contains (first ∷ other ∷ others)) (sym (Contains-single first one c)) (Contains-here first (other ∷ others))));
    reached = λ block b. elim (ready.reached block b) [ inl own ↦ inl own | inr newest ↦ inr (subst (λ (cs : List Commit). IsOfNewest cs block) found newest) ];
  };
  first = first;
  alone = refl;
  is_first = sym (ap (take 1) found);
}
  where
    mid : Scene
    mid = scene_after_again scene (first ∷ other ∷ others) true first.superblock

-- ---- where a call failed

not_ok : {P : Type 0} → false ≡ true → P
not_ok e = absurd (true≢false (sym e))

-- the scene is as before, but for the disk
record IsBut (scene behind : Scene) : Type 0 where
  found : behind.found ≡ scene.found
  progress : behind.progress ≡ scene.progress

-- happenings lead to a scene that is as before, but for the disk
record IsLedSo (mounted : Mounted) (scene mid : Scene) (old new : Told) : Type 0 where
  behind : Scene
  led : IsLed mounted scene behind old new
  but : IsBut mid behind

-- the superblock that had failed fails again
again_cut : (mounted : Mounted) (scene : Scene) (failed : Option (List ℕ)) (old new : Told) → HoldsAtLeast (held_now old) scene.held → AreFound failed scene.found → IsCutOff old new (again_calls failed) → IsLedSo mounted scene scene old new
again_cut mounted scene failed old new holds (Alone first found none) cut =
    absurd (not_none cut.failed cut.done cut.rest (sym (ap again_calls none) ∙ cut.are))
again_cut mounted scene failed old new holds (Beside first other others found some) cut =
    by cut.done cut.failed cut.rest (sym (ap again_calls some) ∙ cut.are) cut.goes_on
  where
    by : (done : List Call) (last : Call) (rest : List Call) → super_call first.superblock ∷ [] ≡ done ++ last ∷ rest → GoesOnUntil old new done last → IsLedSo mounted scene scene old new
    by [] last rest are (inl (left, goes)) = record {
      behind = scene_after_again scene (first ∷ other ∷ others) false left;
      led = led_by_all mounted scene (scene_after_again scene (first ∷ other ∷ others) false left) old new (Call.Super first.superblock false left ∷ []) holds
          (again_goes mounted scene first other others false left found not_ok)
          (subst (λ (call : Call). GoesOn old new (as_failed call left ∷ [])) (sym (same_head (super_call first.superblock) last [] rest are)) goes);
      but = record { found = sym found; progress = refl };
    }
    by [] last rest are (inr goes) = record {
      behind = scene;
      led = led_by_all mounted scene scene old new [] holds (goes_none mounted scene) goes;
      but = record { found = refl; progress = refl };
    }
    by (call ∷ done) last rest are goes = absurd (not_none last done rest (same_tail (super_call first.superblock) call [] (done ++ last ∷ rest) are))

-- a block or the flush fails
blocks_cut : (mounted : Mounted) (scene : Scene) (pairs : List AtBlock) (old new : Told) → HoldsAtLeast (held_now old) scene.held → AreWritable scene pairs → IsCutOff old new (settle_calls pairs) → IsLedSo mounted scene scene old new
blocks_cut mounted scene pairs old new holds may cut = by cut.goes_on
  where
    cuts : AreCutOff mounted scene scene.held cut.done cut.failed
    cuts = settle_cut mounted scene scene.held pairs may cut.done cut.failed cut.rest cut.are

    mid : Scene
    mid = with_held scene (after_calls scene.held cut.done)

    by : GoesOnUntil old new cut.done cut.failed → IsLedSo mounted scene scene old new
    by (inl (left, goes)) =
        let one : Call = as_failed cut.failed left in
        let behind : Scene = with_held scene (after_call (after_calls scene.held cut.done) one) in
        record {
          behind = behind;
          led = led_by_all mounted scene behind old new (cut.done ++ one ∷ []) holds (goes_on mounted scene mid behind cut.done (one ∷ []) cuts.before (cuts.last left)) goes;
          but = record { found = refl; progress = refl };
        }
    by (inr goes) = record {
      behind = mid;
      led = led_by_all mounted scene mid old new cut.done holds cuts.before goes;
      but = record { found = refl; progress = refl };
    }

-- ---- the commit's own superblock

-- a block of a list with places is a block of the image
inside : (count : ℕ) (pairs : List AtBlock) → HavePlaces count pairs → (block : ℕ × List ℕ) → Contains (numbered pairs) block → block.0 < count
inside count pairs have block c =
    All-contains (λ (one : ℕ × List ℕ). one.0 < count) (numbered pairs) block
    (All-map (λ (one : ℕ × List ℕ). one.0 < count) (λ (pair : AtBlock). (pair.0.0 / 4096, pair.1)) pairs
    (All-weaker (λ (pair : AtBlock). IsPlace count pair.0) (λ (pair : AtBlock). pair.0.0 / 4096 < count) (λ pair place. place.inside) pairs have.places)) c

-- once the blocks are written and a flush answered Ok, it may be written
may_super : (scene : Scene) (pairs : List AtBlock) (commit first : Commit) (ok : Bool) (left : List ℕ) → HavePlaces (length scene.held.image) pairs → IsReadyToWrite scene (numbered pairs) commit
    → scene.found ≡ first ∷ [] → (ok ≡ true → left ≡ commit.superblock) → MayWriteSuper (with_held scene (after_calls scene.held (settle_calls pairs))) ok left
may_super scene pairs commit first ok left have ready alone reads = record {
  commit = commit;
  first = first;
  runs = ready.runs;
  first_time = ready.first_time;
  alone = alone;
  durable = λ block b. elim (ready.reached block b) [
    | inl own ↦
        let settled : IsSettledSo (after_calls scene.held (settle_calls pairs)) block = settle_done scene.held pairs block own have.once (inside (length scene.held.image) pairs have block own) in
        IsSettled (ready.not_super block own) settled.settled settled.reads
    | inr newest ↦ IsReached first (subst (λ (cs : List Commit). Contains cs first) (sym alone) (Contains-here first [])) (subst (λ (cs : List Commit). IsOfNewest cs block) alone newest)
  ];
  reads = reads;
}

-- ---- the whole of it

module _ (mounted : Mounted) (scene : Scene) (commit : Commit) (device after : Device) (batch : Batch) (old new : Told) (may : MayFinish scene commit device batch old) where
  pub known : AreFound device.failed scene.found
  known = are_found device.failed scene.found may.knows

  pub start : IsBegun mounted scene device.failed (numbered (to_write device batch)) commit
  start = begun mounted scene device.failed (numbered (to_write device batch)) commit known may.ready

  writable : AreWritable start.mid (to_write device batch)
  writable = λ block c. record { not_super = start.ready.not_super block c; handed = start.ready.writable block c; unreached = start.ready.unreached block c }

  -- the commit ended before its superblock
  pub stopped : IsStopped device after batch old new → (happenings : List Happening) × IsFinished mounted scene commit (Err (fault.Disk false)) after old new happenings
  stopped (AtSuper same cut) =
      let so : IsLedSo mounted scene scene old new = again_cut mounted scene device.failed old new may.held known cut in
      finished mounted scene so.behind commit (Err (fault.Disk false)) after old new so.led (so.but.progress ∙ may.ready.first_time, inl so.but.found)
      (subst (λ (d : Device). KnowsFailed d.failed so.behind.found) (sym same) (subst (KnowsFailed device.failed) (sym so.but.found) may.knows))
  stopped (AtBlocks same told goes cut) =
      let one : IsLed mounted scene start.mid old told = led_by_all mounted scene start.mid old told (again_calls device.failed) may.held start.goes goes in
      let so : IsLedSo mounted start.mid start.mid told new = blocks_cut mounted start.mid (to_write device batch) told new one.held writable cut in
      finished mounted scene so.behind commit (Err (fault.Disk false)) after old new (led_joined mounted scene start.mid so.behind old told new one so.led)
      (so.but.progress ∙ start.ready.first_time, inr (so.but.found ∙ start.is_first))
      (subst (λ (d : Device). KnowsFailed d.failed so.behind.found) (sym same) (subst (KnowsFailed None) (sym (so.but.found ∙ start.alone)) refl))

  -- once its blocks are durable
  abbrev pub settled : Scene
  settled = with_held start.mid (after_calls start.mid.held (settle_calls (to_write device batch)))

  settled_goes : Goes mounted scene settled (calls_ahead device batch)
  settled_goes =
      goes_on mounted scene start.mid settled (again_calls device.failed) (settle_calls (to_write device batch)) start.goes
      (settle_goes mounted start.mid start.mid.held (to_write device batch) writable)

  size : length start.mid.held.image ≡ length (image_now old)
  size =
      ap (λ (held : Held). length held.image) (goes_held mounted scene start.mid (again_calls device.failed) start.goes) ∙ after_calls-length scene.held (again_calls device.failed)
      ∙ ap length may.held.image

  -- its superblock is written, or its write failed
  abbrev pub written : Bool → List ℕ → Scene
  written ok left = scene_after_super (state_in mounted.volume settled) settled (Some commit) ok left

  written_goes : (ok : Bool) (left : List ℕ) → (ok ≡ true → left ≡ commit.superblock) → Goes mounted settled (written ok left) (Call.Super commit.superblock ok left ∷ [])
  written_goes ok left reads =
      super_goes mounted settled commit ok left start.ready.runs
      (may_super start.mid (to_write device batch) commit start.first ok left (subst (λ (n : ℕ). HavePlaces n (to_write device batch)) (sym size) may.places) start.ready start.alone reads)

  pub done : after ≡ after_done device batch → GoesOn old new (calls_ahead device batch ++ super_call batch.superblock.value ∷ [])
      → (happenings : List Happening) × IsFinished mounted scene commit (Ok tt) after old new happenings
  done same goes =
      finished mounted scene (written true commit.superblock) commit (Ok tt) after old new
      (led_by_all mounted scene (written true commit.superblock) old new (calls_ahead device batch ++ super_call commit.superblock ∷ []) may.held
      (goes_on mounted scene settled (written true commit.superblock) (calls_ahead device batch) (super_call commit.superblock ∷ []) settled_goes (written_goes true commit.superblock (λ _. refl)))
      (subst (λ (bytes : List ℕ). GoesOn old new (calls_ahead device batch ++ super_call bytes ∷ [])) (sym may.superblock) goes))
      (refl, refl) (subst (λ (d : Device). KnowsFailed d.failed (commit ∷ [])) (sym same) refl)

  -- what the device knows then
  knows_tried : (left : List ℕ) → after ≡ after_tried device batch → KnowsFailed after.failed (written false left).found
  knows_tried left same =
      subst (λ (d : Device). KnowsFailed d.failed (commit ∷ start.mid.found)) (sym same)
      (subst (λ (cs : List Commit). KnowsFailed (Some batch.superblock.value) (commit ∷ cs)) (sym start.alone) (ap Some (sym may.superblock)))

  pub tried : after ≡ after_tried device batch → GoesOnUntil old new (calls_ahead device batch) (super_call batch.superblock.value)
      → (happenings : List Happening) × IsFinished mounted scene commit (Err (fault.Disk true)) after old new happenings
  tried same (inl (left, goes)) =
      finished mounted scene (written false left) commit (Err (fault.Disk true)) after old new
      (led_by_all mounted scene (written false left) old new (calls_ahead device batch ++ Call.Super commit.superblock false left ∷ []) may.held
      (goes_on mounted scene settled (written false left) (calls_ahead device batch) (Call.Super commit.superblock false left ∷ []) settled_goes (written_goes false left not_ok))
      (subst (λ (bytes : List ℕ). GoesOn old new (calls_ahead device batch ++ Call.Super bytes false left ∷ [])) (sym may.superblock) goes))
      (refl, ap (λ (cs : List Commit). commit ∷ cs) start.is_first) (knows_tried left same)
  tried same (inr goes) =
      let left : List ℕ = slice_index_or settled.held.image 16 [] in
      finished mounted scene (written false left) commit (Err (fault.Disk true)) after old new
      (led_untold mounted scene settled (written false left) old new commit.superblock (led_by_all mounted scene settled old new (calls_ahead device batch) may.held settled_goes goes) (written_goes false left not_ok))
      (refl, ap (λ (cs : List Commit). commit ∷ cs) start.is_first) (knows_tried left same)

-- a finish is a list of happenings that may come
pub by_result : (mounted : Mounted) (scene : Scene) (commit : Commit) (device after : Device) (batch : Batch) (result : Result (Unit {0}) DeviceFault) (old new : Told) → MayFinish scene commit device batch old → IsFinishOf device after batch result old new
    → (happenings : List Happening) × IsFinished mounted scene commit result after old new happenings
by_result mounted scene commit device after batch (Ok done_) old new may is = done mounted scene commit device after batch old new may is.0 is.1
by_result mounted scene commit device after batch (Err (fault.Disk true)) old new may is = tried mounted scene commit device after batch old new may is.0 is.1
by_result mounted scene commit device after batch (Err (fault.Disk false)) old new may is = stopped mounted scene commit device after batch old new may is
