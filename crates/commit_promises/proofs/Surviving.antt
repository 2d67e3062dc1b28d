-- What is acknowledged survives, inode by inode.
use Rattle.std.proofs.Common.{◌≡◌, ℕ, ◌≤◌, Bool, true, false, List, ◌∷◌, ◌++◌, refl, ap, arith}
use Rattle.std.specs.List.{Contains}
use Rattle.blk_base.specs.declared.key.SubId.{SubId}
use Rattle.blk_base.specs.declared.key.Ino.{Ino}
use Rattle.flat_model.specs.declared.answer.Answer.{Answer}
use Rattle.flat_model.specs.Names.{leads_to}
use Rattle.flat_model.specs.Volume.{Volume, Subvolume}
use Rattle.flat_model.proofs.Lists.{contains_filter}
use Rattle.std.proofs.lemmas.Bool.{eq-eqb}
use Rattle.flat_model.specs.Coherent.{IsCoherentVolume}
use Rattle.flat_model.specs.Step.{Operated}
use Rattle.commit_history.specs.declared.event.Event.{Event}
use Rattle.commit_history.specs.declared.event.Event.TheVariants as event
use Rattle.commit_history.specs.declared.event.Logged.{Logged}
use Rattle.commit_history.specs.State.{SubLog, Synced, HasLog}
use Rattle.commit_history.specs.Effects.{state_of, synced}
use Rattle.commit_history.specs.Legal.{IsLegal}
use Rattle.commit_history.specs.Survival.{SubSurvives, operations_of}
use Rattle.commit_history.proofs.AllHold.{all_survive}
use Rattle.commit_promises.specs.Answered.{is_durable, number_given, HasAnswered, RecordIsSince, NamesAreSince, EntriesAreSince, EachLeft}
use Rattle.commit_promises.proofs.Promises.{acknowledged_once_answered, log_of_step}

module _ (volume : Volume) (history : List Operated) (id committed_at : ℕ) (acknowledged : List Synced) (left : Subvolume) (survives : SubSurvives volume history id committed_at acknowledged left) where
  -- since the last full commit
  pub committed_record : (ino point : ℕ) → point ≤ committed_at → RecordIsSince volume history id ino point left
  committed_record ino point low = record {
    record_is = λ inode has. let own = survives.records ino inode has in (own.point, (let c = own.since.committed in omega (arith, c, low)), (own.there, own.at, own.same));
    absent = λ none. let own = survives.absence ino none in (own.point, (let c = own.since_data.committed in omega (arith, c, low)), (own.there, own.at, own.absent));
  }

  pub committed_names : (ino point : ℕ) → point ≤ committed_at → NamesAreSince volume history id ino point left
  committed_names ino point low inode has = let own = survives.names ino inode has in (own.point, (let c = own.since.committed in omega (arith, c, low)), (own.there, own.at, own.same))

  -- since an acknowledged fsync
  pub acknowledged_record : (fsync : Synced) → Contains acknowledged fsync → RecordIsSince volume history id fsync.ino fsync.point left
  acknowledged_record fsync c = record {
    record_is = λ inode has. let own = survives.records fsync.ino inode has in (own.point, own.since.own fsync c refl, (own.there, own.at, own.same));
    absent = λ none. let own = survives.absence fsync.ino none in (own.point, own.since_data.own fsync c refl, (own.there, own.at, own.absent));
  }

  pub acknowledged_names : (fsync : Synced) → Contains acknowledged fsync → fsync.names ≡ true → NamesAreSince volume history id fsync.ino fsync.point left
  acknowledged_names fsync c names inode has = let own = survives.names fsync.ino inode has in (own.point, own.since.own fsync c names refl, (own.there, own.at, own.same))

  pub acknowledged_entries : (fsync : Synced) → Contains acknowledged fsync → fsync.names ≡ true → EntriesAreSince volume history id fsync.ino fsync.point left
  acknowledged_entries fsync c names = record {
    had = λ ino then_ at has inode there. let own = survives.names ino inode there in (own.point, own.since.in_directory fsync then_ c names at has, (own.there, own.at, own.same));
    gone = λ ino then_ at has none. let own = survives.absence ino none in (own.point, own.since_names.in_directory fsync then_ c names at has, (own.there, own.at, own.absent));
    has = λ name there dir inode is.
        let own = survives.names name.ino inode is in
        (own.point, own.in_directory fsync name c names (contains_filter (leads_to name.ino) left.names name (eq-eqb name.ino name.ino refl) there) dir, (own.there, own.at, own.same));
  }

module _ (volume : Volume) (coherent : IsCoherentVolume volume) (front back : List Event) where
  -- each subvolume that a crash may leave survives with what its log has acknowledged
  pub each_survives : (first : Event) → IsLegal volume (front ++ first ∷ back) → (id : ℕ) (Holds : Subvolume → Type 0)
      → ((log : SubLog) (sub : Subvolume) → HasLog (state_of volume (front ++ first ∷ back)) id log → SubSurvives volume (operations_of (front ++ first ∷ back)) id (state_of volume (front ++ first ∷ back)).committed_at log.acknowledged sub → Holds sub)
      → EachLeft volume (front ++ first ∷ back) id Holds
  each_survives first legal id Holds each left sub c there =
      let own = (all_survive volume coherent (front ++ first ∷ back) legal left c).each id sub there in
      each own.0 sub own.1 own.2

  module _ (caller : ℕ) (sub : SubId) (ino : Ino) (end : Logged) (datasync : Bool) (answer : Answer) (answered : HasAnswered volume front (event.Log caller sub ino end datasync) back answer) (durable : is_durable answer ≡ true) where
    pub fsync_record : EachLeft volume (front ++ event.Log caller sub ino end datasync ∷ back) sub.0 (RecordIsSince volume (operations_of (front ++ event.Log caller sub ino end datasync ∷ back)) sub.0 ino.0 (state_of volume front).point)
    fsync_record = each_survives (event.Log caller sub ino end datasync) answered.legal sub.0 _ (λ log left has survives.
        let old = log_of_step volume coherent caller sub ino datasync front back end answer answered in
        acknowledged_record volume _ sub.0 _ log.acknowledged left survives (synced old.0 caller (state_of volume front).point ino.0 datasync (number_given end))
        (acknowledged_once_answered volume coherent caller sub ino datasync front back end old.0 log answer answered durable old.1 has))

    pub fsync_names : datasync ≡ false → EachLeft volume (front ++ event.Log caller sub ino end datasync ∷ back) sub.0 (NamesAreSince volume (operations_of (front ++ event.Log caller sub ino end datasync ∷ back)) sub.0 ino.0 (state_of volume front).point)
    fsync_names whole = each_survives (event.Log caller sub ino end datasync) answered.legal sub.0 _ (λ log left has survives.
        let old = log_of_step volume coherent caller sub ino datasync front back end answer answered in
        acknowledged_names volume _ sub.0 _ log.acknowledged left survives (synced old.0 caller (state_of volume front).point ino.0 datasync (number_given end))
        (acknowledged_once_answered volume coherent caller sub ino datasync front back end old.0 log answer answered durable old.1 has)
        (ap (λ b. (synced old.0 caller (state_of volume front).point ino.0 b (number_given end)).names) whole))

    pub fsync_entries : datasync ≡ false → EachLeft volume (front ++ event.Log caller sub ino end datasync ∷ back) sub.0 (EntriesAreSince volume (operations_of (front ++ event.Log caller sub ino end datasync ∷ back)) sub.0 ino.0 (state_of volume front).point)
    fsync_entries whole = each_survives (event.Log caller sub ino end datasync) answered.legal sub.0 _ (λ log left has survives.
        let old = log_of_step volume coherent caller sub ino datasync front back end answer answered in
        acknowledged_entries volume _ sub.0 _ log.acknowledged left survives (synced old.0 caller (state_of volume front).point ino.0 datasync (number_given end))
        (acknowledged_once_answered volume coherent caller sub ino datasync front back end old.0 log answer answered durable old.1 has)
        (ap (λ b. (synced old.0 caller (state_of volume front).point ino.0 b (number_given end)).names) whole))
