-- What the bounds on room are counted from: the committed volume, the log steps since, and what each event may take.
use Rattle.std.specs.Prelude.{ℕ, ◌+◌, ◌*◌, Bool, cond, List, [], ◌∷◌, ◌++◌, fold, sum_by, Option, Some, None, nat_eq}
use Rattle.std.specs.FinMap.{get, entries}
use Rattle.flat_model.specs.Volume.{Subvolume, Volume}
use Rattle.flat_model.specs.Needs.{charge}
use Rattle.logged_volume.specs.Weight.{MadeStep, weight_of}
use Rattle.commit_history.specs.declared.event.Event.{Event}
use Rattle.commit_history.specs.declared.event.Event.TheVariants as event
use Rattle.commit_history.specs.declared.event.Logged.{Logged}
use Rattle.commit_history.specs.declared.event.Logged.TheVariants as logged
use Rattle.commit_history.specs.State.{FullCommit, State, mounted_state}
use Rattle.commit_history.specs.Effects.{after}

-- What is counted behind some events. `committed` is the volume of the last full commit that is done, else the mounted one. `steps` are the log steps of each
-- subvolume since then, the newest first. So many events came (`count`), and so many of them before the seal of that full commit (`sealed`), or before the
-- last seal of one (`sealing`). `charged` and `sealing_charged` are the charges of all events since then, the seal's included (own).
pub record Ledger : Type 0 where
  pub state : State
  pub committed : Volume
  pub steps : ℕ → List MadeStep
  pub count : ℕ
  pub sealed : ℕ
  pub sealing : ℕ
  pub charged : ℕ
  pub sealing_charged : ℕ

-- right after the mount (own)
abbrev pub mounted_ledger : Volume → Ledger
mounted_ledger volume = record {
  state = mounted_state volume;
  committed = volume;
  steps = λ id. [];
  count = 0;
  sealed = 0;
  sealing = 0;
  charged = 0;
  sealing_charged = 0;
}

-- ---- log steps

-- a log step that is made now, where its subvolume is there
abbrev pub step_now : State → ℕ → ℕ → Bool → List MadeStep
step_now state id ino datasync = elim (get state.current id) [
  | None ↦ []
  | Some run ↦ elim (get state.logs id) [
    | None ↦ []
    | Some log ↦ record { current = run.sub; logged = log.logged; target = ino; datasync = datasync } ∷ []
  ]
]

-- the steps of each subvolume with one made now
abbrev pub steps_with : Ledger → ℕ → ℕ → Bool → ℕ → List MadeStep
steps_with ledger sub ino datasync id = cond (nat_eq id sub) (step_now ledger.state sub ino datasync ++ ledger.steps id) (ledger.steps id)

-- the weight of all inodes that these steps drew: that of each subvolume (own)
abbrev pub weight_over : Volume → (ℕ → List MadeStep) → ℕ
weight_over committed steps = sum_by (λ (entry : ℕ × Subvolume). weight_of entry.1 (steps entry.0)) (entries committed)

-- the weight at a log step, this one included (own)
abbrev pub weight_at : Ledger → ℕ → ℕ → Bool → ℕ
weight_at ledger sub ino datasync = weight_over ledger.committed (steps_with ledger sub ino datasync)

-- the steps after a log step: one that gives way to a full commit counts in its own weight alone (own)
abbrev pub steps_ended : Ledger → ℕ → ℕ → Bool → Logged → ℕ → List MadeStep
steps_ended ledger sub ino datasync logged.Already = steps_with ledger sub ino datasync
steps_ended ledger sub ino datasync (logged.Ticket number) = steps_with ledger sub ino datasync
steps_ended ledger sub ino datasync (logged.Full reason) = ledger.steps

-- ---- charges

-- the most blocks that an event takes (own)
abbrev pub charge_of : Ledger → Event → ℕ
charge_of ledger (event.Op caller op again end indexes) = charge ledger.state.current op
charge_of ledger (event.Refused caller target answer) = 0
charge_of ledger (event.Log caller sub ino end datasync) = 2 * weight_at ledger sub.0 ino.0 datasync + 33
charge_of ledger (event.Ask caller) = 0
charge_of ledger (event.SealSub caller sub number) = 0
charge_of ledger (event.SubWritten caller sub number) = 0
charge_of ledger (event.SealRoot caller) = 33
charge_of ledger (event.RootDone caller) = 0
charge_of ledger (event.SealFull caller) = 33
charge_of ledger (event.FullDone caller) = 0
charge_of ledger (event.Failed caller turn tried) = 0
charge_of ledger (event.GiveUp caller sub number) = 0

-- ---- events

-- the volume of the full commit that runs
abbrev pub volume_sealed : Option FullCommit → Volume → Volume
volume_sealed None volume = volume
volume_sealed (Some full) volume = full.volume

-- what is counted after one event more
abbrev pub counted : Ledger → Event → Ledger
counted ledger event = record ledger {
  state = after ledger.state event;
  count = ledger.count + 1;
  charged = ledger.charged + charge_of ledger event;
  sealing_charged = ledger.sealing_charged + charge_of ledger event;
}

-- what is counted after an event (own)
abbrev pub ledger_after : Ledger → Event → Ledger
ledger_after ledger (event.Log caller sub ino end datasync) =
    record (counted ledger (event.Log caller sub ino end datasync)) { steps = steps_ended ledger sub.0 ino.0 datasync end }
ledger_after ledger (event.SealFull caller) =
    record (counted ledger (event.SealFull caller)) { sealing = ledger.count; sealing_charged = charge_of ledger (event.SealFull caller) }
ledger_after ledger (event.FullDone caller) = record (counted ledger (event.FullDone caller)) {
  committed = volume_sealed ledger.state.full ledger.committed;
  steps = λ id. [];
  sealed = ledger.sealing;
  charged = ledger.sealing_charged;
}
ledger_after ledger (event.Op caller op again end indexes) = counted ledger (event.Op caller op again end indexes)
ledger_after ledger (event.Refused caller target answer) = counted ledger (event.Refused caller target answer)
ledger_after ledger (event.Ask caller) = counted ledger (event.Ask caller)
ledger_after ledger (event.SealSub caller sub number) = counted ledger (event.SealSub caller sub number)
ledger_after ledger (event.SubWritten caller sub number) = counted ledger (event.SubWritten caller sub number)
ledger_after ledger (event.SealRoot caller) = counted ledger (event.SealRoot caller)
ledger_after ledger (event.RootDone caller) = counted ledger (event.RootDone caller)
ledger_after ledger (event.Failed caller turn tried) = counted ledger (event.Failed caller turn tried)
ledger_after ledger (event.GiveUp caller sub number) = counted ledger (event.GiveUp caller sub number)

-- what is counted after these events of a volume that was mounted (own)
abbrev pub ledger_of : Volume → List Event → Ledger
ledger_of volume events = fold ledger_after (mounted_ledger volume) events
