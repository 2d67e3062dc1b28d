-- The answers of `run`, from those of its parts.
use Rattle.std.proofs.Common.{◌≡◌, ◌≤◌, ◌⊎◌, ◌++◌, inl, inr, ℕ, List, length, Option, Some, None, Ok, Err, refl, sym, subst, arith}
use Rattle.disk_model.specs.Disk.{Told, IfTold}
use Rattle.io_edge.specs.Edge.{Takes, TakesFront}
use Rattle.blk_base.specs.Causes.{HasRisen}
use Rattle.tree_mount.specs.declared.fault.MountFault.{MountFault}
use Rattle.tree_mount.specs.declared.fault.MountFault.TheVariants.{Super, Log, Load, Item, Incoherent, NoRoom, Disk, OutOfMemory}
use Rattle.tree_mount.specs.Faults.{IsToldFault}
use Rattle.commit_history.specs.declared.event.Event.{Event}
use Rattle.commit_images.specs.Scene.{Mounted}
use Rattle.volume_image.specs.Tree.{Image}
use Rattle.flat_model.specs.declared.request.Line.{Line}
use Rattle.script_text.specs.declared.fault.ScriptFault.{ScriptFault}
use Rattle.script_text.specs.declared.fault.ScriptFault.TheVariants as script_faults
use Rattle.script_text.specs.Kinds as kinds
use Rattle.script_text.specs.Script.{script_of}
use Rattle.io_edge.specs.declared.reading.ReadFault.{ReadFault}
use Rattle.io_edge.specs.declared.reading.ReadFault.TheVariants as source_faults
use Rattle.io_edge.specs.Reading.{HasGivenSome, IsCutShort}
use Rattle.volume_calls.specs.Between.{Between}
use Rattle.script_lines.specs.declared.fault.RunFault.TheVariants as run_faults
use Rattle.script_answer.specs.Words.{answer_line as call_line, done_line}
use Rattle.script_lines.specs.Lines.{HasRun, AllRun as RanAll, SinkFailedAtEnd, SinkFailedInLine, MemoryLacked as RanShort, calls_text}
use Rattle.script_runner.specs.declared.status.Status.{Status}
use Rattle.script_runner.specs.declared.status.Status.TheVariants.{Done, BadScript, WriteFault, Memory}
use Rattle.script_runner.specs.declared.status.Status.TheVariants as status_kinds
use Rattle.script_runner.specs.Commands.{HasVolume, IsOfScript, IsFaultOf, IsPut, answer_line, status_of}
use Rattle.script_runner.specs.Run.{FromSource, HasLinesAnswer, HasRunAnswer, IsUntouched, IsLinesAnswer, AllRun, SinkFailed, MemoryLacked, NotMounted, DiskFailed, NoMemory, IsRunAnswer, Parsed, NotParsed, NotRead, LacksMemory, IsRead, IsRunOn, Outside, outside, status_of_script, status_of_source, text_of}
use Rattle.script_runner.proofs.AnswerLemmas.{not_refused, told_whole}
use Rattle.io_edge.proofs.Sinks.{Takes-joins, TakesFront-behind}

-- a count that rose later has risen since
pub risen_since : (old mid new : ℕ) → old ≤ mid → HasRisen mid new → HasRisen old new
risen_since old mid new before risen = omega (arith, before, risen)

-- ---- the text of a run

-- all of it was taken where all lines were run
pub whole_text : {mounted : Mounted} {lines : List Line} {start next : Between} {taken now : Option (List ℕ)} (ran : HasRun mounted lines start next taken now (Ok tt)) → Takes taken (text_of ran) now
whole_text (RanAll answers called takes) = takes

-- and so it was where memory lacked
pub short_text : {mounted : Mounted} {lines : List Line} {start next : Between} {taken now : Option (List ℕ)} (ran : HasRun mounted lines start next taken now (Err run_faults.OutOfMemory)) → Takes taken (text_of ran) now
short_text (RanShort front rest caller request answers mid are called left takes) = takes

-- a front of it was taken where the sink failed
pub front_text : {mounted : Mounted} {lines : List Line} {start next : Between} {taken now : Option (List ℕ)} (ran : HasRun mounted lines start next taken now (Err run_faults.Sink)) → TakesFront taken (text_of ran) now
front_text {taken = taken} {now = now} (SinkFailedInLine front rest caller request answers answer are called few takes) =
    TakesFront-behind taken takes.mid now (calls_text front answers) (call_line caller answer) takes.before takes.part
front_text {lines = lines} {taken = taken} {now = now} (SinkFailedAtEnd answers called takes) =
    TakesFront-behind taken takes.mid now (calls_text lines answers) (done_line (length lines)) takes.before takes.part

pub all_run : (lines : List Line) (before after : Outside) → IsRunOn lines before after (Ok tt) → HasLinesAnswer lines before after Done
all_run lines before after run =
    (text_of run.ran, told_whole Done (text_of run.ran) before.taken after.taken before.sink_faults after.sink_faults (whole_text run.ran), AllRun run)

pub sink_failed : (lines : List Line) (before after : Outside) → IsRunOn lines before after (Err run_faults.Sink) → HasRisen before.sink_faults after.sink_faults → HasLinesAnswer lines before after WriteFault
sink_failed lines before after run risen =
    (text_of run.ran, record { done = λ is. absurd cc; front = front_text run.ran; whole = λ no. absurd (no risen) }, SinkFailed run risen)

pub memory_lacked : (lines : List Line) (before after : Outside) (taken : Option (List ℕ)) (sink_mid : ℕ) → IsRunOn lines before (record after { taken = taken }) (Err run_faults.OutOfMemory)
    → before.sink_faults ≤ sink_mid → TakesFront taken (answer_line Memory) after.taken → ((HasRisen sink_mid after.sink_faults → ⊥) → Takes taken (answer_line Memory) after.taken)
    → HasLinesAnswer lines before after Memory
memory_lacked lines before after taken sink_mid run counted front whole =
    let said = text_of run.ran in (
      said ++ answer_line Memory,
      record {
        done = λ is. absurd cc;
        front = TakesFront-behind before.taken taken after.taken said (answer_line Memory) (short_text run.ran) front;
        whole = λ no. Takes-joins before.taken taken after.taken said (answer_line Memory) (short_text run.ran) (whole (λ risen. no (risen_since before.sink_faults sink_mid after.sink_faults counted risen)));
      },
      MemoryLacked taken run front,
    )

-- the line of an answer that has one
pub told_line : (status : Status) (taken taken_now : Option (List ℕ)) (sink sink_now : ℕ) → (status ≡ Done → ⊥) → TakesFront taken (answer_line status) taken_now → ((HasRisen sink sink_now → ⊥) → Takes taken (answer_line status) taken_now)
    → IsPut status (answer_line status) taken taken_now sink sink_now
told_line status taken taken_now sink sink_now other front whole = record { done = λ is. absurd (other is); front = front; whole = whole }

-- no memory for a volume that was mounted
pub told_no_memory : (lines : List Line) (before after : Outside) → IsUntouched before after
    → TakesFront before.taken (answer_line Memory) after.taken → ((HasRisen before.sink_faults after.sink_faults → ⊥) → Takes before.taken (answer_line Memory) after.taken) → HasLinesAnswer lines before after Memory
told_no_memory lines before after same front whole =
    (answer_line Memory, told_line Memory before.taken after.taken before.sink_faults after.sink_faults (λ is. cc) front whole, NoMemory same)

-- a volume that can't be mounted
pub not_mounted : (lines : List Line) (before after : Outside) (fault : MountFault) → IsToldFault before.seen fault → (fault ≡ Disk → HasRisen before.disk_faults after.disk_faults) → IsUntouched before after
    → IsLinesAnswer lines before after (status_of fault) (answer_line (status_of fault))
not_mounted lines before after (Super fault) told cause same = NotMounted (Super fault) (record { of_image = told; not_disk = λ is. cc; not_memory = λ is. cc }) same
not_mounted lines before after Log told cause same = NotMounted Log (record { of_image = told; not_disk = λ is. cc; not_memory = λ is. cc }) same
not_mounted lines before after (Load fault) told cause same = NotMounted (Load fault) (record { of_image = told; not_disk = λ is. cc; not_memory = λ is. cc }) same
not_mounted lines before after (Item at key fault) told cause same = NotMounted (Item at key fault) (record { of_image = told; not_disk = λ is. cc; not_memory = λ is. cc }) same
not_mounted lines before after (Incoherent sub ino) told cause same = NotMounted (Incoherent sub ino) (record { of_image = told; not_disk = λ is. cc; not_memory = λ is. cc }) same
not_mounted lines before after (NoRoom free need) told cause same = NotMounted (NoRoom free need) (record { of_image = told; not_disk = λ is. cc; not_memory = λ is. cc }) same
not_mounted lines before after Disk told cause same = DiskFailed (cause refl) same
not_mounted lines before after OutOfMemory told cause same = NoMemory same

pub not_done : (fault : MountFault) → status_of fault ≡ Done → ⊥
not_done (Super fault) is = cc
not_done Log is = cc
not_done (Load fault) is = cc
not_done (Item at key fault) is = cc
not_done (Incoherent sub ino) is = cc
not_done (NoRoom free need) is = cc
not_done Disk is = cc
not_done OutOfMemory is = cc

-- and its line was told
pub told_unmounted : (lines : List Line) (before after : Outside) (fault : MountFault) (status : Status) → status ≡ status_of fault → IsToldFault before.seen fault → (fault ≡ Disk → HasRisen before.disk_faults after.disk_faults) → IsUntouched before after
    → TakesFront before.taken (answer_line (status_of fault)) after.taken → ((HasRisen before.sink_faults after.sink_faults → ⊥) → Takes before.taken (answer_line (status_of fault)) after.taken) → HasLinesAnswer lines before after status
told_unmounted lines before after fault status is told cause same front whole =
    subst (HasLinesAnswer lines before after) (sym is)
    (answer_line (status_of fault), told_line (status_of fault) before.taken after.taken before.sink_faults after.sink_faults (not_done fault) front whole, not_mounted lines before after fault told cause same)

-- a script that was run
pub told_parsed : (given left : FromSource) (before after : Outside) (status : Status) (bytes : List ℕ) (lines : List Line) → IsRead given left bytes → script_of bytes ≡ Ok lines → HasLinesAnswer lines before after status → HasRunAnswer given left before after status
told_parsed given left before after status bytes lines read script told = (told.0, told.1, Parsed status told.0 bytes lines read script told.2)

-- a script that has a fault, or for which memory lacked
pub told_unparsed : (given left : FromSource) (before after : Outside) (status : Status) (bytes : List ℕ) (fault : ScriptFault) → status ≡ status_of_script fault → IsRead given left bytes → kinds.IsFaultOf fault (script_of bytes) → IsUntouched before after
    → TakesFront before.taken (answer_line (status_of_script fault)) after.taken → ((HasRisen before.sink_faults after.sink_faults → ⊥) → Takes before.taken (answer_line (status_of_script fault)) after.taken) → HasRunAnswer given left before after status
told_unparsed given left before after status bytes (script_faults.Bad line kind) is read bad same front whole =
    subst (HasRunAnswer given left before after) (sym is)
    (answer_line (BadScript line kind), told_line (BadScript line kind) before.taken after.taken before.sink_faults after.sink_faults (λ no. cc) front whole, NotParsed bytes line kind read bad same)
told_unparsed given left before after status bytes script_faults.OutOfMemory is read bad same front whole =
    subst (HasRunAnswer given left before after) (sym is)
    (answer_line Memory, told_line Memory before.taken after.taken before.sink_faults after.sink_faults (λ no. cc) front whole, LacksMemory (bytes, read.given) same)

-- a source that wasn't read
pub told_unread : (given left : FromSource) (before after : Outside) (status : Status) (fault : ReadFault) → status ≡ status_of_source fault
    → (fault ≡ source_faults.OutOfMemory → HasGivenSome given.left left.left) → ((taken : ℕ) → fault ≡ source_faults.Failed taken → IsCutShort given.left left.left given.faults left.faults taken) → IsUntouched before after
    → TakesFront before.taken (answer_line (status_of_source fault)) after.taken → ((HasRisen before.sink_faults after.sink_faults → ⊥) → Takes before.taken (answer_line (status_of_source fault)) after.taken) → HasRunAnswer given left before after status
told_unread given left before after status (source_faults.Failed taken) is some cut same front whole =
    subst (HasRunAnswer given left before after) (sym is)
    (answer_line (status_kinds.ReadFault taken), told_line (status_kinds.ReadFault taken) before.taken after.taken before.sink_faults after.sink_faults (λ no. cc) front whole, NotRead taken (cut taken refl) same)
told_unread given left before after status source_faults.OutOfMemory is some cut same front whole =
    subst (HasRunAnswer given left before after) (sym is)
    (answer_line Memory, told_line Memory before.taken after.taken before.sink_faults after.sink_faults (λ no. cc) front whole, LacksMemory (some refl) same)

-- ---- what the answers say

same_fault : (one two : MountFault) → status_kinds.NoVolume one ≡ status_kinds.NoVolume two → one ≡ two
same_fault one two is = cc

-- a volume that isn't mounted has the fault that is answered
lines_no_volume : (lines : List Line) (before after : Outside) (status : Status) (text : List ℕ) (fault : MountFault) → IsLinesAnswer lines before after status text → status ≡ status_kinds.NoVolume fault → IsFaultOf before.seen fault
lines_no_volume lines before after _ _ fault (AllRun run) is = absurd cc
lines_no_volume lines before after _ _ fault (SinkFailed run risen) is = absurd cc
lines_no_volume lines before after _ _ fault (MemoryLacked taken run front) is = absurd cc
lines_no_volume lines before after _ _ fault (NotMounted found of_image same) is = subst (IsFaultOf before.seen) (same_fault found fault is) of_image
lines_no_volume lines before after _ _ fault (DiskFailed risen same) is = absurd cc
lines_no_volume lines before after _ _ fault (NoMemory same) is = absurd cc

pub run_no_volume : (given left : FromSource) (before after : Outside) (status : Status) (text : List ℕ) (fault : MountFault) → IsRunAnswer given left before after status text → status ≡ status_kinds.NoVolume fault → IsFaultOf before.seen fault
run_no_volume given left before after _ _ fault (Parsed status text bytes lines read script answer) is = lines_no_volume lines before after status text fault answer is
run_no_volume given left before after _ _ fault (NotParsed bytes line kind read bad same) is = absurd cc
run_no_volume given left before after _ _ fault (NotRead taken cut same) is = absurd cc
run_no_volume given left before after _ _ fault (LacksMemory some same) is = absurd cc

-- a run of lines ends well where nothing fails and the volume stands
lines_complete : (lines : List Line) (before after : Outside) (status : Status) (text : List ℕ) (image : Image) → IsLinesAnswer lines before after status text → before.seen ≡ Some image → HasVolume image
    → (HasRisen before.disk_faults after.disk_faults → ⊥) → (HasRisen before.sink_faults after.sink_faults → ⊥) → (status ≡ Done) ⊎ (status ≡ Memory)
lines_complete lines before after _ _ image (AllRun run) seen it disk sink = inl refl
lines_complete lines before after _ _ image (SinkFailed run risen) seen it disk sink = absurd (sink risen)
lines_complete lines before after _ _ image (MemoryLacked taken run front) seen it disk sink = inr refl
lines_complete lines before after _ _ image (NotMounted fault found same) seen it disk sink =
    absurd (not_refused image fault it (subst (λ (s : Option Image). IsToldFault s fault) seen found.of_image) found.not_disk found.not_memory)
lines_complete lines before after _ _ image (DiskFailed risen same) seen it disk sink = absurd (disk risen)
lines_complete lines before after _ _ image (NoMemory same) seen it disk sink = inr refl

run_complete_at : (given left : FromSource) (before after : Outside) (status : Status) (text : List ℕ) (image : Image) → IsRunAnswer given left before after status text → before.seen ≡ Some image → HasVolume image
    → (HasRisen before.disk_faults after.disk_faults → ⊥) → (HasRisen before.sink_faults after.sink_faults → ⊥) → (status ≡ Done) ⊎ (status ≡ Memory) ⊎ IsOfScript status
run_complete_at given left before after _ _ image (Parsed status text bytes lines read script answer) seen it disk sink = elim (lines_complete lines before after status text image answer seen it disk sink) [ inl done ↦ inl done | inr memory ↦ inr (inl memory) ]
run_complete_at given left before after _ _ image (NotParsed bytes line kind read bad same) seen it disk sink = inr (inr tt)
run_complete_at given left before after _ _ image (NotRead taken cut same) seen it disk sink = inr (inr tt)
run_complete_at given left before after _ _ image (LacksMemory some same) seen it disk sink = inr (inl refl)

pub run_complete : (given left : FromSource) (seen : Option Image) (told : Option Told) (taken : Option (List ℕ)) (disk_faults sink_faults : ℕ) (history : List Event) (after : Outside) (status : Status) (text : List ℕ) → IsRunAnswer given left (outside seen told taken disk_faults sink_faults history) after status text
    → IfTold seen (λ image. HasVolume image → (HasRisen disk_faults after.disk_faults → ⊥) → (HasRisen sink_faults after.sink_faults → ⊥) → (status ≡ Done) ⊎ (status ≡ Memory) ⊎ IsOfScript status)
run_complete given left None told taken disk_faults sink_faults history after status text answer = tt
run_complete given left (Some image) told taken disk_faults sink_faults history after status text answer = λ it disk sink. run_complete_at given left (outside (Some image) told taken disk_faults sink_faults history) after status text image answer refl it disk sink
