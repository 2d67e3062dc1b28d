-- What the entries of a record say of a block.
use Rattle.std.proofs.Common.{◌≡◌, ◌≢◌, ◌==◌, ◌||◌, ◌&&◌, ◌++◌, ◌∷◌, ◌+◌, ◌<◌, ◌≤◌, [], ℕ, List, length, take, get_or, Contains, Bool, true, false, cond, refl, sym, ◌∙◌, ap, subst, inl, inr, eqb-true, arith}
use Rattle.std.proofs.lemmas.Bool.{eqb-false}
use Rattle.std.proofs.lemmas.List.{take_all, take_more}
use Rattle.std.proofs.lemmas.List.Elements.{Contains-append_left, Contains-append_right}
use Rattle.disk_model.specs.Disk.{Call, Held, Image, IsUnsettled, after_call, held_first, held_now}
use Rattle.disk_model.proofs.CrashLaws.{Contains-here, Contains-none, Contains-there, without-other}
use Rattle.disk_memory.specs.declared.entry.Place.{Place}
use Rattle.disk_memory.specs.declared.entry.Entry.{Entry}
use Rattle.disk_memory.specs.declared.entry.Entry.TheVariants.{Write, Super, Flush}
use Rattle.disk_memory.specs.Record.{IsStateOf, call_of, lost_then, pending_then, told_by}
use Rattle.disk_memory.specs.RecordLaws.{held_now-told, run, run-append}

-- a write of a block, of this one or of another
state_written : (held : Held) (place : Place) (bytes left : List ℕ) (ok : Bool) (at : ℕ) (pending lost same : Bool) → (place.at == at) ≡ same → IsStateOf held at pending lost
    → IsStateOf (after_call held (Call.Write place.at bytes ok left)) at (same || pending) (cond (ok && same) false lost)
state_written held place bytes left true at pending lost true eq is = record {
  is_pending = λ _. subst (Contains (place.at ∷ held.pending)) (eqb-true place.at at eq) (Contains-here place.at held.pending);
  is_lost = λ no. absurd (cc);
}
state_written held place bytes left false at pending lost true eq is = record {
  is_pending = λ _. subst (Contains (place.at ∷ held.pending)) (eqb-true place.at at eq) (Contains-here place.at held.pending);
  is_lost = is.is_lost;
}
state_written held place bytes left true at pending lost false eq is = record {
  is_pending = λ so. Contains-there place.at held.pending at (is.is_pending so);
  is_lost = λ so. without-other place.at held.lost at (λ same. eqb-false place.at at eq (sym same)) (is.is_lost so);
}
state_written held place bytes left false at pending lost false eq is = record {
  is_pending = λ so. Contains-there place.at held.pending at (is.is_pending so);
  is_lost = is.is_lost;
}

-- a flush that failed
state_failed : (held : Held) (at : ℕ) (pending lost : Bool) → IsStateOf held at pending lost → (pending || lost) ≡ true → Contains (held.pending ++ held.lost) at
state_failed held at true lost is so = Contains-append_left held.pending held.lost at (is.is_pending refl)
state_failed held at false lost is so = Contains-append_right held.pending held.lost at (is.is_lost so)

-- one entry more
pub state_follows : (held : Held) (entry : Entry) (at : ℕ) (pending lost : Bool) → IsStateOf held at pending lost → IsStateOf (after_call held (call_of held.image entry)) at (pending_then entry at pending) (lost_then entry at pending lost)
state_follows held (Write place bytes true) at pending lost is = state_written held place bytes bytes true at pending lost (place.at == at) refl is
state_follows held (Write place bytes false) at pending lost is = state_written held place bytes _ false at pending lost (place.at == at) refl is
state_follows held (Super bytes true) at pending lost is = record { is_pending = is.is_pending; is_lost = is.is_lost }
state_follows held (Super bytes false) at pending lost is = record { is_pending = is.is_pending; is_lost = is.is_lost }
state_follows held (Flush true) at pending lost is = record { is_pending = λ no. absurd (cc); is_lost = is.is_lost }
state_follows held (Flush false) at pending lost is = record { is_pending = λ no. absurd (cc); is_lost = state_failed held at pending lost is }

-- none yet
pub state_begins : (held : Held) (at : ℕ) (pending lost : Bool) → pending ≡ false → lost ≡ false → IsStateOf held at pending lost
state_begins held at pending lost no_pending no_lost = record { is_pending = λ so. absurd (cc); is_lost = λ so. absurd (cc) }

-- a pending or lost block is unsettled
pub state_unsettled : (held : Held) (at : ℕ) (pending lost : Bool) → IsStateOf held at pending lost → (pending || lost) ≡ true → IsUnsettled held at
state_unsettled held at true lost is so = inl (is.is_pending refl)
state_unsettled held at false lost is so = inr (is.is_lost so)

-- what a disk holds after one entry more
run_more : (held : Held) (entries slice : List Entry) (i : ℕ) (entry : Entry) → slice ≡ entries → i < length slice → entry ≡ get_or slice i entry
    → run held (take (i + 1) entries) ≡ after_call (run held (take i entries)) (call_of (run held (take i entries)).image entry)
run_more held entries slice i entry same within is =
    let before : Held = run held (take i entries) in
    let here : entry ≡ get_or entries i entry = is ∙ ap (λ (all : List Entry). get_or all i entry) same in
    ap (λ (all : List Entry). run held all) (take_more entries i entry (omega (arith, within, ap length same))) ∙ run-append held (take i entries) (get_or entries i entry ∷ [])
    ∙ ap (λ (one : Entry). after_call before (call_of before.image one)) (sym here)

-- after one entry more of a record
pub state_more : (held : Held) (entries slice : List Entry) (i : ℕ) (entry : Entry) (at : ℕ) (pending lost pending' lost' : Bool) → slice ≡ entries → i < length slice → entry ≡ get_or slice i entry
    → IsStateOf (run held (take i entries)) at pending lost → pending' ≡ pending_then entry at pending → lost' ≡ lost_then entry at pending lost → IsStateOf (run held (take (i + 1) entries)) at pending' lost'
state_more held entries slice i entry at pending lost pending' lost' same within is state now_pending now_lost =
    let next = state_follows (run held (take i entries)) entry at pending lost state in
    let more = run_more held entries slice i entry same within is in record {
      is_pending = λ so. subst (λ (now : Held). Contains now.pending at) (sym more) (next.is_pending (sym now_pending ∙ so));
      is_lost = λ so. subst (λ (now : Held). Contains now.lost at) (sym more) (next.is_lost (sym now_lost ∙ so));
    }

-- after all entries of a record
pub state_all : (first : Image) (entries slice : List Entry) (i at : ℕ) (pending lost : Bool) → slice ≡ entries → length slice ≤ i → IsStateOf (run (held_first (told_by first entries)) (take i entries)) at pending lost
    → IsStateOf (held_now (told_by first entries)) at pending lost
state_all first entries slice i at pending lost same past state =
    let all : run (held_first (told_by first entries)) (take i entries) ≡ held_now (told_by first entries) =
    ap (λ (some : List Entry). run (held_first (told_by first entries)) some) (take_all i entries (omega (arith, past, ap length same))) ∙ sym (held_now-told first entries) in
    subst (λ (now : Held). IsStateOf now at pending lost) all state
