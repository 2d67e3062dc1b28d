-- How much an operation leaves of what it needs.
use Rattle.std.proofs.Common.{◌≡◌, ◌≢◌, ◌≤◌, ◌+◌, ◌*◌, ℕ, Bool, true, false, cond, [], Option, Some, None, refl, sym, ap, subst, arith, inl, inr}
use Rattle.std.specs.FinMap.{get}
use Rattle.std.proofs.lemmas.Bool.{cases_eq, eq-eqb, ne_eqb}
use Rattle.block_table.specs.Table.{Table, free_blocks}
use Rattle.flat_model.specs.declared.op.Op.{Op}
use Rattle.flat_model.specs.Needs.{least_need, need, removed_by, removed_from}
use Rattle.flat_model.specs.Refusal.{is_refusal}
use Rattle.flat_model.specs.Step.{place_of, step}
use Rattle.flat_model.specs.Volume.{RunSub, RunVolume}
use Rattle.table_volume.specs.Operated.{HasRoom}
use Rattle.tree_frame.specs.Frame.{TakesAtMost}
use Rattle.volume_ops.specs.Done.{most_in, most_of, room_of}
use Rattle.volume_ops.proofs.Required.{least_cases}
use Rattle.commit_blocks.specs.Operating.{HasRoomFor}

most_fits : (run : RunVolume) (op : Op) → need run op ≢ 0 → most_of run op + 1024 ≤ need run op
unfolding need removed_by
most_fits run op = go (is_refusal (step run op []).answer) (get run (place_of op).sub.0)
  where
    go : (refuses : Bool) (sub : Option RunSub)
        → cond refuses 0 (least_need op + 2 * cond refuses 0 (elim sub as (λ o. ℕ) [ None ↦ 0 | Some s ↦ removed_from s.sub op ])) ≢ 0
        → most_in sub op + 1024 ≤ cond refuses 0 (least_need op + 2 * cond refuses 0 (elim sub as (λ o. ℕ) [ None ↦ 0 | Some s ↦ removed_from s.sub op ]))
    go true sub some = absurd (some refl)
    go false None some = elim (least_cases op) [
      | inl reads ↦ let none = reads.0 in absurd (some (omega (arith, none)))
      | inr least ↦ omega (arith, least)
    ]
    go false (Some sub) some = elim (least_cases op) [
      | inl reads ↦ let none = reads.0 in let gone = reads.1 sub.sub in absurd (some (omega (arith, none, gone)))
      | inr least ↦ omega (arith, least)
    ]

-- it takes no more than it needs, but for 1024 blocks
pub room_fits : (run : RunVolume) (op : Op) → need run op ≢ 0 → room_of run op + 1024 ≤ need run op
room_fits run op some =
    subst (λ (b : Bool). cond b 0 (most_of run op) + 1024 ≤ need run op) (sym (ne_eqb (need run op) 0 some)) (most_fits run op some)

pub room_none : (run : RunVolume) (op : Op) → need run op ≡ 0 → room_of run op ≡ 0
room_none run op none =
    ap (λ (b : Bool). cond b 0 (most_of run op)) (eq-eqb (need run op) 0 none)

pub has_room : (table : Table) (run : RunVolume) (op : Op) → HasRoomFor table run op → HasRoom table (room_of run op)
has_room table run op room = record { spare = buffers; free = enough }
  where
    buffers : room_of run op ≤ table.spare
    buffers = elim (cases_eq (need run op) 0) [
      | inl none ↦ let zero = room_none run op none in omega (arith, zero)
      | inr some ↦ let enough = room.spare some in omega (arith, enough)
    ]

    enough : room_of run op ≤ free_blocks table
    enough = elim (cases_eq (need run op) 0) [
      | inl none ↦ let zero = room_none run op none in omega (arith, zero)
      | inr some ↦ let fits = room_fits run op some in let free = room.free in omega (arith, fits, free)
    ]

-- 1024 blocks stay Free where it needs any
pub stays_free : (old new : Table) (run : RunVolume) (op : Op) → HasRoomFor old run op → TakesAtMost old new (room_of run op) → need run op ≢ 0 → 1024 ≤ free_blocks new
stays_free old new run op room taken some =
    let fits = room_fits run op some in
    let free = room.free in
    let took = taken.free in
    omega (arith, fits, free, took)

-- 80 buffers stay spare where it needs any block
pub stays_spare : (old new : Table) (run : RunVolume) (op : Op) → HasRoomFor old run op → TakesAtMost old new (room_of run op) → need run op ≢ 0 → 80 ≤ new.spare
stays_spare old new run op room taken some =
    let enough = room.spare some in
    let took = taken.spare in
    omega (arith, enough, took)
