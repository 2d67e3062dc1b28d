use Rattle.std.proofs.Common.{[], refl, sym}
use Rattle.item_dir.specs.Entry.{entry_view}
use Rattle.name_walk.proofs.InSlots.{lead_found, lead_missed}
use Rattle.name_walk.proofs.slots.lead_at.Goals as goal

pub returns-in_err-entries : goal.returns-in_err-entries
returns-in_err-entries c = λ sub given.
    rw c.from_residual.ensures (lead_missed sub c.args.dir c.name_hash.result c.args.name.now c.name_hash.ensures [] (c.in_err-entries.ensures.same sub given.gives) refl)

pub returns-in_err-entry : goal.returns-in_err-entry
returns-in_err-entry c = λ sub given.
    rw c.from_residual-in_err-entry.ensures
    (lead_missed sub c.args.dir c.name_hash.result c.args.name.now c.name_hash.ensures c.in_ok-entries.entries (c.in_ok-entries.ensures.same sub given.gives) (sym c.in_err-entry.ensures))

pub returns : goal.returns
returns c = λ sub given.
    lead_found sub c.args.dir c.name_hash.result c.args.name.now c.name_hash.ensures c.in_ok-entries.entries (c.in_ok-entries.ensures.same sub given.gives) given.coherent (entry_view c.in_ok-entry.entry) (sym c.in_ok-entry.ensures)
