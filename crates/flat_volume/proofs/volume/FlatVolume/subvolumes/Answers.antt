use Rattle.std.proofs.Common.{sym, ap, ◌∙◌}
use Rattle.std.specs.Cmp.{nat_cmp_total}
use Rattle.std.specs.FinMap.{entries}
use Rattle.flat_record.proofs.Tables.{entries_rising}
use Rattle.flat_volume.proofs.Bare.{seen}
use Rattle.flat_volume.proofs.Kept.{rising_seen}
use Rattle.flat_volume.proofs.volume.FlatVolume.subvolumes.Goals as goal

pub returns-clause-entries : goal.returns-clause-entries
returns-clause-entries c =
    let subs = c.self.inside.subs.items in
    sym (ap entries (sym c.self.view_is) ∙ entries_rising nat_cmp_total (seen subs) (rising_seen subs ∙ c.self.invariant.numbers_rise))
