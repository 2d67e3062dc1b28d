use Rattle.std.proofs.Common.{◌↔◌, Ok, subst, sym}
use Rattle.std.specs.Prelude.{IsTrue}
use Rattle.item_extent.specs.View.{extent_view}
use Rattle.item_extent.specs.declared.extent.Extent.{Extent}
use Rattle.coherent_limits.specs.Limits.{KeepsExtentLimits}
use Rattle.coherent_limits.proofs.extents.extent_keeps_limits.Goals as goal

pub returns-in-Regular : goal.returns-in-Regular
returns-in-Regular c =
    subst (λ (e : Extent). IsTrue c.run_keeps_limits.result ↔ KeepsExtentLimits c.args.table.now c.args.key.now (Ok (extent_view e)) c.args.size) (sym c.in-Regular.is) c.run_keeps_limits.ensures
