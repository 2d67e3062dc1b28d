use Rattle.std.proofs.Common.{◌↔◌, Result, subst}
use Rattle.std.specs.Prelude.{IsTrue}
use Rattle.blk_base.specs.declared.fault.ItemFault.{ItemFault}
use Rattle.blk_base.specs.Extents.{ExtentValue}
use Rattle.coherent_limits.specs.Limits.{KeepsExtentLimits}
use Rattle.coherent_limits.proofs.extents.keeps_limits.Goals as goal

pub returns-in-Ok : goal.returns-in-Ok
returns-in-Ok c =
    subst (λ (r : Result ExtentValue ItemFault). IsTrue c.extent_keeps_limits.result ↔ KeepsExtentLimits c.args.table.now c.args.key.now r c.args.size) c.in-Ok.ensures c.extent_keeps_limits.ensures
