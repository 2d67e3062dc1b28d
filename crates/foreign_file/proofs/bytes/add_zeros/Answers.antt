use Rattle.std.proofs.Common.{◌≡◌, ◌-◌, ℕ, ap, ◌∙◌, arith}
use Rattle.blk_base.specs.Bytes.{zeros}
use Rattle.blk_base.specs.Crc.{register_after}
use Rattle.foreign_file.proofs.Summing.{register_none, zeros_more}
use Rattle.foreign_file.proofs.bytes.add_zeros.Goals as goal

pub loop-left-preserved : goal.loop-left-preserved
loop-left-preserved c =
    ap (λ (r : ℕ). register_after r (zeros (c.loop-left.left - c.min-step.result))) c.crc_register-after.ensures
    ∙ zeros_more c.loop-left.after 4096 c.loop-left.left c.min-step.result (let is = c.min-step.ensures in omega arith) (let is = c.min-step.ensures in omega arith)
    ∙ c.loop-left.invariant

pub returns : goal.returns
returns c =
    let none : c.loop-left.left ≡ 0 = omega arith in
    register_none c.loop-left.after (zeros c.loop-left.left) (ap zeros none) ∙ c.loop-left.invariant
