use Rattle.std.proofs.Common.{arith, ◌∙◌, sym, ap, ℕ, ◌<◌, ◌∷◌, []}
use Rattle.std.proofs.Math.Nat.{mod-eq_of_lt}
use Rattle.blk_base.specs.Bytes.{with_bytes}
use Rattle.blk_base.proofs.fields.put_u8.Goals as goal

pub returns : goal.returns
returns c =
    let fits : c.args.value < 256 = omega arith in
    c.put_bytes.ensures ∙ ap (λ (b : ℕ). with_bytes c.args.bytes.now c.args.at (b ∷ [])) (sym (mod-eq_of_lt fits))
