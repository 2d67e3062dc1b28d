use Rattle.std.proofs.Common.{ap, ◌∙◌}
use Rattle.std.proofs.lemmas.Nat.{and_mask}
use Rattle.blk_base.specs.Crc.{extref_hash_of, register_after}
use Rattle.blk_base.proofs.name.extref_hash.Goals as goal

pub returns : goal.returns
unfolding extref_hash_of
returns c = c.crc_register.ensures ∙ ap (λ x. register_after x c.args.name.now) (and_mask c.args.parent.0 32)
