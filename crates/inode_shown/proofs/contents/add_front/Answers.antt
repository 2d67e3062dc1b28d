use Rattle.std.proofs.Common.{ap, ◌∙◌, arith}
use Rattle.blk_base.specs.Crc.{register_after}
use Rattle.inode_shown.proofs.Bytes.{front_by_places}
use Rattle.inode_shown.proofs.contents.add_front.Goals as goal

pub returns : goal.returns
returns c =
    let few = c.requires in
    c.crc_register.ensures ∙ ap (register_after c.args.register) (front_by_places c.args.block.now c.args.length (omega (arith, few, c.told-block)))
