use Rattle.std.proofs.Common.{◌∙◌, ap, arith, length, nat_le}
use Rattle.flat_sub.specs.Lists.{list_view}
use Rattle.flat_sub.proofs.Shares.{ref_share}
use Rattle.flat_sub.proofs.list.NameList.has_room_near.Goals as goal

pub returns : goal.returns
returns c =
    let share = ref_share (list_view c.args.self.now) c.args.name.now.ino.0 c.args.name.now.dir.0 in
    c.fits.ensures ∙ ap (λ n. nat_le n 2000) (omega (arith, share, ap length c.as_bytes.ensures.value))
