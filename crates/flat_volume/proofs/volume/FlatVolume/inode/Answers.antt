use Rattle.std.proofs.Common.{◌∙◌, sym}
use Rattle.flat_model.specs.Volume.{RunVolume}
use Rattle.flat_sub.specs.View.{sub_view}
use Rattle.flat_volume.proofs.Changed.{entry_at, entry_nowhere, record_there}
use Rattle.flat_volume.proofs.volume.FlatVolume.inode.Goals as goal

pub returns-in-Some : goal.returns-in-Some
returns-in-Some c =
    let run : RunVolume = c.args.self.now in
    let sub = c.in_ok-sub.sub.now in
    sym (record_there run c.args.sub.0 c.args.ino.0 (sub_view sub) (sym c.in_ok-sub.ensures.view) ∙ entry_at sub.inodes.items c.args.ino.0 c.in-Some.at c.index-entry.result.now (sym c.in-Some.ensures) c.index-entry.ensures)

pub returns-in-None : goal.returns-in-None
returns-in-None c =
    let run : RunVolume = c.args.self.now in
    let sub = c.in_ok-sub.sub.now in
    sym (record_there run c.args.sub.0 c.args.ino.0 (sub_view sub) (sym c.in_ok-sub.ensures.view) ∙ entry_nowhere sub.inodes.items c.args.ino.0 (sym c.in-None.ensures))
