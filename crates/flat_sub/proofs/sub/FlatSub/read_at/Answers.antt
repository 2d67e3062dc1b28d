use Rattle.std.proofs.Common.{◌≡◌, sym, ap, subst, ◌∙◌}
use Rattle.std.specs.Result.{IfOk}
use Rattle.flat_model.specs.Contents.{bytes_read}
use Rattle.flat_model.specs.Operations.{file_there}
use Rattle.flat_sub.proofs.Inodes.{nothing_read, record_here, record_nowhere}
use Rattle.flat_sub.proofs.sub.FlatSub.read_at.Goals as goal

pub returns-in-Some : goal.returns-in-Some
returns-in-Some c =
    let here = record_here c.args.self.now.inodes.items c.args.ino c.in-Some.at c.index-entry.result.now c.in-Some.ensures c.index-entry.ensures in
    subst (λ r. IfOk c.read.result (λ text. text ≡ bytes_read (file_there r) c.args.offset c.args.count)) (sym here) c.read.ensures

pub returns-in-None : goal.returns-in-None
returns-in-None c =
    let nowhere = record_nowhere c.args.self.now.inodes.items c.args.ino c.in-None.ensures in
    c.repeat.ensures ∙ sym (ap (λ r. bytes_read (file_there r) c.args.offset c.args.count) nowhere ∙ nothing_read c.args.offset c.args.count)
