use Rattle.std.proofs.Common.{sym, ◌∙◌}
use Rattle.flat_sub.proofs.Movings.{made_at}
use Rattle.flat_sub.proofs.moving.name_at.Goals as goal

pub returns : goal.returns
returns c = λ names left before is bytes. made_at left before c.dir.result c.args.index c.in_ok-last_name.field-0 c.args.ino (c.dir.ensures names before is) (c.in_ok-last_name.ensures ∙ sym bytes)
