use Rattle.std.proofs.Common.{subst, ◌∙◌}
use Rattle.flat_sub.specs.Ends.{IsEnd}
use Rattle.flat_sub.proofs.Movings.{one_inode}
use Rattle.flat_sub.proofs.walk.End.is_one_inode.Goals as goal

pub returns-in-Taken : goal.returns-in-Taken
returns-in-Taken c = λ names one two is other. let taken = subst (IsEnd names one) c.in-Taken.is is in c.leads_to.ensures names two other ∙ one_inode one _ _ taken.name c.in-Taken.ino two taken.slot taken.leads
