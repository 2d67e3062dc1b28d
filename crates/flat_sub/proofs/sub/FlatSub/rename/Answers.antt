use Rattle.flat_sub.specs.View.{sub_view}
use Rattle.flat_sub.proofs.Renames.{rename_refused}
use Rattle.flat_sub.proofs.sub.FlatSub.rename.Goals as goal

pub returns-in-Some-clause-done : goal.returns-in-Some-clause-done
returns-in-Some-clause-done c = rename_refused (sub_view c.args.self.now) c.args.old.now c.args.new.now c.in-Some.answer c.in-Some.ensures
