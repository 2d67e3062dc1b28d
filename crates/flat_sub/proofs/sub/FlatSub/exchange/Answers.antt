use Rattle.flat_sub.specs.View.{sub_view}
use Rattle.flat_sub.proofs.Renames.{exchange_refused}
use Rattle.flat_sub.proofs.sub.FlatSub.exchange.Goals as goal

pub returns-in-Some-clause-done : goal.returns-in-Some-clause-done
returns-in-Some-clause-done c = exchange_refused (sub_view c.args.self.now) c.args.one.now c.args.two.now c.in-Some.answer c.in-Some.ensures
