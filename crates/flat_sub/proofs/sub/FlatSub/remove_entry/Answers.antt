use Rattle.flat_sub.specs.View.{sub_view}
use Rattle.flat_sub.proofs.Removals.{last_gone}
use Rattle.flat_sub.proofs.sub.FlatSub.remove_entry.Goals as goal

pub returns-then-links-eq0-clause-gone : goal.returns-then-links-eq0-clause-gone
returns-then-links-eq0-clause-gone c = λ name place leads.
    last_gone (sub_view c.args.self.now) (sub_view c.take_name.new.self) name c.args.ino c.links.result (c.take_name.ensures.gone name place) leads c.links.ensures c.if-links-eq0.true _
    c.drop_entries.ensures.map
