use Rattle.log_counts.proofs.Counted.{items_are_counted, logs_are_counted}
use Rattle.log_counts.proofs.counts.log_items_are_counted.Goals as goal

pub returns : goal.returns
returns c = record { items = items_are_counted; logs = logs_are_counted }
