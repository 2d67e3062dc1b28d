use Rattle.log_items.proofs.Ranges.{keys_outside}
use Rattle.log_items.proofs.Walk.{keys_with, keys_less}
use Rattle.log_items.proofs.laws.keys_fit_after_an_edit.Goals as goal

pub returns-clause-put : goal.returns-clause-put
returns-clause-put c = keys_with

pub returns-clause-delete : goal.returns-clause-delete
returns-clause-delete c = keys_less

pub returns-clause-range : goal.returns-clause-range
returns-clause-range c = keys_outside
