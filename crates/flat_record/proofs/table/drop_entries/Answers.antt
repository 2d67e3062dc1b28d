use Rattle.std.proofs.Common.{ap, ◌∙◌, rules}
use Rattle.std.specs.Ordering.{nat_cmp}
use Rattle.std.specs.FinMap.{from_entries, is_sorted}
use Rattle.std.proofs.lemmas.Fn.{filter_same}
use Rattle.flat_record.proofs.Tables.{map_drop, rising_drop}
use Rattle.flat_record.proofs.table.drop_entries.Goals as goal

pub returns-clause-items : goal.returns-clause-items
returns-clause-items g c = filter_same _ _ _ (λ x b f' k. search rules) _ _ c.retain.ensures.filtered

pub returns-clause-map : goal.returns-clause-map
returns-clause-map g c = ap from_entries (filter_same _ _ _ (λ x b f' k. search rules) _ _ c.retain.ensures.filtered) ∙ map_drop c.args.key c.args.entries.now.items

pub returns-clause-rising : goal.returns-clause-rising
returns-clause-rising g c = λ rise. ap (is_sorted nat_cmp) (filter_same _ _ _ (λ x b f' k. search rules) _ _ c.retain.ensures.filtered) ∙ rising_drop c.args.key c.args.entries.now.items rise
