use Rattle.std.proofs.Common.{◌+◌, ◌/◌, nat_lt, ap, ◌∙◌, rules}
use Rattle.std.specs.Ordering.{nat_cmp}
use Rattle.std.specs.FinMap.{from_entries, retain_keys, is_sorted}
use Rattle.std.proofs.lemmas.Fn.{filter_same}
use Rattle.flat_record.proofs.Files.{map_retain, rising_retain, below_size}
use Rattle.flat_record.proofs.blocks.keep_below.Goals as goal

pub returns-clause-map : goal.returns-clause-map
returns-clause-map c =
    let items = c.args.blocks.now.items in
    let end = (c.args.size + 4095) / 4096 in
    ap from_entries (filter_same _ _ _ (λ x b f' k. search rules) _ _ c.retain.ensures.filtered) ∙ map_retain (λ n. nat_lt n end) items ∙ (λ i. retain_keys (from_entries items) (λ n. below_size n c.args.size i))

pub returns-clause-rising : goal.returns-clause-rising
returns-clause-rising c = λ rise.
    let end = (c.args.size + 4095) / 4096 in
    ap (is_sorted nat_cmp) (filter_same _ _ _ (λ x b f' k. search rules) _ _ c.retain.ensures.filtered) ∙ rising_retain (λ n. nat_lt n end) c.args.blocks.now.items rise
