use Rattle.std.proofs.Common.{arith, sym, ap, ◌∙◌}
use Rattle.std.specs.Ordering.{nat_cmp}
use Rattle.std.specs.FinMap.{from_entries, is_sorted}
use Rattle.std.specs.Bool.{nat_le}
use Rattle.flat_record.proofs.Tables.{position_place, position_past, put_set, put_insert, put_push, map_put, rising_put}
use Rattle.flat_record.proofs.table.put_entry.Goals as goal

pub returns-then-index-key : goal.returns-then-index-key
returns-then-index-key g c =
    let entries = c.args.entries.now.items in
    let place = position_place (λ entry. nat_le c.args.key entry.0) entries c.in-Some.at c.in-Some.ensures in
    let is = sym (put_set c.args.key c.args.value entries c.in-Some.at c.index.result.now place.1 place.0 (sym (ap (λ e. e.0) c.index.ensures) ∙ c.if-index-key.true)) in
    record { items = is; map = ap from_entries is ∙ map_put c.args.key c.args.value entries; rising = λ rise. ap (is_sorted nat_cmp) is ∙ rising_put c.args.key c.args.value entries rise; len = omega arith; capacity = omega arith }

pub returns-in-Ok : goal.returns-in-Ok
returns-in-Ok g c =
    let entries = c.args.entries.now.items in
    let place = position_place (λ entry. nat_le c.args.key entry.0) entries c.in-Some.at c.in-Some.ensures in
    let is = c.in-Ok.ensures.items ∙ sym (put_insert c.args.key c.args.value entries c.in-Some.at c.index.result.now place.1 (λ _ same. c.if-index-key.false (ap (λ e. e.0) c.index.ensures ∙ same))) in
    record { items = is; map = ap from_entries is ∙ map_put c.args.key c.args.value entries; rising = λ rise. ap (is_sorted nat_cmp) is ∙ rising_put c.args.key c.args.value entries rise; len = omega (arith, c.in-Ok.ensures.len); capacity = c.in-Ok.ensures.capacity }

pub returns-in-Ok-push : goal.returns-in-Ok-push
returns-in-Ok-push g c =
    let entries = c.args.entries.now.items in
    let is = c.in-Ok-push.ensures.items ∙ sym (put_push c.args.key c.args.value entries (position_past (λ entry. nat_le c.args.key entry.0) entries c.in-None.ensures)) in
    record { items = is; map = ap from_entries is ∙ map_put c.args.key c.args.value entries; rising = λ rise. ap (is_sorted nat_cmp) is ∙ rising_put c.args.key c.args.value entries rise; len = omega (arith, c.in-Ok-push.ensures.len); capacity = c.in-Ok-push.ensures.capacity }
