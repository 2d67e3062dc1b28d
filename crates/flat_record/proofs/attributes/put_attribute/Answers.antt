use Rattle.std.proofs.Common.{ℕ, List, sym, ap, ◌∙◌}
use Rattle.std.specs.Ordering.{is_le}
use Rattle.std.specs.Cmp.Lexicographic.{nat_list_cmp_total}
use Rattle.flat_record.proofs.Tables.{position_place, position_past}
use Rattle.flat_record.proofs.Orders.{name_order, names_apart, same_bytes, itself_bytes, put_in_place, put_before, put_last}
use Rattle.std.proofs.lemmas.Bool.{true≢false}
use Rattle.flat_record.proofs.attributes.put_attribute.Goals as goal

pub returns-then-eq : goal.returns-then-eq
returns-then-eq c =
    let entries = c.args.entries.now.items in
    let name = c.args.name in
    let place = position_place (λ (entry : List ℕ × List ℕ). is_le (name_order name entry.0)) entries c.in-Some.at c.in-Some.ensures in
    let found = c.index.result.now in
    let key = sym (ap (λ (e : List ℕ × List ℕ). e.0) c.index.ensures) ∙ same_bytes found.0 name (sym c.eq.ensures ∙ c.if-eq.true) in
    record { items = sym (put_in_place nat_list_cmp_total names_apart name c.args.value entries c.in-Some.at found place.1 place.0 key) }

pub returns-in-Ok : goal.returns-in-Ok
returns-in-Ok c =
    let entries = c.args.entries.now.items in
    let name = c.args.name in
    let place = position_place (λ (entry : List ℕ × List ℕ). is_le (name_order name entry.0)) entries c.in-Some.at c.in-Some.ensures in
    let found = c.index.result.now in
    record { items = c.in-Ok.ensures.items ∙ sym (put_before nat_list_cmp_total names_apart name c.args.value entries c.in-Some.at found place.1 (λ _ same. true≢false (sym (itself_bytes found.0 name (ap (λ (e : List ℕ × List ℕ). e.0) c.index.ensures ∙ same)) ∙ sym c.eq.ensures ∙ c.if-eq.false))) }

pub returns-in-Ok-push : goal.returns-in-Ok-push
returns-in-Ok-push c =
    let entries = c.args.entries.now.items in
    let name = c.args.name in
    record { items = c.in-Ok-push.ensures.items ∙ sym (put_last nat_list_cmp_total names_apart name c.args.value entries (position_past (λ (entry : List ℕ × List ℕ). is_le (name_order name entry.0)) entries c.in-None.ensures)) }
