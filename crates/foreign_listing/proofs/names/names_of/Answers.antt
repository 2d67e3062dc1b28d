use Rattle.std.proofs.Common.{◌≡◌, ◌==◌, ◌∙◌, ℕ, [], filter, length, map, subst, sym, ap, vec_len}
use Rattle.std.specs.Prelude.{IfOk}
use Rattle.std.proofs.lemmas.List.{length-map}
use Rattle.foreign_format.specs.Answer.{answers_same}
use Rattle.foreign_items.specs.declared.rows.NameRow.{NameRow}
use Rattle.foreign_items.specs.View.{name_view}
use Rattle.foreign_listing.specs.Names.{in_byte_order, rows_of}
use Rattle.foreign_listing.specs.View.{entries_view}
use Rattle.foreign_listing.proofs.Naming.{rows_viewed}
use Rattle.foreign_listing.proofs.names.names_of.Goals as goal

pub returns-clause-answer : goal.returns-clause-answer
returns-clause-answer c =
    let rows = c.args.tree.now.names.items in
    let is : c.of_inode.result.now ≡ filter (λ (row : NameRow). row.key.objectid == c.args.dir) rows = c.of_inode.ensures ∙ ap (filter (λ (row : NameRow). row.key.objectid == c.args.dir)) c.deref.ensures.value in
    answers_same (λ names. entries_view names.items) c.in_byte_order.result _ _ (ap (in_byte_order []) (sym (ap (map name_view) is ∙ rows_viewed c.args.dir rows))) c.in_byte_order.ensures.answer

pub returns-clause-len : goal.returns-clause-len
returns-clause-len c =
    let rows = c.args.tree.now.names.items in
    let is : c.of_inode.result.now ≡ filter (λ (row : NameRow). row.key.objectid == c.args.dir) rows = c.of_inode.ensures ∙ ap (filter (λ (row : NameRow). row.key.objectid == c.args.dir)) c.deref.ensures.value in
    let many : length c.of_inode.result.now ≡ length (rows_of c.args.dir (map name_view rows)) = sym (length-map c.of_inode.result.now name_view) ∙ ap length (ap (map name_view) is ∙ rows_viewed c.args.dir rows) in
    subst (λ (n : ℕ). IfOk c.in_byte_order.result (λ names. vec_len names ≡ n)) many c.in_byte_order.ensures.len
