use Rattle.std.proofs.Common.{◌∙◌, Ok, ap, rules}
use Rattle.std.proofs.lemmas.List.Sorted.{answers_always}
use Rattle.foreign_listing.proofs.Naming.{lt_names, names_ranked, names_sorted}
use Rattle.foreign_listing.proofs.names.in_byte_order.Goals as goal

pub returns-clause-answer : goal.returns-clause-answer
returns-clause-answer c =
    c.in_ok-names.ensures.answer
    ∙ ap Ok (names_sorted c.in_ok-names.names.items c.sort_by.new.self.items (c.in_ok-sort_by.ensures.sorted lt_names names_ranked (answers_always _ _ _ (λ f a r q k. search rules)))
    (c.sort_by.ensures.stable lt_names names_ranked (answers_always _ _ _ (λ f a r q k. search rules))))
