use Rattle.std.proofs.Common.{sym, ◌∙◌}
use Rattle.std.proofs.lemmas.Bool.{true≢false}
use Rattle.flat_check.proofs.names.is_right.Goals as goal
use Rattle.flat_check.proofs.names.is_right.Goals.{then-is_placed, else-is_placed}

pub returns-then-is_alone : goal.returns-then-is_alone
returns-then-is_alone c near =
    elim c.if-is_placed.branch [
      | then-is_placed w ↦ (
        λ fits. record { placed = (c.is_placed.ensures near).0 w.if-is_placed.true; alone = (w.is_alone.ensures near).0 (sym w.value-is ∙ c.if-is_alone.true); items = (c.has_items_that_fit.ensures near).0 fits },
        λ right. (c.has_items_that_fit.ensures near).1 right.items,
      )
      | else-is_placed w ↦ absurd (true≢false (sym c.if-is_alone.true ∙ w.value-is ∙ w.if-is_placed.false))
    ]

pub returns-else-is_alone : goal.returns-else-is_alone
returns-else-is_alone c near = (
  λ test. absurd (true≢false (sym test ∙ c.if-is_alone.false)),
  λ right. elim c.if-is_placed.branch [
    | then-is_placed w ↦ w.value-is ∙ (w.is_alone.ensures near).1 right.alone
    | else-is_placed w ↦ absurd (true≢false (sym ((c.is_placed.ensures near).1 right.placed) ∙ w.if-is_placed.false))
  ],
)
