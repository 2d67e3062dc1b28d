use Rattle.std.proofs.Common.{sym, ◌∙◌}
use Rattle.std.proofs.lemmas.Bool.{true≢false}
use Rattle.flat_check.proofs.inodes.is_right.Goals as goal
use Rattle.flat_check.proofs.inodes.is_right.Goals.{then-is_linked, else-is_linked}

pub returns-then-keeps_limits : goal.returns-then-keeps_limits
returns-then-keeps_limits c =
    elim c.if-is_linked.branch [
      | then-is_linked w ↦ (
        λ fit. record { linked = c.is_linked.ensures.0 w.if-is_linked.true; limits = w.keeps_limits.ensures.0 (sym w.value-is ∙ c.if-keeps_limits.true); attributes = c.attributes_fit.ensures.0 fit },
        λ right. c.attributes_fit.ensures.1 right.attributes,
      )
      | else-is_linked w ↦ absurd (true≢false (sym c.if-keeps_limits.true ∙ w.value-is ∙ w.if-is_linked.false))
    ]

pub returns-else-keeps_limits : goal.returns-else-keeps_limits
returns-else-keeps_limits c = (
  λ test. absurd (true≢false (sym test ∙ c.if-keeps_limits.false)),
  λ right. elim c.if-is_linked.branch [
    | then-is_linked w ↦ w.value-is ∙ w.keeps_limits.ensures.1 right.limits
    | else-is_linked w ↦ absurd (true≢false (sym (c.is_linked.ensures.1 right.linked) ∙ w.if-is_linked.false))
  ],
)
