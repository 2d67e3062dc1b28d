use Rattle.std.proofs.Common.{sym, ◌∙◌}
use Rattle.std.proofs.lemmas.Bool.{true≢false}
use Rattle.flat_check.proofs.inodes.is_linked.Goals as goal
use Rattle.flat_check.proofs.inodes.is_linked.Goals.{then-is_ino_number, else-is_ino_number}

pub returns-then-has_right_links : goal.returns-then-has_right_links
returns-then-has_right_links c =
    elim c.if-is_ino_number.branch [
      | then-is_ino_number w ↦ (
        λ up. record { number = c.is_ino_number.ensures.0 w.if-is_ino_number.true; links = w.has_right_links.ensures.0 (sym w.value-is ∙ c.if-has_right_links.true); way = c.has_way_up.ensures.0 up },
        λ linked. c.has_way_up.ensures.1 linked.way,
      )
      | else-is_ino_number w ↦ absurd (true≢false (sym c.if-has_right_links.true ∙ w.value-is ∙ w.if-is_ino_number.false))
    ]
