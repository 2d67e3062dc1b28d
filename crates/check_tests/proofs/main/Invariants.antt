use denote.Text.{Utf8}
use denote.Shadow.{shadow}
use Rattle.check_tests.proofs.main.Given as goal

-- the lines of the volume are text
abbrev pub invariant-loop-paragraph : goal.invariant-loop-paragraph
invariant-loop-paragraph l =
    (goal.iterator-loop-paragraph).can_next l.paragraph-iterator × (goal.iterator-loop-paragraph).is_finite l.paragraph-iterator × shadow (Utf8 l.base)
