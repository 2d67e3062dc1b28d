use Rattle.std.proofs.Common.{sym, subst, inl, inr}
use Rattle.std.specs.List.{Contains}
use Rattle.logged_volume.specs.Accepted.{AreApart}
use Rattle.logged_volume.proofs.Replays.{left_cases, left_has, left_keeps, replay_names}
use Rattle.logged_volume.proofs.accepted.accepted_logs_leave_names_apart.Goals as goal

pub returns-clause-names : goal.returns-clause-names
returns-clause-names c committed log name = (
  (λ here. left_cases committed log name (subst (λ ns. Contains ns name) (replay_names committed log) here)),
  (λ either. subst (λ ns. Contains ns name) (sym (replay_names committed log)) (elim either [
    | inl ours ↦ left_has committed log name ours
    | inr theirs ↦ left_keeps committed log name theirs.0 theirs.1 theirs.2
  ])),
)

pub returns-clause-apart : goal.returns-clause-apart
returns-clause-apart c committed log accepted = subst AreApart (sym (replay_names committed log)) accepted.apart
