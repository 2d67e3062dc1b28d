use Rattle.std.proofs.Common.{None, refl}
use Rattle.commit_history.specs.State.{mounted_state}
use Rattle.commit_callers.proofs.Quiet.{mounted_quiet}
use Rattle.commit_callers.proofs.callers.Callers.new.Goals as goal

pub returns : goal.returns
unfolding mounted_state
returns c = λ volume. record {
  wants = c.new.ensures;
  full = tt;
  quiet = mounted_quiet volume;
  calls = λ caller. record { no_ticket = tt; waits = λ there. refl; cover = λ from to goes_on. absurd (goes_on None refl) };
}
