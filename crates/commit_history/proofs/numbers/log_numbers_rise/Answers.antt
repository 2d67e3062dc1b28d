use Rattle.commit_history.proofs.LogNumbers.{numbers_rise}
use Rattle.commit_history.proofs.numbers.log_numbers_rise.Goals as goal

pub returns : goal.returns
returns c state events legal id old new has later = numbers_rise state events id old new legal has later
