use Rattle.format_laws.specs.Items.{IsRange-from_read, range_of-Ok}
use Rattle.format_laws.proofs.range_is_read.Goals as goal

pub returns : goal.returns
returns c = λ bytes last. (IsRange-from_read bytes last, range_of-Ok bytes last)
