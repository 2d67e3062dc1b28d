use Rattle.flat_laws.proofs.Advances.{advance_at}
use Rattle.flat_laws.proofs.histories_advance.Goals as goal

pub returns : goal.returns
returns c volume history coherent legal early late le = advance_at volume history coherent legal early late le
