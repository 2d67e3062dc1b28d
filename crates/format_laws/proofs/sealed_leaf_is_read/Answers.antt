use Rattle.format_laws.specs.Sealed.{leaf_of-sealed}
use Rattle.format_laws.proofs.sealed_leaf_is_read.Goals as goal

pub returns : goal.returns
returns c = λ want bytes e b h. leaf_of-sealed want bytes e b h
