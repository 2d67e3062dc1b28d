use Rattle.format_laws.specs.Sealed.{node_of-sealed}
use Rattle.format_laws.proofs.sealed_node_is_read.Goals as goal

pub returns : goal.returns
returns c = λ want bytes e b h. node_of-sealed want bytes e b h
