use Rattle.item_laws.specs.ExtentLaws.{hole_reads_back as lemma}
use Rattle.item_laws.proofs.extents.hole_reads_back.Goals as goal

pub returns : goal.returns
returns c key generation len fits whole some at = lemma key generation len fits whole some at
