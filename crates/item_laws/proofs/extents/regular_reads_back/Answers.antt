use Rattle.item_laws.specs.ExtentLaws.{regular_reads_back as lemma}
use Rattle.item_laws.proofs.extents.regular_reads_back.Goals as goal

pub returns : goal.returns
returns c key generation at len fits run whole = lemma key generation at len fits run whole
