use Rattle.item_laws.specs.ExtentLaws.{inline_reads_back as lemma}
use Rattle.item_laws.proofs.extents.inline_reads_back.Goals as goal

pub returns : goal.returns
returns c key generation content some fits at = lemma key generation content some fits at
