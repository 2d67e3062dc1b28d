use Rattle.format_laws.specs.Fields.{field_fits}
use Rattle.format_laws.proofs.field_is_below.Goals as goal

pub returns : goal.returns
returns c = λ count at bytes h. field_fits count bytes at h
