use Rattle.std.proofs.Common.{ap, sym, ◌∙◌, replicate, slice_index, unwrap_or, option_copied}
use Rattle.std.proofs.lemmas.List.{get_or-replicate}
use Rattle.flat_record.proofs.blocks.byte_of.Goals as goal

pub returns-in-None : goal.returns-in-None
returns-in-None c = sym (ap (λ o. slice_index (unwrap_or (option_copied o) (replicate 4096 0)) c.args.at) c.in-None.is ∙ get_or-replicate 4096 c.args.at 0 0 c.requires)
