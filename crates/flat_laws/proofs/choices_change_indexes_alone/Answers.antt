use Rattle.flat_model.specs.Volume.{mounted}
use Rattle.flat_model.proofs.Histories.{mounted_sound}
use Rattle.flat_laws.proofs.AlikeRuns.{histories_differ}
use Rattle.flat_laws.proofs.choices_change_indexes_alone.Goals as goal

pub returns : goal.returns
returns c volume one two coherent legal legal' same few few' = histories_differ (mounted volume) (mounted_sound volume coherent) one two legal legal' same few few'
