use Rattle.std.proofs.Common.{refl}
use Rattle.flat_model.specs.Lengths.{ref_item_length}
use Rattle.flat_tests.proofs.near.nine_long_names_are_near.Goals as goal

pub returns-clause-marks : goal.returns-clause-marks
unfolding ref_item_length
returns-clause-marks c = refl

pub returns-clause-bytes : goal.returns-clause-bytes
unfolding ref_item_length
returns-clause-bytes c = refl
