use Rattle.log_image.proofs.Plants.{sound_is_accepted, stray_is_refused, misplaced_is_refused, orphan_is_refused, turned_is_refused, large_is_refused, endowed_is_refused, hollow_is_refused, looped_is_refused, crossed_is_refused, doubled_is_refused, repeated_is_refused, crowded_is_refused}
use Rattle.log_image.proofs.planted.planted_logs_are_refused.Goals as goal

pub returns : goal.returns
returns c = record {
  sound = sound_is_accepted;
  stray = stray_is_refused;
  misplaced = misplaced_is_refused;
  orphan = orphan_is_refused;
  turned = turned_is_refused;
  large = large_is_refused;
  endowed = endowed_is_refused;
  hollow = hollow_is_refused;
  looped = looped_is_refused;
  crossed = crossed_is_refused;
  doubled = doubled_is_refused;
  repeated = repeated_is_refused;
  crowded = crowded_is_refused;
}
