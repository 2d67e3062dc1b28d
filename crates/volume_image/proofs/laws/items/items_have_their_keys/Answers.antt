use Rattle.volume_image.proofs.OwnKeys.{asked_kind, asked_is_spelled, has_its_key}
use Rattle.volume_image.proofs.laws.items.items_have_their_keys.Goals as goal

pub returns : goal.returns
returns c = record {
  kind = λ sub blocks items are key bytes there. asked_kind sub blocks key bytes (are.only key bytes there);
  spelled = λ sub blocks items are key bytes there. asked_is_spelled sub blocks key bytes (are.only key bytes there);
  key = λ sub blocks items are key bytes there. has_its_key sub blocks key bytes (are.only key bytes there);
}
