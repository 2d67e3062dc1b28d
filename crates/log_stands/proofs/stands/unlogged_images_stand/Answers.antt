use Rattle.log_stands.proofs.One.{unlogged_stands, stands_unlogged}
use Rattle.log_stands.proofs.stands.unlogged_images_stand.Goals as goal

pub returns : goal.returns
returns c = record { stands = unlogged_stands; unlogged = stands_unlogged }
