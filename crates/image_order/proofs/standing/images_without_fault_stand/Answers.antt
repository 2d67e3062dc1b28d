use Rattle.image_order.proofs.Committing.{stands}
use Rattle.image_order.proofs.Finding.{is_found}
use Rattle.image_order.proofs.standing.images_without_fault_stand.Goals as goal

pub returns-clause-stands : goal.returns-clause-stands
returns-clause-stands c image found are e no_log = stands image found are e no_log

pub returns-clause-found : goal.returns-clause-found
returns-clause-found c image volume holds = is_found image volume holds
