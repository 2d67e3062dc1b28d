use Rattle.image_order.proofs.Committing.{commits}
use Rattle.image_order.proofs.Finding.{finds}
use Rattle.image_order.proofs.standing.images_without_fault_commit.Goals as goal

pub returns-clause-commits : goal.returns-clause-commits
returns-clause-commits c image found are e = let is = commits image found are e in (is.spelled, record { reach = is.reach; committed = is.committed; long = is.long })

pub returns-clause-found : goal.returns-clause-found
returns-clause-found c image super volume reach spelled committed =
    let is = finds image super volume reach spelled committed in (is.found, is.is, is.super_is, is.volume_is, is.long)
