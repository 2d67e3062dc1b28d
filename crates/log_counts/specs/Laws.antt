-- What is proved of how many items a log has, each sentence by its name.
use Rattle.std.specs.Prelude.{◌≤◌, ℕ, List, sum_by}
use Rattle.blk_base.specs.Leaf.{Item}
use Rattle.blk_base.specs.Superblock.{SuperValue}
use Rattle.flat_model.specs.Volume.{Volume}
use Rattle.logged_volume.specs.FlatLog.{FlatLog}
use Rattle.logged_volume.specs.Weight.{item_count}
use Rattle.volume_image.specs.Tree.{Image}
use Rattle.volume_image.specs.Stands.{IsCommitted}
use Rattle.volume_image.specs.Subvolume.{Data}
use Rattle.log_image.specs.LogItems.{AreItemsOfLog}
use Rattle.log_stands.specs.StandsWithLog.{LogAt, IsLogged, counted, counted_items}

-- the items of a log, counted one for each name and each attribute in them, are no more than what the flat log has
abbrev pub ItemsAreCounted : Type 0
ItemsAreCounted = (items : List Item) (blocks : Data) (log : FlatLog) → AreItemsOfLog items blocks log → sum_by counted items ≤ item_count log

-- and so of all logs of an image, together
abbrev pub LogsAreCounted : Type 0
LogsAreCounted =
    (image : Image) (super : SuperValue) (committed : Volume) (near : List ℕ) (is : IsCommitted image super committed near) (volume : Volume) (reach : List ℕ)
    (logged : IsLogged image super committed near is volume reach)
    → counted_items logged.logs ≤ sum_by (λ (log : LogAt). item_count log.log) logged.logs
