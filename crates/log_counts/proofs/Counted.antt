-- The items of a log count for no more than what the flat log has.
use Rattle.std.proofs.Common.{◌≤◌, ℕ, List, length, flat_map, sum_by, arith}
use Rattle.blk_base.specs.Leaf.{Item}
use Rattle.blk_base.specs.Superblock.{SuperValue}
use Rattle.flat_model.specs.Volume.{Volume}
use Rattle.logged_volume.specs.FlatLog.{FlatLog}
use Rattle.logged_volume.specs.Weight.{item_count}
use Rattle.logged_volume.proofs.Counts.{sum_le, length_within}
use Rattle.volume_image.specs.Tree.{Image}
use Rattle.volume_image.specs.Stands.{IsCommitted, data_of}
use Rattle.volume_image.specs.Subvolume.{Data}
use Rattle.log_image.specs.LogItems.{AreItemsOfLog}
use Rattle.log_image.proofs.Sayings.{in_flat_map}
use Rattle.log_stands.specs.StandsWithLog.{LogAt, IsLogged, counted, counted_items}
use Rattle.log_counts.proofs.Things.{things_of_item, things_of_log}
use Rattle.log_counts.proofs.Lengths.{length_flat_map, log_length}
use Rattle.log_counts.proofs.Distinct.{things_distinct, each_says}
use Rattle.log_counts.proofs.Had.{things_had}

pub items_are_counted : (items : List Item) (blocks : Data) (log : FlatLog) → AreItemsOfLog items blocks log → sum_by counted items ≤ item_count log
items_are_counted items blocks log are =
    let says = each_says items are.only are.once in
    let counts = sum_le counted (λ item. length (things_of_item item)) items (λ item c. (says item c).many) in
    let all = length_flat_map things_of_item items in
    let within = length_within (flat_map things_of_item items) (things_of_log log) (things_distinct items are.rise says)
    (λ thing c. let item = in_flat_map things_of_item items thing c in things_had items blocks log are item.0 thing item.1 item.2) in
    omega (arith, counts, all, within, log_length log)

pub logs_are_counted : (image : Image) (super : SuperValue) (committed : Volume) (near : List ℕ) (is : IsCommitted image super committed near) (volume : Volume) (reach : List ℕ)
    (logged : IsLogged image super committed near is volume reach) → counted_items logged.logs ≤ sum_by (λ (log : LogAt). item_count log.log) logged.logs
logs_are_counted image super committed near is volume reach logged =
    sum_le (λ (log : LogAt). sum_by counted log.items) (λ (log : LogAt). item_count log.log) logged.logs
    (λ log c. items_are_counted log.items (data_of image) log.log (logged.are_logs log c).same)
