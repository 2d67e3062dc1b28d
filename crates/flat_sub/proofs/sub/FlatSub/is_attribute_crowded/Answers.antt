use Rattle.std.proofs.Common.{sym, ap, ◌∙◌}
use Rattle.std.specs.Bool.{nat_lt}
use Rattle.std.specs.FinMap.{insert}
use Rattle.blk_base.specs.Crc.{name_hash_of}
use Rattle.flat_model.specs.Lengths.{most_item_bytes, xattr_item_length}
use Rattle.flat_model.specs.Operations.{attributes_there}
use Rattle.flat_model.specs.Records.{Attributes, attributes_of}
use Rattle.flat_sub.proofs.Inodes.{record_here, record_nowhere}
use Rattle.flat_sub.proofs.sub.FlatSub.is_attribute_crowded.Goals as goal

pub returns-in-Some : goal.returns-in-Some
returns-in-Some c =
    let here = record_here c.args.self.now.inodes.items c.args.ino c.in-Some.at c.index-entry.result.now c.in-Some.ensures c.index-entry.ensures in
    c.is_attribute_crowded.ensures ∙ ap (λ r. nat_lt most_item_bytes (xattr_item_length (insert (attributes_there r) c.args.name.now c.args.value.now) (name_hash_of c.args.name.now))) (sym here)

pub returns-in-None : goal.returns-in-None
returns-in-None c =
    let nowhere = record_nowhere c.args.self.now.inodes.items c.args.ino c.in-None.ensures in
    c.is_attribute_crowded-in-None.ensures ∙ ap (λ (a : Attributes). nat_lt most_item_bytes (xattr_item_length (insert a c.args.name.now c.args.value.now) (name_hash_of c.args.name.now))) (ap attributes_of c.new-none.ensures ∙ sym (ap attributes_there nowhere))
