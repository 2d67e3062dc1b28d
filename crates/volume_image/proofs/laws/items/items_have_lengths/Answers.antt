use Rattle.volume_image.proofs.ItemLengths.{ref_item_has_length, extref_item_has_length, dir_item_has_length, xattr_item_has_length, target_item_has_length}
use Rattle.volume_image.proofs.laws.items.items_have_lengths.Goals as goal

pub returns : goal.returns
returns c = record { refs = ref_item_has_length; extrefs = extref_item_has_length; entries = dir_item_has_length; attributes = xattr_item_has_length; targets = target_item_has_length }
