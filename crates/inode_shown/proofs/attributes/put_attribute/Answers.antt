use Rattle.std.proofs.Common.{◌++◌, codes}
use Rattle.io_edge.specs.Printed.{printed}
use Rattle.volume_listing.specs.Listing.{attribute_line}
use Rattle.io_edge.proofs.Texts.{joined}
use Rattle.inode_shown.proofs.attributes.put_attribute.Goals as goal

pub returns : goal.returns
unfolding attribute_line
returns c =
    let name = printed c.args.name.now in
    let value = printed c.args.value.now in
    let first = joined _ _ _ (codes " attr ") name c.in_ok-extend_from_slice.ensures.items c.in_ok-push_printed.ensures in
    let second = joined _ _ _ (codes " attr " ++ name) (codes " ") first c.in_ok-push.ensures.items in
    let third = joined _ _ _ (codes " attr " ++ name ++ codes " ") value second c.in_ok-push_printed-2.ensures in
    joined _ _ _ (codes " attr " ++ name ++ codes " " ++ value) (codes "\n") third c.in_ok-push-2.ensures.items
