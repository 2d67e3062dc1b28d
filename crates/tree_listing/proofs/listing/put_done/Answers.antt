use Rattle.std.proofs.Common.{◌++◌, codes}
use Rattle.std.specs.Fmt.{decimal}
use Rattle.volume_listing.specs.Listing.{done_line}
use Rattle.io_edge.proofs.Texts.{joined}
use Rattle.tree_listing.proofs.listing.put_done.Goals as goal

pub returns : goal.returns
unfolding done_line
returns c =
    let number = decimal c.args.lines in
    joined _ _ _ (codes "done " ++ number) (codes "\n") (joined _ _ _ (codes "done ") number c.in_ok-extend_from_slice.ensures.items c.in_ok-push_number.ensures) c.in_ok-push.ensures.items
