use Rattle.std.proofs.Common.{◌++◌, ap, ◌∙◌, codes}
use Rattle.std.specs.Fmt.{decimal}
use Rattle.current_view.specs.View.{seen}
use Rattle.volume_listing.specs.Listing.{lines_of, part_of}
use Rattle.io_edge.proofs.Texts.{joined, joined_ok}
use Rattle.tree_listing.proofs.listing.put_part.Goals as goal

pub returns-clause-text : goal.returns-clause-text
unfolding part_of
returns-clause-text c =
    let number = decimal c.args.state.now.tree.owner in
    let begun = c.extend_from_slice.new.self.items in
    let numbered = c.in_ok-push_number.ensures ∙ ap (λ n. begun ++ decimal n) c.from.ensures in
    let heading = joined _ _ _ (codes "sub " ++ number) (codes "\n") (joined _ _ _ (codes "sub ") number c.in_ok-extend_from_slice.ensures.items numbered) c.in_ok-push.ensures.items in
    joined_ok c.put_lines.result _ _ _ (codes "sub " ++ number ++ codes "\n") (lines_of (seen c.args.table.now c.args.state.now.tree)) heading c.put_lines.ensures.text
