use Rattle.std.proofs.Common.{◌++◌, ap, ◌∙◌, codes}
use Rattle.std.specs.Fmt.{decimal}
use Rattle.flat_sub.specs.View.{sub_view}
use Rattle.volume_listing.specs.Listing.{lines_of, part_of}
use Rattle.io_edge.proofs.Texts.{joined, joined_ok}
use Rattle.volume_listing.proofs.listing.put_part.Goals as goal

pub returns-clause-text : goal.returns-clause-text
unfolding part_of
returns-clause-text c =
    let number = decimal c.args.id in
    let begun = c.extend_from_slice.new.self.items in
    let numbered = c.in_ok-push_number.ensures ∙ ap (λ n. begun ++ decimal n) c.from.ensures in
    let heading = joined _ _ _ (codes "sub " ++ number) (codes "\n") (joined _ _ _ (codes "sub ") number c.in_ok-extend_from_slice.ensures.items numbered) c.in_ok-push.ensures.items in
    joined_ok c.put_lines.result _ _ _ (codes "sub " ++ number ++ codes "\n") (lines_of (sub_view c.args.sub.now).sub) heading c.put_lines.ensures.text
