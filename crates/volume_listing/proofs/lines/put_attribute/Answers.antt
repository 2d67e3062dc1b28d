use Rattle.std.proofs.Common.{◌++◌, List, ℕ, ap, ◌∙◌, codes}
use Rattle.io_edge.specs.Printed.{printed}
use Rattle.volume_listing.specs.Listing.{attribute_line}
use Rattle.io_edge.proofs.Texts.{joined}
use Rattle.volume_listing.proofs.lines.put_attribute.Goals as goal

pub returns : goal.returns
unfolding attribute_line
returns c =
    let name = printed c.args.name.now in
    let value = printed c.args.value.now in
    let begun = c.extend_from_slice.new.self.items in
    let named = c.in_ok-push_printed.ensures ∙ ap (λ (bytes : List ℕ). begun ++ printed bytes) c.as_bytes.ensures.value in
    let first = joined _ _ _ (codes " attr ") name c.in_ok-extend_from_slice.ensures.items named in
    let second = joined _ _ _ (codes " attr " ++ name) (codes " ") first c.in_ok-push.ensures.items in
    let third = joined _ _ _ (codes " attr " ++ name ++ codes " ") value second c.in_ok-put_text.ensures in
    joined _ _ _ (codes " attr " ++ name ++ codes " " ++ value) (codes "\n") third c.in_ok-push-2.ensures.items
