use Rattle.std.proofs.Common.{◌++◌, [], ℕ, List, ap, ◌∙◌, codes}
use Rattle.std.specs.Fmt.{decimal}
use Rattle.io_edge.proofs.Texts.{joined}
use Rattle.foreign_listing.specs.Lines.{path_shown, sub_line}
use Rattle.foreign_listing.proofs.lines.sub_line.Goals as goal

pub returns : goal.returns
unfolding sub_line
returns c =
    let place = c.args.place.now in
    let one = decimal place.to in
    let two = codes " sub - - - " in
    let three = path_shown place.path.items in
    let first = c.in_ok-push_number.ensures ∙ ap (λ (line : List ℕ). line ++ decimal c.from.result) c.new-line.ensures.items ∙ ap decimal c.from.ensures in
    let second = joined [] _ _ one two first c.in_ok-extend_from_slice.ensures.items in
    let third = joined [] _ _ (one ++ two) three second (c.in_ok-put_path.ensures ∙ ap (λ (path : List ℕ). c.extend_from_slice.new.self.items ++ path_shown path) c.deref.ensures.value) in
    joined [] _ _ (one ++ two ++ three) (codes "\n") third c.in_ok-push.ensures.items
