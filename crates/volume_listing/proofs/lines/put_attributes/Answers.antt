use Rattle.std.proofs.Common.{◌++◌, List, ℕ, take_all, ap, ◌∙◌, arith}
use Rattle.std.specs.List.{flat_map}
use Rattle.std.specs.FinMap.{entries}
use Rattle.flat_model.specs.Records.{attributes_of}
use Rattle.volume_listing.specs.Listing.{attribute_line, attribute_lines}
use Rattle.volume_listing.proofs.lines.put_attributes.Goals as goal

pub returns : goal.returns
unfolding attribute_lines
returns c =
    let all = take_all c.loop-place.place (entries (attributes_of c.args.inode.now)) (omega (arith, c.attribute_count-place-end.ensures)) in
    c.loop-place.invariant ∙ ap (λ (more : List ℕ). c.args.text.now.items ++ more) (ap (flat_map attribute_line) all)
