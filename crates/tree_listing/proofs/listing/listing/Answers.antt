use Rattle.std.proofs.Common.{◌++◌, List, ℕ, sym, ap, ◌∙◌}
use Rattle.std.specs.List.{flat_map}
use Rattle.volume_listing.specs.Listing.{done_line}
use Rattle.tree_listing.specs.Given.{part_at}
use Rattle.tree_listing.proofs.Volumes.{all_given, listing_is}
use Rattle.tree_listing.proofs.listing.listing.Goals as goal

pub put_parts-requires : goal.put_parts-requires
put_parts-requires c = all_given c.args.table.now c.args.states.now c.requires

pub returns : goal.returns
returns c = λ run give.
    let states = c.args.states.now in
    let parts = flat_map (part_at c.args.table.now) states in
    let begun = c.in_ok-lines.ensures.text ∙ ap (λ (l : List ℕ). l ++ parts) c.new-text.ensures.items in
    c.in_ok-put_done.ensures
    ∙ ap (λ (l : List ℕ). l ++ done_line c.in_ok-lines.lines) begun
    ∙ ap (λ n. parts ++ done_line n) c.in_ok-lines.ensures.count
    ∙ sym (listing_is c.args.table.now states run give)
