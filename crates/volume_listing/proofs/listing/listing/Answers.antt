use Rattle.std.proofs.Common.{◌++◌, List, ℕ, sym, ap, ◌∙◌}
use Rattle.std.specs.List.{flat_map}
use Rattle.volume_listing.specs.Listing.{done_line}
use Rattle.volume_listing.specs.Parts.{part_at}
use Rattle.volume_listing.proofs.Volumes.{listing_from}
use Rattle.volume_listing.proofs.listing.listing.Goals as goal

pub returns : goal.returns
returns c =
    let subs = c.subvolumes.result.now.items in
    let begun = c.in_ok-lines.ensures.text ∙ ap (λ (l : List ℕ). l ++ flat_map part_at subs) c.new-text.ensures.items in
    c.in_ok-put_done.ensures
    ∙ ap (λ (l : List ℕ). l ++ done_line c.in_ok-lines.lines) begun
    ∙ ap (λ n. flat_map part_at subs ++ done_line n) c.in_ok-lines.ensures.count
    ∙ sym (listing_from c.args.volume.now subs c.subvolumes.ensures.entries)
