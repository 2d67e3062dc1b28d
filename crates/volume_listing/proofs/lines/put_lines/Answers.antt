use Rattle.std.proofs.Common.{◌++◌, List, ℕ, take_all, ap, ◌∙◌, arith}
use Rattle.std.specs.List.{flat_map, count_by}
use Rattle.flat_sub.specs.View.{sub_view}
use Rattle.volume_listing.specs.Listing.{lines_at, is_there, lines_of, count_of}
use Rattle.volume_listing.proofs.lines.put_lines.Goals as goal

pub returns-clause-text : goal.returns-clause-text
unfolding lines_of
returns-clause-text c =
    let sub = (sub_view c.args.sub.now).sub in
    let all = take_all c.loop-found.found-index c.deref-found-items.result.now (omega arith) ∙ c.deref-found-items.ensures.value ∙ c.in_ok-all.ensures in
    c.loop-found.invariant.written ∙ ap (λ (more : List ℕ). c.args.text.now.items ++ more) (ap (flat_map (lines_at sub)) all)

pub returns-clause-count : goal.returns-clause-count
unfolding count_of
returns-clause-count c =
    let sub = (sub_view c.args.sub.now).sub in
    let all = take_all c.loop-found.found-index c.deref-found-items.result.now (omega arith) ∙ c.deref-found-items.ensures.value ∙ c.in_ok-all.ensures in
    c.loop-found.invariant.counted ∙ ap (count_by (is_there sub)) all
