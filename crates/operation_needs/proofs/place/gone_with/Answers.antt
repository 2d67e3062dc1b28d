-- A name that is its inode's last takes it along.
use Rattle.std.proofs.Common.{◌≡◌, ◌≢◌, ℕ, List, Some, sym, ap, ◌∙◌}
use Rattle.flat_model.specs.Names.{FlatName, links_of}
use Rattle.flat_model.specs.Needs.{gone_with}
use Rattle.flat_model.specs.Walk.{AtSlot, WalkEnd, walk}
use Rattle.name_walk.specs.Ends.{end_view, name_held}
use Rattle.operation_needs.proofs.Places.{last_goes, not_root, other_stays}
use Rattle.operation_needs.proofs.place.gone_with.Goals as goal

pub returns-then-links-eq1-clause-count : goal.returns-then-links-eq1-clause-count
returns-then-links-eq1-clause-count c = λ sub path given at.
    let dir = c.in-Taken.dir in
    let bytes = c.in-Taken.name.now in
    let n : FlatName = name_held dir bytes c.in-Taken.held in
    let end : end_view c.args.end.now ≡ AtSlot dir bytes (Some n) = ap end_view c.in-Taken.is in
    let here : walk sub path ≡ AtSlot dir bytes (Some n) = sym at ∙ end in
    let one : links_of sub.names n.ino ≡ 1 = sym (c.links.ensures sub given (not_root sub given.coherent path dir bytes n here)) ∙ c.if-links-eq1.true in
    c.blocks_and_items.ensures.count sub given ∙ last_goes sub given.coherent path dir bytes n here one ∙ sym (ap (λ (e : WalkEnd). gone_with sub e) end)

pub returns-else-links-eq1-clause-count : goal.returns-else-links-eq1-clause-count
returns-else-links-eq1-clause-count c = λ sub path given at.
    let dir = c.in-Taken.dir in
    let bytes = c.in-Taken.name.now in
    let n : FlatName = name_held dir bytes c.in-Taken.held in
    let end : end_view c.args.end.now ≡ AtSlot dir bytes (Some n) = ap end_view c.in-Taken.is in
    let here : walk sub path ≡ AtSlot dir bytes (Some n) = sym at ∙ end in
    let more : links_of sub.names n.ino ≢ 1 = λ one. c.if-links-eq1.false (c.links.ensures sub given (not_root sub given.coherent path dir bytes n here) ∙ one) in
    other_stays sub given.coherent path dir bytes n here more ∙ sym (ap (λ (e : WalkEnd). gone_with sub e) end)
