use Rattle.std.proofs.Common.{ℕ, List, set, get_or, sym, ap, ◌∙◌, arith}
use Rattle.std.specs.List.{insert}
use Rattle.volume_listing.proofs.Places.{put_absent, put_present, place_within, place_below}
use Rattle.volume_listing.proofs.order.put.Goals as goal

pub index_mut-entry-requires : goal.index_mut-entry-requires
index_mut-entry-requires c =
    let below = place_below c.args.name c.args.entries.now.items (sym c.place_among-place.ensures.there ∙ c.if-there.true) in
    omega (arith, below, c.place_among-place.ensures.place, c.args.entries.now.ok.0)

pub returns-then-there : goal.returns-then-there
returns-then-there c =
    let all = c.args.entries.now.items in
    let place = c.place_among-place.result.0 in
    let lent = c.index_mut-entry.result.now in
    ap (λ (e : List ℕ × ℕ). set all place (e.0, c.args.ino)) c.index_mut-entry.ensures.value
    ∙ ap (λ n. set all n ((get_or all n lent).0, c.args.ino)) c.place_among-place.ensures.place
    ∙ sym (put_present c.args.name c.args.ino all lent (sym c.place_among-place.ensures.there ∙ c.if-there.true))

pub insert-requires : goal.insert-requires
insert-requires c = omega (arith, place_within c.args.name c.args.entries.now.items, c.place_among-place.ensures.place, c.args.entries.now.ok.0)

pub returns : goal.returns
returns c =
    let all = c.args.entries.now.items in
    c.in_ok-insert.ensures.items
    ∙ ap (λ n. insert all n (c.args.name, c.args.ino)) c.place_among-place.ensures.place
    ∙ sym (put_absent c.args.name c.args.ino all (sym c.place_among-place.ensures.there ∙ c.if-there.false))
