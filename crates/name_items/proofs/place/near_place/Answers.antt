use Rattle.std.proofs.Common.{◌∙◌, ◌+◌, ℕ, List, ◌∷◌, length, subst, arith}
use Rattle.std.proofs.lemmas.Bool.{false≢true}
use Rattle.std.proofs.lemmas.Slice.Eq.{bytes_eq-Decides}
use Rattle.blk_base.specs.Entries.{RefValue, ref_bytes}
use Rattle.name_items.specs.Places.{IsRefNamed}
use Rattle.name_items.proofs.Seen.{IsLeft, left_more}
use Rattle.name_items.proofs.place.near_place.Goals as goal

pub loop-other-preserved : goal.loop-other-preserved
loop-other-preserved c =
    let name : List ℕ = c.args.name.now in
    let e : RefValue = record { index = c.in-Some.field-0-0; name = c.in-Some.other.now } in
    let left : IsLeft ref_bytes (IsRefNamed name) c.args.refs (e ∷ c.next.new.self) c.loop-other.at = subst (λ (l : List RefValue). IsLeft ref_bytes (IsRefNamed name) c.args.refs l c.loop-other.at) c.in-Some.ensures.steps c.loop-other.invariant.0 in
    (left_more ref_bytes (IsRefNamed name) c.args.refs c.next.new.self e c.loop-other.at (c.loop-other.at + 10 + length c.in-Some.other.now) left (λ same. false≢true (c.if-eq.ensures ∙ (bytes_eq-Decides c.in-Some.other.now name).1 same)) (omega arith), tt, tt)
