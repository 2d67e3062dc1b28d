use Rattle.std.proofs.Common.{◌∙◌, ◌+◌, ℕ, List, ◌∷◌, length, subst, arith}
use Rattle.std.proofs.lemmas.Bool.{false≢true}
use Rattle.std.proofs.lemmas.Slice.Eq.{bytes_eq-Decides}
use Rattle.blk_base.specs.Entries.{ExtRefValue, extref_bytes}
use Rattle.name_items.specs.Places.{IsFarNamed}
use Rattle.name_items.proofs.Seen.{IsLeft, left_more}
use Rattle.name_items.proofs.place.far_place.Goals.{else-dir-parent-via-then-dir-parent+else-eq, else-dir-parent-via-else-dir-parent}
use Rattle.name_items.proofs.place.far_place.Goals as goal

pub loop-dir-preserved : goal.loop-dir-preserved
loop-dir-preserved c =
    let name : List ℕ = c.args.name.now in
    let e : ExtRefValue = record { parent = c.in-Some.dir.0; index = c.in-Some.field-0-1; name = c.in-Some.other.now } in
    let left : IsLeft extref_bytes (IsFarNamed c.args.parent.0 name) c.args.refs (e ∷ c.next.new.self) c.loop-dir.at = subst (λ (l : List ExtRefValue). IsLeft extref_bytes (IsFarNamed c.args.parent.0 name) c.args.refs l c.loop-dir.at) c.in-Some.ensures.steps c.loop-dir.invariant.0 in
    let other : IsFarNamed c.args.parent.0 name e → ⊥ = λ wanted. elim c.else-dir-parent.branch [
      | else-dir-parent-via-then-dir-parent+else-eq w ↦ false≢true (w.if-eq.ensures ∙ (bytes_eq-Decides c.in-Some.other.now name).1 wanted.1)
      | else-dir-parent-via-else-dir-parent w ↦ w.if-dir-parent.false wanted.0
    ] in
    (left_more extref_bytes (IsFarNamed c.args.parent.0 name) c.args.refs c.next.new.self e c.loop-dir.at (c.loop-dir.at + 18 + length c.in-Some.other.now) left other (omega arith), tt, tt)
