use Rattle.std.proofs.Common.{ℕ, map, ap, sym, subst, ◌∙◌}
use Rattle.std.specs.List.Sorted.{IsPermutation}
use Rattle.std.proofs.lemmas.Result.{IfOk-weaker}
use Rattle.blk_base.specs.Crc.{name_hash_of}
use Rattle.flat_model.specs.Names.{hashed_of}
use Rattle.flat_model.specs.Unmarked.{unmarked}
use Rattle.drawn_set.specs.Slots.{AreInSlotOf}
use Rattle.drawn_set.proofs.Crowded.{are_in_slot}
use Rattle.drawn_set.proofs.slots.in_slot_of.Goals as goal

pub returns : goal.returns
returns g c =
    let here = g.A.NameView.sub c.args.current.now in
    let there = g.B.NameView.sub c.args.recovered.now in
    let name = c.args.name.now in
    let others = c.in_ok-others.others.items in
    let is_hash = c.name_hash.ensures ∙ ap name_hash_of c.as_bytes.ensures.value in
    let same = subst (λ (h : ℕ). IsPermutation (map unmarked (hashed_of there.names name.dir.0 h)) others) is_hash c.in_ok-others.ensures in
    let are = are_in_slot here there name c.in_ok-crowded.crowded c.in_ok-crowded.ensures others same in
    IfOk-weaker c.sharing.result _ _ (λ inos is. subst (AreInSlotOf here there name) (sym is) are) (rw c.deref-2.ensures.value at c.sharing.ensures)
