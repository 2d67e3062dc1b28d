use Rattle.std.proofs.Common.{sym, ap, ◌∙◌, refl, map, subst}
use Rattle.std.specs.Bool.{nat_eq}
use Rattle.std.specs.List.Sorted.{IsPermutation}
use Rattle.std.proofs.lemmas.List.Sorted.{IsPermutation-refl}
use Rattle.flat_model.specs.Names.{stands_in, entries_of}
use Rattle.flat_model.specs.Unmarked.{unmarked}
use Rattle.flat_model.specs.Volume.{Subvolume}
use Rattle.flat_volume.proofs.Unmarking.{filter_unmarked, if_ok}
use Rattle.flat_volume.proofs.flat_view.FlatViewNameView.entries.Goals as goal

pub returns : goal.returns
returns c =
    let dir = c.args.dir.0 in
    let sub = c.self.inside.sub.now in
    let same = sym (ap (λ (s : Subvolume). map unmarked (entries_of s.names dir)) (sym c.self.view_is) ∙ filter_unmarked (stands_in dir) (λ at. nat_eq at.dir.0 dir) (λ at near. refl) sub.names.items sub.near.items c.self.invariant.marked) in
    if_ok c.standing.result (λ found is. subst (IsPermutation (map unmarked (entries_of c.args.self.now.names dir))) (sym (is ∙ same)) (IsPermutation-refl _)) c.standing.ensures
