use Rattle.std.proofs.Common.{sym, ap, ◌∙◌, refl, map, subst}
use Rattle.std.specs.Bool.{nat_eq}
use Rattle.std.specs.List.Sorted.{IsPermutation}
use Rattle.std.proofs.lemmas.List.Sorted.{IsPermutation-refl}
use Rattle.flat_model.specs.Names.{leads_to, names_of}
use Rattle.flat_model.specs.Unmarked.{unmarked}
use Rattle.flat_model.specs.Volume.{Subvolume}
use Rattle.flat_volume.proofs.Unmarking.{filter_unmarked, if_ok}
use Rattle.flat_volume.proofs.flat_view.FlatViewNameView.names_of.Goals as goal

pub returns : goal.returns
returns c =
    let ino = c.args.ino.0 in
    let sub = c.self.inside.sub.now in
    let same = sym (ap (λ (s : Subvolume). map unmarked (names_of s.names ino)) (sym c.self.view_is) ∙ filter_unmarked (leads_to ino) (λ at. nat_eq at.ino.0 ino) (λ at near. refl) sub.names.items sub.near.items c.self.invariant.marked) in
    if_ok c.leading.result (λ found is. subst (IsPermutation (map unmarked (names_of c.args.self.now.names ino))) (sym (is ∙ same)) (IsPermutation-refl _)) c.leading.ensures
