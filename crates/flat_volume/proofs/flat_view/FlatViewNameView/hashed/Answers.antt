use Rattle.std.proofs.Common.{sym, ap, ◌∙◌, refl, map, subst, ◌&&◌}
use Rattle.blk_base.specs.Crc.{name_hash_of}
use Rattle.std.specs.Bool.{nat_eq}
use Rattle.std.specs.List.Sorted.{IsPermutation}
use Rattle.std.proofs.lemmas.List.Sorted.{IsPermutation-refl}
use Rattle.flat_model.specs.Names.{is_hashed_in, hashed_of}
use Rattle.flat_model.specs.Unmarked.{unmarked}
use Rattle.flat_model.specs.Volume.{Subvolume}
use Rattle.flat_volume.proofs.Unmarking.{filter_unmarked, if_ok}
use Rattle.flat_volume.proofs.flat_view.FlatViewNameView.hashed.Goals as goal

pub returns : goal.returns
returns c =
    let dir = c.args.dir.0 in
    let hash = c.args.hash in
    let sub = c.self.inside.sub.now in
    let same = sym (ap (λ (s : Subvolume). map unmarked (hashed_of s.names dir hash)) (sym c.self.view_is) ∙ filter_unmarked (is_hashed_in dir hash) (λ at. nat_eq at.dir.0 dir && nat_eq (name_hash_of at.name) hash) (λ at near. refl) sub.names.items sub.near.items c.self.invariant.marked) in
    if_ok c.hashed_in.result (λ found is. subst (IsPermutation (map unmarked (hashed_of c.args.self.now.names dir hash))) (sym (is ∙ same)) (IsPermutation-refl _)) c.hashed_in.ensures
