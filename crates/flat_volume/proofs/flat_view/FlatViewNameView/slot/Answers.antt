use Rattle.std.proofs.Common.{◌∙◌, ◌&&◌, ap, refl}
use Rattle.std.specs.Bool.{nat_eq}
use Rattle.std.specs.Str.{bytes_eq}
use Rattle.std.specs.Option.{option_map}
use Rattle.blk_base.specs.declared.key.Ino.{Ino}
use Rattle.flat_model.specs.Names.{FlatName, name_in_slot, is_in_slot}
use Rattle.flat_model.specs.Volume.{Subvolume}
use Rattle.flat_volume.proofs.Unmarking.{find_unmarked}
use Rattle.flat_volume.proofs.flat_view.FlatViewNameView.slot.Goals as goal

pub returns : goal.returns
returns c =
    let dir = c.args.dir.0 in
    let bytes = c.args.name.now in
    let sub = c.self.inside.sub.now in
    ap (option_map (λ (ino : Ino). ino.0)) c.in_slot.ensures
    ∙ find_unmarked (is_in_slot dir bytes) (λ at. nat_eq at.dir.0 dir && bytes_eq at.name bytes) (λ at near. refl) sub.names.items sub.near.items c.self.invariant.marked
    ∙ ap (λ (s : Subvolume). option_map (λ (name : FlatName). name.ino) (name_in_slot s.names dir bytes)) c.self.view_is
