use Rattle.std.proofs.Common.{◌≡◌, true, ◌&&◌, sym, ap, ◌∙◌}
use Rattle.std.specs.List.{list_any}
use Rattle.std.specs.Prelude.{not}
use Rattle.flat_model.specs.Names.{stands_in}
use Rattle.flat_model.specs.Volume.{is_dir_at}
use Rattle.logged_volume.specs.Numbers.{is_in}
use Rattle.drawn_set.specs.Stranded.{has_other}
use Rattle.drawn_set.proofs.Stranding.{other_is}
use Rattle.drawn_set.proofs.drawn.does_strand.Goals as goal

pub returns : goal.returns
returns g c =
    let logged = g.V.NameView.sub c.args.recovered.now in
    let members = c.args.members.now in
    let dir = c.args.dir.0 in
    let is_dir : is_dir_at logged dir ≡ true = sym c.is_dir.ensures ∙ c.if-not-is_dir.false in
    c.has_other.ensures ∙ ap (has_other members) c.deref.ensures.value ∙ other_is logged.names dir members c.in_ok-names.names.items c.in_ok-names.ensures
    ∙ ap (λ b. b && list_any (λ name. stands_in dir name && not (is_in members.keys name.ino)) logged.names) (sym is_dir)
