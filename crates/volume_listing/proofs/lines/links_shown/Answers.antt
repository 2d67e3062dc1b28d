use Rattle.std.proofs.Common.{◌≢◌, inl, inr, sym, ◌∙◌, refl, nat_eq}
use Rattle.flat_model.specs.declared.view.Kind.TheVariants.{Dir}
use Rattle.flat_model.specs.declared.view.NameAt.{NameAt}
use Rattle.flat_model.specs.Names.{leads_to}
use Rattle.flat_model.specs.Records.{kind_of}
use Rattle.flat_sub.specs.View.{sub_view}
use Rattle.flat_sub.proofs.Removals.{count_view}
use Rattle.volume_listing.proofs.Shown.{links_other}
use Rattle.volume_listing.proofs.lines.links_shown.Goals as goal

pub returns-in-File : goal.returns-in-File
returns-in-File c =
    let sub = c.args.sub.now in
    let test = λ (at : NameAt). nat_eq at.ino.0 c.args.ino in
    let other : kind_of c.args.inode.now ≢ Dir = elim c.in-File.is [ inl e ↦ λ d. cc (e, d, c.kind.ensures) | inr e ↦ λ d. cc (e, d, c.kind.ensures) ] in
    c.count_leading.ensures
    ∙ sym (count_view test (leads_to c.args.ino) (λ at near. refl) sub.names.items sub.near.items c.requires.marked)
    ∙ sym (links_other (sub_view sub).sub c.args.ino c.args.inode.now other)
