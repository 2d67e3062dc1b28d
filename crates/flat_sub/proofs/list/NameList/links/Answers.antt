use Rattle.std.proofs.Common.{sym, ap, ◌∙◌, refl, count_by, nat_eq}
use Rattle.flat_model.specs.declared.view.NameAt.{NameAt}
use Rattle.flat_model.specs.Names.{leads_to}
use Rattle.flat_sub.proofs.Removals.{count_view}
use Rattle.flat_sub.proofs.list.NameList.links.Goals as goal

pub returns : goal.returns
returns c =
    let test = λ (at : NameAt). nat_eq at.ino.0 c.args.ino in
    c.count_leading.ensures ∙ ap (count_by test) c.deref.ensures.value ∙ sym (count_view test (leads_to c.args.ino) (λ at near. refl) c.args.self.now.names.items c.args.self.now.near.items c.requires.marked)
