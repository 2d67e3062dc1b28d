use Rattle.std.proofs.Common.{sym, ap, ◌∙◌, refl, count_by, nat_eq, nat_lt}
use Rattle.flat_model.specs.declared.view.NameAt.{NameAt}
use Rattle.flat_model.specs.Names.{stands_in}
use Rattle.flat_sub.proofs.Removals.{count_view}
use Rattle.flat_sub.proofs.sub.FlatSub.has_entries.Goals as goal

pub returns : goal.returns
returns c =
    let test = λ (at : NameAt). nat_eq at.dir.0 c.args.dir in
    ap (nat_lt 0) (c.count_standing.ensures ∙ ap (count_by test) c.deref.ensures.value ∙ sym (count_view test (stands_in c.args.dir) (λ at near. refl) c.args.self.now.names.items c.args.self.now.near.items c.requires.marked))
