use Rattle.std.proofs.Common.{sym, map, subst}
use Rattle.std.specs.List.Sorted.{IsPermutation}
use Rattle.flat_model.specs.Names.{entries_of}
use Rattle.flat_model.specs.Unmarked.{unmarked}
use Rattle.flat_model.specs.Volume.{Subvolume}
use Rattle.current_view.specs.View.{seen}
use Rattle.current_view.proofs.Indexed.{indexed_are}
use Rattle.current_view.proofs.Results.{if_ok}
use Rattle.current_view.proofs.view.CurrentViewNameView.entries.Goals as goal

pub returns : goal.returns
returns c =
    let table = c.self.inside.table.now in
    let tree = c.self.inside.tree in
    let is = indexed_are table tree c.self.invariant c.args.dir.0 in
    if_ok c.indexed_names.result (λ names e. subst (λ (s : Subvolume). IsPermutation (map unmarked (entries_of s.names c.args.dir.0)) names.items) c.self.view_is (subst (IsPermutation (map unmarked (entries_of (seen table tree).names c.args.dir.0))) (sym e) is)) c.indexed_names.ensures
