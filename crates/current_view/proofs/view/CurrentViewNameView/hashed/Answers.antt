use Rattle.std.proofs.Common.{sym, map, subst, []}
use Rattle.std.specs.List.Sorted.{IsPermutation}
use Rattle.flat_model.specs.Names.{hashed_of}
use Rattle.flat_model.specs.Unmarked.{unmarked}
use Rattle.flat_model.specs.Volume.{Subvolume}
use Rattle.current_view.specs.View.{seen}
use Rattle.current_view.proofs.Hashed.{all_from, entry_leads, hashed_are}
use Rattle.current_view.proofs.Results.{if_ok}
use Rattle.current_view.proofs.view.CurrentViewNameView.hashed.Goals as goal

pub held_names-requires-clause-leads : goal.held_names-requires-clause-leads
held_names-requires-clause-leads c =
    let sub = seen c.self.inside.table.now c.self.inside.tree in
    all_from c.in-Some.entries (entry_leads sub c.self.invariant.coherent c.args.dir.0 c.args.hash c.in-Some.entries (c.in-Some.ensures.same sub c.self.invariant.gives))

pub returns-in-Some : goal.returns-in-Some
returns-in-Some c =
    let sub = seen c.self.inside.table.now c.self.inside.tree in
    let are = hashed_are sub c.self.invariant.coherent c.args.dir.0 c.args.hash c.in-Some.entries (c.in-Some.ensures.same sub c.self.invariant.gives) in
    if_ok c.held_names.result (λ names e. subst (λ (s : Subvolume). IsPermutation (map unmarked (hashed_of s.names c.args.dir.0 c.args.hash)) names.items) c.self.view_is
    (subst (IsPermutation (map unmarked (hashed_of sub.names c.args.dir.0 c.args.hash))) (sym e) are)) c.held_names.ensures

pub returns-in-None : goal.returns-in-None
returns-in-None c =
    let sub = seen c.self.inside.table.now c.self.inside.tree in
    let are = hashed_are sub c.self.invariant.coherent c.args.dir.0 c.args.hash [] (c.in-None.ensures.same sub c.self.invariant.gives) in
    subst (λ (s : Subvolume). IsPermutation (map unmarked (hashed_of s.names c.args.dir.0 c.args.hash)) c.new.result.items) c.self.view_is
    (subst (IsPermutation (map unmarked (hashed_of sub.names c.args.dir.0 c.args.hash))) (sym c.new.ensures.items) are)
