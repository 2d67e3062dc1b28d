use Rattle.std.proofs.Common.{ℕ, List, map, sym, subst, ◌≡◌, ◌∙◌}
use Rattle.std.specs.List.Sorted.{IsPermutation}
use Rattle.std.specs.Result.{IfOk}
use Rattle.current_view.specs.View.{seen}
use Rattle.flat_model.specs.Names.{entries_of}
use Rattle.flat_model.specs.Unmarked.{unmarked}
use Rattle.flat_model.specs.Volume.{Subvolume}
use Rattle.tree_listing.proofs.Given.{given_coherent, run_is_seen}
use Rattle.tree_listing.proofs.Naming.{names_put}
use Rattle.tree_listing.proofs.names.names_of.Goals as goal

pub returns : goal.returns
returns c =
    let table = c.args.table.now in
    let state = c.args.state.now in
    let is = c.new-view.ensures c.requires.0 c.requires.1 ∙ sym (run_is_seen table state c.requires.0 c.requires.1) in
    let names = c.in_ok-entries.field-0 in
    let same = subst (λ (s : Subvolume). IsPermutation (map unmarked (entries_of s.names c.args.dir.0)) names.items) is c.in_ok-entries.ensures in
    subst (λ (es : List (List ℕ × ℕ)). IfOk c.in_byte_order.result (λ ordered. ordered.entries ≡ es))
    (names_put (seen table state.tree) (given_coherent table state c.requires).coherent c.args.dir.0 names.items same) c.in_byte_order.ensures
