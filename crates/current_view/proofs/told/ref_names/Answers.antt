use Rattle.std.proofs.Common.{sym, ap, ◌∙◌, map, subst, [], ℕ, ◌≡◌}
use Rattle.std.specs.List.Sorted.{IsPermutation}
use Rattle.std.proofs.lemmas.List.Sorted.{IsPermutation-refl}
use Rattle.flat_model.specs.Names.{names_of}
use Rattle.flat_model.specs.Unmarked.{unmarked}
use Rattle.current_view.specs.View.{seen}
use Rattle.current_view.proofs.Refs.{refs_are}
use Rattle.current_view.proofs.Once.{root_unnamed}
use Rattle.current_view.proofs.Results.{if_ok}
use Rattle.current_view.proofs.told.ref_names.Goals as goal

pub returns-then-ino-eq-FIRST_FREE : goal.returns-then-ino-eq-FIRST_FREE
returns-then-ino-eq-FIRST_FREE c =
    let sub = seen c.args.table.now c.args.tree.now in
    let none : map unmarked (names_of sub.names c.args.ino.0) ≡ [] = ap (λ (i : ℕ). map unmarked (names_of sub.names i)) c.if-ino-eq-FIRST_FREE.true ∙ ap (map unmarked) (root_unnamed sub c.requires.coherent) in
    subst (IsPermutation (map unmarked (names_of sub.names c.args.ino.0))) (none ∙ sym c.new.ensures.items) (IsPermutation-refl (map unmarked (names_of sub.names c.args.ino.0)))

pub returns : goal.returns
returns c =
    let is = refs_are c.args.table.now c.args.tree.now c.requires c.args.ino.0 c.if-ino-eq-FIRST_FREE.false in
    if_ok c.named_by_refs.result (λ names e. subst (IsPermutation (map unmarked (names_of (seen c.args.table.now c.args.tree.now).names c.args.ino.0))) (sym e) is) c.named_by_refs.ensures
