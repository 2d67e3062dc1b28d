use Rattle.std.proofs.Common.{◌++◌, List, ℕ, length, take_all, sym, ap, ◌∙◌, arith}
use Rattle.std.proofs.lemmas.Bool.{eqb-true, eqb-false}
use Rattle.std.specs.List.{flat_map}
use Rattle.volume_listing.specs.Listing.{step_shown}
use Rattle.volume_listing.proofs.Shown.{path_none, path_some}
use Rattle.volume_listing.proofs.lines.put_path.Goals as goal

pub returns-then-is_empty : goal.returns-then-is_empty
returns-then-is_empty c =
    let path = c.args.path.now in
    let none = eqb-true _ 0 (sym c.is_empty.ensures ∙ c.if-is_empty.true) in
    c.in_ok-push.ensures.items ∙ ap (λ (more : List ℕ). c.args.text.now.items ++ more) (sym (path_none path.items (omega (arith, none, path.ok.0))))

pub returns : goal.returns
returns c =
    let path = c.args.path.now in
    let some = eqb-false _ 0 (sym c.is_empty.ensures ∙ c.if-is_empty.false) in
    c.loop-name.invariant
    ∙ ap (λ (more : List ℕ). c.args.text.now.items ++ more) (ap (flat_map step_shown) (take_all c.loop-name.name-index path.items (omega (arith, ap length c.deref-name-items.ensures.value))) ∙ sym (path_some path.items (λ none. some (omega (arith, none, path.ok.0)))))
