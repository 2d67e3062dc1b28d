use Rattle.std.proofs.Common.{◌||◌, suc, Bool, List, drop, sym, ap, ◌∙◌, add-one, drop-cons}
use Rattle.std.proofs.lemmas.List.{drop_all}
use Rattle.std.specs.List.{list_any}
use Rattle.flat_model.specs.Operations.{add_names, is_crowded}
use Rattle.name_ops.specs.Changes.{names_told, remove_names}
use Rattle.name_items.specs.declared.entry.NameEntry.{NameEntry}
use Rattle.name_ops.proofs.deciding.do_collide.Goals as goal

pub returns-then-is_crowded : goal.returns-then-is_crowded
returns-then-is_crowded c = λ sub given change.
    let after = add_names (remove_names sub.names (names_told c.args.gone.now)) (names_told c.args.made.now) in
    let front = ap (λ (l : List NameEntry). list_any (is_crowded after) (names_told l)) (drop-cons c.args.made.now c.loop-name.name-index _ c.loop-name-test.true) in
    let here = sym (c.is_crowded.ensures sub given change) ∙ c.if-is_crowded.true in
    sym (front ∙ ap (λ (b : Bool). b || list_any (is_crowded after) (names_told (drop (suc c.loop-name.name-index) c.args.made.now))) here) ∙ c.loop-name.invariant sub given change

pub loop-name-preserved : goal.loop-name-preserved
loop-name-preserved c = λ sub given change.
    let after = add_names (remove_names sub.names (names_told c.args.gone.now)) (names_told c.args.made.now) in
    let front = ap (λ (l : List NameEntry). list_any (is_crowded after) (names_told l)) (drop-cons c.args.made.now c.loop-name.name-index _ c.loop-name-test.true) in
    let here = sym (c.is_crowded.ensures sub given change) ∙ c.if-is_crowded.false in
    rw add-one (sym (front ∙ ap (λ (b : Bool). b || list_any (is_crowded after) (names_told (drop (suc c.loop-name.name-index) c.args.made.now))) here) ∙ c.loop-name.invariant sub given change)

pub returns : goal.returns
returns c = λ sub given change.
    let after = add_names (remove_names sub.names (names_told c.args.gone.now)) (names_told c.args.made.now) in
    let none = ap (λ (l : List NameEntry). list_any (is_crowded after) (names_told l)) (drop_all c.loop-name.name-index c.args.made.now c.loop-name-test.false) in
    sym none ∙ c.loop-name.invariant sub given change
