use Rattle.std.proofs.Common.{◌≡◌, ◌<◌, ◌≤◌, List, length, get_or, refl, sym, ap, ◌∙◌, arith}
use Rattle.std.proofs.lemmas.Bool.{true≢false}
use Rattle.std.proofs.lemmas.List.Elements.{at_read}
use Rattle.flat_model.specs.declared.view.NameAt.{NameAt}
use Rattle.flat_model.specs.Names.{FlatName}
use Rattle.flat_sub.specs.View.{sub_view}
use Rattle.flat_check.specs.Parts.{IsRightName}
use Rattle.flat_check.proofs.Views.{Holds, Fails, each_holds, one_fails, all_more}
use Rattle.flat_check.proofs.names.names_are_right.Goals as goal

pub returns-then-not-is_right : goal.returns-then-not-is_right
returns-then-not-is_right c =
    let ats = c.args.sub.now.names.items in
    let Right : FlatName → Type 0 = IsRightName (sub_view c.args.sub.now).sub in
    let i = c.loop-name.name-index in
    let name : NameAt = c.name-item.result in
    let below : i < length ats = omega (arith, c.loop-name-test.true, ap length c.deref-name-items.ensures.value) in
    let is : name ≡ get_or ats i name = c.name-item.is ∙ ap (λ (l : List NameAt). get_or l i name) c.deref-name-items.ensures.value in
    let wrong : Fails Right name = λ near right. true≢false (sym ((c.is_right.ensures near).1 right) ∙ c.if-not-is_right.true) in (
      λ yes. absurd (true≢false (sym yes)),
      λ each. absurd (one_fails Right ats c.args.sub.now.near.items i c.requires.marked below (at_read ats (Fails Right) i name below is wrong) each),
    )

pub loop-name-preserved : goal.loop-name-preserved
loop-name-preserved c =
    let ats = c.args.sub.now.names.items in
    let Right : FlatName → Type 0 = IsRightName (sub_view c.args.sub.now).sub in
    let i = c.loop-name.name-index in
    let name : NameAt = c.name-item.result in
    let below : i < length ats = omega (arith, c.loop-name-test.true, ap length c.deref-name-items.ensures.value) in
    let is : name ≡ get_or ats i name = c.name-item.is ∙ ap (λ (l : List NameAt). get_or l i name) c.deref-name-items.ensures.value in
    all_more (Holds Right) ats i name below is (λ near. (c.is_right.ensures near).0 c.if-not-is_right.false) c.loop-name.invariant

pub returns : goal.returns
returns c =
    let ats = c.args.sub.now.names.items in
    let Right : FlatName → Type 0 = IsRightName (sub_view c.args.sub.now).sub in
    let past : length ats ≤ c.loop-name.name-index = omega (arith, c.loop-name-test.false, ap length c.deref-name-items.ensures.value) in (
      λ _. each_holds Right ats c.args.sub.now.near.items c.requires.marked (λ k d low high. c.loop-name.invariant k d low (omega (arith, high, past))),
      λ _. refl,
    )
