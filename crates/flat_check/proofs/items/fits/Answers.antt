use Rattle.std.proofs.Common.{◌≡◌, ℕ, suc, ◌+◌, ◌-◌, ◌^◌, ◌<◌, min, List, drop, length, get_or, ap, ◌∙◌, arith, add-one}
use Rattle.std.specs.List.{sum_by}
use Rattle.flat_model.specs.declared.view.NameAt.{NameAt}
use Rattle.flat_model.specs.Names.{FlatName}
use Rattle.flat_sub.specs.Lists.{share_of}
use Rattle.flat_sub.specs.View.{name_view, names_view}
use Rattle.flat_sub.proofs.Placed.{drop_view, drop_view_end}
use Rattle.flat_sub.proofs.Shares.{sum_step, test_sum}
use Rattle.flat_check.proofs.items.fits.Goals as goal

pub loop-index-preserved : goal.loop-index-preserved
loop-index-preserved c =
    let ats = c.args.sub.now.names.items in
    let nears = c.args.sub.now.near.items in
    let all : List FlatName = names_view ats nears in
    let i = c.loop-index.index in
    let f : FlatName → ℕ = share_of c.args.item in
    let name : NameAt = c.name-item.result in
    let nv : FlatName = name_view name c.index.result.now in
    let below : i < length ats = omega (arith, c.loop-index-test.true, ap length c.deref-name-items.ensures.value) in
    let place = drop_view ats nears i name c.index.result.now c.requires.marked below (c.name-item.is ∙ ap (λ (l : List NameAt). get_or l i name) c.deref-name-items.ensures.value) c.index.ensures in
    let whole : ℕ = min (sum_by f all) (2 ^ 64 - 1) in
    ap (λ s. min (s + sum_by f (drop (i + 1) all)) (2 ^ 64 - 1)) (c.saturating_add-sum.ensures ∙ ap (λ k. min (c.loop-index.sum + k) (2 ^ 64 - 1)) c.share.ensures)
    ∙ ap (λ n. min (min (c.loop-index.sum + f nv) (2 ^ 64 - 1) + sum_by f (drop n all)) (2 ^ 64 - 1)) (add-one i)
    ∙ sum_step f c.loop-index.sum (2 ^ 64 - 1) all i nv (drop (suc i) all) whole place c.loop-index.invariant

pub returns : goal.returns
returns c =
    let ats = c.args.sub.now.names.items in
    let nears = c.args.sub.now.near.items in
    let all : List FlatName = names_view ats nears in
    let i = c.loop-index.index in
    let f : FlatName → ℕ = share_of c.args.item in
    let none = ap (sum_by f) (drop_view_end ats nears i (omega (arith, c.loop-index-test.false, ap length c.deref-name-items.ensures.value))) in
    let last : min c.loop-index.sum (2 ^ 64 - 1) ≡ min (c.loop-index.sum + sum_by f (drop i all)) (2 ^ 64 - 1) = omega (arith, none) in
    test_sum c.loop-index.sum (2 ^ 64 - 1) (sum_by f all) 3970 (last ∙ c.loop-index.invariant) (omega arith)
