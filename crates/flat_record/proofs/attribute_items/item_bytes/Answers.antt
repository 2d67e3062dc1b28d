use Rattle.std.proofs.Common.{◌≡◌, ℕ, List, ◌<◌, ◌+◌, drop, length, get_or, option_copied, ap, sym, ◌∙◌, arith}
use Rattle.std.specs.List.{sum_by}
use Rattle.std.proofs.lemmas.List.{drop_more, drop_all}
use Rattle.std.proofs.lemmas.List.Sums.{sum_by-cons}
use Rattle.flat_record.specs.AttributeShares.{share_of}
use Rattle.flat_record.proofs.attribute_items.item_bytes.Goals as goal

pub loop-entry-preserved : goal.loop-entry-preserved
loop-entry-preserved c =
    let es = c.args.entries.now.items in
    let i = c.loop-entry.entry-index in
    let e = c.entry-item.result in
    let f : List ℕ × List ℕ → ℕ = share_of c.args.hash (option_copied c.args.without) in
    let low : i < length es = omega (arith, c.loop-entry-test.true, ap length c.deref-entry-items.ensures.value) in
    let here : e ≡ get_or es i e = c.entry-item.is ∙ ap (λ (l : List (List ℕ × List ℕ)). get_or l i e) c.deref-entry-items.ensures.value in
    let split = ap (sum_by f) (drop_more es i e low) ∙ sum_by-cons f (get_or es i e) (drop (i + 1) es) in
    let share = ap f (sym here) in
    (omega (arith, c.loop-entry.invariant.0, split, share, c.saturating_add-sum.ensures, c.share.ensures), omega (arith, c.saturating_add-sum.ensures))

pub returns : goal.returns
returns c =
    let es = c.args.entries.now.items in
    let i = c.loop-entry.entry-index in
    let f : List ℕ × List ℕ → ℕ = share_of c.args.hash (option_copied c.args.without) in
    let none = ap (sum_by f) (drop_all i es (omega (arith, c.loop-entry-test.false, ap length c.deref-entry-items.ensures.value))) in
    omega (arith, c.loop-entry.invariant.0, c.loop-entry.invariant.1, none)
