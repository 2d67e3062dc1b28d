use Rattle.std.proofs.Common.{◌≡◌, ◌+◌, ◌-◌, ◌*◌, ℕ, suc, zero, List, map, refl, sym, ◌∙◌, ap, arith}
use Rattle.std.specs.List.{list_all, range_with_len}
use Rattle.blk_base.specs.Keys.{key_at, key_below, keys_rise}
use Rattle.blk_base.specs.Leaf.{below}
use Rattle.foreign_format.proofs.Rising.{keys_rise-map}
use Rattle.foreign_format.proofs.block.keys_rise.Goals as goal

rising : (block : List ℕ) (count width : ℕ) → list_all (λ i. key_below (key_at block (101 + width * (i - 1))) (key_at block (101 + width * i))) (range_with_len 1 (count - 1)) ≡ keys_rise (map (λ i. key_at block (101 + width * i)) (below count))
rising block zero width = refl
rising block (suc n) width =
    let test : ℕ → _ = λ i. key_below (key_at block (101 + width * (i - 1))) (key_at block (101 + width * i)) in
    let one_less : suc n - 1 ≡ n = omega arith in
    ap (λ m. list_all test (range_with_len 1 m)) one_less
    ∙ sym (keys_rise-map (λ i. key_at block (101 + width * i)) test (λ i. let back : i + 1 - 1 ≡ i = omega arith in ap (λ j. key_below (key_at block (101 + width * j)) (key_at block (101 + width * (i + 1)))) back) 0 n)

pub returns : goal.returns
returns c = c.each_above_last.ensures ∙ rising c.args.bytes.now c.args.count c.args.width
