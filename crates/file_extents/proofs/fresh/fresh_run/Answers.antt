-- The block behind those that are taken is Free, so it is the first Free one.
use Rattle.std.proofs.Common.{◌≡◌, ◌+◌, ◌*◌, ◌/◌, ℕ, ap, refl, sym, subst, ◌∙◌, arith}
use Rattle.block_table.specs.Table.{NoneFree}
use Rattle.file_extents.specs.Extents.{text_block}
use Rattle.file_extents.proofs.Taking.{first_is, none_up_to, taken_more, taken_one}
use Rattle.file_extents.proofs.fresh.fresh_run.Goals as goal

pub loop-blocks-init : goal.loop-blocks-init
loop-blocks-init c =
    let at = c.fresh_text-at.result.0 in
    let e = c.fresh_text-at.ensures in
    record {
      some = omega arith;
      most = omega (arith, c.requires.some);
      taken = taken_one c.args.table.now c.fresh_text-at.new.table at (λ i. text_block c.args.offset c.args.text.now (c.args.number + i)) e.taken (e.bytes ∙ ap (λ (n : ℕ). text_block c.args.offset c.args.text.now n) (omega arith)) e.others e.spare e.free;
      none = none_up_to c.args.table.now c.fresh_text-at.new.table at (at / 4096) (at / 4096 + 1) e.taken e.others (omega arith) (omega arith) e.first;
    }

pub loop-blocks-preserved : goal.loop-blocks-preserved
loop-blocks-preserved c =
    let at = c.fresh_text-at.result.0 in
    let n = c.loop-blocks.blocks in
    let e = c.fresh_text.ensures in
    let x = c.fresh_text.result.0 in
    let mid = c.loop-blocks.table in
    let inv = c.loop-blocks.invariant in
    let start = (inv.taken.taken 0 (omega (arith, inv.some))).allowed.aligned in
    let next : ℕ = at + 4096 * n in
    let number : next / 4096 ≡ at / 4096 + n = omega arith in
    let there = c.if-is_free.ensures.0 refl in
    let is : x ≡ next = first_is mid x next e.taken.allowed e.taken.was_free e.first there.0 there.1 (subst (λ (k : ℕ). NoneFree mid.slots 0 k) (sym number) inv.none) in
    record {
      some = omega arith;
      most = omega (arith, c.loop-blocks-test.true);
      taken = taken_more c.args.table.now mid c.fresh_text.new.table at n x (λ i. text_block c.args.offset c.args.text.now (c.args.number + i)) inv.taken is e.taken e.bytes e.others e.spare e.free;
      none = none_up_to mid c.fresh_text.new.table x (at / 4096 + n) (at / 4096 + (n + 1)) e.taken e.others (omega (arith, is)) (omega arith) inv.none;
    }
