use Rattle.std.proofs.Common.{◌≡◌, ℕ, List, ◌<◌, ◌-◌, suc, cond, drop, length, sym, ap, ◌∙◌, eq-eqb, arith}
use Rattle.std.specs.Ordering.{nat_cmp}
use Rattle.std.specs.Cmp.Lexicographic.{slice_cmp}
use Rattle.std.specs.FinMap.{put}
use Rattle.volume_listing.specs.Order.{ordered}
use Rattle.volume_listing.proofs.Places.{ordered_none, ordered_more, drop_at, drop_past}
use Rattle.volume_listing.proofs.order.in_byte_order.Goals as goal

pub loop-left-init : goal.loop-left-init
loop-left-init c =
    let names = c.args.names.now.items in
    record {
      within = omega (arith, c.len-left.ensures, c.args.names.now.ok.0);
      in_order = c.new-entries.ensures.items ∙ sym (ap (ordered c.args.dir) (drop_past names c.len-left.result (omega (arith, c.len-left.ensures, c.args.names.now.ok.0))) ∙ ordered_none c.args.dir);
    }

pub loop-left-preserved-in_ok-put : goal.loop-left-preserved-in_ok-put
loop-left-preserved-in_ok-put c =
    let names = c.args.names.now.items in
    let dir = c.args.dir in
    let left = c.loop-left.left in
    let at = c.index-at.result.now in
    let before = c.loop-left.entries.items in
    let below : left - 1 < length names = omega (arith, c.loop-left.invariant.within, c.loop-left-test.true) in
    let same : suc (left - 1) ≡ left = omega (arith, c.loop-left-test.true) in
    let here = drop_at names (left - 1) at below c.index-at.ensures in
    record {
      within = omega arith;
      in_order = c.in_ok-put.ensures
          ∙ ap (λ (name : List ℕ). put (slice_cmp nat_cmp) name at.ino.0 before) c.in_ok-copy.ensures
          ∙ ap (put (slice_cmp nat_cmp) at.name at.ino.0) (c.loop-left.invariant.in_order ∙ ap (λ n. ordered dir (drop n names)) (sym same))
          ∙ sym (ap (ordered dir) here ∙ ordered_more dir at (drop (suc (left - 1)) names)
          ∙ ap (λ b. cond b (put (slice_cmp nat_cmp) at.name at.ino.0 (ordered dir (drop (suc (left - 1)) names))) (ordered dir (drop (suc (left - 1)) names))) (eq-eqb at.dir.0 dir c.if-at-dir.true));
    }
