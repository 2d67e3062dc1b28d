use Rattle.std.proofs.Common.{◌∙◌, drop, arith}
use Rattle.std.proofs.lemmas.Result.{err_from_is_err_and}
use Rattle.disk_model.specs.Disk.{known}
use Rattle.disk_model.proofs.CrashLaws.{known_same}
use Rattle.foreign_format.proofs.Rows.{drop_past}
use Rattle.foreign_tree.specs.Tree.{disk_bytes, volume_value}
use Rattle.foreign_tree.proofs.Told.{told_both, told_from, told_same}
use Rattle.foreign_listing.specs.Listing.{nothing_listed}
use Rattle.foreign_listing.specs.View.{listed_view}
use Rattle.foreign_listing.proofs.Subvolumes.{subs_bad, subs_end, subs_more}
use Rattle.foreign_listing.proofs.listing.list_subs.Goals as goal

pub returns-in_err-listed-clause-answer : goal.returns-in_err-listed-clause-answer
returns-in_err-listed-clause-answer g c =
    let p = err_from_is_err_and c.from_residual.result c.from_residual.ensures.1 in
    let seen = known (g.D.Disk.seen c.args.disk.now) (g.D.Disk.lost c.args.disk.now) in
    let one = c.loop-sub.invariant in
    rw (p.1, p.2) (told_both seen _ _ _ one.left (told_same seen _ _ (known_same _ _ _ _ one.seen one.lost) c.in_err-listed.ensures.answer)
    (λ image goes bad. subs_bad listed_view (volume_value c.args.volume.now) (disk_bytes image) c.args.subs.now c.loop-sub.sub-index _ nothing_listed (listed_view c.loop-sub.listed) c.in_err-listed.field-0.0 c.loop-sub-test.true goes bad))

pub loop-sub-preserved : goal.loop-sub-preserved
loop-sub-preserved g c =
    let seen = known (g.D.Disk.seen c.args.disk.now) (g.D.Disk.lost c.args.disk.now) in
    let one = c.loop-sub.invariant in
    record {
      left = told_both seen _ _ _ one.left (told_same seen _ _ (known_same _ _ _ _ one.seen one.lost) c.in_ok-listed.ensures.answer)
          (λ image goes more. goes ∙ subs_more (volume_value c.args.volume.now) (disk_bytes image) c.args.subs.now c.loop-sub.sub-index _ (listed_view c.loop-sub.listed) (listed_view c.in_ok-listed.listed) c.loop-sub-test.true more);
      lines = let before = one.lines in let more = c.in_ok-listed.ensures.lines in omega arith;
      size = c.list_sub.ensures.size ∙ one.size;
      seen = c.list_sub.ensures.seen ∙ one.seen;
      lost = c.list_sub.ensures.lost ∙ one.lost;
      told = c.list_sub.ensures.told ∙ one.told;
      counted = let before = one.counted in let more = c.list_sub.ensures.counted in omega arith;
    }

pub returns-clause-answer : goal.returns-clause-answer
returns-clause-answer g c =
    told_from (known (g.D.Disk.seen c.args.disk.now) (g.D.Disk.lost c.args.disk.now)) _ _ c.loop-sub.invariant.left
    (λ image goes. goes ∙ subs_end (volume_value c.args.volume.now) (disk_bytes image) (drop c.loop-sub.sub-index c.args.subs.now) (listed_view c.loop-sub.listed) (drop_past c.args.subs.now c.loop-sub.sub-index c.loop-sub-test.false))
