use Rattle.std.proofs.Common.{◌≡◌, ◌+◌, suc, ◌∙◌, length, map, vec_len, refl, sym, arith}
use Rattle.std.proofs.lemmas.List.{length-map}
use Rattle.std.proofs.lemmas.Result.{err_from_is_err_and}
use Rattle.disk_model.specs.Disk.{known}
use Rattle.disk_model.proofs.CrashLaws.{known_same}
use Rattle.foreign_items.specs.View.{name_view}
use Rattle.foreign_tree.specs.Tree.{disk_bytes, volume_value}
use Rattle.foreign_tree.proofs.Told.{told_always, told_both, told_from, told_same}
use Rattle.foreign_listing.specs.declared.walk.Walk.{Walk}
use Rattle.foreign_listing.specs.View.{left_of_walk, listed_view, pending_view, place_view, tree_value}
use Rattle.foreign_listing.proofs.Filtered.{left_all}
use Rattle.foreign_listing.proofs.Walking.{at_none, left_failed, left_first, left_more, left_none, none_left, pending_none, popped_some}
use Rattle.foreign_listing.proofs.walk.list_tree.Goals as goal

pub loop-place-init : goal.loop-place-init
loop-place-init g c =
    let names = c.args.tree.now.names in
    let rows = map name_view names.items in
    let walk = c.in_ok-walk.walk in
    let ok = names.ok.0 in
    let mapped = length-map names.items name_view in
    let left = none_left walk.reached rows c.in_ok-walk.ensures.reached in
    let all : left_of_walk c.args.tree.now walk ≡ length rows + 1 = (let len = c.in_ok-walk.ensures.len in omega (arith, len, left)) in
    record {
      left = told_always (known (g.D.Disk.seen c.args.disk.now) (g.D.Disk.lost c.args.disk.now)) _
          (λ image. left_first (volume_value c.args.volume.now) (disk_bytes image) (tree_value c.args.tree.now) rows (listed_view c.args.listed) _ (pending_view walk.pending.items) walk
          (record { listed = c.in_ok-walk.ensures.listed; reached = c.in_ok-walk.ensures.reached; rows_left = sym (left_all rows) }) c.in_ok-walk.ensures.pending all);
      lines = let one = c.in_ok-walk.ensures.lines in omega (arith, one, all, mapped, ok);
      size = refl;
      seen = refl;
      lost = refl;
      told = refl;
      counted = omega arith;
    }

pub returns-in_err-visit-clause-answer : goal.returns-in_err-visit-clause-answer
returns-in_err-visit-clause-answer g c =
    let p = err_from_is_err_and c.from_residual-in_err-visit.result c.from_residual-in_err-visit.ensures.1 in
    let seen = known (g.D.Disk.seen c.args.disk.now) (g.D.Disk.lost c.args.disk.now) in
    let one = c.loop-place.invariant in
    let walk = c.loop-place.walk in
    let next = popped_some walk.pending.items c.pop.new.self.items c.pop.result c.in-Some.place c.pop.ensures.items c.in-Some.is in
    let popped : Walk = record { listed = walk.listed; reached = walk.reached; pending = c.pop.new.self } in
    let step : left_of_walk c.args.tree.now walk ≡ suc (left_of_walk c.args.tree.now popped) = (let len = c.in-Some.ensures.len in omega arith) in
    rw (p.1, p.2) (told_both seen _ _ _ one.left (told_same seen _ _ (known_same _ _ _ _ one.seen one.lost) c.in_err-visit.ensures.answer)
    (λ image left visits. left_failed popped c.visit.new.walk (volume_value c.args.volume.now) (disk_bytes image) (tree_value c.args.tree.now) (map name_view c.args.tree.now.names.items) (listed_view c.args.listed) _ (left_of_walk c.args.tree.now popped)
    (pending_view walk.pending.items) (place_view c.in-Some.place) (pending_view c.pop.new.self.items) walk c.in_err-visit.field-0.0 left next step
    (λ before b. visits before (record { listed = b.listed; reached = b.reached; rows_left = b.rows_left }))))

pub loop-place-preserved : goal.loop-place-preserved
loop-place-preserved g c =
    let seen = known (g.D.Disk.seen c.args.disk.now) (g.D.Disk.lost c.args.disk.now) in
    let one = c.loop-place.invariant in
    let walk = c.loop-place.walk in
    let next = popped_some walk.pending.items c.pop.new.self.items c.pop.result c.in-Some.place c.pop.ensures.items c.in-Some.is in
    let now = c.visit.new.walk in
    let step : left_of_walk c.args.tree.now walk ≡ suc (left_of_walk c.args.tree.now now) = (let len = c.in-Some.ensures.len in let same = c.in_ok-visit.ensures.len in omega arith) in
    record {
      left = told_both seen _ _ _ one.left (told_same seen _ _ (known_same _ _ _ _ one.seen one.lost) c.in_ok-visit.ensures.answer)
          (λ image left visits. left_more (volume_value c.args.volume.now) (disk_bytes image) (tree_value c.args.tree.now) (map name_view c.args.tree.now.names.items) (listed_view c.args.listed) _ (left_of_walk c.args.tree.now now)
          (pending_view walk.pending.items) (place_view c.in-Some.place) (pending_view c.pop.new.self.items) (pending_view now.pending.items) walk now now left next step
          (λ before b. visits before (record { listed = b.listed; reached = b.reached; rows_left = b.rows_left })));
      lines = let before = one.lines in let more = c.in_ok-visit.ensures.lines in omega (arith, step, before, more);
      size = c.visit.ensures.size ∙ one.size;
      seen = c.visit.ensures.seen ∙ one.seen;
      lost = c.visit.ensures.lost ∙ one.lost;
      told = c.visit.ensures.told ∙ one.told;
      counted = let before = one.counted in let more = c.visit.ensures.counted in omega arith;
    }

pub returns-clause-answer : goal.returns-clause-answer
returns-clause-answer g c =
    let walk = c.loop-place.walk in
    told_from (known (g.D.Disk.seen c.args.disk.now) (g.D.Disk.lost c.args.disk.now)) _ _ c.loop-place.invariant.left
    (λ image left. left_none (volume_value c.args.volume.now) (disk_bytes image) (tree_value c.args.tree.now) (map name_view c.args.tree.now.names.items) (listed_view c.args.listed) _ (pending_view walk.pending.items) walk left
    (pending_none walk.pending.items (vec_len walk.pending) walk.pending.ok.0 (at_none _ c.pop.result c.in_default.is c.pop.ensures.cases).0))
