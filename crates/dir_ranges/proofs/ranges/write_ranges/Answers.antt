use Rattle.std.proofs.Common.{rules, ◌≡◌, ◌<◌, ◌-◌, ◌^◌, ◌∙◌, ℕ, Option, Some, None, ap, sym, subst, arith}
use Rattle.logged_volume.specs.FlatLog.{LogRange}
use Rattle.tree_range.specs.Between.{data_under}
use Rattle.tree_range.specs.Shape.{tree_items}
use Rattle.dir_ranges.specs.Indexes.{end_of, low_behind, range_in}
use Rattle.dir_ranges.specs.Ranges.{range_key, with_range}
use Rattle.dir_ranges.proofs.Ranged.{AreRanged, IsRanging, absent_yet, fewer_above, goes_up, ranges_from, ranges_to, ranging_begins, ranging_passes, ranging_puts, room_for_range, still_above}
use Rattle.dir_ranges.proofs.ranges.write_ranges.Goals as goal

abbrev range_at_last : ℕ → ℕ → ℕ → LogRange
range_at_last dir first last = record { dir = dir; first = first; last = last }

pub loop-low-init : goal.loop-low-init
loop-low-init c =
    ranging_begins c.args.dir.0 c.args.committed.now c.args.current.now c.args.table.now c.args.log.now c.requires.tree c.requires.standing c.requires.committed c.requires.current c.requires.committed_apart c.requires.current_apart c.requires.bare

pub put_range-requires-clause-absent : goal.put_range-requires-clause-absent
put_range-requires-clause-absent c =
    let way : IsRanging c.args.dir.0 c.args.committed.now c.args.current.now (Some c.in-Some.first) c.args.table.now c.args.log.now c.loop-low.table c.loop-low.log = subst (λ (o : Option ℕ). IsRanging c.args.dir.0 c.args.committed.now c.args.current.now o c.args.table.now c.args.log.now c.loop-low.table c.loop-low.log) c.in-Some.is c.loop-low.invariant in
    let fits : end_of c.next_unchanged-end.result - 1 < 2 ^ 64 = omega (arith, c.last_before.ensures, c.last_before.type_inv) in
    let is : range_at_last c.args.dir.0 c.in-Some.first c.last_before.result ≡ range_in c.args.dir.0 (c.in-Some.first, end_of c.next_unchanged-end.result) = ap (range_at_last c.args.dir.0 c.in-Some.first) c.last_before.ensures in
    subst (λ (range : LogRange). data_under (range_key range) (tree_items c.loop-low.table c.loop-low.log) ≡ None) (sym is) (absent_yet c.args.dir.0 c.args.committed.now c.args.current.now c.in-Some.first c.args.table.now c.args.log.now c.loop-low.table c.loop-low.log way c.next_unchanged-end.result c.next_unchanged-end.ensures (sym c.is_met.ensures ∙ c.if-is_met.true) fits)

pub put_range-requires-clause-room : goal.put_range-requires-clause-room
put_range-requires-clause-room c =
    let way : IsRanging c.args.dir.0 c.args.committed.now c.args.current.now (Some c.in-Some.first) c.args.table.now c.args.log.now c.loop-low.table c.loop-low.log = subst (λ (o : Option ℕ). IsRanging c.args.dir.0 c.args.committed.now c.args.current.now o c.args.table.now c.args.log.now c.loop-low.table c.loop-low.log) c.in-Some.is c.loop-low.invariant in
    let fits : end_of c.next_unchanged-end.result - 1 < 2 ^ 64 = omega (arith, c.last_before.ensures, c.last_before.type_inv) in
    room_for_range c.args.dir.0 c.args.committed.now c.args.current.now c.in-Some.first c.args.table.now c.args.log.now c.loop-low.table c.loop-low.log way c.next_unchanged-end.result c.next_unchanged-end.ensures (sym c.is_met.ensures ∙ c.if-is_met.true) fits c.requires.room

pub loop-low-smaller-then-is_met : goal.loop-low-smaller-then-is_met
loop-low-smaller-then-is_met c =
    let way : IsRanging c.args.dir.0 c.args.committed.now c.args.current.now (Some c.in-Some.first) c.args.table.now c.args.log.now c.loop-low.table c.loop-low.log = subst (λ (o : Option ℕ). IsRanging c.args.dir.0 c.args.committed.now c.args.current.now o c.args.table.now c.args.log.now c.loop-low.table c.loop-low.log) c.in-Some.is c.loop-low.invariant in
    let low : c.in-Some.first < 2 ^ 64 = search rules in
    subst (λ (o : Option ℕ). still_above o < still_above c.loop-low.low) (sym c.index_behind-low.ensures)
    (subst (λ (o : Option ℕ). still_above (low_behind c.next_unchanged-end.result) < still_above o) (sym c.in-Some.is) (fewer_above c.in-Some.first low (low_behind c.next_unchanged-end.result) (goes_up c.args.dir.0 c.args.committed.now c.args.current.now c.in-Some.first c.args.table.now c.args.log.now c.loop-low.table c.loop-low.log way c.next_unchanged-end.result c.next_unchanged-end.ensures)))

pub loop-low-preserved-then-is_met : goal.loop-low-preserved-then-is_met
loop-low-preserved-then-is_met c =
    let way : IsRanging c.args.dir.0 c.args.committed.now c.args.current.now (Some c.in-Some.first) c.args.table.now c.args.log.now c.loop-low.table c.loop-low.log = subst (λ (o : Option ℕ). IsRanging c.args.dir.0 c.args.committed.now c.args.current.now o c.args.table.now c.args.log.now c.loop-low.table c.loop-low.log) c.in-Some.is c.loop-low.invariant in
    let fits : end_of c.next_unchanged-end.result - 1 < 2 ^ 64 = omega (arith, c.last_before.ensures, c.last_before.type_inv) in
    let is : range_at_last c.args.dir.0 c.in-Some.first c.last_before.result ≡ range_in c.args.dir.0 (c.in-Some.first, end_of c.next_unchanged-end.result) = ap (range_at_last c.args.dir.0 c.in-Some.first) c.last_before.ensures in
    subst (λ (o : Option ℕ). IsRanging c.args.dir.0 c.args.committed.now c.args.current.now o c.args.table.now c.args.log.now c.put_range.new.table c.put_range.new.log) (sym c.index_behind-low.ensures)
    (ranging_puts c.args.dir.0 c.args.committed.now c.args.current.now c.in-Some.first c.args.table.now c.args.log.now c.loop-low.table c.loop-low.log way c.next_unchanged-end.result c.next_unchanged-end.ensures (sym c.is_met.ensures ∙ c.if-is_met.true) fits c.put_range.new.table c.put_range.new.log
    (record {
      tree = c.put_range.ensures.tree;
      items = c.put_range.ensures.items ∙ ap (λ (range : LogRange). with_range range (tree_items c.loop-low.table c.loop-low.log)) is;
      owner = c.put_range.ensures.owner;
      edit = c.put_range.ensures.edit;
      current = c.put_range.ensures.current;
      blocks = c.put_range.ensures.blocks;
      buffers = c.put_range.ensures.buffers;
      sealed = c.put_range.ensures.sealed;
    }))

pub loop-low-smaller : goal.loop-low-smaller
loop-low-smaller c =
    let way : IsRanging c.args.dir.0 c.args.committed.now c.args.current.now (Some c.in-Some.first) c.args.table.now c.args.log.now c.loop-low.table c.loop-low.log = subst (λ (o : Option ℕ). IsRanging c.args.dir.0 c.args.committed.now c.args.current.now o c.args.table.now c.args.log.now c.loop-low.table c.loop-low.log) c.in-Some.is c.loop-low.invariant in
    let low : c.in-Some.first < 2 ^ 64 = search rules in
    subst (λ (o : Option ℕ). still_above o < still_above c.loop-low.low) (sym c.index_behind-low.ensures)
    (subst (λ (o : Option ℕ). still_above (low_behind c.next_unchanged-end.result) < still_above o) (sym c.in-Some.is) (fewer_above c.in-Some.first low (low_behind c.next_unchanged-end.result) (goes_up c.args.dir.0 c.args.committed.now c.args.current.now c.in-Some.first c.args.table.now c.args.log.now c.loop-low.table c.loop-low.log way c.next_unchanged-end.result c.next_unchanged-end.ensures)))

pub loop-low-preserved : goal.loop-low-preserved
loop-low-preserved c =
    let way : IsRanging c.args.dir.0 c.args.committed.now c.args.current.now (Some c.in-Some.first) c.args.table.now c.args.log.now c.loop-low.table c.loop-low.log = subst (λ (o : Option ℕ). IsRanging c.args.dir.0 c.args.committed.now c.args.current.now o c.args.table.now c.args.log.now c.loop-low.table c.loop-low.log) c.in-Some.is c.loop-low.invariant in
    subst (λ (o : Option ℕ). IsRanging c.args.dir.0 c.args.committed.now c.args.current.now o c.args.table.now c.args.log.now c.loop-low.table c.loop-low.log) (sym c.index_behind-low.ensures)
    (ranging_passes c.args.dir.0 c.args.committed.now c.args.current.now c.in-Some.first c.args.table.now c.args.log.now c.loop-low.table c.loop-low.log way c.next_unchanged-end.result c.next_unchanged-end.ensures (sym c.is_met.ensures ∙ c.if-is_met.false))

pub returns-clause-ranges : goal.returns-clause-ranges
returns-clause-ranges c = λ range.
    let way : AreRanged (tree_items c.args.table.now c.args.committed.now) (tree_items c.args.table.now c.args.current.now) c.args.dir.0 None (tree_items c.args.table.now c.args.log.now) (tree_items c.loop-low.table c.loop-low.log) =
    subst (λ (o : Option ℕ). AreRanged (tree_items c.args.table.now c.args.committed.now) (tree_items c.args.table.now c.args.current.now) c.args.dir.0 o (tree_items c.args.table.now c.args.log.now) (tree_items c.loop-low.table c.loop-low.log)) c.in_default.is c.loop-low.invariant.way in (
      ranges_to (tree_items c.args.table.now c.args.committed.now) (tree_items c.args.table.now c.args.current.now) c.args.dir.0 (tree_items c.args.table.now c.args.log.now) (tree_items c.loop-low.table c.loop-low.log) way range,
      ranges_from (tree_items c.args.table.now c.args.committed.now) (tree_items c.args.table.now c.args.current.now) c.args.dir.0 (tree_items c.args.table.now c.args.log.now) (tree_items c.loop-low.table c.loop-low.log) way range,
    )

pub returns-clause-keys : goal.returns-clause-keys
returns-clause-keys c = c.loop-low.invariant.way.keys (search rules)
