-- A run of blocks more.
use Rattle.std.proofs.Common.{◌≡◌, ◌≤◌, ◌+◌, ◌-◌, ◌*◌, ◌/◌, ℕ, length, None, refl, subst, arith}
use Rattle.flat_model.specs.Contents.{block_written}
use Rattle.flat_model.specs.Records.{Blocks}
use Rattle.file_extents.specs.Extents.{Contents, HasRun, HoldContents, with_blocks}
use Rattle.file_extents.proofs.Held.{content_edit_more, content_edits_join, nothing}
use Rattle.file_extents.proofs.Items.{are_sole, have_some}
use Rattle.file_extents.proofs.Runs.{hold_same}
use Rattle.table_volume.specs.Gives.{data_in}
use Rattle.tree_range.specs.Shape.{tree_items}
use Rattle.file_contents.specs.Joined.{AreJoined}
use Rattle.file_contents.specs.Written.{MayPut, end_block}
use Rattle.file_contents.proofs.Puts.{with_join, with_none}
use Rattle.file_contents.proofs.Runs.{front_more, joined_more, none_at}
use Rattle.file_contents.proofs.Writing.{may_more}
use Rattle.file_contents.proofs.write.put_blocks.Goals as goal

pub loop-number-init : goal.loop-number-init
loop-number-init c =
    let first = c.args.offset / 4096 in
    let items = tree_items c.args.table.now c.args.tree.now in
    let may = c.requires.may in
    let hole : may.0 first ≡ None = may.2.holes first (omega arith) (omega (arith, c.requires.some)) in
    record {
      low = omega arith;
      high = omega arith;
      edit = nothing c.args.table.now c.args.tree.now c.args.running c.args.ino.0 (18 * (first - first)) c.requires.held;
      contents = λ contents blocks put.
          hold_same items (data_in c.args.table.now) c.args.ino.0 contents (with_blocks contents (block_written blocks c.args.offset c.args.text.now) first first) (with_none contents (block_written blocks c.args.offset c.args.text.now) first) put.holds;
      front = c.run_in_front-front.ensures (data_in c.args.table.now) may.0 may.2.holds hole;
      joined = λ b a n b2 a2 n2 r r2 ends low high on. absurd (omega (arith, low, high));
    }

pub put_next-front-requires-clause-held : goal.put_next-front-requires-clause-held
put_next-front-requires-clause-held c = c.loop-number.invariant.edit.held

pub put_next-front-requires-clause-may : goal.put_next-front-requires-clause-may
put_next-front-requires-clause-may c =
    let may = c.requires.may in
    let inv = c.loop-number.invariant in (
      with_blocks may.0 (block_written may.1 c.args.offset c.args.text.now) (c.args.offset / 4096) c.loop-number.number,
      may.1,
      may_more c.args.table.now c.loop-number.table c.args.tree.now c.loop-number.tree c.args.ino.0 may.0 may.1 c.args.offset c.args.text.now c.loop-number.number c.args.head.now c.args.tail.now inv.low may.2
          (inv.contents may.0 may.1 may.2),
    )

pub put_next-front-requires-clause-front : goal.put_next-front-requires-clause-front
put_next-front-requires-clause-front c = c.loop-number.invariant.front.stands

pub put_next-front-requires-clause-room : goal.put_next-front-requires-clause-room
put_next-front-requires-clause-room c =
    let taken = c.loop-number.invariant.edit.taken in
    let few : end_block c.args.offset (length c.args.text.now) ≤ c.args.offset / 4096 + 17 = omega (arith, c.requires.short) in
    record {
      spare = omega (arith, taken.spare, c.requires.room.spare, few, c.loop-number-test.true, c.end_of-end.ensures, c.loop-number.invariant.low);
      free = omega (arith, taken.free, c.requires.room.free, few, c.loop-number-test.true, c.end_of-end.ensures, c.loop-number.invariant.low);
    }

pub loop-number-preserved : goal.loop-number-preserved
loop-number-preserved c =
    let first = c.args.offset / 4096 in
    let number = c.loop-number.number in
    let ino = c.args.ino.0 in
    let was = tree_items c.loop-number.table c.loop-number.tree in
    let now = tree_items c.put_next-front.new.table c.put_next-front.new.tree in
    let front = c.loop-number.front in
    let run = c.put_next-front.result in
    let next : ℕ = run.begin + run.blocks in
    let e = c.put_next-front.ensures in
    let may = c.requires.may in
    let inv = c.loop-number.invariant in
    let put : (contents : Contents) (blocks : Blocks) → MayPut c.args.table.now c.args.tree.now ino contents blocks c.args.offset c.args.text.now first c.args.head.now c.args.tail.now
    → MayPut c.loop-number.table c.loop-number.tree ino (with_blocks contents (block_written blocks c.args.offset c.args.text.now) first number) blocks c.args.offset c.args.text.now number c.args.head.now c.args.tail.now =
    λ contents blocks h. may_more c.args.table.now c.loop-number.table c.args.tree.now c.loop-number.tree ino contents blocks c.args.offset c.args.text.now number c.args.head.now c.args.tail.now inv.low h (inv.contents contents blocks h) in
    let known : Contents = with_blocks may.0 (block_written may.1 c.args.offset c.args.text.now) first number in
    let there = put may.0 may.1 may.2 in
    let after = e.contents known may.1 there in
    let none : (x n : ℕ) → HasRun was ino number x n → ⊥ = λ x n r. none_at was (data_in c.loop-number.table) ino known there.holds number x n (there.holes number (omega arith) (omega (arith, c.loop-number-test.true, c.end_of-end.ensures))) r in
    let joins = e.joined in
    record {
      low = omega (arith, inv.low, e.some);
      high = e.within;
      edit = content_edit_more c.args.table.now c.put_next-front.new.table c.args.tree.now c.put_next-front.new.tree c.args.running ino (18 * (number - first) + (17 + (next - number))) (18 * (next - first))
          (content_edits_join c.args.table.now c.loop-number.table c.put_next-front.new.table c.args.tree.now c.loop-number.tree c.put_next-front.new.tree c.args.running ino (18 * (number - first)) (17 + (next - number)) inv.edit e.edit) (omega (arith, inv.low, e.some));
      contents = λ contents blocks h.
          let fresh = block_written blocks c.args.offset c.args.text.now in
          hold_same now (data_in c.put_next-front.new.table) ino (with_blocks (with_blocks contents fresh first number) fresh number next) (with_blocks contents fresh first next)
          (λ k. with_join contents fresh first number next k inv.low (omega (arith, e.some))) (e.contents (with_blocks contents fresh first number) blocks (put contents blocks h));
      front = front_more (HasRun was ino) (HasRun now ino) first number front.begin front.at.0 front.blocks joins.0 run.begin run.at.0 joins.1 run.blocks next (are_sole now ino) (have_some was ino) (have_some now ino)
          after.are.apart none e.run e.others joins.2 refl e.some inv.front;
      joined = joined_more (HasRun was ino) (HasRun now ino) first number front.begin front.at.0 front.blocks joins.0 run.begin run.at.0 joins.1 run.blocks next (are_sole now ino) (have_some was ino) (have_some now ino)
          after.are.apart none e.run e.others joins.2 refl e.some inv.front inv.joined;
    }

pub returns-clause-edit : goal.returns-clause-edit
returns-clause-edit c =
    let first = c.args.offset / 4096 in
    content_edit_more c.args.table.now c.loop-number.table c.args.tree.now c.loop-number.tree c.args.running c.args.ino.0 (18 * (c.loop-number.number - first)) 306 c.loop-number.invariant.edit
    (omega (arith, c.requires.short, c.loop-number.invariant.high))

pub returns-clause-contents : goal.returns-clause-contents
returns-clause-contents c = λ contents blocks put.
    let first = c.args.offset / 4096 in
    let last : c.loop-number.number ≡ end_block c.args.offset (length c.args.text.now) = omega (arith, c.loop-number-test.false, c.loop-number.invariant.high, c.end_of-end.ensures) in
    subst (λ (n : ℕ). HoldContents (tree_items c.loop-number.table c.loop-number.tree) (data_in c.loop-number.table) c.args.ino.0 (with_blocks contents (block_written blocks c.args.offset c.args.text.now) first n)) last (c.loop-number.invariant.contents contents blocks put)

pub returns-clause-joined : goal.returns-clause-joined
returns-clause-joined c =
    let last : c.loop-number.number ≡ end_block c.args.offset (length c.args.text.now) = omega (arith, c.loop-number-test.false, c.loop-number.invariant.high, c.end_of-end.ensures) in
    subst (λ (n : ℕ). AreJoined (HasRun (tree_items c.loop-number.table c.loop-number.tree) c.args.ino.0) (c.args.offset / 4096) n) last c.loop-number.invariant.joined
