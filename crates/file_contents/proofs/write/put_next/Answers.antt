-- A block that the text covers is one of a run, and another one is put alone.
use Rattle.std.proofs.Common.{◌≡◌, ◌+◌, ◌-◌, ℕ, List, ap, subst, sym, ◌∙◌, arith}
use Rattle.flat_model.specs.Contents.{block_written}
use Rattle.file_extents.specs.Extents.{HoldContents, text_block, with_block, with_blocks}
use Rattle.file_extents.proofs.Filling.{joins_end}
use Rattle.file_extents.proofs.Held.{content_edit_more}
use Rattle.file_extents.proofs.Runs.{hold_same, with_one}
use Rattle.table_volume.specs.Gives.{data_in}
use Rattle.tree_range.specs.Shape.{tree_items}
use Rattle.file_contents.proofs.Bytes.{covered_block, edge_none, edge_some}
use Rattle.file_contents.proofs.Puts.{with_same}
use Rattle.file_contents.proofs.write.put_next.Goals as goal

pub put_block-requires-clause-hole : goal.put_block-requires-clause-hole
put_block-requires-clause-hole c =
    let may = c.requires.may in
    (may.0, may.2.holds, may.2.holes c.args.number (omega arith) c.requires.to)

pub put_text-requires-clause-order : goal.put_text-requires-clause-order
put_text-requires-clause-order c =
    let may = c.requires.may in
    let covered = edge_none may.1 c.args.offset c.args.text.now c.args.number (c.in-None.ensures may.1 may.2.head_is may.2.tail_is) in
    omega (arith, covered.ends, c.len.ensures.value)

pub put_text-requires-clause-begins : goal.put_text-requires-clause-begins
put_text-requires-clause-begins c =
    let may = c.requires.may in
    (edge_none may.1 c.args.offset c.args.text.now c.args.number (c.in-None.ensures may.1 may.2.head_is may.2.tail_is)).begins

pub put_text-requires-clause-holes : goal.put_text-requires-clause-holes
put_text-requires-clause-holes c =
    let may = c.requires.may in
    (may.0, may.2.holds, λ n low high. may.2.holes n low (omega (arith, high, c.len.ensures.value)))

one_block : (c : goal.After-put_block) → c.put_block.result.begin + c.put_block.result.blocks ≡ c.args.number + 1
one_block c =
    let front = c.args.front in
    let run = c.put_block.result in
    let joins = c.put_block.ensures.joined in
    joins_end front.begin front.at.0 front.blocks c.args.number joins.0 run.begin run.at.0 run.blocks joins.1

pub returns-in-Some-clause-edit : goal.returns-in-Some-clause-edit
returns-in-Some-clause-edit c =
    let run = c.put_block.result in
    content_edit_more c.args.table.now c.put_block.new.table c.args.tree.now c.put_block.new.tree c.args.running c.args.ino.0 18 (17 + (run.begin + run.blocks - c.args.number)) c.put_block.ensures.edit (omega (arith, one_block c))

pub returns-in-Some-clause-contents : goal.returns-in-Some-clause-contents
returns-in-Some-clause-contents c = λ contents blocks put.
    let number = c.args.number in
    let block : List ℕ = c.in-Some.block.now in
    let written : ℕ → List ℕ = block_written blocks c.args.offset c.args.text.now in
    let is : block ≡ written number = edge_some blocks c.args.offset c.args.text.now number block (c.in-Some.ensures blocks put.head_is put.tail_is) in
    let items = tree_items c.put_block.new.table c.put_block.new.tree in
    subst (λ (n : ℕ). HoldContents items (data_in c.put_block.new.table) c.args.ino.0 (with_blocks contents (block_written blocks c.args.offset c.args.text.now) number n)) (sym (one_block c))
    (hold_same items (data_in c.put_block.new.table) c.args.ino.0 (with_block contents number block) (with_blocks contents written number (number + 1))
    (λ k. sym (with_one contents block number k) ∙ with_same contents (λ n. block) written number (number + 1) k (λ n low high. is ∙ ap written (omega (arith, low, high))))
    (c.put_block.ensures.contents contents put.holds (put.holes number (omega arith) c.requires.to)))

pub returns-in-None-clause-contents : goal.returns-in-None-clause-contents
returns-in-None-clause-contents c = λ contents blocks put.
    let number = c.args.number in
    let run = c.put_text.result in
    let offset = c.args.offset in
    let text = c.args.text.now in
    let covered = edge_none blocks offset text number (c.in-None.ensures blocks put.head_is put.tail_is) in
    hold_same (tree_items c.put_text.new.table c.put_text.new.tree) (data_in c.put_text.new.table) c.args.ino.0 (with_blocks contents (text_block offset text) number (run.begin + run.blocks)) (with_blocks contents (block_written blocks offset text) number (run.begin + run.blocks))
    (λ k. with_same contents (text_block offset text) (block_written blocks offset text) number (run.begin + run.blocks) k
    (λ n low high. covered_block blocks offset text n (omega (arith, covered.begins, low)) (omega (arith, high, c.put_text.ensures.within, c.len.ensures.value))))
    (c.put_text.ensures.contents contents put.holds (λ n low high. put.holes n low (omega (arith, high, c.len.ensures.value))))
