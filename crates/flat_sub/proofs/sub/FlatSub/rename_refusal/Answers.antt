use Rattle.std.proofs.Common.{refl, sym, ◌∙◌}
use Rattle.flat_model.specs.Volume.{RunSub}
use Rattle.flat_model.specs.Walk.{WalkEnd, walk}
use Rattle.flat_sub.specs.View.{sub_view}
use Rattle.flat_sub.proofs.Rows.{row_holds, row_passes}
use Rattle.flat_sub.proofs.sub.FlatSub.rename_refusal.Goals as goal

pub returns-then-is_absent_or_dirless : goal.returns-then-is_absent_or_dirless
returns-then-is_absent_or_dirless c =
    let run : RunSub = sub_view c.args.self.now in
    let first : WalkEnd = walk run.sub c.args.old.now in
    let second : WalkEnd = walk run.sub c.args.new.now in
    let row_0 = sym (c.is_absent_or_dirless.ensures run.sub.names first second c.requires.from c.requires.to) ∙ c.if-is_absent_or_dirless.true in
    row_holds _ _ _ row_0

pub returns-then-is_blocked_or : goal.returns-then-is_blocked_or
returns-then-is_blocked_or c =
    let run : RunSub = sub_view c.args.self.now in
    let first : WalkEnd = walk run.sub c.args.old.now in
    let second : WalkEnd = walk run.sub c.args.new.now in
    let row_0 = sym (c.is_absent_or_dirless.ensures run.sub.names first second c.requires.from c.requires.to) ∙ c.if-is_absent_or_dirless.false in
    let row_1 = sym (c.is_blocked_or.ensures run.sub.names first second c.requires.from c.requires.to) ∙ c.if-is_blocked_or.true in
    row_passes _ _ _ _ row_0 (row_holds _ _ _ row_1)

pub returns-then-is_one_inode : goal.returns-then-is_one_inode
returns-then-is_one_inode c =
    let run : RunSub = sub_view c.args.self.now in
    let first : WalkEnd = walk run.sub c.args.old.now in
    let second : WalkEnd = walk run.sub c.args.new.now in
    let row_0 = sym (c.is_absent_or_dirless.ensures run.sub.names first second c.requires.from c.requires.to) ∙ c.if-is_absent_or_dirless.false in
    let row_1 = sym (c.is_blocked_or.ensures run.sub.names first second c.requires.from c.requires.to) ∙ c.if-is_blocked_or.false in
    let row_2 = sym (c.is_one_inode.ensures run.sub.names first second c.requires.from c.requires.to) ∙ c.if-is_one_inode.true in
    row_passes _ _ _ _ row_0 (row_passes _ _ _ _ row_1 (row_holds _ _ _ row_2))

pub returns-then-moves_dir_onto_other : goal.returns-then-moves_dir_onto_other
returns-then-moves_dir_onto_other c =
    let run : RunSub = sub_view c.args.self.now in
    let first : WalkEnd = walk run.sub c.args.old.now in
    let second : WalkEnd = walk run.sub c.args.new.now in
    let row_0 = sym (c.is_absent_or_dirless.ensures run.sub.names first second c.requires.from c.requires.to) ∙ c.if-is_absent_or_dirless.false in
    let row_1 = sym (c.is_blocked_or.ensures run.sub.names first second c.requires.from c.requires.to) ∙ c.if-is_blocked_or.false in
    let row_2 = sym (c.is_one_inode.ensures run.sub.names first second c.requires.from c.requires.to) ∙ c.if-is_one_inode.false in
    let row_3 = sym (c.moves_dir_onto_other.ensures run.sub.names first second c.requires.from c.requires.to) ∙ c.if-moves_dir_onto_other.true in
    row_passes _ _ _ _ row_0 (row_passes _ _ _ _ row_1 (row_passes _ _ _ _ row_2 (row_holds _ _ _ row_3)))

pub returns-then-moves_other_onto_dir : goal.returns-then-moves_other_onto_dir
returns-then-moves_other_onto_dir c =
    let run : RunSub = sub_view c.args.self.now in
    let first : WalkEnd = walk run.sub c.args.old.now in
    let second : WalkEnd = walk run.sub c.args.new.now in
    let row_0 = sym (c.is_absent_or_dirless.ensures run.sub.names first second c.requires.from c.requires.to) ∙ c.if-is_absent_or_dirless.false in
    let row_1 = sym (c.is_blocked_or.ensures run.sub.names first second c.requires.from c.requires.to) ∙ c.if-is_blocked_or.false in
    let row_2 = sym (c.is_one_inode.ensures run.sub.names first second c.requires.from c.requires.to) ∙ c.if-is_one_inode.false in
    let row_3 = sym (c.moves_dir_onto_other.ensures run.sub.names first second c.requires.from c.requires.to) ∙ c.if-moves_dir_onto_other.false in
    let row_4 = sym (c.moves_other_onto_dir.ensures run.sub.names first second c.requires.from c.requires.to) ∙ c.if-moves_other_onto_dir.true in
    row_passes _ _ _ _ row_0 (row_passes _ _ _ _ row_1 (row_passes _ _ _ _ row_2 (row_passes _ _ _ _ row_3 (row_holds _ _ _ row_4))))

pub returns-then-is_full_dir : goal.returns-then-is_full_dir
returns-then-is_full_dir c =
    let run : RunSub = sub_view c.args.self.now in
    let first : WalkEnd = walk run.sub c.args.old.now in
    let second : WalkEnd = walk run.sub c.args.new.now in
    let row_0 = sym (c.is_absent_or_dirless.ensures run.sub.names first second c.requires.from c.requires.to) ∙ c.if-is_absent_or_dirless.false in
    let row_1 = sym (c.is_blocked_or.ensures run.sub.names first second c.requires.from c.requires.to) ∙ c.if-is_blocked_or.false in
    let row_2 = sym (c.is_one_inode.ensures run.sub.names first second c.requires.from c.requires.to) ∙ c.if-is_one_inode.false in
    let row_3 = sym (c.moves_dir_onto_other.ensures run.sub.names first second c.requires.from c.requires.to) ∙ c.if-moves_dir_onto_other.false in
    let row_4 = sym (c.moves_other_onto_dir.ensures run.sub.names first second c.requires.from c.requires.to) ∙ c.if-moves_other_onto_dir.false in
    let row_5 = sym (c.is_full_dir.ensures run.sub.names second c.requires.to) ∙ c.if-is_full_dir.true in
    row_passes _ _ _ _ row_0 (row_passes _ _ _ _ row_1 (row_passes _ _ _ _ row_2 (row_passes _ _ _ _ row_3 (row_passes _ _ _ _ row_4 (row_holds _ _ _ row_5)))))

pub returns-then-moves_in_loop : goal.returns-then-moves_in_loop
returns-then-moves_in_loop c =
    let run : RunSub = sub_view c.args.self.now in
    let first : WalkEnd = walk run.sub c.args.old.now in
    let second : WalkEnd = walk run.sub c.args.new.now in
    let row_0 = sym (c.is_absent_or_dirless.ensures run.sub.names first second c.requires.from c.requires.to) ∙ c.if-is_absent_or_dirless.false in
    let row_1 = sym (c.is_blocked_or.ensures run.sub.names first second c.requires.from c.requires.to) ∙ c.if-is_blocked_or.false in
    let row_2 = sym (c.is_one_inode.ensures run.sub.names first second c.requires.from c.requires.to) ∙ c.if-is_one_inode.false in
    let row_3 = sym (c.moves_dir_onto_other.ensures run.sub.names first second c.requires.from c.requires.to) ∙ c.if-moves_dir_onto_other.false in
    let row_4 = sym (c.moves_other_onto_dir.ensures run.sub.names first second c.requires.from c.requires.to) ∙ c.if-moves_other_onto_dir.false in
    let row_5 = sym (c.is_full_dir.ensures run.sub.names second c.requires.to) ∙ c.if-is_full_dir.false in
    let row_6 = sym (c.moves_in_loop.ensures run.sub.names first second c.requires.from c.requires.to) ∙ c.if-moves_in_loop.true in
    row_passes _ _ _ _ row_0 (row_passes _ _ _ _ row_1 (row_passes _ _ _ _ row_2 (row_passes _ _ _ _ row_3 (row_passes _ _ _ _ row_4 (row_passes _ _ _ _ row_5 (row_holds _ _ _ row_6))))))

pub returns-then-indexes_are_spent : goal.returns-then-indexes_are_spent
returns-then-indexes_are_spent c =
    let run : RunSub = sub_view c.args.self.now in
    let first : WalkEnd = walk run.sub c.args.old.now in
    let second : WalkEnd = walk run.sub c.args.new.now in
    let row_0 = sym (c.is_absent_or_dirless.ensures run.sub.names first second c.requires.from c.requires.to) ∙ c.if-is_absent_or_dirless.false in
    let row_1 = sym (c.is_blocked_or.ensures run.sub.names first second c.requires.from c.requires.to) ∙ c.if-is_blocked_or.false in
    let row_2 = sym (c.is_one_inode.ensures run.sub.names first second c.requires.from c.requires.to) ∙ c.if-is_one_inode.false in
    let row_3 = sym (c.moves_dir_onto_other.ensures run.sub.names first second c.requires.from c.requires.to) ∙ c.if-moves_dir_onto_other.false in
    let row_4 = sym (c.moves_other_onto_dir.ensures run.sub.names first second c.requires.from c.requires.to) ∙ c.if-moves_other_onto_dir.false in
    let row_5 = sym (c.is_full_dir.ensures run.sub.names second c.requires.to) ∙ c.if-is_full_dir.false in
    let row_6 = sym (c.moves_in_loop.ensures run.sub.names first second c.requires.from c.requires.to) ∙ c.if-moves_in_loop.false in
    let row_7 = sym c.indexes_are_spent.ensures ∙ c.if-indexes_are_spent.true in
    row_passes _ _ _ _ row_0 (row_passes _ _ _ _ row_1 (row_passes _ _ _ _ row_2 (row_passes _ _ _ _ row_3 (row_passes _ _ _ _ row_4 (row_passes _ _ _ _ row_5 (row_passes _ _ _ _ row_6 (row_holds _ _ _ row_7)))))))

pub returns : goal.returns
returns c =
    let run : RunSub = sub_view c.args.self.now in
    let first : WalkEnd = walk run.sub c.args.old.now in
    let second : WalkEnd = walk run.sub c.args.new.now in
    let row_0 = sym (c.is_absent_or_dirless.ensures run.sub.names first second c.requires.from c.requires.to) ∙ c.if-is_absent_or_dirless.false in
    let row_1 = sym (c.is_blocked_or.ensures run.sub.names first second c.requires.from c.requires.to) ∙ c.if-is_blocked_or.false in
    let row_2 = sym (c.is_one_inode.ensures run.sub.names first second c.requires.from c.requires.to) ∙ c.if-is_one_inode.false in
    let row_3 = sym (c.moves_dir_onto_other.ensures run.sub.names first second c.requires.from c.requires.to) ∙ c.if-moves_dir_onto_other.false in
    let row_4 = sym (c.moves_other_onto_dir.ensures run.sub.names first second c.requires.from c.requires.to) ∙ c.if-moves_other_onto_dir.false in
    let row_5 = sym (c.is_full_dir.ensures run.sub.names second c.requires.to) ∙ c.if-is_full_dir.false in
    let row_6 = sym (c.moves_in_loop.ensures run.sub.names first second c.requires.from c.requires.to) ∙ c.if-moves_in_loop.false in
    let row_7 = sym c.indexes_are_spent.ensures ∙ c.if-indexes_are_spent.false in
    row_passes _ _ _ _ row_0 (row_passes _ _ _ _ row_1 (row_passes _ _ _ _ row_2 (row_passes _ _ _ _ row_3 (row_passes _ _ _ _ row_4 (row_passes _ _ _ _ row_5 (row_passes _ _ _ _ row_6 (row_passes _ _ _ _ row_7 (refl))))))))
