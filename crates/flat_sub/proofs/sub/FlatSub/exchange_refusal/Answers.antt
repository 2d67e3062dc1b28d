use Rattle.std.proofs.Common.{refl, sym, ◌∙◌}
use Rattle.flat_model.specs.Volume.{RunSub}
use Rattle.flat_model.specs.Walk.{WalkEnd, walk}
use Rattle.flat_sub.specs.View.{sub_view}
use Rattle.flat_sub.proofs.Rows.{row_holds, row_passes}
use Rattle.flat_sub.proofs.sub.FlatSub.exchange_refusal.Goals as goal

pub returns-then-is_absent_or : goal.returns-then-is_absent_or
returns-then-is_absent_or c =
    let run : RunSub = sub_view c.args.self.now in
    let first : WalkEnd = walk run.sub c.args.one.now in
    let second : WalkEnd = walk run.sub c.args.two.now in
    let row_0 = sym (c.is_absent_or.ensures run.sub.names first second c.requires.first c.requires.second) ∙ c.if-is_absent_or.true in
    row_holds _ _ _ row_0

pub returns-then-is_blocked_or : goal.returns-then-is_blocked_or
returns-then-is_blocked_or c =
    let run : RunSub = sub_view c.args.self.now in
    let first : WalkEnd = walk run.sub c.args.one.now in
    let second : WalkEnd = walk run.sub c.args.two.now in
    let row_0 = sym (c.is_absent_or.ensures run.sub.names first second c.requires.first c.requires.second) ∙ c.if-is_absent_or.false in
    let row_1 = sym (c.is_blocked_or.ensures run.sub.names first second c.requires.first c.requires.second) ∙ c.if-is_blocked_or.true in
    row_passes _ _ _ _ row_0 (row_holds _ _ _ row_1)

pub returns-then-is_one_inode : goal.returns-then-is_one_inode
returns-then-is_one_inode c =
    let run : RunSub = sub_view c.args.self.now in
    let first : WalkEnd = walk run.sub c.args.one.now in
    let second : WalkEnd = walk run.sub c.args.two.now in
    let row_0 = sym (c.is_absent_or.ensures run.sub.names first second c.requires.first c.requires.second) ∙ c.if-is_absent_or.false in
    let row_1 = sym (c.is_blocked_or.ensures run.sub.names first second c.requires.first c.requires.second) ∙ c.if-is_blocked_or.false in
    let row_2 = sym (c.is_one_inode.ensures run.sub.names first second c.requires.first c.requires.second) ∙ c.if-is_one_inode.true in
    row_passes _ _ _ _ row_0 (row_passes _ _ _ _ row_1 (row_holds _ _ _ row_2))

pub returns-then-is_root_or : goal.returns-then-is_root_or
returns-then-is_root_or c =
    let run : RunSub = sub_view c.args.self.now in
    let first : WalkEnd = walk run.sub c.args.one.now in
    let second : WalkEnd = walk run.sub c.args.two.now in
    let row_0 = sym (c.is_absent_or.ensures run.sub.names first second c.requires.first c.requires.second) ∙ c.if-is_absent_or.false in
    let row_1 = sym (c.is_blocked_or.ensures run.sub.names first second c.requires.first c.requires.second) ∙ c.if-is_blocked_or.false in
    let row_2 = sym (c.is_one_inode.ensures run.sub.names first second c.requires.first c.requires.second) ∙ c.if-is_one_inode.false in
    let row_3 = sym (c.is_root_or.ensures run.sub.names first second c.requires.first c.requires.second) ∙ c.if-is_root_or.true in
    row_passes _ _ _ _ row_0 (row_passes _ _ _ _ row_1 (row_passes _ _ _ _ row_2 (row_holds _ _ _ row_3)))

pub returns-then-indexes_are_spent : goal.returns-then-indexes_are_spent
returns-then-indexes_are_spent c =
    let run : RunSub = sub_view c.args.self.now in
    let first : WalkEnd = walk run.sub c.args.one.now in
    let second : WalkEnd = walk run.sub c.args.two.now in
    let row_0 = sym (c.is_absent_or.ensures run.sub.names first second c.requires.first c.requires.second) ∙ c.if-is_absent_or.false in
    let row_1 = sym (c.is_blocked_or.ensures run.sub.names first second c.requires.first c.requires.second) ∙ c.if-is_blocked_or.false in
    let row_2 = sym (c.is_one_inode.ensures run.sub.names first second c.requires.first c.requires.second) ∙ c.if-is_one_inode.false in
    let row_3 = sym (c.is_root_or.ensures run.sub.names first second c.requires.first c.requires.second) ∙ c.if-is_root_or.false in
    let row_4 = sym c.indexes_are_spent.ensures ∙ c.if-indexes_are_spent.true in
    row_passes _ _ _ _ row_0 (row_passes _ _ _ _ row_1 (row_passes _ _ _ _ row_2 (row_passes _ _ _ _ row_3 (row_holds _ _ _ row_4))))

pub returns : goal.returns
returns c =
    let run : RunSub = sub_view c.args.self.now in
    let first : WalkEnd = walk run.sub c.args.one.now in
    let second : WalkEnd = walk run.sub c.args.two.now in
    let row_0 = sym (c.is_absent_or.ensures run.sub.names first second c.requires.first c.requires.second) ∙ c.if-is_absent_or.false in
    let row_1 = sym (c.is_blocked_or.ensures run.sub.names first second c.requires.first c.requires.second) ∙ c.if-is_blocked_or.false in
    let row_2 = sym (c.is_one_inode.ensures run.sub.names first second c.requires.first c.requires.second) ∙ c.if-is_one_inode.false in
    let row_3 = sym (c.is_root_or.ensures run.sub.names first second c.requires.first c.requires.second) ∙ c.if-is_root_or.false in
    let row_4 = sym c.indexes_are_spent.ensures ∙ c.if-indexes_are_spent.false in
    row_passes _ _ _ _ row_0 (row_passes _ _ _ _ row_1 (row_passes _ _ _ _ row_2 (row_passes _ _ _ _ row_3 (row_passes _ _ _ _ row_4 (refl)))))
