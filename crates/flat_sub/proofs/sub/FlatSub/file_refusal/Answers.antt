use Rattle.std.proofs.Common.{refl, sym, ◌∙◌}
use Rattle.flat_sub.proofs.Rows.{row_holds, row_passes}
use Rattle.flat_sub.proofs.sub.FlatSub.file_refusal.Goals as goal

pub returns-then-is_absent : goal.returns-then-is_absent
returns-then-is_absent c = λ names before is.
    let row_0 = sym (c.is_absent.ensures names before is) ∙ c.if-is_absent.true in
    row_holds _ _ _ row_0

pub returns-then-is_blocked : goal.returns-then-is_blocked
returns-then-is_blocked c = λ names before is.
    let row_0 = sym (c.is_absent.ensures names before is) ∙ c.if-is_absent.false in
    let row_1 = sym (c.is_blocked.ensures names before is) ∙ c.if-is_blocked.true in
    row_passes _ _ _ _ row_0 (row_holds _ _ _ row_1)

pub returns-then-is_dir_there : goal.returns-then-is_dir_there
returns-then-is_dir_there c = λ names before is.
    let row_0 = sym (c.is_absent.ensures names before is) ∙ c.if-is_absent.false in
    let row_1 = sym (c.is_blocked.ensures names before is) ∙ c.if-is_blocked.false in
    let row_2 = sym (c.is_dir_there.ensures names before is) ∙ c.if-is_dir_there.true in
    row_passes _ _ _ _ row_0 (row_passes _ _ _ _ row_1 (row_holds _ _ _ row_2))

pub returns-then-is_link_there : goal.returns-then-is_link_there
returns-then-is_link_there c = λ names before is.
    let row_0 = sym (c.is_absent.ensures names before is) ∙ c.if-is_absent.false in
    let row_1 = sym (c.is_blocked.ensures names before is) ∙ c.if-is_blocked.false in
    let row_2 = sym (c.is_dir_there.ensures names before is) ∙ c.if-is_dir_there.false in
    let row_3 = sym (c.is_link_there.ensures names before is) ∙ c.if-is_link_there.true in
    row_passes _ _ _ _ row_0 (row_passes _ _ _ _ row_1 (row_passes _ _ _ _ row_2 (row_holds _ _ _ row_3)))

pub returns : goal.returns
returns c = λ names before is.
    let row_0 = sym (c.is_absent.ensures names before is) ∙ c.if-is_absent.false in
    let row_1 = sym (c.is_blocked.ensures names before is) ∙ c.if-is_blocked.false in
    let row_2 = sym (c.is_dir_there.ensures names before is) ∙ c.if-is_dir_there.false in
    let row_3 = sym (c.is_link_there.ensures names before is) ∙ c.if-is_link_there.false in
    row_passes _ _ _ _ row_0 (row_passes _ _ _ _ row_1 (row_passes _ _ _ _ row_2 (row_passes _ _ _ _ row_3 (refl))))
