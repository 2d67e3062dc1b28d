use Rattle.std.proofs.Common.{Bool, cond, sym, ap, ◌∙◌}
use Rattle.flat_model.specs.declared.answer.Answer.{Answer}
use Rattle.flat_model.specs.declared.answer.Answer.TheVariants.{NoEnt, NotDir, IsDir, Exists}
use Rattle.flat_model.specs.Volume.{is_dir_there}
use Rattle.flat_model.specs.Walk.{is_blocked, record_at}
use Rattle.flat_sub.specs.View.{sub_view}
use Rattle.flat_sub.proofs.sub.FlatSub.taken_answer.Goals as goal

abbrev chain : Bool → Bool → Bool → Answer
chain absent blocked dir = cond absent NoEnt (cond blocked NotDir (cond dir IsDir Exists))

pub returns-then-is_absent : goal.returns-then-is_absent
returns-then-is_absent c = λ names from is.
    let absent = sym c.if-is_absent.true ∙ c.is_absent.ensures names from is in
    ap (λ a. chain a (is_blocked from) (is_dir_there (record_at (sub_view c.args.self.now).sub from))) absent

pub returns-then-is_blocked : goal.returns-then-is_blocked
returns-then-is_blocked c = λ names from is.
    let absent = sym c.if-is_absent.false ∙ c.is_absent.ensures names from is in
    let blocked = sym c.if-is_blocked.true ∙ c.is_blocked.ensures names from is in
    λ i. chain (absent i) (blocked i) (is_dir_there (record_at (sub_view c.args.self.now).sub from))

pub returns-then-is_dir_there : goal.returns-then-is_dir_there
returns-then-is_dir_there c = λ names from is.
    let absent = sym c.if-is_absent.false ∙ c.is_absent.ensures names from is in
    let blocked = sym c.if-is_blocked.false ∙ c.is_blocked.ensures names from is in
    let dir = sym c.if-is_dir_there.true ∙ c.is_dir_there.ensures names from is in
    λ i. chain (absent i) (blocked i) (dir i)

pub returns : goal.returns
returns c = λ names from is.
    let absent = sym c.if-is_absent.false ∙ c.is_absent.ensures names from is in
    let blocked = sym c.if-is_blocked.false ∙ c.is_blocked.ensures names from is in
    let dir = sym c.if-is_dir_there.false ∙ c.is_dir_there.ensures names from is in
    λ i. chain (absent i) (blocked i) (dir i)
