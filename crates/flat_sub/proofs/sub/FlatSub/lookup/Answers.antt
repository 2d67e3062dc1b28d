use Rattle.std.proofs.Common.{List, Bool, [], ◌∷◌, refl, sym, ap, ◌∙◌}
use Rattle.std.specs.Option.{unwrap_or}
use Rattle.flat_model.specs.declared.answer.Answer.{Answer}
use Rattle.flat_model.specs.declared.answer.Answer.TheVariants.{Number, NoEnt, NotDir}
use Rattle.flat_model.specs.Volume.{RunSub}
use Rattle.flat_model.specs.Walk.{WalkEnd, walk, is_absent, is_blocked, ino_at}
use Rattle.flat_model.specs.Operations.{Outcome, lookup, unchanged, first_answer}
use Rattle.flat_sub.specs.View.{sub_view}
use Rattle.flat_sub.proofs.Refusals.{refused, finished}
use Rattle.flat_sub.proofs.sub.FlatSub.lookup.Goals as goal

abbrev lookup_rows : WalkEnd → List (Bool × Answer)
lookup_rows place = (is_absent place, NoEnt) ∷ (is_blocked place, NotDir) ∷ []

abbrev lookup_done : RunSub → WalkEnd → Outcome
lookup_done run place = unchanged run (Number (unwrap_or (ino_at place) 0))

pub returns-in-Missing : goal.returns-in-Missing
unfolding lookup
returns-in-Missing c =
    let run : RunSub = sub_view c.args.self.now in
    let place = walk run.sub c.args.path.now in
    refused run (lookup_rows place) (lookup_done run place) NoEnt (ap (λ w. first_answer (lookup_rows w)) c.in-Missing.ensures)

pub returns-in-Free : goal.returns-in-Free
unfolding lookup
returns-in-Free c =
    let run : RunSub = sub_view c.args.self.now in
    let place = walk run.sub c.args.path.now in
    refused run (lookup_rows place) (lookup_done run place) NoEnt (ap (λ w. first_answer (lookup_rows w)) c.in-Free.ensures)

pub returns-in-Blocked : goal.returns-in-Blocked
unfolding lookup
returns-in-Blocked c =
    let run : RunSub = sub_view c.args.self.now in
    let place = walk run.sub c.args.path.now in
    refused run (lookup_rows place) (lookup_done run place) NotDir (ap (λ w. first_answer (lookup_rows w)) c.in-Blocked.ensures)

pub returns-in-Root : goal.returns-in-Root
unfolding lookup
returns-in-Root c =
    let run : RunSub = sub_view c.args.self.now in
    let place = walk run.sub c.args.path.now in
    finished run (lookup_rows place) (lookup_done run place) run (Number 256) (ap (λ w. first_answer (lookup_rows w)) c.in-Root.ensures) refl (sym (ap (λ w. (lookup_done run w).answer) c.in-Root.ensures))

pub returns-in-Taken : goal.returns-in-Taken
unfolding lookup
returns-in-Taken c =
    let run : RunSub = sub_view c.args.self.now in
    let place = walk run.sub c.args.path.now in
    let taken = c.in-Taken.ensures in
    finished run (lookup_rows place) (lookup_done run place) run (Number c.in-Taken.ino) (ap (λ w. first_answer (lookup_rows w)) taken.slot) refl (ap Number taken.leads ∙ sym (ap (λ w. (lookup_done run w).answer) taken.slot))
