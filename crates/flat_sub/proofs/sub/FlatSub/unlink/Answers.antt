use Rattle.std.proofs.Common.{cond, Some, None, refl, sym, ap, ◌∙◌, arith}
use Rattle.flat_model.specs.declared.answer.Answer.TheVariants.{Plain, NoEnt, NotDir, IsDir}
use Rattle.flat_model.specs.Volume.{RunSub, is_dir_at}
use Rattle.flat_model.specs.Walk.{walk}
use Rattle.flat_model.specs.Operations.{unlink, unlink_rows, removal_done, first_answer}
use Rattle.flat_sub.specs.View.{sub_view, names_view}
use Rattle.flat_sub.proofs.Refusals.{refused, finished}
use Rattle.flat_sub.proofs.Placed.{length_view}
use Rattle.flat_sub.proofs.Removals.{drop_below}
use Rattle.flat_sub.proofs.sub.FlatSub.unlink.Goals as goal

pub returns-in-Missing-clause-done : goal.returns-in-Missing-clause-done
unfolding unlink
returns-in-Missing-clause-done c =
    let run : RunSub = sub_view c.args.self.now in
    let place = walk run.sub c.args.path.now in
    refused run (unlink_rows run place) (removal_done run place) NoEnt (ap (λ w. first_answer (unlink_rows run w)) c.in-Missing.ensures)

pub returns-in-Free-clause-done : goal.returns-in-Free-clause-done
unfolding unlink
returns-in-Free-clause-done c =
    let run : RunSub = sub_view c.args.self.now in
    let place = walk run.sub c.args.path.now in
    refused run (unlink_rows run place) (removal_done run place) NoEnt (ap (λ w. first_answer (unlink_rows run w)) c.in-Free.ensures)

pub returns-in-Blocked-clause-done : goal.returns-in-Blocked-clause-done
unfolding unlink
returns-in-Blocked-clause-done c =
    let run : RunSub = sub_view c.args.self.now in
    let place = walk run.sub c.args.path.now in
    refused run (unlink_rows run place) (removal_done run place) NotDir (ap (λ w. first_answer (unlink_rows run w)) c.in-Blocked.ensures)

pub returns-then-is_dir-clause-done : goal.returns-then-is_dir-clause-done
unfolding unlink
returns-then-is_dir-clause-done c =
    let run : RunSub = sub_view c.args.self.now in
    let place = walk run.sub c.args.path.now in
    let dir = sym c.is_dir.ensures ∙ c.if-is_dir.true in
    refused run (unlink_rows run place) (removal_done run place) IsDir (ap (λ w. first_answer (unlink_rows run w)) c.in-Root.ensures ∙ ap (λ b. cond b (Some IsDir) None) dir)

pub returns-else-is_dir-clause-done : goal.returns-else-is_dir-clause-done
unfolding unlink
returns-else-is_dir-clause-done c =
    let run : RunSub = sub_view c.args.self.now in
    let place = walk run.sub c.args.path.now in
    let dir = sym c.is_dir.ensures ∙ c.if-is_dir.false in
    finished run (unlink_rows run place) (removal_done run place) run Plain (ap (λ w. first_answer (unlink_rows run w)) c.in-Root.ensures ∙ ap (λ b. cond b (Some IsDir) None) dir) (sym (ap (λ w. (removal_done run w).next) c.in-Root.ensures)) refl

pub returns-then-is_dir-2-clause-done : goal.returns-then-is_dir-2-clause-done
unfolding unlink
returns-then-is_dir-2-clause-done c =
    let run : RunSub = sub_view c.args.self.now in
    let place = walk run.sub c.args.path.now in
    let taken = c.in-Taken.ensures in
    let dir = ap (is_dir_at run.sub) (sym taken.leads) ∙ sym c.is_dir-in-Taken.ensures ∙ c.if-is_dir-2.true in
    refused run (unlink_rows run place) (removal_done run place) IsDir (ap (λ w. first_answer (unlink_rows run w)) taken.slot ∙ ap (λ b. cond b (Some IsDir) None) dir)

pub remove_entry-requires-clause-there : goal.remove_entry-requires-clause-there
remove_entry-requires-clause-there c =
    let before = c.args.self.now in
    let taken = c.in-Taken.ensures in
    let below = drop_below c.in-Taken.at (names_view before.names.items before.near.items) taken.name _ taken.place in
    omega (arith, below, length_view before.names.items before.near.items c.requires.marked, before.names.ok.0)

pub returns-else-is_dir-2-clause-done : goal.returns-else-is_dir-2-clause-done
unfolding unlink
returns-else-is_dir-2-clause-done c =
    let run : RunSub = sub_view c.args.self.now in
    let place = walk run.sub c.args.path.now in
    let taken = c.in-Taken.ensures in
    let dir = ap (is_dir_at run.sub) (sym taken.leads) ∙ sym c.is_dir-in-Taken.ensures ∙ c.if-is_dir-2.false in
    finished run (unlink_rows run place) (removal_done run place) (sub_view c.remove_entry.new.self) Plain (ap (λ w. first_answer (unlink_rows run w)) taken.slot ∙ ap (λ b. cond b (Some IsDir) None) dir)
    (c.remove_entry.ensures.gone taken.name taken.place taken.leads ∙ sym (ap (λ w. (removal_done run w).next) taken.slot)) refl
