use Rattle.std.proofs.Common.{cond, Some, None, refl, sym, ap, ◌∙◌, arith, nat_lt, length}
use Rattle.std.specs.FinMap.{get}
use Rattle.flat_model.specs.declared.answer.Answer.TheVariants.{Plain, NoEnt, NotDir, NotEmpty, Loop}
use Rattle.flat_model.specs.Names.{entries_of}
use Rattle.flat_model.specs.Volume.{RunSub, is_other_there}
use Rattle.flat_model.specs.Walk.{walk}
use Rattle.flat_model.specs.Operations.{rmdir, rmdir_rows, removal_done, first_answer}
use Rattle.flat_sub.specs.View.{sub_view, names_view}
use Rattle.flat_sub.proofs.Refusals.{refused, finished}
use Rattle.flat_sub.proofs.Placed.{length_view}
use Rattle.flat_sub.proofs.Removals.{drop_below}
use Rattle.flat_sub.proofs.sub.FlatSub.rmdir.Goals as goal

pub returns-in-Missing-clause-done : goal.returns-in-Missing-clause-done
unfolding rmdir
returns-in-Missing-clause-done c =
    let run : RunSub = sub_view c.args.self.now in
    let place = walk run.sub c.args.path.now in
    refused run (rmdir_rows run place) (removal_done run place) NoEnt (ap (λ w. first_answer (rmdir_rows run w)) c.in-Missing.ensures)

pub returns-in-Free-clause-done : goal.returns-in-Free-clause-done
unfolding rmdir
returns-in-Free-clause-done c =
    let run : RunSub = sub_view c.args.self.now in
    let place = walk run.sub c.args.path.now in
    refused run (rmdir_rows run place) (removal_done run place) NoEnt (ap (λ w. first_answer (rmdir_rows run w)) c.in-Free.ensures)

pub returns-in-Blocked-clause-done : goal.returns-in-Blocked-clause-done
unfolding rmdir
returns-in-Blocked-clause-done c =
    let run : RunSub = sub_view c.args.self.now in
    let place = walk run.sub c.args.path.now in
    refused run (rmdir_rows run place) (removal_done run place) NotDir (ap (λ w. first_answer (rmdir_rows run w)) c.in-Blocked.ensures)

pub returns-then-is_other-clause-done : goal.returns-then-is_other-clause-done
unfolding rmdir
returns-then-is_other-clause-done c =
    let run : RunSub = sub_view c.args.self.now in
    let place = walk run.sub c.args.path.now in
    let other = sym c.is_other.ensures ∙ c.if-is_other.true in
    refused run (rmdir_rows run place) (removal_done run place) NotDir (ap (λ w. first_answer (rmdir_rows run w)) c.in-Root.ensures ∙ ap (λ b. cond b (Some NotDir) (Some Loop)) other)

pub returns-else-is_other-clause-done : goal.returns-else-is_other-clause-done
unfolding rmdir
returns-else-is_other-clause-done c =
    let run : RunSub = sub_view c.args.self.now in
    let place = walk run.sub c.args.path.now in
    let other = sym c.is_other.ensures ∙ c.if-is_other.false in
    refused run (rmdir_rows run place) (removal_done run place) Loop (ap (λ w. first_answer (rmdir_rows run w)) c.in-Root.ensures ∙ ap (λ b. cond b (Some NotDir) (Some Loop)) other)

pub returns-then-is_other-2-clause-done : goal.returns-then-is_other-2-clause-done
unfolding rmdir
returns-then-is_other-2-clause-done c =
    let run : RunSub = sub_view c.args.self.now in
    let place = walk run.sub c.args.path.now in
    let taken = c.in-Taken.ensures in
    let other = ap (λ k. is_other_there (get run.sub.inodes k)) (sym taken.leads) ∙ sym c.is_other-in-Taken.ensures ∙ c.if-is_other-2.true in
    refused run (rmdir_rows run place) (removal_done run place) NotDir (ap (λ w. first_answer (rmdir_rows run w)) taken.slot ∙ ap (λ b. cond b (Some NotDir) (cond (nat_lt 0 (length (entries_of run.sub.names taken.name.ino))) (Some NotEmpty) None)) other)

pub returns-then-has_entries-clause-done : goal.returns-then-has_entries-clause-done
unfolding rmdir
returns-then-has_entries-clause-done c =
    let run : RunSub = sub_view c.args.self.now in
    let place = walk run.sub c.args.path.now in
    let taken = c.in-Taken.ensures in
    let other = ap (λ k. is_other_there (get run.sub.inodes k)) (sym taken.leads) ∙ sym c.is_other-in-Taken.ensures ∙ c.if-is_other-2.false in
    let full = ap (λ k. nat_lt 0 (length (entries_of run.sub.names k))) (sym taken.leads) ∙ sym c.has_entries.ensures ∙ c.if-has_entries.true in
    refused run (rmdir_rows run place) (removal_done run place) NotEmpty (ap (λ w. first_answer (rmdir_rows run w)) taken.slot ∙ ap (λ b. cond b (Some NotDir) (cond (nat_lt 0 (length (entries_of run.sub.names taken.name.ino))) (Some NotEmpty) None)) other ∙ ap (λ b. cond b (Some NotEmpty) None) full)

pub remove_entry-requires-clause-there : goal.remove_entry-requires-clause-there
remove_entry-requires-clause-there c =
    let before = c.args.self.now in
    let taken = c.in-Taken.ensures in
    let below = drop_below c.in-Taken.at (names_view before.names.items before.near.items) taken.name _ taken.place in
    omega (arith, below, length_view before.names.items before.near.items c.requires.marked, before.names.ok.0)

pub returns-else-has_entries-clause-done : goal.returns-else-has_entries-clause-done
unfolding rmdir
returns-else-has_entries-clause-done c =
    let run : RunSub = sub_view c.args.self.now in
    let place = walk run.sub c.args.path.now in
    let taken = c.in-Taken.ensures in
    let other = ap (λ k. is_other_there (get run.sub.inodes k)) (sym taken.leads) ∙ sym c.is_other-in-Taken.ensures ∙ c.if-is_other-2.false in
    let full = ap (λ k. nat_lt 0 (length (entries_of run.sub.names k))) (sym taken.leads) ∙ sym c.has_entries.ensures ∙ c.if-has_entries.false in
    finished run (rmdir_rows run place) (removal_done run place) (sub_view c.remove_entry.new.self) Plain (ap (λ w. first_answer (rmdir_rows run w)) taken.slot ∙ ap (λ b. cond b (Some NotDir) (cond (nat_lt 0 (length (entries_of run.sub.names taken.name.ino))) (Some NotEmpty) None)) other ∙ ap (λ b. cond b (Some NotEmpty) None) full)
    (c.remove_entry.ensures.gone taken.name taken.place taken.leads ∙ sym (ap (λ w. (removal_done run w).next) taken.slot)) refl
