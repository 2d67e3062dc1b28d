use Rattle.std.proofs.Common.{ap, sym, subst, ◌∙◌}
use Rattle.flat_model.specs.Volume.{Subvolume, is_dir_at, is_dir_there}
use Rattle.flat_model.specs.Walk.{record_at}
use Rattle.flat_sub.specs.Ends.{IsEnd}
use Rattle.flat_sub.specs.View.{sub_view}
use Rattle.flat_sub.proofs.sub.FlatSub.is_dir_there.Goals as goal

pub returns-in-Root : goal.returns-in-Root
returns-in-Root c = let sub : Subvolume = (sub_view c.args.self.now).sub in λ names end is. c.is_dir.ensures ∙ sym (ap (λ w. is_dir_there (record_at sub w)) (subst (IsEnd names end) c.in-Root.is is))

pub returns-in-Free : goal.returns-in-Free
returns-in-Free c = let sub : Subvolume = (sub_view c.args.self.now).sub in λ names end is. sym (ap (λ w. is_dir_there (record_at sub w)) (subst (IsEnd names end) c.in-Free.is is))

pub returns-in-Missing : goal.returns-in-Missing
returns-in-Missing c = let sub : Subvolume = (sub_view c.args.self.now).sub in λ names end is. sym (ap (λ w. is_dir_there (record_at sub w)) (subst (IsEnd names end) c.in-Missing.is is))

pub returns-in-Blocked : goal.returns-in-Blocked
returns-in-Blocked c = let sub : Subvolume = (sub_view c.args.self.now).sub in λ names end is. sym (ap (λ w. is_dir_there (record_at sub w)) (subst (IsEnd names end) c.in-Blocked.is is))

pub returns-in-Taken : goal.returns-in-Taken
returns-in-Taken c = let sub : Subvolume = (sub_view c.args.self.now).sub in λ names end is. let taken = subst (IsEnd names end) c.in-Taken.is is in c.is_dir-in-Taken.ensures ∙ ap (is_dir_at sub) taken.leads ∙ sym (ap (λ w. is_dir_there (record_at sub w)) taken.slot)
