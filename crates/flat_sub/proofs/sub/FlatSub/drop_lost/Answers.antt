use Rattle.std.proofs.Common.{ap, sym, ◌∙◌}
use Rattle.flat_sub.specs.Ends.{with_sub}
use Rattle.flat_sub.specs.Moves.{without_lost}
use Rattle.flat_sub.specs.View.{sub_view}
use Rattle.flat_sub.proofs.sub.FlatSub.drop_lost.Goals as goal

pub returns-in-Some-clause-view : goal.returns-in-Some-clause-view
returns-in-Some-clause-view c =
    let before = c.args.self.now in
    let run = sub_view before in
    ap (λ inodes. with_sub run (record run.sub { inodes = inodes })) c.drop_entries.ensures.map
    ∙ sym (ap (λ lost. with_sub run (record run.sub { inodes = without_lost run.sub.inodes lost })) c.in-Some.is)
