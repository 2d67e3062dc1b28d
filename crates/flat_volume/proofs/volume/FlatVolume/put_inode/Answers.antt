use Rattle.std.proofs.Common.{◌∙◌, ap, sym}
use Rattle.std.specs.Option.{is_some}
use Rattle.std.specs.FinMap.{get}
use Rattle.std.proofs.lemmas.Bool.{true≢false}
use Rattle.flat_model.specs.Records.{InodeRecord}
use Rattle.flat_model.specs.Volume.{RunSub}
use Rattle.flat_volume.specs.Building.{at_sub}
use Rattle.flat_sub.specs.Building.{with_inode}
use Rattle.flat_record.specs.NewRecord.{record_of_kind}
use Rattle.flat_sub.specs.View.{sub_view}
use Rattle.flat_volume.proofs.Views.{on_ok, on_err, view_set, view_same, view_nowhere}
use Rattle.flat_volume.proofs.Kept.{kept_set}
use Rattle.flat_volume.proofs.volume.FlatVolume.put_inode.Goals as goal

pub returns-clause-ok : goal.returns-clause-ok
returns-clause-ok c =
    let lent = c.index_mut-entry.result.now in
    let subs = c.self.inside.subs.items in
    let ino = c.args.ino.0 in
    let made : InodeRecord = record_of_kind c.args.kind c.args.size c.args.target in
    let before : RunSub = sub_view lent.1 in
    on_ok c.add_inode.result (λ added.
    view_set subs c.in-Some.at c.args.sub.0 lent c.add_inode.new.self (with_inode ino made) (sym c.in-Some.ensures) c.index_mut-entry.ensures.value
    (added ∙ ap (λ r. with_inode ino r before) c.new.ensures) ∙ ap (λ v. at_sub v c.args.sub.0 (with_inode ino made)) c.self.view_is) c.add_inode.ensures.ok

pub returns-clause-err : goal.returns-clause-err
returns-clause-err c =
    on_err c.add_inode.result (λ same.
    view_same c.self.inside.subs.items c.in-Some.at c.args.sub.0 c.index_mut-entry.result.now c.add_inode.new.self (sym c.in-Some.ensures) c.index_mut-entry.ensures.value same ∙ c.self.view_is) c.add_inode.ensures.err

pub unreachable-requires : goal.unreachable-requires
unreachable-requires c =
    true≢false (sym c.requires ∙ ap (λ v. is_some (get v c.args.sub.0)) (sym c.self.view_is) ∙ ap is_some (view_nowhere c.self.inside.subs.items c.args.sub.0 (sym c.in_default.ensures)))

pub invariant_of-self : goal.invariant_of-self
invariant_of-self c = kept_set c.self.inside.subs.items c.in-Some.at c.args.sub.0 c.index_mut-entry.result.now c.add_inode.new.self (sym c.in-Some.ensures) c.index_mut-entry.ensures.value c.add_inode.ensures.kept c.self.invariant
