use Rattle.std.proofs.Common.{◌∙◌, ap, sym}
use Rattle.std.specs.Option.{is_some}
use Rattle.std.proofs.lemmas.Bool.{true≢false}
use Rattle.flat_model.specs.Volume.{RunSub}
use Rattle.flat_sub.specs.View.{sub_view, IsWellKept}
use Rattle.flat_volume.specs.Building.{with_attribute}
use Rattle.flat_volume.proofs.Views.{on_ok, on_err}
use Rattle.flat_volume.proofs.Kept.{rising_set}
use Rattle.flat_volume.proofs.Changed.{entry_nowhere, inode_set, inode_same}
use Rattle.flat_volume.proofs.putting.put_attr_in.Goals as goal

pub unreachable-requires : goal.unreachable-requires
unreachable-requires c = true≢false (sym c.requires.there ∙ ap is_some (entry_nowhere c.args.sub.now.inodes.items c.args.ino (sym c.in_default.ensures)))

pub returns-clause-ok : goal.returns-clause-ok
returns-clause-ok c =
    let run : RunSub = sub_view c.args.sub.now in
    on_ok c.set_attribute.result (λ put.
    inode_set c.args.sub.now.inodes.items run.sub.names run.numbers c.in-Some.at c.args.ino c.index_mut-entry.result.now c.set_attribute.new.self (with_attribute c.args.name.now c.args.value.now) (sym c.in-Some.ensures) c.index_mut-entry.ensures.value put) c.set_attribute.ensures.ok

pub returns-clause-err : goal.returns-clause-err
returns-clause-err c =
    let run : RunSub = sub_view c.args.sub.now in
    on_err c.set_attribute.result (λ same.
    inode_same c.args.sub.now.inodes.items run.sub.names run.numbers c.in-Some.at c.args.ino c.index_mut-entry.result.now c.set_attribute.new.self (sym c.in-Some.ensures) c.index_mut-entry.ensures.value same) c.set_attribute.ensures.err

pub returns-clause-kept : goal.returns-clause-kept
returns-clause-kept c =
    let kept : IsWellKept c.args.sub.now = c.requires.kept in
    record {
      marked = kept.marked;
      in_order = kept.in_order;
      inodes_rise = rising_set c.args.sub.now.inodes.items c.in-Some.at c.index_mut-entry.result.now c.set_attribute.new.self c.index_mut-entry.ensures.value ∙ kept.inodes_rise;
      indexes_rise = kept.indexes_rise;
      covered = kept.covered;
      least = kept.least;
      each_least = kept.each_least;
    }
