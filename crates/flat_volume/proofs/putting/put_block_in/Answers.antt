use Rattle.std.proofs.Common.{◌∙◌, ap, sym}
use Rattle.std.specs.Option.{option_map}
use Rattle.flat_model.specs.Records.{kind_of}
use Rattle.flat_model.specs.Volume.{RunSub}
use Rattle.flat_model.proofs.Maps.{some_none, some_same}
use Rattle.flat_sub.specs.View.{sub_view, IsWellKept}
use Rattle.flat_volume.specs.Building.{with_block}
use Rattle.flat_volume.proofs.Views.{on_ok, on_err}
use Rattle.flat_volume.proofs.Kept.{rising_set}
use Rattle.flat_volume.proofs.Changed.{entry_at, entry_nowhere, inode_set, inode_same}
use Rattle.flat_volume.proofs.putting.put_block_in.Goals as goal

pub unreachable-requires : goal.unreachable-requires
unreachable-requires c = some_none _ (sym c.requires.file ∙ ap (option_map kind_of) (entry_nowhere c.args.sub.now.inodes.items c.args.ino (sym c.in_default.ensures)))

pub put_block-requires : goal.put_block-requires
put_block-requires c =
    let lent = c.index_mut-entry.result.now in
    some_same _ _ (sym (ap (option_map kind_of) (entry_at c.args.sub.now.inodes.items c.args.ino c.in-Some.at lent (sym c.in-Some.ensures) c.index_mut-entry.ensures.value)) ∙ c.requires.file)

pub returns-clause-ok : goal.returns-clause-ok
returns-clause-ok c =
    let run : RunSub = sub_view c.args.sub.now in
    on_ok c.put_block.result (λ put.
    inode_set c.args.sub.now.inodes.items run.sub.names run.numbers c.in-Some.at c.args.ino c.index_mut-entry.result.now c.put_block.new.self (with_block c.args.number c.args.bytes.now) (sym c.in-Some.ensures) c.index_mut-entry.ensures.value put) c.put_block.ensures.ok

pub returns-clause-err : goal.returns-clause-err
returns-clause-err c =
    let run : RunSub = sub_view c.args.sub.now in
    on_err c.put_block.result (λ same.
    inode_same c.args.sub.now.inodes.items run.sub.names run.numbers c.in-Some.at c.args.ino c.index_mut-entry.result.now c.put_block.new.self (sym c.in-Some.ensures) c.index_mut-entry.ensures.value same) c.put_block.ensures.err

pub returns-clause-kept : goal.returns-clause-kept
returns-clause-kept c =
    let kept : IsWellKept c.args.sub.now = c.requires.kept in
    record {
      marked = kept.marked;
      in_order = kept.in_order;
      inodes_rise = rising_set c.args.sub.now.inodes.items c.in-Some.at c.index_mut-entry.result.now c.put_block.new.self c.index_mut-entry.ensures.value ∙ kept.inodes_rise;
      indexes_rise = kept.indexes_rise;
      covered = kept.covered;
      least = kept.least;
      each_least = kept.each_least;
    }
