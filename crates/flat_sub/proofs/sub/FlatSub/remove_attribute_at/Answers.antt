use Rattle.std.proofs.Common.{Option, Some, None, sym, ap, ◌∙◌}
use Rattle.std.specs.FinMap.{insert, remove}
use Rattle.flat_model.specs.Operations.{attributes_there}
use Rattle.flat_model.specs.Records.{InodeRecord, with_attributes}
use Rattle.flat_model.specs.Volume.{RunSub}
use Rattle.flat_model.specs.Operations.{with_record}
use Rattle.flat_sub.specs.View.{sub_view}
use Rattle.flat_sub.proofs.Inodes.{record_here, record_nowhere, record_set, rising_set, with_inodes}
use Rattle.flat_sub.proofs.sub.FlatSub.remove_attribute_at.Goals as goal

pub returns-in-Some-clause-view : goal.returns-in-Some-clause-view
returns-in-Some-clause-view c =
    let run : RunSub = sub_view c.args.self.now in
    let items = c.args.self.now.inodes.items in
    let lent = c.index_mut-entry.result.now in
    let here = record_here items c.args.ino c.in-Some.at lent c.in-Some.ensures c.index_mut-entry.ensures.value in
    ap (with_inodes run) (record_set items c.args.ino c.in-Some.at lent c.remove_attribute.new.self c.in-Some.ensures c.index_mut-entry.ensures.value
    ∙ ap (insert run.sub.inodes c.args.ino) c.remove_attribute.ensures)
    ∙ sym (ap (λ (r : Option InodeRecord). elim r as (λ o. RunSub) [ None ↦ run | Some inode ↦ record run { sub = with_record run.sub c.args.ino (with_attributes inode (remove (attributes_there r) c.args.name.now)) } ]) here)

pub returns-in-Some-clause-kept : goal.returns-in-Some-clause-kept
returns-in-Some-clause-kept c =
    let kept = c.requires in
    record {
      marked = kept.marked;
      in_order = kept.in_order;
      inodes_rise = rising_set c.args.self.now.inodes.items c.in-Some.at c.index_mut-entry.result.now c.remove_attribute.new.self c.index_mut-entry.ensures.value ∙ kept.inodes_rise;
      indexes_rise = kept.indexes_rise;
      covered = kept.covered;
      least = kept.least;
      each_least = kept.each_least;
    }

pub returns-in-None-clause-view : goal.returns-in-None-clause-view
returns-in-None-clause-view c =
    let run : RunSub = sub_view c.args.self.now in
    let nowhere = record_nowhere c.args.self.now.inodes.items c.args.ino c.in-None.ensures in
    sym (ap (λ (r : Option InodeRecord). elim r as (λ o. RunSub) [ None ↦ run | Some inode ↦ record run { sub = with_record run.sub c.args.ino (with_attributes inode (remove (attributes_there r) c.args.name.now)) } ]) nowhere)
