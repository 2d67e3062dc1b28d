use Rattle.std.proofs.Common.{Option, Some, None, sym, ap, ◌∙◌}
use Rattle.std.specs.FinMap.{insert}
use Rattle.flat_model.specs.Operations.{attributes_there}
use Rattle.flat_model.specs.Records.{InodeRecord, with_attributes}
use Rattle.flat_model.specs.Volume.{RunSub}
use Rattle.flat_model.specs.Operations.{with_record}
use Rattle.flat_sub.specs.View.{sub_view}
use Rattle.flat_sub.proofs.Inodes.{on_ok, record_here, record_nowhere, record_set, rising_set, with_inodes}
use Rattle.flat_sub.proofs.sub.FlatSub.set_attribute_at.Goals as goal

pub returns-in-Some-clause-ok : goal.returns-in-Some-clause-ok
returns-in-Some-clause-ok c =
    let run : RunSub = sub_view c.args.self.now in
    let items = c.args.self.now.inodes.items in
    let lent = c.index_mut-entry.result.now in
    let here = record_here items c.args.ino c.in-Some.at lent c.in-Some.ensures c.index_mut-entry.ensures.value in
    on_ok c.set_attribute.result (λ done.
    ap (with_inodes run) (record_set items c.args.ino c.in-Some.at lent c.set_attribute.new.self c.in-Some.ensures c.index_mut-entry.ensures.value
    ∙ ap (insert run.sub.inodes c.args.ino) done)
    ∙ sym (ap (λ (r : Option InodeRecord). elim r as (λ o. RunSub) [ None ↦ run | Some inode ↦ record run { sub = with_record run.sub c.args.ino (with_attributes inode (insert (attributes_there r) c.args.name.now c.args.value.now)) } ]) here)) c.set_attribute.ensures.ok

pub returns-in-Some-clause-kept : goal.returns-in-Some-clause-kept
returns-in-Some-clause-kept c =
    let kept = c.requires in
    record {
      marked = kept.marked;
      in_order = kept.in_order;
      inodes_rise = rising_set c.args.self.now.inodes.items c.in-Some.at c.index_mut-entry.result.now c.set_attribute.new.self c.index_mut-entry.ensures.value ∙ kept.inodes_rise;
      indexes_rise = kept.indexes_rise;
      covered = kept.covered;
      least = kept.least;
      each_least = kept.each_least;
    }

pub returns-in-None-clause-ok : goal.returns-in-None-clause-ok
returns-in-None-clause-ok c =
    let run : RunSub = sub_view c.args.self.now in
    let nowhere = record_nowhere c.args.self.now.inodes.items c.args.ino c.in-None.ensures in
    sym (ap (λ (r : Option InodeRecord). elim r as (λ o. RunSub) [ None ↦ run | Some inode ↦ record run { sub = with_record run.sub c.args.ino (with_attributes inode (insert (attributes_there r) c.args.name.now c.args.value.now)) } ]) nowhere)
