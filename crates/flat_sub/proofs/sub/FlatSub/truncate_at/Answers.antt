use Rattle.std.proofs.Common.{◌≡◌, Some, sym, ap, ◌∙◌}
use Rattle.std.specs.FinMap.{get, insert}
use Rattle.flat_model.specs.Contents.{truncated}
use Rattle.flat_model.specs.Operations.{file_there}
use Rattle.flat_model.specs.Records.{FileInode}
use Rattle.flat_model.specs.Volume.{RunSub, is_dir_there, is_link_there}
use Rattle.flat_sub.specs.View.{sub_view}
use Rattle.flat_sub.proofs.Inodes.{is_file, record_here, record_nowhere, record_put, record_not_put, record_set, rising_set, with_inodes}
use Rattle.flat_sub.proofs.sub.FlatSub.truncate_at.Goals as goal

pub truncate-requires-clause-file : goal.truncate-requires-clause-file
truncate-requires-clause-file c =
    let here = record_here c.args.self.now.inodes.items c.args.ino c.in-Some.at c.index_mut-entry.result.now c.in-Some.ensures c.index_mut-entry.ensures.value in
    is_file c.index_mut-entry.result.now.1 (c.requires.no_dir ∙ ap is_dir_there here) (c.requires.no_link ∙ ap is_link_there here)

pub returns-in-Some-clause-view : goal.returns-in-Some-clause-view
returns-in-Some-clause-view c =
    let run : RunSub = sub_view c.args.self.now in
    let items = c.args.self.now.inodes.items in
    let lent = c.index_mut-entry.result.now in
    let here = record_here items c.args.ino c.in-Some.at lent c.in-Some.ensures c.index_mut-entry.ensures.value in
    ap (with_inodes run) (record_set items c.args.ino c.in-Some.at lent c.truncate.new.self c.in-Some.ensures c.index_mut-entry.ensures.value
    ∙ ap (insert run.sub.inodes c.args.ino) (c.truncate.ensures ∙ ap (λ r. FileInode (truncated (file_there r) c.args.size)) (sym here)))
    ∙ sym (record_put run c.args.ino lent.1 (FileInode (truncated (file_there (get run.sub.inodes c.args.ino)) c.args.size)) here)

pub returns-in-Some-clause-kept : goal.returns-in-Some-clause-kept
returns-in-Some-clause-kept c =
    let kept = c.requires.kept in
    record {
      marked = kept.marked;
      in_order = kept.in_order;
      inodes_rise = rising_set c.args.self.now.inodes.items c.in-Some.at c.index_mut-entry.result.now c.truncate.new.self c.index_mut-entry.ensures.value ∙ kept.inodes_rise;
      indexes_rise = kept.indexes_rise;
      covered = kept.covered;
      least = kept.least;
      each_least = kept.each_least;
    }

pub returns-in-None-clause-view : goal.returns-in-None-clause-view
returns-in-None-clause-view c =
    let run : RunSub = sub_view c.args.self.now in
    let nowhere = record_nowhere c.args.self.now.inodes.items c.args.ino c.in-None.ensures in
    sym (record_not_put run c.args.ino (FileInode (truncated (file_there (get run.sub.inodes c.args.ino)) c.args.size)) nowhere)
