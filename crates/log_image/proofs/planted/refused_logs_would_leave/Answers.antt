use Rattle.log_image.proofs.Plants.{orphan_names, orphan_record, turned_record, hollow_record, looped_names, crossed_names, doubled_names}
use Rattle.log_image.proofs.planted.refused_logs_would_leave.Goals as goal

pub returns : goal.returns
returns c = record {
  orphan = orphan_names;
  no_inode = orphan_record;
  turned = turned_record;
  hollow = hollow_record;
  looped = looped_names;
  crossed = crossed_names;
  doubled = doubled_names;
}
