use Rattle.std.proofs.Common.{◌∷◌, [], true}
use Rattle.disk_model.specs.Disk.{Call}
use Rattle.disk_model.proofs.CrashLaws.{TellsMore-joins}
use Rattle.disk_tests.proofs.memory.publish.Goals as goal

pub returns-clause-told : goal.returns-clause-told
returns-clause-told g c =
    let wrote = Call.Write c.args.at c.args.leaf.now true c.args.leaf.now in
    let finished = Call.Super c.args.superblock.now true c.args.superblock.now in
    TellsMore-joins _ _ _ (wrote ∷ []) (Call.Flush true ∷ finished ∷ []) c.in_ok-write.ensures.told
    (TellsMore-joins _ _ _ (Call.Flush true ∷ []) (finished ∷ []) c.in_ok-flush.ensures.told c.in_ok-write_super.ensures.told)
