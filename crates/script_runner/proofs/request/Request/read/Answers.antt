use Rattle.std.proofs.Common.{refl}
use Rattle.script_runner.proofs.CommandLemmas.{too_many_blocks, too_many_subvolumes}
use Rattle.script_runner.proofs.request.Request.read.Goals as goal

pub returns-in_err-blocks-clause-none : goal.returns-in_err-blocks-clause-none
returns-in_err-blocks-clause-none c = λ _ disk_blocks.
    too_many_blocks c.args.fsid.now c.args.blocks.now c.as_bytes.result.now c.args.subs.now disk_blocks c.as_bytes.ensures.value (c.in_err-blocks.ensures.none refl)

pub returns-in_err-subs-clause-none : goal.returns-in_err-subs-clause-none
returns-in_err-subs-clause-none c = λ _ disk_blocks.
    too_many_subvolumes c.args.fsid.now c.args.blocks.now c.args.subs.now c.as_bytes-2.result.now disk_blocks c.as_bytes-2.ensures.value (c.in_err-subs.ensures.none refl)
