use Rattle.std.proofs.Common.{◌≤◌, ℕ, List, length, sym, subst}
use Rattle.flat_model.specs.Coherent.{AreBytes}
use Rattle.flat_model.specs.Operations.{make}
use Rattle.flat_model.specs.Records.{new_link}
use Rattle.table_volume.specs.Operated.{IsOperated}
use Rattle.name_ops.proofs.making.symlink.Goals as goal

pub make-requires-clause-new : goal.make-requires-clause-new
make-requires-clause-new c =
    subst (λ (target : List ℕ). (1 ≤ length target) × (length target ≤ 1023) × AreBytes target) (sym c.copy_text-count.ensures.front) (c.requires.some, c.requires.short, c.copy_text-count.ensures.bytes)

pub returns : goal.returns
returns c = λ run gives.
    subst (λ (target : List ℕ). IsOperated c.args.table.now c.make.new.table c.args.sub.now c.make.new.sub run (make run c.args.path.now (new_link target) c.args.sub.now.next_index) c.make.result 512)
    c.copy_text-count.ensures.front (c.make.ensures run gives)
