use Rattle.std.proofs.Common.{sym, ◌∙◌, ap, subst}
use Rattle.disk_model.specs.Disk.{Leaves, held_now}
use Rattle.disk_memory.specs.declared.blocks.Blocks.{Blocks}
use Rattle.disk_memory.specs.Record.{told_by}
use Rattle.disk_memory.specs.RecordLaws.{Leaves-super}
use Rattle.disk_memory.proofs.Since.{part, tried_found}
use Rattle.disk_memory.proofs.crash.choose_super.Goals as goal
use Rattle.disk_memory.proofs.crash.choose_super.Goals.{in-Super+then-next_u32-eq0, in-Super+else-next_u32-eq0, in_default}

pub loop-entry-preserved : goal.loop-entry-preserved
loop-entry-preserved c =
    let kept = c.args.kept.now in
    let held = held_now (told_by kept.first.items.items kept.entries.items) in
    elim c.match-entry.branch [
      | in-Super+then-next_u32-eq0 w ↦ Leaves-super held c.loop-entry.image.items.items c.match-entry.image.items.items w.in-Super.bytes c.loop-entry.invariant c.match-entry.image.are_blocks
          (ap (λ (blocks : Blocks). blocks.items.items) w.image-is ∙ w.set.ensures)
          (tried_found kept.first.items.items kept.entries.items _ kept.super_from c.loop-entry.entry-index c.entry-item.result w.in-Super.bytes w.in-Super.ok kept.super_last (part kept.entries.items c.deref.result.now kept.super_from c.deref.ensures.value) c.loop-entry-test.true c.entry-item.is w.in-Super.is)
      | in-Super+else-next_u32-eq0 w ↦ subst (λ (blocks : Blocks). Leaves held blocks.items.items) (sym w.image-is) c.loop-entry.invariant
      | in_default w ↦ subst (λ (blocks : Blocks). Leaves held blocks.items.items) (sym w.image-is) c.loop-entry.invariant
    ]
