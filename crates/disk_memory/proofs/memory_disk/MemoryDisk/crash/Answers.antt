use Rattle.std.proofs.Common.{length, sym, ◌∙◌, ap, subst, arith}
use Rattle.disk_model.specs.Disk.{IsImage, Leaves, held_now}
use Rattle.disk_memory.specs.Record.{told_by}
use Rattle.disk_memory.specs.RecordLaws.{leaves_as_read, image_now-told, reads_by-length}
use Rattle.disk_memory.proofs.memory_disk.MemoryDisk.crash.Goals as goal

pub tear-requires : goal.tear-requires
tear-requires c =
    let kept = c.args.self.now.kept in
    let now : Leaves (held_now (told_by kept.first.items.items kept.entries.items)) _ = leaves_as_read kept.first.items.items kept.entries.items kept.has_super (subst IsImage kept.reads kept.image.are_blocks) in
    subst (Leaves (held_now (told_by kept.first.items.items kept.entries.items))) (image_now-told kept.first.items.items kept.entries.items ∙ sym kept.reads ∙ sym c.in_ok-image.ensures) now

pub fresh-requires-clause-has_super : goal.fresh-requires-clause-has_super
fresh-requires-clause-has_super c =
    let kept = c.args.self.now.kept in
    omega (arith, c.choose_super.ensures.size, ap length (image_now-told kept.first.items.items kept.entries.items), reads_by-length kept.first.items.items kept.entries.items, kept.has_super)

pub fresh-requires-clause-small : goal.fresh-requires-clause-small
fresh-requires-clause-small c =
    let kept = c.args.self.now.kept in
    omega (arith, c.choose_super.ensures.size, ap length (image_now-told kept.first.items.items kept.entries.items), ap length kept.reads, c.args.self.now.small)
