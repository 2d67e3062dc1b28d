use Rattle.std.proofs.Common.{◌≡◌, ◌+◌, length, cond, rules, refl}
use Rattle.disk_memory.proofs.Records.{reads_after_flush, told_after_flush, lost_after_flush, no_super_more}
use Rattle.disk_memory.proofs.kept.Kept.flush.Goals as goal

pub invariant_of-self-clause-reads : goal.invariant_of-self-clause-reads
invariant_of-self-clause-reads c =
    let disk = c.args.self.now in
    reads_after_flush disk.first.items.items disk.image.items.items disk.entries.items _ c.args.ok disk.reads c.push_reserved.ensures.items

pub invariant_of-self-clause-super_last : goal.invariant_of-self-clause-super_last
invariant_of-self-clause-super_last c =
    let disk = c.args.self.now in
    no_super_more disk.super_from disk.entries.items _ _ disk.super_before disk.super_last c.push_reserved.ensures.items refl

pub returns-clause-told : goal.returns-clause-told
returns-clause-told c =
    let disk = c.args.self.now in
    told_after_flush disk.first.items.items disk.image.items.items disk.entries.items _ c.args.ok disk.reads c.push_reserved.ensures.items

pub returns-clause-lost : goal.returns-clause-lost
returns-clause-lost c =
    let disk = c.args.self.now in
    lost_after_flush disk.first.items.items disk.entries.items _ c.args.ok (told_after_flush disk.first.items.items disk.image.items.items disk.entries.items _ c.args.ok disk.reads c.push_reserved.ensures.items)
