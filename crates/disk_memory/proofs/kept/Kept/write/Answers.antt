use Rattle.std.proofs.Common.{◌≡◌, cond, slice_set, rules, refl}
use Rattle.disk_memory.proofs.Records.{reads_after_write, told_after_write, lost_after_write, no_super_more}
use Rattle.disk_memory.proofs.kept.Kept.write.Goals as goal
use Rattle.disk_memory.proofs.kept.Kept.write.Goals.{then-ok, else-ok}

pub invariant_of-self-clause-reads : goal.invariant_of-self-clause-reads
invariant_of-self-clause-reads c =
    let disk = c.args.self.now in
    let now : c.if-ok.self.1.1.0.items.items ≡ cond c.args.ok (slice_set disk.image.items.items c.args.at c.args.from.now) disk.image.items.items = elim c.if-ok.branch [ then-ok w ↦ search rules | else-ok w ↦ search rules ] in
    reads_after_write disk.first.items.items disk.image.items.items _ disk.entries.items _ _ c.args.from.now c.args.ok disk.reads c.push_reserved.ensures.items now

pub invariant_of-self-clause-super_last : goal.invariant_of-self-clause-super_last
invariant_of-self-clause-super_last c =
    let disk = c.args.self.now in
    no_super_more disk.super_from disk.entries.items _ _ disk.super_before disk.super_last c.push_reserved.ensures.items refl

pub returns-clause-told : goal.returns-clause-told
returns-clause-told c =
    let disk = c.args.self.now in
    let now : c.if-ok.self.1.1.0.items.items ≡ cond c.args.ok (slice_set disk.image.items.items c.args.at c.args.from.now) disk.image.items.items = elim c.if-ok.branch [ then-ok w ↦ search rules | else-ok w ↦ search rules ] in
    told_after_write disk.first.items.items disk.image.items.items _ disk.entries.items _ _ c.args.from.now c.args.ok disk.reads c.push_reserved.ensures.items now

pub returns-clause-lost : goal.returns-clause-lost
returns-clause-lost c =
    let disk = c.args.self.now in
    let now : c.if-ok.self.1.1.0.items.items ≡ cond c.args.ok (slice_set disk.image.items.items c.args.at c.args.from.now) disk.image.items.items = elim c.if-ok.branch [ then-ok w ↦ search rules | else-ok w ↦ search rules ] in
    lost_after_write disk.first.items.items disk.entries.items _ c.args.at c.args.from.now c.args.ok _ (told_after_write disk.first.items.items disk.image.items.items _ disk.entries.items _ _ c.args.from.now c.args.ok disk.reads c.push_reserved.ensures.items now)
