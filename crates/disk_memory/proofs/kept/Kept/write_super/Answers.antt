use Rattle.std.proofs.Common.{◌≡◌, ◌+◌, length, cond, slice_set, rules, arith, ap, refl}
use Rattle.disk_memory.specs.RecordLaws.{reads_by-length}
use Rattle.disk_memory.proofs.Records.{reads_after_super, told_after_super, lost_after_super, no_super_after_super}
use Rattle.disk_memory.proofs.kept.Kept.write_super.Goals as goal
use Rattle.disk_memory.proofs.kept.Kept.write_super.Goals.{then-ok, else-ok}

pub set-requires : goal.set-requires
set-requires c =
    let disk = c.args.self.now in
    omega (arith, disk.has_super, ap length disk.reads, reads_by-length disk.first.items.items disk.entries.items)

pub invariant_of-self-clause-reads : goal.invariant_of-self-clause-reads
invariant_of-self-clause-reads c =
    let disk = c.args.self.now in
    let now : c.if-ok.self.1.1.0.items.items ≡ cond c.args.ok (slice_set disk.image.items.items 16 c.args.from.now) disk.image.items.items = elim c.if-ok.branch [ then-ok w ↦ search rules | else-ok w ↦ search rules ] in
    reads_after_super disk.first.items.items disk.image.items.items _ disk.entries.items _ c.args.from.now c.args.ok disk.reads c.push_reserved.ensures.items now

pub invariant_of-self-clause-super_last : goal.invariant_of-self-clause-super_last
invariant_of-self-clause-super_last c =
    let disk = c.args.self.now in
    let now : c.if-ok.self.1.1.1.1.1.0 ≡ cond c.args.ok (length disk.entries.items + 1) disk.super_from = elim c.if-ok.branch [ then-ok w ↦ search rules | else-ok w ↦ search rules ] in
    no_super_after_super disk.super_from c.if-ok.self.1.1.1.1.1.0 disk.entries.items _ c.args.from.now c.args.ok disk.super_before disk.super_last now c.push_reserved.ensures.items

pub returns-clause-told : goal.returns-clause-told
returns-clause-told c =
    let disk = c.args.self.now in
    let now : c.if-ok.self.1.1.0.items.items ≡ cond c.args.ok (slice_set disk.image.items.items 16 c.args.from.now) disk.image.items.items = elim c.if-ok.branch [ then-ok w ↦ search rules | else-ok w ↦ search rules ] in
    told_after_super disk.first.items.items disk.image.items.items _ disk.entries.items _ c.args.from.now c.args.ok disk.reads c.push_reserved.ensures.items now

pub returns-clause-lost : goal.returns-clause-lost
returns-clause-lost c =
    let disk = c.args.self.now in
    let now : c.if-ok.self.1.1.0.items.items ≡ cond c.args.ok (slice_set disk.image.items.items 16 c.args.from.now) disk.image.items.items = elim c.if-ok.branch [ then-ok w ↦ search rules | else-ok w ↦ search rules ] in
    lost_after_super disk.first.items.items disk.entries.items _ c.args.from.now c.args.ok _ (told_after_super disk.first.items.items disk.image.items.items _ disk.entries.items _ c.args.from.now c.args.ok disk.reads c.push_reserved.ensures.items now)
