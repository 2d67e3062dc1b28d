-- Only a symlink has an inline extent.
use Rattle.std.proofs.Common.{◌≡◌, Some, sym, ap, ◌∙◌}
use Rattle.std.specs.FinMap.{get}
use Rattle.flat_model.specs.declared.view.Kind.{Kind}
use Rattle.flat_model.specs.declared.view.Kind.TheVariants.{Dir, File, Link}
use Rattle.operation_needs.proofs.Inodes.{inline_none, inline_of}
use Rattle.operation_needs.proofs.inode.inline_count.Goals as goal

pub returns-in-Some-Link-clause-count : goal.returns-in-Some-Link-clause-count
returns-in-Some-Link-clause-count c = λ sub given.
    inline_of (get sub.inodes c.args.ino.0) Link (sym (ap (λ (k : Kind). Some k) c.in-Some-Link.field-0-is) ∙ c.in-Some-Link.ensures sub given)

pub returns-in-Some-File-clause-count : goal.returns-in-Some-File-clause-count
returns-in-Some-File-clause-count c = λ sub given.
    inline_of (get sub.inodes c.args.ino.0) File (sym (ap (λ (k : Kind). Some k) c.in-Some-File.field-0-is) ∙ c.in-Some-File.ensures sub given)

pub returns-in-Some-Dir-clause-count : goal.returns-in-Some-Dir-clause-count
returns-in-Some-Dir-clause-count c = λ sub given.
    inline_of (get sub.inodes c.args.ino.0) Dir (sym (ap (λ (k : Kind). Some k) c.in-Some-Dir.field-0-is) ∙ c.in-Some-Dir.ensures sub given)

pub returns-in-None-clause-count : goal.returns-in-None-clause-count
returns-in-None-clause-count c = λ sub given. inline_none (get sub.inodes c.args.ino.0) (c.in-None.ensures sub given)
