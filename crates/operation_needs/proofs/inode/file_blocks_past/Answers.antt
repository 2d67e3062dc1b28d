-- Only a file has data blocks.
use Rattle.std.proofs.Common.{◌≡◌, ℕ, Option, Some, sym, ap, ◌∙◌, arith}
use Rattle.std.specs.FinMap.{get}
use Rattle.std.specs.Option.{option_map}
use Rattle.flat_model.specs.declared.view.Kind.{Kind}
use Rattle.flat_model.specs.declared.view.Kind.TheVariants.{Dir, File, Link}
use Rattle.flat_model.specs.Needs.{blocks_past}
use Rattle.flat_model.specs.Operations.{file_there}
use Rattle.flat_model.specs.Records.{InodeRecord, kind_of}
use Rattle.operation_needs.proofs.Inodes.{few_past, file_is, none_past_dir, none_past_link, none_past_none}
use Rattle.operation_needs.proofs.inode.file_blocks_past.Goals as goal

pub record_kind-requires : goal.record_kind-requires
record_kind-requires c = c.requires.1.gives.tree_in

pub blocks_past-requires : goal.blocks_past-requires
blocks_past-requires c = c.requires.1.gives.tree_in

pub returns-in-Some-File-clause-count : goal.returns-in-Some-File-clause-count
returns-in-Some-File-clause-count c = λ sub given.
    let is : Some File ≡ option_map kind_of (get sub.inodes c.args.ino.0) = sym (ap (λ (k : Kind). Some k) c.in-Some-File.field-0-is) ∙ c.in-Some-File.ensures sub given in
    let file = file_is (get sub.inodes c.args.ino.0) is in
    c.blocks_past.ensures sub file.0 given file.1 ∙ sym (ap (λ (o : Option InodeRecord). blocks_past (file_there o) c.args.size) file.1)

pub returns-in-Some-File-clause-few : goal.returns-in-Some-File-clause-few
returns-in-Some-File-clause-few c =
    let sub = c.requires.0 in
    let given = c.requires.1 in
    let is : Some File ≡ option_map kind_of (get sub.inodes c.args.ino.0) = sym (ap (λ (k : Kind). Some k) c.in-Some-File.field-0-is) ∙ c.in-Some-File.ensures sub given in
    let file = file_is (get sub.inodes c.args.ino.0) is in
    let few = few_past sub given.coherent c.args.ino.0 file.0 c.args.size file.1 in
    let same = c.blocks_past.ensures sub file.0 given file.1 in
    omega (arith, few, same)

pub returns-in-Some-Dir-clause-count : goal.returns-in-Some-Dir-clause-count
returns-in-Some-Dir-clause-count c = λ sub given.
    none_past_dir (get sub.inodes c.args.ino.0) c.args.size (sym (ap (λ (k : Kind). Some k) c.in-Some-Dir.field-0-is) ∙ c.in-Some-Dir.ensures sub given)

pub returns-in-Some-Link-clause-count : goal.returns-in-Some-Link-clause-count
returns-in-Some-Link-clause-count c = λ sub given.
    none_past_link (get sub.inodes c.args.ino.0) c.args.size (sym (ap (λ (k : Kind). Some k) c.in-Some-Link.field-0-is) ∙ c.in-Some-Link.ensures sub given)

pub returns-in-None-clause-count : goal.returns-in-None-clause-count
returns-in-None-clause-count c = λ sub given. none_past_none (get sub.inodes c.args.ino.0) c.args.size (c.in-None.ensures sub given)
