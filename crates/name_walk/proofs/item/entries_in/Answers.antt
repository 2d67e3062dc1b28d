use Rattle.std.proofs.Common.{◌≡◌, Ok, sym, ◌∙◌}
use Rattle.blk_base.specs.Entries.{EntryValue}
use Rattle.blk_base.specs.Keys.{dir_item}
use Rattle.blk_base.specs.Name.{IsName}
use Rattle.item_laws.specs.Directories.{entries_from, entries_to}
use Rattle.name_walk.proofs.Reading.{all_of, are_bytes}
use Rattle.name_walk.proofs.item.entries_in.Goals as goal

pub returns-in-Ok-clause-spelled : goal.returns-in-Ok-clause-spelled
returns-in-Ok-clause-spelled c = λ found is. let e : Ok c.in-Ok.entries ≡ Ok found = c.in-Ok.ensures ∙ entries_to dir_item c.args.bytes.now found is in cc

pub returns-in-Ok-clause-names : goal.returns-in-Ok-clause-names
returns-in-Ok-clause-names c =
    all_of (λ (e : EntryValue). IsName e.name) c.in-Ok.entries (entries_from dir_item c.args.bytes.now c.in-Ok.entries (are_bytes c.args.bytes.now c.type_inv.bytes) (sym c.in-Ok.ensures)).names

pub returns-in-Err-clause-spelled : goal.returns-in-Err-clause-spelled
returns-in-Err-clause-spelled c = λ found is. let e = c.in-Err.ensures ∙ entries_to dir_item c.args.bytes.now found is in absurd cc
