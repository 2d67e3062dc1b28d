use Rattle.std.proofs.Common.{◌≡◌, ℕ, Option, Some, None, sym, subst}
use Rattle.std.specs.Prelude.{MatchOption}
use Rattle.std.specs.FinMap.{get}
use Rattle.std.specs.Option.{option_map}
use Rattle.blk_base.specs.Items.{InodeValue}
use Rattle.flat_model.specs.Volume.{Subvolume}
use Rattle.item_inode.specs.declared.inode.InodeItem.{InodeItem}
use Rattle.item_inode.specs.Inode.{inode_view}
use Rattle.name_walk.specs.Given.{SaysInode}
use Rattle.name_walk.proofs.Reading.{inode_there, inode_nowhere}
use Rattle.name_walk.proofs.inode.inode_item.Goals as goal

says : (sub : Subvolume) (ino : ℕ) (item : Option InodeItem) (value : InodeValue) → option_map inode_view item ≡ Some value → SaysInode sub ino value
    → MatchOption item (get sub.inodes ino ≡ None) (λ item. SaysInode sub ino (inode_view item))
says sub ino None value is said = absurd cc
says sub ino (Some item) value is said = subst (λ (v : InodeValue). SaysInode sub ino v) (let e : value ≡ inode_view item = cc in e) said

pub returns-in-Some : goal.returns-in-Some
returns-in-Some c = λ sub given.
    let there = inode_there c.args.table.now c.args.tree.now sub given.gives c.args.ino c.in-Some.bytes.now (sym c.in-Some.ensures) in
    says sub c.args.ino c.inode_in.result there.2.value (c.inode_in.ensures there.2.value there.2.spelled)
    (record { inode = there.0; there = there.1; mode = there.2.mode; size = there.2.size; nlink = there.2.nlink })

pub returns-in-None : goal.returns-in-None
returns-in-None c = λ sub given. inode_nowhere c.args.table.now c.args.tree.now sub given.gives c.args.ino (sym c.in-None.ensures)
