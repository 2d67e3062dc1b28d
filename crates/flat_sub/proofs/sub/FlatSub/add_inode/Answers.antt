use Rattle.std.proofs.Common.{◌∙◌, ap}
use Rattle.std.specs.FinMap.{from_entries, insert}
use Rattle.flat_sub.specs.View.{names_view}
use Rattle.flat_sub.proofs.sub.FlatSub.add_inode.Goals as goal

pub returns-clause-ok : goal.returns-clause-ok
returns-clause-ok c =
    let before = c.args.self.now in
    let inodes = c.put_entry.ensures.map ∙ ap (λ es. insert (from_entries es) c.args.ino c.args.inode) c.reserve.ensures.items in
    λ i. record {
      sub = record { inodes = inodes i; names = names_view before.names.items before.near.items };
      numbers = record { last_ino = c.max-self.ensures i; last_index = before.last_index; dir_indexes = from_entries before.dir_indexes.items };
    }
