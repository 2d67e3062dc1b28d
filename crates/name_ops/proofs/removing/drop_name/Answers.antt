use Rattle.std.proofs.Common.{◌≡◌, ◌≢◌, sym, ◌∙◌}
use Rattle.flat_model.specs.Names.{FlatName, links_of}
use Rattle.name_walk.specs.Given.{GivesCoherent}
use Rattle.name_items.specs.Names.{name_of}
use Rattle.name_ops.proofs.Dropping.{drop_may_inode, drop_may_remove, drop_not_root, drop_room, dropped_last, dropped_other}
use Rattle.name_ops.proofs.removing.drop_name.Goals as goal

pub remove_name-requires-clause-may : goal.remove_name-requires-clause-may
remove_name-requires-clause-may c =
    let g = c.requires.may in
    (g.0, g.1, drop_may_remove g.0 (name_of c.args.name.now) g.2)

pub remove_inode-requires-clause-may : goal.remove_inode-requires-clause-may
remove_inode-requires-clause-may c =
    let g = c.requires.may in
    let n : FlatName = name_of c.args.name.now in
    let given : GivesCoherent c.args.table.now c.args.sub.now.tree g.0 = record { gives = g.1; coherent = g.2.coherent } in
    let one : links_of g.0.names n.ino ≡ 1 = sym (c.links-is_last.ensures g.0 given (drop_not_root g.0 n g.2)) ∙ c.if-is_last.true in
    let first = c.remove_name.ensures.made g.0 g.1 (drop_may_remove g.0 n g.2) in
    (_, first.gives, drop_may_inode g.0 n g.2 one, drop_room g.0 n g.2 c.args.table.now c.remove_name.new.table c.args.sub.now c.remove_name.new.sub first one g.3)

pub remove_inode-requires-clause-current : goal.remove_inode-requires-clause-current
remove_inode-requires-clause-current c =
    let g = c.requires.may in
    (c.remove_name.ensures.made g.0 g.1 (drop_may_remove g.0 (name_of c.args.name.now) g.2)).edit.current

pub returns-then-is_last-clause-made : goal.returns-then-is_last-clause-made
returns-then-is_last-clause-made c = λ s gives may.
    let n : FlatName = name_of c.args.name.now in
    let given : GivesCoherent c.args.table.now c.args.sub.now.tree s = record { gives = gives; coherent = may.coherent } in
    let one : links_of s.names n.ino ≡ 1 = sym (c.links-is_last.ensures s given (drop_not_root s n may)) ∙ c.if-is_last.true in
    let first = c.remove_name.ensures.made s gives (drop_may_remove s n may) in
    dropped_last s n may c.args.table.now c.remove_name.new.table c.args.sub.now c.remove_name.new.sub first c.remove_inode.new.table c.remove_inode.new.sub one
    (c.remove_inode.ensures.made _ first.gives (drop_may_inode s n may one))

pub returns-else-is_last-clause-made : goal.returns-else-is_last-clause-made
returns-else-is_last-clause-made c = λ s gives may.
    let n : FlatName = name_of c.args.name.now in
    let given : GivesCoherent c.args.table.now c.args.sub.now.tree s = record { gives = gives; coherent = may.coherent } in
    let more : links_of s.names n.ino ≢ 1 = λ one. c.if-is_last.false (c.links-is_last.ensures s given (drop_not_root s n may) ∙ one) in
    let first = c.remove_name.ensures.made s gives (drop_may_remove s n may) in
    dropped_other s n may c.args.table.now c.remove_name.new.table c.args.sub.now c.remove_name.new.sub first more
