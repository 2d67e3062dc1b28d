use Rattle.std.proofs.Common.{◌∙◌}
use Rattle.leaf_view.specs.Listed.{pointers_in}
use Rattle.node_edit.proofs.Edits.{appended}
use Rattle.node_edit.proofs.body.append_pointers.Goals as goal

pub returns : goal.returns
returns c =
    appended c.args.block.now c.args.source.now c.put_bytes.new.bytes c.put_u32.new.bytes (pointers_in c.args.block.now) (pointers_in c.args.source.now) c.args.from c.count_of-count.result c.count_of-end.result
    c.requires.known c.requires.source (c.count_of-count.ensures ∙ c.requires.known.count) (c.count_of-end.ensures ∙ c.requires.source.count) c.requires.within c.requires.room c.requires.order c.put_bytes.ensures c.put_u32.ensures
