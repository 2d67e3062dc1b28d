use Rattle.std.proofs.Common.{◌≡◌, ◌∙◌, Ok, not, nat_eq, sym, ap}
use Rattle.blk_base.specs.Items.{InodeValue}
use Rattle.format_laws.specs.Items.{inode_of-Ok}
use Rattle.item_inode.specs.Inode.{answer_view, inode_view}
use Rattle.log_items.proofs.item.has_generation.Goals as goal

pub returns-in-Ok : goal.returns-in-Ok
returns-in-Ok c = λ value is.
    let same : Ok (inode_view c.in-Ok.item) ≡ Ok value = sym (ap answer_view c.in-Ok.is) ∙ c.decode.ensures ∙ inode_of-Ok c.args.bytes.now value is in
    let said : inode_view c.in-Ok.item ≡ value = cc in
    ap (λ (v : InodeValue). not (nat_eq v.generation 0)) said

pub returns-in-Err : goal.returns-in-Err
returns-in-Err c = λ value is.
    let wrong = sym (ap answer_view c.in-Err.is) ∙ c.decode.ensures ∙ inode_of-Ok c.args.bytes.now value is in
    absurd cc
