use Rattle.std.proofs.Common.{◌≡◌, ℕ, List, Result, Ok, Err, IsOk, ap, refl, ◌∙◌}
use Rattle.blk_base.specs.declared.fault.BlockFault.{BlockFault}
use Rattle.blk_base.specs.Leaf.{Item, leaf_body_of}
use Rattle.leaf_view.specs.Listed.{items_in}
use Rattle.leaf_view.proofs.LeafLaws.{leaf_body_listed}
use Rattle.leaf_view.proofs.leaf.LeafView.of_body.Goals as goal

-- a body that passes gives the items by its headers
given : (bytes : List ℕ) (r : Result (List Item) BlockFault) → leaf_body_of bytes ≡ r → IsOk r → leaf_body_of bytes ≡ Ok (items_in bytes)
given bytes (Ok items) is ok = is ∙ ap (λ list. Ok list) (leaf_body_listed bytes items is)
given bytes (Err fault) is ok = cc

pub invariant_of-result : goal.invariant_of-result
invariant_of-result c = given c.args.block.now (leaf_body_of c.args.block.now) refl c.requires

pub returns : goal.returns
returns c = given c.args.block.now (leaf_body_of c.args.block.now) refl c.requires
