use Rattle.std.proofs.Common.{arith, ap, sym, ◌∙◌, Some}
use Rattle.leaf_view.proofs.Views.{body_of_view, content_in}
use Rattle.leaf_view.proofs.leaf.LeafView.data.Goals as goal

pub item_data-requires-clause-most : goal.item_data-requires-clause-most
item_data-requires-clause-most c = let body = body_of_view c.self.inside.block.now c.args.self.now c.self.invariant c.self.view_is in omega arith

pub item_data-requires-clause-inside : goal.item_data-requires-clause-inside
item_data-requires-clause-inside c =
    let body = body_of_view c.self.inside.block.now c.args.self.now c.self.invariant c.self.view_is in
    body.inside c.args.i c.requires

pub returns : goal.returns
returns c =
    let body = body_of_view c.self.inside.block.now c.args.self.now c.self.invariant c.self.view_is in
    content_in c.self.inside.block.now c.args.self.now c.args.i body c.requires ∙ ap (λ bytes. Some bytes) (sym c.item_data.ensures)
