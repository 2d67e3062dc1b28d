use Rattle.std.proofs.Common.{arith, ap, sym, ◌∙◌, Some}
use Rattle.leaf_view.proofs.Views.{body_of_view, key_in}
use Rattle.leaf_view.proofs.leaf.LeafView.key.Goals as goal

pub overflow_mul-i : goal.overflow_mul-i
overflow_mul-i c = let body = body_of_view c.self.inside.block.now c.args.self.now c.self.invariant c.self.view_is in omega arith

pub overflow_add-i : goal.overflow_add-i
overflow_add-i c = let body = body_of_view c.self.inside.block.now c.args.self.now c.self.invariant c.self.view_is in omega arith

pub key_at-requires : goal.key_at-requires
key_at-requires c = let body = body_of_view c.self.inside.block.now c.args.self.now c.self.invariant c.self.view_is in omega arith

pub returns : goal.returns
returns c =
    let body = body_of_view c.self.inside.block.now c.args.self.now c.self.invariant c.self.view_is in
    key_in c.self.inside.block.now c.args.self.now c.args.i body c.requires ∙ ap (λ key. Some key) (sym c.key_at.ensures)
