use Rattle.std.proofs.Common.{◌≡◌, ℕ, arith, ap, sym, ◌∙◌, Some, Option}
use Rattle.leaf_view.proofs.NodeLaws.{body_of_view, child_in}
use Rattle.leaf_view.proofs.node.NodeView.child.Goals as goal

pub overflow_mul-i : goal.overflow_mul-i
overflow_mul-i c = let body = body_of_view c.self.inside.block.now c.args.self.now c.self.invariant c.self.view_is in omega arith

pub overflow_add-i : goal.overflow_add-i
overflow_add-i c = let body = body_of_view c.self.inside.block.now c.args.self.now c.self.invariant c.self.view_is in omega arith

pub child_at-requires : goal.child_at-requires
child_at-requires c = let body = body_of_view c.self.inside.block.now c.args.self.now c.self.invariant c.self.view_is in omega arith

joined : (x y a b : ℕ) → a ≡ x → b ≡ y → ◌≡◌ {A = Option (ℕ × ℕ)} (Some (x, y)) (Some (a, b))
joined x y a b p q = ap (λ n. Some (n, y)) (sym p) ∙ ap (λ n. Some (a, n)) (sym q)

pub returns : goal.returns
returns c =
    let body = body_of_view c.self.inside.block.now c.args.self.now c.self.invariant c.self.view_is in
    child_in c.self.inside.block.now c.args.self.now c.args.i body c.requires ∙ joined _ _ c.child_at.result.0.0 c.child_at.result.1 c.child_at.ensures.address c.child_at.ensures.generation
