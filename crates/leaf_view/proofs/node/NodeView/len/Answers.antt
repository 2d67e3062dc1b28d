use Rattle.std.proofs.Common.{◌∙◌, arith}
use Rattle.leaf_view.proofs.NodeLaws.{body_of_view}
use Rattle.leaf_view.proofs.node.NodeView.len.Goals as goal

pub returns-clause-value : goal.returns-clause-value
returns-clause-value c = let body = body_of_view c.self.inside.block.now c.args.self.now c.self.invariant c.self.view_is in c.count_of.ensures ∙ body.count

pub returns-clause-least : goal.returns-clause-least
returns-clause-least c = let body = body_of_view c.self.inside.block.now c.args.self.now c.self.invariant c.self.view_is in omega arith

pub returns-clause-most : goal.returns-clause-most
returns-clause-most c = let body = body_of_view c.self.inside.block.now c.args.self.now c.self.invariant c.self.view_is in omega arith
