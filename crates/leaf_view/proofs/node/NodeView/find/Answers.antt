use Rattle.std.proofs.Common.{arith, ◌∙◌, sym}
use Rattle.std.proofs.lemmas.List.{length-map}
use Rattle.blk_base.specs.Keys.{key_at}
use Rattle.blk_base.specs.Leaf.{pointer_at}
use Rattle.leaf_view.specs.Search.{pointer_keys}
use Rattle.leaf_view.proofs.NodeLaws.{body_of_view, key_in, rising}
use Rattle.leaf_view.proofs.Views.{found_in, absent_in}
use Rattle.leaf_view.proofs.node.NodeView.find.Goals as goal

pub find_key-requires-clause-rise : goal.find_key-requires-clause-rise
find_key-requires-clause-rise c =
    let body = body_of_view c.self.inside.block.now c.args.self.now c.self.invariant c.self.view_is in
    rising c.self.inside.block.now c.args.self.now c.len.result body c.len.ensures.value

pub returns-clause-found : goal.returns-clause-found
returns-clause-found c =
    let bytes = c.self.inside.block.now in
    let pointers = c.args.self.now in
    let body = body_of_view c.self.inside.block.now c.args.self.now c.self.invariant c.self.view_is in
    found_in (pointer_keys pointers) (λ i. key_at bytes (pointer_at i)) c.len.result c.args.key.now c.find_key.result (λ i within. key_in bytes pointers i body (omega (arith, c.len.ensures.value))) c.find_key.ensures.inside c.find_key.ensures.found

pub returns-clause-absent : goal.returns-clause-absent
returns-clause-absent c =
    let bytes = c.self.inside.block.now in
    let pointers = c.args.self.now in
    let body = body_of_view c.self.inside.block.now c.args.self.now c.self.invariant c.self.view_is in
    absent_in (pointer_keys pointers) (λ i. key_at bytes (pointer_at i)) c.len.result c.args.key.now c.find_key.result (length-map pointers _ ∙ sym c.len.ensures.value) (λ i within. key_in bytes pointers i body (omega (arith, c.len.ensures.value))) c.find_key.ensures.absent
