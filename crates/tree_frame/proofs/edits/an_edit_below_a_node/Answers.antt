use Rattle.std.specs.Prelude.{◌∷◌}
use Rattle.tree_frame.proofs.Among.{alike_left, alike_right, edit_among, once_among}
use Rattle.tree_frame.proofs.edits.an_edit_below_a_node.Goals as goal

pub returns-clause-edit : goal.returns-clause-edit
returns-clause-edit c = λ old new node lefts before after rights edit once taken. edit_among old new (node ∷ lefts) before after rights edit once taken

pub returns-clause-once : goal.returns-clause-once
returns-clause-once c = λ old new node lefts before after rights edit once taken after_once. once_among old new (node ∷ lefts) before after rights edit once taken after_once

pub returns-clause-lefts : goal.returns-clause-lefts
returns-clause-lefts c = λ old new node lefts before after rights edit once taken. alike_left old new (node ∷ lefts) before after rights edit once taken

pub returns-clause-rights : goal.returns-clause-rights
returns-clause-rights c = λ old new node lefts before after rights edit once taken. alike_right old new (node ∷ lefts) before after rights edit once taken
