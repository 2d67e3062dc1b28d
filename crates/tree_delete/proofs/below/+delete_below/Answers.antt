use Rattle.std.proofs.Common.{◌≡◌, ◌⊎◌, ◌≤◌, ◌<◌, ◌+◌, ◌-◌, ◌*◌, ◌++◌, ℕ, suc, List, [], ◌∷◌, length, Some, ap, ◌∙◌, sym, subst, arith}
use Rattle.std.specs.Prelude.{insert, remove}
use Rattle.blk_base.specs.Leaf.{Pointer}
use Rattle.blk_base.specs.Trees.{first_key}
use Rattle.block_table.specs.TreeIn.{block_at}
use Rattle.leaf_view.specs.Search.{IsPlace, pointer_keys}
use Rattle.tree_blocks.specs.Steps.{node_at}
use Rattle.tree_blocks.proofs.Listing.{node_from_ok}
use Rattle.tree_range.specs.Shape.{items_below, node_pointers}
use Rattle.tree_delete.specs.Rows.{HasItemBelow, IsLessNode}
use Rattle.tree_delete.specs.Steps.{HasPair, IsRepaired}
use Rattle.tree_delete.proofs.Blocks.{node_same}
use Rattle.tree_delete.proofs.Deleting.{IsTurn, aimed, child_below, child_less, less_first, node_first, turn_inside, turn_inserted, turn_least, turn_node, turn_order}
use Rattle.tree_delete.proofs.Pairs.{node_some}
use Rattle.tree_delete.proofs.Thin.{IsChanged, changed_full, changed_inside, changed_kid, changed_least, changed_repaired, changed_thin, thin_pairs}
use Rattle.tree_delete.proofs.below.+delete_below.Goals as goal

pub child_place-place-requires : goal.child_place-place-requires
child_place-place-requires t c =
    node_first c.args.level c.args.table.now c.args.at.0 c.args.key.now c.requires.below

pub node_child-requires-clause-node : goal.node_child-requires-clause-node
node_child-requires-clause-node t c =
    (node_first c.args.level c.args.table.now c.args.at.0 c.args.key.now c.requires.below).body

pub delete_below-child-requires : goal.delete_below-child-requires
delete_below-child-requires t c =
    let old = c.args.table.now in
    let at = c.args.at.0 in
    let key = c.args.key.now in
    let level = c.args.level - 1 in
    let one : c.args.level ≡ suc level = omega (arith, c.if-level-eq0.false) in
    let below = subst (λ (n : ℕ). HasItemBelow n old at key) one c.requires.below in
    let place = c.child_place-place.result in
    let aim = aimed (suc level) old at key place c.node_child.result.0.0 c.node_child.result.1 below c.child_place-place.ensures c.node_child.ensures in
    let p : Pointer = record { key = aim.first; at = c.node_child.result.0.0; generation = aim.generation } in
    let smaller : level < t = omega (arith, c.if-level-eq0.false) in
    (smaller, (child_below level old at key aim.lefts p aim.rights aim.way, (omega (arith, c.requires.spare, one), omega (arith, c.requires.free, one))))

pub node_key-first-requires-clause-node : goal.node_key-first-requires-clause-node
node_key-first-requires-clause-node t c =
    let old = c.args.table.now in
    let at = c.args.at.0 in
    let key = c.args.key.now in
    let level = c.args.level - 1 in
    let one : c.args.level ≡ suc level = omega (arith, c.if-level-eq0.false) in
    let below = subst (λ (n : ℕ). HasItemBelow n old at key) one c.requires.below in
    let place = c.child_place-place.result in
    let aim = aimed (suc level) old at key place c.node_child.result.0.0 c.node_child.result.1 below c.child_place-place.ensures c.node_child.ensures in
    let p : Pointer = record { key = aim.first; at = c.node_child.result.0.0; generation = aim.generation } in
    let mid = c.delete_below-child.new.table in
    let less : IsLessNode level old mid c.node_child.result.0.0 c.delete_below-child.result.0 key = c.delete_below-child.ensures in
    node_from_ok (block_at mid c.delete_below-child.result.0).bytes less.shape.body

pub node_key-first-requires-clause-within : goal.node_key-first-requires-clause-within
node_key-first-requires-clause-within t c =
    let old = c.args.table.now in
    let at = c.args.at.0 in
    let key = c.args.key.now in
    let level = c.args.level - 1 in
    let one : c.args.level ≡ suc level = omega (arith, c.if-level-eq0.false) in
    let below = subst (λ (n : ℕ). HasItemBelow n old at key) one c.requires.below in
    let place = c.child_place-place.result in
    let aim = aimed (suc level) old at key place c.node_child.result.0.0 c.node_child.result.1 below c.child_place-place.ensures c.node_child.ensures in
    let p : Pointer = record { key = aim.first; at = c.node_child.result.0.0; generation = aim.generation } in
    let mid = c.delete_below-child.new.table in
    let less : IsLessNode level old mid c.node_child.result.0.0 c.delete_below-child.result.0 key = c.delete_below-child.ensures in
    omega (arith, node_some mid c.delete_below-child.result.0 (node_from_ok (block_at mid c.delete_below-child.result.0).bytes less.shape.body))

pub change_child-copy-requires-clause-node : goal.change_child-copy-requires-clause-node
change_child-copy-requires-clause-node t c =
    let old = c.args.table.now in
    let at = c.args.at.0 in
    let key = c.args.key.now in
    let level = c.args.level - 1 in
    let one : c.args.level ≡ suc level = omega (arith, c.if-level-eq0.false) in
    let below = subst (λ (n : ℕ). HasItemBelow n old at key) one c.requires.below in
    let place = c.child_place-place.result in
    let aim = aimed (suc level) old at key place c.node_child.result.0.0 c.node_child.result.1 below c.child_place-place.ensures c.node_child.ensures in
    let p : Pointer = record { key = aim.first; at = c.node_child.result.0.0; generation = aim.generation } in
    let mid = c.delete_below-child.new.table in
    let less : IsLessNode level old mid c.node_child.result.0.0 c.delete_below-child.result.0 key = c.delete_below-child.ensures in
    let q : Pointer = record { key = c.node_key-first.result; at = c.delete_below-child.result.0; generation = 0 } in
    let turn : IsTurn (suc level) old mid at key aim.lefts p aim.rights (q ∷ []) = record { below = below; way = aim.way; done = child_less level old mid key p q less } in
    let first : first_key (items_below (suc level) mid q.at) ≡ Some q.key = less_first level old mid p.at q.at key q.key less c.node_key-first.ensures in
    turn_node (suc level) old mid at key aim.lefts p aim.rights (q ∷ []) turn

pub change_child-copy-requires-clause-within : goal.change_child-copy-requires-clause-within
change_child-copy-requires-clause-within t c =
    let old = c.args.table.now in
    let at = c.args.at.0 in
    let key = c.args.key.now in
    let level = c.args.level - 1 in
    let one : c.args.level ≡ suc level = omega (arith, c.if-level-eq0.false) in
    let below = subst (λ (n : ℕ). HasItemBelow n old at key) one c.requires.below in
    let place = c.child_place-place.result in
    let aim = aimed (suc level) old at key place c.node_child.result.0.0 c.node_child.result.1 below c.child_place-place.ensures c.node_child.ensures in
    let p : Pointer = record { key = aim.first; at = c.node_child.result.0.0; generation = aim.generation } in
    let mid = c.delete_below-child.new.table in
    let less : IsLessNode level old mid c.node_child.result.0.0 c.delete_below-child.result.0 key = c.delete_below-child.ensures in
    let q : Pointer = record { key = c.node_key-first.result; at = c.delete_below-child.result.0; generation = 0 } in
    let turn : IsTurn (suc level) old mid at key aim.lefts p aim.rights (q ∷ []) = record { below = below; way = aim.way; done = child_less level old mid key p q less } in
    let first : first_key (items_below (suc level) mid q.at) ≡ Some q.key = less_first level old mid p.at q.at key q.key less c.node_key-first.ensures in
    omega (arith, turn_inside (suc level) old mid at key aim.lefts p aim.rights (q ∷ []) turn, aim.long)

pub change_child-copy-requires-clause-least : goal.change_child-copy-requires-clause-least
change_child-copy-requires-clause-least t c =
    let old = c.args.table.now in
    let at = c.args.at.0 in
    let key = c.args.key.now in
    let level = c.args.level - 1 in
    let one : c.args.level ≡ suc level = omega (arith, c.if-level-eq0.false) in
    let below = subst (λ (n : ℕ). HasItemBelow n old at key) one c.requires.below in
    let place = c.child_place-place.result in
    let aim = aimed (suc level) old at key place c.node_child.result.0.0 c.node_child.result.1 below c.child_place-place.ensures c.node_child.ensures in
    let p : Pointer = record { key = aim.first; at = c.node_child.result.0.0; generation = aim.generation } in
    let mid = c.delete_below-child.new.table in
    let less : IsLessNode level old mid c.node_child.result.0.0 c.delete_below-child.result.0 key = c.delete_below-child.ensures in
    let q : Pointer = record { key = c.node_key-first.result; at = c.delete_below-child.result.0; generation = 0 } in
    let turn : IsTurn (suc level) old mid at key aim.lefts p aim.rights (q ∷ []) = record { below = below; way = aim.way; done = child_less level old mid key p q less } in
    let first : first_key (items_below (suc level) mid q.at) ≡ Some q.key = less_first level old mid p.at q.at key q.key less c.node_key-first.ensures in
    turn_least (suc level) old mid at key aim.lefts p aim.rights (q ∷ []) turn

pub change_child-copy-requires-clause-order : goal.change_child-copy-requires-clause-order
change_child-copy-requires-clause-order t c =
    let old = c.args.table.now in
    let at = c.args.at.0 in
    let key = c.args.key.now in
    let level = c.args.level - 1 in
    let one : c.args.level ≡ suc level = omega (arith, c.if-level-eq0.false) in
    let below = subst (λ (n : ℕ). HasItemBelow n old at key) one c.requires.below in
    let place = c.child_place-place.result in
    let aim = aimed (suc level) old at key place c.node_child.result.0.0 c.node_child.result.1 below c.child_place-place.ensures c.node_child.ensures in
    let p : Pointer = record { key = aim.first; at = c.node_child.result.0.0; generation = aim.generation } in
    let mid = c.delete_below-child.new.table in
    let less : IsLessNode level old mid c.node_child.result.0.0 c.delete_below-child.result.0 key = c.delete_below-child.ensures in
    let q : Pointer = record { key = c.node_key-first.result; at = c.delete_below-child.result.0; generation = 0 } in
    let turn : IsTurn (suc level) old mid at key aim.lefts p aim.rights (q ∷ []) = record { below = below; way = aim.way; done = child_less level old mid key p q less } in
    let first : first_key (items_below (suc level) mid q.at) ≡ Some q.key = less_first level old mid p.at q.at key q.key less c.node_key-first.ensures in
    subst (λ (n : ℕ). IsPlace (pointer_keys (remove (node_at mid at) n)) q.key n) aim.long (turn_order (suc level) old mid at key aim.lefts p aim.rights q turn first)

pub node_len-requires-clause-taken : goal.node_len-requires-clause-taken
node_len-requires-clause-taken t c =
    let old = c.args.table.now in
    let at = c.args.at.0 in
    let key = c.args.key.now in
    let level = c.args.level - 1 in
    let one : c.args.level ≡ suc level = omega (arith, c.if-level-eq0.false) in
    let below = subst (λ (n : ℕ). HasItemBelow n old at key) one c.requires.below in
    let place = c.child_place-place.result in
    let aim = aimed (suc level) old at key place c.node_child.result.0.0 c.node_child.result.1 below c.child_place-place.ensures c.node_child.ensures in
    let p : Pointer = record { key = aim.first; at = c.node_child.result.0.0; generation = aim.generation } in
    let mid = c.delete_below-child.new.table in
    let less : IsLessNode level old mid c.node_child.result.0.0 c.delete_below-child.result.0 key = c.delete_below-child.ensures in
    let q : Pointer = record { key = c.node_key-first.result; at = c.delete_below-child.result.0; generation = 0 } in
    let turn : IsTurn (suc level) old mid at key aim.lefts p aim.rights (q ∷ []) = record { below = below; way = aim.way; done = child_less level old mid key p q less } in
    let first : first_key (items_below (suc level) mid q.at) ≡ Some q.key = less_first level old mid p.at q.at key q.key less c.node_key-first.ensures in
    let new = c.change_child-copy.new.table in
    let result = c.change_child-copy.result.0 in
    let pointers : node_at new result ≡ aim.lefts ++ q ∷ aim.rights = c.change_child-copy.ensures.pointers ∙ ap (λ (n : ℕ). insert (remove (node_at mid at) n) n q) (sym aim.long) ∙ turn_inserted (suc level) old mid at key aim.lefts p aim.rights (q ∷ []) turn q in
    let changed : IsChanged level old mid new at result key aim.lefts p aim.rights q = record { turn = turn; less = less; first = first; edit = c.change_child-copy.ensures.edit; node = c.change_child-copy.ensures.node; allowed = c.change_child-copy.ensures.allowed; pointers = pointers } in
    (changed_kid level old mid new at result key aim.lefts p aim.rights q changed).over.taken.taken

pub node_len-requires-clause-node : goal.node_len-requires-clause-node
node_len-requires-clause-node t c =
    let old = c.args.table.now in
    let at = c.args.at.0 in
    let key = c.args.key.now in
    let level = c.args.level - 1 in
    let one : c.args.level ≡ suc level = omega (arith, c.if-level-eq0.false) in
    let below = subst (λ (n : ℕ). HasItemBelow n old at key) one c.requires.below in
    let place = c.child_place-place.result in
    let aim = aimed (suc level) old at key place c.node_child.result.0.0 c.node_child.result.1 below c.child_place-place.ensures c.node_child.ensures in
    let p : Pointer = record { key = aim.first; at = c.node_child.result.0.0; generation = aim.generation } in
    let mid = c.delete_below-child.new.table in
    let less : IsLessNode level old mid c.node_child.result.0.0 c.delete_below-child.result.0 key = c.delete_below-child.ensures in
    let q : Pointer = record { key = c.node_key-first.result; at = c.delete_below-child.result.0; generation = 0 } in
    let turn : IsTurn (suc level) old mid at key aim.lefts p aim.rights (q ∷ []) = record { below = below; way = aim.way; done = child_less level old mid key p q less } in
    let first : first_key (items_below (suc level) mid q.at) ≡ Some q.key = less_first level old mid p.at q.at key q.key less c.node_key-first.ensures in
    let new = c.change_child-copy.new.table in
    let result = c.change_child-copy.result.0 in
    let pointers : node_at new result ≡ aim.lefts ++ q ∷ aim.rights = c.change_child-copy.ensures.pointers ∙ ap (λ (n : ℕ). insert (remove (node_at mid at) n) n q) (sym aim.long) ∙ turn_inserted (suc level) old mid at key aim.lefts p aim.rights (q ∷ []) turn q in
    let changed : IsChanged level old mid new at result key aim.lefts p aim.rights q = record { turn = turn; less = less; first = first; edit = c.change_child-copy.ensures.edit; node = c.change_child-copy.ensures.node; allowed = c.change_child-copy.ensures.allowed; pointers = pointers } in
    node_from_ok (block_at new q.at).bytes (changed_kid level old mid new at result key aim.lefts p aim.rights q changed).over.body

pub returns-then-node_len-ge-LEAST_POINTERS : goal.returns-then-node_len-ge-LEAST_POINTERS
returns-then-node_len-ge-LEAST_POINTERS t c =
    let old = c.args.table.now in
    let at = c.args.at.0 in
    let key = c.args.key.now in
    let level = c.args.level - 1 in
    let one : c.args.level ≡ suc level = omega (arith, c.if-level-eq0.false) in
    let below = subst (λ (n : ℕ). HasItemBelow n old at key) one c.requires.below in
    let place = c.child_place-place.result in
    let aim = aimed (suc level) old at key place c.node_child.result.0.0 c.node_child.result.1 below c.child_place-place.ensures c.node_child.ensures in
    let p : Pointer = record { key = aim.first; at = c.node_child.result.0.0; generation = aim.generation } in
    let mid = c.delete_below-child.new.table in
    let less : IsLessNode level old mid c.node_child.result.0.0 c.delete_below-child.result.0 key = c.delete_below-child.ensures in
    let q : Pointer = record { key = c.node_key-first.result; at = c.delete_below-child.result.0; generation = 0 } in
    let turn : IsTurn (suc level) old mid at key aim.lefts p aim.rights (q ∷ []) = record { below = below; way = aim.way; done = child_less level old mid key p q less } in
    let first : first_key (items_below (suc level) mid q.at) ≡ Some q.key = less_first level old mid p.at q.at key q.key less c.node_key-first.ensures in
    let new = c.change_child-copy.new.table in
    let result = c.change_child-copy.result.0 in
    let pointers : node_at new result ≡ aim.lefts ++ q ∷ aim.rights = c.change_child-copy.ensures.pointers ∙ ap (λ (n : ℕ). insert (remove (node_at mid at) n) n q) (sym aim.long) ∙ turn_inserted (suc level) old mid at key aim.lefts p aim.rights (q ∷ []) turn q in
    let changed : IsChanged level old mid new at result key aim.lefts p aim.rights q = record { turn = turn; less = less; first = first; edit = c.change_child-copy.ensures.edit; node = c.change_child-copy.ensures.node; allowed = c.change_child-copy.ensures.allowed; pointers = pointers } in
    let full : 30 ≤ length (node_pointers new q.at) = omega (arith, c.node_len.ensures.value, c.if-node_len-ge-LEAST_POINTERS.true, ap (λ (l : List Pointer). length l) (node_same new q.at)) in
    subst (λ (n : ℕ). IsLessNode n old new at result key) (sym one) (changed_full level old mid new at result key aim.lefts p aim.rights q changed (2 * level + 2) less.blocks c.change_child-copy.ensures.blocks (omega arith) c.change_child-copy.ensures.balance full)

pub repair-requires-clause-within : goal.repair-requires-clause-within
repair-requires-clause-within t c =
    let old = c.args.table.now in
    let at = c.args.at.0 in
    let key = c.args.key.now in
    let level = c.args.level - 1 in
    let one : c.args.level ≡ suc level = omega (arith, c.if-level-eq0.false) in
    let below = subst (λ (n : ℕ). HasItemBelow n old at key) one c.requires.below in
    let place = c.child_place-place.result in
    let aim = aimed (suc level) old at key place c.node_child.result.0.0 c.node_child.result.1 below c.child_place-place.ensures c.node_child.ensures in
    let p : Pointer = record { key = aim.first; at = c.node_child.result.0.0; generation = aim.generation } in
    let mid = c.delete_below-child.new.table in
    let less : IsLessNode level old mid c.node_child.result.0.0 c.delete_below-child.result.0 key = c.delete_below-child.ensures in
    let q : Pointer = record { key = c.node_key-first.result; at = c.delete_below-child.result.0; generation = 0 } in
    let turn : IsTurn (suc level) old mid at key aim.lefts p aim.rights (q ∷ []) = record { below = below; way = aim.way; done = child_less level old mid key p q less } in
    let first : first_key (items_below (suc level) mid q.at) ≡ Some q.key = less_first level old mid p.at q.at key q.key less c.node_key-first.ensures in
    let new = c.change_child-copy.new.table in
    let result = c.change_child-copy.result.0 in
    let pointers : node_at new result ≡ aim.lefts ++ q ∷ aim.rights = c.change_child-copy.ensures.pointers ∙ ap (λ (n : ℕ). insert (remove (node_at mid at) n) n q) (sym aim.long) ∙ turn_inserted (suc level) old mid at key aim.lefts p aim.rights (q ∷ []) turn q in
    let changed : IsChanged level old mid new at result key aim.lefts p aim.rights q = record { turn = turn; less = less; first = first; edit = c.change_child-copy.ensures.edit; node = c.change_child-copy.ensures.node; allowed = c.change_child-copy.ensures.allowed; pointers = pointers } in
    omega (arith, changed_inside level old mid new at result key aim.lefts p aim.rights q changed, aim.long)

pub repair-requires-clause-least : goal.repair-requires-clause-least
repair-requires-clause-least t c =
    let old = c.args.table.now in
    let at = c.args.at.0 in
    let key = c.args.key.now in
    let level = c.args.level - 1 in
    let one : c.args.level ≡ suc level = omega (arith, c.if-level-eq0.false) in
    let below = subst (λ (n : ℕ). HasItemBelow n old at key) one c.requires.below in
    let place = c.child_place-place.result in
    let aim = aimed (suc level) old at key place c.node_child.result.0.0 c.node_child.result.1 below c.child_place-place.ensures c.node_child.ensures in
    let p : Pointer = record { key = aim.first; at = c.node_child.result.0.0; generation = aim.generation } in
    let mid = c.delete_below-child.new.table in
    let less : IsLessNode level old mid c.node_child.result.0.0 c.delete_below-child.result.0 key = c.delete_below-child.ensures in
    let q : Pointer = record { key = c.node_key-first.result; at = c.delete_below-child.result.0; generation = 0 } in
    let turn : IsTurn (suc level) old mid at key aim.lefts p aim.rights (q ∷ []) = record { below = below; way = aim.way; done = child_less level old mid key p q less } in
    let first : first_key (items_below (suc level) mid q.at) ≡ Some q.key = less_first level old mid p.at q.at key q.key less c.node_key-first.ensures in
    let new = c.change_child-copy.new.table in
    let result = c.change_child-copy.result.0 in
    let pointers : node_at new result ≡ aim.lefts ++ q ∷ aim.rights = c.change_child-copy.ensures.pointers ∙ ap (λ (n : ℕ). insert (remove (node_at mid at) n) n q) (sym aim.long) ∙ turn_inserted (suc level) old mid at key aim.lefts p aim.rights (q ∷ []) turn q in
    let changed : IsChanged level old mid new at result key aim.lefts p aim.rights q = record { turn = turn; less = less; first = first; edit = c.change_child-copy.ensures.edit; node = c.change_child-copy.ensures.node; allowed = c.change_child-copy.ensures.allowed; pointers = pointers } in
    changed_least level old mid new at result key aim.lefts p aim.rights q changed

pub repair-requires-clause-pairs : goal.repair-requires-clause-pairs
repair-requires-clause-pairs t c =
    let old = c.args.table.now in
    let at = c.args.at.0 in
    let key = c.args.key.now in
    let level = c.args.level - 1 in
    let one : c.args.level ≡ suc level = omega (arith, c.if-level-eq0.false) in
    let below = subst (λ (n : ℕ). HasItemBelow n old at key) one c.requires.below in
    let place = c.child_place-place.result in
    let aim = aimed (suc level) old at key place c.node_child.result.0.0 c.node_child.result.1 below c.child_place-place.ensures c.node_child.ensures in
    let p : Pointer = record { key = aim.first; at = c.node_child.result.0.0; generation = aim.generation } in
    let mid = c.delete_below-child.new.table in
    let less : IsLessNode level old mid c.node_child.result.0.0 c.delete_below-child.result.0 key = c.delete_below-child.ensures in
    let q : Pointer = record { key = c.node_key-first.result; at = c.delete_below-child.result.0; generation = 0 } in
    let turn : IsTurn (suc level) old mid at key aim.lefts p aim.rights (q ∷ []) = record { below = below; way = aim.way; done = child_less level old mid key p q less } in
    let first : first_key (items_below (suc level) mid q.at) ≡ Some q.key = less_first level old mid p.at q.at key q.key less c.node_key-first.ensures in
    let new = c.change_child-copy.new.table in
    let result = c.change_child-copy.result.0 in
    let pointers : node_at new result ≡ aim.lefts ++ q ∷ aim.rights = c.change_child-copy.ensures.pointers ∙ ap (λ (n : ℕ). insert (remove (node_at mid at) n) n q) (sym aim.long) ∙ turn_inserted (suc level) old mid at key aim.lefts p aim.rights (q ∷ []) turn q in
    let changed : IsChanged level old mid new at result key aim.lefts p aim.rights q = record { turn = turn; less = less; first = first; edit = c.change_child-copy.ensures.edit; node = c.change_child-copy.ensures.node; allowed = c.change_child-copy.ensures.allowed; pointers = pointers } in
    let few : length (node_pointers new q.at) ≤ 29 = omega (arith, c.node_len.ensures.value, c.if-node_len-ge-LEAST_POINTERS.false, ap (λ (l : List Pointer). length l) (node_same new q.at)) in
    let pairs = thin_pairs level new result aim.lefts q aim.rights (changed_thin level old mid new at result key aim.lefts p aim.rights q changed few) in
    subst (λ (n : ℕ). (left : ℕ) → (left ≡ n) ⊎ (left + 1 ≡ n) → left + 1 < length (node_at new result) → HasPair new result left) aim.long pairs

pub returns : goal.returns
returns t c =
    let old = c.args.table.now in
    let at = c.args.at.0 in
    let key = c.args.key.now in
    let level = c.args.level - 1 in
    let one : c.args.level ≡ suc level = omega (arith, c.if-level-eq0.false) in
    let below = subst (λ (n : ℕ). HasItemBelow n old at key) one c.requires.below in
    let place = c.child_place-place.result in
    let aim = aimed (suc level) old at key place c.node_child.result.0.0 c.node_child.result.1 below c.child_place-place.ensures c.node_child.ensures in
    let p : Pointer = record { key = aim.first; at = c.node_child.result.0.0; generation = aim.generation } in
    let mid = c.delete_below-child.new.table in
    let less : IsLessNode level old mid c.node_child.result.0.0 c.delete_below-child.result.0 key = c.delete_below-child.ensures in
    let q : Pointer = record { key = c.node_key-first.result; at = c.delete_below-child.result.0; generation = 0 } in
    let turn : IsTurn (suc level) old mid at key aim.lefts p aim.rights (q ∷ []) = record { below = below; way = aim.way; done = child_less level old mid key p q less } in
    let first : first_key (items_below (suc level) mid q.at) ≡ Some q.key = less_first level old mid p.at q.at key q.key less c.node_key-first.ensures in
    let new = c.change_child-copy.new.table in
    let result = c.change_child-copy.result.0 in
    let pointers : node_at new result ≡ aim.lefts ++ q ∷ aim.rights = c.change_child-copy.ensures.pointers ∙ ap (λ (n : ℕ). insert (remove (node_at mid at) n) n q) (sym aim.long) ∙ turn_inserted (suc level) old mid at key aim.lefts p aim.rights (q ∷ []) turn q in
    let changed : IsChanged level old mid new at result key aim.lefts p aim.rights q = record { turn = turn; less = less; first = first; edit = c.change_child-copy.ensures.edit; node = c.change_child-copy.ensures.node; allowed = c.change_child-copy.ensures.allowed; pointers = pointers } in
    let few : length (node_pointers new q.at) ≤ 29 = omega (arith, c.node_len.ensures.value, c.if-node_len-ge-LEAST_POINTERS.false, ap (λ (l : List Pointer). length l) (node_same new q.at)) in
    let r : IsRepaired new c.repair.new.table result (length aim.lefts) = subst (λ (n : ℕ). IsRepaired new c.repair.new.table result n) (sym aim.long) c.repair.ensures in
    subst (λ (n : ℕ). IsLessNode n old c.repair.new.table at result key) (sym one) (changed_repaired level old mid new at result key aim.lefts p aim.rights q changed c.repair.new.table (2 * level + 2) less.blocks c.change_child-copy.ensures.blocks (omega arith) c.change_child-copy.ensures.balance few r)
