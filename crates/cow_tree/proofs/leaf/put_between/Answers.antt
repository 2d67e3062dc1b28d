use Rattle.std.proofs.Common.{◌≡◌, ◌++◌, [], ◌∷◌, ◌∙◌, List, length, take, drop, ap, refl, sym, subst, arith}
use Rattle.std.specs.Prelude.{insert}
use Rattle.std.proofs.lemmas.List.{length-drop}
use Rattle.blk_base.specs.declared.key.Addr.{Addr}
use Rattle.blk_base.specs.Leaf.{Item}
use Rattle.leaf_view.specs.Search.{IsPlace, keys_of}
use Rattle.tree_blocks.specs.Steps.{leaf_at}
use Rattle.cow_tree.proofs.Changes.{at_most_lists}
use Rattle.cow_tree.proofs.Leaves.{dirty_apart, insert_front, insert_last, kept_block, leaf_same, left_same, place_first, place_last, right_same, three_spread, two_spread, written_between, written_left, written_right}
use Rattle.cow_tree.proofs.Steps.{rewritten, split}
use Rattle.cow_tree.proofs.leaf.put_between.Goals as goal

pub leaf_insert-requires-clause-order : goal.leaf_insert-requires-clause-order
leaf_insert-requires-clause-order c =
    let items = leaf_at c.args.table.now c.args.at.0 in
    subst (λ (l : List Item). IsPlace (keys_of l) c.args.key c.args.place) (sym c.leaf_split-right.ensures.front) (place_last items c.args.key c.args.place c.requires.order (omega (arith, c.requires.before)))

pub leaf_piece-requires-then-bytes-leaf_room-clause-some :
    goal.leaf_piece-requires-then-bytes-leaf_room-clause-some
leaf_piece-requires-then-bytes-leaf_room-clause-some c =
    let old = c.args.table.now in
    let mid = c.leaf_split-right.new.table in
    let new = c.leaf_insert.new.table in
    let at = c.args.at.0 in
    let right = c.leaf_split-right.result.0 in
    let e = c.leaf_split-right.ensures in
    let put = c.leaf_insert.ensures in
    let s = split old mid at right c.requires.leaf.dirty e.kept e.taken e.others e.spare e.free in
    let apart = dirty_apart old at right c.requires.leaf.dirty e.taken.was_free in
    let same = right_same old mid new at right s apart e.leaf e.other_leaf (rewritten mid new at e.leaf.dirty put.kept put.others put.spare put.free) in
    omega (arith, ap length (leaf_same mid new right same ∙ e.back), length-drop c.args.place (leaf_at old at), c.requires.before)

pub returns-then-bytes-leaf_room : goal.returns-then-bytes-leaf_room
returns-then-bytes-leaf_room c =
    let old = c.args.table.now in
    let mid = c.leaf_split-right.new.table in
    let new = c.leaf_insert.new.table in
    let at = c.args.at.0 in
    let right = c.leaf_split-right.result.0 in
    let place = c.args.place in
    let e = c.leaf_split-right.ensures in
    let put = c.leaf_insert.ensures in
    let items = leaf_at old at in
    let item : Item = (c.args.key, c.args.bytes.now) in
    let s = split old mid at right c.requires.leaf.dirty e.kept e.taken e.others e.spare e.free in
    let apart = dirty_apart old at right c.requires.leaf.dirty e.taken.was_free in
    let r = rewritten mid new at e.leaf.dirty put.kept put.others put.spare put.free in
    let same = right_same old mid new at right s apart e.leaf e.other_leaf r in
    let change = written_left old mid new at right s apart e.leaf e.other_leaf r in
    let shown : leaf_at new at ++ leaf_at new right ≡ insert items place item =
    ap (λ (l : List Item). l ++ leaf_at new right) (put.items ∙ ap (λ (l : List Item). insert l place item) e.front) ∙ ap (λ (l : List Item). insert (take place items) place item ++ l) (leaf_same mid new right same ∙ e.back) ∙ insert_last items place item (omega (arith, c.requires.before)) in
    two_spread old new at at right c.leaf_piece.result c.leaf_piece-then-bytes-leaf_room.result (insert items place item) 2 (ap (λ (a : Addr). a.0) c.leaf_piece.ensures.at) (ap (λ (a : Addr). a.0) c.leaf_piece-then-bytes-leaf_room.ensures.at)
    shown c.leaf_piece.ensures.piece c.leaf_piece-then-bytes-leaf_room.ensures.piece (at_most_lists old new (at ∷ []) (at ∷ right ∷ []) 1 2 (omega arith) change)

pub leaf_insert-requires-then-bytes-leaf_room-2-clause-order :
    goal.leaf_insert-requires-then-bytes-leaf_room-2-clause-order
leaf_insert-requires-then-bytes-leaf_room-2-clause-order c =
    let items = leaf_at c.args.table.now c.args.at.0 in
    subst (λ (l : List Item). IsPlace (keys_of l) c.args.key 0) (sym c.leaf_split-right.ensures.back) (place_first items c.args.key c.args.place c.requires.order)

pub returns-then-bytes-leaf_room-2 : goal.returns-then-bytes-leaf_room-2
returns-then-bytes-leaf_room-2 c =
    let old = c.args.table.now in
    let mid = c.leaf_split-right.new.table in
    let new = c.leaf_insert-then-bytes-leaf_room-2.new.table in
    let at = c.args.at.0 in
    let right = c.leaf_split-right.result.0 in
    let place = c.args.place in
    let e = c.leaf_split-right.ensures in
    let put = c.leaf_insert-then-bytes-leaf_room-2.ensures in
    let items = leaf_at old at in
    let item : Item = (c.args.key, c.args.bytes.now) in
    let s = split old mid at right c.requires.leaf.dirty e.kept e.taken e.others e.spare e.free in
    let apart = dirty_apart old at right c.requires.leaf.dirty e.taken.was_free in
    let r = rewritten mid new right e.other_leaf.dirty put.kept put.others put.spare put.free in
    let same = left_same old mid new at right s apart e.leaf e.other_leaf r in
    let change = written_right old mid new at right s apart e.leaf e.other_leaf r in
    let shown : leaf_at new at ++ leaf_at new right ≡ insert items place item =
    ap (λ (l : List Item). l ++ leaf_at new right) (leaf_same mid new at same ∙ e.front) ∙ ap (λ (l : List Item). take place items ++ l) (put.items ∙ insert_front (leaf_at mid right) 0 item refl ∙ ap (λ (l : List Item). item ∷ l) e.back) in
    two_spread old new at at right c.leaf_piece-then-bytes-leaf_room-2.result c.leaf_piece-then-bytes-leaf_room-2-2.result (insert items place item) 2 (ap (λ (a : Addr). a.0) c.leaf_piece-then-bytes-leaf_room-2.ensures.at) (ap (λ (a : Addr). a.0) c.leaf_piece-then-bytes-leaf_room-2-2.ensures.at)
    shown c.leaf_piece-then-bytes-leaf_room-2.ensures.piece c.leaf_piece-then-bytes-leaf_room-2-2.ensures.piece (at_most_lists old new (at ∷ []) (at ∷ right ∷ []) 1 2 (omega arith) change)

pub returns : goal.returns
returns c =
    let old = c.args.table.now in
    let mid = c.leaf_split-right.new.table in
    let new = c.lone_leaf-lone.new.table in
    let at = c.args.at.0 in
    let right = c.leaf_split-right.result.0 in
    let lone = c.lone_leaf-lone.result.0 in
    let place = c.args.place in
    let e = c.leaf_split-right.ensures in
    let made = c.lone_leaf-lone.ensures in
    let items = leaf_at old at in
    let item : Item = (c.args.key, c.args.bytes.now) in
    let s = split old mid at right c.requires.leaf.dirty e.kept e.taken e.others e.spare e.free in
    let apart = dirty_apart old at right c.requires.leaf.dirty e.taken.was_free in
    let left_is : leaf_at new at ≡ take place items = leaf_same mid new at (kept_block mid new at lone e.leaf made.changes) ∙ e.front in
    let right_is : leaf_at new right ≡ drop place items = leaf_same mid new right (kept_block mid new right lone e.other_leaf made.changes) ∙ e.back in
    let shown : leaf_at new at ++ (leaf_at new lone ++ leaf_at new right) ≡ insert items place item =
    ap (λ (l : List Item). l ++ (leaf_at new lone ++ leaf_at new right)) left_is ∙ ap (λ (l : List Item). take place items ++ (l ++ leaf_at new right)) made.items ∙ ap (λ (l : List Item). take place items ++ item ∷ l) right_is in
    three_spread old new at at lone right c.leaf_piece-2.result c.leaf_piece-3.result c.leaf_piece-4.result (insert items place item) 2 (ap (λ (a : Addr). a.0) c.leaf_piece-2.ensures.at) (ap (λ (a : Addr). a.0) c.leaf_piece-3.ensures.at) (ap (λ (a : Addr). a.0) c.leaf_piece-4.ensures.at)
    shown c.leaf_piece-2.ensures.piece c.leaf_piece-3.ensures.piece c.leaf_piece-4.ensures.piece (written_between old mid new at right s apart e.leaf e.other_leaf lone made.changes)
