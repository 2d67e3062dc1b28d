use Rattle.std.proofs.Common.{◌≡◌, ◌+◌, Contains, [], ◌∷◌, false, true, length, Some, sym, ap, subst, ◌∙◌, arith}
use Rattle.flat_model.specs.Names.{FlatName, add_name}
use Rattle.flat_model.specs.Operations.{do_collide}
use Rattle.table_volume.specs.Edited.{Makes}
use Rattle.name_items.specs.Names.{MayAddName, name_of}
use Rattle.name_ops.specs.Changes.{with_names}
use Rattle.name_ops.specs.Drops.{most_dropped, most_for}
use Rattle.flat_model.specs.Needs.{gone_with}
use Rattle.flat_model.specs.Walk.{AtSlot}
use Rattle.name_ops.proofs.Moved.{base, base_may_remove, entry_moved, few_one, few_two, gone_there, left, move_bytes, move_collides, move_done_so, move_room, moved_absent, moved_may, moved_not_root, moved_short, over_may}
use Rattle.name_ops.proofs.Stages.{makes_joined, room_left, room_less}
use Rattle.name_ops.proofs.renaming.move_over.Goals as goal

pub new_entry-requires-clause-given : goal.new_entry-requires-clause-given
new_entry-requires-clause-given c =
    let g = c.requires.given in
    (g.0.sub, record { gives = g.1.gives; coherent = g.1.sound.coherent }, record { there = gone_there g.0 g.1.sound c.args.old.now c.args.new.now (name_of c.args.source.now) c.args.target.now.dir.0 c.args.target.now.bytes.now (Some (name_of c.args.target.now)) g.2; new = tt })

pub new_entry-requires-clause-gone : goal.new_entry-requires-clause-gone
new_entry-requires-clause-gone c =
    let g = c.requires.given in
    few_two c.args.target.now c.args.source.now (move_bytes g.0 g.1.sound c.args.old.now c.args.new.now (name_of c.args.source.now) c.args.target.now.dir.0 c.args.target.now.bytes.now (Some (name_of c.args.target.now)) g.2).0.most (moved_short g.0 g.1.sound c.args.old.now c.args.new.now (name_of c.args.source.now) c.args.target.now.dir.0 c.args.target.now.bytes.now (Some (name_of c.args.target.now)) g.2)

pub new_entry-requires-clause-not_root : goal.new_entry-requires-clause-not_root
new_entry-requires-clause-not_root c =
    let g = c.requires.given in
    moved_not_root g.0 g.1.sound c.args.old.now c.args.new.now (name_of c.args.source.now) c.args.target.now.dir.0 c.args.target.now.bytes.now (Some (name_of c.args.target.now)) g.2

pub new_entry-requires-clause-short : goal.new_entry-requires-clause-short
new_entry-requires-clause-short c =
    let g = c.requires.given in
    (move_bytes g.0 g.1.sound c.args.old.now c.args.new.now (name_of c.args.source.now) c.args.target.now.dir.0 c.args.target.now.bytes.now (Some (name_of c.args.target.now)) g.2).0.most

pub do_collide-requires-clause-given : goal.do_collide-requires-clause-given
do_collide-requires-clause-given c =
    let g = c.requires.given in
    let is = entry_moved g.0 g.1.sound c.args.old.now c.args.new.now (name_of c.args.source.now) c.args.target.now.dir.0 c.args.target.now.bytes.now (Some (name_of c.args.target.now)) g.2 (name_of c.new_entry.result) c.args.sub.now.next_index (c.new_entry.ensures g.0.sub (record { gives = g.1.gives; coherent = g.1.sound.coherent }) (record { there = gone_there g.0 g.1.sound c.args.old.now c.args.new.now (name_of c.args.source.now) c.args.target.now.dir.0 c.args.target.now.bytes.now (Some (name_of c.args.target.now)) g.2; new = tt })) g.1.next_index in
    (g.0.sub, record { gives = g.1.gives; coherent = g.1.sound.coherent }, record { there = gone_there g.0 g.1.sound c.args.old.now c.args.new.now (name_of c.args.source.now) c.args.target.now.dir.0 c.args.target.now.bytes.now (Some (name_of c.args.target.now)) g.2; new = ((λ has. moved_absent g.0 g.1.sound c.args.old.now c.args.new.now (name_of c.args.source.now) c.args.target.now.dir.0 c.args.target.now.bytes.now (Some (name_of c.args.target.now)) g.2 (subst (λ (n : FlatName). Contains (left g.0 g.1.sound c.args.old.now c.args.new.now (name_of c.args.source.now) c.args.target.now.dir.0 c.args.target.now.bytes.now (Some (name_of c.args.target.now)) g.2) n) is has)), tt) })

pub do_collide-requires-clause-gone : goal.do_collide-requires-clause-gone
do_collide-requires-clause-gone c =
    let g = c.requires.given in
    few_two c.args.target.now c.args.source.now (move_bytes g.0 g.1.sound c.args.old.now c.args.new.now (name_of c.args.source.now) c.args.target.now.dir.0 c.args.target.now.bytes.now (Some (name_of c.args.target.now)) g.2).0.most (moved_short g.0 g.1.sound c.args.old.now c.args.new.now (name_of c.args.source.now) c.args.target.now.dir.0 c.args.target.now.bytes.now (Some (name_of c.args.target.now)) g.2)

pub do_collide-requires-clause-made : goal.do_collide-requires-clause-made
do_collide-requires-clause-made c =
    let g = c.requires.given in
    let is = entry_moved g.0 g.1.sound c.args.old.now c.args.new.now (name_of c.args.source.now) c.args.target.now.dir.0 c.args.target.now.bytes.now (Some (name_of c.args.target.now)) g.2 (name_of c.new_entry.result) c.args.sub.now.next_index (c.new_entry.ensures g.0.sub (record { gives = g.1.gives; coherent = g.1.sound.coherent }) (record { there = gone_there g.0 g.1.sound c.args.old.now c.args.new.now (name_of c.args.source.now) c.args.target.now.dir.0 c.args.target.now.bytes.now (Some (name_of c.args.target.now)) g.2; new = tt })) g.1.next_index in
    let short = (move_bytes g.0 g.1.sound c.args.old.now c.args.new.now (name_of c.args.source.now) c.args.target.now.dir.0 c.args.target.now.bytes.now (Some (name_of c.args.target.now)) g.2).0.most in
    let same = ap (λ (n : FlatName). length n.bytes) is in
    few_one c.new_entry.result (omega arith)

pub returns-then-do_collide : goal.returns-then-do_collide
returns-then-do_collide c = λ run gives move.
    let is = entry_moved run gives.sound c.args.old.now c.args.new.now (name_of c.args.source.now) c.args.target.now.dir.0 c.args.target.now.bytes.now (Some (name_of c.args.target.now)) move (name_of c.new_entry.result) c.args.sub.now.next_index (c.new_entry.ensures run.sub (record { gives = gives.gives; coherent = gives.sound.coherent }) (record { there = gone_there run gives.sound c.args.old.now c.args.new.now (name_of c.args.source.now) c.args.target.now.dir.0 c.args.target.now.bytes.now (Some (name_of c.args.target.now)) move; new = tt })) gives.next_index in
    let full = sym (c.do_collide.ensures run.sub (record { gives = gives.gives; coherent = gives.sound.coherent }) (record { there = gone_there run gives.sound c.args.old.now c.args.new.now (name_of c.args.source.now) c.args.target.now.dir.0 c.args.target.now.bytes.now (Some (name_of c.args.target.now)) move; new = ((λ has. moved_absent run gives.sound c.args.old.now c.args.new.now (name_of c.args.source.now) c.args.target.now.dir.0 c.args.target.now.bytes.now (Some (name_of c.args.target.now)) move (subst (λ (n : FlatName). Contains (left run gives.sound c.args.old.now c.args.new.now (name_of c.args.source.now) c.args.target.now.dir.0 c.args.target.now.bytes.now (Some (name_of c.args.target.now)) move) n) is has)), tt) })) ∙ c.if-do_collide.true in
    move_collides run gives.sound c.args.old.now c.args.new.now (name_of c.args.source.now) c.args.target.now.dir.0 c.args.target.now.bytes.now (Some (name_of c.args.target.now)) move c.args.table.now c.args.sub.now gives (subst (λ (n : FlatName). do_collide (left run gives.sound c.args.old.now c.args.new.now (name_of c.args.source.now) c.args.target.now.dir.0 c.args.target.now.bytes.now (Some (name_of c.args.target.now)) move) (n ∷ []) ≡ true) is full)

pub drop_name-requires-clause-may : goal.drop_name-requires-clause-may
drop_name-requires-clause-may c =
    let g = c.requires.given in
    let is = entry_moved g.0 g.1.sound c.args.old.now c.args.new.now (name_of c.args.source.now) c.args.target.now.dir.0 c.args.target.now.bytes.now (Some (name_of c.args.target.now)) g.2 (name_of c.new_entry.result) c.args.sub.now.next_index (c.new_entry.ensures g.0.sub (record { gives = g.1.gives; coherent = g.1.sound.coherent }) (record { there = gone_there g.0 g.1.sound c.args.old.now c.args.new.now (name_of c.args.source.now) c.args.target.now.dir.0 c.args.target.now.bytes.now (Some (name_of c.args.target.now)) g.2; new = tt })) g.1.next_index in
    let free = subst (λ (n : FlatName). do_collide (left g.0 g.1.sound c.args.old.now c.args.new.now (name_of c.args.source.now) c.args.target.now.dir.0 c.args.target.now.bytes.now (Some (name_of c.args.target.now)) g.2) (n ∷ []) ≡ false) is (sym (c.do_collide.ensures g.0.sub (record { gives = g.1.gives; coherent = g.1.sound.coherent }) (record { there = gone_there g.0 g.1.sound c.args.old.now c.args.new.now (name_of c.args.source.now) c.args.target.now.dir.0 c.args.target.now.bytes.now (Some (name_of c.args.target.now)) g.2; new = ((λ has. moved_absent g.0 g.1.sound c.args.old.now c.args.new.now (name_of c.args.source.now) c.args.target.now.dir.0 c.args.target.now.bytes.now (Some (name_of c.args.target.now)) g.2 (subst (λ (n : FlatName). Contains (left g.0 g.1.sound c.args.old.now c.args.new.now (name_of c.args.source.now) c.args.target.now.dir.0 c.args.target.now.bytes.now (Some (name_of c.args.target.now)) g.2) n) is has)), tt) })) ∙ c.if-do_collide.false) in
    let room = move_room g.0 g.1.sound c.args.old.now c.args.new.now (name_of c.args.source.now) c.args.target.now.dir.0 c.args.target.now.bytes.now (Some (name_of c.args.target.now)) g.2 c.args.table.now c.args.sub.now g.1 free g.3 in
    (g.0.sub, g.1.gives, over_may g.0 g.1.sound c.args.old.now c.args.new.now (name_of c.args.source.now) (name_of c.args.target.now) g.2, record { spare = omega (arith, room.spare); free = omega (arith, room.free) })

pub remove_name-requires-clause-may : goal.remove_name-requires-clause-may
remove_name-requires-clause-may c =
    let g = c.requires.given in
    let dropped = c.drop_name.ensures.made g.0.sub g.1.gives (over_may g.0 g.1.sound c.args.old.now c.args.new.now (name_of c.args.source.now) (name_of c.args.target.now) g.2) in
    (_, dropped.gives, base_may_remove g.0 g.1.sound c.args.old.now c.args.new.now (name_of c.args.source.now) c.args.target.now.dir.0 c.args.target.now.bytes.now (Some (name_of c.args.target.now)) g.2)

pub remove_name-requires-clause-current : goal.remove_name-requires-clause-current
remove_name-requires-clause-current c =
    let g = c.requires.given in
    (c.drop_name.ensures.made g.0.sub g.1.gives (over_may g.0 g.1.sound c.args.old.now c.args.new.now (name_of c.args.source.now) (name_of c.args.target.now) g.2)).edit.current

pub remove_name-requires-clause-spare : goal.remove_name-requires-clause-spare
remove_name-requires-clause-spare c =
    let g = c.requires.given in
    let is = entry_moved g.0 g.1.sound c.args.old.now c.args.new.now (name_of c.args.source.now) c.args.target.now.dir.0 c.args.target.now.bytes.now (Some (name_of c.args.target.now)) g.2 (name_of c.new_entry.result) c.args.sub.now.next_index (c.new_entry.ensures g.0.sub (record { gives = g.1.gives; coherent = g.1.sound.coherent }) (record { there = gone_there g.0 g.1.sound c.args.old.now c.args.new.now (name_of c.args.source.now) c.args.target.now.dir.0 c.args.target.now.bytes.now (Some (name_of c.args.target.now)) g.2; new = tt })) g.1.next_index in
    let free = subst (λ (n : FlatName). do_collide (left g.0 g.1.sound c.args.old.now c.args.new.now (name_of c.args.source.now) c.args.target.now.dir.0 c.args.target.now.bytes.now (Some (name_of c.args.target.now)) g.2) (n ∷ []) ≡ false) is (sym (c.do_collide.ensures g.0.sub (record { gives = g.1.gives; coherent = g.1.sound.coherent }) (record { there = gone_there g.0 g.1.sound c.args.old.now c.args.new.now (name_of c.args.source.now) c.args.target.now.dir.0 c.args.target.now.bytes.now (Some (name_of c.args.target.now)) g.2; new = ((λ has. moved_absent g.0 g.1.sound c.args.old.now c.args.new.now (name_of c.args.source.now) c.args.target.now.dir.0 c.args.target.now.bytes.now (Some (name_of c.args.target.now)) g.2 (subst (λ (n : FlatName). Contains (left g.0 g.1.sound c.args.old.now c.args.new.now (name_of c.args.source.now) c.args.target.now.dir.0 c.args.target.now.bytes.now (Some (name_of c.args.target.now)) g.2) n) is has)), tt) })) ∙ c.if-do_collide.false) in
    let room = move_room g.0 g.1.sound c.args.old.now c.args.new.now (name_of c.args.source.now) c.args.target.now.dir.0 c.args.target.now.bytes.now (Some (name_of c.args.target.now)) g.2 c.args.table.now c.args.sub.now g.1 free g.3 in
    let dropped = c.drop_name.ensures.made g.0.sub g.1.gives (over_may g.0 g.1.sound c.args.old.now c.args.new.now (name_of c.args.source.now) (name_of c.args.target.now) g.2) in
    let taken = dropped.edit.taken.spare in
    omega (arith, room.spare, taken)

pub remove_name-requires-clause-free : goal.remove_name-requires-clause-free
remove_name-requires-clause-free c =
    let g = c.requires.given in
    let is = entry_moved g.0 g.1.sound c.args.old.now c.args.new.now (name_of c.args.source.now) c.args.target.now.dir.0 c.args.target.now.bytes.now (Some (name_of c.args.target.now)) g.2 (name_of c.new_entry.result) c.args.sub.now.next_index (c.new_entry.ensures g.0.sub (record { gives = g.1.gives; coherent = g.1.sound.coherent }) (record { there = gone_there g.0 g.1.sound c.args.old.now c.args.new.now (name_of c.args.source.now) c.args.target.now.dir.0 c.args.target.now.bytes.now (Some (name_of c.args.target.now)) g.2; new = tt })) g.1.next_index in
    let free = subst (λ (n : FlatName). do_collide (left g.0 g.1.sound c.args.old.now c.args.new.now (name_of c.args.source.now) c.args.target.now.dir.0 c.args.target.now.bytes.now (Some (name_of c.args.target.now)) g.2) (n ∷ []) ≡ false) is (sym (c.do_collide.ensures g.0.sub (record { gives = g.1.gives; coherent = g.1.sound.coherent }) (record { there = gone_there g.0 g.1.sound c.args.old.now c.args.new.now (name_of c.args.source.now) c.args.target.now.dir.0 c.args.target.now.bytes.now (Some (name_of c.args.target.now)) g.2; new = ((λ has. moved_absent g.0 g.1.sound c.args.old.now c.args.new.now (name_of c.args.source.now) c.args.target.now.dir.0 c.args.target.now.bytes.now (Some (name_of c.args.target.now)) g.2 (subst (λ (n : FlatName). Contains (left g.0 g.1.sound c.args.old.now c.args.new.now (name_of c.args.source.now) c.args.target.now.dir.0 c.args.target.now.bytes.now (Some (name_of c.args.target.now)) g.2) n) is has)), tt) })) ∙ c.if-do_collide.false) in
    let room = move_room g.0 g.1.sound c.args.old.now c.args.new.now (name_of c.args.source.now) c.args.target.now.dir.0 c.args.target.now.bytes.now (Some (name_of c.args.target.now)) g.2 c.args.table.now c.args.sub.now g.1 free g.3 in
    let dropped = c.drop_name.ensures.made g.0.sub g.1.gives (over_may g.0 g.1.sound c.args.old.now c.args.new.now (name_of c.args.source.now) (name_of c.args.target.now) g.2) in
    let taken = dropped.edit.taken.free in
    omega (arith, room.free, taken)

pub add_names-requires-clause-may : goal.add_names-requires-clause-may
add_names-requires-clause-may c =
    let g = c.requires.given in
    let is = entry_moved g.0 g.1.sound c.args.old.now c.args.new.now (name_of c.args.source.now) c.args.target.now.dir.0 c.args.target.now.bytes.now (Some (name_of c.args.target.now)) g.2 (name_of c.new_entry.result) c.args.sub.now.next_index (c.new_entry.ensures g.0.sub (record { gives = g.1.gives; coherent = g.1.sound.coherent }) (record { there = gone_there g.0 g.1.sound c.args.old.now c.args.new.now (name_of c.args.source.now) c.args.target.now.dir.0 c.args.target.now.bytes.now (Some (name_of c.args.target.now)) g.2; new = tt })) g.1.next_index in
    let free = subst (λ (n : FlatName). do_collide (left g.0 g.1.sound c.args.old.now c.args.new.now (name_of c.args.source.now) c.args.target.now.dir.0 c.args.target.now.bytes.now (Some (name_of c.args.target.now)) g.2) (n ∷ []) ≡ false) is (sym (c.do_collide.ensures g.0.sub (record { gives = g.1.gives; coherent = g.1.sound.coherent }) (record { there = gone_there g.0 g.1.sound c.args.old.now c.args.new.now (name_of c.args.source.now) c.args.target.now.dir.0 c.args.target.now.bytes.now (Some (name_of c.args.target.now)) g.2; new = ((λ has. moved_absent g.0 g.1.sound c.args.old.now c.args.new.now (name_of c.args.source.now) c.args.target.now.dir.0 c.args.target.now.bytes.now (Some (name_of c.args.target.now)) g.2 (subst (λ (n : FlatName). Contains (left g.0 g.1.sound c.args.old.now c.args.new.now (name_of c.args.source.now) c.args.target.now.dir.0 c.args.target.now.bytes.now (Some (name_of c.args.target.now)) g.2) n) is has)), tt) })) ∙ c.if-do_collide.false) in
    let dropped = c.drop_name.ensures.made g.0.sub g.1.gives (over_may g.0 g.1.sound c.args.old.now c.args.new.now (name_of c.args.source.now) (name_of c.args.target.now) g.2) in
    let gone = c.remove_name.ensures.made (base g.0 g.1.sound c.args.old.now c.args.new.now (name_of c.args.source.now) c.args.target.now.dir.0 c.args.target.now.bytes.now (Some (name_of c.args.target.now)) g.2) dropped.gives (base_may_remove g.0 g.1.sound c.args.old.now c.args.new.now (name_of c.args.source.now) c.args.target.now.dir.0 c.args.target.now.bytes.now (Some (name_of c.args.target.now)) g.2) in
    let first = makes_joined c.args.table.now c.drop_name.new.table c.remove_name.new.table c.args.sub.now c.drop_name.new.sub c.remove_name.new.sub (most_dropped g.0.sub (name_of c.args.target.now)) 85 (base g.0 g.1.sound c.args.old.now c.args.new.now (name_of c.args.source.now) c.args.target.now.dir.0 c.args.target.now.bytes.now (Some (name_of c.args.target.now)) g.2) (with_names (base g.0 g.1.sound c.args.old.now c.args.new.now (name_of c.args.source.now) c.args.target.now.dir.0 c.args.target.now.bytes.now (Some (name_of c.args.target.now)) g.2) (left g.0 g.1.sound c.args.old.now c.args.new.now (name_of c.args.source.now) c.args.target.now.dir.0 c.args.target.now.bytes.now (Some (name_of c.args.target.now)) g.2)) dropped gone in
    (with_names (base g.0 g.1.sound c.args.old.now c.args.new.now (name_of c.args.source.now) c.args.target.now.dir.0 c.args.target.now.bytes.now (Some (name_of c.args.target.now)) g.2) (left g.0 g.1.sound c.args.old.now c.args.new.now (name_of c.args.source.now) c.args.target.now.dir.0 c.args.target.now.bytes.now (Some (name_of c.args.target.now)) g.2), first.gives, (subst (λ (n : FlatName). MayAddName (with_names (base g.0 g.1.sound c.args.old.now c.args.new.now (name_of c.args.source.now) c.args.target.now.dir.0 c.args.target.now.bytes.now (Some (name_of c.args.target.now)) g.2) (left g.0 g.1.sound c.args.old.now c.args.new.now (name_of c.args.source.now) c.args.target.now.dir.0 c.args.target.now.bytes.now (Some (name_of c.args.target.now)) g.2)) n) (sym is) (moved_may g.0 g.1.sound c.args.old.now c.args.new.now (name_of c.args.source.now) c.args.target.now.dir.0 c.args.target.now.bytes.now (Some (name_of c.args.target.now)) g.2 free), tt))

pub add_names-requires-clause-current : goal.add_names-requires-clause-current
add_names-requires-clause-current c =
    let g = c.requires.given in
    let dropped = c.drop_name.ensures.made g.0.sub g.1.gives (over_may g.0 g.1.sound c.args.old.now c.args.new.now (name_of c.args.source.now) (name_of c.args.target.now) g.2) in
    let gone = c.remove_name.ensures.made (base g.0 g.1.sound c.args.old.now c.args.new.now (name_of c.args.source.now) c.args.target.now.dir.0 c.args.target.now.bytes.now (Some (name_of c.args.target.now)) g.2) dropped.gives (base_may_remove g.0 g.1.sound c.args.old.now c.args.new.now (name_of c.args.source.now) c.args.target.now.dir.0 c.args.target.now.bytes.now (Some (name_of c.args.target.now)) g.2) in
    let first = makes_joined c.args.table.now c.drop_name.new.table c.remove_name.new.table c.args.sub.now c.drop_name.new.sub c.remove_name.new.sub (most_dropped g.0.sub (name_of c.args.target.now)) 85 (base g.0 g.1.sound c.args.old.now c.args.new.now (name_of c.args.source.now) c.args.target.now.dir.0 c.args.target.now.bytes.now (Some (name_of c.args.target.now)) g.2) (with_names (base g.0 g.1.sound c.args.old.now c.args.new.now (name_of c.args.source.now) c.args.target.now.dir.0 c.args.target.now.bytes.now (Some (name_of c.args.target.now)) g.2) (left g.0 g.1.sound c.args.old.now c.args.new.now (name_of c.args.source.now) c.args.target.now.dir.0 c.args.target.now.bytes.now (Some (name_of c.args.target.now)) g.2)) dropped gone in
    first.edit.current

pub add_names-requires-clause-room : goal.add_names-requires-clause-room
add_names-requires-clause-room c =
    let g = c.requires.given in
    let is = entry_moved g.0 g.1.sound c.args.old.now c.args.new.now (name_of c.args.source.now) c.args.target.now.dir.0 c.args.target.now.bytes.now (Some (name_of c.args.target.now)) g.2 (name_of c.new_entry.result) c.args.sub.now.next_index (c.new_entry.ensures g.0.sub (record { gives = g.1.gives; coherent = g.1.sound.coherent }) (record { there = gone_there g.0 g.1.sound c.args.old.now c.args.new.now (name_of c.args.source.now) c.args.target.now.dir.0 c.args.target.now.bytes.now (Some (name_of c.args.target.now)) g.2; new = tt })) g.1.next_index in
    let free = subst (λ (n : FlatName). do_collide (left g.0 g.1.sound c.args.old.now c.args.new.now (name_of c.args.source.now) c.args.target.now.dir.0 c.args.target.now.bytes.now (Some (name_of c.args.target.now)) g.2) (n ∷ []) ≡ false) is (sym (c.do_collide.ensures g.0.sub (record { gives = g.1.gives; coherent = g.1.sound.coherent }) (record { there = gone_there g.0 g.1.sound c.args.old.now c.args.new.now (name_of c.args.source.now) c.args.target.now.dir.0 c.args.target.now.bytes.now (Some (name_of c.args.target.now)) g.2; new = ((λ has. moved_absent g.0 g.1.sound c.args.old.now c.args.new.now (name_of c.args.source.now) c.args.target.now.dir.0 c.args.target.now.bytes.now (Some (name_of c.args.target.now)) g.2 (subst (λ (n : FlatName). Contains (left g.0 g.1.sound c.args.old.now c.args.new.now (name_of c.args.source.now) c.args.target.now.dir.0 c.args.target.now.bytes.now (Some (name_of c.args.target.now)) g.2) n) is has)), tt) })) ∙ c.if-do_collide.false) in
    let room = move_room g.0 g.1.sound c.args.old.now c.args.new.now (name_of c.args.source.now) c.args.target.now.dir.0 c.args.target.now.bytes.now (Some (name_of c.args.target.now)) g.2 c.args.table.now c.args.sub.now g.1 free g.3 in
    let dropped = c.drop_name.ensures.made g.0.sub g.1.gives (over_may g.0 g.1.sound c.args.old.now c.args.new.now (name_of c.args.source.now) (name_of c.args.target.now) g.2) in
    let gone = c.remove_name.ensures.made (base g.0 g.1.sound c.args.old.now c.args.new.now (name_of c.args.source.now) c.args.target.now.dir.0 c.args.target.now.bytes.now (Some (name_of c.args.target.now)) g.2) dropped.gives (base_may_remove g.0 g.1.sound c.args.old.now c.args.new.now (name_of c.args.source.now) c.args.target.now.dir.0 c.args.target.now.bytes.now (Some (name_of c.args.target.now)) g.2) in
    let first = makes_joined c.args.table.now c.drop_name.new.table c.remove_name.new.table c.args.sub.now c.drop_name.new.sub c.remove_name.new.sub (most_dropped g.0.sub (name_of c.args.target.now)) 85 (base g.0 g.1.sound c.args.old.now c.args.new.now (name_of c.args.source.now) c.args.target.now.dir.0 c.args.target.now.bytes.now (Some (name_of c.args.target.now)) g.2) (with_names (base g.0 g.1.sound c.args.old.now c.args.new.now (name_of c.args.source.now) c.args.target.now.dir.0 c.args.target.now.bytes.now (Some (name_of c.args.target.now)) g.2) (left g.0 g.1.sound c.args.old.now c.args.new.now (name_of c.args.source.now) c.args.target.now.dir.0 c.args.target.now.bytes.now (Some (name_of c.args.target.now)) g.2)) dropped gone in
    room_left c.args.table.now c.remove_name.new.table c.args.sub.now c.remove_name.new.sub (most_dropped g.0.sub (name_of c.args.target.now) + 85) 85 (with_names (base g.0 g.1.sound c.args.old.now c.args.new.now (name_of c.args.source.now) c.args.target.now.dir.0 c.args.target.now.bytes.now (Some (name_of c.args.target.now)) g.2) (left g.0 g.1.sound c.args.old.now c.args.new.now (name_of c.args.source.now) c.args.target.now.dir.0 c.args.target.now.bytes.now (Some (name_of c.args.target.now)) g.2)) (room_less c.args.table.now (most_for (gone_with g.0.sub (AtSlot c.args.target.now.dir.0 c.args.target.now.bytes.now (Some (name_of c.args.target.now))))) ((most_dropped g.0.sub (name_of c.args.target.now) + 85) + 85) room (omega arith)) first

pub returns : goal.returns
returns c = λ run gives move.
    let is = entry_moved run gives.sound c.args.old.now c.args.new.now (name_of c.args.source.now) c.args.target.now.dir.0 c.args.target.now.bytes.now (Some (name_of c.args.target.now)) move (name_of c.new_entry.result) c.args.sub.now.next_index (c.new_entry.ensures run.sub (record { gives = gives.gives; coherent = gives.sound.coherent }) (record { there = gone_there run gives.sound c.args.old.now c.args.new.now (name_of c.args.source.now) c.args.target.now.dir.0 c.args.target.now.bytes.now (Some (name_of c.args.target.now)) move; new = tt })) gives.next_index in
    let free = subst (λ (n : FlatName). do_collide (left run gives.sound c.args.old.now c.args.new.now (name_of c.args.source.now) c.args.target.now.dir.0 c.args.target.now.bytes.now (Some (name_of c.args.target.now)) move) (n ∷ []) ≡ false) is (sym (c.do_collide.ensures run.sub (record { gives = gives.gives; coherent = gives.sound.coherent }) (record { there = gone_there run gives.sound c.args.old.now c.args.new.now (name_of c.args.source.now) c.args.target.now.dir.0 c.args.target.now.bytes.now (Some (name_of c.args.target.now)) move; new = ((λ has. moved_absent run gives.sound c.args.old.now c.args.new.now (name_of c.args.source.now) c.args.target.now.dir.0 c.args.target.now.bytes.now (Some (name_of c.args.target.now)) move (subst (λ (n : FlatName). Contains (left run gives.sound c.args.old.now c.args.new.now (name_of c.args.source.now) c.args.target.now.dir.0 c.args.target.now.bytes.now (Some (name_of c.args.target.now)) move) n) is has)), tt) })) ∙ c.if-do_collide.false) in
    let dropped = c.drop_name.ensures.made run.sub gives.gives (over_may run gives.sound c.args.old.now c.args.new.now (name_of c.args.source.now) (name_of c.args.target.now) move) in
    let gone = c.remove_name.ensures.made (base run gives.sound c.args.old.now c.args.new.now (name_of c.args.source.now) c.args.target.now.dir.0 c.args.target.now.bytes.now (Some (name_of c.args.target.now)) move) dropped.gives (base_may_remove run gives.sound c.args.old.now c.args.new.now (name_of c.args.source.now) c.args.target.now.dir.0 c.args.target.now.bytes.now (Some (name_of c.args.target.now)) move) in
    let first = makes_joined c.args.table.now c.drop_name.new.table c.remove_name.new.table c.args.sub.now c.drop_name.new.sub c.remove_name.new.sub (most_dropped run.sub (name_of c.args.target.now)) 85 (base run gives.sound c.args.old.now c.args.new.now (name_of c.args.source.now) c.args.target.now.dir.0 c.args.target.now.bytes.now (Some (name_of c.args.target.now)) move) (with_names (base run gives.sound c.args.old.now c.args.new.now (name_of c.args.source.now) c.args.target.now.dir.0 c.args.target.now.bytes.now (Some (name_of c.args.target.now)) move) (left run gives.sound c.args.old.now c.args.new.now (name_of c.args.source.now) c.args.target.now.dir.0 c.args.target.now.bytes.now (Some (name_of c.args.target.now)) move)) dropped gone in
    let may = subst (λ (n : FlatName). MayAddName (with_names (base run gives.sound c.args.old.now c.args.new.now (name_of c.args.source.now) c.args.target.now.dir.0 c.args.target.now.bytes.now (Some (name_of c.args.target.now)) move) (left run gives.sound c.args.old.now c.args.new.now (name_of c.args.source.now) c.args.target.now.dir.0 c.args.target.now.bytes.now (Some (name_of c.args.target.now)) move)) n) (sym is) (moved_may run gives.sound c.args.old.now c.args.new.now (name_of c.args.source.now) c.args.target.now.dir.0 c.args.target.now.bytes.now (Some (name_of c.args.target.now)) move free) in
    let second = c.add_names.ensures.made (with_names (base run gives.sound c.args.old.now c.args.new.now (name_of c.args.source.now) c.args.target.now.dir.0 c.args.target.now.bytes.now (Some (name_of c.args.target.now)) move) (left run gives.sound c.args.old.now c.args.new.now (name_of c.args.source.now) c.args.target.now.dir.0 c.args.target.now.bytes.now (Some (name_of c.args.target.now)) move)) first.gives (may, tt) in
    let joined = makes_joined c.args.table.now c.remove_name.new.table c.add_names.new.table c.args.sub.now c.remove_name.new.sub c.add_names.new.sub (most_dropped run.sub (name_of c.args.target.now) + 85) 85 (with_names (base run gives.sound c.args.old.now c.args.new.now (name_of c.args.source.now) c.args.target.now.dir.0 c.args.target.now.bytes.now (Some (name_of c.args.target.now)) move) (left run gives.sound c.args.old.now c.args.new.now (name_of c.args.source.now) c.args.target.now.dir.0 c.args.target.now.bytes.now (Some (name_of c.args.target.now)) move)) (with_names (base run gives.sound c.args.old.now c.args.new.now (name_of c.args.source.now) c.args.target.now.dir.0 c.args.target.now.bytes.now (Some (name_of c.args.target.now)) move) (add_name (name_of c.new_entry.result) (left run gives.sound c.args.old.now c.args.new.now (name_of c.args.source.now) c.args.target.now.dir.0 c.args.target.now.bytes.now (Some (name_of c.args.target.now)) move))) first second in
    move_done_so run gives.sound c.args.old.now c.args.new.now (name_of c.args.source.now) c.args.target.now.dir.0 c.args.target.now.bytes.now (Some (name_of c.args.target.now)) move c.args.table.now c.args.sub.now gives c.add_names.new.table c.add_names.new.sub ((most_dropped run.sub (name_of c.args.target.now) + 85) + 85) free
    (subst (λ (n : FlatName). Makes c.args.table.now c.add_names.new.table c.args.sub.now c.add_names.new.sub ((most_dropped run.sub (name_of c.args.target.now) + 85) + 85) (with_names (base run gives.sound c.args.old.now c.args.new.now (name_of c.args.source.now) c.args.target.now.dir.0 c.args.target.now.bytes.now (Some (name_of c.args.target.now)) move) (add_name n (left run gives.sound c.args.old.now c.args.new.now (name_of c.args.source.now) c.args.target.now.dir.0 c.args.target.now.bytes.now (Some (name_of c.args.target.now)) move)))) is joined)
    (omega arith) (c.add_names.ensures.next_ino ∙ c.remove_name.ensures.next_ino ∙ c.drop_name.ensures.next_ino) (c.add_names.ensures.next_index ∙ c.remove_name.ensures.next_index ∙ c.drop_name.ensures.next_index)
