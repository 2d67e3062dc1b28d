use Rattle.std.proofs.Common.{Contains, [], ◌∷◌, length, None, sym, ap, subst, ◌∙◌, arith, cond, Bool, Some, ℕ}
use Rattle.flat_model.specs.Names.{FlatName}
use Rattle.flat_model.specs.Operations.{do_collide, new_name}
use Rattle.name_items.specs.Names.{name_of}
use Rattle.flat_model.specs.Walk.{AtSlot}
use Rattle.name_ops.proofs.Moved.{entry_moved, few_one, gone_there, left, move_bytes, moved_absent, moved_not_root, moved_short}
use Rattle.flat_model.specs.declared.answer.Answer.TheVariants.{Collide}
use Rattle.name_walk.specs.Given.{GivesCoherent}
use Rattle.name_ops.specs.Slots.{at_name}
use Rattle.name_ops.proofs.Judged.{rename_untested}
use Rattle.name_ops.proofs.colliding.free_collision.Goals as goal

pub new_entry-requires-clause-given : goal.new_entry-requires-clause-given
new_entry-requires-clause-given c =
    let g = c.requires.given in
    (g.0.sub, record { gives = g.1.gives; coherent = g.1.sound.coherent }, record { there = gone_there g.0 g.1.sound c.args.old.now c.args.new.now (name_of c.args.moved.now) c.args.dir c.args.bytes.now None g.2; new = tt })

pub new_entry-requires-clause-gone : goal.new_entry-requires-clause-gone
new_entry-requires-clause-gone c =
    let g = c.requires.given in
    few_one c.args.moved.now (moved_short g.0 g.1.sound c.args.old.now c.args.new.now (name_of c.args.moved.now) c.args.dir c.args.bytes.now None g.2)

pub new_entry-requires-clause-not_root : goal.new_entry-requires-clause-not_root
new_entry-requires-clause-not_root c =
    let g = c.requires.given in
    moved_not_root g.0 g.1.sound c.args.old.now c.args.new.now (name_of c.args.moved.now) c.args.dir c.args.bytes.now None g.2

pub new_entry-requires-clause-short : goal.new_entry-requires-clause-short
new_entry-requires-clause-short c =
    let g = c.requires.given in
    (move_bytes g.0 g.1.sound c.args.old.now c.args.new.now (name_of c.args.moved.now) c.args.dir c.args.bytes.now None g.2).0.most

pub do_collide-requires-clause-given : goal.do_collide-requires-clause-given
do_collide-requires-clause-given c =
    let g = c.requires.given in
    let is = entry_moved g.0 g.1.sound c.args.old.now c.args.new.now (name_of c.args.moved.now) c.args.dir c.args.bytes.now None g.2 (name_of c.new_entry.result) c.args.sub.now.next_index (c.new_entry.ensures g.0.sub (record { gives = g.1.gives; coherent = g.1.sound.coherent }) (record { there = gone_there g.0 g.1.sound c.args.old.now c.args.new.now (name_of c.args.moved.now) c.args.dir c.args.bytes.now None g.2; new = tt })) g.1.next_index in
    (g.0.sub, record { gives = g.1.gives; coherent = g.1.sound.coherent }, record { there = gone_there g.0 g.1.sound c.args.old.now c.args.new.now (name_of c.args.moved.now) c.args.dir c.args.bytes.now None g.2; new = ((λ has. moved_absent g.0 g.1.sound c.args.old.now c.args.new.now (name_of c.args.moved.now) c.args.dir c.args.bytes.now None g.2 (subst (λ (n : FlatName). Contains (left g.0 g.1.sound c.args.old.now c.args.new.now (name_of c.args.moved.now) c.args.dir c.args.bytes.now None g.2) n) is has)), tt) })

pub do_collide-requires-clause-gone : goal.do_collide-requires-clause-gone
do_collide-requires-clause-gone c =
    let g = c.requires.given in
    few_one c.args.moved.now (moved_short g.0 g.1.sound c.args.old.now c.args.new.now (name_of c.args.moved.now) c.args.dir c.args.bytes.now None g.2)

pub do_collide-requires-clause-made : goal.do_collide-requires-clause-made
do_collide-requires-clause-made c =
    let g = c.requires.given in
    let is = entry_moved g.0 g.1.sound c.args.old.now c.args.new.now (name_of c.args.moved.now) c.args.dir c.args.bytes.now None g.2 (name_of c.new_entry.result) c.args.sub.now.next_index (c.new_entry.ensures g.0.sub (record { gives = g.1.gives; coherent = g.1.sound.coherent }) (record { there = gone_there g.0 g.1.sound c.args.old.now c.args.new.now (name_of c.args.moved.now) c.args.dir c.args.bytes.now None g.2; new = tt })) g.1.next_index in
    let short = (move_bytes g.0 g.1.sound c.args.old.now c.args.new.now (name_of c.args.moved.now) c.args.dir c.args.bytes.now None g.2).0.most in
    let same = ap (λ (n : FlatName). length n.bytes) is in
    few_one c.new_entry.result (omega arith)

pub returns : goal.returns
returns c = λ run gives move.
    let given : GivesCoherent c.args.table.now c.args.sub.now.tree run.sub = record { gives = gives.gives; coherent = gives.sound.coherent } in
    let told = c.new_entry.ensures run.sub given (record { there = gone_there run gives.sound c.args.old.now c.args.new.now (name_of c.args.moved.now) c.args.dir c.args.bytes.now None move; new = tt }) in
    let is = entry_moved run gives.sound c.args.old.now c.args.new.now (name_of c.args.moved.now) c.args.dir c.args.bytes.now None move (name_of c.new_entry.result) c.args.sub.now.next_index told gives.next_index in
    let new : Contains (left run gives.sound c.args.old.now c.args.new.now (name_of c.args.moved.now) c.args.dir c.args.bytes.now None move) (name_of c.new_entry.result) → ⊥ = λ has. moved_absent run gives.sound c.args.old.now c.args.new.now (name_of c.args.moved.now) c.args.dir c.args.bytes.now None move (subst (λ (n : FlatName). Contains (left run gives.sound c.args.old.now c.args.new.now (name_of c.args.moved.now) c.args.dir c.args.bytes.now None move) n) is has) in
    let free = c.do_collide.ensures run.sub given (record { there = gone_there run gives.sound c.args.old.now c.args.new.now (name_of c.args.moved.now) c.args.dir c.args.bytes.now None move; new = (new, tt) }) in
    c.collision.ensures ∙ ap (λ (b : Bool). cond b (Some Collide) None) (free ∙ ap (λ (n : FlatName). do_collide (left run gives.sound c.args.old.now c.args.new.now (name_of c.args.moved.now) c.args.dir c.args.bytes.now None move) (n ∷ [])) is)
    ∙ ap (λ (i : ℕ). cond (do_collide (left run gives.sound c.args.old.now c.args.new.now (name_of c.args.moved.now) c.args.dir c.args.bytes.now None move) (new_name (left run gives.sound c.args.old.now c.args.new.now (name_of c.args.moved.now) c.args.dir c.args.bytes.now None move) (AtSlot c.args.dir c.args.bytes.now None) i c.args.moved.now.ino.0 ∷ [])) (Some Collide) None) (sym gives.next_index)
    ∙ sym (rename_untested run c.args.old.now c.args.new.now c.args.sub.now.next_index (at_name (name_of c.args.moved.now)) (AtSlot c.args.dir c.args.bytes.now None) move.from move.to move.none)
