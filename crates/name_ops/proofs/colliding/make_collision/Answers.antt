use Rattle.std.proofs.Common.{◌≤◌, [], ◌∷◌, length, sym, ap, ◌∙◌, arith, cond, Bool, Some, None}
use Rattle.std.proofs.lemmas.List.Elements.{All-cons, All-nil}
use Rattle.flat_model.specs.declared.answer.Answer.TheVariants.{Collide}
use Rattle.flat_model.specs.Names.{FlatName}
use Rattle.flat_model.specs.Operations.{do_collide, new_name}
use Rattle.name_walk.specs.Given.{GivesCoherent}
use Rattle.name_items.specs.Names.{name_of}
use Rattle.name_items.specs.declared.entry.NameEntry.{NameEntry}
use Rattle.name_ops.proofs.Made.{entry_made, made_new, make_bytes, make_not_root}
use Rattle.flat_model.specs.Walk.{AtSlot}
use Rattle.inode_items.specs.declared.add.NewInode.TheVariants as made
use Rattle.name_ops.proofs.Judged.{make_untested}
use Rattle.name_ops.proofs.colliding.make_collision.Goals as goal

pub new_entry-requires-clause-given : goal.new_entry-requires-clause-given
new_entry-requires-clause-given c =
    let g = c.requires.given in
    (g.0.sub, record { gives = g.1.gives; coherent = g.1.sound.coherent }, record { there = tt; new = tt })

pub new_entry-requires-clause-not_root : goal.new_entry-requires-clause-not_root
new_entry-requires-clause-not_root c =
    let g = c.requires.given in
    λ e. make_not_root g.0 g.1.sound c.args.path.now made.File c.args.dir c.args.name.now c.requires.path g.2 g.3 tt (sym g.1.next_ino ∙ e)

pub new_entry-requires-clause-short : goal.new_entry-requires-clause-short
new_entry-requires-clause-short c =
    let g = c.requires.given in
    (make_bytes g.0 g.1.sound c.args.path.now made.File c.args.dir c.args.name.now c.requires.path g.2 g.3 tt).0.most

pub do_collide-requires-clause-given : goal.do_collide-requires-clause-given
do_collide-requires-clause-given c =
    let g = c.requires.given in
    let given : GivesCoherent c.args.table.now c.args.sub.now.tree g.0.sub = record { gives = g.1.gives; coherent = g.1.sound.coherent } in
    let is = entry_made g.0 g.1.sound c.args.path.now made.File c.args.dir c.args.name.now c.requires.path g.2 g.3 tt (name_of c.new_entry.result) c.args.sub.now.next_index c.args.sub.now.next_ino
    (c.new_entry.ensures g.0.sub given (record { there = tt; new = tt })) g.1.next_index g.1.next_ino in
    (g.0.sub, given, record { there = tt; new = (made_new g.0 g.1.sound c.args.path.now made.File c.args.dir c.args.name.now c.requires.path g.2 g.3 tt (name_of c.new_entry.result) is, tt) })

pub do_collide-requires-clause-made : goal.do_collide-requires-clause-made
do_collide-requires-clause-made c =
    let g = c.requires.given in
    let given : GivesCoherent c.args.table.now c.args.sub.now.tree g.0.sub = record { gives = g.1.gives; coherent = g.1.sound.coherent } in
    let is = c.new_entry.ensures g.0.sub given (record { there = tt; new = tt }) in
    let short = (make_bytes g.0 g.1.sound c.args.path.now made.File c.args.dir c.args.name.now c.requires.path g.2 g.3 tt).0.most in
    let same = ap (λ (n : FlatName). length n.bytes) is in
    record { count = omega arith; short = All-cons (λ (entry : NameEntry). length entry.bytes.now ≤ 255) c.new_entry.result [] (omega arith) (All-nil (λ (entry : NameEntry). length entry.bytes.now ≤ 255)) }

pub returns : goal.returns
returns c = λ run inode gives path_is none.
    let given : GivesCoherent c.args.table.now c.args.sub.now.tree run.sub = record { gives = gives.gives; coherent = gives.sound.coherent } in
    let told = c.new_entry.ensures run.sub given (record { there = tt; new = tt }) in
    let is = entry_made run gives.sound c.args.path.now made.File c.args.dir c.args.name.now c.requires.path path_is none tt (name_of c.new_entry.result) c.args.sub.now.next_index c.args.sub.now.next_ino told gives.next_index gives.next_ino in
    let new = made_new run gives.sound c.args.path.now made.File c.args.dir c.args.name.now c.requires.path path_is none tt (name_of c.new_entry.result) is in
    let free = c.do_collide.ensures run.sub given (record { there = tt; new = (new, tt) }) in
    let same = told ∙ ap (new_name run.sub.names (AtSlot c.args.dir c.args.name.now None) c.args.sub.now.next_index) gives.next_ino in
    c.collision.ensures ∙ ap (λ (b : Bool). cond b (Some Collide) None) (free ∙ ap (λ (n : FlatName). do_collide run.sub.names (n ∷ [])) same)
    ∙ sym (make_untested run c.args.path.now inode c.args.sub.now.next_index (AtSlot c.args.dir c.args.name.now None) path_is none)
