use Rattle.std.proofs.Common.{◌≤◌, [], ◌∷◌, length, sym, ap, ◌∙◌, arith, cond, Bool, Some, None}
use Rattle.std.proofs.lemmas.List.Elements.{All-cons, All-nil}
use Rattle.flat_model.specs.Names.{FlatName}
use Rattle.flat_model.specs.Operations.{do_collide, new_name}
use Rattle.name_walk.specs.Ends.{end_view}
use Rattle.name_walk.specs.Given.{GivesCoherent}
use Rattle.name_items.specs.Names.{name_of}
use Rattle.name_items.specs.declared.entry.NameEntry.{NameEntry}
use Rattle.name_ops.proofs.Linked.{entry_linked, link_bytes, link_not_root, linked_new}
use Rattle.flat_model.specs.declared.answer.Answer.TheVariants.{Collide}
use Rattle.flat_model.specs.Walk.{AtSlot}
use Rattle.name_ops.proofs.Judged.{link_untested}
use Rattle.name_ops.proofs.colliding.link_collision.Goals as goal

pub new_entry-requires-clause-given : goal.new_entry-requires-clause-given
new_entry-requires-clause-given c =
    let g = c.requires.given in
    (g.0.sub, record { gives = g.1.gives; coherent = g.1.sound.coherent }, record { there = tt; new = tt })

pub new_entry-requires-clause-not_root : goal.new_entry-requires-clause-not_root
new_entry-requires-clause-not_root c =
    let g = c.requires.given in
    λ e. link_not_root g.0 g.1.sound c.args.old.now c.args.new.now (end_view c.args.from.now) c.args.dir c.args.name.now c.requires.old c.requires.new g.2 g.3 g.4 (sym c.ino.ensures ∙ e)

pub new_entry-requires-clause-short : goal.new_entry-requires-clause-short
new_entry-requires-clause-short c =
    let g = c.requires.given in
    (link_bytes g.0 g.1.sound c.args.old.now c.args.new.now (end_view c.args.from.now) c.args.dir c.args.name.now c.requires.old c.requires.new g.2 g.3 g.4).0.most

pub do_collide-requires-clause-given : goal.do_collide-requires-clause-given
do_collide-requires-clause-given c =
    let g = c.requires.given in
    let is = entry_linked g.0 g.1.sound c.args.old.now c.args.new.now (end_view c.args.from.now) c.args.dir c.args.name.now c.requires.old c.requires.new g.2 g.3 g.4 (name_of c.new_entry.result) c.args.sub.now.next_index c.ino.result
    (c.new_entry.ensures g.0.sub (record { gives = g.1.gives; coherent = g.1.sound.coherent }) (record { there = tt; new = tt })) g.1.next_index c.ino.ensures in (
      g.0.sub,
      record { gives = g.1.gives; coherent = g.1.sound.coherent },
      record { there = tt; new = (linked_new g.0 g.1.sound c.args.old.now c.args.new.now (end_view c.args.from.now) c.args.dir c.args.name.now c.requires.old c.requires.new g.2 g.3 g.4 (name_of c.new_entry.result) is, tt) },
    )

pub do_collide-requires-clause-made : goal.do_collide-requires-clause-made
do_collide-requires-clause-made c =
    let g = c.requires.given in
    let is = c.new_entry.ensures g.0.sub (record { gives = g.1.gives; coherent = g.1.sound.coherent }) (record { there = tt; new = tt }) in
    let short = (link_bytes g.0 g.1.sound c.args.old.now c.args.new.now (end_view c.args.from.now) c.args.dir c.args.name.now c.requires.old c.requires.new g.2 g.3 g.4).0.most in
    let same = ap (λ (n : FlatName). length n.bytes) is in
    record { count = omega arith; short = All-cons (λ (entry : NameEntry). length entry.bytes.now ≤ 255) c.new_entry.result [] (omega arith) (All-nil (λ (entry : NameEntry). length entry.bytes.now ≤ 255)) }

pub returns : goal.returns
returns c = λ run gives from_is to_is none.
    let given : GivesCoherent c.args.table.now c.args.sub.now.tree run.sub = record { gives = gives.gives; coherent = gives.sound.coherent } in
    let told = c.new_entry.ensures run.sub given (record { there = tt; new = tt }) in
    let is = entry_linked run gives.sound c.args.old.now c.args.new.now (end_view c.args.from.now) c.args.dir c.args.name.now c.requires.old c.requires.new from_is to_is none (name_of c.new_entry.result) c.args.sub.now.next_index c.ino.result told gives.next_index c.ino.ensures in
    let new = linked_new run gives.sound c.args.old.now c.args.new.now (end_view c.args.from.now) c.args.dir c.args.name.now c.requires.old c.requires.new from_is to_is none (name_of c.new_entry.result) is in
    let free = c.do_collide.ensures run.sub given (record { there = tt; new = (new, tt) }) in
    let same = told ∙ ap (new_name run.sub.names (AtSlot c.args.dir c.args.name.now None) c.args.sub.now.next_index) c.ino.ensures in
    c.collision.ensures ∙ ap (λ (b : Bool). cond b (Some Collide) None) (free ∙ ap (λ (n : FlatName). do_collide run.sub.names (n ∷ [])) same)
    ∙ sym (link_untested run c.args.old.now c.args.new.now c.args.sub.now.next_index (end_view c.args.from.now) (AtSlot c.args.dir c.args.name.now None) from_is to_is none)
