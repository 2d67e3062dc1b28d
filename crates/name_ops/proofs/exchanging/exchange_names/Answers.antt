use Rattle.std.proofs.Common.{◌≡◌, ◌≤◌, List, [], ◌∷◌, true, false, length, sym, ap, subst, ◌∙◌, arith}
use Rattle.std.proofs.lemmas.List.Elements.{All-cons, All-nil}
use Rattle.flat_model.specs.Names.{FlatName, remove_name}
use Rattle.flat_model.specs.Operations.{add_names, do_collide}
use Rattle.table_volume.specs.Edited.{Makes}
use Rattle.name_walk.specs.Given.{GivesCoherent}
use Rattle.name_items.specs.Names.{name_of}
use Rattle.name_items.specs.declared.entry.NameEntry.{NameEntry}
use Rattle.name_ops.specs.Changes.{AreNew, IsChange, MayCome, with_names}
use Rattle.name_ops.specs.Sums.{IsFew}
use Rattle.name_ops.proofs.Exchanged.{a_not_root, a_short, b_not_root, b_short, both_come, both_go, both_new, both_there, entry_is_a, entry_is_b, exchange_collides, exchange_done_so, new_a, new_b}
use Rattle.name_ops.proofs.Stages.{makes_joined, room_left, room_less}
use Rattle.name_ops.proofs.exchanging.exchange_names.Goals as goal

few_of : (one two : NameEntry) → length one.bytes.now ≤ 255 → length two.bytes.now ≤ 255 → IsFew (one ∷ two ∷ [])
few_of one two s t = record {
  count = omega arith;
  short = All-cons (λ (entry : NameEntry). length entry.bytes.now ≤ 255) one (two ∷ []) s (All-cons (λ (entry : NameEntry). length entry.bytes.now ≤ 255) two [] t (All-nil (λ (entry : NameEntry). length entry.bytes.now ≤ 255)));
}

pub new_entry-requires-clause-given : goal.new_entry-requires-clause-given
new_entry-requires-clause-given c =
    let g = c.requires.given in
    let a = name_of c.args.first in
    let b = name_of c.args.second in
    (g.0.sub, record { gives = g.1.gives; coherent = g.1.sound.coherent }, record { there = both_there g.0 g.1.sound c.args.one.now c.args.two.now c.requires.one c.requires.two a b g.2 g.3 g.4; new = tt })

pub new_entry-requires-clause-gone : goal.new_entry-requires-clause-gone
new_entry-requires-clause-gone c =
    let g = c.requires.given in
    let a = name_of c.args.first in
    let b = name_of c.args.second in
    few_of c.args.first c.args.second (a_short g.0 g.1.sound c.args.one.now c.args.two.now c.requires.one c.requires.two a b g.2 g.3 g.4) (b_short g.0 g.1.sound c.args.one.now c.args.two.now c.requires.one c.requires.two a b g.2 g.3 g.4)

pub new_entry-requires-clause-not_root : goal.new_entry-requires-clause-not_root
new_entry-requires-clause-not_root c =
    let g = c.requires.given in
    let a = name_of c.args.first in
    let b = name_of c.args.second in
    b_not_root g.0 g.1.sound c.args.one.now c.args.two.now c.requires.one c.requires.two a b g.2 g.3 g.4

pub new_entry-requires-clause-short : goal.new_entry-requires-clause-short
new_entry-requires-clause-short c =
    let g = c.requires.given in
    let a = name_of c.args.first in
    let b = name_of c.args.second in
    a_short g.0 g.1.sound c.args.one.now c.args.two.now c.requires.one c.requires.two a b g.2 g.3 g.4

pub new_entry-requires-2-clause-given : goal.new_entry-requires-2-clause-given
new_entry-requires-2-clause-given c =
    let g = c.requires.given in
    let a = name_of c.args.first in
    let b = name_of c.args.second in
    (g.0.sub, record { gives = g.1.gives; coherent = g.1.sound.coherent }, record { there = both_there g.0 g.1.sound c.args.one.now c.args.two.now c.requires.one c.requires.two a b g.2 g.3 g.4; new = tt })

pub new_entry-requires-2-clause-gone : goal.new_entry-requires-2-clause-gone
new_entry-requires-2-clause-gone c =
    let g = c.requires.given in
    let a = name_of c.args.first in
    let b = name_of c.args.second in
    few_of c.args.first c.args.second (a_short g.0 g.1.sound c.args.one.now c.args.two.now c.requires.one c.requires.two a b g.2 g.3 g.4) (b_short g.0 g.1.sound c.args.one.now c.args.two.now c.requires.one c.requires.two a b g.2 g.3 g.4)

pub new_entry-requires-2-clause-not_root : goal.new_entry-requires-2-clause-not_root
new_entry-requires-2-clause-not_root c =
    let g = c.requires.given in
    let a = name_of c.args.first in
    let b = name_of c.args.second in
    a_not_root g.0 g.1.sound c.args.one.now c.args.two.now c.requires.one c.requires.two a b g.2 g.3 g.4

pub new_entry-requires-2-clause-short : goal.new_entry-requires-2-clause-short
new_entry-requires-2-clause-short c =
    let g = c.requires.given in
    let a = name_of c.args.first in
    let b = name_of c.args.second in
    b_short g.0 g.1.sound c.args.one.now c.args.two.now c.requires.one c.requires.two a b g.2 g.3 g.4

pub do_collide-requires-clause-given : goal.do_collide-requires-clause-given
do_collide-requires-clause-given c =
    let g = c.requires.given in
    let a = name_of c.args.first in
    let b = name_of c.args.second in
    let change : IsChange g.0.sub.names (c.args.first ∷ c.args.second ∷ []) [] = record { there = both_there g.0 g.1.sound c.args.one.now c.args.two.now c.requires.one c.requires.two a b g.2 g.3 g.4; new = tt } in
    let given : GivesCoherent c.args.table.now c.args.sub.now.tree g.0.sub = record { gives = g.1.gives; coherent = g.1.sound.coherent } in
    let is_a = entry_is_a g.0 g.1.sound c.args.one.now c.args.two.now c.requires.one c.requires.two a b g.2 g.3 g.4 (name_of c.new_entry.result) c.args.sub.now.next_index (c.new_entry.ensures g.0.sub given change) g.1.next_index in
    let is_b = entry_is_b g.0 g.1.sound c.args.one.now c.args.two.now c.requires.one c.requires.two a b g.2 g.3 g.4 (name_of c.new_entry-2.result) c.args.sub.now.next_index (c.new_entry-2.ensures g.0.sub given change) g.1.next_index in
    let names : ◌≡◌ {A = List FlatName} (new_a g.0 g.1.sound c.args.one.now c.args.two.now c.requires.one c.requires.two a b g.2 g.3 g.4 ∷ new_b g.0 g.1.sound c.args.one.now c.args.two.now c.requires.one c.requires.two a b g.2 g.3 g.4 ∷ []) (name_of c.new_entry.result ∷ name_of c.new_entry-2.result ∷ []) = λ i. sym is_a i ∷ sym is_b i ∷ [] in
    let left = remove_name b (remove_name a g.0.sub.names) in
    let both : IsChange g.0.sub.names (c.args.first ∷ c.args.second ∷ []) (c.new_entry.result ∷ c.new_entry-2.result ∷ []) = record { there = both_there g.0 g.1.sound c.args.one.now c.args.two.now c.requires.one c.requires.two a b g.2 g.3 g.4; new = subst (AreNew left) names (both_new g.0 g.1.sound c.args.one.now c.args.two.now c.requires.one c.requires.two a b g.2 g.3 g.4) } in
    (g.0.sub, given, both)

pub do_collide-requires-clause-gone : goal.do_collide-requires-clause-gone
do_collide-requires-clause-gone c =
    let g = c.requires.given in
    let a = name_of c.args.first in
    let b = name_of c.args.second in
    few_of c.args.first c.args.second (a_short g.0 g.1.sound c.args.one.now c.args.two.now c.requires.one c.requires.two a b g.2 g.3 g.4) (b_short g.0 g.1.sound c.args.one.now c.args.two.now c.requires.one c.requires.two a b g.2 g.3 g.4)

pub do_collide-requires-clause-made : goal.do_collide-requires-clause-made
do_collide-requires-clause-made c =
    let g = c.requires.given in
    let a = name_of c.args.first in
    let b = name_of c.args.second in
    let change : IsChange g.0.sub.names (c.args.first ∷ c.args.second ∷ []) [] = record { there = both_there g.0 g.1.sound c.args.one.now c.args.two.now c.requires.one c.requires.two a b g.2 g.3 g.4; new = tt } in
    let given : GivesCoherent c.args.table.now c.args.sub.now.tree g.0.sub = record { gives = g.1.gives; coherent = g.1.sound.coherent } in
    let is_a = entry_is_a g.0 g.1.sound c.args.one.now c.args.two.now c.requires.one c.requires.two a b g.2 g.3 g.4 (name_of c.new_entry.result) c.args.sub.now.next_index (c.new_entry.ensures g.0.sub given change) g.1.next_index in
    let is_b = entry_is_b g.0 g.1.sound c.args.one.now c.args.two.now c.requires.one c.requires.two a b g.2 g.3 g.4 (name_of c.new_entry-2.result) c.args.sub.now.next_index (c.new_entry-2.ensures g.0.sub given change) g.1.next_index in
    let names : ◌≡◌ {A = List FlatName} (new_a g.0 g.1.sound c.args.one.now c.args.two.now c.requires.one c.requires.two a b g.2 g.3 g.4 ∷ new_b g.0 g.1.sound c.args.one.now c.args.two.now c.requires.one c.requires.two a b g.2 g.3 g.4 ∷ []) (name_of c.new_entry.result ∷ name_of c.new_entry-2.result ∷ []) = λ i. sym is_a i ∷ sym is_b i ∷ [] in
    let left = remove_name b (remove_name a g.0.sub.names) in
    let both : IsChange g.0.sub.names (c.args.first ∷ c.args.second ∷ []) (c.new_entry.result ∷ c.new_entry-2.result ∷ []) = record { there = both_there g.0 g.1.sound c.args.one.now c.args.two.now c.requires.one c.requires.two a b g.2 g.3 g.4; new = subst (AreNew left) names (both_new g.0 g.1.sound c.args.one.now c.args.two.now c.requires.one c.requires.two a b g.2 g.3 g.4) } in
    let short_a = a_short g.0 g.1.sound c.args.one.now c.args.two.now c.requires.one c.requires.two a b g.2 g.3 g.4 in
    let short_b = b_short g.0 g.1.sound c.args.one.now c.args.two.now c.requires.one c.requires.two a b g.2 g.3 g.4 in
    let same_a = ap (λ (n : FlatName). length n.bytes) is_a in
    let same_b = ap (λ (n : FlatName). length n.bytes) is_b in
    few_of c.new_entry.result c.new_entry-2.result (omega arith) (omega arith)

pub remove_names-requires-clause-may : goal.remove_names-requires-clause-may
remove_names-requires-clause-may c =
    let g = c.requires.given in
    let a = name_of c.args.first in
    let b = name_of c.args.second in
    (g.0.sub, g.1.gives, both_go g.0 g.1.sound c.args.one.now c.args.two.now c.requires.one c.requires.two a b g.2 g.3 g.4)

pub add_names-requires-clause-may : goal.add_names-requires-clause-may
add_names-requires-clause-may c =
    let g = c.requires.given in
    let a = name_of c.args.first in
    let b = name_of c.args.second in
    let change : IsChange g.0.sub.names (c.args.first ∷ c.args.second ∷ []) [] = record { there = both_there g.0 g.1.sound c.args.one.now c.args.two.now c.requires.one c.requires.two a b g.2 g.3 g.4; new = tt } in
    let given : GivesCoherent c.args.table.now c.args.sub.now.tree g.0.sub = record { gives = g.1.gives; coherent = g.1.sound.coherent } in
    let is_a = entry_is_a g.0 g.1.sound c.args.one.now c.args.two.now c.requires.one c.requires.two a b g.2 g.3 g.4 (name_of c.new_entry.result) c.args.sub.now.next_index (c.new_entry.ensures g.0.sub given change) g.1.next_index in
    let is_b = entry_is_b g.0 g.1.sound c.args.one.now c.args.two.now c.requires.one c.requires.two a b g.2 g.3 g.4 (name_of c.new_entry-2.result) c.args.sub.now.next_index (c.new_entry-2.ensures g.0.sub given change) g.1.next_index in
    let names : ◌≡◌ {A = List FlatName} (new_a g.0 g.1.sound c.args.one.now c.args.two.now c.requires.one c.requires.two a b g.2 g.3 g.4 ∷ new_b g.0 g.1.sound c.args.one.now c.args.two.now c.requires.one c.requires.two a b g.2 g.3 g.4 ∷ []) (name_of c.new_entry.result ∷ name_of c.new_entry-2.result ∷ []) = λ i. sym is_a i ∷ sym is_b i ∷ [] in
    let left = remove_name b (remove_name a g.0.sub.names) in
    let both : IsChange g.0.sub.names (c.args.first ∷ c.args.second ∷ []) (c.new_entry.result ∷ c.new_entry-2.result ∷ []) = record { there = both_there g.0 g.1.sound c.args.one.now c.args.two.now c.requires.one c.requires.two a b g.2 g.3 g.4; new = subst (AreNew left) names (both_new g.0 g.1.sound c.args.one.now c.args.two.now c.requires.one c.requires.two a b g.2 g.3 g.4) } in
    let gone = c.remove_names.ensures.gone g.0.sub g.1.gives (both_go g.0 g.1.sound c.args.one.now c.args.two.now c.requires.one c.requires.two a b g.2 g.3 g.4) in
    let free : do_collide left (new_a g.0 g.1.sound c.args.one.now c.args.two.now c.requires.one c.requires.two a b g.2 g.3 g.4 ∷ new_b g.0 g.1.sound c.args.one.now c.args.two.now c.requires.one c.requires.two a b g.2 g.3 g.4 ∷ []) ≡ false = ap (do_collide left) names ∙ sym (c.do_collide.ensures g.0.sub given both) ∙ c.if-do_collide.false in
    (with_names g.0.sub left, gone.gives, subst (MayCome (with_names g.0.sub left)) names (both_come g.0 g.1.sound c.args.one.now c.args.two.now c.requires.one c.requires.two a b g.2 g.3 g.4 free))

pub add_names-requires-clause-current : goal.add_names-requires-clause-current
add_names-requires-clause-current c =
    let g = c.requires.given in
    let a = name_of c.args.first in
    let b = name_of c.args.second in
    let gone = c.remove_names.ensures.gone g.0.sub g.1.gives (both_go g.0 g.1.sound c.args.one.now c.args.two.now c.requires.one c.requires.two a b g.2 g.3 g.4) in
    gone.edit.current

pub add_names-requires-clause-room : goal.add_names-requires-clause-room
add_names-requires-clause-room c =
    let g = c.requires.given in
    let a = name_of c.args.first in
    let b = name_of c.args.second in
    let gone = c.remove_names.ensures.gone g.0.sub g.1.gives (both_go g.0 g.1.sound c.args.one.now c.args.two.now c.requires.one c.requires.two a b g.2 g.3 g.4) in
    room_left c.args.table.now c.remove_names.new.table c.args.sub.now c.remove_names.new.sub 170 170 (with_names g.0.sub (remove_name b (remove_name a g.0.sub.names))) (room_less c.args.table.now 512 340 c.requires.room (omega arith)) gone

pub returns-then-do_collide : goal.returns-then-do_collide
returns-then-do_collide c = λ run gives from_is to_is none.
    let a = name_of c.args.first in
    let b = name_of c.args.second in
    let change : IsChange run.sub.names (c.args.first ∷ c.args.second ∷ []) [] = record { there = both_there run gives.sound c.args.one.now c.args.two.now c.requires.one c.requires.two a b from_is to_is none; new = tt } in
    let given : GivesCoherent c.args.table.now c.args.sub.now.tree run.sub = record { gives = gives.gives; coherent = gives.sound.coherent } in
    let is_a = entry_is_a run gives.sound c.args.one.now c.args.two.now c.requires.one c.requires.two a b from_is to_is none (name_of c.new_entry.result) c.args.sub.now.next_index (c.new_entry.ensures run.sub given change) gives.next_index in
    let is_b = entry_is_b run gives.sound c.args.one.now c.args.two.now c.requires.one c.requires.two a b from_is to_is none (name_of c.new_entry-2.result) c.args.sub.now.next_index (c.new_entry-2.ensures run.sub given change) gives.next_index in
    let names : ◌≡◌ {A = List FlatName} (new_a run gives.sound c.args.one.now c.args.two.now c.requires.one c.requires.two a b from_is to_is none ∷ new_b run gives.sound c.args.one.now c.args.two.now c.requires.one c.requires.two a b from_is to_is none ∷ []) (name_of c.new_entry.result ∷ name_of c.new_entry-2.result ∷ []) = λ i. sym is_a i ∷ sym is_b i ∷ [] in
    let left = remove_name b (remove_name a run.sub.names) in
    let both : IsChange run.sub.names (c.args.first ∷ c.args.second ∷ []) (c.new_entry.result ∷ c.new_entry-2.result ∷ []) = record { there = both_there run gives.sound c.args.one.now c.args.two.now c.requires.one c.requires.two a b from_is to_is none; new = subst (AreNew left) names (both_new run gives.sound c.args.one.now c.args.two.now c.requires.one c.requires.two a b from_is to_is none) } in
    let full : do_collide left (new_a run gives.sound c.args.one.now c.args.two.now c.requires.one c.requires.two a b from_is to_is none ∷ new_b run gives.sound c.args.one.now c.args.two.now c.requires.one c.requires.two a b from_is to_is none ∷ []) ≡ true = ap (do_collide left) names ∙ sym (c.do_collide.ensures run.sub given both) ∙ c.if-do_collide.true in
    exchange_collides run gives.sound c.args.one.now c.args.two.now c.requires.one c.requires.two a b from_is to_is none c.args.table.now c.args.sub.now gives full

pub returns : goal.returns
returns c = λ run gives from_is to_is none.
    let a = name_of c.args.first in
    let b = name_of c.args.second in
    let change : IsChange run.sub.names (c.args.first ∷ c.args.second ∷ []) [] = record { there = both_there run gives.sound c.args.one.now c.args.two.now c.requires.one c.requires.two a b from_is to_is none; new = tt } in
    let given : GivesCoherent c.args.table.now c.args.sub.now.tree run.sub = record { gives = gives.gives; coherent = gives.sound.coherent } in
    let is_a = entry_is_a run gives.sound c.args.one.now c.args.two.now c.requires.one c.requires.two a b from_is to_is none (name_of c.new_entry.result) c.args.sub.now.next_index (c.new_entry.ensures run.sub given change) gives.next_index in
    let is_b = entry_is_b run gives.sound c.args.one.now c.args.two.now c.requires.one c.requires.two a b from_is to_is none (name_of c.new_entry-2.result) c.args.sub.now.next_index (c.new_entry-2.ensures run.sub given change) gives.next_index in
    let names : ◌≡◌ {A = List FlatName} (new_a run gives.sound c.args.one.now c.args.two.now c.requires.one c.requires.two a b from_is to_is none ∷ new_b run gives.sound c.args.one.now c.args.two.now c.requires.one c.requires.two a b from_is to_is none ∷ []) (name_of c.new_entry.result ∷ name_of c.new_entry-2.result ∷ []) = λ i. sym is_a i ∷ sym is_b i ∷ [] in
    let left = remove_name b (remove_name a run.sub.names) in
    let both : IsChange run.sub.names (c.args.first ∷ c.args.second ∷ []) (c.new_entry.result ∷ c.new_entry-2.result ∷ []) = record { there = both_there run gives.sound c.args.one.now c.args.two.now c.requires.one c.requires.two a b from_is to_is none; new = subst (AreNew left) names (both_new run gives.sound c.args.one.now c.args.two.now c.requires.one c.requires.two a b from_is to_is none) } in
    let free : do_collide left (new_a run gives.sound c.args.one.now c.args.two.now c.requires.one c.requires.two a b from_is to_is none ∷ new_b run gives.sound c.args.one.now c.args.two.now c.requires.one c.requires.two a b from_is to_is none ∷ []) ≡ false = ap (do_collide left) names ∙ sym (c.do_collide.ensures run.sub given both) ∙ c.if-do_collide.false in
    let gone = c.remove_names.ensures.gone run.sub gives.gives (both_go run gives.sound c.args.one.now c.args.two.now c.requires.one c.requires.two a b from_is to_is none) in
    let come = c.add_names.ensures.made (with_names run.sub left) gone.gives (subst (MayCome (with_names run.sub left)) names (both_come run gives.sound c.args.one.now c.args.two.now c.requires.one c.requires.two a b from_is to_is none free)) in
    let whole = makes_joined c.args.table.now c.remove_names.new.table c.add_names.new.table c.args.sub.now c.remove_names.new.sub c.add_names.new.sub 170 170 _ _ gone come in
    let told = subst (λ (made : List FlatName). Makes c.args.table.now c.add_names.new.table c.args.sub.now c.add_names.new.sub 340 (with_names run.sub (add_names left made))) (sym names) whole in
    exchange_done_so run gives.sound c.args.one.now c.args.two.now c.requires.one c.requires.two a b from_is to_is none c.args.table.now c.args.sub.now gives c.add_names.new.table c.add_names.new.sub free told (c.add_names.ensures.next_ino ∙ c.remove_names.ensures.next_ino) (c.add_names.ensures.next_index ∙ c.remove_names.ensures.next_index)
