use Rattle.std.proofs.Common.{◌≡◌, ◌≤◌, List, [], ◌∷◌, length, sym, ap, subst, ◌∙◌, arith, ◌+◌, cond, Bool, Some, None}
use Rattle.std.proofs.lemmas.List.Elements.{All-cons, All-nil}
use Rattle.flat_model.specs.Names.{FlatName, remove_name}
use Rattle.flat_model.specs.Operations.{do_collide, new_name}
use Rattle.name_walk.specs.Given.{GivesCoherent}
use Rattle.name_items.specs.Names.{name_of}
use Rattle.name_items.specs.declared.entry.NameEntry.{NameEntry}
use Rattle.name_ops.specs.Changes.{AreNew, IsChange}
use Rattle.name_ops.specs.Sums.{IsFew}
use Rattle.name_ops.proofs.Exchanged.{a_not_root, a_short, b_not_root, b_short, both_new, both_there, entry_is_a, entry_is_b, new_a, new_b}
use Rattle.flat_model.specs.declared.answer.Answer.TheVariants.{Collide}
use Rattle.name_ops.specs.Slots.{at_name}
use Rattle.name_ops.proofs.Judged.{exchange_untested}
use Rattle.name_ops.proofs.colliding.exchange_collision.Goals as goal

few_of : (one two : NameEntry) → length one.bytes.now ≤ 255 → length two.bytes.now ≤ 255 → IsFew (one ∷ two ∷ [])
few_of one two s t = record {
  count = omega arith;
  short = All-cons (λ (entry : NameEntry). length entry.bytes.now ≤ 255) one (two ∷ []) s (All-cons (λ (entry : NameEntry). length entry.bytes.now ≤ 255) two [] t (All-nil (λ (entry : NameEntry). length entry.bytes.now ≤ 255)));
}

pub new_entry-requires-clause-given : goal.new_entry-requires-clause-given
new_entry-requires-clause-given c =
    let g = c.requires.given in
    let a = name_of c.args.first in
    let b = name_of c.args.second in
    (g.0.sub, record { gives = g.1.gives; coherent = g.1.sound.coherent }, record { there = both_there g.0 g.1.sound c.args.one.now c.args.two.now c.requires.one c.requires.two a b g.2 g.3 g.4; new = tt })

pub new_entry-requires-clause-gone : goal.new_entry-requires-clause-gone
new_entry-requires-clause-gone c =
    let g = c.requires.given in
    let a = name_of c.args.first in
    let b = name_of c.args.second in
    few_of c.args.first c.args.second (a_short g.0 g.1.sound c.args.one.now c.args.two.now c.requires.one c.requires.two a b g.2 g.3 g.4) (b_short g.0 g.1.sound c.args.one.now c.args.two.now c.requires.one c.requires.two a b g.2 g.3 g.4)

pub new_entry-requires-clause-not_root : goal.new_entry-requires-clause-not_root
new_entry-requires-clause-not_root c =
    let g = c.requires.given in
    let a = name_of c.args.first in
    let b = name_of c.args.second in
    b_not_root g.0 g.1.sound c.args.one.now c.args.two.now c.requires.one c.requires.two a b g.2 g.3 g.4

pub new_entry-requires-clause-short : goal.new_entry-requires-clause-short
new_entry-requires-clause-short c =
    let g = c.requires.given in
    let a = name_of c.args.first in
    let b = name_of c.args.second in
    a_short g.0 g.1.sound c.args.one.now c.args.two.now c.requires.one c.requires.two a b g.2 g.3 g.4

pub new_entry-requires-2-clause-given : goal.new_entry-requires-2-clause-given
new_entry-requires-2-clause-given c =
    let g = c.requires.given in
    let a = name_of c.args.first in
    let b = name_of c.args.second in
    (g.0.sub, record { gives = g.1.gives; coherent = g.1.sound.coherent }, record { there = both_there g.0 g.1.sound c.args.one.now c.args.two.now c.requires.one c.requires.two a b g.2 g.3 g.4; new = tt })

pub new_entry-requires-2-clause-gone : goal.new_entry-requires-2-clause-gone
new_entry-requires-2-clause-gone c =
    let g = c.requires.given in
    let a = name_of c.args.first in
    let b = name_of c.args.second in
    few_of c.args.first c.args.second (a_short g.0 g.1.sound c.args.one.now c.args.two.now c.requires.one c.requires.two a b g.2 g.3 g.4) (b_short g.0 g.1.sound c.args.one.now c.args.two.now c.requires.one c.requires.two a b g.2 g.3 g.4)

pub new_entry-requires-2-clause-not_root : goal.new_entry-requires-2-clause-not_root
new_entry-requires-2-clause-not_root c =
    let g = c.requires.given in
    let a = name_of c.args.first in
    let b = name_of c.args.second in
    a_not_root g.0 g.1.sound c.args.one.now c.args.two.now c.requires.one c.requires.two a b g.2 g.3 g.4

pub new_entry-requires-2-clause-short : goal.new_entry-requires-2-clause-short
new_entry-requires-2-clause-short c =
    let g = c.requires.given in
    let a = name_of c.args.first in
    let b = name_of c.args.second in
    b_short g.0 g.1.sound c.args.one.now c.args.two.now c.requires.one c.requires.two a b g.2 g.3 g.4

pub do_collide-requires-clause-given : goal.do_collide-requires-clause-given
do_collide-requires-clause-given c =
    let g = c.requires.given in
    let a = name_of c.args.first in
    let b = name_of c.args.second in
    let change : IsChange g.0.sub.names (c.args.first ∷ c.args.second ∷ []) [] = record { there = both_there g.0 g.1.sound c.args.one.now c.args.two.now c.requires.one c.requires.two a b g.2 g.3 g.4; new = tt } in
    let given : GivesCoherent c.args.table.now c.args.sub.now.tree g.0.sub = record { gives = g.1.gives; coherent = g.1.sound.coherent } in
    let is_a = entry_is_a g.0 g.1.sound c.args.one.now c.args.two.now c.requires.one c.requires.two a b g.2 g.3 g.4 (name_of c.new_entry.result) c.args.sub.now.next_index (c.new_entry.ensures g.0.sub given change) g.1.next_index in
    let is_b = entry_is_b g.0 g.1.sound c.args.one.now c.args.two.now c.requires.one c.requires.two a b g.2 g.3 g.4 (name_of c.new_entry-2.result) c.args.sub.now.next_index (c.new_entry-2.ensures g.0.sub given change) g.1.next_index in
    let names : ◌≡◌ {A = List FlatName} (new_a g.0 g.1.sound c.args.one.now c.args.two.now c.requires.one c.requires.two a b g.2 g.3 g.4 ∷ new_b g.0 g.1.sound c.args.one.now c.args.two.now c.requires.one c.requires.two a b g.2 g.3 g.4 ∷ []) (name_of c.new_entry.result ∷ name_of c.new_entry-2.result ∷ []) = λ i. sym is_a i ∷ sym is_b i ∷ [] in
    let left = remove_name b (remove_name a g.0.sub.names) in
    let both : IsChange g.0.sub.names (c.args.first ∷ c.args.second ∷ []) (c.new_entry.result ∷ c.new_entry-2.result ∷ []) = record { there = both_there g.0 g.1.sound c.args.one.now c.args.two.now c.requires.one c.requires.two a b g.2 g.3 g.4; new = subst (AreNew left) names (both_new g.0 g.1.sound c.args.one.now c.args.two.now c.requires.one c.requires.two a b g.2 g.3 g.4) } in
    (g.0.sub, given, both)

pub do_collide-requires-clause-gone : goal.do_collide-requires-clause-gone
do_collide-requires-clause-gone c =
    let g = c.requires.given in
    let a = name_of c.args.first in
    let b = name_of c.args.second in
    few_of c.args.first c.args.second (a_short g.0 g.1.sound c.args.one.now c.args.two.now c.requires.one c.requires.two a b g.2 g.3 g.4) (b_short g.0 g.1.sound c.args.one.now c.args.two.now c.requires.one c.requires.two a b g.2 g.3 g.4)

pub do_collide-requires-clause-made : goal.do_collide-requires-clause-made
do_collide-requires-clause-made c =
    let g = c.requires.given in
    let a = name_of c.args.first in
    let b = name_of c.args.second in
    let change : IsChange g.0.sub.names (c.args.first ∷ c.args.second ∷ []) [] = record { there = both_there g.0 g.1.sound c.args.one.now c.args.two.now c.requires.one c.requires.two a b g.2 g.3 g.4; new = tt } in
    let given : GivesCoherent c.args.table.now c.args.sub.now.tree g.0.sub = record { gives = g.1.gives; coherent = g.1.sound.coherent } in
    let is_a = entry_is_a g.0 g.1.sound c.args.one.now c.args.two.now c.requires.one c.requires.two a b g.2 g.3 g.4 (name_of c.new_entry.result) c.args.sub.now.next_index (c.new_entry.ensures g.0.sub given change) g.1.next_index in
    let is_b = entry_is_b g.0 g.1.sound c.args.one.now c.args.two.now c.requires.one c.requires.two a b g.2 g.3 g.4 (name_of c.new_entry-2.result) c.args.sub.now.next_index (c.new_entry-2.ensures g.0.sub given change) g.1.next_index in
    let names : ◌≡◌ {A = List FlatName} (new_a g.0 g.1.sound c.args.one.now c.args.two.now c.requires.one c.requires.two a b g.2 g.3 g.4 ∷ new_b g.0 g.1.sound c.args.one.now c.args.two.now c.requires.one c.requires.two a b g.2 g.3 g.4 ∷ []) (name_of c.new_entry.result ∷ name_of c.new_entry-2.result ∷ []) = λ i. sym is_a i ∷ sym is_b i ∷ [] in
    let left = remove_name b (remove_name a g.0.sub.names) in
    let both : IsChange g.0.sub.names (c.args.first ∷ c.args.second ∷ []) (c.new_entry.result ∷ c.new_entry-2.result ∷ []) = record { there = both_there g.0 g.1.sound c.args.one.now c.args.two.now c.requires.one c.requires.two a b g.2 g.3 g.4; new = subst (AreNew left) names (both_new g.0 g.1.sound c.args.one.now c.args.two.now c.requires.one c.requires.two a b g.2 g.3 g.4) } in
    let short_a = a_short g.0 g.1.sound c.args.one.now c.args.two.now c.requires.one c.requires.two a b g.2 g.3 g.4 in
    let short_b = b_short g.0 g.1.sound c.args.one.now c.args.two.now c.requires.one c.requires.two a b g.2 g.3 g.4 in
    let same_a = ap (λ (n : FlatName). length n.bytes) is_a in
    let same_b = ap (λ (n : FlatName). length n.bytes) is_b in
    few_of c.new_entry.result c.new_entry-2.result (omega arith) (omega arith)

pub returns : goal.returns
returns c = λ run gives from_is to_is none.
    let a = name_of c.args.first in
    let b = name_of c.args.second in
    let change : IsChange run.sub.names (c.args.first ∷ c.args.second ∷ []) [] = record { there = both_there run gives.sound c.args.one.now c.args.two.now c.requires.one c.requires.two a b from_is to_is none; new = tt } in
    let given : GivesCoherent c.args.table.now c.args.sub.now.tree run.sub = record { gives = gives.gives; coherent = gives.sound.coherent } in
    let told_a = c.new_entry.ensures run.sub given change in
    let told_b = c.new_entry-2.ensures run.sub given change in
    let is_a = entry_is_a run gives.sound c.args.one.now c.args.two.now c.requires.one c.requires.two a b from_is to_is none (name_of c.new_entry.result) c.args.sub.now.next_index told_a gives.next_index in
    let is_b = entry_is_b run gives.sound c.args.one.now c.args.two.now c.requires.one c.requires.two a b from_is to_is none (name_of c.new_entry-2.result) c.args.sub.now.next_index told_b gives.next_index in
    let names : ◌≡◌ {A = List FlatName} (new_a run gives.sound c.args.one.now c.args.two.now c.requires.one c.requires.two a b from_is to_is none ∷ new_b run gives.sound c.args.one.now c.args.two.now c.requires.one c.requires.two a b from_is to_is none ∷ []) (name_of c.new_entry.result ∷ name_of c.new_entry-2.result ∷ []) = λ i. sym is_a i ∷ sym is_b i ∷ [] in
    let left = remove_name b (remove_name a run.sub.names) in
    let both : IsChange run.sub.names (c.args.first ∷ c.args.second ∷ []) (c.new_entry.result ∷ c.new_entry-2.result ∷ []) = record { there = both_there run gives.sound c.args.one.now c.args.two.now c.requires.one c.requires.two a b from_is to_is none; new = subst (AreNew left) names (both_new run gives.sound c.args.one.now c.args.two.now c.requires.one c.requires.two a b from_is to_is none) } in
    let free = c.do_collide.ensures run.sub given both in
    let told : ◌≡◌ {A = List FlatName} (name_of c.new_entry.result ∷ name_of c.new_entry-2.result ∷ []) (new_name left (at_name a) c.args.sub.now.next_index b.ino ∷ new_name left (at_name b) (c.args.sub.now.next_index + 1) a.ino ∷ []) = λ i. told_a i ∷ told_b i ∷ [] in
    c.collision.ensures ∙ ap (λ (b : Bool). cond b (Some Collide) None) (free ∙ ap (do_collide left) told)
    ∙ sym (exchange_untested run c.args.one.now c.args.two.now c.args.sub.now.next_index (c.args.sub.now.next_index + 1) (at_name a) (at_name b) from_is to_is none)
