use Rattle.std.proofs.Common.{◌≡◌, true, false, List, sym, ap, ◌∙◌, refl, nat_le}
use Rattle.std.specs.FinMap.{from_entries}
use Rattle.flat_model.specs.declared.answer.Answer.TheVariants.{NoEnt, NotDir, IsDir, Links, TooLarge}
use Rattle.flat_model.specs.Names.{FlatName, links_of}
use Rattle.flat_model.specs.Volume.{RunSub}
use Rattle.flat_model.specs.Walk.{WalkEnd, walk}
use Rattle.flat_model.specs.Coherent.{most_links}
use Rattle.flat_sub.specs.Lists.{list_view}
use Rattle.flat_sub.specs.View.{sub_view}
use Rattle.std.proofs.lemmas.Bool.{le-leb, lt-leb}
use Rattle.flat_sub.proofs.Makings.{link_refused, link_collides, link_finishes}
use Rattle.flat_sub.proofs.sub.FlatSub.link_in_slot.Goals as goal

pub returns-then-is_absent-clause-done : goal.returns-then-is_absent-clause-done
returns-then-is_absent-clause-done c =
    let run : RunSub = sub_view c.args.self.now in
    let names : List FlatName = run.sub.names in
    let from : WalkEnd = walk run.sub c.args.old.now in
    let absent = sym (c.is_absent.ensures names from c.requires.from) ∙ c.if-is_absent.true in
    link_refused run c.args.old.now c.args.new.now c.args.dir c.requires.free true _ _ _ _ NoEnt absent refl refl refl refl refl

pub returns-then-is_blocked-clause-done : goal.returns-then-is_blocked-clause-done
returns-then-is_blocked-clause-done c =
    let run : RunSub = sub_view c.args.self.now in
    let names : List FlatName = run.sub.names in
    let from : WalkEnd = walk run.sub c.args.old.now in
    let absent = sym (c.is_absent.ensures names from c.requires.from) ∙ c.if-is_absent.false in
    let met = sym (c.is_blocked.ensures names from c.requires.from) ∙ c.if-is_blocked.true in
    link_refused run c.args.old.now c.args.new.now c.args.dir c.requires.free false true _ _ _ NotDir absent met refl refl refl refl

pub returns-then-is_dir_there-clause-done : goal.returns-then-is_dir_there-clause-done
returns-then-is_dir_there-clause-done c =
    let run : RunSub = sub_view c.args.self.now in
    let names : List FlatName = run.sub.names in
    let from : WalkEnd = walk run.sub c.args.old.now in
    let absent = sym (c.is_absent.ensures names from c.requires.from) ∙ c.if-is_absent.false in
    let met = sym (c.is_blocked.ensures names from c.requires.from) ∙ c.if-is_blocked.false in
    let other = sym (c.is_dir_there.ensures names from c.requires.from) ∙ c.if-is_dir_there.true in
    link_refused run c.args.old.now c.args.new.now c.args.dir c.requires.free false false true _ _ IsDir absent met other refl refl refl

pub returns-then-links-ge-MOST_LINKS-clause-done : goal.returns-then-links-ge-MOST_LINKS-clause-done
returns-then-links-ge-MOST_LINKS-clause-done c =
    let run : RunSub = sub_view c.args.self.now in
    let names : List FlatName = run.sub.names in
    let from : WalkEnd = walk run.sub c.args.old.now in
    let absent = sym (c.is_absent.ensures names from c.requires.from) ∙ c.if-is_absent.false in
    let met = sym (c.is_blocked.ensures names from c.requires.from) ∙ c.if-is_blocked.false in
    let other = sym (c.is_dir_there.ensures names from c.requires.from) ∙ c.if-is_dir_there.false in
    let few : nat_le most_links (links_of names (Rattle.std.specs.Option.unwrap_or (Rattle.flat_model.specs.Walk.ino_at from) 0)) ≡ true = ap (λ k. nat_le most_links (links_of names k)) (sym (c.ino-ino.ensures names from c.requires.from)) ∙ ap (nat_le most_links) (sym c.links.ensures) ∙ le-leb most_links c.links.result c.if-links-ge-MOST_LINKS.true in
    link_refused run c.args.old.now c.args.new.now c.args.dir c.requires.free false false false true _ Links absent met other few refl refl

pub returns-then-indexes_are_spent-clause-done : goal.returns-then-indexes_are_spent-clause-done
returns-then-indexes_are_spent-clause-done c =
    let run : RunSub = sub_view c.args.self.now in
    let names : List FlatName = run.sub.names in
    let from : WalkEnd = walk run.sub c.args.old.now in
    let absent = sym (c.is_absent.ensures names from c.requires.from) ∙ c.if-is_absent.false in
    let met = sym (c.is_blocked.ensures names from c.requires.from) ∙ c.if-is_blocked.false in
    let other = sym (c.is_dir_there.ensures names from c.requires.from) ∙ c.if-is_dir_there.false in
    let few : nat_le most_links (links_of names (Rattle.std.specs.Option.unwrap_or (Rattle.flat_model.specs.Walk.ino_at from) 0)) ≡ false = ap (λ k. nat_le most_links (links_of names k)) (sym (c.ino-ino.ensures names from c.requires.from)) ∙ ap (nat_le most_links) (sym c.links.ensures) ∙ lt-leb most_links c.links.result c.if-links-ge-MOST_LINKS.false in
    let unspent = sym c.indexes_are_spent.ensures ∙ c.if-indexes_are_spent.true in
    link_refused run c.args.old.now c.args.new.now c.args.dir c.requires.free false false false false true TooLarge absent met other few unspent refl

pub returns-then-is_crowded-clause-done : goal.returns-then-is_crowded-clause-done
returns-then-is_crowded-clause-done c =
    let run : RunSub = sub_view c.args.self.now in
    let names : List FlatName = run.sub.names in
    let from : WalkEnd = walk run.sub c.args.old.now in
    let absent = sym (c.is_absent.ensures names from c.requires.from) ∙ c.if-is_absent.false in
    let met = sym (c.is_blocked.ensures names from c.requires.from) ∙ c.if-is_blocked.false in
    let other = sym (c.is_dir_there.ensures names from c.requires.from) ∙ c.if-is_dir_there.false in
    let few : nat_le most_links (links_of names (Rattle.std.specs.Option.unwrap_or (Rattle.flat_model.specs.Walk.ino_at from) 0)) ≡ false = ap (λ k. nat_le most_links (links_of names k)) (sym (c.ino-ino.ensures names from c.requires.from)) ∙ ap (nat_le most_links) (sym c.links.ensures) ∙ lt-leb most_links c.links.result c.if-links-ge-MOST_LINKS.false in
    let unspent = sym c.indexes_are_spent.ensures ∙ c.if-indexes_are_spent.false in
    link_collides run c.args.old.now c.args.new.now c.args.dir c.requires.free absent met other few unspent c.in_ok-last_name.field-0 c.ino-ino.result c.in_ok-near.near (list_view c.in_ok-list.list) (list_view c.make.new.self) (c.ino-ino.ensures names from c.requires.from) c.in_ok-last_name.ensures c.in_ok-list.ensures.same c.in_ok-near.ensures.near c.in_ok-near.ensures.added (sym c.is_crowded.ensures ∙ c.if-is_crowded.true)

pub returns-clause-done : goal.returns-clause-done
returns-clause-done c =
    let run : RunSub = sub_view c.args.self.now in
    let names : List FlatName = run.sub.names in
    let from : WalkEnd = walk run.sub c.args.old.now in
    let absent = sym (c.is_absent.ensures names from c.requires.from) ∙ c.if-is_absent.false in
    let met = sym (c.is_blocked.ensures names from c.requires.from) ∙ c.if-is_blocked.false in
    let other = sym (c.is_dir_there.ensures names from c.requires.from) ∙ c.if-is_dir_there.false in
    let few : nat_le most_links (links_of names (Rattle.std.specs.Option.unwrap_or (Rattle.flat_model.specs.Walk.ino_at from) 0)) ≡ false = ap (λ k. nat_le most_links (links_of names k)) (sym (c.ino-ino.ensures names from c.requires.from)) ∙ ap (nat_le most_links) (sym c.links.ensures) ∙ lt-leb most_links c.links.result c.if-links-ge-MOST_LINKS.false in
    let unspent = sym c.indexes_are_spent.ensures ∙ c.if-indexes_are_spent.false in
    let before = c.args.self.now in
    let dir_indexes = ap from_entries c.reserve.ensures.items in
    link_finishes run c.args.old.now c.args.new.now c.args.dir c.requires.free absent met other few unspent c.in_ok-last_name.field-0 c.ino-ino.result c.in_ok-near.near (list_view c.in_ok-list.list) (list_view c.make.new.self) (c.ino-ino.ensures names from c.requires.from) c.in_ok-last_name.ensures c.in_ok-list.ensures.same c.in_ok-near.ensures.near c.in_ok-near.ensures.added (sym c.is_crowded.ensures ∙ c.if-is_crowded.false) _ (sub_view c.settle.new.self)
    (λ i. record { sub = run.sub; numbers = record { last_ino = before.last_ino; last_index = before.last_index; dir_indexes = dir_indexes i } })
    c.settle.ensures.view
