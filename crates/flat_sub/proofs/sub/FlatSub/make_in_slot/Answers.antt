use Rattle.std.proofs.Common.{ℕ, ◌+◌, ◌||◌, sym, ap, ◌∙◌}
use Rattle.std.specs.FinMap.{from_entries, insert}
use Rattle.flat_model.specs.Volume.{RunSub}
use Rattle.flat_model.specs.Operations.{indexes_are_spent}
use Rattle.flat_sub.specs.Lists.{list_view}
use Rattle.flat_sub.specs.View.{sub_view}
use Rattle.flat_sub.proofs.Makings.{make_spent, make_collides, make_finishes}
use Rattle.flat_sub.proofs.sub.FlatSub.make_in_slot.Goals as goal

pub returns-then-inos_are_spent-clause-done : goal.returns-then-inos_are_spent-clause-done
returns-then-inos_are_spent-clause-done c =
    let run : RunSub = sub_view c.args.self.now in
    let spent = sym c.inos_are_spent.ensures ∙ c.if-inos_are_spent.true in
    make_spent run c.args.path.now c.args.inode c.args.dir c.requires.free (ap (λ b. b || indexes_are_spent run.numbers) spent)

pub returns-then-indexes_are_spent-clause-done : goal.returns-then-indexes_are_spent-clause-done
returns-then-indexes_are_spent-clause-done c =
    let run : RunSub = sub_view c.args.self.now in
    let inos = sym c.inos_are_spent.ensures ∙ c.if-inos_are_spent.false in
    let indexes = sym c.indexes_are_spent.ensures ∙ c.if-indexes_are_spent.true in
    make_spent run c.args.path.now c.args.inode c.args.dir c.requires.free (ap (λ b. b || indexes_are_spent run.numbers) inos ∙ indexes)

pub returns-then-is_crowded-clause-done : goal.returns-then-is_crowded-clause-done
returns-then-is_crowded-clause-done c =
    let run : RunSub = sub_view c.args.self.now in
    let inos = sym c.inos_are_spent.ensures ∙ c.if-inos_are_spent.false in
    let indexes = sym c.indexes_are_spent.ensures ∙ c.if-indexes_are_spent.false in
    let unspent = ap (λ b. b || indexes_are_spent run.numbers) inos ∙ indexes in
    make_collides run c.args.path.now c.args.inode c.args.dir c.requires.free unspent c.in_ok-last_name.field-0 c.in_ok-near.near (list_view c.in_ok-list.list) (list_view c.make.new.self) c.in_ok-last_name.ensures c.in_ok-list.ensures.same c.in_ok-near.ensures.near c.in_ok-near.ensures.added
    (sym c.is_crowded.ensures ∙ c.if-is_crowded.true)

pub returns-clause-done : goal.returns-clause-done
returns-clause-done c =
    let before = c.args.self.now in
    let run : RunSub = sub_view before in
    let inos = sym c.inos_are_spent.ensures ∙ c.if-inos_are_spent.false in
    let indexes = sym c.indexes_are_spent.ensures ∙ c.if-indexes_are_spent.false in
    let unspent = ap (λ b. b || indexes_are_spent run.numbers) inos ∙ indexes in
    let ino : ℕ = before.last_ino + 1 in
    let inodes = c.put_entry.ensures.map ∙ ap (λ es. insert (from_entries es) ino c.args.inode) c.reserve.ensures.items in
    let dir_indexes = ap from_entries c.reserve-2.ensures.items in
    make_finishes run c.args.path.now c.args.inode c.args.dir c.requires.free unspent c.in_ok-last_name.field-0 c.in_ok-near.near (list_view c.in_ok-list.list) (list_view c.make.new.self) c.in_ok-last_name.ensures c.in_ok-list.ensures.same c.in_ok-near.ensures.near c.in_ok-near.ensures.added
    (sym c.is_crowded.ensures ∙ c.if-is_crowded.false) _ (sub_view c.settle.new.self)
    (λ i. record { sub = record { inodes = inodes i; names = run.sub.names }; numbers = record { last_ino = c.max-self.ensures i; last_index = before.last_index; dir_indexes = dir_indexes i } })
    c.settle.ensures.view
