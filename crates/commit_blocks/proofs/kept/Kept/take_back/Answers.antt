use Rattle.std.proofs.Common.{◌≡◌, ◌∙◌, ◌≤◌, ℕ, length, refl, sym, ap, subst, arith}
use Rattle.block_table.specs.Table.{Table}
use Rattle.table_commit.specs.Commit.{AreLetGo, NoneOut, unsealed, with_each}
use Rattle.tree_frame.specs.Frame.{AreCurrent}
use Rattle.tree_range.specs.Shape.{IsTree, tree_reach}
use Rattle.commit_blocks.proofs.Back.{backed}
use Rattle.commit_blocks.proofs.Ends.{ended_now, is_ended_now}
use Rattle.commit_blocks.proofs.Settling.{back_none}
use Rattle.commit_blocks.proofs.TakenBack.{back_current, back_let_go, back_root, taken_back_keeps, unsealed_size}
use Rattle.commit_blocks.proofs.kept.Kept.take_back.Goals as goal

pub unseal_sealed-requires : goal.unseal_sealed-requires
unseal_sealed-requires c =
    let has = c.requires.has in
    subst NoneOut (sym c.put_back.ensures) (back_none c.args.self.now has.0 has.1 has.2 has.3 c.args.list c.requires.list)

pub let_go_tree-requires-clause-tree : goal.let_go_tree-requires-clause-tree
let_go_tree-requires-clause-tree c =
    let has = c.requires.has in
    let table : c.unseal_sealed.new.table ≡ with_each unsealed (backed c.args.self.now.table c.args.list.pairs) = c.unseal_sealed.ensures ∙ ap (λ (t : Table). with_each unsealed t) c.put_back.ensures in
    subst (λ (t : Table). IsTree t c.in-Some.root) (sym table) (back_root c.args.self.now has.0 has.1 has.2 has.3 c.args.list c.requires.list c.in-Some.root (sym c.in-Some.ensures.value))

pub let_go_tree-requires-clause-current : goal.let_go_tree-requires-clause-current
let_go_tree-requires-clause-current c =
    let has = c.requires.has in
    let table : c.unseal_sealed.new.table ≡ with_each unsealed (backed c.args.self.now.table c.args.list.pairs) = c.unseal_sealed.ensures ∙ ap (λ (t : Table). with_each unsealed t) c.put_back.ensures in
    subst (λ (t : Table). AreCurrent t (tree_reach t c.in-Some.root)) (sym table) (back_current c.args.self.now has.0 has.1 has.2 has.3 c.args.list c.requires.list c.in-Some.root (sym c.in-Some.ensures.value))

pub returns-clause-rest : goal.returns-clause-rest
returns-clause-rest c =
    let has = c.requires.has in
    let table : c.unseal_sealed.new.table ≡ with_each unsealed (backed c.args.self.now.table c.args.list.pairs) = c.unseal_sealed.ensures ∙ ap (λ (t : Table). with_each unsealed t) c.put_back.ensures in
    let size : length c.unseal_sealed.new.table.slots ≡ length c.args.self.now.table.slots = ap (λ (t : Table). length t.slots) table ∙ unsealed_size c.args.self.now has.0 has.1 has.2 has.3 c.args.list c.requires.list c.in-Some.root (sym c.in-Some.ensures.value) in
    let spare : c.unseal_sealed.new.table.spare ≡ c.args.self.now.table.spare = ap (λ (t : Table). t.spare) table in
    record {
      size = c.let_go_tree.ensures.size ∙ size;
      spare = let two = c.let_go_tree.ensures.spare in omega (arith, two, spare);
      fsid = refl;
      generation = refl;
      states = refl;
      sealed = c.take.ensures.after;
    }

pub returns-clause-keeps : goal.returns-clause-keeps
returns-clause-keeps c image run scene next keeps untried ended =
    let old = c.args.self.now in
    let table : c.unseal_sealed.new.table ≡ with_each unsealed (backed old.table c.args.list.pairs) = c.unseal_sealed.ensures ∙ ap (λ (t : Table). with_each unsealed t) c.put_back.ensures in
    let let_go : AreLetGo (with_each unsealed (backed old.table c.args.list.pairs)) c.let_go_tree.new.table (tree_reach (with_each unsealed (backed old.table c.args.list.pairs)) c.in-Some.root) = subst (λ (t : Table). AreLetGo t c.let_go_tree.new.table (tree_reach t c.in-Some.root)) table c.let_go_tree.ensures in
    taken_back_keeps old image run scene keeps c.args.list c.requires.list c.in-Some.root (sym c.in-Some.ensures.value) _ next ended (returns-clause-rest c) let_go untried refl refl c.clear.ensures.items (subst (λ (n : ℕ). length old.table.slots ≤ n) (sym c.clear.ensures.capacity) keeps.found.capacity)

pub returns-clause-let_go : goal.returns-clause-let_go
returns-clause-let_go c =
    let has = c.requires.has in
    let old = c.args.self.now in
    let table : c.unseal_sealed.new.table ≡ with_each unsealed (backed old.table c.args.list.pairs) = c.unseal_sealed.ensures ∙ ap (λ (t : Table). with_each unsealed t) c.put_back.ensures in
    let let_go : AreLetGo (with_each unsealed (backed old.table c.args.list.pairs)) c.let_go_tree.new.table (tree_reach (with_each unsealed (backed old.table c.args.list.pairs)) c.in-Some.root) = subst (λ (t : Table). AreLetGo t c.let_go_tree.new.table (tree_reach t c.in-Some.root)) table c.let_go_tree.ensures in
    back_let_go old has.0 has.1 has.2 has.3 c.args.list c.requires.list c.in-Some.root (sym c.in-Some.ensures.value) _ (ended_now has.2) (is_ended_now has.2) (returns-clause-rest c) let_go
