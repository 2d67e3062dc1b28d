use Rattle.std.proofs.Common.{◌≡◌, ◌∙◌, ◌≤◌, ℕ, Some, length, refl, sym, ap, subst, arith}
use Rattle.std.specs.Prelude.{vec_capacity}
use Rattle.block_table.specs.Table.{Table}
use Rattle.table_commit.specs.Commit.{AreLetGo, NoneOut, settled, with_each}
use Rattle.tree_frame.specs.Frame.{AreCurrent}
use Rattle.tree_range.specs.Shape.{IsTree, tree_reach}
use Rattle.block_table.specs.declared.tree.Tree.{Tree}
use Rattle.commit_blocks.specs.Steps.{AreLetGoBehind, released_by}
use Rattle.commit_blocks.proofs.Back.{backed}
use Rattle.commit_blocks.proofs.Ends.{ended_now, is_ended_now}
use Rattle.commit_blocks.proofs.Settling.{back_none, settled_size}
use Rattle.commit_blocks.proofs.TriedSteps.{first_let_go, first_keeps, tried_current, tried_root}
use Rattle.commit_blocks.proofs.kept.Kept.keep_first.Goals as goal

pub settle_sealed-requires : goal.settle_sealed-requires
settle_sealed-requires c =
    let has = c.requires.has in
    subst NoneOut (sym c.put_back.ensures) (back_none c.args.self.now has.0 has.1 has.2 has.3 c.args.list c.requires.list)

pub let_go_tree-requires-clause-tree : goal.let_go_tree-requires-clause-tree
let_go_tree-requires-clause-tree c =
    let has = c.requires.has in
    let table : c.settle_sealed.new.table ≡ with_each settled (backed c.args.self.now.table c.args.list.pairs) = c.settle_sealed.ensures ∙ ap (λ (t : Table). with_each settled t) c.put_back.ensures in
    subst (λ (t : Table). IsTree t c.in-Some.root) (sym table) (tried_root c.args.self.now has.0 has.1 has.2 has.3 c.args.list c.requires.list c.in-Some.root (sym c.in-Some.ensures.value))

pub let_go_tree-requires-clause-current : goal.let_go_tree-requires-clause-current
let_go_tree-requires-clause-current c =
    let has = c.requires.has in
    let table : c.settle_sealed.new.table ≡ with_each settled (backed c.args.self.now.table c.args.list.pairs) = c.settle_sealed.ensures ∙ ap (λ (t : Table). with_each settled t) c.put_back.ensures in
    subst (λ (t : Table). AreCurrent t (tree_reach t c.in-Some.root)) (sym table) (tried_current c.args.self.now has.0 has.1 has.2 has.3 c.args.list c.requires.list c.in-Some.root (sym c.in-Some.ensures.value))

pub returns-clause-rest : goal.returns-clause-rest
returns-clause-rest c =
    let has = c.requires.has in
    let table : c.settle_sealed.new.table ≡ with_each settled (backed c.args.self.now.table c.args.list.pairs) = c.settle_sealed.ensures ∙ ap (λ (t : Table). with_each settled t) c.put_back.ensures in
    let size : length c.settle_sealed.new.table.slots ≡ length c.args.self.now.table.slots = ap (λ (t : Table). length t.slots) table ∙ settled_size c.args.self.now has.0 has.1 has.2 has.3 c.args.list c.requires.list in
    let spare : c.settle_sealed.new.table.spare ≡ c.args.self.now.table.spare = ap (λ (t : Table). t.spare) table in
    record {
      size = c.let_go_tree.ensures.size ∙ size;
      spare = let two = c.let_go_tree.ensures.spare in omega (arith, two, spare);
      fsid = refl;
      generation = refl;
      states = refl;
      sealed = c.take.ensures.after;
    }

pub returns-clause-keeps : goal.returns-clause-keeps
returns-clause-keeps c image run scene next keeps failed ended =
    let old = c.args.self.now in
    let table : c.settle_sealed.new.table ≡ with_each settled (backed old.table c.args.list.pairs) = c.settle_sealed.ensures ∙ ap (λ (t : Table). with_each settled t) c.put_back.ensures in
    let let_go : AreLetGo (with_each settled (backed old.table c.args.list.pairs)) c.let_go_tree.new.table (tree_reach (with_each settled (backed old.table c.args.list.pairs)) c.in-Some.root) = subst (λ (t : Table). AreLetGo t c.let_go_tree.new.table (tree_reach t c.in-Some.root)) table c.let_go_tree.ensures in
    let capacity : length old.table.slots ≤ vec_capacity c.clear.new.self = subst (λ (n : ℕ). length old.table.slots ≤ n) (sym c.clear.ensures.capacity) keeps.found.capacity in
    first_keeps old image run scene keeps c.args.list c.requires.list c.in-Some.root (sym c.in-Some.ensures.value) c.let_go_tree.new.table let_go _ next ended (returns-clause-rest c) refl c.requires.first failed refl refl c.clear.ensures.items capacity

pub returns-clause-let_go : goal.returns-clause-let_go
returns-clause-let_go c root is =
    let has = c.requires.has in
    let old = c.args.self.now in
    let table : c.settle_sealed.new.table ≡ with_each settled (backed old.table c.args.list.pairs) = c.settle_sealed.ensures ∙ ap (λ (t : Table). with_each settled t) c.put_back.ensures in
    let let_go : AreLetGo (with_each settled (backed old.table c.args.list.pairs)) c.let_go_tree.new.table (tree_reach (with_each settled (backed old.table c.args.list.pairs)) c.in-Some.root) = subst (λ (t : Table). AreLetGo t c.let_go_tree.new.table (tree_reach t c.in-Some.root)) table c.let_go_tree.ensures in
    let capacity : length old.table.slots ≤ vec_capacity c.clear.new.self = subst (λ (n : ℕ). length old.table.slots ≤ n) (sym c.clear.ensures.capacity) has.3.found.capacity in
    let same : c.in-Some.root ≡ root = same_tree_of c.in-Some.root root (c.in-Some.ensures.value ∙ is) in
    subst (λ (t : Tree). AreLetGoBehind old.table c.let_go_tree.new.table (tree_reach c.let_go_tree.new.table t) (released_by old old.failed)) same
    (first_let_go old has.0 has.1 has.2 has.3 c.args.list c.requires.list c.in-Some.root (sym c.in-Some.ensures.value) c.let_go_tree.new.table let_go _ (ended_now has.2) (is_ended_now has.2) (returns-clause-rest c) refl c.requires.first has.4 refl refl c.clear.ensures.items capacity)
  where
    same_tree_of : (one two : Tree) → Some one ≡ Some two → one ≡ two
    same_tree_of one two e = cc
