use Rattle.std.proofs.Common.{◌≡◌, ◌∙◌, ◌≤◌, ℕ, length, refl, sym, ap, subst, arith}
use Rattle.std.specs.Prelude.{vec_capacity}
use Rattle.block_table.specs.Table.{Table}
use Rattle.table_commit.specs.Commit.{AreReleasable, AreReleased, NoneOut, addresses_of, allowed_in, settled, with_each}
use Rattle.commit_blocks.proofs.Back.{backed}
use Rattle.commit_blocks.proofs.Ends.{ended_now, is_ended_now}
use Rattle.commit_blocks.proofs.Finishing.{finish_keeps, finish_let_go, finish_reached, mid_current, mid_root, noted_ready}
use Rattle.commit_blocks.proofs.Settling.{back_none, settled_size}
use Rattle.commit_blocks.proofs.kept.Kept.finish.Goals as goal

pub settle_sealed-requires : goal.settle_sealed-requires
settle_sealed-requires c =
    let has = c.requires.has in
    subst NoneOut (sym c.put_back.ensures) (back_none c.args.self.now has.0 has.1 has.2 has.3 c.args.list c.requires.list)

pub release_noted-requires-clause-ready : goal.release_noted-requires-clause-ready
release_noted-requires-clause-ready c =
    let has = c.requires.has in
    let table : c.settle_sealed.new.table ≡ with_each settled (backed c.args.self.now.table c.args.list.pairs) = c.settle_sealed.ensures ∙ ap (λ (t : Table). with_each settled t) c.put_back.ensures in
    subst (λ (t : Table). AreReleasable t (addresses_of c.args.self.now.let_go.items)) (sym table) (noted_ready c.args.self.now has.0 has.1 has.2 has.3 c.args.list c.requires.list c.requires.running.0 c.requires.running.1)

pub let_go_tree-requires-clause-tree : goal.let_go_tree-requires-clause-tree
let_go_tree-requires-clause-tree c =
    let has = c.requires.has in
    let noted = addresses_of c.args.self.now.let_go.items in
    let table : c.settle_sealed.new.table ≡ with_each settled (backed c.args.self.now.table c.args.list.pairs) = c.settle_sealed.ensures ∙ ap (λ (t : Table). with_each settled t) c.put_back.ensures in
    let released : AreReleased (with_each settled (backed c.args.self.now.table c.args.list.pairs)) c.release_noted.new.table noted (allowed_in (length c.settle_sealed.new.table.slots) noted) = subst (λ (t : Table). AreReleased t c.release_noted.new.table noted (allowed_in (length c.settle_sealed.new.table.slots) noted)) table c.release_noted.ensures.blocks in
    mid_root c.args.self.now has.0 has.1 has.2 has.3 c.args.list c.requires.list c.in-Some.root (sym c.in-Some.ensures.value) c.release_noted.new.table _ released

pub let_go_tree-requires-clause-current : goal.let_go_tree-requires-clause-current
let_go_tree-requires-clause-current c =
    let has = c.requires.has in
    let noted = addresses_of c.args.self.now.let_go.items in
    let table : c.settle_sealed.new.table ≡ with_each settled (backed c.args.self.now.table c.args.list.pairs) = c.settle_sealed.ensures ∙ ap (λ (t : Table). with_each settled t) c.put_back.ensures in
    let released : AreReleased (with_each settled (backed c.args.self.now.table c.args.list.pairs)) c.release_noted.new.table noted (allowed_in (length c.settle_sealed.new.table.slots) noted) = subst (λ (t : Table). AreReleased t c.release_noted.new.table noted (allowed_in (length c.settle_sealed.new.table.slots) noted)) table c.release_noted.ensures.blocks in
    mid_current c.args.self.now has.0 has.1 has.2 has.3 c.args.list c.requires.list c.in-Some.root (sym c.in-Some.ensures.value) c.release_noted.new.table _ released

pub returns-clause-rest : goal.returns-clause-rest
returns-clause-rest c =
    let has = c.requires.has in
    let table : c.settle_sealed.new.table ≡ with_each settled (backed c.args.self.now.table c.args.list.pairs) = c.settle_sealed.ensures ∙ ap (λ (t : Table). with_each settled t) c.put_back.ensures in
    let size : length c.settle_sealed.new.table.slots ≡ length c.args.self.now.table.slots = ap (λ (t : Table). length t.slots) table ∙ settled_size c.args.self.now has.0 has.1 has.2 has.3 c.args.list c.requires.list in
    let spare : c.settle_sealed.new.table.spare ≡ c.args.self.now.table.spare = ap (λ (t : Table). t.spare) table in
    record {
      size = c.let_go_tree.ensures.size ∙ c.release_noted.ensures.blocks.size ∙ size;
      spare = let one = c.release_noted.ensures.blocks.spare in let two = c.let_go_tree.ensures.spare in omega (arith, one, two, spare);
      fsid = refl;
      generation = refl;
      states = refl;
      sealed = c.take.ensures.after;
    }

pub returns-clause-keeps : goal.returns-clause-keeps
returns-clause-keeps c image run scene next keeps written ended =
    let old = c.args.self.now in
    let noted = addresses_of old.let_go.items in
    let table : c.settle_sealed.new.table ≡ with_each settled (backed old.table c.args.list.pairs) = c.settle_sealed.ensures ∙ ap (λ (t : Table). with_each settled t) c.put_back.ensures in
    let released : AreReleased (with_each settled (backed old.table c.args.list.pairs)) c.release_noted.new.table noted (allowed_in (length (with_each settled (backed old.table c.args.list.pairs)).slots) noted) = subst (λ (t : Table). AreReleased t c.release_noted.new.table noted (allowed_in (length t.slots) noted)) table c.release_noted.ensures.blocks in
    let capacity : length old.table.slots ≤ vec_capacity c.release_noted.new.noted = subst (λ (n : ℕ). length old.table.slots ≤ n) (sym c.release_noted.ensures.room) keeps.found.capacity in
    finish_keeps old image run scene keeps c.args.list c.requires.list c.in-Some.root (sym c.in-Some.ensures.value) c.release_noted.new.table _ released _ next ended (returns-clause-rest c) c.let_go_tree.ensures written refl refl refl c.release_noted.ensures.noted capacity

pub returns-clause-let_go : goal.returns-clause-let_go
returns-clause-let_go c =
    let has = c.requires.has in
    let old = c.args.self.now in
    let noted = addresses_of old.let_go.items in
    let table : c.settle_sealed.new.table ≡ with_each settled (backed old.table c.args.list.pairs) = c.settle_sealed.ensures ∙ ap (λ (t : Table). with_each settled t) c.put_back.ensures in
    let released : AreReleased (with_each settled (backed old.table c.args.list.pairs)) c.release_noted.new.table noted (allowed_in (length (with_each settled (backed old.table c.args.list.pairs)).slots) noted) = subst (λ (t : Table). AreReleased t c.release_noted.new.table noted (allowed_in (length t.slots) noted)) table c.release_noted.ensures.blocks in
    finish_let_go old has.0 has.1 has.2 has.3 c.args.list c.requires.list c.in-Some.root (sym c.in-Some.ensures.value) c.release_noted.new.table _ released _ (ended_now has.2) (is_ended_now has.2) (returns-clause-rest c) c.let_go_tree.ensures refl

pub returns-clause-reached : goal.returns-clause-reached
returns-clause-reached c image run scene keeps written commit there at gone =
    let old = c.args.self.now in
    let noted = addresses_of old.let_go.items in
    let table : c.settle_sealed.new.table ≡ with_each settled (backed old.table c.args.list.pairs) = c.settle_sealed.ensures ∙ ap (λ (t : Table). with_each settled t) c.put_back.ensures in
    let released : AreReleased (with_each settled (backed old.table c.args.list.pairs)) c.release_noted.new.table noted (allowed_in (length (with_each settled (backed old.table c.args.list.pairs)).slots) noted) = subst (λ (t : Table). AreReleased t c.release_noted.new.table noted (allowed_in (length t.slots) noted)) table c.release_noted.ensures.blocks in
    let capacity : length old.table.slots ≤ vec_capacity c.release_noted.new.noted = subst (λ (n : ℕ). length old.table.slots ≤ n) (sym c.release_noted.ensures.room) keeps.found.capacity in
    finish_reached old image run scene keeps c.args.list c.requires.list c.in-Some.root (sym c.in-Some.ensures.value) c.release_noted.new.table _ released _ (ended_now scene) (is_ended_now scene) (returns-clause-rest c) c.let_go_tree.ensures written refl refl refl c.release_noted.ensures.noted capacity commit there at gone
