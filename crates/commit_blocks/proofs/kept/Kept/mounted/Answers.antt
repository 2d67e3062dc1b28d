use Rattle.std.proofs.Common.{◌≤◌, subst}
use Rattle.std.specs.Prelude.{ℕ, vec_capacity}
use Rattle.commit_blocks.proofs.MountKept.{is_kept, mount_let_go}
use Rattle.commit_blocks.proofs.kept.Kept.mounted.Goals as goal

pub returns-clause-keeps : goal.returns-clause-keeps
returns-clause-keeps c =
    let made = c.in_ok-let_go.ensures in
    is_kept c.args.mounted c.requires.ready.0 c.requires.ready.1 c.let_go_tree.new.table c.let_go_tree.ensures c.in_ok-let_go.let_go made.items
    (subst (λ (n : ℕ). n ≤ vec_capacity c.in_ok-let_go.let_go) c.blocks-2.ensures made.capacity)

pub returns-clause-let_go : goal.returns-clause-let_go
returns-clause-let_go c =
    let made = c.in_ok-let_go.ensures in
    mount_let_go c.args.mounted c.requires.ready.0 c.requires.ready.1 c.let_go_tree.new.table c.let_go_tree.ensures c.in_ok-let_go.let_go made.items
    (subst (λ (n : ℕ). n ≤ vec_capacity c.in_ok-let_go.let_go) c.blocks-2.ensures made.capacity)
