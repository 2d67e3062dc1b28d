use Rattle.std.proofs.Common.{◌≡◌, ◌++◌, List, ℕ, Option, Some, None, sym, ap, ◌∙◌, codes}
use Rattle.std.specs.Borrow.{Bor}
use Rattle.std.specs.Option.{unwrap_or}
use Rattle.current_view.specs.View.{seen}
use Rattle.flat_model.specs.declared.view.Kind.TheVariants.{Link}
use Rattle.flat_model.specs.Records.{kind_of}
use Rattle.io_edge.specs.Printed.{printed}
use Rattle.io_edge.proofs.Texts.{on_ok, joined}
use Rattle.item_inode.specs.Inode.{inode_view}
use Rattle.tree_range.specs.Between.{data_view}
use Rattle.inode_shown.proofs.Shown.{target_is}
use Rattle.inode_shown.proofs.line.put_target.Goals as goal

lent_target : (lent : Option (Bor (List ℕ))) (default : Bor (List ℕ)) (target : List ℕ) → data_view lent ≡ Some target → (unwrap_or lent default).now ≡ target
lent_target None default target is = absurd cc
lent_target (Some bytes) default target is = cc

pub returns-in_ok-push-in-Link : goal.returns-in_ok-push-in-Link
returns-in_ok-push-in-Link c = λ inode is.
    let sub = seen c.args.table.now c.args.tree.now in
    let old = c.args.text.now.items in
    let kind : kind_of inode ≡ Link = sym (c.kind_told.ensures inode is.mode) ∙ c.in-Link.is in
    let shown = target_is sub c.args.ino inode (inode_view c.args.item.now) c.unwrap_or.result.now is kind
    (λ link there. ap (λ (b : Bor (List ℕ)). b.now) c.unwrap_or.ensures ∙ lent_target c.target_of.result _ link.target (c.target_of.ensures sub link c.requires.gives there)) in
    on_ok c.push_printed.result (λ more. joined _ _ _ (codes " ") (printed c.unwrap_or.result.now) c.in_ok-push-in-Link.ensures.items more ∙ ap (λ (l : List ℕ). old ++ l) shown) c.push_printed.ensures
