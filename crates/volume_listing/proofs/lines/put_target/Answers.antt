use Rattle.std.proofs.Common.{◌++◌, List, ℕ, sym, ap, ◌∙◌, codes, append-nil}
use Rattle.io_edge.specs.Printed.{printed}
use Rattle.io_edge.proofs.Texts.{on_ok, joined}
use Rattle.volume_listing.proofs.Shown.{target_none, target_some}
use Rattle.volume_listing.proofs.lines.put_target.Goals as goal

pub returns-in_ok-push-in-Some : goal.returns-in_ok-push-in-Some
returns-in_ok-push-in-Some c =
    let old = c.args.text.now.items in
    let target = c.in-Some.target.now in
    let is = target_some c.args.inode.now target c.in-Some.ensures in
    on_ok c.put_text.result (λ more. joined _ _ _ (codes " ") (printed target) c.in_ok-push-in-Some.ensures.items more ∙ ap (λ (l : List ℕ). old ++ l) (sym is)) c.put_text.ensures

pub returns-in-None : goal.returns-in-None
returns-in-None c = sym (append-nil _) ∙ ap (λ (l : List ℕ). c.args.text.now.items ++ l) (sym (target_none c.args.inode.now c.in-None.ensures))
