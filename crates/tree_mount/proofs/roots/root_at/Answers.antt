use Rattle.std.proofs.Common.{◌≡◌, ◌<◌, ◌++◌, ◌∷◌, [], ℕ, true, length, Ok, sym, ap, ◌∙◌, arith}
use Rattle.blk_base.specs.declared.key.Want.{Want}
use Rattle.volume_format.specs.Views.{root_view, super_view}
use Rattle.volume_image.specs.Roots.{sub_want}
use Rattle.tree_mount.specs.Roots.{is_root_key, sub_id}
use Rattle.tree_mount.proofs.RootItems.{next_root, other_size}
use Rattle.tree_mount.proofs.roots.root_at.Goals as goal

pub returns-in-Ok : goal.returns-in-Ok
returns-in-Ok c = λ found long.
    let few : length found < 16 = let test = c.if-place.false in omega arith in
    let id : c.sub_id-id.result ≡ sub_id (length found) = c.sub_id-id.ensures ∙ ap sub_id (sym long) in
    let key : is_root_key c.args.key.now (sub_id (length found)) ≡ true = ap (is_root_key c.args.key.now) (sym id) ∙ sym c.is_root_key.ensures ∙ c.if-not-is_root_key.false in
    let want : c.sub_want.result ≡ sub_want (super_view c.args.superblock.now) (sub_id (length found)) (root_view c.in-Ok.root) = c.sub_want.ensures ∙ ap (λ (n : ℕ). sub_want (super_view c.args.superblock.now) n (root_view c.in-Ok.root)) id in
    ap (λ (w : Want). Ok (found ++ w ∷ [])) want ∙ next_root (super_view c.args.superblock.now) found (c.args.key.now, c.args.bytes.now) (root_view c.in-Ok.root) few key c.in-Ok.ensures

pub returns-in-Err : goal.returns-in-Err
returns-in-Err c = λ found long.
    let few : length found < 16 = let test = c.if-place.false in omega arith in
    let id : c.sub_id-id.result ≡ sub_id (length found) = c.sub_id-id.ensures ∙ ap sub_id (sym long) in
    let key : is_root_key c.args.key.now (sub_id (length found)) ≡ true = ap (is_root_key c.args.key.now) (sym id) ∙ sym c.is_root_key.ensures ∙ c.if-not-is_root_key.false in
    other_size (super_view c.args.superblock.now) found (c.args.key.now, c.args.bytes.now) c.in-Err.field-0 few key c.in-Err.ensures
