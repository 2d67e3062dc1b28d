use Rattle.std.proofs.Common.{◌≡◌, ◌*◌, sym, ap, ◌∙◌}
use Rattle.flat_model.specs.declared.view.Kind.TheVariants.{Dir}
use Rattle.flat_model.specs.Records.{kind_of}
use Rattle.flat_sub.specs.View.{sub_view}
use Rattle.volume_listing.proofs.Shown.{size_dir, lengths_view}
use Rattle.volume_listing.proofs.lines.size_shown.Goals as goal

pub returns-in-Dir : goal.returns-in-Dir
returns-in-Dir c =
    let sub = c.args.sub.now in
    let dir : kind_of c.args.inode.now ≡ Dir = cc (c.kind.ensures, c.in-Dir.is) in
    ap (λ n. 2 * n) (c.sum_lengths.ensures.value ∙ sym (lengths_view c.args.ino sub.names.items sub.near.items c.requires.marked))
    ∙ sym (size_dir (sub_view sub).sub c.args.ino c.args.inode.now dir)
