use Rattle.std.proofs.Common.{◌≤◌, sym, subst}
use Rattle.flat_model.specs.Lengths.{xattr_item_length}
use Rattle.flat_record.proofs.Limits.{attributes_seen}
use Rattle.flat_record.proofs.record.Inode.attributes_fit.Goals as goal

pub returns : goal.returns
returns c =
    let is = attributes_seen c.self.inside.attributes c.self.inside.contents c.args.self.now c.self.view_is in
    (λ t hash. subst (λ m. xattr_item_length m hash ≤ 3970) (sym is) (c.do_fit.ensures.0 t hash), λ all. c.do_fit.ensures.1 (λ hash. subst (λ m. xattr_item_length m hash ≤ 3970) is (all hash)))
