use Rattle.std.proofs.Common.{◌≤◌, sym, subst}
use Rattle.flat_record.proofs.Limits.{xattr_is}
use Rattle.flat_record.proofs.attributes.AttributeTable.do_fit.Goals as goal

pub returns : goal.returns
returns c =
    let is = xattr_is c.self.inside.entries.items c.args.self.now c.self.invariant c.self.view_is in
    (λ t hash. subst (λ n. n ≤ 3970) (sym (is hash)) (c.do_fit.ensures.0 t hash), λ all. c.do_fit.ensures.1 (λ hash. subst (λ n. n ≤ 3970) (is hash) (all hash)))
