use Rattle.std.proofs.Common.{◌∙◌, sym, ap, Some}
use Rattle.flat_model.proofs.Maps.{some_same}
use Rattle.flat_volume.proofs.volume.FlatVolume.same_record.Goals as goal

pub returns-in-Some-Some : goal.returns-in-Some-Some
returns-in-Some-Some c = (
  λ t. record {
    inode = c.in-Some-Some.one.now;
    here = sym c.in-Some-Some.ensures;
    there = sym c.in-Some-Some.ensures' ∙ ap Some (sym (c.is_same.ensures.0 t));
  },
  λ same. c.is_same.ensures.1 (some_same c.in-Some-Some.one.now c.in-Some-Some.two.now (c.in-Some-Some.ensures ∙ same.here ∙ sym same.there ∙ sym c.in-Some-Some.ensures')),
)
