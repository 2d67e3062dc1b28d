use Rattle.std.proofs.Common.{Some, sym, ap, ◌∙◌}
use Rattle.std.specs.Option.{option_map}
use Rattle.flat_model.specs.Names.{FlatName}
use Rattle.name_walk.proofs.slots.slot_ino.Goals as goal

pub returns-in-Some : goal.returns-in-Some
returns-in-Some c = λ sub given.
    let is = c.in-Some.ensures sub given in
    ap Some (sym is.is.leads) ∙ sym (ap (option_map (λ (there : FlatName). there.ino)) is.is.there)

pub returns-in-None : goal.returns-in-None
returns-in-None c = λ sub given. sym (ap (option_map (λ (there : FlatName). there.ino)) (c.in-None.ensures sub given))
