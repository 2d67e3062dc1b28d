-- Where nothing is there, an attribute would have its item alone.
use Rattle.std.proofs.Common.{◌≡◌, Option, None, sym, ap, ◌∙◌}
use Rattle.flat_model.specs.Needs.{items_with}
use Rattle.flat_model.specs.Operations.{attributes_there}
use Rattle.flat_model.specs.Records.{InodeRecord}
use Rattle.flat_model.specs.Walk.{ino_at, record_at, walk}
use Rattle.operation_needs.proofs.Places.{no_record}
use Rattle.operation_needs.proofs.With.{alone_there}
use Rattle.operation_needs.proofs.counted.items_at.Goals as goal

pub returns-in-None-clause-count : goal.returns-in-None-clause-count
returns-in-None-clause-count c = λ sub given.
    let none : record_at sub (walk sub c.args.path.now) ≡ None = no_record sub (walk sub c.args.path.now) (c.in-None.ensures ∙ ap ino_at (c.walk.ensures.end sub given)) in
    alone_there c.args.name.now ∙ sym (ap (λ (o : Option InodeRecord). items_with (attributes_there o) c.args.name.now) none)
