-- Where nothing is there, no block goes.
use Rattle.std.proofs.Common.{◌≡◌, Option, None, sym, ap, ◌∙◌}
use Rattle.flat_model.specs.Needs.{blocks_past}
use Rattle.flat_model.specs.Operations.{file_there}
use Rattle.flat_model.specs.Records.{InodeRecord}
use Rattle.flat_model.specs.Walk.{ino_at, record_at, walk}
use Rattle.operation_needs.proofs.Inodes.{none_past}
use Rattle.operation_needs.proofs.Places.{no_record}
use Rattle.operation_needs.proofs.counted.past_at.Goals as goal

pub returns-in-None-clause-count : goal.returns-in-None-clause-count
returns-in-None-clause-count c = λ sub given.
    let none : record_at sub (walk sub c.args.path.now) ≡ None = no_record sub (walk sub c.args.path.now) (c.in-None.ensures ∙ ap ino_at (c.walk.ensures.end sub given)) in
    none_past c.args.size ∙ sym (ap (λ (o : Option InodeRecord). blocks_past (file_there o) c.args.size) none)
