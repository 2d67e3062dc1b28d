use Rattle.std.proofs.Common.{◌≡◌, arith}
use Rattle.coherent.proofs.content.has_right_content.Goals as goal

pub returns-in-1-clause-sound : goal.returns-in-1-clause-sound
returns-in-1-clause-sound c = λ blocks h. record {
  numbers = λ kind. (c.has_right_numbers.ensures blocks).0 h;
  own_ref = λ kind. absurd (omega arith);
  hashed = λ kind. absurd (omega arith);
  indexed = λ kind. absurd (omega arith);
  values = λ kind. absurd (omega arith);
  extent = λ kind. absurd (omega arith);
}

pub returns-in-1-clause-complete : goal.returns-in-1-clause-complete
returns-in-1-clause-complete c = λ blocks size right. (c.has_right_numbers.ensures blocks).1 (right.numbers (let is : c.args.key.now.kind ≡ 1 = omega arith in is))

pub returns-in-108-clause-complete : goal.returns-in-108-clause-complete
returns-in-108-clause-complete c = λ blocks has right.
    let kind : c.args.key.now.kind ≡ 108 = omega arith in
    let size = has kind in
    (c.is_right_extent.ensures size.0 size.1 size.2).1 (right.extent kind size.0 size.1 size.2)
