-- Which answers an operation may give, and which of them refuse it.
use Rattle.std.specs.Prelude.{Bool, true, false}
use Rattle.flat_model.specs.declared.answer.Answer.{Answer}
use Rattle.flat_model.specs.declared.answer.Answer.TheVariants.{Plain, Number, Bytes, Xdev, NoEnt, NotDir, IsDir, Exists, NotEmpty, Loop, Links, TooLarge, NoAttr, Collide}

-- an answer that refuses an operation (own)
abbrev pub is_refusal : Answer → Bool
is_refusal Xdev = true
is_refusal NoEnt = true
is_refusal NotDir = true
is_refusal IsDir = true
is_refusal Exists = true
is_refusal NotEmpty = true
is_refusal Loop = true
is_refusal Links = true
is_refusal TooLarge = true
is_refusal NoAttr = true
is_refusal Collide = true
is_refusal answer = false

-- an answer that says that an operation was done (own)
abbrev pub is_done : Answer → Bool
is_done Plain = true
is_done (Number number) = true
is_done (Bytes bytes) = true
is_done answer = false
