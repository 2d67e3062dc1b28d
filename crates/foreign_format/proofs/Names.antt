-- The answer of the program's test of a name is the one of the definition's test.
use Rattle.std.proofs.Common.{◌≡◌, ◌↔◌, IsTrue, ℕ, Bool, List}
use Rattle.std.proofs.lemmas.Bool.Decides.{same_from_decides}
use Rattle.blk_base.specs.Name.{IsName, is_name}
use Rattle.blk_base.proofs.NameLemmas.{is_name_decides}

pub is_name_same : (answer : Bool) (bytes : List ℕ) → (IsTrue answer ↔ IsName bytes) → answer ≡ is_name bytes
is_name_same answer bytes h = same_from_decides answer (is_name bytes) (h.0, h.1) (is_name_decides bytes)
