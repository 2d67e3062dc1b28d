-- The words of bytes of which there are some.
use Rattle.std.proofs.Common.{◌≡◌, ◌↔◌, ℕ, Bool, IsTrue, true, false, List, [], ◌∷◌, ◌++◌, codes, refl, sym, ◌∙◌}
use Rattle.io_edge.specs.Printed.{printed}
use Rattle.script_answer.specs.Words.{bytes_words}

pub words_some : (bytes : List ℕ) (empty : Bool) → (IsTrue empty ↔ (bytes ≡ [])) → empty ≡ false → codes "ok " ++ printed bytes ≡ bytes_words bytes
words_some [] empty says is = let no : false ≡ true = sym is ∙ says.1 refl in cc
words_some (byte ∷ bytes) empty says is = refl
