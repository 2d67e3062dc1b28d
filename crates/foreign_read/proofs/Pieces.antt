-- Texts of several pieces.
use Rattle.std.proofs.Common.{◌≡◌, ◌++◌, List, [], ◌∷◌, ℕ, sym, ◌∙◌, append-nil, append_assoc}
use Rattle.std.specs.List.{concat}

-- pieces behind a text, one after the other
abbrev pub behind : List ℕ → List (List ℕ) → List ℕ
behind text [] = text
behind text (piece ∷ pieces) = behind (text ++ piece) pieces

pub behind_is : (text : List ℕ) (pieces : List (List ℕ)) → behind text pieces ≡ text ++ concat pieces
behind_is text [] = sym (append-nil text)
behind_is text (piece ∷ pieces) = behind_is (text ++ piece) pieces ∙ append_assoc text piece (concat pieces)
