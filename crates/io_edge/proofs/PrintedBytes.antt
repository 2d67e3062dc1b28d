-- Bytes as they are printed.
use Rattle.std.proofs.Common.{◌≡◌, ℕ, ◌/◌, ◌%◌, true, false, cond, [], ◌∷◌, ◌++◌, codes, sym, ap, ◌∙◌}
use Rattle.std.specs.Fmt.{digit_glyph}
use Rattle.io_edge.specs.Printed.{hex_pair, is_plain, printed_byte}

pub printed_plain : (byte : ℕ) → is_plain byte ≡ true → byte ∷ [] ≡ printed_byte byte
unfolding printed_byte
printed_plain byte is = ap (λ b. cond b (byte ∷ []) (codes "\\x" ++ hex_pair byte)) (sym is)

pub printed_escaped : (byte high low : ℕ) → is_plain byte ≡ false → high ≡ digit_glyph false (byte / 16) → low ≡ digit_glyph false (byte % 16) → 92 ∷ 120 ∷ high ∷ low ∷ [] ≡ printed_byte byte
unfolding printed_byte
printed_escaped byte high low is first second = (λ i. 92 ∷ 120 ∷ first i ∷ second i ∷ []) ∙ ap (λ b. cond b (byte ∷ []) (codes "\\x" ++ hex_pair byte)) (sym is)
