use Rattle.std.proofs.Common.{◌≡◌, ◌++◌, ◌∷◌, [], ◌∙◌, ap, sym, cond, codes, true, false}
use Rattle.io_edge.specs.Printed.{hex_pair, is_plain, printed_byte}
use Rattle.io_edge.proofs.Texts.{on_ok, joined}
use Rattle.io_edge.proofs.printed.push_byte.Goals as goal

pub returns-then-is_plain : goal.returns-then-is_plain
unfolding printed_byte
returns-then-is_plain c =
    let byte = c.args.byte in
    let is : is_plain byte ≡ true = sym c.is_plain.ensures ∙ c.if-is_plain.true in
    c.in_ok-push.ensures.items ∙ ap (λ b. c.args.text.now.items ++ cond b (byte ∷ []) (codes "\\x" ++ hex_pair byte)) (sym is)

pub returns : goal.returns
unfolding printed_byte
returns c =
    let byte = c.args.byte in
    let is : is_plain byte ≡ false = sym c.is_plain.ensures ∙ c.if-is_plain.false in
    on_ok c.push_hex.result (λ more. joined _ _ _ (codes "\\x") (hex_pair byte) c.in_ok-extend_from_slice.ensures.items more ∙ ap (λ b. c.args.text.now.items ++ cond b (byte ∷ []) (codes "\\x" ++ hex_pair byte)) (sym is)) c.push_hex.ensures
