use Rattle.std.proofs.Common.{◌++◌, ◌/◌, ◌%◌}
use Rattle.io_edge.specs.Printed.{hex_pair, hex8}
use Rattle.io_edge.proofs.Texts.{joined, joined_ok}
use Rattle.io_edge.proofs.printed.push_sum.Goals as goal

pub returns : goal.returns
unfolding hex8
returns c =
    let sum = c.args.sum in
    let a = hex_pair (sum / 16777216) in
    let b = hex_pair (sum / 65536 % 256) in
    let d = hex_pair (sum / 256 % 256) in
    joined_ok c.push_hex-4.result _ _ _ (a ++ b ++ d) (hex_pair (sum % 256)) (joined _ _ _ (a ++ b) d (joined _ _ _ a b c.in_ok-push_hex.ensures c.in_ok-push_hex-2.ensures) c.in_ok-push_hex-3.ensures) c.push_hex-4.ensures
