use Rattle.std.proofs.Common.{◌≡◌, drop, length}
use Rattle.script_text.specs.Parts.{bytes_of}
use Rattle.script_text.specs.Paths.{all_names}
use Rattle.script_text.proofs.LineLemmas.{with_names}
use Rattle.script_text.proofs.path.all_names.Given as goal

abbrev pub invariant-loop-piece : goal.invariant-loop-piece
invariant-loop-piece l = record {
  count : length l.names.items ≡ l.piece-index;
  all : with_names l.names.items (all_names (drop l.piece-index (bytes_of l.pieces))) ≡ all_names (bytes_of l.pieces);
}
