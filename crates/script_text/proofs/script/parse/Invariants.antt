use Rattle.std.proofs.Common.{◌≡◌, ◌+◌, ◌≤◌, length}
use Rattle.script_text.specs.Script.{lines_of, script_from, script_of}
use Rattle.script_text.proofs.LineLemmas.{with_lines}
use Rattle.script_text.proofs.script.parse.Given as goal

abbrev pub invariant-loop-rest : goal.invariant-loop-rest
invariant-loop-rest l = record {
  few : l.number ≤ 65536;
  all : with_lines l.lines.items (script_from (l.number + 1) (lines_of l.rest)) ≡ script_of l.bytes;
}

abbrev pub decreases-loop-rest : goal.decreases-loop-rest
decreases-loop-rest l = length l.rest
