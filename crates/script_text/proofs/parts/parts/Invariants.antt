use Rattle.std.proofs.Common.{◌≡◌, ◌≤◌, ◌++◌, eqb, length}
use Rattle.std.specs.List.{position_or_len}
use Rattle.script_text.specs.Parts.{bytes_of}
use Rattle.script_text.specs.Words.{parts_at}
use Rattle.script_text.proofs.parts.parts.Given as goal

abbrev pub invariant-loop-end : goal.invariant-loop-end
invariant-loop-end l = record {
  end_is : l.end ≡ position_or_len (λ byte. eqb byte l.at) l.rest;
  short : length l.rest ≤ length l.bytes;
  all : bytes_of l.parts.items ++ parts_at l.at l.rest ≡ parts_at l.at l.bytes;
}

abbrev pub decreases-loop-end : goal.decreases-loop-end
decreases-loop-end l = length l.rest
