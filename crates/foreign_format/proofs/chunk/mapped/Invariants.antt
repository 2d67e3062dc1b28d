use Rattle.std.proofs.Common.{◌≡◌, [], All, drop}
use Rattle.foreign_format.specs.Chunks.{IsOnDisk, in_row}
use Rattle.foreign_format.proofs.chunk.mapped.Given as goal

abbrev pub invariant-loop-row : goal.invariant-loop-row
invariant-loop-row l = record {
  rest : in_row l.disk_size 0 [] l.rows ≡ in_row l.disk_size l.end l.chunks.items (drop l.row-index l.rows);
  on_disk : All (IsOnDisk l.disk_size) l.chunks.items;
}
