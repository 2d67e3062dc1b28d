use Rattle.std.proofs.Common.{◌≡◌, ◌&&◌, filter, take, nat_eq}
use Rattle.blk_base.specs.Crc.{name_hash_of}
use Rattle.flat_volume.proofs.flat_view.hashed_in.Given as goal

abbrev pub invariant-loop-at : goal.invariant-loop-at
invariant-loop-at l = l.found.items ≡ filter (λ at. nat_eq at.dir.0 l.dir.0 && nat_eq (name_hash_of at.name) l.hash) (take l.at-index l.names.items)
