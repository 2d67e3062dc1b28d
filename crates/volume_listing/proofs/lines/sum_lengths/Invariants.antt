use Rattle.std.proofs.Common.{◌≡◌, ◌≤◌, ◌*◌, take, length, nat_eq}
use Rattle.std.specs.List.{filter, sum_by}
use Rattle.flat_model.specs.declared.view.NameAt.{NameAt}
use Rattle.volume_listing.proofs.lines.sum_lengths.Given as goal

abbrev pub invariant-loop-at : goal.invariant-loop-at
invariant-loop-at l = record {
  is : l.sum ≡ sum_by (λ (at : NameAt). length at.name) (filter (λ (at : NameAt). nat_eq at.dir.0 l.dir) (take l.at-index l.names.items));
  most : l.sum ≤ 255 * l.at-index;
}
