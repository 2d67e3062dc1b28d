-- The counts of the names so far.
use Rattle.std.proofs.Common.{◌≡◌, ℕ, take, count_by}
use Rattle.std.specs.BTreeMap.{get}
use Rattle.std.specs.Option.{unwrap_or}
use Rattle.std.specs.Ordering.{nat_cmp}
use Rattle.flat_model.specs.Names.{leads_to}
use Rattle.coherent_names.specs.Names.{flat_names}
use Rattle.coherent_sums.proofs.links.links_of.Given as goal

abbrev pub invariant-loop-name : goal.invariant-loop-name
invariant-loop-name l = (ino : ℕ) → unwrap_or (get nat_cmp l.counts ino) 0 ≡ count_by (leads_to ino) (flat_names (take l.name-index l.names))
