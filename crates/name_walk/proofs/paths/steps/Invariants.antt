-- The names so far lead there, and each of them is a name.
use Rattle.std.proofs.Common.{take}
use Rattle.std.specs.Prelude.{All}
use Rattle.flat_model.specs.Coherent.{IsNameBytes}
use Rattle.flat_model.specs.Volume.{Subvolume}
use Rattle.flat_model.specs.Walk.{walk}
use Rattle.name_walk.specs.Given.{GivesCoherent}
use Rattle.name_walk.specs.Leads.{IsStep}
use Rattle.name_walk.proofs.paths.steps.Given as goal

abbrev pub invariant-loop-name : goal.invariant-loop-name
invariant-loop-name l = record {
  leads : (sub : Subvolume) → GivesCoherent l.table l.tree sub → IsStep sub (walk sub (take l.name-index l.names)) l.step;
  spelled : All IsNameBytes (take l.name-index l.names);
}
